-- The conditions of the judgement told by single columns: nothing is multiplied out.
--
--   Square d M               d columns, with rows below d
--   Squares n D              the matrices of a representation on n generators are of its degree
--   same_at x y               two entries with exponents below the modulus are equal
--   power_at, commutator_at    the relations at a column
--   intertwines_at            an intertwiner at a column
use Rattle.std.specs.Prelude.{◌≡◌, Bool, ◌&&◌, ℕ, suc, ◌<◌, eqb, length}
use Rattle.definitions.specs.declared.Entry.{Entry}
use Rattle.definitions.specs.Lists.{iter}
use Rattle.definitions.specs.Presentation.{Presentation}
use Rattle.definitions.specs.Monomial.{Matrix, entry, col, act, Rep}
use Rattle.formulas.specs.Formulas.{walk}

pub record Square (d : ℕ) (M : Matrix) : Type 0 where
  pub size : length M ≡ d
  pub inside : (c : ℕ) → c < d → (col M c).row < d

pub record Squares (n : ℕ) (D : Rep) : Type 0 where
  pub each : (g : ℕ) → g < n → Square D.deg (D.matrix g)

unfoldable pub same_at : Entry → Entry → Bool
same_at x y = eqb x.row y.row && eqb x.exp y.exp

module _ (P : Presentation) (m : ℕ) (D : Rep) where
  -- generator j to the power of its prime, and its power word
  unfoldable pub power_at : (j c : ℕ) → Bool
  power_at j c = same_at (iter (act m (D.matrix j)) (P.p j) (entry c 0)) (walk m D.matrix j (P.u j) (entry c 0))

  -- column c moved by j⁻¹ k j, for generators k < j
  unfoldable pub conjugate_at : (k j c : ℕ) → Entry
  conjugate_at k j c = act m (D.matrix k) (walk m D.matrix (suc k) (P.w k j) (entry c 0))

  unfoldable pub commutator_at : (k j c : ℕ) → Bool
  commutator_at k j c = same_at (act m (D.matrix k) (act m (D.matrix j) (entry c 0))) (act m (D.matrix j) (conjugate_at k j c))

  -- the intertwiner of generator j to F, and generator k
  unfoldable pub intertwines_at : (F : Rep) (k j c : ℕ) → Bool
  intertwines_at F k j c = same_at (act m (D.matrix j) (conjugate_at k j c)) (act m (F.matrix k) (act m (D.matrix j) (entry c 0)))
