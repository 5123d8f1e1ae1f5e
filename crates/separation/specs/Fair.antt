-- A level of any table on its own generators: valid matrices that satisfy the relations.
--
--   Fair P m i L      the representations L of level i are well formed (21) and their relations hold (22)
use Rattle.std.specs.Prelude.{◌≡◌, true, ℕ, ◌<◌, length}
use Rattle.definitions.specs.Presentation.{Presentation, power}
use Rattle.definitions.specs.Monomial.{col, product, matrices, same_matrix, Level, rep_of, image, conjugate}

pub record Fair (P : Presentation) (m i : ℕ) (L : Level) : Type 0 where
  pub degree_pos : (r : ℕ) → r < length L → 0 < (rep_of L r).deg
  pub size : (r k : ℕ) → r < length L → k < i → length ((rep_of L r).matrix k) ≡ (rep_of L r).deg
  pub row_below : (r k c : ℕ) → r < length L → k < i → c < (rep_of L r).deg → (col ((rep_of L r).matrix k) c).row < (rep_of L r).deg
  pub exp_below : (r k c : ℕ) → r < length L → k < i → c < (rep_of L r).deg → (col ((rep_of L r).matrix k) c).exp < m
  pub powers : (r j : ℕ) → r < length L → j < i
      → same_matrix m (power (matrices m (rep_of L r).deg) ((rep_of L r).matrix j) (P.p j)) (image m (rep_of L r) j (P.u j)) ≡ true
  pub commutators : (r k j : ℕ) → r < length L → k < j → j < i
      → same_matrix m (product m ((rep_of L r).matrix k) ((rep_of L r).matrix j)) (product m ((rep_of L r).matrix j) (conjugate m P (rep_of L r) k j)) ≡ true
