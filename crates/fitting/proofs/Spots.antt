-- Columns of a level that fits, moved through its matrices.
--
--   same-exp                   entries that are the same have one exponent
--   scalar                     the power of the root that a generator from i on adds in a block
--   spot u k z, spot-exp       the entry in block k of representation u above a basis index with an exponent
--   first-spot                 the first column of a block
--   column-low, column-high    a column of a generator below i, and from i on
--   act-spot                   a matrix whose column is known moves an entry of that column
--   walk-spot                  through a word of the level below
--   turn-spot                  through generator i, again and again
use mathlib.Core.Path.{◌≡◌, refl, sym, ◌∙◌, ap, ap₂, subst}
use mathlib.Core.Bool.{true}
use Prim.Native.Nat.{ℕ, zero, suc, ◌+◌, ◌*◌, ◌%◌, ◌≤◌, ◌<◌}
use native.Mathlib.Nat.{add-mod-mod}
use native.Mathlib.Omega.{arith}
use native.Mathlib.Decide.{dec_lt}
use lib.Dec.{eqb}
use borrow.Author.Tests.{eqb-true}
use Rattle.definitions.specs.declared.Entry.{Entry}
use Rattle.definitions.specs.Lists.{iter}
use Rattle.definitions.specs.Presentation.{NF, power, value}
use Rattle.definitions.specs.Monomial.{Matrix, entry, col, act, rep_of}
use Rattle.formulas.specs.Formulas as Fm
use Rattle.numbers.proofs.Bools.{and_right}
use Rattle.numbers.proofs.Lists.{iter-zero}
use Rattle.numbers.proofs.Iterates.{iter-out}
use Rattle.group.specs.Context.{Context, Nf}
use Rattle.group.proofs.Values.{power_zero, power-suc, value-zero, value-suc}
use Rattle.group.proofs.Level.{level, gen_nf}
use Rattle.group.proofs.Group.{group}
use Rattle.monomial.specs.Exponents.{total, Residue}
use Rattle.monomial.specs.Maps.{Map, maps}
use Rattle.monomial.proofs.Exponents.{lcomm, total-zero, total-suc}
use Rattle.monomial.proofs.Maps.{pair, at-column, at_mul, at_one}
use Rattle.monomial.proofs.Residues.{residues, add-value, nil-value, residue, residue-value}
use Rattle.monomial.proofs.Schur.{rep-power}
use Rattle.monomial.proofs.Frames.{entry-path}
use Rattle.columns.specs.Columns.{same_at}
use Rattle.clifford.proofs.Numbering.{P, N, τ, S, first_of-column}
use Rattle.clifford.proofs.Defect.{X-maps}
use Rattle.clifford.proofs.Extensions.{E, first}
use Rattle.fitting.specs.Fits.{scalar_of}
use Rattle.fitting.proofs.Parts.{Fitted, Up, fit, count, width, part, to, turn, part_below, turns-below, part-iter}

pub same-exp : (x y : Entry) → same_at x y ≡ true → x.exp ≡ y.exp
unfolding same_at
same-exp x y q = eqb-true x.exp y.exp (and_right (eqb x.row y.row) (eqb x.exp y.exp) q)

module _ (W : Fitted) where
  open W use {R, High}
  open W.R use {T, m, pos, i, L, Ω, F, stands}
  open W.R.stands use {column, column_below}
  open residues W.R.m W.R.pos use {add, nil}

  abbrev C : Context
  C = T.context

  infixl 70 ◌*'◌
  open level W.R.T.context W.R.i use {mul as ◌*'◌}

  -- what generator g adds in block k to the exponents below
  unfoldable pub scalar : Up W → (g k : ℕ) → Residue W.R.m
  scalar u g k = residue m pos (scalar_of (P R) T.n m i L High u.0 (fit W u).cut g k)

  -- the column of block k above a basis index, with an exponent
  unfoldable pub spot : Up W → ℕ → W.R.Ω × Residue W.R.m → Entry
  spot u k z = entry (k * width W u + column z.0) z.1.0

  pub spot-exp : (u : Up W) (k : ℕ) (z : W.R.Ω × Residue W.R.m) → (spot u k z).exp ≡ z.1.0
  unfolding spot
  spot-exp u k z = refl

  pub first-spot : (u : Up W) (k : ℕ) → spot u k (first W.R (part W u k), (residues W.R.m W.R.pos).nil) ≡ entry (k * width W u) 0
  unfolding spot
  first-spot u k = entry-path (ap (λ c. k * width W u + c) (first_of-column R (part W u k) (dec_lt (part W u k) (N R))) ∙ omega arith) (nil-value m pos)

  -- a number added to a residue
  plus-value : (x : Residue m) (s : ℕ) → (x.0 + s) % m ≡ (add x (residue m pos s)).0
  plus-value x s = sym (add-value m pos x (residue m pos s) ∙ ap (λ a. (x.0 + a) % m) (residue-value m pos s) ∙ add-mod-mod x.0 s m)

  -- ---- Columns

  module _ (u : Up W) (k : ℕ) (l : k < count W u) (a : W.R.Ω) (e : W.R.F.rep a ≡ part W u k) where
    pub column-width : W.R.stands.column a < width W u
    column-width = subst (λ z. column a < z) (ap (λ r. (rep_of L r).deg) e ∙ (fit W u).cut.part_degree k l) (column_below a)

    pub column-low : (g : ℕ) → g < W.R.i
        → col ((rep_of W.High u.0).matrix g) (k * width W u + W.R.stands.column a) ≡ spot u k (W.R.F.d (gen_nf W.R.T.context W.R.i g) a)
    unfolding spot
    column-low g h =
        (fit W u).cut.acts g h k (column a) l column-width
        ∙ ap (λ (y : Entry). entry (k * width W u + y.row) y.exp) ((stands.represents g h (part W u k) (part_below W u k l)).shown a e)

    pub column-high : (g : ℕ) → W.R.i ≤ g → g < W.R.T.n → col ((rep_of W.High u.0).matrix g) (k * width W u + W.R.stands.column a)
        ≡ spot u (to W u g k) ((W.R.F.X g a).0, (E W.R).add (W.R.F.X g a).1 (scalar u g k))
    unfolding spot to scalar
    column-high g ig gn =
        let t : ℕ = scalar_of (P R) T.n m i L High u.0 (fit W u).cut g k in
        (fit W u).shifts g k (column a) ig gn l column-width
        ∙ ap (λ (y : Entry). entry (to W u g k * width W u + y.row) ((y.exp + t) % m))
        ((stands.intertwines g ig gn (part W u k) (part_below W u k l)).shown a e)
        ∙ ap (entry (to W u g k * width W u + column (F.X g a).0)) (plus-value (F.X g a).1 t)

  -- exponents add up
  pub act-spot : (u : Up W) (M : Matrix) (k k' : ℕ) (a b : W.R.Ω) (x y : Residue W.R.m)
      → col M (k * width W u + W.R.stands.column a) ≡ spot u k' (b, y)
      → act W.R.m M (spot u k (a, x)) ≡ spot u k' (b, (E W.R).add y x)
  unfolding act spot
  act-spot u M k k' a b x y e =
      ap (λ (z : Entry). entry z.row ((z.exp + x.0) % m)) e ∙ ap (entry (k' * width W u + column b)) (sym (add-value m pos y x))

  module _ (u : Up W) (k : ℕ) (l : k < count W u) (a : W.R.Ω) (e : W.R.F.rep a ≡ part W u k) where
    abbrev M : ℕ → Matrix
    M = (rep_of High u.0).matrix

    -- ---- Words

    abbrev at : Nf C i → Entry
    at y = spot u k (F.d y a)

    low-act : (g : ℕ) → g < i → (y : Nf C i) → act m (M g) (at y) ≡ at (gen_nf C i g *' y)
    low-act g h y =
        act-spot u (M g) k k (F.d y a).0 _ (F.d y a).1 _ (column-low u k l (F.d y a).0 (F.inside y a ∙ e) g h)
        ∙ ap (spot u k) (sym (at-column (E R) (F.hom.on_mul (gen_nf C i g) y) a ∙ at_mul (E R) (F.d (gen_nf C i g)) (F.d y) a))

    low-power : (g : ℕ) → g < i → (y : Nf C i) (n : ℕ) → iter (act m (M g)) n (at y) ≡ at (power (level C i) (gen_nf C i g) n *' y)
    low-power g h y zero =
        iter-zero (act m (M g)) (at y) ∙ ap at (sym (ap (λ s. s *' y) (power_zero (level C i) (gen_nf C i g)) ∙ (S R).laws.idl y))
    low-power g h y (suc n) =
        iter-out (act m (M g)) n (at y) ∙ ap (act m (M g)) (low-power g h y n) ∙ low-act g h (power (level C i) (gen_nf C i g) n *' y)
        ∙ ap at (sym ((S R).laws.assoc (gen_nf C i g) (power (level C i) (gen_nf C i g) n) y)
        ∙ ap (λ s. s *' y) (sym (power-suc (level C i) (gen_nf C i g) n)))

    walk-value : (j : ℕ) → j ≤ i → (w : NF j) → Fm.walk m M j w (spot u k (a, nil)) ≡ at (value (level C i) (gen_nf C i) j w)
    unfolding Fm.walk
    walk-value zero h w =
        ap (spot u k) (sym (at-column (E R) (ap F.d (value-zero (level C i) (gen_nf C i) w) ∙ F.hom.on_one) a ∙ at_one (E R) a))
    walk-value (suc j) h w =
        ap (iter (act m (M j)) w.0) (walk-value j (omega arith) w.1) ∙ low-power j (omega arith) (value (level C i) (gen_nf C i) j w.1) w.0
        ∙ ap at (sym (value-suc (level C i) (gen_nf C i) j w))

    pub walk-spot : (x : Nf W.R.T.context W.R.i)
        → Fm.walk W.R.m (rep_of W.High u.0).matrix W.R.i x.0 (spot u k (a, (residues W.R.m W.R.pos).nil)) ≡ spot u k (W.R.F.d x a)
    walk-spot x = walk-value i (omega arith) x.0 ∙ ap at ((group T i (omega (arith, R.in_range))).gen_value x)

    -- ---- Generator i

    abbrev X : Map (E R) Ω
    X = F.X i

    abbrev pow : ℕ → Map (E R) Ω
    pow = power (maps (E R) Ω) X

    pub power-rep : (n : ℕ) → W.R.F.rep (power (maps (E W.R) W.R.Ω) (W.R.F.X W.R.i) n a).0 ≡ part W u (iter (turn W u) n k)
    power-rep n = rep-power F (τ R) X (X-maps (S R) F) n a ∙ ap (iter (τ R) n) e ∙ sym (part-iter W u k n l)

    abbrev turned : ℕ → Residue m → Ω × Residue m
    turned n x = ((pow n a).0, add (add (total (E R) (λ l. scalar u i (iter (turn W u) l k)) n) (pow n a).1) x)

    regroup : (t x s v y : Residue m) → add (add x t) (add (add s v) y) ≡ add (add (add t s) (add x v)) y
    regroup t x s v y = simp ((E R).assoc, (E R).comm, lcomm (E R))

    -- the scalars add up along the way
    pub turn-spot : (x : Residue W.R.m) (n : ℕ) → iter (act W.R.m ((rep_of W.High u.0).matrix W.R.i)) n (spot u k (a, x))
        ≡ spot u (iter (turn W u) n k) (
          (power (maps (E W.R) W.R.Ω) (W.R.F.X W.R.i) n a).0,
          (E W.R).add ((E W.R).add (total (E W.R) (λ l. scalar u W.R.i (iter (turn W u) l k)) n)
              (power (maps (E W.R) W.R.Ω) (W.R.F.X W.R.i) n a).1) x,
        )
    turn-spot x zero =
        iter-zero (act m (M i)) (spot u k (a, x))
        ∙ ap₂ (spot u) (sym (iter-zero (turn W u) k)) (sym (ap₂ (λ (z : Ω × Residue m) s. (z.0, add (add s z.1) x)) none (total-zero (E R) _)
        ∙ pair (E R) refl (ap (λ s. add s x) ((E R).idl nil) ∙ (E R).idl x)))
      where
        none : pow 0 a ≡ (a, nil)
        none = at-column (E R) (power_zero (maps (E R) Ω) X) a ∙ at_one (E R) a
    turn-spot x (suc n) =
        let b : Ω = (pow n a).0 in
        let k' : ℕ = iter (turn W u) n k in
        iter-out (act m (M i)) n (spot u k (a, x)) ∙ ap (act m (M i)) (turn-spot x n)
        ∙ act-spot u (M i) k' (turn W u k') b _ (turned n x).1 _ (column-high u k' (turns-below W u k n l) b (power-rep n) i (omega arith) R.in_range)
        ∙ ap₂ (spot u) (sym (iter-out (turn W u) n k)) (pair (E R) (ap (λ z. z.0) (sym more))
        (regroup _ _ _ _ _ ∙ ap₂ (λ s (z : Ω × Residue m). add (add s z.1) x) (sym (total-suc (E R) (λ l. scalar u i (iter (turn W u) l k)) n)) (sym more)))
      where
        more : pow (suc n) a ≡ ((X (pow n a).0).0, add (X (pow n a).0).1 (pow n a).1)
        more = at-column (E R) (power-suc (maps (E R) Ω) X n) a ∙ at_mul (E R) X (pow n) a
