-- Powers of monomial matrices with signed exponents.
--
--   act-forward, act-back            a power moves an entry as so many turns of the matrix do, or of its inverse
--   signed-zero, signed-one, signed_back      exponents 0, 1 and -1: the identity, the matrix, its inverse
--   signed-monomial, signed-valid    powers are monomial; of a valid matrix, valid
--   signed_add                       a sum of exponents is a product of powers
--   signed-cancel                    opposite exponents are inverse to each other
--   row-turned                       the basis index after so many turns
--   turned-back                      turns of the inverse undo those of the matrix
use mathlib.Core.Path.{◌≡◌, refl, sym, ◌∙◌, ap, subst}
use mathlib.Core.Bool.{true}
use Prim.Native.Nat.{ℕ, zero, suc, ◌<◌}
use lib.IntN.{ℤ, pos, negsuc, suc_ℤ, pred_ℤ, neg_ℤ, ◌+ℤ◌, suc-pred, suc_ℤ-+ℤ, pred_ℤ-+ℤ, +ℤ_idl, +ℤ_invr}
use Rattle.definitions.specs.declared.Entry.{Entry}
use Rattle.definitions.specs.Lists.{iter}
use Rattle.definitions.specs.Presentation.{power}
use Rattle.definitions.specs.Monomial.{Matrix, entry, col, identity, act, product, inverse, matrices, signed_power, valid}
use Rattle.numbers.proofs.Lists.{iter-zero, iter-suc, iter-map}
use Rattle.numbers.proofs.Iterates.{iter-out}
use Rattle.group.proofs.Values.{power_zero, power-suc}
use Rattle.columns.proofs.Columns.{In, act-in, act-product, act-power, iter-in}
use Rattle.columns.proofs.Inverses.{Monomial, valid-monomial, monomial-valid, monomial-path, identity-monomial, product-monomial}
use Rattle.columns.proofs.Inverses.{inverse-monomial, inverse_left, inverse-right}

module _ (m : ℕ) (positive : 0 < m) (d : ℕ) {M : Matrix} (A : Monomial m d M) where
  abbrev to : ℤ → Matrix
  to = signed_power m d M

  abbrev N : Matrix
  N = inverse m M

  abbrev B : Monomial m d (inverse m M)
  B = inverse-monomial m positive d A

  -- ---- Powers are monomial

  power-monomial : {L : Matrix} → Monomial m d L → (k : ℕ) → Monomial m d (power (matrices m d) L k)
  power-monomial {L} C zero = subst (Monomial m d) (sym (power_zero (matrices m d) L)) (identity-monomial m positive d)
  power-monomial {L} C (suc k) = subst (Monomial m d) (sym (power-suc (matrices m d) L k)) (product-monomial m positive d C (power-monomial C k))

  pub signed-monomial : (k : ℤ) → Monomial m d (signed_power m d M k)
  unfolding signed_power
  signed-monomial (pos k) = power-monomial A k
  signed-monomial (negsuc k) = power-monomial B (suc k)

  -- ---- Entries moved

  pub act-forward : (k : ℕ) (y : Entry) → In d m y → act m (signed_power m d M (pos k)) y ≡ iter (act m M) k y
  unfolding signed_power
  act-forward k y l = act-power m positive d A.square k y l

  pub act-back : (k : ℕ) (y : Entry) → In d m y → act m (signed_power m d M (negsuc k)) y ≡ iter (act m (inverse m M)) (suc k) y
  unfolding signed_power
  act-back k y l = act-power m positive d B.square (suc k) y l

  signed-in : (k : ℤ) (y : Entry) → In d m y → In d m (act m (to k) y)
  signed-in k y l = act-in m positive d (signed-monomial k).square y l.row

  -- an exponent one more, or one less
  act-suc : (k : ℤ) (y : Entry) → In d m y → act m (to (suc_ℤ k)) y ≡ act m M (act m (to k) y)
  act-suc (pos k) y l = act-forward (suc k) y l ∙ iter-out (act m M) k y ∙ ap (act m M) (sym (act-forward k y l))
  act-suc (negsuc zero) y l =
      act-forward 0 y l ∙ iter-zero (act m M) y ∙ sym (inverse-right m positive d A y l)
      ∙ ap (act m M) (sym (act-back 0 y l ∙ iter-suc (act m N) 0 y ∙ iter-zero (act m N) (act m N y)))
  act-suc (negsuc (suc k)) y l =
      act-back k y l ∙ sym (inverse-right m positive d A _ (iter-in m positive d B.square (suc k) y l))
      ∙ ap (act m M) (sym (act-back (suc k) y l ∙ iter-out (act m N) (suc k) y))

  act-pred : (k : ℤ) (y : Entry) → In d m y → act m (to (pred_ℤ k)) y ≡ act m N (act m (to k) y)
  act-pred k y l =
      sym (inverse_left m positive d A _ (signed-in (pred_ℤ k) y l))
      ∙ ap (act m N) (sym (act-suc (pred_ℤ k) y l) ∙ ap (λ z. act m (to z) y) (suc-pred k))

  abbrev Adds : ℤ → Type 0
  Adds j = (k : ℤ) (y : Entry) → In d m y → act m (to (j +ℤ k)) y ≡ act m (to j) (act m (to k) y)

  add-zero : Adds (pos 0)
  add-zero k y l = let h = signed-in k y l in ap (λ z. act m (to z) y) (+ℤ_idl k) ∙ sym (act-forward 0 _ h ∙ iter-zero (act m M) _)

  add-suc : (j : ℤ) → Adds j → Adds (suc_ℤ j)
  add-suc j h k y l =
      ap (λ z. act m (to z) y) (suc_ℤ-+ℤ j k) ∙ act-suc (j +ℤ k) y l ∙ ap (act m M) (h k y l) ∙ sym (act-suc j _ (signed-in k y l))

  add-pred : (j : ℤ) → Adds j → Adds (pred_ℤ j)
  add-pred j h k y l =
      ap (λ z. act m (to z) y) (pred_ℤ-+ℤ j k) ∙ act-pred (j +ℤ k) y l ∙ ap (act m N) (h k y l) ∙ sym (act-pred j _ (signed-in k y l))

  act-add : (j : ℤ) → Adds j
  act-add (pos j) = up j
    where
      up : (j : ℕ) → Adds (pos j)
      up zero = add-zero
      up (suc j) = add-suc (pos j) (up j)
  act-add (negsuc j) = down j
    where
      down : (j : ℕ) → Adds (negsuc j)
      down zero = add-pred (pos 0) add-zero
      down (suc j) = add-pred (negsuc j) (down j)

  -- ---- Laws of powers

  column : (c : ℕ) → c < d → In d m (entry c 0)
  column c l = record { row = l; exp = positive }

  pub signed-zero : signed_power m d M (pos 0) ≡ identity d
  unfolding signed_power
  signed-zero = power_zero (matrices m d) M

  pub signed-one : signed_power m d M (pos 1) ≡ M
  signed-one = monomial-path m positive d (signed-monomial (pos 1)) A (λ c l.
      let z = column c l in
      act-suc (pos 0) (entry c 0) z ∙ ap (act m M) (act-forward 0 (entry c 0) z ∙ iter-zero (act m M) (entry c 0)))

  pub signed_back : signed_power m d M (negsuc 0) ≡ inverse m M
  signed_back = monomial-path m positive d (signed-monomial (negsuc 0)) B (λ c l.
      let z = column c l in
      act-pred (pos 0) (entry c 0) z ∙ ap (act m N) (act-forward 0 (entry c 0) z ∙ iter-zero (act m M) (entry c 0)))

  pub signed_add : (j k : ℤ) → signed_power m d M (j +ℤ k) ≡ product m (signed_power m d M j) (signed_power m d M k)
  signed_add j k = monomial-path m positive d (signed-monomial (j +ℤ k)) (product-monomial m positive d (signed-monomial j) (signed-monomial k)) (λ c l.
      act-add j k (entry c 0) (column c l) ∙ sym (act-product m positive d (to j) (signed-monomial k).square (entry c 0) l))

  pub signed-cancel : (k : ℤ) → product m (signed_power m d M k) (signed_power m d M (neg_ℤ k)) ≡ identity d
  signed-cancel k = sym (signed_add k (neg_ℤ k)) ∙ ap to (+ℤ_invr k) ∙ signed-zero

  -- ---- Turns

  pub row-turned : (k : ℕ) (y : Entry) → (iter (act m M) k y).row ≡ iter (λ r. (col M r).row) k y.row
  unfolding act
  row-turned k y = iter-map (λ (x : Entry). x.row) (act m M) (λ r. (col M r).row) (λ x. refl) k y

  pub turned-back : (k : ℕ) (y : Entry) → In d m y → iter (act m (inverse m M)) k (iter (act m M) k y) ≡ y
  turned-back zero y l = iter-zero (act m N) _ ∙ iter-zero (act m M) y
  turned-back (suc k) y l =
      iter-suc (act m N) k _ ∙ ap (λ z. iter (act m N) k (act m N z)) (iter-out (act m M) k y)
      ∙ ap (iter (act m N) k) (inverse_left m positive d A _ (iter-in m positive d A.square k y l)) ∙ turned-back k y l

pub signed-valid : (m : ℕ) → 0 < m → (d : ℕ) (M : Matrix) → valid m d M ≡ true → (k : ℤ) → valid m d (signed_power m d M k) ≡ true
signed-valid m positive d M v k = monomial-valid m d _ (signed-monomial m positive d (valid-monomial m d M v) k)
