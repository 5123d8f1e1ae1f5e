-- One column moved through products, powers and words of matrices of one degree.
--
--   In d m y                                      a basis index below d, and an exponent below m
--   identity-square, product-square, power-square, value-square    products of square matrices are square
--   col-product                                   a column of a product
--   act-in, iter-in                               where square matrices take such an entry
--   act-product, act-power, act-value             a product moves as its factors do, one after the other
--   same-matrix                                   two matrices are the same exactly if they move every column alike
use mathlib.Core.Path.{◌≡◌, sym, ◌∙◌, ap, ap₂, subst}
use mathlib.Core.Bool.{◌&&◌}
use Prim.Native.Nat.{ℕ, zero, suc, ◌+◌, ◌%◌, ◌<◌}
use native.Mathlib.Nat.{mod-lt, mod-eq_of_lt, add-mod-mod, mod-add-mod, add_assoc}
use native.Mathlib.Omega.{arith}
use lib.Dec.{eqb}
use lib.ListN.{length}
use borrow.Author.Tests.{eq-eqb}
use Rattle.definitions.specs.declared.Entry.{Entry}
use Rattle.definitions.specs.Lists.{iter, all_below}
use Rattle.definitions.specs.Presentation.{NF, power, value}
use Rattle.definitions.specs.Monomial.{Matrix, entry, col, identity, act, product, matrices, same_entry, same_matrix}
use Rattle.formulas.specs.Formulas.{walk}
use Rattle.numbers.proofs.Lists.{iter-zero, all_below-below}
use Rattle.numbers.proofs.Iterates.{iter-out}
use Rattle.numbers.proofs.Blocks.{length-table}
use Rattle.group.proofs.Values.{power_zero, power-suc, value-zero, value-suc}
use Rattle.monomial.proofs.Frames.{col-map, col-table, entry-path, length-product}
use Rattle.columns.specs.Columns.{Square, same_at}

pub record In (d m : ℕ) (y : Entry) : Type 0 where
  pub row : y.row < d
  pub exp : y.exp < m

module _ (m : ℕ) (pos : 0 < m) (d : ℕ) where
  -- ---- Square matrices

  pub identity-square : Square d (identity d)
  unfolding identity
  identity-square = record { size = length-table _ d; inside = λ c l. subst (λ (x : Entry). x.row < d) (sym (col-table (λ k. entry k 0) d c l)) l }

  pub col-product : (M N : Matrix) (c : ℕ) → c < length N → col (product m M N) c ≡ act m M (col N c)
  unfolding product
  col-product M N c l = col-map (act m M) N c l

  pub product-square : {M N : Matrix} → Square d M → Square d N → Square d (product m M N)
  unfolding act
  product-square {M} {N} A B = record {
    size = length-product m M N ∙ B.size;
    inside = λ c l. subst (λ (x : Entry). x.row < d) (sym (col-product M N c (subst (λ z. c < z) (sym B.size) l))) (A.inside _ (B.inside c l));
  }

  pub power-square : {M : Matrix} → Square d M → (k : ℕ) → Square d (power (matrices m d) M k)
  power-square {M} A zero = subst (Square d) (sym (power_zero (matrices m d) M)) identity-square
  power-square {M} A (suc k) = subst (Square d) (sym (power-suc (matrices m d) M k)) (product-square A (power-square A k))

  pub value-square : (M : ℕ → Matrix) (i : ℕ) → ((g : ℕ) → g < i → Square d (M g)) → (x : NF i) → Square d (value (matrices m d) M i x)
  value-square M zero A x = subst (Square d) (sym (value-zero (matrices m d) M x)) identity-square
  value-square M (suc i) A x =
      subst (Square d) (sym (value-suc (matrices m d) M i x))
      (product-square (power-square (A i (omega arith)) x.0) (value-square M i (λ g l. A g (omega arith)) x.1))

  -- ---- Entries moved

  pub act-in : {M : Matrix} → Square d M → (y : Entry) → y.row < d → In d m (act m M y)
  unfolding act
  act-in A y l = record { row = A.inside y.row l; exp = mod-lt _ pos }

  pub act-product : (M : Matrix) {N : Matrix} → Square d N → (y : Entry) → y.row < d → act m (product m M N) y ≡ act m M (act m N y)
  unfolding act
  act-product M {N} B y l =
      let e = col-product M N y.row (subst (λ z. y.row < z) (sym B.size) l) in
      let a : ℕ = (col M (col N y.row).row).exp in
      let b : ℕ = (col N y.row).exp in
      entry-path (ap (λ (x : Entry). x.row) e)
      (ap (λ (x : Entry). (x.exp + y.exp) % m) e ∙ mod-add-mod (a + b) m y.exp ∙ ap (λ z. z % m) (add_assoc a b y.exp)
      ∙ sym (add-mod-mod a (b + y.exp) m))

  act-identity : (y : Entry) → In d m y → act m (identity d) y ≡ y
  unfolding act identity
  act-identity y l =
      let e = col-table (λ k. entry k 0) d y.row l.row in
      let z : 0 + y.exp ≡ y.exp = omega arith in
      entry-path (ap (λ (x : Entry). x.row) e) (ap (λ (x : Entry). (x.exp + y.exp) % m) e ∙ ap (λ x. x % m) z ∙ mod-eq_of_lt l.exp)

  pub act-power : {M : Matrix} → Square d M → (k : ℕ) (y : Entry) → In d m y → act m (power (matrices m d) M k) y ≡ iter (act m M) k y
  act-power {M} A zero y l = ap (λ N. act m N y) (power_zero (matrices m d) M) ∙ act-identity y l ∙ sym (iter-zero (act m M) y)
  act-power {M} A (suc k) y l =
      ap (λ N. act m N y) (power-suc (matrices m d) M k) ∙ act-product M (power-square A k) y l.row
      ∙ ap (act m M) (act-power A k y l) ∙ sym (iter-out (act m M) k y)

  pub iter-in : {M : Matrix} → Square d M → (k : ℕ) (y : Entry) → In d m y → In d m (iter (act m M) k y)
  unfolding iter
  iter-in A zero y l = l
  iter-in A (suc k) y l = iter-in A k (act m _ y) (act-in A y l.row)

  walk-in : (M : ℕ → Matrix) (i : ℕ) → ((g : ℕ) → g < i → Square d (M g)) → (x : NF i) (y : Entry) → In d m y → In d m (walk m M i x y)
  unfolding walk
  walk-in M zero A x y l = l
  walk-in M (suc i) A x y l = iter-in (A i (omega arith)) x.0 (walk m M i x.1 y) (walk-in M i (λ g h. A g (omega arith)) x.1 y l)

  pub act-value : (M : ℕ → Matrix) (i : ℕ) → ((g : ℕ) → g < i → Square d (M g)) → (x : NF i) (y : Entry) → In d m y
      → act m (value (matrices m d) M i x) y ≡ walk m M i x y
  unfolding walk
  act-value M zero A x y l = ap (λ N. act m N y) (value-zero (matrices m d) M x) ∙ act-identity y l
  act-value M (suc i) A x y l =
      let B : (g : ℕ) → g < i → Square d (M g) = λ g h. A g (omega arith) in
      ap (λ N. act m N y) (value-suc (matrices m d) M i x)
      ∙ act-product _ (value-square M i B x.1) y l.row ∙ ap (act m _) (act-value M i B x.1 y l)
      ∙ act-power (A i (omega arith)) x.0 (walk m M i x.1 y) (walk-in M i B x.1 y l)

  -- ---- Equality by columns

  same_column : (M N : Matrix) (c : ℕ) → same_entry m (col M c) (col N c) ≡ same_at (act m M (entry c 0)) (act m N (entry c 0))
  unfolding same_entry same_at act
  same_column M N c =
      let z : (x : ℕ) → x + 0 ≡ x = λ x. omega arith in
      ap₂ (λ x y. eqb (col M c).row (col N c).row && eqb (x % m) (y % m)) (sym (z (col M c).exp)) (sym (z (col N c).exp))

  pub same-matrix : {M N : Matrix} → Square d M → Square d N → same_matrix m M N ≡ all_below d (λ c. same_at (act m M (entry c 0)) (act m N (entry c 0)))
  unfolding same_matrix
  same-matrix {M} {N} A B =
      ap₂ (λ a b. a && all_below b (λ k. same_entry m (col M k) (col N k))) (eq-eqb (length M) (length N) (A.size ∙ sym B.size)) A.size
      ∙ all_below-below d (λ k. same_entry m (col M k) (col N k)) _ (λ c l. same_column M N c)
