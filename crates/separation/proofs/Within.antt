-- A matrix that acts within a block of columns as a smaller one.
--
--   WithinMatrix m o M N            columns o, o + 1, .. of M act as those of N
--   within-one, within-mul, within-power, within-value      products act as products
--   within_same               what is equal in every block is equal
use mathlib.Core.Path.{◌≡◌, sym, ◌∙◌, ap, subst}
use mathlib.Core.Bool.{true}
use Prim.Native.Nat.{ℕ, zero, suc, ◌+◌, ◌%◌, ◌≤◌, ◌<◌}
use native.Mathlib.Omega.{arith}
use lib.Dec.{eqb}
use lib.ListN.{length, length-map}
use borrow.Author.Tests.{eqb-true, eq-eqb}
use Rattle.definitions.specs.declared.Entry.{Entry}
use Rattle.definitions.specs.Presentation.{NF, power, value}
use Rattle.definitions.specs.Monomial.{Matrix, entry, col, identity, act, product, matrices, same_entry, same_matrix}
use Rattle.numbers.proofs.Bools.{and_left, and_right, and_intro}
use Rattle.numbers.proofs.Lists.{all_below-elim}
use Rattle.numbers.proofs.Blocks.{length-table}
use Rattle.monomial.proofs.Frames.{col-map, col-table}

module _ (m o w d : ℕ) (fits : o + w ≤ d) where
  pub record WithinMatrix (M N : Matrix) : Type 0 where
    pub size : length M ≡ d
    pub size' : length N ≡ w
    pub inside : (c : ℕ) → c < w → (col N c).row < w
    pub acts : (c : ℕ) → c < w → col M (o + c) ≡ entry (o + (col N c).row) (col N c).exp

  pub within-one : WithinMatrix (identity d) (identity w)
  unfolding identity
  within-one = record {
    size = length-table _ d;
    size' = length-table _ w;
    inside = λ c l. subst (λ (x : Entry). x.row < w) (sym (col-table (λ k. entry k 0) w c l)) l;
    acts = λ c l. col-table (λ k. entry k 0) d (o + c) (omega arith) ∙ ap (λ (x : Entry). entry (o + x.row) x.exp) (sym (col-table (λ k. entry k 0) w c l));
  }

  pub within-mul : (M M' N N' : Matrix) → WithinMatrix M N → WithinMatrix M' N' → WithinMatrix (product m M M') (product m N N')
  unfolding product act
  within-mul M M' N N' p q = record {
    size = length-map M' (act m M) ∙ q.size;
    size' = length-map N' (act m N) ∙ q.size';
    inside = λ c l. subst (λ (x : Entry). x.row < w) (sym (small c l)) (p.inside (col N' c).row (q.inside c l));
    acts = λ c l.
        col-map (act m M) M' (o + c) (subst (λ z. o + c < z) (sym q.size) (omega arith))
        ∙ ap (λ (x : Entry). entry (col M x.row).row (((col M x.row).exp + x.exp) % m)) (q.acts c l)
        ∙ ap (λ (x : Entry). entry x.row ((x.exp + (col N' c).exp) % m)) (p.acts (col N' c).row (q.inside c l))
        ∙ ap (λ (x : Entry). entry (o + x.row) x.exp) (sym (small c l));
  }
    where
      small : (c : ℕ) → c < w → col (product m N N') c ≡ entry (col N (col N' c).row).row (((col N (col N' c).row).exp + (col N' c).exp) % m)
      small c l = col-map (act m N) N' c (subst (λ z. c < z) (sym q.size') l)

  pub within-power : (M N : Matrix) → WithinMatrix M N → (k : ℕ) → WithinMatrix (power (matrices m d) M k) (power (matrices m w) N k)
  unfolding power
  within-power M N p zero = within-one
  within-power M N p (suc k) = within-mul M _ N _ p (within-power M N p k)

  pub within-value : (M N : ℕ → Matrix) (i : ℕ) → ((k : ℕ) → k < i → WithinMatrix (M k) (N k)) → (x : NF i)
      → WithinMatrix (value (matrices m d) M i x) (value (matrices m w) N i x)
  unfolding value
  within-value M N zero h x = within-one
  within-value M N (suc i) h x = within-mul _ _ _ _ (within-power (M i) (N i) (h i (omega arith)) x.0) (within-value M N i (λ k l. h k (omega arith)) x.1)

  -- equal small matrices: equal entries of the block
  pub within_same : (M M' N N' : Matrix) → WithinMatrix M N → WithinMatrix M' N' → same_matrix m N N' ≡ true → (c : ℕ) → c < w
      → same_entry m (col M (o + c)) (col M' (o + c)) ≡ true
  unfolding same_matrix same_entry
  within_same M M' N N' p q h c l =
      let t = all_below-elim (length N) _ (and_right (eqb (length N) (length N')) _ h) c (subst (λ z. c < z) (sym p.size') l) in
      let rows : (col N c).row ≡ (col N' c).row = eqb-true _ _ (and_left (eqb (col N c).row (col N' c).row) _ t) in
      let exps : (col N c).exp % m ≡ (col N' c).exp % m = eqb-true _ _ (and_right (eqb (col N c).row (col N' c).row) _ t) in
      and_intro _ _ (eq-eqb _ _ (ap (λ (x : Entry). x.row) (p.acts c l) ∙ ap (λ z. o + z) rows ∙ sym (ap (λ (x : Entry). x.row) (q.acts c l))))
      (eq-eqb _ _ (ap (λ (x : Entry). x.exp % m) (p.acts c l) ∙ exps ∙ sym (ap (λ (x : Entry). x.exp % m) (q.acts c l))))
