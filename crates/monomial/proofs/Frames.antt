-- The matrices of the definitions show maps: identity, product, power, value, scalars and inverse. Any modulus.
--
--   shows-one, shows-mul, shows-power, shows-value      products of matrices show products of maps
--   shows-scale                                         a scalar multiple shows a map with a scalar behind it
--   shows-inverse                                       the inverse shows the inverse map
--   shows-map, shows-on                                 one matrix shows equal maps
--   shown-unique                                        a map is shown by one matrix
--   same-shown, shown-same                              equal maps exactly where the matrices pass as equal
--   shows-distinct, shows-valid                         what shows a map with an inverse has different rows, and is valid
use mathlib.Core.Path.{◌≡◌, refl, sym, ◌∙◌, ap, subst}
use mathlib.Core.Bool.{true, ◌&&◌}
use mathlib.Core.List.{map}
use Prim.Native.Nat.{ℕ, zero, suc, ◌+◌, ◌%◌, ◌<◌}
use native.Mathlib.Nat.{mod-eq_of_lt}
use native.Mathlib.Omega.{arith}
use lib.Dec.{eqb}
use lib.ListN.{length, length-map}
use lib.Seq.{ext_get_or}
use borrow.Author.Tests.{eqb-true, eq-eqb, lt-ltb}
use Rattle.definitions.specs.declared.Entry.{Entry}
use Rattle.definitions.specs.Lists.{upto, least}
use Rattle.definitions.specs.Presentation.{NF, Mul, power, value}
use Rattle.definitions.specs.Monomial.{Matrix, entry, col, identity, less, act, product, scale, inverse, matrices, valid, same_entry, same_matrix}
use Rattle.numbers.proofs.Bools.{and_left, and_right, and_intro}
use Rattle.numbers.proofs.Lists.{all_below-elim, all_below-intro}
use Rattle.numbers.proofs.Searches.{any_below-intro, least-is}
use Rattle.numbers.proofs.Blocks.{get_d_map, get_or-table, length-table}
use Rattle.monomial.specs.Exponents.{Residue}
use Rattle.monomial.specs.Maps.{Map, compose, maps, Inverse}
use Rattle.monomial.specs.Frames.{Layout, Complete, Shows}
use Rattle.monomial.proofs.Exponents.{cancel}
use Rattle.monomial.proofs.Maps.{at-column, at_mul, at_one, inverse-injective}
use Rattle.monomial.proofs.Residues.{residues, Residue-path, less-value, nil-value}

-- a column of a matrix made column by column
pub col-map : (f : Entry → Entry) (M : Matrix) (k : ℕ) → k < length M → col (map f M) k ≡ f (col M k)
unfolding col
col-map f M k l = get_d_map f M k (entry 0 0) (entry 0 0) l

pub col-table : (f : ℕ → Entry) (n k : ℕ) → k < n → col (map f (upto n)) k ≡ f k
unfolding col
col-table f n k l = get_or-table f n k (entry 0 0) l

pub entry-path : {r s x y : ℕ} → r ≡ s → x ≡ y → entry r x ≡ entry s y
entry-path p q = λ i. entry (p i) (q i)

pub length-product : (m : ℕ) (M N : Matrix) → length (product m M N) ≡ length N
unfolding product
length-product m M N = length-map N (act m M)

module _ (m : ℕ) (pos : 0 < m) {Ω : Type 0} (Φ : Layout Ω) where
  open Φ use {rep, degree, column_below}

  abbrev at : Ω → ℕ
  at = Φ.column

  abbrev 𝓜 : Mul (Map (residues m pos) Ω)
  𝓜 = maps (residues m pos) Ω

  below : {r : ℕ} (M : Matrix) (a : Ω) → length M ≡ degree r → rep a ≡ r → at a < length M
  below M a h q = subst (λ s. at a < s) (ap degree q ∙ sym h) (column_below a)

  -- ---- Products

  pub shows-one : (r : ℕ) → Shows m Φ r r (identity (Φ.degree r)) (maps (residues m pos) Ω).one
  unfolding identity maps residues
  shows-one r = record {
    size = length-table (λ k. entry k 0) (degree r);
    maps_to = λ a q. q;
    shown = λ a q. col-table (λ k. entry k 0) (degree r) (at a) (subst (λ s. at a < s) (ap degree q) (column_below a));
  }

  pub shows-mul : {r s t : ℕ} {M N : Matrix} {A B : Map (residues m pos) Ω} → Shows m Φ s t M A → Shows m Φ r s N B → Shows m Φ r t (product m M N) ((maps (residues m pos) Ω).mul A B)
  unfolding product act maps compose residues
  shows-mul {r} {s} {t} {M} {N} {A} {B} p q = record {
    size = length-map N (act m M) ∙ q.size;
    maps_to = λ a e. p.maps_to (B a).0 (q.maps_to a e);
    shown = λ a e.
        col-map (act m M) N (at a) (below N a q.size e)
        ∙ ap (λ (x : Entry). entry (col M x.row).row (((col M x.row).exp + x.exp) % m)) (q.shown a e)
        ∙ ap (λ (x : Entry). entry x.row ((x.exp + (B a).1.0) % m)) (p.shown (B a).0 (q.maps_to a e));
  }

  module _ {r d : ℕ} (is : Φ.degree r ≡ d) where
    one_of : Shows m Φ r r (identity d) 𝓜.one
    one_of = subst (λ d. Shows m Φ r r (identity d) 𝓜.one) is (shows-one r)

    pub shows-power : {M : Matrix} {A : Map (residues m pos) Ω} → Shows m Φ r r M A → (k : ℕ) → Shows m Φ r r (power (matrices m d) M k) (power (maps (residues m pos) Ω) A k)
    unfolding power
    shows-power p zero = one_of
    shows-power p (suc k) = shows-mul p (shows-power p k)

    pub shows-value : (M : ℕ → Matrix) (A : ℕ → Map (residues m pos) Ω) (i : ℕ) → ((k : ℕ) → k < i → Shows m Φ r r (M k) (A k)) → (x : NF i)
        → Shows m Φ r r (value (matrices m d) M i x) (value (maps (residues m pos) Ω) A i x)
    unfolding value
    shows-value M A zero h x = one_of
    shows-value M A (suc i) h x = shows-mul (shows-power (h i (omega arith)) x.0) (shows-value M A i (λ k l. h k (omega arith)) x.1)

  pub shows-map : {r s : ℕ} {M : Matrix} {A B : Map (residues m pos) Ω} → Shows m Φ r s M A → A ≡ B → Shows m Φ r s M B
  shows-map {r} {s} {M} p q = subst (λ (A : Map (residues m pos) Ω). Shows m Φ r s M A) q p

  -- only what the map does on the representation counts
  pub shows-on : {r s : ℕ} {M : Matrix} {A B : Map (residues m pos) Ω} → Shows m Φ r s M A → ((a : Ω) → Φ.rep a ≡ r → A a ≡ B a) → Shows m Φ r s M B
  shows-on p h = record {
    size = p.size;
    maps_to = λ a e. ap (λ z. rep z.0) (sym (h a e)) ∙ p.maps_to a e;
    shown = λ a e. p.shown a e ∙ ap (λ z. entry (at z.0) z.1.0) (h a e);
  }

  -- a scalar c behind A
  pub shows-scale : {r s : ℕ} {M : Matrix} {A B : Map (residues m pos) Ω} (c : ℕ) → Shows m Φ r s M A
      → ((a : Ω) → Φ.rep a ≡ r → ((B a).0 ≡ (A a).0) × ((B a).1.0 ≡ ((A a).1.0 + c) % m)) → Shows m Φ r s (scale m c M) B
  unfolding scale
  shows-scale {r} {s} {M} {A} {B} c p h = record {
    size = length-map M _ ∙ p.size;
    maps_to = λ a e. ap rep (h a e).0 ∙ p.maps_to a e;
    shown = λ a e.
        col-map (λ (x : Entry). entry x.row ((x.exp + c) % m)) M (at a) (below M a p.size e)
        ∙ ap (λ (x : Entry). entry x.row ((x.exp + c) % m)) (p.shown a e)
        ∙ entry-path (ap at (sym (h a e).0)) (sym (h a e).1);
  }

  -- ---- What all columns say

  module _ {N : ℕ} (K : Complete Φ N) where
    open K use {find, find_rep, find_column, known}

    -- the column k of a matrix that shows
    shown-at : {r s : ℕ} {M : Matrix} {A : Map (residues m pos) Ω} → r < N → Shows m Φ r s M A → (k : ℕ) → k < length M
        → (a : Ω) × (rep a ≡ r) × (at a ≡ k) × (col M k ≡ entry (at (A a).0) (A a).1.0)
    shown-at {r} {s} {M} {A} h p k l =
        let b : k < degree r = subst (λ s. k < s) p.size l in
        let a : Ω = find r k h b in
        (a, find_rep r k h b, find_column r k h b, ap (col M) (sym (find_column r k h b)) ∙ p.shown a (find_rep r k h b))

    -- a map on a representation is shown by one matrix
    pub shown-unique : {r s s' : ℕ} {M M' : Matrix} {A : Map (residues m pos) Ω} → r < N → Shows m Φ r s M A → Shows m Φ r s' M' A → M ≡ M'
    unfolding col
    shown-unique {r} {s} {s'} {M} {M'} {A} h p q = ext_get_or (entry 0 0) M M' (p.size ∙ sym q.size) (λ k l.
        let (a, e, f, g) = shown-at h p k l in g ∙ sym (ap (col M') (sym f) ∙ q.shown a e))

    pub same-shown : {r s s' : ℕ} {M M' : Matrix} {A : Map (residues m pos) Ω} → r < N → Shows m Φ r s M A → Shows m Φ r s' M' A → same_matrix m M M' ≡ true
    unfolding same_matrix same_entry
    same-shown {r} {s} {s'} {M} {M'} {A} h p q = subst (λ X. same_matrix m M X ≡ true) (shown-unique h p q)
        (and_intro _ _ (eq-eqb (length M) _ refl)
        (all_below-intro (length M) _ (λ k l. and_intro _ _ (eq-eqb (col M k).row _ refl) (eq-eqb ((col M k).exp % m) _ refl))))

    -- the matrices pass as equal: the maps agree on the representation
    pub shown-same : {r s : ℕ} {M M' : Matrix} {A B : Map (residues m pos) Ω} → Shows m Φ r s M A → Shows m Φ r s M' B → same_matrix m M M' ≡ true → (a : Ω) → Φ.rep a ≡ r → A a ≡ B a
    unfolding same_matrix same_entry
    shown-same {r} {s} {M} {M'} {A} {B} p q h a e =
        let l : at a < length M = below M a p.size e in
        let x = all_below-elim (length M) (λ k. eqb (col M k).row (col M' k).row && eqb ((col M k).exp % m) ((col M' k).exp % m)) (and_right (eqb (length M) (length M')) _ h) (at a) l in
        let rows : (col M (at a)).row ≡ (col M' (at a)).row = eqb-true _ _ (and_left (eqb (col M (at a)).row (col M' (at a)).row) _ x) in
        let exps : (col M (at a)).exp % m ≡ (col M' (at a)).exp % m = eqb-true _ _ (and_right (eqb (col M (at a)).row (col M' (at a)).row) _ x) in
        λ o. (
          known (A a).0 (B a).0 (p.maps_to a e ∙ sym (q.maps_to a e)) (ap (λ (x : Entry). x.row) (sym (p.shown a e)) ∙ rows ∙ ap (λ (x : Entry). x.row) (q.shown a e)) o,
          Residue-path m (A a).1 (B a).1
              (sym (mod-eq_of_lt (A a).1.1) ∙ ap (λ (x : Entry). x.exp % m) (sym (p.shown a e)) ∙ exps ∙ ap (λ (x : Entry). x.exp % m) (q.shown a e) ∙ mod-eq_of_lt (B a).1.1) o,
        )

    -- ---- Inverses

    module _ {r s : ℕ} {M : Matrix} {A : Map (residues m pos) Ω} (h : r < N) (p : Shows m Φ r s M A) (W : Inverse (maps (residues m pos) Ω) A) where
      -- the inverse at a basis index of s
      there : (b : Ω) → ((A (W.to b).0).0 ≡ b) × ((residues m pos).add (A (W.to b).0).1 (W.to b).1 ≡ (residues m pos).nil)
      there b =
          let line = sym (at_mul (residues m pos) A W.to b) ∙ at-column (residues m pos) W.right b ∙ at_one (residues m pos) b in
          (ap (λ z. z.0) line, ap (λ z. z.1) line)

      neg-of-zero : (x y : Residue m) → (residues m pos).add x y ≡ (residues m pos).nil → less m 0 x.0 ≡ y.0
      neg-of-zero x y q = ap (λ z. less m z x.0) (sym (nil-value m pos)) ∙ less-value m pos (residues m pos).nil x
          ∙ ap (λ z. z.0) ((residues m pos).idl _ ∙ cancel (residues m pos) x _ y ((residues m pos).negr x ∙ sym q))

      pub shows-inverse : Φ.degree s ≡ Φ.degree r → ((b : Ω) → Φ.rep b ≡ s → Φ.rep (W.to b).0 ≡ r) → Shows m Φ s r (inverse m M) W.to
      unfolding inverse
      shows-inverse e back = record {
        size = length-table _ (length M) ∙ p.size ∙ sym e;
        maps_to = back;
        shown = λ b q.
            let a : Ω = (W.to b).0 in
            let l : at b < length M = below M b (p.size ∙ sym e) q in
            let k : least (length M) (λ k. eqb (col M k).row (at b)) ≡ at a
            = least-is (length M) (λ k. eqb (col M k).row (at b)) (at a) (below M a p.size (back b q))
            (eq-eqb _ _ (ap (λ (x : Entry). x.row) (p.shown a (back b q)) ∙ ap at (there b).0))
            (λ k l x.
            let (a', e₁, e₂, e₃) = shown-at h p k l in
            let same : (A a').0 ≡ b = known (A a').0 b (p.maps_to a' e₁ ∙ sym q) (ap (λ (x : Entry). x.row) (sym e₃) ∙ eqb-true _ _ x) in
            sym e₂ ∙ ap at (inverse-injective (residues m pos) A W a' a (same ∙ sym (there b).0))) in
            col-table (λ (r : ℕ). let k = least (length M) (λ k. eqb (col M k).row r) in entry k (less m 0 (col M k).exp)) (length M) (at b) l
            ∙ ap (λ k. entry k (less m 0 (col M k).exp)) k
            ∙ entry-path refl (ap (λ (x : Entry). less m 0 x.exp) (p.shown a (back b q)) ∙ neg-of-zero (A a).1 (W.to b).1 (there b).1);
      }

      pub shows-distinct : (k l : ℕ) → k < Φ.degree r → l < Φ.degree r → (col M k).row ≡ (col M l).row → k ≡ l
      shows-distinct k l b c e =
          let (a, e₁, e₂, e₃) = shown-at h p k (subst (λ s. k < s) (sym p.size) b) in
          let (a', f₁, f₂, f₃) = shown-at h p l (subst (λ s. l < s) (sym p.size) c) in
          let rows : at (A a).0 ≡ at (A a').0 = ap (λ (x : Entry). x.row) (sym e₃) ∙ e ∙ ap (λ (x : Entry). x.row) f₃ in
          let same : (A a).0 ≡ (A a').0 = known (A a).0 (A a').0 (p.maps_to a e₁ ∙ sym (p.maps_to a' f₁)) rows in
          sym e₂ ∙ ap at (inverse-injective (residues m pos) A W a a' same) ∙ f₂

      pub shows-valid : s < N → Φ.degree s ≡ Φ.degree r → ((b : Ω) → Φ.rep b ≡ s → Φ.rep (W.to b).0 ≡ r) → valid m (Φ.degree r) M ≡ true
      unfolding valid
      shows-valid l e back = and_intro _ _ (and_intro _ _ (eq-eqb _ _ p.size)
          (all_below-intro (degree r) _ (λ k b.
          let (a, e₁, e₂, e₃) = shown-at h p k (subst (λ s. k < s) (sym p.size) b) in
          and_intro _ _
          (lt-ltb _ _ (subst (λ (x : Entry). x.row < degree r) (sym e₃) (subst (λ d. at (A a).0 < d) (ap degree (p.maps_to a e₁) ∙ e) (column_below (A a).0))))
          (lt-ltb _ _ (subst (λ (x : Entry). x.exp < m) (sym e₃) (A a).1.1)))))
          (all_below-intro (degree r) _ (λ k b.
          let c : k < degree s = subst (λ d. k < d) (sym e) b in
          let z : Ω = find s k l c in
          let q : rep z ≡ s = find_rep s k l c in
          let a : Ω = (W.to z).0 in
          any_below-intro (degree r) _ (at a) (subst (λ d. at a < d) (ap degree (back z q)) (column_below a))
          (eq-eqb _ _ (ap (λ (x : Entry). x.row) (p.shown a (back z q)) ∙ ap at (there z).0 ∙ find_column s k l c))))
