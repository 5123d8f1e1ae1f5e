-- Rows of exponents, and the normal forms that they say.
--
--   same_none, same_more, same_differs    the comparison of two rows from the top down
--   zeros, empty-is                the row of zeros; a row that is compared with it
--   single-row                     the row of an exponent of one generator
--   generator-row, generator-is    the row of a generator, and the normal form that it says
--   small-below, ready-below, reads-below holds of fewer
--   prime-fits exponents fit 32 bits
--   small-valid valid form
--   small_top, small-set, small-zeros  rows in range: one exponent more, a store on top, zeros
--   word_small                     rows in range: the word of a pair
--   reads-small                    rows that a presentation has are in range
use mathlib.Core.Path.{◌≡◌, refl, sym, ◌∙◌, ap, ap₂, subst}
use mathlib.Core.Logic.{◌≢◌, by_cases}
use mathlib.Core.Bool.{Bool, true, false, ◌&&◌, cond}
use mathlib.Core.List.{List, []}
use Prim.Native.Nat.{ℕ, zero, suc, ◌*◌, ◌-◌, ◌≤◌, ◌<◌}
use native.Mathlib.Omega.{arith}
use native.Mathlib.Decide.{dec_lt, ℕ_discrete}
use lib.Dec.{eqb, leb, ltb}
use lib.ListN.{length, get_or, set, replicate, get_or-replicate, get_or-eq_default, length-replicate}
use lib.Seq.{get_or-set_same, get_or-set_other}
use borrow.Author.Tests.{eq-eqb, ne_eqb, le-ltb, lt-leb}
use Rattle.definitions.specs.Text.{largest}
use Rattle.definitions.specs.Presentation.{max_generators, Presentation, Valid, to_nf, trivial, pair_number, allowed}
use Rattle.definitions.specs.Consistency.{same_form, generator}
use Rattle.numbers.proofs.Bools.{cond-eq, cond-ne}
use Rattle.numbers.proofs.Lists.{below_suc}
use Rattle.group.specs.Context.{Context}
use Rattle.group.proofs.Rows.{to_nf-trivial, to_nf-valid, valid-get}
use Rattle.rows.specs.Rows.{Small, Ranged, Reads, Generator, Single}

-- ---- Rows that say one form

same-suc : (k : ℕ) (x y : List ℕ) (b : Bool) → eqb (get_or x k 0) (get_or y k 0) ≡ b
    → same_form (suc k) (to_nf (suc k) x) (to_nf (suc k) y) ≡ (b && same_form k (to_nf k x) (to_nf k y))
unfolding same_form to_nf
same-suc k x y b q = ap (λ t. t && same_form k (to_nf k x) (to_nf k y)) q

pub same_more : (k : ℕ) (x y : List ℕ) → 0 < k → get_or x (k - 1) 0 ≡ get_or y (k - 1) 0
    → same_form k (to_nf k x) (to_nf k y) ≡ same_form (k - 1) (to_nf (k - 1) x) (to_nf (k - 1) y)
same_more k x y l q = let e : suc (k - 1) ≡ k = omega arith in
    subst (λ m. same_form m (to_nf m x) (to_nf m y) ≡ same_form (k - 1) (to_nf (k - 1) x) (to_nf (k - 1) y)) e
    (same-suc (k - 1) x y true (eq-eqb (get_or x (k - 1) 0) (get_or y (k - 1) 0) q))

pub same_differs : (k : ℕ) (x y : List ℕ) → 0 < k → get_or x (k - 1) 0 ≢ get_or y (k - 1) 0 → same_form k (to_nf k x) (to_nf k y) ≡ false
same_differs k x y l q = let e : suc (k - 1) ≡ k = omega arith in
    subst (λ m. same_form m (to_nf m x) (to_nf m y) ≡ false) e (same-suc (k - 1) x y false (ne_eqb (get_or x (k - 1) 0) (get_or y (k - 1) 0) q))

pub same_none : (x y : List ℕ) → same_form 0 (to_nf 0 x) (to_nf 0 y) ≡ true
unfolding same_form
same_none x y = refl

-- ---- Generators

pub zeros : (m : ℕ) → ◌≡◌ {A = ℕ} (get_or (replicate max_generators 0) m 0) 0
zeros m = by_cases (dec_lt m max_generators)
    (λ l. get_or-replicate max_generators m 0 0 l)
    (λ l. get_or-eq_default (replicate max_generators 0) 0 {n = m} (omega (arith, length-replicate {A = ℕ} max_generators 0)))

pub single-row : (k a : ℕ) → k < max_generators → Single k a (set (replicate max_generators 0) k a)
single-row k a l = record {
  at = get_or-set_same (replicate max_generators 0) k a 0 (omega (arith, length-replicate {A = ℕ} max_generators 0));
  rest = λ m q. get_or-set_other (replicate max_generators 0) k m a 0 q ∙ zeros m;
}

pub generator-row : (k : ℕ) → k < max_generators → Generator k (set (replicate max_generators 0) k 1)
generator-row k l = record { at = λ m. go m (ℕ_discrete m k) }
  where
    row : List ℕ
    row = set (replicate max_generators 0) k 1

    go : (m : ℕ) → Dec (m ≡ k) → get_or row m 0 ≡ cond (eqb m k) 1 0
    go m (yes q) = ap (λ t. get_or row t 0) q ∙ (single-row k 1 l).at ∙ sym (cond-eq m k 1 0 q)
    go m (no q) = (single-row k 1 l).rest m q ∙ sym (cond-ne m k 1 0 q)

pub generator-is : (i k : ℕ) (r : List ℕ) → Generator k r → to_nf i r ≡ generator i k
unfolding generator to_nf
generator-is zero k r g = refl
generator-is (suc i) k r g = go (generator-is i k r g) (ℕ_discrete k i)
  where
    go : to_nf i r ≡ generator i k → Dec (k ≡ i) → to_nf (suc i) r ≡ generator (suc i) k
    go h (yes q) =
        ap₂ (λ s t. (s, t)) (g.at i ∙ cond-eq i k 1 0 (sym q)) (to_nf-trivial i r (λ m l. g.at m ∙ cond-ne m k 1 0 (λ e. omega arith)))
        ∙ sym (cond-eq k i (1, trivial i) (0, generator i k) q)
    go h (no q) = ap₂ (λ s t. (s, t)) (g.at i ∙ cond-ne i k 1 0 (λ e. q (sym e))) h ∙ sym (cond-ne k i (1, trivial i) (0, generator i k) q)

pub empty-is : (i : ℕ) (x : List ℕ) → same_form i (to_nf i x) (to_nf i (replicate max_generators 0)) ≡ same_form i (to_nf i x) (trivial i)
empty-is i x = ap (same_form i (to_nf i x)) (to_nf-trivial i (replicate max_generators 0) (λ m l. zeros m))

-- ---- Fewer generators

pub small-below : {m n : ℕ} {ps x : List ℕ} → m ≤ n → Small n ps x → Small m ps x
small-below l s = record { below = λ k h. s.below k (omega arith) }

pub ready-below : {m n : ℕ} {ps : List ℕ} {rows : List (List ℕ)} → m ≤ n → Ranged n ps rows → Ranged m ps rows
ready-below l r = record {
  few = omega (arith, r.few);
  two = λ k h. r.two k (omega arith);
  bounded = λ k h. r.bounded k (omega arith);
  word = λ j i a h. small-below l (r.word j i a (omega arith));
}

-- the word of a pair
pub word_small : {m n : ℕ} {ps : List ℕ} {rows : List (List ℕ)} {w : List ℕ} (j i : ℕ) → Ranged m ps rows → i ≤ j → j < m → n ≤ m
    → w ≡ get_or rows (pair_number j i) [] → Small n ps w
word_small {m} {n} {ps} j i r a b l e = subst (Small n ps) (sym e) (small-below l (r.word j i a b))

pub reads-below : {P : Presentation} {m n : ℕ} {ps : List ℕ} {rows : List (List ℕ)} → m ≤ n → Reads P n ps rows → Reads P m ps rows
reads-below l r = record {
  p_is = λ k h. r.p_is k (omega arith);
  u_is = λ j h. r.u_is j (omega arith);
  w_is = λ k j a h. r.w_is k j a (omega arith);
  rest = λ j i k a h b. r.rest j i k a (omega arith) (omega arith);
}

pub prime-fits : {m : ℕ} {ps : List ℕ} {rows : List (List ℕ)} → Ranged m ps rows → (k : ℕ) → k < m → 2 * get_or ps k 0 < 4294967296
unfolding largest
prime-fits r k l = omega (arith, r.bounded k l)

pub small-valid : {P : Presentation} {m i : ℕ} {ps : List ℕ} {rows : List (List ℕ)} {x : List ℕ} → Reads P m ps rows → i ≤ m → Small i ps x → Valid P i (to_nf i x)
small-valid {P} {i = i} {ps = ps} {x = x} r l s = to_nf-valid P i x (λ k h. subst (λ p. get_or x k 0 < p) (r.p_is k (omega arith)) (s.below k h))

-- a store on top of a row that is small below
-- an exponent on top
pub small_top : {k : ℕ} {ps x : List ℕ} → Small k ps x → get_or x k 0 < get_or ps k 0 → Small (suc k) ps x
small_top {k} {ps} {x} s l = record { below = below_suc k (λ m. get_or x m 0 < get_or ps m 0) s.below l }

pub small-set : (k : ℕ) (ps z : List ℕ) (a : ℕ) → k < length z → Small k ps z → a < get_or ps k 0 → Small (suc k) ps (set z k a)
small-set k ps z a l s h =
    small_top (record { below = λ m b. omega (arith, get_or-set_other z k m a 0 (omega arith), s.below m b) }) (omega (arith, get_or-set_same z k a 0 l))

pub small-zeros : {m : ℕ} {ps : List ℕ} {rows : List (List ℕ)} → Ranged m ps rows → Small m ps (replicate max_generators 0)
small-zeros {ps = ps} r = record { below = λ k l. subst (λ t. t < get_or ps k 0) (sym (zeros k)) (omega (arith, r.two k l)) }

-- ---- Rows that a presentation has

-- every word is in range: where it may use a generator its exponents are those of a valid form, elsewhere they are 0
pub reads-small : (C : Context) (m : ℕ) (ps : List ℕ) (rows : List (List ℕ)) → Reads C.P m ps rows → (j i : ℕ) → i ≤ j → j < m
    → Small m ps (get_or rows (pair_number j i) [])
unfolding allowed
reads-small C m ps rows r j i a b =
    record { below = λ k l. subst (λ p. get_or (row i) k 0 < p) (sym (r.p_is k l)) (go k l (ℕ_discrete i j) (dec_lt k j) (dec_lt i k)) }
  where
    row : ℕ → List ℕ
    row i = get_or rows (pair_number j i) []

    power-valid : Valid C.P j (to_nf j (row j))
    power-valid = subst (Valid C.P j) (sym (r.u_is j b)) (C.u_valid j)

    commutator-valid : i < j → Valid C.P (suc i) (to_nf (suc i) (row i))
    commutator-valid h = subst (Valid C.P (suc i)) (sym (r.w_is i j h b)) (C.w_valid i j)

    none : (k : ℕ) → k < m → allowed j i k ≡ false → get_or (row i) k 0 < C.P.p k
    none k l e = omega (arith, r.rest j i k a b l e, C.two k)

    go : (k : ℕ) → k < m → Dec (i ≡ j) → Dec (k < j) → Dec (i < k) → get_or (row i) k 0 < C.P.p k
    go k l (yes q) (yes h) d = subst (λ i. get_or (row i) k 0 < C.P.p k) (sym q) (valid-get C.P j (row j) power-valid k h)
    go k l (yes q) (no h) d = none k l (cond-eq i j (ltb k j) (leb k i) q ∙ le-ltb k j (omega arith))
    go k l (no q) d (yes h) = none k l (cond-ne i j (ltb k j) (leb k i) q ∙ lt-leb k i h)
    go k l (no q) d (no h) = valid-get C.P (suc i) (row i) (commutator-valid (omega arith)) k (omega arith)
