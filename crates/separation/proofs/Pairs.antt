-- The quick test by pairs of representations, the later one outside.
--
--   unshared-sym, differs-sym     what is asked of two representations is asked of both alike
--   parted-one, one-parted        what the quick test asks of a representation of one block
--   Many, parted-many, many-parted      and of one of more
--   quick-all, quick-pairs        the quick test asks it of all; it is the test of pairs
use mathlib.Core.Path.{◌≡◌, refl, sym, ◌∙◌, ap, ap₂, subst}
use mathlib.Core.Logic.{by_cases}
use mathlib.Core.Bool.{Bool, true, false, ◌&&◌, ◌||◌, not, true≢false}
use mathlib.Core.List.{List, [], ◌∷◌}
use Prim.Native.Nat.{ℕ, ◌<◌}
use native.Mathlib.Omega.{arith}
use native.Mathlib.Decide.{dec_lt, ℕ_discrete}
use lib.Dec.{eqb}
use lib.ListN.{length}
use borrow.Author.Tests.{eqb-true, eq-eqb, ne_eqb}
use Rattle.definitions.specs.Lists.{all_below, all}
use Rattle.definitions.specs.Presentation.{Presentation}
use Rattle.definitions.specs.Monomial.{col, rep_of}
use Rattle.numbers.proofs.Bools.{and_left, and_right, and_intro, and_last, first, second, or_cases, or_left, or_right, cond-true, cond-false, same_test}
use Rattle.numbers.proofs.Lists.{all_below-elim, all_below-intro}
use Rattle.separation.specs.Decision.{upper, reference, block_starts, block_count, outside, unshared, differs, parted, quick, own, apart, pairwise}

-- ---- Lists

all_map : {A : Type 0} (q r : A → Bool) (xs : List A) → ((x : A) → q x ≡ true → r x ≡ true) → all q xs ≡ true → all r xs ≡ true
unfolding all
all_map q r [] h a = refl
all_map q r (x ∷ xs) h a = and_intro (r x) (all r xs) (h x (and_left (q x) (all q xs) a)) (all_map q r xs h (and_right (q x) (all q xs) a))

all-swap : {A B : Type 0} (f : A → B → Bool) (xs : List A) (ys : List B) → all (λ x. all (f x) ys) xs ≡ true → all (λ y. all (λ x. f x y) xs) ys ≡ true
unfolding all
all-swap f xs [] h = refl
all-swap f xs (y ∷ ys) h =
    and_intro (all (λ x. f x y) xs) (all (λ y. all (λ x. f x y) xs) ys)
    (all_map _ _ xs (λ x a. and_left (f x y) (all (f x) ys) a) h)
    (all-swap f xs ys (all_map _ _ xs (λ x a. and_right (f x y) (all (f x) ys) a) h))

pub eqb-sym : (a b : ℕ) → eqb a b ≡ eqb b a
eqb-sym a b = same_test _ _ (λ h. eq-eqb b a (sym (eqb-true a b h))) (λ h. eq-eqb a b (sym (eqb-true b a h)))

module _ (P : Presentation) (table : List ℕ) (i : ℕ) where
  abbrev N : ℕ
  N = length (upper P table i)

  abbrev one : ℕ → Bool
  one r = eqb (block_count P table i r) 1

  unshared-sym : (r r' : ℕ) → unshared P table i r r' ≡ true → unshared P table i r' r ≡ true
  unfolding unshared
  unshared-sym r r' h =
      let f : ℕ → ℕ → Bool = λ o o'. (eqb r r' && eqb o o') || not (eqb (reference P table i r o) (reference P table i r' o')) in
      let g : ℕ → ℕ → Bool = λ o' o. (eqb r' r && eqb o' o) || not (eqb (reference P table i r' o') (reference P table i r o)) in
      let same : (o' o : ℕ) → f o o' ≡ g o' o = λ o' o.
      ap₂ (◌||◌) (ap₂ (◌&&◌) (eqb-sym r r') (eqb-sym o o')) (ap not (eqb-sym (reference P table i r o) (reference P table i r' o'))) in
      all_map _ _ (block_starts P table i r') (λ o' a. all_map (λ o. f o o') (g o') (block_starts P table i r) (λ o b. sym (same o' o) ∙ b) a)
      (all-swap f (block_starts P table i r) (block_starts P table i r') h)

  differs-sym : (r r' : ℕ) → differs P table i r r' ≡ true → differs P table i r' r ≡ true
  unfolding differs
  differs-sym r r' h =
      let x : ℕ → ℕ = λ r. (col ((rep_of (upper P table i) r).matrix i) 0).exp in
      ap₂ (λ a b. not a || not b) (eqb-sym (reference P table i r' 0) (reference P table i r 0)) (eqb-sym (x r') (x r)) ∙ h

  -- ---- From one to the other

  pub parted-one : (r : ℕ) → parted P table i r ≡ true → one r ≡ true → (r' : ℕ) → r' < N → ¬ (r ≡ r') → one r' ≡ true → differs P table i r r' ≡ true
  unfolding parted
  parted-one r h e r' l ne e' =
      let a = sym (cond-true (one r) _ _ e) ∙ h in
      let b : eqb r r' || not (one r') || differs P table i r r' ≡ true = all_below-elim N _ a r' l in
      sym (ap₂ (λ x y. x || not y || differs P table i r r') (ne_eqb r r' ne) e') ∙ b

  pub record Many (r : ℕ) : Type 0 where
    pub count : eqb (block_count P table i r) (P.p i) ≡ true
    pub moved : outside P table i r ≡ true
    pub alone : (r' : ℕ) → r' < N → unshared P table i r r' ≡ true

  pub parted-many : (r : ℕ) → parted P table i r ≡ true → one r ≡ false → Many r
  unfolding parted
  parted-many r h e =
      let a = sym (cond-false (one r) _ _ e) ∙ h in
      let c : Bool = eqb (block_count P table i r) (P.p i) in
      let b = and_left (c && outside P table i r) _ a in
      record { count = and_left c _ b; moved = and_right c _ b; alone = all_below-elim N _ (and_right (c && outside P table i r) _ a) }

  pub one-parted : (r : ℕ) → one r ≡ true → ((r' : ℕ) → r' < N → ¬ (r ≡ r') → one r' ≡ true → differs P table i r r' ≡ true) → parted P table i r ≡ true
  unfolding parted
  one-parted r e h = cond-true (one r) _ _ e ∙ all_below-intro N _ (λ r' l.
      by_cases (ℕ_discrete r r') (λ q. or_left (eqb r r' || not (one r')) _ (or_left (eqb r r') _ (eq-eqb r r' q))) (λ q.
      by_cases (ℕ_discrete (block_count P table i r') 1) (λ e'. or_right (eqb r r' || not (one r')) _ (h r' l q (eq-eqb _ 1 e')))
      (λ e'. or_left (eqb r r' || not (one r')) _ (or_right (eqb r r') _ (ap not (ne_eqb _ 1 e'))))))

  pub many-parted : (r : ℕ) → one r ≡ false → Many r → parted P table i r ≡ true
  unfolding parted
  many-parted r e M = cond-false (one r) _ _ e ∙ and_intro _ _ (and_intro _ _ M.count M.moved) (all_below-intro N _ M.alone)

  apart-one : (r r' : ℕ) → one r ≡ true → one r' ≡ true → apart P table i r r' ≡ differs P table i r r'
  unfolding apart
  apart-one r r' e e' = cond-true (one r && one r') _ _ (and_intro _ _ e e')

  apart-many : (r r' : ℕ) → one r && one r' ≡ false → apart P table i r r' ≡ unshared P table i r r'
  unfolding apart
  apart-many r r' e = cond-false (one r && one r') _ _ e

  abbrev several : ℕ → Bool
  several r = eqb (block_count P table i r) (P.p i) && outside P table i r && unshared P table i r r

  pub quick-all : quick P table i ≡ true → (r : ℕ) → r < N → parted P table i r ≡ true
  unfolding quick
  quick-all h = all_below-elim N _ h

  there : quick P table i ≡ true → pairwise P table i ≡ true
  unfolding pairwise own
  there h = all_below-intro N _ (λ r' l. and_intro _ _ (its_own r' l (one r') refl) (all_below-intro r' _ (λ r a. pair r r' a l (one r) (one r') refl refl)))
    where
      its_own : (r : ℕ) → r < N → (b : Bool) → one r ≡ b → own P table i r ≡ true
      its_own r l true e = or_left (one r) _ e
      its_own r l false e =
          let M = parted-many r (quick-all h r l) e in
          or_right (one r) _ (and_intro _ _ (and_intro _ _ M.count M.moved) (M.alone r l))

      pair : (r r' : ℕ) → r < r' → r' < N → (b b' : Bool) → one r ≡ b → one r' ≡ b' → apart P table i r r' ≡ true
      pair r r' a l true true e e' = apart-one r r' e e' ∙ parted-one r (quick-all h r (omega arith)) e r' l (λ q. omega (arith, q)) e'
      pair r r' a l true false e e' = apart-many r r' (and_last (one r) (one r') e')
          ∙ unshared-sym r' r ((parted-many r' (quick-all h r' l) e').alone r (omega arith))
      pair r r' a l false b' e e' = apart-many r r' (ap (λ x. x && one r') e) ∙ (parted-many r (quick-all h r (omega arith)) e).alone r' l

  back : pairwise P table i ≡ true → quick P table i ≡ true
  unfolding pairwise quick own
  back h = all_below-intro N _ (λ r l. go r l (one r) refl)
    where
      each : (r : ℕ) → r < N → own P table i r && all_below r (λ q. apart P table i q r) ≡ true
      each = all_below-elim N _ h

      pair : (r r' : ℕ) → r < r' → r' < N → apart P table i r r' ≡ true
      pair r r' a l = all_below-elim r' _ (and_right (own P table i r') _ (each r' l)) r a

      itself : (r : ℕ) → r < N → one r ≡ false → several r ≡ true
      itself r l e = elim (or_cases (one r) (several r) (and_left (own P table i r) (all_below r (λ q. apart P table i q r)) (each r l))) [
        | first x ↦ absurd (true≢false (sym x ∙ e))
        | second x ↦ x
      ]

      differ : (r r' : ℕ) → r < N → r' < N → ¬ (r ≡ r') → one r ≡ true → one r' ≡ true → Dec (r < r') → differs P table i r r' ≡ true
      differ r r' a b ne e e' (yes l) = sym (apart-one r r' e e') ∙ pair r r' l b
      differ r r' a b ne e e' (no l) = differs-sym r' r (sym (apart-one r' r e' e) ∙ pair r' r (omega arith) a)

      share : (r r' : ℕ) → r < N → r' < N → one r ≡ false → unshared P table i r r ≡ true → Dec (r < r') → Dec (r' < r) → unshared P table i r r' ≡ true
      share r r' a b e s (yes l) d = sym (apart-many r r' (ap (λ x. x && one r') e)) ∙ pair r r' l b
      share r r' a b e s (no l) (yes k) = unshared-sym r' r (sym (apart-many r' r (and_last (one r') (one r) e)) ∙ pair r' r k a)
      share r r' a b e s (no l) (no k) = let q : r ≡ r' = omega arith in subst (λ x. unshared P table i r x ≡ true) q s

      go : (r : ℕ) → r < N → (b : Bool) → one r ≡ b → parted P table i r ≡ true
      go r l true e = one-parted r e (λ r' l' ne e'. differ r r' l l' ne e e' (dec_lt r r'))
      go r l false e =
          let c : Bool = eqb (block_count P table i r) (P.p i) in
          let t = itself r l e in
          let u = and_left (c && outside P table i r) _ t in
          many-parted r e (record {
            count = and_left c _ u;
            moved = and_right c _ u;
            alone = λ r' l'. share r r' l l' e (and_right (c && outside P table i r) _ t) (dec_lt r r') (dec_lt r' r);
          })

  pub quick-pairs : quick P table i ≡ pairwise P table i
  quick-pairs = same_test _ _ there back
