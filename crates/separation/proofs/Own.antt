-- The references of the blocks of one representation, told by columns.
--
--   own-refs        they differ pairwise exactly if no column before a block has the reference of the block
use mathlib.Core.Path.{◌≡◌, refl, sym, ◌∙◌, ap, ap₂}
use mathlib.Core.Logic.{by_cases}
use mathlib.Core.Bool.{Bool, true, ◌&&◌, ◌||◌, not}
use mathlib.Core.List.{List}
use Prim.Native.Nat.{ℕ, ◌<◌}
use native.Mathlib.Omega.{arith}
use native.Mathlib.Decide.{dec_lt}
use lib.Dec.{eqb}
use lib.ListN.{length}
use borrow.Author.Tests.{eq-eqb, ne_eqb}
use Rattle.definitions.specs.Lists.{all_below, all}
use Rattle.definitions.specs.Presentation.{Presentation}
use Rattle.definitions.specs.Monomial.{rep_of}
use Rattle.definitions.specs.Judgement.{cuts, whole_block}
use Rattle.numbers.proofs.Bools.{or_left, or_right, same_test}
use Rattle.numbers.proofs.Lists.{all_below-elim, all_below-intro}
use Rattle.separation.specs.Decision.{lower, upper, reference, unshared}
use Rattle.separation.specs.Apart.{fresh}
use Rattle.separation.proofs.Cutting.{cut, cuts-all}
use Rattle.separation.proofs.Pairs.{eqb-sym}
use Rattle.separation.proofs.Apart.{holder, block-at}

module _ (P : Presentation) (table : List ℕ) (i : ℕ) (r : ℕ)
    (low-pos : (q : ℕ) → q < length (lower P table i) → 0 < (rep_of (lower P table i) q).deg)
    (whole : all (whole_block (lower P table i) (rep_of (upper P table i) r)) (cuts (lower P table i) (rep_of (upper P table i) r)) ≡ true)
  where
    abbrev ref : ℕ → ℕ
    ref c = reference P table i r c

    abbrev at : ℕ → ℕ
    at b = cut (lower P table i) (rep_of (upper P table i) r) b

    abbrev deg : ℕ
    deg = (rep_of (upper P table i) r).deg

    passes : (q : ℕ → Bool) → all q (cuts (lower P table i) (rep_of (upper P table i) r)) ≡ true → (b : ℕ) → at b < deg → q (at b) ≡ true
    passes = block-at (lower P table i) (rep_of (upper P table i) r) low-pos whole

    abbrev other : ℕ → ℕ → Bool
    other o o' = (eqb r r && eqb o o') || not (eqb (ref o) (ref o'))

    other_differs : (o o' : ℕ) → ¬ (o ≡ o') → other o o' ≡ true → not (eqb (ref o) (ref o')) ≡ true
    other_differs o o' ne h = sym (ap (λ x. x || not (eqb (ref o) (ref o'))) (ap₂ (◌&&◌) (eq-eqb r r refl) (ne_eqb o o' ne))) ∙ h

    pub own-refs : unshared P table i r r ≡ all (fresh (rep_of (upper P table i) r)) (cuts (lower P table i) (rep_of (upper P table i) r))
    unfolding unshared fresh
    own-refs = same_test _ _
        (λ h. cuts-all (lower P table i) (rep_of (upper P table i) r) _ (λ b l. all_below-intro (at b) _ (λ c a.
        let (k, below, e) = holder (lower P table i) (rep_of (upper P table i) r) low-pos whole c (omega arith) in
        let t = passes (other (at k)) (passes (λ o. all (other o) (cuts (lower P table i) (rep_of (upper P table i) r))) h k (omega arith)) b l in
        ap (λ x. not (eqb x (ref (at b)))) e ∙ other_differs (at k) (at b) (λ q. omega (arith, q)) t)))
        (λ h.
        let earlier : (b k : ℕ) → at b < deg → at k < at b → not (eqb (ref (at k)) (ref (at b))) ≡ true
        = λ b k l a. all_below-elim (at b) _ (passes (λ o. all_below o (λ c. not (eqb (ref c) (ref o)))) h b l) (at k) a in
        cuts-all (lower P table i) (rep_of (upper P table i) r) _ (λ b l. cuts-all (lower P table i) (rep_of (upper P table i) r) _ (λ k l'.
        let same : Bool = eqb r r && eqb (at b) (at k) in
        by_cases (dec_lt (at b) (at k)) (λ a. or_right same _ (earlier k b l' a)) (λ a.
        by_cases (dec_lt (at k) (at b)) (λ d. or_right same _ (ap not (eqb-sym (ref (at b)) (ref (at k))) ∙ earlier b k l d))
        (λ d. or_left same _ (ap₂ (◌&&◌) (eq-eqb r r refl) (eq-eqb (at b) (at k) (omega arith))))))))
