-- What is asked of two representations of a well-formed level, told by columns: no block is looked for but the first.
--
--   holder, block-at    the block of a column, and what it passes
--   block-refs          a test of the references of all blocks is a test of those of all columns
--   one_block           there is one block exactly if the first is as wide as the representation
--   apart-columns       two representations are apart: other exponents where both are one block over one reference, and else no
--                       reference in common
use mathlib.Core.Path.{◌≡◌, refl, sym, ◌∙◌, ap}
use mathlib.Core.Logic.{by_cases}
use mathlib.Core.Bool.{Bool, true, false, ◌&&◌, ◌||◌, not, true≢false}
use mathlib.Core.List.{List}
use Prim.Native.Nat.{ℕ, ◌+◌, ◌≤◌, ◌<◌}
use native.Mathlib.Omega.{arith}
use native.Mathlib.Decide.{dec_lt, ℕ_discrete}
use lib.Dec.{eqb, leb, ltb}
use lib.ListN.{length}
use borrow.Author.Tests.{eqb-true, ltb-true, leb-true, eq-eqb, ne_eqb}
use Rattle.definitions.specs.Lists.{all_below, all}
use Rattle.definitions.specs.Presentation.{Presentation}
use Rattle.definitions.specs.Monomial.{col, Rep, Level, rep_of}
use Rattle.definitions.specs.Judgement.{cuts, whole_block}
use Rattle.numbers.proofs.Bools.{and_left, and_right, and_intro, and_last, cond-true, cond-false, same_test, refuted}
use Rattle.numbers.proofs.Lists.{all_below-elim, all_below-intro, all_below-below}
use Rattle.separation.specs.Decision.{lower, upper, reference, block_starts, block_count, unshared, differs, apart}
use Rattle.separation.specs.Apart.{common_free, apart_at}
use Rattle.separation.proofs.Cutting.{cut, cut-zero, cut-suc, cut_at, cuts-end, cut_below, cuts-each, cuts-also, cuts-all}

-- ---- The blocks of one representation

module _ (low : Level) (D : Rep) (low-pos : (r : ℕ) → r < length low → 0 < (rep_of low r).deg) (whole : all (whole_block low D) (cuts low D) ≡ true) where
  abbrev ref : ℕ → ℕ
  ref c = D.ref 0 c

  -- what a whole block is
  pub record WholeAt (o : ℕ) : Type 0 where
    pub listed : D.ref 0 o < length low
    pub fits : o + (rep_of low (ref o)).deg ≤ D.deg
    pub same : (c : ℕ) → c < (rep_of low (D.ref 0 o)).deg → D.ref 0 (o + c) ≡ D.ref 0 o

  pub is_whole : (o : ℕ) → whole_block low D o ≡ true → WholeAt o
  unfolding whole_block
  is_whole o h =
      let w : ℕ = (rep_of low (ref o)).deg in
      let a : Bool = ltb (ref o) (length low) in
      let b : Bool = leb (o + w) D.deg in
      let c : Bool = all_below w (λ c. eqb (ref (o + c)) (ref o)) in
      let ab = and_left (a && b) c h in
      record {
        listed = ltb-true (ref o) (length low) (and_left a b ab);
        fits = leb-true (o + w) D.deg (and_right a b ab);
        same = λ k l. eqb-true (ref (o + k)) (ref o) (all_below-elim w _ (and_right (a && b) c h) k l);
      }

  pub wide : (o : ℕ) → whole_block low D o ≡ true → 0 < (rep_of low (D.ref 0 o)).deg
  wide o h = low-pos (ref o) (is_whole o h).listed

  -- the block of a column has its reference, and begins no later
  pub holder : (c : ℕ) → c < D.deg → (b : ℕ) × (cut low D b ≤ c) × (D.ref 0 c ≡ D.ref 0 (cut low D b))
  holder c l =
      let C = cut_at low D (whole_block low D) wide whole c l in
      (C.b, omega (arith, C.is), ap ref (sym C.is) ∙ (is_whole (cut low D C.b) C.passes).same C.κ C.inside)

  -- what every block passes, block b passes
  pub block-at : (q : ℕ → Bool) → all q (cuts low D) ≡ true → (b : ℕ) → cut low D b < D.deg → q (cut low D b) ≡ true
  block-at q h b l = cuts-also low D (whole_block low D) q wide whole h b l

  pub block-refs : (q : ℕ → Bool) → all (λ o. q (D.ref 0 o)) (cuts low D) ≡ all_below D.deg (λ c. q (D.ref 0 c))
  block-refs q = same_test _ _
      (λ h. all_below-intro D.deg _ (λ c l. let (b, k, e) = holder c l in ap q e ∙ block-at (λ o. q (ref o)) h b (omega arith)))
      (λ h. cuts-all low D (λ o. q (ref o)) (λ b l. all_below-elim D.deg _ h (cut low D b) l))

  first-cut : cut low D 1 ≡ (rep_of low (ref 0)).deg
  first-cut =
      let z : 0 + (rep_of low (ref 0)).deg ≡ (rep_of low (ref 0)).deg = omega arith in
      cut-suc low D 0 ∙ ap (λ o. o + (rep_of low (ref o)).deg) (cut-zero low D) ∙ z

  pub one_block : 0 < D.deg → eqb (length (cuts low D)) 1 ≡ eqb (rep_of low (D.ref 0 0)).deg D.deg
  one_block pos =
      let N : ℕ = length (cuts low D) in
      let end : cut low D N ≡ D.deg = cuts-end low D (whole_block low D) wide (λ o h. (is_whole o h).fits) whole in
      let to_one : (rep_of low (ref 0)).deg ≡ D.deg → N ≡ 1 = λ e.
      by_cases (dec_lt 1 N) (λ l. omega (arith, cut_below low D 1 l, first-cut, e)) (λ l.
      by_cases (ℕ_discrete N 0) (λ q. omega (arith, sym end ∙ ap (cut low D) q ∙ cut-zero low D)) (λ q. omega arith)) in
      same_test _ _ (λ h. eq-eqb _ _ (sym first-cut ∙ ap (cut low D) (sym (eqb-true N 1 h)) ∙ end)) (λ h. eq-eqb N 1 (to_one (eqb-true _ _ h)))

-- ---- Two representations

module _ (P : Presentation) (table : List ℕ) (i : ℕ)
    (low-pos : (r : ℕ) → r < length (lower P table i) → 0 < (rep_of (lower P table i) r).deg)
    (pos : (r : ℕ) → r < length (upper P table i) → 0 < (rep_of (upper P table i) r).deg)
    (whole : (r : ℕ) → r < length (upper P table i)
    → all (whole_block (lower P table i) (rep_of (upper P table i) r)) (cuts (lower P table i) (rep_of (upper P table i) r)) ≡ true)
  where
    abbrev D : ℕ → Rep
    D r = rep_of (upper P table i) r

    abbrev N : ℕ
    N = length (upper P table i)

    abbrev one : ℕ → Bool
    one r = eqb (block_count P table i r) 1

    abbrev width : ℕ → ℕ
    width r = (rep_of (lower P table i) (reference P table i r 0)).deg

    one_is : (r : ℕ) → r < N → one r ≡ eqb (width r) (D r).deg
    unfolding block_count
    one_is r l = one_block (lower P table i) (D r) low-pos (whole r l) (pos r l)

    free-is : (r r' : ℕ) → r < N → r' < N → ¬ (r ≡ r') → unshared P table i r r' ≡ common_free (D r) (D r')
    unfolding unshared common_free
    free-is r r' l l' ne =
        ap (λ e. all (λ o. all (λ o'. (e && eqb o o') || not (eqb (reference P table i r o) (reference P table i r' o'))) (block_starts P table i r'))
        (block_starts P table i r)) (ne_eqb r r' ne)
        ∙ block-refs (lower P table i) (D r) low-pos (whole r l) (λ x. all (λ o'. not (eqb x (reference P table i r' o'))) (block_starts P table i r'))
        ∙ all_below-below (D r).deg _ _ (λ c a. block-refs (lower P table i) (D r') low-pos (whole r' l') (λ y. not (eqb (reference P table i r c) y)))

    -- all columns of a representation of one block have its reference
    only-ref : (r : ℕ) → r < N → one r ≡ true → (c : ℕ) → c < (D r).deg → reference P table i r c ≡ reference P table i r 0
    unfolding cut
    only-ref r l e c h =
        let low : Level = lower P table i in
        let w : width r ≡ (D r).deg = eqb-true (width r) (D r).deg (sym (one_is r l) ∙ e) in
        let t = cuts-each low (D r) (whole_block low (D r)) (wide low (D r) low-pos (whole r l)) (whole r l) 0 (pos r l) in
        let z : c ≡ 0 + c = omega arith in
        ap (reference P table i r) z ∙ (is_whole low (D r) low-pos (whole r l) 0 t).same c (omega arith)

    module _ (r r' : ℕ) (l : r < N) (l' : r' < N) (ne : ¬ (r ≡ r')) where
      abbrev single : Bool
      single = eqb (width r') (D r').deg

      abbrev alike : Bool
      alike = single && eqb (D r).deg (D r').deg && eqb (reference P table i r 0) (reference P table i r' 0)

      abbrev exp : ℕ → ℕ
      exp r = (col ((D r).matrix i) 0).exp

      -- representations of one block: over one reference they have one degree, and over two no reference in common
      over : one r ≡ true → one r' ≡ true → Dec (reference P table i r 0 ≡ reference P table i r' 0) → differs P table i r r' ≡ apart_at i single (D r) (D r')
      unfolding differs apart_at common_free
      over e e' (yes q) =
          let a = eqb-true (width r) (D r).deg (sym (one_is r l) ∙ e) in
          let s = sym (one_is r' l') ∙ e' in
          let d : (D r).deg ≡ (D r').deg = sym a ∙ ap (λ x. (rep_of (lower P table i) x).deg) q ∙ eqb-true (width r') (D r').deg s in
          ap (λ b. not b || not (eqb (exp r) (exp r'))) (eq-eqb (reference P table i r 0) (reference P table i r' 0) q)
          ∙ sym (cond-true alike _ (common_free (D r) (D r')) (and_intro _ _ (and_intro _ _ s (eq-eqb (D r).deg (D r').deg d)) (eq-eqb _ _ q)))
      over e e' (no q) =
          let f = ne_eqb (reference P table i r 0) (reference P table i r' 0) q in
          let free : common_free (D r) (D r') ≡ true = all_below-intro (D r).deg _ (λ c a. all_below-intro (D r').deg _ (λ c' a'.
          ap not (ne_eqb (reference P table i r c) (reference P table i r' c') (λ z. q (sym (only-ref r l e c a) ∙ z ∙ only-ref r' l' e' c' a'))))) in
          ap (λ b. not b || not (eqb (exp r) (exp r'))) f
          ∙ sym (cond-false alike (not (eqb (exp r) (exp r'))) (common_free (D r) (D r')) (and_last (single && eqb (D r).deg (D r').deg) _ f) ∙ free)

      unlike : one r && one r' ≡ false → alike ≡ false
      unlike h = sym (refuted alike (λ t.
          let ab = and_left (single && eqb (D r).deg (D r').deg) _ t in
          let s = and_left single _ ab in
          let q = eqb-true (reference P table i r 0) (reference P table i r' 0) (and_right (single && eqb (D r).deg (D r').deg) _ t) in
          let d = ap (λ x. (rep_of (lower P table i) x).deg) q ∙ eqb-true (width r') (D r').deg s ∙ sym (eqb-true _ _ (and_right single _ ab)) in
          true≢false (sym (and_intro (one r) (one r') (one_is r l ∙ eq-eqb (width r) (D r).deg d) (one_is r' l' ∙ s)) ∙ h)))

      pub apart-columns : apart P table i r r'
          ≡ apart_at i (eqb (rep_of (lower P table i) (reference P table i r' 0)).deg (rep_of (upper P table i) r').deg) (rep_of (upper P table i) r)
          (rep_of (upper P table i) r')
      unfolding apart apart_at
      apart-columns = go (one r && one r') refl
        where
          go : (b : Bool) → one r && one r' ≡ b → apart P table i r r' ≡ apart_at i single (D r) (D r')
          go true e = cond-true (one r && one r') _ _ e
              ∙ over (and_left (one r) (one r') e) (and_right (one r) (one r') e) (ℕ_discrete (reference P table i r 0) (reference P table i r' 0))
          go false e = cond-false (one r && one r') _ _ e ∙ free-is r r' l l' ne ∙ sym (cond-false alike _ (common_free (D r) (D r')) (unlike e))
