-- A level on which no reference is shared but by other exponents: what each representation owns decides.
--
--   fresh-single         blocks with references of their own, and one reference: one block
--   own-single           so of a representation that owns its blocks
--   unshared-apart       two that own theirs, and share no reference but by other exponents, are apart
--   unshared-pairs       so the pairs of a level are apart exactly if each owns its blocks
use mathlib.Core.Path.{◌≡◌, refl, sym, ◌∙◌, ap, subst}
use mathlib.Core.Bool.{Bool, true, false, ◌&&◌, not, true≢false}
use mathlib.Core.List.{List}
use Prim.Native.Nat.{ℕ, suc, ◌+◌, ◌≤◌, ◌<◌}
use native.Mathlib.Decide.{ℕ_discrete}
use native.Mathlib.Omega.{arith}
use lib.Dec.{eqb}
use lib.ListN.{length}
use borrow.Author.Tests.{eqb-true, eq-eqb, ne_eqb}
use Rattle.definitions.specs.Lists.{all_below, all}
use Rattle.definitions.specs.Presentation.{Presentation}
use Rattle.definitions.specs.Monomial.{Rep, Level, rep_of}
use Rattle.definitions.specs.Table.{level_at}
use Rattle.definitions.specs.Judgement.{cuts, whole_block}
use Rattle.numbers.proofs.Bools.{and_left, and_right, and_intro, OneOf, first, second, or_cases, cond-true, cond-false, same_test}
use Rattle.numbers.proofs.Lists.{all_below-elim, all_below-intro}
use Rattle.separation.specs.Decision.{lower, upper, reference, block_count, outside, unshared, own, apart, pairwise}
use Rattle.separation.specs.Apart.{common_free, fresh, apart_at}
use Rattle.separation.proofs.Cutting.{all_both, cut, cut_at}
use Rattle.separation.proofs.Apart.{is_whole, wide, one_block, apart-columns}
use Rattle.separation.proofs.Own.{own-refs}
use Rattle.claims.specs.Claims.{OneReference, top_exponent, Apart, Unshared}

-- ---- One representation

module _ (low : Level) (D : Rep) (low-pos : (r : ℕ) → r < length low → 0 < (rep_of low r).deg) (whole : all (whole_block low D) (cuts low D) ≡ true)
    (pos : 0 < D.deg) (single : OneReference D)
  where
    abbrev width : ℕ
    width = (rep_of low (D.ref 0 0)).deg

    pub fresh-single : all (fresh D) (cuts low D) ≡ true → (rep_of low (D.ref 0 0)).deg ≡ D.deg
    fresh-single h = go (ℕ_discrete width D.deg)
      where
        both : ℕ → Bool
        both o = whole_block low D o && fresh D o

        wide_both : (o : ℕ) → both o ≡ true → 0 < (rep_of low (D.ref 0 o)).deg
        wide_both o t = wide low D low-pos whole o (and_left (whole_block low D o) (fresh D o) t)

        -- the first block ends within the columns
        fits : width < D.deg → ⊥
        fits l =
            let C = cut_at low D both wide_both (all_both (whole_block low D) (fresh D) (cuts low D) whole h) width l in
            let o : ℕ = cut low D C.b in
            let here : o < D.deg = omega (arith, C.is) in
            let same : (rep_of low (D.ref 0 o)).deg ≡ width = ap (λ f. (rep_of low f).deg) (single o here) in
            let later : 0 < o = omega (arith, C.is, C.inside, same) in
            let other = own_at o later (and_right (whole_block low D o) (fresh D o) C.passes) in
            true≢false (sym other ∙ ap not (eq-eqb _ _ (sym (single o here))))
          where
            own_at : (o : ℕ) → 0 < o → fresh D o ≡ true → not (eqb (D.ref 0 0) (D.ref 0 o)) ≡ true
            own_at o l t = unfold fresh in (all_below-elim o (λ c. not (eqb (D.ref 0 c) (D.ref 0 o))) t 0 l)

        go : Dec (width ≡ D.deg) → width ≡ D.deg
        go (yes e) = e
        go (no e) = absurd (fits (omega (arith, start)))
          where
            start : width ≤ D.deg
            start =
                let C = cut_at low D (whole_block low D) (wide low D low-pos whole) whole 0 pos in
                let e : cut low D C.b ≡ 0 = omega (arith, C.is) in
                let f = subst (λ o. o + (rep_of low (D.ref 0 o)).deg ≤ D.deg) e (is_whole low D low-pos whole (cut low D C.b) C.passes).fits in
                omega (arith, f)

-- ---- Two of a level

module _ (P : Presentation) (table : List ℕ) (i : ℕ)
    (low-pos : (r : ℕ) → r < length (lower P table i) → 0 < (rep_of (lower P table i) r).deg)
    (pos : (r : ℕ) → r < length (upper P table i) → 0 < (rep_of (upper P table i) r).deg)
    (whole : (r : ℕ) → r < length (upper P table i) → all (whole_block (lower P table i) (rep_of (upper P table i) r)) (cuts (lower P table i) (rep_of (upper P table i) r)) ≡ true)
  where
    abbrev D : ℕ → Rep
    D r = rep_of (upper P table i) r

    abbrev N : ℕ
    N = length (upper P table i)

    abbrev wide_at : ℕ → ℕ
    wide_at r = (rep_of (lower P table i) (reference P table i r 0)).deg

    own-single : (r : ℕ) → r < N → own P table i r ≡ true → OneReference (D r) → wide_at r ≡ (D r).deg
    unfolding own block_count
    own-single r l h single = go (or_cases _ _ h)
      where
        low : Level
        low = lower P table i

        go : OneOf (eqb (length (cuts low (D r))) 1) (eqb (length (cuts low (D r))) (P.p i) && outside P table i r && unshared P table i r r) → wide_at r ≡ (D r).deg
        go (first e) = eqb-true _ _ (sym (one_block low (D r) low-pos (whole r l) (pos r l)) ∙ e)
        go (second e) =
            fresh-single low (D r) low-pos (whole r l) (pos r l) single
            (sym (own-refs P table i r low-pos (whole r l)) ∙ and_right (eqb (length (cuts low (D r))) (P.p i) && outside P table i r) _ e)

    module _ (r r' : ℕ) (l : r < N) (l' : r' < N) (ne : ¬ (r ≡ r')) (o : own P table i r ≡ true) (o' : own P table i r' ≡ true) (A : Apart i (D r) (D r')) where
      abbrev one : Bool
      one = eqb (wide_at r') (D r').deg

      abbrev alike : Bool
      alike = one && eqb (D r).deg (D r').deg && eqb (reference P table i r 0) (reference P table i r' 0)

      -- where a reference is shared both are one block over it
      shared : (c c' : ℕ) → c < (D r).deg → c' < (D r').deg → reference P table i r c ≡ reference P table i r' c' → alike ≡ true
      shared c c' a a' e =
          let (s, s', n) = A c c' a a' e in
          let w = own-single r l o s in
          let w' = own-single r' l' o' s' in
          let f : reference P table i r 0 ≡ reference P table i r' 0 = sym (s c a) ∙ e ∙ s' c' a' in
          let d : (D r).deg ≡ (D r').deg = sym w ∙ ap (λ x. (rep_of (lower P table i) x).deg) f ∙ w' in
          and_intro _ _ (and_intro _ _ (eq-eqb _ _ w') (eq-eqb _ _ d)) (eq-eqb _ _ f)

      pub unshared-apart : apart P table i r r' ≡ true
      unshared-apart = apart-columns P table i low-pos pos whole r r' l l' ne ∙ go alike refl
        where
          go : (b : Bool) → alike ≡ b → apart_at i one (D r) (D r') ≡ true
          go true h =
              let f = eqb-true _ _ (and_right (one && eqb (D r).deg (D r').deg) _ h) in
              let (s, s', n) = A 0 0 (pos r l) (pos r' l') f in
              unfold apart_at in (cond-true alike _ _ h ∙ ap not (ne_eqb (top_exponent i (D r)) (top_exponent i (D r')) n))
          go false h = unfold apart_at in (cond-false alike _ _ h ∙ free)
            where
              free : common_free (D r) (D r') ≡ true
              free = unfold common_free in (all_below-intro (D r).deg _ (λ c a. all_below-intro (D r').deg _ (λ c' a'.
                  ap not (ne_eqb _ _ (λ e. true≢false (sym (shared c c' a a' e) ∙ h))))))

    pub unshared-pairs : Unshared i (level_at P.n table (suc i)) → all_below (length (level_at P.n table (suc i))) (own P table i) ≡ pairwise P table i
    unfolding pairwise
    unshared-pairs U = same_test _ _ to from
      where
        to : all_below N (own P table i) ≡ true → all_below N (λ r'. own P table i r' && all_below r' (λ r. apart P table i r r')) ≡ true
        to h = all_below-intro N _ (λ r' l'. and_intro _ _ (all_below-elim N _ h r' l') (all_below-intro r' _ (λ r k.
            let l : r < N = omega arith in
            let ne : ¬ (r ≡ r') = λ e. omega (arith, e) in
            unshared-apart r r' l l' ne (all_below-elim N _ h r l) (all_below-elim N _ h r' l') (U.apart r r' l l' ne))))

        from : all_below N (λ r'. own P table i r' && all_below r' (λ r. apart P table i r r')) ≡ true → all_below N (own P table i) ≡ true
        from h = all_below-intro N _ (λ r l. and_left (own P table i r) _ (all_below-elim N _ h r l))
