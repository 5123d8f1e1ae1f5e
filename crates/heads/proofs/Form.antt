-- Refusal 21 in two parts: a walk over the heads of the lines, and what is asked of each representation beside its degree.
--
--   formed-body       a representation that is formed passes the tests beside its degree
--   form-decides      a table is well formed exactly if both pass
use mathlib.Core.Path.{◌≡◌, refl, sym, ◌∙◌, subst}
use mathlib.Core.Bool.{Bool, true, false, ◌&&◌, not}
use mathlib.Core.List.{List}
use Prim.Native.Nat.{ℕ, suc, ◌*◌, ◌%◌, ◌≤◌, ◌<◌}
use lib.Dec.{eqb, leb, ltb}
use lib.ListN.{length}
use borrow.Author.Tests.{lt-ltb, le-leb, leb-true}
use Rattle.definitions.specs.Lists.{all_below}
use Rattle.definitions.specs.Presentation.{line_words, Presentation, order}
use Rattle.definitions.specs.Monomial.{valid, Rep, rep_of}
use Rattle.definitions.specs.Table.{level_at, complete}
use Rattle.definitions.specs.Judgement.{everywhere, matrices_valid, blocks_whole, targets_listed, malformed}
use Rattle.numbers.proofs.Bools.{and_left, and_right, and_intro, same_test}
use Rattle.clifford.proofs.Everywhere.{everywhere-intro, everywhere-elim}
use Rattle.heads.specs.Walk.{heads_ok}
use Rattle.heads.specs.Form.{body_ok}
use Rattle.heads.proofs.Going.{heads-whole, heads-complete, heads-degrees, heads-all}

not-not : (b : Bool) → not (not b) ≡ b
not-not true = refl
not-not false = refl

module _ (P : Presentation) (m : ℕ) (T : List ℕ) where
  abbrev D : ℕ → ℕ → Rep
  D i r = rep_of (level_at P.n T (suc i)) r

  abbrev well_formed : ℕ → Rep → Bool
  well_formed i D = matrices_valid P m T i D && blocks_whole P m T i D && targets_listed P m T i D

  -- ---- The degree beside the rest

  module _ (i : ℕ) (D : Rep) where
    abbrev positive : Bool
    positive = ltb 0 D.deg

    abbrev bounded : Bool
    bounded = leb (D.deg * D.deg) (order P i)

    abbrev matrices : Bool
    matrices = all_below P.n (λ g. valid m D.deg (D.matrix g))

    abbrev blocks : Bool
    blocks = blocks_whole P m T i D

    abbrev targets : Bool
    targets = targets_listed P m T i D

    parts : well_formed i D ≡ true → (D.deg * D.deg ≤ order P i) × (body_ok P m T i D ≡ true)
    unfolding matrices_valid body_ok
    parts h =
        let h₃ = and_left (positive && bounded && matrices && blocks) targets h in
        let h₂ = and_left (positive && bounded && matrices) blocks h₃ in
        let h₁ = and_left (positive && bounded) matrices h₂ in
        let b = and_intro matrices blocks (and_right (positive && bounded) matrices h₂) (and_right (positive && bounded && matrices) blocks h₃) in (
          leb-true (D.deg * D.deg) (order P i) (and_right positive bounded h₁),
          and_intro (matrices && blocks) targets b (and_right (positive && bounded && matrices && blocks) targets h),
        )

    -- what is asked beside the degree
    pub formed-body : matrices_valid P m T i D && blocks_whole P m T i D && targets_listed P m T i D ≡ true → body_ok P m T i D ≡ true
    formed-body h = (parts h).1

    whole : 0 < D.deg → D.deg * D.deg ≤ order P i → body_ok P m T i D ≡ true → well_formed i D ≡ true
    unfolding matrices_valid body_ok
    whole p q h =
        let b = and_left (matrices && blocks) targets h in
        let d = and_intro positive bounded (lt-ltb 0 D.deg p) (le-leb (D.deg * D.deg) (order P i) q) in
        let c = and_intro (positive && bounded) matrices d (and_left matrices blocks b) in
        and_intro _ targets (and_intro _ blocks c (and_right matrices blocks b)) (and_right (matrices && blocks) targets h)

  -- ---- Both parts; ord may be any array of the orders

  module _ (some : 0 < P.n) (ord : ℕ → ℕ) (ord-is : (k : ℕ) → k < P.n → ord (suc k) ≡ order P (suc k)) where
    abbrev lines : Bool
    lines = eqb (length T % line_words) 0

    abbrev each : Bool
    each = everywhere P m T (λ i D. matrices_valid P m T i D && blocks_whole P m T i D && targets_listed P m T i D)

    apart : lines && complete P.n T && each ≡ true → heads_ok P.n T ord && everywhere P m T (body_ok P m T) ≡ true
    apart h =
        let c = and_right lines (complete P.n T) (and_left (lines && complete P.n T) each h) in
        let e = everywhere-elim P m T well_formed (and_right (lines && complete P.n T) each h) in
        and_intro (heads_ok P.n T ord) _
        (heads-all P.n T ord some c (λ k r a b. subst (λ z. (D k r).deg * (D k r).deg ≤ z) (sym (ord-is k a)) (parts (suc k) (D k r) (e k a r b)).0))
        (everywhere-intro P m T (body_ok P m T) (λ k a r b. (parts (suc k) (D k r) (e k a r b)).1))

    together : heads_ok P.n T ord && everywhere P m T (body_ok P m T) ≡ true → lines && complete P.n T && each ≡ true
    together h =
        let heads = and_left (heads_ok P.n T ord) (everywhere P m T (body_ok P m T)) h in
        let body = everywhere-elim P m T (body_ok P m T) (and_right (heads_ok P.n T ord) (everywhere P m T (body_ok P m T)) h) in
        and_intro (lines && complete P.n T) each (and_intro lines _ (heads-whole P.n T ord heads) (heads-complete P.n T ord some heads))
        (everywhere-intro P m T well_formed (λ k a r b.
        let (p, q) = heads-degrees P.n T ord some heads k r a b in
        whole (suc k) (D k r) p (subst (λ z. (D k r).deg * (D k r).deg ≤ z) (ord-is k a) q) (body k a r b)))

    pub form-decides : not (malformed P m T) ≡ (heads_ok P.n T ord && everywhere P m T (body_ok P m T))
    unfolding malformed
    form-decides = not-not _ ∙ same_test _ _ apart together
