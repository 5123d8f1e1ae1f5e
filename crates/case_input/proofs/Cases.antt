-- Laws of positions in an input.
--
--   found_here, found-on, found-end     the byte is at k; it is not; the input ends at k
--   after_next, after-end               the position after k, within the input and at its end
--   case-parts                          the parts of a case, each from the one before it
use mathlib.Core.Path.{◌≡◌, sym, ap, ◌∙◌}
use mathlib.Core.Bool.{Bool, cond}
use mathlib.Core.List.{List}
use Prim.Native.Nat.{ℕ, suc, ◌+◌, ◌<◌}
use native.Mathlib.Nat.{add-suc, suc-add}
use native.Mathlib.Numerals.{add-one}
use native.Mathlib.Omega.{arith}
use lib.ListN.{length, get_or, drop}
use lib.Seq.{drop-cons, drop-length}
use lib.Dec.{eqb}
use borrow.Author.Tests.{lt-ltb, le-ltb, eq-eqb, ne_eqb}
use Rattle.case_input.specs.Cases.{position, found, after, CaseAt}

module _ (s : List ℕ) (k b : ℕ) where
  module _ (l : k < length s) where
    -- the byte at k decides
    found-by : {t : Bool} → eqb (get_or s k 0) b ≡ t → found s k b ≡ k + cond t 0 (suc (position b (drop (suc k) s)))
    unfolding found position
    found-by e = ap (λ xs. k + position b xs) (drop-cons s k 0 l) ∙ ap (λ t. k + cond t 0 (suc (position b (drop (suc k) s)))) e

    pub found_here : get_or s k 0 ≡ b → found s k b ≡ k
    found_here e = found-by (eq-eqb (get_or s k 0) b e) ∙ omega arith

    pub found-on : ¬ (get_or s k 0 ≡ b) → found s k b ≡ found s (k + 1) b
    unfolding found
    found-on e = found-by (ne_eqb (get_or s k 0) b e) ∙ add-suc k _ ∙ sym (suc-add k _) ∙ ap (λ j. found s j b) (sym (add-one k))

  pub found-end : k ≡ length s → found s k b ≡ k
  unfolding found position
  found-end e = ap (λ (j : ℕ). k + position b (drop j s)) e ∙ ap (λ xs. k + position b xs) (drop-length s) ∙ omega arith

module _ (s : List ℕ) (k : ℕ) where
  pub after_next : k < length s → after s k ≡ k + 1
  unfolding after
  after_next l = ap (λ (t : Bool). cond t (k + 1) k) (lt-ltb k (length s) l)

  pub after-end : k ≡ length s → after s k ≡ k
  unfolding after
  after-end e = ap (λ (t : Bool). cond t (k + 1) k) (le-ltb k (length s) (omega arith))

  -- the parts of a case, each from the one before it
  pub case-parts : {line text end next : ℕ} → line ≡ found s (k + 1) 10 → text ≡ after s line → end ≡ found s text 12 → next ≡ after s end
      → CaseAt s k (record { text = text; end = end; next = next })
  case-parts l t e n =
      let begins = t ∙ ap (after s) l in
      let stops = e ∙ ap (λ j. found s j 12) begins in
      record { text_is = begins; end_is = stops; next_is = n ∙ ap (after s) stops }
