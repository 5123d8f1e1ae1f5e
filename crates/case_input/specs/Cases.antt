-- Where the cases of an input begin and end. A case is a line, a text, and a form feed; the last one may end with the input.
--
--   position b s       the first position of the byte b in s, or the length of s
--   found s k b        the first position of b in s from k on, or the length of s
--   after s k          the position after k, or the length of s
--   case_text s k       where the text of the case at k begins: after the first line end that follows its first byte
--   case_end s k        where that text ends: at the first form feed in it, or at the end of s
--   case_next s k       where the next case begins
--   CaseAt s k c       c has these three positions
use Rattle.std.specs.Prelude.{◌≡◌, cond, List, [], ◌∷◌, ℕ, suc, ◌+◌, length, drop, eqb, ltb}
use Rattle.case_input.specs.declared.Case.{Case}

unfoldable pub position : ℕ → List ℕ → ℕ
position b [] = 0
position b (x ∷ s) = cond (eqb x b) 0 (suc (position b s))

unfoldable pub found : List ℕ → ℕ → ℕ → ℕ
found s k b = k + position b (drop k s)

unfoldable pub after : List ℕ → ℕ → ℕ
after s k = cond (ltb k (length s)) (k + 1) k

abbrev pub case_text : List ℕ → ℕ → ℕ
case_text s k = after s (found s (k + 1) 10)

abbrev pub case_end : List ℕ → ℕ → ℕ
case_end s k = found s (case_text s k) 12

abbrev pub case_next : List ℕ → ℕ → ℕ
case_next s k = after s (case_end s k)

pub record CaseAt (s : List ℕ) (k : ℕ) (c : Case) : Type 0 where
  pub text_is : c.text ≡ case_text s k
  pub end_is : c.end ≡ case_end s k
  pub next_is : c.next ≡ case_next s k
