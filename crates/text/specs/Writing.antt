-- What a writer leaves in the caller's buffer.
--
--   put b i s      b with s in place of what stands from i on
--   Wrote          b became c by writing s at a position
use Rattle.std.specs.Prelude.{◌≡◌, ℕ, ◌+◌, ◌≤◌, List, ◌++◌, length, take, drop}

unfoldable pub put : List ℕ → ℕ → List ℕ → List ℕ
put b i s = take i b ++ s ++ drop (i + length s) b

-- s stands from at up to next, and what stands before and behind is kept
pub record Wrote (b : List ℕ) (at : ℕ) (s : List ℕ) (c : List ℕ) (next : ℕ) : Type 0 where
  pub content : c ≡ put b at s
  pub end : next ≡ at + length s
  pub room : at + length s ≤ length b
