-- `two_at` reads two words.
use mathlib.Core.Path.{◌∙◌, ap₂}
use Prim.Native.Nat.{◌+◌, ◌*◌}
use native.Mathlib.Omega.{arith}
use Rattle.check_lines.proofs.two_at.Goals as goal

pub returns : goal.returns
returns c = record {
  is = ap₂ (λ a b. a + b * 4294967296) (c.up-a.ensures ∙ c.word_at.ensures) (c.up-b.ensures ∙ c.word_at-2.ensures);
  low = omega (arith, c.up-a.ensures, c.up-a.ensures, c.word_at.ensures);
}
