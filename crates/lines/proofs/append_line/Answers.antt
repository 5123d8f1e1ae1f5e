-- `append_line` appends one line.
use mathlib.Core.Path.{ap, ◌∙◌}
use Prim.Native.Nat.{◌+◌, ◌*◌, ◌%◌}
use lib.ListN.{take}
use Rattle.text.proofs.Writing.{wrote_as}
use Rattle.lines.proofs.Written.{block-single}
use Rattle.lines.proofs.append_line.Goals as goal

pub returns : goal.returns
returns c = let a = c.args in
    let W = take (8 * a.low) a.words.now in
    let word = c.word_at-e.ensures in
    let sum = c.add_mod.ensures.0 in
    wrote_as c.put_line.ensures (block-single _ _ _ W _ c.requires.0 c.requires.2 (sum ∙ ap (λ t. (t + a.b.by) % a.m) word))
