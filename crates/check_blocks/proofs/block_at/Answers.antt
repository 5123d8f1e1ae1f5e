-- `block_at` finds what the word of the block's first column names.
use mathlib.Core.Path.{◌∙◌, ap}
use Prim.Native.Nat.{◌+◌}
use native.Mathlib.Omega.{arith}
use Rattle.check_blocks.proofs.Blocks.{column-there, whole-listed, whole-refers}
use Rattle.check_blocks.proofs.block_at.Goals as goal

pub word_at-r-requires : goal.word_at-r-requires
word_at-r-requires c = let f = column-there c.requires.0 c.args.o c.requires.2 in
    (omega (arith, f, c.up.ensures), omega arith)

pub found_near-requires : goal.found_near-requires
found_near-requires c = let a = c.args in
    let line = ap (λ x. a.d.line + x) c.up.ensures in
    let M = c.requires.0 in
    let x = whole-listed M a.o c.requires.3 c.up-2.result _ (c.up-2.ensures ∙ c.word_at-r.ensures) line in
    (M.formed.whole, c.requires.1, omega (arith, M.found.level.1), x)

pub returns : goal.returns
returns c = let a = c.args in
    let line = ap (λ x. a.d.line + x) c.up.ensures in
    whole-refers c.requires.0 a.o c.requires.3 c.up-2.result _ (c.up-2.ensures ∙ c.word_at-r.ensures) line c.found_near.ensures
