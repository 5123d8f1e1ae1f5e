-- `parse`: after i bytes, the words with these added.
use mathlib.Core.Path.{refl, ◌∙◌}
use native.Mathlib.Omega.{arith}
use Rattle.case_input.proofs.Parsed.{parsing-none, parsing-more, parsing-all}
use Rattle.case_input.proofs.parse.Goals as goal

pub loop-b-init : goal.loop-b-init
loop-b-init c = (parsing-none, refl)

pub word_behind-k-requires : goal.word_behind-k-requires
word_behind-k-requires c = omega (arith, c.loop-b.invariant.0.few)

pub loop-b-preserved : goal.loop-b-preserved
loop-b-preserved c = let loop = c.loop-b in
    let add = c.add_byte in
    (parsing-more loop.invariant.0 (omega arith) add.ensures c.word_behind-k.ensures, add.auto.words ∙ loop.invariant.1)

pub shape_of-words : goal.shape_of-words
shape_of-words c = c.loop-b.invariant.1

pub returns : goal.returns
returns c = parsing-all c.loop-b.invariant.0 (omega arith)
