-- `reference` reads the word of a pair, and reduces.
use mathlib.Core.Path.{refl, sym, ap, ◌∙◌}
use Prim.Native.Nat.{suc, ◌*◌, ◌%◌, ◌<◌}
use native.Mathlib.Omega.{arith}
use native.Mathlib.Numerals.{add-one}
use lib.ListN.{get_or}
use Rattle.numbers.proofs.Bools.{cond-eq, cond-ne}
use Rattle.first.specs.Roots.{root_ref}
use Rattle.first.proofs.Lines.{word_read}
use Rattle.first.proofs.reference.Goals.{After-word-w}
use Rattle.first.proofs.reference.Goals as goal

small : (c : After-word-w) → get_or c.word-w.result 0 0 < c.args.p
small c = let v = word_read c.args.rows.now c.word-w.result _ c.args.g c.word-w.ensures refl in
    omega (arith, v, c.requires.4.below c.args.g (omega (arith, c.if-g-eq0.false)) c.requires.1)

pub returns-then-g-eq0 : goal.returns-then-g-eq0
unfolding root_ref
returns-then-g-eq0 c = sym (cond-eq c.args.g 0 0 _ c.if-g-eq0.true)

pub returns : goal.returns
unfolding root_ref
returns c = let v = word_read c.args.rows.now c.word-w.result _ c.args.g c.word-w.ensures refl in
    ap (λ x. c.args.k * x % c.args.p) (add-one _ ∙ ap suc v) ∙ sym (cond-ne _ 0 0 _ c.if-g-eq0.false)
