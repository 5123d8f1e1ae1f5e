-- `find_targets`: the targets are found above the generator on top and below j.
use mathlib.Core.Path.{ap, ◌∙◌}
use Prim.Native.Nat.{suc}
use native.Mathlib.Omega.{arith}
use Rattle.formulas.specs.Formulas.{start}
use Rattle.survey.specs.Below.{source_in}
use Rattle.survey.proofs.Level.{located-stored, located-target}
use Rattle.survey.proofs.Notes.{noted}
use Rattle.targets.proofs.Targets.{targeted-more}
use Rattle.targets.proofs.find_targets.Goals as goal

pub target-q-requires : goal.target-q-requires
target-q-requires c = (c.args.f.m, located-stored c.listed-d.ensures (suc c.loop-j.j) (omega arith))

pub loop-j-preserved : goal.loop-j-preserved
loop-j-preserved c = let l = c.loop-j in let f = c.args.f in
    let t = located-target c.listed-d.ensures _ _ (omega arith) (omega arith) c.target-q.ensures in
    let x = noted (λ n. n.number) c.args.notes.now c.requires.0.numbers_are _ t.1 ∙ ap (start (source_in f c.args.low.now c.args.rows.now)) t.0 in
    (omega arith, targeted-more _ _ _ _ _ l.targets (omega (arith, c.requires.3)) x c.landing.ensures l.invariant.1)
