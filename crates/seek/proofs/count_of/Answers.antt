-- `count_of` meets its contract: the line before a level ends says how many representations it has.
use mathlib.Core.Path.{◌∙◌}
use Prim.Native.Nat.{◌<◌}
use native.Mathlib.Omega.{arith}
use Rattle.seek.proofs.Halves.{lines-there}
use Rattle.seek.proofs.Seek.{zero-count, last-before, next-splits, next-before}
use Rattle.seek.proofs.count_of.Goals as goal

pub returns-then-i-eq0 : goal.returns-then-i-eq0
returns-then-i-eq0 c = zero-count c.args.s c.args.words.now c.requires.0 c.args.i c.if-i-eq0.true

pub reps_before-requires : goal.reps_before-requires
reps_before-requires c = let l = last-before c.args.s c.args.words.now c.requires.0 c.args.i c.if-i-eq0.false c.if-i-s.true in
    (l.some, lines-there c.args.words.now c.args.s.lines l.inside)

pub returns-then-i-s : goal.returns-then-i-s
returns-then-i-s c = let l = last-before c.args.s c.args.words.now c.requires.0 c.args.i c.if-i-eq0.false c.if-i-s.true in
    c.reps_before.ensures ∙ l.count

pub find-requires : goal.find-requires
find-requires c = (c.requires.0.lines_are, next-splits c.args.s c.args.words.now c.requires.0 c.args.i (omega (arith, c.requires.1, c.if-i-s.false)))

pub reps_before-requires-2 : goal.reps_before-requires-2
reps_before-requires-2 c = let below : c.args.i < c.args.s.gens = omega (arith, c.requires.1, c.if-i-s.false) in
    let l = next-before c.args.s c.args.words.now c.requires.0 c.args.i c.find.result c.if-i-eq0.false below c.find.ensures in
    (l.some, lines-there c.args.words.now c.find.result l.inside)

pub returns : goal.returns
returns c = let below : c.args.i < c.args.s.gens = omega (arith, c.requires.1, c.if-i-s.false) in
    let l = next-before c.args.s c.args.words.now c.requires.0 c.args.i c.find.result c.if-i-eq0.false below c.find.ensures in
    c.reps_before-2.ensures ∙ l.count
