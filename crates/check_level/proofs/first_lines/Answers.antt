-- `first_lines` goes from run to run of representations of one degree.
use borrow.Author.Tests.{eqb-true, eq-eqb}
use mathlib.Core.Path.{sym, ◌∙◌, subst}
use native.Mathlib.Omega.{arith}
use Rattle.seek.specs.Seek.{Found}
use Rattle.seek.proofs.Seek.{whole-some, found-there}
use Rattle.check_blocks.proofs.Squares.{left-none, left-all}
use Rattle.check_blocks.specs.Squares.{squares_in}
use Rattle.check_level.proofs.Lines.{noted-none, noted-all, left-ran}
use Rattle.check_level.proofs.first_lines.Goals as goal

pub found-d-requires : goal.found-d-requires
found-d-requires c = let a = c.args in
    (c.requires.0, c.requires.2, c.requires.3, whole-some a.s a.words.now c.requires.0 a.i c.requires.2 c.requires.3)

pub loop-left-init : goal.loop-left-init
loop-left-init c = let a = c.args in
    (noted-none, c.found-d.ensures, left-none a.s.gens a.words.now a.i a.order c.up-left.result c.up-left.ensures)

pub run_lines-e-requires : goal.run_lines-e-requires
run_lines-e-requires c = record {
  whole = c.requires.0;
  short = c.requires.1;
  found = c.loop-left.invariant.1;
  counts = c.count_of-reps.ensures;
  room = omega (arith, c.if-firsts-at.false, c.requires.4, c.loop-left.invariant.0.size);
}

pub returns-then-left-eq0 : goal.returns-then-left-eq0
returns-then-left-eq0 c = let l = c.loop-left in
    let a = c.args in
    let T = a.words.now in
    let n = c.count_of-reps.ensures in
    let R = c.run_lines-e.ensures in
    let L = left-ran l.invariant.2 l.invariant.1.positive R c.square-q.ensures c.if-left-q.false in
    let q = sym (left-all a.s.gens T a.i a.order L (sym n ∙ sym c.if-r-reps.true)) ∙ eq-eqb _ 0 c.if-left-eq0.true in
    noted-all (R.noted l.invariant.0) n (omega (arith, c.if-firsts-at.false, c.requires.4)) (omega (arith, c.if-r-reps.true))
    (eqb-true (squares_in a.s.gens T a.i) a.order q)

pub representation-d-requires : goal.representation-d-requires
representation-d-requires c = let R = c.run_lines-e.ensures in
    found-there c.args.s c.args.words.now c.requires.0 (R.behind (omega (arith, R.within, c.if-r-reps.false, c.count_of-reps.ensures)))

pub loop-left-preserved : goal.loop-left-preserved
loop-left-preserved c = let l = c.loop-left in
    let a = c.args in
    let R = c.run_lines-e.ensures in
    let next = R.behind (omega (arith, R.within, c.if-r-reps.false, c.count_of-reps.ensures)) in (
      R.noted l.invariant.0,
      subst (Found a.s.gens a.words.now a.i c.run_lines-e.result.next) (sym c.representation-d.ensures) next,
      left-ran l.invariant.2 l.invariant.1.positive R c.square-q.ensures c.if-left-q.false,
    )
