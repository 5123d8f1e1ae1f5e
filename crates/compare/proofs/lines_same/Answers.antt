-- `lines_same` compares line by line.
use mathlib.Core.Path.{subst}
use Prim.Native.Nat.{◌+◌}
use native.Mathlib.Omega.{arith}
use Rattle.compare.specs.Shifted.{LineSame}
use Rattle.compare.proofs.Shifted.{never, same_none, same_more, same-fewer}
use Rattle.compare.proofs.lines_same.Goals as goal

pub loop-k-init : goal.loop-k-init
loop-k-init c = same_none

pub overflow_add-at : goal.overflow_add-at
overflow_add-at c = omega (arith, c.requires.0, c.up-c.ensures, c.well_formed)

pub overflow_add-src : goal.overflow_add-src
overflow_add-src c = omega (arith, c.requires.1, c.up-c.ensures, c.well_formed)

pub line_same-requires : goal.line_same-requires
line_same-requires c = (omega (arith, c.requires.0, c.up-c.ensures), omega (arith, c.requires.1, c.up-c.ensures))

pub returns-then-not-line_same : goal.returns-then-not-line_same
returns-then-not-line_same c = never

pub loop-k-preserved : goal.loop-k-preserved
loop-k-preserved c = let a = c.args in
    let line = c.line_same.ensures (c.if-not-line_same.false) in
    same_more c.loop-k.invariant (subst (λ k. LineSame a.words.now (a.at + k) (a.src + k) a.x) c.up-c.ensures line)

pub returns : goal.returns
returns c = λ e.
    same-fewer c.loop-k.invariant (omega arith)
