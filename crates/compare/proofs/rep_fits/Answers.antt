-- `rep_fits` goes from block to block.
use native.Mathlib.Omega.{arith}
use Rattle.compare.proofs.Shifted.{never}
use Rattle.std.proofs.Common.{◌+◌, sym, subst}
use Rattle.compare.proofs.Staged.{found_inside}
use Rattle.compare.proofs.Blocks.{Blocking, blocking-none, blocking-more, blocking-all, blocking-room}
use Rattle.compare.proofs.rep_fits.Goals as goal

pub proper-requires : goal.proper-requires
proper-requires c = c.requires.1

pub returns-then-not-proper : goal.returns-then-not-proper
returns-then-not-proper c = never

pub loop-o-init : goal.loop-o-init
loop-o-init c = blocking-none

pub loop-o-preserved : goal.loop-o-preserved
loop-o-preserved c = let a = c.args in
    subst (λ k. Blocking a.s a.words.now a.g a.d c.in-Some.w (c.loop-o.o + k)) (sym c.up-o-step.ensures)
    (blocking-more c.loop-o.invariant (c.block_fits.ensures c.if-not-block_fits.false))

pub block_fits-requires : goal.block_fits-requires
block_fits-requires c = let S = c.requires.0 in
    let W = c.in-Some.ensures in
    (S, c.requires.1, omega (arith, W.width, (found_inside S.whole S.short W.found).positive), blocking-room c.loop-o.invariant W (omega arith))

pub returns-else-not-proper : goal.returns-else-not-proper
returns-else-not-proper c = λ e. blocking-all c.loop-o.invariant c.in-Some.ensures (c.proper.ensures c.if-not-proper.false) (omega arith)

pub returns-else-not-block_fits : goal.returns-else-not-block_fits
returns-else-not-block_fits c = λ e.
    blocking-all (blocking-more c.loop-o.invariant (c.block_fits.ensures c.if-not-block_fits.false)) c.in-Some.ensures
    (c.proper.ensures c.if-not-proper.false) (omega (arith, c.up-o-step.ensures))
