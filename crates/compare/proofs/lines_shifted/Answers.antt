-- `lines_shifted` compares line by line.
use mathlib.Core.Path.{subst}
use Prim.Native.Nat.{◌+◌}
use native.Mathlib.Omega.{arith}
use Rattle.compare.specs.Shifted.{LineShifted}
use Rattle.compare.proofs.Shifted.{never, shifting-none, shifting-more, shifting-all}
use Rattle.compare.proofs.lines_shifted.Goals as goal

pub loop-c-init : goal.loop-c-init
loop-c-init c = shifting-none

pub overflow_add-at : goal.overflow_add-at
overflow_add-at c = omega (arith, c.requires.0, c.up-k.ensures, c.well_formed)

pub overflow_add-src : goal.overflow_add-src
overflow_add-src c = omega (arith, c.requires.1.fits, c.up-k.ensures, c.well_formed)

pub line_shifted-requires : goal.line_shifted-requires
line_shifted-requires c = let H = c.requires.1 in
    let k = c.up-k.ensures in
    let b = H.valid c.up-k.result (omega (arith, k)) in
    record {
      at_in_bounds = (omega (arith, c.requires.0, k), omega (arith, H.fits, k));
      src_bound = (b.exp, c.requires.2, H.small, omega (arith, c.requires.3, b.row));
    }

pub returns-then-not-line_shifted : goal.returns-then-not-line_shifted
returns-then-not-line_shifted c = never

pub loop-c-preserved : goal.loop-c-preserved
loop-c-preserved c = let a = c.args in
    let line = c.line_shifted.ensures (c.if-not-line_shifted.false) in
    shifting-more c.loop-c.invariant (subst (λ k. LineShifted a.m a.words.now (a.at + k) (a.src + k) a.t) c.up-k.ensures line)

pub returns : goal.returns
returns c = λ e.
    shifting-all c.loop-c.invariant (omega arith)
