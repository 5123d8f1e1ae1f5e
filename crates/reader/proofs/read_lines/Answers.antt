-- The lines are read one by one: `Reading` is what has been read.
use Prim.Native.Nat.{◌<◌}
use native.Mathlib.Omega.{arith}
use Rattle.std.proofs.Common.{sym, subst}
use Rattle.reader.specs.Rows.{LinesAt}
use Rattle.reader.proofs.Rows.{line-no-head, line-no-word}
use Rattle.reader.proofs.Reading.{reading-none, reading-more, reading-no-line, reading-refused, reading-end, reading-longer}
use Rattle.reader.proofs.read_lines.Goals as goal

pub loop-j-init : goal.loop-j-init
loop-j-init c = let r = c.requires in
    reading-none r.0 r.2 r.3

pub head-requires : goal.head-requires
head-requires c = omega (arith, c.requires)

pub returns-in_err-p : goal.returns-in_err-p
returns-in_err-p c = let a = c.args in
    let h = c.loop-j in
    subst (LinesAt a.text.now a.start a.n h.rows h.ps) (sym c.from_residual.ensures)
    (reading-refused h.invariant (reading-no-line h.invariant (omega arith) (line-no-head _ (c.head.ensures.fails c.in_err-p.was))))

pub exponents-requires : goal.exponents-requires
exponents-requires c = let h = c.head.ensures.stands _ _ c.in_ok-p.was in
    (h.within, h.ends)

pub returns-in_err-e : goal.returns-in_err-e
returns-in_err-e c = let a = c.args in
    let h = c.loop-j in
    let none = line-no-word _ (c.head.ensures.stands _ _ c.in_ok-p.was) (c.exponents.ensures.fails c.in_err-e.was) in
    subst (LinesAt a.text.now a.start a.n h.rows h.ps) (sym c.from_residual-in_err-e.ensures)
    (reading-refused h.invariant (reading-no-line h.invariant (omega arith) none))

pub still_prime-primes-requires : goal.still_prime-primes-requires
still_prime-primes-requires c = (c.head.ensures.stands _ _ c.in_ok-p.was).small

pub next_pair-q-requires : goal.next_pair-q-requires
next_pair-q-requires c = omega (arith, c.requires, c.loop-j.invariant.below)

pub loop-j-smaller : goal.loop-j-smaller
loop-j-smaller c = let w = c.exponents.ensures.stands _ _ c.in_ok-e.was in
    omega (arith, (c.head.ensures.stands _ _ c.in_ok-p.was).further, w.further, w.within)

pub loop-j-preserved : goal.loop-j-preserved
loop-j-preserved c = let below : c.loop-j.j < c.args.n = omega arith in
    let w = c.exponents.ensures.stands _ _ c.in_ok-e.was in
    reading-more c.loop-j.invariant below (c.head.ensures.stands _ _ c.in_ok-p.was) w
    c.keep.ensures c.still_prime-primes.ensures c.next_pair-q.ensures

pub returns : goal.returns
returns c = reading-end c.loop-j.invariant (omega arith) (omega arith)

pub returns-then-at-text : goal.returns-then-at-text
returns-then-at-text c = reading-longer c.loop-j.invariant (omega arith) (omega arith)
