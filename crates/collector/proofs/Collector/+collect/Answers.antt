-- `multiply` and the functions that call it and that it calls meet their contracts: the one proof of their
-- cycle of calls. A product on level i turns forms of a level below i, and carries on a level below i; turning and
-- conjugation on level k take images, powers and products on levels up to k; a power is taken by products on its own level.
-- The measures are eight times the level, and up to five more.
use borrow.Author.Rules.{rules}
use mathlib.Core.Path.{◌≡◌, subst}
use native.Mathlib.Omega.{arith}
use lib.ListN.{length}
use Rattle.definitions.specs.Presentation.{max_generators}
use Rattle.collector.specs.Products.{Power}
use Rattle.collector.proofs.Steps.{turning-start, turning-more, turned-done, powering-start, powering-more, power-single}
use Rattle.collector.proofs.Steps.{image-low, image-high}
use Rattle.rows.proofs.Forms.{ready-below}
use Rattle.collector.proofs.Calls.{few, turned-still, turn-still, turn-copied, carry-none, carry-copied, multiply-none, sum_fits, multiply-low, multiply-high}
use Rattle.collector.proofs.Calls.{power-first, image-fits, conjugate-still, conjugate-top}
use Rattle.collector.proofs.Collector.+collect.Goals as goal

pub carry-returns-then-top-eq0 : goal.carry-returns-then-top-eq0
carry-returns-then-top-eq0 t c = carry-none c.word-u.ensures c.requires.1 c.top.ensures c.if-top-eq0.true

pub carry-returns : goal.carry-returns
carry-returns t c = carry-copied c.word-u.ensures c.product-v.ensures c.copied.ensures

pub conjugate-returns-then-m-eq0 : goal.conjugate-returns-then-m-eq0
conjugate-returns-then-m-eq0 t c = conjugate-still c.requires.1 c.requires.2 c.moved-m.ensures c.if-m-eq0.true

pub conjugate-returns : goal.conjugate-returns
conjugate-returns t c = let r = c.requires in
    let long : length c.conjugate-z.result ≡ max_generators = search rules in
    conjugate-top c.args.self.now.prepared r.0 r.1 r.2 c.moved-m.ensures c.if-m-eq0.false long c.conjugate-z.ensures
    c.image-h.ensures c.power-r.ensures c.product-s.ensures c.stacked.ensures

pub image-overflow_add-s : goal.image-overflow_add-s
image-overflow_add-s t c = omega (arith, image-fits c.args.self.now.prepared c.requires.0 c.requires.1 c.word-h.ensures)

pub image-returns-then-s-p : goal.image-returns-then-s-p
image-returns-then-s-p t c = let P = c.args.self.now.prepared in
    let long : length c.word-h.result ≡ max_generators = search rules in
    image-low (ready-below c.requires.0 P.ranged) c.requires.1 c.word-h.ensures (omega (arith, few P, c.requires.0, c.requires.1)) c.if-s-p.true

pub image-returns : goal.image-returns
image-returns t c = let P = c.args.self.now.prepared in
    let long : length c.product-v.result ≡ max_generators = search rules in
    image-high (ready-below c.requires.0 P.ranged) c.requires.1 c.word-h.ensures c.word-u.ensures c.product-v.ensures
    (omega (arith, few P, c.requires.0, c.requires.1)) c.if-s-p.false

pub multiply-returns-then-m-eq0 : goal.multiply-returns-then-m-eq0
multiply-returns-then-m-eq0 t c = multiply-none c.requires.1 c.top-m.ensures c.if-m-eq0.true

pub multiply-overflow_add-s : goal.multiply-overflow_add-s
multiply-overflow_add-s t c = let r = c.requires in
    omega (arith, sum_fits c.args.self.now.prepared r.0 r.1 r.2 c.top-m.ensures c.if-m-eq0.false r.3 c.turn.ensures c.multiply.ensures)

pub multiply-returns-then-s-p : goal.multiply-returns-then-s-p
multiply-returns-then-s-p t c = let r = c.requires in
    multiply-low c.args.self.now.prepared r.0 r.1 r.2 c.top-m.ensures c.if-m-eq0.false r.3 c.turn.ensures c.multiply.ensures c.if-s-p.true

pub multiply-returns : goal.multiply-returns
multiply-returns t c = let r = c.requires in
    multiply-high c.args.self.now.prepared r.0 r.1 r.2 c.top-m.ensures c.if-m-eq0.false r.3 c.turn.ensures c.multiply.ensures c.carry.ensures
    c.if-s-p.false

pub power-returns-then-alone : goal.power-returns-then-alone
power-returns-then-alone t c = power-single (ready-below c.requires.0 c.args.self.now.prepared.ranged) c.requires.1 c.top-m.ensures
    (c.alone.ensures.is c.if-alone.true) _ c.multiple.ensures

pub power-loop-n-init : goal.power-loop-n-init
power-loop-n-init t c = powering-start (ready-below c.requires.0 c.args.self.now.prepared.ranged)

pub power-loop-n-preserved : goal.power-loop-n-preserved
power-loop-n-preserved t c = powering-more c.loop-n.invariant c.product-s.ensures

pub power-returns : goal.power-returns
power-returns t c = let l = c.loop-n in
    let s = c.args.self.now in
    let e : l._n ≡ c.args.e = omega arith in
    subst (Power c.args.i s.primes.now s.rows.now c.args.x l.r) e l.invariant

pub turn-returns-then-self-k-eq0 : goal.turn-returns-then-self-k-eq0
turn-returns-then-self-k-eq0 t c = turn-still c.args.self.now.prepared c.requires.0 c.if-self-k-eq0.true c.requires.1

pub turned-returns-then-self-i-eq0 : goal.turned-returns-then-self-i-eq0
turned-returns-then-self-i-eq0 t c = turned-still c.args.self.now.prepared c.requires.0 c.if-self-i-eq0.true c.requires.1

pub turned-loop-left-preserved : goal.turned-loop-left-preserved
turned-loop-left-preserved t c = turning-more (search rules) c.loop-left.invariant c.conjugate-d.ensures c.remaining-left.ensures

pub turned-returns : goal.turned-returns
turned-returns t c = let l = c.loop-left in let over : l.left ≡ 0 = omega arith in turned-done over l.invariant

pub power-returns-then-e-eq1 : goal.power-returns-then-e-eq1
power-returns-then-e-eq1 t c = power-first c.if-e-eq1.true c.requires.1

pub turn-returns : goal.turn-returns
turn-returns t c = turn-copied c.turned-c.ensures c.copied.ensures

pub turned-loop-left-init : goal.turned-loop-left-init
turned-loop-left-init t c = turning-start c.requires.1
