-- `all_own` goes through the representations of the level.
use mathlib.Core.Path.{refl}
use native.Mathlib.Nat.{le_refl}
use Rattle.numbers.proofs.Passed.{passed-more}
use Rattle.seek.proofs.Walk.{walked-found, walked-more, walked-all}
use Rattle.check_pairs.proofs.Levels.{found-placed, own-told, owns-fails, owns-all}
use Rattle.check_pairs.proofs.all_own.Goals as goal

pub own-requires : goal.own-requires
own-requires c = let ((P, formed), l) = c.requires in
    let F = walked-found c.loop-d.invariant _ refl c.in-Some.ensures.steps in
    (c.loop-d.d-iterator.rep, found-placed formed l F)

pub returns-then-not-own : goal.returns-then-not-own
returns-then-not-own c = let F = walked-found c.loop-d.invariant _ refl c.in-Some.ensures.steps in
    owns-fails c.args.s c.args.words.now c.args.i c.args.p c.loop-d.invariant.known F.listed (own-told c.requires.1 F c.own.ensures)
    c.if-not-own.true

pub loop-d-preserved : goal.loop-d-preserved
loop-d-preserved c = let W = c.loop-d.invariant in
    let F = walked-found W _ refl c.in-Some.ensures.steps in
    walked-more W refl c.in-Some.ensures.steps (passed-more W.known (own-told c.requires.1 F c.own.ensures) c.if-not-own.false)

pub returns : goal.returns
returns c = owns-all c.args.s c.args.words.now c.args.i c.args.p
    (walked-all c.loop-d.invariant c.next.new.self refl c.in-None.ensures.steps) (le_refl _)
