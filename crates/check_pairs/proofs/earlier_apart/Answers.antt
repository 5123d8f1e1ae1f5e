-- `earlier_apart` goes through the representations before the last.
use mathlib.Core.Path.{refl, ◌∙◌, ap}
use mathlib.Core.Logic.{by_cases}
use Prim.Native.Nat.{◌≤◌, ◌<◌}
use native.Mathlib.Decide.{dec_lt}
use native.Mathlib.Numerals.{add-one}
use native.Mathlib.Omega.{arith}
use lib.ListN.{length}
use Rattle.definitions.specs.Table.{level_at}
use Rattle.numbers.proofs.Passed.{passed_none, passed-more, passed-all, passed-fails}
use Rattle.seek.specs.declared.Reps.{Reps}
use Rattle.seek.proofs.Seek.{found-fits}
use Rattle.seek.proofs.Walk.{walked-none, walked-found, walked-more, walked-end}
use Rattle.check_pairs.proofs.Pairs.{passing-told}
use Rattle.check_pairs.proofs.earlier_apart.Goals as goal

pub loop-d-init : goal.loop-d-init
loop-d-init c = let e = ap (λ x. x.iter) c.into_iter-d-iterator.ensures.into_iter_gives ∙ c.take-d-items.ensures.source in
    let n = ap (λ x. x.n) c.into_iter-d-iterator.ensures.into_iter_gives ∙ c.take-d-items.ensures.count in
    let z = ap (λ (a : Reps). a.rep) e ∙ c.of.ensures.rep in
    record { walked = walked-none c.of.ensures e passed_none; counted = omega (arith, n, z) }

pub apart-requires : goal.apart-requires
apart-requires c = let F = walked-found c.loop-d.invariant.walked _ refl c.in-Some.ensures.steps.0 in
    (found-fits F c.args.i c.requires.placed.level, found-fits c.requires.placed.found c.args.i c.requires.placed.level)

pub returns-then-not-apart : goal.returns-then-not-apart
returns-then-not-apart c = let I = c.loop-d.invariant in
    let F = walked-found I.walked _ refl c.in-Some.ensures.steps.0 in
    let l : c.loop-d.d-iterator.iter.rep < c.args.last = omega (arith, I.counted, c.in-Some.ensures.steps.1) in
    let told = passing-told c.args.s c.args.words.now c.args.i c.args.last c.requires F l c.apart.ensures in
    record { is = passed-fails I.walked.known l told c.if-not-apart.true }

pub loop-d-preserved : goal.loop-d-preserved
loop-d-preserved c = let I = c.loop-d.invariant in
    let (step, less) = c.in-Some.ensures.steps in
    let F = walked-found I.walked _ refl step in
    let told = passing-told c.args.s c.args.words.now c.args.i c.args.last c.requires F (omega (arith, I.counted, less)) c.apart.ensures in
    record {
      walked = walked-more I.walked refl step (passed-more I.walked.known told c.if-not-apart.false);
      counted = omega (arith, I.counted, less, step.1.rep);
    }

pub returns : goal.returns
returns c = let I = c.loop-d.invariant in
    let e = ap (λ i. length (level_at c.args.s.gens c.args.words.now i)) (add-one c.args.i) in
    let all : c.args.last ≤ c.loop-d.d-iterator.iter.rep = by_cases (dec_lt 0 c.loop-d.d-iterator.n)
    (λ l. let z = walked-end I.walked c.next.new.self.iter refl (c.in-None.ensures.steps l) in
    omega (arith, I.counted, z, e, c.requires.placed.found.listed))
    (λ n. omega (arith, I.counted)) in
    record { is = passed-all I.walked.known all }
