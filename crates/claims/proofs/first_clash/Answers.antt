-- `first_clash` goes through the representations of the level.
use mathlib.Core.Path.{refl, sym, ◌∙◌, ap}
use Prim.Native.Nat.{suc}
use native.Mathlib.Numerals.{add-one}
use native.Mathlib.Omega.{arith}
use lib.ListN.{length}
use Rattle.definitions.specs.Table.{level_at}
use Rattle.seek.specs.declared.Reps.{Reps}
use Rattle.seek.proofs.Seek.{whole-some, found-fits, found-above}
use Rattle.seek.proofs.Walk.{walked-none, walked-found, walked-more, walked-all}
use Rattle.claims.proofs.Claims.{claims-none, claims-found, claims-all}
use Rattle.claims.proofs.first_clash.Goals as goal

pub returns-then-p-eq0 : goal.returns-then-p-eq0
returns-then-p-eq0 c = whole-some c.args.s c.args.words.now c.requires.0 (suc c.args.i) (omega arith) c.requires.1

pub returns-then-part-eq0 : goal.returns-then-part-eq0
returns-then-part-eq0 c = whole-some c.args.s c.args.words.now c.requires.0 (suc c.args.i) (omega arith) c.requires.1

pub loop-r-init : goal.loop-r-init
loop-r-init c = let e = ap (λ x. x.iter) c.into_iter-r-iterator.ensures.into_iter_gives ∙ c.enumerate-r-items.ensures.source in
    record {
      walked = walked-none c.of.ensures e (claims-none _ _ _ _ _ _);
      counted =
          ap (λ x. x.count) c.into_iter-r-iterator.ensures.into_iter_gives ∙ c.enumerate-r-items.ensures.count
          ∙ sym (ap (λ (a : Reps). a.rep) e ∙ c.of.ensures.rep);
    }

pub claim-requires : goal.claim-requires
claim-requires c = let F = walked-found c.loop-r.invariant.walked _ refl c.in-Some.ensures.steps.0 in
    (found-fits F c.args.i c.requires.1, omega (arith, c.if-part-eq0.false))

pub loop-r-preserved : goal.loop-r-preserved
loop-r-preserved c = let W = c.loop-r.invariant.walked in
    let F = found-above (walked-found W _ refl c.in-Some.ensures.steps.0) in
    record {
      walked = walked-more W refl c.in-Some.ensures.steps.0 (claims-found F W.known (c.claim.ensures c.if-not-claim.false));
      counted = omega (arith, c.loop-r.invariant.counted, c.in-Some.ensures.steps.2, c.in-Some.ensures.steps.0.1.rep);
    }

pub returns : goal.returns
returns c = let a = c.args in
    let all = walked-all c.loop-r.invariant.walked c.next.new.self.iter refl c.in-None.ensures.steps.0 in
    claims-all all (omega (arith, ap (λ i. length (level_at a.s.gens a.words.now i)) (add-one a.i)))
