-- The test of the relations of the generator on top, for every presentation that is posed.
use mathlib.Core.Path.{◌≡◌, ◌∙◌, ap}
use Prim.Native.Nat.{suc, ◌-◌}
use native.Mathlib.Omega.{arith}
use Rattle.separation.specs.Relations.{top_relations}
use Rattle.seek.specs.Among.{rep_in}
use Rattle.relations.proofs.Intertwiners.{among-kept}
use Rattle.check_relations.proofs.fn.top_relations_hold.holds_everywhere.Goals as goal

pub top_relations-requires : goal.top_relations-requires
top_relations-requires c = let A = c.requires in (among-kept A, omega (arith, A.found.level))

pub returns : goal.returns
returns c = let a = c.captures in
    let i = c.args.i in
    let u : suc (i - 1) ≡ i = omega (arith, c.requires.found.level) in
    record {
      is = λ P p. c.top_relations.ensures P p.reads ∙ ap (λ i. top_relations P a.s.m a.words.now i (rep_in a.words.now c.args.d)) u;
    }
