-- `list_orbit`: q is member k, and the members before it are listed.
use mathlib.Core.Path.{sym, ap, ◌∙◌, subst}
use Prim.Native.Nat.{suc, ◌+◌, ◌<◌}
use native.Mathlib.Omega.{arith}
use native.Mathlib.Nat.{le_refl}
use lib.ListN.{get_or, length-map}
use Rattle.std.proofs.lemmas.List.{map-set}
use Rattle.numbers.proofs.Lists.{iter-zero}
use Rattle.level.proofs.Columns.{iter-next}
use Rattle.survey.specs.Below.{target_of}
use Rattle.survey.proofs.Level.{located-stored, located-degree, located-target}
use Rattle.survey.proofs.Marking.{orbit-inside}
use Rattle.survey.proofs.Notes.{Filled, filled_none, filled_more}
use Rattle.orbits.specs.declared.Block.{Block}
use Rattle.orbits.specs.Blocks.{members, member_of}
use Rattle.orbits.proofs.Blocks.{blank}
use Rattle.orbits.proofs.list_orbit.Goals as goal

pub loop-k-init : goal.loop-k-init
loop-k-init c =
    (sym (iter-zero _ _), filled_none (members c.args.blocks.now) (member_of c.args.f c.args.low.now c.args.r), located-degree c.listed-d.ensures)

pub member-e-requires : goal.member-e-requires
member-e-requires c = let l = c.loop-k in
    let here = orbit-inside _ _ c.requires.0 _ _ c.requires.2 in
    (c.requires.0, c.requires.1, subst (λ x. x < c.args.f.reps) (sym l.invariant.0) here, l.invariant.2)

pub target-q-requires : goal.target-q-requires
target-q-requires c = (c.args.f.m, located-stored c.member-e.ensures (suc c.args.f.top) c.requires.0.gens.0)

pub loop-k-preserved : goal.loop-k-preserved
loop-k-preserved c = let l = c.loop-k in let f = c.args.f in
    let W = c.args.low.now in
    let M = c.member-e.ensures in
    let t = located-target M f.top _ (le_refl _) c.requires.0.gens.0 c.target-q.ensures in
    let next = l.k + 1 in
    let F = filled_more (members l.blocks) (member_of f W c.args.r) l.k l.q (omega (arith, c.requires.3, length-map l.blocks (λ (b : Block). b.member)))
    l.invariant.0 l.invariant.1 in (
      t.0 ∙ ap (target_of f W f.top) l.invariant.0 ∙ sym (iter-next (target_of f W f.top) _ _),
      subst (λ a. Filled a (member_of f W c.args.r) next) (sym (map-set (λ (b : Block). b.member) l.blocks l.k (record { member = l.q; scalar = (get_or l.blocks l.k blank).scalar }))) F,
      l.invariant.2 ∙ sym (located-degree M) ∙ t.2,
    )
