-- `append_induction` appends its generators one behind the other.
use mathlib.Core.Path.{◌≡◌, sym, ap, ◌∙◌, subst}
use Prim.Native.Nat.{◌<◌}
use native.Mathlib.Omega.{arith}
use Rattle.definitions.specs.Lists.{blocks}
use Rattle.text.proofs.Writing.{wrote_as}
use Rattle.lines.proofs.Appending.{going_more, going-even, space-none}
use Rattle.survey.specs.Below.{low_of}
use Rattle.orbits.specs.Blocks.{Inducing}
use Rattle.induce.specs.declared.Induction.{Induction}
use Rattle.induce.specs.Inducing.{induced_words}
use Rattle.induce.proofs.Cells.{induced-length}
use Rattle.induce.proofs.Generators.{induced-degree, induction-is, induction-room}
use borrow.Author.Rules.{rules}
use Rattle.induce.proofs.append_induction.Goals as goal

pub loop-g-init : goal.loop-g-init
loop-g-init c = let a = c.args in
    let E = c.find_induction-i.ensures in
    let I : Inducing a.f (low_of a.f a.words.now) a.rows.now a.notes.now _ a.r =
    record { surveyed = c.requires.surveyed.0; leads = c.requires.surveyed.1; orbit_is = E.1 } in
    let leader = ap (λ (i : Induction). i.leader) E.0 in
    (subst (Inducing a.f _ _ _ _) (sym leader) I, space-none c.requires.space)

pub append_generator-pos-requires : goal.append_generator-pos-requires
append_generator-pos-requires c = let l = c.loop-g in let f = c.args.f in let G = l.invariant.1 in
    let W = low_of f c.args.words.now in
    let i = c.find_induction-i.result in let E = c.find_induction-i.ensures.0 in
    let less-than : l.g < f.gens = search rules in
    let degree = induced-degree _ _ _ i _ E in
    let room = induction-room _ _ _ i _ E c.requires.space in
    let space = going-even f.gens _ (λ g. induced-length f W c.args.rows.now i g degree) G less-than room in
    rw G.below (record { inducing = (l.invariant.0, less-than); deg_value = (degree, space) })

pub loop-g-preserved : goal.loop-g-preserved
loop-g-preserved c = let l = c.loop-g in let G = l.invariant.1 in
    let A = c.append_generator-pos.ensures in
    (rw G.below at A.inducing_2, going_more G (rw G.below at A.appended))

pub returns : goal.returns
returns c = let l = c.loop-g in let f = c.args.f in
    let W = low_of f c.args.words.now in
    let e : l.g ≡ f.gens = omega arith in
    let i = c.find_induction-i.result in
    let E = c.find_induction-i.ensures.0 in
    let is = induction-is _ _ _ i _ E _ c.requires.surveyed.0 c.requires.surveyed.1.listed in
    wrote_as l.invariant.1.wrote (ap (λ n. blocks n (induced_words f W c.args.rows.now i)) e ∙ is)
