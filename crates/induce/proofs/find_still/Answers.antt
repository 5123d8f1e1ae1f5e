-- `find_still` reads the representation of the block.
use mathlib.Core.Path.{sym, ap, ◌∙◌, subst}
use Prim.Native.Nat.{◌*◌, ◌≤◌}
use Rattle.level.specs.declared.Listed.{Listed}
use Rattle.level.specs.Stored.{line_in}
use Rattle.survey.specs.Below.{deg_of, Located}
use Rattle.orbits.specs.Blocks.{member_of}
use Rattle.orbits.proofs.Blocks.{orbit-degree, listing-stands, block-member, block-degree}
use Rattle.induce.proofs.Cells.{cell-held}
use Rattle.induce.proofs.find_still.Goals as goal

pub member-e-requires : goal.member-e-requires
member-e-requires c = let W = c.args.low.now in let R = c.requires.0 in
    let L = R.listing in
    let o = block-member L _ c.requires.1 in
    let same = orbit-degree _ _ (listing-stands L) _ _ L.known.leads.listed in
    let degree = R.degree ∙ sym (ap (deg_of c.args.f W) o.0 ∙ same) in
    (listing-stands L, L.known.surveyed.orbited.lines, o.1, degree)

pub returns : goal.returns
returns c = let f = c.args.f in let W = c.args.low.now in
    let R = c.requires.0 in let L = R.listing in let r = c.args.i.leader in let E = c.member-e.result in
    let q = (block-member L _ c.requires.1).0 in
    let M : Located f W (member_of f W r c.args.b) E = subst (λ q. Located f W q E) q c.member-e.ensures in
    let line = c.matrix_line.ensures in
    let src = line ∙ ap (λ (D : Listed). line_in D c.args.g) M.is in (
      (λ o. record { src = src o; from = c.args.b; to = c.args.b; by = 0; refn = q o }),
      record {
        stands = listing-stands L;
        wide = subst (λ d. f.p * d ≤ 65536) (sym R.degree) ((listing-stands L).wide r L.known.leads.listed).1;
        held = cell-held M _ _ _ R.inside line (block-degree L _ M ∙ sym R.degree);
        from_below = c.requires.1;
        to_below = c.requires.1;
        by_below = (listing-stands L).modulus.0;
      },
    )
