-- `append_extensions` finds the targets and what is copied once, and appends.
use mathlib.Core.Path.{sym, subst}
use Prim.Native.Nat.{◌*◌}
use Rattle.lines.specs.Lines.{Space}
use Rattle.extend.specs.declared.Origin.{Origin}
use Rattle.extend.proofs.Extensions.{origin-extends}
use Rattle.extend.proofs.append_extensions.Goals as goal

pub append_each-requires : goal.append_each-requires
append_each-requires c = let f = c.args.f in
    let e = c.find_origin-o.ensures in
    record {
      extends = origin-extends c.requires.surveyed.0 c.requires.surveyed.1 c.requires.surveyed.2 c.find_targets.ensures e;
      space = subst (λ (o : Origin). Space f.end c.args.at (f.p * (8 * (f.gens * o.source.deg))) c.args.words.now) (sym e) c.requires.space;
    }
