-- `append_each` appends the extensions one behind the other.
use mathlib.Core.Path.{◌≡◌, sym, subst}
use Prim.Native.Nat.{◌*◌, ◌<◌}
use native.Mathlib.Omega.{arith}
use borrow.Author.Rules.{rules}
use Rattle.lines.proofs.Appending.{going_more, going-even, space-none}
use Rattle.extend.specs.Extending.{Extends, extensions_words}
use Rattle.extend.proofs.Extensions.{extension-length}
use Rattle.extend.proofs.append_each.Goals as goal

pub loop-k-init : goal.loop-k-init
loop-k-init c = space-none c.requires.space

pub append_extension-pos-requires : goal.append_extension-pos-requires
append_extension-pos-requires c = let l = c.loop-k in
    let f = c.args.f in let E = c.requires.extends in let G = l.invariant in
    let less : l.k < f.p = search rules in
    record {
      extends = (subst (λ W. Extends f W c.args.rows.now c.args.targets.now c.args.o) (sym G.below) E, less);
      space = going-even f.p (8 * (f.gens * c.args.o.source.deg)) (extension-length E) G less c.requires.space.room;
    }

pub loop-k-preserved : goal.loop-k-preserved
loop-k-preserved c = let G = c.loop-k.invariant in
    going_more G (rw G.below at c.append_extension-pos.ensures)

pub returns : goal.returns
unfolding extensions_words
returns c = let e : c.loop-k.k ≡ c.args.f.p = omega arith in rw e at c.loop-k.invariant.wrote
