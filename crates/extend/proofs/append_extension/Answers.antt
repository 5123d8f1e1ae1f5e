-- `append_extension` appends the generators up to the one on top, and those above one behind the other.
use mathlib.Core.Path.{◌≡◌, sym, ◌∙◌, subst}
use Prim.Native.Nat.{◌*◌, ◌<◌}
use native.Mathlib.Omega.{arith}
use borrow.Author.Rules.{rules}
use Rattle.text.proofs.Writing.{wrote_as}
use Rattle.lines.proofs.Appending.{going_more, going-even}
use Rattle.extend.specs.Extending.{Copies}
use Rattle.extend.proofs.Extensions.{extends-copies, copy-above, extension-words, matrix-length, low-space, low-done}
use Rattle.extend.proofs.append_extension.Goals as goal

pub append_low-pos-requires : goal.append_low-pos-requires
append_low-pos-requires c = let E = c.requires.extends.0 in record { copies = (extends-copies E, c.requires.extends.1); space = low-space E c.requires.space }

pub append_matrix-pos-requires : goal.append_matrix-pos-requires
append_matrix-pos-requires c = let l = c.loop-g in
    let f = c.args.f in let o = c.args.o in let E = c.requires.extends.0 in
    let L = low-done E _ c.requires.space c.append_low-pos.ensures in
    let G = l.invariant.1 _ _ L.1 in
    let less : l.g < f.gens = search rules in
    record {
      copies = (
        subst (λ W. Copies f W o) (sym G.below) (extends-copies E),
        c.requires.extends.1,
        less,
        (λ e. omega (arith, e, l.invariant.0)),
      );
      space = going-even f.gens (8 * o.source.deg) (matrix-length L.0 _) G less
          (omega (arith, c.requires.space.room));
    }

pub loop-g-preserved : goal.loop-g-preserved
loop-g-preserved c = let l = c.loop-g in
    let L = low-done c.requires.extends.0 _ c.requires.space c.append_low-pos.ensures in
    let G = l.invariant.1 _ _ L.1 in
    let less : l.g < c.args.f.gens = search rules in
    let copy = copy-above L.0 _ _ l.invariant.0 less c.reference-x.ensures in
    let written = wrote_as (rw (G.below ∙ sym L.1.below) at c.append_matrix-pos.ensures) copy in
    (search rules, λ w a K. going_more (l.invariant.1 w a K) written)

pub returns : goal.returns
returns c = let l = c.loop-g in let L = low-done c.requires.extends.0 _ c.requires.space c.append_low-pos.ensures in
    let e : l.g ≡ c.args.f.gens = omega (arith, c.requires.extends.0.aimed.sound.stands.gens) in
    wrote_as (l.invariant.1 _ _ L.1).wrote (extension-words _ _ _ _ e L.1.below)
