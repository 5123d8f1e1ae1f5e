-- `all_characters` goes through the representations.
use borrow.Author.Count.{below_more}
use mathlib.Core.Path.{◌∙◌, ap}
use Prim.Native.Nat.{◌*◌, ◌%◌}
use native.Mathlib.Omega.{arith}
use Rattle.check_first.specs.First.{Character}
use Rattle.check_first.proofs.Marks.{taking-more, multiple-small, multiple-power}
use Rattle.check_first.proofs.all_characters.Goals as goal

pub loop-k-preserved : goal.loop-k-preserved
loop-k-preserved c = let a = c.args in
    let h = c.character.ensures (c.if-not-character.false) in (
      taking-more c.loop-k.invariant.0 h.takes,
      below_more (λ q. Character a.s a.words.now a.rows.now a.p q) c.loop-k.k c.loop-k.invariant.1 h.is,
    )

pub returns : goal.returns
returns c = λ x.
    let a = c.args in
    let P = c.requires.0 in
    let t = c.loop-k.invariant.0 in
    record {
      room = P.room;
      each = λ r l. c.loop-k.invariant.1 r (omega arith);
      below = λ r l. let (k, b, e) = t.multiple r (omega arith) in omega (arith, e, multiple-small a.p a.part a.s.m k P.product P.positive b);
      power = λ r l.
          let (k, b, e) = t.multiple r (omega arith) in
          ap (λ x. (a.p * x) % a.s.m) e ∙ multiple-power a.p a.part a.s.m k P.product;
      apart = λ q r l l'. t.apart q r (omega arith) (omega arith);
    }
