-- `level_one`: the lines of level 1, then the heads of the others.
use borrow.Author.Tests.{eqb-true}
use mathlib.Core.Path.{sym, ◌∙◌, subst}
use native.Mathlib.Omega.{arith}
use Rattle.heads.proofs.Going.{heads-complete}
use Rattle.check_heads.specs.Places.{orders_in, Opened}
use Rattle.check_first.proofs.First.{character-opened}
use Rattle.check_first.proofs.level_one.Goals as goal

pub heads_behind-requires : goal.heads_behind-requires
heads_behind-requires c = let a = c.args in
    let C = c.characters.ensures (c.if-not-characters.false) in (
      c.requires.0,
      subst (Opened a.s (orders_in a.orders.now) a.words.now) (sym c.up.ensures)
          (character-opened C (λ l. omega (arith, c.if-orders-p.false))),
    )

pub count_of-requires : goal.count_of-requires
count_of-requires c = let a = c.args in
    let C = c.requires.0 in
    let h = sym c.heads_behind.ensures ∙ c.if-not-heads_behind.false in (
      record {
        lines_are = C.lines_are;
        some = C.some;
        few = C.few;
        all = heads-complete a.s.gens a.words.now (orders_in a.orders.now) C.some h;
      },
      C.some,
    )

pub returns : goal.returns
returns c = λ x.
    let a = c.args in
    let C = c.requires.0 in
    let T = a.words.now in
    let ord = orders_in a.orders.now in
    let h = sym c.heads_behind.ensures ∙ c.if-not-heads_behind.false in
    record {
      heads = h;
      whole = record { lines_are = C.lines_are; some = C.some; few = C.few; all = heads-complete a.s.gens T ord C.some h };
      order = c.if-orders-p.false;
      counts = sym c.count_of.ensures ∙ eqb-true c.count_of.result c.up-2.result x ∙ c.up-2.ensures;
      are = c.characters.ensures (c.if-not-characters.false);
    }
