-- `place_ok` meets its contract: the size, then the heads.
use mathlib.Core.Path.{sym, ◌∙◌}
use native.Mathlib.Omega.{arith}
use Rattle.seek.proofs.Halves.{line-there, lines-there}
use Rattle.check_heads.specs.Places.{orders_in}
use Rattle.check_heads.proofs.Places.{size-told, place-small, place-heads, place-room}
use Rattle.check_heads.proofs.place_ok.Goals as goal

pub representation-d-requires : goal.representation-d-requires
representation-d-requires c = line-there c.args.words.now c.args.p.line (omega (arith, c.requires.0.lines_are, c.requires.1))

pub size_ok-requires : goal.size_ok-requires
size_ok-requires c = let there = lines-there c.args.words.now c.args.s.lines (omega (arith, c.requires.0.lines_are)) in
    (c.requires.1, omega (arith, there, c.well_formed), c.requires.0.few)

pub returns-then-not-size_ok : goal.returns-then-not-size_ok
returns-then-not-size_ok c = let Size-ok = c.size_ok in
    let representation = c.representation-d in
    let ord = orders_in c.args.orders.now in
    let T = c.args.words.now in
    place-small c.args.s T ord c.args.p c.requires.0.lines_are representation.result representation.ensures
    (sym Size-ok.ensures ∙ c.if-not-size_ok.true)

pub rep_heads-requires : goal.rep_heads-requires
rep_heads-requires c = let Size-ok = c.size_ok in
    let representation = c.representation-d in
    let ord = orders_in c.args.orders.now in
    let T = c.args.words.now in
    let ok = sym Size-ok.ensures ∙ c.if-not-size_ok.false in (
      place-room c.args.s T ord c.args.p c.requires.0.lines_are representation.result representation.ensures ok,
      c.requires.0.some,
      (size-told c.args.s ord c.args.p representation.result.deg ok).positive,
    )

pub returns : goal.returns
returns c = let Size-ok = c.size_ok in
    let representation = c.representation-d in
    let ord = orders_in c.args.orders.now in
    let T = c.args.words.now in
    c.rep_heads.ensures
    ∙ place-heads c.args.s T ord c.args.p c.requires.0.lines_are representation.result representation.ensures
    (sym Size-ok.ensures ∙ c.if-not-size_ok.false)
