-- `well_formed` meets its contract: the heads, then the levels.
use mathlib.Core.Path.{sym, ◌∙◌}
use Rattle.check_form.proofs.Form.{form-heads, form-whole, form-levels}
use Rattle.check_form.proofs.well_formed.Goals as goal

pub returns-then-not-heads_ok : goal.returns-then-not-heads_ok
returns-then-not-heads_ok c = let heads = c.heads_ok in
    form-heads c.args.s c.args.orders.now c.args.words.now c.requires.0 (sym heads.ensures ∙ c.if-not-heads_ok.true)

pub levels_ok-requires : goal.levels_ok-requires
levels_ok-requires c = let heads = c.heads_ok in
    let ok = sym heads.ensures ∙ c.if-not-heads_ok.false in
    (form-whole c.args.s c.args.orders.now c.args.words.now c.requires.0 ok, c.requires.1.levels)

pub returns : goal.returns
returns c = let heads = c.heads_ok in
    let T = c.args.words.now in
    form-levels c.args.s c.args.orders.now T c.requires.0 (sym heads.ensures ∙ c.if-not-heads_ok.false)
    c.levels_ok.result c.levels_ok.ensures
