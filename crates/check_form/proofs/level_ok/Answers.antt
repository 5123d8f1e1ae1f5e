-- `level_ok` meets its contract: representation after representation.
use mathlib.Core.Path.{refl, sym, ◌∙◌}
use Rattle.seek.proofs.Walk.{walked-found, walked-more, walked-all}
use Rattle.check_form.proofs.Form.{reading-fits, reading-next, reading-fails, reading-all}
use Rattle.check_form.proofs.level_ok.Goals as goal

pub rep_ok-requires : goal.rep_ok-requires
rep_ok-requires c = let F = walked-found c.loop-d.invariant _ refl c.in-Some.ensures.steps in
    (c.requires.0, c.requires.1, reading-fits c.args.s c.args.words.now c.args.i F)

pub returns-then-not-rep_ok : goal.returns-then-not-rep_ok
returns-then-not-rep_ok c = let F = walked-found c.loop-d.invariant _ refl c.in-Some.ensures.steps in
    reading-fails c.args.s c.args.words.now c.args.i F c.loop-d.invariant.known (sym c.rep_ok.ensures ∙ c.if-not-rep_ok.true)

pub loop-d-preserved : goal.loop-d-preserved
loop-d-preserved c = let W = c.loop-d.invariant in
    let F = walked-found W _ refl c.in-Some.ensures.steps in
    walked-more W refl c.in-Some.ensures.steps
    (reading-next c.args.s c.args.words.now c.args.i F W.known (sym c.rep_ok.ensures ∙ c.if-not-rep_ok.false))

pub returns : goal.returns
returns c = reading-all c.args.s c.args.words.now c.args.i (walked-all c.loop-d.invariant c.next.new.self refl c.in-None.ensures.steps)
