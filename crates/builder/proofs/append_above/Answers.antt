-- `append_above`, case by case.
use Rattle.text.proofs.Writing.{wrote_as}
use Rattle.survey.proofs.Notes.{noted-led, noted_other}
use Rattle.builder.proofs.InWords.{above-nothing, extensions-asked, extensions-above, induction-asked, induction-above}
use Rattle.builder.proofs.append_above.Goals as goal

pub returns-then-notes-r : goal.returns-then-notes-r
returns-then-notes-r c = let Y = c.requires.surveyed.0 in
    let other = noted_other Y.orbited c.requires.surveyed.1 c.if-notes-r.true in
    above-nothing c.args.f _ c.args.rows.now Y.sound.stands c.args.r c.requires.surveyed.1 other c.requires.space

pub append_extensions-requires : goal.append_extensions-requires
append_extensions-requires c = let P = c.requires.surveyed in
    let A = extensions-asked _ _ _ _ c.top_target.ensures P.0 P.1 c.if-top_target-r.true c.requires.space in
    record { surveyed = A.0; space = A.1 }

pub returns-then-top_target-r : goal.returns-then-top_target-r
returns-then-top_target-r c = let P = c.requires.surveyed in
    let above = extensions-above _ _ _ _ c.top_target.ensures P.0 P.1 c.if-top_target-r.true in
    wrote_as c.append_extensions.ensures above

pub append_induction-requires : goal.append_induction-requires
append_induction-requires c = let P = c.requires.surveyed in
    let led = noted-led P.0.orbited P.1 c.if-notes-r.false in
    let rows = c.args.rows.now in
    let A = induction-asked c.args.f _ rows c.args.r c.top_target.ensures P.0 P.1 c.if-top_target-r.false led c.args.blocks.now P.2 c.requires.space in
    record { surveyed = A.0; space = A.1 }

pub returns : goal.returns
returns c = let P = c.requires.surveyed in
    let led = noted-led P.0.orbited P.1 c.if-notes-r.false in
    let above = induction-above _ _ _ _ c.top_target.ensures P.0 P.1 c.if-top_target-r.false led in
    wrote_as c.append_induction.ensures above
