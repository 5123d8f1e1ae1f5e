-- `head_is` compares words two by two.
use Rattle.check_heads.proofs.Places.{head-other, head-kind, head-last}
use Rattle.check_heads.proofs.head_is.Goals as goal

pub returns-then-two_at-place : goal.returns-then-two_at-place
returns-then-two_at-place c = let a = c.args in
    head-other a.words.now a.at a.place a.kind a.c c.two_at.ensures c.if-two_at-place.true

pub returns-then-two_at-kind : goal.returns-then-two_at-kind
returns-then-two_at-kind c = let a = c.args in
    head-kind a.words.now a.at a.place a.kind a.c c.two_at-2.ensures c.if-two_at-kind.true

pub returns : goal.returns
returns c = let a = c.args in
    head-last a.words.now a.at a.place a.kind a.c c.two_at.ensures c.if-two_at-place.false
    c.two_at-2.ensures c.if-two_at-kind.false c.word_at.ensures
