-- `judge_formed`: 23 or 22, then 22 by the top relations, 24, 25 and 26.
use Rattle.checker.proofs.Phases.{found-22, found-22-top, found-23, found-24, found-25, found-26, found_none}
use Rattle.checker.proofs.judge_formed.Goals as goal

pub restrictions_hold-requires : goal.restrictions_hold-requires
restrictions_hold-requires c = let (A, S) = c.requires in (A.C.P, S.posed.formed)

pub relations_hold-requires : goal.relations_hold-requires
relations_hold-requires c = let (A, S) = c.requires in (A.C.P, S.posed)

pub returns-then-relations_hold : goal.returns-then-relations_hold
returns-then-relations_hold c = let all = c.relations_hold in
    let acts = c.restrictions_hold in
    found-23 acts.result acts.ensures all.result all.ensures (c.if-not-restrictions_hold.true) c.if-relations_hold.true

pub returns-then-not-restrictions_hold : goal.returns-then-not-restrictions_hold
returns-then-not-restrictions_hold c = let all = c.relations_hold in
    let acts = c.restrictions_hold in
    found-22 acts.result acts.ensures all.result all.ensures c.if-relations_hold.false

pub top_relations_hold-requires : goal.top_relations_hold-requires
top_relations_hold-requires c = let (A, S) = c.requires in (A.C.P, S.posed)

pub returns-then-not-top_relations_hold : goal.returns-then-not-top_relations_hold
returns-then-not-top_relations_hold c = let top = c.top_relations_hold in
    let acts = c.restrictions_hold in
    found-22-top acts.result acts.ensures (c.if-not-restrictions_hold.false) top.result top.ensures
    (c.if-not-top_relations_hold.true)

pub intertwiners_hold-requires : goal.intertwiners_hold-requires
intertwiners_hold-requires c = let (A, S) = c.requires in (A.C.P, S.posed)

pub returns-then-not-intertwiners_hold : goal.returns-then-not-intertwiners_hold
returns-then-not-intertwiners_hold c = let twine = c.intertwiners_hold in
    let top = c.top_relations_hold in
    let acts = c.restrictions_hold in
    found-24 acts.result acts.ensures (c.if-not-restrictions_hold.false) top.result top.ensures
    (c.if-not-top_relations_hold.false) twine.result twine.ensures (c.if-not-intertwiners_hold.true)

pub separated-requires : goal.separated-requires
separated-requires c = let (A, S) = c.requires in
    (A.C.P, S.posed.formed)

pub returns-then-not-separated : goal.returns-then-not-separated
returns-then-not-separated c = let apart = c.separated in
    let twine = c.intertwiners_hold in
    let top = c.top_relations_hold in
    let acts = c.restrictions_hold in
    found-25 acts.result acts.ensures (c.if-not-restrictions_hold.false) top.result top.ensures
    (c.if-not-top_relations_hold.false) twine.result twine.ensures (c.if-not-intertwiners_hold.false)
    apart.result apart.ensures (c.if-not-separated.true)

pub squares_hold-requires : goal.squares_hold-requires
squares_hold-requires c = let (A, S) = c.requires in
    S.posed.formed.whole

pub returns-then-not-squares_hold : goal.returns-then-not-squares_hold
returns-then-not-squares_hold c = let square = c.squares_hold in
    let apart = c.separated in
    let twine = c.intertwiners_hold in
    let top = c.top_relations_hold in
    let acts = c.restrictions_hold in
    found-26 acts.result acts.ensures (c.if-not-restrictions_hold.false) top.result top.ensures
    (c.if-not-top_relations_hold.false) twine.result twine.ensures (c.if-not-intertwiners_hold.false)
    apart.result apart.ensures (c.if-not-separated.false) square.result square.ensures
    (c.if-not-squares_hold.true)

pub returns : goal.returns
returns c = let square = c.squares_hold in
    let apart = c.separated in
    let twine = c.intertwiners_hold in
    let top = c.top_relations_hold in
    let acts = c.restrictions_hold in
    found_none acts.result acts.ensures (c.if-not-restrictions_hold.false) top.result top.ensures
    (c.if-not-top_relations_hold.false) twine.result twine.ensures (c.if-not-intertwiners_hold.false)
    apart.result apart.ensures (c.if-not-separated.false) square.result square.ensures
    (c.if-not-squares_hold.false)
