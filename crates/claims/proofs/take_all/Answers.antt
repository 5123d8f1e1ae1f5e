-- `take_all` goes through the columns: what those before c refer to was free, and is marked.
use mathlib.Core.Path.{sym, ◌∙◌, subst}
use native.Mathlib.Omega.{arith}
use Rattle.definitions.specs.Table.{rep_at}
use Rattle.seek.proofs.Columns.{ref-at}
use Rattle.claims.specs.Claims.{TookAll}
use Rattle.claims.proofs.Marks.{taking-more, taking-all}
use Rattle.claims.proofs.take_all.Goals as goal

pub loop-c-preserved : goal.loop-c-preserved
loop-c-preserved c = let a = c.args in
    let (low, room, taking) = c.loop-c.invariant in
    let read = c.up-f.ensures ∙ c.word_at.ensures in
    let f = read ∙ sym (ref-at a.words.now a.d.line c.up-deg.result c.loop-c.c) in
    (omega arith, room, taking-more taking f (c.take.ensures (c.if-not-take.false)))

pub returns : goal.returns
returns c = let a = c.args in
    let e = c.up-deg.ensures in
    let all = taking-all c.loop-c.invariant.2 (unfold rep_at in (omega arith)) in
    λ _. subst (λ deg. TookAll (rep_at a.words.now a.d.line deg) a.marks.now c.loop-c.marks) e all
