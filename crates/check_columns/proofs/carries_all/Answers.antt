-- `carries_all` goes through the generators above the top.
use mathlib.Core.Path.{sym, ◌∙◌, ap, subst}
use mathlib.Core.Bool.{false≢true}
use mathlib.Core.List.{[]}
use Prim.Native.Nat.{suc, ◌+◌, ◌*◌, ◌≤◌, ◌<◌}
use native.Mathlib.Omega.{arith}
use lib.ListN.{length, get_or}
use Rattle.level.specs.declared.Listed.{Listed}
use Rattle.level.proofs.Columns.{stored-fewer}
use Rattle.relations.specs.Kept.{MatricesStored}
use Rattle.check_columns.specs.Relates.{Carries}
use Rattle.relations.proofs.Said.{says-word}
use Rattle.check_columns.proofs.Carrying.{rising_none, rising-more, rising-all, says-quiet, led-is}
use Rattle.check_columns.proofs.carries_all.Goals.{then-reach-above+else-not-commutes, else-reach-above+else-not-carries}
use Rattle.check_columns.proofs.carries_all.Goals as goal

pub overflow_step-j : goal.overflow_step-j
overflow_step-j c = omega (arith, c.requires.0.top, c.requires.0.kept.few)

pub loop-j-init : goal.loop-j-init
loop-j-init c = let a = c.args in
    rising_none a.s a.words.now a.firsts.now a.g a.d a.rows.now a.v

pub target-requires : goal.target-requires
target-requires c = (c.args.s.m, stored-fewer (suc c.loop-j.j) (omega arith) c.requires.0.kept.stored)

pub overflow_add-g : goal.overflow_add-g
overflow_add-g c = let L = c.requires.0.leads c.loop-j.j c.loop-j.invariant.from (omega arith) in
    omega (arith, L.place.0, c.up.ensures, c.target.ensures, c.well_formed)

pub rep_at-e-requires : goal.rep_at-e-requires
rep_at-e-requires c = let a = c.args in
    let L = c.requires.0.leads c.loop-j.j c.loop-j.invariant.from (omega arith) in
    subst (λ x. (a.g.high + x < length a.firsts.now) × (8 * get_or a.firsts.now (a.g.high + x) 0 + 8 ≤ length a.words.now))
    (sym (c.up.ensures ∙ c.target.ensures)) L.place

pub offset_bounds-reach-above : goal.offset_bounds-reach-above
offset_bounds-reach-above c = omega (arith, c.up-above.ensures, c.requires.0.kept.few)

pub bounds-reach-above : goal.bounds-reach-above
bounds-reach-above c = omega (arith, c.up-above.ensures, c.loop-j-test.true, c.requires.0.kept.few)

pub commutes-requires : goal.commutes-requires
commutes-requires c = let a = c.args in
    let R = c.requires.0 in
    let L = R.leads c.loop-j.j c.loop-j.invariant.from (omega arith) in
    let e = led-is a.words.now a.firsts.now a.g a.d c.loop-j.j c.rep_at-e.ensures c.up.ensures c.target.ensures in (
      R.kept,
      subst (MatricesStored a.s a.words.now) (sym e) L.kept,
      ap (λ (E : Listed). E.deg) e ∙ L.degree,
      c.loop-j.invariant.from,
      omega arith,
      c.requires.1,
      c.requires.2,
      R.narrow,
    )

pub returns-then-not-commutes : goal.returns-then-not-commutes
returns-then-not-commutes c = λ e. absurd (false≢true e)

pub pair-at-requires : goal.pair-at-requires
pair-at-requires c = (
  omega (arith, c.up-below.ensures, c.up-above.ensures, c.loop-j.invariant.from),
  omega (arith, c.up-above.ensures, c.loop-j-test.true, c.requires.0.kept.few),
)

pub carries-requires : goal.carries-requires
carries-requires c = let a = c.args in
    let R = c.requires.0 in
    let L = R.leads c.loop-j.j c.loop-j.invariant.from (omega arith) in
    let e = led-is a.words.now a.firsts.now a.g a.d c.loop-j.j c.rep_at-e.ensures c.up.ensures c.target.ensures in (
      R.kept,
      subst (MatricesStored a.s a.words.now) (sym e) L.kept,
      ap (λ (E : Listed). E.deg) e ∙ L.degree,
      c.loop-j.invariant.from,
      omega arith,
      c.requires.1,
      c.requires.2,
      R.narrow,
    )

pub returns-then-not-carries : goal.returns-then-not-carries
returns-then-not-carries c = λ e. absurd (false≢true e)

pub loop-j-preserved : goal.loop-j-preserved
loop-j-preserved c = let a = c.args in
    let j = c.loop-j.j in
    let l = c.loop-j.invariant.from in
    let rows = a.rows.now in
    let e = led-is a.words.now a.firsts.now a.g a.d c.loop-j.j c.rep_at-e.ensures c.up.ensures c.target.ensures in
    rising-more c.loop-j.invariant (λ P S. subst (λ (E : Listed). Carries a.s a.words.now a.d E a.g.top j a.v P) e (
    elim c.if-reach-above.branch [
      | then-reach-above+else-not-commutes w ↦
          let r : get_or a.reach.now c.up-above.result 0 ≤ a.g.top = omega (arith, w.if-reach-above.true, c.up-below.ensures) in
          w.commutes.ensures w.if-not-commutes.false P
          (says-quiet S c.requires.3 j l (omega arith) (subst (λ x. get_or a.reach.now x 0 ≤ a.g.top) c.up-above.ensures r))
      | else-reach-above+else-not-carries w ↦
          w.carries.ensures w.if-not-carries.false P
          (says-word S j l (omega arith) (get_or rows w.pair-at.result []) c.up-above.result c.up-below.result
          (ap (λ t. get_or rows t []) w.pair-at.ensures.0) c.up-above.ensures c.up-below.ensures)
    ]))

pub returns : goal.returns
returns c = λ e.
    rising-all c.loop-j.invariant (omega arith)
