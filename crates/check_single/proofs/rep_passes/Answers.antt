-- `rep_passes` looks the power word up.
use mathlib.Core.Path.{sym, ◌∙◌, ap}
use mathlib.Core.List.{[]}
use mathlib.Core.Bool.{false≢true}
use native.Mathlib.Omega.{arith}
use lib.ListN.{get_or}
use Rattle.compare.proofs.Staged.{found_inside}
use Rattle.compare.proofs.Stored.{fits-stored}
use Rattle.relations.proofs.Said.{says-power}
use Rattle.check_single.proofs.Power as power
use Rattle.check_single.proofs.rep_passes.Goals as goal

pub pair-at-requires : goal.pair-at-requires
pair-at-requires c = let S = c.requires.0 in
    (omega arith, omega (arith, c.up-t.ensures, S.level.1, S.whole.few))

pub single_value-requires : goal.single_value-requires
single_value-requires c = let (S, (r, G)) = c.requires in
    (S, found_inside S.whole S.short G, c.if-d-eq1.true)

pub single_power-requires : goal.single_power-requires
single_power-requires c = let (S, (r, G)) = c.requires in
    let one = c.if-d-eq1.true in
    let F = c.in-Some.ensures in
    let M = fits-stored S G F.fits in
    (power.line-room M one c.args.g.top S.level.1, power.exponent_below M one c.args.g.top S.level.1, S.modulus.0, S.modulus.1)

pub returns-then-d-eq1 : goal.returns-then-d-eq1
returns-then-d-eq1 c = λ e.
    let (S, (r, G)) = c.requires in
    let a = c.args in
    let rows = a.rows.now in
    let F = c.in-Some.ensures in
    let word = ap (λ t. get_or rows t []) c.pair-at.ensures.0 in (
      F.fits,
      record {
        is = λ P Y.
            power.single-power a.s (fits-stored S G F.fits) c.if-d-eq1.true S.modulus.0 P a.g.top a.g.p _ _ S.level.1 F.value
            (c.single_power.ensures e) (says-power Y (get_or rows c.pair-at.result []) c.up-t.result word c.up-t.ensures);
      },
    )

pub rep_fits-requires : goal.rep_fits-requires
rep_fits-requires c = let (S, (r, G)) = c.requires in
    (S, found_inside S.whole S.short G)

pub returns-then-not-rep_fits : goal.returns-then-not-rep_fits
returns-then-not-rep_fits c = λ e. absurd (false≢true e)

pub power_at-requires : goal.power_at-requires
power_at-requires c = let (S, (r, G)) = c.requires in
    let F = c.rep_fits.ensures (c.if-not-rep_fits.false) in
    (record { few = S.whole.few; modulus = S.modulus.0; stored = fits-stored S G F }, S.level.1, G.positive)

pub returns : goal.returns
returns c = λ e.
    let rows = c.args.rows.now in
    let word = ap (λ t. get_or rows t []) c.pair-at.ensures.0 in (
      c.rep_fits.ensures (c.if-not-rep_fits.false),
      record {
        is = λ P Y.
            sym (c.power_at.ensures P (says-power Y (get_or rows c.pair-at.result []) c.up-t.result word c.up-t.ensures)) ∙ e;
      },
    )
