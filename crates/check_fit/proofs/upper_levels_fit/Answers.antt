-- `upper_levels_fit` goes from level to level.
use mathlib.Core.Path.{◌∙◌, ap, subst}
use Prim.Native.Nat.{suc}
use native.Mathlib.Omega.{arith}
use native.Mathlib.Numerals.{add-one}
use lib.ListN.{get_or}
use Rattle.commuting.specs.Commuting.{Quiet}
use Rattle.check_fit.proofs.Levels.{reaching-staged, reaching-more, reaching-stops}
use Rattle.check_fit.proofs.upper_levels_fit.Goals as goal

pub returns-in_default : goal.returns-in_default
returns-in_default c = record {
  fit_up_to = reaching-stops c.requires c.loop-i.invariant.0 (omega arith);
  firsts_len_unchanged = c.first_lines.ensures.size ∙ c.loop-i.invariant.0.size;
}

pub level_fits-requires : goal.level_fits-requires
level_fits-requires c = (
  reaching-staged c.requires c.loop-i.invariant.0 (omega arith) c.in-Some.ensures
      (get_or c.args.primes.now c.up-k.result 0),
  subst (λ n. Quiet n c.args.rows.now c.reaches-reach.result) c.up.ensures c.reaches-reach.ensures,
)

pub returns-then-not-level_fits : goal.returns-then-not-level_fits
returns-then-not-level_fits c = record {
  fit_up_to = reaching-stops c.requires c.loop-i.invariant.0 (omega arith);
  firsts_len_unchanged = c.first_lines.ensures.size ∙ c.loop-i.invariant.0.size;
}

pub loop-i-preserved : goal.loop-i-preserved
loop-i-preserved c = let primes = c.args.primes.now in
    let orders = c.args.orders.now in (
      reaching-more c.requires c.loop-i.invariant.0 (omega arith) c.in-Some.ensures
          (get_or primes c.up-k.result 0)
          (ap (λ k. get_or primes k 0) c.up-k.ensures) (ap (λ k. get_or orders k 0) (add-one c.up-k.result ∙ ap suc c.up-k.ensures))
          (c.level_fits.ensures (c.if-not-level_fits.false)),
      c.level_fits.auto.marks ∙ c.loop-i.invariant.1,
      c.level_fits.auto.slots ∙ c.loop-i.invariant.2,
    )
