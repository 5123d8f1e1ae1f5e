-- `level_compares` goes through the representations of the level.
use borrow.Author.Count.{below_more}
use mathlib.Core.Path.{refl}
use native.Mathlib.Omega.{arith}
use Rattle.seek.proofs.Seek.{found-fits}
use Rattle.claims.proofs.Claims.{claims-found, claims-all}
use Rattle.compare.proofs.Staged.{high-at, high-place}
use Rattle.check_level.proofs.Level.{high_fits, high-power}
use Rattle.check_level.proofs.level_compares.Goals as goal

pub rep_at-d-requires : goal.rep_at-d-requires
rep_at-d-requires c = high-place c.requires c.loop-r.r (omega arith)

pub rep_passes-requires : goal.rep_passes-requires
rep_passes-requires c = (c.requires, (c.loop-r.r, high-at c.requires c.loop-r.r (omega arith) c.rep_at-d.ensures refl))

pub claim-requires : goal.claim-requires
claim-requires c = (
  found-fits (high-at c.requires c.loop-r.r (omega arith) c.rep_at-d.ensures refl) c.args.g.top c.requires.level.1,
  omega (arith, c.if-part-eq0.false),
)

pub loop-r-preserved : goal.loop-r-preserved
loop-r-preserved c = (
  below_more _ c.loop-r.r c.loop-r.invariant.0 (high_fits c.requires c.loop-r.r (omega (arith, c.loop-r-test)) c.rep_at-d.ensures
      (c.rep_passes.ensures (c.if-not-rep_passes.false)).0),
  below_more _ c.loop-r.r c.loop-r.invariant.1 (high-power c.requires c.loop-r.r (omega (arith, c.loop-r-test)) c.rep_at-d.ensures
      (c.rep_passes.ensures (c.if-not-rep_passes.false)).1),
  claims-found (high-at c.requires c.loop-r.r (omega (arith, c.loop-r-test)) c.rep_at-d.ensures refl) c.loop-r.invariant.2
      (c.claim.ensures (c.if-not-claim.false)),
)

pub returns : goal.returns
returns c = λ e. let l = c.loop-r in record {
  each = λ r h. l.invariant.0 r (omega arith);
  powers = λ r h. l.invariant.1 r (omega arith);
  unshared = claims-all l.invariant.2 (omega (arith, c.requires.high.counts));
}
