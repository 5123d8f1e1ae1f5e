-- `restrictions_hold` tests the levels one by one.
use mathlib.Core.Path.{◌≡◌}
use mathlib.Core.Logic.{◌⊎◌, inl, inr, by_cases}
use Prim.Native.Nat.{ℕ, max}
use native.Mathlib.Omega.{arith}
use native.Mathlib.Decide.{dec_lt}
use Rattle.seek.proofs.Among.{table-fails, table-holds}
use Rattle.check_blocks.proofs.Levels.{HoldingBehind, asks, up-behind}
use Rattle.check_blocks.proofs.restrictions_hold.Goals as goal

-- the levels that restrict, or level 1
known-or-one : (k : ℕ) {r : ℕ} → r ≡ max k 1 → (r ≡ k) ⊎ (r ≡ 1)
known-or-one k e = by_cases (dec_lt 0 k) (λ l. inl (omega arith)) (λ n. inr (omega arith))

pub loop-i-init : goal.loop-i-init
loop-i-init c = let a = c.args in
    (up-behind a.s a.words.now a.from (known-or-one a.from c.max-i.ensures), omega (arith, c.max-i.ensures))

pub returns-then-not-level_acts : goal.returns-then-not-level_acts
returns-then-not-level_acts c = let a = c.args in
    let t = c.level_acts in
    let T = a.words.now in
    record {
      is = table-fails a.s T (HoldingBehind a.s T a.from) (asks a.s T) a.s.m (λ P p. p.formed.gens_are) c.loop-i.invariant.0 (omega arith)
          (λ P p. t.ensures.is P p.formed)
          (c.if-not-level_acts.true);
    }

pub returns : goal.returns
returns c = let a = c.args in
    let T = a.words.now in
    record { is = table-holds a.s T (HoldingBehind a.s T a.from) (asks a.s T) a.s.m (λ P p. p.formed.gens_are) c.loop-i.invariant.0 (omega arith) }
