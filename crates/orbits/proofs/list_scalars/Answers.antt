-- `list_scalars`: s is a block along the generator on top, and the scalars up to it are listed.
use mathlib.Core.Path.{◌≡◌, refl}
use Prim.Native.Nat.{suc, ◌+◌, ◌<◌}
use native.Mathlib.Omega.{arith}
use Rattle.orbits.proofs.Along.{scaling-none, scaling-more, scaling-all}
use Rattle.orbits.proofs.list_scalars.Goals as goal

pub loop-k-init : goal.loop-k-init
loop-k-init c = (0, refl, scaling-none _ _ _ _ _ c.requires.1 c.requires.2 c.args.blocks.now c.requires.0)

pub loop-k-preserved : goal.loop-k-preserved
loop-k-preserved c = let (k, e, C) = c.loop-k.invariant in
    let below : suc k < c.args.f.p = omega (arith, e) in
    (k + 1, omega (arith, e), scaling-more _ _ _ _ _ c.requires.1 c.requires.2 c.loop-k.blocks C c.next_scalar-s.ensures below)

pub returns : goal.returns
returns c = let (k, e, C) = c.loop-k.invariant in
    let some : 1 < c.args.f.p = c.requires.0.surveyed.sound.stands.prime.0 in
    let last : k + 1 ≡ c.args.f.p = omega (arith, e, c.loop-k.auto.k-end (omega (arith, some))) in
    record { inducing = C.known; block_scalars = scaling-all _ _ _ _ _ c.requires.1 c.requires.2 c.loop-k.blocks C last }
