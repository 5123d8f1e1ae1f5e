-- `reference` reads a number and adds where extension k lands.
use mathlib.Core.Path.{◌≡◌}
use native.Mathlib.Omega.{arith}
use native.Mathlib.Nat.{mod-lt}
use Prim.Native.Nat.{◌+◌, ◌*◌, ◌<◌}
use lib.ListN.{get_or, get_or-map}
use Rattle.targets.specs.declared.Target.{Target}
use Rattle.targets.specs.Reached.{starts, landings}
use Rattle.extend.proofs.Extensions.{product-fits, targets-small}
use Rattle.extend.proofs.reference.Goals as goal

abbrev blank : Target
blank = record { start = 0; landing = 0 }

pub overflow_add-result : goal.overflow_add-result
overflow_add-result c = let R = c.requires.0.1.1 in
    let t : Target = get_or c.args.targets.now c.args.g blank in
    let x : get_or (landings c.args.targets.now) c.args.g 0 ≡ t.landing = get_or-map (λ (t : Target). t.landing) c.args.targets.now c.args.g blank in
    let small = targets-small R _ c.requires.2 c.requires.1 in
    let product = product-fits _ _ _ c.requires.3 c.power-a.ensures.1 (omega (arith, R.sound.stands.prime)) in
    omega (arith, product, x, small.1)

pub overflow_add-result-2 : goal.overflow_add-result-2
overflow_add-result-2 c = let R = c.requires.0.1.1 in
    let pos : 0 < c.args.f.p = omega (arith, R.sound.stands.prime) in
    let t : Target = get_or c.args.targets.now c.args.g blank in
    let x : get_or (starts c.args.targets.now) c.args.g 0 ≡ t.start = get_or-map (λ (t : Target). t.start) c.args.targets.now c.args.g blank in
    let small = targets-small R _ c.requires.2 c.requires.1 in
    let rest = mod-lt (t.landing + c.args.k * c.power-a.result) pos in
    omega (arith, rest, R.sound.stands.prime, x, small.0)
