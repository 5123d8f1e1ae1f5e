-- `times` doubles by a sum.
use mathlib.Core.Path.{◌≡◌, ◌∙◌, ap}
use Prim.Native.Nat.{◌+◌, ◌*◌, ◌%◌}
use native.Mathlib.Omega.{arith}
use Rattle.check_single.proofs.times.Goals as goal

pub add_mod-requires : goal.add_mod-requires
add_mod-requires c = (c.requires.0, c.requires.0, c.requires.1)

pub returns-then-p-eq2 : goal.returns-then-p-eq2
returns-then-p-eq2 c = let x : c.args.e + c.args.e ≡ c.args.p * c.args.e = omega (arith, ap (λ p. p * c.args.e) c.if-p-eq2.true) in
    c.add_mod.ensures.0 ∙ ap (λ x. x % c.args.m) x

pub add_times-requires : goal.add_times-requires
add_times-requires c = (omega (arith, c.requires.0), c.requires.0, c.requires.1)

pub returns : goal.returns
returns c = let x : 0 + c.args.p * c.args.e ≡ c.args.p * c.args.e = omega arith in
    c.add_times.ensures.0 ∙ ap (λ x. x % c.args.m) x
