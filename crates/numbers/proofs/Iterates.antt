-- Iterates of a map, beside those of Lists.
--
--   iter-out      one step more at the end
--   iter-iter     iterates of an iterate
use mathlib.Core.Path.{◌≡◌, sym, ◌∙◌, ap}
use Prim.Native.Nat.{ℕ, zero, suc, ◌*◌}
use native.Mathlib.Nat.{mul-zero, mul-suc}
use Rattle.definitions.specs.Lists.{iter}
use Rattle.numbers.proofs.Lists.{iter-zero, iter-suc, iter-add}

pub iter-out : {A : Type 0} (f : A → A) (k : ℕ) (x : A) → iter f (suc k) x ≡ f (iter f k x)
iter-out f zero x = iter-suc f 0 x ∙ iter-zero f (f x) ∙ ap f (sym (iter-zero f x))
iter-out f (suc k) x = iter-suc f (suc k) x ∙ iter-out f k (f x) ∙ ap f (sym (iter-suc f k x))

pub iter-iter : {A : Type 0} (f : A → A) (a k : ℕ) (x : A) → iter (iter f a) k x ≡ iter f (a * k) x
iter-iter f a zero x = iter-zero (iter f a) x ∙ sym (ap (λ s. iter f s x) (mul-zero a) ∙ iter-zero f x)
iter-iter f a (suc k) x = iter-out (iter f a) k x ∙ ap (iter f a) (iter-iter f a k x) ∙ iter-add f (a * k) a x ∙ ap (λ s. iter f s x) (sym (mul-suc a k))
