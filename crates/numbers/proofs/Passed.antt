-- A loop of tests that depend on something not held by the code, of which A is known.
--
--   Passed A q k                 every number below k passes the test q x, for every x with A x
--   passed_none, passed-more     at the start, and one number more
--   passed-all, passed-fails     the answer of the loop
use mathlib.Core.Path.{◌≡◌, sym, ◌∙◌}
use mathlib.Core.Bool.{Bool, true, false}
use Prim.Native.Nat.{ℕ, ◌+◌, ◌≤◌, ◌<◌}
use Rattle.definitions.specs.Lists.{all_below}
use Rattle.numbers.proofs.Tested.{Tested, tested-none, tested-more, tested-all, tested-fails}

pub record Passed {X : Type 0} (A : X → Type 0) (q : X → ℕ → Bool) (k : ℕ) : Type 0 where
  pub tested : (x : X) → A x → Tested (q x) k

module _ {X : Type 0} {A : X → Type 0} {q : X → ℕ → Bool} where
  pub passed_none : Passed A q 0
  passed_none = record { tested = λ x a. tested-none }

  pub passed-more : {k : ℕ} {b : Bool} → Passed A q k → ((x : X) → A x → b ≡ q x k) → b ≡ true → Passed A q (k + 1)
  passed-more H t e = record { tested = λ x a. tested-more (H.tested x a) (sym (t x a) ∙ e) }

  pub passed-all : {k n : ℕ} → Passed A q k → n ≤ k → (x : X) → A x → true ≡ all_below n (q x)
  passed-all H l x a = tested-all (H.tested x a) l

  pub passed-fails : {k n : ℕ} {b : Bool} → Passed A q k → k < n → ((x : X) → A x → b ≡ q x k) → b ≡ false → (x : X) → A x → false ≡ all_below n (q x)
  passed-fails H l t e x a = tested-fails (H.tested x a) l (sym (t x a) ∙ e)
