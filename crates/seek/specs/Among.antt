-- The representations of a table to which refusal 21 does not apply, and a condition on each.
--
--   rep_in T D            the representation whose lines D names
--   Among s T i D        it is one of level i
--   on_level n T q i      the condition q on every representation of level i
--   PassesFirst n T q k  it holds on the first k levels
use Rattle.std.specs.Prelude.{◌≡◌, Bool, true, List, ℕ, suc, ◌<◌, length}
use Rattle.definitions.specs.Lists.{all_below}
use Rattle.definitions.specs.Presentation.{Presentation}
use Rattle.definitions.specs.Monomial.{Rep, rep_of}
use Rattle.definitions.specs.Table.{rep_at, level_at}
use Rattle.level.specs.declared.Listed.{Listed}
use Rattle.seek.specs.declared.Scope.{Scope}
use Rattle.seek.specs.Seek.{Found}
use Rattle.seek.specs.Formed.{Formed}

abbrev pub rep_in : List ℕ → Listed → Rep
rep_in T D = rep_at T D.line D.deg

pub record Among (s : Scope) (T : List ℕ) (i : ℕ) (D : Listed) : Type 0 where
  pub presented : Presentation
  pub formed : Formed presented s T
  pub r : ℕ
  pub found : Found s.gens T i r D

unfoldable pub on_level : ℕ → List ℕ → (ℕ → Rep → Bool) → ℕ → Bool
on_level n T q i = all_below (length (level_at n T i)) (λ r. q i (rep_of (level_at n T i) r))

abbrev pub PassesFirst : ℕ → List ℕ → (ℕ → Rep → Bool) → ℕ → Type 0
PassesFirst n T q k = (i : ℕ) → i < k → on_level n T q (suc i) ≡ true
