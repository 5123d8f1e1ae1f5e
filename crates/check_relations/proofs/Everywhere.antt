-- A condition of the table, as the laws of all representations and all levels take it.
--
--   Posing s rows primes T      the presentations that are posed
--   asks q s T                  the condition q, at the modulus of the table
--   Behind q s rows primes T k  and those of them for which q holds on the first k levels
--   level-told                  what is told of the level behind level i
use mathlib.Core.Path.{◌≡◌, ◌∙◌, ap}
use mathlib.Core.Bool.{Bool}
use mathlib.Core.List.{List}
use Prim.Native.Nat.{ℕ, suc, ◌+◌}
use native.Mathlib.Numerals.{add-one}
use Rattle.definitions.specs.Presentation.{Presentation}
use Rattle.definitions.specs.Monomial.{Rep}
use Rattle.seek.specs.declared.Scope.{Scope}
use Rattle.seek.specs.Formed.{Posed}
use Rattle.seek.specs.Among.{on_level}
use Rattle.check_relations.specs.Asked.{RepTest, OnLevel, PosedBehind}

abbrev pub Posing : Scope → List (List ℕ) → (primes T : List ℕ) → Presentation → Type 0
Posing s rows primes T P = Posed P s rows primes T

abbrev pub Behind : RepTest → Scope → List (List ℕ) → (primes T : List ℕ) → ℕ → Presentation → Type 0
Behind q s rows primes T k P = PosedBehind q s rows primes T k P

abbrev pub asks : RepTest → Scope → List ℕ → Presentation → ℕ → Rep → Bool
asks q s T P = q P s.m T

pub level-told : (q : RepTest) (s : Scope) (rows : List (List ℕ)) (primes T : List ℕ) (i : ℕ) {b : Bool} → OnLevel q s rows primes T (i + 1) b
    → (P : Presentation) → Posing s rows primes T P → b ≡ on_level s.gens T (asks q s T P) (suc i)
level-told q s rows primes T i t P p = t.is P p ∙ ap (on_level s.gens T (asks q s T P)) (add-one i)
