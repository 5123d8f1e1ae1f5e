-- What is asked of each representation of a table, and what a test of it answers for every presentation that is posed.
--
--   RepTest                   a condition on the representations of a level, for a presentation, a modulus and a table
--   OfRep, OnLevel         r is the answer for one representation, for all of a level
--   PosedBehind k          a presentation that is posed, for which the condition holds on the first k levels
--   Everywhere k           r is the answer for all of the table, for every such presentation
--   Tests post             what a test answers, by its post, is the answer for each representation
--   OnLevels, OnTable      and then r is the answer for a level, and for the table
use Rattle.std.specs.Prelude.{◌≡◌, Bool, List, ℕ}
use Rattle.definitions.specs.Presentation.{Presentation}
use Rattle.definitions.specs.Monomial.{Rep}
use Rattle.definitions.specs.Judgement.{everywhere}
use Rattle.level.specs.declared.Listed.{Listed}
use Rattle.seek.specs.declared.Scope.{Scope}
use Rattle.seek.specs.Formed.{Posed, TellsOf}
use Rattle.seek.specs.Among.{rep_in, Among, on_level, PassesFirst}

abbrev pub RepTest : Type 0
RepTest = Presentation → ℕ → List ℕ → ℕ → Rep → Bool

module _ (q : RepTest) (s : Scope) (rows : List (List ℕ)) (primes T : List ℕ) where
  abbrev pub OfRep : ℕ → Listed → Bool → Type 0
  OfRep i D r = TellsOf s rows primes T (λ P. q P s.m T i (rep_in T D)) r

  abbrev pub OnLevel : ℕ → Bool → Type 0
  OnLevel i r = TellsOf s rows primes T (λ P. on_level s.gens T (q P s.m T) i) r

  pub record PosedBehind (k : ℕ) (P : Presentation) : Type 0 where
    pub posed : Posed P s rows primes T
    pub known : PassesFirst s.gens T (q P s.m T) k

  pub record Everywhere (k : ℕ) (r : Bool) : Type 0 where
    pub is : (P : Presentation) → PosedBehind k P → r ≡ everywhere P s.m T (q P s.m T)

-- ---- A test that is lent, for whatever condition it tests

module _ (post : ℕ → Listed → Bool → Type 0) where
  pub record Tests (q : RepTest) (s : Scope) (rows : List (List ℕ)) (primes T : List ℕ) : Type 0 where
    pub each : (i : ℕ) (D : Listed) (r : Bool) → Among s T i D → post i D r → OfRep q s rows primes T i D r

  abbrev pub OnLevels : Scope → List ℕ → ℕ → Bool → Type 0
  OnLevels s T i r = (q : RepTest) (rows : List (List ℕ)) (primes : List ℕ) → Tests q s rows primes T → OnLevel q s rows primes T i r

  abbrev pub OnTable : Scope → List ℕ → ℕ → Bool → Type 0
  OnTable s T k r = (q : RepTest) (rows : List (List ℕ)) (primes : List ℕ) → Tests q s rows primes T → Everywhere q s rows primes T k r
