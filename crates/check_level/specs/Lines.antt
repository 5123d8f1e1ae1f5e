-- First lines, written behind those of the levels below.
--
--   Noted s T i at F₀ F₁ k           the first k first lines of level i stand in F₁ from place `at` on; what stands before is kept
--   RunAsked s T i D size at r reps  D is representation r of the `reps` of level i, and a list of this size has room for all of them
--   Ran s T i D at r F G e           the first lines from representation r on are written as well, up to that which e names; all
--                                   of these have the degree of D
--   FirstLines s T i o at F₀ F₁ r    where r is a number, F₁ has so many first lines of level i from place `at` on, and the squares of
--                                   its degrees add up to o; what stands before is kept
use Rattle.std.specs.Prelude.{◌≡◌, List, ℕ, ◌+◌, ◌≤◌, ◌<◌, length, get_or, Option, IfSome}
use Rattle.definitions.specs.Monomial.{rep_of}
use Rattle.definitions.specs.Table.{first_line, level_at}
use Rattle.level.specs.declared.Listed.{Listed}
use Rattle.level.specs.Stored.{listed_in}
use Rattle.seek.specs.declared.Scope.{Scope}
use Rattle.seek.specs.Seek.{Whole, Found}
use Rattle.compare.specs.Staged.{max_lines, Lined}
use Rattle.check_blocks.specs.Squares.{squares_in}
use Rattle.check_level.specs.declared.RunEnd.{RunEnd}

pub record Noted (s : Scope) (T : List ℕ) (i at : ℕ) (F₀ F₁ : List ℕ) (k : ℕ) : Type 0 where
  pub size : length F₁ ≡ length F₀
  pub kept : (q : ℕ) → q < at → get_or F₁ q 0 ≡ get_or F₀ q 0
  pub line : (r : ℕ) → r < k → get_or F₁ (at + r) 0 ≡ first_line s.gens T i r

pub record RunAsked (s : Scope) (T : List ℕ) (i : ℕ) (D : Listed) (size at r reps : ℕ) : Type 0 where
  pub whole : Whole s T
  pub short : s.lines ≤ max_lines
  pub found : Found s.gens T i r D
  pub counts : reps ≡ length (level_at s.gens T i)
  pub room : at + reps ≤ size

pub record Ran (s : Scope) (T : List ℕ) (i : ℕ) (D : Listed) (at r : ℕ) (F G : List ℕ) (e : RunEnd) : Type 0 where
  pub forth : r < e.next
  pub within : e.next ≤ length (level_at s.gens T i)
  pub size : length G ≡ length F
  pub noted : {F₀ : List ℕ} → Noted s T i at F₀ F r → Noted s T i at F₀ G e.next
  pub degrees : (k : ℕ) → r ≤ k → k < e.next → (rep_of (level_at s.gens T i) k).deg ≡ D.deg
  pub behind : e.next < length (level_at s.gens T i) → Found s.gens T i e.next (listed_in T e.line)

pub record FirstLines (s : Scope) (T : List ℕ) (i o at : ℕ) (F₀ F₁ : List ℕ) (r : Option ℕ) : Type 0 where
  pub size : length F₁ ≡ length F₀
  pub kept : (q : ℕ) → q < at → get_or F₁ q 0 ≡ get_or F₀ q 0
  pub some : IfSome r (λ k. Lined s.gens T i F₁ at k × (squares_in s.gens T i ≡ o))
