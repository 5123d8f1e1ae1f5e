-- The blocks of a representation that stands in lines.
--
--   Within s T D o F           the lines of D and F hold matrices, and F has room in D from column o on
--   column_acts T D o F k c     column o + c of generator k of D is column c of that of F, moved by o
--   Refers s T i D o F         F is what the block of D from column o refers to, on level i
--   FormedBehind s T k P       T is well formed for P, and the first k levels restrict
--   Restricted s T k r         r says whether all levels do, for every such presentation
use Rattle.std.specs.Prelude.{◌≡◌, Bool, ◌&&◌, List, ℕ, ◌+◌, ◌≤◌, eqb}
use Rattle.definitions.specs.Presentation.{Presentation}
use Rattle.definitions.specs.Judgement.{everywhere, restricts}
use Rattle.level.specs.declared.Listed.{Listed}
use Rattle.level.specs.Stored.{entry_in, line_in, Stored}
use Rattle.seek.specs.declared.Scope.{Scope}
use Rattle.seek.specs.Seek.{Found}
use Rattle.seek.specs.Formed.{Formed}
use Rattle.seek.specs.Among.{rep_in, PassesFirst}

pub record Within (s : Scope) (T : List ℕ) (D : Listed) (o : ℕ) (F : Listed) : Type 0 where
  pub whole : Stored s.m s.gens T D
  pub block : Stored s.m s.gens T F
  pub room : o + F.deg ≤ D.deg

unfoldable pub column_acts : List ℕ → Listed → ℕ → Listed → (k c : ℕ) → Bool
column_acts T D o F k c =
    eqb (entry_in T (line_in D k + (o + c))).row (o + (entry_in T (line_in F k + c)).row)
    && eqb (entry_in T (line_in D k + (o + c))).exp (entry_in T (line_in F k + c)).exp

pub record Refers (s : Scope) (T : List ℕ) (i : ℕ) (D : Listed) (o : ℕ) (F : Listed) : Type 0 where
  pub found : Found s.gens T i ((rep_in T D).ref 0 o) F
  pub room : o + F.deg ≤ D.deg

pub record FormedBehind (s : Scope) (T : List ℕ) (k : ℕ) (P : Presentation) : Type 0 where
  pub formed : Formed P s T
  pub known : PassesFirst s.gens T (restricts P s.m T) k

pub record Restricted (s : Scope) (T : List ℕ) (k : ℕ) (r : Bool) : Type 0 where
  pub is : (P : Presentation) → FormedBehind s T k P → r ≡ everywhere P s.m T (restricts P s.m T)
