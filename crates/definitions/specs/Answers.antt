-- What each call answers and leaves behind ("Why a part is sent back", and the first of the four questions, in the
-- specification). A call is a relation between what goes in and what comes out; a refused call leaves the caller's
-- buffer as it was and counts 0.
--
--   First conditions a         a is the number of the first condition that applies, or 0
--   first_of tests              the same for conditions that compute
--   says t Q                   the text t says relations of which Q holds
--   relation_tests              12 to 14, each with its test
--   text_refusals, inconsistent, presentation_refusals      11 to 14; 15; 11 to 15
--   short, build_refusals       16; 11 to 16
--   judgements                 21 to 26, each with its test
--   judgement P m T            the number of the first test that T fails for P, with exponents modulo m
--   table_refusals, check_refusals     21 to 26 for what a text says, modulo a number that depends on it; 11 to 15 before them
--   read_refusals, write_refusals      16 and 20; 21 and 16
--   over before s              a buffer after s was written at its start
--   Leaves                     what a call hands over and leaves in its buffers: all of a finished call, or nothing
--   Accept, Measure, Commutative, Build, Check, ReadTable, WriteTable      the seven calls
use Rattle.std.specs.Prelude.{◌≡◌, ◌⊎◌, ℕ, ◌+◌, ◌*◌, ◌-◌, ◌<◌, Bool, true, false, cond, List, [], ◌∷◌, ◌++◌, map, length, drop, eqb}
use Rattle.definitions.specs.Text.{Bytes}
use Rattle.definitions.specs.Presentation.{line_words, Presentation, order, build_words, Relations, Says, InForm, presentation, some_not_prime, too_large}
use Rattle.definitions.specs.Presentation.{misused}
use Rattle.definitions.specs.Consistency.{Consistent}
use Rattle.definitions.specs.Table.{line_count, table_text, writable}
use Rattle.definitions.specs.Steps.{table_of, top_degrees_one}
use Rattle.definitions.specs.Judgement.{malformed, relation_fails, restriction_fails, intertwiner_fails, not_separated, squares_fail}

-- ---- The smallest number that applies

-- Conditions stand in the order in which they are tried: by rising number, but for the writer's 21 before 16.
abbrev pub First : List (ℕ × Type 0) → ℕ → Type 0
First [] a = a ≡ 0
First (c ∷ rest) a = (c.1 × (a ≡ c.0)) ⊎ ((¬ c.1) × First rest a)

-- the same for conditions that compute
unfoldable pub first_of : List (ℕ × Bool) → ℕ
first_of [] = 0
first_of (c ∷ rest) = cond c.1 c.0 (first_of rest)

abbrev pub says : Bytes → (Relations → Type 0) → Type 0
says t Q = (R : Relations) × Says t R × Q R

-- ---- The conditions

abbrev pub relation_tests : List (ℕ × (Relations → Bool))
relation_tests = (12, some_not_prime) ∷ (13, too_large) ∷ (14, misused) ∷ []

abbrev pub text_refusals : Bytes → List (ℕ × Type 0)
text_refusals t = (11, ¬ InForm t) ∷ map (λ (q : ℕ × (Relations → Bool)). (q.0, says t (λ R. q.1 R ≡ true))) relation_tests

abbrev pub inconsistent : Bytes → List (ℕ × Type 0)
inconsistent t = (15, says t (λ R. ¬ Consistent (presentation R))) ∷ []

abbrev pub presentation_refusals : Bytes → List (ℕ × Type 0)
presentation_refusals t = text_refusals t ++ inconsistent t

-- fewer words than a build wants
abbrev pub short : Bytes → ℕ → List (ℕ × Type 0)
short t have = (16, says t (λ R. have < build_words (presentation R))) ∷ []

abbrev pub build_refusals : Bytes → ℕ → List (ℕ × Type 0)
build_refusals t have = presentation_refusals t ++ short t have

abbrev pub judgements : List (ℕ × (Presentation → ℕ → List ℕ → Bool))
judgements =
    (21, malformed)
    ∷ (22, relation_fails)
    ∷ (23, restriction_fails)
    ∷ (24, intertwiner_fails)
    ∷ (25, not_separated)
    ∷ (26, squares_fail)
    ∷ []

-- a test applies to the presentation that the text says, with exponents modulo the number that belongs to it
abbrev pub table_refusals : Bytes → (Presentation → ℕ) → List ℕ → List (ℕ × Type 0)
table_refusals t modulus T =
    map (λ (q : ℕ × (Presentation → ℕ → List ℕ → Bool)). (q.0, says t (λ R. let P = presentation R in q.1 P (modulus P) T ≡ true))) judgements

abbrev pub check_refusals : Bytes → (Presentation → ℕ) → List ℕ → List (ℕ × Type 0)
check_refusals t modulus T = presentation_refusals t ++ table_refusals t modulus T

unfoldable pub judgement : Presentation → ℕ → List ℕ → ℕ
judgement P m T = first_of (map (λ (q : ℕ × (Presentation → ℕ → List ℕ → Bool)). (q.0, q.1 P m T)) judgements)

-- bytes 10 of a text
unfoldable pub newlines : Bytes → ℕ
newlines [] = 0
newlines (b ∷ t) = cond (eqb b 10) 1 0 + newlines t

-- the text t is the table text of the words T
pub record TableSays (t : Bytes) (T : List ℕ) : Type 0 where
  pub formed : writable T ≡ true
  pub written : t ≡ table_text T

-- 16: fewer words than eight for each line after the first; 20: not in the form
abbrev pub read_refusals : Bytes → ℕ → List (ℕ × Type 0)
read_refusals t have = (16, have < line_words * (newlines t - 1)) ∷ (20, ¬ ((T : List ℕ) × TableSays t T)) ∷ []

-- 21: no whole lines, or a value of more than nine digits; 16: fewer bytes than the text
abbrev pub write_refusals : List ℕ → ℕ → List (ℕ × Type 0)
write_refusals T have = (21, writable T ≡ false) ∷ (16, have < length (table_text T)) ∷ []

-- ---- The calls

unfoldable pub over : List ℕ → List ℕ → List ℕ
over before s = s ++ drop (length s) before

-- what is handed over and the buffers after a call: those of a finished call, or nothing handed over and nothing changed
pub record Leaves {H B : Type 0} (Finished : H → B → Type 0) (nothing : H) (before : B) (answer : ℕ) (handed : H) (after : B) : Type 0 where
  pub finished : answer ≡ 0 → Finished handed after
  pub refused : ¬ (answer ≡ 0) → (handed ≡ nothing) × (after ≡ before)

abbrev pub Accept : Bytes → ℕ → Type 0
Accept t answer = First (presentation_refusals t) answer

-- the words that a build of the text wants; there is no buffer
pub record Measure (t : Bytes) (answer count : ℕ) : Type 0 where
  pub answered : Accept t answer
  pub leaves : Leaves (λ k (w : Unit {0}). says t (λ R. k ≡ build_words (presentation R))) 0 tt answer count tt

-- 1 where every representation of the top level has degree 1, or 0; there is no buffer
pub record Commutative (t : Bytes) (answer yes : ℕ) : Type 0 where
  pub answered : Accept t answer
  pub leaves : Leaves (λ v (w : Unit {0}). says t (λ R. v ≡ cond (top_degrees_one (presentation R)) 1 0)) 0 tt answer yes tt

pub record Build (t : Bytes) (before : List ℕ) (answer count : ℕ) (after : List ℕ) : Type 0 where
  pub answered : First (build_refusals t (length before)) answer
  pub leaves :
      Leaves (λ k w. says t (λ R. let T = table_of (presentation R) in (k ≡ line_count T) × (w ≡ over before T))) 0 before answer count after

-- exponents are modulo the order of the group
abbrev pub Check : Bytes → List ℕ → ℕ → Type 0
Check t T answer = First (check_refusals t (λ P. order P P.n) T) answer

pub record ReadTable (t : Bytes) (before : List ℕ) (answer count : ℕ) (after : List ℕ) : Type 0 where
  pub answered : First (read_refusals t (length before)) answer
  pub leaves : Leaves (λ k w. (T : List ℕ) × TableSays t T × (k ≡ line_count T) × (w ≡ over before T)) 0 before answer count after

pub record WriteTable (T : List ℕ) (before : Bytes) (answer count : ℕ) (after : Bytes) : Type 0 where
  pub answered : First (write_refusals T (length before)) answer
  pub leaves : Leaves (λ k w. (k ≡ length (table_text T)) × (w ≡ over before (table_text T))) 0 before answer count after
