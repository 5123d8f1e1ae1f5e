-- What is noted of the representations of a level.
--
--   firsts                     first lines
--   leaders, positions         the least of each orbit, and the position in the orbit
--   numbers                    numbers of the first representations above
--   shifts                     the constants that close the orbits
--   without_leader, without_number, without_shift      a note without its leader, number, constant
--   Beside without a b         a and b differ alone in what `without` takes away
--   Cleared reps a b           b is a with each representation as its own leader
use Rattle.std.specs.Prelude.{◌≡◌, List, map, ℕ, ◌<◌, get_or}
use Rattle.survey.specs.declared.Note.{Note}

abbrev pub firsts : List Note → List ℕ
firsts = map (λ n. n.first)

abbrev pub leaders : List Note → List ℕ
leaders = map (λ n. n.leader)

abbrev pub positions : List Note → List ℕ
positions = map (λ n. n.position)

abbrev pub numbers : List Note → List ℕ
numbers = map (λ n. n.number)

abbrev pub shifts : List Note → List ℕ
shifts = map (λ n. n.shift)

abbrev pub without_leader : Note → Note
without_leader n = record { first = n.first; leader = 0; position = n.position; number = n.number; shift = n.shift }

abbrev pub without_number : Note → Note
without_number n = record { first = n.first; leader = n.leader; position = n.position; number = 0; shift = n.shift }

abbrev pub without_shift : Note → Note
without_shift n = record { first = n.first; leader = n.leader; position = n.position; number = n.number; shift = 0 }

abbrev pub Beside : (Note → Note) → List Note → List Note → Type 0
Beside without a b = map without b ≡ map without a

pub record Cleared (reps : ℕ) (a b : List Note) : Type 0 where
  pub beside : Beside without_leader a b
  pub alone : (q : ℕ) → q < reps → get_or (leaders b) q 0 ≡ q
