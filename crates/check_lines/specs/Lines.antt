-- What refusal 21 asks of lines, each a test.
--
--   TwoWords T at k r           r is words k and k + 1 of line `at` as one number
--   ref_in T D g c          what column c of generator g refers to
--   entry_ok m d x          a row below d, and an exponent below m
--   RowsBelow T at d       the d lines from line `at` on have rows below d
--   has_row T at d r        one of the d lines from line `at` on has row r
--   refs_are T at k x       the k lines from line `at` on refer to x
--   refs_as T D g           generator g refers as the first one does, column by column
--   target_ok T D many j    all columns of generator j refer to one number below many
use Rattle.std.specs.Prelude.{◌≡◌, Bool, ◌&&◌, List, ℕ, ◌+◌, ◌*◌, ◌<◌, eqb, ltb}
use Rattle.definitions.specs.declared.Entry.{Entry}
use Rattle.definitions.specs.Lists.{all_below, any_below}
use Rattle.definitions.specs.Table.{REF, word_at}
use Rattle.level.specs.declared.Listed.{Listed}
use Rattle.level.specs.Stored.{entry_in, line_in}

pub record TwoWords (T : List ℕ) (at k r : ℕ) : Type 0 where
  pub is : r ≡ word_at T at k + word_at T at (k + 1) * 4294967296
  pub low : word_at T at k < 4294967296

abbrev pub ref_in : List ℕ → Listed → ℕ → ℕ → ℕ
ref_in T D g c = word_at T (line_in D g + c) REF

abbrev pub entry_ok : ℕ → ℕ → Entry → Bool
entry_ok m d x = ltb x.row d && ltb x.exp m

abbrev pub RowsBelow : List ℕ → (at d : ℕ) → Type 0
RowsBelow T at d = (c : ℕ) → c < d → (entry_in T (at + c)).row < d

abbrev pub has_row : List ℕ → ℕ → ℕ → ℕ → Bool
has_row T at d r = any_below d (λ c. eqb (entry_in T (at + c)).row r)

abbrev pub refs_are : List ℕ → ℕ → ℕ → ℕ → Bool
refs_are T at k x = all_below k (λ c. eqb (word_at T (at + c) REF) x)

abbrev pub refs_as : List ℕ → Listed → ℕ → Bool
refs_as T D g = all_below D.deg (λ c. eqb (ref_in T D g c) (ref_in T D 0 c))

abbrev pub target_ok : List ℕ → Listed → ℕ → ℕ → Bool
target_ok T D many j = ltb (ref_in T D j 0) many && all_below D.deg (λ c. eqb (ref_in T D j c) (ref_in T D j 0))
