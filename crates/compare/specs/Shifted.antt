-- Lines that are other lines, shifted.
--
--   LineShifted m T at src t     line `at` is line src with the reference of t, its row and its exponent moved by those of t
--   Shifted m T at src d t       so are the d lines from `at` on those from src on
--   LineSame T at src x          line `at` refers to x, and has row and exponent of line src
--   LinesSame T at src n x       so do the n lines from `at` on, with those from src on
--   shift x r e                  the shift to reference x by r rows and the e-th power of the root
use Rattle.std.specs.Prelude.{◌≡◌, List, ℕ, ◌+◌, ◌%◌, ◌<◌}
use Rattle.definitions.specs.Monomial.{entry}
use Rattle.definitions.specs.Table.{REF, word_at}
use Rattle.level.specs.Stored.{entry_in}
use Rattle.compare.specs.declared.Shift.{Shift}

abbrev pub shift : (x r e : ℕ) → Shift
shift x r e = record { refn = x; row = r; exp = e }

pub record LineShifted (m : ℕ) (T : List ℕ) (at src : ℕ) (t : Shift) : Type 0 where
  pub ref : word_at T at REF ≡ t.refn
  pub is : entry_in T at ≡ entry (t.row + (entry_in T src).row) (((entry_in T src).exp + t.exp) % m)

pub record Shifted (m : ℕ) (T : List ℕ) (at src d : ℕ) (t : Shift) : Type 0 where
  pub each : (c : ℕ) → c < d → LineShifted m T (at + c) (src + c) t

pub record LineSame (T : List ℕ) (at src x : ℕ) : Type 0 where
  pub ref : word_at T at REF ≡ x
  pub is : entry_in T at ≡ entry_in T src

pub record LinesSame (T : List ℕ) (at src n x : ℕ) : Type 0 where
  pub each : (k : ℕ) → k < n → LineSame T (at + k) (src + k) x
