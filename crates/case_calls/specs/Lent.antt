-- A call that is lent the first part of a buffer.
--
--   Call                                       what a call makes of a buffer: the buffer before, answer, count, the buffer after
--   Lent call a before answer count after      the call on the first a elements, or on all if there are fewer; the others are kept
--   Summed call a before answer count sum      the same, told by a sum over the whole buffer
--   Compared call a before t ..                the same, and whether what is counted of the buffer is the text t
use Rattle.std.specs.Prelude.{◌≡◌, ◌↔◌, Bool, true, List, ℕ, length, take, drop}
use Rattle.text.specs.Reading.{StartsAt}
use Rattle.case_input.specs.Mixed.{mixed_to}

abbrev pub Call : Type 1
Call = List ℕ → ℕ → ℕ → List ℕ → Type 0

pub record Lent (call : Call) (a : ℕ) (before : List ℕ) (answer count : ℕ) (after : List ℕ) : Type 0 where
  pub called : call (take a before) answer count (take a after)
  pub kept : drop a after ≡ drop a before

pub record Summed (call : Call) (a : ℕ) (before : List ℕ) (answer count sum : ℕ) : Type 0 where
  pub after : List ℕ
  pub lent : Lent call a before answer count after
  pub total : sum ≡ mixed_to after (length after)

pub record Compared (call : Call) (a : ℕ) (before t : List ℕ) (answer count sum : ℕ) (same : Bool) : Type 0 where
  pub after : List ℕ
  pub lent : Lent call a before answer count after
  pub total : sum ≡ mixed_to after (length after)
  pub equal : (same ≡ true) ↔ ((count ≡ length t) × StartsAt after 0 t)
