-- Two stores, or none.
use mathlib.Core.Path.{refl}
use native.Mathlib.Omega.{arith}
use Rattle.reader.proofs.keep.Goals as goal

pub returns-then-k-lt-PAIRS : goal.returns-then-k-lt-PAIRS
returns-then-k-lt-PAIRS c = record {
  kept_word = λ l. refl;
  kept_p = λ l. refl;
  past_word = λ l. absurd (omega arith);
  past_p = λ l. absurd (omega arith);
}

pub returns-else-k-lt-PAIRS : goal.returns-else-k-lt-PAIRS
returns-else-k-lt-PAIRS c = record {
  kept_word = λ l. absurd (omega arith);
  kept_p = λ l. absurd (omega arith);
  past_word = λ l. refl;
  past_p = λ l. refl;
}
