-- Signed numbers, forward or back, and made up of rounds of a length.
--
--   number k                 the number: the size, or, back, one more than it below zero
--   MakeUp k l q t           q rounds of length l and t turns make up k; the rounds go in its direction, the turns forward
--   RoundsOf k l s           the rounds of a number, with fewer turns behind them than a round has
use Rattle.std.specs.Prelude.{◌≡◌, ℕ, suc, ◌+◌, ◌*◌, ◌≤◌, ◌<◌, ℤ, pos, negsuc}
use Rattle.signed.specs.declared.Signed.{Signed}
use Rattle.signed.specs.declared.Signed.TheVariants.{Forward, Back}
use Rattle.signed.specs.declared.Rounds.{Rounds}

abbrev pub number : Signed → ℤ
number (Forward n) = pos n
number (Back n) = negsuc n

-- n = q l + t, and -(n + 1) = t - q l
abbrev pub MakeUp : Signed → (l q t : ℕ) → Type 0
MakeUp (Forward n) l q t = n ≡ q * l + t
MakeUp (Back n) l q t = suc n + t ≡ q * l

pub record RoundsOf (k : Signed) (l : ℕ) (s : Rounds) : Type 0 where
  pub make_up : MakeUp k l s.rounds s.rest
  pub rest : s.rest < l
  pub fits : s.rounds ≤ 4294967296
