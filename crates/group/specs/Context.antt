-- What every lemma about the normal forms of a presentation shares.
--
--   Context     a presentation whose primes are above 1 and whose words are valid
--   Nf C i      the valid normal forms of level i
use Rattle.std.specs.Prelude.{ℕ, suc, ◌<◌}
use Rattle.definitions.specs.Presentation.{NF, Presentation, Valid}

pub record Context : Type 0 where
  pub P : Presentation
  pub two : (j : ℕ) → 1 < P.p j
  pub u_valid : (j : ℕ) → Valid P j (P.u j)
  pub w_valid : (k j : ℕ) → Valid P (suc k) (P.w k j)

abbrev pub Nf : (C : Context) (i : ℕ) → Type 0
Nf C i = (x : NF i) × Valid C.P i x
