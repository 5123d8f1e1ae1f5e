-- What the test for one generator answers.
--
--   Answers l q r          r is the answer of the test q for the generator of l, where those below it pass
--   ValueAt l k x r        r is the value over the images of l of the first k exponents of x
use Rattle.std.specs.Prelude.{Bool, List, ℕ}
use Rattle.definitions.specs.Presentation.{Presentation}
use Rattle.consistency.specs.declared.Level.{Level}
use Rattle.consistency.specs.Images.{Value}
use Rattle.consistency.specs.Answers.{Settles}

abbrev pub Answers : Level → (Presentation → ℕ → Bool) → Bool → Type 0
Answers l q r = Settles l.i l.collector.now.primes.now l.collector.now.rows.now (λ P. q P l.i) r

abbrev pub ValueAt : Level → (k : ℕ) (x r : List ℕ) → Type 0
ValueAt l k x r = Value l.i l.collector.now.primes.now l.collector.now.rows.now k x r
