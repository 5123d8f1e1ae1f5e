-- The words of the first levels of a table, and the frame in which the next level is made from them.
--
--   modulus, level_of i       the order, and level i of the steps
--   up_to k                   the words of levels 1 to k
--   lines_to k                how many lines they are
--   degree_in k r             the degree of representation r of level suc k
--   frame_at k                the frame of the level above level suc k
--   WithinCeilings                    what refusal 13 leaves: the ceilings on generators and on the order
--   Placed i f W             a frame and words are those of the level above level i
use Rattle.std.specs.Prelude.{◌≡◌, List, ℕ, suc, ◌*◌, ◌-◌, ◌≤◌, ◌<◌, length}
use Rattle.definitions.specs.Lists.{blocks, sum}
use Rattle.definitions.specs.Presentation.{max_generators, max_order, order}
use Rattle.definitions.specs.Monomial.{Level, rep_of}
use Rattle.definitions.specs.Table.{level_words}
use Rattle.definitions.specs.Steps.{levels}
use Rattle.clifford.specs.Accepted.{Accepted}
use Rattle.survey.specs.declared.Frame.{Frame}

module _ (A : Accepted) where
  -- the modulus of the exponents: the order
  abbrev pub modulus : ℕ
  modulus = order A.C.P A.C.P.n

  -- level i of the steps
  abbrev pub level_of : ℕ → Level
  level_of i = levels A.C.P modulus i

  unfoldable pub up_to : ℕ → List ℕ
  up_to k = blocks k (λ i. level_words A.C.P.n (suc i) (level_of (suc i)))

  abbrev pub degree_in : ℕ → ℕ → ℕ
  degree_in k r = (rep_of (level_of (suc k)) r).deg

  unfoldable pub lines_to : ℕ → ℕ
  lines_to k = sum k (λ i. sum (length (level_of (suc i))) (λ r. A.C.P.n * degree_in i r))

  abbrev pub frame_at : ℕ → Frame
  frame_at k = record {
    m = modulus;
    top = suc k;
    gens = A.C.P.n;
    p = A.C.P.p (suc k);
    base = lines_to k;
    reps = length (level_of (suc k));
    end = lines_to (suc k);
  }

  pub record WithinCeilings : Type 0 where
    pub few : A.C.P.n ≤ max_generators
    pub low : modulus ≤ max_order

  pub record Placed (i : ℕ) (f : Frame) (W : List ℕ) : Type 0 where
    pub above : 0 < i
    pub below : i < A.C.P.n
    pub modulus_is : f.m ≡ modulus
    pub top_is : f.top ≡ i
    pub gens_is : f.gens ≡ A.C.P.n
    pub prime_is : f.p ≡ A.C.P.p i
    pub base_is : 8 * f.base ≡ length (up_to (i - 1))
    pub reps_is : f.reps ≡ length (level_of i)
    pub end_is : 8 * f.end ≡ length (up_to i)
    pub words_are : W ≡ up_to i
