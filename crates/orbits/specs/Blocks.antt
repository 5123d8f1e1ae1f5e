-- The blocks of an orbit, as they are listed.
--
--   members, scalars           the representations of the blocks, and their scalars for a generator
--   member_of, matrix_at         the representation of block b of the orbit of r; the matrix of a representation
--   OrbitArray                 a list that begins with an orbit
--   Inducing                   what is known where the representation induced from the orbit of r is written
--   Listing                    the same, for some words of the generators
--   BlockScalars               a list that begins with the scalars of the blocks
use Rattle.std.specs.Prelude.{◌≡◌, List, [], map, ℕ, ◌≤◌, ◌<◌, length, get_or}
use Rattle.definitions.specs.Lists.{iter}
use Rattle.definitions.specs.Monomial.{Matrix}
use Rattle.formulas.specs.Formulas.{scalar}
use Rattle.survey.specs.declared.Frame.{Frame}
use Rattle.survey.specs.declared.Note.{Note}
use Rattle.survey.specs.Below.{target_of, source_in, Leads, Surveyed}
use Rattle.orbits.specs.declared.Block.{Block}

abbrev pub members : List Block → List ℕ
members = map (λ b. b.member)

abbrev pub scalars : List Block → List ℕ
scalars = map (λ b. b.scalar)

module _ (f : Frame) (W : List ℕ) where
  abbrev pub member_of : ℕ → ℕ → ℕ
  member_of r b = iter (target_of f W f.top) b r

  abbrev pub matrix_at : ℕ → ℕ → Matrix
  matrix_at q g = (source_in f W []).matrix q g

  pub record OrbitArray (orbit : List ℕ) (r : ℕ) : Type 0 where
    pub long : f.p ≤ length orbit
    pub at : (k : ℕ) → k < f.p → get_or orbit k 0 ≡ member_of r k

  pub record Inducing (rows : List (List ℕ)) (notes : List Note) (blocks : List Block) (r : ℕ) : Type 0 where
    pub surveyed : Surveyed f W rows notes
    pub leads : Leads f W r
    pub orbit_is : OrbitArray (members blocks) r

  pub record Listing (notes : List Note) (blocks : List Block) (r : ℕ) : Type 0 where
    pub rows : List (List ℕ)
    pub known : Inducing rows notes blocks r

  -- the scalars of the blocks of the orbit of r for generator j
  pub record BlockScalars (rows : List (List ℕ)) (a : List ℕ) (j r : ℕ) : Type 0 where
    pub long : f.p ≤ length a
    pub at : (b : ℕ) → b < f.p → get_or a b 0 ≡ scalar (source_in f W rows) j r b
