-- Laws of a level that stands in words.
--
--   first-zero, first_next     where representations begin
--   first-room, matrix-room    there is a line at the beginning of a representation, and of a matrix
--   first_below                it lies before the end of the level
--   located-stored, located-line     matrices of the representation that D is, and the lines at which they begin
--   located-degree, located-matrix, located-column      its degree, a matrix, column 0
--   located-target             where an intertwiner leads it
--   orbits                     the orbits of the generator on top
--   moved-many, moved-prime    an orbit that moves has p members, so that p is no more than there are representations, and small
use mathlib.Core.Path.{◌≡◌, refl, ap, sym, ◌∙◌, subst}
use mathlib.Core.Logic.{by_cases}
use Prim.Native.Nat.{ℕ, suc, ◌+◌, ◌*◌, ◌<◌, ◌≤◌}
use native.Mathlib.Decide.{dec_lt}
use native.Mathlib.Numerals.{add-one}
use native.Mathlib.Omega.{arith}
use native.Mathlib.Nat.{mul-le-mul_right, mul-le-mul_left}
use mathlib.Core.List.{List}
use lib.ListN.{length}
use Rattle.definitions.specs.Lists.{iter}
use Rattle.definitions.specs.Presentation.{max_degree}
use Rattle.numbers.proofs.Pigeonhole.{injects-le}
use Rattle.numbers.proofs.Orbits.{Orbits, iter-below, moved-distinct}
use Rattle.level.specs.declared.Listed.{Listed}
use Rattle.level.specs.Stored.{matrix_in, Below, line_in, generator_in, target_in, Stored}
use Rattle.definitions.specs.Monomial.{entry}
use Rattle.survey.specs.declared.Frame.{Frame}
use Rattle.survey.specs.Below.{first_of, deg_of, matrix_of, target_of, Fixed, LevelStands, Located}

module _ (f : Frame) (W : List ℕ) where
  pub first-zero : first_of f W 0 ≡ f.base
  unfolding first_of
  first-zero = refl

  pub first_next : (r : ℕ) → first_of f W (r + 1) ≡ first_of f W r + f.gens * deg_of f W r
  unfolding first_of
  first_next r = ap (first_of f W) (add-one r)

  module _ (S : LevelStands f W) where
    pub matrix-room : (g r : ℕ) → g < f.gens → r < f.reps → 8 * matrix_of f W g r + 8 ≤ length W
    matrix-room g r a b = let h : 8 * (matrix_of f W g r + deg_of f W r) ≤ length W = (S.valid r b g a).fits in omega (arith, (S.wide r b).0)

    pub first-room : (r : ℕ) → r < f.reps → 8 * first_of f W r + 8 ≤ length W
    first-room r b = omega (arith, matrix-room 0 r (omega (arith, S.gens.0)) b)

    pub first_below : (r : ℕ) → r < f.reps → first_of f W r + f.gens * deg_of f W r ≤ f.end
    first_below r b = subst (λ z. z ≤ f.end) (ap (first_of f W) (sym (add-one r)) ∙ first_next r) (S.inside r b)

    -- the orbits of the generator on top
    unfoldable pub orbits : Orbits
    orbits = record {
      N = f.reps;
      p = f.p;
      τ = target_of f W f.top;
      two = S.prime.0;
      units = S.units;
      inside = λ r l. (S.target r l f.top (omega arith) S.gens.0).0;
      home = S.cycle;
    }

    -- an orbit that moves has as many members as the prime says
    pub moved-many : (r : ℕ) → r < f.reps → ¬ Fixed f W r → f.p ≤ f.reps
    unfolding orbits
    moved-many r h v = injects-le f.p f.reps (λ k. iter (target_of f W f.top) k r) (record {
      below = λ k l. iter-below orbits k r h;
      injective = λ j k a b e. moved-distinct orbits r h v j k a b e;
    })

    -- the square of the prime of an orbit that moves is at most the order
    pub moved-prime : f.p ≤ f.reps → f.p ≤ max_degree
    moved-prime l = by_cases (dec_lt max_degree f.p)
        (λ h.
        let a : f.p * f.p ≤ f.p * f.reps = mul-le-mul_left f.p l in
        let b : f.p * suc max_degree ≤ f.p * f.p = mul-le-mul_left f.p h in
        absurd (omega (arith, S.few)))
        (λ h. omega arith)

-- ---- The representation that D is

module _ {f : Frame} {W : List ℕ} {r : ℕ} {D : Listed} (L : Located f W r D) where
  pub located-stored : (n : ℕ) → n ≤ f.gens → Stored f.m n W D
  located-stored n l = subst (Stored f.m n W) (sym L.is) (record {
    positive = (L.stands.wide r L.listed).0;
    degree = refl;
    holds = λ g h. L.stands.valid r L.listed g (omega arith);
  })

  pub located-degree : D.deg ≡ deg_of f W r
  located-degree = ap (λ (E : Listed). E.deg) L.is

  pub located-matrix : (g : ℕ) → generator_in W D g ≡ matrix_in W (matrix_of f W g r) (deg_of f W r)
  located-matrix g = ap (λ (E : Listed). generator_in W E g) L.is

  pub located-line : (g : ℕ) → g ≤ f.gens → 8 * line_in D g < 18446744073709551616
  located-line g l =
      let e : line_in D g ≡ matrix_of f W g r = ap (λ (E : Listed). line_in E g) L.is in
      let h : g * deg_of f W r ≤ f.gens * deg_of f W r = mul-le-mul_right (deg_of f W r) l in
      omega (arith, e, h, first_below f W L.stands r L.listed, L.stands.short.1)

  pub located-column : Below f.m D.deg (entry 0 0)
  located-column = record { row = (located-stored 0 (omega arith)).positive; exp = L.stands.modulus.0 }

  pub located-target : (j x : ℕ) → f.top ≤ j → j < f.gens → x ≡ target_in W D j
      → (x ≡ target_of f W j r) × (x < f.reps) × (D.deg ≡ deg_of f W x)
  located-target j x a b e =
      let t : x ≡ target_of f W j r = e ∙ ap (λ (E : Listed). target_in W E j) L.is in
      let q = L.stands.target r L.listed j a b in
      (t, subst (λ y. y < f.reps) (sym t) q.0, located-degree ∙ sym q.1 ∙ ap (deg_of f W) (sym t))
