-- A test of every block of a representation, as a loop takes it, and what a whole block says.
--
--   Cutting q o        what is left to test from column o on says what the whole test says
--   cutting-none, cutting-more, cutting-fails, cutting-all      the steps of the loop
--   cutting-passes     a test that every block passes
--   block_listed, block_room      a whole block refers to a listed representation, which has room
use mathlib.Core.Path.{◌≡◌, refl, sym, ◌∙◌, ap}
use mathlib.Core.Bool.{Bool, true, false, ◌&&◌, false≢true}
use mathlib.Core.List.{[], ◌∷◌}
use Prim.Native.Nat.{ℕ, zero, suc, ◌+◌, ◌≤◌, ◌<◌}
use native.Mathlib.Omega.{arith}
use lib.Dec.{ltb, leb}
use lib.ListN.{length}
use borrow.Author.Tests.{lt-ltb, le-ltb, ltb-true, leb-true}
use Rattle.definitions.specs.Lists.{all}
use Rattle.definitions.specs.Monomial.{Rep, Level, rep_of}
use Rattle.definitions.specs.Judgement.{cuts_from, cuts, whole_block}
use Rattle.numbers.proofs.Bools.{and_left, and_right, cond-true, cond-false}

module _ (low : Level) (D : Rep) (q : ℕ → Bool) where
  pub record Cutting (o : ℕ) : Type 0 where
    pub fuel : ℕ
    pub enough : D.deg ≤ o + fuel
    pub same : all q (cuts_from low D fuel o) ≡ all q (cuts low D)

  -- how wide the block from column o is
  abbrev width : ℕ → ℕ
  width o = (rep_of low (D.ref 0 o)).deg

  from_end : (f o : ℕ) → D.deg ≤ o → all q (cuts_from low D f o) ≡ true
  unfolding cuts_from all
  from_end zero o h = refl
  from_end (suc f) o h = ap (all q) (cond-false (ltb o D.deg) _ [] (le-ltb o D.deg h))

  from_more : (f o : ℕ) → o < D.deg → all q (cuts_from low D (suc f) o) ≡ q o && all q (cuts_from low D f (o + width o))
  unfolding cuts_from all
  from_more f o h = ap (all q) (cond-true (ltb o D.deg) (o ∷ cuts_from low D f (o + width o)) [] (lt-ltb o D.deg h))

  pub cutting-none : Cutting 0
  unfolding cuts
  cutting-none = record { fuel = D.deg; enough = omega arith; same = refl }

  pub cutting-more : (o : ℕ) → Cutting o → o < D.deg → 0 < (rep_of low (D.ref 0 o)).deg → q o ≡ true → Cutting (o + (rep_of low (D.ref 0 o)).deg)
  cutting-more o C h w t = go C.fuel C.enough C.same
    where
      go : (f : ℕ) → D.deg ≤ o + f → all q (cuts_from low D f o) ≡ all q (cuts low D) → Cutting (o + width o)
      go zero enough s = absurd (omega arith)
      go (suc f) enough s = record {
        fuel = f;
        enough = omega arith;
        same = sym (from_more f o h ∙ ap (λ b. b && all q (cuts_from low D f (o + width o))) t) ∙ s;
      }

  pub cutting-fails : (o : ℕ) → Cutting o → o < D.deg → q o ≡ false → all q (cuts low D) ≡ false
  cutting-fails o C h t = go C.fuel C.enough C.same
    where
      go : (f : ℕ) → D.deg ≤ o + f → all q (cuts_from low D f o) ≡ all q (cuts low D) → all q (cuts low D) ≡ false
      go zero enough s = absurd (omega arith)
      go (suc f) enough s = sym s ∙ from_more f o h ∙ ap (λ b. b && all q (cuts_from low D f (o + width o))) t

  pub cutting-all : (o : ℕ) → Cutting o → D.deg ≤ o → all q (cuts low D) ≡ true
  cutting-all o C h = sym C.same ∙ from_end C.fuel o h

  pub cutting-passes : (o : ℕ) → Cutting o → o < D.deg → all q (cuts low D) ≡ true → q o ≡ true
  cutting-passes o C h e = go (q o) refl
    where
      go : (b : Bool) → q o ≡ b → q o ≡ true
      go true t = t
      go false t = absurd (false≢true (sym (cutting-fails o C h t) ∙ e))

-- ---- A whole block

module _ (low : Level) (D : Rep) (o : ℕ) (h : whole_block low D o ≡ true) where
  abbrev listed : Bool
  listed = ltb (D.ref 0 o) (length low)

  abbrev ends : Bool
  ends = leb (o + (rep_of low (D.ref 0 o)).deg) D.deg

  both : listed && ends ≡ true
  unfolding whole_block
  both = and_left (listed && ends) _ h

  pub block_listed : D.ref 0 o < length low
  block_listed = ltb-true (D.ref 0 o) (length low) (and_left listed ends both)

  pub block_room : o + (rep_of low (D.ref 0 o)).deg ≤ D.deg
  block_room = leb-true (o + (rep_of low (D.ref 0 o)).deg) D.deg (and_right listed ends both)
