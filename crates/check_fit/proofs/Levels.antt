-- The levels, one after the other.
--
--   Reaching                     the first i levels fit, and the first lines of level i stand in the list
--   reaching-none, reaching-staged, reaching-more, reaching-stops, reaching-all      the steps of the loop
--   level-one                    level 1, in a list
use Rattle.std.specs.Prelude.{Some}
use mathlib.Core.Path.{◌≡◌, refl, sym, ◌∙◌, ap, subst}
use mathlib.Core.List.{List}
use Prim.Native.Nat.{ℕ, zero, suc, ◌+◌, ◌≤◌, ◌<◌}
use native.Mathlib.Nat.{zero-add, le_refl}
use native.Mathlib.Omega.{arith}
use native.Mathlib.Numerals.{add-one}
use lib.ListN.{length, get_or}
use borrow.Author.Count.{below_more}
use Rattle.level.specs.declared.Listed.{Listed}
use Rattle.level.specs.Stored.{Stored}
use Rattle.seek.specs.declared.Scope.{Scope}
use Rattle.seek.specs.Seek.{Found}
use Rattle.compare.specs.Staged.{Lined, Staged}
use Rattle.check_blocks.specs.Squares.{squares_in}
use Rattle.check_level.specs.Lines.{FirstLines}
use Rattle.check_level.specs.Level.{LevelFits}
use Rattle.check_fit.specs.Fit.{CharacterLines, Started, LevelOne, LevelsFit, FitUpTo}

pub record Reaching (s : Scope) (T : List ℕ) (rows : List (List ℕ)) (primes orders F₀ F : List ℕ) (low below i : ℕ) : Type 0 where
  pub size : length F ≡ length F₀
  pub from : 0 < i
  pub listed : Lined s.gens T i F low below
  pub fits : LevelsFit s T rows primes orders i

module _ {s : Scope} {T : List ℕ} {rows : List (List ℕ)} {primes orders F₀ : List ℕ} (O : LevelOne s T rows primes orders F₀) where
  pub reaching-none : (many : ℕ) → many ≡ get_or primes 0 0 → Reaching s T rows primes orders F₀ F₀ 0 many 1
  reaching-none many e =
      record { size = refl; from = omega arith; listed = subst (Lined s.gens T 1 F₀ 0) (sym e) O.listed; fits = O.fits }

  module _ {F : List ℕ} {low below i : ℕ} (R : Reaching s T rows primes orders F₀ F low below i) where
    -- the loop is left before level i + 1, or behind the last level
    pub reaching-stops : i < s.gens → FitUpTo s T rows primes orders i
    reaching-stops l = record { some = R.from; within = omega arith; fits = R.fits }

    pub reaching-all : s.gens ≤ i → FitUpTo s T rows primes orders s.gens
    reaching-all l = record {
      some = O.whole.some;
      within = le_refl s.gens;
      fits = record { each = λ k h. R.fits.each k (omega arith); squares = λ k h. R.fits.squares k (omega arith) };
    }

    -- the first lines of the next level are written
    module _ {F₁ : List ℕ} {above : ℕ} (l : i < s.gens) {o : ℕ} (N : FirstLines s T (i + 1) o (low + below) F F₁ (Some above)) where
      low-kept : Lined s.gens T i F₁ low below
      low-kept = record {
        counts = R.listed.counts;
        room = omega (arith, R.listed.room, N.size);
        line = λ r h. N.kept (low + r) (omega arith) ∙ R.listed.line r h;
      }

      high-listed : Lined s.gens T (suc i) F₁ (low + below) above
      high-listed = subst (λ i. Lined s.gens T i F₁ (low + below) above) (add-one i) N.some.0

      last_stored : (k : ℕ) → k ≡ i → 0 < k → (r : ℕ) {D : Listed} → Found s.gens T k r D → Stored s.m s.gens T D
      last_stored zero e p r G = absurd (omega arith)
      last_stored (suc k) e p r G = (R.fits.each k (omega (arith, e))).stored r G

      pub reaching-staged : (p : ℕ) → Staged s T F₁ (record { top = i; p = p; low = low; below = below; high = low + below; above = above })
      reaching-staged p = record {
        whole = O.whole;
        short = O.short;
        modulus = (O.modulus.0, omega (arith, O.modulus.1));
        level = (R.from, l);
        low = low-kept;
        high = high-listed;
        stored = λ r G. last_stored i refl R.from r G;
      }

      pub reaching-more : (p : ℕ) → p ≡ get_or primes i 0 → o ≡ get_or orders (suc i) 0 → LevelFits s T rows i p
          → Reaching s T rows primes orders F₀ F₁ (low + below) above (i + 1)
      reaching-more p e q L = record {
        size = N.size ∙ R.size;
        from = omega arith;
        listed = N.some.0;
        fits = record {
          each = below_more (λ k. LevelFits s T rows k (get_or primes k 0)) i R.fits.each (subst (LevelFits s T rows i) e L);
          squares = below_more (λ k. squares_in s.gens T (suc k) ≡ get_or orders (suc k) 0) i R.fits.squares
              (ap (squares_in s.gens T) (sym (add-one i)) ∙ N.some.1 ∙ q);
        };
      }

-- ---- Level 1

pub level-one : {s : Scope} {T : List ℕ} {rows : List (List ℕ)} {primes orders F : List ℕ} {many : ℕ} → Started s T rows primes orders
    → many ≡ get_or primes 0 0 → many ≤ length F → CharacterLines s.gens many F → LevelOne s T rows primes orders F
level-one {s} {T} {rows} {primes} {orders} {F} {many} S e room L = record {
  whole = S.whole;
  short = S.short;
  modulus = S.modulus;
  listed = record {
    counts = S.counts;
    room = omega (arith, e);
    line = λ r h. ap (λ k. get_or F k 0) (zero-add r) ∙ L.line r (omega (arith, e)) ∙ S.line r h;
  };
  fits = S.fits;
}
