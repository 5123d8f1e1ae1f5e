-- Level 1, before the levels above it are looked at.
--
--   first-level        what is known of level 1
--   first-squares      the squares of its degrees
--   started            level 1 fits, and where its representations begin
--   up-to-one          the first level, of those that fit
use mathlib.Core.Path.{◌≡◌, sym, ◌∙◌, ap, subst}
use mathlib.Core.List.{List}
use Prim.Native.Nat.{ℕ, suc, ◌*◌, ◌≤◌, ◌<◌}
use native.Mathlib.Omega.{arith}
use lib.ListN.{length, get_or}
use Rattle.definitions.specs.Presentation.{max_modulus}
use Rattle.definitions.specs.Table.{level_at}
use Rattle.numbers.proofs.Sums.{sum_below, sum-const}
use Rattle.level.specs.Stored.{Stored}
use Rattle.seek.specs.declared.Scope.{Scope}
use Rattle.check_blocks.specs.Squares.{square_of, squares_in}
use Rattle.compare.specs.Staged.{max_lines}
use Rattle.check_first.specs.First.{FirstLevel}
use Rattle.check_first.proofs.First.{character-found, character-stored, characters-unshared, characters-fit}
use Rattle.check_level.specs.Level.{LevelFits}
use Rattle.check_fit.specs.Fit.{LevelsFit, FitUpTo, Started}
use Rattle.check_level.proofs.Level.{found-is}

module _ {s : Scope} {T : List ℕ} {rows : List (List ℕ)} (primes : List ℕ) {orders : List ℕ} (F : FirstLevel s T rows orders (get_or primes 0 0))
    (short : s.lines ≤ max_lines) (modulus : (0 < s.m) × (s.m ≤ max_modulus)) where
  abbrev p : ℕ
  p = get_or primes 0 0

  wide : (0 < s.m) × (s.m ≤ 2147483648)
  wide = (modulus.0, omega (arith, modulus.1))

  first-level : LevelFits s T rows 0 (get_or primes 0 0)
  first-level = record {
    fit = λ P Y r l. characters-fit F.are F.whole wide F.counts P Y.prime Y.power Y.word r l;
    unshared = characters-unshared F.are F.whole wide F.counts;
    stored = λ r G.
        let l : r < p = omega (arith, G.listed, F.counts) in
        let H = character-found F.are F.whole wide F.counts r l in
        subst (Stored s.m s.gens T) (found-is s H ∙ sym (found-is s G)) (character-stored F.are F.whole wide F.counts r l);
  }

  first-squares : squares_in s.gens T 1 ≡ get_or orders 1 0
  unfolding squares_in
  first-squares =
      let many : ℕ = length (level_at s.gens T 1) in
      let one : (r : ℕ) → r < many → square_of s.gens T 1 r ≡ 1
      = λ r h. ap (λ d. d * d) (sym (character-found F.are F.whole wide F.counts r (omega (arith, F.counts))).deg) in
      sum_below many (square_of s.gens T 1) (λ r. 1) one ∙ sum-const many 1 ∙ omega (arith, F.counts, F.order)

  levels-one : LevelsFit s T rows primes orders 1
  levels-one = record {
    each = λ i l. let e : 0 ≡ i = omega arith in subst (λ i. LevelFits s T rows i (get_or primes i 0)) e first-level;
    squares = λ i l. let e : 0 ≡ i = omega arith in subst (λ i. squares_in s.gens T (suc i) ≡ get_or orders (suc i) 0) e first-squares;
  }

  pub started : Started s T rows primes orders
  started = record {
    whole = F.whole;
    short = short;
    modulus = modulus;
    counts = sym F.counts;
    room = omega (arith, F.are.room, F.whole.lines_are);
    line = λ r l. (character-found F.are F.whole wide F.counts r l).line;
    fits = levels-one;
  }

pub up-to-one : {s : Scope} {T : List ℕ} {rows : List (List ℕ)} {primes orders : List ℕ} → Started s T rows primes orders
    → FitUpTo s T rows primes orders 1
up-to-one S = record { some = omega arith; within = S.whole.some; fits = S.fits }
