-- Lines of a representation of level 1, generator by generator.
--
--   image-room               its lines stand in the words
--   head-is                  the lines of a representation, by what is read of that of generator 0
--   image-is                 the line of a generator above generator 0, by what is read of it
--   LedUpTo                 so for the generators up to j
--   reaching-none, reaching-more, reaching-all     the steps of the loop
--   placed                   a representation is one of those whose lines are there
use mathlib.Core.Path.{◌≡◌, subst}
use mathlib.Core.List.{List}
use Prim.Native.Nat.{ℕ, suc, ◌+◌, ◌*◌, ◌≤◌, ◌<◌}
use native.Mathlib.Nat.{mul-le-mul_right}
use native.Mathlib.Omega.{arith}
use lib.ListN.{length}
use borrow.Author.Count.{below_more}
use Rattle.definitions.specs.Table.{REF, COL, ROW, EXP, word_at}
use Rattle.seek.specs.declared.Scope.{Scope}
use Rattle.seek.proofs.Halves.{line-there}
use Rattle.check_lines.specs.Lines.{TwoWords}
use Rattle.check_first.specs.First.{word_on, exponent_of, LineOne, LedTo, RootImage, Parted, CharacterPlaced, RootImages, Character}

pub image-room : {s : Scope} {T : List ℕ} {p r : ℕ} → CharacterPlaced s T p r → (g : ℕ) → g < s.gens → 8 * (r * s.gens + g) + 8 ≤ length T
image-room {s} {T} {p} {r} P g l =
    let e : suc r * s.gens ≤ p * s.gens = mul-le-mul_right {m = suc r} {n = p} s.gens P.here in
    line-there T (r * s.gens + g) (omega (arith, P.room, e))

pub placed : {s : Scope} {T : List ℕ} {p part r : ℕ} → Parted s T p part → r < p → CharacterPlaced s T p r
placed {s} {T} {p} {part} {r} P l = record {
  counted = P.counted;
  room = P.room;
  here = l;
  small = P.small;
  few = let e : p * 1 ≤ p * part = mul_le_mul_left p P.positive in omega (arith, e, P.product, P.small);
}
  where
    mul_le_mul_left : (p : ℕ) → 0 < part → p * 1 ≤ p * part
    mul_le_mul_left p h = let e : 1 * p ≤ part * p = mul-le-mul_right {m = 1} {n = part} p h in omega (arith, e)

pub record LedUpTo (s : Scope) (T : List ℕ) (rows : List (List ℕ)) (p r k : ℕ) : Type 0 where
  pub from : 0 < k
  pub each : (j : ℕ) → j < k → 0 < j → RootImage s T rows p r j

module _ {s : Scope} {T : List ℕ} {rows : List (List ℕ)} {p r : ℕ} where
  pub reaching-none : LedUpTo s T rows p r 1
  reaching-none = record { from = omega arith; each = λ j l h. absurd (omega arith) }

  pub reaching-more : {k : ℕ} → LedUpTo s T rows p r k → RootImage s T rows p r k → LedUpTo s T rows p r (k + 1)
  reaching-more {k} R i = record { from = omega arith; each = below_more (λ j. 0 < j → RootImage s T rows p r j) k R.each (λ h. i) }

  pub reaching-all : {k : ℕ} → LedUpTo s T rows p r k → s.gens ≤ k → RootImages s T rows p r
  reaching-all R l = record { each = λ j a b. R.each j (omega arith) a }

  pub image-is : {j at n e a v x : ℕ} → at ≡ r * s.gens + j → n ≡ s.gens → e ≡ exponent_of s.gens T r → a ≡ suc (word_on rows j)
      → LineOne T at r j → TwoWords T at COL v → v ≡ 0 → x ≡ word_at T at EXP → x < s.m → LedTo T at n p a e s.m → RootImage s T rows p r j
  image-is {j} {at} {n} {e} {a} {v} {x} here ns es is line two z exp below led =
      let to = subst (λ n. LedTo T at n p a e s.m) ns led in
      let to₂ = subst (λ e. LedTo T at s.gens p a e s.m) es to in
      let to₃ = subst (λ a. LedTo T at s.gens p a (exponent_of s.gens T r) s.m) is to₂ in
      record {
        line = subst (λ at. LineOne T at r j) here line;
        col = subst (λ at. word_at T at COL ≡ 0) here (omega (arith, two.is, z));
        row = subst (λ at. word_at T at (COL + 1) ≡ 0) here (omega (arith, two.is, z));
        exp = subst (λ at. word_at T at EXP < s.m) here (omega (arith, exp));
        led = subst (λ at. LedTo T at s.gens p (suc (word_on rows j)) (exponent_of s.gens T r) s.m) here to₃;
      }

  pub head-is : {at v : ℕ} → at ≡ r * s.gens → LineOne T at r 0 → TwoWords T at REF v → v ≡ 0 → word_at T at ROW ≡ 0 → RootImages s T rows p r → Character s T rows p r
  head-is {at} {v} here line two z row images = record {
    line = subst (λ at. LineOne T at r 0) here line;
    refers = subst (λ at. word_at T at REF ≡ 0) here (omega (arith, two.is, z));
    col = subst (λ at. word_at T at (REF + 1) ≡ 0) here (omega (arith, two.is, z));
    row = subst (λ at. word_at T at ROW ≡ 0) here row;
    images = images;
  }
