-- A loop that appends the lists f 0, f 1, .. behind what stands below a line.
--
--   Going                      its invariant, after k turns: what is written, and that nothing below has changed
--   going-none, going_more     no turn yet; one turn more
--   going-low                  the lines below the line stand in the words
--   going-room                 there is room for a turn where there is room for all
--   going-even, going-line     the same for turns of one length, and of one line
--   space-low, space-none      where there is space, the lines below the line stand in the words; no turn yet
use mathlib.Core.Path.{◌≡◌, refl, ap, sym, ◌∙◌}
use Prim.Native.Nat.{ℕ, suc, ◌+◌, ◌*◌, ◌<◌, ◌≤◌}
use native.Mathlib.Numerals.{add-one}
use native.Mathlib.Nat.{mul-le-mul_right}
use native.Mathlib.Omega.{arith}
use mathlib.Core.List.{List}
use lib.ListN.{length, take}
use Rattle.definitions.specs.Lists.{blocks}
use Rattle.numbers.proofs.Lists.{length-blocks}
use Rattle.numbers.proofs.Sums.{first-le}
use Rattle.numbers.proofs.Blocks.{blocks-zero, blocks-suc, length-even}
use Rattle.text.specs.Writing.{Wrote}
use Rattle.text.proofs.Writing.{take_put, wrote_none, wrote-more, wrote-length, wrote_as}
use Rattle.lines.specs.Lines.{Space}

pub record Going (low : ℕ) (f : ℕ → List ℕ) (w₀ : List ℕ) (at₀ k : ℕ) (w : List ℕ) (at : ℕ) : Type 0 where
  pub wrote : Wrote w₀ (8 * at₀) (blocks k f) w (8 * at)
  pub len : length w ≡ length w₀
  pub below : take (8 * low) w ≡ take (8 * low) w₀
  pub from : low ≤ at

wrote-below : (w₀ : List ℕ) (at₀ : ℕ) (s : List ℕ) (w : List ℕ) (at n : ℕ) → Wrote w₀ at₀ s w at → n ≤ at₀ → take n w ≡ take n w₀
wrote-below w₀ at₀ s w at n p h = ap (take n) p.content ∙ take_put w₀ at₀ s p.room n h

module _ {low : ℕ} {f : ℕ → List ℕ} {w₀ : List ℕ} {at₀ : ℕ} where
  pub going-none : low ≤ at₀ → 8 * at₀ ≤ length w₀ → Going low f w₀ at₀ 0 w₀ at₀
  going-none l h = record { wrote = wrote_as (wrote_none w₀ (8 * at₀) h) (sym (blocks-zero f)); len = refl; below = refl; from = l }

  pub going_more : {k : ℕ} {w : List ℕ} {at : ℕ} {w' : List ℕ} {at' : ℕ} → Going low f w₀ at₀ k w at → Wrote w (8 * at) (f k) w' (8 * at')
      → Going low f w₀ at₀ (k + 1) w' at'
  going_more {k} {w} {at} {w'} {at'} p q = record {
    wrote = wrote_as (wrote-more p.wrote q) (sym (ap (λ n. blocks n f) (add-one k) ∙ blocks-suc k f));
    len = wrote-length q ∙ p.len;
    below = wrote-below w (8 * at) (f k) w' (8 * at') (8 * low) q (omega (arith, p.from)) ∙ p.below;
    from = omega (arith, p.from, q.end);
  }

  pub going-room : {k : ℕ} {w : List ℕ} {at : ℕ} (n : ℕ) → Going low f w₀ at₀ k w at → k < n → 8 * at₀ + length (blocks n f) ≤ length w₀
      → 8 * at + length (f k) ≤ length w
  going-room {k} {w} {at} n p l r =
      omega (arith, p.wrote.end, p.len, length-blocks n f, length-blocks k f, first-le (λ j. length (f j)) k n l)

  pub going-low : {k : ℕ} {w : List ℕ} {at : ℕ} → Going low f w₀ at₀ k w at → 8 * low ≤ length w
  going-low p = omega (arith, p.from, p.wrote.end, p.wrote.room, p.len)

  pub going-even : {k : ℕ} {w : List ℕ} {at : ℕ} (n d : ℕ) → ((j : ℕ) → length (f j) ≡ d) → Going low f w₀ at₀ k w at → k < n
      → 8 * at₀ + n * d ≤ length w₀ → Space low at d w
  going-even {k} {w} {at} n d even p l r =
      let a : suc k * d ≤ n * d = mul-le-mul_right d l in
      record { from = p.from; room = omega (arith, p.wrote.end, p.len, length-even f d k (λ j h. even j), a) }

  pub going-line : {k : ℕ} {w : List ℕ} {at : ℕ} (n : ℕ) → ((j : ℕ) → length (f j) ≡ 8) → Going low f w₀ at₀ k w at → k < n
      → 8 * at₀ + 8 * n ≤ length w₀ → 8 * at + 8 ≤ length w
  going-line n one p l r = (going-even n 8 one p l (omega arith)).room

  pub space-none : {d : ℕ} → Space low at₀ d w₀ → Going low f w₀ at₀ 0 w₀ at₀
  space-none s = going-none s.from (omega (arith, s.room))

pub space-low : {low at d : ℕ} {w : List ℕ} → Space low at d w → 8 * low ≤ length w
space-low s = omega (arith, s.from, s.room)
