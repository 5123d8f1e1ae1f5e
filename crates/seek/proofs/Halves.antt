-- The search by halves.
--
--   line-there                        a line below the count stands within the words
--   Halved lo hi                      the place that is sought is between lo and hi
--   halved-low, halved-high           one half is left out
--   halved-all                        nothing is left between
--   split-first, split-behind         a line that is not before, at the start or behind one that is
--   before-first, behind-first, before-second     the test of a line
use mathlib.Core.Path.{◌≡◌, sym, ◌∙◌, ap, ap₂, subst}
use mathlib.Core.Logic.{by_cases}
use mathlib.Core.Bool.{true, false, ◌&&◌, ◌||◌, false≢true}
use mathlib.Core.List.{List}
use Prim.Native.Nat.{ℕ, ◌+◌, ◌*◌, ◌≤◌, ◌<◌}
use native.Mathlib.Nat.{div-add-mod'}
use native.Mathlib.Omega.{arith}
use native.Mathlib.Decide.{dec_lt}
use lib.Dec.{eqb, ltb}
use lib.ListN.{length}
use borrow.Author.Tests.{eq-eqb, ne_eqb, lt-ltb, le-ltb}
use Rattle.definitions.specs.Presentation.{line_words}
use Rattle.definitions.specs.Table.{LEVEL, REP, word_at, line_count}
use Rattle.heads.specs.Order.{before, Split, Splits}

pub line-there : (T : List ℕ) (l : ℕ) → l < line_count T → 8 * l + 8 ≤ length T
unfolding line_count line_words
line-there T l h = omega (arith, div-add-mod' (length T) 8)

pub lines-there : (T : List ℕ) (e : ℕ) → e ≤ line_count T → 8 * e ≤ length T
unfolding line_count line_words
lines-there T e h = omega (arith, div-add-mod' (length T) 8)

-- ---- The loop

pub record Halved (T : List ℕ) (i r lo hi : ℕ) : Type 0 where
  pub inside : hi ≤ line_count T
  pub between : (s : ℕ) → Split T i r s → (lo ≤ s) × (s ≤ hi)

module _ (T : List ℕ) (i r : ℕ) where
  pub halved_none : (lines : ℕ) → lines ≡ line_count T → Halved T i r 0 lines
  halved_none lines e = record { inside = omega (arith, e); between = λ s S. (omega arith, omega (arith, e, S.inside)) }

  pub halved-low : (lo hi mid : ℕ) → Halved T i r lo hi → mid < hi → before T i r mid ≡ true → Halved T i r (mid + 1) hi
  halved-low lo hi mid H l b = record { inside = H.inside; between = λ s S. (go s S (dec_lt mid s), (H.between s S).1) }
    where
      go : (s : ℕ) → Split T i r s → Dec (mid < s) → mid + 1 ≤ s
      go s S (yes h) = omega arith
      go s S (no h) = absurd (false≢true (sym (S.high mid (omega arith) (omega (arith, H.inside))) ∙ b))

  pub halved-high : (lo hi mid : ℕ) → Halved T i r lo hi → mid < hi → before T i r mid ≡ false → Halved T i r lo mid
  halved-high lo hi mid H l b = record { inside = omega (arith, H.inside); between = λ s S. ((H.between s S).0, go s S (dec_lt mid s)) }
    where
      go : (s : ℕ) → Split T i r s → Dec (mid < s) → s ≤ mid
      go s S (yes h) = absurd (false≢true (sym b ∙ S.low mid h))
      go s S (no h) = omega arith

  pub halved-all : (lo hi : ℕ) → Halved T i r lo hi → hi ≤ lo → Splits T i r → Split T i r lo
  halved-all lo hi H l S =
      let b = H.between S.at S.is in
      let e : S.at ≡ lo = omega (arith, b) in
      subst (Split T i r) e S.is

  -- ---- A guess

  no-later : (S : Splits T i r) (x : ℕ) → before T i r x ≡ false → S.at ≤ x
  no-later S x h = by_cases (dec_lt x S.at) (λ k. absurd (false≢true (sym h ∙ S.is.low x k))) (λ k. omega arith)

  is_later : (S : Splits T i r) (x : ℕ) → x < line_count T → before T i r x ≡ true → x < S.at
  is_later S x l h = by_cases (dec_lt x S.at) (λ k. k) (λ k. absurd (false≢true (sym (S.is.high x (omega arith) l) ∙ h)))

  pub split-first : (x : ℕ) → Splits T i r → before T i r x ≡ false → x ≡ 0 → Split T i r x
  split-first x S h e = let z : S.at ≡ x = omega (arith, no-later S x h) in subst (Split T i r) z S.is

  pub split-behind : (x k : ℕ) → Splits T i r → x < line_count T → before T i r x ≡ false → k < x → x ≤ k + 1 → before T i r k ≡ true → Split T i r x
  split-behind x k S l h a b t =
      let z : S.at ≡ x = omega (arith, no-later S x h, is_later S k (omega arith) t) in
      subst (Split T i r) z S.is

  -- ---- The test

  pub before-first : (l : ℕ) → word_at T l LEVEL < i → true ≡ before T i r l
  unfolding before
  before-first l h = sym (ap (λ b. b || (eqb (word_at T l LEVEL) i && ltb (word_at T l REP) r)) (lt-ltb (word_at T l LEVEL) i h))

  pub behind-first : (l : ℕ) → i < word_at T l LEVEL → false ≡ before T i r l
  unfolding before
  behind-first l h =
      sym (ap₂ (λ a b. a || (b && ltb (word_at T l REP) r)) (le-ltb (word_at T l LEVEL) i (omega arith)) (ne_eqb (word_at T l LEVEL) i (λ e. omega (arith, e))))

  pub before-second : (l : ℕ) → word_at T l LEVEL ≡ i → ltb (word_at T l REP) r ≡ before T i r l
  unfolding before
  before-second l e =
      sym (ap₂ (λ a b. a || (b && ltb (word_at T l REP) r)) (le-ltb (word_at T l LEVEL) i (omega (arith, e))) (eq-eqb (word_at T l LEVEL) i e))
