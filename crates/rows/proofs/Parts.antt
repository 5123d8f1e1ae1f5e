-- Rows in parts: what climbs from one exponent to the next, and what is left of a row.
--
--   climb                         what holds at m and climbs step by step holds at i
--   kept-all, kept_then, mixed-kept          what is left of a row: all; after two steps; after a copy
--   kept-stacked, stored-kept     the same with a store
use mathlib.Core.Path.{◌≡◌, refl, ◌∙◌, subst}
use mathlib.Core.List.{List}
use Prim.Native.Nat.{ℕ, zero, suc, ◌≤◌, ◌<◌}
use native.Mathlib.Omega.{arith}
use native.Mathlib.Decide.{dec_lt}
use lib.ListN.{length, set, length-set}
use lib.Seq.{get_or-set_same, get_or-set_other}
use Rattle.rows.specs.Rows.{Stacked, Mixed, Kept}

pub climb : (Q : ℕ → Type 0) (m i : ℕ) → m ≤ i → ((k : ℕ) → m ≤ k → k < i → Q k → Q (suc k)) → Q m → Q i
climb Q m zero l step q = let e : m ≡ 0 = omega arith in subst Q e q
climb Q m (suc i) l step q = go (λ h. climb Q m i h (λ k a b. step k a (omega arith)) q) (dec_lt i m)
  where
    go : (m ≤ i → Q i) → Dec (i < m) → Q (suc i)
    go f (yes h) = let e : m ≡ suc i = omega arith in subst Q e q
    go f (no h) = step i (omega arith) (omega arith) (f (omega arith))

-- ---- What is left of a row

pub kept-all : {i : ℕ} {x : List ℕ} → Kept i x x
kept-all = record { long = refl; above = λ m a. refl }

pub kept_then : {k i : ℕ} {x y z : List ℕ} → k ≤ i → Kept k x y → Kept k y z → Kept i x z
kept_then l a b = record { long = b.long ∙ a.long; above = λ m h. b.above m (omega arith) ∙ a.above m (omega arith) }

pub mixed-kept : {low x : List ℕ} {k : ℕ} {r : List ℕ} → Mixed low x k r → Kept k x r
mixed-kept t = record { long = t.long; above = t.above }

-- a store at k into what is left of x from k on
pub kept-stacked : {k s : ℕ} {x y : List ℕ} → k < length y → Kept k x y → Stacked k y x s (set y k s)
kept-stacked {k} {s} {x} {y} l t = record {
  below = λ m a. get_or-set_other y k m s 0 (omega arith);
  at = get_or-set_same y k s 0 l;
  above = λ m a. get_or-set_other y k m s 0 (omega arith) ∙ t.above m (omega arith);
}

pub stored-kept : {k i : ℕ} {x y : List ℕ} (s : ℕ) → k < i → Kept k x y → Kept i x (set y k s)
stored-kept {k} {i} {x} {y} s l t = record { long = length-set y k s ∙ t.long; above = λ m a. get_or-set_other y k m s 0 (omega arith) ∙ t.above m (omega arith) }
