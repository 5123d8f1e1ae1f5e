-- What the functions of the cycle of calls make of the answers to their calls.
--
--   few                                     a collector keeps no more generators than rows have room for
--   turned-still, turn-still, turn-copied   no turn where a generator commutes with those below it; turned exponents copied
--   carry-none, carry-copied                the power word times a form: none; the product copied
--   sum_fits, multiply-none, multiply-low, multiply-high    the sum of two exponents; no exponent, no carry, a carry
--   power-first                             the first power
--   image-fits                              the conjugate of a generator
--   conjugate-still, conjugate-top          where nothing moves; where something does
use mathlib.Core.Path.{◌≡◌, refl, sym, subst}
use mathlib.Core.Logic.{◌≢◌}
use mathlib.Core.List.{List, []}
use Prim.Native.Nat.{ℕ, suc, ◌+◌, ◌-◌, ◌≤◌, ◌<◌}
use native.Mathlib.Omega.{arith}
use lib.ListN.{length, get_or, set}
use Rattle.definitions.specs.Presentation.{max_generators, pair_number}
use Rattle.rows.specs.Rows.{Small, Top, Stacked, Mixed, Kept}
use Rattle.rows.proofs.Forms.{ready-below, prime-fits}
use Rattle.rows.proofs.Parts.{kept-all, kept_then, mixed-kept, kept-stacked, stored-kept}
use Rattle.commuting.specs.Commuting.{KeepsFrom, Reach}
use Rattle.commuting.proofs.Skips.{moved-reach}
use Rattle.collector.specs.Products.{Prepared, Product, Image, Conjugate, Power, Turned, MultipliedInPlace, CarriedInPlace}
use Rattle.collector.specs.Products.{TurnedInPlace}
use Rattle.collector.proofs.Steps.{turned-fixed, turned_same, product-same, product-left, product-none, product-low-at, product-high-at}
use Rattle.collector.proofs.Steps.{power-once, conjugate-none, conjugate-up, conjugate-moves, commutator-small}

-- A collector keeps n generators.
module _ {n : ℕ} {ps : List ℕ} {rows : List (List ℕ)} {reach : List ℕ} (P : Prepared n ps rows reach) where
  pub few : n ≤ max_generators
  few = P.ranged.few

  -- ---- Turns

  module _ {k b : ℕ} {x : List ℕ} (kn : k < n) where
    pub turned-still : get_or reach k 0 ≡ 0 → Small k ps x → Turned k b ps rows x x
    turned-still e s = turned-fixed (conjugate-none (omega arith) keeps s)
      where
        keeps : KeepsFrom rows k k x 0
        keeps = moved-reach (omega arith) (omega arith) (subst (Reach rows k) e (P.quiet.at k kn))

    pub turn-still : get_or reach k 0 ≡ 0 → Small k ps x → TurnedInPlace k b ps rows x x
    turn-still e s = record { turned = turned-still e s; kept = kept-all }

  -- ---- Product

  -- m is one more than the place of the highest exponent of y
  module _ {i m : ℕ} {x y : List ℕ} (level : i ≤ n) (left : Small i ps x) (right : Small i ps y) (over : Top i y m) (some : m ≢ 0)
      (long : length x ≡ max_generators) where
    top-level : m - 1 < i
    top-level = omega (arith, over.less)

    -- x₁ is x with its lower part turned, x₂ with the lower part multiplied
    module _ {x₁ x₂ : List ℕ} (t : TurnedInPlace (m - 1) (get_or y (m - 1) 0) ps rows x x₁) (q : MultipliedInPlace (m - 1) ps rows x₁ y x₂) where
      kept : Kept (m - 1) x x₂
      kept = kept_then (omega arith) t.kept q.kept

      top_is : get_or x₂ (m - 1) 0 ≡ get_or x (m - 1) 0
      top_is = kept.above (m - 1) (omega arith)

      pub sum_fits : get_or x₂ (m - 1) 0 + get_or y (m - 1) 0 < 4294967296
      sum_fits = omega (
        arith,
        top_is,
        left.below (m - 1) top-level,
        right.below (m - 1) top-level,
        prime-fits P.ranged (m - 1) (omega (arith, top-level)),
      )

      pub multiply-low : get_or x₂ (m - 1) 0 + get_or y (m - 1) 0 < get_or ps (m - 1) 0
          → MultipliedInPlace i ps rows x y (set x₂ (m - 1) (get_or x₂ (m - 1) 0 + get_or y (m - 1) 0))
      multiply-low h = record {
        product = product-low-at (omega arith) over left t.turned q.product stacked (omega (arith, top_is));
        kept = stored-kept _ top-level kept;
      }
        where
          stacked : Stacked (m - 1) x₂ x (get_or x (m - 1) 0 + get_or y (m - 1) 0) (set x₂ (m - 1) (get_or x₂ (m - 1) 0 + get_or y (m - 1) 0))
          stacked = subst (λ a. Stacked (m - 1) x₂ x (a + get_or y (m - 1) 0) (set x₂ (m - 1) (get_or x₂ (m - 1) 0 + get_or y (m - 1) 0))) top_is
              (kept-stacked (omega (arith, top-level, few, kept.long)) kept)

      pub multiply-high : {v : List ℕ} → CarriedInPlace (m - 1) ps rows x₂ v → get_or ps (m - 1) 0 ≤ get_or x₂ (m - 1) 0 + get_or y (m - 1) 0
          → MultipliedInPlace i ps rows x y (set v (m - 1) (get_or x₂ (m - 1) 0 + get_or y (m - 1) 0 - get_or ps (m - 1) 0))
      multiply-high {v} a h = record {
        product = product-high-at (omega arith) over left t.turned q.product refl a.product stacked (omega (arith, top_is)) right;
        kept = stored-kept _ top-level kept';
      }
        where
          s : ℕ
          s = get_or x₂ (m - 1) 0 + get_or y (m - 1) 0 - get_or ps (m - 1) 0

          kept' : Kept (m - 1) x v
          kept' = kept_then (omega arith) kept a.kept

          stacked : Stacked (m - 1) v x (get_or x (m - 1) 0 + get_or y (m - 1) 0 - get_or ps (m - 1) 0) (set v (m - 1) s)
          stacked = subst (λ a. Stacked (m - 1) v x (a + get_or y (m - 1) 0 - get_or ps (m - 1) 0) (set v (m - 1) s)) top_is
              (kept-stacked (omega (arith, top-level, few, kept'.long)) kept')

  -- ---- Conjugation

  -- w is the word of generators l and j
  module _ {j l : ℕ} {w : List ℕ} (jn : j < n) (lj : l < j) (we : w ≡ get_or rows (pair_number j l) []) where
    commutator : Small (suc l) ps w
    commutator = commutator-small (ready-below {m = suc j} jn P.ranged) lj we

    pub image-fits : get_or w l 0 + 1 < 4294967296
    image-fits = omega (arith, commutator.below l (omega arith), prime-fits P.ranged l (omega arith))

  -- m is one more than the place of the highest exponent of x that moves
  module _ {k j m : ℕ} {x : List ℕ} (jn : j < n) (kj : k ≤ j) (small : Small k ps x) (over : KeepsFrom rows k j x m) (some : m ≢ 0) where
    moved-level : m - 1 < k
    moved-level = omega (arith, over.less)

    level : suc (m - 1) ≡ m
    level = omega arith

    -- z is the conjugate of the lower part
    module _ {z : List ℕ} (long : length z ≡ max_generators) (q : Conjugate (m - 1) j ps rows x z) where
      within : m - 1 < max_generators
      within = omega (arith, moved-level, few)

      pub conjugate-top : {h r s t : List ℕ} → Image j (m - 1) ps rows h → Power m ps rows h r (get_or x (m - 1) 0)
          → Product m ps rows r (set z (m - 1) 0) s → Stacked (m - 1) s x (get_or s (m - 1) 0) t → Conjugate k j ps rows x t
      conjugate-top {h} {r} {s} {t} qh qr qs st = conjugate-up kj over (λ n a. st.above n (omega arith)) small
          (subst (λ n. Conjugate n j ps rows x t) level (conjugate-moves (omega (arith, moved-level)) (omega (arith, within)) q qh
          (subst (λ n. Power n ps rows h r (get_or x (m - 1) 0)) (sym level) qr) (subst (λ n. Product n ps rows r (set z (m - 1) 0) s) (sym level) qs) st))

-- ---- What needs no more than the forms

module _ {ps : List ℕ} {rows : List (List ℕ)} where
  pub turn-copied : {k b : ℕ} {x c r : List ℕ} → Turned k b ps rows x c → Mixed c x k r → TurnedInPlace k b ps rows x r
  turn-copied t m = record { turned = turned_same m.below t; kept = mixed-kept m }

  module _ {k : ℕ} {u x : List ℕ} (ue : u ≡ get_or rows (pair_number k k) []) where
    pub carry-none : {t : ℕ} → Small k ps x → Top k u t → t ≡ 0 → CarriedInPlace k ps rows x x
    carry-none sx a e = record { product = subst (λ v. Product k ps rows v x x) ue (product-left (subst (Top k u) e a) sx); kept = kept-all }

    pub carry-copied : {v r : List ℕ} → Product k ps rows u x v → Mixed v x k r → CarriedInPlace k ps rows x r
    carry-copied {v} q m = record { product = product-same m.below (subst (λ w. Product k ps rows w x v) ue q); kept = mixed-kept m }

  pub multiply-none : {i m : ℕ} {x y : List ℕ} → Small i ps x → Top i y m → m ≡ 0 → MultipliedInPlace i ps rows x y x
  multiply-none {i} {y = y} left over e = record { product = product-none (subst (Top i y) e over) left; kept = kept-all }

  pub power-first : {i : ℕ} {x : List ℕ} {e : ℕ} → e ≡ 1 → Small i ps x → Power i ps rows x x e
  power-first {i} {x} {e} q s = subst (Power i ps rows x x) (sym q) (power-once s)

  pub conjugate-still : {k j m : ℕ} {x : List ℕ} → k ≤ j → Small k ps x → KeepsFrom rows k j x m → m ≡ 0 → Conjugate k j ps rows x x
  conjugate-still {k} {j} {x = x} kj small over e = conjugate-none kj (subst (KeepsFrom rows k j x) e over) small
