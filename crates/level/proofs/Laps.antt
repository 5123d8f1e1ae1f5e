-- Powers of a matrix that stands in lines, by laps.
--
--   lapping-once, lapping-more a first turn, and one turn more
--   closed-early, closed-late  a lap that ends before its last turn is closed, and so is one of as many turns as the degree
--   laps-power                 laps, and the turns behind them, are a power
--   power-turns                a power that is not below zero is so many turns
use mathlib.Core.Path.{◌≡◌, sym, ap, ap₂, ◌∙◌}
use mathlib.Core.Logic.{by_cases}
use mathlib.Core.List.{List}
use Prim.Native.Nat.{ℕ, zero, suc, ◌+◌, ◌-◌, ◌*◌, ◌%◌, ◌<◌}
use native.Mathlib.Nat.{mod-lt, mod-eq_of_lt, mod-add-mod, add-mod-mod, add-mod_left, mul_comm}
use native.Mathlib.Omega.{arith}
use native.Mathlib.Decide.{dec_lt}
use lib.IntN.{pos}
use Rattle.definitions.specs.declared.Entry.{Entry}
use Rattle.definitions.specs.Lists.{iter}
use Rattle.definitions.specs.Monomial.{Matrix, entry, col, less, act, inverse, signed_power}
use Rattle.numbers.proofs.Lists.{iter-suc, iter-add, iter-map}
use Rattle.numbers.proofs.Iterates.{iter-iter}
use Rattle.numbers.proofs.Pigeonhole.{injects-returns}
use Rattle.formulas.specs.Formulas.{plus}
use Rattle.columns.proofs.Columns.{In, iter-in}
use Rattle.columns.proofs.Inverses.{Monomial, monomial-injects}
use Rattle.columns.proofs.Powers.{act-forward, act-back, row-turned, turned-back}
use Rattle.signed.specs.declared.Signed.{Signed}
use Rattle.signed.specs.declared.Signed.TheVariants.{Forward, Back}
use Rattle.signed.specs.declared.Rounds.{Rounds}
use Rattle.signed.specs.Signs.{number, MakeUp, RoundsOf}
use Rattle.level.specs.declared.Lap.{Lap}
use Rattle.level.specs.Stored.{matrix_in, Below, Holds}
use Rattle.level.specs.Laps.{Lapping, LapOf, ClosedLap, gained}
use Rattle.level.proofs.Columns.{iter-fixed, iter-next, iter-once}
use Rattle.level.proofs.Matrices.{holds-monomial}

-- ---- Differences modulo m

module _ (m a b : ℕ) where
  less-swap : (c : ℕ) → (c + less m a b) % m ≡ (a + less m c b) % m
  unfolding less
  less-swap c =
      let u : ℕ = m - b % m in
      let z : c + (a + u) ≡ a + (c + u) = omega arith in
      add-mod-mod c (a + u) m ∙ ap (λ x. x % m) z ∙ sym (add-mod-mod a (c + u) m)

  less-back : a < m → b < m → (b + less m a b) % m ≡ a
  unfolding less
  less-back l k =
      let z : b + (a + (m - b)) ≡ m + a = omega arith in
      ap (λ x. (b + (a + (m - x)) % m) % m) (mod-eq_of_lt k) ∙ add-mod-mod b (a + (m - b)) m ∙ ap (λ x. x % m) z ∙ add-mod_left m a ∙ mod-eq_of_lt l

-- q times a difference, and then q times the opposite one
there_and_back : (m a b q : ℕ) → a < m → b < m → ((a + q * less m a b) % m + q * less m b a) % m ≡ a
there_and_back m a b zero l k =
    let z : a + 0 * less m a b ≡ a = omega arith in
    let y : a + 0 * less m b a ≡ a = omega arith in
    ap (λ x. (x % m + 0 * less m b a) % m) z ∙ mod-add-mod a m _ ∙ ap (λ x. x % m) y ∙ mod-eq_of_lt l
there_and_back m a b (suc q) l k =
    let e : ℕ = less m a b in
    let e' : ℕ = less m b a in
    let z : a + suc q * e + suc q * e' ≡ a + q * e + q * e' + (e + e') = omega arith in
    mod-add-mod (a + suc q * e) m (suc q * e') ∙ ap (λ x. x % m) z ∙ sym (mod-add-mod (a + q * e + q * e') m (e + e'))
    ∙ ap (λ x. (x + (e + e')) % m) (sym (mod-add-mod (a + q * e) m (q * e')) ∙ there_and_back m a b q l k)
    ∙ round
  where
    round : (a + (less m a b + less m b a)) % m ≡ a
    round =
        let e : ℕ = less m a b in
        let e' : ℕ = less m b a in
        let z : a + (e + e') ≡ e + (a + e') = omega arith in
        let y : e + b ≡ b + e = omega arith in
        ap (λ x. x % m) z ∙ sym (add-mod-mod e (a + e') m) ∙ ap (λ x. (e + x) % m) (less-back m b a k l) ∙ ap (λ x. x % m) y ∙ less-back m a b l k

-- what is added to an exponent is added behind a turn just as well
plus_turn : (m : ℕ) (M : Matrix) (c : ℕ) (y : Entry) → plus m c (act m M y) ≡ act m M (plus m c y)
unfolding plus act
plus_turn m M c y =
    let e : ℕ = (col M y.row).exp in
    let z : e + y.exp + c ≡ e + (y.exp + c) = omega arith in
    ap (entry (col M y.row).row) (mod-add-mod (e + y.exp) m c ∙ ap (λ t. t % m) z ∙ sym (add-mod-mod e (y.exp + c) m))

-- ---- A matrix in lines

module _ {m : ℕ} {W : List ℕ} {at d : ℕ} (H : Holds m W at d) where
  abbrev M : Matrix
  M = matrix_in W at d

  abbrev K : Monomial m d (matrix_in W at d)
  K = holds-monomial H

  module _ {x : Entry} (X : Below m d x) where
    positive : 0 < m
    positive = omega (arith, X.exp)

    inside : In d m x
    inside = record { row = X.row; exp = X.exp }

    pub power-turns : (k : ℕ) → act m (signed_power m d (matrix_in W at d) (pos k)) x ≡ iter (act m (matrix_in W at d)) k x
    power-turns k = act-forward m positive d K k x inside

    -- ---- Laps

    pub lapping-once : {most : ℕ} {y : Entry} → 0 < most → y ≡ act m (matrix_in W at d) x → Below m d y → Lapping m W at d most x (record { turns = 1; to = y })
    lapping-once l e Y = record {
      lapped = record { some = omega arith; leads = e ∙ sym (iter-once (act m M) x); below = Y };
      at_most = l;
      first = λ k a b. absurd (omega arith);
    }

    pub lapping-more : {most : ℕ} {w : Lap} {y : Entry} → Lapping m W at d most x w → ¬ (w.to.row ≡ x.row) → w.turns < most
        → y ≡ act m (matrix_in W at d) w.to → Below m d y → Lapping m W at d most x (record { turns = w.turns + 1; to = y })
    lapping-more {most} {w} T away l e Y = record {
      lapped = record { some = omega arith; leads = e ∙ ap (act m M) T.lapped.leads ∙ sym (iter-next (act m M) w.turns x); below = Y };
      at_most = omega arith;
      first = λ k a b. go k a b (dec_lt k w.turns);
    }
      where
        go : (k : ℕ) → 0 < k → k < w.turns + 1 → Dec (k < w.turns) → ¬ ((iter (act m M) k x).row ≡ x.row)
        go k a b (yes c) = T.first k a c
        go k a b (no c) =
            let z : k ≡ w.turns = omega arith in
            λ q. away (ap (λ (y : Entry). y.row) (T.lapped.leads ∙ ap (λ n. iter (act m M) n x) (sym z)) ∙ q)

    pub closed-early : {most : ℕ} {w : Lap} → LapOf m W at d most x w → w.turns < most → ClosedLap m W at d x w
    closed-early L l = record { lapped = L.lapping.lapped; row = L.ends l }

    pub closed-late : {w : Lap} → LapOf m W at d d x w → ClosedLap m W at d x w
    closed-late {w} L = by_cases (dec_lt w.turns d)
        (λ l. closed-early L l)
        (λ l.
        let e : w.turns ≡ d = omega (arith, L.lapping.at_most) in
        record {
          lapped = L.lapping.lapped;
          row = ap (λ (y : Entry). y.row) (L.lapping.lapped.leads ∙ ap (λ k. iter (act m M) k x) e) ∙ row-turned m positive d K d x
              ∙ injects-returns d (λ r. (col M r).row) (monomial-injects m d M K) x.row X.row
              (λ k a b q. L.lapping.first k a (omega arith) (row-turned m positive d K k x ∙ q));
        })

    -- ---- Laps, and turns behind them

    module _ {w : Lap} (C : ClosedLap m W at d x w) where
      abbrev turn : Entry → Entry
      turn = act m M

      abbrev r : ℕ
      r = x.row

      -- an exponent counts modulo m once a turn is made
      turns-mod : (k t : ℕ) → 0 < k → iter turn k (entry r t) ≡ iter turn k (entry r (t % m))
      unfolding act
      turns-mod zero t l = absurd (omega arith)
      turns-mod (suc k) t l =
          iter-suc turn k (entry r t) ∙ ap (λ z. iter turn k (entry (col M r).row z)) (sym (add-mod-mod (col M r).exp t m))
          ∙ sym (iter-suc turn k (entry r (t % m)))

      lap-small : (t : ℕ) → t < m → iter turn w.turns (entry r t) ≡ entry r ((t + less m w.to.exp x.exp) % m)
      unfolding plus
      lap-small t l =
          let c : ℕ = less m t x.exp in
          let start : entry r t ≡ plus m c x = ap (entry r) (sym (less-back m t x.exp l X.exp)) in
          ap (iter turn w.turns) start ∙ sym (iter-map (plus m c) turn turn (plus_turn m M c) w.turns x) ∙ ap (plus m c) (sym C.lapped.leads)
          ∙ ap₂ entry C.row (less-swap m t x.exp w.to.exp)

      lap-adds : (t : ℕ) → iter turn w.turns (entry r t) ≡ entry r ((t + less m w.to.exp x.exp) % m)
      lap-adds t =
          turns-mod w.turns t C.lapped.some ∙ lap-small (t % m) (mod-lt t positive)
          ∙ ap (entry r) (mod-add-mod t m (less m w.to.exp x.exp))

      laps-add : (q t : ℕ) → t < m → iter turn (q * w.turns) (entry r t) ≡ entry r ((t + q * less m w.to.exp x.exp) % m)
      laps-add q t l =
          ap (λ n. iter turn n (entry r t)) (mul_comm q w.turns) ∙ sym (iter-iter turn w.turns q (entry r t))
          ∙ iter-fixed m r (less m w.to.exp x.exp) (iter turn w.turns) lap-adds q t l

      laps-lead : (k : Signed) (q t : ℕ) → MakeUp k w.turns q t
          → iter (act m (matrix_in W at d)) t (entry x.row ((x.exp + q * gained m k x.exp w.to.exp) % m))
          ≡ act m (signed_power m d (matrix_in W at d) (number k)) x
      laps-lead (Forward n) q t e =
          ap (iter turn t) (sym (laps-add q x.exp X.exp)) ∙ iter-add turn (q * w.turns) t x ∙ ap (λ k. iter turn k x) (sym e) ∙ sym (power-turns n)
      laps-lead (Back n) q t e =
          let a : ℕ = x.exp in
          let b : ℕ = w.to.exp in
          let y : Entry = entry r ((a + q * less m a b) % m) in
          let Y : In d m y = record { row = X.row; exp = mod-lt _ positive } in
          let k : t + suc n ≡ q * w.turns = omega (arith, e) in
          let all : iter turn (suc n) (iter turn t y) ≡ x =
          iter-add turn t (suc n) y ∙ ap (λ i. iter turn i y) k ∙ laps-add q _ (mod-lt _ positive)
          ∙ ap (entry r) (there_and_back m a b q X.exp C.lapped.below.exp) in
          sym (turned-back m positive d K (suc n) (iter turn t y) (iter-in m positive d K.square t y Y))
          ∙ ap (iter (act m (inverse m M)) (suc n)) all ∙ sym (act-back m positive d K n x inside)

      pub laps-power : {k : Signed} {s : Rounds} {e t : ℕ} {y : Entry} → RoundsOf k w.turns s → e ≡ gained m k x.exp w.to.exp
          → t ≡ (x.exp + s.rounds * e) % m → y ≡ iter (act m (matrix_in W at d)) s.rest (entry x.row t)
          → y ≡ act m (signed_power m d (matrix_in W at d) (number k)) x
      laps-power {k} {s} R e t y =
          y ∙ ap (λ z. iter turn s.rest (entry r z)) (t ∙ ap (λ z. (x.exp + s.rounds * z) % m) e)
          ∙ laps-lead k s.rounds s.rest R.make_up
