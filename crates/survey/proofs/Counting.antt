-- Laws of the numbers and the constants of a level that stands in words.
--
--   made-fixed, made-leader, made_none    what a representation gives
--   number-zero, number-next, number_small      numbers
--   around-zero, around-next, around-fixed      an entry along an orbit
--   leading-least, leading-other, leading-below     the constants that are kept
--   closing-walked, closing-empty      a constant by as much of the power word as there is
use mathlib.Core.Path.{◌≡◌, refl, ap, ap₂, sym, ◌∙◌}
use mathlib.Core.List.{List, []}
use mathlib.Core.Bool.{Bool, true, false, cond}
use Prim.Native.Nat.{ℕ, zero, suc, ◌+◌, ◌*◌, ◌<◌, ◌≤◌}
use native.Mathlib.Omega.{arith}
use native.Mathlib.Numerals.{add-one}
use native.Mathlib.Nat.{mul-le-mul_right, mod-lt}
use lib.Dec.{eqb}
use Rattle.definitions.specs.Lists.{sum, iter}
use Rattle.definitions.specs.declared.Entry.{Entry}
use Rattle.definitions.specs.Monomial.{entry, less, act}
use Rattle.definitions.specs.Presentation.{to_nf}
use Rattle.numbers.proofs.Bools.{cond-eq, cond-ne}
use Rattle.numbers.proofs.Lists.{iter-zero, iter-fix}
use Rattle.numbers.proofs.Iterates.{iter-out}
use Rattle.formulas.specs.Formulas.{made, start, around, walk}
use Rattle.rows.specs.Rows.{Top}
use Rattle.level.specs.declared.Listed.{Listed}
use Rattle.level.specs.Stored.{generator_in}
use Rattle.level.proofs.Columns.{walk-zero, walk_ends}
use Rattle.survey.specs.declared.Frame.{Frame}
use Rattle.survey.specs.Below.{target_of, source_in, leader_in, made_in, number_in, around_in, closing_in, leading_in, LevelStands, Located}
use Rattle.survey.proofs.Marking.{lead-fixed}

module _ (f : Frame) (W : List ℕ) where
  abbrev τ : ℕ → ℕ
  τ = target_of f W f.top

  -- ---- Numbers

  pub made-fixed : (r : ℕ) → τ r ≡ r → f.p ≡ made_in f W r
  unfolding made
  made-fixed r e = sym (cond-eq (τ r) r f.p _ e)

  pub made-leader : (r : ℕ) → ¬ (τ r ≡ r) → leader_in f W r ≡ r → 1 ≡ made_in f W r
  unfolding made
  made-leader r n e = sym (cond-ne (τ r) r f.p _ n ∙ cond-eq (leader_in f W r) r 1 0 e)

  pub made_none : LevelStands f W → (r : ℕ) → r < f.reps → ¬ (leader_in f W r ≡ r) → 0 ≡ made_in f W r
  unfolding made
  made_none S r h n = sym (cond-ne (τ r) r f.p _ (λ e. n (lead-fixed f W S r h e)) ∙ cond-ne (leader_in f W r) r 1 0 n)

  pub leading-least : (u : List ℕ) (r : ℕ) → leader_in f W r ≡ r → leading_in f W u r ≡ closing_in f W u r
  unfolding leading_in
  leading-least u r e = cond-eq (leader_in f W r) r _ 0 e

  pub leading-other : (u : List ℕ) (r : ℕ) → ¬ (leader_in f W r ≡ r) → leading_in f W u r ≡ 0
  unfolding leading_in
  leading-other u r n = cond-ne (leader_in f W r) r (closing_in f W u r) 0 n

  pub leading-below : 0 < f.m → (u : List ℕ) (r : ℕ) → leading_in f W u r < f.m
  unfolding leading_in closing_in less
  leading-below h u r = go (eqb (leader_in f W r) r)
    where
      go : (b : Bool) → cond b (closing_in f W u r) 0 < f.m
      go true = mod-lt _ h
      go false = h

  -- ---- The power word, which ends before generator n

  module _ (u : List ℕ) (n r : ℕ) (T : Top f.top u n) where
    walk_end : walk f.m ((source_in f W []).matrix r) n (to_nf n u) (entry 0 0) ≡ walk f.m ((source_in f W []).matrix r) f.top (to_nf f.top u) (entry 0 0)
    walk_end = walk_ends f.m ((source_in f W []).matrix r) u (entry 0 0) f.top n T

    pub closing-walked : {D : Listed} {x y : Entry} {e : ℕ} → Located f W r D → x ≡ walk f.m (generator_in W D) n (to_nf n u) (entry 0 0) → y ≡ around_in f W r f.p
        → e ≡ less f.m x.exp y.exp → e ≡ closing_in f W u r
    unfolding closing_in
    closing-walked L a b e = e ∙ ap₂ (λ (x y : Entry). less f.m x.exp y.exp) (a ∙ (λ o. walk f.m (generator_in W (L.is o)) n (to_nf n u) (entry 0 0)) ∙ walk_end) b

    pub closing-empty : n ≡ 0 → {y : Entry} {e : ℕ} → y ≡ around_in f W r f.p → e ≡ less f.m 0 y.exp → e ≡ closing_in f W u r
    unfolding closing_in
    closing-empty z b e =
        let w = sym (walk-zero f.m ((source_in f W []).matrix r) u (entry 0 0)) ∙ ap (λ k. walk f.m ((source_in f W []).matrix r) k (to_nf k u) (entry 0 0)) (sym z) ∙ walk_end in
        e ∙ ap₂ (λ (x y : Entry). less f.m x.exp y.exp) w b

  pub number-zero : 0 ≡ number_in f W 0
  unfolding start sum
  number-zero = refl

  pub number-next : (r : ℕ) → number_in f W (r + 1) ≡ number_in f W r + made_in f W r
  unfolding start sum
  number-next r = ap (number_in f W) (add-one r)

  made-small : 1 < f.p → (r : ℕ) → made_in f W r ≤ f.p
  unfolding made
  made-small h r = go (eqb (τ r) r) (eqb (leader_in f W r) r)
    where
      go : (a b : Bool) → cond a f.p (cond b 1 0) ≤ f.p
      go true b = omega arith
      go false true = omega arith
      go false false = omega arith

  pub number_small : 1 < f.p → (r : ℕ) → number_in f W r ≤ r * f.p
  number_small h zero = omega (arith, number-zero)
  number_small h (suc r) = omega (arith, ap (number_in f W) (sym (add-one r)) ∙ number-next r, number_small h r, made-small h r)

  pub number_fits : LevelStands f W → (r : ℕ) → r ≤ f.reps → number_in f W r ≤ 268435456
  number_fits S r l =
      let a : r * f.p ≤ f.reps * f.p = mul-le-mul_right f.p l in
      omega (arith, number_small S.prime.0 r, S.few, a)

  -- ---- Along an orbit

  pub around-zero : (r : ℕ) → entry 0 0 ≡ around_in f W r 0
  unfolding around
  around-zero r = refl

  pub around-next : (r k : ℕ) → around_in f W r (k + 1) ≡ act f.m ((source_in f W []).matrix (iter τ k r) f.top) (around_in f W r k)
  unfolding around
  around-next r k = ap (around_in f W r) (add-one k)

  -- around an orbit that does not move, the turns of one intertwiner
  pub around-fixed : (r : ℕ) → τ r ≡ r → (k : ℕ) → around_in f W r k ≡ iter (act f.m ((source_in f W []).matrix r f.top)) k (entry 0 0)
  around-fixed r e zero = sym (around-zero r) ∙ sym (iter-zero _ _)
  around-fixed r e (suc k) =
      let step : ℕ → Entry → Entry = λ q x. act f.m ((source_in f W []).matrix q f.top) x in
      sym (ap (around_in f W r) (add-one k)) ∙ around-next r k ∙ ap₂ step (iter-fix τ r e k) (around-fixed r e k) ∙ sym (iter-out _ k _)
