-- A level that is compared, and whose relations are asked in single columns.
--
--   found-is                   a representation that is found stands at its first line
--   high_is, high-found        so does one that the list names
--   high_fits, high-power      what is asked of it
--   listed-inside, listed-refers, listed-reached, listed-relates     one of a level that is compared
--   level-fits                 what is known of the level
use mathlib.Core.Path.{◌≡◌, refl, sym, ◌∙◌, ap, subst}
use mathlib.Core.Bool.{true}
use mathlib.Core.List.{List}
use Prim.Native.Nat.{ℕ, suc, ◌+◌, ◌*◌, ◌<◌}
use native.Mathlib.Omega.{arith}
use lib.ListN.{length, get_or}
use Rattle.definitions.specs.Presentation.{Presentation}
use Rattle.definitions.specs.Monomial.{Rep, rep_of}
use Rattle.definitions.specs.Table.{DEG, REF, word_at, level_at}
use Rattle.columns.specs.Columns.{power_at, intertwines_at}
use Rattle.fitting.specs.Fits.{Fitting}
use Rattle.level.specs.declared.Listed.{Listed}
use Rattle.level.specs.Stored.{listed_in, target_in, Stored}
use Rattle.seek.specs.declared.Scope.{Scope}
use Rattle.seek.specs.Seek.{Found}
use Rattle.seek.specs.Among.{rep_in}
use Rattle.relations.specs.Kept.{MatricesStored}
use Rattle.compare.specs.declared.Stage.{Stage}
use Rattle.compare.specs.Staged.{Staged}
use Rattle.compare.specs.Blocks.{block, Present, Upper, ref_at, BlockFits, RepFits}
use Rattle.compare.proofs.Staged.{found_inside, high-at, high-place}
use Rattle.compare.proofs.Stored.{fits-stored}
use Rattle.relations.specs.Said.{SaysTop}
use Rattle.check_columns.specs.Relates.{led_to, LeadsTo, Reached, CarriesAll}
use Rattle.check_single.specs.Power.{PowerHolds}
use Rattle.check_level.specs.Level.{rep_at_level, width_below, Compares, Relates, LevelFits}
use Rattle.check_first.proofs.Found.{found_target}
use Rattle.check_level.proofs.Compared.{compared}

pub found-is : (s : Scope) {T : List ℕ} {i r : ℕ} {D : Listed} → Found s.gens T i r D → D ≡ rep_at_level s T i r
found-is s {T} {i} {r} {D} G = λ o. record { line = G.line o; deg = (sym G.said ∙ ap (λ l. word_at T l DEG) G.line) o }

module _ {s : Scope} {T firsts : List ℕ} {g : Stage} (S : Staged s T firsts g) where
  abbrev n : ℕ
  n = s.gens

  abbrev i : ℕ
  i = g.top

  abbrev D : ℕ → Listed
  D r = rep_at_level s T (suc g.top) r

  pub high_is : (r : ℕ) → r < g.above → {E : Listed} → E ≡ listed_in T (get_or firsts (g.high + r) 0) → E ≡ rep_at_level s T (suc g.top) r
  high_is r h e = e ∙ ap (listed_in T) (S.high.line r h)

  pub high-found : (r : ℕ) → r < g.above → Found s.gens T (suc g.top) r (rep_at_level s T (suc g.top) r)
  high-found r h = high-at S r h (sym (high_is r h refl)) refl

  -- one that the list names, before the level is known to be compared
  module _ (r : ℕ) (h : r < g.above) {E : Listed} (e : E ≡ listed_in T (get_or firsts (g.high + r) 0)) where
    pub high_fits : RepFits s T g E → RepFits s T g (rep_at_level s T (suc g.top) r)
    high_fits R = subst (RepFits s T g) (high_is r h e) R

    pub high-power : {rows : List (List ℕ)} → PowerHolds s T rows g E → PowerHolds s T rows g (rep_at_level s T (suc g.top) r)
    high-power {rows} H = subst (PowerHolds s T rows g) (high_is r h e) H

  listed_below : (x : ℕ) → x < length (level_at n T (suc i)) → x < g.above
  listed_below x l = omega (arith, S.high.counts)

  module _ {rows : List (List ℕ)} (C : Compares s T rows g) where
    module _ (r : ℕ) (h : r < g.above) where
      compared-found : Found s.gens T (suc g.top) r (rep_at_level s T (suc g.top) r)
      compared-found = high-found r h

      abbrev R : RepFits s T g (D r)
      R = C.each r h

      compared-stored : Stored s.m s.gens T (rep_at_level s T (suc g.top) r)
      compared-stored = fits-stored S compared-found R

      compared-kept : MatricesStored s T (D r)
      compared-kept = record { few = S.whole.few; modulus = S.modulus.0; stored = compared-stored }

      compared-refers : word_at T (rep_at_level s T (suc g.top) r).line REF < g.below
      compared-refers = omega (arith, R.wide.found.listed, S.low.counts)

      first_block : BlockFits s T g (D r) (0 * R.w) R.w
      first_block = R.blocks 0 (omega (arith, compared-found.positive))

      -- the degree of what the first column refers to is the width of the blocks
      width_is : width_below T firsts g (D r) ≡ R.w
      width_is =
          let W = R.wide in
          ap (λ l. word_at T l DEG) (S.low.line (word_at T (D r).line REF) compared-refers ∙ sym W.found.line) ∙ W.found.said ∙ W.width

      module _ (j : ℕ) (a : i < j) (b : j < n) where
        abbrev U : Upper s T g (D r) (block (0 * R.w) (ref_at s T g (D r) (0 * R.w)) first_block.part) j
        U = first_block.upper.each j a b

        target_below : target_in T (D r) j < g.above
        target_below = listed_below (target_in T (D r) j) U.found.listed

        led-is : led_to T firsts g (D r) j ≡ D (target_in T (D r) j)
        led-is = high_is (target_in T (D r) j) target_below refl

        led-found : Found n T (suc i) (target_in T (D r) j) (led_to T firsts g (D r) j)
        led-found = high-at S (target_in T (D r) j) target_below refl refl

        led-degree : (led_to T firsts g (D r) j).deg ≡ (D r).deg
        led-degree = led-found.deg ∙ sym U.found.deg ∙ U.degree

    compared-leads : (r : ℕ) (h : r < g.above) (j : ℕ) → i < j → j < n → LeadsTo s T firsts g (D r) j
    compared-leads r h j a b = record {
      place = high-place S (target_in T (D r) j) (target_below r h j a b);
      kept = subst (MatricesStored s T) (sym (led-is r h j a b)) (compared-kept (target_in T (D r) j) (target_below r h j a b));
      degree = led-degree r h j a b;
    }

    compared-reached : (r : ℕ) → r < g.above → Reached s T firsts g (rep_at_level s T (suc g.top) r)
    compared-reached r h = record {
      top = S.level.1;
      kept = compared-kept r h;
      narrow = (found_inside S.whole S.short (compared-found r h)).narrow;
      leads = compared-leads r h;
    }

    -- the same of one that the list names
    module _ (r : ℕ) (h : r < g.above) {E : Listed} (e : E ≡ listed_in T (get_or firsts (g.high + r) 0)) where
      is : E ≡ D r
      is = high_is r h e

      pub listed-inside : Present s T E
      listed-inside = found_inside S.whole S.short (high-at S r h e refl)

      pub listed-refers : word_at T E.line REF < g.below
      listed-refers = subst (λ (E : Listed). word_at T E.line REF < g.below) (sym is) (compared-refers r h)

      pub listed-reached : Reached s T firsts g E
      listed-reached = subst (Reached s T firsts g) (sym is) (compared-reached r h)

      pub listed-relates : {v : ℕ} → v ≡ width_below T firsts g E → CarriesAll s T firsts g E rows v
          → CarriesAll s T firsts g (rep_at_level s T (suc g.top) r) rows (width_below T firsts g (rep_at_level s T (suc g.top) r))
      listed-relates q M =
          subst (λ (E : Listed). CarriesAll s T firsts g E rows (width_below T firsts g E)) is (subst (CarriesAll s T firsts g E rows) q M)

    -- ---- Fitting

    module _ (Q : Relates s T firsts g rows) (P : Presentation) (Y : SaysTop s rows g.top g.p P) (r : ℕ) (h : r < g.above) where
      abbrev X : Rep
      X = rep_of (level_at n T (suc i)) r

      power-holds : power_at P s.m X i 0 ≡ true
      power-holds = subst (λ (X : Rep). power_at P s.m X i 0 ≡ true) (sym (compared-found r h).rep) ((C.powers r h).is P Y)

      conjugate-holds : (j k : ℕ) → i < j → j < n → k * (C.each r h).w < (D r).deg
          → intertwines_at P s.m X (rep_of (level_at n T (suc i)) (X.ref j 0)) i j (k * (C.each r h).w) ≡ true
      conjugate-holds j k a b l =
          let G = compared-found r h in
          let to : rep_in T (led_to T firsts g (D r) j) ≡ rep_of (level_at n T (suc i)) (X.ref j 0)
          = sym (led-found r h j a b).rep ∙ ap (rep_of (level_at n T (suc i))) (sym (found_target G j)) in
          let q = subst (λ v. k * v < (D r).deg → intertwines_at P s.m (rep_in T (D r)) (rep_in T (led_to T firsts g (D r) j)) i j (k * v) ≡ true) (width_is r h)
          (λ l. (Q.each r h).each j a b P Y k l) l in
          subst (λ (F : Rep). intertwines_at P s.m X F i j (k * (C.each r h).w) ≡ true) to (
          subst (λ (X : Rep). intertwines_at P s.m X (rep_in T (led_to T firsts g (D r) j)) i j (k * (C.each r h).w) ≡ true) (sym G.rep) q)

      fitting : Fitting P n s.m i (level_at n T i) (level_at n T (suc i)) r
      fitting = compared S (compared-found r h) (C.each r h) P Y.prime power-holds conjugate-holds

    pub level-fits : Relates s T firsts g rows → LevelFits s T rows g.top g.p
    level-fits Q = record {
      fit = λ P Y r l. fitting Q P Y r (listed_below r l);
      unshared = C.unshared;
      stored = λ r G. subst (Stored s.m n T) (sym (found-is s G)) (compared-stored r (listed_below r G.listed));
    }
