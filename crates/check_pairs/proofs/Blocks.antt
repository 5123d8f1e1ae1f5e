-- The blocks of one representation, walked and counted.
--
--   Walked o b        from column o on, block b is next: what is left says what all blocks say
--   walked_none, walked_whole, walked_more, walked-fails, walked_all      the steps of the walk
--   own-one, own-inside, own-blocks       what is asked of one representation, case by case
--   line-none, line-refers, line-fits, line-more, line-fails, line-all      the walk of a representation in its lines
--   line-one, line-inside, line-blocks      and what is asked of it
use mathlib.Core.Path.{◌≡◌, refl, sym, ◌∙◌, ap, subst}
use mathlib.Core.Bool.{Bool, true, false, ◌&&◌, ◌||◌, and-true}
use mathlib.Core.List.{List, [], ◌∷◌}
use Prim.Native.Nat.{ℕ, zero, suc, ◌+◌, ◌*◌, ◌≤◌, ◌<◌}
use native.Mathlib.Omega.{arith}
use lib.Dec.{eqb, ltb, leb}
use lib.ListN.{length}
use borrow.Author.Tests.{eq-eqb, ne_eqb, lt-ltb, le-ltb, le-leb, lt-leb}
use Rattle.definitions.specs.Lists.{all}
use Rattle.definitions.specs.Monomial.{col, Rep, Level, rep_of}
use Rattle.definitions.specs.Table.{ROW, word_at, rep_at, level_at}
use Rattle.definitions.specs.Judgement.{cuts_from, cuts, whole_block}
use Rattle.numbers.proofs.Bools.{and_left, and_right, and_last, cond-true, cond-false}
use Rattle.separation.specs.Apart.{fresh}
use Rattle.separation.proofs.Apart.{is_whole, wide, one_block}
use Rattle.level.specs.declared.Listed.{Listed}
use Rattle.level.specs.Stored.{line_in}
use Rattle.seek.specs.declared.Scope.{Scope}
use Rattle.seek.specs.Seek.{HasLines}
use Rattle.seek.specs.Among.{rep_in}
use Rattle.seek.proofs.Seek.{found-fits}
use Rattle.seek.proofs.Columns.{row_at}
use Rattle.check_pairs.specs.Pairs.{PlacedAt, differ, own_of, RefersTo, width_in}
use Rattle.check_pairs.proofs.Pairs.{placed-positive, placed-whole}

module _ (low : Level) (D : Rep) where
  abbrev width : ℕ → ℕ
  width o = (rep_of low (D.ref 0 o)).deg

  pub record Walked (o b : ℕ) : Type 0 where
    pub fuel : ℕ
    pub enough : D.deg ≤ o + fuel
    pub few : b ≤ o
    pub within : o ≤ D.deg
    pub count : b + length (cuts_from low D fuel o) ≡ length (cuts low D)
    pub blocks : all (whole_block low D) (cuts_from low D fuel o) ≡ true
    pub same : all (fresh D) (cuts_from low D fuel o) ≡ all (fresh D) (cuts low D)

  from_end : (f o : ℕ) → D.deg ≤ o → cuts_from low D f o ≡ []
  unfolding cuts_from
  from_end zero o h = refl
  from_end (suc f) o h = cond-false (ltb o D.deg) _ [] (le-ltb o D.deg h)

  from_more : (f o : ℕ) → o < D.deg → cuts_from low D (suc f) o ≡ o ∷ cuts_from low D f (o + width o)
  unfolding cuts_from
  from_more f o h = cond-true (ltb o D.deg) _ [] (lt-ltb o D.deg h)

  all_cons : (q : ℕ → Bool) (x : ℕ) (xs : List ℕ) → all q (x ∷ xs) ≡ q x && all q xs
  unfolding all
  all_cons q x xs = refl

  module _ (low-pos : (r : ℕ) → r < length low → 0 < (rep_of low r).deg) (whole : all (whole_block low D) (cuts low D) ≡ true) where
    pub walked_none : Walked 0 0
    unfolding cuts
    walked_none = record { fuel = D.deg; enough = omega arith; few = omega arith; within = omega arith; count = omega arith; blocks = whole; same = refl }

    module _ {o b : ℕ} (S : Walked o b) (h : o < D.deg) where
      -- one step of the walk
      record Step : Type 0 where
        pub f : ℕ
        pub enough : D.deg ≤ o + suc f
        pub count : b + suc (length (cuts_from low D f (o + width o))) ≡ length (cuts low D)
        pub blocks : whole_block low D o && all (whole_block low D) (cuts_from low D f (o + width o)) ≡ true
        pub same : fresh D o && all (fresh D) (cuts_from low D f (o + width o)) ≡ all (fresh D) (cuts low D)

      step : Step
      step = go S.fuel S.enough S.count S.blocks S.same
        where
          go : (f : ℕ) → D.deg ≤ o + f → b + length (cuts_from low D f o) ≡ length (cuts low D) → all (whole_block low D) (cuts_from low D f o) ≡ true
              → all (fresh D) (cuts_from low D f o) ≡ all (fresh D) (cuts low D) → Step
          go zero e c w s = absurd (omega arith)
          go (suc f) e c w s = record {
            f = f;
            enough = e;
            count = sym (ap (λ xs. b + length xs) (from_more f o h)) ∙ c;
            blocks = sym (ap (all (whole_block low D)) (from_more f o h) ∙ all_cons (whole_block low D) o _) ∙ w;
            same = sym (ap (all (fresh D)) (from_more f o h) ∙ all_cons (fresh D) o _) ∙ s;
          }

      pub walked_whole : whole_block low D o ≡ true
      walked_whole = and_left (whole_block low D o) _ step.blocks

      pub walked-listed : D.ref 0 o < length low
      walked-listed = (is_whole low D low-pos whole o walked_whole).listed

      pub walked-fits : o + (rep_of low (D.ref 0 o)).deg ≤ D.deg
      walked-fits = (is_whole low D low-pos whole o walked_whole).fits

      pub walked_more : fresh D o ≡ true → Walked (o + (rep_of low (D.ref 0 o)).deg) (b + 1)
      walked_more t =
          let w = wide low D low-pos whole o walked_whole in
          let N = step in
          record {
            fuel = N.f;
            enough = omega (arith, N.enough, w);
            few = omega (arith, S.few, w);
            within = walked-fits;
            count = omega (arith, N.count);
            blocks = and_right (whole_block low D o) _ N.blocks;
            same = sym (ap (λ x. x && all (fresh D) (cuts_from low D N.f (o + width o))) t) ∙ N.same;
          }

      pub walked-fails : (p : ℕ) → fresh D o ≡ false → false ≡ differ low p D
      walked-fails p t =
          sym (and_last (eqb (length (cuts low D)) p) _ (sym step.same ∙ ap (λ x. x && all (fresh D) (cuts_from low D step.f (o + width o))) t))

    pub walked_all : (p : ℕ) {o b : ℕ} → Walked o b → D.deg ≤ o → eqb b p ≡ differ low p D
    walked_all p {o} {b} S h = ap (λ x. eqb x p) counted ∙ sym (ap (λ x. eqb (length (cuts low D)) p && x) fresh-all ∙ and-true _)
      where
        nothing : cuts_from low D S.fuel o ≡ []
        nothing = from_end S.fuel o h

        counted : b ≡ length (cuts low D)
        counted = let e : b ≡ b + 0 = omega arith in e ∙ sym (ap (λ xs. b + length xs) nothing) ∙ S.count

        fresh-all : all (fresh D) (cuts low D) ≡ true
        fresh-all = sym S.same ∙ ap (all (fresh D)) nothing ∙ unfold all in refl

    -- ---- What is asked of one representation

    module _ (pos : 0 < D.deg) (p i : ℕ) where
      abbrev rest : Bool
      rest = eqb (length (cuts low D)) p && leb (width 0) (col (D.matrix i) 0).row && all (fresh D) (cuts low D)

      pub own-one : (rep_of low (D.ref 0 0)).deg ≡ D.deg → true ≡ own_of low p i D
      own-one e = sym (ap (λ x. x || rest) (one_block low D low-pos whole pos ∙ eq-eqb (width 0) D.deg e))

      module _ (many : ¬ ((rep_of low (D.ref 0 0)).deg ≡ D.deg)) where
        more : own_of low p i D ≡ rest
        more = ap (λ x. x || rest) (one_block low D low-pos whole pos ∙ ne_eqb (width 0) D.deg many)

        pub own-inside : (col (D.matrix i) 0).row < (rep_of low (D.ref 0 0)).deg → false ≡ own_of low p i D
        own-inside l = sym (more ∙ ap (λ x. x && all (fresh D) (cuts low D)) (and_last (eqb (length (cuts low D)) p) _ (lt-leb _ _ l)))

        pub own-blocks : (rep_of low (D.ref 0 0)).deg ≤ (col (D.matrix i) 0).row → differ low p D ≡ own_of low p i D
        own-blocks l = sym (more ∙ ap (λ x. eqb (length (cuts low D)) p && x && all (fresh D) (cuts low D)) (le-leb _ _ l)
            ∙ ap (λ x. x && all (fresh D) (cuts low D)) (and-true (eqb (length (cuts low D)) p)))

-- ---- A representation in its lines

module _ {s : Scope} {T : List ℕ} {i r : ℕ} {D : Listed} (L : PlacedAt s T i r D) where
  abbrev below : Level
  below = level_at s.gens T i

  abbrev here : ℕ → ℕ → Type 0
  here o b = Walked below (rep_in T D) o b

  degree : (rep_in T D).deg ≡ D.deg
  degree = unfold rep_at in refl

  pub line-none : Walked (level_at s.gens T i) (rep_in T D) 0 0
  line-none = walked_none below (rep_in T D) (placed-positive L) (placed-whole L)

  module _ {o b : ℕ} (S : Walked (level_at s.gens T i) (rep_in T D) o b) (l : o < D.deg) where
    inside : o < (rep_in T D).deg
    inside = subst (λ d. o < d) (sym degree) l

    pub line-there : 8 * (D.line + o) + 8 ≤ length T
    line-there = let F : HasLines T i D = found-fits L.found i L.level in omega (arith, F.first)

    pub line-refers : RefersTo s T i D o
    line-refers = record {
      whole = L.formed.whole;
      level = omega (arith, L.level);
      there = line-there;
      listed = walked-listed below (rep_in T D) (placed-positive L) (placed-whole L) S inside;
    }

    pub line-fits : {w : ℕ} → w ≡ width_in s T i D o → o + w ≤ D.deg
    line-fits e = omega (arith, e, degree, walked-fits below (rep_in T D) (placed-positive L) (placed-whole L) S inside)

    pub line-more : {t : Bool} {w : ℕ} → t ≡ fresh (rep_in T D) o → t ≡ true → w ≡ width_in s T i D o
        → Walked (level_at s.gens T i) (rep_in T D) (o + w) (b + 1)
    line-more h t e =
        subst (λ w. here (o + w) (b + 1)) (sym e) (walked_more below (rep_in T D) (placed-positive L) (placed-whole L) S inside (sym h ∙ t))

    pub line-fails : (p : ℕ) {t : Bool} → t ≡ fresh (rep_in T D) o → t ≡ false → false ≡ differ (level_at s.gens T i) p (rep_in T D)
    line-fails p h t = walked-fails below (rep_in T D) (placed-positive L) (placed-whole L) S inside p (sym h ∙ t)

  pub line-all : (p : ℕ) {o b : ℕ} → Walked (level_at s.gens T i) (rep_in T D) o b → D.deg ≤ o → eqb b p ≡ differ (level_at s.gens T i) p (rep_in T D)
  line-all p S l = walked_all below (rep_in T D) (placed-positive L) (placed-whole L) p S (omega (arith, degree))

  -- the words that are read
  pub line_first : RefersTo s T i D 0
  line_first = line-refers line-none L.found.positive

  pub line-narrow : D.deg ≡ 1 → 1 ≡ width_in s T i D 0
  line-narrow e =
      let h = placed-positive L ((rep_in T D).ref 0 0) line_first.listed in
      omega (arith, e, h, line-fits line-none L.found.positive refl)

  module _ (p : ℕ) {w : ℕ} (is : w ≡ width_in s T i D 0) where
    wide-first : 0 < (rep_in T D).deg
    wide-first = subst (λ d. 0 < d) (sym degree) L.found.positive

    pub line-one : w ≡ D.deg → true ≡ own_of (level_at s.gens T i) p i (rep_in T D)
    line-one e = own-one below (rep_in T D) (placed-positive L) (placed-whole L) wide-first p i (sym is ∙ e ∙ sym degree)

    module _ (many : ¬ (w ≡ D.deg)) where
      wider : ¬ (width_in s T i D 0 ≡ (rep_in T D).deg)
      wider e = many (is ∙ e ∙ degree)

      first-row : {x : ℕ} → x ≡ word_at T (line_in D i) ROW → (col ((rep_in T D).matrix i) 0).row ≡ x
      first-row h = row_at T D.line D.deg i L.found.positive ∙ sym h

      pub line-inside : {x : ℕ} → x ≡ word_at T (line_in D i) ROW → x < w → false ≡ own_of (level_at s.gens T i) p i (rep_in T D)
      line-inside h l = own-inside below (rep_in T D) (placed-positive L) (placed-whole L) wide-first p i wider (omega (arith, first-row h, is))

      pub line-blocks : {x : ℕ} → x ≡ word_at T (line_in D i) ROW → w ≤ x → {b : Bool} → b ≡ differ (level_at s.gens T i) p (rep_in T D)
          → b ≡ own_of (level_at s.gens T i) p i (rep_in T D)
      line-blocks h l e = e ∙ own-blocks below (rep_in T D) (placed-positive L) (placed-whole L) wide-first p i wider (omega (arith, first-row h, is))
