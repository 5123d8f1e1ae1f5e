-- The relations of the generator on top, column by column and generator by generator.
--
--   Carrying                         the intertwiner carries generator i over, in every v-th column before column o
--   carrying-none, carrying-more, carrying-all      the steps of the loop
--   Rising                           so do the intertwiners of the generators above the top and below k
--   rising_none, rising-more, rising-all            the steps of the loop
--   says-quiet                       a word that is empty
--   led-is                           where an intertwiner leads, by its place in the list
--   walk-empty, plain-conjugated     an empty word moves nothing, and its conjugate is the generator
--   plain_moved                      an intertwiner at a column, where the word is empty
use mathlib.Core.Path.{◌≡◌, refl, sym, ◌∙◌, ap, subst}
use mathlib.Core.Bool.{true}
use mathlib.Core.List.{List, []}
use Prim.Native.Nat.{ℕ, zero, suc, ◌+◌, ◌*◌, ◌≤◌, ◌<◌}
use native.Mathlib.Nat.{mul-le-mul_right}
use native.Mathlib.Omega.{arith}
use native.Mathlib.Decide.{dec_lt}
use lib.ListN.{get_or}
use borrow.Author.Count.{below_more}
use Rattle.definitions.specs.declared.Entry.{Entry}
use Rattle.definitions.specs.Presentation.{Presentation, to_nf}
use Rattle.definitions.specs.Monomial.{Matrix, entry, act}
use Rattle.numbers.proofs.Lists.{iter-zero}
use Rattle.group.proofs.Clauses.{same_form-eq}
use Rattle.group.proofs.Rows.{to_nf-trivial}
use Rattle.formulas.specs.Formulas.{walk}
use Rattle.commuting.specs.Commuting.{Quiet}
use Rattle.commuting.proofs.Skips.{keeps-empty}
use Rattle.columns.specs.Columns.{same_at, intertwines_at}
use Rattle.level.specs.declared.Listed.{Listed}
use Rattle.seek.specs.declared.Scope.{Scope}
use Rattle.seek.specs.Among.{rep_in}
use Rattle.level.specs.Stored.{Below, generator_in, listed_in, target_in}
use Rattle.relations.specs.Said.{WordOf, SaysTop}
use Rattle.relations.specs.Tests.{Conjugated}
use Rattle.relations.proofs.Kept.{conjugate-moved, intertwiner-moved}
use Rattle.compare.specs.declared.Stage.{Stage}
use Rattle.check_columns.specs.Relates.{Carries, led_to, CarriesAll}

pub record Carrying (s : Scope) (T : List ℕ) (D E : Listed) (i j : ℕ) (w : List ℕ) (v o : ℕ) : Type 0 where
  pub many : ℕ
  pub at : o ≡ many * v
  pub each : (k : ℕ) → k < many → (P : Presentation) → WordOf i j w P → intertwines_at P s.m (rep_in T D) (rep_in T E) i j (k * v) ≡ true

module _ {s : Scope} {T : List ℕ} {D E : Listed} {i j : ℕ} {w : List ℕ} {v : ℕ} where
  pub carrying-none : Carrying s T D E i j w v 0
  carrying-none = record { many = 0; at = omega arith; each = λ k l. absurd (omega arith) }

  module _ {o : ℕ} (h : Carrying s T D E i j w v o) where
    pub carrying-more : ((P : Presentation) → WordOf i j w P → intertwines_at P s.m (rep_in T D) (rep_in T E) i j o ≡ true)
        → Carrying s T D E i j w v (o + v)
    carrying-more q = record {
      many = h.many + 1;
      at = omega (arith, h.at);
      each = below_more (λ k. (P : Presentation) → WordOf i j w P → intertwines_at P s.m (rep_in T D) (rep_in T E) i j (k * v) ≡ true) h.many h.each
          (λ P z. subst (λ o. intertwines_at P s.m (rep_in T D) (rep_in T E) i j o ≡ true) h.at (q P z));
    }

    pub carrying-all : D.deg ≤ o → (P : Presentation) → WordOf i j w P → Carries s T D E i j v P
    carrying-all l P z k a = h.each k (few (dec_lt k h.many)) P z
      where
        few : Dec (k < h.many) → k < h.many
        few (yes b) = b
        few (no b) = let q : h.many * v ≤ k * v = mul-le-mul_right v (omega arith) in absurd (omega (arith, h.at, l, q))

-- ---- All generators above the top

pub record Rising (s : Scope) (T firsts : List ℕ) (g : Stage) (D : Listed) (rows : List (List ℕ)) (v k : ℕ) : Type 0 where
  pub from : g.top < k
  pub each : (j : ℕ) → g.top < j → j < k → (P : Presentation) → SaysTop s rows g.top g.p P
      → Carries s T D (led_to T firsts g D j) g.top j v P

pub rising_none : (s : Scope) (T firsts : List ℕ) (g : Stage) (D : Listed) (rows : List (List ℕ)) (v : ℕ) → Rising s T firsts g D rows v (g.top + 1)
rising_none s T firsts g D rows v = record { from = omega arith; each = λ j l h. absurd (omega arith) }

module _ {s : Scope} {T firsts : List ℕ} {g : Stage} {D : Listed} {rows : List (List ℕ)} {v k : ℕ} (h : Rising s T firsts g D rows v k) where
  pub rising-more : ((P : Presentation) → SaysTop s rows g.top g.p P → Carries s T D (led_to T firsts g D k) g.top k v P)
      → Rising s T firsts g D rows v (k + 1)
  rising-more q = record {
    from = omega (arith, h.from);
    each = λ j a b.
        below_more (λ j. g.top < j → (P : Presentation) → SaysTop s rows g.top g.p P → Carries s T D (led_to T firsts g D j) g.top j v P) k
        (λ j b a. h.each j a b) (λ a. q) j b a;
  }

  pub rising-all : s.gens ≤ k → CarriesAll s T firsts g D rows v
  rising-all l = record { each = λ j a b. h.each j a (omega arith) }

-- ---- Words

module _ {s : Scope} {rows : List (List ℕ)} {i p : ℕ} {P : Presentation} (S : SaysTop s rows i p P) where
  pub says-quiet : {reach : List ℕ} → Quiet s.gens rows reach → (j : ℕ) → i < j → j < s.gens → get_or reach j 0 ≤ i → WordOf i j [] P
  says-quiet Q j l h r = record {
    word = to_nf-trivial (suc i) [] (λ k b. refl) ∙ sym (same_form-eq (suc i) _ _ (keeps-empty rows j i ((Q.at j h).rest i 1 r l))) ∙ S.word j l h;
  }

-- ---- Where an intertwiner leads

pub led-is : (T firsts : List ℕ) (g : Stage) (D : Listed) (j : ℕ) {E : Listed} {x t : ℕ} → E ≡ listed_in T (get_or firsts (g.high + x) 0) → x ≡ t → t ≡ target_in T D j
    → E ≡ led_to T firsts g D j
led-is T firsts g D j here up is = here ∙ ap (λ x. listed_in T (get_or firsts (g.high + x) 0)) (up ∙ is)

-- ---- The empty word

walk-empty : (m : ℕ) (M : ℕ → Matrix) (i : ℕ) (x : Entry) → walk m M i (to_nf i []) x ≡ x
unfolding walk to_nf
walk-empty m M zero x = refl
walk-empty m M (suc i) x = iter-zero (act m (M i)) _ ∙ walk-empty m M i x

pub plain-conjugated : (m : ℕ) (T : List ℕ) (D : Listed) (k c : ℕ) (z : Entry) → z ≡ act m (generator_in T D k) (entry c 0) → Below m D.deg z
    → Conjugated m T D k [] c z
plain-conjugated m T D k c z q b = record {
  below = b;
  is = λ P j. conjugate-moved m T D P k j (suc k) c [] (entry c 0) z refl (sym (walk-empty m (generator_in T D) (suc k) (entry c 0))) q;
}

pub plain_moved : (m : ℕ) (T : List ℕ) (D E : Listed) (P : Presentation) (i j c : ℕ) {z y a b : Entry} → z ≡ act m (generator_in T D i) (entry c 0)
    → Below m D.deg z → y ≡ act m (generator_in T D j) (entry c 0) → a ≡ act m (generator_in T D j) z → b ≡ act m (generator_in T E i) y → WordOf i j [] P
    → same_at a b ≡ intertwines_at P m (rep_in T D) (rep_in T E) i j c
plain_moved m T D E P i j c {z} {y} {a} {b} q l first left right is =
    intertwiner-moved m T D P i j c [] y z a b first (plain-conjugated m T D i c z q l) is E left right
