-- References in lines of words.
--
--   free_at            no column of the representation at a line has the reference of a column of another
--   free-is           for every column, `common_free` of the two
--   fresh-is          no column before one has its reference
--   like-blocks, like-degrees, like-refs      one degree and one first reference, case by case
--   apart-unlike, apart-alike                 what tells two representations apart
use mathlib.Core.Path.{◌≡◌, sym, ◌∙◌, ap, ap₂}
use mathlib.Core.Bool.{Bool, true, false, ◌&&◌, not}
use mathlib.Core.List.{List}
use Prim.Native.Nat.{ℕ, ◌+◌, ◌<◌}
use lib.Dec.{eqb}
use borrow.Author.Tests.{eq-eqb, ne_eqb}
use Rattle.definitions.specs.Lists.{all_below}
use Rattle.definitions.specs.Table.{REF, EXP, word_at, rep_at}
use Rattle.numbers.proofs.Bools.{and_last, cond-true, cond-false}
use Rattle.numbers.proofs.Lists.{all_below-below}
use Rattle.level.specs.declared.Listed.{Listed}
use Rattle.level.specs.Stored.{line_in}
use Rattle.separation.specs.Apart.{common_free, fresh, apart_at}
use Rattle.separation.proofs.Pairs.{eqb-sym}
use Rattle.seek.specs.Among.{rep_in}
use Rattle.seek.proofs.Columns.{ref-at, first_ref, exp-at}
use Rattle.check_pairs.specs.Pairs.{other_ref, like_in}

unfoldable pub free_at : List ℕ → (line deg at c : ℕ) → Bool
free_at T line deg at c = all_below deg (other_ref T line (word_at T (at + c) REF))

-- the test of a reference that was read
pub free-test : (T : List ℕ) (line deg at c x : ℕ) → x ≡ word_at T (at + c) REF
    → free_at T line deg at c ≡ all_below deg (other_ref T line x)
unfolding free_at
free-test T line deg at c x e = ap (λ y. all_below deg (other_ref T line y)) (sym e)

pub free-is : (T : List ℕ) (at d line deg : ℕ) → common_free (rep_at T at d) (rep_at T line deg) ≡ all_below d (free_at T line deg at)
unfolding common_free free_at
free-is T at d line deg = unfold rep_at in (all_below-below d _ _ (λ c l. all_below-below deg _ _ (λ k a.
    ap₂ (λ x y. not (eqb x y)) (ref-at T at d c) (ref-at T line deg k))))

pub fresh-is : (T : List ℕ) (D : Listed) (o : ℕ) {x : ℕ} → x ≡ word_at T (D.line + o) REF
    → all_below o (other_ref T D.line x) ≡ fresh (rep_in T D) o
unfolding fresh
fresh-is T D o {x} e = all_below-below o _ _ (λ c l. ap not (eqb-sym x (word_at T (D.line + c) REF)
    ∙ ap₂ eqb (sym (ref-at T D.line D.deg c)) (e ∙ sym (ref-at T D.line D.deg o))))

-- ---- Apart

module _ (T : List ℕ) (one : Bool) (D E : Listed) where
  pub like-blocks : one ≡ false → false ≡ like_in T one D E
  like-blocks h = sym (ap (λ o. o && eqb D.deg E.deg && eqb (word_at T D.line REF) (word_at T E.line REF)) h)

  pub like-degrees : ¬ (D.deg ≡ E.deg) → false ≡ like_in T one D E
  like-degrees h = sym (ap (λ o. o && eqb (word_at T D.line REF) (word_at T E.line REF)) (and_last one _ (ne_eqb D.deg E.deg h)))

  pub like-refs : one ≡ true → D.deg ≡ E.deg → {x y : ℕ} → x ≡ word_at T D.line REF → y ≡ word_at T E.line REF → eqb x y ≡ like_in T one D E
  like-refs o d u w = ap₂ eqb u w ∙ sym (ap (λ b. b && eqb (word_at T D.line REF) (word_at T E.line REF)) (ap₂ (◌&&◌) o (eq-eqb D.deg E.deg d)))

  module _ (i : ℕ) {b : Bool} (is : b ≡ like_in T one D E) where
    abbrev same : Bool
    same = one && eqb (rep_in T D).deg (rep_in T E).deg && eqb ((rep_in T D).ref 0 0) ((rep_in T E).ref 0 0)

    same-is : same ≡ b
    same-is = unfold rep_at in (ap (λ x. one && eqb D.deg E.deg && x) (ap₂ eqb (first_ref T D) (first_ref T E))) ∙ sym is

    pub apart-unlike : b ≡ false → common_free (rep_in T D) (rep_in T E) ≡ apart_at i one (rep_in T D) (rep_in T E)
    unfolding apart_at
    apart-unlike h = sym (cond-false same _ (common_free (rep_in T D) (rep_in T E)) (same-is ∙ h))

    pub apart-alike : b ≡ true → 0 < D.deg → 0 < E.deg → {x y : ℕ} → x ≡ word_at T (line_in D i) EXP → y ≡ word_at T (line_in E i) EXP
        → not (eqb x y) ≡ apart_at i one (rep_in T D) (rep_in T E)
    unfolding apart_at
    apart-alike h p p' u w =
        ap₂ (λ x y. not (eqb x y)) (u ∙ sym (exp-at T D.line D.deg i p)) (w ∙ sym (exp-at T E.line E.deg i p'))
        ∙ sym (cond-true same _ (common_free (rep_in T D) (rep_in T E)) (same-is ∙ h))
