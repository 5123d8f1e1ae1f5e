-- The blocks of a representation, one behind the other.
--
--   block-unlisted, block-long, block-mixed, block-whole      how long a block is, test after test
--   width-none, width-more, width-inside      block after block, by its length
use Rattle.std.specs.Prelude.{Some, None}
use mathlib.Core.Path.{◌≡◌, sym, ◌∙◌, ap, ap₂, subst}
use mathlib.Core.Bool.{Bool, true, false, ◌&&◌}
use mathlib.Core.List.{List}
use Prim.Native.Nat.{ℕ, ◌+◌, ◌-◌, ◌≤◌, ◌<◌}
use native.Mathlib.Omega.{arith}
use lib.Dec.{eqb, leb, ltb}
use lib.ListN.{length}
use borrow.Author.Tests.{lt-ltb, le-ltb, le-leb, lt-leb}
use Rattle.definitions.specs.Lists.{all_below}
use Rattle.definitions.specs.Monomial.{Rep, Level, rep_of}
use Rattle.definitions.specs.Table.{REF, word_at}
use Rattle.definitions.specs.Judgement.{whole_block}
use Rattle.numbers.proofs.Lists.{all_below-below}
use Rattle.heads.proofs.Cutting.{Cutting, cutting-more, cutting-fails, block_room}
use Rattle.level.specs.declared.Listed.{Listed}
use Rattle.level.specs.Stored.{line_in}
use Rattle.check_lines.specs.Lines.{refs_are}
use Rattle.check_form.specs.Form.{listed_rep, blocks_ok, Width}

-- ---- One block

module _ (low : Level) (T : List ℕ) (D : Listed) (o at x : ℕ) (there : at ≡ line_in D 0 + o) (is : x ≡ word_at T at REF) where
  abbrev R : Rep
  R = listed_rep T D

  ref-is : (listed_rep T D).ref 0 o ≡ x
  ref-is = sym (is ∙ ap (λ l. word_at T l REF) there)

  abbrev listed : Bool
  listed = ltb (R.ref 0 o) (length low)

  abbrev ends : Bool
  ends = leb (o + (rep_of low (R.ref 0 o)).deg) R.deg

  abbrev one : Bool
  one = all_below (rep_of low (R.ref 0 o)).deg (λ c. eqb (R.ref 0 (o + c)) (R.ref 0 o))

  pub block-unlisted : length low ≤ x → Width low (listed_rep T D) o None
  unfolding whole_block
  block-unlisted h = ap (λ t. t && ends && one) (le-ltb (R.ref 0 o) (length low) (omega (arith, ref-is)))

  module _ (f : ℕ) (degree : f ≡ (rep_of low x).deg) (l : x < length low) (h : o < D.deg) where
    deg-is : (rep_of low ((listed_rep T D).ref 0 o)).deg ≡ f
    deg-is = ap (λ r. (rep_of low r).deg) ref-is ∙ sym degree

    listed-is : listed ≡ true
    listed-is = lt-ltb (R.ref 0 o) (length low) (omega (arith, ref-is))

    ends_is : ends ≡ leb (o + f) D.deg
    ends_is = ap (λ w. leb (o + w) D.deg) deg-is

    one_is : one ≡ refs_are T at f x
    one_is =
        ap₂ (λ w r. all_below w (λ c. eqb (word_at T (line_in D 0 + (o + c)) REF) r)) deg-is ref-is
        ∙ all_below-below f _ _ (λ c _. let e : line_in D 0 + (o + c) ≡ at + c = omega (arith, there) in ap (λ l. eqb (word_at T l REF) x) e)

    block_is : whole_block low (listed_rep T D) o ≡ (leb (o + f) D.deg && refs_are T at f x)
    unfolding whole_block
    block_is = ap (λ t. t && ends && one) listed-is ∙ ap₂ (◌&&◌) ends_is one_is

    pub block-long : D.deg - o < f → Width low (listed_rep T D) o None
    block-long g = block_is ∙ ap (λ t. t && refs_are T at f x) (lt-leb (o + f) D.deg (omega arith))

    module _ (fits : f ≤ D.deg - o) where
      whole_is : whole_block low (listed_rep T D) o ≡ refs_are T at f x
      whole_is = block_is ∙ ap (λ t. t && refs_are T at f x) (le-leb (o + f) D.deg (omega arith))

      pub block-mixed : refs_are T at f x ≡ false → Width low (listed_rep T D) o None
      block-mixed g = whole_is ∙ g

      pub block-whole : 0 < f → refs_are T at f x ≡ true → Width low (listed_rep T D) o (Some f)
      block-whole z g = (whole_is ∙ g, sym deg-is, z)

-- ---- Block after block

module _ (low : Level) (D : Rep) (o : ℕ) (h : o < D.deg) where
  pub width-none : Cutting low D (whole_block low D) o → whole_block low D o ≡ false → false ≡ blocks_ok low D
  width-none C z = sym (cutting-fails low D (whole_block low D) o C h z)

  module _ (f : ℕ) (W : (whole_block low D o ≡ true) × (f ≡ (rep_of low (D.ref 0 o)).deg) × (0 < f)) where
    pub width-more : Cutting low D (whole_block low D) o → Cutting low D (whole_block low D) (o + f)
    width-more C =
        let (whole, is, some) = W in
        subst (λ w. Cutting low D (whole_block low D) (o + w)) (sym is)
        (cutting-more low D (whole_block low D) o C h (omega (arith, is)) whole)

    pub width-inside : o + f ≤ D.deg
    width-inside = let (whole, is, some) = W in omega (arith, is, block_room low D o whole)
