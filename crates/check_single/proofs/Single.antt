-- A representation of degree 1 over one of degree 1.
--
--   less-back          a difference modulo m, added again
--   width_one, single-line, part-line, single-room     its lines, and those of the one below
--   single-takes       a generator that takes it to a representation
--   based-at, takes_at, uppers-at      a block by another number of what it refers to
--   single-block       its one block
use mathlib.Core.Path.{◌≡◌, sym, ◌∙◌, ap, ap₂, subst}
use mathlib.Core.Logic.{inl, by_cases}
use mathlib.Core.List.{List}
use Prim.Native.Nat.{ℕ, ◌+◌, ◌*◌, ◌-◌, ◌/◌, ◌%◌, ◌≤◌, ◌<◌}
use native.Mathlib.Nat.{mod-eq_of_lt, add-mod_right, zero-div}
use native.Mathlib.Decide.{dec_lt}
use native.Mathlib.Omega.{arith}
use lib.ListN.{length}
use Rattle.definitions.specs.Monomial.{entry, less}
use Rattle.definitions.specs.Table.{REF, ROW, EXP, word_at}
use Rattle.level.specs.declared.Listed.{Listed}
use Rattle.level.specs.Stored.{entry_in, line_in}
use Rattle.modular.proofs.Reduction.{less-below, less-above}
use Rattle.seek.specs.declared.Scope.{Scope}
use Rattle.seek.specs.Seek.{Found}
use Rattle.compare.specs.declared.Stage.{Stage}
use Rattle.compare.specs.declared.Stretch.{Stretch}
use Rattle.compare.specs.Shifted.{shift, LineShifted}
use Rattle.compare.proofs.Blocks.{inside-matrix}
use Rattle.compare.specs.Blocks.{block, Based, TakesBlock, row_to, Uppers, BlockFits, RepFits}

less-back : (m a b : ℕ) → a < m → b < m → (b + less m a b) % m ≡ a
less-back m a b l h = by_cases (dec_lt a b)
    (λ k.
    let e : b + (a + (m - b)) ≡ a + m = omega arith in
    ap (λ x. (b + x) % m) (sym (less-above m a b k h)) ∙ ap (λ x. x % m) e ∙ add-mod_right a m ∙ mod-eq_of_lt l)
    (λ k.
    let e : b + (a - b) ≡ a = omega arith in
    ap (λ x. (b + x) % m) (sym (less-below m a b (omega arith) l h)) ∙ ap (λ x. x % m) e ∙ mod-eq_of_lt l)

module _ {s : Scope} {T : List ℕ} {D : Listed} {B : Stretch} (O : Based s T D B) (one : D.deg ≡ 1) where
  start-zero : B.start ≡ 0
  start-zero = omega (arith, O.within, O.stored.positive)

  pub width_one : B.part.deg ≡ 1
  width_one = omega (arith, O.within, O.stored.positive)

  pub single-line : (g : ℕ) → line_in D g ≡ D.line + g
  single-line g = omega (arith, ap (λ d. g * d) one)

  pub part-line : (g : ℕ) → line_in B.part g ≡ B.part.line + g
  part-line g = omega (arith, ap (λ d. g * d) width_one)

  -- the line of a generator is there, in the representation and in the one below
  pub single-room : (g : ℕ) → g < s.gens → (8 * (D.line + g) + 8 ≤ length T) × (8 * (B.part.line + g) + 8 ≤ length T)
  single-room g l =
      (omega (arith, inside-matrix O.inside g l, single-line g, one), omega (arith, (O.stored.holds g l).fits, part-line g, width_one))

  module _ (E : Listed) (g x : ℕ) (l : g < s.gens) (ref : word_at T (D.line + g) REF ≡ x) (row : word_at T (D.line + g) ROW ≡ 0)
      (exp : word_at T (D.line + g) EXP < s.m) (leads : word_at T E.line REF ≡ word_at T (B.part.line + g) REF) where
    at : line_in D g + B.start ≡ D.line + g
    at = omega (arith, single-line g, start-zero)

    row_zero : row_to T D B g ≡ 0
    row_zero =
        ap (λ r. r / B.part.deg * B.part.deg) (ap (λ a. word_at T a ROW) at ∙ row) ∙ ap (λ z. z * B.part.deg) (zero-div B.part.deg) ∙ omega arith

    abbrev scalar : ℕ
    scalar = less s.m (entry_in T (line_in D g + B.start)).exp (entry_in T (line_in B.part g)).exp

    -- the one column
    column : LineShifted s.m T (line_in D g + B.start + 0) (line_in B.part g + 0) (shift x (row_to T D B g) scalar)
    column =
        let a : line_in D g + B.start + 0 ≡ line_in D g + B.start = omega arith in
        let b : line_in B.part g + 0 ≡ line_in B.part g = omega arith in
        let H = (O.stored.holds g l).valid 0 O.stored.positive in
        let f : word_at T (line_in B.part g) EXP < s.m = subst (λ z. word_at T z EXP < s.m) b H.exp in
        let y : word_at T (line_in D g + B.start) EXP < s.m = subst (λ z. word_at T z EXP < s.m) (sym at) exp in
        let left : word_at T (line_in D g + B.start + 0) ROW ≡ 0 = ap (λ z. word_at T z ROW) (a ∙ at) ∙ row in
        let r = H.row in
        let right : row_to T D B g + word_at T (line_in B.part g + 0) ROW ≡ 0 = omega (arith, row_zero, r, width_one) in
        record {
          ref = ap (λ z. word_at T z REF) (a ∙ at) ∙ ref;
          is = ap₂ entry (left ∙ sym right) (ap (λ z. word_at T z EXP) a
              ∙ sym (less-back s.m (word_at T (line_in D g + B.start) EXP) (word_at T (line_in B.part g) EXP) y f)
              ∙ ap (λ z. (word_at T z EXP + scalar) % s.m) (sym b));
        }

    pub single-takes : TakesBlock s T D E B g x
    single-takes = record {
      lands = subst (λ a. word_at T a ROW < D.deg) (sym at) (omega (arith, row, one));
      leads = let z : E.line + 0 ≡ E.line = omega arith in
          ap (λ r. word_at T (E.line + r) REF) row_zero ∙ ap (λ a. word_at T a REF) z ∙ leads ∙ ap (λ a. word_at T a REF) (sym (part-line g));
      shifted = record {
        each = λ c h.
            let z : 0 ≡ c = omega (arith, width_one) in
            subst (λ c. LineShifted s.m T (line_in D g + B.start + c) (line_in B.part g + c) (shift x (row_to T D B g) scalar)) z column;
      };
    }

-- the number to which a block refers does not matter where it is taken to another
pub based-at : {s : Scope} {T : List ℕ} {D F : Listed} {x : ℕ} (y : ℕ) → Based s T D (block 0 x F) → Based s T D (block 0 y F)
based-at y O = record { inside = O.inside; within = O.within; modulus = O.modulus; stored = O.stored }

pub takes_at : {s : Scope} {T : List ℕ} {D E F : Listed} {x g z : ℕ} (y : ℕ) → TakesBlock s T D E (block 0 x F) g z → TakesBlock s T D E (block 0 y F) g z
takes_at y t = record { lands = t.lands; leads = t.leads; shifted = t.shifted }

pub uppers-at : {s : Scope} {T : List ℕ} {g : Stage} {D F : Listed} {x : ℕ} (y : ℕ) → Uppers s T g D (block 0 x F) → Uppers s T g D (block 0 y F)
uppers-at y U = record {
  each = λ j a b.
      let u = U.each j a b in
      record {
        target = u.target;
        found = u.found;
        degree = u.degree;
        first = u.first;
        refers = u.refers;
        width = u.width;
        carried = takes_at y u.carried;
      };
}

pub single-block : {s : Scope} {T : List ℕ} {g : Stage} {D F : Listed} → D.deg ≡ 1 → Found s.gens T g.top (word_at T D.line REF) F → F.deg ≡ 1
    → BlockFits s T g D 0 1 → RepFits s T g D
single-block {s} {T} {g} {D} {F} one G width B = record {
  w = 1;
  wide = record { first = F; found = G; width = width; split = inl one };
  proper = record { valid = λ ne. absurd (ne one) };
  blocks = λ k l. let z : 0 ≡ k * 1 = omega (arith, one) in subst (λ o. BlockFits s T g D o 1) z B;
}
