-- References, exponents and rows of a representation that stands in lines.
--
--   ref-at, first_ref, ref-read     the reference of a column of generator 0
--   exp-at, row_at                  exponent and row of column 0 of a generator
use mathlib.Core.Path.{◌≡◌, sym, ◌∙◌, ap}
use mathlib.Core.List.{List}
use Prim.Native.Nat.{ℕ, ◌+◌, ◌*◌, ◌<◌}
use native.Mathlib.Omega.{arith}
use Rattle.definitions.specs.declared.Entry.{Entry}
use Rattle.definitions.specs.Monomial.{col}
use Rattle.definitions.specs.Table.{REF, ROW, EXP, word_at, rep_at}
use Rattle.level.specs.declared.Listed.{Listed}
use Rattle.level.proofs.Columns.{col-matrix_in}
use Rattle.seek.specs.Among.{rep_in}

pub ref-at : (T : List ℕ) (l d c : ℕ) → (rep_at T l d).ref 0 c ≡ word_at T (l + c) REF
unfolding rep_at
ref-at T l d c = let e : l + 0 * d + c ≡ l + c = omega arith in ap (λ x. word_at T x REF) e

pub first_ref : (T : List ℕ) (F : Listed) → (rep_in T F).ref 0 0 ≡ word_at T F.line REF
first_ref T F = let e : F.line + 0 ≡ F.line = omega arith in ref-at T F.line F.deg 0 ∙ ap (λ l. word_at T l REF) e

pub ref-read : (T : List ℕ) (D : Listed) (o : ℕ) {k x : ℕ} → k ≡ o → x ≡ word_at T (D.line + k) REF → x ≡ (rep_in T D).ref 0 o
ref-read T D o e h = h ∙ ap (λ k. word_at T (D.line + k) REF) e ∙ sym (ref-at T D.line D.deg o)

pub exp-at : (T : List ℕ) (l d i : ℕ) → 0 < d → (col ((rep_at T l d).matrix i) 0).exp ≡ word_at T (l + i * d) EXP
unfolding rep_at
exp-at T l d i p =
    let e : l + i * d + 0 ≡ l + i * d = omega arith in
    ap (λ (x : Entry). x.exp) (col-matrix_in T (l + i * d) d 0 p) ∙ ap (λ x. word_at T x EXP) e

pub row_at : (T : List ℕ) (l d i : ℕ) → 0 < d → (col ((rep_at T l d).matrix i) 0).row ≡ word_at T (l + i * d) ROW
unfolding rep_at
row_at T l d i p =
    let e : l + i * d + 0 ≡ l + i * d = omega arith in
    ap (λ (x : Entry). x.row) (col-matrix_in T (l + i * d) d 0 p) ∙ ap (λ x. word_at T x ROW) e
