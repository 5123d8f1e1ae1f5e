-- A matrix that stands in lines is one of the definitions.
--
--   holds-monomial             lines that hold a matrix hold a monomial one
--   valid-holds                lines of a valid matrix hold it
use mathlib.Core.Path.{◌≡◌, sym, ap, ◌∙◌, subst}
use mathlib.Core.Bool.{true}
use mathlib.Core.List.{List}
use Prim.Native.Nat.{ℕ, ◌+◌, ◌*◌, ◌≤◌, ◌<◌}
use lib.ListN.{length}
use Rattle.definitions.specs.declared.Entry.{Entry}
use Rattle.definitions.specs.Monomial.{col, valid}
use Rattle.numbers.proofs.Blocks.{length-table}
use Rattle.columns.proofs.Inverses.{Monomial, valid-monomial}
use Rattle.level.specs.Stored.{entry_in, matrix_in, Below, Holds}
use Rattle.level.proofs.Columns.{col-matrix_in}

module _ (W : List ℕ) (at d : ℕ) where
  row : (c : ℕ) → c < d → (col (matrix_in W at d) c).row ≡ (entry_in W (at + c)).row
  row c l = ap (λ (y : Entry). y.row) (col-matrix_in W at d c l)

pub holds-monomial : {m : ℕ} {W : List ℕ} {at d : ℕ} → Holds m W at d → Monomial m d (matrix_in W at d)
holds-monomial {m} {W} {at} {d} H = record {
  square = record {
    size = length-table (λ c. entry_in W (at + c)) d;
    inside = λ c l. subst (λ (y : Entry). y.row < d) (sym (col-matrix_in W at d c l)) (H.valid c l).row;
  };
  small = λ c l. subst (λ (y : Entry). y.exp < m) (sym (col-matrix_in W at d c l)) (H.valid c l).exp;
  distinct = λ j k a b e. H.distinct j k a b (sym (row W at d j a) ∙ e ∙ row W at d k b);
}

pub valid-holds : (m : ℕ) → m ≤ 2147483648 → (W : List ℕ) (at d : ℕ) → 8 * (at + d) ≤ length W → valid m d (matrix_in W at d) ≡ true → Holds m W at d
valid-holds m small W at d fits v =
    let K = valid-monomial m d (matrix_in W at d) v in
    record {
      small = small;
      fits = fits;
      valid = λ c l. subst (Below m d) (col-matrix_in W at d c l) (record { row = K.square.inside c l; exp = K.small c l });
      distinct = λ j k a b e. K.distinct j k a b (row W at d j a ∙ e ∙ sym (row W at d k b));
    }
