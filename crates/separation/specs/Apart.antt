-- What is asked of two representations D and E of a level above level i, told by their columns.
--
--   common_free D E         no column of D has the reference of a column of E
--   fresh D o              no column of D before column o has its reference
--   apart_at i one D E      where E is one block, and D has its degree and its first reference: other exponents of generator i in
--                          column 0; and else no reference in common
use Rattle.std.specs.Prelude.{ℕ, Bool, ◌&&◌, not, cond, eqb}
use Rattle.definitions.specs.Lists.{all_below}
use Rattle.definitions.specs.Monomial.{col, Rep}

unfoldable pub common_free : Rep → Rep → Bool
common_free D E = all_below D.deg (λ c. all_below E.deg (λ c'. not (eqb (D.ref 0 c) (E.ref 0 c'))))

unfoldable pub fresh : Rep → ℕ → Bool
fresh D o = all_below o (λ c. not (eqb (D.ref 0 c) (D.ref 0 o)))

unfoldable pub apart_at : ℕ → Bool → Rep → Rep → Bool
apart_at i one D E =
    cond (one && eqb D.deg E.deg && eqb (D.ref 0 0) (E.ref 0 0))
    (not (eqb (col (D.matrix i) 0).exp (col (E.matrix i) 0).exp))
    (common_free D E)
