-- `answer`: what passes the test of matrices holds a matrix.
use mathlib.Core.Path.{◌≡◌, sym, ◌∙◌, subst}
use mathlib.Core.Bool.{true}
use Prim.Native.Nat.{◌+◌, ◌*◌, ◌≤◌}
use native.Mathlib.Omega.{arith}
use lib.ListN.{length, get_or}
use Rattle.definitions.specs.Monomial.{valid}
use Rattle.numbers.proofs.Lists.{all_below-elim}
use Rattle.level.specs.Stored.{matrix_in}
use Rattle.level.proofs.Matrices.{valid-holds}
use borrow.Author.Rules.{rules}
use Rattle.power_cases.proofs.answer.Goals as goal

pub print_powers-requires : goal.print_powers-requires
print_powers-requires g c = let W = c.parse-2.new.words in
    let q = c.parse.new.words in
    let d = get_or q 0 0 in
    let m = get_or q 1 0 in
    let v = all_below-elim 1 _ (sym c.matrices_ok.ensures ∙ c.if-matrices_ok.true) 0 (omega arith) in
    let room : 8 * (0 + d) ≤ length W = search rules in
    let at : 0 + 0 * d ≡ 0 = omega arith in
    (valid-holds m (omega arith) W 0 d room (subst (λ a. valid m d (matrix_in W a d) ≡ true) at v), omega arith)
