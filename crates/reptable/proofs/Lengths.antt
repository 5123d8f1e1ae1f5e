-- How long the text of a table is: the line of names, and for each word at most nine digits and the byte behind it.
--
--   pieces-length       ten bytes for each word
--   text-length         34 bytes, and 80 for each line
use mathlib.Core.Path.{◌≡◌, ap, ◌∙◌}
use mathlib.Core.Bool.{true}
use mathlib.Core.List.{List, [], ◌∷◌}
use Prim.Native.Nat.{ℕ, suc, ◌+◌, ◌*◌, ◌≤◌}
use native.Mathlib.Nat.{div-add-mod'}
use native.Mathlib.Omega.{arith}
use lib.Dec.{leb}
use lib.ListN.{length, length-append}
use borrow.Author.Tests.{leb-true}
use Rattle.definitions.specs.Lists.{all}
use Rattle.definitions.specs.Text.{largest, decimal, small}
use Rattle.definitions.specs.Presentation.{line_words}
use Rattle.definitions.specs.Table.{line_count, table_text, writable}
use Rattle.definitions.proofs.Rendering.{decimal-nine}
use Rattle.numbers.proofs.Bools.{and_left, and_right}
use Rattle.table_text.specs.Pieces.{separator_of, pieces}
use Rattle.table_text.proofs.Pieces.{pieces-nil, pieces-cons, names, table_text-pieces}
use Rattle.table_text.proofs.Calls.{writable-parts}

pieces-length : (i : ℕ) (vs : List ℕ) → small vs ≡ true → length (pieces i vs) ≤ 10 * length vs
unfolding small all
pieces-length i [] h = omega (arith, ap length (pieces-nil i))
pieces-length i (v ∷ vs) h =
    let e = ap length (pieces-cons i v vs) ∙ length-append (decimal v) (separator_of i ∷ pieces (suc i) vs) in
    let nine = (decimal-nine v).1 (leb-true v largest (and_left (leb v largest) _ h)) in
    let rest = pieces-length (suc i) vs (and_right (leb v largest) _ h) in
    omega arith

pub text-length : (T : List ℕ) → writable T ≡ true → length (table_text T) ≤ 34 + 80 * line_count T
unfolding line_count line_words
text-length T h =
    let (whole, few) = writable-parts T h in
    let e = ap length (table_text-pieces T whole) ∙ length-append names (pieces 0 T) in
    let p = pieces-length 0 T few in
    let q = div-add-mod' (length T) 8 in
    omega arith
