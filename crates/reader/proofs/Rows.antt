-- Laws of the lines of values: one line by its parts, and lines one behind the other.
--
--   pairs-at                     the pair that has a number
--   line-text, line-some         a line by its head and its word
--   NoLine, line-no-head, line-no-word      why no line of a pair stands somewhere
--   row_text-nil, row_text-one     no lines; one line more
--   lines-ahead, lines-whole     lines that stand before others are the first of them
--   formed-count, formed-p, formed-small, formed-row      what the form asks of a row
use mathlib.Core.Path.{◌≡◌, refl, sym, ap, ◌∙◌}
use mathlib.Core.Logic.{by_cases}
use mathlib.Core.Bool.{true, ◌&&◌}
use mathlib.Core.List.{List, [], ◌∷◌, ◌++◌, flat_map, zip_with, append_assoc, append-nil}
use Prim.Native.Nat.{ℕ, suc, ◌+◌, ◌<◌, ◌≤◌}
use native.Mathlib.Nat.{le_of_suc-le-suc, suc_inj}
use native.Mathlib.Decide.{ℕ_discrete}
use native.Mathlib.Omega.{arith}
use lib.ListN.{length, get_or, drop}
use lib.Dec.{eqb, leb}
use borrow.Author.Tests.{eqb-true, eq-eqb, le-leb, leb-true}
use Rattle.definitions.specs.Lists.{blocks, sum}
use Rattle.definitions.specs.Text.{Bytes, largest, decimal, value_line, small}
use Rattle.definitions.specs.Presentation.{Row, pairs_of, pairs, pair_number, row_values}
use Rattle.definitions.proofs.Rendering.{row_formed, value_line-unique, flat_map-cons, flat_map-nil}
use Rattle.numbers.proofs.Bools.{and_left, and_right, and_intro}
use Rattle.numbers.proofs.Lists.{sum-ext}
use Rattle.numbers.proofs.Blocks.{get_or-blocks, get_or-table}
use Rattle.group.proofs.Pairs.{length-pairs_of, pair_number-power, pair_number-commutator}
use Rattle.text.specs.Reading.{Ends, trail}
use Rattle.text.proofs.Trail.{trail-cons, value_line-trail, ends-trail}
use Rattle.reader.specs.Lines.{head_text, HeadLine, NoHead, WordLine, NoWord}
use Rattle.reader.specs.Rows.{no_row, row_text}
use Rattle.reader.proofs.Heads.{head-text, head-known}

-- ---- Pairs

pair-within : (n j k : ℕ) → j < n → k < suc j → get_or (pairs n) (sum j suc + k) (0, 0) ≡ get_or (pairs_of j) k (0, 0)
unfolding pairs
pair-within n j k l m =
    ap (λ (s : ℕ). get_or (blocks n pairs_of) (s + k) (0, 0)) (sym (sum-ext j (λ i. length (pairs_of i)) suc length-pairs_of))
    ∙ get_or-blocks (0, 0) n pairs_of j k l (omega (arith, length-pairs_of j))

pub pairs-at : (n j i : ℕ) → j < n → i ≤ j → get_or (pairs n) (pair_number j i) (0, 0) ≡ (j, i)
unfolding pairs_of
pairs-at n j i l m = by_cases (ℕ_discrete i j)
    (λ q.
    let e : pair_number j i ≡ sum j suc + 0 = ap (pair_number j) q ∙ pair_number-power j ∙ omega arith in
    ap (λ (k : ℕ). get_or (pairs n) k (0, 0)) e ∙ pair-within n j 0 l (omega arith) ∙ (λ o. (j, sym q o)))
    (λ q.
    let s : i < j = omega arith in
    ap (λ (k : ℕ). get_or (pairs n) k (0, 0)) (pair_number-commutator j i s)
    ∙ pair-within n j (suc i) l (omega arith)
    ∙ get_or-table (λ k. (j, k)) j i (0, 0) s)

-- ---- One line

pub formed-count : (n : ℕ) (row : Row) → row_formed n row ≡ true → length row.word ≡ n
formed-count n row h = eqb-true (length row.word) n (and_left _ (leb row.p largest) (and_left (eqb (length row.word) n && leb row.p largest) (small row.word) h))

pub formed-p : (n : ℕ) (row : Row) → row_formed n row ≡ true → row.p ≤ largest
formed-p n row h = leb-true row.p largest (and_right (eqb (length row.word) n) _ (and_left (eqb (length row.word) n && leb row.p largest) (small row.word) h))

pub formed-small : (n : ℕ) (row : Row) → row_formed n row ≡ true → small row.word ≡ true
formed-small n row h = and_right (eqb (length row.word) n && leb row.p largest) (small row.word) h

pub formed-row : (n : ℕ) (row : Row) → length row.word ≡ n → row.p ≤ largest → small row.word ≡ true → row_formed n row ≡ true
formed-row n row a b c = and_intro _ _ (and_intro _ _ (eq-eqb (length row.word) n a) (le-leb row.p largest b)) c

pub line-text : (j i : ℕ) (row : Row) (r : Bytes) → value_line (row_values (j, i) row) ++ r ≡ head_text j i row.p ++ (trail row.word ++ 10 ∷ r)
line-text j i row r =
    value_line-trail (suc j) (suc i ∷ row.p ∷ row.word) r
    ∙ ap (λ (xs : Bytes). decimal (suc j) ++ xs)
    (trail-cons (suc i) (row.p ∷ row.word) (10 ∷ r) ∙ ap (λ (xs : Bytes). 32 ∷ decimal (suc i) ++ xs) (trail-cons row.p row.word (10 ∷ r)))
    ∙ sym (head-text j i row.p (trail row.word ++ 10 ∷ r))

-- no line of the pair (j, i) stands at a position
pub record NoLine (t : Bytes) (at n j i : ℕ) : Type 0 where
  pub none : (row : Row) (r : Bytes) → row_formed n row ≡ true → drop at t ≡ value_line (row_values (j, i) row) ++ r → ⊥

ends-word : (word : List ℕ) (r : Bytes) → Ends (trail word ++ 10 ∷ r)
ends-word word r = ends-trail word (10 ∷ r) (λ d. omega (arith, d.0))

module _ {t : Bytes} {at j i : ℕ} (n : ℕ) where
  pub line-no-head : NoHead t at j i → NoLine t at n j i
  line-no-head h =
      record { none = λ row r f q. h.none row.p (trail row.word ++ 10 ∷ r) (formed-p n row f) (ends-word row.word r) (q ∙ line-text j i row r) }

  module _ {p next : ℕ} (h : HeadLine t at j i p next) where
    pub line-no-word : NoWord t next n → NoLine t at n j i
    line-no-word k = record {
      none = λ row r f q. k.none row.word r (formed-count n row f) (formed-small n row f)
          (head-known h row.p (trail row.word ++ 10 ∷ r) (ends-word row.word r) (q ∙ line-text j i row r)).1;
    }

    pub line-some : {kept : List ℕ} {behind : ℕ} (k : WordLine t next n kept behind)
        → drop at t ≡ value_line (row_values (j, i) (record { p = p; word = k.word })) ++ drop behind t
    line-some {kept} {behind} k =
        h.text ∙ ap (λ (xs : Bytes). head_text j i p ++ xs) k.text ∙ sym (line-text j i (record { p = p; word = k.word }) (drop behind t))

-- ---- Lines one behind the other

flat_map-one : (lines : List (List ℕ)) (row : List ℕ) → flat_map value_line (lines ++ (row ∷ [])) ≡ flat_map value_line lines ++ value_line row
flat_map-one [] row =
    flat_map-cons value_line row [] ∙ ap (λ (xs : Bytes). value_line row ++ xs) (flat_map-nil value_line) ∙ append-nil (value_line row)
    ∙ ap (λ (xs : Bytes). xs ++ value_line row) (sym (flat_map-nil value_line))
flat_map-one (x ∷ xs) row =
    flat_map-cons value_line x (xs ++ (row ∷ []))
    ∙ ap (λ (ys : Bytes). value_line x ++ ys) (flat_map-one xs row)
    ∙ sym (append_assoc (value_line x) (flat_map value_line xs) (value_line row))
    ∙ ap (λ (ys : Bytes). ys ++ value_line row) (sym (flat_map-cons value_line x xs))

zip-one : (ps : List (ℕ × ℕ)) (lines : List Row) (row : Row) → length lines < length ps
    → zip_with row_values ps (lines ++ (row ∷ [])) ≡ zip_with row_values ps lines ++ (row_values (get_or ps (length lines) (0, 0)) row ∷ [])
unfolding zip_with
zip-one [] lines row l = absurd (omega arith)
zip-one (q ∷ []) [] row l = refl
zip-one (q ∷ q' ∷ qs) [] row l = refl
zip-one (q ∷ qs) (r ∷ rs) row l = ap (λ (xs : List (List ℕ)). row_values q r ∷ xs) (zip-one qs rs row (le_of_suc-le-suc l))

pub row_text-nil : (n : ℕ) → row_text n [] ≡ []
unfolding row_text zip_with
row_text-nil n = ap (flat_map value_line) (none (pairs n)) ∙ flat_map-nil value_line
  where
    none : (ps : List (ℕ × ℕ)) → zip_with row_values ps [] ≡ []
    none [] = refl
    none (q ∷ qs) = refl

pub row_text-one : (n j i : ℕ) (lines : List Row) (row : Row) (r : Bytes) → length lines < length (pairs n) → get_or (pairs n) (length lines) (0, 0) ≡ (j, i)
    → row_text n (lines ++ (row ∷ [])) ++ r ≡ row_text n lines ++ (value_line (row_values (j, i) row) ++ r)
unfolding row_text
row_text-one n j i lines row r l q =
    ap (λ (xs : Bytes). xs ++ r)
    (ap (flat_map value_line) (zip-one (pairs n) lines row l) ∙ flat_map-one (zip_with row_values (pairs n) lines) (row_values (get_or (pairs n) (length lines) (0, 0)) row))
    ∙ append_assoc (row_text n lines) (value_line (row_values (get_or (pairs n) (length lines) (0, 0)) row)) r
    ∙ ap (λ (ji : ℕ × ℕ). row_text n lines ++ (value_line (row_values ji row) ++ r)) q

-- the line that follows the first lines
ahead : (ps : List (ℕ × ℕ)) (lines lines' : List Row) (r : Bytes) → length lines < length lines' → length lines' ≤ length ps
    → flat_map value_line (zip_with row_values ps lines) ++ r ≡ flat_map value_line (zip_with row_values ps lines')
    → (s : Bytes) × (r ≡ value_line (row_values (get_or ps (length lines) (0, 0)) (get_or lines' (length lines) no_row)) ++ s)
unfolding zip_with
ahead [] lines [] r l m q = absurd (omega arith)
ahead [] lines (x ∷ xs) r l m q = absurd (omega arith)
ahead (p ∷ ps) lines [] r l m q = absurd (omega arith)
ahead (p ∷ ps) [] (x ∷ xs) r l m q =
    (flat_map value_line (zip_with row_values ps xs), ap (λ (ys : Bytes). ys ++ r) (sym (flat_map-nil value_line)) ∙ q ∙ flat_map-cons value_line (row_values p x) (zip_with row_values ps xs))
ahead (p ∷ ps) (y ∷ ys) (x ∷ xs) r l m q =
    let t = value_line-unique (row_values p y) (row_values p x) (flat_map value_line (zip_with row_values ps ys) ++ r) (flat_map value_line (zip_with row_values ps xs))
    (sym (append_assoc (value_line (row_values p y)) (flat_map value_line (zip_with row_values ps ys)) r)
    ∙ ap (λ (zs : Bytes). zs ++ r) (sym (flat_map-cons value_line (row_values p y) (zip_with row_values ps ys)))
    ∙ q
    ∙ flat_map-cons value_line (row_values p x) (zip_with row_values ps xs)) in
    ahead ps ys xs r (le_of_suc-le-suc l) (le_of_suc-le-suc m) t.1

pub lines-ahead : (n j i : ℕ) (lines lines' : List Row) (r : Bytes) → length lines < length lines' → length lines' ≡ length (pairs n)
    → get_or (pairs n) (length lines) (0, 0) ≡ (j, i) → row_text n lines ++ r ≡ row_text n lines'
    → (s : Bytes) × (r ≡ value_line (row_values (j, i) (get_or lines' (length lines) no_row)) ++ s)
unfolding row_text
lines-ahead n j i lines lines' r l m e q =
    let t = ahead (pairs n) lines lines' r l (omega arith) q in
    (t.0, t.1 ∙ ap (λ (ji : ℕ × ℕ). value_line (row_values ji (get_or lines' (length lines) no_row)) ++ t.0) e)

whole : (ps : List (ℕ × ℕ)) (lines lines' : List Row) (r : Bytes) → length lines ≡ length lines'
    → flat_map value_line (zip_with row_values ps lines) ++ r ≡ flat_map value_line (zip_with row_values ps lines') → r ≡ []
unfolding zip_with
whole [] lines lines' r l q = ap (λ (ys : Bytes). ys ++ r) (sym (flat_map-nil value_line)) ∙ q ∙ flat_map-nil value_line
whole (p ∷ ps) [] [] r l q = ap (λ (ys : Bytes). ys ++ r) (sym (flat_map-nil value_line)) ∙ q ∙ flat_map-nil value_line
whole (p ∷ ps) [] (x ∷ xs) r l q = absurd (omega (arith, l))
whole (p ∷ ps) (y ∷ ys) [] r l q = absurd (omega (arith, l))
whole (p ∷ ps) (y ∷ ys) (x ∷ xs) r l q =
    whole ps ys xs r (suc_inj l)
    (value_line-unique (row_values p y) (row_values p x) (flat_map value_line (zip_with row_values ps ys) ++ r) (flat_map value_line (zip_with row_values ps xs))
    (sym (append_assoc (value_line (row_values p y)) (flat_map value_line (zip_with row_values ps ys)) r)
    ∙ ap (λ (zs : Bytes). zs ++ r) (sym (flat_map-cons value_line (row_values p y) (zip_with row_values ps ys)))
    ∙ q
    ∙ flat_map-cons value_line (row_values p x) (zip_with row_values ps xs))).1

pub lines-whole : (n : ℕ) (lines lines' : List Row) (r : Bytes) → length lines ≡ length lines' → row_text n lines ++ r ≡ row_text n lines' → r ≡ []
unfolding row_text
lines-whole n lines lines' r l q = whole (pairs n) lines lines' r l q
