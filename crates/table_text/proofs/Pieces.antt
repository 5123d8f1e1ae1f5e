-- Table text is its names line and its words one by one, each with its separator.
--
--   separator-last, separator-inner, separator-within    the byte behind a word
--   pieces-nil, pieces-cons, pieces-append, pieces-single, pieces-one   the clauses; two runs; one word, and one more
--   Ahead, pieces-ahead      words that stand before others are the first of them
--   Eights, rows-pieces, table-pieces, table_text-pieces  the same text by rows of eight and by words
--   names, names-line        the bytes of the names line
--   newlines-nil, newlines-cons, newlines-table     how many bytes 10 a table text has
use mathlib.Core.Path.{◌≡◌, refl, sym, ap, ap₂, subst, ◌∙◌}
use mathlib.Core.Logic.{◌≢◌, by_cases}
use mathlib.Core.Bool.{cond}
use mathlib.Core.List.{List, [], ◌∷◌, ◌++◌, map, flat_map, map-append, append_assoc, tail-eq_of_cons-eq}
use Prim.Native.Nat.{ℕ, zero, suc, ◌+◌, ◌*◌, ◌/◌, ◌%◌, ◌<◌, ◌≤◌}
use native.Mathlib.Nat.{add-zero}
use native.Mathlib.Decide.{ℕ_discrete}
use native.Mathlib.Omega.{arith}
use lib.ListN.{length, take, drop, length-append, length-take, length-drop, length-map}
use lib.Dec.{eqb}
use Rattle.definitions.specs.Lists.{upto}
use Rattle.definitions.specs.Text.{Bytes, decimal, spaced, line, value_line, render}
use Rattle.definitions.specs.Presentation.{line_words}
use Rattle.definitions.specs.Table.{line_count, table_names, rows_of, table_text}
use Rattle.definitions.specs.Answers.{newlines}
use Rattle.definitions.proofs.Rendering.{Each, Plain, Fields, field-each, decimal-fields, decimal_nonempty, line-nil, line-cons, flat_map-cons, flat_map-nil}
use Rattle.definitions.proofs.Unique.{join, words-of-rows}
use Rattle.numbers.proofs.Bools.{cond-eq, cond-ne}
use Rattle.numbers.proofs.Lists.{length-upto}
use Rattle.text.proofs.Reading.{value-unique}
use Rattle.table_text.specs.Pieces.{separator_of, pieces}

-- ---- Separators

pub separator-last : (k : ℕ) → k % 8 ≡ 7 → separator_of k ≡ 10
unfolding separator_of
separator-last k q = cond-eq (k % 8) 7 10 32 q

pub separator-inner : (k : ℕ) → k % 8 ≢ 7 → separator_of k ≡ 32
unfolding separator_of
separator-inner k q = cond-ne (k % 8) 7 10 32 q

pub separator-within : (k : ℕ) → (0 < separator_of k) × (separator_of k < 48)
separator-within k = by_cases (ℕ_discrete (k % 8) 7)
    (λ q. let e = separator-last k q in (omega arith, omega arith))
    (λ q. let e = separator-inner k q in (omega arith, omega arith))

-- ---- Words one by one

pub pieces-nil : (i : ℕ) → pieces i [] ≡ []
unfolding pieces
pieces-nil i = refl

pub pieces-cons : (i v : ℕ) (vs : List ℕ) → pieces i (v ∷ vs) ≡ decimal v ++ separator_of i ∷ pieces (suc i) vs
unfolding pieces
pieces-cons i v vs = refl

pub pieces-append : (i : ℕ) (xs ys : List ℕ) → pieces i (xs ++ ys) ≡ pieces i xs ++ pieces (i + length xs) ys
pieces-append i [] ys = ap (λ (k : ℕ). pieces k ys) (sym (add-zero i)) ∙ ap (λ (zs : Bytes). zs ++ pieces (i + 0) ys) (sym (pieces-nil i))
pieces-append i (x ∷ xs) ys =
    let e : suc i + length xs ≡ i + suc (length xs) = omega arith in
    pieces-cons i x (xs ++ ys)
    ∙ ap (λ (zs : Bytes). decimal x ++ separator_of i ∷ zs) (pieces-append (suc i) xs ys ∙ ap (λ (k : ℕ). pieces (suc i) xs ++ pieces k ys) e)
    ∙ sym (append_assoc (decimal x) (separator_of i ∷ pieces (suc i) xs) (pieces (i + suc (length xs)) ys))
    ∙ ap (λ (zs : Bytes). zs ++ pieces (i + suc (length xs)) ys) (sym (pieces-cons i x xs))

pub pieces-single : (i v : ℕ) → pieces i (v ∷ []) ≡ decimal v ++ (separator_of i ∷ [])
pieces-single i v = pieces-cons i v [] ∙ ap (λ (zs : Bytes). decimal v ++ separator_of i ∷ zs) (pieces-nil (suc i))

pub pieces-one : (vs : List ℕ) (v : ℕ) → pieces 0 (vs ++ (v ∷ [])) ≡ pieces 0 vs ++ (decimal v ++ (separator_of (length vs) ∷ []))
pieces-one vs v =
    let e : 0 + length vs ≡ length vs = omega arith in
    pieces-append 0 vs (v ∷ []) ∙ ap (λ (k : ℕ). pieces 0 vs ++ pieces k (v ∷ [])) e ∙ ap (λ (zs : Bytes). pieces 0 vs ++ zs) (pieces-single (length vs) v)

-- the words that stand behind the first
pub record Ahead (i : ℕ) (W T : List ℕ) (r : Bytes) : Type 0 where
  pub others : List ℕ
  pub all_words : T ≡ W ++ others
  pub text : r ≡ pieces (i + length W) others

pub pieces-ahead : (i : ℕ) (W T : List ℕ) (r : Bytes) → pieces i W ++ r ≡ pieces i T → Ahead i W T r
pieces-ahead i [] T r q =
    record { others = T; all_words = refl; text = ap (λ (zs : Bytes). zs ++ r) (sym (pieces-nil i)) ∙ q ∙ ap (λ (k : ℕ). pieces k T) (sym (add-zero i)) }
pieces-ahead i (w ∷ W) [] r q = absurd (omega (arith, decimal_nonempty w, long))
  where
    long : length (decimal w) ≤ 0
    long = omega (arith, simp length-append at (ap length (ap (λ (zs : Bytes). zs ++ r) (sym (pieces-cons i w W)) ∙ q ∙ pieces-nil i)))
pieces-ahead i (w ∷ W) (v ∷ T) r q =
    let u = value-unique w v (separator_of i ∷ (pieces (suc i) W ++ r)) (separator_of i ∷ pieces (suc i) T) ends ends
    (sym (append_assoc (decimal w) (separator_of i ∷ pieces (suc i) W) r) ∙ ap (λ (zs : Bytes). zs ++ r) (sym (pieces-cons i w W)) ∙ q ∙ pieces-cons i v T) in
    let a = pieces-ahead (suc i) W T r (tail-eq_of_cons-eq u.1) in
    let e : suc i + length W ≡ i + suc (length W) = omega arith in
    record {
      others = a.others;
      all_words = ap₂ (λ (z : ℕ) (zs : List ℕ). z ∷ zs) (sym u.0) a.all_words;
      text = a.text ∙ ap (λ (k : ℕ). pieces k a.others) e;
    }
  where
    ends : (48 ≤ separator_of i) × (separator_of i < 58) → ⊥
    ends d = omega (arith, (separator-within i).1)

-- ---- By rows and by words

abbrev pub Eights : List (List ℕ) → Type 0
Eights [] = Unit {0}
Eights (r ∷ rs) = (length r ≡ 8) × Eights rs

-- the rest of a line, from word i on
row-pieces : (i v : ℕ) (vs : List ℕ) → i % 8 + suc (length vs) ≡ 8 → pieces i (v ∷ vs) ≡ value_line (v ∷ vs)
unfolding value_line line spaced
row-pieces i v [] q = pieces-single i v ∙ ap (λ (b : ℕ). decimal v ++ (b ∷ [])) (separator-last i (omega arith))
row-pieces i v (w ∷ ws) q =
    pieces-cons i v (w ∷ ws)
    ∙ ap₂ (λ (b : ℕ) (zs : Bytes). decimal v ++ b ∷ zs) (separator-inner i (λ e. omega arith)) (row-pieces (suc i) w ws (omega arith))
    ∙ sym (append_assoc (decimal v) (32 ∷ spaced (map decimal (w ∷ ws))) (10 ∷ []))

pub rows-pieces : (rows : List (List ℕ)) (i : ℕ) → i % 8 ≡ 0 → Eights rows → flat_map value_line rows ≡ pieces i (join rows)
unfolding join
rows-pieces [] i q h = flat_map-nil value_line ∙ sym (pieces-nil i)
rows-pieces ([] ∷ rows) i q h = absurd (omega (arith, h.0))
rows-pieces ((v ∷ vs) ∷ rows) i q h =
    flat_map-cons value_line (v ∷ vs) rows
    ∙ ap₂ (λ (xs ys : Bytes). xs ++ ys) (sym (row-pieces i v vs (omega (arith, h.0)))) (rows-pieces rows (i + suc (length vs)) (omega (arith, h.0)) h.1)
    ∙ sym (pieces-append i (v ∷ vs) (join rows))

eights-append : (xs ys : List (List ℕ)) → Eights xs → Eights ys → Eights (xs ++ ys)
eights-append [] ys h k = k
eights-append (x ∷ xs) ys h k = (h.0, eights-append xs ys h.1 k)

eights-upto : (f : ℕ → List ℕ) (n : ℕ) → ((l : ℕ) → l < n → length (f l) ≡ 8) → Eights (map f (upto n))
unfolding upto
eights-upto f zero h = tt
eights-upto f (suc n) h =
    subst Eights (sym (map-append f (upto n) (n ∷ []))) (eights-append (map f (upto n)) (f n ∷ []) (eights-upto f n (λ l b. h l (omega arith))) (h n (omega arith), tt))

rows_of-eights : (T : List ℕ) → Eights (rows_of T)
unfolding rows_of line_count line_words
rows_of-eights T = eights-upto (λ l. take 8 (drop (8 * l) T)) (length T / 8) (λ l b. simp (length-take, length-drop) (omega arith))

pub table-pieces : (T : List ℕ) → length T % line_words ≡ 0 → flat_map value_line (rows_of T) ≡ pieces 0 T
table-pieces T h = rows-pieces (rows_of T) 0 (omega arith) (rows_of-eights T) ∙ ap (pieces 0) (words-of-rows T h)

-- ---- The names line

abbrev pub names : Bytes
names =
    108 ∷ 101 ∷ 118 ∷ 101 ∷ 108 ∷ 32 ∷ 114 ∷ 101 ∷ 112 ∷ 32 ∷ 100 ∷ 101 ∷ 103 ∷ 32 ∷ 103 ∷ 101 ∷ 110
    ∷ 32 ∷ 114 ∷ 101 ∷ 102 ∷ 32 ∷ 99 ∷ 111 ∷ 108 ∷ 32 ∷ 114 ∷ 111 ∷ 119 ∷ 32 ∷ 101 ∷ 120 ∷ 112 ∷ 10 ∷ []

pub names-line : line table_names ≡ names
unfolding line spaced table_names
names-line = refl

pub table_text-pieces : (T : List ℕ) → length T % line_words ≡ 0 → table_text T ≡ names ++ pieces 0 T
unfolding table_text render
table_text-pieces T h = ap₂ (λ (xs ys : Bytes). xs ++ ys) names-line (table-pieces T h)

-- ---- Bytes 10

pub newlines-cons : (b : ℕ) (t : Bytes) → newlines (b ∷ t) ≡ cond (eqb b 10) 1 0 + newlines t
unfolding newlines
newlines-cons b t = refl

pub newlines-nil : newlines [] ≡ 0
unfolding newlines
newlines-nil = refl

-- a field has none
newlines-field : (x : Bytes) (r : Bytes) → Each Plain x → newlines (x ++ r) ≡ newlines r
newlines-field [] r h = refl
newlines-field (b ∷ bs) r h =
    newlines-cons b (bs ++ r) ∙ ap (λ (n : ℕ). n + newlines (bs ++ r)) (cond-ne b 10 1 0 h.0.1) ∙ omega (arith, newlines-field bs r h.1)

newlines-line : (xs : List Bytes) (r : Bytes) → Fields xs → newlines (line xs ++ r) ≡ suc (newlines r)
newlines-line [] r h = ap newlines (line-nil r) ∙ newlines-cons 10 r ∙ omega arith
newlines-line (x ∷ []) r h =
    ap newlines (line-cons x [] r) ∙ newlines-field x (10 ∷ r) (field-each x h.0) ∙ newlines-cons 10 r ∙ omega arith
newlines-line (x ∷ y ∷ ys) r h =
    ap newlines (line-cons x (y ∷ ys) r) ∙ newlines-field x (32 ∷ (line (y ∷ ys) ++ r)) (field-each x h.0)
    ∙ newlines-cons 32 (line (y ∷ ys) ++ r) ∙ omega (arith, newlines-line (y ∷ ys) r h.1)

newlines-rows : (rows : List (List ℕ)) → newlines (flat_map value_line rows) ≡ length rows
unfolding value_line
newlines-rows [] = ap newlines (flat_map-nil value_line) ∙ newlines-nil
newlines-rows (v ∷ rows) =
    ap newlines (flat_map-cons value_line v rows) ∙ newlines-line (map decimal v) (flat_map value_line rows) (decimal-fields v) ∙ ap suc (newlines-rows rows)

newlines-start : (r : Bytes) → newlines (names ++ r) ≡ suc (newlines r)
unfolding newlines
newlines-start r = omega arith

pub newlines-table : (T : List ℕ) → length T % line_words ≡ 0 → newlines (names ++ pieces 0 T) ≡ suc (length T / 8)
unfolding rows_of line_count line_words
newlines-table T h =
    newlines-start (pieces 0 T)
    ∙ ap suc (ap newlines (sym (table-pieces T h)) ∙ newlines-rows (rows_of T) ∙ length-map (upto (length T / 8)) (λ l. take 8 (drop (8 * l) T)) ∙ length-upto (length T / 8))
