-- Laws of reading all lines of values.
--
--   kept-rows-length, kept-ps-length, stored_one     what is kept of one line more
--   passes-prime, passes-composite     what the test of a p says
--   Reading                     k lines have been read, and the next is that of (j, i)
--   reading-none, reading-more  none; one more
--   reading-below, reading-no-line, reading-over      a line is wanted; it is none; more stands behind the last
--   reading-end, reading-refused, reading-longer     every line has been read; a line was refused; the text goes on
use Rattle.std.specs.Prelude.{Some, None}
use mathlib.Core.Path.{◌≡◌, refl, sym, ap, subst, ◌∙◌}
use mathlib.Core.Logic.{◌≢◌, by_cases}
use mathlib.Core.Bool.{Bool, true, false, ◌&&◌, ◌||◌, not, true≢false}
use mathlib.Core.List.{List, [], ◌∷◌, ◌++◌, append-nil}
use Prim.Native.Nat.{ℕ, suc, ◌+◌, ◌<◌, ◌≤◌}
use native.Mathlib.Decide.{dec_lt, ℕ_discrete}
use native.Mathlib.Omega.{arith}
use lib.ListN.{length, get_or, set, drop, length-append, length-set, length-drop, drop_of_length-le}
use lib.Seq.{get_or-set_same, get_or-set_other}
use borrow.Author.Tests.{eq-eqb, ne_eqb}
use Rattle.definitions.specs.Lists.{sum, all}
use Rattle.definitions.specs.Text.{Bytes}
use Rattle.definitions.specs.Presentation.{max_generators, pair_count, Row, pairs, pair_number, is_prime}
use Rattle.definitions.proofs.Rendering.{row_formed}
use Rattle.numbers.proofs.Bools.{and_left, and_right}
use Rattle.numbers.proofs.Lists.{all_get_d}
use Rattle.numbers.proofs.Sums.{sum-zero}
use Rattle.group.proofs.Pairs.{length_pairs, pair_number-power, pair_number-commutator, pair_number-below}
use Rattle.text.proofs.Trail.{all_one}
use Rattle.reader.specs.Lines.{HeadLine, WordLine}
use Rattle.reader.specs.Rows.{no_row, row_text, passes, RowKept, RowsStored, AllLines, NoLines, LinesAt}
use Rattle.reader.proofs.Words.{get_or-snoc, get_or-snoc-other}
use Rattle.reader.proofs.Rows.{pairs-at, NoLine, line-some, row_text-nil, row_text-one, lines-ahead, lines-whole, formed-row}

-- ---- What is kept of a line

module _ {rows : List (List ℕ)} {ps : List ℕ} {k p : ℕ} {e : List ℕ} {rows' : List (List ℕ)} {ps' : List ℕ} (h : RowKept rows ps k p e rows' ps') where
  -- what holds of the rows as they were, and with one stored, holds of what is kept
  of-rows : (Q : List (List ℕ) → Type 0) → Q (set rows k e) → Q rows → Q rows'
  of-rows Q a b = by_cases (dec_lt k pair_count) (λ l. subst Q (sym (h.kept_word l)) a) (λ l. subst Q (sym (h.past_word (omega arith))) b)

  of-ps : (Q : List ℕ → Type 0) → Q (set ps k p) → Q ps → Q ps'
  of-ps Q a b = by_cases (dec_lt k pair_count) (λ l. subst Q (sym (h.kept_p l)) a) (λ l. subst Q (sym (h.past_p (omega arith))) b)

  pub kept-rows-length : length rows' ≡ length rows
  kept-rows-length = of-rows (λ w. length w ≡ length rows) (length-set rows k e) refl

  pub kept-ps-length : length ps' ≡ length ps
  kept-ps-length = of-ps (λ w. length w ≡ length ps) (length-set ps k p) refl

  word-other : (m : ℕ) → m ≢ k → get_or rows' m [] ≡ get_or rows m []
  word-other m n = of-rows (λ w. get_or w m [] ≡ get_or rows m []) (get_or-set_other rows k m e [] n) refl

  p-other : (m : ℕ) → m ≢ k → get_or ps' m 0 ≡ get_or ps m 0
  p-other m n = of-ps (λ w. get_or w m 0 ≡ get_or ps m 0) (get_or-set_other ps k m p 0 n) refl

  pub stored_one : (lines : List Row) (row : Row) → length lines ≡ k → length rows ≡ pair_count → length ps ≡ pair_count → p ≡ row.p
      → ((c : ℕ) → c < max_generators → get_or e c 0 ≡ get_or row.word c 0) → RowsStored lines rows ps → RowsStored (lines ++ (row ∷ [])) rows' ps'
  stored_one lines row count a b same keeps s =
      record {
        word_kept = λ m l d c g. word m l d c g (ℕ_discrete m k);
        p_kept = λ m l d. value m l d (ℕ_discrete m k);
      }
    where
      below : (m : ℕ) → m < length (lines ++ (row ∷ [])) → m ≢ k → m < length lines
      below m l n = omega (arith, length-append lines (row ∷ []))

      word : (m : ℕ) → m < length (lines ++ (row ∷ [])) → m < pair_count → (c : ℕ) → c < max_generators → Dec (m ≡ k)
          → get_or (get_or rows' m []) c 0 ≡ get_or (get_or (lines ++ (row ∷ [])) m no_row).word c 0
      word m l d c g (yes q) =
          let u : get_or rows' m [] ≡ e =
          ap (λ (w : List (List ℕ)). get_or w m []) (h.kept_word (omega arith)) ∙ ap (λ (j : ℕ). get_or (set rows k e) j []) q ∙ get_or-set_same rows k e [] (omega arith) in
          ap (λ (xs : List ℕ). get_or xs c 0) u ∙ keeps c g ∙ ap (λ (r : Row). get_or r.word c 0) (sym (get_or-snoc lines row no_row m (count ∙ sym q)))
      word m l d c g (no q) =
          ap (λ (xs : List ℕ). get_or xs c 0) (word-other m q)
          ∙ s.word_kept m (below m l q) d c g
          ∙ ap (λ (r : Row). get_or r.word c 0) (sym (get_or-snoc-other lines row no_row m (λ w. q (w ∙ count))))

      value : (m : ℕ) → m < length (lines ++ (row ∷ [])) → m < pair_count → Dec (m ≡ k) → get_or ps' m 0 ≡ (get_or (lines ++ (row ∷ [])) m no_row).p
      value m l d (yes q) =
          let u : get_or ps' m 0 ≡ p =
          ap (λ (w : List ℕ). get_or w m 0) (h.kept_p (omega arith)) ∙ ap (λ (j : ℕ). get_or (set ps k p) j 0) q ∙ get_or-set_same ps k p 0 (omega arith) in
          u ∙ same ∙ ap (λ (r : Row). r.p) (sym (get_or-snoc lines row no_row m (count ∙ sym q)))
      value m l d (no q) =
          p-other m q ∙ s.p_kept m (below m l q) d ∙ ap (λ (r : Row). r.p) (sym (get_or-snoc-other lines row no_row m (λ w. q (w ∙ count))))

-- ---- The p of a line

pub passes-prime : (j i p : ℕ) → passes j i p ≡ true → i ≡ j → is_prime p ≡ true
passes-prime j i p h q = sym (ap (λ (b : Bool). not b || is_prime p) (eq-eqb i j q)) ∙ h

pub passes-composite : (j i p : ℕ) → passes j i p ≡ false → (i ≡ j) × (is_prime p ≡ false)
passes-composite j i p h = by_cases (ℕ_discrete i j)
    (λ q. (q, sym (ap (λ (b : Bool). not b || is_prime p) (eq-eqb i j q)) ∙ h))
    (λ q. absurd (true≢false (sym (ap (λ (b : Bool). not b || is_prime p) (ne_eqb i j q)) ∙ h)))

-- ---- Reading

pub record Reading (t : Bytes) (start n at j i k : ℕ) (rows : List (List ℕ)) (ps : List ℕ) (primes : Bool) : Type 0 where
  pub lines : List Row
  pub count : length lines ≡ k
  pub formed : all (row_formed n) lines ≡ true
  pub text : drop start t ≡ row_text n lines ++ drop at t
  pub number : pair_number j i ≡ k
  pub below : i ≤ j
  pub top : j ≤ n
  pub few : k ≤ sum n suc
  pub turns : k ≤ at
  pub within : at ≤ length t
  pub rows_length : length rows ≡ pair_count
  pub ps_length : length ps ≡ pair_count
  pub stored : RowsStored lines rows ps
  pub prime : primes ≡ true → (g : ℕ) → g < n → pair_number g g < k → is_prime (get_or lines (pair_number g g) no_row).p ≡ true
  pub composite : primes ≡ false → (g : ℕ) × (g < n) × (pair_number g g < k) × (is_prime (get_or lines (pair_number g g) no_row).p ≡ false)

all_nil : {A : Type 0} (q : A → Bool) → all q [] ≡ true
unfolding all
all_nil q = refl

number-least : (j i : ℕ) → i ≤ j → sum j suc ≤ pair_number j i
number-least j i l = by_cases (ℕ_discrete i j)
    (λ q. omega (arith, ap (pair_number j) q, pair_number-power j))
    (λ q. omega (arith, pair_number-commutator j i (omega arith)))

module _ {t : Bytes} {start n : ℕ} where
  pub reading-none : {rows : List (List ℕ)} {ps : List ℕ} → start ≤ length t → length rows ≡ pair_count → length ps ≡ pair_count
      → Reading t start n start 0 0 0 rows ps true
  reading-none l a b =
      record {
        lines = [];
        count = refl;
        formed = none;
        text = ap (λ (xs : Bytes). xs ++ drop start t) (sym (row_text-nil n));
        number = pair_number-power 0 ∙ sum-zero suc;
        below = omega arith;
        top = omega arith;
        few = omega arith;
        turns = omega arith;
        within = l;
        rows_length = a;
        ps_length = b;
        stored = record { word_kept = λ m x y c z. absurd (omega arith); p_kept = λ m x y. absurd (omega arith) };
        prime = λ q g x y. absurd (omega arith);
        composite = λ q. absurd (true≢false q);
      }
    where
      none : all (row_formed n) [] ≡ true
      none = all_nil (row_formed n)

  module _ {at j i k : ℕ} {rows : List (List ℕ)} {ps : List ℕ} {primes : Bool} (h : Reading t start n at j i k rows ps primes) where
    pub reading-below : j < n → k < sum n suc
    reading-below l = omega (arith, pair_number-below n j i h.below l, h.number)

    here : j < n → get_or (pairs n) (length h.lines) (0, 0) ≡ (j, i)
    here l = ap (λ (m : ℕ). get_or (pairs n) m (0, 0)) (h.count ∙ sym h.number) ∙ pairs-at n j i l h.below

    room : j < n → length h.lines < length (pairs n)
    room l = omega (arith, h.count, reading-below l, length_pairs n)

    pub reading-no-line : j < n → NoLine t at n j i → NoLines t start n
    reading-no-line l m = record {
      none = λ lines c f q.
          let a = lines-ahead n j i h.lines lines (drop at t) (omega (arith, room l)) c (here l) (sym h.text ∙ q) in
          m.none (get_or lines (length h.lines) no_row) a.0 (all_get_d (row_formed n) lines no_row f (length h.lines) (omega (arith, room l))) a.1;
    }

    -- all lines are read
    all_read : n ≤ j → k ≡ sum n suc
    all_read l =
        let q : j ≡ n = omega (arith, h.top) in
        omega (arith, h.number, h.few, number-least j i h.below, ap (λ (x : ℕ). sum x suc) q)

    -- the lines are read, and more stands behind them
    pub reading-over : n ≤ j → at < length t → NoLines t start n
    reading-over l m = record {
      none = λ lines c f q.
          let e : length h.lines ≡ length lines = omega (arith, h.count, all_read l, length_pairs n) in
          omega (arith, length-drop at t, ap length (lines-whole n h.lines lines (drop at t) e (sym h.text ∙ q)));
    }

    -- one more line
    module _ (l : j < n) {p behind : ℕ} (hd : HeadLine t at j i p behind) {e : List ℕ} {next : ℕ} (wd : WordLine t behind n e next)
        {rows' : List (List ℕ)} {ps' : List ℕ} (kp : RowKept rows ps k p e rows' ps') {primes' : Bool} (pq : primes' ≡ (primes && passes j i p))
        {j' i' : ℕ} (nx : (pair_number j' i' ≡ pair_number j i + 1) × (i' ≤ j') × (j' ≤ j + 1)) where
      row : Row
      row = record { p = p; word = wd.word }

      lines' : List Row
      lines' = h.lines ++ (row ∷ [])

      row_here : get_or lines' k no_row ≡ row
      unfolding row lines'
      row_here = get_or-snoc h.lines row no_row k h.count

      row_other : (m : ℕ) → m ≢ k → get_or lines' m no_row ≡ get_or h.lines m no_row
      unfolding row lines'
      row_other m q = get_or-snoc-other h.lines row no_row m (λ w. q (w ∙ h.count))

      -- the pair with number k is (j, i)
      diagonal : (g : ℕ) → g < n → pair_number g g ≡ k → (g ≡ j) × (g ≡ i)
      diagonal g b q =
          let w : ◌≡◌ {A = ℕ × ℕ} (g, g) (j, i) =
          sym (pairs-at n g g b (omega arith)) ∙ ap (λ (m : ℕ). get_or (pairs n) m (0, 0)) (q ∙ sym h.number) ∙ pairs-at n j i l h.below in
          (ap (λ (x : ℕ × ℕ). x.0) w, ap (λ (x : ℕ × ℕ). x.1) w)

      primes-more : primes' ≡ true → (g : ℕ) → g < n → pair_number g g < k + 1 → is_prime (get_or lines' (pair_number g g) no_row).p ≡ true
      unfolding row
      primes-more q g b c = by_cases (ℕ_discrete (pair_number g g) k)
          (λ w.
          ap (λ (m : ℕ). is_prime (get_or lines' m no_row).p) w ∙ ap (λ (r : Row). is_prime r.p) row_here
          ∙ passes-prime j i p (and_right primes (passes j i p) both) (sym (diagonal g b w).1 ∙ (diagonal g b w).0))
          (λ w. ap (λ (r : Row). is_prime r.p) (row_other (pair_number g g) w) ∙ h.prime (and_left primes (passes j i p) both) g b (omega arith))
        where
          both : (primes && passes j i p) ≡ true
          both = sym pq ∙ q

      composite-more : primes' ≡ false → (g : ℕ) × (g < n) × (pair_number g g < k + 1) × (is_prime (get_or lines' (pair_number g g) no_row).p ≡ false)
      unfolding row
      composite-more q = pick primes refl
        where
          pick : (b : Bool) → primes ≡ b → (g : ℕ) × (g < n) × (pair_number g g < k + 1) × (is_prime (get_or lines' (pair_number g g) no_row).p ≡ false)
          pick false w =
              let o = h.composite w in
              (o.0, o.1, omega (arith, o.2), ap (λ (r : Row). is_prime r.p) (row_other (pair_number o.0 o.0) (λ z. omega (arith, o.2))) ∙ o.3)
          pick true w =
              let z = passes-composite j i p (ap (λ (b : Bool). b && passes j i p) (sym w) ∙ sym pq ∙ q) in
              let m : pair_number j j ≡ k = ap (pair_number j) (sym z.0) ∙ h.number in
              (j, l, omega arith, ap (λ (x : ℕ). is_prime (get_or lines' x no_row).p) m ∙ ap (λ (r : Row). is_prime r.p) row_here ∙ z.1)

      pub reading-more : Reading t start n next j' i' (k + 1) rows' ps' primes'
      unfolding row lines'
      reading-more =
          record {
            lines = lines';
            count = length-append h.lines (row ∷ []) ∙ ap (λ (m : ℕ). m + 1) h.count;
            formed = all_one (row_formed n) h.lines row h.formed (formed-row n row wd.count hd.small wd.small_all);
            text =
                h.text
                ∙ ap (λ (xs : Bytes). row_text n h.lines ++ xs) (line-some n hd wd)
                ∙ sym (row_text-one n j i h.lines row (drop next t) (room l) (here l));
            number = nx.0 ∙ ap (λ (m : ℕ). m + 1) h.number;
            below = nx.1;
            top = omega (arith, nx.2);
            few = omega (arith, reading-below l);
            turns = omega (arith, h.turns, hd.further, wd.further);
            within = wd.within;
            rows_length = kept-rows-length kp ∙ h.rows_length;
            ps_length = kept-ps-length kp ∙ h.ps_length;
            stored = stored_one kp h.lines row h.count h.rows_length h.ps_length refl wd.keeps h.stored;
            prime = primes-more;
            composite = composite-more;
          }

    reading-whole : n ≤ j → at ≡ length t → AllLines t start n rows ps primes
    reading-whole l q =
        let e : k ≡ sum n suc = all_read l in
        record {
          lines = h.lines;
          count = h.count ∙ e ∙ sym (length_pairs n);
          formed = h.formed;
          text = h.text ∙ ap (λ (xs : Bytes). row_text n h.lines ++ xs) (drop_of_length-le t {i = at} (omega arith)) ∙ append-nil (row_text n h.lines);
          stored = h.stored;
          prime = λ w g b. h.prime w g b (omega (arith, pair_number-below n g g (omega arith) b));
          composite = λ w. let o = h.composite w in (o.0, o.1, o.3);
        }

    pub reading-end : n ≤ j → at ≡ length t → LinesAt t start n rows ps (Some primes)
    reading-end l q = record {
      stands = λ all w. let e : ◌≡◌ {A = Bool} primes all = cc in subst (AllLines t start n rows ps) e (reading-whole l q);
      fails = λ w. let z : ◌≡◌ {A = ℕ} 0 1 = cc in absurd (omega arith);
    }

    pub reading-refused : NoLines t start n → LinesAt t start n rows ps None
    reading-refused m = record { stands = λ all q. let z : ◌≡◌ {A = ℕ} 0 1 = cc in absurd (omega arith); fails = λ q. m }

    pub reading-longer : n ≤ j → ¬ (at ≡ length t) → LinesAt t start n rows ps None
    reading-longer l m = reading-refused (reading-over l (omega (arith, m, h.within)))
