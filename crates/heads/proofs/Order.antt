-- In a complete table the order of the lines tells where a representation begins.
--
--   split_one             the lines before a representation end at one place
--   complete-split        and that is its first line
--   complete-some         every level has representations
--   complete-room         its lines stand within the table
--   complete-word         the first of them says its degree
--   complete-next         and the next representation begins behind them
--   Last, complete-last, complete-end     the line before a level ends says how many representations it has
use mathlib.Core.Path.{◌≡◌, sym, ◌∙◌, ap, ap₂, subst}
use mathlib.Core.Logic.{by_cases}
use mathlib.Core.Bool.{Bool, true, false, ◌&&◌, ◌||◌, false≢true}
use mathlib.Core.List.{List}
use Prim.Native.Nat.{ℕ, zero, suc, ◌+◌, ◌*◌, ◌-◌, ◌≤◌, ◌<◌}
use native.Mathlib.Nat.{mul-pos, mul-le-mul_right}
use native.Mathlib.Omega.{arith}
use native.Mathlib.Decide.{dec_lt}
use lib.Dec.{eqb, ltb}
use lib.ListN.{length}
use borrow.Author.Tests.{eq-eqb, ne_eqb, lt-ltb, le-ltb}
use Rattle.definitions.specs.Monomial.{rep_of}
use Rattle.definitions.specs.Table.{LEVEL, REP, DEG, word_at, line_count, first_line, level_at, complete}
use Rattle.numbers.proofs.Bools.{or_left, or_right, and_intro}
use Rattle.heads.specs.Heads.{LineHead, first_from, base_of, Headed}
use Rattle.heads.specs.Order.{before, Split}
use Rattle.heads.proofs.Positions.{first-zero, first-suc, base-suc, position}
use Rattle.heads.proofs.Headed.{headed-count, headed-degree, headed-first}
use Rattle.heads.proofs.Complete.{complete-headed}

pub split_one : (T : List ℕ) (i r s x : ℕ) → Split T i r s → Split T i r x → x ≡ s
split_one T i r s x S X = go (dec_lt x s) (dec_lt s x)
  where
    go : Dec (x < s) → Dec (s < x) → x ≡ s
    go (yes a) b = absurd (false≢true (sym (X.high x (omega arith) (omega (arith, S.inside))) ∙ S.low x a))
    go (no a) (yes b) = absurd (false≢true (sym (S.high s (omega arith) (omega (arith, X.inside))) ∙ X.low s b))
    go (no a) (no b) = omega arith

-- the line before line e is of the last of so many representations
pub record Last (T : List ℕ) (e reps : ℕ) : Type 0 where
  pub some : 0 < e
  pub inside : e ≤ line_count T
  pub count : word_at T (e - 1) REP + 1 ≡ reps

-- ---- Tests

module _ (T : List ℕ) (i r l : ℕ) where
  abbrev earlier : Bool
  earlier = ltb (word_at T l LEVEL) i

  abbrev within : Bool
  within = eqb (word_at T l LEVEL) i && ltb (word_at T l REP) r

  before-level : word_at T l LEVEL < i → before T i r l ≡ true
  unfolding before
  before-level h = or_left earlier within (lt-ltb (word_at T l LEVEL) i h)

  before-rep : word_at T l LEVEL ≡ i → word_at T l REP < r → before T i r l ≡ true
  unfolding before
  before-rep a b = or_right earlier within (and_intro (eqb (word_at T l LEVEL) i) _ (eq-eqb _ _ a) (lt-ltb (word_at T l REP) r b))

  behind-level : i < word_at T l LEVEL → before T i r l ≡ false
  unfolding before
  behind-level h = ap₂ (◌||◌) (le-ltb (word_at T l LEVEL) i (omega arith))
      (ap (λ b. b && ltb (word_at T l REP) r) (ne_eqb (word_at T l LEVEL) i (λ e. omega (arith, e))))

  behind-rep : word_at T l LEVEL ≡ i → r ≤ word_at T l REP → before T i r l ≡ false
  unfolding before
  behind-rep a b = ap₂ (◌||◌) (le-ltb (word_at T l LEVEL) i (omega (arith, a))) (ap₂ (◌&&◌) (eq-eqb (word_at T l LEVEL) i a) (le-ltb (word_at T l REP) r b))

-- ---- Lines by level and representation

module _ (n : ℕ) (positive : 0 < n) (T : List ℕ) (H : Headed n T) where
  abbrev base : ℕ → ℕ
  base = base_of n T H.count

  abbrev at : ℕ → ℕ → ℕ
  at k r = first_from n T (base_of n T H.count k) r

  abbrev deg : ℕ → ℕ → ℕ
  deg k r = word_at T (at k r) DEG

  first-rises : (k q r : ℕ) → q ≤ r → at k q ≤ at k r
  first-rises k q zero l = let e : q ≡ zero = omega arith in omega (arith, ap (at k) e)
  first-rises k q (suc r) l = by_cases (dec_lt q (suc r))
      (λ h. omega (arith, first-rises k q r (omega arith), first-suc n T (base k) r))
      (λ h. let e : q ≡ suc r = omega arith in omega (arith, ap (at k) e))

  base-rises : (j k : ℕ) → j ≤ k → base j ≤ base k
  base-rises j zero l = let e : j ≡ zero = omega arith in omega (arith, ap base e)
  base-rises j (suc k) l = by_cases (dec_lt j (suc k))
      (λ h. omega (arith, base-rises j k (omega arith), base-suc n T H.count k, first-rises k 0 (H.count k) (omega arith), first-zero n T (base k)))
      (λ h. let e : j ≡ suc k = omega arith in omega (arith, ap base e))

  -- a line in representation q of level suc j
  record In (l j q : ℕ) : Type 0 where
    j_below : j < n
    q_below : q < H.count j
    from : at j q ≤ l
    to : l < at j (suc q)
    level : word_at T l LEVEL ≡ suc j
    rep : word_at T l REP ≡ q

  line-in : (l : ℕ) → l < line_count T → (j : ℕ) × (q : ℕ) × In l j q
  line-in l h =
      let p = position n T H l h in
      let d : ℕ = deg p.k p.r in
      let head = subst (λ l. LineHead T l (suc p.k) p.r d p.g p.c) p.is
      ((H.heads p.k p.r p.k_below p.r_below).head p.g p.c p.g_below p.c_below) in
      let m : suc p.g * d ≤ n * d = mul-le-mul_right d p.g_below in (
        p.k,
        p.r,
        record {
          j_below = p.k_below;
          q_below = p.r_below;
          from = omega (arith, p.is);
          to = omega (arith, p.is, p.c_below, m, first-suc n T (base p.k) p.r);
          level = head.level;
          rep = head.rep;
        },
      )

  -- a representation of an earlier level ends before level suc k begins
  ends-before : (j q k : ℕ) → j < k → q < H.count j → at j (suc q) ≤ base k
  ends-before j q k a b = omega (arith, first-rises j (suc q) (H.count j) b, base-suc n T H.count j, base-rises (suc j) k a)

  begins-behind : (k r : ℕ) → base k ≤ at k r
  begins-behind k r = omega (arith, first-rises k 0 r (omega arith), first-zero n T (base k))

  module _ (k r : ℕ) (k_below : k < n) (r_below : r < H.count k) where
    low : (l j q : ℕ) → l < at k r → In l j q → Dec (j < k) → Dec (k < j) → before T (suc k) r l ≡ true
    low l j q h I (yes a) b = before-level T (suc k) r l (omega (arith, I.level))
    low l j q h I (no a) (yes b) = absurd (omega (arith, I.from, ends-before k r j b r_below, begins-behind j q, first-suc n T (base k) r))
    low l j q h I (no a) (no b) =
        let e : j ≡ k = omega arith in
        let f : at k q ≤ l = subst (λ j. at j q ≤ l) e I.from in
        before-rep T (suc k) r l (omega (arith, I.level))
        (by_cases (dec_lt q r) (λ c. omega (arith, I.rep)) (λ c. absurd (omega (arith, f, first-rises k r q (omega arith)))))

    high : (l j q : ℕ) → at k r ≤ l → In l j q → Dec (j < k) → Dec (k < j) → before T (suc k) r l ≡ false
    high l j q h I (yes a) b = absurd (omega (arith, I.to, ends-before j q k a I.q_below, begins-behind k r))
    high l j q h I (no a) (yes b) = behind-level T (suc k) r l (omega (arith, I.level))
    high l j q h I (no a) (no b) =
        let e : j ≡ k = omega arith in
        let f : l < at k (suc q) = subst (λ j. l < at j (suc q)) e I.to in
        behind-rep T (suc k) r l (omega (arith, I.level))
        (by_cases (dec_lt q r) (λ c. absurd (omega (arith, f, first-rises k (suc q) r c))) (λ c. omega (arith, I.rep)))

    headed-split : Split T (suc k) r (at k r)
    headed-split = record {
      inside = omega (arith, (H.heads k r k_below r_below).inside);
      low = λ l h.
          let (j, q, I) = line-in l (omega (arith, (H.heads k r k_below r_below).inside)) in
          low l j q h I (dec_lt j k) (dec_lt k j);
      high = λ l h b. let (j, q, I) = line-in l b in high l j q h I (dec_lt j k) (dec_lt k j);
    }

  headed-last : (k : ℕ) → k < n → Last T (base_of n T H.count (suc k)) (H.count k)
  headed-last k l =
      let some = H.some k l in
      let r : ℕ = H.count k - 1 in
      let K = H.heads k r l (omega arith) in
      let d : ℕ = deg k r in
      let m : 0 < n * d = mul-pos positive K.positive in
      let s : suc r ≡ H.count k = omega arith in
      let e : base (suc k) ≡ at k r + n * d = base-suc n T H.count k ∙ ap (at k) (sym s) ∙ first-suc n T (base k) r in
      let g : suc (n - 1) * d ≡ n * d = ap (λ z. z * d) (let x : suc (n - 1) ≡ n = omega arith in x) in
      let p = K.positive in
      let line : at k r + (n - 1) * d + (d - 1) ≡ base (suc k) - 1 = omega (arith, e, g, p) in
      let head = K.head (n - 1) (d - 1) (omega arith) (omega (arith, p)) in
      record {
        some = omega (arith, e, m);
        inside = omega (arith, e, K.inside);
        count = ap (λ z. z + 1) (ap (λ l. word_at T l REP) (sym line) ∙ head.rep) ∙ omega arith;
      }

-- ---- In a complete table

module _ (n : ℕ) (positive : 0 < n) (T : List ℕ) (C : complete n T ≡ true) where
  abbrev H : Headed n T
  H = complete-headed n positive T C

  pub complete-some : (k : ℕ) → k < n → 0 < length (level_at n T (suc k))
  complete-some k l = subst (λ z. 0 < z) (sym (headed-count n positive T H k l)) (H.some k l)

  module _ (k r : ℕ) (k_below : k < n) (r_below : r < length (level_at n T (suc k))) where
    listed : r < H.count k
    listed = subst (λ z. r < z) (headed-count n positive T H k k_below) r_below

    first-is : first_line n T (suc k) r ≡ first_from n T (base_of n T H.count k) r
    first-is = headed-first n positive T H k r k_below (omega (arith, listed))

    pub complete-split : Split T (suc k) r (first_line n T (suc k) r)
    complete-split = subst (Split T (suc k) r) (sym first-is) (headed-split n positive T H k r k_below listed)

    pub complete-word : word_at T (first_line n T (suc k) r) DEG ≡ (rep_of (level_at n T (suc k)) r).deg
    complete-word = ap (λ l. word_at T l DEG) first-is ∙ sym (headed-degree n positive T H k r k_below listed)

    pub complete-room : first_line n T (suc k) r + n * (rep_of (level_at n T (suc k)) r).deg ≤ line_count T
    complete-room =
        subst (λ d. first_line n T (suc k) r + n * d ≤ line_count T) (sym (headed-degree n positive T H k r k_below listed))
        (subst (λ l. l + n * word_at T (first_from n T (base_of n T H.count k) r) DEG ≤ line_count T) (sym first-is) (H.heads k r k_below listed).inside)

    pub complete-next : first_line n T (suc k) (suc r) ≡ first_line n T (suc k) r + n * (rep_of (level_at n T (suc k)) r).deg
    complete-next =
        headed-first n positive T H k (suc r) k_below listed ∙ first-suc n T (base_of n T H.count k) r
        ∙ ap₂ (λ l d. l + n * d) (sym first-is) (sym (headed-degree n positive T H k r k_below listed))

  last_of : (k e : ℕ) → k < n → e ≡ base_of n T H.count (suc k) → Last T e (length (level_at n T (suc k)))
  last_of k e l is = subst (Last T e) (sym (headed-count n positive T H k l)) (subst (λ e. Last T e (H.count k)) (sym is) (headed-last n positive T H k l))

  -- where the next level begins
  pub complete-last : (k e : ℕ) → suc k < n → Split T (suc (suc k)) 0 e → Last T e (length (level_at n T (suc k)))
  complete-last k e l S =
      let S' = headed-split n positive T H (suc k) 0 l (H.some (suc k) l) in
      last_of k e (omega arith) (split_one T (suc (suc k)) 0 _ e S' S ∙ first-zero n T (base_of n T H.count (suc k)))

  -- where the table ends
  pub complete-end : (k : ℕ) → suc k ≡ n → Last T (line_count T) (length (level_at n T (suc k)))
  complete-end k e = last_of k (line_count T) (omega arith) (sym H.ends ∙ ap (base_of n T H.count) (sym e))
