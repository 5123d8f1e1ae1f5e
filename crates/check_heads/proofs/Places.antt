-- What the tests of a walk over heads say, and how it goes on.
--
--   counted                        how many lines there are, by a division
--   two-same                       two words that are one number
--   head-other, head-kind, head-last     the head of a line, by words that are told two by two
--   Columned, columned-none, columned-room, columned-more, columned-fails, columned-all     the lines of a column, one after the other
--   all-across, columns-are        tests in columns are tests in rows; all columns are all generators
--   column-room, first-other       the lines of a column are there; the first line has another number
--   single-is                      the line of a generator where the degree is 1
--   product-fits                   a product of two words
--   Sizes, size-told, size-last    what is asked of a size, and its last test
--   size_fits                      where a representation ends is a number of 64 bits
--   place-small, place-heads, place-room      a place by the size of its representation, and then by its heads
--   first-begins, other-begins     whether the line of a place begins the next level
--   place-stays, place-turns       the level of a place
--   Stepped                        a place that the walk has come to
--   stepped-none, stepped-more, stepped-inside, stepped-forth      the steps of the walk
--   opened-stepped                 the walk over representations of level 1 and degree 1
--   opened-none                    none of them
--   stepped-fails, stepped-short, stepped-all, uneven      how it ends
use mathlib.Core.Path.{◌≡◌, refl, sym, ◌∙◌, ap, ap₂, subst}
use mathlib.Core.Bool.{Bool, true, false, ◌&&◌, and-false, and-true, false≢true}
use mathlib.Core.List.{List}
use Prim.Native.Nat.{ℕ, zero, suc, ◌+◌, ◌*◌, ◌/◌, ◌%◌, ◌≤◌, ◌<◌}
use native.Mathlib.Nat.{mul-pos, mul-le-mul, mul-le-mul_right}
use native.Mathlib.Numerals.{add-one}
use native.Mathlib.Omega.{arith}
use lib.Dec.{eqb, leb, ltb}
use lib.ListN.{length}
use borrow.Author.Tests.{eqb-true, eq-eqb, ne_eqb, lt-ltb, ltb-true, le-leb, leb-true}
use Rattle.definitions.specs.Lists.{all_below}
use Rattle.definitions.specs.Presentation.{max_generators, line_words}
use Rattle.definitions.specs.Table.{LEVEL, REP, DEG, GEN, COL, word_at, line_count}
use Rattle.numbers.proofs.Bools.{and_left, and_right, and_intro, same_test, refuted}
use Rattle.numbers.proofs.Lists.{all_below-intro, all_below-elim}
use Rattle.numbers.proofs.Tested.{Tested, tested-none, tested-more, tested-all, tested-fails}
use Rattle.heads.specs.Walk.{head_is, matrix_heads, begins, next_level, next_rep, rep_heads, step_ok, walk_from, heads_ok}
use Rattle.heads.proofs.Walk.{head-is, is-head, Passing, begins-yes, begins-no, step_kept}
use Rattle.heads.proofs.Going.{Walking, going-none, going_more, going-fails, going-ends}
use Rattle.level.specs.declared.Listed.{Listed}
use Rattle.level.specs.Stored.{line_in, listed_in}
use Rattle.seek.specs.declared.Scope.{Scope}
use Rattle.seek.proofs.Halves.{lines-there}
use Rattle.check_heads.specs.declared.Place.{Place}
use Rattle.check_lines.specs.Lines.{TwoWords}
use Rattle.check_heads.specs.Places.{Scoped, HeadTold, column_heads, ColumnRoom, starts_level, turned_to, behind, InsideTable, size_ok, place_ok, Opened}

-- ---- Lines

pub counted : (s : Scope) (T : List ℕ) → s.lines ≡ length T / 8 → 0 < s.gens → s.gens ≤ max_generators → Scoped s T
unfolding line_count line_words
counted s T e a b = record { lines_are = e; some = a; few = b }

-- a number is one pair of words
two-same : (a b i k : ℕ) → a < 4294967296 → i < 4294967296 → a + b * 4294967296 ≡ i + k * 4294967296 → (a ≡ i) × (b ≡ k)
two-same a b i k l m e = (omega arith, omega arith)

module _ (T : List ℕ) (at place kind c : ℕ) where
  pub head-other : {x : ℕ} → TwoWords T at LEVEL x → ¬ (x ≡ place) → HeadTold T at place kind c false
  head-other w n = record {
    told = λ i k d g a b e f.
        refuted _ (λ h. let H = head-is T at i k d g c h in n (w.is ∙ ap₂ (λ a b. a + b * 4294967296) H.level H.rep ∙ sym e));
  }

  pub head-kind : {x : ℕ} → TwoWords T at DEG x → ¬ (x ≡ kind) → HeadTold T at place kind c false
  head-kind w n = record {
    told = λ i k d g a b e f.
        refuted _ (λ h. let H = head-is T at i k d g c h in n (w.is ∙ ap₂ (λ a b. a + b * 4294967296) H.deg H.gen ∙ sym f));
  }

  pub head-last : {x y v : ℕ} → TwoWords T at LEVEL x → x ≡ place → TwoWords T at DEG y → y ≡ kind → v ≡ word_at T at COL
      → HeadTold T at place kind c (eqb v c)
  head-last {x} {y} {v} w p z q col = record {
    told = λ i k d g a b e f.
        let (level, rep) = two-same (word_at T at LEVEL) (word_at T at REP) i k w.low a (sym w.is ∙ p ∙ e) in
        let (deg, gen) = two-same (word_at T at DEG) (word_at T at GEN) d (suc g) z.low b (sym z.is ∙ q ∙ f) in
        same_test (eqb v c) (head_is T at i k d g c)
        (λ h. is-head T at i k d g c (record { level = level; rep = rep; deg = deg; gen = gen; col = sym col ∙ eqb-true v c h }))
        (λ h. eq-eqb v c (col ∙ (head-is T at i k d g c h).col));
  }

-- ---- The lines of a column

-- the lines from line `first` on, in steps of d, are tested as far as line `at`, for the level and number that `place` says
pub record Columned (T : List ℕ) (place d c first at kind : ℕ) : Type 0 where
  pub met : ℕ
  pub there : at ≡ first + met * d
  pub said : kind ≡ d + met * 4294967296
  pub tested : (i k : ℕ) → i < 4294967296 → place ≡ i + k * 4294967296 → Tested (λ g. head_is T (first + g * d) i k d g c) met

module _ {T : List ℕ} {place d c first : ℕ} where
  pub columned-none : {at kind : ℕ} → at ≡ first → kind ≡ d → Columned T place d c first at kind
  columned-none a b = record { met = 0; there = omega arith; said = omega arith; tested = λ i k l e. tested-none }

  module _ {at kind : ℕ} (C : Columned T place d c first at kind) where
    pub columned-room : {n : ℕ} → ColumnRoom T first d n → kind < d + n * 4294967296 → 8 * at + 8 ≤ length T
    columned-room R l = omega (arith, C.there, R C.met (omega (arith, C.said)))

    module _ (small : d < 4294967296) {more : ℕ} {r : Bool} (head : HeadTold T at place more c r) (next : more ≡ kind + 4294967296) where
      head-met : (i k : ℕ) → i < 4294967296 → place ≡ i + k * 4294967296 → r ≡ head_is T (first + C.met * d) i k d C.met c
      head-met i k l e =
          head.told i k d C.met l small e (omega (arith, C.said)) ∙ ap (λ a. head_is T a i k d C.met c) C.there

      pub columned-more : r ≡ true → {at' : ℕ} → at' ≡ at + d → Columned T place d c first at' more
      columned-more h a = record {
        met = C.met + 1;
        there = omega (arith, C.there);
        said = omega (arith, C.said);
        tested = λ i k l e. tested-more (C.tested i k l e) (sym (head-met i k l e) ∙ h);
      }

      pub columned-fails : r ≡ false → (p : Place) → p.level < 4294967296 → place ≡ p.level + p.rep * 4294967296 → (n : ℕ) → kind < d + n * 4294967296
          → false ≡ column_heads T p first d c n
      columned-fails h p l e n m =
          tested-fails (C.tested p.level p.rep l e) {n = n} (omega (arith, C.said)) (sym (head-met p.level p.rep l e) ∙ h)

    pub columned-all : (p : Place) → p.level < 4294967296 → place ≡ p.level + p.rep * 4294967296 → (n : ℕ) → d + n * 4294967296 ≤ kind
        → true ≡ column_heads T p first d c n
    columned-all p l e n m = tested-all (C.tested p.level p.rep l e) {n = n} (omega (arith, C.said))

all-across : (n d : ℕ) (f g : ℕ → ℕ → Bool) → ((a b : ℕ) → f b a ≡ g a b) → all_below d (λ b. all_below n (f b)) ≡ all_below n (λ a. all_below d (g a))
all-across n d f g e =
    same_test (all_below d (λ b. all_below n (f b))) (all_below n (λ a. all_below d (g a)))
    (λ h. all_below-intro n _ (λ a l. all_below-intro d _ (λ b m. sym (e a b) ∙ all_below-elim n _ (all_below-elim d _ h b m) a l)))
    (λ h. all_below-intro d _ (λ b m. all_below-intro n _ (λ a l. e a b ∙ all_below-elim d _ (all_below-elim n _ h a l) b m)))

module _ (T : List ℕ) (p : Place) (l d n : ℕ) where
  pub columns-are : all_below d (λ c. column_heads T p (l + c) d c n) ≡ all_below n (λ g. matrix_heads T l p.level p.rep d g)
  unfolding matrix_heads
  columns-are = all-across n d _ _ (λ g c. let e : l + c + g * d ≡ l + g * d + c = omega arith in
      ap (λ a. head_is T a p.level p.rep d g c) e)

  pub column-room : 8 * (l + n * d) ≤ length T → {at c : ℕ} → at ≡ l + c → c < d → ColumnRoom T at d n
  column-room room {at} {c} e h g b =
      let m : suc g * d ≤ n * d = mul-le-mul_right {m = suc g} {n = n} d b in
      omega (arith, m)

  pub first-other : 0 < n → 0 < d → {x : ℕ} → x ≡ word_at T l REP → ¬ (x ≡ p.rep)
      → false ≡ all_below n (λ g. matrix_heads T l p.level p.rep d g)
  unfolding matrix_heads
  first-other a b {x} is other = refuted _ (λ h.
      let e : l + 0 * d + 0 ≡ l = omega arith in
      let first = all_below-elim d _ (all_below-elim n _ h 0 a) 0 b in
      other (is ∙ (head-is T l p.level p.rep d 0 0 (subst (λ k. head_is T k p.level p.rep d 0 0 ≡ true) e first)).rep))

pub single-is : (T : List ℕ) (l i r g : ℕ) → head_is T (l + g) i r 1 g 0 ≡ matrix_heads T l i r 1 g
unfolding matrix_heads all_below
single-is T l i r g = let e : l + g ≡ l + g * 1 + 0 = omega arith in ap (λ a. head_is T a i r 1 g 0) e

-- ---- The size of a representation

pub product-fits : (a b : ℕ) → a < 4294967296 → b < 4294967296 → a * b < 18446744073709551616
product-fits a b h k =
    let e : a * b ≤ 4294967295 * 4294967295 = mul-le-mul {n₁ = a} {m₁ = b} {n₂ = 4294967295} {m₂ = 4294967295} (omega arith) (omega arith) in
    omega (arith, e)

pub size_fits : (s : Scope) (p : Place) (d : ℕ) → p.line < s.lines → 8 * s.lines < 18446744073709551616 → s.gens ≤ max_generators → d < 4294967296
    → p.line + s.gens * d < 18446744073709551616
size_fits s p d l b n f =
    let e : s.gens * d ≤ max_generators * d = mul-le-mul_right {m = s.gens} {n = max_generators} d n in
    omega (arith, e)

module _ (s : Scope) (ord : ℕ → ℕ) (p : Place) (d : ℕ) where
  pub record Sizes : Type 0 where
    pub level : p.level ≤ s.gens
    pub positive : 0 < d
    pub square : d * d ≤ ord p.level
    pub room : p.line + s.gens * d ≤ s.lines

  abbrev a : Bool
  a = leb p.level s.gens

  abbrev b : Bool
  b = ltb 0 d

  abbrev e : Bool
  e = leb (d * d) (ord p.level)

  abbrev f : Bool
  f = leb (p.line + s.gens * d) s.lines

  pub size-told : size_ok s ord p d ≡ true → Sizes
  unfolding size_ok
  size-told h =
      let h₂ = and_left (a && b && e) f h in
      let h₁ = and_left (a && b) e h₂ in
      record {
        level = leb-true p.level s.gens (and_left a b h₁);
        positive = ltb-true 0 d (and_right a b h₁);
        square = leb-true (d * d) (ord p.level) (and_right (a && b) e h₂);
        room = leb-true (p.line + s.gens * d) s.lines (and_right (a && b && e) f h);
      }

  told-size : Sizes → size_ok s ord p d ≡ true
  unfolding size_ok
  told-size z =
      and_intro (a && b && e) f (and_intro (a && b) e (and_intro a b (le-leb _ _ z.level) (lt-ltb 0 d z.positive)) (le-leb _ _ z.square))
      (le-leb _ _ z.room)

  pub size-last : (x : ℕ) → x ≡ s.gens * d → p.level ≤ s.gens → 0 < d → d * d ≤ ord p.level → leb (p.line + x) s.lines ≡ size_ok s ord p d
  size-last x q i j k =
      same_test (leb (p.line + x) s.lines) (size_ok s ord p d)
      (λ h. told-size (record { level = i; positive = j; square = k; room = omega (arith, leb-true (p.line + x) s.lines h) }))
      (λ h. le-leb (p.line + x) s.lines (omega (arith, (size-told h).room)))

-- ---- The representation at a place

module _ (s : Scope) (T : List ℕ) (ord : ℕ → ℕ) (p : Place) (counted : s.lines ≡ line_count T) where
  abbrev d : ℕ
  d = word_at T p.line DEG

  abbrev lines : Bool
  lines = all_below s.gens (λ g. matrix_heads T p.line p.level p.rep d g)

  and_assoc : (a b c e f : Bool) → (a && (b && c && e && f)) ≡ (a && b && c && e && f)
  and_assoc true b c e f = refl
  and_assoc false b c e f = refl

  place_is : (size_ok s ord p (word_at T p.line DEG) && lines) ≡ place_ok s.gens T ord p
  unfolding size_ok rep_heads
  place_is =
      ap (λ n. leb p.level s.gens && ltb 0 d && leb (d * d) (ord p.level) && leb (p.line + s.gens * d) n && lines) counted
      ∙ sym (and_assoc (leb p.level s.gens) (ltb 0 d) (leb (d * d) (ord p.level)) (leb (p.line + s.gens * d) (line_count T)) lines)

  module _ (D : Listed) (here : D ≡ listed_in T p.line) where
    pub place-small : size_ok s ord p D.deg ≡ false → false ≡ place_ok s.gens T ord p
    place-small h = sym (ap (λ t. t && lines) (subst (λ (D : Listed). size_ok s ord p D.deg ≡ false) here h)) ∙ place_is

    pub place-heads : size_ok s ord p D.deg ≡ true
        → all_below s.gens (λ g. matrix_heads T D.line p.level p.rep D.deg g) ≡ place_ok s.gens T ord p
    place-heads h =
        ap (λ (D : Listed). all_below s.gens (λ g. matrix_heads T D.line p.level p.rep D.deg g)) here
        ∙ sym (ap (λ t. t && lines) (subst (λ (D : Listed). size_ok s ord p D.deg ≡ true) here h)) ∙ place_is

    pub place-room : size_ok s ord p D.deg ≡ true → 8 * line_in D s.gens ≤ length T
    place-room h =
        let room = (size-told s ord p D.deg h).room in
        lines-there T (line_in D s.gens) (omega (arith, room, counted, ap (λ (D : Listed). D.line) here))

-- ---- The level of a place

module _ (T : List ℕ) (p : Place) where
  abbrev here : Bool
  here = eqb (word_at T p.line LEVEL) (suc p.level)

  pub other-begins : ¬ (word_at T p.line LEVEL ≡ p.level + 1) → false ≡ starts_level T p
  unfolding begins
  other-begins h = sym (ap (λ t. ltb 0 p.rep && t) (ne_eqb (word_at T p.line LEVEL) (suc p.level) (λ e. h (omega arith))) ∙ and-false (ltb 0 p.rep))

  pub first-begins : word_at T p.line LEVEL ≡ p.level + 1 → ltb 0 p.rep ≡ starts_level T p
  unfolding begins
  first-begins h = sym (ap (λ t. ltb 0 p.rep && t) (eq-eqb (word_at T p.line LEVEL) (suc p.level) (omega arith)) ∙ and-true (ltb 0 p.rep))

  pub place-stays : starts_level T p ≡ false → p ≡ turned_to T p
  place-stays h =
      let (a, b) = begins-no 0 T (λ i. 0) p.line p.level p.rep h in
      sym (ap₂ (λ i r. record { line = p.line; level = i; rep = r }) a b)

  pub place-turns : starts_level T p ≡ true → record { line = p.line; level = p.level + 1; rep = 0 } ≡ turned_to T p
  place-turns h =
      let (a, b) = begins-yes 0 T (λ i. 0) p.line p.level p.rep h in
      sym (ap₂ (λ i r. record { line = p.line; level = i; rep = r }) (a ∙ sym (add-one p.level)) b)

-- ---- The walk

module _ (n : ℕ) (T : List ℕ) (ord : ℕ → ℕ) where
  pub record Stepped (p : Place) : Type 0 where
    pub inside : p.line ≤ line_count T
    pub reps : p.rep ≤ p.line
    pub levels : p.level ≤ n
    pub going : Walking n T ord p.line p.level p.rep

  pub stepped-none : 0 < n → Stepped (record { line = 0; level = 1; rep = 0 })
  stepped-none some = record { inside = omega arith; reps = omega arith; levels = omega arith; going = going-none n T ord }

  abbrev whole : Bool
  whole = eqb (length T % line_words) 0

  fewer : (l i r : ℕ) → next_rep T l i r ≤ r
  fewer l i r = go (begins T l i r) refl
    where
      go : (b : Bool) → begins T l i r ≡ b → next_rep T l i r ≤ r
      go true e = omega (arith, (begins-yes n T ord l i r e).1)
      go false e = omega (arith, (begins-no n T ord l i r e).1)

  module _ (p t : Place) (S : Stepped p) (more : p.line < line_count T) (turns : t ≡ turned_to T p) where
    abbrev step : Bool
    step = step_ok n T ord p.line p.level p.rep

    step_is : step ≡ place_ok n T ord t
    unfolding step_ok
    step_is = ap (place_ok n T ord) (sym turns)

    pub stepped-fails : place_ok n T ord t ≡ false → false ≡ heads_ok n T ord
    unfolding heads_ok
    stepped-fails h = refuted _ (λ e.
        false≢true (sym (going-fails n T ord p.line p.level p.rep S.going more (step_is ∙ h)) ∙ and_right whole _ e))

    module _ (ok : place_ok n T ord t ≡ true) where
      kept : Passing n T ord p.line (next_level T p.line p.level p.rep) (next_rep T p.line p.level p.rep)
      kept = step_kept n T ord p.line p.level p.rep (step_is ∙ ok)

      pub stepped-inside : InsideTable n T t
      stepped-inside = subst (InsideTable n T) (sym turns) (record {
        here = more;
        room = kept.heads.inside;
        reps = omega (arith, S.reps, fewer p.line p.level p.rep);
      })

      module _ (some : 0 < n) (u : Place) (goes : u ≡ behind n T t) where
        there : u ≡ behind n T (turned_to T p)
        there = goes ∙ ap (behind n T) turns

        pub stepped-forth : p.line < u.line
        stepped-forth = subst (λ (u : Place). p.line < u.line) (sym there) (omega (arith, mul-pos some kept.heads.positive))

        pub stepped-more : Stepped u
        stepped-more = subst Stepped (sym there) (record {
          inside = kept.heads.inside;
          reps = omega (arith, S.reps, fewer p.line p.level p.rep, mul-pos some kept.heads.positive);
          levels = leb-true _ n (and_left (leb (next_level T p.line p.level p.rep) n) _ (ap (place_ok n T ord) (sym turns) ∙ ok));
          going = going_more n T ord p.line p.level p.rep some S.going more (step_is ∙ ok);
        })

  pub uneven : ¬ (length T % 8 ≡ 0) → false ≡ heads_ok n T ord
  unfolding heads_ok line_words
  uneven h = sym (ap (λ t. t && walk_from n T ord (line_count T) 0 1 0) (ne_eqb (length T % 8) 0 h))

  module _ (p : Place) (S : Stepped p) (done : line_count T ≤ p.line) (lines : length T % 8 ≡ 0) where
    ends_is : heads_ok n T ord ≡ (eqb p.level n && ltb 0 p.rep)
    unfolding heads_ok line_words
    ends_is = ap₂ (◌&&◌) (eq-eqb (length T % 8) 0 lines) (going-ends n T ord p.line p.level p.rep S.going done)

    pub stepped-short : ¬ (p.level ≡ n) → false ≡ heads_ok n T ord
    stepped-short h = sym (ends_is ∙ ap (λ t. t && ltb 0 p.rep) (ne_eqb p.level n h))

    pub stepped-all : p.level ≡ n → ltb 0 p.rep ≡ heads_ok n T ord
    stepped-all h = sym (ends_is ∙ ap (λ t. t && ltb 0 p.rep) (eq-eqb p.level n h))

-- ---- Representations of level 1 and degree 1

pub opened-none : (s : Scope) (ord : ℕ → ℕ) (T : List ℕ) → Opened s ord T 0
opened-none s ord T = record { room = omega arith; order = λ l. absurd (omega arith); heads = λ r g l. absurd (omega arith) }

module _ {s : Scope} {ord : ℕ → ℕ} {T : List ℕ} {k : ℕ} (some : 0 < s.gens) (O : Opened s ord T k) where
  abbrev n : ℕ
  n = s.gens

  -- the place of representation r
  abbrev at : ℕ → Place
  at r = record { line = r * n; level = 1; rep = r }

  module _ (r : ℕ) (l : r < k) where
    start : r * n ≡ r * n + 0
    start = omega arith

    first : head_is T (r * n) 1 r 1 0 0 ≡ true
    first = subst (λ a. head_is T a 1 r 1 0 0 ≡ true) (sym start) (O.heads r 0 l some)

    degree : word_at T (r * n) DEG ≡ 1
    degree = (head-is T (r * n) 1 r 1 0 0 first).deg

    level-one : word_at T (r * n) LEVEL ≡ 1
    level-one = (head-is T (r * n) 1 r 1 0 0 first).level

    room : r * n + n ≤ line_count T
    room = let e : suc r * n ≤ k * n = mul-le-mul_right {m = suc r} {n = k} n l in omega (arith, O.room, e)

    stays-there : at r ≡ turned_to T (at r)
    stays-there = place-stays T (at r) (sym (other-begins T (at r) (λ q. omega (arith, q, level-one))))

    lines-there-all : all_below n (λ g. matrix_heads T (r * n) 1 r 1 g) ≡ true
    lines-there-all = all_below-intro n _ (λ g h. sym (single-is T (r * n) 1 r g) ∙ O.heads r g l h)

    place-passes : place_ok n T ord (at r) ≡ true
    unfolding rep_heads
    place-passes =
        let a = ltb 0 (word_at T (r * n) DEG) in
        subst (λ d. (leb 1 n && (ltb 0 d && leb (d * d) (ord 1) && leb (r * n + n * d) (line_count T) && all_below n (λ g. matrix_heads T (r * n) 1 r d g))) ≡ true)
        (sym degree)
        (and_intro _ _ (le-leb 1 n some)
        (and_intro _ _ (and_intro _ _ (and_intro _ _ (lt-ltb 0 1 (omega arith)) (le-leb 1 (ord 1) (O.order (omega arith))))
        (le-leb (r * n + n * 1) (line_count T) (omega (arith, room)))) lines-there-all))

  opened_up : (r : ℕ) → r ≤ k → Stepped n T ord (at r)
  opened_up zero l = let e : 0 ≡ 0 * n = omega arith in
      subst (λ x. Stepped n T ord (record { line = x; level = 1; rep = 0 })) e (stepped-none n T ord some)
  opened_up (suc r) l =
      let e : suc r * n ≡ r * n + n * word_at T (r * n) DEG = omega (arith, ap (λ d. n * d) (degree r l)) in
      let more : r * n < line_count T = omega (arith, room r l, some) in
      stepped-more n T ord (at r) (at r) (opened_up r (omega arith)) more (stays-there r l) (place-passes r l) some (at (suc r))
      (ap (λ x. record { line = x; level = 1; rep = suc r }) e)

  pub opened-stepped : Stepped s.gens T ord (record { line = k * s.gens; level = 1; rep = k })
  opened-stepped = opened_up k (omega arith)
