-- The walk over the heads finds out whether they are in order, and whether the squares of the degrees are bounded.
--
--   head-is, is-head                    what the test of a line says, both ways
--   Passing l i r                          the lines of a representation, and the square of its degree
--   heads-kept, kept-heads              what the test of a representation says, both ways
--   walk_end, walk_step, walk-fails     one step of the walk
--   begins-yes, begins-no               where a line begins the next level, and where it does not
--   Bounded                             heads in order, with squares bounded
--   walk-bounded                        a walk that says yes has met such heads
--   bounded-walks                       such heads are walked to the end
use mathlib.Core.Path.{◌≡◌, refl, sym, ◌∙◌, ap, ap₂, subst}
use mathlib.Core.Bool.{Bool, true, false, ◌&&◌, and-false, cond}
use mathlib.Core.List.{List}
use Prim.Native.Nat.{ℕ, zero, suc, ◌+◌, ◌*◌, ◌≤◌, ◌<◌}
use native.Mathlib.Nat.{mul-pos}
use native.Mathlib.Omega.{arith}
use native.Mathlib.Decide.{dec_lt}
use lib.Dec.{eqb, ltb, leb}
use borrow.Author.Tests.{eqb-true, ltb-true, leb-true, eq-eqb, ne_eqb, lt-ltb, le-ltb, le-leb}
use Rattle.definitions.specs.Lists.{all_below}
use Rattle.definitions.specs.Table.{LEVEL, REP, DEG, GEN, COL, word_at, line_count}
use Rattle.numbers.proofs.Bools.{and_left, and_right, and_intro, cond-true, cond-false}
use Rattle.numbers.proofs.Lists.{below_suc, all_below-elim, all_below-intro}
use Rattle.heads.specs.Heads.{LineHead, Heads, first_from, base_of}
use Rattle.heads.specs.Walk.{head_is, matrix_heads, rep_heads, begins, next_level, next_rep, step_ok, walk_from}
use Rattle.heads.proofs.Positions.{first-zero, first-suc, base-zero, base-suc}

-- a number for each level, with another at level k
put : (ℕ → ℕ) → ℕ → ℕ → ℕ → ℕ
put f k x j = cond (eqb j k) x (f j)

put_same : (f : ℕ → ℕ) (k x j : ℕ) → j ≡ k → put f k x j ≡ x
unfolding put
put_same f k x j e = cond-true (eqb j k) x (f j) (eq-eqb j k e)

put_other : (f : ℕ → ℕ) (k x j : ℕ) → j < k → put f k x j ≡ f j
unfolding put
put_other f k x j l = cond-false (eqb j k) x (f j) (ne_eqb j k (λ e. omega arith))

-- ---- The test of a representation

pub head-is : (T : List ℕ) (l i r d g c : ℕ) → head_is T l i r d g c ≡ true → LineHead T l i r d g c
unfolding head_is
head-is T l i r d g c h =
    let a : Bool = eqb (word_at T l LEVEL) i in
    let b : Bool = eqb (word_at T l REP) r in
    let e : Bool = eqb (word_at T l DEG) d in
    let f : Bool = eqb (word_at T l GEN) (suc g) in
    let h₃ : a && b && e && f ≡ true = and_left (a && b && e && f) (eqb (word_at T l COL) c) h in
    let h₂ : a && b && e ≡ true = and_left (a && b && e) f h₃ in
    let h₁ : a && b ≡ true = and_left (a && b) e h₂ in
    record {
      level = eqb-true (word_at T l LEVEL) i (and_left a b h₁);
      rep = eqb-true (word_at T l REP) r (and_right a b h₁);
      deg = eqb-true (word_at T l DEG) d (and_right (a && b) e h₂);
      gen = eqb-true (word_at T l GEN) (suc g) (and_right (a && b && e) f h₃);
      col = eqb-true (word_at T l COL) c (and_right (a && b && e && f) (eqb (word_at T l COL) c) h);
    }

pub is-head : (T : List ℕ) (l i r d g c : ℕ) → LineHead T l i r d g c → head_is T l i r d g c ≡ true
unfolding head_is
is-head T l i r d g c h =
    and_intro _ _ (and_intro _ _ (and_intro _ _ (and_intro _ _ (eq-eqb _ _ h.level) (eq-eqb _ _ h.rep)) (eq-eqb _ _ h.deg)) (eq-eqb _ _ h.gen))
    (eq-eqb _ _ h.col)

module _ (n : ℕ) (T : List ℕ) (ord : ℕ → ℕ) where
  abbrev deg : ℕ → ℕ
  deg l = word_at T l DEG

  pub record Passing (l i r : ℕ) : Type 0 where
    pub heads : Heads n T l i r
    pub square : word_at T l DEG * word_at T l DEG ≤ ord i

  pub heads-kept : (l i r : ℕ) → rep_heads n T ord l i r ≡ true → Passing l i r
  unfolding rep_heads matrix_heads
  heads-kept l i r h =
      let a : Bool = ltb 0 (deg l) in
      let b : Bool = leb (deg l * deg l) (ord i) in
      let c : Bool = leb (l + n * deg l) (line_count T) in
      let d : Bool = all_below n (λ g. all_below (deg l) (λ c. head_is T (l + g * deg l + c) i r (deg l) g c)) in
      let h₂ : a && b && c ≡ true = and_left (a && b && c) d h in
      let h₁ : a && b ≡ true = and_left (a && b) c h₂ in
      record {
        heads = record {
          positive = ltb-true 0 (deg l) (and_left a b h₁);
          inside = leb-true (l + n * deg l) (line_count T) (and_right (a && b) c h₂);
          head = λ g c' gl cl. head-is T _ i r (deg l) g c' (all_below-elim (deg l) _ (all_below-elim n _ (and_right (a && b && c) d h) g gl) c' cl);
        };
        square = leb-true (deg l * deg l) (ord i) (and_right a b h₁);
      }

  pub kept-heads : (l i r : ℕ) → Passing l i r → rep_heads n T ord l i r ≡ true
  unfolding rep_heads matrix_heads
  kept-heads l i r K =
      let H = K.heads in
      and_intro _ _ (and_intro _ _ (and_intro _ _ (lt-ltb 0 (deg l) H.positive) (le-leb _ _ K.square)) (le-leb _ _ H.inside))
      (all_below-intro n _ (λ g gl. all_below-intro (deg l) _ (λ c cl. is-head T _ i r (deg l) g c (H.head g c gl cl))))

  -- ---- One step

  abbrev walk : ℕ → ℕ → ℕ → ℕ → Bool
  walk = walk_from n T ord

  pub walk_end : (f l i r : ℕ) → line_count T ≤ l → walk_from n T ord f l i r ≡ eqb i n && ltb 0 r
  unfolding walk_from
  walk_end zero l i r h = refl
  walk_end (suc f) l i r h = cond-false (ltb l (line_count T)) _ (eqb i n && ltb 0 r) (le-ltb l (line_count T) h)

  walk-on : (f l i r : ℕ) → l < line_count T
      → walk (suc f) l i r ≡ step_ok n T ord l i r && walk f (l + n * deg l) (next_level T l i r) (suc (next_rep T l i r))
  unfolding walk_from
  walk-on f l i r h = cond-true (ltb l (line_count T)) _ (eqb i n && ltb 0 r) (lt-ltb l (line_count T) h)

  pub walk_step : (f l i r : ℕ) → l < line_count T → step_ok n T ord l i r ≡ true
      → walk_from n T ord (suc f) l i r ≡ walk_from n T ord f (l + n * word_at T l DEG) (next_level T l i r) (suc (next_rep T l i r))
  walk_step f l i r h e = walk-on f l i r h ∙ ap (λ t. t && walk f (l + n * deg l) (next_level T l i r) (suc (next_rep T l i r))) e

  pub walk-fails : (f l i r : ℕ) → l < line_count T → step_ok n T ord l i r ≡ false → walk_from n T ord (suc f) l i r ≡ false
  walk-fails f l i r h e = walk-on f l i r h ∙ ap (λ t. t && walk f (l + n * deg l) (next_level T l i r) (suc (next_rep T l i r))) e

  pub step_kept : (l i r : ℕ) → step_ok n T ord l i r ≡ true → Passing l (next_level T l i r) (next_rep T l i r)
  unfolding step_ok
  step_kept l i r e = heads-kept l (next_level T l i r) (next_rep T l i r) (and_right (leb (next_level T l i r) n) _ e)

  kept_step : (l i r : ℕ) → next_level T l i r ≤ n → Passing l (next_level T l i r) (next_rep T l i r) → step_ok n T ord l i r ≡ true
  unfolding step_ok
  kept_step l i r a K = and_intro (leb (next_level T l i r) n) _ (le-leb (next_level T l i r) n a) (kept-heads l (next_level T l i r) (next_rep T l i r) K)

  pub begins-yes : (l i r : ℕ) → begins T l i r ≡ true → (next_level T l i r ≡ suc i) × (next_rep T l i r ≡ 0)
  unfolding next_level next_rep
  begins-yes l i r e = (cond-true (begins T l i r) (suc i) i e, cond-true (begins T l i r) 0 r e)

  pub begins-no : (l i r : ℕ) → begins T l i r ≡ false → (next_level T l i r ≡ i) × (next_rep T l i r ≡ r)
  unfolding next_level next_rep
  begins-no l i r e = (cond-false (begins T l i r) (suc i) i e, cond-false (begins T l i r) 0 r e)

  begins-some : (l i r : ℕ) → begins T l i r ≡ true → 0 < r
  unfolding begins
  begins-some l i r e = ltb-true 0 r (and_left (ltb 0 r) (eqb (word_at T l LEVEL) (suc i)) e)

  -- ---- What a walk has met

  pub record Bounded : Type 0 where
    pub count : ℕ → ℕ
    pub some : (k : ℕ) → k < n → 0 < count k
    pub kept : (k r : ℕ) → k < n → r < count k → Passing (first_from n T (base_of n T count k) r) (suc k) r
    pub ends : base_of n T count n ≡ line_count T

  abbrev at : (ℕ → ℕ) → ℕ → ℕ → ℕ
  at count k r = first_from n T (base_of n T count k) r

  base-below : (a b : ℕ → ℕ) (k : ℕ) → ((j : ℕ) → j < k → a j ≡ b j) → base_of n T a k ≡ base_of n T b k
  base-below a b zero h = base-zero n T a ∙ sym (base-zero n T b)
  base-below a b (suc k) h =
      base-suc n T a k ∙ ap₂ (first_from n T) (base-below a b k (λ j l. h j (omega arith))) (h k (omega arith)) ∙ sym (base-suc n T b k)

  -- the levels before level suc k, and r representations of that, up to line l
  record Met (count : ℕ → ℕ) (k r l : ℕ) : Type 0 where
    here : l ≡ at count k r
    inside : l ≤ line_count T
    some : (j : ℕ) → j < k → 0 < count j
    full : (j q : ℕ) → j < k → q < count j → Passing (at count j q) (suc j) q
    part : (q : ℕ) → q < r → Passing (at count k q) (suc k) q

  met-none : Met (λ k. 0) 0 0 0
  met-none = record {
    here = sym (first-zero n T (base_of n T (λ k. 0) 0) ∙ base-zero n T (λ k. 0));
    inside = omega arith;
    some = λ j h. absurd (omega arith);
    full = λ j q h. absurd (omega arith);
    part = λ q h. absurd (omega arith);
  }

  met-rep : (count : ℕ → ℕ) (k r l : ℕ) → Met count k r l → Passing l (suc k) r → Met count k (suc r) (l + n * deg l)
  met-rep count k r l M K = record {
    here = ap (λ l. l + n * deg l) M.here ∙ sym (first-suc n T (base_of n T count k) r);
    inside = K.heads.inside;
    some = M.some;
    full = M.full;
    part = below_suc r (λ q. Passing (at count k q) (suc k) q) M.part (subst (λ l. Passing l (suc k) r) M.here K);
  }

  met-level : (count : ℕ → ℕ) (k r l : ℕ) → Met count k r l → 0 < r → Met (put count k r) (suc k) 0 l
  met-level count k r l M pos = record {
    here = M.here ∙ sym (first-zero n T (base_of n T more (suc k)) ∙ base-suc n T more k ∙ ap₂ (first_from n T) (same k (omega arith)) this);
    inside = M.inside;
    some = below_suc k (λ j. 0 < more j) (λ j h. subst (λ z. 0 < z) (sym (put_other count k r j h)) (M.some j h)) (subst (λ z. 0 < z) (sym this) pos);
    full = λ j q a b. below_suc k (λ j. (q : ℕ) → q < more j → Passing (at more j q) (suc j) q) before last j a q b;
    part = λ q h. absurd (omega arith);
  }
    where
      more : ℕ → ℕ
      more = put count k r

      this : more k ≡ r
      this = put_same count k r k refl

      same : (j : ℕ) → j ≤ k → base_of n T more j ≡ base_of n T count j
      same j h = base-below more count j (λ i l. put_other count k r i (omega arith))

      before : (j : ℕ) → j < k → (q : ℕ) → q < more j → Passing (at more j q) (suc j) q
      before j h q b =
          subst (λ z. Passing (first_from n T z q) (suc j) q) (sym (same j (omega arith))) (M.full j q h (subst (λ z. q < z) (put_other count k r j h) b))

      last : (q : ℕ) → q < more k → Passing (at more k q) (suc k) q
      last q b = subst (λ z. Passing (first_from n T z q) (suc k) q) (sym (same k (omega arith))) (M.part q (subst (λ z. q < z) this b))

  met_all : (count : ℕ → ℕ) (l : ℕ) → Met count n 0 l → line_count T ≤ l → Bounded
  met_all count l M h =
      let e : l ≡ line_count T = omega (arith, M.inside) in
      record { count = count; some = M.some; kept = M.full; ends = sym (M.here ∙ first-zero n T (base_of n T count n)) ∙ e }

  module _ (positive : 0 < n) where
    walk-stops : (f : ℕ) (count : ℕ → ℕ) (k r l : ℕ) → Met count k r l → walk f l (suc k) r ≡ true → line_count T ≤ l → Bounded
    walk-stops f count k r l M w h =
        let e : eqb (suc k) n && ltb 0 r ≡ true = sym (walk_end f l (suc k) r h) ∙ w in
        let top : suc k ≡ n = eqb-true (suc k) n (and_left (eqb (suc k) n) (ltb 0 r) e) in
        let some : 0 < r = ltb-true 0 r (and_right (eqb (suc k) n) (ltb 0 r) e) in
        met_all (put count k r) l (subst (λ i. Met (put count k r) i 0 l) top (met-level count k r l M some)) h

    -- the walk goes on behind line l, on level i, where q representations of it and the one at l were met
    abbrev Goes : ℕ → ℕ → ℕ → ℕ → Type 0
    Goes f l i q = walk f (l + n * deg l) i (suc q) ≡ true

    abbrev Rest : ℕ → Type 0
    Rest f = (count : ℕ → ℕ) (k r l : ℕ) → Met count k r l → line_count T ≤ l + f → walk f l (suc k) r ≡ true → Bounded

    walk-goes : (f : ℕ) → Rest f → (count : ℕ → ℕ) (k r l : ℕ) → Met count k r l → line_count T ≤ l + suc f → l < line_count T
        → walk (suc f) l (suc k) r ≡ true → Bounded
    walk-goes f rest count k r l M enough h w =
        let e = sym (walk-on f l (suc k) r h) ∙ w in
        let on = and_right (step_ok n T ord l (suc k) r) (walk f (l + n * deg l) (next_level T l (suc k) r) (suc (next_rep T l (suc k) r))) e in
        let K = step_kept l (suc k) r (and_left (step_ok n T ord l (suc k) r) _ e) in
        let d : 0 < n * deg l = mul-pos positive K.heads.positive in
        go (begins T l (suc k) r) refl K on (omega arith)
      where
        go : (b : Bool) → begins T l (suc k) r ≡ b → Passing l (next_level T l (suc k) r) (next_rep T l (suc k) r)
            → Goes f l (next_level T l (suc k) r) (next_rep T l (suc k) r) → line_count T ≤ l + n * deg l + f → Bounded
        go true t K on enough =
            let (i, q) = begins-yes l (suc k) r t in
            let M' = met-level count k r l M (begins-some l (suc k) r t) in
            let K' : Passing l (suc (suc k)) 0 = subst (λ q. Passing l (suc (suc k)) q) q (subst (λ i. Passing l i (next_rep T l (suc k) r)) i K) in
            let on' : Goes f l (suc (suc k)) 0 = subst (λ q. Goes f l (suc (suc k)) q) q (subst (λ i. Goes f l i (next_rep T l (suc k) r)) i on) in
            rest (put count k r) (suc k) 1 (l + n * deg l) (met-rep (put count k r) (suc k) 0 l M' K') enough on'
        go false t K on enough =
            let (i, q) = begins-no l (suc k) r t in
            let K' : Passing l (suc k) r = subst (λ q. Passing l (suc k) q) q (subst (λ i. Passing l i (next_rep T l (suc k) r)) i K) in
            let on' : Goes f l (suc k) r = subst (λ q. Goes f l (suc k) q) q (subst (λ i. Goes f l i (next_rep T l (suc k) r)) i on) in
            rest count k (suc r) (l + n * deg l) (met-rep count k r l M K') enough on'

    walk-met : (f : ℕ) (count : ℕ → ℕ) (k r l : ℕ) → Met count k r l → line_count T ≤ l + f → walk f l (suc k) r ≡ true → Dec (l < line_count T) → Bounded
    walk-met zero count k r l M enough w d = walk-stops zero count k r l M w (omega arith)
    walk-met (suc f) count k r l M enough w (no h) = walk-stops (suc f) count k r l M w (omega arith)
    walk-met (suc f) count k r l M enough w (yes h) =
        walk-goes f (λ count k r l M enough w. walk-met f count k r l M enough w (dec_lt l (line_count T))) count k r l M enough h w

    pub walk-bounded : walk_from n T ord (line_count T) 0 1 0 ≡ true → Bounded
    walk-bounded w = walk-met (line_count T) (λ k. 0) 0 0 0 met-none (omega arith) w (dec_lt 0 (line_count T))

  -- ---- Heads in order are walked to the end

  module _ (positive : 0 < n) (B : Bounded) where
    abbrev count : ℕ → ℕ
    count = B.count

    abbrev place : ℕ → ℕ → ℕ
    place k r = first_from n T (base_of n T B.count k) r

    last-place : (k : ℕ) → suc k ≡ n → place k (count k) ≡ line_count T
    last-place k e = sym (base-suc n T count k) ∙ ap (base_of n T count) e ∙ B.ends

    next_place : (k : ℕ) → place k (count k) ≡ place (suc k) 0
    next_place k = sym (base-suc n T count k) ∙ sym (first-zero n T (base_of n T count (suc k)))

    module _ (k r : ℕ) (kl : k < n) (rl : r < count k) where
      abbrev here : Passing (place k r) (suc k) r
      here = B.kept k r kl rl

      some-lines : 0 < n * deg (place k r)
      some-lines = mul-pos positive here.heads.positive

      before-end : place k r < line_count T
      before-end = omega (arith, some-lines, here.heads.inside)

      level-is : word_at T (place k r) LEVEL ≡ suc k
      level-is =
          let e : place k r + 0 * deg (place k r) + 0 ≡ place k r = omega arith in
          subst (λ l. word_at T l LEVEL ≡ suc k) e (here.heads.head 0 0 positive here.heads.positive).level

      -- the step at the line of a representation, from a level and a number that lead to those of it
      step : (i q f : ℕ) → next_level T (place k r) i q ≡ suc k → next_rep T (place k r) i q ≡ r
          → walk f (place k (suc r)) (suc k) (suc r) ≡ true → walk (suc f) (place k r) i q ≡ true
      step i q f a b h =
          let K : Passing (place k r) (next_level T (place k r) i q) (next_rep T (place k r) i q) =
          subst (λ x. Passing (place k r) x (next_rep T (place k r) i q)) (sym a) (subst (Passing (place k r) (suc k)) (sym b) here) in
          let ok = kept_step (place k r) i q (omega (arith, a)) K in
          walk_step f (place k r) i q before-end ok ∙ ap₂ (λ i q. walk f (place k r + n * deg (place k r)) i (suc q)) a b
          ∙ ap (λ l. walk f l (suc k) (suc r)) (sym (first-suc n T (base_of n T count k) r)) ∙ h

      -- within the level, and from the level before
      stays : (f : ℕ) → walk f (place k (suc r)) (suc k) (suc r) ≡ true → walk (suc f) (place k r) (suc k) r ≡ true
      unfolding begins
      stays f h =
          let other = ne_eqb (word_at T (place k r) LEVEL) (suc (suc k)) (λ e. omega (arith, level-is, e)) in
          let b : begins T (place k r) (suc k) r ≡ false = ap (λ t. ltb 0 r && t) other ∙ and-false (ltb 0 r) in
          let (i, q) = begins-no (place k r) (suc k) r b in
          step (suc k) r f i q h

    rises : (k : ℕ) → suc k < n → (f : ℕ) → walk f (place (suc k) 1) (suc (suc k)) 1 ≡ true → walk (suc f) (place k (count k)) (suc k) (count k) ≡ true
    unfolding begins
    rises k l f h =
        let some = B.some (suc k) l in
        let here = lt-ltb 0 (count k) (B.some k (omega arith)) in
        let b : begins T (place (suc k) 0) (suc k) (count k) ≡ true = and_intro (ltb 0 (count k)) _ here (eq-eqb _ _ (level-is (suc k) 0 l some)) in
        let (i, q) = begins-yes (place (suc k) 0) (suc k) (count k) b in
        subst (λ x. walk (suc f) x (suc k) (count k) ≡ true) (sym (next_place k)) (step (suc k) 0 l some (suc k) (count k) f i q h)

    ended : (f k r : ℕ) → r ≡ count k → suc k ≡ n → walk f (place k r) (suc k) r ≡ true
    ended f k r e l =
        walk_end f (place k r) (suc k) r (omega (arith, ap (place k) e, last-place k l))
        ∙ and_intro (eqb (suc k) n) (ltb 0 r) (eq-eqb (suc k) n l) (lt-ltb 0 r (omega (arith, e, B.some k (omega arith))))

    walks : (f k r : ℕ) → k < n → r ≤ count k → line_count T ≤ place k r + f → Dec (r < count k) → Dec (suc k < n) → walk f (place k r) (suc k) r ≡ true
    walks zero k r kl rl enough (yes a) b = absurd (omega (arith, before-end k r kl a))
    walks zero k r kl rl enough (no a) (yes b) =
        let e : r ≡ count k = omega arith in
        absurd (omega (arith, before-end (suc k) 0 b (B.some (suc k) b), next_place k, ap (place k) e))
    walks zero k r kl rl enough (no a) (no b) = ended zero k r (omega arith) (omega arith)
    walks (suc f) k r kl rl enough (yes a) b =
        let x = some-lines k r kl a in
        stays k r kl a f (walks f k (suc r) kl a (omega (arith, first-suc n T (base_of n T count k) r)) (dec_lt (suc r) (count k)) (dec_lt (suc k) n))
    walks (suc f) k r kl rl enough (no a) (yes b) =
        let e : r ≡ count k = omega arith in
        let some = B.some (suc k) b in
        let x = some-lines (suc k) 0 b some in
        let m : line_count T ≤ place (suc k) 1 + f = omega (arith, first-suc n T (base_of n T count (suc k)) 0, next_place k, ap (place k) e) in
        subst (λ r. walk (suc f) (place k r) (suc k) r ≡ true) (sym e)
        (rises k b f (walks f (suc k) 1 b some m (dec_lt 1 (count (suc k))) (dec_lt (suc (suc k)) n)))
    walks (suc f) k r kl rl enough (no a) (no b) = ended (suc f) k r (omega arith) (omega arith)

    pub bounded-walks : walk_from n T ord (line_count T) 0 1 0 ≡ true
    bounded-walks =
        let e : place 0 0 ≡ 0 = first-zero n T (base_of n T count 0) ∙ base-zero n T count in
        subst (λ l. walk (line_count T) l 1 0 ≡ true) e (walks (line_count T) 0 0 positive (omega arith) (omega arith) (dec_lt 0 (count 0)) (dec_lt 1 n))
