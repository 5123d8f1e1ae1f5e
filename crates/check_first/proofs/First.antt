-- Representations of degree 1 that stand in lines are a level that fits on level 0.
--
--   character-head, character-opened     the heads of their lines
--   character-first, character-found     where they begin, in a complete table
--   character-stored             their lines hold matrices
--   characters-unshared          no two of them claim the same
--   characters-fit               the level fits on level 0
use mathlib.Core.Path.{◌≡◌, refl, sym, ◌∙◌, ap, subst}
use mathlib.Core.Bool.{true}
use mathlib.Core.List.{List, []}
use Prim.Native.Nat.{ℕ, zero, suc, ◌+◌, ◌*◌, ◌%◌, ◌≤◌, ◌<◌}
use native.Mathlib.Nat.{mod-eq_of_lt, mod-lt, mod-add-mod, mul-le-mul_right}
use native.Mathlib.Omega.{arith}
use lib.ListN.{length, get_or}
use borrow.Author.Tests.{eq-eqb}
use Rattle.definitions.specs.declared.Entry.{Entry}
use Rattle.definitions.specs.Lists.{iter}
use Rattle.definitions.specs.Presentation.{Presentation, to_nf, pair_number}
use Rattle.definitions.specs.Monomial.{entry, col, act, Rep, Level, rep_of}
use Rattle.definitions.specs.Table.{DEG, REF, ROW, EXP, word_at, line_count, first_line, level_zero, level_at}
use Rattle.formulas.specs.Formulas.{walk}
use Rattle.columns.specs.Columns.{power_at, intertwines_at}
use Rattle.heads.specs.Heads.{LineHead, Headed, first_from}
use Rattle.heads.proofs.Walk.{is-head}
use Rattle.heads.proofs.Positions.{first-zero, first-suc, base-zero}
use Rattle.heads.proofs.Headed.{headed-first, headed-count}
use Rattle.heads.proofs.Complete.{complete-headed}
use Rattle.fitting.specs.Fits.{Fitting}
use Rattle.fitting.specs.First.{FirstFits}
use Rattle.fitting.proofs.First as first
use Rattle.level.specs.declared.Listed.{Listed}
use Rattle.level.specs.Stored.{entry_in, Holds, line_in, generator_in, listed_in, Stored}
use Rattle.level.proofs.Columns.{iter-fixed, act-fixed, walk-zero, walk-next}
use Rattle.seek.specs.declared.Scope.{Scope}
use Rattle.seek.specs.Seek.{Whole, Found}
use Rattle.seek.specs.Among.{rep_in}
use Rattle.seek.proofs.Halves.{lines-there}
use Rattle.seek.proofs.Seek.{found_first}
use Rattle.claims.specs.Claims.{OneReference, Unshared}
use Rattle.relations.specs.Kept.{MatricesStored}
use Rattle.relations.specs.Tests.{Conjugated}
use Rattle.relations.proofs.Kept.{entries-exp, power-moved, conjugate-moved}
use Rattle.relations.proofs.Single.{single-intertwiner}
use Rattle.check_heads.specs.Places.{Opened}
use Rattle.check_first.specs.First.{word_on, exponent_of, Character, Characters}
use Rattle.check_first.proofs.Found.{found-first-ref, found-head, found_target}

module _ {s : Scope} {T : List ℕ} {rows : List (List ℕ)} {p : ℕ} (C : Characters s T rows p) where
  abbrev n : ℕ
  n = s.gens

  abbrev m : ℕ
  m = s.m

  abbrev one : ℕ → Listed
  one r = record { line = r * s.gens; deg = 1 }

  -- ---- Lines

  module _ (r : ℕ) (l : r < p) where
    abbrev K : Character s T rows p r
    K = C.each r l

    start : r * n ≡ r * n + 0
    start = omega arith

    character-head : (g : ℕ) → g < n → LineHead T (r * n + g) 1 r 1 g 0
    character-head zero h =
        let e = K.line in
        subst (λ a. LineHead T a 1 r 1 0 0) start (record { level = e.level; rep = e.rep; deg = e.deg; gen = e.gen; col = K.col })
    character-head (suc g) h =
        let i = K.images.each (suc g) (omega arith) h in
        let e = i.line in
        record { level = e.level; rep = e.rep; deg = e.deg; gen = e.gen; col = i.col }

    character-row : (g : ℕ) → g < n → word_at T (r * n + g) ROW ≡ 0
    character-row zero h = subst (λ a. word_at T a ROW ≡ 0) start K.row
    character-row (suc g) h = (K.images.each (suc g) (omega arith) h).row

  pub character-opened : {ord : ℕ → ℕ} → (0 < p → 0 < ord 1) → Opened s ord T p
  character-opened o = record { room = C.room; order = o; heads = λ r g l h. is-head T (r * n + g) 1 r 1 g 0 (character-head r l g h) }

  character-degree : (r : ℕ) → r < p → word_at T (r * n) DEG ≡ 1
  character-degree r l = (C.each r l).line.deg

  character-exp : (r g : ℕ) → r < p → g < n → word_at T (r * n + g) EXP < m
  character-exp r zero l h = let e : r * n ≡ r * n + 0 = omega arith in subst (λ a. word_at T a EXP < m) e (C.below r l)
  character-exp r (suc g) l h = ((C.each r l).images.each (suc g) (omega arith) h).exp

  module _ (W : Whole s T) (modulus : (0 < s.m) × (s.m ≤ 2147483648)) (count : length (level_at s.gens T 1) ≡ p) where
    abbrev High : Level
    High = level_at s.gens T 1

    -- ---- Where they begin

    abbrev H : Headed s.gens T
    H = complete-headed s.gens W.some T W.all

    begins : (r : ℕ) → r ≤ p → first_from n T 0 r ≡ r * n
    begins zero l = first-zero n T 0 ∙ omega arith
    begins (suc r) l =
        let h = begins r (omega arith) in
        let d : word_at T (first_from n T 0 r) DEG ≡ 1 = ap (λ l. word_at T l DEG) h ∙ character-degree r l in
        omega (arith, first-suc n T 0 r, h, ap (λ d. n * d) d)

    character-first : (r : ℕ) → r < p → first_line n T 1 r ≡ r * n
    character-first r l =
        headed-first n W.some T H 0 r W.some (omega (arith, headed-count n W.some T H 0 W.some, count))
        ∙ ap (λ b. first_from n T b r) (base-zero n T H.count) ∙ begins r (omega arith)

    listed : (r : ℕ) → r < p → r < length High
    listed r l = omega (arith, count)

    counted : (r : ℕ) → r < length High → r < p
    counted r l = omega (arith, count)

    one_is : (r : ℕ) → r < p → listed_in T (first_line n T 1 r) ≡ one r
    one_is r l = ap (listed_in T) (character-first r l) ∙ ap (λ d. record { line = r * n; deg = d }) (character-degree r l)

    pub character-found : (r : ℕ) → r < p → Found s.gens T 1 r (record { line = r * s.gens; deg = 1 })
    character-found r l = subst (Found n T 1 r) (one_is r l) (found_first s T W 1 r (omega arith) W.some (listed r l))

    -- ---- Their matrices

    line-room : (r g : ℕ) → r < p → g < n → r * n + g * 1 + 1 ≤ line_count T
    line-room r g l h = let e : suc r * n ≤ p * n = mul-le-mul_right {m = suc r} {n = p} n l in omega (arith, C.room, e)

    holds : (r g : ℕ) → r < p → g < n → Holds m T (r * n + g * 1) 1
    holds r g l h = record {
      small = modulus.1;
      fits = lines-there T (r * n + g * 1 + 1) (line-room r g l h);
      valid = λ k b.
          let e : r * n + g ≡ r * n + g * 1 + k = omega arith in
          record {
            row = let z = character-row r l g h in subst (λ a. word_at T a ROW < 1) e (omega (arith, z));
            exp = subst (λ a. word_at T a EXP < m) e (character-exp r g l h);
          };
      distinct = λ k k' b b' e. omega arith;
    }

    pub character-stored : (r : ℕ) → r < p → Stored s.m s.gens T (record { line = r * s.gens; deg = 1 })
    character-stored r l = record { positive = omega arith; degree = character-degree r l; holds = λ g h. holds r g l h }

    kept : (r : ℕ) → r < p → MatricesStored s T (one r)
    kept r l = record { few = W.few; modulus = modulus.0; stored = character-stored r l }

    -- ---- Generator 0

    abbrev e : ℕ → ℕ
    e r = exponent_of s.gens T r

    acts : (r : ℕ) → r < p → (t : ℕ) → act m (generator_in T (one r) 0) (entry 0 t) ≡ entry 0 ((t + e r) % m)
    acts r l t =
        let a : line_in (one r) 0 + 0 ≡ r * n = omega arith in
        let z : (entry_in T (line_in (one r) 0 + 0)).row ≡ 0 = ap (λ a. word_at T a ROW) a ∙ (C.each r l).row in
        act-fixed m T (line_in (one r) 0) 1 0 (omega arith) z t ∙ ap (λ a. entry 0 ((t + word_at T a EXP) % m)) a

    turns : (r : ℕ) → r < p → (k : ℕ) → iter (act m (generator_in T (one r) 0)) k (entry 0 0) ≡ entry 0 ((k * e r) % m)
    turns r l k =
        let z : 0 + k * e r ≡ k * e r = omega arith in
        iter-fixed m 0 (e r) (act m (generator_in T (one r) 0)) (acts r l) k 0 modulus.0 ∙ ap (λ x. entry 0 (x % m)) z

    -- ---- What the level lists

    target_is : (r j : ℕ) (l : r < length High) → (rep_of High r).ref j 0 ≡ word_at T (r * n + j) REF
    target_is r j l =
        let x : line_in (one r) j ≡ r * n + j = omega arith in
        found_target (character-found r (counted r l)) j ∙ ap (λ a. word_at T a REF) x

    column : (r g : ℕ) → r < length High → col ((rep_of High r).matrix g) 0 ≡ entry_in T (r * n + g)
    column r g l =
        let x : line_in (one r) g ≡ r * n + g = omega arith in
        found-head (character-found r (counted r l)) g ∙ ap (entry_in T) x

    exponent : (r : ℕ) → r < length High → (col ((rep_of High r).matrix 0) 0).exp ≡ e r
    exponent r l = let x : r * n + 0 ≡ r * n = omega arith in ap (λ (y : Entry). y.exp) (column r 0 l) ∙ ap (λ a. word_at T a EXP) x

    degree-is : (r : ℕ) → r < length High → (rep_of High r).deg ≡ 1
    degree-is r l = sym (character-found r (counted r l)).deg

    ref-is : (r : ℕ) → r < length High → (rep_of High r).ref 0 0 ≡ 0
    ref-is r l =
        let x : r * n + 0 ≡ r * n = omega arith in
        found-first-ref (character-found r (counted r l)) 0 ∙ ap (λ a. word_at T a REF) x ∙ (C.each r (counted r l)).refers

    apart : (r r' : ℕ) → r < length High → r' < length High → ¬ (r ≡ r') → ¬ ((col ((rep_of High r).matrix 0) 0).exp ≡ (col ((rep_of High r').matrix 0) 0).exp)
    apart r r' l l' ne q = C.apart r r' (counted r l) (counted r' l') ne (sym (exponent r l) ∙ q ∙ exponent r' l')

    one-reference : (r : ℕ) → r < length High → OneReference (rep_of High r)
    one-reference r l c h = let z : c ≡ 0 = omega (arith, degree-is r l) in ap ((rep_of High r).ref 0) z

    pub characters-unshared : Unshared 0 (level_at s.gens T 1)
    characters-unshared = record { apart = λ r r' l l' ne c c' h h' q. (one-reference r l, one-reference r' l', apart r r' l l' ne) }

    -- ---- Relations

    module _ (P : Presentation) (prime : p ≡ P.p 0) (power : to_nf 0 (get_or rows (pair_number 0 0) []) ≡ P.u 0)
        (word : (j : ℕ) → 0 < j → j < s.gens → to_nf 1 (get_or rows (pair_number j 0) []) ≡ P.w 0 j) where
      power-holds : (r : ℕ) → r < p → power_at P m (rep_in T (one r)) 0 0 ≡ true
      power-holds r l =
          let u = get_or rows (pair_number 0 0) [] in
          let y = turns r l p ∙ ap (entry 0) (C.power r l) in
          sym (power-moved m T (one r) P 0 p 0 0 u (entry 0 0) (entry 0 0) refl (sym y) (sym (walk-zero m (generator_in T (one r)) u (entry 0 0)))
          (record { prime = prime; word = power })) ∙ sym (entries-exp (entry 0 0) (entry 0 0) refl) ∙ eq-eqb 0 0 refl

      module _ (r j : ℕ) (l : r < p) (a : 0 < j) (b : j < n) where
        w : List ℕ
        w = get_or rows (pair_number j 0) []

        abbrev t : ℕ
        t = word_at T (r * s.gens + j) REF

        below : t < p
        below = ((C.each r l).images.each j a b).led.listed

        walked : walk m (generator_in T (one r)) 1 (to_nf 1 (get_or rows (pair_number j 0) [])) (entry 0 0) ≡ entry 0 ((word_on rows j * e r) % m)
        walked =
            let v = get_or rows (pair_number j 0) [] in
            walk-next m (generator_in T (one r)) v 0 (entry 0 0)
            ∙ ap (iter (act m (generator_in T (one r) 0)) (word_on rows j)) (walk-zero m (generator_in T (one r)) v (entry 0 0))
            ∙ turns r l (word_on rows j)

        abbrev z : Entry
        z = entry 0 ((word_on rows j * exponent_of s.gens T r % s.m + exponent_of s.gens T r) % s.m)

        conjugated : Conjugated m T (one r) 0 (get_or rows (pair_number j 0) []) 0 z
        conjugated = record {
          below = record { row = omega arith; exp = mod-lt _ modulus.0 };
          is = λ P j' is. conjugate-moved m T (one r) P 0 j' 1 0 (get_or rows (pair_number j 0) []) (entry 0 ((word_on rows j * e r) % m)) z refl
              (sym walked) (sym (acts r l ((word_on rows j * e r) % m))) is;
        }

        image : z.exp ≡ (0 + e t) % m
        image =
            let x : word_on rows j * e r + e r ≡ suc (word_on rows j) * e r = omega arith in
            let q : 0 + e t ≡ e t = omega arith in
            mod-add-mod (word_on rows j * e r) m (e r) ∙ ap (λ x. x % m) x ∙ ((C.each r l).images.each j a b).led.image
            ∙ sym (ap (λ x. x % m) q ∙ mod-eq_of_lt (C.below t below))

        carried : intertwines_at P m (rep_in T (one r)) (rep_in T (one t)) 0 j 0 ≡ true
        carried =
            sym (single-intertwiner (kept r l) refl P 0 j 0 W.some b (omega arith) (get_or rows (pair_number j 0) []) (record { word = word j a b })
            (kept t below) refl (entry 0 ((0 + e t) % m)) z conjugated (sym (acts t below 0)))
            ∙ eq-eqb z.exp ((0 + e t) % m) image

      -- ---- The level

      conjugate-holds : (r j : ℕ) → r < length High → 0 < j → j < n → intertwines_at P m (rep_of High r) (rep_of High ((rep_of High r).ref j 0)) 0 j 0 ≡ true
      conjugate-holds r j l a b =
          let x = below r j (counted r l) a b in
          let to : rep_in T (one (t r j (counted r l) a b)) ≡ rep_of High ((rep_of High r).ref j 0)
          = sym (character-found (t r j (counted r l) a b) x).rep ∙ ap (rep_of High) (sym (target_is r j l)) in
          subst (λ (F : Rep). intertwines_at P m (rep_of High r) F 0 j 0 ≡ true) to (
          subst (λ (X : Rep). intertwines_at P m X (rep_in T (one (t r j (counted r l) a b))) 0 j 0 ≡ true) (sym (character-found r (counted r l)).rep)
          (carried r j (counted r l) a b))

      level-fits : FirstFits P n m High
      level-fits = record {
        count = count ∙ prime;
        degree = degree-is;
        refers = ref-is;
        row = λ r g l b. ap (λ (y : Entry). y.row) (column r g l) ∙ character-row r (counted r l) g b;
        exp_below = λ r g l b. subst (λ x. x < m) (sym (ap (λ (y : Entry). y.exp) (column r g l))) (character-exp r g (counted r l) b);
        power = λ r l. subst (λ (X : Rep). power_at P m X 0 0 ≡ true) (sym (character-found r (counted r l)).rep) (power-holds r (counted r l));
        listed = λ r j l a b. let x = below r j (counted r l) a b in omega (arith, target_is r j l, x, count);
        conjugate = conjugate-holds;
        apart = apart;
      }

      zero-level : level_zero ≡ level_at n T 0
      unfolding level_at
      zero-level = refl

      pub characters-fit : (r : ℕ) → r < length (level_at s.gens T 1) → Fitting P s.gens s.m 0 (level_at s.gens T 0) (level_at s.gens T 1) r
      characters-fit r l = subst (λ (L : Level). Fitting P n m 0 L High r) zero-level ((first.first_fits P n m High level-fits).fit r l)
