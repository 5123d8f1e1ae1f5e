-- Where 21 to 23 hold on two levels and the lower passes 25, the upper passes 25 exactly if the quick test passes.
--
--   quick-separates       the quick test gives 25
--   separates-quick       25 gives the quick test
--   decides               so the quick test decides 25
use mathlib.Core.Path.{◌≡◌, refl, sym, ◌∙◌, ap, ap₂, subst}
use mathlib.Core.Bool.{Bool, true, ◌&&◌, ◌||◌, not}
use mathlib.Core.Logic.{◌↔◌, by_cases}
use Prim.Native.Nat.{ℕ, suc, ◌+◌, ◌≤◌, ◌<◌}
use native.Mathlib.Omega.{arith}
use native.Mathlib.Decide.{dec_lt, ℕ_discrete}
use lib.Dec.{eqb}
use lib.ListN.{length}
use borrow.Author.Tests.{eqb-true, eqb-false, eq-eqb, ne_eqb, not-true}
use Rattle.definitions.specs.Lists.{all_below, all}
use Rattle.definitions.specs.Monomial.{col}
use Rattle.definitions.specs.Judgement
use Rattle.numbers.proofs.Bools.{and_left, and_right, and_intro, or_left, or_right, first, second, or_cases}
use Rattle.numbers.proofs.Lists.{all_below-elim, all_below-intro}
use Rattle.numbers.proofs.Pigeonhole.{Injects, injects-le, injects-onto}
use Rattle.group.specs.Context.{Nf}
use Rattle.group.proofs.Level.{low}
use Rattle.monomial.specs.Maps.{Map}
use Rattle.monomial.specs.Families.{Separated}
use Rattle.monomial.proofs.Exponents.{cancel}
use Rattle.monomial.proofs.Residues.{residues, Residue-path}
use Rattle.separation.specs.Decision.{block_starts, unshared, differs, quick}
use Rattle.separation.proofs.Foreign.{d, form-shows, reached, separated}
use Rattle.clifford.proofs.Basis.{basis-path, basis-discrete, basis-complete}
use Rattle.clifford.proofs.Separates.{separates-from}
use Rattle.separation.proofs.Cutting.{cut, cuts-also, cuts-all}
use Rattle.separation.proofs.Restricted.{Two, P, Low, High, Rp, S, Ω⁺, F, passing, all_pass, wide, locate, base, blocked, block-known}
use Rattle.separation.proofs.Pairs.{Many, parted-one, parted-many, one-parted, many-parted, quick-all}
use Rattle.separation.proofs.Blocks as B
use Rattle.separation.proofs.Numbers.{count, starts, begins-below, block_below, count-pos, at_block, at-located, first-index, first-located}
use Rattle.separation.proofs.Numbers.{G, Gᵏ, G-rep, Gᵏ-rep, G-exp, block, same_block, Stays, stays?, outside-moves, moves-outside, powers-inject}

module _ (W : Two) where
  open W use {C, tests, m, pos, table, i, in_range, fair}

  abbrev len_h : ℕ
  len_h = length (High W)

  abbrev act : Nf C (suc i) → Map (residues m pos) (Ω⁺ W)
  act = d C m pos (suc i) (High W) fair

  abbrev ref : ℕ → ℕ → ℕ
  ref r o = (Rp W r).ref 0 o

  abbrev Sep : Ω⁺ W → Ω⁺ W → Type 0
  Sep = Separated (residues m pos) (Ω⁺ W) act

  -- ---- Bases and references

  -- basis indices at one column of blocks with one reference have one base
  one_base : (x y : Ω⁺ W) (b b' κ : ℕ) → ((locate W x).b ≡ b) × ((locate W x).κ ≡ κ) → ((locate W y).b ≡ b') × ((locate W y).κ ≡ κ)
      → ref x.0.0 (cut (Low W) (Rp W x.0.0) b) ≡ ref y.0.0 (cut (Low W) (Rp W y.0.0) b') → base W x ≡ base W y
  unfolding base
  one_base x y b b' κ p p' q = basis-path (Low W) (base W x) (base W y)
      (ap (λ k. ref x.0.0 (cut (Low W) (Rp W x.0.0) k)) p.0 ∙ q ∙ sym (ap (λ k. ref y.0.0 (cut (Low W) (Rp W y.0.0) k)) p'.0))
      (p.1 ∙ sym p'.1)

  first-base : (r r' : ℕ) (h : r < len_h) (h' : r' < len_h) → ref r 0 ≡ ref r' 0 → base W (first-index W r h) ≡ base W (first-index W r' h')
  unfolding cut
  first-base r r' h h' q = one_base (first-index W r h) (first-index W r' h') 0 0 0 (first-located W r h) (first-located W r' h') q

  -- ---- A representation of one block

  single-block : (x : Ω⁺ W) → count W x.0.0 ≡ 1 → (locate W x).b ≡ 0
  single-block x e = omega (arith, block_below W x)

  single-stays : (x : Ω⁺ W) → count W x.0.0 ≡ 1 → Stays W x
  single-stays x e =
      let y : Ω⁺ W = (G W x).0 in
      same_block W y x (G-rep W x) (single-block y (ap (count W) (G-rep W x) ∙ e) ∙ sym (single-block x e))

  -- ---- The quick test gives 25

  module _ (test : quick (P W) table i ≡ true) where
    -- what the test says of two representations of one block, and of one of more
    single-says : (r : ℕ) → r < len_h → count W r ≡ 1 → (r' : ℕ) → r' < len_h → ¬ (r ≡ r') → count W r' ≡ 1 → ref r 0 ≡ ref r' 0
        → ¬ ((col ((Rp W r).matrix i) 0).exp ≡ (col ((Rp W r').matrix i) 0).exp)
    unfolding differs
    single-says r h e r' h' ne e' q z =
        let t = parted-one (P W) table i r (quick-all (P W) table i test r h) (eq-eqb (count W r) 1 e) r' h' ne (eq-eqb (count W r') 1 e') in
        elim (or_cases (not (eqb (ref r 0) (ref r' 0))) _ t) [ first s ↦ eqb-false _ _ (not-true _ s) q | second s ↦ eqb-false _ _ (not-true _ s) z ]

    many-says : (r : ℕ) → r < len_h → ¬ (count W r ≡ 1) → Many (P W) table i r
    many-says r h ne = parted-many (P W) table i r (quick-all (P W) table i test r h) (ne_eqb (count W r) 1 ne)

    -- no other block has a reference of a representation of more blocks than one
    lonely : (x y : Ω⁺ W) → ¬ (count W x.0.0 ≡ 1) → base W x ≡ base W y → block W x ≡ block W y
    unfolding unshared base
    lonely x y ne q =
        let r : ℕ = x.0.0 in
        let r' : ℕ = y.0.0 in
        let o : ℕ = cut (Low W) (Rp W r) (locate W x).b in
        let o' : ℕ = cut (Low W) (Rp W r') (locate W y).b in
        let at_x = at_cut x (λ o. all (λ o'. (eqb r r' && eqb o o') || not (eqb (ref r o) (ref r' o'))) (block_starts (P W) table i r'))
        ((many-says r x.1.0 ne).alone r' y.1.0) in
        elim (or_cases (eqb r r' && eqb o o') _ (at_cut y (λ o'. (eqb r r' && eqb o o') || not (eqb (ref r o) (ref r' o'))) at_x)) [
          | first a ↦ ap (block W) (basis-path (High W) x y (eqb-true _ _ (and_left (eqb r r') _ a)) (sym (locate W x).is
              ∙ ap₂ (◌+◌) (eqb-true o o' (and_right (eqb r r') _ a)) (ap (λ z. z.0.1) q) ∙ (locate W y).is))
          | second a ↦ absurd (eqb-false _ _ (not-true _ a) (ap (λ z. z.0.0) q))
        ]
      where
        -- a test of every cut, at that of a basis index
        at_cut : (x : Ω⁺ W) (q : ℕ → Bool) → all q (block_starts (P W) table i x.0.0) ≡ true → q (cut (Low W) (Rp W x.0.0) (locate W x).b) ≡ true
        at_cut x q t = cuts-also (Low W) (Rp W x.0.0) (passing W x.0.0) q (wide W x.0.0) (all_pass W x.0.0 x.1.0) t (locate W x).b
            (starts W x.0.0 (locate W x).b (block_below W x))

    -- two of one block with one base: the exponents of the generator differ all over two blocks as they do at the first columns
    two-singles : (x y : Ω⁺ W) → count W x.0.0 ≡ 1 → count W y.0.0 ≡ 1 → base W x ≡ base W y → ¬ (x ≡ y) → Sep x y
    unfolding base cut
    two-singles x y ex ey q ne =
        let r : ℕ = x.0.0 in
        let r' : ℕ = y.0.0 in
        let h : r < len_h = x.1.0 in
        let h' : r' < len_h = y.1.0 in
        let x₀ : Ω⁺ W = first-index W r h in
        let y₀ : Ω⁺ W = first-index W r' h' in
        let bx : (locate W x).b ≡ 0 = single-block x ex in
        let by : (locate W y).b ≡ 0 = single-block y ey in
        let other : ¬ (r ≡ r') = λ e. ne (block-known W x y q (same_block W x y e (bx ∙ sym by))) in
        let refs : ref r 0 ≡ ref r' 0 = sym (ap (λ k. ref r (cut (Low W) (Rp W r) k)) bx) ∙ ap (λ z. z.0.0) q
        ∙ ap (λ k. ref r' (cut (Low W) (Rp W r') k)) by in
        B.fixed-separates (S W) (F W) (blocked W) x y q (single-stays x ex) (single-stays y ey) (λ e.
        let ratio = B.ratio-step (S W) (F W) (blocked W) x₀ y₀ x y (first-base r r' h h' refs) q
        (same_block W x₀ x refl ((first-located W r h).0 ∙ sym bx)) (same_block W y₀ y refl ((first-located W r' h').0 ∙ sym by)) in
        let firsts = cancel (residues m pos) (G W x).1 _ _ (ratio ∙ ap (λ z. (residues m pos).add z (G W x₀).1) (sym e)) in
        single-says r h ex r' h' other ey refs (G-exp W r h ∙ ap (λ z. z.0) (sym firsts) ∙ sym (G-exp W r' h')))

    all-separated : (x y : Ω⁺ W) → ¬ (x ≡ y) → Sep x y
    all-separated x y ne = go ((F W).decide (base W x) (base W y)) (ℕ_discrete (count W x.0.0) 1) (ℕ_discrete (count W y.0.0) 1)
      where
        go : Dec (base W x ≡ base W y) → Dec (count W x.0.0 ≡ 1) → Dec (count W y.0.0 ≡ 1) → Sep x y
        go (no q) a b = B.base-separates (S W) (F W) (blocked W) x y q
        go (yes q) (no a) b = absurd (ne (block-known W x y q (lonely x y a q)))
        go (yes q) (yes a) (no b) = absurd (ne (block-known W x y q (sym (lonely y x b (sym q)))))
        go (yes q) (yes a) (yes b) = two-singles x y a b q ne

    all-reached : (r k : ℕ) (h : r < len_h) (a : k < (Rp W r).deg) → (w : Nf C (suc i)) × ((act w (first-index W r h)).0 ≡ ((r, k), (h, a)))
    all-reached r k h a =
        let x : Ω⁺ W = first-index W r h in
        let y : Ω⁺ W = ((r, k), (h, a)) in
        by_cases (ℕ_discrete (count W r) 1)
        (λ e. let (g, s) = B.same_block (S W) (F W) (blocked W) x y (same_block W x y refl (single-block x e ∙ sym (single-block y e))) in (low C i g, s))
        (λ e.
        let M = many-says r h e in
        let c : count W r ≡ (P W).p i = eqb-true _ _ M.count in
        let (k, l, s) = injects-onto ((P W).p i) (λ e. (locate W (Gᵏ W e x).0).b)
        (subst (λ b. Injects ((P W).p i) b (λ e. (locate W (Gᵏ W e x).0).b)) c (powers-inject W r h (outside-moves W r h M.moved))) (locate W y).b
        (subst (λ b. (locate W y).b < b) c (block_below W y)) in
        B.reaches (S W) (F W) (blocked W) k x y (same_block W (Gᵏ W k x).0 y (Gᵏ-rep W k x) s))

    pub quick-separates : (r : ℕ) → r < length (High W) → Judgement.separates W.C.P W.m W.table (suc W.i) r ≡ true
    quick-separates r h =
        separates-from C m pos table (suc i) (λ (x : Ω⁺ W). x.1.1) (basis-complete (High W)) act (form-shows C m pos (suc i) (High W) fair) r h
        (fair.degree_pos r h) (λ k a. all-reached r k h a) all-separated

  -- ---- 25 gives the quick test

  module _ (sep : (r : ℕ) → r < length (High W) → Judgement.separates W.C.P W.m W.table (suc W.i) r ≡ true) where
    separate : (x y : Ω⁺ W) → ¬ (x ≡ y) → Sep x y
    separate = separated C tests m pos table (suc i) in_range fair sep

    -- every block is that of a power below the p-th
    power-of : (x y : Ω⁺ W) → x.0.0 ≡ y.0.0 → (e : ℕ) × (e < (P W).p i) × (block W (Gᵏ W e x).0 ≡ block W y)
    power-of x y q =
        let (w, s) = reached C tests m pos table (suc i) in_range fair sep x y q in
        (w.0.0, w.1.0, B.reached-power (S W) (F W) (blocked W) w x ∙ ap (block W) s)

    -- the first block stays: there is one block
    stays-single : (r : ℕ) (h : r < len_h) → Stays W (first-index W r h) → count W r ≡ 1
    stays-single r h st = by_cases (dec_lt 1 (count W r)) (λ l.
        let x : Ω⁺ W = first-index W r h in
        let y : Ω⁺ W = at_block W r 1 h l in
        let (e, a, s) = power-of x y refl in
        let same : block W x ≡ block W y = sym (B.fixed-power (S W) (F W) (blocked W) x st e) ∙ s in
        omega (arith, ap (λ z. z.1) same, (at-located W r 1 h l).0, (first-located W r h).0)) (λ l. omega (arith, count-pos W r h))

    -- the first block moves: every block moves, and there are p
    moves-all : (r : ℕ) (h : r < len_h) → ¬ Stays W (first-index W r h) → (y : Ω⁺ W) → y.0.0 ≡ r → ¬ Stays W y
    moves-all r h mv y q st =
        let x : Ω⁺ W = first-index W r h in
        let (e, a, s) = power-of x y (sym q) in
        let z : Ω⁺ W = (Gᵏ W e x).0 in
        mv (B.fixed_back (S W) (F W) (blocked W) e (omega arith) x (B.step_block (S W) (F W) (blocked W) z y s ∙ st ∙ sym s))

    moves-count : (r : ℕ) (h : r < len_h) → ¬ Stays W (first-index W r h) → count W r ≡ (P W).p i
    moves-count r h mv =
        let x : Ω⁺ W = first-index W r h in
        let to : ℕ → ℕ = λ e. (locate W (Gᵏ W e x).0).b in
        -- a power that maps to block k
        let back : (k : ℕ) → (e : ℕ) × (k < count W r → (e < (P W).p i) × (to e ≡ k)) = λ k. by_cases (dec_lt k (count W r))
        (λ l. let (e, a, s) = power-of x (at_block W r k h l) refl in (e, λ l'. (a, ap (λ z. z.1) s ∙ (at-located W r k h l).0)))
        (λ l. (0, λ l'. absurd (l l'))) in
        let a : (P W).p i ≤ count W r = injects-le ((P W).p i) (count W r) to (powers-inject W r h mv) in
        let b : count W r ≤ (P W).p i = injects-le (count W r) ((P W).p i) (λ k. (back k).0) (record {
          below = λ k l. ((back k).1 l).0;
          injective = λ j k l l' q. sym ((back j).1 l).1 ∙ ap to q ∙ ((back k).1 l').1;
        }) in
        omega arith

    moves-unshared : (r : ℕ) (h : r < len_h) → ¬ Stays W (first-index W r h) → (r' : ℕ) → r' < len_h → unshared (P W) table i r r' ≡ true
    unfolding unshared
    moves-unshared r h mv r' h' =
        cuts-all (Low W) (Rp W r) _
        (λ b a. cuts-all (Low W) (Rp W r') _ (λ b' a'. each (at_block W r b h (begins-below W r b h a)) (at_block W r' b' h' (begins-below W r' b' h' a'))
        (moves-all r h mv _ refl) (λ q. one_base _ _ b b' 0 (at-located W r b h _) (at-located W r' b' h' _) q)))
      where
        -- what has one reference, and so one base, is not separated
        each : (x y : Ω⁺ W) → ¬ Stays W x → (ref x.0.0 x.0.1 ≡ ref y.0.0 y.0.1 → base W x ≡ base W y)
            → (eqb x.0.0 y.0.0 && eqb x.0.1 y.0.1) || not (eqb (ref x.0.0 x.0.1) (ref y.0.0 y.0.1)) ≡ true
        each x y mv bases = by_cases (ℕ_discrete (ref x.0.0 x.0.1) (ref y.0.0 y.0.1))
            (λ q. or_left (eqb x.0.0 y.0.0 && eqb x.0.1 y.0.1) _ (by_cases (basis-discrete (High W) x y)
            (λ e. and_intro _ _ (eq-eqb _ _ (ap (λ z. z.0.0) e)) (eq-eqb _ _ (ap (λ z. z.0.1) e)))
            (λ ne. absurd (B.moved-together (S W) (F W) (blocked W) x y (bases q) mv (separate x y ne)))))
            (λ q. or_right (eqb x.0.0 y.0.0 && eqb x.0.1 y.0.1) _ (ap not (ne_eqb _ _ q)))

    -- two of one block with one reference differ in the exponent of the generator
    singles-differ : (r r' : ℕ) (h : r < len_h) (h' : r' < len_h) → ¬ (r ≡ r') → count W r ≡ 1 → count W r' ≡ 1 → ref r 0 ≡ ref r' 0
        → ¬ ((col ((Rp W r).matrix i) 0).exp ≡ (col ((Rp W r').matrix i) 0).exp)
    singles-differ r r' h h' ne e e' q s =
        let x : Ω⁺ W = first-index W r h in
        let y : Ω⁺ W = first-index W r' h' in
        B.fixed-together (S W) (F W) (blocked W) x y (first-base r r' h h' q) (single-stays x e) (single-stays y e')
        (Residue-path m _ _ (sym (G-exp W r h) ∙ s ∙ G-exp W r' h')) (separate x y (λ z. ne (ap (λ z. z.0.0) z)))

    pub separates-quick : quick W.C.P W.table W.i ≡ true
    unfolding quick differs
    separates-quick = all_below-intro len_h _ (λ r h. by_cases (stays? W (first-index W r h)) (λ st.
        let e : count W r ≡ 1 = stays-single r h st in
        one-parted (P W) table i r (eq-eqb _ 1 e) (λ r' h' ne e'. by_cases (ℕ_discrete (ref r 0) (ref r' 0))
        (λ q. or_right (not (eqb (ref r 0) (ref r' 0))) _ (ap not (ne_eqb _ _ (singles-differ r r' h h' ne e (eqb-true _ 1 e') q))))
        (λ q. or_left (not (eqb (ref r 0) (ref r' 0))) _ (ap not (ne_eqb _ _ q)))))
        (λ mv.
        let c : count W r ≡ (P W).p i = moves-count r h mv in
        many-parted (P W) table i r (ne_eqb (count W r) 1 (λ z. omega (arith, C.two i)))
        (record { count = eq-eqb _ _ c; moved = moves-outside W r h mv; alone = moves-unshared r h mv })))

  -- the quick test decides 25
  pub decides : (all_below (length (High W)) (Judgement.separates W.C.P W.m W.table (suc W.i)) ≡ true) ↔ (quick W.C.P W.table W.i ≡ true)
  decides = (λ t. separates-quick (λ r h. all_below-elim (length (High W)) _ t r h), λ t. all_below-intro (length (High W)) _ (λ r h. quick-separates t r h))
