-- The blocks of two levels of a table, by number, and the generator on top.
--
--   count-end, starts, passes_at, block_below, count-pos      the blocks of a representation
--   at_block, first-index                                     the first basis index of a block; of a representation
--   Stays                                                     the generator takes a basis index into its own block
--   G-rep, G-row, G-exp                                       the generator at the first column
--   outside-moves, moves-outside                              column 0 leaves its block exactly if the block moves
--   powers-inject                                             the powers of the generator on a block that moves
use mathlib.Core.Path.{◌≡◌, refl, sym, ◌∙◌, ap, ap₂, subst}
use mathlib.Core.Logic.{by_cases}
use mathlib.Core.Bool.{true}
use Prim.Native.Nat.{ℕ, suc, ◌≤◌, ◌<◌}
use native.Mathlib.Omega.{arith}
use native.Mathlib.Decide.{dec_lt, ℕ_discrete}
use lib.ListN.{length}
use borrow.Author.Tests.{le-leb, leb-true}
use Rattle.definitions.specs.declared.Entry.{Entry}
use Rattle.definitions.specs.Presentation.{power}
use Rattle.definitions.specs.Monomial.{col, entry, rep_of}
use Rattle.numbers.proofs.Pigeonhole.{Injects}
use Rattle.group.specs.Context.{Nf}
use Rattle.group.proofs.Values.{power-one, power-hom, value-suc, value-trivial}
use Rattle.group.proofs.Level.{level, top}
use Rattle.monomial.specs.Maps.{Map, maps}
use Rattle.monomial.proofs.Maps.{maps-laws}
use Rattle.monomial.proofs.Residues.{residues}
use Rattle.separation.specs.Decision.{block_count, outside}
use Rattle.separation.proofs.Foreign.{D, D-shows, d, d-hom, form-shows}
use Rattle.separation.proofs.Cutting.{cut, cut-zero, cut-le, width, cut_below, cuts-each, cuts-end}
use Rattle.separation.proofs.Restricted.{Two, P, Low, High, Rp, S, Ω⁺, F, passing, all_pass, fits, wide, locate, locate-is, blocked}
use Rattle.separation.proofs.Blocks.{Z, Zᵏ, powers-differ}

module _ (W : Two) where
  open W use {C, m, pos, table, i, fair}

  abbrev pub count : ℕ → ℕ
  count = block_count (P W) table i

  -- ---- Blocks

  pub count-end : (r : ℕ) → r < length (High W) → cut (Low W) (Rp W r) (count r) ≡ (Rp W r).deg
  unfolding block_count
  count-end r h = cuts-end (Low W) (Rp W r) (passing W r) (wide W r) (fits W r) (all_pass W r h)

  pub starts : (r b : ℕ) → b < count r → cut (Low W) (Rp W r) b < (Rp W r).deg
  unfolding block_count
  starts r b l = cut_below (Low W) (Rp W r) b l

  pub passes_at : (r b : ℕ) → r < length (High W) → b < count r → passing W r (cut (Low W) (Rp W r) b) ≡ true
  passes_at r b h l = cuts-each (Low W) (Rp W r) (passing W r) (wide W r) (all_pass W r h) b (starts r b l)

  pub begins-below : (r b : ℕ) → r < length (High W) → cut (Low W) (Rp W r) b < (Rp W r).deg → b < count r
  begins-below r b h l = by_cases (dec_lt (count r) b) (λ a. omega (arith, count-end r h, cut-le (Low W) (Rp W r) (count r) b a))
      (λ a. by_cases (ℕ_discrete b (count r)) (λ e. omega (arith, count-end r h, ap (cut (Low W) (Rp W r)) e)) (λ e. omega arith))

  pub block_below : (x : Ω⁺ W) → (locate W x).b < count x.0.0
  block_below x = begins-below x.0.0 (locate W x).b x.1.0 (omega (arith, (locate W x).is, x.1.1))

  pub count-pos : (r : ℕ) → r < length (High W) → 0 < count r
  count-pos r h = begins-below r 0 h (subst (λ z. z < (Rp W r).deg) (sym (cut-zero (Low W) (Rp W r))) (fair.degree_pos r h))

  -- the first basis index of a block
  abbrev pub at_block : (r b : ℕ) → r < length (High W) → b < count r → Ω⁺ W
  at_block r b h l = ((r, cut (Low W) (Rp W r) b), (h, starts r b l))

  pub at-located : (r b : ℕ) (h : r < length (High W)) (l : b < count r) → ((locate W (at_block r b h l)).b ≡ b) × ((locate W (at_block r b h l)).κ ≡ 0)
  at-located r b h l = locate-is W (at_block r b h l) b 0 (wide W r (cut (Low W) (Rp W r) b) (passes_at r b h l)) (omega arith)

  abbrev pub first-index : (r : ℕ) → r < length (High W) → Ω⁺ W
  first-index r h = ((r, 0), (h, fair.degree_pos r h))

  pub first-located : (r : ℕ) (h : r < length (High W)) → ((locate W (first-index r h)).b ≡ 0) × ((locate W (first-index r h)).κ ≡ 0)
  first-located r h = locate-is W (first-index r h) 0 0 (wide W r (cut (Low W) (Rp W r) 0) (passes_at r 0 h (count-pos r h)))
      (omega (arith, cut-zero (Low W) (Rp W r)))

  -- ---- The generator on top

  abbrev pub G : Map (residues m pos) (Ω⁺ W)
  G = Z (S W) (F W) (blocked W)

  abbrev pub Gᵏ : ℕ → Map (residues m pos) (Ω⁺ W)
  Gᵏ = Zᵏ (S W) (F W) (blocked W)

  pub form-rep : (w : Nf C (suc i)) (x : Ω⁺ W) → (d C m pos (suc i) (High W) fair w x).0.0.0 ≡ x.0.0
  form-rep w x = (form-shows C m pos (suc i) (High W) fair x.0.0 x.1.0 w).maps_to x refl

  pub G-rep : (x : Ω⁺ W) → (G x).0.0.0 ≡ x.0.0
  G-rep x = form-rep (top C i) x

  pub Gᵏ-rep : (e : ℕ) (x : Ω⁺ W) → (Gᵏ e x).0.0.0 ≡ x.0.0
  Gᵏ-rep e x = ap (λ (M : Map (residues m pos) (Ω⁺ W)). (M x).0.0.0) (sym (power-hom (d-hom C m pos (suc i) (High W) fair) (top C i) e))
      ∙ form-rep (power (level C (suc i)) (top C i) e) x

  first-shown : (r : ℕ) (h : r < length (High W)) → col ((Rp W r).matrix i) 0 ≡ entry (G (first-index r h)).0.0.1 (G (first-index r h)).1.0
  unfolding d top
  first-shown r h =
      let top_is : G ≡ D (P W) m pos (suc i) (High W) fair i = value-suc (maps (residues m pos) (Ω⁺ W)) (D (P W) m pos (suc i) (High W) fair) i _
      ∙ ap₂ (maps (residues m pos) (Ω⁺ W)).mul (power-one (maps-laws (residues m pos)) _)
      (value-trivial (maps-laws (residues m pos)) (D (P W) m pos (suc i) (High W) fair) i) ∙ (maps-laws (residues m pos)).idr _ in
      (D-shows (P W) m pos (suc i) (High W) fair r i h (omega arith)).shown (first-index r h) refl
      ∙ ap (λ (M : Map (residues m pos) (Ω⁺ W)). entry (M (first-index r h)).0.0.1 (M (first-index r h)).1.0) (sym top_is)

  pub G-row : (r : ℕ) (h : r < length (High W)) → (col ((Rp W r).matrix i) 0).row ≡ (G (first-index r h)).0.0.1
  G-row r h = ap (λ (y : Entry). y.row) (first-shown r h)

  pub G-exp : (r : ℕ) (h : r < length (High W)) → (col ((Rp W r).matrix i) 0).exp ≡ (G (first-index r h)).1.0
  G-exp r h = ap (λ (y : Entry). y.exp) (first-shown r h)

  -- ---- Blocks that stay

  abbrev pub block : Ω⁺ W → ℕ × ℕ
  block x = (x.0.0, (locate W x).b)

  pub same_block : (x y : Ω⁺ W) → x.0.0 ≡ y.0.0 → (locate W x).b ≡ (locate W y).b → block x ≡ block y
  same_block x y p q = λ o. (p o, q o)

  abbrev pub Stays : Ω⁺ W → Type 0
  Stays x = block (G x).0 ≡ block x

  pub stays? : (x : Ω⁺ W) → Dec (Stays x)
  stays? x = by_cases (ℕ_discrete (locate W (G x).0).b (locate W x).b) (λ e. yes (same_block (G x).0 x (G-rep x) e))
      (λ e. no (λ q. e (ap (λ z. z.1) q)))

  width-zero : (r : ℕ) → width (Low W) (Rp W r) 0 ≡ (rep_of (Low W) ((Rp W r).ref 0 0)).deg
  width-zero r = ap (λ o. (rep_of (Low W) ((Rp W r).ref 0 o)).deg) (cut-zero (Low W) (Rp W r))

  pub outside-moves : (r : ℕ) (h : r < length (High W)) → outside (P W) table i r ≡ true → ¬ Stays (first-index r h)
  unfolding outside
  outside-moves r h o q =
      let y : Ω⁺ W = (G (first-index r h)).0 in
      let b-zero : (locate W y).b ≡ 0 = ap (λ z. z.1) q ∙ (first-located r h).0 in
      let ry : y.0.0 ≡ r = G-rep (first-index r h) in
      let inside : (locate W y).κ < width (Low W) (Rp W r) 0 = subst (λ s. (locate W y).κ < width (Low W) (Rp W s) 0) ry
      (subst (λ b. (locate W y).κ < width (Low W) (Rp W y.0.0) b) b-zero (locate W y).inside) in
      let col-y : (locate W y).κ ≡ y.0.1 = omega (arith, (locate W y).is, ap (cut (Low W) (Rp W y.0.0)) b-zero, cut-zero (Low W) (Rp W y.0.0)) in
      let far : (rep_of (Low W) ((Rp W r).ref 0 0)).deg ≤ (col ((Rp W r).matrix i) 0).row = leb-true _ _ o in
      omega (arith, width-zero r, G-row r h)

  pub moves-outside : (r : ℕ) (h : r < length (High W)) → ¬ Stays (first-index r h) → outside (P W) table i r ≡ true
  unfolding outside
  moves-outside r h mv = by_cases (dec_lt (col ((Rp W r).matrix i) 0).row (rep_of (Low W) ((Rp W r).ref 0 0)).deg) (λ l.
      let y : Ω⁺ W = (G (first-index r h)).0 in
      let ry : y.0.0 ≡ r = G-rep (first-index r h) in
      let inside : y.0.1 < width (Low W) (Rp W y.0.0) 0 = subst (λ s. y.0.1 < width (Low W) (Rp W s) 0) (sym ry)
      (omega (arith, width-zero r, G-row r h)) in
      let zero-b : (locate W y).b ≡ 0 = (locate-is W y 0 y.0.1 inside (omega (arith, cut-zero (Low W) (Rp W y.0.0)))).0 in
      absurd (mv (same_block y (first-index r h) ry (zero-b ∙ sym (first-located r h).0))))
      (λ l. le-leb (rep_of (Low W) ((Rp W r).ref 0 0)).deg (col ((Rp W r).matrix i) 0).row (omega arith))

  -- ---- The powers on a block that moves

  pub powers-inject : (r : ℕ) (h : r < length (High W)) → ¬ Stays (first-index r h)
      → Injects ((P W).p i) (count r) (λ e. (locate W (Gᵏ e (first-index r h)).0).b)
  powers-inject r h mv =
      let x : Ω⁺ W = first-index r h in
      let differ : (e e' : ℕ) → e < e' → e' < (P W).p i → (locate W (Gᵏ e x).0).b ≡ (locate W (Gᵏ e' x).0).b → ⊥ = λ e e' a l q.
      powers-differ (S W) (F W) (blocked W) x mv e e' a l (same_block (Gᵏ e x).0 (Gᵏ e' x).0 (Gᵏ-rep e x ∙ sym (Gᵏ-rep e' x)) q) in
      record {
        below = λ e l. subst (λ s. (locate W (Gᵏ e x).0).b < count s) (Gᵏ-rep e x) (block_below (Gᵏ e x).0);
        injective = λ e e' l l' q. by_cases (dec_lt e e') (λ a. absurd (differ e e' a l' q))
            (λ a. by_cases (dec_lt e' e) (λ b. absurd (differ e' e b l (sym q))) (λ b. omega arith));
      }
