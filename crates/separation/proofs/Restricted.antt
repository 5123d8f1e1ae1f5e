-- Any table's level that is fair and restricts to a family below is cut into blocks of that family.
--
--   Two               two levels of a table, the lower one separated
--   locate, base       a basis index of the upper level, in its block; the basis index below
--   over-generator    a generator of the lower level acts in a block as below
--   blocked           the upper level as Blocked over the family of the lower
use mathlib.Core.Path.{◌≡◌, refl, sym, ◌∙◌, ap, ap₂, subst}
use mathlib.Core.Bool.{Bool, true, ◌&&◌}
use mathlib.Core.List.{List}
use Prim.Native.Nat.{ℕ, suc, ◌+◌, ◌%◌, ◌≤◌, ◌<◌}
use native.Mathlib.Nat.{mod-eq_of_lt}
use native.Mathlib.Omega.{arith}
use lib.Dec.{eqb, ltb}
use lib.ListN.{length}
use borrow.Author.Tests.{ltb-true, leb-true, eqb-true}
use Rattle.definitions.specs.declared.Entry.{Entry}
use Rattle.definitions.specs.Lists.{all}
use Rattle.definitions.specs.Presentation.{Presentation, value}
use Rattle.definitions.specs.Monomial.{entry, col, same_entry, Rep, Level, rep_of}
use Rattle.definitions.specs.Table.{level_at}
use Rattle.definitions.specs.Judgement
use Rattle.numbers.proofs.Bools.{and_left, and_right}
use Rattle.numbers.proofs.Lists.{all_below-elim}
use Rattle.numbers.proofs.Prime.{Units}
use Rattle.group.specs.Context.{Context, Nf}
use Rattle.group.proofs.Values.{power_zero, value-suc}
use Rattle.group.proofs.Level.{level, conj_nf, low}
use Rattle.group.proofs.Group.{Test, TestedContext}
use Rattle.monomial.specs.Maps.{Map, maps}
use Rattle.monomial.specs.Families.{Family}
use Rattle.monomial.specs.Over.{At, Over}
use Rattle.monomial.proofs.Maps.{maps-laws}
use Rattle.monomial.proofs.Residues.{residues, Residue-path}
use Rattle.monomial.proofs.Over.{over-value}
use Rattle.clifford.specs.Extension.{Extension}
use Rattle.clifford.proofs.Levels.{extension}
use Rattle.clifford.proofs.Basis.{Basis, basis-path}
use Rattle.separation.specs.Blocked.{Blocked}
use Rattle.separation.specs.Fair.{Fair}
use Rattle.separation.specs.Restricting.{Restricting}
use Rattle.separation.proofs.Foreign.{D, D-shows, d, d-hom, word, form-shows, foreign-family}
use Rattle.separation.proofs.Cutting.{all_both, cut, width, cut-one, Cut, cut_at}

pub record Two : Type 0 where
  pub C : Context
  pub tests : (k : ℕ) → k < C.P.n → Test C k
  pub m : ℕ
  pub pos : 0 < m
  pub table : List ℕ
  pub i : ℕ
  pub in_range : i < C.P.n
  pub units : Units (C.P.p i)
  pub low_fair : Fair C.P m i (level_at C.P.n table i)
  pub low_separates : (r : ℕ) → r < length (level_at C.P.n table i) → Judgement.separates C.P m table i r ≡ true
  pub fair : Fair C.P m (suc i) (level_at C.P.n table (suc i))
  pub restricting : Restricting C.P m table i

module _ (W : Two) where
  open W use {C, tests, m, pos, table, i, in_range, low_fair, fair, restricting}

  abbrev pub P : Presentation
  P = C.P

  abbrev pub Low : Level
  Low = level_at C.P.n table i

  abbrev pub High : Level
  High = level_at C.P.n table (suc i)

  abbrev pub Rp : ℕ → Rep
  Rp r = rep_of High r

  abbrev pub T : TestedContext
  T = record { context = C; n = C.P.n; tests = tests }

  abbrev pub S : Extension (level W.C W.i) (level W.C (suc W.i)) (conj_nf W.C W.i) (conj_nf W.C (suc W.i)) W.i W.C.P.n
  S = extension T i in_range

  abbrev pub Ω : Type 0
  Ω = Basis Low

  abbrev pub Ω⁺ : Type 0
  Ω⁺ = Basis High

  abbrev pub F : Family (residues m pos) Ω (level C i) (conj_nf C i) i i
  F = foreign-family C tests m pos table i (omega arith) low_fair W.low_separates

  -- ---- The block of a basis index

  unfoldable pub passing : ℕ → ℕ → Bool
  passing r o = Judgement.whole_block Low (Rp r) o && Judgement.block_restricts P m table i (Rp r) o

  pub all_pass : (r : ℕ) → r < length High → all (passing r) (Judgement.cuts Low (Rp r)) ≡ true
  unfolding passing
  all_pass r h = all_both _ _ (Judgement.cuts Low (Rp r)) (restricting.whole r h) (restricting.acts r h)

  pub listed : (r o : ℕ) → passing r o ≡ true → (Rp r).ref 0 o < length Low
  unfolding passing Judgement.whole_block
  listed r o h = ltb-true _ _ (and_left _ _ (and_left _ _ (and_left (Judgement.whole_block Low (Rp r) o) _ h)))

  pub fits : (r o : ℕ) → passing r o ≡ true → o + (rep_of Low ((Rp r).ref 0 o)).deg ≤ (Rp r).deg
  unfolding passing Judgement.whole_block
  fits r o h = leb-true _ _ (and_right (ltb ((Rp r).ref 0 o) (length Low)) _ (and_left _ _ (and_left (Judgement.whole_block Low (Rp r) o) _ h)))

  pub wide : (r o : ℕ) → passing r o ≡ true → 0 < (rep_of Low ((Rp r).ref 0 o)).deg
  wide r o h = low_fair.degree_pos ((Rp r).ref 0 o) (listed r o h)

  pub locate : (x : Basis (level_at W.C.P.n W.table (suc W.i))) → Cut Low (Rp x.0.0) (passing x.0.0) x.0.1
  locate x = cut_at Low (Rp x.0.0) (passing x.0.0) (wide x.0.0) (all_pass x.0.0 x.1.0) x.0.1 x.1.1

  unfoldable pub base : Ω⁺ → Ω
  base x = let k = locate x in (((Rp x.0.0).ref 0 (cut Low (Rp x.0.0) k.b), k.κ), (listed x.0.0 _ k.passes, k.inside))

  -- it is known by its block and its column there
  pub locate-is : (x : Basis (level_at W.C.P.n W.table (suc W.i))) (b κ : ℕ) → κ < width Low (Rp x.0.0) b
      → cut Low (Rp x.0.0) b + κ ≡ x.0.1 → ((locate x).b ≡ b) × ((locate x).κ ≡ κ)
  locate-is x b κ l e = cut-one Low (Rp x.0.0) (locate x).b (locate x).κ b κ (locate x).inside l ((locate x).is ∙ sym e)

  -- ---- Generators below act as below

  over-generator : (k : ℕ) → k < i → Over (residues m pos) base (λ x. (locate x).b) (λ κ. D P m pos i Low low_fair k) (D P m pos (suc i) High fair k)
  unfolding base same_entry passing Judgement.block_restricts
  over-generator k l x =
      let r : ℕ = x.0.0 in
      let q = locate x in
      let o : ℕ = cut Low (Rp r) q.b in
      let a : Ω = base x in
      let high = D-shows P m pos (suc i) High fair r k x.1.0 (omega arith) in
      let deep = D-shows P m pos i Low low_fair a.0.0 k a.1.0 l in
      let y : Ω⁺ = (D P m pos (suc i) High fair k x).0 in
      let b : Ω = (D P m pos i Low low_fair k a).0 in
      let t = all_below-elim _ _ (all_below-elim i _ (and_right (Judgement.whole_block Low (Rp r) o) _ q.passes) k l) q.κ q.inside in
      let rows : (col ((Rp r).matrix k) (o + q.κ)).row ≡ o + b.0.1
      = eqb-true _ _ (and_left (eqb (col ((Rp r).matrix k) (o + q.κ)).row _) _ t) ∙ ap (λ (z : Entry). o + z.row) (deep.shown a refl) in
      let exps : (col ((Rp r).matrix k) (o + q.κ)).exp % m ≡ (col ((rep_of Low a.0.0).matrix k) q.κ).exp % m =
      eqb-true _ _ (and_right (eqb (col ((Rp r).matrix k) (o + q.κ)).row _) _ t) in
      let here : col ((Rp r).matrix k) (o + q.κ) ≡ entry y.0.1 (D P m pos (suc i) High fair k x).1.0 = ap (col ((Rp r).matrix k)) q.is
      ∙ high.shown x refl in
      let ry : y.0.0 ≡ r = high.maps_to x refl in
      let column-y : o + b.0.1 ≡ y.0.1 = sym rows ∙ ap (λ (z : Entry). z.row) here in
      let rb : b.0.0 ≡ a.0.0 = deep.maps_to a refl in
      let κ-in : b.0.1 < (rep_of Low a.0.0).deg = subst (λ s. b.0.1 < (rep_of Low s).deg) rb b.1.1 in
      let (eb, eκ) = locate-is y q.b b.0.1 (subst (λ s. b.0.1 < width Low (Rp s) q.b) (sym ry) κ-in)
      (ap (λ s. cut Low (Rp s) q.b + b.0.1) ry ∙ column-y) in
      record {
        is_base = basis-path Low (base y) b (ap₂ (λ s e. (Rp s).ref 0 (cut Low (Rp s) e)) ry eb ∙ sym rb) eκ;
        is_number = eb;
        is_exponent = Residue-path m _ _ (sym (mod-eq_of_lt (D P m pos (suc i) High fair k x).1.1) ∙ ap (λ (z : Entry). z.exp % m) (sym here)
            ∙ exps ∙ ap (λ (z : Entry). z.exp % m) (deep.shown a refl) ∙ mod-eq_of_lt (D P m pos i Low low_fair k a).1.1);
      }

  low_word : (h : Nf C i) → d C m pos (suc i) High fair (low C i h) ≡ value (maps (residues m pos) Ω⁺) (D P m pos (suc i) High fair) i h.0
  unfolding low d
  low_word h = value-suc (maps (residues m pos) Ω⁺) (D P m pos (suc i) High fair) i _
      ∙ ap (λ z. (maps (residues m pos) Ω⁺).mul z (value (maps (residues m pos) Ω⁺) (D P m pos (suc i) High fair) i h.0))
      (power_zero (maps (residues m pos) Ω⁺) _) ∙ (maps-laws (residues m pos)).idl _

  pub over-low : (h : Nf C i) (x : Ω⁺)
      → At (residues m pos) base (λ x. (locate x).b) (d C m pos (suc i) High fair (low C i h) x) (d C m pos i Low low_fair h (base x)).0
      (locate x).b (d C m pos i Low low_fair h (base x)).1
  unfolding d
  over-low h x =
      subst (λ (M : Map (residues m pos) Ω⁺). At (residues m pos) base (λ x. (locate x).b) (M x) (word P m pos i Low low_fair i h.0 (base x)).0
      (locate x).b (word P m pos i Low low_fair i h.0 (base x)).1)
      (sym (low_word h)) (over-value (residues m pos) base (λ x. (locate x).b) (λ κ. D P m pos i Low low_fair)
      (D P m pos (suc i) High fair) i over-generator h.0 x)

  pub block-known : (x y : Ω⁺) → base x ≡ base y → ◌≡◌ {A = ℕ × ℕ} (x.0.0, (locate x).b) (y.0.0, (locate y).b) → x ≡ y
  unfolding base
  block-known x y q e =
      basis-path High x y (ap (λ z. z.0) e) (sym (locate x).is ∙ ap₂ (◌+◌) (ap (λ z. cut Low (Rp z.0) z.1) e) (ap (λ z. z.0.1) q) ∙ (locate y).is)

  pub block-one-rep : (x y : Ω⁺) → ◌≡◌ {A = ℕ × ℕ} (x.0.0, (locate x).b) (y.0.0, (locate y).b) → (base x).0.0 ≡ (base y).0.0
  unfolding base
  block-one-rep x y e = ap (λ z. (Rp z.0).ref 0 (cut Low (Rp z.0) z.1)) e

  abbrev pub blocked : Blocked S (residues m pos) F
  blocked = record {
    exponent_below = λ w. w.1.0;
    units = W.units;
    Ω⁺ = Ω⁺;
    d⁺ = d C m pos (suc i) High fair;
    hom = d-hom C m pos (suc i) High fair;
    base = base;
    Block = ℕ × ℕ;
    block = λ x. (x.0.0, (locate x).b);
    known = block-known;
    one_rep = block-one-rep;
    over_base = λ h x. (over-low h x).is_base;
    over_block = λ h x. λ o. ((form-shows C m pos (suc i) High fair x.0.0 x.1.0 (low C i h)).maps_to x refl o, (over-low h x).is_number o);
    over_exponent = λ h x. (over-low h x).is_exponent;
  }
