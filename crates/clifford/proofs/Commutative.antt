-- Every representation of a level has degree 1 exactly if its group is abelian, which is if its commutator words are empty.
--
--   Ones L                       every representation of the level has degree 1
--   abelian-ones, ones-abelian   exactly if any two elements commute
--   ones-empty, empty-ones       the degrees that the table of an accepted presentation lists on the top level are 1 exactly if its
--                                commutator words are empty
--   top-ones                     and so for the relations of a text
use mathlib.Core.Path.{◌≡◌, refl, sym, ◌∙◌, ap, subst, fun_ext}
use mathlib.Core.Logic.{◌↔◌, by_cases}
use mathlib.Core.Bool.{true, false}
use mathlib.Core.List.{List}
use Prim.Native.Nat.{ℕ, suc, ◌-◌, ◌≤◌, ◌<◌}
use native.Mathlib.Omega.{arith}
use native.Mathlib.Decide.{dec_lt}
use lib.Dec.{eqb}
use lib.ListN.{length, get_or}
use borrow.Author.Tests.{eqb-true, eq-eqb}
use Rattle.definitions.specs.Lists.{all}
use Rattle.definitions.specs.Presentation.{order, Relations, well_formed, presentation, some_not_prime, misused}
use Rattle.definitions.specs.Consistency.{Consistent}
use Rattle.definitions.specs.Monomial.{Level, rep_of}
use Rattle.definitions.specs.Table.{degrees}
use Rattle.definitions.specs.Steps.{levels, table_of, top_degrees_one}
use Rattle.numbers.proofs.Lists.{all_get_d, all-intro}
use Rattle.group.specs.Models.{Abelian, WordsEmpty}
use Rattle.group.specs.Context.{Nf}
use Rattle.group.proofs.Level.{level}
use Rattle.group.proofs.Group.{group}
use Rattle.group.proofs.Order.{inverse, inverse-right, inverse_left}
use Rattle.group.proofs.Commutative.{empty-abelian, abelian-empty}
use Rattle.monomial.specs.Exponents.{Exponents, Residue}
use Rattle.monomial.specs.Maps.{maps}
use Rattle.monomial.proofs.Exponents.{cancel}
use Rattle.monomial.proofs.Maps.{pair, at-column, at_mul, mul_at}
use Rattle.monomial.proofs.Residues.{residues}
use Rattle.clifford.specs.Accepted.{Accepted}
use Rattle.clifford.proofs.Standing.{Setting, Standing, standing, standing-faithful, setting}
use Rattle.clifford.proofs.Faithful.{Faithful}
use Rattle.clifford.proofs.Lines.{degrees-length, degrees-at}
use Rattle.clifford.proofs.Theorem.{W, table_is, accepted, accepted-is}

-- ---- A level

abbrev pub Ones : Level → Type 0
Ones L = (r : ℕ) → r < length L → (rep_of L r).deg ≡ 1

module _ (G : Setting) (i : ℕ) (l : i ≤ G.T.n) (L : Level) (St : Standing G i L) where
  open G use {T, m, pos}
  open T use {context as C}
  open St use {Ω, F, stands}
  open F use {d}

  abbrev E : Exponents (Residue m)
  E = residues m pos

  infixl 70 ◌*◌ ◌⊛◌
  open level C i use {mul as ◌*◌, one}
  open maps E Ω use {mul as ◌⊛◌}

  -- two columns of one representation would be separated by an element that commutes with one that takes the first to the second
  pub abelian-ones : Abelian (level G.T.context i) → Ones L
  abelian-ones commute r h = by_cases (dec_lt 1 (rep_of L r).deg) (λ c.
      let z : 0 < (rep_of L r).deg = omega arith in
      let a : Ω = stands.complete.find r 0 h z in
      let b : Ω = stands.complete.find r 1 h c in
      absurd (apart a b (stands.complete.find_rep r 0 h z ∙ sym (stands.complete.find_rep r 1 h c)) (λ e.
      let k : ◌≡◌ {A = ℕ} 0 1 = sym (stands.complete.find_column r 0 h z) ∙ ap stands.column e ∙ stands.complete.find_column r 1 h c in
      omega arith))) (λ c. omega (arith, stands.degree_pos r h))
    where
      apart : (a b : Ω) → F.rep a ≡ F.rep b → ¬ (a ≡ b) → ⊥
      apart a b same ne =
          let (x, to) = F.reached a b same in
          let s = F.separated a b ne in
          let t : Residue m = (d x a).1 in
          let first : (d s.by ⊛ d x) a ≡ (b, E.add s.y t)
          = at_mul E (d s.by) (d x) a ∙ ap (λ (z : Ω × Residue m). (z.0, E.add z.1 t)) (ap (d s.by) to ∙ s.fixes') in
          let second : (d x ⊛ d s.by) a ≡ ((d x a).0, E.add t s.x) = mul_at E (d x) (d s.by) a a s.x s.fixes in
          let both : d s.by ⊛ d x ≡ d x ⊛ d s.by = sym (F.hom.on_mul _ _) ∙ ap d (commute s.by x) ∙ F.hom.on_mul _ _ in
          let q : E.add t s.x ≡ E.add t s.y = ap (λ z. z.1) (sym second ∙ at-column E (sym both) a ∙ first) ∙ E.comm _ _ in
          s.differ (cancel E t s.x s.y q)

  -- elements that act alike are equal
  alike : Faithful F → (x y : Nf C i) → d x ≡ d y → x ≡ y
  alike faithful x y e =
      let 𝓛 = (group T i l).laws in
      let u : x * inverse C i y ≡ one
      = faithful.unit (x * inverse C i y)
      (F.hom.on_mul _ _ ∙ ap (λ t. t ⊛ d (inverse C i y)) e ∙ sym (F.hom.on_mul _ _) ∙ ap d (inverse-right T i l y) ∙ F.hom.on_one) in
      sym (𝓛.idr x) ∙ ap (λ t. x * t) (sym (inverse_left T i l y)) ∙ sym (𝓛.assoc _ _ _) ∙ ap (λ t. t * y) u ∙ 𝓛.idl y

  pub ones-abelian : Faithful St.F → Ones L → Abelian (level G.T.context i)
  ones-abelian faithful ones x y =
      let below : (a : Ω) → stands.column a ≡ 0 = λ a. omega (arith, stands.column_below a, ones (F.rep a) (stands.complete.rep_below a)) in
      let still : (x : Nf C i) (a : Ω) → (d x a).0 ≡ a = λ x a. stands.complete.known _ a (F.inside x a) (below _ ∙ sym (below a)) in
      let at : (x y : Nf C i) (a : Ω) → (d x ⊛ d y) a ≡ (a, E.add (d x a).1 (d y a).1) = λ x y a.
      at_mul E (d x) (d y) a ∙ ap (λ (b : Ω). ((d x b).0, E.add (d x b).1 (d y a).1)) (still y a) ∙ pair E (still x a) refl in
      alike faithful (x * y) (y * x)
      (F.hom.on_mul x y ∙ fun_ext (λ a. at x y a ∙ pair E refl (E.comm _ _) ∙ sym (at y x a)) ∙ sym (F.hom.on_mul y x))

-- ---- The table of an accepted presentation

module _ (A : Accepted) where
  open A use {C, positive}
  open C use {P}
  open P use {n}

  abbrev top : Level
  top = levels P (order P n) n

  abbrev St : Standing (setting A) n top
  St = standing (setting A) n (omega arith)

  abbrev faithful : Faithful St.F
  faithful = standing-faithful (setting A) n (omega arith)

  -- the degrees that the table lists are those of the level
  abbrev Listed : ℕ → Type 0
  Listed i = (all (λ d. eqb d 1) (degrees (table_of P) i) ≡ true)
      ↔ Ones (levels P (order P n) i)

  listed : (k : ℕ) → k < n → Listed (suc k)
  listed k h =
      let D : List ℕ = degrees (table_of P) (suc k) in
      let N : ℕ = length (levels P (order P n) (suc k)) in
      let long : length D ≡ N = ap (λ T. length (degrees T (suc k))) (table_is A) ∙ degrees-length (W A) k h in
      let at : (r : ℕ) → r < N → get_or D r 0 ≡ (rep_of (levels P (order P n) (suc k)) r).deg
      = λ r b. ap (λ T. get_or (degrees T (suc k)) r 0) (table_is A) ∙ degrees-at (W A) k h r b in (
        λ e r b. sym (at r b) ∙ eqb-true (get_or D r 0) 1 (all_get_d (λ d. eqb d 1) D 0 e r (subst (λ z. r < z) (sym long) b)),
        λ e. all-intro (λ d. eqb d 1) D 0 (λ r b. let c : r < N = subst (λ z. r < z) long b in eq-eqb (get_or D r 0) 1 (at r c ∙ e r c)),
      )

  listed-top : Listed n
  listed-top = let e : suc (n - 1) ≡ n = omega (arith, positive) in subst Listed e (listed (n - 1) (omega (arith, positive)))

  pub empty-ones : WordsEmpty A.C.P A.C.P.n → top_degrees_one A.C.P ≡ true
  unfolding top_degrees_one
  empty-ones e = listed-top.1 (abelian-ones (setting A) n (omega arith) top St (empty-abelian (setting A).T n (omega arith) e))

  pub ones-empty : top_degrees_one A.C.P ≡ true → WordsEmpty A.C.P A.C.P.n
  unfolding top_degrees_one
  ones-empty e = abelian-empty (setting A).T n (omega arith) (ones-abelian (setting A) n (omega arith) top St faithful (listed-top.0 e))

-- ---- For what a text says

module _ (R : Relations) (formed : well_formed R ≡ true) (primes : some_not_prime R ≡ false) (used : misused R ≡ false)
    (consistent : Consistent (presentation R)) where
  pub top-ones : (top_degrees_one (presentation R) ≡ true) ↔ WordsEmpty (presentation R) (presentation R).n
  top-ones =
      let A : Accepted = accepted R formed primes used consistent in
      subst (λ P. (top_degrees_one P ≡ true) ↔ WordsEmpty P P.n) (accepted-is R formed primes used consistent) (ones-empty A, empty-ones A)
