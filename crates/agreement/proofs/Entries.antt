-- Entries moved through matrices that show maps: the walks of the formulas at single columns.
--
--   move A z, stand z             an entry of a basis index and an exponent, moved by a map; as an entry of a column
--   move-pair                     moved by two maps, it is moved by their product
--   Lands x z r                   x is the entry z, of representation r
--   act-shows, iter-shows         one matrix, and its iterates
--   walk-shows                    the value of a normal form
--   around-shows                  the intertwiners around an orbit
--   shift_is                      the constant of an orbit is the negative of the defect
use mathlib.Core.Path.{◌≡◌, refl, sym, ◌∙◌, ap, ap₂, subst}
use Prim.Native.Nat.{ℕ, zero, suc, ◌+◌, ◌%◌, ◌≤◌, ◌<◌}
use native.Mathlib.Omega.{arith}
use native.Mathlib.Decide.{dec_lt}
use lib.ListN.{length}
use Rattle.definitions.specs.declared.Entry.{Entry}
use Rattle.definitions.specs.Lists.{iter}
use Rattle.definitions.specs.Presentation.{NF, power, value}
use Rattle.definitions.specs.Monomial.{Matrix, entry, less, act, rep_of}
use Rattle.formulas.specs.Formulas as Fm
use Rattle.formulas.specs.Formulas.{Source}
use Rattle.numbers.proofs.Lists.{iter-zero}
use Rattle.numbers.proofs.Iterates.{iter-out}
use Rattle.numbers.proofs.Orbits.{iter-below}
use Rattle.group.specs.Context.{Nf}
use Rattle.group.proofs.Values.{power_zero, power-suc, value-zero, value-suc, value-hom}
use Rattle.group.proofs.Level.{gen_nf, u_nf}
use Rattle.group.proofs.Group.{group}
use Rattle.monomial.specs.Exponents.{Residue}
use Rattle.monomial.specs.Maps.{Map, maps}
use Rattle.monomial.specs.Frames.{Shows}
use Rattle.monomial.proofs.Exponents.{idr}
use Rattle.monomial.proofs.Maps.{pair, at_mul, at_one}
use Rattle.monomial.proofs.Residues.{residues, add-value, nil-value}
use Rattle.clifford.specs.Stands.{Rung}
use Rattle.clifford.proofs.Numbering.{P, p, N, rep, τ, S, O, first_of-column, target_same}
use Rattle.clifford.proofs.Defect.{defect, defect-eq}
use Rattle.clifford.proofs.Extensions.{E, Φ, first, first_rep}
use Rattle.clifford.proofs.Formulas.{less-over}

module _ (R : Rung) where
  open R use {T, m, pos, i, L, Ω, F, stands}
  open R.stands use {column}
  open residues m pos use {add, nil, neg}

  -- the level as a source of the formulas
  abbrev pub Sc : Source
  Sc = record {
    m = R.m;
    i = R.i;
    p = R.T.context.P.p R.i;
    u = R.T.context.P.u R.i;
    w = R.T.context.P.w R.i;
    count = length R.L;
    degree = λ r. (rep_of R.L r).deg;
    matrix = λ r g. (rep_of R.L r).matrix g;
    target = λ j r. (rep_of R.L r).ref j 0;
  }

  abbrev pub Z : Type 0
  Z = Ω × Residue m

  unfoldable pub stand : Z → Entry
  stand z = entry (column z.0) z.1.0

  unfoldable pub move : Map (E R) Ω → Z → Z
  move A z = ((A z.0).0, add (A z.0).1 z.1)

  pub move-mul : (A B : Map (E R) Ω) (z : Z) → move ((maps (E R) Ω).mul A B) z ≡ move A (move B z)
  unfolding move
  move-mul A B z = ap (λ y. (y.0, add y.1 z.1)) (at_mul (E R) A B z.0) ∙ pair (E R) refl ((E R).assoc _ _ _)

  pub move-one : (z : Z) → move (maps (E R) Ω).one z ≡ z
  unfolding move
  move-one z = ap (λ y. (y.0, add y.1 z.1)) (at_one (E R) z.0) ∙ pair (E R) refl ((E R).idl _)

  pub move-pair : (A B : Map (E R) Ω) (a : Ω) → move A (B a) ≡ (maps (E R) Ω).mul A B a
  unfolding move
  move-pair A B a = sym (at_mul (E R) A B a)

  pub act-shows : {r s : ℕ} {M : Matrix} {A : Map (E R) Ω} → Shows m (Φ R) r s M A → (z : Z) → rep R z.0 ≡ r → act m M (stand z) ≡ stand (move A z)
  unfolding act stand move
  act-shows {r} {s} {M} {A} sh z e =
      ap (λ (x : Entry). entry x.row ((x.exp + z.1.0) % m)) (sh.shown z.0 e) ∙ ap (λ k. entry (column (A z.0).0) k) (sym (add-value m pos (A z.0).1 z.1))

  pub move-rep : {r s : ℕ} {M : Matrix} {A : Map (E R) Ω} → Shows m (Φ R) r s M A → (z : Z) → rep R z.0 ≡ r → rep R (move A z).0 ≡ s
  unfolding move
  move-rep sh z e = sh.maps_to z.0 e

  -- x is the entry z, of representation r
  abbrev pub Lands : Entry → Z → ℕ → Type 0
  Lands x z r = (x ≡ stand z) × (rep R z.0 ≡ r)

  -- an entry moved by f again and again, where f moves as A on a representation that A fixes
  pub iter-shows : {r : ℕ} (f : Entry → Entry) (A : Map (E R) Ω) → ((z : Z) → rep R z.0 ≡ r → Lands (f (stand z)) (move A z) r)
      → (k : ℕ) (z : Z) → rep R z.0 ≡ r → Lands (iter f k (stand z)) (move (power (maps (E R) Ω) A k) z) r
  iter-shows {r} f A h zero z e =
      subst (λ y. Lands (iter f zero (stand z)) y r) (sym (ap (λ B. move B z) (power_zero (maps (E R) Ω) A) ∙ move-one z)) (iter-zero f (stand z), e)
  iter-shows {r} f A h (suc k) z e =
      let (a, b) = iter-shows f A h k z e in
      let (c, d) = h (move (power (maps (E R) Ω) A k) z) b in
      subst (λ y. Lands (iter f (suc k) (stand z)) y r) (sym (ap (λ B. move B z) (power-suc (maps (E R) Ω) A k) ∙ move-mul A _ z))
      (iter-out f k (stand z) ∙ ap f a ∙ c, d)

  -- ---- Normal forms

  abbrev gens : ℕ → Map (E R) Ω
  gens k = F.d (gen_nf T.context i k)

  abbrev walked : ℕ → (k : ℕ) → NF k → Z → Entry
  walked r k w z = Fm.walk m (λ g. (rep_of L r).matrix g) k w (stand z)

  walk-value : (r k : ℕ) → r < N R → k ≤ i → (w : NF k) (z : Z) → rep R z.0 ≡ r → Lands (walked r k w z) (move (value (maps (E R) Ω) gens k w) z) r
  unfolding Fm.walk
  walk-value r zero h l w z e = subst (λ y. Lands (stand z) y r) (sym (ap (λ B. move B z) (value-zero (maps (E R) Ω) gens w) ∙ move-one z)) (refl, e)
  walk-value r (suc k) h l w z e =
      let (a, b) = walk-value r k h (omega arith) w.1 z e in
      let sh = stands.represents k (omega arith) r h in
      let y : Z = move (value (maps (E R) Ω) gens k w.1) z in
      let (c, d) = iter-shows (act m ((rep_of L r).matrix k)) (gens k) (λ y f. (act-shows sh y f, move-rep sh y f)) w.0 y b in
      subst (λ y. Lands (walked r (suc k) w z) y r) (sym (ap (λ B. move B z) (value-suc (maps (E R) Ω) gens k w) ∙ move-mul _ _ z))
      (ap (iter (act m ((rep_of L r).matrix k)) w.0) a ∙ c, d)

  pub walk-shows : (r : ℕ) → r < N R → (x : Nf T.context i) (z : Z) → rep R z.0 ≡ r
      → Lands (Fm.walk m (λ g. (rep_of L r).matrix g) i x.0 (stand z)) (move (F.d x) z) r
  walk-shows r h x z e = subst (λ B. Lands (walked r i x.0 z) (move B z) r)
      (sym (value-hom F.hom (gen_nf T.context i) i x.0) ∙ ap F.d ((group T i (omega (arith, R.in_range))).gen_value x))
      (walk-value r i h (omega arith) x.0 z e)

  -- ---- The first column of a representation

  pub origin : (r : ℕ) → Z
  origin r = (first R r, (residues m pos).nil)

  pub origin-rep : (r : ℕ) → r < N R → rep R (origin r).0 ≡ r
  unfolding origin
  origin-rep r h = first_rep R r h

  pub origin-stands : (r : ℕ) → stand (origin r) ≡ entry 0 0
  unfolding origin stand
  origin-stands r = ap₂ entry (first_of-column R r (dec_lt r (N R))) (nil-value m pos)

  pub origin-moves : (A : Map (E R) Ω) (r : ℕ) → move A (origin r) ≡ A (first R r)
  unfolding origin move
  origin-moves A r = pair (E R) refl (idr (E R) _)

  pub stand-exp : (z : Z) → (stand z).exp ≡ z.1.0
  unfolding stand
  stand-exp z = refl

  -- ---- Around an orbit

  pub turn-same : (r k : ℕ) → Fm.orbit Sc r k ≡ iter (τ R) k r
  turn-same r k = ap (λ t. iter t k r) (target_same R i)

  pub around-shows : (r k : ℕ) → r < N R → Lands (Fm.around Sc r k) (move (power (maps (E R) Ω) (F.X i) k) (origin r)) (iter (τ R) k r)
  unfolding Fm.around
  around-shows r zero h =
      subst (λ y. Lands (entry 0 0) y (iter (τ R) zero r)) (sym (ap (λ B. move B (origin r)) (power_zero (maps (E R) Ω) (F.X i)) ∙ move-one (origin r)))
      (sym (origin-stands r), origin-rep r h ∙ sym (iter-zero (τ R) r))
  around-shows r (suc k) h =
      let (a, b) = around-shows r k h in
      let s : ℕ = iter (τ R) k r in
      let sh = stands.intertwines i (omega arith) R.in_range s (iter-below (O R) k r h) in
      let z : Z = move (power (maps (E R) Ω) (F.X i) k) (origin r) in
      subst (λ y. Lands (Fm.around Sc r (suc k)) y (iter (τ R) (suc k) r))
      (sym (ap (λ B. move B (origin r)) (power-suc (maps (E R) Ω) (F.X i) k) ∙ move-mul _ _ (origin r)))
      (ap₂ (λ t x. act m ((rep_of L t).matrix i) x) (turn-same r k) a ∙ act-shows sh z b, move-rep sh z b ∙ sym (iter-out (τ R) k r))

  pub shift_is : (r : ℕ) → r < N R → Fm.shift Sc r ≡ ((residues m pos).neg (defect (S R) F (first R r))).0
  unfolding Fm.shift u_nf
  shift_is r h =
      let u : Nf T.context i = u_nf T.context i in
      ap₂ (less m)
      (ap (λ x. (Fm.walk m (λ g. (rep_of L r).matrix g) i ((P R).u i) x).exp) (sym (origin-stands r))
      ∙ ap (λ (x : Entry). x.exp) (walk-shows r h u (origin r) (origin-rep r h)).0 ∙ stand-exp _ ∙ ap (λ z. z.1.0) (origin-moves (F.d u) r))
      (ap (λ (x : Entry). x.exp) (around-shows r (p R) h).0 ∙ stand-exp _ ∙ ap (λ z. z.1.0) (origin-moves (power (maps (E R) Ω) (F.X i) (p R)) r ∙ defect-eq (S R) F (first R r)))
      ∙ less-over R _ _
