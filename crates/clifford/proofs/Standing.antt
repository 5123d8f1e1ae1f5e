-- From level 0 up: every level of the steps stands on a family, and is cut into blocks of the level below.
--
--   zero-length, zero-degree, zero-ref, at-zero     level 0 has one representation, of degree 1
--   Setting              a tested presentation, a modulus, and what the steps need of both
--   Standing             a level that stands, with the references of the level as targets
--   standing             every level of the steps does
--   standing-faithful    on a family that tells the elements of its group apart
--   restricts            every representation of a level above 0 is cut into blocks of the level below
--   order-split          the order of a level and its prime divide the order of the group
--   setting              an accepted presentation, modulo its order
use mathlib.Core.Path.{◌≡◌, refl, sym, ◌∙◌, ap, subst}
use mathlib.Core.Logic.{by_cases}
use mathlib.Core.HLevel.{Unit-prop}
use Prim.Native.Nat.{ℕ, zero, suc, ◌*◌, ◌≤◌, ◌<◌}
use native.Mathlib.Omega.{arith}
use native.Mathlib.Decide.{dec_lt}
use lib.ListN.{length}
use Rattle.definitions.specs.Lists.{sum}
use Rattle.definitions.specs.Presentation.{Presentation, order}
use Rattle.definitions.specs.Monomial.{Level, rep_of}
use Rattle.definitions.specs.Table.{level_zero}
use Rattle.definitions.specs.Steps
use Rattle.numbers.proofs.Prime.{Units}
use Rattle.group.proofs.Level.{Nf-path, level, conj_nf}
use Rattle.group.proofs.Group.{TestedContext}
use Rattle.group.proofs.Order.{order-positive}
use Rattle.monomial.specs.Maps.{maps}
use Rattle.monomial.specs.Families.{Family}
use Rattle.monomial.specs.Frames.{Layout, Shows}
use Rattle.monomial.proofs.Maps.{maps-laws}
use Rattle.monomial.proofs.Residues.{residues}
use Rattle.monomial.proofs.Frames.{shows-one}
use Rattle.clifford.specs.Stands.{frame, Stands, Restricts, Rung}
use Rattle.clifford.specs.Accepted.{Accepted}
use Rattle.clifford.proofs.Indices.{Index}
use Rattle.clifford.proofs.Next.{family}
use Rattle.clifford.proofs.Faithful.{Faithful, next-faithful}
use Rattle.clifford.proofs.Climb.{next-stands, next-restricts}

-- ---- The one representation of level 0

pub zero-length : length level_zero ≡ 1
unfolding level_zero
zero-length = refl

pub zero-degree : (rep_of level_zero 0).deg ≡ 1
unfolding rep_of level_zero
zero-degree = refl

pub zero-ref : (g c : ℕ) → (rep_of level_zero 0).ref g c ≡ 0
unfolding rep_of level_zero
zero-ref g c = refl

-- what holds of it holds of every representation of level 0
pub at_zero : (Q : ℕ → Type 0) → Q 0 → (r : ℕ) → r < length level_zero → Q r
at_zero Q q r l = let z : 0 ≡ r = omega (arith, zero-length) in subst Q z q

pub record Setting : Type 0 where
  pub T : TestedContext
  pub m : ℕ
  pub pos : 0 < m
  pub units : (j : ℕ) → j < T.n → Units (T.context.P.p j)
  pub splits : (j : ℕ) → j < T.n → (share : ℕ) × (spare : ℕ) × (m ≡ T.context.P.p j * share) × (share ≡ order T.context.P j * spare)

pub record Standing (G : Setting) (i : ℕ) (L : Level) : Type 1 where
  pub Ω : Type 0
  pub F : Family (residues G.m G.pos) Ω (level G.T.context i) (conj_nf G.T.context i) i G.T.n
  pub stands : Stands G.T.context G.T.n G.m G.pos i L F
  pub literal : (j r : ℕ) → F.target j r ≡ (rep_of L r).ref j 0

module _ (G : Setting) where
  open G use {T, m, pos}

  abbrev pub P : Presentation
  P = G.T.context.P

  -- ---- Level 0

  abbrev zero-family : Family (residues m pos) (Unit {0}) (level T.context 0) (conj_nf T.context 0) 0 T.n
  zero-family = record {
    decide = λ a b. yes (Unit-prop a b);
    d = λ x. (maps (residues m pos) (Unit {0})).one;
    hom = record { on_one = refl; on_mul = λ x y. sym ((maps-laws (residues m pos)).idl _) };
    X = λ j. (maps (residues m pos) (Unit {0})).one;
    past = λ j a b x. refl;
    rep = λ a. 0;
    target = λ j r. (rep_of level_zero r).ref j 0;
    inside = λ x a. refl;
    maps_to = λ j a b x. sym (zero-ref j 0);
    reached = λ a b q. ((level T.context 0).one, Unit-prop _ _);
    separated = λ a b ne. absurd (ne (Unit-prop a b));
  }

  zero-below : (a : Unit {0}) → 0 < (rep_of level_zero 0).deg
  zero-below a = omega (arith, zero-degree)

  abbrev zero-frame : Layout (Unit {0})
  zero-frame = frame level_zero (λ a. 0) (λ a. 0) zero-below

  zero-stands : Stands T.context T.n m pos 0 level_zero zero-family
  unfolding rep_of level_zero sum order
  zero-stands = record {
    column = λ a. 0;
    column_below = zero-below;
    complete = record {
      rep_below = λ a. omega arith;
      find = λ r c h l. tt;
      find_rep = λ r c h l. omega arith;
      find_column = λ r c h l. at_zero (λ r. c < (rep_of level_zero r).deg → 0 ≡ c) (λ b. omega arith) r h l;
      known = λ a b p q. Unit-prop a b;
    };
    represents = λ k l. absurd (omega arith);
    intertwines = λ j a b. at_zero
        (λ r. Shows m zero-frame r ((rep_of level_zero r).ref j 0) ((rep_of level_zero r).matrix j) (maps (residues m pos) (Unit {0})).one)
        (shows-one m pos zero-frame 0);
    refers = λ j a b r h c l. at_zero (λ r. (rep_of level_zero r).ref j c ≡ (rep_of level_zero r).ref j 0) refl r h;
    nonempty = omega arith;
    degree_pos = at_zero (λ r. 0 < (rep_of level_zero r).deg) (omega arith);
    degree_target = λ j a b. at_zero (λ r. (rep_of level_zero ((rep_of level_zero r).ref j 0)).deg ≡ (rep_of level_zero r).deg) refl;
    squares = refl;
  }

  -- ---- The next level

  unfoldable pub rung : (i : ℕ) → i < T.n → (L : Level) → Standing G i L → Rung
  rung i l L St =
      let (share, spare, a, b) = G.splits i l in
      record {
        T = T;
        m = m;
        pos = pos;
        i = i;
        in_range = l;
        L = L;
        Ω = St.Ω;
        F = St.F;
        stands = St.stands;
        literal = St.literal;
        units = G.units i l;
        share = share;
        split = a;
        spare = spare;
        split' = b;
      }

  climb : (i : ℕ) → i < T.n → (L : Level) → Standing G i L → Standing G (suc i) (Steps.next_level P m i L)
  unfolding rung
  climb i l L St = record { Ω = Index (rung i l L St); F = family (rung i l L St); stands = next-stands (rung i l L St); literal = λ j r. refl }

  pub standing : (i : ℕ) → i ≤ T.n → Standing G i (Steps.levels P m i)
  unfolding Steps.levels
  standing zero l = record { Ω = Unit {0}; F = zero-family; stands = zero-stands; literal = λ j r. refl }
  standing (suc i) l = climb i l (Steps.levels P m i) (standing i (omega arith))

  pub standing-faithful : (i : ℕ) (l : i ≤ G.T.n) → Faithful (standing i l).F
  unfolding Steps.levels rung climb standing
  standing-faithful zero l = record { unit = λ x e. Nf-path T.context 0 _ _ refl }
  standing-faithful (suc i) l = next-faithful (rung i l (Steps.levels P m i) (standing i (omega arith))) (standing-faithful i (omega arith))

  pub restricts : (i : ℕ) → i < T.n → (r : ℕ) → r < length (Steps.levels P m (suc i)) → Restricts i (Steps.levels P m i) (rep_of (Steps.levels P m (suc i)) r)
  unfolding Steps.levels rung
  restricts i l r h = next-restricts (rung i l (Steps.levels P m i) (standing i (omega arith))) r h

-- ---- The modulus of a table

pub order-split : (P : Presentation) (n i : ℕ) → i < n → (r : ℕ) × (order P n ≡ P.p i * (order P i * r))
unfolding order
order-split P zero i l = absurd (omega arith)
order-split P (suc n) i l = by_cases (dec_lt i n) (λ h. let (r, q) = order-split P n i h in (P.p n * r, ap (λ x. P.p n * x) q ∙ omega arith))
    (λ h. let e : n ≡ i = omega arith in (1, ap (λ x. P.p x * order P x) e ∙ omega arith))

pub order-splits : (A : Accepted) (j : ℕ) → j < A.C.P.n
    → (share : ℕ) × (spare : ℕ) × (order A.C.P A.C.P.n ≡ A.C.P.p j * share) × (share ≡ order A.C.P j * spare)
order-splits A j l = let (r, q) = order-split A.C.P A.C.P.n j l in (order A.C.P j * r, r, q, refl)

-- an accepted presentation, modulo its order
abbrev pub setting : Accepted → Setting
setting A = record {
  T = record { context = A.C; n = A.C.P.n; tests = A.tests };
  m = order A.C.P A.C.P.n;
  pos = order-positive A.C A.C.P.n;
  units = A.units;
  splits = order-splits A;
}
