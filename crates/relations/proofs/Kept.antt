-- Columns of a representation whose lines hold matrices.
--
--   kept-stored, kept-column          the lines of its first generators, and a column to start from
--   kept-squares                      its matrices are square
--   entries-row, entries-exp, entries-same     two entries, by rows and by exponents
--   power-moved, conjugate-moved, commutator-moved, intertwiner-moved     the relations at a column, by what moves it
--   power-everywhere, commutator-everywhere, intertwiner-everywhere       and at every column
use mathlib.Core.Path.{◌≡◌, refl, sym, ◌∙◌, ap, ap₂, subst}
use mathlib.Core.Logic.{◌≢◌}
use mathlib.Core.Bool.{false, ◌&&◌}
use mathlib.Core.List.{List}
use Prim.Native.Nat.{ℕ, suc, ◌+◌, ◌≤◌, ◌<◌}
use native.Mathlib.Omega.{arith}
use lib.Dec.{eqb}
use borrow.Author.Tests.{eq-eqb, ne_eqb}
use Rattle.definitions.specs.declared.Entry.{Entry}
use Rattle.definitions.specs.Lists.{iter, all_below}
use Rattle.definitions.specs.Presentation.{NF, Presentation, to_nf}
use Rattle.definitions.specs.Monomial.{entry, act}
use Rattle.definitions.specs.Table.{rep_at}
use Rattle.formulas.specs.Formulas.{walk}
use Rattle.numbers.proofs.Blocks.{length-table}
use Rattle.monomial.proofs.Frames.{col-table}
use Rattle.columns.specs.Columns.{Square, Squares, same_at, power_at, conjugate_at, commutator_at, intertwines_at}
use Rattle.columns.proofs.Conditions.{power-columns, commutator-columns, intertwiner-columns}
use Rattle.level.specs.declared.Listed.{Listed}
use Rattle.level.specs.Stored.{entry_in, Below, line_in, generator_in, Stored}
use Rattle.seek.specs.declared.Scope.{Scope}
use Rattle.seek.specs.Among.{rep_in}
use Rattle.relations.specs.Kept.{MatricesStored}
use Rattle.relations.specs.Said.{PowerOf, WordOf}
use Rattle.relations.specs.Tests.{Conjugated, carries, power_at_in, commutator_at_in, carries_at_in, power_in, commutator_in, carries_in}

-- ---- Entries

pub entries-row : (x y : Entry) → x.row ≢ y.row → false ≡ same_at x y
unfolding same_at
entries-row x y h = sym (ap (λ b. b && eqb x.exp y.exp) (ne_eqb x.row y.row h))

pub entries-exp : (x y : Entry) → x.row ≡ y.row → eqb x.exp y.exp ≡ same_at x y
unfolding same_at
entries-exp x y e = sym (ap (λ b. b && eqb x.exp y.exp) (eq-eqb x.row y.row e))

-- both at once, as two entries with exponents below the modulus are compared
pub entries-same : (x y : Entry) → (eqb x.row y.row && eqb x.exp y.exp) ≡ same_at x y
unfolding same_at
entries-same x y = refl

-- ---- Lines that hold matrices

module _ {s : Scope} {T : List ℕ} {D : Listed} (K : MatricesStored s T D) where
  pub kept-stored : (i : ℕ) → i ≤ s.gens → Stored s.m i T D
  kept-stored i l =
      record { positive = K.stored.positive; degree = K.stored.degree; holds = λ g h. K.stored.holds g (omega arith) }

  pub kept-column : (c : ℕ) → c < D.deg → Below s.m D.deg (entry c 0)
  kept-column c l = record { row = l; exp = K.modulus }

  pub kept-squares : Squares s.gens (rep_in T D)
  unfolding rep_at
  kept-squares = record {
    each = λ g l. record {
      size = length-table (λ c. entry_in T (line_in D g + c)) D.deg;
      inside = λ c h. subst (λ (x : Entry). x.row < D.deg) (sym (col-table (λ c. entry_in T (line_in D g + c)) D.deg c h))
          ((K.stored.holds g l).valid c h).row;
    };
  }

-- ---- Relations at a column

module _ (m : ℕ) (T : List ℕ) (D : Listed) (P : Presentation) where
  -- the word on the generators before i
  walk_is : (i n c : ℕ) → n ≡ i → (w : List ℕ) (x : NF i) → to_nf i w ≡ x
      → walk m (generator_in T D) n (to_nf n w) (entry c 0) ≡ walk m (generator_in T D) i x (entry c 0)
  walk_is i n c e w x is = ap (λ n. walk m (generator_in T D) n (to_nf n w) (entry c 0)) e ∙ ap (λ x. walk m (generator_in T D) i x (entry c 0)) is

  pub power-moved : (j p n c : ℕ) (u : List ℕ) (y z : Entry) → n ≡ j
      → y ≡ iter (act m (generator_in T D j)) p (entry c 0) → z ≡ walk m (generator_in T D) n (to_nf n u) (entry c 0)
      → PowerOf j p u P → same_at y z ≡ power_at P m (rep_in T D) j c
  unfolding power_at rep_at
  power-moved j p n c u y z e a b is =
      ap₂ same_at (a ∙ ap (λ p. iter (act m (generator_in T D j)) p (entry c 0)) is.prime) (b ∙ walk_is j n c e u (P.u j) is.word)

  pub conjugate-moved : (k j n c : ℕ) (w : List ℕ) (y z : Entry) → n ≡ suc k
      → y ≡ walk m (generator_in T D) n (to_nf n w) (entry c 0) → z ≡ act m (generator_in T D k) y
      → WordOf k j w P → z ≡ conjugate_at P m (rep_in T D) k j c
  unfolding conjugate_at rep_at
  conjugate-moved k j n c w y z e a b is = b ∙ ap (act m (generator_in T D k)) (a ∙ walk_is (suc k) n c e w (P.w k j) is.word)

  module _ (k j c : ℕ) (w : List ℕ) (y z a b : Entry) (first : y ≡ act m (generator_in T D j) (entry c 0)) (other : Conjugated m T D k w c z)
      (is : WordOf k j w P) where
    pub commutator-moved : a ≡ act m (generator_in T D k) y → b ≡ act m (generator_in T D j) z → same_at a b ≡ commutator_at P m (rep_in T D) k j c
    unfolding commutator_at rep_at
    commutator-moved e f =
        ap₂ same_at (e ∙ ap (act m (generator_in T D k)) first) (f ∙ ap (act m (generator_in T D j)) (other.is P j is))

    pub intertwiner-moved : (F : Listed) → a ≡ act m (generator_in T D j) z → b ≡ act m (generator_in T F k) y
        → same_at a b ≡ intertwines_at P m (rep_in T D) (rep_in T F) k j c
    unfolding intertwines_at rep_at
    intertwiner-moved F e f =
        ap₂ same_at (e ∙ ap (act m (generator_in T D j)) (other.is P j is)) (f ∙ ap (act m (generator_in T F k)) first)

-- ---- Relations at every column

module _ {s : Scope} {T : List ℕ} {D : Listed} (K : MatricesStored s T D) (P : Presentation) where
  pub power-everywhere : (j : ℕ) → j < s.gens → all_below D.deg (λ c. power_at_in s T D j c P) ≡ power_in s T D j P
  unfolding rep_at
  power-everywhere j l = sym (power-columns P s.m K.modulus T s.gens (rep_in T D) (kept-squares K) j l)

  module _ (k j : ℕ) (kn : k < s.gens) (jn : j < s.gens) where
    pub commutator-everywhere : all_below D.deg (λ c. commutator_at_in s T D k j c P) ≡ commutator_in s T D k j P
    unfolding rep_at
    commutator-everywhere = sym (commutator-columns P s.m K.modulus T s.gens (rep_in T D) (kept-squares K) k j kn jn)

    pub intertwiner-everywhere : {F : Listed} → MatricesStored s T F → F.deg ≡ D.deg
        → all_below D.deg (λ c. carries_at_in s T D F k j c P) ≡ carries_in s T D F k j P
    unfolding rep_at carries
    intertwiner-everywhere {F} L e =
        sym (intertwiner-columns P s.m K.modulus T s.gens (rep_in T D) (kept-squares K) k j kn jn (rep_in T F)
        (subst (λ d. Square d ((rep_in T F).matrix k)) e ((kept-squares L).each k kn)))
