-- The scalars of the blocks, listed along the generator on top.
--
--   Along                      the scalars of the first t blocks are listed
--   Scaling                    so they are up to a block, which is known with its scalar
--   scaling-none, scaling-more       up to block 0; one more
--   scaling-all                after p steps every scalar is listed
use mathlib.Core.Path.{◌≡◌, refl, sym, ◌∙◌, ap, ap₂, subst}
use mathlib.Core.Logic.{by_cases}
use mathlib.Core.List.{List}
use Prim.Native.Nat.{ℕ, suc, ◌+◌, ◌%◌, ◌<◌}
use native.Mathlib.Omega.{arith}
use native.Mathlib.Numerals.{add-one}
use native.Mathlib.Decide.{ℕ_discrete}
use lib.Dec.{eqb}
use lib.ListN.{length, get_or, set, length-map}
use lib.Seq.{get_or-set_same, get_or-set_other}
use borrow.Author.Tests.{eq-eqb, eqb-true}
use Rattle.std.proofs.lemmas.List.{map-set}
use Rattle.definitions.specs.Monomial.{less}
use Rattle.numbers.proofs.Searches.{least-is}
use Rattle.formulas.specs.Formulas.{Source, conjugate_entry, left_at, right_at, block_at, scalar_at, scalar}
use Rattle.survey.specs.declared.Frame.{Frame}
use Rattle.survey.specs.declared.Note.{Note}
use Rattle.survey.specs.Below.{source_in, Cycles}
use Rattle.orbits.specs.declared.Block.{Block}
use Rattle.orbits.specs.declared.BlockScalar.{BlockScalar}
use Rattle.orbits.specs.Blocks.{scalars, Inducing, BlockScalars}
use Rattle.orbits.specs.Sides.{NextScalar}
use Rattle.orbits.proofs.Blocks.{block-there, scaled, scalar-stored}

module _ (f : Frame) (W : List ℕ) (rows : List (List ℕ)) (j r : ℕ) where
  abbrev S : Source
  S = source_in f W rows

  abbrev Along : List ℕ → ℕ → Type 0
  Along a t = (u : ℕ) → u < t → get_or a (block_at S j r u) 0 ≡ scalar_at S j r u

  -- s is block k along the generator on top, and the scalars up to it are listed
  pub record Scaling (notes : List Note) (blocks : List Block) (k : ℕ) (s : BlockScalar) : Type 0 where
    pub known : Inducing f W rows notes blocks r
    pub block_is : s.block ≡ block_at S j r k
    pub scalar_is : s.exp ≡ scalar_at S j r k
    pub below : (s.block < f.p) × (s.exp < f.m)
    pub along : Along (scalars blocks) (k + 1)

  block-next : (t : ℕ) → block_at S j r (t + 1) ≡ (conjugate_entry S j r (block_at S j r t)).block
  unfolding block_at
  block-next t = ap (block_at S j r) (add-one t)

  scalar-next : (t : ℕ) → scalar_at S j r (t + 1) ≡ less f.m ((scalar_at S j r t + right_at S j r (block_at S j r t)) % f.m) (left_at S j r (block_at S j r t))
  unfolding scalar_at
  scalar-next t = ap (scalar_at S j r) (add-one t)

  module _ (above : f.top < j) (inside : j < f.gens) where
    cycles : {notes : List Note} {blocks : List Block} → Inducing f W rows notes blocks r → Cycles f W rows j r
    cycles I = I.surveyed.sound.cycles r I.leads.listed I.leads.moves I.leads.led j above inside

    along-more : Cycles f W rows j r → (a : List ℕ) (t b x : ℕ) → t < f.p → b < length a → b ≡ block_at S j r t → x ≡ scalar_at S j r t
        → Along a t → Along (set a b x) (t + 1)
    along-more C a t b x h l e v A u k = by_cases (ℕ_discrete u t)
        (λ q. ap (λ y. get_or (set a b x) y 0) (ap (block_at S j r) q ∙ sym e) ∙ get_or-set_same a b x 0 l ∙ v ∙ ap (scalar_at S j r) (sym q))
        (λ q. get_or-set_other a b (block_at S j r u) x 0 (λ o. q (C.once u t (omega arith) h (o ∙ e))) ∙ A u (omega arith))

    -- one more scalar is stored
    stored : {notes : List Note} (a : List Block) (k : ℕ) (s : BlockScalar) → Inducing f W rows notes a r → k < f.p
        → s.block ≡ block_at S j r k → s.exp ≡ scalar_at S j r k → (s.block < f.p) × (s.exp < f.m) → Along (scalars a) k
        → Scaling notes (scaled a s.block s.exp) k s
    stored a k s I h e v l A = record {
      known = scalar-stored a s.block s.exp I;
      block_is = e;
      scalar_is = v;
      below = l;
      along = subst (λ x. Along x (k + 1)) (sym (map-set (λ (b : Block). b.scalar) a s.block _)) (along-more (cycles I) (scalars a) k s.block s.exp h row e v A);
    }
      where
        row : s.block < length (scalars a)
        row = omega (arith, block-there a I.orbit_is s.block l.0, length-map a (λ (b : Block). b.scalar))

    pub scaling-none : {notes : List Note} (a : List Block) → Inducing f W rows notes a r → Scaling notes (scaled a 0 0) 0 (record { block = 0; exp = 0 })
    unfolding block_at scalar_at
    scaling-none a I =
        let st = I.surveyed.sound.stands in
        let some : 0 < f.p = omega (arith, st.prime.0) in
        stored a 0 (record { block = 0; exp = 0 }) I some refl refl (some, st.modulus.0) (λ u h. absurd (omega arith))

    pub scaling-more : {notes : List Note} (a : List Block) {k : ℕ} {s t : BlockScalar} → Scaling notes a k s → NextScalar f W rows j r s t
        → suc k < f.p → Scaling notes (scaled a t.block t.exp) (k + 1) t
    scaling-more a {k} {s} {t} C N h = stored a (k + 1) t C.known (omega arith)
        (N.block_is ∙ ap (λ b. (conjugate_entry S j r b).block) C.block_is ∙ sym (block-next k))
        (N.scalar_is ∙ ap₂ (λ b e. less f.m ((e + right_at S j r b) % f.m) (left_at S j r b)) C.block_is C.scalar_is ∙ sym (scalar-next k))
        (N.block_below, N.scalar_below) C.along

    pub scaling-all : {notes : List Note} (a : List Block) {k : ℕ} {s : BlockScalar} → Scaling notes a k s → k + 1 ≡ f.p → BlockScalars f W rows (scalars a) j r
    unfolding scalar
    scaling-all a C e = record {
      long = omega (arith, C.known.orbit_is.long, length-map a (λ (b : Block). b.member), length-map a (λ (b : Block). b.scalar));
      at = λ b h.
          let D = cycles C.known in
          let (t, l, q) = D.visits b h in
          ap (λ y. get_or (scalars a) y 0) (sym q) ∙ C.along t (omega (arith, e, l))
          ∙ ap (scalar_at S j r) (sym (least-is f.p (λ u. eqb (block_at S j r u) b) t l (eq-eqb _ _ q) (λ u h' g. D.once u t h' l (eqb-true _ _ g ∙ sym q))));
    }
