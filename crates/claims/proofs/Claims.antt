-- The claims of the representations of a level, one behind the other.
--
--   same_reference, same-reference, other-reference     the test of a column
--   one-reference              what the test of one reference says
--   claimed-many, claimed-one     what a representation claims, by the test
--   kind_of                     the mark of what a representation refers to
--   Claims i p part L r M S    the first r representations of L are apart, and what they claim is marked
--   claims-none, claims-found, claims-all     at the start, one representation more, and at the end
use mathlib.Core.Path.{◌≡◌, refl, sym, ◌∙◌, ap, ap₂, subst}
use mathlib.Core.Bool.{Bool, true, false, cond, false≢true}
use mathlib.Core.List.{List}
use Prim.Native.Nat.{ℕ, ◌+◌, ◌*◌, ◌/◌, ◌≤◌, ◌<◌}
use native.Mathlib.Decide.{dec_lt}
use native.Mathlib.Omega.{arith}
use lib.Dec.{eqb}
use lib.ListN.{length, get_or}
use borrow.Author.Count.{below_more}
use borrow.Author.Tests.{eqb-true, eq-eqb, ne_eqb}
use Rattle.definitions.specs.Monomial.{Rep, Level, rep_of}
use Rattle.definitions.specs.Table.{REF, word_at, rep_at, level_at}
use Rattle.numbers.proofs.Lists.{all_below-elim}
use Rattle.level.specs.declared.Listed.{Listed}
use Rattle.seek.specs.Seek.{Found}
use Rattle.seek.specs.Among.{rep_in}
use Rattle.seek.proofs.Columns.{ref-at}
use Rattle.claims.specs.declared.Mark.{Mark}
use Rattle.claims.specs.declared.Mark.TheVariants.{Free, Shared, Taken}
use Rattle.claims.proofs.Marks.{taken-busy, shared-busy}
use Rattle.claims.specs.Claims.{OneReference, top_exponent, Apart, Unshared, one_reference, slot_of, TookAll, Shares, Claimed}

-- the test of a column, by the words that are read
abbrev pub same_reference : Rep → ℕ → Bool
same_reference D c = eqb (D.ref 0 c) (D.ref 0 0)

module _ (T : List ℕ) (line deg c x y : ℕ) (h : x ≡ word_at T (line + c) REF) (h' : y ≡ word_at T line REF) where
  reads : x ≡ (rep_at T line deg).ref 0 c
  reads = h ∙ sym (ref-at T line deg c)

  reads_first : y ≡ (rep_at T line deg).ref 0 0
  reads_first = let e : line ≡ line + 0 = omega arith in h' ∙ ap (λ l. word_at T l REF) e ∙ sym (ref-at T line deg 0)

  pub same-reference : x ≡ y → same_reference (rep_at T line deg) c ≡ true
  same-reference e = eq-eqb _ _ (sym reads ∙ e ∙ reads_first)

  pub other-reference : ¬ (x ≡ y) → same_reference (rep_at T line deg) c ≡ false
  other-reference n = ne_eqb _ _ (λ e. n (reads ∙ e ∙ sym reads_first))

pub one-reference : (D : Rep) → one_reference D ≡ true → OneReference D
one-reference D h c l = eqb-true _ _ (all_below-elim D.deg _ h c l)

abbrev pub kind_of : Rep → Mark
kind_of D = cond (one_reference D) Shared Taken

abbrev pub AllMarked : Rep → List Mark → Type 0
AllMarked D M = (c : ℕ) → c < D.deg → get_or M (D.ref 0 c) Free ≡ kind_of D

pub record Claims (i p part : ℕ) (L : Level) (r : ℕ) (M : List Mark) (S : List Bool) : Type 0 where
  pub marked : (q : ℕ) → q < r → AllMarked (rep_of L q) M
  pub slotted : (q : ℕ) → q < r → one_reference (rep_of L q) ≡ true → get_or S (slot_of i p part (rep_of L q)) false ≡ true
  pub apart : (q q' : ℕ) → q < r → q' < r → ¬ (q ≡ q') → Apart i (rep_of L q) (rep_of L q')

pub claims-none : (i p part : ℕ) (L : Level) (M : List Mark) (S : List Bool) → Claims i p part L 0 M S
claims-none i p part L M S =
    record { marked = λ q l. absurd (omega arith); slotted = λ q l. absurd (omega arith); apart = λ q q' l. absurd (omega arith) }

pub claims-all : {i p part : ℕ} {L : Level} {r : ℕ} {M : List Mark} {S : List Bool} → Claims i p part L r M S → length L ≤ r → Unshared i L
claims-all H l = record { apart = λ q q' a b. H.apart q q' (omega arith) (omega arith) }

kind-one : (D : Rep) → one_reference D ≡ true → kind_of D ≡ Shared
kind-one D h = ap (λ b. cond b Shared Taken) h

kind-many : (D : Rep) → one_reference D ≡ false → kind_of D ≡ Taken
kind-many D h = ap (λ b. cond b Shared Taken) h

apart_other : (i : ℕ) (D E : Rep) → Apart i D E → Apart i E D
apart_other i D E A c c' l l' e = let (a, b, n) = A c' c l' l (sym e) in (b, a, λ z. n (sym z))

-- ---- One representation

module _ (i p part : ℕ) (D : Rep) (M N : List Mark) (S : List Bool) (b : Bool) (is : b ≡ one_reference D) where
  pub claimed-many : b ≡ false → TookAll D M N → Claimed i p part D M N S S
  claimed-many h t = record { one = λ z. absurd (false≢true (sym h ∙ is ∙ z)); many = λ _. (t, refl) }

  pub claimed-one : b ≡ true → (U : List Bool) (f x : ℕ) → f ≡ D.ref 0 0 → x ≡ slot_of i p part D → Shares f x M N S U → Claimed i p part D M N S U
  claimed-one h U f x e e' t = record {
    one = λ _. subst (λ f. Shares f (slot_of i p part D) M N S U) e (subst (λ x. Shares f x M N S U) e' t);
    many = λ z. absurd (false≢true (sym z ∙ sym is ∙ h));
  }

-- ---- One representation more

module _ {i p part : ℕ} {D : Rep} {M N : List Mark} {S U : List Bool} (C : Claimed i p part D M N S U) where
  -- what E claimed before stays marked
  stays-marked : (E : Rep) → AllMarked E M → AllMarked E N
  stays-marked E H c l = go (one_reference D) refl
    where
      here : get_or M (E.ref 0 c) Free ≡ kind_of E
      here = H c l

      busy : (b : Bool) → one_reference E ≡ b → ¬ (get_or M (E.ref 0 c) Free ≡ Free)
      busy true h z = shared-busy (sym (kind-one E h) ∙ sym here ∙ z)
      busy false h z = taken-busy (sym (kind-many E h) ∙ sym here ∙ z)

      go : (b : Bool) → one_reference D ≡ b → get_or N (E.ref 0 c) Free ≡ kind_of E
      go true h = (C.one h).kept (E.ref 0 c) (busy (one_reference E) refl) ∙ here
      go false h = (C.many h).0.kept (E.ref 0 c) (busy (one_reference E) refl) ∙ here

  stays-slotted : (x : ℕ) → get_or S x false ≡ true → get_or U x false ≡ true
  stays-slotted x e = go (one_reference D) refl
    where
      go : (b : Bool) → one_reference D ≡ b → get_or U x false ≡ true
      go true h = (C.one h).slots_kept x e
      go false h = ap (λ (L : List Bool). get_or L x false) (C.many h).1 ∙ e

  -- what D claims is marked
  is-marked : AllMarked D N
  is-marked c l = go (one_reference D) refl
    where
      go : (b : Bool) → one_reference D ≡ b → get_or N (D.ref 0 c) Free ≡ kind_of D
      go true h = ap (λ f. get_or N f Free) (one-reference D h c l) ∙ (C.one h).marked ∙ sym (kind-one D h)
      go false h = (C.many h).0.marked c l ∙ sym (kind-many D h)

  -- and was not claimed by E
  comes-apart : (E : Rep) → AllMarked E M → (one_reference E ≡ true → get_or S (slot_of i p part E) false ≡ true) → Apart i E D
  comes-apart E H slot c c' l l' e = go (one_reference D) refl (one_reference E) refl
    where
      met : get_or M (D.ref 0 c') Free ≡ kind_of E
      met = ap (λ f. get_or M f Free) (sym e) ∙ H c l

      go : (b : Bool) → one_reference D ≡ b → (b' : Bool) → one_reference E ≡ b' → OneReference E × OneReference D × ¬ (top_exponent i E ≡ top_exponent i D)
      go true h true h' =
          let first : E.ref 0 0 ≡ D.ref 0 0 = sym (one-reference E h' c l) ∙ e ∙ one-reference D h c' l' in
          let same : top_exponent i E ≡ top_exponent i D → slot_of i p part E ≡ slot_of i p part D = λ x. ap₂ (λ f t. f * p + t / part) first x in
          let free = (C.one h).slot_free in
          (one-reference E h', one-reference D h, λ x. let z = ap (λ s. get_or S s false) (same x) in false≢true (sym free ∙ sym z ∙ slot h'))
      go true h false h' =
          let z = ap (λ f. get_or M f Free) (one-reference D h c' l') in
          absurd ((C.one h).whole_free (sym z ∙ met ∙ kind-many E h'))
      go false h true h' = absurd (shared-busy (sym (kind-one E h') ∙ sym met ∙ (C.many h).0.free c' l'))
      go false h false h' = absurd (taken-busy (sym (kind-many E h') ∙ sym met ∙ (C.many h).0.free c' l'))

module _ {i p part : ℕ} {L : Level} {r : ℕ} {M N : List Mark} {S U : List Bool} (H : Claims i p part L r M S) (C : Claimed i p part (rep_of L r) M N S U) where
  new-slot : one_reference (rep_of L r) ≡ true → get_or U (slot_of i p part (rep_of L r)) false ≡ true
  new-slot h = (C.one h).slot_marked

  earlier : (q : ℕ) → q < r → Apart i (rep_of L q) (rep_of L r)
  earlier q l = comes-apart C (rep_of L q) (H.marked q l) (H.slotted q l)

  all_apart : (q q' : ℕ) → q < r + 1 → q' < r + 1 → ¬ (q ≡ q') → Apart i (rep_of L q) (rep_of L q')
  all_apart q q' l l' n = go (dec_lt q r) (dec_lt q' r)
    where
      go : Dec (q < r) → Dec (q' < r) → Apart i (rep_of L q) (rep_of L q')
      go (yes a) (yes b) = H.apart q q' a b n
      go (yes a) (no b) = let e : r ≡ q' = omega arith in subst (λ x. Apart i (rep_of L q) (rep_of L x)) e (earlier q a)
      go (no a) (yes b) = let e : r ≡ q = omega arith in subst (λ x. Apart i (rep_of L x) (rep_of L q')) e (apart_other i (rep_of L q') (rep_of L r) (earlier q' b))
      go (no a) (no b) = absurd (n (omega arith))

  claims-more : Claims i p part L (r + 1) N U
  claims-more = record {
    marked = below_more (λ q. AllMarked (rep_of L q) N) r (λ q l. stays-marked C (rep_of L q) (H.marked q l)) (is-marked C);
    slotted = below_more (λ q. one_reference (rep_of L q) ≡ true → get_or U (slot_of i p part (rep_of L q)) false ≡ true) r
        (λ q l h. stays-slotted C (slot_of i p part (rep_of L q)) (H.slotted q l h)) new-slot;
    apart = all_apart;
  }

pub claims-found : {n : ℕ} {T : List ℕ} {k r : ℕ} {D : Listed} → Found n T k r D → {i p part : ℕ} {M N : List Mark} {S U : List Bool}
    → Claims i p part (level_at n T k) r M S → Claimed i p part (rep_in T D) M N S U → Claims i p part (level_at n T k) (r + 1) N U
claims-found F {i} {p} {part} {M} {N} {S} {U} H C = claims-more H (subst (λ (D : Rep). Claimed i p part D M N S U) (sym F.rep) C)
