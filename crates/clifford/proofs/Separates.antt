-- Judgement 25 from basis indices that are reached and separated, in any frame of a level whose matrices show maps.
--
--   any-forms            some normal form passes a test, if a valid one does
--   separates-from       what is reached and separated passes 25
use mathlib.Core.Path.{◌≡◌, sym, ◌∙◌, ap, subst}
use mathlib.Core.Logic.{by_cases}
use mathlib.Core.Bool.{Bool, true, false, ◌&&◌, not, false≢true, Bool-discrete}
use mathlib.Core.List.{List, [], ◌∷◌, ◌++◌, map}
use Prim.Native.Nat.{ℕ, zero, suc, ◌%◌, ◌<◌}
use native.Mathlib.Nat.{mod-eq_of_lt}
use native.Mathlib.Omega.{arith}
use native.Mathlib.Decide.{dec_lt}
use lib.Dec.{eqb}
use lib.ListN.{length}
use borrow.Author.Tests.{eq-eqb, ne_eqb}
use Rattle.definitions.specs.declared.Entry.{Entry}
use Rattle.definitions.specs.Lists.{blocks, any}
use Rattle.definitions.specs.Presentation.{NF, Presentation, Valid}
use Rattle.definitions.specs.Monomial.{entry, col, Rep, Level, rep_of, image}
use Rattle.definitions.specs.Table.{level_at}
use Rattle.definitions.specs.Judgement
use Rattle.numbers.proofs.Bools.{and_intro, first, second, or_cases, or_left, or_right}
use Rattle.numbers.proofs.Lists.{all_below-intro}
use Rattle.group.specs.Context.{Context, Nf}
use Rattle.monomial.specs.Exponents.{Residue}
use Rattle.monomial.specs.Maps.{Map}
use Rattle.monomial.specs.Families.{Separated}
use Rattle.monomial.specs.Frames.{Complete, Shows}
use Rattle.monomial.proofs.Residues.{residues, Residue-path}
use Rattle.clifford.specs.Stands.{frame}

-- ---- Tests of some normal form

any_left : {A : Type 0} (q : A → Bool) (xs ys : List A) → any q xs ≡ true → any q (xs ++ ys) ≡ true
unfolding any
any_left q [] ys h = absurd (false≢true h)
any_left q (x ∷ xs) ys h = elim (or_cases (q x) (any q xs) h) [ first a ↦ or_left (q x) _ a | second a ↦ or_right (q x) _ (any_left q xs ys a) ]

any-right : {A : Type 0} (q : A → Bool) (xs ys : List A) → any q ys ≡ true → any q (xs ++ ys) ≡ true
unfolding any
any-right q [] ys h = h
any-right q (x ∷ xs) ys h = or_right (q x) _ (any-right q xs ys h)

any-map : {A B : Type 0} (f : A → B) (q : B → Bool) (xs : List A) → any (λ x. q (f x)) xs ≡ true → any q (map f xs) ≡ true
unfolding any
any-map f q [] h = h
any-map f q (x ∷ xs) h = elim (or_cases (q (f x)) _ h) [ first a ↦ or_left (q (f x)) _ a | second a ↦ or_right (q (f x)) _ (any-map f q xs a) ]

any-blocks : {A : Type 0} (q : A → Bool) (n : ℕ) (f : ℕ → List A) (k : ℕ) → k < n → any q (f k) ≡ true → any q (blocks n f) ≡ true
unfolding blocks
any-blocks q zero f k l h = absurd (omega arith)
any-blocks q (suc n) f k l h = by_cases (dec_lt k n) (λ a. any_left q (blocks n f) (f n) (any-blocks q n f k a h))
    (λ a. let e : k ≡ n = omega arith in any-right q (blocks n f) (f n) (subst (λ s. any q (f s) ≡ true) e h))

pub any-forms : (P : Presentation) (i : ℕ) (q : NF i → Bool) (x : NF i) → Valid P i x → q x ≡ true → any q (Judgement.all_forms P i) ≡ true
unfolding Judgement.all_forms any
any-forms P zero q x v h = or_left (q tt) false h
any-forms P (suc i) q x v h =
    any-blocks q (P.p i) (λ e. map (λ (x : NF i). (e, x)) (Judgement.all_forms P i)) x.0 v.0
    (any-map (λ (y : NF i). (x.0, y)) q (Judgement.all_forms P i) (any-forms P i (λ y. q (x.0, y)) x.1 v.1 h))

-- ---- A level in any frame

module _ (C : Context) (m : ℕ) (pos : 0 < m) (table : List ℕ) (i : ℕ) {Ω : Type 0} {rep column : Ω → ℕ}
    (below : (a : Ω) → column a < (rep_of (level_at C.P.n table i) (rep a)).deg)
    (K : Complete (frame (level_at C.P.n table i) rep column below) (length (level_at C.P.n table i))) (d : Nf C i → Map (residues m pos) Ω)
    (shows : (r : ℕ) → r < length (level_at C.P.n table i) → (x : Nf C i)
    → Shows m (frame (level_at C.P.n table i) rep column below) r r (image m (rep_of (level_at C.P.n table i) r) i x.0) (d x)) where
  open C use {P}

  abbrev L : Level
  L = level_at C.P.n table i

  abbrev Rp : ℕ → Rep
  Rp r = rep_of L r

  reach-holds : (r k : ℕ) (h : r < length L) (o : 0 < (Rp r).deg) (a : k < (Rp r).deg) → (w : Nf C i) × ((d w (K.find r 0 h o)).0 ≡ K.find r k h a)
      → Judgement.reaches P m table i (Rp r) k ≡ true
  unfolding Judgement.reaches
  reach-holds r k h o a (w, e) =
      any-forms P i _ w.0 w.1 (eq-eqb _ _ (ap (λ z. (col (image m (Rp r) i w.0) z).row) (sym (K.find_column r 0 h o))
      ∙ ap (λ (y : Entry). y.row) ((shows r h w).shown (K.find r 0 h o) (K.find_rep r 0 h o)) ∙ ap column e ∙ K.find_column r k h a))

  pair-holds : (r k r' k' : ℕ) (h : r < length L) (a : k < (Rp r).deg) (h' : r' < length L) (a' : k' < (Rp r').deg)
      → Separated (residues m pos) Ω d (K.find r k h a) (K.find r' k' h' a')
      → any (Judgement.tells P m table i (Rp r) k (Rp r') k') (Judgement.all_forms P i) ≡ true
  unfolding Judgement.tells
  pair-holds r k r' k' h a h' a' s =
      let y : col (image m (Rp r) i s.by.0) k ≡ entry k s.x.0 = at r k h a s.by s.x s.fixes in
      let y' : col (image m (Rp r') i s.by.0) k' ≡ entry k' s.y.0 = at r' k' h' a' s.by s.y s.fixes' in
      any-forms P i _ s.by.0 s.by.1
      (and_intro _ _ (and_intro _ _ (eq-eqb _ _ (ap (λ (z : Entry). z.row) y)) (eq-eqb _ _ (ap (λ (z : Entry). z.row) y')))
      (ap not (ne_eqb _ _ (λ e. s.differ
      (Residue-path m s.x s.y
      (sym (mod-eq_of_lt s.x.1) ∙ sym (ap (λ (z : Entry). z.exp % m) y) ∙ e ∙ ap (λ (z : Entry). z.exp % m) y' ∙ mod-eq_of_lt s.y.1))))))
    where
      at : (r k : ℕ) (h : r < length L) (a : k < (Rp r).deg) (w : Nf C i) (x : Residue m) → d w (K.find r k h a) ≡ (K.find r k h a, x)
          → col (image m (Rp r) i w.0) k ≡ entry k x.0
      at r k h a w x f =
          ap (col (image m (Rp r) i w.0)) (sym (K.find_column r k h a)) ∙ (shows r h w).shown (K.find r k h a) (K.find_rep r k h a)
          ∙ ap (λ z. entry (column z.0) z.1.0) f
          ∙ ap (λ z. entry z x.0) (K.find_column r k h a)

  pub separates-from : (r : ℕ) (h : r < length (level_at C.P.n table i)) (o : 0 < (rep_of (level_at C.P.n table i) r).deg)
      → ((k : ℕ) (a : k < (rep_of (level_at C.P.n table i) r).deg) → (w : Nf C i) × ((d w (K.find r 0 h o)).0 ≡ K.find r k h a))
      → ((x y : Ω) → ¬ (x ≡ y) → Separated (residues m pos) Ω d x y) → Judgement.separates C.P m table i r ≡ true
  unfolding Judgement.separates
  separates-from r h o reach sep =
      all_below-intro (Rp r).deg _ (λ k a. and_intro _ _ (reach-holds r k h o a (reach k a))
      (all_below-intro (length L) _ (λ r' h'. all_below-intro (Rp r').deg _ (λ k' a'.
      let same : Bool = eqb r r' && eqb k k' in
      by_cases (Bool-discrete same true) (or_left same _) (λ ne. or_right same _ (pair-holds r k r' k' h a h' a' (sep _ _ (λ e.
      ne (and_intro _ _ (eq-eqb r r' (sym (K.find_rep r k h a) ∙ ap rep e ∙ K.find_rep r' k' h' a'))
      (eq-eqb k k' (sym (K.find_column r k h a) ∙ ap column e ∙ K.find_column r' k' h' a')))))))))))
