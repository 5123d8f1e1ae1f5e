-- A level that agrees with one that stands, stands too, and is cut into the same blocks.
--
--   target-listed        an intertwiner of a level that stands maps to a listed representation
--   agree-stands         what stands is in the lines alone
--   agree-restricts      and so are the blocks
--   agree-words          levels that agree have the same lines
use mathlib.Core.Path.{◌≡◌, sym, ◌∙◌, ap, subst}
use mathlib.Core.List.{[], ◌∷◌}
use Prim.Native.Nat.{ℕ, suc, ◌+◌, ◌*◌, ◌≤◌, ◌<◌}
use native.Mathlib.Omega.{arith}
use lib.Arith.{digits_lt}
use lib.ListN.{length}
use Rattle.definitions.specs.declared.Entry.{Entry}
use Rattle.definitions.specs.Lists.{blocks, sum}
use Rattle.definitions.specs.Monomial.{entry, Level, rep_of}
use Rattle.definitions.specs.Table.{line_of, rep_words, level_words}
use Rattle.numbers.proofs.Sums.{sum_below}
use Rattle.numbers.proofs.Blocks.{blocks-below}
use Rattle.group.specs.Context.{Context}
use Rattle.group.proofs.Level.{level, conj_nf, gen_nf}
use Rattle.monomial.specs.Maps.{Map}
use Rattle.monomial.specs.Families.{Family}
use Rattle.monomial.specs.Frames.{Shows}
use Rattle.monomial.proofs.Residues.{residues}
use Rattle.clifford.specs.Stands.{frame, Stands, Restricts}
use Rattle.clifford.proofs.Lines.{Agrees}

pub target-listed : (C : Context) (n m : ℕ) (pos : 0 < m) (i : ℕ) (L : Level) {Ω : Type 0}
    (F : Family (residues m pos) Ω (level C i) (conj_nf C i) i n) → Stands C n m pos i L F
    → (j : ℕ) → i ≤ j → j < n → (r : ℕ) → r < length L → F.target j r < length L
target-listed C n m pos i L {Ω} F St j a b r h =
    let x : Ω = St.complete.find r 0 h (St.degree_pos r h) in
    subst (λ z. z < length L) (F.maps_to j a b x ∙ ap (F.target j) (St.complete.find_rep r 0 h (St.degree_pos r h)))
    (St.complete.rep_below (F.X j x).0)

module _ (C : Context) (n m : ℕ) (pos : 0 < m) (i : ℕ) (l : i ≤ n) (L M : Level) (A : Agrees n L M) {Ω : Type 0}
    (F : Family (residues m pos) Ω (level C i) (conj_nf C i) i n)
    (St : Stands C n m pos i L F) where
  open St use {column, complete}

  here : (r : ℕ) → r < length M → r < length L
  here r h = subst (λ z. r < z) (sym A.same_length) h

  below : (a : Ω) → column a < (rep_of M (F.rep a)).deg
  below a = subst (λ z. column a < z) (A.same_degree (F.rep a) (complete.rep_below a)) (St.column_below a)

  column-in : (r c : ℕ) → r < length L → c < (rep_of M r).deg → c < (rep_of L r).deg
  column-in r c h b = subst (λ z. c < z) (sym (A.same_degree r h)) b

  agree-shows : (r s g : ℕ) (B : Map (residues m pos) Ω) → r < length L → g < n
      → Shows m (frame L F.rep column St.column_below) r s ((rep_of L r).matrix g) B → Shows m (frame M F.rep column below) r s ((rep_of M r).matrix g) B
  agree-shows r s g B h a sh = record {
    size = A.size r g h a;
    maps_to = sh.maps_to;
    shown = λ x e. sym (A.same_column r g (column x) h a (subst (λ z. column x < (rep_of L z).deg) e (St.column_below x))) ∙ sh.shown x e;
  }

  pub agree-stands : Stands C n m pos i M F
  agree-stands = record {
    column = column;
    column_below = below;
    complete = record {
      rep_below = λ a. subst (λ z. F.rep a < z) A.same_length (complete.rep_below a);
      find = λ r c h b. complete.find r c (here r h) (column-in r c (here r h) b);
      find_rep = λ r c h b. complete.find_rep r c (here r h) (column-in r c (here r h) b);
      find_column = λ r c h b. complete.find_column r c (here r h) (column-in r c (here r h) b);
      known = complete.known;
    };
    represents = λ k a r h. agree-shows r r k (F.d (gen_nf C i k)) (here r h) (omega arith) (St.represents k a r (here r h));
    intertwines = λ j a b r h. agree-shows r (F.target j r) j (F.X j) (here r h) b (St.intertwines j a b r (here r h));
    refers = λ j a b r h c d. sym (A.same_ref r j c (here r h) b (column-in r c (here r h) d)) ∙ St.refers j a b r (here r h) c (column-in r c (here r h) d);
    nonempty = subst (λ z. 0 < z) A.same_length St.nonempty;
    degree_pos = λ r h. subst (λ z. 0 < z) (A.same_degree r (here r h)) (St.degree_pos r (here r h));
    degree_target = λ j a b r h. sym (A.same_degree (F.target j r) (target-listed C n m pos i L F St j a b r (here r h)))
        ∙ St.degree_target j a b r (here r h) ∙ A.same_degree r (here r h);
    squares = ap (λ z. sum z (λ r. (rep_of M r).deg * (rep_of M r).deg)) (sym A.same_length)
        ∙ sum_below (length L) _ (λ r. (rep_of L r).deg * (rep_of L r).deg) (λ r h. ap (λ d. d * d) (sym (A.same_degree r h))) ∙ St.squares;
  }

pub agree-restricts : (n i : ℕ) → i < n → (low low' L L' : Level) → Agrees n low low' → Agrees n L L' → (r : ℕ) → r < length L
    → Restricts i low (rep_of L r) → Restricts i low' (rep_of L' r)
agree-restricts n i l low low' L L' A B r h Q =
    let inside : (b c : ℕ) → b < Q.count → c < Q.width → b * Q.width + c < (rep_of L r).deg
    = λ b c e f. subst (λ z. b * Q.width + c < z) (sym Q.degree) (digits_lt e f) in
    record {
      count = Q.count;
      width = Q.width;
      part = Q.part;
      width_pos = Q.width_pos;
      part_below = λ b a. subst (λ z. Q.part b < z) A.same_length (Q.part_below b a);
      part_degree = λ b a. sym (A.same_degree (Q.part b) (Q.part_below b a)) ∙ Q.part_degree b a;
      degree = sym (B.same_degree r h) ∙ Q.degree;
      refers = λ g a b c e f. sym (B.same_ref r g (b * Q.width + c) h (omega arith) (inside b c e f)) ∙ Q.refers g a b c e f;
      acts = λ k a b c e f.
          sym (B.same_column r k (b * Q.width + c) h (omega arith) (inside b c e f)) ∙ Q.acts k a b c e f
          ∙ ap (λ (x : Entry). entry (b * Q.width + x.row) x.exp)
          (A.same_column (Q.part b) k c (Q.part_below b e) (omega arith) (subst (λ z. c < z) (sym (Q.part_degree b e)) f));
    }

pub agree-words : (n i : ℕ) (L M : Level) → Agrees n L M → level_words n i L ≡ level_words n i M
unfolding level_words rep_words line_of
agree-words n i L M A =
    blocks-below (length L) (λ r. rep_words n i r (rep_of L r)) (λ r. rep_words n i r (rep_of M r)) (λ r h.
    blocks-below n (λ g. blocks (rep_of L r).deg (λ c. line_of i r (rep_of L r) g c)) (λ g. blocks (rep_of M r).deg (λ c. line_of i r (rep_of M r) g c)) (λ g a.
    blocks-below (rep_of L r).deg (λ c. line_of i r (rep_of L r) g c) (λ c. line_of i r (rep_of M r) g c) (λ c b.
    λ o. i ∷ r ∷ A.same_degree r h o ∷ suc g ∷ A.same_ref r g c h a b o ∷ c ∷ (A.same_column r g c h a b o).row ∷ (A.same_column r g c h a b o).exp ∷ [])
    ∙ ap (λ d. blocks d (λ c. line_of i r (rep_of M r) g c)) (A.same_degree r h)))
    ∙ ap (λ k. blocks k (λ r. rep_words n i r (rep_of M r))) A.same_length
