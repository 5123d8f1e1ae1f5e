-- Extensions by closed formulas.
--
--   scale-zero               nothing added to a matrix that shows
--   plus-on, top-shows       generator i with its scalar, and that of extension 0, on an entry
--   landing_is               the number that an intertwiner's target has, read off single columns
--   start-same               numbers count alike
use mathlib.Core.Path.{◌≡◌, refl, sym, ◌∙◌, ap, ap₂}
use Prim.Native.Nat.{ℕ, suc, ◌+◌, ◌/◌, ◌%◌, ◌<◌}
use native.Mathlib.Nat.{add-zero, mod-eq_of_lt}
use native.Mathlib.Omega.{arith}
use Rattle.definitions.specs.declared.Entry.{Entry}
use Rattle.definitions.specs.Lists.{iter}
use Rattle.definitions.specs.Presentation.{power}
use Rattle.definitions.specs.Monomial.{Matrix, entry, less, act, scale, rep_of}
use Rattle.definitions.specs.Steps
use Rattle.formulas.specs.Formulas as Fm
use Rattle.group.specs.Context.{Nf}
use Rattle.group.proofs.Level.{w_nf}
use Rattle.monomial.specs.Exponents.{Residue}
use Rattle.monomial.specs.Maps.{Map, maps}
use Rattle.monomial.specs.Frames.{Shows}
use Rattle.monomial.proofs.Exponents.{rcomm}
use Rattle.monomial.proofs.Residues.{residues, add-value, part-value, log-value}
use Rattle.monomial.proofs.Frames.{shows-scale, shown-unique}
use Rattle.clifford.specs.Stands.{Rung}
use Rattle.clifford.proofs.Numbering.{P, p, N, rep, τ, S, ready}
use Rattle.clifford.proofs.Top.{Y, Y-at, Y-maps, φ, φ-is, q, q-eq}
use Rattle.clifford.proofs.Scalars.{parts, σ, σ-fixed, q̂}
use Rattle.clifford.proofs.Extensions.{E, Φ, 𝓢, first, first_rep, l-is, fixed-shows, share-is}
use Rattle.clifford.proofs.Next.{target_below, target_fixed}
use Rattle.clifford.proofs.Formulas.{less-back}
use Rattle.agreement.proofs.Entries.{Sc, Z, stand, move, move-mul, act-shows, iter-shows, walk-shows, origin, origin-rep, origin-stands, origin-moves}
use Rattle.agreement.proofs.Entries.{move-pair, stand-exp, shift_is}

module _ (R : Rung) where
  open R use {T, m, pos, i, L, Ω, F, stands}
  open R.stands use {column, complete}
  open residues m pos use {add}

  pub scale-zero : {r s : ℕ} {M : Matrix} {A : Map (E R) Ω} → r < N R → Shows m (Φ R) r s M A → scale m 0 M ≡ M
  scale-zero {r} {s} {M} {A} h sh = shown-unique m pos (Φ R) complete h
      (shows-scale m pos (Φ R) {A = A} {B = A} 0 sh (λ a e. (refl, sym (ap (λ z. z % m) (add-zero _) ∙ mod-eq_of_lt (A a).1.1)))) sh

  -- ---- Generator i of extension 0

  shift-part : (r : ℕ) → r < N R → τ R r ≡ r → Fm.shift (Sc R) r / p R ≡ (σ (S R) m pos F (ready R) r).0
  shift-part r h f = ap (λ z. z / p R) (shift_is R r h) ∙ sym (ap (λ z. z.0) (σ-fixed (S R) m pos F (ready R) r f) ∙ part-value m pos _ _)

  -- generator i with its scalar, on an entry
  pub plus-on : {s t : ℕ} {M : Matrix} (c : ℕ) → Shows m (Φ R) s t M (F.X i) → (z : Z R) → rep R z.0 ≡ s → c ≡ (σ (S R) m pos F (ready R) (rep R z.0)).0
      → Fm.plus m c (act m M (stand R z)) ≡ stand R (move R (Y (S R) F (𝓢 R)) z)
  unfolding Fm.plus stand move
  plus-on c sh z e q =
      let k : Residue m = σ (S R) m pos F (ready R) (rep R z.0) in
      let (b, x) = F.X i z.0 in
      ap₂ (λ c (y : Entry). entry y.row ((y.exp + c) % m)) q (act-shows R sh z e)
      ∙ ap (entry (column b)) (sym (add-value m pos (add x z.1) k) ∙ ap (λ y. y.0) (rcomm (E R) x z.1 k))
      ∙ ap (λ y. entry (column y.0) (add y.1 z.1).0) (sym (Y-at (S R) F (𝓢 R) z.0))

  pub top-shows : (r : ℕ) → r < N R → τ R r ≡ r → (z : Z R) → rep R z.0 ≡ r → (Fm.top_entry (Sc R) r (stand R z) ≡ stand R (move R (Y (S R) F (𝓢 R)) z)) × (rep R (move R (Y (S R) F (𝓢 R)) z).0 ≡ r)
  unfolding Fm.top_entry move
  top-shows r h f z e = (
    plus-on _ (fixed-shows R r h f) z e (shift-part r h f ∙ ap (λ s. (σ (S R) m pos F (ready R) s).0) (sym e)),
    Y-maps (S R) F (𝓢 R) z.0 ∙ ap (τ R) e ∙ f,
  )

  -- ---- The number of an intertwiner's target

  module _ (j : ℕ) (ij : i < j) (jn : j < T.n) (r : ℕ) (h : r < N R) (f : τ R r ≡ r) where
    abbrev o : Z R
    o = origin R r

    abbrev ro : rep R o.0 ≡ r
    ro = origin-rep R r h

    conj-shows : (iter (Fm.top_entry (Sc R) r) (suc ((P R).w i j).0) (Fm.walk m (λ g. (rep_of L r).matrix g) i ((P R).w i j).1 (entry 0 0)) ≡ stand R (φ (S R) F (𝓢 R) j ij jn (first R r)))
        × (rep R (φ (S R) F (𝓢 R) j ij jn (first R r)).0 ≡ r)
    unfolding w_nf
    conj-shows =
        let x : Nf T.context i = ((w_nf T.context i j).0.1, (w_nf T.context i j).1.1) in
        let (a, b) = walk-shows R r h x o ro in
        let (c, d) = iter-shows R (Fm.top_entry (Sc R) r) (Y (S R) F (𝓢 R)) (top-shows r h f) (suc ((P R).w i j).0) (move R (F.d x) o) b in
        let q : move R (power (maps (E R) Ω) (Y (S R) F (𝓢 R)) (suc ((P R).w i j).0)) (move R (F.d x) o) ≡ φ (S R) F (𝓢 R) j ij jn (first R r)
        = sym (move-mul R _ _ o) ∙ ap (λ B. move R B o) (sym (φ-is (S R) F (𝓢 R) j ij jn)) ∙ origin-moves R _ r in
        let walked = ap (Fm.walk m (λ g. (rep_of L r).matrix g) i ((P R).w i j).1) (sym (origin-stands R r)) ∙ a in
        (ap (iter (Fm.top_entry (Sc R) r) (suc ((P R).w i j).0)) walked ∙ c ∙ ap (stand R) q, ap (λ y. rep R y.0) (sym q) ∙ d)

    abbrev Xj : Shows m (Φ R) r (F.target j r) ((rep_of L r).matrix j) (F.X j)
    Xj = stands.intertwines j (omega arith) jn r h

    pub landing_is : Fm.landing (Sc R) j r ≡ Steps.l (P R) m i L j r
    unfolding Fm.landing q̂
    landing_is =
        let a : Ω = first R r in
        let steps = l-is R j ij jn r h f ∙ log-value m pos (parts (S R) m pos F (ready R)) _ in
        let left = ap (λ (x : Entry). x.exp) (ap (act m ((rep_of L r).matrix j)) conj-shows.0 ∙ act-shows R Xj (φ (S R) F (𝓢 R) j ij jn a) conj-shows.1)
        ∙ stand-exp R _ ∙ ap (λ z. z.1.0) (move-pair R (F.X j) (φ (S R) F (𝓢 R) j ij jn) a ∙ q-eq (S R) F (𝓢 R) j ij jn a) in
        let moved = ap (act m ((rep_of L r).matrix j)) (sym (origin-stands R r)) ∙ act-shows R Xj o ro ∙ ap (stand R) (origin-moves R (F.X j) r) in
        let topped = (top-shows (F.target j r) (target_below R j ij jn r h) (target_fixed R j ij jn r h f) (F.X j a) (Xj.maps_to a (first_rep R r h))).0 in
        let right = ap (λ (x : Entry). x.exp) (ap₂ (Fm.top_entry (Sc R)) (sym (R.literal j r)) moved ∙ topped) ∙ stand-exp R _
        ∙ ap (λ z. z.1.0) (move-pair R (Y (S R) F (𝓢 R)) (F.X j) a) in
        ap₂ (λ x y. less m x y / (m / p R)) left right ∙ ap₂ (◌/◌) (less-back R _ _) (share-is R) ∙ sym steps

  -- ---- Numbers

  pub start-same : (r : ℕ) → Fm.start (Sc R) r ≡ Steps.start (P R) m i L r
  unfolding Fm.start Steps.start Fm.made Steps.made Steps.fixed Steps.leader Steps.orbit
  start-same r = refl
