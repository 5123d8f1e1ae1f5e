-- The matrices of the steps at a representation that generator i fixes: they show the maps of the theory, and the
-- numbers s and l are the scalars of the theory.
--
--   Φ                          the frame of the level
--   image-shows                D of a normal form shows the map of the family
--   raised-value               the representation of the extension is its value at the generators
--   word-shows, conjugate-shows      words and conjugates over matrices that show the generators
--   s-is                       s is the negative of the defect
--   share-is                   the share of the modulus, by a division
--   extended-shows             the matrix of generator i in extension κ
--   base-shows                 the matrices of extension κ
--   l-is                       l is the number of the scalar q
use mathlib.Core.Path.{◌≡◌, refl, sym, ◌∙◌, ap, ap₂, subst}
use Prim.Native.Nat.{ℕ, suc, ◌+◌, ◌*◌, ◌/◌, ◌%◌, ◌<◌}
use native.Mathlib.Nat.{add-mod-mod, div-eq_of_eq-mul_right}
use native.Mathlib.Omega.{arith}
use native.Mathlib.Decide.{dec_lt}
use Rattle.definitions.specs.declared.Entry.{Entry}
use Rattle.definitions.specs.Lists.{least}
use Rattle.definitions.specs.Presentation.{value}
use Rattle.definitions.specs.Monomial.{Matrix, col, less, product, same_matrix, Rep, rep_of, image, conjugate}
use Rattle.definitions.specs.Steps
use Rattle.numbers.proofs.Bools.{cond-lt, cond-ge}
use Rattle.numbers.proofs.Lists.{below_suc}
use Rattle.numbers.proofs.Searches.{least-is}
use Rattle.group.specs.Context.{Nf}
use Rattle.group.proofs.Values.{value-hom}
use Rattle.group.proofs.Level.{level, conj_nf, gen_nf, u_nf, w_nf, top, gen-low, gen-top}
use Rattle.group.proofs.Group.{group}
use Rattle.monomial.specs.Exponents.{Exponents, times, Residue}
use Rattle.monomial.specs.Maps.{Map, maps}
use Rattle.monomial.specs.Frames.{Layout, Shows}
use Rattle.monomial.proofs.Exponents.{lcomm, cancel, neg_of}
use Rattle.monomial.proofs.Maps.{pair, at_mul}
use Rattle.monomial.proofs.Residues.{residues, add-value, times-value, less-value, part-value, unit, unit-value, unit-injective, log, log-below}
use Rattle.monomial.proofs.Frames.{shows-mul, shows-power, shows-value, shows-map, shows-on, shows-scale, same-shown, shown-same}
use Rattle.clifford.specs.Stands.{frame, Rung}
use Rattle.clifford.proofs.Numbering.{P, p, N, rep, τ, S, ready, rep_below, first_of-rep, first_of-column}
use Rattle.clifford.proofs.Defect.{defect, defect-eq}
use Rattle.clifford.proofs.Top.{Normed, Y, Y-at, raised, raised-hom, raised-low, raised-top, φ, q-eq, fixed-stays}
use Rattle.clifford.proofs.Step.{Roots, numbered, numbered-zero, Y-numbered-at}
use Rattle.clifford.proofs.Scalars.{parts, normed, roots, σ, σ-fixed, q̂, q-first, log-q}

module _ (R : Rung) where
  open R use {T, m, pos, i, L, Ω, F, stands}
  open T use {context as C}
  open R.stands use {column, column_below, complete}

  abbrev pub E : Exponents (Residue R.m)
  E = residues R.m R.pos

  abbrev pub Φ : Layout Ω
  Φ = frame L F.rep column column_below

  abbrev pub 𝓢 : Normed (S R) F
  𝓢 = normed (S R) m pos F (ready R)

  abbrev pub ρ : Roots (S R) F 𝓢
  ρ = roots (S R) m pos F (ready R)

  abbrev pub first : ℕ → Ω
  first = (ready R).first

  abbrev pub D : ℕ → ℕ → Map E Ω
  D κ k = raised (S R) F (numbered (S R) F 𝓢 ρ κ) (gen_nf T.context (suc i) k)

  infixl 70 ◌*'◌
  open maps E Ω use {mul as ◌*'◌}
  open E use {add, nil, neg}

  -- ---- Values

  pub image-shows : (r : ℕ) → r < N R → (x : Nf T.context i) → Shows m Φ r r (image m (rep_of L r) i x.0) (F.d x)
  unfolding image
  image-shows r h x = shows-map m pos Φ
      (shows-value m pos Φ refl (rep_of L r).matrix (λ k. F.d (gen_nf C i k)) i (λ k l. stands.represents k l r h) x.0)
      (sym (value-hom F.hom (gen_nf C i) i x.0) ∙ ap F.d ((group T i (omega (arith, R.in_range))).gen_value x))

  pub raised-value : (𝓨 : Normed (S R) F) (x : Nf T.context (suc i))
      → value (maps E Ω) (λ k. raised (S R) F 𝓨 (gen_nf T.context (suc i) k)) (suc i) x.0 ≡ raised (S R) F 𝓨 x
  raised-value 𝓨 x = sym (value-hom (raised-hom (S R) F 𝓨) (gen_nf C (suc i)) (suc i) x.0)
      ∙ ap (raised (S R) F 𝓨) ((group T (suc i) R.in_range).gen_value x)

  -- what shows the generators of the extension shows its words and conjugates; the frame is free
  module _ (Ψ : Layout Ω) (𝓨 : Normed (S R) F) (B : Rep) (r : ℕ) (is : Ψ.degree r ≡ B.deg)
      (shows : (k : ℕ) → k < suc i → Shows m Ψ r r (B.matrix k) (raised (S R) F 𝓨 (gen_nf T.context (suc i) k))) where
    word-shows : (x : Nf C (suc i)) → Shows m Ψ r r (image m B (suc i) x.0) (raised (S R) F 𝓨 x)
    unfolding image
    word-shows x = shows-map m pos Ψ (shows-value m pos Ψ is B.matrix (λ k. raised (S R) F 𝓨 (gen_nf C (suc i) k)) (suc i) shows x.0) (raised-value 𝓨 x)

    pub conjugate-shows : (j : ℕ) (ij : i < j) (jn : j < T.n) → Shows m Ψ r r (conjugate m (P R) B i j) (φ (S R) F 𝓨 j ij jn)
    unfolding conjugate φ w_nf
    conjugate-shows j ij jn =
        shows-map m pos Ψ (shows-mul m pos Ψ (shows i (omega arith)) (word-shows (w_nf C i j)))
        (sym ((raised-hom (S R) F 𝓨).on_mul _ _)
        ∙ ap (raised (S R) F 𝓨) (ap ((level C (suc i)).mul (gen_nf C (suc i) i)) (sym ((group T (suc i) R.in_range).gen_value (w_nf C i j)))
        ∙ sym ((group T (suc i) R.in_range).conj_gen j (omega arith) i (omega arith)) ∙ ap (conj_nf C (suc i) j) (gen-top C i)))

  pub gen-below : (𝓨 : Normed (S R) F) (k : ℕ) → k < i → raised (S R) F 𝓨 (gen_nf T.context (suc i) k) ≡ F.d (gen_nf T.context i k)
  gen-below 𝓨 k l = ap (raised (S R) F 𝓨) (gen-low C i k l) ∙ raised-low (S R) F 𝓨 (gen_nf C i k)

  pub gen-last : (𝓨 : Normed (S R) F) → raised (S R) F 𝓨 (gen_nf T.context (suc i) i) ≡ Y (S R) F 𝓨
  gen-last 𝓨 = ap (raised (S R) F 𝓨) (gen-top C i) ∙ raised-top (S R) F 𝓨

  -- ---- First columns

  pub first_rep : (r : ℕ) → r < N R → rep R (first r) ≡ r
  first_rep r h = first_of-rep R r (dec_lt r (N R)) h

  pub first-shown : {r s : ℕ} {M : Matrix} {A : Map E Ω} → r < N R → Shows m Φ r s M A → (col M 0).exp ≡ (A (first r)).1.0
  first-shown {r} {s} {M} {A} h sh =
      ap (λ k. (col M k).exp) (sym (first_of-column R r (dec_lt r (N R)))) ∙ ap (λ (x : Entry). x.exp) (sh.shown (first r) (first_rep r h))

  -- an intertwiner at a representation that it fixes
  pub fixed-shows : (r : ℕ) → r < N R → τ R r ≡ r → Shows m Φ r r ((rep_of L r).matrix i) (F.X i)
  fixed-shows r h f = subst (λ s. Shows m Φ r s ((rep_of L r).matrix i) (F.X i)) f (stands.intertwines i (omega arith) R.in_range r h)

  -- ---- s and the matrix of generator i

  pub s-is : (r : ℕ) → r < N R → τ R r ≡ r → Steps.s (P R) m i L r ≡ (neg (defect (S R) F (first r))).0
  unfolding Steps.s u_nf
  s-is r h f =
      ap₂ (less m) (first-shown h (image-shows r h (u_nf C i)))
      (first-shown h (shows-power m pos Φ refl (fixed-shows r h f) (p R)) ∙ ap (λ z. z.1.0) (defect-eq (S R) F (first r)))
      ∙ less-value m pos _ _ ∙ ap (λ z. z.0) (neg_of E (defect (S R) F (first r)) _ (sym (E.assoc _ _ _) ∙ E.negr _))

  pub share-is : m / p R ≡ R.share
  share-is = div-eq_of_eq-mul_right (omega (arith, T.context.two i)) R.split

  pub extended-shows : (r κ : ℕ) → r < N R → τ R r ≡ r → Shows m Φ r r (Steps.extended (P R) m i L r κ) (Y (S R) F (numbered (S R) F 𝓢 ρ κ))
  unfolding Steps.extended
  extended-shows r κ h f = shows-scale m pos Φ (Steps.s (P R) m i L r / p R + κ * (m / p R)) (fixed-shows r h f) (λ a e.
      let σ-is = ap (λ r. (σ (S R) m pos F (ready R) r).0) e ∙ ap (λ z. z.0) (σ-fixed (S R) m pos F (ready R) r f) ∙ part-value m pos _ _
      ∙ ap (λ z. z / p R) (sym (s-is r h f)) in (
        ap (λ z. z.0) (Y-numbered-at (S R) F 𝓢 ρ κ a),
        ap (λ z. z.1.0) (Y-numbered-at (S R) F 𝓢 ρ κ a) ∙ add-value m pos _ _
            ∙ ap (λ z. ((F.X i a).1.0 + z) % m) (add-value m pos _ _
            ∙ ap₂ (λ x y. (x + y) % m) σ-is (times-value m pos κ _ ∙ ap (λ z. (κ * z) % m) (unit-value m pos _ ∙ sym share-is)) ∙ add-mod-mod _ _ _)
            ∙ add-mod-mod _ _ _,
      ))

  pub base-shows : (r κ : ℕ) → r < N R → τ R r ≡ r → (k : ℕ) → k < suc i → Shows m Φ r r ((Steps.extension_base (P R) m i L r κ).matrix k) (D κ k)
  base-shows r κ h f = below_suc i (λ k. Shows m Φ r r ((Steps.extension_base (P R) m i L r κ).matrix k) (D κ k))
      (λ k l. subst (λ M. Shows m Φ r r M (D κ k)) (sym (cond-lt k i _ _ l))
      (shows-map m pos Φ (stands.represents k l r h) (sym (gen-below (numbered (S R) F 𝓢 ρ κ) k l))))
      (subst (λ M. Shows m Φ r r M (D κ i)) (sym (cond-ge i i _ _ (omega arith)))
      (shows-map m pos Φ (extended-shows r κ h f) (sym (gen-last (numbered (S R) F 𝓢 ρ κ)))))

  -- ---- l

  module _ (j : ℕ) (ij : i < j) (jn : j < T.n) (r : ℕ) (h : r < N R) (f : τ R r ≡ r) where
    abbrev tr : ℕ
    tr = F.target j r

    abbrev qr : Residue m
    qr = q̂ (S R) m pos F (ready R) j ij jn r

    tr-below : tr < N R
    tr-below = subst (λ s. s < N R) (F.maps_to j (omega arith) jn (first r) ∙ ap (F.target j) (first_rep r h)) (rep_below R (F.X j (first r)).0)

    tr-fixed : τ R tr ≡ tr
    tr-fixed = subst (λ s. τ R (F.target j s) ≡ F.target j s) (first_rep r h)
        (fixed-stays (S R) F 𝓢 j ij jn (first r) (subst (λ s. τ R s ≡ s) (sym (first_rep r h)) f))

    Xj : Shows m Φ r tr ((rep_of L r).matrix j) (F.X j)
    Xj = stands.intertwines j (omega arith) jn r h

    pub left-shows : Shows m Φ r (F.target j r) (product m ((rep_of L r).matrix j) (conjugate m (P R) (Steps.extension_base (P R) m i L r 0) i j))
        (F.X j *' φ (S R) F 𝓢 j ij jn)
    unfolding φ
    left-shows = shows-mul m pos Φ Xj
        (shows-map m pos Φ (conjugate-shows Φ (numbered (S R) F 𝓢 ρ 0) (Steps.extension_base (P R) m i L r 0) r refl (base-shows r 0 h f) j ij jn)
        (ap (λ g. g (conj_nf C (suc i) j (top C i))) (numbered-zero (S R) F 𝓢 ρ)))

    right : (k : ℕ) → Shows m Φ r tr (product m (Steps.extended (P R) m i L tr k) ((rep_of L r).matrix j)) (Y (S R) F (numbered (S R) F 𝓢 ρ k) *' F.X j)
    right k = shows-mul m pos Φ (extended-shows tr k tr-below tr-fixed) Xj

    abbrev ε^ : ℕ → Residue m
    ε^ k = times E k ρ.ε

    -- the two sides differ by the multiple k of the root
    right-at : (k : ℕ) (a : Ω) → (Y (S R) F (numbered (S R) F 𝓢 ρ k) *' F.X j) a
        ≡ (((Y (S R) F 𝓢 *' F.X j) a).0, add (ε^ k) ((Y (S R) F 𝓢 *' F.X j) a).1)
    right-at k a =
        let move : (x s e y : Residue m) → add (add x (add s e)) y ≡ add e (add (add x s) y) = λ x s e y. simp (E.assoc, E.comm, lcomm E) in
        at_mul E (Y (S R) F (numbered (S R) F 𝓢 ρ k)) (F.X j) a ∙ ap (λ z. (z.0, add z.1 (F.X j a).1)) (Y-numbered-at (S R) F 𝓢 ρ k (F.X j a).0)
        ∙ pair E refl (move _ _ _ _)
        ∙ sym (ap (λ z. (z.0, add (ε^ k) z.1))
        (at_mul E (Y (S R) F 𝓢) (F.X j) a ∙ ap (λ z. (z.0, add z.1 (F.X j a).1)) (Y-at (S R) F 𝓢 (F.X j a).0)))

    agree : (k : ℕ) → ε^ k ≡ qr → (a : Ω) → rep R a ≡ r → (Y (S R) F (numbered (S R) F 𝓢 ρ k) *' F.X j) a ≡ (F.X j *' φ (S R) F 𝓢 j ij jn) a
    agree k e a ra =
        right-at k a
        ∙ pair E refl (ap (λ z. add z ((Y (S R) F 𝓢 *' F.X j) a).1)
        (e ∙ ap (q̂ (S R) m pos F (ready R) j ij jn) (sym ra) ∙ q-first (S R) m pos F (ready R) j ij jn a)) ∙ sym (q-eq (S R) F 𝓢 j ij jn a)

    log_is : ε^ (log m pos (parts (S R) m pos F (ready R)) qr) ≡ qr
    log_is =
        subst (λ s. times E (log m pos (parts (S R) m pos F (ready R)) (q̂ (S R) m pos F (ready R) j ij jn s))
        (unit m pos (parts (S R) m pos F (ready R))) ≡ q̂ (S R) m pos F (ready R) j ij jn s) (first_rep r h)
        (log-q (S R) m pos F (ready R) j ij jn (first r) (subst (λ s. τ R s ≡ s) (sym (first_rep r h)) f))

    pub l-is : Steps.l (P R) m i L j r ≡ log m pos (parts (S R) m pos F (ready R)) (q̂ (S R) m pos F (ready R) j ij jn r)
    unfolding Steps.l
    l-is =
        ap (λ s. least (p R)
        (λ k. same_matrix m (product m ((rep_of L r).matrix j) (conjugate m (P R) (Steps.extension_base (P R) m i L r 0) i j))
        (product m (Steps.extended (P R) m i L s k) ((rep_of L r).matrix j)))) (sym (R.literal j r))
        ∙ least-is (p R) _ (log m pos (parts (S R) m pos F (ready R)) qr) (log-below m pos _ qr)
        (same-shown m pos Φ complete h left-shows (shows-on m pos Φ (right _) (agree _ log_is)))
        (λ k l e.
        let a : Ω = first r in
        let line = sym (right-at k a) ∙ sym (shown-same m pos Φ complete left-shows (right k) e a (first_rep r h)) ∙ q-eq (S R) F 𝓢 j ij jn a in
        let one : ε^ k ≡ qr = cancel E ((Y (S R) F 𝓢 *' F.X j) a).1 _ _ (E.comm _ _ ∙ ap (λ z. z.1) line ∙ E.comm _ _)
        ∙ sym (q-first (S R) m pos F (ready R) j ij jn a) ∙ ap (q̂ (S R) m pos F (ready R) j ij jn) (first_rep r h) in
        unit-injective m pos (parts (S R) m pos F (ready R)) k _ l (log-below m pos _ qr) (one ∙ sym log_is))
