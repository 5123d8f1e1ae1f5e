-- The intertwiners of the steps at an orbit that generator i moves: the scalars c, found along generator i, are those of
-- the theory.
--
--   intertwiner-shows      the blocks of an intertwiner with any scalars
--   block-after            the blocks along generator i
--   scalar-after           the scalars along generator i
--   c-is                   the scalars of the steps are those of the theory
--   mapped-shows              the intertwiner of the steps shows that of the theory
use mathlib.Core.Path.{◌≡◌, refl, sym, ◌∙◌, ap, ap₂, subst, fun_ext}
use Prim.Native.Nat.{ℕ, zero, suc, ◌+◌, ◌*◌, ◌/◌, ◌%◌, ◌<◌}
use native.Mathlib.Nat.{mod-eq_of_lt, mod-add-mod, mod-lt, zero-mod, add-zero}
use native.Mathlib.Omega.{arith}
use native.Mathlib.Decide.{dec_lt}
use lib.Arith.{digits_div}
use lib.Dec.{eqb}
use lib.ListN.{length}
use Rattle.definitions.specs.declared.Entry.{Entry}
use Rattle.definitions.specs.Lists.{iter, least}
use Rattle.definitions.specs.Monomial.{Matrix, entry, col, less, product, scale, rep_of, conjugate}
use Rattle.definitions.specs.Steps
use Rattle.numbers.proofs.Lists.{iter-zero, iter-add}
use Rattle.numbers.proofs.Iterates.{iter-out}
use Rattle.numbers.proofs.Orbits.{leader, position, paces, iter-below, iter-mod, leader-below, leader-leader, leader-iter, leader-moved}
use Rattle.monomial.specs.Exponents.{total, Residue}
use Rattle.monomial.specs.Maps.{Map, maps}
use Rattle.monomial.specs.Frames.{Shows}
use Rattle.monomial.proofs.Exponents.{lcomm, neg_of, total-zero, total-suc}
use Rattle.monomial.proofs.Residues.{residues, add-value, nil-value, less-value, less-mod}
use Rattle.monomial.proofs.Frames.{entry-path, shows-mul}
use Rattle.clifford.specs.Stands.{Rung}
use Rattle.clifford.proofs.Numbering.{P, p, N, deg, rep, τ, S, ready, O, rep_below, first_of-column, leader-same, position-same}
use Rattle.clifford.proofs.Numbering.{degree-leader}
use Rattle.clifford.proofs.Indices.{wide}
use Rattle.clifford.proofs.Top.{Y, φ, φ-maps, q, q-eq}
use Rattle.clifford.proofs.Scalars.{q̂, q-first, c, c-moved}
use Rattle.clifford.proofs.Extensions.{E, 𝓢, first, first_rep, conjugate-shows}
use Rattle.clifford.proofs.Next.{target_below, target-moved, target-orbit}
use Rattle.clifford.proofs.Inductions.{lift-col, lift-length, scale-col, scale-length, Ψ, spread-moved, Member, member, position-of, position-mod}
use Rattle.clifford.proofs.Inductions.{shows-blocks, orb, orb-back, orb-below, orb-degree, induced-shows, cycle-shows}

module _ (R : Rung) where
  open R use {T, m, pos, i, L, Ω, F, stands}
  open T.context use {two}
  open R.stands use {column, column_below}
  open residues m pos use {add, nil, neg}

  infixl 70 ◌*'◌
  open maps (E R) Ω use {mul as ◌*'◌}

  module _ (j : ℕ) (ij : i < j) (jn : j < T.n) (r : ℕ) (h : r < N R) (mv : ¬ (τ R r ≡ r)) (own : leader (O R) r ≡ r) where
    abbrev leader_at : Ω → ℕ
    leader_at a = leader (O R) (rep R a)

    abbrev A : ℕ
    A = (S R).shift j

    abbrev d : ℕ
    d = deg R r

    abbrev to : ℕ → ℕ
    to = F.target j

    -- the orbit to which generator j maps
    abbrev s : ℕ
    s = leader (O R) (to r)

    s_below : s < N R
    s_below = leader-below (O R) (to r) (target_below R j ij jn r h)

    s-moved : ¬ (τ R s ≡ s)
    s-moved = leader-moved (O R) (to r) (target_below R j ij jn r h) (target-moved R j ij jn r h mv)

    s-own : leader (O R) s ≡ s
    s-own = leader-leader (O R) (to r) (target_below R j ij jn r h)

    s-degree : deg R s ≡ d
    s-degree = degree-leader R (to r) (target_below R j ij jn r h) ∙ stands.degree_target j (omega arith) jn r h

    of : (a : Ω) → leader_at a ≡ r → Member R r h mv own a
    of = member R r h mv own

    mapped-to : (a : Ω) → leader_at a ≡ r → leader_at (F.X j a).0 ≡ s
    mapped-to a e =
        ap (leader (O R)) (F.maps_to j (omega arith) jn a ∙ ap to (sym (of a e).back)) ∙ target-orbit R j ij jn (position (O R) (rep R a)) r h mv

    -- ---- Blocks with scalars

    pub intertwiner-shows : (k : ℕ → ℕ) {B : Map (E R) Ω}
        → ((a : Ω) → leader (O R) (rep R a) ≡ r → ((B a).0 ≡ (F.X j a).0) × ((B a).1.0 ≡ ((F.X j a).1.0 + k (position (O R) (rep R a))) % m))
        → Shows m (Ψ R) r (leader (O R) (F.target j r)) (Steps.block_intertwiner (P R) m i L j r k) B
    unfolding Steps.block_intertwiner
    intertwiner-shows k {B} is =
        let o : ℕ → ℕ = orb R r h mv own in
        shows-blocks R r h mv own
        (λ b. Steps.lift (Steps.position (P R) m i L (Steps.target (P R) m i L j (o b)) * d) (scale m (k b) ((rep_of L (o b)).matrix j)))
        (λ b l. lift-length _ (scale m (k b) ((rep_of L (o b)).matrix j)) ∙ scale-length m (k b) ((rep_of L (o b)).matrix j)
        ∙ (stands.intertwines j (omega arith) jn (o b) (orb-below R r h mv own b)).size ∙ orb-degree R r h mv own b)
        (λ a e. ap leader_at (is a e).0 ∙ mapped-to a e) (λ a e.
        let b : ℕ = position (O R) (rep R a) in
        let a' : Ω = (F.X j a).0 in
        let sh = stands.intertwines j (omega arith) jn (rep R a) (rep_below R a) in
        let l : column a < length ((rep_of L (rep R a)).matrix j) = subst (λ z. column a < z) (sym sh.size) (column_below a) in
        let M' = member R s s_below s-moved s-own a' (mapped-to a e) in
        let pw : position (O R) (rep R a') * deg R s + column a' ≡ position (O R) (to (rep R a)) * d + column a'
        = ap₂ (λ x y. position (O R) x * y + column a') (F.maps_to j (omega arith) jn a) s-degree in
        ap (λ t. col (Steps.lift (Steps.position (P R) m i L (Steps.target (P R) m i L j t) * d) (scale m (k b) ((rep_of L t).matrix j)))
        (column a)) (orb-back R r h mv own a e)
        ∙ lift-col _ (scale m (k b) ((rep_of L (rep R a)).matrix j)) (column a)
        (subst (λ z. column a < z) (sym (scale-length m (k b) ((rep_of L (rep R a)).matrix j))) l)
        ∙ ap₂ (λ u (x : Entry). entry (u * d + x.row) x.exp) (position-same R _ ∙ ap (position (O R)) (sym (R.literal j (rep R a))))
        (scale-col m (k b) ((rep_of L (rep R a)).matrix j) (column a) l ∙ ap (λ (x : Entry). entry x.row ((x.exp + k b) % m)) (sh.shown a refl))
        ∙ entry-path (sym (ap (wide R) (is a e).0 ∙ M'.wide_is ∙ pw)) (sym (is a e).1))

    -- ---- Both sides of the equation that forces the scalars

    conj-shows : Shows m (Ψ R) r r (conjugate m (P R) (Steps.induction_base (P R) m i L r) i j) (φ (S R) F (𝓢 R) j ij jn)
    conj-shows = conjugate-shows R (Ψ R) (𝓢 R) (Steps.induction_base (P R) m i L r) r (spread-moved R r mv) (induced-shows R r h mv own) j ij jn

    plain-shows : Shows m (Ψ R) r s (Steps.block_intertwiner (P R) m i L j r (λ b. 0)) (F.X j)
    plain-shows = intertwiner-shows (λ b. 0) (λ a e. (refl, sym (ap (λ z. z % m) (add-zero _) ∙ mod-eq_of_lt (F.X j a).1.1)))

    pub left-shows : Shows m (Ψ R) r (leader (O R) (F.target j r)) (Steps.left_side (P R) m i L j r) (F.X j *' φ (S R) F (𝓢 R) j ij jn)
    unfolding Steps.left_side
    left-shows = shows-mul m pos (Ψ R) plain-shows conj-shows

    pub right-shows : Shows m (Ψ R) r (leader (O R) (F.target j r)) (Steps.right_side (P R) m i L j r) (Y (S R) F (𝓢 R) *' F.X j)
    unfolding Steps.right_side
    right-shows =
        subst (λ t. Shows m (Ψ R) r s (product m (Steps.block_cycle (P R) m i L t) (Steps.block_intertwiner (P R) m i L j r (λ b. 0)))
        (Y (S R) F (𝓢 R) *' F.X j))
        (sym (leader-same R _ ∙ ap (leader (O R)) (sym (R.literal j r))))
        (shows-mul m pos (Ψ R) (cycle-shows R s s_below s-moved s-own) plain-shows)

    -- the first column of block b
    unfoldable pub member_of : ℕ → Ω
    member_of b = first R (iter (τ R) b r)

    pub member-rep : (b : ℕ) → rep R (member_of b) ≡ iter (τ R) b r
    unfolding member_of
    member-rep b = first_rep R (iter (τ R) b r) (iter-below (O R) b r h)

    pub member-leader : (b : ℕ) → leader (O R) (rep R (member_of b)) ≡ r
    member-leader b = ap (leader (O R)) (member-rep b) ∙ leader-iter (O R) b r h ∙ own

    member-wide : (b : ℕ) → b < p R → wide R (member_of b) ≡ b * d
    unfolding member_of
    member-wide b l =
        (of (member_of b) (member-leader b)).wide_is
        ∙ ap₂ (λ x y. x * d + y) (ap (position (O R)) (member-rep b) ∙ position-of R r h mv own b l)
        (first_of-column R (iter (τ R) b r) (dec_lt (iter (τ R) b r) (N R))) ∙ add-zero _

    pub at_block : {t : ℕ} {M : Matrix} {B : Map (E R) Ω} → Shows m (Ψ R) r t M B → (b : ℕ) → b < p R
        → col M (b * deg R r) ≡ entry (wide R (B (member_of b)).0) (B (member_of b)).1.0
    at_block {t} {M} sh b l = ap (col M) (sym (member-wide b l)) ∙ sh.shown (member_of b) (member-leader b)

    -- ---- The blocks along generator i

    next-block : (b : ℕ) → b < p R → Steps.next_block (P R) m i L j r b ≡ (b + A) % p R
    unfolding Steps.next_block
    next-block b l =
        let a : Ω = (φ (S R) F (𝓢 R) j ij jn (member_of b)).0 in
        let M = of a (conj-shows.maps_to (member_of b) (member-leader b)) in
        ap (λ (x : Entry). x.row / d) (at_block conj-shows b l) ∙ ap (λ z. z / d) M.wide_is ∙ digits_div (position (O R) (rep R a)) M.column_lt
        ∙ ap (position (O R)) (φ-maps (S R) F (𝓢 R) j ij jn (member_of b) ∙ ap (iter (τ R) A) (member-rep b) ∙ iter-add (τ R) b A r)
        ∙ position-mod R r h mv own (b + A)

    pub block-after : (t : ℕ) → Steps.block_after (P R) m i L j r t ≡ ((S R).shift j * t) % p R
    unfolding Steps.block_after
    block-after zero = let z : A * 0 ≡ 0 = omega arith in iter-zero (Steps.next_block (P R) m i L j r) 0 ∙ sym (ap (λ k. k % p R) z ∙ zero-mod (p R))
    block-after (suc t) =
        let z : A * t + A ≡ A * suc t = omega arith in
        iter-out (Steps.next_block (P R) m i L j r) t 0 ∙ ap (Steps.next_block (P R) m i L j r) (block-after t)
        ∙ next-block ((A * t) % p R) (mod-lt _ (omega (arith, two i))) ∙ mod-add-mod (A * t) (p R) A ∙ ap (λ k. k % p R) z

    -- ---- The scalars along generator i

    g : ℕ → Residue m
    g k = q̂ (S R) m pos F (ready R) j ij jn (iter (τ R) (A * k) r)

    forced : (x y t : Residue m) → less m ((neg t).0 + y.0) (add x y).0 ≡ (neg (add x t)).0
    forced x y t =
        let turn : (x t t' y n : Residue m) → add (add x t) (add (add t' y) n) ≡ add (add t t') (add (add x y) n) = λ x t t' y n.
        simp ((E R).assoc, (E R).comm, lcomm (E R)) in
        less-mod m pos _ _ ∙ ap (λ z. less m z (add x y).0) (sym (add-value m pos (neg t) y)) ∙ less-value m pos (add (neg t) y) (add x y)
        ∙ ap (λ z. z.0) (neg_of (E R) (add x t) _ (turn x t (neg t) y (neg (add x y)) ∙ ap₂ add ((E R).negr t) ((E R).negr (add x y)) ∙ (E R).idl _))

    pub scalar-after : (t : ℕ) → Steps.scalar_after (P R) m i L j r t
        ≡ ((residues m pos).neg (total (residues m pos) (λ k. q̂ (S R) m pos F (ready R) j ij jn (iter (τ R) ((S R).shift j * k) r)) t)).0
    unfolding Steps.scalar_after g
    scalar-after zero =
        sym (ap (λ z. (neg z).0) (total-zero (E R) g) ∙ ap (λ z. z.0) (sym (neg_of (E R) nil nil ((E R).idl nil))) ∙ nil-value m pos)
    scalar-after (suc t) =
        let b : ℕ = (A * t) % p R in
        let l : b < p R = mod-lt _ (omega (arith, two i)) in
        let a : Ω = member_of b in
        let y : Residue m = ((Y (S R) F (𝓢 R) *' F.X j) a).1 in
        let q-is = sym (q-first (S R) m pos F (ready R) j ij jn a) ∙ ap (q̂ (S R) m pos F (ready R) j ij jn) (member-rep b ∙ iter-mod (O R) (A * t) r h) in
        ap (λ k. less m (Steps.scalar_after (P R) m i L j r t + (col (Steps.right_side (P R) m i L j r) (k * d)).exp)
        (col (Steps.left_side (P R) m i L j r) (k * d)).exp) (block-after t)
        ∙ ap₂ (λ (x z : Entry). less m (Steps.scalar_after (P R) m i L j r t + x.exp) z.exp) (at_block right-shows b l) (at_block left-shows b l)
        ∙ ap₂ (λ x z. less m (x + y.0) z.1.0) (scalar-after t) (q-eq (S R) F (𝓢 R) j ij jn a)
        ∙ forced (q (S R) F (𝓢 R) j ij jn a) y (total (E R) g t)
        ∙ ap (λ z. (neg (add z (total (E R) g t))).0) q-is
        ∙ ap (λ z. (neg z).0) (sym (total-suc (E R) g t))

    pub c-is : (a : Ω) → leader (O R) (rep R a) ≡ r → Steps.c (P R) m i L j r (position (O R) (rep R a)) ≡ (c (S R) m pos F (ready R) j ij jn (rep R a)).0
    unfolding Steps.c paces
    c-is a e =
        ap (λ (f : ℕ → ℕ). Steps.scalar_after (P R) m i L j r (least (p R) (λ t. eqb (f t) (position (O R) (rep R a))))) (fun_ext block-after)
        ∙ scalar-after _
        ∙ ap (λ o. (neg (total (E R) (λ k. q̂ (S R) m pos F (ready R) j ij jn (iter (τ R) (A * k) o)) (paces (O R) A (rep R a)))).0) (sym e)
        ∙ ap (λ z. z.0) (sym (c-moved (S R) m pos F (ready R) j ij jn (rep R a) (of a e).moved))

    -- the intertwiner of the steps
    pub mapped-shows : {B : Map (E R) Ω}
        → ((a : Ω) → leader (O R) (rep R a) ≡ r → B a ≡ ((F.X j a).0, (residues m pos).add (F.X j a).1 (c (S R) m pos F (ready R) j ij jn (rep R a))))
        → Shows m (Ψ R) r (leader (O R) (F.target j r)) (Steps.block_intertwiner (P R) m i L j r (Steps.c (P R) m i L j r)) B
    mapped-shows is = intertwiner-shows (Steps.c (P R) m i L j r) (λ a e. (
      ap (λ z. z.0) (is a e),
      ap (λ z. z.1.0) (is a e) ∙ add-value m pos _ _ ∙ ap (λ z. ((F.X j a).1.0 + z) % m) (sym (c-is a e)),
    ))
