-- The matrices of the steps at an orbit of representations that generator i moves: block by block they show the maps
-- of the theory.
--
--   Ψ                        the frame of the orbits: an orbit is named by its leader, its columns are wide
--   fixed-spreads            at a fixed representation both frames agree
--   Member, member           what is known of a basis index of an orbit that moves
--   shows-blocks             a matrix made of p blocks, at the columns of an orbit
--   diagonal-shows           the blocks of a generator below i
--   along-shows, last-shows  the products of intertwiners, and the last block
--   cycle-shows              the blocks of generator i
--   induced-shows            the matrices of the induced representation
use mathlib.Core.Path.{◌≡◌, refl, sym, ◌∙◌, ap, ap₂, subst}
use mathlib.Core.Logic.{by_cases}
use mathlib.Core.Bool.{cond}
use mathlib.Core.List.{◌++◌}
use Prim.Native.Nat.{ℕ, zero, suc, ◌+◌, ◌*◌, ◌-◌, ◌%◌, ◌<◌}
use native.Mathlib.Nat.{mod-lt}
use native.Mathlib.Omega.{arith}
use native.Mathlib.Decide.{ℕ_discrete}
use lib.Arith.{digits_lt}
use lib.Dec.{eqb}
use lib.ListN.{length, length-map}
use Rattle.definitions.specs.declared.Entry.{Entry}
use Rattle.definitions.specs.Lists.{blocks, iter}
use Rattle.definitions.specs.Presentation.{power}
use Rattle.definitions.specs.Monomial.{Matrix, entry, col, identity, product, scale, rep_of}
use Rattle.definitions.specs.Steps
use Rattle.numbers.proofs.Bools.{cond-eq, cond-ne, cond-lt, cond-ge}
use Rattle.numbers.proofs.Lists.{below_suc, iter-zero, iter-suc}
use Rattle.numbers.proofs.Iterates.{iter-out}
use Rattle.numbers.proofs.Blocks.{blocks-suc, blocks-below, length-even, get_or-even}
use Rattle.numbers.proofs.Orbits.{leader, position, iter-below, iter-mod, iter-moved, leader-iter, leader-fixed, leader-moved, position-below, position-back}
use Rattle.numbers.proofs.Orbits.{position-is}
use Rattle.group.proofs.Values.{power_zero, power-suc}
use Rattle.group.proofs.Level.{gen_nf, u_nf}
use Rattle.monomial.specs.Maps.{Map, maps, Inverse}
use Rattle.monomial.specs.Frames.{Layout, Shows}
use Rattle.monomial.proofs.Exponents.{idr, neg_of}
use Rattle.monomial.proofs.Maps.{pair, at-column, at_mul, at_one, maps-laws, inverse-power}
use Rattle.monomial.proofs.Residues.{residues}
use Rattle.monomial.proofs.Frames.{col-map, entry-path, shows-one, shows-mul, shows-map, shows-on, shows-inverse}
use Rattle.monomial.proofs.Schur.{rep-power}
use Rattle.clifford.specs.Stands.{Rung}
use Rattle.clifford.proofs.Numbering.{P, p, N, deg, rep, τ, S, ready, O, rep_below, orbit-same, degree-iter, degree-leader}
use Rattle.clifford.proofs.Indices.{wide, wide-fixed, wide-moved, rep-of-fixed}
use Rattle.clifford.proofs.Defect.{defect, defect-const, X-inverse, X-maps, last_block}
use Rattle.clifford.proofs.Top.{Y, Y-at, Y-maps, raised, q}
use Rattle.clifford.proofs.Scalars.{σ, σ-last, σ-other}
use Rattle.clifford.proofs.Extensions.{E, Φ, 𝓢, first_rep, image-shows, gen-below, gen-last}

-- a column of a lifted matrix
pub lift-col : (o : ℕ) (M : Matrix) (k : ℕ) → k < length M → col (Steps.lift o M) k ≡ entry (o + (col M k).row) (col M k).exp
unfolding Steps.lift
lift-col o M k l = col-map (λ (x : Entry). entry (o + x.row) x.exp) M k l

pub lift-length : (o : ℕ) (M : Matrix) → length (Steps.lift o M) ≡ length M
unfolding Steps.lift
lift-length o M = length-map M _

pub scale-col : (m s : ℕ) (M : Matrix) (k : ℕ) → k < length M → col (scale m s M) k ≡ entry (col M k).row (((col M k).exp + s) % m)
unfolding scale
scale-col m s M k l = col-map (λ (x : Entry). entry x.row ((x.exp + s) % m)) M k l

pub scale-length : (m s : ℕ) (M : Matrix) → length (scale m s M) ≡ length M
unfolding scale
scale-length m s M = length-map M _

module _ (R : Rung) where
  open R use {T, m, pos, i, L, Ω, F, stands}
  open T use {context as C}
  open C use {two}
  open R.stands use {column, column_below, complete}

  abbrev leader_at : Ω → ℕ
  leader_at a = leader (O R) (rep R a)

  infixl 70 ◌*'◌
  open maps (E R) Ω use {mul as ◌*'◌}
  open residues m pos use {add, nil, neg}

  -- ---- The frame of the orbits

  unfoldable pub spread : ℕ → ℕ
  spread r = cond (eqb (τ R r) r) (deg R r) (p R * deg R r)

  pub spread-fixed : (r : ℕ) → τ R r ≡ r → spread r ≡ deg R r
  unfolding spread
  spread-fixed r f = cond-eq _ _ _ _ f

  pub spread-moved : (r : ℕ) → ¬ (τ R r ≡ r) → spread r ≡ p R * deg R r
  unfolding spread
  spread-moved r f = cond-ne _ _ _ _ f

  pub wide-spread : (a : Ω) → wide R a < spread (leader (O R) (rep R a))
  wide-spread a = by_cases (ℕ_discrete (τ R (rep R a)) (rep R a))
      (λ f. rw (wide-fixed R a f, leader-fixed (O R) (rep R a) (rep_below R a) f, spread-fixed (rep R a) f) (column_below a))
      (λ f. rw (wide-moved R a f, spread-moved (leader_at a) (leader-moved (O R) (rep R a) (rep_below R a) f), degree-leader R (rep R a) (rep_below R a))
      (digits_lt (position-below (O R) (rep R a) (rep_below R a)) (column_below a)))

  abbrev pub Ψ : Layout Ω
  Ψ = record { rep = λ a. leader (O R) (rep R a); column = wide R; degree = spread; column_below = wide-spread }

  pub fixed-spreads : {r s : ℕ} {M : Matrix} {A : Map (E R) Ω} → τ R r ≡ r → s < N R → τ R s ≡ s → Shows m (Φ R) r s M A → Shows m Ψ r s M A
  fixed-spreads {r} {s} {M} {A} f l g sh = record {
    size = sh.size ∙ sym (spread-fixed r f);
    maps_to = λ a e. ap (leader (O R)) (sh.maps_to a (rep-of-fixed R a r e f)) ∙ leader-fixed (O R) s l g;
    shown = λ a e.
        let ra : rep R a ≡ r = rep-of-fixed R a r e f in
        ap (col M) (wide-fixed R a (subst (λ s. τ R s ≡ s) (sym ra) f)) ∙ sh.shown a ra
        ∙ entry-path (sym (wide-fixed R (A a).0 (subst (λ s. τ R s ≡ s) (sym (sh.maps_to a ra)) g))) refl;
  }

  -- ---- An orbit that moves

  module _ (r : ℕ) (h : r < N R) (mv : ¬ (τ R r ≡ r)) (own : leader (O R) r ≡ r) where
    abbrev pub d : ℕ
    d = deg R r

    -- what is known of a basis index of the orbit
    pub record Member (a : Ω) : Type 0 where
      pub moved : ¬ (τ R (rep R a) ≡ rep R a)
      pub below : position (O R) (rep R a) < p R
      pub back : iter (τ R) (position (O R) (rep R a)) r ≡ rep R a
      pub degree : deg R (rep R a) ≡ d
      pub wide_is : wide R a ≡ position (O R) (rep R a) * d + column a
      pub column_lt : column a < d

    pub member : (a : Ω) → leader (O R) (rep R a) ≡ r → Member a
    member a e =
        let b : ℕ = position (O R) (rep R a) in
        let back : iter (τ R) b r ≡ rep R a = ap (iter (τ R) b) (sym e) ∙ position-back (O R) (rep R a) (rep_below R a) in
        let moved : ¬ (τ R (rep R a) ≡ rep R a) = λ f. iter-moved (O R) b r h mv (subst (λ s. τ R s ≡ s) (sym back) f) in
        let degree : deg R (rep R a) ≡ d = ap (deg R) (sym back) ∙ degree-iter R b r h in
        record {
          moved = moved;
          below = position-below (O R) (rep R a) (rep_below R a);
          back = back;
          degree = degree;
          wide_is = wide-moved R a moved ∙ ap (λ z. b * z + column a) degree;
          column_lt = subst (λ z. column a < z) degree (column_below a);
        }

    pub position-of : (k : ℕ) → k < p R → position (O R) (iter (τ R) k r) ≡ k
    position-of k l = position-is (O R) (iter (τ R) k r) k (iter-below (O R) k r h) (iter-moved (O R) k r h mv) l
        (ap (iter (τ R) k) (leader-iter (O R) k r h ∙ own))

    pub position-mod : (k : ℕ) → position (O R) (iter (τ R) k r) ≡ k % p R
    position-mod k = ap (position (O R)) (sym (iter-mod (O R) k r h)) ∙ position-of (k % p R) (mod-lt k (omega (arith, two i)))

    -- ---- Blocks

    pub shows-blocks : {s : ℕ} (f : ℕ → Matrix) {A : Map (E R) Ω} → ((b : ℕ) → b < p R → length (f b) ≡ deg R r)
        → ((a : Ω) → leader (O R) (rep R a) ≡ r → leader (O R) (rep R (A a).0) ≡ s)
        → ((a : Ω) → leader (O R) (rep R a) ≡ r → col (f (position (O R) (rep R a))) (column a) ≡ entry (wide R (A a).0) (A a).1.0)
        → Shows m Ψ r s (blocks (p R) f) A
    unfolding col
    shows-blocks f {A} len ld ent = record {
      size = length-even f d (p R) len ∙ sym (spread-moved r mv);
      maps_to = ld;
      shown = λ a e.
          let M = member a e in
          ap (col (blocks (p R) f)) M.wide_is
          ∙ get_or-even f d (entry 0 0) (p R) (position (O R) (rep R a)) (column a) len M.below M.column_lt ∙ ent a e;
    }

    abbrev pub orb : ℕ → ℕ
    orb = Steps.orbit (P R) m i L r

    pub orb-back : (a : Ω) → leader (O R) (rep R a) ≡ r → orb (position (O R) (rep R a)) ≡ rep R a
    orb-back a e = orbit-same R r _ ∙ (member a e).back

    pub orb-below : (b : ℕ) → orb b < N R
    orb-below b = subst (λ s. s < N R) (sym (orbit-same R r b)) (iter-below (O R) b r h)

    pub orb-degree : (b : ℕ) → deg R (orb b) ≡ d
    orb-degree b = ap (deg R) (orbit-same R r b) ∙ degree-iter R b r h

    -- ---- Generators below i

    pub diagonal-shows : (k : ℕ) → k < i → Shows m Ψ r r (Steps.block_diagonal (P R) m i L r k) (F.d (gen_nf T.context i k))
    unfolding Steps.block_diagonal
    diagonal-shows k l = shows-blocks (λ b. Steps.lift (b * d) ((rep_of L (orb b)).matrix k))
        (λ b a. lift-length (b * d) ((rep_of L (orb b)).matrix k) ∙ (stands.represents k l (orb b) (orb-below b)).size ∙ orb-degree b)
        (λ a e. ap (leader (O R)) (F.inside (gen_nf C i k) a) ∙ e) (λ a e.
        let b : ℕ = position (O R) (rep R a) in
        let sh = stands.represents k l (rep R a) (rep_below R a) in
        let a' : Ω = (F.d (gen_nf C i k) a).0 in
        let inside : rep R a' ≡ rep R a = F.inside (gen_nf C i k) a in
        let M' = member a' (ap (leader (O R)) inside ∙ e) in
        ap (λ s. col (Steps.lift (b * d) ((rep_of L s).matrix k)) (column a)) (orb-back a e)
        ∙ lift-col (b * d) ((rep_of L (rep R a)).matrix k) (column a) (subst (λ z. column a < z) (sym sh.size) (column_below a))
        ∙ ap (λ (x : Entry). entry (b * d + x.row) x.exp) (sh.shown a refl)
        ∙ entry-path (ap (λ z. position (O R) z * d + column a') (sym inside) ∙ sym M'.wide_is) refl)

    -- ---- The last block

    abbrev pow : ℕ → Map (E R) Ω
    pow = power (maps (E R) Ω) (F.X i)

    pub along-shows : (k : ℕ) → Shows m (Φ R) r (iter (τ R) k r) (Steps.along (P R) m i L r k) (power (maps (E R) Ω) (F.X i) k)
    unfolding Steps.along
    along-shows zero =
        subst (λ s. Shows m (Φ R) r s (identity d) (pow zero)) (sym (iter-zero (τ R) r))
        (shows-map m pos (Φ R) (shows-one m pos (Φ R) r) (sym (power_zero (maps (E R) Ω) (F.X i))))
    along-shows (suc k) =
        let step = subst (λ s. Shows m (Φ R) (iter (τ R) k r) (τ R (iter (τ R) k r)) ((rep_of L s).matrix i) (F.X i)) (sym (orbit-same R r k))
        (stands.intertwines i (omega arith) R.in_range (iter (τ R) k r) (iter-below (O R) k r h)) in
        subst (λ s. Shows m (Φ R) r s (product m ((rep_of L (orb k)).matrix i) (Steps.along (P R) m i L r k)) (pow (suc k))) (sym (iter-out (τ R) k r))
        (shows-map m pos (Φ R) (shows-mul m pos (Φ R) step (along-shows k)) (sym (power-suc (maps (E R) Ω) (F.X i) k)))

    abbrev e : ℕ
    e = p R - 1

    e-suc : suc e ≡ p R
    e-suc = omega (arith, two i)

    W : Inverse (maps (E R) Ω) (pow e)
    W = inverse-power (maps-laws (E R)) (F.X i) (X-inverse (S R) F i (omega arith) R.in_range) e

    abbrev t : ℕ
    t = iter (τ R) e r

    -- the way to the last of the orbit, and back
    there : (a : Ω) → pow e (W.to a).0 ≡ (a, neg (W.to a).1)
    there a =
        let line = sym (at_mul (E R) (pow e) W.to a) ∙ at-column (E R) W.right a ∙ at_one (E R) a in
        pair (E R) (ap (λ z. z.0) line) (neg_of (E R) _ _ ((residues m pos).comm _ _ ∙ ap (λ z. z.1) line))

    from_last : (a : Ω) → rep R a ≡ t → rep R (W.to a).0 ≡ r
    from_last a q =
        let b : Ω = (W.to a).0 in
        let round : (s : ℕ) → s < N R → τ R (iter (τ R) e s) ≡ s = λ s l. sym (iter-out (τ R) e s) ∙ ap (λ k. iter (τ R) k s) e-suc ∙ (O R).home s l in
        let line : iter (τ R) e (rep R b) ≡ iter (τ R) e r = sym (rep-power F (τ R) (F.X i) (X-maps (S R) F) e b) ∙ ap (λ z. rep R z.0) (there a) ∙ q in
        sym (round (rep R b) (rep_below R b)) ∙ ap (τ R) line ∙ round r h

    pub last-shows : Shows m (Φ R) (iter (τ R) (p R - 1) r) r (Steps.last_block (P R) m i L r) (Y (S R) F (𝓢 R))
    unfolding Steps.last_block u_nf
    last-shows =
        shows-on m pos (Φ R)
        (shows-mul m pos (Φ R) (image-shows R r h (u_nf C i)) (shows-inverse m pos (Φ R) complete h (along-shows e) W (degree-iter R e r h) from_last)) (λ a q.
        let b : Ω = (W.to a).0 in
        let (x, y) = last_block (S R) F e e-suc b in
        let at_a : pow e b ≡ (a, neg (W.to a).1) = there a in
        let last : position (O R) (rep R a) ≡ p R - 1 = ap (position (O R)) q ∙ position-of e (omega (arith, two i)) in
        let mvd : ¬ (τ R (rep R a) ≡ rep R a) = λ f. iter-moved (O R) e r h mv (subst (λ s. τ R s ≡ s) q f) in
        let σ-is : σ (S R) m pos F (ready R) (rep R a) ≡ neg (defect (S R) F a)
        = σ-last (S R) m pos F (ready R) (rep R a) mvd last ∙ ap neg (defect-const (S R) F _ a (first_rep R (rep R a) (rep_below R a))) in
        at_mul (E R) (F.d (u_nf C i)) W.to a
        ∙ pair (E R) (sym x ∙ ap (λ z. (F.X i z.0).0) at_a)
        (ap (λ z. add (F.d (u_nf C i) b).1 z) (neg_of (E R) _ _ ((residues m pos).comm _ _ ∙ (residues m pos).negr _) ∙ ap neg (sym (ap (λ z. z.1) at_a)))
        ∙ sym y ∙ ap (λ z. add (F.X i z.0).1 (neg (defect (S R) F z.0))) at_a ∙ ap (add (F.X i a).1) (sym σ-is))
        ∙ sym (Y-at (S R) F (𝓢 R) a))

    -- ---- Generator i

    cycle-block : ℕ → Matrix
    cycle-block b = cond (eqb b e) (Steps.last_block (P R) m i L r) (Steps.lift (suc b * d) ((rep_of L (orb b)).matrix i))

    cycle-is : blocks (p R) cycle-block ≡ Steps.block_cycle (P R) m i L r
    unfolding Steps.block_cycle cycle-block
    cycle-is =
        ap (λ k. blocks k cycle-block) (sym e-suc) ∙ blocks-suc e cycle-block
        ∙ ap₂ (◌++◌) (blocks-below e cycle-block (λ b. Steps.lift (suc b * d) ((rep_of L (orb b)).matrix i))
        (λ b l. cond-ne b e _ _ (λ q. omega arith))) (cond-eq e e _ _ refl)

    Y-inside : (a : Ω) → leader_at a ≡ r → leader_at (Y (S R) F (𝓢 R) a).0 ≡ r
    Y-inside a q =
        ap (leader (O R)) (Y-maps (S R) F (𝓢 R) a ∙ sym (iter-suc (τ R) 0 (rep R a) ∙ iter-zero (τ R) (τ R (rep R a))))
        ∙ leader-iter (O R) 1 (rep R a) (rep_below R a) ∙ q

    pub cycle-shows : Shows m Ψ r r (Steps.block_cycle (P R) m i L r) (Y (S R) F (𝓢 R))
    unfolding cycle-block
    cycle-shows = subst (λ M. Shows m Ψ r r M (Y (S R) F (𝓢 R))) cycle-is
        (shows-blocks cycle-block (λ b l. by_cases (ℕ_discrete b e) (λ q. ap length (cond-eq b e _ _ q) ∙ last-shows.size ∙ degree-iter R e r h)
        (λ q. ap length (cond-ne b e _ _ q) ∙ lift-length (suc b * d) ((rep_of L (orb b)).matrix i)
        ∙ (stands.intertwines i (omega arith) R.in_range (orb b) (orb-below b)).size ∙ orb-degree b))
        Y-inside (λ a q.
        let k : ℕ = position (O R) (rep R a) in
        let a' : Ω = (Y (S R) F (𝓢 R) a).0 in
        let M = member a q in
        let M' = member a' (Y-inside a q) in
        by_cases (ℕ_discrete k e) (λ b.
        let ra : rep R a ≡ t = sym M.back ∙ ap (λ k. iter (τ R) k r) b in
        let zero-position : position (O R) (rep R a') ≡ 0 = ap (position (O R)) (last-shows.maps_to a ra ∙ sym (iter-zero (τ R) r))
        ∙ position-of 0 (omega (arith, two i)) in
        let z : 0 * d + column a' ≡ column a' = omega arith in
        ap (λ M. col M (column a)) (cond-eq _ e _ _ b) ∙ last-shows.shown a ra
        ∙ entry-path (sym (M'.wide_is ∙ ap (λ k. k * d + column a') zero-position ∙ z)) refl) (λ b.
        let k_lt : suc k < p R = omega (arith, M.below, two i) in
        let sh = stands.intertwines i (omega arith) R.in_range (rep R a) (rep_below R a) in
        let plain : Y (S R) F (𝓢 R) a ≡ F.X i a
        = Y-at (S R) F (𝓢 R) a ∙ pair (E R) refl (ap (add (F.X i a).1) (σ-other (S R) m pos F (ready R) (rep R a) M.moved b) ∙ idr (E R) _) in
        let ps : position (O R) (rep R a') ≡ suc k
        = ap (position (O R)) (Y-maps (S R) F (𝓢 R) a ∙ ap (τ R) (sym M.back) ∙ sym (iter-out (τ R) k r)) ∙ position-of (suc k) k_lt in
        ap (λ M. col M (column a)) (cond-ne _ e _ _ b)
        ∙ ap (λ s. col (Steps.lift (suc k * d) ((rep_of L s).matrix i)) (column a)) (orb-back a q)
        ∙ lift-col (suc k * d) ((rep_of L (rep R a)).matrix i) (column a) (subst (λ z. column a < z) (sym sh.size) (column_below a))
        ∙ ap (λ (x : Entry). entry (suc k * d + x.row) x.exp) (sh.shown a refl)
        ∙ entry-path (ap (λ z. suc k * d + column z.0) (sym plain) ∙ sym (M'.wide_is ∙ ap (λ z. z * d + column a') ps))
        (ap (λ z. z.1.0) (sym plain)))))

    pub induced-shows : (k : ℕ) → k < suc i → Shows m Ψ r r ((Steps.induction_base (P R) m i L r).matrix k) (raised (S R) F (𝓢 R) (gen_nf T.context (suc i) k))
    induced-shows = below_suc i (λ k. Shows m Ψ r r ((Steps.induction_base (P R) m i L r).matrix k) (raised (S R) F (𝓢 R) (gen_nf C (suc i) k)))
        (λ k l. subst (λ M. Shows m Ψ r r M (raised (S R) F (𝓢 R) (gen_nf C (suc i) k))) (sym (cond-lt k i _ _ l))
        (shows-map m pos Ψ (diagonal-shows k l) (sym (gen-below R (𝓢 R) k l))))
        (subst (λ M. Shows m Ψ r r M (raised (S R) F (𝓢 R) (gen_nf C (suc i) i))) (sym (cond-ge i i _ _ (omega arith)))
        (shows-map m pos Ψ cycle-shows (sym (gen-last R (𝓢 R)))))
