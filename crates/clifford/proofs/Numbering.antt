-- The numbers of the next level: representations, their degrees, basis indices and columns, as the steps count them.
--
--   leader-ahead                              a number comes to its leader
--   ready, O                                  the family of a rung is ready for the scalars; its orbits
--   target_same, leader-same, position-same, orbit-same      the orbits of the steps are those of the family
--   made-fixed, made-leader, made_other       how many representations r gives
--   given-fixed, given-moved                  the representations of the next level
--   source                                    every representation of the next level is one of these
--   degree-iter, degree-leader                degrees along an orbit
use mathlib.Core.Path.{◌≡◌, refl, sym, ◌∙◌, ap, subst, fun_ext}
use mathlib.Core.Logic.{by_cases}
use mathlib.Core.Bool.{Bool, true, false, cond}
use mathlib.Core.List.{List, [], ◌∷◌, map}
use Prim.Native.Nat.{ℕ, zero, suc, ◌+◌, ◌-◌, ◌<◌}
use native.Mathlib.Omega.{arith}
use native.Mathlib.Decide.{dec_lt, ℕ_discrete}
use lib.Dec.{eqb}
use lib.ListN.{length, get_or}
use Rattle.definitions.specs.Lists.{upto, blocks, sum, iter}
use Rattle.definitions.specs.Presentation.{Presentation}
use Rattle.definitions.specs.Monomial.{Rep, Level, rep_of, no_rep}
use Rattle.definitions.specs.Steps
use Rattle.numbers.proofs.Bools.{cond-eq, cond-ne}
use Rattle.numbers.proofs.Lists.{iter-zero, iter-suc, iter-add, length-blocks}
use Rattle.numbers.proofs.Sums.{sum_below, owner}
use Rattle.numbers.proofs.Blocks.{get_or-table, length-table, get_or-blocks}
use Rattle.numbers.proofs.Orbits.{Orbits, leader_of, position_of, leader, position, leader-below, leader-leader, leader-fixed, leader-moved, leader-reaches}
use Rattle.numbers.proofs.Orbits.{position-below, position-back}
use Rattle.group.proofs.Level.{level, conj_nf}
use Rattle.clifford.specs.Extension.{Extension}
use Rattle.clifford.specs.Stands.{Rung}
use Rattle.clifford.specs.Ready.{Ready}
use Rattle.clifford.proofs.Levels.{extension}
use Rattle.clifford.proofs.Scalars.{orbits}

-- a number comes to its leader in what its position leaves of p
pub leader-ahead : (O : Orbits) (r : ℕ) → r < O.N → iter O.τ (O.p - position O r) r ≡ leader O r
leader-ahead O r h =
    let b : ℕ = position O r in
    let w : b + (O.p - b) ≡ O.p = omega (arith, position-below O r h) in
    ap (iter O.τ (O.p - b)) (sym (position-back O r h)) ∙ iter-add O.τ b (O.p - b) (leader O r) ∙ ap (λ k. iter O.τ k (leader O r)) w
    ∙ O.home (leader O r) (leader-below O r h)

module _ (R : Rung) where
  open R use {T, m, pos, i, L, Ω, F, stands}
  open R.stands use {column, complete}

  abbrev pub P : Presentation
  P = R.T.context.P

  abbrev pub p : ℕ
  p = P.p i

  abbrev pub N : ℕ
  N = length L

  abbrev pub deg : ℕ → ℕ
  deg r = (rep_of L r).deg

  abbrev pub rep : Ω → ℕ
  rep = F.rep

  abbrev pub τ : ℕ → ℕ
  τ = F.target i

  abbrev pub S : Extension (level R.T.context R.i) (level R.T.context (suc R.i)) (conj_nf R.T.context R.i)
      (conj_nf R.T.context (suc R.i)) R.i R.T.n
  S = extension R.T R.i R.in_range

  -- ---- Ready for the scalars

  pub first_of : (r : ℕ) → Dec (r < N) → Ω
  first_of r (yes h) = complete.find r 0 h (stands.degree_pos r h)
  first_of r (no h) = complete.find 0 0 stands.nonempty (stands.degree_pos 0 stands.nonempty)

  pub first_of-rep : (r : ℕ) (d : Dec (r < N)) → r < N → rep (first_of r d) ≡ r
  unfolding first_of
  first_of-rep r (yes h) l = complete.find_rep r 0 h (stands.degree_pos r h)
  first_of-rep r (no h) l = absurd (h l)

  pub first_of-column : (r : ℕ) (d : Dec (r < N)) → column (first_of r d) ≡ 0
  unfolding first_of
  first_of-column r (yes h) = complete.find_column r 0 h (stands.degree_pos r h)
  first_of-column r (no h) = complete.find_column 0 0 stands.nonempty (stands.degree_pos 0 stands.nonempty)

  abbrev pub ready : Ready S m pos F
  ready = record {
    count = N;
    rep_below = complete.rep_below;
    first = λ r. first_of r (dec_lt r N);
    first_rep = λ r h. first_of-rep r (dec_lt r N) h;
    share = R.share;
    split = R.split;
    spare = R.spare;
    split' = R.split';
    units = R.units;
  }

  abbrev pub O : Orbits
  O = orbits S m pos F ready

  abbrev pub rep_below : (a : Ω) → rep a < N
  rep_below = complete.rep_below

  -- ---- The orbits of the steps

  pub target_same : (j : ℕ) → Steps.target P m i L j ≡ F.target j
  target_same j = fun_ext (λ r. sym (R.literal j r))

  pub orbit-same : (r k : ℕ) → Steps.orbit P m i L r k ≡ iter τ k r
  unfolding Steps.orbit
  orbit-same r k = ap (λ t. iter t k r) (target_same i)

  pub leader-same : (r : ℕ) → Steps.leader P m i L r ≡ leader O r
  unfolding Steps.leader Steps.orbit leader
  leader-same r = ap (λ t. leader_of N p t r) (target_same i)

  pub position-same : (r : ℕ) → Steps.position P m i L r ≡ position O r
  unfolding Steps.position Steps.leader Steps.orbit position
  position-same r = ap (λ t. position_of N p t r) (target_same i)

  -- choices of the steps by fixed and by leader
  pub fixed-yes : {A : Type 0} (r : ℕ) (x y : A) → τ r ≡ r → cond (Steps.fixed P m i L r) x y ≡ x
  unfolding Steps.fixed
  fixed-yes r x y f = cond-eq _ r x y (ap (λ t. t r) (target_same i) ∙ f)

  pub fixed_no : {A : Type 0} (r : ℕ) (x y : A) → ¬ (τ r ≡ r) → cond (Steps.fixed P m i L r) x y ≡ y
  unfolding Steps.fixed
  fixed_no r x y f = cond-ne _ r x y (λ e. f (sym (ap (λ t. t r) (target_same i)) ∙ e))

  pub leader-yes : {A : Type 0} (r : ℕ) (x y : A) → leader O r ≡ r → cond (eqb (Steps.leader P m i L r) r) x y ≡ x
  leader-yes r x y f = cond-eq _ r x y (leader-same r ∙ f)

  -- ---- What a representation gives

  abbrev pub made : ℕ → ℕ
  made = Steps.made P m i L

  pub made-fixed : (r : ℕ) → τ r ≡ r → made r ≡ p
  unfolding Steps.made
  made-fixed r f = fixed-yes r _ _ f

  pub made-leader : (r : ℕ) → ¬ (τ r ≡ r) → leader O r ≡ r → made r ≡ 1
  unfolding Steps.made
  made-leader r f h = fixed_no r _ _ f ∙ leader-yes r _ _ h

  pub made_other : (r : ℕ) → ¬ (τ r ≡ r) → ¬ (leader O r ≡ r) → made r ≡ 0
  unfolding Steps.made
  made_other r f h = fixed_no r _ _ f ∙ cond-ne _ r _ _ (λ e. h (sym (leader-same r) ∙ e))

  abbrev pub given : ℕ → List Rep
  given = Steps.given_by P m i L

  pub given-length : (r : ℕ) → length (given r) ≡ made r
  unfolding Steps.given_by Steps.made
  given-length r = go (Steps.fixed P m i L r) (eqb (Steps.leader P m i L r) r)
    where
      go : (b c : Bool) → length (cond b (map (Steps.extension P m i L r) (upto p)) (cond c (Steps.induction P m i L r ∷ []) [])) ≡ cond b p (cond c 1 0)
      go true c = length-table (Steps.extension P m i L r) p
      go false true = refl
      go false false = refl

  abbrev pub next : Level
  next = Steps.next_level P m i L

  pub next-length : length next ≡ sum N made
  unfolding Steps.next_level
  next-length = length-blocks N given ∙ sum_below N _ made (λ r l. given-length r)

  next-at : (s κ : ℕ) → s < N → κ < made s → rep_of next (sum s made + κ) ≡ get_or (given s) κ no_rep
  unfolding Steps.next_level rep_of
  next-at s κ h l =
      ap (λ z. get_or (blocks N given) (z + κ) no_rep) (sym (sum_below s (λ k. length (given k)) made (λ k a. given-length k)))
      ∙ get_or-blocks no_rep N given s κ h (subst (λ z. κ < z) (sym (given-length s)) l)

  pub given-fixed : (s κ : ℕ) → s < N → τ s ≡ s → κ < p → rep_of next (sum s made + κ) ≡ Steps.extension P m i L s κ
  unfolding Steps.given_by
  given-fixed s κ h f l =
      next-at s κ h (subst (λ z. κ < z) (sym (made-fixed s f)) l) ∙ ap (λ z. get_or z κ no_rep) (fixed-yes s _ _ f)
      ∙ get_or-table (Steps.extension P m i L s) p κ no_rep l

  pub given-moved : (s κ : ℕ) → s < N → ¬ (τ s ≡ s) → leader O s ≡ s → κ ≡ 0 → rep_of next (sum s made + κ) ≡ Steps.induction P m i L s
  unfolding Steps.given_by
  given-moved s κ h f g e =
      ap (λ κ. rep_of next (sum s made + κ)) e
      ∙ next-at s 0 h (subst (λ z. 0 < z) (sym (made-leader s f g)) (omega arith)) ∙ ap (λ z. get_or z 0 no_rep) (fixed_no s _ _ f ∙ leader-yes s _ _ g)

  -- ---- Leaders

  -- how many extensions lie above a representation
  pub made_of : (r : ℕ) → r < N → ¬ (τ r ≡ r) → made (leader O r) ≡ 1
  made_of r h f = made-leader (leader O r) (leader-moved O r h f) (leader-leader O r h)

  pub made-of-fixed : (r : ℕ) → r < N → τ r ≡ r → made (leader O r) ≡ p
  made-of-fixed r h f = ap made (leader-fixed O r h f) ∙ made-fixed r f

  pub made_some : (r : ℕ) → r < N → 0 < made (leader O r)
  made_some r h = by_cases (ℕ_discrete (τ r) r) (λ f. omega (arith, made-of-fixed r h f, T.context.two i)) (λ f. omega (arith, made_of r h f))

  -- a representation that gives one: it is its own leader
  pub record GivenBy (r : ℕ) : Type 0 where
    pub s : ℕ
    pub κ : ℕ
    pub s_below : s < N
    pub κ-below : κ < made s
    pub is : sum s made + κ ≡ r
    pub own : leader O s ≡ s

  pub source : (r : ℕ) → r < length next → GivenBy r
  source r l =
      let o = owner made N r (subst (λ z. r < z) next-length l) in
      record {
        s = o.s;
        κ = o.κ;
        s_below = o.s_below;
        κ-below = o.κ-below;
        is = o.is;
        own = by_cases (ℕ_discrete (τ o.s) o.s) (λ f. leader-fixed O o.s o.s_below f)
            (λ f. by_cases (ℕ_discrete (leader O o.s) o.s) (λ g. g) (λ g. absurd (omega (arith, made_other o.s f g, o.κ-below))));
      }

  -- ---- Degrees

  pub degree-iter : (k r : ℕ) → r < N → deg (iter τ k r) ≡ deg r
  degree-iter zero r h = ap deg (iter-zero τ r)
  degree-iter (suc k) r h = ap deg (iter-suc τ k r) ∙ degree-iter k (τ r) (O.inside r h) ∙ stands.degree_target i (omega arith) R.in_range r h

  pub degree-leader : (r : ℕ) → r < N → deg (leader O r) ≡ deg r
  degree-leader r h = let (k, a, b) = leader-reaches O r h in sym (degree-iter k (leader O r) (leader-below O r h)) ∙ ap deg b
