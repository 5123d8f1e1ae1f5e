-- The basis indices of the next level: a basis index of the level below, and the number of the extension.
--
--   Index, base, number, mk            the basis indices
--   Index-path, Index-discrete         they are known by base and number
--   next-rep                           the number of its representation
--   wide                               its column: that below, or behind the blocks before it
--   wide-fixed, wide-moved             in the two cases
--   rep-of-fixed                       an orbit with a fixed leader is that leader
--   degree-fixed, degree-moved         the degrees of the next level
--   next-frame, next-complete          every column of the next level is one basis index
use mathlib.Core.Path.{◌≡◌, sym, ◌∙◌, ap, ap₂, subst}
use mathlib.Core.Logic.{by_cases}
use mathlib.Core.HLevel.{Σ_prop_path}
use mathlib.Core.Bool.{cond}
use Prim.Native.Nat.{ℕ, ◌+◌, ◌*◌, ◌/◌, ◌%◌, ◌<◌}
use native.Mathlib.Nat.{mod-lt, mod-add-div', div-lt_iff_lt-mul}
use native.Mathlib.Bridge.{le_prop}
use native.Mathlib.Omega.{arith}
use native.Mathlib.Decide.{ℕ_discrete}
use lib.Arith.{digits_lt, digits_div, digits_mod}
use lib.Dec.{eqb}
use lib.ListN.{length}
use Rattle.definitions.specs.Lists.{sum, iter}
use Rattle.definitions.specs.Monomial.{Rep, rep_of}
use Rattle.definitions.specs.Steps
use Rattle.numbers.proofs.Bools.{cond-eq, cond-ne}
use Rattle.numbers.proofs.Sums.{stretch-one, stretch-below}
use Rattle.numbers.proofs.Orbits.{leader, position, iter-below, iter-moved, leader-below, leader-leader, leader-iter, leader-fixed, leader-moved}
use Rattle.numbers.proofs.Orbits.{position-below, position-back, position-is}
use Rattle.monomial.specs.Frames.{Layout, Complete}
use Rattle.clifford.specs.Stands.{frame, Rung}
use Rattle.clifford.proofs.Numbering.{p, N, deg, rep, τ, O, rep_below, made, next, next-length, made-fixed, made-leader, given-fixed, given-moved}
use Rattle.clifford.proofs.Numbering.{made_of, made-of-fixed, source, degree-iter, degree-leader}

module _ (R : Rung) where
  open R use {T, m, pos, i, L, Ω, F, stands}
  open R.stands use {column, column_below, complete}

  abbrev leader_at : Ω → ℕ
  leader_at a = leader (O R) (rep R a)

  abbrev pub Index : Type 0
  Index = (x : Ω × ℕ) × (x.1 < made R (leader (O R) (rep R x.0)))

  abbrev pub base : Index → Ω
  base x = x.0.0

  abbrev pub number : Index → ℕ
  number x = x.0.1

  abbrev pub mk : (a : Ω) (κ : ℕ) → κ < made R (leader (O R) (rep R a)) → Index
  mk a κ h = ((a, κ), h)

  pub Index-path : (x y : Index) → base x ≡ base y → number x ≡ number y → x ≡ y
  Index-path x y p q = Σ_prop_path (λ z. le_prop) (λ j. (p j, q j))

  pub Index-discrete : Discrete Index
  Index-discrete x y = by_cases (F.decide (base x) (base y))
      (λ a. by_cases (ℕ_discrete (number x) (number y)) (λ b. yes (Index-path x y a b)) (λ b. no (λ q. b (ap number q)))) (λ a. no (λ q. a (ap base q)))

  unfoldable pub next-rep : Index → ℕ
  next-rep x = sum (leader (O R) (rep R (base x))) (made R) + number x

  unfoldable pub wide : Ω → ℕ
  wide a = cond (eqb (τ R (rep R a)) (rep R a)) (column a) (position (O R) (rep R a) * deg R (rep R a) + column a)

  pub wide-fixed : (a : Ω) → τ R (rep R a) ≡ rep R a → wide a ≡ column a
  unfolding wide
  wide-fixed a f = cond-eq _ _ _ _ f

  pub wide-moved : (a : Ω) → ¬ (τ R (rep R a) ≡ rep R a) → wide a ≡ position (O R) (rep R a) * deg R (rep R a) + column a
  unfolding wide
  wide-moved a f = cond-ne _ _ _ _ f

  abbrev Fixed : Ω → Type 0
  Fixed a = τ R (rep R a) ≡ rep R a

  -- a basis index of the orbit of a fixed leader
  pub rep-of-fixed : (a : Ω) (r : ℕ) → leader (O R) (rep R a) ≡ r → τ R r ≡ r → rep R a ≡ r
  rep-of-fixed a r e f = by_cases (ℕ_discrete (τ R (rep R a)) (rep R a)) (λ g. sym (leader-fixed (O R) (rep R a) (rep_below R a) g) ∙ e)
      (λ g. absurd (leader-moved (O R) (rep R a) (rep_below R a) g (subst (λ s. τ R s ≡ s) (sym e) f)))

  pub number-fixed : (x : Index) → τ R (rep R (base x)) ≡ rep R (base x) → number x < p R
  number-fixed x f = subst (λ s. number x < s) (made-of-fixed R (rep R (base x)) (rep_below R (base x)) f) x.1

  pub number-moved : (x : Index) → ¬ (τ R (rep R (base x)) ≡ rep R (base x)) → number x ≡ 0
  number-moved x f = let l : number x < 1 = subst (λ s. number x < s) (made_of R (rep R (base x)) (rep_below R (base x)) f) x.1 in omega arith

  -- ---- The representation of an index

  pub rep-fixed : (x : Index) → τ R (rep R (base x)) ≡ rep R (base x)
      → rep_of (next R) (next-rep x) ≡ Steps.extension T.context.P m i L (rep R (base x)) (number x)
  unfolding next-rep
  rep-fixed x f =
      ap (λ s. rep_of (next R) (sum s (made R) + number x)) (leader-fixed (O R) (rep R (base x)) (rep_below R (base x)) f)
      ∙ given-fixed R (rep R (base x)) (number x) (rep_below R (base x)) f (number-fixed x f)

  pub rep-moved : (x : Index) → ¬ (τ R (rep R (base x)) ≡ rep R (base x))
      → rep_of (next R) (next-rep x) ≡ Steps.induction T.context.P m i L (leader (O R) (rep R (base x)))
  unfolding next-rep
  rep-moved x f =
      given-moved R (leader_at (base x)) (number x) (leader-below (O R) (rep R (base x)) (rep_below R (base x)))
      (leader-moved (O R) (rep R (base x)) (rep_below R (base x)) f)
      (leader-leader (O R) (rep R (base x)) (rep_below R (base x))) (number-moved x f)

  pub degree-fixed : (x : Index) → τ R (rep R (base x)) ≡ rep R (base x) → (rep_of (next R) (next-rep x)).deg ≡ deg R (rep R (base x))
  unfolding Steps.extension
  degree-fixed x f = ap (λ (D : Rep). D.deg) (rep-fixed x f)

  pub degree-moved : (x : Index) → ¬ (τ R (rep R (base x)) ≡ rep R (base x)) → (rep_of (next R) (next-rep x)).deg ≡ p R * deg R (rep R (base x))
  unfolding Steps.induction
  degree-moved x f = ap (λ (D : Rep). D.deg) (rep-moved x f) ∙ ap (λ d. p R * d) (degree-leader R (rep R (base x)) (rep_below R (base x)))

  pub wide_below : (x : Index) → wide (base x) < (rep_of (next R) (next-rep x)).deg
  wide_below x = by_cases (ℕ_discrete (τ R (rep R (base x))) (rep R (base x))) (λ f. rw (wide-fixed (base x) f, degree-fixed x f) (column_below (base x)))
      (λ f. rw (wide-moved (base x) f, degree-moved x f) (digits_lt (position-below (O R) (rep R (base x)) (rep_below R (base x))) (column_below (base x))))

  pub next-below : (x : Index) → next-rep x < length (next R)
  unfolding next-rep
  next-below x = subst (λ s. sum (leader_at (base x)) (made R) + number x < s) (sym (next-length R))
      (stretch-below (made R) (leader_at (base x)) (number x) (N R) x.1 (leader-below (O R) (rep R (base x)) (rep_below R (base x))))

  abbrev pub next-frame : Layout Index
  next-frame = frame (next R) next-rep (λ x. wide (base x)) wide_below

  -- ---- Every column is one index

  pub record IndexFound (r c : ℕ) : Type 0 where
    pub index : Index
    pub is_rep : next-rep index ≡ r
    pub is_column : wide (base index) ≡ c

  pub next-find : (r c : ℕ) → r < length (next R) → c < (rep_of (next R) r).deg → IndexFound r c
  unfolding next-rep Steps.extension Steps.induction
  next-find r c h l =
      let o = source R r h in
      let s : ℕ = o.s in
      by_cases (ℕ_discrete (τ R s) s) (λ f.
      let κ-below : o.κ < p R = subst (λ z. o.κ < z) (made-fixed R s f) o.κ-below in
      let d : (rep_of (next R) r).deg ≡ deg R s = ap (λ r. (rep_of (next R) r).deg) (sym o.is)
      ∙ ap (λ (D : Rep). D.deg) (given-fixed R s o.κ o.s_below f κ-below) in
      let c_below : c < deg R s = subst (λ z. c < z) d l in
      let a : Ω = complete.find s c o.s_below c_below in
      let e : rep R a ≡ s = complete.find_rep s c o.s_below c_below in
      let q : leader_at a ≡ s = ap (leader (O R)) e ∙ o.own in
      record {
        index = mk a o.κ (subst (λ z. o.κ < made R z) (sym q) o.κ-below);
        is_rep = ap (λ z. sum z (made R) + o.κ) q ∙ o.is;
        is_column = wide-fixed a (subst (λ z. τ R z ≡ z) (sym e) f) ∙ complete.find_column s c o.s_below c_below;
      }) (λ f.
      let zero-κ : o.κ ≡ 0 = let b : o.κ < 1 = subst (λ z. o.κ < z) (made-leader R s f o.own) o.κ-below in omega arith in
      let d : (rep_of (next R) r).deg ≡ p R * deg R s
      = ap (λ r. (rep_of (next R) r).deg) (sym o.is) ∙ ap (λ (D : Rep). D.deg) (given-moved R s o.κ o.s_below f o.own zero-κ) in
      let d-pos : 0 < deg R s = stands.degree_pos s o.s_below in
      let b : ℕ = c / deg R s in
      let b-below : b < p R = (div-lt_iff_lt-mul d-pos).1 (subst (λ z. c < z) d l) in
      let t : ℕ = iter (τ R) b s in
      let t-below : t < N R = iter-below (O R) b s o.s_below in
      let dt : deg R t ≡ deg R s = degree-iter R b s o.s_below in
      let c_below : c % deg R s < deg R t = subst (λ z. c % deg R s < z) (sym dt) (mod-lt c d-pos) in
      let a : Ω = complete.find t (c % deg R s) t-below c_below in
      let e : rep R a ≡ t = complete.find_rep t (c % deg R s) t-below c_below in
      let tl : leader (O R) t ≡ s = leader-iter (O R) b s o.s_below ∙ o.own in
      let tm : ¬ (τ R t ≡ t) = iter-moved (O R) b s o.s_below f in
      let q : leader_at a ≡ s = ap (leader (O R)) e ∙ tl in
      let am : ¬ Fixed a = λ g. tm (subst (λ z. τ R z ≡ z) e g) in
      let ps : position (O R) (rep R a) ≡ b = ap (position (O R)) e ∙ position-is (O R) t b t-below tm b-below (ap (iter (τ R) b) tl) in
      record {
        index = mk a o.κ (subst (λ z. o.κ < made R z) (sym q) o.κ-below);
        is_rep = ap (λ z. sum z (made R) + o.κ) q ∙ o.is;
        is_column = wide-moved a am ∙ ap₂ (λ x y. x * y + column a) ps (ap (deg R) e ∙ dt)
            ∙ ap (λ z. b * deg R s + z) (complete.find_column t (c % deg R s) t-below c_below)
            ∙ omega (arith, mod-add-div' c (deg R s));
      })

  pub next_known : (x y : Index) → next-rep x ≡ next-rep y → wide (base x) ≡ wide (base y) → x ≡ y
  unfolding next-rep
  next_known x y q w =
      let (e, n) = stretch-one (made R) (leader_at (base x)) (number x) (leader_at (base y)) (number y) x.1 y.1 q in
      let a : Ω = base x in
      let b : Ω = base y in
      -- one is fixed as the other is
      let one : (a b : Ω) → leader_at a ≡ leader_at b → Fixed a → rep R b ≡ rep R a
      = λ a b e f. rep-of-fixed b (rep R a) (sym e ∙ leader-fixed (O R) (rep R a) (rep_below R a) f) f in
      let both : (a b : Ω) → leader_at a ≡ leader_at b → Fixed a → Fixed b = λ a b e f. subst (λ s. τ R s ≡ s) (sym (one a b e f)) f in
      Index-path x y (by_cases (ℕ_discrete (τ R (rep R a)) (rep R a))
      (λ f. complete.known a b (sym (one a b e f)) (sym (wide-fixed a f) ∙ w ∙ wide-fixed b (both a b e f))) (λ f.
      let g : ¬ Fixed b = λ g. f (both b a (sym e) g) in
      let d : ℕ = deg R (rep R a) in
      let same : deg R (rep R b) ≡ d = sym (degree-leader R (rep R b) (rep_below R b)) ∙ ap (deg R) (sym e) ∙ degree-leader R (rep R a) (rep_below R a) in
      let cb : column b < d = subst (λ z. column b < z) same (column_below b) in
      let line : position (O R) (rep R a) * d + column a ≡ position (O R) (rep R b) * d + column b
      = sym (wide-moved a f) ∙ w ∙ wide-moved b g ∙ ap (λ z. position (O R) (rep R b) * z + column b) same in
      let ps : position (O R) (rep R a) ≡ position (O R) (rep R b) = sym (digits_div (position (O R) (rep R a)) (column_below a))
      ∙ ap (λ z. z / d) line ∙ digits_div (position (O R) (rep R b)) cb in
      let cs : column a ≡ column b = sym (digits_mod (position (O R) (rep R a)) (column_below a)) ∙ ap (λ z. z % d) line
      ∙ digits_mod (position (O R) (rep R b)) cb in
      complete.known a b (sym (position-back (O R) (rep R a) (rep_below R a)) ∙ ap₂ (iter (τ R)) ps e ∙ position-back (O R) (rep R b) (rep_below R b)) cs)) n

  pub next-complete : Complete next-frame (length (next R))
  next-complete = record {
    rep_below = next-below;
    find = λ r c h l. (next-find r c h l).index;
    find_rep = λ r c h l. (next-find r c h l).is_rep;
    find_column = λ r c h l. (next-find r c h l).is_column;
    known = next_known;
  }
