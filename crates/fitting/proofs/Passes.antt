-- A table whose levels fit, each on the one below, passes the judgement.
--
--   fits-restricts   the representations of a level that fits are cut into blocks of the level below
--   fits-stands      a level that fits on one that stands, stands
--   fitting-pass     the first levels of a table that fit, pass
--   fits-passes      a complete table of whole lines whose levels all fit passes
use mathlib.Core.Path.{◌≡◌, refl, sym, ◌∙◌, ap, subst}
use mathlib.Core.Bool.{true}
use mathlib.Core.List.{List}
use Prim.Native.Nat.{ℕ, zero, suc, ◌%◌, ◌≤◌, ◌<◌}
use native.Mathlib.Nat.{le_refl}
use native.Mathlib.Omega.{arith}
use lib.Dec.{eqb}
use lib.ListN.{length, get_or}
use Rattle.definitions.specs.Presentation.{line_words, Presentation, order}
use Rattle.definitions.specs.Monomial.{Rep, Level, rep_of, no_rep}
use Rattle.definitions.specs.Table.{degrees, first_line, rep_at, level_at, complete}
use Rattle.definitions.specs.Steps.{levels}
use Rattle.definitions.specs.Answers.{judgement}
use Rattle.numbers.proofs.Blocks.{get_or-table, length-table}
use Rattle.clifford.specs.Stands.{Restricts}
use Rattle.clifford.specs.Passing.{LevelPasses}
use Rattle.clifford.specs.Accepted.{Accepted}
use Rattle.clifford.proofs.Standing.{Setting, Standing, rung, standing, setting}
use Rattle.clifford.proofs.Passing.{level-passes, all_pass}
use Rattle.fitting.specs.Fits.{Fits}
use Rattle.fitting.proofs.Parts.{Fitted}
use Rattle.fitting.proofs.Places.{Index}
use Rattle.fitting.proofs.Raise.{family}
use Rattle.fitting.proofs.Shown.{high-stands}

-- ---- One level

pub fits-restricts : {P : Presentation} {n m i : ℕ} {Low High : Level} → Fits P n m i Low High → (r : ℕ) → r < length High → Restricts i Low (rep_of High r)
fits-restricts Q r h = (Q.fit r h).cut

module _ (G : Setting) (i : ℕ) (l : i < G.T.n) (Low High : Level) (St : Standing G i Low)
    (size : (r g : ℕ) → r < length High → g < G.T.n → length ((rep_of High r).matrix g) ≡ (rep_of High r).deg)
    (Q : Fits G.T.context.P G.T.n G.m i Low High) where
  pub fits-stands : Standing G (suc i) High
  unfolding rung
  fits-stands =
      let W : Fitted = record { R = rung G i l Low St; High = High; size = size; fits = Q } in
      record { Ω = Index W; F = family W; stands = high-stands W; literal = λ j r. refl }

-- ---- All levels

-- the matrices of a level of a table are as long as its degrees
level-size : (n : ℕ) (T : List ℕ) (i r g : ℕ) → r < length (level_at n T (suc i))
    → length ((rep_of (level_at n T (suc i)) r).matrix g) ≡ (rep_of (level_at n T (suc i)) r).deg
unfolding rep_of level_at rep_at
level-size n T i r g h =
    let ds : List ℕ = degrees T (suc i) in
    let e = get_or-table (λ r. rep_at T (first_line n T (suc i) r) (get_or ds r 0)) (length ds) r no_rep (subst (λ z. r < z) (length-table _ (length ds)) h) in
    ap (λ (D : Rep). length (D.matrix g)) e ∙ length-table _ (get_or ds r 0) ∙ sym (ap (λ (D : Rep). D.deg) e)

module _ (A : Accepted) (T : List ℕ) (k : ℕ) (within : k ≤ A.C.P.n)
    (fits : (i : ℕ) → i < k
    → Fits A.C.P A.C.P.n (order A.C.P A.C.P.n) i (level_at A.C.P.n T i) (level_at A.C.P.n T (suc i))) where
  abbrev n : ℕ
  n = A.C.P.n

  abbrev G : Setting
  G = setting A

  stands_at : (i : ℕ) → i ≤ k → Standing G i (level_at n T i)
  stands_at zero l = from-steps (standing G 0 (omega arith))
    where
      from-steps : Standing G 0 (levels A.C.P G.m 0) → Standing G 0 (level_at n T 0)
      from-steps s = unfold levels level_at in s
  stands_at (suc i) l =
      fits-stands G i (omega arith) (level_at n T i) (level_at n T (suc i)) (stands_at i (omega arith)) (λ r g h a. level-size n T i r g h) (fits i l)

  -- the first k levels of a table pass, if they fit
  pub fitting-pass : (i : ℕ) → i < k → LevelPasses A.C.P (order A.C.P A.C.P.n) T i
  fitting-pass i l =
      let St = stands_at (suc i) l in
      level-passes A.C A.tests G.m G.pos T i (omega arith) (record { Ω = St.Ω; F = St.F; stands = St.stands }) (fits-restricts (fits i l))

pub fits-passes : (A : Accepted) (T : List ℕ) → eqb (length T % line_words) 0 ≡ true → complete A.C.P.n T ≡ true
    → ((i : ℕ) → i < A.C.P.n
    → Fits A.C.P A.C.P.n (order A.C.P A.C.P.n) i (level_at A.C.P.n T i) (level_at A.C.P.n T (suc i)))
    → judgement A.C.P (order A.C.P A.C.P.n) T ≡ 0
fits-passes A T whole lines fits =
    let m : ℕ = order A.C.P A.C.P.n in
    all_pass A.C.P m T (fitting-pass A T A.C.P.n (le_refl A.C.P.n) fits) whole lines
