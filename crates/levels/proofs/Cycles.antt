-- The blocks of an induced representation, along a generator above: each is visited once.
--
--   block-at                  block t is t times 1 plus the exponent of the generator on top, modulo its prime
--   unit-at                   which the prime does not divide, where something moves
--   once-at, visits-at        so no block comes twice in p steps, and every block comes
--   fixed-at                  what the generator on top fixes is led to what it fixes
--   visited, fixing           the same in any frame that says so
use mathlib.Core.Path.{◌≡◌, sym, ◌∙◌, ap}
use mathlib.Core.List.{List, []}
use Prim.Native.Nat.{ℕ, suc, ◌*◌, ◌%◌, ◌<◌, ◌∣◌}
use native.Mathlib.Omega.{arith}
use lib.ListN.{length, get_or}
use Rattle.definitions.specs.Presentation.{to_nf, pair_number, Presentation, order}
use Rattle.definitions.specs.Monomial.{Level, rep_of}
use Rattle.definitions.specs.Steps.{levels}
use Rattle.formulas.specs.Formulas.{Source, block_at}
use Rattle.numbers.proofs.Orbits.{unit-injective, unit-onto}
use Rattle.clifford.specs.Stands.{Rung}
use Rattle.clifford.specs.Accepted.{Accepted}
use Rattle.clifford.proofs.Standing.{rung}
use Rattle.clifford.proofs.Numbering.{O}
use Rattle.clifford.proofs.Next.{moved-unit, target_below, target_fixed}
use Rattle.agreement.proofs.Induced.{block_is}
use Rattle.agreement.proofs.Scalar.{leader-of}
use Rattle.agreement.proofs.Sources.{Twins, left, leader-same, block_same}
use Rattle.agreement.proofs.Table.{rungs, twins}
use Rattle.rows.specs.Rows.{Reads}
use Rattle.level.specs.Stored.{matrix_in}
use Rattle.survey.specs.declared.Frame.{Frame}
use Rattle.survey.specs.Below.{source_in, deg_of, matrix_of, target_of, leader_in, Fixing, Cycling}
use Rattle.levels.specs.Built.{up_to, frame_at, Placed, level_of}
use Rattle.levels.proofs.Words.{reads, target-of, source_told}
use Rattle.levels.proofs.Standing.{at-placed}

module _ (A : Accepted) (k : ℕ) (l : suc k < A.C.P.n) (rows : List (List ℕ)) {primes : List ℕ}
    (told : Reads A.C.P A.C.P.n primes rows) where
  abbrev pub P : Presentation
  P = A.C.P

  abbrev pub n : ℕ
  n = A.C.P.n

  abbrev pub m : ℕ
  m = order P n

  abbrev pub L : Level
  L = levels P m (suc k)

  abbrev pub f : Frame
  f = frame_at A k

  abbrev pub W : List ℕ
  W = up_to A (suc k)

  abbrev R : Rung
  R = rungs A (suc k) l

  lower : k < n
  lower = omega arith

  -- the level, and its words
  abbrev T : Twins
  T = twins A (suc k) l (deg_of f W) (λ r g. matrix_in W (matrix_of f W g r) (deg_of f W r)) (target_of f W) (reads A k lower)
      (λ j. to_nf (suc (suc k)) (get_or rows (pair_number j (suc k)) [])) (λ j a b. sym (told.w_is (suc k) j a b))

  module _ (r : ℕ) (h : r < length L) (mv : ¬ (target_of f W (suc k) r ≡ r)) (own : leader_in f W r ≡ r) (j : ℕ) (ij : suc k < j) (jn : j < n) where
    moves : ¬ ((rep_of L r).ref (suc k) 0 ≡ r)
    moves e = mv (target-of A k lower (suc k) r h l ∙ e)

    block-left : (t : ℕ) → block_at (left T) j r t ≡ (suc (P.w (suc k) j).0 * t) % P.p (suc k)
    unfolding rung
    block-left t = block_is R r h (λ e. moves (sym (R.literal (suc k) r) ∙ e)) (sym (leader-of R r) ∙ leader-same T r ∙ own) j ij jn t

    pub block-at : (t : ℕ) → block_at (source_in f W rows) j r t ≡ (suc (P.w (suc k) j).0 * t) % P.p (suc k)
    block-at t = ap (λ (S : Source). block_at S j r t) (sym (source_told A k lower l rows told)) ∙ sym (block_same T j r ij jn h t) ∙ block-left t

    pub unit-at : ¬ (P.p (suc k) ∣ suc (P.w (suc k) j).0)
    unfolding rung
    unit-at = moved-unit R j ij jn r h (λ e. moves (sym (R.literal (suc k) r) ∙ e))

    pub once-at : (t t' : ℕ) → t < P.p (suc k) → t' < P.p (suc k) → block_at (source_in f W rows) j r t ≡ block_at (source_in f W rows) j r t' → t ≡ t'
    unfolding rung
    once-at t t' a b e = unit-injective (O R) (suc (P.w (suc k) j).0) unit-at t t' a b (sym (block-at t) ∙ e ∙ block-at t')

    pub visits-at : (b : ℕ) → b < P.p (suc k) → (t : ℕ) × (t < P.p (suc k)) × (block_at (source_in f W rows) j r t ≡ b)
    unfolding rung
    visits-at b a = let (t, c, e) = unit-onto (O R) (suc (P.w (suc k) j).0) unit-at b a in (t, c, block-at t ∙ e)

module _ (A : Accepted) (k : ℕ) (l : suc k < A.C.P.n) where
  -- where generator j leads, as the steps say it
  leads : (j r : ℕ) → r < length (level_of A (suc k)) → j < A.C.P.n → target_of (frame_at A k) (up_to A (suc k)) j r ≡ (rungs A (suc k) l).F.target j r
  unfolding rung
  leads j r h jn = target-of A k (omega arith) j r h jn ∙ sym ((rungs A (suc k) l).literal j r)

  pub fixed-at : (r : ℕ) → r < length (level_of A (suc k)) → target_of (frame_at A k) (up_to A (suc k)) (suc k) r ≡ r → (j : ℕ) → suc k < j → j < A.C.P.n
      → target_of (frame_at A k) (up_to A (suc k)) (suc k) (target_of (frame_at A k) (up_to A (suc k)) j r) ≡ target_of (frame_at A k) (up_to A (suc k)) j r
  unfolding rung
  fixed-at r h e j ij jn =
      let R = rungs A (suc k) l in
      let t = leads j r h jn in
      ap (target_of (frame_at A k) (up_to A (suc k)) (suc k)) t ∙ leads (suc k) (R.F.target j r) (target_below R j ij jn r h) l
      ∙ target_fixed R j ij jn r h (sym (leads (suc k) r h l) ∙ e) ∙ sym t

-- ---- In any frame that says so

pub fixing : (A : Accepted) (i : ℕ) (f : Frame) (W : List ℕ) → Placed A i f W → Fixing f W
fixing A = at-placed A (λ i. Fixing) (λ k l. record { stays = fixed-at A k l })

pub visited : (A : Accepted) (i : ℕ) (f : Frame) (W : List ℕ) (rows : List (List ℕ)) {primes : List ℕ} → Placed A i f W
    → Reads A.C.P A.C.P.n primes rows → Cycling f W rows
visited A i f W rows Q told = at-placed A (λ i f W. Cycling f W rows)
    (λ k l r h mv own j ij jn. record { once = once-at A k l rows told r h mv own j ij jn; visits = visits-at A k l rows told r h mv own j ij jn })
    i f W Q
