-- The conjugate of generator i: what the first column of a block says of it, in the scalars of a step.
--
--   closes_at       the scalars close at the first basis index of a block
use mathlib.Core.Path.{◌≡◌, sym, ◌∙◌, ap}
use Prim.Native.Nat.{ℕ, suc, ◌+◌, ◌*◌, ◌<◌}
use native.Mathlib.Omega.{arith}
use Rattle.definitions.specs.declared.Entry.{Entry}
use Rattle.definitions.specs.Lists.{iter}
use Rattle.definitions.specs.Presentation.{power}
use Rattle.definitions.specs.Monomial.{Matrix, entry, act, rep_of}
use Rattle.formulas.specs.Formulas as Fm
use Rattle.numbers.proofs.Iterates.{iter-out}
use Rattle.group.specs.Context.{Context, Nf}
use Rattle.group.proofs.Level.{w_nf}
use Rattle.monomial.specs.Exponents.{total, times, Residue}
use Rattle.monomial.specs.Maps.{Map, maps}
use Rattle.monomial.proofs.Exponents.{lcomm, cancel, total_ext, total-add}
use Rattle.monomial.proofs.Maps.{at-column, at_mul, power-diagonal}
use Rattle.monomial.proofs.Residues.{residues, Residue-path}
use Rattle.columns.specs.Columns.{conjugate_at, intertwines_at}
use Rattle.clifford.proofs.Numbering.{P, S}
use Rattle.clifford.proofs.Top.{Y, Y-at, φ, φ-is, q, q-eq}
use Rattle.clifford.proofs.Levels.{rest_nf}
use Rattle.clifford.proofs.Extensions.{E, first, first_rep}
use Rattle.fitting.proofs.Parts.{Fitted, Up, fit, count, width, part, to, turn, part_below, turns-below}
use Rattle.fitting.proofs.Spots.{same-exp, scalar, spot, spot-exp, first-spot, column-high, act-spot, walk-spot, power-rep, turn-spot}
use Rattle.fitting.proofs.Scales.{σ, 𝓢, ε, number, scalar_is}
use Rattle.fitting.proofs.Places.{toward, toward-width, to_in, to_part}

module _ (W : Fitted) (j : ℕ) (ij : W.R.i < j) (jn : j < W.R.T.n) (u : Up W) (k : ℕ) (l : k < count W u) where
  open W use {R, High}
  open W.R use {T, m, pos, i, Ω, F}
  open W.R.stands use {column}
  open residues W.R.m W.R.pos use {add, nil}

  abbrev C : Context
  C = T.context

  -- j⁻¹ i j is generator i to the power A, times a word of the level below
  abbrev A : ℕ
  A = suc ((P R).w i j).0

  abbrev tail : Nf C i
  tail = rest_nf C i (w_nf C i j)

  abbrev X : Map (E R) Ω
  X = F.X i

  abbrev Xj : Map (E R) Ω
  Xj = F.X j

  abbrev pow : ℕ → Map (E R) Ω
  pow = power (maps (E R) Ω) X

  abbrev M : ℕ → Matrix
  M = (rep_of High u.0).matrix

  abbrev v : Up W
  v = toward W j ij jn u

  abbrev k' : ℕ
  k' = to W u j k

  abbrev k₂ : ℕ
  k₂ = iter (turn W u) A k

  a₀ : Ω
  a₀ = first R (part W u k)

  ra : F.rep a₀ ≡ part W u k
  unfolding a₀
  ra = first_rep R (part W u k) (part_below W u k l)

  origin : entry (k * width W u) 0 ≡ spot W u k (a₀, nil)
  unfolding a₀
  origin = sym (first-spot W u k)

  -- ---- Through the word, generator i, and generator j

  b : Ω
  b = (F.d tail a₀).0

  y₀ : Residue m
  y₀ = (F.d tail a₀).1

  rb : F.rep b ≡ part W u k
  unfolding b
  rb = F.inside tail a₀ ∙ ra

  b₂ : Ω
  b₂ = (pow A b).0

  B : Residue m
  B = (pow A b).1

  -- the scalars on the way: those of the references, and the number's root
  G : Residue m
  G = total (E R) (λ l. scalar W u i (iter (turn W u) l k)) A

  H : Residue m
  H = total (E R) (λ l. σ W (F.rep (pow l b).0)) A

  K : Residue m
  K = times (E R) A (times (E R) (number W u) (ε W))

  G-is : G ≡ add H K
  unfolding G H K
  G-is =
      total_ext (E R) _ (λ l. add (σ W (F.rep (pow l b).0)) (times (E R) (number W u) (ε W))) A
      (λ n h. scalar_is W u (iter (turn W u) n k) (turns-below W u k n l)
      ∙ ap (λ f. add (σ W f) (times (E R) (number W u) (ε W))) (sym (power-rep W u k l b rb n)))
      ∙ total-add (E R) (λ l. σ W (F.rep (pow l b).0)) (λ l. times (E R) (number W u) (ε W)) A

  abbrev x₂ : Residue m
  x₂ = (Xj b₂).1

  -- generator i is one letter of the conjugate more than the word has
  conjugate-spot : conjugate_at (P R) m (rep_of High u.0) i j (k * width W u) ≡ spot W u k₂ (b₂, add (add G B) y₀)
  unfolding conjugate_at Fm.walk w_nf b y₀ b₂ B G
  conjugate-spot =
      sym (iter-out (act m (M i)) ((P R).w i j).0 _)
      ∙ ap (iter (act m (M i)) A) (ap (Fm.walk m M i ((P R).w i j).1) origin ∙ walk-spot W u k l a₀ ra tail)
      ∙ turn-spot W u k l b rb y₀ A

  left : (act m (M j) (conjugate_at (P R) m (rep_of High u.0) i j (k * width W u))).exp ≡ (add (add x₂ (scalar W u j k₂)) (add (add G B) y₀)).0
  unfolding b₂
  left =
      ap (λ (x : Entry). (act m (M j) x).exp) conjugate-spot
      ∙ ap (λ (x : Entry). x.exp) (act-spot W u (M j) k₂ (to W u j k₂) b₂ _ (add (add G B) y₀) _
      (column-high W u k₂ (turns-below W u k A l) b₂ (power-rep W u k l b rb A) j (omega arith) jn))
      ∙ spot-exp W u _ _

  -- ---- The other way round

  b' : Ω
  b' = (Xj a₀).0

  rb' : F.rep b' ≡ part W v k'
  unfolding b'
  rb' = F.maps_to j (omega arith) jn a₀ ∙ ap (F.target j) ra ∙ sym (to_part W j ij jn u k l)

  abbrev x₀ : Residue m
  x₀ = (Xj a₀).1

  abbrev x' : Residue m
  x' = (X b').1

  abbrev y' : Residue m
  y' = add (add x₀ (scalar W u j k)) nil

  -- the widths agree
  across : act m (M j) (entry (k * width W u) 0) ≡ spot W v k' (b', y')
  unfolding b' spot
  across =
      ap (act m (M j)) origin ∙ act-spot W u (M j) k k' a₀ _ nil _ (column-high W u k l a₀ ra j (omega arith) jn)
      ∙ ap (λ w. entry (k' * w + column (Xj a₀).0) y'.0) (sym (toward-width W j ij jn u))

  right : (act m ((rep_of High v.0).matrix i) (act m (M j) (entry (k * width W u) 0))).exp ≡ (add (add x' (scalar W v i k')) y').0
  right =
      ap (λ (x : Entry). (act m ((rep_of High v.0).matrix i) x).exp) across
      ∙ ap (λ (x : Entry). x.exp) (act-spot W v ((rep_of High v.0).matrix i) k' (turn W v k') b' _ y' _
      (column-high W v k' (to_in W j ij jn u k l) b' rb' i (omega arith) R.in_range))
      ∙ spot-exp W v _ _

  said : add (add x₂ (scalar W u j k₂)) (add (add G B) y₀) ≡ add (add x' (scalar W v i k')) y'
  unfolding intertwines_at
  said = Residue-path m _ _ (sym left ∙ same-exp _ _ ((fit W u).conjugate j k ij jn l) ∙ right)

  -- ---- What the step below says

  abbrev qa : Residue m
  qa = q (S R) F (𝓢 W) j ij jn a₀

  s' : Residue m
  s' = σ W (F.rep b')

  φ-at : φ (S R) F (𝓢 W) j ij jn a₀ ≡ (b₂, add (add H B) y₀)
  unfolding Y H B b₂ b y₀
  φ-at =
      at-column (E R) (φ-is (S R) F (𝓢 W) j ij jn) a₀ ∙ at_mul (E R) (power (maps (E R) Ω) (Y (S R) F (𝓢 W)) A) (F.d tail) a₀
      ∙ ap (λ (s : Ω × Residue m). (s.0, add s.1 y₀)) (power-diagonal (E R) X (λ a. σ W (F.rep a)) A b)

  known : add x₂ (add (add H B) y₀) ≡ add qa (add (add x' s') x₀)
  unfolding b' s'
  known =
      ap (λ s. s.1) (sym (at_mul (E R) Xj (φ (S R) F (𝓢 W) j ij jn) a₀
      ∙ ap (λ (s : Ω × Residue m). ((Xj s.0).0, add (Xj s.0).1 s.1)) φ-at)
      ∙ q-eq (S R) F (𝓢 W) j ij jn a₀
      ∙ ap (λ (s : Ω × Residue m). (s.0, add qa s.1)) (at_mul (E R) (Y (S R) F (𝓢 W)) Xj a₀
      ∙ ap (λ (s : Ω × Residue m). (s.0, add s.1 x₀)) (Y-at (S R) F (𝓢 W) b')))

  -- ---- Together

  one : (c q k s : Residue m) → add c (add q (add k s)) ≡ add (add q c) (add k s)
  one c q k s = simp ((E R).assoc, (E R).comm)

  two : (x h b y k s : Residue m) → add (add x (add (add h b) y)) (add k s) ≡ add (add x s) (add (add (add h k) b) y)
  two x h b y k s = simp ((E R).assoc, (E R).comm, lcomm (E R))

  three : (x s x' g n o : Residue m) → add (add x' (add g n)) (add (add x s) o) ≡ add o (add (add (add x' g) x) (add s n))
  three x s x' g n o = simp ((E R).assoc, (E R).comm, lcomm (E R))

  pub closes_at : (E W.R).add (q (S W.R) W.R.F (𝓢 W) j ij jn (first W.R (part W u k)))
      ((E W.R).add (times (E W.R) (suc ((P W.R).w W.R.i j).0) (times (E W.R) (number W u) (ε W)))
      (scalar W u j (iter (turn W u) (suc ((P W.R).w W.R.i j).0) k)))
      ≡ (E W.R).add (scalar W u j k) (times (E W.R) (number W (toward W j ij jn u)) (ε W))
  unfolding K a₀ s'
  closes_at =
      cancel (E R) (add (add x' s') x₀) _ _
      (one _ _ _ _ ∙ ap (λ z. add z (add K (scalar W u j k₂))) (sym known) ∙ two _ _ _ _ _ _
      ∙ ap (λ g. add (add x₂ (scalar W u j k₂)) (add (add g B) y₀)) (sym G-is) ∙ said
      ∙ ap (λ z. add (add x' z) y') (scalar_is W v k' (to_in W j ij jn u k l) ∙ ap (λ f. add (σ W f) (times (E R) (number W v) (ε W))) (sym rb'))
      ∙ three _ _ _ _ _ _ ∙ (E R).idl _)
