-- One block of a representation.
--
--   inside-matrix, inside-column     the lines of a generator, and a column of the first one, are there
--   block-lines, block-shift         so are those of a block, and its rows can be moved
--   Lowering                         the first k generators act on the block as on what it refers to
--   lowering-none, lowering-more, lowering-all      the steps of the loop
--   single-lines, lower-single       the lines of a representation of degree 1, and generators whose lines are the same
--   row-single                       a row of one block
--   carried                          a generator, by what is compared
--   Raising                          the generators above the top and below k
--   raising-none, raising-more, raising-all         the steps of the loop
--   over, fitting-block              a block over what it refers to, and all generators on it
--   Blocking                         the blocks before a column
--   blocking-none, blocking-more, blocking-all, blocking-room       the steps of the loop
use mathlib.Core.Path.{◌≡◌, sym, ◌∙◌, ap, ap₂, subst}
use mathlib.Core.Logic.{◌⊎◌, inl, inr, by_cases}
use mathlib.Core.List.{List}
use Prim.Native.Nat.{ℕ, suc, ◌+◌, ◌*◌, ◌/◌, ◌≤◌, ◌<◌}
use native.Mathlib.Nat.{mul-le-mul_right, div-eq_of_lt}
use native.Mathlib.Omega.{arith}
use native.Mathlib.Decide.{dec_lt}
use lib.ListN.{length}
use borrow.Author.Count.{below_more}
use Rattle.definitions.specs.declared.Entry.{Entry}
use Rattle.definitions.specs.Monomial.{less}
use Rattle.definitions.specs.Table.{REF, EXP, word_at}
use Rattle.level.specs.declared.Listed.{Listed}
use Rattle.level.specs.Stored.{entry_in, line_in, target_in}
use Rattle.seek.specs.declared.Scope.{Scope}
use Rattle.seek.specs.Seek.{Found}
use Rattle.seek.proofs.Halves.{lines-there}
use Rattle.compare.specs.declared.Stage.{Stage}
use Rattle.compare.specs.declared.Stretch.{Stretch}
use Rattle.compare.specs.Shifted.{shift, LineShifted, Shifted, LineSame, LinesSame}
use Rattle.compare.specs.Staged.{Staged}
use Rattle.compare.proofs.Shifted.{same-shifted}
use Rattle.compare.specs.Blocks.{block, Present, Based, Lower, row_to, TakesBlock, Upper, Uppers, ref_at, BlockFits, Wide, Proper, RepFits}

-- ---- Lines that are there

module _ {s : Scope} {T : List ℕ} {D : Listed} (I : Present s T D) where
  pub inside-matrix : (g : ℕ) → g < s.gens → 8 * (line_in D g + D.deg) ≤ length T
  inside-matrix g l =
      let e : suc g * D.deg ≤ s.gens * D.deg = mul-le-mul_right D.deg l in
      lines-there T (line_in D g + D.deg) (omega (arith, I.room, e))

  pub inside-column : (o : ℕ) → 0 < s.gens → o < D.deg → 8 * (D.line + o) + 8 ≤ length T
  inside-column o p l = omega (arith, inside-matrix 0 p)

module _ {s : Scope} {T : List ℕ} {D : Listed} {B : Stretch} (O : Based s T D B) where
  pub block-lines : (g : ℕ) → g < s.gens → 8 * (line_in D g + B.start + B.part.deg) ≤ length T
  block-lines g l = omega (arith, inside-matrix O.inside g l, O.within)

  pub block-shift : (r : ℕ) → r < D.deg → r + B.part.deg < 4294967296
  block-shift r l = omega (arith, O.inside.narrow, O.within)

-- ---- Generators below the top

pub record Lowering (s : Scope) (T : List ℕ) (D : Listed) (B : Stretch) (k : ℕ) : Type 0 where
  pub each : (h : ℕ) → h < k → Shifted s.m T (line_in D h + B.start) (line_in B.part h) B.part.deg (shift B.refn B.start 0)

module _ {s : Scope} {T : List ℕ} {D : Listed} {B : Stretch} where
  pub lowering-none : Lowering s T D B 0
  lowering-none = record { each = λ h l. absurd (omega arith) }

  pub lowering-more : {k : ℕ} → Lowering s T D B k
      → Shifted s.m T (line_in D k + B.start) (line_in B.part k) B.part.deg (shift B.refn B.start 0) → Lowering s T D B (k + 1)
  lowering-more {k} h w = record { each = below_more (λ h. Shifted s.m T (line_in D h + B.start) (line_in B.part h) B.part.deg (shift B.refn B.start 0)) k h.each w }

  pub lowering-all : {k top : ℕ} → Lowering s T D B k → top ≤ k → Lower s T D B top
  lowering-all h l = record { each = λ g b. h.each g (omega arith) }

module _ {s : Scope} {T : List ℕ} {D : Listed} {B : Stretch} (O : Based s T D B) (one : D.deg ≡ 1) {top : ℕ} (low : top < s.gens) where
  width_one : B.part.deg ≡ 1
  width_one = omega (arith, O.within, O.stored.positive)

  pub single-lines : (8 * (D.line + top) ≤ length T) × (8 * (B.part.line + top) ≤ length T)
  single-lines = (
    lines-there T (D.line + top) (omega (arith, O.inside.room, ap (λ d. s.gens * d) one)),
    omega (arith, (O.stored.holds top low).fits, ap (λ d. top * d) width_one),
  )

  pub lower-single : LinesSame T D.line B.part.line top B.refn → Lower s T D B top
  lower-single h = record { each = λ g l. record { each = λ c b. line g c l b } }
    where
      line : (g c : ℕ) → g < top → c < B.part.deg
          → LineShifted s.m T (line_in D g + B.start + c) (line_in B.part g + c) (shift B.refn B.start 0)
      line g c l b =
          let first : B.start ≡ 0 = omega (arith, O.within, O.stored.positive) in
          let at : D.line + g ≡ line_in D g + B.start + c = omega (arith, ap (λ d. g * d) one, width_one) in
          let src : B.part.line + g ≡ line_in B.part g + c = omega (arith, ap (λ d. g * d) width_one, width_one) in
          same-shifted s.m T (line_in D g + B.start + c) (line_in B.part g + c) B.refn B.start
          (subst (λ a. LineSame T a (line_in B.part g + c) B.refn) at (subst (λ a. LineSame T (D.line + g) a B.refn) src (h.each g l)))
          ((O.stored.holds g (omega (arith, low))).valid c b).exp first

-- ---- A generator that takes the block to a block

pub row-single : (row w deg : ℕ) → w ≡ deg → row < deg → 0 ≡ row / w * w
row-single row w deg e l = sym (ap (λ q. q * w) (div-eq_of_lt (omega (arith, e, l))) ∙ omega arith)

module _ (s : Scope) (T : List ℕ) (D E : Listed) (B : Stretch) (g x at src row : ℕ) (y : Entry) (first : at ≡ line_in D g + B.start)
    (second : src ≡ line_in B.part g) (entry_is : y ≡ entry_in T at) (row_is : row ≡ y.row / B.part.deg * B.part.deg) where
  row-to : row ≡ row_to T D B g
  row-to = row_is ∙ ap (λ (y : Entry). y.row / B.part.deg * B.part.deg) (entry_is ∙ ap (entry_in T) first)

  pub carried : (l : ℕ) (exp e : ℕ) → y.row < D.deg → l ≡ E.line + row → word_at T l REF ≡ word_at T src REF → e ≡ word_at T src EXP
      → exp ≡ less s.m y.exp e → Shifted s.m T at src B.part.deg (shift x row exp) → TakesBlock s T D E B g x
  carried l exp e lands line leads exp-is sub H = record {
    lands = subst (λ (y : Entry). y.row < D.deg) (entry_is ∙ ap (entry_in T) first) lands;
    leads = ap (λ l. word_at T l REF) (sym (line ∙ ap (λ r. E.line + r) row-to)) ∙ leads ∙ ap (λ l. word_at T l REF) second;
    shifted = subst (λ e. Shifted s.m T (line_in D g + B.start) (line_in B.part g) B.part.deg (shift x (row_to T D B g) e)) exp-to
        (subst (λ r. Shifted s.m T (line_in D g + B.start) (line_in B.part g) B.part.deg (shift x r exp)) row-to
        (subst (λ l. Shifted s.m T (line_in D g + B.start) l B.part.deg (shift x row exp)) second
        (subst (λ l. Shifted s.m T l src B.part.deg (shift x row exp)) first H)));
  }
    where
      exp-to : exp ≡ less s.m (entry_in T (line_in D g + B.start)).exp (entry_in T (line_in B.part g)).exp
      exp-to = sub ∙ ap₂ (less s.m) (ap (λ (y : Entry). y.exp) (entry_is ∙ ap (entry_in T) first)) (exp-is ∙ ap (λ l. word_at T l EXP) second)

-- ---- Generators above the top

pub record Raising (s : Scope) (T : List ℕ) (g : Stage) (D : Listed) (B : Stretch) (k : ℕ) : Type 0 where
  pub each : (j : ℕ) → g.top < j → j < k → Upper s T g D B j

pub raising-none : (s : Scope) (T : List ℕ) (g : Stage) (D : Listed) (B : Stretch) → Raising s T g D B (g.top + 1)
raising-none s T g D B = record { each = λ j l h. absurd (omega arith) }

module _ {s : Scope} {T : List ℕ} {g : Stage} {D : Listed} {B : Stretch} {k : ℕ} (h : Raising s T g D B k) where
  pub raising-more : Upper s T g D B k → Raising s T g D B (k + 1)
  raising-more U = record { each = λ j a b. below_more (λ j. g.top < j → Upper s T g D B j) k (λ j b a. h.each j a b) (λ a. U) j b a }

  pub raising-all : s.gens ≤ k → Uppers s T g D B
  raising-all l = record { each = λ j a b. h.each j a (omega arith) }

-- ---- All generators

module _ {s : Scope} {T firsts : List ℕ} {g : Stage} (S : Staged s T firsts g) {D : Listed} (I : Present s T D) (o : ℕ) {x : ℕ} {F : Listed} where
  pub over : Found s.gens T g.top x F → o + F.deg ≤ D.deg → Based s T D (block o x F)
  over G l = record { inside = I; within = l; modulus = S.modulus.0; stored = S.stored x G }

module _ {s : Scope} {T : List ℕ} {g : Stage} {D : Listed} {o w x : ℕ} {F : Listed} where
  pub fitting-block : x ≡ ref_at s T g D o → Found s.gens T g.top x F → F.deg ≡ w → Lower s T D (block o x F) g.top
      → TakesBlock s T D D (block o x F) g.top x → Uppers s T g D (block o x F) → BlockFits s T g D o w
  fitting-block e G width low top up = record {
    part = F;
    found = subst (λ x. Found s.gens T g.top x F) e G;
    width = width;
    lower = subst (λ x. Lower s T D (block o x F) g.top) e low;
    top = subst (λ x. TakesBlock s T D D (block o x F) g.top x) e top;
    upper = subst (λ x. Uppers s T g D (block o x F)) e up;
  }

-- ---- All blocks

-- the blocks before column o
pub record Blocking (s : Scope) (T : List ℕ) (g : Stage) (D : Listed) (w o : ℕ) : Type 0 where
  pub many : ℕ
  pub at : o ≡ many * w
  pub each : (k : ℕ) → k < many → BlockFits s T g D (k * w) w

module _ {s : Scope} {T : List ℕ} {g : Stage} {D : Listed} {w : ℕ} where
  pub blocking-none : Blocking s T g D w 0
  blocking-none = record { many = 0; at = omega arith; each = λ k l. absurd (omega arith) }

  module _ {o : ℕ} (h : Blocking s T g D w o) where
    pub blocking-more : BlockFits s T g D o w → Blocking s T g D w (o + w)
    blocking-more B = record {
      many = h.many + 1;
      at = omega (arith, h.at);
      each = below_more (λ k. BlockFits s T g D (k * w) w) h.many h.each (subst (λ o. BlockFits s T g D o w) h.at B);
    }

    pub blocking-all : Wide s T g D w → Proper s T D w → D.deg ≤ o → RepFits s T g D
    blocking-all W so l = record { w = w; wide = W; proper = so; blocks = λ k a. h.each k (few k a (dec_lt k h.many)) }
      where
        few : (k : ℕ) → k * w < D.deg → Dec (k < h.many) → k < h.many
        few k a (yes b) = b
        few k a (no b) = let z : h.many * w ≤ k * w = mul-le-mul_right w (omega arith) in absurd (omega (arith, h.at, l, z))

    -- a block that begins before the end has room
    pub blocking-room : Wide s T g D w → o < D.deg → o + w ≤ D.deg
    blocking-room W l = go W.split
      where
        times : (q : ℕ) → D.deg ≡ q * w → o + w ≤ D.deg
        times q e = by_cases (dec_lt h.many q)
            (λ b. let z : suc h.many * w ≤ q * w = mul-le-mul_right w b in omega (arith, h.at, e, z))
            (λ b. let z : q * w ≤ h.many * w = mul-le-mul_right w (omega arith) in absurd (omega (arith, h.at, e, z, l)))

        go : (D.deg ≡ w) ⊎ ((D.deg ≡ g.p * w) × ¬ (target_in T W.first g.top ≡ word_at T D.line REF)) → o + w ≤ D.deg
        go (inl e) = times 1 (omega (arith, e))
        go (inr (e, n)) = times g.p e
