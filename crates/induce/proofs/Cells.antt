-- The lines of an induced representation, block by block.
--
--   cell-is                    a block with the constants of the formulas gives the lines of that block
--   induced-words              the blocks of a generator, one behind the other
--   cell-length, induced-length      how many words
--   cell-held                  the matrix of a block stands below
use mathlib.Core.Path.{◌≡◌, refl, sym, ap, ap₂, ◌∙◌, subst}
use mathlib.Core.List.{List, [], ◌∷◌}
use Prim.Native.Nat.{ℕ, suc, ◌+◌, ◌*◌, ◌%◌, ◌<◌}
use native.Mathlib.Numerals.{add-one}
use native.Mathlib.Omega.{arith}
use mathlib.Core.Bool.{cond}
use lib.Dec.{leb}
use lib.Arith.{digits_div}
use lib.ListN.{length, length-map}
use Rattle.definitions.specs.declared.Entry.{Entry}
use Rattle.definitions.specs.Lists.{blocks}
use Rattle.definitions.specs.Monomial.{Matrix, entry, col, scale}
use Rattle.definitions.specs.Steps.{lift}
use Rattle.definitions.specs.Table.{line_of}
use Rattle.numbers.proofs.Blocks.{get_d_map, length-table, blocks-below, blocks-stretches, length-even, get_or-even}
use Rattle.numbers.proofs.Sums.{sum-const}
use Rattle.formulas.specs.Formulas.{Source, start, leader, block_to, block_by, induction_at}
use Rattle.level.specs.declared.Listed.{Listed}
use Rattle.level.specs.Stored.{entry_in, line_in, Holds}
use Rattle.level.proofs.Columns.{col-matrix_in, col-scale, stored_at}
use Rattle.lines.specs.Lines.{head_line, block_lines}
use Rattle.survey.specs.declared.Frame.{Frame}
use Rattle.survey.specs.Below.{deg_of, target_of, matrix_of, source_in, LevelStands, Located}
use Rattle.survey.proofs.Level.{located-stored}
use Rattle.orbits.specs.Blocks.{member_of}
use Rattle.orbits.proofs.Blocks.{orbit-degree}
use Rattle.induce.specs.declared.Induction.{Induction}
use Rattle.induce.specs.declared.Cell.{Cell}
use Rattle.induce.specs.Inducing.{cell_words, block_words, induced_words}

module _ (f : Frame) (W : List ℕ) (rows : List (List ℕ)) (i : Induction) (g : ℕ) where
  abbrev S : Source
  S = source_in f W rows

  abbrev r : ℕ
  r = i.leader

  abbrev d : ℕ
  d = deg_of f W r

  abbrev source : ℕ → Matrix
  source b = S.matrix (member_of f W r b) g

  -- block b of the matrix of g
  abbrev piece : ℕ → Matrix
  piece b = lift (block_to S r g b * d) (scale f.m (block_by S r g b) (source b))

  -- column k of it
  abbrev line : ℕ → ℕ → Entry
  line b k =
      let x = entry_in W (matrix_of f W g (member_of f W r b) + k) in
      entry (block_to S r g b * d + x.row) ((x.exp + block_by S r g b) % f.m)

  -- the reference of block b
  abbrev refers : ℕ → ℕ
  refers b = cond (leb g f.top) (member_of f W r b) (start S (leader S (target_of f W g r)))

  module _ (st : LevelStands f W) (l : r < f.reps) where
    source-length : (b : ℕ) → length (source b) ≡ d
    source-length b = length-table _ _ ∙ orbit-degree f W st r b l

    piece-length : (b : ℕ) → length (piece b) ≡ d
    unfolding lift scale
    piece-length b = length-map (scale f.m (block_by S r g b) (source b)) _ ∙ length-map (source b) _ ∙ source-length b

    piece-at : (b k : ℕ) → k < d → col (piece b) k ≡ line b k
    unfolding lift col
    piece-at b k q =
        get_d_map lifted (scale f.m (block_by S r g b) (source b)) k (entry 0 0) (entry 0 0) (subst (λ n. k < n) (sym (scaled ∙ source-length b)) q)
        ∙ ap lifted (col-scale f.m (block_by S r g b) (source b) k (subst (λ n. k < n) (sym (source-length b)) q)
        ∙ ap (λ (x : Entry). entry x.row ((x.exp + block_by S r g b) % f.m)) (col-matrix_in W _ _ k inside))
      where
        inside : k < deg_of f W (member_of f W r b)
        inside = subst (λ n. k < n) (sym (orbit-degree f W st r b l)) q

        lifted : Entry → Entry
        lifted x = entry (block_to S r g b * d + x.row) x.exp

        scaled : length (scale f.m (block_by S r g b) (source b)) ≡ length (source b)
        scaled = unfold scale in (length-map (source b) _)

    column : (b k : ℕ) → b < f.p → k < d → line b k ≡ col ((induction_at S r).matrix g) (b * d + k)
    unfolding induction_at col
    column b k h q = sym (get_or-even piece d (entry 0 0) f.p b k (λ s e. piece-length s) h q ∙ piece-at b k q)

    same_line : (b k : ℕ) → b < f.p → k < d
        → suc f.top ∷ i.number ∷ (f.p * d) ∷ suc g ∷ refers b ∷ (b * d + k) ∷ (line b k).row ∷ (line b k).exp ∷ []
        ≡ line_of (suc f.top) i.number (induction_at S r) g (b * d + k)
    unfolding line_of induction_at
    same_line b k h q =
        ap₂ (λ x (y : Entry). suc f.top ∷ i.number ∷ (f.p * d) ∷ suc g ∷ x ∷ (b * d + k) ∷ y.row ∷ y.exp ∷ [])
        (ap refers (sym (digits_div b q))) (column b k h q)

    pub cell-is : (b t c x : ℕ) → b < f.p → i.deg ≡ d → t ≡ block_to S r g b → c ≡ block_by S r g b → x ≡ refers b
        → cell_words f W i g (record { src = matrix_of f W g (member_of f W r b); from = b; to = t; by = c; refn = x }) ≡ block_words f W rows i g b
    unfolding block_words block_lines head_line
    cell-is b t c x h e is-to is-by is-ref =
        (λ o. block_lines f.m (record { level = add-one f.top o; rep = i.number; deg = f.p * e o; generator = add-one g o; refn = is-ref o })
        (record { src = matrix_of f W g (member_of f W r b); deg = e o; col = b * e o; row = is-to o * e o; by = is-by o }) W)
        ∙ blocks-below d _ _ (λ k q. same_line b k h q)

  pub induced-words : induced_words f W rows i g ≡ blocks f.p (block_words f W rows i g)
  unfolding induced_words block_words
  induced-words =
      let F = line_of (suc f.top) i.number (induction_at S r) g in
      ap (λ n. blocks n F) (sym (sum-const f.p d)) ∙ blocks-stretches (λ b. d) f.p F
      ∙ blocks-below f.p _ _ (λ b h. ap (λ n. blocks d (λ k. F (n + k))) (sum-const b d))

  pub induced-length : i.deg ≡ d → length (induced_words f W rows i g) ≡ f.p * (8 * i.deg)
  unfolding induced_words line_of
  induced-length e =
      length-even (line_of (suc f.top) i.number (induction_at S r) g) 8 (f.p * d) (λ c l. refl) ∙ regroup f.p d ∙ ap (λ n. f.p * (8 * n)) (sym e)
    where
      regroup : (n k : ℕ) → n * k * 8 ≡ n * (8 * k)
      regroup n k = omega arith

pub cell-length : (f : Frame) (W : List ℕ) (i : Induction) (g : ℕ) (q : Cell) → length (cell_words f W i g q) ≡ 8 * i.deg
unfolding block_lines head_line
cell-length f W i g q = length-even _ 8 i.deg (λ c l. refl) ∙ omega arith

pub cell-held : {f : Frame} {W : List ℕ} {q : ℕ} {D : Listed} → Located f W q D → (g src d : ℕ) → g < f.gens → src ≡ line_in D g → D.deg ≡ d
    → Holds f.m W src d
cell-held {f} {W} L g src d l e h = subst (Holds f.m W src) h (stored_at (located-stored L (suc g) l) e)
