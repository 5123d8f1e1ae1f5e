-- Laws of lines that are written.
--
--   head_line-eight             eight words
--   put-eight                  eight stores in a row
--   blocks-one                 one list of a counted family
--   copy-single                the one line of a matrix of degree 1, as it stands
--   copy-block                 lines as they stand are those of a piece that is multiplied by none
--   single-below, block-single the exponent of a piece of degree 1; its one line
use mathlib.Core.Path.{◌≡◌, refl, ap, sym, ◌∙◌, subst}
use Prim.Native.Nat.{ℕ, suc, ◌+◌, ◌%◌, ◌<◌, ◌≤◌}
use native.Mathlib.Nat.{add-zero, zero-add, mod-eq_of_lt}
use native.Mathlib.Omega.{arith}
use mathlib.Core.List.{List, [], ◌∷◌, ◌++◌}
use lib.ListN.{length, set}
use lib.Seq.{sets-eq}
use Rattle.definitions.specs.declared.Entry.{Entry}
use Rattle.definitions.specs.Lists.{blocks}
use Rattle.definitions.specs.Monomial.{entry}
use Rattle.definitions.specs.Table.{EXP, word_at}
use Rattle.numbers.proofs.Blocks.{blocks-zero, blocks-suc, blocks-below}
use Rattle.text.specs.Writing.{put}
use Rattle.level.specs.Stored.{entry_in, Holds}
use Rattle.lines.specs.declared.Head.{Head}
use Rattle.lines.specs.declared.Piece.{Piece}
use Rattle.lines.specs.Lines.{head_line, copy_lines, block_entry, block_lines, Copied}

pub head_line-eight : (h : Head) (k : ℕ) (x : Entry) → length (head_line h k x) ≡ 8
unfolding head_line
head_line-eight h k x = refl

-- eight stores in a row
pub put-eight : (w : List ℕ) (i a b c d e f g h : ℕ) → i + 8 ≤ length w
    → set (set (set (set (set (set (set (set w (i + 0) a) (i + 1) b) (i + 2) c) (i + 3) d) (i + 4) e) (i + 5) f) (i + 6) g) (i + 7) h
    ≡ put w i (a ∷ b ∷ c ∷ d ∷ e ∷ f ∷ g ∷ h ∷ [])
unfolding put
put-eight w i a b c d e f g h l =
    let e0 : i + 0 ≡ i = omega arith in
    let e1 : i + 1 ≡ suc i = omega arith in
    let e2 : i + 2 ≡ suc (suc i) = omega arith in
    let e3 : i + 3 ≡ suc (suc (suc i)) = omega arith in
    let e4 : i + 4 ≡ suc (suc (suc (suc i))) = omega arith in
    let e5 : i + 5 ≡ suc (suc (suc (suc (suc i)))) = omega arith in
    let e6 : i + 6 ≡ suc (suc (suc (suc (suc (suc i))))) = omega arith in
    let e7 : i + 7 ≡ suc (suc (suc (suc (suc (suc (suc i)))))) = omega arith in
    rw (e0, e1, e2, e3, e4, e5, e6, e7) (sets-eq (a ∷ b ∷ c ∷ d ∷ e ∷ f ∷ g ∷ h ∷ []) w i l)

blocks-one : {n : ℕ} (f : ℕ → List ℕ) → n ≡ 1 → blocks n f ≡ f 0
blocks-one f e = ap (λ n. blocks n f) e ∙ blocks-suc 0 f ∙ ap (λ t. t ++ f 0) (blocks-zero f)

-- ---- Lines as they stand

pub copy-single : (h : Head) (src : ℕ) (W : List ℕ) → h.deg ≡ 1 → head_line h 0 (entry_in W src) ≡ copy_lines h src W
unfolding copy_lines
copy-single h src W one = sym (blocks-one (λ k. head_line h k (entry_in W (src + k))) one ∙ ap (λ l. head_line h 0 (entry_in W l)) (add-zero src))

pub copy-block : (m : ℕ) (h : Head) (src : ℕ) (W : List ℕ) → Holds m W src h.deg
    → copy_lines h src W ≡ block_lines m h (record { src = src; deg = h.deg; col = 0; row = 0; by = 0 }) W
unfolding copy_lines block_lines
copy-block m h src W H =
    sym (blocks-below h.deg _ _ (λ k l. λ o. head_line h (zero-add k o) (entry (zero-add (entry_in W (src + k)).row o) (exponent k l o))))
  where
    exponent : (k : ℕ) → k < h.deg → ((entry_in W (src + k)).exp + 0) % m ≡ (entry_in W (src + k)).exp
    exponent k l = ap (λ t. t % m) (add-zero _) ∙ mod-eq_of_lt (H.valid k l).exp

-- ---- Degree 1

pub single-below : {m : ℕ} {W : List ℕ} {b : Piece} → Copied m W b → b.deg ≡ 1 → word_at W b.src EXP < m
single-below {m} {W} {b} C one =
    let s : b.src + 0 ≡ b.src = omega arith in
    subst (λ l. word_at W l EXP < m) s (C.holds.valid 0 (omega arith)).exp

pub block-single : (m : ℕ) (h : Head) (b : Piece) (W : List ℕ) (e : ℕ) → Copied m W b → b.deg ≡ 1 → e ≡ (word_at W b.src EXP + b.by) % m
    → head_line h b.col (entry b.row e) ≡ block_lines m h b W
unfolding block_lines
block-single m h b W e C one q =
    sym (blocks-one (λ k. head_line h (b.col + k) (block_entry m b W k)) one ∙ (λ o. head_line h (column o) (entry (row o) (exponent o))))
  where
    column : b.col + 0 ≡ b.col
    column = omega arith

    row : b.row + (entry_in W (b.src + 0)).row ≡ b.row
    row = omega (arith, (C.holds.valid 0 (omega arith)).row)

    exponent : ((entry_in W (b.src + 0)).exp + b.by) % m ≡ e
    exponent = let s : b.src + 0 ≡ b.src = omega arith in ap (λ t. (word_at W t EXP + b.by) % m) s ∙ sym q
