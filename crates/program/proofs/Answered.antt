-- The text of an answer, written piece by piece.
--
--   answer-is            the name's line, the number, and the end of its line
--   number_short         a number of 32 bits has at most ten digits
--   answered             the three pieces written are the text
use mathlib.Core.Path.{◌≡◌, sym, ap, ap₂, ◌∙◌}
use mathlib.Core.List.{List, [], ◌∷◌, ◌++◌, flat_map, append_assoc, append-nil}
use Prim.Native.Nat.{ℕ, ◌+◌, ◌<◌, ◌≤◌}
use native.Mathlib.Omega.{arith}
use lib.ListN.{length, take, drop}
use lib.Seq.{take_at}
use Rattle.io.specs.Counts.{IsPrefixLen}
use Rattle.io.proofs.Counting.{prefix_len_of_le}
use Rattle.definitions.specs.Text.{Bytes, decimal, spaced, line, value_line, render}
use Rattle.definitions.specs.Programs.{answer_names, answer_text}
use Rattle.definitions.proofs.Rendering.{decimal-length}
use Rattle.text.specs.Writing.{put, Wrote}
use Rattle.text.proofs.Writing.{wrote-more, wrote_as, wrote-length}

-- answer, and the end of the line
abbrev name_line : Bytes
name_line = 97 ∷ 110 ∷ 115 ∷ 119 ∷ 101 ∷ 114 ∷ 10 ∷ []

answer-is : (v : ℕ) → answer_text v ≡ name_line ++ decimal v ++ (10 ∷ [])
unfolding answer_text answer_names render line spaced value_line flat_map
answer-is v = ap (λ (s : Bytes). name_line ++ s) (append-nil (decimal v ++ (10 ∷ []))) ∙ sym (append_assoc name_line (decimal v) (10 ∷ []))

pub number_short : (v : ℕ) → v < 4294967296 → length (decimal v) ≤ 10
number_short v l = (decimal-length 9 v).1 (omega arith)

-- what stands at the start of a buffer
written-front : {b s c : List ℕ} {next : ℕ} → Wrote b 0 s c next → take next c ≡ s
unfolding put
written-front {b} {s} {c} {next} w = ap₂ take w.end w.content ∙ take_at s (drop (0 + length s) b) (0 + length s) (omega arith)

pub answered : {out a b c : Bytes} {i j r : ℕ} (v : ℕ) → Wrote out 0 name_line a i → Wrote a i (decimal v) b j → Wrote b j (10 ∷ []) c r
    → (take r c ≡ answer_text v) × IsPrefixLen r c
answered v x y z =
    let w = wrote_as (wrote-more (wrote-more x y) z) (sym (answer-is v)) in
    (written-front w, prefix_len_of_le _ _ (omega (arith, w.end, w.room, wrote-length w)))
