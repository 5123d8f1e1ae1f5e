-- Laws of the two sides of an intertwiner's equation at a block.
--
--   plus-zero                  adding 0 to an exponent below the modulus
--   cycle-within, cycle-last   a step of the generator on top within the orbit, and at its end
--   conjugate-is, left_is, right_is      with the constant of the orbit and the word of the two generators they are the formulas
--   next_is                    the scalar of the next block
use mathlib.Core.Path.{◌≡◌, refl, ap, ap₂, sym, ◌∙◌}
use mathlib.Core.List.{List, []}
use Prim.Native.Nat.{ℕ, suc, ◌+◌, ◌%◌, ◌<◌, ◌≤◌}
use native.Mathlib.Omega.{arith}
use native.Mathlib.Nat.{add-zero, mod-eq_of_lt}
use native.Mathlib.Numerals.{add-one}
use mathlib.Core.Bool.{cond}
use lib.Dec.{ltb}
use lib.ListN.{get_or}
use Rattle.definitions.specs.declared.Entry.{Entry}
use Rattle.definitions.specs.Presentation.{to_nf, pair_number}
use Rattle.definitions.specs.Monomial.{entry, less, act}
use Rattle.numbers.proofs.Bools.{cond-lt, cond-ge}
use Rattle.formulas.specs.Formulas.{Source, Moved, plus, shift, cycle_entry, conjugate_entry, left_at, right_at}
use Rattle.survey.specs.declared.Frame.{Frame}
use Rattle.survey.specs.declared.Note.{Note}
use Rattle.survey.specs.Notes.{shifts}
use Rattle.survey.specs.Below.{target_of, source_in, leader_in, position_in}
use Rattle.survey.proofs.Marking.{orbit-inside, lead-below, lead-lead}
use Rattle.orbits.specs.declared.Block.{Block}
use Rattle.orbits.specs.declared.BlockEntry.{BlockEntry}
use Rattle.orbits.specs.declared.BlockScalar.{BlockScalar}
use Rattle.orbits.specs.Blocks.{member_of, matrix_at, Inducing}
use Rattle.orbits.specs.Sides.{moved_of, EntryIs, cycle_in, conjugate_in, left_in, constant_in, right_in, NextScalar}

plus-zero : (m : ℕ) (x : Entry) → x.exp < m → x ≡ plus m 0 x
unfolding plus
plus-zero m x h = sym (ap (λ e. entry x.row (e % m)) (add-zero x.exp) ∙ ap (entry x.row) (mod-eq_of_lt h))

-- ---- The generator on top

module _ (f : Frame) (W : List ℕ) (c r : ℕ) (s : BlockEntry) (y : Entry) (e : y ≡ act f.m (matrix_at f W (member_of f W r s.block) f.top) s.x) where
  pub cycle-within : suc s.block < f.p → y.exp < f.m → moved_of (record { block = s.block + 1; x = y }) ≡ cycle_in f W c r (moved_of s)
  unfolding cycle_in
  cycle-within h l =
      let b = suc s.block in
      let at_block = add-one s.block ∙ sym (cond-lt b f.p b 0 h) in
      let at_entry_lem = plus-zero f.m y l ∙ ap₂ (plus f.m) (sym (cond-lt b f.p 0 c h)) e in
      λ o. record { block = at_block o; at = at_entry_lem o }

  pub cycle-last : (n : ℕ) → f.p ≤ suc s.block → n ≡ (y.exp + c) % f.m
      → moved_of (record { block = 0; x = entry y.row n }) ≡ cycle_in f W c r (moved_of s)
  unfolding cycle_in plus
  cycle-last n h q =
      let b = suc s.block in
      let at_block = sym (cond-ge b f.p b 0 h) in
      let at_entry_lem = ap (entry y.row) q ∙ ap₂ (plus f.m) (sym (cond-ge b f.p 0 c h)) e in
      λ o. record { block = at_block o; at = at_entry_lem o }

-- ---- The formulas

module _ (f : Frame) (W : List ℕ) (rows : List (List ℕ)) (j r : ℕ) where
  abbrev S : Source
  S = source_in f W rows

  conjugate-is : (b : ℕ) → conjugate_in f W (shift S r) (get_or rows (pair_number j f.top) []) r b ≡ conjugate_entry S j r b
  unfolding conjugate_in cycle_in conjugate_entry cycle_entry to_nf
  conjugate-is b = refl

  left_is : (b : ℕ) → left_in f W j r (conjugate_entry S j r b) ≡ left_at S j r b
  unfolding left_in left_at
  left_is b = refl

  module _ {notes : List Note} {blocks : List Block} (I : Inducing f W rows notes blocks r) (above : f.top < j) (inside : j < f.gens) where
    right_is : (b : ℕ) → right_in f W notes j r b ≡ right_at S j r b
    unfolding right_in right_at constant_in
    right_is b =
        let Y = I.surveyed in
        let st = Y.sound.stands in
        let t = member_of f W r b in
        let q = target_of f W j t in
        let l : q < f.reps = (st.target t (orbit-inside f W st r b I.leads.listed) j (omega (arith, above)) inside).0 in
        let lead : leader_in f W q < f.reps = omega (arith, l, lead-below f W st q l) in
        let x = act f.m (matrix_at f W q f.top) (act f.m (matrix_at f W t j) (entry 0 0)) in
        let at : ℕ → ℕ → ℕ = λ a n. (plus f.m (cond (ltb (suc a) f.p) 0 n) x).exp in
        ap₂ (λ a n. at a (get_or (shifts notes) n 0)) (Y.orbited.places_are.at q l) (Y.orbited.leaders_are.at q l)
        ∙ ap (at (position_in f W q)) (Y.shifts_are.at (leader_in f W q) lead (lead-lead f W st q l))

    pub next_is : (s : BlockScalar) (c : ℕ) (v : List ℕ) (t : BlockEntry) (l y e : ℕ) → c ≡ get_or (shifts notes) r 0 → v ≡ get_or rows (pair_number j f.top) []
        → EntryIs f W r (conjugate_in f W c v r s.block) t → l ≡ left_in f W j r (moved_of t) → y ≡ right_in f W notes j r s.block
        → e ≡ less f.m ((s.exp + y) % f.m) l → e < f.m → NextScalar f W rows j r s (record { block = t.block; exp = e })
    next_is s c v t l y e is_c is-v H is-l is_y is-e below =
        let b = s.block in
        let closes = is_c ∙ I.surveyed.shifts_are.at r I.leads.listed I.leads.led in
        let k : moved_of t ≡ conjugate_entry S j r b = H.is ∙ ap₂ (λ c v. conjugate_in f W c v r b) closes is-v ∙ conjugate-is b in
        record {
          block_is = ap (λ (x : Moved). x.block) k;
          scalar_is = is-e ∙ ap₂ (λ y l. less f.m ((s.exp + y) % f.m) l) (is_y ∙ right_is b) (is-l ∙ ap (left_in f W j r) k ∙ left_is b);
          block_below = H.lies.block_below;
          scalar_below = below;
        }
