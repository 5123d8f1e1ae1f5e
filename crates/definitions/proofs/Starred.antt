-- Rows over the definitions, in one table, and one lemma that covers them together: the starred groups of the specification
-- ("Starred and edge groups", and the examples of its refusal table), and for single clauses of the definitions a
-- presentation or a table that shows them. The definitions compute each row.
--
--   Star, holds                a row, and what it claims
--   groups, presentations, tables, checks      the rows
--   starred, every             all of them; a list of which each holds
--   starred-hold               every row holds, and the example of 15 is not consistent
use mathlib.Core.Path.{◌≡◌, refl, ap}
use Prim.Native.Nat.{ℕ, zero, suc, ◌*◌}
use Prim.Native.String.{String}
use mathlib.Core.Bool.{Bool, true, false, ◌&&◌, not, cond}
use mathlib.Core.List.{List, [], ◌∷◌, ◌++◌, map, zip_with, flat_map}
use lib.ListN.{take}
use lib.Dec.{eqb}
use lib.IntN.{ℤ, pos, negsuc}
use native.Mathlib.Omega.{arith}
use Rattle.definitions.specs.Lists.{upto, blocks, sum, all_below, any_below, all, any, least, least_from, iter, same}
use Rattle.definitions.specs.Text.{largest, digits, decimal, spaced, line, value_line, render, small}
use Rattle.definitions.specs.Presentation.{line_words, to_nf, trivial, Presentation, order, build_words, power, value, Relations}
use Rattle.definitions.specs.Presentation.{pairs_of, pairs, pair_number, presentation_names, text_of, well_formed, row_of, presentation, is_prime, some_not_prime}
use Rattle.definitions.specs.Presentation.{too_large, allowed, row_well, misused}
use Rattle.definitions.specs.Consistency.{gen, inv, word, forth, back, power_relation, commutator_relation, gen_inv, Chain, done, link, Consistent, carry}
use Rattle.definitions.specs.Consistency.{mul_step, conj_step, arithmetic_step, arithmetic, generator, same_form, keeps_powers, keeps_commutators, fixes_power}
use Rattle.definitions.specs.Consistency.{power_is_inner, level_test, test}
use Rattle.definitions.specs.Monomial.{Matrix, col, identity, less, act, product, scale, inverse, signed_power, valid, same_entry, same_matrix, Rep}
use Rattle.definitions.specs.Monomial.{rep_of, image, conjugate}
use Rattle.definitions.specs.Table.{line_of, rep_words, level_words, word_at, line_count, begins, degrees, columns, first_line, rep_at, level_zero, level_at}
use Rattle.definitions.specs.Table.{complete, table_names, rows_of, table_text, writable}
use Rattle.definitions.specs.Steps.{lift, fixed, orbit, leader, position, made, start, s, extended, l, a, extension, along, last_block, block_diagonal}
use Rattle.definitions.specs.Steps.{block_cycle, block_intertwiner, left_side, right_side, next_block, block_after, scalar_after, c, induction, given_by}
use Rattle.definitions.specs.Steps.{next_level, levels, table_with, table_of, top_degrees_one}
use Rattle.definitions.specs.Judgement.{all_forms, cuts_from, cuts, whole_block, everywhere, every_level, matrices_valid, blocks_whole, targets_listed}
use Rattle.definitions.specs.Judgement.{malformed, power_holds, commutator_holds, relations_hold, relation_fails, block_restricts, restricts, restriction_fails}
use Rattle.definitions.specs.Judgement.{intertwines, intertwiners_hold, intertwiner_fails, reaches, tells, separates, not_separated, squares, squares_fail}
use Rattle.definitions.specs.Answers.{first_of, relation_tests, judgement, newlines, over}
use Rattle.definitions.specs.Programs.{answer_names, answer_text}
use Rattle.definitions.proofs.Groups.{equal, bytes, numbers_from, words, row, word_in, relations, table, change, s3-line, s3-with, s3, v4, c4, q8}
use Rattle.definitions.proofs.Groups.{c2-cubed, s3-c2, dense12, dense20, dense54, long-carry, twisted, twisted-table, rooted, rooted-table, affine}
use Rattle.definitions.proofs.Groups.{affine-table, linked, linked-table, wide-s3, swapped-c4, unequal-c2-cubed, diagonal-v4, exchanging-v4, doubled-v4}
use Rattle.definitions.proofs.Groups.{cut-v4, short-block, mixed-block, shifted}

-- ---- Rows

pub data Star : Type 0 where
  -- of 12, 13, 14 and 15 (by the known test) the first that applies to the relations is the number
  answers : Relations → ℕ → Star
  -- and the text says the relations
  reads : Relations → String → ℕ → Star
  -- the build wants so many words
  wants : Relations → ℕ → Star
  -- the text of the built table
  builds : Relations → List String → Star
  -- the words of the built table
  tabulates : Relations → List String → Star
  -- whether the words can be written as table text
  writes : List ℕ → Bool → Star
  -- how many line ends a text has
  has_newlines : String → ℕ → Star
  -- a buffer, words that are written at its start, and the buffer afterwards
  overwrites : (before s after : List ℕ) → Star
  -- the built degrees of level i
  has_degrees : Relations → (i : ℕ) → List ℕ → Star
  -- whether all built degrees of the top level are 1
  commutes : Relations → Bool → Star
  -- generator g (from 1) in representation r of the built level i: row and exponent, column by column
  has_matrix : Relations → (i r g : ℕ) → List ℕ → Star
  -- and its power with a signed exponent
  has_power : Relations → (i r g : ℕ) → ℤ → List ℕ → Star
  -- the text of an answer
  prints : ℕ → String → Star
  -- the check's number for a table
  judged : Relations → List ℕ → ℕ → Star

unfoldable pub flat : Matrix → List ℕ
flat [] = []
flat (x ∷ M) = x.row ∷ x.exp ∷ flat M

unfoldable pub built : Relations → ℕ → List Rep
built R i = levels (presentation R) (order (presentation R) R.n) i

unfoldable pub refusal : Relations → ℕ
refusal R = first_of (map (λ (q : ℕ × (Relations → Bool)). (q.0, q.1 R)) relation_tests ++ ((15, not (test (presentation R))) ∷ []))

unfoldable pub holds : Star → Bool
holds (answers R a) = well_formed R && eqb (refusal R) a
holds (reads R t a) = equal (text_of R) (bytes t) && well_formed R && eqb (refusal R) a
holds (wants R k) = eqb (build_words (presentation R)) k
holds (builds R texts) = writable (table R) && equal (table_text (table R)) (flat_map bytes texts)
holds (tabulates R texts) = equal (table R) (words texts)
holds (writes T b) = cond b (writable T) (not (writable T))
holds (has_newlines t k) = eqb (newlines (bytes t)) k
holds (overwrites before s after) = equal (over before s) after
holds (has_degrees R i ds) = equal (map (λ (D : Rep). D.deg) (built R i)) ds
holds (commutes R b) = cond b (top_degrees_one (presentation R)) (not (top_degrees_one (presentation R)))
holds (has_matrix R i r zero xs) = false
holds (has_matrix R i r (suc g) xs) = equal (flat ((rep_of (built R i) r).matrix g)) xs
holds (has_power R i r zero k xs) = false
holds (has_power R i r (suc g) k xs) =
    let D = rep_of (built R i) r in
    equal (flat (signed_power (order (presentation R) R.n) D.deg (D.matrix g) k)) xs
holds (prints a t) = equal (answer_text a) (bytes t)
holds (judged R T a) = eqb (judgement (presentation R) (order (presentation R) R.n) T) a

-- the starred groups, and the examples of the refusal table
unfoldable pub groups : List Star
groups =
    reads s3 "j i p e1 e2\n1 1 3 0 0\n2 2 2 0 0\n2 1 0 1 0\n" 0
    ∷ builds s3
    ("level rep deg gen ref col row exp\n1 0 1 1 0 0 0 0\n1 0 1 2 0 0 0 0\n1 1 1 1 0 0 0 2\n1 1 1 2 2 0 0 0\n1 2 1 1 0 0 0 4\n"
    ∷ "1 2 1 2 1 0 0 0\n2 0 1 1 0 0 0 0\n2 0 1 2 0 0 0 0\n2 1 1 1 0 0 0 0\n2 1 1 2 0 0 0 3\n2 2 2 1 1 0 0 2\n2 2 2 1 2 1 1 4\n"
    ∷ "2 2 2 2 1 0 1 0\n2 2 2 2 2 1 0 0\n"
    ∷ [])
    ∷ commutes s3 false
    ∷ judged s3 (table s3) 0
    ∷ judged s3 (change 12 7 1 (change 13 7 5 (table s3))) 0
    ∷ reads (relations (4 ∷ []) []) "j i p e1\n1 1 4 0\n" 12
    ∷ reads (relations (4099 ∷ []) []) "j i p e1\n1 1 4099 0\n" 0
    ∷ reads (relations (16411 ∷ []) []) "j i p e1\n1 1 16411 0\n" 13
    ∷ reads (relations (3 ∷ []) ((1, 1, 1 ∷ []) ∷ [])) "j i p e1\n1 1 3 1\n" 14
    ∷ reads (s3-with 2) "j i p e1 e2\n1 1 3 0 0\n2 2 2 0 0\n2 1 0 2 0\n" 15
    ∷ prints 15 "answer\n15\n"
    ∷ judged s3 [] 21
    ∷ judged s3 (change 13 7 1 (table s3)) 22
    ∷ judged s3 (change 10 7 4 (change 11 7 2 (table s3))) 23
    ∷ judged s3 (change 3 4 1 (table s3)) 24
    ∷ judged s3 (change 9 7 0 (table s3)) 25
    ∷ judged s3 (take (line_words * 10) (table s3)) 26
    ∷ reads c4 "j i p e1 e2\n1 1 2 0 0\n2 2 2 1 0\n2 1 0 0 0\n" 0
    ∷ commutes c4 true
    ∷ has_matrix c4 2 0 1 (0 ∷ 0 ∷ [])
    ∷ has_matrix c4 2 0 2 (0 ∷ 0 ∷ [])
    ∷ has_matrix c4 2 1 1 (0 ∷ 0 ∷ [])
    ∷ has_matrix c4 2 1 2 (0 ∷ 2 ∷ [])
    ∷ has_matrix c4 2 2 1 (0 ∷ 2 ∷ [])
    ∷ has_matrix c4 2 2 2 (0 ∷ 1 ∷ [])
    ∷ has_matrix c4 2 3 1 (0 ∷ 2 ∷ [])
    ∷ has_matrix c4 2 3 2 (0 ∷ 3 ∷ [])
    ∷ reads q8 "j i p e1 e2 e3\n1 1 2 0 0 0\n2 2 2 1 0 0\n2 1 0 0 0 0\n3 3 2 1 0 0\n3 1 0 0 0 0\n3 2 0 1 0 0\n" 0
    ∷ has_degrees q8 3 (1 ∷ 1 ∷ 1 ∷ 1 ∷ 2 ∷ [])
    ∷ commutes q8 false
    ∷ has_matrix q8 3 4 1 (0 ∷ 4 ∷ 1 ∷ 4 ∷ [])
    ∷ has_matrix q8 3 4 2 (0 ∷ 2 ∷ 1 ∷ 6 ∷ [])
    ∷ has_matrix q8 3 4 3 (1 ∷ 0 ∷ 0 ∷ 4 ∷ [])
    ∷ has_power q8 3 4 3 (pos 2) (0 ∷ 4 ∷ 1 ∷ 4 ∷ [])
    ∷ has_power q8 3 4 3 (negsuc 0) (1 ∷ 4 ∷ 0 ∷ 0 ∷ [])
    ∷ has_power q8 3 4 3 (negsuc 2) (1 ∷ 0 ∷ 0 ∷ 4 ∷ [])
    ∷ reads (relations (2 ∷ []) []) "j i p e1\n1 1 2 0\n" 0
    ∷ wants (relations (2 ∷ []) []) 16
    ∷ commutes (relations (2 ∷ []) []) true
    ∷ reads dense12 "j i p e1 e2 e3\n1 1 3 0 0 0\n2 2 2 0 0 0\n2 1 0 1 0 0\n3 3 2 0 0 0\n3 1 0 1 0 0\n3 2 0 2 0 0\n" 0
    ∷ judged dense12 (table dense12) 0
    ∷ has_matrix dense12 3 5 3 (1 ∷ 10 ∷ 0 ∷ 2 ∷ [])
    ∷ reads dense20 "j i p e1 e2 e3\n1 1 5 0 0 0\n2 2 2 0 0 0\n2 1 0 3 0 0\n3 3 2 3 1 0\n3 1 0 2 0 0\n3 2 0 4 0 0\n" 0
    ∷ has_matrix dense20 3 4 3 (3 ∷ 0 ∷ 2 ∷ 4 ∷ 0 ∷ 4 ∷ 1 ∷ 12 ∷ [])
    ∷ has_power dense20 3 4 3 (pos 0) (0 ∷ 0 ∷ 1 ∷ 0 ∷ 2 ∷ 0 ∷ 3 ∷ 0 ∷ [])
    ∷ has_power dense20 3 4 3 (pos 3) (2 ∷ 16 ∷ 3 ∷ 8 ∷ 1 ∷ 16 ∷ 0 ∷ 0 ∷ [])
    ∷ has_power dense20 3 4 3 (negsuc 1) (1 ∷ 12 ∷ 0 ∷ 8 ∷ 3 ∷ 4 ∷ 2 ∷ 16 ∷ [])
    ∷ has_matrix dense54 3 9 4 (0 ∷ 0 ∷ 2 ∷ 36 ∷ 1 ∷ 18 ∷ [])
    ∷ []

-- clauses of refusals 12 to 15, and of the size of a build
unfoldable pub presentations : List Star
presentations =
    wants s3 144
    ∷ answers (relations (1 ∷ []) []) 12
    ∷ answers (relations (2 ∷ 2 ∷ 2 ∷ 2 ∷ 2 ∷ 2 ∷ 2 ∷ 2 ∷ 2 ∷ 2 ∷ 2 ∷ 2 ∷ 2 ∷ 2 ∷ []) []) 0
    ∷ answers (relations (2 ∷ 2 ∷ 2 ∷ 2 ∷ 2 ∷ 2 ∷ 2 ∷ 2 ∷ 2 ∷ 2 ∷ 2 ∷ 2 ∷ 2 ∷ 2 ∷ 2 ∷ []) []) 13
    ∷ answers (relations (127 ∷ 127 ∷ []) []) 0
    ∷ answers (relations (131 ∷ 131 ∷ []) []) 13
    ∷ answers (relations (5 ∷ 29 ∷ 113 ∷ []) []) 13
    ∷ answers (s3-line (row 2 (1 ∷ 0 ∷ []))) 14
    ∷ answers (s3-with 3) 14
    ∷ answers (s3-line (row 0 (0 ∷ 1 ∷ []))) 14
    ∷ answers (relations (3 ∷ 2 ∷ 2 ∷ []) ((2, 2, 1 ∷ []) ∷ (3, 3, 0 ∷ 1 ∷ []) ∷ (3, 1, 1 ∷ []) ∷ [])) 15
    ∷ answers (relations (3 ∷ 2 ∷ 2 ∷ 2 ∷ []) ((2, 1, 1 ∷ []) ∷ (4, 3, 0 ∷ 1 ∷ []) ∷ [])) 15
    ∷ answers (relations (3 ∷ 2 ∷ []) ((2, 1, 1 ∷ []) ∷ (2, 2, 1 ∷ []) ∷ [])) 15
    ∷ answers (relations (3 ∷ 2 ∷ 2 ∷ 2 ∷ []) ((2, 1, 1 ∷ []) ∷ (4, 4, 2 ∷ []) ∷ (4, 2, 2 ∷ []) ∷ [])) 0
    ∷ answers long-carry 0
    ∷ []

-- clauses of the steps, of what can be written, of the words that a table text needs, and of what a call leaves in a buffer
unfoldable pub tables : List Star
tables =
    tabulates twisted twisted-table
    ∷ tabulates rooted rooted-table
    ∷ tabulates affine affine-table
    ∷ tabulates linked linked-table
    ∷ writes (words ("1 2 3 4 5 6 7 999999999" ∷ [])) true
    ∷ writes (words ("1 2 3 4 5 6 7 1000000000" ∷ [])) false
    ∷ writes (words ("1 2 3 4 5 6 7" ∷ [])) false
    ∷ has_newlines "" 0
    ∷ has_newlines "level rep deg gen ref col row exp\n1 0 1 1 0 0 0 0\n" 2
    ∷ has_newlines "\n\n1 0" 2
    ∷ overwrites (words ("9 8 7 6 5" ∷ [])) (words ("1 2" ∷ [])) (words ("1 2 7 6 5" ∷ []))
    ∷ overwrites (words ("9 8" ∷ [])) [] (words ("9 8" ∷ []))
    ∷ overwrites (words ("9" ∷ [])) (words ("1 2" ∷ [])) (words ("1 2" ∷ []))
    ∷ []

-- clauses of refusals 21 to 26
unfoldable pub checks : List Star
checks =
    judged s3 (take (line_words * 6) (table s3)) 21
    ∷ judged s3 (change 1 5 1 (table s3)) 21
    ∷ judged s3 (table s3 ++ words ("3 0 1 1 0 0 0 0" ∷ [])) 21
    ∷ judged v4 (words cut-v4) 21
    ∷ judged s3 (change 13 7 6 (table s3)) 21
    ∷ judged s3 (change 12 6 0 (table s3)) 21
    ∷ judged s3-c2 (table s3-c2 ++ words short-block) 21
    ∷ judged s3-c2 (table s3-c2 ++ words mixed-block) 21
    ∷ judged s3 (change 8 4 3 (change 9 4 3 (table s3))) 21
    ∷ judged s3 (change 1 4 3 (table s3)) 21
    ∷ judged s3 (words wide-s3) 21
    ∷ judged s3 (change 12 4 2 (change 13 4 1 (table s3))) 21
    ∷ judged s3-c2 (change 20 4 0 (table s3-c2)) 21
    ∷ judged c4 (words swapped-c4) 22
    ∷ judged s3 (change 12 6 0 (change 13 6 1 (table s3))) 22
    ∷ judged c2-cubed (words unequal-c2-cubed) 24
    ∷ judged v4 (words diagonal-v4) 25
    ∷ judged v4 (words exchanging-v4) 25
    ∷ judged s3 (table s3 ++ words shifted) 25
    ∷ judged v4 (words doubled-v4) 25
    ∷ []

unfoldable pub starred : List Star
starred = groups ++ presentations ++ tables ++ checks

unfoldable pub every : List Star → Bool
every [] = true
every (x ∷ xs) = cond (holds x) (every xs) false

-- ---- The example of 15

module _ where
  abbrev P : Presentation
  P = presentation (s3-with 2)

  -- g1 = g2 (g2⁻¹ g1 g2) g2⁻¹ = g2 g1 (g1⁻¹ g2⁻¹ g1 g2) g2⁻¹ = g2 g1 g1² g2⁻¹ = g2 g2⁻¹ = 1
  joined : Chain P (gen 0 ∷ []) []
  unfolding presentation row_of pair_number sum word to_nf
  joined =
      link _ _ _ (back [] (gen 0 ∷ []) _ _ (gen_inv 1 (omega arith)))
      (link _ _ _ (back (gen 1 ∷ inv 1 ∷ gen 0 ∷ []) [] _ _ (gen_inv 1 (omega arith)))
      (link _ _ _ (back (gen 1 ∷ []) (inv 1 ∷ gen 0 ∷ gen 1 ∷ inv 1 ∷ []) _ _ (gen_inv 0 (omega arith)))
      (link _ _ _ (forth (gen 1 ∷ gen 0 ∷ []) (inv 1 ∷ []) _ _ (commutator_relation 0 1 (omega arith) (omega arith)))
      (link _ _ _ (forth (gen 1 ∷ []) (inv 1 ∷ []) _ _ (power_relation 0 (omega arith)))
      (link _ _ _ (forth [] [] _ _ (gen_inv 1 (omega arith)))
      (done _))))))

  not-consistent : ¬ Consistent P
  unfolding Consistent presentation row_of pair_number sum word
  not-consistent K =
      let e = K (0, (1, tt)) (0, (0, tt)) (omega arith, (omega arith, tt)) (omega arith, (omega arith, tt)) joined in
      let z : ◌≡◌ {A = ℕ} 1 0 = ap (λ x. x.1.0) e in
      absurd (omega (arith, z))

-- ---- The lemma

pub starred-hold : (every starred ≡ true) × (¬ Consistent (presentation (s3-with 2)))
unfolding starred every groups presentations tables checks holds refusal flat built equal bytes numbers_from words word_in relations table change twisted-table
    rooted-table affine-table linked-table wide-s3 swapped-c4 unequal-c2-cubed diagonal-v4 exchanging-v4 doubled-v4 cut-v4 short-block mixed-block
    shifted line_words largest digits decimal spaced line value_line render small zip_with flat_map text_of well_formed
    presentation_names pairs pairs_of is_prime some_not_prime too_large allowed row_well misused build_words presentation row_of pair_number to_nf power
    value trivial order carry mul_step conj_step arithmetic_step arithmetic generator same_form keeps_powers keeps_commutators fixes_power power_is_inner
    level_test test upto blocks sum all_below any_below all any least least_from iter same identity col less act product scale inverse signed_power valid
    same_entry same_matrix rep_of image conjugate line_of rep_words level_words level_zero word_at line_count begins degrees columns first_line rep_at
    level_at complete table_names rows_of table_text writable lift fixed orbit leader position made start s extended l a extension along last_block
    block_diagonal block_cycle block_intertwiner left_side right_side next_block block_after scalar_after c induction given_by next_level levels table_with
    table_of top_degrees_one all_forms cuts_from cuts whole_block everywhere every_level matrices_valid blocks_whole targets_listed malformed power_holds commutator_holds
    relations_hold relation_fails block_restricts restricts restriction_fails intertwines intertwiners_hold intertwiner_fails reaches tells separates
    not_separated squares squares_fail first_of judgement newlines over answer_names answer_text
starred-hold = (refl, not-consistent)
