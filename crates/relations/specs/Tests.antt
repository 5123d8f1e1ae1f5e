-- The tests of the judgement, of a representation that stands in lines.
--
--   carries P m D F k j                        the intertwiner of generator j carries generator k from D to F
--   Conjugated m T D k w c x                   column c of D ends at x, moved by the conjugate of generator k of word w
--   power_at_in, commutator_at_in, carries_at_in     a relation at a column
--   power_in, commutator_in, carries_in           a relation
--   top_in, relations_in                         those of a generator with the ones below it, and of all up to a level
--   all_carried_in, intertwines_in                an intertwiner: the generators that it carries over, and its degree
--   targeted_in, intertwiners_in                 what is asked of each generator, and of all
use Rattle.std.specs.Prelude.{◌≡◌, Bool, ◌||◌, List, ℕ, suc, ltb}
use Rattle.definitions.specs.declared.Entry.{Entry}
use Rattle.definitions.specs.Lists.{all_below}
use Rattle.definitions.specs.Presentation.{Presentation}
use Rattle.definitions.specs.Monomial.{product, same_matrix, Rep, conjugate}
use Rattle.definitions.specs.Judgement.{power_holds, commutator_holds, relations_hold, intertwines, intertwiners_hold}
use Rattle.separation.specs.Relations.{top_relations}
use Rattle.columns.specs.Columns.{power_at, conjugate_at, commutator_at, intertwines_at}
use Rattle.level.specs.declared.Listed.{Listed}
use Rattle.level.specs.Stored.{Below}
use Rattle.seek.specs.declared.Scope.{Scope}
use Rattle.seek.specs.Among.{rep_in}
use Rattle.relations.specs.Said.{WordOf}

-- X D(j⁻¹ k j) = F(k) X
unfoldable pub carries : Presentation → ℕ → (D F : Rep) → (k j : ℕ) → Bool
carries P m D F k j = same_matrix m (product m (D.matrix j) (conjugate m P D k j)) (product m (F.matrix k) (D.matrix j))

pub record Conjugated (m : ℕ) (T : List ℕ) (D : Listed) (k : ℕ) (w : List ℕ) (c : ℕ) (x : Entry) : Type 0 where
  pub below : Below m D.deg x
  pub is : (P : Presentation) (j : ℕ) → WordOf k j w P → x ≡ conjugate_at P m (rep_in T D) k j c

module _ (s : Scope) (T : List ℕ) (D : Listed) where
  -- ---- Columns

  abbrev pub power_at_in : (j c : ℕ) → Presentation → Bool
  power_at_in j c P = power_at P s.m (rep_in T D) j c

  abbrev pub commutator_at_in : (k j c : ℕ) → Presentation → Bool
  commutator_at_in k j c P = commutator_at P s.m (rep_in T D) k j c

  abbrev pub carries_at_in : Listed → (k j c : ℕ) → Presentation → Bool
  carries_at_in E k j c P = intertwines_at P s.m (rep_in T D) (rep_in T E) k j c

  -- ---- Relations

  abbrev pub power_in : ℕ → Presentation → Bool
  power_in j P = power_holds P s.m T (rep_in T D) j

  abbrev pub commutator_in : (k j : ℕ) → Presentation → Bool
  commutator_in k j P = commutator_holds P s.m T (rep_in T D) k j

  abbrev pub top_in : ℕ → Presentation → Bool
  top_in j P = top_relations P s.m T (suc j) (rep_in T D)

  abbrev pub relations_in : ℕ → Presentation → Bool
  relations_in i P = relations_hold P s.m T i (rep_in T D)

  -- ---- Intertwiners

  abbrev pub carries_in : Listed → (k j : ℕ) → Presentation → Bool
  carries_in E k j P = carries P s.m (rep_in T D) (rep_in T E) k j

  abbrev pub all_carried_in : Listed → (i j : ℕ) → Presentation → Bool
  all_carried_in E i j P = all_below i (λ k. carries_in E k j P)

  abbrev pub intertwines_in : (i j : ℕ) → Presentation → Bool
  intertwines_in i j P = intertwines P s.m T i (rep_in T D) j

  -- as the judgement asks it of every generator
  abbrev pub targeted_in : (i j : ℕ) → Presentation → Bool
  targeted_in i j P = ltb j i || intertwines_in i j P

  abbrev pub intertwiners_in : ℕ → Presentation → Bool
  intertwiners_in i P = intertwiners_hold P s.m T i (rep_in T D)
