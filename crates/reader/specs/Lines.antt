-- What stands at the lines of a presentation text.
--
--   NamesLine, NoNames, NamesAt    the names line of n exponents
--   head_text, HeadLine, NoHead, HeadAt     j, i and p of a line
--   WordLine, NoWord, WordAt       the exponents and the end of a line
use Rattle.std.specs.Prelude.{◌≡◌, true, List, [], ◌∷◌, ◌++◌, ℕ, suc, ◌<◌, ◌≤◌, length, get_or, drop, Option, Some, None}
use Rattle.definitions.specs.Text.{Bytes, largest, decimal, line, small}
use Rattle.definitions.specs.Presentation.{max_generators, presentation_names}
use Rattle.text.specs.Reading.{Ends, trail}

-- ---- The names line

pub record NamesLine (t : Bytes) (n next : ℕ) : Type 0 where
  pub text : t ≡ line (presentation_names n) ++ drop next t
  pub some : 1 ≤ n
  pub few : n ≤ largest
  pub within : next ≤ length t

pub record NoNames (t : Bytes) : Type 0 where
  pub none : (n : ℕ) (r : Bytes) → 1 ≤ n → n ≤ largest → t ≡ line (presentation_names n) ++ r → ⊥

pub record NamesAt (t : Bytes) (a : Option (ℕ × ℕ)) : Type 0 where
  pub stands : (n next : ℕ) → a ≡ Some (n, next) → NamesLine t n next
  pub fails : a ≡ None → NoNames t

-- ---- j, i and p

unfoldable pub head_text : ℕ → ℕ → ℕ → Bytes
head_text j i p = decimal (suc j) ++ trail (suc i ∷ p ∷ [])

module _ (t : Bytes) (at j i : ℕ) where
  pub record HeadLine (p next : ℕ) : Type 0 where
    pub text : drop at t ≡ head_text j i p ++ drop next t
    pub small : p ≤ largest
    pub ends : Ends (drop next t)
    pub further : at < next
    pub within : next ≤ length t

  pub record NoHead : Type 0 where
    pub none : (p : ℕ) (r : Bytes) → p ≤ largest → Ends r → drop at t ≡ head_text j i p ++ r → ⊥

  pub record HeadAt (a : Option (ℕ × ℕ)) : Type 0 where
    pub stands : (p next : ℕ) → a ≡ Some (p, next) → HeadLine p next
    pub fails : a ≡ None → NoHead

-- ---- The exponents

module _ (t : Bytes) (at n : ℕ) where
  -- n exponents, of which `kept` has as many as a row has, and zeros behind them
  pub record WordLine (kept : List ℕ) (next : ℕ) : Type 0 where
    pub word : List ℕ
    pub count : length word ≡ n
    pub small_all : small word ≡ true
    pub text : drop at t ≡ trail word ++ 10 ∷ drop next t
    pub keeps : (k : ℕ) → k < max_generators → get_or kept k 0 ≡ get_or word k 0
    pub further : at < next
    pub within : next ≤ length t

  pub record NoWord : Type 0 where
    pub none : (word : List ℕ) (r : Bytes) → length word ≡ n → small word ≡ true → drop at t ≡ trail word ++ 10 ∷ r → ⊥

  pub record WordAt (w : Option (List ℕ × ℕ)) : Type 0 where
    pub stands : (kept : List ℕ) (next : ℕ) → w ≡ Some (kept, next) → WordLine kept next
    pub fails : w ≡ None → NoWord
