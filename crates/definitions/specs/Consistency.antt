-- Consistency (15): two different normal forms are never joined by a chain of steps; and the known test, level by level,
-- which the specification names as equivalent.
--
--   Letter, Word, word i x     a generator or its inverse; words; the word of a normal form
--   Sides P l r                l and r are the two sides of a relation, or a generator beside its inverse and nothing
--   Step P a b, Chain P a b    one side put for the other within a word; steps after one another
--   Consistent P               no two different normal forms are joined
--   mul P i, conj P i j        product on level i; conjugation of level i by generator j, h to j⁻¹ h j
--   generator i k              generator k as a normal form of level i
--   level_test P i, test P      the known test for generator i, and for all
use Rattle.std.specs.Prelude.{◌≡◌, ℕ, zero, suc, ◌+◌, ◌-◌, ◌<◌, Bool, true, ◌&&◌, cond, List, [], ◌∷◌, ◌++◌, replicate, eqb, ltb}
use Rattle.definitions.specs.Lists.{all_below, iter}
use Rattle.definitions.specs.Presentation.{NF, trivial, Presentation, Valid, Mul, power, value}

-- ---- Chains

-- a generator, or its inverse
pub data Letter : Type 0 where
  gen inv : ℕ → Letter

abbrev pub Word : Type 0
Word = List Letter

-- the highest generator stands first
unfoldable pub word : (i : ℕ) → NF i → Word
word zero x = []
word (suc i) x = replicate x.0 (gen i) ++ word i x.1

module _ (P : Presentation) where
  pub data Sides : Word → Word → Type 0 where
    power_relation : (j : ℕ) → j < P.n → Sides (replicate (P.p j) (gen j)) (word j (P.u j))
    commutator_relation : (k j : ℕ) → k < j → j < P.n → Sides (inv k ∷ inv j ∷ gen k ∷ gen j ∷ []) (word (suc k) (P.w k j))
    gen_inv : (k : ℕ) → k < P.n → Sides (gen k ∷ inv k ∷ []) []
    inv_gen : (k : ℕ) → k < P.n → Sides (inv k ∷ gen k ∷ []) []

  -- one side for the other between a and b, either way
  pub data Step : Word → Word → Type 0 where
    forth : (a b l r : Word) → Sides l r → Step (a ++ l ++ b) (a ++ r ++ b)
    back : (a b l r : Word) → Sides l r → Step (a ++ r ++ b) (a ++ l ++ b)

  pub data Chain : Word → Word → Type 0 where
    done : (a : Word) → Chain a a
    link : (a b c : Word) → Step a b → Chain b c → Chain a c

  unfoldable pub Consistent : Type 0
  Consistent = (x y : NF P.n) → Valid P P.n x → Valid P P.n y → Chain (word P.n x) (word P.n y) → x ≡ y

-- ---- Product and conjugation

-- the operations of a level
pub record Arithmetic (i : ℕ) : Type 0 where
  pub product : NF i → NF i → NF i
  pub conjugate : ℕ → NF i → NF i

-- an exponent s of a generator with prime p and power u before z, brought below p
unfoldable pub carry : {A : Type 0} (p : ℕ) (m : A → A → A) (u : A) (s : ℕ) (z : A) → ℕ × A
carry p m u s z = cond (ltb s p) (s, z) (s - p, m u z)

-- (g^a x)(g^b y) = g^(a+b) (f^b x) y, with f the conjugation by g
unfoldable pub mul_step : {A : Type 0} (p : ℕ) (m : A → A → A) (f : A → A) (u : A) → ℕ × A → ℕ × A → ℕ × A
mul_step p m f u x y = carry p m u (x.0 + y.0) (m (iter f y.0 x.1) y.1)

-- the conjugate of g^a x is (g w)^a times that of x: m the product of the level of g, f the conjugation below it
unfoldable pub conj_step : (k : ℕ) (m : NF (suc k) → NF (suc k) → NF (suc k)) (f : NF k → NF k) (w : NF (suc k)) → NF (suc k) → NF (suc k)
conj_step k m f w x = m (power (record { mul = m; one = trivial (suc k) }) (m (1, trivial k) w) x.0) (0, f x.1)

unfoldable pub arithmetic_step : (P : Presentation) (i : ℕ) → Arithmetic i → Arithmetic (suc i)
arithmetic_step P i o =
    let m : NF (suc i) → NF (suc i) → NF (suc i) = mul_step (P.p i) o.product (o.conjugate i) (P.u i) in
    record { product = m; conjugate = λ j. conj_step i m (o.conjugate j) (P.w i j) }

unfoldable pub arithmetic : (P : Presentation) (i : ℕ) → Arithmetic i
arithmetic P zero = record { product = λ x y. tt; conjugate = λ j x. tt }
arithmetic P (suc i) = arithmetic_step P i (arithmetic P i)

abbrev pub mul : (P : Presentation) (i : ℕ) → NF i → NF i → NF i
mul P i = (arithmetic P i).product

abbrev pub conj : (P : Presentation) (i j : ℕ) → NF i → NF i
conj P i j = (arithmetic P i).conjugate j

abbrev pub forms : (P : Presentation) (i : ℕ) → Mul (NF i)
forms P i = record { mul = mul P i; one = trivial i }

-- ---- The known test

-- generator k, where k < i
unfoldable pub generator : (i k : ℕ) → NF i
generator zero k = tt
generator (suc i) k = cond (eqb k i) (1, trivial i) (0, generator i k)

unfoldable pub same_form : (i : ℕ) → NF i → NF i → Bool
same_form zero x y = true
same_form (suc i) x y = eqb x.0 y.0 && same_form i x.1 y.1

module _ (P : Presentation) (i : ℕ) where
  -- the map of level i that conjugation by generator i induces
  abbrev pub f : NF i → NF i
  f = conj P i i

  abbrev pub image : ℕ → NF i
  image k = f (generator i k)

  unfoldable pub keeps_powers : Bool
  keeps_powers = all_below i (λ k. same_form i (power (forms P i) (image k) (P.p k)) (value (forms P i) image k (P.u k)))

  unfoldable pub keeps_commutators : Bool
  keeps_commutators =
      all_below i (λ j. all_below j (λ k. same_form i
      (mul P i (image k) (image j))
      (mul P i (image j) (mul P i (image k) (value (forms P i) image (suc k) (P.w k j))))))

  unfoldable pub fixes_power : Bool
  fixes_power = same_form i (f (P.u i)) (P.u i)

  -- u f^p(h) = h u for each generator h: f done p times is conjugation by u
  unfoldable pub power_is_inner : Bool
  power_is_inner = all_below i (λ k. same_form i (mul P i (P.u i) (iter f (P.p i) (generator i k))) (mul P i (generator i k) (P.u i)))

  unfoldable pub level_test : Bool
  level_test = keeps_powers && keeps_commutators && fixes_power && power_is_inner

unfoldable pub test : Presentation → Bool
test P = all_below P.n (level_test P)
