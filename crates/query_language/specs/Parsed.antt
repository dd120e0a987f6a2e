-- What a reader finds at a place of a text: nothing, or a value and the place after its text.
use Rattle.std.specs.Prelude.{ℕ, ◌≡◌, refl, Bool, true, false}
use Rattle.std.proofs.Common.{arith}

-- nothing, or a value and the place after it
pub data Parsed (A : Type 0) : Type 0 where
  missing : Parsed A
  found : A → ℕ → Parsed A

-- a reader, and one that goes on from what it found
unfoldable pub and_then : {A B : Type 0} → Parsed A → (A → ℕ → Parsed B) → Parsed B
and_then missing f = missing
and_then (found a next) f = f a next

-- a reader that finds nothing where a test fails
unfoldable pub provided : {A : Type 0} → Bool → Parsed A → Parsed A
provided true p = p
provided false p = missing

-- ---- laws

-- what holds of a value and the place after it holds of what is found, if they are that
pub found_as : {A : Type 0} (P : A → ℕ → Type 0) {a b : A} {x y : ℕ} → found a x ≡ found b y → P a x → P b y
found_as P {a} {b} {x} {y} e p = let a-is : a ≡ b = cc in let x-is : x ≡ y = cc in rw (← a-is, ← x-is) p

-- what the first reader found where both found something
pub record Between {A B : Type 0} (p : Parsed A) (f : A → ℕ → Parsed B) (b : B) (next : ℕ) : Type 0 where
  pub value : A
  pub place : ℕ
  pub first : p ≡ found value place
  pub second : f value place ≡ found b next

pub then_found : {A B : Type 0} (p : Parsed A) (f : A → ℕ → Parsed B) {b : B} {next : ℕ} → and_then p f ≡ found b next → Between p f b next
unfolding and_then
then_found missing f e = absurd (let z : ◌≡◌ {A = ℕ} 0 1 = cc in omega arith)
then_found (found a place) f e = record { value = a; place = place; first = refl; second = e }

pub then-of : {A B : Type 0} (p : Parsed A) (f : A → ℕ → Parsed B) {a : A} {place : ℕ} → p ≡ found a place → and_then p f ≡ f a place
unfolding and_then
then-of p f e = rw e

pub then-missing : {A B : Type 0} (p : Parsed A) (f : A → ℕ → Parsed B) → p ≡ missing → and_then p f ≡ missing
unfolding and_then
then-missing p f e = rw e

pub provided-found : {A : Type 0} (t : Bool) (p : Parsed A) {a : A} {next : ℕ} → provided t p ≡ found a next → (t ≡ true) × (p ≡ found a next)
unfolding provided
provided-found true p e = (refl, e)
provided-found false p e = absurd (let z : ◌≡◌ {A = ℕ} 0 1 = cc in omega arith)

pub provided-true : {A : Type 0} (t : Bool) (p : Parsed A) → t ≡ true → provided t p ≡ p
unfolding provided
provided-true t p e = rw e

pub provided-false : {A : Type 0} (t : Bool) (p : Parsed A) → t ≡ false → provided t p ≡ missing
unfolding provided
provided-false t p e = rw e
