-- Apply, and then Recover on the schema just written (FORMAT 7.12): the same instantiation, byte by byte,
-- where nothing is refused.
use Rattle.std.specs.Prelude.{ℕ, ◌≤◌, ◌<◌, ◌≡◌, refl, Bool, true, false, ltb, length, take, drop, Result, Err, Option, Ok}
use Rattle.std.proofs.Math.Path.{sym, ap}
use Rattle.std.proofs.Common.{◌∙◌, arith, lt-ltb, le-ltb, length-append}
use Rattle.std.proofs.Math.Bool.{cond}
use mathlib.Core.List.{List}
use Rattle.bits.specs.Tab.{over, over-with}
use Rattle.bits.specs.Word.{Bytes}
use Rattle.refusal.specs.declared.Refusal.{Refusal}
use Rattle.refusal.specs.declared.Refusal.TheVariants.{ResultSlice}
use Rattle.stored_formula.specs.Formula.{formula_space}
use Rattle.stored_formula.specs.FormulaLaws.{space-again}
use Rattle.apply_answer.specs.Apply.{apply_answer, apply_space, apply_schema, apply_out, Applied}
use Rattle.recover_answer.specs.Recover.{recover_answer, recover_space, recover_out, Recovered, Untyped}
use Rattle.apply_answer.specs.WorkSpace.{refusal_fills, apply_fills, apply-space}
use Rattle.recover_answer.specs.WorkSpace.{recover_fills, recover-space}
use Rattle.round_trip.specs.Undoing.{applies-admits, apply-fits}
use Rattle.round_trip.specs.Unrefused.{applied-applies}
use Rattle.round_trip.specs.Theorems.{apply-filled, apply-recover}
use Rattle.instantiation.specs.Instantiation.{instantiation_size}
use Rattle.apply_answer.specs.declared.Application.{Application}

-- FORMAT 7.12: the instantiation's length, or Apply's refusal
abbrev pub back : Result Application Refusal → ℕ → Result (Option ℕ) Refusal
back (Ok a) length = Recovered length
back (Err r) length = Err r

-- FORMAT 7.12: the answer; a slice for the instantiation of under 812 bytes is 13
unfoldable pub round_trip : Result Application Refusal → ℕ → ℕ → Result (Option ℕ) Refusal
round_trip a length size = cond (ltb size instantiation_size) (Err ResultSlice) (back a length)

-- what a slice holds: what it held, where the instantiation's slice has under 812 bytes
abbrev pub unless_short : {A : Type 0} → ℕ → A → A → A
unless_short size held now = cond (ltb size instantiation_size) held now

-- the instantiation over what its slice held; after a refusal the slice stays
abbrev pub back_out : Result Application Refusal → List ℕ → List ℕ → List ℕ
back_out (Ok a) bytes recovered = over bytes recovered
back_out (Err r) bytes recovered = recovered

-- FORMAT 7.12: the slice for the instantiation afterwards
unfoldable pub round_trip_out : Result Application Refusal → List ℕ → List ℕ → List ℕ
round_trip_out a bytes recovered = cond (ltb (length recovered) instantiation_size) recovered (back_out a bytes recovered)

-- FORMAT 7.12: the work space, as Apply leaves it, since Recover fills it with the same formulas
unfoldable pub round_trip_space : List ℕ → ℕ → List ℕ → List ℕ → ℕ → ℕ → ℕ → List ℕ
round_trip_space file k bytes work size out_size recovered_size = unless_short recovered_size work (apply_space file k bytes work size out_size)

-- FORMAT 8.6: which answers come with a work space that is filled: recovered, and the refusals 20, 21 and 26
abbrev pub round_trip_fills : Result (Option ℕ) Refusal → Bool
round_trip_fills (Recovered size) = true
round_trip_fills Untyped = false
round_trip_fills (Err r) = refusal_fills r

module _ (file : List ℕ) (k : ℕ) (bytes work schema out recovered : List ℕ) where
  -- Apply's answer
  abbrev answer : Result Application Refusal
  answer = apply_answer file k bytes (length work) (length schema) (length out)

  -- answer and slices are as the definitions of the composed function say
  abbrev Trip : Result (Option ℕ) Refusal → List ℕ → List ℕ → List ℕ → List ℕ → Type 0
  Trip a space image output written =
      (a ≡ round_trip answer (length bytes) (length recovered))
      × ((space ≡ round_trip_space file k bytes work (length schema) (length out) (length recovered))
      × ((image ≡ unless_short (length recovered) schema (apply_schema file k bytes (length work) schema (length out)))
      × ((output ≡ unless_short (length recovered) out (apply_out file k bytes (length work) (length schema) out))
      × (written ≡ round_trip_out answer bytes recovered))))

  pub trip-short : length recovered < instantiation_size → Trip (Err ResultSlice) work schema out recovered
  unfolding round_trip round_trip_out round_trip_space
  trip-short h = rw (lt-ltb (length recovered) instantiation_size h) (refl, (refl, (refl, (refl, refl))))

  pub trip-refused :
      instantiation_size ≤ length recovered
      → (r : Refusal) (space image output : List ℕ)
      → Err r ≡ answer
      → space ≡ apply_space file k bytes work (length schema) (length out)
      → image ≡ apply_schema file k bytes (length work) schema (length out)
      → output ≡ apply_out file k bytes (length work) (length schema) out
      → Trip (Err r) space image output recovered
  unfolding round_trip round_trip_out round_trip_space
  trip-refused h r space image output said s i o = rw (le-ltb (length recovered) instantiation_size h, ← said) (refl, (s, (i, (o, refl))))

  -- the schema lies within its slice
  pub trip-fits : Bytes bytes → (size width : ℕ) → Applied size width ≡ answer → size ≤ length schema
  trip-fits below size width said =
      let found = applied-applies file k bytes (length work) (length schema) (length out) size width (sym said) in
      apply-fits file k bytes work schema out found.0 found.1.0 found.1.1.0 below found.1.1.1 size width (sym said)

  pub trip-applied :
      instantiation_size ≤ length recovered
      → Bytes bytes
      → (size width : ℕ)
      → Applied size width ≡ answer
      → (filled image output : List ℕ)
      → length filled ≡ length work
      → filled ≡ apply_space file k bytes work (length schema) (length out)
      → image ≡ apply_schema file k bytes (length work) schema (length out)
      → output ≡ apply_out file k bytes (length work) (length schema) out
      → (a : Result (Option ℕ) Refusal) (space written : List ℕ)
      → a ≡ recover_answer file k (take size image) (length filled) (length recovered)
      → space ≡ recover_space file k (take size image) filled (length recovered)
      → written ≡ recover_out file k (take size image) (length filled) recovered
      → Trip a space image output written
  unfolding round_trip round_trip_out round_trip_space
  trip-applied h below size width said filled image output same Filled-is image-is output-is a space written answered spaced wrote =
      let found = applied-applies file k bytes (length work) (length schema) (length out) size width (sym said) in
      let applies = found.1.1.1 in
      let enough = (applies-admits applies).work_space in
      let results = apply-recover file k bytes work schema out below size width (sym said) found.0 found.1.0 (applies-admits applies).accepted filled recovered (omega arith) h in
      let recovering = ap (λ (x : List ℕ). recover_answer file k (take size x) (length filled) (length recovered)) image-is ∙ results.0 in
      let first = apply-filled file k bytes work schema out size width (sym said) in
      let again = recover-space file k (take size image) filled (length recovered) ∙ ap (λ (o : Result (Option ℕ) Refusal). cond (recover_fills o) (formula_space file filled) filled) recovering in
      rw (le-ltb (length recovered) instantiation_size h, ← said) (
        answered ∙ recovering,
        (
          spaced ∙ again ∙ ap (formula_space file) (Filled-is ∙ first) ∙ space-again file work ∙ sym first,
          (
            image-is,
            (
              output-is,
              wrote ∙ ap (λ (x : List ℕ). recover_out file k (take size x) (length filled) recovered) image-is ∙ results.1,
            ),
          ),
        ),
      )

-- the work space afterwards holds Formula's formulas where the answer came with them, and else what it held
pub round-trip-space :
    (file : List ℕ) (k : ℕ) (bytes work : List ℕ) (size out_size recovered_size : ℕ)
    → round_trip_space file k bytes work size out_size recovered_size
    ≡ cond (round_trip_fills (round_trip (apply_answer file k bytes (length work) size out_size) (length bytes) recovered_size))
    (formula_space file work) work
unfolding round_trip_space round_trip
round-trip-space file k bytes work size out_size recovered_size = short (ltb recovered_size instantiation_size)
  where
    same : (a : Result Application Refusal) → cond (apply_fills a) (formula_space file work) work ≡ cond (round_trip_fills (back a (length bytes))) (formula_space file work) work
    same (Ok a) = refl
    same (Err r) = refl

    short :
        (t : Bool)
        → cond t work (apply_space file k bytes work size out_size)
        ≡ cond (round_trip_fills (cond t (Err ResultSlice) (back (apply_answer file k bytes (length work) size out_size) (length bytes))))
        (formula_space file work) work
    short true = refl
    short false = apply-space file k bytes work size out_size ∙ same (apply_answer file k bytes (length work) size out_size)

-- what is recovered fits its slice
pub round-trip-fits : (a : Result Application Refusal) (bytes recovered written : List ℕ) (n : ℕ) → written ≡ round_trip_out a bytes recovered → round_trip a (length bytes) (length recovered) ≡ Recovered n → n ≤ length written
unfolding round_trip round_trip_out
round-trip-fits a bytes recovered written n = short (ltb (length recovered) 812) a
  where
    short :
        (t : Bool) (a : Result Application Refusal)
        → written ≡ cond t recovered (back_out a bytes recovered)
        → cond t (Err ResultSlice) (back a (length bytes)) ≡ Recovered n
        → n ≤ length written
    short true a w e = absurd (let z : ◌≡◌ {A = ℕ} 0 1 = cc in omega arith)
    short false (Err r) w e = absurd (let z : ◌≡◌ {A = ℕ} 0 1 = cc in omega arith)
    short false (Ok a) w e =
        let same : length bytes ≡ n = cc in
        let whole = ap length (w ∙ over-with bytes recovered) ∙ length-append bytes (drop (length bytes) recovered) in
        omega arith
