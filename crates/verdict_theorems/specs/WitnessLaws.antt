-- Verdict is right about types, for an expression of m relations: it is untypable exactly where no filled assignment
-- types it, and the witness is a filled schema that types it.
use Rattle.std.specs.Prelude.{ℕ, zero, suc, ◌+◌, ◌-◌, ◌^◌, ◌≤◌, ◌<◌, ◌≡◌, refl, ◌↔◌, true, false, List, [], ◌∷◌, ltb, length, get_or, drop}
use Rattle.std.proofs.Common.{sym, ap, ap₂, ◌∙◌, lt_of_lt_of_le, arith, eqb-true, ltb-true, length-drop, pow_mono, get_or-drop}
use Rattle.std.proofs.Math.Logic.{∥∥₁_elim}
use Rattle.std.proofs.Math.Decide.{dec_lt}
use Rattle.std.proofs.Math.Arith.{lt_of_le-ne}
use Rattle.std.proofs.lemmas.Bool.{eqb-false}
use Rattle.std.proofs.Math.ListN.{get_or-eq_default}
use Rattle.std.proofs.Math.Pow.{ones_lt}
use Rattle.bits.specs.Bit.{bit, bit-none}
use Rattle.bits.specs.Booleans.{and_left, and_right}
use Rattle.bits.specs.Word.{Bytes}
use Rattle.bits.specs.Truth.{by-true, by-false}
use Rattle.attribute_set.specs.Laws.{special-in, special-zero, special-above}
use Rattle.types.specs.Types.{Attrs, IsType, Filled, column, holders}
use Rattle.types.specs.Laws.{finite-by, column-of-special, column-of-other}
use Rattle.types.specs.Memberships.{Within, within-some}
use Rattle.algebra.specs.Expression.{Expression, Legal}
use Rattle.algebra.specs.Rules.{Typed}
use Rattle.states.specs.Formula.{type_variable}
use Rattle.principal.specs.Formula.{Formula, Fits, Grounded}
use Rattle.principal.specs.Plain.{holders-is, holders-none}
use Rattle.principal.specs.Blocked.{Blocked}
use Rattle.principal.specs.Principal as Principal
use Rattle.principal.proofs.Principal as Theorem
use Rattle.principal.specs.Principal.{FilledTyping}
use Rattle.stored_formula.specs.FormulaBytes.{allowed_bit, output_bit}
use Rattle.stored_formula.specs.FormulaBytesLaws.{allowed-is, allowed-below, output-is}
use Rattle.type_record.specs.Record.{TypeRecord, type_of}
use Rattle.type_record.specs.RecordTypes.{type-of-special, type-of-other}
use Rattle.membership.specs.EnterLaws.{holders-below as holders-before}
use Rattle.membership.specs.HolderLaws.{held-member}
use Rattle.special_maps.specs.Special.{maps_from}
use Rattle.special_maps.specs.SpecialLaws.{map-bit}
use Rattle.schema.specs.Schema.{read_records, assignment_of, schema_bytes}
use Rattle.schema.specs.RecordsLaws.{schema-bytes}
use Rattle.schema.specs.TableLaws.{ReadSchema}
use Rattle.schema.specs.Image.{image-size, image-at, image-records, image-schema}
use Rattle.filled_schema.specs.FilledSchema.{filled_reading}
use Rattle.filled_schema.specs.FilledRecords.{table_filled_lem}
use Rattle.filled_schema.specs.FilledLaws.{schema-filled}
use Rattle.refusal.specs.Several.{several_read as records_read}
use Rattle.set_cover.specs.Least.{infinity}
use Rattle.set_cover.proofs.Cheapest.{best-right}
use Rattle.set_cover.specs.Covered.{EachBelow, any_place}
use Rattle.set_cover.proofs.Covered.{fills-is}
use Rattle.set_cover.proofs.BestLaws.{best-below, best-least, best-most, best-entry, best-special, best-variable}
use Rattle.set_cover.specs.Assignments.{Allowed}
use Rattle.set_cover.proofs.Assignments.{schema-none}
use Rattle.verdict_answer.specs.First.{first_in, blocked_in}
use Rattle.verdict_answer.proofs.FewestLaws.{fewest-in}
use Rattle.verdict_answer.specs.FirstLaws.{blocked-lowest}
use Rattle.verdict_answer.specs.Witness.{cost_in, choice_in, specials_of, ordinaries_of, witness_records, witness_bytes}
use Rattle.verdict_answer.specs.WitnessLaws.{Variables, IsChoice, witness-bytes, specials-at, choice-table, ordinaries-holders}
use Rattle.verdict_answer.specs.Verdict.{untypable_in}
use Rattle.verdict_answer.proofs.VerdictLaws.{untypable-blocked, untypable-unfilled, untypable-none, typable-parts}

-- these bytes are read as a schema of m relations without a refusal, every relation has an attribute, and the rules
-- derive a type of e under the assignment that it means
pub record Witness (m : ℕ) (e : Expression) (bytes : List ℕ) : Type 0 where
  pub below : Bytes bytes
  pub records : List TypeRecord
  pub reading : ReadSchema m bytes (filled_reading m bytes) records
  pub filled : Filled m (assignment_of records)
  pub type : Attrs
  pub is_type : IsType type
  pub typed : Typed (assignment_of records) e type

-- the formula of an expression, by its cells
abbrev cell_formula : ℕ → Expression → Formula
cell_formula m e = record { relations = m; allowed = allowed_bit m e; output = output_bit m e }

module _ (m : ℕ) (few : m ≤ 8) (e : Expression) (legal : Legal m e) where
  is-formula : Principal.FormulaOf e (cell_formula m e)
  is-formula = record { allowed = λ c s hc hs. allowed-is m e c s hs; output = λ c s hc hs. output-is m e c s hs }

  is_grounded : Grounded (cell_formula m e)
  is_grounded = Theorem.grounded e (cell_formula m e) legal is-formula

  subsets-few : 2 ^ m ≤ 256
  subsets-few = pow_mono {j = 8} few

  -- ---- an assignment that types the expression

  -- each attribute is allowed as it has it
  fits-at : (t : Principal.Typing m e) (a : ℕ) → allowed_bit m e (column a) (holders m t.assignment a) ≡ true
  fits-at t a = ((Theorem.typed-fits e (cell_formula m e) legal is-formula t.assignment t.type).0 t.typed a).allowed

  pub typing-allowed : (t : Principal.Typing m e) → Allowed m (allowed_bit m e) t.assignment
  typing-allowed t =
      record {
        special = λ i some most. ap (λ (c : ℕ). allowed_bit m e c (holders m t.assignment i)) (sym (column-of-special i (special-in i some most))) ∙ fits-at t i;
        ordinary = λ a from. ap (λ (c : ℕ). allowed_bit m e c (holders m t.assignment a)) (sym (column-of-other a (special-above a from))) ∙ fits-at t a;
      }

  -- ---- untypable

  blocks : blocked_in (allowed_bit m e) < 16 → Blocked (cell_formula m e)
  blocks h =
      let first = blocked-lowest (first_in (allowed_bit m e)) in
      let at = blocked_in (allowed_bit m e) in
      let from = first.from in
      let none = eqb-true (first_in (allowed_bit m e) at) 256 (first.passes (omega arith)) in
      let small = subsets-few in
      record {
        attribute = at;
        is_special = by-true (special-in at from (omega arith));
        nothing = λ s less. (fewest-in (allowed_bit m e at)).found.none (omega arith) s (omega arith);
      }

  -- a column allows nothing: no assignment types it, filled or not
  pub blocked-none : blocked_in (allowed_bit m e) < 16 → Principal.Typing m e → ⊥
  blocked-none h = (Theorem.verdict e (cell_formula m e) legal is-formula).0 (blocks h)

  pub untypable-untyped : untypable_in m (allowed_bit m e) < 16 → FilledTyping m e → ⊥
  untypable-untyped said t = go (dec_lt (blocked_in (allowed_bit m e)) 16) (dec_lt (cost_in m (allowed_bit m e)) infinity)
    where
      nothing : (x y : ⊥) → x ≡ y
      nothing x y = absurd x

      go : Dec (blocked_in (allowed_bit m e) < 16) → Dec (cost_in m (allowed_bit m e) < infinity) → ⊥
      go (yes h) d = blocked-none h t.typing
      go (no h) (yes can) = let is = untypable-none m (allowed_bit m e) (omega arith) can in omega arith
      go (no h) (no cannot) =
          ∥∥₁_elim (within-some m t.typing.assignment t.typing.types) nothing
          (λ x. schema-none m few (allowed_bit m e) t.typing.assignment t.typing.types t.filled x.0 x.1 (typing-allowed t.typing) (omega arith))

  -- ---- typable: the choice

  module _ (said : 16 ≤ untypable_in m (allowed_bit m e)) where
    abbrev choice : List ℕ
    choice = choice_in m (allowed_bit m e)

    can : cost_in m (allowed_bit m e) < infinity
    can = (typable-parts m (allowed_bit m e) said).1

    -- entry i is below 2^m, also past the end
    pub entry-below : (i : ℕ) → get_or (choice_in m (allowed_bit m e)) i 0 < 2 ^ m
    entry-below = best-entry (2 ^ m) (allowed_bit m e) subsets-few (2 ^ m - 1) (ones_lt m)

    special-allowed : (i : ℕ) → i < 15 → allowed_bit m e (suc i) (get_or (choice_in m (allowed_bit m e)) i 0) ≡ true
    special-allowed i h =
        let next : suc i ≡ i + 1 = omega arith in
        ap (λ (c : ℕ). allowed_bit m e c (get_or (choice_in m (allowed_bit m e)) i 0)) next ∙ best-special (2 ^ m) (allowed_bit m e) subsets-few (2 ^ m - 1) (ones_lt m) can i h

    -- the entries after the first fifteen are variables
    variable-at : (j : ℕ) → j < length (drop 15 (choice_in m (allowed_bit m e))) → type_variable (allowed_bit m e 0) (get_or (drop 15 (choice_in m (allowed_bit m e))) j 0) ≡ true
    variable-at = best-variable (2 ^ m) (allowed_bit m e) subsets-few (2 ^ m - 1) (ones_lt m) can

    variables : (vs : List ℕ) → ((j : ℕ) → j < length vs → type_variable (allowed_bit m e 0) (get_or vs j 0) ≡ true) → Variables m vs
    variables [] each = tt
    variables (v ∷ vs) each =
        let here = each 0 (omega arith) in (
          ltb-true 0 v (and_left (ltb 0 v) (allowed_bit m e 0 v) here),
          allowed-below m e 0 v (and_right (ltb 0 v) (allowed_bit m e 0 v) here),
          variables vs (λ j h. each (suc j) (omega arith)),
        )

    pub is-choice : IsChoice m (choice_in m (allowed_bit m e))
    is-choice =
        record {
          size = best-least (2 ^ m) (allowed_bit m e) subsets-few 15 (2 ^ m - 1);
          few = best-most (2 ^ m) (allowed_bit m e) subsets-few (2 ^ m - 1) (ones_lt m) can;
          special = λ i h. entry-below i;
          variables = variables (drop 15 (choice_in m (allowed_bit m e))) variable-at;
        }

    -- past its end nobody has anything
    ended : (i : ℕ) → 23 ≤ i → get_or (choice_in m (allowed_bit m e)) i 0 ≡ 0
    ended i past = let most = is-choice.few in get_or-eq_default (choice_in m (allowed_bit m e)) 0 {n = i} (omega arith)

    -- ---- the assignment that the witness means

    abbrev records : List TypeRecord
    records = witness_records m (choice_in m (allowed_bit m e))

    special-has : (r i : ℕ) → r < m → i < 15 → assignment_of records r (suc i) ≡ bit (get_or (choice_in m (allowed_bit m e)) i 0) r
    special-has r i inside h =
        ap (λ (t : TypeRecord). type_of t (suc i)) (image-at m few (maps_from (specials_of choice)) (ordinaries_of choice) (choice-table m few choice is-choice) r inside)
        ∙ type-of-special _ (suc i) (special-in (suc i) (omega arith) (omega arith))
        ∙ map-bit (specials_of choice) r (suc i) (lt_of_lt_of_le inside few) (omega arith)
        ∙ ap (λ (s : ℕ). bit s r) (specials-at choice i h)

    ordinary-has : (r j : ℕ) → r < m → assignment_of records r (16 + j) ≡ bit (get_or (choice_in m (allowed_bit m e)) (15 + j) 0) r
    ordinary-has r j inside =
        ap (λ (t : TypeRecord). type_of t (16 + j)) (image-at m few (maps_from (specials_of choice)) (ordinaries_of choice) (choice-table m few choice is-choice) r inside)
        ∙ type-of-other _ (16 + j) (special-above (16 + j) (omega arith))
        ∙ held-member 15 r (ordinaries_of choice) (lt_of_lt_of_le inside few) (choice-table m few choice is-choice).rising (16 + j)
        ∙ ap (λ (s : ℕ). bit s r) (ordinaries-holders m few choice is-choice j)

    -- attribute i + 1 is in entry i
    pub witness-has : (r i : ℕ) → r < m → assignment_of (witness_records m (choice_in m (allowed_bit m e))) r (suc i) ≡ bit (get_or (choice_in m (allowed_bit m e)) i 0) r
    witness-has r i inside = go (dec_lt i 15)
      where
        go : Dec (i < 15) → assignment_of records r (suc i) ≡ bit (get_or choice i 0) r
        go (yes h) = special-has r i inside h
        go (no h) =
            let attribute : suc i ≡ 16 + (i - 15) = omega arith in
            let place : 15 + (i - 15) ≡ i = omega arith in
            ap (assignment_of records r) attribute ∙ ordinary-has r (i - 15) inside ∙ ap (λ (k : ℕ). bit (get_or choice k 0) r) place

    -- there is no attribute 0
    witness-zero : (r : ℕ) → r < m → assignment_of records r 0 ≡ false
    witness-zero r inside =
        ap (λ (t : TypeRecord). type_of t 0) (image-at m few (maps_from (specials_of choice)) (ordinaries_of choice) (choice-table m few choice is-choice) r inside)
        ∙ type-of-other _ 0 special-zero
        ∙ held-member 15 r (ordinaries_of choice) (lt_of_lt_of_le inside few) (choice-table m few choice is-choice).rising 0
        ∙ ap (λ (s : ℕ). bit s r) (holders-before 15 (ordinaries_of choice) (choice-table m few choice is-choice).rising 0 (omega arith))
        ∙ bit-none r

    pub witness-holders : (i : ℕ) → holders m (assignment_of (witness_records m (choice_in m (allowed_bit m e)))) (suc i) ≡ get_or (choice_in m (allowed_bit m e)) i 0
    witness-holders i = holders-is m (assignment_of records) (suc i) (get_or choice i 0) (entry-below i) (λ r inside. witness-has r i inside)

    pub holders-zero : holders m (assignment_of (witness_records m (choice_in m (allowed_bit m e)))) 0 ≡ 0
    holders-zero = holders-none m (assignment_of records) 0 witness-zero

    -- an attribute from 24 on nobody has
    pub witness-within : Within m (assignment_of (witness_records m (choice_in m (allowed_bit m e)))) 24
    witness-within r inside a past =
        let next : suc (a - 1) ≡ a = omega arith in
        ap (assignment_of records r) (sym next) ∙ witness-has r (a - 1) inside ∙ ap (λ (s : ℕ). bit s r) (ended (a - 1) (omega arith)) ∙ bit-none r

    -- ---- the rules type it

    -- each attribute is allowed as the witness has it
    entry-allowed : (i : ℕ) → allowed_bit m e (column (suc i)) (get_or (choice_in m (allowed_bit m e)) i 0) ≡ true
    entry-allowed i = go (dec_lt i 15) (dec_lt (i - 15) (length (drop 15 (choice_in m (allowed_bit m e)))))
      where
        ordinary-column : 15 ≤ i → allowed_bit m e (column (suc i)) (get_or choice i 0) ≡ allowed_bit m e 0 (get_or choice i 0)
        ordinary-column from = ap (λ (c : ℕ). allowed_bit m e c (get_or choice i 0)) (column-of-other (suc i) (special-above (suc i) (omega arith)))

        go : Dec (i < 15) → Dec (i - 15 < length (drop 15 choice)) → allowed_bit m e (column (suc i)) (get_or choice i 0) ≡ true
        go (yes h) d = ap (λ (c : ℕ). allowed_bit m e c (get_or choice i 0)) (column-of-special (suc i) (special-in (suc i) (omega arith) (omega arith))) ∙ special-allowed i h
        go (no h) (yes inside) =
            let place : 15 + (i - 15) ≡ i = omega arith in
            let same : get_or (drop 15 choice) (i - 15) 0 ≡ get_or choice i 0 = get_or-drop 15 choice (i - 15) 0 ∙ ap (λ (k : ℕ). get_or choice k 0) place in
            let is = and_right (ltb 0 (get_or (drop 15 choice) (i - 15) 0)) (allowed_bit m e 0 (get_or (drop 15 choice) (i - 15) 0)) (variable-at (i - 15) inside) in
            ordinary-column (omega arith) ∙ ap (allowed_bit m e 0) (sym same) ∙ is
        go (no h) (no past) =
            let size = length-drop 15 choice in
            ordinary-column (omega arith) ∙ ap (allowed_bit m e 0) (get_or-eq_default choice 0 {n = i} (omega arith)) ∙ is_grounded.allowed

    -- its type: the attributes whose output bit stands
    abbrev witness_type : Attrs
    witness_type a = output_bit m e (column a) (holders m (assignment_of records) a)

    witness-fits : (a : ℕ) → Fits (cell_formula m e) (assignment_of records) witness_type a
    witness-fits a = record { allowed = each a; output = refl }
      where
        each : (a : ℕ) → allowed_bit m e (column a) (holders m (assignment_of records) a) ≡ true
        each zero = ap₂ (allowed_bit m e) (column-of-other 0 special-zero) holders-zero ∙ is_grounded.allowed
        each (suc i) = ap (allowed_bit m e (column (suc i))) (witness-holders i) ∙ entry-allowed i

    witness-type : IsType witness_type
    witness-type =
        record {
          positive = ap₂ (output_bit m e) (column-of-other 0 special-zero) holders-zero ∙ is_grounded.output;
          finite = finite-by 24 none;
        }
      where
        none : (a : ℕ) → 24 ≤ a → witness_type a ≡ false
        none a past =
            ap₂ (output_bit m e) (column-of-other a (special-above a (omega arith))) (holders-none m (assignment_of records) a (λ r inside. witness-within r inside a past)) ∙ is_grounded.output

    -- ---- every relation has an attribute

    small-each : (xs : List ℕ) → EachBelow (2 ^ m) xs → EachBelow 256 xs
    small-each [] each = tt
    small-each (x ∷ xs) each = (lt_of_lt_of_le each.0 subsets-few, small-each xs each.1)

    pub witness-filled : Filled m (assignment_of (witness_records m (choice_in m (allowed_bit m e))))
    witness-filled r inside =
        let right = best-right (2 ^ m) (allowed_bit m e) subsets-few 15 (2 ^ m - 1) (ones_lt m) can in
        let each = small-each choice (best-below (2 ^ m) (allowed_bit m e) subsets-few 15 (2 ^ m - 1) (ones_lt m)) in
        let found = any_place r choice ((fills-is m few choice each).0 right.covers r inside) in
        ∣ (suc found.0, by-true (witness-has r found.0 inside ∙ found.1)) ∣₁

    -- ---- the witness is a schema that types it

    pub witness-typed : Witness m e (witness_bytes m (choice_in m (allowed_bit m e)))
    witness-typed =
        let table = choice-table m few choice is-choice in
        let image = image-schema m few (maps_from (specials_of choice)) (ordinaries_of choice) table in
        rw (witness-bytes m choice)
        (record {
          below = schema-bytes records (image-records m few (maps_from (specials_of choice)) (ordinaries_of choice) table);
          records = records;
          reading =
              schema-filled m (schema_bytes records) records image.read image.few
              ((table_filled_lem m few records (image-size m few (maps_from (specials_of choice)) (ordinaries_of choice) table) (image-records m few (maps_from (specials_of choice)) (ordinaries_of choice) table)
              ).1 witness-filled);
          filled = witness-filled;
          type = witness_type;
          is_type = witness-type;
          typed = (Theorem.typed-fits e (cell_formula m e) legal is-formula (assignment_of records) witness_type).1 witness-fits;
        })

    -- a witness with these bytes has these records
    pub witness-records : (bytes : List ℕ) → bytes ≡ witness_bytes m (choice_in m (allowed_bit m e)) → (w : Witness m e bytes) → w.records ≡ witness_records m (choice_in m (allowed_bit m e))
    witness-records bytes is w =
        let table = choice-table m few choice is-choice in
        let own : read_records m bytes ≡ records_read records = rw (is, witness-bytes m choice) (image-schema m few (maps_from (specials_of choice)) (ordinaries_of choice) table).read in
        let both = sym w.reading.read ∙ own in
        cc

    -- a filled assignment that types it
    pub typable-typed : FilledTyping m e
    typable-typed =
        record {
          typing =
              record {
                assignment = assignment_of records;
                types = λ r inside. record { positive = witness-zero r inside; finite = finite-by 24 (λ a past. witness-within r inside a past) };
                type = witness_type;
                is_type = witness-type;
                typed = (Theorem.typed-fits e (cell_formula m e) legal is-formula (assignment_of records) witness_type).1 witness-fits;
              };
          filled = witness-filled;
        }

  -- ---- the verdict: untypable is said exactly where no filled assignment types the expression

  pub untypable-is : (untypable_in m (allowed_bit m e) < 16) ↔ (FilledTyping m e → ⊥)
  untypable-is = (untypable-untyped, (λ none. go none (dec_lt (untypable_in m (allowed_bit m e)) 16)))
    where
      go : (FilledTyping m e → ⊥) → Dec (untypable_in m (allowed_bit m e) < 16) → untypable_in m (allowed_bit m e) < 16
      go none (yes h) = h
      go none (no h) = absurd (none (typable-typed (omega arith)))

  -- ---- which attribute is said: 0 only where each column allows something

  pub unblocked-columns : (i : ℕ) → 1 ≤ i → i ≤ 15 → untypable_in m (allowed_bit m e) ≡ 0 → (s : ℕ) × ((s < 2 ^ m) × (allowed_bit m e i s ≡ true))
  unblocked-columns i some most zero-said = go (dec_lt (blocked_in (allowed_bit m e)) 16)
    where
      go : Dec (blocked_in (allowed_bit m e) < 16) → (s : ℕ) × ((s < 2 ^ m) × (allowed_bit m e i s ≡ true))
      go (yes h) =
          let is = untypable-blocked m (allowed_bit m e) h in
          let from = (blocked-lowest (first_in (allowed_bit m e))).from in
          absurd (omega arith)
      go (no h) =
          let found = (fewest-in (allowed_bit m e i)).found in
          let other = eqb-false (first_in (allowed_bit m e) i) 256 ((blocked-lowest (first_in (allowed_bit m e))).before i some (omega arith)) in
          let is = found.passes (lt_of_le-ne found.up_to other) in
          (first_in (allowed_bit m e) i, (allowed-below m e i (first_in (allowed_bit m e) i) is, is))

  pub blocked-attribute : untypable_in m (allowed_bit m e) < 16 → ((i : ℕ) → 1 ≤ i → i ≤ 15 → (s : ℕ) × ((s < 2 ^ m) × (allowed_bit m e i s ≡ true))) → untypable_in m (allowed_bit m e) ≡ 0
  blocked-attribute said columns = go (dec_lt (blocked_in (allowed_bit m e)) 16) (dec_lt (cost_in m (allowed_bit m e)) infinity)
    where
      go : Dec (blocked_in (allowed_bit m e) < 16) → Dec (cost_in m (allowed_bit m e) < infinity) → untypable_in m (allowed_bit m e) ≡ 0
      go (yes h) d =
          let from = (blocked-lowest (first_in (allowed_bit m e))).from in
          let some = columns (blocked_in (allowed_bit m e)) from (omega arith) in
          let none = eqb-true (first_in (allowed_bit m e) (blocked_in (allowed_bit m e))) 256 ((blocked-lowest (first_in (allowed_bit m e))).passes (omega arith)) in
          let small = subsets-few in
          let less = some.1.0 in
          absurd (by-false ((fewest-in (allowed_bit m e (blocked_in (allowed_bit m e)))).found.none (omega arith) some.0 (omega arith)) (by-true some.1.1))
      go (no h) (yes can) = let is = untypable-none m (allowed_bit m e) (omega arith) can in absurd (omega arith)
      go (no h) (no cannot) = untypable-unfilled m (allowed_bit m e) (omega arith) (omega arith)
