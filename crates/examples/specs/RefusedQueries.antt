-- Each refused query of the table (FORMAT 10.14) has its refusal: one computed test, and one theorem.
use Rattle.std.specs.Prelude.{ℕ, zero, suc, ◌≤◌, ◌<◌, ◌≡◌, refl, Bool, true, false, ◌&&◌, List, [], ◌∷◌, T, eqb, length, get_or, Err}
use Rattle.std.proofs.Common.{sym, ap, ◌∙◌, le_refl, arith, eqb→eq}
use Rattle.bits.specs.Range.{in_range}
use Rattle.bits.specs.Truth.{left, right}
use Rattle.attribute_set.specs.AttrSet.{special}
use Rattle.refusal.specs.Chain.{refuse}
use Rattle.refusal.specs.Number.{number_of, number-once}
use Rattle.refusal.specs.declared.Refusal.{Refusal}
use Rattle.refusal.specs.declared.Refusal.TheVariants.{QuerySyntax}
use Rattle.expression_file.specs.Walk.{longest_file}
use Rattle.query_language.specs.Parsed.{and_then, provided}
use Rattle.query_language.specs.Parse.{is_digit, number_of as number_value, number_at, ended_number, items_with, items_within, items_at, list_at, set_at, renaming_at, projecting_out_at, prefix_at}
use Rattle.query_language.specs.Parse.{sign_of, sign_at, relation_at, pair_with, prefixed_with, operand_with, operand_within, operand_at, parse_query}
use Rattle.query_answer.specs.Faults.{attribute_faults, faults_of}
use Rattle.query_answer.specs.ParseQuery.{Judgement, refused, accepted, judged, judgement, parse_answer, parse_file}
use Rattle.query_answer.specs.ParseLaws.{answer-refused, judge-any}
use Rattle.examples.specs.Cases.{RefusedText, refused_texts}

-- the text is refused so, and the slice stays
pub record Refuses (x : RefusedText) (slice : List ℕ) : Type 0 where
  pub answer : parse_answer x.relations x.text (length slice) ≡ Err x.refusal
  pub file : parse_file x.relations x.text slice ≡ slice

-- ---- the test

refused_by : Refusal → Judgement → Bool
refused_by r (refused s) = eqb (number_of s) (number_of r)
refused_by r (accepted q) = false

every : List RefusedText → Bool
every [] = true
every (x ∷ xs) = refused_by x.refusal (judgement x.relations x.text longest_file) && every xs

-- ---- from the test to the facts

refuses : (x : RefusedText) (slice : List ℕ) → longest_file ≤ length slice → (j : Judgement) → judgement x.relations x.text longest_file ≡ j → T (refused_by x.refusal j) → Refuses x slice
unfolding refused_by
refuses x slice room (accepted q) e t = absurd t
refuses x slice room (refused s) e t =
    let same = number-once s x.refusal (eqb→eq (number_of s) (number_of x.refusal) t) in
    let given = answer-refused x.relations x.text slice s (judge-any x.relations x.text (length slice) longest_file room (le_refl longest_file) ∙ e) in
    record { answer = sym given.answer ∙ ap Err same; file = sym given.slice }

-- one that is none, for a place past the table
abbrev pub no_text : RefusedText
no_text = record { relations = 0; text = []; refusal = QuerySyntax }

each : (xs : List RefusedText) → T (every xs) → (slice : List ℕ) → longest_file ≤ length slice → (i : ℕ) → i < length xs → Refuses (get_or xs i no_text) slice
unfolding every
each [] t slice room i h = absurd (omega arith)
each (x ∷ xs) t slice room zero h =
    let here = refused_by x.refusal (judgement x.relations x.text longest_file) in
    refuses x slice room (judgement x.relations x.text longest_file) refl (left here (every xs) t)
each (x ∷ xs) t slice room (suc i) h =
    let here = refused_by x.refusal (judgement x.relations x.text longest_file) in
    each xs (right here (every xs) t) slice room i (omega arith)

-- the theorem: every query of the table is refused as it says, in any slice that is long enough; antt computes the test
pub refused-hold : (slice : List ℕ) → longest_file ≤ length slice → (i : ℕ) → i < length refused_texts → Refuses (get_or refused_texts i no_text) slice
unfolding every refused_by refused_texts judgement judged parse_query operand_at operand_within operand_with relation_at pair_with prefixed_with sign_at sign_of prefix_at
    set_at renaming_at projecting_out_at list_at items_at items_within items_with ended_number number_at number_value is_digit and_then provided
    faults_of attribute_faults refuse in_range special
refused-hold = each refused_texts tt
