use mathlib.Core.Path.{◌≡◌, refl, sym, ap, ◌∙◌}
use mathlib.Core.Bool.{Bool, true}
use native.Mathlib.Omega.{arith}
use Rattle.std.specs.Prelude.{ℕ, ◌≤◌, List, length, Option, None, Some, Result, Ok, Err}
use Rattle.std.specs.Option.{ok_or}
use Rattle.std.proofs.lemmas.Result.{err_from_is_err_and}
use Rattle.bits.specs.Range.{in_range}
use Rattle.refusal.specs.declared.Refusal.{Refusal}
use Rattle.query_operands.specs.declared.operands.Operand.{Operand}
use Rattle.query_operands.specs.Reading.{is_read, is-missing}
use Rattle.query.specs.ParseSteps.{Passed, parse-relations, parse-slice, parse-length, parse-missing, parse-followed, parse-nodes, parse-fault, parse-fits, parse-written}
use Rattle.query.proofs.parse_query.Goals as goal

-- what stood before `ok_or`
there : (o : Option Operand) (r : Refusal) {a : Result Operand Refusal} {x : Operand} → a ≡ ok_or o r → a ≡ Ok x → o ≡ Some x
there None r e f = cc
there (Some y) r e f = cc

not-there : (o : Option Operand) {r s : Refusal} {a : Result Operand Refusal} → a ≡ ok_or o r → a ≡ Err s → (o ≡ None) × (s ≡ r)
not-there None e f = (refl, cc)
not-there (Some y) e f = (cc, cc)

passed-by : {m : ℕ} {t : Bool} {text old : List ℕ} → t ≡ in_range 1 8 m → t ≡ true → 322 ≤ length old → length text ≤ 512 → Passed m text old
passed-by e t room short = record { relations = sym e ∙ t; room = room; short = short }

pub returns-then-not-in_range : goal.returns-then-not-in_range
returns-then-not-in_range c =
    let done = parse-relations _ _ _ (sym c.in_range.ensures ∙ c.if-not-in_range.true) in
    record {
      value = done.answer;
      file_after = done.slice;
    }

pub returns-then-file-lt322 : goal.returns-then-file-lt322
returns-then-file-lt322 c =
    let done = parse-slice c.args.m c.args.text.now c.args.file.now (sym c.in_range.ensures ∙ c.if-not-in_range.false) (omega arith) in
    record {
      value = done.answer;
      file_after = done.slice;
    }

pub returns-then-text-gt512 : goal.returns-then-text-gt512
returns-then-text-gt512 c =
    let done = parse-length c.args.m c.args.text.now c.args.file.now (sym c.in_range.ensures ∙ c.if-not-in_range.false) (omega arith) (omega arith) in
    record {
      value = done.answer;
      file_after = done.slice;
    }

pub returns-in_err-operand : goal.returns-in_err-operand
returns-in_err-operand c =
    let none = not-there c.read_operand.result {a = c.ok_or.result} c.ok_or.ensures.value c.in_err-operand.was in
    let given = err_from_is_err_and c.from_residual.result c.from_residual.ensures.1 in
    let passed : Passed c.args.m c.args.text.now c.args.file.now = passed-by c.in_range.ensures c.if-not-in_range.false (omega arith) (omega arith) in
    let done = parse-missing passed (is-missing none.0 c.read_operand.ensures.reads) in
    record {
      value = given.1 ∙ ap Err (given.2 ∙ none.1) ∙ done.answer;
      file_after = done.slice;
    }

pub returns-then-operand-text : goal.returns-then-operand-text
returns-then-operand-text c =
    let passed : Passed c.args.m c.args.text.now c.args.file.now = passed-by c.in_range.ensures c.if-not-in_range.false (omega arith) (omega arith) in
    let whole = is_read (there _ _ c.ok_or.ensures.value c.in_ok-operand.was) c.read_operand.ensures.reads in
    let done = parse-followed passed whole c.if-operand-text.true in
    record {
      value = done.answer;
      file_after = done.slice;
    }

pub returns-then-operand-gt64 : goal.returns-then-operand-gt64
returns-then-operand-gt64 c =
    let passed : Passed c.args.m c.args.text.now c.args.file.now = passed-by c.in_range.ensures c.if-not-in_range.false (omega arith) (omega arith) in
    let whole = is_read (there _ _ c.ok_or.ensures.value c.in_ok-operand.was) c.read_operand.ensures.reads in
    let done = parse-nodes passed whole (omega arith) c.if-operand-gt64.true in
    record {
      value = done.answer;
      file_after = done.slice;
    }

pub returns-in-Some : goal.returns-in-Some
returns-in-Some c =
    let passed : Passed c.args.m c.args.text.now c.args.file.now = passed-by c.in_range.ensures c.if-not-in_range.false (omega arith) (omega arith) in
    let whole = is_read (there _ _ c.ok_or.ensures.value c.in_ok-operand.was) c.read_operand.ensures.reads in
    let done = parse-fault passed whole c.if-operand-text.false c.if-operand-gt64.false c.in-Some.is in
    record {
      value = cc done.answer;
      file_after = done.slice;
    }

pub write_file-requires : goal.write_file-requires
write_file-requires c =
    let passed : Passed c.args.m c.args.text.now c.args.file.now = passed-by c.in_range.ensures c.if-not-in_range.false (omega arith) (omega arith) in
    let whole = is_read (there _ _ c.ok_or.ensures.value c.in_ok-operand.was) c.read_operand.ensures.reads in
    rw c.written.ensures (parse-fits passed whole c.if-operand-text.false c.if-operand-gt64.false c.new-writer.ensures.front)

pub returns : goal.returns
returns c =
    let passed : Passed c.args.m c.args.text.now c.args.file.now = passed-by c.in_range.ensures c.if-not-in_range.false (omega arith) (omega arith) in
    let whole = is_read (there _ _ c.ok_or.ensures.value c.in_ok-operand.was) c.read_operand.ensures.reads in
    let done = parse-written passed whole c.if-operand-text.false c.if-operand-gt64.false c.new-writer.ensures.front c.in_default.is (rw c.written.ensures at c.write_file.ensures) in
    record {
      value = done.answer;
      file_after = done.slice;
    }
