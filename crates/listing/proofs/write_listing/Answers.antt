use mathlib.Core.Path.{sym, ◌∙◌}
use native.Mathlib.Omega.{arith}
use Rattle.std.proofs.Common.{rules, length, ap}
use Rattle.stored_formula.specs.FormulaLaws.{answer-file}
use Rattle.verdict_answer.specs.Formed.{formula-formed}
use Rattle.listing_lines.specs.LineLaws.{lines-alone}
use Rattle.text.specs.Written.{writes-as, writes-front}
use Rattle.listing.specs.ListingLaws.{filled-counts, last-formed, wrote-listing, wrote-refusal, listed-work, listed-text, listed-done}
use Rattle.listing.proofs.write_listing.Goals as goal

pub returns-then-work-lt65536 : goal.returns-then-work-lt65536
returns-then-work-lt65536 c =
    let both = listed-work c.args.file.now c.args.work.now c.args.text.now (omega arith) in
    record {
      value = both.0;
      text_after = both.1.0;
      work_after = both.1.1;
    }

pub returns-then-text-lt32768 : goal.returns-then-text-lt32768
returns-then-text-lt32768 c =
    let both = listed-text c.args.file.now c.args.work.now c.args.text.now (omega arith) (omega arith) in
    record {
      value = both.0;
      text_after = both.1.0;
      work_after = both.1.1;
    }

pub invariant_of-accepted : goal.invariant_of-accepted
invariant_of-accepted c = record {
  accepted = (answer-file _ _ _ _ (sym c.formula.ensures.value ∙ c.in-Ok.is)).0;
}

pub overflow_sub-node : goal.overflow_sub-node
overflow_sub-node c =
    let counts = filled-counts _ _ _ _ (sym c.formula.ensures.value
    ∙ c.in-Ok.is) in
    let least = counts.1 in omega arith

pub formula_of-last-requires : goal.formula_of-last-requires
formula_of-last-requires c =
    let counts = filled-counts _ _ _ _ (sym c.formula.ensures.value ∙ c.in-Ok.is) in
    let least = counts.1 in
    let most = counts.2 in
    let size = c.formula.auto.work in
    omega arith

pub write_lines-requires : goal.write_lines-requires
write_lines-requires c =
    let formula = c.formula in
    let answered = sym formula.ensures.value ∙ c.in-Ok.is in
    let counts = filled-counts _ _ _ _ answered in
    let least = counts.1 in
    let most = counts.2 in
    let text = ap length c.new-writer.ensures.same_text in
    record {
      m_bound = (counts.0, omega arith, omega arith);
      formed = formula-formed _ _ _ _ c.formula_of-last.ensures (last-formed _ _ _ _ _ c.if-work-lt65536.false answered formula.ensures.work_after);
    }

pub returns-in-Ok : goal.returns-in-Ok
returns-in-Ok c =
    let formula = c.formula in
    let if1 = c.if-work-lt65536 in
    let answered = sym formula.ensures.value ∙ c.in-Ok.is in
    let lines = lines-alone _ _ _ _ _ (filled-counts _ _ _ _ answered).0 c.formula_of-last.ensures in
    let wrote = writes-front (writes-as lines c.write_lines.ensures) c.new-writer.ensures.same_text c.new-writer.ensures.front (search rules) c.len.ensures in
    let both = listed-done _ _ _ _ _ _ if1.false c.if-text-lt32768.false formula.ensures.work_after
    (wrote-listing _ _ _ _ _ _ _ _ _ if1.false answered formula.ensures.work_after
    c.named_attributes-named.ensures wrote) in
    record {
      value = both.0;
      text_after = both.1.0;
      work_after = both.1.1;
    }

pub returns-in-Err : goal.returns-in-Err
returns-in-Err c =
    let formula = c.formula in
    let if1 = c.if-work-lt65536 in
    let both = listed-done _ _ _ _ _ _ if1.false c.if-text-lt32768.false formula.ensures.work_after
    (wrote-refusal _ _ _ _ _ _ if1.false (sym formula.ensures.value ∙ c.in-Err.is)
    c.write_refused.ensures) in
    record {
      value = both.0;
      text_after = both.1.0;
      work_after = both.1.1;
    }
