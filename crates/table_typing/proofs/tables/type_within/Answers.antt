use Rattle.membership.specs.HolderLaws.{listed-fits}
use Rattle.algebra.specs.Cell.{plain, out}
use Rattle.bits.specs.Bit.{bit}
use Rattle.typing_answer.proofs.TypingLaws.{table-untyped, output-bits, map-fits, table-typed}
use Rattle.node_expression.specs.NodeExpression.{expression_at, expression-legal}
use Rattle.std.specs.Prelude.{ℕ, List, length, take}
use Rattle.std.proofs.Math.Seq.{take-length}
use Rattle.type_sets.specs.FilledSets.{Filled}
use native.Mathlib.Omega.{arith}
use Rattle.table_typing.proofs.tables.type_within.Goals as goal

-- the entries are all of their list
whole : (file special entries : List ℕ) (width k : ℕ) (sets : List ℕ) → Filled file special entries width k sets → Filled file special (take (length entries) entries) width k sets
whole file special entries width k sets filled = rw take-length filled

pub returns-then-sets-at-ne0 : goal.returns-then-sets-at-ne0
returns-then-sets-at-ne0 c =
    let pre = c.requires in
    let both = rw take-length at (table-untyped _ _ _ (expression-legal _ _ _ c.args.file.now.accepted _ pre.node_lt_n.0) _ _ _
    (λ r. omega (arith, c.type_inv.special r)) pre.writes_from _
    (whole _ _ _ _ _ _ c.fill_sets.ensures) (λ p. omega (arith, c.slice_known-4-1.given p)) c.args.out.now (λ z. c.if-sets-at-ne0.true z)) in
    record {
      value = both.0;
      out_after = both.1;
    }

pub overflow_cast-map : goal.overflow_cast-map
overflow_cast-map c =
    let pre = c.requires in
    let fits = (map-fits _ _ _ (expression-legal _ _ _ c.args.file.now.accepted _ pre.node_lt_n.0) _ _ _
    (λ r. omega (arith, c.type_inv.special r)) pre.writes_from _
    (whole _ _ _ _ _ _ c.fill_sets.ensures) (λ p. omega (arith, c.slice_known-4-1.given p)) c.if-sets-at-ne0.false).0 in
    omega arith

pub list_output-listed-requires : goal.list_output-listed-requires
list_output-listed-requires c =
    let fill-sets = c.fill_sets in
    let pre = c.requires in
    record {
      count_in_bounds = pre.count_in_bounds.0;
      output_bits = output-bits _ _ _ (expression-legal _ _ _ c.args.file.now.accepted _ pre.node_lt_n.0) _ _ _
          (λ r. omega (arith, c.type_inv.special r)) pre.writes_from _
          (whole _ _ _ _ _ _ fill-sets.ensures) (λ p. omega (arith, c.slice_known-4-1.given p)) c.if-sets-at-ne0.false
          (let room = pre.count_in_bounds.1 in let same = fill-sets.auto.sets in omega arith);
    }

pub write_record-requires : goal.write_record-requires
write_record-requires c =
    let pre = c.requires in
    record {
      special_value = (map-fits _ _ _ (expression-legal _ _ _ c.args.file.now.accepted _ pre.node_lt_n.0) _ _ _
          (λ r. omega (arith, c.type_inv.special r)) pre.writes_from _
          (whole _ _ _ _ _ _ c.fill_sets.ensures) (λ p. omega (arith, c.slice_known-4-1.given p)) c.if-sets-at-ne0.false).1;
      listed_len_bound = listed-fits c.args.entries.now (length c.args.entries.now) (λ x. out plain (expression_at c.args.file.now.bytes.now c.args.node) 0 (bit x)) _ (rw take-length c.list_output-listed.ensures.value)
          (rw take-length c.list_output-listed.ensures.list_after) pre.writes_from.fit pre.writes_from.few;
      output_size_in_bounds = pre.node_lt_n.1;
    }

pub returns : goal.returns
returns c =
    let pre = c.requires in
    let both = rw take-length at (table-typed _ _ _ (expression-legal _ _ _ c.args.file.now.accepted _ pre.node_lt_n.0) _ _ _
    (λ r. omega (arith, c.type_inv.special r)) pre.writes_from _
    (whole _ _ _ _ _ _ c.fill_sets.ensures) (λ p. omega (arith, c.slice_known-4-1.given p)) c.if-sets-at-ne0.false _ _ _ _
    (rw take-length c.list_output-listed.ensures.list_after) c.write_record.ensures.value
    c.write_record.ensures.out_after) in
    record {
      value = both.0;
      out_after = both.1;
    }
