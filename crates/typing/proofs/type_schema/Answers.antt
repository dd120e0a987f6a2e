use Rattle.std.proofs.lemmas.Result.{err_from_is_err_and}
use Rattle.typing_answer.specs.TypingLaws.{schema-table, read-stopped}
use Rattle.typing_answer.proofs.TypingLaws.{schema-stops, schema-goes}
use Rattle.expression_file.specs.Accepted.{accepted-file}
use Rattle.schema.specs.TableLaws.{writes-taken}
use Rattle.membership.specs.HolderLaws.{items-taken}
use mathlib.Core.Path.{sym}
use native.Mathlib.Omega.{arith}
use Rattle.typing.proofs.type_schema.Goals as goal
use Rattle.std.proofs.Common.{◌∙◌}

pub read_filled_schema-requires : goal.read_filled_schema-requires
read_filled_schema-requires c =
    let pre = c.requires in
    record {
      m_bound = (accepted-file _ _ _ c.args.file.now.accepted).counts.relations.1;
      room_for = pre.room_for;
    }

pub slice_bounds-type_table-end-2 : goal.slice_bounds-type_table-end-2
slice_bounds-type_table-end-2 c =
    let table = (schema-table _ _ _ _ (accepted-file _ _ _ c.args.file.now.accepted).counts.relations.1
    (λ x. omega (arith, c.type_inv.bytes x)) c.in_ok-schema.ensures.value
    c.read_filled_schema.ensures.entries_stand) in
    table.table.fit.enough

pub slice_bounds-type_table-end-3 : goal.slice_bounds-type_table-end-3
slice_bounds-type_table-end-3 c =
    let table = (schema-table _ _ _ _ (accepted-file _ _ _ c.args.file.now.accepted).counts.relations.1
    (λ x. omega (arith, c.type_inv.bytes x)) c.in_ok-schema.ensures.value
    c.read_filled_schema.ensures.entries_stand) in
    sym (items-taken table.table.fit)

pub type_table-requires : goal.type_table-requires
type_table-requires c =
    let read-filled-schema = c.read_filled_schema in
    let pre = c.requires in
    let table = (schema-table _ _ _ _ (accepted-file _ _ _ c.args.file.now.accepted).counts.relations.1
    (λ x. omega (arith, c.type_inv.bytes x)) c.in_ok-schema.ensures.value
    read-filled-schema.ensures.entries_stand) in
    let size = items-taken table.table.fit in
    let room = c.in_ok-schema.ensures.count_in_bounds in
    record {
      node_lt_n = pre.node_lt_n;
      writes_from = (writes-taken table.table, omega arith);
    }

pub returns-in_err-schema : goal.returns-in_err-schema
returns-in_err-schema c =
    let stopped = read-stopped _ _ _ (sym c.in_err-schema.was ∙ c.read_filled_schema.ensures.value) in
    let both = schema-stops _ _ _ _ stopped in
    let p = err_from_is_err_and c.from_residual.result c.from_residual.ensures.1 in
    rw (p.1, p.2)
    (record {
      value = both.0;
      out_after = both.1;
    })

pub returns : goal.returns
returns c =
    let read-filled-schema = c.read_filled_schema in
    let table = (schema-table _ _ _ _ (accepted-file _ _ _
    c.args.file.now.accepted).counts.relations.1
    (λ x. omega (arith, c.type_inv.bytes x)) c.in_ok-schema.ensures.value
    read-filled-schema.ensures.entries_stand) in
    let both = schema-goes _ _ _ table.judged _ _ (rw (← table.special, ← table.entries) c.type_table.ensures.value)
    (rw (← table.special, ← table.entries) c.type_table.ensures.out_after) in
    record {
      value = both.0;
      out_after = both.1;
    }
