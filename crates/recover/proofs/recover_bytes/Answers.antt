use Rattle.std.proofs.lemmas.Result.{err_from_is_err_and}
use Rattle.recover_answer.specs.RecoverLaws.{read-stops, read_goes}
use Rattle.apply_answer.specs.ApplyLaws.{filled-space}
use Rattle.typing_answer.specs.TypingLaws.{schema-table, read-stopped}
use Rattle.expression_file.specs.Accepted.{accepted-file}
use Rattle.schema.specs.TableLaws.{writes-taken}
use Rattle.membership.specs.HolderLaws.{items-taken}
use mathlib.Core.Path.{sym}
use native.Mathlib.Omega.{arith}
use Rattle.recover.proofs.recover_bytes.Goals as goal
use Rattle.std.proofs.Common.{◌∙◌}

pub read_filled_schema-requires : goal.read_filled_schema-requires
read_filled_schema-requires c =
    let pre = c.requires in
    record {
      m_bound = (accepted-file _ _ _ c.args.file.now.accepted).counts.relations.1;
      room_for = pre.room_for;
    }

pub fill-requires : goal.fill-requires
fill-requires c =
    let pre = c.requires in
    record {
      formula_size_in_bounds = pre.node_lt_n.1;
    }

pub slice_bounds-recover_table-end-2 : goal.slice_bounds-recover_table-end-2
slice_bounds-recover_table-end-2 c =
    let table = (schema-table _ _ _ _ (accepted-file _ _ _ c.args.file.now.accepted).counts.relations.1 (λ x. omega (arith, c.type_inv.bytes x))
    c.in_ok-read.ensures.value c.read_filled_schema.ensures.entries_stand).table in
    table.fit.enough

pub slice_bounds-recover_table-end-3 : goal.slice_bounds-recover_table-end-3
slice_bounds-recover_table-end-3 c =
    let table = (schema-table _ _ _ _ (accepted-file _ _ _ c.args.file.now.accepted).counts.relations.1 (λ x. omega (arith, c.type_inv.bytes x))
    c.in_ok-read.ensures.value c.read_filled_schema.ensures.entries_stand).table in
    sym (items-taken table.fit)

pub recover_table-requires : goal.recover_table-requires
recover_table-requires c =
    let fill = c.fill in
    let table = (schema-table _ _ _ _ (accepted-file _ _ _ c.args.file.now.accepted).counts.relations.1 (λ x. omega (arith, c.type_inv.bytes x))
    c.in_ok-read.ensures.value c.read_filled_schema.ensures.entries_stand).table in
    let size = items-taken table.fit in
    let room = c.in_ok-read.ensures.count_in_bounds in
    let pre = c.requires in
    record {
      filled = (filled-space _ _ _ _ _ _ pre.node_lt_n.0 pre.node_lt_n.1 fill.ensures fill.auto.work);
      writes_from = writes-taken table;
      instantiation_size_in_bounds = (pre.instantiation_size_in_bounds, omega arith);
    }

pub returns-in_err-read : goal.returns-in_err-read
returns-in_err-read c =
    let both = read-stops _ _ _ _ _ _ _ _ (read-stopped _ _ _ (sym c.in_err-read.was ∙ c.read_filled_schema.ensures.value)) in
    let p = err_from_is_err_and c.from_residual.result c.from_residual.ensures.1 in
    rw (p.1, p.2)
    (record {
      value = both.0;
      work_after = both.1.0;
      out_after = both.1.1;
    })

pub returns : goal.returns
returns c =
    let read-filled-schema = c.read_filled_schema in
    let table = (schema-table _ _ _ _ (accepted-file _ _ _
    c.args.file.now.accepted).counts.relations.1
    (λ x. omega (arith, c.type_inv.bytes x))
    c.in_ok-read.ensures.value read-filled-schema.ensures.entries_stand) in
    let both = read_goes _ _ _ _ _ _ _ table.judged _ _ _ c.fill.ensures
    (rw (← table.special, ← table.entries) c.recover_table.ensures.value)
    (rw (← table.special, ← table.entries) c.recover_table.ensures.out_after) in
    record {
      value = both.0;
      work_after = both.1.0;
      out_after = both.1.1;
    }
