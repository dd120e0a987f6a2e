use Rattle.std.specs.Prelude.{ℕ, List, length, take}
use mathlib.Core.Path.{sym}
use Rattle.membership.specs.HolderLaws.{items-taken, taken-fit}
use Rattle.apply_answer.specs.ApplyLaws.{ReadSubsets, filled-space, read-subsets, read-stopped, read-stops, read_goes}
use native.Mathlib.Omega.{arith}
use Rattle.instantiation_application.proofs.apply_instantiation.Goals as goal
use Rattle.std.proofs.Common.{◌∙◌}

pub read_instantiation-requires : goal.read_instantiation-requires
read_instantiation-requires c = c.requires.room_for

pub fill-requires : goal.fill-requires
fill-requires c =
    let pre = c.requires in
    record {
      formula_size_in_bounds = pre.node_lt_n.1;
    }

-- the first of the entries are a slice of their own
subsets-taken : {subsets items : List ℕ} {count : ℕ} → ReadSubsets subsets items count → ReadSubsets subsets (take count items) (length (take count items))
subsets-taken table =
    let size = items-taken table.fit in
    let few = table.few in
    record {
      special = table.special;
      small = table.small;
      none = table.none;
      few = omega arith;
      fit = taken-fit table.fit;
    }

pub slice_bounds-apply_table-end-2 : goal.slice_bounds-apply_table-end-2
slice_bounds-apply_table-end-2 c =
    let table = (read-subsets _ _ _ (λ x. omega (arith, c.type_inv.bytes x)) c.in-Ok.ensures.value
    c.read_instantiation.ensures.entries_stand).table in
    table.fit.enough

pub slice_bounds-apply_table-end-3 : goal.slice_bounds-apply_table-end-3
slice_bounds-apply_table-end-3 c =
    let table = (read-subsets _ _ _ (λ x. omega (arith, c.type_inv.bytes x)) c.in-Ok.ensures.value
    c.read_instantiation.ensures.entries_stand).table in
    sym (items-taken table.fit)

pub apply_table-requires : goal.apply_table-requires
apply_table-requires c =
    let table = (read-subsets _ _ _ (λ x. omega (arith, c.type_inv.bytes x)) c.in-Ok.ensures.value
    c.read_instantiation.ensures.entries_stand).table in
    let size = items-taken table.fit in
    let room = c.in-Ok.ensures.count_in_bounds in
    let fill = c.fill in
    let pre = c.requires in
    record {
      node_lt_n = pre.node_lt_n.0;
      filled = (filled-space _ _ _ _ _ _ pre.node_lt_n.0 pre.node_lt_n.1 fill.ensures fill.auto.work);
      read_subsets = subsets-taken table;
      schema_size_in_bounds = (pre.schema_size_in_bounds.0, pre.schema_size_in_bounds.1, omega arith);
    }

pub returns-in-Err : goal.returns-in-Err
returns-in-Err c =
    let both = read-stops _ _ _ _ _ _ _ _ _ (read-stopped _ _ (sym c.in-Err.is ∙ c.read_instantiation.ensures.value)) in
    record {
      value = both.0;
      work_after = both.1.0;
      schema_after = both.1.1.0;
      out_after = both.1.1.1;
    }

pub returns : goal.returns
returns c =
    let apply-table = c.apply_table in
    let read-instantiation = c.read_instantiation in
    let table = (read-subsets _ _ _
    (λ x. omega (arith, c.type_inv.bytes x))
    c.in-Ok.ensures.value read-instantiation.ensures.entries_stand) in
    let both = read_goes _ _ _ _ _ _ _ _ table.judged _ _ _ _ c.fill.ensures (rw (← table.subsets, ← table.entries) apply-table.ensures.value)
    (rw (← table.subsets, ← table.entries) apply-table.ensures.schema_after) (rw (← table.subsets, ← table.entries) apply-table.ensures.out_after) in
    record {
      value = both.0;
      work_after = both.1.0;
      schema_after = both.1.1.0;
      out_after = both.1.1.1;
    }
