use Rattle.type_sets.specs.SetLaws.{words-most, node-words}
use Rattle.expression_file.specs.Accepted.{accepted-file}
use native.Mathlib.Omega.{arith}
use Rattle.table_typing.proofs.tables.type_table.Goals as goal

pub type_sized-requires-in_default-clause-count_in_bounds : goal.type_sized-requires-in_default-clause-count_in_bounds
type_sized-requires-in_default-clause-count_in_bounds c =
    let pre = c.requires in
    let nodes = (accepted-file _ _ _ c.args.file.now.accepted).counts.nodes.1 in
    let node = pre.node_lt_n.0 in
    let wide = words-most c.args.node _ (omega arith) pre.writes_from.0.few in
    (pre.writes_from.1, node-words _ _ _ (omega arith))
