use native.Mathlib.Omega.{arith}
use Rattle.cover_table.specs.Table.{width_few, width-most}
use Rattle.verdict.proofs.witness.searched_verdict.Goals as goal

pub verdict_with-requires-clause-formed : goal.verdict_with-requires-clause-formed
verdict_with-requires-clause-formed c =
    let width = width_few c.args.m c.if-m-le4.true in
    (c.requires.formed, omega arith)

pub verdict_with-requires-2-clause-formed : goal.verdict_with-requires-2-clause-formed
verdict_with-requires-2-clause-formed c =
    let width = width-most c.args.m c.requires.m_bound.0 in
    (c.requires.formed, omega arith)
