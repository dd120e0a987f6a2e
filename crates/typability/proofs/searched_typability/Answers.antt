use native.Mathlib.Omega.{arith}
use Rattle.cover_table.specs.Table.{width_few, width-most}
use Rattle.typability.proofs.searched_typability.Goals as goal

pub table_typability-requires : goal.table_typability-requires
table_typability-requires c =
    let width = width_few c.args.m c.if-m-le4.true in
    record {
      m_bound = (c.requires.m_bound.0, c.requires.m_bound.1, omega arith);
      formed = c.requires.formed;
    }

pub table_typability-requires-2 : goal.table_typability-requires-2
table_typability-requires-2 c =
    let width = width-most c.args.m c.requires.m_bound.0 in
    record {
      m_bound = (c.requires.m_bound.0, c.requires.m_bound.1, omega arith);
      formed = c.requires.formed;
    }
