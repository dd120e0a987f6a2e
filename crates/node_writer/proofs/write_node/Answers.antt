use Rattle.node_writer.proofs.write_node.Goals as goal

pub returns-in-Relation : goal.returns-in-Relation
returns-in-Relation c = rw (c.in-Relation.is) (c.write_bytes.ensures)

pub returns-in-Binary : goal.returns-in-Binary
returns-in-Binary c = rw (c.in-Binary.is, ← c.binary_code.ensures) (c.write_bytes-in-Binary.ensures)

pub returns-in-WithSet : goal.returns-in-WithSet
returns-in-WithSet c = rw (c.in-WithSet.is, ← c.set_code.ensures, ← c.to_bits-bits.ensures) (c.write_bytes-in-WithSet.ensures)

pub returns-in-Renaming : goal.returns-in-Renaming
returns-in-Renaming c = rw (c.in-Renaming.is) (c.write_bytes-in-Renaming.ensures)

pub returns-in-ProjectingOut : goal.returns-in-ProjectingOut
returns-in-ProjectingOut c = rw (c.in-ProjectingOut.is) (c.write_bytes-in-ProjectingOut.ensures)
