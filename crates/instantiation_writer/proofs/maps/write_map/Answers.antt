use Rattle.instantiation_writer.proofs.MapBits.{cleared, over-cleared}
use borrow.Author.Rules.{rules}
use Rattle.instantiation_writer.proofs.maps.write_map.Goals as goal

pub set_bits-requires : goal.set_bits-requires
set_bits-requires c = (search rules, cleared _ _ c.clear_map.ensures)

pub returns : goal.returns
returns c = over-cleared _ _ _ _ c.clear_map.ensures c.set_bits.ensures
