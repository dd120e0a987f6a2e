use mathlib.Core.List.{[]}
use Rattle.bits.specs.Bit.{bit}
use Rattle.bits.specs.Pack.{pack}
use Rattle.bits.specs.Tab.{tab, get_or-tab}
use Rattle.column.specs.Tables.{member_byte}
use Rattle.column.proofs.tables.member_map.Goals as goal

-- the table is what its rule computes: antt compares the two
pub returns : goal.returns
unfolding tab member_byte pack bit
returns c = get_or-tab 8 (λ r. tab 32 (member_byte r)) _ [] c.requires
