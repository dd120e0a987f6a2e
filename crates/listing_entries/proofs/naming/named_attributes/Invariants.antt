use Rattle.expression_file.specs.Walk.{Walk}
use Rattle.expression_file.specs.ReadFile.{node_at}
use Rattle.listing_entries.specs.Naming.{Named}
use Rattle.listing_entries.proofs.naming.named_attributes.Given as goal

abbrev pub invariant-loop-k : goal.invariant-loop-k
invariant-loop-k l = Walk l.file.bytes.now l.file.header.relations l.file.header.nodes l.k l.at × Named (node_at l.file.bytes.now) l.k l.set
