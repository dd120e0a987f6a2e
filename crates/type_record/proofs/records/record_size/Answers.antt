use Rattle.refusal.specs.Chain.{chain}
use Rattle.type_record.specs.Record.{record_size}
use Rattle.type_record.proofs.records.record_size.Goals as goal

pub returns-then-count-eq0 : goal.returns-then-count-eq0
unfolding record_size
returns-then-count-eq0 c = search chain

pub returns-else-count-eq0 : goal.returns-else-count-eq0
unfolding record_size
returns-else-count-eq0 c = search chain
