use native.Mathlib.Omega.{arith}
use Rattle.record.specs.RecordLaws.{record-most}
use Rattle.print_round_trip.proofs.print_record.Goals as goal

pub overflow_cast-part : goal.overflow_cast-part
overflow_cast-part g c = let most = record-most c.args.file.now c.args.node in rw c.record-part.ensures.result_value (omega arith)
