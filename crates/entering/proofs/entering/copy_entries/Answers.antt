use Rattle.std.proofs.Common.{◌≡◌, min, arith, rules}
use Rattle.entering.specs.Entering.{copy-room, copied-table}
use Rattle.entering.proofs.entering.copy_entries.Goals as goal

pub copy_run-requires : goal.copy_run-requires
copy_run-requires c =
    let is : c.min.result ≡ min 256 c.args.count = search rules in
    let enough = c.requires.0 in
    record {
      from_le_end = (omega arith, omega arith);
      from_in_bounds = copy-room c.args.count c.min.result c.args.items.now c.requires.1 (omega arith) (omega arith);
    }

pub returns : goal.returns
returns c = copied-table c.requires.0 c.requires.1 (search rules) c.copy_run.ensures
