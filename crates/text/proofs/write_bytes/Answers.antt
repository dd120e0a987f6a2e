use Rattle.text.specs.Put.{wrote-copied}
use Rattle.text.proofs.write_bytes.Goals as goal

pub returns : goal.returns
returns c =
    wrote-copied c.args.at c.args.bytes.now c.args.text.now _ c.requires c.copy_bytes.ensures
