use native.Mathlib.Omega.{arith}
use mathlib.Core.Path.{refl}
use Rattle.text.specs.Put.{wrote-byte}
use Rattle.text.proofs.Writer.write_byte.Goals as goal

pub returns : goal.returns
returns c = record { same_reference = refl; wrote = wrote-byte c.args.self.now.at c.args.b c.args.self.now.text.now (omega arith) }
