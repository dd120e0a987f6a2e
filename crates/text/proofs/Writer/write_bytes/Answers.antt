use mathlib.Core.Path.{refl}
use Rattle.text.proofs.Writer.write_bytes.Goals as goal

pub returns : goal.returns
returns c = record { same_reference = refl; wrote = c.write_bytes-self.ensures }
