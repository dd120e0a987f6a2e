use Rattle.text.specs.CharacterLaws.{hex-low, hex-high}
use Rattle.text.proofs.hex_digit.Goals as goal

pub returns-then-d-lt10 : goal.returns-then-d-lt10
returns-then-d-lt10 c = hex-low c.args.d c.if-d-lt10.true

pub returns : goal.returns
returns c = hex-high c.args.d c.if-d-lt10.false
