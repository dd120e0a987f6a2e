use mathlib.Core.Path.{refl}
use Rattle.answer_numbers.proofs.write_parsing.Goals as goal

pub returns-in-Ok : goal.returns-in-Ok
returns-in-Ok c = rw c.in-Ok.is (record {
  value = refl;
  size_after = refl;
})

pub returns-in-Err : goal.returns-in-Err
returns-in-Err c = rw c.in-Err.is (record {
  value = c.number.ensures;
  size_after = refl;
})
