use mathlib.Core.Path.{sym, ap, ◌∙◌}
use native.Mathlib.Nat.{mod-eq_of_lt, lt_of_le_of_lt}
use lib.Dec.{lit<}
use Rattle.node.specs.Reading.{node-legal}
use Rattle.node_word.specs.NodeWord.{reading_number}
use Rattle.type_formula.proofs.type_formula_read_node.Goals as goal

pub returns-in-Ok : goal.returns-in-Ok
returns-in-Ok c =
    let e = sym c.read_node.ensures ∙ c.in-Ok.is in
    let most = (node-legal _ _ _ _ _ e).most in
    simp (c.read_word.ensures, mod-eq_of_lt {m = 256} (lt_of_le_of_lt most (lit< tt))) (ap reading_number (sym e))

pub returns-in-Err : goal.returns-in-Err
returns-in-Err c = c.number.ensures ∙ ap reading_number (sym c.in-Err.is ∙ c.read_node.ensures)
