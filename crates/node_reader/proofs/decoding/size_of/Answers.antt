use mathlib.Core.Path.{sym, ap, ◌∙◌}
use Rattle.node.specs.Legal.{last-map}
use Rattle.node.specs.Reading.{relation-size, binary-size, set-size, renaming-size, out-size}
use Rattle.node.specs.ReadNode.{size_of}
use Rattle.node_reader.proofs.decoding.size_of.Goals as goal

pub returns-in-1 : goal.returns-in-1
returns-in-1 c = sym (ap size_of c.in-1.is ∙ relation-size)

pub returns-in-14 : goal.returns-in-14
returns-in-14 c = sym (ap size_of c.in-14.is ∙ binary-size)

pub returns-in-26 : goal.returns-in-26
returns-in-26 c = sym (ap size_of c.in-26.is ∙ set-size)

pub returns-in-98 : goal.returns-in-98
returns-in-98 c = sym (ap size_of c.in-98.is ∙ renaming-size)

pub returns-in_default : goal.returns-in_default
returns-in_default c =
    let is = last-map _ c.requires c.in_default.in_default-own.rest.0.0.0.1 c.in_default.in_default-own.rest.0.0.1 c.in_default.in_default-own.rest.0.1 c.in_default.in_default-own.rest.1 in
    sym (ap size_of is ∙ out-size)
