use mathlib.Core.Path.{sym, ap, ◌∙◌}
use native.Mathlib.Omega.{arith}
use Rattle.node.specs.Legal.{last-map}
use Rattle.node.specs.Reading.{checked-legal, checked-some, checked-long, node-is, relation-size, binary-size, set-size, renaming-size, out-size}
use Rattle.node.specs.ReadNode.{size_of}
use Rattle.node_reader.proofs.decoding.decode.Goals as goal

pub bounds-bytes-0 : goal.bounds-bytes-0
bounds-bytes-0 c = checked-some _ c.requires

pub bounds-bytes-1 : goal.bounds-bytes-1
bounds-bytes-1 c = let long = checked-long _ 1 c.in-1.is c.requires in omega (arith, relation-size)

pub bounds-bytes-3 : goal.bounds-bytes-3
bounds-bytes-3 c = let long = checked-long _ 14 c.in-14.is c.requires in omega (arith, binary-size)

pub bounds-bytes-1-in-14 : goal.bounds-bytes-1-in-14
bounds-bytes-1-in-14 c = let long = checked-long _ 14 c.in-14.is c.requires in omega (arith, binary-size)

pub bounds-bytes-2 : goal.bounds-bytes-2
bounds-bytes-2 c =
    let long = checked-long _ 14 c.in-14.is c.requires in
    omega (arith, binary-size)

pub decode_with_set-requires : goal.decode_with_set-requires
decode_with_set-requires c = (c.requires, c.in-26.is)

pub bounds-bytes-1-in-98 : goal.bounds-bytes-1-in-98
bounds-bytes-1-in-98 c = let long = checked-long _ 98 c.in-98.is c.requires in omega (arith, renaming-size)

pub bounds-bytes-2-in-98 : goal.bounds-bytes-2-in-98
bounds-bytes-2-in-98 c = let long = checked-long _ 98 c.in-98.is c.requires in omega (arith, renaming-size)

pub bounds-bytes-3-in-98 : goal.bounds-bytes-3-in-98
bounds-bytes-3-in-98 c = let long = checked-long _ 98 c.in-98.is c.requires in omega (arith, renaming-size)

pub bounds-bytes-1-in_default : goal.bounds-bytes-1-in_default
bounds-bytes-1-in_default c =
    let rest = c.in_default.in_default-own.rest in
    let pre = c.requires in
    let is = (last-map _ (checked-legal _ pre) rest.0.0.0.1 rest.0.0.1 rest.0.1 rest.1) in
    let long = checked-long _ 34 is pre in
    omega (arith, out-size)

pub bounds-bytes-2-in_default : goal.bounds-bytes-2-in_default
bounds-bytes-2-in_default c =
    let rest = c.in_default.in_default-own.rest in
    let pre = c.requires in
    let is = (last-map _ (checked-legal _ pre) rest.0.0.0.1 rest.0.0.1 rest.0.1 rest.1) in
    let long = checked-long _ 34 is pre in
    omega (arith, out-size)

pub returns-in-1 : goal.returns-in-1
returns-in-1 c =
    record {
      node_value = node-is _ 1 c.in-1.is;
      size_value = sym (ap size_of c.in-1.is ∙ relation-size);
    }

pub returns-in-14 : goal.returns-in-14
returns-in-14 c =
    let keys2 = c.in-14.is in
    record {
      node_value = rw c.binary_operator.ensures (node-is _ 14 keys2);
      size_value = sym (ap size_of keys2 ∙ binary-size);
    }

pub returns-in-26 : goal.returns-in-26
returns-in-26 c =
    record {
      node_value = c.decode_with_set.ensures;
      size_value = sym (ap size_of c.in-26.is ∙ set-size);
    }

pub returns-in-98 : goal.returns-in-98
returns-in-98 c =
    let keys4 = c.in-98.is in
    record {
      node_value = node-is _ 98 keys4;
      size_value = sym (ap size_of keys4 ∙ renaming-size);
    }

pub returns-in_default : goal.returns-in_default
returns-in_default c =
    let rest = c.in_default.in_default-own.rest in
    let is = (last-map _ (checked-legal _ c.requires) rest.0.0.0.1 rest.0.0.1 rest.0.1 rest.1) in
    record {
      node_value = node-is _ 34 is;
      size_value = sym (ap size_of is ∙ out-size);
    }
