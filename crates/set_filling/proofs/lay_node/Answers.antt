use mathlib.Core.Path.{subst}
use native.Mathlib.Omega.{arith}
use Rattle.attribute_set.specs.Laws.{special-range}
use Rattle.node.specs.Legal.{LegalNode}
use Rattle.type_sets.specs.SetLaws.{node-below}
use Rattle.set_filling.proofs.lay_node.Goals as goal

pub lay_renaming-requires : goal.lay_renaming-requires
lay_renaming-requires c =
    let pre = c.requires in
    let legal = subst (LegalNode _ _) c.in-Renaming.is pre.m_bound.1 in
    let low = node-below _ _ c.args.width legal.0 in
    let old = special-range _ legal.1 in
    let new = special-range _ legal.2 in
    record {
      bound = (omega arith, omega arith);
      width_bound = (omega arith, omega arith);
      width_in_bounds = pre.width_value.1;
    }

pub lay_projecting_out-requires : goal.lay_projecting_out-requires
lay_projecting_out-requires c =
    let pre = c.requires in
    let legal = subst (LegalNode _ _) c.in-ProjectingOut.is pre.m_bound.1 in
    let low = node-below _ _ c.args.width legal.0 in
    let old = special-range _ legal.1 in
    record {
      bound = omega arith;
      width_bound = (omega arith, omega arith);
      width_in_bounds = pre.width_value.1;
    }
