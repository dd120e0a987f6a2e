use Prim.Native.Nat.{ℕ, ◌+◌}
use mathlib.Core.Path.{sym, ap, subst, ◌∙◌}
use native.Mathlib.Omega.{arith}
use Rattle.node.specs.Legal.{LegalNode}
use Rattle.expression_file.specs.Walk.{here-decoded}
use Rattle.stored_formula.specs.FilledNodes.{node-filled}
use Rattle.filling.proofs.fill_node.Goals as goal

pub decode-decoding-requires : goal.decode-decoding-requires
decode-decoding-requires c = (here-decoded _ _ _ _ c.requires.here).checked

pub fill_formula-requires : goal.fill_formula-requires
fill_formula-requires c =
    let pre = c.requires in
    let here = here-decoded _ _ _ _ pre.here in
    record {
      m_bound = (pre.here.relations, subst (LegalNode _ _) (sym (c.decode-decoding.ensures.node_value ∙ here.node-is)) pre.here.legal);
      formula_size_in_bounds = pre.formula_size_in_bounds;
    }

pub overflow_add-result : goal.overflow_add-result
overflow_add-result c =
    let pre = c.requires in
    let fits = pre.here.fits in
    let size = c.decode-decoding.ensures.size_value ∙ (here-decoded _ _ _ _ pre.here).decoding-size in
    omega arith

pub returns : goal.returns
returns c =
    let decode = c.decode-decoding in
    let pre = c.requires in
    let here = here-decoded _ c.args.m _ _ pre.here in
    let node = decode.ensures.node_value ∙ here.node-is in
    let size = decode.ensures.size_value ∙ here.decoding-size in
    record {
      value = ap (λ (n : ℕ). c.args.at + n) size;
      filled_to_2 = node-filled _ _ _ _ _ pre.here.legal pre.formula_size_in_bounds pre.filled_to (rw node at c.fill_formula.ensures);
    }
