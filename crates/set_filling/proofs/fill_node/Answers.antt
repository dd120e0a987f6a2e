use Prim.Native.Nat.{ℕ, ◌+◌}
use mathlib.Core.Path.{sym, ap, subst, ◌∙◌}
use native.Mathlib.Omega.{arith}
use Rattle.std.proofs.Math.Seq.{take-length}
use Rattle.node.specs.Legal.{LegalNode}
use Rattle.expression_file.specs.Walk.{here-decoded}
use Rattle.type_sets.proofs.FilledSets.{filled-node}
use Rattle.set_filling.proofs.fill_node.Goals as goal

pub decode-decoding-requires : goal.decode-decoding-requires
decode-decoding-requires c = (here-decoded _ _ _ _ c.requires.here).checked

pub lay_node-requires : goal.lay_node-requires
lay_node-requires c =
    let pre = c.requires in
    let here = here-decoded _ _ _ _ pre.here in
    record {
      m_bound = (pre.here.relations, subst (LegalNode _ _) (sym (c.decode-decoding.ensures.node_value ∙ here.node-is)) pre.here.legal);
      special_len = pre.special_len;
      groups = pre.groups;
      width_value = pre.width_value;
    }

pub overflow_add-result : goal.overflow_add-result
overflow_add-result c =
    let pre = c.requires in
    let fits = pre.here.fits in
    let size = c.decode-decoding.ensures.size_value ∙ (here-decoded _ _ _ _ pre.here).decoding-size in
    omega arith

pub returns : goal.returns
returns c =
    let decode = c.decode-decoding in
    let args = c.args in
    let pre = c.requires in
    let here = here-decoded args.file.now.bytes.now args.file.now.header.relations args.k args.at pre.here in
    let node = decode.ensures.node_value ∙ here.node-is in
    let size = decode.ensures.size_value ∙ here.decoding-size in
    let wide = pre.width_value.0 in
    record {
      value = ap (λ (n : ℕ). args.at + n) size;
      filled_2 = rw take-length at (filled-node args.file.now.bytes.now args.special.now args.entries.now _ args.width args.file.now.header.relations args.k args.sets.now _ _ (omega arith) (omega arith) node pre.here.legal
          (λ p. omega (arith, c.slice_known-1.given p)) (rw take-length pre.filled) c.lay_node.ensures);
    }
