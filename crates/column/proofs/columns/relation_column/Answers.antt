use Prim.Native.Nat.{ℕ}
use mathlib.Core.Path.{sym, ap, ap₂, ◌∙◌}
use mathlib.Core.List.{List}
use native.Mathlib.Omega.{arith}
use lib.Bits.{bit_and}
use lib.ListN.{get_or}
use Rattle.bits.specs.Tab.{get_or-tab}
use Rattle.column.specs.ColumnLaws.{plain-relation, filling-both, filling-end}
use Rattle.column.specs.ColumnBytes.{relation-allowed, relation-output}
use Rattle.column.proofs.columns.relation_column.Goals as goal

pub loop-j-preserved : goal.loop-j-preserved
loop-j-preserved c =
    let loop = c.loop-j in
    let args = c.args in
    let byte = c.subset_byte-allowed.ensures in
    let member = ap (λ (l : List ℕ). get_or l loop.j 0) loop.invariant.2 ∙ get_or-tab 32 _ _ 0 c.loop-j-test.true in (
      omega arith,
      filling-both _ _ _ _ _ c.loop-j-test.true (byte ∙ relation-allowed _ _) (ap₂ bit_and byte member ∙ relation-output _ _ _) loop.invariant.1,
      loop.invariant.2,
    )

pub returns : goal.returns
returns c = filling-end _ _ _ (omega arith) c.loop-j.invariant.1 ∙ sym (plain-relation _ _)
