use Prim.Native.Nat.{◌+◌, ◌*◌}
use mathlib.Core.Path.{◌≡◌}
use native.Mathlib.Omega.{arith}
use Rattle.expression_file.specs.Walk.{walk_first, walk-next, walk_here}
use Rattle.stored_formula.specs.FilledNodes.{filled-all}
use Rattle.bits.specs.Written.{written_none, written-self, written-again}
use Rattle.filling.proofs.fill.Goals as goal

pub loop-k-init : goal.loop-k-init
loop-k-init c = (omega arith, walk_first _ _ _ c.args.file.now.accepted, written_none _ _)

pub fill_node-at-requires : goal.fill_node-at-requires
fill_node-at-requires c =
    let loop = c.loop-k in
    let size = loop.invariant.2.size in
    record {
      here = walk_here _ _ _ _ _ c.args.file.now.accepted c.loop-k-test.true loop.invariant.1;
      formula_size_in_bounds = let fits = c.requires.formula_size_in_bounds in omega arith;
      filled_to = written-self _ _ _ _ loop.invariant.2;
    }

pub loop-k-preserved : goal.loop-k-preserved
loop-k-preserved c =
    let loop = c.loop-k in
    let step = walk-next _ _ _ _ _ loop.invariant.1 c.loop-k-test.true in
    let place : (loop.k + 1) * 1024 ≡ loop.k * 1024 + 1024 = omega arith in (
      omega arith,
      rw c.fill_node-at.ensures.value step.next,
      rw place (written-again _ _ _ _ _ _ (omega arith) loop.invariant.2 c.fill_node-at.ensures.filled_to_2),
    )

pub returns : goal.returns
returns c =
    let all : c.loop-k.k ≡ c.args.file.now.header.nodes = omega arith in
    filled-all _ _ _ _ _ c.requires.formula_size_in_bounds (rw all at c.loop-k.invariant.2)
