use Prim.Native.Nat.{◌+◌, ◌*◌}
use mathlib.Core.Path.{sym, ◌∙◌}
use native.Mathlib.Omega.{arith}
use Rattle.types.specs.Memberships.{members-ones, ones-most}
use Rattle.set_cover.specs.Remainder.{rest}
use Rattle.cover_rows.specs.LowEntries.{low-entry}
use Rattle.cover_rows.specs.Tried.{Reached, Through, reached-more, reached-skip, reached-end}
use Rattle.cover_rows.proofs.rows.try_low.Goals as goal
use Rattle.cover_rows.proofs.rows.try_low.Goals.{Joined-allowed_in, then-allowed_in, else-allowed_in}

pub lower_row-requires : goal.lower_row-requires
lower_row-requires c =
    let args = c.args in
    let pre = c.requires in
    let loop = c.loop-s in
    let below = c.loop-s-test.true in
    let few = ones-most loop.s (omega arith) in (
      pre.low_bound.1,
      omega arith,
      omega arith,
      λ x h. (let e = c.low_entries.ensures.front x h in let most = pre.low_bound.3 (rest x args.low) in omega (arith, low-entry args.next.now args.low x)),
    )

-- the row after one subset
stepped : (c : Joined-allowed_in) → Reached c.args.column.now c.args.next.now (c.args.blocks * 16) c.args.count (Through c.args.low (c.loop-s.s + 16)) c.if-allowed_in.row
stepped c =
    let args = c.args in
    let pre = c.requires in
    let loop = c.loop-s in
    let below = c.loop-s-test.true in
    elim c.if-allowed_in.branch [
      | then-allowed_in w ↦
          rw (w.row-is)
          (reached-more (omega arith) pre.low_bound.2 args.low loop.s _ loop.invariant.0 below (sym c.allowed_in.ensures ∙ w.if-allowed_in.true) c.low_entries.ensures.front loop.invariant.2
          (rw (members-ones loop.s (omega arith)) at w.lower_row.ensures))
      | else-allowed_in w ↦
          rw (w.row-is)
          (reached-skip (omega arith) pre.low_bound.2 args.low loop.s loop.invariant.0 (sym c.allowed_in.ensures ∙ w.if-allowed_in.false) loop.invariant.2)
    ]

pub loop-s-preserved : goal.loop-s-preserved
loop-s-preserved c =
    let loop = c.loop-s in
    (omega arith, omega arith, stepped (goal.at.loop-s-preserved c).Joined-allowed_in)

pub returns-after-allowed_in : goal.returns-after-allowed_in
returns-after-allowed_in c =
    let pre = c.requires in
    let loop = c.loop-s in
    reached-end (omega arith) pre.low_bound.2 c.args.low (loop.s + 16) (omega arith) (stepped (goal.at.returns-after-allowed_in c).Joined-allowed_in)

pub returns : goal.returns
returns c =
    let loop = c.loop-s in
    let pre = c.requires in
    reached-end (omega arith) pre.low_bound.2 c.args.low loop.s c.loop-s-test.false loop.invariant.2
