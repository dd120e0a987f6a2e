use Rattle.membership.specs.Entries.{entry}
use Rattle.entry_runs.specs.Runs.{copying-value}
use Rattle.bits.specs.Word.{word}
use Rattle.bits.specs.Tab.{get_or-tab}
use mathlib.Core.Path.{sym, ap, ◌∙◌}
use Prim.Native.Nat.{ℕ, ◌+◌, ◌*◌}
use native.Mathlib.Omega.{arith}
use Rattle.entering.proofs.merging.append_listed.Goals as goal

pub loop-i-preserved : goal.loop-i-preserved
loop-i-preserved c =
    let loop = c.loop-i in
    let args = c.args in
    let next = loop.invariant.1.next in (
      omega arith,
      copying-value loop.invariant.1 (omega arith) (ap (λ (w : ℕ). entry w args.subset) c.word_at.ensures
          ∙ sym (get_or-tab args.count (λ x. entry (word args.list.now (x * 2 + 1)) args.subset) loop.i 0 c.loop-i-test.true)),
    )
