use Prim.Native.Nat.{◌+◌, ◌*◌}
use mathlib.Core.Path.{◌≡◌, sym, ap, ◌∙◌}
use native.Mathlib.Omega.{arith}
use lib.ListN.{length, length-set}
use Rattle.bits.specs.Written.{written-self, written-again}
use Rattle.type_record.specs.Record.{record_size}
use Rattle.type_record.specs.RecordBytes.{size_none, size-some}
use Rattle.type_record.specs.WritingLaws.{written-short, written-head, written-attribute, written-bytes}
use Rattle.type_record.proofs.writing.write_record.Goals as goal

pub bounds-out-0 : goal.bounds-out-0
bounds-out-0 c = simp length-set (omega arith)

pub returns-then-count-eq0 : goal.returns-then-count-eq0
returns-then-count-eq0 c =
    let args = c.args in
    record {
      value = sym (ap record_size c.if-count-eq0.true ∙ size_none);
      out_after = written-short args.special args.listed.now args.out.now c.if-count-eq0.true (omega arith);
    }

pub bounds-out-0-2 : goal.bounds-out-0-2
bounds-out-0-2 c = simp length-set (omega arith)

pub bounds-out-2 : goal.bounds-out-2
bounds-out-2 c = simp length-set (omega arith)

pub loop-i-init : goal.loop-i-init
loop-i-init c =
    let args = c.args in
    (omega arith, simp length-set (omega arith), written-self _ _ _ _ (written-head args.special args.listed.now args.out.now (omega arith) (omega arith)))

pub bounds-out-i : goal.bounds-out-i
bounds-out-i c = omega arith

pub overflow_cast-out-in-loop-i-2 : goal.overflow_cast-out-in-loop-i-2
overflow_cast-out-in-loop-i-2 c = omega (arith, c.requires.listed_len_bound.1 c.loop-i.i)

pub bounds-out-i-in-loop-i : goal.bounds-out-i-in-loop-i
bounds-out-i-in-loop-i c = simp length-set (omega arith)

pub loop-i-preserved : goal.loop-i-preserved
loop-i-preserved c =
    let loop = c.loop-i in
    let args = c.args in
    (omega arith, simp length-set (omega arith), written-attribute args.special args.listed.now _ loop.i loop.out (omega arith) loop.invariant.2)

pub returns : goal.returns
returns c =
    let loop = c.loop-i in
    let args = c.args in
    let all : loop.i ≡ length args.listed.now = omega arith in
    let head = written-head args.special args.listed.now args.out.now (omega arith) (omega arith) in
    let whole = written-again _ 3 _ _ _ _ (omega arith) head (rw all at loop.invariant.2) in
    record {
      value = c.record_size.ensures;
      out_after = written-bytes args.special args.listed.now args.out.now (length args.listed.now * 2 + 3) loop.out
          (size-some _ (omega arith)) (omega arith) whole;
    }
