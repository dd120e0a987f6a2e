use Rattle.std.proofs.Common.{ap, not}
use Rattle.type_record.proofs.ListResumed.{resumed-start, resumed-next, resumed-truncated, resumed-refused, resumed-end}
use native.Mathlib.Omega.{arith}
use Rattle.refusal.specs.Chain.{refuse, chain}
use Rattle.type_record.specs.Lists.{read_list}
use Rattle.type_record.proofs.lists.read_list.Goals as goal

pub returns-then-bytes-lt1 : goal.returns-then-bytes-lt1
unfolding read_list refuse
returns-then-bytes-lt1 c = search chain

pub overflow_cast-count : goal.overflow_cast-count
overflow_cast-count c = omega (arith, c.type_inv.bytes 0)

pub returns-then-count-eq0 : goal.returns-then-count-eq0
unfolding read_list refuse
returns-then-count-eq0 c = search chain

pub loop-i-init : goal.loop-i-init
loop-i-init c = resumed-start c.args.bytes.now c.if-bytes-lt1.false c.if-count-eq0.false c.lesser-whole.ensures

pub overflow_mul-i : goal.overflow_mul-i
overflow_mul-i c = omega (arith, c.loop-i.invariant.complete)

pub overflow_add-i : goal.overflow_add-i
overflow_add-i c = omega (arith, c.loop-i.invariant.complete)

pub word_at-a-requires : goal.word_at-a-requires
word_at-a-requires c = omega (arith, c.loop-i.invariant.complete)

pub loop-i-preserved : goal.loop-i-preserved
loop-i-preserved c = resumed-next c.loop-i.invariant c.loop-i-test.true c.word_at-a.ensures

pub returns-then-not-rises : goal.returns-then-not-rises
returns-then-not-rises c = resumed-refused c.loop-i.invariant (ap not c.if-not-rises.true)

pub returns-then-whole-count : goal.returns-then-whole-count
returns-then-whole-count c = resumed-truncated c.loop-i.invariant (ap not c.if-not-rises.false) c.loop-i-test.false c.if-whole-count.true

pub returns : goal.returns
returns c = resumed-end c.loop-i.invariant (ap not c.if-not-rises.false) c.loop-i-test.false c.if-whole-count.false
