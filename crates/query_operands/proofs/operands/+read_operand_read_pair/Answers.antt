use mathlib.Core.Path.{◌≡◌, sym, ap, ◌∙◌}
use native.Mathlib.Omega.{arith}
use Rattle.std.specs.Prelude.{ℕ, ◌+◌, List, Option, Some}
use Rattle.node.specs.declared.nodes.BinaryOp.{BinaryOp}
use Rattle.node.specs.NodeBytes.{node_bytes}
use Rattle.text.specs.declared.Writer.{Writer}
use Rattle.text.specs.Written.{writes-as, stands-more, writes-stand}
use Rattle.query_language.specs.Parse.{operand_at, prefix_at, sign_at}
use Rattle.query_language.proofs.Steps.{by-relation, by-pair, by-prefix}
use Rattle.query_prefixes.specs.declared.prefixes.PrefixReading.{PrefixReading}
use Rattle.query_prefixes.specs.Answers.{prefix_answer, sign_answer}
use Rattle.query_operands.specs.declared.operands.Operand.{Operand}
use Rattle.query_operands.specs.Reading.{Room, Reads, is_read, is-missing, reads_as}
use Rattle.query_operands.specs.ReadingLaws.{After, room_after, room-stands, is-prefix, room-prefix, prefixed-none, prefixed-half, prefixed-done, or_leftmost}
use Rattle.query_operands.specs.ReadingLaws.{is-sign, room-sign, pair-no-left, pair-no-sign, pair-no-right, pair-not-closed, pair-done}
use Rattle.query_operands.proofs.operands.+read_operand_read_pair.Goals as goal

-- ---- the room after what was read

after-left :
    {m at count : ℕ} {text : List ℕ} {out new : Writer} {r : Option Operand} {o : Operand}
    → Room text at out count
    → r ≡ Some o
    → Reads m count out new (operand_at text at) r
    → After text at o.next new count o.count
after-left room e reads = room_after room (is_read e reads)

after-prefixed :
    {m at count : ℕ} {text : List ℕ} {out new : Writer} {p : PrefixReading} {r : Option Operand} {o : Operand}
    → Room text at out count
    → Some p ≡ prefix_answer (prefix_at text at)
    → r ≡ Some o
    → Reads m count out new (operand_at text p.next) r
    → After text p.next o.next new count o.count
after-prefixed room p e reads = after-left (room-prefix room (is-prefix _ _ p)).1 e reads

after-sign :
    {m at count : ℕ} {text : List ℕ} {out new : Writer} {r : Option Operand} {o : Operand} {op : BinaryOp}
    → Room text at out count
    → r ≡ Some o
    → Reads m count out new (operand_at text at) r
    → Some op ≡ sign_answer (sign_at text o.next)
    → Room text (o.next + 1) new o.count
after-sign room e reads s = room-sign (after-left room e reads).room (is-sign _ _ s)

-- ---- an operand

pub read_operand-returns-in-114-clause-stands : goal.read_operand-returns-in-114-clause-stands
read_operand-returns-in-114-clause-stands t c = c.read_relation.ensures.stands

pub read_operand-returns-in-114-clause-reads : goal.read_operand-returns-in-114-clause-reads
read_operand-returns-in-114-clause-reads t c =
    reads_as (by-relation _ _ (sym c.byte_at.ensures ∙ c.in-114.is)) c.read_relation.ensures.reads

pub read_operand-returns-in-40-clause-stands : goal.read_operand-returns-in-40-clause-stands
read_operand-returns-in-40-clause-stands t c = c.read_pair.ensures.stands

pub read_operand-returns-in-40-clause-reads : goal.read_operand-returns-in-40-clause-reads
read_operand-returns-in-40-clause-reads t c =
    reads_as (by-pair _ _ (sym c.byte_at.ensures ∙ c.in-40.is)) c.read_pair.ensures.reads

pub read_operand-returns-in_err-prefix-in_default-clause-stands : goal.read_operand-returns-in_err-prefix-in_default-clause-stands
read_operand-returns-in_err-prefix-in_default-clause-stands t c = room-stands c.requires

pub read_operand-returns-in_err-prefix-in_default-clause-reads : goal.read_operand-returns-in_err-prefix-in_default-clause-reads
read_operand-returns-in_err-prefix-in_default-clause-reads t c =
    let letter = c.byte_at.ensures in
    rw c.from_residual.ensures
    (reads_as (by-prefix _ _ (λ e. omega arith) (λ e. omega arith)) (prefixed-none _ _ (sym c.in_err-prefix-in_default.was ∙ c.prefix_at.ensures)))

pub read_operand-read_operand-requires : goal.read_operand-read_operand-requires
read_operand-read_operand-requires t c =
    let later = room-prefix c.requires (is-prefix _ _ (sym c.in_ok-prefix-in_default.was ∙ c.prefix_at.ensures)) in
    (omega arith, later.1)

pub read_operand-returns-in_err-operand-in_default-clause-stands : goal.read_operand-returns-in_err-operand-in_default-clause-stands
read_operand-returns-in_err-operand-in_default-clause-stands t c = c.read_operand.ensures.stands

pub read_operand-returns-in_err-operand-in_default-clause-reads : goal.read_operand-returns-in_err-operand-in_default-clause-reads
read_operand-returns-in_err-operand-in_default-clause-reads t c =
    let letter = c.byte_at.ensures in
    let prefix = is-prefix _ _ (sym c.in_ok-prefix-in_default.was ∙ c.prefix_at.ensures) in
    rw c.from_residual-in_err-operand-in_default.ensures
    (reads_as (by-prefix _ _ (λ e. omega arith) (λ e. omega arith)) (prefixed-half _ _ prefix (is-missing c.in_err-operand-in_default.was c.read_operand.ensures.reads)))

pub read_operand-overflow_sub-operand : goal.read_operand-overflow_sub-operand
read_operand-overflow_sub-operand t c =
    let then = after-prefixed c.requires (sym c.in_ok-prefix-in_default.was ∙ c.prefix_at.ensures) c.in_ok-operand-in_default.was c.read_operand.ensures.reads in
    let room = then.room in
    omega arith

pub read_operand-overflow_cast-operand : goal.read_operand-overflow_cast-operand
read_operand-overflow_cast-operand t c =
    let then = after-prefixed c.requires (sym c.in_ok-prefix-in_default.was ∙ c.prefix_at.ensures) c.in_ok-operand-in_default.was c.read_operand.ensures.reads in
    let room = then.room in
    omega arith

pub read_operand-write_node-requires : goal.read_operand-write_node-requires
read_operand-write_node-requires t c =
    let then = after-prefixed c.requires (sym c.in_ok-prefix-in_default.was ∙ c.prefix_at.ensures) c.in_ok-operand-in_default.was c.read_operand.ensures.reads in
    let room = then.room in
    omega arith

pub read_operand-overflow_add-result : goal.read_operand-overflow_add-result
read_operand-overflow_add-result t c =
    let then = after-prefixed c.requires (sym c.in_ok-prefix-in_default.was ∙ c.prefix_at.ensures) c.in_ok-operand-in_default.was c.read_operand.ensures.reads in
    let room = then.room in
    omega arith

pub read_operand-returns-in_ok-operand-in_default-clause-stands : goal.read_operand-returns-in_ok-operand-in_default-clause-stands
read_operand-returns-in_ok-operand-in_default-clause-stands t c = stands-more c.read_operand.ensures.stands (writes-stand c.write_node.ensures)

pub read_operand-returns-in_ok-operand-in_default-clause-reads : goal.read_operand-returns-in_ok-operand-in_default-clause-reads
read_operand-returns-in_ok-operand-in_default-clause-reads t c =
    let letter = c.byte_at.ensures in
    let prefix = is-prefix _ _ (sym c.in_ok-prefix-in_default.was ∙ c.prefix_at.ensures) in
    let inner = is_read c.in_ok-operand-in_default.was c.read_operand.ensures.reads in
    rw (c.or.ensures, or_leftmost, c.attribute_fault.ensures)
    (reads_as (by-prefix _ _ (λ e. omega arith) (λ e. omega arith))
    (prefixed-done _ _ prefix inner (writes-as (ap node_bytes c.over.ensures) c.write_node.ensures)))

-- ---- a pair

pub read_pair-returns-in_err-left-clause-stands : goal.read_pair-returns-in_err-left-clause-stands
read_pair-returns-in_err-left-clause-stands t c = c.read_operand.ensures.stands

pub read_pair-returns-in_err-left-clause-reads : goal.read_pair-returns-in_err-left-clause-reads
read_pair-returns-in_err-left-clause-reads t c =
    rw c.from_residual.ensures (pair-no-left _ _ (is-missing c.in_err-left.was c.read_operand.ensures.reads))

pub read_pair-returns-in_err-op-clause-stands : goal.read_pair-returns-in_err-op-clause-stands
read_pair-returns-in_err-op-clause-stands t c = c.read_operand.ensures.stands

pub read_pair-returns-in_err-op-clause-reads : goal.read_pair-returns-in_err-op-clause-reads
read_pair-returns-in_err-op-clause-reads t c =
    let left = is_read c.in_ok-left.was c.read_operand.ensures.reads in
    rw c.from_residual-in_err-op.ensures (pair-no-sign _ _ left (sym c.in_err-op.was ∙ c.sign_at.ensures))

pub read_pair-overflow_add-left : goal.read_pair-overflow_add-left
read_pair-overflow_add-left t c =
    let first = after-left c.requires c.in_ok-left.was c.read_operand.ensures.reads in
    let room = first.room in
    omega arith

pub read_pair-read_operand-requires-2 : goal.read_pair-read_operand-requires-2
read_pair-read_operand-requires-2 t c =
    let first = after-left c.requires c.in_ok-left.was c.read_operand.ensures.reads in
    let room = after-sign c.requires c.in_ok-left.was c.read_operand.ensures.reads (sym c.in_ok-op.was ∙ c.sign_at.ensures) in
    (omega arith, room)

pub read_pair-returns-in_err-right-clause-stands : goal.read_pair-returns-in_err-right-clause-stands
read_pair-returns-in_err-right-clause-stands t c = stands-more c.read_operand.ensures.stands c.read_operand-2.ensures.stands

pub read_pair-returns-in_err-right-clause-reads : goal.read_pair-returns-in_err-right-clause-reads
read_pair-returns-in_err-right-clause-reads t c =
    let left = is_read c.in_ok-left.was c.read_operand.ensures.reads in
    let sign = is-sign _ _ (sym c.in_ok-op.was ∙ c.sign_at.ensures) in
    rw c.from_residual-in_err-right.ensures (pair-no-right _ _ left sign (is-missing c.in_err-right.was c.read_operand-2.ensures.reads))

pub read_pair-returns-then-byte_at-ne41-clause-stands : goal.read_pair-returns-then-byte_at-ne41-clause-stands
read_pair-returns-then-byte_at-ne41-clause-stands t c = stands-more c.read_operand.ensures.stands c.read_operand-2.ensures.stands

pub read_pair-returns-then-byte_at-ne41-clause-reads : goal.read_pair-returns-then-byte_at-ne41-clause-reads
read_pair-returns-then-byte_at-ne41-clause-reads t c =
    let left = is_read c.in_ok-left.was c.read_operand.ensures.reads in
    let sign = is-sign _ _ (sym c.in_ok-op.was ∙ c.sign_at.ensures) in
    let right = is_read c.in_ok-right.was c.read_operand-2.ensures.reads in
    pair-not-closed _ _ left sign right (λ e. c.if-byte_at-ne41.true (c.byte_at.ensures ∙ e))

pub read_pair-overflow_sub-node : goal.read_pair-overflow_sub-node
read_pair-overflow_sub-node t c =
    let first = after-left c.requires c.in_ok-left.was c.read_operand.ensures.reads in
    let room = after-sign c.requires c.in_ok-left.was c.read_operand.ensures.reads (sym c.in_ok-op.was ∙ c.sign_at.ensures) in
    let second = after-left room c.in_ok-right.was c.read_operand-2.ensures.reads in
    let last = second.room in
    omega arith

pub read_pair-overflow_cast-node : goal.read_pair-overflow_cast-node
read_pair-overflow_cast-node t c =
    let first = after-left c.requires c.in_ok-left.was c.read_operand.ensures.reads in
    let room = after-sign c.requires c.in_ok-left.was c.read_operand.ensures.reads (sym c.in_ok-op.was ∙ c.sign_at.ensures) in
    let second = after-left room c.in_ok-right.was c.read_operand-2.ensures.reads in
    let last = second.room in
    omega arith

pub read_pair-overflow_sub-node-2 : goal.read_pair-overflow_sub-node-2
read_pair-overflow_sub-node-2 t c =
    let first = after-left c.requires c.in_ok-left.was c.read_operand.ensures.reads in
    let room = after-sign c.requires c.in_ok-left.was c.read_operand.ensures.reads (sym c.in_ok-op.was ∙ c.sign_at.ensures) in
    let second = after-left room c.in_ok-right.was c.read_operand-2.ensures.reads in
    let last = second.room in
    omega arith

pub read_pair-overflow_cast-node-2 : goal.read_pair-overflow_cast-node-2
read_pair-overflow_cast-node-2 t c =
    let first = after-left c.requires c.in_ok-left.was c.read_operand.ensures.reads in
    let room = after-sign c.requires c.in_ok-left.was c.read_operand.ensures.reads (sym c.in_ok-op.was ∙ c.sign_at.ensures) in
    let second = after-left room c.in_ok-right.was c.read_operand-2.ensures.reads in
    let last = second.room in
    omega arith

pub read_pair-write_node-requires : goal.read_pair-write_node-requires
read_pair-write_node-requires t c =
    let room = after-sign c.requires c.in_ok-left.was c.read_operand.ensures.reads (sym c.in_ok-op.was ∙ c.sign_at.ensures) in
    let second = (after-left room c.in_ok-right.was c.read_operand-2.ensures.reads).room in
    omega arith

pub read_pair-overflow_add-result-2 : goal.read_pair-overflow_add-result-2
read_pair-overflow_add-result-2 t c =
    let room = after-sign c.requires c.in_ok-left.was c.read_operand.ensures.reads (sym c.in_ok-op.was ∙ c.sign_at.ensures) in
    let second = (after-left room c.in_ok-right.was c.read_operand-2.ensures.reads).room in
    omega arith

pub read_pair-returns-clause-stands : goal.read_pair-returns-clause-stands
read_pair-returns-clause-stands t c = stands-more (stands-more c.read_operand.ensures.stands c.read_operand-2.ensures.stands) (writes-stand c.write_node.ensures)

pub read_pair-returns-clause-reads : goal.read_pair-returns-clause-reads
read_pair-returns-clause-reads t c =
    let left = is_read c.in_ok-left.was c.read_operand.ensures.reads in
    let sign = is-sign _ _ (sym c.in_ok-op.was ∙ c.sign_at.ensures) in
    let right = is_read c.in_ok-right.was c.read_operand-2.ensures.reads in
    rw (c.or.ensures, or_leftmost) (pair-done _ _ left sign right (sym c.byte_at.ensures ∙ c.if-byte_at-ne41.false) c.write_node.ensures)
