use mathlib.Core.Path.{sym, ap, ◌∙◌}
use Rattle.std.proofs.lemmas.Result.{err_from_is_err_and}
use Rattle.bits.specs.Part.{part-from}
use Rattle.refusal.specs.Chain.{refuse, chain}
use Rattle.type_record.specs.Record.{with_list, read_record}
use Rattle.type_record.specs.RecordReading.{read_none, read_some}
use Rattle.type_record.proofs.records.read_record.Goals as goal

pub returns-then-bytes-lt2 : goal.returns-then-bytes-lt2
unfolding read_record refuse
returns-then-bytes-lt2 c = search chain

pub returns-then-map-eq0 : goal.returns-then-map-eq0
returns-then-map-eq0 c = rw c.word_at-map.ensures (sym (read_none c.args.bytes.now c.if-bytes-lt2.false (rw c.word_at-map.ensures at c.if-map-eq0.true)))

pub returns-in_err-count : goal.returns-in_err-count
returns-in_err-count c =
    let bytes = c.args.bytes.now in
    let reading = sym c.read_list.ensures ∙ c.in_err-count.was in
    let p = err_from_is_err_and c.from_residual.result c.from_residual.ensures.1 in
    rw (p.1, p.2)
    (sym
    (read_some bytes c.if-bytes-lt2.false (λ e. c.if-map-eq0.false (rw c.word_at-map.ensures e))
    ∙ ap (with_list _) (rw part-from at reading)))

pub returns : goal.returns
returns c =
    let bytes = c.args.bytes.now in
    let reading = sym c.read_list.ensures ∙ c.in_ok-count.was in
    rw c.word_at-map.ensures
    (sym
    (read_some bytes c.if-bytes-lt2.false (λ e. c.if-map-eq0.false (rw c.word_at-map.ensures e))
    ∙ ap (with_list _) (rw part-from at reading)))
