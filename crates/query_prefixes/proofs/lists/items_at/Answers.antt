use mathlib.Core.Path.{◌≡◌, sym, ap, ◌∙◌}
use mathlib.Core.Bool.{Bool, true, false, ◌&&◌}
use native.Mathlib.Omega.{arith}
use Rattle.attribute_set.specs.AttrSet.{special}
use Rattle.query_language.proofs.Steps.{items-none, items-below, items-last, items-other, items-next}
use Rattle.query_prefixes.specs.AnswerLaws.{number_is, number-missing, number_read, comma-placed, list-none, list-last, list-more}
use Rattle.query_prefixes.proofs.lists.items_at.Goals as goal
use Rattle.query_prefixes.proofs.lists.items_at.Goals.{then-special, else-special}

-- both, where the first is known
both-second : {a b c d : Bool} → a ≡ true → c ≡ b → b ≡ d → c ≡ a && d
both-second {a} {b} {c} {d} first is second = is ∙ second ∙ sym (ap (λ (t : Bool). t && d) first)

both-first : {a c : Bool} (d : Bool) → a ≡ false → c ≡ a → c ≡ a && d
both-first {a} {c} d first is = is ∙ first ∙ sym (ap (λ (t : Bool). t && d) first)

pub returns-in_err-number : goal.returns-in_err-number
returns-in_err-number c =
    c.from_residual.ensures ∙ list-none _ _ (items-none _ _ _ (number-missing _ (sym c.in_err-number.was ∙ c.number_at.ensures))) ∙ c.loop-number.invariant.1

pub returns-then-number-low : goal.returns-then-number-low
returns-then-number-low c =
    list-none _ _ (items-below _ _ _ (number_is _ (sym c.in_ok-number.was ∙ c.number_at.ensures)) c.if-number-low.true) ∙ c.loop-number.invariant.1

pub returns-in-93 : goal.returns-in-93
returns-in-93 c =
    let last = items-last _ _ _ (number_is _ (sym c.in_ok-number.was ∙ c.number_at.ensures)) c.if-number-low.false (sym c.byte_at.ensures ∙ c.in-93.is) in
    let all : c.if-special.special ≡ c.loop-number.special && special c.in_ok-number.number.value =
    elim c.if-special.branch [ then-special w ↦ both-second w.if-special.true w.special-is w.is_special-special.ensures | else-special w ↦ both-first _ w.if-special.false w.special-is ] in
    rw (c.add-set.ensures, all) (list-last _ _ last ∙ c.loop-number.invariant.1)

pub overflow_add-low : goal.overflow_add-low
overflow_add-low c =
    let small = (number_read _ _ (sym c.in_ok-number.was ∙ c.number_at.ensures)).small in
    omega arith

pub loop-number-smaller : goal.loop-number-smaller
loop-number-smaller c =
    let read = number_read _ _ (sym c.in_ok-number.was ∙ c.number_at.ensures) in
    let place = comma-placed _ _ c.loop-number.invariant.0 (sym c.in_ok-number.was ∙ c.number_at.ensures) (sym c.byte_at.ensures ∙ c.in-44.is) in
    let later = read.later in
    let within = place.within in
    omega arith

pub loop-number-preserved : goal.loop-number-preserved
loop-number-preserved c =
    let place = comma-placed _ _ c.loop-number.invariant.0 (sym c.in_ok-number.was ∙ c.number_at.ensures) (sym c.byte_at.ensures ∙ c.in-44.is) in
    let next = items-next _ _ _ (number_is _ (sym c.in_ok-number.was ∙ c.number_at.ensures)) c.if-number-low.false (sym c.byte_at.ensures ∙ c.in-44.is) in
    let all : c.if-special.special ≡ c.loop-number.special && special c.in_ok-number.number.value =
    elim c.if-special.branch [ then-special w ↦ both-second w.if-special.true w.special-is w.is_special-special.ensures | else-special w ↦ both-first _ w.if-special.false w.special-is ] in
    (place, rw (c.add-set.ensures, all) (list-more _ _ _ _ next ∙ c.loop-number.invariant.1))

pub returns-in_default : goal.returns-in_default
returns-in_default c =
    let byte = c.byte_at.ensures in
    let other = items-other _ _ _ (number_is _ (sym c.in_ok-number.was ∙ c.number_at.ensures)) c.if-number-low.false (λ e. omega arith) (λ e. omega arith) in
    list-none _ _ other ∙ c.loop-number.invariant.1
