use Rattle.std.proofs.Common.{sym, ◌∙◌, arith, length-take-le}
use Rattle.filled_schema.proofs.Tested.{tested-refused, handed-table, tested-empty, tested-read}
use Rattle.filled_schema.proofs.read_filled_schema.Goals as goal

pub is_filled-requires : goal.is_filled-requires
is_filled-requires c =
    let table = handed-table _ _ _ _ c.in-Ok.ensures.value c.requires.m_bound (λ x. omega (arith, c.type_inv.bytes x)) c.read_schema.ensures.entries_stand in
    (c.requires.m_bound, table.maps)

pub slice_bounds-is_filled-end-2 : goal.slice_bounds-is_filled-end-2
slice_bounds-is_filled-end-2 c =
    (handed-table _ _ _ _ c.in-Ok.ensures.value c.requires.m_bound (λ x. omega (arith, c.type_inv.bytes x)) c.read_schema.ensures.entries_stand).fit.enough

pub slice_bounds-is_filled-end-3 : goal.slice_bounds-is_filled-end-3
slice_bounds-is_filled-end-3 c =
    let table = handed-table _ _ _ _ c.in-Ok.ensures.value c.requires.m_bound (λ x. omega (arith, c.type_inv.bytes x)) c.read_schema.ensures.entries_stand in
    sym (length-take-le c.in-Ok.schema.count c.read_schema.new.items table.fit.enough)

pub returns-in-Err : goal.returns-in-Err
returns-in-Err c =
    let gives = tested-refused _ _ c.read_schema.new.items _ (sym c.in-Err.is ∙ c.read_schema.ensures.value) in
    record { value = gives.0; entries_stand = gives.1; count_in_bounds = tt }

pub returns-then-not-is_filled : goal.returns-then-not-is_filled
returns-then-not-is_filled c =
    let gives = tested-empty _ _ _ _ c.in-Ok.ensures.value c.requires.m_bound (λ x. omega (arith, c.type_inv.bytes x)) c.read_schema.ensures.entries_stand _
    c.if-not-is_filled.true c.is_filled.ensures in
    record { value = gives.0; entries_stand = gives.1; count_in_bounds = tt }

pub returns : goal.returns
returns c =
    let gives = tested-read _ _ _ _ c.in-Ok.ensures.value c.requires.m_bound (λ x. omega (arith, c.type_inv.bytes x)) c.read_schema.ensures.entries_stand _
    c.if-not-is_filled.false c.is_filled.ensures in
    record { value = gives.0; entries_stand = gives.1; count_in_bounds = c.in-Ok.ensures.count_in_bounds }
