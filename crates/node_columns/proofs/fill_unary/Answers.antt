use Rattle.std.proofs.Common.{rules, ◌∙◌}
use Rattle.stored_formula.specs.WrittenColumns.{columns-first, columns-next, columns-end}
use Rattle.node_columns.proofs.fill_unary.Goals as goal

pub loop-c-init : goal.loop-c-init
loop-c-init g c = λ column h. columns-first _ _ _ c.requires.formula_size_in_bounds

pub loop-c-preserved : goal.loop-c-preserved
loop-c-preserved g c = λ column h.
    columns-next (c.loop-c.invariant column h) _ _ c.loop-c-test.true (search rules)
    (λ earlier. h c.loop-c.c c.make-column.result c.loop-c-test.true (rw (c.read_column.ensures ∙ earlier c.args.l c.requires.l_lt_k) at c.make-column.ensures))
    c.write_column.ensures

pub returns : goal.returns
returns g c = λ column h. columns-end (c.loop-c.invariant column h) c.loop-c-test.false
