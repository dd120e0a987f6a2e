use Rattle.node_columns.proofs.fill_renaming.Goals as goal

pub returns : goal.returns
returns c = c.fill_unary.ensures _ (λ i y h made. made.1)
