use Rattle.node_columns.proofs.fill_product.Goals as goal

pub returns : goal.returns
returns c = c.fill_combined.ensures _ (λ i y h made. made.2)
