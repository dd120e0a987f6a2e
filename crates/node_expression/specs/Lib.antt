pub mod NodeExpression
