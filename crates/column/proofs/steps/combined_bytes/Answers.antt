use borrow.Author.Rules.{rules}
use Rattle.column.specs.StepLaws.{made-agreeing, made-merging, made-disjoint}
use Rattle.column.proofs.steps.combined_bytes.Goals as goal

pub returns-in-Agreeing : goal.returns-in-Agreeing
returns-in-Agreeing c =
    let args = c.args in
    let agreed = c.agreeing_bytes in
    rw c.in-Agreeing.is (made-agreeing args.left.allowed args.left.output _ _ _ _ (search rules) (search rules) agreed.ensures.by_index agreed.ensures.by_index_2)

pub returns-in-Merging : goal.returns-in-Merging
returns-in-Merging c =
    let args = c.args in
    rw c.in-Merging.is (made-merging args.left.allowed args.left.output _ _ (search rules) (search rules) (search rules) (search rules))

pub returns-in-Disjoint : goal.returns-in-Disjoint
returns-in-Disjoint c =
    let args = c.args in
    rw c.in-Disjoint.is (made-disjoint args.left.allowed args.left.output _ _ (search rules) (search rules)
    (search rules) (search rules))
