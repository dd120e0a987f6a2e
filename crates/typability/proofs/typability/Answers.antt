use Prim.Native.Nat.{ℕ}
use mathlib.Core.Path.{ap, ◌∙◌}
use native.Mathlib.Omega.{arith}
use lib.ListN.{drop}
use Rattle.set_cover.specs.Choice.{uncovered}
use Rattle.verdict_answer.specs.VerdictLaws.{stored-open}
use Rattle.verdict_answer.proofs.WithoutWitness.{typability-blocked, typability-first}
use Rattle.typability.proofs.typability.Goals as goal

pub returns-in-Err : goal.returns-in-Err
returns-in-Err c = typability-blocked _ _ _ c.in-Err.ensures.1 c.in-Err.ensures.0

pub returns-then-uncovered_relations-eq0 : goal.returns-then-uncovered_relations-eq0
returns-then-uncovered_relations-eq0 c =
    let first = c.in-Ok.ensures in
    let left = c.uncovered_relations.ensures ∙ ap (λ (n : ℕ). uncovered n (drop 1 c.in-Ok.chosen)) c.all_relations.ensures in
    typability-first _ _ c.requires.0 c.requires.1 _ first (omega arith) _ _ left c.if-uncovered_relations-eq0.true c.count_memberships.ensures

pub searched_typability-requires : goal.searched_typability-requires
searched_typability-requires c =
    record {
      m_bound = (c.requires.0, stored-open _ _ c.in-Ok.ensures (omega arith));
      formed = c.requires.1;
    }
