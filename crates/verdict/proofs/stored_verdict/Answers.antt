use Prim.Native.Nat.{ℕ}
use mathlib.Core.Path.{refl, ap, ◌∙◌}
use mathlib.Core.List.{[]}
use native.Mathlib.Omega.{arith}
use lib.ListN.{drop}
use Rattle.set_cover.specs.Choice.{uncovered}
use Rattle.verdict_answer.specs.VerdictLaws.{stored-open}
use Rattle.verdict_answer.proofs.VerdictLaws.{stored-blocked, first-writes, first-typable}
use Rattle.verdict.proofs.stored_verdict.Goals as goal

pub returns-in-Err : goal.returns-in-Err
returns-in-Err c =
    let both = stored-blocked _ _ c.args.schema.now _ c.in-Err.ensures.1 c.in-Err.ensures.0 in
    record {
      value = both.0;
      schema_after = both.1;
    }

pub write_witness-size-requires : goal.write_witness-size-requires
write_witness-size-requires c =
    let writes = first-writes _ c.requires.m_bound.0 _ c.requires.formed c.args.schema.now _ c.in-Ok.ensures (omega arith) in
    record {
      m_bound = c.requires.m_bound;
      subsets_len = (writes.0, writes.1, omega arith, record { enough = omega arith; below = λ i h. absurd (omega arith) });
    }

pub returns-then-uncovered_relations-eq0 : goal.returns-then-uncovered_relations-eq0
returns-then-uncovered_relations-eq0 c =
    let wrote = c.write_witness-size in
    let left = c.uncovered_relations.ensures ∙ ap (λ (n : ℕ). uncovered n (drop 1 c.in-Ok.chosen)) c.all_relations.ensures in
    let both = first-typable _ c.requires.m_bound.0 _ c.requires.formed c.args.schema.now _ c.in-Ok.ensures (omega arith) _ _ _ [] _ left c.if-uncovered_relations-eq0.true refl wrote.ensures.value
    wrote.ensures.schema_after c.count_memberships.ensures in
    record {
      value = both.0;
      schema_after = both.1;
    }

pub searched_verdict-requires : goal.searched_verdict-requires
searched_verdict-requires c =
    record {
      m_bound = (c.requires.m_bound.0, c.requires.m_bound.1, stored-open _ _ c.in-Ok.ensures (omega arith));
      formed = c.requires.formed;
    }

pub returns : goal.returns
returns c = c.searched_verdict.ensures
