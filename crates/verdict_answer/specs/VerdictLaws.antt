-- Laws of Verdict: the outcome, by what the code finds; the three results after each refusal, and after none.
use Rattle.std.specs.Prelude.{ℕ, ◌≤◌, ◌≡◌, Bool, get_or}
use Rattle.std.proofs.Common.{arith}
use mathlib.Core.List.{List}
use Rattle.std.proofs.Math.ListN.{length}
use Rattle.bits.specs.Tab.{over}
use Rattle.admission.specs.AdmissionLaws.{Admits}
use Rattle.node_expression.specs.NodeExpression.{expression_at, expression-legal}
use Rattle.stored_formula.specs.FormulaBytes.{formulas_of}
use Rattle.stored_formula.specs.FormulaBytesLaws.{stored-column}
use Rattle.special_maps.specs.Special.{maps_from}
use Rattle.special_maps.specs.SpecialLaws.{maps-length, maps-even}
use Rattle.membership.specs.Holders.{ItemsFit}
use Rattle.schema.specs.Schema.{WritesFrom}
use Rattle.verdict_answer.specs.First.{allowed_at, first_in, blocked_in, subsets_by}
use Rattle.verdict_answer.specs.declared.Subsets.{Subsets}
use Rattle.verdict_answer.specs.FirstLaws.{subsets-blocked}
use Rattle.verdict_answer.specs.Formed.{Formed, stored-formed}

-- ---- the attribute that is said

-- each column allows something
pub stored-open : (allowed : ℕ → ℕ → Bool) (subsets : Subsets) → subsets ≡ subsets_by (first_in allowed) → 16 ≤ subsets.blocked → 16 ≤ blocked_in allowed
stored-open allowed subsets are h = rw (subsets-blocked (first_in allowed) subsets are) at h

-- ---- where the first subsets give every relation an attribute

-- the table that the witness is written from
pub witness-from : (subsets special items : List ℕ) (count : ℕ) → special ≡ maps_from subsets → get_or subsets 0 0 ≡ 0 → count ≤ 8 → ItemsFit items count → WritesFrom special items count
witness-from subsets special items count are clear few fit = rw are (record { maps = maps-length subsets; even = maps-even subsets clear; few = omega arith; fit = fit })

-- ---- columns that allow the same give the same outcome

-- what Formula leaves is the formula of the node's expression
pub filled-formed : (file : List ℕ) (k : ℕ) (work filled : List ℕ) (m n : ℕ) → Admits file k (length work) m n → filled ≡ over (formulas_of file m n) work → Formed m (allowed_at filled k)
filled-formed file k work filled m n admits is =
    stored-formed filled k m (expression_at file k) (expression-legal file m n admits.accepted k admits.node)
    (λ c h. rw is (stored-column file work m n admits.work_space k c admits.node h))
