-- The numbers of a query that are out of their ranges, from left to right (FORMAT 11.8).
use Rattle.std.specs.Prelude.{ℕ, ◌<◌, ◌≡◌, ltb, []}
use Rattle.std.proofs.Common.{sym, ◌∙◌, ltb-true}
use Rattle.std.proofs.Math.Bool.{true}
use Rattle.refusal.specs.declared.Refusal.TheVariants.{RelationNumber, Attribute}
use Rattle.attribute_set.specs.Listed.{all_special}
use Rattle.node.specs.declared.nodes.BinaryOp.{BinaryOp}
use Rattle.query_language.specs.Query.{Prefix, Query, relation, pair, prefixed}
use Rattle.query_answer.specs.Faults.{fault-pair, fault-prefixed, fault-relation, faults_of, first-none, guard_none, leftmost-none, none_first, prefix_attributes}

-- ---- queries in which nothing is out of range

module _ (m : ℕ) where
  pub faultless-relation : (r : ℕ) → faults_of m (relation r) ≡ [] → r < m
  faultless-relation r e = ltb-true r m (guard_none (ltb r m) RelationNumber (sym (fault-relation m r) ∙ none_first _ e))

  pub faultless-pair : (op : BinaryOp) (l r : Query) → faults_of m (pair op l r) ≡ [] → (faults_of m l ≡ []) × (faults_of m r ≡ [])
  faultless-pair op l r e =
      let both = leftmost-none _ _ (sym (fault-pair m op l r) ∙ none_first _ e) in
      (first-none _ both.0, first-none _ both.1)

  pub faultless-prefixed : (p : Prefix) (q : Query) → faults_of m (prefixed p q) ≡ [] → (all_special (prefix_attributes p) ≡ true) × (faults_of m q ≡ [])
  faultless-prefixed p q e =
      let both = leftmost-none _ _ (sym (fault-prefixed m p q) ∙ none_first _ e) in
      (guard_none (all_special (prefix_attributes p)) Attribute both.0, first-none _ both.1)
