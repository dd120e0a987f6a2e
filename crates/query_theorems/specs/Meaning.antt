-- What a query means (FORMAT 11.9): the expression that its tree is.
use Rattle.std.specs.Prelude.{ℕ, ◌≡◌, refl, Bool, true, false, ◌&&◌, List}
use Rattle.std.proofs.Common.{ap, ◌∙◌}
use Rattle.std.proofs.Math.Path.{fun_ext}
use Rattle.std.proofs.Math.Bool.{and-true, and-false}
use Rattle.bits.specs.Rising.{member}
use Rattle.attribute_set.specs.AttrSet.{special, empty_set}
use Rattle.attribute_set.specs.Listed.{with_attributes, all_special, has_listed, member-special}
use Rattle.types.specs.Types.{Attrs}
use Rattle.algebra.specs.Expression.{Expression, relation, binary, with_set, renaming, projecting_out}
use Rattle.node_expression.specs.NodeExpression.{operator_of, set_operator_of, named, of_node}
use Rattle.query_language.specs.Query.{Prefix, with_set as with_list, renaming as renamed, projecting_out as projected_out, Query, relation as relation_of, pair, prefixed}
use Rattle.query_answer.specs.QueryNodes.{prefix_node}
use Rattle.query_answer.specs.Faults.{prefix_attributes}

-- the attributes of a list
abbrev pub listed : List ℕ → Attrs
listed ns = λ a. member a ns

-- FORMAT 11.9: a prefix over the expression of its operand
abbrev pub prefix_meaning : Prefix → Expression → Expression
prefix_meaning (with_list op ns) e = with_set (set_operator_of op) (listed ns) e
prefix_meaning (renamed old new) e = renaming old new e
prefix_meaning (projected_out old) e = projecting_out old e

-- FORMAT 11.9: the expression of a query
abbrev pub meaning : Query → Expression
meaning (relation_of r) = relation r
meaning (pair op l r) = binary (operator_of op) (meaning l) (meaning r)
meaning (prefixed p q) = prefix_meaning p (meaning q)

-- ---- a prefix's node means the prefix

list-named : (ns : List ℕ) → all_special ns ≡ true → named (with_attributes empty_set ns) ≡ listed ns
list-named ns e = fun_ext (λ a. ap (λ (t : Bool). special a && t) (has_listed ns a e) ∙ go a (member a ns) refl)
  where
    go : (a : ℕ) (t : Bool) → member a ns ≡ t → special a && t ≡ t
    go a true i = and-true (special a) ∙ member-special ns a e i
    go a false i = and-false (special a)

pub prefix-meaning : (p : Prefix) (k : ℕ) (operand : ℕ → Expression) → all_special (prefix_attributes p) ≡ true → of_node (prefix_node p k) operand ≡ prefix_meaning p (operand k)
prefix-meaning (with_list op ns) k operand e = ap (λ (s : Attrs). with_set (set_operator_of op) s (operand k)) (list-named ns e)
prefix-meaning (renamed old new) k operand e = refl
prefix-meaning (projected_out old) k operand e = refl
