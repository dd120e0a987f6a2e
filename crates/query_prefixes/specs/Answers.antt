-- What the readers of signs, numbers, lists and prefixes answer: what is found, as far as the code keeps it.
use Rattle.std.specs.Prelude.{ℕ, ◌≤◌, Bool, List, length, Option, None, Some}
use Rattle.attribute_set.specs.declared.AttrSet.{AttrSet}
use Rattle.attribute_set.specs.AttrSet.{empty_set}
use Rattle.attribute_set.specs.Listed.{with_attributes, special_after, all_special}
use Rattle.node.specs.declared.nodes.BinaryOp.{BinaryOp}
use Rattle.node.specs.declared.nodes.Node.{Node}
use Rattle.node.specs.declared.nodes.Node.TheVariants.{WithSet as NodeWithSet, Renaming as NodeRenaming, ProjectingOut as NodeProjectingOut}
use Rattle.query_language.specs.Parsed.{Parsed, missing, found}
use Rattle.query_language.specs.Query.{Prefix, with_set, renaming, projecting_out}
use Rattle.query_answer.specs.Faults.{prefix_attributes}
use Rattle.query_prefixes.specs.declared.numbers.Number.{Number}
use Rattle.query_prefixes.specs.declared.lists.AttributeList.{AttributeList}
use Rattle.query_prefixes.specs.declared.prefixes.PrefixReading.{PrefixReading}
use Rattle.query_prefixes.specs.declared.prefixes.UnaryNode.{UnaryNode}
use Rattle.query_prefixes.specs.declared.prefixes.UnaryNode.TheVariants.{WithSet, Renaming, ProjectingOut}

-- a place of a text of at most 512 bytes
pub record Placed (text : List ℕ) (at : ℕ) : Type 0 where
  pub within : at ≤ length text
  pub short : length text ≤ 512

-- a sign's operator
unfoldable pub sign_answer : Parsed BinaryOp → Option BinaryOp
sign_answer missing = None
sign_answer (found op next) = Some op

-- a number that was read
abbrev pub read_number : ℕ → ℕ → Option Number
read_number n next = Some (record { value = n; next = next })

-- a number and the place after it
unfoldable pub number_answer : Parsed ℕ → Option Number
number_answer missing = None
number_answer (found n next) = read_number n next

-- a list that was read
abbrev pub read_list : AttrSet → Bool → ℕ → Option AttributeList
read_list s t next = Some (record { set = s; special = t; next = next })

-- a list's set, on from a set, and whether all that is in it and all before it is special
unfoldable pub list_answer : AttrSet → Bool → Parsed (List ℕ) → Option AttributeList
list_answer s t missing = None
list_answer s t (found ns next) = read_list (with_attributes s ns) (special_after t ns) next

-- the node of a prefix, without its operand
unfoldable pub unary_of : Prefix → UnaryNode
unary_of (with_set op ns) = WithSet op (with_attributes empty_set ns)
unary_of (renaming old new) = Renaming old new
unary_of (projecting_out old) = ProjectingOut old

-- the node over an operand
unfoldable pub node_over : UnaryNode → ℕ → Node
node_over (WithSet op s) k = NodeWithSet op k s
node_over (Renaming old new) k = NodeRenaming k old new
node_over (ProjectingOut old) k = NodeProjectingOut k old

-- a prefix that was read
abbrev pub read_prefix : UnaryNode → Bool → ℕ → Option PrefixReading
read_prefix unary special next = Some (record { unary = unary; special = special; next = next })

-- a prefix's node, and whether all its attributes are special
unfoldable pub prefix_answer : Parsed Prefix → Option PrefixReading
prefix_answer missing = None
prefix_answer (found p next) = read_prefix (unary_of p) (all_special (prefix_attributes p)) next
