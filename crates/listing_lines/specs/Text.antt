-- The text that the listing program prints for the last node of an expression file (FORMAT 7.15 to 7.17).
use Rattle.std.specs.Prelude.{ℕ, ◌+◌, ◌-◌, Bool, true, false, cond, ◌&&◌, List, [], ◌∷◌, ◌++◌, ltb, Result, Err, Ok}
use Rattle.bits.specs.Bit.{bit}
use Rattle.text.specs.Characters.{decimal, subset_text, newline}
use Rattle.text.specs.Each.{each}
use Rattle.refusal.specs.Number.{number_of}
use Rattle.algebra.specs.Expression.{Expression}
use Rattle.states.specs.Formula.{type_variable}
use Rattle.expression_file.specs.ReadFile.{acceptance, node_at}
use Rattle.node_expression.specs.NodeExpression.{expression_at}
use Rattle.stored_formula.specs.FormulaBytes.{allowed_bit, output_bit}
use Rattle.verdict_answer.specs.Verdict.{untypable_in}
use Rattle.listing_entries.specs.Entries.{when_so}
use Rattle.listing_entries.specs.Naming.{named_below}
use Rattle.refusal.specs.declared.Refusal.{Refusal}
use Rattle.expression_file.specs.declared.files.Header.{Header}

-- ---- lines

-- an attribute is said of the node: 0 to 15, where 16 says that it is typable
abbrev pub is_said : ℕ → Bool
is_said attribute = ltb attribute 16

-- untypable, by what the columns of a node allow: a special column allows nothing, or the relations cannot all be
-- filled
abbrev pub untypable_by : ℕ → (ℕ → ℕ → Bool) → Bool
untypable_by m allowed = is_said (untypable_in m allowed)

-- FORMAT 7.15: the same of an expression of m relations
unfoldable pub is_untypable : ℕ → Expression → Bool
is_untypable m e = untypable_by m (allowed_bit m e)

-- FORMAT 7.15: a space and the verdict
abbrev pub verdict_text : Bool → List ℕ
verdict_text true = 32 ∷ 117 ∷ 110 ∷ 116 ∷ 121 ∷ 112 ∷ 97 ∷ 98 ∷ 108 ∷ 101 ∷ []
verdict_text false = 32 ∷ 116 ∷ 121 ∷ 112 ∷ 97 ∷ 98 ∷ 108 ∷ 101 ∷ []

-- FORMAT 7.15: the node's line
unfoldable pub node_line : ℕ → Expression → ℕ → List ℕ
node_line m e k = (110 ∷ 111 ∷ 100 ∷ 101 ∷ 32 ∷ []) ++ decimal k ++ verdict_text (is_untypable m e) ++ newline

-- FORMAT 7.15: a relation's line, with the variables that it declares
unfoldable pub relation_line : ℕ → Expression → ℕ → List ℕ
relation_line m e r = (114 ∷ []) ++ decimal r ++ (58 ∷ []) ++ each 256 (λ s. when_so (type_variable (allowed_bit m e 0) s && bit s r) (subset_text s)) ++ newline

-- FORMAT 7.15: the line of the output, with the variables whose output bit stands
unfoldable pub out_line : ℕ → Expression → List ℕ
out_line m e = (111 ∷ 117 ∷ 116 ∷ 58 ∷ []) ++ each 256 (λ s. when_so (type_variable (allowed_bit m e 0) s && output_bit m e 0 s) (subset_text s)) ++ newline

-- FORMAT 7.15: an attribute's line, with the subsets that its column allows and a sign for each
unfoldable pub attribute_line : ℕ → Expression → ℕ → List ℕ
attribute_line m e i =
    (97 ∷ []) ++ decimal i ++ (58 ∷ [])
    ++ each 256 (λ s. when_so (allowed_bit m e i s) (subset_text s ++ (cond (output_bit m e i s) 43 45 ∷ [])))
    ++ newline

-- ---- the text

-- FORMAT 7.15: the lines of the last node
unfoldable pub listing : List ℕ → ℕ → ℕ → List ℕ
listing file m n =
    node_line m (expression_at file (n - 1)) (n - 1)
    ++ each m (relation_line m (expression_at file (n - 1)))
    ++ out_line m (expression_at file (n - 1))
    ++ each 15 (λ j. when_so (named_below (node_at file) n (j + 1)) (attribute_line m (expression_at file (n - 1)) (j + 1)))

-- FORMAT 7.17: the lines, or the one line of a refused file
abbrev pub text_after : Result Header Refusal → List ℕ → List ℕ
text_after (Ok h) file = listing file h.relations h.nodes
text_after (Err r) file = (114 ∷ 101 ∷ 102 ∷ 117 ∷ 115 ∷ 101 ∷ 100 ∷ 32 ∷ []) ++ decimal (number_of r) ++ newline

-- FORMAT 7.15, 7.17: the text of a file
unfoldable pub text_of : List ℕ → List ℕ
text_of file = text_after (acceptance file) file
