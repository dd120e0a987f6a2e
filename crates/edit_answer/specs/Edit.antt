-- Edit: the file with the record of one node exchanged (FORMAT 7.27), and how the record is judged (FORMAT 8.9).
use Rattle.std.specs.Prelude.{ℕ, List, ltb, length, Result, Ok, Err}
use Rattle.bits.specs.Tab.{over}
use Rattle.refusal.specs.Chain.{refuse}
use Rattle.refusal.specs.declared.Refusal.TheVariants.{NodesFollowed, EditSlice}
use Rattle.node.specs.ReadNode.{check_node, after_node}
use Rattle.expression_file.specs.Walk.{longest_file}
use Rattle.expression_file.specs.Exchanged.{exchanged}
use Rattle.admission.specs.Admission.{after, tested, asked}
use Rattle.refusal.specs.declared.Refusal.{Refusal}
use Rattle.expression_file.specs.declared.files.Header.{Header}
use Rattle.expression_file.specs.ReadFile.{Accepted}

-- FORMAT 8.9: the record as node k of a file with m relations: 4, 5, 4 and the fields, as every node; and then 10 where
-- bytes follow the node
unfoldable pub check_record : ℕ → ℕ → List ℕ → Result ℕ Refusal
check_record m k replacement =
    after_node (check_node m k replacement) (λ size. refuse Err (ltb size (length replacement)) NodesFollowed (Ok size))

-- the counts, unless the record is refused
abbrev pub unless_refused : Result ℕ Refusal → Result Header Refusal → Result Header Refusal
unless_refused (Err r) next = Err r
unless_refused (Ok size) next = next

-- FORMAT 8.9: the record, after the tests before it
unfoldable pub recorded : Result Header Refusal → ℕ → List ℕ → Result Header Refusal
recorded (Err r) k replacement = Err r
recorded (Ok h) k replacement = unless_refused (check_record h.relations k replacement) (Accepted h.relations h.nodes)

-- FORMAT 8.5: 27; the result slice of so many bytes has at least 322
unfoldable pub edit_sliced : Result Header Refusal → ℕ → Result Header Refusal
edit_sliced a size = tested a (λ n. ltb size longest_file) EditSlice

-- FORMAT 8.5: 1 to 11, 27, and then the record
unfoldable pub edit_tests : List ℕ → ℕ → List ℕ → ℕ → Result Header Refusal
edit_tests file k replacement size = recorded (edit_sliced (asked file k) size) k replacement

-- FORMAT 7.27: the answer, for a result slice of so many bytes
unfoldable pub edit_answer : List ℕ → ℕ → List ℕ → ℕ → Result ℕ Refusal
edit_answer file k replacement size = after (edit_tests file k replacement size) Err (λ m n. Ok (length (exchanged file k replacement)))

-- FORMAT 7.27, 8.7: the result slice afterwards
unfoldable pub edit_result : List ℕ → ℕ → List ℕ → List ℕ → List ℕ
edit_result file k replacement result = after (edit_tests file k replacement (length result)) (λ r. result) (λ m n. over (exchanged file k replacement) result)
