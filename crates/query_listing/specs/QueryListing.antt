-- The listing of a query typed as text (FORMAT 7.24): that of its file, or the line of its refusal.
use Rattle.std.specs.Prelude.{ℕ, List, [], length, Result, Ok, Err}
use Rattle.bits.specs.Tab.{over}
use Rattle.refusal.specs.declared.Refusal.{Refusal}
use Rattle.expression_file.specs.Walk.{longest_file}
use Rattle.stored_formula.specs.Formula.{formula_space}
use Rattle.listing_lines.specs.Text.{text_after, text_of}
use Rattle.listing.specs.Listing.{checked}
use Rattle.query_answer.specs.QueryNodes.{query_file}
use Rattle.query_answer.specs.ParseQuery.{Judgement, refused, accepted, judgement}

-- FORMAT 7.24: the text of the query's file, or the line of the refusal
abbrev pub judged_text : ℕ → Judgement → List ℕ
judged_text m (refused r) = text_after (Err r) []
judged_text m (accepted q) = text_of (query_file m q)

-- FORMAT 7.24: the work space with the formulas of the query's file, or as it was
abbrev pub judged_space : ℕ → Judgement → List ℕ → List ℕ
judged_space m (refused r) work = work
judged_space m (accepted q) work = formula_space (query_file m q) work

-- FORMAT 7.24: the text of a query, parsed with a result slice that is long enough
unfoldable pub listed_query : ℕ → List ℕ → List ℕ
listed_query m query = judged_text m (judgement m query longest_file)

-- FORMAT 7.24: the answer, for a work space and a text slice of so many bytes: the text's length
unfoldable pub query_listed_answer : ℕ → List ℕ → ℕ → ℕ → Result ℕ Refusal
query_listed_answer m query space size = checked space size Err (Ok (length (listed_query m query)))

-- FORMAT 7.24: the text slice afterwards
unfoldable pub query_listed_text : ℕ → List ℕ → ℕ → List ℕ → List ℕ
query_listed_text m query space text = checked space (length text) (λ r. text) (over (listed_query m query) text)

-- FORMAT 7.24: the work space afterwards
unfoldable pub query_listed_space : ℕ → List ℕ → List ℕ → ℕ → List ℕ
query_listed_space m query work size = checked (length work) size (λ r. work) (judged_space m (judgement m query longest_file) work)
