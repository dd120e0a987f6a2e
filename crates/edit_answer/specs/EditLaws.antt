-- Laws of Edit: how the record is judged, and the answer and the result slice in each case.
use Rattle.std.specs.Prelude.{ℕ, ◌≤◌, ◌<◌, List, Result, Ok, Err}
use Rattle.std.proofs.Math.Path.{◌≡◌, refl, ap}
use Rattle.std.proofs.Common.{◌∙◌, arith}
use Rattle.std.proofs.Math.Nat.{le_antisymm}
use borrow.Author.Tests.{lt-ltb, le-ltb, ltb-false}
use Rattle.std.proofs.Math.Dec.{ltb}
use Rattle.std.proofs.Math.ListN.{length}
use Rattle.bits.specs.Tab.{over}
use Rattle.refusal.specs.Chain.{refuse, refuse-stops, refuse-passes, refuse-past}
use Rattle.refusal.specs.declared.Refusal.{Refusal}
use Rattle.refusal.specs.declared.Refusal.TheVariants.{NodesFollowed, EditSlice}
use Rattle.node.specs.ReadNode.{check_node, after_node, node_of, read_node, Read}
use Rattle.node.specs.Legal.{node-passed}
use Rattle.node.specs.Reading.{checked-read}
use Rattle.expression_file.specs.ReadFile.{acceptance, Accepted}
use Rattle.expression_file.specs.Accepted.{accepted-file, accepted-parts}
use Rattle.expression_file.specs.Walk.{longest_file, file-most}
use Rattle.expression_file.specs.Exchanged.{exchanged}
use Rattle.expression_file.proofs.Exchanged.{exchanged-accepted}
use Rattle.admission.specs.Admission.{asked}
use Rattle.admission.specs.AdmissionLaws.{tested-refused, tested-stops, tested-passes, passed, asked-passed}
use Rattle.edit_answer.specs.Edit.{check_record, unless_refused, recorded, edit_sliced, edit_tests, edit_answer, edit_result}
use Rattle.expression_file.specs.declared.files.Header.{Header}

-- ---- the record

module _ (m k : ℕ) (replacement : List ℕ) where
  -- it is no node, or begins with none
  pub record-stops : (r : Refusal) → check_node m k replacement ≡ Err r → check_record m k replacement ≡ Err r
  unfolding check_record
  record-stops r e = rw e

  pub record-follows : (size : ℕ) → check_node m k replacement ≡ Ok size → size < length replacement → check_record m k replacement ≡ Err NodesFollowed
  unfolding check_record
  record-follows size e h = rw e (refuse-stops _ _ _ _ (lt-ltb size (length replacement) h))

  pub record-passes : (size : ℕ) → check_node m k replacement ≡ Ok size → length replacement ≤ size → check_record m k replacement ≡ Ok size
  unfolding check_record
  record-passes size e h = rw e (refuse-passes _ _ _ _ (le-ltb size (length replacement) h))

  -- where nothing is refused it is a node, whole
  pub record-read : (size : ℕ) → check_record m k replacement ≡ Ok size → read_node m k replacement ≡ Read (node_of replacement) (length replacement)
  unfolding check_record
  record-read size = go (check_node m k replacement) refl
    where
      go :
          (c : Result ℕ Refusal)
          → check_node m k replacement ≡ c
          → after_node c (λ end. refuse Err (ltb end (length replacement)) NodesFollowed (Ok end)) ≡ Ok size
          → read_node m k replacement ≡ Read (node_of replacement) (length replacement)
      go (Err r) is e = absurd (let z : ◌≡◌ {A = ℕ} 0 1 = cc in omega arith)
      go (Ok end) is e =
          let past = refuse-past Err (ltb end (length replacement)) NodesFollowed (Ok end) (λ other. let z : ◌≡◌ {A = ℕ} 0 1 = cc in omega arith) e in
          let whole : end ≡ length replacement = le_antisymm (node-passed m k replacement end is).reading.fits (ltb-false end (length replacement) past.0) in
          checked-read m k replacement (length replacement) (is ∙ ap Ok whole)

-- ---- after the tests before it

module _ (a : Result Header Refusal) (k : ℕ) (replacement : List ℕ) where
  pub recorded-refused : {r : Refusal} → a ≡ Err r → recorded a k replacement ≡ Err r
  unfolding recorded
  recorded-refused e = rw e

  pub recorded-stops : {m n : ℕ} (r : Refusal) → a ≡ Accepted m n → check_record m k replacement ≡ Err r → recorded a k replacement ≡ Err r
  unfolding recorded
  recorded-stops r e stops = rw e (rw stops)

  pub recorded-passes : {m n size : ℕ} → a ≡ Accepted m n → check_record m k replacement ≡ Ok size → recorded a k replacement ≡ Accepted m n
  unfolding recorded
  recorded-passes e passes = rw e (rw passes)

  -- nothing was refused before, and the record is a node, whole
  pub recorded-passed : {m n : ℕ} → recorded a k replacement ≡ Accepted m n → (a ≡ Accepted m n) × (read_node m k replacement ≡ Read (node_of replacement) (length replacement))
  unfolding recorded
  recorded-passed {m} {n} = go a refl
    where
      judge :
          (m' n' : ℕ)
          → a ≡ Accepted m' n'
          → (c : Result ℕ Refusal)
          → check_record m' k replacement ≡ c
          → unless_refused c (Accepted m' n') ≡ Accepted m n
          → (a ≡ Accepted m n) × (read_node m k replacement ≡ Read (node_of replacement) (length replacement))
      judge m' n' is (Err r) check e = absurd (let z : ◌≡◌ {A = ℕ} 0 1 = cc in omega arith)
      judge m' n' is (Ok size) check e =
          let parts = accepted-parts e in
          let relations : m' ≡ m = parts.0 in
          let nodes : n' ≡ n = parts.1 in
          (rw (relations, nodes) at is, rw relations at (record-read m' k replacement size check))

      go : (b : Result Header Refusal) → a ≡ b → recorded b k replacement ≡ Accepted m n → (a ≡ Accepted m n) × (read_node m k replacement ≡ Read (node_of replacement) (length replacement))
      go (Err r) is e = absurd (let z : ◌≡◌ {A = ℕ} 0 1 = cc in omega arith)
      go (Ok h) is e = judge h.relations h.nodes is (check_record h.relations k replacement) refl e

-- ---- 27

module _ (a : Result Header Refusal) (size : ℕ) where
  pub slice-refused : {r : Refusal} → a ≡ Err r → edit_sliced a size ≡ Err r
  unfolding edit_sliced
  slice-refused e = tested-refused a (λ n. ltb size longest_file) EditSlice e

  pub slice-stops : {m n : ℕ} → a ≡ Accepted m n → size < longest_file → edit_sliced a size ≡ Err EditSlice
  unfolding edit_sliced
  slice-stops e h = tested-stops a (λ n. ltb size longest_file) EditSlice e (lt-ltb size longest_file h)

  pub slice_passes : {m n : ℕ} → a ≡ Accepted m n → longest_file ≤ size → edit_sliced a size ≡ Accepted m n
  unfolding edit_sliced
  slice_passes e h = tested-passes a (λ n. ltb size longest_file) EditSlice e (le-ltb size longest_file h)

  pub slice-passed : {m n : ℕ} → edit_sliced a size ≡ Accepted m n → (a ≡ Accepted m n) × (longest_file ≤ size)
  unfolding edit_sliced
  slice-passed e = let p = passed a (λ n. ltb size longest_file) EditSlice e in (p.0, ltb-false size longest_file p.1)

-- after the tests before it, which are known
pub slice-known : (a b c : Result Header Refusal) (size : ℕ) → c ≡ edit_sliced b size → b ≡ a → c ≡ edit_sliced a size
slice-known a b c size said is = said ∙ ap (λ (x : Result Header Refusal). edit_sliced x size) is

-- ---- the answer and the result slice

-- node k of an accepted file, and a record that is a node in its place
pub record Exchanges (file : List ℕ) (k : ℕ) (replacement : List ℕ) (m n : ℕ) : Type 0 where
  pub accepted : acceptance file ≡ Accepted m n
  pub node : k < n
  pub reads : read_node m k replacement ≡ Read (node_of replacement) (length replacement)

-- the edited file is accepted, so it is not too long
pub exchanges-most : {file : List ℕ} {k : ℕ} {replacement : List ℕ} {m n : ℕ} → Exchanges file k replacement m n → length (exchanged file k replacement) ≤ longest_file
exchanges-most {file} {k} {replacement} {m} {n} e =
    file-most (exchanged file k replacement) m n (exchanged-accepted file m n e.accepted k e.node replacement (node_of replacement) e.reads)

module _ (file : List ℕ) (k : ℕ) (replacement result : List ℕ) where
  -- what none of the tests refuses
  pub edit-passed : {m n : ℕ} → edit_tests file k replacement (length result) ≡ Accepted m n → Exchanges file k replacement m n × (longest_file ≤ length result)
  unfolding edit_tests
  edit-passed e =
      let judged = recorded-passed _ k replacement e in
      let slice = slice-passed (asked file k) (length result) judged.0 in
      let found = asked-passed file k slice.0 in
      (record { accepted = found.0; node = found.1; reads = judged.1 }, slice.1)

  -- the answer and the slice are as the definitions say
  abbrev Results : Result ℕ Refusal → List ℕ → Type 0
  Results e written = (e ≡ edit_answer file k replacement (length result)) × (written ≡ edit_result file k replacement result)

  pub edit-stops : (r : Refusal) → edit_tests file k replacement (length result) ≡ Err r → Results (Err r) result
  unfolding edit_answer edit_result
  edit-stops r e = rw e (refl, refl)

  pub edit-passes : {m n : ℕ} → edit_tests file k replacement (length result) ≡ Accepted m n → Results (Ok (length (exchanged file k replacement))) (over (exchanged file k replacement) result)
  unfolding edit_answer edit_result
  edit-passes e = rw e (refl, refl)

  -- ---- by the tests in turn

  -- all of them are known
  pub tests-are : (a b c : Result Header Refusal) → c ≡ recorded b k replacement → b ≡ edit_sliced a (length result) → a ≡ asked file k → c ≡ edit_tests file k replacement (length result)
  unfolding edit_tests
  tests-are a b c judged sliced found = judged ∙ ap (λ (x : Result Header Refusal). recorded x k replacement) (sliced ∙ ap (λ (x : Result Header Refusal). edit_sliced x (length result)) found)

  module _ {m n : ℕ} (slice : edit_sliced (asked file k) (length result) ≡ Accepted m n) where
    -- the node's number is below 64
    pub slice-few : k < 64
    slice-few =
        let found = asked-passed file k (slice-passed (asked file k) (length result) slice).0 in
        let below = found.1 in
        let most = (accepted-file file _ _ found.0).counts.nodes.1 in
        omega arith

    pub record-refuses : (r : Refusal) → check_record m k replacement ≡ Err r → Results (Err r) result
    unfolding edit_tests
    record-refuses r e = edit-stops r (recorded-stops _ k replacement r slice e)

    pub record-accepted : {size : ℕ} → check_record m k replacement ≡ Ok size → edit_tests file k replacement (length result) ≡ Accepted m n
    unfolding edit_tests
    record-accepted e = recorded-passes _ k replacement slice e
