-- What reading an operand leaves: its nodes from a place on, or nothing that matters.
use Rattle.std.specs.Prelude.{ℕ, ◌+◌, ◌≤◌, ◌≡◌, List, length, Option, None, Some}
use Rattle.std.proofs.Common.{subst}
use Rattle.refusal.specs.declared.Refusal.{Refusal}
use Rattle.text.specs.declared.Writer.{Writer}
use Rattle.text.specs.Written.{Writes}
use Rattle.query_language.specs.Parsed.{Parsed, missing, found}
use Rattle.query_language.specs.Query.{Query, node_count}
use Rattle.query_answer.specs.QueryNodes.{bytes_from}
use Rattle.query_answer.specs.Faults.{faults_of, first_of}
use Rattle.query_operands.specs.declared.operands.Operand.{Operand}

-- where nodes go: a byte of text has given at most two bytes of nodes, and two of them at most one node, so that 1,029
-- bytes are enough for all nodes of any text of 512 bytes
pub record Room (text : List ℕ) (at : ℕ) (out : Writer) (count : ℕ) : Type 0 where
  pub within : at ≤ length text
  pub short : length text ≤ 512
  pub space : 1029 ≤ length out.text.now
  pub bytes : out.at ≤ at + at
  pub nodes : count + count ≤ at

-- an operand that was read: its query, the bytes of its nodes, numbered from `count` on, and the first number out of its
-- range
pub record IsRead (m count : ℕ) (old new : Writer) (p : Parsed Query) (next all : ℕ) (fault : Option Refusal) : Type 0 where
  pub query : Query
  pub is : p ≡ found query next
  pub wrote : Writes (bytes_from count query) old new
  pub all-is : all ≡ count + node_count query
  pub fault-is : fault ≡ first_of (faults_of m query)

-- what a reader answers, by what is found
pub data Reads (m count : ℕ) (old new : Writer) (p : Parsed Query) : Option Operand → Type 0 where
  not_read : p ≡ missing → Reads m count old new p None
  read : {o : Operand} → IsRead m count old new p o.next o.count o.fault → Reads m count old new p (Some o)

-- an operand that was read
abbrev pub read_operand : ℕ → ℕ → Option Refusal → Option Operand
read_operand next all fault = Some (record { next = next; count = all; fault = fault })

-- ---- taken apart

module _ {m count : ℕ} {old new : Writer} {p : Parsed Query} where
  read_of : {o : Operand} → Reads m count old new p (Some o) → IsRead m count old new p o.next o.count o.fault
  read_of (read r) = r

  pub is_read : {o : Operand} {r : Option Operand} → r ≡ Some o → Reads m count old new p r → IsRead m count old new p o.next o.count o.fault
  is_read e o = read_of (subst (Reads m count old new p) e o)

  missing-of : Reads m count old new p None → p ≡ missing
  missing-of (not_read is) = is

  pub is-missing : {r : Option Operand} → r ≡ None → Reads m count old new p r → p ≡ missing
  is-missing e o = missing-of (subst (Reads m count old new p) e o)

-- the same of what is found in other words
pub reads_as : {m count : ℕ} {old new : Writer} {p u : Parsed Query} {r : Option Operand} → p ≡ u → Reads m count old new p r → Reads m count old new u r
reads_as {m} {count} {old} {new} {p} {u} {r} e o = subst (λ (x : Parsed Query). Reads m count old new x r) e o
