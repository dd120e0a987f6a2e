-- Laws of reading operands: the room after each piece of text, and what each way through the code gives.
use Rattle.std.specs.Prelude.{ℕ, ◌+◌, ◌-◌, ◌≤◌, ◌<◌, ◌≡◌, refl, Bool, true, false, List, ltb, length, get_or, Option, None, Some}
use Rattle.std.proofs.Common.{sym, ap, ap₂, ◌∙◌, arith}
use Rattle.std.specs.Option.{option_or}
use Rattle.refusal.specs.declared.Refusal.{Refusal}
use Rattle.node.specs.declared.nodes.BinaryOp.{BinaryOp}
use Rattle.node.specs.declared.nodes.Node.TheVariants.{Relation, Binary}
use Rattle.node.specs.NodeBytes.{node_bytes}
use Rattle.attribute_set.specs.Listed.{all_special}
use Rattle.text.specs.declared.Writer.{Writer}
use Rattle.text.specs.Written.{Writes, Stands, stands-still, writes-more, writes-as}
use Rattle.query_language.specs.Parsed.{missing, found}
use Rattle.query_language.specs.Query.{Prefix, relation, pair, prefixed, node_count}
use Rattle.query_language.specs.Parse.{is_digit, prefix_at, sign_at, relation_at, pair_with, prefixed_with, operand_at}
use Rattle.query_language.specs.Steps.{prefixed-none as no-prefix, prefixed-half as no_Operand, prefixed-there}
use Rattle.query_language.proofs.Steps.{relation-none as no-relation, relation-there}
use Rattle.query_language.specs.Steps.{pair-no-left as no-left, pair-no-sign as no_sign, pair-no-right as no-right, pair-not-closed as not-closed, pair-there}
use Rattle.query_language.specs.Places.{byte_inside}
use Rattle.query_language.proofs.PrefixLaws.{prefix-sound}
use Rattle.query_language.specs.OperandLaws.{sign-sound, count-some}
use Rattle.query_language.proofs.OperandLaws.{operand_sound}
use Rattle.query_language.specs.Sizes.{prefix-some, prefix-end}
use Rattle.query_language.proofs.Sizes.{count-size, operand-end}
use Rattle.query_answer.specs.QueryNodes.{prefix_node, bytes_from, bytes-relation, bytes_pair, bytes-prefixed, bytes-size}
use Rattle.query_answer.specs.Faults.{leftmost, attribute_fault, relation_fault, prefix_attributes, fault-relation, fault-pair, fault-prefixed}
use Rattle.query_prefixes.specs.declared.prefixes.UnaryNode.{UnaryNode}
use Rattle.query_prefixes.specs.Answers.{Placed, sign_answer, unary_of, node_over, read_prefix, prefix_answer}
use Rattle.query_prefixes.specs.AnswerLaws.{sign-is, sign-missing, prefix-is, prefix-missing, over-prefix}
use Rattle.query_operands.specs.Reading.{Room, IsRead, Reads, not_read, read, read_operand}

-- the first of two refusals, in the library's word
pub or_leftmost : (f g : Option Refusal) → option_or f g ≡ leftmost f g
or_leftmost None g = refl
or_leftmost (Some r) g = refl

-- ---- the room after each piece of text

pub room-placed : {text : List ℕ} {out : Writer} {at count : ℕ} → Room text at out count → Placed text at
room-placed room = record { within = room.within; short = room.short }

-- nothing is written
pub room-stands : {text : List ℕ} {out : Writer} {at count : ℕ} → Room text at out count → Stands out out
room-stands {text} {out} {at} {count} room =
    let within = room.within in
    let short = room.short in
    let space = room.space in
    let h = room.bytes in
    stands-still out (omega arith)

pub room-byte : {text : List ℕ} {out : Writer} {at count : ℕ} (b : ℕ) → Room text at out count → get_or text at 0 ≡ b → 1 ≤ b → Room text (at + 1) out count
room-byte {text} {out} {at} {count} b room e some =
    let inside = byte_inside text at b e some in
    let h = room.bytes in
    let k = room.nodes in
    record { within = omega arith; short = room.short; space = room.space; bytes = omega arith; nodes = omega arith }

-- after an operand: later in the text, with one more node at least
pub record After (text : List ℕ) (at next : ℕ) (new : Writer) (count all : ℕ) : Type 0 where
  pub later : at < next
  pub room : Room text next new all
  pub some : count < all

pub room_after :
    {m count at : ℕ} {text : List ℕ} {old new : Writer} {next all : ℕ} {fault : Option Refusal}
    → Room text at old count
    → IsRead m count old new (operand_at text at) next all fault
    → After text at next new count all
room_after {m} {count} {at} {text} {old} {new} {next} {all} {fault} room r =
    let reads = operand_sound text at r.query next r.is in
    let within = reads.within in
    let next-is = operand-end text at r.query next room.within reads in
    let few = count-size r.query in
    let short = bytes-size count r.query in
    let one = count-some r.query in
    let all-is = r.all-is in
    let last-is = r.wrote.wrote.end_is in
    let size = r.wrote.wrote.size in
    let h = room.bytes in
    let k = room.nodes in
    let s = room.space in
    record {
      later = omega arith;
      room = record { within = within; short = room.short; space = omega arith; bytes = omega arith; nodes = omega arith };
      some = omega arith;
    }

-- ---- relations

module _ (text : List ℕ) (at : ℕ) {m count : ℕ} {old : Writer} where
  pub relation-none : {new : Writer} {b : ℕ} → b ≡ get_or text at 0 → is_digit b ≡ false → Reads m count old new (relation_at text at) None
  relation-none b-is e = not_read (no-relation text at (ap is_digit (sym b-is) ∙ e))

  pub relation-done :
      {new : Writer} {b : ℕ} {fault : Option Refusal}
      → b ≡ get_or text at 0
      → is_digit b ≡ true
      → fault ≡ relation_fault (ltb (b - 48) m)
      → Writes (node_bytes (Relation (b - 48))) old new
      → Reads m count old new (relation_at text at) (read_operand (at + 1) (count + 1) fault)
  relation-done {new} {b} {fault} b-is d f w =
      read (record {
        query = relation (b - 48);
        is = relation-there text at (ap is_digit (sym b-is) ∙ d) ∙ ap (λ (x : ℕ). found (relation (x - 48)) (at + 1)) (sym b-is);
        wrote = writes-as (sym (bytes-relation count (b - 48))) w;
        all-is = refl;
        fault-is = f ∙ sym (fault-relation m (b - 48));
      })

-- ---- prefixed operands

-- a prefix that was read
pub record IsPrefix (text : List ℕ) (at : ℕ) (unary : UnaryNode) (special : Bool) (next : ℕ) : Type 0 where
  pub prefix : Prefix
  pub is : prefix_at text at ≡ found prefix next
  pub unary-is : unary ≡ unary_of prefix
  pub special-is : special ≡ all_special (prefix_attributes prefix)

pub room-prefix : {text : List ℕ} {out : Writer} {at next count : ℕ} {unary : UnaryNode} {special : Bool} → Room text at out count → IsPrefix text at unary special next → (at < next) × Room text next out count
room-prefix {text} {out} {at} {next} {count} room l =
    let reads = prefix-sound text at l.prefix next l.is in
    let within = reads.within in
    let next-is = prefix-end text at l.prefix next room.within reads in
    let some = prefix-some l.prefix in
    let k = room.bytes in
    let n = room.nodes in
    (omega arith, record { within = within; short = room.short; space = room.space; bytes = omega arith; nodes = omega arith })

module _ (text : List ℕ) (at : ℕ) {m count : ℕ} {old : Writer} where
  pub prefixed-none : {new : Writer} → None ≡ prefix_answer (prefix_at text at) → Reads m count old new (prefixed_with (operand_at text) text at) None
  prefixed-none e = not_read (no-prefix (operand_at text) text at (prefix-missing (prefix_at text at) e))

  module _ {unary : UnaryNode} {special : Bool} {next : ℕ} (l : IsPrefix text at unary special next) where
    pub prefixed-half : {new : Writer} → operand_at text next ≡ missing → Reads m count old new (prefixed_with (operand_at text) text at) None
    prefixed-half e = not_read (no_Operand (operand_at text) text at l.is e)

    pub prefixed-done :
        {near new : Writer} {after all : ℕ} {fault : Option Refusal}
        → IsRead m count old near (operand_at text next) after all fault
        → Writes (node_bytes (node_over unary (all - 1))) near new
        → Reads m count old new (prefixed_with (operand_at text) text at) (read_operand after (all + 1) (leftmost (attribute_fault special) fault))
    prefixed-done {near} {new} {after} {all} {fault} r w =
        let all-is = r.all-is in
        let more : all + 1 ≡ count + (node_count r.query + 1) = omega arith in
        let node-is : node_over unary (all - 1) ≡ prefix_node l.prefix (count + node_count r.query - 1) =
        ap₂ (λ (u : UnaryNode) (k : ℕ). node_over u (k - 1)) l.unary-is all-is ∙ over-prefix l.prefix (count + node_count r.query - 1)
        in
        read (record {
          query = prefixed l.prefix r.query;
          is = prefixed-there (operand_at text) text at l.is r.is;
          wrote = writes-as (sym (bytes-prefixed count l.prefix r.query)) (writes-more r.wrote (writes-as (ap node_bytes node-is) w));
          all-is = more;
          fault-is = ap₂ (λ (t : Bool) (f : Option Refusal). leftmost (attribute_fault t) f) l.special-is r.fault-is ∙ sym (fault-prefixed m l.prefix r.query);
        })

pub is-prefix : (text : List ℕ) (at : ℕ) {unary : UnaryNode} {special : Bool} {next : ℕ} → read_prefix unary special next ≡ prefix_answer (prefix_at text at) → IsPrefix text at unary special next
is-prefix text at e = let found-is = prefix-is (prefix_at text at) e in record { prefix = found-is.0; is = found-is.1; unary-is = found-is.2; special-is = found-is.3 }

-- ---- pairs

-- the sign after the left operand, and the room after it
pub record IsSign (text : List ℕ) (at : ℕ) (op : BinaryOp) : Type 0 where
  pub is : sign_at text at ≡ found op (at + 1)
  pub within : at + 1 ≤ length text

pub is-sign : (text : List ℕ) (at : ℕ) {op : BinaryOp} → Some op ≡ sign_answer (sign_at text at) → IsSign text at op
is-sign text at {op} e =
    let found-is = sign-is (sign_at text at) e in
    let sign = sign-sound text at op found-is.0 found-is.1 in
    let next-is = sign.next-is in
    let within = sign.within in
    record { is = found-is.1 ∙ ap (found op) next-is; within = omega arith }

pub room-sign : {text : List ℕ} {out : Writer} {at count : ℕ} {op : BinaryOp} → Room text at out count → IsSign text at op → Room text (at + 1) out count
room-sign {text} {out} {at} {count} room s =
    let h = room.bytes in
    let k = room.nodes in
    record { within = s.within; short = room.short; space = room.space; bytes = omega arith; nodes = omega arith }

module _ (text : List ℕ) (at : ℕ) {m count : ℕ} {old : Writer} where
  pub pair-no-left : {new : Writer} → operand_at text at ≡ missing → Reads m count old new (pair_with (operand_at text) text at) None
  pair-no-left e = not_read (no-left (operand_at text) text at e)

  module _ {mid : Writer} {a lefts : ℕ} {fault : Option Refusal} (l : IsRead m count old mid (operand_at text at) a lefts fault) where
    pub pair-no-sign : {new : Writer} → None ≡ sign_answer (sign_at text a) → Reads m count old new (pair_with (operand_at text) text at) None
    pair-no-sign e = not_read (no_sign (operand_at text) text at l.is (sign-missing (sign_at text a) e))

    module _ {op : BinaryOp} (s : IsSign text a op) where
      pub pair-no-right : {new : Writer} → operand_at text (a + 1) ≡ missing → Reads m count old new (pair_with (operand_at text) text at) None
      pair-no-right e = not_read (no-right (operand_at text) text at l.is s.is e)

      module _ {near : Writer} {b all : ℕ} {other : Option Refusal} (r : IsRead m lefts mid near (operand_at text (a + 1)) b all other) where
        pub pair-not-closed : {new : Writer} → (get_or text b 0 ≡ 41 → ⊥) → Reads m count old new (pair_with (operand_at text) text at) None
        pair-not-closed e = not_read (not-closed (operand_at text) text at l.is s.is r.is e)

        pub pair-done :
            {new : Writer}
            → get_or text b 0 ≡ 41
            → Writes (node_bytes (Binary op (lefts - 1) (all - 1))) near new
            → Reads m count old new (pair_with (operand_at text) text at) (read_operand (b + 1) (all + 1) (leftmost fault other))
        pair-done {new} e w =
            let lefts-is = l.all-is in
            let all-is : all ≡ count + node_count l.query + node_count r.query = r.all-is ∙ ap (λ (n : ℕ). n + node_count r.query) lefts-is in
            let more : all + 1 ≡ count + (node_count l.query + node_count r.query + 1) = omega arith in
            let right = writes-as (ap (λ (k : ℕ). bytes_from k r.query) lefts-is) r.wrote in
            let node = writes-as (ap₂ (λ (j k : ℕ). node_bytes (Binary op (j - 1) (k - 1))) lefts-is all-is) w in
            read (record {
              query = pair op l.query r.query;
              is = pair-there (operand_at text) text at l.is s.is r.is e;
              wrote = writes-as (sym (bytes_pair count op l.query r.query)) (writes-more l.wrote (writes-more right node));
              all-is = more;
              fault-is = ap₂ leftmost l.fault-is r.fault-is ∙ sym (fault-pair m op l.query r.query);
            })

-- an operand that does not end before the text's end ends there
pub read-end : (text : List ℕ) (at : ℕ) {m count : ℕ} {old new : Writer} {next all : ℕ} {fault : Option Refusal} → IsRead m count old new (operand_at text at) next all fault → length text ≤ next → next ≡ length text
read-end text at {m} {count} {old} {new} {next} r h = let within = (operand_sound text at r.query next r.is).within in omega arith
