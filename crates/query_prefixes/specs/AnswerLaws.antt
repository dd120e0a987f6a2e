-- Laws of the answers: what an answer says of what was read, and back; and places after what was read.
use Rattle.std.specs.Prelude.{ℕ, ◌+◌, ◌≤◌, ◌≡◌, refl, Bool, true, ◌&&◌, get_or, None, Some}
use Rattle.std.proofs.Math.Path.{sym, ap, ap₂}
use Rattle.std.proofs.Common.{◌∙◌, arith, lit≤}
use mathlib.Core.List.{List, [], ◌∷◌}
use Rattle.attribute_set.specs.declared.AttrSet.{AttrSet}
use Rattle.attribute_set.specs.AttrSet.{special, empty_set, with_attribute}
use Rattle.attribute_set.specs.Listed.{with_attributes, special_after, all_special, with_none, with-more, special-none, special-more}
use Rattle.node.specs.declared.nodes.BinaryOp.{BinaryOp}
use Rattle.node.specs.declared.nodes.SetOp.{SetOp}
use Rattle.query_language.specs.Parsed.{Parsed, missing, found, and_then, then-of, then-missing}
use Rattle.query_language.specs.Query.{Prefix, with_set, renaming, projecting_out}
use Rattle.query_language.specs.Parse.{number_at, ended_number}
use Rattle.query_language.specs.Places.{byte_inside}
use Rattle.query_language.specs.NumberLaws.{NumberRead, number-sound, ended-sound}
use Rattle.query_answer.specs.QueryNodes.{prefix_node}
use Rattle.query_answer.specs.Faults.{prefix_attributes}
use Rattle.query_prefixes.specs.declared.numbers.Number.{Number}
use Rattle.query_prefixes.specs.declared.lists.AttributeList.{AttributeList}
use Rattle.query_prefixes.specs.declared.prefixes.PrefixReading.{PrefixReading}
use Rattle.query_prefixes.specs.declared.prefixes.UnaryNode.{UnaryNode}
use Rattle.query_prefixes.specs.declared.prefixes.UnaryNode.TheVariants.{WithSet, Renaming, ProjectingOut}
use Rattle.query_prefixes.specs.Answers.{Placed, sign_answer, read_number, number_answer, read_list, list_answer, unary_of, node_over, read_prefix, prefix_answer}

-- ---- what an answer says of what was read

abbrev read_in : ℕ → ℕ → Number
read_in n next = record { value = n; next = next }

pub number_is : (p : Parsed ℕ) {n next : ℕ} → read_number n next ≡ number_answer p → p ≡ found n next
unfolding number_answer
number_is missing e = absurd (let z : ◌≡◌ {A = ℕ} 0 1 = cc in omega arith)
number_is (found m place) {n} {next} e =
    let same : read_in n next ≡ read_in m place = cc in
    let m-is : n ≡ m = ap (λ (r : Number). r.value) same in
    let place_is : next ≡ place = ap (λ (r : Number). r.next) same in
    rw (m-is, place_is)

pub number-missing : (p : Parsed ℕ) → None ≡ number_answer p → p ≡ missing
unfolding number_answer
number-missing missing e = refl
number-missing (found m place) e = absurd (let z : ◌≡◌ {A = ℕ} 0 1 = cc in omega arith)

pub sign-is : (p : Parsed BinaryOp) {op : BinaryOp} → Some op ≡ sign_answer p → (next : ℕ) × (p ≡ found op next)
unfolding sign_answer
sign-is missing e = absurd (let z : ◌≡◌ {A = ℕ} 0 1 = cc in omega arith)
sign-is (found o place) {op} e = let o_is : op ≡ o = cc in (place, rw o_is)

pub sign-missing : (p : Parsed BinaryOp) → None ≡ sign_answer p → p ≡ missing
unfolding sign_answer
sign-missing missing e = refl
sign-missing (found o place) e = absurd (let z : ◌≡◌ {A = ℕ} 0 1 = cc in omega arith)

abbrev prefix_in : UnaryNode → Bool → ℕ → PrefixReading
prefix_in unary all next = record { unary = unary; special = all; next = next }

pub prefix-is :
    (p : Parsed Prefix) {unary : UnaryNode} {all : Bool} {next : ℕ}
    → read_prefix unary all next ≡ prefix_answer p
    → (q : Prefix) × (p ≡ found q next) × (unary ≡ unary_of q) × (all ≡ all_special (prefix_attributes q))
unfolding prefix_answer
prefix-is missing e = absurd (let z : ◌≡◌ {A = ℕ} 0 1 = cc in omega arith)
prefix-is (found q place) {unary} {all} {next} e =
    let same : prefix_in unary all next ≡ prefix_in (unary_of q) (all_special (prefix_attributes q)) place = cc in
    let place_is : next ≡ place = ap (λ (r : PrefixReading). r.next) same in
    (q, rw place_is, ap (λ (r : PrefixReading). r.unary) same, ap (λ (r : PrefixReading). r.special) same)

pub prefix-missing : (p : Parsed Prefix) → None ≡ prefix_answer p → p ≡ missing
unfolding prefix_answer
prefix-missing missing e = refl
prefix-missing (found q place) e = absurd (let z : ◌≡◌ {A = ℕ} 0 1 = cc in omega arith)

-- ---- what an answer is, by what was read

pub number-found : {p : Parsed ℕ} {n next : ℕ} → p ≡ found n next → read_number n next ≡ number_answer p
unfolding number_answer
number-found e = sym (ap number_answer e)

pub number-none : {p : Parsed ℕ} → p ≡ missing → None ≡ number_answer p
unfolding number_answer
number-none e = sym (ap number_answer e)

pub sign-found : {p : Parsed BinaryOp} {op : BinaryOp} {next : ℕ} → p ≡ found op next → Some op ≡ sign_answer p
unfolding sign_answer
sign-found e = sym (ap sign_answer e)

pub sign-none : {p : Parsed BinaryOp} → p ≡ missing → None ≡ sign_answer p
unfolding sign_answer
sign-none e = sym (ap sign_answer e)

pub prefix-none : {p : Parsed Prefix} → p ≡ missing → None ≡ prefix_answer p
unfolding prefix_answer
prefix-none e = sym (ap prefix_answer e)

-- ---- places

-- a number that was read is below 100, and its end is later and within the text
pub number_read : (text : List ℕ) (at : ℕ) {n next : ℕ} → read_number n next ≡ number_answer (number_at text at) → NumberRead text at n next
number_read text at e = number-sound text at _ _ (number_is (number_at text at) e)

-- what comes after a number and its byte is a place of the text again
pub ended-placed : (text : List ℕ) (b at : ℕ) {n next : ℕ} → 1 ≤ b → Placed text at → read_number n next ≡ number_answer (ended_number text b at) → Placed text next
ended-placed text b at some place e = record { within = (ended-sound text b at _ _ some (number_is (ended_number text b at) e)).within; short = place.short }

-- the place after a comma
pub comma-placed : (text : List ℕ) (at : ℕ) {n next : ℕ} → Placed text at → read_number n next ≡ number_answer (number_at text at) → get_or text next 0 ≡ 44 → Placed text (next + 1)
comma-placed text at {n} {next} place e b = let inside = byte_inside text next 44 b (lit≤ tt) in record { within = omega arith; short = place.short }

-- the place after a letter and its bracket
pub bracket-placed : (text : List ℕ) (at : ℕ) → get_or text (at + 1) 0 ≡ 91 → Placed text at → Placed text (at + 2)
bracket-placed text at o place = let inside = byte_inside text (at + 1) 91 o (lit≤ tt) in record { within = omega arith; short = place.short }

-- ---- lists, on from a set

module _ (s : AttrSet) (t : Bool) where
  pub list-none : {p : Parsed (List ℕ)} → p ≡ missing → None ≡ list_answer s t p
  unfolding list_answer
  list-none e = sym (ap (list_answer s t) e)

  pub list-end : {p : Parsed (List ℕ)} {next : ℕ} → p ≡ found [] next → read_list s t next ≡ list_answer s t p
  unfolding list_answer
  list-end {p} {next} e = sym (ap (list_answer s t) e ∙ ap₂ (λ (u : AttrSet) (v : Bool). read_list u v next) (with_none s) (special-none t))

  one_more : (n : ℕ) (ns : List ℕ) (next : ℕ) → list_answer s t (found (n ∷ ns) next) ≡ list_answer (with_attribute s n) (t && special n) (found ns next)
  unfolding list_answer
  one_more n ns next = ap₂ (λ (u : AttrSet) (v : Bool). read_list u v next) (with-more s n ns) (special-more t n ns)

  -- the last item
  pub list-last : {p : Parsed (List ℕ)} {n next : ℕ} → p ≡ found (n ∷ []) next → read_list (with_attribute s n) (t && special n) next ≡ list_answer s t p
  unfolding list_answer
  list-last {p} {n} {next} e =
      sym (ap (list_answer s t) e ∙ one_more n [] next ∙ ap₂ (λ (u : AttrSet) (v : Bool). read_list u v next) (with_none (with_attribute s n)) (special-none (t && special n)))

  -- an item, and the others
  pub list-more : {p : Parsed (List ℕ)} (n : ℕ) (rest : Parsed (List ℕ)) → p ≡ and_then rest (λ ns end. found (n ∷ ns) end) → list_answer (with_attribute s n) (t && special n) rest ≡ list_answer s t p
  unfolding list_answer
  list-more n rest e = sym (ap (list_answer s t) e ∙ go rest)
    where
      go : (r : Parsed (List ℕ)) → list_answer s t (and_then r λ ns end. found (n ∷ ns) end) ≡ list_answer (with_attribute s n) (t && special n) r
      go missing = ap (list_answer s t) (then-missing _ _ refl)
      go (found ns end) = ap (list_answer s t) (then-of _ _ refl) ∙ one_more n ns end

abbrev list_in : AttrSet → Bool → ℕ → AttributeList
list_in s t next = record { set = s; special = t; next = next }

-- a list that was read
pub list-is : (p : Parsed (List ℕ)) {s : AttrSet} {t : Bool} {next : ℕ} → read_list s t next ≡ list_answer empty_set true p → (ns : List ℕ) × (p ≡ found ns next) × (s ≡ with_attributes empty_set ns) × (t ≡ all_special ns)
unfolding list_answer
list-is missing e = absurd (let z : ◌≡◌ {A = ℕ} 0 1 = cc in omega arith)
list-is (found ns end) {s} {t} {next} e =
    let same : list_in s t next ≡ list_in (with_attributes empty_set ns) (special_after true ns) end = cc in
    let end_is : next ≡ end = ap (λ (r : AttributeList). r.next) same in
    (ns, rw end_is, ap (λ (r : AttributeList). r.set) same, ap (λ (r : AttributeList). r.special) same)

pub list-missing : (p : Parsed (List ℕ)) → None ≡ list_answer empty_set true p → p ≡ missing
unfolding list_answer
list-missing missing e = refl
list-missing (found ns end) e = absurd (let z : ◌≡◌ {A = ℕ} 0 1 = cc in omega arith)

-- ---- prefixes

pub set_found : (op : SetOp) {p : Parsed Prefix} {q : Parsed (List ℕ)} {s : AttrSet} {t : Bool} {next : ℕ} → ((ns : List ℕ) → q ≡ found ns next → p ≡ found (with_set op ns) next) → read_list s t next ≡ list_answer empty_set true q → read_prefix (WithSet op s) t next ≡ prefix_answer p
unfolding prefix_answer unary_of
set_found op {p} {q} {s} {t} {next} reads e =
    let list = list-is q e in
    ap₂ (λ (u : AttrSet) (v : Bool). read_prefix (WithSet op u) v next) list.2 list.3 ∙ sym (ap prefix_answer (reads list.0 list.1))

pub out-found : {p : Parsed Prefix} {old next : ℕ} → p ≡ found (projecting_out old) next → read_prefix (ProjectingOut old) (special old) next ≡ prefix_answer p
unfolding prefix_answer unary_of
out-found {p} {old} {next} e =
    sym (ap prefix_answer e ∙ ap (λ (v : Bool). read_prefix (ProjectingOut old) v next) (special-more true old [] ∙ special-none (special old)))

pub renaming-found : {p : Parsed Prefix} {old new next : ℕ} → p ≡ found (renaming old new) next → read_prefix (Renaming old new) (special old && special new) next ≡ prefix_answer p
unfolding prefix_answer unary_of
renaming-found {p} {old} {new} {next} e =
    sym (ap prefix_answer e ∙ ap (λ (v : Bool). read_prefix (Renaming old new) v next) (special-more true old (new ∷ []) ∙ special-more (special old) new [] ∙ special-none (special old && special new)))

-- ---- the node of a prefix

pub over-prefix : (p : Prefix) (k : ℕ) → node_over (unary_of p) k ≡ prefix_node p k
unfolding node_over unary_of
over-prefix (with_set op ns) k = refl
over-prefix (renaming old new) k = refl
over-prefix (projecting_out old) k = refl
