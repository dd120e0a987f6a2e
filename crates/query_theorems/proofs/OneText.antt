-- The types of a file that was written are those of its query, and a file comes of one text.
use Rattle.std.specs.Prelude.{ℕ, ◌-◌, ◌≡◌, ◌↔◌, List, length, take, Ok}
use Rattle.std.proofs.Common.{sym, ap, subst, ◌∙◌}
use Rattle.types.specs.Types.{Attrs, Assignment}
use Rattle.algebra.specs.Rules.{Typed}
use Rattle.expression_file.specs.ReadFile.{acceptance, Accepted}
use Rattle.node_expression.specs.NodeExpression.{expression_at}
use Rattle.query_language.specs.Query.{Query, query_text, InLanguage, node_count}
use Rattle.query_answer.specs.ParseQuery.{parse_answer, parse_file}
use Rattle.query_theorems.specs.Meaning.{meaning}
use Rattle.query_theorems.specs.MeaningOnce.{meaning-once}
use Rattle.query_theorems.proofs.Theorems.{written_of, written_part, written-accepted, written-meaning}
use Rattle.expression_file.specs.Accepted.{accepted-parts}

module _ (m : ℕ) (text old : List ℕ) (size : ℕ) (parses : parse_answer m text (length old) ≡ Ok size) (q : Query) (l : InLanguage text q) where
  -- the rules give the last node the types that they give the query
  pub written-typed : (A : Assignment) (t : Attrs) → Typed A (expression_at (written_part m text old size parses) (node_count q - 1)) t ↔ Typed A (meaning q) t
  written-typed A t = (subst (λ e. Typed A e t) (written-meaning m text old size parses q l), subst (λ e. Typed A e t) (sym (written-meaning m text old size parses q l)))

-- ---- a file comes of one text

-- two texts that are parsed to one file are equal
pub text-once :
    (m : ℕ) (a old : List ℕ) (size : ℕ) (parses : parse_answer m a (length old) ≡ Ok size)
    (k : ℕ) (b other : List ℕ) (other-size : ℕ) (other-parses : parse_answer k b (length other) ≡ Ok other-size)
    → take size (parse_file m a old) ≡ take other-size (parse_file k b other)
    → a ≡ b
text-once m a old size parses k b other other-size other-parses e =
    let u = written_of m a old size parses in
    let v = written_of k b other other-size other-parses in
    let first-accepted = written-accepted m a old size parses u.query u.language in
    let other-accepted = written-accepted k b other other-size other-parses v.query v.language in
    let counts : Accepted m (node_count u.query) ≡ Accepted k (node_count v.query) = sym first-accepted ∙ ap acceptance e ∙ other-accepted in
    let count : node_count u.query ≡ node_count v.query = (accepted-parts counts).1 in
    let means : meaning u.query ≡ meaning v.query =
    sym (written-meaning m a old size parses u.query u.language)
    ∙ ap (λ (file : List ℕ). expression_at file (node_count u.query - 1)) e
    ∙ ap (λ (n : ℕ). expression_at (take other-size (parse_file k b other)) (n - 1)) count
    ∙ written-meaning k b other other-size other-parses v.query v.language
    in
    let same = meaning-once m k u.query v.query u.language.written v.language.written u.faultless v.faultless means in
    u.language.text-is ∙ ap query_text same ∙ sym v.language.text-is
