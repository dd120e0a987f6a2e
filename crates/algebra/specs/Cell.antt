-- The cell of an expression: whether one attribute, which some of the relations have, breaks a rule in it, and whether
-- the result has the attribute (FORMAT 3.6, 3.7).
use Rattle.std.specs.Prelude.{ℕ, Bool, true, false, cond, not, ◌&&◌, ◌||◌, eqb}
use Rattle.algebra.specs.Expression.{Operator, union, difference, join, product, SetOperator, selection, projection, Expression, relation, binary, with_set, renaming, projecting_out}

-- How a relation or a result can have an attribute. Plain: it lacks it or has it.
pub record Kinds : Type 1 where
  pub Value : Type 0
  -- lacks it
  pub none : Value
  -- has it after a renaming
  pub full : Value
  pub has : Value → Bool
  pub same : Value → Value → Bool

-- both or neither
abbrev pub same_bool : Bool → Bool → Bool
same_bool true b = b
same_bool false b = not b

-- a relation or a result lacks an attribute or has it
abbrev pub plain : Kinds
plain = record { Value = Bool; none = false; full = true; has = λ v. v; same = same_bool }

module _ (K : Kinds) where
  -- ---- each operator on one attribute: which values break its rule, and what comes out

  -- which values of the operands break the operator's rule (FORMAT 2.7 to 2.10)
  abbrev pub breaks : Operator → K.Value → K.Value → Bool
  breaks union l r = not (K.same l r)
  breaks difference l r = not (K.same l r)
  breaks join l r = K.has l && K.has r && not (K.same l r)
  breaks product l r = K.has l && K.has r

  -- which value the result has
  abbrev pub yields : Operator → K.Value → K.Value → K.Value
  yields union l r = l
  yields difference l r = l
  yields join l r = cond (K.has l) l r
  yields product l r = cond (K.has l) l r

  -- FORMAT 2.11, 2.12: `named` says that the set has the attribute
  abbrev pub breaks_set : SetOperator → Bool → K.Value → Bool
  breaks_set selection named v = named && not (K.has v)
  breaks_set projection named v = named && not (K.has v)

  -- a selection keeps the value; a projection keeps it where the set has the attribute
  abbrev pub yields_set : SetOperator → Bool → K.Value → K.Value
  yields_set selection named v = v
  yields_set projection named v = cond named v K.none

  -- FORMAT 2.13: `is_old`, `is_new` say that the attribute is the old one, the new one
  abbrev pub breaks_renaming : Bool → Bool → K.Value → Bool
  breaks_renaming is_old is_new v = is_old && not (K.has v) || is_new && K.has v

  -- the new attribute comes, the old one goes, any other keeps its value
  abbrev pub yields_renaming : Bool → Bool → K.Value → K.Value
  yields_renaming is_old is_new v = cond is_new K.full (cond is_old K.none v)

  -- FORMAT 2.14: `is_old` says that the attribute is the old one
  abbrev pub breaks_out : Bool → K.Value → Bool
  breaks_out is_old v = is_old && not (K.has v)

  -- the old attribute goes, any other keeps its value
  abbrev pub yields_out : Bool → K.Value → K.Value
  yields_out is_old v = cond is_old K.none v

  -- ---- the cell at column c, where relation r has the value `held r`

  -- FORMAT 3.7: what the result has
  abbrev pub out : Expression → ℕ → (ℕ → K.Value) → K.Value
  out (relation r) c held = held r
  out (binary op e f) c held = yields op (out e c held) (out f c held)
  out (with_set op s e) c held = yields_set op (s c) (out e c held)
  out (renaming old new e) c held = yields_renaming (eqb c old) (eqb c new) (out e c held)
  out (projecting_out old e) c held = yields_out (eqb c old) (out e c held)

  -- FORMAT 3.6: no rule is broken, at the expression and at every one in it
  abbrev pub ok : Expression → ℕ → (ℕ → K.Value) → Bool
  ok (relation r) c held = true
  ok (binary op e f) c held = ok e c held && ok f c held && not (breaks op (out e c held) (out f c held))
  ok (with_set op s e) c held = ok e c held && not (breaks_set op (s c) (out e c held))
  ok (renaming old new e) c held = ok e c held && not (breaks_renaming (eqb c old) (eqb c new) (out e c held))
  ok (projecting_out old e) c held = ok e c held && not (breaks_out (eqb c old) (out e c held))
