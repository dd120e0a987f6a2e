-- The typing rules against cells whose column is the attribute itself: first each operator's condition on sets, then
-- the induction both ways.
use Rattle.std.specs.Prelude.{ℕ, ◌≡◌, refl, ◌↔◌, Bool, true, false, not, ◌&&◌, ◌||◌, eqb}
use Rattle.std.proofs.Common.{sym, subst, ◌∙◌, true≢false, eq-eqb, eqb-true}
use Rattle.std.proofs.Math.Path.{fun_ext}
use Rattle.std.proofs.Math.Bool.{and-eq-true_iff}
use Rattle.bits.specs.Booleans.{is_false}
use Rattle.types.specs.Types.{Attrs, Assignment, ◌⊆◌, Disjoint}
use Rattle.algebra.specs.Expression.{Operator, union, difference, join, product, SetOperator, selection, projection, Expression, binary, with_set}
use Rattle.algebra.specs.Rules.{Typed, unions, differences, joins, products, selections, projections}
use Rattle.algebra.specs.Cell.{plain, same_bool, out, ok, breaks, yields, breaks_set, yields_set, breaks_renaming}
use Rattle.algebra.specs.Booleans.{either, kept, agrees, implies, excludes, neither}
use Rattle.algebra.specs.Columns.{single, single-within}

-- ---- conditions on sets, by attribute

pub halves : (p q : ℕ → Bool) → ((a : ℕ) → p a && q a ≡ true) → ((a : ℕ) → p a ≡ true) × ((a : ℕ) → q a ≡ true)
halves p q h = (λ a. ((and-eq-true_iff (p a) (q a)).0 (h a)).0, λ a. ((and-eq-true_iff (p a) (q a)).0 (h a)).1)

pub same : (t u : Attrs) → ((a : ℕ) → not (not (same_bool (t a) (u a))) ≡ true) ↔ ((a : ℕ) → t a ≡ u a)
same t u = (λ h a. (agrees (t a) (u a)).0 (h a), λ h a. (agrees (t a) (u a)).1 (h a))

pub subset : (s t : Attrs) → ((a : ℕ) → not (s a && not (t a)) ≡ true) ↔ (s ⊆ t)
subset s t = (λ h a. (implies (s a) (t a)).0 (h a), λ h a. (implies (s a) (t a)).1 (h a))

pub disjoint : (t u : Attrs) → ((a : ℕ) → not (t a && u a) ≡ true) ↔ Disjoint t u
disjoint t u = (λ h a. (excludes (t a) (u a)).0 (h a), λ h a. (excludes (t a) (u a)).1 (h a))

pub has_one : (x : ℕ) (t : Attrs) → ((a : ℕ) → not (eqb a x && not (t a)) ≡ true) ↔ (t x ≡ true)
has_one x t =
    let within = subset (single x) t in
    (λ h. within.0 h x (eq-eqb x x refl), λ h. within.1 (single-within x t h))

lacks-one : (x : ℕ) (t : Attrs) → ((a : ℕ) → not (eqb a x && t a) ≡ true) ↔ (t x ≡ false)
lacks-one x t =
    let apart = disjoint (single x) t in
    (λ h. is_false _ (apart.0 h x (eq-eqb x x refl)), λ h. apart.1 (λ a e k. true≢false (sym k ∙ (rw (eqb-true a x e) h))))

pub renames : (old new : ℕ) (t : Attrs) → ((a : ℕ) → not (breaks_renaming plain (eqb a old) (eqb a new) (t a)) ≡ true) ↔ ((t old ≡ true) × (t new ≡ false))
renames old new t =
    let has-old = has_one old t in
    let lacks-new = lacks-one new t in
    (λ h. (has-old.0 (λ a. ((split a).0 (h a)).0), lacks-new.0 (λ a. ((split a).0 (h a)).1)), λ h a. (split a).1 (has-old.1 h.0 a, lacks-new.1 h.1 a))
  where
    split : (a : ℕ) → (not (eqb a old && not (t a) || eqb a new && t a) ≡ true) ↔ ((not (eqb a old && not (t a)) ≡ true) × (not (eqb a new && t a) ≡ true))
    split a = neither (eqb a old && not (t a)) (eqb a new && t a)

-- ---- the type, by attribute

-- attribute a breaks no rule in e under A
abbrev pub ok_at : Assignment → Expression → ℕ → Bool
ok_at A e a = ok plain e a (λ r. A r a)

-- the result of e under A has attribute a
abbrev pub out_at : Assignment → Expression → ℕ → Bool
out_at A e a = out plain e a (λ r. A r a)

-- no attribute breaks a rule, and t has those that come out
pub record Cells (A : Assignment) (e : Expression) (t : Attrs) : Type 0 where
  pub allowed : (a : ℕ) → ok_at A e a ≡ true
  pub output : (a : ℕ) → out_at A e a ≡ t a

-- ---- from a type to cells

pub by-binary :
    {A : Assignment} {e f : Expression} {t u w : Attrs} (op : Operator)
    → Cells A e t
    → Cells A f u
    → ((a : ℕ) → not (breaks plain op (t a) (u a)) ≡ true)
    → ((a : ℕ) → yields plain op (t a) (u a) ≡ w a)
    → Cells A (binary op e f) w
by-binary op h k free gives =
    record {
      allowed = λ a. rw (h.allowed a, k.allowed a, h.output a, k.output a) (free a);
      output = λ a. rw (h.output a, k.output a) (gives a);
    }

pub by-set :
    {A : Assignment} {e : Expression} {s t w : Attrs} (op : SetOperator)
    → Cells A e t
    → ((a : ℕ) → not (breaks_set plain op (s a) (t a)) ≡ true)
    → ((a : ℕ) → yields_set plain op (s a) (t a) ≡ w a)
    → Cells A (with_set op s e) w
by-set op h free gives =
    record { allowed = λ a. rw (h.allowed a, h.output a) (free a); output = λ a. rw (h.output a) (gives a) }

-- ---- from cells to a type

pub retyped : {A : Assignment} {e : Expression} {t u : Attrs} → Typed A e t → ((a : ℕ) → u a ≡ t a) → Typed A e u
retyped {A} {e} h same = subst (λ (x : Attrs). Typed A e x) (sym (fun_ext same)) h

pub typed-binary :
    {A : Assignment} {e f : Expression} {t u : Attrs} (op : Operator)
    → Typed A e t
    → Typed A f u
    → ((a : ℕ) → not (breaks plain op (t a) (u a)) ≡ true)
    → Typed A (binary op e f) (λ a. yields plain op (t a) (u a))
typed-binary {t} {u} union h k free = unions h (retyped k ((same t u).0 free))
typed-binary {t} {u} difference h k free = differences h (retyped k ((same t u).0 free))
typed-binary {t} {u} join h k free = retyped (joins h k) (λ a. either (t a) (u a))
typed-binary {t} {u} product h k free = retyped (products h k ((disjoint t u).0 free)) (λ a. either (t a) (u a))

pub typed-set :
    {A : Assignment} {e : Expression} {t : Attrs} (op : SetOperator) (s : Attrs)
    → Typed A e t
    → ((a : ℕ) → not (breaks_set plain op (s a) (t a)) ≡ true)
    → Typed A (with_set op s e) (λ a. yields_set plain op (s a) (t a))
typed-set {t} selection s h free = selections h ((subset s t).0 free)
typed-set {t} projection s h free = let within = (subset s t).0 free in retyped (projections h within) (λ a. kept (s a) (t a) (within a))
