-- The typing rules against cells whose column is the attribute itself: first each operator's condition on sets, then
-- the induction both ways.
use Rattle.std.specs.Prelude.{ℕ, ◌≡◌, refl, true, ◌&&◌, eqb}
use Rattle.types.specs.Types.{Attrs, Assignment}
use Rattle.algebra.specs.Expression.{union, difference, join, product, selection, projection, Expression, relation, binary, with_set, renaming, projecting_out}
use Rattle.algebra.specs.Rules.{Typed, relations, unions, differences, joins, products, selections, projections, renamings, projections_out}
use Rattle.algebra.specs.Booleans.{join_free, either, kept, dropped, renamed}
use Rattle.algebra.specs.TypedCells.{Cells, by-binary, by-set, disjoint, halves, has_one, ok_at, out_at, renames, retyped, same, subset, typed-binary, typed-set}

-- ---- from a type to cells

pub typed_at : {A : Assignment} {e : Expression} {t : Attrs} → Typed A e t → Cells A e t
typed_at (relations r) = record { allowed = λ a. refl; output = λ a. refl }
typed_at (unions {t} h k) = by-binary union (typed_at h) (typed_at k) ((same t t).1 (λ a. refl)) (λ a. refl)
typed_at (differences {t} h k) = by-binary difference (typed_at h) (typed_at k) ((same t t).1 (λ a. refl)) (λ a. refl)
typed_at (joins {t} {u} h k) = by-binary join (typed_at h) (typed_at k) (λ a. join_free (t a) (u a)) (λ a. either (t a) (u a))
typed_at (products {t} {u} h k apart) = by-binary product (typed_at h) (typed_at k) ((disjoint t u).1 apart) (λ a. either (t a) (u a))
typed_at (selections {s} {t} h within) = by-set selection (typed_at h) ((subset s t).1 within) (λ a. refl)
typed_at (projections {s} {t} h within) = by-set projection (typed_at h) ((subset s t).1 within) (λ a. kept (s a) (t a) (within a))
typed_at (renamings {old} {new} {t} h has lacks) =
    let v = typed_at h in
    record {
      allowed = λ a. rw (v.allowed a, v.output a) ((renames old new t).1 (has, lacks) a);
      output = λ a. rw (v.output a) (renamed (eqb a old) (eqb a new) (t a));
    }
typed_at (projections_out {old} {t} h has) =
    let v = typed_at h in
    record {
      allowed = λ a. rw (v.allowed a, v.output a) ((has_one old t).1 has a);
      output = λ a. rw (v.output a) (dropped (eqb a old) (t a));
    }

-- ---- from cells to a type

pub at_typed : (A : Assignment) (e : Expression) → ((a : ℕ) → ok_at A e a ≡ true) → Typed A e (out_at A e)
at_typed A (relation r) h = relations r
at_typed A (binary op e f) h =
    let node = halves (λ a. ok_at A e a && ok_at A f a) _ h in
    let operands = halves (ok_at A e) (ok_at A f) node.0 in
    typed-binary op (at_typed A e operands.0) (at_typed A f operands.1) node.1
at_typed A (with_set op s e) h = let node = halves (ok_at A e) _ h in typed-set op s (at_typed A e node.0) node.1
at_typed A (renaming old new e) h =
    let node = halves (ok_at A e) _ h in
    let rule = (renames old new (out_at A e)).0 node.1 in
    retyped (renamings (at_typed A e node.0) rule.0 rule.1) (λ a. renamed (eqb a old) (eqb a new) (out_at A e a))
at_typed A (projecting_out old e) h =
    let node = halves (ok_at A e) _ h in
    let rule = (has_one old (out_at A e)).0 node.1 in
    retyped (projections_out (at_typed A e node.0) rule) (λ a. dropped (eqb a old) (out_at A e a))
