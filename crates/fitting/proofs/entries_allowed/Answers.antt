use Rattle.std.specs.Prelude.{ℕ, ◌<◌, ◌≡◌, Bool, true, false, List, length, get_or, MatchBool}
use Rattle.std.proofs.Common.{sym, rules, arith}
use Rattle.std.specs.List.{AllWithin, HoldsAt}
use Rattle.std.proofs.lemmas.Iterator.{cases_from_all, YieldsList-from_slice}
use Rattle.bits.specs.AllBelow.{all_below, in_all, not-all}
use Rattle.stored_formula.specs.ColumnPlace.{column_at}
use Rattle.membership.specs.Entries.{subset_of}
use Rattle.states.specs.Formula.{type_variable}
use Rattle.column.specs.Column.{allowed_in}
use Rattle.fitting.proofs.entries_allowed.Goals as goal

tested : (test : ℕ → Bool) (es : List ℕ) (r : Bool) → MatchBool r (AllWithin (λ e. test e ≡ true) es 0 (length es)) ((k : ℕ) × (k < length es) × HoldsAt (λ e. test e ≡ false) es k) → r ≡ all_below (length es) (λ i. test (get_or es i 0))
tested test es true all = sym (in_all (length es) (λ i. test (get_or es i 0)) (λ i h. all i 0 (omega arith) h))
tested test es false one = sym (not-all (length es) (λ i. test (get_or es i 0)) one.0 one.1 (one.2 0))

pub returns : goal.returns
returns c =
    let test = λ (e : ℕ). type_variable (allowed_in (column_at c.args.formula.now 0 0)) (subset_of e) in
    tested test c.args.entries.now _
    (cases_from_all _ _ _ (λ e. test e ≡ true) (λ e. test e ≡ false) c.all.ensures.ran (YieldsList-from_slice c.args.entries.now cc) (λ x q k. search rules) (λ x q k. search rules))
