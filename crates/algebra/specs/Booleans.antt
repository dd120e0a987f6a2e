-- What the tests of rules and cells say.
use Rattle.std.specs.Prelude.{◌≡◌, refl, ◌↔◌, Bool, true, false, cond, not, ◌&&◌, ◌||◌}
use Rattle.std.proofs.Common.{sym, ◌∙◌}
use Rattle.std.proofs.lemmas.Bool.{false≢true}
use Rattle.std.proofs.Math.Bool.{not-not, and-true, and-false, or-true, or-false}
use Rattle.algebra.specs.Cell.{same_bool}

-- a join's values never break it
pub join_free : (l r : Bool) → not (l && r && not (same_bool l r)) ≡ true
join_free true true = refl
join_free true false = refl
join_free false r = refl

pub either : (l r : Bool) → cond l l r ≡ l || r
either true r = refl
either false r = refl

pub kept : (s v : Bool) → (s ≡ true → v ≡ true) → cond s v false ≡ s
kept true v h = h refl
kept false v h = refl

pub dropped : (is_old v : Bool) → cond is_old false v ≡ v && not is_old
dropped true v = sym (and-false v)
dropped false v = sym (and-true v)

pub renamed : (is_old is_new v : Bool) → cond is_new true (cond is_old false v) ≡ v && not is_old || is_new
renamed is_old true v = sym (or-true (v && not is_old))
renamed is_old false v = dropped is_old v ∙ sym (or-false (v && not is_old))

pub agrees : (l r : Bool) → (not (not (same_bool l r)) ≡ true) ↔ (l ≡ r)
agrees true r = (λ e. sym e ∙ not-not r, λ e. not-not r ∙ sym e)
agrees false true = (λ e. e, λ e. e)
agrees false false = (λ e. refl, λ e. refl)

pub implies : (s t : Bool) → (not (s && not t) ≡ true) ↔ (s ≡ true → t ≡ true)
implies true t = (λ e h. sym (not-not t) ∙ e, λ h. not-not t ∙ h refl)
implies false t = (λ e h. absurd (false≢true h), λ h. refl)

pub excludes : (l r : Bool) → (not (l && r) ≡ true) ↔ (l ≡ true → r ≡ true → ⊥)
excludes true true = (λ e h k. false≢true e, λ h. absurd (h refl refl))
excludes true false = (λ e h k. false≢true k, λ h. refl)
excludes false r = (λ e h k. false≢true h, λ h. refl)

pub neither : (p q : Bool) → (not (p || q) ≡ true) ↔ ((not p ≡ true) × (not q ≡ true))
neither true q = (λ e. absurd (false≢true e), λ h. h.0)
neither false q = (λ e. (refl, e), λ h. h.1)
