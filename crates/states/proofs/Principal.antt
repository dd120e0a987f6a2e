-- For any coded kinds: the instantiations of a formula by states are the assignments that fit it, each once; and with
-- the cells of an expression, those in which no attribute breaks a rule.
use Rattle.std.specs.Prelude.{ℕ, ◌<◌, ◌≡◌, ◌↔◌, Bool, true, cond}
use Rattle.std.proofs.Common.{sym, ap₂, ◌∙◌, lit<}
use Rattle.std.proofs.Math.Path.{fun_ext}
use mathlib.Core.Logic.Iff
use Rattle.std.proofs.Math.Nat.{one-le-pow}
use Rattle.types.specs.Types.{column}
use Rattle.types.specs.Attributes.{column-below}
use Rattle.algebra.specs.Expression.{Expression, Legal}
use Rattle.algebra.specs.Cell.{Kinds, out, ok}
use Rattle.algebra.specs.CellLaws.{cell-depends, cell-none}
use Rattle.states.specs.Coded.{Coded, value_at, positive, value_none, lacks}
use Rattle.states.specs.Formula.{TypeOver, AssignmentOver, IsAssignment, Formula, holders, Fits, Grounded}
use Rattle.states.specs.Instantiation.{Instantiation, SameImage}
use Rattle.states.specs.States.{holders-value, holders-below}
use Rattle.states.proofs.Members.{place}
use Rattle.states.proofs.Instance.{instance, instance-image, instance-output}
use Rattle.states.proofs.ImageFits.{fits}
use Rattle.states.proofs.ImageOnce.{same-state, same-list, same-data}
use Rattle.states.specs.Principal.{CellOf, FormulaOf, JustOne}

module _ {K : Kinds} (C : Coded K) (e : Expression) (F : Formula K) (legal : Legal F.relations e) (is : FormulaOf C e F) where
  same-cell :
      (A : AssignmentOver K) (a : ℕ)
      → (ok K e (column a) (value_at C (holders C F.relations A a)) ≡ ok K e (column a) (λ r. A r a))
      × (out K e (column a) (value_at C (holders C F.relations A a)) ≡ out K e (column a) (λ r. A r a))
  same-cell A a = cell-depends K F.relations e legal (column a) (value_at C (holders C F.relations A a)) (λ r. A r a) (λ r h. holders-value C F.relations A a r h)

  pub cell-fits : (A : AssignmentOver K) (t : TypeOver K) (a : ℕ) → CellOf K A e t a → Fits C F A t a
  cell-fits A t a cell =
      let s = holders C F.relations A a in
      let below = holders-below C F.relations A a in
      let allowed : ok K e (column a) (value_at C s) ≡ true = (same-cell A a).0 ∙ cell.allowed in
      record {
        allowed = is.allowed (column a) s (column-below a) below ∙ allowed;
        output = is.output (column a) s (column-below a) below ∙ ap₂ (λ (b : Bool) (v : K.Value). cond b v K.none) allowed ((same-cell A a).1 ∙ cell.output);
      }

  pub fits-cell : (A : AssignmentOver K) (t : TypeOver K) (a : ℕ) → Fits C F A t a → CellOf K A e t a
  fits-cell A t a fits =
      let s = holders C F.relations A a in
      let below = holders-below C F.relations A a in
      let allowed : ok K e (column a) (value_at C s) ≡ true = sym (is.allowed (column a) s (column-below a) below) ∙ fits.allowed in
      let output : cond (ok K e (column a) (value_at C s)) (out K e (column a) (value_at C s)) K.none ≡ t a = sym (is.output (column a) s (column-below a) below) ∙ fits.output in
      record {
        allowed = sym (same-cell A a).0 ∙ allowed;
        output = sym (same-cell A a).1 ∙ (rw allowed at output);
      }

  pub grounded : Grounded F
  grounded =
      let some = one-le-pow F.relations C.base (positive C) in
      let nobody = cell-depends K F.relations e legal 0 (value_at C 0) (λ r. K.none) (λ r h. value_none C r) in
      let none = cell-none K (lacks C) (C.same_self K.none) F.relations e legal in
      record {
        allowed = is.allowed 0 0 (lit< tt) some ∙ nobody.0 ∙ none.0;
        output = is.output 0 0 (lit< tt) some ∙ ap₂ (λ (b : Bool) (v : K.Value). cond b v K.none) (nobody.0 ∙ none.0) (nobody.1 ∙ none.1);
      }

  -- unique: no two instantiations have one image
  pub unique : (I J : Instantiation C F) → SameImage I J → I ≡ J
  unique I J same =
      same-data C F I J
      (fun_ext λ i. fun_ext λ h. same-state C F I J same i h)
      (fun_ext λ s. fun_ext λ w. fun_ext λ a. same-list C F I J same s w a)

  -- principal: no attribute breaks a rule, with the result t, exactly when just one instantiation has
  -- that image and that output
  pub principal : (A : AssignmentOver K) → IsAssignment K F.relations A → (t : TypeOver K) → ((a : ℕ) → CellOf K A e t a) ↔ JustOne C F A t
  principal A types t = (into, λ one. λ a. fits-cell A t a (fits C F grounded A t one.instantiation one.image one.output a (place one.instantiation a)))
    where
      into : ((a : ℕ) → CellOf K A e t a) → JustOne C F A t
      into cells =
          let f : (a : ℕ) → Fits C F A t a = λ a. cell-fits A t a (cells a) in
          let I = instance C F grounded A types t f in
          let image = instance-image C F grounded A types t f in
          record {
            instantiation = I;
            image = image;
            output = instance-output C F grounded A types t f;
            only = λ J has gives. unique J I (λ r below a v h. Iff.trans (Iff.symm (has r below a v h)) (image r below a v h));
          }
