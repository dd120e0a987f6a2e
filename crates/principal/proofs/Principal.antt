-- Demand 3 for expressions: the instantiations of an expression's formula are the assignments that type it, each once,
-- with the type that the rules give.
use Rattle.std.specs.Prelude.{ℕ, ◌<◌, ◌≡◌, refl, ◌↔◌, Bool, true, false, cond, ◌&&◌, T}
use Rattle.std.proofs.Common.{ap, ◌∙◌}
use mathlib.Core.Logic.Iff
use Rattle.bits.specs.Bit.{bit}
use Rattle.types.specs.Types.{Attrs, IsType, Assignment, IsAssignment, Filled}
use Rattle.algebra.specs.Expression.{Expression, Legal}
use Rattle.algebra.specs.Rules.{Typed}
use Rattle.algebra.specs.Cell.{plain, out, ok}
use Rattle.algebra.proofs.ByAttribute.{typed-cells, cells-typed}
use Rattle.states.specs.Coded.{plain_code, plain-values}
use Rattle.states.specs.Instantiation.{Instantiation as StateInstantiation, InImage as InStateImage}
use Rattle.states.specs.Principal.{FormulaOf as StateFormulaOf, CellOf as StateCellOf, JustOne}
use Rattle.states.proofs.Principal.{cell-fits, fits-cell, grounded as state-grounded, unique as state-unique, principal as state-principal}
use Rattle.principal.specs.Formula.{Formula, Fits, Grounded}
use Rattle.principal.specs.Instantiation.{Instantiation, InImage, HasImage, HasOutput, FilledImage, filled-image}
use Rattle.principal.specs.Plain.{states_formula, to_states, from_states, types_are, fits-is}
use Rattle.principal.proofs.Plain.{image-is, has-image, has-output}
use Rattle.principal.specs.Blocked.{Blocked, Fitting, blocked-none, none-blocked}
use Rattle.principal.specs.Principal.{FormulaOf, Typing}

module _ (e : Expression) (F : Formula) (legal : Legal F.relations e) (is : FormulaOf e F) where
  -- ---- from the theory of states, in base 2

  states-formula : StateFormulaOf plain_code e (states_formula F)
  states-formula =
      record {
        allowed = λ c s hc hs. is.allowed c s hc hs ∙ ap (ok plain e c) (plain-values s);
        output = λ c s hc hs. is.output c s hc hs ∙ either (ok plain e c (bit s)) (out plain e c (bit s)) ∙ ap (λ (held : ℕ → Bool). cond (ok plain e c held) (out plain e c held) false) (plain-values s);
      }
    where
      either : (b v : Bool) → b && v ≡ cond b v false
      either true v = refl
      either false v = refl

  pub grounded : Grounded F
  grounded = let is_grounded = state-grounded plain_code e (states_formula F) legal states-formula in record { allowed = is_grounded.allowed; output = is_grounded.output }

  -- the rules give e the type t under A exactly when no attribute breaks a rule
  cells : (A : Assignment) (t : Attrs) → Typed A e t ↔ ((a : ℕ) → StateCellOf plain A e t a)
  cells A t = (
    (λ typed a. let cell = typed-cells F.relations e legal A t typed a in record { allowed = cell.allowed; output = cell.output }),
    (λ all. cells-typed F.relations e legal A t (λ a. record { allowed = (all a).allowed; output = (all a).output })),
  )

  -- and exactly when the formula allows each attribute as A has it, with the output t
  pub typed-fits : (A : Assignment) (t : Attrs) → Typed A e t ↔ ((a : ℕ) → Fits F A t a)
  typed-fits A t = (
    (λ typed a. (fits-is F A t a).0 (cell-fits plain_code e (states_formula F) legal states-formula A t a ((cells A t).0 typed a))),
    (λ fits. (cells A t).1 (λ a. fits-cell plain_code e (states_formula F) legal states-formula A t a ((fits-is F A t a).1 (fits a)))),
  )

  -- ---- demand 3

  -- unique: no two instantiations have one image
  pub unique : (I J : Instantiation F) → ((r : ℕ) → r < F.relations → (a : ℕ) → InImage I r a ↔ InImage J r a) → I ≡ J
  unique I J same = ap (λ (I : StateInstantiation plain_code (states_formula F)). from_states I) (state-unique plain_code e (states_formula F) legal states-formula (to_states I) (to_states J) (λ r below a v. go r below a v))
    where
      go : (r : ℕ) → r < F.relations → (a : ℕ) (v : Bool) → T v → InStateImage (to_states I) r a v ↔ InStateImage (to_states J) r a v
      go r below a true k = Iff.trans (Iff.symm (image-is I r a)) (Iff.trans (same r below a) (image-is J r a))
      go r below a false k = absurd k

  -- principal: the rules give e the type t under A exactly when an instantiation has that image and that output
  pub principal : (A : Assignment) → IsAssignment F.relations A → (t : Attrs) → IsType t → Typed A e t ↔ ((I : Instantiation F) × (HasImage I A × HasOutput I t))
  principal A types t type = Iff.trans (cells A t) (Iff.trans (state-principal plain_code e (states_formula F) legal states-formula A (types_are F.relations A types) t) (out_of, into))
    where
      out_of : JustOne plain_code (states_formula F) A t → (I : Instantiation F) × (HasImage I A × HasOutput I t)
      out_of one = let I = from_states one.instantiation in (I, ((has-image I A).1 one.image, (has-output I t).1 one.output))

      into : (I : Instantiation F) × (HasImage I A × HasOutput I t) → JustOne plain_code (states_formula F) A t
      into found =
          let image = (has-image found.0 A).0 found.1.0 in
          record {
            instantiation = to_states found.0;
            image = image;
            output = (has-output found.0 t).0 found.1.1;
            only = λ J has gives. state-unique plain_code e (states_formula F) legal states-formula J (to_states found.0) (λ r below a v h. Iff.trans (Iff.symm (has r below a v h)) (image r below a v h));
          }

  -- the same with filled relations: the rules give e the type t under A, and A is filled, exactly when an instantiation
  -- whose image is filled has that image and that output
  pub principal-filled : (A : Assignment) → IsAssignment F.relations A → (t : Attrs) → IsType t → Filled F.relations A × Typed A e t ↔ ((I : Instantiation F) × (FilledImage I × (HasImage I A × HasOutput I t)))
  principal-filled A types t type =
      let free = principal A types t type in (
        (λ given. let found = free.0 given.1 in (found.0, ((filled-image found.0 A found.1.0).0 given.0, found.1))),
        (λ found. ((filled-image found.0 A found.1.1.0).1 found.1.0, free.1 (found.0, found.1.1))),
      )

  fitting-typing : Fitting F → Typing F.relations e
  fitting-typing f =
      record {
        assignment = f.assignment;
        types = f.types;
        type = f.type;
        is_type = f.is_type;
        typed = (typed-fits f.assignment f.type).1 f.fits;
      }

  typing-fitting : Typing F.relations e → Fitting F
  typing-fitting t =
      record {
        assignment = t.assignment;
        types = t.types;
        type = t.type;
        is_type = t.is_type;
        fits = (typed-fits t.assignment t.type).0 t.typed;
      }

  -- verdict: some special column allows nothing exactly when no assignment types e
  pub verdict : Blocked F ↔ (Typing F.relations e → ⊥)
  verdict = ((λ blocked t. blocked-none F blocked (typing-fitting t)), (λ none. none-blocked F grounded (λ f. none (fitting-typing f))))
