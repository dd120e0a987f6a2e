-- A plain formula without an assignment that fits, and one of special attributes alone that does.
use Rattle.std.specs.Prelude.{ℕ, ◌<◌, ◌^◌, ◌≡◌, refl, ◌⊎◌, Bool, true, false, not, ◌&&◌, T}
use Rattle.std.proofs.Common.{sym, ap, ◌∙◌, inl, inr, arith, T_not}
use Rattle.bits.specs.Bit.{bit}
use Rattle.bits.specs.Truth.{is_true, is_false, by-true, by-false, decided, not-not, both, left, right}
use Rattle.bits.specs.Search.{Below, found, missing, search-below, taken, is_found, found-taken, found_none}
use Rattle.attribute_set.specs.AttrSet.{special}
use Rattle.types.specs.Types.{Attrs, IsType, Assignment, IsAssignment, holders}
use Rattle.types.specs.Laws.{holders-below}
use Rattle.types.specs.Attributes.{special-bounds, special-type, column-special, column-other}
use Rattle.principal.specs.Formula.{Formula, Fits, Grounded}
use Rattle.principal.specs.Plain.{holders-is, holders-none, fits-at}

-- a special column that allows nothing
pub record Blocked (F : Formula) : Type 0 where
  pub attribute : ℕ
  pub is_special : T (special attribute)
  pub nothing : (s : ℕ) → s < 2 ^ F.relations → F.allowed attribute s ≡ false

-- an assignment and a type that fit
pub record Fitting (F : Formula) : Type 0 where
  pub assignment : Assignment
  pub types : IsAssignment F.relations assignment
  pub type : Attrs
  pub is_type : IsType type
  pub fits : (a : ℕ) → Fits F assignment type a

-- a subset for each special attribute, allowed in its column
pub record Choice (F : Formula) : Type 0 where
  pub subset : ℕ → ℕ
  pub below : (i : ℕ) → T (special i) → subset i < 2 ^ F.relations
  pub allowed : (i : ℕ) → T (special i) → F.allowed i (subset i) ≡ true

-- a choice gives an assignment of special attributes alone: relation r has attribute i where r is in i's subset
abbrev pub chosen : {F : Formula} → Choice F → Assignment
chosen choice r a = special a && bit (choice.subset a) r

-- and its output
abbrev pub chosen_type : {F : Formula} → Choice F → Attrs
chosen_type {F} choice a = special a && F.output a (choice.subset a)

pub choice-fits : (F : Formula) → Grounded F → (choice : Choice F) (a : ℕ) → Fits F (chosen choice) (chosen_type choice) a
choice-fits F is_grounded choice a = go a (decided (special a))
  where
    assignment : Assignment
    assignment r a = special a && bit (choice.subset a) r

    type : Attrs
    type a = special a && F.output a (choice.subset a)

    go : (a : ℕ) → T (special a) ⊎ (T (special a) → ⊥) → Fits F assignment type a
    go a (inl h) =
        let e = is_true (special a) h in
        (fits-at F assignment type a a (choice.subset a) (column-special a h)
        (holders-is F.relations assignment a (choice.subset a) (choice.below a h) λ r below. ap (λ (b : Bool). b && bit (choice.subset a) r) e)
        ).1
        (choice.allowed a h, sym (ap (λ (b : Bool). b && F.output a (choice.subset a)) e))
    go a (inr k) =
        let e = is_false (special a) k in
        (fits-at F assignment type a 0 0 (column-other a k)
        (holders-none F.relations assignment a λ r below. ap (λ (b : Bool). b && bit (choice.subset a) r) e)
        ).1
        (is_grounded.allowed, is_grounded.output ∙ sym (ap (λ (b : Bool). b && F.output a (choice.subset a)) e))

pub choice-types : (F : Formula) (choice : Choice F) → IsAssignment F.relations (chosen choice)
choice-types F choice r below = special-type (λ a. bit (choice.subset a) r)

pub choice-type : (F : Formula) (choice : Choice F) → IsType (chosen_type choice)
choice-type F choice = special-type (λ a. F.output a (choice.subset a))

choice-fitting : (F : Formula) → Grounded F → Choice F → Fitting F
choice-fitting F is_grounded choice =
    record {
      assignment = chosen choice;
      types = choice-types F choice;
      type = chosen_type choice;
      is_type = choice-type F choice;
      fits = choice-fits F is_grounded choice;
    }

-- some special column allows nothing exactly where no assignment fits
pub blocked-none : (F : Formula) → Blocked F → Fitting F → ⊥
blocked-none F blocked fitting =
    let a = blocked.attribute in
    let s = holders F.relations fitting.assignment a in
    let fit = (fits-at F fitting.assignment fitting.type a a s (column-special a blocked.is_special) refl).0 (fitting.fits a) in
    by-false (blocked.nothing s (holders-below F.relations fitting.assignment a)) (by-true fit.0)

pub none-blocked : (F : Formula) → Grounded F → (Fitting F → ⊥) → Blocked F
none-blocked F is_grounded none = go (search-below 16 blocked)
  where
    allowed : (i : ℕ) → Below (2 ^ F.relations) (F.allowed i)
    allowed i = search-below (2 ^ F.relations) (F.allowed i)

    blocked : ℕ → Bool
    blocked i = special i && not (is_found (allowed i))

    -- a special column that is not blocked allows something
    open-column : ((i : ℕ) → i < 16 → T (blocked i) → ⊥) → (i : ℕ) → T (special i) → T (is_found (allowed i))
    open-column f i h = not-not (is_found (allowed i)) λ k. f i (omega (arith, special-bounds i h)) (both (special i) (not (is_found (allowed i))) h k)

    go : Below 16 blocked → Blocked F
    go (found i below h) =
        record {
          attribute = i;
          is_special = left (special i) (not (is_found (allowed i))) h;
          nothing = λ s less. is_false (F.allowed i s) (found_none (allowed i) (T_not (is_found (allowed i)) (right (special i) (not (is_found (allowed i))) h)) s less);
        }
    go (missing f) = absurd (none (choice-fitting F is_grounded (record {
      subset = λ i. taken (allowed i);
      below = λ i h. (found-taken (allowed i) (open-column f i h)).0;
      allowed = λ i h. is_true (F.allowed i (taken (allowed i))) (found-taken (allowed i) (open-column f i h)).1;
    })))
