-- The entries of a list, read off a column's bits.
use Rattle.std.specs.Prelude.{ℕ, ◌<◌, Bool, true, false, cond, ◌&&◌, ◌≡◌, refl, List, [], ◌∷◌, ◌++◌, ltb}
use Rattle.bits.specs.Bit.{bit}
use Rattle.states.specs.Formula.{type_variable}
use Rattle.column.specs.Column.{allowed_in, output_in}
use Rattle.listing_entries.specs.declared.entries.Kind.{Kind}
use Rattle.listing_entries.specs.declared.entries.Kind.TheVariants.{Variables, Output, Signed}
use Rattle.text.specs.Characters.{subset_text}
use Rattle.text.specs.Each.{each}

-- what is printed where a test holds
abbrev pub when_so : Bool → List ℕ → List ℕ
when_so true text = text
when_so false text = []

-- a relation's number is below 8
abbrev pub KindFits : Kind → Type 0
KindFits (Variables r) = r < 8
KindFits Output = Unit
KindFits Signed = Unit

-- whether subset s is in the list
abbrev pub listed : Kind → List ℕ → ℕ → Bool
listed (Variables r) column s = type_variable (allowed_in column) s && bit s r
listed Output column s = ltb 0 s && output_in column s
listed Signed column s = allowed_in column s

-- what follows its digits
abbrev pub sign_text : Kind → List ℕ → ℕ → List ℕ
sign_text (Variables r) column s = []
sign_text Output column s = []
sign_text Signed column s = cond (output_in column s) 43 45 ∷ []

-- what the line has for subset s: nothing where it is not in the list
unfoldable pub entry_text : Kind → List ℕ → ℕ → List ℕ
entry_text kind column s = when_so (listed kind column s) (subset_text s ++ sign_text kind column s)

pub entry-text : (kind : Kind) (column : List ℕ) (s : ℕ) → entry_text kind column s ≡ when_so (listed kind column s) (subset_text s ++ sign_text kind column s)
unfolding entry_text
entry-text kind column s = refl

-- the whole list
abbrev pub list_text : Kind → List ℕ → List ℕ
list_text kind column = each 256 (entry_text kind column)
