-- The number of each refusal (FORMAT 8.1).
use Rattle.std.specs.Prelude.{ℕ, pred, ◌≤◌, ◌≡◌, refl, List, [], ◌∷◌, get_or}
use Rattle.std.proofs.Common.{sym, ap, ◌∙◌, lit≤}
use Rattle.refusal.specs.declared.Refusal.{Refusal}
use Rattle.refusal.specs.declared.Refusal.TheVariants.{HeaderTruncated, RelationCount, NodeCount, NodeTruncated, NodeMap, OperatorCode, RelationNumber, Operand, Attribute, NodesFollowed}
use Rattle.refusal.specs.declared.Refusal.TheVariants.{NodeNumber, WorkSpace, ResultSlice, InputTruncated, CountZero, ListedAttribute, InputFollowed, TooManyAttributes, RepeatedAttribute}
use Rattle.refusal.specs.declared.Refusal.TheVariants.{TypeVariable, SpecialSubset, QuerySyntax, QueryLength, QueryNodes, EmptyRecord, EmptyImage, EditSlice}

-- FORMAT 8.1: the number of each name
abbrev pub number_of : Refusal → ℕ
number_of HeaderTruncated = 1
number_of RelationCount = 2
number_of NodeCount = 3
number_of NodeTruncated = 4
number_of NodeMap = 5
number_of OperatorCode = 6
number_of RelationNumber = 7
number_of Operand = 8
number_of Attribute = 9
number_of NodesFollowed = 10
number_of NodeNumber = 11
number_of WorkSpace = 12
number_of ResultSlice = 13
number_of InputTruncated = 14
number_of CountZero = 15
number_of ListedAttribute = 16
number_of InputFollowed = 17
number_of TooManyAttributes = 18
number_of RepeatedAttribute = 19
number_of TypeVariable = 20
number_of SpecialSubset = 21
number_of QuerySyntax = 22
number_of QueryLength = 23
number_of QueryNodes = 24
number_of EmptyRecord = 25
number_of EmptyImage = 26
number_of EditSlice = 27

-- the table's rows, first to last
table : List Refusal
table =
    HeaderTruncated ∷ RelationCount ∷ NodeCount ∷ NodeTruncated ∷ NodeMap ∷ OperatorCode ∷ RelationNumber ∷ Operand ∷ Attribute ∷
    NodesFollowed ∷ NodeNumber ∷ WorkSpace ∷ ResultSlice ∷ InputTruncated ∷ CountZero ∷ ListedAttribute ∷ InputFollowed ∷
    TooManyAttributes ∷ RepeatedAttribute ∷ TypeVariable ∷ SpecialSubset ∷ QuerySyntax ∷ QueryLength ∷ QueryNodes ∷
    EmptyRecord ∷ EmptyImage ∷ EditSlice ∷ []

-- the refusal with a number
row : ℕ → Refusal
row n = get_or table (pred n) HeaderTruncated

number-row : (r : Refusal) → row (number_of r) ≡ r
unfolding row table
number-row HeaderTruncated = refl
number-row RelationCount = refl
number-row NodeCount = refl
number-row NodeTruncated = refl
number-row NodeMap = refl
number-row OperatorCode = refl
number-row RelationNumber = refl
number-row Operand = refl
number-row Attribute = refl
number-row NodesFollowed = refl
number-row NodeNumber = refl
number-row WorkSpace = refl
number-row ResultSlice = refl
number-row InputTruncated = refl
number-row CountZero = refl
number-row ListedAttribute = refl
number-row InputFollowed = refl
number-row TooManyAttributes = refl
number-row RepeatedAttribute = refl
number-row TypeVariable = refl
number-row SpecialSubset = refl
number-row QuerySyntax = refl
number-row QueryLength = refl
number-row QueryNodes = refl
number-row EmptyRecord = refl
number-row EmptyImage = refl
number-row EditSlice = refl

-- no two refusals have one number
pub number-once : (a b : Refusal) → number_of a ≡ number_of b → a ≡ b
number-once a b e = sym (number-row a) ∙ ap row e ∙ number-row b

-- they are 1 to 27
number-range : (r : Refusal) → (1 ≤ number_of r) × (number_of r ≤ 27)
number-range HeaderTruncated = (lit≤ tt, lit≤ tt)
number-range RelationCount = (lit≤ tt, lit≤ tt)
number-range NodeCount = (lit≤ tt, lit≤ tt)
number-range NodeTruncated = (lit≤ tt, lit≤ tt)
number-range NodeMap = (lit≤ tt, lit≤ tt)
number-range OperatorCode = (lit≤ tt, lit≤ tt)
number-range RelationNumber = (lit≤ tt, lit≤ tt)
number-range Operand = (lit≤ tt, lit≤ tt)
number-range Attribute = (lit≤ tt, lit≤ tt)
number-range NodesFollowed = (lit≤ tt, lit≤ tt)
number-range NodeNumber = (lit≤ tt, lit≤ tt)
number-range WorkSpace = (lit≤ tt, lit≤ tt)
number-range ResultSlice = (lit≤ tt, lit≤ tt)
number-range InputTruncated = (lit≤ tt, lit≤ tt)
number-range CountZero = (lit≤ tt, lit≤ tt)
number-range ListedAttribute = (lit≤ tt, lit≤ tt)
number-range InputFollowed = (lit≤ tt, lit≤ tt)
number-range TooManyAttributes = (lit≤ tt, lit≤ tt)
number-range RepeatedAttribute = (lit≤ tt, lit≤ tt)
number-range TypeVariable = (lit≤ tt, lit≤ tt)
number-range SpecialSubset = (lit≤ tt, lit≤ tt)
number-range QuerySyntax = (lit≤ tt, lit≤ tt)
number-range QueryLength = (lit≤ tt, lit≤ tt)
number-range QueryNodes = (lit≤ tt, lit≤ tt)
number-range EmptyRecord = (lit≤ tt, lit≤ tt)
number-range EmptyImage = (lit≤ tt, lit≤ tt)
number-range EditSlice = (lit≤ tt, lit≤ tt)

-- 0 is no refusal's number
pub number-positive : (r : Refusal) → 1 ≤ number_of r
number-positive r = (number-range r).0

pub number-most : (r : Refusal) → number_of r ≤ 27
number-most r = (number-range r).1
