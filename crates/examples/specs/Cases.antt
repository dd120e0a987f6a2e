-- The starred examples (FORMAT 10.1 to 10.10), an instantiation (FORMAT 10.11), and one in which two schemas have the
-- fewest memberships (FORMAT 10.13); and queries that are refused (FORMAT 10.14).
use Rattle.std.specs.Prelude.{ℕ, zero, suc, List, [], ◌∷◌}
use Rattle.refusal.specs.declared.Refusal.{Refusal}
use Rattle.refusal.specs.declared.Refusal.TheVariants.{RelationCount, RelationNumber, Attribute, QuerySyntax, EmptyRecord}

-- a column of the last node: its allowed subsets, and those of them that put the attribute in the output
pub record Column : Type 0 where
  pub number : ℕ
  pub allowed : List ℕ
  pub output : List ℕ

-- what Typing says of a schema: typed, with the output record; untyped; refused
pub data TypingResult : Type 0 where
  typed_as : List ℕ → TypingResult
  untyped : TypingResult
  refused_with : Refusal → TypingResult

-- a schema, and what Typing says of the last node under it
pub record Typing : Type 0 where
  pub schema : List ℕ
  pub result : TypingResult

-- what Apply does with an instantiation: the schema and the output record, or 26
pub data ApplyResult : Type 0 where
  applied_as : (schema output : List ℕ) → ApplyResult
  left_empty : ApplyResult

-- an instantiation, and what Apply does with it at the last node
pub record Application : Type 0 where
  pub instantiation : List ℕ
  pub result : ApplyResult

-- an example: its file, and what is known of its last node
pub record Case : Type 0 where
  pub file : List ℕ
  -- the texts of queries that are parsed to this file: one, or none where a node is an operand twice
  pub texts : List (List ℕ)
  -- m and n
  pub relations : ℕ
  pub nodes : ℕ
  pub columns : List Column
  -- the attribute that Verdict says of an untypable node; 16 if the last node is typable
  pub untypable : ℕ
  -- of a typable node: Verdict's witness and its memberships
  pub witness : List ℕ
  pub memberships : ℕ
  pub typings : List Typing
  pub applications : List Application

-- a schema with its result
abbrev pub typing : List ℕ → TypingResult → Typing
typing schema result = record { schema = schema; result = result }

-- an instantiation with its result
abbrev pub application : List ℕ → ApplyResult → Application
application instantiation result = record { instantiation = instantiation; result = result }

-- a column with its allowed subsets, and those in the output
abbrev pub column : ℕ → List ℕ → List ℕ → Column
column c a o = record { number = c; allowed = a; output = o }

-- one column for each number below n, all with the same subsets
abbrev pub columns_below : ℕ → List ℕ → List ℕ → List Column
columns_below zero a o = []
columns_below (suc n) a o = column n a o ∷ columns_below n a o

-- n bytes 0, and then these
abbrev pub zeros : ℕ → List ℕ → List ℕ
zeros zero bytes = bytes
zeros (suc n) bytes = 0 ∷ zeros n bytes

-- FORMAT 10.1 to 10.4, 10.11: E1, σ{2,3}((ρ1/2(r0) ∪ r1) ⋈ r2), with Verdict's witness; a schema with an empty record;
-- E3 and E4, schemas with attribute 20; an instantiation that leaves r2 empty, and that of E3
abbrev pub e1 : Case
e1 =
    record {
      file = 3 ∷ 7 ∷ 1 ∷ 0 ∷ 98 ∷ 0 ∷ 1 ∷ 2 ∷ 1 ∷ 1 ∷ 14 ∷ 1 ∷ 2 ∷ 1 ∷ 1 ∷ 2 ∷ 14 ∷ 3 ∷ 4 ∷ 3 ∷ 26 ∷ 5 ∷ 5 ∷ 12 ∷ 0 ∷ [];
      -- S[2,3]((N[1>2]r0+r1)*r2)
      texts = (83 ∷ 91 ∷ 50 ∷ 44 ∷ 51 ∷ 93 ∷ 40 ∷ 40 ∷ 78 ∷ 91 ∷ 49 ∷ 62 ∷ 50 ∷ 93 ∷ 114 ∷ 48 ∷ 43 ∷ 114 ∷ 49 ∷ 41 ∷ 42 ∷ 114 ∷ 50 ∷ 41 ∷ []) ∷ [];
      relations = 3;
      nodes = 7;
      columns =
          column 0 (0 ∷ 3 ∷ 4 ∷ 7 ∷ []) (3 ∷ 4 ∷ 7 ∷ [])
          ∷ column 1 (1 ∷ 5 ∷ []) (5 ∷ [])
          ∷ column 2 (2 ∷ 6 ∷ []) (2 ∷ 6 ∷ [])
          ∷ column 3 (3 ∷ 4 ∷ 7 ∷ []) (3 ∷ 4 ∷ 7 ∷ [])
          ∷ column 4 (0 ∷ 3 ∷ 4 ∷ 7 ∷ []) (3 ∷ 4 ∷ 7 ∷ [])
          ∷ [];
      untypable = 16;
      witness = 2 ∷ 0 ∷ 4 ∷ 0 ∷ 8 ∷ 0 ∷ [];
      memberships = 3;
      typings =
          typing (2 ∷ 0 ∷ 4 ∷ 0 ∷ 8 ∷ 0 ∷ []) (typed_as (12 ∷ 0 ∷ []))
          ∷ typing (10 ∷ 0 ∷ 12 ∷ 0 ∷ 0 ∷ 0 ∷ []) (refused_with EmptyRecord)
          ∷ typing (11 ∷ 0 ∷ 1 ∷ 20 ∷ 0 ∷ 13 ∷ 0 ∷ 1 ∷ 20 ∷ 0 ∷ 16 ∷ 0 ∷ []) (typed_as (29 ∷ 0 ∷ 1 ∷ 20 ∷ 0 ∷ []))
          ∷ typing (11 ∷ 0 ∷ 1 ∷ 20 ∷ 0 ∷ 12 ∷ 0 ∷ 16 ∷ 0 ∷ []) untyped
          ∷ [];
      applications =
          application (1 ∷ 2 ∷ 3 ∷ zeros 44 []) left_empty
          ∷ application (1 ∷ 2 ∷ 3 ∷ 4 ∷ zeros 11 (8 ∷ zeros 31 (1 ∷ 20 ∷ 0 ∷ []))) (applied_as (11 ∷ 0 ∷ 1 ∷ 20 ∷ 0 ∷ 13 ∷ 0 ∷ 1 ∷ 20 ∷ 0 ∷ 16 ∷ 0 ∷ []) (29 ∷ 0 ∷ 1 ∷ 20 ∷ 0 ∷ []))
          ∷ [];
    }

-- FORMAT 10.5: σ{1,2}(π{2,3}(r0)), untypable with attribute 1
abbrev pub e5 : Case
e5 =
    record {
      file = 1 ∷ 3 ∷ 1 ∷ 0 ∷ 26 ∷ 0 ∷ 6 ∷ 12 ∷ 0 ∷ 26 ∷ 1 ∷ 5 ∷ 6 ∷ 0 ∷ [];
      -- S[1,2]P[2,3]r0
      texts = (83 ∷ 91 ∷ 49 ∷ 44 ∷ 50 ∷ 93 ∷ 80 ∷ 91 ∷ 50 ∷ 44 ∷ 51 ∷ 93 ∷ 114 ∷ 48 ∷ []) ∷ [];
      relations = 1;
      nodes = 3;
      columns = column 1 [] [] ∷ column 2 (1 ∷ []) (1 ∷ []) ∷ [];
      untypable = 1;
      witness = [];
      memberships = 0;
      typings = [];
      applications = [];
    }

-- FORMAT 10.6: ρ1/1(r0), untypable with attribute 1
abbrev pub e6 : Case
e6 =
    record {
      file = 1 ∷ 2 ∷ 1 ∷ 0 ∷ 98 ∷ 0 ∷ 1 ∷ 1 ∷ [];
      -- N[1>1]r0
      texts = (78 ∷ 91 ∷ 49 ∷ 62 ∷ 49 ∷ 93 ∷ 114 ∷ 48 ∷ []) ∷ [];
      relations = 1;
      nodes = 2;
      columns = column 1 [] [] ∷ [];
      untypable = 1;
      witness = [];
      memberships = 0;
      typings = [];
      applications = [];
    }

-- FORMAT 10.7: r0 × r0, in which every column allows 00 alone, so that r0 cannot have an attribute: untypable with
-- attribute 0
abbrev pub e7 : Case
e7 =
    record {
      file = 1 ∷ 2 ∷ 1 ∷ 0 ∷ 14 ∷ 0 ∷ 0 ∷ 4 ∷ [];
      texts = [];
      relations = 1;
      nodes = 2;
      columns = columns_below 16 (0 ∷ []) [];
      untypable = 0;
      witness = [];
      memberships = 0;
      typings =
          typing (0 ∷ 0 ∷ []) (refused_with EmptyRecord)
          ∷ typing (2 ∷ 0 ∷ []) untyped
          ∷ typing (1 ∷ 0 ∷ 1 ∷ 16 ∷ 0 ∷ []) untyped
          ∷ [];
      applications = application (zeros 47 []) left_empty ∷ [];
    }

-- FORMAT 10.8: π{}(r0), which every filled schema types, with an empty output
abbrev pub e8 : Case
e8 =
    record {
      file = 1 ∷ 2 ∷ 1 ∷ 0 ∷ 26 ∷ 0 ∷ 6 ∷ 0 ∷ 0 ∷ [];
      -- P[]r0
      texts = (80 ∷ 91 ∷ 93 ∷ 114 ∷ 48 ∷ []) ∷ [];
      relations = 1;
      nodes = 2;
      columns = columns_below 16 (0 ∷ 1 ∷ []) [];
      untypable = 16;
      witness = 1 ∷ 0 ∷ 1 ∷ 16 ∷ 0 ∷ [];
      memberships = 1;
      typings =
          typing (1 ∷ 0 ∷ 1 ∷ 16 ∷ 0 ∷ []) (typed_as (0 ∷ 0 ∷ []))
          ∷ typing (3 ∷ 0 ∷ 1 ∷ 16 ∷ 0 ∷ []) (typed_as (0 ∷ 0 ∷ []))
          ∷ typing (0 ∷ 0 ∷ []) (refused_with EmptyRecord)
          ∷ [];
      applications = application (zeros 47 []) left_empty ∷ [];
    }

-- FORMAT 10.9: r0 ∪ π{1}(r1), with the one variable 02, not in the output
abbrev pub e9 : Case
e9 =
    record {
      file = 2 ∷ 4 ∷ 1 ∷ 0 ∷ 1 ∷ 1 ∷ 26 ∷ 1 ∷ 6 ∷ 2 ∷ 0 ∷ 14 ∷ 0 ∷ 2 ∷ 1 ∷ [];
      -- (r0+P[1]r1)
      texts = (40 ∷ 114 ∷ 48 ∷ 43 ∷ 80 ∷ 91 ∷ 49 ∷ 93 ∷ 114 ∷ 49 ∷ 41 ∷ []) ∷ [];
      relations = 2;
      nodes = 4;
      columns = column 0 (0 ∷ 2 ∷ []) [] ∷ column 1 (3 ∷ []) (3 ∷ []) ∷ [];
      untypable = 16;
      witness = 2 ∷ 0 ∷ 2 ∷ 0 ∷ [];
      memberships = 2;
      typings =
          typing (2 ∷ 0 ∷ 2 ∷ 0 ∷ []) (typed_as (2 ∷ 0 ∷ []))
          ∷ typing (2 ∷ 0 ∷ 3 ∷ 0 ∷ 1 ∷ 20 ∷ 0 ∷ []) (typed_as (2 ∷ 0 ∷ []))
          ∷ typing (3 ∷ 0 ∷ 1 ∷ 20 ∷ 0 ∷ 3 ∷ 0 ∷ 1 ∷ 20 ∷ 0 ∷ []) untyped
          ∷ [];
      applications = [];
    }

-- FORMAT 10.10: σ{1}(r0 ⋈ r1) ⋈ ((r0 × r2) − r3), with five variables, all in the output; the witness has attribute 1
-- in r1 and the ordinary attributes 16 in r0 and r3, 17 in r2 and r3
abbrev pub e10 : Case
e10 =
    record {
      file = 4 ∷ 9 ∷ 1 ∷ 0 ∷ 1 ∷ 1 ∷ 14 ∷ 0 ∷ 1 ∷ 3 ∷ 26 ∷ 2 ∷ 5 ∷ 2 ∷ 0 ∷ 1 ∷ 2 ∷ 14 ∷ 0 ∷ 4 ∷ 4 ∷ 1 ∷ 3 ∷ 14 ∷ 5 ∷ 6 ∷ 2 ∷ 14 ∷ 3 ∷ 7 ∷ 3 ∷ [];
      texts = [];
      relations = 4;
      nodes = 9;
      columns =
          column 0 (0 ∷ 2 ∷ 9 ∷ 11 ∷ 12 ∷ 14 ∷ []) (2 ∷ 9 ∷ 11 ∷ 12 ∷ 14 ∷ [])
          ∷ column 1 (2 ∷ 9 ∷ 11 ∷ 14 ∷ []) (2 ∷ 9 ∷ 11 ∷ 14 ∷ [])
          ∷ [];
      untypable = 16;
      witness = 1 ∷ 0 ∷ 1 ∷ 16 ∷ 0 ∷ 2 ∷ 0 ∷ 1 ∷ 0 ∷ 1 ∷ 17 ∷ 0 ∷ 1 ∷ 0 ∷ 2 ∷ 16 ∷ 0 ∷ 17 ∷ 0 ∷ [];
      memberships = 5;
      typings =
          typing (1 ∷ 0 ∷ 1 ∷ 16 ∷ 0 ∷ 2 ∷ 0 ∷ 1 ∷ 0 ∷ 1 ∷ 17 ∷ 0 ∷ 1 ∷ 0 ∷ 2 ∷ 16 ∷ 0 ∷ 17 ∷ 0 ∷ []) (typed_as (3 ∷ 0 ∷ 2 ∷ 16 ∷ 0 ∷ 17 ∷ 0 ∷ []))
          ∷ typing (0 ∷ 0 ∷ 2 ∷ 0 ∷ 0 ∷ 0 ∷ 0 ∷ 0 ∷ []) (refused_with EmptyRecord)
          ∷ [];
      applications = [];
    }

-- FORMAT 10.13: σ{1}(((r0 ∪ r1) ⋈ r2) ⋈ r3): by the subsets 03, 04 and 08 each relation has one attribute, whichever of
-- them is that of attribute 1; the witness takes 03 for it, which is the lowest, and then the variables 04 and 08,
-- which come before 0c alone
abbrev pub tie : Case
tie =
    record {
      file = 4 ∷ 8 ∷ 1 ∷ 0 ∷ 1 ∷ 1 ∷ 14 ∷ 0 ∷ 1 ∷ 1 ∷ 1 ∷ 2 ∷ 14 ∷ 2 ∷ 3 ∷ 3 ∷ 1 ∷ 3 ∷ 14 ∷ 4 ∷ 5 ∷ 3 ∷ 26 ∷ 6 ∷ 5 ∷ 2 ∷ 0 ∷ [];
      -- S[1](((r0+r1)*r2)*r3)
      texts = (83 ∷ 91 ∷ 49 ∷ 93 ∷ 40 ∷ 40 ∷ 40 ∷ 114 ∷ 48 ∷ 43 ∷ 114 ∷ 49 ∷ 41 ∷ 42 ∷ 114 ∷ 50 ∷ 41 ∷ 42 ∷ 114 ∷ 51 ∷ 41 ∷ []) ∷ [];
      relations = 4;
      nodes = 8;
      columns =
          column 0 (0 ∷ 3 ∷ 4 ∷ 7 ∷ 8 ∷ 11 ∷ 12 ∷ 15 ∷ []) (3 ∷ 4 ∷ 7 ∷ 8 ∷ 11 ∷ 12 ∷ 15 ∷ [])
          ∷ column 1 (3 ∷ 4 ∷ 7 ∷ 8 ∷ 11 ∷ 12 ∷ 15 ∷ []) (3 ∷ 4 ∷ 7 ∷ 8 ∷ 11 ∷ 12 ∷ 15 ∷ [])
          ∷ [];
      untypable = 16;
      witness = 2 ∷ 0 ∷ 2 ∷ 0 ∷ 1 ∷ 0 ∷ 1 ∷ 16 ∷ 0 ∷ 1 ∷ 0 ∷ 1 ∷ 17 ∷ 0 ∷ [];
      memberships = 4;
      typings =
          typing (2 ∷ 0 ∷ 2 ∷ 0 ∷ 1 ∷ 0 ∷ 1 ∷ 16 ∷ 0 ∷ 1 ∷ 0 ∷ 1 ∷ 17 ∷ 0 ∷ []) (typed_as (3 ∷ 0 ∷ 2 ∷ 16 ∷ 0 ∷ 17 ∷ 0 ∷ []))
          ∷ typing (1 ∷ 0 ∷ 1 ∷ 16 ∷ 0 ∷ 1 ∷ 0 ∷ 1 ∷ 16 ∷ 0 ∷ 2 ∷ 0 ∷ 1 ∷ 0 ∷ 1 ∷ 17 ∷ 0 ∷ []) (typed_as (3 ∷ 0 ∷ 2 ∷ 16 ∷ 0 ∷ 17 ∷ 0 ∷ []))
          ∷ [];
      applications = [];
    }

-- all cases
unfoldable pub table : List Case
table = e1 ∷ e5 ∷ e6 ∷ e7 ∷ e8 ∷ e9 ∷ e10 ∷ tie ∷ []

-- ---- queries that are refused

-- a text, over so many relations, and its refusal
pub record RefusedText : Type 0 where
  pub relations : ℕ
  pub text : List ℕ
  pub refusal : Refusal

abbrev refused_text : ℕ → List ℕ → Refusal → RefusedText
refused_text m text r = record { relations = m; text = text; refusal = r }

-- FORMAT 10.14
unfoldable pub refused_texts : List RefusedText
refused_texts =
    -- r0
    refused_text 9 (114 ∷ 48 ∷ []) RelationCount
    -- the empty text
    ∷ refused_text 1 ([]) QuerySyntax
    -- r0r0
    ∷ refused_text 1 (114 ∷ 48 ∷ 114 ∷ 48 ∷ []) QuerySyntax
    -- (r0+r0
    ∷ refused_text 1 (40 ∷ 114 ∷ 48 ∷ 43 ∷ 114 ∷ 48 ∷ []) QuerySyntax
    -- S[2,1]r0
    ∷ refused_text 1 (83 ∷ 91 ∷ 50 ∷ 44 ∷ 49 ∷ 93 ∷ 114 ∷ 48 ∷ []) QuerySyntax
    -- S[1,1]r0
    ∷ refused_text 1 (83 ∷ 91 ∷ 49 ∷ 44 ∷ 49 ∷ 93 ∷ 114 ∷ 48 ∷ []) QuerySyntax
    -- D[01]r0
    ∷ refused_text 1 (68 ∷ 91 ∷ 48 ∷ 49 ∷ 93 ∷ 114 ∷ 48 ∷ []) QuerySyntax
    -- D[100]r0
    ∷ refused_text 1 (68 ∷ 91 ∷ 49 ∷ 48 ∷ 48 ∷ 93 ∷ 114 ∷ 48 ∷ []) QuerySyntax
    -- N[1,2]r0
    ∷ refused_text 1 (78 ∷ 91 ∷ 49 ∷ 44 ∷ 50 ∷ 93 ∷ 114 ∷ 48 ∷ []) QuerySyntax
    -- r1
    ∷ refused_text 1 (114 ∷ 49 ∷ []) RelationNumber
    -- D[0]r0
    ∷ refused_text 1 (68 ∷ 91 ∷ 48 ∷ 93 ∷ 114 ∷ 48 ∷ []) Attribute
    -- D[16]r0
    ∷ refused_text 1 (68 ∷ 91 ∷ 49 ∷ 54 ∷ 93 ∷ 114 ∷ 48 ∷ []) Attribute
    -- (r1+D[16]r0)
    ∷ refused_text 1 (40 ∷ 114 ∷ 49 ∷ 43 ∷ 68 ∷ 91 ∷ 49 ∷ 54 ∷ 93 ∷ 114 ∷ 48 ∷ 41 ∷ []) RelationNumber
    -- (D[16]r0+r1)
    ∷ refused_text 1 (40 ∷ 68 ∷ 91 ∷ 49 ∷ 54 ∷ 93 ∷ 114 ∷ 48 ∷ 43 ∷ 114 ∷ 49 ∷ 41 ∷ []) Attribute
    -- D[16]r1
    ∷ refused_text 1 (68 ∷ 91 ∷ 49 ∷ 54 ∷ 93 ∷ 114 ∷ 49 ∷ []) Attribute
    ∷ []
