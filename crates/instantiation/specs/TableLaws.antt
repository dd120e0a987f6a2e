-- Laws of an instantiation that was read: its lists, and the table that is made of them.
use Rattle.std.specs.Prelude.{ℕ, zero, suc, ◌+◌, ◌-◌, ◌*◌, ◌≤◌, ◌<◌, ◌≡◌, refl, Bool, List, [], ◌∷◌, eqb, ltb, length, get_or, drop, Result, Ok, Err}
use Rattle.std.proofs.Common.{sym, ap, subst, arith, le-ltb, ltb-false, lit≤, ◌∙◌}
use Rattle.std.proofs.Math.Bool.{true, false, cond}
use Rattle.std.proofs.Math.Decide.{dec_lt}
use Rattle.std.proofs.Math.Dec.{lit<}
use Rattle.std.proofs.Math.ListN.{get_or-eq_default}
use Rattle.bits.specs.Tab.{tab, length-tab, get_or-tab, tab-is}
use Rattle.bits.specs.Word.{Bytes}
use Rattle.refusal.specs.Number.{number_of}
use Rattle.refusal.specs.declared.Refusal.{Refusal}
use Rattle.refusal.specs.declared.Refusal.TheVariants.{InputTruncated, RepeatedAttribute, TooManyAttributes}
use Rattle.refusal.specs.Several.{several_refused as lists_refused, several_read as lists_read, precede}
use Rattle.type_record.specs.Lists.{read_list, listed}
use Rattle.type_record.specs.ListLaws.{list-number}
use Rattle.instantiation.specs.Seen.{nothing_seen, repeated_in}
use Rattle.instantiation.specs.Instantiation.{Instantiation, Lists, standing, follow, read_lists, entries_in, all_listed, subsets_of, refused_instantiation, tabled, instantiation_reading, reading_of, handed}
use Rattle.instantiation.specs.declared.InstantiationTable.{InstantiationTable}
use Rattle.instantiation.specs.ReadStep.{read-clear, read-stands}
use Rattle.schema.specs.Judgement.{Read, Refused, Judgement}

-- an instantiation that was read from these bytes, with its lists
pub record ReadInstantiation (bytes : List ℕ) (i : Instantiation) (ls : List (List ℕ)) : Type 0 where
  pub long : 47 ≤ length bytes
  pub read : read_lists bytes 256 0 (drop 47 bytes) ≡ lists_read ls
  pub once : repeated_in nothing_seen (all_listed ls) ≡ false
  pub few : length (entries_in ls) ≤ 255
  pub is : i ≡ record { judgement = Read; subsets = subsets_of bytes; entries = entries_in ls }

refused-not : (r : Refusal) → (refused_instantiation r).judgement ≡ Read → ⊥
unfolding refused_instantiation
refused-not r e = let z : ◌≡◌ {A = ℕ} 0 1 = cc in omega arith

pub instantiation-read : (bytes : List ℕ) → (instantiation_reading bytes).judgement ≡ Read → (ls : List (List ℕ)) × ReadInstantiation bytes (instantiation_reading bytes) ls
unfolding instantiation_reading
instantiation-read bytes e = long (ltb (length bytes) 47) refl e
  where
    counted :
        (ls : List (List ℕ))
        → 47 ≤ length bytes
        → read_lists bytes 256 0 (drop 47 bytes) ≡ lists_read ls
        → repeated_in nothing_seen (all_listed ls) ≡ false
        → (t : Bool)
        → ltb 255 (length (entries_in ls)) ≡ t
        → (cond t (refused_instantiation TooManyAttributes) (record { judgement = Read; subsets = subsets_of bytes; entries = entries_in ls })
        ).judgement
        ≡ Read
        → (us : List (List ℕ))
        × ReadInstantiation bytes
        (cond t (refused_instantiation TooManyAttributes)
        (record { judgement = Read; subsets = subsets_of bytes; entries = entries_in ls }))
        us
    counted ls enough read once true many said = absurd (refused-not TooManyAttributes said)
    counted ls enough read once false few said = (ls, record { long = enough; read = read; once = once; few = ltb-false 255 (length (entries_in ls)) few; is = refl })

    unrepeated :
        (ls : List (List ℕ))
        → 47 ≤ length bytes
        → read_lists bytes 256 0 (drop 47 bytes) ≡ lists_read ls
        → (t : Bool)
        → repeated_in nothing_seen (all_listed ls) ≡ t
        → (cond t (refused_instantiation RepeatedAttribute)
        (cond (ltb 255 (length (entries_in ls))) (refused_instantiation TooManyAttributes)
        (record { judgement = Read; subsets = subsets_of bytes; entries = entries_in ls }))
        ).judgement
        ≡ Read
        → (us : List (List ℕ))
        × ReadInstantiation bytes
        (cond t (refused_instantiation RepeatedAttribute)
        (cond (ltb 255 (length (entries_in ls))) (refused_instantiation TooManyAttributes)
        (record { judgement = Read; subsets = subsets_of bytes; entries = entries_in ls })))
        us
    unrepeated ls enough read true twice said = absurd (refused-not RepeatedAttribute said)
    unrepeated ls enough read false once said = counted ls enough read once (ltb 255 (length (entries_in ls))) refl said

    listed : 47 ≤ length bytes → (ls : Lists) → read_lists bytes 256 0 (drop 47 bytes) ≡ ls → (tabled ls bytes).judgement ≡ Read → (us : List (List ℕ)) × ReadInstantiation bytes (tabled ls bytes) us
    listed enough (lists_refused r) read said = absurd (refused-not r said)
    listed enough (lists_read ls) read said = unrepeated ls enough read (repeated_in nothing_seen (all_listed ls)) refl said

    long :
        (t : Bool)
        → ltb (length bytes) 47 ≡ t
        → (cond t (refused_instantiation InputTruncated) (tabled (read_lists bytes 256 0 (drop 47 bytes)) bytes)).judgement ≡ Read
        → (us : List (List ℕ))
        × ReadInstantiation bytes (cond t (refused_instantiation InputTruncated) (tabled (read_lists bytes 256 0 (drop 47 bytes)) bytes)) us
    long true short said = absurd (refused-not InputTruncated said)
    long false enough said = listed (ltb-false (length bytes) 47 enough) (read_lists bytes 256 0 (drop 47 bytes)) refl said

-- the lists, none of them with an attribute of another, at most 255: the instantiation is read
pub read-instantiation :
    (bytes : List ℕ) (ls : List (List ℕ))
    → 47 ≤ length bytes
    → read_lists bytes 256 0 (drop 47 bytes) ≡ lists_read ls
    → repeated_in nothing_seen (all_listed ls) ≡ false
    → length (entries_in ls) ≤ 255
    → ReadInstantiation bytes (instantiation_reading bytes) ls
unfolding instantiation_reading
read-instantiation bytes ls enough read once few =
    record { long = enough; read = read; once = once; few = few; is = rw (le-ltb (length bytes) 47 enough, read, once, le-ltb 255 (length (entries_in ls)) few) }

-- ---- it is refused by 14 to 19

-- lists, or a refusal of at most 17
abbrev Early : Lists → Type 0
Early (lists_read ls) = Unit {0}
Early (lists_refused r) = number_of r ≤ 17

preceded-early : (l : List ℕ) (ls : Lists) → Early ls → Early (precede l ls)
preceded-early l (lists_read ls) h = h
preceded-early l (lists_refused r) h = h

lists-early : (whole : List ℕ) (left s : ℕ) (bytes : List ℕ) → Early (read_lists whole left s bytes)
unfolding read_lists
lists-early whole zero s [] = tt
lists-early whole zero s (b ∷ bs) = lit≤ tt
lists-early whole (suc left) s bytes = go (standing whole s) refl (λ after. lists-early whole left (s + 1) after)
  where
    followed : (r : Result ℕ Refusal) → read_list bytes ≡ r → ((after : List ℕ) → Early (read_lists whole left (s + 1) after)) → Early (follow r bytes (read_lists whole left (s + 1)))
    followed (Err r) reading rest = let most = list-number bytes r reading in omega arith
    followed (Ok n) reading rest = preceded-early (listed n bytes) (read_lists whole left (s + 1) (drop (n * 2 + 1) bytes)) (rest (drop (n * 2 + 1) bytes))

    go : (b : Bool) → standing whole s ≡ b → ((after : List ℕ) → Early (read_lists whole left (s + 1) after)) → Early (read_lists whole (suc left) s bytes)
    go true stands rest = subst Early (sym (read-stands whole left s bytes stands)) (followed (read_list bytes) refl rest)
    go false clear rest = subst Early (sym (read-clear whole left s bytes clear)) (preceded-early [] (read_lists whole left (s + 1) bytes) (rest bytes))

refused-by : (q r : Refusal) → (refused_instantiation q).judgement ≡ Refused r → q ≡ r
unfolding refused_instantiation
refused-by q r e = cc

pub reading-number : (bytes : List ℕ) (r : Refusal) → (instantiation_reading bytes).judgement ≡ Refused r → number_of r ≤ 19
unfolding instantiation_reading
reading-number bytes r e = long (ltb (length bytes) 47) e
  where
    number : (q : Refusal) → number_of q ≤ 19 → (refused_instantiation q).judgement ≡ Refused r → number_of r ≤ 19
    number q most said = rw (← refused-by q r said) most

    counted : (ls : List (List ℕ)) (t : Bool) → (cond t (refused_instantiation TooManyAttributes) (record { judgement = Read; subsets = subsets_of bytes; entries = entries_in ls })).judgement ≡ Refused r → number_of r ≤ 19
    counted ls true said = number TooManyAttributes (lit≤ tt) said
    counted ls false said = absurd (let z : ◌≡◌ {A = ℕ} 0 1 = cc in omega arith)

    unrepeated :
        (ls : List (List ℕ)) (t : Bool)
        → (cond t (refused_instantiation RepeatedAttribute)
        (cond (ltb 255 (length (entries_in ls))) (refused_instantiation TooManyAttributes)
        (record { judgement = Read; subsets = subsets_of bytes; entries = entries_in ls }))
        ).judgement
        ≡ Refused r
        → number_of r ≤ 19
    unrepeated ls true said = number RepeatedAttribute (lit≤ tt) said
    unrepeated ls false said = counted ls (ltb 255 (length (entries_in ls))) said

    listed-so : (ls : Lists) → Early ls → (tabled ls bytes).judgement ≡ Refused r → number_of r ≤ 19
    listed-so (lists_refused q) early said = number q (omega arith) said
    listed-so (lists_read ls) early said = unrepeated ls (repeated_in nothing_seen (all_listed ls)) said

    long : (t : Bool) → (cond t (refused_instantiation InputTruncated) (tabled (read_lists bytes 256 0 (drop 47 bytes)) bytes)).judgement ≡ Refused r → number_of r ≤ 19
    long true said = number InputTruncated (lit≤ tt) said
    long false said = listed-so (read_lists bytes 256 0 (drop 47 bytes)) (lists-early bytes 256 0 (drop 47 bytes)) said

-- ---- what stands in its table

pub read-entries : (bytes : List ℕ) (i : Instantiation) (ls : List (List ℕ)) → ReadInstantiation bytes i ls → i.entries ≡ entries_in ls
read-entries bytes i ls r = ap (λ (x : Instantiation). x.entries) r.is

-- what is handed on of a reading
pub record Handed (i : Instantiation) (x : InstantiationTable) : Type 0 where
  pub judgement : i.judgement ≡ Read
  pub subsets : x.subsets ≡ i.subsets
  pub count : x.count ≡ length i.entries

pub handed-on : (i : Instantiation) (x : InstantiationTable) → Ok x ≡ reading_of i → Handed i x
unfolding reading_of
handed-on i x = go i.judgement refl
  where
    go : (j : Judgement) → i.judgement ≡ j → Ok x ≡ handed j i → Handed i x
    go Read read is =
        let same : x ≡ record { subsets = i.subsets; count = length i.entries } = cc in
        record {
          judgement = read;
          subsets = ap (λ (y : InstantiationTable). y.subsets) same;
          count = ap (λ (y : InstantiationTable). y.count) same;
        }
    go (Refused r) read is = absurd (let z : ◌≡◌ {A = ℕ} 0 1 = cc in omega arith)

-- and of a refused one
pub refused-on : (i : Instantiation) (r : Refusal) → Err r ≡ reading_of i → i.judgement ≡ Refused r
unfolding reading_of
refused-on i r = go i.judgement refl
  where
    go : (j : Judgement) → i.judgement ≡ j → Err r ≡ handed j i → i.judgement ≡ Refused r
    go Read read is = absurd (let z : ◌≡◌ {A = ℕ} 0 1 = cc in omega arith)
    go (Refused q) read is = let same : q ≡ r = cc in read ∙ ap Refused same

-- ---- the subsets of special attributes

module _ (bytes : List ℕ) where
  pub subsets-size : length (subsets_of bytes) ≡ 16
  unfolding subsets_of
  subsets-size = length-tab 16 (λ i. cond (eqb i 0) 0 (get_or bytes (i - 1) 0))

  -- those of a list with the bytes of each special attribute
  pub subsets-are : (subsets : List ℕ) → length subsets ≡ 16 → ((i : ℕ) → i < 16 → get_or subsets i 0 ≡ cond (eqb i 0) 0 (get_or bytes (i - 1) 0)) → subsets ≡ subsets_of bytes
  unfolding subsets_of
  subsets-are subsets size each = tab-is 16 (λ i. cond (eqb i 0) 0 (get_or bytes (i - 1) 0)) 0 subsets size each

  pub subsets-none : get_or (subsets_of bytes) 0 0 ≡ 0
  unfolding subsets_of
  subsets-none = get_or-tab 16 (λ i. cond (eqb i 0) 0 (get_or bytes (i - 1) 0)) 0 0 (lit< tt)

  pub subsets-small : Bytes bytes → (i : ℕ) → get_or (subsets_of bytes) i 0 < 256
  unfolding subsets_of
  subsets-small below i = go (dec_lt i 16)
    where
      byte : (j : ℕ) (t : Bool) → cond t 0 (get_or bytes j 0) < 256
      byte j true = lit< tt
      byte j false = below j

      go : Dec (i < 16) → get_or (tab 16 (λ i. cond (eqb i 0) 0 (get_or bytes (i - 1) 0))) i 0 < 256
      go (yes h) = rw (get_or-tab 16 (λ i. cond (eqb i 0) 0 (get_or bytes (i - 1) 0)) i 0 h) (byte (i - 1) (eqb i 0))
      go (no h) = let size = length-tab 16 (λ i. cond (eqb i 0) 0 (get_or bytes (i - 1) 0)) in rw (get_or-eq_default (tab 16 (λ i. cond (eqb i 0) 0 (get_or bytes (i - 1) 0))) 0 {n = i} (omega arith)) (lit< tt)
