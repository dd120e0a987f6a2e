-- Lists read one after the other: what they are, which bits stand, and their bytes.
use Rattle.std.specs.Prelude.{ℕ, zero, suc, ◌+◌, ◌*◌, ◌≤◌, ◌<◌, ◌≡◌, refl, Bool, true, false, not, List, [], ◌∷◌, ◌++◌, eqb, length, get_or, drop, Result, Ok, Err}
use Rattle.std.proofs.Common.{sym, ap, ap₂, subst, ◌∙◌, add-zero, arith, ne_eqb, lit<, take-append-drop, get_or-drop, drop_at}
use Rattle.bits.specs.Word.{Bytes}
use Rattle.type_record.specs.Lists.{read_list, listed, list_bytes}
use Rattle.type_record.specs.ListBytes.{IsList, bytes-length, list_read, list-some, list_written, written_listed, written-list}
use Rattle.instantiation.specs.Instantiation.{Lists, standing, follow, read_lists, lists_bytes}
use Rattle.instantiation.specs.ReadStep.{read-clear, read-stands}
use Rattle.refusal.specs.Several.{several_refused as lists_refused, several_read as lists_read, precede, at_end}
use Rattle.refusal.specs.declared.Refusal.TheVariants.{InputFollowed}
use Rattle.refusal.specs.declared.Refusal.{Refusal}

-- the list is not empty
abbrev pub some : List ℕ → Bool
some l = not (eqb (length l) 0)

pub some_is : (l : List ℕ) → 1 ≤ length l → some l ≡ true
some_is l h = ap not (ne_eqb (length l) 0 (λ e. omega arith))

-- all of them are lists
abbrev pub AllLists : List (List ℕ) → Type 0
AllLists [] = Unit {0}
AllLists (l ∷ ls) = IsList l × AllLists ls

pub empty-list : IsList []
empty-list = record { rising = tt; few = omega arith; below = λ i. lit< tt }

pub all-at : (ls : List (List ℕ)) → AllLists ls → (s : ℕ) → IsList (get_or ls s [])
all-at [] all s = empty-list
all-at (l ∷ ls) all zero = all.0
all-at (l ∷ ls) all (suc s) = all-at ls all.1 s

pub at_all : (ls : List (List ℕ)) → ((s : ℕ) → IsList (get_or ls s [])) → AllLists ls
at_all [] at = tt
at_all (l ∷ ls) at = (at 0, at_all ls (λ s. at (suc s)))

-- ---- reading

-- what is read from these bytes on, for so many subsets from s on
pub record ReadFrom (whole : List ℕ) (left s : ℕ) (bytes : List ℕ) (ls : List (List ℕ)) : Type 0 where
  pub size : length ls ≡ left
  pub all : AllLists ls
  pub stands : (i : ℕ) → i < left → standing whole (s + i) ≡ some (get_or ls i [])
  pub written : lists_bytes ls ≡ bytes

ended : (whole : List ℕ) (s : ℕ) (bytes : List ℕ) (ls : List (List ℕ)) → at_end InputFollowed bytes ≡ lists_read ls → ReadFrom whole 0 s bytes ls
ended whole s [] ls e =
    let none : ls ≡ [] = cc in
    rw none (record { size = refl; all = tt; stands = λ i h. absurd (omega arith); written = refl })
ended whole s (b ∷ bs) ls e = absurd (let z : ◌≡◌ {A = ℕ} 0 1 = cc in omega arith)

-- a list before those that follow
read_more :
    (whole : List ℕ) (left s : ℕ) (l after : List ℕ) (others : List (List ℕ))
    → IsList l
    → standing whole s ≡ some l
    → ReadFrom whole left (s + 1) after others
    → ReadFrom whole (suc left) s (list_bytes l ++ after) (l ∷ others)
read_more whole left s l after others is stands rest =
    record {
      size = ap suc rest.size;
      all = (is, rest.all);
      stands = λ i h. each i h;
      written = ap (λ (bs : List ℕ). list_bytes l ++ bs) rest.written;
    }
  where
    each : (i : ℕ) → i < suc left → standing whole (s + i) ≡ some (get_or (l ∷ others) i [])
    each zero h = ap (standing whole) (add-zero s) ∙ stands
    each (suc i) h =
        let next : s + suc i ≡ s + 1 + i = omega arith in
        ap (standing whole) next ∙ rest.stands i (omega arith)

-- the first list of those that are read, and the others
record First (whole : List ℕ) (left s : ℕ) (bytes : List ℕ) (ls : List (List ℕ)) : Type 0 where
  list : List ℕ
  after : List ℕ
  others : List (List ℕ)
  is : IsList list
  stands : standing whole s ≡ some list
  split : list_bytes list ++ after ≡ bytes
  below : Bytes after
  rest : read_lists whole left (s + 1) after ≡ lists_read others
  are : ls ≡ list ∷ others

first : (whole : List ℕ) (left s : ℕ) (bytes : List ℕ) (ls : List (List ℕ)) → Bytes bytes → read_lists whole (suc left) s bytes ≡ lists_read ls → First whole left s bytes ls
first whole left s bytes ls bytes_below e = go (standing whole s) refl
  where
    preceded :
        (l after : List ℕ) (rs : Lists)
        → IsList l
        → standing whole s ≡ some l
        → list_bytes l ++ after ≡ bytes
        → Bytes after
        → read_lists whole left (s + 1) after ≡ rs
        → precede l rs ≡ lists_read ls
        → First whole left s bytes ls
    preceded l after (lists_refused r) is stands split below rest h = absurd (let z : ◌≡◌ {A = ℕ} 0 1 = cc in omega arith)
    preceded l after (lists_read us) is stands split below rest h = record { list = l; after = after; others = us; is = is; stands = stands; split = split; below = below; rest = rest; are = cc }

    followed : (r : Result ℕ Refusal) → read_list bytes ≡ r → standing whole s ≡ true → follow r bytes (read_lists whole left (s + 1)) ≡ lists_read ls → First whole left s bytes ls
    followed (Err r) reading stands h = absurd (let z : ◌≡◌ {A = ℕ} 0 1 = cc in omega arith)
    followed (Ok n) reading stands h =
        preceded (listed n bytes) (drop (n * 2 + 1) bytes) (read_lists whole left (s + 1) (drop (n * 2 + 1) bytes))
        (list_read bytes n bytes_below reading)
        (stands ∙ sym (some_is (listed n bytes) (list-some bytes n bytes_below reading)))
        (ap (λ (bs : List ℕ). bs ++ drop (n * 2 + 1) bytes) (list_written bytes n bytes_below reading) ∙ take-append-drop (n * 2 + 1) bytes)
        (λ i. rw get_or-drop (bytes_below (n * 2 + 1 + i)))
        refl
        h

    go : (b : Bool) → standing whole s ≡ b → First whole left s bytes ls
    go true stands = followed (read_list bytes) refl stands (sym (read-stands whole left s bytes stands) ∙ e)
    go false clear = preceded [] bytes (read_lists whole left (s + 1) bytes) empty-list clear refl bytes_below refl (sym (read-clear whole left s bytes clear) ∙ e)

pub read-from : (whole : List ℕ) (left s : ℕ) (bytes : List ℕ) (ls : List (List ℕ)) → Bytes bytes → read_lists whole left s bytes ≡ lists_read ls → ReadFrom whole left s bytes ls
unfolding read_lists
read-from whole zero s bytes ls below e = ended whole s bytes ls e
read-from whole (suc left) s bytes ls below e =
    let f = first whole left s bytes ls below e in
    rw f.are
    (subst (λ (bs : List ℕ). ReadFrom whole (suc left) s bs (f.list ∷ f.others)) f.split
    (read_more whole left s f.list f.after f.others f.is f.stands (read-from whole left (s + 1) f.after f.others f.below f.rest)))

-- ---- reading what was written

pub written_from : (whole : List ℕ) (ls : List (List ℕ)) (s : ℕ) → AllLists ls → ((i : ℕ) → i < length ls → standing whole (s + i) ≡ some (get_or ls i [])) → read_lists whole (length ls) s (lists_bytes ls) ≡ lists_read ls
unfolding read_lists
written_from whole [] s all stands = refl
written_from whole (l ∷ ls) s all stands =
    first l all.0 (ap (standing whole) (sym (add-zero s)) ∙ stands 0 (omega arith))
    (written_from whole ls (s + 1) all.1 (λ i h. let next : s + 1 + i ≡ s + suc i = omega arith in ap (standing whole) next ∙ stands (suc i) (omega arith)))
  where
    first :
        (l : List ℕ)
        → IsList l
        → standing whole s ≡ some l
        → read_lists whole (length ls) (s + 1) (lists_bytes ls) ≡ lists_read ls
        → read_lists whole (suc (length ls)) s (list_bytes l ++ lists_bytes ls) ≡ lists_read (l ∷ ls)
    first [] is bit_is rest = read-clear whole (length ls) s (lists_bytes ls) bit_is ∙ ap (precede []) rest
    first (a ∷ k) is bit_is rest =
        let inside : 1 ≤ length (a ∷ k) = omega arith in
        let after = drop_at (list_bytes (a ∷ k)) (lists_bytes ls) (length (a ∷ k) * 2 + 1) (bytes-length (a ∷ k) inside) in
        read-stands whole (length ls) s (list_bytes (a ∷ k) ++ lists_bytes ls) (bit_is ∙ some_is (a ∷ k) inside)
        ∙ ap (λ (r : Result ℕ Refusal). follow r (list_bytes (a ∷ k) ++ lists_bytes ls) (read_lists whole (length ls) (s + 1))) (written-list (a ∷ k) (lists_bytes ls) inside is.rising)
        ∙ ap₂ precede (written_listed (a ∷ k) (lists_bytes ls) inside) (ap (read_lists whole (length ls) (s + 1)) after ∙ rest)
