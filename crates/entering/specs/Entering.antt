-- How a list is entered in place: its attributes that have an entry are marked there, up to the first that has none; if
-- there is one, the list is merged elsewhere and copied back.
use Rattle.std.specs.Prelude.{ℕ, zero, suc, ◌+◌, ◌-◌, ◌*◌, ◌≤◌, ◌<◌, min, ◌≡◌, refl, Bool, true, false, cond, List, [], ◌∷◌, ◌++◌, length, get_or, set, take, drop}
use Rattle.std.proofs.Common.{sym, ap, ◌∙◌, add-one, arith, length-set, length-take, take-append-drop, drop_of_length-le, drop-cons, get_or-take, length-take-le, take_all, take-suc, take-suc-set}
use Rattle.std.specs.Int.Bits.{bit_or}
use Rattle.std.proofs.Math.Seq.{append_snoc, split_at, take-set-lt}
use Rattle.std.proofs.lemmas.List.{set_split}
use Rattle.bits.specs.Word.{word}
use Rattle.bits.specs.Tab.{tab, get_or-tab}
use Rattle.membership.specs.Entries.{attribute_of, enter, TableIn}
use Rattle.membership.specs.EnterLaws.{enter-none, enter-higher, enter-equal, enter-few, joined-attribute, joined-again}
use Rattle.entry_runs.specs.Runs.{Passed, Copying, has_entry, has-entry}
use Rattle.entering.specs.Merging.{Enters, Merged, listed-size, earlier-size}
use Rattle.membership.specs.TableLaws.{table-written}

-- ---- marking

-- entering the list leaves these first entries as they are, and goes on after them with the attributes from number i on
abbrev pub Kept : ℕ → List ℕ → ℕ → List ℕ → Type 0
Kept s more i front = (rest : List ℕ) → enter s more (front ++ rest) ≡ front ++ enter s (drop i more) rest

kept-one : (s : ℕ) (more : List ℕ) (i n e : ℕ) (front : List ℕ) → Kept s more i front → ((rest : List ℕ) → enter s (drop i more) (e ∷ rest) ≡ e ∷ enter s (drop n more) rest) → Kept s more n (front ++ (e ∷ []))
kept-one s more i n e front kept step rest =
    ap (enter s more) (append_snoc front e rest)
    ∙ kept (e ∷ rest)
    ∙ ap (λ (l : List ℕ). front ++ l) (step rest)
    ∙ sym (append_snoc front e (enter s (drop n more) rest))

-- the first i attributes are marked in the first j entries of a table, and entering the list gives what it gave before
pub record Marking (s : ℕ) (more before items : List ℕ) (i j : ℕ) : Type 0 where
  pub passed : j ≤ length items
  pub size : length items ≡ length before
  pub kept : Kept s more i (take j items)
  pub same : enter s more items ≡ enter s more before

pub mark-first : (s : ℕ) (more items : List ℕ) → Marking s more items items 0 0
mark-first s more items = record { passed = omega arith; size = refl; kept = λ rest. refl; same = refl }

module _ {s : ℕ} {more before items : List ℕ} {i j : ℕ} (m : Marking s more before items i j) where
  -- every attribute has an entry
  mark-end : length more ≤ i → items ≡ enter s more before
  mark-end all =
      sym (take-append-drop j items)
      ∙ ap (λ (l : List ℕ). take j items ++ l) (sym (enter-none s (drop j items)))
      ∙ ap (λ (l : List ℕ). take j items ++ enter s l (drop j items)) (sym (drop_of_length-le more all))
      ∙ sym (m.kept (drop j items))
      ∙ ap (enter s more) (take-append-drop j items)
      ∙ m.same

  module _ (hi : i < length more) where
    -- what is left of the list begins with attribute i
    here : drop i more ≡ get_or more i 0 ∷ drop (i + 1) more
    here = rw (add-one i) (drop-cons more i 0 hi)

    -- entries below attribute i are passed
    kept-lower : (d p : ℕ) → p ≡ j + d → p ≤ length items → ((x : ℕ) → j ≤ x → x < p → get_or items x 0 < get_or more i 0 * 256) → Kept s more i (take p items)
    kept-lower zero p is inside low = let at : p ≡ j = omega arith in rw at m.kept
    kept-lower (suc d) p is inside low =
        let at : p ≡ suc (j + d) = omega arith in
        let less = low (j + d) (omega arith) (omega arith) in
        rw (at, take-suc items (j + d) 0 (omega arith))
        (kept-one s more i i (get_or items (j + d) 0) (take (j + d) items)
        (kept-lower d (j + d) refl (omega arith) (λ x above under. low x above (omega arith)))
        (λ rest. rw here (enter-higher s (get_or more i 0) (drop (i + 1) more) (get_or items (j + d) 0) rest (omega arith))))

    mark-lower : {p : ℕ} → j ≤ p → p ≤ length items → ((x : ℕ) → j ≤ x → x < p → get_or items x 0 < get_or more i 0 * 256) → Marking s more before items i p
    mark-lower {p} begun inside low =
        record { passed = inside; size = m.size; kept = kept-lower (p - j) p (omega arith) inside low; same = m.same }

    -- the entry of attribute i is marked
    abbrev v : ℕ
    v = bit_or (get_or items j 0) s

    module _ (small : s < 256) (is : attribute_of (get_or items j 0) ≡ get_or more i 0) where
      entered : (rest : List ℕ) → enter s (drop i more) (get_or items j 0 ∷ rest) ≡ v ∷ enter s (drop (i + 1) more) rest
      entered rest = rw here (enter-equal s (get_or more i 0) (drop (i + 1) more) (get_or items j 0) rest (sym is))

      marked : (rest : List ℕ) → enter s (drop i more) (v ∷ rest) ≡ v ∷ enter s (drop (i + 1) more) rest
      marked rest =
          rw here (enter-equal s (get_or more i 0) (drop (i + 1) more) v rest (sym (joined-attribute (get_or items j 0) s small ∙ is)))
          ∙ ap (λ (x : ℕ). x ∷ enter s (drop (i + 1) more) rest) (joined-again (get_or items j 0) s)

      mark-entry : j < length items → Marking s more before (set items j v) (i + 1) (j + 1)
      mark-entry inside =
          record {
            passed = simp length-set (omega arith);
            size = length-set items j v ∙ m.size;
            kept = rw (add-one j, take-suc-set items j v inside) (kept-one s more i (i + 1) v (take j items) m.kept marked);
            same =
                ap (enter s more) (set_split items j v inside)
                ∙ m.kept (v ∷ drop (suc j) items)
                ∙ ap (λ (l : List ℕ). take j items ++ l) (marked (drop (suc j) items) ∙ sym (entered (drop (suc j) items)))
                ∙ sym (m.kept (get_or items j 0 ∷ drop (suc j) items))
                ∙ ap (enter s more) (sym (split_at items j 0 inside))
                ∙ m.same;
          }

-- ---- over a list of bytes and a slice of entries

-- a table of so many entries and so many more, up to 256, fits in the slice
abbrev pub CopyFits : ℕ → ℕ → List ℕ → Type 0
CopyFits count at items = (k : ℕ) → k < 256 → k < at + count → k < length items

module _ {list : List ℕ} {count : ℕ} {before : List ℕ} {old : ℕ} (subset : ℕ) (e : Enters list count before old) where
  -- the attributes of the list, two bytes each after its count byte
  abbrev more : List ℕ
  more = tab count (λ x. word list (x * 2 + 1))

  module _ (items : List ℕ) {i j : ℕ} (enough : old ≤ length items) (m : Marking subset more (take old before) (take old items) i j) where
    pub marked-bound : j ≤ old
    marked-bound = let inside = m.passed in let size = length-take-le old items enough in omega arith

    -- one listed attribute, as the code marks it
    pub mark-stops : {found : Bool} {next : List ℕ} (marked : List ℕ) → next ≡ cond found marked items → found ≡ false → enter subset more (take old next) ≡ enter subset more (take old before)
    mark-stops marked next-is lacks = rw (next-is, lacks) m.same

    pub mark-goes-on : {a place : ℕ} {found : Bool} {next : List ℕ} → subset < 256 → i < count → a ≡ word list (i * 2 + 1)
        → Passed items j old (a * 256) place → next ≡ cond found (set items place (bit_or (get_or items place 0) subset)) items
        → found ≡ has_entry items place old a → found ≡ true → Marking subset more (take old before) (take old next) (i + 1) (place + 1)
    mark-goes-on {a} {place} small hi is p next-is found-is has =
        let listed = listed-size subset e in
        let size = length-take-le old items enough in
        let begun = p.lower.begun in
        let there = has-entry items place old a (sym found-is ∙ has) in
        let inside = there.0 in
        let at : get_or more i 0 ≡ a = get_or-tab count (λ x. word list (x * 2 + 1)) i 0 hi ∙ sym is in
        let entry = get_or-take old items place 0 inside in
        let lower = mark-lower m (omega arith) begun (omega arith) (λ x above under. rw (at, get_or-take old items x 0 (omega arith)) (p.lower.below x above under)) in
        rw (next-is, has, take-set-lt old items place (bit_or (get_or items place 0) subset) inside, ← entry)
        (mark-entry lower (omega arith) small (ap attribute_of entry ∙ there.1 ∙ sym at) (omega arith))

    -- every listed attribute has an entry: the table is marked, and as long as it was
    pub mark-all : count ≤ i → TableIn (enter subset more (take old before)) items old
    mark-all all =
        let listed = listed-size subset e in
        let most = e.most in
        let size = length-take-le old items enough in
        let done = mark-end m (omega arith) in
        let few = sym (ap length done) ∙ size in
        let front = take_all 256 (enter subset more (take old before)) (omega arith) in
        record { count-is = sym (ap length front ∙ few); entries = done ∙ sym front }

-- ---- copying back

-- so many entries as there is room for
pub copy-room : (count n : ℕ) (items : List ℕ) → CopyFits count 0 items → n ≤ count → n ≤ 256 → 0 + (n - 0) ≤ length items
copy-room count zero items fits least most = omega arith
copy-room count (suc n) items fits least most = let last = fits n (omega arith) (omega arith) in omega arith

pub copied-table : {source before items : List ℕ} {count n k : ℕ} → count ≤ length source → CopyFits count 0 before → n ≡ min 256 count → Copying source 0 0 before items n k → TableIn (take count source) items k
copied-table {source} {before} {items} {count} {n} {k} inside fits is c =
    let next = c.next in
    let room = copy-room count n before fits (omega arith) (omega arith) in
    let size = length-take-le count source inside in
    let front = length-take 256 (take count source) in
    table-written (take count source) before items k (omega arith)
    (record {
      size = c.size;
      front = λ x less. c.copied x (omega arith) less ∙ rw (get_or-take count source x 0 (omega arith)) (ap (λ (p : ℕ). get_or source p 0) (place x));
      back = c.back;
    })
    (omega arith)
  where
    place : (x : ℕ) → 0 + (x - 0) ≡ x
    place x = omega arith

-- ---- the list merged with the marked table

pub still-enters : {list : List ℕ} {count : ℕ} {before : List ℕ} {old : ℕ} (items : List ℕ) → Enters list count before old → length items ≡ length before → Enters list count items old
still-enters items e same = record { few = e.few; fits = e.fits; most = e.most; enough = let enough = e.enough in omega arith }

-- what is merged fits in a slice as long as the table's
pub merged-fits : {list : List ℕ} {count : ℕ} {before entered spare : List ℕ} {old n room : ℕ} (subset : ℕ)
    → Enters list count before old → entered ≡ enter subset (tab count (λ x. word list (x * 2 + 1))) (take old before)
    → Merged entered spare n → room ≡ length before → CopyFits count old before → (n ≤ length spare) × ((k : ℕ) → k < 256 → k < 0 + n → k < room)
merged-fits {list} {count} {before} {entered} {spare} {old} {n} {room} subset e same merged size fits =
    let number = merged.number in
    let stands = ap length merged.stands in
    let cut = length-take n spare in
    let few = enter-few subset (tab count (λ x. word list (x * 2 + 1))) (take old before) in
    let all = ap length same in
    let listed = listed-size subset e in
    let earlier = earlier-size subset e in
    (omega arith, λ k small less. let inside = fits k small (omega arith) in omega arith)

pub merged-table : {entered marked spare items : List ℕ} {n k : ℕ} → entered ≡ marked → Merged entered spare n → TableIn (take n spare) items k → TableIn marked items k
merged-table same merged table = rw (← same, ← merged.stands) table
