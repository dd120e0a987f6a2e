-- How a list is entered: runs of earlier entries, and an entry for each listed attribute.
use Rattle.std.specs.Prelude.{ℕ, zero, suc, ◌+◌, ◌-◌, ◌*◌, ◌/◌, ◌≤◌, ◌<◌, ◌≡◌, refl, Bool, true, false, cond, List, [], ◌∷◌, ◌++◌, map, ◌⊎◌, length, get_or, set, take, drop}
use Rattle.std.proofs.Common.{sym, ap, ◌∙◌, inl, inr, ⊎_elim, add-one, arith, length-append, length-drop, drop_of_length-le, drop-cons, drop-drop, drop_at, length-take-le, get_or-take, get_or-drop, ext_get_or}
use Rattle.std.proofs.Math.Decide.{dec_lt}
use Rattle.std.specs.Int.Bits.{bit_or}
use Rattle.std.proofs.Math.ListN.{get_or-append}
use Rattle.bits.specs.Part.{at_head}
use Rattle.bits.specs.Word.{word}
use Rattle.bits.specs.Tab.{tab, length-tab, get_or-tab, map-tab}
use Rattle.bits.specs.Written.{Written, written_none, written-more}
use Rattle.membership.specs.Entries.{entry, attribute_of, enter, ListFits}
use Rattle.membership.specs.EnterLaws.{enter-none, enter-first, enter-lower, enter-higher, enter-equal}
use Rattle.entry_runs.specs.Runs.{Passed, Copying, Entered, copying-part, has_entry, has-entry, no-entry}

-- a list of bytes, and so many earlier entries that are merged with it
pub record Enters (list : List ℕ) (count : ℕ) (earlier : List ℕ) (old : ℕ) : Type 0 where
  pub few : count ≤ 255
  pub fits : ListFits count list
  pub most : old ≤ 256
  pub enough : old ≤ length earlier

-- so many entries stand at the front of the slice
pub record Merged (entries slice : List ℕ) (n : ℕ) : Type 0 where
  pub number : n ≡ length entries
  pub stands : take n slice ≡ entries

-- k entries are written, and what is left comes from place i of the list and place j of the earlier entries
pub record Merge (s : ℕ) (more es before items : List ℕ) (i j k : ℕ) : Type 0 where
  pub listed : i ≤ length more
  pub earlier : j ≤ length es
  pub reached : k ≤ length (enter s more es)
  pub fewer : k ≤ i + j
  pub written : Written (λ x. get_or (enter s more es) x 0) k before items
  pub rest : drop k (enter s more es) ≡ enter s (drop i more) (drop j es)

pub merge-first : (s : ℕ) (more es items : List ℕ) → Merge s more es items items 0 0 0
merge-first s more es items = record { listed = omega arith; earlier = omega arith; reached = omega arith; fewer = omega arith; written = written_none _ items; rest = refl }

-- ---- a run of earlier entries

-- an entry comes before the attributes of a list, which rise
abbrev Leads : ℕ → List ℕ → Type 0
Leads e [] = Unit {0}
Leads e (a ∷ more) = attribute_of e < a

enter-next : (s : ℕ) (more : List ℕ) (e : ℕ) (es : List ℕ) → Leads e more → enter s more (e ∷ es) ≡ e ∷ enter s more es
enter-next s [] e es h = rw (enter-none s (e ∷ es), enter-none s es)
enter-next s (a ∷ more) e es h = enter-higher s a more e es h

enter-run : (s d : ℕ) (more es : List ℕ) → d ≤ length es → ((x : ℕ) → x < d → Leads (get_or es x 0) more) → enter s more es ≡ take d es ++ enter s more (drop d es)
enter-run s zero more es h low = refl
enter-run s (suc d) more [] h low = absurd (omega arith)
enter-run s (suc d) more (e ∷ es) h low =
    enter-next s more e es (low 0 (omega arith))
    ∙ ap (λ (l : List ℕ). e ∷ l) (enter-run s d more es (omega arith) (λ x less. low (suc x) (omega arith)))

module _ {s : ℕ} {more es before items : List ℕ} {i j k : ℕ} (m : Merge s more es before items i j k) where
  -- what follows begins with a part, which is written
  merge-part :
      (part : List ℕ) {next : List ℕ} {i' j' k' : ℕ}
      → drop k (enter s more es) ≡ part ++ enter s (drop i' more) (drop j' es)
      → i' ≤ length more
      → j' ≤ length es
      → k' ≤ i' + j'
      → k' ≡ k + length part
      → length next ≡ length items
      → ((x : ℕ) → x < k → get_or next x 0 ≡ get_or items x 0)
      → ((x : ℕ) → k ≤ x → x < k' → get_or next x 0 ≡ get_or part (x - k) 0)
      → ((x : ℕ) → k' ≤ x → get_or next x 0 ≡ get_or items x 0)
      → Merge s more es before next i' j' k'
  merge-part part {next} {i'} {j'} {k'} whole listed earlier fewer k-is size front copied back =
      let left = length-drop k (enter s more es) in
      let both = ap length whole ∙ length-append part (enter s (drop i' more) (drop j' es)) in
      let reached = m.reached in
      record {
        listed = listed;
        earlier = earlier;
        reached = omega arith;
        fewer = fewer;
        written = record {
          size = size ∙ m.written.size;
          front = λ x h. go x h (dec_lt x k);
          back = λ x h. back x h ∙ m.written.back x (omega arith);
        };
        rest =
            ap (λ (p : ℕ). drop p (enter s more es)) k-is
            ∙ sym (drop-drop (length part) k (enter s more es))
            ∙ ap (drop (length part)) whole
            ∙ drop_at part (enter s (drop i' more) (drop j' es)) (length part) refl;
      }
    where
      go : (x : ℕ) → x < k' → Dec (x < k) → get_or next x 0 ≡ get_or (enter s more es) x 0
      go x h (yes less) = front x less ∙ m.written.front x less
      go x h (no past) =
          let at : k + (x - k) ≡ x = omega arith in
          copied x (omega arith) h
          ∙ sym (get_or-append part (enter s (drop i' more) (drop j' es)) 0 (x - k) (omega arith))
          ∙ ap (λ (l : List ℕ). get_or l (x - k) 0) (sym whole)
          ∙ get_or-drop k (enter s more es) (x - k) 0
          ∙ ap (λ (p : ℕ). get_or (enter s more es) p 0) at

  -- the entries from j on that come before the next listed attribute are copied
  merge-run : {next : List ℕ} {j' k' : ℕ} → j' ≤ length es → ((x : ℕ) → j ≤ x → x < j' → Leads (get_or es x 0) (drop i more)) → Copying es j k items next j' k' → Merge s more es before next i j' k'
  merge-run {next} {j'} {k'} inside low c =
      let begun = c.begun in
      let number = c.next in
      let fewer = m.fewer in
      let size = length-drop j es in
      let at : j + (j' - j) ≡ j' = omega arith in
      let part = length-take-le (j' - j) (drop j es) (omega arith) in
      merge-part (take (j' - j) (drop j es))
      (m.rest
      ∙ enter-run s (j' - j) (drop i more) (drop j es) (omega arith) (λ x less. rw (get_or-drop j es x 0) (low (j + x) (omega arith) (omega arith)))
      ∙ ap (λ (l : List ℕ). take (j' - j) (drop j es) ++ enter s (drop i more) l) (drop-drop (j' - j) j es ∙ ap (λ (p : ℕ). drop p es) at))
      m.listed inside (omega arith) (omega arith) c.size c.front
      (λ x above under. c.copied x above under ∙ sym (get_or-take (j' - j) (drop j es) (x - k) 0 (omega arith) ∙ get_or-drop j es (x - k) 0))
      c.back

  -- after the last earlier entry, or the last listed attribute, the rest of the list is entered
  merge-listed : {next : List ℕ} {k' : ℕ} → (length more ≤ i) ⊎ (length es ≤ j) → Copying (map (λ a. entry a s) more) i k items next (length more) k' → Merge s more es before next (length more) j k'
  merge-listed {next} {k'} past c =
      let begun = c.begun in
      let number = c.next in
      let fewer = m.fewer in
      let size = length-drop i (map (λ a. entry a s) more) in
      let same = length-map more in
      merge-part (drop i (map (λ a. entry a s) more))
      (m.rest ∙ left past)
      (omega arith) m.earlier (omega arith) (omega arith) c.size c.front
      (λ x above under. c.copied x above under ∙ sym (get_or-drop i (map (λ a. entry a s) more) (x - k) 0))
      c.back
    where
      length-map : (l : List ℕ) → length (map (λ a. entry a s) l) ≡ length l
      length-map [] = refl
      length-map (a ∷ l) = ap suc (length-map l)

      append : (l : List ℕ) → enter s l [] ≡ map (λ a. entry a s) l ++ enter s [] []
      append [] = refl
      append (a ∷ l) = enter-first s a l ∙ ap (λ (r : List ℕ). entry a s ∷ r) (append l)

      drop-map : (n : ℕ) (l : List ℕ) → drop n (map (λ a. entry a s) l) ≡ map (λ a. entry a s) (drop n l)
      drop-map zero l = refl
      drop-map (suc n) [] = refl
      drop-map (suc n) (a ∷ l) = drop-map n l

      left : (length more ≤ i) ⊎ (length es ≤ j) → enter s (drop i more) (drop j es) ≡ drop i (map (λ a. entry a s) more) ++ enter s (drop (length more) more) (drop j es)
      left (inl all) =
          let most = m.listed in
          let is : i ≡ length more = omega arith in
          rw (drop-map i more, is, drop_of_length-le more {i = length more} (omega arith))
      left (inr none) =
          rw (drop-map i more, drop_of_length-le es {i = j} none, drop_of_length-le more {i = length more} (omega arith)) (append (drop i more))

  merge-written :
      (new : List ℕ) (n : ℕ) {next : List ℕ} {k' : ℕ}
      → new ≡ map (λ a. entry a s) more
      → n ≡ length more
      → (length more ≤ i) ⊎ (length es ≤ j)
      → Copying new i k items next n k'
      → Merge s more es before next n j k'
  merge-written new n New-is n-is past c = rw n-is (merge-listed past (rw (New-is, n-is) at c))

  -- those below the next listed attribute
  merge-lower : {next : List ℕ} {j' k' : ℕ} → i < length more → j' ≤ length es → ((x : ℕ) → j ≤ x → x < j' → get_or es x 0 < get_or more i 0 * 256) → Copying es j k items next j' k' → Merge s more es before next i j' k'
  merge-lower hi inside low c =
      merge-run inside (λ x above under. rw (drop-cons more i 0 hi) (let less = low x above under in omega arith)) c

  -- all of them, after the last listed attribute
  merge-rest : {next : List ℕ} {k' : ℕ} → length more ≤ i → Copying es j k items next (length es) k' → Merge s more es before next i (length es) k'
  merge-rest past c = merge-run (omega arith) (λ x above under. rw (drop_of_length-le more past) tt) c

  -- ---- one entry

  -- it is what follows begins with
  one_more :
      (v i' j' : ℕ)
      → k < length before
      → i' ≤ length more
      → j' ≤ length es
      → i + j < i' + j'
      → enter s (drop i more) (drop j es) ≡ v ∷ enter s (drop i' more) (drop j' es)
      → Merge s more es before (set items k v) i' j' (k + 1)
  one_more v i' j' room hi hj on first =
      let here = at_head (enter s more es) k 0 _ _ (m.rest ∙ first) in
      let size = m.written.size in
      let fewer = m.fewer in
      record {
        listed = hi;
        earlier = hj;
        reached = let l = here.below in omega arith;
        fewer = omega arith;
        written = written-more _ k before items v (omega arith) m.written (sym here.here);
        rest = rw (add-one k) here.rest;
      }

  module _ (room : k < length before) (hi : i < length more) where
    -- of the next listed attribute, where the next earlier entry has a higher one
    merge-new : (j < length es → get_or more i 0 < attribute_of (get_or es j 0)) → Merge s more es before (set items k (entry (get_or more i 0) s)) (i + 1) j (k + 1)
    merge-new above = let hj = m.earlier in one_more _ (i + 1) j room (omega arith) hj (omega arith) (go (dec_lt j (length es)))
      where
        go : Dec (j < length es) → enter s (drop i more) (drop j es) ≡ entry (get_or more i 0) s ∷ enter s (drop (i + 1) more) (drop j es)
        go (yes hj) = rw (add-one i, drop-cons more i 0 hi, drop-cons es j 0 hj) (enter-lower s (get_or more i 0) (drop (suc i) more) (get_or es j 0) (drop (suc j) es) (above hj))
        go (no past) = rw (add-one i, drop-cons more i 0 hi, drop_of_length-le es {i = j} (omega arith)) (enter-first s (get_or more i 0) (drop (suc i) more))

    -- and where it has the same
    merge_equal : j < length es → get_or more i 0 ≡ attribute_of (get_or es j 0) → Merge s more es before (set items k (bit_or (get_or es j 0) s)) (i + 1) (j + 1) (k + 1)
    merge_equal hj same =
        one_more _ (i + 1) (j + 1) room (omega arith) (omega arith) (omega arith)
        (rw (add-one i, add-one j, drop-cons more i 0 hi, drop-cons es j 0 hj)
        (enter-equal s (get_or more i 0) (drop (suc i) more) (get_or es j 0) (drop (suc j) es) same))

  -- both are used up: all entries are written
  merge-end : length more ≤ i → length es ≤ j → k ≤ length before → Merged (enter s more es) items k
  merge-end hi hj room =
      let empty : drop k (enter s more es) ≡ [] = m.rest ∙ rw (drop_of_length-le more {i = i} hi, drop_of_length-le es {i = j} hj, enter-none s []) in
      let left = length-drop k (enter s more es) in
      let none = ap length empty in
      let reached = m.reached in
      let same = m.written.size in
      let number : k ≡ length (enter s more es) = omega arith in
      let front = length-take-le k items (omega arith) in
      record {
        number = number;
        stands = ext_get_or 0 (take k items) (enter s more es) (front ∙ number) (λ x h. let below : x < k = omega arith in get_or-take k items x 0 below ∙ m.written.front x below);
      }

-- ---- over a list of bytes and a slice of earlier entries

module _ {list : List ℕ} {count : ℕ} {earlier : List ℕ} {old : ℕ} (subset : ℕ) (e : Enters list count earlier old) where
  -- the attributes of the list, two bytes each after its count byte, and the earlier entries
  abbrev pub more : List ℕ
  more = tab count (λ x. word list (x * 2 + 1))

  -- the earlier entries
  abbrev pub es : List ℕ
  es = take old earlier

  pub listed-size : length more ≡ count
  listed-size = length-tab count (λ x. word list (x * 2 + 1))

  pub earlier-size : length es ≡ old
  earlier-size = length-take-le old earlier e.enough

  module _ {slice items : List ℕ} {i j k : ℕ} (m : Merge subset more es slice items i j k) where
    pub bounds : (i ≤ count) × (j ≤ old) × (k ≤ i + j) × (length items ≡ length slice)
    bounds =
        let i-most = m.listed in
        let j-most = m.earlier in
        let listed = listed-size in
        let earlier = earlier-size in
        (omega arith, omega arith, m.fewer, m.written.size)

    merge-copied : {a place k' : ℕ} {next : List ℕ} → i < count → a ≡ word list (i * 2 + 1) → Passed earlier j old (a * 256) place → Copying earlier j k items next place k' → Merge subset more es slice next i place k'
    merge-copied {a} {place} hi is p c =
        let s = listed-size in
        let t = earlier-size in
        let up_to = p.lower.up_to in
        let here : get_or more i 0 ≡ a = get_or-tab count (λ x. word list (x * 2 + 1)) i 0 hi ∙ sym is in
        merge-lower m (omega arith) (omega arith)
        (λ x above under. rw (here, get_or-take old earlier x 0 (omega arith)) (p.lower.below x above under))
        (copying-part old up_to c)

    merge-one :
        {a r : ℕ} {next : List ℕ}
        → i < count
        → a ≡ word list (i * 2 + 1)
        → (j < old → a * 256 ≤ get_or earlier j 0)
        → k < length slice
        → r ≡ cond (has_entry earlier j old a) (j + 1) j
        → next ≡ set items k (cond (has_entry earlier j old a) (bit_or (get_or earlier j 0) subset) (entry a subset))
        → Merge subset more es slice next (i + 1) r (k + 1)
    merge-one {a} hi is stop room r-is next-is = rw (r-is, next-is) (go (has_entry earlier j old a) refl)
      where
        here : get_or more i 0 ≡ a
        here = get_or-tab count (λ x. word list (x * 2 + 1)) i 0 hi ∙ sym is

        i-in : i < length more
        i-in = let s = listed-size in omega arith

        go : (t : Bool) → has_entry earlier j old a ≡ t → Merge subset more es slice (set items k (cond t (bit_or (get_or earlier j 0) subset) (entry a subset))) (i + 1) (cond t (j + 1) j) (k + 1)
        go true h =
            let has = has-entry earlier j old a h in
            let size = earlier-size in
            let at = get_or-take old earlier j 0 has.0 in
            rw (← at) (merge_equal m room i-in (omega arith) (here ∙ sym has.1 ∙ rw at))
        go false h =
            let size = earlier-size in
            rw (← here)
            (merge-new m room i-in
            (λ inside. let hj : j < old = omega arith in let least = stop hj in let other = no-entry earlier j old a h hj in rw
            (here, get_or-take old earlier j 0 hj) (above a (get_or earlier j 0) least other)))
          where
            above : (a v : ℕ) → a * 256 ≤ v → (v / 256 ≡ a → ⊥) → a < v / 256
            above a v least other = omega arith

  -- one listed attribute
  module _ {slice items : List ℕ} {i j k : ℕ} (m : Merge subset more es slice items i j k) where
    pub merge-entered :
        {a copied entered : ℕ} {next : List ℕ}
        → count + old ≤ length slice
        → i < count
        → a ≡ word list (i * 2 + 1)
        → Entered a subset earlier j old k items next copied entered
        → Merge subset more es slice next (i + 1) copied entered
    merge-entered room hi is r =
        let b = bounds m in
        let fewer = b.2 in
        let up_to = r.passed.lower.up_to in
        let begun = r.passed.lower.begun in
        let number = r.run.next in
        rw r.entered-is (merge-one (merge-copied m hi is r.passed r.run) hi is r.passed.stop (omega arith) r.copied_is r.items-is)

    pub merge-appended : {next : List ℕ} {k' : ℕ} → (count ≤ i) ⊎ (old ≤ j) → Copying (tab count (λ x. entry (word list (x * 2 + 1)) subset)) i k items next count k' → Merge subset more es slice next count j k'
    merge-appended past c =
        let s = listed-size in
        let t = earlier-size in
        merge-written m (tab count (λ x. entry (word list (x * 2 + 1)) subset)) count (sym (map-tab (λ (a : ℕ). entry a subset) count (λ x. word list (x * 2 + 1)))) (sym s)
        (⊎_elim (λ all. inl (omega arith)) (λ none. inr (omega arith)) past) c

    pub merge-all : {n : ℕ} {next : List ℕ} → count ≤ i → count + old ≤ length slice → Copying earlier j k items next old n → Merged (enter subset more es) next n
    merge-all {n} {next} past room c =
        let s = listed-size in
        let t = earlier-size in
        let b = bounds m in
        let i-most = b.0 in
        let j-most = b.1 in
        let fewer = b.2 in
        let number = c.next in
        merge-end (merge-rest m (omega arith) (rw t (copying-part old (omega arith) c))) (omega arith) (omega arith) (omega arith)
