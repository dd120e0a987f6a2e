-- What Record returns: the part of the file at its place, empty only where one of 1 to 11 applies.
use Rattle.std.specs.Prelude.{ℕ, ◌+◌, ◌-◌, ◌≤◌, ◌<◌, ◌≡◌, refl, List, [], ◌++◌, length, get_or, take, drop, Result, Err, Ok}
use Rattle.std.proofs.Common.{sym, ap, ◌∙◌, arith, length-append, length-drop, length-take-le}
use Rattle.refusal.specs.declared.Refusal.{Refusal}
use Rattle.refusal.specs.Number.{number_of}
use Rattle.node.specs.ReadNode.{size_of}
use Rattle.expression_file.specs.ReadFile.{placed_at, size_at, start_at, Accepted}
use Rattle.admission.specs.Admission.{asked}
use Rattle.admission.specs.AdmissionLaws.{asked-passed, asked-number}
use Rattle.record.specs.declared.Place.{Place}
use Rattle.record.specs.Record.{place_of, record_of}
use Rattle.expression_file.specs.Exchanged.{exchanged, exchanged-parts}
use Rattle.expression_file.specs.Walk.{Walk, walk_first, walk-next, Decoded, walk-decoded, step-at}
use Rattle.expression_file.specs.declared.files.Header.{Header}

module _ (file : List ℕ) (k : ℕ) where
  pub record-refused : (r : Refusal) → asked file k ≡ Err r → (record_of file k ≡ []) × (place_of file k ≡ record { start = 0; len = 0 })
  unfolding record_of place_of
  record-refused r e = rw e (refl, refl)

  pub record-found : (m n : ℕ) → asked file k ≡ Accepted m n → (record_of file k ≡ (placed_at file k).bytes) × (place_of file k ≡ record { start = start_at file k; len = size_at file k })
  unfolding record_of place_of
  record-found m n e = rw e (refl, refl)

-- the part lies in the file
pub place-fits : (file : List ℕ) (k : ℕ) → (place_of file k).start + (place_of file k).len ≤ length file
place-fits file k = go (asked file k) refl
  where
    go : (a : Result Header Refusal) → asked file k ≡ a → (place_of file k).start + (place_of file k).len ≤ length file
    go (Err r) e = rw (record-refused file k r e).1 (omega arith)
    go (Ok h) e =
        let found = asked-passed file k e in
        rw (record-found file k h.relations h.nodes e).1 (step-at file h.relations h.nodes found.0 k found.1).next.inside

-- the bytes of the part
pub record-part : (file : List ℕ) (k : ℕ) → record_of file k ≡ take (place_of file k).len (drop (place_of file k).start file)
record-part file k = go (asked file k) refl
  where
    go : (a : Result Header Refusal) → asked file k ≡ a → record_of file k ≡ take (place_of file k).len (drop (place_of file k).start file)
    go (Err r) e = let refused = record-refused file k r e in rw (refused.0, refused.1)
    go (Ok h) e =
        let found = asked-passed file k e in
        let is = record-found file k h.relations h.nodes e in
        rw (is.0, is.1) (step-at file h.relations h.nodes found.0 k found.1).part

-- the part has at most 5 bytes, as every node
pub record-most : (file : List ℕ) (k : ℕ) → length (record_of file k) ≤ 5
record-most file k = go (asked file k) refl
  where
    go : (a : Result Header Refusal) → asked file k ≡ a → length (record_of file k) ≤ 5
    go (Err r) e = rw (record-refused file k r e).0 (omega arith)
    go (Ok h) e =
        let found = asked-passed file k e in
        rw (record-found file k h.relations h.nodes e).0 (step-at file h.relations h.nodes found.0 k found.1).most

-- FORMAT 7.5: the part is empty only where one of 1 to 11 applies; that it then is, is `record-refused`
pub record-empty : (file : List ℕ) (k : ℕ) → record_of file k ≡ [] → (r : Refusal) × (asked file k ≡ Err r) × (number_of r ≤ 11)
record-empty file k empty = go (asked file k) refl
  where
    go : (a : Result Header Refusal) → asked file k ≡ a → (r : Refusal) × (asked file k ≡ Err r) × (number_of r ≤ 11)
    go (Err r) e = (r, e, asked-number file k e)
    go (Ok h) e =
        let found = asked-passed file k e in
        let bytes : (placed_at file k).bytes ≡ [] = sym (record-found file k h.relations h.nodes e).0 ∙ empty in
        let none = ap length bytes in
        let some = (step-at file h.relations h.nodes found.0 k found.1).least in
        absurd (omega arith)

-- ---- the search for a node

-- the walk to node `node` stands before node k, at byte `at`
pub record Seeking (file : List ℕ) (node k at : ℕ) : Type 0 where
  pub m : ℕ
  pub n : ℕ
  pub found : asked file node ≡ Accepted m n
  pub before : k ≤ node
  pub walk : Walk file m n k at

pub seek-first : (file : List ℕ) (node m n : ℕ) → asked file node ≡ Accepted m n → Seeking file node 0 2
seek-first file node m n e =
    record {
      m = m;
      n = n;
      found = e;
      before = omega arith;
      walk = walk_first file m n (asked-passed file node e).0;
    }

module _ (file : List ℕ) (node k at : ℕ) (s : Seeking file node k at) where
  -- a node stands there
  pub seek-here : Decoded file k at
  seek-here =
      let below = (asked-passed file node s.found).1 in
      let before = s.before in
      walk-decoded file s.m s.n k at s.walk (omega arith)

  pub seek-next : k < node → Seeking file node (k + 1) (at + size_of (get_or file at 0))
  seek-next h =
      let below = (asked-passed file node s.found).1 in
      record {
        m = s.m;
        n = s.n;
        found = s.found;
        before = omega arith;
        walk = rw seek-here.size_is (walk-next file s.m s.n k at s.walk (omega arith)).next;
      }

  -- the place of the node
  pub seek_found : node ≤ k → record { start = at; len = size_of (get_or file at 0) } ≡ place_of file node
  seek_found h =
      let before = s.before in
      let here : k ≡ node = omega arith in
      rw (seek-here.size_is, s.walk.place, here) (sym (record-found file node s.m s.n s.found).1)

pub record-length : (file : List ℕ) (k : ℕ) → length (record_of file k) ≡ (place_of file k).len
record-length file k =
    let fits = place-fits file k in
    let l = length-drop (place_of file k).start file in
    ap length (record-part file k) ∙ length-take-le (place_of file k).len (drop (place_of file k).start file) (omega arith)

-- ---- the edited file (FORMAT 1.8), by the place of the node

pub record ExchangedAt (file : List ℕ) (k : ℕ) (replacement : List ℕ) (place : Place) : Type 0 where
  pub fits : place.start + place.len ≤ length file
  pub parts : exchanged file k replacement ≡ take place.start file ++ (replacement ++ drop (place.start + place.len) file)
  pub size : length (exchanged file k replacement) ≡ place.start + (length replacement + (length file - (place.start + place.len)))

pub exchanged-at : (file : List ℕ) (k : ℕ) (replacement : List ℕ) (place : Place) → Seeking file k 0 2 → place ≡ place_of file k → ExchangedAt file k replacement place
exchanged-at file k replacement place s is =
    let found : place ≡ record { start = start_at file k; len = size_at file k } = is ∙ (record-found file k s.m s.n s.found).1 in
    let fits = rw (← is) at (place-fits file k) in
    let parts : exchanged file k replacement ≡ take place.start file ++ (replacement ++ drop (place.start + place.len) file) = rw found (exchanged-parts file k replacement) in
    let before = length-take-le place.start file (omega arith) in
    let after = length-drop (place.start + place.len) file in
    let front = length-append (take place.start file) (replacement ++ drop (place.start + place.len) file) in
    let back = length-append replacement (drop (place.start + place.len) file) in
    record { fits = fits; parts = parts; size = ap length parts ∙ omega arith }
