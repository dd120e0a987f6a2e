-- Laws of the table of a schema's records: the order and the bounds of its entries, who holds an attribute, and the
-- records that it was made of.
use Rattle.std.specs.Prelude.{ℕ, zero, suc, ◌+◌, ◌-◌, ◌^◌, ◌≤◌, ◌<◌, ◌≡◌, refl, Bool, ◌&&◌, ◌||◌, List, [], ◌∷◌, leb, eqb, length, get_or, replicate}
use Rattle.std.proofs.Common.{sym, ap, ap₂, ◌∙◌, arith, le-leb, eq-eqb, ne_eqb}
use Rattle.std.proofs.Math.Bool.{and-true, and-false, or-false}
use Rattle.std.proofs.Math.Nat.{sub-zero}
use Rattle.std.proofs.lemmas.Bool.{lt-leb}
use Rattle.std.proofs.Math.Pow.{pow-lt}
use Rattle.bits.specs.Bit.{bit, bit-none, bit-power}
use Rattle.bits.specs.Rising.{member, rising-once}
use Rattle.bits.specs.Tab.{tab, tab-none, tab-next, tab-same, length-tab, get_or-tab, tab-is}
use Rattle.type_record.specs.Record.{TypeRecord}
use Rattle.type_record.specs.RecordBytes.{IsRecord}
use Rattle.membership.specs.Entries.{holders_in, enter}
use Rattle.membership.specs.EnterLaws.{RisingEntries, Order, lower, higher, equal, order, enter-rising, enter-holders}
use Rattle.membership.specs.TableLaws.{Below, enter-below, all-below}
use Rattle.membership.specs.Holders.{held_by}
use Rattle.membership.specs.HolderLaws.{held-member, held-rising}
use Rattle.schema.specs.Schema.{no_record, entries_from, entries_of, maps_of, records_of}
use Rattle.schema.specs.RecordsLaws.{AllRecords}

-- one relation alone is a subset of eight
pub single-below : (r : ℕ) → r < 8 → 2 ^ r < 256
single-below r h = pow-lt {i = r} {j = 8} h

-- ---- in general

has-from :
    (P : List ℕ → Type 0) (m r : ℕ) (ts : List TypeRecord) (es : List ℕ)
    → r + length ts ≤ m
    → ((q : ℕ) (t : TypeRecord) (fs : List ℕ) → q < m → P fs → P (enter (2 ^ q) t.ordinary fs))
    → P es
    → P (entries_from r ts es)
has-from P m r [] es fits each h = h
has-from P m r (t ∷ ts) es fits each h = has-from P m (r + 1) ts (enter (2 ^ r) t.ordinary es) (omega arith) each (each r t es (omega arith) h)

-- what no entries have, and entering one relation's list keeps, the entries of m relations have
pub entries-has : (P : List ℕ → Type 0) (m : ℕ) (ts : List TypeRecord) → length ts ≤ m → P [] → ((r : ℕ) (t : TypeRecord) (es : List ℕ) → r < m → P es → P (enter (2 ^ r) t.ordinary es)) → P (entries_of ts)
unfolding entries_of
entries-has P m ts fits none each = has-from P m 0 ts [] (omega arith) each none

-- ---- order

rising-from : (r : ℕ) (ts : List TypeRecord) (es : List ℕ) → r + length ts ≤ 8 → AllRecords ts → RisingEntries 15 es → RisingEntries 15 (entries_from r ts es)
rising-from r [] es fits all rising = rising
rising-from r (t ∷ ts) es fits all rising =
    rising-from (r + 1) ts (enter (2 ^ r) t.ordinary es) (omega arith) all.1
    (enter-rising (2 ^ r) 15 t.ordinary es (single-below r (omega arith)) all.0.rising rising)

pub entries-rising : (ts : List TypeRecord) → length ts ≤ 8 → AllRecords ts → RisingEntries 15 (entries_of ts)
unfolding entries_of
entries-rising ts fits all = rising-from 0 ts [] (omega arith) all tt

-- ---- bounds

below-from : (r : ℕ) (ts : List TypeRecord) (es : List ℕ) → r + length ts ≤ 8 → AllRecords ts → Below 16777216 es → Below 16777216 (entries_from r ts es)
below-from r [] es fits all below = below
below-from r (t ∷ ts) es fits all below =
    below-from (r + 1) ts (enter (2 ^ r) t.ordinary es) (omega arith) all.1
    (enter-below (2 ^ r) t.ordinary es (single-below r (omega arith)) (all-below 65536 t.ordinary all.0.below) below)

pub entries_below : (ts : List TypeRecord) → length ts ≤ 8 → AllRecords ts → Below 16777216 (entries_of ts)
unfolding entries_of
entries_below ts fits all = below-from 0 ts [] (omega arith) all tt

-- ---- who holds an attribute

-- relations from r on hold what their records list, besides those that held it before
holders-from :
    (r : ℕ) (ts : List TypeRecord) (es : List ℕ)
    → r + length ts ≤ 8
    → AllRecords ts
    → RisingEntries 15 es
    → (a q : ℕ)
    → q < 8
    → bit (holders_in (entries_from r ts es) a) q ≡ leb r q && member a (get_or ts (q - r) no_record).ordinary || bit (holders_in es a) q
holders-from r [] es fits all rising a q hq = sym (ap (λ (t : Bool). t || bit (holders_in es a) q) (and-false (leb r q)))
holders-from r (t ∷ ts) es fits all rising a q hq =
    holders-from (r + 1) ts (enter (2 ^ r) t.ordinary es) (omega arith) all.1 (enter-rising (2 ^ r) 15 t.ordinary es small all.0.rising rising) a q hq
    ∙ ap (λ (b : Bool). leb (r + 1) q && member a (get_or ts (q - (r + 1)) no_record).ordinary || b)
    (enter-holders (2 ^ r) 15 t.ordinary es small all.0.rising rising a q hq ∙ ap (λ (b : Bool). member a t.ordinary && b || bit (holders_in es a) q) (bit-power r q))
    ∙ go (order q r)
  where
    small : 2 ^ r < 256
    small = single-below r (omega arith)

    go :
        Order q r
        → leb (r + 1) q && member a (get_or ts (q - (r + 1)) no_record).ordinary ||
        (member a t.ordinary && eqb r q || bit (holders_in es a) q)
        ≡ leb r q && member a (get_or (t ∷ ts) (q - r) no_record).ordinary || bit (holders_in es a) q
    go (lower l) = rw (lt-leb (r + 1) q (omega arith), lt-leb r q l, ne_eqb r q (λ e. omega arith), and-false (member a t.ordinary))
    go (equal l) =
        let none : q - r ≡ 0 = omega arith in
        rw (lt-leb (r + 1) q (omega arith), le-leb r q (omega arith), eq-eqb r q (sym l), none, and-true (member a t.ordinary))
    go (higher l) =
        let more : q - r ≡ suc (q - (r + 1)) = omega arith in
        rw (le-leb (r + 1) q (omega arith), le-leb r q (omega arith), ne_eqb r q (λ e. omega arith), more, and-false (member a t.ordinary))

-- relation r is one of a's holders exactly if its record lists a
pub entries-holders : (ts : List TypeRecord) → length ts ≤ 8 → AllRecords ts → (a r : ℕ) → r < 8 → bit (holders_in (entries_of ts) a) r ≡ member a (get_or ts r no_record).ordinary
unfolding entries_of
entries-holders ts fits all a r h =
    holders-from 0 ts [] (omega arith) all tt a r h
    ∙ rw (le-leb 0 r (omega arith), sub-zero r, bit-none r) (or-false (member a (get_or ts r no_record).ordinary))

-- ---- the records that a table says

pub records-size : (m : ℕ) (special entries : List ℕ) → length (records_of m special entries) ≡ m
unfolding records_of
records-size m special entries = length-tab m (λ r. record { map = get_or special r 0; ordinary = held_by r entries })

pub record_of_lem : (m : ℕ) (special entries : List ℕ) (r : ℕ) → r < m → get_or (records_of m special entries) r no_record ≡ record { map = get_or special r 0; ordinary = held_by r entries }
unfolding records_of
record_of_lem m special entries r h = get_or-tab m (λ r. record { map = get_or special r 0; ordinary = held_by r entries }) r no_record h

all-tab : (n : ℕ) (f : ℕ → TypeRecord) → ((i : ℕ) → i < n → IsRecord (f i)) → AllRecords (tab n f)
all-tab zero f h = rw (tab-none f) tt
all-tab (suc n) f h = rw (tab-next n f) (h 0 (omega arith), all-tab n (λ i. f (suc i)) (λ i less. h (suc i) (omega arith)))

pub records-all : (m : ℕ) (special entries : List ℕ) → ((r : ℕ) → r < m → IsRecord (record { map = get_or special r 0; ordinary = held_by r entries })) → AllRecords (records_of m special entries)
unfolding records_of
records-all m special entries each = all-tab m (λ r. record { map = get_or special r 0; ordinary = held_by r entries }) each

-- ---- the records that a table was made of

-- no records have empty maps
pub maps_none : maps_of [] ≡ replicate 8 0
unfolding maps_of
maps_none = tab-same 8 0

pub all-at : (ts : List TypeRecord) → AllRecords ts → (r : ℕ) → r < length ts → IsRecord (get_or ts r no_record)
all-at [] all r h = absurd (omega arith)
all-at (t ∷ ts) all zero h = all.0
all-at (t ∷ ts) all (suc r) h = all-at ts all.1 r (omega arith)

pub table-records : (ts : List TypeRecord) → length ts ≤ 8 → AllRecords ts → records_of (length ts) (maps_of ts) (entries_of ts) ≡ ts
unfolding records_of maps_of
table-records ts fits all = sym (tab-is (length ts) (λ r. record { map = get_or (maps_of ts) r 0; ordinary = held_by r (entries_of ts) }) no_record ts refl each)
  where
    rising : RisingEntries 15 (entries_of ts)
    rising = entries-rising ts fits all

    each : (r : ℕ) → r < length ts → get_or ts r no_record ≡ record { map = get_or (maps_of ts) r 0; ordinary = held_by r (entries_of ts) }
    each r h =
        let inside : r < 8 = omega arith in
        ap₂ (λ (map : ℕ) (ordinary : List ℕ). record { map = map; ordinary = ordinary })
        (sym (get_or-tab 8 (λ r. (get_or ts r no_record).map) r 0 inside))
        (rising-once 15 (get_or ts r no_record).ordinary (held_by r (entries_of ts)) (all-at ts all r h).rising (held-rising 15 r (entries_of ts) rising)
        (λ a. sym (held-member 15 r (entries_of ts) inside rising a ∙ entries-holders ts fits all a r inside)))
