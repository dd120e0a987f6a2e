-- One record more: the records, their maps and their entries.
use Prim.Native.Nat.{ℕ, suc, ◌+◌, ◌^◌, ◌<◌}
use mathlib.Core.Path.{◌≡◌, sym, ap, ◌∙◌}
use mathlib.Core.List.{List, [], ◌∷◌, ◌++◌}
use native.Mathlib.Nat.{add-zero, zero-add}
use native.Mathlib.Omega.{arith}
use lib.ListN.{length, get_or, set, length-set, length-append, get_or-append, get_or-eq_default}
use lib.Seq.{get_or-set_same, get_or-set_other, get_or-append_seam}
use Rattle.bits.specs.Tab.{length-tab, get_or-tab, tab-is}
use Rattle.type_record.specs.Record.{TypeRecord}
use Rattle.type_record.specs.RecordBytes.{IsRecord}
use Rattle.membership.specs.Entries.{enter}
use Rattle.membership.specs.EnterLaws.{Order, lower, higher, equal, order}
use Rattle.schema.specs.Schema.{no_record, entries_from, entries_of, maps_of}
use Rattle.schema.specs.RecordsLaws.{AllRecords}

module _ (t : TypeRecord) where
  pub all_more : (ts : List TypeRecord) → AllRecords ts → IsRecord t → AllRecords (ts ++ (t ∷ []))
  all_more [] all is = (is, tt)
  all_more (u ∷ ts) all is = (all.0, all_more ts all.1 is)

  from_more : (r : ℕ) (ts : List TypeRecord) (es : List ℕ) → entries_from r (ts ++ (t ∷ [])) es ≡ enter (2 ^ (r + length ts)) t.ordinary (entries_from r ts es)
  from_more r [] es = rw (add-zero r)
  from_more r (u ∷ ts) es =
      let next : r + suc (length ts) ≡ r + 1 + length ts = omega arith in
      rw next (from_more (r + 1) ts (enter (2 ^ r) u.ordinary es))

  pub entries-more : (ts : List TypeRecord) → entries_of (ts ++ (t ∷ [])) ≡ enter (2 ^ length ts) t.ordinary (entries_of ts)
  unfolding entries_of
  entries-more ts = rw (zero-add (length ts)) at (from_more 0 ts [])

  pub maps-more : (ts : List TypeRecord) → length ts < 8 → set (maps_of ts) (length ts) t.map ≡ maps_of (ts ++ (t ∷ []))
  unfolding maps_of
  maps-more ts fits =
      let size = length-tab 8 (λ r. (get_or ts r no_record).map) in
      tab-is 8 (λ r. (get_or (ts ++ (t ∷ [])) r no_record).map) 0 (set (maps_of ts) (length ts) t.map)
      (length-set (maps_of ts) (length ts) t.map ∙ size) (λ i h. each i h (order i (length ts)))
    where
      other : (i : ℕ) → i < 8 → (i ≡ length ts → ⊥) → get_or ts i no_record ≡ get_or (ts ++ (t ∷ [])) i no_record →
          get_or (set (maps_of ts) (length ts) t.map) i 0 ≡ (get_or (ts ++ (t ∷ [])) i no_record).map
      other i h apart same = get_or-set_other (maps_of ts) (length ts) i t.map 0 apart ∙ get_or-tab 8 (λ r. (get_or ts r no_record).map) i 0 h
          ∙ ap (λ (u : TypeRecord). u.map) same

      each : (i : ℕ) → i < 8 → Order i (length ts) → get_or (set (maps_of ts) (length ts) t.map) i 0 ≡ (get_or (ts ++ (t ∷ [])) i no_record).map
      each i h (lower l) = other i h (λ e. omega arith) (sym (get_or-append ts (t ∷ []) no_record i l))
      each i h (equal l) =
          let size = length-tab 8 (λ r. (get_or ts r no_record).map) in
          rw l (get_or-set_same (maps_of ts) (length ts) t.map 0 (omega arith) ∙ sym (ap (λ (u : TypeRecord). u.map) (get_or-append_seam ts t [] no_record)))
      each i h (higher l) =
          let whole = length-append ts (t ∷ []) in
          other i h (λ e. omega arith) (get_or-eq_default ts no_record {n = i} (omega arith)
          ∙ sym (get_or-eq_default (ts ++ (t ∷ [])) no_record {n = i} (omega arith)))
