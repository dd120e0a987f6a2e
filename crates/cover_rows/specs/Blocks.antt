-- One subset more, in blocks of sixteen needs: the needs of a block have the same relations from 4 on.
use Rattle.std.specs.Prelude.{ℕ, ◌+◌, ◌-◌, ◌*◌, ◌/◌, ◌%◌, ◌^◌, ◌≤◌, ◌<◌, min, ◌≡◌, refl, List, ◌⊎◌, length, get_or, set}
use Rattle.std.proofs.Common.{sym, ap, ap₂, ◌∙◌, inl, inr, eq-or-lt_of_le, arith, length-set, get_or-set_same, get_or-set_other}
use Rattle.std.proofs.Math.Decide.{dec_le}
use Rattle.std.specs.Int.Bits.{bit_and}
use Rattle.std.proofs.lemmas.Nat.{and_block, and_mask, and_le_l}
use Rattle.bits.specs.Written.{Written}
use Rattle.set_cover.specs.Remainder.{rest, rest-and}

-- ---- a subset in two parts

-- what remains of a need without the relations from 4 on of a subset: `high` is the subset divided by 16
unfoldable pub without_high : ℕ → ℕ → ℕ
without_high need high = bit_and (need / 16) (15 - high) * 16 + need % 16

pub high-least : (need high : ℕ) → without_high need high ≤ need
unfolding without_high
high-least need high = let a = and_le_l (need / 16) (15 - high) in omega arith

-- without relations of the first four alone the others stay: a need is sixteen times the others and these
pub rest-low : (others need low : ℕ) → others < 16 → need < 16 → low < 16 → rest (others * 16 + need) low ≡ others * 16 + bit_and need (15 - low)
rest-low others need low ho hn hl =
    let whole : 255 - low ≡ 15 * 2 ^ 4 + (15 - low) = omega arith in
    let all : bit_and others 15 ≡ others = and_mask others 4 ∙ omega arith in
    rest-and (others * 16 + need) low
    ∙ ap (bit_and (others * 16 + need)) whole
    ∙ and_block 4 others 15 need (15 - low) (omega arith) (omega arith)
    ∙ ap (λ (x : ℕ). x * 16 + bit_and need (15 - low)) all

-- without the one part and then without the other is without the subset
pub both-parts : (need s : ℕ) → need < 256 → s < 256 → rest (without_high need (s / 16)) (s % 16) ≡ rest need s
unfolding without_high
both-parts need s hn hs =
    let others = bit_and (need / 16) (15 - s / 16) in
    let most = and_le_l (need / 16) (15 - s / 16) in
    let whole : 255 - s ≡ (15 - s / 16) * 2 ^ 4 + (15 - s % 16) = omega arith in
    let split : need ≡ need / 16 * 2 ^ 4 + need % 16 = omega arith in
    let right = and_block 4 (need / 16) (15 - s / 16) (need % 16) (15 - s % 16) (omega arith) (omega arith) in
    rest-low others (need % 16) (s % 16) (omega arith) (omega arith) (omega arith) ∙ sym (rest-and need s ∙ ap₂ bit_and split whole ∙ right)

-- ---- one block

-- n elements from `to` on are those of f, the rest is as in `old`
pub record WrittenAt (f : ℕ → ℕ) (to n : ℕ) (old now : List ℕ) : Type 0 where
  pub size : length now ≡ length old
  pub inside : (i : ℕ) → i < n → get_or now (to + i) 0 ≡ f i
  pub before : (x : ℕ) → x < to → get_or now x 0 ≡ get_or old x 0
  pub after : (x : ℕ) → to + n ≤ x → get_or now x 0 ≡ get_or old x 0

module _ (f : ℕ → ℕ) (to : ℕ) (old : List ℕ) where
  pub written-at-none : WrittenAt f to 0 old old
  written-at-none = record { size = refl; inside = λ i h. absurd (omega arith); before = λ x h. refl; after = λ x h. refl }

  -- one element more
  pub written-at-more : (n : ℕ) (now : List ℕ) (v : ℕ) → to + n < length now → WrittenAt f to n old now → v ≡ f n → WrittenAt f to (n + 1) old (set now (to + n) v)
  written-at-more n now v inside w e =
      record {
        size = length-set now (to + n) v ∙ w.size;
        inside = λ i h. go i (eq-or-lt_of_le (up_to i h));
        before = λ x h. get_or-set_other now (to + n) x v 0 (λ k. omega arith) ∙ w.before x h;
        after = λ x h. get_or-set_other now (to + n) x v 0 (λ k. omega arith) ∙ w.after x (omega arith);
      }
    where
      up_to : (i : ℕ) → i < n + 1 → i ≤ n
      up_to i h = omega arith

      go : (i : ℕ) → (i ≡ n) ⊎ (i < n) → get_or (set now (to + n) v) (to + i) 0 ≡ f i
      go i (inl same) = rw same (get_or-set_same now (to + n) v 0 inside ∙ e)
      go i (inr below) = get_or-set_other now (to + n) (to + i) v 0 (λ k. omega arith) ∙ w.inside i below

-- one block more
pub block_more :
    (f g : ℕ → ℕ) (h : ℕ) (old now after : List ℕ)
    → Written f (h * 16) old now
    → WrittenAt g (h * 16) 16 now after
    → ((i : ℕ) → i < 16 → g i ≡ f (h * 16 + i))
    → Written f ((h + 1) * 16) old after
block_more f g h old now after w a same =
    record {
      size = a.size ∙ w.size;
      front = λ i below. go i below (dec_le (h * 16) i);
      back = λ i above. a.after i (omega arith) ∙ w.back i (omega arith);
    }
  where
    go : (i : ℕ) → i < (h + 1) * 16 → Dec (h * 16 ≤ i) → get_or after i 0 ≡ f i
    go i below (yes from) =
        let split : h * 16 + (i - h * 16) ≡ i = omega arith in
        rw split at (a.inside (i - h * 16) (omega arith) ∙ same (i - h * 16) (omega arith))
    go i below (no earlier) = a.before i (omega arith) ∙ w.front i (omega arith)

-- ---- the row after one subset

-- entries from `to` on are lowered to the table's entries from `from` on and so many members
abbrev pub lowered_entry : List ℕ → List ℕ → ℕ → ℕ → ℕ → ℕ → ℕ
lowered_entry row table to from members i = min (get_or row (to + i) 0) (get_or table (from + i) 0 + members)

unfoldable pub lowered_row : List ℕ → List ℕ → ℕ → ℕ → ℕ → ℕ
lowered_row row table high members need = min (get_or row need 0) (get_or table (without_high need high) 0 + members)

-- an entry that was not lowered yet
pub lowered-next :
    (old table : List ℕ) (to from members n : ℕ) (now : List ℕ) (v : ℕ)
    → WrittenAt (lowered_entry old table to from members) to n old now
    → v ≡ min (get_or now (to + n) 0) (get_or table (from + n) 0 + members)
    → v ≡ lowered_entry old table to from members n
lowered-next old table to from members n now v w e = e ∙ ap (λ (x : ℕ). min x (get_or table (from + n) 0 + members)) (w.after (to + n) (omega arith))

-- what is kept of sixteen times a number
pub block-and : (h k : ℕ) → bit_and (h * 16) (k * 16) ≡ bit_and h k * 16
block-and h k =
    let left : h * 16 ≡ h * 2 ^ 4 + 0 = omega arith in
    let right : k * 16 ≡ k * 2 ^ 4 + 0 = omega arith in
    let whole : bit_and h k * 2 ^ 4 + bit_and 0 0 ≡ bit_and h k * 16 = omega arith in
    ap₂ bit_and left right ∙ and_block 4 h k 0 0 (omega arith) (omega arith) ∙ whole

pub lowered-block :
    (old table : List ℕ) (high members h : ℕ) (row after : List ℕ)
    → Written (lowered_row old table high members) (h * 16) old row
    → WrittenAt (lowered_entry row table (h * 16) (bit_and (h * 16) ((15 - high) * 16)) members) (h * 16) 16 row after
    → Written (lowered_row old table high members) ((h + 1) * 16) old after
unfolding lowered_row without_high
lowered-block old table high members h row after w a = block_more (lowered_row old table high members) _ h old row after w a each
  where
    each : (i : ℕ) → i < 16 → lowered_entry row table (h * 16) (bit_and (h * 16) ((15 - high) * 16)) members i ≡ lowered_row old table high members (h * 16 + i)
    each i below =
        let block : (h * 16 + i) / 16 ≡ h = omega arith in
        let place : (h * 16 + i) % 16 ≡ i = omega arith in
        rw (block, place, block-and h (15 - high), w.back (h * 16 + i) (omega arith))
