-- Over the types of its operands, the words of a node are its type.
use Rattle.std.specs.Prelude.{ℕ, zero, suc, ◌+◌, ◌-◌, ◌*◌, ◌/◌, ◌%◌, ◌^◌, ◌≤◌, ◌<◌, min, ◌≡◌, refl, Bool, true, false, cond, not, ◌&&◌, ◌||◌, List, eqb, length, get_or, take}
use Rattle.std.proofs.Common.{sym, ap, ap₂, ◌∙◌, add-zero, mod-lt, arith, lt-ltb, le-ltb, ne_eqb, lit<, pow_mono, get_or-take, length-take-le}
use Rattle.std.proofs.Math.Bool.{and_comm}
use Rattle.std.proofs.Math.Decide.{dec_lt}
use Rattle.std.proofs.lemmas.Bool.{not-true}
use Rattle.std.specs.Int.Bits.{bit_or, bit_and, and_lt}
use Rattle.std.proofs.lemmas.Nat.{or_lt, xor_lt}
use Rattle.std.proofs.Math.Dec.{eqb-zero-suc, eqb-suc-zero, eqb-suc-suc}
use Rattle.std.proofs.Math.ListN.{get_or-eq_default}
use Rattle.std.proofs.Math.Pow.{pow-lt}
use Rattle.bits.specs.Bit.{bit, differs, bit-above, bit-none, bit-or, bit-and, bit-xor, bit-power}
use Rattle.bits.specs.Booleans.{and_left, and_right}
use Rattle.bits.specs.Pack.{pack, pack-below, bit-pack, bits-once}
use Rattle.attribute_set.specs.AttrSet.{special as is_special, bits_of}
use Rattle.attribute_set.specs.Laws.{Clear, special-range}
use Rattle.attribute_set.specs.declared.AttrSet.{AttrSet}
use Rattle.algebra.specs.Expression.{Expression, relation, binary, with_set, renaming, projecting_out, selection, projection}
use Rattle.algebra.specs.Cell.{plain, breaks, yields, breaks_renaming, yields_renaming, breaks_out, yields_out}
use Rattle.node.specs.declared.nodes.BinaryOp.{BinaryOp}
use Rattle.node.specs.declared.nodes.BinaryOp.TheVariants.{Union, Difference, Join, Product}
use Rattle.node.specs.declared.nodes.SetOp.TheVariants.{Selection, Projection}
use Rattle.node.specs.declared.nodes.Node.{Node}
use Rattle.node.specs.declared.nodes.Node.TheVariants.{Relation, Binary, WithSet, Renaming, ProjectingOut}
use Rattle.node.specs.Legal.{LegalNode}
use Rattle.node_expression.specs.NodeExpression.{operator_of, named, of_node}
use Rattle.type_sets.specs.Sets.{place_column, ok_at, out_at, place_bit, TypeIn, words_at, breaking, coming_out, lacking, without, renaming_breaks, renamed, entries_held, relation_word, Laid, Breaks, SetLaid, RenamingLaid, OutLaid, NodeSets}
use Rattle.type_sets.specs.SetLaws.{one_table, or-clear, or-none}
use Rattle.type_sets.specs.SetCells.{Words, is-entry, named-entry, named-place, special-place}

-- ---- a word by its bits

-- a word without bits is 0
word-clear : (x : ℕ) → x < 2 ^ 64 → ((i : ℕ) → i < 64 → bit x i ≡ false) → x ≡ 0
word-clear x below clear = bits-once 64 x 0 below (lit< tt) (λ i h. clear i h ∙ sym (bit-none i))

breaking-bit : (op : BinaryOp) (x y i : ℕ) → bit (breaking op x y) i ≡ breaks plain (operator_of op) (bit x i) (bit y i)
unfolding breaking
breaking-bit Union x y i = bit-xor x y i ∙ one_table differs (breaks plain (operator_of Union)) refl refl refl refl (bit x i) (bit y i)
breaking-bit Difference x y i = bit-xor x y i ∙ one_table differs (breaks plain (operator_of Difference)) refl refl refl refl (bit x i) (bit y i)
breaking-bit Join x y i = bit-none i ∙ one_table (λ a b. false) (breaks plain (operator_of Join)) refl refl refl refl (bit x i) (bit y i)
breaking-bit Product x y i = bit-and x y i

coming-bit : (op : BinaryOp) (x y i : ℕ) → bit (coming_out op x y) i ≡ yields plain (operator_of op) (bit x i) (bit y i)
unfolding coming_out
coming-bit Union x y i = refl
coming-bit Difference x y i = refl
coming-bit Join x y i = bit-or x y i ∙ one_table ◌||◌ (yields plain (operator_of Join)) refl refl refl refl (bit x i) (bit y i)
coming-bit Product x y i = bit-or x y i ∙ one_table ◌||◌ (yields plain (operator_of Product)) refl refl refl refl (bit x i) (bit y i)

breaking-below : (op : BinaryOp) (x y : ℕ) → x < 2 ^ 64 → y < 2 ^ 64 → breaking op x y < 2 ^ 64
unfolding breaking
breaking-below Union x y hx hy = xor_lt 64 x y hx hy
breaking-below Difference x y hx hy = xor_lt 64 x y hx hy
breaking-below Join x y hx hy = lit< tt
breaking-below Product x y hx hy = and_lt 64 x y hx hy

lacking-bit : (x s i : ℕ) → bit (lacking x s) i ≡ bit s i && not (bit x i)
unfolding lacking
lacking-bit x s i = bit-xor (bit_or x s) x i ∙ ap (λ (b : Bool). differs b (bit x i)) (bit-or x s i) ∙ one_table (λ a b. differs (a || b) a) (λ a b. b && not a) refl refl refl refl (bit x i) (bit s i)

without-bit : (x s i : ℕ) → bit (without x s) i ≡ cond (bit s i) false (bit x i)
unfolding without
without-bit x s i = bit-xor (bit_or x s) s i ∙ ap (λ (b : Bool). differs b (bit s i)) (bit-or x s i) ∙ one_table (λ a b. differs (a || b) b) (λ a b. cond b false a) refl refl refl refl (bit x i) (bit s i)

lacking-below : (x s : ℕ) → x < 2 ^ 64 → s < 2 ^ 64 → lacking x s < 2 ^ 64
unfolding lacking
lacking-below x s hx hs = xor_lt 64 (bit_or x s) x (or_lt 64 x s hx hs) hx

-- ---- the attribute of a place

is-place : (a : ℕ) → is_special a ≡ true → (j : ℕ) → j < 64 → eqb (place_column j) a ≡ bit (2 ^ a) j
is-place a is j h = go (dec_lt j 16)
  where
    same : (x y : ℕ) → eqb x y ≡ eqb y x
    same zero zero = refl
    same zero (suc y) = eqb-zero-suc y ∙ sym (eqb-suc-zero y)
    same (suc x) zero = eqb-suc-zero x ∙ sym (eqb-zero-suc x)
    same (suc x) (suc y) = eqb-suc-suc x y ∙ same x y ∙ sym (eqb-suc-suc y x)

    go : Dec (j < 16) → eqb (place_column j) a ≡ bit (2 ^ a) j
    go (yes less) = rw (lt-ltb j 16 less) (same j a ∙ sym (bit-power a j))
    go (no more) =
        let range = special-range a is in
        rw (le-ltb j 16 (omega arith)) (ne_eqb 0 a (λ e. omega arith) ∙ sym (bit-power a j ∙ ne_eqb a j (λ e. omega arith)))

-- ---- what the words of a node have to be

-- an operator of one operand, on the attribute of a place: `broken` is its rule, `given` its result
record Step (special entries : List ℕ) (e g : Expression) (broken given : ℕ → Bool → Bool) : Type 0 where
  is_ok : (j : ℕ) → ok_at g special entries j ≡ ok_at e special entries j && not (broken j (out_at e special entries j))
  is_out : (j : ℕ) → out_at g special entries j ≡ given j (out_at e special entries j)

-- b is what breaks the rule in word 1, where the operand has x; no entry breaks it
record Front (broken : ℕ → Bool → Bool) (b x : ℕ) : Type 0 where
  below : b < 2 ^ 64
  bits : (i : ℕ) → i < 64 → bit b i ≡ broken i (bit x i)
  free : (j : ℕ) → 64 ≤ j → (o : Bool) → broken j o ≡ false

-- y is what comes out in word 1, where no attribute breaks the rule
abbrev Gives : (ℕ → Bool → Bool) → (ℕ → Bool → Bool) → ℕ → ℕ → Type 0
Gives broken given y x = (i : ℕ) → i < 64 → broken i (bit x i) ≡ false → bit y i ≡ given i (bit x i)

-- no attribute breaks the rule
abbrev Passes : (ℕ → Bool → Bool) → ℕ → (ℕ → ℕ) → Type 0
Passes broken width x = (j : ℕ) → j < (width - 1) * 64 → broken j (place_bit x j) ≡ false

module _ (special entries : List ℕ) (width : ℕ) (wide : 2 ≤ width) where
  -- the same words
  pub type-same : {e : Expression} {x y : ℕ → ℕ} → ((v : ℕ) → v < width → y v ≡ x v) → TypeIn e special entries width x → TypeIn e special entries width y
  type-same same t =
      let none = same 0 (omega arith) in
      record {
        typed = λ z. t.typed (sym none ∙ z);
        untyped = λ all. none ∙ t.untyped all;
        output = λ z j h. ap (λ (w : ℕ). bit w (j % 64)) (same (1 + j / 64) (omega arith)) ∙ t.output (sym none ∙ z) j h;
      }

  -- one operand
  module _ {e g : Expression} {broken given : ℕ → Bool → Bool} (step : Step special entries e g broken given) (x y : ℕ → ℕ) (t : TypeIn e special entries width x) where
    unary_type :
        (y 0 ≡ 0 → (x 0 ≡ 0) × Passes broken width x)
        → (x 0 ≡ 0 → Passes broken width x → y 0 ≡ 0)
        → ((j : ℕ) → j < (width - 1) * 64 → broken j (place_bit x j) ≡ false → place_bit y j ≡ given j (place_bit x j))
        → TypeIn g special entries width y
    unary_type clear kept gives =
        record {
          typed = λ z j h. step.is_ok j ∙ rw (t.typed (clear z).0 j h) (ap not (sym (ap (broken j) (t.output (clear z).0 j h)) ∙ (clear z).1 j h));
          untyped = λ all. let z = t.untyped (λ j h. and_left (ok_at e special entries j) _ (sym (step.is_ok j) ∙ all j h)) in
              kept z (λ j h. ap (broken j) (t.output z j h) ∙ not-true _ (and_right (ok_at e special entries j) _ (sym (step.is_ok j) ∙ all j h)));
          output = λ z j h. gives j h ((clear z).1 j h) ∙ ap (given j) (t.output (clear z).0 j h) ∙ sym (step.is_out j);
        }

    -- where only word 1 can break the rule
    front-type :
        (b : ℕ)
        → y 0 ≡ bit_or (x 0) b
        → Front broken b (x 1)
        → Gives broken given (y 1) (x 1)
        → ((j : ℕ) → 64 ≤ j → j < (width - 1) * 64 → place_bit y j ≡ given j (place_bit x j))
        → TypeIn g special entries width y
    front-type b is front gives rest = unary_type clear kept (λ j h free. go j h free (dec_lt j 64))
      where
        passes : b ≡ 0 → (j : ℕ) → Dec (j < 64) → broken j (place_bit x j) ≡ false
        passes z j (yes less) = ap (broken j) (special-place x j less) ∙ sym (front.bits j less) ∙ ap (λ (w : ℕ). bit w j) z ∙ bit-none j
        passes z j (no more) = front.free j (omega arith) (place_bit x j)

        clear : y 0 ≡ 0 → (x 0 ≡ 0) × Passes broken width x
        clear z = let both = or-clear (x 0) b (sym is ∙ z) in (both.0, λ j h. passes both.1 j (dec_lt j 64))

        kept : x 0 ≡ 0 → Passes broken width x → y 0 ≡ 0
        kept z all = is ∙ or-none (x 0) b z (word-clear b front.below (λ i h. front.bits i h ∙ ap (broken i) (sym (special-place x i h)) ∙ all i (omega arith)))

        go : (j : ℕ) → j < (width - 1) * 64 → broken j (place_bit x j) ≡ false → Dec (j < 64) → place_bit y j ≡ given j (place_bit x j)
        go j h free (yes less) = let at = special-place x j less in special-place y j less ∙ gives j less (ap (broken j) (sym at) ∙ free) ∙ ap (given j) (sym at)
        go j h free (no more) = rest j (omega arith) h

  -- two operands
  binary-type :
      (op : BinaryOp) (e f : Expression) (x y z : ℕ → ℕ)
      → ((v : ℕ) → x v < 2 ^ 64)
      → ((v : ℕ) → y v < 2 ^ 64)
      → TypeIn e special entries width x
      → TypeIn f special entries width y
      → Breaks op x y width (z 0)
      → ((v : ℕ) → 1 ≤ v → v < width → z v ≡ coming_out op (x v) (y v))
      → TypeIn (binary (operator_of op) e f) special entries width z
  binary-type op e f x y z hx hy t u rule words =
      record {
        typed = λ n j h.
            let clear = rule.clear n in
            let left = t.output clear.0 j h in
            let right = u.output clear.1 j h in
            rw (t.typed clear.0 j h, u.typed clear.1 j h, ← left, ← right)
            (ap not
            (sym (breaking-bit op (x (1 + j / 64)) (y (1 + j / 64)) (j % 64))
            ∙ ap (λ (w : ℕ). bit w (j % 64)) (clear.2 (1 + j / 64) (omega arith) (omega arith))
            ∙ bit-none (j % 64)));
        untyped = untyped;
        output = λ n j h.
            let clear = rule.clear n in
            ap (λ (w : ℕ). bit w (j % 64)) (words (1 + j / 64) (omega arith) (omega arith))
            ∙ coming-bit op (x (1 + j / 64)) (y (1 + j / 64)) (j % 64)
            ∙ ap₂ (yields plain (operator_of op)) (t.output clear.0 j h) (u.output clear.1 j h);
      }
    where
      untyped : ((j : ℕ) → j < (width - 1) * 64 → ok_at (binary (operator_of op) e f) special entries j ≡ true) → z 0 ≡ 0
      untyped all = rule.kept a b (λ v some h. word-clear (breaking op (x v) (y v)) (breaking-below op (x v) (y v) (hx v) (hy v)) (λ i less. bits v i some h less))
        where
          operands : (j : ℕ) → j < (width - 1) * 64 → ok_at e special entries j && ok_at f special entries j ≡ true
          operands j h = and_left (ok_at e special entries j && ok_at f special entries j) _ (all j h)

          a : x 0 ≡ 0
          a = t.untyped (λ j h. and_left (ok_at e special entries j) (ok_at f special entries j) (operands j h))

          b : y 0 ≡ 0
          b = u.untyped (λ j h. and_right (ok_at e special entries j) (ok_at f special entries j) (operands j h))

          bits : (v i : ℕ) → 1 ≤ v → v < width → i < 64 → bit (breaking op (x v) (y v)) i ≡ false
          bits v i some h less =
              let j : ℕ = (v - 1) * 64 + i in
              let inside : (v - 1) * 64 + i < (width - 1) * 64 = omega arith in
              let word : 1 + ((v - 1) * 64 + i) / 64 ≡ v = omega arith in
              let low : ((v - 1) * 64 + i) % 64 ≡ i = omega arith in
              let free = not-true _ (and_right (ok_at e special entries j && ok_at f special entries j) _ (all j inside)) in
              let at = t.output a j inside in
              let at' = u.output b j inside in
              breaking-bit op (x v) (y v) i ∙ (rw (word, low) at (ap₂ (breaks plain (operator_of op)) at at' ∙ free))

-- ---- each kind of node

-- a word of a relation has the bits of its entries, and none past the last
pub relation-bit : (items : List ℕ) (count r v i : ℕ) → count ≤ length items → 2 ≤ v → i < 64 → bit (relation_word items count r v) i ≡ bit (get_or (take count items) ((v - 2) * 64 + i) 0) r
unfolding relation_word entries_held
relation-bit items count r v i fits some h = go (dec_lt i (min count (from + 64) - from))
  where
    from : ℕ
    from = (v - 2) * 64

    f : ℕ → Bool
    f i = bit (get_or items (from + i) 0) r

    go : Dec (i < min count (from + 64) - from) → bit (pack (min count (from + 64) - from) f) i ≡ bit (get_or (take count items) (from + i) 0) r
    go (yes less) = bit-pack (min count (from + 64) - from) f i less ∙ ap (λ (x : ℕ). bit x r) (sym (get_or-take count items (from + i) 0 (omega arith)))
    go (no more) =
        let size = length-take-le count items fits in
        let below = pack-below (min count (from + 64) - from) f in
        let power = pow_mono {i = min count (from + 64) - from} {j = i} (omega arith) in
        bit-above (pack (min count (from + 64) - from) f) i (omega arith) ∙ sym (ap (λ (x : ℕ). bit x r) (get_or-eq_default (take count items) 0 {n = from + i} (omega arith)) ∙ bit-none r)

module _ (special items : List ℕ) (count width : ℕ) (wide : 2 ≤ width) where
  -- the entries of the table
  abbrev entries : List ℕ
  entries = take count items

  relation-type : (r at : ℕ) (old sets : List ℕ) → count ≤ length items → Laid 0 (get_or special r 0) (relation_word items count r) at width old sets → TypeIn (relation r) special entries width (words_at sets at)
  relation-type r at old sets fits laid =
      record {
        typed = λ z j h. refl;
        untyped = λ all. rw (add-zero at) laid.first;
        output = λ z j h. go j h (dec_lt j 64);
      }
    where
      go : (j : ℕ) → j < (width - 1) * 64 → Dec (j < 64) → place_bit (words_at sets at) j ≡ out_at (relation r) special entries j
      go j h (yes less) = special-place (words_at sets at) j less ∙ rw (laid.second, lt-ltb j 64 less)
      go j h (no more) =
          let place : (1 + j / 64 - 2) * 64 + j % 64 ≡ j - 64 = omega arith in
          ap (λ (x : ℕ). bit x (j % 64)) (laid.rest.entries (1 + j / 64) (omega arith) (omega arith))
          ∙ relation-bit items count r (1 + j / 64) (j % 64) fits (omega arith) (mod-lt j (lit< tt))
          ∙ rw (place, le-ltb j 64 (omega arith))

  module _ (e : Expression) (from at : ℕ) (old sets : List ℕ) (words : Words old) (t : TypeIn e special entries width (words_at old from)) where
    -- the operand's special attributes
    abbrev x : ℕ
    x = get_or old (from + 1) 0

    -- one operand, whose words are laid down
    laid-type :
        {g : Expression} {broken given : ℕ → Bool → Bool} {b y : ℕ} {entry : ℕ → ℕ}
        → Step special entries e g broken given
        → Front broken b x
        → Gives broken given y x
        → ((j : ℕ) → 64 ≤ j → bit (entry (1 + j / 64)) (j % 64) ≡ given j (place_bit (words_at old from) j))
        → Laid (bit_or (get_or old from 0) b) y entry at width old sets
        → TypeIn g special entries width (words_at sets at)
    laid-type {b = b} step front gives rest laid =
        front-type special entries width wide step (words_at old from) (words_at sets at) t b
        (rw (add-zero at, add-zero from) laid.first)
        front
        (λ i h passes. ap (λ (x : ℕ). bit x i) laid.second ∙ gives i h passes)
        (λ j some h. ap (λ (x : ℕ). bit x (j % 64)) (laid.rest.entries (1 + j / 64) (omega arith) (omega arith)) ∙ rest j some)

    module _ (s : AttrSet) (clear : Clear s) (small : bits_of s < 65536) where
      lacking-set : Front (λ j o. named s (place_column j) && not o) (lacking x (bits_of s)) x
      lacking-set =
          record {
            below = lacking-below x (bits_of s) (words (from + 1)) (omega arith);
            bits = λ i h. lacking-bit x (bits_of s) i ∙ ap (λ (n : Bool). n && not (bit x i)) (sym (named-place s clear small i h));
            free = λ j some o. rw (named-entry s j some);
          }

      selection-type : SetLaid Selection from (bits_of s) at width old sets → TypeIn (with_set selection (named s) e) special entries width (words_at sets at)
      selection-type =
          laid-type {broken = λ j o. named s (place_column j) && not o} {given = λ j o. o}
          (record { is_ok = λ j. refl; is_out = λ j. refl })
          lacking-set
          (λ i h passes. refl)
          (λ j some. refl)

      projection-type : SetLaid Projection from (bits_of s) at width old sets → TypeIn (with_set projection (named s) e) special entries width (words_at sets at)
      projection-type =
          laid-type {broken = λ j o. named s (place_column j) && not o} {given = λ j o. cond (named s (place_column j)) o false}
          (record { is_ok = λ j. refl; is_out = λ j. refl })
          lacking-set
          (λ i h passes. sym (named-place s clear small i h) ∙ kept (named s (place_column i)) (bit x i) passes)
          (λ j some. bit-none (j % 64) ∙ rw (named-entry s j some))
        where
          kept : (n o : Bool) → n && not o ≡ false → n ≡ cond n o false
          kept true true passes = refl
          kept true false passes = passes
          kept false o passes = refl

    power_small : (a : ℕ) → is_special a ≡ true → 2 ^ a < 2 ^ 64
    power_small a is = let range = special-range a is in pow-lt {i = a} {j = 64} (omega arith)

    module _ (o : ℕ) (is_old : is_special o ≡ true) where
      projecting-out-type : OutLaid from (2 ^ o) at width old sets → TypeIn (projecting_out o e) special entries width (words_at sets at)
      projecting-out-type =
          laid-type {broken = λ j. breaks_out plain (eqb (place_column j) o)} {given = λ j. yields_out plain (eqb (place_column j) o)}
          (record { is_ok = λ j. refl; is_out = λ j. refl })
          (record {
            below = lacking-below x (2 ^ o) (words (from + 1)) (power_small o is_old);
            bits = λ i h. lacking-bit x (2 ^ o) i ∙ ap (λ (b : Bool). b && not (bit x i)) (sym (is-place o is_old i h));
            free = λ j some v. rw (is-entry o is_old j some);
          })
          (λ i h passes. without-bit x (2 ^ o) i ∙ ap (λ (b : Bool). cond b false (bit x i)) (sym (is-place o is_old i h)))
          (λ j some. rw (is-entry o is_old j some))

      module _ (n : ℕ) (is_new : is_special n ≡ true) where
        breaks-bit : (i : ℕ) → bit (renaming_breaks x (2 ^ o) (2 ^ n)) i ≡ breaks_renaming plain (bit (2 ^ o) i) (bit (2 ^ n) i) (bit x i)
        breaks-bit i = bit-or (lacking x (2 ^ o)) (bit_and x (2 ^ n)) i ∙ ap₂ ◌||◌ (lacking-bit x (2 ^ o) i) (bit-and x (2 ^ n) i ∙ and_comm (bit x i) (bit (2 ^ n) i))

        renamed-bit : (i : ℕ) → bit (renamed x (2 ^ o) (2 ^ n)) i ≡ yields_renaming plain (bit (2 ^ o) i) (bit (2 ^ n) i) (bit x i)
        renamed-bit i =
            bit-or (without x (2 ^ o)) (2 ^ n) i
            ∙ ap (λ (b : Bool). b || bit (2 ^ n) i) (without-bit x (2 ^ o) i)
            ∙ one_table ◌||◌ (λ v new. cond new true v) refl refl refl refl (cond (bit (2 ^ o) i) false (bit x i)) (bit (2 ^ n) i)

        breaks-below : renaming_breaks x (2 ^ o) (2 ^ n) < 2 ^ 64
        breaks-below =
            or_lt 64 (lacking x (2 ^ o)) (bit_and x (2 ^ n))
            (lacking-below x (2 ^ o) (words (from + 1)) (power_small o is_old))
            (and_lt 64 x (2 ^ n) (words (from + 1)) (power_small n is_new))

        renaming-type : RenamingLaid from (2 ^ o) (2 ^ n) at width old sets → TypeIn (renaming o n e) special entries width (words_at sets at)
        renaming-type =
            laid-type {broken = λ j. breaks_renaming plain (eqb (place_column j) o) (eqb (place_column j) n)} {given = λ j. yields_renaming plain (eqb (place_column j) o) (eqb (place_column j) n)}
            (record { is_ok = λ j. refl; is_out = λ j. refl })
            (record {
              below = breaks-below;
              bits = λ i h. breaks-bit i ∙ ap₂ (λ (a b : Bool). breaks_renaming plain a b (bit x i)) (sym (is-place o is_old i h)) (sym (is-place n is_new i h));
              free = λ j some v. rw (is-entry o is_old j some, is-entry n is_new j some);
            })
            (λ i h passes. renamed-bit i ∙ ap₂ (λ (a b : Bool). yields_renaming plain a b (bit x i)) (sym (is-place o is_old i h)) (sym (is-place n is_new i h)))
            (λ j some. rw (is-entry o is_old j some, is-entry n is_new j some))

  -- ---- any node

  pub node-type :
      (m k : ℕ) (node : Node) (e : ℕ → Expression) (old sets : List ℕ)
      → count ≤ length items
      → LegalNode m k node
      → Words old
      → ((l : ℕ) → l < k → TypeIn (e l) special entries width (words_at old (l * width)))
      → NodeSets special items count width k old sets node
      → TypeIn (of_node node e) special entries width (words_at sets (k * width))
  node-type m k (Relation r) e old sets fits legal words earlier laid = relation-type r (k * width) old sets fits laid
  node-type m k (Binary op l r) e old sets fits legal words earlier made =
      binary-type special entries width wide op (e l) (e r) (words_at old (l * width)) (words_at old (r * width)) (words_at sets (k * width))
      (λ v. words (l * width + v))
      (λ v. words (r * width + v))
      (earlier l legal.0)
      (earlier r legal.1)
      (rw (add-zero (k * width)) made.rule)
      made.words
  node-type m k (WithSet Selection l s) e old sets fits legal words earlier laid = selection-type (e l) (l * width) (k * width) old sets words (earlier l legal.0) s legal.1 laid.0 laid.1
  node-type m k (WithSet Projection l s) e old sets fits legal words earlier laid = projection-type (e l) (l * width) (k * width) old sets words (earlier l legal.0) s legal.1 laid.0 laid.1
  node-type m k (Renaming l o n) e old sets fits legal words earlier laid = renaming-type (e l) (l * width) (k * width) old sets words (earlier l legal.0) o legal.1 n legal.2 laid
  node-type m k (ProjectingOut l o) e old sets fits legal words earlier laid = projecting-out-type (e l) (l * width) (k * width) old sets words (earlier l legal.0) o legal.1 laid
