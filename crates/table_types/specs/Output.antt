-- Typing over a membership table, by the cells of the node's expression (FORMAT 3.6, 3.7).
use Rattle.std.specs.Prelude.{ℕ, Bool, ◌&&◌, List, length, get_or}
use Rattle.bits.specs.AllBelow.{all_below}
use Rattle.bits.specs.Bit.{bit}
use Rattle.bits.specs.Pack.{pack}
use Rattle.algebra.specs.Expression.{Expression}
use Rattle.algebra.specs.Cell.{plain, out, ok}
use Rattle.membership.specs.Holders.{kept}

-- the relations that have special attribute i, by the maps of their records
abbrev pub special_holders : List ℕ → ℕ → ℕ → Bool
special_holders special i r = bit (get_or special r 0) i

-- FORMAT 2.5: no attribute breaks a rule: no special one, and none of the entries
unfoldable pub typed_in : Expression → List ℕ → List ℕ → Bool
typed_in e special entries =
    all_below 16 (λ i. ok plain e i (special_holders special i))
    && all_below (length entries) (λ i. ok plain e 0 (bit (get_or entries i 0)))

-- FORMAT 7.9: the special attributes of the output
unfoldable pub output_map : Expression → List ℕ → ℕ
output_map e special = pack 16 (λ i. out plain e i (special_holders special i))

-- FORMAT 7.9: the ordinary attributes of the output
abbrev pub output_list : Expression → List ℕ → List ℕ
output_list e entries = kept (λ x. out plain e 0 (bit x)) entries
