-- Record: the part of the file that holds a node (FORMAT 7.5).
use Rattle.std.specs.Prelude.{ℕ, ◌+◌, List, []}
use Rattle.record.specs.declared.Place.{Place}
use Rattle.expression_file.specs.ReadFile.{placed_at, size_at, start_at}
use Rattle.admission.specs.Admission.{after, asked}

-- FORMAT 7.5: where the part lies; 0 and 0 where one of 1 to 11 applies
unfoldable pub place_of : List ℕ → ℕ → Place
place_of file k = after (asked file k) (λ r. record { start = 0; len = 0 }) (λ m n. record { start = start_at file k; len = size_at file k })

-- where a place of a file lies in memory, the file's first byte lying at this block and offset
abbrev pub placed_in : ℕ × ℕ → Place → ℕ × ℕ
placed_in file place = (file.0, file.1 + place.start)

-- FORMAT 7.5: the bytes of the part; none where one of 1 to 11 applies
unfoldable pub record_of : List ℕ → ℕ → List ℕ
record_of file k = after (asked file k) (λ r. []) (λ m n. (placed_at file k).bytes)
