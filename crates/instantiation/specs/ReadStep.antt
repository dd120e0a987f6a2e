-- One step of reading the lists: where the bit of a subset stands, and where it is clear.
use Rattle.std.specs.Prelude.{ℕ, suc, ◌+◌, ◌≡◌, Bool}
use Rattle.std.proofs.Math.Path.{ap}
use Rattle.std.proofs.Math.Bool.{true, false}
use mathlib.Core.List.{List, []}
use Rattle.type_record.specs.Lists.{read_list}
use Rattle.instantiation.specs.Instantiation.{standing, follow, read_lists}
use Rattle.refusal.specs.Several.{precede}

module _ (whole : List ℕ) (left s : ℕ) (bytes : List ℕ) where
  pub read-clear : standing whole s ≡ false → read_lists whole (suc left) s bytes ≡ precede [] (read_lists whole left (s + 1) bytes)
  unfolding read_lists
  read-clear clear =
      ap (λ (b : Bool). elim b [ true ↦ follow (read_list bytes) bytes (read_lists whole left (s + 1)) | false ↦ precede [] (read_lists whole left (s + 1) bytes) ]) clear

  pub read-stands : standing whole s ≡ true → read_lists whole (suc left) s bytes ≡ follow (read_list bytes) bytes (read_lists whole left (s + 1))
  unfolding read_lists
  read-stands stands =
      ap (λ (b : Bool). elim b [ true ↦ follow (read_list bytes) bytes (read_lists whole left (s + 1)) | false ↦ precede [] (read_lists whole left (s + 1) bytes) ]) stands
