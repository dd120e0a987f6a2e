use Rattle.std.proofs.Common.{List, ℕ, length, take, ◌≡◌, arith, rules, length-take-le}
use Rattle.std.proofs.Math.Seq.{take-length}
use Rattle.membership.specs.HolderLaws.{taken-fit}
use Rattle.entry_sorting.specs.Sorting.{by_digit}
use Rattle.instantiation.specs.Runs.{BySubset}
use Rattle.instantiation_writer.proofs.ThreeParts.{by-subset, same_lists, lists-short, whole_length, whole-written}
use Rattle.instantiation_writer.proofs.writing.write_instantiation.Goals as goal

taken-by : {items : List ℕ} {count : ℕ} → BySubset items count → BySubset (take count items) (length (take count items))
taken-by {items} {count} by =
    let size = length-take-le count items by.fit.enough in
    let few = by.few in
    record { few = omega arith; fit = taken-fit by.fit; rising = rw (take-length (take count items)) by.rising }

-- the sort's answer, said of the first entries
of-all : (entries : List ℕ) {front : List ℕ} → front ≡ by_digit 1 entries → front ≡ by_digit 1 (take (length entries) entries)
of-all entries is = rw (take-length entries) is

pub write_lists-requires : goal.write_lists-requires
write_lists-requires c =
    let same = c.sort_by_subset.auto.sorted in
    let room = c.requires.instantiation_size_in_bounds.1 in
    record {
      by_subset = taken-by (by-subset _ _ c.requires.writes_from _ (of-all c.args.entries.now c.sort_by_subset.ensures) (omega arith));
      in_bounds = search rules;
    }

pub overflow_add-result : goal.overflow_add-result
overflow_add-result c =
    let w = c.requires.writes_from in
    let short = lists-short _ _ w (same_lists _ _ w _ (of-all c.args.entries.now c.sort_by_subset.ensures)) in
    let size = c.write_lists.ensures.value in
    omega arith

pub returns : goal.returns
returns c =
    let args = c.args in
    let same = rw (take-length args.entries.now) at (same_lists _ _ c.requires.writes_from _ (of-all args.entries.now c.sort_by_subset.ensures)) in
    record {
      value = whole_length args.subsets.now _ same c.write_lists.ensures.value;
      out_after = whole-written args.out.now args.subsets.now _ c.write_special.ensures c.write_map.ensures same c.write_lists.ensures.out_after;
    }
