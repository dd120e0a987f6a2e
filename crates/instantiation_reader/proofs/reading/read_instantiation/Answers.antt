use Rattle.std.proofs.lemmas.Result.{err_from_is_err_and}
use Rattle.instantiation.specs.TestsAfterLists.{refused-reading, reading-short, lists-refused, lists-found, over-repeated, over-many, lists-fit, lists-room, falls, lists-read-all}
use Rattle.std.proofs.Common.{ℕ, List, ◌++◌, ◌≤◌, ◌≡◌, length, take, drop, sym, ap, ◌∙◌, arith, length-take-le, take_at}
use Rattle.membership.specs.HolderLaws.{taken-fit}
use Rattle.entry_sorting.specs.Sorting.{by_attribute}
use Rattle.instantiation_reader.proofs.reading.read_instantiation.Goals as goal

-- what stands at the front once the first entries are sorted
module _ (items part rest : List ℕ) {count : ℕ} (enough : count ≤ length items) (size : length part ≡ length (take count items)) where
  part-size : length part ≡ count
  part-size = size ∙ length-take-le count items enough

  front-size : count ≡ length (take count (part ++ rest))
  front-size = sym (ap length (take_at part rest count part-size) ∙ part-size)

  sorted-front : part ≡ by_attribute (take count items) → take count (part ++ rest) ≡ by_attribute (take count items)
  sorted-front is = take_at part rest count part-size ∙ is

pub returns-then-bytes-lt47 : goal.returns-then-bytes-lt47
returns-then-bytes-lt47 c =
    let both = refused-reading _ c.args.items.now _ (reading-short _ c.if-bytes-lt47.true) in
    record { value = both.0; entries_stand = both.1; count_in_bounds = tt }

pub returns-then-repeated_in : goal.returns-then-repeated_in
returns-then-repeated_in c =
    let read-lists = c.read_lists in
    let lists = lists-found c.args.bytes.now _ c.if-bytes-lt47.false
    (λ x. omega (arith, c.type_inv.bytes x)) read-lists.ensures.value read-lists.ensures.gathered_in
    c.in_ok-count.was in
    let many = c.if-count-gt255.true in
    let both = refused-reading _ c.read_lists.new.items _ (over-repeated lists (omega arith) c.repeated_in.ensures c.if-repeated_in.true) in
    record { value = both.0; entries_stand = both.1; count_in_bounds = tt }

pub returns-then-count-gt255 : goal.returns-then-count-gt255
returns-then-count-gt255 c =
    let read-lists = c.read_lists in
    let lists = lists-found c.args.bytes.now _ c.if-bytes-lt47.false
    (λ x. omega (arith, c.type_inv.bytes x)) read-lists.ensures.value read-lists.ensures.gathered_in
    c.in_ok-count.was in
    let many = c.if-count-gt255.true in
    let both = refused-reading _ c.read_lists.new.items _ (over-many lists (omega arith) c.repeated_in.ensures c.if-repeated_in.false) in
    record { value = both.0; entries_stand = both.1; count_in_bounds = tt }

pub sort_by_attribute-requires : goal.sort_by_attribute-requires
sort_by_attribute-requires c =
    let read-lists = c.read_lists in
    let args = c.args in
    let lists = lists-found args.bytes.now _ c.if-bytes-lt47.false (λ x. omega (arith, c.type_inv.bytes x))
    read-lists.ensures.value read-lists.ensures.gathered_in c.in_ok-count.was in
    let few = c.if-count-gt255.false in
    let size = length-take-le c.in_ok-count.count read-lists.new.items (lists-fit lists few).enough in
    let room = lists-room lists few args.spare.now c.requires.1 in
    record { few = (omega arith, taken-fit (lists-fit lists few)); in_bounds = omega arith }

pub slice_bounds-sort_by_attribute-end-2 : goal.slice_bounds-sort_by_attribute-end-2
slice_bounds-sort_by_attribute-end-2 c =
    let read-lists = c.read_lists in
    let lists = lists-found c.args.bytes.now _ c.if-bytes-lt47.false
    (λ x. omega (arith, c.type_inv.bytes x)) read-lists.ensures.value read-lists.ensures.gathered_in
    c.in_ok-count.was in
    sym (length-take-le c.in_ok-count.count read-lists.new.items (lists-fit lists c.if-count-gt255.false).enough)

pub slice_bounds-rises-end-2 : goal.slice_bounds-rises-end-2
slice_bounds-rises-end-2 c =
    let read-lists = c.read_lists in
    let lists = lists-found c.args.bytes.now _ c.if-bytes-lt47.false
    (λ x. omega (arith, c.type_inv.bytes x)) read-lists.ensures.value read-lists.ensures.gathered_in
    c.in_ok-count.was in
    front-size read-lists.new.items _ _ (lists-fit lists c.if-count-gt255.false).enough c.sort_by_attribute.auto.entries

pub returns : goal.returns
returns c =
    let sort-by-attribute = c.sort_by_attribute in
    let if2 = c.if-count-gt255 in
    let read-lists = c.read_lists in
    let args = c.args in
    let lists = lists-found args.bytes.now _ c.if-bytes-lt47.false (λ x. omega (arith, c.type_inv.bytes x))
    read-lists.ensures.value read-lists.ensures.gathered_in c.in_ok-count.was in
    let read = lists-read-all lists if2.false (sort-by-attribute.new.entries ++ drop c.in_ok-count.count read-lists.new.items)
    (sorted-front read-lists.new.items _ _ (lists-fit lists if2.false).enough sort-by-attribute.auto.entries sort-by-attribute.ensures) c.rises.ensures c.if-not-rises.false c.subsets_of-subsets.ensures in
    let room = lists-room lists if2.false args.spare.now c.requires.1 in
    let same = sort-by-attribute.auto.spare in
    record {
      value = read.0;
      entries_stand = read.1;
      count_in_bounds = omega arith;
    }

pub returns-in_err-count : goal.returns-in_err-count
returns-in_err-count c =
    let both = refused-reading _ c.read_lists.new.items _ (lists-refused _ c.if-bytes-lt47.false
    c.read_lists.ensures.value c.in_err-count.was) in
    let p = err_from_is_err_and c.from_residual.result c.from_residual.ensures.1 in
    rw (p.1, p.2) (record { value = both.0; entries_stand = both.1; count_in_bounds = tt })

pub returns-then-not-rises : goal.returns-then-not-rises
returns-then-not-rises c =
    let read-lists = c.read_lists in
    let lists = lists-found c.args.bytes.now _ c.if-bytes-lt47.false
    (λ x. omega (arith, c.type_inv.bytes x)) read-lists.ensures.value read-lists.ensures.gathered_in
    c.in_ok-count.was in
    let both = refused-reading _ (c.sort_by_attribute.new.entries ++ drop c.in_ok-count.count c.read_lists.new.items) _ (falls lists c.if-count-gt255.false (c.sort_by_attribute.new.entries ++ drop c.in_ok-count.count read-lists.new.items)
    (sorted-front read-lists.new.items _ _ (lists-fit lists c.if-count-gt255.false).enough c.sort_by_attribute.auto.entries c.sort_by_attribute.ensures) c.rises.ensures
    c.if-not-rises.true) in
    record { value = both.0; entries_stand = both.1; count_in_bounds = tt }
