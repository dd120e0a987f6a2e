use Rattle.std.proofs.Common.{rules}
use Rattle.special_maps.specs.Special.{subsets_from, subset_from}
use Rattle.special_maps.proofs.Made.{made_by}
use Rattle.special_maps.proofs.subsets_from.Goals as goal

pub returns : goal.returns
unfolding subsets_from
returns c = made_by (subset_from c.args.maps.now) 16 _ _ (λ j y q h k. (search rules, search rules)) c.from_fn.ensures.items
