use Rattle.std.proofs.Common.{rules}
use Rattle.special_maps.specs.Special.{maps_from, map_of}
use Rattle.special_maps.proofs.Made.{made_by}
use Rattle.special_maps.proofs.maps_from.Goals as goal

pub returns : goal.returns
unfolding maps_from
returns c = made_by (map_of c.args.subsets.now) 8 _ _ (λ j y q h k. (search rules, search rules)) c.from_fn.ensures.items
