use Rattle.std.proofs.Common.{⊎_elim}
use Rattle.listing_entries.specs.Naming.{joined-none, joined-one, joined-two}
use Rattle.listing_entries.proofs.naming.add_named.Goals as goal

pub returns-in-Relation : goal.returns-in-Relation
returns-in-Relation c = ⊎_elim (λ is. rw is.1 (joined-none _)) (λ is. rw is.3 (joined-none _)) c.in-Relation.is

pub returns-in-Renaming : goal.returns-in-Renaming
returns-in-Renaming c = rw (c.in-Renaming.is, c.add-in-Renaming.ensures, c.add.ensures) (joined-two _ _ _)

pub returns-in-ProjectingOut : goal.returns-in-ProjectingOut
returns-in-ProjectingOut c = rw (c.in-ProjectingOut.is, c.add-in-ProjectingOut.ensures) (joined-one _ _)
