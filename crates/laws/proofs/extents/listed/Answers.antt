use Rattle.laws_streams.proofs.Listings.{lists_grow}
use Rattle.laws.proofs.extents.listed.Goals as goal

pub returns : goal.returns
returns c = record { grow = lists_grow }
