-- What a replica keeps in each of its states.
use Rattle.replica.specs.declared.kept.Kept.{Kept}
use Rattle.replica.specs.declared.phase.Phase.{Phase}
use Rattle.replica.specs.Content.{StoredContent}

-- what it holds in a state
abbrev pub held_as : Phase → Kept → StoredContent
held_as phase kept = record {
  content = record { places = kept.places; target = kept.target; fence = kept.fence; phase = phase; groups = kept.held.groups };
  room = kept.held.room;
}
