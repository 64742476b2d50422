use Rattle.std.proofs.Common.{◌≡◌, ◌≤◌, ◌-◌, vec_len, vec_capacity}
use Rattle.streams.specs.Table.{IsStrictlySorted, streams_in, streams_over}
use Rattle.streams.proofs.entries.put_all.Given as goal

abbrev pub invariant-loop-listed : goal.invariant-loop-listed
invariant-loop-listed l = record {
  sorted : IsStrictlySorted l.entries.items;
  room : vec_len l.others ≤ vec_capacity l.entries - vec_len l.entries;
  streams : streams_over (streams_in l.others.items) (streams_in l.entries.items) ≡ streams_over (streams_in l.initial.others.items) (streams_in l.initial.entries.items);
}

abbrev pub decreases-loop-listed : goal.decreases-loop-listed
decreases-loop-listed l = vec_len l.others
