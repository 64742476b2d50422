-- A range that is split, by computing: what a server does with its streams and with those of the two ranges that the split makes, up to
-- its end. The number of the range is given to neither of the two.
use Rattle.std.proofs.Common.{◌≡◌, ℕ, ◌+◌, List, [], ◌∷◌, Some, None, refl}
use Rattle.blocks.specs.Record as numbers
use Rattle.block_types.specs.Limits.{group_size}
use Rattle.wire.specs.declared.actor.ActorId.TheVariants.{Map, Manager, Node}
use Rattle.wire.specs.declared.body.AppendBody.TheVariants as appends
use Rattle.wire.specs.declared.body.Body.TheVariants as bodies
use Rattle.wire.specs.declared.body.MapBody.TheVariants as maps
use Rattle.wire.specs.declared.body.SealBody.TheVariants as seals
use Rattle.wire.specs.declared.body.StreamBody.TheVariants as streams
use Rattle.metadata.specs.declared.record.MetaItem.{MetaItem}
use Rattle.metadata.specs.declared.record.MetaItem.TheVariants.{Ranges, SplitStatus}
use Rattle.metadata.specs.Record.{spelling}
use Rattle.model_partition.specs.Loading.{Group}
use Rattle.model_partition.specs.Past.{first_range}
use Rattle.model_partition.specs.Servers.{first_pick}
use Rattle.model_histories.specs.Story.{Made, Answered, Story}
use Rattle.model_histories.specs.StreamMachine.{base}
use Rattle.model_histories.specs.ServerRun.{ServerEvent, Splits, run_of, metadata_name}
use Rattle.model_histories.specs.ServedTables.{AreUnborn}
use Rattle.laws_server_runs.proofs.Worked.{comes, asked, lists}

-- ---- what comes

abbrev pub key : List ℕ
key = 109 ∷ []

-- an answer of a node, of the manager, or of the map
abbrev pub stands_at : (count extent offset : ℕ) → ServerEvent
stands_at count extent offset = comes 1 (Node 1) (bodies.Append (appends.Appended (asked 1 count) extent offset))

abbrev pub grows_to : (count extent : ℕ) → ServerEvent
grows_to count extent = comes 1 Manager (bodies.Stream (streams.Extended (asked 1 count) extent first_pick))

abbrev pub sealed_at : (count extent length : ℕ) → ServerEvent
sealed_at count extent length = comes 1 Manager (bodies.Seal (seals.SealedIs (asked 1 count) extent length))

-- the range is served, and its split begins
abbrev pub begun : List ServerEvent
begun =
    comes 1 Map (bodies.Map (maps.SplitBegun (asked 1 4) 2 3))
    ∷ Splits 1 1 key
    ∷ comes 1 Manager (bodies.Stream (streams.Confirmed (asked 1 2)))
    ∷ comes 1 Manager (bodies.Stream (streams.Opened (asked 1 1) (lists [])))
    ∷ comes 1 Map (bodies.Map (maps.Assign 1 1 100))
    ∷ []

-- its checkpoint is made: the index stands in extent 20 and the record in extent 30
abbrev pub checkpointed : List ServerEvent
checkpointed =
    comes 1 Manager (bodies.Stream (streams.Trimmed (asked 1 9)))
    ∷ stands_at 8 30 0 ∷ grows_to 7 30 ∷ stands_at 6 20 0 ∷ grows_to 5 20 ∷ begun

-- the split's record stands behind it, and the last extents are sealed
abbrev pub recorded : List ServerEvent
recorded = stands_at 10 30 46 ∷ checkpointed

abbrev pub built : List ServerEvent
built = comes 1 Manager (bodies.Stream (streams.Modified (asked 1 14))) ∷ sealed_at 13 20 9 ∷ sealed_at 12 30 74 ∷ recorded

-- the keys stand in the metadata of the two, each in an extent of its own
abbrev pub said_low : List ServerEvent
said_low = stands_at 16 31 0 ∷ grows_to 15 31 ∷ built

abbrev pub said_high : List ServerEvent
said_high = stands_at 18 32 0 ∷ grows_to 17 32 ∷ said_low

-- ---- what its server makes of it

-- a group of one record of metadata
abbrev pub record_of : ℕ → MetaItem → Group
record_of number item = spelling (record { number = number; item = item }) ∷ []

-- the record of the split
abbrev pub split_record : Group
split_record = record_of 2 (SplitStatus 2 3 key)

-- the record of the keys of the lower of the two
abbrev pub low_keys : Group
low_keys = record_of 3 (Ranges (record { low = []; high = Some key }))

-- that of the upper
abbrev pub high_keys : Group
high_keys = record_of 3 (Ranges (record { low = key; high = None }))

-- the two begin with the extent of the range's metadata, so that theirs are at index 1
abbrev one_record : Group → Story Group
one_record group = Answered 0 (base 1 + 0) ((base 1 + 0) + group_size group) ∷ Made 1 group ∷ []

low_story : (run_of 1 1 said_high).story (metadata_name 2) ≡ one_record low_keys
unfolding numbers.number
low_story = refl

high_story : (run_of 1 1 said_high).story (metadata_name 3) ≡ one_record high_keys
unfolding numbers.number
high_story = refl

-- the split's record is the fourth event of the range's own metadata
own_story : (rest : Story Group) × ((run_of 1 1 said_high).story (metadata_name first_range) ≡ Answered 3 (base 0 + 46) ((base 0 + 46) + group_size split_record) ∷ Made 1 split_record ∷ rest)
unfolding numbers.number
own_story = (_, refl)

-- no split made it
unborn : AreUnborn first_range said_high
unborn = (tt, (tt, (tt, (tt, (tt, (tt, (tt, (tt, (tt, (tt, (tt, (tt, (tt, ((λ e. absurd cc, λ e. absurd cc), (tt, (tt, (tt, (tt, tt))))))))))))))))))
