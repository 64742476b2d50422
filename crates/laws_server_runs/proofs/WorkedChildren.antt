-- The two ranges that a split makes, by computing: the streams of each are built of those of the range as they stand when all that it
-- made is answered, and then the split says the keys of each in its metadata, behind what the range has done.
use Rattle.std.proofs.Common.{◌≡◌, ◌+◌, List, [], ◌∷◌, Some, refl}
use Rattle.blocks.specs.Record as numbers
use Rattle.block_types.specs.Limits.{group_size}
use Rattle.wire.specs.declared.actor.ActorId.TheVariants.{Manager}
use Rattle.wire.specs.declared.body.Body.TheVariants as bodies
use Rattle.wire.specs.declared.body.StreamBody.TheVariants as streams
use Rattle.metadata.specs.declared.record.MetaItem.TheVariants.{Ranges, SplitStatus}
use Rattle.metadata.specs.Record.{spelling}
use Rattle.model_partition.specs.Loading.{Group}
use Rattle.model_partition.specs.Past.{first_range}
use Rattle.model_histories.specs.Story.{Made, Answered, Showed, Story}
use Rattle.model_histories.specs.StreamMachine.{base}
use Rattle.model_histories.specs.ServerRun.{ServerEvent, Builds, run_of, log_name, metadata_name}
use Rattle.laws_server_runs.proofs.Worked.{comes, asked}
use Rattle.laws_server_runs.proofs.WorkedSplits.{key, recorded, sealed_at, stands_at, grows_to}

-- ---- what comes

-- the last extents are sealed, the streams of both are built, and the split hears of it
abbrev built : List ServerEvent
built =
    comes 1 Manager (bodies.Stream (streams.Modified (asked 1 14)))
    ∷ Builds first_range 3 ∷ Builds first_range 2 ∷ sealed_at 13 20 9 ∷ sealed_at 12 30 74 ∷ recorded

-- the keys of the lower one stand, in an extent of its own
abbrev said_low : List ServerEvent
said_low = stands_at 16 31 0 ∷ grows_to 15 31 ∷ built

-- ---- what they make of it

abbrev split_record : Group
split_record = spelling (record { number = 2; item = SplitStatus 2 3 key }) ∷ []

abbrev low_keys : Group
low_keys = spelling (record { number = 3; item = Ranges (record { low = []; high = Some key }) }) ∷ []

-- the keys are the sixth event of its metadata, behind the split's record, which is the range's fourth
low_metadata : (rest : Story Group) × ((run_of 1 1 said_low).story (metadata_name 2)
    ≡ Answered 5 (base 1 + 0) ((base 1 + 0) + group_size low_keys) ∷ Made 1 low_keys ∷ Answered 3 (base 0 + 46) ((base 0 + 46) + group_size split_record) ∷ Made 1 split_record ∷ rest)
unfolding numbers.number
low_metadata = (_, refl)

-- its log is the range's, of which nothing but the load was seen
low_log : (run_of 1 1 built).story (log_name 2) ≡ Showed 1 0 0 [] ∷ []
unfolding numbers.number
low_log = refl
