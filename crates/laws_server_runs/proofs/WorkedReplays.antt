-- A worked split, until the keys of the two ranges that it makes stand and the lower one is loaded: the streams of all ranges are in order, by
-- computing, and so what its server shows replays. There are texts over which it shows this.
use Rattle.std.proofs.Common.{◌≡◌, ◌⊎◌, inl, inr, ℕ, ◌<◌, ◌≤◌, List, [], ◌∷◌, ◌++◌, Some, None, Contains, suc, zero, false, true, refl, sym, ap, ◌∙◌, subst, arith, if◌then◌else◌, ◌==◌}
use Rattle.std.proofs.lemmas.Bool.{cases_eq}
use Rattle.blocks.specs.Record as numbers
use Rattle.replica.specs.Groups.{joined}
use Rattle.checkpoint_format.specs.Index as index_reading
use Rattle.metadata.specs.Reading as reading
use Rattle.wire.specs.declared.actor.ActorId.TheVariants.{Map, Manager, Node}
use Rattle.wire.specs.declared.body.Body.TheVariants as bodies
use Rattle.wire.specs.declared.body.CheckBody.TheVariants as checks
use Rattle.wire.specs.declared.body.MapBody.TheVariants as maps
use Rattle.wire.specs.declared.body.ReadBody.TheVariants as reads
use Rattle.wire.specs.declared.body.StreamBody.TheVariants as streams
use Rattle.wire.specs.declared.note.Note.{Note}
use Rattle.wire.specs.declared.note.Note.TheVariants.{Loaded, Split}
use Rattle.wire.specs.declared.rows.Row.{Row}
use Rattle.wire.specs.declared.streams.StreamLists.{StreamLists}
use Rattle.wire.specs.declared.streams.StreamKind.TheVariants as kinds
use Rattle.metadata.specs.declared.record.MetaItem.TheVariants.{Checkpoint}
use Rattle.model_partition.specs.declared.split_job.Side.{Side}
use Rattle.model_partition.specs.declared.split_job.Side.TheVariants.{Low, High}
use Rattle.model_partition.specs.declared.split_job.SplitJob.{SplitJob}
use Rattle.model_partition.specs.declared.split_job.SplitPhase.{SplitPhase}
use Rattle.model_partition.specs.declared.split_job.SplitPhase.TheVariants as phases
use Rattle.model_partition.specs.Loading.{Group}
use Rattle.model_partition.specs.Past.{Bytes, Replays, first_range}
use Rattle.model_partition.specs.Range.{RangeState}
use Rattle.model_partition.specs.Server.{ServerState, range_of, split_of}
use Rattle.model_partition.specs.Servers.{first_pick}
use Rattle.model_partition.specs.Splits.{side_range}
use Rattle.model_histories.specs.Log.{is_of, only}
use Rattle.model_histories.specs.ServedTables.{AllStand, AreSeenAs, AreUnborn, LoadsOnce, StreamsInOrder}
use Rattle.model_histories.specs.ServerRun.{ServerRun, ServerEvent, Takes, GivesUp, Checkpoints, Splits, Stops, Starts, Moment, Builds, run_of, metadata_name}
use Rattle.model_histories.specs.Story.{Copy, Placed, StreamEvent, Made, Answered, Showed, Story, placed, event_at, KeepsOrder, EndsRise}
use Rattle.model_histories.specs.StreamActions.{PlacedBytes}
use Rattle.model_histories.specs.StreamMachine.{In}
use Rattle.laws_tables.proofs.Fenced.{keeps_order, ends_rise}
use Rattle.laws_tables.proofs.Members.{in_contains}
use Rattle.laws_tables.proofs.Range.{event_cases}
use Rattle.laws_tables.specs.Families.{IsChild, generation_of}
use Rattle.laws_tables.specs.Fenced.{Seen, Landed, Fenced, LogRun, IsLogRun, visible}
use Rattle.laws_server_runs.specs.BornRanges.{AllInOrder, AllAreBorn, IsSplitOff}
use Rattle.laws_server_runs.specs.ChildInvariant.{AreBornSo, ChildAt, IsSaying}
use Rattle.laws_server_runs.specs.FamilyMembers.{of_servers}
use Rattle.laws_server_runs.specs.Turns.{BuildsOther}
use Rattle.laws_server_runs.proofs.Actions.{other_test}
use Rattle.laws_server_runs.proofs.NeededPremises.{one_once, one_ends}
use Rattle.laws_server_runs.proofs.SplitsReplay.{splits_replay}
use Rattle.laws_server_runs.proofs.UntouchedRanges.{IsUnused, HasNothing, StaysUnused, has_nothing}
use Rattle.laws_server_runs.proofs.Worked.{comes, asked, nothing}
use Rattle.laws_server_runs.proofs.WorkedBirths.{AllSound, AtState, at_state, births, only_number, rest, said_both, said_sound, told_built}
use Rattle.laws_server_runs.proofs.WorkedSplits.{begun, checkpointed, record_of, key, split_record, low_keys, high_keys}

-- ---- what comes

-- the record of the checkpoint that the range makes when its split begins, and the index of an empty table
abbrev pub checkpoint_record : Group
checkpoint_record = record_of 1 (Checkpoint false (record { extent = 20; offset = 0; length = 9 }) (record { index = 0; offset = 0 }) 1)

abbrev pub index : List ℕ
index = 0 ∷ 0 ∷ 0 ∷ 9 ∷ 0 ∷ 0 ∷ 0 ∷ 0 ∷ 0 ∷ []

-- the streams of the lower of the two, as they were built, with the extent of its keys
abbrev pub low_lists : StreamLists
low_lists = record {
  metadata = record { base = 0; extents = record { extent = 30; places = first_pick; length = Some 74 } ∷ record { extent = 31; places = first_pick; length = None } ∷ [] };
  log = nothing;
  row_data = record { base = 0; extents = record { extent = 20; places = first_pick; length = Some 9 } ∷ [] };
  blob_data = nothing;
}

-- the split ends and the map assigns the lower one, whose metadata is checked and read, then its index, and its load is confirmed
abbrev pub late : List ServerEvent
late =
    comes 1 Manager (bodies.Stream (streams.Confirmed (asked 1 26)))
    ∷ comes 1 (Node 1) (bodies.Read (reads.Bytes (asked 1 25) 20 0 index))
    ∷ comes 1 (Node 1) (bodies.Read (reads.Groups (asked 1 24) 31 (low_keys ∷ [])))
    ∷ comes 1 (Node 1) (bodies.Read (reads.Groups (asked 1 23) 30 (checkpoint_record ∷ split_record ∷ [])))
    ∷ comes 1 (Node 1) (bodies.Check (checks.Checked (asked 1 22) (Some 15)))
    ∷ comes 1 Manager (bodies.Stream (streams.Opened (asked 1 21) low_lists))
    ∷ comes 1 Map (bodies.Map (maps.Assign 2 2 100))
    ∷ comes 1 Map (bodies.Map (maps.SplitDone (asked 1 19)))
    ∷ []

abbrev pub loaded_low : List ServerEvent
loaded_low = late ++ said_both

-- ---- what its server makes of it

abbrev pub run : ServerRun
run = run_of 1 1 loaded_low

-- the metadata of the range
abbrev own_metadata : Story Group
own_metadata = Answered 3 46 74 ∷ Made 1 split_record ∷ Answered 1 0 46 ∷ Made 1 checkpoint_record ∷ Showed 1 0 0 [] ∷ []

-- that of one of the two, whose keys stand in an extent of its own
abbrev behind : Group → Story Group
behind keys = Answered 5 4294967296 4294967311 ∷ Made 1 keys ∷ own_metadata

-- what the load of the lower one shows of it
abbrev low_metadata : Story Group
low_metadata =
    Showed 2 0 4294967311 (record { from = 0; to = 46; group = checkpoint_record } ∷ record { from = 46; to = 74; group = split_record } ∷ record { from = 4294967296; to = 4294967311; group = low_keys } ∷ [])
    ∷ behind low_keys

-- the log of each: nothing but the load of the range, and of the lower one its own load
abbrev log : Story Group
log = Showed 1 0 0 [] ∷ []

abbrev low_log : Story Group
low_log = Showed 2 0 0 [] ∷ log

abbrev pub bytes_at : (extent offset : ℕ) → Group → PlacedBytes
bytes_at extent offset group = record { extent = extent; offset = offset; bytes = joined group }

abbrev index_bytes : PlacedBytes
index_bytes = record { extent = 20; offset = 0; bytes = index }

-- the index, and the two records of the range
abbrev pub own_bytes : List PlacedBytes
own_bytes = bytes_at 30 46 split_record ∷ bytes_at 30 0 checkpoint_record ∷ index_bytes ∷ []

stories : (run.story (metadata_name 1) ≡ own_metadata) × (run.story (metadata_name 2) ≡ low_metadata) × (run.story (metadata_name 3) ≡ behind high_keys)
unfolding numbers.number index_reading.index_at index_reading.body_at index_reading.one_page_at reading.record_at reading.next_at reading.item_at reading.ranges_at reading.checkpoint_at reading.status_at reading.keys_at reading.text_at reading.high_at reading.high_behind reading.place_at reading.position_at reading.flag_at
stories = (refl, refl, refl)

shown : (run.shown 1 ≡ []) × (run.shown 2 ≡ index_bytes ∷ []) × (run.shown 3 ≡ [])
unfolding numbers.number index_reading.index_at index_reading.body_at index_reading.one_page_at reading.record_at reading.next_at reading.item_at reading.ranges_at reading.checkpoint_at reading.status_at reading.keys_at reading.text_at reading.high_at reading.high_behind reading.place_at reading.position_at reading.flag_at
shown = (refl, refl, refl)

answered : (run.answered 1 ≡ own_bytes) × (run.answered 2 ≡ bytes_at 31 0 low_keys ∷ own_bytes) × (run.answered 3 ≡ bytes_at 32 0 high_keys ∷ own_bytes)
unfolding numbers.number index_reading.index_at index_reading.body_at index_reading.one_page_at reading.record_at reading.next_at reading.item_at reading.ranges_at reading.checkpoint_at reading.status_at reading.keys_at reading.text_at reading.high_at reading.high_behind reading.place_at reading.position_at reading.flag_at
answered = (refl, refl, refl)

-- ---- the metadata as a log with a fence, for any groups

module _ (A : Type 0) (first second third : A) where
  abbrev first_stood : Copy A
  first_stood = record { from = 0; to = 46; append = 1; group = first }

  abbrev second_stood : Copy A
  second_stood = record { from = 46; to = 74; append = 3; group = second }

  abbrev third_stood : Copy A
  third_stood = record { from = 4294967296; to = 4294967311; append = 5; group = third }

  abbrev at_first : LogRun A
  at_first = Seen (Showed 1 0 0 []) ∷ Fenced 1 0 ∷ []

  abbrev fenced : LogRun A
  fenced = Seen (Answered 3 46 74) ∷ Landed second_stood ∷ Seen (Made 1 second) ∷ Seen (Answered 1 0 46) ∷ Landed first_stood ∷ Seen (Made 1 first) ∷ at_first

  abbrev longer : LogRun A
  longer = Seen (Answered 5 4294967296 4294967311) ∷ Landed third_stood ∷ Seen (Made 1 third) ∷ fenced

  is_at_first : IsLogRun at_first
  is_at_first = (([], [], refl, refl), ((omega arith, omega arith), tt))

  is_fenced : IsLogRun fenced
  is_fenced = (
    (second, (1, omega arith, refl)),
    (
      (1, refl, omega arith, omega arith, omega arith),
      (
        omega arith,
        (
          (first, (0, omega arith, refl)),
          ((1, refl, omega arith, omega arith, omega arith), (omega arith, is_at_first)),
        ),
      ),
    ),
  )

  is_longer : IsLogRun longer
  is_longer = ((third, (2, omega arith, refl)), ((1, refl, omega arith, omega arith, omega arith), (omega arith, is_fenced)))

  own_keeps : KeepsOrder (visible fenced)
  own_keeps = keeps_order A fenced is_fenced

  behind_keeps : KeepsOrder (visible longer)
  behind_keeps = keeps_order A longer is_longer

  abbrev loaded : LogRun A
  loaded = Seen (Showed 2 0 4294967311 (placed first_stood ∷ placed second_stood ∷ placed third_stood ∷ [])) ∷ Fenced 2 4294967311 ∷ longer

  loaded_keeps : KeepsOrder (visible loaded)
  loaded_keeps = keeps_order A loaded ((longer, [], refl, refl), ((omega arith, omega arith), is_longer))

-- ---- logs without groups

module _ (A : Type 0) where
  -- all that is seen of it is loads, which show nothing
  abbrev OfLoads : Story A → Type 0
  OfLoads story = (l : ℕ) (event : StreamEvent A) → event_at story l ≡ Some event → (g : ℕ) × (event ≡ Showed g 0 0 [])

  none_among : (c : Copy A) → Contains [] c → ⊥
  none_among c among = let less = among.1 in omega (arith, less)

  none_split : (front back : List (Copy A)) (c : Copy A) → [] ≡ front ++ c ∷ back → ⊥
  none_split [] back c e = cc
  none_split (x ∷ front) back c e = cc

  shows_none : (g start end : ℕ) (groups : List (Placed A)) → (h : ℕ) × (Showed g start end groups ≡ Showed h 0 0 []) → groups ≡ []
  shows_none g start end groups load = let is : Showed g start end groups ≡ Showed load.0 0 0 [] = load.1 in cc

  no_append : (g : ℕ) (group : A) → (h : ℕ) × (Made g group ≡ Showed h 0 0 []) → ⊥
  no_append g group load = let is : Made g group ≡ Showed load.0 0 0 [] = load.1 in cc

  -- it keeps its order with no copies
  abbrev empty_keeps : (story : Story A) → OfLoads story → KeepsOrder story
  empty_keeps story loads = record {
    copies = λ l. [];
    shown = λ l g start end groups at. shows_none g start end groups (loads l (Showed g start end groups) at);
    ascending = λ l front back c d is among. absurd (none_split front back c is);
    not_empty = λ l c among. absurd (none_among c among);
    ends = λ l g start end groups c at among. absurd (none_among c among);
    handed = λ l g start end groups c at among. absurd (none_among c among);
    answered = λ l g start end a g' k from to groups group at made below is. absurd (no_append g' group (loads a (Made g' group) made));
    after = λ l a k from to c among. absurd (none_among c among);
    begins = λ l m g h start end start' end' groups groups' first second less. ([], refl, λ c among. absurd (none_among c among));
  }

  abbrev one_load : Story A
  one_load = Showed 1 0 0 [] ∷ []

  abbrev two_loads : Story A
  two_loads = Showed 2 0 0 [] ∷ one_load

  one_of_loads : OfLoads one_load
  one_of_loads l event at = elim (event_cases A (Showed 1 0 0 []) [] l event at) [ inl q ↦ (1, sym q.1) | inr none ↦ absurd cc ]

  two_of_loads : OfLoads two_loads
  two_of_loads l event at = elim (event_cases A (Showed 2 0 0 []) one_load l event at) [ inl q ↦ (2, sym q.1) | inr older ↦ one_of_loads l event older ]

  -- which load is of which generation
  LoadIs : ℕ → ℕ → Type 0
  LoadIs l g = ((l ≡ 1) × (g ≡ 2)) ⊎ ((l ≡ 0) × (g ≡ 1))

  load_is : (l g start end : ℕ) (groups : List (Placed A)) → event_at two_loads l ≡ Some (Showed g start end groups) → LoadIs l g
  unfolding LoadIs
  load_is l g start end groups at = elim (event_cases A (Showed 2 0 0 []) one_load l (Showed g start end groups) at) [
    | inl q ↦ (let s : 2 ≡ g = cc in inl (q.0, sym s))
    | inr older ↦ elim (event_cases A (Showed 1 0 0 []) [] l (Showed g start end groups) older) [
      | inl q ↦ (let s : 1 ≡ g = cc in inr (q.0, sym s))
      | inr none ↦ absurd cc
    ]
  ]

  two_once : LoadsOnce two_loads
  unfolding LoadIs
  two_once l m g start end start' end' groups groups' first second = grind (arith, load_is l g start end groups first, load_is m g start' end' groups' second)

  two_ends : EndsRise two_loads
  two_ends = ends_rise A (Seen (Showed 2 0 0 []) ∷ Fenced 2 0 ∷ Seen (Showed 1 0 0 []) ∷ Fenced 1 0 ∷ []) ((Seen (Showed 1 0 0 []) ∷ Fenced 1 0 ∷ [], [], refl, refl), ((omega arith, omega arith), (([], [], refl, refl), ((omega arith, omega arith), tt))))

-- ---- no other range has any streams

-- the server has the first range at most, or the second, and its split says the keys of the second and the third
abbrev SaysOfTwo : SplitJob → SplitPhase → Type 0
SaysOfTwo job (phases.Keys out c) = (job.low ≡ 2) × (job.high ≡ 3)
SaysOfTwo job phase = Unit {0}

abbrev HasFirst : List (ℕ × RangeState) → Type 0
HasFirst [] = Unit {0}
HasFirst ((holder, r) ∷ []) = (holder ≡ 1) ⊎ (holder ≡ 2)
HasFirst ranges = ⊥

abbrev SplitsFirst : List (ℕ × SplitJob) → Type 0
SplitsFirst [] = Unit {0}
SplitsFirst ((split, job) ∷ []) = SaysOfTwo job job.phase
SplitsFirst splits = ⊥

abbrev OfThree : ServerState → Type 0
OfThree st = HasFirst st.ranges × SplitsFirst st.splits

abbrev BuildsTwo : ServerEvent → Type 0
BuildsTwo (Builds source range) = (range ≡ 2) ⊎ (range ≡ 3)
BuildsTwo event = Unit {0}

abbrev AllOfThree : List ServerEvent → Type 0
AllOfThree [] = Unit {0}
AllOfThree (event ∷ earlier) = AtState OfThree (run_of 1 1 (event ∷ earlier)).servers × BuildsTwo event × AllOfThree earlier

begun_three : AllOfThree begun
unfolding numbers.number
begun_three = ((inl refl, tt), tt, ((inl refl, tt), tt, ((inl refl, tt), tt, ((inl refl, tt), tt, ((inl refl, tt), tt, tt)))))

checkpointed_three : AllOfThree checkpointed
unfolding numbers.number
checkpointed_three = ((inl refl, tt), tt, ((inl refl, tt), tt, ((inl refl, tt), tt, ((inl refl, tt), tt, ((inl refl, tt), tt, begun_three)))))

built_three : AllOfThree told_built
unfolding numbers.number
built_three = ((inl refl, (refl, refl)), tt, ((inl refl, tt), inr refl, ((inl refl, tt), inl refl, ((inl refl, tt), tt, ((inl refl, tt), tt, ((inl refl, tt), tt, checkpointed_three))))))

said_three : AllOfThree said_both
unfolding numbers.number
said_three = ((inl refl, tt), tt, ((inl refl, (refl, refl)), tt, ((inl refl, (refl, refl)), tt, ((inl refl, (refl, refl)), tt, built_three))))

loaded_three : AllOfThree loaded_low
unfolding numbers.number index_reading.index_at index_reading.body_at index_reading.one_page_at reading.record_at reading.next_at reading.item_at reading.ranges_at reading.checkpoint_at reading.status_at reading.keys_at reading.text_at reading.high_at reading.high_behind reading.place_at reading.position_at reading.flag_at
loaded_three = ((inr refl, tt), tt, ((inr refl, tt), tt, ((inr refl, tt), tt, ((inr refl, tt), tt, ((inr refl, tt), tt, ((inr refl, tt), tt, ((inr refl, tt), tt, ((tt, tt), tt, said_three))))))))

module _ (n : ℕ) (not_first : n ≡ 1 → ⊥) (not_second : n ≡ 2 → ⊥) (not_third : n ≡ 3 → ⊥) where
  unheld_first : (ranges : List (ℕ × RangeState)) → HasFirst ranges → (r : RangeState) → range_of ranges n ≡ Some r → ⊥
  unheld_first [] first r e = cc
  unheld_first ((holder, held) ∷ []) first r e =
      elim first [ inl is ↦ not_first ((only_number n holder held r e).0 ∙ is) | inr is ↦ not_second ((only_number n holder held r e).0 ∙ is) ]
  unheld_first (one ∷ two ∷ more) first r e = first

  says_other : (job : SplitJob) (phase : SplitPhase) → IsSaying phase → SaysOfTwo job phase → (side : Side) → n ≡ side_range job side → ⊥
  says_other job (phases.Keys out c) saying two Low is = not_second (is ∙ two.0)
  says_other job (phases.Keys out c) saying two High is = not_third (is ∙ two.1)
  says_other job (phases.Begin q) saying two side is = saying
  says_other job phases.Checkpoint saying two side is = saying
  says_other job phases.Queue saying two side is = saying
  says_other job phases.Record saying two side is = saying
  says_other job (phases.Seal kind q) saying two side is = saying
  says_other job (phases.Build q) saying two side is = saying
  says_other job (phases.Complete q) saying two side is = saying

  unsaid_splits : (splits : List (ℕ × SplitJob)) → SplitsFirst splits → (range : ℕ) (job : SplitJob) → split_of splits range ≡ Some job → IsSaying job.phase → (side : Side) → n ≡ side_range job side → ⊥
  unsaid_splits [] first range job e saying side is = cc
  unsaid_splits ((split, z) ∷ []) first range job e saying side is =
      says_other job job.phase saying (subst (λ (j : SplitJob). SaysOfTwo j j.phase) (sym (only_number range split z job e).1) first) side is
  unsaid_splits (one ∷ two ∷ more) first range job e saying side is = first

  unused : (x : ServerRun) → AtState OfThree x.servers → IsUnused n x
  unused x three = record {
    unheld = λ s cell st e runs r held. unheld_first st.ranges (at_state OfThree x.servers three s cell st e runs).0.0 r held;
    unsaid = λ s range c saying. unsaid_splits c.state.splits (at_state OfThree x.servers three s c.cell c.state c.there c.runs).0.1 range c.job c.found saying c.side c.is;
  }

  builds_other : (event : ServerEvent) → BuildsTwo event → BuildsOther n event
  builds_other (Builds source range) (inl is) other built e = let same : range ≡ built = cc in λ k. not_second (sym k ∙ sym same ∙ is)
  builds_other (Builds source range) (inr is) other built e = let same : range ≡ built = cc in λ k. not_third (sym k ∙ sym same ∙ is)
  builds_other (Takes s p) two other built e = absurd cc
  builds_other (GivesUp s range pick) two other built e = absurd cc
  builds_other (Checkpoints s range combine) two other built e = absurd cc
  builds_other (Splits s range key) two other built e = absurd cc
  builds_other (Stops s call) two other built e = absurd cc
  builds_other (Starts s now size) two other built e = absurd cc
  builds_other (Moment now) two other built e = absurd cc

  stays_unused : (events : List ServerEvent) → AllOfThree events → StaysUnused n 1 1 events
  stays_unused [] three = tt
  stays_unused (event ∷ earlier) three = (unused (run_of 1 1 (event ∷ earlier)) three.0, builds_other event three.1, stays_unused earlier three.2)

  has_none : HasNothing n run
  has_none = has_nothing n 1 1 loaded_low (stays_unused loaded_low loaded_three)

-- ---- its split

-- no split makes the first range, nor are its streams built of another's
pub unnumbered : AreUnborn first_range loaded_low
unnumbered = (tt, (tt, (tt, (tt, (tt, (tt, (tt, (tt, (tt, (tt, (tt, (tt, (tt, (λ e. absurd cc, (λ e. absurd cc, (tt, (tt, (tt, (tt, (tt, (tt, (tt, (tt, ((λ e. absurd cc, λ e. absurd cc), (tt, (tt, (tt, (tt, tt))))))))))))))))))))))))))))

-- when both keys stand it waits for its end
abbrev split_at : ChildAt (run_of 1 1 said_both) 1 1 2
unfolding numbers.number
split_at = record { cell = _; state = _; there = refl; runs = refl; job = _; found = refl; pair = tt; side = Low; is = refl }

-- what is premised of births
loaded_sound : (texts : ℕ → Bytes) → AllSound texts loaded_low
unfolding numbers.number index_reading.index_at index_reading.body_at index_reading.one_page_at reading.record_at reading.next_at reading.item_at reading.ranges_at reading.checkpoint_at reading.status_at reading.keys_at reading.text_at reading.high_at reading.high_behind reading.place_at reading.position_at reading.flag_at
loaded_sound texts = (tt, tt, (tt, tt, (tt, tt, (tt, tt, (tt, tt, (tt, tt, (tt, tt, (tt, tt, said_sound texts))))))))

born_so : (texts : ℕ → Bytes) → AreBornSo texts 1 1 loaded_low
born_so texts = births texts loaded_low (loaded_sound texts)

-- ---- over texts in which stands what was answered for

module _ (texts : ℕ → Bytes) (there : AllStand texts (bytes_at 32 0 high_keys ∷ bytes_at 31 0 low_keys ∷ own_bytes)) where
  other_ordered : (n : ℕ) → HasNothing n run → StreamsInOrder texts n run
  other_ordered n none = record {
    metadata = subst KeepsOrder (sym (none.story kinds.Metadata)) (keeps_order Group [] tt);
    log = subst KeepsOrder (sym (none.story kinds.Log)) (keeps_order Group [] tt);
    once = subst LoadsOnce (sym (none.story kinds.Log)) (λ l m g start end start' end' groups groups' one two. absurd cc);
    ends = subst EndsRise (sym (none.story kinds.Log)) (ends_rise Group [] tt);
    shown = subst (AllStand texts) (sym none.shown) tt;
    answered = subst (AllStand texts) (sym none.answered) tt;
  }

  -- the streams of all ranges are in order
  pub in_order : AllInOrder texts 1 1 loaded_low
  unfolding numbers.number index_reading.index_at index_reading.body_at index_reading.one_page_at reading.record_at reading.next_at reading.item_at reading.ranges_at reading.checkpoint_at reading.status_at reading.keys_at reading.text_at reading.high_at reading.high_behind reading.place_at reading.position_at reading.flag_at
  in_order (suc zero) = record {
    metadata = subst KeepsOrder (sym stories.0) (own_keeps Group checkpoint_record split_record low_keys);
    log = empty_keeps Group log (one_of_loads Group);
    once = one_once Group (Showed 1 0 0 []);
    ends = one_ends Group (Showed 1 0 0 []);
    shown = subst (AllStand texts) (sym shown.0) tt;
    answered = subst (AllStand texts) (sym answered.0) there.1.1;
  }
  in_order (suc (suc zero)) = record {
    metadata = subst KeepsOrder (sym stories.1) (loaded_keeps Group checkpoint_record split_record low_keys);
    log = empty_keeps Group low_log (two_of_loads Group);
    once = two_once Group;
    ends = two_ends Group;
    shown = subst (AllStand texts) (sym shown.1) (there.1.1.1.1.0, tt);
    answered = subst (AllStand texts) (sym answered.1) there.1;
  }
  in_order (suc (suc (suc zero))) = record {
    metadata = subst KeepsOrder (sym stories.2) (behind_keeps Group checkpoint_record split_record high_keys);
    log = empty_keeps Group log (one_of_loads Group);
    once = one_once Group (Showed 1 0 0 []);
    ends = one_ends Group (Showed 1 0 0 []);
    shown = subst (AllStand texts) (sym shown.2) tt;
    answered = subst (AllStand texts) (sym answered.2) (there.0, there.1.1);
  }
  in_order zero = other_ordered 0 (has_none 0 (λ e. absurd cc) (λ e. absurd cc) (λ e. absurd cc))
  in_order (suc (suc (suc (suc n)))) = other_ordered (suc (suc (suc (suc n)))) (has_none (suc (suc (suc (suc n)))) (λ e. absurd cc) (λ e. absurd cc) (λ e. absurd cc))

  -- the lower one reads what it has of the log as the range that was split did
  pub same_copies : (l : ℕ) → (in_order 2).log.copies l ≡ (in_order 1).log.copies l
  unfolding in_order
  same_copies l = refl

  -- the map says of the split that it made the two, after the range was loaded and before the lower one was
  module _ (rows low_rows : List Row) where
    abbrev pub h : List Note
    h = Loaded 1 1 rows 1 ∷ Split 1 2 3 key ∷ Loaded 2 2 low_rows 1 ∷ []

    abbrev pub is_child : IsChild h 1 2
    is_child = record {
      before = Loaded 1 1 rows 1 ∷ [];
      after = Loaded 2 2 low_rows 1 ∷ [];
      low = 2;
      high = 3;
      key = key;
      is = refl;
      half = inl refl;
      low_above = omega arith;
      high_above = omega arith;
      no_child_birth = (refl, tt);
      no_parent_birth = (refl, tt);
    }

    highest : (note : Note) → Contains h note → is_of 1 note ≡ true → generation_of note ≤ 1
    highest note among of = go (in_contains note h among)
      where
        go : In note h → generation_of note ≤ 1
        go (inl is) = subst (λ n. generation_of n ≤ 1) (sym is) (omega arith)
        go (inr (inl is)) = absurd (let z : false ≡ true = sym (ap (is_of 1) is) ∙ of in cc)
        go (inr (inr (inl is))) = absurd (let z : false ≡ true = sym (ap (is_of 1) is) ∙ of in cc)
        go (inr (inr (inr none))) = absurd none

    above : (note : Note) → Contains h note → is_of 2 note ≡ true → 1 < generation_of note
    above note among of = go (in_contains note h among)
      where
        go : In note h → 1 < generation_of note
        go (inl is) = absurd (let z : false ≡ true = sym (ap (is_of 2) is) ∙ of in cc)
        go (inr (inl is)) = absurd (let z : false ≡ true = sym (ap (is_of 2) is) ∙ of in cc)
        go (inr (inr (inl is))) = subst (λ n. 1 < generation_of n) (sym is) (omega arith)
        go (inr (inr (inr none))) = absurd none

    split_off : IsSplitOff texts 1 1 h loaded_low in_order 1 2
    unfolding numbers.number in_order
    split_off = record {
      after = late;
      until = said_both;
      is = refl;
      server = 1;
      split = split_at;
      told = record { waits = tt; child = is_child; low = refl; high = refl; key = refl; highest = highest; above = above };
      shared = λ later early is l g start end groups at. refl;
    }

    -- no other is told of
    pub untold : (r : ℕ) → (r ≡ 1 → ⊥) → (r ≡ 2 → ⊥) → only r h ≡ []
    untold r not_first not_second =
        rest r (Loaded 1 1 rows 1) (Split 1 2 3 key ∷ Loaded 2 2 low_rows 1 ∷ []) (other_test r 1 not_first)
        (rest r (Split 1 2 3 key) (Loaded 2 2 low_rows 1 ∷ []) refl (rest r (Loaded 2 2 low_rows 1) [] (other_test r 2 not_second) refl))

    all_born : AllAreBorn texts 1 1 h loaded_low in_order
    all_born r = elim (cases_eq r 1) [
      | inl is ↦ inr (inl is)
      | inr not_first ↦ elim (cases_eq r 2) [
        | inl is ↦ inr (inr (1, subst (IsSplitOff texts 1 1 h loaded_low in_order 1) (sym is) split_off))
        | inr not_second ↦ inl (untold r not_first not_second)
      ]
    ]

    -- WHAT ITS SERVER SHOWS REPLAYS, whatever its rows are
    pub worked_replays : AreSeenAs texts run.notes (of_servers h) → Replays h
    worked_replays seen = splits_replay texts 1 1 h loaded_low (born_so texts) in_order seen unnumbered (refl, (refl, (refl, tt))) all_born

-- ---- over texts with nothing else

-- what was answered for, and no more
abbrev written : ℕ → Bytes
written e =
    if e == 20 then index else if e == 30 then joined checkpoint_record ++ joined split_record else if e == 31 then joined low_keys else if e == 32 then joined high_keys else []

-- all of it stands there
stand : AllStand written (bytes_at 32 0 high_keys ∷ bytes_at 31 0 low_keys ∷ own_bytes)
unfolding numbers.number
stand = (
  record { before = []; behind = []; is = refl; at = refl },
  (
    record { before = []; behind = []; is = refl; at = refl },
    (
      record { before = joined checkpoint_record; behind = []; is = refl; at = refl },
      (record { before = []; behind = joined split_record; is = refl; at = refl }, (record { before = []; behind = []; is = refl; at = refl }, tt)),
    ),
  ),
)

-- both loads show no rows
no_rows : AreSeenAs written run.notes (Loaded 1 1 [] 1 ∷ Loaded 2 2 [] 1 ∷ [])
unfolding numbers.number index_reading.index_at index_reading.body_at index_reading.one_page_at reading.record_at reading.next_at reading.item_at reading.ranges_at reading.checkpoint_at reading.status_at reading.keys_at reading.text_at reading.high_at reading.high_behind reading.place_at reading.position_at reading.flag_at
no_rows = (([], refl, λ key. refl), (([], refl, λ key. refl), tt))

-- so what it shows over these texts replays
pub empty_replays : Replays (Loaded 1 1 [] 1 ∷ Split 1 2 3 key ∷ Loaded 2 2 [] 1 ∷ [])
empty_replays = worked_replays written stand [] [] no_rows
