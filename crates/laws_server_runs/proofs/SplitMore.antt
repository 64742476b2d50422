-- What the steps of a split keep of its range: it pauses, the append of the split's record begins, the record stands, and the last
-- extents of its streams are sealed.
use Rattle.std.proofs.Common.{◌≡◌, ℕ, suc, ◌+◌, ◌<◌, ◌^◌, true, ◌&&◌, ◌==◌, nat_lt, List, [], ◌∷◌, ◌++◌, length, Option, Some, None, refl, sym, ap, ◌∙◌, subst, inl, inr, arith}
use Rattle.std.proofs.lemmas.Bool.{and_parts, eqb-true, ltb-true}
use Rattle.std.proofs.lemmas.List.{append-nil}
use Rattle.block_types.specs.Limits.{group_size}
use Rattle.blocks.proofs.Formats.{within}
use Rattle.replica.specs.Groups.{joined}
use Rattle.wire.specs.declared.note.Note.{Note}
use Rattle.wire.specs.declared.packet.Packet.{Packet}
use Rattle.wire.specs.declared.streams.StreamKind.{StreamKind}
use Rattle.wire.specs.declared.streams.StreamKind.TheVariants as kinds
use Rattle.metadata.specs.Fold.{taken}
use Rattle.metadata.specs.Record.{IsNext, IsKey}
use Rattle.metadata.proofs.Laws.{record_again}
use Rattle.client.specs.declared.job.Job.TheVariants as jobs
use Rattle.client.specs.Client.{ClientState}
use Rattle.model_partition.specs.declared.pause.Pause.TheVariants as pauses
use Rattle.model_partition.specs.declared.split_job.SplitJob.{SplitJob}
use Rattle.model_partition.specs.declared.split_job.SplitPhase.TheVariants as phases
use Rattle.model_partition.specs.CheckpointStates.{CheckpointState}
use Rattle.model_partition.specs.Splits.{split_item, split_record, with_phase, may_record, has_record, have_range_numbers, is_record_key, with_last_sealed}
use Rattle.model_partition.specs.Past.{Bytes}
use Rattle.model_partition.specs.Range.{RangeState, RangeOutcome, is_serving}
use Rattle.model_histories.specs.Renaming.{renamed_event, one_record, decoded_record}
use Rattle.model_histories.specs.ServerRun.{place_number}
use Rattle.model_histories.specs.ServedTables.{AreSeenAs}
use Rattle.model_histories.specs.StreamActions.{StreamAction, Reads, Forms, Stands, Shows, Finds, Stores, last_position, split_group}
use Rattle.model_histories.specs.Log.{without_gots}
use Rattle.laws_loads.proofs.Renaming.{mapped_length}
use Rattle.laws_loads.specs.RangeView.{RangeView, SplitStage, Free, Drains, Recording, view_after, view_after_all, metadata_of}
use Rattle.laws_tables.specs.Runs as chains
use Rattle.laws_tables.specs.Runs.{Event, Run, Serving, first_beginning, held, items_out, recording, said, IsServing, MayInChain}
use Rattle.laws_checkpoints.specs.IndexLayers.{layer_at}
use Rattle.laws_checkpoints.proofs.CheckpointRecords.{said_with, said_number}
use Rattle.laws_server_runs.specs.CheckpointInvariant.{parts_of, HoldsNone, HoldsCheckpoint, AppendsRows, AppendsMetadata, IsAppending}
use Rattle.laws_server_runs.specs.RangeInvariant.{Matches, Serves, RangeKept, StreamsKept, AreObserved, GoesOn, Rests, Adds, IsLonger, InOrder, KeptIf, StepKept}
use Rattle.laws_server_runs.specs.RunInvariant.{with_stage, LeavesNumber, SplitKept, HeldIf, TurnKept}
use Rattle.laws_server_runs.proofs.CheckpointStreams.{recording_streams, recorded_streams}
use Rattle.laws_server_runs.proofs.Fronts.{longer_twice}
use Rattle.laws_server_runs.proofs.MetadataJobs.{HasNoRecord}
use Rattle.laws_server_runs.proofs.Others.{streams_same}
use Rattle.laws_server_runs.proofs.RowAppends.{appends_left}
use Rattle.laws_server_runs.proofs.ServedNotes.{serves_of, kept_served, anew_served, goes_both, view_both, same_here}

-- ---- a view whose range is split so

staged_action : (g : ℕ) (v : RangeView) (split : SplitStage) (action : StreamAction) → view_after g (with_stage v split) action ≡ with_stage (view_after g v action) split
staged_action g v split (Reads kind read) = refl
staged_action g v split (Forms kind group) = refl
staged_action g v split (Stands kind extent at group) = refl
staged_action g v split (Shows start log_end metadata_end) = refl
staged_action g v split (Finds found) = refl
staged_action g v split (Stores stored) = refl

pub staged : (g : ℕ) (v : RangeView) (split : SplitStage) (actions : List StreamAction) → view_after_all g (with_stage v split) actions ≡ with_stage (view_after_all g v actions) split
staged g v split [] = refl
staged g v split (action ∷ earlier) = ap (λ w. view_after g w action) (staged g v split earlier) ∙ staged_action g (view_after_all g v earlier) split action

module _ (texts : ℕ → Bytes) where
  -- what is premised of streams says nothing of it
  pub order_staged : (v : RangeView) (split : SplitStage) → InOrder texts v → InOrder texts (with_stage v split)
  order_staged v split o = record { log = o.log; metadata = o.metadata; once = o.once; ends = o.ends; shown = o.shown; answered = o.answered }

  -- nor does what is kept of them
  pub streams_staged : (run : Run) (v : RangeView) (split : SplitStage) → StreamsKept texts run v → StreamsKept texts run (with_stage v split)
  streams_staged run v split = streams_same texts run v (with_stage v split) refl refl

  pub streams_plain : (run : Run) (v : RangeView) (split : SplitStage) → StreamsKept texts run (with_stage v split) → StreamsKept texts run v
  streams_plain run v split = streams_same texts run (with_stage v split) v refl refl

module _ (texts : ℕ → Bytes) (subject : ℕ) where
  -- ---- a step of the range alone

  abbrev pub SplitLeft : SplitStage → Option SplitJob → Option RangeState → Type 0
  SplitLeft split later None = Unit {0}
  SplitLeft split later (Some z) = SplitKept split z later

  pub of_own : (run : Run) (v : RangeView) (split : SplitStage) (r : RangeState) (actions : List StreamAction) (o : RangeOutcome) (later : Option SplitJob) →
      StepKept texts subject run (with_stage v split) r actions o → SplitLeft split later o.after → TurnKept texts subject run v r actions o later
  of_own run v split r actions o later s left =
      let g : ℕ = r.load.generation in
      let same : view_after_all g (with_stage v split) actions ≡ with_stage (view_after_all g v actions) split = staged g v split actions in
      record {
        next = s.next;
        goes = s.goes;
        alone = s.alone;
        kept = by o.after (subst (λ w. KeptIf texts subject s.next w g o.after) same s.kept) left;
        streams = streams_plain texts s.next (view_after_all g v actions) split (subst (StreamsKept texts s.next) same s.streams);
        longer = subst (λ (w : RangeView). IsLonger v.answered w.answered) same s.longer;
        anew = s.anew;
        seen = s.seen;
      }
    where
      by : (x : Option RangeState) → KeptIf texts subject s.next (with_stage (view_after_all r.load.generation v actions) split) r.load.generation x → SplitLeft split later x →
          HeldIf texts subject s.next (view_after_all r.load.generation v actions) r.load.generation x later
      by None k l = tt
      by (Some z) k l = (record { split = split; range = k.0; splits = l }, k.1)

  -- ---- a step of its split behind it

  -- what that leaves of a range that is served
  pub record MoreKept (run : Run) (v : RangeView) (z : RangeState) (actions : List StreamAction) (after : Option RangeState) (later : Option SplitJob) : Type 0 where
    pub next : Run
    pub goes : GoesOn z.load.generation run next
    pub kept : HeldIf texts subject next (view_after_all z.load.generation v actions) z.load.generation after later
    pub streams : StreamsKept texts next (view_after_all z.load.generation v actions)
    pub longer : IsLonger v.answered (view_after_all z.load.generation v actions).answered
    pub seen : (notes : List Note) → AreObserved texts subject run notes → AreObserved texts subject next notes

  pub then_more : (run : Run) (v : RangeView) (split : SplitStage) (r : RangeState) (xs ys : List StreamAction) (o : RangeOutcome) (after : Option RangeState) (later : Option SplitJob) (count : ℕ) (packets : List Packet) → is_serving r.stage ≡ true →
      (s : StepKept texts subject run (with_stage v split) r xs o) (z : RangeState) → z.load.generation ≡ r.load.generation → MoreKept s.next (view_after_all r.load.generation v xs) z ys after later →
      TurnKept texts subject run v r (ys ++ xs) (record { after = after; count = count; packets = packets; notes = o.notes }) later
  then_more run v split r xs ys o after later count packets serving s z same m =
      let g : ℕ = r.load.generation in
      let mid : RangeView = view_after_all g v xs in
      let last : RangeView = view_after_all z.load.generation mid ys in
      let whole : last ≡ view_after_all g v (ys ++ xs) = ap (λ k. view_after_all k mid ys) same ∙ sym (view_both texts subject g v ys xs) in
      let longer_own : IsLonger v.answered mid.answered = subst (λ (w : RangeView). IsLonger v.answered w.answered) (staged g v split xs) s.longer in
      record {
        next = m.next;
        goes = goes_both texts subject g run s.next m.next s.goes (subst (λ k. GoesOn k s.next m.next) same m.goes);
        alone = inr (inl serving);
        kept = subst (λ w. HeldIf texts subject m.next w g after later) whole (subst (λ k. HeldIf texts subject m.next last k after later) same m.kept);
        streams = subst (StreamsKept texts m.next) whole m.streams;
        longer = subst (λ (w : RangeView). IsLonger v.answered w.answered) whole (longer_twice v.answered mid.answered last.answered longer_own m.longer);
        anew = anew_served texts subject run r after serving;
        seen = λ before later old told. m.seen (before ++ without_gots later) (s.seen before later old told);
      }

  -- a step of the split alone
  pub only_more : (run : Run) (v : RangeView) (r : RangeState) (actions : List StreamAction) (after : Option RangeState) (later : Option SplitJob) (count : ℕ) (packets : List Packet) → is_serving r.stage ≡ true →
      MoreKept run v r actions after later → TurnKept texts subject run v r actions (record { after = after; count = count; packets = packets; notes = [] }) later
  only_more run v r actions after later count packets serving m = record {
    next = m.next;
    goes = m.goes;
    alone = inr (inl serving);
    kept = m.kept;
    streams = m.streams;
    longer = m.longer;
    anew = anew_served texts subject run r after serving;
    seen = λ before later old told. silent before later (m.seen before old) told;
  }
    where
      silent : (before later : List Note) → AreObserved texts subject m.next before → AreSeenAs texts [] later → AreObserved texts subject m.next (before ++ without_gots later)
      silent before [] old told = subst (AreObserved texts subject m.next) (sym (append-nil before)) old
      silent before (note ∷ later) old told = absurd told

  module _ (run : Run) (v : RangeView) (z : RangeState) (streams : StreamsKept texts run v) where
    -- it goes, and its split with it
    pub gone_more : (later : Option SplitJob) → MoreKept run v z [] None later
    gone_more later = record { next = run; goes = Rests; kept = tt; streams = streams; longer = ([], refl); seen = λ notes old. old }

    -- nothing is done with a stream
    pub rests_more : (split : SplitStage) (y : RangeState) (later : Option SplitJob) → RangeKept texts subject run (with_stage v split) y → y.load.generation ≡ z.load.generation → SplitKept split y later → MoreKept run v z [] (Some y) later
    rests_more split y later kept same splits =
        record { next = run; goes = Rests; kept = (record { split = split; range = kept; splits = splits }, same); streams = streams; longer = ([], refl); seen = λ notes old. old }

  -- ---- no checkpoint begins any more

  pub drains_match : (v : RangeView) (split : SplitStage) (s : Serving) (z : RangeState) → HasNoRecord split → z.control ≡ None → Matches texts (with_stage v split) s z → Matches texts (with_stage v Drains) s z
  drains_match v Free s z free none m = record {
    position = m.position;
    next = m.next;
    out = m.out;
    live = m.live;
    checkpoint = m.checkpoint;
    said = m.said;
    installed = m.installed;
    ordered = m.ordered;
    named = m.named;
    rows = m.rows;
    reads = m.reads;
    beside = none;
    metadata = subst (AppendsMetadata z.metadata.job Drains) (sym none) (subst (AppendsMetadata z.metadata.job Free) none m.metadata);
  }
  drains_match v Drains s z free none m = m
  drains_match v (Recording split) s z free none m = absurd free

  module _ (run : Run) (v : RangeView) (z : RangeState) (kept : RangeKept texts subject run (with_stage v Drains) z) (streams : StreamsKept texts run v) (serving : is_serving z.stage ≡ true) where
    abbrev g : ℕ
    g = z.load.generation

    abbrev s : Serving
    s = held first_beginning run g

    serves : Serves texts run (with_stage v Drains) z
    serves = serves_of texts subject run (with_stage v Drains) z serving kept

    m : Matches texts (with_stage v Drains) s z
    m = serves.matches

    none : z.control ≡ None
    none = m.beside

    holds : HoldsNone (parts_of (with_stage v Drains) s z)
    holds = subst (HoldsCheckpoint texts (parts_of (with_stage v Drains) s z)) none m.checkpoint

    pub idle : z.metadata.job ≡ jobs.Idle
    idle = subst (AppendsMetadata z.metadata.job Drains) none m.metadata

    -- it takes no transaction
    pub pausing : RangeKept texts subject run (with_stage v Drains) (record z { pause = pauses.AfterQueue })
    pausing =
        kept_served texts subject run run (with_stage v Drains) (with_stage v Drains) z (record z { pause = pauses.AfterQueue }) kept serving refl refl refl kept.sound
        (record {
          shown = serves.shown;
          matches = record {
            position = m.position;
            next = m.next;
            out = m.out;
            live = m.live;
            checkpoint = m.checkpoint;
            said = m.said;
            installed = m.installed;
            ordered = m.ordered;
            named = m.named;
            rows = m.rows;
            reads = m.reads;
            beside = m.beside;
            metadata = m.metadata;
          };
        })

    -- ---- the split's record

    module _ (job : SplitJob) (may : may_record z job ≡ true) (left : LeavesNumber job) (c : ClientState) (appends : IsAppending c.job) where
      number_is : z.said.next ≡ job.number
      number_is = eqb-true z.said.next job.number (and_parts (z.said.next == job.number) (has_record job) may).0

      written : (nat_lt 0 job.number ≡ true) × ((have_range_numbers job && is_record_key job.key) ≡ true)
      written = and_parts (nat_lt 0 job.number) (have_range_numbers job && is_record_key job.key) (and_parts (z.said.next == job.number) (has_record job) may).1

      fits : (have_range_numbers job ≡ true) × (is_record_key job.key ≡ true)
      fits = and_parts (have_range_numbers job) (is_record_key job.key) written.1

      numbers_fit : (nat_lt job.low (2 ^ 64) ≡ true) × (nat_lt job.high (2 ^ 64) ≡ true)
      numbers_fit = and_parts (nat_lt job.low (2 ^ 64)) (nat_lt job.high (2 ^ 64)) fits.0

      number_fits : IsNext job.number
      number_fits =
          let above : 0 < job.number = ltb-true 0 job.number written.0 in
          let below : suc job.number < 2 ^ 64 = ltb-true (suc job.number) (2 ^ 64) left in
          (omega (arith, above), omega (arith, below))

      key_fits : IsKey job.key
      key_fits = within 1 256 (length job.key) fits.1

      spells : decoded_record (split_group job) ≡ chains.record_group job.number (split_item job)
      spells = ap one_record (record_again (split_record job) number_fits (ltb-true job.low (2 ^ 64) numbers_fit.0, ltb-true job.high (2 ^ 64) numbers_fit.1, key_fits))

      counted : length (chains.meta_of run) ≡ length (metadata_of v)
      counted = ap length streams.metadata ∙ mapped_length (renamed_event decoded_record) (metadata_of v)

      is_next : job.number ≡ suc (length s.records)
      is_next =
          let total : (said first_beginning s.records).next ≡ 1 + length s.records = said_number first_beginning s.records in
          let says : z.said.next ≡ (said first_beginning s.records).next = ap (λ x. x.next) m.said in
          omega (arith, total, says, number_is)

      abbrev record_event : Event
      record_event = chains.Records g job.number (split_item job)

      may_append : MayInChain (layer_at texts) first_beginning run record_event
      may_append = (serves.shown, holds.record_out, is_next, inr (holds.noted, inl (job.low, job.high, job.key, refl)))

      abbrev paused : RangeState
      paused = record z { pause = pauses.On; metadata = c }

      abbrev formed : RangeView
      formed = view_after g v (Forms kinds.Metadata (split_group job))

      -- it is out
      formed_match : Matches texts (with_stage formed (Recording (split_record job))) (recording (length (chains.meta_of run)) (chains.record_group job.number (split_item job)) s) paused
      formed_match = record {
        position = m.position;
        next = m.next;
        out = m.out;
        live = m.live;
        checkpoint = subst (HoldsCheckpoint texts (parts_of (with_stage formed (Recording (split_record job))) (recording (length (chains.meta_of run)) (chains.record_group job.number (split_item job)) s) paused)) (sym none)
            (record { entries = holds.entries; layer = holds.layer; noted = holds.noted; record_out = refl });
        said = m.said;
        installed = m.installed;
        ordered = m.ordered;
        named = m.named;
        rows = m.rows;
        reads = m.reads;
        beside = record { none = none; out_is = ap (λ n. Some (record { append = n; group = chains.record_group job.number (split_item job) })) counted; number = number_is };
        metadata = subst (AppendsMetadata c.job (Recording (split_record job))) (sym none) appends;
      }

      formed_kept : RangeKept texts subject (record_event ∷ run) (with_stage formed (Recording (split_record job))) paused
      formed_kept =
          kept_served texts subject run (record_event ∷ run) (with_stage v Drains) (with_stage formed (Recording (split_record job))) z paused kept serving refl refl refl kept.sound
          (record {
            shown = serves.shown;
            matches = subst (λ x. Matches texts (with_stage formed (Recording (split_record job))) x paused) (sym (same_here g _ _)) formed_match;
          })

      pub record_more : MoreKept run v z (Forms kinds.Metadata (split_group job) ∷ []) (Some paused) (Some (with_phase job phases.Record))
      record_more = record {
        next = record_event ∷ run;
        goes = Adds _ run Rests refl;
        kept = (record { split = Recording (split_record job); range = formed_kept; splits = (serving, (refl, left)) }, refl);
        streams = recording_streams texts run v streams g job.number (split_item job) (split_group job) spells
            (inr (inl (record { number = job.number; low = job.low; high = job.high; key = job.key; spells = spells }))) may_append;
        longer = ([], refl);
        seen = λ notes old. old;
      }

  -- ---- the record stands

  module _ (run : Run) (v : RangeView) (r : RangeState) (job : SplitJob) (kept : RangeKept texts subject run (with_stage v (Recording (split_record job))) r) (streams : StreamsKept texts run v) (serving : is_serving r.stage ≡ true)
      (e offset : ℕ) (c : ClientState) (ended : c.job ≡ jobs.Idle) where
    abbrev generation : ℕ
    generation = r.load.generation

    abbrev was : Serving
    was = held first_beginning run generation

    abbrev at_out : RangeView
    at_out = with_stage v (Recording (split_record job))

    serves_out : Serves texts run at_out r
    serves_out = serves_of texts subject run at_out r serving kept

    mo : Matches texts at_out was r
    mo = serves_out.matches

    control_none : r.control ≡ None
    control_none = mo.beside.none

    holds_out : HoldsNone (parts_of at_out was r)
    holds_out = subst (HoldsCheckpoint texts (parts_of at_out was r)) control_none mo.checkpoint

    records_now : was.records ++ items_out was.record_out ≡ was.records ++ split_item job ∷ []
    records_now = ap (λ o. was.records ++ items_out o) mo.beside.out_is

    abbrev pub stands : StreamAction
    stands = Stands kinds.Metadata e (last_position r.metadata offset) (split_group job)

    abbrev stood : RangeView
    stood = view_after generation v stands

    abbrev answer : Event
    answer = chains.Recorded generation (v.history.append kinds.Metadata) (place_number (last_position r.metadata offset)) (place_number (last_position r.metadata offset) + group_size (split_group job))

    may_answer : MayInChain (layer_at texts) first_beginning run answer
    may_answer = (serves_out.shown, chains.record_group job.number (split_item job), mo.beside.out_is)

    -- what it says is said
    abbrev pub said_so : RangeState
    said_so = record r { metadata = c; said = taken r.said (split_item job) }

    stood_match : Matches texts (with_stage stood Free) (chains.recorded was) said_so
    stood_match = record {
      position = mo.position;
      next = mo.next;
      out = mo.out;
      live = λ all. mo.live all.1;
      checkpoint = subst (HoldsCheckpoint texts (parts_of (with_stage stood Free) (chains.recorded was) said_so)) (sym control_none) (record { entries = holds_out.entries; layer = refl; noted = refl; record_out = refl });
      said = ap (λ x. taken x (split_item job)) mo.said ∙ sym (said_with first_beginning was.records (split_item job)) ∙ ap (said first_beginning) (sym records_now);
      installed = mo.installed;
      ordered = mo.ordered;
      named = record { indexes = mo.named.indexes; counts = record { indexes = mo.named.counts.indexes; regions = mo.named.counts.regions } };
      rows = mo.rows;
      reads = mo.reads;
      beside = tt;
      metadata = subst (AppendsMetadata c.job Free) (sym control_none) ended;
    }

    stood_kept : RangeKept texts subject (answer ∷ run) (with_stage stood Free) said_so
    stood_kept =
        kept_served texts subject run (answer ∷ run) at_out (with_stage stood Free) r said_so kept serving refl refl refl kept.sound
        (record { shown = serves_out.shown; matches = subst (λ x. Matches texts (with_stage stood Free) x said_so) (sym (same_here generation _ _)) stood_match })

    -- its split goes on
    pub stood_more : (later : SplitJob) → SplitKept Free said_so (Some later) → MoreKept run v r (stands ∷ []) (Some said_so) (Some later)
    stood_more later splits = record {
      next = answer ∷ run;
      goes = Adds _ run Rests refl;
      kept = (record { split = Free; range = stood_kept; splits = splits }, refl);
      streams = recorded_streams texts run v streams generation e (last_position r.metadata offset) (split_group job) may_answer;
      longer = (record { extent = e; offset = offset; bytes = joined (split_group job) } ∷ [], refl);
      seen = λ notes old. old;
    }

  -- ---- the last extent of a stream is known to be sealed

  module _ (run : Run) (v : RangeView) (r : RangeState) (kept : RangeKept texts subject run (with_stage v Free) r) (serving : is_serving r.stage ≡ true) where
    serves_free : Serves texts run (with_stage v Free) r
    serves_free = serves_of texts subject run (with_stage v Free) r serving kept

    sealed_serves : (kind : StreamKind) (n : ℕ) → Serves texts run (with_stage v Free) (with_last_sealed r kind n)
    sealed_serves kinds.Metadata n =
        let m = serves_free.matches in
        record { shown = serves_free.shown; matches = record { position = m.position; next = m.next; out = m.out; live = m.live; checkpoint = m.checkpoint; said = m.said; installed = m.installed; ordered = m.ordered; named = m.named; rows = m.rows; reads = m.reads; beside = m.beside; metadata = m.metadata } }
    sealed_serves kinds.Log n =
        let m = serves_free.matches in
        record { shown = serves_free.shown; matches = record { position = m.position; next = m.next; out = m.out; live = m.live; checkpoint = m.checkpoint; said = m.said; installed = m.installed; ordered = m.ordered; named = m.named; rows = m.rows; reads = m.reads; beside = m.beside; metadata = m.metadata } }
    sealed_serves kinds.RowData n =
        let m = serves_free.matches in
        record { shown = serves_free.shown; matches = record { position = m.position; next = m.next; out = m.out; live = m.live; checkpoint = m.checkpoint; said = m.said; installed = m.installed; ordered = m.ordered; named = m.named; rows = same_rows r.control m.rows; reads = m.reads; beside = m.beside; metadata = m.metadata } }
      where
        same_rows : (control : Option CheckpointState) → AppendsRows r.rows control → AppendsRows (with_last_sealed r kinds.RowData n).rows control
        same_rows control a = appends_left r.rows (with_last_sealed r kinds.RowData n).rows (inr refl) (λ is. is) control a
    sealed_serves kinds.BlobData n =
        let m = serves_free.matches in
        record { shown = serves_free.shown; matches = record { position = m.position; next = m.next; out = m.out; live = m.live; checkpoint = m.checkpoint; said = m.said; installed = m.installed; ordered = m.ordered; named = m.named; rows = m.rows; reads = m.reads; beside = m.beside; metadata = m.metadata } }

    pub sealed_kept : (kind : StreamKind) (n : ℕ) → RangeKept texts subject run (with_stage v Free) (with_last_sealed r kind n)
    sealed_kept kinds.Metadata n = kept_served texts subject run run (with_stage v Free) (with_stage v Free) r (with_last_sealed r kinds.Metadata n) kept serving refl refl refl kept.sound (sealed_serves kinds.Metadata n)
    sealed_kept kinds.Log n = kept_served texts subject run run (with_stage v Free) (with_stage v Free) r (with_last_sealed r kinds.Log n) kept serving refl refl refl kept.sound (sealed_serves kinds.Log n)
    sealed_kept kinds.RowData n = kept_served texts subject run run (with_stage v Free) (with_stage v Free) r (with_last_sealed r kinds.RowData n) kept serving refl refl refl kept.sound (sealed_serves kinds.RowData n)
    sealed_kept kinds.BlobData n = kept_served texts subject run run (with_stage v Free) (with_stage v Free) r (with_last_sealed r kinds.BlobData n) kept serving refl refl refl kept.sound (sealed_serves kinds.BlobData n)
