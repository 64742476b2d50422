-- A step of a split: it goes on from its stage, holds its range, and asks for streams and for its end only there.
use Rattle.std.proofs.Common.{◌≡◌, ◌⊎◌, ◌≤◌, ℕ, suc, true, false, ◌&&◌, List, [], ◌∷◌, Option, Some, None, Contains, is_some, refl, sym, ap, ◌∙◌, subst, inl, inr, arith}
use Rattle.std.specs.Prelude.{option_to_list}
use Rattle.std.proofs.lemmas.Option.{same_Some}
use Rattle.block_types.specs.declared.record.Nodes.{Nodes}
use Rattle.wire.specs.declared.actor.ReqNo.{ReqNo}
use Rattle.wire.specs.declared.body.AppendBody.{AppendBody}
use Rattle.wire.specs.declared.body.AppendBody.TheVariants as appends
use Rattle.wire.specs.declared.body.SealBody.{SealBody}
use Rattle.wire.specs.declared.body.SealBody.TheVariants as seals
use Rattle.wire.specs.declared.body.StreamBody.{StreamBody}
use Rattle.wire.specs.declared.body.StreamBody.TheVariants as streams
use Rattle.wire.specs.declared.body.MapBody.{MapBody}
use Rattle.wire.specs.declared.body.MapBody.TheVariants as maps
use Rattle.wire.specs.declared.body.Body.{Body}
use Rattle.wire.specs.declared.body.Body.TheVariants as bodies
use Rattle.wire.specs.declared.packet.Packet.{Packet}
use Rattle.wire.specs.declared.refusal.Refusal.{Refusal}
use Rattle.wire.specs.declared.refusal.Refusal.TheVariants as refusals
use Rattle.wire.specs.declared.streams.StreamKind.{StreamKind}
use Rattle.client.specs.declared.job.News.{News}
use Rattle.client.specs.declared.job.News.TheVariants as news
use Rattle.client.specs.Client.{ClientState, Outcome, append_rule, reply_rule, give_up_rule}
use Rattle.memtable.specs.declared.cell.Place.{Place}
use Rattle.memtable.specs.Entries.{Entries}
use Rattle.checkpoint.specs.Merges.{next_place, with_at_hand}
use Rattle.checkpoint.specs.PageGroups.{next_group}
use Rattle.metadata.specs.Fold.{taken}
use Rattle.metadata.specs.Record.{spelling}
use Rattle.model_streams.proofs.Tests.{if_elim}
use Rattle.model_partition.specs.CheckpointStates.{CheckpointState}
use Rattle.model_partition.specs.declared.server_context.ServerContext.{ServerContext}
use Rattle.model_partition.specs.declared.split_job.Side.{Side}
use Rattle.model_partition.specs.declared.split_job.Side.TheVariants.{Low, High}
use Rattle.model_partition.specs.declared.split_job.SplitJob.{SplitJob}
use Rattle.model_partition.specs.declared.split_job.SplitPhase.{SplitPhase}
use Rattle.model_partition.specs.declared.split_job.SplitPhase.TheVariants as phases
use Rattle.model_partition.specs.Range.{RangeState, RangeOutcome, request, given, picking, refused_users}
use Rattle.model_partition.specs.Getting.{held_at}
use Rattle.model_partition.specs.Loading.{Group}
use Rattle.model_partition.specs.PlaceReads.{places_of}
use Rattle.model_partition.specs.Checkpoints.{combines, new_job, new_combining_job, next_append, rows_go, combined_job, writes_combined, asks_page, merges_next, with_fixed, begins}
use Rattle.model_partition.specs.Answering.{answered_number}
use Rattle.model_partition.specs.Splits.{SplitStep, stays, ends, goes, with_phase, begun, is_drained, split_item, split_record, may_record, may_checkpoint, has_record_numbers, pauses_and_records, drains, extents_of, open_last, all_kinds, kinds_after, first_open, seals_or_builds, with_last_sealed, is_extent, last_sealed, side_range, side_metadata, keys_record, build_packet, appends_keys, may_say_keys, says_keys, phase_awaits, keys_stand, keys_told, keys_reply, refused, refused_by, map_told, seal_told, stream_told, told, has_stood, split_reply_in, split_reply, has_number, follows_in, follows, seal_again, gives_up_in, gives_up}
use Rattle.laws_map.specs.Naming.{Each, AsksStreams, IsFor, AreFor, IsClientOf, Knowledge, RangeNames, PhaseNames, JobNames}
use Rattle.laws_map.specs.Stages.{stage_of, TellsBuilt, JobMoves, AsksOfStreams, AsksOf}
use Rattle.laws_map.proofs.ClientNames.{Keeps, listed, given_keeps, append_rule_keeps, reply_keeps, give_up_keeps}
use Rattle.laws_map.proofs.GenerationsInRuns.{same_request}
use Rattle.laws_map.proofs.RangeNames.{no_less, one_up, refused_for, begins_good}

-- ---- what a range asks for

module _ (d : ServerContext) (old later : Option SplitJob) (upto : ℕ) (range generation : ℕ) where
  plain_streams : (body : StreamBody) → AsksStreams range generation body → AsksOfStreams d old later upto body
  plain_streams (streams.MultiModify list q) a = absurd a
  plain_streams (streams.CreateStream s fence q) a = absurd a
  plain_streams body a = tt

  plain_body : (body : Body) → IsFor range generation body → AsksOf d old later upto body
  plain_body (bodies.Stream body) a = plain_streams body a
  plain_body (bodies.Map body) a = absurd a
  plain_body body a = tt

  -- is none of this kind
  pub plain : (packets : List Packet) → AreFor range generation packets → Each (λ (p : Packet). AsksOf d old later upto p.body) packets
  plain [] a = tt
  plain (p ∷ packets) a = (plain_body p.body a.0, plain packets a.1)

-- ---- a split

-- where it is left its range is
abbrev pub HeldIf : Option RangeState → Option SplitJob → Type 0
HeldIf None (Some job) = ⊥
HeldIf range job = Unit {0}

abbrev IsThere : Option RangeState → Type 0
IsThere o = (z : RangeState) × (o ≡ Some z)

module _ (Heard : ReqNo → Type 0) (d : ServerContext) (old : SplitJob) where
  abbrev pub MovesIf : List Packet → Option SplitJob → Type 0
  MovesIf packets None = Unit {0}
  MovesIf packets (Some job) = JobMoves Heard d old packets job

  pub record SplitMoves (t : SplitStep) : Type 0 where
    pub held : HeldIf t.range t.job
    pub moves : MovesIf t.packets t.job
    pub asks : Each (λ (p : Packet). AsksOf d (Some old) t.job t.count p.body) t.packets
    pub count : d.count ≤ t.count

  same_moves : (packets : List Packet) → JobMoves Heard d old packets old
  same_moves packets = record { range = refl; generation = refl; key = refl; stage = omega arith; low = λ l. refl; high = λ l. refl; said = λ l. inl l; builds = λ q is. inl refl }

  pub stays_moves : (r : RangeState) → SplitMoves (stays d r old)
  stays_moves r = record { held = tt; moves = same_moves []; asks = tt; count = no_less d.count }

  -- in another phase, in which it waits for no streams
  phase_moves : (packets : List Packet) (phase : SplitPhase) → stage_of old.phase ≤ stage_of phase → (3 ≤ stage_of phase → (3 ≤ stage_of old.phase) ⊎ ((q : ReqNo) × (old.phase ≡ phases.Build q) × Heard q)) →
      ((q : ReqNo) → phase ≡ phases.Build q → ⊥) → JobMoves Heard d old packets (with_phase old phase)
  phase_moves packets phase up said none = record { range = refl; generation = refl; key = refl; stage = up; low = λ l. refl; high = λ l. refl; said = said; builds = λ q is. absurd (none q is) }

  ends_moves : (n g : ℕ) (r : RangeState) → SplitMoves (ends d r)
  ends_moves n g r = record { held = tt; moves = tt; asks = plain d (Some old) None (ends d r).count n g (refused_users d r) (refused_for n g d r); count = one_up d.count }

  -- ---- the beginning

  rows_some : (r : RangeState) (x : CheckpointState × Option Group) → IsThere (rows_go d r x).after
  rows_some r (job, None) = (_, refl)
  rows_some r (job, Some group) = (_, refl)

  combined_some : (r : RangeState) (job : CheckpointState) (newer : Option Entries) → IsThere (writes_combined d r job newer).after
  combined_some r job None = (r, refl)
  combined_some r job (Some newer) = rows_some r (next_append (combined_job job newer) (next_group (combined_job job newer).pages))

  asks_page_some : (r : RangeState) (place : Place) (places : Option Nodes) → IsThere (asks_page d r place places).after
  asks_page_some r place None = (r, refl)
  asks_page_some r place (Some places) = (_, refl)

  merges_some : (r : RangeState) (job : CheckpointState) (place : Option Place) → IsThere (merges_next d r job place).after
  merges_some r job None = combined_some r job r.fixed
  merges_some r job (Some place) = asks_page_some (record r { control = Some job }) place (places_of r place.extent)

  begins_some : (r : RangeState) → IsThere (begins d r false).after
  begins_some r =
      if_elim (λ (o : RangeOutcome). IsThere o.after) (combines false r.indexes) _ _
      (λ t.
      let merge = with_at_hand (held_at r.held) r.said.keys (new_combining_job r).merge in
      merges_some (record (with_fixed r) { reading = None }) (record (new_combining_job r) { merge = merge }) (next_place merge)) (λ f. rows_some (with_fixed r) (next_append (new_job r) (next_group (new_job r).pages)))

  module _ (K : Knowledge) (n : ℕ) (r : RangeState) (h : RangeNames K n r) (j : JobNames K n old) where
    abbrev Moves : SplitStep → Type 0
    Moves t = SplitMoves t

    leaves : Moves (ends d r)
    leaves = ends_moves n h.generation r

    begun_moves : (low high : ℕ) → stage_of old.phase ≡ 0 → Moves (begun d r old low high)
    begun_moves low high zero =
        if_elim Moves (may_checkpoint r && has_record_numbers r) _ _
        (λ t. (let g = begins_good n h.generation d r false h.under in record {
          held = subst (λ x. HeldIf x (Some (record old { low = low; high = high; number = suc r.said.next; phase = phases.Checkpoint }))) (sym (begins_some r).1) tt;
          moves = record {
            range = refl;
            generation = refl;
            key = refl;
            stage = omega (arith, zero);
            low = λ l. absurd (omega (arith, l, zero));
            high = λ l. absurd (omega (arith, l, zero));
            said = λ l. absurd (omega (arith, l));
            builds = λ q is. absurd cc;
          };
          asks = plain d (Some old) _ _ n h.generation (begins d r false).packets g.1;
          count = g.2;
        }))
        (λ f. stays_moves r)

    -- ---- the pause

    records_moves : stage_of old.phase ≡ 1 → Moves (pauses_and_records d r old)
    records_moves one =
        let c : ClientState = picking d r.metadata in
        let o = append_rule c (request d) (spelling (split_record old) ∷ []) in
        let k = given_keeps n h.generation c o h.under.2 (append_rule_keeps n h.generation c h.under.2 (request d) (spelling (split_record old) ∷ [])) in
        record {
          held = tt;
          moves = phase_moves _ phases.Record (omega (arith, one)) (λ l. absurd (omega (arith, l))) (λ q is. cc);
          asks = plain d (Some old) _ _ n h.generation (option_to_list (given c o).packet) (listed n h.generation (given c o).packet k.1);
          count = one_up d.count;
        }

    drains_moves : stage_of old.phase ≡ 1 → Moves (drains d r old)
    drains_moves one =
        if_elim Moves (is_drained r && may_record r old) _ _ (λ t. records_moves one)
        (λ f. record { held = tt; moves = phase_moves [] phases.Queue (omega (arith, one)) (λ l. absurd (omega (arith, l))) (λ q is. cc); asks = tt; count = no_less d.count })

    -- ---- seals, and the streams of the two ranges

    seals_moves : stage_of old.phase ≡ 1 → (z : RangeState) (x : Option (StreamKind × ℕ)) → Moves (seals_or_builds d z old x)
    seals_moves one z None = record {
      held = tt;
      moves = record {
        range = refl;
        generation = refl;
        key = refl;
        stage = omega (arith, one);
        low = λ l. refl;
        high = λ l. refl;
        said = λ l. absurd (omega (arith, l));
        builds = λ q is. inr (here q is);
      };
      asks = (record { job = with_phase old (phases.Build (request d)); left = refl; is = refl; waits = refl; new = inr (record { count = d.count; is = refl; from = omega arith; below = omega arith }) }, tt);
      count = one_up d.count;
    }
      where
        here : (q : ReqNo) → phases.Build (request d) ≡ phases.Build q → Contains (build_packet d old (request d) ∷ []) (build_packet d (with_phase old (phases.Build (request d))) q)
        here q is = let same : request d ≡ q = cc in subst (λ v. Contains (build_packet d old (request d) ∷ []) (build_packet d (with_phase old (phases.Build (request d))) v)) same (0, omega arith, refl)
    seals_moves one z (Some x) = record {
      held = tt;
      moves = phase_moves _ (phases.Seal x.0 (request d)) (omega (arith, one)) (λ l. absurd (omega (arith, l))) (λ q is. cc);
      asks = (tt, tt);
      count = one_up d.count;
    }

    last_sealed_moves : stage_of old.phase ≡ 1 → (kind : StreamKind) (e length : ℕ) → Moves (last_sealed d r old kind e length)
    last_sealed_moves one kind e length =
        if_elim Moves (is_extent e (open_last (extents_of r kind))) _ _ (λ t. seals_moves one (with_last_sealed r kind length) (first_open (with_last_sealed r kind length) (kinds_after kind))) (λ f. stays_moves r)

    -- ---- the keys of the two ranges, and the end

    -- the streams are there
    abbrev MaySay : Type 0
    MaySay = (3 ≤ stage_of old.phase) ⊎ ((q : ReqNo) × (old.phase ≡ phases.Build q) × Heard q)

    abbrev UpToKeys : Type 0
    UpToKeys = stage_of old.phase ≤ 3

    keys_go : (side : Side) (o : Outcome) → UpToKeys → MaySay → Keeps (side_range old side) old.generation o → Moves (goes d r (with_phase old (phases.Keys side o.after)) (option_to_list o.packet))
    keys_go side o up may k = record {
      held = tt;
      moves = phase_moves _ (phases.Keys side o.after) up (λ l. may) (λ q is. cc);
      asks = plain d (Some old) _ _ (side_range old side) old.generation (option_to_list o.packet) (listed (side_range old side) old.generation o.packet k.1);
      count = one_up d.count;
    }

    appends_keys_moves : (side : Side) → UpToKeys → MaySay → Moves (appends_keys d r old side)
    appends_keys_moves side up may =
        let c : ClientState = side_metadata d r old side in
        let o = append_rule c (request d) (spelling (keys_record r old side) ∷ []) in
        keys_go side (given c o) up may
        (given_keeps (side_range old side) old.generation c o (refl, refl) (append_rule_keeps (side_range old side) old.generation c (refl, refl) (request d) (spelling (keys_record r old side) ∷ [])))

    says_keys_moves : (side : Side) → UpToKeys → MaySay → Moves (says_keys d r old side)
    says_keys_moves side up may = if_elim Moves (may_say_keys r old) _ _ (λ t. appends_keys_moves side up may) (λ f. stays_moves r)

    completes_moves : UpToKeys → MaySay → Moves (keys_stand d r old High)
    completes_moves up may = record {
      held = tt;
      moves = phase_moves _ (phases.Complete (request d)) (omega (arith, up)) (λ l. may) (λ q is. cc);
      asks = (record { job = with_phase old (phases.Complete (request d)); left = refl; range_is = refl; generation_is = refl; ends = omega arith }, tt);
      count = one_up d.count;
    }

    keys_stand_moves : (side : Side) → UpToKeys → MaySay → Moves (keys_stand d r old side)
    keys_stand_moves Low up may = says_keys_moves High up may
    keys_stand_moves High up may = completes_moves up may

    keys_told_moves : (side : Side) (o : Outcome) (said : Option News) → UpToKeys → MaySay → Keeps (side_range old side) old.generation o → Moves (keys_told d r old side o said)
    keys_told_moves side o (Some news.Fenced) up may k = leaves
    keys_told_moves side o (Some (news.Appended e offset)) up may k = keys_stand_moves side up may
    keys_told_moves side o said up may k = keys_go side o up may k

    keys_reply_moves : (side : Side) (c : ClientState) (body : Body) → UpToKeys → MaySay → IsClientOf (side_range old side) old.generation c → Moves (keys_reply d r old side c body)
    keys_reply_moves side c body up may own =
        let o : Outcome = reply_rule (picking d c) (request d) body in
        keys_told_moves side o o.news up may (reply_keeps (side_range old side) old.generation (picking d c) own (request d) body)

    -- ---- answers

    module _ (body : Body) (v : ReqNo) (number : answered_number body ≡ Some v) (waits : phase_awaits old.phase v ≡ true) (hears : (q : ReqNo) → TellsBuilt q body → Heard q) where
      -- it waits for the streams under this number
      its_number : (q : ReqNo) → old.phase ≡ phases.Build q → q ≡ v
      its_number q is = same_request q v (subst (λ phase. phase_awaits phase v ≡ true) is waits)

      refused_moves : (phase : SplitPhase) → old.phase ≡ phase → (w : ReqNo) (refusal : Refusal) → body ≡ bodies.Append (appends.Refused w refusal) → Moves (refused d r old phase refusal)
      refused_moves phase is w refusals.Stale b = leaves
      refused_moves (phases.Build q) is w refusals.NameTaken b =
          let own : w ≡ q = same_Some w v (sym (ap answered_number b) ∙ number) ∙ sym (its_number q is) in
          let stage : stage_of old.phase ≡ 2 = ap stage_of is in
          says_keys_moves Low (omega (arith, stage)) (inr (q, is, hears q (inr (b ∙ ap (λ z. bodies.Append (appends.Refused z refusals.NameTaken)) own))))
      refused_moves (phases.Complete q) is w refusals.GenerationChanged b = leaves
      refused_moves phase is w refusal b = stays_moves r

      refused_by_moves : (append : AppendBody) → body ≡ bodies.Append append → Moves (refused_by d r old append)
      refused_by_moves (appends.Refused w refusal) b = refused_moves old.phase refl w refusal b
      refused_by_moves append b = stays_moves r

      map_told_moves : (phase : SplitPhase) → old.phase ≡ phase → (map : MapBody) → Moves (map_told d r old phase map)
      map_told_moves (phases.Begin q) is (maps.SplitBegun w low high) = begun_moves low high (ap stage_of is)
      map_told_moves (phases.Complete q) is (maps.SplitDone w) = leaves
      map_told_moves phase is map = stays_moves r

      seal_told_moves : (phase : SplitPhase) → old.phase ≡ phase → (seal : SealBody) → Moves (seal_told d r old phase seal)
      seal_told_moves (phases.Seal kind q) is (seals.SealedIs w e length) = last_sealed_moves (ap stage_of is) kind e length
      seal_told_moves phase is seal = stays_moves r

      stream_told_moves : (phase : SplitPhase) → old.phase ≡ phase → (stream : StreamBody) → body ≡ bodies.Stream stream → Moves (stream_told d r old phase stream)
      stream_told_moves (phases.Build q) is (streams.Modified w) b =
          let own : w ≡ q = same_Some w v (sym (ap answered_number b) ∙ number) ∙ sym (its_number q is) in
          let stage : stage_of old.phase ≡ 2 = ap stage_of is in
          says_keys_moves Low (omega (arith, stage)) (inr (q, is, hears q (inl (b ∙ ap (λ z. bodies.Stream (streams.Modified z)) own))))
      stream_told_moves phase is stream b = stays_moves r

      told_moves : (x : Body) → body ≡ x → Moves (told d r old x)
      told_moves (bodies.Append append) b = refused_by_moves append b
      told_moves (bodies.Map map) b = map_told_moves old.phase refl map
      told_moves (bodies.Seal seal) b = seal_told_moves old.phase refl seal
      told_moves (bodies.Stream stream) b = stream_told_moves old.phase refl stream b
      told_moves x b = stays_moves r

      reply_in_moves : (phase : SplitPhase) → old.phase ≡ phase → PhaseNames K old phase → Moves (split_reply_in d r old phase body)
      reply_in_moves (phases.Keys side c) is p = let stage : stage_of old.phase ≡ 3 = ap stage_of is in keys_reply_moves side c body (omega (arith, stage)) (inl (omega (arith, stage))) p.1
      reply_in_moves phase is p = told_moves body refl

      pub replies_move : Moves (split_reply d r old body)
      replies_move = reply_in_moves old.phase refl j.phase

    -- ---- what follows a step of the range, and giving up

    follows_in_moves : (phase : SplitPhase) → old.phase ≡ phase → Moves (follows_in d r old phase)
    follows_in_moves phases.Checkpoint is = if_elim Moves (is_some r.control) _ _ (λ t. stays_moves r) (λ f. drains_moves (ap stage_of is))
    follows_in_moves phases.Queue is = drains_moves (ap stage_of is)
    follows_in_moves phases.Record is =
        if_elim Moves (has_stood r) _ _
        (λ t. seals_moves (ap stage_of is) (record r { said = taken r.said (split_item old) }) (first_open (record r { said = taken r.said (split_item old) }) all_kinds)) (λ f. stays_moves r)
    follows_in_moves phase is = stays_moves r

    pub follows_move : Moves (follows d r old)
    follows_move = if_elim Moves (has_number d) _ _ (λ t. follows_in_moves old.phase refl) (λ f. stays_moves r)

    again_moves : (packets : List Packet) → Each (λ (p : Packet). AsksOf d (Some old) (Some old) (goes d r old packets).count p.body) packets → Moves (goes d r old packets)
    again_moves packets asks = record { held = tt; moves = same_moves packets; asks = asks; count = one_up d.count }

    seal_again_asks : (e : Option ℕ) (q : ReqNo) (upto : ℕ) → Each (λ (p : Packet). AsksOf d (Some old) (Some old) upto p.body) (seal_again d e q)
    seal_again_asks None q upto = tt
    seal_again_asks (Some e) q upto = (tt, tt)

    gives_up_in_moves : (phase : SplitPhase) → old.phase ≡ phase → PhaseNames K old phase → Moves (gives_up_in d r old phase)
    gives_up_in_moves (phases.Begin q) is p = again_moves _ (tt, tt)
    gives_up_in_moves (phases.Seal kind q) is p = again_moves _ (seal_again_asks (open_last (extents_of r kind)) q _)
    gives_up_in_moves (phases.Build q) is p = again_moves _ (record { job = old; left = refl; is = refl; waits = is; new = inl refl }, tt)
    gives_up_in_moves (phases.Keys side c) is p =
        let o : Outcome = give_up_rule (picking d c) (request d) d.pick in
        let stage : stage_of old.phase ≡ 3 = ap stage_of is in
        keys_go side o (omega (arith, stage)) (inl (omega (arith, stage))) (give_up_keeps (side_range old side) old.generation (picking d c) p.1 (request d) d.pick)
    gives_up_in_moves (phases.Complete q) is p =
        let stage : stage_of old.phase ≡ 4 = ap stage_of is in
        again_moves _ (record { job = old; left = refl; range_is = refl; generation_is = refl; ends = omega (arith, stage) }, tt)
    gives_up_in_moves phase is p = stays_moves r

    pub gives_up_moves : Moves (gives_up d r old)
    gives_up_moves = if_elim Moves (has_number d) _ _ (λ t. gives_up_in_moves old.phase refl j.phase) (λ f. stays_moves r)
