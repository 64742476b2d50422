-- What the rules of a range that is served do to its metadata is turns of its incarnation: the record of a checkpoint is appended, and
-- stands.
use Rattle.std.proofs.Common.{◌≡◌, ℕ, ◌+◌, List, [], ◌∷◌, ◌++◌, Bool, true, false, Option, Some, None, is_some, option_to_list, nat_lt, ◌&&◌, refl, sym, ap, ◌∙◌, subst, inl, if◌then◌else◌}
use Rattle.checkpoint_format.specs.Index.{fits_a_group}
use Rattle.block_types.specs.Limits.{group_size}
use Rattle.wire.specs.declared.body.Body.{Body}
use Rattle.wire.specs.declared.packet.Packet.{Packet}
use Rattle.wire.specs.declared.refusal.Refusal.TheVariants as refusals
use Rattle.wire.specs.declared.streams.StreamKind.TheVariants as kinds
use Rattle.memtable.specs.declared.cell.Place.{Place}
use Rattle.replica.specs.Groups.{Group}
use Rattle.client.specs.declared.job.Job.{Job}
use Rattle.client.specs.declared.job.Job.TheVariants as jobs
use Rattle.client.specs.declared.job.News.{News}
use Rattle.client.specs.declared.job.News.TheVariants as news
use Rattle.client.specs.Client.{ClientState, Outcome, last_extent, append_at, reply_rule}
use Rattle.model_streams.specs.StreamSystem.{StreamSystem}
use Rattle.model_partition.specs.CheckpointStates.{CheckpointState, last_job}
use Rattle.model_partition.specs.declared.checkpoint_job.CheckpointPhase.TheVariants as checkpoints
use Rattle.model_partition.specs.declared.server_context.ServerContext.{ServerContext}
use Rattle.model_partition.specs.declared.stage.Stage.{Stage}
use Rattle.model_partition.specs.Range.{RangeState, RangeOutcome, request, goes, picking, waiting_out, is_serving}
use Rattle.model_partition.specs.Checkpoints.{has_record_number, may_record, trims, index_place, with_phase, records, index_stands, trim_index, have_places, recorded, record_stands, record_told}
use Rattle.model_partition.specs.Loading.{metadata_news}
use Rattle.model_partition.specs.Answering.{groups_of, metadata_reply}
use Rattle.model_histories.specs.ServerTurns as turns
use Rattle.model_histories.specs.StreamActions.{StreamAction, Forms, Stands, last_position, loading_actions, record_group, record_stood_in, record_stood, record_actions, metadata_actions, index_stood_in}
use Rattle.laws_stream_machine.specs.Refinement.{Sent, purpose_of, Means}
use Rattle.laws_ranges.specs.Serves.{IsRecord, is_recording_in, Stand, after_turns, known, is_live, IsTold, ServesBy, ServingIs, Listed, sent_with, Goes, ServesAfter, IsCounted, JobIs, metadata_of}
use Rattle.laws_ranges.specs.Quiet.{AreQuiet, IsSent, AppendsOnly, FormsOnly, MadeBy}
use Rattle.laws_ranges.specs.Seen.{AreSeenOf}
use Rattle.std.proofs.lemmas.Bool.{and_parts}
use Rattle.laws_ranges.specs.Records.{ServesMetadata, MetadataRule}
use Rattle.laws_ranges.proofs.AppendJob.{GoesBy, append_goes, picked_serving}
use Rattle.laws_ranges.proofs.AppendReplies.{reply_goes}
use Rattle.laws_ranges.proofs.LogRules.{asked_if, refused_plain}
use Rattle.laws_ranges.proofs.OneStory.{quiet_seen_of, forms_seen_of, stands_seen_of}
use Rattle.laws_ranges.proofs.OutGroup.{JobAfter, reply_job, append_job, sent_holds}

-- ---- whether a record is being appended

record_there : (r : RangeState) (group : Group) → IsRecord r group → is_recording_in r.control ≡ false → ⊥
record_there r group b e =
    let z : true ≡ false =
    sym (ap is_recording_in b.2 ∙ ap (λ p. is_recording_in (Some (record b.0 { phase = p }))) b.3) ∙ e in
    cc

-- while none is the client has no job
pub unrecorded_idle : (r : RangeState) (j : Job) (group : Group) → JobIs (IsRecord r) (is_recording_in r.control ≡ false) j group → is_recording_in r.control ≡ false → j ≡ jobs.Idle
unrecorded_idle r jobs.Idle group b e = refl
unrecorded_idle r (jobs.Sent n q) group b e = absurd (record_there r group b e)
unrecorded_idle r (jobs.Closing n q) group b e = absurd (record_there r group b e)
unrecorded_idle r (jobs.Growing last q) group b e = absurd (record_there r group b e)
unrecorded_idle r (jobs.Checking n q) group b e = absurd b
unrecorded_idle r (jobs.Shutting n q) group b e = absurd b
unrecorded_idle r (jobs.Reading n places upto sealed place q) group b e = absurd b

module _ (generation : ℕ → ℕ) (range : ℕ) (w : StreamSystem) (i : ℕ) (listed : Listed w (metadata_of range)) (d : ServerContext) (sent : List Sent) (fresh : purpose_of sent (request d) ≡ None) where
  abbrev Does : Stand → RangeOutcome → List StreamAction → Type 0
  Does x o done = MetadataRule generation range w i x sent d o done

  abbrev Serves : Stand → RangeState → Type 0
  Serves x r = ServesMetadata generation range w i x sent r

  -- ---- a record is formed

  module _ (x : Stand) where
    -- the record of a checkpoint whose index stands
    pub records_rule : (r : RangeState) → Serves x r → r.metadata.job ≡ jobs.Idle → (job : CheckpointState) (index : Place) → has_record_number r ≡ true → Does x (records d r job index) (Forms kinds.Metadata (record_group r job index) ∷ [])
    records_rule r b idle job index number =
        subst (λ j. Does x (records d (record r { metadata = record r.metadata { job = j } }) job index) (Forms kinds.Metadata group ∷ [])) (sym idle) at_idle
      where
        group : Group
        group = record_group r job index

        c : ClientState
        c = record r.metadata { pick = d.pick; group = group; job = jobs.Idle }

        told : IsTold generation (metadata_of range) w i x sent c
        told = record { stream = b.client.told.stream; under = b.client.told.under; tells = b.client.told.tells }

        stands : x.phase ≡ turns.Serving (known r.metadata) (is_live (last_extent r.metadata.extents))
        stands = subst (λ j. ServesBy generation (metadata_of range) w i x sent r.metadata j) idle b.client.job

        o : Outcome
        o = append_at c (request d) (last_extent r.metadata.extents)

        went : GoesBy generation (metadata_of range) w i x sent (request d) (λ y more. ServingIs generation (metadata_of range) w i y more o.after) o.packet (FormsOnly group)
        went = append_goes generation (metadata_of range) w i listed sent (request d) fresh x c told (last_extent r.metadata.extents) refl stands

        after : RangeState
        after = record r { metadata = o.after; control = Some (with_phase job (checkpoints.Record index)) }

        at_idle : Does x (records d (record r { metadata = record r.metadata { job = jobs.Idle } }) job index) (Forms kinds.Metadata group ∷ [])
        at_idle = record {
          list = went.0.list;
          allowed = went.0.allowed;
          here = (refl, tt);
          seen = λ v. subst (λ ts. AreSeenOf generation i kinds.Metadata v x ts (Forms kinds.Metadata group ∷ [])) (sym went.1)
              (forms_seen_of generation i kinds.Metadata v x (known r.metadata) (is_live (last_extent r.metadata.extents)) group stands);
          purpose = went.0.purpose;
          counts = refl;
          none = λ e. absurd cc;
          then = record {
            range_is = b.range_is;
            under = b.under;
            client = went.0.then;
            record_is = append_job (IsRecord after) (is_recording_in after.control ≡ false) (request d) c (last_extent r.metadata.extents)
                (with_phase job (checkpoints.Record index), index, refl, refl, refl, number);
            stage = b.stage;
          };
          asked = asked_if generation range w i (metadata_of range) (after_turns generation i x went.0.list) (sent_with (request d) went.0.purpose sent) o.packet went.0.asked;
        }

    -- a checkpoint whose record cannot be written rests
    rests_rule : (r : RangeState) → Serves x r → Does x (goes d r [] []) []
    rests_rule r b =
        record {
          list = [];
          allowed = tt;
          here = tt;
          seen = λ v s. s;
          purpose = None;
          counts = refl;
          none = λ e. refl;
          then = b;
          asked = tt;
        }

    -- the index of a checkpoint stands in row data
    pub index_stands_rule : (r : RangeState) → Serves x r → is_recording_in r.control ≡ false → (job : CheckpointState) (extent offset : ℕ) →
        Does x (index_stands d r job extent offset) (index_stood_in r job checkpoints.Index extent offset)
    index_stands_rule r b unrecorded job extent offset = go (may_record r job) refl
      where
        go : (t : Bool) → may_record r job ≡ t → Does x (if t then records d r job (index_place job extent offset) else goes d r [] []) (if t then Forms kinds.Metadata (record_group r job (index_place job extent offset)) ∷ [] else [])
        go true may =
            records_rule r b (unrecorded_idle r r.metadata.job r.metadata.group b.record_is unrecorded) job (index_place job extent offset)
            (and_parts (has_record_number r) (nat_lt 0 r.said.next && nat_lt 0 job.next)
            (and_parts (fits_a_group job.pages.index) (has_record_number r && (nat_lt 0 r.said.next && nat_lt 0 job.next)) may).1).0
        go false may = rests_rule r b

  -- ---- an answer to the metadata's client

  quiet_rule : (x : Stand) (r : RangeState) (c : ClientState) (p : Option Packet) → Serves x r →
      (g : Goes generation (metadata_of range) w i x sent (request d) (λ y more. ServingIs generation (metadata_of range) w i y more c) p) → AreQuiet g.list →
      JobIs (IsRecord r) (is_recording_in r.control ≡ false) c.job c.group → Does x (goes d (record r { metadata = c }) (option_to_list p) []) []
  quiet_rule x r c p b g quiet out =
      record {
        list = g.list;
        allowed = g.allowed;
        here = tt;
        seen = λ v. quiet_seen_of generation i kinds.Metadata v x g.list [] quiet tt;
        purpose = g.purpose;
        counts = refl;
        none = λ e. absurd cc;
        then = record {
          range_is = b.range_is;
          under = b.under;
          client = g.then;
          record_is = out;
          stage = b.stage;
        };
        asked = asked_if generation range w i (metadata_of range) (after_turns generation i x g.list) (sent_with (request d) g.purpose sent) p g.asked;
      }

  -- the record stands, and the log is to be trimmed
  module _ (x : Stand) (r : RangeState) (c : ClientState) (extent offset : ℕ) (p : Option Packet) (b : Serves x r)
      (g : Goes generation (metadata_of range) w i x sent (request d) (ServesAfter generation (metadata_of range) w i sent (Some (news.Appended extent offset)) c) p)
      (only : AppendsOnly (picking d r.metadata) offset x g.list) (idle : c.job ≡ jobs.Idle) where
    stood_rule : (job : CheckpointState) (index : Place) → only.sent.group ≡ record_group r job index → has_record_number r ≡ true →
        Does x (record_stands d (record r { metadata = c }) job (checkpoints.Record index))
        (if is_some (record_stands d (record r { metadata = c }) job (checkpoints.Record index)).after then record_stood_in r job (checkpoints.Record index) extent offset else [])
    stood_rule job index group number =
        subst (λ (t : Bool). Does x (stood_if t) (if is_some (stood_if t).after then record_stood_in r job (checkpoints.Record index) extent offset else [])) (sym number) (record {
          list = g.list;
          allowed = g.allowed;
          here = (refl, tt);
          seen = λ v. subst (λ ts. AreSeenOf generation i kinds.Metadata v x ts (Stands kinds.Metadata extent (last_position r.metadata offset) (record_group r job index) ∷ [])) (sym only.only)
              (stands_seen_of generation i kinds.Metadata v x only.sent.n only.sent.append only.from only.to (record_group r job index) extent (last_position r.metadata offset)
              (only.sent.is ∙ ap (λ z. turns.Sent only.sent.n only.sent.append z) group) only.begins (only.ends ∙ ap (λ z. only.from + group_size z) group));
          purpose = None;
          counts = refl;
          none = λ e. absurd cc;
          then = record {
            range_is = b.range_is;
            under = b.under;
            client = subst (λ z. ServingIs generation (metadata_of range) w i (after_turns generation i x g.list) z c) g.then.1 g.then.0;
            record_is = subst (λ j. JobIs (IsRecord after) (is_recording_in after.control ≡ false) j c.group) (sym idle) refl;
            stage = b.stage;
          };
          asked = (inl (λ u n s m. tt), tt);
        })
      where
        said : RangeState
        said = recorded (record r { metadata = c }) job index

        after : RangeState
        after = record said { control = Some (last_job job.position job.next (checkpoints.Trim (trim_index said.log job.position) (have_places said.indexes) (request d))) }

        stood_if : Bool → RangeOutcome
        stood_if t = if t then trims d said job else goes d (record r { metadata = c }) [] []

    -- which is the record of the checkpoint that is under way
    record_rule : IsRecord r only.sent.group →
        Does x (record_told d (record r { metadata = c }) r.control (Some (news.Appended extent offset)) (option_to_list p))
        (if is_some (record_told d (record r { metadata = c }) r.control (Some (news.Appended extent offset)) (option_to_list p)).after then record_stood r r.control extent offset else [])
    record_rule k =
        subst (λ z. Does x (record_told d now z (Some (news.Appended extent offset)) (option_to_list p))
        (if is_some (record_told d now z (Some (news.Appended extent offset)) (option_to_list p)).after then record_stood r z extent offset else [])) (sym k.2)
        (subst (λ z. Does x (record_stands d now k.0 z) (if is_some (record_stands d now k.0 z).after then record_stood_in r k.0 z extent offset else [])) (sym k.3) (stood_rule k.0 k.1 k.4 k.5))
      where
        now : RangeState
        now = record r { metadata = c }

  -- news of the metadata's client
  news_rule : (x : Stand) (r : RangeState) (c : ClientState) (told : Option News) (p : Option Packet) → Serves x r → ((s : IsSent x.phase) → IsRecord r s.group) →
      GoesBy generation (metadata_of range) w i x sent (request d) (ServesAfter generation (metadata_of range) w i sent told c) p (MadeBy (picking d r.metadata) told) →
      JobAfter (IsRecord r) (is_recording_in r.control ≡ false) told c →
      Does x (record_told d (record r { metadata = c }) r.control told (option_to_list p))
      (if is_some (record_told d (record r { metadata = c }) r.control told (option_to_list p)).after then record_actions r told else [])
  news_rule x r c None p b out g job = quiet_rule x r c p b g.0 g.1 job
  news_rule x r c (Some news.Fenced) p b out g job =
      record {
        list = [];
        allowed = tt;
        here = tt;
        seen = λ v s. s;
        purpose = None;
        counts = refl;
        none = λ e. refl;
        then = tt;
        asked = refused_plain generation range w i (metadata_of range) x sent d (waiting_out r.out ++ r.queue) r.gets refusals.NotOwner;
      }
  news_rule x r c (Some (news.Appended e offset)) p b out g job = record_rule x r c e offset p b g.0 g.1 job (out g.1.sent)
  news_rule x r c (Some (news.Checked e found)) p b out g job = quiet_rule x r c p b g.0 g.1 job
  news_rule x r c (Some (news.Sealed e l)) p b out g job = quiet_rule x r c p b g.0 g.1 job
  news_rule x r c (Some (news.Content e upto)) p b out g job = quiet_rule x r c p b g.0 g.1 job

  -- what a range that is served does with an answer to its metadata
  pub metadata_reply_goes : (x : Stand) (r : RangeState) → IsCounted i x → Serves x r → (body : Body) → Means generation (metadata_of range) w x.state sent body →
      Does x (metadata_reply d r body) (if is_some (metadata_reply d r body).after then metadata_actions d r body else [])
  metadata_reply_goes x r counted b body means =
      subst (λ z. Does x (at_stage z) (if is_some (at_stage z).after then (if is_serving z then record_actions r o.news else loading_actions kinds.Metadata r.metadata z (groups_of body) o.news) else [])) (sym b.stage)
      (news_rule x r o.after o.news o.packet b (sent_holds generation (metadata_of range) w i x sent r.metadata (IsRecord r) (is_recording_in r.control ≡ false) r.metadata.job b.client.job b.record_is)
      (reply_goes generation (metadata_of range) w i listed sent (request d) fresh x (picking d r.metadata) counted (picked_serving generation (metadata_of range) w i x sent r.metadata d.pick b.client) body means)
      (reply_job (IsRecord r) (is_recording_in r.control ≡ false) (request d) (picking d r.metadata) b.record_is body))
    where
      o : Outcome
      o = reply_rule (picking d r.metadata) (request d) body

      now : RangeState
      now = record r { metadata = o.after }

      at_stage : Stage → RangeOutcome
      at_stage z = if is_serving z then record_told d now r.control o.news (option_to_list o.packet) else metadata_news d now (groups_of body) z o.news (option_to_list o.packet)
