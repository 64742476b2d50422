-- The keys of the two ranges of a split are appended to their metadata, those of the lower range first, and then the map is told: turns of
-- the incarnation of the range that is split, on the machines of the two.
use Rattle.std.proofs.Common.{◌≡◌, ℕ, ◌+◌, Bool, true, false, not, List, [], ◌∷◌, ◌++◌, map, Option, Some, None, is_some, option_to_list, refl, sym, ap, ◌∙◌, subst, inl, if◌then◌else◌}
use Rattle.block_types.specs.Limits.{group_size}
use Rattle.wire.specs.declared.body.Body.{Body}
use Rattle.wire.specs.declared.packet.Packet.{Packet}
use Rattle.wire.specs.declared.refusal.Refusal.TheVariants as refusals
use Rattle.wire.specs.declared.streams.StreamExtent.{StreamExtent}
use Rattle.wire.specs.declared.streams.StreamKind.TheVariants as kinds
use Rattle.wire.specs.declared.streams.StreamName.{StreamName}
use Rattle.replica.specs.Groups.{Group}
use Rattle.client.specs.declared.job.Job.{Job}
use Rattle.client.specs.declared.job.Job.TheVariants as jobs
use Rattle.client.specs.declared.job.News.{News}
use Rattle.client.specs.declared.job.News.TheVariants as news
use Rattle.client.specs.Client.{ClientState, Outcome, last_extent, append_at, reply_rule, give_up_job}
use Rattle.model_streams.specs.StreamSystem.{StreamSystem}
use Rattle.model_partition.specs.declared.server_context.ServerContext.{ServerContext}
use Rattle.model_partition.specs.declared.split_job.Side.{Side as SplitSide}
use Rattle.model_partition.specs.declared.split_job.Side.TheVariants.{Low, High}
use Rattle.model_partition.specs.declared.split_job.SplitJob.{SplitJob}
use Rattle.model_partition.specs.declared.split_job.SplitPhase.TheVariants as phases
use Rattle.model_partition.specs.declared.waiting.WaitingGet.{WaitingGet}
use Rattle.model_partition.specs.declared.waiting.WaitingTransaction.{WaitingTransaction}
use Rattle.model_partition.specs.Range.{RangeState, request, refuses, picking, waiting_out}
use Rattle.model_partition.specs.Splits.{SplitStep, stays, goes, ends, with_phase, open_extent, open_last, side_range, side_metadata, may_say_keys, appends_keys, says_keys, completes, keys_told, keys_reply, keys_again}
use Rattle.model_histories.specs.ServerTurns as turns
use Rattle.model_histories.specs.StreamActions as actions
use Rattle.model_histories.specs.StreamActions.{SideAction, Forms, Stands, last_position, keys_said}
use Rattle.laws_loads.specs.RangeView.{RangeView}
use Rattle.laws_stream_machine.specs.Refinement.{Sent, purpose_of, Means}
use Rattle.laws_ranges.specs.Serves.{Stand, Side, after_turns, AreTurns, sent_with, is_live, JobIs, IsTold, ServesBy, ServingIs, IsAskedIf, Goes, ServesAfter, IsCounted, Listed, metadata_of}
use Rattle.laws_ranges.specs.Quiet.{AreQuiet, AppendsOnly, MadeBy, Quietly}
use Rattle.laws_ranges.specs.Seen.{AreSeenOf}
use Rattle.laws_ranges.specs.SplitJobs.{RestsIs, AreOthers, RecordedIs, FollowsSplit}
use Rattle.laws_ranges.specs.SplitSides.{keys_group, SaysKeys, SideWaits, SideAppends, SidesStand, ArePlain, AreOwn, OfNone, OfLow, OfHigh, SidesGo}
use Rattle.laws_ranges.proofs.AppendJob.{GoesBy, picked_serving, give_up_goes}
use Rattle.laws_ranges.proofs.AppendReplies.{reply_goes}
use Rattle.laws_ranges.proofs.OneStory.{quiet_seen_of, stands_seen_of}
use Rattle.laws_ranges.proofs.OutGroup.{JobAfter, reply_job, append_job, gives_up_job, sent_holds}
use Rattle.laws_ranges.proofs.SealedAppends.{FormsSealed, forms_sealed}

-- where no extent is open
closed_live : (o : Option StreamExtent) → open_extent o ≡ None → is_live o ≡ false
closed_live None e = refl
closed_live (Some z) e = go z.length e
  where
    go : (l : Option ℕ) → (if is_some l then None else Some z.extent) ≡ None → not (is_some l) ≡ false
    go None e = absurd cc
    go (Some l) e = refl

-- the group of an append job is that of its client
own_group : (generation : ℕ → ℕ) (name : StreamName) (w : StreamSystem) (i : ℕ) (x : Stand) (sent : List Sent) (c : ClientState) (j : Job) → ServesBy generation name w i x sent c j → JobIs (λ group. group ≡ c.group) (Unit {0}) j c.group
own_group generation name w i x sent c jobs.Idle b = tt
own_group generation name w i x sent c (jobs.Sent e q) b = refl
own_group generation name w i x sent c (jobs.Closing e q) b = refl
own_group generation name w i x sent c (jobs.Growing last q) b = refl
own_group generation name w i x sent c (jobs.Checking e q) b = absurd b
own_group generation name w i x sent c (jobs.Shutting e q) b = absurd b
own_group generation name w i x sent c (jobs.Reading e places upto sealed place q) b = absurd b

module _ (generation : ℕ → ℕ) (range : ℕ) (w : StreamSystem) (i : ℕ) (m l a b : Side) (d : ServerContext) (r : RangeState) (job : SplitJob) (f : FollowsSplit generation range w i m l r job)
    (low_listed : Listed w (metadata_of job.low)) (high_listed : Listed w (metadata_of job.high)) (low_fresh : purpose_of a.sent (request d) ≡ None) (high_fresh : purpose_of b.sent (request d) ≡ None) where
  abbrev Does : SplitStep → List SideAction → Type 0
  Does t sides = SidesGo generation w i range m l a b d r job t sides

  -- what users are told is asked of no stream
  refused_plain : (ts : List WaitingTransaction) (gs : List WaitingGet) →
      ArePlain generation w i job.range (map (λ t. refuses d t.from t.request refusals.NotOwner) ts ++ map (λ g. refuses d g.from g.request refusals.NotOwner) gs)
  refused_plain [] [] = tt
  refused_plain [] (g ∷ gs) = ((λ u n s z. tt), refused_plain [] gs)
  refused_plain (t ∷ ts) gs = ((λ u n s z. tt), refused_plain ts gs)

  own_if : (name : StreamName) (x : Side) (p : Option Packet) → IsAskedIf generation name w i x.stand x.sent p → AreOwn generation w i name x (option_to_list p)
  own_if name x None e = tt
  own_if name x (Some p) e = (e, tt)

  -- ---- the range goes

  ends_sides : Does (ends d r) []
  ends_sides = record {
    low_turns = [];
    high_turns = [];
    low_allowed = tt;
    high_allowed = tt;
    low_purpose = None;
    high_purpose = None;
    counts = inl refl;
    low_actions = [];
    high_actions = [];
    are = refl;
    low_seen = λ u s. s;
    high_seen = λ u s. s;
    held = tt;
    served = tt;
    then = tt;
    asked = OfNone (refused_plain (waiting_out r.out ++ r.queue) r.gets) tt refl refl;
  }

  -- ---- keys are appended

  module _ (side : SplitSide) (x : Side) (listed : Listed w (metadata_of (side_range job side))) (fresh : purpose_of x.sent (request d) ≡ None) where
    abbrev name : StreamName
    name = metadata_of (side_range job side)

    abbrev group : Group
    group = keys_group r job side

    abbrev client : ClientState
    client = record (side_metadata d r job side) { group = group }

    abbrev formed : Outcome
    formed = append_at client (request d) (last_extent r.metadata.extents)

    abbrev formed_step : SplitJob
    formed_step = with_phase job (phases.Keys side formed.after)

    forms_keys : SideWaits generation w i x r job side → open_last r.metadata.extents ≡ None → FormsSealed generation name w i listed x.sent (request d) fresh kinds.Metadata x.stand client formed
    forms_keys waits closed =
        let b : RestsIs generation name w i x.stand x.sent (side_metadata d r job side) = waits d in
        let told : IsTold generation name w i x.stand x.sent client = record { stream = b.told.stream; under = b.told.under; tells = b.told.tells } in
        forms_sealed generation name w i listed x.sent (request d) fresh kinds.Metadata x.stand client told b.live b.stands (closed_live (last_extent r.metadata.extents) closed)

    appends_side : (y : Stand) (more : List Sent) → ServingIs generation name w i y more formed.after → SideAppends generation w i (record { stand = y; sent = more }) r formed_step side formed.after
    appends_side y more serving = record { client = serving; group = append_job (λ z. z ≡ group) (Unit {0}) (request d) client (last_extent r.metadata.extents) refl }

  -- the streams of the range itself stay as they are
  said_held : (side : SplitSide) (c : ClientState) → AreOthers range job (phases.Build (request d)) → RecordedIs generation range w i m l r → open_last r.metadata.extents ≡ None → may_say_keys r job ≡ true → FollowsSplit generation range w i m l r (with_phase job (phases.Keys side c))
  said_held side c others recorded closed may = record { range_is = f.range_is; under = f.under; stage = f.stage; others = others; stands = (recorded, closed, may) }

  -- and so does the range
  says_side : (side : SplitSide) (c : ClientState) (packets : List Packet) → SaysKeys r job (goes d r (with_phase job (phases.Keys side c)) packets)
  says_side side c packets = record { side = side; client = c; range_is = refl; job_is = refl }

  module _ (others : AreOthers range job (phases.Build (request d))) (recorded : RecordedIs generation range w i m l r) (closed : open_last r.metadata.extents ≡ None) where
    -- those of the lower range
    pub says_low : may_say_keys r job ≡ true → SideWaits generation w i a r job Low → SideWaits generation w i b r job High →
        Does (appends_keys d r job Low) (record { range = job.low; action = Forms kinds.Metadata (keys_group r job Low) } ∷ [])
    says_low may low high =
        let g : FormsSealed generation (metadata_of job.low) w i low_listed a.sent (request d) low_fresh kinds.Metadata a.stand (client Low a low_listed low_fresh) (formed Low a low_listed low_fresh) = forms_keys Low a low_listed low_fresh low closed in
        let n : Side = record { stand = after_turns generation i a.stand g.goes.list; sent = sent_with (request d) g.goes.purpose a.sent } in
        record {
          low_turns = g.goes.list;
          high_turns = [];
          low_allowed = g.goes.allowed;
          high_allowed = tt;
          low_purpose = g.goes.purpose;
          high_purpose = None;
          counts = inl refl;
          low_actions = Forms kinds.Metadata (keys_group r job Low) ∷ [];
          high_actions = [];
          are = refl;
          low_seen = λ u. g.seen u;
          high_seen = λ u s. s;
          held = said_held Low (formed Low a low_listed low_fresh).after others recorded closed may;
          served = f.stage;
          then = (appends_side Low a low_listed low_fresh n.stand n.sent g.goes.then, high);
          asked = OfLow (own_if (metadata_of job.low) n (formed Low a low_listed low_fresh).packet g.goes.asked) (says_side Low (formed Low a low_listed low_fresh).after (option_to_list (formed Low a low_listed low_fresh).packet)) refl;
        }

    -- ---- an answer to the client of one of the two

    module _ (may : may_say_keys r job ≡ true) (body : Body) where
      abbrev reply : ClientState → Outcome
      reply c = reply_rule (picking d c) (request d) body

      module _ (side : SplitSide) (x : Side) (listed : Listed w (metadata_of (side_range job side))) (fresh : purpose_of x.sent (request d) ≡ None) (c : ClientState) (s : SideAppends generation w i x r job side c)
          (counted : IsCounted i x.stand) (means : Means generation (metadata_of (side_range job side)) w x.stand.state x.sent body) where
        went : GoesBy generation (metadata_of (side_range job side)) w i x.stand x.sent (request d) (ServesAfter generation (metadata_of (side_range job side)) w i x.sent (reply c).news (reply c).after) (reply c).packet (MadeBy (picking d c) (reply c).news)
        went =
            reply_goes generation (metadata_of (side_range job side)) w i listed x.sent (request d) fresh x.stand (picking d c) counted
            (picked_serving generation (metadata_of (side_range job side)) w i x.stand x.sent c d.pick s.client) body means

        group_after : JobAfter (λ z. z ≡ keys_group r job side) (Unit {0}) (reply c).news (reply c).after
        group_after = reply_job (λ z. z ≡ keys_group r job side) (Unit {0}) (request d) (picking d c) s.group body

        -- what stands is the group of the client
        keys_stand_seen : (view : RangeView) (e offset : ℕ) (list : List (turns.Turn Group)) → AppendsOnly (picking d c) offset x.stand list → AreSeenOf generation i kinds.Metadata view x.stand list (Stands kinds.Metadata e (last_position c offset) c.group ∷ [])
        keys_stand_seen view e offset list only =
            let own : only.sent.group ≡ c.group = sent_holds generation (metadata_of (side_range job side)) w i x.stand x.sent c (λ z. z ≡ c.group) (Unit {0}) c.job s.client.job (own_group generation (metadata_of (side_range job side)) w i x.stand x.sent c c.job s.client.job) only.sent in
            subst (λ ts. AreSeenOf generation i kinds.Metadata view x.stand ts (Stands kinds.Metadata e (last_position c offset) c.group ∷ [])) (sym only.only)
            (stands_seen_of generation i kinds.Metadata view x.stand only.sent.n only.sent.append only.from only.to c.group e (last_position c offset)
            (only.sent.is ∙ ap (λ z. turns.Sent only.sent.n only.sent.append z) own) only.begins (only.ends ∙ ap (λ z. only.from + group_size z) own))

      -- that of the lower range goes on
      low_goes : (c : ClientState) (p : Option Packet) (g : Goes generation (metadata_of job.low) w i a.stand a.sent (request d) (λ y more. ServingIs generation (metadata_of job.low) w i y more c) p) → AreQuiet g.list →
          JobIs (λ z. z ≡ keys_group r job Low) (Unit {0}) c.job c.group → SideWaits generation w i b r job High → Does (goes d r (with_phase job (phases.Keys Low c)) (option_to_list p)) []
      low_goes c p g quiet group high =
          let n : Side = record { stand = after_turns generation i a.stand g.list; sent = sent_with (request d) g.purpose a.sent } in
          let appends : SideAppends generation w i n r (with_phase job (phases.Keys Low c)) Low c = record { client = g.then; group = group } in
          record {
            low_turns = g.list;
            high_turns = [];
            low_allowed = g.allowed;
            high_allowed = tt;
            low_purpose = g.purpose;
            high_purpose = None;
            counts = inl refl;
            low_actions = [];
            high_actions = [];
            are = refl;
            low_seen = λ u. quiet_seen_of generation i kinds.Metadata u a.stand g.list [] quiet tt;
            high_seen = λ u s. s;
            held = said_held Low c others recorded closed may;
            served = f.stage;
            then = (appends, high);
            asked = OfLow (own_if (metadata_of job.low) n p g.asked) (says_side Low c (option_to_list p)) refl;
          }

      high_goes : (c : ClientState) (p : Option Packet) (g : Goes generation (metadata_of job.high) w i b.stand b.sent (request d) (λ y more. ServingIs generation (metadata_of job.high) w i y more c) p) → AreQuiet g.list →
          JobIs (λ z. z ≡ keys_group r job High) (Unit {0}) c.job c.group → Does (goes d r (with_phase job (phases.Keys High c)) (option_to_list p)) []
      high_goes c p g quiet group =
          let k : Side = record { stand = after_turns generation i b.stand g.list; sent = sent_with (request d) g.purpose b.sent } in
          let appends : SideAppends generation w i k r (with_phase job (phases.Keys High c)) High c = record { client = g.then; group = group } in
          record {
            low_turns = [];
            high_turns = g.list;
            low_allowed = tt;
            high_allowed = g.allowed;
            low_purpose = None;
            high_purpose = g.purpose;
            counts = inl refl;
            low_actions = [];
            high_actions = [];
            are = refl;
            low_seen = λ u s. s;
            high_seen = λ u. quiet_seen_of generation i kinds.Metadata u b.stand g.list [] quiet tt;
            held = said_held High c others recorded closed may;
            served = f.stage;
            then = appends;
            asked = OfHigh (own_if (metadata_of job.high) k p g.asked) (says_side High c (option_to_list p)) refl;
          }

      -- it stands: those of the higher range are appended
      low_stands : (c : ClientState) (e offset : ℕ) (low_list : List (turns.Turn Group)) → AreTurns generation i a.stand low_list → ((u : RangeView) → AreSeenOf generation i kinds.Metadata u a.stand low_list (Stands kinds.Metadata e (last_position c offset) c.group ∷ [])) →
          SideWaits generation w i b r job High → Does (says_keys d r job High) (keys_said r job High ++ record { range = job.low; action = Stands kinds.Metadata e (last_position c offset) c.group } ∷ [])
      low_stands c e offset low_list allowed seen high =
          subst (λ (t : Bool). Does (if t then appends_keys d r job High else stays d r job) ((if t then record { range = job.high; action = Forms kinds.Metadata (keys_group r job High) } ∷ [] else []) ++ record { range = job.low; action = Stands kinds.Metadata e (last_position c offset) c.group } ∷ [])) (sym may)
          (let g : FormsSealed generation (metadata_of job.high) w i high_listed b.sent (request d) high_fresh kinds.Metadata b.stand (client High b high_listed high_fresh) (formed High b high_listed high_fresh) = forms_keys High b high_listed high_fresh high closed in
          let k : Side = record { stand = after_turns generation i b.stand g.goes.list; sent = sent_with (request d) g.goes.purpose b.sent } in
          record {
            low_turns = low_list;
            high_turns = g.goes.list;
            low_allowed = allowed;
            high_allowed = g.goes.allowed;
            low_purpose = None;
            high_purpose = g.goes.purpose;
            counts = inl refl;
            low_actions = Stands kinds.Metadata e (last_position c offset) c.group ∷ [];
            high_actions = Forms kinds.Metadata (keys_group r job High) ∷ [];
            are = refl;
            low_seen = seen;
            high_seen = λ u. g.seen u;
            held = said_held High (formed High b high_listed high_fresh).after others recorded closed may;
            served = f.stage;
            then = appends_side High b high_listed high_fresh k.stand k.sent g.goes.then;
            asked = OfHigh (own_if (metadata_of job.high) k (formed High b high_listed high_fresh).packet g.goes.asked) (says_side High (formed High b high_listed high_fresh).after (option_to_list (formed High b high_listed high_fresh).packet)) refl;
          })

      -- it stands: the map is told
      high_stands : (c : ClientState) (e offset : ℕ) (high_list : List (turns.Turn Group)) → AreTurns generation i b.stand high_list → ((u : RangeView) → AreSeenOf generation i kinds.Metadata u b.stand high_list (Stands kinds.Metadata e (last_position c offset) c.group ∷ [])) →
          Does (completes d r job) (record { range = job.high; action = Stands kinds.Metadata e (last_position c offset) c.group } ∷ [])
      high_stands c e offset high_list allowed seen = record {
        low_turns = [];
        high_turns = high_list;
        low_allowed = tt;
        high_allowed = allowed;
        low_purpose = None;
        high_purpose = None;
        counts = inl refl;
        low_actions = [];
        high_actions = Stands kinds.Metadata e (last_position c offset) c.group ∷ [];
        are = refl;
        low_seen = λ u s. s;
        high_seen = seen;
        held = record { range_is = f.range_is; under = f.under; stage = f.stage; others = others; stands = (recorded, closed) };
        served = f.stage;
        then = tt;
        asked = OfNone ((λ y n s z. tt), tt) tt refl refl;
      }

      low_news : (c : ClientState) (s : SideAppends generation w i a r job Low c) (counted : IsCounted i a.stand) (means : Means generation (metadata_of job.low) w a.stand.state a.sent body) → SideWaits generation w i b r job High →
          (told : Option News) → (o : Outcome) → GoesBy generation (metadata_of job.low) w i a.stand a.sent (request d) (ServesAfter generation (metadata_of job.low) w i a.sent told o.after) o.packet (MadeBy (picking d c) told) →
          JobAfter (λ z. z ≡ keys_group r job Low) (Unit {0}) told o.after → Does (keys_told d r job Low o told) (actions.keys_told r job Low c told)
      low_news c s counted means high None o g grouped = low_goes o.after o.packet g.0 g.1 grouped high
      low_news c s counted means high (Some news.Fenced) o g grouped = ends_sides
      low_news c s counted means high (Some (news.Appended e offset)) o g grouped = low_stands c e offset g.0.list g.0.allowed (λ u. keys_stand_seen Low a low_listed low_fresh c s counted means u e offset g.0.list g.1) high
      low_news c s counted means high (Some (news.Checked e n)) o g grouped = low_goes o.after o.packet g.0 g.1 grouped high
      low_news c s counted means high (Some (news.Sealed e n)) o g grouped = low_goes o.after o.packet g.0 g.1 grouped high
      low_news c s counted means high (Some (news.Content e n)) o g grouped = low_goes o.after o.packet g.0 g.1 grouped high

      high_news : (c : ClientState) (s : SideAppends generation w i b r job High c) (counted : IsCounted i b.stand) (means : Means generation (metadata_of job.high) w b.stand.state b.sent body) →
          (told : Option News) → (o : Outcome) → GoesBy generation (metadata_of job.high) w i b.stand b.sent (request d) (ServesAfter generation (metadata_of job.high) w i b.sent told o.after) o.packet (MadeBy (picking d c) told) →
          JobAfter (λ z. z ≡ keys_group r job High) (Unit {0}) told o.after → Does (keys_told d r job High o told) (actions.keys_told r job High c told)
      high_news c s counted means None o g grouped = high_goes o.after o.packet g.0 g.1 grouped
      high_news c s counted means (Some news.Fenced) o g grouped = ends_sides
      high_news c s counted means (Some (news.Appended e offset)) o g grouped = high_stands c e offset g.0.list g.0.allowed (λ u. keys_stand_seen High b high_listed high_fresh c s counted means u e offset g.0.list g.1)
      high_news c s counted means (Some (news.Checked e n)) o g grouped = high_goes o.after o.packet g.0 g.1 grouped
      high_news c s counted means (Some (news.Sealed e n)) o g grouped = high_goes o.after o.packet g.0 g.1 grouped
      high_news c s counted means (Some (news.Content e n)) o g grouped = high_goes o.after o.packet g.0 g.1 grouped

      -- an answer that the client waits for
      pub keys_answered : IsCounted i a.stand → IsCounted i b.stand → Means generation (metadata_of job.low) w a.stand.state a.sent body → Means generation (metadata_of job.high) w b.stand.state b.sent body →
          (side : SplitSide) (c : ClientState) → SidesStand generation w i a b r job (phases.Keys side c) → Does (keys_reply d r job side c body) (actions.keys_told r job side c (reply c).news)
      keys_answered low_counted high_counted one two Low c s = low_news c s.0 low_counted one s.1 (reply c).news (reply c) (went Low a low_listed low_fresh c s.0 low_counted one) (group_after Low a low_listed low_fresh c s.0 low_counted one)
      keys_answered low_counted high_counted one two High c s = high_news c s high_counted two (reply c).news (reply c) (went High b high_listed high_fresh c s high_counted two) (group_after High b high_listed high_fresh c s high_counted two)

      -- it gives up
      pub keys_given_up : (side : SplitSide) (c : ClientState) → SidesStand generation w i a b r job (phases.Keys side c) → Does (keys_again d r job side c) []
      keys_given_up Low c s =
          let one : ServingIs generation (metadata_of job.low) w i a.stand a.sent (picking d c) = picked_serving generation (metadata_of job.low) w i a.stand a.sent c d.pick s.0.client in
          let g : GoesBy generation (metadata_of job.low) w i a.stand a.sent (request d) (λ y more. ServingIs generation (metadata_of job.low) w i y more (give_up_job (picking d c) (request d) c.job).after) (give_up_job (picking d c) (request d) c.job).packet Quietly =
          give_up_goes generation (metadata_of job.low) w i low_listed a.sent (request d) low_fresh a.stand (picking d c) one.told c.job refl one.job in
          low_goes (give_up_job (picking d c) (request d) c.job).after (give_up_job (picking d c) (request d) c.job).packet g.0 g.1 (gives_up_job (λ z. z ≡ keys_group r job Low) (Unit {0}) (request d) (picking d c) s.0.group) s.1
      keys_given_up High c s =
          let one : ServingIs generation (metadata_of job.high) w i b.stand b.sent (picking d c) = picked_serving generation (metadata_of job.high) w i b.stand b.sent c d.pick s.client in
          let g : GoesBy generation (metadata_of job.high) w i b.stand b.sent (request d) (λ y more. ServingIs generation (metadata_of job.high) w i y more (give_up_job (picking d c) (request d) c.job).after) (give_up_job (picking d c) (request d) c.job).packet Quietly =
          give_up_goes generation (metadata_of job.high) w i high_listed b.sent (request d) high_fresh b.stand (picking d c) one.told c.job refl one.job in
          high_goes (give_up_job (picking d c) (request d) c.job).after (give_up_job (picking d c) (request d) c.job).packet g.0 g.1 (gives_up_job (λ z. z ≡ keys_group r job High) (Unit {0}) (request d) (picking d c) s.group)
