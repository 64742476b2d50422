-- What a range is told of row data is of the manager's list, what it is told was appended there was acknowledged, and bytes that come
-- with an answer were observed.
use Rattle.std.proofs.Common.{◌≡◌, ◌⊎◌, ℕ, zero, suc, ◌+◌, List, [], ◌∷◌, ◌++◌, length, true, false, Option, Some, None, Contains, slice_get, refl, sym, ap, ◌∙◌, subst, inl, inr, arith, append_assoc}
use Rattle.std.proofs.lemmas.Bool.{cases_eq}
use Rattle.std.proofs.lemmas.Option.{slice_get_within}
use Rattle.block_types.specs.declared.record.Nodes.{Nodes}
use Rattle.wire.specs.declared.actor.ActorId.{ActorId}
use Rattle.wire.specs.declared.actor.ActorId.TheVariants.{Manager, Server}
use Rattle.wire.specs.declared.actor.ReqNo.{ReqNo}
use Rattle.wire.specs.declared.body.AppendBody.TheVariants as appends
use Rattle.wire.specs.declared.body.Body.{Body}
use Rattle.wire.specs.declared.body.Body.TheVariants as bodies
use Rattle.wire.specs.declared.body.ReadBody.TheVariants as answers
use Rattle.wire.specs.declared.body.StreamBody.TheVariants as streams
use Rattle.wire.specs.declared.note.Note.TheVariants.{Acked}
use Rattle.wire.specs.declared.streams.StreamExtent.{StreamExtent}
use Rattle.wire.specs.declared.streams.StreamKind.TheVariants as kinds
use Rattle.wire.specs.declared.streams.StreamLists.{StreamLists}
use Rattle.wire.specs.declared.streams.StreamName.{StreamName}
use Rattle.replica.specs.Groups.{Group}
use Rattle.streams.specs.Streams.{Stream, stream_of, whole, last_of, longer}
use Rattle.client.specs.declared.job.Job.TheVariants as jobs
use Rattle.client.specs.declared.job.News.TheVariants as news
use Rattle.client.specs.declared.load.LoadPhase.{LoadPhase}
use Rattle.client.specs.declared.load.LoadPhase.TheVariants as phases
use Rattle.client.specs.Client.{awaits, reply_rule}
use Rattle.client.specs.Load.{load_awaits}
use Rattle.client.specs.Requests.{is_same}
use Rattle.model_streams.specs.declared.extent.Extent.{Extent}
use Rattle.model_streams.specs.Manager.{Catalog, told_before, told_extents, told_stream, told_streams}
use Rattle.model_streams.specs.Outcome.{packet}
use Rattle.model_streams.specs.StreamSystem.{StreamSystem, Move, moved, run_moves, start}
use Rattle.model_partition.specs.declared.server_context.ServerContext.{ServerContext}
use Rattle.model_partition.specs.declared.stage.Stage.{Stage}
use Rattle.model_partition.specs.declared.stage.Stage.TheVariants as stages
use Rattle.model_partition.specs.Range.{RangeState, request, picking}
use Rattle.laws_streams.specs.Answers.{Grows, Corrects}
use Rattle.laws_streams.specs.Listings.{Longer}
use Rattle.laws_streams.proofs.ContentAnswers.{content_answered}
use Rattle.laws_streams.proofs.Invariant.{run_moves_push}
use Rattle.laws_streams.proofs.Listings.{lists_grow}
use Rattle.laws_streams.proofs.StreamAnswers.{openings_answered, extensions_answered}
use Rattle.laws_stream_machine.specs.Refinement.{asked_number, extents_of, IsAt}
use Rattle.laws_stream_machine.proofs.LowerLayer.{Below}
use Rattle.laws_stream_machine.proofs.MachineCore.{get_same}
use Rattle.laws_ranges.specs.Serves.{Side, metadata_of, rows_of, IsOfRows, RowsTold, StageIs, Follows}
use Rattle.model_histories.specs.ServerTurns.{Whole}
use Rattle.laws_clusters.proofs.AckedAppends.{appended_tells}
use Rattle.laws_clusters.proofs.ClientJobs.{AsksBy}
use Rattle.laws_clusters.proofs.RangeActions.{BytesSeen}
use Rattle.laws_clusters.proofs.RowPurposes.{HasPurpose, own_number}

-- ---- lists of extents

-- what is told of a list is of it
told_there : (b : Catalog) (es : List ℕ) (x : StreamExtent) → Contains (told_extents b.extent es) x → (k : ℕ) × (slice_get es k ≡ Some x.extent)
told_there b [] x (k, less, is) = absurd (omega (arith, less))
told_there b (e ∷ es) x there = go (λ later. told_there b es x later) (b.extent e) there
  where
    on : (k : ℕ) × (slice_get es k ≡ Some x.extent) → (k : ℕ) × (slice_get (e ∷ es) k ≡ Some x.extent)
    on (k, is) = (suc k, is)

    go : (Contains (told_extents b.extent es) x → (k : ℕ) × (slice_get es k ≡ Some x.extent)) → (o : Option Extent) → Contains (told_before e o (told_extents b.extent es)) x → (k : ℕ) × (slice_get (e ∷ es) k ≡ Some x.extent)
    go later None at = on (later at)
    go later (Some y) (zero, less, is) = (zero, ap (λ (z : StreamExtent). Some z.extent) is)
    go later (Some y) (suc k, less, is) = on (later (k, omega (arith, less), is))

-- what stands behind some others
get_behind : (front back : List ℕ) (k e : ℕ) → slice_get back k ≡ Some e → slice_get (front ++ back) (length front + k) ≡ Some e
get_behind [] back k e is = ap (slice_get back) {x = 0 + k} {y = k} (omega arith) ∙ is
get_behind (f ∷ front) back k e is = ap (slice_get (f ∷ (front ++ back))) {x = suc (length front) + k} {y = suc (length front + k)} (omega arith) ∙ get_behind front back k e is

-- the last of a list stands in it
last_there : (es : List ℕ) (e : ℕ) → last_of es ≡ Some e → (k : ℕ) × (slice_get es k ≡ Some e)
last_there [] e is = absurd cc
last_there (f ∷ []) e is = (zero, is)
last_there (f ∷ g ∷ es) e is = let rest = last_there (g ∷ es) e is in (suc rest.0, rest.1)

pushed_there : (es : List ℕ) (e : ℕ) → slice_get (es ++ e ∷ []) (length es + 0) ≡ Some e
pushed_there es e = get_behind es (e ∷ []) 0 e refl

module _ (nodes target : ℕ) where
  abbrev system : List Move → StreamSystem
  system moves = run_moves moves (start nodes target)

  -- lists never lose what they had
  pub still_at : (past rest : List Move) (name : StreamName) (index e : ℕ) → IsAt (system past) name index e → IsAt (system (past ++ rest)) name index e
  still_at past rest name index e at = go (stream_of (system past).catalog.stream name) refl at
    where
      go : (o : Option Stream) → stream_of (system past).catalog.stream name ≡ o → slice_get (extents_of o) index ≡ Some e → IsAt (system (past ++ rest)) name index e
      go None is at = absurd cc
      go (Some x) is at =
          let l : Longer x (stream_of (system (past ++ rest)).catalog.stream name) = (lists_grow nodes target past rest).longer name x is in
          subst (λ o. slice_get (extents_of o) index ≡ Some e) (sym l.is)
          (ap (λ es. slice_get es index) l.begins.is ∙ get_same (whole x) l.begins.rest index (slice_get_within (whole x) index e at) ∙ at)

  -- an extent of the list that the stream had then is in it now
  in_list : (past rest : List Move) (name : StreamName) (x : Stream) (k e : ℕ) → stream_of (system past).catalog.stream name ≡ Some x → slice_get x.extents k ≡ Some e →
      (index : ℕ) × IsAt (system (past ++ rest)) name index e
  in_list past rest name x k e is at =
      (length x.gone + k, still_at past rest name (length x.gone + k) e (subst (λ o. slice_get (extents_of o) (length x.gone + k) ≡ Some e) (sym is) (get_behind x.gone x.extents k e at)))

  module _ (moves : List Move) (range : ℕ) where
    abbrev w : StreamSystem
    w = system moves

    -- ---- the opening

    told_rows : (past rest : List Move) → moves ≡ past ++ rest → (x : StreamExtent) → Contains (told_streams (system past).catalog range).row_data.extents x → IsOfRows w range x.extent
    told_rows past rest split x there = go (stream_of (system past).catalog.stream (rows_of range)) refl there
      where
        go : (o : Option Stream) → stream_of (system past).catalog.stream (rows_of range) ≡ o → Contains (told_stream (system past).catalog.extent o).extents x → IsOfRows w range x.extent
        go None is at = absurd (let less = at.1 in omega (arith, less))
        go (Some z) is at =
            let k = told_there (system past).catalog z.extents x at in
            subst (λ m. IsOfRows (system m) range x.extent) (sym split) (in_list past rest (rows_of range) z k.0 x.extent is k.1)

    opened_rows : (from : ActorId) (server : ℕ) (q : ReqNo) (lists : StreamLists) → Contains w.post (packet from (Server server) (bodies.Stream (streams.Opened q lists))) →
        ((r g : ℕ) → Contains w.post (packet (Server server) Manager (bodies.Stream (streams.OpenStreams r g q))) → r ≡ range) → (x : StreamExtent) → Contains lists.row_data.extents x → IsOfRows w range x.extent
    opened_rows from server q lists there is_range x at =
        let a = openings_answered nodes target moves from (Server server) q lists there in
        let same : a.range ≡ range = is_range a.range a.generation a.asked in
        told_rows a.past (a.opening ∷ a.rest) a.split x
        (subst (λ n. Contains (told_streams (system a.past).catalog n).row_data.extents x) same (subst (λ (l : StreamLists). Contains l.row_data.extents x) a.told at))

    -- ---- an extent that was added

    extended_rows : (from : ActorId) (server : ℕ) (q : ReqNo) (e : ℕ) (places : Nodes) → Contains w.post (packet from (Server server) (bodies.Stream (streams.Extended q e places))) →
        ((name : StreamName) (g : ℕ) (last : Option ℕ) (pick : Nodes) → Contains w.post (packet (Server server) Manager (bodies.Stream (streams.Extend name g last pick q))) → name ≡ rows_of range) → IsOfRows w range e
    extended_rows from server q e places there is_rows =
        let a = extensions_answered nodes target moves from (Server server) q e places there in
        let same : a.name ≡ rows_of range = is_rows a.name a.generation a.last a.pick a.asked in
        subst (λ n. (index : ℕ) × IsAt w n index e) same (by_answer a.past a.extending a.rest a.split a.name a.stream a.last a.stream.fence a.there a.answer)
      where
        by_answer : (past : List Move) (extending : Move) (rest : List Move) → moves ≡ past ++ extending ∷ rest → (name : StreamName) (x : Stream) (last : Option ℕ) (fence : ℕ) →
            stream_of (system past).catalog.stream name ≡ Some x →
            Grows (system past).catalog (moved (system past) extending).catalog name x last fence e places ⊎ Corrects (system past).catalog (moved (system past) extending).catalog x last e places →
            (index : ℕ) × IsAt w name index e
        by_answer past extending rest split name x last fence at (inl grows) =
            let next : system (past ++ extending ∷ []) ≡ moved (system past) extending = run_moves_push past extending (start nodes target) in
            let there : stream_of (system (past ++ extending ∷ [])).catalog.stream name ≡ Some (longer e x) = ap (λ (z : StreamSystem). stream_of z.catalog.stream name) next ∙ grows.longer in
            subst (λ m. (index : ℕ) × IsAt (system m) name index e) (append_assoc past (extending ∷ []) rest ∙ sym split)
            (in_list (past ++ extending ∷ []) rest name (longer e x) (length x.extents + 0) e there (pushed_there x.extents e))
        by_answer past extending rest split name x last fence at (inr corrects) =
            let k = last_there x.extents e corrects.last in
            subst (λ m. (index : ℕ) × IsAt (system m) name index e) (sym split) (in_list past (extending ∷ rest) name x k.0 e at k.1)

    -- ---- a range

    module _ (generation : ℕ → ℕ) (i : ℕ) (m l : Side) (r : RangeState) where
      -- the number of the opening and of the confirmation is one of the metadata's
      stage_number : (stage : Stage) → StageIs generation range w i m l r stage → (q : ReqNo) → load_awaits r.load.phase q ≡ true → HasPurpose m.sent q
      stage_number stage b q waits = go stage b
        where
          opened : (phase : LoadPhase) → r.load.phase ≡ phase → load_awaits phase q ≡ false → HasPurpose m.sent q
          opened phase is none = absurd (let z : false ≡ true = sym none ∙ ap (λ p. load_awaits p q) (sym is) ∙ waits in cc)

          go : (stage : Stage) → StageIs generation range w i m l r stage → HasPurpose m.sent q
          go stages.Opening c = own_number (HasPurpose m.sent) c.q q (ap (λ p. load_awaits p q) (sym c.phase) ∙ waits) (_, c.metadata.for)
          go (stages.Checking kinds.Metadata) c = opened phases.Opened c.phase refl
          go (stages.Checking kinds.Log) c = opened phases.Opened c.phase refl
          go (stages.Checking kinds.RowData) c = absurd c
          go (stages.Checking kinds.BlobData) c = absurd c
          go (stages.Reading kinds.Metadata position) c = opened phases.Opened c.phase refl
          go (stages.Reading kinds.Log position) c = opened phases.Opened c.phase refl
          go (stages.Reading kinds.RowData position) c = absurd c
          go (stages.Reading kinds.BlobData position) c = absurd c
          go (stages.Indexing position) c = opened phases.Opened c.phase refl
          go stages.Confirming c = own_number (HasPurpose m.sent) c.q q (ap (λ p. load_awaits p q) (sym c.phase) ∙ waits) (_, c.metadata.for)
          go stages.Serving c = opened phases.Confirmed c.phase refl

      abbrev LoadNumber : Type 0
      LoadNumber = (q : ReqNo) → load_awaits r.load.phase q ≡ true → HasPurpose m.sent q

      pub load_number : Follows generation range w i m l r → LoadNumber
      load_number f q waits = stage_number r.stage f.stage q waits

      -- a range that is served waits for no opening
      pub served_number : r.load.phase ≡ phases.Confirmed → LoadNumber
      served_number served q waits = absurd (let z : false ≡ true = ap (λ p. load_awaits p q) (sym served) ∙ waits in cc)

      module _ (number_of : LoadNumber) (stream : r.rows.stream ≡ rows_of range) (whole_log : Whole Group generation) (below : Below generation (metadata_of range) nodes target moves whole_log m.sent) (from : ActorId) (server : ℕ) (body : Body)
          (there : Contains w.post (packet from (Server server) body))
          (asked : (q : ReqNo) → awaits r.rows.job q ≡ true → (server : ℕ) (to : ActorId) (b : Body) → Contains w.post (packet (Server server) to b) → asked_number b ≡ Some q → AsksBy r.rows b) where
        opened_here : (q : ReqNo) → load_awaits r.load.phase q ≡ true → (n g : ℕ) → Contains w.post (packet (Server server) Manager (bodies.Stream (streams.OpenStreams n g q))) → n ≡ range
        opened_here q waits n g at = elim (cases_eq n range) [
          | inl same ↦ same
          | inr apart ↦ absurd
              (let p = number_of q waits in
              let none = (below.asked server Manager (bodies.Stream (streams.OpenStreams n g q)) at).elsewhere apart in
              let z : None ≡ Some p.0 = sym none ∙ p.1 in cc)
        ]

        -- what is told of row data is of its list
        pub rows_told : RowsTold w range r body
        rows_told = go body there
          where
            go : (b : Body) → Contains w.post (packet from (Server server) b) → RowsTold w range r b
            go (bodies.Stream (streams.Opened q lists)) at = λ waits x told. opened_rows from server q lists at (opened_here q waits) x told
            go (bodies.Stream (streams.Extended q e places)) at =
                λ waits. extended_rows from server q e places at (λ name g last pick sent. (asked q waits server Manager (bodies.Stream (streams.Extend name g last pick q)) sent refl).1 ∙ stream)
            go (bodies.Stream b) at = tt
            go b at = tt

        -- a group that is said to stand in row data was acknowledged where it stands
        pub rows_acked : (d : ServerContext) (e offset : ℕ) → (reply_rule (picking d r.rows) (request d) body).news ≡ Some (news.Appended e offset) → Contains w.notes (Acked e offset r.rows.group)
        rows_acked d = appended_tells (λ e offset. Contains w.notes (Acked e offset r.rows.group)) (picking d r.rows) (request d) body sent
          where
            sent : (e : ℕ) (q v : ReqNo) (n offset : ℕ) → r.rows.job ≡ jobs.Sent e q → is_same q v ≡ true → body ≡ bodies.Append (appends.Appended v n offset) → Contains w.notes (Acked e offset r.rows.group)
            sent e q v n offset at same is =
                let a = (content_answered nodes target moves []).appended from (Server server) v n offset (subst (λ b. Contains w.post (packet from (Server server) b)) is there) in
                let waits : awaits r.rows.job v ≡ true = ap (λ j. awaits j v) at ∙ same in
                let own = asked v waits server from (bodies.Append (appends.Append n a.generation a.blocks v)) a.asked refl in
                let both : jobs.Sent n v ≡ jobs.Sent e q = sym own.0 ∙ at in
                let extent_is : n ≡ e = cc in
                subst (λ z. Contains w.notes (Acked z offset r.rows.group)) extent_is (subst (λ z. Contains w.notes (Acked n offset z)) own.1 a.noted)

    -- bytes that come with an answer were observed
    pub bytes_seen : (from : ActorId) (server : ℕ) (body : Body) → Contains w.post (packet from (Server server) body) → BytesSeen w.notes body
    bytes_seen from server (bodies.Read (answers.Bytes q e offset bytes)) there = (content_answered nodes target moves []).bytes from (Server server) q e offset bytes there
    bytes_seen from server (bodies.Read body) there = tt
    bytes_seen from server body there = tt
