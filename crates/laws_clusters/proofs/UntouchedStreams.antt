-- A packet that comes to a server does nothing with the streams of a range that nobody may hold and whose first stream is not there.
use Rattle.std.proofs.Common.{◌≡◌, ℕ, true, ◌==◌, List, [], ◌∷◌, Option, Some, None, Contains, refl, sym, ap, ◌∙◌, subst, inl, inr, arith}
use Rattle.std.proofs.lemmas.Bool.{and_parts, eqb-true}
use Rattle.wire.specs.declared.actor.ActorId.{ActorId}
use Rattle.wire.specs.declared.actor.ActorId.TheVariants.{Node, Manager, Map, Server, User}
use Rattle.wire.specs.declared.actor.ReqNo.{ReqNo}
use Rattle.wire.specs.declared.body.AppendBody.{AppendBody}
use Rattle.wire.specs.declared.body.AppendBody.TheVariants as appends
use Rattle.wire.specs.declared.body.StreamBody.{StreamBody}
use Rattle.wire.specs.declared.body.StreamBody.TheVariants as streams
use Rattle.wire.specs.declared.body.Body.{Body}
use Rattle.wire.specs.declared.body.Body.TheVariants as bodies
use Rattle.wire.specs.declared.body.MapBody.TheVariants as maps
use Rattle.wire.specs.declared.body.TableBody.{TableBody}
use Rattle.wire.specs.declared.body.TableBody.TheVariants as tables
use Rattle.wire.specs.declared.packet.Packet.{Packet}
use Rattle.wire.specs.declared.refusal.Refusal.TheVariants as refusals
use Rattle.wire.specs.declared.transaction.Change.{Change}
use Rattle.wire.specs.declared.streams.StreamKind.{StreamKind}
use Rattle.wire.specs.declared.streams.StreamKind.TheVariants as kinds
use Rattle.wire.specs.declared.streams.StreamName.{StreamName}
use Rattle.model_streams.proofs.Tests.{if_elim}
use Rattle.client.specs.declared.job.News.{News}
use Rattle.client.specs.declared.job.News.TheVariants as news
use Rattle.client.specs.Client.{ClientState}
use Rattle.streams.specs.Streams.{stream_of}
use Rattle.model_streams.specs.Maps.{entry_at}
use Rattle.model_partition.specs.Loading.{Group}
use Rattle.model_partition.specs.declared.split_job.Side.{Side}
use Rattle.model_partition.specs.declared.split_job.Side.TheVariants.{Low, High}
use Rattle.model_partition.specs.declared.split_job.SplitJob.{SplitJob}
use Rattle.model_partition.specs.declared.split_job.SplitPhase.{SplitPhase}
use Rattle.model_partition.specs.declared.split_job.SplitPhase.TheVariants as phases
use Rattle.model_partition.specs.Range.{RangeState}
use Rattle.model_partition.specs.Getting.{get_rule}
use Rattle.model_partition.specs.Answering.{answered_number, is_answerer}
use Rattle.model_partition.specs.Splits.{all_streams, may_say_keys, phase_awaits}
use Rattle.model_partition.specs.Server.{ServerState, range_of, split_of, awaiting, split_awaiting, is_newer, has_numbers}
use Rattle.model_partition.specs.Servers.{ServerCell}
use Rattle.model_partition.specs.Cluster.{Cluster}
use Rattle.model_histories.specs.Story.{StreamEvent, Story, Showed}
use Rattle.model_histories.specs.StreamActions.{StreamAction, Reads, Forms, Stands, Shows, Finds, Stores, SideAction, keys_said, keys_after, keys_told, built_refused, built_told, built, sides_in}
use Rattle.model_histories.specs.ServerRun.{ServerRun, is_stream, with_event, stream_named, after_action, after_actions, after_sides, RangeEffect, Begins, Does, Tells, Rests, with_effect, place_number, placed_reads, transact_effect, follow_effect, get_effect, table_effect, answer_effect, split_effect_in, split_effect, awaited_effect, numbered_effect, map_effect, packet_effect, server_effect}
use Rattle.std.proofs.lemmas.Option.{same_Some}
use Rattle.laws_map.specs.Naming.{Each}
use Rattle.laws_map.specs.Stages.{stage_of, TellsBuilt}
use Rattle.laws_map.proofs.Knowing.{each_both}
use Rattle.laws_map.proofs.Rising.{awaits_itself}
use Rattle.laws_map.proofs.GenerationsInRuns.{same_request}
use Rattle.laws_map.proofs.ManagerBirths.{AllIn}
use Rattle.laws_map.proofs.StagesKept.{heard_there}
use Rattle.laws_map.proofs.SplitFacts.{KnowsSplits, IsSide, JobAt, MayHold, names_of, split_there, held_assigned, first_of}
use Rattle.laws_clusters.proofs.SplitPremises.{first_name, side_is}

-- ---- actions

module _ (name : StreamName) where
  other_event : (stories : StreamName → Story Group) (range : ℕ) (kind : StreamKind) (e : StreamEvent Group) → (name.range ≡ range → ⊥) → with_event stories (stream_named range kind) e name ≡ stories name
  other_event stories range kind e apart =
      if_elim (λ l. l ≡ stories name) (is_stream name (stream_named range kind)) (e ∷ stories name) (stories name) (λ t. absurd (apart (eqb-true name.range range (and_parts (name.range == range) _ t).0))) (λ f. refl)

  module _ (server range generation : ℕ) (apart : name.range ≡ range → ⊥) where
    action_story : (x : ServerRun) (a : StreamAction) → (after_action server range generation x a).story name ≡ x.story name
    action_story x (Reads kind read) = refl
    action_story x (Forms kind group) = other_event x.story range kind _ apart
    action_story x (Stands kind extent at group) = other_event x.story range kind _ apart
    action_story x (Shows start log_end metadata_end) =
        let first : StreamEvent Group = Showed generation 0 (place_number metadata_end) (placed_reads ((x.history server range).reads kinds.Metadata)) in
        other_event (with_event x.story (stream_named range kinds.Metadata) first) range kinds.Log _ apart ∙ other_event x.story range kinds.Metadata first apart
    action_story x (Finds found) = refl
    action_story x (Stores stored) = refl

  actions_story : (server range generation : ℕ) (apart : name.range ≡ range → ⊥) (x : ServerRun) (actions : List StreamAction) → (after_actions server range generation x actions).story name ≡ x.story name
  actions_story server range generation apart x [] = refl
  actions_story server range generation apart x (a ∷ earlier) = action_story server range generation apart (after_actions server range generation x earlier) a ∙ actions_story server range generation apart x earlier

  sides_story : (server generation : ℕ) (x : ServerRun) (sides : List SideAction) → Each (λ (side : SideAction). name.range ≡ side.range → ⊥) sides → (after_sides server generation x sides).story name ≡ x.story name
  sides_story server generation x [] apart = refl
  sides_story server generation x (side ∷ earlier) apart = action_story server side.range generation apart.0 (after_sides server generation x earlier) side.action ∙ sides_story server generation x earlier apart.1

  -- what is not done with the streams of its range
  abbrev pub IsElsewhere : RangeEffect → Type 0
  IsElsewhere (Begins range) = Unit {0}
  IsElsewhere (Does range generation actions) = name.range ≡ range → ⊥
  IsElsewhere (Tells generation sides) = Each (λ (side : SideAction). name.range ≡ side.range → ⊥) sides
  IsElsewhere Rests = Unit {0}

  pub effect_story : (server : ℕ) (x : ServerRun) (e : RangeEffect) → IsElsewhere e → (with_effect server x e).story name ≡ x.story name
  effect_story server x (Begins range) apart = refl
  effect_story server x (Does range generation actions) apart = actions_story server range generation apart x actions
  effect_story server x (Tells generation sides) apart = sides_story server generation x sides apart
  effect_story server x Rests apart = refl

-- ---- a packet to a server

module _ (c : Cluster) (k : KnowsSplits c) (n : ℕ) (kind : StreamKind) (none : MayHold c k n → ⊥) (absent : stream_of c.stream_layer.catalog.stream (first_name n) ≡ None) (s : ℕ) (p : Packet) (there : Contains c.stream_layer.post p) (to : p.to ≡ Server s) (cell : ServerCell) (st : ServerState) (at : entry_at c.servers s ≡ Some cell) (up : cell.state ≡ Some st) where
  abbrev Elsewhere : RangeEffect → Type 0
  Elsewhere = IsElsewhere (stream_named n kind)

  held_apart : (range : ℕ) (r : RangeState) → range_of st.ranges range ≡ Some r → n ≡ range → ⊥
  held_apart range r found same = none (held_assigned c k s cell st at up n r (subst (λ i. range_of st.ranges i ≡ Some r) (sym same) found))

  abbrev AllApart : List SideAction → Type 0
  AllApart sides = Each (λ (side : SideAction). n ≡ side.range → ⊥) sides

  module _ (range : ℕ) (job : SplitJob) (found : split_of st.splits range ≡ Some job) where
    here : JobAt c.servers s range job
    here = record { cell = cell; state = st; there = at; runs = up; found = found }

    not_all : IsSide n job → AllIn c.stream_layer.catalog.stream (all_streams job) → ⊥
    not_all side all = let (z, is) = first_of c k job n side all in let e : None ≡ Some z = sym absent ∙ is in cc

    hears_apart : (q : ReqNo) → job.phase ≡ phases.Build q → is_answerer p.from p.body ≡ true → TellsBuilt q p.body → IsSide n job → ⊥
    hears_apart q is may tells side =
        let x = (k.stand.stages.jobs s cell st at up range job found).asked q is in
        not_all side
        (heard_there c.stream_layer c.servers k.whole k.stand k.gives.given k.governs.asks c.map.next k.gives.gives.map.below k.gives.gives.names.post k.governs.sent s p there to q may tells job x.0 x.1)

    module _ (r : RangeState) (w : ReqNo) (number : answered_number p.body ≡ Some w) (waits : phase_awaits job.phase w ≡ true) (may : is_answerer p.from p.body ≡ true) where
      said_apart : (IsSide n job → ⊥) → (side : Side) → AllApart (keys_said r job side)
      said_apart free side = if_elim AllApart (may_say_keys r job) _ _ (λ t. ((λ e. free (side_is job side n e)), tt)) (λ f. tt)

      after_apart : (IsSide n job → ⊥) → (side : Side) → AllApart (keys_after r job side)
      after_apart free Low = said_apart free High
      after_apart free High = tt

      told_apart : (IsSide n job → ⊥) → (side : Side) (client : ClientState) (told : Option News) → AllApart (keys_told r job side client told)
      told_apart free side client (Some (news.Appended e offset)) = each_both (λ (x : SideAction). n ≡ x.range → ⊥) (keys_after r job side) _ (after_apart free side) ((λ e. free (side_is job side n e)), tt)
      told_apart free side client told = tt

      own_number : (q : ReqNo) → job.phase ≡ phases.Build q → (v : ReqNo) → answered_number p.body ≡ Some v → v ≡ q
      own_number q is v named = same_Some v w (sym named ∙ number) ∙ sym (same_request q w (subst (λ phase. phase_awaits phase w ≡ true) is waits))

      refused_apart : (q : ReqNo) → job.phase ≡ phases.Build q → (body : AppendBody) → p.body ≡ bodies.Append body → AllApart (built_refused r job body)
      refused_apart q is (appends.Refused v refusals.NameTaken) body =
          said_apart (hears_apart q is may (inr (body ∙ ap (λ z. bodies.Append (appends.Refused z refusals.NameTaken)) (own_number q is v (ap answered_number body))))) Low
      refused_apart q is other body = tt

      stream_apart : (q : ReqNo) → job.phase ≡ phases.Build q → (body : StreamBody) → p.body ≡ bodies.Stream body → AllApart (built_told r job body)
      stream_apart q is (streams.Modified v) body = said_apart (hears_apart q is may (inl (body ∙ ap (λ z. bodies.Stream (streams.Modified z)) (own_number q is v (ap answered_number body))))) Low
      stream_apart q is other body = tt

      built_apart : (q : ReqNo) → job.phase ≡ phases.Build q → (body : Body) → p.body ≡ body → AllApart (built r job body)
      built_apart q is (bodies.Append append) body = refused_apart q is append body
      built_apart q is (bodies.Stream stream) body = stream_apart q is stream body
      built_apart q is other body = tt

      phase_apart : (phase : SplitPhase) → job.phase ≡ phase → AllApart (sides_in st.context r job phase p.body)
      phase_apart (phases.Keys side client) is =
          let three : stage_of job.phase ≡ 3 = ap stage_of is in
          told_apart (λ part. not_all part (split_there c k s range job here (omega (arith, three))).1) side client _
      phase_apart (phases.Build q) is = built_apart q is p.body refl
      phase_apart phase is = tt

  -- ---- what it is to the streams

  transact_apart : (range : ℕ) (changes : List Change) (q : ReqNo) (o : Option RangeState) → range_of st.ranges range ≡ o → Elsewhere (transact_effect st p range changes q o)
  transact_apart range changes q None is = tt
  transact_apart range changes q (Some r) is = held_apart range r is

  get_apart : (range : ℕ) (key : List ℕ) (q : ReqNo) (o : Option RangeState) → range_of st.ranges range ≡ o → Elsewhere (get_effect st p range key q o)
  get_apart range key q None is = tt
  get_apart range key q (Some r) is = by (split_of st.splits range)
    where
      by : (job : Option SplitJob) → Elsewhere (follow_effect st range r job (get_rule st.context r p.from q key))
      by None = tt
      by (Some job) = held_apart range r is

  table_apart : (body : TableBody) → Elsewhere (table_effect st p body)
  table_apart (tables.Transact range changes q) = transact_apart range changes q (range_of st.ranges range) refl
  table_apart (tables.Get range key q) = get_apart range key q (range_of st.ranges range) refl
  table_apart body = tt

  answer_apart : (w : ReqNo) (range : ℕ) (o : Option RangeState) → range_of st.ranges range ≡ o → Elsewhere (answer_effect st p w range o)
  answer_apart w range None is = tt
  answer_apart w range (Some r) is = held_apart range r is

  module _ (may : is_answerer p.from p.body ≡ true) (w : ReqNo) (number : answered_number p.body ≡ Some w) where
    split_in_apart : (range : ℕ) → split_awaiting st.splits w ≡ Some range → (o : Option RangeState) (job : Option SplitJob) → split_of st.splits range ≡ job → Elsewhere (split_effect_in st p o job)
    split_in_apart range waits (Some r) (Some job) found = phase_apart range job found r w number (awaits_itself st.splits w range job (names_of c k s cell st at up).rising waits found) may job.phase refl
    split_in_apart range waits (Some r) None found = tt
    split_in_apart range waits None job found = tt

    split_apart_by : (o : Option ℕ) → split_awaiting st.splits w ≡ o → Elsewhere (split_effect st p o)
    split_apart_by None waits = tt
    split_apart_by (Some range) waits = split_in_apart range waits (range_of st.ranges range) (split_of st.splits range) refl

    awaited_apart : (o : Option ℕ) → Elsewhere (awaited_effect st p w o)
    awaited_apart None = split_apart_by (split_awaiting st.splits w) refl
    awaited_apart (Some range) = answer_apart w range (range_of st.ranges range) refl

  numbered_apart : (o : Option ReqNo) → answered_number p.body ≡ o → Elsewhere (numbered_effect st p o)
  numbered_apart None is = tt
  numbered_apart (Some w) is = if_elim Elsewhere (is_answerer p.from p.body) _ _ (λ t. awaited_apart t w is (awaiting st.ranges w)) (λ f. tt)

  assign_apart : (from : ActorId) (range generation until : ℕ) → Elsewhere (map_effect st from (maps.Assign range generation until))
  assign_apart Map range generation until = if_elim Elsewhere (is_newer generation (range_of st.ranges range)) _ _ (λ t. tt) (λ f. tt)
  assign_apart (Node i) range generation until = tt
  assign_apart Manager range generation until = tt
  assign_apart (Server i) range generation until = tt
  assign_apart (User i) range generation until = tt

  renew_apart : (from : ActorId) (range generation until : ℕ) → Elsewhere (map_effect st from (maps.Renew range generation until))
  renew_apart Map range generation until = tt
  renew_apart (Node i) range generation until = tt
  renew_apart Manager range generation until = tt
  renew_apart (Server i) range generation until = tt
  renew_apart (User i) range generation until = tt

  packet_apart : (body : Body) → p.body ≡ body → Elsewhere (packet_effect st p body)
  packet_apart (bodies.Map (maps.Assign range generation until)) is = assign_apart p.from range generation until
  packet_apart (bodies.Map (maps.Renew range generation until)) is = renew_apart p.from range generation until
  packet_apart (bodies.Table body) is = table_apart body
  packet_apart body is = numbered_apart (answered_number body) (ap answered_number is)

  -- it is nothing to those of the range
  pub server_apart : Elsewhere (server_effect p (Some st))
  server_apart = if_elim Elsewhere (has_numbers st.context) _ _ (λ t. packet_apart p.body refl) (λ f. tt)
