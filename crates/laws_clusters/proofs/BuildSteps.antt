-- Through each event of a cluster without merges: each number under which streams are asked to be built is of one list, and splits go on with streams
-- that are there.
use Rattle.std.proofs.Common.{◌≡◌, ◌⊎◌, ◌<◌, ℕ, ◌-◌, ◌^◌, ◌==◌, nat_lt, suc, Bool, true, List, [], ◌∷◌, ◌++◌, map, Option, Some, None, option_map, slice_get, slice_set, Contains, refl, sym, ap, ◌∙◌, subst, inl, inr, arith}
use Rattle.std.proofs.lemmas.Option.{same_Some}
use Rattle.std.proofs.lemmas.List.Elements.{Contains-append_left, Contains-append_right, Contains-append_cases}
use Rattle.block_types.specs.declared.record.Nodes.{Nodes}
use Rattle.wire.specs.declared.actor.ActorId.{ActorId}
use Rattle.wire.specs.declared.actor.ActorId.TheVariants.{Node, Manager, Map, Server, User}
use Rattle.wire.specs.declared.actor.ReqNo.{ReqNo}
use Rattle.wire.specs.declared.actor.ReqNo.TheVariants as requests
use Rattle.wire.specs.declared.body.Body.{Body}
use Rattle.wire.specs.declared.body.Body.TheVariants as bodies
use Rattle.wire.specs.declared.body.MapBody.TheVariants as maps
use Rattle.wire.specs.declared.body.StreamBody.{StreamBody}
use Rattle.wire.specs.declared.body.StreamBody.TheVariants as streams
use Rattle.wire.specs.declared.packet.Packet.{Packet}
use Rattle.wire.specs.declared.refusal.Refusal.{Refusal}
use Rattle.wire.specs.declared.streams.Modify.{Modify}
use Rattle.model_streams.specs.declared.event.Event.{Event}
use Rattle.model_streams.specs.declared.event.Event.TheVariants.{Submit, Deliver, Stop, Restart, Decide, GiveUp, Assign, Renew, Moment, Checkpoint, Split, Merge}
use Rattle.model_streams.specs.Maps.{entry_at}
use Rattle.model_streams.specs.Outcome.{Outcome}
use Rattle.model_streams.specs.StreamSystem.{Happens, happens, stops_in, stands_in, delivered_if, delivered}
use Rattle.model_streams.proofs.Tests.{if_elim}
use Rattle.model_partition.specs.declared.split_job.SplitJob.{SplitJob}
use Rattle.model_partition.specs.Answering.{is_answerer}
use Rattle.model_partition.specs.Map.{MapState, range_at}
use Rattle.model_partition.specs.MapRules.{assign_fault, assign_rule, renew_fault, renew_rule, map_rule}
use Rattle.model_partition.specs.Partition.{IsSound}
use Rattle.model_partition.specs.Server.{ServerState, ServerOutcome, server_rule, server_checkpoint, server_split, picked, give_up_rule, moment_rule, started}
use Rattle.model_partition.specs.Servers.{ServerCell, CellOutcome, cell_rests, cell_performs, cell_takes, cell_given_up, cell_gives_up, cell_checkpoints, cell_splits, cell_stops, cell_starts, at_server, first_pick, told_moment}
use Rattle.model_partition.specs.Cluster.{IsUnmerged, Cluster, servers_perform, map_performs, map_performs_if, delivered_to, delivers, stops, restarts, shows_moment, cluster_after}
use Rattle.laws_streams.proofs.Choices.{contains_get}
use Rattle.laws_streams.proofs.PacketSources.{moved_gains}
use Rattle.laws_map.specs.Naming.{Each, Knowledge, StateNames, Names}
use Rattle.laws_map.proofs.AskedNumbers.{IsPast, AreThemselves, ServersOn, nothing_on, moments_on, entry_set}
use Rattle.laws_map.proofs.EventNames.{entry_is}
use Rattle.laws_map.proofs.Knowing.{each_weaker, each_has, each_put, found_at}
use Rattle.laws_map.proofs.UsedNumbers.{BodyUses, TellsUsed, assign_uses, renew_uses, map_uses}
use Rattle.laws_clusters.proofs.LayerPackets.{CreatesFrom, PlainFrom, layer_step}
use Rattle.laws_clusters.proofs.SplitBuilds.{HasBuild, IsNew, PhaseFits, JobFits, Answers, up_job}
use Rattle.laws_clusters.proofs.ServerBuilds.{IsAskedAgain, SplitsFit, BodyFits, ServerFits, server_fits, server_checkpoint_fits, server_split_fits, ServerFitsIf, server_gives_up_fits}

-- ---- what was asked

pub build_more : (post new : List Packet) → ((p : Packet) → Contains post p → Contains new p) → (q : ReqNo) (list : List Modify) → HasBuild post q list → HasBuild new q list
build_more post new sent q list b = record { packet = b.packet; sent = sent b.packet b.sent; is = b.is }

build_cases : (post new : List Packet) (q : ReqNo) (list : List Modify) → HasBuild (post ++ new) q list → HasBuild post q list ⊎ HasBuild new q list
build_cases post new q list b = elim (Contains-append_cases post new b.packet b.sent) [
  | inl there ↦ inl (record { packet = b.packet; sent = there; is = b.is })
  | inr there ↦ inr (record { packet = b.packet; sent = there; is = b.is })
]

abbrev IsPlain : Packet → Type 0
IsPlain p = PlainFrom p.from p.body

uses_plain : (m : MapState) (from : ActorId) (body : Body) → BodyUses m body → PlainFrom from body
uses_plain m from (bodies.Stream body) u = absurd u
uses_plain m from (bodies.Map (maps.CompleteSplit range generation q)) u = absurd u
uses_plain m from (bodies.Map body) u = tt
uses_plain m from body u = tt

plain_creates : (from : ActorId) (body : Body) → PlainFrom from body → CreatesFrom from body
plain_creates from (bodies.Stream (streams.CreateStream s fence q)) plain = plain
plain_creates from (bodies.Stream body) plain = tt
plain_creates from body plain = tt

module _ (Fit : ℕ → ℕ → List ℕ → ℕ → ℕ → Type 0) where
  abbrev pub StateFits : List Packet → Option ServerState → Type 0
  StateFits post None = Unit {0}
  StateFits post (Some s) = SplitsFit (HasBuild post) Fit s.splits

  -- who asks to complete a split has its streams
  abbrev pub Completes : Body → Type 0
  Completes (bodies.Map (maps.CompleteSplit range generation q)) = (key : List ℕ) × (low : ℕ) × (high : ℕ) × Fit range generation key low high
  Completes body = Unit {0}

  pub record Constructs (c : Cluster) : Type 0 where
    pub jobs : Each (λ (cell : ServerCell). StateFits c.stream_layer.post cell.state) c.servers
    pub once : (q : ReqNo) (a b : List Modify) → HasBuild c.stream_layer.post q a → HasBuild c.stream_layer.post q b → a ≡ b
    pub past : (q : ReqNo) (list : List Modify) → HasBuild c.stream_layer.post q list → IsPast c.servers q
    pub completes : (p : Packet) → Contains c.stream_layer.post p → Completes p.body
    pub creates : (p : Packet) → Contains c.stream_layer.post p → CreatesFrom p.from p.body

  plain_completes : (from : ActorId) (body : Body) → PlainFrom from body → Completes body
  plain_completes from (bodies.Map (maps.CompleteSplit range generation q)) plain = absurd plain
  plain_completes from (bodies.Map body) plain = tt
  plain_completes from body plain = tt

  module _ (K : Knowledge) where
    state_more : (post new : List Packet) → ((p : Packet) → Contains post p → Contains new p) → (state : Option ServerState) → StateFits post state → StateFits new state
    state_more post new sent None f = tt
    state_more post new sent (Some s) f =
        each_weaker (λ (x : ℕ × SplitJob). JobFits (HasBuild post) Fit x.1) (λ (x : ℕ × SplitJob). JobFits (HasBuild new) Fit x.1) (λ x j. up_job (HasBuild post) (HasBuild new) (build_more post new sent) Fit K x.1 j) s.splits f

    cells_more : (post new : List Packet) → ((p : Packet) → Contains post p → Contains new p) → (cells : List ServerCell) → Each (λ (cell : ServerCell). StateFits post cell.state) cells → Each (λ (cell : ServerCell). StateFits new cell.state) cells
    cells_more post new sent cells f = each_weaker (λ (cell : ServerCell). StateFits post cell.state) (λ (cell : ServerCell). StateFits new cell.state) (λ cell h. state_more post new sent cell.state h) cells f

    module _ (c : Cluster) (x : Constructs c) where
      abbrev post : List Packet
      post = c.stream_layer.post

      abbrev On : Cluster → Type 0
      On d = ServersOn c.servers d.servers

      -- whatever else is sent is plain
      plain : (d : Cluster) → ((p : Packet) → Contains post p → Contains d.stream_layer.post p) → ((p : Packet) → Contains d.stream_layer.post p → Contains post p ⊎ IsPlain p) →
          Each (λ (cell : ServerCell). StateFits post cell.state) d.servers → On d → Constructs d
      plain d sent back jobs on = record {
        jobs = cells_more post d.stream_layer.post sent d.servers jobs;
        once = λ q a b h k. x.once q a b (old q a h) (old q b k);
        past = λ q list h. on.past q (x.past q list (old q list h));
        completes = λ p there. elim (back p there) [ inl before ↦ x.completes p before | inr new ↦ plain_completes p.from p.body new ];
        creates = λ p there. elim (back p there) [ inl before ↦ x.creates p before | inr new ↦ plain_creates p.from p.body new ];
      }
        where
          old : (q : ReqNo) (list : List Modify) → HasBuild d.stream_layer.post q list → HasBuild post q list
          old q list h = elim (back h.packet h.sent) [ inl before ↦ record { packet = h.packet; sent = before; is = h.is } | inr new ↦ absurd (subst (PlainFrom h.packet.from) h.is new) ]

      -- nothing is sent
      quiet : (d : Cluster) → d.stream_layer.post ≡ post → Each (λ (cell : ServerCell). StateFits post cell.state) d.servers → On d → Constructs d
      quiet d same jobs on = plain d (λ p there. subst (λ ps. Contains ps p) (sym same) there) (λ p there. inl (subst (λ ps. Contains ps p) same there)) jobs on

      -- ---- the map

      more_plain : (d : Cluster) (packets : List Packet) → d.stream_layer.post ≡ post ++ packets → Each IsPlain packets → Each (λ (cell : ServerCell). StateFits post cell.state) d.servers → On d → Constructs d
      more_plain d packets same each jobs on =
          plain d (λ p there. subst (λ ps. Contains ps p) (sym same) (Contains-append_left post packets p there))
          (λ p there. elim (Contains-append_cases post packets p (subst (λ ps. Contains ps p) same there)) [ inl before ↦ inl before | inr new ↦ inr (each_has IsPlain packets p each new) ]) jobs on

      does_on : (o : Outcome MapState) → TellsUsed o → Constructs (map_performs c o)
      does_on o u =
          if_elim Constructs (stops_in c.map_cell o.written) _ _
          (λ t. if_elim Constructs (stands_in c.map_cell) _ _ (λ s. more_plain _ [] refl tt x.jobs (nothing_on c.servers)) (λ s. quiet _ refl x.jobs (nothing_on c.servers)))
          (λ f. more_plain _ o.packets refl (each_weaker (λ (p : Packet). BodyUses o.after p.body) IsPlain (λ p b. uses_plain o.after p.from p.body b) o.packets u) x.jobs (nothing_on c.servers))

      does_if_on : (fault : Option Refusal) (o : Outcome MapState) → TellsUsed o → Constructs (map_performs_if c fault o)
      does_if_on (Some refusal) o u = x
      does_if_on None o u = does_on o u

      -- ---- the stream layer

      happens_on : (event : Event) → Constructs (record c { stream_layer = happens c.stream_layer event })
      happens_on event =
          plain (record c { stream_layer = happens c.stream_layer event }) (λ p there. (moved_gains c.stream_layer (Happens event)).post p there) (λ p there. elim ((layer_step c.stream_layer event).sent p there) [ inl before ↦ inl before | inr new ↦ inr new.0 ]) x.jobs
          (nothing_on c.servers)

      -- ---- servers

      -- a server that does nothing but stop, start or wait, or a step of one that fits
      pub record IsStep (cell : ServerCell) (o : CellOutcome) : Type 0 where
        state : ServerState
        outcome : ServerOutcome
        up : cell.state ≡ Some state
        is : o ≡ cell_performs cell outcome
        fits : ServerFits (HasBuild post) (HasBuild (post ++ outcome.packets)) (λ q list b. build_more post (post ++ outcome.packets) (λ p there. Contains-append_left post outcome.packets p there) q list b) Fit K state outcome

      abbrev CellFits : ServerCell → CellOutcome → Type 0
      CellFits cell o = ((o.packets ≡ []) × StateFits post o.cell.state) ⊎ IsStep cell o

      abbrev after_cell : ℕ → CellOutcome → Cluster
      after_cell s o = servers_perform c (record { servers = slice_set c.servers (s - 1) o.cell; packets = o.packets; notes = o.notes })

      -- nothing is asked
      rested : (s : ℕ) (o : CellOutcome) → o.packets ≡ [] → StateFits post o.cell.state → On (after_cell s o) → Constructs (after_cell s o)
      rested s o none fits on =
          more_plain (after_cell s o) o.packets refl (subst (λ ps. Each IsPlain ps) (sym none) tt)
          (each_put (λ (cell : ServerCell). StateFits post cell.state) c.servers (s - 1) o.cell x.jobs fits) on

      module _ (themselves : AreThemselves c.servers) (s : ℕ) (cell : ServerCell) (at : entry_at c.servers s ≡ Some cell) (st : ServerState) (up : cell.state ≡ Some st) (o : ServerOutcome)
          (fits : ServerFits (HasBuild post) (HasBuild (post ++ o.packets)) (λ q list b. build_more post (post ++ o.packets) (λ p there. Contains-append_left post o.packets p there) q list b) Fit K st o) (on : On (after_cell s (cell_performs cell o))) where
        abbrev new_post : List Packet
        new_post = post ++ o.packets

        abbrev Body_fits : Packet → Type 0
        Body_fits p = BodyFits (HasBuild post) (HasBuild new_post) (λ q list b. build_more post new_post (λ p there. Contains-append_left post o.packets p there) q list b) Fit K st o.after.context.count fits.list p.body

        abbrev IsNewAt : ReqNo → Type 0
        IsNewAt q = IsNew st.context.server st.context.session st.context.count o.after.context.count q

        jobs_at : SplitsFit (HasBuild post) Fit st.splits
        jobs_at = subst (StateFits post) up (entry_is (λ (y : ServerCell). StateFits post y.state) c.servers s cell x.jobs at)

        -- a split that it has asked for them before
        asked_again : (q : ReqNo) (list : List Modify) → IsAskedAgain st q list → HasBuild post q list
        asked_again q list again =
            subst (λ l. HasBuild post q l) (sym again.is)
            (subst (PhaseFits (HasBuild post) Fit again.job) again.building (found_at (λ k (j : SplitJob). JobFits (HasBuild post) Fit j) st.splits again.range again.job jobs_at again.held))

        -- a number that is new was not used before
        not_past : (q : ReqNo) → IsNewAt q → IsPast c.servers q → ⊥
        not_past q new past =
            let own = themselves s cell at st up in
            let p : IsPast c.servers (requests.Server st.context.server st.context.session new.0) = subst (IsPast c.servers) new.1 past in
            let same : p.0 ≡ cell = same_Some p.0 cell (sym p.1 ∙ ap (entry_at c.servers) own.0 ∙ at) in
            elim p.2 [
              | inl over ↦ absurd (let e = own.1 in let z = ap (λ (y : ServerCell). y.session) same in omega (arith, over, e, z))
              | inr lasts ↦ absurd (let l = lasts.1 st (ap (λ (y : ServerCell). y.state) same ∙ up) in let m = new.2 in omega (arith, l, m))
            ]

        -- and is used then
        now_past : (q : ReqNo) → IsNewAt q → IsPast (after_cell s (cell_performs cell o)).servers q
        now_past q new =
            let own = themselves s cell at st up in
            let next : ServerCell = record cell { state = Some o.after } in
            subst (IsPast (after_cell s (cell_performs cell o)).servers) (sym new.1) (
              next,
              ap (entry_at (slice_set c.servers (s - 1) next)) own.0 ∙ entry_set c.servers s cell next at,
              inr (own.1, λ z e. (let same : o.after ≡ z = same_Some o.after z e in let l = new.3 in subst (λ (y : ServerState). new.0 < y.context.count) same l)),
            )

        -- what is new under a number
        new_build : (q : ReqNo) (list : List Modify) → HasBuild o.packets q list → (list ≡ fits.list) × (HasBuild post q fits.list ⊎ IsNewAt q)
        new_build q list b =
            let f = subst (BodyFits (HasBuild post) (HasBuild new_post) (λ q list b. build_more post new_post (λ p there. Contains-append_left post o.packets p there) q list b) Fit K st o.after.context.count fits.list) b.is (each_has Body_fits o.packets b.packet fits.sends b.sent) in
            (f.0, elim f.1 [ inl again ↦ inl (asked_again q fits.list again) | inr new ↦ inr new ])

        same_lists : (q : ReqNo) (a b : List Modify) → HasBuild new_post q a → HasBuild new_post q b → a ≡ b
        same_lists q a b h k = elim (build_cases post o.packets q a h) [
          | inl old ↦ elim (build_cases post o.packets q b k) [
            | inl also ↦ x.once q a b old also
            | inr new ↦ old_new q a b old new
          ]
          | inr new ↦ elim (build_cases post o.packets q b k) [
            | inl old ↦ sym (old_new q b a old new)
            | inr also ↦ (new_build q a new).0 ∙ sym (new_build q b also).0
          ]
        ]
          where
            old_new : (q : ReqNo) (a b : List Modify) → HasBuild post q a → HasBuild o.packets q b → a ≡ b
            old_new q a b old new =
                let n = new_build q b new in
                elim n.1 [
                  | inl again ↦ x.once q a fits.list old again ∙ sym n.0
                  | inr fresh ↦ absurd (not_past q fresh (x.past q a old))
                ]

        all_past : (q : ReqNo) (list : List Modify) → HasBuild new_post q list → IsPast (after_cell s (cell_performs cell o)).servers q
        all_past q list h = elim (build_cases post o.packets q list h) [
          | inl old ↦ on.past q (x.past q list old)
          | inr new ↦ elim (new_build q list new).1 [
            | inl again ↦ on.past q (x.past q fits.list again)
            | inr fresh ↦ now_past q fresh
          ]
        ]

        fit_completes : (body : Body) → BodyFits (HasBuild post) (HasBuild new_post) (λ q list b. build_more post new_post (λ p there. Contains-append_left post o.packets p there) q list b) Fit K st o.after.context.count fits.list body → Completes body
        fit_completes (bodies.Map (maps.CompleteSplit range generation q)) f = f
        fit_completes (bodies.Map body) f = tt
        fit_completes body f = tt

        fit_creates : (from : ActorId) (body : Body) → BodyFits (HasBuild post) (HasBuild new_post) (λ q list b. build_more post new_post (λ p there. Contains-append_left post o.packets p there) q list b) Fit K st o.after.context.count fits.list body → CreatesFrom from body
        fit_creates from (bodies.Stream (streams.CreateStream name fence q)) f = absurd f
        fit_creates from (bodies.Stream body) f = tt
        fit_creates from body f = tt

        stepped : Constructs (after_cell s (cell_performs cell o))
        stepped = record {
          jobs =
              each_put (λ (y : ServerCell). StateFits new_post y.state) c.servers (s - 1) (record cell { state = Some o.after })
              (cells_more post new_post (λ p there. Contains-append_left post o.packets p there) c.servers x.jobs)
              (fits.jobs (λ q list b. build_more o.packets new_post (λ p there. Contains-append_right post o.packets p there) q list b));
          once = same_lists;
          past = all_past;
          completes = λ p there. elim (Contains-append_cases post o.packets p there) [ inl old ↦ x.completes p old | inr new ↦ fit_completes p.body (each_has Body_fits o.packets p fits.sends new) ];
          creates = λ p there. elim (Contains-append_cases post o.packets p there) [ inl old ↦ x.creates p old | inr new ↦ fit_creates p.from p.body (each_has Body_fits o.packets p fits.sends new) ];
        }

      pub at_cell : AreThemselves c.servers → (s : ℕ) (rule : ServerCell → CellOutcome) → ((cell : ServerCell) → entry_at c.servers s ≡ Some cell → CellFits cell (rule cell)) → (found : Option ServerCell) → entry_at c.servers s ≡ found →
          On (servers_perform c (at_server c.servers s rule found)) → Constructs (servers_perform c (at_server c.servers s rule found))
      at_cell themselves s rule fits None at on = more_plain _ [] refl tt x.jobs on
      at_cell themselves s rule fits (Some cell) at on = elim (fits cell at) [
        | inl rest ↦ rested s (rule cell) rest.0 rest.1 on
        | inr step ↦ subst (λ o. On (after_cell s o) → Constructs (after_cell s o)) (sym step.is) (λ on. stepped themselves s cell at step.state step.up step.outcome step.fits on) on
      ]

      -- ---- what servers do

      module _ (n : Names K c) (sound : IsSound c.map) (themselves : AreThemselves c.servers) where
        state_at : (s : ℕ) (cell : ServerCell) → entry_at c.servers s ≡ Some cell → StateNames K cell.state
        state_at s cell at = entry_is (λ (y : ServerCell). StateNames K y.state) c.servers s cell n.servers at

        fits_at : (s : ℕ) (cell : ServerCell) → entry_at c.servers s ≡ Some cell → StateFits post cell.state
        fits_at s cell at = entry_is (λ (y : ServerCell). StateFits post y.state) c.servers s cell x.jobs at

        performs : (cell : ServerCell) (st : ServerState) (o : ServerOutcome) → cell.state ≡ Some st →
            ServerFits (HasBuild post) (HasBuild (post ++ o.packets)) (λ q list b. build_more post (post ++ o.packets) (λ p there. Contains-append_left post o.packets p there) q list b) Fit K st o → CellFits cell (cell_performs cell o)
        performs cell st o up fits = inr (record { state = st; outcome = o; up = up; is = refl; fits = fits })

        rests : (cell : ServerCell) → StateFits post cell.state → CellFits cell (cell_rests cell)
        rests cell f = inl (refl, f)

        takes_fit : (s : ℕ) (cell : ServerCell) (p : Packet) → (is_answerer p.from p.body ≡ true → Answers (HasBuild post) (HasBuild post) (λ q list b. b) Fit K p.body) → entry_at c.servers s ≡ Some cell → (state : Option ServerState) → cell.state ≡ state →
            CellFits cell (cell_takes cell p state)
        takes_fit s cell p answers at None up = rests cell (fits_at s cell at)
        takes_fit s cell p answers at (Some st) up =
            performs cell st (server_rule st p p.body) up (server_fits (HasBuild post) _ _ Fit K st (subst (StateNames K) up (state_at s cell at)) (subst (StateFits post) up (fits_at s cell at)) p answers)

        checkpoints_fit : (s : ℕ) (cell : ServerCell) (range : ℕ) (combine : Bool) → entry_at c.servers s ≡ Some cell → (state : Option ServerState) → cell.state ≡ state → CellFits cell (cell_checkpoints cell range combine state)
        checkpoints_fit s cell range combine at None up = rests cell (fits_at s cell at)
        checkpoints_fit s cell range combine at (Some st) up =
            performs cell st (server_checkpoint st range combine) up (server_checkpoint_fits (HasBuild post) _ _ Fit K st (subst (StateNames K) up (state_at s cell at)) (subst (StateFits post) up (fits_at s cell at)) range combine)

        splits_fit : (s : ℕ) (cell : ServerCell) (range : ℕ) (key : List ℕ) → entry_at c.servers s ≡ Some cell → (state : Option ServerState) → cell.state ≡ state → CellFits cell (cell_splits cell range key state)
        splits_fit s cell range key at None up = rests cell (fits_at s cell at)
        splits_fit s cell range key at (Some st) up =
            performs cell st (server_split st range key) up (server_split_fits (HasBuild post) _ _ Fit K st (subst (StateNames K) up (state_at s cell at)) (subst (StateFits post) up (fits_at s cell at)) range key)

        -- what it sends, if anything
        abbrev packets_if : Option ServerOutcome → List Packet
        packets_if None = []
        packets_if (Some o) = o.packets

        gives_up_fit : (s : ℕ) (cell : ServerCell) (range : ℕ) (pick : Nodes) → entry_at c.servers s ≡ Some cell → (state : Option ServerState) → cell.state ≡ state → CellFits cell (cell_gives_up cell range pick state)
        gives_up_fit s cell range pick at None up = rests cell (fits_at s cell at)
        gives_up_fit s cell range pick at (Some st) up =
            by (give_up_rule st range pick) (server_gives_up_fits (HasBuild post) (HasBuild (post ++ packets_if (give_up_rule st range pick))) (λ q list b. build_more post _ (λ p there. Contains-append_left post _ p there) q list b) Fit K st range pick
            (subst (StateNames K) up (state_at s cell at)) (subst (StateFits post) up (fits_at s cell at)))
          where
            by : (o : Option ServerOutcome) → ServerFitsIf (HasBuild post) (HasBuild (post ++ packets_if o)) (λ q list b. build_more post (post ++ packets_if o) (λ p there. Contains-append_left post (packets_if o) p there) q list b) Fit K (picked st pick) o →
                CellFits cell (cell_given_up cell o)
            by None h = rests cell (fits_at s cell at)
            by (Some o) h = performs cell st o up (record {
              jobs = h.jobs;
              list = h.list;
              sends = each_weaker (λ (p : Packet). Sends (picked st pick) p.body) (λ (p : Packet). Sends st p.body) (λ p b. picked_body p.body b) o.packets h.sends;
            })
              where
                Sends : ServerState → Body → Type 0
                Sends z body = BodyFits (HasBuild post) (HasBuild (post ++ o.packets)) (λ q list b. build_more post (post ++ o.packets) (λ p there. Contains-append_left post o.packets p there) q list b) Fit K z o.after.context.count h.list body

                picked_stream : (body : StreamBody) → Sends (picked st pick) (bodies.Stream body) → Sends st (bodies.Stream body)
                picked_stream (streams.MultiModify list q) f = (
                  f.0,
                  elim f.1 [
                    | inl again ↦ inl (record { range = again.range; job = again.job; held = again.held; building = again.building; is = again.is })
                    | inr new ↦ inr new
                  ],
                )
                picked_stream (streams.CreateStream name fence q) f = f
                picked_stream body f = tt

                picked_body : (body : Body) → Sends (picked st pick) body → Sends st body
                picked_body (bodies.Stream body) f = picked_stream body f
                picked_body (bodies.Map body) f = f
                picked_body body f = tt

        stops_fit : (s call : ℕ) (cell : ServerCell) → entry_at c.servers s ≡ Some cell → CellFits cell (cell_rests (cell_stops call cell))
        stops_fit s call cell at = inl (refl, if_elim (λ (y : ServerCell). StateFits post y.state) (call == 0) (record cell { state = None }) cell (λ t. tt) (λ f. fits_at s cell at))

        starts_fit : (s now batch : ℕ) (cell : ServerCell) → entry_at c.servers s ≡ Some cell → (state : Option ServerState) → cell.state ≡ state → CellFits cell (cell_rests (cell_starts s now batch cell state))
        starts_fit s now batch cell at (Some st) up = inl (refl, fits_at s cell at)
        starts_fit s now batch cell at None up = inl (
          refl,
          if_elim (λ (y : ServerCell). StateFits post y.state) (nat_lt (suc cell.session) (2 ^ 64)) (record { session = suc cell.session; state = Some (started s (suc cell.session) now first_pick batch) }) cell (λ t. tt) (λ f. fits_at s cell at),
        )

        moment_fits : (now : ℕ) (state : Option ServerState) → StateFits post state → StateFits post (option_map (λ server. moment_rule server now) state)
        moment_fits now None f = tt
        moment_fits now (Some st) f = f

        moments_fit : (now : ℕ) (cells : List ServerCell) → Each (λ (cell : ServerCell). StateFits post cell.state) cells → Each (λ (cell : ServerCell). StateFits post cell.state) (map (told_moment now) cells)
        moments_fit now [] f = tt
        moments_fit now (cell ∷ cells) f = (moment_fits now cell.state f.0, moments_fit now cells f.1)

        -- ---- events

        -- an answer that streams are built says what is so
        module _ (answers : (p : Packet) (s : ℕ) → Contains post p → p.to ≡ Server s → is_answerer p.from p.body ≡ true → Answers (HasBuild post) (HasBuild post) (λ q list b. b) Fit K p.body) where
          delivers_on : (number : ℕ) (o : Option Packet) → slice_get post number ≡ o → On (delivers c o) → Constructs (delivers c o)
          delivers_on number None at on = x
          delivers_on number (Some p) at on = go p.to refl on
            where
              layer_takes : (to : ActorId) → p.to ≡ to → Constructs (record c { stream_layer = delivered c.stream_layer p to })
              layer_takes to is =
                  subst (λ z. Constructs (record c { stream_layer = z })) (ap (delivered_if c.stream_layer) at ∙ ap (delivered c.stream_layer p) is) (happens_on (Deliver number))

              go : (to : ActorId) → p.to ≡ to → On (delivered_to c p to) → Constructs (delivered_to c p to)
              go (Server s) is on =
                  at_cell themselves s (λ cell. cell_takes cell p cell.state) (λ cell there. takes_fit s cell p (answers p s (contains_get post number p at) is) there cell.state refl) (entry_at c.servers s) refl on
              go Map is on = if_elim Constructs c.map_cell.up _ _ (λ up. does_on (map_rule c.map p p.body) (map_uses c.map sound p p.body)) (λ up. x)
              go (Node m) is on = layer_takes (Node m) is
              go Manager is on = layer_takes Manager is
              go (User u) is on = layer_takes (User u) is

          stops_on : (actor : ActorId) (call : ℕ) (keep : Bool) → On (stops c actor call keep) → Constructs (stops c actor call keep)
          stops_on (Server s) call keep on = at_cell themselves s (λ cell. cell_rests (cell_stops call cell)) (λ cell there. stops_fit s call cell there) (entry_at c.servers s) refl on
          stops_on Map call keep on =
              if_elim Constructs c.map_cell.up _ _ (λ up. if_elim Constructs (call == 0) _ _ (λ z. quiet _ refl x.jobs (nothing_on c.servers)) (λ z. quiet _ refl x.jobs (nothing_on c.servers))) (λ up. x)
          stops_on (Node m) call keep on = happens_on (Stop (Node m) call keep)
          stops_on Manager call keep on = happens_on (Stop Manager call keep)
          stops_on (User u) call keep on = happens_on (Stop (User u) call keep)

          restarts_on : (actor : ActorId) → On (restarts c actor) → Constructs (restarts c actor)
          restarts_on (Server s) on =
              at_cell themselves s (λ cell. cell_rests (cell_starts s c.now c.batch cell cell.state)) (λ cell there. starts_fit s c.now c.batch cell there cell.state refl) (entry_at c.servers s) refl on
          restarts_on Map on = if_elim Constructs c.map_cell.up _ _ (λ up. x) (λ up. quiet _ refl x.jobs (nothing_on c.servers))
          restarts_on (Node m) on = happens_on (Restart (Node m))
          restarts_on Manager on = happens_on (Restart Manager)
          restarts_on (User u) on = happens_on (Restart (User u))

          moment_on : (now : ℕ) → Constructs (shows_moment c now)
          moment_on now = if_elim Constructs (nat_lt now c.now) _ _ (λ back. x) (λ later. quiet _ refl (moments_fit now c.servers x.jobs) (moments_on c.servers now))

          pub event_constructs : (event : Event) → IsUnmerged event → On (cluster_after c event) → Constructs (cluster_after c event)
          event_constructs (Submit user to body) is on = happens_on (Submit user to body)
          event_constructs (Deliver number) is on = delivers_on number (slice_get post number) refl on
          event_constructs (Stop actor call keep) is on = stops_on actor call keep on
          event_constructs (Restart actor) is on = restarts_on actor on
          event_constructs (Decide e) is on = happens_on (Decide e)
          event_constructs (GiveUp server range pick) is on =
              at_cell themselves server (λ cell. cell_gives_up cell range pick cell.state) (λ cell there. gives_up_fit server cell range pick there cell.state refl) (entry_at c.servers server) refl on
          event_constructs (Assign range server until) is on =
              if_elim Constructs c.map_cell.up _ _ (λ up. does_if_on (assign_fault server c.now (range_at c.map.ranges range)) (assign_rule c.map range server until (range_at c.map.ranges range)) (assign_uses c.map sound range server until (range_at c.map.ranges range) refl)) (λ up. x)
          event_constructs (Renew range server until) is on =
              if_elim Constructs c.map_cell.up _ _ (λ up. does_if_on (renew_fault server (range_at c.map.ranges range)) (renew_rule c.map range server until (range_at c.map.ranges range)) (renew_uses c.map sound range server until (range_at c.map.ranges range) refl)) (λ up. x)
          event_constructs (Moment now) is on = moment_on now
          event_constructs (Checkpoint server range combine) is on =
              at_cell themselves server (λ cell. cell_checkpoints cell range combine cell.state) (λ cell there. checkpoints_fit server cell range combine there cell.state refl) (entry_at c.servers server) refl on
          event_constructs (Split server range key) is on =
              at_cell themselves server (λ cell. cell_splits cell range key cell.state) (λ cell there. splits_fit server cell range key there cell.state refl) (entry_at c.servers server) refl on
          event_constructs (Merge server left right) is on = absurd is
