-- Whatever happens, as steps of the machine of one stream; and what the answers in the post mean.
use Rattle.std.proofs.Common.{◌≡◌, ◌≢◌, ℕ, suc, ◌+◌, ◌≤◌, Bool, not, ◌||◌, List, [], map, Option, Some, None, slice_get, Contains, refl, sym, ap, ◌∙◌, subst, arith, append-nil, ◌==◌}
use Rattle.wire.specs.declared.actor.ActorId.{ActorId}
use Rattle.wire.specs.declared.actor.ActorId.TheVariants.{Node, Manager, Map, Server, User}
use Rattle.wire.specs.declared.actor.ReqNo.{ReqNo}
use Rattle.wire.specs.declared.body.AppendBody.{AppendBody}
use Rattle.wire.specs.declared.body.AppendBody.TheVariants.{Appended}
use Rattle.wire.specs.declared.body.CheckBody.{CheckBody}
use Rattle.wire.specs.declared.body.CheckBody.TheVariants.{Checked as CheckedAt}
use Rattle.wire.specs.declared.body.ReadBody.{ReadBody}
use Rattle.wire.specs.declared.body.ReadBody.TheVariants.{ReadGroups, Groups}
use Rattle.wire.specs.declared.body.SealBody.{SealBody}
use Rattle.wire.specs.declared.body.SealBody.TheVariants.{SealExtent, SealedIs}
use Rattle.wire.specs.declared.body.StreamBody.{StreamBody}
use Rattle.wire.specs.declared.body.StreamBody.TheVariants.{Created, Opened, Confirmed, Extended, Trimmed, Modified}
use Rattle.wire.specs.declared.body.Body.{Body}
use Rattle.wire.specs.declared.body.Body.TheVariants as bodies
use Rattle.wire.specs.declared.packet.Packet.{Packet}
use Rattle.wire.specs.declared.streams.StreamKind.TheVariants.{BlobData}
use Rattle.wire.specs.declared.streams.StreamName.{StreamName}
use Rattle.replica.specs.Groups.{Group, text_length}
use Rattle.streams.specs.Streams.{Stream, stream_of}
use Rattle.model_streams.specs.declared.event.Event.{Event}
use Rattle.model_streams.specs.declared.event.Event.TheVariants.{Submit, Deliver, Stop, Restart, Decide, GiveUp, Assign, Renew, Moment, Checkpoint, Split, Merge}
use Rattle.model_streams.specs.Maps.{changed}
use Rattle.model_streams.specs.Outcome.{packet}
use Rattle.model_streams.specs.StreamSystem.{StreamSystem, ActorCell, running, armed, node_halted, manager_halted, delivered, delivered_if, node_stops, manager_stops, stop, is_present, restart, happens, start, Move, run_moves}
use Rattle.model_streams.specs.StreamSystem.Move.{Happens}
use Rattle.model_streams.proofs.Tests.{if_elim}
use Rattle.laws_streams.specs.Origins.{Begins}
use Rattle.laws_streams.proofs.BuildRequests.{ServersAsk}
use Rattle.laws_streams.proofs.Lists.{same_beginning, NoneEmpty}
use Rattle.laws_streams.proofs.MoreKnown.{later_refl}
use Rattle.laws_streams.proofs.RestsOnGround.{halted_holds, manager_halted_holds}
use Rattle.laws_streams.proofs.EventSteps.{recelled}
use Rattle.laws_streams.proofs.ListRules.{Goes}
use Rattle.laws_streams.proofs.Listings.{moved_goes}
use Rattle.laws_streams.proofs.SealAnswers.{sealed_known, seals_answered}
use Rattle.model_partition.specs.Answering.{append_number, check_number, read_number, seal_number, stream_number}
use Rattle.model_histories.specs.StreamMachine.{SealedExtent, MachineState, base}
use Rattle.laws_stream_machine.specs.Refinement.{Purpose, Opens, Confirms, Extends, Seals, Reads, Appends, Checks, Sent, purpose_of, extents_of, IsAt, ReadsRightly, AppendMeans, CheckMeans, SealMeans, ReadMeans, StreamMeans, AllMean, Means, purpose_if, stream_meant}
use Rattle.laws_stream_machine.proofs.ExtentSteps.{group_of, chain_len}
use Rattle.laws_stream_machine.proofs.FactSources.{Lawful}
use Rattle.laws_stream_machine.proofs.StepSequences.{onward_refl, Walk, stand, shut_within}
use Rattle.laws_stream_machine.proofs.MachineCore.{same_got}
use Rattle.laws_stream_machine.proofs.SentPackets.{ahead_same}
use Rattle.laws_stream_machine.proofs.Refines.{Follows, submit_follows}
use Rattle.laws_stream_machine.proofs.SystemSteps.{ahead_goes, next_follows}
use Rattle.laws_stream_machine.proofs.ToldLists.{sealed_or_last}
use Rattle.laws_stream_machine.proofs.StreamRules.{IsListed}
use Rattle.laws_stream_machine.proofs.ManagerSteps.{manager_event, decide_event}
use Rattle.laws_stream_machine.proofs.NodeSteps.{node_event}

module _ (generation : ℕ → ℕ) (name : StreamName) (sent : List Sent) (w : StreamSystem) (s : MachineState Group) (a : Follows generation name w s sent)
    (plain : name.kind ≢ BlobData) (asks : ServersAsk w.post) where
  abbrev Leads : StreamSystem → Type 0
  Leads v = Walk generation s (λ t. Follows generation name v t sent)

  stays : Leads w
  stays = stand generation s _ a

  -- nothing but who runs is another
  recelled_stays : (cell : ℕ → ActorCell) (manager_cell : ActorCell) → Leads (record w { cell = cell; manager_cell = manager_cell })
  recelled_stays cell manager_cell =
      let v : StreamSystem = record w { cell = cell; manager_cell = manager_cell } in
      stand generation s _ (next_follows generation name w s sent a v s a.ground (later_refl a.ground) a.appended (recelled w cell manager_cell a.ground a.holds) (ahead_same name w s v s refl (onward_refl s)) a.shaped [] (sym (append-nil w.post)) tt)

  halted_stays : (n : ℕ) → Leads (node_halted w n)
  halted_stays n =
      stand generation s _ (next_follows generation name w s sent a (node_halted w n) s a.ground (later_refl a.ground) a.appended (halted_holds w a.ground n a.holds) (ahead_same name w s (node_halted w n) s refl (onward_refl s)) a.shaped [] (sym (append-nil w.post)) tt)

  manager_halted_stays : Goes w.post w.catalog (manager_halted w).catalog → Leads (manager_halted w)
  manager_halted_stays goes =
      stand generation s _ (next_follows generation name w s sent a (manager_halted w) s a.ground (later_refl a.ground) a.appended (manager_halted_holds w a.ground a.holds)
      (ahead_goes generation name plain w s sent a asks (manager_halted w) s goes (onward_refl s)) a.shaped [] (sym (append-nil w.post)) tt)

  stop_stays : (actor : ActorId) (call : ℕ) (keep : Bool) → Goes w.post w.catalog (stop w actor call keep).catalog → Leads (stop w actor call keep)
  stop_stays (Node n) call keep goes =
      if_elim Leads (w.cell n).up (node_stops w n call keep) w
      (λ t. if_elim Leads (call == 0) (node_halted w n) _ (λ z. halted_stays n) (λ z. recelled_stays (changed n (armed call keep) w.cell) w.manager_cell)) (λ t. stays)
  stop_stays Manager call keep goes =
      if_elim (λ v. Goes w.post w.catalog v.catalog → Leads v) w.manager_cell.up (manager_stops w call keep) w
      (λ t. if_elim (λ v. Goes w.post w.catalog v.catalog → Leads v) (call == 0) (manager_halted w) _ (λ z. manager_halted_stays) (λ z g. recelled_stays w.cell (armed call keep))) (λ t g. stays) goes
  stop_stays Map call keep goes = stays
  stop_stays (Server n) call keep goes = stays
  stop_stays (User u) call keep goes = stays

  restart_stays : (actor : ActorId) → Leads (restart w actor)
  restart_stays (Node n) = if_elim Leads ((w.cell n).up || not (is_present w n)) w _ (λ t. stays) (λ t. recelled_stays (changed n running w.cell) w.manager_cell)
  restart_stays Manager = if_elim Leads w.manager_cell.up w _ (λ t. stays) (λ t. recelled_stays w.cell running)
  restart_stays Map = stays
  restart_stays (Server n) = stays
  restart_stays (User u) = stays

  module _ (own : 1 ≤ name.range) (lawful : Lawful Group generation s) (listed : IsListed w name) where
    delivered_walk : (number : ℕ) (p : Packet) (to : ActorId) → p.to ≡ to → slice_get w.post number ≡ Some p → Goes w.post w.catalog (delivered w p to).catalog → Leads (delivered w p to)
    delivered_walk number p (Node n) to at goes = node_event generation name sent w s a lawful n number p at to
    delivered_walk number p Manager to at goes = manager_event generation name sent w s a plain asks own lawful listed number p at to goes
    delivered_walk number p Map to at goes = stays
    delivered_walk number p (Server n) to at goes = stays
    delivered_walk number p (User u) to at goes = stays

    delivered_if_walk : (number : ℕ) (o : Option Packet) → slice_get w.post number ≡ o → Goes w.post w.catalog (delivered_if w o).catalog → Leads (delivered_if w o)
    delivered_if_walk number None at goes = stays
    delivered_if_walk number (Some p) at goes = delivered_walk number p p.to refl at goes

    pub happens_walk : (event : Event) → Leads (happens w event)
    happens_walk event = by_event event (moved_goes w (a.holds.catalog.fresh (suc w.catalog.count) (omega arith)) asks (Happens event))
      where
        by_event : (event : Event) → Goes w.post w.catalog (happens w event).catalog → Leads (happens w event)
        by_event (Submit user to body) goes = stand generation s _ (submit_follows generation name s sent w user to body a)
        by_event (Deliver number) goes = delivered_if_walk number (slice_get w.post number) refl goes
        by_event (Stop actor call keep) goes = stop_stays actor call keep goes
        by_event (Restart actor) goes = restart_stays actor
        by_event (Decide e) goes = decide_event generation name sent w s a plain asks e goes
        by_event (GiveUp server range pick) goes = stays
        by_event (Assign range server until) goes = stays
        by_event (Renew range server until) goes = stays
        by_event (Moment now) goes = stays
        by_event (Checkpoint server range combine) goes = stays
        by_event (Split server range key) goes = stays
        by_event (Merge server left right) goes = stays

-- ---- what answers mean

module _ (generation : ℕ → ℕ) (name : StreamName) (sent : List Sent) (w : StreamSystem) (s : MachineState Group) where
  append_all : (z : Option Purpose) (b : AppendBody) → ((q : ReqNo) (e o : ℕ) → b ≡ Appended q e o → AppendMeans generation name w s sent z (Appended q e o)) → AppendMeans generation name w s sent z b
  append_all (Some (Appends i index append group)) (Appended q e o) given = given q e o refl
  append_all z b given = tt

  check_all : (z : Option Purpose) (b : CheckBody) → ((q : ReqNo) (l : ℕ) → b ≡ CheckedAt q (Some l) → CheckMeans generation name w s sent z (CheckedAt q (Some l))) → CheckMeans generation name w s sent z b
  check_all (Some (Checks i index)) (CheckedAt q (Some l)) given = given q l refl
  check_all z b given = tt

  seal_all : (z : Option Purpose) (b : SealBody) → ((i index : ℕ) (q : ReqNo) (e l : ℕ) → z ≡ Some (Seals i index) → b ≡ SealedIs q e l → SealMeans generation name w s sent (Some (Seals i index)) (SealedIs q e l)) → SealMeans generation name w s sent z b
  seal_all (Some (Seals i index)) (SealedIs q e l) given = given i index q e l refl refl
  seal_all z b given = tt

  read_all : (z : Option Purpose) (b : ReadBody) → ((i index upto : ℕ) (q : ReqNo) (e : ℕ) (groups : List Group) → z ≡ Some (Reads i index upto) → b ≡ Groups q e groups → ReadMeans generation name w s sent (Some (Reads i index upto)) (Groups q e groups)) →
      ReadMeans generation name w s sent z b
  read_all (Some (Reads i index upto)) (Groups q e groups) given = given i index upto q e groups refl refl
  read_all z b given = tt

  -- what the machine needs nothing of means nothing of it, whatever its number is for
  unmeant : (z : Option Purpose) (b : StreamBody) → stream_meant b ≡ None → StreamMeans generation name w s sent z b
  unmeant (Some (Opens i)) (Opened q lists) none = absurd cc
  unmeant (Some (Confirms i read end)) (Confirmed q) none = absurd cc
  unmeant (Some (Extends i n)) (Extended q e places) none = absurd cc
  unmeant z b none = tt

  stream_all : (b : StreamBody) → StreamMeans generation name w s sent (purpose_if generation name w s sent (stream_meant b)) b →
      StreamMeans generation name w s sent (purpose_if generation name w s sent (stream_number b)) b
  stream_all (Created q) given = unmeant (purpose_of sent q) (Created q) refl
  stream_all (Trimmed q) given = unmeant (purpose_of sent q) (Trimmed q) refl
  stream_all (Modified q) given = unmeant (purpose_of sent q) (Modified q) refl
  stream_all b given = given

module _ (generation : ℕ → ℕ) (name : StreamName) (sent : List Sent) (nodes target : ℕ) (moves : List Move) (s : MachineState Group)
    (a : Follows generation name (run_moves moves (start nodes target)) s sent) where
  abbrev w : StreamSystem
  w = run_moves moves (start nodes target)

  abbrev o : Option Stream
  o = stream_of w.catalog.stream name

  module _ (from : ActorId) (server : ℕ) where
    sealed_so : (q : ReqNo) (e l i index : ℕ) → Contains w.post (packet from (Server server) (bodies.Seal (SealedIs q e l))) → purpose_of sent q ≡ Some (Seals i index) →
        SealMeans generation name w s sent (Some (Seals i index)) (SealedIs q e l)
    sealed_so q e l i index c for =
        let told = seals_answered nodes target moves [] from (Server server) q e l c in
        let x = a.asked server Manager (bodies.Seal (SealExtent e q)) told.asked in
        let (j, there, y) = x.known (Seals i index) for in
        let d : Some (Seals y.i j) ≡ Some (Seals i index) = sym y.for ∙ for in
        let jj : j ≡ index = cc in
        let at : IsAt w name index e = subst (λ k. IsAt w name k e) jj there in
        let shut = (sealed_or_last o a.ground s sent a.shaped index e at).sealed l (sealed_known a.ground w.catalog a.holds.catalog e l told.now) in
        (at, shut.0, shut.1, shut.2)

    same_groups : (e upto : ℕ) (xs ys : List Group) → Begins xs (a.ground.script e) → Begins ys (a.ground.script e) → text_length xs ≡ upto → text_length ys ≡ upto → xs ≡ ys
    same_groups e upto xs ys b d m n =
        same_beginning xs ys b.rest d.rest (sym b.is ∙ d.is) (subst NoneEmpty b.is (a.holds.sound.none_empty e)) (m ∙ sym n)

    read_so : (q : ReqNo) (e i index upto : ℕ) (groups : List Group) → Contains w.post (packet from (Server server) (bodies.Read (Groups q e groups))) → purpose_of sent q ≡ Some (Reads i index upto) →
        ReadsRightly generation name w s sent index upto groups
    read_so q e i index upto groups c for =
        let r = a.read from server q e groups c in
        let x = a.asked server from (bodies.Read (ReadGroups e r.upto r.sealed q)) r.asked in
        let (there_index, there, y) = x.known (Reads i index upto) for in
        let d : Some (Reads y.i there_index r.upto) ≡ Some (Reads i index upto) = sym y.for ∙ for in
        let jj : there_index ≡ index = cc in
        let uu : r.upto ≡ upto = cc in
        let at : IsAt w name index e = subst (λ j. IsAt w name j e) jj there in
        record {
          whole = λ z is end.
              let b = a.shaped.settled.shut index e at (shut_within index s.core.shut z is) in
              let same : b.shut ≡ z = (let k : Some b.shut ≡ Some z = sym b.is ∙ is in cc) in
              let long : b.shut.end ≡ base index + text_length (map group_of b.shut.copies) = chain_len (base index) b.shut.copies b.shut.end b.tied.chain b.tied.sized in
              let ends : b.shut.end ≡ base index + upto = ap (λ (y : SealedExtent Group). y.end) same ∙ end in
              let l : text_length (map group_of b.shut.copies) ≡ upto = omega (arith, long, ends) in
              same_groups e upto groups (map group_of b.shut.copies) r.begins b.tied.begins (r.ends ∙ uu) l ∙ ap (λ (y : SealedExtent Group). map group_of y.copies) same;
          checked = λ j stood fact.
              let k = a.shaped.settled.checked j index stood (base index + upto) fact in
              let which : k.extent ≡ e = same_got (extents_of o) index k.extent e k.at at in
              let long : base index + upto ≡ base index + text_length (map group_of stood) = chain_len (base index) stood (base index + upto) k.chain k.sized in
              let l : text_length (map group_of stood) ≡ upto = omega (arith, long) in
              same_groups e upto groups (map group_of stood) r.begins (subst (λ z. Begins (map group_of stood) (a.ground.script z)) which k.begins) (r.ends ∙ uu) l;
        }

    by_body : (body : Body) → Contains w.post (packet from (Server server) body) → Means generation name w s sent body
    by_body (bodies.Append b) c =
        append_all generation name sent w s (purpose_if generation name w s sent (append_number b)) b
        (λ q e off is. subst (λ z. AppendMeans generation name w s sent (purpose_if generation name w s sent (append_number z)) (Appended q e off)) (sym is)
        ((a.meant (packet from (Server server) (bodies.Append b)) c server refl).appended q e off (ap bodies.Append is)))
    by_body (bodies.Check b) c =
        check_all generation name sent w s (purpose_if generation name w s sent (check_number b)) b
        (λ q l is. subst (λ z. CheckMeans generation name w s sent (purpose_if generation name w s sent (check_number z)) (CheckedAt q (Some l))) (sym is)
        ((a.meant (packet from (Server server) (bodies.Check b)) c server refl).checked q l (ap bodies.Check is)))
    by_body (bodies.Seal b) c =
        seal_all generation name sent w s (purpose_if generation name w s sent (seal_number b)) b
        (λ i index q e l for is. sealed_so q e l i index (subst (λ z. Contains w.post (packet from (Server server) (bodies.Seal z))) is c)
        (subst (λ z. purpose_if generation name w s sent (seal_number z) ≡ Some (Seals i index)) is for))
    by_body (bodies.Read b) c =
        read_all generation name sent w s (purpose_if generation name w s sent (read_number b)) b
        (λ i index upto q e groups for is. read_so q e i index upto groups (subst (λ z. Contains w.post (packet from (Server server) (bodies.Read z))) is c)
        (subst (λ z. purpose_if generation name w s sent (read_number z) ≡ Some (Reads i index upto)) is for))
    by_body (bodies.Stream b) c = stream_all generation name sent w s b ((a.meant (packet from (Server server) (bodies.Stream b)) c server refl).streamed b refl)
    by_body (bodies.Map b) c = tt
    by_body (bodies.Table b) c = tt

  pub all_mean : AllMean generation name w s sent
  all_mean from server body c t = by_body from server body c
