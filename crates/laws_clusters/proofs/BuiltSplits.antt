-- In a run without merges the streams of both ranges of a split are there before it is shown; so each range that the map has or assigned, that a
-- server holds, or of which anything is told, has its streams.
use Rattle.std.proofs.Common.{◌≡◌, ◌⊎◌, ℕ, zero, suc, ◌^◌, Bool, true, false, not, ◌&&◌, ◌==◌, nat_lt, List, [], ◌∷◌, ◌++◌, Option, Some, None, slice_get, Contains, refl, sym, ap, ◌∙◌, subst, inl, inr, append-nil, append_assoc, eqb-true, arith}
use Rattle.std.proofs.lemmas.Bool.{and_parts}
use Rattle.wire.specs.declared.actor.ActorId.{ActorId}
use Rattle.wire.specs.declared.actor.ActorId.TheVariants.{Node, Manager, Map, Server, User}
use Rattle.wire.specs.declared.actor.ReqNo.{ReqNo}
use Rattle.wire.specs.declared.body.Body.{Body}
use Rattle.wire.specs.declared.body.Body.TheVariants as bodies
use Rattle.wire.specs.declared.body.MapBody.{MapBody}
use Rattle.wire.specs.declared.body.MapBody.TheVariants as maps
use Rattle.wire.specs.declared.note.Note.{Note}
use Rattle.wire.specs.declared.note.Note.TheVariants as notes
use Rattle.wire.specs.declared.packet.Packet.{Packet}
use Rattle.wire.specs.declared.refusal.Refusal.{Refusal}
use Rattle.wire.specs.declared.refusal.Refusal.TheVariants.{GenerationChanged}
use Rattle.wire.specs.declared.streams.StreamKind.TheVariants as kinds
use Rattle.streams.specs.Streams.{kind_number}
use Rattle.model_streams.specs.declared.event.Event.{Event}
use Rattle.model_streams.specs.declared.event.Event.TheVariants.{Submit, Deliver, Stop, Restart, Decide, GiveUp, Assign, Renew, Moment, Checkpoint, Split, Merge}
use Rattle.model_streams.specs.Outcome.{Outcome}
use Rattle.model_streams.specs.StreamSystem.{StreamSystem, happens, start, stops_in, stands_in, delivered_if, delivered}
use Rattle.model_streams.proofs.Tests.{if_elim, none_met}
use Rattle.model_partition.specs.declared.pending.Pending.{Pending}
use Rattle.model_partition.specs.declared.pending.Pending.TheVariants as pendings
use Rattle.model_partition.specs.declared.range_entry.RangeEntry.{RangeEntry}
use Rattle.model_partition.specs.declared.table_note.TableNote.{TableNote}
use Rattle.model_partition.specs.declared.table_note.TableNote.TheVariants as tables
use Rattle.model_partition.specs.Past.{first_range, table_notes}
use Rattle.model_partition.specs.Map.{MapState, range_at, range_of_key, halves_at, union_with, union_at}
use Rattle.model_partition.specs.MapRules.{assign_fault, assign_rule, renew_fault, renew_rule, has_numbers, begin_split_fault, begin_split_taken, begin_split_rule, is_split, complete_split_fault, complete_split_taken, complete_split_rule, begin_merge_fault, begin_merge_taken, begin_merge_rule, complete_merge_fault, complete_merge_rule, route_rule, called, told, map_rule}
use Rattle.model_partition.specs.Servers.{ServerCell, first_servers, ServersOutcome, noted, server_takes, server_gives_up, server_checkpoints, server_splits, server_stops, server_starts}
use Rattle.model_partition.specs.Servers.{told as note_told}
use Rattle.model_partition.specs.Cluster.{IsUnmerged, AreUnmerged, Cluster, servers_perform, map_performs, map_performs_if, delivered_to, delivers, stops, restarts, cluster_after, cluster_after_all, first_cluster}
use Rattle.model_histories.specs.Log.{only}
use Rattle.laws_streams.proofs.Choices.{contains_get}
use Rattle.laws_servers.proofs.EventsAsMoves.{led_by}
use Rattle.laws_tables.proofs.Others.{others-append}
use Rattle.laws_map.specs.Assigned.{assigning}
use Rattle.laws_map.specs.Naming.{Each, Names}
use Rattle.laws_map.proofs.AskedKeys.{run_asks_one_key}
use Rattle.laws_map.proofs.EventNames.{names_on}
use Rattle.laws_map.proofs.GivenNumbers.{first_stream}
use Rattle.laws_map.proofs.GenerationsInRuns.{Governs, all_govern, first_governs}
use Rattle.laws_map.proofs.Knowing.{each_weaker, each_both}
use Rattle.laws_map.proofs.PendingPairs.{run_is_paired, pair_stands}
use Rattle.laws_map.proofs.PendingStays.{paired_in_post}
use Rattle.laws_clusters.proofs.BuildSteps.{StateFits, Completes}
use Rattle.laws_clusters.proofs.Origins.{HasOrigin, found_from, origins}
use Rattle.laws_clusters.proofs.RunBuilds.{HasStreams, IsFitIn, AreConstructed, there_on, TakenAreThere, event_constructed}
use Rattle.laws_clusters.proofs.PairNumbers.{pairs, run_pairs}
use Rattle.laws_clusters.proofs.RunOrigins.{seen, Originates, run_originates, told_origin}
use Rattle.laws_clusters.proofs.StreamEvents.{happens_tables}
use Rattle.laws_clusters.proofs.TakenStreams.{NamesHold, names_hold, taken_are_there}

-- ---- what a split that is shown has

module _ (w : StreamSystem) where
  abbrev pub SplitHas : Note → Type 0
  SplitHas (notes.Split parent low high key) = HasStreams w low × HasStreams w high
  SplitHas note = Unit {0}

split_on : (w v : StreamSystem) → ((n : ℕ) → HasStreams w n → HasStreams v n) → (note : Note) → SplitHas w note → SplitHas v note
split_on w v on (notes.Split parent low high key) s = (on low s.0, on high s.1)
split_on w v on (notes.Merged left right range) s = tt
split_on w v on (notes.Began range generation number changes) s = tt
split_on w v on (notes.Done range generation number) s = tt
split_on w v on (notes.Got range generation key value) s = tt
split_on w v on (notes.Loaded range generation rows next) s = tt
split_on w v on (notes.Acked e offset group) s = tt
split_on w v on (notes.SealedAt e length) s = tt
split_on w v on (notes.Content e node groups) s = tt
split_on w v on (notes.Seen e node offset bytes) s = tt

-- ---- the rules of the map

module _ (c : Cluster) where
  abbrev m : MapState
  m = c.map

  abbrev Have : Outcome MapState → Type 0
  Have o = Each (SplitHas c.stream_layer) (table_notes o.notes)

  called_have : (p : Packet) (q : ReqNo) (fault : Option Refusal) (o : Outcome MapState) → (fault ≡ None → Have o) → Have (called m p q fault o)
  called_have p q (Some refusal) o taken = tt
  called_have p q None o taken = taken refl

  assign_have : (range server until : ℕ) (o : Option RangeEntry) → Have (assign_rule m range server until o)
  assign_have range server until None = tt
  assign_have range server until (Some x) = if_elim Have (nat_lt (suc x.generation) (2 ^ 64)) _ _ (λ t. tt) (λ f. tt)

  renew_have : (range server until : ℕ) (o : Option RangeEntry) → Have (renew_rule m range server until o)
  renew_have range server until None = tt
  renew_have range server until (Some x) = tt

  route_have : (p : Packet) (q : ReqNo) (o : Option RangeEntry) → Have (route_rule m p q o)
  route_have p q None = tt
  route_have p q (Some r) = tt

  begin_split_have : (to : ActorId) (q : ReqNo) (range : ℕ) (key : List ℕ) (o : Option RangeEntry) → Have (begin_split_rule m to q range key o)
  begin_split_have to q range key None = tt
  begin_split_have to q range key (Some r) = by (halves_at key r.pending)
    where
      by : (pair : Option (ℕ × ℕ)) → Have (begin_split_taken m to q range key pair)
      by (Some pair) = tt
      by None = if_elim Have (has_numbers m 2) _ _ (λ t. tt) (λ f. tt)

  not_false : (b : Bool) → not b ≡ false → b ≡ true
  not_false true e = refl
  not_false false e = absurd cc

  -- the split that is shown is the one whose streams are there
  complete_split_have : (to : ActorId) (q : ReqNo) (range generation : ℕ) (key : List ℕ) (low high : ℕ) → IsFitIn c range generation key low high → (o : Option RangeEntry) → range_at m.ranges range ≡ o →
      complete_split_fault generation o ≡ None → Have (complete_split_rule m to q range o)
  complete_split_have to q range generation key low high f None at free = tt
  complete_split_have to q range generation key low high f (Some r) at free = by_pending r.pending refl
    where
      same : r.generation ≡ generation
      same =
          let tests = none_met ((GenerationChanged, not (r.generation == generation && is_split r.pending)) ∷ []) free in
          eqb-true r.generation generation (and_parts (r.generation == generation) (is_split r.pending) (not_false (r.generation == generation && is_split r.pending) tests.0)).0

      stands : r.pending ≡ Some (pendings.Split key low high)
      stands = pair_stands m range generation key low high r f.0.pending at same

      by_pending : (p : Option Pending) → r.pending ≡ p → Have (complete_split_taken m to q range p)
      by_pending None is = tt
      by_pending (Some (pendings.Merge right into)) is = tt
      by_pending (Some (pendings.Split k l h)) is =
          let e : Some (pendings.Split key low high) ≡ Some (pendings.Split k l h) = sym stands ∙ is in
          let one : low ≡ l = cc in
          let two : high ≡ h = cc in
          ((subst (HasStreams c.stream_layer) one f.1, subst (HasStreams c.stream_layer) two f.2), tt)

  begin_merge_have : (to : ActorId) (q : ReqNo) (left right : ℕ) (o : Option RangeEntry) → Have (begin_merge_rule m to q left right o)
  begin_merge_have to q left right None = tt
  begin_merge_have to q left right (Some l) = by (union_with right l.pending)
    where
      by : (into : Option ℕ) → Have (begin_merge_taken m to q left right into)
      by (Some into) = tt
      by None = if_elim Have (has_numbers m 1) _ _ (λ t. tt) (λ f. tt)

  complete_merge_have : (to : ActorId) (q : ReqNo) (left right : ℕ) (into : Option ℕ) → Have (complete_merge_rule m to q left right into)
  complete_merge_have to q left right None = tt
  complete_merge_have to q left right (Some into) = (tt, tt)

  told_have : (p : Packet) (body : MapBody) → Completes (IsFitIn c) (bodies.Map body) → Have (told m p body)
  told_have p (maps.Route key q) f = route_have p q (range_of_key m.ranges key)
  told_have p (maps.BeginSplit range generation key q) f = called_have p q (begin_split_fault generation key (range_at m.ranges range)) _ (λ free. begin_split_have p.from q range key (range_at m.ranges range))
  told_have p (maps.CompleteSplit range generation q) f =
      called_have p q (complete_split_fault generation (range_at m.ranges range)) _ (λ free. complete_split_have p.from q range generation f.0 f.1 f.2 f.3 (range_at m.ranges range) refl free)
  told_have p (maps.BeginMerge left b right g q) f = called_have p q (begin_merge_fault b g (range_at m.ranges left) (range_at m.ranges right)) _ (λ free. begin_merge_have p.from q left right (range_at m.ranges left))
  told_have p (maps.CompleteMerge left b right g q) f =
      called_have p q (complete_merge_fault b g (range_at m.ranges left) (range_at m.ranges right) (union_at m.ranges left right)) _ (λ free. complete_merge_have p.from q left right (union_at m.ranges left right))
  told_have p body f = tt

  pub map_have : (p : Packet) (body : Body) → Completes (IsFitIn c) body → Have (map_rule m p body)
  map_have p (bodies.Map body) f = told_have p body f
  map_have p body f = tt

-- ---- events

-- what is so of all that is told, and of what is told in an event
module _ (P : Note → Type 0) (served : (old : List Note) (note : TableNote) → P (note_told old note)) where
  abbrev All : Cluster → Type 0
  All c = Each P (seen c)

  noted_all : (more : List TableNote) (old : List Note) → Each P (table_notes old) → Each P (table_notes (noted old more))
  noted_all [] old all = all
  noted_all (n ∷ more) old all = noted_all more (old ++ note_told old n ∷ []) (one n)
    where
      one : (n : TableNote) → Each P (table_notes (old ++ note_told old n ∷ []))
      one n = subst (Each P) (sym (others-append old (note_told old n ∷ []))) (each_both P (table_notes old) (table_notes (note_told old n ∷ [])) all (by n))
        where
          by : (n : TableNote) → Each P (table_notes (note_told old n ∷ []))
          by (tables.Began range generation number changes) = (served old (tables.Began range generation number changes), tt)
          by (tables.Done range generation number) = (served old (tables.Done range generation number), tt)
          by (tables.Got range generation key value) = (served old (tables.Got range generation key value), tt)
          by (tables.Loaded range generation table next) = (served old (tables.Loaded range generation table next), tt)

  module _ (c : Cluster) (all : All c) where
    performs_all : (o : ServersOutcome) → All (servers_perform c o)
    performs_all o = noted_all o.notes c.stream_layer.notes all

    does_all : (o : Outcome MapState) → Each P (table_notes o.notes) → All (map_performs c o)
    does_all o have =
        let both : Each P (table_notes (c.stream_layer.notes ++ o.notes)) = subst (Each P) (sym (others-append c.stream_layer.notes o.notes)) (each_both P (seen c) (table_notes o.notes) all have) in
        if_elim All (stops_in c.map_cell o.written) _ _ (λ t. if_elim All (stands_in c.map_cell) _ _ (λ s. both) (λ s. all)) (λ f. both)

    does_if_all : (fault : Option Refusal) (o : Outcome MapState) → Each P (table_notes o.notes) → All (map_performs_if c fault o)
    does_if_all (Some refusal) o have = all
    does_if_all None o have = does_all o have

    happens_all : (event : Event) → All (record c { stream_layer = happens c.stream_layer event })
    happens_all event = subst (Each P) (sym (happens_tables c.stream_layer event)) all

    module _ (assigns : (range server until : ℕ) → Each P (table_notes (assign_rule c.map range server until (range_at c.map.ranges range)).notes))
        (renews : (range server until : ℕ) → Each P (table_notes (renew_rule c.map range server until (range_at c.map.ranges range)).notes))
        (takes : (p : Packet) → Contains c.stream_layer.post p → Each P (table_notes (map_rule c.map p p.body).notes)) where
      delivers_all : (number : ℕ) (o : Option Packet) → slice_get c.stream_layer.post number ≡ o → All (delivers c o)
      delivers_all number None at = all
      delivers_all number (Some p) at = go p.to refl
        where
          layer_takes : (to : ActorId) → p.to ≡ to → All (record c { stream_layer = delivered c.stream_layer p to })
          layer_takes to is = subst (λ z. All (record c { stream_layer = z })) (ap (delivered_if c.stream_layer) at ∙ ap (delivered c.stream_layer p) is) (happens_all (Deliver number))

          go : (to : ActorId) → p.to ≡ to → All (delivered_to c p to)
          go (Server s) is = performs_all (server_takes c.servers s p)
          go Map is = if_elim All c.map_cell.up _ _ (λ up. does_all (map_rule c.map p p.body) (takes p (contains_get c.stream_layer.post number p at))) (λ up. all)
          go (Node n) is = layer_takes (Node n) is
          go Manager is = layer_takes Manager is
          go (User u) is = layer_takes (User u) is

      stops_all : (actor : ActorId) (call : ℕ) (keep : Bool) → All (stops c actor call keep)
      stops_all (Server s) call keep = performs_all (server_stops c.servers s call)
      stops_all Map call keep = if_elim All c.map_cell.up _ _ (λ up. if_elim All (call == 0) _ _ (λ z. all) (λ z. all)) (λ up. all)
      stops_all (Node n) call keep = happens_all (Stop (Node n) call keep)
      stops_all Manager call keep = happens_all (Stop Manager call keep)
      stops_all (User u) call keep = happens_all (Stop (User u) call keep)

      restarts_all : (actor : ActorId) → All (restarts c actor)
      restarts_all (Server s) = performs_all (server_starts c.servers s c.now c.batch)
      restarts_all Map = if_elim All c.map_cell.up _ _ (λ up. all) (λ up. all)
      restarts_all (Node n) = happens_all (Restart (Node n))
      restarts_all Manager = happens_all (Restart Manager)
      restarts_all (User u) = happens_all (Restart (User u))

      pub event_all : (event : Event) → IsUnmerged event → All (cluster_after c event)
      event_all (Submit user to body) is = happens_all (Submit user to body)
      event_all (Deliver number) is = delivers_all number (slice_get c.stream_layer.post number) refl
      event_all (Stop actor call keep) is = stops_all actor call keep
      event_all (Restart actor) is = restarts_all actor
      event_all (Decide e) is = happens_all (Decide e)
      event_all (GiveUp server range pick) is = performs_all (server_gives_up c.servers server range pick)
      event_all (Assign range server until) is = if_elim All c.map_cell.up _ _ (λ up. does_if_all (assign_fault server c.now (range_at c.map.ranges range)) _ (assigns range server until)) (λ up. all)
      event_all (Renew range server until) is = if_elim All c.map_cell.up _ _ (λ up. does_if_all (renew_fault server (range_at c.map.ranges range)) _ (renews range server until)) (λ up. all)
      event_all (Moment now) is = if_elim All (nat_lt now c.now) _ _ (λ back. all) (λ on. all)
      event_all (Checkpoint server range combine) is = performs_all (server_checkpoints c.servers server range combine)
      event_all (Split server range key) is = performs_all (server_splits c.servers server range key)
      event_all (Merge server left right) is = absurd is

-- ---- runs

each_behind : (P : Note → Type 0) (before after : List Note) (note : Note) → Each P (before ++ note ∷ after) → P note
each_behind P [] after note all = all.0
each_behind P (x ∷ before) after note all = each_behind P before after note all.1

module _ (nodes servers target batch : ℕ) where
  abbrev first : Cluster
  first = first_cluster nodes servers target batch

  abbrev of : List Event → Cluster
  of done = cluster_after_all first done

  pub pushed : (done : List Event) (event : Event) (c : Cluster) → cluster_after_all c (done ++ event ∷ []) ≡ cluster_after (cluster_after_all c done) event
  pushed [] event c = refl
  pushed (x ∷ done) event c = pushed done event (cluster_after c x)

  pub unmerged_pushed : (done : List Event) (event : Event) → AreUnmerged done → IsUnmerged event → AreUnmerged (done ++ event ∷ [])
  unmerged_pushed [] event are is = (is, tt)
  unmerged_pushed (x ∷ done) event are is = (are.0, unmerged_pushed done event are.1 is)

  -- the streams of each split that is shown are there, and of each that goes on
  pub record AreBuilt (c : Cluster) : Type 0 where
    pub constructed : AreConstructed c
    pub names : NamesHold c
    pub shown : Each (SplitHas c.stream_layer) (seen c)

  built_next : (done : List Event) → AreUnmerged done → (event : Event) → IsUnmerged event → AreBuilt (of done) → AreBuilt (cluster_after (of done) event)
  built_next done are event is b =
      let c : Cluster = of done in
      let d : Cluster = cluster_after c event in
      let g : Governs c = all_govern done are first (first_governs nodes servers target batch) in
      let m = led_by done first in
      let named : Names pairs c = (run_pairs nodes servers target batch done are).names in
      let taken : TakenAreThere c = taken_are_there nodes target c m named b.constructed b.names in
      let on : (n : ℕ) → HasStreams c.stream_layer n → HasStreams d.stream_layer n = there_on nodes target c.stream_layer m d.stream_layer (led_by (event ∷ []) c) in
      let more : (ns : List Note) → Each (SplitHas c.stream_layer) ns → Each (SplitHas d.stream_layer) ns = λ ns all. each_weaker (SplitHas c.stream_layer) (SplitHas d.stream_layer) (split_on c.stream_layer d.stream_layer on) ns all in
      record {
        constructed =
            event_constructed nodes target c g m (run_asks_one_key nodes servers target batch done are) (paired_in_post c (run_is_paired nodes servers target batch done are)) b.constructed taken event is;
        names = names_hold nodes target c m named b.constructed b.names event is;
        shown =
            event_all (SplitHas d.stream_layer) (served d.stream_layer) c (more (seen c) b.shown) (λ range server until. more _ (assign_have c range server until (range_at c.map.ranges range)))
            (λ range server until. more _ (renew_have c range server until (range_at c.map.ranges range))) (λ p there. more _ (map_have c p p.body (b.constructed.completes p there))) event is;
      }
    where
      served : (w : StreamSystem) (old : List Note) (note : TableNote) → SplitHas w (note_told old note)
      served w old (tables.Began range generation number changes) = tt
      served w old (tables.Done range generation number) = tt
      served w old (tables.Got range generation key value) = tt
      served w old (tables.Loaded range generation table next) = tt

  first_built : AreBuilt first
  first_built = record {
    constructed = record {
      jobs = first_fit 1 servers;
      once = λ q a b h k. absurd (let less = h.sent.1 in omega (arith, less));
      past = λ q list h. absurd (let less = h.sent.1 in omega (arith, less));
      completes = λ p there. absurd (let less = there.1 in omega (arith, less));
      creates = λ p there. absurd (let less = there.1 in omega (arith, less));
    };
    names = record {
      taken = λ p server q there to is answerer. absurd (let less = there.1 in omega (arith, less));
      streams = λ s there. inl (let one = (first_stream s.range (kind_number s.kind) there.0 there.1).0 in omega (arith, one));
    };
    shown = tt;
  }
    where
      first_fit : (s n : ℕ) → Each (λ (cell : ServerCell). StateFits (IsFitIn first) [] cell.state) (first_servers batch s n)
      first_fit s zero = tt
      first_fit s (suc n) = (tt, first_fit (suc s) n)

  built_on : (events done : List Event) → AreUnmerged events → AreUnmerged done → AreBuilt (of done) → AreBuilt (of (done ++ events))
  built_on [] done are was b = subst (λ l. AreBuilt (of l)) (sym (append-nil done)) b
  built_on (event ∷ events) done are was b =
      let next : AreBuilt (of (done ++ event ∷ [])) = subst AreBuilt (sym (pushed done event first)) (built_next done was event are.0 b) in
      subst (λ l. AreBuilt (of l)) (append_assoc done (event ∷ []) events) (built_on events (done ++ event ∷ []) are.1 (unmerged_pushed done event was are.0) next)

  pub run_built : (events : List Event) → AreUnmerged events → AreBuilt (of events)
  run_built events are = built_on events [] are tt first_built

  module _ (events : List Event) (are : AreUnmerged events) where
    abbrev c : Cluster
    c = of events

    -- the streams of the first range are there from the start
    first_there : HasStreams c.stream_layer first_range
    first_there = there_on nodes target first.stream_layer (led_by [] first) c.stream_layer (led_by events first) first_range start_there
      where
        start_there : HasStreams (start nodes target) first_range
        start_there kinds.Metadata = (_, refl)
        start_there kinds.Log = (_, refl)
        start_there kinds.RowData = (_, refl)
        start_there kinds.BlobData = (_, refl)

    -- A range that has an origin has its streams.
    pub run_origin_streams : (r : ℕ) → HasOrigin (seen c) r → HasStreams c.stream_layer r
    run_origin_streams r (inl is_first) = subst (HasStreams c.stream_layer) (sym is_first) first_there
    run_origin_streams r (inr made) =
        let both : HasStreams c.stream_layer made.low × HasStreams c.stream_layer made.high =
        each_behind (SplitHas c.stream_layer) made.before made.after (notes.Split made.parent made.low made.high made.key) (subst (Each (SplitHas c.stream_layer)) made.is (run_built events are).shown) in
        elim made.half [ inl low ↦ subst (HasStreams c.stream_layer) (sym low) both.0 | inr high ↦ subst (HasStreams c.stream_layer) (sym high) both.1 ]

    abbrev from : Originates c
    from = run_originates nodes servers target batch events are

    -- So has each range that the map has,
    pub run_entry_streams : (range : ℕ) (x : RangeEntry) → range_at c.map.ranges range ≡ Some x → HasStreams c.stream_layer range
    run_entry_streams range x at = run_origin_streams range (found_from (seen c) range c.map.ranges x from.entries at)

    -- each that was ever assigned, or that a server holds,
    pub run_assigned_streams : Names (assigning (HasStreams c.stream_layer)) c
    run_assigned_streams = names_on (origins (seen c)) (assigning (HasStreams c.stream_layer)) (record {
      knows = λ range generation k. tt;
      assigned = λ range generation k. run_origin_streams range k;
      asked = λ q range generation key k. tt;
      begun = λ q low high k. tt;
      splits = λ range generation key low high k. tt;
      numbers = λ range k. tt;
      merges = λ range generation k. tt;
    }) c from.names

    -- and each of which anything is told.
    pub run_told_streams : (r : ℕ) → (only r (seen c) ≡ []) ⊎ HasStreams c.stream_layer r
    run_told_streams r = elim (told_origin (seen c) (seen c) r from.shown) [ inl none ↦ inl none | inr has ↦ inr (run_origin_streams r has) ]

    -- Whoever says the keys of the two ranges of a split, or asks to complete it, has their streams.
    pub run_constructed : AreConstructed c
    run_constructed = (run_built events are).constructed
