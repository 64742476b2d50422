-- In a run without merges each range that the map has or assigned, that a server holds, or of which anything is told is the first one or
-- a child of another.
use Rattle.std.proofs.Common.{◌≡◌, ◌⊎◌, ℕ, Bool, true, false, nat_lt, ◌==◌, List, [], ◌∷◌, ◌++◌, Option, Some, None, slice_get, Contains, refl, sym, ap, ◌∙◌, subst, inl, inr, arith, append-nil, append_assoc, if◌then◌else◌}
use Rattle.std.proofs.lemmas.Bool.{eqb-true}
use Rattle.wire.specs.declared.actor.ActorId.{ActorId}
use Rattle.wire.specs.declared.actor.ActorId.TheVariants.{Node, Manager, Map, Server, User}
use Rattle.wire.specs.declared.body.Body.{Body}
use Rattle.wire.specs.declared.body.Body.TheVariants as bodies
use Rattle.wire.specs.declared.body.MapBody.TheVariants as maps
use Rattle.wire.specs.declared.note.Note.{Note}
use Rattle.wire.specs.declared.note.Note.TheVariants as notes
use Rattle.wire.specs.declared.packet.Packet.{Packet}
use Rattle.wire.specs.declared.refusal.Refusal.{Refusal}
use Rattle.model_streams.specs.declared.event.Event.{Event}
use Rattle.model_streams.specs.declared.event.Event.TheVariants.{Submit, Deliver, Stop, Restart, Decide, GiveUp, Assign, Renew, Moment as MomentTold, Checkpoint, Split, Merge}
use Rattle.model_streams.specs.Outcome.{Outcome}
use Rattle.model_streams.specs.StreamSystem.{is_request, happens, stops_in, stands_in, delivered_if, delivered}
use Rattle.model_streams.proofs.Tests.{if_elim}
use Rattle.model_partition.specs.declared.table_note.TableNote.{TableNote}
use Rattle.model_partition.specs.declared.table_note.TableNote.TheVariants as tables
use Rattle.model_partition.specs.Past.{first_range, table_notes}
use Rattle.model_partition.specs.Map.{MapState, range_at}
use Rattle.model_partition.specs.MapRules.{assign_fault, renew_fault, map_rule}
use Rattle.model_partition.specs.Servers.{ServerCell, ServersOutcome, noted}
use Rattle.model_partition.specs.Servers.{told as note_told}
use Rattle.model_partition.specs.Cluster.{IsUnmerged, AreUnmerged, Cluster, servers_perform, map_performs, map_performs_if, map_takes, delivered_to, delivers, stops, restarts, shows_moment, cluster_after, cluster_after_all, first_cluster}
use Rattle.model_histories.specs.Log.{is_of, only}
use Rattle.model_histories.specs.ServerRun.{ServerRun, ServerEvent, Takes, GivesUp, Checkpoints, Splits, Stops, Starts, run_of, after_event}
use Rattle.model_histories.specs.StreamActions.{PlacedBytes}
use Rattle.laws_streams.proofs.Choices.{contains_get}
use Rattle.laws_tables.specs.Families.{IsChild}
use Rattle.laws_tables.proofs.Others.{others-append}
use Rattle.laws_map.specs.Naming.{Each, Knowledge, BodyNames, RangeNames, ServerNames, StateNames, Names}
use Rattle.laws_map.proofs.Knowing.{each_both, found_at, Extends}
use Rattle.laws_map.proofs.EventNames.{RuleNames, AskedIn, RulesOf, entry_is, names_on, event_goes}
use Rattle.laws_map.proofs.GivenNumbers.{first_cells}
use Rattle.laws_server_runs.specs.Places.{NoteWithin, NotesWithin}
use Rattle.laws_server_runs.specs.Turns.{outcome_of, IsOfServers}
use Rattle.laws_server_runs.proofs.LaidRuns.{all_laid}
use Rattle.laws_server_runs.proofs.NotedRanges.{AreNoted, Nothing, OfOne, run_noted}
use Rattle.laws_server_runs.proofs.RunSteps.{IsAny, IsAnyPair, any_assigned, any_numbered, event_step}
use Rattle.laws_server_runs.proofs.Unmerged.{unmerged}
use Rattle.laws_clusters.specs.ServerEvents.{server_events}
use Rattle.laws_clusters.proofs.Births.{run_children}
use Rattle.laws_clusters.proofs.Origins.{IsMade, HasOrigin, origin_more, AreFrom, from_more, NoteFrom, AllFrom, all_more, origins, origins_laws, origins_more, origins_same, IsUnmergedBody, Gives, assign_gives, renew_gives, map_gives}
use Rattle.laws_clusters.proofs.ShownNotes.{event_goes as notes_go}
use Rattle.laws_clusters.proofs.StreamEvents.{happens_tables}

-- what is told of tables
abbrev pub seen : Cluster → List Note
seen c = table_notes c.stream_layer.notes

-- Each entry of the map, each range of which anything is told, and each that was assigned or that a server holds, has an origin that is shown.
pub record Originates (c : Cluster) : Type 0 where
  pub entries : AreFrom (seen c) c.map.ranges
  pub shown : AllFrom (seen c) (seen c)
  pub names : Names (origins (seen c)) c

-- More is shown, and it is so of the entries of the map and of what is shown.
record Onward (c d : Cluster) : Type 0 where
  new : List Note
  is : seen d ≡ seen c ++ new
  entries : AreFrom (seen d) d.map.ranges
  shown : AllFrom (seen d) (seen d)

-- ---- what servers show

-- it is of one range, whose origin is shown
record FromOne (h : List Note) (told : List TableNote) : Type 0 where
  range : ℕ
  generation : ℕ
  placed : List PlacedBytes
  within : NotesWithin range generation placed told
  origin : HasOrigin h range

-- what is told then is of that range
record Grows (range : ℕ) (old now : List Note) : Type 0 where
  new : List Note
  is : table_notes now ≡ table_notes old ++ new
  from : (h : List Note) → HasOrigin h range → AllFrom h new

noted_grows : (range generation : ℕ) (placed : List PlacedBytes) (more : List TableNote) → NotesWithin range generation placed more → (old : List Note) → Grows range old (noted old more)
noted_grows range generation placed [] within old = record { new = []; is = sym (append-nil (table_notes old)); from = λ h o. tt }
noted_grows range generation placed (n ∷ more) within old = step n within.0 (noted_grows range generation placed more within.1 (old ++ note_told old n ∷ []))
  where
    one : (note : Note) → table_notes (note ∷ []) ≡ note ∷ [] → ((h : List Note) → HasOrigin h range → NoteFrom h note) → (now : List Note) → Grows range (old ++ note ∷ []) now → Grows range old now
    one note alone from now g = record {
      new = note ∷ g.new;
      is = g.is ∙ ap (λ l. l ++ g.new) (others-append old (note ∷ []) ∙ ap (λ l. table_notes old ++ l) alone) ∙ append_assoc (table_notes old) (note ∷ []) g.new;
      from = λ h o. (from h o, g.from h o);
    }

    step : (n : TableNote) → NoteWithin range generation placed n → Grows range (old ++ note_told old n ∷ []) (noted (old ++ note_told old n ∷ []) more) → Grows range old (noted (old ++ note_told old n ∷ []) more)
    step (tables.Began r g number changes) w grows = one (note_told old (tables.Began r g number changes)) refl (λ h o. subst (HasOrigin h) (sym w.0) o) _ grows
    step (tables.Done r g number) w grows = one (note_told old (tables.Done r g number)) refl (λ h o. subst (HasOrigin h) (sym w.0) o) _ grows
    step (tables.Loaded r g table next) w grows = one (note_told old (tables.Loaded r g table next)) refl (λ h o. subst (HasOrigin h) (sym w.0) o) _ grows
    step (tables.Got r g key value) w grows = one (note_told old (tables.Got r g key value)) refl (λ h o. tt) _ grows

-- ---- events

module _ (batch count : ℕ) (c : Cluster) (x : Originates c) (coming : List ServerEvent) (same : c.servers ≡ (run_of batch count coming).servers) where
  abbrev y : ServerRun
  y = run_of batch count coming

  abbrev K : Knowledge
  K = origins (seen c)

  abbrev On : Cluster → Type 0
  On d = Onward c d

  -- nothing is shown
  stays : (d : Cluster) → seen d ≡ seen c → AreFrom (seen c) d.map.ranges → On d
  stays d still entries = record {
    new = [];
    is = still ∙ sym (append-nil (seen c));
    entries = subst (λ (h : List Note). AreFrom h d.map.ranges) (sym still) entries;
    shown = subst (λ (h : List Note). AllFrom h h) (sym still) x.shown;
  }

  rests : On c
  rests = stays c refl x.entries

  -- this is shown
  shows : (d : Cluster) (new : List Note) → seen d ≡ seen c ++ new → AreFrom (seen c ++ new) d.map.ranges → AllFrom (seen c ++ new) new → On d
  shows d new is entries from = record {
    new = new;
    is = is;
    entries = subst (λ (h : List Note). AreFrom h d.map.ranges) (sym is) entries;
    shown = subst (λ (h : List Note). AllFrom h h) (sym is) (each_both (NoteFrom (seen c ++ new)) (seen c) new (all_more (seen c) new (seen c) x.shown) from);
  }

  -- ---- servers

  from_noted : (told : List TableNote) → AreNoted y told → FromOne (seen c) told
  from_noted told Nothing = record { range = first_range; generation = 0; placed = []; within = tt; origin = inl refl }
  from_noted told (OfOne shown of) =
      let all : Each (λ (cell : ServerCell). StateNames K cell.state) y.servers = subst (λ (l : List ServerCell). Each (λ (cell : ServerCell). StateNames K cell.state) l) same x.names.servers in
      let state : StateNames K of.cell.state = entry_is (λ (cell : ServerCell). StateNames K cell.state) y.servers of.server of.cell all of.there in
      let names : ServerNames K of.state = subst (StateNames K) of.up state in
      record {
        range = of.range;
        generation = of.held.load.generation;
        placed = of.placed;
        within = of.notes;
        origin = (found_at (RangeNames K) of.state.ranges of.range of.held names.ranges of.found).known;
      }

  told_from : (event : ServerEvent) → IsOfServers event → FromOne (seen c) (outcome_of c.servers event).notes
  told_from event is =
      subst (λ (l : List ServerCell). FromOne (seen c) (outcome_of l event).notes) (sym same)
      (from_noted (outcome_of y.servers event).notes
      (run_noted y (all_laid batch count coming) (outcome_of y.servers event).notes (after_event y event)
      (event_step IsAny IsAnyPair y (unmerged batch count coming) event is (any_assigned event) (any_numbered event))))

  performs : (o : ServersOutcome) → FromOne (seen c) o.notes → On (servers_perform c o)
  performs o f =
      let g : Grows f.range c.stream_layer.notes (noted c.stream_layer.notes o.notes) = noted_grows f.range f.generation f.placed o.notes f.within c.stream_layer.notes in
      shows (servers_perform c o) g.new g.is (from_more (seen c) g.new c.map.ranges x.entries) (g.from (seen c ++ g.new) (origin_more (seen c) g.new f.range f.origin))

  server_on : (event : ServerEvent) → IsOfServers event → On (servers_perform c (outcome_of c.servers event))
  server_on event is = performs (outcome_of c.servers event) (told_from event is)

  -- ---- the map

  -- what was asked of it is no merge
  body_unmerged : (body : Body) → is_request body ≡ true → IsUnmergedBody body
  body_unmerged (bodies.Map (maps.CompleteMerge left b right g q)) asks = absurd (let z : false ≡ true = asks in cc)
  body_unmerged (bodies.Map body) asks = tt
  body_unmerged body asks = tt

  named_unmerged : (body : Body) → BodyNames K body → IsUnmergedBody body
  named_unmerged (bodies.Map (maps.CompleteMerge left b right g q)) names = absurd names.0
  named_unmerged (bodies.Map body) names = tt
  named_unmerged body names = tt

  asked_unmerged : (p : Packet) → Contains c.stream_layer.post p → IsUnmergedBody p.body
  asked_unmerged p there = elim (x.names.post p there) [ inl asks ↦ body_unmerged p.body asks.1 | inr names ↦ named_unmerged p.body names ]

  does_on : (o : Outcome MapState) → Gives c.map (seen c) o → On (map_performs c o)
  does_on o g =
      if_elim On (stops_in c.map_cell o.written) _ _
      (λ t. if_elim On (stands_in c.map_cell) _ _ (λ s. ruled _ (others-append c.stream_layer.notes o.notes) g.entries) (λ s. stays _ refl x.entries))
      (λ f. ruled _ (others-append c.stream_layer.notes o.notes) g.entries)
    where
      ruled : (d : Cluster) → seen d ≡ seen c ++ table_notes o.notes → AreFrom (seen c ++ table_notes o.notes) d.map.ranges → On d
      ruled d is entries = shows d (table_notes o.notes) is entries (g.none (seen c ++ table_notes o.notes))

  does_if_on : (fault : Option Refusal) (o : Outcome MapState) → Gives c.map (seen c) o → On (map_performs_if c fault o)
  does_if_on (Some refusal) o g = rests
  does_if_on None o g = does_on o g

  map_takes_on : (p : Packet) → Contains c.stream_layer.post p → On (map_takes c p)
  map_takes_on p there = if_elim On c.map_cell.up _ _ (λ up. does_on (map_rule c.map p p.body) (map_gives c.map (seen c) x.entries p p.body (asked_unmerged p there))) (λ up. rests)

  -- ---- events

  happens_on : (event : Event) → On (record c { stream_layer = happens c.stream_layer event })
  happens_on event = stays (record c { stream_layer = happens c.stream_layer event }) (happens_tables c.stream_layer event) x.entries

  delivers_on : (number : ℕ) (o : Option Packet) → slice_get c.stream_layer.post number ≡ o → On (delivers c o)
  delivers_on number None at = rests
  delivers_on number (Some p) at = go p.to refl
    where
      layer_takes : (to : ActorId) → p.to ≡ to → On (record c { stream_layer = delivered c.stream_layer p to })
      layer_takes to is =
          subst (λ z. On (record c { stream_layer = z })) (ap (delivered_if c.stream_layer) at ∙ ap (delivered c.stream_layer p) is) (happens_on (Deliver number))

      go : (to : ActorId) → p.to ≡ to → On (delivered_to c p to)
      go (Server s) is = server_on (Takes s p) (λ source range e. cc)
      go Map is = map_takes_on p (contains_get c.stream_layer.post number p at)
      go (Node n) is = layer_takes (Node n) is
      go Manager is = layer_takes Manager is
      go (User u) is = layer_takes (User u) is

  stops_on : (actor : ActorId) (call : ℕ) (keep : Bool) → On (stops c actor call keep)
  stops_on (Server s) call keep = server_on (Stops s call) (λ source range e. cc)
  stops_on Map call keep = if_elim On c.map_cell.up _ _ (λ up. if_elim On (call == 0) _ _ (λ z. stays _ refl x.entries) (λ z. stays _ refl x.entries)) (λ up. rests)
  stops_on (Node n) call keep = happens_on (Stop (Node n) call keep)
  stops_on Manager call keep = happens_on (Stop Manager call keep)
  stops_on (User u) call keep = happens_on (Stop (User u) call keep)

  restarts_on : (actor : ActorId) → On (restarts c actor)
  restarts_on (Server s) = server_on (Starts s c.now c.batch) (λ source range e. cc)
  restarts_on Map = if_elim On c.map_cell.up _ _ (λ up. rests) (λ up. stays _ refl x.entries)
  restarts_on (Node n) = happens_on (Restart (Node n))
  restarts_on Manager = happens_on (Restart Manager)
  restarts_on (User u) = happens_on (Restart (User u))

  moment_on : (now : ℕ) → On (shows_moment c now)
  moment_on now = if_elim On (nat_lt now c.now) _ _ (λ back. rests) (λ on. stays _ refl x.entries)

  comes_on : (event : Event) → IsUnmerged event → On (cluster_after c event)
  comes_on (Submit user to body) is = happens_on (Submit user to body)
  comes_on (Deliver number) is = delivers_on number (slice_get c.stream_layer.post number) refl
  comes_on (Stop actor call keep) is = stops_on actor call keep
  comes_on (Restart actor) is = restarts_on actor
  comes_on (Decide e) is = happens_on (Decide e)
  comes_on (GiveUp server range pick) is = server_on (GivesUp server range pick) (λ source range e. cc)
  comes_on (Assign range server until) is =
      if_elim On c.map_cell.up _ _ (λ up. does_if_on (assign_fault server c.now (range_at c.map.ranges range)) _ (assign_gives c.map (seen c) x.entries range server until (range_at c.map.ranges range) refl)) (λ up. rests)
  comes_on (Renew range server until) is =
      if_elim On c.map_cell.up _ _ (λ up. does_if_on (renew_fault server (range_at c.map.ranges range)) _ (renew_gives c.map (seen c) x.entries range server until (range_at c.map.ranges range) refl)) (λ up. rests)
  comes_on (MomentTold now) is = moment_on now
  comes_on (Checkpoint server range combine) is = server_on (Checkpoints server range combine) (λ source range e. cc)
  comes_on (Split server range key) is = server_on (Splits server range key) (λ source range e. cc)
  comes_on (Merge server left right) is = absurd is

  -- ---- what is assigned

  -- over what is shown then
  module _ (h : List Note) (on : (range : ℕ) → HasOrigin (seen c) range → HasOrigin h range) where
    gives_names : (o : Outcome MapState) → Gives c.map (seen c) o → RuleNames (λ a. origins h) c.map o
    gives_names o g = record { extends = origins_same h; packets = g.packets h on }

    rules : (event : Event) → RulesOf (λ a. origins h) c event
    rules (Deliver number) = λ p at names. gives_names _ (map_gives c.map (seen c) x.entries p p.body (asked_unmerged p (contains_get c.stream_layer.post number p at)))
    rules (Assign range server until) = gives_names _ (assign_gives c.map (seen c) x.entries range server until (range_at c.map.ranges range) refl)
    rules (Renew range server until) = gives_names _ (renew_gives c.map (seen c) x.entries range server until (range_at c.map.ranges range) refl)
    rules event = tt

    asked : (event : Event) → IsUnmerged event → AskedIn (λ a. origins h) c event
    asked (Split s range key) is = λ cell at st up r sent. tt
    asked (Merge server left right) is = absurd is
    asked event is = tt

  pub event_originates : (event : Event) → IsUnmerged event → Originates (cluster_after c event)
  event_originates event is =
      let d : Cluster = cluster_after c event in
      let on : On d = comes_on event is in
      let extends : Extends K (origins (seen d)) = subst (λ (h : List Note). Extends K (origins h)) (sym on.is) (origins_more (seen c) on.new) in
      record {
        entries = on.entries;
        shown = on.shown;
        names = event_goes (λ a. origins (seen d)) c (origins_laws (seen d)) tt (names_on K (origins (seen d)) extends c x.names) event (rules (seen d) (λ range k. extends.assigned range 0 k) event) (asked (seen d) (λ range k. extends.assigned range 0 k) event is);
      }

-- ---- runs

led_originates : (batch count : ℕ) (events : List Event) → AreUnmerged events → (c : Cluster) → Originates c → (coming : List ServerEvent) → c.servers ≡ (run_of batch count coming).servers → Originates (cluster_after_all c events)
led_originates batch count [] are c x coming same = x
led_originates batch count (event ∷ events) are c x coming same =
    led_originates batch count events are.1 (cluster_after c event) (event_originates batch count c x coming same event are.0) (server_events c event ++ coming) (notes_go batch count c coming same event are.0).cells

first_originates : (nodes servers target batch : ℕ) → Originates (first_cluster nodes servers target batch)
first_originates nodes servers target batch = record {
  entries = (inl refl, tt);
  shown = tt;
  names = record { post = λ p there. absurd (let less = there.1 in omega (arith, less)); servers = first_cells (origins []) batch 1 servers; catalog = λ range kind s is. tt };
}

-- In every run without merges each entry of the map, each range that was assigned or that a server holds, and each of which anything is told
-- is the first one or was made by a split that is shown.
pub run_originates : (nodes servers target batch : ℕ) (events : List Event) → AreUnmerged events → Originates (cluster_after_all (first_cluster nodes servers target batch) events)
run_originates nodes servers target batch events are = led_originates batch servers events are (first_cluster nodes servers target batch) (first_originates nodes servers target batch) [] refl

-- an observation of a range shows that it has an origin
pub told_origin : (h ns : List Note) (r : ℕ) → AllFrom h ns → (only r ns ≡ []) ⊎ HasOrigin h r
told_origin h [] r all = inl refl
told_origin h (note ∷ ns) r all = step note all.0 (told_origin h ns r all.1)
  where
    served : (range : ℕ) (note : Note) → HasOrigin h range → is_of r note ≡ (r == range) → (only r ns ≡ []) ⊎ HasOrigin h r → (only r (note ∷ ns) ≡ []) ⊎ HasOrigin h r
    served range note o is rest = go (r == range) is refl
      where
        go : (b : Bool) → is_of r note ≡ b → (r == range) ≡ b → (only r (note ∷ ns) ≡ []) ⊎ HasOrigin h r
        go true of e = inr (subst (HasOrigin h) (sym (eqb-true r range e)) o)
        go false of e = elim rest [ inl none ↦ inl (ap (λ b. if b then note ∷ only r ns else only r ns) of ∙ none) | inr has ↦ inr has ]

    step : (note : Note) → NoteFrom h note → (only r ns ≡ []) ⊎ HasOrigin h r → (only r (note ∷ ns) ≡ []) ⊎ HasOrigin h r
    step (notes.Began range generation number changes) o rest = served range (notes.Began range generation number changes) o refl rest
    step (notes.Done range generation number) o rest = served range (notes.Done range generation number) o refl rest
    step (notes.Loaded range generation rows next) o rest = served range (notes.Loaded range generation rows next) o refl rest
    step (notes.Got range generation key value) o rest = rest
    step (notes.Split parent low high key) o rest = rest
    step (notes.Merged left right range) o rest = rest
    step (notes.Acked e offset group) o rest = rest
    step (notes.SealedAt e length) o rest = rest
    step (notes.Content e node groups) o rest = rest
    step (notes.Seen e node offset bytes) o rest = rest

module _ (nodes servers target batch : ℕ) (events : List Event) (are : AreUnmerged events) where
  abbrev c : Cluster
  c = cluster_after_all (first_cluster nodes servers target batch) events

  -- a range that a split made is a child of another
  pub made_child : (r : ℕ) → IsMade (seen c) r → (p : ℕ) × IsChild (seen c) p r
  made_child r m =
      let both = run_children nodes servers target batch events m.before m.after m.parent m.low m.high m.key m.is in
      elim m.half [
        | inl low ↦ (m.parent, subst (λ n. IsChild (seen c) m.parent n) (sym low) both.0)
        | inr high ↦ (m.parent, subst (λ n. IsChild (seen c) m.parent n) (sym high) both.1)
      ]

  pub origin_child : (r : ℕ) → HasOrigin (seen c) r → (r ≡ first_range) ⊎ ((p : ℕ) × IsChild (seen c) p r)
  origin_child r (inl first) = inl first
  origin_child r (inr made) = inr (made_child r made)

  -- Each range of which anything is told is the first one or a child of another.
  pub run_origins : (r : ℕ) → (only r (seen c) ≡ []) ⊎ ((r ≡ first_range) ⊎ ((p : ℕ) × IsChild (seen c) p r))
  run_origins r = elim (told_origin (seen c) (seen c) r (run_originates nodes servers target batch events are).shown) [ inl none ↦ inl none | inr has ↦ inr (origin_child r has) ]
