-- A Get whose answer is observed in a run without merges has its event: something that came to a server, which showed it then, and before it
-- nothing but what was observed before that event, and Gets that the server answered with it.
use Rattle.std.proofs.Common.{◌≡◌, ◌⊎◌, ⊎_elim, ℕ, Bool, nat_lt, ◌==◌, List, [], ◌∷◌, ◌++◌, Option, Some, None, slice_get, Contains, refl, sym, ap, ◌∙◌, subst, inl, inr, append-nil, append_assoc}
use Rattle.wire.specs.declared.actor.ActorId.{ActorId}
use Rattle.wire.specs.declared.actor.ActorId.TheVariants.{Node, Manager, Map, Server, User}
use Rattle.wire.specs.declared.note.Note.{Note}
use Rattle.wire.specs.declared.note.Note.TheVariants as notes
use Rattle.wire.specs.declared.packet.Packet.{Packet}
use Rattle.wire.specs.declared.refusal.Refusal.{Refusal}
use Rattle.model_streams.specs.declared.event.Event.{Event}
use Rattle.model_streams.specs.declared.event.Event.TheVariants.{Submit, Deliver, Stop, Restart, Decide, GiveUp, Assign, Renew, Moment as MomentTold, Checkpoint, Split, Merge}
use Rattle.model_streams.specs.Outcome.{Outcome}
use Rattle.model_streams.specs.StreamSystem.{happens, stops_in, stands_in, delivered, delivered_if}
use Rattle.model_streams.proofs.Tests.{if_elim}
use Rattle.model_partition.specs.declared.table_note.TableNote.{TableNote}
use Rattle.model_partition.specs.declared.table_note.TableNote.TheVariants as tables
use Rattle.model_partition.specs.Past.{Bytes, table_notes}
use Rattle.model_partition.specs.Map.{MapState, range_at}
use Rattle.model_partition.specs.MapRules.{assign_fault, renew_fault, map_rule}
use Rattle.model_partition.specs.Servers.{told, noted}
use Rattle.model_partition.specs.Cluster.{IsUnmerged, AreUnmerged, Cluster, servers_perform, map_performs, map_performs_if, map_takes, delivered_to, delivers, stops, restarts, cluster_after, cluster_after_all, first_cluster}
use Rattle.model_histories.specs.Log.{only}
use Rattle.model_histories.specs.ServerRun.{ServerEvent, Takes, GivesUp, Checkpoints, Splits, Stops, Starts}
use Rattle.model_histories.specs.StreamMachine.{In}
use Rattle.laws_tables.proofs.Members.{contains_in}
use Rattle.laws_tables.proofs.Others.{others-append}
use Rattle.laws_server_runs.specs.Reads.{ComesTo}
use Rattle.laws_server_runs.specs.Turns.{outcome_of}
use Rattle.laws_clusters.specs.ServerEvents.{packet_events, delivery_events, stop_events, start_events, server_events, server_events_after}
use Rattle.laws_clusters.proofs.BuiltSplits.{pushed}
use Rattle.laws_clusters.proofs.GotSteps.{AreGots, HaveNoGot, event_pure}
use Rattle.laws_clusters.proofs.NoteGenerations.{told_last}
use Rattle.laws_clusters.proofs.ShownNotes.{notes_of, RuleShows, Silent, SplitDone, MergeDone, assign_silent, renew_silent, map_shows}
use Rattle.laws_clusters.proofs.StreamEvents.{happens_tables}

-- ---- observations

-- where one stands among those before and those that are new
split_where : {A : Type 0} (xs new before after : List A) (note : A) → xs ++ new ≡ before ++ note ∷ after →
    ((k : List A) × (xs ≡ before ++ note ∷ k)) ⊎ ((k : List A) × (before ≡ xs ++ k) × (new ≡ k ++ note ∷ after))
split_where [] new before after note e = inr (before, refl, e)
split_where (x ∷ xs) new [] after note e = inl (xs, (let same : x ≡ note = cc in ap (λ n. n ∷ xs) same))
split_where {A} (x ∷ xs) new (b ∷ before) after note e =
    let same : x ≡ b = cc in
    let rest : xs ++ new ≡ before ++ note ∷ after = cc in
    ⊎_elim {C = ((k : List A) × (x ∷ xs ≡ (b ∷ before) ++ note ∷ k)) ⊎ ((k : List A) × (b ∷ before ≡ (x ∷ xs) ++ k) × (new ≡ k ++ note ∷ after))}
    (λ old. inl (old.0, (λ i. same i ∷ old.1 i))) (λ now. inr (now.0, (λ i. sym same i ∷ now.1 i), now.2)) (split_where xs new before after note rest)

-- it is no answered Get
abbrev IsNoGot : Note → Type 0
IsNoGot (notes.Got range g key value) = ⊥
IsNoGot note = Unit {0}

abbrev AreNoGots : List Note → Type 0
AreNoGots [] = Unit {0}
AreNoGots (note ∷ h) = IsNoGot note × AreNoGots h

no_gots_both : (xs ys : List Note) → AreNoGots xs → AreNoGots ys → AreNoGots (xs ++ ys)
no_gots_both [] ys a b = b
no_gots_both (x ∷ xs) ys a b = (a.0, no_gots_both xs ys a.1 b)

no_got_in : (k after : List Note) (range g : ℕ) (key : Bytes) (value : Option Bytes) → AreNoGots (k ++ notes.Got range g key value ∷ after) → ⊥
no_got_in [] after range g key value none = none.0
no_got_in (x ∷ k) after range g key value none = no_got_in k after range g key value none.1

-- what servers show with no Get among it
record AddsNone (shown : List TableNote) (old : List Note) : Type 0 where
  new : List Note
  is : table_notes (noted old shown) ≡ table_notes old ++ new
  none : AreNoGots new

told_none : (shown : List TableNote) (old : List Note) → HaveNoGot shown → AddsNone shown old
told_none [] old none = record { new = []; is = sym (append-nil (table_notes old)); none = tt }
told_none (n ∷ shown) old none = go (λ l h. told_none shown l h) n none
  where
    one : (n : TableNote) → IsNoGot (told old n) → AddsNone shown (old ++ told old n ∷ []) → AddsNone (n ∷ shown) old
    one n is_none rest = record {
      new = told old n ∷ rest.new;
      is = rest.is ∙ ap (λ l. l ++ rest.new) (told_last old n) ∙ append_assoc (table_notes old) (told old n ∷ []) rest.new;
      none = (is_none, rest.none);
    }

    go : ((l : List Note) → HaveNoGot shown → AddsNone shown l) → (n : TableNote) → HaveNoGot (n ∷ shown) → AddsNone (n ∷ shown) old
    go rest (tables.Began range g number changes) h = one (tables.Began range g number changes) tt (rest (old ++ told old (tables.Began range g number changes) ∷ []) h)
    go rest (tables.Done range g number) h = one (tables.Done range g number) tt (rest (old ++ told old (tables.Done range g number) ∷ []) h)
    go rest (tables.Loaded range g table next) h = one (tables.Loaded range g table next) tt (rest (old ++ told old (tables.Loaded range g table next) ∷ []) h)
    go rest (tables.Got range g key value) h = absurd h.0

-- answered Gets, as they are observed
abbrev as_notes : List TableNote → List Note
as_notes [] = []
as_notes (tables.Got range g key value ∷ shown) = notes.Got range g key value ∷ as_notes shown
as_notes (tables.Began range g number changes ∷ shown) = as_notes shown
as_notes (tables.Done range g number ∷ shown) = as_notes shown
as_notes (tables.Loaded range g table next ∷ shown) = as_notes shown

told_gots : (shown : List TableNote) (old : List Note) → AreGots shown → table_notes (noted old shown) ≡ table_notes old ++ as_notes shown
told_gots [] old gots = sym (append-nil (table_notes old))
told_gots (tables.Got range g key value ∷ shown) old gots =
    told_gots shown (old ++ notes.Got range g key value ∷ []) gots ∙ ap (λ l. l ++ as_notes shown) (told_last old (tables.Got range g key value))
    ∙ append_assoc (table_notes old) (notes.Got range g key value ∷ []) (as_notes shown)
told_gots (tables.Began range g number changes ∷ shown) old gots = absurd gots
told_gots (tables.Done range g number ∷ shown) old gots = absurd gots
told_gots (tables.Loaded range g table next ∷ shown) old gots = absurd gots

-- each was shown, and those before it are of no range
gots_before : (shown : List TableNote) (k after : List Note) (range g : ℕ) (key : Bytes) (value : Option Bytes) → AreGots shown → as_notes shown ≡ k ++ notes.Got range g key value ∷ after →
    ((j : ℕ) → only j k ≡ []) × In (tables.Got range g key value) shown
gots_before [] [] after range g key value gots e = absurd cc
gots_before [] (x ∷ k) after range g key value gots e = absurd cc
gots_before (tables.Got range g key value ∷ shown) [] after range' g' key' value' gots e =
    ((λ j. refl), inl (let same : notes.Got range g key value ≡ notes.Got range' g' key' value' = cc in cc))
gots_before (tables.Got range g key value ∷ shown) (x ∷ k) after range' g' key' value' gots e =
    let same : notes.Got range g key value ≡ x = cc in
    let rest : as_notes shown ≡ k ++ notes.Got range' g' key' value' ∷ after = cc in
    let b : ((j : ℕ) → only j k ≡ []) × In (tables.Got range' g' key' value') shown = gots_before shown k after range' g' key' value' gots rest in
    ((λ j. subst (λ z. only j (z ∷ k) ≡ []) same (b.0 j)), inr b.1)
gots_before (tables.Began range g number changes ∷ shown) k after range' g' key' value' gots e = absurd gots
gots_before (tables.Done range g number ∷ shown) k after range' g' key' value' gots e = absurd gots
gots_before (tables.Loaded range g table next ∷ shown) k after range' g' key' value' gots e = absurd gots

-- ---- what an event shows

-- no answered Get
pub record ShowsNoGot (c d : Cluster) : Type 0 where
  pub new : List Note
  pub is : notes_of d ≡ notes_of c ++ new
  pub none : AreNoGots new

-- what a server shows to which this comes
pub record ShowsOfServer (c d : Cluster) (more : List ServerEvent) : Type 0 where
  pub event : ServerEvent
  pub server : ℕ
  pub to : ComesTo event server
  pub comes : more ≡ event ∷ []
  pub is : d.stream_layer.notes ≡ noted c.stream_layer.notes (outcome_of c.servers event).notes

abbrev pub Shows : Cluster → Cluster → List ServerEvent → Type 0
Shows c d more = ShowsNoGot c d ⊎ ShowsOfServer c d more

module _ (c : Cluster) where
  still : (d : Cluster) → notes_of d ≡ notes_of c → ShowsNoGot c d
  still d same = record { new = []; is = same ∙ sym (append-nil (notes_of c)); none = tt }

  of_server : (event : ServerEvent) (server : ℕ) → ComesTo event server → Shows c (servers_perform c (outcome_of c.servers event)) (event ∷ [])
  of_server event server to = inr (record { event = event; server = server; to = to; comes = refl; is = refl })

  layer : (event : Event) → ShowsNoGot c (record c { stream_layer = happens c.stream_layer event })
  layer event = still (record c { stream_layer = happens c.stream_layer event }) (happens_tables c.stream_layer event)

  -- ---- the map

  rule_none : (p : Packet) (o : Outcome MapState) → RuleShows c p o → AreNoGots (table_notes o.notes)
  rule_none p o (Silent none) = subst (λ l. AreNoGots (table_notes l)) (sym none) tt
  rule_none p o (SplitDone range low high key q entry asked found pending left is) = subst (λ l. AreNoGots (table_notes l)) (sym is) (tt, tt)
  rule_none p o (MergeDone left right into is) = subst (λ l. AreNoGots (table_notes l)) (sym is) (tt, tt)

  does : (o : Outcome MapState) → AreNoGots (table_notes o.notes) → ShowsNoGot c (map_performs c o)
  does o none =
      if_elim (ShowsNoGot c) (stops_in c.map_cell o.written) _ _ (λ t. if_elim (ShowsNoGot c) (stands_in c.map_cell) _ _ (λ s. shown _ refl) (λ s. still _ refl)) (λ f. shown _ refl)
    where
      shown : (d : Cluster) → d.stream_layer.notes ≡ c.stream_layer.notes ++ o.notes → ShowsNoGot c d
      shown d is = record { new = table_notes o.notes; is = ap table_notes is ∙ others-append c.stream_layer.notes o.notes; none = none }

  does_if : (fault : Option Refusal) (o : Outcome MapState) → o.notes ≡ [] → ShowsNoGot c (map_performs_if c fault o)
  does_if (Some refusal) o none = still c refl
  does_if None o none = does o (subst (λ l. AreNoGots (table_notes l)) (sym none) tt)

  map_takes_none : (p : Packet) → ShowsNoGot c (map_takes c p)
  map_takes_none p = if_elim (ShowsNoGot c) c.map_cell.up _ _ (λ up. does (map_rule c.map p p.body) (rule_none p (map_rule c.map p p.body) (map_shows c p p.body refl))) (λ up. still c refl)

  -- ---- events

  delivers_show : (number : ℕ) (o : Option Packet) → slice_get c.stream_layer.post number ≡ o → Shows c (delivers c o) (delivery_events c o)
  delivers_show number None at = inl (still c refl)
  delivers_show number (Some p) at = go p.to refl
    where
      layer_takes : (to : ActorId) → p.to ≡ to → ShowsNoGot c (record c { stream_layer = delivered c.stream_layer p to })
      layer_takes to is = subst (λ z. ShowsNoGot c (record c { stream_layer = z })) (ap (delivered_if c.stream_layer) at ∙ ap (delivered c.stream_layer p) is) (layer (Deliver number))

      go : (to : ActorId) → p.to ≡ to → Shows c (delivered_to c p to) (packet_events c to p)
      go (Server s) is = of_server (Takes s p) s refl
      go Map is = inl (map_takes_none p)
      go (Node n) is = inl (layer_takes (Node n) is)
      go Manager is = inl (layer_takes Manager is)
      go (User u) is = inl (layer_takes (User u) is)

  stops_show : (actor : ActorId) (call : ℕ) (keep : Bool) → Shows c (stops c actor call keep) (stop_events actor call)
  stops_show (Server s) call keep = of_server (Stops s call) s refl
  stops_show Map call keep = inl (if_elim (ShowsNoGot c) c.map_cell.up _ _ (λ up. if_elim (ShowsNoGot c) (call == 0) _ _ (λ z. still _ refl) (λ z. still _ refl)) (λ up. still c refl))
  stops_show (Node n) call keep = inl (layer (Stop (Node n) call keep))
  stops_show Manager call keep = inl (layer (Stop Manager call keep))
  stops_show (User u) call keep = inl (layer (Stop (User u) call keep))

  restarts_show : (actor : ActorId) → Shows c (restarts c actor) (start_events c actor)
  restarts_show (Server s) = of_server (Starts s c.now c.batch) s refl
  restarts_show Map = inl (if_elim (ShowsNoGot c) c.map_cell.up _ _ (λ up. still c refl) (λ up. still _ refl))
  restarts_show (Node n) = inl (layer (Restart (Node n)))
  restarts_show Manager = inl (layer (Restart Manager))
  restarts_show (User u) = inl (layer (Restart (User u)))

  pub event_shows : (event : Event) → IsUnmerged event → Shows c (cluster_after c event) (server_events c event)
  event_shows (Submit user to body) unmerged = inl (layer (Submit user to body))
  event_shows (Deliver number) unmerged = delivers_show number (slice_get c.stream_layer.post number) refl
  event_shows (Stop actor call keep) unmerged = stops_show actor call keep
  event_shows (Restart actor) unmerged = restarts_show actor
  event_shows (Decide e) unmerged = inl (layer (Decide e))
  event_shows (GiveUp server range pick) unmerged = of_server (GivesUp server range pick) server refl
  event_shows (Assign range server until) unmerged =
      inl (if_elim (ShowsNoGot c) c.map_cell.up _ _ (λ up. does_if (assign_fault server c.now (range_at c.map.ranges range)) _ (assign_silent c range server until (range_at c.map.ranges range))) (λ up. still c refl))
  event_shows (Renew range server until) unmerged =
      inl (if_elim (ShowsNoGot c) c.map_cell.up _ _ (λ up. does_if (renew_fault server (range_at c.map.ranges range)) _ (renew_silent c range server until (range_at c.map.ranges range))) (λ up. still c refl))
  event_shows (MomentTold now) unmerged = inl (if_elim (ShowsNoGot c) (nat_lt now c.now) _ _ (λ back. still c refl) (λ on. still _ refl))
  event_shows (Checkpoint server range combine) unmerged = of_server (Checkpoints server range combine) server refl
  event_shows (Split server range key) unmerged = of_server (Splits server range key) server refl
  event_shows (Merge server left right) unmerged = absurd unmerged

-- ---- runs

module _ (nodes servers target batch : ℕ) (range g : ℕ) (key : Bytes) (value : Option Bytes) where
  abbrev first : Cluster
  first = first_cluster nodes servers target batch

  abbrev of : List Event → Cluster
  of events = cluster_after_all first events

  -- The event in which it was shown, and what was observed until then.
  pub record GotAt (events : List Event) (before : List Note) : Type 0 where
    pub done : List Event
    pub event : Event
    pub rest : List Event
    pub are : events ≡ done ++ event ∷ rest
    pub came : ServerEvent
    pub server : ℕ
    pub to : ComesTo came server
    pub comes : server_events (of done) event ≡ came ∷ []
    pub shown : Contains (outcome_of (of done).servers came).notes (tables.Got range g key value)
    -- Gets that were answered in the same step
    pub gots : List Note
    pub before_is : before ≡ notes_of (of done) ++ gots
    pub gots_none : (k : ℕ) → only k gots ≡ []

  abbrev IsFoundIn : List Event → Type 0
  IsFoundIn events = (before after : List Note) → notes_of (of events) ≡ before ++ notes.Got range g key value ∷ after → GotAt events before

  -- with one event more
  later : (done : List Event) (event : Event) (before : List Note) → GotAt done before → GotAt (done ++ event ∷ []) before
  later done event before x = record {
    done = x.done;
    event = x.event;
    rest = x.rest ++ event ∷ [];
    are = ap (λ l. l ++ event ∷ []) x.are ∙ append_assoc x.done (x.event ∷ x.rest) (event ∷ []);
    came = x.came;
    server = x.server;
    to = x.to;
    comes = x.comes;
    shown = x.shown;
    gots = x.gots;
    before_is = x.before_is;
    gots_none = x.gots_none;
  }

  module _ (done : List Event) (event : Event) (found : IsFoundIn done) where
    abbrev c : Cluster
    c = of done

    -- where no Get is shown
    by_none : (new : List Note) → AreNoGots new → (before after : List Note) → notes_of c ++ new ≡ before ++ notes.Got range g key value ∷ after → GotAt (done ++ event ∷ []) before
    by_none new none before after e =
        ⊎_elim {C = GotAt (done ++ event ∷ []) before} (λ old. later done event before (found before old.0 old.1))
        (λ now. absurd (no_got_in now.0 after range g key value (subst AreNoGots now.2 none))) (split_where (notes_of c) new before after (notes.Got range g key value) e)

    -- where Gets alone are
    by_gots : (came : ServerEvent) (server : ℕ) → ComesTo came server → server_events c event ≡ came ∷ [] → AreGots (outcome_of c.servers came).notes → (before after : List Note) →
        notes_of c ++ as_notes (outcome_of c.servers came).notes ≡ before ++ notes.Got range g key value ∷ after → GotAt (done ++ event ∷ []) before
    by_gots came server to comes gots before after e =
        ⊎_elim {C = GotAt (done ++ event ∷ []) before} (λ old. later done event before (found before old.0 old.1))
        (λ now.
        let b : ((j : ℕ) → only j now.0 ≡ []) × In (tables.Got range g key value) (outcome_of c.servers came).notes = gots_before (outcome_of c.servers came).notes now.0 after range g key value gots now.2 in
        record {
          done = done;
          event = event;
          rest = [];
          are = refl;
          came = came;
          server = server;
          to = to;
          comes = comes;
          shown = contains_in (tables.Got range g key value) (outcome_of c.servers came).notes b.1;
          gots = now.0;
          before_is = now.1;
          gots_none = b.0;
        }) (split_where (notes_of c) (as_notes (outcome_of c.servers came).notes) before after (notes.Got range g key value) e)

    by_server : (d : Cluster) (x : ShowsOfServer c d (server_events c event)) (before after : List Note) → notes_of d ≡ before ++ notes.Got range g key value ∷ after → GotAt (done ++ event ∷ []) before
    by_server d x before after e =
        ⊎_elim {C = GotAt (done ++ event ∷ []) before}
        (λ none.
        let a : AddsNone (outcome_of c.servers x.event).notes c.stream_layer.notes = told_none (outcome_of c.servers x.event).notes c.stream_layer.notes none in
        by_none a.new a.none before after (sym a.is ∙ sym (ap table_notes x.is) ∙ e))
        (λ gots. by_gots x.event x.server x.to x.comes gots before after (sym (told_gots (outcome_of c.servers x.event).notes c.stream_layer.notes gots) ∙ sym (ap table_notes x.is) ∙ e))
        (event_pure c.servers x.event)

    found_on : IsUnmerged event → IsFoundIn (done ++ event ∷ [])
    found_on unmerged before after e =
        let now : notes_of (cluster_after c event) ≡ before ++ notes.Got range g key value ∷ after = sym (ap notes_of (pushed nodes servers target batch done event first)) ∙ e in
        ⊎_elim {C = GotAt (done ++ event ∷ []) before} (λ none. by_none none.new none.none before after (sym none.is ∙ now)) (λ x. by_server (cluster_after c event) x before after now) (event_shows c event unmerged)

  all_found : (events : List Event) → AreUnmerged events → (done : List Event) → IsFoundIn done → IsFoundIn (done ++ events)
  all_found [] are done f = subst IsFoundIn (sym (append-nil done)) f
  all_found (event ∷ events) are done f = subst IsFoundIn (append_assoc done (event ∷ []) events) (all_found events are.1 (done ++ event ∷ []) (found_on done event f are.0))

  none_first : IsFoundIn []
  none_first [] after e = absurd cc
  none_first (x ∷ before) after e = absurd cc

  -- EACH ANSWERED GET OF A RUN HAS ITS EVENT
  pub run_got : (events : List Event) → AreUnmerged events → (before after : List Note) → notes_of (of events) ≡ before ++ notes.Got range g key value ∷ after → GotAt events before
  run_got events are = all_found events are [] none_first

-- ---- what came before it

-- what comes to servers goes on
pub comes_behind : (c : Cluster) (before : List ServerEvent) (events : List Event) → (late : List ServerEvent) × (server_events_after c before events ≡ late ++ before)
comes_behind c before [] = ([], refl)
comes_behind c before (event ∷ events) =
    let rest : (late : List ServerEvent) × (server_events_after (cluster_after c event) (server_events c event ++ before) events ≡ late ++ (server_events c event ++ before)) = comes_behind (cluster_after c event) (server_events c event ++ before) events in
    (rest.0 ++ server_events c event, rest.1 ∙ sym (append_assoc rest.0 (server_events c event) before))

pub comes_both : (c : Cluster) (before : List ServerEvent) (done events : List Event) → server_events_after c before (done ++ events) ≡ server_events_after (cluster_after_all c done) (server_events_after c before done) events
comes_both c before [] events = refl
comes_both c before (event ∷ done) events = comes_both (cluster_after c event) (server_events c event ++ before) done events

-- a part of a run without merges is one
pub unmerged_done : (done rest : List Event) → AreUnmerged (done ++ rest) → AreUnmerged done
unmerged_done [] rest are = tt
unmerged_done (event ∷ done) rest are = (are.0, unmerged_done done rest are.1)
