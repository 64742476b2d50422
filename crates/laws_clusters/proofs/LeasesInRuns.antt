-- In a run the map keeps to each lease that it told a server of, whatever happens.
use Rattle.std.proofs.Common.{◌≡◌, ◌⊎◌, ℕ, ◌≤◌, Bool, nat_lt, ◌==◌, List, [], ◌∷◌, ◌++◌, map, Option, Some, None, Contains, slice_get, refl, sym, ap, ◌∙◌, subst, inl, inr, arith}
use Rattle.std.proofs.lemmas.Bool.Decides.{nat_tests}
use Rattle.std.proofs.lemmas.List.Elements.{Contains-append_cases}
use Rattle.std.proofs.lemmas.Option.{same_Some}
use Rattle.wire.specs.declared.actor.ActorId.{ActorId}
use Rattle.wire.specs.declared.actor.ActorId.TheVariants.{Node, Manager, Map, Server, User}
use Rattle.wire.specs.declared.body.Body.{Body}
use Rattle.wire.specs.declared.packet.Packet.{Packet}
use Rattle.wire.specs.declared.refusal.Refusal.{Refusal}
use Rattle.model_streams.specs.declared.event.Event.{Event}
use Rattle.model_streams.specs.declared.event.Event.TheVariants.{Submit, Deliver, Stop, Restart, Decide, GiveUp, Assign, Renew, Moment, Checkpoint, Split, Merge}
use Rattle.model_streams.specs.Outcome.{Outcome, packet}
use Rattle.model_streams.specs.StreamSystem.{happens, ActorCell, running, down, armed, stops_in, stands_in, delivered_if, delivered}
use Rattle.model_streams.proofs.Tests.{if_elim}
use Rattle.model_partition.specs.declared.range_entry.RangeEntry.{RangeEntry}
use Rattle.model_partition.specs.Map.{MapState, range_at}
use Rattle.model_partition.specs.MapRules.{assign_fault, assign_rule, renew_fault, renew_rule, map_rule}
use Rattle.model_partition.specs.Partition.{IsSound}
use Rattle.model_partition.specs.Servers.{ServersOutcome, told_moment, server_takes, server_gives_up, server_checkpoints, server_splits, server_merges, server_stops, server_starts}
use Rattle.model_partition.specs.Cluster.{Cluster, servers_perform, map_performs, map_performs_if, map_takes, delivered_to, delivers, stops, restarts, shows_moment, assigns, renews, map_stops, map_starts, cluster_after, cluster_after_all, first_cluster}
use Rattle.model_partition.proofs.Replaying.{first_sound}
use Rattle.laws_streams.proofs.Choices.{Each}
use Rattle.laws_servers.specs.Sending.{AllFromServers}
use Rattle.laws_servers.proofs.ServerSteps.{IsStill, server_takes_shows, server_gives_up_tidy, server_checkpoints_tidy, server_splits_tidy, server_merges_tidy, server_stops_still, server_starts_still}
use Rattle.laws_clusters.specs.Leases.{Lease, lease_in, KeepsTo}
use Rattle.laws_clusters.specs.Timely.{IsTold, AreApart, AreOfOneServer}
use Rattle.laws_clusters.proofs.Leases.{EntryKeeps, MapKeeps, entry_of}
use Rattle.laws_clusters.proofs.LeaseRules.{IsOfEntry, RuleKeeps, assign_rule_keeps, renew_rule_keeps, map_rule_keeps}
use Rattle.laws_clusters.proofs.Senders.{none_from_map}
use Rattle.laws_clusters.proofs.StreamEvents.{happens_map}

-- what the map says is in the post
abbrev Says : Cluster → ActorId → Body → Type 0
Says c to body = Contains c.stream_layer.post (packet Map to body)

-- the map is sound, and keeps to each lease that it told, of which two of a range are apart, or under one generation of one server
pub record KeepsLeases (c : Cluster) : Type 0 where
  pub sound : IsSound c.map
  pub apart : AreApart c
  pub single : AreOfOneServer c
  pub kept : (to : ActorId) (body : Body) → Contains c.stream_layer.post (packet Map to body) → (lease : Lease) → lease_in to body ≡ Some lease → MapKeeps lease c.now c.map

-- ---- later, and with nothing more from the map

keeps_later : (lease : Lease) (now later : ℕ) (m : MapState) → now ≤ later → MapKeeps lease now m → MapKeeps lease later m
keeps_later lease now later m on k = record { numbered = k.numbered; entries = all m.ranges k.entries }
  where
    one : (r : RangeEntry) → EntryKeeps lease now r → EntryKeeps lease later r
    one r k = (
      k.0,
      λ e.
          (let x = k.1 e in
          record { generation_above = x.generation_above; until_above = x.until_above; same = x.same; other = λ apart. (let l = x.other apart in omega (arith, l, on)) }),
    )

    all : (rs : List RangeEntry) → Each (EntryKeeps lease now) rs → Each (EntryKeeps lease later) rs
    all [] each = tt
    all (r ∷ rs) each = (one r each.0, all rs each.1)

goes_on : (c d : Cluster) → d.map ≡ c.map → c.now ≤ d.now → ((to : ActorId) (body : Body) → Says d to body → Says c to body) → KeepsLeases c → KeepsLeases d
goes_on c d same on says k = record {
  sound = subst IsSound (sym same) k.sound;
  apart = λ low high a b range above differ. (let l = k.apart low high (before low a) (before high b) range above differ in omega (arith, l, on));
  single = λ one other a b range under. k.single one other (before one a) (before other b) range under;
  kept = λ to body there lease is. subst (MapKeeps lease d.now) (sym same) (keeps_later lease c.now d.now c.map on (k.kept to body (says to body there) lease is));
}
  where
    before : (lease : Lease) → IsTold d.stream_layer.post lease → IsTold c.stream_layer.post lease
    before lease told = record { to = told.to; body = told.body; sent = says told.to told.body told.sent; tells = told.tells }

-- ---- servers

servers_keep : (c : Cluster) (o : ServersOutcome) → AllFromServers o.packets → KeepsLeases c → KeepsLeases (servers_perform c o)
servers_keep c o senders k = goes_on c (servers_perform c o) refl (omega arith) says k
  where
    says : (to : ActorId) (body : Body) → Contains (c.stream_layer.post ++ o.packets) (packet Map to body) → Says c to body
    says to body there = elim (Contains-append_cases c.stream_layer.post o.packets (packet Map to body) there) [
      | inl old ↦ old
      | inr now ↦ absurd (none_from_map o.packets senders (packet Map to body) now refl)
    ]

still_keep : (c : Cluster) (o : ServersOutcome) → IsStill o → KeepsLeases c → KeepsLeases (servers_perform c o)
still_keep c o still k = servers_keep c o (subst AllFromServers (sym still.0) tt) k

-- ---- the map

-- it goes through a rule, of which these packets are sent
rule_keeps : (c d : Cluster) (o : Outcome MapState) (packets : List Packet) → RuleKeeps c.now c.map o → d.map ≡ o.after → d.now ≡ c.now → d.stream_layer.post ≡ c.stream_layer.post ++ packets →
    ((p : Packet) → Contains packets p → Contains o.packets p) → KeepsLeases c → KeepsLeases d
rule_keeps c d o packets rule after now post some k = record { sound = subst IsSound (sym after) rule.sound; apart = apart; single = single; kept = kept }
  where
    -- it was told before, or now, and is that of its range's entry
    told_cases : (lease : Lease) → IsTold d.stream_layer.post lease → IsTold c.stream_layer.post lease ⊎ IsOfEntry d.map lease
    told_cases lease told = elim (Contains-append_cases c.stream_layer.post packets (packet Map told.to told.body) (subst (λ ps. Contains ps (packet Map told.to told.body)) post told.sent)) [
      | inl old ↦ inl (record { to = told.to; body = told.body; sent = old; tells = told.tells })
      | inr sent ↦ inr (subst (λ m. IsOfEntry m lease) (sym after) (rule.entry (packet Map told.to told.body) (some (packet Map told.to told.body) sent) lease told.tells))
    ]

    kept : (to : ActorId) (body : Body) → Says d to body → (lease : Lease) → lease_in to body ≡ Some lease → MapKeeps lease d.now d.map
    kept to body there lease is =
        subst (λ (m : MapState). MapKeeps lease d.now m) (sym after)
        (subst (λ (n : ℕ). MapKeeps lease n o.after) (sym now)
        (elim (Contains-append_cases c.stream_layer.post packets (packet Map to body) (subst (λ ps. Contains ps (packet Map to body)) post there)) [
          | inl old ↦ rule.kept lease (k.kept to body old lease is)
          | inr sent ↦ rule.tells (packet Map to body) (some (packet Map to body) sent) lease is
        ]))

    -- the entry of the other one's range keeps to a lease that was told
    entry_keeps_to : (lease other : Lease) → IsTold d.stream_layer.post lease → (e : IsOfEntry d.map other) → lease.range ≡ other.range → KeepsTo lease d.now e.entry.generation e.entry.until e.entry.holder
    entry_keeps_to lease other told e same =
        let k = kept told.to told.body told.sent lease told.tells in
        let (keeps, number) = entry_of (EntryKeeps lease d.now) other.range d.map.ranges e.entry k.entries e.found in
        keeps.1 (number ∙ sym same)

    apart : AreApart d
    apart low high a b same above differ = elim (told_cases high b) [
      | inr e ↦ (entry_keeps_to low high a e same).other (λ holds. differ (same_Some low.server high.server (sym holds ∙ e.holder)))
      | inl old ↦ elim (told_cases low a) [
        | inl also ↦ (let l = k.apart low high also old same above differ in omega (arith, l, now))
        | inr e ↦ absurd (let l = (entry_keeps_to high low b e (sym same)).generation_above in let g = e.generation in omega (arith, l, g, above))
      ]
    ]

    single : AreOfOneServer d
    single one other a b same under = elim (told_cases other b) [
      | inr e ↦ same_Some one.server other.server (sym ((entry_keeps_to one other a e same).same (under ∙ sym e.generation)) ∙ e.holder)
      | inl old ↦ elim (told_cases one a) [
        | inl also ↦ k.single one other also old same under
        | inr e ↦ same_Some one.server other.server (sym e.holder ∙ (entry_keeps_to other one b e (sym same)).same (sym under ∙ sym e.generation))
      ]
    ]

-- another cell of the map
cell_keeps : (c : Cluster) (cell : ActorCell) → KeepsLeases c → KeepsLeases (record c { map_cell = cell })
cell_keeps c cell k = goes_on c (record c { map_cell = cell }) refl (omega arith) (λ to body there. there) k

does_keep : (c : Cluster) (o : Outcome MapState) → RuleKeeps c.now c.map o → KeepsLeases c → KeepsLeases (map_performs c o)
does_keep c o rule k =
    if_elim KeepsLeases (stops_in c.map_cell o.written) _ _
    (λ t. if_elim KeepsLeases (stands_in c.map_cell) _ _
    (λ s. rule_keeps c _ o [] rule refl refl refl (λ p there. absurd (let less = there.1 in omega (arith, less))) k) (λ s. cell_keeps c down k))
    (λ f. rule_keeps c _ o o.packets rule refl refl refl (λ p there. there) k)

does_if_keep : (c : Cluster) (fault : Option Refusal) (o : Outcome MapState) → (fault ≡ None → RuleKeeps c.now c.map o) → KeepsLeases c → KeepsLeases (map_performs_if c fault o)
does_if_keep c (Some refusal) o rule k = k
does_if_keep c None o rule k = does_keep c o (rule refl) k

map_takes_keep : (c : Cluster) (p : Packet) → KeepsLeases c → KeepsLeases (map_takes c p)
map_takes_keep c p k = if_elim KeepsLeases c.map_cell.up _ _ (λ up. does_keep c (map_rule c.map p p.body) (map_rule_keeps c.now c.map k.sound p p.body) k) (λ up. k)

assigns_keep : (c : Cluster) (range server until : ℕ) → KeepsLeases c → KeepsLeases (assigns c range server until)
assigns_keep c range server until k =
    let found = range_at c.map.ranges range in
    if_elim KeepsLeases c.map_cell.up _ _
    (λ up. does_if_keep c (assign_fault server c.now found) (assign_rule c.map range server until found) (λ free. assign_rule_keeps c.now c.map range server until found refl free k.sound) k) (λ up. k)

renews_keep : (c : Cluster) (range server until : ℕ) → KeepsLeases c → KeepsLeases (renews c range server until)
renews_keep c range server until k =
    let found = range_at c.map.ranges range in
    if_elim KeepsLeases c.map_cell.up _ _
    (λ up. does_if_keep c (renew_fault server found) (renew_rule c.map range server until found) (λ free. renew_rule_keeps c.now c.map range server until found refl free k.sound) k) (λ up. k)

map_stops_keep : (c : Cluster) (call : ℕ) (keep : Bool) → KeepsLeases c → KeepsLeases (map_stops c call keep)
map_stops_keep c call keep k =
    if_elim KeepsLeases c.map_cell.up _ _
    (λ up. if_elim KeepsLeases (call == 0) _ _ (λ now. cell_keeps c down k) (λ later. cell_keeps c (armed call keep) k)) (λ up. k)

map_starts_keep : (c : Cluster) → KeepsLeases c → KeepsLeases (map_starts c)
map_starts_keep c k = if_elim KeepsLeases c.map_cell.up _ _ (λ up. k) (λ up. cell_keeps c running k)

-- ---- events

-- an event of the stream layer
happens_keep : (c : Cluster) (event : Event) → KeepsLeases c → KeepsLeases (record c { stream_layer = happens c.stream_layer event })
happens_keep c event k = goes_on c (record c { stream_layer = happens c.stream_layer event }) refl (omega arith) (λ to body there. happens_map c.stream_layer event to body there) k

delivers_keep : (c : Cluster) (number : ℕ) (o : Option Packet) → slice_get c.stream_layer.post number ≡ o → KeepsLeases c → KeepsLeases (delivers c o)
delivers_keep c number None at k = k
delivers_keep c number (Some p) at k = go p.to refl
  where
    layer_takes : (to : ActorId) → p.to ≡ to → KeepsLeases (record c { stream_layer = delivered c.stream_layer p to })
    layer_takes to is =
        subst (λ z. KeepsLeases (record c { stream_layer = z })) (ap (delivered_if c.stream_layer) at ∙ ap (delivered c.stream_layer p) is) (happens_keep c (Deliver number) k)

    go : (to : ActorId) → p.to ≡ to → KeepsLeases (delivered_to c p to)
    go (Server s) is = servers_keep c (server_takes c.servers s p) (server_takes_shows c.servers s p).0 k
    go Map is = map_takes_keep c p k
    go (Node n) is = layer_takes (Node n) is
    go Manager is = layer_takes Manager is
    go (User u) is = layer_takes (User u) is

stops_keep : (c : Cluster) (actor : ActorId) (call : ℕ) (keep : Bool) → KeepsLeases c → KeepsLeases (stops c actor call keep)
stops_keep c (Server s) call keep k = still_keep c (server_stops c.servers s call) (server_stops_still c.servers s call) k
stops_keep c Map call keep k = map_stops_keep c call keep k
stops_keep c (Node n) call keep k = happens_keep c (Stop (Node n) call keep) k
stops_keep c Manager call keep k = happens_keep c (Stop Manager call keep) k
stops_keep c (User u) call keep k = happens_keep c (Stop (User u) call keep) k

restarts_keep : (c : Cluster) (actor : ActorId) → KeepsLeases c → KeepsLeases (restarts c actor)
restarts_keep c (Server s) k = still_keep c (server_starts c.servers s c.now c.batch) (server_starts_still c.servers s c.now c.batch) k
restarts_keep c Map k = map_starts_keep c k
restarts_keep c (Node n) k = happens_keep c (Restart (Node n)) k
restarts_keep c Manager k = happens_keep c (Restart Manager) k
restarts_keep c (User u) k = happens_keep c (Restart (User u)) k

moment_keeps : (c : Cluster) (now : ℕ) → KeepsLeases c → KeepsLeases (shows_moment c now)
moment_keeps c now k =
    if_elim KeepsLeases (nat_lt now c.now) _ _ (λ back. k)
    (λ on. goes_on c (record c { now = now; servers = map (told_moment now) c.servers }) refl (grind (arith, nat_tests)) (λ to body there. there) k)

comes_keep : (c : Cluster) (event : Event) → KeepsLeases c → KeepsLeases (cluster_after c event)
comes_keep c (Submit user to body) k = happens_keep c (Submit user to body) k
comes_keep c (Deliver number) k = delivers_keep c number (slice_get c.stream_layer.post number) refl k
comes_keep c (Stop actor call keep) k = stops_keep c actor call keep k
comes_keep c (Restart actor) k = restarts_keep c actor k
comes_keep c (Decide e) k = happens_keep c (Decide e) k
comes_keep c (GiveUp server range pick) k = servers_keep c (server_gives_up c.servers server range pick) (server_gives_up_tidy c.servers server range pick).0 k
comes_keep c (Assign range server until) k = assigns_keep c range server until k
comes_keep c (Renew range server until) k = renews_keep c range server until k
comes_keep c (Moment now) k = moment_keeps c now k
comes_keep c (Checkpoint server range combine) k = servers_keep c (server_checkpoints c.servers server range combine) (server_checkpoints_tidy c.servers server range combine).0 k
comes_keep c (Split server range key) k = servers_keep c (server_splits c.servers server range key) (server_splits_tidy c.servers server range key).0 k
comes_keep c (Merge server left right) k = servers_keep c (server_merges c.servers server left right) (server_merges_tidy c.servers server left right).0 k

-- ---- runs

all_keep : (events : List Event) (c : Cluster) → KeepsLeases c → KeepsLeases (cluster_after_all c events)
all_keep [] c k = k
all_keep (event ∷ events) c k = all_keep events (cluster_after c event) (comes_keep c event k)

pub run_keeps_leases : (nodes servers target batch : ℕ) (events : List Event) → KeepsLeases (cluster_after_all (first_cluster nodes servers target batch) events)
run_keeps_leases nodes servers target batch events =
    all_keep events (first_cluster nodes servers target batch)
    (record {
      sound = first_sound;
      apart = λ low high a b same above differ. absurd (let less = a.sent.1 in omega (arith, less));
      single = λ one other a b same under. absurd (let less = a.sent.1 in omega (arith, less));
      kept = λ to body there lease is. absurd (let less = there.1 in omega (arith, less));
    })

-- ---- what that means of the entry of a range

-- Each lease that the map told has an end and a generation that are at most those of the range's entry; under the entry's generation it
-- was told to the entry's holder; and where another holds the range now, or nobody, the lease has ended.
pub entry_keeps : (c : Cluster) → KeepsLeases c → (to : ActorId) (body : Body) → Contains c.stream_layer.post (packet Map to body) → (lease : Lease) → lease_in to body ≡ Some lease →
    (x : RangeEntry) → range_at c.map.ranges lease.range ≡ Some x → KeepsTo lease c.now x.generation x.until x.holder
entry_keeps c k to body there lease is x found =
    let (e, same) = entry_of (EntryKeeps lease c.now) lease.range c.map.ranges x (k.kept to body there lease is).entries found in
    e.1 same
