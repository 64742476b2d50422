-- Which streams come to be in an event of the stream layer, and who is told then that streams are there.
use Rattle.std.proofs.Common.{◌≡◌, ◌⊎◌, ℕ, Bool, true, not, ◌&&◌, ◌||◌, ◌==◌, nat_lt, is_none, suc, List, [], ◌∷◌, ◌++◌, Option, Some, None, slice_get, Contains, refl, sym, ap, ◌∙◌, subst, inl, inr}
use Rattle.std.specs.Prelude.{◌^◌}
use Rattle.std.proofs.lemmas.List.Elements.{Contains-append_cases}
use Rattle.wire.specs.declared.actor.ActorId.{ActorId}
use Rattle.wire.specs.declared.actor.ActorId.TheVariants.{Node, Manager, Map, Server, User}
use Rattle.wire.specs.declared.actor.ReqNo.{ReqNo}
use Rattle.wire.specs.declared.actor.ReqNo.TheVariants as requests
use Rattle.wire.specs.declared.body.AppendBody.TheVariants as appends
use Rattle.wire.specs.declared.body.MapBody.{MapBody}
use Rattle.wire.specs.declared.body.MapBody.TheVariants as maps
use Rattle.wire.specs.declared.body.StreamBody.TheVariants as streams
use Rattle.wire.specs.declared.body.Body.{Body}
use Rattle.wire.specs.declared.body.Body.TheVariants as bodies
use Rattle.wire.specs.declared.packet.Packet.{Packet}
use Rattle.wire.specs.declared.refusal.Refusal.{Refusal}
use Rattle.wire.specs.declared.refusal.Refusal.TheVariants as refusals
use Rattle.wire.specs.declared.streams.Modify.{Modify}
use Rattle.wire.specs.declared.streams.StreamName.{StreamName}
use Rattle.streams.specs.Streams.{Streams}
use Rattle.model_streams.specs.declared.event.Event.{Event}
use Rattle.model_streams.specs.declared.event.Event.TheVariants.{Submit, Deliver, Stop, Restart, Decide, GiveUp, Assign, Renew, Moment, Checkpoint, Split, Merge}
use Rattle.model_streams.specs.Actors.{is_user}
use Rattle.model_streams.specs.Manager as catalog
use Rattle.model_streams.specs.Manager.{Catalog}
use Rattle.model_streams.specs.Node as table
use Rattle.model_streams.specs.Node.{Replica}
use Rattle.model_streams.specs.Outcome.{Outcome, packet}
use Rattle.model_streams.specs.StreamSystem.{StreamSystem, stops_in, stands_in, burnt, unsent, after_manager_rule, node_halted, node_performs, manager_halted, manager_performs, sent_more, delivered, delivered_if, is_request, node_stops, manager_stops, stop, is_present, restart, happens}
use Rattle.model_streams.proofs.Tests.{if_elim}
use Rattle.model_partition.specs.declared.pending.Pending.{Pending}
use Rattle.model_partition.specs.declared.pending.Pending.TheVariants as pendings
use Rattle.model_partition.specs.declared.range_entry.RangeEntry.{RangeEntry}
use Rattle.model_partition.specs.Map.{MapState, range_at, range_of_key, union_at, union_with, halves_at, is_split_key}
use Rattle.model_partition.specs.MapRules.{assign_rule, renew_rule, has_numbers, begin_split_fault, begin_split_taken, begin_split_rule, complete_split_fault, complete_split_taken, complete_split_rule, is_split, is_beside, is_same_holder, begin_merge_fault, begin_merge_taken, begin_merge_rule, complete_merge_fault, complete_merge_rule, route_rule, called, told, map_rule}
use Rattle.laws_streams.proofs.Choices.{contains_get, contains_pushed}
use Rattle.laws_streams.proofs.KeptStreams.{decide_same}
use Rattle.laws_map.specs.Stages.{TellsBuilt}
use Rattle.laws_map.proofs.Knowing.{each_has}
use Rattle.laws_map.proofs.LayerAnswers.{IsOtherIf, met_other, OtherBody, AreOther, node_other}
use Rattle.laws_map.proofs.ManagerBirths.{IsIn, AllApart, HearsBuild, Told, IsListed, manager_does, decide_other}

-- ---- what the map tells

module _ (m : MapState) where
  abbrev AllOther : Outcome MapState → Type 0
  AllOther o = AreOther o.packets

  called_other : (p : Packet) (q : ReqNo) (fault : Option Refusal) (o : Outcome MapState) → IsOtherIf fault → AllOther o → AllOther (called m p q fault o)
  called_other p q (Some refusal) o other all = (other, tt)
  called_other p q None o other all = all

  pub assign_other : (range server until : ℕ) (x : Option RangeEntry) → AllOther (assign_rule m range server until x)
  assign_other range server until None = tt
  assign_other range server until (Some r) = if_elim AllOther (nat_lt (suc r.generation) (2 ^ 64)) _ _ (λ t. (tt, tt)) (λ f. tt)

  pub renew_other : (range server until : ℕ) (x : Option RangeEntry) → AllOther (renew_rule m range server until x)
  renew_other range server until None = tt
  renew_other range server until (Some r) = (tt, tt)

  begin_split_other : (to : _) (q : ReqNo) (range : ℕ) (key : List ℕ) (pair : Option (ℕ × ℕ)) → AllOther (begin_split_taken m to q range key pair)
  begin_split_other to q range key (Some pair) = (tt, tt)
  begin_split_other to q range key None = if_elim AllOther (has_numbers m 2) _ _ (λ t. (tt, tt)) (λ f. tt)

  begin_split_rule_other : (to : _) (q : ReqNo) (range : ℕ) (key : List ℕ) (x : Option RangeEntry) → AllOther (begin_split_rule m to q range key x)
  begin_split_rule_other to q range key None = tt
  begin_split_rule_other to q range key (Some r) = begin_split_other to q range key (halves_at key r.pending)

  begin_split_free : (generation : ℕ) (key : List ℕ) (x : Option RangeEntry) → IsOtherIf (begin_split_fault generation key x)
  begin_split_free generation key None = tt
  begin_split_free generation key (Some r) = met_other ((refusals.GenerationChanged, not (r.generation == generation)) ∷ (refusals.BadSplitKey, not (is_split_key r.keys key)) ∷ []) (tt, (tt, tt))

  complete_split_other : (to : _) (q : ReqNo) (range : ℕ) (p : Option Pending) → AllOther (complete_split_taken m to q range p)
  complete_split_other to q range (Some (pendings.Split key low high)) = (tt, tt)
  complete_split_other to q range (Some (pendings.Merge right into)) = tt
  complete_split_other to q range None = tt

  complete_split_rule_other : (to : _) (q : ReqNo) (range : ℕ) (x : Option RangeEntry) → AllOther (complete_split_rule m to q range x)
  complete_split_rule_other to q range None = tt
  complete_split_rule_other to q range (Some r) = complete_split_other to q range r.pending

  complete_split_free : (generation : ℕ) (x : Option RangeEntry) → IsOtherIf (complete_split_fault generation x)
  complete_split_free generation None = tt
  complete_split_free generation (Some r) = met_other ((refusals.GenerationChanged, not (r.generation == generation && is_split r.pending)) ∷ []) (tt, tt)

  begin_merge_other : (to : _) (q : ReqNo) (left right : ℕ) (x : Option ℕ) → AllOther (begin_merge_taken m to q left right x)
  begin_merge_other to q left right (Some into) = (tt, tt)
  begin_merge_other to q left right None = if_elim AllOther (has_numbers m 1) _ _ (λ t. (tt, tt)) (λ f. tt)

  begin_merge_rule_other : (to : _) (q : ReqNo) (left right : ℕ) (x : Option RangeEntry) → AllOther (begin_merge_rule m to q left right x)
  begin_merge_rule_other to q left right None = tt
  begin_merge_rule_other to q left right (Some l) = begin_merge_other to q left right (union_with right l.pending)

  begin_merge_free : (a c : ℕ) (l r : Option RangeEntry) → IsOtherIf (begin_merge_fault a c l r)
  begin_merge_free a c (Some l) (Some r) =
      met_other ((refusals.GenerationChanged, not (l.generation == a && r.generation == c)) ∷ (refusals.NotAdjacent, not (is_beside l.keys r.keys)) ∷ (refusals.NotOwner, not (is_same_holder l.holder r.holder)) ∷ []) (tt, (tt, (tt, tt)))
  begin_merge_free a c (Some l) None = tt
  begin_merge_free a c None r = tt

  complete_merge_rule_other : (to : _) (q : ReqNo) (left right : ℕ) (x : Option ℕ) → AllOther (complete_merge_rule m to q left right x)
  complete_merge_rule_other to q left right None = tt
  complete_merge_rule_other to q left right (Some into) = (tt, tt)

  complete_merge_free : (a c : ℕ) (l r : Option RangeEntry) (into : Option ℕ) → IsOtherIf (complete_merge_fault a c l r into)
  complete_merge_free a c (Some l) (Some r) into = met_other ((refusals.GenerationChanged, not (l.generation == a && r.generation == c)) ∷ (refusals.GenerationChanged, is_none into) ∷ []) (tt, (tt, tt))
  complete_merge_free a c (Some l) None into = tt
  complete_merge_free a c None r into = tt

  route_other : (p : Packet) (q : ReqNo) (x : Option RangeEntry) → AllOther (route_rule m p q x)
  route_other p q None = tt
  route_other p q (Some r) = (tt, tt)

  told_other : (p : Packet) (body : MapBody) → AllOther (told m p body)
  told_other p (maps.Route key q) = route_other p q (range_of_key m.ranges key)
  told_other p (maps.BeginSplit range generation key q) =
      called_other p q (begin_split_fault generation key (range_at m.ranges range)) _ (begin_split_free generation key (range_at m.ranges range)) (begin_split_rule_other p.from q range key (range_at m.ranges range))
  told_other p (maps.CompleteSplit range generation q) =
      called_other p q (complete_split_fault generation (range_at m.ranges range)) _ (complete_split_free generation (range_at m.ranges range)) (complete_split_rule_other p.from q range (range_at m.ranges range))
  told_other p (maps.BeginMerge left a right c q) =
      called_other p q (begin_merge_fault a c (range_at m.ranges left) (range_at m.ranges right)) _ (begin_merge_free a c (range_at m.ranges left) (range_at m.ranges right)) (begin_merge_rule_other p.from q left right (range_at m.ranges left))
  told_other p (maps.CompleteMerge left a right c q) =
      called_other p q (complete_merge_fault a c (range_at m.ranges left) (range_at m.ranges right) (union_at m.ranges left right)) _ (complete_merge_free a c (range_at m.ranges left) (range_at m.ranges right) (union_at m.ranges left right))
      (complete_merge_rule_other p.from q left right (union_at m.ranges left right))
  told_other p body = tt

  pub map_other : (p : Packet) (body : Body) → AllOther (map_rule m p body)
  map_other p (bodies.Map body) = told_other p body
  map_other p body = tt

-- ---- what an event of the stream layer leaves

-- a list was asked for under the number, of which all are there, or one is
pub record HeardOf (post : List Packet) (ss : Streams) (q : ReqNo) : Type 0 where
  pub taken : Packet
  pub sent : Contains post taken
  pub hears : HearsBuild ss taken q

-- The event delivers a packet to the manager, which takes the list that it asks for; the stream is one of that.
pub record BuildsName (w : StreamSystem) (event : Event) (v : StreamSystem) (name : StreamName) : Type 0 where
  pub number : ℕ
  pub delivers : event ≡ Deliver number
  pub packet : Packet
  pub at : slice_get w.post number ≡ Some packet
  pub to : packet.to ≡ Manager
  pub up : w.manager_cell.up ≡ true
  pub listed : IsListed w.catalog v.catalog.stream packet name
  pub written : (not (stops_in w.manager_cell (catalog.manager_rule w.catalog packet packet.body).written) || stands_in w.manager_cell) ≡ true

-- Each packet that is new says to nobody but a user, and to who asked, that streams are there; and each stream that is new is a user's or one of a
-- list that was asked for.
pub record Brings (w : StreamSystem) (Builds : StreamSystem → StreamName → Type 0) (v : StreamSystem) : Type 0 where
  pub told : (p : Packet) → Contains v.post p → (q : ReqNo) → TellsBuilt q p.body → Contains w.post p ⊎ ((is_user p.to ≡ true) ⊎ HeardOf w.post v.catalog.stream q)
  pub born : (name : StreamName) → IsIn v.catalog.stream name → IsIn w.catalog.stream name ⊎ ((name.range ≡ 0) ⊎ Builds v name)

-- what is said otherwise
other_tells : (p : Packet) (q : ReqNo) → OtherBody p.body → TellsBuilt q p.body → ⊥
other_tells p q other (inl is) = subst OtherBody is other
other_tells p q other (inr is) = subst OtherBody is other

told_tells : (ss : Streams) (taken p : Packet) (q : ReqNo) → Told ss taken p.to p.body → TellsBuilt q p.body → (is_user p.to ≡ true) ⊎ HearsBuild ss taken q
told_tells ss taken p q told (inl is) = subst (Told ss taken p.to) is told
told_tells ss taken p q told (inr is) = subst (Told ss taken p.to) is told

module _ (w : StreamSystem) (Builds : StreamSystem → StreamName → Type 0) where
  abbrev B : StreamSystem → Type 0
  B v = Brings w Builds v

  pub quiet_brings : (v : StreamSystem) → v.catalog.stream ≡ w.catalog.stream → ((p : Packet) → Contains v.post p → Contains w.post p ⊎ OtherBody p.body) → B v
  quiet_brings v same post = record {
    told = λ p there q tells. elim (post p there) [ inl old ↦ inl old | inr other ↦ absurd (other_tells p q other tells) ];
    born = λ name there. inl (subst (λ (ss : Streams). IsIn ss name) same there);
  }

  pub same_brings : (v : StreamSystem) → v.catalog.stream ≡ w.catalog.stream → v.post ≡ w.post → B v
  same_brings v same post = quiet_brings v same (λ p there. inl (subst (λ ps. Contains ps p) post there))

  pub more_other : (packets : List Packet) → AreOther packets → (p : Packet) → Contains (w.post ++ packets) p → Contains w.post p ⊎ OtherBody p.body
  more_other packets other p there = elim (Contains-append_cases w.post packets p there) [ inl old ↦ inl old | inr new ↦ inr (each_has (λ (x : Packet). OtherBody x.body) packets p other new) ]

  node_brings : (n e : ℕ) (o : Outcome (Option Replica)) → AreOther o.packets → B (node_performs w n e o)
  node_brings n e o other =
      if_elim B (stops_in (w.cell n) o.written) _ _
      (λ s. if_elim B (stands_in (w.cell n)) _ _ (λ t. quiet_brings _ refl (more_other [] tt)) (λ t. same_brings _ refl refl))
      (λ s. quiet_brings _ refl (more_other o.packets other))

  module _ (creates : (p : Packet) → Contains w.post p → (s : StreamName) (fence : ℕ) (q : ReqNo) → p.body ≡ bodies.Stream (streams.CreateStream s fence q) → is_user p.from ≡ true)
      (apart : (p : Packet) → Contains w.post p → (list : List Modify) (q : ReqNo) → p.body ≡ bodies.Stream (streams.MultiModify list q) → AllApart list) where
    -- it takes a packet, and what it builds is so
    module _ (taken : Packet) (sent : Contains w.post taken)
        (builds : (v : StreamSystem) (name : StreamName) → (not (stops_in w.manager_cell (catalog.manager_rule w.catalog taken taken.body).written) || stands_in w.manager_cell) ≡ true → IsListed w.catalog v.catalog.stream taken name → Builds v name) where
      abbrev o : Outcome Catalog
      o = catalog.manager_rule w.catalog taken taken.body

      born : (v : StreamSystem) → v.catalog.stream ≡ o.after.stream → (not (stops_in w.manager_cell o.written) || stands_in w.manager_cell) ≡ true → (name : StreamName) → IsIn v.catalog.stream name → IsIn w.catalog.stream name ⊎ ((name.range ≡ 0) ⊎ Builds v name)
      born v same written name there =
          elim ((manager_does w.catalog taken (creates taken sent) (apart taken sent) taken.body refl).born name (subst (λ (ss : Streams). IsIn ss name) same there)) [
            | inl old ↦ inl old
            | inr new ↦ elim new [ inl own ↦ inr (inl own) | inr listed ↦ inr (inr (builds v name written (subst (λ (ss : Streams). IsListed w.catalog ss taken name) (sym same) listed))) ]
          ]

      none_told : (v : StreamSystem) (p : Packet) → Contains (w.post ++ []) p → (q : ReqNo) → TellsBuilt q p.body → Contains w.post p ⊎ ((is_user p.to ≡ true) ⊎ HeardOf w.post v.catalog.stream q)
      none_told v p there q tells = elim (more_other [] tt p there) [ inl old ↦ inl old | inr other ↦ absurd (other_tells p q other tells) ]

      told_now : (v : StreamSystem) → v.catalog.stream ≡ o.after.stream → (p : Packet) → Contains (w.post ++ o.packets) p → (q : ReqNo) → TellsBuilt q p.body → Contains w.post p ⊎ ((is_user p.to ≡ true) ⊎ HeardOf w.post v.catalog.stream q)
      told_now v same p there q tells = elim (Contains-append_cases w.post o.packets p there) [
        | inl old ↦ inl old
        | inr new ↦
            elim (told_tells o.after.stream taken p q (each_has (λ (x : Packet). Told o.after.stream taken x.to x.body) o.packets p (manager_does w.catalog taken (creates taken sent) (apart taken sent) taken.body refl).tells new) tells) [
              | inl user ↦ inr (inl user)
              | inr hears ↦ inr (inr (record { taken = taken; sent = sent; hears = subst (λ (ss : Streams). HearsBuild ss taken q) (sym same) hears }))
            ]
      ]

      manager_brings : B (manager_performs w o)
      manager_brings =
          if_elim B (stops_in w.manager_cell o.written) _ _
          (λ s. if_elim B (stands_in w.manager_cell) _ _
          (λ t. record { told = none_told (manager_halted (after_manager_rule w (unsent o))); born = born (manager_halted (after_manager_rule w (unsent o))) refl (written s t) })
          (λ t. same_brings (manager_halted w) refl refl))
          (λ s. record {
            told = told_now (after_manager_rule (record w { manager_cell = burnt w.manager_cell o.written }) o) refl;
            born = born (after_manager_rule (record w { manager_cell = burnt w.manager_cell o.written }) o) refl (ap (λ b. not b || stands_in w.manager_cell) s);
          })
        where
          written : stops_in w.manager_cell o.written ≡ true → stands_in w.manager_cell ≡ true → (not (stops_in w.manager_cell o.written) || stands_in w.manager_cell) ≡ true
          written s t = ap (λ b. not b || stands_in w.manager_cell) s ∙ t

    delivered_brings : (taken : Packet) → Contains w.post taken → (to : ActorId) →
        (to ≡ Manager → w.manager_cell.up ≡ true → (v : StreamSystem) (name : StreamName) → (not (stops_in w.manager_cell (catalog.manager_rule w.catalog taken taken.body).written) || stands_in w.manager_cell) ≡ true →
        IsListed w.catalog v.catalog.stream taken name → Builds v name) → B (delivered w taken to)
    delivered_brings taken sent (Node n) builds =
        let e = table.extent_of taken.body in
        let o = table.node_rule n (w.replica n e) taken taken.body in
        if_elim B (w.cell n).up (node_performs w n e o) w (λ up. node_brings n e o (node_other n taken (w.replica n e) taken.body)) (λ up. same_brings w refl refl)
    delivered_brings taken sent Manager builds = if_elim B w.manager_cell.up _ w (λ up. manager_brings taken sent (builds refl up)) (λ up. same_brings w refl refl)
    delivered_brings taken sent Map builds = same_brings w refl refl
    delivered_brings taken sent (Server s) builds = same_brings w refl refl
    delivered_brings taken sent (User u) builds = same_brings w refl refl

    delivered_if_brings : (number : ℕ) (o : Option Packet) → slice_get w.post number ≡ o →
        ((taken : Packet) → slice_get w.post number ≡ Some taken → taken.to ≡ Manager → w.manager_cell.up ≡ true → (v : StreamSystem) (name : StreamName) →
        (not (stops_in w.manager_cell (catalog.manager_rule w.catalog taken taken.body).written) || stands_in w.manager_cell) ≡ true → IsListed w.catalog v.catalog.stream taken name → Builds v name) → B (delivered_if w o)
    delivered_if_brings number None is builds = same_brings w refl refl
    delivered_if_brings number (Some taken) is builds = delivered_brings taken (contains_get w.post number taken is) taken.to (builds taken is)

    stop_brings : (actor : ActorId) (call : ℕ) (keep : Bool) → B (stop w actor call keep)
    stop_brings (Node n) call keep =
        if_elim B (w.cell n).up (node_stops w n call keep) w (λ t. if_elim B (call == 0) (node_halted w n) _ (λ z. same_brings _ refl refl) (λ z. same_brings _ refl refl)) (λ t. same_brings w refl refl)
    stop_brings Manager call keep =
        if_elim B w.manager_cell.up (manager_stops w call keep) w (λ t. if_elim B (call == 0) (manager_halted w) _ (λ z. same_brings _ refl refl) (λ z. same_brings _ refl refl)) (λ t. same_brings w refl refl)
    stop_brings Map call keep = same_brings w refl refl
    stop_brings (Server s) call keep = same_brings w refl refl
    stop_brings (User u) call keep = same_brings w refl refl

    restart_brings : (actor : ActorId) → B (restart w actor)
    restart_brings (Node n) = if_elim B ((w.cell n).up || not (is_present w n)) w _ (λ t. same_brings w refl refl) (λ t. same_brings _ refl refl)
    restart_brings Manager = if_elim B w.manager_cell.up w _ (λ t. same_brings w refl refl) (λ t. same_brings _ refl refl)
    restart_brings Map = same_brings w refl refl
    restart_brings (Server s) = same_brings w refl refl
    restart_brings (User u) = same_brings w refl refl

    request_other : (body : Body) → is_request body ≡ true → OtherBody body
    request_other (bodies.Append (appends.Refused q refusal)) is = absurd cc
    request_other (bodies.Append body) is = tt
    request_other (bodies.Stream (streams.Modified q)) is = absurd cc
    request_other (bodies.Stream body) is = tt
    request_other body is = tt

    decides_brings : (e : ℕ) → B (manager_performs w (catalog.decide_rule w.catalog e (w.catalog.extent e)))
    decides_brings e =
        if_elim B (stops_in w.manager_cell _) _ _
        (λ s. if_elim B (stands_in w.manager_cell) _ _ (λ t. quiet_brings _ (decide_same w.catalog e (w.catalog.extent e)) (more_other [] tt)) (λ t. same_brings _ refl refl))
        (λ s. quiet_brings _ (decide_same w.catalog e (w.catalog.extent e)) (more_other _ (decide_other w.catalog (packet Map Map (bodies.Map (maps.Route [] requests.NoRequest))) (λ s fence q is. absurd cc) (λ list q is. absurd cc) e (w.catalog.extent e))))

    -- what comes of the deliveries to the manager is so
    event_brings : (event : Event) → ((v : StreamSystem) (name : StreamName) → BuildsName w event v name → Builds v name) → B (happens w event)
    event_brings (Submit user to body) builds =
        if_elim B (is_request body) _ w
        (λ t. quiet_brings (sent_more w (packet (User user) to body ∷ [])) refl (λ p there. elim (contains_pushed w.post (packet (User user) to body) p there) [ inl old ↦ inl old | inr same ↦ inr (subst (λ (x : Packet). OtherBody x.body) (sym same) (request_other body t)) ]))
        (λ t. same_brings w refl refl)
    event_brings (Deliver number) builds =
        delivered_if_brings number (slice_get w.post number) refl
        (λ taken at to up v name written listed. builds v name (record { number = number; delivers = refl; packet = taken; at = at; to = to; up = up; listed = listed; written = written }))
    event_brings (Stop actor call keep) builds = stop_brings actor call keep
    event_brings (Restart actor) builds = restart_brings actor
    event_brings (Decide e) builds = if_elim B w.manager_cell.up _ w (λ up. decides_brings e) (λ up. same_brings w refl refl)
    event_brings (GiveUp server range pick) builds = same_brings w refl refl
    event_brings (Assign range server until) builds = same_brings w refl refl
    event_brings (Renew range server until) builds = same_brings w refl refl
    event_brings (Moment now) builds = same_brings w refl refl
    event_brings (Checkpoint server range combine) builds = same_brings w refl refl
    event_brings (Split server range key) builds = same_brings w refl refl
    event_brings (Merge server one other) builds = same_brings w refl refl

-- the streams that an event of the stream layer brings
pub happens_brings : (w : StreamSystem) → ((p : Packet) → Contains w.post p → (s : StreamName) (fence : ℕ) (q : ReqNo) → p.body ≡ bodies.Stream (streams.CreateStream s fence q) → is_user p.from ≡ true) →
    ((p : Packet) → Contains w.post p → (list : List Modify) (q : ReqNo) → p.body ≡ bodies.Stream (streams.MultiModify list q) → AllApart list) → (event : Event) → Brings w (BuildsName w event) (happens w event)
happens_brings w creates apart event = event_brings w (BuildsName w event) creates apart event (λ v name b. b)
