-- A range that is gone stays so, and nothing of it is named that is above what was: neither where it was split or merged, nor where it was to
-- come and was dropped.
use Rattle.std.proofs.Common.{◌≡◌, ℕ, zero, suc, ◌+◌, ◌≤◌, ◌<◌, ◌^◌, Bool, true, false, ◌==◌, nat_lt, List, [], ◌∷◌, map, Option, Some, None, slice_get, refl, sym, ◌∙◌, subst, inl, inr, arith, if◌then◌else◌}
use Rattle.std.proofs.lemmas.Bool.{eqb-true}
use Rattle.std.proofs.lemmas.Option.{same_Some}
use Rattle.wire.specs.declared.actor.ActorId.{ActorId}
use Rattle.wire.specs.declared.actor.ReqNo.{ReqNo}
use Rattle.wire.specs.declared.body.Body.{Body}
use Rattle.wire.specs.declared.body.Body.TheVariants as bodies
use Rattle.wire.specs.declared.body.MapBody.{MapBody}
use Rattle.wire.specs.declared.body.MapBody.TheVariants as maps
use Rattle.wire.specs.declared.packet.Packet.{Packet}
use Rattle.wire.specs.declared.refusal.Refusal.{Refusal}
use Rattle.model_streams.specs.declared.event.Event.{Event}
use Rattle.model_streams.specs.declared.event.Event.TheVariants.{Submit, Deliver, Stop, Restart, Decide, GiveUp, Assign, Renew, Moment, Checkpoint, Split, Merge}
use Rattle.model_streams.specs.Outcome.{Outcome}
use Rattle.model_streams.proofs.Tests.{if_elim}
use Rattle.model_partition.specs.declared.pending.Pending.{Pending}
use Rattle.model_partition.specs.declared.pending.Pending.TheVariants as pendings
use Rattle.model_partition.specs.declared.range_entry.RangeEntry.{RangeEntry}
use Rattle.model_partition.specs.Map.{MapState, range_at, range_of_key, assigned, renewed, dropped_if, drop_pending, begin, halves_at, union_with, union_at}
use Rattle.model_partition.specs.MapRules.{assign_rule, renew_rule, has_numbers, begin_split_fault, begin_split_taken, begin_split_rule, complete_split_fault, complete_split_taken, complete_split_rule, begin_merge_fault, begin_merge_taken, begin_merge_rule, complete_merge_fault, complete_merge_rule, route_rule, called, told, map_rule}
use Rattle.model_partition.specs.Partition.{one_if, uses_pending, uses, IsSound}
use Rattle.model_partition.specs.Cluster.{IsUnmerged, AreUnmerged, Cluster, cluster_after, cluster_after_all, first_cluster}
use Rattle.model_partition.proofs.Numbers.{BeginsNothing, kept, dropped, fewer, used_once, one_begins, split_fewer, merge_fewer}
use Rattle.laws_streams.proofs.Choices.{contains_get}
use Rattle.laws_map.specs.Naming.{Each, Knowledge, MapNames, BodyNames, Names}
use Rattle.laws_map.specs.Generations.{EntryKnows, IsWithin, within, AreOnce, IsGone, upto, IsUpTo}
use Rattle.laws_map.proofs.Knowing.{AllName, Extends}
use Rattle.laws_map.proofs.EventNames.{RuleNames, AskedIn, RulesOf, names_on, event_goes}
use Rattle.laws_map.proofs.SoundMaps.{RuleLeaves, event_leaves}
use Rattle.laws_map.proofs.GivenNumbers.{below_next, entry_uses, entry_number, found_given}
use Rattle.laws_map.proofs.UsedNumbers.{MapUses, BodyUses, TellsUsed, used_at, assigns_nothing, renews_nothing, assign_uses, renew_uses, map_uses}
use Rattle.laws_map.proofs.WithinMaps.{assign_told, renew_told, map_told}
use Rattle.laws_map.proofs.GenerationsInRuns.{knowing_laws, more_asked, Governs, other_governs, asked_now, now_once, asks_now, names_now, split_governs, all_govern, first_governs}

module _ (range : ℕ) (m : MapState) (s : IsSound m) (gone : IsGone range m) where
  -- it stays gone
  abbrev Stays : Outcome MapState → Type 0
  Stays o = IsGone range o.after

  not_new : (n : ℕ) → m.next ≤ n → n ≡ range → ⊥
  not_new n above is = let below = gone.0 in absurd (omega (arith, above, below, is))

  not_once : (n : ℕ) → (n ≡ range → ⊥) → one_if (n == range) ≡ 0
  not_once n other = go (n == range) refl
    where
      go : (b : Bool) → (n == range) ≡ b → one_if b ≡ 0
      go true e = absurd (other (eqb-true n range e))
      go false e = refl

  called_stays : (p : Packet) (q : ReqNo) (fault : Option Refusal) (o : Outcome MapState) → Stays o → Stays (called m p q fault o)
  called_stays p q (Some refusal) o rule = gone
  called_stays p q None o rule = rule

  -- no more is used where a change begins nothing
  changed_stays : (change : RangeEntry → RangeEntry) → BeginsNothing change → (rs : List RangeEntry) → uses range rs ≡ 0 → uses range (map change rs) ≡ 0
  changed_stays change b rs none = let l = fewer change b range rs in omega (arith, l, none)

  assign_stays : (n server until : ℕ) (o : Option RangeEntry) → Stays (assign_rule m n server until o)
  assign_stays n server until None = gone
  assign_stays n server until (Some x) =
      if_elim Stays (nat_lt (suc x.generation) (2 ^ 64)) _ _
      (λ t. (gone.0, changed_stays _ (kept n (assigned server until) (assigns_nothing server until)) _ (changed_stays _ (dropped n) m.ranges gone.1)))
      (λ f. gone)

  renew_stays : (n server until : ℕ) (o : Option RangeEntry) → Stays (renew_rule m n server until o)
  renew_stays n server until None = gone
  renew_stays n server until (Some x) = (gone.0, changed_stays _ (kept n (renewed until) (renews_nothing until)) m.ranges gone.1)

  route_stays : (p : Packet) (q : ReqNo) (o : Option RangeEntry) → Stays (route_rule m p q o)
  route_stays p q None = gone
  route_stays p q (Some r) = gone

  -- nothing more of it is used where something else begins
  begins_gone : (n count : ℕ) (pending : Pending) (a : MapState) → a.next ≡ m.next → uses range a.ranges ≡ 0 → uses n a.ranges ≤ 1 → uses_pending range (Some pending) ≡ 0 → IsGone range (begin a n count pending)
  begins_gone n count pending a next none few unused = (
    (let below = gone.0 in omega (arith, below, next)),
    (
        let once = fewer (dropped_if n) (dropped n) n a.ranges in
        let all = fewer (dropped_if n) (dropped n) range a.ranges in
        let more = one_begins n pending range (map (dropped_if n) a.ranges) (omega (arith, once, few)) in
        omega (arith, more, all, none, unused)
        ),
  )

  begin_split_stays : (to : ActorId) (q : ReqNo) (n : ℕ) (key : List ℕ) (pair : Option (ℕ × ℕ)) → Stays (begin_split_taken m to q n key pair)
  begin_split_stays to q n key (Some pair) = gone
  begin_split_stays to q n key None =
      if_elim Stays (has_numbers m 2) _ _
      (λ t. begins_gone n 2 (pendings.Split key m.next (m.next + 1)) m refl gone.1 (used_once m s.fresh n)
      (let a = not_once m.next (not_new m.next (omega arith)) in let b = not_once (m.next + 1) (not_new (m.next + 1) (omega arith)) in omega (arith, a, b)))
      (λ f. gone)

  begin_split_rule_stays : (to : ActorId) (q : ReqNo) (n : ℕ) (key : List ℕ) (o : Option RangeEntry) → Stays (begin_split_rule m to q n key o)
  begin_split_rule_stays to q n key None = gone
  begin_split_rule_stays to q n key (Some x) = begin_split_stays to q n key (halves_at key x.pending)

  complete_split_stays : (to : ActorId) (q : ReqNo) (n : ℕ) (o : Option RangeEntry) → Stays (complete_split_rule m to q n o)
  complete_split_stays to q n None = gone
  complete_split_stays to q n (Some r) = by_pending r.pending
    where
      by_pending : (p : Option Pending) → Stays (complete_split_taken m to q n p)
      by_pending None = gone
      by_pending (Some (pendings.Merge right into)) = gone
      by_pending (Some (pendings.Split key low high)) = (gone.0, (let a = split_fewer range n m.ranges in let none = gone.1 in omega (arith, a, none)))

  begin_merge_stays : (to : ActorId) (q : ReqNo) (left right : ℕ) (into : Option ℕ) → Stays (begin_merge_taken m to q left right into)
  begin_merge_stays to q left right (Some into) = gone
  begin_merge_stays to q left right None =
      if_elim Stays (has_numbers m 1) _ _
      (λ t. begins_gone left 1 (pendings.Merge right m.next) (drop_pending m right) refl (changed_stays _ (dropped right) m.ranges gone.1)
      (let a = fewer (dropped_if right) (dropped right) left m.ranges in let once = used_once m s.fresh left in omega (arith, a, once)) (not_once m.next (not_new m.next (omega arith))))
      (λ f. gone)

  begin_merge_rule_stays : (to : ActorId) (q : ReqNo) (left right : ℕ) (l : Option RangeEntry) → Stays (begin_merge_rule m to q left right l)
  begin_merge_rule_stays to q left right None = gone
  begin_merge_rule_stays to q left right (Some l) = begin_merge_stays to q left right (union_with right l.pending)

  complete_merge_stays : (to : ActorId) (q : ReqNo) (left right : ℕ) (into : Option ℕ) → Stays (complete_merge_rule m to q left right into)
  complete_merge_stays to q left right None = gone
  complete_merge_stays to q left right (Some into) = (gone.0, (let a = merge_fewer range left right m.ranges in let none = gone.1 in omega (arith, a, none)))

  told_stays : (p : Packet) (body : MapBody) → Stays (told m p body)
  told_stays p (maps.Route key q) = route_stays p q (range_of_key m.ranges key)
  told_stays p (maps.BeginSplit n generation key q) = called_stays p q (begin_split_fault generation key (range_at m.ranges n)) _ (begin_split_rule_stays p.from q n key (range_at m.ranges n))
  told_stays p (maps.CompleteSplit n generation q) = called_stays p q (complete_split_fault generation (range_at m.ranges n)) _ (complete_split_stays p.from q n (range_at m.ranges n))
  told_stays p (maps.BeginMerge left a right b q) =
      called_stays p q (begin_merge_fault a b (range_at m.ranges left) (range_at m.ranges right)) _ (begin_merge_rule_stays p.from q left right (range_at m.ranges left))
  told_stays p (maps.CompleteMerge left a right b q) =
      called_stays p q (complete_merge_fault a b (range_at m.ranges left) (range_at m.ranges right) (union_at m.ranges left right)) _ (complete_merge_stays p.from q left right (union_at m.ranges left right))
  told_stays p body = gone

  map_stays : (p : Packet) (body : Body) → Stays (map_rule m p body)
  map_stays p (bodies.Map body) = told_stays p body
  map_stays p body = gone

-- ---- what is told of a range that is gone: nothing

module _ (range bound : ℕ) (asks : List Packet) (a : MapState) (gone : IsGone range a) where
  not_used : (n : ℕ) → 1 ≤ uses n a.ranges → n ≡ range → ⊥
  not_used n used is = let none : uses n a.ranges ≡ 0 = subst (λ k. uses k a.ranges ≡ 0) (sym is) gone.1 in absurd (omega (arith, used, none))

  map_tells : (body : MapBody) → MapNames (within a asks) body → MapUses a body → MapNames (upto range bound asks) body
  map_tells (maps.Assign n generation until) w u = λ is. absurd (not_used n u is)
  map_tells (maps.Renew n generation until) w u = λ is. absurd (not_used n u is)
  map_tells (maps.SplitBegun q low high) w u = record {
    range = w.range;
    generation = w.generation;
    key = w.key;
    asked = w.asked;
    low_known = λ is. absurd (not_used low u.0 is);
    high_known = λ is. absurd (not_used high u.1 is);
  }
  map_tells (maps.BeginSplit n generation key q) w u = absurd u
  map_tells (maps.CompleteSplit n generation q) w u = absurd u
  map_tells (maps.BeginMerge left b right g q) w u = absurd u
  map_tells (maps.CompleteMerge left b right g q) w u = absurd u
  map_tells body w u = tt

  body_tells : (body : Body) → BodyNames (within a asks) body → BodyUses a body → BodyNames (upto range bound asks) body
  body_tells (bodies.Map body) w u = map_tells body w u
  body_tells (bodies.Stream body) w u = absurd u
  body_tells body w u = tt

  all_tell : (ps : List Packet) → AllName (within a asks) ps → Each (λ (p : Packet). BodyUses a p.body) ps → AllName (upto range bound asks) ps
  all_tell [] w u = tt
  all_tell (p ∷ ps) w u = (body_tells p.body w.0 u.0, all_tell ps w.1 u.1)

same_knowledge : (K : Knowledge) → Extends K K
same_knowledge K = record { knows = λ n g k. k; assigned = λ n g k. k; asked = λ q n g key k. k; begun = λ q low high k. k; splits = λ n g key low high k. k; numbers = λ n k. k; merges = λ n g k. k }

-- a rule after which the range is gone tells nothing of it
rule_names : (range bound : ℕ) (asks : List Packet) (m : MapState) (o : Outcome MapState) → IsGone range o.after → RuleNames (λ a. within a asks) m o → TellsUsed o → RuleNames (λ a. upto range bound asks) m o
rule_names range bound asks m o gone w u = record { extends = same_knowledge (upto range bound asks); packets = all_tell range bound asks o.after gone o.packets w.packets u }

-- ---- events

module _ (range bound : ℕ) (c : Cluster) (g : Governs c) where
  -- what the rule of the map leaves has the range no more
  abbrev pub LeavesGone : Event → Type 0
  LeavesGone (Deliver number) = (p : Packet) → slice_get c.stream_layer.post number ≡ Some p → IsGone range (map_rule c.map p p.body).after
  LeavesGone (Assign n server until) = IsGone range (assign_rule c.map n server until (range_at c.map.ranges n)).after
  LeavesGone (Renew n server until) = IsGone range (renew_rule c.map n server until (range_at c.map.ranges n)).after
  LeavesGone event = Unit {0}

  -- with all that was asked by then
  module _ (asks : List Packet) (once : AreOnce asks) (w : Names (within c.map asks) c) (n : Names (upto range bound asks) c) where
    abbrev K : MapState → Knowledge
    K a = upto range bound asks

    rules : (event : Event) → LeavesGone event → RulesOf K c event
    rules (Deliver number) leaves = λ p at names.
        rule_names range bound asks c.map _ (leaves p at) (map_told asks c.map g.sound p (w.post p (contains_get c.stream_layer.post number p at))) (map_uses c.map g.sound p p.body)
    rules (Assign k server until) leaves =
        rule_names range bound asks c.map _ leaves (assign_told asks c.map g.sound k server until (range_at c.map.ranges k) refl) (assign_uses c.map g.sound k server until (range_at c.map.ranges k) refl)
    rules (Renew k server until) leaves =
        rule_names range bound asks c.map _ leaves (renew_told asks c.map g.sound k server until (range_at c.map.ranges k) refl) (renew_uses c.map g.sound k server until (range_at c.map.ranges k) refl)
    rules (Submit user to body) leaves = tt
    rules (Stop actor call keep) leaves = tt
    rules (Restart actor) leaves = tt
    rules (Decide e) leaves = tt
    rules (GiveUp server k pick) leaves = tt
    rules (Moment now) leaves = tt
    rules (Checkpoint server k combine) leaves = tt
    rules (Split server k key) leaves = tt
    rules (Merge server left right) leaves = tt

    event_upto : (event : Event) → LeavesGone event → AskedIn K c event → Names (upto range bound asks) (cluster_after c event)
    event_upto event leaves asked = event_goes K c (knowing_laws _ _ asks once) (λ e. omega arith) n event (rules event leaves) asked

  -- where the range is gone it stays gone
  module _ (gone : IsGone range c.map) where
    pub leaves_gone : (event : Event) → LeavesGone event
    leaves_gone (Deliver number) = λ p at. map_stays range c.map g.sound gone p p.body
    leaves_gone (Assign k server until) = assign_stays range c.map g.sound gone k server until (range_at c.map.ranges k)
    leaves_gone (Renew k server until) = renew_stays range c.map g.sound gone k server until (range_at c.map.ranges k)
    leaves_gone (Submit user to body) = tt
    leaves_gone (Stop actor call keep) = tt
    leaves_gone (Restart actor) = tt
    leaves_gone (Decide e) = tt
    leaves_gone (GiveUp server k pick) = tt
    leaves_gone (Moment now) = tt
    leaves_gone (Checkpoint server k combine) = tt
    leaves_gone (Split server k key) = tt
    leaves_gone (Merge server left right) = tt

    pub event_gone : (event : Event) → IsGone range (cluster_after c event).map
    event_gone event = event_leaves (IsGone range) c gone event (leaves event)
      where
        leaves : (event : Event) → RuleLeaves (IsGone range) c gone event
        leaves (Deliver number) = λ p at. map_stays range c.map g.sound gone p p.body
        leaves (Assign k server until) = assign_stays range c.map g.sound gone k server until (range_at c.map.ranges k)
        leaves (Renew k server until) = λ free. renew_stays range c.map g.sound gone k server until (range_at c.map.ranges k)
        leaves (Submit user to body) = tt
        leaves (Stop actor call keep) = tt
        leaves (Restart actor) = tt
        leaves (Decide e) = tt
        leaves (GiveUp server k pick) = tt
        leaves (Moment now) = tt
        leaves (Checkpoint server k combine) = tt
        leaves (Split server k key) = tt
        leaves (Merge server left right) = tt

-- ---- what was named before it went

-- Where the map has a range under a generation, or is to have it from one of that generation, nothing above that is named.
pub bounded : (range bound : ℕ) (m : MapState) (asks : List Packet) → ((g : ℕ) → IsWithin m range g → g ≤ bound) → Extends (within m asks) (upto range bound asks)
bounded range bound m asks less = record {
  knows = known;
  assigned = known;
  asked = λ q n g key k. k;
  begun = λ q low high k. record { range = k.range; generation = k.generation; key = k.key; asked = k.asked; low_known = known low k.generation k.low_known; high_known = known high k.generation k.high_known };
  splits = λ n g key low high k. (known low g k.0, known high g k.1);
  numbers = λ n k. tt;
  merges = known;
}
  where
    known : (n g : ℕ) → IsWithin m n g → n ≡ range → g ≤ bound
    known n g k is = less g (subst (λ j. IsWithin m j g) is k)

pub found_knows : (P : RangeEntry → Type 0) (range : ℕ) (rs : List RangeEntry) (x : RangeEntry) → Each P rs → range_at rs range ≡ Some x → P x
found_knows P range [] x each at = absurd cc
found_knows P range (r ∷ rs) x each at = go (r.range == range) at (λ more. found_knows P range rs x each.1 more)
  where
    go : (b : Bool) → (if b then Some r else range_at rs range) ≡ Some x → (range_at rs range ≡ Some x → P x) → P x
    go true at rest = subst P (same_Some r x at) each.0
    go false at rest = rest at

-- of a range that the map has, no generation above its entry's is named
pub entry_bounds : (m : MapState) (range : ℕ) (x : RangeEntry) → range_at m.ranges range ≡ Some x → (g : ℕ) → IsWithin m range g → g ≤ x.generation
entry_bounds m range x at g k = (found_knows (EntryKnows range g) range m.ranges x k.entries at).0 (entry_number range m.ranges x at)

-- of one that it is to have, none above that of the entry which is to become it
pub pending_bounds : (m : MapState) (range here : ℕ) (x : RangeEntry) → range_at m.ranges here ≡ Some x → 1 ≤ uses_pending range x.pending → (g : ℕ) → IsWithin m range g → g ≤ x.generation
pending_bounds m range here x at used g k = elim (found_knows (EntryKnows range g) here m.ranges x k.entries at).1 [ inl none ↦ absurd (omega (arith, none, used)) | inr less ↦ less ]

-- ---- events, and all that was asked for

-- All that is named of a range is at most the bound, of a cluster of which so much is known.
pub record BoundsGone (range bound : ℕ) (c : Cluster) : Type 0 where
  pub governs : Governs c
  pub names : Names (upto range bound governs.asks) c

module _ (range bound : ℕ) (c : Cluster) (h : BoundsGone range bound c) where
  abbrev g : Governs c
  g = h.governs

  other_bounds : (event : Event) (other : (s k : ℕ) (key : List ℕ) → event ≡ Split s k key → ⊥) → IsUnmerged event → LeavesGone range bound c g event → BoundsGone range bound (cluster_after c event)
  unfolding other_governs
  other_bounds event other unmerged leaves = record {
    governs = other_governs c event other unmerged g;
    names = event_upto range bound c g g.asks g.once g.names h.names event leaves (nothing event other unmerged);
  }
    where
      nothing : (event : Event) → ((s k : ℕ) (key : List ℕ) → event ≡ Split s k key → ⊥) → IsUnmerged event → AskedIn (λ a. upto range bound g.asks) c event
      nothing (Split s k key) other unmerged = absurd (other s k key refl)
      nothing (Submit user to body) other unmerged = tt
      nothing (Deliver number) other unmerged = tt
      nothing (Stop actor call keep) other unmerged = tt
      nothing (Restart actor) other unmerged = tt
      nothing (Decide e) other unmerged = tt
      nothing (GiveUp server k pick) other unmerged = tt
      nothing (Assign k server until) other unmerged = tt
      nothing (Renew k server until) other unmerged = tt
      nothing (Moment now) other unmerged = tt
      nothing (Checkpoint server k combine) other unmerged = tt
      nothing (Merge server left right) other unmerged = absurd unmerged

  split_bounds : (s k : ℕ) (key : List ℕ) → BoundsGone range bound (cluster_after c (Split s k key))
  unfolding split_governs
  split_bounds s k key = record {
    governs = split_governs c s k key g;
    names = event_upto range bound c g (asked_now c s k key g) (now_once c s k key g) (names_now c s k key g)
        (names_on (upto range bound g.asks) (upto range bound (asked_now c s k key g)) (more_asked (λ n generation. n ≡ range → generation ≤ bound) (λ n. Unit {0}) g.asks _) c h.names) (Split s k key) tt
        (λ cell at st is r sent. asks_now c s k key g cell at st is r sent);
  }

  event_bounds : (event : Event) → IsUnmerged event → LeavesGone range bound c g event → BoundsGone range bound (cluster_after c event)
  event_bounds (Split s k key) unmerged leaves = split_bounds s k key
  event_bounds (Submit user to body) unmerged leaves = other_bounds (Submit user to body) (λ s k key e. absurd cc) tt leaves
  event_bounds (Deliver number) unmerged leaves = other_bounds (Deliver number) (λ s k key e. absurd cc) tt leaves
  event_bounds (Stop actor call keep) unmerged leaves = other_bounds (Stop actor call keep) (λ s k key e. absurd cc) tt leaves
  event_bounds (Restart actor) unmerged leaves = other_bounds (Restart actor) (λ s k key e. absurd cc) tt leaves
  event_bounds (Decide e) unmerged leaves = other_bounds (Decide e) (λ s k key e. absurd cc) tt leaves
  event_bounds (GiveUp server k pick) unmerged leaves = other_bounds (GiveUp server k pick) (λ s k key e. absurd cc) tt leaves
  event_bounds (Assign k server until) unmerged leaves = other_bounds (Assign k server until) (λ s k key e. absurd cc) tt leaves
  event_bounds (Renew k server until) unmerged leaves = other_bounds (Renew k server until) (λ s k key e. absurd cc) tt leaves
  event_bounds (Moment now) unmerged leaves = other_bounds (Moment now) (λ s k key e. absurd cc) tt leaves
  event_bounds (Checkpoint server k combine) unmerged leaves = other_bounds (Checkpoint server k combine) (λ s k key e. absurd cc) tt leaves
  event_bounds (Merge server left right) unmerged leaves = absurd unmerged

-- Once it is gone it stays so, and nothing above the bound is ever named of it.
pub gone_for_ever : (range bound : ℕ) (events : List Event) → AreUnmerged events → (c : Cluster) → BoundsGone range bound c → IsGone range c.map → BoundsGone range bound (cluster_after_all c events) × IsGone range (cluster_after_all c events).map
gone_for_ever range bound [] are c h gone = (h, gone)
gone_for_ever range bound (event ∷ events) are c h gone =
    gone_for_ever range bound events are.1 (cluster_after c event) (event_bounds range bound c h event are.0 (leaves_gone range bound c h.governs gone event)) (event_gone range bound c h.governs gone event)

-- ---- the event at which it goes

module _ (range bound : ℕ) (c : Cluster) (g : Governs c) (given : range < c.map.next) (used : 1 ≤ uses range c.map.ranges) (less : (h : ℕ) → IsWithin c.map range h → h ≤ bound) where
  abbrev IsUsed : MapState → Type 0
  IsUsed a = 1 ≤ uses range a.ranges

  here : BoundsGone range bound c
  here = record { governs = g; names = names_on (within c.map g.asks) (upto range bound g.asks) (bounded range bound c.map g.asks less) c g.names }

  -- what a rule leaves, if it leaves the range used, leaves it so in the cluster
  gone_or_used : (a : MapState) → range < a.next → (IsUsed a → ⊥) → IsGone range a
  gone_or_used a next none = (next, zero_or (uses range a.ranges) refl)
    where
      zero_or : (n : ℕ) → uses range a.ranges ≡ n → uses range a.ranges ≡ 0
      zero_or zero is = is
      zero_or (suc n) is = absurd (none (omega (arith, is)))

  not_both : (event : Event) → IsGone range (cluster_after c event).map → IsUsed (cluster_after c event).map → ⊥
  not_both event gone still = let none = gone.1 in absurd (omega (arith, still, none))

  pub leaves : (event : Event) → IsGone range (cluster_after c event).map → LeavesGone range bound c g event
  leaves (Deliver number) gone = λ p at.
      gone_or_used (map_rule c.map p p.body).after ((map_told g.asks c.map g.sound p (g.names.post p (contains_get c.stream_layer.post number p at))).extends.numbers range given)
      (λ still. not_both (Deliver number) gone
      (event_leaves IsUsed c used (Deliver number) (λ q there. subst (λ (x : Packet). IsUsed (map_rule c.map x x.body).after) (same_Some p q (sym at ∙ there)) still)))
  leaves (Assign k server until) gone =
      gone_or_used (assign_rule c.map k server until (range_at c.map.ranges k)).after ((assign_told g.asks c.map g.sound k server until (range_at c.map.ranges k) refl).extends.numbers range given)
      (λ still. not_both (Assign k server until) gone (event_leaves IsUsed c used (Assign k server until) still))
  leaves (Renew k server until) gone =
      gone_or_used (renew_rule c.map k server until (range_at c.map.ranges k)).after ((renew_told g.asks c.map g.sound k server until (range_at c.map.ranges k) refl).extends.numbers range given)
      (λ still. not_both (Renew k server until) gone (event_leaves IsUsed c used (Renew k server until) (λ free. still)))
  leaves (Submit user to body) gone = tt
  leaves (Stop actor call keep) gone = tt
  leaves (Restart actor) gone = tt
  leaves (Decide e) gone = tt
  leaves (GiveUp server k pick) gone = tt
  leaves (Moment now) gone = tt
  leaves (Checkpoint server k combine) gone = tt
  leaves (Split server k key) gone = tt
  leaves (Merge server left right) gone = tt

  -- Where it is gone after an event, nothing is named of it that is above what the map had of it.
  pub goes_bounded : (event : Event) → IsUnmerged event → IsGone range (cluster_after c event).map → BoundsGone range bound (cluster_after c event)
  goes_bounded event unmerged gone = event_bounds range bound c here event unmerged (leaves event gone)

-- ---- runs

upto_of : (range bound : ℕ) (c : Cluster) → BoundsGone range bound c → IsUpTo range bound c
upto_of range bound c h = record { asks = h.governs.asks; sent = h.governs.sent; once = h.governs.once; names = h.names }

-- A range that the map has under a generation, and does not have after the next event, it never has again, and nobody ever names it under a
-- generation above that one.
pub run_loses_range : (nodes servers target batch : ℕ) (events : List Event) (event : Event) (later : List Event) (range : ℕ) (x : RangeEntry) →
    AreUnmerged events → IsUnmerged event → AreUnmerged later → range_at (cluster_after_all (first_cluster nodes servers target batch) events).map.ranges range ≡ Some x →
    IsGone range (cluster_after (cluster_after_all (first_cluster nodes servers target batch) events) event).map →
    IsGone range (cluster_after_all (cluster_after (cluster_after_all (first_cluster nodes servers target batch) events) event) later).map
    × IsUpTo range x.generation (cluster_after_all (cluster_after (cluster_after_all (first_cluster nodes servers target batch) events) event) later)
run_loses_range nodes servers target batch events event later range x are is will at gone =
    let c : Cluster = cluster_after_all (first_cluster nodes servers target batch) events in
    let g : Governs c = all_govern events are (first_cluster nodes servers target batch) (first_governs nodes servers target batch) in
    let b = goes_bounded range x.generation c g (found_given c.map g.sound range x at) (used_at range c.map.ranges x at) (entry_bounds c.map range x at) event is gone in
    let f = gone_for_ever range x.generation later will (cluster_after c event) b gone in
    (f.1, upto_of range x.generation _ f.0)

-- So it is with a range that it was to have, of one under that generation.
pub run_drops_range : (nodes servers target batch : ℕ) (events : List Event) (event : Event) (later : List Event) (range at : ℕ) (x : RangeEntry) →
    AreUnmerged events → IsUnmerged event → AreUnmerged later → range_at (cluster_after_all (first_cluster nodes servers target batch) events).map.ranges at ≡ Some x → 1 ≤ uses_pending range x.pending →
    IsGone range (cluster_after (cluster_after_all (first_cluster nodes servers target batch) events) event).map →
    IsGone range (cluster_after_all (cluster_after (cluster_after_all (first_cluster nodes servers target batch) events) event) later).map
    × IsUpTo range x.generation (cluster_after_all (cluster_after (cluster_after_all (first_cluster nodes servers target batch) events) event) later)
run_drops_range nodes servers target batch events event later range at x are is will found pending gone =
    let c : Cluster = cluster_after_all (first_cluster nodes servers target batch) events in
    let g : Governs c = all_govern events are (first_cluster nodes servers target batch) (first_governs nodes servers target batch) in
    let l = entry_uses range at c.map.ranges x found in
    let used : 1 ≤ uses range c.map.ranges = omega (arith, l, pending) in
    let b = goes_bounded range x.generation c g (below_next c.map range g.sound.fresh used) used (pending_bounds c.map range at x found pending) event is gone in
    let f = gone_for_ever range x.generation later will (cluster_after c event) b gone in
    (f.1, upto_of range x.generation _ f.0)
