-- In a run without merges, once a split of a range is shown, nothing of the range is ever shown under a generation above the one of the split, and
-- nothing of the two that the split makes under that one or a lower.
use Rattle.std.proofs.Common.{◌≡◌, ℕ, suc, ◌≤◌, ◌<◌, ◌^◌, true, false, not, nat_lt, List, [], ◌∷◌, ◌++◌, Option, Some, None, Contains, refl, sym, ap, ◌∙◌, subst, inl, inr, arith}
use Rattle.wire.specs.declared.actor.ActorId.{ActorId}
use Rattle.wire.specs.declared.actor.ReqNo.{ReqNo}
use Rattle.wire.specs.declared.body.Body.{Body}
use Rattle.wire.specs.declared.body.Body.TheVariants as bodies
use Rattle.wire.specs.declared.body.MapBody.{MapBody}
use Rattle.wire.specs.declared.body.MapBody.TheVariants as maps
use Rattle.wire.specs.declared.note.Note.{Note}
use Rattle.wire.specs.declared.note.Note.TheVariants as notes
use Rattle.wire.specs.declared.packet.Packet.{Packet}
use Rattle.wire.specs.declared.refusal.Refusal.{Refusal}
use Rattle.wire.specs.declared.refusal.Refusal.TheVariants.{NotOwner}
use Rattle.model_streams.specs.declared.event.Event.{Event}
use Rattle.model_streams.specs.declared.event.Event.TheVariants.{Submit, Deliver, Stop, Restart, Decide, GiveUp, Assign, Renew, Moment, Checkpoint, Split, Merge}
use Rattle.model_streams.specs.Outcome.{Outcome}
use Rattle.model_streams.proofs.Tests.{if_elim, none_met}
use Rattle.model_partition.specs.declared.pending.Pending.{Pending}
use Rattle.model_partition.specs.declared.pending.Pending.TheVariants as pendings
use Rattle.model_partition.specs.declared.range_entry.RangeEntry.{RangeEntry}
use Rattle.model_partition.specs.Map.{MapState, range_at, range_of_key, halves_at, union_with, union_at}
use Rattle.model_partition.specs.MapRules.{is_holder, assign_rule, renew_fault, renew_rule, has_numbers, begin_split_fault, begin_split_taken, begin_split_rule, complete_split_fault, complete_split_taken, complete_split_rule, begin_merge_fault, begin_merge_taken, begin_merge_rule, complete_merge_fault, complete_merge_rule, route_rule, called, told, map_rule}
use Rattle.model_partition.specs.Partition.{uses_pending, uses}
use Rattle.model_partition.specs.Cluster.{IsUnmerged, AreUnmerged, Cluster, map_performs_if, cluster_after, cluster_after_all, first_cluster}
use Rattle.model_partition.proofs.Numbers.{used_once}
use Rattle.model_histories.specs.Log.{is_of}
use Rattle.model_histories.specs.ServerRun.{ServerRun, ServerEvent, run_of}
use Rattle.laws_streams.proofs.Choices.{contains_get}
use Rattle.laws_tables.specs.Families.{generation_of}
use Rattle.laws_map.specs.Naming.{Knowledge, Names}
use Rattle.laws_map.specs.Generations.{IsWithin, within, IsGone}
use Rattle.laws_map.specs.Assigned.{IsNone, IsSettled, assigning, AreSettled}
use Rattle.laws_map.proofs.EventNames.{RuleNames, MapLaws, AskedIn, names_on, event_goes, event_keeps}
use Rattle.laws_map.proofs.GenerationsInRuns.{Governs, event_governs, first_governs}
use Rattle.laws_map.proofs.GivenNumbers.{self_used, entry_uses, entry_number, below_next, found_given, first_cells}
use Rattle.laws_map.proofs.GoneRanges.{event_gone, found_knows, entry_bounds}
use Rattle.laws_map.proofs.Knowing.{AllName, Extends}
use Rattle.laws_map.proofs.PostStays.{stays_in_post}
use Rattle.laws_map.proofs.SoundMaps.{RuleLeaves, event_leaves}
use Rattle.laws_map.proofs.SplitNames.{Laws}
use Rattle.laws_map.proofs.Unassigned.{assign_settles, renew_settles, map_settles}
use Rattle.laws_map.proofs.UsedNumbers.{used_at}
use Rattle.laws_map.proofs.WithinMaps.{assign_told, renew_told, map_told}
use Rattle.laws_clusters.specs.ServerEvents.{server_events, server_events_after}
use Rattle.laws_clusters.proofs.AboveSplit.{IsOver, EntryOver, IsAbove, event_above, split_over, split_gone}
use Rattle.laws_clusters.proofs.ShownNotes.{notes_of, CompletesSplit, Adds, Goes}
use Rattle.laws_clusters.proofs.ShownNotes as shown
use Rattle.laws_clusters.proofs.NoteGenerations.{AllNoted, held_by_names, noted_weaker, adds_noted, adds_split}

-- ---- leases alone

-- of each lease that is named it is so, by its range and its generation, and of nothing else is anything said
abbrev pub leasing : (ℕ → ℕ → Type 0) → Knowledge
leasing P =
    record {
      knows = λ range generation. Unit {0};
      assigned = P;
      asked = λ q range generation key. Unit {0};
      begun = λ q low high. Unit {0};
      splits = λ range generation key low high. Unit {0};
      numbers = λ range. Unit {0};
      merges = λ range generation. Unit {0};
    }

module _ (P : ℕ → ℕ → Type 0) where
  leasing_laws : Laws (leasing P)
  leasing_laws = record {
    leased = λ range generation k. tt;
    tells = λ q w range generation key low high a same b. tt;
    low = λ range generation key low high k. tt;
    high = λ range generation key low high k. tt;
  }

  same_leases : Extends (leasing P) (leasing P)
  same_leases = record { knows = λ n g k. k; assigned = λ n g k. k; asked = λ q n g key k. k; begun = λ q low high k. k; splits = λ n g key low high k. k; numbers = λ n k. k; merges = λ n g k. k }

  -- to a packet the map answers with no lease
  module _ (m : MapState) where
    abbrev Answers : Outcome MapState → Type 0
    Answers o = AllName (leasing P) o.packets

    called_answers : (p : Packet) (q : ReqNo) (fault : Option Refusal) (o : Outcome MapState) → Answers o → Answers (called m p q fault o)
    called_answers p q (Some refusal) o a = (tt, tt)
    called_answers p q None o a = a

    route_answers : (p : Packet) (q : ReqNo) (o : Option RangeEntry) → Answers (route_rule m p q o)
    route_answers p q None = tt
    route_answers p q (Some r) = (tt, tt)

    begin_split_answers : (to : ActorId) (q : ReqNo) (n : ℕ) (key : List ℕ) (pair : Option (ℕ × ℕ)) → Answers (begin_split_taken m to q n key pair)
    begin_split_answers to q n key (Some pair) = (tt, tt)
    begin_split_answers to q n key None = if_elim Answers (has_numbers m 2) _ _ (λ t. (tt, tt)) (λ f. tt)

    begin_split_rule_answers : (to : ActorId) (q : ReqNo) (n : ℕ) (key : List ℕ) (o : Option RangeEntry) → Answers (begin_split_rule m to q n key o)
    begin_split_rule_answers to q n key None = tt
    begin_split_rule_answers to q n key (Some x) = begin_split_answers to q n key (halves_at key x.pending)

    complete_split_answers : (to : ActorId) (q : ReqNo) (n : ℕ) (o : Option RangeEntry) → Answers (complete_split_rule m to q n o)
    complete_split_answers to q n None = tt
    complete_split_answers to q n (Some r) = by_pending r.pending
      where
        by_pending : (p : Option Pending) → Answers (complete_split_taken m to q n p)
        by_pending None = tt
        by_pending (Some (pendings.Merge right into)) = tt
        by_pending (Some (pendings.Split key low high)) = (tt, tt)

    begin_merge_answers : (to : ActorId) (q : ReqNo) (left right : ℕ) (into : Option ℕ) → Answers (begin_merge_taken m to q left right into)
    begin_merge_answers to q left right (Some into) = (tt, tt)
    begin_merge_answers to q left right None = if_elim Answers (has_numbers m 1) _ _ (λ t. (tt, tt)) (λ f. tt)

    begin_merge_rule_answers : (to : ActorId) (q : ReqNo) (left right : ℕ) (l : Option RangeEntry) → Answers (begin_merge_rule m to q left right l)
    begin_merge_rule_answers to q left right None = tt
    begin_merge_rule_answers to q left right (Some l) = begin_merge_answers to q left right (union_with right l.pending)

    complete_merge_answers : (to : ActorId) (q : ReqNo) (left right : ℕ) (into : Option ℕ) → Answers (complete_merge_rule m to q left right into)
    complete_merge_answers to q left right None = tt
    complete_merge_answers to q left right (Some into) = (tt, tt)

    told_answers : (p : Packet) (body : MapBody) → Answers (told m p body)
    told_answers p (maps.Route key q) = route_answers p q (range_of_key m.ranges key)
    told_answers p (maps.BeginSplit n generation key q) = called_answers p q (begin_split_fault generation key (range_at m.ranges n)) _ (begin_split_rule_answers p.from q n key (range_at m.ranges n))
    told_answers p (maps.CompleteSplit n generation q) = called_answers p q (complete_split_fault generation (range_at m.ranges n)) _ (complete_split_answers p.from q n (range_at m.ranges n))
    told_answers p (maps.BeginMerge left a right b q) =
        called_answers p q (begin_merge_fault a b (range_at m.ranges left) (range_at m.ranges right)) _ (begin_merge_rule_answers p.from q left right (range_at m.ranges left))
    told_answers p (maps.CompleteMerge left a right b q) =
        called_answers p q (complete_merge_fault a b (range_at m.ranges left) (range_at m.ranges right) (union_at m.ranges left right)) _ (complete_merge_answers p.from q left right (union_at m.ranges left right))
    told_answers p body = tt

    map_answers : (p : Packet) (body : Body) → Answers (map_rule m p body)
    map_answers p (bodies.Map body) = told_answers p body
    map_answers p body = tt

  answered_names : (m : MapState) (p : Packet) → RuleNames (λ a. leasing P) m (map_rule m p p.body)
  answered_names m p = record { extends = same_leases; packets = map_answers m p p.body }

-- ---- a bound that the map keeps

-- While the map is so, it gives each lease under such a generation, and whatever happens it is so still.
pub record IsBound (P : ℕ → ℕ → Type 0) (Q : MapState → Type 0) : Type 0 where
  pub stays : (c : Cluster) → Governs c → (event : Event) → Q c.map → Q (cluster_after c event).map
  pub assigns : (m : MapState) → Q m → (n : ℕ) (x : RangeEntry) → range_at m.ranges n ≡ Some x → P n (suc x.generation)
  pub renews : (m : MapState) → Q m → (n server : ℕ) (x : RangeEntry) → range_at m.ranges n ≡ Some x → renew_fault server (Some x) ≡ None → P n x.generation

-- The map is so, and each lease and each observation of a range is under such a generation.
pub record Stands (P : ℕ → ℕ → Type 0) (Q : MapState → Type 0) (c : Cluster) : Type 0 where
  pub map : Q c.map
  pub names : Names (leasing P) c
  pub noted : AllNoted P (notes_of c)

module _ (P : ℕ → ℕ → Type 0) (Q : MapState → Type 0) (c : Cluster) where
  abbrev K : MapState → Knowledge
  K a = leasing P

  abbrev Named : Cluster → Type 0
  Named d = Names (leasing P) d

  asks_nothing : (event : Event) → IsUnmerged event → AskedIn K c event
  asks_nothing (Split s range key) unmerged = λ cell at st is r sent. tt
  asks_nothing (Merge server left right) unmerged = absurd unmerged
  asks_nothing event unmerged = tt

  -- a delivery names no new lease
  delivery_names : (number : ℕ) → Named c → Named (cluster_after c (Deliver number))
  delivery_names number n = event_goes K c (leasing_laws P) tt n (Deliver number) (λ p at names. answered_names P c.map p) tt

  module _ (bound : IsBound P Q) (s : Stands P Q c) where
    assign_names : (range server until : ℕ) (o : Option RangeEntry) → range_at c.map.ranges range ≡ o → RuleNames K c.map (assign_rule c.map range server until o)
    assign_names range server until None at = record { extends = same_leases P; packets = tt }
    assign_names range server until (Some x) at =
        if_elim (RuleNames K c.map) (nat_lt (suc x.generation) (2 ^ 64)) _ _
        (λ t. record { extends = same_leases P; packets = (bound.assigns c.map s.map range x at, tt) }) (λ f. record { extends = same_leases P; packets = tt })

    renew_names : (range server until : ℕ) (o : Option RangeEntry) → range_at c.map.ranges range ≡ o → renew_fault server o ≡ None → RuleNames K c.map (renew_rule c.map range server until o)
    renew_names range server until None at free = record { extends = same_leases P; packets = tt }
    renew_names range server until (Some x) at free = record { extends = same_leases P; packets = (bound.renews c.map s.map range server x at free, tt) }

    renewal_names : (range server until : ℕ) (fault : Option Refusal) → renew_fault server (range_at c.map.ranges range) ≡ fault → Named (cluster_after c (Renew range server until))
    renewal_names range server until None is = event_goes K c (leasing_laws P) tt s.names (Renew range server until) (renew_names range server until (range_at c.map.ranges range) refl is) tt
    renewal_names range server until (Some refusal) is =
        if_elim Named c.map_cell.up _ _
        (λ up. subst (λ (f : Option Refusal). Named (map_performs_if c f (renew_rule c.map range server until (range_at c.map.ranges range)))) (sym is) s.names) (λ up. s.names)

    event_names : (event : Event) → IsUnmerged event → Named (cluster_after c event)
    event_names (Deliver number) unmerged = delivery_names number s.names
    event_names (Assign range server until) unmerged =
        event_goes K c (leasing_laws P) tt s.names (Assign range server until) (assign_names range server until (range_at c.map.ranges range) refl) tt
    event_names (Renew range server until) unmerged = renewal_names range server until (renew_fault server (range_at c.map.ranges range)) refl
    event_names (Submit user to body) unmerged = event_goes K c (leasing_laws P) tt s.names (Submit user to body) tt tt
    event_names (Stop actor call keep) unmerged = event_goes K c (leasing_laws P) tt s.names (Stop actor call keep) tt tt
    event_names (Restart actor) unmerged = event_goes K c (leasing_laws P) tt s.names (Restart actor) tt tt
    event_names (Decide e) unmerged = event_goes K c (leasing_laws P) tt s.names (Decide e) tt tt
    event_names (GiveUp server range pick) unmerged = event_goes K c (leasing_laws P) tt s.names (GiveUp server range pick) tt tt
    event_names (Moment now) unmerged = event_goes K c (leasing_laws P) tt s.names (Moment now) tt tt
    event_names (Checkpoint server range combine) unmerged = event_goes K c (leasing_laws P) tt s.names (Checkpoint server range combine) tt tt
    event_names (Split server range key) unmerged = event_goes K c (leasing_laws P) tt s.names (Split server range key) tt (asks_nothing (Split server range key) tt)
    event_names (Merge server left right) unmerged = absurd unmerged

    pub stands_on : (x : ServerRun) → c.servers ≡ x.servers → Governs c → (event : Event) → IsUnmerged event → Adds x c event (cluster_after c event) → Stands P Q (cluster_after c event)
    stands_on x same g event unmerged adds = record {
      map = bound.stays c g event s.map;
      names = event_names event unmerged;
      noted = adds_noted P x c event (cluster_after c event) same (held_by_names (leasing P) c s.names) s.noted adds;
    }

  -- it begins with a delivery
  stands_first : (x : ServerRun) → c.servers ≡ x.servers → (number : ℕ) → Named c → AllNoted P (notes_of c) → Q (cluster_after c (Deliver number)).map → Adds x c (Deliver number) (cluster_after c (Deliver number)) →
      Stands P Q (cluster_after c (Deliver number))
  stands_first x same number n all q adds = record {
    map = q;
    names = delivery_names number n;
    noted = adds_noted P x c (Deliver number) (cluster_after c (Deliver number)) same (held_by_names (leasing P) c n) all adds;
  }

-- ---- the two bounds

-- of this range the generation is at most this one
abbrev pub AtMost : ℕ → ℕ → ℕ → ℕ → Type 0
AtMost range bound r g = r ≡ range → g ≤ bound

-- of this range it is above this one
abbrev pub MoreThan : ℕ → ℕ → ℕ → ℕ → Type 0
MoreThan range bound r g = r ≡ range → bound < g

gone_bounds : (range bound : ℕ) → IsBound (AtMost range bound) (IsGone range)
gone_bounds range bound = record {
  stays = λ c g event gone. event_gone range 0 c g gone event;
  assigns = λ m gone n x at is. absurd (not_there m gone n x at is);
  renews = λ m gone n server x at free is. absurd (not_there m gone n x at is);
}
  where
    not_there : (m : MapState) → IsGone range m → (n : ℕ) (x : RangeEntry) → range_at m.ranges n ≡ Some x → n ≡ range → ⊥
    not_there m gone n x at is = absurd (let none : uses n m.ranges ≡ 0 = subst (λ k. uses k m.ranges ≡ 0) (sym is) gone.1 in let used = used_at n m.ranges x at in omega (arith, none, used))

pub above_bounds : (range bound : ℕ) → IsBound (MoreThan range bound) (IsAbove range bound)
above_bounds range bound = record {
  stays = λ c g event a. event_above range bound c event a;
  assigns = λ m a n x at is. higher x (over m a n x at is);
  renews = λ m a n server x at free is. held server x (none_met ((NotOwner, not (is_holder x.holder server)) ∷ []) free).0 (over m a n x at is);
}
  where
    over : (m : MapState) → IsAbove range bound m → (n : ℕ) (x : RangeEntry) → range_at m.ranges n ≡ Some x → n ≡ range → IsOver bound x
    over m a n x at is = (found_knows (EntryOver range bound) n m.ranges x a.entries at).1 (entry_number n m.ranges x at ∙ is)

    higher : (x : RangeEntry) → IsOver bound x → bound < suc x.generation
    higher x (inl less) = omega (arith, less)
    higher x (inr same) = let e = same.0 in omega (arith, e)

    held : (server : ℕ) (x : RangeEntry) → not (is_holder x.holder server) ≡ false → IsOver bound x → bound < x.generation
    held server x free (inl less) = less
    held server x free (inr same) = absurd (let z : true ≡ false = sym (ap (λ h. not (is_holder h server)) same.1) ∙ free in cc)

-- ---- splits that are shown

-- A split of a range that was done: who asked for it knew this generation, all that is ever told of the range is of at most this one, and all of
-- the two is above it.
pub record IsBoundedBy (c : Cluster) (range low high generation : ℕ) : Type 0 where
  pub packet : Packet
  pub request : ReqNo
  pub sent : Contains c.stream_layer.post packet
  pub asked : packet.body ≡ bodies.Map (maps.CompleteSplit range generation request)
  pub parent : Stands (AtMost range generation) (IsGone range) c
  pub low_child : Stands (MoreThan low generation) (IsAbove low generation) c
  pub high_child : Stands (MoreThan high generation) (IsAbove high generation) c

abbrev pub IsBounded : Cluster → (range low high : ℕ) → Type 0
IsBounded c range low high = (generation : ℕ) × IsBoundedBy c range low high generation

-- it was assigned, and the entry of the map is not behind it
abbrev pub IsLeased : MapState → ℕ → ℕ → Type 0
IsLeased m r g = IsWithin m r g × IsSettled m r

-- ---- the split is done

module _ (c : Cluster) (g : Governs c) (settled : AreSettled c) (all : AllNoted (IsLeased c.map) (notes_of c)) (x : ServerRun) (same : c.servers ≡ x.servers)
    (number range low high : ℕ) (key : List ℕ) (s : CompletesSplit c (cluster_after c (Deliver number)).map range low high key) (adds : Adds x c (Deliver number) (cluster_after c (Deliver number))) where
  abbrev d : Cluster
  d = cluster_after c (Deliver number)

  abbrev bound : ℕ
  bound = s.entry.generation

  parent_stands : Stands (AtMost range bound) (IsGone range) d
  parent_stands =
      stands_first (AtMost range bound) (IsGone range) c x same number
      (names_on (within c.map g.asks) (leasing (AtMost range bound)) (record {
        knows = λ n h k. tt;
        assigned = λ n h k is. less h (subst (λ j. IsWithin c.map j h) is k);
        asked = λ q n h k w. tt;
        begun = λ q l h w. tt;
        splits = λ n h k l u w. tt;
        numbers = λ n w. tt;
        merges = λ n h w. tt;
      }) c g.names)
      (noted_weaker (IsLeased c.map) (AtMost range bound) (notes_of c) (λ r h k is. less h (subst (λ j. IsWithin c.map j h) is k.0)) all)
      (subst (IsGone range) (sym s.left) (found_given c.map g.sound range s.entry s.found, split_gone range key low high c.map.ranges s.entry s.found s.pending (used_once c.map g.sound.fresh range)))
      adds
    where
      less : (h : ℕ) → IsWithin c.map range h → h ≤ s.entry.generation
      less h k = entry_bounds c.map range s.entry s.found h k

  module _ (n : ℕ) (used : 1 ≤ uses_pending n s.entry.pending) where
    not_settled : IsSettled c.map n → ⊥
    not_settled k = let none = found_knows (IsNone n) range c.map.ranges s.entry k.entries s.found in absurd (omega (arith, none, used))

    child_stands : Stands (MoreThan n bound) (IsAbove n bound) d
    child_stands =
        stands_first (MoreThan n bound) (IsAbove n bound) c x same number
        (names_on (assigning (IsSettled c.map)) (leasing (MoreThan n bound)) (record {
          knows = λ j h k. tt;
          assigned = λ j h k is. absurd (not_settled (subst (IsSettled c.map) is k));
          asked = λ q j h k w. tt;
          begun = λ q l h w. tt;
          splits = λ j h k l u w. tt;
          numbers = λ j w. tt;
          merges = λ j h w. tt;
        }) c settled)
        (noted_weaker (IsLeased c.map) (MoreThan n bound) (notes_of c) (λ r h k is. absurd (not_settled (subst (IsSettled c.map) is k.1))) all)
        (subst (IsAbove n bound) (sym s.left) (record {
          given = (let l = entry_uses n range c.map.ranges s.entry s.found in below_next c.map n g.sound.fresh (omega (arith, l, used)));
          entries = split_over n range key low high c.map.ranges s.entry s.found s.pending used (used_once c.map g.sound.fresh n);
        }))
        adds

  low_used : 1 ≤ uses_pending low s.entry.pending
  low_used = subst (λ (p : Option Pending). 1 ≤ uses_pending low p) (sym s.pending) (let one = self_used low in omega (arith, one))

  high_used : 1 ≤ uses_pending high s.entry.pending
  high_used = subst (λ (p : Option Pending). 1 ≤ uses_pending high p) (sym s.pending) (let one = self_used high in omega (arith, one))

  pub split_bounded : IsBoundedBy d range low high bound
  split_bounded = record {
    packet = s.packet;
    request = s.request;
    sent = stays_in_post c s.packet s.sent (Deliver number);
    asked = s.asked;
    parent = parent_stands;
    low_child = child_stands low low_used;
    high_child = child_stands high high_used;
  }

-- ---- events

settled_laws : (c : Cluster) → Governs c → MapLaws (λ a. assigning (IsSettled a)) c.map
settled_laws c g = record {
  laws = record { leased = λ range generation k. tt; tells = λ q w range generation key low high a b e. tt; low = λ range generation key low high k. tt; high = λ range generation key low high k. tt };
  users = tt;
  assigns = λ n server until. assign_settles c.map g.sound n server until (range_at c.map.ranges n) refl;
  renews = λ n server until. renew_settles c.map g.sound n server until (range_at c.map.ranges n) refl;
  takes = λ p names. map_settles c.map g.sound p p.body;
}

module _ (c : Cluster) (g : Governs c) (r h : ℕ) where
  within_leaves : (k : IsWithin c.map r h) (event : Event) → RuleLeaves (λ a. IsWithin a r h) c k event
  within_leaves k (Deliver number) = λ p at. (map_told g.asks c.map g.sound p (g.names.post p (contains_get c.stream_layer.post number p at))).extends.knows r h k
  within_leaves k (Assign n server until) = (assign_told g.asks c.map g.sound n server until (range_at c.map.ranges n) refl).extends.knows r h k
  within_leaves k (Renew n server until) = λ free. (renew_told g.asks c.map g.sound n server until (range_at c.map.ranges n) refl).extends.knows r h k
  within_leaves k event = tt

  settled_leaves : (k : IsSettled c.map r) (event : Event) → RuleLeaves (λ a. IsSettled a r) c k event
  settled_leaves k (Deliver number) = λ p at. (map_settles c.map g.sound p p.body).extends.assigned r h k
  settled_leaves k (Assign n server until) = (assign_settles c.map g.sound n server until (range_at c.map.ranges n) refl).extends.assigned r h k
  settled_leaves k (Renew n server until) = λ free. (renew_settles c.map g.sound n server until (range_at c.map.ranges n) refl).extends.assigned r h k
  settled_leaves k event = tt

  leased_on : (event : Event) → IsLeased c.map r h → IsLeased (cluster_after c event).map r h
  leased_on event k = (event_leaves (λ a. IsWithin a r h) c k.0 event (within_leaves k.0 event), event_leaves (λ a. IsSettled a r) c k.1 event (settled_leaves k.1 event))

module _ (batch count : ℕ) where
  -- what is known of a cluster whose servers are what came to them made
  pub record Knows (c : Cluster) (coming : List ServerEvent) : Type 0 where
    pub governs : Governs c
    pub settled : AreSettled c
    pub cells : c.servers ≡ (run_of batch count coming).servers
    pub noted : AllNoted (IsLeased c.map) (notes_of c)
    pub bounded : (range low high : ℕ) (key : List ℕ) → Contains (notes_of c) (notes.Split range low high key) → IsBounded c range low high

  module _ (c : Cluster) (coming : List ServerEvent) (k : Knows c coming) (event : Event) (unmerged : IsUnmerged event) where
    abbrev after : Cluster
    after = cluster_after c event

    abbrev x : ServerRun
    x = run_of batch count coming

    goes : Goes batch count c coming k.cells event after (server_events c event)
    goes = shown.event_goes batch count c coming k.cells event unmerged

    all_leased : AllNoted (IsLeased after.map) (notes_of after)
    all_leased =
        noted_weaker (IsLeased c.map) (IsLeased after.map) (notes_of after) (λ r h l. leased_on c k.governs r h event l)
        (adds_noted (IsLeased c.map) x c event after k.cells
        (λ s cell st at is n r found. (held_by_names (within c.map k.governs.asks) c k.governs.names s cell st at is n r found, held_by_names (assigning (IsSettled c.map)) c k.settled s cell st at is n r found))
        k.noted goes.adds)

    pub still_bounded : (range low high generation : ℕ) → IsBoundedBy c range low high generation → IsBoundedBy after range low high generation
    still_bounded range low high generation b = record {
      packet = b.packet;
      request = b.request;
      sent = stays_in_post c b.packet b.sent event;
      asked = b.asked;
      parent = stands_on (AtMost range generation) (IsGone range) c (gone_bounds range generation) b.parent x k.cells k.governs event unmerged goes.adds;
      low_child = stands_on (MoreThan low generation) (IsAbove low generation) c (above_bounds low generation) b.low_child x k.cells k.governs event unmerged goes.adds;
      high_child = stands_on (MoreThan high generation) (IsAbove high generation) c (above_bounds high generation) b.high_child x k.cells k.governs event unmerged goes.adds;
    }

    all_bounded : (range low high : ℕ) (key : List ℕ) → Contains (notes_of after) (notes.Split range low high key) → IsBounded after range low high
    all_bounded range low high key there = elim (adds_split range low high key x c event after goes.adds there) [
      | inl old ↦ (let b = k.bounded range low high key old in (b.0, still_bounded range low high b.0 b.1))
      | inr new ↦
          (let number : ℕ = new.0 in
          let is : event ≡ Deliver number = new.1 in
          subst (λ (e : Event). IsBounded (cluster_after c e) range low high) (sym is) (
            new.2.entry.generation,
            split_bounded c k.governs k.settled k.noted x k.cells number range low high key
                (subst (λ (e : Event). CompletesSplit c (cluster_after c e).map range low high key) is new.2)
                (subst (λ (e : Event). Adds x c e (cluster_after c e)) is goes.adds),
          ))
    ]

    pub knows_on : Knows after (server_events c event ++ coming)
    knows_on = record {
      governs = event_governs c event unmerged k.governs;
      settled = event_keeps (λ a. assigning (IsSettled a)) c (settled_laws c k.governs) k.settled event (nothing_asked event unmerged);
      cells = goes.cells;
      noted = all_leased;
      bounded = all_bounded;
    }
      where
        nothing_asked : (event : Event) → IsUnmerged event → AskedIn (λ a. assigning (IsSettled a)) c event
        nothing_asked (Split s range key) unmerged = λ cell at st is r sent. tt
        nothing_asked (Merge server left right) unmerged = absurd unmerged
        nothing_asked event unmerged = tt

  -- ---- runs

  all_known : (events : List Event) → AreUnmerged events → (c : Cluster) (coming : List ServerEvent) → Knows c coming → Knows (cluster_after_all c events) (server_events_after c coming events)
  all_known [] unmerged c coming k = k
  all_known (event ∷ events) unmerged c coming k = all_known events unmerged.1 (cluster_after c event) (server_events c event ++ coming) (knows_on c coming k event unmerged.0)

  pub first_known : (nodes target : ℕ) → Knows (first_cluster nodes count target batch) []
  first_known nodes target = record {
    governs = first_governs nodes count target batch;
    settled = record { post = λ p there. absurd (let less = there.1 in omega (arith, less)); servers = first_cells (assigning (IsSettled (first_cluster nodes count target batch).map)) batch 1 count; catalog = λ range kind y is. tt };
    cells = refl;
    noted = λ note r there is. absurd (let less = there.1 in omega (arith, less));
    bounded = λ range low high key there. absurd (let less = there.1 in omega (arith, less));
  }

-- What a split means for generations, of all that is shown of its range and of the two that it makes.
pub record GenerationBounds (c : Cluster) (range low high : ℕ) : Type 0 where
  pub generation : ℕ
  -- who had the split done asked for it under this generation
  pub packet : Packet
  pub request : ReqNo
  pub sent : Contains c.stream_layer.post packet
  pub asked : packet.body ≡ bodies.Map (maps.CompleteSplit range generation request)
  pub highest : (note : Note) → Contains (notes_of c) note → is_of range note ≡ true → generation_of note ≤ generation
  pub low_above : (note : Note) → Contains (notes_of c) note → is_of low note ≡ true → generation < generation_of note
  pub high_above : (note : Note) → Contains (notes_of c) note → is_of high note ≡ true → generation < generation_of note

-- So it is of each split that a run without merges shows.
pub run_bounds : (nodes servers target batch : ℕ) (events : List Event) → AreUnmerged events → (range low high : ℕ) (key : List ℕ) →
    Contains (notes_of (cluster_after_all (first_cluster nodes servers target batch) events)) (notes.Split range low high key) →
    GenerationBounds (cluster_after_all (first_cluster nodes servers target batch) events) range low high
run_bounds nodes servers target batch events unmerged range low high key there = record {
  generation = b.0;
  packet = b.1.packet;
  request = b.1.request;
  sent = b.1.sent;
  asked = b.1.asked;
  highest = λ note n is. b.1.parent.noted note range n is refl;
  low_above = λ note n is. b.1.low_child.noted note low n is refl;
  high_above = λ note n is. b.1.high_child.noted note high n is refl;
}
  where
    c : Cluster
    c = first_cluster nodes servers target batch

    b : IsBounded (cluster_after_all c events) range low high
    b = (all_known batch servers events unmerged c [] (first_known batch servers nodes target)).bounded range low high key there
