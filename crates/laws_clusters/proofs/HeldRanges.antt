-- What is so of the number of each range that a server holds, of the end of its lease and of its load, stays so through the server's
-- steps, splits and merges among them; and but for a range that it is assigned it opens none.
use Rattle.std.proofs.Common.{◌≡◌, ◌⊎◌, ◌≤◌, ℕ, ◌==◌, max, Bool, true, false, List, [], ◌∷◌, ◌++◌, Option, Some, None, is_some, refl, sym, ap, ◌∙◌, subst, inl, inr, arith, if◌then◌else◌}
use Rattle.std.specs.Prelude.{option_to_list}
use Rattle.std.specs.Ordering.{nat_cmp}
use Rattle.std.specs.BTreeMap.{insert_entry}
use Rattle.std.proofs.lemmas.Bool.{eqb-true, eqb-false}
use Rattle.std.proofs.lemmas.Option.{same_Some}
use Rattle.block_types.specs.declared.record.Nodes.{Nodes}
use Rattle.wire.specs.declared.actor.ActorId.{ActorId}
use Rattle.wire.specs.declared.actor.ActorId.TheVariants as actors
use Rattle.wire.specs.declared.actor.ReqNo.{ReqNo}
use Rattle.wire.specs.declared.body.Body.{Body}
use Rattle.wire.specs.declared.body.Body.TheVariants as bodies
use Rattle.wire.specs.declared.body.MapBody.TheVariants as maps
use Rattle.wire.specs.declared.body.StreamBody.{StreamBody}
use Rattle.wire.specs.declared.body.StreamBody.TheVariants as streams
use Rattle.wire.specs.declared.body.TableBody.{TableBody}
use Rattle.wire.specs.declared.body.TableBody.TheVariants as tables
use Rattle.wire.specs.declared.packet.Packet.{Packet}
use Rattle.wire.specs.declared.transaction.Change.{Change}
use Rattle.client.specs.Client.{Outcome, give_up_rule as client_again}
use Rattle.client.specs.Load.{LoadState, again, opening, open_packet}
use Rattle.model_streams.proofs.Tests.{if_elim}
use Rattle.model_partition.specs.declared.merge_job.MergeJob.{MergeJob}
use Rattle.model_partition.specs.declared.merge_job.MergeSide.{MergeSide}
use Rattle.model_partition.specs.declared.server_context.ServerContext.{ServerContext}
use Rattle.model_partition.specs.declared.split_job.SplitJob.{SplitJob}
use Rattle.model_partition.specs.declared.split_job.SplitPhase.{SplitPhase}
use Rattle.model_partition.specs.declared.split_job.SplitPhase.TheVariants as phases
use Rattle.model_partition.specs.declared.stage.Stage.{Stage}
use Rattle.model_partition.specs.declared.stage.Stage.TheVariants.{Opening}
use Rattle.model_partition.specs.declared.table_note.TableNote.{TableNote}
use Rattle.model_partition.specs.declared.table_note.TableNote.TheVariants as notes
use Rattle.model_partition.specs.Range.{RangeState, RangeOutcome, request, used, picking}
use Rattle.model_partition.specs.Splits.{SplitStep, split_reply, follows, gives_up as split_again, gives_up_in, extents_of, open_last, seal_again, has_number}
use Rattle.model_partition.specs.Merges.{MergeStep, freed, left_ends, left_trim, merge_reply}
use Rattle.model_partition.specs.Answering.{answered_number, is_answerer, answer_rule, give_up_all}
use Rattle.model_partition.specs.Server.{ServerState, ServerOutcome, range_of, set_range, awaiting, rests, split_of, set_split, split_awaiting, split_stepped, counted, behind_these, ended_with, stepped_alone, stepped_splitting, stepped_with, stepped_apart, merge_with, merge_of, merge_awaiting, TwoRanges, pair_of, both_of, merge_stepped, freed_in, with_freed, without_merge, side_of_range, follows_both, merge_follows, merged_behind, stepped_merging, stepped_in, stepped, new_range, users_of, is_newer, assigned_merging, assigned, renew_rule, map_rule, transacts_in, gets_in, table_rule, left_ended, answer_ending, answer_at, answer_in, answered_both, merge_answer_in, merge_answer, split_answer_in, split_answer, answer_of, numbered_rule, taken_rule, has_numbers, server_rule, given_up_splitting, given_up_with, give_up_both, merge_gives_up, given_up_merging, given_up, gives_up, picked, give_up_rule, checkpoint_refusal, checkpoints_in, server_checkpoint, split_refusal, splits_in, server_split, merge_refusal, merges_in, server_merge}
use Rattle.laws_map.specs.Naming.{Each, IsRising}
use Rattle.laws_map.specs.Openings.{AreQuiet, IsKnown, AreKnown, AsksToOpen, IsBeyond}
use Rattle.laws_map.proofs.Knowing.{each_weaker, each_both}
use Rattle.laws_map.proofs.Lookups.{removed_other, put_other, inserted_other, removed_here, put_here, inserted_here, rising_put}
use Rattle.laws_map.proofs.QuietClients.{listed, give_up_quiet}
use Rattle.laws_map.proofs.RangeLoads.{Has, IfHas, ShowLoads, Good, refused_for, transact_good, get_good, checkpoint_good, behind_quiet}
use Rattle.laws_map.proofs.RangeNames.{no_less, one_up, on_and_on}
use Rattle.laws_map.proofs.Rising.{rising_removed, rising_inserted}
use Rattle.laws_map.proofs.SplitLoads.{quiet_known, StandsWith, Goes, split_replies, split_follows}
use Rattle.laws_clusters.proofs.MergeLoads.{BothStand, left_ends_on, merge_replies, merge_follows as merge_goes_on, merge_gives_up as merge_asks_again}

-- ---- what a server asks for

-- streams are opened only as was asked before, and none are told
abbrev pub IsAskedStream : List Packet → StreamBody → Type 0
IsAskedStream post (streams.OpenStreams range generation q) = AsksToOpen post range generation q
IsAskedStream post (streams.Opened q lists) = ⊥
IsAskedStream post body = Unit {0}

abbrev pub IsAsked : List Packet → Body → Type 0
IsAsked post (bodies.Stream body) = IsAskedStream post body
IsAsked post body = Unit {0}

abbrev pub AreAsked : List Packet → List Packet → Type 0
AreAsked post packets = Each (λ (p : Packet). IsAsked post p.body) packets

stream_asked : (post : List Packet) (body : StreamBody) → IsKnown post (bodies.Stream body) → IsAskedStream post body
stream_asked post (streams.OpenStreams range generation q) k = k
stream_asked post (streams.Opened q lists) k = absurd k
stream_asked post body k = tt

body_asked : (post : List Packet) (body : Body) → IsKnown post body → IsAsked post body
body_asked post (bodies.Stream body) k = stream_asked post body k
body_asked post body k = tt

known_asked : (post packets : List Packet) → AreKnown post packets → AreAsked post packets
known_asked post packets k = each_weaker (λ (p : Packet). IsKnown post p.body) (λ (p : Packet). IsAsked post p.body) (λ p h. body_asked post p.body h) packets k

quiet_asked : (post packets : List Packet) → AreQuiet packets → AreAsked post packets
quiet_asked post packets k = known_asked post packets (quiet_known post packets k)

users_quiet : (d : ServerContext) (held : Option RangeState) → AreQuiet (users_of d held)
users_quiet d None = tt
users_quiet d (Some r) = refused_for (λ until load stage. Unit {0}) d r

-- ---- the ranges of a server

module _ (P : ℕ → ℕ → LoadState → Stage → Type 0) where
  -- it is so of each, and no number is that of two
  pub record AllHold (rs : List (ℕ × RangeState)) : Type 0 where
    pub rising : IsRising rs
    pub each : (n : ℕ) (r : RangeState) → range_of rs n ≡ Some r → Has (P n) r

  set_all : (rs : List (ℕ × RangeState)) (n : ℕ) (R : Option RangeState) → IfHas (P n) R → AllHold rs → AllHold (set_range rs n R)
  set_all rs n None h all = record { rising = rising_removed rs n all.rising; each = λ m r is. go m r is (m == n) refl }
    where
      go : (m : ℕ) (r : RangeState) → range_of (set_range rs n None) m ≡ Some r → (b : Bool) → (m == n) ≡ b → Has (P m) r
      go m r is true e = absurd (removed_here rs n r all.rising (subst (λ k. range_of (set_range rs n None) k ≡ Some r) (eqb-true m n e) is))
      go m r is false e = all.each m r (sym (removed_other rs n m (λ same. absurd (eqb-false m n e same))) ∙ is)
  set_all rs n (Some after) h all = record { rising = rising_put rs n after all.rising; each = λ m r is. go m r is (m == n) refl }
    where
      go : (m : ℕ) (r : RangeState) → range_of (set_range rs n (Some after)) m ≡ Some r → (b : Bool) → (m == n) ≡ b → Has (P m) r
      go m r is true e =
          let same : m ≡ n = eqb-true m n e in
          let own : after ≡ r = put_here rs n after r (subst (λ k. range_of (set_range rs n (Some after)) k ≡ Some r) same is) in
          subst (λ (k : ℕ). Has (P k) r) (sym same) (subst (λ (x : RangeState). Has (P n) x) own h)
      go m r is false e = all.each m r (sym (put_other rs n m after (λ same. absurd (eqb-false m n e same))) ∙ is)

  inserted_all : (rs : List (ℕ × RangeState)) (n : ℕ) (new : RangeState) → Has (P n) new → AllHold rs → AllHold (insert_entry nat_cmp rs n new)
  inserted_all rs n new h all = record { rising = rising_inserted rs n new all.rising; each = λ m r is. go m r is (m == n) refl }
    where
      go : (m : ℕ) (r : RangeState) → range_of (insert_entry nat_cmp rs n new) m ≡ Some r → (b : Bool) → (m == n) ≡ b → Has (P m) r
      go m r is true e =
          let same : m ≡ n = eqb-true m n e in
          let own : new ≡ r = same_Some new r (sym (inserted_here rs n new) ∙ subst (λ k. range_of (insert_entry nat_cmp rs n new) k ≡ Some r) same is) in
          subst (λ (k : ℕ). Has (P k) r) (sym same) (subst (λ (x : RangeState). Has (P n) x) own h)
      go m r is false e = all.each m r (sym (inserted_other rs n m new (λ same. absurd (eqb-false m n e same))) ∙ is)

  -- ---- a merge that is no more

  freed_all : (rs : List (ℕ × RangeState)) (n : ℕ) → AllHold rs → AllHold (with_freed rs n)
  freed_all rs n all = go (range_of rs n) refl
    where
      go : (o : Option RangeState) → range_of rs n ≡ o → AllHold (freed_in rs n o)
      go None is = all
      go (Some r) is = set_all rs n (Some (freed r)) (all.each n r is) all

  without_all : (s : ServerState) (left : ℕ) (job : MergeJob) → AllHold s.ranges → AllHold (without_merge s left job).ranges
  without_all s left job all = freed_all (with_freed s.ranges job.left) job.right (freed_all s.ranges job.left all)

  assigned_all : (s : ServerState) (left : Option ℕ) → AllHold s.ranges → AllHold (assigned s left).ranges
  assigned_all s None all = all
  assigned_all s (Some left) all = go (merge_of s.merges left)
    where
      go : (job : Option MergeJob) → AllHold (assigned_merging s left job).ranges
      go None = all
      go (Some job) = without_all s left job all

-- ---- a range that is assigned

-- what comes of it
abbrev pub assigned_outcome : ServerState → ℕ → ℕ → ℕ → ServerOutcome
assigned_outcome s range generation until =
    record {
      after = assigned (record s {
        context = used s.context;
        ranges = insert_entry nat_cmp s.ranges range (new_range s.context range generation until);
        splits = set_split s.splits range None;
      }) (merge_with s.merges range);
      packets = users_of s.context (range_of s.ranges range) ++ open_packet s.context.server range generation (request s.context) ∷ [];
      notes = [];
    }

-- the map assigns a range to the server
pub record Assigns (s : ServerState) (p : Packet) (o : ServerOutcome) : Type 0 where
  pub range : ℕ
  pub generation : ℕ
  pub until : ℕ
  pub from : p.from ≡ actors.Map
  pub is : p.body ≡ bodies.Map (maps.Assign range generation until)
  pub outcome : o ≡ assigned_outcome s range generation until

module _ (P : ℕ → ℕ → LoadState → Stage → Type 0) (s : ServerState) (range generation until : ℕ) where
  merge_kept : (x : ServerState) (left : Option ℕ) → (assigned x left).context ≡ x.context
  merge_kept x None = refl
  merge_kept x (Some left) = go (merge_of x.merges left)
    where
      go : (job : Option MergeJob) → (assigned_merging x left job).context ≡ x.context
      go None = refl
      go (Some job) = refl

  pub assigned_hold : P range until (opening s.context.server range generation (request s.context)) Opening → AllHold P s.ranges → AllHold P (assigned_outcome s range generation until).after.ranges
  assigned_hold h all =
      assigned_all P _ (merge_with s.merges range) (inserted_all P s.ranges range (new_range s.context range generation until) h all)

  -- a number is used, and all else of the server stays
  pub assigned_context : (assigned_outcome s range generation until).after.context ≡ used s.context
  assigned_context = merge_kept _ (merge_with s.merges range)

  pub assigned_packets : (post : List Packet) → Each (λ (p : Packet). IsAsked post p.body ⊎ (p.body ≡ bodies.Stream (streams.OpenStreams range generation (request s.context)))) (assigned_outcome s range generation until).packets
  assigned_packets post =
      let users : List Packet = users_of s.context (range_of s.ranges range) in
      each_both (λ (p : Packet). IsAsked post p.body ⊎ (p.body ≡ bodies.Stream (streams.OpenStreams range generation (request s.context)))) users _
      (each_weaker (λ (p : Packet). IsAsked post p.body) (λ (p : Packet). IsAsked post p.body ⊎ (p.body ≡ bodies.Stream (streams.OpenStreams range generation (request s.context)))) (λ p k. inl k) users
      (quiet_asked post users (users_quiet s.context (range_of s.ranges range))))
      (inr refl, tt)

-- ---- steps

-- each load that is shown is such a one
abbrev pub AllShown : (ℕ → ℕ → Type 0) → List TableNote → Type 0
AllShown Shown [] = Unit {0}
AllShown Shown (notes.Began range generation number changes ∷ more) = AllShown Shown more
AllShown Shown (notes.Done range generation number ∷ more) = AllShown Shown more
AllShown Shown (notes.Got range generation key value ∷ more) = AllShown Shown more
AllShown Shown (notes.Loaded range generation table next ∷ more) = Shown range generation × AllShown Shown more

-- a step of a server leaves its ranges so, asks for no streams anew, and shows such loads alone
pub record Holds (post : List Packet) (P : ℕ → ℕ → LoadState → Stage → Type 0) (Shown : ℕ → ℕ → Type 0) (s : ServerState) (o : ServerOutcome) : Type 0 where
  pub ranges : AllHold P o.after.ranges
  pub asks : AreAsked post o.packets
  pub count : s.context.count ≤ o.after.context.count
  pub server : o.after.context.server ≡ s.context.server
  pub session : o.after.context.session ≡ s.context.session
  pub moment : o.after.context.moment ≡ s.context.moment
  pub shows : AllShown Shown o.notes

abbrev pub HoldsIf : List Packet → (ℕ → ℕ → LoadState → Stage → Type 0) → (ℕ → ℕ → Type 0) → ServerState → Option ServerOutcome → Type 0
HoldsIf post P Shown s None = Unit {0}
HoldsIf post P Shown s (Some o) = Holds post P Shown s o

module _ (post : List Packet) (P : ℕ → ℕ → LoadState → Stage → Type 0) (Shown : ℕ → ℕ → Type 0)
    (shown : (n until : ℕ) (load : LoadState) (stage : Stage) → P n until load stage → IsBeyond load.phase → Shown load.range load.generation)
    (asked : (n : ℕ) (r : RangeState) → Has (P n) r → AreAsked post (option_to_list (again r.load r.load.phase))) where
  abbrev Keeps : ServerState → ServerOutcome → Type 0
  Keeps = Holds post P Shown

  all_shown : (n : ℕ) (told : List TableNote) → ShowLoads (P n) told → AllShown Shown told
  all_shown n [] h = tt
  all_shown n (notes.Began range generation number changes ∷ more) h = all_shown n more h
  all_shown n (notes.Done range generation number ∷ more) h = all_shown n more h
  all_shown n (notes.Got range generation key value ∷ more) h = all_shown n more h
  all_shown n (notes.Loaded range generation table next ∷ more) (x, h) = (
    subst (λ k. Shown k generation) (sym x.range_is) (subst (λ g. Shown x.load.range g) (sym x.generation_is) (shown n x.until x.load x.stage x.stands x.beyond)),
    all_shown n more h,
  )

  -- a step of a range leaves it so
  record StepHolds (d : ServerContext) (n : ℕ) (o : RangeOutcome) : Type 0 where
    after : IfHas (P n) o.after
    asks : AreAsked post o.packets
    count : d.count ≤ o.count
    shows : AllShown Shown o.notes

  good_step : (d : ServerContext) (n : ℕ) (o : RangeOutcome) → Good (P n) d o → StepHolds d n o
  good_step d n o g = record { after = g.0; asks = quiet_asked post o.packets g.1; count = g.2; shows = all_shown n o.notes g.3 }

  pub rests_hold : (s : ServerState) → AllHold P s.ranges → Keeps s (rests s)
  rests_hold s all = record { ranges = all; asks = tt; count = no_less s.context.count; server = refl; session = refl; moment = refl; shows = tt }

  sends_hold : (s : ServerState) → AllHold P s.ranges → (p : Packet) → IsAsked post p.body → Keeps s (record { after = s; packets = p ∷ []; notes = [] })
  sends_hold s all p k = record { ranges = all; asks = (k, tt); count = no_less s.context.count; server = refl; session = refl; moment = refl; shows = tt }

  -- ---- splits

  module _ (s : ServerState) (all : AllHold P s.ranges) (n : ℕ) where
    left_has : (job : SplitJob) (R : Option RangeState) (J : Option SplitJob) → StandsWith (P n) post job R J → IfHas (P n) R
    left_has job None J h = tt
    left_has job (Some after) None h = absurd h
    left_has job (Some after) (Some other) h = h.0

    split_holds : (job : SplitJob) (d : ServerContext) (t : SplitStep) → s.context.count ≤ d.count → Goes (P n) post job d t → Keeps s (split_stepped s n t)
    split_holds job d t more h = record {
      ranges = set_all P s.ranges n t.range (left_has job t.range t.job h.stands) all;
      asks = known_asked post t.packets h.packets;
      count = on_and_on s.context.count d.count t.count more h.count;
      server = refl;
      session = refl;
      moment = refl;
      shows = tt;
    }

    -- a split that waits to be begun asks for that again, and one of another phase for what it waits for
    split_again_holds : (job : SplitJob) (d : ServerContext) (r : RangeState) → s.context.count ≤ d.count → Has (P n) r → Keeps s (split_stepped s n (split_again d r job))
    split_again_holds job d r more h =
        if_elim (λ t. Keeps s (split_stepped s n t)) (has_number d) _ _ (λ t. by_phase job.phase)
        (λ f. record { ranges = set_all P s.ranges n (Some r) h all; asks = tt; count = more; server = refl; session = refl; moment = refl; shows = tt })
      where
        sent : (t : SplitStep) → t.range ≡ Some r → AreAsked post t.packets → d.count ≤ t.count → Keeps s (split_stepped s n t)
        sent t is asks count = record {
          ranges = set_all P s.ranges n t.range (subst (IfHas (P n)) (sym is) h) all;
          asks = asks;
          count = on_and_on s.context.count d.count t.count more count;
          server = refl;
          session = refl;
          moment = refl;
          shows = tt;
        }

        again_asked : (e : Option ℕ) (q : ReqNo) → AreAsked post (seal_again d e q)
        again_asked None q = tt
        again_asked (Some e) q = (tt, tt)

        by_phase : (phase : SplitPhase) → Keeps s (split_stepped s n (gives_up_in d r job phase))
        by_phase (phases.Begin q) = sent (gives_up_in d r job (phases.Begin q)) refl (tt, tt) (one_up d.count)
        by_phase (phases.Seal kind q) = sent (gives_up_in d r job (phases.Seal kind q)) refl (again_asked (open_last (extents_of r kind)) q) (one_up d.count)
        by_phase (phases.Build q) = sent (gives_up_in d r job (phases.Build q)) refl (tt, tt) (one_up d.count)
        by_phase (phases.Keys side c) =
            let o : Outcome = client_again (picking d c) (request d) d.pick in
            sent (gives_up_in d r job (phases.Keys side c)) refl (quiet_asked post (option_to_list o.packet) (listed o.packet (give_up_quiet (picking d c) (request d) d.pick))) (one_up d.count)
        by_phase (phases.Complete q) = sent (gives_up_in d r job (phases.Complete q)) refl (tt, tt) (one_up d.count)
        by_phase phase = sent (gives_up_in d r job phase) refl tt (no_less d.count)

  -- ---- merges

  pair_found : (one other : Option RangeState) (two : TwoRanges) → pair_of one other ≡ Some two → (one ≡ Some two.0) × (other ≡ Some two.1)
  pair_found None other two is = absurd cc
  pair_found (Some l) None two is = absurd cc
  pair_found (Some l) (Some r) two is = let same : (l, r) ≡ two = same_Some _ two is in (ap (λ (x : TwoRanges). Some x.0) same, ap (λ (x : TwoRanges). Some x.1) same)

  both_found : (rs : List (ℕ × RangeState)) (job : MergeJob) (two : TwoRanges) → both_of rs job ≡ Some two → (range_of rs job.left ≡ Some two.0) × (range_of rs job.right ≡ Some two.1)
  both_found rs job two is = go (job.left == job.right) is
    where
      go : (b : Bool) → (if b then None else pair_of (range_of rs job.left) (range_of rs job.right)) ≡ Some two → (range_of rs job.left ≡ Some two.0) × (range_of rs job.right ≡ Some two.1)
      go true e = absurd cc
      go false e = pair_found (range_of rs job.left) (range_of rs job.right) two e

  module _ (s : ServerState) (all : AllHold P s.ranges) (left : ℕ) (job : MergeJob) where
    merge_holds : (t : MergeStep) → BothStand (P job.left) (P job.right) s.context t → Keeps s (merge_stepped s left job t)
    merge_holds t h = record {
      ranges = set_all P (set_range s.ranges job.left t.left) job.right t.right h.right (set_all P s.ranges job.left t.left h.left all);
      asks = quiet_asked post t.packets h.packets;
      count = h.count;
      server = refl;
      session = refl;
      moment = refl;
      shows = tt;
    }

    follows_hold : (side : MergeSide) (both : Option TwoRanges) → both_of s.ranges job ≡ both → Keeps s (follows_both s left job side both)
    follows_hold side None is = rests_hold s all
    follows_hold side (Some two) is =
        let f = both_found s.ranges job two is in
        merge_holds _ (merge_goes_on (P job.left) (P job.right) s.context two.0 two.1 job side (all.each job.left two.0 f.0) (all.each job.right two.1 f.1))

    gives_up_hold : (side : MergeSide) (both : Option TwoRanges) → both_of s.ranges job ≡ both → Keeps s (give_up_both s left job side both)
    gives_up_hold side None is = rests_hold s all
    gives_up_hold side (Some two) is =
        let f = both_found s.ranges job two is in
        merge_holds _ (merge_asks_again (P job.left) (P job.right) s.context two.0 two.1 job side (all.each job.left two.0 f.0) (all.each job.right two.1 f.1))

  -- ---- a step of a range, and what its split or its merge then does

  behind_hold : (s : ServerState) (o : RangeOutcome) (t : ServerOutcome) → AreAsked post o.packets → AllShown Shown o.notes → Keeps s t → Keeps s (behind_these o t)
  behind_hold s o t sent shows h = record {
    ranges = h.ranges;
    asks = each_both (λ (p : Packet). IsAsked post p.body) o.packets t.packets sent h.asks;
    count = h.count;
    server = h.server;
    session = h.session;
    moment = h.moment;
    shows = shows;
  }

  -- a state that differs in its count alone
  from_count : (s x : ServerState) (t : ServerOutcome) → s.context.count ≤ x.context.count → x.context.server ≡ s.context.server → x.context.session ≡ s.context.session → x.context.moment ≡ s.context.moment → Keeps x t → Keeps s t
  from_count s x t more server session moment h = record {
    ranges = h.ranges;
    asks = h.asks;
    count = on_and_on s.context.count x.context.count t.after.context.count more h.count;
    server = h.server ∙ server;
    session = h.session ∙ session;
    moment = h.moment ∙ moment;
    shows = h.shows;
  }

  module _ (s : ServerState) (all : AllHold P s.ranges) (n : ℕ) (o : RangeOutcome) (h : StepHolds s.context n o) where
    abbrev alone : ServerOutcome
    alone = stepped_alone s n o

    alone_holds : Keeps s alone
    alone_holds = record { ranges = set_all P s.ranges n o.after h.after all; asks = h.asks; count = h.count; server = refl; session = refl; moment = refl; shows = h.shows }

    ended_holds : Keeps s (ended_with s n o)
    ended_holds = record { ranges = set_all P s.ranges n None tt all; asks = h.asks; count = h.count; server = refl; session = refl; moment = refl; shows = h.shows }

    apart_holds : Keeps s (stepped_apart s n o)
    apart_holds = go (split_of s.splits n)
      where
        by : (job : SplitJob) (R : Option RangeState) → IfHas (P n) R → Keeps s (stepped_splitting s n job o R)
        by job None a = ended_holds
        by job (Some r) a =
            behind_hold s o (split_stepped s n (follows (counted s.context o) r job)) h.asks h.shows
            (split_holds s all n job (counted s.context o) (follows (counted s.context o) r job) h.count (split_follows (P n) post job (counted s.context o) r a))

        go : (job : Option SplitJob) → Keeps s (stepped_with s n job o)
        go None = alone_holds
        go (Some job) = by job o.after h.after

    -- behind it a merge goes on
    merged_holds : (left : ℕ) (job : MergeJob) (goes_on : ServerState → ℕ → MergeJob → ServerOutcome) → Keeps alone.after (goes_on alone.after left job) → (R : Option RangeState) →
        Keeps s (merged_behind o alone left job R goes_on)
    merged_holds left job goes_on on None = record { ranges = without_all P alone.after left job alone_holds.ranges; asks = h.asks; count = h.count; server = refl; session = refl; moment = refl; shows = h.shows }
    merged_holds left job goes_on on (Some r) = behind_hold s o (goes_on alone.after left job) h.asks h.shows (from_count s alone.after (goes_on alone.after left job) h.count refl refl refl on)

    stepped_holds : Keeps s (stepped s n o)
    stepped_holds = go (merge_with s.merges n)
      where
        by : (left : ℕ) (job : Option MergeJob) → Keeps s (stepped_merging s n left job o)
        by left None = apart_holds
        by left (Some job) =
            merged_holds left job (merge_follows n) (follows_hold alone.after alone_holds.ranges left job (side_of_range job n) (both_of alone.after.ranges job) refl) o.after

        go : (left : Option ℕ) → Keeps s (stepped_in s n left o)
        go None = apart_holds
        go (Some left) = by left (merge_of s.merges left)

    given_up_holds : Keeps s (given_up s n (merge_with s.merges n) o)
    given_up_holds = go (merge_with s.merges n)
      where
        splits_on : (job : SplitJob) (R : Option RangeState) → IfHas (P n) R → Keeps s (given_up_splitting s n job o R)
        splits_on job None a = ended_holds
        splits_on job (Some r) a =
            behind_hold s o (split_stepped s n (split_again (counted s.context o) r job)) h.asks h.shows (split_again_holds s all n job (counted s.context o) r h.count a)

        with_split : (job : Option SplitJob) → Keeps s (given_up_with s n job o)
        with_split None = alone_holds
        with_split (Some job) = splits_on job o.after h.after

        by : (left : ℕ) (job : Option MergeJob) → Keeps s (given_up_merging s n left job o)
        by left None = with_split (split_of s.splits n)
        by left (Some job) =
            merged_holds left job (merge_gives_up n) (gives_up_hold alone.after alone_holds.ranges left job (side_of_range job n) (both_of alone.after.ranges job) refl) o.after

        go : (left : Option ℕ) → Keeps s (given_up s n left o)
        go None = with_split (split_of s.splits n)
        go (Some left) = by left (merge_of s.merges left)

  -- ---- packets

  module _ (s : ServerState) (all : AllHold P s.ranges) where
    step_holds : (n : ℕ) (o : RangeOutcome) → Good (P n) s.context o → Keeps s (stepped s n o)
    step_holds n o g = stepped_holds s all n o (good_step s.context n o g)

    transacts_hold : (p : Packet) (n : ℕ) (changes : List Change) (q : ReqNo) (held : Option RangeState) → range_of s.ranges n ≡ held → Keeps s (transacts_in s p n changes q held)
    transacts_hold p n changes q None is = sends_hold s all _ tt
    transacts_hold p n changes q (Some r) is = step_holds n _ (transact_good (P n) s.context r p.from q changes (all.each n r is))

    gets_hold : (p : Packet) (n : ℕ) (key : List ℕ) (q : ReqNo) (held : Option RangeState) → range_of s.ranges n ≡ held → Keeps s (gets_in s p n key q held)
    gets_hold p n key q None is = sends_hold s all _ tt
    gets_hold p n key q (Some r) is = step_holds n _ (get_good (P n) s.context r p.from q key (all.each n r is))

    table_holds : (p : Packet) (body : TableBody) → Keeps s (table_rule s p body)
    table_holds p (tables.Transact n changes q) = transacts_hold p n changes q (range_of s.ranges n) refl
    table_holds p (tables.Get n key q) = gets_hold p n key q (range_of s.ranges n) refl
    table_holds p body = rests_hold s all

    -- an answer to a split or to a merge
    split_answer_in_holds : (p : Packet) (n : ℕ) (held : Option RangeState) → range_of s.ranges n ≡ held → (job : Option SplitJob) → Keeps s (split_answer_in s p n held job)
    split_answer_in_holds p n (Some r) is (Some job) =
        split_holds s all n job s.context (split_reply s.context r job p.body) (no_less s.context.count) (split_replies (P n) post job s.context r p.body (all.each n r is))
    split_answer_in_holds p n (Some r) is None = rests_hold s all
    split_answer_in_holds p n None is job = rests_hold s all

    answered_both_holds : (p : Packet) (left : ℕ) (job : MergeJob) (both : Option TwoRanges) → both_of s.ranges job ≡ both → Keeps s (answered_both s p left job both)
    answered_both_holds p left job None is = rests_hold s all
    answered_both_holds p left job (Some two) is =
        let f = both_found s.ranges job two is in
        merge_holds s all left job (merge_reply s.context two.0 two.1 job p.body)
        (merge_replies (P job.left) (P job.right) s.context two.0 two.1 job p.body (all.each job.left two.0 f.0) (all.each job.right two.1 f.1))

    merge_answer_holds : (p : Packet) (left : Option ℕ) → Keeps s (merge_answer s p left)
    merge_answer_holds p None = rests_hold s all
    merge_answer_holds p (Some left) = go (merge_of s.merges left)
      where
        go : (job : Option MergeJob) → Keeps s (merge_answer_in s p left job)
        go None = rests_hold s all
        go (Some job) = answered_both_holds p left job (both_of s.ranges job) refl

    split_answer_holds : (p : Packet) (w : ReqNo) (n : Option ℕ) → Keeps s (split_answer s p w n)
    split_answer_holds p w None = merge_answer_holds p (merge_awaiting s.merges w)
    split_answer_holds p w (Some n) = split_answer_in_holds p n (range_of s.ranges n) refl (split_of s.splits n)

    left_ended_holds : (left : ℕ) (job : MergeJob) (x : ℕ × Bool) (both : Option TwoRanges) → both_of s.ranges job ≡ both → Keeps s (left_ended s left job x both)
    left_ended_holds left job x None is = rests_hold s all
    left_ended_holds left job x (Some two) is =
        let f = both_found s.ranges job two is in
        merge_holds s all left job (left_ends s.context two.0 two.1 job x)
        (left_ends_on (P job.left) (P job.right) s.context two.0 two.1 job x (all.each job.left two.0 f.0) (all.each job.right two.1 f.1))

    -- What an answer makes of a range, and a renewal of its lease, is so too.
    module _ (p : Packet) (answers : (n : ℕ) (r : RangeState) → range_of s.ranges n ≡ Some r → (w : ReqNo) → answered_number p.body ≡ Some w → Good (P n) s.context (answer_rule s.context r w p.body))
        (renews : (n generation until : ℕ) (r : RangeState) → range_of s.ranges n ≡ Some r → p.from ≡ actors.Map → p.body ≡ bodies.Map (maps.Renew n generation until) → r.load.generation ≡ generation → P n (max r.until until) r.load r.stage) where
      answer_in_holds : (w : ReqNo) → answered_number p.body ≡ Some w → (n : ℕ) (held : Option RangeState) → range_of s.ranges n ≡ held → Keeps s (answer_in s p w n held)
      answer_in_holds w number n None is = rests_hold s all
      answer_in_holds w number n (Some r) is = go (merge_of s.merges n)
        where
          taken : Keeps s (stepped s n (answer_rule s.context r w p.body))
          taken = step_holds n (answer_rule s.context r w p.body) (answers n r is w number)

          by : (job : MergeJob) (x : Option (ℕ × Bool)) → Keeps s (answer_ending s p w n r job x)
          by job None = taken
          by job (Some x) = left_ended_holds n job x (both_of s.ranges job) refl

          go : (job : Option MergeJob) → Keeps s (answer_at s p w n r job)
          go None = taken
          go (Some job) = by job (left_trim job.phase r w p.body)

      answer_of_holds : (w : ReqNo) → answered_number p.body ≡ Some w → (n : Option ℕ) → Keeps s (answer_of s p w n)
      answer_of_holds w number None = split_answer_holds p w (split_awaiting s.splits w)
      answer_of_holds w number (Some n) = answer_in_holds w number n (range_of s.ranges n) refl

      numbered_holds : (number : Option ReqNo) → answered_number p.body ≡ number → Keeps s (numbered_rule s p number)
      numbered_holds None is = rests_hold s all
      numbered_holds (Some w) is = if_elim (Keeps s) (is_answerer p.from p.body) _ _ (λ t. answer_of_holds w is (awaiting s.ranges w)) (λ f. rests_hold s all)

      abbrev Takes : ServerOutcome → Type 0
      Takes o = Keeps s o ⊎ Assigns s p o

      assigns_or_rests : (n generation until : ℕ) (from : ActorId) → p.from ≡ from → p.body ≡ bodies.Map (maps.Assign n generation until) → Takes (map_rule s from (maps.Assign n generation until))
      assigns_or_rests n generation until actors.Map from is =
          if_elim Takes (is_newer generation (range_of s.ranges n)) (assigned_outcome s n generation until) (rests s)
          (λ t. inr (record { range = n; generation = generation; until = until; from = from; is = is; outcome = refl })) (λ f. inl (rests_hold s all))
      assigns_or_rests n generation until (actors.Node m) from is = inl (rests_hold s all)
      assigns_or_rests n generation until actors.Manager from is = inl (rests_hold s all)
      assigns_or_rests n generation until (actors.Server m) from is = inl (rests_hold s all)
      assigns_or_rests n generation until (actors.User m) from is = inl (rests_hold s all)

      renew_holds : (n generation until : ℕ) → p.from ≡ actors.Map → p.body ≡ bodies.Map (maps.Renew n generation until) → (held : Option RangeState) → range_of s.ranges n ≡ held → Keeps s (renew_rule s n generation until held)
      renew_holds n generation until from is None found = rests_hold s all
      renew_holds n generation until from is (Some r) found =
          if_elim (Keeps s) (r.load.generation == generation) _ _
          (λ t. record {
            ranges = set_all P s.ranges n (Some (record r { until = max r.until until })) (renews n generation until r found from is (eqb-true r.load.generation generation t)) all;
            asks = tt;
            count = no_less s.context.count;
            server = refl;
            session = refl;
            moment = refl;
            shows = tt;
          })
          (λ f. rests_hold s all)

      renews_or_rests : (n generation until : ℕ) (from : ActorId) → p.from ≡ from → p.body ≡ bodies.Map (maps.Renew n generation until) → Keeps s (map_rule s from (maps.Renew n generation until))
      renews_or_rests n generation until actors.Map from is = renew_holds n generation until from is (range_of s.ranges n) refl
      renews_or_rests n generation until (actors.Node m) from is = rests_hold s all
      renews_or_rests n generation until actors.Manager from is = rests_hold s all
      renews_or_rests n generation until (actors.Server m) from is = rests_hold s all
      renews_or_rests n generation until (actors.User m) from is = rests_hold s all

      answered_holds : (body : Body) → p.body ≡ body → Takes (numbered_rule s p (answered_number body))
      answered_holds body is = inl (numbered_holds (answered_number body) (ap answered_number is))

      taken_holds : (body : Body) → p.body ≡ body → Takes (taken_rule s p body)
      taken_holds (bodies.Map (maps.Assign n generation until)) is = assigns_or_rests n generation until p.from refl is
      taken_holds (bodies.Map (maps.Renew n generation until)) is = inl (renews_or_rests n generation until p.from refl is)
      taken_holds (bodies.Table body) is = inl (table_holds p body)
      taken_holds body is = answered_holds body is

      pub server_holds : Takes (server_rule s p p.body)
      server_holds = if_elim Takes (has_numbers s.context) _ _ (λ t. taken_holds p.body refl) (λ f. inl (rests_hold s all))

    -- ---- events

    checkpoints_hold : (n : ℕ) (combine : Bool) (held : Option RangeState) → range_of s.ranges n ≡ held → Keeps s (checkpoints_in s n combine held)
    checkpoints_hold n combine None is = rests_hold s all
    checkpoints_hold n combine (Some r) is =
        if_elim (Keeps s) (has_numbers s.context) _ _ (λ t. step_holds n _ (checkpoint_good (P n) s.context r combine (all.each n r is))) (λ f. rests_hold s all)

    pub checkpoint_holds : (n : ℕ) (combine : Bool) → Keeps s (server_checkpoint s n combine)
    checkpoint_holds n combine = if_elim (Keeps s) (is_some (checkpoint_refusal s n)) _ _ (λ t. rests_hold s all) (λ f. checkpoints_hold n combine (range_of s.ranges n) refl)

    splits_hold : (n : ℕ) (key : List ℕ) (held : Option RangeState) → range_of s.ranges n ≡ held → Keeps s (splits_in s n key held)
    splits_hold n key None is = rests_hold s all
    splits_hold n key (Some r) is =
        if_elim (Keeps s) (has_numbers s.context) _ _
        (λ t. record { ranges = set_all P s.ranges n (Some r) (all.each n r is) all; asks = (tt, tt); count = one_up s.context.count; server = refl; session = refl; moment = refl; shows = tt })
        (λ f. rests_hold s all)

    pub split_begins_holds : (n : ℕ) (key : List ℕ) → Keeps s (server_split s n key)
    split_begins_holds n key = if_elim (Keeps s) (is_some (split_refusal s n key)) _ _ (λ t. rests_hold s all) (λ f. splits_hold n key (range_of s.ranges n) refl)

    merges_hold : (left : ℕ) (two : Option TwoRanges) → Keeps s (merges_in s left two)
    merges_hold left None = rests_hold s all
    merges_hold left (Some two) =
        if_elim (Keeps s) (has_numbers s.context) _ _
        (λ t. record { ranges = all; asks = (tt, tt); count = one_up s.context.count; server = refl; session = refl; moment = refl; shows = tt }) (λ f. rests_hold s all)

    pub merge_begins_holds : (left right : ℕ) → Keeps s (server_merge s left right)
    merge_begins_holds left right =
        if_elim (Keeps s) (is_some (merge_refusal s left right)) _ _ (λ t. rests_hold s all) (λ f. merges_hold left (pair_of (range_of s.ranges left) (range_of s.ranges right)))

    -- what a range asks for again was asked for
    given_up_step : (n : ℕ) (r : RangeState) → range_of s.ranges n ≡ Some r → StepHolds s.context n (give_up_all s.context r)
    given_up_step n r is =
        let rest = behind_quiet (P n) s.context r in
        record {
          after = all.each n r is;
          asks = subst (AreAsked post) (sym rest.1)
              (each_both (λ (p : Packet). IsAsked post p.body) (option_to_list (again r.load r.load.phase)) rest.0 (asked n r (all.each n r is)) (quiet_asked post rest.0 rest.2));
          count = omega arith;
          shows = tt;
        }

    gives_up_holds : (n : ℕ) (held : Option RangeState) → range_of s.ranges n ≡ held → HoldsIf post P Shown s (gives_up s n held)
    gives_up_holds n None is = tt
    gives_up_holds n (Some r) is = if_elim (Keeps s) (has_numbers s.context) _ _ (λ t. given_up_holds s all n (give_up_all s.context r) (given_up_step n r is)) (λ f. rests_hold s all)

  -- the nodes that it picks are others
  pub give_up_holds : (s : ServerState) (pick : Nodes) (n : ℕ) → AllHold P s.ranges → HoldsIf post P Shown (picked s pick) (give_up_rule s n pick)
  give_up_holds s pick n all = gives_up_holds (picked s pick) all n (range_of s.ranges n) refl
