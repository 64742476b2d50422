-- A step of a server: each of its splits goes on from its stage or begins, and holds its range.
use Rattle.std.proofs.Common.{◌≡◌, ◌≤◌, ℕ, ◌==◌, Bool, true, false, not, ◌||◌, List, [], ◌∷◌, ◌++◌, Option, Some, None, Contains, is_some, refl, sym, ap, ◌∙◌, subst, inl, inr, arith, if◌then◌else◌}
use Rattle.std.specs.Prelude.{max, cond}
use Rattle.std.specs.Map.{lookup, set_value}
use Rattle.std.specs.BTreeMap.{is_at, insert_entry}
use Rattle.std.specs.Ordering.{nat_cmp, is_eq}
use Rattle.std.proofs.lemmas.Bool.{eqb-true, eqb-false}
use Rattle.std.proofs.lemmas.Option.{same_Some}
use Rattle.std.proofs.lemmas.List.Elements.{Contains-append_right}
use Rattle.wire.specs.declared.actor.ActorId.{ActorId}
use Rattle.wire.specs.declared.actor.ActorId.TheVariants as actors
use Rattle.wire.specs.declared.actor.ReqNo.{ReqNo}
use Rattle.wire.specs.declared.actor.ReqNo.TheVariants as requests
use Rattle.wire.specs.declared.body.MapBody.{MapBody}
use Rattle.wire.specs.declared.body.MapBody.TheVariants as maps
use Rattle.wire.specs.declared.body.TableBody.{TableBody}
use Rattle.wire.specs.declared.body.TableBody.TheVariants as tables
use Rattle.wire.specs.declared.body.StreamBody.{StreamBody}
use Rattle.wire.specs.declared.body.StreamBody.TheVariants as streams
use Rattle.wire.specs.declared.body.Body.{Body}
use Rattle.wire.specs.declared.body.Body.TheVariants as bodies
use Rattle.wire.specs.declared.packet.Packet.{Packet}
use Rattle.wire.specs.declared.refusal.Refusal.TheVariants as refusals
use Rattle.wire.specs.declared.transaction.Change.{Change}
use Rattle.client.specs.Load.{open_packet}
use Rattle.model_streams.specs.Outcome.{packet}
use Rattle.model_streams.proofs.Tests.{if_elim, none_met}
use Rattle.model_partition.specs.declared.server_context.ServerContext.{ServerContext}
use Rattle.model_partition.specs.declared.split_job.SplitJob.{SplitJob}
use Rattle.model_partition.specs.Range.{RangeState, RangeOutcome, request, used, is_serving, is_paused}
use Rattle.model_partition.specs.Map.{is_split_key}
use Rattle.model_partition.specs.Serving.{transact_rule}
use Rattle.model_partition.specs.Getting.{get_rule}
use Rattle.model_partition.specs.Checkpoints.{checkpoint_rule}
use Rattle.model_partition.specs.Splits.{SplitStep, split_fault, new_split, begin_packet, split_rule, build_packet, split_reply, follows}
use Rattle.model_partition.specs.Splits.{gives_up as split_gives_up}
use Rattle.model_partition.specs.Answering.{answered_number, is_answerer, answer_rule, give_up_all}
use Rattle.model_partition.specs.Server.{ServerState, ServerOutcome, range_of, set_range, awaiting, rests, split_of, set_split, split_awaiting, split_stepped, counted, stepped_splitting, stepped_with, stepped, new_range, users_of, is_newer, assign_rule, renew_rule, map_rule, told_by_map, transacts_in, gets_in, table_rule, answer_in, split_answer_in, split_answer, answer_of, numbered_rule, taken_rule, has_numbers, server_rule, given_up_splitting, given_up_with, given_up, merge_with, gives_up, has_jobs, checkpoint_refusal, checkpoints_in, server_checkpoint, split_refused, split_refusal, splits_in, server_split}
use Rattle.laws_map.proofs.Unmerged.{stepped_unmerged, given_up_unmerged, assigned_unmerged, answer_unmerged, unawaited_merge}
use Rattle.laws_map.specs.Naming.{AreFor, Knowledge, RangeNames, JobNames, ServerNames}
use Rattle.laws_map.specs.Stages.{TellsBuilt, IsNew, JobMoves, AsksOfStreams, AsksOfMap, AsksOf, JobBegins, JobFrom, StagesGo}
use Rattle.laws_map.proofs.ClientNames.{for_both}
use Rattle.laws_map.proofs.Knowing.{found_at, each_weaker, each_both}
use Rattle.laws_map.proofs.Lookups.{removed_other, put_other, inserted_other, removed_here, inserted_here}
use Rattle.laws_map.proofs.Rising.{awaits_itself}
use Rattle.laws_map.proofs.RangeNames.{no_less, IfUnder, Good, refused_for, transact_good, get_good, checkpoint_good, answer_good, give_up_good}
use Rattle.laws_map.proofs.SplitStages.{plain, HeldIf, MovesIf, SplitMoves, replies_move, follows_move, gives_up_moves}

-- ---- what is there

abbrev pub IsHeld : List (ℕ × RangeState) → ℕ → Type 0
IsHeld ranges k = (r : RangeState) × (range_of ranges k ≡ Some r)

-- each split is of a range that is held
abbrev pub AreHeld : ServerState → Type 0
AreHeld s = (k : ℕ) (job : SplitJob) → split_of s.splits k ≡ Some job → IsHeld s.ranges k

-- what is put in the place of another is there
put_found : {A : Type 0} (xs : List (ℕ × A)) (k : ℕ) (r v : A) → lookup (is_at (nat_cmp k)) xs ≡ Some r → lookup (is_at (nat_cmp k)) (set_value (is_at (nat_cmp k)) xs v) ≡ Some v
put_found [] k r v is = absurd cc
put_found (x ∷ xs) k r v is = go (is_eq (nat_cmp k x.0)) refl is (put_found xs k r v)
  where
    go : (b : Bool) → is_eq (nat_cmp k x.0) ≡ b → cond b (Some x.1) (lookup (is_at (nat_cmp k)) xs) ≡ Some r → (lookup (is_at (nat_cmp k)) xs ≡ Some r → lookup (is_at (nat_cmp k)) (set_value (is_at (nat_cmp k)) xs v) ≡ Some v) →
        lookup (is_at (nat_cmp k)) (cond b ((x.0, v) ∷ xs) (x ∷ set_value (is_at (nat_cmp k)) xs v)) ≡ Some v
    go true e is rest = ap (λ b. cond b (Some v) (lookup (is_at (nat_cmp k)) xs)) e
    go false e is rest = ap (λ b. cond b (Some x.1) (lookup (is_at (nat_cmp k)) (set_value (is_at (nat_cmp k)) xs v))) e ∙ rest is

module _ (Heard : ReqNo → Type 0) (K : Knowledge) (s : ServerState) (n : ServerNames K s) (held : AreHeld s) where
  abbrev pub Goes : ServerOutcome → Type 0
  Goes o = StagesGo Heard s o

  same_job : (packets : List Packet) (job : SplitJob) → JobMoves Heard s.context job packets job
  same_job packets job = record { range = refl; generation = refl; key = refl; stage = omega arith; low = λ l. refl; high = λ l. refl; said = λ l. inl l; builds = λ q is. inl refl }

  from_same : (k : ℕ) (job : SplitJob) (packets : List Packet) → split_of s.splits k ≡ Some job → JobFrom Heard s k (split_of s.splits k) packets job
  from_same k job packets is = subst (λ o. JobFrom Heard s k o packets job) (sym is) (same_job packets job)

  rests_go : Goes (rests s)
  rests_go = record { at = 0; jobs = λ k job is. (held k job is, from_same k job [] is); asks = tt }

  -- ---- ranges and splits of other numbers

  other_ranges : (x : ℕ) (R : Option RangeState) (k : ℕ) → (k ≡ x → ⊥) → range_of (set_range s.ranges x R) k ≡ range_of s.ranges k
  other_ranges x None k apart = removed_other s.ranges x k apart
  other_ranges x (Some v) k apart = put_other s.ranges x k v apart

  other_splits : (x : ℕ) (J : Option SplitJob) (k : ℕ) → (k ≡ x → ⊥) → split_of (set_split s.splits x J) k ≡ split_of s.splits k
  other_splits x None k apart = removed_other s.splits x k apart
  other_splits x (Some v) k apart = inserted_other s.splits x k v apart

  here_split : (x : ℕ) (J : Option SplitJob) (job : SplitJob) → split_of (set_split s.splits x J) x ≡ Some job → J ≡ Some job
  here_split x None job is = absurd (removed_here s.splits x job n.rising is)
  here_split x (Some v) job is = sym (inserted_here s.splits x v) ∙ is

  range_there : (range : ℕ) (r : RangeState) → range_of s.ranges range ≡ Some r → RangeNames K range r
  range_there range r is = found_at (RangeNames K) s.ranges range r n.ranges is

  job_there : (range : ℕ) (job : SplitJob) → split_of s.splits range ≡ Some job → JobNames K range job
  job_there range job is = found_at (JobNames K) s.splits range job n.splits is

  -- ---- a step of a range that is not split

  module _ (x : ℕ) (r : RangeState) (found : range_of s.ranges x ≡ Some r) where
    -- a range other than this one is held still
    still_held : (R : Option RangeState) (k : ℕ) (job : SplitJob) → split_of s.splits k ≡ Some job → (k ≡ x → ⊥) → IsHeld (set_range s.ranges x R) k
    still_held R k job is apart = let h = held k job is in (h.0, other_ranges x R k apart ∙ h.1)

    alone_goes : (d : ServerContext) (R : Option RangeState) (packets : List Packet) (notes : _) → split_of s.splits x ≡ None → AreFor x (range_there x r found).generation packets →
        Goes (record { after = record s { context = d; ranges = set_range s.ranges x R }; packets = packets; notes = notes })
    alone_goes d R packets notes none for = record {
      at = 0;
      jobs = λ k job is. (still_held R k job is (λ same. absurd (let z : None ≡ Some job = sym none ∙ ap (split_of s.splits) (sym same) ∙ is in cc)), from_same k job packets is);
      asks = plain s.context (split_of s.splits 0) (split_of s.splits 0) d.count x (range_there x r found).generation packets for;
    }

    -- the range goes on and holds what it had
    renewed_goes : (v : RangeState) → Goes (record { after = record s { ranges = set_range s.ranges x (Some v) }; packets = []; notes = [] })
    renewed_goes v = record {
      at = 0;
      jobs = λ k job is. (go k (k == x) refl (held k job is), from_same k job [] is);
      asks = tt;
    }
      where
        go : (k : ℕ) (b : Bool) → (k == x) ≡ b → IsHeld s.ranges k → IsHeld (set_range s.ranges x (Some v)) k
        go k true e h = let same : k ≡ x = eqb-true k x e in (v, subst (λ j. range_of (set_range s.ranges x (Some v)) j ≡ Some v) (sym same) (put_found s.ranges x r v found))
        go k false e h = (h.0, other_ranges x (Some v) k (λ same. absurd (eqb-false k x e same)) ∙ h.1)

    -- ---- with its split

    module _ (job : SplitJob) (has : split_of s.splits x ≡ Some job) where
      -- what is asked of a count that is reached later
      module _ (c : ServerContext) (server : c.server ≡ s.context.server) (session : c.session ≡ s.context.session) (less : s.context.count ≤ c.count) (J : Option SplitJob) (upto : ℕ) where
        abbrev later : Option SplitJob
        later = split_of (set_split s.splits x J) x

        left_on : (j : SplitJob) → J ≡ Some j → later ≡ Some j
        left_on j is = ap (λ o. split_of (set_split s.splits x o) x) is ∙ inserted_here s.splits x j

        new_on : (q : ReqNo) → IsNew c upto q → IsNew s.context upto q
        new_on q w = record {
          count = w.count;
          is = w.is ∙ ap (λ i. requests.Server i c.session w.count) server ∙ ap (λ i. requests.Server s.context.server i w.count) session;
          from = (let f = w.from in omega (arith, f, less));
          below = w.below;
        }

        streams_on : (body : StreamBody) → AsksOfStreams c (Some job) J upto body → AsksOfStreams s.context (split_of s.splits x) later upto body
        streams_on (streams.MultiModify list q) a = record { job = a.job; left = left_on a.job a.left; is = a.is; waits = a.waits; new = elim a.new [ inl old ↦ inl (has ∙ old) | inr new ↦ inr (new_on q new) ] }
        streams_on (streams.CreateStream name fence q) a = absurd a
        streams_on body a = tt

        map_on : (body : MapBody) → AsksOfMap c (Some job) J upto body → AsksOfMap s.context (split_of s.splits x) later upto body
        map_on (maps.CompleteSplit range generation q) a = record { job = a.job; left = left_on a.job a.left; range_is = a.range_is; generation_is = a.generation_is; ends = a.ends }
        map_on body a = tt

        asks_on : (body : Body) → AsksOf c (Some job) J upto body → AsksOf s.context (split_of s.splits x) later upto body
        asks_on (bodies.Stream body) a = streams_on body a
        asks_on (bodies.Map body) a = map_on body a
        asks_on body a = tt

      moved_on : (c : ServerContext) → c.server ≡ s.context.server → (before after : List Packet) (j : SplitJob) → JobMoves Heard c job after j → JobMoves Heard s.context job (before ++ after) j
      moved_on c server before after j m = record {
        range = m.range;
        generation = m.generation;
        key = m.key;
        stage = m.stage;
        low = m.low;
        high = m.high;
        said = m.said;
        builds = λ q is. elim (m.builds q is) [
          | inl same ↦ inl same
          | inr sent ↦ inr (Contains-append_right before after _ (subst (λ i. Contains after (packet (actors.Server i) actors.Manager (build_packet c j q).body)) server sent))
        ];
      }

      with_goes : (c : ServerContext) (server : c.server ≡ s.context.server) (session : c.session ≡ s.context.session) (less : s.context.count ≤ c.count) (before : List Packet) (notes : _) (t : SplitStep) → AreFor x (range_there x r found).generation before →
          SplitMoves Heard c job t → Goes (record { after = record s { context = record s.context { count = t.count }; ranges = set_range s.ranges x t.range; splits = set_split s.splits x t.job }; packets = before ++ t.packets; notes = notes })
      with_goes c server session less before notes t for m = record {
        at = x;
        jobs = jobs;
        asks = each_both (λ (p : Packet). AsksOf s.context (split_of s.splits x) (split_of (set_split s.splits x t.job) x) t.count p.body) before t.packets
            (plain s.context (split_of s.splits x) (split_of (set_split s.splits x t.job) x) t.count x (range_there x r found).generation before for)
            (each_weaker (λ (p : Packet). AsksOf c (Some job) t.job t.count p.body) (λ (p : Packet). AsksOf s.context (split_of s.splits x) (split_of (set_split s.splits x t.job) x) t.count p.body)
            (λ p a. asks_on c server session less t.job t.count p.body a) t.packets m.asks);
      }
        where
          own_held : (R : Option RangeState) (J : Option SplitJob) → HeldIf R J → (j : SplitJob) → J ≡ Some j → IsHeld (set_range s.ranges x R) x
          own_held None None h j is = absurd cc
          own_held None (Some y) h j is = absurd h
          own_held (Some z) J h j is = (z, put_found s.ranges x r z found)

          own_moves : (J : Option SplitJob) → MovesIf Heard c job t.packets J → (j : SplitJob) → J ≡ Some j → JobMoves Heard s.context job (before ++ t.packets) j
          own_moves None h j is = absurd cc
          own_moves (Some y) h j is = moved_on c server before t.packets j (subst (JobMoves Heard c job t.packets) (same_Some y j is) h)

          jobs : (k : ℕ) (j : SplitJob) → split_of (set_split s.splits x t.job) k ≡ Some j → IsHeld (set_range s.ranges x t.range) k × JobFrom Heard s k (split_of s.splits k) (before ++ t.packets) j
          jobs k j is = go (k == x) refl
            where
              go : (b : Bool) → (k == x) ≡ b → IsHeld (set_range s.ranges x t.range) k × JobFrom Heard s k (split_of s.splits k) (before ++ t.packets) j
              go true e =
                  let same : k ≡ x = eqb-true k x e in
                  let mine : t.job ≡ Some j = here_split x t.job j (subst (λ i. split_of (set_split s.splits x t.job) i ≡ Some j) same is) in (
                    subst (IsHeld (set_range s.ranges x t.range)) (sym same) (own_held t.range t.job m.held j mine),
                    subst (λ i. JobFrom Heard s i (split_of s.splits i) (before ++ t.packets) j) (sym same)
                        (subst (λ o. JobFrom Heard s x o (before ++ t.packets) j) (sym has) (own_moves t.job m.moves j mine)),
                  )
              go false e =
                  let apart : k ≡ x → ⊥ = λ same. absurd (eqb-false k x e same) in
                  let was : split_of s.splits k ≡ Some j = sym (other_splits x t.job k apart) ∙ is in
                  (still_held t.range k j was apart, from_same k j (before ++ t.packets) was)

      -- both go
      ends_go : (d : ServerContext) (packets : List Packet) (notes : _) → AreFor x (range_there x r found).generation packets →
          Goes (record { after = record s { context = d; ranges = set_range s.ranges x None; splits = set_split s.splits x None }; packets = packets; notes = notes })
      ends_go d packets notes for = record {
        at = x;
        jobs = λ k j is. go k j is (k == x) refl;
        asks = plain s.context (split_of s.splits x) (split_of (set_split s.splits x None) x) d.count x (range_there x r found).generation packets for;
      }
        where
          go : (k : ℕ) (j : SplitJob) → split_of (set_split s.splits x None) k ≡ Some j → (b : Bool) → (k == x) ≡ b → IsHeld (set_range s.ranges x None) k × JobFrom Heard s k (split_of s.splits k) packets j
          go k j is true e = absurd (removed_here s.splits x j n.rising (subst (λ i. split_of (set_split s.splits x None) i ≡ Some j) (eqb-true k x e) is))
          go k j is false e =
              let apart : k ≡ x → ⊥ = λ same. absurd (eqb-false k x e same) in
              let was : split_of s.splits k ≡ Some j = sym (other_splits x None k apart) ∙ is in
              (still_held None k j was apart, from_same k j packets was)

    -- ---- a step of the range, and what its split then does

    abbrev GoodStep : RangeOutcome → Type 0
    GoodStep o = Good x (range_there x r found).generation s.context o

    left_names : (o : RangeOutcome) → GoodStep o → (v : RangeState) → o.after ≡ Some v → RangeNames K x v
    left_names o g v is = record { generation = (range_there x r found).generation; under = subst (IfUnder x (range_there x r found).generation) is g.0; known = (range_there x r found).known }

    stepped_goes : (o : RangeOutcome) → GoodStep o → Goes (stepped s x o)
    stepped_goes o g = subst Goes (sym (stepped_unmerged s n.merges x o)) (go (split_of s.splits x) refl)
      where
        by : (job : SplitJob) → split_of s.splits x ≡ Some job → (R : Option RangeState) → o.after ≡ R → Goes (stepped_splitting s x job o R)
        by job has None is = ends_go job has (counted s.context o) o.packets o.notes g.1
        by job has (Some v) is =
            with_goes job has (counted s.context o) refl refl g.2 o.packets o.notes (follows (counted s.context o) v job) g.1
            (follows_move Heard (counted s.context o) job K x v (left_names o g v is) (job_there x job has))

        go : (j : Option SplitJob) → split_of s.splits x ≡ j → Goes (stepped_with s x j o)
        go None has = alone_goes (counted s.context o) o.after o.packets o.notes has g.1
        go (Some job) has = by job has o.after refl

    given_up_goes : (o : RangeOutcome) → GoodStep o → Goes (given_up s x (merge_with s.merges x) o)
    given_up_goes o g = subst Goes (sym (given_up_unmerged s n.merges x o)) (go (split_of s.splits x) refl)
      where
        by : (job : SplitJob) → split_of s.splits x ≡ Some job → (R : Option RangeState) → o.after ≡ R → Goes (given_up_splitting s x job o R)
        by job has None is = ends_go job has (counted s.context o) o.packets o.notes g.1
        by job has (Some v) is =
            with_goes job has (counted s.context o) refl refl g.2 o.packets o.notes (split_gives_up (counted s.context o) v job) g.1
            (gives_up_moves Heard (counted s.context o) job K x v (left_names o g v is) (job_there x job has))

        go : (j : Option SplitJob) → split_of s.splits x ≡ j → Goes (given_up_with s x j o)
        go None has = alone_goes (counted s.context o) o.after o.packets o.notes has g.1
        go (Some job) has = by job has o.after refl

  -- ---- what the map tells

  users_for : (range g : ℕ) (known : Option RangeState) → AreFor range g (users_of s.context known)
  users_for range g None = tt
  users_for range g (Some r) = refused_for range g s.context r

  assign_goes : (range generation until : ℕ) (known : Option RangeState) → Goes (assign_rule s range generation until known)
  assign_goes range generation until known =
      if_elim Goes (is_newer generation known) _ _ (λ t. subst (λ z. Goes (record { after = z; packets = packets; notes = [] })) (sym (assigned_unmerged s n.merges opened range)) opens) (λ f. rests_go)
    where
      opened : ServerState
      opened =
          record s {
            context = used s.context;
            ranges = insert_entry nat_cmp s.ranges range (new_range s.context range generation until);
            splits = set_split s.splits range None;
          }

      packets : List Packet
      packets = users_of s.context known ++ open_packet s.context.server range generation (request s.context) ∷ []

      go : (k : ℕ) (j : SplitJob) → split_of (set_split s.splits range None) k ≡ Some j → (b : Bool) → (k == range) ≡ b → IsHeld opened.ranges k × JobFrom Heard s k (split_of s.splits k) packets j
      go k j is true e = absurd (removed_here s.splits range j n.rising (subst (λ i. split_of (set_split s.splits range None) i ≡ Some j) (eqb-true k range e) is))
      go k j is false e =
          let apart : k ≡ range → ⊥ = λ same. absurd (eqb-false k range e same) in
          let was : split_of s.splits k ≡ Some j = sym (other_splits range None k apart) ∙ is in
          let h = held k j was in
          ((h.0, inserted_other s.ranges range k (new_range s.context range generation until) apart ∙ h.1), from_same k j packets was)

      opens : Goes (record { after = opened; packets = packets; notes = [] })
      opens = record {
        at = 0;
        jobs = λ k j is. go k j is (k == range) refl;
        asks = plain s.context (split_of s.splits 0) (split_of (set_split s.splits range None) 0) opened.context.count range generation packets
            (for_both range generation (users_of s.context known) (open_packet s.context.server range generation (request s.context) ∷ []) (users_for range generation known) ((refl, refl), tt));
      }

  renew_goes : (range generation until : ℕ) (known : Option RangeState) → range_of s.ranges range ≡ known → Goes (renew_rule s range generation until known)
  renew_goes range generation until None is = rests_go
  renew_goes range generation until (Some r) is = if_elim Goes (r.load.generation == generation) _ _ (λ t. renewed_goes range r is (record r { until = max r.until until })) (λ f. rests_go)

  told_goes : (body : MapBody) → Goes (told_by_map s body)
  told_goes (maps.Assign range generation until) = assign_goes range generation until (range_of s.ranges range)
  told_goes (maps.Renew range generation until) = renew_goes range generation until (range_of s.ranges range) refl
  told_goes body = rests_go

  map_goes : (from : ActorId) (body : MapBody) → Goes (map_rule s from body)
  map_goes actors.Map body = told_goes body
  map_goes (actors.Node m) body = rests_go
  map_goes actors.Manager body = rests_go
  map_goes (actors.Server m) body = rests_go
  map_goes (actors.User m) body = rests_go

  -- ---- what users ask

  refuses_go : (range generation : ℕ) (p : Packet) → AreFor range generation (p ∷ []) → Goes (record { after = s; packets = p ∷ []; notes = [] })
  refuses_go range generation p for = record {
    at = 0;
    jobs = λ k job is. (held k job is, from_same k job (p ∷ []) is);
    asks = plain s.context (split_of s.splits 0) (split_of s.splits 0) s.context.count range generation (p ∷ []) for;
  }

  transacts_go : (p : Packet) (range : ℕ) (changes : List Change) (q : ReqNo) (known : Option RangeState) → range_of s.ranges range ≡ known → Goes (transacts_in s p range changes q known)
  transacts_go p range changes q None is = refuses_go 0 0 _ (tt, tt)
  transacts_go p range changes q (Some r) is = let h = range_there range r is in stepped_goes range r is (transact_rule s.context r p.from q changes) (transact_good range h.generation s.context r p.from q changes h.under)

  gets_go : (p : Packet) (range : ℕ) (key : List ℕ) (q : ReqNo) (known : Option RangeState) → range_of s.ranges range ≡ known → Goes (gets_in s p range key q known)
  gets_go p range key q None is = refuses_go 0 0 _ (tt, tt)
  gets_go p range key q (Some r) is = let h = range_there range r is in stepped_goes range r is (get_rule s.context r p.from q key) (get_good range h.generation s.context r p.from q key h.under)

  table_goes : (p : Packet) (body : TableBody) → Goes (table_rule s p body)
  table_goes p (tables.Transact range changes q) = transacts_go p range changes q (range_of s.ranges range) refl
  table_goes p (tables.Get range key q) = gets_go p range key q (range_of s.ranges range) refl
  table_goes p body = rests_go

  -- ---- answers

  answer_in_goes : (p : Packet) (w : ReqNo) (range : ℕ) (known : Option RangeState) → range_of s.ranges range ≡ known → Goes (answer_in s p w range known)
  answer_in_goes p w range None is = rests_go
  answer_in_goes p w range (Some r) is =
      let h = range_there range r is in
      subst Goes (sym (answer_unmerged s n.merges p w range r)) (stepped_goes range r is (answer_rule s.context r w p.body) (answer_good range h.generation s.context r w p.body h.under))

  module _ (p : Packet) (hears : (q : ReqNo) → is_answerer p.from p.body ≡ true → TellsBuilt q p.body → Heard q) where
    module _ (may : is_answerer p.from p.body ≡ true) (w : ReqNo) (number : answered_number p.body ≡ Some w) where
      split_answer_in_goes : (range : ℕ) → split_awaiting s.splits w ≡ Some range → (known : Option RangeState) → range_of s.ranges range ≡ known → (job : Option SplitJob) → split_of s.splits range ≡ job → Goes (split_answer_in s p range known job)
      split_answer_in_goes range waits (Some r) is (Some job) has =
          with_goes range r is job has s.context refl refl (no_less s.context.count) [] [] (split_reply s.context r job p.body) tt
          (replies_move Heard s.context job K range r (range_there range r is) (job_there range job has) p.body w number (awaits_itself s.splits w range job n.rising waits has) (λ q. hears q may))
      split_answer_in_goes range waits (Some r) is None has = rests_go
      split_answer_in_goes range waits None is job has = rests_go

      split_answer_goes : (range : Option ℕ) → split_awaiting s.splits w ≡ range → Goes (split_answer s p w range)
      split_answer_goes None waits = subst Goes (sym (unawaited_merge s n.merges p w)) rests_go
      split_answer_goes (Some range) waits = split_answer_in_goes range waits (range_of s.ranges range) refl (split_of s.splits range) refl

      answer_of_goes : (range : Option ℕ) → Goes (answer_of s p w range)
      answer_of_goes None = split_answer_goes (split_awaiting s.splits w) refl
      answer_of_goes (Some range) = answer_in_goes p w range (range_of s.ranges range) refl

    numbered_goes : (number : Option ReqNo) → answered_number p.body ≡ number → Goes (numbered_rule s p number)
    numbered_goes None is = rests_go
    numbered_goes (Some w) is = if_elim Goes (is_answerer p.from p.body) _ _ (λ t. answer_of_goes t w is (awaiting s.ranges w)) (λ f. rests_go)

    taken_goes : (body : Body) → p.body ≡ body → Goes (taken_rule s p body)
    taken_goes (bodies.Map (maps.Assign range generation until)) is = map_goes p.from (maps.Assign range generation until)
    taken_goes (bodies.Map (maps.Renew range generation until)) is = map_goes p.from (maps.Renew range generation until)
    taken_goes (bodies.Table body) is = table_goes p body
    taken_goes body is = numbered_goes (answered_number body) (ap answered_number is)

    pub server_stages : Goes (server_rule s p p.body)
    server_stages = if_elim Goes (has_numbers s.context) _ _ (λ t. taken_goes p.body refl) (λ f. rests_go)

  -- ---- checkpoints and splits

  checkpoints_go : (range : ℕ) (combine : Bool) (known : Option RangeState) → range_of s.ranges range ≡ known → Goes (checkpoints_in s range combine known)
  checkpoints_go range combine None is = rests_go
  checkpoints_go range combine (Some r) is =
      if_elim Goes (has_numbers s.context) _ _
      (λ t. (let h = range_there range r is in stepped_goes range r is (checkpoint_rule s.context r combine) (checkpoint_good range h.generation s.context r combine h.under))) (λ f. rests_go)

  pub checkpoint_stages : (range : ℕ) (combine : Bool) → Goes (server_checkpoint s range combine)
  checkpoint_stages range combine = if_elim Goes (is_some (checkpoint_refusal s range)) _ _ (λ t. rests_go) (λ f. checkpoints_go range combine (range_of s.ranges range) refl)

  -- a split begins of a range that is not split
  begins_go : (range : ℕ) (key : List ℕ) (r : RangeState) → range_of s.ranges range ≡ Some r → is_serving r.stage ≡ true → split_of s.splits range ≡ None → Goes (split_stepped s range (split_rule s.context r key))
  begins_go range key r found serves free = record { at = 0; jobs = λ k j is. go k j is (k == range) refl; asks = (tt, tt) }
    where
      job : SplitJob
      job = new_split s.context r key

      sent : List Packet
      sent = begin_packet s.context job (request s.context) ∷ []

      go : (k : ℕ) (j : SplitJob) → split_of (set_split s.splits range (Some job)) k ≡ Some j → (b : Bool) → (k == range) ≡ b → IsHeld (set_range s.ranges range (Some r)) k × JobFrom Heard s k (split_of s.splits k) sent j
      go k j is true e =
          let same : k ≡ range = eqb-true k range e in
          let mine : job ≡ j = same_Some job j (here_split range (Some job) j (subst (λ i. split_of (set_split s.splits range (Some job)) i ≡ Some j) same is)) in (
            (r, subst (λ i. range_of (set_range s.ranges range (Some r)) i ≡ Some r) (sym same) (put_found s.ranges range r r found)),
            subst (λ i. JobFrom Heard s i (split_of s.splits i) sent j) (sym same)
                (subst (λ o. JobFrom Heard s range o sent j) (sym free) (subst (JobBegins s.ranges range) mine (record { first = refl; held = r; found = found; serves = serves; range = refl; generation = refl }))),
          )
      go k j is false e =
          let apart : k ≡ range → ⊥ = λ same. absurd (eqb-false k range e same) in
          let was : split_of s.splits k ≡ Some j = sym (other_splits range (Some job) k apart) ∙ is in
          (still_held range r found (Some r) k j was apart, from_same k j sent was)

  or_parts : (b c : Bool) → (b || c) ≡ false → b ≡ false
  or_parts true c e = absurd cc
  or_parts false c e = refl

  not_false : (b : Bool) → not b ≡ false → b ≡ true
  not_false true e = refl
  not_false false e = absurd cc

  none_there : {A : Type 0} (o : Option A) → is_some o ≡ false → o ≡ None
  none_there None e = refl
  none_there (Some x) e = absurd cc

  splits_go : (range : ℕ) (key : List ℕ) (known : Option RangeState) → range_of s.ranges range ≡ known → is_some (split_refused (has_jobs s range) key known) ≡ false → Goes (splits_in s range key known)
  splits_go range key None is free = rests_go
  splits_go range key (Some r) is free =
      let met = none_met (
      (refusals.Loading, not (is_serving r.stage))
      ∷ (refusals.Paused, is_paused r.pause)
      ∷ (refusals.Busy, has_jobs s range || (is_some r.control || is_some r.fixed))
      ∷ (refusals.BadSplitKey, not (is_split_key r.said.keys key))
      ∷ []) (none_there (split_fault r (has_jobs s range) key) free) in
      let idle : split_of s.splits range ≡ None = none_there (split_of s.splits range) (or_parts (is_some (split_of s.splits range)) (is_some (merge_with s.merges range)) (or_parts (has_jobs s range) (is_some r.control || is_some r.fixed) met.1.1.0)) in
      if_elim Goes (has_numbers s.context) _ _ (λ t. begins_go range key r is (not_false (is_serving r.stage) met.0) idle) (λ f. rests_go)

  pub split_stages : (range : ℕ) (key : List ℕ) → Goes (server_split s range key)
  split_stages range key = by (is_some (split_refusal s range key)) refl
    where
      by : (b : Bool) → is_some (split_refusal s range key) ≡ b → Goes (if b then rests s else splits_in s range key (range_of s.ranges range))
      by true e = rests_go
      by false e = splits_go range key (range_of s.ranges range) refl e

  -- ---- giving up

  abbrev pub GoesIf : Option ServerOutcome → Type 0
  GoesIf None = Unit {0}
  GoesIf (Some o) = Goes o

  gives_up_go : (range : ℕ) (known : Option RangeState) → range_of s.ranges range ≡ known → GoesIf (gives_up s range known)
  gives_up_go range None is = tt
  gives_up_go range (Some r) is =
      if_elim Goes (has_numbers s.context) _ _ (λ t. (let h = range_there range r is in given_up_goes range r is (give_up_all s.context r) (give_up_good range h.generation s.context r h.under))) (λ f. rests_go)

  pub give_up_stages : (range : ℕ) → GoesIf (gives_up s range (range_of s.ranges range))
  give_up_stages range = gives_up_go range (range_of s.ranges range) refl
