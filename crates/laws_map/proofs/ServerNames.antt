-- A step of a server leaves its ranges and their splits with what is known, and asks for that.
use Rattle.std.proofs.Common.{◌≡◌, ◌≤◌, ℕ, ◌==◌, Bool, true, false, List, [], ◌∷◌, ◌++◌, Option, Some, None, is_some, if◌then◌else◌, refl, sym, ap, ◌∙◌, subst, inl, inr}
use Rattle.std.specs.BTreeMap.{insert_entry}
use Rattle.std.specs.Ordering.{nat_cmp}
use Rattle.block_types.specs.declared.record.Nodes.{Nodes}
use Rattle.wire.specs.declared.actor.ActorId.{ActorId}
use Rattle.wire.specs.declared.actor.ActorId.TheVariants as actors
use Rattle.wire.specs.declared.actor.ReqNo.{ReqNo}
use Rattle.wire.specs.declared.body.AppendBody.{AppendBody}
use Rattle.wire.specs.declared.body.AppendBody.TheVariants as appends
use Rattle.wire.specs.declared.body.MapBody.TheVariants as maps
use Rattle.wire.specs.declared.body.TableBody.{TableBody}
use Rattle.wire.specs.declared.body.TableBody.TheVariants as tables
use Rattle.wire.specs.declared.body.Body.{Body}
use Rattle.wire.specs.declared.body.Body.TheVariants as bodies
use Rattle.wire.specs.declared.packet.Packet.{Packet}
use Rattle.wire.specs.declared.transaction.Change.{Change}
use Rattle.client.specs.Load.{open_packet}
use Rattle.model_streams.proofs.Tests.{if_elim}
use Rattle.model_streams.specs.Actors.{is_user}
use Rattle.model_partition.specs.declared.server_context.ServerContext.{ServerContext}
use Rattle.model_partition.specs.declared.split_job.SplitJob.{SplitJob}
use Rattle.model_partition.specs.Range.{RangeState, RangeOutcome, request, used}
use Rattle.model_partition.specs.Serving.{transact_rule}
use Rattle.model_partition.specs.Getting.{get_rule}
use Rattle.model_partition.specs.Checkpoints.{checkpoint_rule}
use Rattle.model_partition.specs.Splits.{SplitStep, new_split, begin_packet, split_rule}
use Rattle.model_partition.specs.Answering.{answered_number, is_answerer, answer_rule, give_up_all}
use Rattle.model_partition.specs.Server.{ServerState, ServerOutcome, range_of, set_range, awaiting, rests, split_of, set_split, split_awaiting, split_stepped, counted, stepped_alone, behind_these, ended_with, stepped_splitting, stepped_with, stepped, new_range, users_of, is_newer, assign_rule, renew_rule, map_rule, transacts_in, gets_in, table_rule, answer_in, split_answer_in, split_answer, answer_of, numbered_rule, taken_rule, has_numbers, server_rule, given_up_splitting, given_up_with, given_up, merge_with, gives_up, picked, give_up_rule, moment_rule, checkpoint_refusal, checkpoints_in, server_checkpoint, split_refusal, splits_in, server_split}
use Rattle.laws_map.proofs.Unmerged.{stepped_unmerged, given_up_unmerged, assigned_unmerged, answer_unmerged, unawaited_merge}
use Rattle.laws_map.specs.Naming.{IsRising, AreFor, Knowledge, BodyNames, PacketNames, RangeNames, JobNames, ServerNames}
use Rattle.laws_map.proofs.ClientNames.{for_both}
use Rattle.laws_map.proofs.Knowing.{EachAt, found_at, removed_at, put_at, inserted_at, each_both, AllName, are_named}
use Rattle.laws_map.proofs.Rising.{rising_removed, rising_inserted, awaits_itself}
use Rattle.laws_map.proofs.RangeNames.{no_less, one_up, on_and_on, Good, refused_for, transact_good, get_good, checkpoint_good, answer_good, give_up_good}
use Rattle.laws_map.proofs.SplitNames.{Laws, RangeIf, JobIf, Step, range_if, split_step, split_reply_step, follows_step, split_gives_up_step}

-- ---- who answers

-- no user does
user_refuses : (u : ℕ) (body : AppendBody) → is_answerer (actors.User u) (bodies.Append body) ≡ true → ⊥
user_refuses u (appends.Refused w refusal) is = absurd cc
user_refuses u body is = absurd cc

user_answers : (from : ActorId) (body : Body) → is_user from ≡ true → is_answerer from body ≡ true → ⊥
user_answers (actors.User u) (bodies.Append body) user is = user_refuses u body is
user_answers (actors.User u) (bodies.Check body) user is = absurd cc
user_answers (actors.User u) (bodies.Seal body) user is = absurd cc
user_answers (actors.User u) (bodies.Read body) user is = absurd cc
user_answers (actors.User u) (bodies.Stream body) user is = absurd cc
user_answers (actors.User u) (bodies.Map body) user is = absurd cc
user_answers (actors.User u) (bodies.Table body) user is = absurd cc
user_answers from body user is = absurd cc

-- a split that is not refused begins
splits_at : (s : ServerState) (range : ℕ) (key : List ℕ) (r : RangeState) → is_some (split_refusal s range key) ≡ false → range_of s.ranges range ≡ Some r → has_numbers s.context ≡ true →
    server_split s range key ≡ split_stepped s range (split_rule s.context r key)
splits_at s range key r free is numbers =
    ap (λ b. if b then rests s else splits_in s range key (range_of s.ranges range)) free
    ∙ ap (splits_in s range key) is
    ∙ ap (λ b. if b then split_stepped s range (split_rule s.context r key) else rests s) numbers

-- the split that begins is asked for under the number of its request
abbrev pub AsksFor : Knowledge → ServerState → ℕ → List ℕ → Type 0
AsksFor K s range key =
    (r : RangeState) → (server_split s range key).packets ≡ begin_packet s.context (new_split s.context r key) (request s.context) ∷ [] → K.asked (request s.context) r.load.range r.load.generation key

module _ (K : Knowledge) where
  -- what another than a user sends names what is known
  pub answer_names : (p : Packet) → PacketNames K p → is_answerer p.from p.body ≡ true → BodyNames K p.body
  answer_names p (inl asks) is = absurd (user_answers p.from p.body asks.0 is)
  answer_names p (inr names) is = names

  pub map_names : (p : Packet) (body : Body) → p.from ≡ actors.Map → p.body ≡ body → PacketNames K p → BodyNames K body
  map_names p body from is (inl asks) = absurd (let z : is_user actors.Map ≡ true = subst (λ (a : ActorId). is_user a ≡ true) from asks.0 in cc)
  map_names p body from is (inr names) = subst (BodyNames K) is names

  -- ---- ranges and splits by their numbers

  ranges_set : (rs : List (ℕ × RangeState)) (n : ℕ) (o : Option RangeState) → EachAt (RangeNames K) rs → RangeIf K n o → EachAt (RangeNames K) (set_range rs n o)
  ranges_set rs n None a h = removed_at (RangeNames K) rs n a
  ranges_set rs n (Some r) a h = put_at (RangeNames K) rs n r a h

  splits_set : (js : List (ℕ × SplitJob)) (n : ℕ) (o : Option SplitJob) → EachAt (JobNames K) js → JobIf K n o → EachAt (JobNames K) (set_split js n o)
  splits_set js n None a h = removed_at (JobNames K) js n a
  splits_set js n (Some job) a h = inserted_at (JobNames K) js n job a h

  splits_rise : (js : List (ℕ × SplitJob)) (n : ℕ) (o : Option SplitJob) → IsRising js → IsRising (set_split js n o)
  splits_rise js n None s = rising_removed js n s
  splits_rise js n (Some job) s = rising_inserted js n job s

  -- ---- a step

  -- It is left with what is known, and asks for that; it stays the same start of the same server, and its numbers go up.
  pub record ServerStep (s : ServerState) (o : ServerOutcome) : Type 0 where
    pub names : ServerNames K o.after
    pub packets : AllName K o.packets
    pub count : s.context.count ≤ o.after.context.count
    pub server : o.after.context.server ≡ s.context.server
    pub session : o.after.context.session ≡ s.context.session

  rests_step : (s : ServerState) → ServerNames K s → ServerStep s (rests s)
  rests_step s n = record { names = n; packets = tt; count = no_less s.context.count; server = refl; session = refl }

  module _ (laws : Laws K) (s : ServerState) (n : ServerNames K s) where
    range_there : (range : ℕ) (r : RangeState) → range_of s.ranges range ≡ Some r → RangeNames K range r
    range_there range r is = found_at (RangeNames K) s.ranges range r n.ranges is

    job_there : (range : ℕ) (job : SplitJob) → split_of s.splits range ≡ Some job → JobNames K range job
    job_there range job is = found_at (JobNames K) s.splits range job n.splits is

    split_stepped_step : (range : ℕ) (d : ServerContext) (t : SplitStep) → s.context.count ≤ d.count → Step K range d t → ServerStep s (split_stepped s range t)
    split_stepped_step range d t less h = record {
      names = record { ranges = ranges_set s.ranges range t.range n.ranges h.range; splits = splits_set s.splits range t.job n.splits h.job; rising = splits_rise s.splits range t.job n.rising; merges = n.merges };
      packets = h.packets;
      count = on_and_on s.context.count d.count t.count less h.count;
      server = refl;
      session = refl;
    }

    -- a step of a range under a generation that is known
    module _ (range g : ℕ) (known : K.assigned range g) (o : RangeOutcome) (good : Good range g s.context o) where
      named : AllName K o.packets
      named = are_named K range g o.packets (laws.leased range g known) good.1

      alone_step : ServerStep s (stepped_alone s range o)
      alone_step = record {
        names = record { ranges = ranges_set s.ranges range o.after n.ranges (range_if K range g o.after known good.0); splits = n.splits; rising = n.rising; merges = n.merges };
        packets = named;
        count = good.2;
        server = refl;
        session = refl;
      }

      ended_step : ServerStep s (ended_with s range o)
      ended_step = record {
        names = record { ranges = ranges_set s.ranges range None n.ranges tt; splits = splits_set s.splits range None n.splits tt; rising = splits_rise s.splits range None n.rising; merges = n.merges };
        packets = named;
        count = good.2;
        server = refl;
        session = refl;
      }

      behind_step : (t : SplitStep) → Step K range (counted s.context o) t → ServerStep s (behind_these o (split_stepped s range t))
      behind_step t h =
          let x = split_stepped_step range (counted s.context o) t good.2 h in
          record { names = x.names; packets = each_both (λ (p : Packet). BodyNames K p.body) o.packets t.packets named x.packets; count = x.count; server = refl; session = refl }

      stepped_step : ServerStep s (stepped s range o)
      stepped_step = subst (ServerStep s) (sym (stepped_unmerged s n.merges range o)) (go (split_of s.splits range) refl)
        where
          by : (job : SplitJob) → JobNames K range job → (a : Option RangeState) → RangeIf K range a → ServerStep s (stepped_splitting s range job o a)
          by job j None h = ended_step
          by job j (Some r) h = behind_step _ (follows_step K range laws (counted s.context o) r job h j)

          go : (x : Option SplitJob) → split_of s.splits range ≡ x → ServerStep s (stepped_with s range x o)
          go None is = alone_step
          go (Some job) is = by job (job_there range job is) o.after (range_if K range g o.after known good.0)

      given_up_step : ServerStep s (given_up s range (merge_with s.merges range) o)
      given_up_step = subst (ServerStep s) (sym (given_up_unmerged s n.merges range o)) (go (split_of s.splits range) refl)
        where
          by : (job : SplitJob) → JobNames K range job → (a : Option RangeState) → RangeIf K range a → ServerStep s (given_up_splitting s range job o a)
          by job j None h = ended_step
          by job j (Some r) h = behind_step _ (split_gives_up_step K range laws (counted s.context o) r job h j)

          go : (x : Option SplitJob) → split_of s.splits range ≡ x → ServerStep s (given_up_with s range x o)
          go None is = alone_step
          go (Some job) is = by job (job_there range job is) o.after (range_if K range g o.after known good.0)

    -- ---- what the map tells

    users_for : (range g : ℕ) (known : Option RangeState) → AreFor range g (users_of s.context known)
    users_for range g None = tt
    users_for range g (Some r) = refused_for range g s.context r

    assign_step : (range generation until : ℕ) (held : Option RangeState) → K.assigned range generation → ServerStep s (assign_rule s range generation until held)
    assign_step range generation until held known =
        if_elim (ServerStep s) (is_newer generation held) _ _
        (λ t. subst (λ z. ServerStep s (record { after = z; packets = packets; notes = [] })) (sym (assigned_unmerged s n.merges opened range)) (record {
          names = record {
            ranges = inserted_at (RangeNames K) s.ranges range (new_range s.context range generation until) n.ranges
                (record { generation = generation; under = (refl, refl, (refl, refl), (refl, refl), (refl, refl)); known = known });
            splits = splits_set s.splits range None n.splits tt;
            rising = splits_rise s.splits range None n.rising;
            merges = n.merges;
          };
          packets = are_named K range generation _ (laws.leased range generation known) (for_both range generation (users_of s.context held) (open_packet s.context.server range generation (request s.context) ∷ []) (users_for range generation held) ((refl, refl), tt));
          count = one_up s.context.count;
          server = refl;
          session = refl;
        }))
        (λ f. rests_step s n)
      where
        opened : ServerState
        opened =
            record s {
              context = used s.context;
              ranges = insert_entry nat_cmp s.ranges range (new_range s.context range generation until);
              splits = set_split s.splits range None;
            }

        packets : List Packet
        packets = users_of s.context held ++ open_packet s.context.server range generation (request s.context) ∷ []

    renew_step : (range generation until : ℕ) (held : Option RangeState) → range_of s.ranges range ≡ held → ServerStep s (renew_rule s range generation until held)
    renew_step range generation until None is = rests_step s n
    renew_step range generation until (Some r) is =
        if_elim (ServerStep s) (r.load.generation == generation) _ _
        (λ t. (let h = range_there range r is in record {
          names = record { ranges = ranges_set s.ranges range (Some _) n.ranges (record { generation = h.generation; under = h.under; known = h.known }); splits = n.splits; rising = n.rising; merges = n.merges };
          packets = tt;
          count = no_less s.context.count;
          server = refl;
          session = refl;
        }))
        (λ f. rests_step s n)

    assigned_step : (p : Packet) (range generation until : ℕ) → p.body ≡ bodies.Map (maps.Assign range generation until) → PacketNames K p → (from : ActorId) → p.from ≡ from →
        ServerStep s (map_rule s from (maps.Assign range generation until))
    assigned_step p range generation until is names actors.Map from =
        assign_step range generation until (range_of s.ranges range) (map_names p (bodies.Map (maps.Assign range generation until)) from is names)
    assigned_step p range generation until is names (actors.Node m) from = rests_step s n
    assigned_step p range generation until is names actors.Manager from = rests_step s n
    assigned_step p range generation until is names (actors.Server m) from = rests_step s n
    assigned_step p range generation until is names (actors.User m) from = rests_step s n

    renewed_step : (range generation until : ℕ) (from : ActorId) → ServerStep s (map_rule s from (maps.Renew range generation until))
    renewed_step range generation until actors.Map = renew_step range generation until (range_of s.ranges range) refl
    renewed_step range generation until (actors.Node m) = rests_step s n
    renewed_step range generation until actors.Manager = rests_step s n
    renewed_step range generation until (actors.Server m) = rests_step s n
    renewed_step range generation until (actors.User m) = rests_step s n

    -- ---- what users ask

    refuses_step : (p : Packet) → BodyNames K p.body → ServerStep s (record { after = s; packets = p ∷ []; notes = [] })
    refuses_step p b = record { names = n; packets = (b, tt); count = no_less s.context.count; server = refl; session = refl }

    transacts_step : (p : Packet) (range : ℕ) (changes : List Change) (q : ReqNo) (held : Option RangeState) → range_of s.ranges range ≡ held → ServerStep s (transacts_in s p range changes q held)
    transacts_step p range changes q None is = refuses_step _ tt
    transacts_step p range changes q (Some r) is =
        let h = range_there range r is in
        stepped_step range h.generation h.known (transact_rule s.context r p.from q changes) (transact_good range h.generation s.context r p.from q changes h.under)

    gets_step : (p : Packet) (range : ℕ) (key : List ℕ) (q : ReqNo) (held : Option RangeState) → range_of s.ranges range ≡ held → ServerStep s (gets_in s p range key q held)
    gets_step p range key q None is = refuses_step _ tt
    gets_step p range key q (Some r) is =
        let h = range_there range r is in
        stepped_step range h.generation h.known (get_rule s.context r p.from q key) (get_good range h.generation s.context r p.from q key h.under)

    table_step : (p : Packet) (body : TableBody) → ServerStep s (table_rule s p body)
    table_step p (tables.Transact range changes q) = transacts_step p range changes q (range_of s.ranges range) refl
    table_step p (tables.Get range key q) = gets_step p range key q (range_of s.ranges range) refl
    table_step p body = rests_step s n

    -- ---- answers

    answer_in_step : (p : Packet) (w : ReqNo) (range : ℕ) (held : Option RangeState) → range_of s.ranges range ≡ held → ServerStep s (answer_in s p w range held)
    answer_in_step p w range None is = rests_step s n
    answer_in_step p w range (Some r) is =
        let h = range_there range r is in
        subst (ServerStep s) (sym (answer_unmerged s n.merges p w range r))
        (stepped_step range h.generation h.known (answer_rule s.context r w p.body) (answer_good range h.generation s.context r w p.body h.under))

    split_answer_in_step : (p : Packet) (w : ReqNo) (range : ℕ) → BodyNames K p.body → answered_number p.body ≡ Some w → split_awaiting s.splits w ≡ Some range →
        (held : Option RangeState) → range_of s.ranges range ≡ held → (job : Option SplitJob) → split_of s.splits range ≡ job → ServerStep s (split_answer_in s p range held job)
    split_answer_in_step p w range b number waits (Some r) is (Some job) has =
        split_stepped_step range s.context _ (no_less s.context.count)
        (split_reply_step K range laws s.context r job p.body w number (awaits_itself s.splits w range job n.rising waits has) b (range_there range r is) (job_there range job has))
    split_answer_in_step p w range b number waits (Some r) is None has = rests_step s n
    split_answer_in_step p w range b number waits None is job has = rests_step s n

    split_answer_step : (p : Packet) (w : ReqNo) → BodyNames K p.body → answered_number p.body ≡ Some w → (range : Option ℕ) → split_awaiting s.splits w ≡ range → ServerStep s (split_answer s p w range)
    split_answer_step p w b number None waits = subst (ServerStep s) (sym (unawaited_merge s n.merges p w)) (rests_step s n)
    split_answer_step p w b number (Some range) waits = split_answer_in_step p w range b number waits (range_of s.ranges range) refl (split_of s.splits range) refl

    answer_of_step : (p : Packet) (w : ReqNo) → BodyNames K p.body → answered_number p.body ≡ Some w → (range : Option ℕ) → ServerStep s (answer_of s p w range)
    answer_of_step p w b number None = split_answer_step p w b number (split_awaiting s.splits w) refl
    answer_of_step p w b number (Some range) = answer_in_step p w range (range_of s.ranges range) refl

    numbered_step : (p : Packet) → PacketNames K p → (number : Option ReqNo) → answered_number p.body ≡ number → ServerStep s (numbered_rule s p number)
    numbered_step p names None is = rests_step s n
    numbered_step p names (Some w) is =
        if_elim (ServerStep s) (is_answerer p.from p.body) _ _ (λ t. answer_of_step p w (answer_names p names t) is (awaiting s.ranges w)) (λ f. rests_step s n)

    answered_step : (p : Packet) → PacketNames K p → (body : Body) → p.body ≡ body → ServerStep s (numbered_rule s p (answered_number body))
    answered_step p names body is = numbered_step p names (answered_number body) (ap answered_number is)

    taken_step : (p : Packet) → PacketNames K p → (body : Body) → p.body ≡ body → ServerStep s (taken_rule s p body)
    taken_step p names (bodies.Map (maps.Assign range generation until)) is = assigned_step p range generation until is names p.from refl
    taken_step p names (bodies.Map (maps.Renew range generation until)) is = renewed_step range generation until p.from
    taken_step p names (bodies.Table body) is = table_step p body
    taken_step p names body is = answered_step p names body is

    pub server_step : (p : Packet) → PacketNames K p → ServerStep s (server_rule s p p.body)
    server_step p names = if_elim (ServerStep s) (has_numbers s.context) _ _ (λ t. taken_step p names p.body refl) (λ f. rests_step s n)

    -- ---- checkpoints and splits

    checkpoints_step : (range : ℕ) (combine : Bool) (held : Option RangeState) → range_of s.ranges range ≡ held → ServerStep s (checkpoints_in s range combine held)
    checkpoints_step range combine None is = rests_step s n
    checkpoints_step range combine (Some r) is =
        if_elim (ServerStep s) (has_numbers s.context) _ _
        (λ t. (let h = range_there range r is in stepped_step range h.generation h.known (checkpoint_rule s.context r combine) (checkpoint_good range h.generation s.context r combine h.under)))
        (λ f. rests_step s n)

    pub server_checkpoint_step : (range : ℕ) (combine : Bool) → ServerStep s (server_checkpoint s range combine)
    server_checkpoint_step range combine =
        if_elim (ServerStep s) (is_some (checkpoint_refusal s range)) _ _ (λ t. rests_step s n) (λ f. checkpoints_step range combine (range_of s.ranges range) refl)

    splits_step : (range : ℕ) (key : List ℕ) → AsksFor K s range key → is_some (split_refusal s range key) ≡ false → (held : Option RangeState) → range_of s.ranges range ≡ held → ServerStep s (splits_in s range key held)
    splits_step range key asked free None is = rests_step s n
    splits_step range key asked free (Some r) is =
        if_elim (ServerStep s) (has_numbers s.context) _ _
        (λ t. split_stepped_step range s.context _ (no_less s.context.count)
        (split_step K range laws s.context r key (range_there range r is) (asked r (ap (λ (o : ServerOutcome). o.packets) (splits_at s range key r free is t)))))
        (λ f. rests_step s n)

    pub server_split_step : (range : ℕ) (key : List ℕ) → AsksFor K s range key → ServerStep s (server_split s range key)
    server_split_step range key asked =
        if_elim (ServerStep s) (is_some (split_refusal s range key)) _ _ (λ t. rests_step s n) (λ f. splits_step range key asked f (range_of s.ranges range) refl)

  -- ---- giving up, and moments

  pub picked_names : (s : ServerState) (pick : Nodes) → ServerNames K s → ServerNames K (picked s pick)
  picked_names s pick n = record { ranges = n.ranges; splits = n.splits; rising = n.rising; merges = n.merges }

  pub moment_names : (s : ServerState) (now : ℕ) → ServerNames K s → ServerNames K (moment_rule s now)
  moment_names s now n = record { ranges = n.ranges; splits = n.splits; rising = n.rising; merges = n.merges }

  abbrev pub StepIf : ServerState → Option ServerOutcome → Type 0
  StepIf s None = Unit {0}
  StepIf s (Some o) = ServerStep s o

  gives_up_step : Laws K → (s : ServerState) (range : ℕ) (held : Option RangeState) → range_of s.ranges range ≡ held → ServerNames K s → StepIf s (gives_up s range held)
  gives_up_step laws s range None is n = tt
  gives_up_step laws s range (Some r) is n =
      if_elim (ServerStep s) (has_numbers s.context) _ _
      (λ t. (let h = range_there laws s n range r is in
      given_up_step laws s n range h.generation h.known (give_up_all s.context r) (give_up_good range h.generation s.context r h.under)))
      (λ f. rests_step s n)

  pub server_gives_up_step : Laws K → (s : ServerState) (range : ℕ) (pick : Nodes) → ServerNames K s → StepIf (picked s pick) (give_up_rule s range pick)
  server_gives_up_step laws s range pick n = gives_up_step laws (picked s pick) range (range_of s.ranges range) refl (picked_names s pick n)
