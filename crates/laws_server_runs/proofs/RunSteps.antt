-- Each event is a step of all servers, of which at most one takes a turn.
use Rattle.std.proofs.Common.{◌≡◌, ◌⊎◌, not, ◌||◌, ℕ, suc, ◌-◌, ◌^◌, max, List, [], ◌∷◌, ◌++◌, map, Bool, true, false, ◌==◌, Option, Some, None, is_some, option_map, slice_set, nat_lt, refl, sym, ap, ◌∙◌, subst, inl, inr, if◌then◌else◌}
use Rattle.std.proofs.lemmas.Bool.{cases_eq}
use Rattle.block_types.specs.declared.record.Nodes.{Nodes}
use Rattle.wire.specs.declared.actor.ActorId.{ActorId}
use Rattle.wire.specs.declared.actor.ActorId.TheVariants as actors
use Rattle.wire.specs.declared.actor.ReqNo.{ReqNo}
use Rattle.wire.specs.declared.body.Body.{Body}
use Rattle.wire.specs.declared.body.Body.TheVariants as bodies
use Rattle.wire.specs.declared.body.MapBody.{MapBody}
use Rattle.wire.specs.declared.body.MapBody.TheVariants as maps
use Rattle.wire.specs.declared.body.TableBody.{TableBody}
use Rattle.wire.specs.declared.body.TableBody.TheVariants as tables
use Rattle.wire.specs.declared.packet.Packet.{Packet}
use Rattle.wire.specs.declared.refusal.Refusal.{Refusal}
use Rattle.wire.specs.declared.refusal.Refusal.TheVariants as refusals
use Rattle.model_partition.specs.Checkpoints.{checkpoint_fault, checkpoint_rule}
use Rattle.wire.specs.declared.transaction.Change.{Change}
use Rattle.client.specs.Load.{open_packet}
use Rattle.model_streams.specs.Maps.{entry_at}
use Rattle.model_partition.specs.declared.server_context.ServerContext.{ServerContext}
use Rattle.model_partition.specs.Range.{RangeState, RangeOutcome, request, refuses, is_serving, is_paused}
use Rattle.model_partition.specs.Serving.{transact_rule}
use Rattle.model_partition.specs.Getting.{get_rule}
use Rattle.model_partition.specs.Answering.{answered_number, is_the_map, is_answerer, answer_rule, give_up_all}
use Rattle.model_partition.specs.declared.split_job.SplitJob.{SplitJob}
use Rattle.model_partition.specs.Splits.{SplitStep, split_fault, split_rule, split_reply, follows}
use Rattle.model_partition.specs.Splits.{gives_up as gives_up_split}
use Rattle.model_partition.specs.Map.{is_split_key}
use Rattle.model_streams.proofs.Tests.{none_met}
use Rattle.std.proofs.lemmas.List.{append-nil}
use Rattle.model_partition.specs.Server.{ServerState, ServerOutcome, range_of, set_range, split_of, awaiting, split_awaiting, rests, sends_one, counted, ended_with, stepped, stepped_with, stepped_alone, stepped_splitting, split_stepped, split_answer_in, split_answer, is_newer, merge_with, assigned as assigned_to, users_of, assign_rule, renew_rule, told_by_map, map_rule, transacts_in, gets_in, table_rule, answer_in, answer_of, numbered_rule, taken_rule, has_numbers, server_rule, moment_rule, given_up_splitting, given_up_with, given_up, gives_up, picked, give_up_rule, started, busy_if, has_jobs, checkpoint_refused, checkpoints_in, server_checkpoint, split_refused, splits_in, server_split}
use Rattle.model_partition.specs.Servers.{ServerCell, cell_rests, cell_takes, cell_given_up, cell_gives_up, cell_checkpoints, cell_splits, cell_stops, cell_starts, at_server, first_pick, told_moment}
use Rattle.model_histories.specs.StreamActions.{StreamAction, transact_actions, answer_actions, split_answered, split_stood, follow_actions, followed_actions, split_sides}
use Rattle.model_histories.specs.ServerRun.{ServerRun, RangeEffect, Begins, Does, Tells, Rests as RestsSo, ServerEvent, Takes, GivesUp, Checkpoints, Splits, Stops, Starts, Moment, Builds, with_effect, with_outcome, after_event, told_effect, map_effect, transact_effect, follow_effect, get_effect, table_effect, answer_effect, split_effect_in, split_effect, awaited_effect, numbered_effect, packet_effect, server_effect, cell_effect}
use Rattle.laws_loads.proofs.Entries.{entry_set, entry_other, entry_unmapped}
use Rattle.laws_server_runs.specs.Turns.{IsRule, Transacts, Answers, Gets, Yields, Checkpoints as BeginsCheckpoint, Renews, IsCalm, HasRoom, stood_by, with_split, of_split, Alone, BeginsSplit, Drops, Follows, Leaves, Holds, Hears, IsEffect, Own, None_done, OfOthers, Turn, Idles, Opens, Acts, outcome_of, IsOfServers, HoldNoMore, RunStep, Keeps, Passes, Turns}
use Rattle.laws_server_runs.proofs.StatesKept.{opened}
use Rattle.laws_server_runs.proofs.Unmerged.{HasNoMerge, HaveNoMerges, stepped_unmerged, given_up_unmerged, assigned_unmerged, answer_unmerged, unawaited_merge, jobs_unmerged}

-- ---- what the map assigns

-- each range that this assigns is such
abbrev pub Assigns : (ℕ → Type 0) → ActorId → Body → Type 0
Assigns IsAssigned from body = (range generation until : ℕ) → from ≡ actors.Map → body ≡ bodies.Map (maps.Assign range generation until) → IsAssigned range

abbrev pub AllAssigned : (ℕ → Type 0) → ServerEvent → Type 0
AllAssigned IsAssigned (Takes s p) = Assigns IsAssigned p.from p.body
AllAssigned IsAssigned event = Unit {0}

abbrev pub IsAny : ℕ → Type 0
IsAny range = Unit {0}

-- any range may be assigned
pub any_assigned : (event : ServerEvent) → AllAssigned IsAny event
any_assigned (Takes s p) = λ range generation until from body. tt
any_assigned (GivesUp s range pick) = tt
any_assigned (Checkpoints s range combine) = tt
any_assigned (Splits s range key) = tt
any_assigned (Stops s call) = tt
any_assigned (Starts s now batch) = tt
any_assigned (Moment now) = tt
any_assigned (Builds source range) = tt

-- ---- tests

pub not_false : (b : Bool) → not b ≡ false → b ≡ true
not_false true e = refl
not_false false e = absurd cc

pub or_false : (a b : Bool) → (a || b) ≡ false → a ≡ false
or_false true b e = absurd cc
or_false false b e = refl

pub is_none : {A : Type 0} (x : Option A) → is_some x ≡ false → x ≡ None
is_none None e = refl
is_none (Some x) e = absurd cc

-- a range that is split makes no other checkpoint
busy_no : (fault : Option Refusal) → busy_if true fault ≡ None → ⊥
busy_no None e = let z : Some refusals.Busy ≡ None = e in cc
busy_no (Some why) e = let z : Some why ≡ None = e in cc

-- where a checkpoint is not refused the range itself refuses none
pub not_refused : (jobs : Bool) (fault : Option Refusal) → busy_if jobs fault ≡ None → fault ≡ None
not_refused jobs None e = refl
not_refused jobs (Some why) e = absurd cc

-- nor is it split again
abbrev split_tests : RangeState → List ℕ → List (Refusal × Bool)
split_tests r key =
    (refusals.Loading, not (is_serving r.stage))
    ∷ (refusals.Paused, is_paused r.pause)
    ∷ (refusals.Busy, is_some r.control || is_some r.fixed)
    ∷ (refusals.BadSplitKey, not (is_split_key r.said.keys key))
    ∷ []

split_busy : (r : RangeState) (key : List ℕ) → split_fault r true key ≡ None → ⊥
split_busy r key e = let all = none_met ((refusals.Loading, not (is_serving r.stage)) ∷ (refusals.Paused, is_paused r.pause) ∷ (refusals.Busy, true) ∷ (refusals.BadSplitKey, not (is_split_key r.said.keys key)) ∷ []) e in let z : true ≡ false = all.1.1.0 in cc

-- the map numbers the ranges that splits make so
abbrev pub Numbers : ((low high : ℕ) → Type 0) → ActorId → Body → Type 0
Numbers IsNumbered from body = (w : ReqNo) (low high : ℕ) → from ≡ actors.Map → body ≡ bodies.Map (maps.SplitBegun w low high) → IsNumbered low high

abbrev pub AllNumbered : ((low high : ℕ) → Type 0) → ServerEvent → Type 0
AllNumbered IsNumbered (Takes s p) = Numbers IsNumbered p.from p.body
AllNumbered IsNumbered event = Unit {0}

abbrev pub IsAnyPair : (low high : ℕ) → Type 0
IsAnyPair low high = Unit {0}

-- any may be so
pub any_numbered : (event : ServerEvent) → AllNumbered IsAnyPair event
any_numbered (Takes s p) = λ w low high from body. tt
any_numbered (GivesUp s range pick) = tt
any_numbered (Checkpoints s range combine) = tt
any_numbered (Splits s range key) = tt
any_numbered (Stops s call) = tt
any_numbered (Starts s now batch) = tt
any_numbered (Moment now) = tt
any_numbered (Builds source range) = tt

-- an event comes to servers, or builds streams
abbrev pub IsBuild : ServerEvent → Type 0
IsBuild event = (source : ℕ) × (range : ℕ) × (event ≡ Builds source range)

pub event_kind : (event : ServerEvent) → IsOfServers event ⊎ IsBuild event
event_kind (Takes s p) = inl (λ source range e. absurd cc)
event_kind (GivesUp s range pick) = inl (λ source range e. absurd cc)
event_kind (Checkpoints s range combine) = inl (λ source range e. absurd cc)
event_kind (Splits s range key) = inl (λ source range e. absurd cc)
event_kind (Stops s call) = inl (λ source range e. absurd cc)
event_kind (Starts s now batch) = inl (λ source range e. absurd cc)
event_kind (Moment now) = inl (λ source range e. absurd cc)
event_kind (Builds source range) = inr (source, range, refl)

-- ---- one server

the_map : (from : ActorId) → is_the_map from ≡ true → from ≡ actors.Map
the_map actors.Map e = refl
the_map (actors.Node n) e = absurd cc
the_map actors.Manager e = absurd cc
the_map (actors.Server t) e = absurd cc
the_map (actors.User u) e = absurd cc

-- one that has no merge
module _ (IsAssigned : ℕ → Type 0) (IsNumbered : (low high : ℕ) → Type 0) (st : ServerState) (whole : HasNoMerge st) where
  abbrev TurnOf : RangeEffect → ServerOutcome → Type 0
  TurnOf = Turn IsAssigned IsNumbered st

  rests_turn : TurnOf RestsSo (rests st)
  rests_turn = Idles st [] refl refl

  sends_turn : (p : Packet) → TurnOf RestsSo (sends_one st p)
  sends_turn p = Idles st (p ∷ []) refl refl

  -- a range takes a turn
  module _ (range : ℕ) (r : RangeState) (held : range_of st.ranges range ≡ Some r) (actions : List StreamAction) (o : RangeOutcome) (rule : IsRule r actions o) where
    -- one that is not split
    alone_turn : split_of st.splits range ≡ None → (e : RangeEffect) → IsEffect IsNumbered range r None e o None → TurnOf e (stepped_alone st range o)
    alone_turn is e effect =
        Acts range r held e o None (subst (λ job. IsEffect IsNumbered range r job e o None) (sym is) effect) (stepped_alone st range o).after o.packets refl (inl (refl, is))

    -- and one whose split follows
    split_turn : IsCalm rule → HasRoom rule → (job : SplitJob) → split_of st.splits range ≡ Some job → (stood : Option RangeState → List StreamAction) → stood None ≡ [] → ((z : RangeState) → o.after ≡ Some z → stood (Some z) ≡ stood_by job rule) →
        (a : Option RangeState) → o.after ≡ a → TurnOf (Does range r.load.generation (followed_actions (counted st.context o) (Some job) a ++ (stood a ++ actions))) (stepped_splitting st range job o a)
    split_turn calm room job is stood none some None left =
        subst (λ (l : List StreamAction). TurnOf (Does range r.load.generation (l ++ actions)) (ended_with st range o)) (sym none)
        (Acts range r held (Does range r.load.generation actions) (record o { after = None }) None
        (subst (λ j. IsEffect IsNumbered range r j (Does range r.load.generation actions) (record o { after = None }) None) (sym is)
        (dropped left))
        (ended_with st range o).after o.packets refl (inr refl))
      where
        dropped : o.after ≡ None → IsEffect IsNumbered range r (Some job) (Does range r.load.generation actions) (record o { after = None }) None
        dropped gone =
            subst (λ x. IsEffect IsNumbered range r (Some job) (Does range r.load.generation actions) (record o { after = x }) None) gone (Own (Some job) actions o None (Drops job actions o rule calm gone) tt)
    split_turn calm room job is stood none some (Some z) left =
        subst (λ (l : List StreamAction). TurnOf (Does range r.load.generation (follow_actions d z job ++ (l ++ actions))) (stepped_splitting st range job o (Some z))) (sym (some z left))
        (Acts range r held (Does range r.load.generation all) (with_split o t) t.job
        (subst (λ j. IsEffect IsNumbered range r j (Does range r.load.generation all) (with_split o t) t.job) (sym is)
        (Own (Some job) all (with_split o t) t.job (Follows job actions o rule calm room d refl z left) tt))
        (stepped_splitting st range job o (Some z)).after (o.packets ++ t.packets) refl (inr refl))
      where
        d : ServerContext
        d = counted st.context o

        t : SplitStep
        t = follows d z job

        all : List StreamAction
        all = follow_actions d z job ++ (stood_by job rule ++ actions)

  transact_turn : (p : Packet) (range : ℕ) (changes : List Change) (q : ReqNo) (known : Option RangeState) → range_of st.ranges range ≡ known →
      TurnOf (transact_effect st p range changes q known) (transacts_in st p range changes q known)
  transact_turn p range changes q None held = sends_turn (refuses st.context p.from q refusals.NotOwner)
  transact_turn p range changes q (Some r) held =
      subst (TurnOf (transact_effect st p range changes q (Some r))) (sym (stepped_unmerged st whole range o)) (by (split_of st.splits range) refl)
    where
      o : RangeOutcome
      o = transact_rule st.context r p.from q changes

      by : (job : Option SplitJob) → split_of st.splits range ≡ job →
          TurnOf (Does range r.load.generation (followed_actions (counted st.context o) job o.after ++ transact_actions r o)) (stepped_with st range job o)
      by None is =
          alone_turn range r held (transact_actions r o) o (Transacts st.context p.from q changes) is (Does range r.load.generation (transact_actions r o))
          (Own None (transact_actions r o) o None (Alone (transact_actions r o) o (Transacts st.context p.from q changes)) tt)
      by (Some job) is = split_turn range r held (transact_actions r o) o (Transacts st.context p.from q changes) tt tt job is (λ a. []) refl (λ z left. refl) o.after refl

  get_turn : (p : Packet) (range : ℕ) (key : List ℕ) (q : ReqNo) (known : Option RangeState) → range_of st.ranges range ≡ known → TurnOf (get_effect st p range key q known) (gets_in st p range key q known)
  get_turn p range key q None held = sends_turn (refuses st.context p.from q refusals.NotOwner)
  get_turn p range key q (Some r) held = subst (TurnOf (get_effect st p range key q (Some r))) (sym (stepped_unmerged st whole range o)) (by (split_of st.splits range) refl)
    where
      o : RangeOutcome
      o = get_rule st.context r p.from q key

      by : (job : Option SplitJob) → split_of st.splits range ≡ job → TurnOf (follow_effect st range r job o) (stepped_with st range job o)
      by None is = alone_turn range r held [] o (Gets st.context p.from q key) is RestsSo (None_done None o None (Alone [] o (Gets st.context p.from q key)) tt)
      by (Some job) is =
          subst (λ l. TurnOf (Does range r.load.generation l) (stepped_with st range (Some job) o)) (append-nil (followed_actions (counted st.context o) (Some job) o.after))
          (split_turn range r held [] o (Gets st.context p.from q key) tt tt job is (λ a. []) refl (λ z left. refl) o.after refl)

  table_turn : (p : Packet) (body : TableBody) → TurnOf (table_effect st p body) (table_rule st p body)
  table_turn p (tables.Transact range changes q) = transact_turn p range changes q (range_of st.ranges range) refl
  table_turn p (tables.Get range key q) = get_turn p range key q (range_of st.ranges range) refl
  table_turn p body = rests_turn

  assign_turn : (range generation until : ℕ) → IsAssigned range → TurnOf (told_effect st (maps.Assign range generation until)) (assign_rule st range generation until (range_of st.ranges range))
  assign_turn range generation until assigned = go (is_newer generation (range_of st.ranges range))
    where
      begun : ServerState
      begun = opened st range generation until

      packets : List Packet
      packets = users_of st.context (range_of st.ranges range) ++ open_packet st.context.server range generation (request st.context) ∷ []

      go : (b : Bool) →
          TurnOf (if b then Begins range else RestsSo) (if b then record { after = assigned_to begun (merge_with st.merges range); packets = packets; notes = [] } else rests st)
      go true =
          subst (λ z. TurnOf (Begins range) (record { after = z; packets = packets; notes = [] })) (sym (assigned_unmerged st whole begun range))
          (Opens range assigned st.context generation until begun packets refl refl)
      go false = rests_turn

  renew_turn : (range generation until : ℕ) (known : Option RangeState) → range_of st.ranges range ≡ known → TurnOf RestsSo (renew_rule st range generation until known)
  renew_turn range generation until None held = rests_turn
  renew_turn range generation until (Some r) held = go (r.load.generation == generation)
    where
      o : RangeOutcome
      o = record { after = Some (record r { until = max r.until until }); count = 0; packets = []; notes = [] }

      after : ServerState
      after = record st { ranges = set_range st.ranges range (Some (record r { until = max r.until until })) }

      by : (job : Option SplitJob) → split_of st.splits range ≡ job → TurnOf RestsSo (record { after = after; packets = []; notes = [] })
      by None is = Acts range r held RestsSo o None (subst (λ j. IsEffect IsNumbered range r j RestsSo o None) (sym is) (None_done None o None (Alone [] o (Renews (max r.until until) 0)) tt)) after [] refl (inl (refl, is))
      by (Some job) is =
          Acts range r held RestsSo o (Some job) (subst (λ j. IsEffect IsNumbered range r j RestsSo o (Some job)) (sym is) (None_done (Some job) o (Some job) (Holds job (max r.until until) 0) tt)) after [] refl (inl (refl, is))

      go : (b : Bool) → TurnOf RestsSo (if b then record { after = after; packets = []; notes = [] } else rests st)
      go true = by (split_of st.splits range) refl
      go false = rests_turn

  told_turn : (body : MapBody) → ((range generation until : ℕ) → body ≡ maps.Assign range generation until → IsAssigned range) → TurnOf (told_effect st body) (told_by_map st body)
  told_turn (maps.Assign range generation until) assigned = assign_turn range generation until (assigned range generation until refl)
  told_turn (maps.Renew range generation until) assigned = renew_turn range generation until (range_of st.ranges range) refl
  told_turn body assigned = rests_turn

  map_turn : (from : ActorId) (body : MapBody) → ((range generation until : ℕ) → from ≡ actors.Map → body ≡ maps.Assign range generation until → IsAssigned range) → TurnOf (map_effect st from body) (map_rule st from body)
  map_turn actors.Map body assigned = told_turn body (λ range generation until e. assigned range generation until refl e)
  map_turn (actors.Node n) body assigned = rests_turn
  map_turn actors.Manager body assigned = rests_turn
  map_turn (actors.Server t) body assigned = rests_turn
  map_turn (actors.User u) body assigned = rests_turn

  -- ---- answers

  answer_turn : has_numbers st.context ≡ true → (p : Packet) (w : ReqNo) (range : ℕ) (known : Option RangeState) → range_of st.ranges range ≡ known → TurnOf (answer_effect st p w range known) (answer_in st p w range known)
  answer_turn room p w range None held = rests_turn
  answer_turn room p w range (Some r) held = subst (TurnOf (answer_effect st p w range (Some r))) (sym (answer_unmerged st whole p w range r)) (by (split_of st.splits range) refl)
    where
      o : RangeOutcome
      o = answer_rule st.context r w p.body

      actions : List StreamAction
      actions = answer_actions st.context r w p.body o

      by : (job : Option SplitJob) → split_of st.splits range ≡ job →
          TurnOf (Does range r.load.generation (followed_actions (counted st.context o) job o.after ++ (split_stood st.context r job w p.body o ++ actions))) (stepped_with st range job o)
      by None is =
          alone_turn range r held actions o (Answers st.context w p.body) is (Does range r.load.generation actions) (Own None actions o None (Alone actions o (Answers st.context w p.body)) tt)
      by (Some job) is =
          split_turn range r held actions o (Answers st.context w p.body) tt room job is (λ a. if is_some a then split_answered st.context r job w p.body else []) refl
          (λ z left. ap (λ a. if is_some a then split_answered st.context r job w p.body else []) (sym left)) o.after refl

  -- an answer that the split of a range waits for
  split_in_turn : (p : Packet) → ((w : ReqNo) (low high : ℕ) → p.body ≡ bodies.Map (maps.SplitBegun w low high) → IsNumbered low high) → (range : ℕ) (known : Option RangeState) → range_of st.ranges range ≡ known → (job : Option SplitJob) → split_of st.splits range ≡ job →
      TurnOf (split_effect_in st p known job) (split_answer_in st p range known job)
  split_in_turn p numbered range None held job is = rests_turn
  split_in_turn p numbered range (Some r) held None is = rests_turn
  split_in_turn p numbered range (Some r) held (Some job) is =
      Acts range r held (Tells job.generation (split_sides st.context r job p.body)) (of_split t) t.job
      (subst (λ j. IsEffect IsNumbered range r j (Tells job.generation (split_sides st.context r job p.body)) (of_split t) t.job) (sym is)
      (OfOthers job st.context p.body (of_split t) t.job (Hears job st.context p.body numbered) (refl, refl)))
      (split_stepped st range t).after t.packets refl (inr refl)
    where
      t : SplitStep
      t = split_reply st.context r job p.body

  split_turn_of : (p : Packet) → ((w : ReqNo) (low high : ℕ) → p.body ≡ bodies.Map (maps.SplitBegun w low high) → IsNumbered low high) → (w : ReqNo) (range : Option ℕ) → TurnOf (split_effect st p range) (split_answer st p w range)
  split_turn_of p numbered w None = subst (TurnOf RestsSo) (sym (unawaited_merge st whole p w)) rests_turn
  split_turn_of p numbered w (Some range) = split_in_turn p numbered range (range_of st.ranges range) refl (split_of st.splits range) refl

  awaited_turn : has_numbers st.context ≡ true → (p : Packet) → ((w : ReqNo) (low high : ℕ) → p.body ≡ bodies.Map (maps.SplitBegun w low high) → IsNumbered low high) → (w : ReqNo) (range : Option ℕ) → TurnOf (awaited_effect st p w range) (answer_of st p w range)
  awaited_turn room p numbered w None = split_turn_of p numbered w (split_awaiting st.splits w)
  awaited_turn room p numbered w (Some range) = answer_turn room p w range (range_of st.ranges range) refl

  numbered_turn : has_numbers st.context ≡ true → (p : Packet) → Numbers IsNumbered p.from p.body → (w : Option ReqNo) → TurnOf (numbered_effect st p w) (numbered_rule st p w)
  numbered_turn room p numbered None = rests_turn
  numbered_turn room p numbered (Some w) = go (is_answerer p.from p.body) refl
    where
      go : (b : Bool) → is_answerer p.from p.body ≡ b → TurnOf (if b then awaited_effect st p w (awaiting st.ranges w) else RestsSo) (if b then answer_of st p w (awaiting st.ranges w) else rests st)
      go true answers =
          awaited_turn room p (λ v low high is. numbered v low high (the_map p.from (sym (ap (is_answerer p.from) is) ∙ answers)) is) w (awaiting st.ranges w)
      go false other = rests_turn

  body_turn : has_numbers st.context ≡ true → (p : Packet) (body : Body) → Assigns IsAssigned p.from body → Numbers IsNumbered p.from p.body → TurnOf (packet_effect st p body) (taken_rule st p body)
  body_turn room p (bodies.Map (maps.Assign range generation until)) assigned numbered =
      map_turn p.from (maps.Assign range generation until) (λ other g u e is. assigned other g u e (ap bodies.Map is))
  body_turn room p (bodies.Map (maps.Renew range generation until)) assigned numbered =
      map_turn p.from (maps.Renew range generation until) (λ other g u e is. assigned other g u e (ap bodies.Map is))
  body_turn room p (bodies.Map body) assigned numbered = numbered_turn room p numbered (answered_number (bodies.Map body))
  body_turn room p (bodies.Table body) assigned numbered = table_turn p body
  body_turn room p (bodies.Append body) assigned numbered = numbered_turn room p numbered (answered_number (bodies.Append body))
  body_turn room p (bodies.Check body) assigned numbered = numbered_turn room p numbered (answered_number (bodies.Check body))
  body_turn room p (bodies.Seal body) assigned numbered = numbered_turn room p numbered (answered_number (bodies.Seal body))
  body_turn room p (bodies.Read body) assigned numbered = numbered_turn room p numbered (answered_number (bodies.Read body))
  body_turn room p (bodies.Stream body) assigned numbered = numbered_turn room p numbered (answered_number (bodies.Stream body))

  packet_turn : (p : Packet) → Assigns IsAssigned p.from p.body → Numbers IsNumbered p.from p.body → TurnOf (server_effect p (Some st)) (server_rule st p p.body)
  packet_turn p assigned numbered = go (has_numbers st.context) refl
    where
      go : (b : Bool) → has_numbers st.context ≡ b → TurnOf (if b then packet_effect st p p.body else RestsSo) (if b then taken_rule st p p.body else rests st)
      go true room = body_turn room p p.body assigned numbered
      go false none = rests_turn

  -- ---- what servers are told

  -- to give up, with other nodes for new extents
  give_up_turn : (range : ℕ) (pick : Nodes) (o : ServerOutcome) → give_up_rule st range pick ≡ Some o → TurnOf RestsSo o
  give_up_turn range pick o is = known (range_of st.ranges range) refl is
    where
      now : ServerState
      now = picked st pick

      left : (r : RangeState) → range_of st.ranges range ≡ Some r → (job : SplitJob) → split_of st.splits range ≡ Some job → (a : Option RangeState) → (give_up_all now.context r).after ≡ a →
          TurnOf RestsSo (given_up_splitting now range job (give_up_all now.context r) a)
      left r held job some None gone = absurd cc
      left r held job some (Some z) there =
          let own : RangeOutcome = give_up_all now.context r in
          let t : SplitStep = gives_up_split (counted now.context own) z job in
          Acts range r held RestsSo (with_split own t) t.job
          (subst (λ j. IsEffect IsNumbered range r j RestsSo (with_split own t) t.job) (sym some) (None_done (Some job) (with_split own t) t.job (Leaves job now.context (counted now.context own) z there) tt))
          (given_up_splitting now range job own (Some z)).after (own.packets ++ t.packets) refl (inr refl)

      by : (r : RangeState) → range_of st.ranges range ≡ Some r → (job : Option SplitJob) → split_of st.splits range ≡ job → TurnOf RestsSo (given_up_with now range job (give_up_all now.context r))
      by r held None none =
          let ro : RangeOutcome = give_up_all now.context r in
          Acts range r held RestsSo ro None (subst (λ j. IsEffect IsNumbered range r j RestsSo ro None) (sym none) (None_done None ro None (Alone [] ro (Yields now.context)) tt))
          (stepped_alone now range ro).after ro.packets refl (inl (refl, none))
      by r held (Some job) some = left r held job some (give_up_all now.context r).after refl

      go : (r : RangeState) → range_of st.ranges range ≡ Some r → (b : Bool) → TurnOf RestsSo (if b then given_up now range (merge_with st.merges range) (give_up_all now.context r) else rests now)
      go r held true = subst (TurnOf RestsSo) (sym (given_up_unmerged now whole range (give_up_all now.context r))) (by r held (split_of st.splits range) refl)
      go r held false = Idles now [] refl refl

      known : (x : Option RangeState) → range_of st.ranges range ≡ x → gives_up now range x ≡ Some o → TurnOf RestsSo o
      known None held e = absurd cc
      known (Some r) held e =
          let same : (if has_numbers now.context then given_up now range (merge_with st.merges range) (give_up_all now.context r) else rests now) ≡ o = cc in
          subst (λ z. TurnOf RestsSo z) same (go r held (has_numbers now.context))

  jobs_are : (range : ℕ) (job : Option SplitJob) → split_of st.splits range ≡ job → has_jobs st range ≡ is_some job
  jobs_are range job is = jobs_unmerged st whole range ∙ ap is_some is

  -- to make a checkpoint
  checkpoint_turn : (range : ℕ) (combine : Bool) → TurnOf RestsSo (server_checkpoint st range combine)
  checkpoint_turn range combine = by (range_of st.ranges range) refl (split_of st.splits range) refl (checkpoint_refused (has_jobs st range) (range_of st.ranges range)) refl
    where
      begins : (r : RangeState) → range_of st.ranges range ≡ Some r → split_of st.splits range ≡ None → checkpoint_fault r ≡ None → (b : Bool) → TurnOf RestsSo (if b then stepped st range (checkpoint_rule st.context r combine) else rests st)
      begins r held none may true =
          let o : RangeOutcome = checkpoint_rule st.context r combine in
          subst (TurnOf RestsSo) (sym (stepped_unmerged st whole range o)) (subst (λ j. TurnOf RestsSo (stepped_with st range j o)) (sym none)
          (alone_turn range r held [] o (BeginsCheckpoint st.context combine may) none RestsSo (None_done None o None (Alone [] o (BeginsCheckpoint st.context combine may)) tt)))
      begins r held none may false = rests_turn

      by : (known : Option RangeState) → range_of st.ranges range ≡ known → (job : Option SplitJob) → split_of st.splits range ≡ job → (fault : Option Refusal) → checkpoint_refused (has_jobs st range) (range_of st.ranges range) ≡ fault →
          TurnOf RestsSo (if is_some fault then rests st else checkpoints_in st range combine (range_of st.ranges range))
      by known held job is (Some why) e = rests_turn
      by None held job is None e = absurd (let z : Some refusals.NotOwner ≡ None = sym (ap (checkpoint_refused (has_jobs st range)) held) ∙ e in cc)
      by (Some r) held (Some job) is None e = absurd (busy_no (checkpoint_fault r) (sym (λ i. checkpoint_refused (jobs_are range (Some job) is i) (held i)) ∙ e))
      by (Some r) held None is None e =
          subst (λ x. TurnOf RestsSo (checkpoints_in st range combine x)) (sym held)
          (begins r held is (not_refused false (checkpoint_fault r) (sym (λ i. checkpoint_refused (jobs_are range None is i) (held i)) ∙ e)) (has_numbers st.context))

  -- to split a range
  splits_turn : (range : ℕ) (key : List ℕ) → TurnOf RestsSo (server_split st range key)
  splits_turn range key = by (range_of st.ranges range) refl (split_of st.splits range) refl (split_refused (has_jobs st range) key (range_of st.ranges range)) refl
    where
      begins : (r : RangeState) → range_of st.ranges range ≡ Some r → split_of st.splits range ≡ None → split_fault r false key ≡ None → (b : Bool) → TurnOf RestsSo (if b then split_stepped st range (split_rule st.context r key) else rests st)
      begins r held none may true =
          let t : SplitStep = split_rule st.context r key in
          let all = none_met (split_tests r key) may in
          Acts range r held RestsSo (of_split t) t.job
          (subst (λ j. IsEffect IsNumbered range r j RestsSo (of_split t) t.job) (sym none)
          (None_done None (of_split t) t.job (BeginsSplit st.context key (not_false (is_serving r.stage) all.0) (is_none r.control (or_false (is_some r.control) (is_some r.fixed) all.1.1.0)) (not_false (is_split_key r.said.keys key) all.1.1.1.0)) tt))
          (split_stepped st range t).after t.packets refl (inr refl)
      begins r held none may false = rests_turn

      by : (known : Option RangeState) → range_of st.ranges range ≡ known → (job : Option SplitJob) → split_of st.splits range ≡ job → (fault : Option Refusal) → split_refused (has_jobs st range) key (range_of st.ranges range) ≡ fault →
          TurnOf RestsSo (if is_some fault then rests st else splits_in st range key (range_of st.ranges range))
      by known held job is (Some why) e = rests_turn
      by None held job is None e = absurd (let z : Some refusals.NotOwner ≡ None = sym (ap (split_refused (has_jobs st range) key) held) ∙ e in cc)
      by (Some r) held (Some job) is None e = absurd (split_busy r key (sym (λ i. split_refused (jobs_are range (Some job) is i) key (held i)) ∙ e))
      by (Some r) held None is None e =
          subst (λ x. TurnOf RestsSo (splits_in st range key x)) (sym held)
          (begins r held is (sym (λ i. split_refused (jobs_are range None is i) key (held i)) ∙ e) (has_numbers st.context))

-- ---- all servers

module _ (IsAssigned : ℕ → Type 0) (IsNumbered : (low high : ℕ) → Type 0) (x : ServerRun) (whole : HaveNoMerges x.servers) where
  -- there is no such server
  nobody : RunStep IsAssigned IsNumbered x [] (with_outcome x (record { servers = x.servers; packets = []; notes = [] }))
  nobody = Keeps x.servers [] (λ t c q there up. inr (c, q, there, up, refl, refl))

  abbrev pub IsLike : ServerCell → ServerCell → Type 0
  IsLike cell d = (q : ServerState) → d.state ≡ Some q → ((q.ranges ≡ []) × (q.splits ≡ [])) ⊎ ((st : ServerState) × (cell.state ≡ Some st) × (q.ranges ≡ st.ranges) × (q.splits ≡ st.splits))

  -- one server goes to another state
  pub one_like : (s : ℕ) (cell : ServerCell) → entry_at x.servers s ≡ Some cell → (d : ServerCell) → IsLike cell d → HoldNoMore x.servers (slice_set x.servers (s - 1) d)
  one_like s cell at d like t c q there up = elim (cases_eq t s) [
    | inl same ↦
        (let found : Some d ≡ Some c = sym (entry_set x.servers s cell d at) ∙ subst (λ n. entry_at (slice_set x.servers (s - 1) d) n ≡ Some c) same there in
        let is : d ≡ c = cc in
        elim (like q (ap (λ (z : ServerCell). z.state) is ∙ up)) [
          | inl none ↦ inl none
          | inr old ↦ inr (cell, old.0, subst (λ n. entry_at x.servers n ≡ Some cell) (sym same) at, old.1, old.2, old.3)
        ])
    | inr apart ↦ inr (c, q, sym (entry_other x.servers s cell d at t apart) ∙ there, up, refl, refl)
  ]

  one_keeps : (s : ℕ) (cell : ServerCell) → entry_at x.servers s ≡ Some cell → (d : ServerCell) → IsLike cell d →
      RunStep IsAssigned IsNumbered x [] (with_outcome x (record { servers = slice_set x.servers (s - 1) d; packets = []; notes = [] }))
  one_keeps s cell at d like = Keeps (slice_set x.servers (s - 1) d) [] (one_like s cell at d like)

  pub same_cell : (cell : ServerCell) → IsLike cell cell
  same_cell cell q is = inr (q, is, refl, refl)

  takes_step : (s : ℕ) (p : Packet) → AllAssigned IsAssigned (Takes s p) → AllNumbered IsNumbered (Takes s p) → RunStep IsAssigned IsNumbered x (outcome_of x.servers (Takes s p)).notes (after_event x (Takes s p))
  takes_step s p assigned numbered = go (entry_at x.servers s) refl
    where
      by_state : (cell : ServerCell) → entry_at x.servers s ≡ Some cell → (o : Option ServerState) → cell.state ≡ o →
          RunStep IsAssigned IsNumbered x (cell_takes cell p o).notes (with_outcome (with_effect s x (server_effect p o))
          (record { servers = slice_set x.servers (s - 1) (cell_takes cell p o).cell; packets = (cell_takes cell p o).packets; notes = (cell_takes cell p o).notes }))
      by_state cell at None is = one_keeps s cell at cell (same_cell cell)
      by_state cell at (Some st) is = Turns s cell st at is (server_effect p (Some st)) (server_rule st p p.body) (packet_turn IsAssigned IsNumbered st (whole s cell at st is) p assigned numbered)

      go : (o : Option ServerCell) → entry_at x.servers s ≡ o →
          RunStep IsAssigned IsNumbered x (at_server x.servers s (λ cell. cell_takes cell p cell.state) o).notes (with_outcome (with_effect s x (cell_effect p o)) (at_server x.servers s (λ cell. cell_takes cell p cell.state) o))
      go None at = nobody
      go (Some cell) at = by_state cell at cell.state refl

  gives_up_step : (s range : ℕ) (pick : Nodes) → RunStep IsAssigned IsNumbered x (outcome_of x.servers (GivesUp s range pick)).notes (after_event x (GivesUp s range pick))
  gives_up_step s range pick = go (entry_at x.servers s) refl
    where
      by_rule : (cell : ServerCell) (st : ServerState) → entry_at x.servers s ≡ Some cell → cell.state ≡ Some st → (o : Option ServerOutcome) → give_up_rule st range pick ≡ o →
          RunStep IsAssigned IsNumbered x (cell_given_up cell o).notes (with_outcome x
          (record { servers = slice_set x.servers (s - 1) (cell_given_up cell o).cell; packets = (cell_given_up cell o).packets; notes = (cell_given_up cell o).notes }))
      by_rule cell st at is None e = one_keeps s cell at cell (same_cell cell)
      by_rule cell st at is (Some o) e = Turns s cell st at is RestsSo o (give_up_turn IsAssigned IsNumbered st (whole s cell at st is) range pick o e)

      by_state : (cell : ServerCell) → entry_at x.servers s ≡ Some cell → (o : Option ServerState) → cell.state ≡ o →
          RunStep IsAssigned IsNumbered x (cell_gives_up cell range pick o).notes (with_outcome x
          (record { servers = slice_set x.servers (s - 1) (cell_gives_up cell range pick o).cell; packets = (cell_gives_up cell range pick o).packets; notes = (cell_gives_up cell range pick o).notes }))
      by_state cell at None is = one_keeps s cell at cell (same_cell cell)
      by_state cell at (Some st) is = by_rule cell st at is (give_up_rule st range pick) refl

      go : (o : Option ServerCell) → entry_at x.servers s ≡ o →
          RunStep IsAssigned IsNumbered x (at_server x.servers s (λ cell. cell_gives_up cell range pick cell.state) o).notes (with_outcome x (at_server x.servers s (λ cell. cell_gives_up cell range pick cell.state) o))
      go None at = nobody
      go (Some cell) at = by_state cell at cell.state refl

  checkpoints_step : (s range : ℕ) (combine : Bool) → RunStep IsAssigned IsNumbered x (outcome_of x.servers (Checkpoints s range combine)).notes (after_event x (Checkpoints s range combine))
  checkpoints_step s range combine = go (entry_at x.servers s) refl
    where
      by_state : (cell : ServerCell) → entry_at x.servers s ≡ Some cell → (o : Option ServerState) → cell.state ≡ o →
          RunStep IsAssigned IsNumbered x (cell_checkpoints cell range combine o).notes (with_outcome x
          (record { servers = slice_set x.servers (s - 1) (cell_checkpoints cell range combine o).cell; packets = (cell_checkpoints cell range combine o).packets; notes = (cell_checkpoints cell range combine o).notes }))
      by_state cell at None is = one_keeps s cell at cell (same_cell cell)
      by_state cell at (Some st) is = Turns s cell st at is RestsSo (server_checkpoint st range combine) (checkpoint_turn IsAssigned IsNumbered st (whole s cell at st is) range combine)

      go : (o : Option ServerCell) → entry_at x.servers s ≡ o →
          RunStep IsAssigned IsNumbered x (at_server x.servers s (λ cell. cell_checkpoints cell range combine cell.state) o).notes (with_outcome x (at_server x.servers s (λ cell. cell_checkpoints cell range combine cell.state) o))
      go None at = nobody
      go (Some cell) at = by_state cell at cell.state refl

  splits_step : (s range : ℕ) (key : List ℕ) → RunStep IsAssigned IsNumbered x (outcome_of x.servers (Splits s range key)).notes (after_event x (Splits s range key))
  splits_step s range key = go (entry_at x.servers s) refl
    where
      by_state : (cell : ServerCell) → entry_at x.servers s ≡ Some cell → (o : Option ServerState) → cell.state ≡ o →
          RunStep IsAssigned IsNumbered x (cell_splits cell range key o).notes (with_outcome x
          (record { servers = slice_set x.servers (s - 1) (cell_splits cell range key o).cell; packets = (cell_splits cell range key o).packets; notes = (cell_splits cell range key o).notes }))
      by_state cell at None is = one_keeps s cell at cell (same_cell cell)
      by_state cell at (Some st) is = Turns s cell st at is RestsSo (server_split st range key) (splits_turn IsAssigned IsNumbered st (whole s cell at st is) range key)

      go : (o : Option ServerCell) → entry_at x.servers s ≡ o →
          RunStep IsAssigned IsNumbered x (at_server x.servers s (λ cell. cell_splits cell range key cell.state) o).notes (with_outcome x (at_server x.servers s (λ cell. cell_splits cell range key cell.state) o))
      go None at = nobody
      go (Some cell) at = by_state cell at cell.state refl

  stops_step : (s call : ℕ) → RunStep IsAssigned IsNumbered x (outcome_of x.servers (Stops s call)).notes (after_event x (Stops s call))
  stops_step s call = go (entry_at x.servers s) refl
    where
      like : (cell : ServerCell) (b : Bool) → IsLike cell (if b then record cell { state = None } else cell)
      like cell true q e = absurd cc
      like cell false q e = same_cell cell q e

      go : (o : Option ServerCell) → entry_at x.servers s ≡ o →
          RunStep IsAssigned IsNumbered x (at_server x.servers s (λ cell. cell_rests (cell_stops call cell)) o).notes (with_outcome x (at_server x.servers s (λ cell. cell_rests (cell_stops call cell)) o))
      go None at = nobody
      go (Some cell) at = one_keeps s cell at (cell_stops call cell) (like cell (call == 0))

  starts_step : (s now batch : ℕ) → RunStep IsAssigned IsNumbered x (outcome_of x.servers (Starts s now batch)).notes (after_event x (Starts s now batch))
  starts_step s now batch = go (entry_at x.servers s) refl
    where
      like_down : (cell : ServerCell) (b : Bool) → IsLike cell (if b then record { session = suc cell.session; state = Some (started s (suc cell.session) now first_pick batch) } else cell)
      like_down cell true q e = let same : started s (suc cell.session) now first_pick batch ≡ q = cc in inl (sym (ap (λ (z : ServerState). z.ranges) same), sym (ap (λ (z : ServerState). z.splits) same))
      like_down cell false q e = same_cell cell q e

      like : (cell : ServerCell) (o : Option ServerState) → IsLike cell (cell_starts s now batch cell o)
      like cell (Some st) q e = same_cell cell q e
      like cell None q e = like_down cell (nat_lt (suc cell.session) (2 ^ 64)) q e

      go : (o : Option ServerCell) → entry_at x.servers s ≡ o →
          RunStep IsAssigned IsNumbered x (at_server x.servers s (λ cell. cell_rests (cell_starts s now batch cell cell.state)) o).notes (with_outcome x (at_server x.servers s (λ cell. cell_rests (cell_starts s now batch cell cell.state)) o))
      go None at = nobody
      go (Some cell) at = one_keeps s cell at (cell_starts s now batch cell cell.state) (like cell cell.state)

  -- a moment comes to all
  pub moment_like : (now : ℕ) → HoldNoMore x.servers (map (told_moment now) x.servers)
  moment_like now t c q there up =
      let old : (b : ServerCell) × (entry_at x.servers t ≡ Some b) × (c ≡ told_moment now b) = entry_unmapped (told_moment now) x.servers t c there in
      by old.0 old.1 old.0.state refl (sym (ap (λ (z : ServerCell). z.state) old.2) ∙ up)
    where
      by : (b : ServerCell) → entry_at x.servers t ≡ Some b → (o : Option ServerState) → b.state ≡ o → option_map (λ server. moment_rule server now) b.state ≡ Some q →
          ((q.ranges ≡ []) × (q.splits ≡ [])) ⊎ ((b : ServerCell) × (st : ServerState) × (entry_at x.servers t ≡ Some b) × (b.state ≡ Some st) × (q.ranges ≡ st.ranges) × (q.splits ≡ st.splits))
      by b at None e is = absurd (let z : None ≡ Some q = sym (ap (option_map (λ server. moment_rule server now)) e) ∙ is in cc)
      by b at (Some st) e is =
          let z : Some (moment_rule st now) ≡ Some q = sym (ap (option_map (λ server. moment_rule server now)) e) ∙ is in
          let same : moment_rule st now ≡ q = cc in
          inr (b, st, at, e, sym (ap (λ (y : ServerState). y.ranges) same), sym (ap (λ (y : ServerState). y.splits) same))

  -- whatever comes
  pub event_step : (event : ServerEvent) → IsOfServers event → AllAssigned IsAssigned event → AllNumbered IsNumbered event → RunStep IsAssigned IsNumbered x (outcome_of x.servers event).notes (after_event x event)
  event_step (Takes s p) is assigned numbered = takes_step s p assigned numbered
  event_step (GivesUp s range pick) is assigned numbered = gives_up_step s range pick
  event_step (Checkpoints s range combine) is assigned numbered = checkpoints_step s range combine
  event_step (Splits s range key) is assigned numbered = splits_step s range key
  event_step (Stops s call) is assigned numbered = stops_step s call
  event_step (Starts s now batch) is assigned numbered = starts_step s now batch
  event_step (Moment now) is assigned numbered = Passes (map (told_moment now) x.servers) (moment_like now)
  event_step (Builds source range) is assigned numbered = absurd (is source range refl)
