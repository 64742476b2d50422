-- What each step of a server leaves so, all servers are over a list of events.
use Rattle.std.proofs.Common.{◌≡◌, ℕ, zero, suc, ◌-◌, ◌^◌, List, map, Bool, true, false, ◌==◌, nat_lt, Option, Some, None, is_some, option_map, slice_get, slice_set, refl, sym, ◌∙◌, subst, inl, inr, if◌then◌else◌}
use Rattle.std.specs.BTreeMap.{insert_entry}
use Rattle.std.specs.Ordering.{nat_cmp}
use Rattle.std.proofs.lemmas.Bool.{cases_eq}
use Rattle.block_types.specs.declared.record.Nodes.{Nodes}
use Rattle.wire.specs.declared.actor.ActorId.{ActorId}
use Rattle.wire.specs.declared.actor.ActorId.TheVariants as actors
use Rattle.wire.specs.declared.actor.ReqNo.{ReqNo}
use Rattle.wire.specs.declared.body.Body.{Body}
use Rattle.wire.specs.declared.body.Body.TheVariants as bodies
use Rattle.wire.specs.declared.body.MapBody.{MapBody}
use Rattle.wire.specs.declared.body.MapBody.TheVariants as maps
use Rattle.wire.specs.declared.body.TableBody.{TableBody}
use Rattle.wire.specs.declared.body.TableBody.TheVariants as tables
use Rattle.wire.specs.declared.packet.Packet.{Packet}
use Rattle.wire.specs.declared.transaction.Change.{Change}
use Rattle.model_streams.specs.Maps.{entry_at}
use Rattle.model_streams.proofs.Tests.{if_elim}
use Rattle.model_partition.specs.declared.server_context.ServerContext.{ServerContext}
use Rattle.model_partition.specs.Range.{RangeState, RangeOutcome, used}
use Rattle.model_partition.specs.Serving.{transact_rule}
use Rattle.model_partition.specs.Getting.{get_rule}
use Rattle.model_partition.specs.Checkpoints.{checkpoint_rule}
use Rattle.model_partition.specs.Answering.{answered_number, is_answerer, give_up_all}
use Rattle.model_partition.specs.Server.{ServerState, ServerOutcome, range_of, awaiting, set_split, split_awaiting, merge_with, stepped, new_range, is_newer, assigned, assign_rule, renew_rule, told_by_map, map_rule, transacts_in, gets_in, table_rule, answer_in, split_answer, answer_of, numbered_rule, taken_rule, has_numbers, server_rule, moment_rule, given_up, gives_up, picked, give_up_rule, started, checkpoint_refusal, checkpoints_in, server_checkpoint, server_split}
use Rattle.model_partition.specs.Servers.{ServerCell, CellOutcome, cell_rests, cell_takes, cell_given_up, cell_gives_up, cell_checkpoints, cell_splits, cell_stops, cell_starts, at_server, first_pick, first_server, first_servers, told_moment}
use Rattle.model_histories.specs.ServerRun.{ServerRun, ServerEvent, Takes, GivesUp, Checkpoints, Splits, Stops, Starts, Moment, Builds, after_event}
use Rattle.laws_loads.proofs.Entries.{entry_set, entry_other, entry_unmapped}

-- a server to which a range is assigned
abbrev pub opened : ServerState → ℕ → ℕ → ℕ → ServerState
opened s range generation until =
    record s {
      context = used s.context;
      ranges = insert_entry nat_cmp s.ranges range (new_range s.context range generation until);
      splits = set_split s.splits range None;
    }

module _ (IsSo : ServerState → Type 0) where
  -- a server that is so, and what each of its steps leaves
  pub record StepsKeep (s : ServerState) : Type 0 where
    pub now : IsSo s
    pub steps : (range : ℕ) (o : RangeOutcome) → IsSo (stepped s range o).after
    pub opens : (range generation until : ℕ) → IsSo (assigned (opened s range generation until) (merge_with s.merges range))
    pub renews : (ranges : List (ℕ × RangeState)) → IsSo (record s { ranges = ranges })
    pub answers : (p : Packet) (w : ReqNo) (range : ℕ) (r : RangeState) → IsSo (answer_in s p w range (Some r)).after
    pub hears : (p : Packet) (w : ReqNo) → IsSo (split_answer s p w (split_awaiting s.splits w)).after
    pub leaves : (range : ℕ) (o : RangeOutcome) → IsSo (given_up s range (merge_with s.merges range) o).after

  -- ---- one server

  module _ (s : ServerState) (keep : StepsKeep s) where
    abbrev LeavesSo : ServerOutcome → Type 0
    LeavesSo o = IsSo o.after

    assign_so : (range generation until : ℕ) (known : Option RangeState) → LeavesSo (assign_rule s range generation until known)
    assign_so range generation until known = if_elim LeavesSo (is_newer generation known) _ _ (λ t. keep.opens range generation until) (λ f. keep.now)

    renew_so : (range generation until : ℕ) (known : Option RangeState) → LeavesSo (renew_rule s range generation until known)
    renew_so range generation until None = keep.now
    renew_so range generation until (Some r) = if_elim LeavesSo (r.load.generation == generation) _ _ (λ t. keep.renews _) (λ f. keep.now)

    told_so : (body : MapBody) → LeavesSo (told_by_map s body)
    told_so (maps.Assign range generation until) = assign_so range generation until (range_of s.ranges range)
    told_so (maps.Renew range generation until) = renew_so range generation until (range_of s.ranges range)
    told_so body = keep.now

    map_so : (from : ActorId) (body : MapBody) → LeavesSo (map_rule s from body)
    map_so actors.Map body = told_so body
    map_so from body = keep.now

    transacts_so : (p : Packet) (range : ℕ) (changes : List Change) (q : ReqNo) (known : Option RangeState) → LeavesSo (transacts_in s p range changes q known)
    transacts_so p range changes q None = keep.now
    transacts_so p range changes q (Some r) = keep.steps range (transact_rule s.context r p.from q changes)

    gets_so : (p : Packet) (range : ℕ) (key : List ℕ) (q : ReqNo) (known : Option RangeState) → LeavesSo (gets_in s p range key q known)
    gets_so p range key q None = keep.now
    gets_so p range key q (Some r) = keep.steps range (get_rule s.context r p.from q key)

    table_so : (p : Packet) (body : TableBody) → LeavesSo (table_rule s p body)
    table_so p (tables.Transact range changes q) = transacts_so p range changes q (range_of s.ranges range)
    table_so p (tables.Get range key q) = gets_so p range key q (range_of s.ranges range)
    table_so p body = keep.now

    answer_in_so : (p : Packet) (w : ReqNo) (range : ℕ) (known : Option RangeState) → LeavesSo (answer_in s p w range known)
    answer_in_so p w range None = keep.now
    answer_in_so p w range (Some r) = keep.answers p w range r

    answer_so : (p : Packet) (w : ReqNo) (range : Option ℕ) → LeavesSo (answer_of s p w range)
    answer_so p w None = keep.hears p w
    answer_so p w (Some range) = answer_in_so p w range (range_of s.ranges range)

    numbered_so : (p : Packet) (w : Option ReqNo) → LeavesSo (numbered_rule s p w)
    numbered_so p None = keep.now
    numbered_so p (Some w) = if_elim LeavesSo (is_answerer p.from p.body) _ _ (λ t. answer_so p w (awaiting s.ranges w)) (λ f. keep.now)

    taken_so : (p : Packet) (body : Body) → LeavesSo (taken_rule s p body)
    taken_so p (bodies.Map (maps.Assign range generation until)) = map_so p.from (maps.Assign range generation until)
    taken_so p (bodies.Map (maps.Renew range generation until)) = map_so p.from (maps.Renew range generation until)
    taken_so p (bodies.Table body) = table_so p body
    taken_so p body = numbered_so p (answered_number body)

    rule_so : (p : Packet) → LeavesSo (server_rule s p p.body)
    rule_so p = if_elim LeavesSo (has_numbers s.context) _ _ (λ t. taken_so p p.body) (λ f. keep.now)

    abbrev LeavesSoIf : Option ServerOutcome → Type 0
    LeavesSoIf None = Unit {0}
    LeavesSoIf (Some o) = LeavesSo o

    gives_up_so : (range : ℕ) (known : Option RangeState) → LeavesSoIf (gives_up s range known)
    gives_up_so range None = tt
    gives_up_so range (Some r) = if_elim LeavesSo (has_numbers s.context) _ _ (λ t. keep.leaves range (give_up_all s.context r)) (λ f. keep.now)

    checkpoints_so : (range : ℕ) (combine : Bool) (known : Option RangeState) → LeavesSo (checkpoints_in s range combine known)
    checkpoints_so range combine None = keep.now
    checkpoints_so range combine (Some r) = if_elim LeavesSo (has_numbers s.context) _ _ (λ t. keep.steps range (checkpoint_rule s.context r combine)) (λ f. keep.now)

    checkpoint_so : (range : ℕ) (combine : Bool) → LeavesSo (server_checkpoint s range combine)
    checkpoint_so range combine = if_elim LeavesSo (is_some (checkpoint_refusal s range)) _ _ (λ t. keep.now) (λ f. checkpoints_so range combine (range_of s.ranges range))

  -- ---- all servers

  -- where the server runs it is so
  abbrev pub IsSoCell : ServerCell → Type 0
  IsSoCell cell = (st : ServerState) → cell.state ≡ Some st → IsSo st

  abbrev pub AllSo : List ServerCell → Type 0
  AllSo servers = (s : ℕ) (cell : ServerCell) → entry_at servers s ≡ Some cell → IsSoCell cell

  performed : (cell : ServerCell) (after : ServerState) → IsSo after → IsSoCell (record cell { state = Some after })
  performed cell after so q e = let same : after ≡ q = cc in subst IsSo same so

  -- one server goes to another state
  one_so : (servers : List ServerCell) → AllSo servers → (s : ℕ) (cell d : ServerCell) → entry_at servers s ≡ Some cell → IsSoCell d → AllSo (slice_set servers (s - 1) d)
  one_so servers old s cell d at new t c there = elim (cases_eq t s) [
    | inl same ↦
        (let found : Some d ≡ Some c = sym (entry_set servers s cell d at) ∙ subst (λ n. entry_at (slice_set servers (s - 1) d) n ≡ Some c) same there in
        let is : d ≡ c = cc in
        subst IsSoCell is new)
    | inr apart ↦ old t c (sym (entry_other servers s cell d at t apart) ∙ there)
  ]

  at_so : (servers : List ServerCell) → AllSo servers → (s : ℕ) (rule : ServerCell → CellOutcome) → ((cell : ServerCell) → IsSoCell cell → IsSoCell (rule cell).cell) →
      (o : Option ServerCell) → entry_at servers s ≡ o → AllSo (at_server servers s rule o).servers
  at_so servers old s rule keeps None at = old
  at_so servers old s rule keeps (Some cell) at = one_so servers old s cell (rule cell).cell at (keeps cell (old s cell at))

  stops_so : (call : ℕ) (cell : ServerCell) → IsSoCell cell → IsSoCell (cell_stops call cell)
  stops_so call cell old = by (call == 0)
    where
      by : (b : Bool) → IsSoCell (if b then record cell { state = None } else cell)
      by true q e = absurd cc
      by false q e = old q e

  -- where steps keep it, as do others that change no more than the server's context, and starts are so
  module _ (keep : (s : ServerState) → IsSo s → StepsKeep s) (still : (s : ServerState) (context : ServerContext) → IsSo s → IsSo (record s { context = context }))
      (fresh : (s session now batch : ℕ) → IsSo (started s session now first_pick batch)) where
    takes_so : (p : Packet) (cell : ServerCell) (o : Option ServerState) → cell.state ≡ o → IsSoCell cell → IsSoCell (cell_takes cell p o).cell
    takes_so p cell None is old = old
    takes_so p cell (Some st) is old = performed cell (server_rule st p p.body).after (rule_so st (keep st (old st is)) p)

    given_so : (cell : ServerCell) (st : ServerState) (so : StepsKeep st) (o : Option ServerOutcome) → LeavesSoIf st so o → IsSoCell cell → IsSoCell (cell_given_up cell o).cell
    given_so cell st so None h old = old
    given_so cell st so (Some o) h old = performed cell o.after h

    gives_so : (range : ℕ) (pick : Nodes) (cell : ServerCell) (o : Option ServerState) → cell.state ≡ o → IsSoCell cell → IsSoCell (cell_gives_up cell range pick o).cell
    gives_so range pick cell None is old = old
    gives_so range pick cell (Some st) is old =
        let so : StepsKeep (picked st pick) = keep (picked st pick) (still st (picked st pick).context (old st is)) in
        given_so cell (picked st pick) so (give_up_rule st range pick) (gives_up_so (picked st pick) so range (range_of st.ranges range)) old

    makes_so : (range : ℕ) (combine : Bool) (cell : ServerCell) (o : Option ServerState) → cell.state ≡ o → IsSoCell cell → IsSoCell (cell_checkpoints cell range combine o).cell
    makes_so range combine cell None is old = old
    makes_so range combine cell (Some st) is old = performed cell (server_checkpoint st range combine).after (checkpoint_so st (keep st (old st is)) range combine)

    splits_so : (range : ℕ) (key : List ℕ) → ((st : ServerState) → IsSo st → IsSo (server_split st range key).after) → (cell : ServerCell) (o : Option ServerState) → cell.state ≡ o → IsSoCell cell → IsSoCell (cell_splits cell range key o).cell
    splits_so range key split cell None is old = old
    splits_so range key split cell (Some st) is old = performed cell (server_split st range key).after (split st (old st is))

    starts_so : (s now batch : ℕ) (cell : ServerCell) (o : Option ServerState) → IsSoCell cell → IsSoCell (cell_starts s now batch cell o)
    starts_so s now batch cell (Some st) old = old
    starts_so s now batch cell None old = by (nat_lt (suc cell.session) (2 ^ 64))
      where
        by : (b : Bool) → IsSoCell (if b then record { session = suc cell.session; state = Some (started s (suc cell.session) now first_pick batch) } else cell)
        by true q e = let same : started s (suc cell.session) now first_pick batch ≡ q = cc in subst IsSo same (fresh s (suc cell.session) now batch)
        by false q e = old q e

    told_so_cell : (now : ℕ) (cell : ServerCell) → IsSoCell cell → IsSoCell (told_moment now cell)
    told_so_cell now cell old q e = by cell.state refl e
      where
        by : (o : Option ServerState) → cell.state ≡ o → option_map (λ server. moment_rule server now) o ≡ Some q → IsSo q
        by None is e = absurd cc
        by (Some st) is e = let same : moment_rule st now ≡ q = cc in subst IsSo same (still st (moment_rule st now).context (old st is))

    moment_so : (servers : List ServerCell) → AllSo servers → (now : ℕ) → AllSo (map (told_moment now) servers)
    moment_so servers old now t c there =
        let before : (b : ServerCell) × (entry_at servers t ≡ Some b) × (c ≡ told_moment now b) = entry_unmapped (told_moment now) servers t c there in
        subst IsSoCell (sym before.2) (told_so_cell now before.0 (old t before.0 before.1))

    -- ---- whatever comes

    first_so_from : (batch k n j : ℕ) (cell : ServerCell) → slice_get (first_servers batch k n) j ≡ Some cell → IsSoCell cell
    first_so_from batch k zero j cell e = absurd cc
    first_so_from batch k (suc n) zero cell e =
        let there : first_server batch k ≡ cell = cc in
        subst IsSoCell there (λ q up. let is : started k 1 0 first_pick batch ≡ q = cc in subst IsSo is (fresh k 1 0 batch))
    first_so_from batch k (suc n) (suc j) cell e = first_so_from batch (suc k) n j cell e

    pub first_so : (batch servers : ℕ) → AllSo (first_servers batch 1 servers)
    first_so batch servers zero cell e = absurd cc
    first_so batch servers (suc n) cell e = first_so_from batch 1 servers n cell e

    -- splits begin where they keep it too
    pub event_so : (x : ServerRun) (event : ServerEvent) → ((s range : ℕ) (key : List ℕ) → event ≡ Splits s range key → (st : ServerState) → IsSo st → IsSo (server_split st range key).after) →
        AllSo x.servers → AllSo (after_event x event).servers
    event_so x (Takes s p) splits old = at_so x.servers old s (λ cell. cell_takes cell p cell.state) (λ cell. takes_so p cell cell.state refl) (entry_at x.servers s) refl
    event_so x (GivesUp s range pick) splits old = at_so x.servers old s (λ cell. cell_gives_up cell range pick cell.state) (λ cell. gives_so range pick cell cell.state refl) (entry_at x.servers s) refl
    event_so x (Checkpoints s range combine) splits old =
        at_so x.servers old s (λ cell. cell_checkpoints cell range combine cell.state) (λ cell. makes_so range combine cell cell.state refl) (entry_at x.servers s) refl
    event_so x (Splits s range key) splits old =
        at_so x.servers old s (λ cell. cell_splits cell range key cell.state) (λ cell. splits_so range key (splits s range key refl) cell cell.state refl) (entry_at x.servers s) refl
    event_so x (Stops s call) splits old = at_so x.servers old s (λ cell. cell_rests (cell_stops call cell)) (λ cell. stops_so call cell) (entry_at x.servers s) refl
    event_so x (Starts s now batch) splits old =
        at_so x.servers old s (λ cell. cell_rests (cell_starts s now batch cell cell.state)) (λ cell. starts_so s now batch cell cell.state) (entry_at x.servers s) refl
    event_so x (Moment now) splits old = moment_so x.servers old now
    event_so x (Builds source range) splits old = old
