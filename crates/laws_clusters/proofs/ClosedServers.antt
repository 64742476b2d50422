-- Whatever comes to servers that merge nothing leaves what their ranges know of their blob streams closed, where each answer to a range does.
use Rattle.std.proofs.Common.{◌≡◌, ℕ, zero, suc, ◌-◌, ◌^◌, ◌==◌, nat_lt, max, Bool, List, map, Option, Some, None, is_some, option_map, slice_get, slice_set, refl, sym, ap, ◌∙◌, subst, inl, inr}
use Rattle.std.specs.BTreeMap.{insert_entry}
use Rattle.std.specs.Ordering.{nat_cmp}
use Rattle.std.proofs.lemmas.Bool.{cases_eq}
use Rattle.std.proofs.lemmas.Option.{same_Some}
use Rattle.block_types.specs.declared.record.Nodes.{Nodes}
use Rattle.wire.specs.declared.actor.ActorId.{ActorId}
use Rattle.wire.specs.declared.actor.ActorId.TheVariants as actors
use Rattle.wire.specs.declared.actor.ReqNo.{ReqNo}
use Rattle.wire.specs.declared.body.Body.{Body}
use Rattle.wire.specs.declared.body.Body.TheVariants as bodies
use Rattle.wire.specs.declared.body.MapBody.{MapBody}
use Rattle.wire.specs.declared.body.MapBody.TheVariants as maps
use Rattle.wire.specs.declared.body.TableBody.{TableBody}
use Rattle.wire.specs.declared.body.TableBody.TheVariants as tables
use Rattle.wire.specs.declared.packet.Packet.{Packet}
use Rattle.wire.specs.declared.transaction.Change.{Change}
use Rattle.model_streams.specs.Maps.{entry_at}
use Rattle.model_streams.proofs.Tests.{if_elim}
use Rattle.model_partition.specs.declared.split_job.SplitJob.{SplitJob}
use Rattle.model_partition.specs.Range.{RangeState, RangeOutcome}
use Rattle.model_partition.specs.Serving.{transact_rule}
use Rattle.model_partition.specs.Getting.{get_rule}
use Rattle.model_partition.specs.Checkpoints.{checkpoint_rule}
use Rattle.model_partition.specs.Answering.{answered_number, is_answerer, answer_rule, give_up_all}
use Rattle.model_partition.specs.Server.{ServerState, ServerOutcome, range_of, set_range, split_of, counted, awaiting, split_awaiting, new_range, is_newer, assign_rule, renew_rule, told_by_map, map_rule, stepped, stepped_with, stepped_splitting, transacts_in, gets_in, table_rule, answer_in, split_answer_in, split_answer, answer_of, numbered_rule, taken_rule, has_numbers, server_rule, moment_rule, given_up_splitting, given_up_with, gives_up, picked, give_up_rule, started, checkpoint_refusal, checkpoints_in, server_checkpoint, split_refusal, splits_in, server_split}
use Rattle.model_partition.specs.Servers.{ServerCell, CellOutcome, cell_rests, cell_takes, cell_given_up, cell_gives_up, cell_checkpoints, cell_splits, cell_stops, cell_starts, at_server, first_pick, first_server, first_servers, told_moment}
use Rattle.model_histories.specs.ServerRun.{ServerRun, ServerEvent, Takes, GivesUp, Checkpoints, Splits, Stops, Starts, Moment, Builds, after_event}
use Rattle.laws_loads.proofs.Entries.{entry_set, entry_other, entry_unmapped}
use Rattle.laws_ranges.specs.SplitJobs.{AreClosed, BlobClosedIf}
use Rattle.laws_ranges.proofs.BlobClosed.{transact_closed, get_closed, checkpoint_closed, give_up_closed, assigned_closed}
use Rattle.laws_ranges.proofs.SplitClosed.{reply_closed, follows_closed, gives_up_closed}
use Rattle.laws_server_runs.specs.Places.{AreAscending}
use Rattle.laws_server_runs.proofs.RangeLists.{inserted_here, inserted_other, left_here, left_other}
use Rattle.laws_server_runs.proofs.StatesKept.{opened}
use Rattle.laws_server_runs.proofs.Unmerged.{HasNoMerge, HaveNoMerges, stepped_unmerged, given_up_unmerged, assigned_unmerged, answer_unmerged, unawaited_merge}

-- ---- ranges

abbrev pub AreAllClosed : List (ℕ × RangeState) → Type 0
AreAllClosed ranges = (range : ℕ) (r : RangeState) → range_of ranges range ≡ Some r → AreClosed r.blob_data.extents

-- what each range of a server knows of its blob stream is closed
abbrev pub HasClosed : ServerState → Type 0
HasClosed st = AreAllClosed st.ranges

module _ (st : ServerState) (whole : HasNoMerge st) (ascending : AreAscending st.ranges) (closed : HasClosed st) where
  abbrev Leaves : ServerOutcome → Type 0
  Leaves o = HasClosed o.after

  set_closed : (range : ℕ) (r : RangeState) → range_of st.ranges range ≡ Some r → (o : Option RangeState) → BlobClosedIf o → AreAllClosed (set_range st.ranges range o)
  set_closed range r found o left j u there = elim (cases_eq j range) [
    | inl same ↦
        (let is : o ≡ Some u = sym (left_here st.ranges range r o ascending found) ∙ subst (λ n. range_of (set_range st.ranges range o) n ≡ Some u) same there in
        subst BlobClosedIf is left)
    | inr apart ↦ closed j u (sym (left_other st.ranges range o j apart) ∙ there)
  ]

  inserted_closed : (range : ℕ) (r : RangeState) → AreClosed r.blob_data.extents → AreAllClosed (insert_entry nat_cmp st.ranges range r)
  inserted_closed range r left j u there = elim (cases_eq j range) [
    | inl same ↦
        (let is : r ≡ u = same_Some r u (sym (inserted_here st.ranges range r) ∙ subst (λ n. range_of (insert_entry nat_cmp st.ranges range r) n ≡ Some u) same there) in
        subst (λ (z : RangeState). AreClosed z.blob_data.extents) is left)
    | inr apart ↦ closed j u (sym (inserted_other st.ranges range r j apart) ∙ there)
  ]

  -- ---- steps

  splitting_closed : (range : ℕ) (r : RangeState) → range_of st.ranges range ≡ Some r → (job : SplitJob) (o : RangeOutcome) (a : Option RangeState) → BlobClosedIf a → Leaves (stepped_splitting st range job o a)
  splitting_closed range r found job o None left = set_closed range r found None tt
  splitting_closed range r found job o (Some next) left = set_closed range r found _ (follows_closed (counted st.context o) next job left)

  with_closed : (range : ℕ) (r : RangeState) → range_of st.ranges range ≡ Some r → (o : RangeOutcome) → BlobClosedIf o.after → (job : Option SplitJob) → Leaves (stepped_with st range job o)
  with_closed range r found o left None = set_closed range r found o.after left
  with_closed range r found o left (Some job) = splitting_closed range r found job o o.after left

  stepped_closed : (range : ℕ) (r : RangeState) → range_of st.ranges range ≡ Some r → (o : RangeOutcome) → BlobClosedIf o.after → Leaves (stepped st range o)
  stepped_closed range r found o left = subst Leaves (sym (stepped_unmerged st whole range o)) (with_closed range r found o left (split_of st.splits range))

  leaving_closed : (range : ℕ) (r : RangeState) → range_of st.ranges range ≡ Some r → (job : SplitJob) (o : RangeOutcome) (a : Option RangeState) → BlobClosedIf a → Leaves (given_up_splitting st range job o a)
  leaving_closed range r found job o None left = set_closed range r found None tt
  leaving_closed range r found job o (Some next) left = set_closed range r found _ (gives_up_closed (counted st.context o) next job left)

  gave_closed : (range : ℕ) (r : RangeState) → range_of st.ranges range ≡ Some r → (o : RangeOutcome) → BlobClosedIf o.after → (job : Option SplitJob) → Leaves (given_up_with st range job o)
  gave_closed range r found o left None = set_closed range r found o.after left
  gave_closed range r found o left (Some job) = leaving_closed range r found job o o.after left

  -- ---- what the map tells, and users ask

  assign_closed : (range generation until : ℕ) (known : Option RangeState) → Leaves (assign_rule st range generation until known)
  assign_closed range generation until known =
      if_elim Leaves (is_newer generation known) _ _
      (λ t. subst HasClosed (sym (assigned_unmerged st whole (opened st range generation until) range)) (inserted_closed range (new_range st.context range generation until) (assigned_closed st.context range generation until))) (λ f. closed)

  renew_closed : (range generation until : ℕ) (known : Option RangeState) → range_of st.ranges range ≡ known → Leaves (renew_rule st range generation until known)
  renew_closed range generation until None found = closed
  renew_closed range generation until (Some r) found = if_elim Leaves (r.load.generation == generation) _ _ (λ t. set_closed range r found (Some (record r { until = max r.until until })) (closed range r found)) (λ f. closed)

  told_closed : (body : MapBody) → Leaves (told_by_map st body)
  told_closed (maps.Assign range generation until) = assign_closed range generation until (range_of st.ranges range)
  told_closed (maps.Renew range generation until) = renew_closed range generation until (range_of st.ranges range) refl
  told_closed body = closed

  map_closed : (from : ActorId) (body : MapBody) → Leaves (map_rule st from body)
  map_closed actors.Map body = told_closed body
  map_closed from body = closed

  transacts_closed : (p : Packet) (range : ℕ) (changes : List Change) (q : ReqNo) (known : Option RangeState) → range_of st.ranges range ≡ known → Leaves (transacts_in st p range changes q known)
  transacts_closed p range changes q None found = closed
  transacts_closed p range changes q (Some r) found = stepped_closed range r found (transact_rule st.context r p.from q changes) (transact_closed st.context r (closed range r found) p.from q changes)

  gets_closed : (p : Packet) (range : ℕ) (key : List ℕ) (q : ReqNo) (known : Option RangeState) → range_of st.ranges range ≡ known → Leaves (gets_in st p range key q known)
  gets_closed p range key q None found = closed
  gets_closed p range key q (Some r) found = stepped_closed range r found (get_rule st.context r p.from q key) (get_closed st.context r (closed range r found) p.from q key)

  table_closed : (p : Packet) (body : TableBody) → Leaves (table_rule st p body)
  table_closed p (tables.Transact range changes q) = transacts_closed p range changes q (range_of st.ranges range) refl
  table_closed p (tables.Get range key q) = gets_closed p range key q (range_of st.ranges range) refl
  table_closed p body = closed

  -- ---- answers

  -- what the packet tells a range leaves that closed
  abbrev pub AnswersClosed : Packet → Type 0
  AnswersClosed p = (range : ℕ) (r : RangeState) → range_of st.ranges range ≡ Some r → (u : ReqNo) → answered_number p.body ≡ Some u → BlobClosedIf (answer_rule st.context r u p.body).after

  module _ (p : Packet) (answers : AnswersClosed p) where
    answer_closed : (u : ReqNo) → answered_number p.body ≡ Some u → (range : ℕ) (known : Option RangeState) → range_of st.ranges range ≡ known → Leaves (answer_in st p u range known)
    answer_closed u number range None found = closed
    answer_closed u number range (Some r) found = subst Leaves (sym (answer_unmerged st whole p u range r)) (with_closed range r found (answer_rule st.context r u p.body) (answers range r found u number) (split_of st.splits range))

    heard_closed : (range : ℕ) (known : Option RangeState) → range_of st.ranges range ≡ known → (job : Option SplitJob) → Leaves (split_answer_in st p range known job)
    heard_closed range (Some r) found (Some job) = set_closed range r found _ (reply_closed st.context r job (closed range r found) p.body)
    heard_closed range (Some r) found None = closed
    heard_closed range None found job = closed

    hears_closed : (u : ReqNo) (range : Option ℕ) → Leaves (split_answer st p u range)
    hears_closed u None = subst Leaves (sym (unawaited_merge st whole p u)) closed
    hears_closed u (Some range) = heard_closed range (range_of st.ranges range) refl (split_of st.splits range)

    awaited_closed : (u : ReqNo) → answered_number p.body ≡ Some u → (range : Option ℕ) → Leaves (answer_of st p u range)
    awaited_closed u number None = hears_closed u (split_awaiting st.splits u)
    awaited_closed u number (Some range) = answer_closed u number range (range_of st.ranges range) refl

    numbered_closed : (u : Option ReqNo) → answered_number p.body ≡ u → Leaves (numbered_rule st p u)
    numbered_closed None number = closed
    numbered_closed (Some u) number = if_elim Leaves (is_answerer p.from p.body) _ _ (λ t. awaited_closed u number (awaiting st.ranges u)) (λ f. closed)

    taken_closed : (body : Body) → p.body ≡ body → Leaves (taken_rule st p body)
    taken_closed (bodies.Map (maps.Assign range generation until)) is = map_closed p.from (maps.Assign range generation until)
    taken_closed (bodies.Map (maps.Renew range generation until)) is = map_closed p.from (maps.Renew range generation until)
    taken_closed (bodies.Table body) is = table_closed p body
    taken_closed body is = numbered_closed (answered_number body) (ap answered_number is)

    rule_closed : Leaves (server_rule st p p.body)
    rule_closed = if_elim Leaves (has_numbers st.context) _ _ (λ t. taken_closed p.body refl) (λ f. closed)

  -- ---- what it is told to do

  abbrev LeavesIf : Option ServerOutcome → Type 0
  LeavesIf None = Unit {0}
  LeavesIf (Some o) = Leaves o

  leaves_closed : (range : ℕ) (known : Option RangeState) → range_of st.ranges range ≡ known → LeavesIf (gives_up st range known)
  leaves_closed range None found = tt
  leaves_closed range (Some r) found =
      let o : RangeOutcome = give_up_all st.context r in
      if_elim Leaves (has_numbers st.context) _ _
      (λ t. subst Leaves (sym (given_up_unmerged st whole range o)) (gave_closed range r found o (give_up_closed st.context r (closed range r found)) (split_of st.splits range))) (λ f. closed)

  checkpoints_closed : (range : ℕ) (combine : Bool) (known : Option RangeState) → range_of st.ranges range ≡ known → Leaves (checkpoints_in st range combine known)
  checkpoints_closed range combine None found = closed
  checkpoints_closed range combine (Some r) found =
      if_elim Leaves (has_numbers st.context) _ _ (λ t. stepped_closed range r found (checkpoint_rule st.context r combine) (checkpoint_closed st.context r (closed range r found) combine)) (λ f. closed)

  made_closed : (range : ℕ) (combine : Bool) → Leaves (server_checkpoint st range combine)
  made_closed range combine = if_elim Leaves (is_some (checkpoint_refusal st range)) _ _ (λ t. closed) (λ f. checkpoints_closed range combine (range_of st.ranges range) refl)

  splits_closed : (range : ℕ) (key : List ℕ) (known : Option RangeState) → range_of st.ranges range ≡ known → Leaves (splits_in st range key known)
  splits_closed range key None found = closed
  splits_closed range key (Some r) found = if_elim Leaves (has_numbers st.context) _ _ (λ t. set_closed range r found (Some r) (closed range r found)) (λ f. closed)

  split_closed : (range : ℕ) (key : List ℕ) → Leaves (server_split st range key)
  split_closed range key = if_elim Leaves (is_some (split_refusal st range key)) _ _ (λ t. closed) (λ f. splits_closed range key (range_of st.ranges range) refl)

-- ---- all servers

abbrev IsClosedCell : ServerCell → Type 0
IsClosedCell cell = (st : ServerState) → cell.state ≡ Some st → HasClosed st

abbrev pub HaveClosed : List ServerCell → Type 0
HaveClosed servers = (s : ℕ) (cell : ServerCell) → entry_at servers s ≡ Some cell → IsClosedCell cell

abbrev pub HaveAscending : List ServerCell → Type 0
HaveAscending servers = (s : ℕ) (cell : ServerCell) → entry_at servers s ≡ Some cell → (st : ServerState) → cell.state ≡ Some st → AreAscending st.ranges

performed : (cell : ServerCell) (after : ServerState) → HasClosed after → IsClosedCell (record cell { state = Some after })
performed cell after closed q e = subst HasClosed (same_Some after q e) closed

-- a server that starts has no ranges
fresh : (s session now batch : ℕ) → HasClosed (started s session now first_pick batch)
fresh s session now batch range r found = absurd (let z : None ≡ Some r = found in cc)

module _ (servers : List ServerCell) (old : HaveClosed servers) where
  one_closed : (s : ℕ) (cell d : ServerCell) → entry_at servers s ≡ Some cell → IsClosedCell d → HaveClosed (slice_set servers (s - 1) d)
  one_closed s cell d at new t c there = elim (cases_eq t s) [
    | inl same ↦
        (let is : d ≡ c = same_Some d c (sym (entry_set servers s cell d at) ∙ subst (λ n. entry_at (slice_set servers (s - 1) d) n ≡ Some c) same there) in
        subst IsClosedCell is new)
    | inr apart ↦ old t c (sym (entry_other servers s cell d at t apart) ∙ there)
  ]

  at_closed : (s : ℕ) (rule : ServerCell → CellOutcome) → ((cell : ServerCell) → entry_at servers s ≡ Some cell → IsClosedCell (rule cell).cell) → (o : Option ServerCell) → entry_at servers s ≡ o → HaveClosed (at_server servers s rule o).servers
  at_closed s rule keeps None at = old
  at_closed s rule keeps (Some cell) at = one_closed s cell (rule cell).cell at (keeps cell at)

  told_cell_closed : (now : ℕ) (cell : ServerCell) → IsClosedCell cell → IsClosedCell (told_moment now cell)
  told_cell_closed now cell so q e = by cell.state refl e
    where
      by : (o : Option ServerState) → cell.state ≡ o → option_map (λ server. moment_rule server now) o ≡ Some q → HasClosed q
      by None is e = absurd cc
      by (Some st) is e = subst HasClosed (same_Some (moment_rule st now) q e) (so st is)

  moment_closed : (now : ℕ) → HaveClosed (map (told_moment now) servers)
  moment_closed now t c there =
      let before : (b : ServerCell) × (entry_at servers t ≡ Some b) × (c ≡ told_moment now b) = entry_unmapped (told_moment now) servers t c there in
      subst IsClosedCell (sym before.2) (told_cell_closed now before.0 (old t before.0 before.1))

  stops_closed : (call : ℕ) (cell : ServerCell) → IsClosedCell cell → IsClosedCell (cell_stops call cell)
  stops_closed call cell so = if_elim IsClosedCell (call == 0) _ _ (λ t q e. absurd (let z : None ≡ Some q = e in cc)) (λ f. so)

  starts_closed : (s now batch : ℕ) (cell : ServerCell) (o : Option ServerState) → IsClosedCell cell → IsClosedCell (cell_starts s now batch cell o)
  starts_closed s now batch cell (Some st) so = so
  starts_closed s now batch cell None so = if_elim IsClosedCell (nat_lt (suc cell.session) (2 ^ 64)) _ _ (λ t q e. subst HasClosed (same_Some (started s (suc cell.session) now first_pick batch) q e) (fresh s (suc cell.session) now batch)) (λ f. so)

  module _ (whole : HaveNoMerges servers) (ascending : HaveAscending servers) where
    -- what the packet tells the server leaves its ranges so
    abbrev pub TellsClosed : ℕ → Packet → Type 0
    TellsClosed s p = (cell : ServerCell) (at : entry_at servers s ≡ Some cell) (st : ServerState) (is : cell.state ≡ Some st) → AnswersClosed st (whole s cell at st is) (ascending s cell at st is) (old s cell at st is) p

    takes_closed : (s : ℕ) (p : Packet) → TellsClosed s p → (cell : ServerCell) → entry_at servers s ≡ Some cell → (o : Option ServerState) → cell.state ≡ o → IsClosedCell (cell_takes cell p o).cell
    takes_closed s p tells cell at None is = old s cell at
    takes_closed s p tells cell at (Some st) is = performed cell (server_rule st p p.body).after (rule_closed st (whole s cell at st is) (ascending s cell at st is) (old s cell at st is) p (tells cell at st is))

    gives_closed : (s range : ℕ) (pick : Nodes) (cell : ServerCell) → entry_at servers s ≡ Some cell → (o : Option ServerState) → cell.state ≡ o → IsClosedCell (cell_gives_up cell range pick o).cell
    gives_closed s range pick cell at None is = old s cell at
    gives_closed s range pick cell at (Some st) is = by (give_up_rule st range pick) (leaves_closed now (whole s cell at st is) (ascending s cell at st is) (old s cell at st is) range (range_of st.ranges range) refl)
      where
        now : ServerState
        now = picked st pick

        by : (o : Option ServerOutcome) → LeavesIf now (whole s cell at st is) (ascending s cell at st is) (old s cell at st is) o → IsClosedCell (cell_given_up cell o).cell
        by None left = old s cell at
        by (Some o) left = performed cell o.after left

    makes_closed : (s range : ℕ) (combine : Bool) (cell : ServerCell) → entry_at servers s ≡ Some cell → (o : Option ServerState) → cell.state ≡ o → IsClosedCell (cell_checkpoints cell range combine o).cell
    makes_closed s range combine cell at None is = old s cell at
    makes_closed s range combine cell at (Some st) is = performed cell (server_checkpoint st range combine).after (made_closed st (whole s cell at st is) (ascending s cell at st is) (old s cell at st is) range combine)

    begins_closed : (s range : ℕ) (key : List ℕ) (cell : ServerCell) → entry_at servers s ≡ Some cell → (o : Option ServerState) → cell.state ≡ o → IsClosedCell (cell_splits cell range key o).cell
    begins_closed s range key cell at None is = old s cell at
    begins_closed s range key cell at (Some st) is = performed cell (server_split st range key).after (split_closed st (whole s cell at st is) (ascending s cell at st is) (old s cell at st is) range key)

-- ---- whatever comes

first_from : (batch k n j : ℕ) (cell : ServerCell) → slice_get (first_servers batch k n) j ≡ Some cell → IsClosedCell cell
first_from batch k zero j cell e = absurd cc
first_from batch k (suc n) zero cell e = subst IsClosedCell (same_Some (first_server batch k) cell e) (λ q up. subst HasClosed (same_Some (started k 1 0 first_pick batch) q up) (fresh k 1 0 batch))
first_from batch k (suc n) (suc j) cell e = first_from batch (suc k) n j cell e

pub first_closed : (batch servers : ℕ) → HaveClosed (first_servers batch 1 servers)
first_closed batch servers zero cell e = absurd cc
first_closed batch servers (suc n) cell e = first_from batch 1 servers n cell e

module _ (x : ServerRun) (whole : HaveNoMerges x.servers) (ascending : HaveAscending x.servers) (old : HaveClosed x.servers) where
  abbrev pub EventTells : ServerEvent → Type 0
  EventTells (Takes s p) = TellsClosed x.servers old whole ascending s p
  EventTells event = Unit {0}

  -- Each event leaves all servers so.
  pub event_closed : (event : ServerEvent) → EventTells event → HaveClosed (after_event x event).servers
  event_closed (Takes s p) tells = at_closed x.servers old s (λ cell. cell_takes cell p cell.state) (λ cell at. takes_closed x.servers old whole ascending s p tells cell at cell.state refl) (entry_at x.servers s) refl
  event_closed (GivesUp s range pick) tells =
      at_closed x.servers old s (λ cell. cell_gives_up cell range pick cell.state) (λ cell at. gives_closed x.servers old whole ascending s range pick cell at cell.state refl) (entry_at x.servers s) refl
  event_closed (Checkpoints s range combine) tells =
      at_closed x.servers old s (λ cell. cell_checkpoints cell range combine cell.state) (λ cell at. makes_closed x.servers old whole ascending s range combine cell at cell.state refl) (entry_at x.servers s) refl
  event_closed (Splits s range key) tells =
      at_closed x.servers old s (λ cell. cell_splits cell range key cell.state) (λ cell at. begins_closed x.servers old whole ascending s range key cell at cell.state refl) (entry_at x.servers s) refl
  event_closed (Stops s call) tells = at_closed x.servers old s (λ cell. cell_rests (cell_stops call cell)) (λ cell at. stops_closed x.servers old call cell (old s cell at)) (entry_at x.servers s) refl
  event_closed (Starts s now batch) tells =
      at_closed x.servers old s (λ cell. cell_rests (cell_starts s now batch cell cell.state)) (λ cell at. starts_closed x.servers old s now batch cell cell.state (old s cell at)) (entry_at x.servers s) refl
  event_closed (Moment now) tells = moment_closed x.servers old now
  event_closed (Builds source range) tells = old
