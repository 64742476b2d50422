-- What a server shows in one of its steps is what a rule of one of its ranges shows; and Gets that it answers are shown where a packet comes to
-- it, by a Get of one of its ranges, or by an answer that came for one.
use Rattle.std.proofs.Common.{◌≡◌, ◌==◌, ℕ, Bool, true, false, List, [], Option, Some, None, is_some, refl, sym, subst, if◌then◌else◌}
use Rattle.block_types.specs.declared.record.Nodes.{Nodes}
use Rattle.wire.specs.declared.actor.ActorId.{ActorId}
use Rattle.wire.specs.declared.actor.ActorId.TheVariants as actors
use Rattle.wire.specs.declared.actor.ReqNo.{ReqNo}
use Rattle.wire.specs.declared.body.Body.{Body}
use Rattle.wire.specs.declared.body.Body.TheVariants as bodies
use Rattle.wire.specs.declared.body.MapBody.{MapBody}
use Rattle.wire.specs.declared.body.MapBody.TheVariants as maps
use Rattle.wire.specs.declared.body.TableBody.{TableBody}
use Rattle.wire.specs.declared.body.TableBody.TheVariants as tables
use Rattle.wire.specs.declared.packet.Packet.{Packet}
use Rattle.wire.specs.declared.transaction.Change.{Change}
use Rattle.model_streams.proofs.Tests.{if_elim}
use Rattle.model_partition.specs.declared.merge_job.MergeJob.{MergeJob}
use Rattle.model_partition.specs.declared.split_job.SplitJob.{SplitJob}
use Rattle.model_partition.specs.declared.table_note.TableNote.{TableNote}
use Rattle.model_partition.specs.Range.{RangeState, RangeOutcome}
use Rattle.model_partition.specs.Serving.{transact_rule}
use Rattle.model_partition.specs.Getting.{get_rule}
use Rattle.model_partition.specs.Merges.{left_trim}
use Rattle.model_partition.specs.Checkpoints.{checkpoint_rule}
use Rattle.model_partition.specs.Answering.{answered_number, is_answerer, answer_rule, give_up_all}
use Rattle.model_partition.specs.Server.{ServerState, ServerOutcome, TwoRanges, range_of, split_of, awaiting, split_awaiting, merge_awaiting, merge_with, merge_of, both_of, rests, stepped_with, stepped_splitting, merged_behind, stepped_alone, merge_follows, stepped_merging, stepped_in, stepped, is_newer, assign_rule, renew_rule, told_by_map, map_rule, transacts_in, gets_in, table_rule, left_ended, answer_ending, answer_at, answer_in, answered_both, merge_answer_in, merge_answer, split_answer_in, split_answer, answer_of, numbered_rule, taken_rule, has_numbers, server_rule, given_up_with, given_up_splitting, given_up_merging, merge_gives_up, given_up, gives_up, picked, give_up_rule, checkpoint_refusal, checkpoints_in, server_checkpoint, split_refusal, splits_in, server_split}
use Rattle.model_histories.specs.ServerRun.{RangeEffect, Rests, answer_effect, awaited_effect, numbered_effect, packet_effect, server_effect}
use Rattle.laws_server_runs.proofs.WaitingGets.{AllGots, checkpoint_leaves}

-- ---- a step of a range

module _ (s : ServerState) (range : ℕ) (o : RangeOutcome) where
  abbrev ShowsAs : ServerOutcome → Type 0
  ShowsAs t = t.notes ≡ o.notes

  splitting_notes : (job : SplitJob) (after : Option RangeState) → ShowsAs (stepped_splitting s range job o after)
  splitting_notes job None = refl
  splitting_notes job (Some r) = refl

  apart_notes : (job : Option SplitJob) → ShowsAs (stepped_with s range job o)
  apart_notes None = refl
  apart_notes (Some job) = splitting_notes job o.after

  behind_notes : (left : ℕ) (job : MergeJob) (after : Option RangeState) (goes_on : ServerState → ℕ → MergeJob → ServerOutcome) → ShowsAs (merged_behind o (stepped_alone s range o) left job after goes_on)
  behind_notes left job None goes_on = refl
  behind_notes left job (Some r) goes_on = refl

  merging_notes : (left : ℕ) (job : Option MergeJob) → ShowsAs (stepped_merging s range left job o)
  merging_notes left None = apart_notes (split_of s.splits range)
  merging_notes left (Some job) = behind_notes left job o.after (merge_follows range)

  in_notes : (left : Option ℕ) → ShowsAs (stepped_in s range left o)
  in_notes None = apart_notes (split_of s.splits range)
  in_notes (Some left) = merging_notes left (merge_of s.merges left)

  pub stepped_notes : ShowsAs (stepped s range o)
  stepped_notes = in_notes (merge_with s.merges range)

  -- it gives up
  up_splitting : (job : SplitJob) (after : Option RangeState) → ShowsAs (given_up_splitting s range job o after)
  up_splitting job None = refl
  up_splitting job (Some r) = refl

  up_apart : (job : Option SplitJob) → ShowsAs (given_up_with s range job o)
  up_apart None = refl
  up_apart (Some job) = up_splitting job o.after

  up_merging : (left : ℕ) (job : Option MergeJob) → ShowsAs (given_up_merging s range left job o)
  up_merging left None = up_apart (split_of s.splits range)
  up_merging left (Some job) = behind_notes left job o.after (merge_gives_up range)

  pub given_up_notes : (left : Option ℕ) → ShowsAs (given_up s range left o)
  given_up_notes None = up_apart (split_of s.splits range)
  given_up_notes (Some left) = up_merging left (merge_of s.merges left)

-- ---- steps that show nothing

module _ (s : ServerState) where
  abbrev ShowsNone : ServerOutcome → Type 0
  ShowsNone t = t.notes ≡ []

  assign_none : (range generation until : ℕ) (known : Option RangeState) → ShowsNone (assign_rule s range generation until known)
  assign_none range generation until known = if_elim ShowsNone (is_newer generation known) _ _ (λ t. refl) (λ f. refl)

  renew_none : (range generation until : ℕ) (known : Option RangeState) → ShowsNone (renew_rule s range generation until known)
  renew_none range generation until None = refl
  renew_none range generation until (Some r) = if_elim ShowsNone (r.load.generation == generation) _ _ (λ t. refl) (λ f. refl)

  told_none : (body : MapBody) → ShowsNone (told_by_map s body)
  told_none (maps.Assign range generation until) = assign_none range generation until (range_of s.ranges range)
  told_none (maps.Renew range generation until) = renew_none range generation until (range_of s.ranges range)
  told_none body = refl

  map_none : (from : ActorId) (body : MapBody) → ShowsNone (map_rule s from body)
  map_none actors.Map body = told_none body
  map_none from body = refl

  module _ (p : Packet) where
    both_none : (left : ℕ) (job : MergeJob) (two : Option TwoRanges) → ShowsNone (answered_both s p left job two)
    both_none left job None = refl
    both_none left job (Some two) = refl

    merge_in_none : (left : ℕ) (job : Option MergeJob) → ShowsNone (merge_answer_in s p left job)
    merge_in_none left None = refl
    merge_in_none left (Some job) = both_none left job (both_of s.ranges job)

    merge_none : (left : Option ℕ) → ShowsNone (merge_answer s p left)
    merge_none None = refl
    merge_none (Some left) = merge_in_none left (merge_of s.merges left)

    split_in_none : (range : ℕ) (known : Option RangeState) (job : Option SplitJob) → ShowsNone (split_answer_in s p range known job)
    split_in_none range (Some r) (Some job) = refl
    split_in_none range (Some r) None = refl
    split_in_none range None job = refl

    split_none : (w : ReqNo) (range : Option ℕ) → ShowsNone (split_answer s p w range)
    split_none w None = merge_none (merge_awaiting s.merges w)
    split_none w (Some range) = split_in_none range (range_of s.ranges range) (split_of s.splits range)

  left_none : (left : ℕ) (job : MergeJob) (x : ℕ × Bool) (two : Option TwoRanges) → ShowsNone (left_ended s left job x two)
  left_none left job x None = refl
  left_none left job x (Some two) = refl

  -- ---- what a server is told

  pub give_up_none : (range : ℕ) (pick : Nodes) (o : ServerOutcome) → give_up_rule s range pick ≡ Some o → ShowsNone o
  give_up_none range pick o is = by (range_of s.ranges range) is
    where
      q : ServerState
      q = picked s pick

      by : (known : Option RangeState) → gives_up q range known ≡ Some o → ShowsNone o
      by None e = absurd (let z : None ≡ Some o = e in cc)
      by (Some r) e =
          let same : (if has_numbers q.context then given_up q range (merge_with q.merges range) (give_up_all q.context r) else rests q) ≡ o = cc in
          subst ShowsNone same (if_elim ShowsNone (has_numbers q.context) _ _ (λ t. given_up_notes q range (give_up_all q.context r) (merge_with q.merges range)) (λ f. refl))

  splits_in_none : (range : ℕ) (key : List ℕ) (known : Option RangeState) → ShowsNone (splits_in s range key known)
  splits_in_none range key None = refl
  splits_in_none range key (Some r) = if_elim ShowsNone (has_numbers s.context) _ _ (λ t. refl) (λ f. refl)

  pub splits_none : (range : ℕ) (key : List ℕ) → ShowsNone (server_split s range key)
  splits_none range key = if_elim ShowsNone (is_some (split_refusal s range key)) _ _ (λ t. refl) (λ f. splits_in_none range key (range_of s.ranges range))

  -- a checkpoint shows no Get
  module _ (Q : (range g : ℕ) → List ℕ → Option (List ℕ) → Type 0) where
    abbrev ShowsGots : ServerOutcome → Type 0
    ShowsGots t = AllGots Q t.notes

    checkpoints_in_gots : (range : ℕ) (combine : Bool) (known : Option RangeState) → ShowsGots (checkpoints_in s range combine known)
    checkpoints_in_gots range combine None = tt
    checkpoints_in_gots range combine (Some r) =
        if_elim ShowsGots (has_numbers s.context) _ _
        (λ t. subst (AllGots Q) (sym (stepped_notes s range (checkpoint_rule s.context r combine))) (checkpoint_leaves (λ gets. Unit {0}) Q s.context r tt combine).1) (λ f. tt)

    pub checkpoint_gots : (range : ℕ) (combine : Bool) → ShowsGots (server_checkpoint s range combine)
    checkpoint_gots range combine = if_elim ShowsGots (is_some (checkpoint_refusal s range)) _ _ (λ t. tt) (λ f. checkpoints_in_gots range combine (range_of s.ranges range))

-- ---- a packet comes

module _ (s : ServerState) (p : Packet) (Shows : RangeEffect → List TableNote → Type 0) (quiet : (e : RangeEffect) → Shows e [])
    (transacts : (e : RangeEffect) (range : ℕ) (r : RangeState) (q : ReqNo) (changes : List Change) → range_of s.ranges range ≡ Some r → Shows e (transact_rule s.context r p.from q changes).notes)
    (gets : (e : RangeEffect) (range : ℕ) (r : RangeState) (q : ReqNo) (key : List ℕ) → range_of s.ranges range ≡ Some r → Shows e (get_rule s.context r p.from q key).notes)
    (answers : (w : ReqNo) (range : ℕ) (r : RangeState) → range_of s.ranges range ≡ Some r → Shows (answer_effect s p w range (Some r)) (answer_rule s.context r w p.body).notes) where
  nothing : (e : RangeEffect) (o : ServerOutcome) → o.notes ≡ [] → Shows e o.notes
  nothing e o none = subst (Shows e) (sym none) (quiet e)

  as_range : (e : RangeEffect) (range : ℕ) (o : RangeOutcome) → Shows e o.notes → Shows e (stepped s range o).notes
  as_range e range o h = subst (Shows e) (sym (stepped_notes s range o)) h

  transacts_show : (e : RangeEffect) (range : ℕ) (changes : List Change) (q : ReqNo) (known : Option RangeState) → range_of s.ranges range ≡ known → Shows e (transacts_in s p range changes q known).notes
  transacts_show e range changes q None held = quiet e
  transacts_show e range changes q (Some r) held = as_range e range (transact_rule s.context r p.from q changes) (transacts e range r q changes held)

  gets_show : (e : RangeEffect) (range : ℕ) (key : List ℕ) (q : ReqNo) (known : Option RangeState) → range_of s.ranges range ≡ known → Shows e (gets_in s p range key q known).notes
  gets_show e range key q None held = quiet e
  gets_show e range key q (Some r) held = as_range e range (get_rule s.context r p.from q key) (gets e range r q key held)

  table_shows : (e : RangeEffect) (body : TableBody) → Shows e (table_rule s p body).notes
  table_shows e (tables.Transact range changes q) = transacts_show e range changes q (range_of s.ranges range) refl
  table_shows e (tables.Get range key q) = gets_show e range key q (range_of s.ranges range) refl
  table_shows e body = quiet e

  ending_shows : (w : ReqNo) (range : ℕ) (r : RangeState) → range_of s.ranges range ≡ Some r → (job : MergeJob) (x : Option (ℕ × Bool)) → Shows (answer_effect s p w range (Some r)) (answer_ending s p w range r job x).notes
  ending_shows w range r held job None = as_range _ range (answer_rule s.context r w p.body) (answers w range r held)
  ending_shows w range r held job (Some x) = nothing _ (left_ended s range job x (both_of s.ranges job)) (left_none s range job x (both_of s.ranges job))

  at_shows : (w : ReqNo) (range : ℕ) (r : RangeState) → range_of s.ranges range ≡ Some r → (job : Option MergeJob) → Shows (answer_effect s p w range (Some r)) (answer_at s p w range r job).notes
  at_shows w range r held None = as_range _ range (answer_rule s.context r w p.body) (answers w range r held)
  at_shows w range r held (Some job) = ending_shows w range r held job (left_trim job.phase r w p.body)

  answer_shows : (w : ReqNo) (range : ℕ) (known : Option RangeState) → range_of s.ranges range ≡ known → Shows (answer_effect s p w range known) (answer_in s p w range known).notes
  answer_shows w range None held = quiet Rests
  answer_shows w range (Some r) held = at_shows w range r held (merge_of s.merges range)

  awaited_shows : (w : ReqNo) (range : Option ℕ) → Shows (awaited_effect s p w range) (answer_of s p w range).notes
  awaited_shows w None = nothing _ (split_answer s p w (split_awaiting s.splits w)) (split_none s p w (split_awaiting s.splits w))
  awaited_shows w (Some range) = answer_shows w range (range_of s.ranges range) refl

  numbered_shows : (w : Option ReqNo) → Shows (numbered_effect s p w) (numbered_rule s p w).notes
  numbered_shows None = quiet Rests
  numbered_shows (Some w) = go (is_answerer p.from p.body)
    where
      go : (b : Bool) → Shows (if b then awaited_effect s p w (awaiting s.ranges w) else Rests) (if b then answer_of s p w (awaiting s.ranges w) else rests s).notes
      go true = awaited_shows w (awaiting s.ranges w)
      go false = quiet Rests

  body_shows : (body : Body) → Shows (packet_effect s p body) (taken_rule s p body).notes
  body_shows (bodies.Map (maps.Assign range generation until)) = nothing _ (map_rule s p.from (maps.Assign range generation until)) (map_none s p.from (maps.Assign range generation until))
  body_shows (bodies.Map (maps.Renew range generation until)) = nothing _ (map_rule s p.from (maps.Renew range generation until)) (map_none s p.from (maps.Renew range generation until))
  body_shows (bodies.Map body) = numbered_shows (answered_number (bodies.Map body))
  body_shows (bodies.Table body) = table_shows _ body
  body_shows (bodies.Append body) = numbered_shows (answered_number (bodies.Append body))
  body_shows (bodies.Check body) = numbered_shows (answered_number (bodies.Check body))
  body_shows (bodies.Seal body) = numbered_shows (answered_number (bodies.Seal body))
  body_shows (bodies.Read body) = numbered_shows (answered_number (bodies.Read body))
  body_shows (bodies.Stream body) = numbered_shows (answered_number (bodies.Stream body))

  -- what it shows of the packet
  pub server_shows : Shows (server_effect p (Some s)) (server_rule s p p.body).notes
  server_shows = go (has_numbers s.context)
    where
      go : (b : Bool) → Shows (if b then packet_effect s p p.body else Rests) (if b then taken_rule s p p.body else rests s).notes
      go true = body_shows p.body
      go false = quiet Rests
