-- A step of a server asks for the streams of the two ranges of one of its splits alone, under a number that the split had or that is new; and its
-- splits go on with streams that are there.
use Rattle.std.proofs.Common.{◌≡◌, ◌⊎◌, ◌≤◌, ℕ, ◌==◌, Bool, true, List, [], ◌∷◌, ◌++◌, Option, Some, None, is_some, refl, sym, ap, subst, inl, inr, arith}
use Rattle.std.proofs.lemmas.List.Elements.{Contains-append_right}
use Rattle.std.specs.BTreeMap.{insert_entry}
use Rattle.std.specs.Ordering.{nat_cmp}
use Rattle.block_types.specs.declared.record.Nodes.{Nodes}
use Rattle.wire.specs.declared.actor.ActorId.{ActorId}
use Rattle.wire.specs.declared.actor.ActorId.TheVariants as actors
use Rattle.wire.specs.declared.actor.ReqNo.{ReqNo}
use Rattle.wire.specs.declared.actor.ReqNo.TheVariants as requests
use Rattle.wire.specs.declared.body.MapBody.TheVariants as maps
use Rattle.wire.specs.declared.body.StreamBody.{StreamBody}
use Rattle.wire.specs.declared.body.StreamBody.TheVariants as streams
use Rattle.wire.specs.declared.body.TableBody.{TableBody}
use Rattle.wire.specs.declared.body.TableBody.TheVariants as tables
use Rattle.wire.specs.declared.body.Body.{Body}
use Rattle.wire.specs.declared.body.Body.TheVariants as bodies
use Rattle.wire.specs.declared.packet.Packet.{Packet}
use Rattle.wire.specs.declared.streams.Modify.{Modify}
use Rattle.wire.specs.declared.transaction.Change.{Change}
use Rattle.client.specs.Load.{open_packet}
use Rattle.model_streams.proofs.Tests.{if_elim}
use Rattle.model_partition.specs.declared.server_context.ServerContext.{ServerContext}
use Rattle.model_partition.specs.declared.split_job.SplitJob.{SplitJob}
use Rattle.model_partition.specs.declared.split_job.SplitPhase.TheVariants as phases
use Rattle.model_partition.specs.Range.{RangeState, RangeOutcome, request, used}
use Rattle.model_partition.specs.Serving.{transact_rule}
use Rattle.model_partition.specs.Getting.{get_rule}
use Rattle.model_partition.specs.Checkpoints.{checkpoint_rule}
use Rattle.model_partition.specs.Splits.{SplitStep, all_streams, new_split}
use Rattle.model_partition.specs.Answering.{answered_number, is_answerer, answer_rule, give_up_all}
use Rattle.model_partition.specs.Server.{ServerState, ServerOutcome, range_of, awaiting, rests, split_of, set_split, split_awaiting, split_stepped, counted, stepped_alone, behind_these, ended_with, stepped_splitting, stepped_with, stepped, new_range, users_of, is_newer, assign_rule, renew_rule, map_rule, transacts_in, gets_in, table_rule, answer_in, split_answer_in, split_answer, answer_of, numbered_rule, taken_rule, has_numbers, server_rule, given_up_splitting, given_up_with, merge_with, given_up, gives_up, picked, give_up_rule, checkpoint_refusal, checkpoints_in, server_checkpoint, split_refusal, splits_in, server_split}
use Rattle.laws_map.specs.Naming.{Each, AsksStreams, IsFor, AreFor, Knowledge, RangeNames, JobNames, ServerNames}
use Rattle.laws_map.proofs.ClientNames.{for_both}
use Rattle.laws_map.proofs.Knowing.{each_weaker, each_both, found_at, removed_at, inserted_at}
use Rattle.laws_map.proofs.Rising.{awaits_itself}
use Rattle.laws_map.proofs.RangeNames.{Good, IfUnder, refused_for, transact_good, get_good, checkpoint_good, answer_good, give_up_good}
use Rattle.laws_map.proofs.ServerNames.{picked_names}
use Rattle.laws_map.proofs.Unmerged.{stepped_unmerged, given_up_unmerged, assigned_unmerged, answer_unmerged, unawaited_merge}
use Rattle.laws_clusters.proofs.SplitBuilds.{HasBuild, IsNew, JobFits, JobFitsIf, Answers, up_job, MapSends, BodySends, Fits, split_reply_fits, follows_fits, split_gives_up_fits}

-- a split that a server had asks under this number, for these streams
pub record IsAskedAgain (s : ServerState) (q : ReqNo) (list : List Modify) : Type 0 where
  pub range : ℕ
  pub job : SplitJob
  pub held : split_of s.splits range ≡ Some job
  pub building : job.phase ≡ phases.Build q
  pub is : list ≡ all_streams job

module _ (Asked : ReqNo → List Modify → Type 0) (Fit : ℕ → ℕ → List ℕ → ℕ → ℕ → Type 0) where
  abbrev pub SplitsFit : List (ℕ × SplitJob) → Type 0
  SplitsFit js = Each (λ (x : ℕ × SplitJob). JobFits Asked Fit x.1) js

module _ (Before After : ReqNo → List Modify → Type 0) (up : (q : ReqNo) (list : List Modify) → Before q list → After q list) (Fit : ℕ → ℕ → List ℕ → ℕ → ℕ → Type 0) (K : Knowledge) where
  -- ---- what a server sends

  module _ (s : ServerState) (after : ℕ) (all : List Modify) where
    -- it asks for one list alone, which it asked for under this number, or the number is new
    abbrev pub StreamFits : StreamBody → Type 0
    StreamFits (streams.MultiModify list q) = (list ≡ all) × (IsAskedAgain s q all ⊎ IsNew s.context.server s.context.session s.context.count after q)
    StreamFits (streams.CreateStream name fence q) = ⊥
    StreamFits body = Unit {0}

    abbrev pub BodyFits : Body → Type 0
    BodyFits (bodies.Stream body) = StreamFits body
    BodyFits (bodies.Map body) = MapSends Before After up Fit K body
    BodyFits body = Unit {0}

    abbrev pub AllFit : List Packet → Type 0
    AllFit packets = Each (λ (p : Packet). BodyFits p.body) packets

    own_stream : (range generation : ℕ) (body : StreamBody) → AsksStreams range generation body → StreamFits body
    own_stream range generation (streams.OpenStreams n h q) a = tt
    own_stream range generation (streams.Confirm n h q) a = tt
    own_stream range generation (streams.Extend name h last pick q) a = tt
    own_stream range generation (streams.Trim n h before to_blob q) a = tt
    own_stream range generation body a = absurd a

    own_body : (range generation : ℕ) (body : Body) → IsFor range generation body → BodyFits body
    own_body range generation (bodies.Stream body) a = own_stream range generation body a
    own_body range generation (bodies.Map body) a = absurd a
    own_body range generation body a = tt

    own_fit : (range generation : ℕ) (packets : List Packet) → AreFor range generation packets → AllFit packets
    own_fit range generation [] a = tt
    own_fit range generation (p ∷ packets) a = (own_body range generation p.body a.0, own_fit range generation packets a.1)

  -- what a step of a server leaves and sends
  pub record ServerFits (s : ServerState) (o : ServerOutcome) : Type 0 where
    pub jobs : ((q : ReqNo) (list : List Modify) → HasBuild o.packets q list → After q list) → SplitsFit After Fit o.after.splits
    pub list : List Modify
    pub sends : AllFit s o.after.context.count list o.packets

  module _ (s : ServerState) (n : ServerNames K s) (f : SplitsFit Before Fit s.splits) where
    abbrev SF : ServerOutcome → Type 0
    SF o = ServerFits s o

    abbrev Job : ℕ → SplitJob → Type 0
    Job k job = JobFits After Fit job

    upped : SplitsFit After Fit s.splits
    upped = each_weaker (λ (x : ℕ × SplitJob). JobFits Before Fit x.1) (λ (x : ℕ × SplitJob). JobFits After Fit x.1) (λ x j. up_job Before After up Fit K x.1 j) s.splits f

    rests_fits : SF (rests s)
    rests_fits = record { jobs = λ new. upped; list = []; sends = tt }

    range_there : (range : ℕ) (r : RangeState) → range_of s.ranges range ≡ Some r → RangeNames K range r
    range_there range r is = found_at (RangeNames K) s.ranges range r n.ranges is

    job_there : (range : ℕ) (job : SplitJob) → split_of s.splits range ≡ Some job → JobNames K range job
    job_there range job is = found_at (JobNames K) s.splits range job n.splits is

    fits_there : (range : ℕ) (job : SplitJob) → split_of s.splits range ≡ Some job → JobFits Before Fit job
    fits_there range job is = found_at (λ k j. JobFits Before Fit j) s.splits range job f is

    splits_left : (range : ℕ) (o : Option SplitJob) → JobFitsIf After Fit o → SplitsFit After Fit (set_split s.splits range o)
    splits_left range None h = removed_at Job s.splits range upped
    splits_left range (Some job) h = inserted_at Job s.splits range job upped h

    -- what a split that the server has sends
    of_split : (range : ℕ) (job : SplitJob) (d : ServerContext) (count : ℕ) → split_of s.splits range ≡ Some job → d.server ≡ s.context.server → d.session ≡ s.context.session → s.context.count ≤ d.count →
        (body : Body) → BodySends Before After up Fit K d job count body → BodyFits s count (all_streams job) body
    of_split range job d count held server session less (bodies.Stream body) sends = of_stream body sends
      where
        of_stream : (body : StreamBody) → BodySends Before After up Fit K d job count (bodies.Stream body) → StreamFits s count (all_streams job) body
        of_stream (streams.MultiModify list q) sends = (
          sends.0,
          elim sends.1 [
            | inl building ↦ inl (record { range = range; job = job; held = held; building = building; is = refl })
            | inr new ↦ inr (new.0, subst (λ a. q ≡ requests.Server a s.context.session new.0) server (subst (λ a. q ≡ requests.Server d.server a new.0) session new.1), (let l = new.2 in omega (arith, l, less)), new.3)
          ],
        )
        of_stream (streams.CreateStream name fence q) sends = absurd sends
        of_stream body sends = tt
    of_split range job d count held server session less (bodies.Map body) sends = sends
    of_split range job d count held server session less body sends = tt

    split_stepped_fits : (range : ℕ) (job : SplitJob) (t : SplitStep) → split_of s.splits range ≡ Some job → Fits Before After up Fit K s.context job t → SF (split_stepped s range t)
    split_stepped_fits range job t held h = record {
      jobs = λ new. splits_left range t.job (h.later new);
      list = all_streams job;
      sends = each_weaker (λ (p : Packet). BodySends Before After up Fit K s.context job t.count p.body) (λ (p : Packet). BodyFits s t.count (all_streams job) p.body) (λ p b. of_split range job s.context t.count held refl refl (omega arith) p.body b) t.packets h.sends;
    }

    -- a step of a range
    module _ (range g : ℕ) (o : RangeOutcome) (good : Good range g s.context o) where
      alone_fits : SF (stepped_alone s range o)
      alone_fits = record { jobs = λ new. upped; list = []; sends = own_fit s o.count [] range g o.packets good.1 }

      ended_fits : SF (ended_with s range o)
      ended_fits = record { jobs = λ new. splits_left range None tt; list = []; sends = own_fit s o.count [] range g o.packets good.1 }

      behind_fits : (job : SplitJob) (t : SplitStep) → split_of s.splits range ≡ Some job → Fits Before After up Fit K (counted s.context o) job t → SF (behind_these o (split_stepped s range t))
      behind_fits job t held h = record {
        jobs = λ new. splits_left range t.job (h.later (λ q list b. new q list (record { packet = b.packet; sent = Contains-append_right o.packets t.packets b.packet b.sent; is = b.is })));
        list = all_streams job;
        sends =
            each_both (λ (p : Packet). BodyFits s t.count (all_streams job) p.body) o.packets t.packets (own_fit s t.count (all_streams job) range g o.packets good.1)
            (each_weaker (λ (p : Packet). BodySends Before After up Fit K (counted s.context o) job t.count p.body) (λ (p : Packet). BodyFits s t.count (all_streams job) p.body)
            (λ p b. of_split range job (counted s.context o) t.count held refl refl good.2 p.body b) t.packets h.sends);
      }

      stepped_fits : SF (stepped s range o)
      stepped_fits = subst SF (sym (stepped_unmerged s n.merges range o)) (go (split_of s.splits range) refl)
        where
          by : (job : SplitJob) → split_of s.splits range ≡ Some job → (a : Option RangeState) → IfUnder range g a → SF (stepped_splitting s range job o a)
          by job is None h = ended_fits
          by job is (Some r) h = behind_fits job _ is (follows_fits Before After up Fit K range g (counted s.context o) r job h (fits_there range job is))

          go : (x : Option SplitJob) → split_of s.splits range ≡ x → SF (stepped_with s range x o)
          go None is = alone_fits
          go (Some job) is = by job is o.after good.0

      given_up_fits : SF (given_up s range (merge_with s.merges range) o)
      given_up_fits = subst SF (sym (given_up_unmerged s n.merges range o)) (go (split_of s.splits range) refl)
        where
          by : (job : SplitJob) → split_of s.splits range ≡ Some job → (a : Option RangeState) → IfUnder range g a → SF (given_up_splitting s range job o a)
          by job is None h = ended_fits
          by job is (Some r) h = behind_fits job _ is (split_gives_up_fits Before After up Fit K range g (counted s.context o) r job (fits_there range job is) (job_there range job is))

          go : (x : Option SplitJob) → split_of s.splits range ≡ x → SF (given_up_with s range x o)
          go None is = alone_fits
          go (Some job) is = by job is o.after good.0

    -- ---- what the map tells

    users_for : (range g : ℕ) (known : Option RangeState) → AreFor range g (users_of s.context known)
    users_for range g None = tt
    users_for range g (Some r) = refused_for range g s.context r

    assign_fits : (range generation until : ℕ) (held : Option RangeState) → SF (assign_rule s range generation until held)
    assign_fits range generation until held =
        if_elim SF (is_newer generation held) _ _
        (λ t. subst (λ z. SF (record { after = z; packets = packets; notes = [] })) (sym (assigned_unmerged s n.merges opened range)) (record {
          jobs = λ new. splits_left range None tt;
          list = [];
          sends = own_fit s (used s.context).count [] range generation packets (for_both range generation (users_of s.context held) (open_packet s.context.server range generation (request s.context) ∷ []) (users_for range generation held) ((refl, refl), tt));
        }))
        (λ z. rests_fits)
      where
        opened : ServerState
        opened =
            record s {
              context = used s.context;
              ranges = insert_entry nat_cmp s.ranges range (new_range s.context range generation until);
              splits = set_split s.splits range None;
            }

        packets : List Packet
        packets = users_of s.context held ++ open_packet s.context.server range generation (request s.context) ∷ []

    renew_fits : (range generation until : ℕ) (held : Option RangeState) → SF (renew_rule s range generation until held)
    renew_fits range generation until None = rests_fits
    renew_fits range generation until (Some r) = if_elim SF (r.load.generation == generation) _ _ (λ t. record { jobs = λ new. upped; list = []; sends = tt }) (λ z. rests_fits)

    assigned_fits : (range generation until : ℕ) (from : ActorId) → SF (map_rule s from (maps.Assign range generation until))
    assigned_fits range generation until actors.Map = assign_fits range generation until (range_of s.ranges range)
    assigned_fits range generation until (actors.Node m) = rests_fits
    assigned_fits range generation until actors.Manager = rests_fits
    assigned_fits range generation until (actors.Server m) = rests_fits
    assigned_fits range generation until (actors.User m) = rests_fits

    renewed_fits : (range generation until : ℕ) (from : ActorId) → SF (map_rule s from (maps.Renew range generation until))
    renewed_fits range generation until actors.Map = renew_fits range generation until (range_of s.ranges range)
    renewed_fits range generation until (actors.Node m) = rests_fits
    renewed_fits range generation until actors.Manager = rests_fits
    renewed_fits range generation until (actors.Server m) = rests_fits
    renewed_fits range generation until (actors.User m) = rests_fits

    -- ---- what users ask

    refuses_fits : (p : Packet) → BodyFits s s.context.count [] p.body → SF (record { after = s; packets = p ∷ []; notes = [] })
    refuses_fits p b = record { jobs = λ new. upped; list = []; sends = (b, tt) }

    transacts_fits : (p : Packet) (range : ℕ) (changes : List Change) (q : ReqNo) (held : Option RangeState) → range_of s.ranges range ≡ held → SF (transacts_in s p range changes q held)
    transacts_fits p range changes q None is = refuses_fits _ tt
    transacts_fits p range changes q (Some r) is =
        let h = range_there range r is in stepped_fits range h.generation (transact_rule s.context r p.from q changes) (transact_good range h.generation s.context r p.from q changes h.under)

    gets_fits : (p : Packet) (range : ℕ) (key : List ℕ) (q : ReqNo) (held : Option RangeState) → range_of s.ranges range ≡ held → SF (gets_in s p range key q held)
    gets_fits p range key q None is = refuses_fits _ tt
    gets_fits p range key q (Some r) is = let h = range_there range r is in stepped_fits range h.generation (get_rule s.context r p.from q key) (get_good range h.generation s.context r p.from q key h.under)

    table_fits : (p : Packet) (body : TableBody) → SF (table_rule s p body)
    table_fits p (tables.Transact range changes q) = transacts_fits p range changes q (range_of s.ranges range) refl
    table_fits p (tables.Get range key q) = gets_fits p range key q (range_of s.ranges range) refl
    table_fits p body = rests_fits

    -- ---- answers

    answer_in_fits : (p : Packet) (w : ReqNo) (range : ℕ) (held : Option RangeState) → range_of s.ranges range ≡ held → SF (answer_in s p w range held)
    answer_in_fits p w range None is = rests_fits
    answer_in_fits p w range (Some r) is =
        let h = range_there range r is in
        subst SF (sym (answer_unmerged s n.merges p w range r)) (stepped_fits range h.generation (answer_rule s.context r w p.body) (answer_good range h.generation s.context r w p.body h.under))

    split_answer_in_fits : (p : Packet) (w : ReqNo) (range : ℕ) → Answers Before After up Fit K p.body → answered_number p.body ≡ Some w → split_awaiting s.splits w ≡ Some range →
        (held : Option RangeState) → range_of s.ranges range ≡ held → (job : Option SplitJob) → split_of s.splits range ≡ job → SF (split_answer_in s p range held job)
    split_answer_in_fits p w range a number waits (Some r) is (Some job) has =
        let h = range_there range r is in
        split_stepped_fits range job _ has
        (split_reply_fits Before After up Fit K range h.generation s.context r job p.body w number (awaits_itself s.splits w range job n.rising waits has) a h.under (fits_there range job has) (job_there range job has))
    split_answer_in_fits p w range a number waits (Some r) is None has = rests_fits
    split_answer_in_fits p w range a number waits None is job has = rests_fits

    split_answer_fits : (p : Packet) (w : ReqNo) → Answers Before After up Fit K p.body → answered_number p.body ≡ Some w → (range : Option ℕ) → split_awaiting s.splits w ≡ range → SF (split_answer s p w range)
    split_answer_fits p w a number None waits = subst SF (sym (unawaited_merge s n.merges p w)) rests_fits
    split_answer_fits p w a number (Some range) waits = split_answer_in_fits p w range a number waits (range_of s.ranges range) refl (split_of s.splits range) refl

    answer_of_fits : (p : Packet) (w : ReqNo) → Answers Before After up Fit K p.body → answered_number p.body ≡ Some w → (range : Option ℕ) → SF (answer_of s p w range)
    answer_of_fits p w a number None = split_answer_fits p w a number (split_awaiting s.splits w) refl
    answer_of_fits p w a number (Some range) = answer_in_fits p w range (range_of s.ranges range) refl

    -- a packet, which says what is so if it answers
    module _ (p : Packet) (answers : is_answerer p.from p.body ≡ true → Answers Before After up Fit K p.body) where
      numbered_fits : (number : Option ReqNo) → answered_number p.body ≡ number → SF (numbered_rule s p number)
      numbered_fits None is = rests_fits
      numbered_fits (Some w) is = if_elim SF (is_answerer p.from p.body) _ _ (λ t. answer_of_fits p w (answers t) is (awaiting s.ranges w)) (λ z. rests_fits)

      answered_fits : (body : Body) → p.body ≡ body → SF (numbered_rule s p (answered_number body))
      answered_fits body is = numbered_fits (answered_number body) (ap answered_number is)

      taken_fits : (body : Body) → p.body ≡ body → SF (taken_rule s p body)
      taken_fits (bodies.Map (maps.Assign range generation until)) is = assigned_fits range generation until p.from
      taken_fits (bodies.Map (maps.Renew range generation until)) is = renewed_fits range generation until p.from
      taken_fits (bodies.Table body) is = table_fits p body
      taken_fits body is = answered_fits body is

      pub server_fits : SF (server_rule s p p.body)
      server_fits = if_elim SF (has_numbers s.context) _ _ (λ t. taken_fits p.body refl) (λ z. rests_fits)

    -- ---- checkpoints and splits

    checkpoints_fit : (range : ℕ) (combine : Bool) (held : Option RangeState) → range_of s.ranges range ≡ held → SF (checkpoints_in s range combine held)
    checkpoints_fit range combine None is = rests_fits
    checkpoints_fit range combine (Some r) is =
        if_elim SF (has_numbers s.context) _ _
        (λ t. (let h = range_there range r is in stepped_fits range h.generation (checkpoint_rule s.context r combine) (checkpoint_good range h.generation s.context r combine h.under)))
        (λ z. rests_fits)

    pub server_checkpoint_fits : (range : ℕ) (combine : Bool) → SF (server_checkpoint s range combine)
    server_checkpoint_fits range combine = if_elim SF (is_some (checkpoint_refusal s range)) _ _ (λ t. rests_fits) (λ z. checkpoints_fit range combine (range_of s.ranges range) refl)

    -- a split that begins asks for no streams yet
    splits_fit : (range : ℕ) (key : List ℕ) (held : Option RangeState) → SF (splits_in s range key held)
    splits_fit range key None = rests_fits
    splits_fit range key (Some r) =
        if_elim SF (has_numbers s.context) _ _
        (λ t. record { jobs = λ new. splits_left range (Some (new_split s.context r key)) tt; list = []; sends = (tt, tt) })
        (λ z. rests_fits)

    pub server_split_fits : (range : ℕ) (key : List ℕ) → SF (server_split s range key)
    server_split_fits range key = if_elim SF (is_some (split_refusal s range key)) _ _ (λ t. rests_fits) (λ z. splits_fit range key (range_of s.ranges range))

    -- ---- giving up

    abbrev FitsIf : Option ServerOutcome → Type 0
    FitsIf None = Unit {0}
    FitsIf (Some o) = SF o

    gives_up_fit : (range : ℕ) (held : Option RangeState) → range_of s.ranges range ≡ held → FitsIf (gives_up s range held)
    gives_up_fit range None is = tt
    gives_up_fit range (Some r) is =
        if_elim SF (has_numbers s.context) _ _ (λ t. (let h = range_there range r is in given_up_fits range h.generation (give_up_all s.context r) (give_up_good range h.generation s.context r h.under))) (λ z. rests_fits)

  abbrev pub ServerFitsIf : ServerState → Option ServerOutcome → Type 0
  ServerFitsIf s None = Unit {0}
  ServerFitsIf s (Some o) = ServerFits s o

  pub server_gives_up_fits : (s : ServerState) (range : ℕ) (pick : Nodes) → ServerNames K s → SplitsFit Before Fit s.splits → ServerFitsIf (picked s pick) (give_up_rule s range pick)
  server_gives_up_fits s range pick n f = gives_up_fit (picked s pick) (picked_names K s pick n) f range (range_of s.ranges range) refl
