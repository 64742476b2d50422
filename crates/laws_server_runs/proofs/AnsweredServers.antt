-- What a server holds and asks for is what the map gave to it, and what it asked for itself: each step keeps it so, where what comes is
-- answered so.
use Rattle.std.proofs.Common.{◌≡◌, ◌⊎◌, ℕ, ◌==◌, ◌||◌, Bool, true, false, not, List, [], ◌∷◌, Option, Some, None, Contains, is_some, refl, sym, ap, ◌∙◌, subst, inl, inr, arith, if◌then◌else◌}
use Rattle.std.specs.Prelude.{max}
use Rattle.std.proofs.lemmas.Bool.{eqb-true}
use Rattle.wire.specs.declared.actor.ActorId.{ActorId}
use Rattle.wire.specs.declared.actor.ActorId.TheVariants as actors
use Rattle.wire.specs.declared.actor.ReqNo.{ReqNo}
use Rattle.wire.specs.declared.body.Body.{Body}
use Rattle.wire.specs.declared.body.Body.TheVariants as bodies
use Rattle.wire.specs.declared.body.MapBody.{MapBody}
use Rattle.wire.specs.declared.body.MapBody.TheVariants as maps
use Rattle.wire.specs.declared.body.StreamBody.{StreamBody}
use Rattle.wire.specs.declared.body.StreamBody.TheVariants as streams
use Rattle.wire.specs.declared.packet.Packet.{Packet}
use Rattle.wire.specs.declared.refusal.Refusal.TheVariants as refusals
use Rattle.model_streams.proofs.Tests.{if_elim, none_met}
use Rattle.model_partition.specs.declared.split_job.SplitJob.{SplitJob}
use Rattle.model_partition.specs.declared.split_job.SplitPhase.{SplitPhase}
use Rattle.model_partition.specs.declared.split_job.SplitPhase.TheVariants as phases
use Rattle.model_partition.specs.Answering.{is_answerer}
use Rattle.model_partition.specs.Map.{is_split_key}
use Rattle.model_partition.specs.Range.{RangeState, request, is_serving, is_paused}
use Rattle.model_partition.specs.Server.{ServerState, ServerOutcome, range_of, split_of, set_range, rests, has_jobs, has_numbers, map_rule, renew_rule, numbered_rule, answer_of, awaiting, taken_rule, server_rule, split_refused, split_refusal, splits_in, server_split, merge_with}
use Rattle.model_partition.specs.Splits.{split_fault, new_split, begin_packet}
use Rattle.laws_map.specs.Generations.{HasAsked}
use Rattle.laws_map.specs.GivenPairs.{AsksToComplete}
use Rattle.laws_map.specs.Naming.{Knowledge, BodyNames, RangeNames, PhaseNames, JobNames, ServerNames}
use Rattle.laws_map.proofs.GenerationsInRuns.{same_request}
use Rattle.laws_map.proofs.Knowing.{each_weaker, found_at}
use Rattle.laws_map.proofs.Lookups.{inserted_here}
use Rattle.laws_map.proofs.ServerNames.{ServerStep, server_step}
use Rattle.laws_map.proofs.SplitNames.{Laws}
use Rattle.laws_server_runs.specs.Answerers.{split_asked, MapBook, AreGiven, IsAssignedTo, TellsOfMap}
use Rattle.laws_server_runs.proofs.RunSteps.{not_false, or_false, is_none}

-- ---- what is known of what the map gave

-- of ranges those that were assigned to this server, of splits those whose two numbers were given to what was asked for
abbrev pub answering : MapBook → List Packet → ℕ → Knowledge
answering b sent s =
    record {
      knows = λ range generation. Unit {0};
      assigned = IsAssignedTo b sent s;
      asked = HasAsked sent;
      begun = λ q low high. (range generation : ℕ) (key : List ℕ) → HasAsked sent q range generation key → AreGiven b (split_asked range generation key) low high;
      splits = λ range generation key low high. AreGiven b (split_asked range generation key) low high × ((q : ReqNo) × HasAsked sent q range generation key);
      numbers = λ range. Unit {0};
      merges = λ range generation. ⊥;
    }

pub answering_laws : (b : MapBook) (sent : List Packet) (s : ℕ) → Laws (answering b sent s)
answering_laws b sent s = record {
  leased = λ range generation k. tt;
  tells = λ q w range generation key low high asked same begun. (begun range generation key (subst (λ v. HasAsked sent v range generation key) (same_request q w same) asked), (q, asked));
  low = λ range generation key low high k. tt;
  high = λ range generation key low high k. tt;
}

-- ---- more is sent

module _ (sent later : List Packet) (grows : (p : Packet) → Contains sent p → Contains later p) where
  pub asked_later : (q : ReqNo) (range generation : ℕ) (key : List ℕ) → HasAsked sent q range generation key → HasAsked later q range generation key
  asked_later q range generation key a = record { packet = a.packet; sent = grows a.packet a.sent; is = a.is }

  pub ends_later : (range generation : ℕ) → AsksToComplete sent range generation → AsksToComplete later range generation
  ends_later range generation a = record { packet = a.packet; request = a.request; sent = grows a.packet a.sent; is = a.is }

  module _ (b : MapBook) (s : ℕ) where
    abbrev K : Knowledge
    K = answering b sent s

    abbrev L : Knowledge
    L = answering b later s

    assigned_later : (range generation : ℕ) → IsAssignedTo b sent s range generation → IsAssignedTo b later s range generation
    assigned_later range generation a = record { holder = a.holder; completed = λ split is. ends_later split.range split.generation (a.completed split is); above = a.above; last = a.last }

    range_later : (range : ℕ) (r : RangeState) → RangeNames K range r → RangeNames L range r
    range_later range r n = record { generation = n.generation; under = n.under; known = assigned_later range n.generation n.known }

    split_later : (job : SplitJob) → K.splits job.range job.generation job.key job.low job.high → L.splits job.range job.generation job.key job.low job.high
    split_later job k = (k.0, (k.1.0, asked_later k.1.0 job.range job.generation job.key k.1.1))

    phase_later : (job : SplitJob) (phase : SplitPhase) → PhaseNames K job phase → PhaseNames L job phase
    phase_later job (phases.Begin q) n = asked_later q job.range job.generation job.key n
    phase_later job (phases.Keys side c) n = (split_later job n.0, n.1)
    phase_later job phases.Checkpoint n = split_later job n
    phase_later job phases.Queue n = split_later job n
    phase_later job phases.Record n = split_later job n
    phase_later job (phases.Seal kind q) n = split_later job n
    phase_later job (phases.Build q) n = split_later job n
    phase_later job (phases.Complete q) n = split_later job n

    job_later : (range : ℕ) (job : SplitJob) → JobNames K range job → JobNames L range job
    job_later range job n = record { number = n.number; known = tt; phase = phase_later job job.phase n.phase }

    pub names_later : (st : ServerState) → ServerNames K st → ServerNames L st
    names_later st n = record {
      ranges = each_weaker (λ (x : ℕ × RangeState). RangeNames K x.0 x.1) (λ (x : ℕ × RangeState). RangeNames L x.0 x.1) (λ x h. range_later x.0 x.1 h) st.ranges n.ranges;
      splits = each_weaker (λ (x : ℕ × SplitJob). JobNames K x.0 x.1) (λ (x : ℕ × SplitJob). JobNames L x.0 x.1) (λ x h. job_later x.0 x.1 h) st.splits n.splits;
      rising = n.rising;
      merges = n.merges;
    }

-- the map assigned to it what it holds
pub range_named : (b : MapBook) (sent : List Packet) (s : ℕ) (st : ServerState) → ServerNames (answering b sent s) st → (k : ℕ) (r : RangeState) → range_of st.ranges k ≡ Some r → RangeNames (answering b sent s) k r
range_named b sent s st n k r found = found_at (RangeNames (answering b sent s)) st.ranges k r n.ranges found

-- ---- a packet comes

module _ (b : MapBook) (sent : List Packet) (s : ℕ) (st : ServerState) (n : ServerNames (answering b sent s) st) (p : Packet) where
  abbrev Known : Body → Type 0
  Known body = BodyNames (answering b sent s) body ⊎ (taken_rule st p body ≡ rests st)

  assign_known : (range generation until : ℕ) (from : ActorId) → p.from ≡ from → TellsOfMap b sent s from (bodies.Map (maps.Assign range generation until)) → Known (bodies.Map (maps.Assign range generation until))
  assign_known range generation until actors.Map is tells = inl tells
  assign_known range generation until (actors.Node k) is tells = inr (ap (λ a. map_rule st a (maps.Assign range generation until)) is)
  assign_known range generation until actors.Manager is tells = inr (ap (λ a. map_rule st a (maps.Assign range generation until)) is)
  assign_known range generation until (actors.Server t) is tells = inr (ap (λ a. map_rule st a (maps.Assign range generation until)) is)
  assign_known range generation until (actors.User u) is tells = inr (ap (λ a. map_rule st a (maps.Assign range generation until)) is)

  -- a lease that is renewed is one of a range that the server holds
  renewed_known : (range generation until : ℕ) → p.from ≡ actors.Map → (known : Option RangeState) → range_of st.ranges range ≡ known → Known (bodies.Map (maps.Renew range generation until))
  renewed_known range generation until from None held = inr (ap (λ a. map_rule st a (maps.Renew range generation until)) from ∙ ap (renew_rule st range generation until) held)
  renewed_known range generation until from (Some r) held = by (r.load.generation == generation) refl
    where
      by : (same : Bool) → (r.load.generation == generation) ≡ same → Known (bodies.Map (maps.Renew range generation until))
      by true e =
          let h : RangeNames (answering b sent s) range r = range_named b sent s st n range r held in
          inl (subst (λ g. IsAssignedTo b sent s range g) (sym h.under.1 ∙ eqb-true r.load.generation generation e) h.known)
      by false e =
          inr (
          ap (λ a. map_rule st a (maps.Renew range generation until)) from
          ∙ ap (renew_rule st range generation until) held
          ∙ ap (λ (same : Bool). if same then record { after = record st { ranges = set_range st.ranges range (Some (record r { until = max r.until until })) }; packets = []; notes = [] } else rests st) e)

  renew_known : (range generation until : ℕ) (from : ActorId) → p.from ≡ from → Known (bodies.Map (maps.Renew range generation until))
  renew_known range generation until actors.Map is = renewed_known range generation until is (range_of st.ranges range) refl
  renew_known range generation until (actors.Node k) is = inr (ap (λ a. map_rule st a (maps.Renew range generation until)) is)
  renew_known range generation until actors.Manager is = inr (ap (λ a. map_rule st a (maps.Renew range generation until)) is)
  renew_known range generation until (actors.Server t) is = inr (ap (λ a. map_rule st a (maps.Renew range generation until)) is)
  renew_known range generation until (actors.User u) is = inr (ap (λ a. map_rule st a (maps.Renew range generation until)) is)

  -- where who sends it gives no such answers, nothing comes of it
  unanswered : (w : ReqNo) → is_answerer p.from p.body ≡ false → numbered_rule st p (Some w) ≡ rests st
  unanswered w none = ap (λ may. if may then answer_of st p w (awaiting st.ranges w) else rests st) none

  begun_known : (q : ReqNo) (low high : ℕ) → p.body ≡ bodies.Map (maps.SplitBegun q low high) → (from : ActorId) → p.from ≡ from → TellsOfMap b sent s from (bodies.Map (maps.SplitBegun q low high)) → Known (bodies.Map (maps.SplitBegun q low high))
  begun_known q low high is actors.Map from tells = inl tells
  begun_known q low high is (actors.Node k) from tells = inr (unanswered q (ap (λ a. is_answerer a p.body) from ∙ ap (is_answerer (actors.Node k)) is))
  begun_known q low high is actors.Manager from tells = inr (unanswered q (ap (λ a. is_answerer a p.body) from ∙ ap (is_answerer actors.Manager) is))
  begun_known q low high is (actors.Server t) from tells = inr (unanswered q (ap (λ a. is_answerer a p.body) from ∙ ap (is_answerer (actors.Server t)) is))
  begun_known q low high is (actors.User u) from tells = inr (unanswered q (ap (λ a. is_answerer a p.body) from ∙ ap (is_answerer (actors.User u)) is))

  map_known : (body : MapBody) → p.body ≡ bodies.Map body → TellsOfMap b sent s p.from (bodies.Map body) → Known (bodies.Map body)
  map_known (maps.Assign range generation until) is tells = assign_known range generation until p.from refl tells
  map_known (maps.Renew range generation until) is tells = renew_known range generation until p.from refl
  map_known (maps.BeginSplit range generation key q) is tells = inr refl
  map_known (maps.SplitBegun q low high) is tells = begun_known q low high is p.from refl tells
  map_known (maps.CompleteSplit range generation q) is tells = inr refl
  map_known (maps.BeginMerge left a right c q) is tells = inr refl
  map_known (maps.CompleteMerge left a right c q) is tells = inr refl
  map_known body is tells = inl tt

  stream_known : (body : StreamBody) → Known (bodies.Stream body)
  stream_known (streams.MultiModify list q) = inr refl
  stream_known body = inl tt

  body_known : (body : Body) → p.body ≡ body → TellsOfMap b sent s p.from body → Known body
  body_known (bodies.Map body) is tells = map_known body is tells
  body_known (bodies.Stream body) is tells = stream_known body
  body_known body is tells = inl tt

  -- WHAT COMES OF A PACKET names what is known
  pub taken_names : TellsOfMap b sent s p.from p.body → ServerStep (answering b sent s) st (server_rule st p p.body)
  taken_names tells = by (body_known p.body refl tells)
    where
      by : Known p.body → ServerStep (answering b sent s) st (server_rule st p p.body)
      by (inl names) = server_step (answering b sent s) (answering_laws b sent s) st n p (inr names)
      by (inr none) =
          if_elim (ServerStep (answering b sent s) st) (has_numbers st.context) _ _
          (λ t. subst (ServerStep (answering b sent s) st) (sym none) idle) (λ f. idle)
        where
          idle : ServerStep (answering b sent s) st (rests st)
          idle = record { names = n; packets = tt; count = (let c = st.context.count in omega arith); server = refl; session = refl }

-- ---- a split begins

-- a split of a range begins that is served and not split, and it asks the map for it
pub record BeginsAt (st : ServerState) (range : ℕ) (key : List ℕ) (o : ServerOutcome) : Type 0 where
  pub held : RangeState
  pub found : range_of st.ranges range ≡ Some held
  pub serves : is_serving held.stage ≡ true
  pub free : split_of st.splits range ≡ None
  pub packets : o.packets ≡ begin_packet st.context (new_split st.context held key) (request st.context) ∷ []
  pub begun : split_of o.after.splits range ≡ Some (new_split st.context held key)

module _ (st : ServerState) (range : ℕ) (key : List ℕ) where
  abbrev pub MayBegin : ServerOutcome → Type 0
  MayBegin o = (o.packets ≡ []) ⊎ BeginsAt st range key o

  begins_in : (known : Option RangeState) → range_of st.ranges range ≡ known → is_some (split_refused (has_jobs st range) key known) ≡ false → MayBegin (splits_in st range key known)
  begins_in None is free = inl refl
  begins_in (Some r) is free =
      let met = none_met (
      (refusals.Loading, not (is_serving r.stage))
      ∷ (refusals.Paused, is_paused r.pause)
      ∷ (refusals.Busy, has_jobs st range || (is_some r.control || is_some r.fixed))
      ∷ (refusals.BadSplitKey, not (is_split_key r.said.keys key))
      ∷ []) (is_none (split_fault r (has_jobs st range) key) free) in
      let idle : split_of st.splits range ≡ None = is_none (split_of st.splits range) (or_false (is_some (split_of st.splits range)) (is_some (merge_with st.merges range)) (or_false (has_jobs st range) (is_some r.control || is_some r.fixed) met.1.1.0)) in
      if_elim MayBegin (has_numbers st.context) _ _
      (λ t. inr (record { held = r; found = is; serves = not_false (is_serving r.stage) met.0; free = idle; packets = refl; begun = inserted_here st.splits range (new_split st.context r key) })) (λ f. inl refl)

  pub may_begin : MayBegin (server_split st range key)
  may_begin = by (is_some (split_refusal st range key)) refl
    where
      by : (refused : Bool) → is_some (split_refusal st range key) ≡ refused → MayBegin (if refused then rests st else splits_in st range key (range_of st.ranges range))
      by true e = inl refl
      by false e = begins_in (range_of st.ranges range) refl e
