-- What a server does with packets and with what it is told: each range that it holds stays where it stands in its load, is taken on there,
-- is loaded anew under a number of its own, or goes.
use Rattle.std.proofs.Common.{◌≡◌, ◌⊎◌, ℕ, suc, ◌==◌, ◌||◌, not, Bool, true, false, List, [], ◌∷◌, ◌++◌, Option, Some, None, is_some, max, Contains, refl, sym, ap, ◌∙◌, subst, inl, inr, arith, if◌then◌else◌}
use Rattle.std.specs.Ordering.{nat_cmp}
use Rattle.std.specs.BTreeMap.{insert_entry}
use Rattle.std.proofs.lemmas.Bool.{eqb-true, eqb-false}
use Rattle.std.proofs.lemmas.Option.{same_Some}
use Rattle.std.proofs.lemmas.List.Elements.{Contains-append_right}
use Rattle.block_types.specs.declared.record.Nodes.{Nodes}
use Rattle.wire.specs.declared.actor.ActorId.{ActorId}
use Rattle.wire.specs.declared.actor.ActorId.TheVariants as actors
use Rattle.wire.specs.declared.actor.ReqNo.{ReqNo}
use Rattle.wire.specs.declared.body.MapBody.{MapBody}
use Rattle.wire.specs.declared.body.MapBody.TheVariants as maps
use Rattle.wire.specs.declared.body.StreamBody.TheVariants as streams
use Rattle.wire.specs.declared.body.TableBody.{TableBody}
use Rattle.wire.specs.declared.body.TableBody.TheVariants as tables
use Rattle.wire.specs.declared.body.Body.{Body}
use Rattle.wire.specs.declared.body.Body.TheVariants as bodies
use Rattle.wire.specs.declared.packet.Packet.{Packet}
use Rattle.wire.specs.declared.transaction.Change.{Change}
use Rattle.client.specs.Load.{open_packet}
use Rattle.model_streams.proofs.Tests.{if_elim}
use Rattle.model_partition.specs.declared.split_job.SplitJob.{SplitJob}
use Rattle.model_partition.specs.declared.stage.Stage.TheVariants as stages
use Rattle.model_partition.specs.Range.{RangeState, RangeOutcome, request, used, is_serving}
use Rattle.model_partition.specs.Splits.{new_split, begin_packet, split_rule, split_reply, split_fault}
use Rattle.model_partition.specs.Answering.{answered_number, is_answerer, give_up_all}
use Rattle.model_partition.specs.Server.{ServerState, ServerOutcome, range_of, set_range, awaiting, rests, split_of, set_split, split_awaiting, split_stepped, stepped, merge_with, merge_of, merge_awaiting, merge_answer, new_range, users_of, is_newer, assigned, assign_rule, renew_rule, told_by_map, map_rule, transacts_in, gets_in, table_rule, answer_at, answer_in, split_answer_in, split_answer, answer_of, numbered_rule, taken_rule, has_numbers, server_rule, gives_up, picked, give_up_rule, moment_rule, has_jobs, checkpoint_refusal, checkpoints_in, server_checkpoint, split_refused, split_refusal, splits_in, server_split}
use Rattle.laws_map.specs.Naming.{Each}
use Rattle.laws_map.specs.Openings.{AreQuiet, Grants, IsWaiting, IsOpening, IsAsked, AreOpening, SplitsOrWaits, Speaks, IsKnown}
use Rattle.laws_map.proofs.Knowing.{each_weaker, each_both, removed_at, inserted_at}
use Rattle.laws_map.proofs.Rising.{rising_inserted}
use Rattle.laws_map.proofs.Lookups.{removed_other, put_other, inserted_other, put_here, inserted_here}
use Rattle.laws_map.proofs.RangeNames.{no_less, one_up}
use Rattle.laws_map.proofs.RangeLoads.{Has, Good, transact_good, get_good, checkpoint_good, refused_for}
use Rattle.laws_map.proofs.SplitLoads.{quiet_known, split_replies}
use Rattle.wire.specs.declared.refusal.Refusal.TheVariants as refusals
use Rattle.model_streams.proofs.Tests.{none_met}
use Rattle.model_partition.specs.Range.{is_paused}
use Rattle.model_partition.specs.Map.{is_split_key}
use Rattle.laws_map.proofs.ServerLoads.{P, opening, are_opening_on, ServerGoes, rests_goes, sends_goes, ranges_after, rising_after, alone_goes, with_goes, quiet_in, stepped_goes, given_up_goes, answer_stands, give_up_stands}

module _ (post : List Packet) (s : ServerState) (a : AreOpening post s) where
  quiet_goes : (x : ℕ) (r : RangeState) (found : range_of s.ranges x ≡ Some r) (o : RangeOutcome) → Good (P post s a x r found) s.context o → ServerGoes post s (stepped s x o)
  quiet_goes x r found o g = stepped_goes post s a x r found o (quiet_in post s a x r found o g)

  stands_in : (x : ℕ) (r : RangeState) (found : range_of s.ranges x ≡ Some r) → Has (P post s a x r found) r
  stands_in x r found = (opening post s a x r found).stands

  -- ---- what the map tells

  users_quiet : (held : Option RangeState) → AreQuiet (users_of s.context held)
  users_quiet None = tt
  users_quiet (Some r) = refused_for (λ until load stage. Unit {0}) s.context r

  module _ (range generation until : ℕ) (held : Option RangeState) where
    abbrev new : RangeState
    new = new_range s.context range generation until

    abbrev packets : List Packet
    packets = users_of s.context held ++ open_packet s.context.server range generation (request s.context) ∷ []

    abbrev loaded : ServerState
    loaded = record s { context = used s.context; ranges = insert_entry nat_cmp s.ranges range new; splits = set_split s.splits range None }

    abbrev IsNew : Packet → Type 0
    IsNew p = IsKnown post p.body ⊎ (p.body ≡ bodies.Stream (streams.OpenStreams range generation (request s.context)))

    new_packets : Each IsNew packets
    new_packets =
        each_both IsNew (users_of s.context held) _ (each_weaker (λ (p : Packet). IsKnown post p.body) IsNew (λ p k. inl k) (users_of s.context held) (quiet_known post (users_of s.context held) (users_quiet held)))
        (inr refl, tt)

    new_opening : IsOpening (post ++ packets) s.context.server s.context.session range new
    new_opening = record {
      count = s.context.count;
      asked = record {
        packet = open_packet s.context.server range generation (request s.context);
        sent = Contains-append_right post packets _ (Contains-append_right (users_of s.context held) (open_packet s.context.server range generation (request s.context) ∷ []) _ (0, omega arith, refl));
        is = refl;
      };
      stands = (refl, refl, inl (refl, refl));
    }

    new_speaks : (n g : ℕ) (key : List ℕ) (q : ReqNo) → ((w : ReqNo) → Grants post n g w → w ≡ q) → (q ≡ request s.context → ⊥) → Speaks s n g key q → Speaks loaded n g key q
    new_speaks n g key q one fresh old after is under = go (n == range) refl
      where
        go : (b : Bool) → (n == range) ≡ b → SplitsOrWaits loaded.splits n g key q after
        go true e =
            let same : n ≡ range = eqb-true n range e in
            let now : new ≡ after = same_Some new after (sym (inserted_here s.ranges range new) ∙ subst (λ k. range_of loaded.ranges k ≡ Some after) same is) in
            inl (request s.context, subst (λ (y : RangeState). IsWaiting (request s.context) y.load.phase y.stage) now (refl, refl), λ own. fresh (sym own))
        go false e =
            let apart : n ≡ range → ⊥ = λ same. absurd (eqb-false n range e same) in
            on (old after (sym (inserted_other s.ranges range n new apart) ∙ is) under) apart
          where
            on : SplitsOrWaits s.splits n g key q after → (n ≡ range → ⊥) → SplitsOrWaits loaded.splits n g key q after
            on (inl waits) apart = inl waits
            on (inr k) apart = inr (record { job = k.job; there = removed_other s.splits range n apart ∙ k.there; under = k.under; at = k.at })

    loads_goes : ServerGoes post s (record { after = loaded; packets = packets; notes = [] })
    loads_goes = record {
      after = record {
        ranges = inserted_at (IsOpening (post ++ packets) s.context.server s.context.session) s.ranges range new (are_opening_on post packets s a).ranges new_opening;
        rising = rising_inserted s.ranges range new a.rising;
        splits = removed_at (IsAsked (post ++ packets)) s.splits range (are_opening_on post packets s a).splits;
        apart = a.apart;
      };
      asks = inr (inl (record { range = range; generation = generation; packets = new_packets; used = omega arith }));
      speaks = new_speaks;
      count = one_up s.context.count;
      server = refl;
      session = refl;
    }

    assign_goes : ServerGoes post s (assign_rule s range generation until held)
    assign_goes =
        if_elim (ServerGoes post s) (is_newer generation held) _ _
        (λ t. subst (λ js. ServerGoes post s (record { after = assigned loaded (merge_with js range); packets = packets; notes = [] })) (sym a.apart) loads_goes)
        (λ f. rests_goes post s a)

  renew_goes : (range generation until : ℕ) (held : Option RangeState) → range_of s.ranges range ≡ held → ServerGoes post s (renew_rule s range generation until held)
  renew_goes range generation until None is = rests_goes post s a
  renew_goes range generation until (Some r) is =
      if_elim (ServerGoes post s) (r.load.generation == generation) _ _
      (λ t. alone_goes post s a range r is s.context (Some (record r { until = max r.until until })) [] [] (stands_in range r is) tt (no_less s.context.count) refl refl)
      (λ f. rests_goes post s a)

  told_goes : (body : MapBody) → ServerGoes post s (told_by_map s body)
  told_goes (maps.Assign range generation until) = assign_goes range generation until (range_of s.ranges range)
  told_goes (maps.Renew range generation until) = renew_goes range generation until (range_of s.ranges range) refl
  told_goes body = rests_goes post s a

  map_goes : (from : ActorId) (body : MapBody) → ServerGoes post s (map_rule s from body)
  map_goes actors.Map body = told_goes body
  map_goes (actors.Node n) body = rests_goes post s a
  map_goes actors.Manager body = rests_goes post s a
  map_goes (actors.Server n) body = rests_goes post s a
  map_goes (actors.User n) body = rests_goes post s a

  -- ---- what users ask

  transacts_goes : (p : Packet) (range : ℕ) (changes : List Change) (q : ReqNo) (held : Option RangeState) → range_of s.ranges range ≡ held → ServerGoes post s (transacts_in s p range changes q held)
  transacts_goes p range changes q None is = sends_goes post s a _ tt
  transacts_goes p range changes q (Some r) is = quiet_goes range r is _ (transact_good (P post s a range r is) s.context r p.from q changes (stands_in range r is))

  gets_goes : (p : Packet) (range : ℕ) (key : List ℕ) (q : ReqNo) (held : Option RangeState) → range_of s.ranges range ≡ held → ServerGoes post s (gets_in s p range key q held)
  gets_goes p range key q None is = sends_goes post s a _ tt
  gets_goes p range key q (Some r) is = quiet_goes range r is _ (get_good (P post s a range r is) s.context r p.from q key (stands_in range r is))

  table_goes : (p : Packet) (body : TableBody) → ServerGoes post s (table_rule s p body)
  table_goes p (tables.Transact range changes q) = transacts_goes p range changes q (range_of s.ranges range) refl
  table_goes p (tables.Get range key q) = gets_goes p range key q (range_of s.ranges range) refl
  table_goes p body = rests_goes post s a

  -- ---- answers

  module _ (p : Packet) (there : Contains post p) where
    answer_in_goes : (w : ReqNo) → answered_number p.body ≡ Some w → (range : ℕ) (held : Option RangeState) → range_of s.ranges range ≡ held → ServerGoes post s (answer_in s p w range held)
    answer_in_goes w number range None is = rests_goes post s a
    answer_in_goes w number range (Some r) is =
        subst (λ js. ServerGoes post s (answer_at s p w range r (merge_of js range))) (sym a.apart) (quiet_goes range r is _ (answer_stands post s a range r is p there w number))

    split_answer_in_goes : (range : ℕ) (held : Option RangeState) → range_of s.ranges range ≡ held → (job : Option SplitJob) → split_of s.splits range ≡ job → ServerGoes post s (split_answer_in s p range held job)
    split_answer_in_goes range None is job has = rests_goes post s a
    split_answer_in_goes range (Some r) is None has = rests_goes post s a
    split_answer_in_goes range (Some r) is (Some job) has =
        let t = split_reply s.context r job p.body in
        let h = split_replies (P post s a range r is) post job s.context r p.body (stands_in range r is) in
        with_goes post s a range r is job has (record s.context { count = t.count }) t.range t.job t.packets [] h.stands h.packets h.count refl refl

    split_answer_goes : (w : ReqNo) (range : Option ℕ) → ServerGoes post s (split_answer s p w range)
    split_answer_goes w None = subst (λ js. ServerGoes post s (merge_answer s p (merge_awaiting js w))) (sym a.apart) (rests_goes post s a)
    split_answer_goes w (Some range) = split_answer_in_goes range (range_of s.ranges range) refl (split_of s.splits range) refl

    answer_of_goes : (w : ReqNo) → answered_number p.body ≡ Some w → (range : Option ℕ) → ServerGoes post s (answer_of s p w range)
    answer_of_goes w number None = split_answer_goes w (split_awaiting s.splits w)
    answer_of_goes w number (Some range) = answer_in_goes w number range (range_of s.ranges range) refl

    numbered_goes : (number : Option ReqNo) → answered_number p.body ≡ number → ServerGoes post s (numbered_rule s p number)
    numbered_goes None is = rests_goes post s a
    numbered_goes (Some w) is = if_elim (ServerGoes post s) (is_answerer p.from p.body) _ _ (λ t. answer_of_goes w is (awaiting s.ranges w)) (λ f. rests_goes post s a)

    answered_goes : (body : Body) → p.body ≡ body → ServerGoes post s (numbered_rule s p (answered_number body))
    answered_goes body is = numbered_goes (answered_number body) (ap answered_number is)

    taken_goes : (body : Body) → p.body ≡ body → ServerGoes post s (taken_rule s p body)
    taken_goes (bodies.Map (maps.Assign range generation until)) is = map_goes p.from (maps.Assign range generation until)
    taken_goes (bodies.Map (maps.Renew range generation until)) is = map_goes p.from (maps.Renew range generation until)
    taken_goes (bodies.Table body) is = table_goes p body
    taken_goes body is = answered_goes body is

    pub server_goes : ServerGoes post s (server_rule s p p.body)
    server_goes = if_elim (ServerGoes post s) (has_numbers s.context) _ _ (λ t. taken_goes p.body refl) (λ f. rests_goes post s a)

  -- ---- checkpoints and splits

  checkpoints_goes : (range : ℕ) (combine : Bool) (held : Option RangeState) → range_of s.ranges range ≡ held → ServerGoes post s (checkpoints_in s range combine held)
  checkpoints_goes range combine None is = rests_goes post s a
  checkpoints_goes range combine (Some r) is =
      if_elim (ServerGoes post s) (has_numbers s.context) _ _ (λ t. quiet_goes range r is _ (checkpoint_good (P post s a range r is) s.context r combine (stands_in range r is))) (λ f. rests_goes post s a)

  pub checkpoint_goes : (range : ℕ) (combine : Bool) → ServerGoes post s (server_checkpoint s range combine)
  checkpoint_goes range combine = if_elim (ServerGoes post s) (is_some (checkpoint_refusal s range)) _ _ (λ t. rests_goes post s a) (λ f. checkpoints_goes range combine (range_of s.ranges range) refl)

  -- a split begins, of a range that serves and is not being split
  module _ (range : ℕ) (key : List ℕ) (r : RangeState) (is : range_of s.ranges range ≡ Some r) (serves : is_serving r.stage ≡ true) (free : split_of s.splits range ≡ None) where
    abbrev job : SplitJob
    job = new_split s.context r key

    abbrev sent : List Packet
    sent = begin_packet s.context job (request s.context) ∷ []

    abbrev begun : ServerState
    begun = record s { context = record s.context { count = suc s.context.count }; ranges = set_range s.ranges range (Some r); splits = set_split s.splits range (Some job) }

    number_is : r.load.range ≡ range
    number_is = (stands_in range r is).0

    job_asked : IsAsked (post ++ sent) range job
    job_asked = (
      number_is,
      (
        request s.context,
        record {
          packet = begin_packet s.context job (request s.context);
          sent = Contains-append_right post sent _ (0, omega arith, refl);
          is = ap (λ n. bodies.Map (maps.BeginSplit n r.load.generation key (request s.context))) number_is;
        },
      ),
    )

    -- the range neither waits for its streams nor is it being split
    speaks_not : (g : ℕ) (key' : List ℕ) (q : ReqNo) → SplitsOrWaits s.splits range g key' q r → ⊥
    speaks_not g key' q (inl (w, waits, apart)) = let z : is_serving stages.Opening ≡ true = subst (λ st. is_serving st ≡ true) waits.1 serves in cc
    speaks_not g key' q (inr k) = let z : Some k.job ≡ None = sym k.there ∙ free in cc

    begun_speaks : (n g : ℕ) (key' : List ℕ) (q : ReqNo) → ((w : ReqNo) → Grants post n g w → w ≡ q) → (q ≡ request s.context → ⊥) → Speaks s n g key' q → Speaks begun n g key' q
    begun_speaks n g key' q one fresh old after at under = go (n == range) refl
      where
        go : (b : Bool) → (n == range) ≡ b → SplitsOrWaits begun.splits n g key' q after
        go true e =
            let same : n ≡ range = eqb-true n range e in
            let own : r ≡ after = put_here s.ranges range r after (subst (λ k. range_of begun.ranges k ≡ Some after) same at) in
            absurd (speaks_not g key' q (subst (λ k. SplitsOrWaits s.splits k g key' q r) same (old r (subst (λ k. range_of s.ranges k ≡ Some r) (sym same) is) (ap (λ (y : RangeState). y.load.generation) own ∙ under))))
        go false e =
            let apart : n ≡ range → ⊥ = λ same. absurd (eqb-false n range e same) in
            on (old after (sym (put_other s.ranges range n r apart) ∙ at) under) apart
          where
            on : SplitsOrWaits s.splits n g key' q after → (n ≡ range → ⊥) → SplitsOrWaits begun.splits n g key' q after
            on (inl waits) apart = inl waits
            on (inr k) apart = inr (record { job = k.job; there = inserted_other s.splits range n job apart ∙ k.there; under = k.under; at = k.at })

    begins_goes : ServerGoes post s (split_stepped s range (split_rule s.context r key))
    begins_goes = record {
      after = record {
        ranges = ranges_after post s a range r is sent (Some r) (stands_in range r is);
        rising = rising_after post s a range r is (Some r);
        splits = inserted_at (IsAsked (post ++ sent)) s.splits range job (are_opening_on post sent s a).splits job_asked;
        apart = a.apart;
      };
      asks = inr (inr (record { range = range; key = key; held = r; found = is; serves = serves; free = free; packets = refl; begun = inserted_here s.splits range job }));
      speaks = begun_speaks;
      count = one_up s.context.count;
      server = refl;
      session = refl;
    }

  -- what is not refused
  or_parts : (b c : Bool) → (b || c) ≡ false → b ≡ false
  or_parts true c e = absurd cc
  or_parts false c e = refl

  not_false : (b : Bool) → not b ≡ false → b ≡ true
  not_false true e = refl
  not_false false e = absurd cc

  none_there : {A : Type 0} (o : Option A) → is_some o ≡ false → o ≡ None
  none_there None e = refl
  none_there (Some x) e = absurd cc

  splits_goes : (range : ℕ) (key : List ℕ) (held : Option RangeState) → range_of s.ranges range ≡ held → is_some (split_refused (has_jobs s range) key held) ≡ false → ServerGoes post s (splits_in s range key held)
  splits_goes range key None is free = rests_goes post s a
  splits_goes range key (Some r) is free =
      let met = none_met (
      (refusals.Loading, not (is_serving r.stage))
      ∷ (refusals.Paused, is_paused r.pause)
      ∷ (refusals.Busy, has_jobs s range || (is_some r.control || is_some r.fixed))
      ∷ (refusals.BadSplitKey, not (is_split_key r.said.keys key))
      ∷ []) (none_there (split_fault r (has_jobs s range) key) free) in
      let serves : is_serving r.stage ≡ true = not_false (is_serving r.stage) met.0 in
      let idle : split_of s.splits range ≡ None = none_there (split_of s.splits range) (or_parts (is_some (split_of s.splits range)) (is_some (merge_with s.merges range)) (or_parts (has_jobs s range) (is_some r.control || is_some r.fixed) met.1.1.0)) in
      if_elim (ServerGoes post s) (has_numbers s.context) _ _ (λ t. begins_goes range key r is serves idle) (λ f. rests_goes post s a)

  pub split_goes : (range : ℕ) (key : List ℕ) → ServerGoes post s (server_split s range key)
  split_goes range key = by (is_some (split_refusal s range key)) refl
    where
      by : (b : Bool) → is_some (split_refusal s range key) ≡ b → ServerGoes post s (if b then rests s else splits_in s range key (range_of s.ranges range))
      by true e = rests_goes post s a
      by false e = splits_goes range key (range_of s.ranges range) refl e

-- ---- giving up, and moments

pub picked_opening : (post : List Packet) (s : ServerState) (pick : Nodes) → AreOpening post s → AreOpening post (picked s pick)
picked_opening post s pick a = record { ranges = a.ranges; rising = a.rising; splits = a.splits; apart = a.apart }

pub moment_opening : (post : List Packet) (s : ServerState) (now : ℕ) → AreOpening post s → AreOpening post (moment_rule s now)
moment_opening post s now a = record { ranges = a.ranges; rising = a.rising; splits = a.splits; apart = a.apart }

abbrev pub GoesIf : List Packet → ServerState → Option ServerOutcome → Type 0
GoesIf post s None = Unit {0}
GoesIf post s (Some o) = ServerGoes post s o

gives_up_goes : (post : List Packet) (s : ServerState) (range : ℕ) (held : Option RangeState) → range_of s.ranges range ≡ held → AreOpening post s → GoesIf post s (gives_up s range held)
gives_up_goes post s range None is a = tt
gives_up_goes post s range (Some r) is a =
    if_elim (ServerGoes post s) (has_numbers s.context) _ _ (λ t. given_up_goes post s a range r is (give_up_all s.context r) (give_up_stands post s a range r is)) (λ f. rests_goes post s a)

pub give_up_goes : (post : List Packet) (s : ServerState) (range : ℕ) (pick : Nodes) → AreOpening post s → GoesIf post (picked s pick) (give_up_rule s range pick)
give_up_goes post s range pick a = gives_up_goes post (picked s pick) range (range_of s.ranges range) refl (picked_opening post s pick a)
