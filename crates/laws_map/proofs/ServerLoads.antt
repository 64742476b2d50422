-- A step of a server keeps each range where it stands in its load, or takes it on there when its streams are told; and while the range
-- stands, its split stays.
use Rattle.std.proofs.Common.{◌≡◌, ◌⊎◌, ℕ, ◌≤◌, ◌<◌, ◌==◌, Bool, true, false, List, [], ◌∷◌, ◌++◌, Option, Some, None, Contains, refl, sym, ap, ◌∙◌, subst, inl, inr, arith}
use Rattle.std.specs.Prelude.{option_to_list}
use Rattle.std.proofs.lemmas.Bool.{eqb-true, eqb-false}
use Rattle.std.proofs.lemmas.Option.{same_Some}
use Rattle.std.proofs.lemmas.List.Elements.{Contains-append_left}
use Rattle.wire.specs.declared.actor.ReqNo.{ReqNo}
use Rattle.wire.specs.declared.actor.ReqNo.TheVariants as requests
use Rattle.wire.specs.declared.body.StreamBody.TheVariants as streams
use Rattle.wire.specs.declared.body.Body.TheVariants as bodies
use Rattle.wire.specs.declared.packet.Packet.{Packet}
use Rattle.wire.specs.declared.streams.StreamLists.{StreamLists}
use Rattle.client.specs.declared.load.LoadPhase.{LoadPhase}
use Rattle.client.specs.declared.load.LoadPhase.TheVariants as phases
use Rattle.client.specs.Load.{LoadState, load_awaits, again}
use Rattle.model_partition.specs.declared.server_context.ServerContext.{ServerContext}
use Rattle.model_partition.specs.declared.split_job.SplitJob.{SplitJob}
use Rattle.model_partition.specs.declared.stage.Stage.{Stage}
use Rattle.model_partition.specs.Range.{RangeState, RangeOutcome, request, is_serving}
use Rattle.model_partition.specs.Splits.{SplitStep, new_split, begin_packet}
use Rattle.model_partition.specs.Answering.{answered_number, answer_rule, give_up_all}
use Rattle.model_partition.specs.Server.{ServerState, ServerOutcome, range_of, set_range, rests, split_of, set_split, split_stepped, counted, behind_these, stepped_splitting, stepped_with, stepped_in, stepped, merge_with, given_up_splitting, given_up_with, given_up}
use Rattle.laws_map.specs.Naming.{Each, IsRising}
use Rattle.laws_map.specs.Openings.{AsksToOpen, HasOpened, Grants, AsksToSplit, IsBeyond, IsWaiting, Stood, IsOpening, IsAsked, AreOpening, OpeningIf, IsSplitAt, SplitsOrWaits, Speaks, IsKnown, AreKnown}
use Rattle.laws_map.proofs.Knowing.{each_weaker, each_both, found_at, removed_at, put_at, inserted_at}
use Rattle.laws_map.proofs.Rising.{rising_removed}
use Rattle.laws_map.proofs.Lookups.{removed_other, put_other, inserted_other, removed_here, put_here, inserted_here, rising_put}
use Rattle.laws_map.proofs.GenerationsInRuns.{same_request}
use Rattle.laws_map.proofs.RangeNames.{no_less, on_and_on}
use Rattle.laws_map.proofs.RangeLoads.{Has, IfHas, Good, Loads, Waits, shows_weaker, beyond_answers, waiting_answers, behind_quiet}
use Rattle.laws_map.proofs.SplitLoads.{quiet_known, IsSameSplit, SameIf, StandsWith, Goes, split_follows, split_gives_up}

-- ---- a longer post

module _ (post later : List Packet) (grows : (p : Packet) → Contains post p → Contains later p) where
  pub asks_later : (n g : ℕ) (q : ReqNo) → AsksToOpen post n g q → AsksToOpen later n g q
  asks_later n g q a = record { packet = a.packet; sent = grows a.packet a.sent; is = a.is }

  pub opened_later : (q : ReqNo) → HasOpened post q → HasOpened later q
  opened_later q h = record { packet = h.packet; lists = h.lists; sent = grows h.packet h.sent; is = h.is }

  pub split_later : (n g : ℕ) (key : List ℕ) → AsksToSplit post n g key → AsksToSplit later n g key
  split_later n g key a = (a.0, record { packet = a.1.packet; sent = grows a.1.packet a.1.sent; is = a.1.is })

  stood_later : (n g : ℕ) (q : ReqNo) (load : LoadState) (stage : Stage) → Stood post n g q load stage → Stood later n g q load stage
  stood_later n g q load stage h = (h.0, h.1, elim h.2 [ inl waits ↦ inl waits | inr told ↦ inr (told.0, opened_later q told.1) ])

  opening_later : (server session n : ℕ) (r : RangeState) → IsOpening post server session n r → IsOpening later server session n r
  opening_later server session n r i = record {
    count = i.count;
    asked = asks_later n r.load.generation (requests.Server server session i.count) i.asked;
    stands = stood_later n r.load.generation (requests.Server server session i.count) r.load r.stage i.stands;
  }

  asked_later : (n : ℕ) (job : SplitJob) → IsAsked post n job → IsAsked later n job
  asked_later n job h = (h.0, split_later n job.generation job.key h.1)

  pub are_opening_later : (s : ServerState) → AreOpening post s → AreOpening later s
  are_opening_later s a = record {
    ranges = each_weaker (λ (x : ℕ × RangeState). IsOpening post s.context.server s.context.session x.0 x.1) (λ (x : ℕ × RangeState). IsOpening later s.context.server s.context.session x.0 x.1)
        (λ x h. opening_later s.context.server s.context.session x.0 x.1 h) s.ranges a.ranges;
    rising = a.rising;
    splits = each_weaker (λ (x : ℕ × SplitJob). IsAsked post x.0 x.1) (λ (x : ℕ × SplitJob). IsAsked later x.0 x.1) (λ x h. asked_later x.0 x.1 h) s.splits a.splits;
    apart = a.apart;
  }

  pub opening_if_later : (state : Option ServerState) → OpeningIf post state → OpeningIf later state
  opening_if_later None o = tt
  opening_if_later (Some s) o = are_opening_later s o

-- the same with what was sent more
module _ (post more : List Packet) where
  pub grown : (p : Packet) → Contains post p → Contains (post ++ more) p
  grown p there = Contains-append_left post more p there

  opening_on : (server session n : ℕ) (r : RangeState) → IsOpening post server session n r → IsOpening (post ++ more) server session n r
  opening_on = opening_later post (post ++ more) grown

  asked_on : (n : ℕ) (job : SplitJob) → IsAsked post n job → IsAsked (post ++ more) n job
  asked_on = asked_later post (post ++ more) grown

  pub are_opening_on : (s : ServerState) → AreOpening post s → AreOpening (post ++ more) s
  are_opening_on = are_opening_later post (post ++ more) grown

-- ---- how a server goes on

-- what it asks for was asked for before, or it opens a range under the number of its next request
pub record OpensNow (post : List Packet) (s : ServerState) (o : ServerOutcome) : Type 0 where
  pub range : ℕ
  pub generation : ℕ
  pub packets : Each (λ (p : Packet). IsKnown post p.body ⊎ (p.body ≡ bodies.Stream (streams.OpenStreams range generation (request s.context)))) o.packets
  pub used : s.context.count < o.after.context.count

-- it asks for a split of a range that does not wait for its streams, and that was not being split
pub record SplitsNow (s : ServerState) (o : ServerOutcome) : Type 0 where
  pub range : ℕ
  pub key : List ℕ
  pub held : RangeState
  pub found : range_of s.ranges range ≡ Some held
  pub serves : is_serving held.stage ≡ true
  pub free : split_of s.splits range ≡ None
  pub packets : o.packets ≡ begin_packet s.context (new_split s.context held key) (request s.context) ∷ []
  pub begun : split_of o.after.splits range ≡ Some (new_split s.context held key)

pub record ServerGoes (post : List Packet) (s : ServerState) (o : ServerOutcome) : Type 0 where
  pub after : AreOpening (post ++ o.packets) o.after
  pub asks : AreKnown post o.packets ⊎ (OpensNow post s o ⊎ SplitsNow s o)
  pub speaks : (n g : ℕ) (key : List ℕ) (q : ReqNo) → ((w : ReqNo) → Grants post n g w → w ≡ q) → (q ≡ request s.context → ⊥) → Speaks s n g key q → Speaks o.after n g key q
  pub count : s.context.count ≤ o.after.context.count
  pub server : o.after.context.server ≡ s.context.server
  pub session : o.after.context.session ≡ s.context.session

module _ (post : List Packet) (s : ServerState) (a : AreOpening post s) where
  pub rests_goes : ServerGoes post s (rests s)
  rests_goes = record { after = are_opening_on post [] s a; asks = inl tt; speaks = λ n g key q one fresh h. h; count = no_less s.context.count; server = refl; session = refl }

  pub sends_goes : (p : Packet) → IsKnown post p.body → ServerGoes post s (record { after = s; packets = p ∷ []; notes = [] })
  sends_goes p k = record { after = are_opening_on post (p ∷ []) s a; asks = inl (k, tt); speaks = λ n g key q one fresh h. h; count = no_less s.context.count; server = refl; session = refl }

  -- ---- a step of a range that is held

  module _ (x : ℕ) (r : RangeState) (found : range_of s.ranges x ≡ Some r) where
    abbrev pub opening : IsOpening post s.context.server s.context.session x r
    opening = found_at (IsOpening post s.context.server s.context.session) s.ranges x r a.ranges found

    abbrev number : ReqNo
    number = requests.Server s.context.server s.context.session opening.count

    abbrev pub P : ℕ → LoadState → Stage → Type 0
    P until load stage = Stood post x r.load.generation number load stage

    -- where it stands, it is opening still
    stands_opening : (more : List Packet) (after : RangeState) → Has P after → IsOpening (post ++ more) s.context.server s.context.session x after
    stands_opening more after h =
        opening_on post more s.context.server s.context.session x after
        (record { count = opening.count; asked = subst (λ g. AsksToOpen post x g number) (sym h.1) opening.asked; stands = (h.0, refl, h.2) })

    pub ranges_after : (more : List Packet) (R : Option RangeState) → IfHas P R → Each (λ (y : ℕ × RangeState). IsOpening (post ++ more) s.context.server s.context.session y.0 y.1) (set_range s.ranges x R)
    ranges_after more None h = removed_at (IsOpening (post ++ more) s.context.server s.context.session) s.ranges x (are_opening_on post more s a).ranges
    ranges_after more (Some after) h = put_at (IsOpening (post ++ more) s.context.server s.context.session) s.ranges x after (are_opening_on post more s a).ranges (stands_opening more after h)

    pub rising_after : (R : Option RangeState) → IsRising (set_range s.ranges x R)
    rising_after None = rising_removed s.ranges x a.rising
    rising_after (Some after) = rising_put s.ranges x after a.rising

    other_after : (R : Option RangeState) (n : ℕ) → (n ≡ x → ⊥) → range_of (set_range s.ranges x R) n ≡ range_of s.ranges n
    other_after None n apart = removed_other s.ranges x n apart
    other_after (Some after) n apart = put_other s.ranges x n after apart

    here_after : (R : Option RangeState) (after : RangeState) → range_of (set_range s.ranges x R) x ≡ Some after → R ≡ Some after
    here_after None after is = absurd (removed_here s.ranges x after a.rising is)
    here_after (Some w) after is = ap Some (put_here s.ranges x w after is)

    -- the range that waits, waits under its own number
    waits_itself : (w : ReqNo) → IsWaiting w r.load.phase r.stage → w ≡ number
    waits_itself w waits = elim opening.stands.2 [
      | inl own ↦ (let same : phases.Opening w ≡ phases.Opening number = sym waits.0 ∙ own.0 in cc)
      | inr told ↦ absurd (subst IsBeyond waits.0 told.0)
    ]

    speaks_here : (js : List (ℕ × SplitJob)) (g : ℕ) (key : List ℕ) (q : ReqNo) → ((w : ReqNo) → Grants post x g w → w ≡ q) → (IsSplitAt s.splits x g key → IsSplitAt js x g key) → (after : RangeState) → Has P after → after.load.generation ≡ g →
        SplitsOrWaits s.splits x g key q r → SplitsOrWaits js x g key q after
    speaks_here js g key q one keeps after h under (inr split) = inr (keeps split)
    speaks_here js g key q one keeps after h under (inl (w, waits, apart)) =
        let own : w ≡ number = waits_itself w waits in
        elim h.2 [
          | inl still ↦ inl (number, still, λ same. apart (own ∙ same))
          | inr told ↦ absurd (apart (own ∙ one number (subst (λ k. AsksToOpen post x k number) (sym h.1 ∙ under) opening.asked, told.1)))
        ]

    -- the range steps, and whatever splits there are stay
    pub alone_goes : (d : ServerContext) (R : Option RangeState) (packets : List Packet) (notes : _) → IfHas P R → AreKnown post packets → s.context.count ≤ d.count → d.server ≡ s.context.server → d.session ≡ s.context.session →
        ServerGoes post s (record { after = record s { context = d; ranges = set_range s.ranges x R }; packets = packets; notes = notes })
    alone_goes d R packets notes h known count server session = record {
      after = record {
        ranges = rw (server, session) (ranges_after packets R h);
        rising = rising_after R;
        splits = (are_opening_on post packets s a).splits;
        apart = a.apart;
      };
      asks = inl known;
      speaks = speaks;
      count = count;
      server = server;
      session = session;
    }
      where
        speaks : (n g : ℕ) (key : List ℕ) (q : ReqNo) → ((w : ReqNo) → Grants post n g w → w ≡ q) → (q ≡ request s.context → ⊥) → Speaks s n g key q → Speaks (record s { context = d; ranges = set_range s.ranges x R }) n g key q
        speaks n g key q one fresh old after is under = go (n == x) refl
          where
            go : (b : Bool) → (n == x) ≡ b → SplitsOrWaits s.splits n g key q after
            go true e =
                let same : n ≡ x = eqb-true n x e in
                let at : R ≡ Some after = here_after R after (subst (λ k. range_of (set_range s.ranges x R) k ≡ Some after) same is) in
                let stood : Has P after = subst (IfHas P) at h in
                let now = speaks_here s.splits g key q (subst (λ k. (w : ReqNo) → Grants post k g w → w ≡ q) same one) (λ z. z) after stood under
                (subst (λ k. SplitsOrWaits s.splits k g key q r) same (old r (subst (λ k. range_of s.ranges k ≡ Some r) (sym same) found) (sym stood.1 ∙ under))) in
                subst (λ k. SplitsOrWaits s.splits k g key q after) (sym same) now
            go false e = old after (sym (other_after R n (λ same. absurd (eqb-false n x e same))) ∙ is) under

    -- the range steps, and its split with it
    module _ (job : SplitJob) (has : split_of s.splits x ≡ Some job) where
      abbrev asked : IsAsked post x job
      asked = found_at (IsAsked post) s.splits x job a.splits has

      same_asked : (more : List Packet) (other : SplitJob) → IsSameSplit job other → IsAsked (post ++ more) x other
      same_asked more other same = asked_on post more x other (same.0 ∙ asked.0, subst (λ g. AsksToSplit post x g other.key) (sym same.1) (subst (λ k. AsksToSplit post x job.generation k) (sym same.2) asked.1))

      splits_after : (more : List Packet) (J : Option SplitJob) → SameIf P post job J → Each (λ (y : ℕ × SplitJob). IsAsked (post ++ more) y.0 y.1) (set_split s.splits x J)
      splits_after more None h = removed_at (IsAsked (post ++ more)) s.splits x (are_opening_on post more s a).splits
      splits_after more (Some other) h = inserted_at (IsAsked (post ++ more)) s.splits x other (are_opening_on post more s a).splits (same_asked more other h)

      other_splits : (J : Option SplitJob) (n : ℕ) → (n ≡ x → ⊥) → split_of (set_split s.splits x J) n ≡ split_of s.splits n
      other_splits None n apart = removed_other s.splits x n apart
      other_splits (Some other) n apart = inserted_other s.splits x n other apart

      same_if : (R : Option RangeState) (J : Option SplitJob) → StandsWith P post job R J → SameIf P post job J
      same_if None J h = h
      same_if (Some after) None h = absurd h
      same_if (Some after) (Some other) h = h.1

      range_if : (R : Option RangeState) (J : Option SplitJob) → StandsWith P post job R J → IfHas P R
      range_if None J h = tt
      range_if (Some after) None h = absurd h
      range_if (Some after) (Some other) h = h.0

      keeps_split : (R : Option RangeState) (J : Option SplitJob) → StandsWith P post job R J → (after : RangeState) → R ≡ Some after → (g : ℕ) (key : List ℕ) → IsSplitAt s.splits x g key → IsSplitAt (set_split s.splits x J) x g key
      keeps_split None J h after is g key k = absurd cc
      keeps_split (Some y) None h after is g key k = absurd h
      keeps_split (Some y) (Some other) h after is g key k =
          let same : k.job ≡ job = same_Some k.job job (sym k.there ∙ has) in
          record {
            job = other;
            there = inserted_here s.splits x other;
            under = h.1.1 ∙ sym (ap (λ (j : SplitJob). j.generation) same) ∙ k.under;
            at = h.1.2 ∙ sym (ap (λ (j : SplitJob). j.key) same) ∙ k.at;
          }

      pub with_goes : (d : ServerContext) (R : Option RangeState) (J : Option SplitJob) (packets : List Packet) (notes : _) → StandsWith P post job R J → AreKnown post packets → s.context.count ≤ d.count → d.server ≡ s.context.server → d.session ≡ s.context.session →
          ServerGoes post s (record { after = record s { context = d; ranges = set_range s.ranges x R; splits = set_split s.splits x J }; packets = packets; notes = notes })
      with_goes d R J packets notes h known count server session = record {
        after = record {
          ranges = rw (server, session) (ranges_after packets R (range_if R J h));
          rising = rising_after R;
          splits = splits_after packets J (same_if R J h);
          apart = a.apart;
        };
        asks = inl known;
        speaks = speaks;
        count = count;
        server = server;
        session = session;
      }
        where
          speaks : (n g : ℕ) (key : List ℕ) (q : ReqNo) → ((w : ReqNo) → Grants post n g w → w ≡ q) → (q ≡ request s.context → ⊥) → Speaks s n g key q →
              Speaks (record s { context = d; ranges = set_range s.ranges x R; splits = set_split s.splits x J }) n g key q
          speaks n g key q one fresh old after is under = go (n == x) refl
            where
              other : SplitsOrWaits s.splits n g key q after → (n ≡ x → ⊥) → SplitsOrWaits (set_split s.splits x J) n g key q after
              other (inl waits) apart = inl waits
              other (inr k) apart = inr (record { job = k.job; there = other_splits J n apart ∙ k.there; under = k.under; at = k.at })

              go : (b : Bool) → (n == x) ≡ b → SplitsOrWaits (set_split s.splits x J) n g key q after
              go true e =
                  let same : n ≡ x = eqb-true n x e in
                  let at : R ≡ Some after = here_after R after (subst (λ k. range_of (set_range s.ranges x R) k ≡ Some after) same is) in
                  let stood : Has P after = subst (IfHas P) at (range_if R J h) in
                  let now = speaks_here (set_split s.splits x J) g key q (subst (λ k. (w : ReqNo) → Grants post k g w → w ≡ q) same one) (keeps_split R J h after at g key) after stood under
                  (subst (λ k. SplitsOrWaits s.splits k g key q r) same (old r (subst (λ k. range_of s.ranges k ≡ Some r) (sym same) found) (sym stood.1 ∙ under))) in
                  subst (λ k. SplitsOrWaits (set_split s.splits x J) k g key q after) (sym same) now
              go false e =
                  let apart : n ≡ x → ⊥ = λ same. absurd (eqb-false n x e same) in
                  other (old after (sym (other_after R n apart) ∙ is) under) apart

    -- ---- a step of the range, and what its split then does

    -- the range stands, and what it asks for was asked for
    abbrev StoodIn : RangeOutcome → Type 0
    StoodIn o = IfHas P o.after × AreKnown post o.packets × (s.context.count ≤ o.count)

    pub quiet_in : (o : RangeOutcome) → Good P s.context o → StoodIn o
    quiet_in o g = (g.0, quiet_known post o.packets g.1, g.2)

    -- a step of the range, behind which its split does this
    behind_goes : (job : SplitJob) → split_of s.splits x ≡ Some job → (o : RangeOutcome) → StoodIn o → (t : SplitStep) → Goes P post job (counted s.context o) t → ServerGoes post s (behind_these o (split_stepped s x t))
    behind_goes job has o g t h =
        with_goes job has (record s.context { count = t.count }) t.range t.job (o.packets ++ t.packets) o.notes h.stands (each_both (λ (p : Packet). IsKnown post p.body) o.packets t.packets g.1 h.packets)
        (on_and_on s.context.count o.count t.count g.2 h.count) refl refl

    pub stepped_goes : (o : RangeOutcome) → StoodIn o → ServerGoes post s (stepped s x o)
    stepped_goes o g = subst (λ js. ServerGoes post s (stepped_in s x (merge_with js x) o)) (sym a.apart) (go (split_of s.splits x) refl)
      where
        by : (job : SplitJob) → split_of s.splits x ≡ Some job → (R : Option RangeState) → IfHas P R → ServerGoes post s (stepped_splitting s x job o R)
        by job has None h = with_goes job has (counted s.context o) None None o.packets o.notes tt g.1 g.2 refl refl
        by job has (Some after) h = behind_goes job has o g _ (split_follows P post job (counted s.context o) after h)

        go : (j : Option SplitJob) → split_of s.splits x ≡ j → ServerGoes post s (stepped_with s x j o)
        go None has = alone_goes (counted s.context o) o.after o.packets o.notes g.0 g.1 g.2 refl refl
        go (Some job) has = by job has o.after g.0

    pub given_up_goes : (o : RangeOutcome) → StoodIn o → ServerGoes post s (given_up s x (merge_with s.merges x) o)
    given_up_goes o g = subst (λ js. ServerGoes post s (given_up s x (merge_with js x) o)) (sym a.apart) (go (split_of s.splits x) refl)
      where
        by : (job : SplitJob) → split_of s.splits x ≡ Some job → (R : Option RangeState) → IfHas P R → ServerGoes post s (given_up_splitting s x job o R)
        by job has None h = with_goes job has (counted s.context o) None None o.packets o.notes tt g.1 g.2 refl refl
        by job has (Some after) h =
            let own = asked job has in
            behind_goes job has o g _ (split_gives_up P post job (counted s.context o) after h (subst (λ n. AsksToSplit post n job.generation job.key) (sym own.0) own.1))

        go : (j : Option SplitJob) → split_of s.splits x ≡ j → ServerGoes post s (given_up_with s x j o)
        go None has = alone_goes (counted s.context o) o.after o.packets o.notes g.0 g.1 g.2 refl refl
        go (Some job) has = by job has o.after g.0

    -- ---- answers

    waits_as : (o : RangeOutcome) → Good (Waits x r.load.generation r.until number) s.context o → Good P s.context o
    waits_as o g = (on o.after g.0, g.1, g.2, shows_weaker (Waits x r.load.generation r.until number) P (λ until load stage beyond h. (h.0, h.1, inl h.2)) o.notes g.3)
      where
        on : (R : Option RangeState) → IfHas (Waits x r.load.generation r.until number) R → IfHas P R
        on None h = tt
        on (Some after) h = (h.0, h.1, inl h.2)

    loads_as : (o : RangeOutcome) → HasOpened post number → Good (Loads x r.load.generation r.until) s.context o → Good P s.context o
    loads_as o told g = (on o.after g.0, g.1, g.2, shows_weaker (Loads x r.load.generation r.until) P (λ until load stage beyond h. (h.0, h.1, inr (h.2, told))) o.notes g.3)
      where
        on : (R : Option RangeState) → IfHas (Loads x r.load.generation r.until) R → IfHas P R
        on None h = tt
        on (Some after) h = (h.0, h.1, inr (h.2, told))

    pub answer_stands : (p : Packet) → Contains post p → (w : ReqNo) → answered_number p.body ≡ Some w → Good P s.context (answer_rule s.context r w p.body)
    answer_stands p there w number_is = elim opening.stands.2 [
      | inl waits ↦ waiting waits
      | inr told ↦ loads_as (answer_rule s.context r w p.body) told.1 (beyond_answers x r.load.generation r.until s.context r w p.body (opening.stands.0, refl, told.0, refl))
    ]
      where
        -- the streams were told under the number that is waited for
        told_now : IsWaiting number r.load.phase r.stage → load_awaits r.load.phase w ≡ true → (v : ReqNo) (lists : StreamLists) → p.body ≡ bodies.Stream (streams.Opened v lists) → HasOpened post number
        told_now waits awaits v lists is =
            let same : number ≡ w = same_request number w (subst (λ phase. load_awaits phase w ≡ true) waits.0 awaits) in
            let named : v ≡ w = same_Some v w (sym (ap answered_number is) ∙ number_is) in
            record { packet = p; lists = lists; sent = there; is = is ∙ ap (λ z. bodies.Stream (streams.Opened z lists)) (named ∙ sym same) }

        waiting : IsWaiting number r.load.phase r.stage → Good P s.context (answer_rule s.context r w p.body)
        waiting waits = elim (waiting_answers x r.load.generation r.until number s.context r w p.body (opening.stands.0, refl, waits, refl)) [
          | inl still ↦ waits_as (answer_rule s.context r w p.body) still
          | inr on ↦ elim on.1 [
            | inl still ↦ waits_as (answer_rule s.context r w p.body) still
            | inr opened ↦ loads_as (answer_rule s.context r w p.body) (told_now waits on.0 opened.1.0 opened.1.1 opened.1.2) opened.0
          ]
        ]

    -- ---- giving up

    pub give_up_stands : StoodIn (give_up_all s.context r)
    give_up_stands =
        let rest = behind_quiet P s.context r in (
          opening.stands,
          subst (AreKnown post) (sym rest.1) (each_both (λ (p : Packet). IsKnown post p.body) (option_to_list (again r.load r.load.phase)) rest.0 (asks_again opening.stands.2) (quiet_known post rest.0 rest.2)),
          omega arith,
        )
      where
        again_known : (phase : LoadPhase) → IsBeyond phase → AreKnown post (option_to_list (again r.load phase))
        again_known (phases.Opening q) b = absurd b
        again_known (phases.Confirming q) b = (tt, tt)
        again_known phases.Opened b = tt
        again_known phases.Confirmed b = tt
        again_known phases.Fenced b = tt

        asks_again : IsWaiting number r.load.phase r.stage ⊎ (IsBeyond r.load.phase × HasOpened post number) → AreKnown post (option_to_list (again r.load r.load.phase))
        asks_again (inl waits) = subst (λ phase. AreKnown post (option_to_list (again r.load phase))) (sym waits.0) (subst (λ n. AsksToOpen post n r.load.generation number) (sym opening.stands.0) opening.asked, tt)
        asks_again (inr told) = again_known r.load.phase told.0
