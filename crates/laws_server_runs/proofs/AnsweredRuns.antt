-- Over every list of what comes to servers, where the map and the manager answer by their tables, what is known of splits stands.
use Rattle.std.proofs.Common.{◌≡◌, ◌⊎◌, ℕ, ◌-◌, true, List, [], ◌∷◌, ◌++◌, Some, None, slice_set, Contains, refl, sym, ap, ◌∙◌, subst, inl, inr, append-nil}
use Rattle.std.proofs.lemmas.List.Elements.{Contains-append_left}
use Rattle.wire.specs.declared.actor.ReqNo.{ReqNo}
use Rattle.wire.specs.declared.packet.Packet.{Packet}
use Rattle.wire.specs.declared.streams.Modify.{Modify}
use Rattle.model_streams.specs.Maps.{entry_at}
use Rattle.model_partition.specs.declared.split_job.SplitJob.{SplitJob}
use Rattle.model_partition.specs.Past.{Bytes}
use Rattle.model_partition.specs.Range.{RangeState, request, is_serving}
use Rattle.model_partition.specs.Server.{ServerState, ServerOutcome, range_of, split_of}
use Rattle.model_partition.specs.Servers.{ServerCell, ServersOutcome}
use Rattle.model_partition.specs.Splits.{new_split, begin_packet}
use Rattle.model_histories.specs.Renaming.{decoded}
use Rattle.model_histories.specs.ServedTables.{ServesAt}
use Rattle.model_histories.specs.ServerRun.{ServerRun, ServerEvent, run_of, log_name}
use Rattle.model_histories.specs.Story.{Showed, event_at}
use Rattle.laws_loads.proofs.Renaming.{showed_at, showed_from}
use Rattle.laws_map.specs.Generations.{HasAsked}
use Rattle.laws_map.specs.Naming.{Each, IsRising, BodyNames, RangeNames, JobNames, ServerNames}
use Rattle.laws_map.specs.Naming.{IsBuilt as NamedStreams}
use Rattle.laws_loads.proofs.Entries.{entry_set}
use Rattle.laws_map.proofs.AskedNumbers.{asked_cases, one_asked}
use Rattle.laws_map.proofs.Knowing.{each_has}
use Rattle.laws_map.proofs.ServerNames.{ServerStep}
use Rattle.laws_map.proofs.ServerStages.{AreHeld}
use Rattle.laws_tables.specs.Runs.{IsServing}
use Rattle.laws_server_runs.specs.Answerers.{MapBook, AsksForStreams, sent_by}
use Rattle.laws_server_runs.specs.BornRanges.{AllInOrder}
use Rattle.laws_server_runs.specs.ChildInvariant.{IsBuiltBy, AreBornSo}
use Rattle.laws_server_runs.specs.ClosedRanges.{IsMarked, IsBusy}
use Rattle.laws_server_runs.specs.RangeInvariant.{IsLonger}
use Rattle.laws_server_runs.specs.RunInvariant.{view_at, with_stage, HeldKept, Taken, RunBehind}
use Rattle.laws_server_runs.specs.Turns.{outcome_of, IsOfServers, HoldNoMore}
use Rattle.laws_server_runs.proofs.Actions.{Longer, event_longer}
use Rattle.laws_server_runs.proofs.AnsweredServers.{answering, asked_later, names_later, BeginsAt, range_named}
use Rattle.laws_server_runs.proofs.AnsweredStands.{IsShown, IsListed, JobStands, SplitsStand, SplitsMove, range_holder, names_now, jobs_now, lists_now, ended_now, found_now}
use Rattle.laws_server_runs.proofs.ChildTheorem.{all_behind, order_before}
use Rattle.laws_server_runs.proofs.ClosedRanges.{busy_step}
use Rattle.laws_server_runs.proofs.LaidRuns.{all_laid}
use Rattle.laws_server_runs.proofs.NamesBehind.{event_later}
use Rattle.laws_server_runs.proofs.RunSteps.{IsAny, IsAnyPair, any_assigned, any_numbered, event_step, one_like, same_cell}
use Rattle.laws_server_runs.proofs.SplitsBack.{ranges_there}
use Rattle.laws_server_runs.proofs.SplitsHeld.{splits_hold}
use Rattle.laws_server_runs.proofs.Steps.{shown_at, kept_at}
use Rattle.laws_server_runs.proofs.Theorem.{of_view}
use Rattle.laws_server_runs.proofs.Unmerged.{unmerged}

-- ---- loads that were confirmed

pub shown_on : (x y : ServerRun) → Longer x y → (range g : ℕ) → IsShown x range g → IsShown y range g
shown_on x y longer range g (l, start, end, groups, at) =
    let more : IsLonger (x.story (log_name range)) (y.story (log_name range)) = longer.story (log_name range) in
    (l, start, end, groups, ap (λ s. event_at s l) more.1 ∙ event_later (x.story (log_name range)) more.0 l (Showed g start end groups) at)

module _ (texts : ℕ → Bytes) (x : ServerRun) (range : ℕ) (taken : Taken) (k : RunBehind texts range taken x) where
  pub shown_run : (g : ℕ) → IsShown x range g → IsServing k.run g
  shown_run g (l, start, end, groups, at) = (l, start, end, _, ap (λ s. event_at s l) k.streams.log ∙ showed_at decoded (x.story (log_name range)) l g start end groups at)

  pub run_shown : (g : ℕ) → IsServing k.run g → IsShown x range g
  run_shown g (l, start, end, groups, at) =
      let old = showed_from decoded (x.story (log_name range)) l g start end groups (sym (ap (λ s. event_at s l) k.streams.log) ∙ at) in
      (l, start, end, old.0, old.1)

  -- a range that is served was loaded
  pub serves_shown : (s : ℕ) (r : RangeState) → ServesAt x s range r → IsShown x range r.load.generation
  serves_shown s r at =
      let h : HeldKept texts range k.run (view_at range x s) r (split_of at.state.splits range) = kept_at texts range taken x k s r at in
      run_shown r.load.generation (shown_at texts range k.run (with_stage (view_at range x s) h.split) r h.range at.serves)

-- a server had the split of a range after some of the events
pub record HadSplit (batch servers : ℕ) (events : List ServerEvent) (k : ℕ) (job : SplitJob) : Type 0 where
  pub after : List ServerEvent
  pub until : List ServerEvent
  pub is : events ≡ after ++ until
  pub server : ℕ
  pub cell : ServerCell
  pub state : ServerState
  pub there : entry_at (run_of batch servers until).servers server ≡ Some cell
  pub runs : cell.state ≡ Some state
  pub found : split_of state.splits k ≡ Some job

pub had_since : (batch servers : ℕ) (event : ServerEvent) (earlier : List ServerEvent) (k : ℕ) (job : SplitJob) → HadSplit batch servers earlier k job → HadSplit batch servers (event ∷ earlier) k job
had_since batch servers event earlier k job w = record { after = event ∷ w.after; until = w.until; is = ap (λ l. event ∷ l) w.is; server = w.server; cell = w.cell; state = w.state; there = w.there; runs = w.runs; found = w.found }

had_now : (batch servers : ℕ) (events : List ServerEvent) (s : ℕ) (cell : ServerCell) (st : ServerState) → entry_at (run_of batch servers events).servers s ≡ Some cell → cell.state ≡ Some st → (k : ℕ) (job : SplitJob) → split_of st.splits k ≡ Some job →
    HadSplit batch servers events k job
had_now batch servers events s cell st there up k job found = record { after = []; until = events; is = refl; server = s; cell = cell; state = st; there = there; runs = up; found = found }

-- ---- one more event

abbrev pub RangesNamed : MapBook → List Packet → ℕ → List (ℕ × RangeState) → Type 0
RangesNamed b sent t l = Each (λ (z : ℕ × RangeState). RangeNames (answering b sent t) z.0 z.1) l

abbrev pub SplitsNamed : MapBook → List Packet → ℕ → List (ℕ × SplitJob) → Type 0
SplitsNamed b sent t l = Each (λ (z : ℕ × SplitJob). JobNames (answering b sent t) z.0 z.1) l

module _ (texts : ℕ → Bytes) (b : MapBook) (batch servers : ℕ) where
  abbrev sent : List ServerEvent → List Packet
  sent events = sent_by batch servers events

  abbrev run : List ServerEvent → ServerRun
  run events = run_of batch servers events

  abbrev pub Stand : List ServerEvent → Type 0
  Stand events = SplitsStand b (sent events) (IsBuiltBy events) (HadSplit batch servers events) (run events)

  module _ (event : ServerEvent) (earlier : List ServerEvent) (born : AreBornSo texts batch servers earlier) (order : AllInOrder texts batch servers (event ∷ earlier)) (stand : Stand earlier) where
    abbrev x : ServerRun
    x = run earlier

    abbrev y : ServerRun
    y = run (event ∷ earlier)

    abbrev IsLater : ℕ → Type 0
    IsLater n = IsBuiltBy (event ∷ earlier) n

    abbrev Had : ℕ → SplitJob → Type 0
    Had k job = HadSplit batch servers (event ∷ earlier) k job

    order_then : AllInOrder texts batch servers earlier
    order_then = order_before texts batch servers event earlier order

    kept : (range : ℕ) → (taken : Taken) × RunBehind texts range taken x
    kept range = all_behind texts batch servers earlier born order_then range

    served_then : (s range : ℕ) (r : RangeState) → ServesAt x s range r → IsShown x range r.load.generation
    served_then s range r at = let k = kept range in serves_shown texts x range k.0 k.1 s r at

    shown_now : (range g : ℕ) → IsShown x range g → IsShown y range g
    shown_now range g is = shown_on x y (event_longer x event) range g is

    -- ---- what comes to servers

    module _ (is : IsOfServers event) where
      busy_now : (q : ReqNo) (range g : ℕ) (key : List ℕ) → HasAsked (sent earlier) q range g key → IsMarked IsBusy range g y
      busy_now q range g key a =
          let k = kept range in
          busy_step texts range g k.0 x (all_laid batch servers earlier) k.1 (shown_run texts x range k.0 k.1 g (stand.shown q range g key a)) (of_view texts range x (order_then range)) (splits_hold batch servers earlier)
          (stand.busy q range g key a) (outcome_of x.servers event).notes y (event_step IsAny IsAnyPair x (unmerged batch servers earlier) event is (any_assigned event) (any_numbered event)) (of_view texts range y (order range))

      -- servers hold no more than they did, and nothing is sent
      pub quiet_now : (w : ServersOutcome) → y.servers ≡ w.servers → (outcome_of x.servers event).packets ≡ [] → HoldNoMore x.servers w.servers → Stand (event ∷ earlier)
      quiet_now w same none like = subst (λ (l : List Packet). SplitsStand b l IsLater Had y) (sym (ap (λ l. sent earlier ++ l) none ∙ append-nil (sent earlier))) (record {
        names = names;
        jobs = jobs;
        lists = stand.lists;
        ended = λ range generation a. (let e = stand.ended range generation a in record { job = e.job; range_is = e.range_is; generation_is = e.generation_is; numbered = e.numbered; built = (inr e.built.0, inr e.built.1); ends = e.ends; was = had_since batch servers event earlier range e.job e.was });
        shown = λ q range g key a. shown_now range g (stand.shown q range g key a);
        busy = busy_now;
        keys = stand.keys;
      })
        where
          there_now : (t : ℕ) (c : ServerCell) → entry_at y.servers t ≡ Some c → entry_at w.servers t ≡ Some c
          there_now t c there = ap (λ l. entry_at l t) (sym same) ∙ there

          names : (t : ℕ) (c : ServerCell) (q : ServerState) → entry_at y.servers t ≡ Some c → c.state ≡ Some q → ServerNames (answering b (sent earlier) t) q
          names t c q there up = elim (like t c q (there_now t c there) up) [
            | inl none ↦ record {
              ranges = subst (RangesNamed b (sent earlier) t) (sym none.0) tt;
              splits = subst (SplitsNamed b (sent earlier) t) (sym none.1) tt;
              rising = subst IsRising (sym none.1) tt;
              merges = whole;
            }
            | inr was ↦
                (let n = stand.names t was.0 was.1 was.2 was.3 in
                record { ranges = subst (RangesNamed b (sent earlier) t) (sym was.4) n.ranges; splits = subst (SplitsNamed b (sent earlier) t) (sym was.5) n.splits; rising = subst IsRising (sym was.5) n.rising; merges = whole })
          ]
            where
              whole : q.merges ≡ []
              whole = unmerged batch servers (event ∷ earlier) t c there q up

          jobs : (t : ℕ) (c : ServerCell) (q : ServerState) → entry_at y.servers t ≡ Some c → c.state ≡ Some q → (k : ℕ) (job : SplitJob) → split_of q.splits k ≡ Some job → JobStands (sent earlier) IsLater job
          jobs t c q there up k job found = elim (like t c q (there_now t c there) up) [
            | inl none ↦ absurd (let z : None ≡ Some job = sym (ap (λ l. split_of l k) none.1) ∙ found in cc)
            | inr was ↦
                (let j = stand.jobs t was.0 was.1 was.2 was.3 k job (sym (ap (λ l. split_of l k) was.5) ∙ found) in
                record { builds = j.builds; ends = j.ends; waits = j.waits; built = λ l. (let both = j.built l in (inr both.0, inr both.1)) })
          ]

      -- a server takes a step
      module _ (s : ℕ) (c : ServerCell) (st : ServerState) (at : entry_at x.servers s ≡ Some c) (up : c.state ≡ Some st) (o : ServerOutcome)
          (same : y.servers ≡ slice_set x.servers (s - 1) (record c { state = Some o.after })) (told : (outcome_of x.servers event).packets ≡ o.packets)
          (after_names : ServerNames (answering b (sent earlier ++ o.packets) s) o.after) (new_lists : (list : List Modify) (q : ReqNo) → AsksForStreams o.packets list q → IsListed b (sent earlier ++ o.packets) list)
          (Heard : ReqNo → Type 0) (go : SplitsMove Heard st.ranges st.splits o)
          (heard : (q : ReqNo) → Heard q → (list : List Modify) → AsksForStreams (sent earlier) list q → (entry : Modify) → Contains list entry → IsBuiltBy earlier entry.stream.range)
          (news : ((q : ReqNo) (range g : ℕ) (key : List ℕ) → HasAsked o.packets q range g key → HasAsked (sent earlier) q range g key) ⊎ ((k : ℕ) × (key : List ℕ) × BeginsAt st k key o)) where
        abbrev later : List Packet
        later = sent earlier ++ o.packets

        -- what is asked anew is the split that begins
        record IsNew (q : ReqNo) (range g : ℕ) (key : List ℕ) : Type 0 where
          held : RangeState
          found : range_of st.ranges range ≡ Some held
          serves : is_serving held.stage ≡ true
          generation : held.load.generation ≡ g
          free : split_of st.splits range ≡ None
          job : SplitJob
          begun : split_of o.after.splits range ≡ Some job
          only : (w : ReqNo) (n h : ℕ) (other : List ℕ) → HasAsked o.packets w n h other → (range ≡ n) × (g ≡ h) × (key ≡ other)

        -- its range is served
        abbrev held_at : (range : ℕ) (held : RangeState) → range_of st.ranges range ≡ Some held → is_serving held.stage ≡ true → ServesAt x s range held
        held_at range held found serves = record { cell = c; state = st; there = at; runs = up; held = found; serves = serves }

        new_of : (k : ℕ) (key : List ℕ) → BeginsAt st k key o → (q : ReqNo) (range g : ℕ) (other : List ℕ) → HasAsked o.packets q range g other → IsNew q range g other
        new_of k key w q range g other a =
            let alone : (w' : ReqNo) (n h : ℕ) (z : List ℕ) → HasAsked o.packets w' n h z → (w.held.load.range ≡ n) × (w.held.load.generation ≡ h) × (key ≡ z) =
            λ w' n h z a. (let e = one_asked w.held.load.range w.held.load.generation key (request st.context) (begin_packet st.context (new_split st.context w.held key) (request st.context)) refl w' n h z (subst (λ l. HasAsked l w' n h z) w.packets a) in (e.0, e.1, e.2)) in
            let e = alone q range g other a in
            let number : k ≡ range = sym (range_named b (sent earlier) s st (stand.names s c st at up) k w.held w.found).under.0 ∙ e.0 in
            record {
              held = w.held;
              found = subst (λ n. range_of st.ranges n ≡ Some w.held) number w.found;
              serves = w.serves;
              generation = e.1;
              free = subst (λ n. split_of st.splits n ≡ None) number w.free;
              job = new_split st.context w.held key;
              begun = subst (λ n. split_of o.after.splits n ≡ Some (new_split st.context w.held key)) number w.begun;
              only = λ w' n h z a'. (let f = alone w' n h z a' in (sym e.0 ∙ f.0, sym e.1 ∙ f.1, sym e.2 ∙ f.2));
            }

        cases : (q : ReqNo) (range g : ℕ) (key : List ℕ) → HasAsked later q range g key → HasAsked (sent earlier) q range g key ⊎ IsNew q range g key
        cases q range g key a = elim (asked_cases (sent earlier) o.packets q range g key a) [
          | inl old ↦ inl old
          | inr new ↦ elim news [ inl none ↦ inl (none q range g key new) | inr begins ↦ inr (new_of begins.0 begins.1 begins.2 q range g key new) ]
        ]

        -- nobody asked for that before
        not_before : (q w : ReqNo) (range g : ℕ) (key other : List ℕ) → IsNew q range g key → HasAsked (sent earlier) w range g other → ⊥
        not_before q w range g key other new old =
            let busy = stand.busy w range g other old s new.held (held_at range new.held new.found new.serves) new.generation in
            let e : None ≡ Some busy.0 = sym new.free ∙ busy.1 in
            absurd cc

        new_busy : (q : ReqNo) (range g : ℕ) (key : List ℕ) → IsNew q range g key → IsMarked IsBusy range g y
        new_busy q range g key new t r there is_g =
            let names : ServerNames (answering b later t) there.state =
            names_now b (sent earlier) (IsBuiltBy earlier) IsLater (λ n built. inr built) (HadSplit batch servers earlier) Had (had_since batch servers event earlier) x stand (splits_hold batch servers earlier) (ranges_there batch servers earlier) s c st at up o after_names new_lists Heard go heard y same t there.cell there.state there.there there.runs in
            let far : b.holder range r.load.generation ≡ t = range_holder b later t there.state names range r there.held in
            let here : b.holder range new.held.load.generation ≡ s = range_holder b (sent earlier) s st (stand.names s c st at up) range new.held new.found in
            let server : t ≡ s = sym far ∙ ap (b.holder range) (is_g ∙ sym new.generation) ∙ here in
            elim (found_now b (sent earlier) (IsBuiltBy earlier) IsLater (λ n built. inr built) (HadSplit batch servers earlier) Had (had_since batch servers event earlier) x stand (splits_hold batch servers earlier) (ranges_there batch servers earlier) s c st at up o after_names new_lists Heard go heard y same t there.cell there.state there.there there.runs) [
              | inl mine ↦ (new.job, ap (λ (z : ServerState). split_of z.splits range) (sym mine.1) ∙ new.begun)
              | inr other ↦ absurd (other.0 server)
            ]

        own_there : entry_at y.servers s ≡ Some (record c { state = Some o.after })
        own_there = ap (λ l. entry_at l s) same ∙ entry_set x.servers s c (record c { state = Some o.after }) at

        pub stepped_now : Stand (event ∷ earlier)
        stepped_now = subst (λ (l : List Packet). SplitsStand b l IsLater Had y) (sym (ap (λ l. sent earlier ++ l) told)) (record {
          names = names_now b (sent earlier) (IsBuiltBy earlier) IsLater (λ n built. inr built) (HadSplit batch servers earlier) Had (had_since batch servers event earlier) x stand (splits_hold batch servers earlier) (ranges_there batch servers earlier) s c st at up o after_names new_lists Heard go heard y same;
          jobs = jobs_now b (sent earlier) (IsBuiltBy earlier) IsLater (λ n built. inr built) (HadSplit batch servers earlier) Had (had_since batch servers event earlier) x stand (splits_hold batch servers earlier) (ranges_there batch servers earlier) s c st at up o after_names new_lists Heard go heard y same;
          lists = lists_now b (sent earlier) (IsBuiltBy earlier) IsLater (λ n built. inr built) (HadSplit batch servers earlier) Had (had_since batch servers event earlier) x stand (splits_hold batch servers earlier) (ranges_there batch servers earlier) s c st at up o after_names new_lists Heard go heard y same;
          ended = ended_now b (sent earlier) (IsBuiltBy earlier) IsLater (λ n built. inr built) (HadSplit batch servers earlier) Had (had_since batch servers event earlier) x stand (splits_hold batch servers earlier) (ranges_there batch servers earlier) s c st at up o after_names new_lists Heard go heard y same (had_now batch servers (event ∷ earlier) s (record c { state = Some o.after }) o.after own_there refl);
          shown = λ q range g key a. elim (cases q range g key a) [
            | inl old ↦ shown_now range g (stand.shown q range g key old)
            | inr new ↦ shown_now range g (subst (IsShown x range) new.generation (served_then s range new.held (held_at range new.held new.found new.serves)))
          ];
          busy = λ q range g key a. elim (cases q range g key a) [ inl old ↦ busy_now q range g key old | inr new ↦ new_busy q range g key new ];
          keys = λ q w range g key other a c. elim (cases q range g key a) [
            | inl old ↦ elim (cases w range g other c) [ inl also ↦ stand.keys q w range g key other old also | inr new ↦ absurd (not_before w q range g other key new old) ]
            | inr new ↦ elim (asked_cases (sent earlier) o.packets w range g other c) [ inl old ↦ absurd (not_before q w range g key other new old) | inr more ↦ (new.only w range g other more).2 ]
          ];
        })

      -- ---- each event

      pub held_then : (s : ℕ) (c : ServerCell) (st : ServerState) → entry_at x.servers s ≡ Some c → c.state ≡ Some st → AreHeld st
      held_then s c st at up k job found = ranges_there batch servers earlier s c st at up k job found

      -- a step in which no split begins
      module _ (s : ℕ) (c : ServerCell) (st : ServerState) (at : entry_at x.servers s ≡ Some c) (up : c.state ≡ Some st) (act : ServerState) (o : ServerOutcome) (same : y.servers ≡ slice_set x.servers (s - 1) (record c { state = Some o.after }))
          (told : (outcome_of x.servers event).packets ≡ o.packets) (step : ServerStep (answering b (sent earlier) s) act o) (Heard : ReqNo → Type 0) (go : SplitsMove Heard st.ranges st.splits o)
          (heard : (q : ReqNo) → Heard q → (list : List Modify) → AsksForStreams (sent earlier) list q → (entry : Modify) → Contains list entry → IsBuiltBy earlier entry.stream.range) where
        grow : (p : Packet) → Contains (sent earlier) p → Contains (sent earlier ++ o.packets) p
        grow p there = Contains-append_left (sent earlier) o.packets p there

        abbrev Named : Packet → Type 0
        Named p = BodyNames (answering b (sent earlier) s) p.body

        named : (p : Packet) → Contains o.packets p → Named p
        named p new = each_has Named o.packets p step.packets new

        pub plain_now : Stand (event ∷ earlier)
        plain_now =
            stepped_now s c st at up o same told (names_later (sent earlier) (sent earlier ++ o.packets) grow b s o.after step.names)
            (λ list q a. listed list (subst (BodyNames (answering b (sent earlier) s)) a.is (named a.packet a.among))) Heard go heard
            (inl (λ q range g key a. (subst (BodyNames (answering b (sent earlier) s)) a.is (named a.packet a.sent)).1))
          where
            listed : (list : List Modify) → NamedStreams (answering b (sent earlier) s) list → IsListed b (sent earlier ++ o.packets) list
            listed list l = record {
              job = l.job;
              is = l.is;
              numbered = (l.split.0, (l.split.1.0, asked_later (sent earlier) (sent earlier ++ o.packets) grow l.split.1.0 l.job.range l.job.generation l.job.key l.split.1.1));
            }

      -- nothing comes of it
      pub rests_now : (s : ℕ) (cell : ServerCell) → entry_at x.servers s ≡ Some cell → y.servers ≡ slice_set x.servers (s - 1) cell → (outcome_of x.servers event).packets ≡ [] → Stand (event ∷ earlier)
      rests_now s cell at same none =
          quiet_now (record { servers = slice_set x.servers (s - 1) cell; packets = []; notes = [] }) same none (one_like IsAny IsAnyPair x (unmerged batch servers earlier) s cell at cell (same_cell IsAny IsAnyPair x (unmerged batch servers earlier) cell))

      pub nobody_now : y.servers ≡ x.servers → (outcome_of x.servers event).packets ≡ [] → Stand (event ∷ earlier)
      nobody_now same none = quiet_now (record { servers = x.servers; packets = []; notes = [] }) same none (λ t c q there up. inr (c, q, there, up, refl, refl))
