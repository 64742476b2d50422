-- Each event of a list keeps what is known of splits, where the map and the manager answer by their tables; and so at first.
use Rattle.std.proofs.Common.{◌≡◌, ◌==◌, nat_lt, ◌^◌, ℕ, suc, ◌-◌, Bool, true, false, List, [], ◌∷◌, ◌++◌, map, Option, Some, None, slice_set, Contains, refl, sym, ap, ◌∙◌, subst, inl, inr, arith, append-nil, if◌then◌else◌}
use Rattle.std.proofs.lemmas.List.Elements.{Contains-append_left, Contains-append_right}
use Rattle.block_types.specs.declared.record.Nodes.{Nodes}
use Rattle.wire.specs.declared.actor.ReqNo.{ReqNo}
use Rattle.wire.specs.declared.packet.Packet.{Packet}
use Rattle.wire.specs.declared.streams.Modify.{Modify}
use Rattle.model_streams.specs.Maps.{entry_at}
use Rattle.model_partition.specs.Answering.{is_answerer}
use Rattle.model_partition.specs.Past.{Bytes}
use Rattle.model_partition.specs.Range.{request}
use Rattle.model_partition.specs.Server.{ServerState, ServerOutcome, split_of, server_rule, picked, give_up_rule, server_checkpoint, server_split, started}
use Rattle.model_partition.specs.Servers.{ServerCell, CellOutcome, cell_rests, cell_performs, cell_takes, cell_given_up, cell_gives_up, cell_checkpoints, cell_splits, cell_stops, cell_starts, first_pick, at_server, told_moment}
use Rattle.model_partition.specs.Splits.{new_split, begin_packet}
use Rattle.model_histories.specs.ServerRun.{ServerRun, ServerEvent, Takes, GivesUp, Checkpoints, Splits, Stops, Starts, Moment, Builds, run_of}
use Rattle.laws_map.specs.Naming.{IsRising, BodyNames, ServerNames}
use Rattle.laws_map.specs.Naming.{IsBuilt as NamedStreams}
use Rattle.laws_map.specs.Stages.{TellsBuilt}
use Rattle.laws_map.proofs.Knowing.{each_has}
use Rattle.laws_map.proofs.ServerNames.{ServerStep, StepIf, server_checkpoint_step, server_split_step, picked_names, server_gives_up_step}
use Rattle.laws_map.proofs.ServerStages.{GoesIf, server_stages, checkpoint_stages, split_stages, give_up_stages}
use Rattle.laws_server_runs.specs.Answerers.{MapBook, IsAnswered, AsksForStreams, sent_by}
use Rattle.laws_server_runs.specs.BornRanges.{AllInOrder}
use Rattle.laws_server_runs.specs.ChildInvariant.{IsBuiltBy, AreBornSo}
use Rattle.laws_server_runs.proofs.Actions.{event_longer}
use Rattle.laws_server_runs.proofs.AnsweredServers.{answering, answering_laws, names_later, taken_names, MayBegin, may_begin}
use Rattle.laws_server_runs.proofs.AnsweredStands.{IsListed, SplitsStand, stages_move}
use Rattle.laws_server_runs.proofs.AnsweredRuns.{HadSplit, had_since, RangesNamed, SplitsNamed, Stand, shown_on, quiet_now, stepped_now, plain_now, rests_now, nobody_now, held_then}
use Rattle.laws_server_runs.proofs.LaidRuns.{no_splits, bare}
use Rattle.laws_server_runs.proofs.RunSteps.{IsAny, IsAnyPair, IsLike, one_like, same_cell, moment_like}
use Rattle.laws_server_runs.proofs.Unmerged.{unmerged}

-- ---- one server of them

module _ (servers : List ServerCell) (s : ℕ) (rule : ServerCell → CellOutcome) where
  servers_none : entry_at servers s ≡ None → (at_server servers s rule (entry_at servers s)).servers ≡ servers
  servers_none at = ap (λ o. (at_server servers s rule o).servers) at

  packets_none : entry_at servers s ≡ None → (at_server servers s rule (entry_at servers s)).packets ≡ []
  packets_none at = ap (λ o. (at_server servers s rule o).packets) at

  servers_one : (cell : ServerCell) (d : CellOutcome) → entry_at servers s ≡ Some cell → rule cell ≡ d → (at_server servers s rule (entry_at servers s)).servers ≡ slice_set servers (s - 1) d.cell
  servers_one cell d at is = ap (λ o. (at_server servers s rule o).servers) at ∙ ap (λ (z : CellOutcome). slice_set servers (s - 1) z.cell) is

  packets_one : (cell : ServerCell) (d : CellOutcome) → entry_at servers s ≡ Some cell → rule cell ≡ d → (at_server servers s rule (entry_at servers s)).packets ≡ d.packets
  packets_one cell d at is = ap (λ o. (at_server servers s rule o).packets) at ∙ ap (λ (z : CellOutcome). z.packets) is

-- who answers so tells that streams are there
abbrev Heard : Packet → ReqNo → Type 0
Heard p q = (is_answerer p.from p.body ≡ true) × TellsBuilt q p.body

module _ (texts : ℕ → Bytes) (b : MapBook) (batch servers : ℕ) (earlier : List ServerEvent) (born : AreBornSo texts batch servers earlier) (stand : Stand texts b batch servers earlier) where
  abbrev sent : List Packet
  sent = sent_by batch servers earlier

  abbrev x : ServerRun
  x = run_of batch servers earlier

  abbrev Ordered : ServerEvent → Type 0
  Ordered event = AllInOrder texts batch servers (event ∷ earlier)

  abbrev Now : ServerEvent → Type 0
  Now event = Stand texts b batch servers (event ∷ earlier)

  -- a packet comes
  takes_now : (s : ℕ) (p : Packet) → Ordered (Takes s p) → IsAnswered b sent (IsBuiltBy earlier) (Takes s p) → Now (Takes s p)
  takes_now s p order answered = go (entry_at x.servers s) refl
    where
      by : (cell : ServerCell) → entry_at x.servers s ≡ Some cell → (state : Option ServerState) → cell.state ≡ state → Now (Takes s p)
      by cell at None up =
          rests_now texts b batch servers (Takes s p) earlier born order stand (λ source range e. absurd cc) s cell at
          (servers_one x.servers s (λ c. cell_takes c p c.state) cell (cell_rests cell) at (ap (cell_takes cell p) up)) (packets_one x.servers s (λ c. cell_takes c p c.state) cell (cell_rests cell) at (ap (cell_takes cell p) up))
      by cell at (Some st) up =
          let o : ServerOutcome = server_rule st p p.body in
          let n : ServerNames (answering b sent s) st = stand.names s cell st at up in
          plain_now texts b batch servers (Takes s p) earlier born order stand (λ source range e. absurd cc) s cell st at up st o
          (servers_one x.servers s (λ c. cell_takes c p c.state) cell (cell_performs cell o) at (ap (cell_takes cell p) up)) (packets_one x.servers s (λ c. cell_takes c p c.state) cell (cell_performs cell o) at (ap (cell_takes cell p) up))
          (taken_names b sent s st n p answered.0) (Heard p)
          (stages_move (Heard p) st o (server_stages (Heard p) (answering b sent s) st n (held_then texts b batch servers (Takes s p) earlier born order stand (λ source range e. absurd cc) s cell st at up) p (λ q may tells. (may, tells))))
          (λ q h list a entry among. answered.1 h.0 q h.1 list a entry among)

      go : (known : Option ServerCell) → entry_at x.servers s ≡ known → Now (Takes s p)
      go None at =
          nobody_now texts b batch servers (Takes s p) earlier born order stand (λ source range e. absurd cc) (servers_none x.servers s (λ c. cell_takes c p c.state) at) (packets_none x.servers s (λ c. cell_takes c p c.state) at)
      go (Some cell) at = by cell at cell.state refl

  -- a server gives up
  gives_up_now : (s range : ℕ) (pick : Nodes) → Ordered (GivesUp s range pick) → Now (GivesUp s range pick)
  gives_up_now s range pick order = go (entry_at x.servers s) refl
    where
      to : (cell : ServerCell) (st : ServerState) (o : Option ServerOutcome) → cell.state ≡ Some st → give_up_rule st range pick ≡ o → cell_gives_up cell range pick cell.state ≡ cell_given_up cell o
      to cell st o up is = ap (cell_gives_up cell range pick) up ∙ ap (cell_given_up cell) is

      given : (cell : ServerCell) (st : ServerState) (at : entry_at x.servers s ≡ Some cell) (up : cell.state ≡ Some st) (o : Option ServerOutcome) → give_up_rule st range pick ≡ o →
          StepIf (answering b sent s) (picked st pick) o → GoesIf (λ q. ⊥) (answering b sent s) (picked st pick) (picked_names (answering b sent s) st pick (stand.names s cell st at up)) (held_then texts b batch servers (GivesUp s range pick) earlier born order stand (λ source other e. absurd cc) s cell st at up) o → Now (GivesUp s range pick)
      given cell st at up None is step go =
          rests_now texts b batch servers (GivesUp s range pick) earlier born order stand (λ source other e. absurd cc) s cell at
          (servers_one x.servers s (λ c. cell_gives_up c range pick c.state) cell (cell_rests cell) at (to cell st None up is)) (packets_one x.servers s (λ c. cell_gives_up c range pick c.state) cell (cell_rests cell) at (to cell st None up is))
      given cell st at up (Some o) is step go =
          plain_now texts b batch servers (GivesUp s range pick) earlier born order stand (λ source other e. absurd cc) s cell st at up (picked st pick) o
          (servers_one x.servers s (λ c. cell_gives_up c range pick c.state) cell (cell_performs cell o) at (to cell st (Some o) up is)) (packets_one x.servers s (λ c. cell_gives_up c range pick c.state) cell (cell_performs cell o) at (to cell st (Some o) up is))
          step (λ q. ⊥) (stages_move (λ q. ⊥) (picked st pick) o go) (λ q none. absurd none)

      by : (cell : ServerCell) → entry_at x.servers s ≡ Some cell → (state : Option ServerState) → cell.state ≡ state → Now (GivesUp s range pick)
      by cell at None up =
          rests_now texts b batch servers (GivesUp s range pick) earlier born order stand (λ source other e. absurd cc) s cell at
          (servers_one x.servers s (λ c. cell_gives_up c range pick c.state) cell (cell_rests cell) at (ap (cell_gives_up cell range pick) up)) (packets_one x.servers s (λ c. cell_gives_up c range pick c.state) cell (cell_rests cell) at (ap (cell_gives_up cell range pick) up))
      by cell at (Some st) up =
          given cell st at up (give_up_rule st range pick) refl (server_gives_up_step (answering b sent s) (answering_laws b sent s) st range pick (stand.names s cell st at up))
          (give_up_stages (λ q. ⊥) (answering b sent s) (picked st pick) (picked_names (answering b sent s) st pick (stand.names s cell st at up)) (held_then texts b batch servers (GivesUp s range pick) earlier born order stand (λ source other e. absurd cc) s cell st at up) range)

      go : (known : Option ServerCell) → entry_at x.servers s ≡ known → Now (GivesUp s range pick)
      go None at =
          nobody_now texts b batch servers (GivesUp s range pick) earlier born order stand (λ source other e. absurd cc) (servers_none x.servers s (λ c. cell_gives_up c range pick c.state) at) (packets_none x.servers s (λ c. cell_gives_up c range pick c.state) at)
      go (Some cell) at = by cell at cell.state refl

  -- a checkpoint is to begin
  checkpoints_now : (s range : ℕ) (combine : Bool) → Ordered (Checkpoints s range combine) → Now (Checkpoints s range combine)
  checkpoints_now s range combine order = go (entry_at x.servers s) refl
    where
      by : (cell : ServerCell) → entry_at x.servers s ≡ Some cell → (state : Option ServerState) → cell.state ≡ state → Now (Checkpoints s range combine)
      by cell at None up =
          rests_now texts b batch servers (Checkpoints s range combine) earlier born order stand (λ source other e. absurd cc) s cell at
          (servers_one x.servers s (λ c. cell_checkpoints c range combine c.state) cell (cell_rests cell) at (ap (cell_checkpoints cell range combine) up))
          (packets_one x.servers s (λ c. cell_checkpoints c range combine c.state) cell (cell_rests cell) at (ap (cell_checkpoints cell range combine) up))
      by cell at (Some st) up =
          let o : ServerOutcome = server_checkpoint st range combine in
          let n : ServerNames (answering b sent s) st = stand.names s cell st at up in
          plain_now texts b batch servers (Checkpoints s range combine) earlier born order stand (λ source other e. absurd cc) s cell st at up st o
          (servers_one x.servers s (λ c. cell_checkpoints c range combine c.state) cell (cell_performs cell o) at (ap (cell_checkpoints cell range combine) up))
          (packets_one x.servers s (λ c. cell_checkpoints c range combine c.state) cell (cell_performs cell o) at (ap (cell_checkpoints cell range combine) up))
          (server_checkpoint_step (answering b sent s) (answering_laws b sent s) st n range combine) (λ q. ⊥)
          (stages_move (λ q. ⊥) st o (checkpoint_stages (λ q. ⊥) (answering b sent s) st n (held_then texts b batch servers (Checkpoints s range combine) earlier born order stand (λ source other e. absurd cc) s cell st at up) range combine)) (λ q none. absurd none)

      go : (known : Option ServerCell) → entry_at x.servers s ≡ known → Now (Checkpoints s range combine)
      go None at =
          nobody_now texts b batch servers (Checkpoints s range combine) earlier born order stand (λ source other e. absurd cc) (servers_none x.servers s (λ c. cell_checkpoints c range combine c.state) at) (packets_none x.servers s (λ c. cell_checkpoints c range combine c.state) at)
      go (Some cell) at = by cell at cell.state refl

  -- a split is to begin
  splits_now : (s range : ℕ) (key : List ℕ) → Ordered (Splits s range key) → Now (Splits s range key)
  splits_now s range key order = go (entry_at x.servers s) refl
    where
      starts : (cell : ServerCell) (st : ServerState) → entry_at x.servers s ≡ Some cell → cell.state ≡ Some st → MayBegin st range key (server_split st range key) → Now (Splits s range key)
      starts cell st at up may =
          stepped_now texts b batch servers (Splits s range key) earlier born order stand (λ source other e. absurd cc) s cell st at up o
          (servers_one x.servers s (λ c. cell_splits c range key c.state) cell (cell_performs cell o) at (ap (cell_splits cell range key) up)) (packets_one x.servers s (λ c. cell_splits c range key c.state) cell (cell_performs cell o) at (ap (cell_splits cell range key) up))
          step.names listed (λ q. ⊥)
          (stages_move (λ q. ⊥) st o (split_stages (λ q. ⊥) (answering b sent s) st n (held_then texts b batch servers (Splits s range key) earlier born order stand (λ source other e. absurd cc) s cell st at up) range key)) (λ q none. absurd none)
          (elim may [
            | inl none ↦ inl (λ q k g z a. absurd (no_packet o.packets none a.packet a.sent))
            | inr begins ↦ inr (range, key, begins)
          ])
        where
          o : ServerOutcome
          o = server_split st range key

          later : List Packet
          later = sent ++ o.packets

          grow : (p : Packet) → Contains sent p → Contains later p
          grow p there = Contains-append_left sent o.packets p there

          n : ServerNames (answering b sent s) st
          n = stand.names s cell st at up

          step : ServerStep (answering b (sent ++ (server_split st range key).packets) s) st (server_split st range key)
          step =
              server_split_step (answering b later s) (answering_laws b later s) st (names_later sent later grow b s st n) range key
              (λ r is. record { packet = begin_packet st.context (new_split st.context r key) (request st.context); sent = Contains-append_right sent o.packets _ (subst (λ l. Contains l (begin_packet st.context (new_split st.context r key) (request st.context))) (sym is) (0, omega arith, refl)); is = refl })

          no_packet : (l : List Packet) → l ≡ [] → (p : Packet) → Contains l p → ⊥
          no_packet [] none p (k, less, is) = omega (arith, less)
          no_packet (z ∷ l) none p there = absurd cc

          listed : (list : List Modify) (q : ReqNo) → AsksForStreams (server_split st range key).packets list q → IsListed b (sent ++ (server_split st range key).packets) list
          listed list q a =
              let l : NamedStreams (answering b later s) list = subst (BodyNames (answering b later s)) a.is (each_has (λ (p : Packet). BodyNames (answering b later s) p.body) o.packets a.packet step.packets a.among) in
              record { job = l.job; is = l.is; numbered = l.split }

      by : (cell : ServerCell) → entry_at x.servers s ≡ Some cell → (state : Option ServerState) → cell.state ≡ state → Now (Splits s range key)
      by cell at None up =
          rests_now texts b batch servers (Splits s range key) earlier born order stand (λ source other e. absurd cc) s cell at
          (servers_one x.servers s (λ c. cell_splits c range key c.state) cell (cell_rests cell) at (ap (cell_splits cell range key) up)) (packets_one x.servers s (λ c. cell_splits c range key c.state) cell (cell_rests cell) at (ap (cell_splits cell range key) up))
      by cell at (Some st) up = starts cell st at up (may_begin st range key)

      go : (known : Option ServerCell) → entry_at x.servers s ≡ known → Now (Splits s range key)
      go None at =
          nobody_now texts b batch servers (Splits s range key) earlier born order stand (λ source other e. absurd cc) (servers_none x.servers s (λ c. cell_splits c range key c.state) at) (packets_none x.servers s (λ c. cell_splits c range key c.state) at)
      go (Some cell) at = by cell at cell.state refl

  -- ---- servers that stop, start or wait

  stops_now : (s call : ℕ) → Ordered (Stops s call) → Now (Stops s call)
  stops_now s call order = go (entry_at x.servers s) refl
    where
      like : (cell : ServerCell) (now : Bool) → IsLike IsAny IsAnyPair x (unmerged batch servers earlier) cell (if now then record cell { state = None } else cell)
      like cell true q e = absurd cc
      like cell false q e = same_cell IsAny IsAnyPair x (unmerged batch servers earlier) cell q e

      go : (known : Option ServerCell) → entry_at x.servers s ≡ known → Now (Stops s call)
      go None at =
          nobody_now texts b batch servers (Stops s call) earlier born order stand (λ source other e. absurd cc) (servers_none x.servers s (λ c. cell_rests (cell_stops call c)) at) (packets_none x.servers s (λ c. cell_rests (cell_stops call c)) at)
      go (Some cell) at =
          quiet_now texts b batch servers (Stops s call) earlier born order stand (λ source other e. absurd cc) (record { servers = slice_set x.servers (s - 1) (cell_stops call cell); packets = []; notes = [] })
          (servers_one x.servers s (λ c. cell_rests (cell_stops call c)) cell (cell_rests (cell_stops call cell)) at refl) (packets_one x.servers s (λ c. cell_rests (cell_stops call c)) cell (cell_rests (cell_stops call cell)) at refl)
          (one_like IsAny IsAnyPair x (unmerged batch servers earlier) s cell at (cell_stops call cell) (like cell (call == 0)))

  starts_now : (s now size : ℕ) → Ordered (Starts s now size) → Now (Starts s now size)
  starts_now s now size order = go (entry_at x.servers s) refl
    where
      like_down : (cell : ServerCell) (may : Bool) → IsLike IsAny IsAnyPair x (unmerged batch servers earlier) cell (if may then record { session = suc cell.session; state = Some (started s (suc cell.session) now first_pick size) } else cell)
      like_down cell true q e = let same : started s (suc cell.session) now first_pick size ≡ q = cc in inl (sym (ap (λ (z : ServerState). z.ranges) same), sym (ap (λ (z : ServerState). z.splits) same))
      like_down cell false q e = same_cell IsAny IsAnyPair x (unmerged batch servers earlier) cell q e

      like : (cell : ServerCell) (o : Option ServerState) → IsLike IsAny IsAnyPair x (unmerged batch servers earlier) cell (cell_starts s now size cell o)
      like cell (Some st) q e = same_cell IsAny IsAnyPair x (unmerged batch servers earlier) cell q e
      like cell None q e = like_down cell (nat_lt (suc cell.session) (2 ^ 64)) q e

      go : (known : Option ServerCell) → entry_at x.servers s ≡ known → Now (Starts s now size)
      go None at =
          nobody_now texts b batch servers (Starts s now size) earlier born order stand (λ source other e. absurd cc) (servers_none x.servers s (λ c. cell_rests (cell_starts s now size c c.state)) at) (packets_none x.servers s (λ c. cell_rests (cell_starts s now size c c.state)) at)
      go (Some cell) at =
          quiet_now texts b batch servers (Starts s now size) earlier born order stand (λ source other e. absurd cc) (record { servers = slice_set x.servers (s - 1) (cell_starts s now size cell cell.state); packets = []; notes = [] })
          (servers_one x.servers s (λ c. cell_rests (cell_starts s now size c c.state)) cell (cell_rests (cell_starts s now size cell cell.state)) at refl)
          (packets_one x.servers s (λ c. cell_rests (cell_starts s now size c c.state)) cell (cell_rests (cell_starts s now size cell cell.state)) at refl)
          (one_like IsAny IsAnyPair x (unmerged batch servers earlier) s cell at (cell_starts s now size cell cell.state) (like cell cell.state))

  moment_now : (now : ℕ) → Ordered (Moment now) → Now (Moment now)
  moment_now now order =
      quiet_now texts b batch servers (Moment now) earlier born order stand (λ source other e. absurd cc) (record { servers = map (told_moment now) x.servers; packets = []; notes = [] }) refl refl
      (moment_like IsAny IsAnyPair x (unmerged batch servers earlier) now)

  -- ---- streams are built

  builds_now : (source range : ℕ) → Now (Builds source range)
  builds_now source range =
      subst (λ (l : List Packet). SplitsStand b l (IsBuiltBy (Builds source range ∷ earlier)) (HadSplit batch servers (Builds source range ∷ earlier)) (run_of batch servers (Builds source range ∷ earlier))) (sym (append-nil sent)) (record {
        names = stand.names;
        jobs = λ s cell st at up k job found. (let j = stand.jobs s cell st at up k job found in record { builds = j.builds; ends = j.ends; waits = j.waits; built = λ l. (let both = j.built l in (inr both.0, inr both.1)) });
        lists = stand.lists;
        ended = λ n g a. (let e = stand.ended n g a in record { job = e.job; range_is = e.range_is; generation_is = e.generation_is; numbered = e.numbered; built = (inr e.built.0, inr e.built.1); ends = e.ends; was = had_since batch servers (Builds source range) earlier n e.job e.was });
        shown = λ q n g key a. shown_on x (run_of batch servers (Builds source range ∷ earlier)) (event_longer x (Builds source range)) n g (stand.shown q n g key a);
        busy = λ q n g key a s r at is. stand.busy q n g key a s r (record { cell = at.cell; state = at.state; there = at.there; runs = at.runs; held = at.held; serves = at.serves }) is;
        keys = stand.keys;
      })

  -- WHATEVER COMES
  pub event_now : (event : ServerEvent) → Ordered event → IsAnswered b sent (IsBuiltBy earlier) event → Now event
  event_now (Takes s p) order answered = takes_now s p order answered
  event_now (GivesUp s range pick) order answered = gives_up_now s range pick order
  event_now (Checkpoints s range combine) order answered = checkpoints_now s range combine order
  event_now (Splits s range key) order answered = splits_now s range key order
  event_now (Stops s call) order answered = stops_now s call order
  event_now (Starts s now size) order answered = starts_now s now size order
  event_now (Moment now) order answered = moment_now now order
  event_now (Builds source range) order answered = builds_now source range

-- ---- at first

nothing_sent : (p : Packet) → Contains [] p → ⊥
nothing_sent p (k, less, is) = omega (arith, less)

pub first_stand : (texts : ℕ → Bytes) (b : MapBook) (batch servers : ℕ) → Stand texts b batch servers []
first_stand texts b batch servers = record {
  names = λ s cell st at up. record {
    ranges = subst (λ l. RangesNamed b [] s l) (sym (bare batch servers s cell st at up)) tt;
    splits = subst (λ l. SplitsNamed b [] s l) (sym (no_splits batch servers s cell st at up)) tt;
    rising = subst IsRising (sym (no_splits batch servers s cell st at up)) tt;
    merges = unmerged batch servers [] s cell at st up;
  };
  jobs = λ s cell st at up k job found. absurd (let z : None ≡ Some job = sym (ap (λ l. split_of l k) (no_splits batch servers s cell st at up)) ∙ found in cc);
  lists = λ list q a. absurd (nothing_sent a.packet a.among);
  ended = λ range g a. absurd (nothing_sent a.packet a.sent);
  shown = λ q range g key a. absurd (nothing_sent a.packet a.sent);
  busy = λ q range g key a. absurd (nothing_sent a.packet a.sent);
  keys = λ q w range g key other a c. absurd (nothing_sent a.packet a.sent);
}
