-- A step of a split, as both streams of its range see it: one that turns neither, one of a rule that the range could do without a split,
-- and one of the metadata's client alone.
use Rattle.std.proofs.Common.{ℕ, suc, ◌≤◌, List, [], ◌∷◌, ◌++◌, Option, Some, None, option_to_list, refl, inl, arith}
use Rattle.wire.specs.declared.packet.Packet.{Packet}
use Rattle.wire.specs.declared.refusal.Refusal.TheVariants as refusals
use Rattle.model_streams.specs.StreamSystem.{StreamSystem}
use Rattle.model_partition.specs.declared.server_context.ServerContext.{ServerContext}
use Rattle.model_partition.specs.declared.split_job.SplitJob.{SplitJob}
use Rattle.model_partition.specs.Range.{RangeState, RangeOutcome, request, waiting_out}
use Rattle.model_partition.specs.Splits.{SplitStep, goes, ends}
use Rattle.model_histories.specs.StreamActions.{StreamAction}
use Rattle.laws_loads.specs.RangeView.{RangeView}
use Rattle.laws_stream_machine.specs.Refinement.{Sent}
use Rattle.laws_ranges.specs.Serves.{Stand, Side, after_turns, sent_with, metadata_of, log_of, AreAsked, Goes, Apart, BothListed, IsSentBy, FollowsIf, AskedOfBoth}
use Rattle.laws_ranges.specs.Seen.{AreSeen, RuleSees}
use Rattle.laws_ranges.specs.SplitJobs.{FollowsBoth, FollowsBothIf, AskedOfSplit, SplitSees}
use Rattle.laws_ranges.proofs.MachineSteps.{purposes_on}
use Rattle.laws_ranges.proofs.LogRules.{asked_if, refused_plain}
use Rattle.laws_ranges.proofs.ServedRules.{unused_on, same_unused, apart_on, asked_of_both}
use Rattle.laws_ranges.proofs.BothStreams.{apart_first, asked_of_metadata}

module _ (generation : ℕ → ℕ) (range : ℕ) (w : StreamSystem) (i : ℕ) where
  -- what a rule of the range asks
  pub asked_widely : (after : Option RangeState) (job : Option SplitJob) (n k : Side) (ps : List Packet) → AskedOfBoth generation range w i after n k ps → AskedOfSplit generation range w i after job n k ps
  asked_widely after job n k [] asked = tt
  asked_widely after job n k (p ∷ ps) asked = ((asked.0.0, asked.0.1, λ q is one two. inl (asked.0.2 q is one two), inl asked.0.3), asked_widely after job n k ps asked.1)

  module _ (both : BothListed w range) (m l : Side) (d : ServerContext) (by : IsSentBy d d.count m.sent l.sent) (v : RangeView) where
    abbrev pub Sees : SplitStep → List StreamAction → Type 0
    Sees t actions = SplitSees generation range w i v m l d t actions

    -- ---- a step that turns neither

    pub still_split : (t : SplitStep) → FollowsBothIf generation range w i t.job t.range m l → d.count ≤ t.count → AskedOfSplit generation range w i t.range t.job m l t.packets → Sees t []
    still_split t then more asked =
        record {
          step = record {
            goes = record {
              metadata_turns = [];
              log_turns = [];
              metadata_allowed = tt;
              log_allowed = tt;
              none = λ e. (refl, refl);
              metadata_sent = m.sent;
              log_sent = l.sent;
              metadata_keeps = λ q z e. e;
              log_keeps = λ q z e. e;
              rises = more;
              metadata_adds = record { number = d.count; from = omega arith; purpose = None; is = refl };
              log_adds = record { number = d.count; from = omega arith; purpose = None; is = refl };
              sent_by = record { apart = by.apart; metadata = λ k le. by.metadata k (omega (arith, le, more)); log = λ k le. by.log k (omega (arith, le, more)) };
              then = then;
              asked = tt;
            };
            asked = asked;
          };
          seen = λ z. z;
        }

    -- what is sent is plain
    pub still_plain : (t : SplitStep) → FollowsBothIf generation range w i t.job t.range m l → d.count ≤ t.count → AreAsked generation range w i (log_of range) l.stand l.sent t.packets → Sees t []
    still_plain t then more asked = still_split t then more (asked_widely t.range t.job m l t.packets (asked_of_both generation range w i both t.range m l by.apart t.packets asked))

    -- the range goes, and its split with it
    pub ends_split : (r : RangeState) → Sees (ends d r) []
    ends_split r = still_plain (ends d r) tt (omega arith) (refused_plain generation range w i (log_of range) l.stand l.sent d (waiting_out r.out ++ r.queue) r.gets refusals.NotOwner)

    -- ---- a rule of the range

    pub rule_split : (o : RangeOutcome) (job : Option SplitJob) (actions : List StreamAction) → RuleSees generation i range w v m l d o actions →
        ((n k : Side) → FollowsIf generation range w i o.after n k → FollowsBothIf generation range w i job o.after n k) → Sees (record { range = o.after; job = job; count = o.count; packets = o.packets }) actions
    rule_split o job actions rule then =
        let g = rule.goes in
        let n : Side = record { stand = after_turns generation i m.stand g.metadata_turns; sent = g.metadata_sent } in
        let k : Side = record { stand = after_turns generation i l.stand g.log_turns; sent = g.log_sent } in
        record {
          step = record {
            goes = record {
              metadata_turns = g.metadata_turns;
              log_turns = g.log_turns;
              metadata_allowed = g.metadata_allowed;
              log_allowed = g.log_allowed;
              none = g.none;
              metadata_sent = g.metadata_sent;
              log_sent = g.log_sent;
              metadata_keeps = g.metadata_keeps;
              log_keeps = g.log_keeps;
              rises = g.rises;
              metadata_adds = g.metadata_adds;
              log_adds = g.log_adds;
              sent_by = g.sent_by;
              then = then n k g.then;
              asked = tt;
            };
            asked = asked_widely o.after job n k o.packets g.asked;
          };
          seen = rule.seen;
        }

    -- ---- a step of one client, with the next number

    module _ (after : RangeState) (job : SplitJob) (p : Option Packet) (Then : Stand → List Sent → Type 0) (actions : List StreamAction) where
      pub metadata_split : (went : Goes generation (metadata_of range) w i m.stand m.sent (request d) Then p) →
          FollowsBoth generation range w i (Some job) after (record { stand = after_turns generation i m.stand went.list; sent = sent_with (request d) went.purpose m.sent }) l →
          AreSeen generation i v m.stand l.stand went.list [] actions → Sees (goes d after job (option_to_list p)) actions
      metadata_split went then seen =
          let sent : List Sent = sent_with (request d) went.purpose m.sent in
          let n : Side = record { stand = after_turns generation i m.stand went.list; sent = sent } in
          let apart : Apart sent l.sent = apart_first m.sent l.sent (request d) went.purpose by.apart (by.log d.count (omega arith)) in
          record {
            step = record {
              goes = record {
                metadata_turns = went.list;
                log_turns = [];
                metadata_allowed = went.allowed;
                log_allowed = tt;
                none = λ e. absurd cc;
                metadata_sent = sent;
                log_sent = l.sent;
                metadata_keeps = purposes_on (request d) went.purpose m.sent (by.metadata d.count (omega arith));
                log_keeps = λ q z e. e;
                rises = omega arith;
                metadata_adds = record { number = d.count; from = omega arith; purpose = went.purpose; is = refl };
                log_adds = record { number = d.count; from = omega arith; purpose = None; is = refl };
                sent_by = record { apart = apart; metadata = unused_on d (suc d.count) went.purpose m.sent by.metadata (inl refl); log = same_unused d (suc d.count) went.purpose l.sent by.log (inl refl) };
                then = then;
                asked = tt;
              };
              asked = asked_widely (Some after) (Some job) n l (option_to_list p)
                  (asked_of_metadata generation range w i both (Some after) n l apart (option_to_list p) (asked_if generation range w i (metadata_of range) n.stand n.sent p went.asked));
            };
            seen = seen;
          }

      pub log_split : (went : Goes generation (log_of range) w i l.stand l.sent (request d) Then p) →
          FollowsBoth generation range w i (Some job) after m (record { stand = after_turns generation i l.stand went.list; sent = sent_with (request d) went.purpose l.sent }) →
          AreSeen generation i v m.stand l.stand [] went.list actions → Sees (goes d after job (option_to_list p)) actions
      log_split went then seen =
          let sent : List Sent = sent_with (request d) went.purpose l.sent in
          let k : Side = record { stand = after_turns generation i l.stand went.list; sent = sent } in
          let apart : Apart m.sent sent = apart_on m.sent l.sent (request d) went.purpose by.apart (by.metadata d.count (omega arith)) in
          record {
            step = record {
              goes = record {
                metadata_turns = [];
                log_turns = went.list;
                metadata_allowed = tt;
                log_allowed = went.allowed;
                none = λ e. absurd cc;
                metadata_sent = m.sent;
                log_sent = sent;
                metadata_keeps = λ q z e. e;
                log_keeps = purposes_on (request d) went.purpose l.sent (by.log d.count (omega arith));
                rises = omega arith;
                metadata_adds = record { number = d.count; from = omega arith; purpose = None; is = refl };
                log_adds = record { number = d.count; from = omega arith; purpose = went.purpose; is = refl };
                sent_by = record { apart = apart; metadata = same_unused d (suc d.count) went.purpose m.sent by.metadata (inl refl); log = unused_on d (suc d.count) went.purpose l.sent by.log (inl refl) };
                then = then;
                asked = tt;
              };
              asked = asked_widely (Some after) (Some job) m k (option_to_list p)
                  (asked_of_both generation range w i both (Some after) m k apart (option_to_list p) (asked_if generation range w i (log_of range) k.stand k.sent p went.asked));
            };
            seen = seen;
          }
