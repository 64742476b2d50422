-- A range that is served is where both of its streams have it, and so are its row data and what its log may be trimmed to.
use Rattle.std.proofs.Common.{◌≡◌, ℕ, ◌≤◌, true, false, Option, Some, None, List, [], sym, ap, ◌∙◌, subst}
use Rattle.wire.specs.declared.packet.Packet.{Packet}
use Rattle.model_streams.specs.StreamSystem.{StreamSystem}
use Rattle.model_partition.specs.declared.server_context.ServerContext.{ServerContext}
use Rattle.model_partition.specs.declared.stage.Stage.TheVariants as stages
use Rattle.model_partition.specs.Range.{RangeState, RangeOutcome, is_serving}
use Rattle.model_histories.specs.StreamActions.{StreamAction}
use Rattle.laws_stream_machine.specs.Refinement.{Sent}
use Rattle.laws_loads.specs.RangeView.{RangeView}
use Rattle.laws_ranges.specs.Serves.{Side, RowsStand, BeginsInLog, TrimsJob, StageIs, IsServing, Follows, FollowsIf, IsPastRows, BothListed, IsSentBy, AskedOfBoth}
use Rattle.laws_ranges.specs.Quiet.{GoesQuietly}
use Rattle.laws_ranges.specs.Seen.{RuleSees}
use Rattle.laws_ranges.specs.Records.{ServesBoth, ServesBothIf, ServedRule}
use Rattle.laws_ranges.proofs.RowData.{rows_kept}
use Rattle.laws_ranges.proofs.KeptRows.{KeepsRowsIf}
use Rattle.laws_ranges.proofs.SeenTurns.{seen_of_both}
use Rattle.laws_ranges.proofs.BothStreams.{still_asked}

module _ (generation : ℕ → ℕ) (range : ℕ) (w : StreamSystem) (i : ℕ) where
  -- a range that is served, besides both of its streams
  pub record RestStands (m l : List Sent) (r : RangeState) : Type 0 where
    pub rows : RowsStand range w m l r.rows
    pub position : BeginsInLog r.log r.position
    pub trims : TrimsJob r.log r.control

  abbrev pub RestIf : List Sent → List Sent → Option RangeState → Type 0
  RestIf m l None = Unit {0}
  RestIf m l (Some r) = RestStands m l r

  whole_if : (n k : Side) (o : Option RangeState) → ServesBothIf generation range w i o n k → RestIf n.sent k.sent o → FollowsIf generation range w i o n k
  whole_if n k None b rest = tt
  whole_if n k (Some r) b rest =
      let serving : IsServing generation range w i n k r = record {
        phase = b.phase;
        metadata = b.metadata.client;
        record_is = b.metadata.record_is;
        log = b.log.client;
        out = b.log.out;
        position = rest.position;
        trims = rest.trims;
      } in
      record {
        range_is = b.log.range_is;
        under = b.log.under;
        calm = λ u. absurd (let z : true ≡ false = sym (ap is_serving b.log.stage) ∙ u in cc);
        rows = rest.rows;
        stage = subst (λ z. StageIs generation range w i n k r z) (sym b.log.stage) serving;
      }

  module _ (m l : Side) (r : RangeState) (f : Follows generation range w i m l r) (stage : r.stage ≡ stages.Serving) where
    pub is_served : IsServing generation range w i m l r
    is_served = subst (λ z. StageIs generation range w i m l r z) stage f.stage

    pub served_both : ServesBoth generation range w i m l r
    served_both = record {
      phase = is_served.phase;
      metadata = record { range_is = f.range_is; under = f.under; client = is_served.metadata; record_is = is_served.record_is; stage = stage };
      log = record { range_is = f.range_is; under = f.under; client = is_served.log; out = is_served.out; stage = stage };
    }

    pub served_rest : RestStands m.sent l.sent r
    served_rest = record { rows = f.rows; position = is_served.position; trims = is_served.trims }

  module _ (m l : Side) (d : ServerContext) where
    -- a rule that does so to both streams, and leaves the rest so
    pub whole_sees : (v : RangeView) (o : RangeOutcome) (done : List StreamAction) (rule : ServedRule generation range w i v m l d o done) → RestIf rule.goes.metadata_sent rule.goes.log_sent o.after → RuleSees generation i range w v m l d o done
    whole_sees v o done rule rest =
        record {
          goes = record {
            metadata_turns = rule.goes.metadata_turns;
            log_turns = rule.goes.log_turns;
            metadata_allowed = rule.goes.metadata_allowed;
            log_allowed = rule.goes.log_allowed;
            none = rule.goes.none;
            metadata_sent = rule.goes.metadata_sent;
            log_sent = rule.goes.log_sent;
            metadata_keeps = rule.goes.metadata_keeps;
            log_keeps = rule.goes.log_keeps;
            rises = rule.goes.rises;
            metadata_adds = rule.goes.metadata_adds;
            log_adds = rule.goes.log_adds;
            sent_by = rule.goes.sent_by;
            then = whole_if _ _ o.after rule.goes.then rest;
            asked = rule.goes.asked;
          };
          seen = seen_of_both generation i v m.stand l.stand rule.goes.metadata_turns rule.goes.log_turns done rule.metadata rule.log;
        }

    -- a step that turns neither
    pub still_whole : BothListed w range → IsSentBy d d.count m.sent l.sent → (after : RangeState) (count : ℕ) (packets : List Packet) → ServesBoth generation range w i m l after → RestStands m.sent l.sent after → d.count ≤ count →
        AskedOfBoth generation range w i (Some after) m l packets → GoesQuietly generation range w i m l d (record { after = Some after; count = count; packets = packets; notes = [] })
    still_whole both by after count packets b rest more asked = still_asked generation range w i both m l d by (Some after) count packets (whole_if m l (Some after) b rest) more asked

  -- ---- a rule that leaves row data as it was

  module _ (m l : Side) (d : ServerContext) (r : RangeState) (rows : RowsStand range w m.sent l.sent r.rows) (past : IsPastRows d r) where
    rest_kept : (v : RangeView) (o : RangeOutcome) (done : List StreamAction) (rule : ServedRule generation range w i v m l d o done) (after : Option RangeState) → KeepsRowsIf r after → RestIf rule.goes.metadata_sent rule.goes.log_sent after
    rest_kept v o done rule None k = tt
    rest_kept v o done rule (Some after) k =
        record {
          rows = subst (λ c. RowsStand range w rule.goes.metadata_sent rule.goes.log_sent c) (sym k.rows)
              (rows_kept range w m.sent l.sent rule.goes.metadata_sent rule.goes.log_sent d rule.goes.metadata_adds rule.goes.log_adds r.rows past rows);
          position = k.position;
          trims = k.trims;
        }

    pub kept_sees : (v : RangeView) (o : RangeOutcome) (done : List StreamAction) → ServedRule generation range w i v m l d o done → KeepsRowsIf r o.after → RuleSees generation i range w v m l d o done
    kept_sees v o done rule k = whole_sees m l d v o done rule (rest_kept v o done rule o.after k)
