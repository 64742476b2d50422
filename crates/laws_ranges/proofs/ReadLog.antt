-- The log of a range is read extent by extent, and then its indexes, as both streams see it.
use Rattle.std.proofs.Common.{◌≡◌, ℕ, suc, List, length, Bool, true, false, nat_lt, arith, if◌then◌else◌, ◌+◌, ◌^◌, Option, Some, None}
use Rattle.wire.specs.declared.streams.StreamKind.TheVariants as kinds
use Rattle.client.specs.declared.load.LoadPhase.TheVariants as phases
use Rattle.client.specs.Client.{Outcome}
use Rattle.model_streams.specs.StreamSystem.{StreamSystem}
use Rattle.model_partition.specs.declared.server_context.ServerContext.{ServerContext}
use Rattle.model_partition.specs.declared.stage.Stage.TheVariants as stages
use Rattle.model_partition.specs.Range.{RangeState, dropped, picking, request}
use Rattle.model_partition.specs.Loading.{Group, read_of, log_goes, reads_index, reads_log, reads_log_from, replays, replayed, log_read}
use Rattle.laws_ranges.specs.Serves.{Side, log_of, LoadingIs, Goes, BothListed, IsSentBy, RuleGoes}
use Rattle.laws_ranges.proofs.RowData.{rows_idle}
use Rattle.laws_ranges.proofs.BothStreamsAtOnce.{AllRead}
use Rattle.laws_ranges.proofs.ReadIndexes.{reads_index_both}
use Rattle.laws_ranges.proofs.ServerPick.{reading_goes}
use Rattle.laws_ranges.proofs.BothStreams.{log_step}
use Rattle.laws_ranges.proofs.Confirmed.{dropped_both}
use Rattle.metadata.specs.declared.record.Region.{Region}
use Rattle.memtable.specs.Entries.{Entries}

module _ (generation : ℕ → ℕ) (range : ℕ) (w : StreamSystem) (i : ℕ) (both : BothListed w range) (m l : Side) (d : ServerContext) (by : IsSentBy d d.count m.sent l.sent) where
  -- the next extent is read, or all is read
  pub reads_log_both : (r : RangeState) → AllRead generation range w i m l d by r → r.load.phase ≡ phases.Opened → (position : ℕ) → RuleGoes generation range w i m l d (reads_log d r position)
  reads_log_both r b opened position = go (nat_lt position (length r.log.extents))
    where
      o : Outcome
      o = read_of d (picking d r.log) position

      went : Goes generation (log_of range) w i l.stand l.sent (request d) (λ y more. LoadingIs generation (log_of range) w i y more o.after) o.packet
      went = reading_goes generation (log_of range) w i both.log l.sent d (by.log d.count (omega arith)) l.stand r.log b.log b.log_idle position

      go : (t : Bool) → RuleGoes generation range w i m l d (if t then log_goes d r (stages.Reading kinds.Log position) (read_of d (picking d r.log) position) else reads_index d r 0)
      go true =
          log_step generation range w i both m l d by (record r { stage = stages.Reading kinds.Log position; log = o.after }) o.packet _ went
          (record { range_is = b.range_is; under = b.under; calm = λ u. b.calm; rows = rows_idle range w m.sent l.sent _ _ r.rows b.calm.0 b.rows; stage = record { phase = opened; metadata = b.metadata; metadata_idle = b.metadata_idle; log = went.then } })
      go false = reads_index_both generation range w i both m l d by r b opened 0

  -- the log is read from a position, or the range is dropped where there is none
  pub reads_log_from_both : (r : RangeState) → AllRead generation range w i m l d by r → r.load.phase ≡ phases.Opened → (o : Option ℕ) → RuleGoes generation range w i m l d (reads_log_from d r o)
  reads_log_from_both r b opened None = dropped_both generation range w i both m l d by r
  reads_log_from_both r b opened (Some position) = reads_log_both r b opened position

  replays_both : (r : RangeState) → AllRead generation range w i m l d by r → r.load.phase ≡ phases.Opened → (position : ℕ) (o : Option (List Region × Entries)) → RuleGoes generation range w i m l d (replays d r position o)
  replays_both r b opened position None = dropped_both generation range w i both m l d by r
  replays_both r b opened position (Some x) =
      reads_log_both (record r { regions = x.0; live = x.1 })
      (record { range_is = b.range_is; under = b.under; calm = b.calm; rows = b.rows; metadata = b.metadata; metadata_idle = b.metadata_idle; log = b.log; log_idle = b.log_idle }) opened (suc position)

  -- groups of the log were read: they are replayed, and the next extent is read
  pub log_read_both : (r : RangeState) → AllRead generation range w i m l d by r → r.load.phase ≡ phases.Opened → (position e : ℕ) (groups : List Group) → RuleGoes generation range w i m l d (log_read d r position e groups)
  log_read_both r b opened position e groups = go (nat_lt (r.log.base + position) (2 ^ 64))
    where
      go : (t : Bool) → RuleGoes generation range w i m l d
          (if t then replays d r position (replayed r.said.keys e (record { index = r.log.base + position; offset = 0 }) (r.regions, r.live) groups) else dropped d r)
      go true = replays_both r b opened position (replayed r.said.keys e (record { index = r.log.base + position; offset = 0 }) (r.regions, r.live) groups)
      go false = dropped_both generation range w i both m l d by r
