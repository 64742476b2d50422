-- What a record and a Trim leave.
use Rattle.std.proofs.Common.{◌≡◌, ℕ, suc, ◌<◌, ◌^◌, Bool, true, false, [], ◌∷◌, ◌++◌, length, Option, Some, None, refl, sym, ap, ◌∙◌, arith}
use Rattle.std.specs.Prelude.{◌&&◌, nat_lt}
use Rattle.std.proofs.lemmas.List.{length-append}
use Rattle.std.proofs.lemmas.Bool.{ltb-true, and_parts}
use Rattle.wire.specs.declared.actor.ReqNo.{ReqNo}
use Rattle.wire.specs.declared.body.StreamBody.TheVariants as streams
use Rattle.wire.specs.declared.packet.Packet.{Packet}
use Rattle.streams.specs.declared.table.Position.{Position}
use Rattle.memtable.specs.declared.cell.Place.{Place}
use Rattle.metadata.specs.declared.record.MetaItem.TheVariants.{Checkpoint}
use Rattle.blocks.specs.Record.{number}
use Rattle.blocks.proofs.Formats.{length-number}
use Rattle.metadata.specs.Record.{spelling, flag, place, position as start}
use Rattle.checkpoint_format.specs.Index.{fits_a_group}
use Rattle.checkpoint.specs.PageGroups.{PagesState, next_group, with_next_placed}
use Rattle.model_partition.specs.declared.checkpoint_job.CheckpointPhase.{CheckpointPhase}
use Rattle.model_partition.specs.declared.checkpoint_job.CheckpointPhase.TheVariants as phases
use Rattle.model_partition.specs.declared.server_context.ServerContext.{ServerContext}
use Rattle.model_partition.specs.CheckpointStates.{CheckpointState, last_job}
use Rattle.model_partition.specs.Range.{RangeState, request, answers, goes}
use Rattle.model_partition.specs.Checkpoints.{have_places, next_append, pages_stand, with_phase, trim_again, trim_index, trim_packet, trim_reply_in, trim_told, trimmed, trims}
use Rattle.range_checkpoint.specs.Steps.{may_record_at, with_rows}
use Rattle.range_checkpoint.specs.declared.row_answers.NextStep.TheVariants.{Rows}
use Rattle.model_partition.specs.Loading.{Group}
use Rattle.range_checkpoint.specs.Trims.{trim_in, trim_out}

-- the number of bytes of a checkpoint's record
flag_size : (b : Bool) → length (flag b) ≡ 1
flag_size true = length-number 1 1
flag_size false = length-number 1 0

pub record_size : (n : ℕ) (combine : Bool) (at : Place) (position : Position) (next : ℕ) → length (spelling (record { number = n; item = Checkpoint combine at position next })) ≡ 46
record_size n combine at position next =
    omega (
      arith,
      length-append (number 8 n) (number 1 2 ++ (flag combine ++ (place at ++ (start position ++ number 8 next)))),
      length-number 8 n,
      length-append (number 1 2) (flag combine ++ (place at ++ (start position ++ number 8 next))),
      length-number 1 2,
      length-append (flag combine) (place at ++ (start position ++ number 8 next)),
      flag_size combine,
      length-append (place at) (start position ++ number 8 next),
      length-append (number 8 at.extent) (number 4 at.offset ++ number 4 at.length),
      length-number 8 at.extent,
      length-append (number 4 at.offset) (number 4 at.length),
      length-number 4 at.offset,
      length-number 4 at.length,
      length-append (start position) (number 8 next),
      length-append (number 8 position.index) (number 4 position.offset),
      length-number 8 position.index,
      length-number 4 position.offset,
      length-number 8 next,
    )

pub may_parts : (number : ℕ) (job : CheckpointState) → may_record_at number job ≡ true → (fits_a_group job.pages.index ≡ true) × (suc number < 2 ^ 64) × (0 < number) × (0 < job.next)
may_parts number job e =
    let a = and_parts (fits_a_group job.pages.index) (nat_lt (suc number) (2 ^ 64) && (nat_lt 0 number && nat_lt 0 job.next)) e in
    let b = and_parts (nat_lt (suc number) (2 ^ 64)) (nat_lt 0 number && nat_lt 0 job.next) a.1 in
    let c = and_parts (nat_lt 0 number) (nat_lt 0 job.next) b.1 in
    (a.0, ltb-true _ _ b.0, ltb-true _ _ c.0, ltb-true _ _ c.1)

-- ---- the Trim

abbrev phase_or : CheckpointPhase → Option (ℕ × Bool × ReqNo) → CheckpointPhase
phase_or other None = other
phase_or other (Some x) = phases.Trim x.0 x.1 x.2

out_in : (phase : CheckpointPhase) (x : ℕ × Bool × ReqNo) → trim_in phase ≡ Some x → phase ≡ phases.Trim x.0 x.1 x.2
out_in (phases.Trim before to_blob q) x is = ap (phase_or (phases.Trim before to_blob q)) is
out_in phases.Combining x is = absurd cc
out_in phases.Pages x is = absurd cc
out_in phases.Index x is = absurd cc
out_in (phases.Record index) x is = absurd cc

pub again_some : (d : ServerContext) (r : RangeState) (control : Option CheckpointState) (x : ℕ × Bool × ReqNo) → trim_out control ≡ Some x → trim_again d r control ≡ trim_packet d r x.0 x.1 x.2 ∷ []
again_some d r None x is = absurd cc
again_some d r (Some job) x is = rw (out_in job.phase x is) refl

pub told_none : (d : ServerContext) (r : RangeState) (control : Option CheckpointState) (w : ReqNo) → trim_out control ≡ None → trim_reply_in d r control (streams.Trimmed w) ≡ answers d r []
told_none d r None w is = refl
told_none d r (Some job) w is = by job.phase is
  where
    by : (phase : CheckpointPhase) → trim_in phase ≡ None → trim_told d r phase (streams.Trimmed w) ≡ answers d r []
    by (phases.Trim before to_blob q) is = absurd cc
    by phases.Combining is = refl
    by phases.Pages is = refl
    by phases.Index is = refl
    by (phases.Record index) is = refl

pub told_some : (d : ServerContext) (r : RangeState) (control : Option CheckpointState) (w : ReqNo) (x : ℕ × Bool × ReqNo) → trim_out control ≡ Some x → trim_reply_in d r control (streams.Trimmed w) ≡ answers d (trimmed r x.0 x.1) []
told_some d r None w x is = absurd cc
told_some d r (Some job) w x is = rw (out_in job.phase x is) refl

pub trims_are : (d : ServerContext) (r : RangeState) (job : CheckpointState) (position : Position) (next before : ℕ) (to_blob : Bool) (q : ReqNo) (packet : Packet) → job.position ≡ position → job.next ≡ next →
    before ≡ trim_index r.log position → to_blob ≡ have_places r.indexes → q ≡ request d → packet ≡ trim_packet d r before to_blob q →
    trims d r job ≡ goes d (record r { control = Some (last_job position next (phases.Trim before to_blob q)) }) (packet ∷ []) []
trims_are d r job position next before to_blob q packet noted number index blob own is = rw (is, own, blob, index, sym noted, sym number) refl

-- ---- a group of pages

pub group_goes : (job : CheckpointState) (e o : ℕ) (pages : PagesState) (phase : CheckpointPhase) (blocks : Option Group) → pages ≡ with_next_placed job.pages e o →
    ((j : CheckpointState) → j.pages ≡ pages → next_append j (next_group pages) ≡ (with_phase j phase, blocks)) →
    with_rows (next_append (pages_stand job e o) (next_group (with_next_placed job.pages e o))) ≡ (record { position = job.position; next = job.next; combine = job.combine; merge = job.merge; pages = pages; phase = phase }, Rows blocks)
group_goes job e o pages phase blocks placed next =
    ap (λ (p : PagesState). with_rows (next_append (record job { pages = p }) (next_group p))) (sym placed)
    ∙ ap with_rows (next (record job { pages = pages }) refl)
