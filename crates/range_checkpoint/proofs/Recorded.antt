-- Answers to the metadata's client of a range that is served.
use Rattle.std.proofs.Common.{◌≡◌, ℕ, Bool, true, false, [], Option, Some, None, refl, sym, ap, ◌∙◌}
use Rattle.std.specs.Prelude.{◌&&◌, is_some, option_to_list}
use Rattle.wire.specs.declared.body.Body.{Body}
use Rattle.client.specs.declared.job.News.TheVariants as news
use Rattle.client.specs.Client.{ClientState, Outcome, ends, needs_memory, reply_rule}
use Rattle.model_partition.specs.declared.checkpoint_job.CheckpointPhase.{CheckpointPhase}
use Rattle.model_partition.specs.declared.checkpoint_job.CheckpointPhase.TheVariants as phases
use Rattle.model_partition.specs.declared.server_context.ServerContext.{ServerContext}
use Rattle.model_partition.specs.CheckpointStates.{CheckpointState, is_recording}
use Rattle.model_partition.specs.Range.{RangeState, request, goes, picking, is_serving}
use Rattle.model_partition.specs.Answering.{metadata_reply}
use Rattle.model_partition.specs.Checkpoints.{record_stands, record_told}
use Rattle.range_checkpoint.specs.declared.record_answers.Recorded.{Recorded}
use Rattle.range_checkpoint.specs.Records.{goes_on, installs, installs_in, is_record_out, is_recorded, metadata_reaction, recorded_of}
use Rattle.range_checkpoint.specs.Steps.{appended, stays}
use Rattle.range_checkpoint.proofs.Stood.{no_memory, phase_recorded, stood}
use Rattle.range_checkpoint.proofs.Told.{record_other}

-- ---- the record stands

installs_so : (d : ServerContext) (r : RangeState) (job : Option CheckpointState) → installs_in d r job ≡ goes_on d r (recorded_of r.said job)
installs_so d r None = refl
installs_so d r (Some job) = phase_recorded d r job job.phase

-- what the record leaves is there, and the log is to be trimmed
pub installs_left : (d : ServerContext) (r : RangeState) (body : Body) (x : Option Recorded) → recorded_of r.said r.control ≡ x →
    installs d r body ≡ goes_on d (record r { metadata = (metadata_reaction d r.metadata body).after }) x
installs_left d r body x left =
    let after : ClientState = (metadata_reaction d r.metadata body).after in
    installs_so d (record r { metadata = after }) r.control ∙ ap (goes_on d (record r { metadata = after })) left

-- the answer that says so
both : (a b : Bool) → (a && b) ≡ true → b ≡ true
both true b is = is
both false b is = absurd cc

answer_there : (c : ClientState) (control : Option CheckpointState) (body : Body) → is_recorded c control body ≡ true → is_some (appended c body) ≡ true
answer_there c control body is = both (is_record_out control) (is_some (appended c body)) is

pub recorded_no_memory : (c : ClientState) (control : Option CheckpointState) (body : Body) → is_recorded c control body ≡ true → needs_memory body ≡ false
recorded_no_memory c control body is = by (appended c body) refl (answer_there c control body is)
  where
    by : (x : Option (ℕ × ℕ)) → appended c body ≡ x → is_some x ≡ true → needs_memory body ≡ false
    by None there some = absurd cc
    by (Some x) there some = no_memory c body x there

told_installs : (d : ServerContext) (r : RangeState) (job : Option CheckpointState) (e o : ℕ) → record_told d r job (Some (news.Appended e o)) [] ≡ installs_in d r job
told_installs d r None e o = refl
told_installs d r (Some job) e o = refl

-- what the range does with it
pub reply_installs : (d : ServerContext) (r : RangeState) (body : Body) → is_serving r.stage ≡ true → is_recorded r.metadata r.control body ≡ true → metadata_reply d r body ≡ installs d r body
reply_installs d r body serving is = by (appended r.metadata body) refl (answer_there r.metadata r.control body is)
  where
    by : (x : Option (ℕ × ℕ)) → appended r.metadata body ≡ x → is_some x ≡ true → metadata_reply d r body ≡ installs d r body
    by None there some = absurd cc
    by (Some x) there some =
        let before : Outcome = reply_rule (picking d r.metadata) (request d) body in
        let now : RangeState = record r { metadata = before.after } in
        rw serving (ap (λ (z : Outcome). record_told d now r.control z.news (option_to_list z.packet)) (stood (picking d r.metadata) (request d) body x.0 x.1 there)
        ∙ told_installs d now r.control x.0 x.1)

-- ---- another answer

rests : (d : ServerContext) (r : RangeState) (job : CheckpointState) (phase : CheckpointPhase) → is_recording phase ≡ false → record_stands d r job phase ≡ goes d r [] []
rests d r job (phases.Record index) none = absurd cc
rests d r job phases.Combining none = refl
rests d r job phases.Pages none = refl
rests d r job phases.Index none = refl
rests d r job (phases.Trim before to_blob q) none = refl

none_out : (d : ServerContext) (r : RangeState) (job : Option CheckpointState) (e o : ℕ) → is_record_out job ≡ false → record_told d r job (Some (news.Appended e o)) [] ≡ goes d r [] []
none_out d r None e o none = refl
none_out d r (Some job) e o none = rests d r job job.phase none

not_both : (a b : Bool) → b ≡ true → (a && b) ≡ false → a ≡ false
not_both true b there none = sym there ∙ none
not_both false b there none = refl

pub record_others : (d : ServerContext) (r : RangeState) (body : Body) (o : Outcome) → is_serving r.stage ≡ true → is_recorded r.metadata r.control body ≡ false → reply_rule (picking d r.metadata) (request d) body ≡ o →
    metadata_reply d r body ≡ stays d (record r { metadata = o.after }) o.news (option_to_list o.packet)
record_others d r body o serving other is = by (appended r.metadata body) refl
  where
    by : (x : Option (ℕ × ℕ)) → appended r.metadata body ≡ x → metadata_reply d r body ≡ stays d (record r { metadata = o.after }) o.news (option_to_list o.packet)
    by None there = record_other d r body o serving there is
    by (Some x) there =
        let c : ClientState = picking d r.metadata in
        let out : is_record_out r.control ≡ false = not_both (is_record_out r.control) (is_some (appended r.metadata body)) (ap (λ (y : Option (ℕ × ℕ)). is_some y) there) other in
        let ended : reply_rule c (request d) body ≡ ends c (news.Appended x.0 x.1) = stood c (request d) body x.0 x.1 there in
        rw serving (ap (λ (z : Outcome). record_told d (record r { metadata = z.after }) r.control z.news (option_to_list z.packet)) ended
        ∙ none_out d (record r { metadata = (ends c (news.Appended x.0 x.1)).after }) r.control x.0 x.1 out
        ∙ ap (λ (z : Outcome). stays d (record r { metadata = z.after }) z.news (option_to_list z.packet)) (sym ended ∙ is))
