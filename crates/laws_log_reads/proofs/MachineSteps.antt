-- What was read stays read while the machines of both streams go on.
use Rattle.std.proofs.Common.{ℕ, List, [], Option, None, refl, Contains}
use Rattle.wire.specs.declared.actor.ReqNo.TheVariants as requests
use Rattle.wire.specs.declared.note.Note.{Note}
use Rattle.wire.specs.declared.streams.StreamName.{StreamName}
use Rattle.replica.specs.Groups.{Group}
use Rattle.model_streams.specs.StreamSystem.{StreamSystem}
use Rattle.model_partition.specs.Range.{RangeState}
use Rattle.model_histories.specs.ServerRun.{RangeHistory}
use Rattle.model_histories.specs.StreamMachine as machine
use Rattle.model_histories.specs.ServerTurns as turns
use Rattle.laws_stream_machine.specs.Refinement.{Sent}
use Rattle.laws_ranges.specs.Serves.{Stand, Wider, after_turns, metadata_of, log_of}
use Rattle.laws_ranges.proofs.MachineSteps.{wider_turns}
use Rattle.laws_log_reads.specs.Reads.{HasReadIf, Grown, BothGrown}
use Rattle.laws_log_reads.proofs.MoreKnown.{has_read_if_on}

-- ---- what grows

pub grown_wider : (name : StreamName) (w v : StreamSystem) (s t : machine.MachineState Group) (sent more : List Sent) → Wider name w v s t sent more → Grown name w v s t
grown_wider name w v s t sent more g = record { facts = g.facts; shut = g.shut; extents = g.extents }

pub both_wider : (range : ℕ) (w v : StreamSystem) (m n l k : machine.MachineState Group) (m_sent m_more l_sent l_more : List Sent) → Wider (metadata_of range) w v m n m_sent m_more →
    Wider (log_of range) w v l k l_sent l_more → ((note : Note) → Contains w.notes note → Contains v.notes note) → BothGrown range w v m n l k
both_wider range w v m n l k m_sent m_more l_sent l_more one two notes =
    record { metadata = grown_wider (metadata_of range) w v m n m_sent m_more one; log = grown_wider (log_of range) w v l k l_sent l_more two; notes = notes }

-- the incarnation's own turns
pub grown_turns : (generation : ℕ → ℕ) (name : StreamName) (w : StreamSystem) (i : ℕ) (x : Stand) (ts : List (turns.Turn Group)) → Grown name w w x.state (after_turns generation i x ts).state
grown_turns generation name w i x ts =
    grown_wider name w w x.state (after_turns generation i x ts).state [] [] (wider_turns generation i name w x ts [] requests.NoRequest None refl)

pub left_turned : (generation : ℕ → ℕ) (range : ℕ) (w : StreamSystem) (i : ℕ) (x y : Stand) (ts us : List (turns.Turn Group)) (h : RangeHistory) (o : Option RangeState) →
    HasReadIf range w i x.state y.state h o → HasReadIf range w i (after_turns generation i x ts).state (after_turns generation i y us).state h o
left_turned generation range w i x y ts us h o b =
    has_read_if_on range w w i x.state (after_turns generation i x ts).state y.state (after_turns generation i y us).state
    (record { metadata = grown_turns generation (metadata_of range) w i x ts; log = grown_turns generation (log_of range) w i y us; notes = λ note there. there }) h o b
