-- What a script prints.
use Rattle.std.specs.Prelude.{◌≡◌, ℕ, List, [], ◌∷◌, ◌++◌, drop, length, Option, Some, None, option_map}
use Rattle.std.specs.Io.KnownBytes.{Appends}
use Rattle.wire.specs.declared.note.Note.{Note}
use Rattle.wire.specs.declared.refusal.Refusal.{Refusal}
use Rattle.replica.specs.declared.phase.Phase.{Phase}
use Rattle.replica.specs.declared.phase.Phase.TheVariants as phases
use Rattle.replica.specs.Content.{Content}
use Rattle.replica.specs.Groups.{text_length}
use Rattle.model_streams.specs.declared.event.Event.{Event}
use Rattle.model_streams.specs.Node.{contents}
use Rattle.enode.specs.Node.{find}
use Rattle.world_nodes.specs.Seen.{NodeSeen}
use Rattle.script_reports.specs.declared.report.Report.{Report}
use Rattle.script_reports.specs.declared.report.Report.TheVariants.{Refused, Replica, NoReplica, Stopped}
use Rattle.script_reports.specs.declared.report.Standing.{Standing}
use Rattle.script_reports.specs.declared.report.Standing.TheVariants as standings
use Rattle.script_reports.specs.Reports.{report_text}
use Rattle.script_reports.specs.Telling.{observed}
use Rattle.world.specs.Cluster.{ClusterState, ClusterSimulates, refusal_of}

-- a line, or nothing where there is nothing to tell
abbrev pub line : Option Report → List ℕ
line None = []
line (Some report) = report_text report ++ 10 ∷ []

-- the lines of what was observed, in order
abbrev pub lines_of_notes : List Note → List ℕ
lines_of_notes [] = []
lines_of_notes (note ∷ notes) = line (observed note) ++ lines_of_notes notes

-- the line of a refusal, or nothing where nothing is refused
abbrev pub line_of_refusal : Option Refusal → List ℕ
line_of_refusal refusal = line (option_map Refused refusal)

-- the event leads from one to the other, and these are the lines of it: its refusal, and what is observed
pub record PrintsEvent (x : ClusterState) (event : Event) (text : List ℕ) (y : ClusterState) : Type 0 where
  pub came : ClusterSimulates x y event
  pub is : text ≡ line_of_refusal (refusal_of x event) ++ lines_of_notes (drop (length x.stream_layer.notes) y.stream_layer.notes)

abbrev pub standing_of : Phase → Standing
standing_of phases.Open = standings.Open
standing_of phases.Frozen = standings.Frozen
standing_of phases.Sealed = standings.Sealed

abbrev pub replica_report : ℕ → ℕ → Option Content → Report
replica_report node extent None = NoReplica node extent
replica_report node extent (Some content) = Replica node extent (standing_of content.phase) (text_length content.groups) content.fence

-- what a node has of an extent
abbrev pub node_report : ℕ → ℕ → Option NodeSeen → Report
node_report node extent None = Stopped node extent
node_report node extent (Some x) = replica_report node extent (contents (find x.replicas extent))

-- some such text is printed
abbrev pub Prints : Option (List ℕ) → Option (List ℕ) → (List ℕ → Type 0) → Type 0
Prints before after IsText = (text : List ℕ) × IsText text × Appends before after text
