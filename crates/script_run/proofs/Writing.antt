-- What a whole script writes, and what an event prints.
use Rattle.std.proofs.Common.{◌≡◌, ◌++◌, ℕ, List, Option, drop, length, option_map, refl, ap, subst, ◌∙◌}
use Rattle.std.specs.Io.KnownBytes.{Appends}
use Rattle.model_streams.specs.declared.event.Event.{Event}
use Rattle.model_partition.specs.Cluster.{first_cluster}
use Rattle.script_lines.specs.declared.line.Line.{Line}
use Rattle.world.specs.Cluster.{ClusterSimulates, ClusterMirrors, ClusterState, refusal_of}
use Rattle.wire.specs.declared.note.Note.{Note}
use Rattle.script_reports.specs.declared.report.Report.{Report}
use Rattle.script_reports.specs.declared.report.Report.TheVariants.{Refused}
use Rattle.script_run.specs.Output.{Prints, PrintsEvent, line, line_of_refusal, lines_of_notes}
use Rattle.script_run.specs.Playing.{IsFresh, PlaysAll, SessionState}
use Rattle.script_run.specs.Script.{IsScript, Size, Writes}
use Rattle.script_run.proofs.Texts.{appends_both}

-- the refusal of an event, and what is observed of it
pub tells : (a b c : Option (List ℕ)) (x y : ClusterState) (event : Event) (report : Option Report) (before after : List Note)
    → before ≡ x.stream_layer.notes → after ≡ y.stream_layer.notes → ClusterSimulates x y event → report ≡ option_map Refused (refusal_of x event)
    → Appends a b (line report) → Appends b c (lines_of_notes (drop (length before) after)) → Prints a c (λ text. PrintsEvent x event text y)
tells a b c x y event report before after first last came is one other =
    let refused : Appends a b (line_of_refusal (refusal_of x event)) = subst (λ (r : Option Report). Appends a b (line r)) is one in
    let shown = lines_of_notes (drop (length x.stream_layer.notes) y.stream_layer.notes) in
    let notes = ap (λ (l : List Note). lines_of_notes (drop (length l) after)) first ∙ ap (λ (l : List Note). lines_of_notes (drop (length x.stream_layer.notes) l)) last in
    let observed : Appends b c shown = subst (λ (text : List ℕ). Appends b c text) notes other in
    (line_of_refusal (refusal_of x event) ++ shown, record { came = came; is = refl }, appends_both a b c _ shown refused observed)

-- the lines of a script that was read were run in order
pub writes : (text : List ℕ) (a b : Option (List ℕ)) (size : Size) (plan : List Line) (first last : SessionState)
    → IsScript text size plan → IsFresh first
    → ClusterMirrors first.run (first_cluster size.nodes size.servers size.target size.batch)
    → Prints a b (λ written. PlaysAll first plan written last) → Prints a b (λ written. Writes text written)
writes text a b size plan first last is fresh mirrors printed =
    (printed.0, record { size = size; plan = plan; is = is; first = first; fresh = fresh; mirrors = mirrors; last = last; plays = printed.1 }, printed.2)
