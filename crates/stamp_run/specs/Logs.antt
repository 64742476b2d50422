-- What the log has of an entry.
use Rattle.std.specs.Prelude.{ℕ, List, map, Option}
use Rattle.wire.specs.declared.note.Note.{Note}
use Rattle.wire.specs.declared.refusal.Refusal.{Refusal}
use Rattle.model_streams.specs.declared.event.Event.{Event}
use Rattle.model_streams.specs.declared.event.Event.TheVariants.{Deliver}
use Rattle.model_partition.specs.declared.table_note.TableNote.{TableNote}
use Rattle.laws_traces.specs.Traces.{RunEntry}
use Rattle.stamp_run.specs.declared.asked.Asked.{Asked}
use Rattle.stamp_run.specs.declared.asked.Asked.TheVariants as kinds

-- the event that is kept
abbrev pub kept_event : Asked → Event
kept_event (kinds.Delivered number) = Deliver number
kept_event (kinds.Called event) = event.value

-- the pass that put the entry there, its event, what was observed of extents and of tables, and why it was refused, if it was
pub record Logged : Type 0 where
  pub pass : ℕ
  pub event : Event
  pub notes : List Note
  pub tables : List TableNote
  pub refusal : Option Refusal

abbrev pub logged_by : RunEntry → Logged
logged_by x = record { pass = x.pass; event = x.event.event; notes = x.reply.notes; tables = x.reply.tables; refusal = x.reply.refusal }

-- what the log has of all entries
abbrev pub log_of : List RunEntry → List Logged
log_of xs = map logged_by xs
