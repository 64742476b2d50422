-- Each Get whose answer is observed in a run without merges is of a moment of its range's own run, of which nothing newer was told then: so what is
-- loaded replays, and each answered Get shows all that was acknowledged so far.
use Rattle.std.proofs.Common.{◌≡◌, ℕ, ◌≤◌, true, List, [], ◌∷◌, ◌++◌, Option, None, Contains, sym, ap, ◌∙◌, subst, append-nil, append_assoc, if◌then◌else◌}
use Rattle.wire.specs.declared.note.Note.{Note}
use Rattle.wire.specs.declared.note.Note.TheVariants as notes
use Rattle.metadata.specs.Keys.{within}
use Rattle.model_streams.specs.declared.event.Event.{Event}
use Rattle.model_partition.specs.declared.table_note.TableNote.TheVariants as tables
use Rattle.model_partition.specs.Cluster.{AreUnmerged, cluster_after, cluster_after_all, first_cluster}
use Rattle.model_partition.specs.Loading.{Group}
use Rattle.model_partition.specs.Past.{Bytes, after_line, empty_table, kept, keys_of}
use Rattle.model_histories.specs.Log.{only}
use Rattle.model_histories.specs.Renaming.{renamed, decoded}
use Rattle.model_histories.specs.ServedTables.{AreSeenAs, line_to}
use Rattle.model_histories.specs.ServerRun.{ServerRun, ServerEvent, log_name}
use Rattle.model_histories.specs.Story.{Copy, whole}
use Rattle.laws_tables.specs.Families.{generation_of}
use Rattle.laws_tables.specs.Reads.{ReplaysAndServes}
use Rattle.laws_tables.proofs.Others.{serve_with_others}
use Rattle.laws_server_runs.specs.FamilyMembers.{of_servers}
use Rattle.laws_server_runs.specs.Reads.{AnswersAt, AllAnswer}
use Rattle.laws_server_runs.specs.RunInvariant.{HasLoad}
use Rattle.laws_server_runs.specs.Turns.{outcome_of}
use Rattle.laws_server_runs.proofs.AnsweredGets.{all_answer}
use Rattle.laws_server_runs.proofs.FamilyMembers.{of_servers_both, moment_keys}
use Rattle.laws_server_runs.proofs.FamilyReads.{WasRead, members_serve}
use Rattle.laws_server_runs.proofs.OwnNotes.{only_both}
use Rattle.laws_server_runs.proofs.ServedMoments.{MomentOf, served_moment, front_seen, answers_early}
use Rattle.laws_clusters.specs.ServerEvents.{server_events, server_events_after}
use Rattle.laws_clusters.proofs.Births.{run_children, run_first_unborn}
use Rattle.laws_clusters.proofs.ReadMoments.{GotAt, run_got, comes_behind, comes_both, unmerged_done}
use Rattle.laws_clusters.proofs.ReadsAlone.{highest, alone}
use Rattle.laws_clusters.proofs.RunMembers as runs

module _ (nodes servers target batch : ℕ) (events : List Event) (are : AreUnmerged events) where
  abbrev H : List Note
  H = runs.h nodes servers target batch events are

  abbrev texts : ℕ → Bytes
  texts = runs.texts nodes servers target batch events are

  abbrev all_coming : List ServerEvent
  all_coming = runs.coming nodes servers target batch events are

  module _ (before after : List Note) (r g : ℕ) (key : Bytes) (value : Option Bytes) (e : H ≡ before ++ notes.Got r g key value ∷ after) where
    m : GotAt nodes servers target batch r g key value events before
    m = run_got nodes servers target batch r g key value events are before after e

    -- the run until the event
    done_are : AreUnmerged m.done
    done_are = unmerged_done m.done (m.event ∷ m.rest) (subst AreUnmerged m.are are)

    abbrev then_coming : List ServerEvent
    then_coming = runs.coming nodes servers target batch m.done done_are

    abbrev moment : ServerRun
    moment = runs.x nodes servers target batch m.done done_are

    abbrev first : List Note
    first = runs.h nodes servers target batch m.done done_are

    -- what came to servers behind it
    came_later : (late : List ServerEvent) × (all_coming ≡ late ++ m.came ∷ then_coming)
    came_later =
        let start = first_cluster nodes servers target batch in
        let rest : (late : List ServerEvent) × (server_events_after (cluster_after (cluster_after_all start m.done) m.event) (server_events (cluster_after_all start m.done) m.event ++ then_coming) m.rest ≡ late ++ (server_events (cluster_after_all start m.done) m.event ++ then_coming)) =
        comes_behind (cluster_after (cluster_after_all start m.done) m.event) (server_events (cluster_after_all start m.done) m.event ++ then_coming) m.rest in (
          rest.0,
          ap (λ l. server_events_after start [] l) m.are ∙ comes_both start [] m.done (m.event ∷ m.rest) ∙ rest.1 ∙ ap (λ l. rest.0 ++ (l ++ then_coming)) m.comes,
        )

    answers : AnswersAt moment m.server r g key value
    answers =
        let all : AllAnswer batch servers all_coming = all_answer texts batch servers all_coming (runs.born nodes servers target batch events are) (runs.in_order nodes servers target batch events are) in
        let then_all : AllAnswer batch servers (m.came ∷ then_coming) = answers_early batch servers came_later.0 (m.came ∷ then_coming) (subst (AllAnswer batch servers) came_later.1 all) in
        then_all.0 m.server r g key value (
          m.to,
          subst (λ l. Contains (outcome_of l m.came).notes (tables.Got r g key value)) (runs.stands nodes servers target batch m.done done_are).stands.cells m.shown,
        )

    at_moment : MomentOf texts batch servers all_coming (runs.born nodes servers target batch events are) (runs.in_order nodes servers target batch events are) then_coming r answers.state.load.generation
    at_moment =
        served_moment texts batch servers then_coming m.server r answers.state answers.at all_coming (runs.born nodes servers target batch events are) (runs.in_order nodes servers target batch events are) (came_later.0 ++ m.came ∷ [])
        (came_later.1 ∙ sym (append_assoc came_later.0 (m.came ∷ []) then_coming))

    abbrev behind : List Note
    behind = m.gots ++ notes.Got r g key value ∷ after

    grows : H ≡ first ++ behind
    grows = e ∙ ap (λ l. l ++ notes.Got r g key value ∷ after) m.before_is ∙ append_assoc first m.gots (notes.Got r g key value ∷ after)

    told : AreSeenAs texts moment.notes (of_servers first)
    told =
        front_seen texts (runs.texts nodes servers target batch m.done done_are) moment.notes at_moment.more (of_servers H) (of_servers first) (of_servers behind)
        (subst (λ l. AreSeenAs texts l (of_servers H)) at_moment.notes (runs.seen_as nodes servers target batch events are)) (ap of_servers grows ∙ of_servers_both first behind)
        (runs.seen_as nodes servers target batch m.done done_are)

    same : (k : ℕ) → only k before ≡ only k first
    same k = ap (only k) m.before_is ∙ only_both k first m.gots ∙ ap (λ l. only k first ++ l) (m.gots_none k) ∙ append-nil (only k first)

    -- the key is one of the range's
    inside : within (keys_of H r) key ≡ true
    inside =
        subst (λ keys. within keys key ≡ true)
        (moment_keys texts (runs.x nodes servers target batch events are) H (runs.seen_as nodes servers target batch events are) (runs.member nodes servers target batch events are) (runs.came nodes servers target batch events are) r moment at_moment.old
        at_moment.goes m.server answers.state answers.at) answers.inside

    abbrev copies : ℕ → List (Copy Group)
    copies = (runs.in_order nodes servers target batch events are r).log.copies

    shows : value ≡ kept (keys_of H r) (after_line (line_to (renamed decoded (whole Group copies (moment.story (log_name r)))) g) empty_table) key
    shows =
        answers.shows at_moment.log ∙ ap (λ z. after_line (line_to (renamed decoded (whole Group z (moment.story (log_name r)))) g) empty_table key) at_moment.copies
        ∙ sym (ap (λ b. if b then after_line (line_to (renamed decoded (whole Group copies (moment.story (log_name r)))) g) empty_table key else None) inside)

    pub was_read : WasRead texts (runs.x nodes servers target batch events are) H (runs.member nodes servers target batch events are) before r g key value
    was_read = record {
      moment = moment;
      old = at_moment.old;
      goes = at_moment.goes;
      first = first;
      rest = behind;
      is = grows;
      told = told;
      same = same;
      loaded = subst (λ n. HasLoad n at_moment.old.behind.0) answers.under at_moment.loaded;
      highest = λ note there is. subst (λ n. generation_of note ≤ n) answers.under (highest nodes servers target batch m.done done_are m.server r answers.state answers.at answers.lasts note there is);
      alone =
          alone nodes servers target batch m.done done_are m.server r answers.state answers.at answers.lasts answers.unpaused H behind grows (run_first_unborn nodes servers target batch events)
          (λ before later parent low high key is. run_children nodes servers target batch events before later parent low high key is);
      shows = shows;
    }

  -- EACH ANSWERED GET IS SERVED, and all that is loaded replays
  tables_serve : ReplaysAndServes H
  tables_serve =
      members_serve texts (runs.x nodes servers target batch events are) H (runs.member nodes servers target batch events are) (runs.seen_as nodes servers target batch events are) (runs.came nodes servers target batch events are) was_read

  -- so it is of all that is observed
  pub run_serves : ReplaysAndServes (runs.c nodes servers target batch events are).stream_layer.notes
  run_serves = serve_with_others (runs.c nodes servers target batch events are).stream_layer.notes tables_serve
