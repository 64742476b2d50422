-- Servers over any streams that keep their order: what they load replays, and a served range is at the line of its generation.
use Rattle.std.proofs.Common.{◌≡◌, ◌⊎◌, ℕ, List, [], ◌∷◌, Some, None, refl, sym, ap, ◌∙◌, subst, inl, inr}
use Rattle.wire.specs.declared.note.Note.{Note}
use Rattle.model_partition.specs.Loading.{Group}
use Rattle.model_histories.specs.Log.{only, without_gots}
use Rattle.model_partition.specs.Past.{Bytes, Replays, table_notes, first_range}
use Rattle.model_partition.specs.Range.{RangeState}
use Rattle.model_histories.specs.Renaming.{decoded, decoded_record}
use Rattle.model_partition.specs.Server.{range_of, split_of}
use Rattle.model_histories.specs.Story.{KeepsOrder, EndsRise}
use Rattle.model_histories.specs.ServerRun.{ServerRun, ServerEvent, after_event, first_run, run_of, log_name, metadata_name}
use Rattle.model_histories.specs.ServedTables.{AreFirst, AreUnborn, AreSeenAs, StreamsInOrder, IsAtLine, ServesAt}
use Rattle.laws_loads.proofs.Renaming.{renamed_keeps}
use Rattle.laws_tables.proofs.Ends.{renamed_ends_rise}
use Rattle.laws_tables.proofs.Final.{tables_of_first_range_replay}
use Rattle.laws_tables.proofs.WithoutGots.{tables_without, with_gots}
use Rattle.laws_checkpoints.specs.IndexLayers.{layer_at}
use Rattle.laws_server_runs.specs.RangeInvariant.{Serves, StreamsKept, InOrder, AreObserved}
use Rattle.laws_server_runs.specs.RunInvariant.{view_at, with_stage, HeldKept, AreApart, nothing_taken, RunKept}
use Rattle.laws_loads.specs.RangeView.{RangeView}
use Rattle.laws_server_runs.specs.Turns.{outcome_of, IsOfServers, BuildsOther}
use Rattle.laws_server_runs.proofs.Actions.{Longer, event_longer}
use Rattle.laws_server_runs.proofs.BuiltStreams.{built_beside}
use Rattle.laws_server_runs.specs.Places.{RunLaid}
use Rattle.laws_server_runs.proofs.FirstAlone.{only_first}
use Rattle.laws_server_runs.proofs.Fronts.{order_shorter, once_shorter, ends_shorter, stand_shorter}
use Rattle.laws_server_runs.proofs.HeldLine.{at_line, at_own_keys}
use Rattle.laws_server_runs.proofs.HeldRecords.{keys_by_server}
use Rattle.laws_server_runs.proofs.Kept.{step_kept}
use Rattle.laws_server_runs.proofs.KeptKeys.{unnamed, names_none, keeps_keys}
use Rattle.laws_server_runs.proofs.LaidRuns.{bare, all_laid}
use Rattle.laws_server_runs.proofs.Others.{streams_same}
use Rattle.laws_server_runs.proofs.RunSteps.{IsAny, IsAnyPair, IsBuild, any_assigned, any_numbered, event_kind, event_step}
use Rattle.laws_server_runs.proofs.Unmerged.{HaveNoMerges, unmerged}
use Rattle.laws_server_runs.proofs.SeenTables.{seen_as, all_seen}
use Rattle.laws_server_runs.proofs.ServedNotes.{serves_of}
use Rattle.laws_server_runs.proofs.Steps.{kept_at}
use Rattle.laws_server_runs.proofs.Apart.{StaysApart, unborn_apart}

module _ (texts : ℕ → Bytes) (subject : ℕ) where
  -- what is premised of a run was so before its last event
  pub before : (x y : ServerRun) → Longer x y → StreamsInOrder texts subject y → StreamsInOrder texts subject x
  before x y l o = record {
    metadata = order_shorter Group (x.story (metadata_name subject)) (y.story (metadata_name subject)) (l.story (metadata_name subject)) o.metadata;
    log = order_shorter Group (x.story (log_name subject)) (y.story (log_name subject)) (l.story (log_name subject)) o.log;
    once = once_shorter Group (x.story (log_name subject)) (y.story (log_name subject)) (l.story (log_name subject)) o.once;
    ends = ends_shorter Group (x.story (log_name subject)) (y.story (log_name subject)) (l.story (log_name subject)) o.ends;
    shown = stand_shorter texts (x.shown subject) (y.shown subject) (l.shown subject) o.shown;
    answered = stand_shorter texts (x.answered subject) (y.answered subject) (l.answered subject) o.answered;
  }

  pub of_view : (x : ServerRun) → StreamsInOrder texts subject x → InOrder texts (view_at subject x 0)
  of_view x o = record { log = o.log; metadata = o.metadata; once = o.once; ends = o.ends; shown = o.shown; answered = o.answered }

  pub first_kept : (batch servers : ℕ) → RunKept texts subject (first_run batch servers)
  first_kept batch servers = record {
    run = [];
    behind = ([], refl);
    ranges = λ s cell st at up r held. absurd (let z : None ≡ Some r = sym (ap (λ l. range_of l subject) (bare batch servers s cell st at up)) ∙ held in cc);
    own = λ s t r u one two e. absurd (none s r one);
    loaded = λ s r serves. absurd (none s r serves);
    streams = record { log = refl; metadata = refl; chain = tt; spelled = λ a g group e. absurd cc; records = λ a g group e. absurd cc };
    seen = nothing_seen;
  }
    where
      none : (s : ℕ) (r : RangeState) → ServesAt (first_run batch servers) s subject r → ⊥
      none s r b = let z : None ≡ Some r = sym (ap (λ l. range_of l subject) (bare batch servers s b.cell b.state b.there b.runs)) ∙ b.held in cc

      nothing_seen : (notes : List Note) → AreSeenAs texts [] notes → AreObserved texts subject [] (only subject notes)
      nothing_seen [] seen = ((λ l. []), tt, refl)
      nothing_seen (note ∷ notes) seen = absurd seen

  event_kept : (x : ServerRun) → RunLaid x → HaveNoMerges x.servers → RunKept texts subject x → AreApart subject x.servers → (event : ServerEvent) → BuildsOther subject event → IsOfServers event ⊎ IsBuild event →
      StreamsInOrder texts subject (after_event x event) → RunKept texts subject (after_event x event)
  event_kept x laid whole k apart event other (inl is) order =
      step_kept texts subject nothing_taken x laid k apart (outcome_of x.servers event).notes (after_event x event) (event_step IsAny IsAnyPair x whole event is (any_assigned event) (any_numbered event)) (of_view (after_event x event) order)
  event_kept x laid whole k apart event other (inr build) order =
      subst (λ e. RunKept texts subject (after_event x e)) (sym build.2) (built_beside texts subject nothing_taken x k build.0 build.1 (other build.0 build.1 build.2))

  -- whatever comes, where the range is none of the two of a split at servers
  pub all_kept : (batch servers : ℕ) (events : List ServerEvent) → StaysApart subject batch servers events → StreamsInOrder texts subject (run_of batch servers events) → RunKept texts subject (run_of batch servers events)
  all_kept batch servers [] are order = first_kept batch servers
  all_kept batch servers (event ∷ earlier) are order =
      let x : ServerRun = run_of batch servers earlier in
      event_kept x (all_laid batch servers earlier) (unmerged batch servers earlier) (all_kept batch servers earlier are.1 (before x (after_event x event) (event_longer x event) order)) are.0.0 event are.0.1 (event_kind event) order

module _ (texts : ℕ → Bytes) (batch servers : ℕ) where
  -- what is loaded replays, where the map assigns the first range alone
  pub apart_replays : (events : List ServerEvent) (h : List Note) → StaysApart first_range batch servers events → AreFirst events → StreamsInOrder texts first_range (run_of batch servers events) →
      AreSeenAs texts (run_of batch servers events).notes (table_notes h) → Replays h
  apart_replays events h apart first order seen =
      let x : ServerRun = run_of batch servers events in
      let k : RunKept texts first_range x = all_kept texts first_range batch servers events apart order in
      let o : AreObserved texts first_range k.run (only first_range (table_notes h)) = k.seen (table_notes h) seen in
      with_gots h (tables_of_first_range_replay (layer_at texts) o.0 k.run (without_gots h) k.streams.chain (keeps_keys k.run (x.story (metadata_name first_range)) k.streams.metadata (unnamed first_range batch servers events apart)) o.1
      (subst (λ z. KeepsOrder z) (sym k.streams.log) (renamed_keeps decoded (x.story (log_name first_range)) order.log))
      (subst (λ z. EndsRise z) (sym k.streams.log) (renamed_ends_rise decoded (x.story (log_name first_range)) order.ends))
      (subst (λ z. KeepsOrder z) (sym k.streams.metadata) (renamed_keeps decoded_record (x.story (metadata_name first_range)) order.metadata))
      (tables_without h ∙ sym (only_first texts batch servers events first (table_notes h) seen) ∙ o.2))

  -- and no split makes it
  pub run_replays : (events : List ServerEvent) (h : List Note) → AreUnborn first_range events → AreFirst events → StreamsInOrder texts first_range (run_of batch servers events) →
      AreSeenAs texts (run_of batch servers events).notes (table_notes h) → Replays h
  run_replays events h are first order seen = apart_replays events h (unborn_apart first_range batch servers events are) first order seen

  -- A range that is served is at its line, whichever copies belong to its loads by the order of its log.
  pub apart_at_line : (events : List ServerEvent) (s range : ℕ) (r : RangeState) → StaysApart range batch servers events → StreamsInOrder texts range (run_of batch servers events) →
      ServesAt (run_of batch servers events) s range r → (log : KeepsOrder ((run_of batch servers events).story (log_name range))) →
      IsAtLine texts ((run_of batch servers events).story (log_name range)) log.copies r
  apart_at_line events s range r apart order at log =
      let x : ServerRun = run_of batch servers events in
      let k : RunKept texts range x = all_kept texts range batch servers events apart order in
      let h : HeldKept texts range k.run (view_at range x s) r (split_of at.state.splits range) = kept_at texts range nothing_taken x k s r at in
      let v : RangeView = with_stage (view_at range x s) h.split in
      let o : AreObserved texts range k.run (only range (seen_as texts x.notes)) = k.seen (seen_as texts x.notes) (all_seen texts x.notes) in
      let streams : StreamsKept texts k.run v = streams_same texts k.run (view_at range x 0) v refl refl k.streams in
      let serves : Serves texts k.run v r = serves_of texts range k.run v r at.serves h.range in
      at_line texts (x.story (log_name range)) log.copies r
      (keys_by_server texts k.run v r streams order.metadata (names_none (x.story (metadata_name range)) (unnamed range batch servers events apart)) serves)
      (at_own_keys texts k.run v r streams serves o.0 o.1 log order.ends order.metadata h.range.sound.out_fits order.answered)

  -- also while it is split, where no split makes it
  pub served_at_line : (events : List ServerEvent) (s range : ℕ) (r : RangeState) → AreUnborn range events → StreamsInOrder texts range (run_of batch servers events) →
      ServesAt (run_of batch servers events) s range r → (log : KeepsOrder ((run_of batch servers events).story (log_name range))) →
      IsAtLine texts ((run_of batch servers events).story (log_name range)) log.copies r
  served_at_line events s range r are order at log = apart_at_line events s range r (unborn_apart range batch servers events are) order at log

  -- and so by those that its streams are premised to have
  pub run_at_line : (events : List ServerEvent) (s range : ℕ) (r : RangeState) → AreUnborn range events → (p : StreamsInOrder texts range (run_of batch servers events)) →
      ServesAt (run_of batch servers events) s range r → IsAtLine texts ((run_of batch servers events).story (log_name range)) p.log.copies r
  run_at_line events s range r are p at = served_at_line events s range r are p at p.log
