-- A range that is served forms a group.
use Rattle.std.proofs.Common.{◌≡◌, ⊎_elim, ℕ, ◌+◌, ◌^◌, ◌&&◌, true, not, nat_lt, List, [], ◌∷◌, ◌++◌, length, map, take, drop, Option, Some, None, is_some, refl, sym, ap, ◌∙◌, subst, inl, inr}
use Rattle.wire.specs.declared.note.Note.{Note}
use Rattle.wire.specs.declared.streams.StreamKind.TheVariants as kinds
use Rattle.client.specs.Client.{ClientState, append_rule}
use Rattle.commitlog.specs.declared.log_record.LogRecord.{LogRecord}
use Rattle.commitlog.specs.Reading.{record_at}
use Rattle.commitlog.specs.Record.{spelling}
use Rattle.commitlog.specs.Replay.{Numbered}
use Rattle.commitlog.proofs.Laws.{record_again}
use Rattle.model_streams.proofs.Tests.{if_elim}
use Rattle.model_partition.specs.declared.server_context.ServerContext.{ServerContext}
use Rattle.model_partition.specs.Past.{Bytes, Transaction}
use Rattle.model_partition.specs.Lines.{next_after}
use Rattle.model_histories.specs.Log.{begins_of, without_gots}
use Rattle.model_histories.specs.Story.{StreamEvent, Made}
use Rattle.model_partition.specs.Range.{OutGroup, RangeState, RangeOutcome, request, goes, given, picking, if_there, is_serving}
use Rattle.model_partition.specs.Serving.{record_of, began, group_count, appends, forms}
use Rattle.model_partition.specs.Loading.{Group}
use Rattle.model_histories.specs.Renaming.{renamed_event, numbered, numbered_if, decoded}
use Rattle.model_histories.specs.StreamActions.{Forms, group_of, formed}
use Rattle.model_histories.specs.ServedTables.{AreSeenAs}
use Rattle.laws_loads.proofs.Renaming.{mapped_length}
use Rattle.laws_loads.proofs.WaitingIsSound.{IsNext, is_next, appends_sound}
use Rattle.laws_tables.proofs.Range.{event_cases}
use Rattle.laws_loads.specs.RangeView.{RangeView, view_after, log_of}
use Rattle.laws_tables.specs.Runs as chains
use Rattle.laws_tables.specs.Runs.{Run, Serving, first_beginning, held, formed as formed_held, MayInChain}
use Rattle.laws_checkpoints.specs.IndexLayers.{layer_at}
use Rattle.laws_server_runs.specs.RangeInvariant.{append_of, Matches, Serves, RangeKept, StreamsKept, AreObserved, Rests, Adds, StepKept}
use Rattle.laws_server_runs.proofs.Loads.{calm_kept}
use Rattle.laws_server_runs.proofs.Others.{serving_on}
use Rattle.laws_server_runs.proofs.ServedNotes.{same_here, begun_seen, observed_formed, kept_served}
use Rattle.laws_server_runs.proofs.GetNotes.{begins_plain}

module _ (texts : ℕ → Bytes) (subject : ℕ) where
  -- the first n transactions of the queue are the next group, whatever becomes of the log's client
  module _ (run : Run) (v : RangeView) (r : RangeState) (k : Serves texts run v r) (n : ℕ) (is : IsNext r n) (c : ClientState) where
    abbrev out_now : OutGroup
    out_now = record { first = r.next; transactions = take n r.queue }

    abbrev made : StreamEvent Group
    made = Made r.load.generation (group_of out_now)

    abbrev formed_view : RangeView
    formed_view = view_after r.load.generation v (Forms kinds.Log (group_of out_now))

    abbrev formed_range : RangeState
    formed_range = record r { log = c; queue = drop n r.queue; out = Some out_now; next = r.next + n }

    read_again : record_at (group_of out_now) ≡ Some (record_of r.next (take n r.queue))
    read_again = record_again (record_of r.next (take n r.queue)) is.fits

    spells : decoded (group_of out_now) ≡ numbered (record_of r.next (take n r.queue))
    spells = ap numbered_if read_again

    -- the group, by what it spells
    abbrev group : Numbered Transaction
    group = decoded (group_of out_now)

    abbrev pub formed_run : Run
    formed_run = chains.Forms r.load.generation group ∷ run

    abbrev old_held : Serving
    old_held = held first_beginning run r.load.generation

    may_form : MayInChain (layer_at texts) first_beginning run (chains.Forms r.load.generation group)
    may_form = (
      k.shown,
      k.matches.out ∙ ap (append_of (v.history.append kinds.Log)) is.none,
      ap (λ (x : Numbered Transaction). x.first) spells ∙ k.matches.next,
    )

    formed_streams : StreamsKept texts run v → StreamsKept texts formed_run formed_view
    formed_streams streams = record {
      log = ap (λ l. Made r.load.generation group ∷ l) streams.log;
      metadata = streams.metadata;
      chain = (may_form, streams.chain);
      spelled = λ a g group at.
          ⊎_elim {C = (x : LogRecord) × (group ≡ spelling x) × (record_at group ≡ Some x)}
          (λ new.
          let e : made ≡ Made g group = new.1 in
          let same : group_of out_now ≡ group = cc in
          subst (λ (z : Group). (x : LogRecord) × (z ≡ spelling x) × (record_at z ≡ Some x)) same (record_of r.next (take n r.queue), refl, read_again))
          (λ old. streams.spelled a g group old)
          (event_cases Group made (log_of v) a (Made g group) at);
      records = streams.records;
    }

    -- the stories are of one length
    same_length : StreamsKept texts run v → length (log_of v) ≡ length (chains.log_of run)
    same_length streams = sym (mapped_length (renamed_event decoded) (log_of v)) ∙ ap length (sym streams.log)

    formed_matches : StreamsKept texts run v → Matches texts formed_view (formed_held (length (chains.log_of run)) group old_held) formed_range
    formed_matches streams = record {
      position = k.matches.position;
      next = sym (ap next_after spells ∙ ap (λ m. r.next + m) is.size);
      out = ap (λ m. Some (record { append = m; group = group })) (sym (same_length streams));
      live = k.matches.live;
      checkpoint = k.matches.checkpoint;
      said = k.matches.said;
      installed = k.matches.installed;
      ordered = k.matches.ordered;
      named = k.matches.named;
      rows = k.matches.rows;
      reads = k.matches.reads;
      beside = k.matches.beside;
      metadata = k.matches.metadata;
    }

    formed_serves : StreamsKept texts run v → Serves texts formed_run formed_view formed_range
    formed_serves streams = record {
      shown = serving_on (chains.Forms r.load.generation group) run r.load.generation k.shown;
      matches = subst (λ s. Matches texts formed_view s formed_range) (sym (same_here r.load.generation _ _)) (formed_matches streams);
    }

    formed_seen : r.load.range ≡ subject → (before later : List Note) → AreObserved texts subject run before → AreSeenAs texts (began r.load.range r.load.generation r.next (take n r.queue)) later →
        AreObserved texts subject formed_run (before ++ without_gots later)
    formed_seen range before later old seen =
        let g : ℕ = r.load.generation in
        let here : without_gots later ≡ begins_of subject g r.next (map (λ t. t.changes) (take n r.queue)) =
        ap without_gots (begun_seen texts subject g r.next (take n r.queue) later (subst (λ z. AreSeenAs texts (began z g r.next (take n r.queue)) later) range seen))
        ∙ begins_plain subject g r.next (map (λ t. t.changes) (take n r.queue)) in
        subst (λ (l : List Note). AreObserved texts subject formed_run (before ++ l)) (ap (λ (x : Numbered Transaction). begins_of subject g x.first x.items) spells ∙ sym here)
        (observed_formed texts subject run g group before old)

  -- the next group is formed
  appends_kept : (run : Run) (v : RangeView) (r : RangeState) (d : ServerContext) → RangeKept texts subject run v r → StreamsKept texts run v → is_serving r.stage ≡ true → Serves texts run v r → (n : ℕ) (is : IsNext r n) →
      StepKept texts subject run v r (formed (appends d r n).after) (appends d r n)
  appends_kept run v r d kept streams serving k n is =
      let c : ClientState = (given (picking d r.log) (append_rule (picking d r.log) (request d) (spelling (record_of r.next (take n r.queue))))).after in
      record {
        next = formed_run run v r k n is c;
        goes = Adds _ run Rests refl;
        alone = inr (inl serving);
        kept = (
          kept_served texts subject run (formed_run run v r k n is c) v (formed_view run v r k n is c) r (formed_range run v r k n is c) kept serving refl refl refl (appends_sound d r n kept.sound is)
              (formed_serves run v r k n is c streams),
          refl,
        );
        streams = formed_streams run v r k n is c streams;
        longer = ([], refl);
        anew = λ s. inl serving;
        seen = formed_seen run v r k n is c kept.range;
      }

  -- a group is formed where none is out
  pub forms_kept : (run : Run) (v : RangeView) (r : RangeState) (d : ServerContext) → RangeKept texts subject run v r → StreamsKept texts run v → is_serving r.stage ≡ true → Serves texts run v r → r.out ≡ None →
      StepKept texts subject run v r (formed (forms d r).after) (forms d r)
  forms_kept run v r d kept streams serving k none =
      if_elim (λ (o : RangeOutcome). StepKept texts subject run v r (formed o.after) o) (not (is_some r.out) && (nat_lt 0 (group_count d r) && nat_lt (r.next + group_count d r) (2 ^ 64))) _ _
      (λ t. appends_kept run v r d kept streams serving k (group_count d r) (is_next d r kept.sound t))
      (λ f. subst (λ (x : Option OutGroup). StepKept texts subject run v r (map (λ out. Forms kinds.Log (group_of out)) (if_there x)) (goes d r [] [])) (sym none)
      (calm_kept texts subject run v r (goes d r [] []) streams refl (kept, refl) (λ s. inl serving)))
