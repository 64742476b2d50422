-- The group that is out comes to stand in the log, and is applied.
use Rattle.std.proofs.Common.{◌≡◌, ⊎_elim, ℕ, ◌+◌, ◌-◌, true, List, [], ◌∷◌, ◌++◌, length, map, Some, None, refl, sym, ap, ◌∙◌, subst, inl, inr, arith}
use Rattle.std.specs.List.{flat_map}
use Rattle.block_types.specs.Limits.{group_size}
use Rattle.wire.specs.declared.note.Note.{Note}
use Rattle.wire.specs.declared.streams.StreamKind.TheVariants as kinds
use Rattle.streams.specs.declared.table.Position.{Position}
use Rattle.client.specs.Client.{ClientState}
use Rattle.memtable.specs.Entries.{Entries, put_all}
use Rattle.metadata.specs.Keys.{within}
use Rattle.commitlog.specs.Places.{kept}
use Rattle.commitlog.specs.Record as record_specs
use Rattle.commitlog.specs.Replay.{Numbered}
use Rattle.commitlog.proofs.Laws.{record_again}
use Rattle.replica.specs.Groups.{joined}
use Rattle.model_partition.specs.Past.{Bytes, Transaction}
use Rattle.model_histories.specs.Log.{dones_of, without_gots}
use Rattle.model_histories.specs.Story.{StreamEvent, Made, Answered, event_at}
use Rattle.model_histories.specs.StreamMachine.{base}
use Rattle.model_partition.specs.Range.{OutGroup, RangeState, RangeOutcome, is_serving}
use Rattle.model_partition.specs.Serving.{record_of, dones, out_size}
use Rattle.model_partition.specs.Loading.{Group}
use Rattle.model_histories.specs.Renaming.{numbered, numbered_if, decoded}
use Rattle.model_histories.specs.StreamActions.{Stands, group_of, last_position}
use Rattle.model_histories.specs.ServerRun.{place_number}
use Rattle.model_histories.specs.ServedTables.{AllStand, AreSeenAs}
use Rattle.laws_loads.specs.Sound.{IsSound, OutFits}
use Rattle.laws_tables.proofs.Range.{event_cases}
use Rattle.laws_loads.proofs.Rows.{ordered_put}
use Rattle.laws_loads.specs.RangeView.{RangeView, view_after, log_of}
use Rattle.laws_tables.specs.Layers.{layer_line}
use Rattle.laws_tables.specs.Runs as chains
use Rattle.laws_tables.specs.Runs.{Run, Serving, first_beginning, held, items_out, logged}
use Rattle.laws_loads.specs.MemoryLayers.{layer_in}
use Rattle.laws_server_runs.specs.CheckpointInvariant.{parts_of}
use Rattle.laws_server_runs.specs.RangeInvariant.{append_of, Matches, Serves, RangeKept, StreamsKept, AreObserved, Rests, Adds, StepKept}
use Rattle.laws_server_runs.proofs.HeldCheckpoints.{longer_holds}
use Rattle.laws_tables.proofs.RunLines.{out_made}
use Rattle.laws_server_runs.proofs.LayerCells.{all_transactions}
use Rattle.laws_server_runs.proofs.Others.{serving_on}
use Rattle.laws_server_runs.proofs.Replaying.{values_stand}
use Rattle.laws_server_runs.proofs.ServedNotes.{same_here, dones_seen, observed_logged, kept_served}
use Rattle.laws_server_runs.proofs.GetNotes.{dones_plain}

module _ (texts : ℕ → Bytes) (subject : ℕ) (run : Run) (v : RangeView) (r : RangeState) (k : Serves texts run v r) (out : OutGroup) (is : r.out ≡ Some out) (fits : OutFits (Some out)) where
  abbrev generation : ℕ
  generation = r.load.generation

  abbrev append : ℕ
  append = v.history.append kinds.Log

  abbrev transactions : List Transaction
  transactions = map (λ t. t.changes) out.transactions

  -- the group, by what it spells
  abbrev group : Numbered Transaction
  group = decoded (group_of out)

  spells : group ≡ numbered (record_of out.first out.transactions)
  spells = ap numbered_if (record_again (record_of out.first out.transactions) fits)

  abbrev old_held : Serving
  old_held = held first_beginning run generation

  out_is : old_held.out ≡ Some (record { append = append; group = group })
  out_is = k.matches.out ∙ ap (append_of append) is

  -- the group stands at an offset of the last extent that the log's client knows
  module _ (c : ClientState) (based : c.base ≡ r.log.base) (counted : length c.extents ≡ length r.log.extents) (extent offset : ℕ) where
    abbrev at : Position
    at = last_position r.log offset

    abbrev end : ℕ
    end = place_number at + group_size (group_of out)

    abbrev told : StreamEvent Group
    told = Answered append (place_number at) end

    abbrev pub stood_view : RangeView
    stood_view = view_after generation v (Stands kinds.Log extent at (group_of out))

    abbrev stood_run : Run
    stood_run = chains.Logged generation append (place_number at) end ∷ run

    abbrev more_live : Entries
    more_live = put_all r.live (flat_map (λ changes. changes) (kept (record_of out.first out.transactions) extent offset))

    abbrev pub stood_range : RangeState
    stood_range =
        record r {
          log = c;
          live = more_live;
          position = record { index = (c.base + length c.extents) - 1; offset = offset + out_size out };
          out = None;
        }

    position_is : place_number stood_range.position ≡ end
    position_is =
        let index : (c.base + length c.extents) - 1 ≡ (r.log.base + length r.log.extents) - 1 =
        ap (λ b. (b + length c.extents) - 1) based ∙ ap (λ l. (r.log.base + l) - 1) counted in
        let size : ℕ = group_size (group_of out) in
        let sum : (i : ℕ) → base i + (offset + size) ≡ (base i + offset) + size = λ i. omega arith in
        ap (λ i. base i + (offset + size)) index ∙ sum ((r.log.base + length r.log.extents) - 1)

    -- the layer gets the group's transactions
    live_is : AllStand texts stood_view.answered → (key : Bytes) → within r.said.keys key ≡ true → layer_in texts more_live key ≡ layer_line (items_out old_held.out) old_held.live key
    live_is all key there =
        let items : items_out old_held.out ≡ transactions = ap items_out out_is ∙ ap (λ (x : Numbered Transaction). x.items) spells in
        all_transactions texts extent (offset + length (record_specs.text (record_of out.first out.transactions))) transactions r.live old_held.live key
        (values_stand (texts extent) offset (record_of out.first out.transactions) all.0) (k.matches.live all.1 key there)
        ∙ ap (λ l. layer_line l old_held.live key) (sym items)

    stood_matches : Matches texts stood_view (logged end old_held) stood_range
    stood_matches = record {
      position = position_is;
      next = k.matches.next;
      out = refl;
      live = live_is;
      checkpoint = longer_holds texts (parts_of v old_held r) stood_view.answered (record { extent = extent; offset = at.offset; bytes = joined (group_of out) } ∷ [], refl) r.control k.matches.checkpoint;
      said = k.matches.said;
      installed = k.matches.installed;
      ordered = ordered_put r.live (flat_map (λ changes. changes) (kept (record_of out.first out.transactions) extent offset)) k.matches.ordered;
      named = k.matches.named;
      rows = k.matches.rows;
      reads = k.matches.reads;
      beside = k.matches.beside;
      metadata = k.matches.metadata;
    }

    -- what was made is as before
    made_before : (a g : ℕ) (other : Group) → event_at (log_of stood_view) a ≡ Some (Made g other) → event_at (log_of v) a ≡ Some (Made g other)
    made_before a g other there =
        ⊎_elim {C = event_at (log_of v) a ≡ Some (Made g other)} (λ new. (let z : told ≡ Made g other = new.1 in absurd cc)) (λ old. old)
        (event_cases Group told (log_of v) a (Made g other) there)

    stood_serves : Serves texts stood_run stood_view stood_range
    stood_serves = record {
      shown = serving_on (chains.Logged generation append (place_number at) end) run generation k.shown;
      matches = subst (λ s. Matches texts stood_view s stood_range) (sym (same_here generation _ _)) stood_matches;
    }

    stood_streams : StreamsKept texts run v → StreamsKept texts stood_run stood_view
    stood_streams streams = record {
      log = ap (λ l. Answered append (place_number at) end ∷ l) streams.log;
      metadata = streams.metadata;
      chain = ((k.shown, group, out_is), streams.chain);
      spelled = λ a g other there. streams.spelled a g other (made_before a g other there);
      records = streams.records;
    }

    stood_seen : r.load.range ≡ subject → (before later : List Note) → AreObserved texts subject run before →
        AreSeenAs texts (dones r.load.range generation out.first out.transactions) later → AreObserved texts subject stood_run (before ++ without_gots later)
    stood_seen range before later old seen =
        let here : without_gots later ≡ dones_of subject generation out.first transactions =
        ap without_gots (dones_seen texts subject generation out.first out.transactions later (subst (λ z. AreSeenAs texts (dones z generation out.first out.transactions) later) range seen))
        ∙ dones_plain subject generation out.first transactions in
        subst (λ (l : List Note). AreObserved texts subject stood_run (before ++ l)) (ap (λ (x : Numbered Transaction). dones_of subject generation x.first x.items) spells ∙ sym here)
        (observed_logged texts subject run append (place_number at) end generation group before (out_made first_beginning generation run (record { append = append; group = group }) out_is) old)

    -- what is left once the group stands
    abbrev pub stood_outcome : RangeOutcome
    stood_outcome = record { after = Some stood_range; count = 0; packets = []; notes = dones r.load.range generation out.first out.transactions }

    pub stands_kept : RangeKept texts subject run v r → StreamsKept texts run v → is_serving r.stage ≡ true → IsSound stood_range →
        StepKept texts subject run v r (Stands kinds.Log extent at (group_of out) ∷ []) stood_outcome
    stands_kept before streams serving sound = record {
      next = stood_run;
      goes = Adds _ run Rests refl;
      alone = inr (inl serving);
      kept = (kept_served texts subject run stood_run v stood_view r stood_range before serving refl refl refl sound stood_serves, refl);
      streams = stood_streams streams;
      longer = (record { extent = extent; offset = at.offset; bytes = joined (group_of out) } ∷ [], refl);
      anew = λ s. inl serving;
      seen = stood_seen before.range;
    }
