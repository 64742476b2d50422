-- What a generation holds over a chain run is the line that it has come to, with what is out: so a range that matches it is at its line.
use Rattle.std.proofs.Common.{◌≡◌, ℕ, suc, ◌+◌, ◌==◌, max, nat_lt, Bool, true, false, List, [], ◌∷◌, ◌++◌, length, map, Option, Some, None, if◌then◌else◌, refl, sym, ap, ◌∙◌, subst, arith, append-nil}
use Rattle.std.proofs.lemmas.Bool.{ltb-true, ltb-false}
use Rattle.std.proofs.lemmas.List.{append_cancel_right}
use Rattle.wire.specs.declared.rows.Row.{Row}
use Rattle.memtable.specs.declared.cell.Place.{Place}
use Rattle.memtable.specs.Entries.{Entries}
use Rattle.metadata.specs.declared.record.MetaItem.{MetaItem}
use Rattle.metadata.specs.Fold.{all_keys}
use Rattle.metadata.specs.Keys.{within}
use Rattle.commitlog.specs.Replay.{Numbered}
use Rattle.commitlog.proofs.Laws.{record_again}
use Rattle.checkpoint_format.specs.Page.{is_ascending}
use Rattle.model_partition.specs.declared.checkpoint_job.CheckpointPhase.{CheckpointPhase}
use Rattle.model_partition.specs.declared.checkpoint_job.CheckpointPhase.TheVariants as checkpoints
use Rattle.model_partition.specs.CheckpointStates.{CheckpointState}
use Rattle.model_histories.specs.IndexContents.{served_entries}
use Rattle.model_partition.specs.Loading.{Group}
use Rattle.model_partition.specs.Past.{Bytes, Transaction, after_line, empty_table}
use Rattle.model_partition.specs.Range.{OutGroup, RangeState, waiting_out}
use Rattle.model_histories.specs.Renaming.{renamed, renamed_copy, renamed_placed, renamed_event, numbered_if, decoded, decoded_record}
use Rattle.model_histories.specs.ServedTables.{AllStand, IsAtLine, is_under, line_to, end_to}
use Rattle.model_partition.specs.Servers.{entries_if}
use Rattle.model_partition.specs.Serving.{record_of}
use Rattle.model_histories.specs.Story.{Placed, StreamEvent, Made, Answered, Showed, Story, event_at, Copy, placed, whole, KeepsOrder, EndsRise}
use Rattle.model_histories.specs.TableContents.{table_in}
use Rattle.laws_loads.specs.MemoryLayers.{layer_in}
use Rattle.laws_loads.specs.RangeView.{RangeView, log_of, metadata_of}
use Rattle.laws_loads.specs.Sound.{OutFits}
use Rattle.laws_loads.proofs.Renaming.{mapped_length, renamed_if, renamed_at, renamed_keeps, renamed_copies}
use Rattle.laws_tables.specs.Layers.{Layer, over, flat, indexed}
use Rattle.laws_tables.specs.Runs as chains
use Rattle.laws_tables.specs.Runs.{Run, Beginning, Serving, first_beginning, held, formed, logged, noting, recording, confirmed, greater, items_out, IsChainRun, ShowsLayers}
use Rattle.laws_tables.specs.Through.{OutAppend, HasLine, line_through}
use Rattle.laws_tables.proofs.Ends.{renamed_ends_rise}
use Rattle.laws_tables.proofs.Layers.{in_all}
use Rattle.laws_tables.proofs.RunLines.{out_made, through_line}
use Rattle.laws_checkpoints.specs.IndexLayers.{layer_at}
use Rattle.laws_checkpoints.proofs.Checkpoints.{newer_layer}
use Rattle.laws_checkpoints.proofs.ShownRows.{ascending_if, written_ascending}
use Rattle.laws_checkpoints.proofs.TableLayers.{table_flat, served_layer}
use Rattle.laws_server_runs.specs.OwnKeys.{IsAtLineWithin}
use Rattle.laws_server_runs.specs.CheckpointInvariant.{CheckpointParts, parts_of, HoldsNone, HasNoted, HoldsPhase, HoldsCheckpoint}
use Rattle.laws_server_runs.specs.RangeInvariant.{append_of, Matches, Serves, StreamsKept}
use Rattle.laws_server_runs.proofs.ServedLine.{known_at, IsAtOwnLine, at_own_line}
use Rattle.laws_server_runs.proofs.NamedIndexes.{written_named}

-- ---- the position of a generation

module _ (g : ℕ) where
  position_same : (next s : Serving) (end : ℕ) → next.position ≡ s.position → s.position ≡ end → (t : Bool) → (if t then next else s).position ≡ end
  position_same next s end same old true = same ∙ old
  position_same next s end same old false = old

  position_logged : (log : Story (Numbered Transaction)) (s : Serving) (h append to : ℕ) (group : Numbered Transaction) → event_at log append ≡ Some (Made h group) → s.position ≡ end_to log g → (t : Bool) → (g == h) ≡ t →
      (if t then logged to s else s).position ≡ (if is_under g (event_at log append) then to else end_to log g)
  position_logged log s h append to group made old true e = sym (ap (λ x. if is_under g x then to else end_to log g) made ∙ ap (λ (b : Bool). if b then to else end_to log g) e)
  position_logged log s h append to group made old false e = old ∙ sym (ap (λ x. if is_under g x then to else end_to log g) made ∙ ap (λ (b : Bool). if b then to else end_to log g) e)

  greater_max : (start end : ℕ) → greater end start ≡ max start end
  greater_max start end = by (nat_lt end start) refl
    where
      by : (b : Bool) → nat_lt end start ≡ b → (if b then start else end) ≡ max start end
      by true t = let low = ltb-true end start t in omega (arith, low)
      by false f = let high = ltb-false end start f in omega (arith, high)

  position_confirmed : (s : Serving) (start end : ℕ) (groups : List (Placed (Numbered Transaction))) (records : List (Placed (Numbered MetaItem))) (old_end : ℕ) → s.position ≡ old_end → (t : Bool) →
      (if t then confirmed first_beginning start end groups records else s).position ≡ (if t then max start end else old_end)
  position_confirmed s start end groups records old_end old true = greater_max start end
  position_confirmed s start end groups records old_end old false = old

  pub position_at : (layer_at : Place → Layer) (run : Run) → IsChainRun layer_at first_beginning run → (held first_beginning run g).position ≡ end_to (chains.log_of run) g
  position_at layer_at [] chain = refl
  position_at layer_at (chains.Forms h group ∷ run) chain = position_same (formed (length (chains.log_of run)) group (held first_beginning run g)) (held first_beginning run g) _ refl (position_at layer_at run chain.1) (g == h)
  position_at layer_at (chains.Logged h append from to ∷ run) chain =
      let group : Numbered Transaction = chain.0.1 in
      position_logged (chains.log_of run) (held first_beginning run g) h append to group (out_made first_beginning h run (record { append = append; group = group }) chain.0.2) (position_at layer_at run chain.1) (g == h) refl
  position_at layer_at (chains.Notes h ∷ run) chain = position_same (noting (held first_beginning run g)) (held first_beginning run g) _ refl (position_at layer_at run chain.1) (g == h)
  position_at layer_at (chains.Records h number item ∷ run) chain =
      position_same (recording (length (chains.meta_of run)) (chains.record_group number item) (held first_beginning run g)) (held first_beginning run g) _ refl (position_at layer_at run chain.1) (g == h)
  position_at layer_at (chains.Recorded h append from to ∷ run) chain = position_same (chains.recorded (held first_beginning run g)) (held first_beginning run g) _ refl (position_at layer_at run chain.1) (g == h)
  position_at layer_at (chains.Trims h place ∷ run) chain = position_at layer_at run chain.1
  position_at layer_at (chains.Confirms h start end groups metadata_end records ∷ run) chain =
      position_confirmed (held first_beginning run g) start end groups records (end_to (chains.log_of run) g) (position_at layer_at run chain.1) (g == h)

-- ---- groups by what they spell

module _ {A B : Type 0} (f : A → B) (copies : ℕ → List (Copy A)) where
  all_placed : (cs : List (Copy A)) → map placed (map (renamed_copy f) cs) ≡ map (renamed_placed f) (map placed cs)
  all_placed [] = refl
  all_placed (c ∷ cs) = ap (λ l. renamed_placed f (placed c) ∷ l) (all_placed cs)

  -- each load shows all of its copies, whatever groups are called
  pub whole_renamed : (story : Story A) → whole B (λ l. map (renamed_copy f) (copies l)) (renamed f story) ≡ renamed f (whole A copies story)
  whole_renamed [] = refl
  whole_renamed (Made g group ∷ story) = ap (λ l. Made g (f group) ∷ l) (whole_renamed story)
  whole_renamed (Answered append from to ∷ story) = ap (λ l. Answered append from to ∷ l) (whole_renamed story)
  whole_renamed (Showed g start end groups ∷ story) =
      let shown : map placed (map (renamed_copy f) (copies (length (renamed f story)))) ≡ map (renamed_placed f) (map placed (copies (length story))) =
      ap (λ n. map placed (map (renamed_copy f) (copies n))) (mapped_length (renamed_event f) story) ∙ all_placed (copies (length story)) in
      (λ i. Showed g 0 end (shown i) ∷ whole_renamed story i)

-- where a line ends is said of places alone
end_renamed : (story : Story Group) (g : ℕ) → end_to (renamed decoded story) g ≡ end_to story g
end_renamed [] g = refl
end_renamed (Made h group ∷ story) g = end_renamed story g
end_renamed (Answered append from to ∷ story) g =
    ap (λ x. if is_under g x then to else end_to (renamed decoded story) g) (renamed_at decoded story append)
    ∙ (λ i. if under (event_at story append) i then to else end_renamed story g i)
  where
    under : (x : Option (StreamEvent Group)) → is_under g (renamed_if decoded x) ≡ is_under g x
    under None = refl
    under (Some (Made h group)) = refl
    under (Some (Answered a b c)) = refl
    under (Some (Showed h start end groups)) = refl
end_renamed (Showed h start end groups ∷ story) g = ap (λ n. if g == h then max start end else n) (end_renamed story g)

-- as many transactions are out as its append has
out_count : (append : ℕ) (o : Option OutGroup) → OutFits o → length (items_out (append_of append o)) ≡ length (waiting_out o)
out_count append None fits = refl
out_count append (Some out) fits =
    ap (λ x. length (numbered_if x).items) (record_again (record_of out.first out.transactions) fits) ∙ mapped_length (λ t. t.changes) out.transactions

module _ (texts : ℕ → Bytes) where
  -- what is at its line within its keys is at its line, if it has all keys
  pub at_line : (log : Story Group) (copies : ℕ → List (Copy Group)) (r : RangeState) → r.said.keys ≡ all_keys → IsAtLineWithin texts r.said.keys log copies r → IsAtLine texts log copies r
  at_line log copies r all at = record { position = at.position; next = at.next; table = λ key. at.table key (ap (λ keys. within keys key) all ∙ in_all key) }

  -- ---- layers in order

  newer_same : (x : Option Entries) (key : Bytes) → layer_in texts (entries_if x) key ≡ newer_layer texts x key
  newer_same None key = refl
  newer_same (Some entries) key = refl

  none_ordered : (c : CheckpointParts) → HoldsNone c → is_ascending (entries_if c.entries) ≡ true
  none_ordered c h = ap (λ x. is_ascending (entries_if x)) h.entries

  noted_ordered : (c : CheckpointParts) (job : CheckpointState) → HasNoted texts c job → is_ascending (entries_if c.entries) ≡ true
  noted_ordered c job h = ap (λ x. is_ascending (entries_if x)) h.entries ∙ h.are_entries.ascending

  phase_ordered : (c : CheckpointParts) (job : CheckpointState) (phase : CheckpointPhase) → HoldsPhase texts c job phase → is_ascending (entries_if c.entries) ≡ true
  phase_ordered c job checkpoints.Combining h = noted_ordered c job h.noted
  phase_ordered c job checkpoints.Pages h = noted_ordered c job h.0.noted
  phase_ordered c job checkpoints.Index h = noted_ordered c job h.0.noted
  phase_ordered c job (checkpoints.Record index) h = noted_ordered c job h.writes.noted
  phase_ordered c job (checkpoints.Trim before to_blob q) h = none_ordered c h.0

  -- the fixed layer, whatever is under way
  fixed_ordered : (c : CheckpointParts) (control : Option CheckpointState) → HoldsCheckpoint texts c control → is_ascending (entries_if c.entries) ≡ true
  fixed_ordered c None h = none_ordered c h
  fixed_ordered c (Some job) h = phase_ordered c job job.phase h

  module _ (run : Run) (v : RangeView) (r : RangeState) (streams : StreamsKept texts run v) (k : Serves texts run v r) where
    abbrev g : ℕ
    g = r.load.generation

    abbrev s : Serving
    s = held first_beginning run g

    abbrev m : Matches texts v s r
    m = k.matches

    -- the range's own layers, within its keys
    pub known_table : (key : Bytes) → within r.said.keys key ≡ true → table_in texts (served_entries texts r) key ≡ flat (known_at texts r key)
    known_table key inside =
        table_flat texts (served_entries texts r) key
        ∙ ap flat (served_layer texts r r.said.indexes key m.installed (written_ascending texts r.said.indexes (written_named texts r.said.indexes m.named.indexes)) (ascending_if r.live m.ordered)
        (fixed_ordered (parts_of v s r) r.control m.checkpoint) inside)
        ∙ ap (λ x. flat (over (layer_in texts r.live) (λ q. over x (indexed (layer_at texts) r.said.indexes) q) key)) (λ i q. newer_same r.fixed q i)

    all_out : (story : Story (Numbered Transaction)) (line : List Transaction) (out : Option (OutAppend Transaction)) → HasLine story g line out → line_through story g ≡ line ++ items_out out
    all_out story line None h = h.is_line ∙ sym (append-nil line)
    all_out story line (Some out) h = h.is_line

    -- a range that is served is at its line within its keys, by any copies that belong to its loads
    pub at_own_keys : (rows : ℕ → List Row) → ShowsLayers (layer_at texts) first_beginning rows run → (order : KeepsOrder (log_of v)) → EndsRise (log_of v) → KeepsOrder (metadata_of v) → OutFits r.out → AllStand texts v.answered →
        IsAtLineWithin texts r.said.keys (log_of v) order.copies r
    at_own_keys rows shows order ends metadata_order fits stand = record {
      keys_are = refl;
      position = m.position ∙ position_at g (layer_at texts) run streams.chain ∙ ap (λ l. end_to l g) streams.log ∙ end_renamed (log_of v) g;
      next = m.next ∙ own.next ∙ (λ i. suc (length (line_is i)) + count i);
      table = λ key there. known_table key there ∙ own.table key there ∙ ap (λ l. after_line l empty_table key) line_is;
    }
      where
        copies : ℕ → List (Copy (Numbered Transaction))
        copies l = map (renamed_copy decoded) (order.copies l)

        of_log : (o : KeepsOrder (renamed decoded (log_of v))) → EndsRise (renamed decoded (log_of v)) → IsAtOwnLine texts o.copies run s r
        of_log = subst (λ (z : Story (Numbered Transaction)). (o : KeepsOrder z) → EndsRise z → IsAtOwnLine texts o.copies run s r) streams.log
            (λ o rise. at_own_line texts run v r m k.shown fits rows streams.chain shows o rise (subst (λ z. KeepsOrder z) (sym streams.metadata) (renamed_keeps decoded_record (metadata_of v) metadata_order)) stand)

        own : IsAtOwnLine texts copies run s r
        own = subst (λ c. IsAtOwnLine texts c run s r) (renamed_copies decoded (log_of v) order) (of_log (renamed_keeps decoded (log_of v) order) (renamed_ends_rise decoded (log_of v) ends))

        story_is : whole (Numbered Transaction) copies (chains.log_of run) ≡ renamed decoded (whole Group order.copies (log_of v))
        story_is = ap (whole (Numbered Transaction) copies) streams.log ∙ whole_renamed decoded order.copies (log_of v)

        line_is : own.line ≡ line_to (renamed decoded (whole Group order.copies (log_of v))) g
        line_is =
            append_cancel_right own.line (line_to (whole (Numbered Transaction) copies (chains.log_of run)) g) (items_out s.out)
            (sym (all_out (whole (Numbered Transaction) copies (chains.log_of run)) own.line s.out own.of_generation) ∙ sym (through_line g (layer_at texts) copies run streams.chain))
            ∙ ap (λ z. line_to z g) story_is

        count : length (items_out s.out) ≡ length (waiting_out r.out)
        count = ap (λ o. length (items_out o)) m.out ∙ out_count (v.history.append _) r.out fits
