-- The tables of a range that is served are those of a line that its generation has come to, whatever checkpoint is under way: its memory
-- table over its fixed layer, and this over what its indexes say.
use Rattle.std.proofs.Common.{◌≡◌, ℕ, suc, ◌+◌, arith, length, true, List, map, Option, Some, None, sym, ap, ◌∙◌}
use Rattle.std.specs.Prelude.{if◌then◌else◌, is_some}
use Rattle.wire.specs.declared.rows.Row.{Row}
use Rattle.wire.specs.declared.streams.StreamKind.TheVariants as kinds
use Rattle.metadata.specs.Fold.{MetadataState}
use Rattle.metadata.specs.Keys.{within}
use Rattle.commitlog.specs.Replay.{Numbered}
use Rattle.model_partition.specs.declared.checkpoint_job.CheckpointPhase.{CheckpointPhase}
use Rattle.model_partition.specs.declared.checkpoint_job.CheckpointPhase.TheVariants as checkpoints
use Rattle.model_partition.specs.CheckpointStates.{CheckpointState}
use Rattle.model_partition.specs.Checkpoints.{number_to_apply, new_job}
use Rattle.model_partition.specs.Past.{Bytes, Transaction, after_line, empty_table}
use Rattle.model_partition.specs.Range.{RangeState}
use Rattle.model_histories.specs.ServedTables.{AllStand}
use Rattle.model_histories.specs.ServerRun.{place_number}
use Rattle.model_histories.specs.Story.{Copy, EndsRise, KeepsOrder, placed, whole}
use Rattle.laws_loads.specs.MemoryLayers.{layer_in}
use Rattle.laws_loads.specs.RangeView.{RangeView}
use Rattle.laws_loads.specs.Sound.{OutFits}
use Rattle.laws_tables.specs.Layers.{Layer, over, flat, indexed}
use Rattle.laws_tables.specs.Runs as chains
use Rattle.laws_tables.specs.Runs.{NotedPosition, Run, Serving, items_out, first_beginning, held, noted_next, said, ShowsLayers, IsServing}
use Rattle.laws_tables.specs.Through.{OutAppend, HasLine}
use Rattle.laws_tables.proofs.Final.{first_begins, first_behind}
use Rattle.laws_tables.proofs.Holds.{HoldsRightly, NumberIs}
use Rattle.laws_tables.proofs.Machine.{Inv, inv_of}
use Rattle.laws_tables.proofs.Whole.{to_shown}
use Rattle.laws_checkpoints.specs.IndexLayers.{layer_at}
use Rattle.laws_checkpoints.proofs.Checkpoints.{newer_layer}
use Rattle.laws_checkpoints.proofs.CheckpointRecords.{job_notes}
use Rattle.laws_server_runs.specs.CheckpointInvariant.{CheckpointParts, parts_of, HoldsNone, HasNoted, HoldsPhase, HoldsCheckpoint}
use Rattle.laws_server_runs.specs.RangeInvariant.{Matches}

module _ (texts : ℕ → Bytes) where
  -- ---- the fixed layer

  module _ (c : CheckpointParts) (all : AllStand texts c.answered) (key : Bytes) (there : within c.keys key ≡ true) where
    abbrev FixedIs : Type 0
    FixedIs = newer_layer texts c.entries key ≡ c.layer key

    none_is : HoldsNone c → FixedIs
    none_is h = ap (λ e. newer_layer texts e key) h.entries ∙ ap (λ (l : Layer). l key) (sym h.layer)

    noted_is : (job : CheckpointState) → HasNoted texts c job → FixedIs
    noted_is job h = ap (λ e. newer_layer texts e key) h.entries ∙ h.layer all key there

    phase_is : (job : CheckpointState) (phase : CheckpointPhase) → HoldsPhase texts c job phase → FixedIs
    phase_is job checkpoints.Combining h = noted_is job h.noted
    phase_is job checkpoints.Pages h = noted_is job h.0.noted
    phase_is job checkpoints.Index h = noted_is job h.0.noted
    phase_is job (checkpoints.Record index) h = noted_is job h.writes.noted
    phase_is job (checkpoints.Trim before to_blob q) h = none_is h.0

    -- it is what the run says within the range's keys, whatever is under way
    pub fixed_is : (control : Option CheckpointState) → HoldsCheckpoint texts c control → FixedIs
    fixed_is None h = none_is h
    fixed_is (Some job) h = phase_is job job.phase h

  -- ---- all layers

  -- what is known of a key: the memory table over the fixed layer, and this over the indexes
  abbrev pub known_at : RangeState → Layer
  known_at r = over (layer_in texts r.live) (over (newer_layer texts r.fixed) (indexed (layer_at texts) r.said.indexes))

  abbrev said_by : Serving → Layer
  said_by s = over s.live (over s.fixed (indexed (layer_at texts) (said first_beginning s.records).indexes))

  known_is : (v : RangeView) (s : Serving) (r : RangeState) → Matches texts v s r → AllStand texts v.answered → (key : Bytes) → within r.said.keys key ≡ true → known_at r key ≡ said_by s key
  known_is v s r m all key there = λ i.
      if is_some (m.live all key there i) then m.live all key there i
      else (if is_some (fixed_is (parts_of v s r) all key there r.control m.checkpoint i) then fixed_is (parts_of v s r) all key there r.control m.checkpoint i
      else indexed (layer_at texts) (m.said i).indexes key)

  -- ---- the line

  -- A range is at a line of its generation: its layers make the line's table, within its keys, and what is applied next is numbered behind it.
  pub record IsAtOwnLine (order : ℕ → List (Copy (Numbered Transaction))) (run : Run) (s : Serving) (r : RangeState) : Type 0 where
    pub line : List Transaction
    pub of_generation : HasLine (whole (Numbered Transaction) order (chains.log_of run)) r.load.generation line s.out
    pub number : number_to_apply r.out r.next ≡ suc (length line)
    pub next : s.next ≡ suc (length line) + length (items_out s.out)
    pub table : (key : Bytes) → within r.said.keys key ≡ true → flat (known_at r key) ≡ after_line line empty_table key

  module _ (run : Run) (v : RangeView) (r : RangeState) (m : Matches texts v (held first_beginning run r.load.generation) r) (serving : IsServing run r.load.generation) (fits : OutFits r.out) where
    abbrev g : ℕ
    g = r.load.generation

    abbrev s : Serving
    s = held first_beginning run g

    -- the number that is applied next, as the run has it
    next_number : noted_next s.out s.next ≡ number_to_apply r.out r.next
    next_number =
        let notes : Some (record { place = s.position; next = noted_next s.out s.next }) ≡ Some (record { place = place_number (new_job r).position; next = (new_job r).next }) =
        job_notes (v.history.append kinds.Log) r s m.position m.next m.out fits in
        ap next_if notes
      where
        next_if : Option NotedPosition → ℕ
        next_if None = 0
        next_if (Some n) = n.next

    by_number : (out : Option (OutAppend Transaction)) (next : ℕ) (line : List Transaction) → NumberIs out next line → noted_next out next ≡ suc (length line)
    by_number None next line h = h
    by_number (Some out) next line h = h.0

    next_behind : (out : Option (OutAppend Transaction)) (next : ℕ) (line : List Transaction) → NumberIs out next line → next ≡ suc (length line) + length (items_out out)
    next_behind None next line h = omega (arith, h)
    next_behind (Some out) next line h = let first = h.0 in let more : next ≡ out.group.first + length out.group.items = h.1 in omega (arith, first, more)

    -- where its streams keep their order, and its loads show what their layers say
    pub at_own_line : (rows : ℕ → List Row) → chains.IsChainRun (layer_at texts) first_beginning run → ShowsLayers (layer_at texts) first_beginning rows run →
        (order : KeepsOrder (chains.log_of run)) → EndsRise (chains.log_of run) → KeepsOrder (chains.meta_of run) → AllStand texts v.answered → IsAtOwnLine order.copies run s r
    at_own_line rows chain shows order ends metadata_order all =
        let inv : Inv (layer_at texts) first_beginning rows order.copies run =
        inv_of (layer_at texts) first_beginning rows run (first_begins (layer_at texts)) chain shows order ends (first_behind (layer_at texts) (chains.log_of run) order) metadata_order in
        let h : HoldsRightly (layer_at texts) first_beginning (whole (Numbered Transaction) order.copies (chains.log_of run)) (chains.meta_of run) g s =
        inv.holds g (serving.0, 0, serving.2, map placed (order.copies serving.0), to_shown (Numbered Transaction) order.copies (chains.log_of run) serving.0 g serving.1 serving.2 serving.3 serving.4) in
        record {
          line = h.line;
          of_generation = h.has_line;
          number = sym next_number ∙ by_number s.out s.next h.line h.number;
          next = next_behind s.out s.next h.line h.number;
          table = λ key there. ap flat (known_is v s r m all key there) ∙ h.table key (ap (λ (z : MetadataState). within z.keys key) (sym m.said) ∙ there);
        }
