-- The streams of a range over the events of a checkpoint: what is noted, its record and the Trim.
use Rattle.std.proofs.Common.{◌≡◌, ⊎_elim, ℕ, ◌+◌, ◌∷◌, sym, ap, subst}
use Rattle.block_types.specs.Limits.{group_size}
use Rattle.wire.specs.declared.streams.StreamKind.TheVariants as kinds
use Rattle.streams.specs.declared.table.Position.{Position}
use Rattle.metadata.specs.declared.record.MetaItem.{MetaItem}
use Rattle.commitlog.specs.Replay.{Numbered}
use Rattle.model_partition.specs.Loading.{Group}
use Rattle.model_partition.specs.Past.{Bytes}
use Rattle.model_histories.specs.Renaming.{decoded_record}
use Rattle.model_histories.specs.ServerRun.{place_number}
use Rattle.model_histories.specs.Story.{StreamEvent, Made, Answered}
use Rattle.model_histories.specs.StreamActions.{Forms, Stands}
use Rattle.laws_loads.specs.RangeView.{RangeView, view_after, metadata_of}
use Rattle.laws_tables.proofs.Range.{event_cases}
use Rattle.laws_tables.specs.Runs as chains
use Rattle.laws_tables.specs.Runs.{Run, first_beginning, MayInChain}
use Rattle.laws_checkpoints.specs.IndexLayers.{layer_at}
use Rattle.laws_server_runs.specs.RangeInvariant.{IsRecord, IsOfPages, StreamsKept}

module _ (texts : ℕ → Bytes) (run : Run) (v : RangeView) (streams : StreamsKept texts run v) (g : ℕ) where
  -- nothing is done with a stream
  pub noted_streams : MayInChain (layer_at texts) first_beginning run (chains.Notes g) → StreamsKept texts (chains.Notes g ∷ run) v
  noted_streams may = record {
    log = streams.log;
    metadata = streams.metadata;
    chain = (may, streams.chain);
    spelled = streams.spelled;
    records = streams.records;
  }

  pub trimmed_streams : (place : ℕ) → MayInChain (layer_at texts) first_beginning run (chains.Trims g place) → StreamsKept texts (chains.Trims g place ∷ run) v
  trimmed_streams place may = record {
    log = streams.log;
    metadata = streams.metadata;
    chain = (may, streams.chain);
    spelled = streams.spelled;
    records = streams.records;
  }

  -- a record's append begins
  pub recording_streams : (number : ℕ) (item : MetaItem) (group : Group) → decoded_record group ≡ chains.record_group number item → IsRecord (IsOfPages texts) group →
      MayInChain (layer_at texts) first_beginning run (chains.Records g number item) → StreamsKept texts (chains.Records g number item ∷ run) (view_after g v (Forms kinds.Metadata group))
  recording_streams number item group spells is may = record {
    log = streams.log;
    metadata = (λ i. Made g (sym spells i) ∷ streams.metadata i);
    chain = (may, streams.chain);
    spelled = streams.spelled;
    records = λ a h one at.
        ⊎_elim {C = IsRecord (IsOfPages texts) one}
        (λ new.
        let e : Made g group ≡ Made h one = new.1 in
        let same : group ≡ one = cc in
        subst (IsRecord (IsOfPages texts)) same is)
        (λ old. streams.records a h one old)
        (event_cases Group (Made g group) (metadata_of v) a (Made h one) at);
  }

  -- it is answered
  pub recorded_streams : (e : ℕ) (at : Position) (group : Group) →
      MayInChain (layer_at texts) first_beginning run (chains.Recorded g (v.history.append kinds.Metadata) (place_number at) (place_number at + group_size group)) →
      StreamsKept texts (chains.Recorded g (v.history.append kinds.Metadata) (place_number at) (place_number at + group_size group) ∷ run) (view_after g v (Stands kinds.Metadata e at group))
  recorded_streams e at group may = record {
    log = streams.log;
    metadata = ap (λ l. told_named ∷ l) streams.metadata;
    chain = (may, streams.chain);
    spelled = streams.spelled;
    records = λ a h one there.
        ⊎_elim {C = IsRecord (IsOfPages texts) one} (λ new. (let z : told ≡ Made h one = new.1 in absurd cc)) (λ old. streams.records a h one old)
        (event_cases Group told (metadata_of v) a (Made h one) there);
  }
    where
      told : StreamEvent Group
      told = Answered (v.history.append kinds.Metadata) (place_number at) (place_number at + group_size group)

      told_named : StreamEvent (Numbered MetaItem)
      told_named = Answered (v.history.append kinds.Metadata) (place_number at) (place_number at + group_size group)
