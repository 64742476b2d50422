-- What a split appends to the metadata of the two ranges that it makes names no index.
use Rattle.std.proofs.Common.{◌≡◌, ◌⊎◌, ⊎_elim, ℕ, ◌+◌, Bool, true, false, ◌&&◌, ◌==◌, List, [], ◌∷◌, Some, subst, inl, inr, if◌then◌else◌}
use Rattle.std.specs.List.{AllByRecursion}
use Rattle.block_types.specs.Limits.{group_size}
use Rattle.wire.specs.declared.body.Body.{Body}
use Rattle.wire.specs.declared.streams.StreamKind.TheVariants as kinds
use Rattle.client.specs.Client.{reply_rule}
use Rattle.memtable.specs.declared.cell.Place.{Place}
use Rattle.model_partition.specs.declared.server_context.ServerContext.{ServerContext}
use Rattle.model_partition.specs.declared.split_job.SplitJob.{SplitJob}
use Rattle.model_partition.specs.declared.split_job.SplitPhase.{SplitPhase}
use Rattle.model_partition.specs.declared.split_job.SplitPhase.TheVariants as phases
use Rattle.model_partition.specs.Loading.{Group}
use Rattle.model_partition.specs.Range.{RangeState, request, picking}
use Rattle.model_histories.specs.ServerRun.{ServerRun, after_action, after_sides, place_number, is_kind, metadata_name}
use Rattle.model_histories.specs.Story.{StreamEvent, Made, Answered, Story, event_at}
use Rattle.model_histories.specs.StreamActions.{StreamAction, Reads, Forms, Stands, Shows, Finds, Stores, SideAction, sides_in, split_sides}
use Rattle.laws_tables.proofs.Range.{event_cases}
use Rattle.laws_server_runs.specs.RangeInvariant.{IsCheckpointRecord}
use Rattle.laws_server_runs.proofs.RecordKinds.{keys_no_index}
use Rattle.laws_server_runs.proofs.SideActions.{told_are, built_are}

-- the places of whose indexes this is so
module _ (Holds : Place → Type 0) where
  -- a record that names no index is appended to metadata
  abbrev NamesNoIndex : StreamAction → Type 0
  NamesNoIndex (Forms kinds.Metadata group) = IsCheckpointRecord Holds group → ⊥
  NamesNoIndex (Stands kinds.Metadata extent at group) = Unit {0}
  NamesNoIndex action = ⊥

  abbrev NameNoIndex : List SideAction → Type 0
  NameNoIndex sides = AllByRecursion (λ (side : SideAction). NamesNoIndex side.action) sides

  -- as each of a split does
  pub sides_no_index : (d : ServerContext) (r : RangeState) (job : SplitJob) (body : Body) → NameNoIndex (split_sides d r job body)
  sides_no_index d r job body = by job.phase
    where
      by : (phase : SplitPhase) → NameNoIndex (sides_in d r job phase body)
      by (phases.Keys side c) =
          told_are (λ (one : SideAction). NamesNoIndex one.action) d r job (λ s. keys_no_index Holds r job s) (λ s e at group. tt) side c (reply_rule (picking d c) (request d) body).news
      by (phases.Build q) = built_are (λ (one : SideAction). NamesNoIndex one.action) d r job (λ s. keys_no_index Holds r job s) (λ s e at group. tt) body
      by (phases.Begin q) = tt
      by phases.Checkpoint = tt
      by phases.Queue = tt
      by phases.Record = tt
      by (phases.Seal kind q) = tt
      by (phases.Complete q) = tt

  -- ---- stories

  with_cases : (b : Bool) (e : StreamEvent Group) (story : Story Group) (a h : ℕ) (group : Group) → event_at (if b then e ∷ story else story) a ≡ Some (Made h group) → (event_at story a ≡ Some (Made h group)) ⊎ (e ≡ Made h group)
  with_cases true e story a h group at = ⊎_elim (λ new. inr new.1) (λ old. inl old) (event_cases Group e story a (Made h group) at)
  with_cases false e story a h group at = inl at

  module _ (s g k : ℕ) where
    -- it was formed before, or names no index
    abbrev IsOldOr : ServerRun → (a h : ℕ) → Group → Type 0
    IsOldOr x a h group = (event_at (x.story (metadata_name k)) a ≡ Some (Made h group)) ⊎ (IsCheckpointRecord Holds group → ⊥)

    one_made : (range : ℕ) (x : ServerRun) (action : StreamAction) → NamesNoIndex action → (a h : ℕ) (group : Group) → event_at ((after_action s range g x action).story (metadata_name k)) a ≡ Some (Made h group) → IsOldOr x a h group
    one_made range x (Forms kinds.Metadata new) none a h group at = elim (with_cases ((k == range) && is_kind kinds.Metadata kinds.Metadata) (Made g new) (x.story (metadata_name k)) a h group at) [
      | inl old ↦ inl old
      | inr made ↦ (let same : group ≡ new = cc in inr (λ c. none (subst (IsCheckpointRecord Holds) same c)))
    ]
    one_made range x (Stands kinds.Metadata extent place new) none a h group at =
        let e : StreamEvent Group = Answered ((x.history s range).append kinds.Metadata) (place_number place) (place_number place + group_size new) in
        elim (with_cases ((k == range) && is_kind kinds.Metadata kinds.Metadata) e (x.story (metadata_name k)) a h group at) [
          | inl old ↦ inl old
          | inr made ↦ (let z : e ≡ Made h group = made in absurd cc)
        ]
    one_made range x (Forms kinds.Log new) none a h group at = absurd none
    one_made range x (Forms kinds.RowData new) none a h group at = absurd none
    one_made range x (Forms kinds.BlobData new) none a h group at = absurd none
    one_made range x (Stands kinds.Log extent place new) none a h group at = absurd none
    one_made range x (Stands kinds.RowData extent place new) none a h group at = absurd none
    one_made range x (Stands kinds.BlobData extent place new) none a h group at = absurd none
    one_made range x (Reads kind read) none a h group at = absurd none
    one_made range x (Shows start log_end metadata_end) none a h group at = absurd none
    one_made range x (Finds found) none a h group at = absurd none
    one_made range x (Stores stored) none a h group at = absurd none

    pub sides_made : (x : ServerRun) (sides : List SideAction) → NameNoIndex sides → (a h : ℕ) (group : Group) → event_at ((after_sides s g x sides).story (metadata_name k)) a ≡ Some (Made h group) → IsOldOr x a h group
    sides_made x [] none a h group at = inl at
    sides_made x (side ∷ earlier) none a h group at = elim (one_made side.range (after_sides s g x earlier) side.action none.0 a h group at) [
      | inl old ↦ sides_made x earlier none.1 a h group old
      | inr new ↦ inr new
    ]
