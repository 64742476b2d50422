-- What the steps of a checkpoint do with streams: nothing, or bytes of row data stand, and the group of its record is formed, or that group stands.
use Rattle.std.proofs.Common.{ℕ, ◌^◌, nat_lt, List, [], ◌∷◌, ◌++◌, Option, Some, None}
use Rattle.wire.specs.declared.body.Body.{Body}
use Rattle.wire.specs.declared.streams.StreamKind.TheVariants as kinds
use Rattle.streams.specs.declared.table.Position.{Position}
use Rattle.client.specs.declared.job.News.{News}
use Rattle.client.specs.declared.job.News.TheVariants as news
use Rattle.replica.specs.Groups.{joined}
use Rattle.client.specs.Client.{reply_rule}
use Rattle.model_streams.proofs.Tests.{if_elim}
use Rattle.model_partition.specs.CheckpointStates.{CheckpointState}
use Rattle.model_partition.specs.declared.checkpoint_job.CheckpointPhase.{CheckpointPhase}
use Rattle.model_partition.specs.declared.checkpoint_job.CheckpointPhase.TheVariants as checkpoints
use Rattle.model_partition.specs.declared.server_context.ServerContext.{ServerContext}
use Rattle.model_partition.specs.Checkpoints.{may_record, index_place, rows_may_stand}
use Rattle.model_partition.specs.Loading.{Group}
use Rattle.model_partition.specs.Range.{RangeState, request, picking}
use Rattle.model_histories.specs.StreamActions.{PlacedBytes, StreamAction, Forms, Stands, Stores, last_position, record_group, record_stood_in, record_stood, record_actions, index_stood_in, index_stood, rows_told_actions, rows_actions}

-- an answer to row data's client
module _ (Is : List StreamAction → Type 0) (d : ServerContext) (r : RangeState) (nothing : Is []) (stores : (stored : PlacedBytes) → Is (Stores stored ∷ []))
    (forms : (group : Group) (stored : PlacedBytes) → Is (Forms kinds.Metadata group ∷ Stores stored ∷ [])) where
  index_stood_elim : (stored : PlacedBytes) (job : CheckpointState) (phase : CheckpointPhase) (e offset : ℕ) → Is (index_stood_in r job phase e offset ++ Stores stored ∷ [])
  index_stood_elim stored job checkpoints.Index e offset =
      if_elim (λ (actions : List StreamAction). Is (actions ++ Stores stored ∷ [])) (may_record r job) _ _ (λ t. forms (record_group r job (index_place job e offset)) stored) (λ f. stores stored)
  index_stood_elim stored job phase e offset = stores stored

  index_elim : (stored : PlacedBytes) (job : Option CheckpointState) (e offset : ℕ) → Is (index_stood r job e offset ++ Stores stored ∷ [])
  index_elim stored None e offset = stores stored
  index_elim stored (Some job) e offset = index_stood_elim stored job job.phase e offset

  told_elim : (told : Option News) → Is (rows_told_actions r told)
  told_elim (Some (news.Appended e offset)) =
      let stored : PlacedBytes = record { extent = e; offset = offset; bytes = joined r.rows.group } in
      if_elim (λ (actions : List StreamAction). Is (actions ++ Stores stored ∷ [])) (nat_lt e (2 ^ 64)) (index_stood r r.control e offset) [] (λ t. index_elim stored r.control e offset) (λ f. stores stored)
  told_elim told = nothing

  pub rows_actions_elim : (body : Body) → Is (rows_actions d r body)
  rows_actions_elim body = if_elim Is (rows_may_stand r.control body) _ _ (λ t. told_elim (reply_rule (picking d r.rows) (request d) body).news) (λ f. nothing)

-- news of the metadata's client while the range is served
module _ (Is : List StreamAction → Type 0) (r : RangeState) (nothing : Is []) (stands : (extent : ℕ) (at : Position) (group : Group) → Is (Stands kinds.Metadata extent at group ∷ [])) where
  record_elim : (job : CheckpointState) (phase : CheckpointPhase) (e offset : ℕ) → Is (record_stood_in r job phase e offset)
  record_elim job (checkpoints.Record index) e offset = stands e (last_position r.metadata offset) (record_group r job index)
  record_elim job phase e offset = nothing

  stood_elim : (job : Option CheckpointState) (e offset : ℕ) → Is (record_stood r job e offset)
  stood_elim None e offset = nothing
  stood_elim (Some job) e offset = record_elim job job.phase e offset

  pub record_actions_elim : (told : Option News) → Is (record_actions r told)
  record_actions_elim (Some (news.Appended e offset)) = stood_elim r.control e offset
  record_actions_elim told = nothing
