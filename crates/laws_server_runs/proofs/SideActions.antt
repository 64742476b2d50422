-- What a split does with streams of the two ranges that it makes: it appends records to their metadata, and to no other's.
use Rattle.std.proofs.Common.{◌≡◌, ℕ, List, [], ◌∷◌, ◌++◌, Option, Some, None, sym}
use Rattle.std.specs.List.{AllByRecursion}
use Rattle.wire.specs.declared.body.AppendBody.{AppendBody}
use Rattle.wire.specs.declared.body.AppendBody.TheVariants as appends
use Rattle.wire.specs.declared.body.Body.{Body}
use Rattle.wire.specs.declared.body.Body.TheVariants as bodies
use Rattle.wire.specs.declared.body.StreamBody.{StreamBody}
use Rattle.wire.specs.declared.body.StreamBody.TheVariants as streams
use Rattle.wire.specs.declared.refusal.Refusal.TheVariants as refusals
use Rattle.wire.specs.declared.streams.StreamKind.TheVariants as kinds
use Rattle.streams.specs.declared.table.Position.{Position}
use Rattle.client.specs.declared.job.News.{News}
use Rattle.client.specs.declared.job.News.TheVariants as news
use Rattle.client.specs.Client.{ClientState, reply_rule}
use Rattle.model_streams.proofs.Tests.{if_elim}
use Rattle.model_partition.specs.declared.server_context.ServerContext.{ServerContext}
use Rattle.model_partition.specs.declared.split_job.Side.{Side}
use Rattle.model_partition.specs.declared.split_job.Side.TheVariants.{Low, High}
use Rattle.model_partition.specs.declared.split_job.SplitJob.{SplitJob}
use Rattle.model_partition.specs.declared.split_job.SplitPhase.{SplitPhase}
use Rattle.model_partition.specs.declared.split_job.SplitPhase.TheVariants as phases
use Rattle.model_partition.specs.Loading.{Group}
use Rattle.model_partition.specs.Splits.{side_range, may_say_keys}
use Rattle.model_partition.specs.Range.{RangeState, request, picking}
use Rattle.model_histories.specs.StreamActions.{Forms, Stands, SideAction, keys_said, keys_after, keys_told, built_refused, built_told, built, sides_in, split_sides}
use Rattle.laws_server_runs.specs.ChildInvariant.{keys_group}
use Rattle.laws_server_runs.specs.RunInvariant.{IsApartIn, IsApart}
use Rattle.laws_server_runs.proofs.Actions.{AreOthers}
use Rattle.laws_server_runs.proofs.LaidSplits.{AppendsRecord}

-- a property of each that appends to the metadata of one of the two
module _ (Is : SideAction → Type 0) (d : ServerContext) (r : RangeState) (job : SplitJob) where
  abbrev AllAre : List SideAction → Type 0
  AllAre sides = AllByRecursion Is sides

  -- those that a phase leads to
  module _ (forms : (side : Side) → Is (record { range = side_range job side; action = Forms kinds.Metadata (keys_group r job side) }))
      (stands : (side : Side) (extent : ℕ) (at : Position) (group : Group) → Is (record { range = side_range job side; action = Stands kinds.Metadata extent at group })) where
    said_are : (side : Side) → AllAre (keys_said r job side)
    said_are side = if_elim AllAre (may_say_keys r job) _ _ (λ t. (forms side, tt)) (λ f. tt)

    after_are : (side : Side) → AllAre (keys_after r job side)
    after_are Low = said_are High
    after_are High = tt

    both_are : (xs ys : List SideAction) → AllAre xs → AllAre ys → AllAre (xs ++ ys)
    both_are [] ys a b = b
    both_are (x ∷ xs) ys a b = (a.0, both_are xs ys a.1 b)

    pub told_are : (side : Side) (c : ClientState) (said : Option News) → AllAre (keys_told r job side c said)
    told_are side c (Some (news.Appended e offset)) = both_are (keys_after r job side) _ (after_are side) (stands side e _ _, tt)
    told_are side c None = tt
    told_are side c (Some news.Fenced) = tt
    told_are side c (Some (news.Checked e l)) = tt
    told_are side c (Some (news.Sealed e l)) = tt
    told_are side c (Some (news.Content e upto)) = tt

    refused_are : (body : AppendBody) → AllAre (built_refused r job body)
    refused_are (appends.Refused w refusals.NameTaken) = said_are Low
    refused_are body = tt

    stream_are : (body : StreamBody) → AllAre (built_told r job body)
    stream_are (streams.Modified w) = said_are Low
    stream_are body = tt

    pub built_are : (body : Body) → AllAre (built r job body)
    built_are (bodies.Append body) = refused_are body
    built_are (bodies.Stream body) = stream_are body
    built_are body = tt

-- they append records
pub sides_append : (d : ServerContext) (r : RangeState) (job : SplitJob) (body : Body) → AllByRecursion (λ (side : SideAction). AppendsRecord side.action) (split_sides d r job body)
sides_append d r job body = by job.phase
  where
    by : (phase : SplitPhase) → AllByRecursion (λ (side : SideAction). AppendsRecord side.action) (sides_in d r job phase body)
    by (phases.Keys side c) = told_are (λ (side : SideAction). AppendsRecord side.action) d r job (λ s. tt) (λ s e at group. tt) side c (reply_rule (picking d c) (request d) body).news
    by (phases.Build q) = built_are (λ (side : SideAction). AppendsRecord side.action) d r job (λ s. tt) (λ s e at group. tt) body
    by (phases.Begin q) = tt
    by phases.Checkpoint = tt
    by phases.Queue = tt
    by phases.Record = tt
    by (phases.Seal kind q) = tt
    by (phases.Complete q) = tt

-- to no metadata of a range that is none of the two
pub sides_others : (k : ℕ) (d : ServerContext) (r : RangeState) (job : SplitJob) (body : Body) → IsApart k job → AreOthers k (split_sides d r job body)
sides_others k d r job body apart = by job.phase apart
  where
    other : (job.low ≡ k → ⊥) × (job.high ≡ k → ⊥) → (side : Side) → k ≡ side_range job side → ⊥
    other apart Low e = apart.0 (sym e)
    other apart High e = apart.1 (sym e)

    by : (phase : SplitPhase) → IsApartIn k job phase → AreOthers k (sides_in d r job phase body)
    by (phases.Keys side c) apart =
        told_are (λ (side : SideAction). k ≡ side.range → ⊥) d r job (λ s. other apart s) (λ s e at group. other apart s) side c (reply_rule (picking d c) (request d) body).news
    by (phases.Build q) apart = built_are (λ (side : SideAction). k ≡ side.range → ⊥) d r job (λ s. other apart s) (λ s e at group. other apart s) body
    by (phases.Begin q) apart = tt
    by phases.Checkpoint apart = tt
    by phases.Queue apart = tt
    by phases.Record apart = tt
    by (phases.Seal kind q) apart = tt
    by (phases.Complete q) apart = tt
