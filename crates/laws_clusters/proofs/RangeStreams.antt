-- The streams of a range: they are all there, or absent, and then nobody asks for them; servers ask to build none but those of a split.
use Rattle.std.proofs.Common.{◌≡◌, ◌⊎◌, ℕ, ◌≤◌, true, List, Contains, ap, ◌∙◌, inl, inr}
use Rattle.wire.specs.declared.actor.ActorId.{ActorId}
use Rattle.wire.specs.declared.actor.ActorId.TheVariants.{Server}
use Rattle.wire.specs.declared.actor.ReqNo.{ReqNo}
use Rattle.wire.specs.declared.body.Body.{Body}
use Rattle.wire.specs.declared.body.Body.TheVariants as bodies
use Rattle.wire.specs.declared.body.StreamBody.TheVariants.{OpenStreams, Confirm, Extend, MultiModify}
use Rattle.wire.specs.declared.streams.Modify.{Modify}
use Rattle.wire.specs.declared.streams.StreamKind.{StreamKind}
use Rattle.wire.specs.declared.streams.StreamName.{StreamName}
use Rattle.streams.specs.Streams.{stream_of}
use Rattle.model_streams.specs.Manager.{Catalog}
use Rattle.model_streams.specs.Outcome.{packet}
use Rattle.model_streams.specs.StreamSystem.{StreamSystem, is_told}
use Rattle.model_partition.specs.declared.split_job.SplitJob.{SplitJob}
use Rattle.model_partition.specs.Splits.{all_streams}
use Rattle.model_histories.specs.ServerRun.{stream_named}
use Rattle.laws_stream_machine.specs.Refinement.{IsThere}
use Rattle.laws_stream_machine.proofs.BuiltStreams.{NobodyAsked, IsAbsent}

-- ---- streams that are there

-- no stream goes
abbrev pub AllStay : StreamSystem → StreamSystem → Type 0
AllStay w v = (name : StreamName) → IsThere w name → IsThere v name

-- all streams of a range are there
abbrev pub HasStreams : StreamSystem → ℕ → Type 0
HasStreams w range = (kind : StreamKind) → IsThere w (stream_named range kind)

pub catalog_stays : (w v : StreamSystem) → v.catalog ≡ w.catalog → AllStay w v
catalog_stays w v same name (x, there) = (x, ap (λ (b : Catalog). stream_of b.stream name) same ∙ there)

pub streams_stay : (w v : StreamSystem) → AllStay w v → (range : ℕ) → HasStreams w range → HasStreams v range
streams_stay w v stay range has kind = stay (stream_named range kind) (has kind)

-- the streams of two ranges, as a split has them built, of one that has its streams
pub record IsOfSplit (w : StreamSystem) (list : List Modify) : Type 0 where
  pub job : SplitJob
  pub is : list ≡ all_streams job
  pub counted : 1 ≤ job.range
  pub sides : (1 ≤ job.low) × (1 ≤ job.high)
  pub streams : HasStreams w job.range

-- servers ask to build no others
abbrev pub AreOfSplits : StreamSystem → Type 0
AreOfSplits w =
    (server : ℕ) (to : ActorId) (list : List Modify) (q : ReqNo) → Contains w.post (packet (Server server) to (bodies.Stream (MultiModify list q))) → (m : Modify) → Contains list m → IsOfSplit w list

pub split_stays : (w v : StreamSystem) → AllStay w v → (list : List Modify) → IsOfSplit w list → IsOfSplit v list
split_stays w v stay list s = record { job = s.job; is = s.is; counted = s.counted; sides = s.sides; streams = streams_stay w v stay s.job.range s.streams }

-- ---- streams that are absent

-- it asks for other streams
abbrev pub LeavesAlone : StreamName → Body → Type 0
LeavesAlone name (bodies.Stream (OpenStreams range g q)) = range ≡ name.range → ⊥
LeavesAlone name (bodies.Stream (Confirm range g q)) = range ≡ name.range → ⊥
LeavesAlone name (bodies.Stream (Extend stream g last pick q)) = stream ≡ name → ⊥
LeavesAlone name body = Unit {0}

-- what servers and the map tell asks for none
pub told_alone : (name : StreamName) (body : Body) → is_told body ≡ true → LeavesAlone name body
told_alone name (bodies.Stream body) told = absurd cc
told_alone name body told = tt

-- what servers ask was asked before, or asks for other streams
abbrev pub AsksOthers : StreamName → StreamSystem → StreamSystem → Type 0
AsksOthers name w v = (server : ℕ) (to : ActorId) (body : Body) → Contains v.post (packet (Server server) to body) → Contains w.post (packet (Server server) to body) ⊎ LeavesAlone name body

pub nobody_on : (name : StreamName) (w v : StreamSystem) → AsksOthers name w v → NobodyAsked name w → NobodyAsked name v
nobody_on name w v others none = record {
  opens = λ server to range g q there. elim (others server to (bodies.Stream (OpenStreams range g q)) there) [ inl old ↦ none.opens server to range g q old | inr new ↦ new ];
  confirms = λ server to range g q there. elim (others server to (bodies.Stream (Confirm range g q)) there) [ inl old ↦ none.confirms server to range g q old | inr new ↦ new ];
  extends = λ server to stream g last pick q there. elim (others server to (bodies.Stream (Extend stream g last pick q)) there) [ inl old ↦ none.extends server to stream g last pick q old | inr new ↦ new ];
}

-- with the same catalog it is absent still
pub absent_on : (name : StreamName) (w v : StreamSystem) → v.catalog ≡ w.catalog → AsksOthers name w v → IsAbsent name w → IsAbsent name v
absent_on name w v same others x = record { nobody = nobody_on name w v others x.nobody; absent = ap (λ (b : Catalog). stream_of b.stream name) same ∙ x.absent }
