-- What an answer to the read of an index comes to.
use Rattle.std.proofs.Common.{ℕ, List, [], Option, Some, None}
use Rattle.wire.specs.declared.body.AppendBody.{AppendBody}
use Rattle.wire.specs.declared.body.AppendBody.TheVariants as appends
use Rattle.wire.specs.declared.body.Body.{Body}
use Rattle.wire.specs.declared.body.Body.TheVariants as bodies
use Rattle.wire.specs.declared.body.ReadBody.{ReadBody}
use Rattle.wire.specs.declared.body.ReadBody.TheVariants as reads
use Rattle.wire.specs.declared.refusal.Refusal.TheVariants as refusals
use Rattle.memtable.specs.declared.cell.Place.{Place}
use Rattle.model_streams.proofs.Tests.{if_elim}
use Rattle.model_partition.specs.declared.server_context.ServerContext.{ServerContext}
use Rattle.model_partition.specs.declared.waiting.PlaceRead.{PlaceRead}
use Rattle.model_partition.specs.Range.{RangeState, RangeOutcome, answers, dropped}
use Rattle.model_partition.specs.PlaceReads.{is_place, place_of}
use Rattle.model_partition.specs.Loading.{index_read, index_bytes}
use Rattle.model_partition.specs.Answering.{load_refused, index_told, index_reply}

-- it changes nothing, drops the range, or is read
module _ (Is : RangeOutcome → Type 0) (d : ServerContext) (r : RangeState) (rests : Is (answers d r [])) (gone : Is (dropped d r)) (read : (bytes : List ℕ) → Is (index_read d r r.stage bytes)) where
  bytes_elim : (reading : Option PlaceRead) (place : Place) (bytes : List ℕ) → Is (index_bytes d r reading place bytes)
  bytes_elim None place bytes = rests
  bytes_elim (Some asked) place bytes = if_elim Is (is_place asked.place place) _ _ (λ t. read bytes) (λ f. rests)

  told_elim : (body : ReadBody) → Is (index_told d r body)
  told_elim (reads.Bytes v e offset bytes) = bytes_elim r.reading (place_of e offset bytes) bytes
  told_elim body = rests

  refused_elim : (body : AppendBody) → Is (load_refused d r body)
  refused_elim (appends.Refused v refusals.Stale) = gone
  refused_elim body = rests

  pub index_reply_elim : (body : Body) → Is (index_reply d r body)
  index_reply_elim (bodies.Read body) = told_elim body
  index_reply_elim (bodies.Append body) = refused_elim body
  index_reply_elim body = rests
