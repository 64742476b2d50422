-- What a checkpoint that combines comes to with the pages that it merges: those that are at hand, and one that has come.
use Rattle.std.proofs.Common.{◌≡◌, ℕ, List, [], ◌∷◌, true, Option, Some, None, refl}
use Rattle.block_types.specs.declared.record.Nodes.{Nodes}
use Rattle.wire.specs.declared.body.AppendBody.{AppendBody}
use Rattle.wire.specs.declared.body.AppendBody.TheVariants as appends
use Rattle.wire.specs.declared.body.Body.{Body}
use Rattle.wire.specs.declared.body.Body.TheVariants as bodies
use Rattle.wire.specs.declared.body.ReadBody.{ReadBody}
use Rattle.wire.specs.declared.body.ReadBody.TheVariants as reads
use Rattle.wire.specs.declared.refusal.Refusal.TheVariants as refusals
use Rattle.memtable.specs.declared.cell.Place.{Place}
use Rattle.memtable.specs.Entries.{Entries}
use Rattle.client.specs.declared.job.Place.TheVariants.{First}
use Rattle.checkpoint_format.specs.Page.{entries_at}
use Rattle.checkpoint.specs.Merges.{MergeState, next_place, with_at_hand, with_page}
use Rattle.model_streams.proofs.Tests.{if_elim}
use Rattle.model_partition.specs.CheckpointStates.{CheckpointState}
use Rattle.model_partition.specs.declared.server_context.ServerContext.{ServerContext}
use Rattle.model_partition.specs.declared.waiting.PlaceRead.{PlaceRead}
use Rattle.model_partition.specs.Range.{RangeState, RangeOutcome, request, goes, answers, dropped}
use Rattle.model_partition.specs.PlaceReads.{is_place, place_of, places_of, reads_place}
use Rattle.model_partition.specs.Getting.{held_at}
use Rattle.model_partition.specs.Checkpoints.{combined_job, writes_pages, writes_combined, asks_page, merges_next, merges, page_comes, page_read, page_bytes, page_told}
use Rattle.model_partition.specs.Answering.{load_refused, page_reply}

-- ---- pages are merged

-- the read of a page
abbrev pub read_of : ServerContext → Place → PlaceRead
read_of d place = record { request = request d; place = place; page = true; replica = First }

-- the job that has merged this
abbrev pub merged : CheckpointState → MergeState → CheckpointState
merged job merge = record job { merge = merge }

-- no page is read any more
abbrev pub unread : RangeState → RangeState
unread r = record r { reading = None }

-- The next page is asked for, or is in an extent that the load was not told of, or what all of them come to is written over the
-- fixed layer, if there is one.
module _ (Is : RangeOutcome → Type 0) (d : ServerContext) (r : RangeState) (job : CheckpointState) (rests : Is (goes d (unread r) [] []))
    (waits : (merge : MergeState) → Is (goes d (record (unread r) { control = Some (merged job merge) }) [] []))
    (asks : (merge : MergeState) (place : Place) (places : Nodes) → next_place merge ≡ Some place → places_of r place.extent ≡ Some places →
    Is (goes d (record r { reading = Some (read_of d place); control = Some (merged job merge) }) (reads_place d places (read_of d place) ∷ []) []))
    (writes : (merge : MergeState) (newer : Entries) → next_place merge ≡ None → r.fixed ≡ Some newer → Is (writes_pages d (unread r) (combined_job (merged job merge) newer))) where
  asks_elim : (merge : MergeState) (place : Place) → next_place merge ≡ Some place → (places : Option Nodes) → places_of r place.extent ≡ places →
      Is (asks_page d (record (unread r) { control = Some (merged job merge) }) place places)
  asks_elim merge place is None e = waits merge
  asks_elim merge place is (Some places) e = asks merge place places is e

  writes_elim : (merge : MergeState) → next_place merge ≡ None → (fixed : Option Entries) → r.fixed ≡ fixed → Is (writes_combined d (unread r) (merged job merge) fixed)
  writes_elim merge is None e = rests
  writes_elim merge is (Some newer) e = writes merge newer is e

  next_elim : (merge : MergeState) (next : Option Place) → next_place merge ≡ next → Is (merges_next d (unread r) (merged job merge) next)
  next_elim merge None is = writes_elim merge is r.fixed refl
  next_elim merge (Some place) is = asks_elim merge place is (places_of r place.extent) refl

  pub merges_elim : Is (merges d r job)
  merges_elim =
      let merge : MergeState = with_at_hand (held_at r.held) r.said.keys job.merge in
      next_elim merge (next_place merge) refl

-- ---- a page has come

-- an answer to the read of a page changes nothing, drops the range, or is the page that was to be merged next
module _ (Is : RangeOutcome → Type 0) (d : ServerContext) (r : RangeState) (rests : Is (answers d r [])) (gone : Is (dropped d r))
    (read : (job : CheckpointState) (place : Place) (entries : Entries) → r.control ≡ Some job → next_place job.merge ≡ Some place →
    Is (merges d r (merged job (with_page r.said.keys job.merge entries)))) where
  comes_elim : (job : CheckpointState) → r.control ≡ Some job → (next : Option Place) → next_place job.merge ≡ next → (entries : Entries) → Is (page_comes d r job next entries)
  comes_elim job is None e entries = rests
  comes_elim job is (Some place) e entries = read job place entries is e

  read_elim : (control : Option CheckpointState) → r.control ≡ control → (entries : Option Entries) → Is (page_read d r control entries)
  read_elim None is entries = rests
  read_elim (Some job) is None = rests
  read_elim (Some job) is (Some entries) = comes_elim job is (next_place job.merge) refl entries

  bytes_elim : (reading : Option PlaceRead) (place : Place) (bytes : List ℕ) → Is (page_bytes d r reading place bytes)
  bytes_elim None place bytes = rests
  bytes_elim (Some asked) place bytes = if_elim Is (is_place asked.place place) _ _ (λ t. read_elim r.control refl (entries_at bytes)) (λ f. rests)

  told_elim : (body : ReadBody) → Is (page_told d r body)
  told_elim (reads.Bytes v e offset bytes) = bytes_elim r.reading (place_of e offset bytes) bytes
  told_elim body = rests

  refused_elim : (body : AppendBody) → Is (load_refused d r body)
  refused_elim (appends.Refused v refusals.Stale) = gone
  refused_elim body = rests

  pub page_reply_elim : (body : Body) → Is (page_reply d r body)
  page_reply_elim (bodies.Read body) = told_elim body
  page_reply_elim (bodies.Append body) = refused_elim body
  page_reply_elim body = rests
