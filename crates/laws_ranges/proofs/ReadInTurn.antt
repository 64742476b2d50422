-- The extents of a stream are read in turn: no turn of the incarnation, and one request.
use Rattle.std.proofs.Common.{◌≡◌, ℕ, suc, ◌+◌, ◌-◌, List, length, true, false, Option, Some, None, is_some, refl, sym, ap, ◌∙◌, subst, arith, slice_get, if◌then◌else◌}
use Rattle.wire.specs.declared.streams.StreamExtent.{StreamExtent}
use Rattle.wire.specs.declared.streams.StreamName.{StreamName}
use Rattle.client.specs.declared.job.Job.TheVariants as jobs
use Rattle.client.specs.declared.job.Place.TheVariants.{First}
use Rattle.client.specs.Client.{ClientState, Outcome, last_extent, read_at, read_whole, read_checked_at, read_open}
use Rattle.model_streams.specs.StreamSystem.{StreamSystem}
use Rattle.model_partition.specs.declared.server_context.ServerContext.{ServerContext}
use Rattle.model_partition.specs.Range.{request, given}
use Rattle.model_partition.specs.Loading.{read_by, read_of}
use Rattle.laws_stream_machine.specs.Refinement.{Sent, purpose_of}
use Rattle.laws_ranges.specs.Serves.{Stand, LastIs, FoundIs, LoadingIs, Listed, Goes}
use Rattle.laws_ranges.proofs.AppendJob.{rests}
use Rattle.laws_ranges.proofs.LoadTurns.{reads_goes, found_of, live_last}

module _ (generation : ℕ → ℕ) (name : StreamName) (w : StreamSystem) (i : ℕ) (listed : Listed w name) (sent : List Sent) (d : ServerContext) (fresh : purpose_of sent (request d) ≡ None) (x : Stand) (before : ClientState)
    (l : LoadingIs generation name w i x sent (record before { job = jobs.Idle })) (position : ℕ) where
  abbrev Reader : ClientState
  Reader = record before { job = jobs.Idle }

  abbrev Reads : Outcome → Type 0
  Reads o = Goes generation name w i x sent (request d) (λ y more. LoadingIs generation name w i y more o.after) o.packet

  sealed_read : (z : StreamExtent) (m : ℕ) → slice_get before.extents position ≡ Some z → z.length ≡ Some m → Reads (given Reader (read_at Reader (request d) (slice_get before.extents position)))
  sealed_read z m at e =
      subst (λ s. Reads (given Reader (read_at Reader (request d) s))) (sym at)
      (subst (λ k. Reads (given Reader (read_whole Reader (request d) z k))) (sym e)
      (reads_goes generation name w i listed sent (request d) fresh x Reader z.extent (before.base + position) m z.places true First l.told l.opened l.job (l.told.tells.are position z at) (λ u. absurd (cc))))

  open_read : (z : StreamExtent) → slice_get before.extents position ≡ Some z → z.length ≡ None → Reads (given Reader (read_checked_at Reader (request d) (last_extent before.extents)))
  open_read z at e =
      let index_is : suc position ≡ length before.extents = l.told.tells.unsealed position z at e in
      let back : length before.extents - 1 ≡ position = omega (arith, index_is) in
      let end : last_extent before.extents ≡ Some z = subst (λ k. slice_get before.extents k ≡ Some z) (sym back) at in
      let last : LastIs Reader z.extent (before.base + position) = record { places = z.places; last = end ∙ ap (λ k. Some (record z { length = k })) e; index_is = omega (arith, index_is) } in
      let f : FoundIs generation name w i x sent Reader = found_of generation name w i x sent Reader l.job (live_last Reader z.extent (before.base + position) last) in
      subst (λ s. Reads (given Reader (read_checked_at Reader (request d) s))) (sym end)
      (subst (λ k. Reads (given Reader (read_open Reader (request d) z k before.checked))) (sym e)
      (subst (λ k. Reads (given Reader (read_open Reader (request d) z None k))) (sym f.checked)
      (reads_goes generation name w i listed sent (request d) fresh x Reader z.extent (before.base + position) f.found z.places false First l.told l.opened l.job (l.told.tells.are position z at) (λ u. last))))

  read_case : (o : Option StreamExtent) → slice_get before.extents position ≡ o → Reads (read_by d Reader position o)
  read_case None at = rests generation name w i x sent (request d) _ l
  read_case (Some z) at = go z.length refl
    where
      go : (k : Option ℕ) → z.length ≡ k →
          Reads (given Reader (if is_some k then read_at Reader (request d) (slice_get before.extents position) else read_checked_at Reader (request d) (last_extent before.extents)))
      go (Some m) e = sealed_read z m at e
      go None e = open_read z at e

  -- the extent at a position is read
  pub read_goes : Reads (read_of d Reader position)
  read_goes = read_case (slice_get before.extents position) refl
