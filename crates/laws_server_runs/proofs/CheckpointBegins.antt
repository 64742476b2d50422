-- A checkpoint begins at a range that is served: what it notes, and where it is a plain one, what is appended to row data first.
use Rattle.std.proofs.Common.{◌≡◌, ℕ, Bool, true, [], ◌∷◌, Option, Some, None, refl, sym, ap, subst, inr, ◌∙◌}
use Rattle.std.specs.List.{AllByRecursion}
use Rattle.wire.specs.declared.streams.StreamKind.TheVariants as kinds
use Rattle.client.specs.Client.{ClientState, append_rule}
use Rattle.memtable.specs.Entries.{Entries, IsFit}
use Rattle.metadata.specs.Keys.{within}
use Rattle.metadata.specs.Record.{IsNext, IsPosition}
use Rattle.checkpoint_format.specs.Page.{IsPageEntry}
use Rattle.checkpoint.specs.Contents.{AreEntries}
use Rattle.checkpoint.specs.Merges.{MergeState, no_merge, next_place}
use Rattle.checkpoint.specs.PageGroups.{PagesState, pages_to_write, next_group}
use Rattle.checkpoint.proofs.Orders.{sorted_from_ascending}
use Rattle.checkpoint.proofs.PageGroups.{pages_begin}
use Rattle.model_partition.specs.declared.checkpoint_job.CheckpointPhase.{CheckpointPhase}
use Rattle.model_partition.specs.declared.checkpoint_job.CheckpointPhase.TheVariants as checkpoints
use Rattle.model_partition.specs.declared.server_context.ServerContext.{ServerContext}
use Rattle.model_partition.specs.declared.waiting.PlaceRead.{PlaceRead}
use Rattle.model_partition.specs.CheckpointStates.{CheckpointState}
use Rattle.model_partition.specs.Checkpoints.{number_to_apply, new_job, with_phase, index_if_fit, next_append, rows_go, writes_pages, with_fixed, begins_pages}
use Rattle.model_partition.specs.Loading.{Group}
use Rattle.model_partition.specs.Past.{Bytes}
use Rattle.model_partition.specs.Range.{RangeState}
use Rattle.model_histories.specs.ServedTables.{AllStand}
use Rattle.model_histories.specs.ServerRun.{place_number}
use Rattle.laws_loads.proofs.Rows.{Ordered}
use Rattle.laws_loads.specs.MemoryLayers.{layer_in}
use Rattle.laws_loads.specs.RangeView.{RangeView, Free}
use Rattle.laws_loads.specs.Sound.{OutFits}
use Rattle.laws_tables.specs.Runs as chains
use Rattle.laws_tables.specs.Runs.{Run, Serving, first_beginning, held, noting, said, IsServing, MayInChain}
use Rattle.laws_checkpoints.specs.IndexLayers.{layer_at}
use Rattle.laws_checkpoints.proofs.CheckpointRecords.{job_notes}
use Rattle.laws_checkpoints.proofs.WrittenPages.{writing_begins}
use Rattle.laws_checkpoints.specs.WritingPages.{WritesPages}
use Rattle.laws_server_runs.specs.CheckpointInvariant.{CheckpointParts, parts_of, HoldsNone, HasNoted, Writes, HoldsPhase, HoldsCheckpoint, AppendsPhase, AppendsRows, ReadsNext, out_beside, MetadataBeside, AppendsMetadata}
use Rattle.laws_server_runs.specs.NamedIndexes.{NamesSuch}
use Rattle.laws_server_runs.specs.RangeInvariant.{IsOfPages, append_of, Matches}
use Rattle.laws_server_runs.proofs.MetadataJobs.{free_beside, free_out, free_none, idle_metadata}
use Rattle.laws_server_runs.proofs.RowAppends.{idle_phase, appended_group, pages_group, index_group_is}
use Rattle.client.specs.declared.job.Job.TheVariants as jobs
use Rattle.model_partition.specs.Range.{request, picking, given}
use Rattle.laws_checkpoints.specs.ShownTables.{AreInstalled}

module _ (texts : ℕ → Bytes) where
  -- what a range holds is what its run says, but for its checkpoint
  pub record MatchesBeside (v : RangeView) (s : Serving) (r : RangeState) : Type 0 where
    pub position : place_number r.position ≡ s.position
    pub next : r.next ≡ s.next
    pub out : s.out ≡ append_of (v.history.append kinds.Log) r.out
    pub live : AllStand texts v.answered → (key : Bytes) → within r.said.keys key ≡ true → layer_in texts r.live key ≡ s.live key
    pub said : r.said ≡ said first_beginning s.records
    pub installed : AreInstalled texts r.indexes r.said.indexes
    pub ordered : Ordered r.live
    pub named : NamesSuch (IsOfPages texts) r.said
    -- it is not split, and nothing is appended to its metadata
    pub free : v.split ≡ Free
    pub idle : r.metadata.job ≡ jobs.Idle

  pub beside : (v : RangeView) (s : Serving) (r : RangeState) → Matches texts v s r → v.split ≡ Free → r.metadata.job ≡ jobs.Idle → MatchesBeside v s r
  beside v s r m free idle = record { position = m.position; next = m.next; out = m.out; live = m.live; said = m.said; installed = m.installed; ordered = m.ordered; named = m.named; free = free; idle = idle }

  -- a range that is dropped holds nothing
  abbrev pub MatchesIf : RangeView → Serving → Option RangeState → Type 0
  MatchesIf v s None = Unit {0}
  MatchesIf v s (Some r) = Matches texts v s r

  -- whatever is merged and written, its position and its next number are noted
  abbrev pub noted_with : (c : CheckpointParts) (job : CheckpointState) (combine : Bool) (merge : MergeState) (pages : PagesState) (phase : CheckpointPhase) → HasNoted texts c job →
      HasNoted texts c (record job { combine = combine; merge = merge; pages = pages; phase = phase })
  noted_with c job combine merge pages phase h = record {
    fixed = h.fixed;
    entries = h.entries;
    are_entries = h.are_entries;
    layer = h.layer;
    noted = h.noted;
    position = h.position;
    number = h.number;
  }

  -- the checkpoint waits for something else
  writes_phase : (c : CheckpointParts) (job : CheckpointState) (phase : CheckpointPhase) → Writes texts c job → Writes texts c (with_phase job phase)
  writes_phase c job phase h = record { noted = noted_with c job job.combine job.merge job.pages phase h.noted; are_written = h.are_written; pages = h.pages; merged = h.merged }

  -- no page is to be merged
  pub nothing_next : (reading : Option PlaceRead) (job : CheckpointState) → job.merge ≡ no_merge → ReadsNext reading (Some job)
  nothing_next reading job none read place out next = absurd (let z : None ≡ Some place = sym (ap next_place none) ∙ next in cc)

  -- ---- what is appended to row data

  module _ (v : RangeView) (s : Serving) (r : RangeState) (m : MatchesBeside v s r) (d : ServerContext) where
    -- whatever becomes of the client of row data, and of the read of a page
    pub with_control : (reading : Option PlaceRead) (c : ClientState) (job : CheckpointState) → HoldsPhase texts (parts_of v s r) job job.phase → AppendsPhase c job job.phase → ReadsNext reading (Some job) →
        Matches texts v s (record r { reading = reading; rows = c; control = Some job })
    with_control reading c job h appends next =
        record {
          position = m.position;
          next = m.next;
          out = m.out;
          live = m.live;
          checkpoint = h;
          said = m.said;
          installed = m.installed;
          ordered = m.ordered;
          named = m.named;
          rows = appends;
          reads = next;
          beside = free_beside v.split m.free (v.history.append kinds.Metadata) s.record_out (Some job) r.said.next;
          metadata = idle_metadata r.metadata.job m.idle v.split (free_none v.split m.free) (Some job);
        }

    go : r.rows.job ≡ jobs.Idle → (job : CheckpointState) → HoldsPhase texts (parts_of v s r) job job.phase → ReadsNext r.reading (Some job) → (group : Option Group) →
        ((c : ClientState) (some : Group) → group ≡ Some some → c.group ≡ some → AppendsPhase c job job.phase) → MatchesIf v s (rows_go d r (job, group)).after
    go idle job h next None appends = with_control r.reading r.rows job h (idle_phase r.rows idle job job.phase) next
    go idle job h next (Some group) appends =
        let c : ClientState = (given (picking d r.rows) (append_rule (picking d r.rows) (request d) group)).after in
        with_control r.reading c job h (appends c group refl (appended_group (picking d r.rows) (request d) group idle)) next

    -- the next pages are appended, and behind the last ones the index
    pub writes_on : (job : CheckpointState) → Writes texts (parts_of v s r) job → out_beside v.split s.record_out ≡ None → r.rows.job ≡ jobs.Idle → MatchesIf v s (writes_pages d r job).after
    writes_on job h none idle = by (next_group job.pages) refl
      where
        by : (group : Option Group) → next_group job.pages ≡ group → MatchesIf v s (rows_go d r (next_append job group)).after
        by (Some group) e =
            go idle (with_phase job checkpoints.Pages) (writes_phase (parts_of v s r) job checkpoints.Pages h, none) (nothing_next r.reading (with_phase job checkpoints.Pages) h.merged) (Some group)
            (λ c some is same. inr (same ∙ pages_group job.pages some (e ∙ is)))
        by None e =
            go idle (with_phase job checkpoints.Index) (writes_phase (parts_of v s r) job checkpoints.Index h, none, e) (nothing_next r.reading (with_phase job checkpoints.Index) h.merged) (index_if_fit job.pages.index)
            (λ c some is same. inr (same ∙ index_group_is job.pages.index some is))

  -- ---- it begins

  pub each_fit : (entries : Entries) → AllByRecursion IsPageEntry entries → AllByRecursion IsFit entries
  each_fit [] each = tt
  each_fit (entry ∷ entries) each = (each.0.0, each_fit entries each.1)

  -- none of the pages of these entries is written yet
  pub begin_pages : (entries : Entries) → AreEntries entries → WritesPages texts entries (pages_to_write entries)
  begin_pages entries are = writing_begins texts entries (pages_begin entries (each_fit entries are.each) (sorted_from_ascending entries are.ascending))

  -- The range has no checkpoint, its live layer can be written in pages, and its position and its next number in a record.
  module _ (v : RangeView) (s : Serving) (r : RangeState) (m : Matches texts v s r) (none : r.control ≡ None) (are : AreEntries r.live) (at : IsPosition r.position) (number : IsNext (number_to_apply r.out r.next))
      (fits : OutFits r.out) (free : v.split ≡ Free) where
    pub nothing : HoldsNone (parts_of v s r)
    nothing = subst (HoldsCheckpoint texts (parts_of v s r)) none m.checkpoint

    abbrev pub noted_now : HasNoted texts (parts_of v (noting s) (with_fixed r)) (new_job r)
    noted_now = record {
      fixed = r.live;
      entries = refl;
      are_entries = are;
      layer = m.live;
      noted = job_notes (v.history.append kinds.Log) r s m.position m.next m.out fits;
      position = at;
      number = number;
    }

    writes_now : Writes texts (parts_of v (noting s) (with_fixed r)) (new_job r)
    writes_now = record { noted = noted_now; are_written = are; pages = λ all. begin_pages r.live are; merged = refl }

    metadata_idle : r.metadata.job ≡ jobs.Idle
    metadata_idle = subst (MetadataBeside r.metadata.job) free (subst (AppendsMetadata r.metadata.job v.split) none m.metadata)

    pub beside_now : MatchesBeside v (noting s) (with_fixed r)
    beside_now = record { position = m.position; next = m.next; out = m.out; live = λ all key there. refl; said = m.said; installed = m.installed; ordered = tt; named = m.named; free = free; idle = metadata_idle }

    pub idle_now : r.rows.job ≡ jobs.Idle
    idle_now = subst (AppendsRows r.rows) none m.rows

    -- what is fixed and noted is what the run says then
    pub plain_begins : (d : ServerContext) → MatchesIf v (noting s) (begins_pages d r).after
    plain_begins d = writes_on v (noting s) (with_fixed r) beside_now d (new_job r) writes_now nothing.record_out idle_now

  -- and it may note it
  pub may_note : (run : Run) (v : RangeView) (r : RangeState) → IsServing run r.load.generation → Matches texts v (held first_beginning run r.load.generation) r → r.control ≡ None → v.split ≡ Free →
      MayInChain (layer_at texts) first_beginning run (chains.Notes r.load.generation)
  may_note run v r serving m none free =
      let h : HoldsNone (parts_of v (held first_beginning run r.load.generation) r) =
      subst (HoldsCheckpoint texts (parts_of v (held first_beginning run r.load.generation) r)) none m.checkpoint in
      (serving, h.noted, sym (free_out v.split free (held first_beginning run r.load.generation).record_out) ∙ h.record_out)
