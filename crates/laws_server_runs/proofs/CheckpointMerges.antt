-- A checkpoint that combines merges the older pages: those that are held, then the next one that is asked for, and once all are merged
-- what they and the fixed layer come to is written.
use Rattle.std.proofs.Common.{◌≡◌, ℕ, Bool, true, false, [], Option, Some, None, refl, sym, ap, subst, ◌∙◌}
use Rattle.std.specs.Prelude.{if◌then◌else◌}
use Rattle.model_streams.proofs.Tests.{if_elim}
use Rattle.block_types.specs.declared.record.Nodes.{Nodes}
use Rattle.wire.specs.declared.body.AppendBody.{AppendBody}
use Rattle.wire.specs.declared.body.AppendBody.TheVariants as appends
use Rattle.wire.specs.declared.body.Body.{Body}
use Rattle.wire.specs.declared.body.Body.TheVariants as bodies
use Rattle.wire.specs.declared.body.ReadBody.TheVariants as reads
use Rattle.wire.specs.declared.refusal.Refusal.TheVariants as refusals
use Rattle.memtable.specs.declared.cell.Place.{Place}
use Rattle.memtable.specs.Entries.{Entries}
use Rattle.metadata.specs.Record.{IsNext, IsPosition}
use Rattle.client.specs.declared.job.Job.TheVariants as jobs
use Rattle.checkpoint_format.specs.Page.{entries_at}
use Rattle.checkpoint.specs.Contents.{AreEntries}
use Rattle.checkpoint.specs.Merges.{MergeState, no_merge, merge_of, next_place, with_at_hand, with_page}
use Rattle.checkpoint.specs.PageGroups.{no_pages, pages_to_write, will_fit}
use Rattle.checkpoint.specs.Pages.{combined}
use Rattle.model_partition.specs.declared.checkpoint_job.CheckpointPhase.{CheckpointPhase}
use Rattle.model_partition.specs.declared.checkpoint_job.CheckpointPhase.TheVariants as checkpoints
use Rattle.model_partition.specs.declared.server_context.ServerContext.{ServerContext}
use Rattle.model_partition.specs.declared.waiting.PlaceRead.{PlaceRead}
use Rattle.model_partition.specs.Answering.{load_refused, page_reply}
use Rattle.model_partition.specs.CheckpointStates.{CheckpointState}
use Rattle.model_partition.specs.Checkpoints.{number_to_apply, new_job, new_combining_job, combined_pages, combined_job, writes_pages, writes_combined, asks_page, merges_next, merges, with_fixed, begins_combining, page_comes, page_read, page_bytes}
use Rattle.model_partition.specs.Getting.{held_at}
use Rattle.model_histories.specs.IndexContents.{bytes_in, page_in}
use Rattle.model_partition.specs.Past.{Bytes}
use Rattle.model_partition.specs.PlaceReads.{is_place, place_of, places_of}
use Rattle.model_partition.specs.Range.{RangeState, answers}
use Rattle.model_partition.specs.Servers.{entries_if}
use Rattle.laws_loads.proofs.PageAnswers.{read_of, merged, unread}
use Rattle.wire.specs.declared.streams.StreamKind.TheVariants as kinds
use Rattle.laws_loads.specs.RangeView.{RangeView, Free}
use Rattle.laws_loads.specs.Sound.{OutFits}
use Rattle.laws_tables.specs.Runs.{Serving, noting}
use Rattle.laws_checkpoints.specs.CombinedLayers.{merged_with, installed_entries, written_entries}
use Rattle.laws_checkpoints.specs.ShownTables.{HoldsBytes}
use Rattle.laws_checkpoints.specs.WritingPages.{WritesPages}
use Rattle.laws_checkpoints.proofs.CombinedLayers.{merged_begins, merged_goes, merged_held, merged_ends, written_are}
use Rattle.laws_checkpoints.proofs.HeldPages.{same_place}
use Rattle.laws_server_runs.specs.CheckpointInvariant.{parts_of, Merges, Writes, HoldsPhase, HoldsCheckpoint, AppendsPhase, AppendsRows, ReadsNext, MetadataPhase, AppendsMetadata}
use Rattle.laws_server_runs.specs.RangeInvariant.{Matches}
use Rattle.laws_server_runs.proofs.CheckpointBegins.{MatchesBeside, MatchesIf, beside, noted_with, with_control, writes_on, begin_pages, noted_now, beside_now, idle_now, nothing}
use Rattle.laws_server_runs.proofs.MetadataJobs.{is_free}
use Rattle.laws_server_runs.proofs.NamedIndexes.{written_named}

module _ (texts : ℕ → Bytes) where
  module _ (v : RangeView) (s : Serving) (r : RangeState) (m : MatchesBeside texts v s r) (d : ServerContext) (job : CheckpointState) (combines : job.phase ≡ checkpoints.Combining) (h : Merges texts (parts_of v s r) job)
      (idle : r.rows.job ≡ jobs.Idle) where
    -- what the pages that are left make of what was merged
    abbrev IsMerge : MergeState → Type 0
    IsMerge merge = merged_with texts r.said.keys merge.entries merge.left ≡ installed_entries texts r.said.keys r.indexes

    -- more of them are merged
    merging : (merge : MergeState) → IsMerge merge → HoldsPhase texts (parts_of v s r) (merged job merge) job.phase
    merging merge is =
        subst (HoldsPhase texts (parts_of v s r) (merged job merge)) (sym combines)
        (record { noted = noted_with texts (parts_of v s r) job job.combine merge job.pages job.phase h.noted; none = h.none; combine = h.combine; merged = is })

    waits_idle : (merge : MergeState) → AppendsPhase r.rows (merged job merge) job.phase
    waits_idle merge = subst (AppendsPhase r.rows (merged job merge)) (sym combines) idle

    asks_match : (merge : MergeState) (place : Place) → IsMerge merge → next_place merge ≡ Some place → (places : Option Nodes) →
        MatchesIf texts v s (asks_page d (record (unread r) { control = Some (merged job merge) }) place places).after
    asks_match merge place is next None =
        with_control texts v s r m d None r.rows (merged job merge) (merging merge is) (waits_idle merge) (λ read other out e. absurd cc)
    asks_match merge place is next (Some places) =
        with_control texts v s r m d (Some (read_of d place)) r.rows (merged job merge) (merging merge is) (waits_idle merge)
        (λ read other out e.
        let same : read_of d place ≡ read = cc in
        let first : Some place ≡ Some other = sym next ∙ e in
        let there : place ≡ other = cc in
        ap (λ (z : PlaceRead). z.place) (sym same) ∙ there)

    -- ---- all are merged

    module _ (merge : MergeState) (is : IsMerge merge) (none_next : next_place merge ≡ None) where
      all_merged : merge.entries ≡ installed_entries texts r.said.keys r.indexes
      all_merged = sym (merged_ends texts r.said.keys merge none_next) ∙ is

      -- what is written where it combines
      abbrev entries_now : Entries
      entries_now = written_entries texts job.combine r.said.keys r.indexes h.noted.fixed

      are_now : AreEntries entries_now
      are_now = written_are texts job.combine r.said.keys r.indexes r.said.indexes h.noted.fixed m.installed (written_named texts r.said.indexes m.named.indexes) h.noted.are_entries

      module _ (newer : Entries) (there : r.fixed ≡ Some newer) where
        fixed_is : h.noted.fixed ≡ newer
        fixed_is = let same : Some h.noted.fixed ≡ Some newer = sym h.noted.entries ∙ there in cc

        are_those : entries_now ≡ combined merge.entries (Some newer)
        are_those =
            ap (λ b. written_entries texts b r.said.keys r.indexes h.noted.fixed) h.combine
            ∙ (λ i. combined (sym all_merged i) (Some (fixed_is i)))

        combined_writes : Writes texts (parts_of v s r) (record job { merge = no_merge; pages = combined_pages merge newer })
        combined_writes = record {
          noted = noted_with texts (parts_of v s r) job job.combine no_merge (combined_pages merge newer) job.phase h.noted;
          are_written = are_now;
          pages = λ all. subst (λ es. WritesPages texts entries_now (pages_to_write es)) are_those (begin_pages texts entries_now are_now);
          merged = refl;
        }

        plain_writes : Writes texts (parts_of v s r) (record job { combine = false; merge = no_merge; pages = pages_to_write newer })
        plain_writes = record {
          noted = noted_with texts (parts_of v s r) job false no_merge (pages_to_write newer) job.phase h.noted;
          are_written = h.noted.are_entries;
          pages = λ all. subst (λ es. WritesPages texts h.noted.fixed (pages_to_write es)) fixed_is (begin_pages texts h.noted.fixed h.noted.are_entries);
          merged = refl;
        }

        unread_beside : MatchesBeside texts v s (unread r)
        unread_beside = record { position = m.position; next = m.next; out = m.out; live = m.live; said = m.said; installed = m.installed; ordered = m.ordered; named = m.named; free = m.free; idle = m.idle }

        written_match : MatchesIf texts v s (writes_pages d (unread r) (combined_job (merged job merge) newer)).after
        written_match =
            if_elim (λ (next : CheckpointState). MatchesIf texts v s (writes_pages d (unread r) next).after) (will_fit (combined_pages merge newer)) _ _
            (λ t. writes_on texts v s (unread r) unread_beside d (record job { merge = no_merge; pages = combined_pages merge newer }) combined_writes h.none idle)
            (λ f. writes_on texts v s (unread r) unread_beside d (record job { combine = false; merge = no_merge; pages = pages_to_write newer }) plain_writes h.none idle)

      writes_match : (fixed : Option Entries) → r.fixed ≡ fixed → MatchesIf texts v s (writes_combined d (unread r) (merged job merge) fixed).after
      writes_match None gone = absurd (let z : None ≡ Some h.noted.fixed = sym gone ∙ h.noted.entries in cc)
      writes_match (Some newer) there = written_match newer there

    next_match : (merge : MergeState) → IsMerge merge → (next : Option Place) → next_place merge ≡ next → MatchesIf texts v s (merges_next d (unread r) (merged job merge) next).after
    next_match merge is None e = writes_match merge is e r.fixed refl
    next_match merge is (Some place) e = asks_match merge place is e (places_of r place.extent)

    -- where what the cache holds are the bytes of its places
    pub merges_match : HoldsBytes texts r.held → MatchesIf texts v s (merges d r job).after
    merges_match right =
        let merge : MergeState = with_at_hand (held_at r.held) r.said.keys job.merge in
        next_match merge (merged_held texts r.said.keys r.held right job.merge ∙ h.merged) (next_place merge) refl

  -- ---- it begins

  -- what is fixed and noted is what the run says then
  pub combining_begins : (v : RangeView) (s : Serving) (r : RangeState) (m : Matches texts v s r) (none : r.control ≡ None) (are : AreEntries r.live) (at : IsPosition r.position) (number : IsNext (number_to_apply r.out r.next))
      (fits : OutFits r.out) (free : v.split ≡ Free) (d : ServerContext) → HoldsBytes texts r.held → MatchesIf texts v (noting s) (begins_combining d r).after
  combining_begins v s r m none are at number fits free d right =
      merges_match v (noting s) (with_fixed r) (beside_now texts v s r m none are at number fits free) d (new_combining_job r) refl
      (record {
        noted = noted_with texts (parts_of v (noting s) (with_fixed r)) (new_job r) true (merge_of r.indexes) no_pages checkpoints.Combining (noted_now texts v s r m none are at number fits free);
        none = (nothing texts v s r m none are at number fits free).record_out;
        combine = refl;
        merged = merged_begins texts r.said.keys r.indexes;
      })
      (idle_now texts v s r m none are at number fits free) right

  -- ---- a page has come

  module _ (v : RangeView) (s : Serving) (r : RangeState) (m : Matches texts v s r) (right : HoldsBytes texts r.held) (d : ServerContext) where
    -- the checkpoint that is under way
    module _ (job : CheckpointState) (under_way : r.control ≡ Some job) where
      free_now : v.split ≡ Free
      free_now = is_free v.split (v.history.append kinds.Metadata) s.record_out r.control r.said.next job under_way m.beside

      phase_now : MetadataPhase r.metadata.job job.phase
      phase_now = subst (AppendsMetadata r.metadata.job v.split) under_way m.metadata

    module _ (place : Place) (entries : Entries) (says : page_in texts place ≡ entries) where
      -- nothing else waits for a page
      by_phase : (job : CheckpointState) → r.control ≡ Some job → (phase : CheckpointPhase) → job.phase ≡ phase → HoldsPhase texts (parts_of v s r) job phase → AppendsPhase r.rows job phase → next_place job.merge ≡ Some place →
          MatchesIf texts v s (merges d r (merged job (with_page r.said.keys job.merge entries))).after
      by_phase job under_way checkpoints.Combining is h idle next =
          merges_match v s r (beside texts v s r m (free_now job under_way) (subst (MetadataPhase r.metadata.job) is (phase_now job under_way))) d (merged job (with_page r.said.keys job.merge entries)) is
          (record {
            noted = noted_with texts (parts_of v s r) job job.combine (with_page r.said.keys job.merge entries) job.pages job.phase h.noted;
            none = h.none;
            combine = h.combine;
            merged = merged_goes texts r.said.keys job.merge place entries next says ∙ h.merged;
          })
          idle right
      by_phase job under_way checkpoints.Pages is h idle next = absurd (let z : None ≡ Some place = sym (ap next_place h.0.merged) ∙ next in cc)
      by_phase job under_way checkpoints.Index is h idle next = absurd (let z : None ≡ Some place = sym (ap next_place h.0.merged) ∙ next in cc)
      by_phase job under_way (checkpoints.Record index) is h idle next = absurd (let z : None ≡ Some place = sym (ap next_place h.writes.merged) ∙ next in cc)
      by_phase job under_way (checkpoints.Trim before to_blob q) is h idle next = absurd (let z : None ≡ Some place = sym (ap next_place h.1) ∙ next in cc)

    -- bytes of the place that is read, which stand there
    module _ (asked : PlaceRead) (out : r.reading ≡ Some asked) (at : Place) (there : is_place asked.place at ≡ true) (bytes : Bytes) (stand : bytes_in texts at ≡ bytes) where
      comes_match : (job : CheckpointState) → r.control ≡ Some job → HoldsPhase texts (parts_of v s r) job job.phase → AppendsPhase r.rows job job.phase → ReadsNext r.reading (Some job) → (entries : Entries) → entries_at bytes ≡ Some entries →
          (next : Option Place) → next_place job.merge ≡ next → MatchesIf texts v s (page_comes d r job next entries).after
      comes_match job under_way h idle reads entries spells None e = m
      comes_match job under_way h idle reads entries spells (Some place) e =
          let is_there : place ≡ at = sym (reads asked place out e) ∙ same_place asked.place at there in
          let says : page_in texts place ≡ entries = ap (page_in texts) is_there ∙ ap (λ b. entries_if (entries_at b)) stand ∙ ap entries_if spells in
          by_phase place entries says job under_way job.phase refl h idle e

      pub read_match : (control : Option CheckpointState) → r.control ≡ control → HoldsCheckpoint texts (parts_of v s r) control → AppendsRows r.rows control → ReadsNext r.reading control → (entries : Option Entries) → entries_at bytes ≡ entries →
          MatchesIf texts v s (page_read d r control entries).after
      read_match None under_way h idle reads entries spells = m
      read_match (Some job) under_way h idle reads None spells = m
      read_match (Some job) under_way h idle reads (Some entries) spells = comes_match job under_way h idle reads entries spells (next_place job.merge) refl

    bytes_match : (reading : Option PlaceRead) → r.reading ≡ reading → (at : Place) (bytes : Bytes) → bytes_in texts at ≡ bytes → MatchesIf texts v s (page_bytes d r reading at bytes).after
    bytes_match None out at bytes stand = m
    bytes_match (Some asked) out at bytes stand = by (is_place asked.place at) refl
      where
        by : (b : Bool) → is_place asked.place at ≡ b → MatchesIf texts v s (if b then page_read d r r.control (entries_at bytes) else answers d r []).after
        by true there = read_match asked out at there bytes stand r.control refl m.checkpoint m.rows m.reads (entries_at bytes) refl
        by false other = m

    -- what the bytes are that an answer brings, if it brings any
    abbrev pub BytesStand : Body → Type 0
    BytesStand (bodies.Read (reads.Bytes w e offset bytes)) = bytes_in texts (place_of e offset bytes) ≡ bytes
    BytesStand body = Unit {0}

    refused_match : (body : AppendBody) → MatchesIf texts v s (load_refused d r body).after
    refused_match (appends.Refused w refusals.Stale) = tt
    refused_match body = m

    -- the answer to the read of a page
    pub page_reply_match : (body : Body) → BytesStand body → MatchesIf texts v s (page_reply d r body).after
    page_reply_match (bodies.Read (reads.Bytes w e offset bytes)) stand = bytes_match r.reading refl (place_of e offset bytes) bytes stand
    page_reply_match (bodies.Read body) stand = m
    page_reply_match (bodies.Append body) stand = refused_match body
    page_reply_match body stand = m
