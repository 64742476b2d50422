-- What is appended to row data for a checkpoint comes to stand: its pages, and then its index, whose record may be written then.
use Rattle.std.proofs.Common.{◌≡◌, ℕ, suc, ◌+◌, ◌<◌, ◌≤◌, ◌^◌, true, nat_lt, length, Option, Some, None, sym, ap, ◌∙◌, subst, inl, arith}
use Rattle.std.specs.Prelude.{◌⊎◌}
use Rattle.std.proofs.lemmas.Bool.{ltb-true, leb-true}
use Rattle.wire.specs.declared.streams.StreamKind.TheVariants as kinds
use Rattle.memtable.specs.declared.cell.Place.{Place}
use Rattle.metadata.specs.Record.{IsNext, IsPlace}
use Rattle.replica.specs.Groups.{joined}
use Rattle.client.specs.declared.job.Job.TheVariants as jobs
use Rattle.client.specs.declared.job.News.{News}
use Rattle.client.specs.declared.job.News.TheVariants as news
use Rattle.client.specs.Client.{ClientState}
use Rattle.checkpoint_format.specs.Index.{index_group, index_size}
use Rattle.checkpoint.specs.PageGroups.{page_group, next_pages, may_stand_at}
use Rattle.model_partition.specs.declared.checkpoint_job.CheckpointPhase.{CheckpointPhase}
use Rattle.model_partition.specs.declared.checkpoint_job.CheckpointPhase.TheVariants as checkpoints
use Rattle.model_partition.specs.declared.server_context.ServerContext.{ServerContext}
use Rattle.model_partition.specs.CheckpointStates.{CheckpointState}
use Rattle.model_partition.specs.Checkpoints.{may_record, index_place, with_phase, pages_stand, writes_pages}
use Rattle.model_partition.specs.Past.{Bytes}
use Rattle.model_partition.specs.Range.{RangeState}
use Rattle.model_histories.specs.Renaming.{decoded_record}
use Rattle.model_histories.specs.ServedTables.{AllStand}
use Rattle.model_histories.specs.StreamActions.{Forms, record_group}
use Rattle.model_histories.specs.TableContents.{StandsAt}
use Rattle.laws_loads.specs.RangeView.{RangeView, Free, view_after, metadata_of}
use Rattle.laws_tables.specs.Runs as chains
use Rattle.laws_tables.specs.Runs.{Run, Serving, first_beginning, held, recording, said, IsServing, MayInChain}
use Rattle.laws_checkpoints.specs.IndexLayers.{layer_at, IsWritten}
use Rattle.laws_checkpoints.proofs.CheckpointRecords.{may_parts, said_number, record_spelled, may_checkpoint, index_written, index_filed}
use Rattle.laws_checkpoints.proofs.WrittenPages.{writing_goes}
use Rattle.laws_server_runs.specs.CheckpointInvariant.{item_of, parts_of, entries_to_write, Writes, HoldsPhase, MetadataPhase, AppendsMetadata}
use Rattle.laws_server_runs.specs.RangeInvariant.{Matches}
use Rattle.laws_server_runs.proofs.CheckpointBegins.{MatchesIf, beside, noted_with, nothing_next, writes_on}
use Rattle.laws_server_runs.proofs.MetadataJobs.{is_free, free_beside, free_out}
use Rattle.laws_server_runs.proofs.NamedIndexes.{written_named}
use Rattle.checkpoint.specs.Pages.{AreFiled}
use Rattle.checkpoint_format.specs.Page.{pages_of}
use Rattle.memtable.specs.Entries.{Entries}

-- ---- numbers

pub below : (offset size : ℕ) → nat_lt (offset + size) (2 ^ 32) ≡ true → offset < 2 ^ 32
below offset size room = let less : offset + size < 2 ^ 32 = ltb-true (offset + size) (2 ^ 32) room in omega (arith, less)

module _ (texts : ℕ → Bytes) where
  -- ---- the group that is appended

  -- it stands at an offset of an extent, by what the checkpoint waits for
  abbrev pub GroupStands : CheckpointState → CheckpointPhase → ℕ → ℕ → Type 0
  GroupStands job checkpoints.Combining e offset = Unit {0}
  GroupStands job checkpoints.Pages e offset = StandsAt (texts e) offset (joined (page_group (next_pages job.pages)))
  GroupStands job checkpoints.Index e offset = StandsAt (texts e) offset (joined (index_group job.pages.index))
  GroupStands job (checkpoints.Record index) e offset = Unit {0}
  GroupStands job (checkpoints.Trim before to_blob q) e offset = Unit {0}

  -- the offset is one where it may stand
  pub record StandsRightly (v : RangeView) (job : CheckpointState) (e offset : ℕ) : Type 0 where
    pub may : may_stand_at job.pages offset ≡ true
    pub all : AllStand texts v.answered
    pub stands : GroupStands job job.phase e offset

  abbrev pub StandsRightlyIf : RangeView → Option CheckpointState → Option News → Type 0
  StandsRightlyIf v (Some job) (Some (news.Appended e offset)) = StandsRightly v job e offset
  StandsRightlyIf v job told = Unit {0}

  module _ (v : RangeView) (s : Serving) (r : RangeState) (m : Matches texts v s r) (d : ServerContext) (job : CheckpointState) (under_way : r.control ≡ Some job) where
    free : v.split ≡ Free
    free = is_free v.split (v.history.append kinds.Metadata) s.record_out r.control r.said.next job under_way m.beside

    -- ---- pages

    -- one more group of them stands
    pub pages_go : job.phase ≡ checkpoints.Pages → HoldsPhase texts (parts_of v s r) job checkpoints.Pages → (e offset : ℕ) → e < 2 ^ 64 → may_stand_at job.pages offset ≡ true →
        (AllStand texts v.answered → GroupStands job checkpoints.Pages e offset) → r.rows.job ≡ jobs.Idle → MatchesIf texts v s (writes_pages d r (pages_stand job e offset)).after
    pages_go pages h e offset known may stands idle = writes_on texts v s r (beside texts v s r m free (subst (MetadataPhase r.metadata.job) pages (subst (AppendsMetadata r.metadata.job v.split) under_way m.metadata))) d (pages_stand job e offset) more h.1 idle
      where
        more : Writes texts (parts_of v s r) (pages_stand job e offset)
        more = record {
          noted = noted_with texts (parts_of v s r) job job.combine job.merge (pages_stand job e offset).pages job.phase h.0.noted;
          are_written = h.0.are_written;
          pages = λ all. writing_goes texts (entries_to_write texts (parts_of v s r) job h.0.noted.fixed) job.pages (h.0.pages all) e offset known may (stands all);
          merged = h.0.merged;
        }

    -- ---- the index

    module _ (h : HoldsPhase texts (parts_of v s r) job checkpoints.Index) (e offset : ℕ) (known : e < 2 ^ 64) (room : offset < 2 ^ 32) (stands : AllStand texts v.answered → GroupStands job checkpoints.Index e offset)
        (may : may_record r job ≡ true) where
      abbrev place : Place
      place = index_place job e offset

      abbrev pub formed_view : RangeView
      formed_view = view_after r.load.generation v (Forms kinds.Metadata (record_group r job place))

      -- the record has the number behind those that were taken
      number_is : r.said.next ≡ suc (length s.records)
      number_is =
          let counted : (said first_beginning s.records).next ≡ 1 + length s.records = said_number first_beginning s.records in
          let says : r.said.next ≡ (said first_beginning s.records).next = ap (λ m. m.next) m.said in
          omega (arith, counted, says)

      number_fits : IsNext r.said.next
      number_fits = (omega (arith, number_is), fits)
        where
          less : suc r.said.next < 2 ^ 64
          less = ltb-true (suc r.said.next) (2 ^ 64) (may_parts r job may).1

          fits : r.said.next < 2 ^ 64
          fits = omega (arith, less)

      place_fits : IsPlace place
      place_fits = (known, room, fits)
        where
          small : index_size job.pages.index ≤ 4194304
          small = leb-true (index_size job.pages.index) 4194304 (may_parts r job may).0

          fits : index_size job.pages.index < 2 ^ 32
          fits = omega (arith, small)

      -- the entries whose index stands there
      abbrev pub entries : Entries
      entries = entries_to_write texts (parts_of v s r) job h.0.noted.fixed

      pub written_there : AllStand texts v.answered → IsWritten texts job.pages.index entries place
      written_there all = index_written texts r job entries (h.0.pages all) h.2 h.0.are_written may e offset (stands all)

      pub filed_there : AllStand texts v.answered → AreFiled job.pages.index.pages (pages_of entries)
      filed_there all = index_filed texts r job entries (h.0.pages all) h.2 h.0.are_written may e offset (stands all)

      -- the group that is appended to the metadata spells it
      pub group_spells : decoded_record (record_group r job place) ≡ chains.record_group r.said.next (item_of job place)
      group_spells = record_spelled r job place number_fits place_fits h.0.noted.position h.0.noted.number

      -- it may be appended
      pub may_append : (run : Run) → held first_beginning run r.load.generation ≡ s → IsServing run r.load.generation → AllStand texts v.answered →
          MayInChain (layer_at texts) first_beginning run (chains.Records r.load.generation r.said.next (item_of job place))
      may_append run same serving all = subst
          (λ z. IsServing run r.load.generation × (z.record_out ≡ None) × (r.said.next ≡ suc (length z.records))
          × (chains.MayCheckpoint (layer_at texts) first_beginning z (item_of job place) ⊎ chains.MaySplit (layer_at texts) first_beginning z (item_of job place)))
          (sym same) (
            serving,
            sym (free_out v.split free s.record_out) ∙ h.1,
            number_is,
            inl (
                may_checkpoint texts first_beginning s r job h.0.noted.fixed place m.said m.installed (written_named texts r.said.indexes m.named.indexes) h.0.noted.are_entries (written_there all) (h.0.noted.layer all)
                h.0.noted.noted
                ),
          )

      -- its append is out
      pub records_match : (n : ℕ) → n ≡ length (metadata_of v) → (c : ClientState) → r.rows.job ≡ jobs.Idle →
          Matches texts formed_view (recording n (chains.record_group r.said.next (item_of job place)) s) (record r { metadata = c; control = Some (with_phase job (checkpoints.Record place)) })
      records_match n same c idle = record {
        position = m.position;
        next = m.next;
        out = m.out;
        live = m.live;
        checkpoint = record {
          writes = record {
            noted = record {
              fixed = h.0.noted.fixed;
              entries = h.0.noted.entries;
              are_entries = h.0.noted.are_entries;
              layer = h.0.noted.layer;
              noted = h.0.noted.noted;
              position = h.0.noted.position;
              number = h.0.noted.number;
            };
            are_written = h.0.are_written;
            pages = h.0.pages;
            merged = h.0.merged;
          };
          out = free_out v.split free _ ∙ ap (λ k. Some (record { append = k; group = chains.record_group r.said.next (item_of job place) })) same;
          written = written_there;
          filed = filed_there;
          numbered = (may_parts r job may).1;
        };
        said = m.said;
        installed = m.installed;
        ordered = m.ordered;
        named = m.named;
        rows = idle;
        reads = nothing_next texts r.reading job h.0.merged;
        beside = free_beside v.split free _ _ (Some (with_phase job (checkpoints.Record place))) r.said.next;
        metadata = tt;
      }
