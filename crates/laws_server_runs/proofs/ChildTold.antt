-- What answers to a split do with the metadata of one of the two ranges that it makes: the record of its keys is sent, and it stands. What
-- is kept of that range, which no server has by then, goes on with it.
use Rattle.std.proofs.Common.{◌≡◌, ℕ, ◌+◌, ◌≤◌, ◌^◌, true, ◌&&◌, nat_lt, List, [], ◌∷◌, ◌++◌, length, Option, Some, None, refl, sym, ap, ◌∙◌, subst, inl, inr}
use Rattle.std.specs.Prelude.{nat_le}
use Rattle.std.proofs.lemmas.Bool.{and_parts, leb-true, ltb-true}
use Rattle.block_types.specs.Limits.{group_size}
use Rattle.blocks.proofs.Formats.{within}
use Rattle.wire.specs.declared.note.Note.{Note}
use Rattle.wire.specs.declared.streams.StreamKind.TheVariants as kinds
use Rattle.streams.specs.declared.table.Position.{Position}
use Rattle.metadata.specs.declared.record.KeyRange.{KeyRange}
use Rattle.metadata.specs.declared.record.MetaItem.TheVariants.{Ranges}
use Rattle.metadata.specs.Fold.{MetadataState}
use Rattle.metadata.specs.Record.{IsHigh, IsKeyRange, IsNext}
use Rattle.metadata.proofs.Laws.{record_again}
use Rattle.model_streams.specs.Maps.{entry_at}
use Rattle.model_partition.specs.declared.split_job.Side.{Side}
use Rattle.model_partition.specs.declared.split_job.Side.TheVariants.{Low, High}
use Rattle.model_partition.specs.declared.split_job.SplitJob.{SplitJob}
use Rattle.model_partition.specs.Loading.{Group}
use Rattle.model_partition.specs.Map.{is_split_key}
use Rattle.model_partition.specs.Past.{Bytes}
use Rattle.model_partition.specs.Range.{RangeState}
use Rattle.model_partition.specs.Splits.{is_record_key, is_record_end, have_key_bytes, side_keys, keys_record, may_say_keys}
use Rattle.model_histories.specs.Log.{only}
use Rattle.model_histories.specs.Renaming.{renamed_event, one_record, decoded_record}
use Rattle.model_histories.specs.ServedTables.{AreSeenAs, ServesAt}
use Rattle.model_histories.specs.ServerRun.{ServerRun, RangeHistory, after_action, after_sides, place_number}
use Rattle.model_histories.specs.StreamActions.{StreamAction, Forms, Stands, SideAction}
use Rattle.laws_loads.proofs.Renaming.{mapped_length}
use Rattle.laws_loads.specs.RangeView.{RangeView, view_after, metadata_of}
use Rattle.laws_tables.specs.Families.{IsNamed}
use Rattle.laws_tables.specs.Runs as chains
use Rattle.laws_tables.specs.Runs.{Event, Run, meta_of, record_group, KeepsKeys}
use Rattle.laws_server_runs.specs.ChildInvariant.{keys_group, HasNothingOut, HasKeysOut, IsUnnamed, NamesAlone, KeysStand, IsUnheld}
use Rattle.laws_server_runs.specs.FamilyMembers.{NamesOwn}
use Rattle.laws_server_runs.specs.RangeInvariant.{StreamsKept, AreObserved, IsLonger}
use Rattle.laws_server_runs.specs.RunInvariant.{view_at, Taken, RunBehind}
use Rattle.laws_server_runs.proofs.Actions.{AreOthers, actions_here, actions_rest, sides_beside}
use Rattle.laws_server_runs.proofs.Beside.{beside_kept, beside_run}
use Rattle.laws_server_runs.proofs.CheckpointStreams.{recording_streams, recorded_streams}
use Rattle.laws_server_runs.proofs.KeysRecords.{side_narrower, keys_event, may_name, keys_out, named_event, may_be_named, is_named}
use Rattle.laws_server_runs.proofs.Kept.{told_beside}
use Rattle.laws_server_runs.proofs.Others.{streams_same}

-- ---- the record of its keys

module _ (r : RangeState) (job : SplitJob) (may : may_say_keys r job ≡ true) where
  numbers : (nat_lt 0 r.said.next ≡ true) × ((nat_lt r.said.next (2 ^ 64) && have_key_bytes r.said.keys job.key) ≡ true)
  numbers = and_parts (nat_lt 0 r.said.next) (nat_lt r.said.next (2 ^ 64) && have_key_bytes r.said.keys job.key) may

  below : (nat_lt r.said.next (2 ^ 64) ≡ true) × (have_key_bytes r.said.keys job.key ≡ true)
  below = and_parts (nat_lt r.said.next (2 ^ 64)) (have_key_bytes r.said.keys job.key) numbers.1

  bytes : (nat_le (length r.said.keys.low) 256 ≡ true) × ((is_record_end r.said.keys.high && is_record_key job.key) ≡ true)
  bytes = and_parts (nat_le (length r.said.keys.low) 256) (is_record_end r.said.keys.high && is_record_key job.key) below.1

  ends : (is_record_end r.said.keys.high ≡ true) × (is_record_key job.key ≡ true)
  ends = and_parts (is_record_end r.said.keys.high) (is_record_key job.key) bytes.1

  next_fits : IsNext r.said.next
  next_fits = (ltb-true 0 r.said.next numbers.0, ltb-true r.said.next (2 ^ 64) below.0)

  key_fits : (1 ≤ length job.key) × (length job.key ≤ 256)
  key_fits = within 1 256 (length job.key) ends.1

  end_fits : (high : Option (List ℕ)) → is_record_end high ≡ true → IsHigh high
  end_fits None e = tt
  end_fits (Some key) e = within 1 256 (length key) e

  keys_fit : (side : Side) → IsKeyRange (side_keys r.said.keys job.key side)
  keys_fit Low = (leb-true (length r.said.keys.low) 256 bytes.0, key_fits)
  keys_fit High = (key_fits.1, end_fits r.said.keys.high ends.0)

  -- its group can be read back
  pub keys_spelled : (side : Side) → decoded_record (keys_group r job side) ≡ record_group r.said.next (Ranges (side_keys r.said.keys job.key side))
  keys_spelled side = ap one_record (record_again (keys_record r job side) next_fits (keys_fit side))

-- where no record names keys, each that does names these
pub none_names : (g : ℕ) (keys : KeyRange) (own : Run) → KeepsKeys own → NamesOwn g keys own
none_names g keys [] k = tt
none_names g keys (chains.Forms i group ∷ own) k = none_names g keys own k
none_names g keys (chains.Logged i append from to ∷ own) k = none_names g keys own k
none_names g keys (chains.Notes i ∷ own) k = none_names g keys own k
none_names g keys (chains.Records i number item ∷ own) k = ((λ named is. absurd (k.0 named is)), none_names g keys own k.1)
none_names g keys (chains.Recorded i append from to ∷ own) k = none_names g keys own k
none_names g keys (chains.Trims i place ∷ own) k = none_names g keys own k
none_names g keys (chains.Confirms i start end groups metadata_end records ∷ own) k = none_names g keys own k

-- ---- one action on the streams of a range that no server has

-- the event with which the last append of a server to its metadata began
abbrev pub append_at : ServerRun → (server range : ℕ) → ℕ
append_at x server range = (x.history server range).append kinds.Metadata

module _ (texts : ℕ → Bytes) (n s g : ℕ) (taken : Taken) (x : ServerRun) (kept : RunBehind texts n taken x) where
  streams_here : StreamsKept texts kept.run (view_at n x s)
  streams_here = streams_same texts kept.run (view_at n x 0) (view_at n x s) refl refl kept.streams

  counted : length (meta_of kept.run) ≡ length (metadata_of (view_at n x s))
  counted = ap length streams_here.metadata ∙ mapped_length (renamed_event decoded_record) (metadata_of (view_at n x s))

  module _ (unheld : IsUnheld n x) where
    -- the run goes on with one event
    module _ (action : StreamAction) (event : Event) (streams : StreamsKept texts (event ∷ kept.run) (view_after g (view_at n x s) action))
        (shows : (notes : List Note) → AreObserved texts n kept.run notes → AreObserved texts n (event ∷ kept.run) notes) where
      abbrev done : ServerRun
      done = after_action s n g x action

      pub here : view_at n done s ≡ view_after g (view_at n x s) action
      here = actions_here s n g x (action ∷ [])

      rest : (done.servers ≡ x.servers) × (done.notes ≡ x.notes)
      rest = actions_rest s n g x (action ∷ [])

      none_serves : (t : ℕ) (u : RangeState) → ServesAt done t n u → ⊥
      none_serves t u b = unheld t b.cell b.state (subst (λ l. entry_at l t ≡ Some b.cell) rest.0 b.there) b.runs u b.held

      pub action_told : (k : RunBehind texts n taken done) × (k.run ≡ event ∷ kept.run)
      action_told = (
        record {
          run = event ∷ kept.run;
          behind = (event ∷ kept.behind.0, ap (λ l. event ∷ l) kept.behind.1);
          ranges = λ t c q there up r held. absurd (unheld t c q (subst (λ l. entry_at l t ≡ Some c) rest.0 there) up r held);
          own = λ a b u w one two e. absurd (none_serves a u one);
          loaded = λ t u serves. absurd (none_serves t u serves);
          streams = streams_same texts (event ∷ kept.run) (view_at n done s) (view_at n done 0) refl refl (subst (StreamsKept texts (event ∷ kept.run)) (sym here) streams);
          seen = λ notes told. shows (taken.notes ++ only n notes) (kept.seen notes (subst (λ l. AreSeenAs texts l notes) rest.1 told));
        },
        refl,
      )

    -- the append of its keys begins
    module _ (r : RangeState) (job : SplitJob) (may : may_say_keys r job ≡ true) (splits : is_split_key r.said.keys job.key ≡ true) (side : Side) (h : HasNothingOut kept.run g r.said) (u : IsUnnamed taken.run kept.run g r.said) where
      abbrev keys : KeyRange
      keys = side_keys r.said.keys job.key side

      abbrev forms : StreamAction
      forms = Forms kinds.Metadata (keys_group r job side)

      abbrev formed : ServerRun
      formed = after_action s n g x forms

      abbrev event : Event
      event = keys_event kept.run g r.said keys

      streams_formed : StreamsKept texts (event ∷ kept.run) (view_after g (view_at n x s) forms)
      streams_formed =
          recording_streams texts kept.run (view_at n x s) streams_here g r.said.next (Ranges keys) (keys_group r job side) (keys_spelled r job may side)
          (inr (inr (record { number = r.said.next; keys = keys; spells = keys_spelled r job may side }))) (may_name kept.run g r.said keys h texts (side_narrower r.said.keys job.key splits side))

      begun : length (meta_of kept.run) ≡ append_at formed s n
      begun = counted ∙ sym (ap (λ (v : RangeView). v.history.append kinds.Metadata) (here forms event streams_formed (λ notes old. old)))

      names_these : NamesAlone taken.run (event ∷ kept.run) g r.said keys
      names_these = record {
        began = u.began;
        own = event ∷ u.behind.own;
        is = ap (λ l. event ∷ l) u.behind.is;
        names = ((λ named is. (refl, (let z : keys ≡ named = cc in sym z))), none_names g keys u.behind.own u.behind.none);
        there = inl (keys, refl);
      }

      pub forms_told : (k : RunBehind texts n taken formed) × IsLonger kept.run k.run × (HasKeysOut k.run g r.said keys (append_at formed s n) × NamesAlone taken.run k.run g r.said keys)
      forms_told =
          let t = action_told forms event streams_formed (λ notes old. old) in (
            t.0,
            (event ∷ [], t.1),
            (
              subst (λ z. HasKeysOut z g r.said keys (append_at formed s n)) (sym t.1) (subst (HasKeysOut (event ∷ kept.run) g r.said keys) begun (keys_out kept.run g r.said keys h)),
              subst (λ z. NamesAlone taken.run z g r.said keys) (sym t.1) names_these,
            ),
          )

    -- it stands
    pub stands_told : (m : MetadataState) (keys : KeyRange) → HasKeysOut kept.run g m keys (append_at x s n) → NamesAlone taken.run kept.run g m keys → (e : ℕ) (at : Position) (group : Group) →
        (k : RunBehind texts n taken (after_action s n g x (Stands kinds.Metadata e at group))) × (goes : IsLonger kept.run k.run) × KeepsKeys goes.0 × KeysStand taken.run k.run g m keys
    stands_told m keys h names e at group =
        let from : ℕ = place_number at in
        let to : ℕ = place_number at + group_size group in
        let t = action_told (Stands kinds.Metadata e at group) (named_event kept.run g m keys (append_at x s n) h from to)
        (recorded_streams texts kept.run (view_at n x s) streams_here g e at group (may_be_named kept.run g m keys (append_at x s n) h from to texts)) (λ notes old. old) in
        let event : Event = named_event kept.run g m keys (append_at x s n) h from to in
        let stands : NamesAlone taken.run (event ∷ kept.run) g m keys = record { began = names.began; own = event ∷ names.own; is = ap (λ l. event ∷ l) names.is; names = names.names; there = names.there } in
        (t.0, (event ∷ [], t.1), tt, (subst (IsNamed g keys) (sym t.1) (is_named kept.run g m keys (append_at x s n) h from to), subst (λ z. NamesAlone taken.run z g m keys) (sym t.1) stands))

  -- ---- actions on the streams of others

  pub others_told : (sides : List SideAction) → AreOthers n sides → (k : RunBehind texts n taken (after_sides s g x sides)) × (k.run ≡ kept.run) × (append_at (after_sides s g x sides) s n ≡ append_at x s n)
  others_told sides others = (
    beside_kept texts n taken x kept (after_sides s g x sides) (told_beside texts n taken s g x kept sides others),
    beside_run texts n taken x kept (after_sides s g x sides) (told_beside texts n taken s g x kept sides others),
    ap (λ (h : RangeHistory). h.append kinds.Metadata) ((sides_beside s g n x sides others).history s),
  )
