-- The records that name keys in the part of a range's run behind what was taken: the steps of those who serve the range add none, and what a
-- split has named so stays named.
use Rattle.std.proofs.Common.{◌≡◌, ℕ, ◌+◌, List, [], ◌∷◌, ◌++◌, map, Some, refl, sym, ap, ◌∙◌, subst, inl, inr, append_assoc}
use Rattle.std.proofs.lemmas.List.{append_cancel_right}
use Rattle.block_types.specs.Limits.{group_size}
use Rattle.wire.specs.declared.streams.StreamKind.TheVariants as kinds
use Rattle.metadata.specs.declared.record.KeyRange.{KeyRange}
use Rattle.metadata.specs.declared.record.MetaItem.{MetaItem}
use Rattle.metadata.specs.Fold.{MetadataState}
use Rattle.commitlog.specs.Replay.{Numbered}
use Rattle.model_partition.specs.Loading.{Group}
use Rattle.model_partition.specs.Past.{Bytes}
use Rattle.model_histories.specs.Renaming.{renamed_event, decoded_record}
use Rattle.model_histories.specs.ServerRun.{place_number, placed_reads}
use Rattle.model_histories.specs.Story.{StreamEvent, Made, Answered, Showed, Story, event_at}
use Rattle.model_histories.specs.StreamActions.{StreamAction, Reads, Forms, Stands, Shows, Finds, Stores}
use Rattle.laws_loads.proofs.Renaming.{mapped_both}
use Rattle.laws_loads.specs.RangeView.{RangeView, view_after_all, metadata_of}
use Rattle.laws_tables.proofs.Range.{older}
use Rattle.laws_tables.specs.Families.{IsNamed}
use Rattle.laws_tables.specs.Runs as chains
use Rattle.laws_tables.specs.Runs.{Run, meta_of, KeepsKeys}
use Rattle.laws_server_runs.specs.ChildInvariant.{HasName, KeepsBehind, NamesAlone, KeysStand}
use Rattle.laws_server_runs.specs.FamilyMembers.{NamesOwn}
use Rattle.laws_server_runs.specs.RangeInvariant.{IsKeysRecord, StreamsKept, IsLonger}
use Rattle.laws_server_runs.proofs.KeptKeys.{FormOthers, NamesNoKeys, one_more, keeps_keys}

-- ---- parts of runs

pub keeps_both : (more own : Run) → KeepsKeys more → KeepsKeys own → KeepsKeys (more ++ own)
keeps_both [] own m k = k
keeps_both (chains.Forms i group ∷ more) own m k = keeps_both more own m k
keeps_both (chains.Logged i append from to ∷ more) own m k = keeps_both more own m k
keeps_both (chains.Notes i ∷ more) own m k = keeps_both more own m k
keeps_both (chains.Records i number item ∷ more) own m k = (m.0, keeps_both more own m.1 k)
keeps_both (chains.Recorded i append from to ∷ more) own m k = keeps_both more own m k
keeps_both (chains.Trims i place ∷ more) own m k = keeps_both more own m k
keeps_both (chains.Confirms i start end groups metadata_end records ∷ more) own m k = keeps_both more own m k

pub keeps_rest : (more own : Run) → KeepsKeys (more ++ own) → KeepsKeys own
keeps_rest [] own k = k
keeps_rest (chains.Forms i group ∷ more) own k = keeps_rest more own k
keeps_rest (chains.Logged i append from to ∷ more) own k = keeps_rest more own k
keeps_rest (chains.Notes i ∷ more) own k = keeps_rest more own k
keeps_rest (chains.Records i number item ∷ more) own k = keeps_rest more own k.1
keeps_rest (chains.Recorded i append from to ∷ more) own k = keeps_rest more own k
keeps_rest (chains.Trims i place ∷ more) own k = keeps_rest more own k
keeps_rest (chains.Confirms i start end groups metadata_end records ∷ more) own k = keeps_rest more own k

names_more : (g : ℕ) (keys : KeyRange) (more own : Run) → KeepsKeys more → NamesOwn g keys own → NamesOwn g keys (more ++ own)
names_more g keys [] own m n = n
names_more g keys (chains.Forms i group ∷ more) own m n = names_more g keys more own m n
names_more g keys (chains.Logged i append from to ∷ more) own m n = names_more g keys more own m n
names_more g keys (chains.Notes i ∷ more) own m n = names_more g keys more own m n
names_more g keys (chains.Records i number item ∷ more) own m n = ((λ named is. absurd (m.0 named is)), names_more g keys more own m.1 n)
names_more g keys (chains.Recorded i append from to ∷ more) own m n = names_more g keys more own m n
names_more g keys (chains.Trims i place ∷ more) own m n = names_more g keys more own m n
names_more g keys (chains.Confirms i start end groups metadata_end records ∷ more) own m n = names_more g keys more own m n

has_more : (more own : Run) → HasName own → HasName (more ++ own)
has_more [] own h = h
has_more (chains.Forms i group ∷ more) own h = has_more more own h
has_more (chains.Logged i append from to ∷ more) own h = has_more more own h
has_more (chains.Notes i ∷ more) own h = has_more more own h
has_more (chains.Records i number item ∷ more) own h = inr (has_more more own h)
has_more (chains.Recorded i append from to ∷ more) own h = has_more more own h
has_more (chains.Trims i place ∷ more) own h = has_more more own h
has_more (chains.Confirms i start end groups metadata_end records ∷ more) own h = has_more more own h

not_both : (own : Run) → HasName own → KeepsKeys own → ⊥
not_both [] h k = h
not_both (chains.Forms i group ∷ own) h k = not_both own h k
not_both (chains.Logged i append from to ∷ own) h k = not_both own h k
not_both (chains.Notes i ∷ own) h k = not_both own h k
not_both (chains.Records i number item ∷ own) (inl named) k = k.0 named.0 named.1
not_both (chains.Records i number item ∷ own) (inr h) k = not_both own h k.1
not_both (chains.Recorded i append from to ∷ own) h k = not_both own h k
not_both (chains.Trims i place ∷ own) h k = not_both own h k
not_both (chains.Confirms i start end groups metadata_end records ∷ own) h k = not_both own h k

meta_both : (more run : Run) → meta_of (more ++ run) ≡ meta_of more ++ meta_of run
meta_both [] run = refl
meta_both (chains.Forms i group ∷ more) run = meta_both more run
meta_both (chains.Logged i append from to ∷ more) run = meta_both more run
meta_both (chains.Notes i ∷ more) run = meta_both more run
meta_both (chains.Records i number item ∷ more) run = ap (λ l. Made i (chains.record_group number item) ∷ l) (meta_both more run)
meta_both (chains.Recorded i append from to ∷ more) run = (λ k. Answered append from to ∷ meta_both more run k)
meta_both (chains.Trims i place ∷ more) run = meta_both more run
meta_both (chains.Confirms i start end groups metadata_end records ∷ more) run = (λ k. Showed i 0 metadata_end records ∷ meta_both more run k)

-- ---- what is named stays so

pub event_later : {A : Type 0} (story : Story A) (more : List (StreamEvent A)) (a : ℕ) (e : StreamEvent A) → event_at story a ≡ Some e → event_at (more ++ story) a ≡ Some e
event_later {A} story [] a e at = at
event_later {A} story (x ∷ more) a e at = older A x (more ++ story) a e (event_later story more a e at)

pub named_later : (g : ℕ) (keys : KeyRange) (run later : Run) → IsLonger run later → IsNamed g keys run → IsNamed g keys later
named_later g keys run later longer n = record {
  append = n.append;
  answer = n.answer;
  from = n.from;
  to = n.to;
  number = n.number;
  made = ap (λ l. event_at l n.append) whole ∙ event_later (meta_of run) (meta_of longer.0) n.append _ n.made;
  answered = ap (λ l. event_at l n.answer) whole ∙ event_later (meta_of run) (meta_of longer.0) n.answer _ n.answered;
}
  where
    whole : meta_of later ≡ meta_of longer.0 ++ meta_of run
    whole = ap meta_of longer.1 ∙ meta_both longer.0 run

-- while no more keys are named
pub stands_later : (taken run later : Run) (g : ℕ) (m : MetadataState) (keys : KeyRange) (goes : IsLonger run later) → KeepsKeys goes.0 → KeysStand taken run g m keys → KeysStand taken later g m keys
stands_later taken run later g m keys goes none s = (
  named_later g keys run later goes s.0,
  record {
    began = s.1.began;
    own = goes.0 ++ s.1.own;
    is = goes.1 ∙ ap (λ l. goes.0 ++ l) s.1.is ∙ sym (append_assoc goes.0 s.1.own taken);
    names = names_more g keys goes.0 s.1.own none s.1.names;
    there = has_more goes.0 s.1.own s.1.there;
  },
)

-- where one is named, more are not named anew
pub never_anew : (taken run : Run) (g : ℕ) (m : MetadataState) (keys : KeyRange) → NamesAlone taken run g m keys → KeepsBehind taken run → ⊥
never_anew taken run g m keys n k = not_both n.own n.there (subst KeepsKeys (append_cancel_right k.own n.own taken (sym k.is ∙ n.is)) k.none)

-- its part behind what was taken is this one
pub own_names : (taken run : Run) (g : ℕ) (m : MetadataState) (keys : KeyRange) → NamesAlone taken run g m keys → (behind : IsLonger taken run) → NamesOwn g keys behind.0
own_names taken run g m keys n behind = subst (NamesOwn g keys) (append_cancel_right n.own behind.0 taken (sym n.is ∙ behind.1)) n.names

-- ---- a range's own actions

-- they add no record that names keys
pub record AddsNone (v w : RangeView) : Type 0 where
  pub more : List (StreamEvent Group)
  pub is : metadata_of w ≡ more ++ metadata_of v
  pub none : NamesNoKeys more

pub actions_add : (g : ℕ) (v : RangeView) (actions : List StreamAction) → FormOthers actions → AddsNone v (view_after_all g v actions)
actions_add g v [] all = record { more = []; is = refl; none = λ a h group at. absurd cc }
actions_add g v (Forms kinds.Metadata new ∷ earlier) all =
    let old : AddsNone v (view_after_all g v earlier) = actions_add g v earlier all.1 in
    record {
      more = Made g new ∷ old.more;
      is = ap (λ l. Made g new ∷ l) old.is;
      none = one_more (Made g new) old.more
          (λ h group is keys.
          let same : group ≡ new = cc in
          all.0 (subst IsKeysRecord same keys)) old.none;
    }
actions_add g v (Forms kinds.RowData new ∷ earlier) all = let old = actions_add g v earlier all.1 in record { more = old.more; is = old.is; none = old.none }
actions_add g v (Forms kinds.Log new ∷ earlier) all = let old = actions_add g v earlier all.1 in record { more = old.more; is = old.is; none = old.none }
actions_add g v (Forms kinds.BlobData new ∷ earlier) all = let old = actions_add g v earlier all.1 in record { more = old.more; is = old.is; none = old.none }
actions_add g v (Reads kind read ∷ earlier) all = let old = actions_add g v earlier all.1 in record { more = old.more; is = old.is; none = old.none }
actions_add g v (Stands kinds.Metadata extent at new ∷ earlier) all =
    let old = actions_add g v earlier all.1 in
    let told : StreamEvent Group = Answered ((view_after_all g v earlier).history.append kinds.Metadata) (place_number at) (place_number at + group_size new) in
    record { more = told ∷ old.more; is = ap (λ l. told ∷ l) old.is; none = one_more told old.more (λ h group is. absurd cc) old.none }
actions_add g v (Stands kinds.RowData extent at new ∷ earlier) all = let old = actions_add g v earlier all.1 in record { more = old.more; is = old.is; none = old.none }
actions_add g v (Stands kinds.Log extent at new ∷ earlier) all = let old = actions_add g v earlier all.1 in record { more = old.more; is = old.is; none = old.none }
actions_add g v (Stands kinds.BlobData extent at new ∷ earlier) all = let old = actions_add g v earlier all.1 in record { more = old.more; is = old.is; none = old.none }
actions_add g v (Shows start log_end metadata_end ∷ earlier) all =
    let old = actions_add g v earlier all.1 in
    let told : StreamEvent Group = Showed g 0 (place_number metadata_end) (placed_reads ((view_after_all g v earlier).history.reads kinds.Metadata)) in
    record { more = told ∷ old.more; is = ap (λ l. told ∷ l) old.is; none = one_more told old.more (λ h group is. absurd cc) old.none }
actions_add g v (Finds found ∷ earlier) all = let old = actions_add g v earlier all.1 in record { more = old.more; is = old.is; none = old.none }
actions_add g v (Stores stored ∷ earlier) all = let old = actions_add g v earlier all.1 in record { more = old.more; is = old.is; none = old.none }

-- so the run goes on with none
pub goes_unnamed : (texts : ℕ → Bytes) (run later : Run) (v w : RangeView) → StreamsKept texts run v → StreamsKept texts later w → (goes : IsLonger run later) → AddsNone v w → KeepsKeys goes.0
goes_unnamed texts run later v w old new goes adds = keeps_keys goes.0 adds.more same adds.none
  where
    events : List (StreamEvent Group) → List (StreamEvent (Numbered MetaItem))
    events l = map (renamed_event decoded_record) l

    same : meta_of goes.0 ≡ events adds.more
    same =
        append_cancel_right (meta_of goes.0) (events adds.more) (meta_of run)
        (sym (meta_both goes.0 run) ∙ sym (ap meta_of goes.1) ∙ new.metadata ∙ ap (λ l. events l) adds.is ∙ mapped_both (renamed_event decoded_record) adds.more (metadata_of v) ∙ ap (λ l. events adds.more ++ l) (sym old.metadata))
