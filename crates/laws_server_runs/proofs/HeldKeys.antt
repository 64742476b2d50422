-- The keys that a generation holds are those that its load had, where no record names others.
use Rattle.std.proofs.Common.{◌≡◌, ◌⊎◌, ℕ, ◌==◌, Bool, true, false, [], ◌∷◌, ◌++◌, length, refl, sym, ap, ◌∙◌, inl, inr, arith, append-nil, if◌then◌else◌}
use Rattle.std.proofs.lemmas.Bool.Decides.{nat_tests}
use Rattle.memtable.specs.declared.cell.Place.{Place}
use Rattle.metadata.specs.declared.record.KeyRange.{KeyRange}
use Rattle.metadata.specs.declared.record.MetaItem.{MetaItem}
use Rattle.metadata.specs.declared.record.MetaItem.TheVariants.{Ranges}
use Rattle.metadata.specs.Fold.{MetadataState, taken}
use Rattle.model_histories.specs.Log.{line_shown}
use Rattle.laws_tables.specs.Families.{HasKeys}
use Rattle.laws_tables.specs.Layers.{Layer}
use Rattle.laws_tables.specs.Runs.{Forms, Logged, Notes, Records, Recorded, Trims, Confirms, Run, Serving, log_of, meta_of, first_beginning, held, formed, logged, noting, recording, recorded, confirmed, record_group, items_out, said, MayCheckpoint, MaySplit, IsChainRun}
use Rattle.laws_tables.proofs.FamilyKeys.{fold-append}
use Rattle.laws_server_runs.specs.RunInvariant.{HasLoad}
use Rattle.laws_server_runs.proofs.NamedKeys.{NamesThese}

module _ (layer_at : Place → Layer) (g : ℕ) (keys : KeyRange) where
  -- the records say these keys, with and without the one that is out
  record SayKeys (s : Serving) : Type 0 where
    are : (said first_beginning s.records).keys ≡ keys
    with_out : (said first_beginning (s.records ++ items_out s.record_out)).keys ≡ keys

  said_kept : (s next : Serving) → next.records ≡ s.records → next.record_out ≡ s.record_out → SayKeys s → (t : Bool) → SayKeys (if t then next else s)
  said_kept s next same out k true = record {
    are = ap (λ l. (said first_beginning l).keys) same ∙ k.are;
    with_out = ap (λ l. (said first_beginning (l ++ items_out next.record_out)).keys) same ∙ ap (λ o. (said first_beginning (s.records ++ items_out o)).keys) out ∙ k.with_out;
  }
  said_kept s next same out k false = k

  -- a record that names no others leaves them
  item_kept : (s : Serving) (item : MetaItem) → ((named : KeyRange) → item ≡ Ranges named → named ≡ keys) → MayCheckpoint layer_at first_beginning s item ⊎ MaySplit layer_at first_beginning s item →
      (m : MetadataState) → m.keys ≡ keys → (taken m item).keys ≡ keys
  item_kept s item these (inl (noted, is_noted, combine, index, position, is, place, covers)) m h = ap (λ i. (taken m i).keys) is ∙ h
  item_kept s item these (inr (is_none, inl (low, high, key, is))) m h = ap (λ i. (taken m i).keys) is ∙ h
  item_kept s item these (inr (is_none, inr (named, is, more))) m h = ap (λ i. (taken m i).keys) is ∙ these named is

  said_recording : (s : Serving) (append number : ℕ) (item : MetaItem) → ((m : MetadataState) → m.keys ≡ keys → (taken m item).keys ≡ keys) → SayKeys s → SayKeys (recording append (record_group number item) s)
  said_recording s append number item leaves k = record {
    are = k.are;
    with_out = ap (λ (m : MetadataState). m.keys) (fold-append first_beginning.metadata s.records (item ∷ [])) ∙ leaves (said first_beginning s.records) k.are;
  }

  said_recorded : (s : Serving) → SayKeys s → SayKeys (recorded s)
  said_recorded s k = record { are = k.with_out; with_out = ap (λ l. (said first_beginning l).keys) (append-nil (s.records ++ items_out s.record_out)) ∙ k.with_out }

  abbrev state : Run → Serving
  state run = held first_beginning run g

  -- THE KEYS THAT IT HOLDS
  keys_are : (own rest : Run) → IsChainRun layer_at first_beginning (own ++ rest) → HasKeys keys own → NamesThese keys own → HasLoad g own → SayKeys (state (own ++ rest))
  keys_are [] rest chain has these loaded = absurd loaded
  keys_are (Forms i group ∷ own) rest chain has these loaded = said_kept (state (own ++ rest)) (formed (length (log_of (own ++ rest))) group (state (own ++ rest))) refl refl (keys_are own rest chain.1 has these loaded) (g == i)
  keys_are (Logged i append from to ∷ own) rest chain has these loaded = said_kept (state (own ++ rest)) (logged to (state (own ++ rest))) refl refl (keys_are own rest chain.1 has these loaded) (g == i)
  keys_are (Notes i ∷ own) rest chain has these loaded = said_kept (state (own ++ rest)) (noting (state (own ++ rest))) refl refl (keys_are own rest chain.1 has these loaded) (g == i)
  keys_are (Trims i place ∷ own) rest chain has these loaded = keys_are own rest chain.1 has these loaded
  keys_are (Records i number item ∷ own) rest chain has these loaded = by (g == i) refl (keys_are own rest chain.1 has these.1 loaded)
    where
      by : (t : Bool) → (g == i) ≡ t → SayKeys (state (own ++ rest)) → SayKeys (if t then recording (length (meta_of (own ++ rest))) (record_group number item) (state (own ++ rest)) else state (own ++ rest))
      by true is k =
          said_recording (state (own ++ rest)) (length (meta_of (own ++ rest))) number item
          (item_kept (held first_beginning (own ++ rest) i) item these.0 chain.0.3) k
      by false is k = k
  keys_are (Recorded i append from to ∷ own) rest chain has these loaded = by (g == i) (keys_are own rest chain.1 has these loaded)
    where
      by : (t : Bool) → SayKeys (state (own ++ rest)) → SayKeys (if t then recorded (state (own ++ rest)) else state (own ++ rest))
      by true k = said_recorded (state (own ++ rest)) k
      by false k = k
  keys_are (Confirms i start end groups metadata_end records ∷ own) rest chain has these loaded = by (g == i) refl loaded (λ l. keys_are own rest chain.1 has.1 these l)
    where
      by : (t : Bool) → (g == i) ≡ t → (g ≡ i) ⊎ HasLoad g own → (HasLoad g own → SayKeys (state (own ++ rest))) →
          SayKeys (if t then confirmed first_beginning start end groups records else state (own ++ rest))
      by true is l earlier = record { are = has.0; with_out = ap (λ l. (said first_beginning l).keys) (append-nil (line_shown records)) ∙ has.0 }
      by false is (inl same) earlier = absurd (let t : (g == i) ≡ true = grind (arith, nat_tests) in let z : true ≡ false = sym t ∙ is in cc)
      by false is (inr l) earlier = earlier l

  pub held_keys : (own rest : Run) → IsChainRun layer_at first_beginning (own ++ rest) → HasKeys keys own → NamesThese keys own → HasLoad g own → (said first_beginning (state (own ++ rest)).records).keys ≡ keys
  held_keys own rest chain has these loaded = (keys_are own rest chain has these loaded).are
