-- The record of the keys of a range that a split makes, over runs: where nothing is out under a generation it may be sent, while it is out
-- it may be answered, and then the range is named so. Its keys are among those of the range that is split.
use Rattle.std.proofs.Common.{◌≡◌, ℕ, suc, ◌+◌, Bool, true, false, not, ◌&&◌, List, [], ◌∷◌, ◌++◌, length, Some, None, refl, sym, ap, ◌∙◌, subst, inr, arith}
use Rattle.std.specs.Cmp.Lexicographic.{slice_cmp}
use Rattle.std.specs.Ordering.{nat_cmp, is_lt}
use Rattle.std.specs.declared.cmp.Ordering.{Ordering}
use Rattle.std.specs.declared.cmp.Ordering.TheVariants.{Less, Equal, Greater}
use Rattle.std.proofs.lemmas.Bool.{and_parts}
use Rattle.std.proofs.lemmas.Cmp.{nat_list_cmp_total}
use Rattle.block_types.specs.Limits.{is_within}
use Rattle.commitlog.specs.Replay.{Numbered}
use Rattle.metadata.specs.declared.record.KeyRange.{KeyRange}
use Rattle.metadata.specs.declared.record.MetaItem.{MetaItem}
use Rattle.metadata.specs.declared.record.MetaItem.TheVariants.{Ranges}
use Rattle.metadata.specs.Fold.{MetadataState, taken}
use Rattle.metadata.specs.Keys.{below_high, within}
use Rattle.model_partition.specs.declared.split_job.Side.{Side}
use Rattle.model_partition.specs.declared.split_job.Side.TheVariants.{Low, High}
use Rattle.model_partition.specs.Map.{is_split_key}
use Rattle.model_partition.specs.Past.{Bytes}
use Rattle.model_partition.specs.Splits.{side_keys}
use Rattle.model_histories.specs.Story.{Made, Answered}
use Rattle.laws_checkpoints.proofs.CheckpointRecords.{said_with, said_number}
use Rattle.laws_checkpoints.specs.IndexLayers.{layer_at}
use Rattle.laws_tables.proofs.Range.{newest, older}
use Rattle.laws_tables.specs.Families.{IsNamed}
use Rattle.laws_tables.specs.Runs as chains
use Rattle.laws_tables.specs.Runs.{Event, Run, Serving, first_beginning, held, items_out, meta_of, record_group, said, IsNarrower, MayInChain}
use Rattle.laws_server_runs.specs.ChildInvariant.{HasNothingOut, HasKeysOut}
use Rattle.laws_server_runs.proofs.HeldRecords.{record_begun}
use Rattle.laws_server_runs.proofs.ServedNotes.{same_here}

-- ---- keys

abbrev cmp : List ℕ → List ℕ → Ordering
cmp = slice_cmp nat_cmp

less : (o : Ordering) → is_lt o ≡ true → o ≡ Less
less Less e = refl
less Equal e = absurd cc
less Greater e = absurd cc

below_twice : (a b c : List ℕ) → is_lt (cmp a b) ≡ true → is_lt (cmp b c) ≡ true → is_lt (cmp a c) ≡ true
below_twice a b c one two = ap is_lt (nat_list_cmp_total.trans a b c (less (cmp a b) one) (less (cmp b c) two))

-- the two parts of keys that are split are among them
pub side_narrower : (keys : KeyRange) (key : List ℕ) → is_split_key keys key ≡ true → (side : Side) → IsNarrower (side_keys keys key side) keys
side_narrower keys key splits side at there = by side there
  where
    ends : (is_within 1 256 (length key) && is_lt (cmp keys.low key) ≡ true) × (below_high keys.high key ≡ true)
    ends = and_parts (is_within 1 256 (length key) && is_lt (cmp keys.low key)) (below_high keys.high key) splits

    above : is_lt (cmp keys.low key) ≡ true
    above = (and_parts (is_within 1 256 (length key)) (is_lt (cmp keys.low key)) ends.0).1

    -- what lies below the key lies below the end
    ends_behind : (high : _) → below_high high key ≡ true → is_lt (cmp at key) ≡ true → below_high high at ≡ true
    ends_behind None e below = refl
    ends_behind (Some high) e below = below_twice at key high below e

    -- what does not lie below the key does not lie below the beginning
    begins_before : (b : Bool) → is_lt (cmp at keys.low) ≡ b → not (is_lt (cmp at key)) ≡ true → not b ≡ true
    begins_before false e begins = refl
    begins_before true e begins = let below : is_lt (cmp at key) ≡ true = below_twice at keys.low key e above in let z : false ≡ true = sym (ap not below) ∙ begins in absurd cc

    by : (side : Side) → within (side_keys keys key side) at ≡ true → within keys at ≡ true
    by Low there =
        let parts = and_parts (not (is_lt (cmp at keys.low))) (is_lt (cmp at key)) there in
        (λ i. parts.0 i && ends_behind keys.high ends.1 parts.1 i)
    by High there =
        let parts = and_parts (not (is_lt (cmp at key))) (below_high keys.high at) there in
        (λ i. begins_before (is_lt (cmp at keys.low)) refl parts.0 i && parts.1 i)

-- ---- the record

module _ (run : Run) (g : ℕ) (m : MetadataState) (keys : KeyRange) where
  abbrev s : Serving
  s = held first_beginning run g

  -- it is sent
  abbrev pub keys_event : Event
  keys_event = chains.Records g m.next (Ranges keys)

  module _ (h : HasNothingOut run g m) where
    is_next : m.next ≡ suc (length s.records)
    is_next =
        let total : (said first_beginning s.records).next ≡ 1 + length s.records = said_number first_beginning s.records in
        let says : m.next ≡ (said first_beginning s.records).next = ap (λ x. x.next) h.says in
        omega (arith, total, says)

    pub may_name : (texts : ℕ → Bytes) → IsNarrower keys m.keys → MayInChain (layer_at texts) first_beginning run keys_event
    may_name texts narrower = (h.shown, h.record_out, is_next, inr (h.noted, inr (keys, refl, subst (λ (z : MetadataState). IsNarrower keys z.keys) h.says narrower)))

    out_is : held first_beginning (keys_event ∷ run) g ≡ chains.recording (length (meta_of run)) (record_group m.next (Ranges keys)) s
    out_is = same_here g _ _

    pub keys_out : HasKeysOut (keys_event ∷ run) g m keys (length (meta_of run))
    keys_out = record {
      shown = h.shown;
      out = ap (λ (z : Serving). z.out) out_is ∙ h.out;
      noted = ap (λ (z : Serving). z.noted) out_is ∙ h.noted;
      record_out = ap (λ (z : Serving). z.record_out) out_is;
      says = h.says ∙ ap (λ (z : Serving). said first_beginning z.records) (sym out_is);
    }

  -- it is answered
  module _ (append : ℕ) (h : HasKeysOut run g m keys append) (from to : ℕ) where
    abbrev pub named_event : Event
    named_event = chains.Recorded g append from to

    pub may_be_named : (texts : ℕ → Bytes) → MayInChain (layer_at texts) first_beginning run named_event
    may_be_named texts = (h.shown, record_group m.next (Ranges keys), h.record_out)

    pub is_named : IsNamed g keys (named_event ∷ run)
    is_named = record {
      append = append;
      answer = length (meta_of run);
      from = from;
      to = to;
      number = m.next;
      made = older (Numbered MetaItem) (Answered append from to) (meta_of run) append (Made g (record_group m.next (Ranges keys)))
          (record_begun run g (record { append = append; group = record_group m.next (Ranges keys) }) h.record_out);
      answered = newest (Numbered MetaItem) (Answered append from to) (meta_of run);
    }

    ended_is : held first_beginning (named_event ∷ run) g ≡ chains.recorded s
    ended_is = same_here g _ _

    -- and nothing is out any more
    pub named_rests : HasNothingOut (named_event ∷ run) g (taken m (Ranges keys))
    named_rests = record {
      shown = h.shown;
      out = ap (λ (z : Serving). z.out) ended_is ∙ h.out;
      noted = ap (λ (z : Serving). z.noted) ended_is;
      record_out = ap (λ (z : Serving). z.record_out) ended_is;
      says = ap (λ z. taken z (Ranges keys)) h.says ∙ sym (said_with first_beginning s.records (Ranges keys)) ∙ ap (said first_beginning) (sym records_now);
    }
      where
        records_now : (held first_beginning (named_event ∷ run) g).records ≡ s.records ++ Ranges keys ∷ []
        records_now = ap (λ (z : Serving). z.records) ended_is ∙ ap (λ o. s.records ++ items_out o) h.record_out
