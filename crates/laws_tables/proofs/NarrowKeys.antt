-- The keys of a chain's metadata: no record names keys that the range did not have when it was sent, and each load shows the records in
-- the order in which they were said; so the indexes and the regions of each load have all keys of the range.
use Rattle.std.proofs.Common.{◌≡◌, ℕ, suc, ◌+◌, List, [], ◌∷◌, ◌++◌, length, Bool, true, false, if◌then◌else◌, Some, refl, sym, ap, ◌∙◌, subst, inl, inr, ◌⊎◌, ⊎_elim, arith, append_assoc}
use Rattle.std.specs.List.{AllByRecursion}
use Rattle.memtable.specs.declared.cell.Place.{Place}
use Rattle.commitlog.specs.Replay.{Numbered as Group}
use Rattle.metadata.specs.declared.record.IndexRange.{IndexRange}
use Rattle.metadata.specs.declared.record.MetaItem.{MetaItem}
use Rattle.metadata.specs.declared.record.MetaItem.TheVariants.{Ranges, Checkpoint, Regions, SplitStatus}
use Rattle.metadata.specs.declared.record.Region.{Region}
use Rattle.metadata.specs.Fold.{MetadataState, first_metadata, taken}
use Rattle.model_partition.specs.Past.{Transaction}
use Rattle.model_histories.specs.Log.{line_shown}
use Rattle.model_histories.specs.Story.{Placed, StreamEvent, Made, Answered, Showed, Story, event_at, KeepsOrder}
use Rattle.laws_tables.specs.Layers.{Layer}
use Rattle.laws_tables.specs.NarrowKeys.{Narrows, AllNarrow, CountsForAll}
use Rattle.laws_tables.specs.Runs.{Forms, Logged, Notes, Records, Recorded, Trims, Confirms, Run, log_of, record_group, meta_of, Beginning, Serving, items_out, formed, logged, noting, recording, recorded, said, fold_of, confirmed, held, IsNarrower, MayCheckpoint, MaySplit, MayInChain, IsChainRun}
use Rattle.laws_tables.specs.Through.{OutAppend, IsLoaded, HadLine, HasAllAnswered, HasOneOut, HasLine}
use Rattle.laws_tables.specs.WholeStories.{IsServed}
use Rattle.laws_tables.proofs.Books.{has_line_later, one_out_made, one_out_is_made, all_answered_then, all_answered_loaded, had_line_answered, allowed_made}
use Rattle.laws_tables.proofs.Layers.{fold_last}
use Rattle.laws_tables.proofs.Loads.{ItemFrom, item_from, one_item}
use Rattle.laws_tables.proofs.Machine.{loaded_in_log, by_owner}
use Rattle.laws_tables.proofs.Points.{fronts}
use Rattle.laws_tables.proofs.Range.{IsMadeAt, IsShownAt, older, newest, made_cases, made_shown, answered_made, answered_shown, showed_made, shown_cases, kept_by_servers}
use Rattle.laws_tables.proofs.Through.{had_line_later, had_line_front}
use Rattle.laws_tables.proofs.Whole.{order_before}

abbrev MetadataStory : Type 0
MetadataStory = Story (Group MetaItem)

-- ---- lines

-- one record more
narrow_more : (items : List MetaItem) (m : MetadataState) (item : MetaItem) → AllNarrow m items → Narrows (fold_of m items) item → AllNarrow m (items ++ item ∷ [])
narrow_more [] m item all one = (one, tt)
narrow_more (x ∷ items) m item all one = (all.0, narrow_more items (taken m x) item all.1 one)

all_on : {A : Type 0} (Old New : A → Type 0) → ((x : A) → Old x → New x) → (xs : List A) → AllByRecursion Old xs → AllByRecursion New xs
all_on Old New on [] all = tt
all_on Old New on (x ∷ xs) all = (on x all.0, all_on Old New on xs all.1)

counts_one : (m : MetadataState) (item : MetaItem) → CountsForAll m → Narrows m item → CountsForAll (taken m item)
counts_one m (Ranges keys) c narrow = record {
  indexes = all_on (λ (x : IndexRange). IsNarrower m.keys x.keys) (λ (x : IndexRange). IsNarrower keys x.keys) (λ x old key there. old key (narrow key there)) m.indexes c.indexes;
  regions = all_on (λ (x : Region). IsNarrower m.keys x.keys) (λ (x : Region). IsNarrower keys x.keys) (λ x old key there. old key (narrow key there)) m.regions c.regions;
}
counts_one m (Checkpoint combine index position next) c narrow = record { indexes = (λ key there. there, others combine); regions = (λ key there. there, tt) }
  where
    others : (b : Bool) → AllByRecursion (λ (x : IndexRange). IsNarrower m.keys x.keys) (if b then [] else m.indexes)
    others true = tt
    others false = c.indexes
counts_one m (Regions indexes regions) c narrow = absurd narrow
counts_one m (SplitStatus low high key) c narrow = record { indexes = c.indexes; regions = c.regions }

-- what such a line names counts for all keys that it leaves
pub counts_for_all : (items : List MetaItem) (m : MetadataState) → AllNarrow m items → CountsForAll m → CountsForAll (fold_of m items)
counts_for_all [] m all c = c
counts_for_all (item ∷ items) m all c = counts_for_all items (taken m item) all.1 (counts_one m item c all.0)

pub first_counts : CountsForAll first_metadata
first_counts = record { indexes = tt; regions = (λ key there. there, tt) }

-- ---- loads are seen in both stories

loaded_in_metadata : (run : Run) (g : ℕ) → IsLoaded (log_of run) g → IsLoaded (meta_of run) g
loaded_in_metadata [] g h = absurd (let q : event_at [] h.0 ≡ Some (Showed g h.1 h.2 h.3) = h.4 in cc)
loaded_in_metadata (Forms g' group ∷ earlier) g h = loaded_in_metadata earlier g (h.0, h.1, h.2, h.3, made_shown Transaction g' group (log_of earlier) h.0 g h.1 h.2 h.3 h.4)
loaded_in_metadata (Logged g' a from to ∷ earlier) g h = loaded_in_metadata earlier g (h.0, h.1, h.2, h.3, answered_shown Transaction a from to (log_of earlier) h.0 g h.1 h.2 h.3 h.4)
loaded_in_metadata (Notes g' ∷ earlier) g h = loaded_in_metadata earlier g h
loaded_in_metadata (Records g' number item ∷ earlier) g h =
    let o : IsLoaded (meta_of earlier) g = loaded_in_metadata earlier g h in
    (o.0, o.1, o.2, o.3, older (Group MetaItem) (Made g' (record_group number item)) (meta_of earlier) o.0 (Showed g o.1 o.2 o.3) o.4)
loaded_in_metadata (Recorded g' a from to ∷ earlier) g h =
    let o : IsLoaded (meta_of earlier) g = loaded_in_metadata earlier g h in
    (o.0, o.1, o.2, o.3, older (Group MetaItem) (Answered a from to) (meta_of earlier) o.0 (Showed g o.1 o.2 o.3) o.4)
loaded_in_metadata (Trims g' place ∷ earlier) g h = loaded_in_metadata earlier g h
loaded_in_metadata (Confirms g' start end groups metadata_end records ∷ earlier) g h =
    let load : StreamEvent (Group MetaItem) = Showed g' 0 metadata_end records in
    ⊎_elim {C = IsLoaded (Showed g' 0 metadata_end records ∷ meta_of earlier) g}
    (λ (q : (h.0 ≡ length (log_of earlier)) × (g' ≡ g) × (groups ≡ h.3)).
    subst (λ z. IsLoaded (Showed g' 0 metadata_end records ∷ meta_of earlier) z) q.1 (length (meta_of earlier), 0, metadata_end, records, newest (Group MetaItem) load (meta_of earlier)))
    (λ (old : IsShownAt Transaction (log_of earlier) h.0 g h.1 h.2 h.3).
    let o : IsLoaded (meta_of earlier) g = loaded_in_metadata earlier g (h.0, h.1, h.2, h.3, old) in
    (o.0, o.1, o.2, o.3, older (Group MetaItem) load (meta_of earlier) o.0 (Showed g o.1 o.2 o.3) o.4))
    (shown_cases Transaction g' start end groups (log_of earlier) h.0 g h.1 h.2 h.3 h.4)

module _ (b : Beginning) where
  -- ---- records

  -- one that is out, or that was sent, behind the line that its server had
  pub record IsNarrowRecord (records : List MetaItem) (group : Group MetaItem) : Type 0 where
    pub item : MetaItem
    pub is : group.items ≡ item ∷ []
    pub narrow : Narrows (said b records) item

  pub record WasNarrow (metadata : MetadataStory) (g : ℕ) (group : Group MetaItem) : Type 0 where
    pub before : List MetaItem
    pub one : IsNarrowRecord before group
    pub number : group.first ≡ suc (length before)
    pub had_before : HadLine metadata g before

  -- what the server of a generation holds of its metadata
  pub record RecordsRight (metadata : MetadataStory) (g : ℕ) (s : Serving) : Type 0 where
    pub has : HasLine metadata g s.records s.record_out
    pub line : AllNarrow b.metadata s.records
    pub out : (o : OutAppend MetaItem) → s.record_out ≡ Some o → IsNarrowRecord s.records o.group

  was_later : (e : StreamEvent (Group MetaItem)) (metadata : MetadataStory) (g : ℕ) (group : Group MetaItem) → WasNarrow metadata g group → WasNarrow (e ∷ metadata) g group
  was_later e metadata g group w = record { before = w.before; one = w.one; number = w.number; had_before = had_line_later MetaItem e metadata g w.before w.had_before }

  pub record RecordsKept (run : Run) : Type 0 where
    pub served : IsServed (meta_of run)
    pub holds : (g : ℕ) → IsLoaded (meta_of run) g → RecordsRight (meta_of run) g (held b run g)
    pub fit : (a g : ℕ) (group : Group MetaItem) → IsMadeAt MetaItem (meta_of run) a g group → WasNarrow (meta_of run) g group

  -- ---- a load

  module _ (story : MetadataStory) (served : IsServed story) (order : KeepsOrder story) (fit : (a g : ℕ) (group : Group MetaItem) → IsMadeAt MetaItem story a g group → WasNarrow story g group)
      (l g start end : ℕ) (records : List (Placed (Group MetaItem))) (here : IsShownAt MetaItem story l g start end records) where
    narrow_at : (us vs : List MetaItem) (item : MetaItem) → line_shown records ≡ us ++ item ∷ vs → Narrows (said b us) item
    narrow_at us vs item e =
        let f : ItemFrom MetaItem story served order l g us item = item_from MetaItem story served order l g start end records here us vs item e in
        let w : WasNarrow story f.generation f.of = fit f.append f.generation f.of f.made in
        let one : (f.front ≡ []) × (item ≡ (w.one).item) = one_item f.front f.back (w.one).item item (sym (w.one).is ∙ f.items) in
        let none : length f.front ≡ 0 = ap length one.0 in
        let n1 : (f.of).first + length f.front ≡ suc (length us) = f.number in
        let n2 : (f.of).first ≡ suc (length w.before) = w.number in
        let len : length w.before ≡ length us = omega arith in
        let front : (more : List MetaItem) × (w.before ++ more ≡ line_shown records) = had_line_front MetaItem story served order f.generation w.before w.had_before l g start end records here f.below in
        let before_is : w.before ≡ us = fronts MetaItem w.before front.0 us (item ∷ vs) (front.1 ∙ e) len in
        subst (λ i. Narrows (said b us) i) (sym one.1) (subst (λ before. Narrows (said b before) (w.one).item) before_is (w.one).narrow)

    narrow_from : (us vs : List MetaItem) → line_shown records ≡ us ++ vs → AllNarrow (said b us) vs
    narrow_from us [] e = tt
    narrow_from us (item ∷ vs) e = (
      narrow_at us vs item e,
      subst (λ m. AllNarrow m vs) (fold_last us item b.metadata) (narrow_from (us ++ item ∷ []) vs (e ∙ sym (append_assoc us (item ∷ []) vs))),
    )

    -- its line
    pub narrow_shown : AllNarrow b.metadata (line_shown records)
    narrow_shown = narrow_from [] (line_shown records) refl

  -- ---- events

  module _ (layer_at : Place → Layer) where
    may_narrow : (s : Serving) (item : MetaItem) → MayCheckpoint layer_at b s item ⊎ MaySplit layer_at b s item → Narrows (said b s.records) item
    may_narrow s item (inl may) = subst (Narrows (said b s.records)) (sym may.5) tt
    may_narrow s item (inr (none, inl split)) = subst (Narrows (said b s.records)) (sym split.3) tt
    may_narrow s item (inr (none, inr keys)) = subst (Narrows (said b s.records)) (sym keys.1) keys.2

    module _ (run : Run) (kept : RecordsKept run) where
      abbrev M : MetadataStory
      M = meta_of run

      own : (g : ℕ) → IsLoaded (log_of run) g → RecordsRight M g (held b run g)
      own g h = kept.holds g (loaded_in_metadata run g h)

      -- what does nothing with the metadata
      kept_forms : (g : ℕ) (group : Group Transaction) → IsLoaded (log_of run) g → RecordsKept (Forms g group ∷ run)
      kept_forms g group is = record {
        served = kept.served;
        holds = λ j loaded. by_owner (λ z s. RecordsRight M z s) (held b run) (formed (length (log_of run)) group) g j (let h = own g is in record { has = h.has; line = h.line; out = h.out }) (λ q. kept.holds j loaded);
        fit = kept.fit;
      }

      kept_logged : (g a from to : ℕ) → IsLoaded (log_of run) g → RecordsKept (Logged g a from to ∷ run)
      kept_logged g a from to is = record {
        served = kept.served;
        holds = λ j loaded. by_owner (λ z s. RecordsRight M z s) (held b run) (logged to) g j (let h = own g is in record { has = h.has; line = h.line; out = h.out }) (λ q. kept.holds j loaded);
        fit = kept.fit;
      }

      kept_notes : (g : ℕ) → IsLoaded (log_of run) g → RecordsKept (Notes g ∷ run)
      kept_notes g is = record {
        served = kept.served;
        holds = λ j loaded. by_owner (λ z s. RecordsRight M z s) (held b run) noting g j (let h = own g is in record { has = h.has; line = h.line; out = h.out }) (λ q. kept.holds j loaded);
        fit = kept.fit;
      }

      others : (e : StreamEvent (Group MetaItem)) (j : ℕ) (s : Serving) → HasLine (e ∷ M) j s.records s.record_out → RecordsRight M j s → RecordsRight (e ∷ M) j s
      others e j s has h = record { has = has; line = h.line; out = h.out }

      -- a record is sent
      kept_records : (g number : ℕ) (item : MetaItem) → MayInChain layer_at b run (Records g number item) → RecordsKept (Records g number item ∷ run)
      kept_records g number item may =
          let h : RecordsRight M g (held b run g) = own g may.0 in
          let s : Serving = held b run g in
          let group : Group MetaItem = record_group number item in
          let e : StreamEvent (Group MetaItem) = Made g group in
          let one : IsNarrowRecord s.records group = record { item = item; is = refl; narrow = may_narrow s item may.3 } in
          let answered : HasAllAnswered M g s.records = subst (λ z. HasLine M g s.records z) may.1 h.has in
          record {
            served = (allowed_made MetaItem M g s.records group kept.served answered may.2, kept.served);
            holds = λ j loaded.
                by_owner (λ z t. RecordsRight (Made g group ∷ M) z t) (held b run) (recording (length M) group) g j
                (record {
                  has = one_out_made MetaItem M g s.records group answered;
                  line = h.line;
                  out = λ o q.
                      let mine : OutAppend MetaItem = record { append = length M; group = group } in
                      let is : mine ≡ o = cc in
                      subst (λ z. IsNarrowRecord s.records z.group) is one;
                })
                (λ (q : j ≡ g → ⊥).
                let old : RecordsRight M j (held b run j) = kept.holds j (loaded.0, loaded.1, loaded.2, loaded.3, made_shown MetaItem g group M loaded.0 j loaded.1 loaded.2 loaded.3 loaded.4) in
                others e j (held b run j) (has_line_later MetaItem e M j (held b run j).records (held b run j).record_out q old.has) old);
            fit = λ a k x m.
                ⊎_elim {C = WasNarrow (Made g group ∷ M) k x}
                (λ (q : (a ≡ length M) × (g ≡ k) × (group ≡ x)).
                subst (λ z. WasNarrow (Made g group ∷ M) k z) q.2
                (subst (λ z. WasNarrow (Made g group ∷ M) z group) q.1
                (was_later e M g group (record { before = s.records; one = one; number = may.2; had_before = had_line_answered MetaItem M g s.records answered }))))
                (λ o. was_later e M k x (kept.fit a k x o))
                (made_cases MetaItem g group M a k x m);
          }

      -- it is answered
      kept_recorded : (g a from to : ℕ) → MayInChain layer_at b run (Recorded g a from to) → RecordsKept (Recorded g a from to ∷ run)
      kept_recorded g a from to may =
          let h : RecordsRight M g (held b run g) = own g may.0 in
          let s : Serving = held b run g in
          let e : StreamEvent (Group MetaItem) = Answered a from to in
          let out : HasOneOut M g s.records a may.1 = subst (λ z. HasLine M g s.records z) may.2 h.has in
          let one : IsNarrowRecord s.records may.1 = h.out (record { append = a; group = may.1 }) may.2 in
          let items : items_out s.record_out ≡ (may.1).items = ap items_out may.2 in
          let grown : s.records ++ items_out s.record_out ≡ s.records ++ one.item ∷ [] = ap (λ z. s.records ++ z) (items ∙ one.is) in
          record {
            served = ((g, may.1, one_out_is_made MetaItem M g s.records a may.1 out), kept.served);
            holds = λ j loaded.
                by_owner (λ z t. RecordsRight (Answered a from to ∷ M) z t) (held b run) recorded g j
                (record {
                  has = subst (λ z. HasAllAnswered (Answered a from to ∷ M) g (s.records ++ z)) (sym items) (all_answered_then MetaItem M g s.records a from to may.1 out);
                  line = subst (AllNarrow b.metadata) (sym grown) (narrow_more s.records b.metadata one.item h.line one.narrow);
                  out = λ o q. absurd (cc);
                })
                (λ (q : j ≡ g → ⊥).
                let old : RecordsRight M j (held b run j) = kept.holds j (loaded.0, loaded.1, loaded.2, loaded.3, answered_shown MetaItem a from to M loaded.0 j loaded.1 loaded.2 loaded.3 loaded.4) in
                others e j (held b run j) (has_line_later MetaItem e M j (held b run j).records (held b run j).record_out tt old.has) old);
            fit = λ x k group m. was_later e M k group (kept.fit x k group (answered_made MetaItem a from to M x k group m));
          }

      -- a load is confirmed
      kept_confirms : (g start end : ℕ) (groups : List (Placed (Group Transaction))) (metadata_end : ℕ) (records : List (Placed (Group MetaItem))) → (IsLoaded (log_of run) g → ⊥) →
          KeepsOrder (Showed g 0 metadata_end records ∷ M) → RecordsKept (Confirms g start end groups metadata_end records ∷ run)
      kept_confirms g start end groups metadata_end records first order =
          let e : StreamEvent (Group MetaItem) = Showed g 0 metadata_end records in
          let fresh : IsLoaded M g → ⊥ = λ loaded. first (loaded_in_log run g loaded) in
          let served : IsServed (Showed g 0 metadata_end records ∷ M) = ((refl, λ l from to other at. fresh (l, from, to, other, at)), kept.served) in
          let fit : (a k : ℕ) (group : Group MetaItem) → IsMadeAt MetaItem (Showed g 0 metadata_end records ∷ M) a k group → WasNarrow (Showed g 0 metadata_end records ∷ M) k group =
          λ a k group m. was_later e M k group (kept.fit a k group (showed_made MetaItem g 0 metadata_end records M a k group m)) in
          record {
            served = served;
            holds = λ j loaded.
                by_owner (λ z t. RecordsRight (Showed g 0 metadata_end records ∷ M) z t) (held b run) (λ t. confirmed b start end groups records) g j
                (record {
                  has = all_answered_loaded MetaItem M g 0 metadata_end records (kept_by_servers MetaItem M kept.served) fresh;
                  line = narrow_shown (Showed g 0 metadata_end records ∷ M) served order fit (length M) g 0 metadata_end records (newest (Group MetaItem) e M);
                  out = λ o q. absurd (cc);
                })
                (λ (q : j ≡ g → ⊥).
                let old : RecordsRight M j (held b run j) =
                ⊎_elim {C = RecordsRight M j (held b run j)}
                (λ (new : (loaded.0 ≡ length M) × (g ≡ j) × (records ≡ loaded.3)). absurd (q (sym new.1)))
                (λ (o : IsShownAt MetaItem M loaded.0 j loaded.1 loaded.2 loaded.3). kept.holds j (loaded.0, loaded.1, loaded.2, loaded.3, o))
                (shown_cases MetaItem g 0 metadata_end records M loaded.0 j loaded.1 loaded.2 loaded.3 loaded.4) in
                others e j (held b run j) (has_line_later MetaItem e M j (held b run j).records (held b run j).record_out q old.has) old);
            fit = fit;
          }

    -- ---- runs

    pub records_kept : (run : Run) → IsChainRun layer_at b run → KeepsOrder (meta_of run) → RecordsKept run
    records_kept [] ok order = record {
      served = tt;
      holds = λ g h. absurd (let q : event_at [] h.0 ≡ Some (Showed g h.1 h.2 h.3) = h.4 in cc);
      fit = λ a g group m. absurd (cc);
    }
    records_kept (Forms g group ∷ run) ok order = kept_forms run (records_kept run ok.1 order) g group ok.0.0
    records_kept (Logged g a from to ∷ run) ok order = kept_logged run (records_kept run ok.1 order) g a from to ok.0.0
    records_kept (Notes g ∷ run) ok order = kept_notes run (records_kept run ok.1 order) g ok.0.0
    records_kept (Records g number item ∷ run) ok order =
        kept_records run (records_kept run ok.1 (order_before (Group MetaItem) (Made g (record_group number item)) (meta_of run) order)) g number item ok.0
    records_kept (Recorded g a from to ∷ run) ok order = kept_recorded run (records_kept run ok.1 (order_before (Group MetaItem) (Answered a from to) (meta_of run) order)) g a from to ok.0
    records_kept (Trims g place ∷ run) ok order = let k : RecordsKept run = records_kept run ok.1 order in record { served = k.served; holds = k.holds; fit = k.fit }
    records_kept (Confirms g start end groups metadata_end records ∷ run) ok order =
        kept_confirms run (records_kept run ok.1 (order_before (Group MetaItem) (Showed g 0 metadata_end records) (meta_of run) order)) g start end groups metadata_end records ok.0.0 order

    module _ (run : Run) (ok : IsChainRun layer_at b run) (order : KeepsOrder (meta_of run)) (begins : CountsForAll b.metadata) where
      abbrev all_kept : RecordsKept run
      all_kept = records_kept run ok order

      -- EACH LOAD OF A CHAIN names indexes and regions that count for all of its keys,
      pub load_counts : (l g start end : ℕ) (records : List (Placed (Group MetaItem))) → IsShownAt MetaItem (meta_of run) l g start end records → CountsForAll (said b (line_shown records))
      load_counts l g start end records here =
          counts_for_all (line_shown records) b.metadata (narrow_shown (meta_of run) all_kept.served order all_kept.fit l g start end records here) begins

      -- and so does what a server holds that serves it
      pub held_counts : (g : ℕ) → IsLoaded (log_of run) g → CountsForAll (said b (held b run g).records)
      held_counts g loaded = counts_for_all (held b run g).records b.metadata (all_kept.holds g (loaded_in_metadata run g loaded)).line begins
