-- The law of families of runs: what is observed of all ranges that splits made of the first replays, and Gets that they answer are served.
use Rattle.std.proofs.Common.{◌≡◌, ℕ, suc, ◌<◌, ◌≤◌, List, [], ◌∷◌, ◌++◌, length, map, cond, Option, Some, None, refl, sym, ap, ◌∙◌, subst, inl, inr, ◌⊎◌, arith, append_assoc}
use Rattle.wire.specs.declared.note.Note.{Note}
use Rattle.wire.specs.declared.note.Note.TheVariants.{Loaded, Got}
use Rattle.wire.specs.declared.rows.Row.{Row}
use Rattle.memtable.specs.declared.cell.Place.{Place}
use Rattle.commitlog.specs.Replay.{Numbered as Group}
use Rattle.metadata.specs.declared.record.KeyRange.{KeyRange}
use Rattle.metadata.specs.declared.record.MetaItem.{MetaItem}
use Rattle.model_histories.specs.Log.{line_shown, begins_of, dones_at, only}
use Rattle.model_partition.specs.Past.{Bytes, Transaction, empty_table, after_line, stored, kept, keys_of, From_nothing, Replays}
use Rattle.model_partition.specs.Served.{IsServed}
use Rattle.model_histories.specs.Story.{Placed, StreamEvent, Made, Answered, Showed, event_at, Copy, placed, whole}
use Rattle.model_histories.specs.StreamMachine.{In}
use Rattle.laws_tables.specs.Families.{HasKeys, IsFirst, HasParent, IsFamily}
use Rattle.laws_tables.specs.Layers.{Layer}
use Rattle.laws_tables.specs.Reads.{whole_log, IsRead, AreReads, ReplaysAndServes}
use Rattle.laws_tables.specs.Runs.{Event, Forms, Logged, Notes, Records, Recorded, Trims, Confirms, Run, log_of, first_beginning, ShownLoad, said, next_loaded, shown_at, seen}
use Rattle.laws_tables.specs.Through.{IsTail, IsAnswered}
use Rattle.laws_tables.specs.WholeStories.{observed}
use Rattle.laws_tables.proofs.Final.{first_begins, first_behind}
use Rattle.laws_tables.proofs.Holds.{LogStory}
use Rattle.laws_tables.proofs.LinesTo.{AnswersNext, next_tail}
use Rattle.laws_tables.proofs.Machine.{Inv, inv_of}
use Rattle.laws_tables.proofs.Members.{in_contains, contains_in, in_left}
use Rattle.laws_tables.proofs.Range.{IsShownAt, older, newest, bound, eq_test, ne_test, made_shown, answered_shown, shown_cases}
use Rattle.laws_tables.proofs.RunLines.{answers_next}
use Rattle.laws_tables.proofs.ServedReads.{IsStoryRead, read_is_served}
use Rattle.laws_tables.proofs.StoryFamilies.{IsFirstStory, HasStoryParent, StoryFamily, load_line, family_replays, family_past}
use Rattle.laws_tables.proofs.Whole.{as_whole, whole_length, whole_at, back_made, back_shown, to_answered, whole_order}

abbrev Copies : Type 0
Copies = ℕ → List (Copy (Group Transaction))

-- ---- the log's story

log_append : (xs ys : Run) → log_of (xs ++ ys) ≡ log_of xs ++ log_of ys
log_append [] ys = refl
log_append (Forms g group ∷ xs) ys = ap (λ z. Made g group ∷ z) (log_append xs ys)
log_append (Logged g a from to ∷ xs) ys = ap (λ z. Answered a from to ∷ z) (log_append xs ys)
log_append (Notes g ∷ xs) ys = log_append xs ys
log_append (Records g number item ∷ xs) ys = log_append xs ys
log_append (Recorded g a from to ∷ xs) ys = log_append xs ys
log_append (Trims g place ∷ xs) ys = log_append xs ys
log_append (Confirms g start end groups metadata_end records ∷ xs) ys = ap (λ z. Showed g start end groups ∷ z) (log_append xs ys)

whole_tail : (cs : Copies) (xs ys : LogStory) → IsTail (whole (Group Transaction) cs ys) (whole (Group Transaction) cs (xs ++ ys))
whole_tail cs [] ys = ([], refl)
whole_tail cs (Made g x ∷ xs) ys = let r : IsTail (whole (Group Transaction) cs ys) (whole (Group Transaction) cs (xs ++ ys)) = whole_tail cs xs ys in (Made g x ∷ r.0, ap (λ z. Made g x ∷ z) r.1)
whole_tail cs (Answered a from to ∷ xs) ys = let r : IsTail (whole (Group Transaction) cs ys) (whole (Group Transaction) cs (xs ++ ys)) = whole_tail cs xs ys in (Answered a from to ∷ r.0, ap (λ z. Answered a from to ∷ z) r.1)
whole_tail cs (Showed g s e groups ∷ xs) ys =
    let r : IsTail (whole (Group Transaction) cs ys) (whole (Group Transaction) cs (xs ++ ys)) = whole_tail cs xs ys in
    let load : StreamEvent (Group Transaction) = Showed g 0 e (map placed (cs (length (xs ++ ys)))) in
    (Showed g 0 e (map placed (cs (length (xs ++ ys)))) ∷ r.0, ap (λ z. Showed g 0 e (map placed (cs (length (xs ++ ys)))) ∷ z) r.1)

-- where each load is of the same groups
whole_same : (cs ds : Copies) (story : LogStory) → ((l g s e : ℕ) (xs : List (Placed (Group Transaction))) → event_at story l ≡ Some (Showed g s e xs) → map placed (cs l) ≡ map placed (ds l)) →
    whole (Group Transaction) cs story ≡ whole (Group Transaction) ds story
whole_same cs ds [] same = refl
whole_same cs ds (Made g x ∷ earlier) same = ap (λ z. Made g x ∷ z) (whole_same cs ds earlier (λ l k s e xs is. same l k s e xs (older (Group Transaction) (Made g x) earlier l (Showed k s e xs) is)))
whole_same cs ds (Answered a from to ∷ earlier) same =
    ap (λ z. Answered a from to ∷ z) (whole_same cs ds earlier (λ l k s e xs is. same l k s e xs (older (Group Transaction) (Answered a from to) earlier l (Showed k s e xs) is)))
whole_same cs ds (Showed g start end groups ∷ earlier) same =
    let load : StreamEvent (Group Transaction) = Showed g start end groups in
    ap (λ z. Showed g 0 end z ∷ whole (Group Transaction) cs earlier) (same (length earlier) g start end groups (newest (Group Transaction) load earlier))
    ∙ ap (λ z. Showed g 0 end (map placed (ds (length earlier))) ∷ z) (whole_same cs ds earlier (λ l k s e xs is. same l k s e xs (older (Group Transaction) load earlier l (Showed k s e xs) is)))

-- ---- what a run shows, as what its whole story shows

-- each load goes on with the number after the line of its copies
abbrev AreNumbered : Copies → Run → Type 0
AreNumbered cs [] = Unit {0}
AreNumbered cs (Confirms g start end groups metadata_end records ∷ earlier) =
    (next_loaded first_beginning groups records ≡ suc (length (line_shown (map placed (cs (length (log_of earlier))))))) × AreNumbered cs earlier
AreNumbered cs (e ∷ earlier) = AreNumbered cs earlier

numbered_tail : (cs : Copies) (xs ys : Run) → AreNumbered cs (xs ++ ys) → AreNumbered cs ys
numbered_tail cs [] ys n = n
numbered_tail cs (Confirms g start end groups metadata_end records ∷ xs) ys n = numbered_tail cs xs ys n.1
numbered_tail cs (Forms g group ∷ xs) ys n = numbered_tail cs xs ys n
numbered_tail cs (Logged g a from to ∷ xs) ys n = numbered_tail cs xs ys n
numbered_tail cs (Notes g ∷ xs) ys n = numbered_tail cs xs ys n
numbered_tail cs (Records g number item ∷ xs) ys n = numbered_tail cs xs ys n
numbered_tail cs (Recorded g a from to ∷ xs) ys n = numbered_tail cs xs ys n
numbered_tail cs (Trims g place ∷ xs) ys n = numbered_tail cs xs ys n

abbrev mine : (ℕ → List Row) → List (Placed (Group Transaction)) → List (Placed (Group MetaItem)) → ℕ → ShownLoad
mine rows groups records n = record { rows = rows n; keys = (said first_beginning (line_shown records)).keys; next = next_loaded first_beginning groups records }

here_shown : (rows : ℕ → List Row) (g start end : ℕ) (groups : List (Placed (Group Transaction))) (metadata_end : ℕ) (records : List (Placed (Group MetaItem))) (run : Run) →
    shown_at first_beginning rows (Confirms g start end groups metadata_end records ∷ run) (length (log_of run)) ≡ mine rows groups records (length (log_of run))
here_shown rows g start end groups metadata_end records run =
    ap (λ t. cond t (mine rows groups records (length (log_of run))) (shown_at first_beginning rows run (length (log_of run)))) (eq_test Event (length (log_of run)))

other_shown : (rows : ℕ → List Row) (g start end : ℕ) (groups : List (Placed (Group Transaction))) (metadata_end : ℕ) (records : List (Placed (Group MetaItem))) (run : Run) (l k s e : ℕ) (xs : List (Placed (Group Transaction))) →
    IsShownAt Transaction (log_of run) l k s e xs → shown_at first_beginning rows (Confirms g start end groups metadata_end records ∷ run) l ≡ shown_at first_beginning rows run l
other_shown rows g start end groups metadata_end records run l k s e xs is =
    let low : l < length (log_of run) = bound (Group Transaction) (log_of run) l (Showed k s e xs) is in
    ap (λ t. cond t (mine rows groups records l) (shown_at first_beginning rows run l)) (ne_test Event l (length (log_of run)) (λ (q : l ≡ length (log_of run)). omega arith))

numbered : (rows : ℕ → List Row) (cs : Copies) (run : Run) →
    ((l g s e : ℕ) (xs : List (Placed (Group Transaction))) → IsShownAt Transaction (log_of run) l g s e xs → (shown_at first_beginning rows run l).next ≡ suc (length (line_shown (map placed (cs l))))) →
    AreNumbered cs run
numbered rows cs [] h = tt
numbered rows cs (Forms g group ∷ run) h = numbered rows cs run (λ l k s e xs is. h l k s e xs (older (Group Transaction) (Made g group) (log_of run) l (Showed k s e xs) is))
numbered rows cs (Logged g a from to ∷ run) h = numbered rows cs run (λ l k s e xs is. h l k s e xs (older (Group Transaction) (Answered a from to) (log_of run) l (Showed k s e xs) is))
numbered rows cs (Notes g ∷ run) h = numbered rows cs run h
numbered rows cs (Records g number item ∷ run) h = numbered rows cs run h
numbered rows cs (Recorded g a from to ∷ run) h = numbered rows cs run h
numbered rows cs (Trims g place ∷ run) h = numbered rows cs run h
numbered rows cs (Confirms g start end groups metadata_end records ∷ run) h = (
  ap (λ (z : ShownLoad). z.next) (sym (here_shown rows g start end groups metadata_end records run)) ∙ h (length (log_of run)) g start end groups (newest (Group Transaction) (Showed g start end groups) (log_of run)),
  numbered rows cs run (λ l k s e xs is.
      ap (λ (z : ShownLoad). z.next) (sym (other_shown rows g start end groups metadata_end records run l k s e xs is))
      ∙ h l k s e xs (older (Group Transaction) (Showed g start end groups) (log_of run) l (Showed k s e xs) is)),
)

dones_whole : (range : ℕ) (copies : List (Copy (Group Transaction))) (o : Option (StreamEvent (Group Transaction))) → dones_at range (as_whole (Group Transaction) copies o) ≡ dones_at range o
dones_whole range copies None = refl
dones_whole range copies (Some (Made g group)) = refl
dones_whole range copies (Some (Answered a from to)) = refl
dones_whole range copies (Some (Showed g start end groups)) = refl

seen_whole : (range : ℕ) (rows : ℕ → List Row) (cs : Copies) (run : Run) → AreNumbered cs run → seen first_beginning rows range run ≡ observed range rows (whole (Group Transaction) cs (log_of run))
seen_whole range rows cs [] n = refl
seen_whole range rows cs (Forms g group ∷ run) n = ap (λ z. z ++ begins_of range g group.first group.items) (seen_whole range rows cs run n)
seen_whole range rows cs (Logged g a from to ∷ run) n =
    ap (λ z. z ++ dones_at range (event_at (log_of run) a)) (seen_whole range rows cs run n)
    ∙ ap (λ z. observed range rows (whole (Group Transaction) cs (log_of run)) ++ z)
    (sym (ap (dones_at range) (whole_at (Group Transaction) cs (log_of run) a) ∙ dones_whole range (cs a) (event_at (log_of run) a)))
seen_whole range rows cs (Notes g ∷ run) n = seen_whole range rows cs run n
seen_whole range rows cs (Records g number item ∷ run) n = seen_whole range rows cs run n
seen_whole range rows cs (Recorded g a from to ∷ run) n = seen_whole range rows cs run n
seen_whole range rows cs (Trims g place ∷ run) n = seen_whole range rows cs run n
seen_whole range rows cs (Confirms g start end groups metadata_end records ∷ run) n =
    let len : length (log_of run) ≡ length (whole (Group Transaction) cs (log_of run)) = sym (whole_length (Group Transaction) cs (log_of run)) in
    let before : List Note = observed range rows (whole (Group Transaction) cs (log_of run)) in
    ap (λ z. z ++ Loaded range g (rows (length (log_of run))) (next_loaded first_beginning groups records) ∷ []) (seen_whole range rows cs run n.1)
    ∙ ap (λ z. observed range rows (whole (Group Transaction) cs (log_of run)) ++ Loaded range g (rows (length (log_of run))) z ∷ []) n.0
    ∙ ap (λ z. observed range rows (whole (Group Transaction) cs (log_of run)) ++ Loaded range g (rows z) (suc (length (line_shown (map placed (cs (length (log_of run))))))) ∷ []) len

-- ---- rows and keys

rows_shown : (rows : ℕ → List Row) (run : Run) (l g s e : ℕ) (xs : List (Placed (Group Transaction))) → IsShownAt Transaction (log_of run) l g s e xs → (shown_at first_beginning rows run l).rows ≡ rows l
rows_shown rows [] l g s e xs is = absurd (cc)
rows_shown rows (Forms g' group ∷ run) l g s e xs is = rows_shown rows run l g s e xs (made_shown Transaction g' group (log_of run) l g s e xs is)
rows_shown rows (Logged g' a from to ∷ run) l g s e xs is = rows_shown rows run l g s e xs (answered_shown Transaction a from to (log_of run) l g s e xs is)
rows_shown rows (Notes g' ∷ run) l g s e xs is = rows_shown rows run l g s e xs is
rows_shown rows (Records g' number item ∷ run) l g s e xs is = rows_shown rows run l g s e xs is
rows_shown rows (Recorded g' a from to ∷ run) l g s e xs is = rows_shown rows run l g s e xs is
rows_shown rows (Trims g' place ∷ run) l g s e xs is = rows_shown rows run l g s e xs is
rows_shown rows (Confirms g' start end groups metadata_end records ∷ run) l g s e xs is =
    elim (shown_cases Transaction g' start end groups (log_of run) l g s e xs is) as (λ x. (shown_at first_beginning rows (Confirms g' start end groups metadata_end records ∷ run) l).rows ≡ rows l) [
      | inl q ↦ subst (λ z. (shown_at first_beginning rows (Confirms g' start end groups metadata_end records ∷ run) z).rows ≡ rows z) (sym q.0) (ap (λ (z : ShownLoad). z.rows) (here_shown rows g' start end groups metadata_end records run))
      | inr o ↦ ap (λ (z : ShownLoad). z.rows) (other_shown rows g' start end groups metadata_end records run l g s e xs o) ∙ rows_shown rows run l g s e xs o
    ]

-- each own load has the range's keys
own_keys : (keys : KeyRange) (rows : ℕ → List Row) (own taken : Run) → HasKeys keys own → (l g s e : ℕ) (xs : List (Placed (Group Transaction))) → IsShownAt Transaction (log_of (own ++ taken)) l g s e xs →
    length (log_of taken) ≤ l → (shown_at first_beginning rows (own ++ taken) l).keys ≡ keys
own_keys keys rows [] taken has l g s e xs is le = let lt : l < length (log_of taken) = bound (Group Transaction) (log_of taken) l (Showed g s e xs) is in absurd (omega arith)
own_keys keys rows (Forms g' group ∷ own) taken has l g s e xs is le = own_keys keys rows own taken has l g s e xs (made_shown Transaction g' group (log_of (own ++ taken)) l g s e xs is) le
own_keys keys rows (Logged g' a from to ∷ own) taken has l g s e xs is le = own_keys keys rows own taken has l g s e xs (answered_shown Transaction a from to (log_of (own ++ taken)) l g s e xs is) le
own_keys keys rows (Notes g' ∷ own) taken has l g s e xs is le = own_keys keys rows own taken has l g s e xs is le
own_keys keys rows (Records g' number item ∷ own) taken has l g s e xs is le = own_keys keys rows own taken has l g s e xs is le
own_keys keys rows (Recorded g' a from to ∷ own) taken has l g s e xs is le = own_keys keys rows own taken has l g s e xs is le
own_keys keys rows (Trims g' place ∷ own) taken has l g s e xs is le = own_keys keys rows own taken has l g s e xs is le
own_keys keys rows (Confirms g' start end groups metadata_end records ∷ own) taken has l g s e xs is le =
    elim (shown_cases Transaction g' start end groups (log_of (own ++ taken)) l g s e xs is) as (λ x. (shown_at first_beginning rows (Confirms g' start end groups metadata_end records ∷ (own ++ taken)) l).keys ≡ keys) [
      | inl q ↦ subst (λ z. (shown_at first_beginning rows (Confirms g' start end groups metadata_end records ∷ (own ++ taken)) z).keys ≡ keys) (sym q.0)
          (ap (λ (z : ShownLoad). z.keys) (here_shown rows g' start end groups metadata_end records (own ++ taken)) ∙ has.0)
      | inr o ↦ ap (λ (z : ShownLoad). z.keys) (other_shown rows g' start end groups metadata_end records (own ++ taken) l g s e xs o) ∙ own_keys keys rows own taken has.1 l g s e xs o le
    ]

-- ---- the law

module _ (layer_at : Place → Layer) (h : List Note) (family : IsFamily layer_at h) where
  abbrev chain : ℕ → Run
  chain r = family.own r ++ family.taken r

  abbrev copies : ℕ → Copies
  copies r = (family.range r).log.copies

  abbrev story : ℕ → LogStory
  story r = whole (Group Transaction) (copies r) (log_of (chain r))

  abbrev taken : ℕ → LogStory
  taken r = whole (Group Transaction) (copies r) (log_of (family.taken r))

  inv : (r : ℕ) → Inv layer_at first_beginning (family.rows r) (copies r) (chain r)
  inv r =
      inv_of layer_at first_beginning (family.rows r) (chain r) (first_begins layer_at) (family.range r).runs (family.range r).layers (family.range r).log (family.range r).ends
      (first_behind layer_at (log_of (chain r)) (family.range r).log) (family.range r).metadata

  shown_whole : (r l g s e : ℕ) (xs : List (Placed (Group Transaction))) → IsShownAt Transaction (log_of (chain r)) l g s e xs → IsShownAt Transaction (story r) l g 0 e (map placed (copies r l))
  shown_whole r l g s e xs is = whole_at (Group Transaction) (copies r) (log_of (chain r)) l ∙ ap (as_whole (Group Transaction) (copies r l)) is

  are_numbered : (r : ℕ) → AreNumbered (copies r) (chain r)
  are_numbered r = numbered (family.rows r) (copies r) (chain r) (λ l g s e xs is. ((inv r).shows l g 0 e (map placed (copies r l)) (shown_whole r l g s e xs is)).number)

  is_tail : (r : ℕ) → IsTail (taken r) (story r)
  is_tail r = subst (λ z. IsTail (taken r) (whole (Group Transaction) (copies r) z)) (sym (log_append (family.own r) (family.taken r))) (whole_tail (copies r) (log_of (family.own r)) (log_of (family.taken r)))

  told : (r : ℕ) → observed r (family.rows r) (story r) ≡ observed r (family.rows r) (taken r) ++ only r h
  told r =
      sym (seen_whole r (family.rows r) (copies r) (chain r) (are_numbered r)) ∙ (family.range r).told
      ∙ ap (λ z. z ++ only r h) (seen_whole r (family.rows r) (copies r) (family.taken r) (numbered_tail (copies r) (family.own r) (family.taken r) (are_numbered r)))

  tables : (r l g s e : ℕ) (xs : List (Placed (Group Transaction))) → IsShownAt Transaction (story r) l g s e xs → length (taken r) ≤ l →
      (key : Bytes) → stored (family.rows r l) key ≡ kept (keys_of h r) (after_line (line_shown xs) empty_table) key
  tables r l g s e xs is le key =
      let b : (s' : ℕ) × (xs' : List (Placed (Group Transaction))) × (event_at (log_of (chain r)) l ≡ Some (Showed g s' e xs')) × (s ≡ 0) × (xs ≡ map placed (copies r l)) = back_shown (Group Transaction) (copies r) (log_of (chain r)) l g s e xs is in
      let len : length (taken r) ≡ length (log_of (family.taken r)) = whole_length (Group Transaction) (copies r) (log_of (family.taken r)) in
      ap (λ z. stored z key) (sym (rows_shown (family.rows r) (chain r) l g b.0 e b.1 b.2))
      ∙ ((inv r).shows l g s e xs is).table key
      ∙ ap (λ z. kept z (after_line (line_shown xs) empty_table) key) (own_keys (keys_of h r) (family.rows r) (family.own r) (family.taken r) (family.keys r) l g b.0 e b.1 b.2 (omega arith))

  -- what a child took, as its parent's loads show it
  same_taken : (p r : ℕ) (q : HasParent layer_at h family.own family.taken family.rows family.range p r) → whole (Group Transaction) (copies p) (log_of (family.taken r)) ≡ taken r
  same_taken p r q = whole_same (copies p) (copies r) (log_of (family.taken r)) (λ l g s e xs is. sym (q.shared l g s e xs is))

  parts : (p r : ℕ) (q : HasParent layer_at h family.own family.taken family.rows family.range p r) → chain p ≡ q.late ++ family.taken r
  parts p r q = ap (λ z. z ++ family.taken p) q.parts ∙ append_assoc q.late q.early (family.taken p) ∙ ap (λ z. q.late ++ z) (sym q.took)

  parent_told : (p r : ℕ) (q : HasParent layer_at h family.own family.taken family.rows family.range p r) →
      observed p (family.rows p) (taken r) ≡ observed p (family.rows p) (taken p) ++ only p q.before
  parent_told p r q =
      ap (observed p (family.rows p)) (sym (same_taken p r q))
      ∙ sym (seen_whole p (family.rows p) (copies p) (family.taken r) (numbered_tail (copies p) q.late (family.taken r) (subst (AreNumbered (copies p)) (parts p r q) (are_numbered p))))
      ∙ q.told
      ∙ ap (λ z. z ++ only p q.before) (seen_whole p (family.rows p) (copies p) (family.taken p) (numbered_tail (copies p) (family.own p) (family.taken p) (are_numbered p)))

  front : (p r : ℕ) (q : HasParent layer_at h family.own family.taken family.rows family.range p r) → IsTail (taken r) (story p)
  front p r q =
      subst (λ z. IsTail z (story p)) (same_taken p r q)
      (subst (λ z. IsTail (whole (Group Transaction) (copies p) (log_of (family.taken r))) (whole (Group Transaction) (copies p) z)) (sym (ap log_of (parts p r q) ∙ log_append q.late (family.taken r)))
      (whole_tail (copies p) (log_of q.late) (log_of (family.taken r))))

  parent : (p r : ℕ) → HasParent layer_at h family.own family.taken family.rows family.range p r → HasStoryParent h story taken family.rows p r
  parent p r q = record {
    child = q.child;
    front = front p r q;
    before = q.before;
    after = q.after;
    moment = q.moment;
    told = parent_told p r q;
    untold = q.untold;
    generation = q.generation;
    loaded = (q.loaded.0, q.loaded.1, in_contains (Loaded p q.generation q.loaded.0 q.loaded.1) q.before q.loaded.2);
    answered = λ a group made.
        let x : IsAnswered (log_of (family.taken r)) a = q.answered a group (back_made (Group Transaction) (copies p) (log_of (chain p)) a q.generation group made) in
        (x.0, x.1, x.2, x.3, to_answered (Group Transaction) (copies r) (log_of (family.taken r)) x.0 a x.1 x.2 x.4);
    highest = λ o i is. q.highest o (contains_in o h i) is;
    above = λ o i is. q.above o (contains_in o h i) is;
  }

  first : (r : ℕ) → IsFirst layer_at h family.own family.taken family.rows family.range r → IsFirstStory h story taken family.rows r
  first r a = record { is = a.is; unborn = a.unborn; nothing = ap (λ z. whole (Group Transaction) (copies r) (log_of z)) a.nothing }

  stories : StoryFamily h story taken family.rows
  stories = record {
    tail = is_tail;
    served = λ r. (inv r).served;
    order = λ r. whole_order (Group Transaction) (log_of (chain r)) (family.range r).log;
    told = told;
    tables = tables;
    born = λ r. elim (family.born r) as (λ x. (only r h ≡ []) ⊎ (IsFirstStory h story taken family.rows r ⊎ ((p : ℕ) × HasStoryParent h story taken family.rows p r))) [
      | inl none ↦ inl none
      | inr (inl a) ↦ inr (inl (first r a))
      | inr (inr b) ↦ inr (inr (b.0, parent b.0 r b.1))
    ];
  }

  pub families_replay : Replays h
  families_replay = family_replays h story taken family.rows stories

  past : families_replay.past ≡ (λ r g. From_nothing (load_line (story r) g))
  unfolding families_replay
  past = family_past h story taken family.rows stories

  -- ---- answered Gets

  module _ (before : List Note) (r g : ℕ) (key : Bytes) (value : Option Bytes) (q : IsRead layer_at h family before r g key value) where
    part_is : chain r ≡ q.late ++ (q.early ++ family.taken r)
    part_is = ap (λ z. z ++ family.taken r) q.parts ∙ append_assoc q.late q.early (family.taken r)

    part_tail : IsTail (whole_log layer_at h family r (q.early ++ family.taken r)) (story r)
    part_tail =
        subst (λ z. IsTail (whole_log layer_at h family r (q.early ++ family.taken r)) (whole (Group Transaction) (copies r) z)) (sym (ap log_of part_is ∙ log_append q.late (q.early ++ family.taken r)))
        (whole_tail (copies r) (log_of q.late) (log_of (q.early ++ family.taken r)))

    part_told : observed r (family.rows r) (whole_log layer_at h family r (q.early ++ family.taken r)) ≡ observed r (family.rows r) (taken r) ++ only r before
    part_told =
        sym (seen_whole r (family.rows r) (copies r) (q.early ++ family.taken r) (numbered_tail (copies r) q.late (q.early ++ family.taken r) (subst (AreNumbered (copies r)) part_is (are_numbered r))))
        ∙ q.told
        ∙ ap (λ z. z ++ only r before) (seen_whole r (family.rows r) (copies r) (family.taken r) (numbered_tail (copies r) (family.own r) (family.taken r) (are_numbered r)))

    part_next : AnswersNext (whole_log layer_at h family r (q.early ++ family.taken r))
    part_next =
        next_tail part_tail.0 (whole_log layer_at h family r (q.early ++ family.taken r))
        (subst AnswersNext part_tail.1 (answers_next layer_at (copies r) (chain r) (family.range r).runs (inv r).served))

    story_read : (after : List Note) → h ≡ before ++ after → IsStoryRead h story taken family.rows before r g
    story_read after e = record {
      point = whole_log layer_at h family r (q.early ++ family.taken r);
      tail = part_tail;
      next = part_next;
      told = part_told;
      early = λ o i. subst (In o) (sym e) (in_left o before after i);
      loaded = (q.loaded.0, q.loaded.1, in_contains (Loaded r g q.loaded.0 q.loaded.1) before q.loaded.2);
      highest = λ o i is. q.highest o (contains_in o before i) is;
      alone = q.alone;
    }

    is_served : (after : List Note) → h ≡ before ++ after → IsServed h before (λ r' g'. From_nothing (load_line (story r') g')) r g key value
    unfolding story_read
    is_served after e = read_is_served h story taken family.rows stories before r g (story_read after e) key value q.shows

  -- what is loaded replays, and each answered Get is served
  pub families_serve : AreReads layer_at h family → ReplaysAndServes h
  families_serve reads = record {
    replays = families_replay;
    served = λ before after r g key value e.
        subst (λ z. IsServed h before z r g key value) (sym past) (is_served before r g key value (reads before after r g key value e) (Got r g key value ∷ after) e);
  }
