-- What a load finds: its metadata stands for a line of the log, and replay goes on from where that line ends.
use Rattle.std.proofs.Common.{◌≡◌, ℕ, suc, ◌+◌, ◌<◌, ◌≤◌, List, [], ◌∷◌, ◌++◌, length, map, true, false, cond, refl, sym, ap, ◌∙◌, subst, inl, inr, ◌⊎◌, ⊎_elim, arith, append_assoc, length-append, ltb}
use Rattle.std.proofs.lemmas.List.{append-nil}
use Rattle.std.proofs.lemmas.Bool.Decides.{nat_tests}
use Rattle.memtable.specs.declared.cell.Place.{Place}
use Rattle.commitlog.specs.Replay.{Numbered as Group}
use Rattle.metadata.specs.declared.record.MetaItem.{MetaItem}
use Rattle.metadata.specs.Fold.{MetadataState, taken}
use Rattle.metadata.specs.Keys.{within}
use Rattle.model_histories.specs.Log.{line_shown}
use Rattle.model_partition.specs.Past.{Bytes, Transaction, after_line}
use Rattle.model_histories.specs.Story.{Placed, StreamEvent, Showed, Story, event_at, Copy, placed, from_place, KeepsOrder, EndsRise}
use Rattle.model_histories.specs.StreamMachine.{In}
use Rattle.laws_tables.specs.Ends.{StandsBehind}
use Rattle.laws_tables.specs.Layers.{Layer, empty_layer, over, flat, indexed}
use Rattle.laws_tables.specs.Runs.{Beginning, IsBeginning, start_number, first_next, added, greater, said, replayed_by, loaded_layer, confirmed}
use Rattle.laws_tables.specs.Through.{HadLine, IsLoaded}
use Rattle.laws_tables.specs.WholeStories.{IsServed}
use Rattle.laws_tables.proofs.Books.{all_answered_loaded}
use Rattle.laws_tables.proofs.Cut.{keep_back}
use Rattle.laws_tables.proofs.Holds.{LogStory, MetadataStory, StandsForLine, HasOrigin, IndexesMake, StartRises, HoldsRightly, WasFitRecord, with_record}
use Rattle.laws_tables.proofs.Layers.{line_at, after_line-append, layer_line_is, fold_last}
use Rattle.laws_tables.proofs.Lines.{line_from_shown, ComesFrom}
use Rattle.laws_tables.proofs.Members.{contains_in}
use Rattle.laws_tables.proofs.Points.{IsAt, at_later, reached_later, reload, is_reached, at_below_end, fronts, replay_added}
use Rattle.laws_tables.proofs.Range.{IsMadeAt, IsShownAt, kept_by_servers, newest, showed_made}
use Rattle.laws_tables.proofs.Replay.{numbers, found, generation_in, group_in, rules, line_is, copy_of}
use Rattle.laws_tables.proofs.Through.{had_line_later, had_line_front}
use Rattle.laws_tables.proofs.Whole.{from_first}

module _ (A : Type 0) (story : Story (Group A)) (served : IsServed story) (order : KeepsOrder story) where
  abbrev gen : ℕ → ℕ
  gen a = generation_in A (event_at story a)

  abbrev group : ℕ → Group A
  group a = group_in A (event_at story a)

  -- where an item of a load's line comes from
  pub record ItemFrom (m h : ℕ) (us : List A) (t : A) : Type 0 where
    pub append : ℕ
    pub earlier : append < m
    pub generation : ℕ
    pub of : Group A
    pub made : IsMadeAt A story append generation of
    pub below : generation < h
    pub front : List A
    pub back : List A
    pub items : of.items ≡ front ++ t ∷ back
    pub number : of.first + length front ≡ suc (length us)

  -- each was made below
  pub item_from : (m h s e : ℕ) (ys : List (Placed (Group A))) → IsShownAt A story m h s e ys → (us vs : List A) (t : A) → line_shown ys ≡ us ++ t ∷ vs → ItemFrom m h us t
  item_from m h s e ys hm us vs t eq =
      let c : ComesFrom A group (numbers (Group A) (order.copies m)) us t =
      line_from_shown A group gen (λ a. (g : ℕ) × (grp : Group A) × IsMadeAt A story a g grp) (λ a. found A story (gen a))
      (λ l. (g : ℕ) × (s : ℕ) × (e : ℕ) × (xs : List (Placed (Group A))) × IsShownAt A story l g s e xs) gen (λ m. numbers (Group A) (order.copies m)) (rules A story served order)
      m (h, s, e, ys, hm) us vs t (line_is A story served order m h s e ys hm ∙ eq) in
      let k : (d : Copy (Group A)) × In d (order.copies m) × (d.append ≡ c.append) × (g : ℕ) × IsMadeAt A story c.append g d.group × (g < gen m) × (c.append < m) =
      copy_of A story served order m c.append (h, s, e, ys, hm) c.is_one in
      let gm : gen m ≡ h = ap (generation_in A) hm in
      let lt : k.3 < gen m = k.5 in
      let is : group c.append ≡ (k.0).group = ap (group_in A) k.4 in
      record {
        append = c.append;
        earlier = k.6;
        generation = k.3;
        of = (k.0).group;
        made = k.4;
        below = omega arith;
        front = c.front;
        back = c.back;
        items = ap (λ z. z.items) (sym is) ∙ c.items;
        number = ap (λ z. z.first + length c.front) (sym is) ∙ c.number;
      }

pub one_item : {A : Type 0} (front back : List A) (x t : A) → x ∷ [] ≡ front ++ t ∷ back → (front ≡ []) × (t ≡ x)
one_item [] back x t e = let h : x ≡ t = cc in (refl, sym h)
one_item (y ∷ []) back x t e = absurd (cc)
one_item (y ∷ z ∷ front) back x t e = absurd (cc)

last_of : {A : Type 0} (xs : List A) → (xs ≡ []) ⊎ ((us : List A) × (x : A) × (xs ≡ us ++ x ∷ []))
last_of [] = inl refl
last_of {A} (x ∷ xs) =
    ⊎_elim {C = (x ∷ xs ≡ []) ⊎ ((us : List A) × (y : A) × (x ∷ xs ≡ us ++ y ∷ []))}
    (λ (e : xs ≡ []). inr ([], x, ap (λ z. x ∷ z) e))
    (λ (s : (us : List A) × (y : A) × (xs ≡ us ++ y ∷ [])). inr (x ∷ s.0, s.1, ap (λ z. x ∷ z) s.2))
    (last_of xs)

pub greater_left : (m n : ℕ) → n ≤ m → greater m n ≡ m
greater_left m n h = let t : ltb m n ≡ false = grind (arith, nat_tests) in ap (λ b. cond b n m) t

-- one load, which shows the whole log and all of the metadata
module _ (layer_at : Place → Layer) (b : Beginning) (begins : IsBeginning layer_at b)
    (log : LogStory) (metadata : MetadataStory) (g end metadata_end : ℕ) (xs : List (Placed (Group Transaction))) (records : List (Placed (Group MetaItem)))
    (served : IsServed (Showed g 0 end xs ∷ log)) (order : KeepsOrder (Showed g 0 end xs ∷ log)) (ends : EndsRise (Showed g 0 end xs ∷ log))
    (behind : StandsBehind b.place (Showed g 0 end xs ∷ log) order)
    (metadata_served : IsServed (Showed g 0 metadata_end records ∷ metadata)) (metadata_order : KeepsOrder (Showed g 0 metadata_end records ∷ metadata))
    (fit : (a h : ℕ) (group : Group MetaItem) → IsMadeAt MetaItem metadata a h group → WasFitRecord layer_at b log metadata h group) where
  abbrev new_log : LogStory
  new_log = Showed g 0 end xs ∷ log

  abbrev new_metadata : MetadataStory
  new_metadata = Showed g 0 metadata_end records ∷ metadata

  abbrev load : StreamEvent (Group Transaction)
  load = Showed g 0 end xs

  abbrev metadata_load : StreamEvent (Group MetaItem)
  metadata_load = Showed g 0 metadata_end records

  abbrev items : List MetaItem
  items = line_shown records

  -- where the log is then replayed from, and what stands there
  abbrev start : ℕ
  start = start_number (said b items).regions

  abbrev copies : List (Copy (Group Transaction))
  copies = order.copies (length log)

  here : IsShownAt Transaction new_log (length log) g 0 end xs
  here = newest (Group Transaction) load log

  metadata_here : IsShownAt MetaItem new_metadata (length metadata) g 0 metadata_end records
  metadata_here = newest (Group MetaItem) metadata_load metadata

  -- an item of the metadata line, and the record that it came with
  pub record FoundItem (us : List MetaItem) (item : MetaItem) : Type 0 where
    pub generation : ℕ
    pub below : generation < g
    pub group : Group MetaItem
    pub was : WasFitRecord layer_at b log metadata generation group
    pub before_is : was.before ≡ us
    pub item_is : item ≡ was.item

  found_at : (us vs : List MetaItem) (item : MetaItem) → items ≡ us ++ item ∷ vs → FoundItem us item
  found_at us vs item e =
      let f : ItemFrom MetaItem new_metadata metadata_served metadata_order (length metadata) g us item = item_from MetaItem new_metadata metadata_served metadata_order (length metadata) g 0 metadata_end records metadata_here us vs item e in
      let old : IsMadeAt MetaItem metadata f.append f.generation f.of = showed_made MetaItem g 0 metadata_end records metadata f.append f.generation f.of f.made in
      let w : WasFitRecord layer_at b log metadata f.generation f.of = fit f.append f.generation f.of old in
      let one : (f.front ≡ []) × (item ≡ w.item) = one_item f.front f.back w.item item (sym w.is ∙ f.items) in
      let none : length f.front ≡ 0 = ap length one.0 in
      let n1 : (f.of).first + length f.front ≡ suc (length us) = f.number in
      let n2 : (f.of).first ≡ suc (length w.before) = w.number in
      let len : length w.before ≡ length us = omega arith in
      let front : (more : List MetaItem) × (w.before ++ more ≡ items) =
      had_line_front MetaItem new_metadata metadata_served metadata_order f.generation w.before (had_line_later MetaItem metadata_load metadata f.generation w.before w.had_before)
      (length metadata) g 0 metadata_end records metadata_here f.below in
      record { generation = f.generation; below = f.below; group = f.of; was = w; before_is = fronts MetaItem w.before front.0 us (item ∷ vs) (front.1 ∙ e) len; item_is = one.1 }

  -- what is said after an item more
  said_next : (us : List MetaItem) (item : MetaItem) (f : FoundItem us item) → said b (us ++ item ∷ []) ≡ with_record b (f.was).before (f.was).item
  said_next us item f = fold_last us item b.metadata ∙ ap (λ z. taken (said b us) z) f.item_is ∙ ap (λ z. taken (said b z) (f.was).item) (sym f.before_is)

  -- a later load sees positions of one incarnation rise
  rises_seen : (h low high : ℕ) → h < g → StartRises layer_at b log h low high → low ≤ high
  rises_seen h low high lt (inl z) = omega arith
  rises_seen h low high lt (inr o) =
      is_reached Transaction new_log served order h low high o.0 o.1 (reached_later Transaction load log h low high o.1 o.3) (at_later Transaction load log h high o.0 o.1 o.2) (length log) g 0 end xs here lt

  -- so do the places from which the metadata lets the log be replayed
  pub start_rises : (more us : List MetaItem) → items ≡ us ++ more → start_number (said b us).regions ≤ start
  start_rises [] us e =
      let q : items ≡ us = e ∙ append-nil us in
      subst (λ z. start_number (said b us).regions ≤ start_number (said b z).regions) (sym q) (omega arith)
  start_rises (item ∷ more) us e =
      let f : FoundItem us item = found_at us more item e in
      let next : start_number (said b (us ++ item ∷ [])).regions ≡ start_number (with_record b (f.was).before (f.was).item).regions = ap (λ z. start_number z.regions) (said_next us item f) in
      let low : start_number (said b (f.was).before).regions ≤ start_number (with_record b (f.was).before (f.was).item).regions =
      rises_seen f.generation (start_number (said b (f.was).before).regions) (start_number (with_record b (f.was).before (f.was).item).regions) f.below (f.was).rises in
      let before : start_number (said b (f.was).before).regions ≡ start_number (said b us).regions = ap (λ z. start_number (said b z).regions) f.before_is in
      let r : start_number (said b (us ++ item ∷ [])).regions ≤ start = start_rises more (us ++ item ∷ []) (e ∙ sym (append_assoc us (item ∷ []) more)) in
      omega arith

  -- the line that the metadata stands for, and what the log shows beyond it
  pub record FoundLine : Type 0 where
    pub line : List Transaction
    pub next_is : first_next (said b items).regions ≡ suc (length line)
    pub table : IndexesMake layer_at b (said b items) line
    pub stands_for : StandsForLine layer_at b new_log g (said b items)
    pub below : start ≤ end
    pub rest : line_shown xs ≡ line ++ added (suc (length line)) (map (λ q. q.group) (map placed (from_place start copies)))

  -- all stands behind the first place
  from_first_place : from_place b.place copies ≡ copies
  from_first_place = keep_back (Group Transaction) copies b.place (λ c i. behind.copies (length log) c (contains_in c copies i))

  -- where the chain begins it stands for the empty line
  found_nothing : start ≡ b.place → first_next (said b items).regions ≡ 1 → IndexesMake layer_at b (said b items) [] → FoundLine
  found_nothing is_place next table =
      let shown : xs ≡ map placed (from_place 0 copies) = order.shown (length log) g 0 end xs here in
      let all : from_place 0 copies ≡ from_place start copies = from_first (Group Transaction) copies ∙ sym from_first_place ∙ ap (λ z. from_place z copies) (sym is_place) in
      let low : b.place ≤ end = behind.ends (length log) g 0 end xs here in
      let at : start ≡ b.place = is_place in
      record {
        line = [];
        next_is = next;
        table = table;
        stands_for = record { line = []; next_is = next; table = table; origin = inl (is_place, refl) };
        below = omega arith;
        rest = ap line_shown (shown ∙ ap (map placed) all) ∙ replay_added Transaction (map (λ q. q.group) (map placed (from_place start copies))) [];
      }

  found_before : (m : MetadataState) (h : ℕ) → said b items ≡ m → h < g → StandsForLine layer_at b log h m → FoundLine
  found_before m h is up s =
      let old : StandsForLine layer_at b log h (said b items) = subst (StandsForLine layer_at b log h) (sym is) s in
      from old.line old.next_is old.table old.origin
    where
      from : (line : List Transaction) → first_next (said b items).regions ≡ suc (length line) → IndexesMake layer_at b (said b items) line → HasOrigin layer_at b log h start line → FoundLine
      from line next table (inl z) = found_nothing z.0 (next ∙ ap (λ y. suc (length y)) z.1) (λ key w. table key w ∙ ap (λ y. after_line y b.table key) z.1)
      from line next table (inr o) =
          let at : IsAt Transaction new_log o.0 start line o.2 = at_later Transaction load log o.0 start line o.2 o.3 in
          let had : HadLine new_log o.0 line = had_line_later Transaction load log o.0 line o.4 in
          let le : o.0 ≤ h = o.1 in
          let lt : o.0 < g = omega arith in
          record {
            line = line;
            next_is = next;
            table = table;
            stands_for = record { line = line; next_is = next; table = table; origin = inr (o.0, omega arith, o.2, at, had) };
            below = at_below_end Transaction new_log served order ends o.0 start line o.2 at (length log) g 0 end xs here lt;
            rest = reload Transaction new_log served order o.0 start line o.2 at had (length log) g 0 end xs here lt;
          }

  pub found_line : FoundLine
  found_line =
      ⊎_elim {C = FoundLine}
      (λ (none : items ≡ []).
      let is : said b items ≡ b.metadata = ap (said b) none in
      found_nothing (ap (λ z. start_number z.regions) is ∙ begins.place) (ap (λ z. first_next z.regions) is ∙ begins.next)
      (λ key w. ap (λ z. flat (indexed layer_at z.indexes key)) is ∙ begins.table key (ap (λ z. within z.keys key) (sym is) ∙ w)))
      (λ (last : (us : List MetaItem) × (item : MetaItem) × (items ≡ us ++ item ∷ [])).
      let f : FoundItem last.0 last.1 = found_at last.0 [] last.1 last.2 in
      found_before (with_record b (f.was).before (f.was).item) f.generation (ap (said b) last.2 ∙ said_next last.0 last.1 f) f.below (f.was).stands_for)
      (last_of items)

  -- the base that a load sees lies no further than its metadata says
  abbrev pub MayBe : ℕ → Type 0
  MayBe base = (base ≤ b.place) ⊎ ((h : ℕ) × (h < g) × (before : List MetaItem) × HadLine metadata h before × (base ≤ start_number (said b before).regions))

  pub base_low : (base : ℕ) → MayBe base → greater start base ≡ start
  base_low base (inl z) =
      let up : start_number b.metadata.regions ≤ start = start_rises items [] refl in
      let at : start_number b.metadata.regions ≡ b.place = begins.place in
      greater_left start base (omega arith)
  base_low base (inr t) =
      let front : (more : List MetaItem) × (t.2 ++ more ≡ items) =
      had_line_front MetaItem new_metadata metadata_served metadata_order t.0 t.2 (had_line_later MetaItem metadata_load metadata t.0 t.2 t.3) (length metadata) g 0 metadata_end records metadata_here t.1 in
      let up : start_number (said b t.2).regions ≤ start = start_rises front.0 t.2 (sym front.1) in
      let low : base ≤ start_number (said b t.2).regions = t.4 in
      greater_left start base (omega arith)

  -- ---- what is replayed

  module _ (groups : List (Placed (Group Transaction))) (groups_are : groups ≡ map placed (from_place start copies)) where
    whole_line : line_shown xs ≡ (found_line).line ++ replayed_by b groups records
    whole_line =
        let f : FoundLine = found_line in
        let is : replayed_by b groups records ≡ added (suc (length f.line)) (map (λ q. q.group) (map placed (from_place start copies))) =
        ap (λ z. added z (map (λ q. q.group) groups)) f.next_is ∙ ap (λ z. added (suc (length f.line)) (map (λ q. q.group) z)) groups_are in
        f.rest ∙ ap (λ z. f.line ++ z) (sym is)

    -- over the indexes it makes the table of the whole line
    pub loaded_table : (key : Bytes) → within (said b items).keys key ≡ true → flat (loaded_layer b layer_at groups records key) ≡ after_line (line_shown xs) b.table key
    loaded_table key w =
        let f : FoundLine = found_line in
        let old : Layer = indexed layer_at (said b items).indexes in
        let r : List Transaction = replayed_by b groups records in
        layer_line_is r empty_layer old key
        ∙ line_at r (λ x. flat (over empty_layer old x)) (after_line f.line b.table) key (f.table key w)
        ∙ sym (after_line-append f.line r b.table key)
        ∙ ap (λ z. after_line z b.table key) (sym whole_line)

    -- the next number is the one after the whole line
    pub loaded_next : first_next (said b items).regions + length (replayed_by b groups records) ≡ suc (length (line_shown xs))
    loaded_next =
        let f : FoundLine = found_line in
        let next : first_next (said b items).regions ≡ suc (length f.line) = f.next_is in
        let len : length (line_shown xs) ≡ length f.line + length (replayed_by b groups records) = ap length whole_line ∙ length-append f.line (replayed_by b groups records) in
        omega arith

    -- what the server then holds is right
    pub holds_confirmed : (from : ℕ) → from ≡ start → (IsLoaded log g → ⊥) → (IsLoaded metadata g → ⊥) → HoldsRightly layer_at b new_log new_metadata g (confirmed b from end groups records)
    holds_confirmed from from_is fresh metadata_fresh =
        let f : FoundLine = found_line in
        let low : start ≤ end = f.below in
        let at_start : from ≡ start = from_is in
        let position : greater end from ≡ end = greater_left end from (omega arith) in
        let at_end : IsAt Transaction new_log g end (line_shown xs) 0 = inl (length log, 0, xs, here, refl, refl) in
        record {
          line = line_shown xs;
          rank = 0;
          has_line = all_answered_loaded Transaction log g 0 end xs (kept_by_servers Transaction log served.1) fresh;
          number = loaded_next;
          at = subst (λ z. IsAt Transaction new_log g z (line_shown xs) 0) (sym position) at_end;
          low = tt;
          table = loaded_table;
          base = inl (let q : start ≤ greater end from = omega arith in q);
          stands_for = f.stands_for;
          has_records = all_answered_loaded MetaItem metadata g 0 metadata_end records (kept_by_servers MetaItem metadata metadata_served.1) metadata_fresh;
          noted = λ n q. absurd (cc);
          idle = λ q key. refl;
          fit = λ o q. absurd (cc);
        }
