-- What the incarnations of a chain hold is right: their layers make the table of their line, and each record that they send stands for a
-- line at a position of theirs. Kept event by event.
use Rattle.std.proofs.Common.{◌≡◌, ℕ, suc, ◌+◌, ◌<◌, ◌≤◌, List, [], ◌∷◌, ◌++◌, length, Bool, true, false, Option, Some, None, refl, sym, ap, ◌∙◌, subst, inl, inr, ◌⊎◌, ⊎_elim, arith, length-append}
use Rattle.streams.specs.declared.table.Position.{Position}
use Rattle.memtable.specs.declared.cell.Place.{Place}
use Rattle.commitlog.specs.Replay.{Numbered as Group}
use Rattle.metadata.specs.declared.record.MetaItem.{MetaItem}
use Rattle.metadata.specs.declared.record.MetaItem.TheVariants.{Checkpoint}
use Rattle.metadata.specs.Fold.{MetadataState, taken}
use Rattle.metadata.specs.Keys.{within}
use Rattle.model_partition.specs.Lines.{next_after}
use Rattle.model_partition.specs.Past.{Bytes, Transaction, after_line}
use Rattle.model_histories.specs.ServerRun.{place_number}
use Rattle.model_histories.specs.Story.{StreamEvent, Made, Answered, Story}
use Rattle.laws_tables.specs.Layers.{Layer, over, flat, limited, indexed, layer_line}
use Rattle.laws_tables.specs.Runs.{Beginning, start_number, first_next, NotedPosition, Serving, items_out, noted_next, formed, logged, noting, recording, recorded, said, IsNarrower, Covers, MayCheckpoint, MaySplit}
use Rattle.laws_tables.specs.Through.{HadLine, HasAllAnswered, HasOneOut, OutAppend, HasLine}
use Rattle.laws_tables.proofs.Books.{IsOfOthers, has_line_later, one_out_made, one_out_is_made, all_answered_then, had_line_of, had_line_answered}
use Rattle.laws_tables.proofs.Layers.{line_at, after_line-append, pick, pick_same, layer_line_is, fold_last, limited_in, pick_none}
use Rattle.laws_tables.proofs.Points.{IsAt, IsReached, at_later, reached_later, reached_next, rank_low}
use Rattle.laws_tables.proofs.Range.{older, newest, answered_made}
use Rattle.laws_tables.proofs.Through.{had_line_later}

abbrev pub LogStory : Type 0
LogStory = Story (Group Transaction)

abbrev pub MetadataStory : Type 0
MetadataStory = Story (Group MetaItem)

abbrev pub IsLowRank : Option (OutAppend Transaction) → ℕ → Type 0
IsLowRank None rank = Unit {0}
IsLowRank (Some out) rank = rank ≤ out.append

abbrev pub NumberIs : Option (OutAppend Transaction) → ℕ → List Transaction → Type 0
NumberIs None next line = next ≡ suc (length line)
NumberIs (Some out) next line = (out.group.first ≡ suc (length line)) × (next ≡ next_after out.group)

-- what is said after one record more
abbrev pub with_record : Beginning → List MetaItem → MetaItem → MetadataState
with_record b records item = taken (said b records) item

module _ (layer_at : Place → Layer) (b : Beginning) where
  -- the indexes of the metadata make the table of a line, within its keys
  abbrev pub IndexesMake : MetadataState → List Transaction → Type 0
  IndexesMake m line = (key : Bytes) → within m.keys key ≡ true → flat (indexed layer_at m.indexes key) ≡ after_line line b.table key

  -- the checkpoint that is under way
  pub record IsNotedRightly (log : LogStory) (g : ℕ) (fixed : Layer) (records : List MetaItem) (position rank : ℕ) (noted : NotedPosition) : Type 0 where
    pub line : List Transaction
    pub own_rank : ℕ
    pub at : IsAt Transaction log g noted.place line own_rank
    pub had_line : HadLine log g line
    pub number : noted.next ≡ suc (length line)
    pub table : (key : Bytes) → within (said b records).keys key ≡ true → flat (over fixed (indexed layer_at (said b records).indexes) key) ≡ after_line line b.table key
    pub near : IsReached Transaction log g noted.place position rank
    pub base : IsReached Transaction log g (start_number (said b records).regions) noted.place own_rank

  -- where a line began: nowhere, or at a position of this generation or one below
  abbrev pub HasOrigin : LogStory → ℕ → ℕ → List Transaction → Type 0
  HasOrigin log g start line =
      ((start ≡ b.place) × (line ≡ []))
      ⊎ ((g' : ℕ) × (g' ≤ g) × (rank : ℕ) × IsAt Transaction log g' start line rank × HadLine log g' line)

  -- what metadata says stands for a line: its indexes make the line's table, and the log is replayed from where the line ends
  pub record StandsForLine (log : LogStory) (g : ℕ) (m : MetadataState) : Type 0 where
    pub line : List Transaction
    pub next_is : first_next m.regions ≡ suc (length line)
    pub table : IndexesMake m line
    pub origin : HasOrigin log g (start_number m.regions) line

  -- a checkpoint's record
  pub record IsCheckpoint (noted : Option NotedPosition) (fixed : Layer) (m : MetadataState) (item : MetaItem) : Type 0 where
    pub note : NotedPosition
    pub is_noted : noted ≡ Some note
    pub combine : Bool
    pub index : Place
    pub position : Position
    pub is : item ≡ Checkpoint combine index position note.next
    pub place : place_number position ≡ note.place
    pub table : (key : Bytes) → within m.keys key ≡ true → flat (indexed layer_at (taken m item).indexes key) ≡ flat (over fixed (indexed layer_at m.indexes) key)

  -- a record of a split
  pub record IsOfSplit (noted : Option NotedPosition) (m : MetadataState) (item : MetaItem) : Type 0 where
    pub none : noted ≡ None
    pub regions_are : (taken m item).regions ≡ m.regions
    pub indexes_are : (taken m item).indexes ≡ m.indexes
    pub narrower : IsNarrower (taken m item).keys m.keys

  -- the record that is out
  pub record IsFitRecord (noted : Option NotedPosition) (fixed : Layer) (records : List MetaItem) (group : Group MetaItem) : Type 0 where
    pub item : MetaItem
    pub is : group.items ≡ item ∷ []
    pub kind : IsCheckpoint noted fixed (said b records) item ⊎ IsOfSplit noted (said b records) item

  pub record HoldsRightly (log : LogStory) (metadata : MetadataStory) (g : ℕ) (s : Serving) : Type 0 where
    pub line : List Transaction
    pub rank : ℕ
    pub has_line : HasLine log g line s.out
    pub number : NumberIs s.out s.next line
    pub at : IsAt Transaction log g s.position line rank
    pub low : IsLowRank s.out rank
    pub table : (key : Bytes) → within (said b s.records).keys key ≡ true → flat (over s.live (over s.fixed (indexed layer_at (said b s.records).indexes)) key) ≡ after_line line b.table key
    pub base : IsReached Transaction log g (start_number (said b s.records).regions) s.position rank
    pub stands_for : StandsForLine log g (said b s.records)
    pub has_records : HasLine metadata g s.records s.record_out
    pub noted : (n : NotedPosition) → s.noted ≡ Some n → IsNotedRightly log g s.fixed s.records s.position rank n
    pub idle : s.noted ≡ None → (key : Bytes) → s.fixed key ≡ None
    pub fit : (out : OutAppend MetaItem) → s.record_out ≡ Some out → IsFitRecord s.noted s.fixed s.records out.group

  -- the place from which on the log is replayed stays, or rises to a position
  abbrev pub StartRises : LogStory → ℕ → ℕ → ℕ → Type 0
  StartRises log g start start' =
      (start' ≡ start) ⊎ ((line : List Transaction) × (rank : ℕ) × IsAt Transaction log g start' line rank × IsReached Transaction log g start start' rank)

  -- a record that was made
  pub record WasFitRecord (log : LogStory) (metadata : MetadataStory) (g : ℕ) (group : Group MetaItem) : Type 0 where
    pub before : List MetaItem
    pub item : MetaItem
    pub is : group.items ≡ item ∷ []
    pub number : group.first ≡ suc (length before)
    pub had_before : HadLine metadata g before
    pub stands_for : StandsForLine log g (with_record b before item)
    pub rises : StartRises log g (start_number (said b before).regions) (start_number (with_record b before item).regions)

  -- ---- events of others

  origin_later : (e : StreamEvent (Group Transaction)) (log : LogStory) (g start : ℕ) (line : List Transaction) → HasOrigin log g start line → HasOrigin (e ∷ log) g start line
  origin_later e log g start line (inl z) = inl z
  origin_later e log g start line (inr o) = inr (o.0, o.1, o.2, at_later Transaction e log o.0 start line o.2 o.3, had_line_later Transaction e log o.0 line o.4)

  stands_for_later : (e : StreamEvent (Group Transaction)) (log : LogStory) (g : ℕ) (m : MetadataState) → StandsForLine log g m → StandsForLine (e ∷ log) g m
  stands_for_later e log g m s = record { line = s.line; next_is = s.next_is; table = s.table; origin = origin_later e log g (start_number m.regions) s.line s.origin }

  noted_later : (e : StreamEvent (Group Transaction)) (log : LogStory) (g : ℕ) (fixed : Layer) (records : List MetaItem) (position rank : ℕ) (noted : NotedPosition) →
      IsNotedRightly log g fixed records position rank noted → IsNotedRightly (e ∷ log) g fixed records position rank noted
  noted_later e log g fixed records position rank noted n = record {
    line = n.line;
    own_rank = n.own_rank;
    at = at_later Transaction e log g noted.place n.line n.own_rank n.at;
    had_line = had_line_later Transaction e log g n.line n.had_line;
    number = n.number;
    table = n.table;
    near = reached_later Transaction e log g noted.place position rank n.near;
    base = reached_later Transaction e log g (start_number (said b records).regions) noted.place n.own_rank n.base;
  }

  pub holds_log_later : (e : StreamEvent (Group Transaction)) (log : LogStory) (metadata : MetadataStory) (g : ℕ) (s : Serving) → IsOfOthers Transaction g e →
      HoldsRightly log metadata g s → HoldsRightly (e ∷ log) metadata g s
  holds_log_later e log metadata g s f h = record {
    line = h.line;
    rank = h.rank;
    has_line = has_line_later Transaction e log g h.line s.out f h.has_line;
    number = h.number;
    at = at_later Transaction e log g s.position h.line h.rank h.at;
    low = h.low;
    table = h.table;
    base = reached_later Transaction e log g (start_number (said b s.records).regions) s.position h.rank h.base;
    stands_for = stands_for_later e log g (said b s.records) h.stands_for;
    has_records = h.has_records;
    noted = λ n is. noted_later e log g s.fixed s.records s.position h.rank n (h.noted n is);
    idle = h.idle;
    fit = h.fit;
  }

  pub holds_metadata_later : (e : StreamEvent (Group MetaItem)) (log : LogStory) (metadata : MetadataStory) (g : ℕ) (s : Serving) → IsOfOthers MetaItem g e →
      HoldsRightly log metadata g s → HoldsRightly log (e ∷ metadata) g s
  holds_metadata_later e log metadata g s f h = record {
    line = h.line;
    rank = h.rank;
    has_line = h.has_line;
    number = h.number;
    at = h.at;
    low = h.low;
    table = h.table;
    base = h.base;
    stands_for = h.stands_for;
    has_records = has_line_later MetaItem e metadata g s.records s.record_out f h.has_records;
    noted = h.noted;
    idle = h.idle;
    fit = h.fit;
  }

  rises_later : (e : StreamEvent (Group Transaction)) (log : LogStory) (g start start' : ℕ) → StartRises log g start start' → StartRises (e ∷ log) g start start'
  rises_later e log g start start' (inl z) = inl z
  rises_later e log g start start' (inr o) = inr (o.0, o.1, at_later Transaction e log g start' o.0 o.1 o.2, reached_later Transaction e log g start start' o.1 o.3)

  pub record_log_later : (e : StreamEvent (Group Transaction)) (log : LogStory) (metadata : MetadataStory) (g : ℕ) (group : Group MetaItem) →
      WasFitRecord log metadata g group → WasFitRecord (e ∷ log) metadata g group
  record_log_later e log metadata g group w = record {
    before = w.before;
    item = w.item;
    is = w.is;
    number = w.number;
    had_before = w.had_before;
    stands_for = stands_for_later e log g (with_record b w.before w.item) w.stands_for;
    rises = rises_later e log g (start_number (said b w.before).regions) (start_number (with_record b w.before w.item).regions) w.rises;
  }

  pub record_metadata_later : (e : StreamEvent (Group MetaItem)) (log : LogStory) (metadata : MetadataStory) (g : ℕ) (group : Group MetaItem) →
      WasFitRecord log metadata g group → WasFitRecord log (e ∷ metadata) g group
  record_metadata_later e log metadata g group w = record {
    before = w.before;
    item = w.item;
    is = w.is;
    number = w.number;
    had_before = had_line_later MetaItem e metadata g w.before w.had_before;
    stands_for = w.stands_for;
    rises = w.rises;
  }

  -- ---- the log

  -- a group is formed
  pub holds_formed : (log : LogStory) (metadata : MetadataStory) (g : ℕ) (s : Serving) (n : ℕ) (group : Group Transaction) → n ≡ length log →
      HoldsRightly log metadata g s → s.out ≡ None → group.first ≡ s.next → HoldsRightly (Made g group ∷ log) metadata g (formed n group s)
  holds_formed log metadata g s n group is_n h none first =
      let e : StreamEvent (Group Transaction) = Made g group in
      let answered : HasAllAnswered log g h.line = subst (λ z. HasLine log g h.line z) none h.has_line in
      let number : s.next ≡ suc (length h.line) = subst (λ z. NumberIs z s.next h.line) none h.number in
      let r : h.rank ≤ length log = rank_low Transaction log g s.position h.line h.rank h.at in
      let out : HasOneOut (Made g group ∷ log) g h.line n group = subst (λ z. HasOneOut (Made g group ∷ log) g h.line z group) (sym is_n) (one_out_made Transaction log g h.line group answered) in
      record {
        line = h.line;
        rank = h.rank;
        has_line = out;
        number = (first ∙ number, refl);
        at = at_later Transaction e log g s.position h.line h.rank h.at;
        low = (let q : n ≡ length log = is_n in omega arith);
        table = h.table;
        base = reached_later Transaction e log g (start_number (said b s.records).regions) s.position h.rank h.base;
        stands_for = stands_for_later e log g (said b s.records) h.stands_for;
        has_records = h.has_records;
        noted = λ m is. noted_later e log g s.fixed s.records s.position h.rank m (h.noted m is);
        idle = h.idle;
        fit = h.fit;
      }

  -- and answered
  pub holds_logged : (log : LogStory) (metadata : MetadataStory) (g : ℕ) (s : Serving) (a from to : ℕ) (group : Group Transaction) →
      HoldsRightly log metadata g s → s.out ≡ Some (record { append = a; group = group }) → HoldsRightly (Answered a from to ∷ log) metadata g (logged to s)
  holds_logged log metadata g s a from to group h is_out =
      let e : StreamEvent (Group Transaction) = Answered a from to in
      let out : HasOneOut log g h.line a group = subst (λ z. HasLine log g h.line z) is_out h.has_line in
      let number : (group.first ≡ suc (length h.line)) × (s.next ≡ next_after group) = subst (λ z. NumberIs z s.next h.line) is_out h.number in
      let low : h.rank ≤ a = subst (λ z. IsLowRank z h.rank) is_out h.low in
      let lt : h.rank < suc a = omega arith in
      let n0 : group.first ≡ suc (length h.line) = number.0 in
      let n1 : s.next ≡ next_after group = number.1 in
      let len : length (h.line ++ group.items) ≡ length h.line + length group.items = length-append h.line group.items in
      let items : items_out s.out ≡ group.items = ap items_out is_out in
      let below : Layer = over s.fixed (indexed layer_at (said b s.records).indexes) in
      let start : ℕ = start_number (said b s.records).regions in
      let at : IsAt Transaction (Answered a from to ∷ log) g to (h.line ++ group.items) (suc a) =
      inr (
        a,
        length log,
        from,
        group,
        older (Group Transaction) e log a (Made g group) (one_out_is_made Transaction log g h.line a group out),
        newest (Group Transaction) e log,
        (λ f later m less. let k : f ≤ a = out.last f later (answered_made Transaction a from to log f g later m) in absurd (omega arith)),
        (let end : suc (length (h.line ++ group.items)) ≡ next_after group = omega arith in end),
        refl,
      ) in
      record {
        line = h.line ++ group.items;
        rank = suc a;
        has_line = all_answered_then Transaction log g h.line a from to group out;
        number = omega arith;
        at = at;
        low = tt;
        table = λ key w.
            ap (λ z. flat (over (layer_line z s.live) below key)) items
            ∙ layer_line_is group.items s.live below key
            ∙ line_at group.items (λ x. flat (over s.live below x)) (after_line h.line b.table) key (h.table key w)
            ∙ sym (after_line-append h.line group.items b.table key);
        base = reached_later Transaction e log g start to (suc a) (reached_next Transaction log g start s.position h.rank to (suc a) h.line h.base h.at lt);
        stands_for = stands_for_later e log g (said b s.records) h.stands_for;
        has_records = h.has_records;
        noted = λ m is.
            let n : IsNotedRightly log g s.fixed s.records s.position h.rank m = h.noted m is in
            let moved : IsNotedRightly log g s.fixed s.records to (suc a) m = record {
              line = n.line;
              own_rank = n.own_rank;
              at = n.at;
              had_line = n.had_line;
              number = n.number;
              table = n.table;
              near = reached_next Transaction log g m.place s.position h.rank to (suc a) h.line n.near h.at lt;
              base = n.base;
            } in
            noted_later e log g s.fixed s.records to (suc a) m moved;
        idle = h.idle;
        fit = h.fit;
      }

  -- ---- checkpoints

  noted_number : (out : Option (OutAppend Transaction)) (next : ℕ) (line : List Transaction) → NumberIs out next line → noted_next out next ≡ suc (length line)
  noted_number None next line h = h
  noted_number (Some out) next line h = h.0

  -- a checkpoint begins
  pub holds_noting : (log : LogStory) (metadata : MetadataStory) (g : ℕ) (s : Serving) → HoldsRightly log metadata g s → s.noted ≡ None → s.record_out ≡ None → HoldsRightly log metadata g (noting s)
  holds_noting log metadata g s h none no_record =
      let old : Layer = indexed layer_at (said b s.records).indexes in
      let note : NotedPosition = record { place = s.position; next = noted_next s.out s.next } in
      let table : (key : Bytes) → within (said b s.records).keys key ≡ true → flat (over s.live old key) ≡ after_line h.line b.table key = λ (key : Bytes) w.
      ap (λ z. flat (pick (s.live key) (pick z (old key)))) (sym (h.idle none key)) ∙ h.table key w in
      record {
        line = h.line;
        rank = h.rank;
        has_line = h.has_line;
        number = h.number;
        at = h.at;
        low = h.low;
        table = table;
        base = h.base;
        stands_for = h.stands_for;
        has_records = h.has_records;
        noted = λ m q.
            let is : note ≡ m = cc in
            let here : IsNotedRightly log g s.live s.records s.position h.rank note = record {
              line = h.line;
              own_rank = h.rank;
              at = h.at;
              had_line = had_line_of Transaction log g h.line s.out h.has_line;
              number = noted_number s.out s.next h.line h.number;
              table = table;
              near = inl (omega arith);
              base = h.base;
            } in
            subst (IsNotedRightly log g s.live s.records s.position h.rank) is here;
        idle = λ q. absurd (cc);
        fit = λ out q. let clash : None ≡ Some out = sym no_record ∙ q in absurd (cc);
      }

  covered : (s : Serving) (combine : Bool) (index : Place) (position : Position) (next : ℕ) → Covers layer_at b s combine (layer_at index) → (key : Bytes) → within (said b s.records).keys key ≡ true →
      flat (indexed layer_at (with_record b s.records (Checkpoint combine index position next)).indexes key) ≡ flat (over s.fixed (indexed layer_at (said b s.records).indexes) key)
  covered s false index position next covers key w =
      ap (λ z. flat (pick z (indexed layer_at (said b s.records).indexes key))) (limited_in (said b s.records).keys (layer_at index) key w ∙ covers key w)
  covered s true index position next covers key w =
      pick_none (limited (said b s.records).keys (layer_at index) key) ∙ ap flat (limited_in (said b s.records).keys (layer_at index) key w) ∙ covers key w

  checkpoint_kind : (s : Serving) (item : MetaItem) → MayCheckpoint layer_at b s item → IsCheckpoint s.noted s.fixed (said b s.records) item
  checkpoint_kind s item may = record {
    note = may.0;
    is_noted = may.1;
    combine = may.2;
    index = may.3;
    position = may.4;
    is = may.5;
    place = may.6;
    table = subst (λ z. (key : Bytes) → within (said b s.records).keys key ≡ true → flat (indexed layer_at (with_record b s.records z).indexes key) ≡ flat (over s.fixed (indexed layer_at (said b s.records).indexes) key))
        (sym may.5) (covered s may.2 may.3 may.4 (may.0).next may.7);
  }

  split_kind : (s : Serving) (item : MetaItem) → MaySplit layer_at b s item → IsOfSplit s.noted (said b s.records) item
  split_kind s item (none, inl e) =
      subst (IsOfSplit s.noted (said b s.records)) (sym e.3) (record { none = none; regions_are = refl; indexes_are = refl; narrower = λ key w. w })
  split_kind s item (none, inr r) =
      subst (IsOfSplit s.noted (said b s.records)) (sym r.1) (record { none = none; regions_are = refl; indexes_are = refl; narrower = r.2 })

  -- a record that may be sent is fit
  pub fit_record : (s : Serving) (group : Group MetaItem) (item : MetaItem) → group.items ≡ item ∷ [] → MayCheckpoint layer_at b s item ⊎ MaySplit layer_at b s item → IsFitRecord s.noted s.fixed s.records group
  fit_record s group item is_item (inl may) = record { item = item; is = is_item; kind = inl (checkpoint_kind s item may) }
  fit_record s group item is_item (inr may) = record { item = item; is = is_item; kind = inr (split_kind s item may) }

  -- a record is sent
  pub holds_recording : (log : LogStory) (metadata : MetadataStory) (g : ℕ) (s : Serving) (n : ℕ) (group : Group MetaItem) → n ≡ length metadata →
      HoldsRightly log metadata g s → s.record_out ≡ None → IsFitRecord s.noted s.fixed s.records group → HoldsRightly log (Made g group ∷ metadata) g (recording n group s)
  holds_recording log metadata g s n group is_n h none r =
      let answered : HasAllAnswered metadata g s.records = subst (λ z. HasLine metadata g s.records z) none h.has_records in
      let out : HasOneOut (Made g group ∷ metadata) g s.records n group = subst (λ z. HasOneOut (Made g group ∷ metadata) g s.records z group) (sym is_n) (one_out_made MetaItem metadata g s.records group answered) in
      record {
        line = h.line;
        rank = h.rank;
        has_line = h.has_line;
        number = h.number;
        at = h.at;
        low = h.low;
        table = h.table;
        base = h.base;
        stands_for = h.stands_for;
        has_records = out;
        noted = h.noted;
        idle = h.idle;
        fit = λ o q.
            let mine : OutAppend MetaItem = record { append = n; group = group } in
            let is : mine ≡ o = cc in
            subst (λ z. IsFitRecord s.noted s.fixed s.records z.group) is r;
      }

  -- what the metadata stands for once the record is in
  checkpoint_stands : (log : LogStory) (metadata : MetadataStory) (g : ℕ) (s : Serving) (item : MetaItem) → HoldsRightly log metadata g s →
      IsCheckpoint s.noted s.fixed (said b s.records) item → StandsForLine log g (with_record b s.records item)
  checkpoint_stands log metadata g s item h c =
      let n : IsNotedRightly log g s.fixed s.records s.position h.rank c.note = h.noted c.note c.is_noted in
      let made : MetadataState = with_record b s.records (Checkpoint c.combine c.index c.position (c.note).next) in
      let same : with_record b s.records item ≡ made = ap (with_record b s.records) c.is in
      record {
        line = n.line;
        next_is = ap (λ z. first_next z.regions) same ∙ n.number;
        table = λ key w. c.table key (ap (λ z. within z.keys key) (sym same) ∙ w) ∙ n.table key (ap (λ z. within z.keys key) (sym same) ∙ w);
        origin = subst (λ z. HasOrigin log g (start_number z.regions) n.line) (sym same) (inr (g, omega arith, n.own_rank, subst (λ z. IsAt Transaction log g z n.line n.own_rank) (sym c.place) n.at, n.had_line));
      }

  split_stands : (log : LogStory) (g : ℕ) (m : MetadataState) (item : MetaItem) (noted : Option NotedPosition) → StandsForLine log g m → IsOfSplit noted m item → StandsForLine log g (taken m item)
  split_stands log g m item noted s c = record {
    line = s.line;
    next_is = ap first_next c.regions_are ∙ s.next_is;
    table = λ key w. ap (λ z. flat (indexed layer_at z key)) c.indexes_are ∙ s.table key (c.narrower key w);
    origin = subst (λ z. HasOrigin log g (start_number z) s.line) (sym c.regions_are) s.origin;
  }

  record_stands : (log : LogStory) (metadata : MetadataStory) (g : ℕ) (s : Serving) (group : Group MetaItem) → HoldsRightly log metadata g s →
      (r : IsFitRecord s.noted s.fixed s.records group) → StandsForLine log g (with_record b s.records r.item)
  record_stands log metadata g s group h r =
      ⊎_elim {C = StandsForLine log g (with_record b s.records r.item)}
      (λ (c : IsCheckpoint s.noted s.fixed (said b s.records) r.item). checkpoint_stands log metadata g s r.item h c)
      (λ (c : IsOfSplit s.noted (said b s.records) r.item). split_stands log g (said b s.records) r.item s.noted h.stands_for c)
      r.kind

  -- the record of a checkpoint raises the place from which on the log is replayed to the noted position
  record_rises : (log : LogStory) (metadata : MetadataStory) (g : ℕ) (s : Serving) (item : MetaItem) → HoldsRightly log metadata g s →
      IsCheckpoint s.noted s.fixed (said b s.records) item ⊎ IsOfSplit s.noted (said b s.records) item →
      StartRises log g (start_number (said b s.records).regions) (start_number (with_record b s.records item).regions)
  record_rises log metadata g s item h (inl c) =
      let n : IsNotedRightly log g s.fixed s.records s.position h.rank c.note = h.noted c.note c.is_noted in
      let start : ℕ = start_number (said b s.records).regions in
      let place : start_number (with_record b s.records item).regions ≡ (c.note).place = ap (λ z. start_number (with_record b s.records z).regions) c.is ∙ c.place in
      inr (
        n.line,
        n.own_rank,
        subst (λ z. IsAt Transaction log g z n.line n.own_rank) (sym place) n.at,
        subst (λ z. IsReached Transaction log g start z n.own_rank) (sym place) n.base,
      )
  record_rises log metadata g s item h (inr c) = inl (ap start_number c.regions_are)

  pub record_made : (log : LogStory) (metadata : MetadataStory) (g : ℕ) (s : Serving) (group : Group MetaItem) → HoldsRightly log metadata g s → s.record_out ≡ None → group.first ≡ suc (length s.records) →
      IsFitRecord s.noted s.fixed s.records group → WasFitRecord log metadata g group
  record_made log metadata g s group h none first r = record {
    before = s.records;
    item = r.item;
    is = r.is;
    number = first;
    had_before = had_line_answered MetaItem metadata g s.records (subst (λ z. HasLine metadata g s.records z) none h.has_records);
    stands_for = record_stands log metadata g s group h r;
    rises = record_rises log metadata g s r.item h r.kind;
  }

  -- live over the indexes makes the table once the record is in, and the position is reached from where the log is then replayed
  abbrev InstalledRightly : LogStory → ℕ → Serving → List Transaction → ℕ → MetadataState → Type 0
  InstalledRightly log g s line rank m =
      ((key : Bytes) → within m.keys key ≡ true → flat (pick (s.live key) (indexed layer_at m.indexes key)) ≡ after_line line b.table key)
      × IsReached Transaction log g (start_number m.regions) s.position rank

  installed : (log : LogStory) (metadata : MetadataStory) (g : ℕ) (s : Serving) (item : MetaItem) (h : HoldsRightly log metadata g s) →
      IsCheckpoint s.noted s.fixed (said b s.records) item ⊎ IsOfSplit s.noted (said b s.records) item → InstalledRightly log g s h.line h.rank (with_record b s.records item)
  installed log metadata g s item h (inl c) =
      let n : IsNotedRightly log g s.fixed s.records s.position h.rank c.note = h.noted c.note c.is_noted in
      let made : MetadataState = with_record b s.records (Checkpoint c.combine c.index c.position (c.note).next) in
      let same : with_record b s.records item ≡ made = ap (with_record b s.records) c.is in
      let new : Layer = indexed layer_at (with_record b s.records item).indexes in
      let old : Layer = over s.fixed (indexed layer_at (said b s.records).indexes) in (
        (λ key w.
            let w' : within (said b s.records).keys key ≡ true = ap (λ z. within z.keys key) (sym same) ∙ w in
            pick_same (s.live key) (new key) (old key) (c.table key w') ∙ h.table key w'),
        subst (λ z. IsReached Transaction log g (start_number z.regions) s.position h.rank) (sym same) (subst (λ z. IsReached Transaction log g z s.position h.rank) (sym c.place) n.near),
      )
  installed log metadata g s item h (inr c) =
      let old : Layer = indexed layer_at (said b s.records).indexes in (
        (λ key w.
            ap (λ z. flat (pick (s.live key) (indexed layer_at z key))) c.indexes_are
            ∙ ap (λ z. flat (pick (s.live key) (pick z (old key)))) (sym (h.idle c.none key))
            ∙ h.table key (c.narrower key w)),
        subst (λ z. IsReached Transaction log g (start_number z) s.position h.rank) (sym c.regions_are) h.base,
      )

  -- a record is answered
  pub holds_recorded : (log : LogStory) (metadata : MetadataStory) (g : ℕ) (s : Serving) (a from to : ℕ) (group : Group MetaItem) →
      HoldsRightly log metadata g s → s.record_out ≡ Some (record { append = a; group = group }) → HoldsRightly log (Answered a from to ∷ metadata) g (recorded s)
  holds_recorded log metadata g s a from to group h is_out =
      let out : HasOneOut metadata g s.records a group = subst (λ z. HasLine metadata g s.records z) is_out h.has_records in
      let r : IsFitRecord s.noted s.fixed s.records group = h.fit (record { append = a; group = group }) is_out in
      let items : items_out s.record_out ≡ group.items = ap items_out is_out in
      let grown : s.records ++ items_out s.record_out ≡ s.records ++ r.item ∷ [] = ap (λ z. s.records ++ z) (items ∙ r.is) in
      let fold : said b (s.records ++ items_out s.record_out) ≡ with_record b s.records r.item = ap (said b) grown ∙ fold_last s.records r.item b.metadata in
      let parts : InstalledRightly log g s h.line h.rank (with_record b s.records r.item) = installed log metadata g s r.item h r.kind in
      record {
        line = h.line;
        rank = h.rank;
        has_line = h.has_line;
        number = h.number;
        at = h.at;
        low = h.low;
        table = λ key w. ap (λ z. flat (pick (s.live key) (indexed layer_at z.indexes key))) fold ∙ parts.0 key (subst (λ z. within z.keys key ≡ true) fold w);
        base = subst (λ z. IsReached Transaction log g (start_number z.regions) s.position h.rank) (sym fold) parts.1;
        stands_for = subst (StandsForLine log g) (sym fold) (record_stands log metadata g s group h r);
        has_records = subst (λ z. HasAllAnswered (Answered a from to ∷ metadata) g (s.records ++ z)) (sym items) (all_answered_then MetaItem metadata g s.records a from to group out);
        noted = λ m q. absurd (cc);
        idle = λ q key. refl;
        fit = λ o q. absurd (cc);
      }
