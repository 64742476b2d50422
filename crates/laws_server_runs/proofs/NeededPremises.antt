-- The premises of the law of servers, but those of bytes and of splits, are needed: for each there are events that lack it alone, and
-- do not replay.
use Rattle.std.proofs.Common.{◌≡◌, ◌⊎◌, inl, inr, ℕ, suc, ◌<◌, List, [], ◌∷◌, ◌++◌, length, Some, None, refl, sym, ap, ◌∙◌, subst, arith}
use Rattle.blocks.specs.Record as numbers
use Rattle.commitlog.specs.Reading as reading
use Rattle.metadata.specs.declared.record.MetaItem.TheVariants.{Regions}
use Rattle.metadata.specs.Fold.{all_keys}
use Rattle.metadata.specs.Reading as metadata_reading
use Rattle.metadata.specs.Record.{spelling}
use Rattle.replica.specs.Groups.{joined}
use Rattle.wire.specs.declared.actor.ActorId.TheVariants.{Map, Manager, Node}
use Rattle.wire.specs.declared.body.Body.TheVariants as bodies
use Rattle.wire.specs.declared.body.CheckBody.TheVariants as checks
use Rattle.wire.specs.declared.body.MapBody.TheVariants as maps
use Rattle.wire.specs.declared.body.ReadBody.TheVariants as reads
use Rattle.wire.specs.declared.body.StreamBody.TheVariants as streams
use Rattle.wire.specs.declared.note.Note.{Note}
use Rattle.wire.specs.declared.note.Note.TheVariants.{Began, Merged, Loaded}
use Rattle.wire.specs.declared.rows.Row.{Row}
use Rattle.model_partition.specs.declared.table_note.TableNote.TheVariants as tables
use Rattle.model_partition.specs.Past.{Bytes, Transaction, Past, From_nothing, From_pair, AllBegan, IsPastOf, Replays, line_of, owners, table_notes, first_range}
use Rattle.model_partition.specs.Loading.{Group}
use Rattle.model_histories.specs.Story.{StreamEvent, Showed, event_at, KeepsOrder, EndsRise}
use Rattle.model_histories.specs.ServerRun.{ServerRun, ServerEvent, run_of, log_name, metadata_name}
use Rattle.model_histories.specs.ServedTables.{AllStand, LoadsOnce, AreFirst, AreUnborn, AreSeenAs, StreamsInOrder}
use Rattle.model_histories.specs.TableContents.{StandsAt}
use Rattle.laws_tables.specs.Fenced.{Seen, Fenced, LogRun, IsLogRun}
use Rattle.laws_tables.proofs.Fenced.{keeps_order, ends_rise}
use Rattle.laws_tables.proofs.Members.{in_contains}
use Rattle.laws_tables.proofs.Range.{bound}
use Rattle.laws_loads.proofs.Rows.{rows_say}
use Rattle.std.proofs.lemmas.List.{append-nil}
use Rattle.laws_server_runs.proofs.Worked.{loaded, whole_table, group, comes, asked, lists, extent}
use Rattle.laws_server_runs.proofs.Unconfirmed.{unconfirmed}

-- ---- events

-- what a law says of these events, where these premises are met
abbrev Law : ((texts : ℕ → Bytes) → ServerRun → List ServerEvent → Type 0) → Type 0
Law Premises = (batch servers : ℕ) (texts : ℕ → Bytes) (events : List ServerEvent) (h : List Note) → Premises texts (run_of batch servers events) events →
    AreSeenAs texts (run_of batch servers events).notes (table_notes h) → Replays h

-- a load that shows a group which nobody formed, and is confirmed
abbrev invented : List ServerEvent
invented = comes 1 Manager (bodies.Stream (streams.Confirmed (asked 1 4))) ∷ unconfirmed (group ∷ [])

abbrev texts : ℕ → Bytes
texts e = joined group

invented_makes : ((run_of 1 1 invented).notes ≡ tables.Loaded 1 1 (whole_table loaded) 2 ∷ []) × ((run_of 1 1 invented).story (log_name first_range) ≡ Showed 1 0 24 (record { from = 0; to = 24; group = group } ∷ []) ∷ [])
    × ((run_of 1 1 invented).story (metadata_name first_range) ≡ Showed 1 0 0 [] ∷ []) × ((run_of 1 1 invented).shown first_range ≡ record { extent = 7; offset = 0; bytes = joined group } ∷ [])
unfolding numbers.number reading.record_at reading.joined_at reading.text_at reading.body_at reading.transactions_at reading.transaction_at reading.change_at reading.counted_at reading.cell_at reading.fields_at reading.transactions_of
invented_makes = (refl, refl, refl, refl)

-- metadata that nobody wrote: the log is to be applied from the number 2 on
abbrev lie : List (List ℕ)
lie = spelling (record { number = 1; item = Regions [] (record { start = record { index = 0; offset = 0 }; end = None; next = 2; keys = all_keys } ∷ []) }) ∷ []

abbrev lied : List ServerEvent
lied =
    comes 1 Manager (bodies.Stream (streams.Confirmed (asked 1 4)))
    ∷ comes 1 (Node 1) (bodies.Read (reads.Groups (asked 1 3) 7 (lie ∷ [])))
    ∷ comes 1 (Node 1) (bodies.Check (checks.Checked (asked 1 2) (Some 45)))
    ∷ comes 1 Manager (bodies.Stream (streams.Opened (asked 1 1) (record (lists []) { metadata = record { base = 0; extents = extent ∷ [] } })))
    ∷ comes 1 Map (bodies.Map (maps.Assign 1 1 100))
    ∷ []

lied_makes : ((run_of 1 1 lied).notes ≡ tables.Loaded 1 1 (whole_table []) 2 ∷ []) × ((run_of 1 1 lied).story (log_name first_range) ≡ Showed 1 0 0 [] ∷ []) × ((run_of 1 1 lied).shown first_range ≡ [])
unfolding numbers.number metadata_reading.record_at metadata_reading.next_at metadata_reading.item_at metadata_reading.regions_at metadata_reading.counted_at metadata_reading.region_at metadata_reading.position_at metadata_reading.end_at metadata_reading.end_behind metadata_reading.keys_at metadata_reading.text_at metadata_reading.high_at metadata_reading.high_behind
lied_makes = (refl, refl, refl)

-- two servers that are confirmed under one generation
abbrev server_load : (server : ℕ) → List ServerEvent
server_load server =
    comes server Manager (bodies.Stream (streams.Confirmed (asked server 2)))
    ∷ comes server Manager (bodies.Stream (streams.Opened (asked server 1) (lists [])))
    ∷ comes server Map (bodies.Map (maps.Assign 1 1 100))
    ∷ []

abbrev twice : List ServerEvent
twice = server_load 2 ++ server_load 1

twice_makes : ((run_of 1 2 twice).notes ≡ tables.Loaded 1 1 (whole_table []) 1 ∷ tables.Loaded 1 1 (whole_table []) 1 ∷ []) × ((run_of 1 2 twice).story (log_name first_range) ≡ Showed 1 0 0 [] ∷ Showed 1 0 0 [] ∷ [])
    × ((run_of 1 2 twice).story (metadata_name first_range) ≡ Showed 1 0 0 [] ∷ Showed 1 0 0 [] ∷ []) × ((run_of 1 2 twice).shown first_range ≡ [])
twice_makes = (refl, refl, refl, refl)

-- a range that no split made
abbrev second_range : List ServerEvent
second_range =
    comes 1 Manager (bodies.Stream (streams.Confirmed (asked 1 2)))
    ∷ comes 1 Manager (bodies.Stream (streams.Opened (asked 1 1) (lists [])))
    ∷ comes 1 Map (bodies.Map (maps.Assign 2 1 100))
    ∷ []

second_makes : ((run_of 1 1 second_range).notes ≡ tables.Loaded 2 1 (whole_table []) 1 ∷ []) × ((run_of 1 1 second_range).story (log_name first_range) ≡ []) × ((run_of 1 1 second_range).story (metadata_name first_range) ≡ [])
    × ((run_of 1 1 second_range).shown first_range ≡ []) × ((run_of 1 1 second_range).answered first_range ≡ [])
second_makes = (refl, refl, refl, refl, refl)

-- ---- none of them replays

-- a line of one transaction, none of which began
not_invented : (rows : List Row) → Replays (Loaded 1 1 rows 2 ∷ []) → ⊥
not_invented rows r = by (r.past 1 1) (r.of [] [] 1 1 rows 2 refl) (r.number 1 1 rows 2 (0, omega arith, refl))
  where
    none_began : (line : List Transaction) → AllBegan [] (owners (Loaded 1 1 rows 2 ∷ []) 1) 1 line → 2 ≡ suc (length line) → ⊥
    none_began [] began n = absurd (omega (arith, n))
    none_began (t ∷ line) began n = absurd (in_contains (Began (began 1 t (omega arith, refl)).0 (began 1 t (omega arith, refl)).1 1 t) [] (began 1 t (omega arith, refl)).4)

    by : (past : Past) → IsPastOf (Loaded 1 1 rows 2 ∷ []) [] 1 1 past → 2 ≡ suc (length (line_of past)) → ⊥
    by (From_nothing line) is n = none_began line is.0 n
    by (From_pair left left_past right right_past line) is n = none_began line is.0 n

not_twice : Replays (Loaded 1 1 [] 1 ∷ Loaded 1 1 [] 1 ∷ []) → ⊥
not_twice r = r.once [] (Loaded 1 1 [] 1 ∷ []) 1 1 [] [] 1 1 refl (0, omega arith, refl)

not_second : Replays (Loaded 2 1 [] 1 ∷ []) → ⊥
not_second r = by (r.past 2 1) (r.of [] [] 2 1 [] 1 refl)
  where
    by : (past : Past) → IsPastOf (Loaded 2 1 [] 1 ∷ []) [] 1 2 past → ⊥
    by (From_nothing line) is = let e : 2 ≡ 1 = is.1 in absurd (omega (arith, e))
    by (From_pair left left_past right right_past line) is =
        no_merge (in_contains (Merged left right 2) (Loaded 2 1 [] 1 ∷ []) is.1)
      where
        no_merge : (Merged left right 2 ≡ Loaded 2 1 [] 1) ⊎ ⊥ → ⊥
        no_merge (inl same) = cc
        no_merge (inr none) = none

-- ---- so each of these premises is needed

module _ (A : Type 0) where
  pub one_keeps : KeepsOrder {A = A} (Showed 1 0 0 [] ∷ [])
  one_keeps = keeps_order A (Seen (Showed 1 0 0 []) ∷ Fenced 1 0 ∷ []) (([], [], refl, refl), ((omega arith, omega arith), tt))

  abbrev shown_twice : LogRun A
  shown_twice = Seen (Showed 1 0 0 []) ∷ Seen (Showed 1 0 0 []) ∷ Fenced 1 0 ∷ []

  is_shown_twice : IsLogRun shown_twice
  is_shown_twice = (([], Seen (Showed 1 0 0 []) ∷ [], refl, refl), (([], [], refl, refl), ((omega arith, omega arith), tt)))

  two_keep : KeepsOrder {A = A} (Showed 1 0 0 [] ∷ Showed 1 0 0 [] ∷ [])
  two_keep = keeps_order A shown_twice is_shown_twice

  two_end : EndsRise {A = A} (Showed 1 0 0 [] ∷ Showed 1 0 0 [] ∷ [])
  two_end = ends_rise A shown_twice is_shown_twice

  pub one_ends : (event : StreamEvent A) → EndsRise {A = A} (event ∷ [])
  one_ends event l m g h start end start' end' groups groups' one two rises =
      let low : l < 1 = bound A (event ∷ []) l _ one in
      let high : m < 1 = bound A (event ∷ []) m _ two in
      let place : l ≡ m = omega (arith, low, high) in
      let both : Some (Showed g start end groups) ≡ Some (Showed h start' end' groups') = sym one ∙ ap (event_at (event ∷ [])) place ∙ two in
      let same : g ≡ h = cc in
      absurd (omega (arith, same, rises))

  pub one_once : (event : StreamEvent A) → LoadsOnce {A = A} (event ∷ [])
  one_once event l m g start end start' end' groups groups' one two = grind (arith, bound A (event ∷ []) l _ one, bound A (event ∷ []) m _ two)

stands : StandsAt (joined group) 0 (joined group)
stands = record { before = []; behind = []; is = sym (append-nil (joined group)); at = refl }

module _ (texts : ℕ → Bytes) (x : ServerRun) where
  abbrev WithoutOrder : List ServerEvent → Type 0
  WithoutOrder events =
      AreUnborn first_range events × AreFirst events × KeepsOrder (x.story (metadata_name first_range)) × LoadsOnce (x.story (log_name first_range)) × EndsRise (x.story (log_name first_range)) × AllStand texts (x.shown first_range)

  abbrev WithoutMetadata : List ServerEvent → Type 0
  WithoutMetadata events =
      AreUnborn first_range events × AreFirst events × KeepsOrder (x.story (log_name first_range)) × LoadsOnce (x.story (log_name first_range)) × EndsRise (x.story (log_name first_range)) × AllStand texts (x.shown first_range)

  abbrev WithoutOnce : List ServerEvent → Type 0
  WithoutOnce events =
      AreUnborn first_range events × AreFirst events × KeepsOrder (x.story (metadata_name first_range)) × KeepsOrder (x.story (log_name first_range)) × EndsRise (x.story (log_name first_range)) × AllStand texts (x.shown first_range)

  abbrev WithoutFirst : List ServerEvent → Type 0
  WithoutFirst events = AreUnborn first_range events × StreamsInOrder texts first_range x

pub order_is_needed : Law WithoutOrder → ⊥
order_is_needed law = not_invented rows (law 1 1 texts invented h
    ((tt, (tt, (tt, (tt, (tt, tt))))), (tt, (tt, (tt, (tt, (refl, tt))))), subst KeepsOrder (sym invented_makes.2) (one_keeps Group), subst LoadsOnce (sym invented_makes.1) (one_once Group _), subst EndsRise (sym invented_makes.1) (one_ends Group _), subst (AllStand texts) (sym invented_makes.3) (stands, tt))
    (subst (λ told. AreSeenAs texts told h) (sym invented_makes.0) ((rows, refl, rows_say texts [] loaded (tt, tt) tt), tt)))
  where
    rows : List Row
    rows = record { key = 97 ∷ []; value = 120 ∷ [] } ∷ []

    h : List Note
    h = Loaded 1 1 rows 2 ∷ []

pub metadata_is_needed : Law WithoutMetadata → ⊥
metadata_is_needed law = not_invented [] (law 1 1 texts lied h
    ((tt, (tt, (tt, (tt, (tt, tt))))), (tt, (tt, (tt, (tt, (refl, tt))))), subst KeepsOrder (sym lied_makes.1) (one_keeps Group), subst LoadsOnce (sym lied_makes.1) (one_once Group _), subst EndsRise (sym lied_makes.1) (one_ends Group _), subst (AllStand texts) (sym lied_makes.2) tt)
    (subst (λ told. AreSeenAs texts told h) (sym lied_makes.0) (([], refl, λ key. refl), tt)))
  where
    h : List Note
    h = Loaded 1 1 [] 2 ∷ []

pub once_is_needed : Law WithoutOnce → ⊥
once_is_needed law = not_twice (law 1 2 texts twice h
    ((tt, (tt, (tt, (tt, (tt, (tt, tt)))))), (tt, (tt, (refl, (tt, (tt, (refl, tt)))))), subst KeepsOrder (sym twice_makes.2) (two_keep Group), subst KeepsOrder (sym twice_makes.1) (two_keep Group), subst EndsRise (sym twice_makes.1) (two_end Group), subst (AllStand texts) (sym twice_makes.3) tt)
    (subst (λ told. AreSeenAs texts told h) (sym twice_makes.0) (([], refl, λ key. refl), (([], refl, λ key. refl), tt))))
  where
    h : List Note
    h = Loaded 1 1 [] 1 ∷ Loaded 1 1 [] 1 ∷ []

pub first_is_needed : Law WithoutFirst → ⊥
first_is_needed law = not_second (law 1 1 texts second_range h (
  (tt, (tt, (tt, tt))),
  record {
    metadata = subst KeepsOrder (sym second_makes.2) (keeps_order Group [] tt);
    log = subst KeepsOrder (sym second_makes.1) (keeps_order Group [] tt);
    once = subst LoadsOnce (sym second_makes.1) (λ l m g start end start' end' groups groups' one two. absurd cc);
    ends = subst EndsRise (sym second_makes.1) (ends_rise Group [] tt);
    shown = subst (AllStand texts) (sym second_makes.3) tt;
    answered = subst (AllStand texts) (sym second_makes.4) tt;
  },
)
    (subst (λ told. AreSeenAs texts told h) (sym second_makes.0) (([], refl, λ key. refl), tt)))
  where
    h : List Note
    h = Loaded 2 1 [] 1 ∷ []
