-- A worked family whose range answers two Gets of one key, before the transaction that puts it is acknowledged, and after; and a Get that is
-- refused, since it misses what was acknowledged.
use Rattle.std.proofs.Common.{◌≡◌, ℕ, suc, ◌<◌, ◌≤◌, refl, sym, ap, ◌∙◌, subst, inl, inr, ◌⊎◌, List, [], ◌∷◌, ◌++◌, length, map, Some, None, Option, arith, false, cond, eqb}
use Rattle.std.specs.Prelude.{Contains}
use Rattle.std.proofs.lemmas.Bool.{cases_eq}
use Rattle.wire.specs.declared.note.Note.{Note}
use Rattle.wire.specs.declared.note.Note.TheVariants.{Began, Done, Loaded, Got, Merged}
use Rattle.commitlog.specs.Replay.{Numbered as Group}
use Rattle.metadata.specs.declared.record.MetaItem.{MetaItem}
use Rattle.model_histories.specs.Log.{line_shown, only}
use Rattle.model_partition.specs.Past.{Bytes, Transaction, Past, From_nothing, From_pair, IsMember, IsPastOf, empty_table, after_line, begun, eldest, kept, keys_of, line_of, start_of, table_of}
use Rattle.model_partition.specs.Served.{HasAllDone, IsServed}
use Rattle.model_histories.specs.Story.{Placed, placed}
use Rattle.model_histories.specs.StreamMachine.{In}
use Rattle.laws_tables.specs.Families.{HasKeys, generation_of, IsRange, IsFirst, HasParent, IsFamily}
use Rattle.laws_tables.specs.Reads.{IsRead, AreReads, ReplaysAndServes}
use Rattle.laws_tables.specs.Runs.{Forms, Logged, Records, Recorded, Confirms, Run, log_of}
use Rattle.laws_tables.proofs.FamilyRuns.{families_serve}
use Rattle.laws_tables.proofs.Fenced.{keeps_order, ends_rise}
use Rattle.laws_tables.proofs.Members.{in_contains}
use Rattle.laws_tables.proofs.Range.{ne_test}
use Rattle.laws_tables.proofs.WorkedFamily.{parent_put, first_group, status, no_layers, parent_run, parent_log, is_parent_log, parent_metadata, is_parent_metadata, is_parent_run, none_told, is_nothing, each_of, all_shown}
use Rattle.laws_tables.proofs.WorkedRuns.{nothing_kept}

abbrev begun_notes : List Note
begun_notes = Loaded 1 1 [] 1 ∷ Began 1 1 1 parent_put ∷ []

abbrev done_notes : List Note
done_notes = Loaded 1 1 [] 1 ∷ Began 1 1 1 parent_put ∷ Got 1 1 (97 ∷ []) None ∷ Done 1 1 1 ∷ []

abbrev read_notes : List Note
read_notes = Loaded 1 1 [] 1 ∷ Began 1 1 1 parent_put ∷ Got 1 1 (97 ∷ []) None ∷ Done 1 1 1 ∷ Got 1 1 (97 ∷ []) (Some (120 ∷ [])) ∷ []

-- ---- the family: the first range

abbrev own : ℕ → Run
own r = cond (eqb r 1) parent_run []

by_first : (P : ℕ → Type 0) → P 1 → ((r : ℕ) → eqb r 1 ≡ false → P r) → (r : ℕ) → P r
by_first P one none r = elim (cases_eq r 1) as (λ x. P r) [ inl e ↦ subst P (sym e) one | inr n ↦ none r (ne_test Transaction r 1 n) ]

nothing_of_others : (r : ℕ) → eqb r 1 ≡ false → only r read_notes ≡ []
nothing_of_others r e = none_told r read_notes (e, (e, (refl, (e, (refl, tt)))))

is_first_range : IsRange no_layers read_notes 1 parent_run [] (λ n. [])
is_first_range = record {
  runs = is_parent_run;
  layers = (nothing_kept, tt);
  log = keeps_order (Group Transaction) parent_log is_parent_log;
  ends = ends_rise (Group Transaction) parent_log is_parent_log;
  metadata = keeps_order (Group MetaItem) parent_metadata is_parent_metadata;
  told = refl;
}

ranges : (r : ℕ) → IsRange no_layers read_notes r (own r) [] (λ n. [])
ranges =
    by_first (λ r. IsRange no_layers read_notes r (own r) [] (λ n. [])) is_first_range
    (λ r e. subst (λ b. IsRange no_layers read_notes r (cond b parent_run []) [] (λ n. [])) (sym e) (is_nothing read_notes r (nothing_of_others r e)))

first_one : IsFirst no_layers read_notes own (λ r. []) (λ r n. []) ranges 1
first_one = record { is = refl; unborn = (refl, (refl, (refl, (refl, (refl, tt))))); nothing = refl }

family : IsFamily no_layers read_notes
family = record {
  own = own;
  taken = λ r. [];
  rows = λ r n. [];
  range = ranges;
  keys = by_first (λ r. HasKeys (keys_of read_notes r) (own r)) (refl, tt) (λ r e. subst (λ b. HasKeys (keys_of read_notes r) (cond b parent_run [])) (sym e) tt);
  born =
      by_first (λ r. (only r read_notes ≡ []) ⊎ (IsFirst no_layers read_notes own (λ r. []) (λ r n. []) ranges r ⊎ ((p : ℕ) × HasParent no_layers read_notes own (λ r. []) (λ r n. []) ranges p r)))
      (inr (inl first_one)) (λ r e. inl (nothing_of_others r e));
}

-- ---- its Gets

-- nothing was shown of what the load found
none_shown : [] ≡ map placed ((ranges 1).log.copies 0)
none_shown = all_shown (log_of parent_run) (ranges 1).log 0 1 0 0 [] refl refl

-- what the line of a load and of what came behind it says of the key
abbrev said_of : List (Placed (Group Transaction)) → List Transaction → Option Bytes
said_of shown more = kept (keys_of read_notes 1) (after_line (line_shown shown ++ more) empty_table) (97 ∷ [])

abbrev IsLow : Note → Type 0
IsLow note = generation_of note ≤ 1

first_read : IsRead no_layers read_notes family begun_notes 1 1 (97 ∷ []) None
unfolding family
first_read = record {
  early = Forms 1 first_group ∷ Confirms 1 0 0 [] 0 [] ∷ [];
  late = Recorded 1 1 0 40 ∷ Records 1 1 status ∷ Logged 1 1 0 24 ∷ [];
  parts = refl;
  told = refl;
  loaded = ([], 1, (0, omega arith, refl));
  highest = λ o c is. each_of 1 IsLow begun_notes ((λ q. omega arith), ((λ q. omega arith), tt)) o (in_contains o begun_notes c) is;
  alone = λ r k other. let e : eqb r 1 ≡ false = ne_test Transaction r 1 other in none_told r begun_notes (e, (e, tt));
  shows = ap (λ z. kept (keys_of read_notes 1) (after_line (line_shown z) empty_table) (97 ∷ [])) none_shown;
}

second_read : IsRead no_layers read_notes family done_notes 1 1 (97 ∷ []) (Some (120 ∷ []))
unfolding family
second_read = record {
  early = Logged 1 1 0 24 ∷ Forms 1 first_group ∷ Confirms 1 0 0 [] 0 [] ∷ [];
  late = Recorded 1 1 0 40 ∷ Records 1 1 status ∷ [];
  parts = refl;
  told = refl;
  loaded = ([], 1, (0, omega arith, refl));
  highest = λ o c is. each_of 1 IsLow done_notes ((λ q. omega arith), ((λ q. omega arith), ((λ q. absurd (cc)), ((λ q. omega arith), tt)))) o (in_contains o done_notes c) is;
  alone = λ r k other. let e : eqb r 1 ≡ false = ne_test Transaction r 1 other in none_told r done_notes (e, (e, (refl, (e, tt))));
  shows = ap (λ z. said_of z (parent_put ∷ [])) none_shown;
}

-- read off the observation
abbrev IsReadAs : List Note → Note → Type 0
IsReadAs before (Got r g key value) = IsRead no_layers read_notes family before r g key value
IsReadAs before note = Unit {0}

read_as : (before shown : List Note) (r g : ℕ) (key : Bytes) (value : Option Bytes) (note : Note) → shown ≡ before → note ≡ Got r g key value → IsReadAs shown note → IsRead no_layers read_notes family before r g key value
read_as before shown r g key value note same is read = subst (λ z. IsReadAs z (Got r g key value)) same (subst (IsReadAs shown) is read)

reads : AreReads no_layers read_notes family
reads [] after r g key value e = absurd (cc)
reads (a ∷ []) after r g key value e = absurd (cc)
reads (a ∷ b ∷ []) after r g key value e =
    let same : begun_notes ≡ a ∷ b ∷ [] = cc in
    let is : Got 1 1 (97 ∷ []) None ≡ Got r g key value = cc in
    read_as (a ∷ b ∷ []) begun_notes r g key value (Got 1 1 (97 ∷ []) None) same is first_read
reads (a ∷ b ∷ c ∷ []) after r g key value e = absurd (cc)
reads (a ∷ b ∷ c ∷ d ∷ []) after r g key value e =
    let same : done_notes ≡ a ∷ b ∷ c ∷ d ∷ [] = cc in
    let is : Got 1 1 (97 ∷ []) (Some (120 ∷ [])) ≡ Got r g key value = cc in
    read_as (a ∷ b ∷ c ∷ d ∷ []) done_notes r g key value (Got 1 1 (97 ∷ []) (Some (120 ∷ []))) same is second_read
reads (a ∷ b ∷ c ∷ d ∷ x ∷ []) after r g key value e = absurd (cc)
reads (a ∷ b ∷ c ∷ d ∷ x ∷ y ∷ rest) after r g key value e = absurd (cc)

-- what it shows replays, and both Gets are served
pub worked_reads : ReplaysAndServes (
    Loaded 1 1 [] 1 ∷ Began 1 1 1 parent_put ∷ Got 1 1 (97 ∷ []) None ∷ Done 1 1 1 ∷ Got 1 1 (97 ∷ []) (Some (120 ∷ [])) ∷ []
    )
worked_reads = families_serve no_layers read_notes family reads

-- ---- a Get that misses what was acknowledged

abbrev acked_notes : List Note
acked_notes = Loaded 1 1 [] 1 ∷ Began 1 1 1 parent_put ∷ Done 1 1 1 ∷ []

abbrev stale_notes : List Note
stale_notes = Loaded 1 1 [] 1 ∷ Began 1 1 1 parent_put ∷ Done 1 1 1 ∷ Got 1 1 (97 ∷ []) None ∷ []

one_alone : (line : List Transaction) → IsMember line 1 parent_put → ((t : Transaction) → IsMember line 2 t → ⊥) → line ≡ parent_put ∷ []
one_alone [] m none = absurd (let no : None ≡ Some parent_put = m.1 in cc)
one_alone (t ∷ []) m none =
    let is : Some t ≡ Some parent_put = m.1 in
    let same : t ≡ parent_put = cc in
    ap (λ z. z ∷ []) same
one_alone (t ∷ u ∷ line) m none = absurd (none u (omega arith, refl))

no_merge : (c d e : ℕ) → In (Merged c d e) stale_notes → ⊥
no_merge c d e (inl q) = cc
no_merge c d e (inr (inl q)) = cc
no_merge c d e (inr (inr (inl q))) = cc
no_merge c d e (inr (inr (inr (inl q)))) = cc
no_merge c d e (inr (inr (inr (inr i)))) = i

stale : (now was : Past) → IsPastOf stale_notes [] 1 1 was → start_of now ≡ start_of was → suc (length (line_of was)) ≡ 1 →
    ((s : ℕ) (t : Transaction) → IsMember (line_of now) s t → length (line_of was) < s → (begun stale_notes 1 1 s ≡ t ∷ []) × Contains acked_notes (Done 1 1 s)) →
    HasAllDone stale_notes acked_notes 1 now → None ≡ table_of stale_notes 1 now (97 ∷ []) → ⊥
stale now (From_pair c p d q line) of start number further done shows =
    no_merge c d (eldest stale_notes 1) (in_contains (Merged c d (eldest stale_notes 1)) stale_notes of.1)
stale (From_pair c p d q line) (From_nothing old) of start number further done shows = cc
stale (From_nothing line) (From_nothing old) of start number further done shows =
    let d : (t : Transaction) × (begun stale_notes 1 1 1 ≡ t ∷ []) × IsMember line 1 t = done 1 1 1 (0, omega arith, refl) (2, omega arith, refl) in
    let is : parent_put ∷ [] ≡ d.0 ∷ [] = d.1 in
    let same : parent_put ≡ d.0 = cc in
    let none : (t : Transaction) → IsMember line 2 t → ⊥ = λ t m. (let b : [] ≡ t ∷ [] = (further 2 t m (omega arith)).0 in cc) in
    let one : line ≡ parent_put ∷ [] = one_alone line (subst (IsMember line 1) (sym same) d.2) none in
    let no : None ≡ Some (120 ∷ []) = shows ∙ ap (λ l. kept (keys_of stale_notes 1) (after_line l empty_table) (97 ∷ [])) one in
    cc

-- it is refused
pub stale_refused : ReplaysAndServes (Loaded 1 1 [] 1 ∷ Began 1 1 1 parent_put ∷ Done 1 1 1 ∷ Got 1 1 (97 ∷ []) None ∷ []) → ⊥
stale_refused x =
    let get : IsServed stale_notes acked_notes x.replays.past 1 1 (97 ∷ []) None = x.served acked_notes [] 1 1 (97 ∷ []) None refl in
    stale get.now (x.replays.past 1 1) (x.replays.of [] (Began 1 1 1 parent_put ∷ Done 1 1 1 ∷ Got 1 1 (97 ∷ []) None ∷ []) 1 1 [] 1 refl) get.start
    (sym (x.replays.number 1 1 [] 1 (0, omega arith, refl))) get.further get.done get.shows
