-- Families of ranges: the first range, and each that a split made of one of them. What the servers of each range did on its own
-- streams is one run; a split hands the parent's streams, as they stand at one moment, on to both children.
use Rattle.std.specs.Prelude.{◌≡◌, ℕ, ◌<◌, ◌≤◌, Bool, true, false, List, [], ◌∷◌, ◌++◌, ◌==◌, ◌||◌, ◌⊎◌, map, Some, Contains}
use Rattle.wire.specs.declared.note.Note.{Note}
use Rattle.wire.specs.declared.note.Note.TheVariants.{Began, Done, Loaded, Split, Merged}
use Rattle.wire.specs.declared.rows.Row.{Row}
use Rattle.memtable.specs.declared.cell.Place.{Place}
use Rattle.commitlog.specs.Replay.{Numbered as Group}
use Rattle.metadata.specs.declared.record.KeyRange.{KeyRange}
use Rattle.metadata.specs.declared.record.MetaItem.TheVariants.{Ranges}
use Rattle.model_histories.specs.Log.{line_shown, is_of, only}
use Rattle.model_partition.specs.Past.{Bytes, Transaction, first_range, keys_of}
use Rattle.model_histories.specs.Story.{Placed, Made, Answered, Showed, event_at, placed, KeepsOrder, EndsRise}
use Rattle.laws_tables.specs.Layers.{Layer}
use Rattle.laws_tables.specs.Runs.{Run, Records, Confirms, log_of, meta_of, record_group, first_beginning, said, seen, IsChainRun, ShowsLayers}
use Rattle.laws_tables.specs.Through.{IsAnswered}

-- ---- how ranges came to be, read off the observations

-- a split or a merge that makes this range
abbrev pub is_birth : ℕ → Note → Bool
is_birth r (Split b c d key) = (r == c) || (r == d)
is_birth r (Merged c d e) = r == e
is_birth r note = false

-- none of these makes it
abbrev pub HasNoBirth : ℕ → List Note → Type 0
HasNoBirth r [] = Unit {0}
HasNoBirth r (note ∷ h) = (is_birth r note ≡ false) × HasNoBirth r h

-- A split made r of p. Numbers of ranges grow, and nothing behind that split makes either of the two.
pub record IsChild (h : List Note) (p r : ℕ) : Type 0 where
  pub before : List Note
  pub after : List Note
  pub low : ℕ
  pub high : ℕ
  pub key : Bytes
  pub is : h ≡ before ++ Split p low high key ∷ after
  pub half : (r ≡ low) ⊎ (r ≡ high)
  pub low_above : p < low
  pub high_above : p < high
  pub no_child_birth : HasNoBirth r after
  pub no_parent_birth : HasNoBirth p after

-- the generation that an observation of a served range is of
abbrev pub generation_of : Note → ℕ
generation_of (Began r g s t) = g
generation_of (Done r g s) = g
generation_of (Loaded r g rows next) = g
generation_of note = 0

-- ---- one range

-- each load shows these keys
abbrev pub HasKeys : KeyRange → Run → Type 0
HasKeys keys [] = Unit {0}
HasKeys keys (Confirms g start end groups metadata_end records ∷ earlier) =
    ((said first_beginning (line_shown records)).keys ≡ keys) × HasKeys keys earlier
HasKeys keys (e ∷ earlier) = HasKeys keys earlier

-- The same, from the records: a record of these keys was sent under g and answered,
pub record IsNamed (g : ℕ) (keys : KeyRange) (run : Run) : Type 0 where
  pub append : ℕ
  pub answer : ℕ
  pub from : ℕ
  pub to : ℕ
  pub number : ℕ
  pub made : event_at (meta_of run) append ≡ Some (Made g (record_group number (Ranges keys)))
  pub answered : event_at (meta_of run) answer ≡ Some (Answered append from to)

-- from g on none of other keys is sent,
abbrev pub NamesNoOther : ℕ → KeyRange → Run → Type 0
NamesNoOther g keys [] = Unit {0}
NamesNoOther g keys (Records g' number item ∷ earlier) = (g ≤ g' → (other : KeyRange) → item ≡ Ranges other → other ≡ keys) × NamesNoOther g keys earlier
NamesNoOther g keys (e ∷ earlier) = NamesNoOther g keys earlier

-- and each load is of a higher generation.
abbrev pub LoadsAbove : ℕ → Run → Type 0
LoadsAbove g [] = Unit {0}
LoadsAbove g (Confirms g' start end groups metadata_end records ∷ earlier) = (g < g') × LoadsAbove g earlier
LoadsAbove g (e ∷ earlier) = LoadsAbove g earlier

-- what these observations have of the range is what the run shows behind what was taken
abbrev pub IsToldIn : List Note → (ℕ → List Row) → ℕ → Run → Run → Type 0
IsToldIn h rows range taken run = seen first_beginning rows range run ≡ seen first_beginning rows range taken ++ only range h

-- A range's own run behind what its streams were made of: its servers follow their rules, and its streams keep their order.
-- rows: what each load shows, by its number in the log's story.
pub record IsRange (layer_at : Place → Layer) (h : List Note) (range : ℕ) (own taken : Run) (rows : ℕ → List Row) : Type 0 where
  pub runs : IsChainRun layer_at first_beginning (own ++ taken)
  pub layers : ShowsLayers layer_at first_beginning rows (own ++ taken)
  pub log : KeepsOrder (log_of (own ++ taken))
  pub ends : EndsRise (log_of (own ++ taken))
  pub metadata : KeepsOrder (meta_of (own ++ taken))
  pub told : IsToldIn h rows range taken (own ++ taken)

-- ---- families

module _ (layer_at : Place → Layer) (h : List Note) (own taken : ℕ → Run) (rows : ℕ → ℕ → List Row)
    (range : (r : ℕ) → IsRange layer_at h r (own r) (taken r) (rows r)) where
  -- no split made it, and it took nothing
  pub record IsFirst (r : ℕ) : Type 0 where
    pub is : r ≡ first_range
    pub unborn : HasNoBirth r h
    pub nothing : taken r ≡ []

  -- A split made r of p, and its streams are those of p as they stood at one moment: after the early part of what was done on them,
  -- when all before was observed.
  pub record HasParent (p r : ℕ) : Type 0 where
    pub child : IsChild h p r
    pub early : Run
    pub late : Run
    pub parts : own p ≡ late ++ early
    pub took : taken r ≡ early ++ taken p
    pub before : List Note
    pub after : List Note
    pub moment : h ≡ before ++ after
    pub told : IsToldIn before (rows p) p (taken p) (taken r)
    pub untold : only r before ≡ []
    -- the generation under which p was split was loaded by then, and all that it formed, ever, was answered by then
    pub generation : ℕ
    pub loaded : (rs : List Row) × (next : ℕ) × Contains before (Loaded p generation rs next)
    pub answered : (a : ℕ) (group : Group Transaction) → event_at (log_of (own p ++ taken p)) a ≡ Some (Made generation group) →
        IsAnswered (log_of (taken r)) a
    -- nothing is ever told of p under a higher generation, and of r under that one or a lower
    pub highest : (note : Note) → Contains h note → is_of p note ≡ true → generation_of note ≤ generation
    pub above : (note : Note) → Contains h note → is_of r note ≡ true → generation < generation_of note
    -- each load that was taken is for both a load of the same groups, also of those before the place that it began at
    pub shared : (l g start end : ℕ) (groups : List (Placed (Group Transaction))) → event_at (log_of (taken r)) l ≡ Some (Showed g start end groups) →
        map placed ((range r).log.copies l) ≡ map placed ((range p).log.copies l)

-- Each range of which anything is told is the first one, or a split made it of one of the family.
pub record IsFamily (layer_at : Place → Layer) (h : List Note) : Type 0 where
  -- what was done on the range's own streams since they were made, and what they were made of
  pub own : ℕ → Run
  pub taken : ℕ → Run
  pub rows : ℕ → ℕ → List Row
  pub range : (r : ℕ) → IsRange layer_at h r (own r) (taken r) (rows r)
  -- its own loads have the keys that splits left to it
  pub keys : (r : ℕ) → HasKeys (keys_of h r) (own r)
  pub born : (r : ℕ) → (only r h ≡ []) ⊎ (IsFirst layer_at h own taken rows range r ⊎ ((p : ℕ) × HasParent layer_at h own taken rows range p r))
