-- The ranges of a run of servers, some of which splits made of others: what is kept of each, and what was so at the moment when the streams
-- of one were built of its parent's.
use Rattle.std.specs.Prelude.{◌≡◌, ◌⊎◌, ℕ, ◌<◌, ◌≤◌, true, List, [], ◌∷◌, ◌++◌, length, Some, None, Contains}
use Rattle.wire.specs.declared.note.Note.{Note}
use Rattle.wire.specs.declared.note.Note.TheVariants.{Split, Merged}
use Rattle.metadata.specs.declared.record.KeyRange.{KeyRange}
use Rattle.model_histories.specs.Log.{is_of, only}
use Rattle.model_histories.specs.ServedTables.{AreSeenAs, StreamsInOrder}
use Rattle.model_histories.specs.ServerRun.{ServerRun, log_name}
use Rattle.model_histories.specs.Story.{Placed, Showed, event_at}
use Rattle.model_partition.specs.Loading.{Group}
use Rattle.model_partition.specs.Past.{Bytes, first_range}
use Rattle.laws_tables.specs.Families.{HasNoBirth, IsChild, IsNamed, generation_of}
use Rattle.laws_tables.specs.Runs.{Records, Run, first_beginning, held, said, seen, KeepsKeys}
use Rattle.metadata.specs.declared.record.MetaItem.TheVariants.{Ranges}
use Rattle.laws_server_runs.specs.ClosedRanges.{FormedBefore}
use Rattle.laws_server_runs.specs.RangeInvariant.{IsLonger}
use Rattle.laws_server_runs.specs.RunInvariant.{HasLoad, Taken, RunBehind}

-- the observations of servers, without those of the map
abbrev pub of_servers : List Note → List Note
of_servers [] = []
of_servers (Split parent low high key ∷ h) = of_servers h
of_servers (Merged left right into ∷ h) = of_servers h
of_servers (note ∷ h) = note ∷ of_servers h

-- ---- parts of runs

-- each record that names keys is under the generation, and names these
abbrev pub NamesOwn : ℕ → KeyRange → Run → Type 0
NamesOwn g keys [] = Unit {0}
NamesOwn g keys (Records i number item ∷ earlier) = ((named : KeyRange) → item ≡ Ranges named → (i ≡ g) × (named ≡ keys)) × NamesOwn g keys earlier
NamesOwn g keys (e ∷ earlier) = NamesOwn g keys earlier

-- ---- ranges

module _ (texts : ℕ → Bytes) (x : ServerRun) where
  -- a range, what its streams were built of, and what is kept of it since
  pub record IsMember (r : ℕ) : Type 0 where
    pub taken : Taken
    pub kept : RunBehind texts r taken x
    pub order : StreamsInOrder texts r x
    -- what was taken shows as many observations as are said of it
    pub count : length taken.notes ≡ length (seen first_beginning (λ l. []) r taken.run)

  module _ (h : List Note) (member : (r : ℕ) → IsMember r) where
    -- no split made it, its streams were built of no other's, and no record names keys for it
    pub record IsEldest (r : ℕ) : Type 0 where
      pub is : r ≡ first_range
      pub unborn : HasNoBirth r h
      pub nothing : (member r).taken.run ≡ []
      pub keys : KeepsKeys (member r).kept.run

    -- it is one of the two of the split, and these are its keys, of those of the range that was split
    abbrev pub IsHalf : (r low high : ℕ) → Bytes → KeyRange → KeyRange → Type 0
    IsHalf r low high key whole keys =
        ((r ≡ low) × (keys ≡ record { low = whole.low; high = Some key }))
        ⊎ ((r ≡ high) × (high ≡ low → ⊥) × (keys ≡ record { low = key; high = whole.high }))

    -- A split made r of p: the run of servers at the moment when its streams were built, and what was so then and is so since
    pub record CameOf (p r : ℕ) : Type 0 where
      pub child : IsChild h p r
      pub moment : ServerRun
      pub old : RunBehind texts p (member p).taken moment
      pub goes : IsLonger old.run (member p).kept.run
      pub took : (member r).taken.run ≡ old.run
      -- what was observed by then
      pub before : List Note
      pub after : List Note
      pub is : h ≡ before ++ after
      pub told : AreSeenAs texts moment.notes (of_servers before)
      pub untold : only r before ≡ []
      -- the generation under which p was split: it was loaded by then, and nothing was out, nor is formed since
      pub generation : ℕ
      pub loaded : HasLoad generation old.behind.0
      pub nothing_out : (held first_beginning old.run generation).out ≡ None
      pub formed : FormedBefore p generation moment x
      pub highest : (note : Note) → Contains h note → is_of p note ≡ true → generation_of note ≤ generation
      pub above : (note : Note) → Contains h note → is_of r note ≡ true → generation < generation_of note
      -- each load of the parent by then is one of the same copies for both
      pub shared : (l g start end : ℕ) (groups : List (Placed Group)) → event_at (moment.story (log_name p)) l ≡ Some (Showed g start end groups) →
          (member r).order.log.copies l ≡ (member p).order.log.copies l
      -- the keys of r: a half of those that p had under the generation, which its metadata names
      pub keys : KeyRange
      pub half : IsHalf r child.low child.high child.key (said first_beginning (held first_beginning old.run generation).records).keys keys
      pub named : IsNamed generation keys (member r).kept.run
      -- its own servers name no others, and name none under another generation
      pub own_names : NamesOwn generation keys (member r).kept.behind.0

    -- each range of which anything is told is the first, or came of another
    abbrev pub AllCame : Type 0
    AllCame = (r : ℕ) → (only r h ≡ []) ⊎ (IsEldest r ⊎ ((p : ℕ) × CameOf p r))
