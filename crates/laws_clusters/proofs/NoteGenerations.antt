-- Where each range that a server holds is under a generation of some kind, so is each observation that servers show of one.
use Rattle.std.proofs.Common.{◌≡◌, ◌⊎◌, ℕ, true, ◌==◌, List, [], ◌∷◌, ◌++◌, Some, Contains, refl, sym, ap, ◌∙◌, subst, inl, inr}
use Rattle.std.proofs.lemmas.Bool.{eqb-true}
use Rattle.std.proofs.lemmas.List.Elements.{Contains-append_cases}
use Rattle.wire.specs.declared.note.Note.{Note}
use Rattle.wire.specs.declared.note.Note.TheVariants as notes
use Rattle.model_streams.specs.declared.event.Event.{Event}
use Rattle.model_streams.specs.declared.event.Event.TheVariants.{Deliver}
use Rattle.model_streams.specs.Maps.{entry_at}
use Rattle.model_partition.specs.declared.table_note.TableNote.{TableNote}
use Rattle.model_partition.specs.declared.table_note.TableNote.TheVariants as tables
use Rattle.model_partition.specs.Past.{table_notes}
use Rattle.model_partition.specs.Map.{MapState}
use Rattle.model_partition.specs.Range.{RangeState}
use Rattle.model_partition.specs.Server.{ServerState, range_of}
use Rattle.model_partition.specs.Servers.{ServerCell, told, noted}
use Rattle.model_partition.specs.Cluster.{Cluster}
use Rattle.model_histories.specs.Log.{is_of}
use Rattle.model_histories.specs.ServerRun.{ServerRun}
use Rattle.model_histories.specs.StreamActions.{PlacedBytes}
use Rattle.laws_tables.specs.Families.{generation_of}
use Rattle.laws_tables.proofs.Others.{others-append}
use Rattle.laws_map.specs.Naming.{Knowledge, RangeNames, ServerNames, StateNames, Names}
use Rattle.laws_map.proofs.EventNames.{entry_is}
use Rattle.laws_map.proofs.Knowing.{each_has, found_at}
use Rattle.laws_server_runs.specs.Places.{NoteWithin, NotesWithin}
use Rattle.laws_server_runs.proofs.NotedRanges.{AreNoted, Nothing, OfOne}
use Rattle.laws_clusters.proofs.ShownNotes.{notes_of, CompletesSplit, Adds, Quiet, OfServers, OfSplit, OfMerge}

-- each range that a server holds is under such a generation
abbrev pub AreHeld : (ℕ → ℕ → Type 0) → List ServerCell → Type 0
AreHeld P servers = (s : ℕ) (cell : ServerCell) (st : ServerState) → entry_at servers s ≡ Some cell → cell.state ≡ Some st → (k : ℕ) (r : RangeState) → range_of st.ranges k ≡ Some r → P k r.load.generation

-- each of these observations that is of a range is under such a generation
abbrev pub AllNoted : (ℕ → ℕ → Type 0) → List Note → Type 0
AllNoted P h = (note : Note) (r : ℕ) → Contains h note → is_of r note ≡ true → P r (generation_of note)

-- what servers hold was assigned
pub held_by_names : (K : Knowledge) (c : Cluster) → Names K c → AreHeld K.assigned c.servers
held_by_names K c n s cell st at is k r found =
    let here : ServerNames K st = subst (StateNames K) is (entry_is (λ (x : ServerCell). StateNames K x.state) c.servers s cell n.servers at) in
    let names : RangeNames K k r = found_at (λ (j : ℕ) (z : RangeState). RangeNames K j z) st.ranges k r here.ranges found in
    subst (K.assigned k) (sym names.under.1) names.known

pub noted_weaker : (P Q : ℕ → ℕ → Type 0) (h : List Note) → ((r g : ℕ) → P r g → Q r g) → AllNoted P h → AllNoted Q h
noted_weaker P Q h f all note r there is = f r (generation_of note) (all note r there is)

pub only_note : (a note : Note) → Contains (a ∷ []) note → a ≡ note
only_note a note there = each_has (λ (y : Note). a ≡ y) (a ∷ []) note (refl, tt) there

-- what a server shows is of tables
pub told_last : (seen : List Note) (n : TableNote) → table_notes (seen ++ told seen n ∷ []) ≡ table_notes seen ++ told seen n ∷ []
told_last seen (tables.Began range generation number changes) = others-append seen _
told_last seen (tables.Done range generation number) = others-append seen _
told_last seen (tables.Loaded range generation table next) = others-append seen _
told_last seen (tables.Got range generation key value) = others-append seen _

module _ (P : ℕ → ℕ → Type 0) where
  one_more : (h : List Note) (note : Note) → AllNoted P h → ((r : ℕ) → is_of r note ≡ true → P r (generation_of note)) → AllNoted P (h ++ note ∷ [])
  one_more h note all mine other r there is = elim (Contains-append_cases h (note ∷ []) other there) [
    | inl old ↦ all other r old is
    | inr new ↦ subst (λ (y : Note). is_of r y ≡ true → P r (generation_of y)) (only_note note other new) (mine r) is
  ]

  under : (k g r h j : ℕ) → P k g → (r == j) ≡ true → j ≡ k → h ≡ g → P r h
  under k g r h j p is range generation = subst (λ n. P n h) (sym (eqb-true r j is ∙ range)) (subst (P k) (sym generation) p)

  told_under : (k g : ℕ) (placed : List PlacedBytes) (seen : List Note) (n : TableNote) → NoteWithin k g placed n → P k g → (r : ℕ) → is_of r (told seen n) ≡ true → P r (generation_of (told seen n))
  told_under k g placed seen (tables.Began range generation number changes) within p r is = under k g r generation range p is within.0 within.1
  told_under k g placed seen (tables.Done range generation number) within p r is = under k g r generation range p is within.0 within.1
  told_under k g placed seen (tables.Loaded range generation table next) within p r is = under k g r generation range p is within.0 within.1
  told_under k g placed seen (tables.Got range generation key value) within p r is = absurd cc

  all_under : (k g : ℕ) (placed : List PlacedBytes) (shown : List TableNote) (seen : List Note) → NotesWithin k g placed shown → P k g → AllNoted P (table_notes seen) → AllNoted P (table_notes (noted seen shown))
  all_under k g placed [] seen within p all = all
  all_under k g placed (n ∷ shown) seen within p all =
      all_under k g placed shown (seen ++ told seen n ∷ []) within.1 p
      (subst (AllNoted P) (sym (told_last seen n)) (one_more (table_notes seen) (told seen n) all (told_under k g placed seen n within.0 p)))

  -- what an event adds is so where what servers hold is
  pub adds_noted : (x : ServerRun) (c : Cluster) (event : Event) (d : Cluster) → c.servers ≡ x.servers → AreHeld P c.servers → AllNoted P (notes_of c) → Adds x c event d → AllNoted P (notes_of d)
  adds_noted x c event d same held all (Quiet is) = subst (AllNoted P) (sym is) all
  adds_noted x c event d same held all (OfServers shown of is) = subst (λ h. AllNoted P (table_notes h)) (sym is) (by shown of)
    where
      by : (shown : List TableNote) → AreNoted x shown → AllNoted P (table_notes (noted c.stream_layer.notes shown))
      by shown Nothing = all
      by shown (OfOne told a) =
          all_under a.range a.held.load.generation a.placed shown c.stream_layer.notes a.notes
          (held a.server a.cell a.state (ap (λ l. entry_at l a.server) same ∙ a.there) a.up a.range a.held a.found) all
  adds_noted x c event d same held all (OfSplit number range low high key delivery split is) =
      subst (AllNoted P) (sym is) (one_more (notes_of c) (notes.Split range low high key) all (λ r e. absurd cc))
  adds_noted x c event d same held all (OfMerge left right into is) =
      subst (AllNoted P) (sym is) (one_more (notes_of c) (notes.Merged left right into) all (λ r e. absurd cc))

-- ---- splits that are shown

module _ (range low high : ℕ) (key : List ℕ) where
  abbrev split : Note
  split = notes.Split range low high key

  -- no server shows one
  none_told : (seen : List Note) (n : TableNote) → told seen n ≡ split → ⊥
  none_told seen (tables.Began k generation number changes) e = cc
  none_told seen (tables.Done k generation number) e = cc
  none_told seen (tables.Loaded k generation table next) e = cc
  none_told seen (tables.Got k generation key value) e = cc

  none_of_servers : (shown : List TableNote) (seen : List Note) → Contains (table_notes (noted seen shown)) split → Contains (table_notes seen) split
  none_of_servers [] seen there = there
  none_of_servers (n ∷ shown) seen there =
      elim (Contains-append_cases (table_notes seen) (told seen n ∷ []) split (subst (λ h. Contains h split) (told_last seen n) (none_of_servers shown (seen ++ told seen n ∷ []) there))) [
        | inl old ↦ old
        | inr new ↦ absurd (none_told seen n (only_note (told seen n) split new))
      ]

  -- the map did what it shows
  abbrev DoneBy : Cluster → MapState → Note → Type 0
  DoneBy c after (notes.Split k l h at) = CompletesSplit c after k l h at
  DoneBy c after note = Unit {0}

  -- a split that is shown then was shown before, or is done by the delivery that the event is
  pub adds_split : (x : ServerRun) (c : Cluster) (event : Event) (d : Cluster) → Adds x c event d → Contains (notes_of d) (notes.Split range low high key) →
      Contains (notes_of c) (notes.Split range low high key) ⊎ ((number : ℕ) × (event ≡ Deliver number) × CompletesSplit c d.map range low high key)
  adds_split x c event d (Quiet is) there = inl (subst (λ h. Contains h split) is there)
  adds_split x c event d (OfServers shown of is) there = inl (none_of_servers shown c.stream_layer.notes (subst (λ h. Contains (table_notes h) split) is there))
  adds_split x c event d (OfSplit number k l h at delivery done is) there = elim (Contains-append_cases (notes_of c) (notes.Split k l h at ∷ []) split (subst (λ y. Contains y split) is there)) [
    | inl old ↦ inl old
    | inr new ↦ inr (number, delivery, subst (DoneBy c d.map) (only_note (notes.Split k l h at) split new) done)
  ]
  adds_split x c event d (OfMerge left right into is) there = elim (Contains-append_cases (notes_of c) (notes.Merged left right into ∷ []) split (subst (λ y. Contains y split) is there)) [
    | inl old ↦ inl old
    | inr new ↦ absurd (let z : notes.Merged left right into ≡ notes.Split range low high key = only_note (notes.Merged left right into) split new in cc)
  ]
