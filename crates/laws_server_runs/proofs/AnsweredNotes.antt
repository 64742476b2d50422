-- What servers show of a range is of generations under which the map assigned it.
use Rattle.std.proofs.Common.{◌≡◌, ◌⊎◌, ⊎_elim, ◌<◌, ◌≤◌, ℕ, zero, suc, true, false, List, [], ◌∷◌, Some, Contains, refl, sym, ap, ◌∙◌, subst, inl, inr, arith}
use Rattle.std.proofs.lemmas.Bool.{eqb-true}
use Rattle.std.proofs.lemmas.List.Elements.{Contains-append_cases}
use Rattle.wire.specs.declared.note.Note.{Note}
use Rattle.wire.specs.declared.note.Note.TheVariants.{Acked, SealedAt, Content, Seen, Began, Done, Loaded, Got, Split, Merged}
use Rattle.model_partition.specs.declared.table_note.TableNote.{TableNote}
use Rattle.model_partition.specs.declared.table_note.TableNote.TheVariants as tables
use Rattle.model_partition.specs.Past.{Bytes}
use Rattle.model_histories.specs.Log.{is_of}
use Rattle.model_histories.specs.ServedTables.{IsSeenAs, AreSeenAs}
use Rattle.model_histories.specs.ServerRun.{ServerRun, ServerEvent, after_event, run_of}
use Rattle.model_histories.specs.StreamActions.{PlacedBytes}
use Rattle.laws_tables.specs.Families.{generation_of}
use Rattle.laws_server_runs.specs.Answerers.{AskedSplit, MapBook, sent_by}
use Rattle.laws_server_runs.specs.FamilyMembers.{of_servers}
use Rattle.laws_server_runs.specs.Places.{NoteWithin, NotesWithin}
use Rattle.laws_server_runs.specs.Turns.{outcome_of}
use Rattle.laws_server_runs.proofs.AnsweredServers.{range_named}
use Rattle.laws_server_runs.proofs.AnsweredBirths.{AllStand, now_stands}
use Rattle.laws_server_runs.proofs.AnsweredRuns.{Stand}
use Rattle.laws_server_runs.proofs.Fronts.{SeenBoth, seen_both}
use Rattle.laws_server_runs.proofs.LaidRuns.{all_laid, event_notes}
use Rattle.laws_server_runs.proofs.NotedRanges.{AreNoted, Nothing, OfOne, run_noted}
use Rattle.laws_server_runs.proofs.RunSteps.{IsAny, IsAnyPair, any_assigned, any_numbered, event_kind, event_step}
use Rattle.laws_server_runs.proofs.Unmerged.{unmerged}

-- the map may assign the range under this generation
pub record IsUnder (b : MapBook) (range generation : ℕ) : Type 0 where
  pub above : (split : AskedSplit) → b.given range ≡ Some split → split.generation < generation
  pub last : (g : ℕ) → b.last range ≡ Some g → generation ≤ g

-- ---- observations of servers among all

only_head : (x y : Note) (h : List Note) → Contains (x ∷ h) y → (x ≡ y) ⊎ Contains h y
only_head x y h (zero, less, is) = inl is
only_head x y h (suc k, less, is) = inr (k, omega (arith, less), is)

more : (x y : Note) (h : List Note) → Contains h y → Contains (x ∷ h) y
more x y h (k, less, is) = (suc k, omega (arith, less), is)

here : (x : Note) (h : List Note) → Contains (x ∷ h) x
here x h = (zero, omega arith, refl)

-- one of a range is a server's
module _ (r : ℕ) (note : Note) (is : is_of r note ≡ true) (h : List Note) (rest : Contains h note → Contains (of_servers h) note) where
  split_not : (p low high : ℕ) (key : List ℕ) → Split p low high key ≡ note → ⊥
  split_not p low high key e = absurd (let z : false ≡ true = ap (is_of r) e ∙ is in cc)

  merged_not : (left right into : ℕ) → Merged left right into ≡ note → ⊥
  merged_not left right into e = absurd (let z : false ≡ true = ap (is_of r) e ∙ is in cc)

  kept_in : (x : Note) → (x ≡ note) ⊎ Contains h note → Contains (x ∷ of_servers h) note
  kept_in x (inl same) = subst (λ z. Contains (x ∷ of_servers h) z) same (here x (of_servers h))
  kept_in x (inr later) = more x note (of_servers h) (rest later)

  one_more : (x : Note) → (x ≡ note) ⊎ Contains h note → Contains (of_servers (x ∷ h)) note
  one_more (Split p low high key) (inl same) = absurd (split_not p low high key same)
  one_more (Split p low high key) (inr later) = rest later
  one_more (Merged left right into) (inl same) = absurd (merged_not left right into same)
  one_more (Merged left right into) (inr later) = rest later
  one_more (Acked n o group) known = kept_in (Acked n o group) known
  one_more (SealedAt n l) known = kept_in (SealedAt n l) known
  one_more (Content n m groups) known = kept_in (Content n m groups) known
  one_more (Seen n m o bytes) known = kept_in (Seen n m o bytes) known
  one_more (Began other g s t) known = kept_in (Began other g s t) known
  one_more (Done other g s) known = kept_in (Done other g s) known
  one_more (Got other g key value) known = kept_in (Got other g key value) known
  one_more (Loaded other g shown next) known = kept_in (Loaded other g shown next) known

pub shown_by_servers : (r : ℕ) (note : Note) (h : List Note) → is_of r note ≡ true → Contains h note → Contains (of_servers h) note
shown_by_servers r note [] is (k, less, at) = absurd (omega (arith, less))
shown_by_servers r note (x ∷ h) is there = one_more r note is h (λ later. shown_by_servers r note h is later) x (only_head x note h there)

-- ---- what one step shows

module _ (texts : ℕ → Bytes) (placed : List PlacedBytes) (k g : ℕ) where
  one_under : (told : TableNote) (note : Note) → NoteWithin k g placed told → IsSeenAs texts told note → (r : ℕ) → is_of r note ≡ true → (r ≡ k) × (generation_of note ≡ g)
  one_under (tables.Began range generation number changes) note within seen r is = (eqb-true r range (sym (ap (is_of r) seen) ∙ is) ∙ within.0, ap generation_of seen ∙ within.1)
  one_under (tables.Done range generation number) note within seen r is = (eqb-true r range (sym (ap (is_of r) seen) ∙ is) ∙ within.0, ap generation_of seen ∙ within.1)
  one_under (tables.Got range generation key value) note within seen r is = absurd (let z : false ≡ true = sym (ap (is_of r) seen) ∙ is in cc)
  one_under (tables.Loaded range generation table next) note within seen r is = (eqb-true r range (sym (ap (is_of r) seen.1) ∙ is) ∙ within.0, ap generation_of seen.1 ∙ within.1)

  all_under : (told : List TableNote) (notes : List Note) → NotesWithin k g placed told → AreSeenAs texts told notes → (note : Note) → Contains notes note → (r : ℕ) → is_of r note ≡ true → (r ≡ k) × (generation_of note ≡ g)
  all_under [] [] within seen note (j, less, at) r is = absurd (omega (arith, less))
  all_under [] (x ∷ notes) within seen note there r is = absurd seen
  all_under (t ∷ told) [] within seen note there r is = absurd seen
  all_under (t ∷ told) (x ∷ notes) within seen note there r is = elim (only_head x note notes there) [
    | inl same ↦ subst (λ z. (r ≡ k) × (generation_of z ≡ g)) same (one_under t x within.0 seen.0 r (ap (is_of r) same ∙ is))
    | inr later ↦ all_under told notes within.1 seen.1 note later r is
  ]

-- ---- over a list of events

module _ (texts : ℕ → Bytes) (b : MapBook) (batch servers : ℕ) where
  noted_under : (events : List ServerEvent) → Stand texts b batch servers events → (shown : List TableNote) (notes : List Note) → AreNoted (run_of batch servers events) shown → AreSeenAs texts shown notes →
      (note : Note) → Contains notes note → (r : ℕ) → is_of r note ≡ true → IsUnder b r (generation_of note)
  noted_under events stand [] [] Nothing seen note (j, less, at) r is = absurd (omega (arith, less))
  noted_under events stand [] (x ∷ notes) Nothing seen note there r is = absurd seen
  noted_under events stand shown notes (OfOne told of) seen note there r is =
      let n = range_named b (sent_by batch servers events) of.server of.state (stand.names of.server of.cell of.state of.there of.up) of.range of.held of.found in
      let e : (r ≡ of.range) × (generation_of note ≡ of.held.load.generation) = all_under texts of.placed of.range of.held.load.generation shown notes of.notes seen note there r is in
      let g : n.generation ≡ generation_of note = sym n.under.1 ∙ sym e.1 in
      subst (λ k. IsUnder b k (generation_of note)) (sym e.0) (subst (IsUnder b of.range) g (record { above = n.known.above; last = n.known.last }))

  pub seen_under : (events : List ServerEvent) → AllStand texts b batch servers events → (notes : List Note) → AreSeenAs texts (run_of batch servers events).notes notes → (note : Note) → Contains notes note → (r : ℕ) → is_of r note ≡ true → IsUnder b r (generation_of note)
  seen_under [] all [] seen note (j, less, at) r is = absurd (omega (arith, less))
  seen_under [] all (x ∷ notes) seen note there r is = absurd seen
  seen_under (event ∷ earlier) all notes seen note there r is =
      let x : ServerRun = run_of batch servers earlier in
      let shown : List TableNote = (outcome_of x.servers event).notes in
      let both : SeenBoth texts x.notes shown notes = seen_both texts x.notes shown notes (subst (λ l. AreSeenAs texts l notes) (event_notes batch servers x event) seen) in
      let noted : AreNoted x shown =
      ⊎_elim {C = AreNoted x shown}
      (λ is. run_noted x (all_laid batch servers earlier) shown (after_event x event) (event_step IsAny IsAnyPair x (unmerged batch servers earlier) event is (any_assigned event) (any_numbered event)))
      (λ build. subst (λ e. AreNoted x (outcome_of x.servers e).notes) (sym build.2) Nothing) (event_kind event) in
      elim (Contains-append_cases both.before both.later note (subst (λ l. Contains l note) both.is there)) [
        | inl old ↦ seen_under earlier all.1 both.before both.first_seen note old r is
        | inr new ↦ noted_under earlier (now_stands texts b batch servers earlier all.1) shown both.later noted both.second_seen note new r is
      ]
