-- What the observations of a run show of an extent stands in its text.
use Rattle.std.proofs.Common.{◌≡◌, ℕ, zero, suc, ◌+◌, ◌≤◌, ◌<◌, List, [], ◌∷◌, ◌++◌, length, take, drop, Contains, refl, sym, ap, ◌∙◌, subst, arith, get_or, append-nil}
use Rattle.wire.specs.declared.note.Note.{Note}
use Rattle.wire.specs.declared.note.Note.TheVariants.{Acked, SealedAt, Content, Seen, Began, Done, Loaded, Got, Split, Merged}
use Rattle.replica.specs.Groups.{Group, joined, text}
use Rattle.replica.proofs.Lengths.{text-append}
use Rattle.model_streams.specs.Honest.{Stands}
use Rattle.model_streams.specs.StreamSystem.{StreamSystem, Move, run_moves, start}
use Rattle.model_partition.specs.Past.{Bytes}
use Rattle.laws_streams.specs.Origins.{Begins, Shows as ShowsBytes}
use Rattle.laws_streams.proofs.ContentAnswers.{content_answered}
use Rattle.model_histories.specs.TableContents.{StandsAt}
use Rattle.laws_loads.proofs.Cells.{length_both}
use Rattle.model_histories.specs.TableContents.{TellsRightly, AllTellRightly}

-- ---- groups and bytes that stand in a text

stands_of : (groups : List Group) (o : ℕ) (group : Group) → Stands group o groups → StandsAt (text groups) o (joined group)
stands_of groups o group s = record {
  before = text s.before;
  behind = text s.after;
  is = ap text s.split ∙ text-append s.before (group ∷ s.after);
  at = s.place;
}

begins_of : (xs ys : List Group) → Begins xs ys → StandsAt (text ys) 0 (text xs)
begins_of xs ys b = record { before = []; behind = text b.rest; is = ap text b.is ∙ text-append xs b.rest; at = refl }

split_at : (n : ℕ) (xs : Bytes) → xs ≡ take n xs ++ drop n xs
split_at zero xs = refl
split_at (suc n) [] = refl
split_at (suc n) (x ∷ xs) = ap (λ l. x ∷ l) (split_at n xs)

taken_length : (n : ℕ) (xs : Bytes) → n ≤ length xs → length (take n xs) ≡ n
taken_length zero xs l = refl
taken_length (suc n) [] l = absurd (omega arith)
taken_length (suc n) (x ∷ xs) l = ap suc (taken_length n xs (omega arith))

dropped_get : (n i : ℕ) (xs : Bytes) → get_or (drop n xs) i 0 ≡ get_or xs (n + i) 0
dropped_get zero i xs = ap (λ k. get_or xs k 0) {x = i} {y = 0 + i} (omega arith)
dropped_get (suc n) i [] = refl
dropped_get (suc n) i (x ∷ xs) = dropped_get n i xs ∙ ap (λ k. get_or (x ∷ xs) k 0) {x = suc (n + i)} {y = suc n + i} (omega arith)

-- bytes that are read off one by one begin the text
same_bytes : (bytes whole : Bytes) → length bytes ≤ length whole → ((i : ℕ) → i < length bytes → get_or bytes i 0 ≡ get_or whole i 0) → (rest : Bytes) × (whole ≡ bytes ++ rest)
same_bytes [] whole l same = (whole, refl)
same_bytes (b ∷ bytes) [] l same = absurd (omega arith)
same_bytes (b ∷ bytes) (w ∷ whole) l same =
    let first : b ≡ w = same 0 (omega arith) in
    let others = same_bytes bytes whole (omega arith) (λ i less. same (suc i) (omega arith)) in
    (others.0, (λ i. sym first i ∷ others.1 i))

shows_of : (o : ℕ) (bytes whole : Bytes) → ShowsBytes o bytes whole → StandsAt whole o bytes
shows_of o bytes whole s =
    let fits : o + length bytes ≤ length whole = s.fits in
    let parts : length (take o whole) + length (drop o whole) ≡ length whole = sym (length_both (take o whole) (drop o whole)) ∙ ap length (sym (split_at o whole)) in
    let at : length (take o whole) ≡ o = taken_length o whole (omega arith) in
    let begun = same_bytes bytes (drop o whole) (omega arith) (λ i less. s.reads i less ∙ sym (dropped_get o i whole)) in
    record { before = take o whole; behind = begun.0; is = split_at o whole ∙ ap (λ l. take o whole ++ l) begun.1; at = at }

-- ---- all observations

abbrev pub TellsAll : (ℕ → Bytes) → List Note → Type 0
TellsAll texts notes = (note : Note) → Contains notes note → TellsRightly texts note

pub all_tell : (texts : ℕ → Bytes) (notes : List Note) → TellsAll texts notes → AllTellRightly texts notes
all_tell texts [] each = tt
all_tell texts (note ∷ notes) each =
    (each note (0, omega arith, refl), all_tell texts notes (λ x c. each x (suc c.0, (let b : c.0 < length notes = c.1 in omega arith), c.2)))

module _ (nodes target : ℕ) (moves : List Move) where
  abbrev system : StreamSystem
  system = run_moves moves (start nodes target)

  -- the groups of each extent, one after the other
  abbrev pub script : ℕ → List Group
  script = (content_answered nodes target moves []).fences.origins.script

  abbrev pub texts : ℕ → Bytes
  texts e = text (script e)

  known_all : moves ++ [] ≡ moves
  known_all = append-nil moves

  tells : TellsAll texts system.notes
  tells note c = go note (subst (λ m. Contains (run_moves m (start nodes target)).notes note) (sym known_all) c)
    where
      go : (note : Note) → Contains (run_moves (moves ++ []) (start nodes target)).notes note → TellsRightly texts note
      go (Acked e offset group) c = stands_of _ offset group ((content_answered nodes target moves []).fences.origins.acked e offset group c)
      go (Content e n groups) c = begins_of groups _ ((content_answered nodes target moves []).fences.origins.content e n groups c)
      go (Seen e n offset bytes) c = shows_of offset bytes _ ((content_answered nodes target moves []).fences.origins.seen e n offset bytes c)
      go (SealedAt e l) c = tt
      go (Began range generation number changes) c = tt
      go (Done range generation number) c = tt
      go (Got range generation key value) c = tt
      go (Loaded range generation rows next) c = tt
      go (Split range low high key) c = tt
      go (Merged left right range) c = tt

  -- all observations of extents tell what stands there
  pub all_right : AllTellRightly texts system.notes
  all_right = all_tell texts system.notes tells
