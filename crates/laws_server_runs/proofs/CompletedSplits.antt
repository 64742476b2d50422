-- A range that a split makes came of the range that was split, once the split waits for its end: what the law of families wants of the two
-- is so then, and at each moment since, but for what the map alone says of them.
use Rattle.std.proofs.Common.{◌≡◌, ℕ, ◌<◌, ◌≤◌, true, List, [], ◌∷◌, ◌++◌, Some, refl, sym, ap, ◌∙◌, subst, inl, inr}
use Rattle.std.specs.Prelude.{Contains}
use Rattle.wire.specs.declared.note.Note.{Note}
use Rattle.wire.specs.declared.note.Note.TheVariants.{Acked, SealedAt, Content, Seen, Began, Done, Loaded, Got, Split, Merged}
use Rattle.metadata.specs.declared.record.KeyRange.{KeyRange}
use Rattle.metadata.specs.Fold.{MetadataState}
use Rattle.model_partition.specs.declared.split_job.Side.{Side}
use Rattle.model_partition.specs.declared.split_job.Side.TheVariants.{Low, High}
use Rattle.model_partition.specs.Loading.{Group}
use Rattle.model_partition.specs.Past.{Bytes}
use Rattle.model_partition.specs.Server.{range_of, split_of}
use Rattle.model_partition.specs.Splits.{side_keys, side_range}
use Rattle.model_histories.specs.Log.{is_of, only}
use Rattle.model_histories.specs.ServedTables.{AreSeenAs}
use Rattle.model_histories.specs.ServerRun.{ServerRun, ServerEvent, Builds, log_name, run_of}
use Rattle.model_histories.specs.Story.{Placed, Showed, event_at}
use Rattle.laws_tables.specs.Families.{IsChild, IsNamed, generation_of}
use Rattle.laws_tables.specs.Runs.{first_beginning, held, said}
use Rattle.laws_server_runs.specs.BornRanges.{AllInOrder}
use Rattle.laws_server_runs.specs.ChildInvariant.{IsCompleting, ChildAt, IsBuiltBy, AreBornSo, ChildKept}
use Rattle.laws_server_runs.specs.FamilyMembers.{of_servers, IsMember, IsHalf, NamesOwn, CameOf}
use Rattle.laws_server_runs.specs.StoodRanges.{plan_of, AsksBuild, StoodAt}
use Rattle.laws_server_runs.proofs.ChildStands.{StandsNow, child_stands}
use Rattle.laws_server_runs.proofs.ChildTheorem.{AreOther, all_children, all_members, born_early, now_children}
use Rattle.laws_server_runs.proofs.FamilyMembers.{only_of_servers}
use Rattle.laws_server_runs.proofs.Fronts.{SeenBoth, seen_both}
use Rattle.laws_server_runs.proofs.NamesBehind.{own_names}
use Rattle.laws_server_runs.proofs.SplitsBack.{SplitThen, split_then}
use Rattle.laws_server_runs.proofs.StoodRanges.{stood_after, built_once}

-- ---- observations

cons_parts : (a b : Note) (xs ys : List Note) → a ∷ xs ≡ b ∷ ys → (a ≡ b) × (xs ≡ ys)
cons_parts a b xs ys e = (cc, cc)

-- where those of servers part, all part
record PartsOf (h first second : List Note) : Type 0 where
  before : List Note
  after : List Note
  is : h ≡ before ++ after
  first_is : of_servers before ≡ first

one_more : (note : Note) (h first second : List Note) → ((l : List Note) → of_servers (note ∷ l) ≡ of_servers l) → PartsOf h first second → PartsOf (note ∷ h) first second
one_more note h first second skips p = record { before = note ∷ p.before; after = p.after; is = ap (λ l. note ∷ l) p.is; first_is = skips p.before ∙ p.first_is }

one_shown : (note x : Note) (h first second : List Note) → ((l : List Note) → of_servers (note ∷ l) ≡ note ∷ of_servers l) → note ≡ x → PartsOf h first second → PartsOf (note ∷ h) (x ∷ first) second
one_shown note x h first second shows same p = record { before = note ∷ p.before; after = p.after; is = ap (λ l. note ∷ l) p.is; first_is = shows p.before ∙ (λ i. same i ∷ p.first_is i) }

parts_of : (h first second : List Note) → of_servers h ≡ first ++ second → PartsOf h first second
parts_of h [] second e = record { before = []; after = h; is = refl; first_is = refl }
parts_of [] (x ∷ first) second e = absurd cc
parts_of (Split parent low high key ∷ h) (x ∷ first) second e = one_more (Split parent low high key) h (x ∷ first) second (λ l. refl) (parts_of h (x ∷ first) second e)
parts_of (Merged left right into ∷ h) (x ∷ first) second e = one_more (Merged left right into) h (x ∷ first) second (λ l. refl) (parts_of h (x ∷ first) second e)
parts_of (Acked n o group ∷ h) (x ∷ first) second e = let c = cons_parts (Acked n o group) x (of_servers h) (first ++ second) e in one_shown (Acked n o group) x h first second (λ l. refl) c.0 (parts_of h first second c.1)
parts_of (SealedAt n l ∷ h) (x ∷ first) second e = let c = cons_parts (SealedAt n l) x (of_servers h) (first ++ second) e in one_shown (SealedAt n l) x h first second (λ l. refl) c.0 (parts_of h first second c.1)
parts_of (Content n m groups ∷ h) (x ∷ first) second e = let c = cons_parts (Content n m groups) x (of_servers h) (first ++ second) e in one_shown (Content n m groups) x h first second (λ l. refl) c.0 (parts_of h first second c.1)
parts_of (Seen n m o bytes ∷ h) (x ∷ first) second e = let c = cons_parts (Seen n m o bytes) x (of_servers h) (first ++ second) e in one_shown (Seen n m o bytes) x h first second (λ l. refl) c.0 (parts_of h first second c.1)
parts_of (Began other g s t ∷ h) (x ∷ first) second e = let c = cons_parts (Began other g s t) x (of_servers h) (first ++ second) e in one_shown (Began other g s t) x h first second (λ l. refl) c.0 (parts_of h first second c.1)
parts_of (Done other g s ∷ h) (x ∷ first) second e = let c = cons_parts (Done other g s) x (of_servers h) (first ++ second) e in one_shown (Done other g s) x h first second (λ l. refl) c.0 (parts_of h first second c.1)
parts_of (Got other g key value ∷ h) (x ∷ first) second e = let c = cons_parts (Got other g key value) x (of_servers h) (first ++ second) e in one_shown (Got other g key value) x h first second (λ l. refl) c.0 (parts_of h first second c.1)
parts_of (Loaded other g shown next ∷ h) (x ∷ first) second e =
    let c = cons_parts (Loaded other g shown next) x (of_servers h) (first ++ second) e in one_shown (Loaded other g shown next) x h first second (λ l. refl) c.0 (parts_of h first second c.1)

-- ---- a split that waits for its end

module _ (texts : ℕ → Bytes) (batch servers source n : ℕ) (early late after : List ServerEvent) where
  -- the events until then, and all
  abbrev until : List ServerEvent
  until = late ++ Builds source n ∷ early

  abbrev events : List ServerEvent
  events = after ++ (late ++ Builds source n ∷ early)

  abbrev x : ServerRun
  x = run_of batch servers events

  module _ (born : AreBornSo texts batch servers events) (order : AllInOrder texts batch servers events) (s k : ℕ) (c : ChildAt (run_of batch servers (late ++ Builds source n ∷ early)) s k n) (waits : IsCompleting c.job.phase) where
    born_until : AreBornSo texts batch servers until
    born_until = born_early texts batch servers after until born

    pub was : SplitThen texts batch servers s k n source (run_of batch servers early) (run_of batch servers until) c
    was = split_then texts batch servers s k n late early source born_until c

    -- it is a split of the source
    pub of_source : k ≡ source
    of_source = was.of_source

    -- which asked for the streams when they were built
    abbrev asks : AsksBuild (run_of batch servers early) source n
    asks = record {
      server = s;
      cell = was.child.cell;
      state = was.child.state;
      there = was.child.there;
      runs = was.child.runs;
      range = was.range;
      held = subst (λ m. range_of was.child.state.ranges m ≡ Some was.range) was.of_source was.held;
      job = was.child.job;
      found = subst (λ m. split_of was.child.state.splits m ≡ Some was.child.job) was.of_source was.child.found;
      building = was.waits;
      side = was.child.side;
      is = was.child.is;
    }

    abbrev kept : (m : ℕ) → ChildKept texts (IsBuiltBy events) m x
    kept m = all_children texts batch servers events born order m

    pub stood : StoodAt texts source n (run_of batch servers early) was.child.job.generation (plan_of was.range was.child.job) (kept source).taken (kept source).kept.run (kept n).taken.run x
    stood = stood_after texts source n batch servers early asks after late born order

    once : AreOther texts n after
    once = built_once texts source n batch servers early asks after late born order

    now : StandsNow texts batch servers after until born order s k n c
    now = child_stands texts batch servers after until born order s k n c waits once

    -- the keys of the range
    abbrev keys : KeyRange
    keys = side_keys now.range.said.keys c.job.key c.side

    same_generation : c.job.generation ≡ was.child.job.generation
    same_generation = was.same.generation

    abbrev g : ℕ
    g = was.child.job.generation

    -- the keys that the source had
    whole_is : (said first_beginning (held first_beginning stood.old.run g).records).keys ≡ now.range.said.keys
    whole_is =
        ap (λ z. (said first_beginning (held first_beginning z g).records).keys) (sym stood.took) ∙ ap (λ i. (said first_beginning (held first_beginning (kept n).taken.run i).records).keys) (sym same_generation)
        ∙ ap (λ (m : MetadataState). m.keys) (sym now.stands.1.began.says)

    named : IsNamed g keys (kept n).kept.run
    named = subst (λ i. IsNamed i keys (kept n).kept.run) same_generation now.stands.0

    alone : NamesOwn g keys (kept n).kept.behind.0
    alone = subst (λ i. NamesOwn i keys (kept n).kept.behind.0) same_generation (own_names (kept n).taken.run (kept n).kept.run c.job.generation now.range.said keys now.stands.1 (kept n).kept.behind)

    -- ---- what is told

    module _ (h : List Note) (seen : AreSeenAs texts x.notes (of_servers h)) where
      both : SeenBoth texts (run_of batch servers early).notes stood.notes.0 (of_servers h)
      both = seen_both texts (run_of batch servers early).notes stood.notes.0 (of_servers h) (subst (λ l. AreSeenAs texts l (of_servers h)) stood.notes.1 seen)

      parts : PartsOf h both.before both.later
      parts = parts_of h both.before both.later both.is

      told : AreSeenAs texts (run_of batch servers early).notes (of_servers parts.before)
      told = subst (AreSeenAs texts (run_of batch servers early).notes) (sym parts.first_is) both.first_seen

      untold : only n parts.before ≡ []
      untold = sym (only_of_servers n parts.before) ∙ stood.untold (of_servers parts.before) told

      abbrev member : (m : ℕ) → IsMember texts x m
      member m = all_members texts batch servers events born order m

      -- where the map says that this split made it
      module _ (child : IsChild h source n) (low : child.low ≡ c.job.low) (high : child.high ≡ c.job.high) (key : child.key ≡ c.job.key) where
        apart : child.high ≡ child.low → ⊥
        apart e = (now_children texts batch servers until born_until).apart s k n c (sym low ∙ sym e ∙ high)

        half : (whole : KeyRange) → whole ≡ now.range.said.keys → IsHalf texts x h member n child.low child.high child.key whole keys
        half whole same = by c.side c.is
          where
            by : (side : Side) → n ≡ side_range c.job side → IsHalf texts x h member n child.low child.high child.key whole (side_keys now.range.said.keys c.job.key side)
            by Low is = inl (is ∙ sym low, (λ i. record { low = (sym same i).low; high = Some (sym key i) }))
            by High is = inr (is ∙ sym high, apart, (λ i. record { low = sym key i; high = (sym same i).high }))

        -- IT CAME OF THE SOURCE, where the map's generations are so, and the loads of both are of the same copies
        pub came_of : ((note : Note) → Contains h note → is_of source note ≡ true → generation_of note ≤ c.job.generation) → ((note : Note) → Contains h note → is_of n note ≡ true → c.job.generation < generation_of note) →
            ((l i start end : ℕ) (groups : List (Placed Group)) → event_at ((run_of batch servers early).story (log_name source)) l ≡ Some (Showed i start end groups) → (order n).log.copies l ≡ (order source).log.copies l) → CameOf texts x h member source n
        came_of highest above shared = record {
          child = child;
          moment = run_of batch servers early;
          old = stood.old;
          goes = stood.goes;
          took = stood.took;
          before = parts.before;
          after = parts.after;
          is = parts.is;
          told = told;
          untold = untold;
          generation = g;
          loaded = stood.loaded;
          nothing_out = stood.nothing_out;
          formed = stood.formed;
          highest = λ note inside is. subst (λ i. generation_of note ≤ i) same_generation (highest note inside is);
          above = λ note inside is. subst (λ i. i < generation_of note) same_generation (above note inside is);
          shared = shared;
          keys = keys;
          half = half (said first_beginning (held first_beginning stood.old.run g).records).keys whole_is;
          named = named;
          own_names = alone;
        }
