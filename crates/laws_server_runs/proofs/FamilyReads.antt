-- What is so of an answered Get at a moment of a run of servers is what the law of families wants of it: so all that is loaded replays, and each
-- answered Get is served.
use Rattle.std.proofs.Common.{◌≡◌, ⊎_elim, ℕ, ◌≤◌, ◌==◌, true, List, [], ◌∷◌, ◌++◌, map, Option, sym, ap, ◌∙◌, subst, inl, inr, arith}
use Rattle.std.specs.Prelude.{Contains}
use Rattle.std.proofs.lemmas.Bool.Decides.{nat_tests}
use Rattle.wire.specs.declared.note.Note.{Note}
use Rattle.wire.specs.declared.note.Note.TheVariants.{Acked, SealedAt, Content, Seen, Began, Done, Loaded, Got, Split, Merged}
use Rattle.wire.specs.declared.rows.Row.{Row}
use Rattle.model_histories.specs.Log.{is_of, only}
use Rattle.model_histories.specs.Renaming.{renamed, renamed_copy, decoded}
use Rattle.model_histories.specs.ServedTables.{AreSeenAs, line_to}
use Rattle.model_histories.specs.ServerRun.{ServerRun, log_name}
use Rattle.model_histories.specs.Story.{whole}
use Rattle.model_histories.specs.StreamMachine.{In}
use Rattle.model_partition.specs.Loading.{Group}
use Rattle.model_partition.specs.Past.{Bytes, Transaction, after_line, empty_table, kept, keys_of, kin}
use Rattle.commitlog.specs.Replay.{Numbered}
use Rattle.laws_tables.specs.Families.{IsFamily, IsToldIn, generation_of}
use Rattle.laws_tables.specs.Reads.{IsRead, whole_log, ReplaysAndServes}
use Rattle.laws_tables.specs.Runs.{Run, log_of, first_beginning, seen}
use Rattle.laws_tables.proofs.FamilyRuns.{families_serve}
use Rattle.laws_tables.proofs.Members.{in_contains, contains_in}
use Rattle.laws_tables.proofs.Observed.{in_only, to_only}
use Rattle.laws_checkpoints.specs.IndexLayers.{layer_at}
use Rattle.laws_server_runs.specs.FamilyMembers.{of_servers, IsMember, AllCame}
use Rattle.laws_server_runs.specs.RangeInvariant.{IsLonger}
use Rattle.laws_server_runs.specs.RunInvariant.{HasLoad, RunBehind}
use Rattle.laws_server_runs.proofs.FamilyLoads.{own_told, noted_loaded}
use Rattle.laws_server_runs.proofs.FamilyMembers.{only_of_servers, of_servers_both, rows_of, counted, family}
use Rattle.laws_server_runs.proofs.FamilyParents.{own_parts, moment_told, moment_loaded}
use Rattle.laws_server_runs.proofs.FamilyRanges.{log_order}
use Rattle.laws_server_runs.proofs.HeldLine.{whole_renamed}

-- an observation of servers is one of all
in_servers : (note : Note) (l : List Note) → In note (of_servers l) → In note l
in_servers note [] there = there
in_servers note (Split parent low high key ∷ l) there = inr (in_servers note l there)
in_servers note (Merged left right into ∷ l) there = inr (in_servers note l there)
in_servers note (Acked e o group ∷ l) there = ⊎_elim {C = In note (Acked e o group ∷ l)} (λ e. inl e) (λ t. inr (in_servers note l t)) there
in_servers note (SealedAt e k ∷ l) there = ⊎_elim {C = In note (SealedAt e k ∷ l)} (λ e. inl e) (λ t. inr (in_servers note l t)) there
in_servers note (Content e n groups ∷ l) there = ⊎_elim {C = In note (Content e n groups ∷ l)} (λ e. inl e) (λ t. inr (in_servers note l t)) there
in_servers note (Seen e n o bytes ∷ l) there = ⊎_elim {C = In note (Seen e n o bytes ∷ l)} (λ e. inl e) (λ t. inr (in_servers note l t)) there
in_servers note (Began other g s t ∷ l) there = ⊎_elim {C = In note (Began other g s t ∷ l)} (λ e. inl e) (λ t. inr (in_servers note l t)) there
in_servers note (Done other g s ∷ l) there = ⊎_elim {C = In note (Done other g s ∷ l)} (λ e. inl e) (λ t. inr (in_servers note l t)) there
in_servers note (Got other g key value ∷ l) there = ⊎_elim {C = In note (Got other g key value ∷ l)} (λ e. inl e) (λ t. inr (in_servers note l t)) there
in_servers note (Loaded other g shown next ∷ l) there = ⊎_elim {C = In note (Loaded other g shown next ∷ l)} (λ e. inl e) (λ t. inr (in_servers note l t)) there

module _ (texts : ℕ → Bytes) (x : ServerRun) (h : List Note) (member : (r : ℕ) → IsMember texts x r) where
  -- A Get of a range, answered after these observations, at a moment of the run: what is kept of the range then, which its run goes on from; what
  -- was told then, which the observations are but for what is of no range; and what was so of the range and of the Get.
  pub record WasRead (before : List Note) (r g : ℕ) (key : Bytes) (value : Option Bytes) : Type 0 where
    pub moment : ServerRun
    pub old : RunBehind texts r (member r).taken moment
    pub goes : IsLonger old.run (member r).kept.run
    pub first : List Note
    pub rest : List Note
    pub is : h ≡ first ++ rest
    pub told : AreSeenAs texts moment.notes (of_servers first)
    pub same : (k : ℕ) → only k before ≡ only k first
    pub loaded : HasLoad g old.behind.0
    pub highest : (note : Note) → Contains first note → is_of r note ≡ true → generation_of note ≤ g
    pub alone : (k : ℕ) → Contains (kin h k) r → (k ≡ r → ⊥) → only k first ≡ []
    pub shows : value ≡ kept (keys_of h r) (after_line (line_to (renamed decoded (whole Group (member r).order.log.copies (moment.story (log_name r)))) g) empty_table) key

  -- each is
  abbrev pub WereRead : Type 0
  WereRead = (before after : List Note) (r g : ℕ) (key : Bytes) (value : Option Bytes) → h ≡ before ++ Got r g key value ∷ after → WasRead before r g key value

  module _ (seen_as : AreSeenAs texts x.notes (of_servers h)) (came : AllCame texts x h member) where
    abbrev all : IsFamily (layer_at texts) h
    all = family texts x h seen_as member came

    self : (r : ℕ) → (r == r) ≡ true
    self r = grind (arith, nat_tests)

    -- a load that was confirmed behind what was taken is observed,
    pub member_told : (r g : ℕ) → HasLoad g (member r).kept.behind.0 → (shown : List Row) × (next : ℕ) × Contains h (Loaded r g shown next)
    member_told r g load = own_told (layer_at texts) h all r g load

    -- and each observation of a range is under a generation that it was loaded under
    pub member_noted : (r : ℕ) (note : Note) → Contains h note → is_of r note ≡ true → (shown : List Row) × (next : ℕ) × Contains h (Loaded r (generation_of note) shown next)
    member_noted r note there is = noted_loaded (layer_at texts) h all r note there is

    module _ (before : List Note) (r g : ℕ) (key : Bytes) (value : Option Bytes) (w : WasRead before r g key value) where
      abbrev rows : ℕ → List Row
      rows = rows_of texts x h seen_as member r

      abbrev taken : Run
      taken = (member r).taken.run

      parted : of_servers h ≡ of_servers w.first ++ of_servers w.rest
      parted = ap of_servers w.is ∙ of_servers_both w.first w.rest

      part_told : IsToldIn before rows r taken (w.old.behind.0 ++ taken)
      part_told =
          subst (λ z. seen first_beginning rows r z ≡ seen first_beginning rows r taken ++ only r before) w.old.behind.1
          (moment_told texts r (member r).taken x (member r).kept (of_servers h) seen_as (counted texts x h seen_as member r) w.moment w.old w.goes (of_servers w.first) (of_servers w.rest) parted w.told
          ∙ ap (λ z. seen first_beginning rows r taken ++ z) (only_of_servers r w.first ∙ sym (w.same r)))

      -- what is of a range was told then
      told_then : (note : Note) → is_of r note ≡ true → In note before → In note w.first
      told_then note is there = in_only r note w.first (subst (In note) (w.same r) (to_only r note before is there))

      part_loaded : (shown : List Row) × (next : ℕ) × Contains before (Loaded r g shown next)
      part_loaded =
          let l : (shown : List Row) × (next : ℕ) × Contains (of_servers w.first) (Loaded r g shown next) =
          moment_loaded texts r (member r).taken x (member r).kept (of_servers h) seen_as (counted texts x h seen_as member r) w.moment w.old w.goes (of_servers w.first) (of_servers w.rest) parted w.told g w.loaded in
          let load : Note = Loaded r g l.0 l.1 in
          let there : In load (only r w.first) = to_only r load w.first (self r) (in_servers load w.first (in_contains load (of_servers w.first) l.2)) in
          (l.0, l.1, contains_in load before (in_only r load before (subst (In load) (sym (w.same r)) there)))

      -- the log as the part has it
      log_is : whole_log (layer_at texts) h all r (w.old.behind.0 ++ taken) ≡ renamed decoded (whole Group (member r).order.log.copies (w.moment.story (log_name r)))
      log_is =
          (λ i. whole (Numbered Transaction) ((log_order texts r (member r).taken x (member r).kept (of_servers h) seen_as (counted texts x h seen_as member r) (member r).order).1 i) (log_of (sym w.old.behind.1 i)))
          ∙ ap (whole (Numbered Transaction) (λ l. map (renamed_copy decoded) ((member r).order.log.copies l))) w.old.streams.log
          ∙ whole_renamed decoded (member r).order.log.copies (w.moment.story (log_name r))

      pub is_read : IsRead (layer_at texts) h all before r g key value
      is_read = record {
        early = w.old.behind.0;
        late = w.goes.0;
        parts = own_parts texts r (member r).taken x (member r).kept (of_servers h) seen_as (counted texts x h seen_as member r) w.moment w.old w.goes (of_servers w.first) (of_servers w.rest) parted w.told;
        told = part_told;
        loaded = part_loaded;
        highest = λ note there is. w.highest note (contains_in note w.first (told_then note is (in_contains note before there))) is;
        alone = λ k kin apart. w.same k ∙ w.alone k kin apart;
        shows = w.shows ∙ ap (λ z. kept (keys_of h r) (after_line (line_to z g) empty_table) key) (sym log_is);
      }

    -- SO ALL REPLAYS, AND EACH ANSWERED GET IS SERVED
    pub members_serve : WereRead → ReplaysAndServes h
    members_serve were = families_serve (layer_at texts) h all (λ before after r g key value e. is_read before r g key value (were before after r g key value e))
