-- The ranges of a run of servers are a family, where each of which anything is told is the first or came of another: so what is told replays.
use Rattle.std.proofs.Common.{◌≡◌, ◌⊎◌, ⊎_elim, ℕ, zero, suc, ◌<◌, ◌==◌, true, List, [], ◌∷◌, ◌++◌, length, map, Some, refl, sym, ap, ◌∙◌, subst, inl, inr, arith, append-nil, append_assoc, if◌then◌else◌}
use Rattle.std.specs.Prelude.{Contains}
use Rattle.std.proofs.lemmas.Bool.Decides.{nat_tests}
use Rattle.std.proofs.lemmas.List.{append_cancel_left, append_cancel_right}
use Rattle.wire.specs.declared.note.Note.{Note}
use Rattle.wire.specs.declared.note.Note.TheVariants.{Acked, SealedAt, Content, Seen, Began, Done, Loaded, Got, Split, Merged}
use Rattle.wire.specs.declared.rows.Row.{Row}
use Rattle.metadata.specs.declared.record.KeyRange.{KeyRange}
use Rattle.metadata.specs.Fold.{MetadataState, all_keys}
use Rattle.model_histories.specs.Log.{only}
use Rattle.model_histories.specs.Renaming.{renamed, renamed_copy, decoded}
use Rattle.model_partition.specs.Range.{RangeState}
use Rattle.model_partition.specs.Server.{split_of}
use Rattle.model_histories.specs.ServedTables.{AreSeenAs, ServesAt}
use Rattle.model_histories.specs.ServerRun.{ServerRun, log_name}
use Rattle.model_histories.specs.Story.{Made, Showed, event_at, placed}
use Rattle.model_histories.specs.StreamMachine.{In}
use Rattle.model_partition.specs.Past.{Bytes, Replays, keys_of}
use Rattle.laws_tables.specs.Families.{HasKeys, IsNamed, LoadsAbove, IsToldIn, IsRange, IsFirst, HasParent, IsFamily}
use Rattle.laws_tables.specs.Runs.{Forms, Logged, Notes, Records, Recorded, Trims, Confirms, Run, log_of, first_beginning, held, said, seen, IsChainRun, KeepsKeys}
use Rattle.laws_tables.specs.Through.{IsAnswered}
use Rattle.laws_tables.proofs.Births.{smaller, low_keys, high_keys, unborn_keys}
use Rattle.laws_tables.proofs.FamilyKeys.{named_keys}
use Rattle.laws_tables.proofs.FamilyRuns.{families_replay}
use Rattle.laws_tables.proofs.Final.{first_keys}
use Rattle.laws_tables.proofs.Members.{in_contains, contains_in, in_middle}
use Rattle.laws_checkpoints.specs.IndexLayers.{layer_at}
use Rattle.laws_loads.proofs.Renaming.{showed_from}
use Rattle.laws_server_runs.specs.FamilyMembers.{of_servers, IsMember, IsEldest, IsHalf, CameOf, AllCame}
use Rattle.laws_server_runs.specs.RangeInvariant.{IsLonger}
use Rattle.laws_server_runs.specs.RunInvariant.{view_at, with_stage, HeldKept, HasLoad, RunBehind}
use Rattle.laws_server_runs.proofs.ConfirmedLoads.{has_behind}
use Rattle.laws_server_runs.proofs.FamilyParents.{only_in, ShowsLoad, load_seen, own_parts, moment_told, moment_loaded, moment_answered}
use Rattle.laws_server_runs.proofs.FamilyRanges.{seen_length, rows, own, log_order, family_range}
use Rattle.laws_server_runs.proofs.HeldKeys.{held_keys}
use Rattle.laws_server_runs.proofs.NamedKeys.{NamesThese, NamesBelow, own_these, own_below, own_no_other, kept_these, kept_below, these_behind, below_behind}
use Rattle.laws_server_runs.proofs.ServedNotes.{serves_of}
use Rattle.laws_server_runs.proofs.Steps.{kept_at}

-- ---- observations of servers

-- of a range they are all
pub only_of_servers : (range : ℕ) (h : List Note) → only range (of_servers h) ≡ only range h
only_of_servers range [] = refl
only_of_servers range (Split parent low high key ∷ h) = only_of_servers range h
only_of_servers range (Merged left right into ∷ h) = only_of_servers range h
only_of_servers range (Acked e o group ∷ h) = only_of_servers range h
only_of_servers range (SealedAt e l ∷ h) = only_of_servers range h
only_of_servers range (Got other g key value ∷ h) = only_of_servers range h
only_of_servers range (Content e n groups ∷ h) = only_of_servers range h
only_of_servers range (Seen e n o bytes ∷ h) = only_of_servers range h
only_of_servers range (Began other g s t ∷ h) = ap (λ l. if range == other then Began other g s t ∷ l else l) (only_of_servers range h)
only_of_servers range (Done other g s ∷ h) = ap (λ l. if range == other then Done other g s ∷ l else l) (only_of_servers range h)
only_of_servers range (Loaded other g shown next ∷ h) = ap (λ l. if range == other then Loaded other g shown next ∷ l else l) (only_of_servers range h)

pub of_servers_both : (xs ys : List Note) → of_servers (xs ++ ys) ≡ of_servers xs ++ of_servers ys
of_servers_both [] ys = refl
of_servers_both (Split parent low high key ∷ xs) ys = of_servers_both xs ys
of_servers_both (Merged left right into ∷ xs) ys = of_servers_both xs ys
of_servers_both (Acked e o group ∷ xs) ys = ap (λ l. Acked e o group ∷ l) (of_servers_both xs ys)
of_servers_both (SealedAt e l ∷ xs) ys = ap (λ z. SealedAt e l ∷ z) (of_servers_both xs ys)
of_servers_both (Content e n groups ∷ xs) ys = ap (λ l. Content e n groups ∷ l) (of_servers_both xs ys)
of_servers_both (Seen e n o bytes ∷ xs) ys = ap (λ l. Seen e n o bytes ∷ l) (of_servers_both xs ys)
of_servers_both (Began other g s t ∷ xs) ys = ap (λ l. Began other g s t ∷ l) (of_servers_both xs ys)
of_servers_both (Done other g s ∷ xs) ys = ap (λ l. Done other g s ∷ l) (of_servers_both xs ys)
of_servers_both (Got other g key value ∷ xs) ys = ap (λ l. Got other g key value ∷ l) (of_servers_both xs ys)
of_servers_both (Loaded other g shown next ∷ xs) ys = ap (λ l. Loaded other g shown next ∷ l) (of_servers_both xs ys)

-- ---- parts of runs

-- each load of a part is above the generation
loads_above : (g : ℕ) (own : Run) → ((h : ℕ) → HasLoad h own → g < h) → LoadsAbove g own
loads_above g [] above = tt
loads_above g (Forms i group ∷ own) above = loads_above g own above
loads_above g (Logged i append from to ∷ own) above = loads_above g own above
loads_above g (Notes i ∷ own) above = loads_above g own above
loads_above g (Records i number item ∷ own) above = loads_above g own above
loads_above g (Recorded i append from to ∷ own) above = loads_above g own above
loads_above g (Trims i place ∷ own) above = loads_above g own above
loads_above g (Confirms i start end groups metadata_end records ∷ own) above = (above i (inl refl), loads_above g own (λ h l. above h (inr l)))

-- a part without loads has any keys
no_loads : (keys : KeyRange) (own : Run) → ((h : ℕ) → HasLoad h own → ⊥) → HasKeys keys own
no_loads keys [] none = tt
no_loads keys (Forms i group ∷ own) none = no_loads keys own none
no_loads keys (Logged i append from to ∷ own) none = no_loads keys own none
no_loads keys (Notes i ∷ own) none = no_loads keys own none
no_loads keys (Records i number item ∷ own) none = no_loads keys own none
no_loads keys (Recorded i append from to ∷ own) none = no_loads keys own none
no_loads keys (Trims i place ∷ own) none = no_loads keys own none
no_loads keys (Confirms i start end groups metadata_end records ∷ own) none = absurd (none i (inl refl))

-- what all have, those behind have
keys_behind : (keys : KeyRange) (more own : Run) → HasKeys keys (more ++ own) → HasKeys keys own
keys_behind keys [] own h = h
keys_behind keys (Forms i group ∷ more) own h = keys_behind keys more own h
keys_behind keys (Logged i append from to ∷ more) own h = keys_behind keys more own h
keys_behind keys (Notes i ∷ more) own h = keys_behind keys more own h
keys_behind keys (Records i number item ∷ more) own h = keys_behind keys more own h
keys_behind keys (Recorded i append from to ∷ more) own h = keys_behind keys more own h
keys_behind keys (Trims i place ∷ more) own h = keys_behind keys more own h
keys_behind keys (Confirms i start end groups metadata_end records ∷ more) own h = keys_behind keys more own h.1

keys_both : (keys : KeyRange) (own rest : Run) → HasKeys keys (own ++ rest) → rest ≡ [] → HasKeys keys own
keys_both keys own rest h none = subst (HasKeys keys) (ap (λ z. own ++ z) none ∙ append-nil own) h

-- ---- the family

module _ (texts : ℕ → Bytes) (x : ServerRun) (h : List Note) (seen_as : AreSeenAs texts x.notes (of_servers h)) (member : (r : ℕ) → IsMember texts x r) where
  -- the rows of each load
  abbrev pub rows_of : ℕ → ℕ → List Row
  rows_of r = rows texts r (member r).taken x (member r).kept (of_servers h) seen_as

  pub counted : (r : ℕ) → length (member r).taken.notes ≡ length (seen first_beginning (rows_of r) r (member r).taken.run)
  counted r = (member r).count ∙ seen_length (λ l. []) (rows_of r) r r (member r).taken.run

  abbrev pub own_of : ℕ → Run
  own_of r = own texts r (member r).taken x (member r).kept (of_servers h) seen_as

  abbrev pub taken_of : ℕ → Run
  taken_of r = (member r).taken.run

  abbrev of_part : (r : ℕ) → IsRange (layer_at texts) (of_servers h) r (own_of r) (taken_of r) (rows_of r)
  of_part r = family_range texts r (member r).taken x (member r).kept (of_servers h) seen_as (counted r) (member r).order

  abbrev range_of : (r : ℕ) → IsRange (layer_at texts) h r (own_of r) (taken_of r) (rows_of r)
  range_of r = record {
    runs = (of_part r).runs;
    layers = (of_part r).layers;
    log = (of_part r).log;
    ends = (of_part r).ends;
    metadata = (of_part r).metadata;
    told = (of_part r).told ∙ ap (λ z. seen first_beginning (rows_of r) r (taken_of r) ++ z) (only_of_servers r h);
  }

  -- a load of its own part is told
  load_told : (r g : ℕ) → HasLoad g (own_of r) → (table : List Row) × (next : ℕ) × In (Loaded r g table next) (only r h)
  load_told r g load =
      let s : ShowsLoad (rows_of r) r g (own_of r) (taken_of r) = load_seen (rows_of r) r g (taken_of r) (own_of r) load in
      let e : only r h ≡ s.front ++ Loaded r g s.table s.next ∷ s.back =
      append_cancel_left (seen first_beginning (rows_of r) r (taken_of r)) (only r h) (s.front ++ Loaded r g s.table s.next ∷ s.back) (sym (range_of r).told ∙ s.is) in
      (s.table, s.next, subst (In (Loaded r g s.table s.next)) (sym e) (in_middle (Loaded r g s.table s.next) s.front s.back))

  self : (r : ℕ) → (r == r) ≡ true
  self r = grind (arith, nat_tests)

  -- The keys of a range of which something is told: its own loads have them, its own records name no others, and all that were named are
  -- of generations below each that its own part loaded.
  record KnowsKeys (r : ℕ) : Type 0 where
    keys : HasKeys (keys_of h r) (own_of r)
    these : NamesThese (keys_of h r) (own_of r)
    below : (g : ℕ) → HasLoad g (own_of r) → NamesBelow g (own_of r ++ taken_of r)

  module _ (came : AllCame texts x h member) where
    -- ---- a range that came of another

    module _ (p r : ℕ) (c : CameOf texts x h member p r) where
      parted : of_servers h ≡ of_servers c.before ++ of_servers c.after
      parted = ap of_servers c.is ∙ of_servers_both c.before c.after

      told_then : IsToldIn (of_servers c.before) (rows_of p) p (taken_of p) c.old.run
      told_then = moment_told texts p (member p).taken x (member p).kept (of_servers h) seen_as (counted p) c.moment c.old c.goes (of_servers c.before) (of_servers c.after) parted c.told

      loaded_then : (table : List Row) × (next : ℕ) × Contains (of_servers c.before) (Loaded p c.generation table next)
      loaded_then = moment_loaded texts p (member p).taken x (member p).kept (of_servers h) seen_as (counted p) c.moment c.old c.goes (of_servers c.before) (of_servers c.after) parted c.told c.generation c.loaded

      own_parted : own_of p ≡ c.goes.0 ++ c.old.behind.0
      own_parted = own_parts texts p (member p).taken x (member p).kept (of_servers h) seen_as (counted p) c.moment c.old c.goes (of_servers c.before) (of_servers c.after) parted c.told

      in_all : (note : Note) (l : List Note) → In note (of_servers l) → In note l
      in_all note [] there = there
      in_all note (Split parent low high key ∷ l) there = inr (in_all note l there)
      in_all note (Merged left right into ∷ l) there = inr (in_all note l there)
      in_all note (Acked e o group ∷ l) there = ⊎_elim {C = In note (Acked e o group ∷ l)} (λ e. inl e) (λ t. inr (in_all note l t)) there
      in_all note (SealedAt e k ∷ l) there = ⊎_elim {C = In note (SealedAt e k ∷ l)} (λ e. inl e) (λ t. inr (in_all note l t)) there
      in_all note (Content e n groups ∷ l) there = ⊎_elim {C = In note (Content e n groups ∷ l)} (λ e. inl e) (λ t. inr (in_all note l t)) there
      in_all note (Seen e n o bytes ∷ l) there = ⊎_elim {C = In note (Seen e n o bytes ∷ l)} (λ e. inl e) (λ t. inr (in_all note l t)) there
      in_all note (Began other g s t ∷ l) there = ⊎_elim {C = In note (Began other g s t ∷ l)} (λ e. inl e) (λ t. inr (in_all note l t)) there
      in_all note (Done other g s ∷ l) there = ⊎_elim {C = In note (Done other g s ∷ l)} (λ e. inl e) (λ t. inr (in_all note l t)) there
      in_all note (Got other g key value ∷ l) there = ⊎_elim {C = In note (Got other g key value ∷ l)} (λ e. inl e) (λ t. inr (in_all note l t)) there
      in_all note (Loaded other g shown next ∷ l) there = ⊎_elim {C = In note (Loaded other g shown next ∷ l)} (λ e. inl e) (λ t. inr (in_all note l t)) there

      pub has_parent : HasParent (layer_at texts) h own_of taken_of rows_of range_of p r
      has_parent = record {
        child = c.child;
        early = c.old.behind.0;
        late = c.goes.0;
        parts = own_parted;
        took = c.took ∙ c.old.behind.1;
        before = c.before;
        after = c.after;
        moment = c.is;
        told = subst (λ z. IsToldIn c.before (rows_of p) p (taken_of p) z) (sym c.took) (told_then ∙ ap (λ z. seen first_beginning (rows_of p) p (taken_of p) ++ z) (only_of_servers p c.before));
        untold = c.untold;
        generation = c.generation;
        loaded =
            let l = loaded_then in
            let note : Note = Loaded p c.generation l.0 l.1 in
            (l.0, l.1, contains_in note c.before (in_all note c.before (in_contains note (of_servers c.before) l.2)));
        answered = λ a group at.
            subst (λ z. IsAnswered (log_of z) a) (sym c.took)
            (moment_answered texts p (member p).taken x (member p).kept (of_servers h) seen_as (counted p) c.moment c.old c.goes (of_servers c.before) (of_servers c.after) parted c.told c.generation c.formed c.nothing_out a group
            (subst (λ z. event_at (log_of z) a ≡ Some (Made c.generation group)) (sym (member p).kept.behind.1) at));
        highest = c.highest;
        above = c.above;
        shared = λ l g start end groups at.
            let old : event_at (renamed decoded (c.moment.story (log_name p))) l ≡ Some (Showed g start end groups) =
            ap (λ z. event_at z l) (sym c.old.streams.log) ∙ ap (λ z. event_at (log_of z) l) (sym c.took) ∙ at in
            let s = showed_from decoded (c.moment.story (log_name p)) l g start end groups old in
            ap (λ z. map placed (z l)) (log_order texts r (member r).taken x (member r).kept (of_servers h) seen_as (counted r) (member r).order).1
            ∙ ap (λ cs. map placed (map (renamed_copy decoded) cs)) (c.shared l g start end s.0 s.1)
            ∙ sym (ap (λ z. map placed (z l)) (log_order texts p (member p).taken x (member p).kept (of_servers h) seen_as (counted p) (member p).order).1);
      }

      -- its loads are of higher generations
      load_above : (g : ℕ) → HasLoad g (own_of r) → c.generation < g
      load_above g load =
          let t : (table : List Row) × (next : ℕ) × In (Loaded r g table next) (only r h) = load_told r g load in
          c.above (Loaded r g t.0 t.1) (contains_in (Loaded r g t.0 t.1) h (only_in r (Loaded r g t.0 t.1) h t.2)) (self r)

      own_above : LoadsAbove c.generation (own_of r)
      own_above = loads_above c.generation (own_of r) load_above

      -- its parent's load under the generation is one of its own part
      parent_load : HasLoad c.generation (own_of p)
      parent_load = subst (HasLoad c.generation) (sym own_parted) (has_behind c.generation c.goes.0 c.old.behind.0 c.loaded)

      -- the keys that its parent had under the generation of the split
      parent_keys : HasKeys (keys_of h p) (own_of p) → NamesThese (keys_of h p) (own_of p) → (said first_beginning (held first_beginning c.old.run c.generation).records).keys ≡ keys_of h p
      parent_keys whole these =
          let behind : HasKeys (keys_of h p) c.old.behind.0 = keys_behind (keys_of h p) c.goes.0 c.old.behind.0 (subst (HasKeys (keys_of h p)) own_parted whole) in
          let names : NamesThese (keys_of h p) c.old.behind.0 = these_behind (keys_of h p) c.goes.0 c.old.behind.0 (subst (NamesThese (keys_of h p)) own_parted these) in
          ap (λ z. (said first_beginning (held first_beginning z c.generation).records).keys) c.old.behind.1
          ∙ held_keys (layer_at texts) c.generation (keys_of h p) c.old.behind.0 (taken_of p) (subst (IsChainRun (layer_at texts) first_beginning) c.old.behind.1 c.old.streams.chain) behind names c.loaded

      named_are : (whole : KeyRange) → whole ≡ keys_of h p → IsHalf texts x h member r c.child.low c.child.high c.child.key whole c.keys → c.keys ≡ keys_of h r
      named_are whole same (inl (is, keys)) = keys ∙ ap (λ (z : KeyRange). record { low = z.low; high = Some c.child.key }) same ∙ sym (low_keys h p r c.child is)
      named_are whole same (inr (is, apart, keys)) = keys ∙ ap (λ (z : KeyRange). record { low = c.child.key; high = z.high }) same ∙ sym (high_keys h p r c.child is apart)

      -- what was taken names keys under lower generations
      taken_below : NamesBelow c.generation (own_of p ++ taken_of p) → NamesBelow c.generation (taken_of r)
      taken_below below =
          subst (NamesBelow c.generation) (sym c.took)
          (below_behind c.generation c.goes.0 c.old.run (subst (NamesBelow c.generation) (sym (member p).kept.behind.1 ∙ c.goes.1) below))

      child_keys : c.keys ≡ keys_of h r → NamesBelow c.generation (taken_of r) → HasKeys (keys_of h r) (own_of r)
      child_keys same below =
          let k = (member r).kept in
          let f = range_of r in
          subst (λ z. HasKeys z (own_of r)) same
          (named_keys (layer_at texts) (rows_of r) (own_of r) (taken_of r) c.generation c.keys f.runs f.layers f.log f.ends f.metadata (subst (λ z. IsNamed c.generation c.keys z) k.behind.1 c.named)
          (own_no_other c.generation c.keys (own_of r) (taken_of r) c.own_names below) own_above)

      child_known : KnowsKeys p → KnowsKeys r
      child_known known =
          let same : c.keys ≡ keys_of h r = named_are _ (parent_keys known.keys known.these) c.half in
          let below : NamesBelow c.generation (taken_of r) = taken_below (known.below c.generation parent_load) in
          record {
            keys = child_keys same below;
            these = subst (λ z. NamesThese z (own_of r)) same (own_these c.generation c.keys (own_of r) c.own_names);
            below = λ g load. own_below c.generation g c.keys (own_of r) (taken_of r) (load_above g load) c.own_names below;
          }

      -- of its parent something is told
      parent_told : only p h ≡ [] → ⊥
      parent_told none = let t : (table : List Row) × (next : ℕ) × In (Loaded p c.generation table next) (only p h) = load_told p c.generation parent_load in subst (In (Loaded p c.generation t.0 t.1)) none t.2

    -- ---- all of them

    untold_keys : (r : ℕ) → only r h ≡ [] → HasKeys (keys_of h r) (own_of r)
    untold_keys r none =
        no_loads (keys_of h r) (own_of r)
        (λ g load.
        let t : (table : List Row) × (next : ℕ) × In (Loaded r g table next) (only r h) = load_told r g load in
        subst (λ z. In (Loaded r g t.0 t.1) z) none t.2)

    eldest_known : (r : ℕ) → IsEldest texts x h member r → KnowsKeys r
    eldest_known r e =
        let k = (member r).kept in
        let f = range_of r in
        let keeps : KeepsKeys (own_of r ++ taken_of r) = subst (λ z. KeepsKeys z) k.behind.1 e.keys in
        record {
          keys = subst (λ z. HasKeys z (own_of r)) (sym (unborn_keys h r e.unborn))
              (keys_both all_keys (own_of r) (taken_of r) (first_keys (layer_at texts) (rows_of r) (own_of r ++ taken_of r) f.runs keeps f.layers f.log f.ends f.metadata) e.nothing);
          these = kept_these (keys_of h r) (own_of r) (taken_of r) keeps;
          below = λ g load. kept_below g (own_of r ++ taken_of r) keeps;
        }

    known_below : (bound r : ℕ) → r < bound → (only r h ≡ []) ⊎ KnowsKeys r
    known_below zero r less = absurd (omega (arith, less))
    known_below (suc bound) r less = by (came r) (λ p low. known_below bound p (omega (arith, less, low)))
      where
        by : (only r h ≡ []) ⊎ (IsEldest texts x h member r ⊎ ((p : ℕ) × CameOf texts x h member p r)) → ((p : ℕ) → p < r → (only p h ≡ []) ⊎ KnowsKeys p) → (only r h ≡ []) ⊎ KnowsKeys r
        by (inl none) below = inl none
        by (inr (inl e)) below = inr (eldest_known r e)
        by (inr (inr (p, c))) below =
            ⊎_elim {C = (only r h ≡ []) ⊎ KnowsKeys r} (λ none. absurd (parent_told p r c none)) (λ known. inr (child_known p r c known)) (below p (smaller h p r c.child))

    pub all_keys_are : (r : ℕ) → HasKeys (keys_of h r) (own_of r)
    all_keys_are r = ⊎_elim {C = HasKeys (keys_of h r) (own_of r)} (λ none. untold_keys r none) (λ known. known.keys) (known_below (suc r) r (omega arith))

    abbrev pub family : IsFamily (layer_at texts) h
    family = record {
      own = own_of;
      taken = taken_of;
      rows = rows_of;
      range = range_of;
      keys = all_keys_are;
      born = λ r. ⊎_elim {C = (only r h ≡ []) ⊎ (IsFirst (layer_at texts) h own_of taken_of rows_of range_of r ⊎ ((p : ℕ) × HasParent (layer_at texts) h own_of taken_of rows_of range_of p r))}
          (λ none. inl none)
          (λ known. inr (⊎_elim {C = IsFirst (layer_at texts) h own_of taken_of rows_of range_of r ⊎ ((p : ℕ) × HasParent (layer_at texts) h own_of taken_of rows_of range_of p r)}
          (λ e. inl (record { is = e.is; unborn = e.unborn; nothing = e.nothing })) (λ q. inr (q.0, has_parent q.0 r q.1)) known))
          (came r);
    }

    -- WHAT IS TOLD OF ALL RANGES REPLAYS
    pub members_replay : Replays h
    members_replay = families_replay (layer_at texts) h family

    -- A RANGE THAT IS SERVED HAS THE KEYS that were observed, already at a moment before
    pub moment_keys : (range : ℕ) (y : ServerRun) (old : RunBehind texts range (member range).taken y) → IsLonger old.run (member range).kept.run → (s : ℕ) (r : RangeState) → ServesAt y s range r → r.said.keys ≡ keys_of h range
    moment_keys range y old goes s r at = by (known_below (suc range) range (omega arith))
      where
        parts : own_of range ≡ goes.0 ++ old.behind.0
        parts =
            append_cancel_right (own_of range) (goes.0 ++ old.behind.0) (taken_of range)
            (sym (member range).kept.behind.1 ∙ goes.1 ∙ ap (λ z. goes.0 ++ z) old.behind.1 ∙ sym (append_assoc goes.0 old.behind.0 (taken_of range)))

        load : HasLoad r.load.generation old.behind.0
        load = old.loaded s r at

        says : r.said ≡ said first_beginning (held first_beginning old.run r.load.generation).records
        says =
            let k : HeldKept texts range old.run (view_at range y s) r (split_of at.state.splits range) = kept_at texts range (member range).taken y old s r at in
            (serves_of texts range old.run (with_stage (view_at range y s) k.split) r at.serves k.range).matches.said

        by : (only range h ≡ []) ⊎ KnowsKeys range → r.said.keys ≡ keys_of h range
        by (inl none) =
            let t : (table : List Row) × (next : ℕ) × In (Loaded range r.load.generation table next) (only range h) =
            load_told range r.load.generation (subst (HasLoad r.load.generation) (sym parts) (has_behind r.load.generation goes.0 old.behind.0 load)) in
            absurd (subst (In (Loaded range r.load.generation t.0 t.1)) none t.2)
        by (inr known) =
            ap (λ (m : MetadataState). m.keys) says
            ∙ ap (λ z. (said first_beginning (held first_beginning z r.load.generation).records).keys) old.behind.1
            ∙ held_keys (layer_at texts) r.load.generation (keys_of h range) old.behind.0 (taken_of range) (subst (IsChainRun (layer_at texts) first_beginning) old.behind.1 old.streams.chain)
            (keys_behind (keys_of h range) goes.0 old.behind.0 (subst (HasKeys (keys_of h range)) parts known.keys)) (these_behind (keys_of h range) goes.0 old.behind.0 (subst (NamesThese (keys_of h range)) parts known.these)) load

    pub served_keys : (s range : ℕ) (r : RangeState) → ServesAt x s range r → r.said.keys ≡ keys_of h range
    served_keys s range r at = moment_keys range x (member range).kept ([], refl) s r at
