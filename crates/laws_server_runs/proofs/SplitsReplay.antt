-- What is told of all ranges replays, where each but the first came of a split that waited for its end, and the map says so.
use Rattle.std.proofs.Common.{◌≡◌, ◌⊎◌, ⊎_elim, ℕ, List, [], ◌∷◌, ◌++◌, refl, sym, subst, inl, inr}
use Rattle.wire.specs.declared.note.Note.{Note}
use Rattle.model_partition.specs.Past.{Bytes, Replays, first_range, keys_of}
use Rattle.model_partition.specs.Range.{RangeState}
use Rattle.model_histories.specs.Log.{only}
use Rattle.model_histories.specs.ServedTables.{AreSeenAs, AreUnborn, ServesAt}
use Rattle.model_histories.specs.ServerRun.{ServerEvent, Builds, run_of}
use Rattle.laws_tables.specs.Families.{HasNoBirth}
use Rattle.laws_server_runs.specs.ChildInvariant.{ChildAt, AreBornSo}
use Rattle.laws_server_runs.specs.FamilyMembers.{of_servers, IsMember, IsEldest, CameOf, AllCame}
use Rattle.laws_server_runs.specs.BornRanges.{AllInOrder, AreShared, IsToldOf, IsSplitOff, AllAreBorn}
use Rattle.laws_server_runs.proofs.ChildTheorem.{all_members}
use Rattle.laws_server_runs.proofs.CompletedMoments.{IsBuiltSo, built_so}
use Rattle.laws_server_runs.proofs.CompletedSplits.{came_of}
use Rattle.laws_server_runs.proofs.Eldest.{first_eldest}
use Rattle.laws_server_runs.proofs.FamilyMembers.{members_replay, served_keys}

module _ (texts : ℕ → Bytes) (batch servers : ℕ) (h : List Note) where
  module _ (server p r : ℕ) where
    -- it came of the range, over any events behind these
    abbrev CameSo : (after until : List ServerEvent) → Type 0
    CameSo after until =
        (born : AreBornSo texts batch servers (after ++ until)) (order : AllInOrder texts batch servers (after ++ until)) → AreSeenAs texts (run_of batch servers (after ++ until)).notes (of_servers h) →
        (c : ChildAt (run_of batch servers until) server p r) → IsToldOf texts batch servers h until server p r c → AreShared texts batch servers (after ++ until) until order p r →
        CameOf texts (run_of batch servers (after ++ until)) h (all_members texts batch servers (after ++ until) born order) p r

    came_then : (after late early : List ServerEvent) → CameSo after (late ++ Builds p r ∷ early)
    came_then after late early born order seen c told shared =
        came_of texts batch servers p r early late after born order server p c told.waits h seen told.child told.low told.high told.key told.highest told.above
        (λ l g start end groups at. shared late early refl l g start end groups at)

    came : (after until : List ServerEvent) → CameSo after until
    came after until born order seen c told shared =
        let b : IsBuiltSo texts batch servers server p r (after ++ until) until c = built_so texts batch servers server p r (after ++ until) born order after until refl c told.waits in
        subst (CameSo after) (sym b.until_is) (came_then after b.late b.early) born order seen c told shared

  module _ (events : List ServerEvent) (born : AreBornSo texts batch servers events) (order : AllInOrder texts batch servers events) (seen : AreSeenAs texts (run_of batch servers events).notes (of_servers h)) where
    abbrev member : (r : ℕ) → IsMember texts (run_of batch servers events) r
    member r = all_members texts batch servers events born order r

    split_came : (p r : ℕ) → IsSplitOff texts batch servers h events order p r → CameOf texts (run_of batch servers events) h member p r
    split_came p r s =
        subst (λ l. (born : AreBornSo texts batch servers l) (order : AllInOrder texts batch servers l) → AreSeenAs texts (run_of batch servers l).notes (of_servers h) → AreShared texts batch servers l s.until order p r →
        CameOf texts (run_of batch servers l) h (all_members texts batch servers l born order) p r) (sym s.is)
        (λ b o sees shared. came s.server p r s.after s.until b o sees s.split s.told shared) born order seen s.shared

    pub all_came : AreUnborn first_range events → HasNoBirth first_range h → AllAreBorn texts batch servers h events order → AllCame texts (run_of batch servers events) h member
    all_came unnumbered unborn all r =
        ⊎_elim {C = (only r h ≡ []) ⊎ (IsEldest texts (run_of batch servers events) h member r ⊎ ((p : ℕ) × CameOf texts (run_of batch servers events) h member p r))} (λ none. inl none)
        (λ known. inr (⊎_elim {C = IsEldest texts (run_of batch servers events) h member r ⊎ ((p : ℕ) × CameOf texts (run_of batch servers events) h member p r)}
        (λ first. inl (subst (λ m. IsEldest texts (run_of batch servers events) h member m) (sym first) (first_eldest texts batch servers events born order h unnumbered unborn)))
        (λ off. inr (off.0, split_came off.0 r off.1)) known)) (all r)

    -- SPLITS REPLAY
    pub splits_replay : AreUnborn first_range events → HasNoBirth first_range h → AllAreBorn texts batch servers h events order → Replays h
    splits_replay unnumbered unborn all = members_replay texts (run_of batch servers events) h seen member (all_came unnumbered unborn all)

    -- and each range that is served has the keys that splits left to it
    pub splits_keys : AreUnborn first_range events → HasNoBirth first_range h → AllAreBorn texts batch servers h events order → (s range : ℕ) (r : RangeState) → ServesAt (run_of batch servers events) s range r → r.said.keys ≡ keys_of h range
    splits_keys unnumbered unborn all = served_keys texts (run_of batch servers events) h seen member (all_came unnumbered unborn all)
