-- A range to whose number the map gives no range that a split makes is the eldest of its family, where it is the first: it took nothing, and no
-- record names keys for it.
use Rattle.std.proofs.Common.{ℕ, List, [], ◌∷◌, refl, ap, subst, inl, inr}
use Rattle.wire.specs.declared.note.Note.{Note}
use Rattle.model_partition.specs.Past.{Bytes, first_range}
use Rattle.model_histories.specs.ServedTables.{IsUnborn, AreUnborn}
use Rattle.model_histories.specs.ServerRun.{ServerEvent, Builds, run_of, metadata_name}
use Rattle.laws_tables.specs.Families.{HasNoBirth}
use Rattle.laws_tables.specs.Runs.{KeepsKeys}
use Rattle.laws_server_runs.specs.BornRanges.{AllInOrder}
use Rattle.laws_server_runs.specs.ChildInvariant.{IsBuiltBy, AreBornSo, ChildKept}
use Rattle.laws_server_runs.specs.FamilyMembers.{IsEldest}
use Rattle.laws_server_runs.specs.RunInvariant.{Taken}
use Rattle.laws_server_runs.proofs.Apart.{unborn_apart}
use Rattle.laws_server_runs.proofs.ChildTheorem.{all_children, all_members, unbuilt_took}
use Rattle.laws_server_runs.proofs.KeptKeys.{unnamed, keeps_keys}

-- its streams are never built
pub unborn_unbuilt : (n : ℕ) (events : List ServerEvent) → AreUnborn n events → IsBuiltBy events n → ⊥
unborn_unbuilt n [] are built = built
unborn_unbuilt n (event ∷ earlier) are (inl built) = let other : IsUnborn n (Builds built.0 n) = subst (IsUnborn n) built.1 are.0 in other refl
unborn_unbuilt n (event ∷ earlier) are (inr built) = unborn_unbuilt n earlier are.1 built

module _ (texts : ℕ → Bytes) (batch servers : ℕ) (events : List ServerEvent) (born : AreBornSo texts batch servers events) (order : AllInOrder texts batch servers events) where
  -- it keeps its keys
  pub unborn_keeps : (n : ℕ) → AreUnborn n events → KeepsKeys (all_children texts batch servers events born order n).kept.run
  unborn_keeps n are =
      let c : ChildKept texts (IsBuiltBy events) n (run_of batch servers events) = all_children texts batch servers events born order n in
      keeps_keys c.kept.run ((run_of batch servers events).story (metadata_name n)) c.kept.streams.metadata (unnamed n batch servers events (unborn_apart n batch servers events are))

  -- THE FIRST RANGE IS THE ELDEST
  pub first_eldest : (h : List Note) → AreUnborn first_range events → HasNoBirth first_range h → IsEldest texts (run_of batch servers events) h (all_members texts batch servers events born order) first_range
  first_eldest h are unborn = record {
    is = refl;
    unborn = unborn;
    nothing = ap (λ (t : Taken). t.run) (unbuilt_took texts batch servers events born order first_range (unborn_unbuilt first_range events are));
    keys = unborn_keeps first_range are;
  }
