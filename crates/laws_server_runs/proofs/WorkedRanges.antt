-- A worked example: a server serves two ranges, and each of them is at its line. The law of what is loaded does not speak of it.
use Rattle.std.proofs.Common.{◌≡◌, ℕ, List, [], ◌∷◌, refl, sym, subst, Some}
use Rattle.blocks.specs.Record as numbers
use Rattle.commitlog.specs.Reading as reading
use Rattle.metadata.specs.Fold.{first_metadata}
use Rattle.replica.specs.Groups.{joined}
use Rattle.wire.specs.declared.actor.ActorId.TheVariants.{Map, Manager}
use Rattle.wire.specs.declared.body.Body.TheVariants as bodies
use Rattle.wire.specs.declared.body.MapBody.TheVariants as maps
use Rattle.wire.specs.declared.body.StreamBody.TheVariants as streams
use Rattle.client.specs.declared.load.LoadPhase.TheVariants as phases
use Rattle.model_partition.specs.declared.stage.Stage.TheVariants as stages
use Rattle.model_partition.specs.Loading.{Group}
use Rattle.model_partition.specs.Past.{Bytes, first_range}
use Rattle.model_partition.specs.Range.{RangeState}
use Rattle.model_partition.specs.Server.{ServerState, new_range, started}
use Rattle.model_partition.specs.Servers.{first_pick}
use Rattle.model_histories.specs.Story.{Showed, Story, KeepsOrder, EndsRise}
use Rattle.model_histories.specs.ServerRun.{ServerRun, ServerEvent, run_of, log_name, metadata_name}
use Rattle.model_histories.specs.ServedTables.{AreUnborn, AreFirst, AllStand, LoadsOnce, StreamsInOrder, IsAtLine, ServesAt}
use Rattle.model_histories.specs.TableContents.{StandsAt}
use Rattle.laws_server_runs.proofs.NeededPremises.{one_keeps, one_once, one_ends}
use Rattle.laws_server_runs.proofs.Theorem.{run_at_line}
use Rattle.laws_server_runs.proofs.Worked.{comes, asked, lists, group, events, log, metadata, stands, served, log_keeps, log_ends, metadata_keeps, once, are_unborn}

-- the second server takes another range as well
abbrev assigned_other : List ServerEvent
assigned_other = comes 2 Map (bodies.Map (maps.Assign 2 1 100)) ∷ events

abbrev opened_other : List ServerEvent
opened_other = comes 2 Manager (bodies.Stream (streams.Opened (asked 2 6) (lists []))) ∷ assigned_other

abbrev both : List ServerEvent
both = comes 2 Manager (bodies.Stream (streams.Confirmed (asked 2 7))) ∷ opened_other

abbrev run : ServerRun
run = run_of 1 2 both

abbrev empty_load : Story Group
empty_load = Showed 1 0 0 [] ∷ []

makes : (run.story (log_name first_range) ≡ log) × (run.story (metadata_name first_range) ≡ metadata) × (run.story (log_name 2) ≡ empty_load) × (run.story (metadata_name 2) ≡ empty_load)
    × (run.shown first_range ≡ stands ∷ []) × (run.answered first_range ≡ stands ∷ []) × (run.shown 2 ≡ []) × (run.answered 2 ≡ [])
unfolding numbers.number reading.record_at reading.joined_at reading.text_at reading.body_at reading.transactions_at reading.transaction_at reading.change_at reading.counted_at reading.cell_at reading.fields_at reading.transactions_of
makes = (refl, refl, refl, refl, refl, refl, refl, refl)

-- the other range, which has nothing yet
abbrev other : RangeState
other =
    let new : RangeState = new_range (started 2 1 0 first_pick 1).context 2 1 100 in
    record new {
      load = record new.load { phase = phases.Confirmed };
      stage = stages.Serving;
      regions = first_metadata.regions;
    }

abbrev second : ServerState
second = record { context = record (started 2 1 0 first_pick 1).context { count = 9 }; ranges = (first_range, served) ∷ ((2, other) ∷ []); splits = []; merges = [] }

serves_first : ServesAt run 2 first_range served
unfolding numbers.number reading.record_at reading.joined_at reading.text_at reading.body_at reading.transactions_at reading.transaction_at reading.change_at reading.counted_at reading.cell_at reading.fields_at reading.transactions_of
serves_first = record { cell = record { session = 1; state = Some second }; state = second; there = refl; runs = refl; held = refl; serves = refl }

serves_other : ServesAt run 2 2 other
unfolding numbers.number reading.record_at reading.joined_at reading.text_at reading.body_at reading.transactions_at reading.transaction_at reading.change_at reading.counted_at reading.cell_at reading.fields_at reading.transactions_of
serves_other = record { cell = record { session = 1; state = Some second }; state = second; there = refl; runs = refl; held = refl; serves = refl }

-- the map assigned another than the first
not_first : AreFirst both → ⊥
not_first first = let other_is_first : 2 ≡ first_range = first.1.1.0 in absurd cc

-- no split makes the other
unborn_two : AreUnborn 2 both
unborn_two = (tt, (tt, (tt, (tt, (tt, (tt, (tt, (tt, (tt, (tt, (tt, (tt, (tt, (tt, (tt, tt)))))))))))))))

module _ (texts : ℕ → Bytes) where
  -- whatever stands in the extents, the other range is at its line
  pub other_in_order : StreamsInOrder texts 2 run
  other_in_order = record {
    metadata = subst KeepsOrder (sym makes.3) (one_keeps Group);
    log = subst KeepsOrder (sym makes.2) (one_keeps Group);
    once = subst LoadsOnce (sym makes.2) (one_once Group (Showed 1 0 0 []));
    ends = subst EndsRise (sym makes.2) (one_ends Group (Showed 1 0 0 []));
    shown = subst (AllStand texts) (sym makes.6) tt;
    answered = subst (AllStand texts) (sym makes.7) tt;
  }

  pub other_at_line : IsAtLine texts (run.story (log_name 2)) other_in_order.log.copies other
  other_at_line = run_at_line texts 1 2 both 2 2 other unborn_two other_in_order serves_other

  -- and the first is, where the group stands at the begin of its extent
  module _ (there : StandsAt (texts 7) 0 (joined group)) where
    pub first_in_order : StreamsInOrder texts first_range run
    first_in_order = record {
      metadata = subst KeepsOrder (sym makes.1) (metadata_keeps Group group);
      log = subst KeepsOrder (sym makes.0) (log_keeps Group group);
      once = subst LoadsOnce (sym makes.0) (once Group group);
      ends = subst EndsRise (sym makes.0) (log_ends Group group);
      shown = subst (AllStand texts) (sym makes.4) (there, tt);
      answered = subst (AllStand texts) (sym makes.5) (there, tt);
    }

    pub first_at_line : IsAtLine texts (run.story (log_name first_range)) first_in_order.log.copies served
    first_at_line = run_at_line texts 1 2 both 2 first_range served (tt, (tt, (tt, are_unborn))) first_in_order serves_first
