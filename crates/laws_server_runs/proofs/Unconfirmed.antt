-- A load that is never confirmed reads anything: it shows no table and tells no story, so nothing is owed.
use Rattle.std.proofs.Common.{◌≡◌, ℕ, List, [], ◌∷◌, ◌++◌, if◌then◌else◌, is_some, refl, sym, subst, Option, Some, None}
use Rattle.wire.specs.declared.actor.ActorId.TheVariants.{Map, Manager, Node}
use Rattle.wire.specs.declared.body.Body.TheVariants as bodies
use Rattle.wire.specs.declared.body.CheckBody.TheVariants as checks
use Rattle.wire.specs.declared.body.MapBody.TheVariants as maps
use Rattle.wire.specs.declared.body.ReadBody.TheVariants as reads
use Rattle.wire.specs.declared.body.StreamBody.TheVariants as streams
use Rattle.wire.specs.declared.streams.StreamKind.TheVariants as kinds
use Rattle.metadata.specs.declared.record.Region.{Region}
use Rattle.metadata.specs.Fold.{all_keys, first_metadata}
use Rattle.memtable.specs.Entries.{Entries}
use Rattle.client.specs.declared.load.LoadPhase.TheVariants as phases
use Rattle.model_partition.specs.declared.server_context.ServerContext.{ServerContext}
use Rattle.model_partition.specs.declared.stage.Stage.TheVariants as stages
use Rattle.model_partition.specs.Past.{Bytes, first_range}
use Rattle.model_partition.specs.Loading.{Group, replays, replayed}
use Rattle.model_partition.specs.Range.{RangeState}
use Rattle.model_partition.specs.Server.{new_range, started}
use Rattle.model_partition.specs.Servers.{first_pick}
use Rattle.model_histories.specs.Story.{KeepsOrder, EndsRise}
use Rattle.model_histories.specs.StreamActions.{ExtentRead, Reads}
use Rattle.model_histories.specs.ServerRun.{ServerRun, ServerEvent, after_actions, run_of, log_name, metadata_name}
use Rattle.model_histories.specs.ServedTables.{AllStand, LoadsOnce, StreamsInOrder}
use Rattle.laws_tables.proofs.Fenced.{keeps_order, ends_rise}
use Rattle.laws_server_runs.proofs.Worked.{comes, asked, lists, extent}

-- whatever is found in the extent
module _ (found : List Group) where
  abbrev before : List ServerEvent
  before =
      comes 1 (Node 1) (bodies.Check (checks.Checked (asked 1 2) (Some 24)))
      ∷ comes 1 Manager (bodies.Stream (streams.Opened (asked 1 1) (lists (extent ∷ []))))
      ∷ comes 1 Map (bodies.Map (maps.Assign 1 1 100))
      ∷ []

  abbrev pub unconfirmed : List ServerEvent
  unconfirmed = comes 1 (Node 1) (bodies.Read (reads.Groups (asked 1 3) 7 found)) ∷ before

  abbrev context : ServerContext
  context = record (started 1 1 0 first_pick 1).context { count = 4 }

  -- the range once the extent is read
  abbrev is_read : RangeState
  is_read =
      let new : RangeState = new_range context 1 1 100 in
      record new {
        load = record new.load { phase = phases.Opened };
        stage = stages.Reading kinds.Log 0;
        log = record new.log { extents = extent ∷ []; checked = Some 24 };
        regions = first_metadata.regions;
      }

  -- what was made of the groups that were found
  abbrev Replayed : Type 0
  Replayed = Option (List Region × Entries)

  abbrev made : Replayed
  made = replayed all_keys 7 (record { index = 0; offset = 0 }) (first_metadata.regions, []) found

  abbrev after : Replayed → ServerRun
  after x =
      let read : ExtentRead = record { index = 0; extent = 7; groups = found } in
      after_actions 1 1 1 (run_of 1 1 before) (if is_some (replays context is_read 0 x).after then Reads kinds.Log read ∷ [] else [])

  -- it shows nothing, and tells no story
  pub quiet : ((run_of 1 1 unconfirmed).notes ≡ []) × ((run_of 1 1 unconfirmed).story (log_name first_range) ≡ []) × ((run_of 1 1 unconfirmed).story (metadata_name first_range) ≡ [])
      × ((run_of 1 1 unconfirmed).shown first_range ≡ []) × ((run_of 1 1 unconfirmed).answered first_range ≡ [])
  quiet = by made
    where
      by : (x : Replayed) → ((after x).notes ++ (replays context is_read 0 x).notes ≡ []) × ((after x).story (log_name first_range) ≡ []) × ((after x).story (metadata_name first_range) ≡ []) × ((after x).shown first_range ≡ []) × ((after x).answered first_range ≡ [])
      by None = (refl, refl, refl, refl, refl)
      by (Some x) = (refl, refl, refl, refl, refl)

  -- so nothing is owed: no story, and no table
  pub owes_nothing : (texts : ℕ → Bytes) → StreamsInOrder texts first_range (run_of 1 1 unconfirmed)
  owes_nothing texts = record {
    metadata = subst KeepsOrder (sym quiet.2) (keeps_order Group [] tt);
    log = subst KeepsOrder (sym quiet.1) (keeps_order Group [] tt);
    once = subst LoadsOnce (sym quiet.1) (λ l m g start end start' end' groups groups' one two. absurd cc);
    ends = subst EndsRise (sym quiet.1) (ends_rise Group [] tt);
    shown = subst (AllStand texts) (sym quiet.3) tt;
    answered = subst (AllStand texts) (sym quiet.4) tt;
  }
