-- Rules that read nothing keep what was read: those of users, giving up, the beginning of a checkpoint, and news of the log of a
-- range that is served.
use Rattle.std.proofs.Common.{◌≡◌, ℕ, ◌+◌, ◌-◌, ◌^◌, List, [], ◌∷◌, ◌++◌, length, map, flat_map, Bool, true, false, not, ◌||◌, ◌&&◌, nat_lt, Option, Some, None, option_map, is_some, refl, if◌then◌else◌}
use Rattle.wire.specs.declared.actor.ActorId.{ActorId}
use Rattle.wire.specs.declared.actor.ReqNo.{ReqNo}
use Rattle.wire.specs.declared.refusal.Refusal.{Refusal}
use Rattle.wire.specs.declared.refusal.Refusal.TheVariants as refusals
use Rattle.wire.specs.declared.transaction.Change.{Change}
use Rattle.wire.specs.declared.packet.Packet.{Packet}
use Rattle.wire.specs.declared.streams.StreamKind.TheVariants as kinds
use Rattle.replica.specs.Groups.{Group}
use Rattle.client.specs.declared.job.News.{News}
use Rattle.client.specs.declared.job.News.TheVariants as news
use Rattle.client.specs.Client.{ClientState, Outcome}
use Rattle.memtable.specs.declared.cell.Place.{Place}
use Rattle.memtable.specs.Entries.{put_all}
use Rattle.commitlog.specs.Places.{kept}
use Rattle.model_streams.specs.StreamSystem.{StreamSystem}
use Rattle.model_streams.proofs.Tests.{none_met}
use Rattle.model_partition.specs.declared.server_context.ServerContext.{ServerContext}
use Rattle.model_partition.specs.declared.stage.Stage.{Stage}
use Rattle.model_partition.specs.declared.stage.Stage.TheVariants as stages
use Rattle.model_partition.specs.declared.waiting.WaitingGet.{WaitingGet}
use Rattle.model_partition.specs.Range.{OutGroup, RangeState, RangeOutcome, request, used, goes, answers, if_there, is_serving, is_paused}
use Rattle.model_histories.specs.ServerRun.{RangeHistory, first_history}
use Rattle.model_partition.specs.Serving.{group_count, appends, forms, transact_fault, transacts, transact_rule, record_of, out_size, log_done}
use Rattle.model_histories.specs.StreamActions.{Forms, group_of, transact_actions}
use Rattle.model_histories.specs.StreamMachine as machine
use Rattle.model_partition.specs.Checkpoints.{checkpoint_fault, checkpoint_rule}
use Rattle.model_partition.specs.PlaceReads.{moved_on}
use Rattle.model_partition.specs.Getting.{get_fault, gets, get_rule, read_at, are_no_page, bytes_come, bytes_rule, gives_up_get}
use Rattle.model_partition.specs.Server.{new_range}
use Rattle.model_partition.specs.Answering.{serving_news, gives_up_job, give_up_all}
use Rattle.laws_loads.specs.RangeView.{RangeView, view_after_all}
use Rattle.laws_loads.proofs.WaitingIsSound.{tests}
use Rattle.laws_ranges.specs.Serves.{Side}
use Rattle.laws_log_reads.specs.Reads.{HasRead, HasReadIf, RuleReads}
use Rattle.laws_log_reads.proofs.ReadRequests.{Keeps, keeps_all, by_same, gives_up_there, gives_up_by}
use Rattle.laws_log_reads.proofs.UntouchedReads.{served, same_left}
use Rattle.laws_log_reads.proofs.CheckpointRules.{layer_left}

module _ (range : ℕ) (w : StreamSystem) (i : ℕ) (m l : machine.MachineState Group) where
  -- a range that was just taken has read nothing
  pub new_read : (d : ServerContext) (n generation until : ℕ) → HasRead range w i m l first_history (new_range d n generation until)
  new_read d n generation until = record { at = record { metadata = refl; log = refl } }

  module _ (h : RangeHistory) where
    abbrev Leaves : RangeOutcome → Type 0
    Leaves o = HasReadIf range w i m l h o.after

    -- ---- Gets

    got : (r : RangeState) (held : List (Place × List ℕ)) (waiting : List WaitingGet) → HasRead range w i m l h r → HasRead range w i m l h (record r { held = held; gets = waiting })
    got r held waiting b =
        same_left range w i m l h r (record r { held = held; gets = waiting })
        (record { said = refl; regions = refl; metadata = keeps_all r.metadata; log = keeps_all r.log; metadata_by = λ position z. z; log_by = λ position z. z }) refl b

    get_keeps : (d : ServerContext) (r : RangeState) (from : ActorId) (q : ReqNo) (key : List ℕ) → HasRead range w i m l h r → Leaves (get_rule d r from q key)
    get_keeps d r from q key b = go (get_fault d r key)
      where
        go : (o : Option Refusal) → Leaves (gets d r from q key o)
        go (Some refusal) = b
        go None = got r _ _ b

    pub bytes_keep : (d : ServerContext) (r : RangeState) (q : ReqNo) (place : Place) (bytes : List ℕ) → HasRead range w i m l h r → Leaves (bytes_rule d r q place bytes)
    bytes_keep d r q place bytes b = go (are_no_page (read_at r.gets q) bytes)
      where
        go : (t : Bool) → Leaves (if t then answers d r [] else bytes_come d r q place bytes)
        go true = b
        go false = got r _ _ b

    -- ---- a range that is served

    forms_left : (d : ServerContext) (r : RangeState) → r.stage ≡ stages.Serving → Leaves (forms d r)
    forms_left d r e = go (not (is_some r.out) && (nat_lt 0 (group_count d r) && nat_lt (r.next + group_count d r) (2 ^ 64)))
      where
        go : (t : Bool) → Leaves (if t then appends d r (group_count d r) else goes d r [] [])
        go true = served range w i m l h _ e
        go false = served range w i m l h r e

    done_left : (d : ServerContext) (r : RangeState) → r.stage ≡ stages.Serving → (out : Option OutGroup) (extent offset : ℕ) → Leaves (log_done d r out extent offset)
    done_left d r e None extent offset = served range w i m l h r e
    done_left d r e (Some out) extent offset =
        forms_left d
        (record r {
          live = put_all r.live (flat_map (λ changes. changes) (kept (record_of out.first out.transactions) extent offset));
          position = record { index = (r.log.base + length r.log.extents) - 1; offset = offset + out_size out };
          out = None;
        })
        e

    -- news of the log of a range that is served
    pub serving_left : (d : ServerContext) (r : RangeState) → r.stage ≡ stages.Serving → (told : Option News) (packets : List Packet) → Leaves (serving_news d r told packets)
    serving_left d r e None packets = served range w i m l h r e
    serving_left d r e (Some news.Fenced) packets = tt
    serving_left d r e (Some (news.Appended n offset)) packets = done_left d r e r.out n offset
    serving_left d r e (Some (news.Checked n found)) packets = served range w i m l h r e
    serving_left d r e (Some (news.Sealed n t)) packets = served range w i m l h r e
    serving_left d r e (Some (news.Content n upto)) packets = served range w i m l h r e

    -- ---- giving up

    give_up_keeps : (d : ServerContext) (r : RangeState) → HasRead range w i m l h r → Leaves (give_up_all d r)
    give_up_keeps d r b =
        same_left range w i m l h r (record r { metadata = one.after; log = two.after; rows = (gives_up_job (used (used d)) r.rows).after; reading = option_map moved_on r.reading; gets = map (λ g. (gives_up_get d r g).0) r.gets })
        (record {
          said = refl;
          regions = refl;
          metadata = record { base = kept_metadata.base; extents = kept_metadata.extents; checked = kept_metadata.checked };
          log = record { base = kept_log.base; extents = kept_log.extents; checked = kept_log.checked };
          metadata_by = λ position z. gives_up_by metadata (request (used d)) position r.metadata.job refl (by_same r.metadata metadata refl refl position r.metadata.job z);
          log_by = λ position z. gives_up_by log (request d) position r.log.job refl (by_same r.log log refl refl position r.log.job z);
        })
        refl b
      where
        metadata : ClientState
        metadata = record r.metadata { pick = d.pick }

        log : ClientState
        log = record r.log { pick = d.pick }

        one : Outcome
        one = gives_up_job (used d) r.metadata

        two : Outcome
        two = gives_up_job d r.log

        kept_metadata : Keeps metadata one.after
        kept_metadata = gives_up_there metadata (request (used d)) r.metadata.job

        kept_log : Keeps log two.after
        kept_log = gives_up_there log (request d) r.log.job

pub is_served : (r : RangeState) → not (is_serving r.stage) ≡ false → r.stage ≡ stages.Serving
is_served r e = go r.stage e
  where
    go : (z : Stage) → not (is_serving z) ≡ false → z ≡ stages.Serving
    go stages.Opening t = absurd cc
    go (stages.Checking kind) t = absurd cc
    go (stages.Reading kind position) t = absurd cc
    go (stages.Indexing position) t = absurd cc
    go stages.Confirming t = absurd cc
    go stages.Serving t = refl

-- ---- what the rules leave of a view

module _ (generation : ℕ → ℕ) (range : ℕ) (w : StreamSystem) (i : ℕ) (m l : Side) (v : RangeView) (d : ServerContext) (r : RangeState) (b : HasRead range w i m.stand.state l.stand.state v.history r) where
  pub get_left : (from : ActorId) (q : ReqNo) (key : List ℕ) → RuleReads generation range w i m l v (get_rule d r from q key) []
  get_left from q key = get_keeps range w i m.stand.state l.stand.state v.history d r from q key b

  pub give_up_left : RuleReads generation range w i m l v (give_up_all d r) []
  give_up_left = give_up_keeps range w i m.stand.state l.stand.state v.history d r b

  pub transact_left : (from : ActorId) (q : ReqNo) (changes : List Change) → RuleReads generation range w i m l v (transact_rule d r from q changes) (transact_actions r (transact_rule d r from q changes))
  transact_left from q changes = go (transact_fault d r changes) refl
    where
      -- the range stays as it was, and so does the group that is out
      refused : (o : Option OutGroup) →
          HasRead range w i m.stand.state l.stand.state (view_after_all (generation i) v (if is_some o then [] else map (λ out. Forms kinds.Log (group_of out)) (if_there o))).history r
      refused None = b
      refused (Some out) = b

      go : (o : Option Refusal) → transact_fault d r changes ≡ o → RuleReads generation range w i m l v (transacts d r from q changes o) (transact_actions r (transacts d r from q changes o))
      go (Some refusal) e = refused r.out
      go None e =
          forms_left range w i m.stand.state l.stand.state
          (view_after_all (generation i) v (transact_actions r (transacts d r from q changes None))).history d
          (record r { queue = r.queue ++ record { from = from; request = q; changes = changes } ∷ [] }) (is_served r (none_met (tests d r changes) e).0)

  -- a checkpoint is made of a range that is served
  pub checkpoint_left : (combine : Bool) → checkpoint_fault r ≡ None → RuleReads generation range w i m l v (checkpoint_rule d r combine) []
  checkpoint_left combine e = layer_left range w i m.stand.state l.stand.state v.history d r (is_served r (none_met faults e).0) combine
    where
      faults : List (Refusal × Bool)
      faults = (refusals.Loading, not (is_serving r.stage)) ∷ (refusals.Paused, is_paused r.pause) ∷ (refusals.Busy, is_some r.control || is_some r.fixed) ∷ []
