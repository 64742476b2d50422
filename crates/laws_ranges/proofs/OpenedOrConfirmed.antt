-- What the answers to the opening and the confirmation make of a range, as both streams see it.
use Rattle.std.proofs.Common.{◌≡◌, ℕ, [], true, false, Some, refl, sym, ap, subst, arith}
use Rattle.wire.specs.declared.actor.ReqNo.{ReqNo}
use Rattle.wire.specs.declared.body.AppendBody.{AppendBody}
use Rattle.wire.specs.declared.body.AppendBody.TheVariants as appends
use Rattle.wire.specs.declared.body.StreamBody.{StreamBody}
use Rattle.wire.specs.declared.body.StreamBody.TheVariants as streams
use Rattle.wire.specs.declared.body.Body.{Body}
use Rattle.wire.specs.declared.body.Body.TheVariants as bodies
use Rattle.wire.specs.declared.refusal.Refusal.{Refusal}
use Rattle.wire.specs.declared.refusal.Refusal.TheVariants as refusals
use Rattle.wire.specs.declared.streams.StreamKind.TheVariants as kinds
use Rattle.client.specs.declared.load.LoadPhase.{LoadPhase}
use Rattle.client.specs.declared.load.LoadPhase.TheVariants as phases
use Rattle.client.specs.Load.{load_awaits}
use Rattle.client.specs.Requests.{is_same}
use Rattle.model_streams.specs.StreamSystem.{StreamSystem}
use Rattle.model_partition.specs.declared.server_context.ServerContext.{ServerContext}
use Rattle.model_partition.specs.declared.stage.Stage.{Stage}
use Rattle.model_partition.specs.declared.stage.Stage.TheVariants as stages
use Rattle.model_partition.specs.Range.{RangeState, answers, is_serving}
use Rattle.model_partition.specs.Loading.{serves}
use Rattle.model_partition.specs.Answering.{answered_number, load_refused, load_told, load_reply}
use Rattle.laws_stream_machine.specs.Refinement.{Means}
use Rattle.laws_ranges.specs.Serves.{RowsTold, Side, metadata_of, log_of, IsOpening, IsConfirming, StageIs, Follows, BothListed, IsSentBy, RuleGoes}
use Rattle.laws_ranges.proofs.Confirmed.{dropped_both}
use Rattle.laws_ranges.proofs.LoadBegins.{opens_both}
use Rattle.laws_ranges.proofs.BothStreams.{still_both}

module _ (generation : ℕ → ℕ) (range : ℕ) (w : StreamSystem) (i : ℕ) (both : BothListed w range) (m l : Side) (d : ServerContext) (by : IsSentBy d d.count m.sent l.sent)
    (r : RangeState) (f : Follows generation range w i m l r) where
  abbrev BothMean : Body → Type 0
  BothMean body = Means generation (metadata_of range) w m.stand.state m.sent body × Means generation (log_of range) w l.stand.state l.sent body

  -- what a confirmation makes of the range
  abbrev pub IsConfirmed : Type 0
  IsConfirmed =
      (b : IsConfirming generation range w i m l r) (v : ReqNo) → is_same b.q v ≡ true → Means generation (metadata_of range) w m.stand.state m.sent (bodies.Stream (streams.Confirmed v)) →
      Means generation (log_of range) w l.stand.state l.sent (bodies.Stream (streams.Confirmed v)) → RuleGoes generation range w i m l d (serves d r)

  -- it does nothing
  rested : RuleGoes generation range w i m l d (answers d r [])
  rested = still_both generation range w i both m l d by r d.count [] f (omega arith) tt

  refused_by : (v : ReqNo) (why : Refusal) → RuleGoes generation range w i m l d (load_refused d r (appends.Refused v why))
  refused_by v refusals.Stale = dropped_both generation range w i both m l d by r
  refused_by v why = rested

  load_refused_both : (body : AppendBody) → RuleGoes generation range w i m l d (load_refused d r body)
  load_refused_both (appends.Refused v why) = refused_by v why
  load_refused_both body = rested

  opening_told : r.stage ≡ stages.Opening → IsOpening generation range w i m l r → (v : ReqNo) → load_awaits r.load.phase v ≡ true → (body : StreamBody) → answered_number (bodies.Stream body) ≡ Some v → BothMean (bodies.Stream body) → RowsTold w range r (bodies.Stream body) →
      RuleGoes generation range w i m l d (load_told d r r.load.phase body)
  opening_told stage b v waits body number means told = subst (λ p. RuleGoes generation range w i m l d (load_told d r p body)) (sym b.phase) (go body number means told)
    where
      same : is_same b.q v ≡ true
      same = subst (λ p. load_awaits p v ≡ true) b.phase waits

      go : (body : StreamBody) → answered_number (bodies.Stream body) ≡ Some v → BothMean (bodies.Stream body) → RowsTold w range r (bodies.Stream body) → RuleGoes generation range w i m l d (load_told d r (phases.Opening b.q) body)
      go (streams.Opened u lists) number means told =
          let e : v ≡ u = cc in
          opens_both generation range w i both m l d by r f.range_is f.under (f.calm (ap is_serving stage)) b u lists (subst (λ z. is_same b.q z ≡ true) e same) means.0 means.1
          (told (subst (λ z. load_awaits r.load.phase z ≡ true) e waits))
      go body number means told = rested

  confirming_told : IsConfirmed → IsConfirming generation range w i m l r → (v : ReqNo) → load_awaits r.load.phase v ≡ true → (body : StreamBody) → answered_number (bodies.Stream body) ≡ Some v → BothMean (bodies.Stream body) →
      RuleGoes generation range w i m l d (load_told d r r.load.phase body)
  confirming_told confirmed b v waits body number means = subst (λ p. RuleGoes generation range w i m l d (load_told d r p body)) (sym b.phase) (go body number means)
    where
      same : is_same b.q v ≡ true
      same = subst (λ p. load_awaits p v ≡ true) b.phase waits

      go : (body : StreamBody) → answered_number (bodies.Stream body) ≡ Some v → BothMean (bodies.Stream body) → RuleGoes generation range w i m l d (load_told d r (phases.Confirming b.q) body)
      go (streams.Confirmed u) number means =
          let e : v ≡ u = cc in
          confirmed b u (subst (λ z. is_same b.q z ≡ true) e same) means.0 means.1
      go body number means = rested

  -- else nothing is waited for
  not_awaited : (p q : LoadPhase) (v : ReqNo) → p ≡ q → load_awaits q v ≡ false → load_awaits p v ≡ true → ⊥
  not_awaited p q v e none waits = let z : load_awaits q v ≡ true = subst (λ k. load_awaits k v ≡ true) e waits in cc

  load_told_by : IsConfirmed → (v : ReqNo) → load_awaits r.load.phase v ≡ true → (body : StreamBody) → answered_number (bodies.Stream body) ≡ Some v → BothMean (bodies.Stream body) → RowsTold w range r (bodies.Stream body) →
      RuleGoes generation range w i m l d (load_told d r r.load.phase body)
  load_told_by confirmed v waits body number means told = go r.stage refl f.stage
    where
      go : (s : Stage) → r.stage ≡ s → StageIs generation range w i m l r s → RuleGoes generation range w i m l d (load_told d r r.load.phase body)
      go stages.Opening e b = opening_told e b v waits body number means told
      go (stages.Checking kinds.Metadata) e b = absurd (not_awaited r.load.phase phases.Opened v b.phase refl waits)
      go (stages.Checking kinds.Log) e b = absurd (not_awaited r.load.phase phases.Opened v b.phase refl waits)
      go (stages.Checking kinds.RowData) e b = absurd b
      go (stages.Checking kinds.BlobData) e b = absurd b
      go (stages.Reading kinds.Metadata position) e b = absurd (not_awaited r.load.phase phases.Opened v b.phase refl waits)
      go (stages.Reading kinds.Log position) e b = absurd (not_awaited r.load.phase phases.Opened v b.phase refl waits)
      go (stages.Reading kinds.RowData position) e b = absurd b
      go (stages.Reading kinds.BlobData position) e b = absurd b
      go (stages.Indexing position) e b = absurd (not_awaited r.load.phase phases.Opened v b.phase refl waits)
      go stages.Confirming e b = confirming_told confirmed b v waits body number means
      go stages.Serving e b = absurd (not_awaited r.load.phase phases.Confirmed v b.phase refl waits)

  -- an answer that the load waits for, which means what it says to both streams
  pub load_reply_by : IsConfirmed → (v : ReqNo) → load_awaits r.load.phase v ≡ true → (body : Body) → answered_number body ≡ Some v → Means generation (metadata_of range) w m.stand.state m.sent body →
      Means generation (log_of range) w l.stand.state l.sent body → RowsTold w range r body → RuleGoes generation range w i m l d (load_reply d r body)
  load_reply_by confirmed v waits (bodies.Append body) number one two told = load_refused_both body
  load_reply_by confirmed v waits (bodies.Stream body) number one two told = load_told_by confirmed v waits body number (one, two) told
  load_reply_by confirmed v waits body number one two told = rested
