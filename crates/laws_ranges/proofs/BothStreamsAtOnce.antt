-- The rules that ask for both streams of a range at once: it is taken, and it is to be confirmed.
use Rattle.std.proofs.Common.{◌≡◌, ℕ, suc, List, [], ◌∷◌, Bool, true, false, Some, None, refl, sym, ◌∙◌, ap, subst, arith, if◌then◌else◌}
use Rattle.wire.specs.declared.actor.ReqNo.{ReqNo}
use Rattle.wire.specs.declared.body.Body.TheVariants as bodies
use Rattle.wire.specs.declared.body.StreamBody.TheVariants as streams
use Rattle.client.specs.declared.job.Job.TheVariants as jobs
use Rattle.client.specs.Load.{open_packet}
use Rattle.client.specs.Requests.{is_same}
use Rattle.model_streams.specs.StreamSystem.{StreamSystem}
use Rattle.model_partition.specs.declared.server_context.ServerContext.{ServerContext}
use Rattle.model_partition.specs.Range.{RangeState, RangeOutcome, request}
use Rattle.model_partition.specs.Loading.{confirms}
use Rattle.model_partition.specs.Server.{new_range}
use Rattle.model_histories.specs.ServerTurns as turns
use Rattle.laws_stream_machine.specs.Refinement.{Purpose, Sent, purpose_of, Opens, Confirms, IsAsked}
use Rattle.laws_ranges.specs.Serves.{RowsStand, HasNoCheckpoint, Side, after_turns, sent_with, is_alone, metadata_of, log_of, LoadingIs, Goes, Apart, IsSentBy, RuleGoes}
use Rattle.laws_ranges.proofs.RowData.{rows_idle}
use Rattle.laws_ranges.proofs.OpenAndConfirm.{assigned_goes, confirms_goes, ConfirmsNow, open_asked, confirm_asked}
use Rattle.laws_ranges.proofs.BothStreams.{both_step}

abbrev asks : ReqNo → Purpose → List Sent → List Sent
asks q p sent = record { request = q; purpose = p } ∷ sent

not_alone : (p z : Purpose) → is_alone p ≡ false → Some p ≡ Some z → is_alone z ≡ true → ⊥
not_alone p z shared e alone = let same : p ≡ z = cc in let t : is_alone z ≡ false = subst (λ k. is_alone k ≡ false) same shared in cc

apart_side : (m l : List Sent) (q : ReqNo) (p o : Purpose) → is_alone p ≡ false → ((r : ReqNo) (z : Purpose) → purpose_of m r ≡ Some z → is_alone z ≡ true → purpose_of l r ≡ None) →
    (r : ReqNo) (z : Purpose) → purpose_of (asks q p m) r ≡ Some z → is_alone z ≡ true → purpose_of (asks q o l) r ≡ None
apart_side m l q p o shared a r z e alone = go (is_same q r) e
  where
    go : (b : Bool) → (if b then Some p else purpose_of m r) ≡ Some z → (if b then Some o else purpose_of l r) ≡ None
    go true t = absurd (not_alone p z shared t alone)
    go false t = a r z t alone

-- a number that both share is no number of one alone
apart_shared : (m l : List Sent) (q : ReqNo) (p o : Purpose) → is_alone p ≡ false → is_alone o ≡ false → Apart m l → Apart (asks q p m) (asks q o l)
apart_shared m l q p o one other a = record { here = apart_side m l q p o one a.here; there = apart_side l m q o p other a.there }

module _ (generation : ℕ → ℕ) (range : ℕ) (w : StreamSystem) (i : ℕ) (m l : Side) (d : ServerContext) (by : IsSentBy d d.count m.sent l.sent) where
  metadata_fresh : purpose_of m.sent (request d) ≡ None
  metadata_fresh = by.metadata d.count (omega arith)

  log_fresh : purpose_of l.sent (request d) ≡ None
  log_fresh = by.log d.count (omega arith)

  -- both streams are read
  pub record AllRead (r : RangeState) : Type 0 where
    pub range_is : r.load.range ≡ range
    pub under : r.load.generation ≡ generation i
    pub calm : HasNoCheckpoint r
    pub rows : RowsStand range w m.sent l.sent r.rows
    pub metadata : LoadingIs generation (metadata_of range) w i m.stand m.sent r.metadata
    pub metadata_idle : r.metadata.job ≡ jobs.Idle
    pub log : LoadingIs generation (log_of range) w i l.stand l.sent r.log
    pub log_idle : r.log.job ≡ jobs.Idle

  -- the confirmation is asked for
  pub confirms_both : (r : RangeState) → AllRead r → RuleGoes generation range w i m l d (confirms d r)
  confirms_both r b =
      let q : ReqNo = request d in
      let one : Goes generation (metadata_of range) w i m.stand m.sent q (ConfirmsNow generation (metadata_of range) w i m.sent q metadata_fresh m.stand r.metadata) None =
      confirms_goes generation (metadata_of range) w i m.sent q metadata_fresh m.stand r.metadata b.metadata b.metadata_idle in
      let two : Goes generation (log_of range) w i l.stand l.sent q (ConfirmsNow generation (log_of range) w i l.sent q log_fresh l.stand r.log) None =
      confirms_goes generation (log_of range) w i l.sent q log_fresh l.stand r.log b.log b.log_idle in
      let n : Side = record { stand = after_turns generation i m.stand one.list; sent = sent_with q one.purpose m.sent } in
      let k : Side = record { stand = after_turns generation i l.stand two.list; sent = sent_with q two.purpose l.sent } in
      let metadata_asked : IsAsked generation (metadata_of range) w n.stand.state n.sent (bodies.Stream (streams.Confirm r.load.range r.load.generation q)) =
      subst (λ g. IsAsked generation (metadata_of range) w n.stand.state n.sent (bodies.Stream (streams.Confirm r.load.range g q))) (sym b.under)
      (subst (λ g. IsAsked generation (metadata_of range) w n.stand.state n.sent (bodies.Stream (streams.Confirm g (generation i) q))) (sym b.range_is)
      (confirm_asked generation (metadata_of range) w i n.stand n.sent r.metadata q one.then.0)) in
      let log_asked : IsAsked generation (log_of range) w k.stand.state k.sent (bodies.Stream (streams.Confirm r.load.range r.load.generation q)) =
      subst (λ g. IsAsked generation (log_of range) w k.stand.state k.sent (bodies.Stream (streams.Confirm r.load.range g q))) (sym b.under)
      (subst (λ g. IsAsked generation (log_of range) w k.stand.state k.sent (bodies.Stream (streams.Confirm g (generation i) q))) (sym b.range_is)
      (confirm_asked generation (log_of range) w i k.stand k.sent r.log q two.then.0)) in
      both_step generation range w i m l d by _ _ None None one two _ _ []
      (subst (λ z. Apart z k.sent) (sym one.then.1)
      (subst (λ z. Apart (asks q (Confirms i one.then.0.read one.then.0.end) m.sent) z) (sym two.then.1)
      (apart_shared m.sent l.sent q (Confirms i one.then.0.read one.then.0.end) (Confirms i two.then.0.read two.then.0.end) refl refl by.apart)))
      (record {
        range_is = b.range_is;
        under = b.under;
        calm = λ u. b.calm;
        rows = rows_idle range w m.sent l.sent _ _ r.rows b.calm.0 b.rows;
        stage = record {
          q = q;
          phase = refl;
          metadata = one.then.0;
          log = two.then.0;
        };
      })
      ((metadata_asked, log_asked, λ v is none other. (let same : q ≡ v = cc in let k : Some (Confirms i one.then.0.read one.then.0.end) ≡ None = sym one.then.0.for ∙ ap (purpose_of n.sent) same ∙ none in cc), tt), tt)

  -- what is left of a range that is taken
  abbrev pub taken : ℕ → RangeOutcome
  taken until = record { after = Some (new_range d range (generation i) until); count = suc d.count; packets = open_packet d.server range (generation i) (request d) ∷ []; notes = [] }

  -- an incarnation that has done nothing takes the range
  pub assigned_both : (until : ℕ) → m.stand.phase ≡ turns.Idle → l.stand.phase ≡ turns.Idle → RuleGoes generation range w i m l d (taken until)
  assigned_both until metadata_idle log_idle =
      let q : ReqNo = request d in
      let one = assigned_goes generation (metadata_of range) w i m.sent q metadata_fresh m.stand metadata_idle in
      let two = assigned_goes generation (log_of range) w i l.sent q log_fresh l.stand log_idle in
      let n : Side = record { stand = after_turns generation i m.stand one.list; sent = sent_with q one.purpose m.sent } in
      let k : Side = record { stand = after_turns generation i l.stand two.list; sent = sent_with q two.purpose l.sent } in
      both_step generation range w i m l d by _ _ None None one two _ _ []
      (subst (λ z. Apart z k.sent) (sym one.then.1)
      (subst (λ z. Apart (asks q (Opens i) m.sent) z) (sym two.then.1) (apart_shared m.sent l.sent q (Opens i) (Opens i) refl refl by.apart)))
      (record {
        range_is = refl;
        under = refl;
        calm = λ u. (refl, refl);
        rows = record { stream = refl; listed = λ x here. absurd (omega (arith, here.1)); job = tt };
        stage = record {
          q = q;
          phase = refl;
          metadata = one.then.0;
          log = two.then.0;
          metadata_idle = refl;
          log_idle = refl;
        };
      })
      ((open_asked generation (metadata_of range) w i n.stand n.sent q one.then.0, open_asked generation (log_of range) w i k.stand k.sent q two.then.0, λ v is none other. (let same : q ≡ v = cc in let k : Some (Opens i) ≡ None = sym one.then.0.for ∙ ap (purpose_of n.sent) same ∙ none in cc), tt), tt)
