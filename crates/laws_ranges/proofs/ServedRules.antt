-- What the rules of a range that is served do to both of its streams.
use Rattle.std.proofs.Common.{◌≡◌, ◌⊎◌, ⊎_elim, ℕ, suc, ◌+◌, ◌≤◌, List, [], ◌∷◌, ◌++◌, Bool, true, false, not, ◌&&◌, ◌^◌, nat_lt, ◌-◌, length, flat_map, Option, Some, None, is_some, option_to_list, refl, sym, ap, ◌∙◌, subst, inl, inr, arith, if◌then◌else◌}
use Rattle.wire.specs.declared.actor.ActorId.{ActorId}
use Rattle.wire.specs.declared.actor.ReqNo.{ReqNo}
use Rattle.wire.specs.declared.actor.ReqNo.TheVariants as requests
use Rattle.wire.specs.declared.body.AppendBody.TheVariants as appends
use Rattle.wire.specs.declared.body.CheckBody.TheVariants as checks
use Rattle.wire.specs.declared.body.SealBody.TheVariants as seals
use Rattle.wire.specs.declared.body.ReadBody.TheVariants as reads
use Rattle.wire.specs.declared.body.StreamBody.TheVariants as streams
use Rattle.wire.specs.declared.body.Body.{Body}
use Rattle.wire.specs.declared.body.Body.TheVariants as bodies
use Rattle.wire.specs.declared.packet.Packet.{Packet}
use Rattle.wire.specs.declared.refusal.Refusal.{Refusal}
use Rattle.wire.specs.declared.streams.StreamKind.TheVariants as kinds
use Rattle.wire.specs.declared.streams.StreamName.{StreamName}
use Rattle.wire.specs.declared.transaction.Change.{Change}
use Rattle.client.specs.declared.job.News.{News}
use Rattle.client.specs.declared.job.News.TheVariants as news
use Rattle.client.specs.Client.{ClientState, Outcome, reply_rule}
use Rattle.client.specs.Requests.{is_same}
use Rattle.model_streams.specs.StreamSystem.{StreamSystem}
use Rattle.model_partition.specs.declared.server_context.ServerContext.{ServerContext}
use Rattle.model_partition.specs.declared.stage.Stage.TheVariants as stages
use Rattle.model_partition.specs.Range.{OutGroup, RangeState, request, goes, answers, picking, is_serving}
use Rattle.model_partition.specs.Loading.{log_news}
use Rattle.model_partition.specs.Serving.{group_count, appends as appending, forms, log_done, transacts, record_of, out_size}
use Rattle.commitlog.specs.Places.{kept}
use Rattle.memtable.specs.Entries.{put_all}
use Rattle.model_partition.specs.Answering.{serving_news, log_taken, log_reply, is_taken, groups_of}
use Rattle.model_histories.specs.StreamMachine as machine
use Rattle.replica.specs.Groups.{Group}
use Rattle.laws_stream_machine.specs.Refinement.{Purpose, Sent, purpose_of, asked_number, Opens, Checks, Seals, Reads, Confirms, Appends, Extends, IsAt, AsksToAppend, AsksToCheck, AsksToRead, AsksToSeal, OfExtent, IsAsked}
use Rattle.laws_stream_machine.proofs.ServerRequests.{same_request}
use Rattle.laws_ranges.specs.Serves.{Side, IsPlain, metadata_of, log_of, is_alone, sent_with, IsNumbered, IsOwn, AreAsked, Apart, BothListed, AreUnused, BuildsNone, AskedOfBoth}
use Rattle.laws_ranges.proofs.MachineSteps.{newest}

-- ---- numbers

number_of_server : (d : ServerContext) (k : ℕ) (r : ReqNo) → is_same (request d) r ≡ true → r ≡ requests.Server d.server d.session k → d.count ≡ k
number_of_server d k r t e = let z : requests.Server d.server d.session d.count ≡ requests.Server d.server d.session k = same_request (request d) r t ∙ e in cc

-- one more request keeps the later numbers unused
pub unused_on : (d : ServerContext) (count : ℕ) (o : Option Purpose) (sent : List Sent) → AreUnused d d.count sent → (count ≡ suc d.count) ⊎ ((count ≡ d.count) × (o ≡ None)) → AreUnused d count (sent_with (request d) o sent)
unused_on d count None sent u c k le = u k (⊎_elim {C = d.count ≤ k} (λ e. omega (arith, e, le)) (λ e. (let z : count ≡ d.count = e.0 in omega (arith, z, le))) c)
unused_on d count (Some p) sent u (inr c) k le = absurd (let z : Some p ≡ None = c.1 in cc)
unused_on d count (Some p) sent u (inl c) k le = go (is_same (request d) (requests.Server d.server d.session k)) refl
  where
    go : (b : Bool) → is_same (request d) (requests.Server d.server d.session k) ≡ b → (if b then Some p else purpose_of sent (requests.Server d.server d.session k)) ≡ None
    go true t = let same : d.count ≡ k = number_of_server d k (requests.Server d.server d.session k) t refl in absurd (omega (arith, same, c, le))
    go false t = u k (omega (arith, c, le))

pub same_unused : (d : ServerContext) (count : ℕ) (o : Option Purpose) (sent : List Sent) → AreUnused d d.count sent → (count ≡ suc d.count) ⊎ ((count ≡ d.count) × (o ≡ None)) → AreUnused d count sent
same_unused d count o sent u c k le = u k (⊎_elim {C = d.count ≤ k} (λ e. omega (arith, e, le)) (λ e. (let z : count ≡ d.count = e.0 in omega (arith, z, le))) c)

-- a number that neither list has may be used in one
pub apart_on : (m l : List Sent) (q : ReqNo) (o : Option Purpose) → Apart m l → purpose_of m q ≡ None → Apart m (sent_with q o l)
apart_on m l q None a fresh = a
apart_on m l q (Some p) a fresh = record { here = here; there = there }
  where
    there_by : (r : ReqNo) (z : Purpose) (b : Bool) → is_same q r ≡ b → (if b then Some p else purpose_of l r) ≡ Some z → is_alone z ≡ true → purpose_of m r ≡ None
    there_by r z true t e alone = subst (λ k. purpose_of m k ≡ None) (same_request q r t) fresh
    there_by r z false t e alone = a.there r z e alone

    there : (r : ReqNo) (z : Purpose) → purpose_of (record { request = q; purpose = p } ∷ l) r ≡ Some z → is_alone z ≡ true → purpose_of m r ≡ None
    there r z e alone = there_by r z (is_same q r) refl e alone

    here_by : (r : ReqNo) (z : Purpose) → purpose_of m r ≡ Some z → is_alone z ≡ true → (b : Bool) → is_same q r ≡ b → (if b then Some p else purpose_of l r) ≡ None
    here_by r z e alone true t = absurd (let k : purpose_of m r ≡ None = subst (λ k. purpose_of m k ≡ None) (same_request q r t) fresh in cc)
    here_by r z e alone false t = a.here r z e alone

    here : (r : ReqNo) (z : Purpose) → purpose_of m r ≡ Some z → is_alone z ≡ true → purpose_of (record { request = q; purpose = p } ∷ l) r ≡ None
    here r z e alone = here_by r z e alone (is_same q r) refl

-- ---- what a rule on the log keeps of a range that is served
pub record KeepsRest (r after : RangeState) : Type 0 where
  pub load : after.load ≡ r.load
  pub metadata : after.metadata ≡ r.metadata
  pub rows : after.rows ≡ r.rows
  pub said : after.said ≡ r.said
  pub control : after.control ≡ r.control

pub record Keeps (r : RangeState) (o : Option RangeState) : Type 0 where
  pub keeps : (after : RangeState) → o ≡ Some after → KeepsRest r after

-- ---- what is asked of one stream says nothing of the other

pub kinds_differ : (range : ℕ) → metadata_of range ≡ log_of range → ⊥
kinds_differ range e = let z : kinds.Metadata ≡ kinds.Log = ap (λ (n : StreamName). n.kind) e in cc

module _ (generation : ℕ → ℕ) (range : ℕ) (w : StreamSystem) (i : ℕ) (both : BothListed w range) where
  -- a request about an extent of the log alone, and any about the log alone, as the metadata's machine sees it
  other_extent : (s : machine.MachineState Group) (m l : List Sent) → Apart m l → (e : ℕ) (q : ReqNo) (Asks : ℕ → Type 0) → (index : ℕ) × IsAt w (log_of range) index e →
      IsNumbered generation (log_of range) w i l q → OfExtent generation (metadata_of range) w s m e q Asks
  other_extent s m l a e q Asks here number = record {
    made = both.log.made here.0 e here.1;
    unsealed = λ k at. absurd (both.apart k here.0 e at.0 here.1 at.1);
    known = λ p for. let c : None ≡ Some p = sym (a.there q number.0 number.1 number.2) ∙ for in absurd cc;
  }

  log_elsewhere : (s : machine.MachineState Group) (m l : List Sent) → Apart m l → (body : Body) → IsOwn generation (log_of range) w i l body → IsAsked generation (metadata_of range) w s m body
  log_elsewhere s m l a (bodies.Append (appends.Append e g blocks q)) b =
      other_extent s m l a e q (λ index. AsksToAppend generation (metadata_of range) w s m g e index blocks q) b.0 b.1
  log_elsewhere s m l a (bodies.Append body) b = absurd b
  log_elsewhere s m l a (bodies.Check (checks.Check e g q)) b =
      other_extent s m l a e q (λ index. AsksToCheck generation (metadata_of range) w s m g e index q) b.0 b.1
  log_elsewhere s m l a (bodies.Check body) b = absurd b
  log_elsewhere s m l a (bodies.Read (reads.ReadGroups e upto sealed q)) b =
      other_extent s m l a e q (λ index. AsksToRead generation (metadata_of range) w s m e index upto q) b.0 b.1
  log_elsewhere s m l a (bodies.Read body) b = absurd b
  log_elsewhere s m l a (bodies.Seal (seals.SealExtent e q)) b =
      other_extent s m l a e q (λ index. AsksToSeal generation (metadata_of range) w s m e index q) b.0 b.1
  log_elsewhere s m l a (bodies.Seal body) b = absurd b
  log_elsewhere s m l a (bodies.Stream (streams.Extend stream g last pick q)) b =
      record { here = λ same. absurd (kinds_differ range (sym same ∙ b.0)); elsewhere = λ other. a.there q b.1.0 b.1.1 b.1.2 }
  log_elsewhere s m l a (bodies.Stream body) b = absurd b
  log_elsewhere s m l a body b = absurd b

  -- what is about this stream alone has a purpose in it
  pub own_known : (name : StreamName) (sent : List Sent) (body : Body) → IsOwn generation name w i sent body → (q : ReqNo) → asked_number body ≡ Some q → purpose_of sent q ≡ None → ⊥
  own_known name sent (bodies.Append (appends.Append e g blocks q)) b v is none = let same : q ≡ v = cc in let k : Some b.1.0 ≡ None = sym b.1.1 ∙ ap (purpose_of sent) same ∙ none in cc
  own_known name sent (bodies.Append body) b v is none = absurd b
  own_known name sent (bodies.Check (checks.Check e g q)) b v is none = let same : q ≡ v = cc in let k : Some b.1.0 ≡ None = sym b.1.1 ∙ ap (purpose_of sent) same ∙ none in cc
  own_known name sent (bodies.Check body) b v is none = absurd b
  own_known name sent (bodies.Read (reads.ReadGroups e upto sealed q)) b v is none = let same : q ≡ v = cc in let k : Some b.1.0 ≡ None = sym b.1.1 ∙ ap (purpose_of sent) same ∙ none in cc
  own_known name sent (bodies.Read body) b v is none = absurd b
  own_known name sent (bodies.Seal (seals.SealExtent e q)) b v is none = let same : q ≡ v = cc in let k : Some b.1.0 ≡ None = sym b.1.1 ∙ ap (purpose_of sent) same ∙ none in cc
  own_known name sent (bodies.Seal body) b v is none = absurd b
  own_known name sent (bodies.Stream (streams.Extend stream g last pick q)) b v is none = let same : q ≡ v = cc in let k : Some b.1.0 ≡ None = sym b.1.1 ∙ ap (purpose_of sent) same ∙ none in cc
  own_known name sent (bodies.Stream body) b v is none = absurd b
  own_known name sent body b v is none = absurd b

  pub own_builds : (name : StreamName) (sent : List Sent) (body : Body) → IsOwn generation name w i sent body → BuildsNone body
  own_builds name sent (bodies.Stream (streams.MultiModify list q)) b = absurd b
  own_builds name sent body b = tt

  -- what says nothing of any stream builds none
  pub plain_builds : (p : Packet) → IsPlain generation range w i p → BuildsNone p.body
  plain_builds p plain = go p.body (λ name. plain bare name (machine.nothing Group generation) [])
    where
      -- where there is no stream
      bare : StreamSystem
      bare = record w { catalog = record w.catalog { stream = λ range kind. None } }

      go : (body : Body) → ((name : StreamName) → IsAsked generation name bare (machine.nothing Group generation) [] body) → BuildsNone body
      go (bodies.Stream (streams.MultiModify list q)) asked = λ m among. let (x, there) = asked m.stream m among refl in cc
      go body asked = tt

  -- and has no purpose
  abbrev Marked : ReqNo → Purpose → List Sent
  Marked q p = record { request = q; purpose = p } ∷ []

  pub plain_unasked : (p : Packet) → IsPlain generation range w i p → (q : ReqNo) → asked_number p.body ≡ Some q → ⊥
  plain_unasked p plain q is = go p.body refl is
    where
      s : machine.MachineState Group
      s = machine.nothing Group generation

      at : (z : Purpose) → purpose_of (Marked q z) q ≡ Some z
      at z = newest q z []

      go : (body : Body) → p.body ≡ body → asked_number body ≡ Some q → ⊥
      go (bodies.Append (appends.Append e g blocks v)) b t =
          let a = subst (IsAsked generation (log_of range) w s (Marked q (Opens i))) b (plain w (log_of range) s (Marked q (Opens i))) in
          let same : v ≡ q = cc in
          let here : purpose_of (Marked q (Opens i)) v ≡ Some (Opens i) = ap (purpose_of (Marked q (Opens i))) same ∙ at (Opens i) in
          let (index, there, y) = a.known (Opens i) here in
          let k : Some (Opens i) ≡ Some (Appends y.i index y.append blocks) = sym here ∙ y.for in
          cc
      go (bodies.Check (checks.Check e g v)) b t =
          let a = subst (IsAsked generation (log_of range) w s (Marked q (Opens i))) b (plain w (log_of range) s (Marked q (Opens i))) in
          let same : v ≡ q = cc in
          let here : purpose_of (Marked q (Opens i)) v ≡ Some (Opens i) = ap (purpose_of (Marked q (Opens i))) same ∙ at (Opens i) in
          let (index, there, y) = a.known (Opens i) here in
          let k : Some (Opens i) ≡ Some (Checks y.i index) = sym here ∙ y.for in
          cc
      go (bodies.Read (reads.ReadGroups e upto sealed v)) b t =
          let a = subst (IsAsked generation (log_of range) w s (Marked q (Opens i))) b (plain w (log_of range) s (Marked q (Opens i))) in
          let same : v ≡ q = cc in
          let here : purpose_of (Marked q (Opens i)) v ≡ Some (Opens i) = ap (purpose_of (Marked q (Opens i))) same ∙ at (Opens i) in
          let (index, there, y) = a.known (Opens i) here in
          let k : Some (Opens i) ≡ Some (Reads y.i index upto) = sym here ∙ y.for in
          cc
      go (bodies.Seal (seals.SealExtent e v)) b t =
          let a = subst (IsAsked generation (log_of range) w s (Marked q (Opens i))) b (plain w (log_of range) s (Marked q (Opens i))) in
          let same : v ≡ q = cc in
          let here : purpose_of (Marked q (Opens i)) v ≡ Some (Opens i) = ap (purpose_of (Marked q (Opens i))) same ∙ at (Opens i) in
          let (index, there, y) = a.known (Opens i) here in
          let k : Some (Opens i) ≡ Some (Seals y.i index) = sym here ∙ y.for in
          cc
      go (bodies.Stream (streams.OpenStreams r g v)) b t =
          let a = subst (IsAsked generation (log_of range) w s (Marked q (Checks i 0))) b (plain w (log_of range) s (Marked q (Checks i 0))) in
          let none = a.elsewhere (λ here. (let y = a.here here in let same : v ≡ q = cc in let k : Some (Checks i 0) ≡ Some (Opens y.i) = sym (at (Checks i 0)) ∙ ap (purpose_of (Marked q (Checks i 0))) (sym same) ∙ y.for in cc)) in
          let same : v ≡ q = cc in let k : Some (Checks i 0) ≡ None = sym (at (Checks i 0)) ∙ ap (purpose_of (Marked q (Checks i 0))) (sym same) ∙ none in cc
      go (bodies.Stream (streams.Confirm r g v)) b t =
          let a = subst (IsAsked generation (log_of range) w s (Marked q (Opens i))) b (plain w (log_of range) s (Marked q (Opens i))) in
          let none = a.elsewhere (λ here. (let y = a.here here in let same : v ≡ q = cc in let k : Some (Opens i) ≡ Some (Confirms y.i y.read y.end) = sym (at (Opens i)) ∙ ap (purpose_of (Marked q (Opens i))) (sym same) ∙ y.for in cc)) in
          let same : v ≡ q = cc in let k : Some (Opens i) ≡ None = sym (at (Opens i)) ∙ ap (purpose_of (Marked q (Opens i))) (sym same) ∙ none in cc
      go (bodies.Stream (streams.Extend stream g last pick v)) b t =
          let a = subst (IsAsked generation (log_of range) w s (Marked q (Opens i))) b (plain w (log_of range) s (Marked q (Opens i))) in
          let none = a.elsewhere (λ here. (let y = a.here here in let same : v ≡ q = cc in let k : Some (Opens i) ≡ Some (Extends y.i y.n) = sym (at (Opens i)) ∙ ap (purpose_of (Marked q (Opens i))) (sym same) ∙ y.for in cc)) in
          let same : v ≡ q = cc in let k : Some (Opens i) ≡ None = sym (at (Opens i)) ∙ ap (purpose_of (Marked q (Opens i))) (sym same) ∙ none in cc
      go body b t = absurd cc

  pub asked_of_both : (after : Option RangeState) (n k : Side) → Apart n.sent k.sent → (ps : List Packet) → AreAsked generation range w i (log_of range) k.stand k.sent ps → AskedOfBoth generation range w i after n k ps
  asked_of_both after n k a [] asked = tt
  asked_of_both after n k a (p ∷ ps) (inl plain, asked) =
      ((plain w (metadata_of range) n.stand.state n.sent, plain w (log_of range) k.stand.state k.sent, λ q is one two. absurd (plain_unasked p plain q is), plain_builds p plain), asked_of_both after n k a ps asked)
  asked_of_both after n k a (p ∷ ps) (inr own, asked) = ((log_elsewhere n.stand.state n.sent k.sent a p.body own.1, own.0, λ q is one two. absurd (own_known (log_of range) k.sent p.body own.1 q is two), own_builds (log_of range) k.sent p.body own.1), asked_of_both after n k a ps asked)

  -- ---- what a rule of a range that is served keeps

  all_kept : (r : RangeState) → KeepsRest r r
  all_kept r = record { load = refl; metadata = refl; rows = refl; said = refl; control = refl }

  keeps_some : (r after : RangeState) → KeepsRest r after → Keeps r (Some after)
  keeps_some r after k = record { keeps = λ z e. (let same : after ≡ z = cc in subst (λ v. KeepsRest r v) same k) }

  keeps_none : (r : RangeState) → Keeps r None
  keeps_none r = record { keeps = λ z e. absurd (cc) }

  forms_keep : (d : ServerContext) (r s : RangeState) → KeepsRest r s → Keeps r (forms d s).after
  forms_keep d r s k = go (not (is_some s.out) && (nat_lt 0 (group_count d s) && nat_lt (s.next + group_count d s) (2 ^ 64)))
    where
      go : (t : Bool) → Keeps r (if t then appending d s (group_count d s) else goes d s [] []).after
      go true = keeps_some r _ (record { load = k.load; metadata = k.metadata; rows = k.rows; said = k.said; control = k.control })
      go false = keeps_some r s k

  pub transacts_keep : (d : ServerContext) (r : RangeState) (from : ActorId) (v : ReqNo) (changes : List Change) (fault : Option Refusal) → Keeps r (transacts d r from v changes fault).after
  transacts_keep d r from v changes (Some refusal) = keeps_some r r (all_kept r)
  transacts_keep d r from v changes None =
      forms_keep d r (record r { queue = r.queue ++ record { from = from; request = v; changes = changes } ∷ [] })
      (record { load = refl; metadata = refl; rows = refl; said = refl; control = refl })

  done_keeps : (d : ServerContext) (r s : RangeState) (out : Option OutGroup) (e offset : ℕ) → KeepsRest r s → Keeps r (log_done d s out e offset).after
  done_keeps d r s None e offset k = keeps_some r s k
  done_keeps d r s (Some out) e offset k =
      forms_keep d r
      (record s {
        live = put_all s.live (flat_map (λ changes. changes) (kept (record_of out.first out.transactions) e offset));
        position = record { index = (s.log.base + length s.log.extents) - 1; offset = offset + out_size out };
        out = None;
      })
      (record { load = k.load; metadata = k.metadata; rows = k.rows; said = k.said; control = k.control })

  -- but for the client of its log
  log_only : (r : RangeState) (c : ClientState) → KeepsRest r (record r { log = c })
  log_only r c = record { load = refl; metadata = refl; rows = refl; said = refl; control = refl }

  news_keep : (d : ServerContext) (r : RangeState) (c : ClientState) (told : Option News) (ps : List Packet) → Keeps r (serving_news d (record r { log = c }) told ps).after
  news_keep d r c None ps = keeps_some r _ (log_only r c)
  news_keep d r c (Some news.Fenced) ps = keeps_none r
  news_keep d r c (Some (news.Appended e offset)) ps = done_keeps d r (record r { log = c }) r.out e offset (log_only r c)
  news_keep d r c (Some (news.Checked e found)) ps = keeps_some r _ (log_only r c)
  news_keep d r c (Some (news.Sealed e l)) ps = keeps_some r _ (log_only r c)
  news_keep d r c (Some (news.Content e upto)) ps = keeps_some r _ (log_only r c)

  pub reply_keeps : (d : ServerContext) (r : RangeState) (body : Body) → r.stage ≡ stages.Serving → Keeps r (log_reply d r body).after
  reply_keeps d r body stage = go (is_taken r body)
    where
      o : Outcome
      o = reply_rule (picking d r.log) (request d) body

      go : (t : Bool) → Keeps r (if t then log_taken d r body else answers d r []).after
      go true =
          subst (λ z. Keeps r (if is_serving z then serving_news d (record r { log = o.after }) o.news (option_to_list o.packet)
          else log_news d (record r { log = o.after }) (groups_of body) z o.news (option_to_list o.packet)).after) (sym stage)
          (news_keep d r o.after o.news (option_to_list o.packet))
      go false = keeps_some r r (all_kept r)
