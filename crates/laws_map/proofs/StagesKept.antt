-- Where splits at servers stand, what was asked there, that the streams of a split's two ranges come to be together, and who is told of them: the stream
-- layer, the map and servers keep it.
use Rattle.std.proofs.Common.{◌≡◌, ◌⊎◌, ℕ, zero, suc, ◌-◌, ◌≤◌, ◌==◌, Bool, true, false, List, [], ◌∷◌, ◌++◌, Some, slice_set, Contains, refl, sym, ap, ◌∙◌, subst, inl, inr, arith}
use Rattle.std.specs.Prelude.{drop}
use Rattle.std.proofs.lemmas.Bool.{eqb-true, eqb-false}
use Rattle.std.proofs.lemmas.Option.{same_Some}
use Rattle.std.proofs.lemmas.List.Elements.{Contains-append_left, Contains-append_cases}
use Rattle.wire.specs.declared.actor.ActorId.{ActorId}
use Rattle.wire.specs.declared.actor.ActorId.TheVariants.{Server}
use Rattle.wire.specs.declared.actor.ReqNo.{ReqNo}
use Rattle.wire.specs.declared.body.MapBody.TheVariants as maps
use Rattle.wire.specs.declared.body.StreamBody.TheVariants as streams
use Rattle.wire.specs.declared.body.Body.TheVariants as bodies
use Rattle.wire.specs.declared.note.Note.{Note}
use Rattle.wire.specs.declared.packet.Packet.{Packet}
use Rattle.wire.specs.declared.streams.Modify.{Modify}
use Rattle.wire.specs.declared.streams.StreamKind.TheVariants as kinds
use Rattle.wire.specs.declared.streams.StreamName.{StreamName}
use Rattle.streams.specs.Streams.{Streams}
use Rattle.model_streams.specs.Actors.{is_user}
use Rattle.model_streams.specs.Maps.{entry_at}
use Rattle.model_streams.specs.Outcome.{packet}
use Rattle.model_streams.specs.StreamSystem.{StreamSystem, is_request}
use Rattle.model_partition.specs.declared.split_job.SplitJob.{SplitJob}
use Rattle.model_partition.specs.Answering.{is_answerer}
use Rattle.model_partition.specs.Server.{ServerState, ServerOutcome}
use Rattle.model_partition.specs.Servers.{ServerCell}
use Rattle.model_partition.specs.Splits.{all_streams}
use Rattle.laws_servers.specs.Sending.{IsFromServer, AllFromServers}
use Rattle.laws_map.specs.Naming.{Each, Knowledge, IsBuilt, BodyNames, PacketNames}
use Rattle.laws_map.specs.Generations.{HasAsked}
use Rattle.laws_map.specs.GivenPairs.{GivenPair, given_to, HasNumber, AreGivenBelow, AsksToComplete, giving}
use Rattle.laws_map.specs.Openings.{AsksToSplit}
use Rattle.laws_map.specs.Stages.{TellsBuilt, StagesGo}
use Rattle.laws_map.proofs.Knowing.{each_has}
use Rattle.laws_map.proofs.AskedNumbers.{ServersOn, entry_set, entry_other}
use Rattle.laws_map.proofs.ServerLoads.{ServerGoes}
use Rattle.laws_map.proofs.OneOpening.{Whole}
use Rattle.laws_map.proofs.GivenPairs.{given_below, given_over, given_once}
use Rattle.laws_map.proofs.ServerStages.{AreHeld}
use Rattle.laws_map.proofs.StagesStand.{AsksList, AsksBuild, AreThere, StagesStand, same_split, same_streams, IsApart, HaveNoMore, quiet_stand, server_stand}
use Rattle.laws_map.proofs.ManagerBirths.{IsIn, AllIn, AllApart, IsListed}
use Rattle.laws_map.proofs.LayerBirths.{HeardOf, Brings}

-- ---- what is kept

-- a stream of a range of no split, or of one of the two of a split for whose streams somebody asked, which are all there
abbrev pub IsTogether : List Packet → Streams → StreamName → Type 0
IsTogether post ss name =
    (name.range ≤ 1) ⊎ ((job : SplitJob) × AsksBuild post job × ((name.range ≡ job.low) ⊎ (name.range ≡ job.high)) × AllIn ss (all_streams job))

pub record Stand (w : StreamSystem) (servers : List ServerCell) : Type 0 where
  pub stages : StagesStand w.post (IsIn w.catalog.stream) servers
  pub told : (p : Packet) → Contains w.post p → (q : ReqNo) → TellsBuilt q p.body → (is_user p.to ≡ true) ⊎ ((is_answerer p.from p.body ≡ false) ⊎ HeardOf w.post w.catalog.stream q)
  pub together : (name : StreamName) → IsIn w.catalog.stream name → IsTogether w.post w.catalog.stream name
  pub held : (s : ℕ) (cell : ServerCell) (st : ServerState) → entry_at servers s ≡ Some cell → cell.state ≡ Some st → AreHeld st

-- ---- the pairs that were given

-- each of the streams is of one of the two ranges
pub sides_of : (job : SplitJob) → Each (λ (m : Modify). (m.stream.range ≡ job.low) ⊎ (m.stream.range ≡ job.high)) (all_streams job)
sides_of job = (inl refl, (inl refl, (inl refl, (inl refl, (inr refl, (inr refl, (inr refl, (inr refl, tt))))))))

-- a split for whose streams somebody asked
pub record IsGiven (given : List GivenPair) (asks : List Packet) (job : SplitJob) : Type 0 where
  pub key : List ℕ
  pub pair : Contains given (given_to job.range job.generation key job.low job.high)
  pub request : ReqNo
  pub asked : HasAsked asks request job.range job.generation key

module _ (w : StreamSystem) (given : List GivenPair) (asks : List Packet) (next : ℕ) (below : AreGivenBelow next given) (names : (p : Packet) → Contains w.post p → PacketNames (giving given asks w.post next) p) where
  abbrev K : Knowledge
  K = giving given asks w.post next

  -- a list that was asked for is of a split with its pair
  pub list_of : (p : Packet) → Contains w.post p → (list : List Modify) (q : ReqNo) → p.body ≡ bodies.Stream (streams.MultiModify list q) → IsBuilt K list
  list_of p there list q is = elim (names p there) [
    | inl user ↦ absurd (let z : is_request (bodies.Stream (streams.MultiModify list q)) ≡ true = subst (λ b. is_request b ≡ true) is user.1 in cc)
    | inr known ↦ subst (BodyNames K) is known
  ]

  pub given_of : (job : SplitJob) → AsksBuild w.post job → IsGiven given asks job
  given_of job (q, a) =
      let b : IsBuilt K (all_streams job) = list_of a.packet a.sent (all_streams job) q a.is in
      let same = same_split job b.job b.is in
      let pair : given_to b.job.range b.job.generation b.job.key b.job.low b.job.high ≡ given_to job.range job.generation b.job.key job.low job.high =
      (λ i. given_to (sym same.0 i) (sym same.1 i) b.job.key (sym same.2 i) (sym same.3 i)) in
      record {
        key = b.job.key;
        pair = subst (Contains given) pair b.split.0;
        request = b.split.1.0;
        asked = subst (λ n. HasAsked asks b.split.1.0 n job.generation b.job.key) (sym same.0) (subst (λ g. HasAsked asks b.split.1.0 b.job.range g b.job.key) (sym same.1) b.split.1.1);
      }

  -- a number is of one split
  pub same_of : (a b : SplitJob) → IsGiven given asks a → IsGiven given asks b → (n : ℕ) → (n ≡ a.low) ⊎ (n ≡ a.high) → (n ≡ b.low) ⊎ (n ≡ b.high) → all_streams a ≡ all_streams b
  same_of a b x y n one two =
      let pairs : given_to a.range a.generation x.key a.low a.high ≡ given_to b.range b.generation y.key b.low b.high =
      given_once next given n (given_to a.range a.generation x.key a.low a.high) (given_to b.range b.generation y.key b.low b.high) below x.pair y.pair (has a x.key one) (has b y.key two) in
      same_streams a b (ap (λ (p : GivenPair). p.range) pairs) (ap (λ (p : GivenPair). p.generation) pairs) (ap (λ (p : GivenPair). p.low) pairs) (ap (λ (p : GivenPair). p.high) pairs)
    where
      has : (j : SplitJob) (key : List ℕ) → (n ≡ j.low) ⊎ (n ≡ j.high) → HasNumber n (given_to j.range j.generation key j.low j.high)
      has j key (inl e) = inl (sym e)
      has j key (inr e) = inr (sym e)

  -- its numbers are different, and above the first range's
  pub apart_of : (job : SplitJob) → IsGiven given asks job → (job.low ≡ job.high → ⊥) × ((n : ℕ) → (n ≡ job.low) ⊎ (n ≡ job.high) → n ≤ 1 → ⊥)
  apart_of job x =
      let b = given_below next given (given_to job.range job.generation x.key job.low job.high) below x.pair in
      let o = given_over next given (given_to job.range job.generation x.key job.low job.high) below x.pair in
      let apart = b.0 in (
        λ same. absurd (omega (arith, apart, same)),
        λ n is small. elim is [ inl e ↦ absurd (omega (arith, e, small, o)) | inr e ↦ absurd (omega (arith, e, small, o, apart)) ],
      )

  -- the name is none of the list's
  from : (name : StreamName) (list : List Modify) → Each (λ (n : Modify). name ≡ n.stream → ⊥) list → (n : Modify) → Contains list n → name ≡ n.stream → ⊥
  from name list each n among = each_has (λ (m : Modify). name ≡ m.stream → ⊥) list n each among

  all_apart : (job : SplitJob) → (job.low ≡ job.high → ⊥) → AllApart (all_streams job)
  all_apart job apart = (
    from (record { range = job.low; kind = kinds.Metadata }) (drop 1 (all_streams job)) ((λ e. let c : kinds.Metadata ≡ kinds.Log = ap (λ (n : StreamName). n.kind) e in cc), ((λ e. let c : kinds.Metadata ≡ kinds.RowData = ap (λ (n : StreamName). n.kind) e in cc), ((λ e. let c : kinds.Metadata ≡ kinds.BlobData = ap (λ (n : StreamName). n.kind) e in cc), ((λ e. apart (ap (λ (n : StreamName). n.range) e)), ((λ e. let c : kinds.Metadata ≡ kinds.Log = ap (λ (n : StreamName). n.kind) e in cc), ((λ e. let c : kinds.Metadata ≡ kinds.RowData = ap (λ (n : StreamName). n.kind) e in cc), ((λ e. let c : kinds.Metadata ≡ kinds.BlobData = ap (λ (n : StreamName). n.kind) e in cc), tt))))))),
    (
      from (record { range = job.low; kind = kinds.Log }) (drop 2 (all_streams job)) ((λ e. let c : kinds.Log ≡ kinds.RowData = ap (λ (n : StreamName). n.kind) e in cc), ((λ e. let c : kinds.Log ≡ kinds.BlobData = ap (λ (n : StreamName). n.kind) e in cc), ((λ e. let c : kinds.Log ≡ kinds.Metadata = ap (λ (n : StreamName). n.kind) e in cc), ((λ e. apart (ap (λ (n : StreamName). n.range) e)), ((λ e. let c : kinds.Log ≡ kinds.RowData = ap (λ (n : StreamName). n.kind) e in cc), ((λ e. let c : kinds.Log ≡ kinds.BlobData = ap (λ (n : StreamName). n.kind) e in cc), tt)))))),
      (
        from (record { range = job.low; kind = kinds.RowData }) (drop 3 (all_streams job)) ((λ e. let c : kinds.RowData ≡ kinds.BlobData = ap (λ (n : StreamName). n.kind) e in cc), ((λ e. let c : kinds.RowData ≡ kinds.Metadata = ap (λ (n : StreamName). n.kind) e in cc), ((λ e. let c : kinds.RowData ≡ kinds.Log = ap (λ (n : StreamName). n.kind) e in cc), ((λ e. apart (ap (λ (n : StreamName). n.range) e)), ((λ e. let c : kinds.RowData ≡ kinds.BlobData = ap (λ (n : StreamName). n.kind) e in cc), tt))))),
        (
          from (record { range = job.low; kind = kinds.BlobData }) (drop 4 (all_streams job)) ((λ e. let c : kinds.BlobData ≡ kinds.Metadata = ap (λ (n : StreamName). n.kind) e in cc), ((λ e. let c : kinds.BlobData ≡ kinds.Log = ap (λ (n : StreamName). n.kind) e in cc), ((λ e. let c : kinds.BlobData ≡ kinds.RowData = ap (λ (n : StreamName). n.kind) e in cc), ((λ e. apart (ap (λ (n : StreamName). n.range) e)), tt)))),
          (
            from (record { range = job.high; kind = kinds.Metadata }) (drop 5 (all_streams job)) ((λ e. let c : kinds.Metadata ≡ kinds.Log = ap (λ (n : StreamName). n.kind) e in cc), ((λ e. let c : kinds.Metadata ≡ kinds.RowData = ap (λ (n : StreamName). n.kind) e in cc), ((λ e. let c : kinds.Metadata ≡ kinds.BlobData = ap (λ (n : StreamName). n.kind) e in cc), tt))),
            (
              from (record { range = job.high; kind = kinds.Log }) (drop 6 (all_streams job)) ((λ e. let c : kinds.Log ≡ kinds.RowData = ap (λ (n : StreamName). n.kind) e in cc), ((λ e. let c : kinds.Log ≡ kinds.BlobData = ap (λ (n : StreamName). n.kind) e in cc), tt)),
              (
                from (record { range = job.high; kind = kinds.RowData }) (drop 7 (all_streams job)) ((λ e. let c : kinds.RowData ≡ kinds.BlobData = ap (λ (n : StreamName). n.kind) e in cc), tt),
                (
                  from (record { range = job.high; kind = kinds.BlobData }) (drop 8 (all_streams job)) tt,
                  tt,
                ),
              ),
            ),
          ),
        ),
      ),
    ),
  )

  pub lists_apart : (p : Packet) → Contains w.post p → (list : List Modify) (q : ReqNo) → p.body ≡ bodies.Stream (streams.MultiModify list q) → AllApart list
  lists_apart p there list q is =
      let b : IsBuilt K list = list_of p there list q is in
      subst AllApart (sym b.is) (all_apart b.job (λ same. (let l = (given_below next given (given_to b.job.range b.job.generation b.job.key b.job.low b.job.high) below b.split.0).0 in absurd (omega (arith, l, same)))))

  asked_split : ((p : Packet) → Contains asks p → Contains w.post p) → (job : SplitJob) → AsksBuild w.post job → (key : List ℕ) × AsksToSplit w.post job.range job.generation key
  asked_split sent job a = let x = given_of job a in (x.key, (x.request, record { packet = x.asked.packet; sent = sent x.asked.packet x.asked.sent; is = x.asked.is }))

  asked_end : ((p : Packet) → Contains asks p → Contains w.post p) → (range generation : ℕ) → AsksToComplete w.post range generation → (key : List ℕ) × AsksToSplit w.post range generation key
  asked_end sent range generation a = elim (names a.packet a.sent) [
    | inl user ↦ absurd (let z : is_request (bodies.Map (maps.CompleteSplit range generation a.request)) ≡ true = subst (λ b. is_request b ≡ true) a.is user.1 in cc)
    | inr known ↦ (
        let k : BodyNames K (bodies.Map (maps.CompleteSplit range generation a.request)) = subst (BodyNames K) a.is known in
        (k.1.key, (k.1.split.1.0, record { packet = k.1.split.1.1.packet; sent = sent k.1.split.1.1.packet k.1.split.1.1.sent; is = k.1.split.1.1.is }))
        )
  ]

-- ---- more is there

module _ (w v : StreamSystem) (grows : (p : Packet) → Contains w.post p → Contains v.post p) (stay : (name : StreamName) → IsIn w.catalog.stream name → IsIn v.catalog.stream name) where
  all_later : (list : List Modify) → AllIn w.catalog.stream list → AllIn v.catalog.stream list
  all_later list all m among = stay m.stream (all m among)

  heard_later : (q : ReqNo) → HeardOf w.post w.catalog.stream q → HeardOf v.post v.catalog.stream q
  heard_later q h = record {
    taken = h.taken;
    sent = grows h.taken h.sent;
    hears = record { list = h.hears.list; body = h.hears.body; there = elim h.hears.there [ inl all ↦ inl (all_later h.hears.list all) | inr one ↦ inr (one.0, one.1, stay one.0.stream one.2) ] };
  }

  build_on : (job : SplitJob) → AsksBuild w.post job → AsksBuild v.post job
  build_on job (q, a) = (q, record { packet = a.packet; sent = grows a.packet a.sent; is = a.is })

  together_later : (name : StreamName) → IsTogether w.post w.catalog.stream name → IsTogether v.post v.catalog.stream name
  together_later name (inl small) = inl small
  together_later name (inr (job, asks, side, all)) = inr (job, build_on job asks, side, all_later (all_streams job) all)

-- ---- the stream layer and the map, and servers that only stop, start or wait

module _ (w : StreamSystem) (servers : List ServerCell) (x : Stand w servers) (given : List GivenPair) (asks : List Packet) (next : ℕ) (below : AreGivenBelow next given)
    (names : (p : Packet) → Contains w.post p → PacketNames (giving given asks w.post next) p) where
  pub quiet_stands : (v : StreamSystem) (new : List ServerCell) → ((p : Packet) → Contains w.post p → Contains v.post p) → ((name : StreamName) → IsIn w.catalog.stream name → IsIn v.catalog.stream name) →
      ((p : Packet) → Contains v.post p → Contains w.post p ⊎ IsApart p) → (Builds : StreamSystem → StreamName → Type 0) → ((name : StreamName) → Builds v name → (p : Packet) × Contains w.post p × IsListed w.catalog v.catalog.stream p name) → Brings w Builds v → ServersOn servers new → HaveNoMore servers new →
      ((s : ℕ) (cell : ServerCell) (st : ServerState) → entry_at new s ≡ Some cell → cell.state ≡ Some st → AreHeld st) → Stand v new
  quiet_stands v new grows stay apart Builds from_list brings on back held = record {
    stages = quiet_stand w.post v.post (IsIn w.catalog.stream) (IsIn v.catalog.stream) stay grows apart servers new on back x.stages;
    told = λ p there q tells. elim (brings.told p there q tells) [
      | inl old ↦ elim (x.told p old q tells) [ inl user ↦ inl user | inr more ↦ elim more [ inl none ↦ inr (inl none) | inr heard ↦ inr (inr (heard_later w v grows stay q heard)) ] ]
      | inr now ↦ elim now [
        | inl user ↦ inl user
        | inr heard ↦ inr (inr (record { taken = heard.taken; sent = grows heard.taken heard.sent; hears = heard.hears }))
      ]
    ];
    together = λ name there. elim (brings.born name there) [
      | inl old ↦ together_later w v grows stay name (x.together name old)
      | inr now ↦ elim now [
        | inl own ↦ inl (omega (arith, own))
        | inr b ↦ (let (p, sent, l) = from_list name b in inr (listed name p sent l))
      ]
    ];
    held = held;
  }
    where
      listed : (name : StreamName) (p : Packet) → Contains w.post p → IsListed w.catalog v.catalog.stream p name → (job : SplitJob) × AsksBuild v.post job × ((name.range ≡ job.low) ⊎ (name.range ≡ job.high)) × AllIn v.catalog.stream (all_streams job)
      listed name p sent l =
          let b = list_of w given asks next below names p sent l.list l.request l.body in
          let side = each_has (λ (m : Modify). (m.stream.range ≡ b.job.low) ⊎ (m.stream.range ≡ b.job.high)) (all_streams b.job) l.entry (sides_of b.job) (subst (λ list. Contains list l.entry) b.is l.among) in (
            b.job,
            (l.request, record { packet = p; sent = grows p sent; is = l.body ∙ ap (λ list. bodies.Stream (streams.MultiModify list l.request)) b.is }),
            subst (λ (n : StreamName). (n.range ≡ b.job.low) ⊎ (n.range ≡ b.job.high)) l.is side,
            subst (AllIn v.catalog.stream) b.is l.there,
          )

-- ---- a server goes on

module _ (w : StreamSystem) (servers : List ServerCell) (h : Whole w servers) (x : Stand w servers) (given : List GivenPair) (asks : List Packet) (next : ℕ) (below : AreGivenBelow next given)
    (names : (p : Packet) → Contains w.post p → PacketNames (giving given asks w.post next) p) (sent : (p : Packet) → Contains asks p → Contains w.post p) where
  -- who is told under the number that a split waits for hears that its streams are there
  pub heard_there : (s : ℕ) (p : Packet) → Contains w.post p → p.to ≡ Server s → (q : ReqNo) → is_answerer p.from p.body ≡ true → TellsBuilt q p.body → (job : SplitJob) (to : ActorId) →
      Contains w.post (packet (Server s) to (bodies.Stream (streams.MultiModify (all_streams job) q))) → AreThere (IsIn w.catalog.stream) (all_streams job)
  heard_there s p there to_server q may tells job to asked = elim (x.told p there q tells) [
    | inl user ↦ absurd (let z : false ≡ true = ap is_user (sym to_server) ∙ user in cc)
    | inr more ↦ elim more [
      | inl none ↦ absurd (let z : true ≡ false = sym may ∙ none in cc)
      | inr heard ↦ hears heard
    ]
  ]
    where
      mine : AsksList w.post (all_streams job) q
      mine = record { packet = packet (Server s) to (bodies.Stream (streams.MultiModify (all_streams job) q)); sent = asked; is = refl }

      hears : HeardOf w.post w.catalog.stream q → AreThere (IsIn w.catalog.stream) (all_streams job)
      hears heard =
          let same : heard.hears.list ≡ all_streams job = x.stages.once q heard.hears.list (all_streams job) (record { packet = heard.taken; sent = heard.sent; is = heard.hears.body }) mine in
          elim heard.hears.there [
            | inl all ↦ subst (AllIn w.catalog.stream) same all
            | inr one ↦ some one.0 (subst (λ l. Contains l one.0) same one.1) one.2
          ]
        where
          some : (m : Modify) → Contains (all_streams job) m → IsIn w.catalog.stream m.stream → AreThere (IsIn w.catalog.stream) (all_streams job)
          some m among here =
              let side = each_has (λ (m : Modify). (m.stream.range ≡ job.low) ⊎ (m.stream.range ≡ job.high)) (all_streams job) m (sides_of job) among in
              let own = given_of w given asks next below names job (q, mine) in
              elim (x.together m.stream here) [
                | inl small ↦ absurd ((apart_of w given asks next below names job own).1 m.stream.range side small)
                | inr (other, build, part, all) ↦ subst (AllIn w.catalog.stream) (same_of w given asks next below names other job (given_of w given asks next below names other build) own m.stream.range part side) all
              ]

  -- what a server sends says to nobody that streams are there
  from_server : (p : Packet) → IsFromServer p → (q : ReqNo) → TellsBuilt q p.body → is_answerer p.from p.body ≡ false
  from_server p f q (inl is) = ap (λ a. is_answerer a p.body) f.1 ∙ ap (is_answerer (Server f.0)) is
  from_server p f q (inr is) = ap (λ a. is_answerer a p.body) f.1 ∙ ap (is_answerer (Server f.0)) is

  one_from : (packets : List Packet) → AllFromServers packets → (p : Packet) → Contains packets p → IsFromServer p
  one_from [] all p (k, less, is) = absurd (omega (arith, less))
  one_from (y ∷ packets) all p (zero, less, is) = subst IsFromServer is all.0
  one_from (y ∷ packets) all p (suc k, less, is) = one_from packets all.1 p (k, omega (arith, less), is)

  module _ (Heard : ReqNo → Type 0) (s : ℕ) (c : ServerCell) (st : ServerState) (at : entry_at servers s ≡ Some c) (up : c.state ≡ Some st) (o : ServerOutcome) (notes : List Note) (goes : ServerGoes w.post st o) (go : StagesGo Heard st o) (all : AllFromServers o.packets)
      (heard : (q : ReqNo) → Heard q → (job : SplitJob) (to : ActorId) → Contains w.post (packet (Server s) to (bodies.Stream (streams.MultiModify (all_streams job) q))) → AreThere (IsIn w.catalog.stream) (all_streams job)) where
    abbrev later : StreamSystem
    later = record w { post = w.post ++ o.packets; notes = notes }

    abbrev now : List ServerCell
    now = slice_set servers (s - 1) (record c { state = Some o.after })

    grow : (p : Packet) → Contains w.post p → Contains later.post p
    grow p there = Contains-append_left w.post o.packets p there

    pub server_stands : Stand later now
    server_stands = record {
      stages = server_stand w (IsIn w.catalog.stream) servers h x.stages (asked_split w given asks next below names sent) (asked_end w given asks next below names sent) Heard s c st at up o goes go heard;
      told = λ p there q tells. elim (Contains-append_cases w.post o.packets p there) [
        | inl old ↦ elim (x.told p old q tells) [ inl user ↦ inl user | inr more ↦ elim more [ inl none ↦ inr (inl none) | inr hears ↦ inr (inr (heard_later w later grow (λ name here. here) q hears)) ] ]
        | inr new ↦ inr (inl (from_server p (one_from o.packets all p new) q tells))
      ];
      together = λ name here. together_later w later grow (λ n there. there) name (x.together name here);
      held = λ t cell z there is. by t cell z there is (t == s) refl;
    }
      where
        by : (t : ℕ) (cell : ServerCell) (z : ServerState) → entry_at now t ≡ Some cell → cell.state ≡ Some z → (b : Bool) → (t == s) ≡ b → AreHeld z
        by t cell z there is true e =
            let same : t ≡ s = eqb-true t s e in
            let own_cell : record c { state = Some o.after } ≡ cell = same_Some (record c { state = Some o.after }) cell (sym (entry_set servers s c (record c { state = Some o.after }) at) ∙ sym (ap (entry_at now) same) ∙ there) in
            let after : o.after ≡ z = same_Some o.after z (ap (λ (y : ServerCell). y.state) own_cell ∙ is) in
            subst AreHeld after (λ k job found. (go.jobs k job found).0)
        by t cell z there is false e = x.held t cell z (sym (entry_other servers s c (record c { state = Some o.after }) at t (λ same. absurd (eqb-false t s e same))) ∙ there) is
