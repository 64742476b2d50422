-- In a run without merges a range is asked to be split at one key under one generation: it is opened under that for one start of a server, which
-- begins a split of it only where none is under way.
use Rattle.std.proofs.Common.{◌≡◌, ◌⊎◌, ℕ, zero, suc, ◌-◌, ◌<◌, ◌==◌, Bool, true, false, List, [], ◌∷◌, ◌++◌, Some, None, slice_set, Contains, refl, sym, ap, ◌∙◌, subst, inl, inr, arith}
use Rattle.std.proofs.lemmas.Bool.Decides.{nat_tests}
use Rattle.std.proofs.lemmas.Option.{same_Some}
use Rattle.std.proofs.lemmas.List.Elements.{Contains-append_left, Contains-append_cases}
use Rattle.wire.specs.declared.actor.ActorId.TheVariants.{Map}
use Rattle.wire.specs.declared.actor.ReqNo.{ReqNo}
use Rattle.wire.specs.declared.actor.ReqNo.TheVariants as requests
use Rattle.wire.specs.declared.body.MapBody.TheVariants as maps
use Rattle.wire.specs.declared.body.StreamBody.TheVariants as streams
use Rattle.wire.specs.declared.body.Body.{Body}
use Rattle.wire.specs.declared.body.Body.TheVariants as bodies
use Rattle.wire.specs.declared.note.Note.{Note}
use Rattle.wire.specs.declared.packet.Packet.{Packet}
use Rattle.wire.specs.declared.streams.StreamKind.TheVariants.{Metadata}
use Rattle.streams.specs.Streams.{Stream}
use Rattle.model_streams.specs.Maps.{entry_at}
use Rattle.model_streams.specs.Outcome.{packet}
use Rattle.model_streams.specs.StreamSystem.{StreamSystem}
use Rattle.model_partition.specs.declared.stage.Stage.TheVariants as stages
use Rattle.model_partition.specs.Range.{request, is_serving}
use Rattle.model_partition.specs.Splits.{new_split, begin_packet}
use Rattle.model_partition.specs.Server.{ServerState, ServerOutcome, split_of}
use Rattle.model_partition.specs.Servers.{ServerCell}
use Rattle.laws_streams.specs.Fences.{Risen}
use Rattle.laws_map.specs.Naming.{Each}
use Rattle.laws_map.specs.Openings.{AreQuiet, IsQuiet, AsksToOpen, HasOpened, Grants, AsksToSplit, IsFenced, AreOpenedOnce, IsWaiting, IsOpening, AreOpening, OpeningIf, Speaks, IsSplitOnce, IsKnown}
use Rattle.laws_map.proofs.Knowing.{each_weaker, each_has, each_put, found_at}
use Rattle.laws_map.proofs.EventNames.{entry_is}
use Rattle.laws_map.proofs.AskedNumbers.{IsPast, AreThemselves, CellOn, one_on, stepped_cell, entry_set, entry_other}
use Rattle.laws_map.proofs.LayerOpenings.{Layered, IsOpened}
use Rattle.laws_map.proofs.ServerLoads.{asks_later, opened_later, opening_if_later, grown, OpensNow, SplitsNow, ServerGoes}

-- ---- the invariant

-- What is known of the openings and the splits of a cluster with this stream layer and these servers.
pub record Whole (w : StreamSystem) (servers : List ServerCell) : Type 0 where
  pub openings : AreOpenedOnce w.post w.catalog
  pub past : (range generation : ℕ) (q : ReqNo) → AsksToOpen w.post range generation q → IsPast servers q
  pub themselves : AreThemselves servers
  pub held : Each (λ (cell : ServerCell). OpeningIf w.post cell.state) servers
  pub splits : (range generation : ℕ) (key : List ℕ) → AsksToSplit w.post range generation key → IsSplitOnce w.post servers range generation key
  pub one : (range generation : ℕ) (key other : List ℕ) → AsksToSplit w.post range generation key → AsksToSplit w.post range generation other → key ≡ other

-- ---- a longer post of the same, and a map or a stream layer that goes on

module _ (w v : StreamSystem) (servers : List ServerCell) (l : Layered w v) (h : Whole w servers) where
  grants_later : (n g : ℕ) (q : ReqNo) → Grants w.post n g q → Grants v.post n g q
  grants_later n g q a = (asks_later w.post v.post l.post n g q a.0, opened_later w.post v.post l.post q a.1)

  asks_before : (n g : ℕ) (q : ReqNo) → AsksToOpen v.post n g q → AsksToOpen w.post n g q
  asks_before n g q a = elim (l.told a.packet a.sent) [
    | inl old ↦ record { packet = a.packet; sent = old; is = a.is }
    | inr new ↦ elim new [
      | inl quiet ↦ absurd (subst IsQuiet a.is quiet)
      | inr opened ↦ absurd (let z : bodies.Stream (streams.OpenStreams n g q) ≡ bodies.Stream (streams.Opened opened.request opened.lists) = sym a.is ∙ opened.is in cc)
    ]
  ]

  split_before : (n g : ℕ) (key : List ℕ) → AsksToSplit v.post n g key → AsksToSplit w.post n g key
  split_before n g key (q, a) = elim (l.told a.packet a.sent) [
    | inl old ↦ (q, record { packet = a.packet; sent = old; is = a.is })
    | inr new ↦ elim new [
      | inl quiet ↦ absurd (subst IsQuiet a.is quiet)
      | inr opened ↦ absurd (let z : bodies.Map (maps.BeginSplit n g key q) ≡ bodies.Stream (streams.Opened opened.request opened.lists) = sym a.is ∙ opened.is in cc)
    ]
  ]

  -- an opening under this number, with which the streams were told
  record OpenedNow (q : ReqNo) : Type 0 where
    told : Packet
    opened : IsOpened w v l.taken told
    number : opened.request ≡ q

  own_asks : (q : ReqNo) (o : OpenedNow q) → AsksToOpen w.post o.opened.range o.opened.generation q
  own_asks q o = record { packet = l.taken; sent = o.opened.sent; is = o.opened.asked ∙ ap (λ z. bodies.Stream (streams.OpenStreams o.opened.range o.opened.generation z)) o.number }

  opened_before : (q : ReqNo) → HasOpened v.post q → HasOpened w.post q ⊎ OpenedNow q
  opened_before q a = elim (l.told a.packet a.sent) [
    | inl old ↦ inl (record { packet = a.packet; lists = a.lists; sent = old; is = a.is })
    | inr new ↦ elim new [
      | inl quiet ↦ absurd (subst IsQuiet a.is quiet)
      | inr opened ↦ inr (record { told = a.packet; opened = opened; number = (let z : bodies.Stream (streams.Opened opened.request opened.lists) ≡ bodies.Stream (streams.Opened q a.lists) = sym opened.is ∙ a.is in cc) })
    ]
  ]

  fenced_later : (n g : ℕ) → IsFenced w.catalog n g → IsFenced v.catalog n g
  fenced_later n g f =
      let m : Risen f.stream (v.catalog.stream n 0) = l.rises (record { range = n; kind = Metadata }) f.stream f.there in
      record { stream = m.now; there = m.is; fence = (let a = f.fence in let b = m.fence in omega (arith, a, b)) }

  -- a generation that was granted is not opened again
  not_again : (n g : ℕ) (q r : ReqNo) → Grants w.post n g q → OpenedNow r → AsksToOpen w.post n g r → ⊥
  not_again n g q r granted o asks =
      let same = h.openings.once r n g o.opened.range o.opened.generation asks (own_asks r o) in
      let f = h.openings.fenced n g q granted in
      let low = o.opened.lower in
      let streams : f.stream ≡ low.stream = same_Some f.stream low.stream (sym f.there ∙ ap (λ k. w.catalog.stream k 0) same.0 ∙ low.there) in
      let a = f.fence in
      let b = low.fence in
      let c = ap (λ (s : Stream). s.fence) streams in
      let d = same.1 in
      omega (arith, a, b, c, d)

  -- two openings of one packet are one
  one_now : (q r : ReqNo) → OpenedNow q → OpenedNow r → q ≡ r
  one_now q r a b =
      let z : bodies.Stream (streams.OpenStreams a.opened.range a.opened.generation a.opened.request) ≡ bodies.Stream (streams.OpenStreams b.opened.range b.opened.generation b.opened.request) = sym a.opened.asked ∙ b.opened.asked in
      let s : a.opened.request ≡ b.opened.request = cc in
      sym a.number ∙ s ∙ b.number

  openings_later : AreOpenedOnce v.post v.catalog
  openings_later = record {
    once = λ q n g m k a b. h.openings.once q n g m k (asks_before n g q a) (asks_before m k q b);
    asked = λ q told. elim (opened_before q told) [
      | inl old ↦ (let x = h.openings.asked q old in (x.0, x.1, asks_later w.post v.post l.post x.0 x.1 q x.2))
      | inr now ↦ (now.opened.range, now.opened.generation, asks_later w.post v.post l.post now.opened.range now.opened.generation q (own_asks q now))
    ];
    fenced = λ n g q granted. elim (opened_before q granted.1) [
      | inl old ↦ fenced_later n g (h.openings.fenced n g q (asks_before n g q granted.0, old))
      | inr now ↦ (let same = h.openings.once q n g now.opened.range now.opened.generation (asks_before n g q granted.0) (own_asks q now) in
          subst (λ k. IsFenced v.catalog k g) (sym same.0) (subst (λ k. IsFenced v.catalog now.opened.range k) (sym same.1) now.opened.fenced))
    ];
    one = λ n g q r a b. elim (opened_before q a.1) [
      | inl old ↦ elim (opened_before r b.1) [
        | inl also ↦ h.openings.one n g q r (asks_before n g q a.0, old) (asks_before n g r b.0, also)
        | inr now ↦ absurd (not_again n g q r (asks_before n g q a.0, old) now (asks_before n g r b.0))
      ]
      | inr now ↦ elim (opened_before r b.1) [
        | inl also ↦ absurd (not_again n g r q (asks_before n g r b.0, also) now (asks_before n g q a.0))
        | inr other ↦ one_now q r now other
      ]
    ];
  }

  pub layered_whole : Whole v servers
  layered_whole = record {
    openings = openings_later;
    past = λ n g q a. h.past n g q (asks_before n g q a);
    themselves = h.themselves;
    held = each_weaker (λ (cell : ServerCell). OpeningIf w.post cell.state) (λ (cell : ServerCell). OpeningIf v.post cell.state) (λ cell o. opening_if_later w.post v.post l.post cell.state o) servers h.held;
    splits = λ n g key a.
        (let x = h.splits n g key (split_before n g key a) in
        record { server = x.server; session = x.session; count = x.count; granted = grants_later n g (requests.Server x.server x.session x.count) x.granted; speaks = x.speaks });
    one = λ n g key other a b. h.one n g key other (split_before n g key a) (split_before n g other b);
  }

-- quiet packets more
pub quiet_layer : (w : StreamSystem) (packets : List Packet) (notes : List Note) → AreQuiet packets → Layered w (record w { post = w.post ++ packets; notes = notes })
quiet_layer w packets notes quiet = record {
  post = λ p there. Contains-append_left w.post packets p there;
  taken = packet Map Map (bodies.Map (maps.Route [] requests.NoRequest));
  told = λ p there. elim (Contains-append_cases w.post packets p there) [ inl old ↦ inl old | inr new ↦ inr (inl (each_has (λ (x : Packet). IsQuiet x.body) packets p quiet new)) ];
  rises = λ s x is. record { now = x; is = is; fence = omega arith };
}

-- ---- a server that stops, starts or goes on without a packet

module _ (w : StreamSystem) (servers : List ServerCell) (h : Whole w servers) (s : ℕ) (c d : ServerCell) (at : entry_at servers s ≡ Some c) (on : CellOn s c d) (opening : OpeningIf w.post d.state)
    (says : (session : ℕ) → d.session ≡ session → (t : ServerState) → d.state ≡ Some t → (n g : ℕ) (key : List ℕ) (q : ReqNo) →
    ((cell : ServerCell) → c ≡ cell → cell.session ≡ session → (z : ServerState) → cell.state ≡ Some z → Speaks z n g key q) → Speaks t n g key q) where
  others_say : (n g : ℕ) (key : List ℕ) → (x : IsSplitOnce w.post servers n g key) → (cell : ServerCell) → entry_at (slice_set servers (s - 1) d) x.server ≡ Some cell → cell.session ≡ x.session →
      (t : ServerState) → cell.state ≡ Some t → Speaks t n g key (requests.Server x.server x.session x.count)
  others_say n g key x cell there session t is = go (x.server == s) refl
    where
      go : (b : Bool) → (x.server == s) ≡ b → Speaks t n g key (requests.Server x.server x.session x.count)
      go true e =
          let same : x.server ≡ s = grind (arith, nat_tests) in
          let own : d ≡ cell = same_Some d cell (sym (entry_set servers s c d at) ∙ sym (ap (entry_at (slice_set servers (s - 1) d)) same) ∙ there) in
          says x.session (ap (λ (y : ServerCell). y.session) own ∙ session) t (ap (λ (y : ServerCell). y.state) own ∙ is) n g key (requests.Server x.server x.session x.count)
          (λ y eq lasts z up. x.speaks y (ap (entry_at servers) same ∙ at ∙ ap Some eq) lasts z up)
      go false e = x.speaks cell (sym (entry_other servers s c d at x.server (λ same. grind (arith, nat_tests))) ∙ there) session t is

  pub cell_whole : Whole w (slice_set servers (s - 1) d)
  cell_whole =
      let k = one_on servers s c d at on in
      record {
        openings = h.openings;
        past = λ n g q a. k.past q (h.past n g q a);
        themselves = k.themselves h.themselves;
        held = each_put (λ (cell : ServerCell). OpeningIf w.post cell.state) servers (s - 1) d h.held opening;
        splits = λ n g key a. (let x = h.splits n g key a in record { server = x.server; session = x.session; count = x.count; granted = x.granted; speaks = others_say n g key x });
        one = h.one;
      }

-- ---- a server that goes on

module _ (w : StreamSystem) (servers : List ServerCell) (h : Whole w servers) (s : ℕ) (c : ServerCell) (st : ServerState) (at : entry_at servers s ≡ Some c) (up : c.state ≡ Some st) (o : ServerOutcome) (notes : List Note) (goes : ServerGoes w.post st o) where
  abbrev post : List Packet
  post = w.post

  abbrev later : List Packet
  later = w.post ++ o.packets

  abbrev next : ServerCell
  next = record c { state = Some o.after }

  abbrev now : List ServerCell
  now = slice_set servers (s - 1) next

  own : (st.context.server ≡ s) × (st.context.session ≡ c.session)
  own = h.themselves s c at st up

  -- the number of its next request was not used
  fresh : IsPast servers (request st.context) → ⊥
  fresh (cell, there, past) =
      let same : cell ≡ c = same_Some cell c (sym there ∙ ap (entry_at servers) own.0 ∙ at) in
      elim past [
        | inl over ↦ absurd (let e = own.1 in let z = ap (λ (x : ServerCell). x.session) same in omega (arith, over, e, z))
        | inr lasts ↦ absurd (let l = lasts.1 st (ap (λ (x : ServerCell). x.state) same ∙ up) in omega (arith, l))
      ]

  -- it asks for streams under that number, if anew
  record AsksNow (n g : ℕ) (q : ReqNo) : Type 0 where
    opens : OpensNow post st o
    range : opens.range ≡ n
    generation : opens.generation ≡ g
    number : request st.context ≡ q

  asks_cases : (n g : ℕ) (q : ReqNo) → AsksToOpen later n g q → AsksToOpen post n g q ⊎ AsksNow n g q
  asks_cases n g q a = elim (Contains-append_cases post o.packets a.packet a.sent) [
    | inl old ↦ inl (record { packet = a.packet; sent = old; is = a.is })
    | inr new ↦ elim goes.asks [
      | inl known ↦ inl (subst (IsKnown post) a.is (each_has (λ (p : Packet). IsKnown post p.body) o.packets a.packet known new))
      | inr kind ↦ elim kind [
        | inl opens ↦ elim (each_has (λ (p : Packet). IsKnown post p.body ⊎ (p.body ≡ bodies.Stream (streams.OpenStreams opens.range opens.generation (request st.context)))) o.packets a.packet opens.packets new) [
          | inl known ↦ inl (subst (IsKnown post) a.is known)
          | inr is ↦ inr (let z : bodies.Stream (streams.OpenStreams opens.range opens.generation (request st.context)) ≡ bodies.Stream (streams.OpenStreams n g q) = sym is ∙ a.is in record { opens = opens; range = cc; generation = cc; number = cc })
        ]
        | inr splits ↦ absurd (no_stream splits (subst (λ ps. Contains ps a.packet) splits.packets new))
      ]
    ]
  ]
    where
      no_stream : (z : SplitsNow st o) → Contains (begin_packet st.context (new_split st.context z.held z.key) (request st.context) ∷ []) a.packet → ⊥
      no_stream z (zero, less, same) = let e : bodies.Map (maps.BeginSplit z.held.load.range z.held.load.generation z.key (request st.context)) ≡ bodies.Stream (streams.OpenStreams n g q) = ap (λ (p : Packet). p.body) same ∙ a.is in cc
      no_stream z (suc j, less, same) = absurd (omega (arith, less))

  opened_before_now : (q : ReqNo) → HasOpened later q → HasOpened post q
  opened_before_now q a = elim (Contains-append_cases post o.packets a.packet a.sent) [
    | inl old ↦ record { packet = a.packet; lists = a.lists; sent = old; is = a.is }
    | inr new ↦ elim goes.asks [
      | inl known ↦ absurd (subst (IsKnown post) a.is (each_has (λ (p : Packet). IsKnown post p.body) o.packets a.packet known new))
      | inr kind ↦ elim kind [
        | inl opens ↦ elim (each_has (λ (p : Packet). IsKnown post p.body ⊎ (p.body ≡ bodies.Stream (streams.OpenStreams opens.range opens.generation (request st.context)))) o.packets a.packet opens.packets new) [
          | inl known ↦ absurd (subst (IsKnown post) a.is known)
          | inr is ↦ absurd (let z : bodies.Stream (streams.OpenStreams opens.range opens.generation (request st.context)) ≡ bodies.Stream (streams.Opened q a.lists) = sym is ∙ a.is in cc)
        ]
        | inr splits ↦ absurd (no_stream splits (subst (λ ps. Contains ps a.packet) splits.packets new))
      ]
    ]
  ]
    where
      no_stream : (z : SplitsNow st o) → Contains (begin_packet st.context (new_split st.context z.held z.key) (request st.context) ∷ []) a.packet → ⊥
      no_stream z (zero, less, same) = let e : bodies.Map (maps.BeginSplit z.held.load.range z.held.load.generation z.key (request st.context)) ≡ bodies.Stream (streams.Opened q a.lists) = ap (λ (p : Packet). p.body) same ∙ a.is in cc
      no_stream z (suc j, less, same) = absurd (omega (arith, less))

  -- nobody was told streams under the next number
  grants_before : (n g : ℕ) (q : ReqNo) → Grants later n g q → Grants post n g q
  grants_before n g q granted = elim (asks_cases n g q granted.0) [
    | inl old ↦ (old, opened_before_now q granted.1)
    | inr new ↦ absurd (
        let x = h.openings.asked q (opened_before_now q granted.1) in
        fresh (subst (IsPast servers) (sym new.number) (h.past x.0 x.1 q x.2))
        )
  ]

  grants_now : (n g : ℕ) (q : ReqNo) → Grants post n g q → Grants later n g q
  grants_now n g q granted = (asks_later post later (grown post o.packets) n g q granted.0, opened_later post later (grown post o.packets) q granted.1)

  openings_now : AreOpenedOnce later w.catalog
  openings_now = record {
    once = λ q n g m k a b. elim (asks_cases n g q a) [
      | inl old ↦ elim (asks_cases m k q b) [
        | inl also ↦ h.openings.once q n g m k old also
        | inr new ↦ absurd (fresh (subst (IsPast servers) (sym new.number) (h.past n g q old)))
      ]
      | inr new ↦ elim (asks_cases m k q b) [
        | inl also ↦ absurd (fresh (subst (IsPast servers) (sym new.number) (h.past m k q also)))
        | inr other ↦ both q n g m k new other a b
      ]
    ];
    asked = λ q told. (let x = h.openings.asked q (opened_before_now q told) in (x.0, x.1, asks_later post later (grown post o.packets) x.0 x.1 q x.2));
    fenced = λ n g q granted. h.openings.fenced n g q (grants_before n g q granted);
    one = λ n g q r a b. h.openings.one n g q r (grants_before n g q a) (grants_before n g r b);
  }
    where
      both : (q : ReqNo) (n g m k : ℕ) → AsksNow n g q → AsksNow m k q → AsksToOpen later n g q → AsksToOpen later m k q → (n ≡ m) × (g ≡ k)
      both q n g m k x y a b = let u = again x.opens n g a in let v = again x.opens m k b in (u.0 ∙ sym v.0, u.1 ∙ sym v.1)
        where
          again : (z : OpensNow post st o) → (i l : ℕ) → AsksToOpen later i l q → (i ≡ z.range) × (l ≡ z.generation)
          again z i l asks = elim (Contains-append_cases post o.packets asks.packet asks.sent) [
            | inl old ↦ absurd (fresh (subst (IsPast servers) (sym x.number) (h.past i l q (record { packet = asks.packet; sent = old; is = asks.is }))))
            | inr new ↦ elim (each_has (λ (p : Packet). IsKnown post p.body ⊎ (p.body ≡ bodies.Stream (streams.OpenStreams z.range z.generation (request st.context)))) o.packets asks.packet z.packets new) [
              | inl known ↦ absurd (fresh (subst (IsPast servers) (sym x.number) (h.past i l q (subst (IsKnown post) asks.is known))))
              | inr is ↦ (let e : bodies.Stream (streams.OpenStreams z.range z.generation (request st.context)) ≡ bodies.Stream (streams.OpenStreams i l q) = sym is ∙ asks.is in (cc, cc))
            ]
          ]

  -- ---- splits

  abbrev first_body : List Packet → Body
  first_body [] = bodies.Map (maps.Route [] requests.NoRequest)
  first_body (p ∷ packets) = p.body

  -- what a split that begins asks for
  abbrev begin_body : SplitsNow st o → Body
  begin_body z = bodies.Map (maps.BeginSplit z.held.load.range z.held.load.generation z.key (request st.context))

  -- it asks for a split, if anew
  record AsksSplit (n g : ℕ) (key : List ℕ) : Type 0 where
    now_split : SplitsNow st o
    range : now_split.held.load.range ≡ n
    generation : now_split.held.load.generation ≡ g
    same_key : now_split.key ≡ key

  split_cases : (n g : ℕ) (key : List ℕ) → AsksToSplit later n g key → AsksToSplit post n g key ⊎ AsksSplit n g key
  split_cases n g key (q, a) = elim (Contains-append_cases post o.packets a.packet a.sent) [
    | inl old ↦ inl (q, record { packet = a.packet; sent = old; is = a.is })
    | inr new ↦ elim goes.asks [
      | inl known ↦ inl (subst (IsKnown post) a.is (each_has (λ (p : Packet). IsKnown post p.body) o.packets a.packet known new))
      | inr kind ↦ elim kind [
        | inl opens ↦ elim (each_has (λ (p : Packet). IsKnown post p.body ⊎ (p.body ≡ bodies.Stream (streams.OpenStreams opens.range opens.generation (request st.context)))) o.packets a.packet opens.packets new) [
          | inl known ↦ inl (subst (IsKnown post) a.is known)
          | inr is ↦ absurd (let z : bodies.Stream (streams.OpenStreams opens.range opens.generation (request st.context)) ≡ bodies.Map (maps.BeginSplit n g key q) = sym is ∙ a.is in cc)
        ]
        | inr splits ↦ inr (this splits (subst (λ ps. Contains ps a.packet) splits.packets new))
      ]
    ]
  ]
    where
      this : (z : SplitsNow st o) → Contains (begin_packet st.context (new_split st.context z.held z.key) (request st.context) ∷ []) a.packet → AsksSplit n g key
      this z (zero, less, same) =
          let e : bodies.Map (maps.BeginSplit z.held.load.range z.held.load.generation z.key (request st.context)) ≡ bodies.Map (maps.BeginSplit n g key q) = ap (λ (p : Packet). p.body) same ∙ a.is in
          record { now_split = z; range = cc; generation = cc; same_key = cc }
      this z (suc j, less, same) = absurd (omega (arith, less))

  -- the range that it begins to split
  module _ (z : SplitsNow st o) where
    held_opening : IsOpening post st.context.server st.context.session z.range z.held
    held_opening =
        let a : AreOpening post st = subst (OpeningIf post) up (entry_is (λ (cell : ServerCell). OpeningIf post cell.state) servers s c h.held at) in
        found_at (IsOpening post st.context.server st.context.session) st.ranges z.range z.held a.ranges z.found

    not_waiting : (q : ReqNo) → IsWaiting q z.held.load.phase z.held.stage → ⊥
    not_waiting q waits = let e : is_serving stages.Opening ≡ true = subst (λ stage. is_serving stage ≡ true) waits.1 z.serves in cc

    held_granted : Grants post z.range z.held.load.generation (requests.Server st.context.server st.context.session held_opening.count)
    held_granted = (held_opening.asked, elim held_opening.stands.2 [ inl waits ↦ absurd (not_waiting _ waits) | inr told ↦ told.1 ])

    -- nobody asked for a split of it
    not_split : (key : List ℕ) → AsksToSplit post z.range z.held.load.generation key → ⊥
    not_split key a =
        let x = h.splits z.range z.held.load.generation key a in
        let one = h.openings.one z.range z.held.load.generation (requests.Server x.server x.session x.count) (requests.Server st.context.server st.context.session held_opening.count) x.granted held_granted in
        let server : x.server ≡ st.context.server = cc in
        let session : x.session ≡ st.context.session = cc in
        elim (x.speaks c (ap (entry_at servers) (server ∙ own.0) ∙ at) (sym own.1 ∙ sym session) st up z.held z.found refl) [
          | inl waits ↦ not_waiting waits.0 waits.1
          | inr k ↦ (let e : Some k.job ≡ None = sym k.there ∙ z.free in cc)
        ]

    new_split_once : IsSplitOnce later now z.range z.held.load.generation z.key
    new_split_once = record {
      server = st.context.server;
      session = st.context.session;
      count = held_opening.count;
      granted = grants_now z.range z.held.load.generation (requests.Server st.context.server st.context.session held_opening.count) held_granted;
      speaks = λ cell there session t is r found under.
          (let same : next ≡ cell = same_Some next cell (sym (entry_set servers s c next at) ∙ sym (ap (entry_at now) own.0) ∙ there) in
          let after : o.after ≡ t = same_Some o.after t (ap (λ (y : ServerCell). y.state) same ∙ is) in
          inr (record { job = new_split st.context z.held z.key; there = sym (ap (λ (y : ServerState). split_of y.splits z.range) after) ∙ z.begun; under = refl; at = refl }));
    }

  old_split : (n g : ℕ) (key : List ℕ) → IsSplitOnce post servers n g key → IsSplitOnce later now n g key
  old_split n g key x = record {
    server = x.server;
    session = x.session;
    count = x.count;
    granted = grants_now n g q x.granted;
    speaks = speaks;
  }
    where
      q : ReqNo
      q = requests.Server x.server x.session x.count

      speaks : (cell : ServerCell) → entry_at now x.server ≡ Some cell → cell.session ≡ x.session → (t : ServerState) → cell.state ≡ Some t → Speaks t n g key q
      speaks cell there session t is = go (x.server == s) refl
        where
          go : (b : Bool) → (x.server == s) ≡ b → Speaks t n g key q
          go true e =
              let same : x.server ≡ s = grind (arith, nat_tests) in
              let own_cell : next ≡ cell = same_Some next cell (sym (entry_set servers s c next at) ∙ sym (ap (entry_at now) same) ∙ there) in
              let after : o.after ≡ t = same_Some o.after t (ap (λ (y : ServerCell). y.state) own_cell ∙ is) in
              let before : Speaks st n g key q = x.speaks c (ap (entry_at servers) same ∙ at) (ap (λ (y : ServerCell). y.session) own_cell ∙ session) st up in
              subst (λ y. Speaks y n g key q) after
              (goes.speaks n g key q (λ v granted. h.openings.one n g v q granted x.granted) (λ same_number. fresh (subst (IsPast servers) same_number (h.past n g q x.granted.0))) before)
          go false e = x.speaks cell (sym (entry_other servers s c next at x.server (λ same. grind (arith, nat_tests))) ∙ there) session t is

  -- where it asks for a split, none was asked for of the range under its generation
  asks_none : (n g : ℕ) (key other : List ℕ) → AsksToSplit post n g key → AsksSplit n g other → ⊥
  asks_none n g key other a x =
      let z = x.now_split in
      let number : z.held.load.range ≡ z.range = (held_opening z).stands.0 in
      not_split z key (subst (λ k. AsksToSplit post z.range k key) (sym x.generation) (subst (λ k. AsksToSplit post k g key) (sym x.range ∙ number) a))

  past_now : (n g : ℕ) (q : ReqNo) → AsksToOpen later n g q → IsPast now q
  past_now n g q a = elim (asks_cases n g q a) [
    | inl old ↦ (one_on servers s c next at (stepped_cell s c st o.after up goes.count goes.server goes.session)).past q (h.past n g q old)
    | inr new ↦ subst (IsPast now) new.number (
      next,
      ap (entry_at now) own.0 ∙ entry_set servers s c next at,
      inr (own.1, λ t e. (let same : o.after ≡ t = same_Some o.after t e in let l = new.opens.used in subst (λ (y : ServerState). st.context.count < y.context.count) same l)),
    )
  ]

  pub server_whole : Whole (record w { post = w.post ++ o.packets; notes = notes }) (slice_set servers (s - 1) (record c { state = Some o.after }))
  server_whole = record {
    openings = openings_now;
    past = past_now;
    themselves = (one_on servers s c next at (stepped_cell s c st o.after up goes.count goes.server goes.session)).themselves h.themselves;
    held = each_put (λ (cell : ServerCell). OpeningIf later cell.state) servers (s - 1) next
        (each_weaker (λ (cell : ServerCell). OpeningIf post cell.state) (λ (cell : ServerCell). OpeningIf later cell.state) (λ cell x. opening_if_later post later (grown post o.packets) cell.state x) servers h.held) goes.after;
    splits = λ n g key a. elim (split_cases n g key a) [
      | inl old ↦ old_split n g key (h.splits n g key old)
      | inr new ↦ (let z = new.now_split in
          let number : z.range ≡ n = sym (held_opening z).stands.0 ∙ new.range in
          subst (λ k. IsSplitOnce later now k g key) number (subst (λ k. IsSplitOnce later now z.range k key) new.generation (subst (λ k. IsSplitOnce later now z.range z.held.load.generation k) new.same_key (new_split_once z))))
    ];
    one = λ n g key other a b. elim (split_cases n g key a) [
      | inl old ↦ elim (split_cases n g other b) [
        | inl also ↦ h.one n g key other old also
        | inr new ↦ absurd (asks_none n g key other old new)
      ]
      | inr new ↦ elim (split_cases n g other b) [
        | inl also ↦ absurd (asks_none n g other key also new)
        | inr more ↦ same_keys n g key other new more
      ]
    ];
  }
    where
      -- one packet asks
      same_keys : (n g : ℕ) (key other : List ℕ) → AsksSplit n g key → AsksSplit n g other → key ≡ other
      same_keys n g key other x y =
          let e : begin_body x.now_split ≡ begin_body y.now_split = ap first_body (sym x.now_split.packets ∙ y.now_split.packets) in
          let k : x.now_split.key ≡ y.now_split.key = cc in
          sym x.same_key ∙ k ∙ y.same_key
