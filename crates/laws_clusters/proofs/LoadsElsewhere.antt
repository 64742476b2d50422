-- What is known of the openings of ranges, of their leases and of their loads stays so: whatever the stream layer does, as what is sent
-- grows, and whatever a server does.
use Rattle.std.proofs.Common.{◌≡◌, ◌⊎◌, ◌≤◌, ◌<◌, ◌-◌, ℕ, suc, ◌==◌, Bool, true, false, List, [], ◌∷◌, ◌++◌, Some, Contains, slice_set, refl, sym, ap, ◌∙◌, subst, inl, inr, arith}
use Rattle.std.proofs.lemmas.Bool.Decides.{nat_tests}
use Rattle.std.proofs.lemmas.Option.{same_Some}
use Rattle.std.proofs.lemmas.List.Elements.{Contains-append_cases, Contains-append_right}
use Rattle.wire.specs.declared.actor.ActorId.TheVariants.{Server}
use Rattle.wire.specs.declared.actor.ReqNo.{ReqNo}
use Rattle.wire.specs.declared.actor.ReqNo.TheVariants as requests
use Rattle.wire.specs.declared.body.Body.TheVariants as bodies
use Rattle.wire.specs.declared.body.MapBody.TheVariants as maps
use Rattle.wire.specs.declared.body.StreamBody.TheVariants as streams
use Rattle.wire.specs.declared.note.Note.{Note}
use Rattle.wire.specs.declared.note.Note.TheVariants as notes
use Rattle.wire.specs.declared.packet.Packet.{Packet}
use Rattle.wire.specs.declared.rows.Row.{Row}
use Rattle.wire.specs.declared.streams.StreamKind.TheVariants.{Metadata}
use Rattle.streams.specs.Streams.{Stream}
use Rattle.client.specs.Load.{LoadState, opening, open_packet}
use Rattle.model_streams.specs.Maps.{entry_at}
use Rattle.model_streams.specs.StreamSystem.{StreamSystem}
use Rattle.model_partition.specs.declared.server_context.ServerContext.{ServerContext}
use Rattle.model_partition.specs.declared.stage.Stage.{Stage}
use Rattle.model_partition.specs.declared.stage.Stage.TheVariants.{Opening}
use Rattle.model_partition.specs.declared.table_note.TableNote.{TableNote}
use Rattle.model_partition.specs.declared.table_note.TableNote.TheVariants as tables
use Rattle.model_partition.specs.Past.{table_notes}
use Rattle.model_partition.specs.Range.{RangeState, request}
use Rattle.model_partition.specs.Server.{ServerState, ServerOutcome, range_of, users_of}
use Rattle.model_partition.specs.Servers.{ServerCell, told, noted}
use Rattle.laws_streams.specs.Fences.{Risen}
use Rattle.laws_map.specs.Openings.{IsQuiet, AsksToOpen, HasOpened, Grants, IsFenced}
use Rattle.laws_map.proofs.AskedNumbers.{IsPast, AreThemselves, CellOn, ServersOn, one_on, stepped_cell, entry_set, entry_other}
use Rattle.laws_map.proofs.Knowing.{each_has}
use Rattle.laws_map.proofs.LayerOpenings.{Layered, IsOpened}
use Rattle.laws_map.proofs.ServerLoads.{asks_later, grown}
use Rattle.laws_clusters.specs.Timely.{HasLoad, IsElsewhere}
use Rattle.laws_clusters.proofs.HeldRanges.{IsAsked, AllHold, AllShown, Assigns, assigned_outcome, assigned_hold, assigned_context, assigned_packets, Holds}
use Rattle.laws_clusters.proofs.LeasedRanges.{RangeStands, StateStands, holds_weaker, stands_later, told_later, told_in, P, Shown}
use Rattle.laws_clusters.proofs.NoteGenerations.{only_note, told_last}

-- What is known: each number under which streams are asked for is of one range and one generation, and was used; what was told for it was asked
-- for, and fences the range; each load that was observed is of a generation that fences its range; and the ranges of each server stand so.
pub record Stands (w : StreamSystem) (servers : List ServerCell) (now : ℕ) : Type 0 where
  pub once : (q : ReqNo) (n g m k : ℕ) → AsksToOpen w.post n g q → AsksToOpen w.post m k q → (n ≡ m) × (g ≡ k)
  pub asked : (q : ReqNo) → HasOpened w.post q → (n : ℕ) × (g : ℕ) × AsksToOpen w.post n g q
  pub fenced : (n g : ℕ) (q : ReqNo) → Grants w.post n g q → IsFenced w.catalog n g
  pub loads : (n g : ℕ) → HasLoad w.notes n g → IsFenced w.catalog n g
  pub past : (n g : ℕ) (q : ReqNo) → AsksToOpen w.post n g q → IsPast servers q
  pub themselves : AreThemselves servers
  pub held : (s : ℕ) (cell : ServerCell) (st : ServerState) → entry_at servers s ≡ Some cell → cell.state ≡ Some st → StateStands w.post w.notes now st

-- ---- what the stream layer or the map does

module _ (w v : StreamSystem) (servers : List ServerCell) (now : ℕ) (l : Layered w v) (loads_before : (n g : ℕ) → HasLoad v.notes n g → HasLoad w.notes n g) (h : Stands w servers now) where
  asks_before : (n g : ℕ) (q : ReqNo) → AsksToOpen v.post n g q → AsksToOpen w.post n g q
  asks_before n g q a = elim (l.told a.packet a.sent) [
    | inl old ↦ record { packet = a.packet; sent = old; is = a.is }
    | inr new ↦ elim new [
      | inl quiet ↦ absurd (subst IsQuiet a.is quiet)
      | inr opened ↦ absurd (let z : bodies.Stream (streams.OpenStreams n g q) ≡ bodies.Stream (streams.Opened opened.request opened.lists) = sym a.is ∙ opened.is in cc)
    ]
  ]

  -- an opening under this number, with which the streams were told
  record OpenedNow (q : ReqNo) : Type 0 where
    packet : Packet
    opened : IsOpened w v l.taken packet
    number : opened.request ≡ q

  own_asks : (q : ReqNo) (o : OpenedNow q) → AsksToOpen w.post o.opened.range o.opened.generation q
  own_asks q o = record { packet = l.taken; sent = o.opened.sent; is = o.opened.asked ∙ ap (λ z. bodies.Stream (streams.OpenStreams o.opened.range o.opened.generation z)) o.number }

  opened_before : (q : ReqNo) → HasOpened v.post q → HasOpened w.post q ⊎ OpenedNow q
  opened_before q a = elim (l.told a.packet a.sent) [
    | inl old ↦ inl (record { packet = a.packet; lists = a.lists; sent = old; is = a.is })
    | inr new ↦ elim new [
      | inl quiet ↦ absurd (subst IsQuiet a.is quiet)
      | inr opened ↦ inr (record { packet = a.packet; opened = opened; number = (let z : bodies.Stream (streams.Opened opened.request opened.lists) ≡ bodies.Stream (streams.Opened q a.lists) = sym opened.is ∙ a.is in cc) })
    ]
  ]

  fenced_later : (n g : ℕ) → IsFenced w.catalog n g → IsFenced v.catalog n g
  fenced_later n g f =
      let m : Risen f.stream (v.catalog.stream n 0) = l.rises (record { range = n; kind = Metadata }) f.stream f.there in
      record { stream = m.now; there = m.is; fence = (let a = f.fence in let b = m.fence in omega (arith, a, b)) }

  -- no streams are told where a higher generation was loaded
  not_opened : (n g low : ℕ) (q : ReqNo) → AsksToOpen w.post n low q → low < g → HasLoad w.notes n g → OpenedNow q → ⊥
  not_opened n g low q asks above load o =
      let same = h.once q n low o.opened.range o.opened.generation asks (own_asks q o) in
      let f = h.loads n g load in
      let under = o.opened.lower in
      let streams : f.stream ≡ under.stream = same_Some f.stream under.stream (sym f.there ∙ ap (λ k. w.catalog.stream k 0) same.0 ∙ under.there) in
      let a = f.fence in
      let b = under.fence in
      let c = ap (λ (s : Stream). s.fence) streams in
      let d = same.1 in
      omega (arith, a, b, c, d, above)

  range_later : (server session n until : ℕ) (load : LoadState) (stage : Stage) → RangeStands w.post w.notes server session n until load stage → RangeStands v.post v.notes server session n until load stage
  range_later server session n until load stage x =
      stands_later w.post v.post l.post w.notes v.notes server session n until load stage x (λ g above load. inl (loads_before n g load))
      (λ g above load told. elim (opened_before (requests.Server server session x.count) told) [
        | inl old ↦ old
        | inr o ↦ absurd (not_opened n g _ (requests.Server server session x.count) x.asked above load o)
      ])

  pub layered_stands : Stands v servers now
  layered_stands = record {
    once = λ q n g m k a b. h.once q n g m k (asks_before n g q a) (asks_before m k q b);
    asked = λ q told. elim (opened_before q told) [
      | inl old ↦ (let x = h.asked q old in (x.0, x.1, asks_later w.post v.post l.post x.0 x.1 q x.2))
      | inr o ↦ (o.opened.range, o.opened.generation, asks_later w.post v.post l.post o.opened.range o.opened.generation q (own_asks q o))
    ];
    fenced = λ n g q granted. elim (opened_before q granted.1) [
      | inl old ↦ fenced_later n g (h.fenced n g q (asks_before n g q granted.0, old))
      | inr o ↦ (let same = h.once q n g o.opened.range o.opened.generation (asks_before n g q granted.0) (own_asks q o) in
          subst (λ k. IsFenced v.catalog k g) (sym same.0) (subst (λ k. IsFenced v.catalog o.opened.range k) (sym same.1) o.opened.fenced))
    ];
    loads = λ n g load. fenced_later n g (h.loads n g (loads_before n g load));
    past = λ n g q a. h.past n g q (asks_before n g q a);
    themselves = h.themselves;
    held = λ s cell st at up.
        (let x = h.held s cell st at up in
        record {
          moment = x.moment;
          ranges = holds_weaker (RangeStands w.post w.notes st.context.server st.context.session) (RangeStands v.post v.notes st.context.server st.context.session) (range_later st.context.server st.context.session) st.ranges x.ranges;
        });
  }

-- ---- a server that stops, starts or goes on without a packet

module _ (w : StreamSystem) (servers : List ServerCell) (now : ℕ) (h : Stands w servers now) (s : ℕ) (c d : ServerCell) (at : entry_at servers s ≡ Some c) (on : CellOn s c d)
    (stands : (st : ServerState) → d.state ≡ Some st → StateStands w.post w.notes now st) where
  pub cell_stands : Stands w (slice_set servers (s - 1) d) now
  cell_stands =
      let k = one_on servers s c d at on in
      record { once = h.once; asked = h.asked; fenced = h.fenced; loads = h.loads; past = λ n g q a. k.past q (h.past n g q a); themselves = k.themselves h.themselves; held = held }
    where
      held : (t : ℕ) (cell : ServerCell) (st : ServerState) → entry_at (slice_set servers (s - 1) d) t ≡ Some cell → cell.state ≡ Some st → StateStands w.post w.notes now st
      held t cell st there up = go (t == s) refl
        where
          go : (b : Bool) → (t == s) ≡ b → StateStands w.post w.notes now st
          go true e =
              let same : t ≡ s = grind (arith, nat_tests) in
              let own : d ≡ cell = same_Some d cell (sym (entry_set servers s c d at) ∙ sym (ap (entry_at (slice_set servers (s - 1) d)) same) ∙ there) in
              stands st (ap (λ (y : ServerCell). y.state) own ∙ up)
          go false e = h.held t cell st (sym (entry_other servers s c d at t (λ same. grind (arith, nat_tests))) ∙ there) up

-- ---- loads that a server shows

module _ (Is : ℕ → ℕ → Type 0) (n g : ℕ) where
  one_load : (seen : List Note) (x : TableNote) (more : List TableNote) (rows : List Row) (next : ℕ) → AllShown Is (x ∷ more) → told seen x ≡ notes.Loaded n g rows next → Is n g × AllShown Is more
  one_load seen (tables.Began range generation number changes) more rows next all is = absurd cc
  one_load seen (tables.Done range generation number) more rows next all is = absurd cc
  one_load seen (tables.Got range generation key value) more rows next all is = absurd cc
  one_load seen (tables.Loaded range generation table next) more rows after all is =
      let one : range ≡ n = cc in
      let two : generation ≡ g = cc in
      (subst (λ k. Is k g) one (subst (Is range) two all.0), all.1)

  rest_shown : (x : TableNote) (more : List TableNote) → AllShown Is (x ∷ more) → AllShown Is more
  rest_shown (tables.Began range generation number changes) more all = all
  rest_shown (tables.Done range generation number) more all = all
  rest_shown (tables.Got range generation key value) more all = all
  rest_shown (tables.Loaded range generation table next) more all = all.1

  -- it was observed before, or is shown now
  shown_cases : (shown : List TableNote) (seen : List Note) → AllShown Is shown → HasLoad (noted seen shown) n g → HasLoad seen n g ⊎ Is n g
  shown_cases [] seen all load = inl load
  shown_cases (x ∷ more) seen all load = elim (shown_cases more (seen ++ told seen x ∷ []) (rest_shown x more all) load) [
    | inr now ↦ inr now
    | inl then ↦ elim (Contains-append_cases (table_notes seen) (told seen x ∷ []) (notes.Loaded n g then.0 then.1) (subst (λ h. Contains h (notes.Loaded n g then.0 then.1)) (told_last seen x) then.2)) [
      | inl old ↦ inl (then.0, then.1, old)
      | inr new ↦ inr (one_load seen x more then.0 then.1 all (only_note (told seen x) (notes.Loaded n g then.0 then.1) new)).0
    ]
  ]

-- ---- a server that goes on

module _ (w : StreamSystem) (servers : List ServerCell) (now : ℕ) (h : Stands w servers now) (s : ℕ) (c : ServerCell) (st : ServerState) (at : entry_at servers s ≡ Some c) (up : c.state ≡ Some st) where
  abbrev before : StateStands w.post w.notes now st
  before = h.held s c st at up

  pub own : (st.context.server ≡ s) × (st.context.session ≡ c.session)
  own = h.themselves s c at st up

  -- the number of its next request was not used
  fresh : IsPast servers (request st.context) → ⊥
  fresh (cell, there, past) =
      let same : cell ≡ c = same_Some cell c (sym there ∙ ap (entry_at servers) own.0 ∙ at) in
      elim past [
        | inl over ↦ absurd (let e = own.1 in let z = ap (λ (x : ServerCell). x.session) same in omega (arith, over, e, z))
        | inr lasts ↦ absurd (let l = lasts.1 st (ap (λ (x : ServerCell). x.state) same ∙ up) in omega (arith, l))
      ]

  module _ (o : ServerOutcome) where
    abbrev later : List Packet
    later = w.post ++ o.packets

    abbrev seen : List Note
    seen = noted w.notes o.notes

    abbrev next : ServerCell
    next = record c { state = Some o.after }

    abbrev cells : List ServerCell
    cells = slice_set servers (s - 1) next

    more : (p : Packet) → Contains w.post p → Contains later p
    more = grown w.post o.packets

    -- what holds of the other servers, and of this one
    held_now : StateStands later seen now o.after → ((t : ℕ) (cell : ServerCell) (z : ServerState) → (t ≡ s → ⊥) → entry_at servers t ≡ Some cell → cell.state ≡ Some z → StateStands later seen now z) →
        (t : ℕ) (cell : ServerCell) (z : ServerState) → entry_at cells t ≡ Some cell → cell.state ≡ Some z → StateStands later seen now z
    held_now this others t cell z there runs = go (t == s) refl
      where
        go : (b : Bool) → (t == s) ≡ b → StateStands later seen now z
        go true e =
            let same : t ≡ s = grind (arith, nat_tests) in
            let mine : next ≡ cell = same_Some next cell (sym (entry_set servers s c next at) ∙ sym (ap (entry_at cells) same) ∙ there) in
            subst (StateStands later seen now) (same_Some o.after z (ap (λ (y : ServerCell). y.state) mine ∙ runs)) this
        go false e =
            let apart : t ≡ s → ⊥ = λ same. grind (arith, nat_tests) in
            others t cell z apart (sym (entry_other servers s c next at t apart) ∙ there) runs

    -- ---- by a step that asks for nothing new

    module _ (goes : Holds w.post (P w.post w.notes w.catalog h.fenced st before.ranges) (Shown w.post w.notes w.catalog h.fenced st before.ranges) st o) where
      asks_were : (n g : ℕ) (q : ReqNo) → AsksToOpen later n g q → AsksToOpen w.post n g q
      asks_were n g q a = elim (Contains-append_cases w.post o.packets a.packet a.sent) [
        | inl old ↦ record { packet = a.packet; sent = old; is = a.is }
        | inr new ↦ subst (IsAsked w.post) a.is (each_has (λ (p : Packet). IsAsked w.post p.body) o.packets a.packet goes.asks new)
      ]

      opened_were : (q : ReqNo) → HasOpened later q → HasOpened w.post q
      opened_were q a = elim (Contains-append_cases w.post o.packets a.packet a.sent) [
        | inl old ↦ record { packet = a.packet; lists = a.lists; sent = old; is = a.is }
        | inr new ↦ absurd (subst (IsAsked w.post) a.is (each_has (λ (p : Packet). IsAsked w.post p.body) o.packets a.packet goes.asks new))
      ]

      abbrev IsShown : ℕ → ℕ → Type 0
      IsShown = Shown w.post w.notes w.catalog h.fenced st before.ranges

      loads_were : (n g : ℕ) → HasLoad seen n g → HasLoad w.notes n g ⊎ IsShown n g
      loads_were n g load = shown_cases IsShown n g o.notes w.notes goes.shows load

      -- a load that it shows is of its lease
      by_this : (t n g : ℕ) → (t ≡ s → ⊥) → IsShown n g → IsElsewhere later t n g
      by_this t n g apart x = record {
        lease = record { server = st.context.server; range = n; generation = g; until = x.until };
        told = told_later w.post later more _ x.leased;
        range_is = refl;
        generation_is = refl;
        other = λ same. apart (sym same ∙ own.0);
      }

      others_stand : (t : ℕ) (cell : ServerCell) (z : ServerState) → (t ≡ s → ⊥) → entry_at servers t ≡ Some cell → cell.state ≡ Some z → StateStands later seen now z
      others_stand t cell z apart there runs =
          let x = h.held t cell z there runs in
          let number : z.context.server ≡ t = (h.themselves t cell there z runs).0 in
          record {
            moment = x.moment;
            ranges = holds_weaker (RangeStands w.post w.notes z.context.server z.context.session) (RangeStands later seen z.context.server z.context.session)
                (λ n until load stage y.
                stands_later w.post later more w.notes seen z.context.server z.context.session n until load stage y
                (λ g above has. elim (loads_were n g has) [ inl old ↦ inl old | inr now ↦ inr (by_this z.context.server n g (λ same. apart (sym number ∙ same)) now) ])
                (λ g above has told. opened_were _ told)) z.ranges x.ranges;
          }

      -- a load that it shows is of the generation under which it holds the range
      this_stands : StateStands later seen now o.after
      this_stands = record {
        moment = goes.moment ∙ before.moment;
        ranges = holds_weaker (P w.post w.notes w.catalog h.fenced st before.ranges) (RangeStands later seen o.after.context.server o.after.context.session) on o.after.ranges goes.ranges;
      }
        where
          on : (n until : ℕ) (load : LoadState) (stage : Stage) → P w.post w.notes w.catalog h.fenced st before.ranges n until load stage → RangeStands later seen o.after.context.server o.after.context.session n until load stage
          on n until load stage x =
              subst (λ k. RangeStands later seen k o.after.context.session n until load stage) (sym goes.server)
              (subst (λ k. RangeStands later seen st.context.server k n until load stage) (sym goes.session)
              (stands_later w.post later more w.notes seen st.context.server st.context.session n until load stage x.stands
              (λ g above has. elim (loads_were n g has) [
                | inl old ↦ inl old
                | inr now ↦ absurd (
                    let same : x.held.0 ≡ now.held.0 = same_Some x.held.0 now.held.0 (sym x.held.1 ∙ now.held.1) in
                    let one = x.held.2 in
                    let two = now.held.2 in
                    let three = ap (λ (r : RangeState). r.load.generation) same in
                    omega (arith, above, one, two, three)
                    )
              ])
              (λ g above has told. opened_were _ told)))

      pub server_stands : Stands (record w { post = w.post ++ o.packets; notes = noted w.notes o.notes }) (slice_set servers (s - 1) (record c { state = Some o.after })) now
      server_stands =
          let k = one_on servers s c next at (stepped_cell s c st o.after up goes.count goes.server goes.session) in
          record {
            once = λ q n g m j a b. h.once q n g m j (asks_were n g q a) (asks_were m j q b);
            asked = λ q told. (let x = h.asked q (opened_were q told) in (x.0, x.1, asks_later w.post later more x.0 x.1 q x.2));
            fenced = λ n g q granted. h.fenced n g q (asks_were n g q granted.0, opened_were q granted.1);
            loads = λ n g load. elim (loads_were n g load) [ inl old ↦ h.loads n g old | inr now ↦ now.fenced ];
            past = λ n g q a. k.past q (h.past n g q (asks_were n g q a));
            themselves = k.themselves h.themselves;
            held = held_now this_stands others_stand;
          }

  -- ---- by an assignment

  module _ (p : Packet) (there : Contains w.post p) (to : p.to ≡ Server s) (outcome : ServerOutcome) (x : Assigns st p outcome) where
    abbrev o : ServerOutcome
    o = assigned_outcome st x.range x.generation x.until

    abbrev IsNew : Packet → Type 0
    IsNew y = IsAsked w.post y.body ⊎ (y.body ≡ bodies.Stream (streams.OpenStreams x.range x.generation (request st.context)))

    sent : (y : Packet) → Contains o.packets y → IsNew y
    sent y new = each_has IsNew o.packets y (assigned_packets (λ n until load stage. Unit {0}) st x.range x.generation x.until w.post) new

    -- it was asked before, or now
    asks_cases : (n g : ℕ) (q : ReqNo) → AsksToOpen (later o) n g q → AsksToOpen w.post n g q ⊎ ((x.range ≡ n) × (x.generation ≡ g) × (request st.context ≡ q))
    asks_cases n g q b = elim (Contains-append_cases w.post o.packets b.packet b.sent) [
      | inl old ↦ inl (record { packet = b.packet; sent = old; is = b.is })
      | inr new ↦ elim (sent b.packet new) [
        | inl asked ↦ inl (subst (IsAsked w.post) b.is asked)
        | inr is ↦ inr (let z : bodies.Stream (streams.OpenStreams x.range x.generation (request st.context)) ≡ bodies.Stream (streams.OpenStreams n g q) = sym is ∙ b.is in (cc, cc, cc))
      ]
    ]

    opened_then : (q : ReqNo) → HasOpened (later o) q → HasOpened w.post q
    opened_then q b = elim (Contains-append_cases w.post o.packets b.packet b.sent) [
      | inl old ↦ record { packet = b.packet; lists = b.lists; sent = old; is = b.is }
      | inr new ↦ elim (sent b.packet new) [
        | inl asked ↦ absurd (subst (IsAsked w.post) b.is asked)
        | inr is ↦ absurd (let z : bodies.Stream (streams.OpenStreams x.range x.generation (request st.context)) ≡ bodies.Stream (streams.Opened q b.lists) = sym is ∙ b.is in cc)
      ]
    ]

    -- nobody was told streams under the number of the next request, nor asked for any
    not_asked : (n g : ℕ) → AsksToOpen w.post n g (request st.context) → ⊥
    not_asked n g b = fresh (h.past n g (request st.context) b)

    not_told : HasOpened (later o) (request st.context) → ⊥
    not_told b = let y = h.asked (request st.context) (opened_then (request st.context) b) in not_asked y.0 y.1 y.2

    abbrev R : ℕ → ℕ → LoadState → Stage → Type 0
    R = RangeStands (later o) w.notes st.context.server st.context.session

    on : (server session n until : ℕ) (load : LoadState) (stage : Stage) → RangeStands w.post w.notes server session n until load stage → RangeStands (later o) w.notes server session n until load stage
    on server session n until load stage y =
        stands_later w.post (later o) (more o) w.notes w.notes server session n until load stage y (λ g above has. inl has) (λ g above has told. opened_then _ told)

    new_stands : R x.range x.until (opening st.context.server x.range x.generation (request st.context)) Opening
    new_stands = record {
      count = st.context.count;
      asked = record {
        packet = open_packet st.context.server x.range x.generation (request st.context);
        sent = Contains-append_right w.post o.packets _
            (Contains-append_right (users_of st.context (range_of st.ranges x.range)) (open_packet st.context.server x.range x.generation (request st.context) ∷ []) _ (0, omega arith, refl));
        is = refl;
      };
      stands = (refl, refl, inl (refl, refl));
      leased =
          told_later w.post (later o) (more o) _
          (told_in w.post p st.context.server (bodies.Map (maps.Assign x.range x.generation x.until)) _ there x.from (to ∙ ap Server (sym own.0)) x.is refl);
      elsewhere = λ g above has. inr not_told;
    }

    kept : o.after.context ≡ record st.context { count = suc st.context.count }
    kept = assigned_context (λ n until load stage. Unit {0}) st x.range x.generation x.until

    assigned_stands : StateStands (later o) w.notes now o.after
    assigned_stands = record {
      moment = ap (λ (y : ServerContext). y.moment) kept ∙ before.moment;
      ranges =
          subst (λ (y : ServerContext). AllHold (RangeStands (later o) w.notes y.server y.session) o.after.ranges) (sym kept)
          (assigned_hold R st x.range x.generation x.until new_stands (holds_weaker (RangeStands w.post w.notes st.context.server st.context.session) R (on st.context.server st.context.session) st.ranges before.ranges));
    }

    others_then : (t : ℕ) (cell : ServerCell) (z : ServerState) → (t ≡ s → ⊥) → entry_at servers t ≡ Some cell → cell.state ≡ Some z → StateStands (later o) w.notes now z
    others_then t cell z apart found runs =
        let y = h.held t cell z found runs in
        record {
          moment = y.moment;
          ranges = holds_weaker (RangeStands w.post w.notes z.context.server z.context.session) (RangeStands (later o) w.notes z.context.server z.context.session) (on z.context.server z.context.session) z.ranges y.ranges;
        }

    on_all : ServersOn servers (cells o)
    on_all = one_on servers s c (next o) at (stepped_cell s c st o.after up (subst (λ (y : ServerContext). st.context.count ≤ y.count) (sym kept) (omega arith)) (ap (λ (y : ServerContext). y.server) kept) (ap (λ (y : ServerContext). y.session) kept))

    past_then : (n g : ℕ) (q : ReqNo) → AsksToOpen (later o) n g q → IsPast (cells o) q
    past_then n g q b = elim (asks_cases n g q b) [
      | inl old ↦ on_all.past q (h.past n g q old)
      | inr new ↦ subst (IsPast (cells o)) new.2 (
        next o,
        ap (entry_at (cells o)) own.0 ∙ entry_set servers s c (next o) at,
        inr (own.1, λ z e. (let same : o.after ≡ z = same_Some o.after z e in subst (λ (y : ServerState). st.context.count < y.context.count) same (subst (λ (y : ServerContext). st.context.count < y.count) (sym kept) (omega arith)))),
      )
    ]

    assigns_stands : Stands (record w { post = w.post ++ o.packets; notes = w.notes }) (slice_set servers (s - 1) (record c { state = Some o.after })) now
    assigns_stands =
        record {
          once = λ q n g m j a b. elim (asks_cases n g q a) [
            | inl old ↦ elim (asks_cases m j q b) [
              | inl also ↦ h.once q n g m j old also
              | inr new ↦ absurd (not_asked n g (subst (AsksToOpen w.post n g) (sym new.2) old))
            ]
            | inr new ↦ elim (asks_cases m j q b) [
              | inl also ↦ absurd (not_asked m j (subst (AsksToOpen w.post m j) (sym new.2) also))
              | inr other ↦ (sym new.0 ∙ other.0, sym new.1 ∙ other.1)
            ]
          ];
          asked = λ q told. (let y = h.asked q (opened_then q told) in (y.0, y.1, asks_later w.post (later o) (more o) y.0 y.1 q y.2));
          fenced = λ n g q granted. elim (asks_cases n g q granted.0) [
            | inl old ↦ h.fenced n g q (old, opened_then q granted.1)
            | inr new ↦ absurd (not_told (subst (HasOpened (later o)) (sym new.2) granted.1))
          ];
          loads = h.loads;
          past = past_then;
          themselves = on_all.themselves h.themselves;
          held = held_now o assigned_stands others_then;
        }

    -- whatever outcome that is
    pub assigned_so : Stands (record w { post = w.post ++ outcome.packets; notes = noted w.notes outcome.notes }) (slice_set servers (s - 1) (record c { state = Some outcome.after })) now
    assigned_so =
        subst (λ (z : ServerOutcome). Stands (record w { post = w.post ++ z.packets; notes = noted w.notes z.notes }) (slice_set servers (s - 1) (record c { state = Some z.after })) now) (sym x.outcome) assigns_stands
