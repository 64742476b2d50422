-- In every run an extent that is open stands in one list, once, and each but the last of a list is sealed.
use Rattle.std.proofs.Common.{◌≡◌, ◌≢◌, ◌⊎◌, ℕ, zero, suc, ◌<◌, ◌≤◌, ◌&&◌, ◌==◌, nat_le, List, [], ◌∷◌, ◌++◌, length, Option, Some, None, slice_get, Contains, refl, sym, ap, ◌∙◌, inl, inr, arith, subst, Bool, true, not, ◌||◌}
use Rattle.wire.specs.declared.streams.StreamName.{StreamName}
use Rattle.wire.specs.declared.streams.StreamKind.{StreamKind}
use Rattle.wire.specs.declared.streams.StreamKind.TheVariants.{Log, BlobData}
use Rattle.streams.specs.Streams.{Stream, stream_of, whole, last_of, empty_stream, kind_number, log_name}
use Rattle.model_streams.specs.declared.extent.Extent.{Extent}
use Rattle.model_streams.specs.Manager.{Catalog, sealed_in, sealed_lengths, forgotten, forgotten_if, catalog_stopped, decide_rule, manager_rule}
use Rattle.model_streams.specs.StreamSystem.{StreamSystem, start, Move, moved, run_moves, stops_in, stands_in, node_halted, node_performs, node_takes, manager_halted, manager_performs, delivered, delivered_if, is_request, node_stops, manager_stops, stop, is_present, restart, happens, is_server_call, is_told, is_table_note}
use Rattle.model_streams.proofs.Tests.{if_elim}
use Rattle.laws_streams.specs.Answers.{SealedIn}
use Rattle.laws_streams.specs.Listings.{Listed, IsRising, AreUnjoined, Longer, ListsGrow}
use Rattle.laws_streams.proofs.Lists.{begins_refl, begins_trans, get_joined}
use Rattle.laws_streams.proofs.Choices.{contains_get}
use Rattle.laws_streams.proofs.PacketSources.{moved_gains}
use Rattle.laws_streams.proofs.BuildRequests.{ServersAsk, asks_next, none_asked, servers_ask}
use Rattle.laws_streams.proofs.StreamNames.{is_blob}
use Rattle.laws_streams.proofs.RisingFences.{run_more}
use Rattle.laws_streams.proofs.ListRules.{Goes, Grown, Leaves, StandsIn, grown_whole, gathered_whole, goes_refl, rule_goes, decide_goes}
use Rattle.laws_streams.proofs.WholeLists.{whole_last, none_whole}
use Rattle.wire.specs.declared.actor.ActorId.{ActorId}
use Rattle.wire.specs.declared.actor.ActorId.TheVariants.{Node, Manager, Map, Server, User}
use Rattle.wire.specs.declared.packet.Packet.{Packet}
use Rattle.model_streams.specs.declared.event.Event.{Event}
use Rattle.model_streams.specs.declared.event.Event.TheVariants.{Submit, Deliver, Stop, Restart, Decide, GiveUp, Assign, Renew, Moment, Checkpoint, Split, Merge}
use Rattle.model_streams.specs.Node.{extent_of, node_rule}
use Rattle.model_streams.specs.Outcome.{Outcome}
use Rattle.model_streams.specs.StreamSystem.Move.{Happens, Asks, Says, Observes}

-- ---- moves

-- what a stop leaves of a later catalog
stopped_goes : (post : List Packet) (b c : Catalog) → Goes post b c → Goes post b (catalog_stopped c)
stopped_goes post b c a = record {
  name = a.name;
  kept = λ e y is. let k = a.kept e y is in record { now = forgotten k.now; is = ap forgotten_if k.is; sealed = k.sealed };
  grows = a.grows;
  lists = λ s z is. elim (a.lists s z is) [
    | inl x ↦ inl x
    | inr x ↦ elim x [ inl y ↦ inr (inl y) | inr y ↦ elim y [ inl v ↦ inr (inr (inl (v.0, still_grown v.1))) | inr v ↦ inr (inr (inr v)) ] ]
  ];
  count = a.count;
  numbered = λ e y is. by_extent e (c.extent e) refl y is;
  brings = a.brings;
}
  where
    still_grown : {s : StreamName} {z : Stream} → Grown b c.extent s z → Grown b (catalog_stopped c).extent s z
    still_grown {s} {z} g = record {
      was = g.was;
      there = g.there;
      gone = g.gone;
      extents = g.extents;
      last = g.last;
      may = g.may;
      new = forgotten g.new;
      made = ap forgotten_if g.made;
    }

    by_extent : (e : ℕ) (o : Option Extent) → c.extent e ≡ o → (y : Extent) → forgotten_if o ≡ Some y → ((x : Extent) × (b.extent e ≡ Some x)) ⊎ (e ≤ c.count)
    by_extent e None there y is = absurd cc
    by_extent e (Some x) there y is = a.numbered e x there

module _ (w : StreamSystem) (fresh : w.catalog.extent (suc w.catalog.count) ≡ None) (asks : ServersAsk w.post) where
  abbrev GoesTo : StreamSystem → Type 0
  GoesTo v = Goes w.post w.catalog v.catalog

  same_goes : GoesTo w
  same_goes = goes_refl w.post w.catalog

  manager_goes : (o : Outcome Catalog) → Goes w.post w.catalog o.after → GoesTo (manager_performs w o)
  manager_goes o a =
      if_elim GoesTo (stops_in w.manager_cell o.written) _ _
      (λ s. if_elim GoesTo (stands_in w.manager_cell) _ _ (λ t. stopped_goes w.post w.catalog o.after a) (λ f. stopped_goes w.post w.catalog w.catalog same_goes))
      (λ r. a)

  node_goes : (n : ℕ) (p : Packet) → GoesTo (node_takes w n p)
  node_goes n p =
      let e = extent_of p.body in
      let o = node_rule n (w.replica n e) p p.body in
      if_elim GoesTo (w.cell n).up (node_performs w n e o) w
      (λ t. if_elim GoesTo (stops_in (w.cell n) o.written) _ _
      (λ s. if_elim GoesTo (stands_in (w.cell n)) _ _ (λ _. same_goes) (λ _. same_goes)) (λ r. same_goes))
      (λ f. same_goes)

  delivered_goes : (p : Packet) (to : ActorId) → Contains w.post p → GoesTo (delivered w p to)
  delivered_goes p (Node n) sent = node_goes n p
  delivered_goes p Manager sent =
      if_elim GoesTo w.manager_cell.up (manager_performs w (manager_rule w.catalog p p.body)) w
      (λ t. manager_goes (manager_rule w.catalog p p.body) (rule_goes w.post w.catalog p fresh sent asks p.body refl)) (λ f. same_goes)
  delivered_goes p Map sent = same_goes
  delivered_goes p (Server s) sent = same_goes
  delivered_goes p (User u) sent = same_goes

  delivered_if_goes : (number : ℕ) (o : Option Packet) → slice_get w.post number ≡ o → GoesTo (delivered_if w o)
  delivered_if_goes number None is = same_goes
  delivered_if_goes number (Some p) is = delivered_goes p p.to (contains_get w.post number p is)

  stop_goes : (actor : ActorId) (call : ℕ) (keep : Bool) → GoesTo (stop w actor call keep)
  stop_goes (Node n) call keep =
      if_elim GoesTo (w.cell n).up (node_stops w n call keep) w
      (λ t. if_elim GoesTo (call == 0) (node_halted w n) _ (λ _. same_goes) (λ _. same_goes)) (λ f. same_goes)
  stop_goes Manager call keep =
      if_elim GoesTo w.manager_cell.up (manager_stops w call keep) w
      (λ t. if_elim GoesTo (call == 0) (manager_halted w) _ (λ _. stopped_goes w.post w.catalog w.catalog same_goes) (λ _. same_goes)) (λ f. same_goes)
  stop_goes Map call keep = same_goes
  stop_goes (Server s) call keep = same_goes
  stop_goes (User u) call keep = same_goes

  restart_goes : (actor : ActorId) → GoesTo (restart w actor)
  restart_goes (Node n) = if_elim GoesTo ((w.cell n).up || not (is_present w n)) w _ (λ _. same_goes) (λ _. same_goes)
  restart_goes Manager = if_elim GoesTo w.manager_cell.up w _ (λ _. same_goes) (λ _. same_goes)
  restart_goes Map = same_goes
  restart_goes (Server s) = same_goes
  restart_goes (User u) = same_goes

  happens_goes : (event : Event) → GoesTo (happens w event)
  happens_goes (Submit user to body) = if_elim GoesTo (is_request body) _ w (λ _. same_goes) (λ _. same_goes)
  happens_goes (Deliver number) = delivered_if_goes number (slice_get w.post number) refl
  happens_goes (Stop actor call keep) = stop_goes actor call keep
  happens_goes (Restart actor) = restart_goes actor
  happens_goes (Decide e) =
      if_elim GoesTo w.manager_cell.up (manager_performs w (decide_rule w.catalog e (w.catalog.extent e))) w
      (λ t. manager_goes (decide_rule w.catalog e (w.catalog.extent e)) (decide_goes w.post w.catalog e (w.catalog.extent e) refl)) (λ f. same_goes)
  happens_goes (GiveUp server range pick) = same_goes
  happens_goes (Assign range server until) = same_goes
  happens_goes (Renew range server until) = same_goes
  happens_goes (Moment now) = same_goes
  happens_goes (Checkpoint server range combine) = same_goes
  happens_goes (Split server range key) = same_goes
  happens_goes (Merge server left right) = same_goes

  pub moved_goes : (move : Move) → GoesTo (moved w move)
  moved_goes (Happens event) = happens_goes event
  moved_goes (Asks server to body) = if_elim GoesTo (is_server_call body) _ w (λ _. same_goes) (λ _. same_goes)
  moved_goes (Says from to body) = if_elim GoesTo (is_told body) _ w (λ _. same_goes) (λ _. same_goes)
  moved_goes (Observes note) = if_elim GoesTo (is_table_note note) _ w (λ _. same_goes) (λ _. same_goes)

-- ---- lists

get_pushed : {A : Type 0} (xs : List A) (y : A) (i : ℕ) (e : A) → slice_get (xs ++ y ∷ []) i ≡ Some e → (slice_get xs i ≡ Some e) ⊎ ((i ≡ length xs) × (e ≡ y))
get_pushed [] y zero e is = inr (refl, (let c : y ≡ e = cc in sym c))
get_pushed [] y (suc i) e is = absurd cc
get_pushed (x ∷ xs) y zero e is = inl is
get_pushed (x ∷ xs) y (suc i) e is = elim (get_pushed xs y i e is) [ inl a ↦ inl a | inr a ↦ inr (ap suc a.0, a.1) ]

get_within : {A : Type 0} (xs : List A) (i : ℕ) (e : A) → slice_get xs i ≡ Some e → i < length xs
get_within [] i e is = absurd cc
get_within (x ∷ xs) zero e is = omega arith
get_within (x ∷ xs) (suc i) e is = let m = get_within xs i e is in omega (arith, m)

pub last_at : (xs : List ℕ) (i e : ℕ) → slice_get xs i ≡ Some e → suc i ≡ length xs → last_of xs ≡ Some e
last_at [] i e is end = absurd cc
last_at (x ∷ []) zero e is end = is
last_at (x ∷ []) (suc i) e is end = absurd cc
last_at (x ∷ y ∷ xs) zero e is end = absurd (omega (arith, end))
last_at (x ∷ y ∷ xs) (suc i) e is end = last_at (y ∷ xs) i e is (omega (arith, end))

none_behind : {A : Type 0} (xs : List A) (i : ℕ) (e : A) → slice_get xs i ≡ Some e → slice_get xs (suc i) ≡ None → suc i ≡ length xs
none_behind [] i e is none = absurd cc
none_behind (x ∷ []) zero e is none = refl
none_behind (x ∷ y ∷ xs) zero e is none = absurd cc
none_behind (x ∷ xs) (suc i) e is none = ap suc (none_behind xs i e is none)

never_empty : (xs : List ℕ) (y : ℕ) → xs ++ y ∷ [] ≡ [] → ⊥
never_empty [] y is = cc
never_empty (x ∷ xs) y is = cc

none_first : (xs ys : List ℕ) → xs ++ ys ≡ [] → xs ≡ []
none_first [] ys is = refl
none_first (x ∷ xs) ys is = absurd cc

-- ---- one step

-- what holds of a catalog, where this was sent
record Fit (post : List Packet) (b : Catalog) : Type 0 where
  listed : (s : StreamName) (x : Stream) → stream_of b.stream s ≡ Some x → Listed b s x
  rising : (among : StreamName → Bool) → AreUnjoined post among → (s : StreamName) (x : Stream) → stream_of b.stream s ≡ Some x → among s ≡ true → s.kind ≢ BlobData → IsRising x
  numbered : (e : ℕ) (y : Extent) → b.extent e ≡ Some y → e ≤ b.count

-- more was sent
fit_later : (post more : List Packet) (b : Catalog) → ((p : Packet) → Contains post p → Contains more p) → Fit post b → Fit more b
fit_later post more b stays fit = record {
  listed = fit.listed;
  rising = λ among unjoined. fit.rising among (λ p list q m sent. unjoined p list q m (stays p sent));
  numbered = fit.numbered;
}

fresh_next : (post : List Packet) (b : Catalog) → Fit post b → b.extent (suc b.count) ≡ None
fresh_next post b fit = by_extent (b.extent (suc b.count)) refl
  where
    by_extent : (o : Option Extent) → b.extent (suc b.count) ≡ o → o ≡ None
    by_extent None is = refl
    by_extent (Some y) is = absurd (let m = fit.numbered (suc b.count) y is in omega (arith, m))

sealed_so : (b : Catalog) (e l : ℕ) → sealed_lengths b e ≡ Some l → SealedIn b e l
sealed_so b e l is = by_extent (b.extent e) refl is
  where
    by_extent : (o : Option Extent) → b.extent e ≡ o → sealed_in o ≡ Some l → SealedIn b e l
    by_extent None there is = absurd cc
    by_extent (Some x) there is = record { extent = x; there = there; sealed = is }

module _ (post : List Packet) (b c : Catalog) (goes : Goes post b c) (fit : Fit post b) where
  -- it stood there before
  record Stood (s : StreamName) (i e : ℕ) : Type 0 where
    was : Stream
    there : stream_of b.stream s ≡ Some was
    at : slice_get (whole was) i ≡ Some e

  -- it is the new one, at the end
  record Added (s : StreamName) (i e : ℕ) : Type 0 where
    name : s ≡ goes.name
    stream : Stream
    grown : Grown b c.extent s stream
    end : i ≡ length (whole grown.was)
    new : e ≡ suc b.count

  -- it left a log, and came to a blob stream
  record Moved (s : StreamName) (e : ℕ) : Type 0 where
    kind : s.kind ≡ BlobData
    leaves : Leaves b e

  -- it stands in another list of the kind, and this one is new
  record Copied (s : StreamName) (e : ℕ) : Type 0 where
    absent : stream_of b.stream s ≡ None
    stands : StandsIn b s.kind e

  abbrev Found : StreamName → ℕ → ℕ → Type 0
  Found s i e = Stood s i e ⊎ (Added s i e ⊎ (Moved s e ⊎ Copied s e))

  found : (s : StreamName) (z : Stream) (i e : ℕ) → stream_of c.stream s ≡ Some z → slice_get (whole z) i ≡ Some e → Found s i e
  found s z i e there at = elim (goes.lists s z there) [
    | inl o ↦ inl (record { was = o.was; there = o.there; at = subst (λ xs. slice_get xs i ≡ Some e) o.same at })
    | inr n ↦ elim n [
      | inl k ↦ absurd (let d : slice_get [] i ≡ Some e = subst (λ xs. slice_get xs i ≡ Some e) (none_whole z k.0 k.1) at in cc)
      | inr k ↦ elim k [
        | inl g ↦ elim (get_pushed (whole g.1.was) (suc b.count) i e (subst (λ xs. slice_get xs i ≡ Some e) (grown_whole g.1) at)) [
          | inl a ↦ inl (record { was = g.1.was; there = g.1.there; at = a })
          | inr a ↦ inr (inl (record { name = g.0; stream = z; grown = g.1; end = a.0; new = a.1 }))
        ]
        | inr h ↦ elim h [
          | inl g ↦ elim (get_joined (whole g.was) g.left i e (subst (λ xs. slice_get xs i ≡ Some e) (gathered_whole g) at)) [
            | inl a ↦ inl (record { was = g.was; there = g.there; at = a })
            | inr a ↦ inr (inr (inl (record { kind = g.kind; leaves = g.leaves a.0 e a.1 })))
          ]
          | inr g ↦ inr (inr (inr (record { absent = g.absent; stands = g.stands i e at })))
        ]
      ]
    ]
  ]

  same_was : (s : StreamName) (x y : Stream) → stream_of b.stream s ≡ Some x → stream_of b.stream s ≡ Some y → x ≡ y
  same_was s x y a d = let k : Some x ≡ Some y = sym a ∙ d in cc

  -- what stood in a list has a number
  low : (s : StreamName) (i e : ℕ) → Stood s i e → e ≤ b.count
  low s i e a = let (y, is) = (fit.listed s a.was a.there).there i e a.at in fit.numbered e y is

  still_there : (e : ℕ) → (y : Extent) × (b.extent e ≡ Some y) → (y : Extent) × (c.extent e ≡ Some y)
  still_there e (y, is) = let k = goes.kept e y is in (k.now, k.is)

  still_sealed : (e l : ℕ) → SealedIn b e l → SealedIn c e l
  still_sealed e l s = let k = goes.kept e s.extent s.there in record { extent = k.now; there = k.is; sealed = k.sealed l s.sealed }

  -- what leaves a log is sealed, since one more stands behind it
  moved_sealed : (s : StreamName) (e : ℕ) → Moved s e → (l : ℕ) × SealedIn c e l
  moved_sealed s e m =
      let a = m.leaves in
      let (l, sealed) = (fit.listed (log_name a.range) a.log a.there).closed (λ k. cc) a.index e a.next a.at a.behind in
      (l, still_sealed e l sealed)

  -- what stands in a list that is no blob stream's is sealed, or is open and the last one there
  shared_sealed : (kind : StreamKind) (e : ℕ) → kind ≢ BlobData → StandsIn b kind e → (l : ℕ) × SealedIn c e l
  shared_sealed kind e plain a = by_next (slice_get (whole a.list) (suc a.index)) refl
    where
      by_next : (o : Option ℕ) → slice_get (whole a.list) (suc a.index) ≡ o → (l : ℕ) × SealedIn c e l
      by_next (Some next) behind =
          let (l, sealed) = (fit.listed a.name a.list a.there).closed (λ k. plain (sym a.kind_is ∙ k)) a.index e next a.at behind in
          (l, still_sealed e l sealed)
      by_next None behind =
          let end = last_at (whole a.list) a.index e a.at (none_behind (whole a.list) a.index e a.at behind) in
          let (l, sealed) = a.last (sym (whole_last a.list (fit.listed a.name a.list a.there).ends) ∙ end) in
          (l, still_sealed e l (sealed_so b e l sealed))

  all_there : (s : StreamName) (i e : ℕ) → Found s i e → (y : Extent) × (c.extent e ≡ Some y)
  all_there s i e (inl a) = still_there e ((fit.listed s a.was a.there).there i e a.at)
  all_there s i e (inr (inl a)) = (a.grown.new, ap c.extent a.new ∙ a.grown.made)
  all_there s i e (inr (inr (inl a))) = let (l, sealed) = moved_sealed s e a in (sealed.extent, sealed.there)
  all_there s i e (inr (inr (inr a))) = still_there e ((fit.listed a.stands.name a.stands.list a.stands.there).there a.stands.index e a.stands.at)

  -- the next one is added only after a sealed one
  last_sealed : (s : StreamName) (i e : ℕ) → Stood s i e → (g : (z : Stream) × Grown b c.extent s z) → suc i ≡ length (whole g.1.was) → (l : ℕ) × SealedIn c e l
  last_sealed s i e a (z, g) end =
      let same = same_was s a.was g.was a.there g.there in
      let at : slice_get (whole g.was) i ≡ Some e = subst (λ (v : Stream). slice_get (whole v) i ≡ Some e) same a.at in
      let is_last : last_of g.was.extents ≡ Some e = sym (whole_last g.was (fit.listed s g.was g.there).ends) ∙ last_at (whole g.was) i e at end in
      elim g.may [
        | inl none ↦ absurd (let k : None ≡ Some e = sym none ∙ is_last in cc)
        | inr m ↦
            let (f, there, named, (l, sealed)) = m in
            let k : f ≡ e = (let d : Some f ≡ Some e = sym there ∙ is_last in cc) in
            (l, still_sealed e l (sealed_so b e l (subst (λ j. sealed_lengths b j ≡ Some l) k sealed)))
      ]

  never_there : (s : StreamName) (x : Stream) → stream_of b.stream s ≡ Some x → stream_of b.stream s ≡ None → ⊥
  never_there s x there absent = let c : Some x ≡ None = sym there ∙ absent in cc

  all_closed : (s : StreamName) → s.kind ≢ BlobData → (i e f : ℕ) → Found s i e → Found s (suc i) f → (l : ℕ) × SealedIn c e l
  all_closed s plain i e f (inr (inr (inl a))) d = moved_sealed s e a
  all_closed s plain i e f (inr (inr (inr a))) d = shared_sealed s.kind e plain a.stands
  all_closed s plain i e f a (inr (inr (inl d))) = absurd (plain d.kind)
  all_closed s plain i e f (inl a) (inr (inr (inr d))) = absurd (never_there s a.was a.there d.absent)
  all_closed s plain i e f (inr (inl a)) (inr (inr (inr d))) = absurd (never_there s a.grown.was a.grown.there d.absent)
  all_closed s plain i e f (inl a) (inl d) =
      let same = same_was s d.was a.was d.there a.there in
      let (l, sealed) = (fit.listed s a.was a.there).closed plain i e f a.at (subst (λ (v : Stream). slice_get (whole v) (suc i) ≡ Some f) same d.at) in
      (l, still_sealed e l sealed)
  all_closed s plain i e f (inl a) (inr (inl d)) = last_sealed s i e a (d.stream, d.grown) d.end
  all_closed s plain i e f (inr (inl a)) (inl d) =
      let same = same_was s d.was a.grown.was d.there a.grown.there in
      let m = get_within (whole a.grown.was) (suc i) f (subst (λ (v : Stream). slice_get (whole v) (suc i) ≡ Some f) same d.at) in
      absurd (omega (arith, m, a.end))
  all_closed s plain i e f (inr (inl a)) (inr (inl d)) =
      let same = same_was s d.grown.was a.grown.was d.grown.there a.grown.there in
      absurd (omega (arith, a.end, d.end, ap (λ (v : Stream). length (whole v)) same))

  -- with one more at the end, which is made last
  grown_rising : (s : StreamName) (z : Stream) (g : Grown b c.extent s z) → IsRising g.was → IsRising z
  grown_rising s z g rising i j e f l at next =
      let here : slice_get (whole g.was ++ suc b.count ∷ []) i ≡ Some e = subst (λ xs. slice_get xs i ≡ Some e) (grown_whole g) at in
      let there : slice_get (whole g.was ++ suc b.count ∷ []) j ≡ Some f = subst (λ xs. slice_get xs j ≡ Some f) (grown_whole g) next in
      elim (get_pushed (whole g.was) (suc b.count) i e here) [
        | inl a ↦ elim (get_pushed (whole g.was) (suc b.count) j f there) [
          | inl d ↦ rising i j e f l a d
          | inr d ↦ let m = low s i e (record { was = g.was; there = g.there; at = a }) in omega (arith, m, d.1)
        ]
        | inr a ↦ elim (get_pushed (whole g.was) (suc b.count) j f there) [
          | inl d ↦ let m = get_within (whole g.was) j f d in absurd (omega (arith, m, l, a.0))
          | inr d ↦ absurd (omega (arith, l, a.0, d.0))
        ]
      ]

  same_rising : (x z : Stream) → whole z ≡ whole x → IsRising x → IsRising z
  same_rising x z same rising = subst (λ (xs : List ℕ). (i j e f : ℕ) → i < j → slice_get xs i ≡ Some e → slice_get xs j ≡ Some f → e < f) (sym same) rising

  all_rising : (among : StreamName → Bool) → AreUnjoined post among → (s : StreamName) (z : Stream) → stream_of c.stream s ≡ Some z → among s ≡ true → s.kind ≢ BlobData → IsRising z
  all_rising among unjoined s z there inside plain = elim (goes.lists s z there) [
    | inl o ↦ same_rising o.was z o.same (fit.rising among unjoined s o.was o.there inside plain)
    | inr n ↦ elim n [
      | inl k ↦ same_rising (empty_stream 0) z (none_whole z k.0 k.1) (λ i j e f l at next. absurd cc)
      | inr k ↦ elim k [
        | inl g ↦ grown_rising s z g.1 (fit.rising among unjoined s g.1.was g.1.there inside plain)
        | inr h ↦ elim h [
          | inl g ↦ absurd (plain g.kind)
          | inr g ↦
              let a = g.alike among unjoined inside in
              same_rising a.list z a.same (fit.rising among unjoined a.name a.list a.there a.inside (λ k. plain (sym a.kind_is ∙ k)))
        ]
      ]
    ]
  ]

  -- what is open was open before
  open_before : (e : ℕ) (x y : Extent) → b.extent e ≡ Some x → c.extent e ≡ Some y → y.sealed ≡ None → x.sealed ≡ None
  open_before e x y was is unsealed = by_length x.sealed refl
    where
      by_length : (o : Option ℕ) → x.sealed ≡ o → x.sealed ≡ None
      by_length None none = none
      by_length (Some l) sealed =
          let k = goes.kept e x was in
          let same : k.now ≡ y = (let d : Some k.now ≡ Some y = sym k.is ∙ is in cc) in
          absurd (let d : None ≡ Some l = sym unsealed ∙ ap (λ (v : Extent). v.sealed) (sym same) ∙ k.sealed l sealed in cc)

  is_open : (e : ℕ) (y : Extent) → c.extent e ≡ Some y → y.sealed ≡ None → (l : ℕ) × SealedIn c e l → ⊥
  is_open e y is unsealed (l, sealed) =
      let same : sealed.extent ≡ y = (let d : Some sealed.extent ≡ Some y = sym sealed.there ∙ is in cc) in
      let d : None ≡ Some l = sym unsealed ∙ ap (λ (v : Extent). v.sealed) (sym same) ∙ sealed.sealed in
      cc

  abbrev Alone : StreamName → StreamName → ℕ → ℕ → Type 0
  Alone s t i j = ((s ≡ t) × (i ≡ j)) ⊎ ((s.kind ≡ BlobData) × (t.kind ≡ BlobData))

  alone_back : (s t : StreamName) (i j : ℕ) → Alone s t i j → Alone t s j i
  alone_back s t i j (inl a) = inl (sym a.0, sym a.1)
  alone_back s t i j (inr a) = inr (a.1, a.0)

  -- an extent that is open is copied from blob streams alone, and stands in none but these
  copied_alone : (s t : StreamName) (i j e : ℕ) (y : Extent) → c.extent e ≡ Some y → y.sealed ≡ None → Copied s e → Found t j e → Alone s t i j
  copied_alone s t i j e y is unsealed a d = elim (is_blob s.kind) [
    | inr plain ↦ absurd (is_open e y is unsealed (shared_sealed s.kind e plain a.stands))
    | inl blob ↦ inr (blob, of_blob blob d)
  ]
    where
      of_blob : s.kind ≡ BlobData → Found t j e → t.kind ≡ BlobData
      of_blob blob (inl x) =
          let n = a.stands in
          let (z, was) = (fit.listed n.name n.list n.there).there n.index e n.at in
          elim ((fit.listed n.name n.list n.there).alone t x.was n.index j e z x.there was (open_before e z y was is unsealed) n.at x.at) [
            | inl k ↦ ap (λ (m : StreamName). m.kind) (sym k.0) ∙ n.kind_is ∙ blob
            | inr k ↦ k.1
          ]
      of_blob blob (inr (inl x)) =
          let n = a.stands in
          let (z, was) = (fit.listed n.name n.list n.there).there n.index e n.at in
          let m = fit.numbered e z was in
          absurd (omega (arith, m, x.new))
      of_blob blob (inr (inr (inl x))) = x.kind
      of_blob blob (inr (inr (inr x))) = elim (is_blob t.kind) [
        | inl k ↦ k
        | inr plain ↦ absurd (is_open e y is unsealed (shared_sealed t.kind e plain x.stands))
      ]

  all_alone : (s t : StreamName) (i j e : ℕ) (y : Extent) → c.extent e ≡ Some y → y.sealed ≡ None → Found s i e → Found t j e → Alone s t i j
  all_alone s t i j e y is unsealed (inr (inr (inl a))) d = absurd (is_open e y is unsealed (moved_sealed s e a))
  all_alone s t i j e y is unsealed (inr (inr (inr a))) d = copied_alone s t i j e y is unsealed a d
  all_alone s t i j e y is unsealed a (inr (inr (inl d))) = absurd (is_open e y is unsealed (moved_sealed t e d))
  all_alone s t i j e y is unsealed a (inr (inr (inr d))) = alone_back t s j i (copied_alone t s j i e y is unsealed d a)
  all_alone s t i j e y is unsealed (inl a) (inl d) =
      let (x, was) = (fit.listed s a.was a.there).there i e a.at in
      (fit.listed s a.was a.there).alone t d.was i j e x d.there was (open_before e x y was is unsealed) a.at d.at
  all_alone s t i j e y is unsealed (inl a) (inr (inl d)) = absurd (let m = low s i e a in omega (arith, m, d.new))
  all_alone s t i j e y is unsealed (inr (inl a)) (inl d) = absurd (let m = low t j e d in omega (arith, m, a.new))
  all_alone s t i j e y is unsealed (inr (inl a)) (inr (inl d)) =
      let name : s ≡ t = a.name ∙ sym d.name in
      let same : a.grown.was ≡ d.grown.was = same_was t a.grown.was d.grown.was (ap (stream_of b.stream) (sym name) ∙ a.grown.there) d.grown.there in
      inl (name, a.end ∙ ap (λ (v : Stream). length (whole v)) same ∙ sym d.end)

  none_gone : (s : StreamName) (z : Stream) → stream_of c.stream s ≡ Some z → s.kind ≢ Log → z.gone ≡ []
  none_gone s z there other = elim (goes.lists s z there) [
    | inl o ↦ o.gone other ∙ (fit.listed s o.was o.there).gone other
    | inr n ↦ elim n [
      | inl k ↦ k.0
      | inr v ↦ elim v [
        | inl g ↦ g.1.gone ∙ (fit.listed s g.1.was g.1.there).gone other
        | inr h ↦ elim h [
          | inl g ↦ g.gone ∙ (fit.listed s g.was g.there).gone other
          | inr g ↦ elim g.begins [ inl none ↦ none | inr k ↦ k.gone ∙ (fit.listed k.name k.list k.there).gone (λ log. other (sym k.kind_is ∙ log)) ]
        ]
      ]
    ]
  ]

  last_stays : (s : StreamName) (z : Stream) → stream_of c.stream s ≡ Some z → z.extents ≡ [] → z.gone ≡ []
  last_stays s z there none = elim (goes.lists s z there) [
    | inl o ↦ o.ends (fit.listed s o.was o.there).ends none
    | inr n ↦ elim n [
      | inl k ↦ k.0
      | inr v ↦ elim v [
        | inl g ↦ absurd (never_empty g.1.was.extents (suc b.count) (sym g.1.extents ∙ none))
        | inr h ↦ elim h [
          | inl g ↦ g.gone ∙ (fit.listed s g.was g.there).ends (none_first g.was.extents g.left (sym g.extents ∙ none))
          | inr g ↦ elim g.begins [ inl empty ↦ empty | inr k ↦ k.gone ∙ (fit.listed k.name k.list k.there).ends (k.ends none) ]
        ]
      ]
    ]
  ]

  fit_next : Fit post c
  fit_next = record {
    listed = λ s z is. record {
      gone = none_gone s z is;
      ends = last_stays s z is;
      there = λ i e at. all_there s i e (found s z i e is at);
      closed = λ plain i e f at next. all_closed s plain i e f (found s z i e is at) (found s z (suc i) f is next);
      alone = λ t v i j e y there made unsealed at next. all_alone s t i j e y made unsealed (found s z i e is at) (found t v j e there next);
    };
    rising = all_rising;
    numbered = λ e y is. elim (goes.numbered e y is) [
      | inl x ↦ let m = fit.numbered e x.0 x.1 in omega (arith, m, goes.count)
      | inr x ↦ x
    ];
  }

-- ---- runs

moved_fit : (w : StreamSystem) (move : Move) → ServersAsk w.post → Fit w.post w.catalog → Fit (moved w move).post (moved w move).catalog
moved_fit w move asks fit =
    fit_later w.post (moved w move).post (moved w move).catalog (moved_gains w move).post
    (fit_next w.post w.catalog (moved w move).catalog (moved_goes w (fresh_next w.post w.catalog fit) asks move) fit)

run_fit : (moves : List Move) (w : StreamSystem) → ServersAsk w.post → Fit w.post w.catalog → Fit (run_moves moves w).post (run_moves moves w).catalog
run_fit [] w asks fit = fit
run_fit (move ∷ moves) w asks fit = run_fit moves (moved w move) (asks_next w move asks) (moved_fit w move asks fit)

longer_trans : (x : Stream) (o p : Option Stream) → Longer x o → ((y : Stream) → o ≡ Some y → Longer y p) → Longer x p
longer_trans x o p a next =
    let d = next a.now a.is in
    record { now = d.now; is = d.is; begins = begins_trans a.begins d.begins; gone = begins_trans a.gone d.gone }

run_longer : (moves : List Move) (w : StreamSystem) → ServersAsk w.post → Fit w.post w.catalog → (s : StreamName) (x : Stream) → stream_of w.catalog.stream s ≡ Some x →
    Longer x (stream_of (run_moves moves w).catalog.stream s)
run_longer [] w asks fit s x is = record { now = x; is = is; begins = begins_refl (whole x); gone = begins_refl x.gone }
run_longer (move ∷ moves) w asks fit s x is =
    let goes = moved_goes w (fresh_next w.post w.catalog fit) asks move in
    longer_trans x (stream_of (moved w move).catalog.stream s) (stream_of (run_moves moves (moved w move)).catalog.stream s) (goes.grows s x is)
    (λ y there. run_longer moves (moved w move) (asks_next w move asks) (moved_fit w move asks fit) s y there)

-- at first the four streams of range 1 are empty
first_fit : (nodes target : ℕ) → Fit (start nodes target).post (start nodes target).catalog
first_fit nodes target = record {
  listed = λ s z is.
      if_elim (λ o. o ≡ Some z → Listed (start nodes target).catalog s z) ((s.range == 1) && nat_le (kind_number s.kind) 3) (Some (empty_stream 0)) None
      (λ t k. let c : empty_stream 0 ≡ z = cc in subst (Listed (start nodes target).catalog s) c (record {
        gone = λ other. refl;
        ends = λ none. refl;
        there = λ i e at. absurd cc;
        closed = λ plain i e f at next. absurd cc;
        alone = λ t v i j e y there made unsealed at next. absurd cc;
      }))
      (λ t k. absurd cc) is;
  rising = λ among unjoined s z is.
      if_elim (λ o. o ≡ Some z → among s ≡ true → s.kind ≢ BlobData → IsRising z) ((s.range == 1) && nat_le (kind_number s.kind) 3) (Some (empty_stream 0)) None
      (λ t k inside plain. let c : empty_stream 0 ≡ z = cc in subst IsRising c (λ i j e f l at next. absurd cc)) (λ t k. absurd cc) is;
  numbered = λ e y is. absurd cc;
}

pub lists_grow : (nodes target : ℕ) (before after : List Move) → ListsGrow before after (start nodes target)
lists_grow nodes target before after =
    let w = start nodes target in
    let fit = run_fit before w (none_asked nodes target) (first_fit nodes target) in
    record {
      listed = fit.listed;
      rising = fit.rising;
      longer = λ s x is. subst (λ (v : StreamSystem). Longer x (stream_of v.catalog.stream s)) (sym (run_more before after w)) (run_longer after (run_moves before w) (servers_ask nodes target before) fit s x is);
    }
