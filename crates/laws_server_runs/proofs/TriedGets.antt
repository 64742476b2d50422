-- What tries of Gets leave and show: each Get that waits after one waited before, with its key, or is new, and its key is the range's; and each
-- that is answered was looked up while the range was not paused and its lease lasted.
use Rattle.std.proofs.Common.{◌≡◌, ℕ, Bool, true, false, not, nat_le, List, [], ◌∷◌, ◌++◌, length, map, Option, Some, None, refl}
use Rattle.std.specs.Prelude.{slice_get, ◌-◌}
use Rattle.block_types.specs.declared.record.Nodes.{Nodes}
use Rattle.wire.specs.declared.actor.ActorId.{ActorId}
use Rattle.wire.specs.declared.actor.ReqNo.{ReqNo}
use Rattle.wire.specs.declared.refusal.Refusal.{Refusal}
use Rattle.wire.specs.declared.refusal.Refusal.TheVariants as refusals
use Rattle.memtable.specs.declared.cell.Place.{Place}
use Rattle.metadata.specs.Keys.{within}
use Rattle.model_streams.proofs.Tests.{none_met}
use Rattle.model_partition.specs.declared.server_context.ServerContext.{ServerContext}
use Rattle.model_partition.specs.declared.waiting.PlaceRead.{PlaceRead}
use Rattle.model_partition.specs.declared.waiting.WaitingGet.{WaitingGet}
use Rattle.model_partition.specs.PlaceReads.{place_of, places_of}
use Rattle.model_partition.specs.Range.{RangeState, RangeOutcome, is_paused, is_serving}
use Rattle.model_partition.specs.Serving.{is_key, lease_ended}
use Rattle.model_partition.specs.Getting.{Lookup, Is, Needs, look, standing, came, read_at, without, Tried, asks_place, answered, try_fault, try_unless, try, try_all, get_fault, gets, get_rule, bytes_come, gives_up_read, gives_up_get}
use Rattle.model_histories.specs.StreamActions.{StreamAction}
use Rattle.laws_server_runs.specs.Turns.{IsRule, Transacts, Answers, Gets, Yields, Checkpoints, Renews}
use Rattle.laws_server_runs.proofs.RunSteps.{not_false}
use Rattle.laws_server_runs.proofs.WaitingGets.{AllGots, gots_both, GetsIf, LeavesGets, transact_leaves, checkpoint_leaves, answer_elim}

-- of the keys of these Gets this is so
abbrev pub AllKeys : (List ℕ → Type 0) → List WaitingGet → Type 0
AllKeys P [] = Unit {0}
AllKeys P (g ∷ gets) = P g.key × AllKeys P gets

module _ (P : List ℕ → Type 0) where
  keys_both : (xs ys : List WaitingGet) → AllKeys P xs → AllKeys P ys → AllKeys P (xs ++ ys)
  keys_both [] ys a b = b
  keys_both (g ∷ xs) ys a b = (a.0, keys_both xs ys a.1 b)

  keys_without : (w : ReqNo) (gs : List WaitingGet) → AllKeys P gs → AllKeys P (map (without w) gs)
  keys_without w [] h = tt
  keys_without w (g ∷ gs) h = (h.0, keys_without w gs h.1)

  read_given_up : (d : ServerContext) (r : RangeState) (g : WaitingGet) (read : Option PlaceRead) → P g.key → P (gives_up_read d r g read).0.key
  read_given_up d r g None h = h
  read_given_up d r g (Some read) h = h

  keys_given_up : (d : ServerContext) (r : RangeState) (gs : List WaitingGet) → AllKeys P gs → AllKeys P (map (λ g. (gives_up_get d r g).0) gs)
  keys_given_up d r [] h = tt
  keys_given_up d r (g ∷ gs) h = (read_given_up d r g (slice_get g.reads (length g.reads - 1)) h.0, keys_given_up d r gs h.1)

  module _ (Q : (range g : ℕ) → List ℕ → Option (List ℕ) → Type 0) where
    -- what a look-up finds while the range is not paused and its lease lasts
    abbrev pub LooksUp : ServerContext → RangeState → Type 0
    LooksUp d r = (key : List ℕ) (value : Option (List ℕ)) → P key → is_paused r.pause ≡ false → lease_ended d r ≡ false → look r.held r.indexes key (standing r key) ≡ Is value → Q r.load.range r.load.generation key value

    abbrev Leaves : Tried → Type 0
    Leaves t = AllKeys P t.waiting × AllGots Q t.notes

    asks_leaves : (d : ServerContext) (g : WaitingGet) → P g.key → (page : Bool) (place : Place) (places : Option Nodes) → Leaves (asks_place d g page place places)
    asks_leaves d g h page place None = ((h, tt), tt)
    asks_leaves d g h page place (Some places) = ((h, tt), tt)

    answered_leaves : (d : ServerContext) (r : RangeState) (g : WaitingGet) → P g.key → (found : Lookup) → ((value : Option (List ℕ)) → found ≡ Is value → Q r.load.range r.load.generation g.key value) → Leaves (answered d r g found)
    answered_leaves d r g h (Is value) shows = (tt, (shows value refl, tt))
    answered_leaves d r g h (Needs page place) shows = asks_leaves d g h page place (places_of r place.extent)

    try_leaves : (d : ServerContext) (r : RangeState) → LooksUp d r → (g : WaitingGet) → P g.key → Leaves (try d r g)
    try_leaves d r shows g h = go (try_fault d r) refl
      where
        go : (fault : Option Refusal) → try_fault d r ≡ fault → Leaves (try_unless d r g fault)
        go (Some why) e = (tt, tt)
        go None e =
            let all = none_met ((refusals.Paused, is_paused r.pause) ∷ (refusals.LeaseEnded, lease_ended d r) ∷ []) e in
            answered_leaves d r g h (look r.held r.indexes g.key (standing r g.key)) (λ value is. shows g.key value h all.0 all.1.0 is)

    try_all_leaves : (d : ServerContext) (r : RangeState) → LooksUp d r → (gs : List WaitingGet) → AllKeys P gs → Leaves (try_all d r gs)
    try_all_leaves d r shows [] h = (tt, tt)
    try_all_leaves d r shows (g ∷ gs) h =
        let one : Tried = try d r g in
        let first : Leaves one = try_leaves d r shows g h.0 in
        let others : Leaves (try_all (record d { count = one.count }) r gs) = try_all_leaves (record d { count = one.count }) r shows gs h.1 in
        (keys_both one.waiting _ first.0 others.0, gots_both Q one.notes _ first.1 others.1)

    -- ---- rules

    module _ (r : RangeState) (h : AllKeys P r.gets) where
      -- a Get, whose key is the range's where the range is served
      pub get_leaves : (d : ServerContext) → LooksUp d r → (from : ActorId) (q : ReqNo) (key : List ℕ) → (is_serving r.stage ≡ true → within r.said.keys key ≡ true → P key) → LeavesGets (AllKeys P) Q (get_rule d r from q key)
      get_leaves d shows from q key new = go (get_fault d r key) refl
        where
          go : (fault : Option Refusal) → get_fault d r key ≡ fault → LeavesGets (AllKeys P) Q (gets d r from q key fault)
          go (Some why) e = (h, tt)
          go None e =
              let all = none_met (
              (refusals.Loading, not (is_serving r.stage))
              ∷ (refusals.Paused, is_paused r.pause)
              ∷ (refusals.LeaseEnded, lease_ended d r)
              ∷ (refusals.BadKey, not (is_key key))
              ∷ (refusals.OutOfRange, not (within r.said.keys key))
              ∷ (refusals.Busy, nat_le 256 (length r.gets))
              ∷ []) e in
              let t : Leaves (try d r (record { from = from; request = q; key = key; reads = [] })) =
              try_leaves d r shows (record { from = from; request = q; key = key; reads = [] }) (new (not_false (is_serving r.stage) all.0) (not_false (within r.said.keys key) all.1.1.1.1.0)) in
              (keys_both r.gets _ h t.0, t.1)

      -- bytes that have come for one
      pub come_leaves : (d : ServerContext) (w : ReqNo) (place : Place) (bytes : List ℕ) → LooksUp d (record r { held = came r.held (read_at r.gets w) place bytes }) → LeavesGets (AllKeys P) Q (bytes_come d r w place bytes)
      come_leaves d w place bytes shows = try_all_leaves d (record r { held = came r.held (read_at r.gets w) place bytes }) shows (map (without w) r.gets) (keys_without w r.gets h)

  -- ---- what waits after each rule

  abbrev any : (range g : ℕ) → List ℕ → Option (List ℕ) → Type 0
  any range g key value = Unit {0}

  module _ (r : RangeState) (h : AllKeys P r.gets) (new : (key : List ℕ) → is_serving r.stage ≡ true → within r.said.keys key ≡ true → P key) where
    pub rule_keys : (actions : List StreamAction) (o : RangeOutcome) → IsRule r actions o → GetsIf (AllKeys P) o.after
    rule_keys actions o (Transacts d from q changes) = (transact_leaves (AllKeys P) any d r h from q changes).0
    rule_keys actions o (Answers d w body) =
        answer_elim (AllKeys P) any d r h (λ actions o. GetsIf (AllKeys P) o.after) (λ actions o l. l.0) w
        (λ e offset bytes. (come_leaves any r h d w (place_of e offset bytes) bytes (λ key value p paused lasts is. tt)).0) body
    rule_keys actions o (Gets d from q key) = (get_leaves any r h d (λ key value p paused lasts is. tt) from q key (new key)).0
    rule_keys actions o (Yields d) = keys_given_up d r r.gets h
    rule_keys actions o (Checkpoints d combine may) = (checkpoint_leaves (AllKeys P) any d r h combine).0
    rule_keys actions o (Renews until count) = h
