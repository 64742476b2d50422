-- The nodes and the manager are the lower layer of the machine of one stream of a range, whatever happens.
use Rattle.std.proofs.Common.{◌≡◌, ◌≢◌, ℕ, suc, ◌≤◌, true, List, [], ◌∷◌, ◌++◌, Option, Some, None, slice_get, refl, sym, ap, ◌∙◌, inl, inr, arith, subst}
use Rattle.wire.specs.declared.actor.ActorId.{ActorId}
use Rattle.wire.specs.declared.body.Body.{Body}
use Rattle.wire.specs.declared.note.Note.{Note}
use Rattle.wire.specs.declared.streams.StreamKind.TheVariants.{BlobData}
use Rattle.wire.specs.declared.streams.StreamName.{StreamName}
use Rattle.replica.specs.Groups.{Group}
use Rattle.streams.specs.Streams.{Stream, stream_of}
use Rattle.model_streams.specs.declared.event.Event.{Event}
use Rattle.model_streams.specs.Manager.{sealed_in}
use Rattle.model_streams.specs.StreamSystem.{StreamSystem, start, is_server_call, Move, moved, run_moves}
use Rattle.model_streams.specs.StreamSystem.Move.{Happens, Asks, Says, Observes}
use Rattle.laws_streams.proofs.BuildRequests.{ServersAsk, servers_ask}
use Rattle.laws_streams.proofs.RestsOnGround.{places_of}
use Rattle.laws_streams.proofs.Invariant.{run_moves_push}
use Rattle.laws_streams.proofs.Listings.{moved_goes, lists_grow}
use Rattle.model_histories.specs.StreamMachine.{MachineState, MachineStep}
use Rattle.model_histories.specs.ServerTurns.{Turn, Whole, Above, at_first, after_all, AreMoves}
use Rattle.model_histories.specs.ServerTurns as machine
use Rattle.laws_stream_machine.specs.Refinement.{Sent, extents_of, IsAt, IsUnsealedAt, IsAsked, AllAsked, AllMean}
use Rattle.laws_stream_machine.proofs.FactSources.{lawful}
use Rattle.laws_stream_machine.proofs.StepSequences.{Onward, Walk, all_onward, below_all, walked}
use Rattle.laws_stream_machine.proofs.SentPackets.{Ahead}
use Rattle.laws_stream_machine.proofs.Refines.{Follows, start_follows, says_follows, asks_follows, observes_follows}
use Rattle.laws_stream_machine.proofs.SystemSteps.{ahead_goes}
use Rattle.laws_stream_machine.proofs.StreamRules.{IsListed, same_index}
use Rattle.laws_stream_machine.proofs.EventSteps.{happens_walk, all_mean}
use Rattle.laws_stream_machine.proofs.ServerRequests.{Unused, turn_upper, upper_follows, sent_follows}

module _ (generation : ℕ → ℕ) (name : StreamName) (nodes target : ℕ) where
  -- the system after these moves
  abbrev pub system : List Move → StreamSystem
  system moves = run_moves moves (start nodes target)

  -- After these moves the stream of the system is the machine: its core is the stream's list, what servers have asked is what
  -- the facts say, and so is what they were answered.
  pub record Below (moves : List Move) (whole : Whole Group generation) (sent : List Sent) : Type 0 where
    pub follows : Follows generation name (system moves) whole.state sent
    pub asked : AllAsked generation name (system moves) whole.state sent
    pub mean : AllMean generation name (system moves) whole.state sent

  pub is_below : (moves : List Move) (whole : Whole Group generation) (sent : List Sent) → Follows generation name (system moves) whole.state sent → Below moves whole sent
  is_below moves whole sent a = record { follows = a; asked = a.asked; mean = all_mean generation name sent nodes target moves whole.state a }

  -- one more move
  pushed : (moves : List Move) (move : Move) (whole : Whole Group generation) (sent : List Sent) → Follows generation name (moved (system moves) move) whole.state sent → Below (moves ++ move ∷ []) whole sent
  pushed moves move whole sent a =
      is_below (moves ++ move ∷ []) whole sent (subst (λ v. Follows generation name v whole.state sent) (sym (run_moves_push moves move (start nodes target))) a)

  -- ---- at first

  pub below_start : Below [] (at_first Group generation) []
  below_start = is_below [] (at_first Group generation) [] (start_follows generation name nodes target)

  -- ---- what happens to nodes and to the manager

  -- the machine goes on by steps of its lower layer, and is the stream again
  pub record Happened (ms : List (machine.Move Group generation)) (moves : List Move) (event : Event) (sent : List Sent) : Type 0 where
    pub steps : List (MachineStep Group)
    pub are : AreMoves Group generation (below_all generation steps ++ ms)
    pub phase : (i : ℕ) → (after_all Group generation (below_all generation steps ++ ms)).phase i ≡ (after_all Group generation ms).phase i
    pub ahead : Ahead name (system moves) (after_all Group generation ms).state (system (moves ++ Happens event ∷ [])) (after_all Group generation (below_all generation steps ++ ms)).state
    pub below : Below (moves ++ Happens event ∷ []) (after_all Group generation (below_all generation steps ++ ms)) sent

  phase_stays : (ms : List (machine.Move Group generation)) (steps : List (MachineStep Group)) (i : ℕ) → (after_all Group generation (below_all generation steps ++ ms)).phase i ≡ (after_all Group generation ms).phase i
  phase_stays ms [] i = refl
  phase_stays ms (x ∷ steps) i = phase_stays ms steps i

  -- ---- the manager's lists

  asks_now : (moves : List Move) → ServersAsk (system moves).post
  asks_now moves = servers_ask nodes target moves

  pub listed_now : name.kind ≢ BlobData → (moves : List Move) (whole : Whole Group generation) (sent : List Sent) → Below moves whole sent → IsListed (system moves) name
  listed_now plain moves whole sent a =
      let lists = lists_grow nodes target moves [] in
      record { listed = lists.listed name; rising = a.follows.rising }

  -- lists grow by new extents alone
  pub below_ahead : name.kind ≢ BlobData → (moves : List Move) (whole : Whole Group generation) (sent : List Sent) → Below moves whole sent → (move : Move) (t : MachineState Group) → Onward whole.state t →
      Ahead name (system moves) whole.state (system (moves ++ move ∷ [])) t
  below_ahead plain moves whole sent a move t on =
      let w : StreamSystem = system moves in
      let fresh = a.follows.holds.catalog.fresh (suc w.catalog.count) (omega arith) in
      subst (λ v. Ahead name w whole.state v t) (sym (run_moves_push moves move (start nodes target)))
      (ahead_goes generation name plain w whole.state sent a.follows (asks_now moves) (moved w move) t (moved_goes w fresh (asks_now moves) move) on)

  pub below_happens : 1 ≤ name.range → name.kind ≢ BlobData → (ms : List (machine.Move Group generation)) → AreMoves Group generation ms → (moves : List Move) (sent : List Sent) →
      Below moves (after_all Group generation ms) sent → (event : Event) → Happened ms moves event sent
  below_happens own plain ms are moves sent a event =
      let whole : Whole Group generation = after_all Group generation ms in
      let walk : Walk generation whole.state (λ t. Follows generation name (moved (system moves) (Happens event)) t sent) =
      happens_walk generation name sent (system moves) whole.state a.follows plain (asks_now moves) own (lawful Group generation ms are) (listed_now plain moves whole sent a) event in
      let (all, same) = walked generation ms are walk.steps walk.run walk.layer in
      let next : Whole Group generation = after_all Group generation (below_all generation walk.steps ++ ms) in
      record {
        steps = walk.steps;
        are = all;
        phase = phase_stays ms walk.steps;
        ahead = below_ahead plain moves whole sent a (Happens event) next.state (subst (Onward whole.state) (sym same) (all_onward generation whole.state walk.steps));
        below = pushed moves (Happens event) next sent (subst (λ t. Follows generation name (moved (system moves) (Happens event)) t sent) (sym same) walk.there);
      }

  -- ---- what others tell, ask and show

  pub below_says : (moves : List Move) (whole : Whole Group generation) (sent : List Sent) → Below moves whole sent → (from to : ActorId) (body : Body) → Below (moves ++ Says from to body ∷ []) whole sent
  below_says moves whole sent a from to body = pushed moves (Says from to body) whole sent (says_follows generation name whole.state sent (system moves) from to body a.follows)

  pub below_observes : (moves : List Move) (whole : Whole Group generation) (sent : List Sent) → Below moves whole sent → (note : Note) → Below (moves ++ Observes note ∷ []) whole sent
  below_observes moves whole sent a note = pushed moves (Observes note) whole sent (observes_follows generation name whole.state sent (system moves) note a.follows)

  pub below_asks : (moves : List Move) (whole : Whole Group generation) (sent : List Sent) → Below moves whole sent → (server : ℕ) (to : ActorId) (body : Body) →
      (is_server_call body ≡ true → IsAsked generation name (system moves) whole.state sent body) → Below (moves ++ Asks server to body ∷ []) whole sent
  below_asks moves whole sent a server to body asked = pushed moves (Asks server to body) whole sent (asks_follows generation name whole.state sent (system moves) server to body asked a.follows)

  -- ---- turns of servers, and numbers for new requests

  pub below_above : (moves : List Move) (whole : Whole Group generation) (sent : List Sent) → Below moves whole sent → (i : ℕ) (turn : Turn Group) →
      Below moves (machine.moved Group generation whole (Above i turn)) sent
  below_above moves whole sent a i turn =
      let next : Whole Group generation = machine.moved Group generation whole (Above i turn) in
      is_below moves next sent (upper_follows generation name (system moves) whole.state next.state sent (turn_upper generation whole.state i (whole.phase i) turn) a.follows)

  pub below_sends : (moves : List Move) (whole : Whole Group generation) (sent : List Sent) → Below moves whole sent → (new : Sent) → Unused (system moves) new.request →
      Below moves whole (new ∷ sent)
  below_sends moves whole sent a new unused = is_below moves whole (new ∷ sent) (sent_follows generation name (system moves) whole.state sent new unused a.follows)

  -- ---- what a server says of an extent

  -- the extents of the list are made
  pub below_made : (moves : List Move) (whole : Whole Group generation) (sent : List Sent) → Below moves whole sent → (index e : ℕ) → IsAt (system moves) name index e → (system moves).catalog.extent e ≡ None → ⊥
  below_made moves whole sent a index e at none =
      let (places, is) = a.follows.shaped.settled.made index e at in
      let c : None ≡ Some places = sym (a.follows.holds.catalog.places e ∙ ap places_of none) ∙ is in cc

  stream_at : (o : Option Stream) (index e : ℕ) → slice_get (extents_of o) index ≡ Some e → (x : Stream) × (o ≡ Some x)
  stream_at None index e at = absurd cc
  stream_at (Some x) index e at = (x, refl)

  -- an extent of the stream stands at one index
  pub below_index : name.kind ≢ BlobData → (moves : List Move) (whole : Whole Group generation) (sent : List Sent) → Below moves whole sent → (i j e : ℕ) → IsAt (system moves) name i e → IsAt (system moves) name j e → i ≡ j
  below_index plain moves whole sent a i j e at there =
      let w : StreamSystem = system moves in
      let (x, is) = stream_at (stream_of w.catalog.stream name) i e at in
      same_index x ((listed_now plain moves whole sent a).rising x is) i j e (subst (λ o. slice_get (extents_of o) i ≡ Some e) is at) (subst (λ o. slice_get (extents_of o) j ≡ Some e) is there)

  -- while it is not sealed it stands in no other list
  pub below_alone : name.kind ≢ BlobData → (moves : List Move) (other : StreamName) → (other ≡ name → ⊥) → (i j e : ℕ) → IsAt (system moves) other i e → IsUnsealedAt (system moves) name j e → ⊥
  below_alone plain moves other apart i j e here there =
      let w : StreamSystem = system moves in
      let (z, is) = stream_at (stream_of w.catalog.stream other) i e here in
      let (x, own) = stream_at (stream_of w.catalog.stream name) j e there.0 in
      let l = (lists_grow nodes target moves []).listed other z is in
      let (y, made) = l.there i e (subst (λ o. slice_get (extents_of o) i ≡ Some e) is here) in
      elim (l.alone name x i j e y own made (ap sealed_in (sym made) ∙ there.1) (subst (λ o. slice_get (extents_of o) i ≡ Some e) is here) (subst (λ o. slice_get (extents_of o) j ≡ Some e) own there.0)) [
        | inl k ↦ apart k.0
        | inr k ↦ plain k.1
      ]
