-- The machine of any stream beside a run: what servers send and show leaves it what the stream is.
use Rattle.std.proofs.Common.{◌≡◌, ℕ, Bool, true, false, List, [], ◌∷◌, ◌++◌, Option, Some, None, Contains, refl, sym, ap, ◌∙◌, subst, inl, inr, if◌then◌else◌, append_assoc, append-nil}
use Rattle.wire.specs.declared.actor.ActorId.{ActorId}
use Rattle.wire.specs.declared.actor.ActorId.TheVariants.{Manager, Server}
use Rattle.wire.specs.declared.actor.ReqNo.{ReqNo}
use Rattle.wire.specs.declared.body.AppendBody.TheVariants.{Append, Appended}
use Rattle.wire.specs.declared.body.CheckBody.TheVariants.{Check, Checked as CheckedAt}
use Rattle.wire.specs.declared.body.StreamBody.TheVariants.{OpenStreams, Opened, Confirm, Confirmed, Extend, Extended}
use Rattle.wire.specs.declared.body.StreamBody.{StreamBody}
use Rattle.wire.specs.declared.body.AppendBody.{AppendBody}
use Rattle.wire.specs.declared.body.CheckBody.{CheckBody}
use Rattle.wire.specs.declared.body.Body.{Body}
use Rattle.wire.specs.declared.body.Body.TheVariants as bodies
use Rattle.wire.specs.declared.note.Note.{Note}
use Rattle.wire.specs.declared.packet.Packet.{Packet}
use Rattle.wire.specs.declared.streams.StreamName.{StreamName}
use Rattle.replica.specs.Groups.{Group}
use Rattle.client.specs.Requests.{is_same}
use Rattle.model_streams.specs.Outcome.{packet}
use Rattle.model_streams.specs.StreamSystem.{StreamSystem, Move, run_moves, start, sent_more, is_table_note}
use Rattle.model_streams.specs.StreamSystem.Move.{Asks, Says, Observes}
use Rattle.laws_streams.proofs.Invariant.{run_moves_push}
use Rattle.laws_streams.proofs.ContentAnswers.{content_answered}
use Rattle.laws_streams.proofs.StreamAnswers.{openings_answered, confirmations_answered, extensions_answered}
use Rattle.model_partition.specs.declared.table_note.TableNote.{TableNote}
use Rattle.model_partition.specs.Servers.{ServerCell, told, noted, with_told}
use Rattle.model_partition.specs.Cluster.{told_by_map}
use Rattle.model_histories.specs.ServerTurns.{Turn, Whole, after_all}
use Rattle.model_histories.specs.ServerTurns as machine
use Rattle.laws_stream_machine.specs.Refinement.{Purpose, Sent, asked_number, meant_number, IsAsked}
use Rattle.laws_stream_machine.proofs.StepSequences.{onward_refl}
use Rattle.laws_stream_machine.proofs.SentPackets.{asked_on, ahead_same}
use Rattle.laws_stream_machine.proofs.ServerRequests.{Unused, same_request}
use Rattle.laws_stream_machine.proofs.LowerLayer.{Below, below_above, below_asks, below_says, below_observes, below_sends}
use Rattle.laws_ranges.specs.Serves.{sent_with}
use Rattle.laws_ranges.proofs.TurnsAsMoves.{moves_of}
use Rattle.laws_servers.specs.Sending.{MaySend, MaySendAll}
use Rattle.laws_servers.proofs.EventsAsMoves.{is_shown}
use Rattle.laws_clusters.proofs.RequestNumbers.{IsPast, AreNumbersPast, asked_used}
use Rattle.laws_clusters.proofs.ServerNotes.{AreChanges, change_shown}

module _ (generation : ℕ → ℕ) (nodes target : ℕ) where
  abbrev pub system : List Move → StreamSystem
  system moves = run_moves moves (start nodes target)

  abbrev pub Machine : Type 0
  Machine = Whole Group generation

  -- ---- answers were asked for

  pub record WasAsked (w : StreamSystem) (server : ℕ) (q : ReqNo) : Type 0 where
    pub to : ActorId
    pub body : Body
    pub asked : Contains w.post (packet (Server server) to body)
    pub number : asked_number body ≡ Some q

  module _ (moves : List Move) (from : ActorId) (server : ℕ) (q : ReqNo) where
    append_asked : (b : AppendBody) → Contains (system moves).post (packet from (Server server) (bodies.Append b)) → meant_number (bodies.Append b) ≡ Some q → WasAsked (system moves) server q
    append_asked (Appended v e offset) c is =
        let a = (content_answered nodes target moves []).appended from (Server server) v e offset c in
        let same : v ≡ q = cc in
        record { to = from; body = bodies.Append (Append e a.generation a.blocks v); asked = a.asked; number = ap Some same }
    append_asked b c is = absurd cc

    check_asked : (b : CheckBody) → Contains (system moves).post (packet from (Server server) (bodies.Check b)) → meant_number (bodies.Check b) ≡ Some q → WasAsked (system moves) server q
    check_asked (CheckedAt v (Some found)) c is =
        let a = (content_answered nodes target moves []).fences.checked (packet from (Server server) (bodies.Check (CheckedAt v (Some found)))) v found c refl in
        let same : v ≡ q = cc in
        record { to = from; body = bodies.Check (Check a.extent a.generation v); asked = a.asked; number = ap Some same }
    check_asked b c is = absurd cc

    stream_asked : (b : StreamBody) → Contains (system moves).post (packet from (Server server) (bodies.Stream b)) → meant_number (bodies.Stream b) ≡ Some q → WasAsked (system moves) server q
    stream_asked (Opened v lists) c is =
        let a = openings_answered nodes target moves from (Server server) v lists c in
        let same : v ≡ q = cc in
        record { to = Manager; body = bodies.Stream (OpenStreams a.range a.generation v); asked = a.asked; number = ap Some same }
    stream_asked (Confirmed v) c is =
        let a = confirmations_answered nodes target moves from (Server server) v c in
        let same : v ≡ q = cc in
        record { to = Manager; body = bodies.Stream (Confirm a.range a.generation v); asked = a.asked; number = ap Some same }
    stream_asked (Extended v e places) c is =
        let a = extensions_answered nodes target moves from (Server server) v e places c in
        let same : v ≡ q = cc in
        record { to = Manager; body = bodies.Stream (Extend a.name a.generation a.last a.pick v); asked = a.asked; number = ap Some same }
    stream_asked b c is = absurd cc

    meant_asked : (b : Body) → Contains (system moves).post (packet from (Server server) b) → meant_number b ≡ Some q → WasAsked (system moves) server q
    meant_asked (bodies.Append b) c is = append_asked b c is
    meant_asked (bodies.Check b) c is = check_asked b c is
    meant_asked (bodies.Stream b) c is = stream_asked b c is
    meant_asked b c is = absurd cc

  -- a number that servers have not used is in no packet
  pub is_unused : (moves : List Move) (servers : List ServerCell) (q : ReqNo) → AreNumbersPast servers (system moves).post → (IsPast servers q → ⊥) → Unused (system moves) q
  is_unused moves servers q numbers new p c server v why = elim why [
    | inl a ↦ differs (numbers server p.to p.body (subst (λ z. Contains (system moves).post (packet z p.to p.body)) a.0 c) v (asked_used p.body v a.1))
    | inr b ↦
        let a = meant_asked moves p.from server v p.body (subst (λ z. Contains (system moves).post (packet p.from z p.body)) b.0 c) b.1 in
        differs (numbers server a.to a.body a.asked v (asked_used a.body v a.number))
  ]
    where
      differs : IsPast servers v → is_same q v ≡ false
      differs past = go (is_same q v) refl
        where
          go : (b : Bool) → is_same q v ≡ b → is_same q v ≡ false
          go true t = absurd (new (subst (λ z. IsPast servers z) (sym (same_request q v t)) past))
          go false t = t

  -- ---- turns, and numbers

  pub below_turns : (name : StreamName) (moves : List Move) (i : ℕ) (ts : List (Turn Group)) (earlier : List (machine.Move Group generation)) (sent : List Sent) →
      Below generation name nodes target moves (after_all Group generation earlier) sent → Below generation name nodes target moves (after_all Group generation (moves_of generation i ts ++ earlier)) sent
  below_turns name moves i [] earlier sent b = b
  below_turns name moves i (t ∷ ts) earlier sent b =
      below_above generation name nodes target moves (after_all Group generation (moves_of generation i ts ++ earlier)) sent (below_turns name moves i ts earlier sent b) i t

  -- a stream gets at most one new number, which was not used
  pub below_adds : (name : StreamName) (moves : List Move) (x : Machine) (sent : List Sent) (q : ReqNo) (o : Option Purpose) → Unused (system moves) q →
      Below generation name nodes target moves x sent → Below generation name nodes target moves x (sent_with q o sent)
  below_adds name moves x sent q None unused b = b
  below_adds name moves x sent q (Some p) unused b = below_sends generation name nodes target moves x sent b (record { request = q; purpose = p }) unused

  -- ---- packets

  -- all of them are asked, as the machine of a stream sees it
  abbrev pub AllAskedOf : StreamName → StreamSystem → Machine → List Sent → List Packet → Type 0
  AllAskedOf name w x sent [] = Unit {0}
  AllAskedOf name w x sent (p ∷ ps) = IsAsked generation name w x.state sent p.body × AllAskedOf name w x sent ps

  asked_there : (name : StreamName) (w v : StreamSystem) (x : Machine) (sent : List Sent) → v.catalog ≡ w.catalog → (ps : List Packet) → AllAskedOf name w x sent ps → AllAskedOf name v x sent ps
  asked_there name w v x sent same [] a = tt
  asked_there name w v x sent same (p ∷ ps) a =
      (asked_on name generation w x.state v x.state (ahead_same name w x.state v x.state same (onward_refl x.state)) sent p.body a.0, asked_there name w v x sent same ps a.1)

  -- more moves lead there, and each machine of a stream of which all that is sent is asked is the stream there
  pub record Further (moves : List Move) (v : StreamSystem) (ps : List Packet) : Type 0 where
    pub after : List Move
    pub leads : system (moves ++ after) ≡ v
    pub below : (name : StreamName) (x : Machine) (sent : List Sent) → AllAskedOf name (system moves) x sent ps → Below generation name nodes target moves x sent →
        Below generation name nodes target (moves ++ after) x sent

  one_posted : (moves : List Move) (p : Packet) → MaySend p → Further moves (sent_more (system moves) (p ∷ [])) (p ∷ [])
  one_posted moves p (inl may) = record {
    after = Asks may.server p.to p.body ∷ [];
    leads =
        run_moves_push moves (Asks may.server p.to p.body) (start nodes target)
        ∙ ap (λ (t : Bool). if t then sent_more (system moves) (packet (Server may.server) p.to p.body ∷ []) else system moves) may.call
        ∙ ap (λ (from : ActorId). sent_more (system moves) (packet from p.to p.body ∷ [])) (sym may.from);
    below = λ name x sent a b. below_asks generation name nodes target moves x sent b may.server p.to p.body (λ t. a.0);
  }
  one_posted moves p (inr is) = record {
    after = Says p.from p.to p.body ∷ [];
    leads = run_moves_push moves (Says p.from p.to p.body) (start nodes target) ∙ ap (λ (t : Bool). if t then sent_more (system moves) (p ∷ []) else system moves) is;
    below = λ name x sent a b. below_says generation name nodes target moves x sent b p.from p.to p.body;
  }

  none_more : (moves : List Move) (v : StreamSystem) → system moves ≡ v → Further moves v []
  none_more moves v is = record {
    after = [];
    leads = ap system (append-nil moves) ∙ is;
    below = λ name x sent a b. subst (λ z. Below generation name nodes target z x sent) (sym (append-nil moves)) b;
  }

  all_posted : (moves : List Move) (ps : List Packet) → MaySendAll ps → Further moves (sent_more (system moves) ps) ps
  all_posted moves [] may = none_more moves (sent_more (system moves) []) (ap (λ (k : List Packet). record (system moves) { post = k }) (sym (append-nil (system moves).post)))
  all_posted moves (p ∷ ps) may =
      let w : StreamSystem = system moves in
      let one : Further moves (sent_more w (p ∷ [])) (p ∷ []) = one_posted moves p may.0 in
      let next : List Move = moves ++ one.after in
      let two : Further next (sent_more (system next) ps) ps = all_posted next ps may.1 in
      record {
        after = one.after ++ two.after;
        leads = ap system (sym (append_assoc moves one.after two.after)) ∙ two.leads ∙ ap (λ z. sent_more z ps) one.leads ∙ ap (λ (k : List Packet). record w { post = k }) (append_assoc w.post (p ∷ []) ps);
        below = λ name x sent a b.
            subst (λ z. Below generation name nodes target z x sent) (append_assoc moves one.after two.after)
            (two.below name x sent (asked_there name w (system next) x sent (ap (λ (z : StreamSystem). z.catalog) one.leads) ps a.1) (one.below name x sent (a.0, tt) b));
      }

  -- ---- observations

  one_seen : (moves : List Move) (note : Note) → is_table_note note ≡ true → Further moves (record (system moves) { notes = (system moves).notes ++ note ∷ [] }) []
  one_seen moves note shown =
      let w : StreamSystem = system moves in
      record {
        after = Observes note ∷ [];
        leads = run_moves_push moves (Observes note) (start nodes target) ∙ ap (λ (t : Bool). if t then record w { notes = w.notes ++ note ∷ [] } else w) shown;
        below = λ name y sent a b. below_observes generation name nodes target moves y sent b note;
      }

  one_shown : (moves : List Move) (note : TableNote) → Further moves (record (system moves) { notes = (system moves).notes ++ told (system moves).notes note ∷ [] }) []
  one_shown moves note = one_seen moves (told (system moves).notes note) (is_shown (system moves).notes note)

  all_shown : (moves : List Move) (ns : List TableNote) → Further moves (record (system moves) { notes = noted (system moves).notes ns }) []
  all_shown moves [] = none_more moves (record (system moves) { notes = noted (system moves).notes [] }) refl
  all_shown moves (n ∷ ns) =
      let w : StreamSystem = system moves in
      let one : Further moves (record w { notes = w.notes ++ told w.notes n ∷ [] }) [] = one_shown moves n in
      let next : List Move = moves ++ one.after in
      let two : Further next (record (system next) { notes = noted (system next).notes ns }) [] = all_shown next ns in
      record {
        after = one.after ++ two.after;
        leads = ap system (sym (append_assoc moves one.after two.after)) ∙ two.leads ∙ ap (λ (z : StreamSystem). record z { notes = noted z.notes ns }) one.leads;
        below = λ name x sent a b. subst (λ z. Below generation name nodes target z x sent) (append_assoc moves one.after two.after) (two.below name x sent tt (one.below name x sent tt b));
      }

  -- what a server sends and shows
  pub all_told : (moves : List Move) (ps : List Packet) (ns : List TableNote) → MaySendAll ps → Further moves (with_told (system moves) ps ns) ps
  all_told moves ps ns may =
      let w : StreamSystem = system moves in
      let one : Further moves (sent_more w ps) ps = all_posted moves ps may in
      let next : List Move = moves ++ one.after in
      let two : Further next (record (system next) { notes = noted (system next).notes ns }) [] = all_shown next ns in
      record {
        after = one.after ++ two.after;
        leads = ap system (sym (append_assoc moves one.after two.after)) ∙ two.leads ∙ ap (λ (z : StreamSystem). record z { notes = noted z.notes ns }) one.leads;
        below = λ name x sent a b. subst (λ z. Below generation name nodes target z x sent) (append_assoc moves one.after two.after) (two.below name x sent tt (one.below name x sent a b));
      }

  -- what the map shows
  changes_seen : (moves : List Move) (notes : List Note) → AreChanges notes → Further moves (record (system moves) { notes = (system moves).notes ++ notes }) []
  changes_seen moves [] changes = none_more moves (record (system moves) { notes = (system moves).notes ++ [] }) (ap (λ (k : List Note). record (system moves) { notes = k }) (sym (append-nil (system moves).notes)))
  changes_seen moves (n ∷ notes) changes =
      let w : StreamSystem = system moves in
      let one : Further moves (record w { notes = w.notes ++ n ∷ [] }) [] = one_seen moves n (change_shown n changes.0) in
      let next : List Move = moves ++ one.after in
      let two : Further next (record (system next) { notes = (system next).notes ++ notes }) [] = changes_seen next notes changes.1 in
      record {
        after = one.after ++ two.after;
        leads =
            ap system (sym (append_assoc moves one.after two.after)) ∙ two.leads ∙ ap (λ (z : StreamSystem). record z { notes = z.notes ++ notes }) one.leads
            ∙ ap (λ (k : List Note). record w { notes = k }) (append_assoc w.notes (n ∷ []) notes);
        below = λ name x sent a b. subst (λ z. Below generation name nodes target z x sent) (append_assoc moves one.after two.after) (two.below name x sent tt (one.below name x sent tt b));
      }

  -- what the map sends and shows
  pub told_further : (moves : List Move) (ps : List Packet) (notes : List Note) → MaySendAll ps → AreChanges notes → Further moves (told_by_map (system moves) ps notes) ps
  told_further moves ps notes may changes =
      let w : StreamSystem = system moves in
      let one : Further moves (sent_more w ps) ps = all_posted moves ps may in
      let next : List Move = moves ++ one.after in
      let two : Further next (record (system next) { notes = (system next).notes ++ notes }) [] = changes_seen next notes changes in
      record {
        after = one.after ++ two.after;
        leads = ap system (sym (append_assoc moves one.after two.after)) ∙ two.leads ∙ ap (λ (z : StreamSystem). record z { notes = z.notes ++ notes }) one.leads;
        below = λ name x sent a b. subst (λ z. Below generation name nodes target z x sent) (append_assoc moves one.after two.after) (two.below name x sent tt (one.below name x sent a b));
      }
