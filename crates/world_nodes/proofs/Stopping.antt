-- A node that stops or comes back is the model's node that does.
use Rattle.std.proofs.Common.{◌≡◌, ◌≢◌, ℕ, Bool, true, false, not, ◌==◌, ◌||◌, List, [], Some, None, refl, sym, ap, ◌∙◌, ⊎_elim, subst, append-nil}
use Rattle.std.proofs.lemmas.Bool.{or_cases, or_parts, eqb-true}
use Rattle.disk.specs.declared.memory.MemDisk.{MemDisk}
use Rattle.disk.specs.Memory.{memory_state}
use Rattle.block_types.specs.declared.record.Record.{Record}
use Rattle.wire.specs.declared.actor.ActorId.TheVariants.{Node}
use Rattle.replica.specs.Replay.{replay}
use Rattle.model_streams.specs.Maps.{changed}
use Rattle.model_streams.specs.Node.{Replica, stopped}
use Rattle.model_streams.specs.StreamSystem.{StreamSystem, ActorCell, armed, down, node_halted, is_present, node_stops, restart, running, stop}
use Rattle.model_streams.proofs.Tests.{if_elim}
use Rattle.enode.specs.Node.{NodeState, IsReplay, IsRestart, find, fresh_of}
use Rattle.world_stops.specs.Plan.{plan_of}
use Rattle.world_steps.specs.ActorStep.{nothing}
use Rattle.world_nodes.specs.Seen.{NodeSeen, seen_of, NodeMirrors, NodeSteps, new_node}
use Rattle.world_stops.proofs.StopInRecord.{plan_armed}
use Rattle.laws_streams.proofs.Choices.{changed-same, changed-other}
use Rattle.world_nodes.proofs.NodeSimulation.{fresh-contents, stopped_here, stopped_there}
use Rattle.world_nodes.proofs.Seen.{shown_up, shown_down, sorted_none, sorted_same}

-- nothing has happened to it
pub gave_nothing : (n : ℕ) (x : NodeSeen) (w : StreamSystem) → NodeMirrors n x w → NodeSteps n x w w nothing
gave_nothing n x w m = record {
  post = sym (append-nil w.post);
  notes = sym (append-nil w.notes);
  node = m;
  others = λ j apart. ((λ k. refl), refl);
  nodes = refl;
  catalog = refl;
  manager = refl;
}

-- one that has stopped is not stopped again
pub stop_down : (n call : ℕ) (keep : Bool) (x : NodeSeen) (w : StreamSystem) → x.stopped ≡ true → NodeMirrors n x w → NodeSteps n x w (stop w (Node n) call keep) nothing
stop_down n call keep x w isdown m =
    if_elim (λ v. NodeSteps n x w v nothing) (w.cell n).up (node_stops w n call keep) w
    (λ t. absurd (let a = m.up ∙ ap not isdown in cc))
    (λ f. gave_nothing n x w m)

-- it stops at once
halts : (n : ℕ) (x y : NodeState MemDisk) (w : StreamSystem) → x.file.stopped ≡ false → NodeMirrors n (seen_of x) w → IsReplay x.number x.replicas x.file.records →
    y.number ≡ x.number → y.file.records ≡ x.file.records → y.file.stopped ≡ true → NodeSteps n (seen_of y) w (node_halted w n) nothing
halts n x y w up m before num same isdown = record {
  post = sym (append-nil w.post);
  notes = sym (append-nil w.notes);
  node = record {
    number = num ∙ m.number;
    replica = λ j. shown_down y isdown j ∙ ap (λ (rs : List Record). fresh_of (replay j rs)) same ∙ ap fresh_of (sym (before.each j)) ∙ fresh-contents (find x.replicas j)
        ∙ ap stopped (sym (shown_up x up j) ∙ m.replica j) ∙ sym (stopped_here n w.replica j);
    up = ap (λ (c : ActorCell). c.up) (changed-same n down w.cell) ∙ ap not (sym isdown);
    plan = λ yup. absurd (let d = isdown in cc);
  };
  others = λ j apart. ((λ k. stopped_there n j w.replica k apart), changed-other n down w.cell j apart);
  nodes = refl;
  catalog = refl;
  manager = refl;
}

pub stop_now : (n call : ℕ) (keep : Bool) (x y : NodeState MemDisk) (w : StreamSystem) → x.file.stopped ≡ false → call ≡ 0 → NodeMirrors n (seen_of x) w → IsReplay x.number x.replicas x.file.records →
    y.number ≡ x.number → y.file.records ≡ x.file.records → y.file.stopped ≡ true → NodeSteps n (seen_of y) w (stop w (Node n) call keep) nothing
stop_now n call keep x y w up now m before num same isdown =
    if_elim (λ v. NodeSteps n (seen_of y) w v nothing) (w.cell n).up (node_stops w n call keep) w
    (λ t. if_elim (λ v. NodeSteps n (seen_of y) w v nothing) (call == 0) (node_halted w n) _
    (λ z. halts n x y w up m before num same isdown)
    (λ z. absurd (let f = subst (λ k. (k == 0) ≡ false) now z in cc)))
    (λ f. absurd (let a = m.up ∙ ap not up in cc))

-- it is to stop later
pub stop_later : (n call : ℕ) (keep : Bool) (x y : NodeState MemDisk) (w : StreamSystem) → x.file.stopped ≡ false → call ≢ 0 → NodeMirrors n (seen_of x) w →
    y.number ≡ x.number → y.replicas ≡ x.replicas → y.file.stopped ≡ x.file.stopped → (memory_state y.file.disk).stop ≡ Some (call, keep) → NodeSteps n (seen_of y) w (stop w (Node n) call keep) nothing
stop_later n call keep x y w up later m num kept same told =
    if_elim (λ v. NodeSteps n (seen_of y) w v nothing) (w.cell n).up (node_stops w n call keep) w
    (λ t. if_elim (λ v. NodeSteps n (seen_of y) w v nothing) (call == 0) (node_halted w n) _
    (λ z. absurd (later (eqb-true call 0 z)))
    (λ z. record {
      post = sym (append-nil w.post);
      notes = sym (append-nil w.notes);
      node = record {
        number = num ∙ m.number;
        replica = λ j. shown_up y (same ∙ up) j ∙ ap (λ (es : List (ℕ × Replica)). find es j) kept ∙ sym (shown_up x up j) ∙ m.replica j;
        up = ap (λ (c : ActorCell). c.up) (changed-same n (armed call keep) w.cell) ∙ ap not (sym (same ∙ up));
        plan = λ yup. told ∙ sym (plan_armed call keep later) ∙ ap plan_of (sym (changed-same n (armed call keep) w.cell));
      };
      others = λ j apart. ((λ k. refl), changed-other n (armed call keep) w.cell j apart);
      nodes = refl;
      catalog = refl;
      manager = refl;
    }))
    (λ f. absurd (let a = m.up ∙ ap not up in cc))

-- one that runs does not come back
pub restart_up : (n : ℕ) (x : NodeSeen) (w : StreamSystem) → x.stopped ≡ false → NodeMirrors n x w → NodeSteps n x w (restart w (Node n)) nothing
restart_up n x w isup m =
    if_elim (λ v. NodeSteps n x w v nothing) ((w.cell n).up || not (is_present w n)) w (record w { cell = changed n running w.cell })
    (λ t. gave_nothing n x w m)
    (λ f. absurd (let a = m.up ∙ ap not isup in let b = (or_parts (w.cell n).up (not (is_present w n)) f).0 in cc))

-- it comes back with what its records make
pub restarts : (n : ℕ) (x y : NodeState MemDisk) (w : StreamSystem) → x.file.stopped ≡ true → is_present w n ≡ true → NodeMirrors n (seen_of x) w →
    y.number ≡ x.number → y.file.stopped ≡ false → y.file.records ≡ x.file.records → (memory_state y.file.disk).stop ≡ None → IsRestart x.number y.replicas y.file.records →
    NodeSteps n (seen_of y) w (restart w (Node n)) nothing
restarts n x y w isdown there m num yup same untold h =
    if_elim (λ v. NodeSteps n (seen_of y) w v nothing) ((w.cell n).up || not (is_present w n)) w (record w { cell = changed n running w.cell })
    (λ t. absurd (⊎_elim (λ a. let b = m.up ∙ ap not isdown in cc) (λ a. let b = ap not there in cc) (or_cases (w.cell n).up (not (is_present w n)) t)))
    (λ f. record {
      post = sym (append-nil w.post);
      notes = sym (append-nil w.notes);
      node = record {
        number = num ∙ m.number;
        replica = λ j. shown_up y yup j ∙ h.each j ∙ ap (λ (rs : List Record). fresh_of (replay j rs)) same ∙ sym (shown_down x isdown j) ∙ m.replica j;
        up = ap (λ (c : ActorCell). c.up) (changed-same n running w.cell) ∙ ap not (sym yup);
        plan = λ _. untold ∙ sym (ap plan_of (changed-same n running w.cell));
      };
      others = λ j apart. ((λ k. refl), changed-other n running w.cell j apart);
      nodes = refl;
      catalog = refl;
      manager = refl;
    })

-- ---- a node with nothing on its disk

pub is_new : (n : ℕ) (x : NodeState MemDisk) → x.number ≡ n → x.file.stopped ≡ false → x.file.records ≡ [] → (seen_of x).stop ≡ None → IsRestart n x.replicas x.file.records → seen_of x ≡ new_node n
is_new n x num up none untold h =
    let replicas = sorted_same x.replicas [] (λ e. h.each e ∙ ap (λ (rs : List Record). fresh_of (replay e rs)) none) ∙ sorted_none in
    λ i. record { number = num i; replicas = replicas i; records = none i; stopped = up i; stop = untold i }

-- it is the model's node whose cell runs, and which has no replica
pub new_mirrors : (n : ℕ) (w : StreamSystem) → ((e : ℕ) → w.replica n e ≡ None) → w.cell n ≡ running → NodeMirrors n (new_node n) w
new_mirrors n w none up = record {
  number = refl;
  replica = λ e. sym (none e);
  up = ap (λ (c : ActorCell). c.up) up;
  plan = λ _. sym (ap plan_of up);
}
