-- A step of a real node is the step of the model's node.
use Rattle.std.proofs.Common.{◌≡◌, ◌≢◌, ℕ, Bool, true, false, not, ◌==◌, if◌then◌else◌, List, [], ◌++◌, Option, Some, None, Result, Ok, Err, refl, sym, ap, ◌∙◌, inl, ⊎_elim, subst, append-nil}
use Rattle.std.proofs.lemmas.Bool.{eqb-true, eqb-false}
use Rattle.disk.specs.declared.device.DiskFault.{DiskFault}
use Rattle.disk.specs.declared.device.DiskFault.TheVariants.{Failed, Memory}
use Rattle.disk.specs.declared.memory.MemDisk.{MemDisk}
use Rattle.disk.specs.Memory.{memory_state}
use Rattle.block_types.specs.declared.record.Record.{Record}
use Rattle.wire.specs.declared.packet.Packet.{Packet}
use Rattle.wire.specs.declared.packet.Step.{Step}
use Rattle.replica.specs.Content.{Content}
use Rattle.replica.specs.Replay.{applied, replay}
use Rattle.replica.proofs.Replaying.{replay-here, replay-elsewhere}
use Rattle.model_streams.specs.Maps.{changed_at}
use Rattle.model_streams.specs.Outcome.{Outcome}
use Rattle.model_streams.specs.Node.{Replica, contents, stopped, node_rule, extent_of}
use Rattle.model_streams.specs.StreamSystem.{StreamSystem, ActorCell, burnt, stops_in, stands_in, stopped_at, node_halted, unsent, after_node_rule, node_performs, node_takes, down}
use Rattle.model_streams.proofs.Tests.{if_elim}
use Rattle.model_streams.proofs.Replay.{Replays, IsWritten, applied_if, rule_replays}
use Rattle.enode.specs.Node.{NodeState, IsReplay, find, fresh_of}
use Rattle.disk.specs.Appends.{listed}
use Rattle.enode.specs.Performs.{NodePerforms}
use Rattle.world_stops.specs.Plan.{plan_of}
use Rattle.world_steps.specs.ActorStep.{nothing, stream_step}
use Rattle.world_nodes.specs.Seen.{NodeSeen, seen_of, NodeMirrors, NodeSteps}
use Rattle.laws_streams.proofs.Choices.{changed_at_elim, changed_at-other, changed-same, changed-other}
use Rattle.world_nodes.proofs.Seen.{sorted_same, shown_up, shown_down}
use Rattle.world_stops.proofs.StopInRecord.{burnt_up, up_ok, plan_ok, no_stop, broken_stops, broken_down, broken_records, short_same}

pub stopped_here : (n : ℕ) (g : ℕ → ℕ → Option Replica) (f : ℕ) → stopped_at n g n f ≡ stopped (g n f)
stopped_here n g f = if_elim (λ z. z ≡ stopped (g n f)) (n == n) (stopped (g n f)) (g n f) (λ t. refl) (λ u. absurd (eqb-false n n u refl))

pub stopped_there : (n m : ℕ) (g : ℕ → ℕ → Option Replica) (f : ℕ) → m ≢ n → stopped_at n g m f ≡ g m f
stopped_there n m g f apart = if_elim (λ z. z ≡ g m f) (m == n) (stopped (g m f)) (g m f) (λ t. absurd (apart (eqb-true m n t))) (λ u. refl)

-- what a stop leaves is what its records make
pub fresh-contents : (s : Option Replica) → fresh_of (contents s) ≡ stopped s
fresh-contents None = refl
fresh-contents (Some r) = refl

-- what the records make, with the rule's record
made_here : (n e : ℕ) (rs : List Record) (was : Option Replica) (o : Outcome (Option Replica)) → contents was ≡ replay e rs → (k : Option Record) → IsWritten n e (contents was) k → contents o.after ≡ applied_if (contents was) k →
    replay e (rs ++ listed k) ≡ contents o.after
made_here n e rs was o before None about is = ap (replay e) (append-nil rs) ∙ sym before ∙ sym is
made_here n e rs was o before (Some r) about is = replay-here e rs r about.0 ∙ ap (λ (c : Option Content). applied c r) (sym before) ∙ sym is

made_there : (n e f : ℕ) (rs : List Record) (c : Option Content) → f ≢ e → (k : Option Record) → IsWritten n e c k → replay f (rs ++ listed k) ≡ replay f rs
made_there n e f rs c apart None about = ap (replay f) (append-nil rs)
made_there n e f rs c apart (Some r) about = replay-elsewhere f e rs r about.0 apart

pub gave_ok : (n e : ℕ) (o : Outcome (Option Replica)) (x y : NodeState MemDisk) (w : StreamSystem) (s : Step) → x.file.stopped ≡ false → NodeMirrors n (seen_of x) w → y.number ≡ x.number →
    NodePerforms memory_state x.replicas y.replicas x.file y.file e o (Ok s) → NodeSteps n (seen_of y) w (node_performs w n e o) (stream_step s)
gave_ok n e o x y w s up m num h =
    if_elim (λ v. NodeSteps n (seen_of y) w v (stream_step s)) (stops_in (w.cell n) o.written) _ _
    (λ t. absurd (no_stop x.file y.file o.written s (w.cell n) h.file (m.plan up) t))
    (λ f. record {
      post = ap (λ l. w.post ++ l) (sym h.packets);
      notes = ap (λ l. w.notes ++ l) (sym h.notes);
      node = record {
        number = num ∙ m.number;
        replica = λ j. shown_up y yup j ∙ changed_at_elim (λ z. find y.replicas j ≡ z) n e o.after w.replica n j (λ q r. rw r h.here)
            (λ other. ⊎_elim (λ a. absurd (a refl)) (λ b. h.elsewhere j b ∙ sym (shown_up x up j) ∙ m.replica j) other);
        up = ap (λ (c : ActorCell). c.up) (changed-same n (burnt (w.cell n) o.written) w.cell) ∙ burnt_up (w.cell n) o.written ∙ m.up ∙ ap not (up ∙ sym yup);
        plan = λ _. plan_ok x.file y.file o.written s (w.cell n) h.file (m.plan up) f ∙ ap plan_of (sym (changed-same n (burnt (w.cell n) o.written) w.cell));
      };
      others = λ j apart. ((λ k. changed_at-other n e o.after w.replica j k (inl apart)), changed-other n (burnt (w.cell n) o.written) w.cell j apart);
      nodes = refl;
      catalog = refl;
      manager = refl;
    })
  where
    yup : y.file.stopped ≡ false
    yup = up_ok x.file y.file o.written s h.file up

pub gave_broken : (n e : ℕ) (o : Outcome (Option Replica)) (x y : NodeState MemDisk) (w : StreamSystem) → x.file.stopped ≡ false → NodeMirrors n (seen_of x) w → y.number ≡ x.number →
    IsReplay x.number x.replicas x.file.records → Replays n e (find x.replicas e) o →
    NodePerforms memory_state x.replicas y.replicas x.file y.file e o (Err Failed) → NodeSteps n (seen_of y) w (node_performs w n e o) nothing
gave_broken n e o x y w up m num before rule h =
    if_elim (λ v. NodeSteps n (seen_of y) w v nothing) (stops_in (w.cell n) o.written) _ _
    (λ t. let is = broken_records x.file y.file o.written (w.cell n) h.file (m.plan up) t in
    if_elim2 (stands_in (w.cell n)) (λ c. y.file.records ≡ (if c then x.file.records ++ listed o.written else x.file.records))
    (λ c. NodeSteps n (seen_of y) w (if c then node_halted (after_node_rule w n e (unsent o)) n else node_halted w n) nothing) is
    (λ more. ended (after_node_rule w n e (unsent o)) refl (ap (λ l. w.notes ++ l) (h.shows refl))
    (λ j. ap (λ (rs : List Record). fresh_of (replay j rs)) more ∙ stood j) (λ j apart k. changed_at-other n e o.after w.replica j k (inl apart)) (λ j. refl) refl refl refl)
    (λ less. ended w (sym (append-nil w.post)) (sym (append-nil w.notes))
    (λ j. ap (λ (rs : List Record). fresh_of (replay j rs)) less ∙ ap fresh_of (sym (before.each j)) ∙ fresh-contents (find x.replicas j) ∙ ap stopped (was j)) (λ j apart k. refl) (λ j. refl) refl refl refl))
    (λ f. absurd (broken_stops x.file y.file o.written (w.cell n) h.file (m.plan up) f))
  where
    if_elim2 : (b : Bool) (Q P : Bool → Type 0) → Q b → (Q true → P true) → (Q false → P false) → P b
    if_elim2 true Q P q f g = f q
    if_elim2 false Q P q f g = g q

    ydown : y.file.stopped ≡ true
    ydown = broken_down x.file y.file o.written h.file

    was : (j : ℕ) → find x.replicas j ≡ w.replica n j
    was j = sym (shown_up x up j) ∙ m.replica j

    stood : (j : ℕ) → fresh_of (replay j (x.file.records ++ listed o.written)) ≡ stopped (changed_at n e o.after w.replica n j)
    stood j = changed_at_elim (λ z. fresh_of (replay j (x.file.records ++ listed o.written)) ≡ stopped z) n e o.after w.replica n j
        (λ q r. rw r (ap fresh_of (made_here n e x.file.records (find x.replicas e) o (before.each e) o.written rule.written rule.is) ∙ fresh-contents o.after))
        (λ other. ⊎_elim (λ a. absurd (a refl))
        (λ b. ap fresh_of (made_there n e j x.file.records (contents (find x.replicas e)) b o.written rule.written ∙ sym (before.each j)) ∙ fresh-contents (find x.replicas j) ∙ ap stopped (was j)) other)

    ended : (u : StreamSystem) → u.post ≡ w.post ++ [] → u.notes ≡ w.notes ++ [] → ((j : ℕ) → fresh_of (replay j y.file.records) ≡ stopped (u.replica n j)) →
        ((j : ℕ) → j ≢ n → (k : ℕ) → u.replica j k ≡ w.replica j k) → ((j : ℕ) → u.cell j ≡ w.cell j) → u.nodes ≡ w.nodes → u.catalog ≡ w.catalog → u.manager_cell ≡ w.manager_cell → NodeSteps n (seen_of y) w (node_halted u n) nothing
    ended u p q r others cells count catalog manager = record {
      post = p;
      notes = q;
      node = record {
        number = num ∙ m.number;
        replica = λ j. shown_down y ydown j ∙ r j ∙ sym (stopped_here n u.replica j);
        up = ap (λ (c : ActorCell). c.up) (changed-same n down u.cell) ∙ ap not (sym ydown);
        plan = λ yup. absurd (let d = ydown in cc);
      };
      others = λ j apart. ((λ k. stopped_there n j u.replica k apart ∙ others j apart k), changed-other n down u.cell j apart ∙ cells j);
      nodes = count;
      catalog = catalog;
      manager = manager;
    }

-- a node that has stopped does nothing
pub gave_down : (n : ℕ) (p : Packet) (x : NodeSeen) (w : StreamSystem) → x.stopped ≡ true → NodeMirrors n x w → NodeSteps n x w (node_takes w n p) nothing
gave_down n p x w isdown m =
    if_elim (λ v. NodeSteps n x w v nothing) (w.cell n).up _ w
    (λ t. absurd (let a = m.up ∙ ap not isdown in cc))
    (λ f. record {
      post = sym (append-nil w.post);
      notes = sym (append-nil w.notes);
      node = m;
      others = λ j apart. ((λ k. refl), refl);
      nodes = refl;
      catalog = refl;
      manager = refl;
    })

rule_same : (n : ℕ) (p : Packet) (x : NodeState MemDisk) (w : StreamSystem) → x.file.stopped ≡ false → NodeMirrors n (seen_of x) w →
    node_rule x.number (find x.replicas (extent_of p.body)) p p.body ≡ node_rule n (w.replica n (extent_of p.body)) p p.body
rule_same n p x w up m = ap (λ k. node_rule k (find x.replicas (extent_of p.body)) p p.body) m.number
    ∙ ap (λ r. node_rule n r p p.body) (sym (shown_up x up (extent_of p.body)) ∙ m.replica (extent_of p.body))

-- what `handle` says of a rule
abbrev pub HandlePerforms : NodeState MemDisk → NodeState MemDisk → Packet → Result Step DiskFault → Type 0
HandlePerforms x y p result = NodePerforms memory_state x.replicas y.replicas x.file y.file (extent_of p.body) (node_rule x.number (find x.replicas (extent_of p.body)) p p.body) result

pub takes_ok : (n : ℕ) (p : Packet) (x y : NodeState MemDisk) (w : StreamSystem) (s : Step) → x.file.stopped ≡ false → NodeMirrors n (seen_of x) w → y.number ≡ x.number →
    HandlePerforms x y p (Ok s) → NodeSteps n (seen_of y) w (node_takes w n p) (stream_step s)
takes_ok n p x y w s up m num h =
    if_elim (λ v. NodeSteps n (seen_of y) w v (stream_step s)) (w.cell n).up _ w
    (λ t. gave_ok n (extent_of p.body) (node_rule n (w.replica n (extent_of p.body)) p p.body) x y w s up m num
    (subst (λ o. NodePerforms memory_state x.replicas y.replicas x.file y.file (extent_of p.body) o (Ok s)) (rule_same n p x w up m) h))
    (λ f. absurd (let a = m.up ∙ ap not up in cc))

takes_broken : (n : ℕ) (p : Packet) (x y : NodeState MemDisk) (w : StreamSystem) → x.file.stopped ≡ false → NodeMirrors n (seen_of x) w → y.number ≡ x.number →
    IsReplay x.number x.replicas x.file.records →
    HandlePerforms x y p (Err Failed) → NodeSteps n (seen_of y) w (node_takes w n p) nothing
takes_broken n p x y w up m num before h =
    if_elim (λ v. NodeSteps n (seen_of y) w v nothing) (w.cell n).up _ w
    (λ t. gave_broken n (extent_of p.body) (node_rule n (w.replica n (extent_of p.body)) p p.body) x y w up m num before
    (subst (λ o. Replays n (extent_of p.body) (find x.replicas (extent_of p.body)) o) (ap (λ r. node_rule n r p p.body) (sym (shown_up x up (extent_of p.body)) ∙ m.replica (extent_of p.body))) (rule_replays n (find x.replicas (extent_of p.body)) p p.body))
    (subst (λ o. NodePerforms memory_state x.replicas y.replicas x.file y.file (extent_of p.body) o (Err Failed)) (rule_same n p x w up m) h))
    (λ f. absurd (let a = m.up ∙ ap not up in cc))

pub takes_failed : (n : ℕ) (p : Packet) (x y : NodeState MemDisk) (w : StreamSystem) (fault : DiskFault) → fault ≡ Failed → x.file.stopped ≡ false → NodeMirrors n (seen_of x) w → y.number ≡ x.number →
    IsReplay x.number x.replicas x.file.records →
    HandlePerforms x y p (Err fault) → NodeSteps n (seen_of y) w (node_takes w n p) nothing
takes_failed n p x y w fault is up m num before h =
    takes_broken n p x y w up m num before (subst (λ z. HandlePerforms x y p (Err z)) is h)

-- where no memory was left all that is seen of it is as it was
pub stays_same : (p : Packet) (x y : NodeState MemDisk) (fault : DiskFault) → fault ≡ Memory → y.number ≡ x.number → HandlePerforms x y p (Err fault) → seen_of y ≡ seen_of x
stays_same p x y fault is num h =
    let k : HandlePerforms x y p (Err Memory) = subst (λ z. HandlePerforms x y p (Err z)) is h in
    let f = short_same x.file y.file (node_rule x.number (find x.replicas (extent_of p.body)) p p.body).written k.file in
    let replicas = sorted_same y.replicas x.replicas k.same in
    λ i. record { number = num i; replicas = replicas i; records = f.0 i; stopped = f.1 i; stop = f.2 i }
