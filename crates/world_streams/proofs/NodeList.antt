-- The list of nodes, when one of them steps.
use Rattle.std.proofs.Common.{◌≡◌, ℕ, zero, suc, ◌<◌, ◌≤◌, ◌+◌, ◌-◌, Bool, true, false, ◌&&◌, ◌||◌, nat_lt, nat_le, not, List, [], ◌∷◌, ◌++◌, Some, None, refl, sym, ap, ◌∙◌, inl, inr, ⊎_elim, arith, subst, slice_index_or, slice_set, length, append-nil}
use Rattle.std.proofs.lemmas.Bool.Decides.{eqb_tells, nat_tests}
use Rattle.std.proofs.lemmas.Bool.{and_cases, or_parts, ltb-true, ltb-false, leb-true, leb-false, not-false, and_from, and_parts}
use Rattle.wire.specs.declared.actor.ActorId.TheVariants.{Node}
use Rattle.wire.specs.declared.packet.Packet.{Packet}
use Rattle.model_streams.specs.Maps.{changed, entry_at}
use Rattle.model_streams.specs.StreamSystem.{StreamSystem, ActorCell, cell_at, down, is_present, node_stops, node_takes, restart, running, start, stop}
use Rattle.model_streams.proofs.Tests.{if_elim}
use Rattle.world_stops.specs.Plan.{plan_of}
use Rattle.world_steps.specs.ActorStep.{ActorStep, nothing}
use Rattle.world_nodes.specs.Seen.{NodeSeen, NodeMirrors, NodeSimulates, NodeSteps, new_node}
use Rattle.world_nodes.proofs.Stopping.{new_mirrors}
use Rattle.world_streams.specs.Nodes.{NodesMirror, NodesStep, first_nodes}
use Rattle.world_streams.proofs.Entries.{entry-set_same, entry-set_other, entry-set_there, entry_here, entry_below, entry_none, entry_push, entry_beyond, length-set, push_length}

pub went : (n : ℕ) (xs : List NodeSeen) (y : NodeSeen) (w v : StreamSystem) (s : ActorStep) → n < length xs →
    NodesMirror xs w → NodeSteps (suc n) y w v s → NodesStep (slice_set xs n y) w v s
went n xs y w v s l m h = record {
  post = h.post;
  notes = h.notes;
  nodes = record {
    each = λ j z e. ⊎_elim
        (λ q. rw (q.1, entry-set_same xs n y z (subst (λ i. entry_at (slice_set xs n y) i ≡ Some z) q.1 e)) h.node)
        (λ a. let k = m.each j z (sym (entry-set_other xs n j y a.1) ∙ e) in record {
          number = k.number;
          replica = λ i. k.replica i ∙ sym ((h.others j a.1).0 i);
          up = ap (λ (c : ActorCell). c.up) (h.others j a.1).1 ∙ k.up;
          plan = λ up. k.plan up ∙ ap plan_of (sym (h.others j a.1).1);
        })
        (eqb_tells j (suc n));
    absent = λ j e. ⊎_elim
        (λ q. absurd (entry-set_there xs n y l (subst (λ i. entry_at (slice_set xs n y) i ≡ None) q.1 e)))
        (λ a. ap (λ (c : ActorCell). c.up) (h.others j a.1).1 ∙ m.absent j (sym (entry-set_other xs n j y a.1) ∙ e))
        (eqb_tells j (suc n));
    count = h.nodes ∙ m.count ∙ sym (length-set xs n y);
  };
  catalog = h.catalog;
  manager = h.manager;
}

-- one of the nodes steps, as this says of each state of the model
pub went_from : (n : ℕ) (xs : List NodeSeen) (d y : NodeSeen) (goes : StreamSystem → ℕ → StreamSystem) (s : ActorStep) → n < length xs → d ≡ slice_index_or xs n d →
    NodeSimulates d y goes s → (w : StreamSystem) → NodesMirror xs w → NodesStep (slice_set xs n y) w (goes w (suc n)) s
went_from n xs d y goes s l is f w m = went n xs y w (goes w (suc n)) s l m (f (suc n) w (m.each (suc n) d (entry_here xs n d l ∙ ap Some (sym is))))

-- all go on as they were
went_still : (xs : List NodeSeen) (w : StreamSystem) → NodesMirror xs w → NodesStep xs w w nothing
went_still xs w m = record { post = sym (append-nil w.post); notes = sym (append-nil w.notes); nodes = m; catalog = refl; manager = refl }

-- nothing comes of a packet to an absent node
pub went_nowhere : (n : ℕ) (xs : List NodeSeen) (p : Packet) → entry_at xs n ≡ None → (w : StreamSystem) → NodesMirror xs w → NodesStep xs w (node_takes w n p) nothing
went_nowhere n xs p none w m =
    if_elim (λ v. NodesStep xs w v nothing) (w.cell n).up _ w
    (λ t. absurd (let a = m.absent n none in cc))
    (λ f. went_still xs w m)

-- a number after the last node's is no node's
pub is_absent : (xs : List NodeSeen) (n at : ℕ) → n ≡ suc at → length xs ≤ at → entry_at xs n ≡ None
is_absent xs n at is far = subst (λ k. entry_at xs k ≡ None) (sym is) (entry_beyond xs at far)

pub before_number : (n m : ℕ) → (n ≡ 0 → ⊥) → m ≡ n → n ≡ suc (m - 1)
before_number zero m some is = absurd (some refl)
before_number (suc n) m some is = omega (arith, is)

-- ---- a number that is no node's

pub stop_nobody : (n call : ℕ) (keep : Bool) (xs : List NodeSeen) → entry_at xs n ≡ None → (w : StreamSystem) → NodesMirror xs w → NodesStep xs w (stop w (Node n) call keep) nothing
stop_nobody n call keep xs none w m =
    if_elim (λ v. NodesStep xs w v nothing) (w.cell n).up (node_stops w n call keep) w
    (λ t. absurd (let a = m.absent n none in cc))
    (λ f. went_still xs w m)

pub restart_nobody : (n : ℕ) (xs : List NodeSeen) → entry_at xs n ≡ None → (w : StreamSystem) → NodesMirror xs w → NodesStep xs w (restart w (Node n)) nothing
restart_nobody n xs none w m =
    if_elim (λ v. NodesStep xs w v nothing) ((w.cell n).up || not (is_present w n)) w (record w { cell = changed n running w.cell })
    (λ t. went_still xs w m)
    (λ f. absurd (is_nobody (not-false (is_present w n) (or_parts (w.cell n).up (not (is_present w n)) f).1)))
  where
    is_nobody : is_present w n ≡ true → ⊥
    is_nobody t = let k = and_parts (nat_lt 0 n) (nat_le n w.nodes) t in
        let far = entry_none xs n none (ltb-true 0 n k.0) in
        let near = leb-true n w.nodes k.1 in
        omega (arith, far, near, m.count)

below_is : (n : ℕ) → 0 < n → nat_lt 0 n ≡ true
below_is n l = grind (arith, nat_tests)

reaches : (n many count : ℕ) → n ≤ many → count ≡ many → nat_le n count ≡ true
reaches n many count l is = grind (arith, nat_tests)

-- a node of the list is there
pub is_there : (xs : List NodeSeen) (n : ℕ) (x : NodeSeen) (w : StreamSystem) → NodesMirror xs w → entry_at xs n ≡ Some x → is_present w n ≡ true
is_there xs n x w m e = let l = entry_below xs n x e in and_from (nat_lt 0 n) (nat_le n w.nodes) (below_is n l.0) (reaches n (length xs) w.nodes l.1 m.count)

pub restarted_from : (n : ℕ) (xs : List NodeSeen) (d y : NodeSeen) → n < length xs → d ≡ slice_index_or xs n d →
    ((k : ℕ) (w : StreamSystem) → is_present w k ≡ true → NodeMirrors k d w → NodeSteps k y w (restart w (Node k)) nothing) →
    (w : StreamSystem) → NodesMirror xs w → NodesStep (slice_set xs n y) w (restart w (Node (suc n))) nothing
restarted_from n xs d y l is f w m =
    let here = entry_here xs n d l ∙ ap Some (sym is) in
    went n xs y w (restart w (Node (suc n))) nothing l m (f (suc n) w (is_there xs (suc n) d w m here) (m.each (suc n) d here))

-- ---- the start

-- one node more has begun
pub one_more : (n : ℕ) (xs ys : List NodeSeen) (x : NodeSeen) → xs ≡ first_nodes n → x ≡ new_node (n + 1) → ys ≡ xs ++ x ∷ [] → ys ≡ first_nodes (n + 1)
one_more n xs ys x before new is =
    let next : n + 1 ≡ suc n = omega arith in
    subst (λ (k : ℕ). ys ≡ first_nodes k) (sym next) (is ∙ (λ i. before i ++ (new ∙ ap new_node next) i ∷ []))

length-first : (count : ℕ) → length (first_nodes count) ≡ count
length-first zero = refl
length-first (suc count) = omega (arith, push_length (first_nodes count) (new_node (suc count)), length-first count)

first_at : (count n : ℕ) (x : NodeSeen) → entry_at (first_nodes count) n ≡ Some x → x ≡ new_node n
first_at zero n x e = absurd (let l = entry_below (first_nodes zero) n x e in omega (arith, l.0, l.1))
first_at (suc count) n x e =
    elim (entry_push (first_nodes count) (new_node (suc count)) x n e) [
      | inl a ↦ first_at count n x a
      | inr b ↦ b.1 ∙ ap new_node (sym (b.0 ∙ ap suc (length-first count)))
    ]

-- they are the nodes of the model as it begins
pub begun : (count target : ℕ) → NodesMirror (first_nodes count) (start count target)
begun count target = record {
  each = λ n x e. let l = entry_below (first_nodes count) n x e in
      subst (λ (z : NodeSeen). NodeMirrors n z (start count target)) (sym (first_at count n x e)) (new_mirrors n (start count target) (λ j. refl) (is_running n l.0 (upto n l.1)));
  absent = λ n e. if_elim (λ c. c.up ≡ false) (nat_lt 0 n && nat_le n count) running down
      (λ t. absurd (let b = and_parts (nat_lt 0 n) (nat_le n count) t in
      let l = entry_none (first_nodes count) n e (ltb-true 0 n b.0) in let k = leb-true n count b.1 in let all = length-first count in omega (arith, l, k, all)))
      (λ f. refl);
  count = sym (length-first count);
}
  where
    upto : (n : ℕ) → n ≤ length (first_nodes count) → n ≤ count
    upto n l = let all = length-first count in omega (arith, l, all)

    is_running : (n : ℕ) → 0 < n → n ≤ count → cell_at count n ≡ running
    is_running n a b = if_elim (λ c. c ≡ running) (nat_lt 0 n && nat_le n count) running down (λ t. refl)
        (λ f. absurd (⊎_elim (λ g. let k = ltb-false 0 n g in omega (arith, a, k)) (λ g. let k = leb-false n count g in omega (arith, b, k)) (and_cases (nat_lt 0 n) (nat_le n count) f)))
