-- A legal entry leads from a cluster that has the actors before it to one that has those after it.
use Rattle.std.proofs.Common.{◌≡◌, ◌≢◌, ◌<◌, ◌≤◌, ◌+◌, inl, inr, ℕ, Bool, true, false, if◌then◌else◌, List, [], ◌++◌, Option, Some, None, arith, refl, sym, ap, ◌∙◌, subst, append-nil}
use Rattle.std.proofs.lemmas.Bool.Decides.{eqb_tells}
use Rattle.wire.specs.declared.actor.ActorId.{ActorId}
use Rattle.wire.specs.declared.note.Note.{Note}
use Rattle.model_streams.specs.declared.event.Event.{Event}
use Rattle.model_streams.specs.declared.event.Event.TheVariants.{Submit, Moment}
use Rattle.model_streams.specs.StreamSystem.{is_request}
use Rattle.model_streams.proofs.Tests.{if_elim}
use Rattle.model_partition.specs.Servers.{noted}
use Rattle.model_partition.specs.Cluster.{Cluster, cluster_after}
use Rattle.stamp_traces.specs.Traces.{IsStep}
use Rattle.stamp_traces.specs.declared.takers.Takers.{Takers}
use Rattle.world_steps.specs.ActorStep.{ActorStep, nothing}
use Rattle.world_actors.specs.declared.run_actor.RunActor.{RunActor}
use Rattle.world_actors.specs.Numbers.{count_of, nodes_in, servers_in, place_in}
use Rattle.world_actors.specs.Inputs.{clock_readers, is_moment, one_at, place_if, taker_of}
use Rattle.world_actors.specs.Steps.{ActorSteps, Goes}
use Rattle.laws_traces.specs.Traces.{IsActorAt, IsLegalEntry, RunEntry, unheard}
use Rattle.laws_traces.proofs.Moments.{moment_shown_to_all}
use Rattle.laws_traces.proofs.Places.{apart, at_place}
use Rattle.laws_traces.proofs.Sizes.{HasSize, size_after}
use Rattle.laws_traces.proofs.Untaken.{actor_stays, untaken, with_packets}

-- the cluster is of this size, and each of its actors is as here
pub record HasActors (ns : List ℕ) (s : ℕ → RunActor) (c : Cluster) : Type 0 where
  pub size : HasSize (nodes_in ns) (servers_in ns) c
  pub each : (n : ℕ) → n < count_of ns → IsActorAt ns n (s n) c

-- after the step the cluster has these actors, and has sent and shown what the step has
pub record IsAfterStep (ns : List ℕ) (t : ℕ → RunActor) (r : ActorStep) (c d : Cluster) : Type 0 where
  pub post : d.stream_layer.post ≡ c.stream_layer.post ++ r.packets
  pub notes : d.stream_layer.notes ≡ noted (c.stream_layer.notes ++ r.notes) r.tables
  pub actors : (n : ℕ) → n < count_of ns → IsActorAt ns n (t n) d

moment_of : (event : Event) → is_moment event ≡ true → (now : ℕ) × (event ≡ Moment now)
moment_of (Moment now) is = (now, refl)
moment_of event is = absurd cc

-- an event that no actor takes shows nothing
shows_nothing : (notes : List Note) (event : Event) → notes ≡ noted (notes ++ (unheard event).notes) (unheard event).tables
shows_nothing notes (Submit user to body) = if_elim (λ (r : ActorStep). notes ≡ noted (notes ++ r.notes) r.tables) (is_request body) _ nothing (λ asks. sym (append-nil notes)) (λ none. sym (append-nil notes))
shows_nothing notes event = sym (append-nil notes)

module _ (ns : List ℕ) (s t : ℕ → RunActor) (c : Cluster) (x : RunEntry) (has : HasActors ns s c) (legal : IsLegalEntry ns c.stream_layer.post x) (step : IsStep Goes s x t) where
  -- ---- one actor takes the event

  module _ (a : ActorId) (n : ℕ) (taker : taker_of x.event.event x.event.packet ≡ Some a) (place : place_in ns a ≡ Some n) (takers : x.takers ≡ record { first = n; end = n + 1 }) where
    below : n < count_of ns
    below = (at_place ns a n place).1

    goes : Goes (s n) x.event (t n) x.reply
    goes = let first = ap (λ (k : Takers). k.first) takers in let end = ap (λ (k : Takers). k.end) takers in
        step.takers n (omega (arith, first)) (omega (arith, end))

    steps : ActorSteps (s n) (t n) c (cluster_after c x.event.event) x.reply
    steps = goes.steps c (has.each n below).actor legal.carries (taker ∙ ap Some ((at_place ns a n place).0 ∙ sym (has.each n below).id))

    other : (m : ℕ) → m ≢ n → t m ≡ s m
    other m differs = let first = ap (λ (k : Takers). k.first) takers in let end = ap (λ (k : Takers). k.end) takers in
        step.others m (grind (arith, differs, first, end))

    after : (m : ℕ) → m < count_of ns → IsActorAt ns m (t m) (cluster_after c x.event.event)
    after m within =
        elim (eqb_tells m n) [
          | inl same ↦ subst (λ (k : ℕ). IsActorAt ns k (t k) (cluster_after c x.event.event)) (sym same.1) (record { id = steps.id ∙ (has.each n below).id; actor = steps.here })
          | inr differs ↦ subst (λ (z : RunActor). IsActorAt ns m z (cluster_after c x.event.event)) (sym (other m differs.1)) (record {
            id = (has.each m within).id;
            actor = steps.others (s m) (λ same. apart ns m n within below differs.1 (sym (has.each m within).id ∙ same ∙ (has.each n below).id)) (has.each m within).actor;
          })
        ]

    by_one : IsAfterStep ns t x.reply c (cluster_after c x.event.event)
    by_one = record { post = steps.post; notes = steps.notes; actors = after }

  -- ---- no actor takes it

  by_none : is_moment x.event.event ≡ false → place_if ns (taker_of x.event.event x.event.packet) ≡ None → x.takers ≡ one_at None → IsAfterStep ns t x.reply c (cluster_after c x.event.event)
  by_none moment nobody takers =
      let first = ap (λ (k : Takers). k.first) takers in
      let end = ap (λ (k : Takers). k.end) takers in
      let reply : x.reply ≡ unheard x.event.event = legal.untaken (omega (arith, first, end)) in
      let comes = untaken ns c has.size x.event.event x.event.packet legal.carries moment nobody in
      subst (λ (r : ActorStep). IsAfterStep ns t r c (cluster_after c x.event.event)) (sym reply)
      (subst (λ (d : Cluster). IsAfterStep ns t (unheard x.event.event) c d) (sym comes)
      (record {
        post = refl;
        notes = shows_nothing c.stream_layer.notes x.event.event;
        actors = λ n below. subst (λ (z : RunActor). IsActorAt ns n z (with_packets c (unheard x.event.event).packets)) (sym (step.others n (inr (omega (arith, end)))))
            (record { id = (has.each n below).id; actor = actor_stays (s n) c (unheard x.event.event).packets (has.each n below).actor });
      }))

  -- ---- a moment

  by_clock : (now : ℕ) → x.event.event ≡ Moment now → x.takers ≡ clock_readers ns → IsAfterStep ns t x.reply c (cluster_after c x.event.event)
  by_clock now is takers =
      let first = ap (λ (k : Takers). k.first) takers in
      let end = ap (λ (k : Takers). k.end) takers in
      let goes = λ (n : ℕ) (low : nodes_in ns + 1 ≤ n) (high : n < count_of ns). (step.takers n (omega (arith, first, low)) (omega (arith, end, high))).moment now is in
      let reply : x.reply ≡ nothing = (goes (nodes_in ns + 1) (omega arith) (omega arith)).1 in
      subst (λ (r : ActorStep). IsAfterStep ns t r c (cluster_after c x.event.event)) (sym reply)
      (subst (λ (e : Event). IsAfterStep ns t nothing c (cluster_after c e)) (sym is)
      (record {
        post = if_elim (λ (d : Cluster). d.stream_layer.post ≡ c.stream_layer.post ++ []) _ _ _ (λ back. sym (append-nil c.stream_layer.post)) (λ on. sym (append-nil c.stream_layer.post));
        notes = if_elim (λ (d : Cluster). d.stream_layer.notes ≡ c.stream_layer.notes ++ []) _ _ _ (λ back. sym (append-nil c.stream_layer.notes)) (λ on. sym (append-nil c.stream_layer.notes));
        actors = moment_shown_to_all ns now c s t has.each (λ n low high. (goes n low high).0) (λ n low. step.others n (inl (omega (arith, first, low))));
      }))

  -- ---- any entry

  by_place : (o : Option ActorId) (k : Option ℕ) → is_moment x.event.event ≡ false → taker_of x.event.event x.event.packet ≡ o → place_if ns o ≡ k → x.takers ≡ one_at k → IsAfterStep ns t x.reply c (cluster_after c x.event.event)
  by_place o None moment taker place takers = by_none moment (ap (place_if ns) taker ∙ place) takers
  by_place None (Some n) moment taker place takers = absurd cc
  by_place (Some a) (Some n) moment taker place takers = by_one a n taker place takers

  by_event : (b : Bool) → is_moment x.event.event ≡ b → x.takers ≡ (if b then clock_readers ns else one_at (place_if ns (taker_of x.event.event x.event.packet))) → IsAfterStep ns t x.reply c (cluster_after c x.event.event)
  by_event true moment takers = let is = moment_of x.event.event moment in by_clock is.0 is.1 takers
  by_event false moment takers = by_place (taker_of x.event.event x.event.packet) (place_if ns (taker_of x.event.event x.event.packet)) moment refl refl takers

  pub entry_steps : IsAfterStep ns t x.reply c (cluster_after c x.event.event)
  entry_steps = by_event (is_moment x.event.event) refl legal.takers

  pub has_after : HasActors ns t (cluster_after c x.event.event)
  has_after = record { size = size_after (nodes_in ns) (servers_in ns) c has.size x.event.event; each = entry_steps.actors }
