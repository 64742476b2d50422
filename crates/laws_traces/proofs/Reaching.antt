-- A legal trace leads from the first cluster to the one that its events make.
use Rattle.std.proofs.Common.{◌≡◌, ◌<◌, ℕ, List, [], ◌∷◌, ◌++◌, refl, sym, ap, ◌∙◌, subst, append-nil, append_assoc}
use Rattle.wire.specs.declared.note.Note.{Note}
use Rattle.wire.specs.declared.packet.Packet.{Packet}
use Rattle.model_partition.specs.Cluster.{Cluster, cluster_after, cluster_after_all}
use Rattle.stamp_traces.specs.Traces.{LeadsFrom}
use Rattle.world_actors.specs.declared.run_actor.RunActor.{RunActor}
use Rattle.world_actors.specs.Numbers.{count_of}
use Rattle.world_actors.specs.Actors.{first_of}
use Rattle.world_actors.specs.Steps.{Goes}
use Rattle.laws_traces.specs.Traces.{AreNumbers, IsActorAt, IsLegalFrom, Reaches, RunEntry, events_of, first_cluster_of, observed, sent_by}
use Rattle.laws_traces.proofs.EntrySteps.{HasActors, entry_steps, has_after}
use Rattle.laws_traces.proofs.FirstActors.{has_first}

-- the cluster has sent and shown this, and has these actors
record IsAfterAll (ns : List ℕ) (t : ℕ → RunActor) (post : List Packet) (notes : List Note) (d : Cluster) : Type 0 where
  sent : d.stream_layer.post ≡ post
  shown : d.stream_layer.notes ≡ notes
  actors : (n : ℕ) → n < count_of ns → IsActorAt ns n (t n) d

module _ (ns : List ℕ) where
  -- from any cluster that has the actors before the entries
  leads_on : (s t : ℕ → RunActor) (c : Cluster) (xs : List RunEntry) → HasActors ns s c → LeadsFrom Goes s xs t → IsLegalFrom ns c.stream_layer.post xs →
      IsAfterAll ns t (c.stream_layer.post ++ sent_by xs) (observed c.stream_layer.notes xs) (cluster_after_all c (events_of xs))
  leads_on s t c [] has same legal = record {
    sent = sym (append-nil c.stream_layer.post);
    shown = refl;
    actors = λ n below. subst (λ (z : RunActor). IsActorAt ns n z c) (same n) (has.each n below);
  }
  leads_on s t c (x ∷ xs) has leads legal =
      let d = cluster_after c x.event.event in
      let steps = entry_steps ns s leads.0 c x has legal.0 leads.1 in
      let rest = leads_on leads.0 t d xs (has_after ns s leads.0 c x has legal.0 leads.1) leads.2 (subst (λ (post : List Packet). IsLegalFrom ns post xs) (sym steps.post) legal.1) in
      record {
        sent = rest.sent ∙ ap (λ (post : List Packet). post ++ sent_by xs) steps.post ∙ append_assoc c.stream_layer.post x.reply.packets (sent_by xs);
        shown = rest.shown ∙ ap (λ (notes : List Note). observed notes xs) steps.notes;
        actors = rest.actors;
      }

  pub reaches : AreNumbers ns → (xs : List RunEntry) (t : ℕ → RunActor) → LeadsFrom Goes (first_of ns) xs t → IsLegalFrom ns [] xs → Reaches ns xs t (cluster_after_all (first_cluster_of ns) (events_of xs))
  reaches numbers xs t leads legal =
      let after = leads_on (first_of ns) t (first_cluster_of ns) xs (has_first ns numbers) leads legal in
      record { made = refl; post = after.sent; notes = after.shown; actors = after.actors }
