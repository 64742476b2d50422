-- In an event of a run no stream goes, and the streams of a list that the manager takes are there then.
use Rattle.std.proofs.Common.{◌≡◌, Bool, true, false, not, ◌||◌, List, Some, None, slice_get, Contains, refl, sym, ap, ◌∙◌, subst, if◌then◌else◌}
use Rattle.wire.specs.declared.actor.ActorId.TheVariants.{Manager}
use Rattle.wire.specs.declared.actor.ReqNo.{ReqNo}
use Rattle.wire.specs.declared.body.Body.TheVariants as bodies
use Rattle.wire.specs.declared.body.StreamBody.TheVariants.{MultiModify}
use Rattle.wire.specs.declared.packet.Packet.{Packet}
use Rattle.wire.specs.declared.streams.Modify.{Modify}
use Rattle.wire.specs.declared.streams.StreamName.{StreamName}
use Rattle.streams.specs.Streams.{Streams, modified}
use Rattle.model_streams.specs.declared.event.Event.{Event}
use Rattle.model_streams.specs.declared.event.Event.TheVariants.{Deliver}
use Rattle.model_streams.specs.Manager.{Catalog, sealed_lengths, modify_refusal, modify_taken, manager_rule}
use Rattle.model_streams.specs.Outcome.{Outcome, or_refused}
use Rattle.model_streams.specs.StreamSystem.{StreamSystem, stops_in, stands_in, burnt, unsent, manager_halted, after_manager_rule, manager_performs}
use Rattle.model_partition.specs.Cluster.{Cluster, delivered_to, delivers, cluster_after}
use Rattle.laws_streams.proofs.BuildTests.{builds_of}
use Rattle.laws_streams.proofs.RisingFences.{run_rises}
use Rattle.laws_servers.proofs.EventsAsMoves.{comes_by}
use Rattle.laws_map.proofs.ManagerBirths.{IsIn, built_in}

pub event_stays : (c : Cluster) (event : Event) (name : StreamName) → IsIn c.stream_layer.catalog.stream name → IsIn (cluster_after c event).stream_layer.catalog.stream name
event_stays c event name (x, is) =
    let m = comes_by c event in
    let r = run_rises m.moves c.stream_layer name x is in
    subst (λ (v : StreamSystem). IsIn v.catalog.stream name) m.is (r.now, r.is)

-- where a rule's record stands
taken_of : (t : Streams) (a b : Bool) (x y z : StreamSystem) → (not a || b) ≡ true → x.catalog.stream ≡ t → z.catalog.stream ≡ t → (if a then (if b then x else y) else z).catalog.stream ≡ t
taken_of t false b x y z is one two = two
taken_of t true true x y z is one two = one
taken_of t true false x y z is one two = absurd cc

module _ (c : Cluster) (p : Packet) (list : List Modify) (q : ReqNo) (body : p.body ≡ bodies.Stream (MultiModify list q)) (free : modify_refusal c.stream_layer.catalog p list ≡ None) where
  abbrev w : StreamSystem
  w = c.stream_layer

  abbrev o : Outcome Catalog
  o = manager_rule w.catalog p p.body

  streams_are : o.after.stream ≡ modified w.catalog.stream list
  streams_are = ap (λ b. (manager_rule w.catalog p b).after.stream) body ∙ ap (λ r. (or_refused w.catalog Manager p q r (modify_taken w.catalog p list q)).after.stream) free

  performs_streams : (not (stops_in w.manager_cell o.written) || stands_in w.manager_cell) ≡ true → (manager_performs w o).catalog.stream ≡ o.after.stream
  performs_streams t =
      taken_of o.after.stream (stops_in w.manager_cell o.written) (stands_in w.manager_cell) (manager_halted (after_manager_rule w (unsent o))) (manager_halted w) (after_manager_rule (record w { manager_cell = burnt w.manager_cell o.written }) o) t refl refl

  pub taken_there : (number : _) → slice_get w.post number ≡ Some p → p.to ≡ Manager → w.manager_cell.up ≡ true → (not (stops_in w.manager_cell (manager_rule w.catalog p p.body).written) || stands_in w.manager_cell) ≡ true → (m : Modify) → Contains list m →
      IsIn (cluster_after c (Deliver number)).stream_layer.catalog.stream m.stream
  taken_there number at to up written m among =
      let d : cluster_after c (Deliver number) ≡ record c { stream_layer = manager_performs w o } =
      ap (delivers c) at ∙ ap (delivered_to c p) to ∙ ap (λ u. record c { stream_layer = if u then manager_performs w o else w }) up in
      subst (λ (e : Cluster). IsIn e.stream_layer.catalog.stream m.stream) (sym d)
      (subst (λ (ss : Streams). IsIn ss m.stream) (sym (performs_streams written ∙ streams_are)) (built_in (sealed_lengths w.catalog) list w.catalog.stream (builds_of w.catalog p list free).1 m among))
