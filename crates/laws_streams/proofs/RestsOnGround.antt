-- How a whole stream system rests on what is known, what a rule of a table leaves, and what a stop leaves.
use Rattle.std.proofs.Common.{◌≡◌, ◌≢◌, ◌⊎◌, ℕ, ◌<◌, true, List, [], ◌∷◌, ◌++◌, Option, Some, None, Contains, refl, ◌∙◌, inl, inr, arith, ap, subst, sym, ◌==◌}
use Rattle.block_types.specs.declared.record.Nodes.{Nodes}
use Rattle.wire.specs.declared.actor.ReqNo.{ReqNo}
use Rattle.wire.specs.declared.body.AppendBody.TheVariants.{Append}
use Rattle.wire.specs.declared.body.Body.TheVariants as bodies
use Rattle.wire.specs.declared.note.Note.{Note}
use Rattle.wire.specs.declared.packet.Packet.{Packet}
use Rattle.replica.specs.Groups.{Group}
use Rattle.model_streams.specs.declared.extent.Extent.{Extent}
use Rattle.model_streams.specs.declared.extent.PlaceReport.{PlaceReport}
use Rattle.model_streams.specs.Actors.{generation_of}
use Rattle.model_streams.specs.Honest.{Apart}
use Rattle.model_streams.specs.Manager.{Catalog, forgotten_if, catalog_stopped}
use Rattle.model_streams.specs.Node.{Replica, stopped}
use Rattle.model_streams.specs.Outcome.{Outcome}
use Rattle.model_streams.specs.StreamSystem.{StreamSystem, after_node_rule, after_manager_rule, unsent, node_halted, manager_halted}
use Rattle.model_streams.proofs.Tests.{if_elim}
use Rattle.laws_streams.specs.Origins.{Origin}
use Rattle.laws_streams.proofs.Choices.{Each, each-append, each-weaker, contains_left, EachPair, pairs-append, changed_at_elim}
use Rattle.laws_streams.proofs.Ground.{Ground, Sound, FinePacket, FineNote, FineReplica}
use Rattle.laws_streams.proofs.MoreKnown.{Later, Still, packet_later, note_later, replica_later}

-- ---- the stream system

abbrev pub places_of : Option Extent → Option Nodes
places_of None = None
places_of (Some x) = Some x.places

abbrev pub sealed_of : Option Extent → Option ℕ
sealed_of None = None
sealed_of (Some x) = x.sealed

-- a place that told a length takes no more appends, and has that length
abbrev pub FineReport : Ground → ℕ → ℕ → PlaceReport → Type 0
FineReport g n e report = (l : ℕ) → report.frozen ≡ Some l → (g.closed n e ≡ true) × (g.last n e ≡ l)

pub record FineReports (g : Ground) (e : ℕ) (x : Extent) : Type 0 where
  pub primary : FineReport g x.places.primary e x.primary
  pub second : FineReport g x.places.second e x.second
  pub third : FineReport g x.places.third e x.third

abbrev pub FineReportsOf : Ground → ℕ → Option Extent → Type 0
FineReportsOf g e None = Unit {0}
FineReportsOf g e (Some x) = FineReports g e x

-- the manager's catalog
pub record FineCatalog (g : Ground) (b : Catalog) : Type 0 where
  pub places : (e : ℕ) → g.places e ≡ places_of (b.extent e)
  pub sealed : (e : ℕ) → g.sealed e ≡ sealed_of (b.extent e)
  pub born : (e : ℕ) (x : Extent) → b.extent e ≡ Some x → g.born e ≡ x.fence
  pub fresh : (e : ℕ) → b.count < e → b.extent e ≡ None
  pub reports : (e : ℕ) → FineReportsOf g e (b.extent e)

-- the whole invariant
pub record Holds (w : StreamSystem) (g : Ground) : Type 0 where
  pub sound : Sound g
  pub packets : Each (FinePacket g) w.post
  pub asked : (p : Packet) → Contains g.asked p → Contains w.post p
  pub notes : Each (FineNote g) w.notes
  pub apart : EachPair Apart w.notes
  pub replicas : (n e : ℕ) → FineReplica g n e (w.replica n e)
  pub catalog : FineCatalog g w.catalog

-- an event: what was observed before it, its number, and the packet that is delivered
pub record Moment : Type 0 where
  pub told : List Note
  pub number : ℕ
  pub packet : Packet

abbrev pub Unmoved : Ground → Ground → ℕ → Type 0
Unmoved g h e = (h.script e ≡ g.script e) × (h.origin e ≡ g.origin e)

-- where a group comes from that is appended now
abbrev pub origin_of : Moment → ℕ → ReqNo → Origin
origin_of now generation request =
    record { generation = generation_of now.packet.from generation; request = request; event = now.number }

-- the script gained the group of the append that was delivered
pub record Added (now : Moment) (g h : Ground) (e : ℕ) : Type 0 where
  pub group : Group
  pub generation : ℕ
  pub request : ReqNo
  pub body : now.packet.body ≡ bodies.Append (Append e generation group request)
  pub script : h.script e ≡ g.script e ++ group ∷ []
  pub origin : h.origin e ≡ g.origin e ++ origin_of now generation request ∷ []

-- what a rule of a node's table leaves
pub record FineRule (now : Moment) (g h : Ground) (n e : ℕ) (o : Outcome (Option Replica)) : Type 0 where
  pub sound : Sound h
  pub later : Later g h
  pub still : (m k : ℕ) → (m ≢ n) ⊎ (k ≢ e) → Still g h m k
  pub grown : (k : ℕ) → Unmoved g h k ⊎ Added now g h k
  pub replica : FineReplica h n e o.after
  pub packets : Each (FinePacket h) o.packets
  pub asked : (p : Packet) → Contains h.asked p → Contains g.asked p ⊎ (p ≡ now.packet)
  pub notes : Each (FineNote h) o.notes
  pub apart : EachPair Apart o.notes
  pub cross : Each (λ x. Each (Apart x) o.notes) now.told
  pub places : (k : ℕ) → h.places k ≡ g.places k
  pub sealed : (k : ℕ) → h.sealed k ≡ g.sealed k

report_later : (g h : Ground) → Later g h → (n e : ℕ) (report : PlaceReport) → FineReport g n e report → FineReport h n e report
report_later g h later n e report f l is = let a = f l is in let c = later.closed n e a.0 in (c.0, c.1 ∙ a.1)

pub reports_later : (g h : Ground) → Later g h → (e : ℕ) (o : Option Extent) → FineReportsOf g e o → FineReportsOf h e o
reports_later g h later e None f = tt
reports_later g h later e (Some x) f = record {
  primary = report_later g h later x.places.primary e x.primary f.primary;
  second = report_later g h later x.places.second e x.second f.second;
  third = report_later g h later x.places.third e x.third f.third;
}

catalog_later : (g h : Ground) → Later g h → ((k : ℕ) → h.places k ≡ g.places k) → ((k : ℕ) → h.sealed k ≡ g.sealed k) → (b : Catalog) → FineCatalog g b → FineCatalog h b
catalog_later g h later places sealed b f = record {
  places = λ e. places e ∙ f.places e;
  sealed = λ e. sealed e ∙ f.sealed e;
  born = λ e x is. later.born e x.places (f.places e ∙ ap places_of is) ∙ f.born e x is;
  fresh = f.fresh;
  reports = λ e. reports_later g h later e (b.extent e) (f.reports e);
}

pub rule_holds : (w : StreamSystem) (now : Moment) (g h : Ground) (n e : ℕ) (o : Outcome (Option Replica)) → now.told ≡ w.notes → Contains w.post now.packet →
    Holds w g → FineRule now g h n e o → Holds (after_node_rule w n e o) h
rule_holds w now g h n e o before stands a r = record {
  sound = r.sound;
  packets = each-append (FinePacket h) w.post o.packets (each-weaker (FinePacket g) (FinePacket h) (packet_later g h r.later) w.post a.packets) r.packets;
  asked = λ p c. contains_left w.post o.packets p (elim (r.asked p c) [ inl x ↦ a.asked p x | inr x ↦ subst (Contains w.post) (sym x) stands ]);
  notes = each-append (FineNote h) w.notes o.notes (each-weaker (FineNote g) (FineNote h) (note_later g h r.later) w.notes a.notes) r.notes;
  apart = pairs-append Apart w.notes o.notes a.apart r.apart (rw (← before) r.cross);
  replicas = λ m k. changed_at_elim (FineReplica h m k) n e o.after w.replica m k
      (λ p q. rw (p, q) r.replica)
      (λ other. replica_later g h a.sound r.later m k (r.still m k other) (w.replica m k) (a.replicas m k));
  catalog = catalog_later g h r.later r.places r.sealed w.catalog a.catalog;
}

-- the same without its packets
pub rule_unsent : (now : Moment) (g h : Ground) (n e : ℕ) (o : Outcome (Option Replica)) → FineRule now g h n e o → FineRule now g h n e (unsent o)
rule_unsent now g h n e o r = record {
  sound = r.sound;
  later = r.later;
  still = r.still;
  grown = r.grown;
  replica = r.replica;
  packets = tt;
  asked = r.asked;
  notes = r.notes;
  apart = r.apart;
  cross = r.cross;
  places = r.places;
  sealed = r.sealed;
}

-- what a rule of the manager's table leaves; an extent that it seals at a length is one of its news
pub record FineManagerRule (News : ℕ → ℕ → Type 0) (told : List Note) (g h : Ground) (o : Outcome Catalog) : Type 0 where
  pub sound : Sound h
  pub later : Later g h
  pub still : (m k : ℕ) → Still g h m k
  pub unmoved : (k : ℕ) → Unmoved g h k
  pub sealed : (k l : ℕ) → h.sealed k ≡ Some l → (g.sealed k ≡ Some l) ⊎ News k l
  pub catalog : FineCatalog h o.after
  pub packets : Each (FinePacket h) o.packets
  pub asked : (p : Packet) → Contains h.asked p → Contains g.asked p
  pub notes : Each (FineNote h) o.notes
  pub apart : EachPair Apart o.notes
  pub cross : Each (λ x. Each (Apart x) o.notes) told

pub manager_rule_holds : (News : ℕ → ℕ → Type 0) (w : StreamSystem) (g h : Ground) (o : Outcome Catalog) → Holds w g → FineManagerRule News w.notes g h o →
    Holds (after_manager_rule w o) h
manager_rule_holds News w g h o a r = record {
  sound = r.sound;
  packets = each-append (FinePacket h) w.post o.packets (each-weaker (FinePacket g) (FinePacket h) (packet_later g h r.later) w.post a.packets) r.packets;
  asked = λ p c. contains_left w.post o.packets p (a.asked p (r.asked p c));
  notes = each-append (FineNote h) w.notes o.notes (each-weaker (FineNote g) (FineNote h) (note_later g h r.later) w.notes a.notes) r.notes;
  apart = pairs-append Apart w.notes o.notes a.apart r.apart r.cross;
  replicas = λ m k. replica_later g h a.sound r.later m k (r.still m k) (w.replica m k) (a.replicas m k);
  catalog = r.catalog;
}

pub manager_rule_unsent : (News : ℕ → ℕ → Type 0) (told : List Note) (g h : Ground) (o : Outcome Catalog) → FineManagerRule News told g h o →
    FineManagerRule News told g h (unsent o)
manager_rule_unsent News told g h o r = record {
  sound = r.sound;
  later = r.later;
  still = r.still;
  unmoved = r.unmoved;
  sealed = r.sealed;
  catalog = r.catalog;
  packets = tt;
  asked = r.asked;
  notes = r.notes;
  apart = r.apart;
  cross = r.cross;
}

-- ---- stops

stopped_fine : (g : Ground) (n e : ℕ) (s : Option Replica) → FineReplica g n e s → FineReplica g n e (stopped s)
stopped_fine g n e None f = f
stopped_fine g n e (Some r) f = record {
  places = f.places;
  begins = f.begins;
  phase = f.phase;
  second_has = omega arith;
  third_has = omega arith;
  waiting = λ i. tt;
  waits = tt;
  target = f.target;
  fence = f.fence;
  born = f.born;
  check = tt;
}

pub halted_holds : (w : StreamSystem) (g : Ground) (n : ℕ) → Holds w g → Holds (node_halted w n) g
halted_holds w g n a = record {
  sound = a.sound;
  packets = a.packets;
  asked = a.asked;
  notes = a.notes;
  apart = a.apart;
  catalog = a.catalog;
  replicas = λ m e. if_elim (FineReplica g m e) (m == n) _ _ (λ t. stopped_fine g m e (w.replica m e) (a.replicas m e)) (λ f. a.replicas m e);
}

-- what a stop leaves of an extent tells nothing
forgotten_fine : (g : Ground) (b : Catalog) → FineCatalog g b → FineCatalog g (catalog_stopped b)
forgotten_fine g b f = record {
  places = λ e. f.places e ∙ same_places (b.extent e);
  sealed = λ e. f.sealed e ∙ same_sealed (b.extent e);
  born = λ e x is. same_born e (b.extent e) (f.born e) x is;
  fresh = λ e l. ap forgotten_if (f.fresh e l);
  reports = λ e. no_reports e (b.extent e);
}
  where
    same_places : (o : Option Extent) → places_of o ≡ places_of (forgotten_if o)
    same_places None = refl
    same_places (Some x) = refl

    same_sealed : (o : Option Extent) → sealed_of o ≡ sealed_of (forgotten_if o)
    same_sealed None = refl
    same_sealed (Some x) = refl

    same_born : (e : ℕ) (o : Option Extent) → ((y : Extent) → o ≡ Some y → g.born e ≡ y.fence) → (x : Extent) → forgotten_if o ≡ Some x → g.born e ≡ x.fence
    same_born e None old x is = absurd cc
    same_born e (Some y) old x is = let c : y.fence ≡ x.fence = cc in old y refl ∙ c

    no_reports : (e : ℕ) (o : Option Extent) → FineReportsOf g e (forgotten_if o)
    no_reports e None = tt
    no_reports e (Some x) = record { primary = λ l is. absurd cc; second = λ l is. absurd cc; third = λ l is. absurd cc }

pub manager_halted_holds : (w : StreamSystem) (g : Ground) → Holds w g → Holds (manager_halted w) g
manager_halted_holds w g a = record {
  sound = a.sound;
  packets = a.packets;
  asked = a.asked;
  notes = a.notes;
  apart = a.apart;
  replicas = a.replicas;
  catalog = forgotten_fine g w.catalog a.catalog;
}
