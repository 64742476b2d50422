-- What a rule of a table keeps: the invariant, with more known or the same.
use Rattle.std.proofs.Common.{◌≡◌, ℕ, ◌≤◌, true, false, List, [], ◌∷◌, length, Option, Some, None, refl, sym, ◌∙◌, inl, arith, subst}
use Rattle.block_types.specs.declared.record.Nodes.{Nodes}
use Rattle.block_types.specs.declared.record.Record.{Record}
use Rattle.wire.specs.declared.actor.ReqNo.{ReqNo}
use Rattle.wire.specs.declared.actor.ActorId.{ActorId}
use Rattle.wire.specs.declared.actor.ActorId.TheVariants.{Node, Manager}
use Rattle.wire.specs.declared.body.Body.{Body}
use Rattle.wire.specs.declared.body.AppendBody.TheVariants.{Refused}
use Rattle.wire.specs.declared.body.Body.TheVariants as bodies
use Rattle.wire.specs.declared.note.Note.{Note}
use Rattle.wire.specs.declared.packet.Packet.{Packet}
use Rattle.wire.specs.declared.refusal.Refusal.{Refusal}
use Rattle.replica.specs.declared.phase.Phase.{Phase}
use Rattle.replica.specs.declared.phase.Phase.TheVariants as phases
use Rattle.replica.specs.Groups.{Group, text_length}
use Rattle.model_streams.specs.Honest.{Apart}
use Rattle.model_streams.specs.Maps.{changed_at}
use Rattle.model_streams.specs.Manager.{Catalog}
use Rattle.model_streams.specs.Node.{Replica, is_open}
use Rattle.model_streams.specs.Outcome.{Outcome, packet, silent, sends, refused, or_refused}
use Rattle.laws_streams.proofs.Lists.{NoneEmpty}
use Rattle.laws_streams.proofs.Choices.{changed_at_elim, Each, EachPair}
use Rattle.laws_streams.proofs.Ground.{Ground, EndsAt, longest, Sound, FinePacket, FineNote, FinePhase, FineOne, FineReplica}
use Rattle.laws_streams.proofs.MoreKnown.{Later, later_refl, still_refl}
use Rattle.laws_streams.proofs.RestsOnGround.{FineCatalog, Moment, FineRule, FineManagerRule}

abbrev pub Keeps : Moment → Ground → ℕ → ℕ → Outcome (Option Replica) → Type 0
Keeps now g n e o = (h : Ground) × FineRule now g h n e o

pub each_all : {A : Type 0} (P : A → Type 0) → ((x : A) → P x) → (xs : List A) → Each P xs
each_all P f [] = tt
each_all P f (x ∷ xs) = (f x, each_all P f xs)

-- a rule that adds nothing to what is known
pub plain : (now : Moment) (g : Ground) (n e : ℕ) (o : Outcome (Option Replica)) → Sound g →
    FineReplica g n e o.after → Each (FinePacket g) o.packets → Each (FineNote g) o.notes →
    EachPair Apart o.notes → Each (λ x. Each (Apart x) o.notes) now.told → Keeps now g n e o
plain now g n e o sound replica packets notes apart cross = (
  g,
  record {
    sound = sound;
    later = later_refl g;
    still = λ m k other. still_refl g m k;
    replica = replica;
    packets = packets;
    asked = λ p c. inl c;
    notes = notes;
    apart = apart;
    cross = cross;
    grown = λ k. inl (refl, refl);
    places = λ k. refl;
    sealed = λ k. refl;
  },
)

pub told_nothing : (told : List Note) → Each (λ x. Each (Apart x) []) told
told_nothing told = each_all (λ x. Each (Apart x) []) (λ x. tt) told

pub sent : (now : Moment) (g : Ground) (n e : ℕ) (s : Option Replica) (packets : List Packet) → Sound g →
    FineReplica g n e s → Each (FinePacket g) packets → Keeps now g n e (sends s packets)
sent now g n e s packets sound replica fine = plain now g n e (sends s packets) sound replica fine tt tt (told_nothing now.told)

pub kept_silent : (now : Moment) (g : Ground) (n e : ℕ) (s : Option Replica) → Sound g → FineReplica g n e s → Keeps now g n e (silent s)
kept_silent now g n e s sound replica = sent now g n e s [] sound replica tt

pub unless_refused : (now : Moment) (g : Ground) (n e : ℕ) (s : Option Replica) (p : Packet) (q : ReqNo) (x : Option Refusal) (o : Outcome (Option Replica)) →
    Sound g → FineReplica g n e s → (x ≡ None → Keeps now g n e o) → Keeps now g n e (or_refused s (Node n) p q x o)
unless_refused now g n e s p q (Some c) o sound replica taken = sent now g n e s (packet (Node n) p.from (bodies.Append (Refused q c)) ∷ []) sound replica (tt, tt)
unless_refused now g n e s p q None o sound replica taken = taken refl

-- a packet that is delivered to an actor, with this body
pub packet_is : (p : Packet) (to : ActorId) (body : Body) → p.to ≡ to → p.body ≡ body → p ≡ packet p.from to body
packet_is p to body t b = rw (← t, ← b) refl

-- ---- open replicas

pub open_is : (phase : Phase) → is_open phase ≡ true → phase ≡ phases.Open
open_is phases.Open t = refl
open_is phases.Frozen t = cc
open_is phases.Sealed t = cc

pub open_phase : (g : Ground) (n e : ℕ) (r : Replica) → is_open r.content.phase ≡ true → FineOne g n e r → FinePhase g n e r.content.places r.content.groups phases.Open
open_phase g n e r t f = subst (λ x. FinePhase g n e r.content.places r.content.groups x) (open_is r.content.phase t) f.phase

pub phase_open : (g : Ground) (n e : ℕ) (at : Nodes) (groups : List Group) (phase : Phase) → is_open phase ≡ true →
    FinePhase g n e at groups phases.Open → FinePhase g n e at groups phase
phase_open g n e at groups phase t f = subst (λ x. FinePhase g n e at groups x) (sym (open_is phase t)) f

-- ---- the ground grows

-- the sum of facts that hold when the ground grows and no append is acknowledged
pub sound_later : (g h : Ground) → Sound g → Later g h → ((k : ℕ) → h.places k ≡ g.places k) → ((k : ℕ) → h.sealed k ≡ g.sealed k) →
    ((k : ℕ) → NoneEmpty (h.script k)) → ((k : ℕ) → text_length (h.script k) ≤ longest) → ((n k : ℕ) → EndsAt (h.script k) (h.last n k)) → ((k : ℕ) → length (h.origin k) ≡ length (h.script k)) →
    ((k : ℕ) → Each (λ x. h.born k ≤ x.generation) (h.origin k)) →
    ((k : ℕ) → g.places k ≡ None → (h.script k ≡ []) × (h.acked k ≡ 0) × (h.fence k ≡ 0)) →
    ((k : ℕ) (at : Nodes) → g.places k ≡ Some at → (h.acked k ≤ h.last at.primary k) × (h.acked k ≤ h.last at.second k) × (h.acked k ≤ h.last at.third k)) →
    Sound h
sound_later g h sound later places sealed none_empty short whole aged born unmade all_had = record {
  none_empty = none_empty;
  short = short;
  whole = whole;
  aged = aged;
  born = born;
  unmade = λ k m. unmade k (sym (places k) ∙ m);
  all_had = λ k at m. all_had k at (sym (places k) ∙ m);
  noted = λ k l m.
      let (at, n, made, place, closed, last) = sound.noted k l (sym (sealed k) ∙ m) in
      let c = later.closed n k closed in
      (at, n, places k ∙ made, place, c.0, c.1 ∙ last);
}

-- node n gains a group, and is open
module _ (g : Ground) (n e : ℕ) (v : ℕ) (closed : g.closed n e ≡ false) (more : g.last n e ≤ v) where
  pub grown_last : (m k : ℕ) → g.last m k ≤ changed_at n e v g.last m k
  grown_last m k = changed_at_elim (λ x. g.last m k ≤ x) n e v g.last m k
      (λ p q. let c : g.last m k ≡ g.last n e = cc in omega (arith, c)) (λ o. omega arith)

  pub grown_closed : (m k : ℕ) → g.closed m k ≡ true → changed_at n e v g.last m k ≡ g.last m k
  grown_closed m k c = changed_at_elim (λ x. x ≡ g.last m k) n e v g.last m k
      (λ p q. let d : g.closed m k ≡ g.closed n e = cc in absurd (cc)) (λ o. refl)

-- ---- a rule of the manager's table

abbrev pub Rules : (ℕ → ℕ → Type 0) → List Note → Ground → Outcome Catalog → Type 0
Rules News told g o = (h : Ground) × FineManagerRule News told g h o

module _ (News : ℕ → ℕ → Type 0) (told : List Note) (g : Ground) (b : Catalog) (sound : Sound g) (catalog : FineCatalog g b) where
  -- a rule that adds nothing to what is known
  pub written_rule : (written : Option Record) (packets : List Packet) → Each (FinePacket g) packets →
      Rules News told g (record { after = b; written = written; packets = packets; notes = [] })
  written_rule written packets fine = (
    g,
    record {
      sound = sound;
      later = later_refl g;
      still = still_refl g;
      unmoved = λ k. (refl, refl);
      sealed = λ k l is. inl is;
      catalog = catalog;
      packets = fine;
      asked = λ p c. c;
      notes = tt;
      apart = tt;
      cross = told_nothing told;
    },
  )

  pub plain_rule : (packets : List Packet) → Each (FinePacket g) packets → Rules News told g (sends b packets)
  plain_rule packets fine = written_rule None packets fine

  pub silent_rule : Rules News told g (silent b)
  silent_rule = plain_rule [] tt

  pub refused_rule : (p : Packet) (q : ReqNo) (refusal : Refusal) → Rules News told g (refused b Manager p q refusal)
  refused_rule p q refusal = plain_rule _ (tt, tt)
