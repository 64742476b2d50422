-- What was known still holds when more is known.
use Rattle.std.proofs.Common.{◌≡◌, ℕ, ◌≤◌, true, List, [], ◌++◌, Option, Some, None, Contains, refl, sym, ◌∙◌, arith, ap, append-nil, append_assoc}
use Rattle.block_types.specs.declared.record.Nodes.{Nodes}
use Rattle.wire.specs.declared.actor.ActorId.{ActorId}
use Rattle.wire.specs.declared.actor.ActorId.TheVariants.{Node}
use Rattle.wire.specs.declared.actor.ReqNo.{ReqNo}
use Rattle.wire.specs.declared.body.AppendBody.{AppendBody}
use Rattle.wire.specs.declared.body.AppendBody.TheVariants.{Put, Have}
use Rattle.wire.specs.declared.body.SealBody.{SealBody}
use Rattle.wire.specs.declared.body.SealBody.TheVariants as seals
use Rattle.wire.specs.declared.body.CheckBody.{CheckBody}
use Rattle.wire.specs.declared.body.CheckBody.TheVariants.{Check, Probed, Checked}
use Rattle.wire.specs.declared.body.Body.{Body}
use Rattle.wire.specs.declared.body.Body.TheVariants as bodies
use Rattle.wire.specs.declared.note.Note.{Note}
use Rattle.wire.specs.declared.note.Note.TheVariants.{Acked, SealedAt, Content, Seen}
use Rattle.wire.specs.declared.packet.Packet.{Packet}
use Rattle.replica.specs.declared.phase.Phase.{Phase}
use Rattle.replica.specs.declared.phase.Phase.TheVariants as phases
use Rattle.replica.specs.Groups.{Group, text, text_length}
use Rattle.replica.proofs.Lengths.{text-append}
use Rattle.model_streams.specs.declared.checking.Checking.{Checking}
use Rattle.model_streams.specs.declared.waiting_append.WaitingAppend.{WaitingAppend}
use Rattle.model_streams.specs.Actors.{generation_of}
use Rattle.model_streams.specs.Node.{Replica}
use Rattle.model_streams.specs.Outcome.{packet}
use Rattle.laws_streams.specs.Origins.{Begins, Origin}
use Rattle.laws_streams.proofs.Lists.{begins_refl, begins_trans, get_left, take_left, shows_on, stands_on}
use Rattle.laws_streams.proofs.Choices.{Each, each-append, each-weaker}
use Rattle.laws_streams.proofs.Ground.{AtMost, EndsAt, FineAppend, FineBody, FineCheck, FineCheckBody, FineChecked, FineCover, FineNone, FineNote, FinePacket, FinePhase, FineReplica, FineSeal, FineTail, FineWaiting, Ground, Sound}

-- from g to h something may have been added
pub record Later (g h : Ground) : Type 0 where
  pub script : (e : ℕ) → Begins (g.script e) (h.script e)
  pub acked : (e : ℕ) → g.acked e ≤ h.acked e
  pub places : (e : ℕ) (at : Nodes) → g.places e ≡ Some at → h.places e ≡ Some at
  pub born : (e : ℕ) (at : Nodes) → g.places e ≡ Some at → h.born e ≡ g.born e
  pub sealed : (e l : ℕ) → g.sealed e ≡ Some l → h.sealed e ≡ Some l
  pub origin : (e : ℕ) → (news : List Origin) × (h.origin e ≡ g.origin e ++ news) × Each (λ x. g.fence e ≤ x.generation) news
  pub fence : (e : ℕ) → g.fence e ≤ h.fence e
  pub asked : (p : Packet) → Contains g.asked p → Contains h.asked p
  pub last : (n e : ℕ) → g.last n e ≤ h.last n e
  pub closed : (n e : ℕ) → g.closed n e ≡ true → (h.closed n e ≡ true) × (h.last n e ≡ g.last n e)

pub ends_later : {xs ys : List Group} {l : ℕ} → EndsAt xs l → Begins xs ys → EndsAt ys l
ends_later {xs} {ys} {l} a b = record { front = a.front; begins = begins_trans a.begins b; ends = a.ends }

pub no_more : (k : ℕ) (xs : List Origin) → (news : List Origin) × (xs ≡ xs ++ news) × Each (λ x. k ≤ x.generation) news
no_more k xs = ([], sym (append-nil xs), tt)

pub later_refl : (g : Ground) → Later g g
later_refl g = record {
  script = λ e. begins_refl (g.script e);
  acked = λ e. omega arith;
  places = λ e at h. h;
  born = λ e at h. refl;
  sealed = λ e l h. h;
  origin = λ e. no_more (g.fence e) (g.origin e);
  fence = λ e. omega arith;
  asked = λ p c. c;
  last = λ n e. omega arith;
  closed = λ n e h. (h, refl);
}

pub later_trans : (g h j : Ground) → Later g h → Later h j → Later g j
later_trans g h j a b = record {
  script = λ e. begins_trans (a.script e) (b.script e);
  acked = λ e. omega (arith, a.acked e, b.acked e);
  places = λ e at m. b.places e at (a.places e at m);
  born = λ e at m. b.born e at (a.places e at m) ∙ a.born e at m;
  sealed = λ e l m. b.sealed e l (a.sealed e l m);
  origin = λ e.
      let (olds, is, older) = a.origin e in
      let (news, more, newer) = b.origin e in
      let fence = a.fence e in (
        olds ++ news,
        rw (more, is, append_assoc) refl,
        each-append (λ x. g.fence e ≤ x.generation) olds news older
            (each-weaker (λ x. h.fence e ≤ x.generation) (λ x. g.fence e ≤ x.generation) (λ x m. omega (arith, m, fence)) news newer),
      );
  fence = λ e. omega (arith, a.fence e, b.fence e);
  asked = λ p c. b.asked p (a.asked p c);
  last = λ n e. omega (arith, a.last n e, b.last n e);
  closed = λ n e c. let m = a.closed n e c in let k = b.closed n e m.0 in (k.0, k.1 ∙ m.1);
}

-- nothing was added that replica e of node n rests on
pub record Still (g h : Ground) (n e : ℕ) : Type 0 where
  pub last : h.last n e ≡ g.last n e
  pub closed : h.closed n e ≡ g.closed n e
  pub primary : (at : Nodes) → h.places e ≡ Some at → n ≡ at.primary → (h.script e ≡ g.script e) × (h.acked e ≡ g.acked e) × (h.fence e ≡ g.fence e)

pub still_refl : (g : Ground) (n e : ℕ) → Still g g n e
still_refl g n e = record { last = refl; closed = refl; primary = λ at h k. (refl, refl, refl) }

pub tail_later : (g h : Ground) → Later g h → (e from l : ℕ) (groups : List Group) → FineTail g e from l groups → FineTail h e from l groups
tail_later g h later e from l groups t = record {
  sealed = later.sealed e l t.sealed;
  before = t.before;
  begins = begins_trans t.begins (later.script e);
  start = t.start;
  end = t.end;
}

append_later : (g h : Ground) → Later g h → (from : ActorId) (b : AppendBody) → FineAppend g from b → FineAppend h from b
append_later g h later from (Put e offset group) f = (stands_on (later.script e) f.0, f.1)
append_later g h later from (Have e l) f = λ n i. omega (arith, f n i, later.last n e)
append_later g h later from b f = tt

seal_later : (g h : Ground) → Later g h → (from : ActorId) (b : SealBody) → FineSeal g from b → FineSeal h from b
seal_later g h later from (seals.Make e fence target places) f = (later.places e places f.0, later.born e places f.0 ∙ f.1)
seal_later g h later from (seals.Frozen e l) f = λ n i. let c = later.closed n e (f n i).0 in (c.0, c.1 ∙ (f n i).1)
seal_later g h later from (seals.Seal e l) f = later.sealed e l f
seal_later g h later from (seals.Tail e start l groups) f = tail_later g h later e start l groups f
seal_later g h later from b f = tt

pub cover_later : (g h : Ground) → Later g h → (e k l : ℕ) → FineCover g e k l → FineCover h e k l
cover_later g h later e k l f =
    let b = later.script e in
    let (news, origins, newer) = later.origin e in
    record {
      front = f.front;
      back = f.back ++ b.rest;
      olds = f.olds;
      news = f.news ++ news;
      split = rw (b.is, f.split, append_assoc) refl;
      origins = rw (origins, f.origins, append_assoc) refl;
      same = f.same;
      end = f.end;
      newer = each-append (λ x. k ≤ x.generation) f.news news f.newer
          (each-weaker (λ x. g.fence e ≤ x.generation) (λ x. k ≤ x.generation) (λ x m. omega (arith, m, f.fenced)) news newer);
      fenced = omega (arith, f.fenced, later.fence e);
      places = f.places;
      made = later.places e f.places f.made;
      had = (
        omega (arith, f.had.0, later.last f.places.primary e),
        omega (arith, f.had.1, later.last f.places.second e),
        omega (arith, f.had.2, later.last f.places.third e),
      );
    }

pub checked_later : (g h : Ground) → Later g h → (from to : ActorId) (q : ReqNo) (l : ℕ) → FineChecked g from to q l → FineChecked h from to q l
checked_later g h later from to q l f = record {
  node = f.node;
  answers = f.answers;
  extent = f.extent;
  generation = f.generation;
  asked = later.asked (packet to from (bodies.Check (Check f.extent f.generation q))) f.asked;
  covers = cover_later g h later f.extent (generation_of to f.generation) l f.covers;
}

check_body_later : (g h : Ground) → Later g h → (from to : ActorId) (b : CheckBody) → FineCheckBody g from to b → FineCheckBody h from to b
check_body_later g h later from to (Probed e k l) f = λ n i. omega (arith, f n i, later.last n e)
check_body_later g h later from to (Checked q (Some l)) f = checked_later g h later from to q l f
check_body_later g h later from to b f = tt

body_later : (g h : Ground) → Later g h → (from to : ActorId) (b : Body) → FineBody g from to b → FineBody h from to b
body_later g h later from to (bodies.Append b) f = append_later g h later from b f
body_later g h later from to (bodies.Check b) f = check_body_later g h later from to b f
body_later g h later from to (bodies.Seal b) f = seal_later g h later from b f
body_later g h later from to b f = tt

pub packet_later : (g h : Ground) → Later g h → (p : Packet) → FinePacket g p → FinePacket h p
packet_later g h later p f = body_later g h later p.from p.to p.body f

pub note_later : (g h : Ground) → Later g h → (x : Note) → FineNote g x → FineNote h x
note_later g h later (Acked e o group) f =
    record { stands = stands_on (later.script e) f.stands; some = f.some; within = omega (arith, f.within, later.acked e) }
note_later g h later (SealedAt e l) f = later.sealed e l f
note_later g h later (Content e n groups) f =
    record { begins = begins_trans f.begins (later.script e); sealed = later.sealed e (text_length groups) f.sealed }
note_later g h later (Seen e n o bytes) f =
    let b = later.script e in
    rw (b.is, text-append) (shows_on f (text b.rest))
note_later g h later x f = tt

phase_later : (g h : Ground) → Later g h → (n e : ℕ) → Still g h n e → (r : Replica) → h.places e ≡ Some r.content.places →
    (phase : Phase) → FinePhase g n e r.content.places r.content.groups phase → FinePhase h n e r.content.places r.content.groups phase
phase_later g h later n e still r made phases.Open f =
    (still.closed ∙ f.0, still.last ∙ f.1, λ i. (still.primary r.content.places made i).0 ∙ f.2 i)
phase_later g h later n e still r made phases.Frozen f = (still.closed ∙ f.0, still.last ∙ f.1)
phase_later g h later n e still r made phases.Sealed f = (still.closed ∙ f.0, later.sealed e (text_length r.content.groups) f.1)

at_most_later : (x y : ℕ) → x ≤ y → (o : Option ℕ) → AtMost x o → AtMost y o
at_most_later x y l None f = tt
at_most_later x y l (Some k) f = omega (arith, l, f)

pub check_later : (g h : Ground) → Later g h → (n e : ℕ) (places : Nodes) (fence : ℕ) → (n ≡ places.primary → h.fence e ≡ g.fence e) →
    h.born e ≡ g.born e → (o : Option Checking) →
    FineCheck g n e places fence o → FineCheck h n e places fence o
check_later g h later n e places fence same born None f = tt
check_later g h later n e places fence same born (Some c) f = record {
  primary = f.primary;
  fenced = f.fenced;
  above = let s = same f.primary in omega (arith, s, f.above);
  newer = omega (arith, born, f.newer);
  second = at_most_later _ _ (later.last places.second e) c.second f.second;
  third = at_most_later _ _ (later.last places.third e) c.third f.third;
  generation = f.generation;
  counted = f.counted;
  asked = later.asked (packet c.asker (Node n) (bodies.Check (Check e f.generation c.request))) f.asked;
}

pub waiting_later : (g h : Ground) → Later g h → (n e : ℕ) (w : WaitingAppend) → FineWaiting g n e w → FineWaiting h n e w
waiting_later g h later n e w f =
    let b = later.script e in
    let (news, origins, newer) = later.origin e in
    record {
      generation = f.generation;
      asked = later.asked _ f.asked;
      index = f.index;
      from = f.from;
      is = rw b.is (get_left (g.script e) b.rest f.index w.group f.is);
      start = rw (b.is, take_left (g.script e) b.rest f.index w.group f.is) f.start;
      appended = rw origins (get_left (g.origin e) news f.index f.from f.appended);
      counted = f.counted;
      number = f.number;
    }

-- under the same generation
pub waiting_generation : (g h : Ground) (later : Later g h) (n e : ℕ) (w : WaitingAppend) (f : FineWaiting g n e w) →
    (waiting_later g h later n e w f).generation ≡ f.generation
unfolding waiting_later
waiting_generation g h later n e w f = refl

pub waits_later : (g h : Ground) → Later g h → (n e : ℕ) (ws : List WaitingAppend) → Each (FineWaiting g n e) ws → Each (FineWaiting h n e) ws
waits_later g h later n e ws f = each-weaker (FineWaiting g n e) (FineWaiting h n e) (waiting_later g h later n e) ws f

none_script : (g : Ground) → Sound g → (n e : ℕ) → FineNone g n e → (at : Nodes) → n ≡ at.primary →
    (o : Option Nodes) → g.places e ≡ o → ((b : Nodes) → o ≡ Some b → b ≡ at) → (g.script e ≡ []) × (g.fence e ≡ 0)
none_script g sound n e f at i None is same = ((sound.unmade e is).0, (sound.unmade e is).2)
none_script g sound n e f at i (Some b) is same = f.script b is (i ∙ ap (λ (x : Nodes). x.primary) (sym (same b refl)))

pub replica_later : (g h : Ground) → Sound g → Later g h → (n e : ℕ) → Still g h n e → (s : Option Replica) → FineReplica g n e s → FineReplica h n e s
replica_later g h sound later n e still None f = record {
  last = still.last ∙ f.last;
  closed = still.closed ∙ f.closed;
  script = λ at made i.
      let none = none_script g sound n e f at i (g.places e) refl
      (λ b is. let m : h.places e ≡ Some b = later.places e b is in let k : Some b ≡ Some at = sym m ∙ made in cc) in
      let same = still.primary at made i in
      (same.0 ∙ none.0, same.2 ∙ none.1);
}
replica_later g h sound later n e still (Some r) f =
    let made : h.places e ≡ Some r.content.places = later.places e r.content.places f.places in
    record {
      places = made;
      begins = begins_trans f.begins (later.script e);
      phase = phase_later g h later n e still r made r.content.phase f.phase;
      second_has = omega (arith, f.second_has, later.last r.content.places.second e);
      third_has = omega (arith, f.third_has, later.last r.content.places.third e);
      waiting = λ i. let k = still.primary r.content.places made i in rw (k.0, k.1) (f.waiting i);
      waits = waits_later g h later n e r.waiting f.waits;
      target = f.target;
      fence = λ i. let k = still.primary r.content.places made i in omega (arith, k.2, f.fence i);
      born = rw (later.born e r.content.places f.places) f.born;
      check = check_later g h later n e r.content.places r.content.fence (λ i. (still.primary r.content.places made i).2) (later.born e r.content.places f.places) r.check f.check;
    }
