-- Lines that are played in turn, and packets that a settle delivers in turn.
use Rattle.std.proofs.Common.{◌≡◌, ◌∙◌, ap, refl, sym, subst, inl, inr, arith, ℕ, suc, ◌+◌, ◌<◌, ◌≤◌, Bool, List, [], ◌∷◌, ◌++◌, drop, length, Option, None, Some, append-nil, append_assoc, add-one}
use Rattle.std.proofs.Math.Seq.{drop-length}
use Rattle.std.proofs.lemmas.Option.{slice_get_past, slice_get_read}
use Rattle.std.specs.List.{slice_get, slice_index_or}
use Rattle.std.specs.Io.KnownBytes.{Appends}
use Rattle.wire.specs.declared.actor.ReqNo.TheVariants.{User}
use Rattle.wire.specs.declared.actor.ActorId.{ActorId}
use Rattle.wire.specs.declared.actor.ActorId.TheVariants as actors
use Rattle.wire.specs.declared.body.Body.{Body}
use Rattle.wire.specs.declared.note.Note.{Note}
use Rattle.wire.specs.declared.packet.Packet.{Packet}
use Rattle.model_streams.specs.declared.event.Event.{Event}
use Rattle.model_streams.specs.declared.event.Event.TheVariants.{Deliver, Submit}
use Rattle.world_streams.specs.Nodes.{running_at}
use Rattle.script_reports.specs.declared.report.Report.{Report}
use Rattle.script_reports.specs.Reports.{report_text}
use Rattle.script_reports.specs.Telling.{told_to}
use Rattle.script_lines.specs.declared.line.Line.{Line}
use Rattle.script_lines.specs.declared.line.Line.TheVariants.{Show}
use Rattle.script_lines.specs.declared.line.Request.{Request}
use Rattle.script_lines.specs.Asking.{asked}
use Rattle.world.specs.Cluster.{ClusterSimulates, ClusterState}
use Rattle.script_run.specs.Deliveries.{Delivered, IsLowest, Passed}
use Rattle.script_run.specs.Output.{Prints, PrintsEvent, line, lines_of_notes, node_report}
use Rattle.script_run.specs.Playing.{Delivers, DeliversIf, DeliversLowest, DeliversPacket, DeliversSome, Happens, IsSettled, Plays, PlaysAll, Settles, SessionState, Submits, most_deliveries}
use Rattle.script_run.specs.Tickets.{Takes}
use Rattle.script_run.proofs.Texts.{appends_both, appends_nothing}

pub prints_nothing : (a : Option (List ℕ)) (IsText : List ℕ → Type 0) → IsText [] → Prints a a IsText
prints_nothing a IsText is = ([], is, appends_nothing a)

-- what two print one after the other
pub prints_both : (a b c : Option (List ℕ)) (P Q R : List ℕ → Type 0) → ((first last : List ℕ) → P first → Q last → R (first ++ last)) → Prints a b P → Prints b c Q → Prints a c R
prints_both a b c P Q R joins one other = (one.0 ++ other.0, joins one.0 other.0 one.1 other.1, appends_both a b c one.0 other.0 one.2 other.2)

plays_push : (s t u : SessionState) (lines : List Line) (line : Line) (first last : List ℕ) → PlaysAll s lines first t → Plays t line last u → PlaysAll s (lines ++ line ∷ []) (first ++ last) u
plays_push s t u [] line first last all one =
    (u, last, [], subst (λ (r : SessionState). Plays r line last u) all.1 one, (refl, refl), ap (λ l. l ++ last) all.0 ∙ sym (append-nil last))
plays_push s t u (x ∷ lines) line first last all one =
    (all.0, all.1, all.2 ++ last, all.3, plays_push all.0 t u lines line all.2 last all.4 one, ap (λ l. l ++ last) all.5 ∙ append_assoc all.1 all.2 last)

pub plays_next : (a b c : Option (List ℕ)) (s t u : SessionState) (lines : List Line) (line : Line)
    → Prints a b (λ text. PlaysAll s lines text t) → Prints b c (λ text. Plays t line text u) → Prints a c (λ text. PlaysAll s (lines ++ line ∷ []) text u)
plays_next a b c s t u lines line before now =
    prints_both a b c (λ text. PlaysAll s lines text t) (λ text. Plays t line text u) (λ text. PlaysAll s (lines ++ line ∷ []) text u)
    (λ first last all one. plays_push s t u lines line first last all one)
    before now

pub delivers_next : (a b c : Option (List ℕ)) (s t u : SessionState) (n : ℕ)
    → Prints a b (λ text. DeliversSome n s text t) → Prints b c (λ text. DeliversLowest t text u) → Prints a c (λ text. DeliversSome (n + 1) s text u)
delivers_next a b c s t u n before now =
    subst (λ (m : ℕ). Prints a c (λ text. DeliversSome m s text u)) (sym (add-one n))
    (prints_both a b c (λ text. DeliversSome n s text t) (λ text. DeliversLowest t text u) (λ text. DeliversSome (suc n) s text u)
    (λ first last some one. (t, first, last, some, one, refl))
    before now)

-- a settle that has delivered the most
pub settled_at_last : (a b : Option (List ℕ)) (s t : SessionState) (n : ℕ) → n ≤ most_deliveries → most_deliveries ≤ n
    → Prints a b (λ text. DeliversSome n s text t) → Prints a b (λ text. Settles s text t)
settled_at_last a b s t n few whole some =
    let all : n ≡ most_deliveries = omega arith in
    (some.0, record { count = n; few = few; last = t; delivers = some.1; ends = inl (all, refl) }, some.2)

-- a settle that finds none left
pub settled_before : (a b : Option (List ℕ)) (s t u : SessionState) (n : ℕ) → n ≤ most_deliveries → Prints a b (λ text. DeliversSome n s text t) → IsSettled t u
    → Prints a b (λ text. Settles s text u)
settled_before a b s t u n few some settled = (some.0, record { count = n; few = few; last = t; delivers = some.1; ends = inr settled }, some.2)

-- a packet that is noted, and whose event happens
pub passed_on : (a b : Option (List ℕ)) (s r t : SessionState) (n : ℕ) → Delivered s.noted n r.noted → r ≡ record s { noted = r.noted }
    → Prints a b (λ text. Happens r (Deliver n) text t) → Prints a b (λ text. DeliversPacket s n None text t)
passed_on a b s r t n noted same happens =
    let h = subst (λ (x : SessionState). Happens x (Deliver n) happens.0 t) same happens.1 in
    let kept = ap (λ (x : SessionState). x.noted) h.is in (
      happens.0,
      record {
        noted = subst (λ (m : List Bool). Delivered s.noted n m) (sym kept) noted;
        shown = happens.0;
        tells = h.tells;
        prints = sym (append-nil happens.0);
        is = h.is ∙ ap (λ (m : List Bool). record s { run = t.run; noted = m }) (sym kept);
      },
      happens.2,
    )

-- and whose answer is printed
pub handed_over : (a b c : Option (List ℕ)) (s t u : SessionState) (n : ℕ) (answer : Option Report)
    → Prints a b (λ text. DeliversPacket s n None text t) → u ≡ t → Appends b c (line answer) → Prints a c (λ text. DeliversPacket s n answer text u)
handed_over a b c s t u n answer passed stays told =
    let d = subst (λ (x : SessionState). DeliversPacket s n None passed.0 x) (sym stays) passed.1 in (
      d.shown ++ line answer,
      record { noted = d.noted; shown = d.shown; tells = d.tells; prints = refl; is = d.is },
      appends_both a b c d.shown (line answer) (subst (λ (text : List ℕ). Appends a b text) (d.prints ∙ append-nil d.shown) passed.2) told,
    )

-- a packet to anyone but a user brings no answer
pub tells_nobody : (to : ActorId) (body : Body) → ((user : ℕ) → to ≡ actors.User user → ⊥) → None ≡ told_to to body
tells_nobody (actors.Node n) body other = refl
tells_nobody actors.Manager body other = refl
tells_nobody actors.Map body other = refl
tells_nobody (actors.Server s) body other = refl
tells_nobody (actors.User u) body other = absurd (other u refl)

-- a number that was never sent
pub never_sent : (a : Option (List ℕ)) (s : SessionState) (n : ℕ) → length s.run.stream_layer.post ≤ n → Prints a a (λ text. Delivers s n text s)
never_sent a s n past =
    subst (λ (o : Option Packet). Prints a a (λ text. DeliversIf s n o text s)) (sym (slice_get_past s.run.stream_layer.post n past))
    (prints_nothing a (λ text. (text ≡ []) × (s ≡ s)) (refl, refl))

-- a number that was sent: its packet is delivered, and brings its answer
pub sent_before : (a b : Option (List ℕ)) (s t : SessionState) (n : ℕ) (post : List Packet) (p : Packet) (answer : Option Report) → post ≡ s.run.stream_layer.post → n < length post
    → p ≡ slice_index_or post n p → answer ≡ told_to p.to p.body → Prints a b (λ text. DeliversPacket s n answer text t) → Prints a b (λ text. Delivers s n text t)
sent_before a b s t n post p answer is within here told one =
    let found : slice_get s.run.stream_layer.post n ≡ Some p = ap (λ (l : List Packet). slice_get l n) (sym is) ∙ slice_get_read post (length post) n p refl within here in
    subst (λ (o : Option Packet). Prints a b (λ text. DeliversIf s n o text t)) (sym found)
    (subst (λ (r : Option Report). Prints a b (λ text. DeliversPacket s n r text t)) told one)

-- a request of a user, which prints nothing
pub sends : (x y : ClusterState) (user : ℕ) (to : ActorId) (body : Body) → ClusterSimulates x y (Submit user to body) → y.stream_layer.notes ≡ x.stream_layer.notes
    → PrintsEvent x (Submit user to body) [] y
sends x y user to body came same = record {
  came = came;
  is = sym (ap (λ (l : List Note). lines_of_notes (drop (length x.stream_layer.notes) l)) same ∙ ap lines_of_notes (drop-length x.stream_layer.notes));
}

-- a request that a user sends under its next ticket
pub submitted : (s v : SessionState) (user ticket : ℕ) (request : Request) (event : Event) (tickets : List (ℕ × ℕ)) (run : ClusterState)
    → v ≡ s → Takes v.tickets user ticket tickets → event ≡ asked user (User user ticket) request → PrintsEvent v.run event [] run
    → Submits s user request [] (record v { run = run; tickets = tickets })
submitted s v user ticket request event tickets run same takes is told =
    subst (λ (x : SessionState). Submits x user request [] (record v { run = run; tickets = tickets })) same
    (record { ticket = ticket; takes = takes; tells = subst (λ (e : Event). PrintsEvent v.run e [] run) is told; is = refl })

-- what a line prints, by what the line is
pub plays_as : (a b : Option (List ℕ)) (s t : SessionState) (line other : Line) → line ≡ other → Prints a b (λ text. Plays s other text t) → Prints a b (λ text. Plays s line text t)
plays_as a b s t line other is one = subst (λ (l : Line). Prints a b (λ text. Plays s l text t)) (sym is) one

-- a line that prints nothing
pub plays_nothing : (a : Option (List ℕ)) (s t : SessionState) (line other : Line) → line ≡ other → Plays s other [] t → Prints a a (λ text. Plays s line text t)
plays_nothing a s t line other is one = plays_as a a s t line other is (prints_nothing a (λ text. Plays s other text t) one)

-- a line that shows what a node has
pub shows : (a b : Option (List ℕ)) (s v t : SessionState) (line : Line) (node extent : ℕ) (report : Report) → line ≡ Show node extent → v ≡ s → t ≡ s
    → report ≡ node_report node extent (running_at v.run.stream_layer.nodes node) → Appends a b (report_text report ++ 10 ∷ []) → Prints a b (λ text. Plays s line text t)
shows a b s v t line node extent report is same stays told one =
    let seen = told ∙ ap (λ (x : SessionState). node_report node extent (running_at x.run.stream_layer.nodes node)) same in
    plays_as a b s t line (Show node extent) is (report_text report ++ 10 ∷ [], (ap (λ (r : Report). report_text r ++ 10 ∷ []) seen, stays), one)

-- the lowest packet, which is delivered once those below it were passed over
pub lowest_delivered : (a b : Option (List ℕ)) (s r t : SessionState) (n : ℕ) → IsLowest s.cut s.run.stream_layer.post s.noted n × Passed s.noted n r.noted → r ≡ record s { noted = r.noted }
    → Prints a b (λ text. Delivers r n text t) → Prints a b (λ text. DeliversLowest s text t)
lowest_delivered a b s r t n found same delivers = (
  delivers.0,
  record {
    number = n;
    noted = r.noted;
    lowest = found.0;
    passed = found.1;
    delivers = subst (λ (x : SessionState). Delivers x n delivers.0 t) same delivers.1;
  },
  delivers.2,
)
