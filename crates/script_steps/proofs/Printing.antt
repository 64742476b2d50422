-- What steps print and send, joined.
use Rattle.std.proofs.Common.{◌≡◌, ◌∙◌, ◌⊎◌, inl, inr, ap, append-nil, append_assoc, map, refl, subst, suc, sym, zero, ℕ, List, [], ◌∷◌, ◌++◌}
use Rattle.wire.specs.declared.packet.Packet.{Packet}
use Rattle.script_lines.specs.declared.line.Line.{Line}
use Rattle.script_lines.specs.declared.line.Line.TheVariants as lines
use Rattle.script_run.specs.Playing.{DeliversSome, IsFresh, IsSettled, most_deliveries, Plays, PlaysAll, SessionState, Settles}
use Rattle.script_run.specs.Script.{IsScript, Size, Writes}
use Rattle.model_partition.specs.Cluster.{first_cluster}
use Rattle.world.specs.Cluster.{ClusterMirrors}
use Rattle.script_steps.specs.declared.step.Step.{Step}
use Rattle.script_steps.proofs.Adding.{only_added}
use Rattle.script_steps.specs.Steps.{Adds, BeginsAnd, IsOne, Shows, StepSeen, StepsDeliverSome, StepsKept, StepsOf, StepsOfAll, StepsSettle, all_packets, all_printed, post_of, seen, seen_of}

-- ---- what is printed

printed_append : (xs ys : List StepSeen) → all_printed (xs ++ ys) ≡ all_printed xs ++ all_printed ys
printed_append [] ys = refl
printed_append (x ∷ xs) ys = ap (λ l. x.printed ++ l) (printed_append xs ys) ∙ sym (append_assoc x.printed (all_printed xs) (all_printed ys))

printed_one : (xs : List StepSeen) (x : StepSeen) → all_printed (xs ++ x ∷ []) ≡ all_printed xs ++ x.printed
printed_one xs x = printed_append xs (x ∷ []) ∙ ap (λ l. all_printed xs ++ l) (append-nil x.printed)

some_printed : (count k : ℕ) (s t : SessionState) (steps : List StepSeen) → StepsDeliverSome count k s steps t → DeliversSome count s (all_printed steps) t
some_printed zero k s t steps h = (ap all_printed h.0, h.1)
some_printed (suc count) k s t steps h =
    let one = h.4 in (
      h.0,
      all_printed h.1,
      h.2.printed,
      some_printed count k s h.0 h.1 h.3,
      record { number = one.number; noted = one.noted; lowest = one.lowest; passed = one.passed; delivers = one.delivers.1 },
      ap all_printed h.5 ∙ printed_one h.1 h.2,
    )

settle_printed : (k : ℕ) (s t : SessionState) (steps : List StepSeen) → StepsSettle k s steps t → Settles s (all_printed steps) t
settle_printed k s t steps h = record { count = h.count; few = h.few; last = h.last; delivers = some_printed h.count k s h.last steps h.deliver; ends = h.ends }

begun_printed : (k : ℕ) (s : SessionState) (steps : List StepSeen) (Are : List StepSeen → Type 0) (Prints : List ℕ → Type 0) → ((more : List StepSeen) → Are more → Prints (all_printed more))
    → BeginsAnd k s steps Are → Prints (all_printed steps)
begun_printed k s steps Are Prints printed h =
    subst Prints (sym (ap all_printed h.2 ∙ ap (λ l. l ++ all_printed h.1) h.3.1)) (printed h.1 h.4)

one_printed : (k : ℕ) (line : Line) (s t : SessionState) (steps : List StepSeen) → IsOne k line s steps t → Plays s line (all_printed steps) t
one_printed k line s t steps h = subst (λ text. Plays s line text t) (sym (ap all_printed h.1 ∙ append-nil h.0.printed)) h.3

line_printed : (k : ℕ) (line : Line) (s t : SessionState) (steps : List StepSeen) → StepsOf k line s steps t → Plays s line (all_printed steps) t
line_printed k lines.Settle s t steps h =
    begun_printed k s steps (λ more. StepsSettle k s more t) (λ text. Settles s text t) (λ more. settle_printed k s t more) h
line_printed k lines.DeliverLast s t steps h =
    begun_printed k s steps _ (λ text. Plays s lines.DeliverLast text t)
    (λ more last. subst (λ text. Plays s lines.DeliverLast text t) (sym (ap all_printed last.1 ∙ append-nil last.0.printed)) last.2.1) h
line_printed k (lines.Submit user request) s t steps h = one_printed k (lines.Submit user request) s t steps h
line_printed k (lines.Deliver n) s t steps h = one_printed k (lines.Deliver n) s t steps h
line_printed k (lines.Cut actor) s t steps h = one_printed k (lines.Cut actor) s t steps h
line_printed k (lines.Heal actor) s t steps h = one_printed k (lines.Heal actor) s t steps h
line_printed k (lines.Show node extent) s t steps h = one_printed k (lines.Show node extent) s t steps h
line_printed k (lines.Happens event) s t steps h = one_printed k (lines.Happens event) s t steps h

all_lines_printed : (k : ℕ) (plan : List Line) (s t : SessionState) (steps : List StepSeen) → StepsOfAll k plan s steps t → PlaysAll s plan (all_printed steps) t
all_lines_printed k [] s t steps h = (ap all_printed h.0, h.1)
all_lines_printed k (line ∷ more) s t steps h =
    (h.0, all_printed h.1, all_printed h.2, line_printed k line s h.0 h.1 h.3, all_lines_printed (suc k) more h.0 t h.2 h.4, ap all_printed h.5 ∙ printed_append h.1 h.2)

-- the steps of all lines were added to none
pub shows : (text : List ℕ) (x y : StepsKept) (size : Size) (plan : List Line) → IsScript text size plan → IsFresh x.session
    → ClusterMirrors x.session.run (first_cluster size.nodes size.servers size.target size.batch) → x.steps ≡ []
    → Adds x y (λ more. StepsOfAll 0 plan x.session more y.session) → Shows text y
shows text x y size plan is fresh mirrors none added = record {
  size = size;
  plan = plan;
  is = is;
  first = x.session;
  fresh = fresh;
  mirrors = mirrors;
  steps = subst (λ (l : List Step). StepsOfAll 0 plan x.session (map (seen_of (post_of y.session)) l) y.session) (sym (only_added x y _ none added)) added.are;
}

pub all_written : (text : List ℕ) (x : StepsKept) → Shows text x → Writes text (all_printed (seen x))
all_written text x h = record {
  size = h.size;
  plan = h.plan;
  is = h.is;
  first = h.first;
  fresh = h.fresh;
  mirrors = h.mirrors;
  last = x.session;
  plays = all_lines_printed 0 h.plan h.first x.session (seen x) h.steps;
}

-- ---- what is sent

packets_append : (xs ys : List StepSeen) → all_packets (xs ++ ys) ≡ all_packets xs ++ all_packets ys
packets_append [] ys = refl
packets_append (x ∷ xs) ys = ap (λ l. x.packets ++ l) (packets_append xs ys) ∙ sym (append_assoc x.packets (all_packets xs) (all_packets ys))

-- from s to t these steps sent all that came
abbrev Sends : SessionState → List StepSeen → SessionState → Type 0
Sends s steps t = post_of t ≡ post_of s ++ all_packets steps

sends_none : (s : SessionState) → Sends s [] s
sends_none s = sym (append-nil (post_of s))

sends_both : (s t u : SessionState) (one other : List StepSeen) → Sends s one t → Sends t other u → Sends s (one ++ other) u
sends_both s t u one other h g =
    g ∙ ap (λ l. l ++ all_packets other) h ∙ append_assoc (post_of s) (all_packets one) (all_packets other)
    ∙ ap (λ l. post_of s ++ l) (sym (packets_append one other))

sends_one : (s t : SessionState) (step : StepSeen) → post_of t ≡ post_of s ++ step.packets → Sends s (step ∷ []) t
sends_one s t step h = h ∙ ap (λ l. post_of s ++ l) (sym (append-nil step.packets))

some_sends : (count k : ℕ) (s t : SessionState) (steps : List StepSeen) → StepsDeliverSome count k s steps t → Sends s steps t
some_sends zero k s t steps h = subst (λ (l : List StepSeen). Sends s l t) (sym h.0) (subst (λ (r : SessionState). Sends s [] r) (sym h.1) (sends_none s))
some_sends (suc count) k s t steps h =
    subst (λ (l : List StepSeen). Sends s l t) (sym h.5)
    (sends_both s h.0 t h.1 (h.2 ∷ []) (some_sends count k s h.0 h.1 h.3) (sends_one h.0 t h.2 h.4.delivers.0.sends))

settle_sends : (k : ℕ) (s t : SessionState) (steps : List StepSeen) → StepsSettle k s steps t → Sends s steps t
settle_sends k s t steps h = by_end h.ends
  where
    some : Sends s steps h.last
    some = some_sends h.count k s h.last steps h.deliver

    by_end : ((h.count ≡ most_deliveries) × (t ≡ h.last)) ⊎ IsSettled h.last t → Sends s steps t
    by_end (inl e) = subst (λ (r : SessionState). Sends s steps r) (sym e.1) some
    by_end (inr e) = ap post_of e.is ∙ some

begun_sends : (k : ℕ) (s t : SessionState) (steps : List StepSeen) (Are : List StepSeen → Type 0) → ((more : List StepSeen) → Are more → Sends s more t) → BeginsAnd k s steps Are → Sends s steps t
begun_sends k s t steps Are sends h =
    subst (λ (l : List StepSeen). Sends s l t) (sym h.2) (sends_both s s t (h.0 ∷ []) h.1 (sends_one s s h.0 h.3.0.sends) (sends h.1 h.4))

one_sends : (k : ℕ) (line : Line) (s t : SessionState) (steps : List StepSeen) → IsOne k line s steps t → Sends s steps t
one_sends k line s t steps h = subst (λ (l : List StepSeen). Sends s l t) (sym h.1) (sends_one s t h.0 h.2.sends)

line_sends : (k : ℕ) (line : Line) (s t : SessionState) (steps : List StepSeen) → StepsOf k line s steps t → Sends s steps t
line_sends k lines.Settle s t steps h = begun_sends k s t steps (λ more. StepsSettle k s more t) (λ more. settle_sends k s t more) h
line_sends k lines.DeliverLast s t steps h =
    begun_sends k s t steps _ (λ more last. subst (λ (l : List StepSeen). Sends s l t) (sym last.1) (sends_one s t last.0 last.2.0.sends)) h
line_sends k (lines.Submit user request) s t steps h = one_sends k (lines.Submit user request) s t steps h
line_sends k (lines.Deliver n) s t steps h = one_sends k (lines.Deliver n) s t steps h
line_sends k (lines.Cut actor) s t steps h = one_sends k (lines.Cut actor) s t steps h
line_sends k (lines.Heal actor) s t steps h = one_sends k (lines.Heal actor) s t steps h
line_sends k (lines.Show node extent) s t steps h = one_sends k (lines.Show node extent) s t steps h
line_sends k (lines.Happens event) s t steps h = one_sends k (lines.Happens event) s t steps h

all_lines_send : (k : ℕ) (plan : List Line) (s t : SessionState) (steps : List StepSeen) → StepsOfAll k plan s steps t → Sends s steps t
all_lines_send k [] s t steps h = subst (λ (l : List StepSeen). Sends s l t) (sym h.0) (subst (λ (r : SessionState). Sends s [] r) (sym h.1) (sends_none s))
all_lines_send k (line ∷ more) s t steps h =
    subst (λ (l : List StepSeen). Sends s l t) (sym h.5)
    (sends_both s h.0 t h.1 h.2 (line_sends k line s h.0 h.1 h.3) (all_lines_send (suc k) more h.0 t h.2 h.4))

pub all_sent : (text : List ℕ) (x : StepsKept) → Shows text x → all_packets (seen x) ≡ post_of x.session
all_sent text x h = ap (λ (l : List Packet). l ++ all_packets (seen x)) (sym h.mirrors.stream_layer.post) ∙ sym (all_lines_send 0 h.plan h.first x.session (seen x) h.steps)
