-- What is seen of a range that is served, and steps one after the other.
use Rattle.std.proofs.Common.{◌≡◌, ℕ, suc, ◌==◌, true, List, [], ◌∷◌, ◌++◌, map, Option, Some, None, if◌then◌else◌, refl, sym, ap, ◌∙◌, subst, inl, inr, arith, append_assoc}
use Rattle.std.proofs.lemmas.Bool.Decides.{nat_tests}
use Rattle.wire.specs.declared.note.Note.{Note}
use Rattle.wire.specs.declared.note.Note.TheVariants.{Began, Done}
use Rattle.wire.specs.declared.packet.Packet.{Packet}
use Rattle.client.specs.Client.{ClientState}
use Rattle.commitlog.specs.Replay.{Numbered}
use Rattle.model_partition.specs.declared.stage.Stage.{Stage}
use Rattle.model_partition.specs.declared.stage.Stage.TheVariants as stages
use Rattle.model_partition.specs.declared.table_note.TableNote.{TableNote}
use Rattle.model_partition.specs.declared.waiting.WaitingTransaction.{WaitingTransaction}
use Rattle.model_partition.specs.Past.{Bytes, Transaction}
use Rattle.model_histories.specs.Log.{begins_of, dones_of, dones_at, without_gots}
use Rattle.model_histories.specs.Story.{Made, event_at}
use Rattle.model_partition.specs.Range.{RangeState, RangeOutcome, is_serving}
use Rattle.model_partition.specs.Serving.{began, dones, after_these}
use Rattle.model_histories.specs.StreamActions.{StreamAction}
use Rattle.model_histories.specs.ServedTables.{AreSeenAs}
use Rattle.laws_loads.specs.Sound.{IsSound}
use Rattle.laws_loads.specs.RangeView.{RangeView, view_after, view_after_all}
use Rattle.laws_tables.specs.Runs as chains
use Rattle.laws_tables.specs.Runs.{Run, first_beginning, held, seen}
use Rattle.laws_tables.proofs.WithoutGots.{without-append}
use Rattle.laws_checkpoints.specs.ShownTables.{HoldsBytes}
use Rattle.laws_server_runs.specs.RangeInvariant.{Matches, Serves, PhaseIs, StageIs, RangeKept, StreamsKept, AreObserved, GoesOn, Rests, Adds, KeptIf, ServesAnew, StepKept}

-- a number is itself
pub same_here : (g : ℕ) → {A : Type 0} (a b : A) → (if g == g then a else b) ≡ a
same_here g a b = ap (λ t. if t then a else b) (test g)
  where
    test : (k : ℕ) → (k == k) ≡ true
    test k = grind (arith, nat_tests)

module _ (texts : ℕ → Bytes) (subject : ℕ) where
  -- ---- observations

  pub begun_seen : (g s : ℕ) (ts : List WaitingTransaction) (later : List Note) → AreSeenAs texts (began subject g s ts) later → later ≡ begins_of subject g s (map (λ t. t.changes) ts)
  begun_seen g s [] [] seen = refl
  begun_seen g s [] (n ∷ later) seen = absurd seen
  begun_seen g s (t ∷ ts) [] seen = absurd seen
  begun_seen g s (t ∷ ts) (n ∷ later) seen = ap (λ z. z ∷ later) seen.0 ∙ ap (λ l. Began subject g s t.changes ∷ l) (begun_seen g (suc s) ts later seen.1)

  pub dones_seen : (g s : ℕ) (ts : List WaitingTransaction) (later : List Note) → AreSeenAs texts (dones subject g s ts) later → later ≡ dones_of subject g s (map (λ t. t.changes) ts)
  dones_seen g s [] [] seen = refl
  dones_seen g s [] (n ∷ later) seen = absurd seen
  dones_seen g s (t ∷ ts) [] seen = absurd seen
  dones_seen g s (t ∷ ts) (n ∷ later) seen = ap (λ z. z ∷ later) seen.0 ∙ ap (λ l. Done subject g s ∷ l) (dones_seen g (suc s) ts later seen.1)

  -- one list after another
  abbrev Parts : List TableNote → List TableNote → List Note → Type 0
  Parts xs ys later = (a : List Note) × (b : List Note) × (later ≡ a ++ b) × AreSeenAs texts xs a × AreSeenAs texts ys b

  seen_parts : (xs ys : List TableNote) (later : List Note) → AreSeenAs texts (xs ++ ys) later → Parts xs ys later
  seen_parts [] ys later seen = ([], later, refl, tt, seen)
  seen_parts (x ∷ xs) ys [] seen = absurd seen
  seen_parts (x ∷ xs) ys (n ∷ later) seen =
      let p : Parts xs ys later = seen_parts xs ys later seen.1 in
      (n ∷ p.0, p.1, ap (λ l. n ∷ l) p.2, (seen.0, p.3), p.4)

  -- a group that is formed
  pub observed_formed : (run : Run) (g : ℕ) (group : Numbered Transaction) (before : List Note) → AreObserved texts subject run before →
      AreObserved texts subject (chains.Forms g group ∷ run) (before ++ begins_of subject g group.first group.items)
  observed_formed run g group before is = (is.0, is.1, ap (λ l. l ++ begins_of subject g group.first group.items) is.2)

  -- one that is answered
  pub observed_logged : (run : Run) (append from to g : ℕ) (group : Numbered Transaction) (before : List Note) → event_at (chains.log_of run) append ≡ Some (Made g group) →
      AreObserved texts subject run before → AreObserved texts subject (chains.Logged g append from to ∷ run) (before ++ dones_of subject g group.first group.items)
  observed_logged run append from to g group before made is = (
    is.0,
    is.1,
    ap (λ l. l ++ dones_of subject g group.first group.items) is.2 ∙ ap (λ e. seen first_beginning is.0 subject run ++ dones_at subject e) (sym made),
  )

  -- ---- a range that is served

  served_stage : (run : Run) (v : RangeView) (r : RangeState) (stage : Stage) → is_serving stage ≡ true → (StageIs texts run v r stage → Serves texts run v r) × (Serves texts run v r → StageIs texts run v r stage)
  served_stage run v r stages.Serving e = (λ z. z, λ z. z)
  served_stage run v r stage e = absurd cc

  pub serves_of : (run : Run) (v : RangeView) (r : RangeState) → is_serving r.stage ≡ true → RangeKept texts subject run v r → Serves texts run v r
  serves_of run v r serving k = (served_stage run v r r.stage serving).0 k.stage

  -- it keeps what it keeps where it is served still
  pub kept_served : (run later : Run) (v v' : RangeView) (r r' : RangeState) → RangeKept texts subject run v r → is_serving r.stage ≡ true → r'.stage ≡ r.stage → r'.load ≡ r.load → r'.held ≡ r.held → IsSound r' → Serves texts later v' r' →
      RangeKept texts subject later v' r'
  kept_served run later v v' r r' k serving stage load held sound serves = record {
    range = ap (λ l. l.range) load ∙ k.range;
    phase = subst (λ s. PhaseIs texts s r'.load.phase) (sym stage) (subst (λ l. PhaseIs texts r.stage l.phase) (sym load) k.phase);
    sound = sound;
    stage = (served_stage later v' r' r'.stage (ap is_serving stage ∙ serving)).1 serves;
    held = subst (HoldsBytes texts) (sym held) k.held;
  }

  -- the log's client and the queue tell nothing of the log
  pub serves_with : (run : Run) (v : RangeView) (r : RangeState) (c : ClientState) (queue : List WaitingTransaction) → Serves texts run v r → Serves texts run v (record r { log = c; queue = queue })
  serves_with run v r c queue k =
      let m : Matches texts v (held first_beginning run r.load.generation) r = k.matches in
      record {
        shown = k.shown;
        matches = record {
          position = m.position;
          next = m.next;
          out = m.out;
          live = m.live;
          checkpoint = m.checkpoint;
          said = m.said;
          installed = m.installed;
          ordered = m.ordered;
          named = m.named;
          rows = m.rows;
          reads = m.reads;
          beside = m.beside;
          metadata = m.metadata;
        };
      }

  pub anew_served : (run : Run) (r : RangeState) (o : Option RangeState) → is_serving r.stage ≡ true → ServesAnew texts run r o
  anew_served run r None serving = tt
  anew_served run r (Some next) serving = λ s. inl serving

  -- ---- steps

  pub goes_both : (g : ℕ) (run mid later : Run) → GoesOn g run mid → GoesOn g mid later → GoesOn g run later
  goes_both g run mid later one Rests = one
  goes_both g run mid later one (Adds e earlier on under) = Adds e earlier (goes_both g run mid earlier one on) under

  pub view_both : (g : ℕ) (v : RangeView) (xs ys : List StreamAction) → view_after_all g v (xs ++ ys) ≡ view_after_all g (view_after_all g v ys) xs
  view_both g v [] ys = refl
  view_both g v (x ∷ xs) ys = ap (λ w. view_after g w x) (view_both g v xs ys)

  -- one step after another
  pub then_kept : (run : Run) (v : RangeView) (r r1 : RangeState) (xs ys : List StreamAction) (packets : List Packet) (o1 o2 : RangeOutcome) → is_serving r.stage ≡ true → r1.load.generation ≡ r.load.generation →
      (s1 : StepKept texts subject run v r xs o1) → StepKept texts subject s1.next (view_after_all r.load.generation v xs) r1 ys o2 → StepKept texts subject run v r (ys ++ xs) (after_these packets o1.notes o2)
  then_kept run v r r1 xs ys packets o1 o2 serving same s1 s2 =
      let g : ℕ = r.load.generation in
      let mid : RangeView = view_after_all g v xs in
      let last : RangeView = view_after_all r1.load.generation mid ys in
      let whole : last ≡ view_after_all g v (ys ++ xs) = ap (λ k. view_after_all k mid ys) same ∙ sym (view_both g v ys xs) in
      record {
        next = s2.next;
        goes = goes_both g run s1.next s2.next s1.goes (subst (λ k. GoesOn k s1.next s2.next) same s2.goes);
        alone = inr (inl serving);
        kept = subst (λ w. KeptIf texts subject s2.next w g o2.after) whole (subst (λ k. KeptIf texts subject s2.next last k o2.after) same s2.kept);
        streams = subst (StreamsKept texts s2.next) whole s2.streams;
        longer = (
          s2.longer.0 ++ s1.longer.0,
          ap (λ (w : RangeView). w.answered) (sym whole) ∙ s2.longer.1 ∙ ap (λ l. s2.longer.0 ++ l) s1.longer.1 ∙ sym (append_assoc s2.longer.0 s1.longer.0 v.answered),
        );
        anew = anew_served run r o2.after serving;
        seen = λ before later is seen.
            let p : Parts o1.notes o2.notes later = seen_parts o1.notes o2.notes later seen in
            subst (AreObserved texts subject s2.next)
            (append_assoc before (without_gots p.0) (without_gots p.1) ∙ ap (λ l. before ++ l) (sym (without-append p.0 p.1) ∙ ap without_gots (sym p.2)))
            (s2.seen (before ++ without_gots p.0) p.1 (s1.seen before p.0 is p.3) p.4);
      }
