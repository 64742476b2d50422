-- What turns of one stream's machine add to its story, and what actions on it add to the story that servers see: the same, for a
-- stream of any kind. And actions on one stream leave the stories of the others.
use Rattle.std.proofs.Common.{◌≡◌, ℕ, zero, suc, ◌+◌, List, [], ◌∷◌, ◌++◌, length, Bool, true, false, refl, sym, ap, ◌∙◌, subst, if◌then◌else◌}
use Rattle.block_types.specs.Limits.{group_size}
use Rattle.wire.specs.declared.streams.StreamKind.{StreamKind}
use Rattle.wire.specs.declared.streams.StreamKind.TheVariants as kinds
use Rattle.streams.specs.declared.table.Position.{Position}
use Rattle.replica.specs.Groups.{Group}
use Rattle.model_histories.specs.ServerRun.{RangeHistory, is_kind, begun_at, place_number}
use Rattle.model_histories.specs.ServerTurns as turns
use Rattle.model_histories.specs.Story.{StreamEvent, Made, Answered, Story}
use Rattle.model_histories.specs.StreamActions.{StreamAction, Reads, Forms, Stands, Shows, Finds, Stores}
use Rattle.model_histories.specs.StreamMachine as machine
use Rattle.laws_loads.specs.RangeView.{RangeView, with_kind, view_after, view_after_all}
use Rattle.laws_ranges.specs.Serves.{Stand, after_turns}
use Rattle.laws_ranges.specs.Quiet.{IsQuiet, AreQuiet, AreReads}
use Rattle.laws_ranges.specs.Seen.{BeganAt, SeesStory, AreOf, AreSeenOf}
use Rattle.laws_ranges.proofs.QuietTurns.{quiet_story, turns_after}

-- ---- kinds

-- an event of a stream stands in its story
event_here : (stories : StreamKind → Story Group) (kind : StreamKind) (event : StreamEvent Group) → with_kind stories kind event kind ≡ event ∷ stories kind
event_here stories kinds.Metadata event = refl
event_here stories kinds.Log event = refl
event_here stories kinds.RowData event = refl
event_here stories kinds.BlobData event = refl

begun_here : (h : RangeHistory) (kind : StreamKind) (event : ℕ) → (begun_at h kind event).append kind ≡ event
begun_here h kinds.Metadata event = refl
begun_here h kinds.Log event = refl
begun_here h kinds.RowData event = refl
begun_here h kinds.BlobData event = refl

-- and in no other
event_there : (stories : StreamKind → Story Group) (kind other : StreamKind) (event : StreamEvent Group) → is_kind other kind ≡ false → with_kind stories kind event other ≡ stories other
event_there stories kind other event e = ap (λ t. if t then event ∷ stories other else stories other) e

begun_there : (h : RangeHistory) (kind other : StreamKind) (event : ℕ) → is_kind other kind ≡ false → (begun_at h kind event).append other ≡ h.append other
begun_there h kind other event e = ap (λ t. if t then event else h.append other) e

-- ---- actions on one stream

pub reads_of : (kind : StreamKind) (actions : List StreamAction) → AreReads actions → AreOf kind actions
reads_of kind [] q = tt
reads_of kind (Reads k read ∷ earlier) q = (tt, reads_of kind earlier q.1)
reads_of kind (Finds found ∷ earlier) q = (tt, reads_of kind earlier q.1)
reads_of kind (Stores stored ∷ earlier) q = (tt, reads_of kind earlier q.1)
reads_of kind (Forms k group ∷ earlier) q = absurd q.0
reads_of kind (Stands k extent at group ∷ earlier) q = absurd q.0
reads_of kind (Shows start log_end metadata_end ∷ earlier) q = absurd q.0

pub joined_of : (kind : StreamKind) (later before : List StreamAction) → AreOf kind later → AreOf kind before → AreOf kind (later ++ before)
joined_of kind [] before a b = b
joined_of kind (action ∷ later) before a b = (a.0, joined_of kind later before a.1 b)

module _ (generation : ℕ → ℕ) (i : ℕ) where
  -- ---- actions

  pub view_joined : (v : RangeView) (later before : List StreamAction) → view_after_all (generation i) v (later ++ before) ≡ view_after_all (generation i) (view_after_all (generation i) v before) later
  view_joined v [] before = refl
  view_joined v (action ∷ later) before = ap (λ z. view_after (generation i) z action) (view_joined v later before)

  -- a stream's story, and where its append began, stay
  pub record Leaves (kind : StreamKind) (v u : RangeView) : Type 0 where
    pub story : u.story kind ≡ v.story kind
    pub append : u.history.append kind ≡ v.history.append kind

  -- actions on one stream leave the others
  pub others_leave : (kind other : StreamKind) → is_kind other kind ≡ false → (v : RangeView) (actions : List StreamAction) → AreOf kind actions → Leaves other v (view_after_all (generation i) v actions)
  others_leave kind other e v [] q = record { story = refl; append = refl }
  others_leave kind other e v (Reads k read ∷ earlier) q = let b = others_leave kind other e v earlier q.1 in record { story = b.story; append = b.append }
  others_leave kind other e v (Finds found ∷ earlier) q = let b = others_leave kind other e v earlier q.1 in record { story = b.story; append = b.append }
  others_leave kind other e v (Stores stored ∷ earlier) q = let b = others_leave kind other e v earlier q.1 in record { story = b.story; append = b.append }
  others_leave kind other e v (Forms k group ∷ earlier) q =
      let b = others_leave kind other e v earlier q.1 in
      let apart : is_kind other k ≡ false = ap (λ z. is_kind other z) q.0 ∙ e in
      record {
        story = event_there (view_after_all (generation i) v earlier).story k other (Made (generation i) group) apart ∙ b.story;
        append = begun_there (view_after_all (generation i) v earlier).history k other (length ((view_after_all (generation i) v earlier).story k)) apart ∙ b.append;
      }
  others_leave kind other e v (Stands k extent at group ∷ earlier) q =
      let b = others_leave kind other e v earlier q.1 in
      let u : RangeView = view_after_all (generation i) v earlier in
      record {
        story = event_there u.story k other (Answered (u.history.append k) (place_number at) (place_number at + group_size group)) (ap (λ z. is_kind other z) q.0 ∙ e) ∙ b.story;
        append = b.append;
      }
  others_leave kind other e v (Shows start log_end metadata_end ∷ earlier) q = absurd q.0

  -- what is read changes no story
  reads_left : (kind : StreamKind) (v : RangeView) (actions : List StreamAction) → AreReads actions → Leaves kind v (view_after_all (generation i) v actions)
  reads_left kind v [] q = record { story = refl; append = refl }
  reads_left kind v (Reads k read ∷ earlier) q = let b = reads_left kind v earlier q.1 in record { story = b.story; append = b.append }
  reads_left kind v (Finds found ∷ earlier) q = let b = reads_left kind v earlier q.1 in record { story = b.story; append = b.append }
  reads_left kind v (Stores stored ∷ earlier) q = let b = reads_left kind v earlier q.1 in record { story = b.story; append = b.append }
  reads_left kind v (Forms k group ∷ earlier) q = absurd q.0
  reads_left kind v (Stands k extent at group ∷ earlier) q = absurd q.0
  reads_left kind v (Shows start log_end metadata_end ∷ earlier) q = absurd q.0

  -- who sees a story sees it while it stays
  pub still_seen : (kind : StreamKind) (v u : RangeView) (x : Stand) → Leaves kind v u → SeesStory generation i kind v x → SeesStory generation i kind u x
  still_seen kind v u x b s = record { story = b.story ∙ s.story; append = subst (λ z. BeganAt z x.phase) (sym b.append) s.append }

  pub reads_seen_of : (kind : StreamKind) (v : RangeView) (x : Stand) (actions : List StreamAction) → AreReads actions → AreSeenOf generation i kind v x [] actions
  reads_seen_of kind v x actions q s = still_seen kind v (view_after_all (generation i) v actions) x (reads_left kind v actions q) s

  -- ---- quiet turns

  began_on : (s : machine.MachineState Group) (p : turns.Phase Group) (t : turns.Turn Group) (event : ℕ) → IsQuiet t → BeganAt event p → BeganAt event (turns.becomes Group generation s p t)
  began_on s p (turns.Forms group) event q b = absurd q
  began_on s p (turns.AppendedAt from to) event q b = absurd q
  began_on s p (turns.ConfirmedIs start end read) event q b = absurd q
  began_on s turns.Idle turns.Assigned event q b = tt
  began_on s turns.Opening (turns.AllSealed n) event q b = tt
  began_on s turns.Opening (turns.LastOpen e) event q b = tt
  began_on s (turns.Checking e) (turns.Found stood end) event q b = tt
  began_on s (turns.Checking e) turns.Fails event q b = tt
  began_on s (turns.Sealing e) turns.IsShut event q b = tt
  began_on s (turns.Sent n append group) turns.Fails event q b = b
  began_on s (turns.Closing n append group) turns.IsShut event q b = b
  began_on s (turns.Growing n append group) (turns.ExtendedTo m) event q b = b
  began_on s p t event q b = b

  began_after : (x : Stand) (ts : List (turns.Turn Group)) (event : ℕ) → AreQuiet ts → BeganAt event x.phase → BeganAt event (after_turns generation i x ts).phase
  began_after x [] event q b = b
  began_after x (t ∷ ts) event q b = began_on (after_turns generation i x ts).state (after_turns generation i x ts).phase t event q.0 (began_after x ts event q.1 b)

  pub quiet_seen_of : (kind : StreamKind) (v : RangeView) (x : Stand) (ts : List (turns.Turn Group)) (actions : List StreamAction) → AreQuiet ts → AreReads actions → AreSeenOf generation i kind v x ts actions
  quiet_seen_of kind v x ts actions turned quiet s =
      reads_seen_of kind v (after_turns generation i x ts) actions quiet
      (record { story = s.story ∙ sym (quiet_story generation i x ts turned); append = began_after x ts (v.history.append kind) turned s.append })

  -- ---- one step after another

  pub joined_seen_of : (kind : StreamKind) (v : RangeView) (x : Stand) (before ts : List (turns.Turn Group)) (first later : List StreamAction) → AreSeenOf generation i kind v x before first →
      AreSeenOf generation i kind (view_after_all (generation i) v first) (after_turns generation i x before) ts later → AreSeenOf generation i kind v x (ts ++ before) (later ++ first)
  joined_seen_of kind v x before ts first later a b s =
      subst (λ y. SeesStory generation i kind (view_after_all (generation i) v (later ++ first)) y) (turns_after generation i x before ts)
      (subst (λ z. SeesStory generation i kind z (after_turns generation i (after_turns generation i x before) ts)) (sym (view_joined v later first)) (b (a s)))

  -- ---- a group is formed

  -- the story after a group is formed
  formed_by : (s : machine.MachineState Group) (n : ℕ) (live : Bool) (group : Group) →
      (after_turns generation i (record { state = s; phase = turns.Serving n live }) (turns.Forms group ∷ [])).state.story ≡ Made (generation i) group ∷ s.story
  formed_by s zero live group = refl
  formed_by s (suc e) true group = refl
  formed_by s (suc e) false group = refl

  formed_story : (x : Stand) (n : ℕ) (live : Bool) (group : Group) → x.phase ≡ turns.Serving n live →
      (after_turns generation i x (turns.Forms group ∷ [])).state.story ≡ Made (generation i) group ∷ x.state.story
  formed_story x n live group e =
      subst (λ z. (after_turns generation i (record { state = x.state; phase = z }) (turns.Forms group ∷ [])).state.story ≡ Made (generation i) group ∷ x.state.story) (sym e) (formed_by x.state n live group)

  began_formed : (s : machine.MachineState Group) (n : ℕ) (live : Bool) (group : Group) (event : ℕ) → event ≡ length s.story →
      BeganAt event (after_turns generation i (record { state = s; phase = turns.Serving n live }) (turns.Forms group ∷ [])).phase
  began_formed s zero live group event e = e
  began_formed s (suc n) true group event e = e
  began_formed s (suc n) false group event e = e

  pub forms_seen_of : (kind : StreamKind) (v : RangeView) (x : Stand) (n : ℕ) (live : Bool) (group : Group) → x.phase ≡ turns.Serving n live →
      AreSeenOf generation i kind v x (turns.Forms group ∷ []) (Forms kind group ∷ [])
  forms_seen_of kind v x n live group stands s =
      record {
        story = event_here v.story kind (Made (generation i) group) ∙ ap (λ z. Made (generation i) group ∷ z) s.story ∙ sym (formed_story x n live group stands);
        append = subst (λ z. BeganAt z (after_turns generation i x (turns.Forms group ∷ [])).phase) (sym (begun_here v.history kind (length (v.story kind))))
            (subst (λ p. BeganAt (length (v.story kind)) (after_turns generation i (record { state = x.state; phase = p }) (turns.Forms group ∷ [])).phase) (sym stands)
            (began_formed x.state n live group (length (v.story kind)) (ap length s.story)));
      }

  -- ---- it is answered

  -- the story after a group is answered
  answered_story : (x : Stand) (n append from to : ℕ) (group : Group) → x.phase ≡ turns.Sent n append group →
      (after_turns generation i x (turns.AppendedAt from to ∷ [])).state.story ≡ Answered append from to ∷ x.state.story
  answered_story x n append from to group e =
      subst (λ z. (after_turns generation i (record { state = x.state; phase = z }) (turns.AppendedAt from to ∷ [])).state.story ≡ Answered append from to ∷ x.state.story) (sym e) refl

  pub stands_seen_of : (kind : StreamKind) (v : RangeView) (x : Stand) (n append from to : ℕ) (group : Group) (extent : ℕ) (at : Position) → x.phase ≡ turns.Sent n append group →
      from ≡ place_number at → to ≡ from + group_size group → AreSeenOf generation i kind v x (turns.AppendedAt from to ∷ []) (Stands kind extent at group ∷ [])
  stands_seen_of kind v x n append from to group extent at stands begins ends s =
      record {
        story = event_here v.story kind (Answered (v.history.append kind) (place_number at) (place_number at + group_size group))
            ∙ ap (λ k. answered k (place_number at) (place_number at + group_size group)) began ∙ ap (λ k. answered append k (k + group_size group)) (sym begins)
            ∙ ap (λ k. answered append from k) (sym ends) ∙ ap (λ z. Answered append from to ∷ z) s.story ∙ sym (answered_story x n append from to group stands);
        append = subst (λ p. BeganAt (v.history.append kind) (after_turns generation i (record { state = x.state; phase = p }) (turns.AppendedAt from to ∷ [])).phase) (sym stands) tt;
      }
    where
      answered : ℕ → ℕ → ℕ → Story Group
      answered append from to = Answered append from to ∷ v.story kind

      began : v.history.append kind ≡ append
      began = subst (λ p. BeganAt (v.history.append kind) p) stands s.append
