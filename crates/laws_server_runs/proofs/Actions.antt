-- What a range at a server sees of its own actions, and of those of other ranges and servers.
use Rattle.std.proofs.Common.{◌≡◌, ℕ, ◌+◌, Bool, List, [], ◌∷◌, ◌++◌, length, true, false, ◌&&◌, ◌==◌, refl, sym, ap, ◌∙◌, inl, inr, arith, append-nil, if◌then◌else◌}
use Rattle.std.proofs.lemmas.Bool.Decides.{nat_tests}
use Rattle.std.specs.List.{AllByRecursion}
use Rattle.std.proofs.lemmas.Bool.{cases_eq}
use Rattle.wire.specs.declared.streams.StreamKind.TheVariants as kinds
use Rattle.wire.specs.declared.streams.StreamName.{StreamName}
use Rattle.block_types.specs.Limits.{group_size}
use Rattle.replica.specs.Groups.{joined}
use Rattle.model_streams.specs.Maps.{changed, entry_at}
use Rattle.model_partition.specs.Loading.{Group}
use Rattle.model_histories.specs.Story.{StreamEvent, Story, Made, Answered, Showed}
use Rattle.model_histories.specs.StreamActions.{StreamAction, Reads, Forms, Stands, Shows, Finds, Stores, PlacedBytes, SideAction}
use Rattle.model_histories.specs.ServerRun.{ServerRun, RangeHistory, ServerEvent, Takes, GivesUp, Checkpoints, Splits, Stops, Starts, Moment, Builds, RangeEffect, Begins, Does, Tells, Rests, after_action, after_actions, after_sides, with_event, with_effect, cell_effect, after_event, own_or, is_kind, is_stream, one_more_read, begun_at, stream_named, place_number, placed_reads, placed_behind, bytes_read}
use Rattle.laws_loads.specs.RangeView.{view_after, view_after_all}
use Rattle.laws_server_runs.specs.RangeInvariant.{IsLonger}
use Rattle.laws_server_runs.specs.RunInvariant.{view_at}
use Rattle.laws_server_runs.proofs.Fronts.{longer_same, longer_twice}

pub same_test : (n : ℕ) → (n == n) ≡ true
same_test n = grind (arith, nat_tests)

pub other_test : (m n : ℕ) → (m ≡ n → ⊥) → (m == n) ≡ false
other_test m n apart = grind (arith, nat_tests)

module _ (s range g : ℕ) where
  -- ---- its own

  action_here : (x : ServerRun) (action : StreamAction) → view_at range (after_action s range g x action) s ≡ view_after g (view_at range x s) action
  action_here x (Reads kind read) =
      (λ i. record (view_at range x s) { history = if same_test s i && same_test range i then one_more_read (x.history s range) kind read else x.history s range })
  action_here x (Forms kind group) =
      (λ i. record (view_at range x s) {
        history = if same_test s i && same_test range i then begun_at (x.history s range) kind (length (x.story (stream_named range kind))) else x.history s range;
        story = λ other. if same_test range i && is_kind other kind then Made g group ∷ x.story (stream_named range other) else x.story (stream_named range other);
      })
  action_here x (Stands kind extent at group) =
      (λ i. record (view_at range x s) {
        story = λ other. if same_test range i && is_kind other kind
            then Answered ((x.history s range).append kind) (place_number at) (place_number at + group_size group) ∷ x.story (stream_named range other)
            else x.story (stream_named range other);
        answered = if same_test range i then record { extent = extent; offset = at.offset; bytes = joined group } ∷ x.answered range else x.answered range;
      })
  action_here x (Shows start log_end metadata_end) =
      let h : RangeHistory = x.history s range in
      (λ i. record (view_at range x s) {
        story = λ other. if same_test range i && is_kind other kinds.Log
            then Showed g (place_number start) (place_number log_end) (placed_behind (place_number start) (placed_reads (h.reads kinds.Log)))
            ∷ (if same_test range i && is_kind other kinds.Metadata then Showed g 0 (place_number metadata_end) (placed_reads (h.reads kinds.Metadata)) ∷ x.story (stream_named range other) else x.story (stream_named range other))
            else (if same_test range i && is_kind other kinds.Metadata then Showed g 0 (place_number metadata_end) (placed_reads (h.reads kinds.Metadata)) ∷ x.story (stream_named range other) else x.story (stream_named range other));
        shown = if same_test range i then bytes_read (h.reads kinds.Log) ++ x.shown range else x.shown range;
      })
  action_here x (Finds found) = (λ i. record (view_at range x s) { shown = if same_test range i then found ∷ x.shown range else x.shown range })
  action_here x (Stores stored) = (λ i. record (view_at range x s) { answered = if same_test range i then stored ∷ x.answered range else x.answered range })

  pub actions_here : (x : ServerRun) (actions : List StreamAction) → view_at range (after_actions s range g x actions) s ≡ view_after_all g (view_at range x s) actions
  actions_here x [] = refl
  actions_here x (action ∷ earlier) = action_here (after_actions s range g x earlier) action ∙ ap (λ v. view_after g v action) (actions_here x earlier)

  -- ---- those of others

  action_apart : (t k : ℕ) → ((t == s) && (k == range)) ≡ false → (x : ServerRun) (action : StreamAction) → (after_action s range g x action).history t k ≡ x.history t k
  action_apart t k apart x (Reads kind read) = ap (λ b. if b then one_more_read (x.history s range) kind read else x.history t k) apart
  action_apart t k apart x (Forms kind group) = ap (λ b. if b then begun_at (x.history s range) kind (length (x.story (stream_named range kind))) else x.history t k) apart
  action_apart t k apart x (Stands kind extent at group) = refl
  action_apart t k apart x (Shows start log_end metadata_end) = refl
  action_apart t k apart x (Finds found) = refl
  action_apart t k apart x (Stores stored) = refl

  -- another range at this server, or any at another, has the history that it had
  pub actions_apart : (t k : ℕ) → ((t == s) && (k == range)) ≡ false → (x : ServerRun) (actions : List StreamAction) → (after_actions s range g x actions).history t k ≡ x.history t k
  actions_apart t k apart x [] = refl
  actions_apart t k apart x (action ∷ earlier) = action_apart t k apart (after_actions s range g x earlier) action ∙ actions_apart t k apart x earlier

  action_beside : (n : StreamName) → (n.range == range) ≡ false → (x : ServerRun) (action : StreamAction) → (after_action s range g x action).story n ≡ x.story n
  action_beside n apart x (Reads kind read) = refl
  action_beside n apart x (Forms kind group) = ap (λ b. if b && is_kind n.kind kind then Made g group ∷ x.story n else x.story n) apart
  action_beside n apart x (Stands kind extent at group) =
      ap (λ b. if b && is_kind n.kind kind then Answered ((x.history s range).append kind) (place_number at) (place_number at + group_size group) ∷ x.story n else x.story n) apart
  action_beside n apart x (Shows start log_end metadata_end) =
      let h : RangeHistory = x.history s range in
      ap (λ b. if b && is_kind n.kind kinds.Log
      then Showed g (place_number start) (place_number log_end) (placed_behind (place_number start) (placed_reads (h.reads kinds.Log)))
      ∷ (if b && is_kind n.kind kinds.Metadata then Showed g 0 (place_number metadata_end) (placed_reads (h.reads kinds.Metadata)) ∷ x.story n else x.story n)
      else (if b && is_kind n.kind kinds.Metadata then Showed g 0 (place_number metadata_end) (placed_reads (h.reads kinds.Metadata)) ∷ x.story n else x.story n)) apart
  action_beside n apart x (Finds found) = refl
  action_beside n apart x (Stores stored) = refl

  -- streams of other ranges have the stories that they had
  pub actions_beside : (n : StreamName) → (n.range == range) ≡ false → (x : ServerRun) (actions : List StreamAction) → (after_actions s range g x actions).story n ≡ x.story n
  actions_beside n apart x [] = refl
  actions_beside n apart x (action ∷ earlier) = action_beside n apart (after_actions s range g x earlier) action ∙ actions_beside n apart x earlier

  action_bytes : (k : ℕ) → (k ≡ range → ⊥) → (x : ServerRun) (action : StreamAction) → ((after_action s range g x action).shown k ≡ x.shown k) × ((after_action s range g x action).answered k ≡ x.answered k)
  action_bytes k apart x (Reads kind read) = (refl, refl)
  action_bytes k apart x (Forms kind group) = (refl, refl)
  action_bytes k apart x (Stands kind extent at group) =
      (refl, ap (λ b. if b then record { extent = extent; offset = at.offset; bytes = joined group } ∷ x.answered range else x.answered k) (other_test k range apart))
  action_bytes k apart x (Shows start log_end metadata_end) = (ap (λ b. if b then bytes_read ((x.history s range).reads kinds.Log) ++ x.shown range else x.shown k) (other_test k range apart), refl)
  action_bytes k apart x (Finds found) = (ap (λ b. if b then found ∷ x.shown range else x.shown k) (other_test k range apart), refl)
  action_bytes k apart x (Stores stored) = (refl, ap (λ b. if b then stored ∷ x.answered range else x.answered k) (other_test k range apart))

  -- of other ranges the same bytes were shown and answered
  pub actions_bytes : (k : ℕ) → (k ≡ range → ⊥) → (x : ServerRun) (actions : List StreamAction) → ((after_actions s range g x actions).shown k ≡ x.shown k) × ((after_actions s range g x actions).answered k ≡ x.answered k)
  actions_bytes k apart x [] = (refl, refl)
  actions_bytes k apart x (action ∷ earlier) =
      let one = action_bytes k apart (after_actions s range g x earlier) action in
      let more = actions_bytes k apart x earlier in
      (one.0 ∙ more.0, one.1 ∙ more.1)

  action_rest : (x : ServerRun) (action : StreamAction) → ((after_action s range g x action).servers ≡ x.servers) × ((after_action s range g x action).notes ≡ x.notes)
  action_rest x (Reads kind read) = (refl, refl)
  action_rest x (Forms kind group) = (refl, refl)
  action_rest x (Stands kind extent at group) = (refl, refl)
  action_rest x (Shows start log_end metadata_end) = (refl, refl)
  action_rest x (Finds found) = (refl, refl)
  action_rest x (Stores stored) = (refl, refl)

  -- actions change nothing of servers and of what they show
  pub actions_rest : (x : ServerRun) (actions : List StreamAction) → ((after_actions s range g x actions).servers ≡ x.servers) × ((after_actions s range g x actions).notes ≡ x.notes)
  actions_rest x [] = (refl, refl)
  actions_rest x (action ∷ earlier) =
      let one = action_rest (after_actions s range g x earlier) action in
      let more = actions_rest x earlier in
      (one.0 ∙ more.0, one.1 ∙ more.1)

-- ---- stories go on

longer_event : (stories : StreamName → Story Group) (name n : StreamName) (e : StreamEvent Group) → IsLonger (stories n) (with_event stories name e n)
longer_event stories name n e = go (is_stream n name)
  where
    go : (b : Bool) → IsLonger (stories n) (if b then e ∷ stories n else stories n)
    go true = (e ∷ [], refl)
    go false = ([], refl)

longer_at : (placed : ℕ → List PlacedBytes) (range k : ℕ) (more : List PlacedBytes) → IsLonger (placed k) (changed range (more ++ placed range) placed k)
longer_at placed range k more = elim (cases_eq k range) [
  | inl same ↦ (more, ap (λ b. if b then more ++ placed range else placed k) (ap (λ n. n == range) same ∙ same_test range) ∙ ap (λ n. more ++ placed n) (sym same))
  | inr other ↦ ([], ap (λ b. if b then more ++ placed range else placed k) (other_test k range other))
]

-- what is built stands where nothing stood
own_longer : {A : Type 0} (own given : List A) → IsLonger own (own_or own given)
own_longer [] given = (given, sym (append-nil given))
own_longer (x ∷ own) given = longer_same (x ∷ own)

longer_if : {A : Type 0} (own given : List A) (b : Bool) → IsLonger own (if b then own_or own given else own)
longer_if own given true = own_longer own given
longer_if own given false = longer_same own

longer_built : (placed : ℕ → List PlacedBytes) (range k : ℕ) (given : List PlacedBytes) → IsLonger (placed k) (changed range (own_or (placed range) given) placed k)
longer_built placed range k given = elim (cases_eq k range) [
  | inl same ↦
      (let more : IsLonger (placed range) (own_or (placed range) given) = own_longer (placed range) given in
      (more.0, ap (λ b. if b then own_or (placed range) given else placed k) (ap (λ n. n == range) same ∙ same_test range) ∙ more.1 ∙ ap (λ n. more.0 ++ placed n) (sym same)))
  | inr other ↦ ([], ap (λ b. if b then own_or (placed range) given else placed k) (other_test k range other))
]

pub record Longer (x y : ServerRun) : Type 0 where
  pub story : (n : StreamName) → IsLonger (x.story n) (y.story n)
  pub shown : (range : ℕ) → IsLonger (x.shown range) (y.shown range)
  pub answered : (range : ℕ) → IsLonger (x.answered range) (y.answered range)

same_run : (x : ServerRun) → Longer x x
same_run x = record { story = λ n. longer_same (x.story n); shown = λ k. longer_same (x.shown k); answered = λ k. longer_same (x.answered k) }

action_longer : (s range g : ℕ) (x : ServerRun) (action : StreamAction) → Longer x (after_action s range g x action)
action_longer s range g x (Reads kind read) = record { story = λ n. longer_same (x.story n); shown = λ k. longer_same (x.shown k); answered = λ k. longer_same (x.answered k) }
action_longer s range g x (Forms kind group) = record { story = λ n. longer_event x.story (stream_named range kind) n _; shown = λ k. longer_same (x.shown k); answered = λ k. longer_same (x.answered k) }
action_longer s range g x (Stands kind extent at group) = record { story = λ n. longer_event x.story (stream_named range kind) n _; shown = λ k. longer_same (x.shown k); answered = λ k. longer_at x.answered range k (record { extent = extent; offset = at.offset; bytes = joined group } ∷ []) }
action_longer s range g x (Shows start log_end metadata_end) =
    record {
      story = λ n. longer_twice (x.story n) (with_event x.story (stream_named range kinds.Metadata) _ n) _ (longer_event x.story (stream_named range kinds.Metadata) n _)
          (longer_event (with_event x.story (stream_named range kinds.Metadata) _) (stream_named range kinds.Log) n _);
      shown = λ k. longer_at x.shown range k (bytes_read ((x.history s range).reads kinds.Log));
      answered = λ k. longer_same (x.answered k);
    }
action_longer s range g x (Finds found) = record { story = λ n. longer_same (x.story n); shown = λ k. longer_at x.shown range k (found ∷ []); answered = λ k. longer_same (x.answered k) }
action_longer s range g x (Stores stored) = record { story = λ n. longer_same (x.story n); shown = λ k. longer_same (x.shown k); answered = λ k. longer_at x.answered range k (stored ∷ []) }

pub actions_longer : (s range g : ℕ) (x : ServerRun) (actions : List StreamAction) → Longer x (after_actions s range g x actions)
actions_longer s range g x [] = same_run x
actions_longer s range g x (action ∷ earlier) =
    let one : Longer x (after_actions s range g x earlier) = actions_longer s range g x earlier in
    let more : Longer (after_actions s range g x earlier) (after_actions s range g x (action ∷ earlier)) = action_longer s range g (after_actions s range g x earlier) action in
    record {
      story = λ n. longer_twice (x.story n) ((after_actions s range g x earlier).story n) _ (one.story n) (more.story n);
      shown = λ k. longer_twice (x.shown k) ((after_actions s range g x earlier).shown k) _ (one.shown k) (more.shown k);
      answered = λ k. longer_twice (x.answered k) ((after_actions s range g x earlier).answered k) _ (one.answered k) (more.answered k);
    }

-- ---- the two ranges that a split makes

pub sides_rest : (s g : ℕ) (x : ServerRun) (sides : List SideAction) → ((after_sides s g x sides).servers ≡ x.servers) × ((after_sides s g x sides).notes ≡ x.notes)
sides_rest s g x [] = (refl, refl)
sides_rest s g x (side ∷ earlier) =
    let one = action_rest s side.range g (after_sides s g x earlier) side.action in
    let more = sides_rest s g x earlier in
    (one.0 ∙ more.0, one.1 ∙ more.1)

pub sides_longer : (s g : ℕ) (x : ServerRun) (sides : List SideAction) → Longer x (after_sides s g x sides)
sides_longer s g x [] = same_run x
sides_longer s g x (side ∷ earlier) =
    let one : Longer x (after_sides s g x earlier) = sides_longer s g x earlier in
    let more : Longer (after_sides s g x earlier) (after_sides s g x (side ∷ earlier)) = action_longer s side.range g (after_sides s g x earlier) side.action in
    record {
      story = λ n. longer_twice (x.story n) ((after_sides s g x earlier).story n) _ (one.story n) (more.story n);
      shown = λ k. longer_twice (x.shown k) ((after_sides s g x earlier).shown k) _ (one.shown k) (more.shown k);
      answered = λ k. longer_twice (x.answered k) ((after_sides s g x earlier).answered k) _ (one.answered k) (more.answered k);
    }

-- none of them is this range
abbrev pub AreOthers : ℕ → List SideAction → Type 0
AreOthers k sides = AllByRecursion (λ (side : SideAction). k ≡ side.range → ⊥) sides

-- so that it has what it had
pub record SidesBeside (k : ℕ) (x y : ServerRun) : Type 0 where
  pub history : (t : ℕ) → y.history t k ≡ x.history t k
  pub story : (n : StreamName) → n.range ≡ k → y.story n ≡ x.story n
  pub shown : y.shown k ≡ x.shown k
  pub answered : y.answered k ≡ x.answered k

pub sides_beside : (s g k : ℕ) (x : ServerRun) (sides : List SideAction) → AreOthers k sides → SidesBeside k x (after_sides s g x sides)
sides_beside s g k x [] others = record { history = λ t. refl; story = λ n is. refl; shown = refl; answered = refl }
sides_beside s g k x (side ∷ earlier) others =
    let before : ServerRun = after_sides s g x earlier in
    let old : SidesBeside k x before = sides_beside s g k x earlier others.1 in
    let bytes = action_bytes s side.range g k others.0 before side.action in
    record {
      history = λ t. action_apart s side.range g t k ((λ i. (t == s) && other_test k side.range others.0 i) ∙ and_no (t == s)) before side.action ∙ old.history t;
      story = λ n is. action_beside s side.range g n (other_test n.range side.range (λ same. others.0 (sym is ∙ same))) before side.action ∙ old.story n is;
      shown = bytes.0 ∙ old.shown;
      answered = bytes.1 ∙ old.answered;
    }
  where
    and_no : (b : Bool) → (b && false) ≡ false
    and_no true = refl
    and_no false = refl

effect_longer : (s : ℕ) (x : ServerRun) (effect : RangeEffect) → Longer x (with_effect s x effect)
effect_longer s x (Begins range) = record { story = λ n. longer_same (x.story n); shown = λ k. longer_same (x.shown k); answered = λ k. longer_same (x.answered k) }
effect_longer s x (Does range g actions) = actions_longer s range g x actions
effect_longer s x (Tells g sides) = sides_longer s g x sides
effect_longer s x Rests = same_run x

pub event_longer : (x : ServerRun) (event : ServerEvent) → Longer x (after_event x event)
event_longer x (Takes s p) =
    let l : Longer x (with_effect s x (cell_effect p (entry_at x.servers s))) = effect_longer s x (cell_effect p (entry_at x.servers s)) in
    record { story = l.story; shown = l.shown; answered = l.answered }
event_longer x (GivesUp s range pick) = record { story = λ n. longer_same (x.story n); shown = λ k. longer_same (x.shown k); answered = λ k. longer_same (x.answered k) }
event_longer x (Checkpoints s range combine) = record { story = λ n. longer_same (x.story n); shown = λ k. longer_same (x.shown k); answered = λ k. longer_same (x.answered k) }
event_longer x (Splits s range key) = record { story = λ n. longer_same (x.story n); shown = λ k. longer_same (x.shown k); answered = λ k. longer_same (x.answered k) }
event_longer x (Stops s call) = record { story = λ n. longer_same (x.story n); shown = λ k. longer_same (x.shown k); answered = λ k. longer_same (x.answered k) }
event_longer x (Starts s now batch) = record { story = λ n. longer_same (x.story n); shown = λ k. longer_same (x.shown k); answered = λ k. longer_same (x.answered k) }
event_longer x (Moment now) = record { story = λ n. longer_same (x.story n); shown = λ k. longer_same (x.shown k); answered = λ k. longer_same (x.answered k) }
event_longer x (Builds source range) = record {
  story = λ n. longer_if (x.story n) (x.story (stream_named source n.kind)) (n.range == range);
  shown = λ k. longer_built x.shown range k (x.shown source);
  answered = λ k. longer_built x.answered range k (x.answered source);
}
