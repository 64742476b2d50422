-- What is premised of the two ranges that a split makes, by computing: it holds at each moment of a worked split, from its begin until the
-- keys of both stand.
use Rattle.std.proofs.Common.{◌≡◌, ⊎_elim, ℕ, zero, suc, ◌==◌, Bool, true, false, cond, List, [], ◌∷◌, Option, Some, None, refl, sym, ap, ◌∙◌, subst, inl, inr, arith}
use Rattle.std.specs.Cmp.{nat_cmp_is}
use Rattle.std.specs.BTreeMap.{is_at}
use Rattle.std.specs.Ordering.{nat_cmp, is_eq}
use Rattle.std.specs.Map.{lookup}
use Rattle.std.specs.declared.cmp.Ordering.TheVariants.{Less, Greater}
use Rattle.std.proofs.lemmas.Bool.{cases_eq, cases_lt}
use Rattle.blocks.specs.Record as numbers
use Rattle.wire.specs.declared.actor.ActorId.TheVariants.{Manager}
use Rattle.wire.specs.declared.body.Body.TheVariants as bodies
use Rattle.wire.specs.declared.body.StreamBody.TheVariants as streams
use Rattle.wire.specs.declared.note.Note.{Note}
use Rattle.wire.specs.declared.streams.StreamKind.{StreamKind}
use Rattle.wire.specs.declared.streams.StreamKind.TheVariants as kinds
use Rattle.model_streams.specs.Maps.{entry_at}
use Rattle.model_partition.specs.declared.split_job.Side.{Side}
use Rattle.model_partition.specs.declared.split_job.Side.TheVariants.{Low, High}
use Rattle.model_partition.specs.declared.split_job.SplitJob.{SplitJob}
use Rattle.model_partition.specs.declared.split_job.SplitPhase.{SplitPhase}
use Rattle.model_partition.specs.declared.split_job.SplitPhase.TheVariants as phases
use Rattle.model_partition.specs.declared.table_note.TableNote.{TableNote}
use Rattle.model_partition.specs.declared.table_note.TableNote.TheVariants as tables
use Rattle.model_partition.specs.Past.{Bytes, first_range}
use Rattle.model_partition.specs.Range.{RangeState}
use Rattle.model_partition.specs.Server.{ServerState, range_of, split_of}
use Rattle.model_partition.specs.Servers.{ServerCell}
use Rattle.model_partition.specs.Splits.{side_range}
use Rattle.model_histories.specs.Log.{only, is_of}
use Rattle.model_histories.specs.ServedTables.{AreSeenAs}
use Rattle.model_histories.specs.ServerRun.{ServerRun, ServerEvent, Takes, GivesUp, Checkpoints, Splits, Stops, Starts, Moment, Builds, run_of, stream_named}
use Rattle.laws_server_runs.specs.ChildInvariant.{HasPair, IsBeforeBuild, IsBuilding, IsSaying, ChildAt, AreChildren, IsBuiltBy, MayBuild, BuildsSo, AreBornSo}
use Rattle.laws_server_runs.proofs.Worked.{comes, asked}
use Rattle.laws_server_runs.proofs.WorkedSplits.{begun, checkpointed, recorded, sealed_at, stands_at, grows_to}

-- ---- numbers

other_number : (k j : ℕ) → (k ≡ j → ⊥) → is_eq (nat_cmp k j) ≡ false
other_number k j apart =
    ⊎_elim {C = is_eq (nat_cmp k j) ≡ false}
    (λ less. ap is_eq (sym (nat_cmp_is k j Less less)))
    (λ le. ap is_eq (sym (nat_cmp_is k j Greater (omega (arith, le, apart)))))
    (cases_lt k j)

-- what is found in a list of one entry is that one
pub only_number : {A : Type 0} (k j : ℕ) (a b : A) → lookup (is_at (nat_cmp k)) ((j, a) ∷ []) ≡ Some b → (k ≡ j) × (b ≡ a)
only_number {A} k j a b e = elim (cases_eq k j) [
  | inl is ↦ (is, found (is_at (nat_cmp k) j) e)
  | inr apart ↦ absurd (none (ap (λ t. cond t (Some a) None) (sym (other_number k j apart)) ∙ e))
]
  where
    found : (t : Bool) → cond t (Some a) None ≡ Some b → b ≡ a
    found true q = cc
    found false q = absurd cc

    none : cond false (Some a) None ≡ Some b → ⊥
    none q = cc

-- ---- one server, of one range, with one split at most

-- what is so of the state of the only server
abbrev OfState : (ServerState → Type 0) → Option ServerState → Type 0
OfState P None = Unit {0}
OfState P (Some st) = P st

-- the same over the list of servers, which has but one
abbrev pub AtState : (ServerState → Type 0) → List ServerCell → Type 0
AtState P (cell ∷ []) = OfState P cell.state
AtState P cells = ⊥

-- of any server that runs it is so, and that is the only one
pub at_state : (P : ServerState → Type 0) (cells : List ServerCell) → AtState P cells → (s : ℕ) (cell : ServerCell) (st : ServerState) → entry_at cells s ≡ Some cell → cell.state ≡ Some st → P st × (s ≡ 1) × (entry_at cells 1 ≡ Some cell)
at_state P (one ∷ []) a (suc zero) cell st e runs = let is : one ≡ cell = cc in (subst (OfState P) (ap (λ c. c.state) is ∙ runs) a, refl, e)
at_state P (one ∷ []) a zero cell st e runs = absurd cc
at_state P (one ∷ []) a (suc (suc n)) cell st e runs = absurd cc
at_state P [] a s cell st e runs = absurd a
at_state P (one ∷ two ∷ more) a s cell st e runs = absurd a

-- no event builds the streams of a range
abbrev pub NoneBuilt : ℕ → List ServerEvent → Type 0
NoneBuilt range [] = Unit {0}
NoneBuilt range (Builds source built ∷ earlier) = (range ≡ built → ⊥) × NoneBuilt range earlier
NoneBuilt range (event ∷ earlier) = NoneBuilt range earlier

pub built_none : (range : ℕ) (events : List ServerEvent) → NoneBuilt range events → IsBuiltBy events range → ⊥
built_none range [] n built = built
built_none range (Builds source other ∷ earlier) n (inl is) = let e : other ≡ range = cc in n.0 (sym e)
built_none range (Builds source other ∷ earlier) n (inr built) = built_none range earlier n.1 built
built_none range (Takes s p ∷ earlier) n (inl is) = absurd cc
built_none range (Takes s p ∷ earlier) n (inr built) = built_none range earlier n built
built_none range (GivesUp s f pick ∷ earlier) n (inl is) = absurd cc
built_none range (GivesUp s f pick ∷ earlier) n (inr built) = built_none range earlier n built
built_none range (Checkpoints s r combine ∷ earlier) n (inl is) = absurd cc
built_none range (Checkpoints s r combine ∷ earlier) n (inr built) = built_none range earlier n built
built_none range (Splits s r key ∷ earlier) n (inl is) = absurd cc
built_none range (Splits s r key ∷ earlier) n (inr built) = built_none range earlier n built
built_none range (Stops s call ∷ earlier) n (inl is) = absurd cc
built_none range (Stops s call ∷ earlier) n (inr built) = built_none range earlier n built
built_none range (Starts s now size ∷ earlier) n (inl is) = absurd cc
built_none range (Starts s now size ∷ earlier) n (inr built) = built_none range earlier n built
built_none range (Moment now ∷ earlier) n (inl is) = absurd cc
built_none range (Moment now ∷ earlier) n (inr built) = built_none range earlier n built

-- its two numbers are no two of one, nor that of the range that the server has
abbrev Apart : (low high holder : ℕ) → Type 0
Apart low high holder = (low ≡ high → ⊥) × (low ≡ holder → ⊥) × (high ≡ holder → ⊥)

abbrev AreApart : ℕ → SplitJob → Type 0
AreApart holder job = Apart job.low job.high holder

-- what is premised of a split, by what it waits for
abbrev IsSound : List ServerEvent → ℕ → SplitJob → SplitPhase → Type 0
IsSound events holder job (phases.Begin q) = Unit {0}
IsSound events holder job (phases.Build q) = AreApart holder job
IsSound events holder job (phases.Keys out c) = AreApart holder job × IsBuiltBy events job.low × IsBuiltBy events job.high
IsSound events holder job (phases.Complete q) = AreApart holder job
IsSound events holder job phase = AreApart holder job × NoneBuilt job.low events × NoneBuilt job.high events

abbrev HasOne : List ServerEvent → List (ℕ × RangeState) → List (ℕ × SplitJob) → Type 0
HasOne events ranges [] = Unit {0}
HasOne events ((holder, r) ∷ []) ((split, job) ∷ []) = IsSound events holder job job.phase
HasOne events ranges splits = ⊥

abbrev SoundAt : List ServerEvent → ServerState → Type 0
SoundAt events st = HasOne events st.ranges st.splits

-- the number of the first entry
abbrev number_of : {A : Type 0} → List (ℕ × A) → ℕ
number_of [] = 0
number_of (e ∷ es) = e.0

-- what is so of the split that is found
record IsSoundOf (events : List ServerEvent) (holder split range : ℕ) (job : SplitJob) : Type 0 where
  is : range ≡ split
  apart : job.low ≡ job.high → ⊥
  early : IsBeforeBuild job.phase → (side : Side) → IsBuiltBy events (side_range job side) → ⊥
  late : IsSaying job.phase → (side : Side) → IsBuiltBy events (side_range job side)
  held : (side : Side) → side_range job side ≡ holder → ⊥

sound_of : (events : List ServerEvent) (holder : ℕ) (job : SplitJob) (phase : SplitPhase) → HasPair phase → IsSound events holder job phase →
    (job.low ≡ job.high → ⊥) × (IsBeforeBuild phase → (side : Side) → IsBuiltBy events (side_range job side) → ⊥) × (IsSaying phase → (side : Side) → IsBuiltBy events (side_range job side))
    × ((side : Side) → side_range job side ≡ holder → ⊥)
sound_of events holder job phase pair sound = by phase pair sound
  where
    beside : AreApart holder job → (side : Side) → side_range job side ≡ holder → ⊥
    beside apart Low = apart.1
    beside apart High = apart.2

    none : NoneBuilt job.low events → NoneBuilt job.high events → (side : Side) → IsBuiltBy events (side_range job side) → ⊥
    none low high Low = built_none job.low events low
    none low high High = built_none job.high events high

    both : IsBuiltBy events job.low → IsBuiltBy events job.high → (side : Side) → IsBuiltBy events (side_range job side)
    both low high Low = low
    both low high High = high

    by : (p : SplitPhase) → HasPair p → IsSound events holder job p →
        (job.low ≡ job.high → ⊥) × (IsBeforeBuild p → (side : Side) → IsBuiltBy events (side_range job side) → ⊥) × (IsSaying p → (side : Side) → IsBuiltBy events (side_range job side))
        × ((side : Side) → side_range job side ≡ holder → ⊥)
    by (phases.Begin q) has z = absurd has
    by phases.Checkpoint has z = (z.0.0, λ b. none z.1 z.2, λ b. absurd b, beside z.0)
    by phases.Queue has z = (z.0.0, λ b. none z.1 z.2, λ b. absurd b, beside z.0)
    by phases.Record has z = (z.0.0, λ b. none z.1 z.2, λ b. absurd b, beside z.0)
    by (phases.Seal kind q) has z = (z.0.0, λ b. none z.1 z.2, λ b. absurd b, beside z.0)
    by (phases.Build q) has z = (z.0, λ b. absurd b, λ b. absurd b, beside z)
    by (phases.Keys out c) has z = (z.0.0, λ b. absurd b, λ b. both z.1 z.2, beside z.0)
    by (phases.Complete q) has z = (z.0, λ b. absurd b, λ b. absurd b, beside z)

found_sound : (events : List ServerEvent) (ranges : List (ℕ × RangeState)) (splits : List (ℕ × SplitJob)) → HasOne events ranges splits → (range : ℕ) (job : SplitJob) → split_of splits range ≡ Some job → HasPair job.phase →
    IsSoundOf events (number_of ranges) (number_of splits) range job
found_sound events ranges [] one range job e pair = absurd cc
found_sound events ((holder, r) ∷ []) ((split, z) ∷ []) one range job e pair =
    let only : (range ≡ split) × (job ≡ z) = only_number range split z job e in
    let all = sound_of events holder job job.phase pair (subst (λ (j : SplitJob). IsSound events holder j j.phase) (sym only.1) one) in
    record { is = only.0; apart = all.0; early = all.1; late = all.2; held = all.3 }
found_sound events [] ((split, z) ∷ more) one range job e pair = absurd one
found_sound events ((holder, r) ∷ []) ((split, z) ∷ other ∷ more) one range job e pair = absurd one
found_sound events (first ∷ second ∷ ranges) ((split, z) ∷ more) one range job e pair = absurd one

-- the range that is found where there is a split is the server's only one
found_range : (events : List ServerEvent) (ranges : List (ℕ × RangeState)) (splits : List (ℕ × SplitJob)) → HasOne events ranges splits → (range : ℕ) (job : SplitJob) → split_of splits range ≡ Some job →
    (child : ℕ) (r : RangeState) → range_of ranges child ≡ Some r → child ≡ number_of ranges
found_range events ranges [] one range job e child r found = absurd cc
found_range events ((holder, held) ∷ []) ((split, z) ∷ []) one range job e child r found = (only_number child holder held r found).0
found_range events [] ((split, z) ∷ more) one range job e child r found = absurd one
found_range events ((holder, held) ∷ []) ((split, z) ∷ other ∷ more) one range job e child r found = absurd one
found_range events (first ∷ second ∷ ranges) ((split, z) ∷ more) one range job e child r found = absurd one

module _ (events : List ServerEvent) (x : ServerRun) (sound : AtState (SoundAt events) x.servers) where
  at : (s : ℕ) (cell : ServerCell) (st : ServerState) → entry_at x.servers s ≡ Some cell → cell.state ≡ Some st → SoundAt events st × (s ≡ 1) × (entry_at x.servers 1 ≡ Some cell)
  at = at_state (SoundAt events) x.servers sound

  sound_child : (s range child : ℕ) (c : ChildAt x s range child) → IsSoundOf events (number_of c.state.ranges) (number_of c.state.splits) range c.job
  sound_child s range child c = found_sound events c.state.ranges c.state.splits (at s c.cell c.state c.there c.runs).0 range c.job c.found c.pair

  -- the states of one server are one
  one_state : (s t : ℕ) (cell other : ServerCell) (st now : ServerState) → entry_at x.servers s ≡ Some cell → cell.state ≡ Some st → entry_at x.servers t ≡ Some other → other.state ≡ Some now → (s ≡ t) × (st ≡ now)
  one_state s t cell other st now e runs f goes =
      let left = at s cell st e runs in
      let right = at t other now f goes in
      let cells : cell ≡ other = some (sym left.2 ∙ right.2) in
      (left.1 ∙ sym right.1, states (sym runs ∙ ap (λ c. c.state) cells ∙ goes))
    where
      some : Some cell ≡ Some other → cell ≡ other
      some q = cc

      states : Some st ≡ Some now → st ≡ now
      states q = cc

  children_of : AreChildren (IsBuiltBy events) x
  children_of =
      record {
        alone = λ child s t range other c d.
            let same = one_state s t c.cell d.cell c.state d.state c.there c.runs d.there d.runs in
            (same.0, (sound_child s range child c).is ∙ ap (λ (st : ServerState). number_of st.splits) same.1 ∙ sym (sound_child t other child d).is);
        apart = λ s range child c. (sound_child s range child c).apart;
        early = λ s range child c before built. (sound_child s range child c).early before c.side (subst (IsBuiltBy events) c.is built);
        late = λ s range child c saying. subst (IsBuiltBy events) (sym c.is) ((sound_child s range child c).late saying c.side);
        unheld = λ s range child c phase t cell st e runs r found.
            let same = one_state s t c.cell cell c.state st c.there c.runs e runs in
            let holds = found_range events st.ranges st.splits (at t cell st e runs).0 range c.job (ap (λ (z : ServerState). split_of z.splits range) (sym same.1) ∙ c.found) child r found in
            (sound_child s range child c).held c.side (sym c.is ∙ holds ∙ ap (λ (z : ServerState). number_of z.ranges) (sym same.1));
      }

-- ---- where streams are built

-- the only split waits for the streams, and the server does not have the range that gets them
abbrev IsWaiting : ℕ → List (ℕ × SplitJob) → Type 0
IsWaiting source ((split, job) ∷ []) = (split ≡ source) × IsBuilding job.phase
IsWaiting source splits = ⊥

abbrev WaitsAt : (source range : ℕ) → ServerState → Type 0
WaitsAt source range st = (range_of st.ranges range ≡ None) × IsWaiting source st.splits

found_waiting : (source : ℕ) (splits : List (ℕ × SplitJob)) → IsWaiting source splits → (range : ℕ) (job : SplitJob) → split_of splits range ≡ Some job → (range ≡ source) × IsBuilding job.phase
found_waiting source [] waits range job e = absurd waits
found_waiting source ((split, z) ∷ []) waits range job e =
    let only : (range ≡ split) × (job ≡ z) = only_number range split z job e in
    (only.0 ∙ waits.0, subst (λ (j : SplitJob). IsBuilding j.phase) (sym only.1) waits.1)
found_waiting source ((split, z) ∷ other ∷ more) waits range job e = absurd waits

-- what is told is of other ranges
abbrev OfOthers : ℕ → List TableNote → Type 0
OfOthers range [] = Unit {0}
OfOthers range (tables.Began other generation number changes ∷ told) = ((range == other) ≡ false) × OfOthers range told
OfOthers range (tables.Done other generation number ∷ told) = ((range == other) ≡ false) × OfOthers range told
OfOthers range (tables.Loaded other generation table next ∷ told) = ((range == other) ≡ false) × OfOthers range told
OfOthers range (tables.Got other generation key value ∷ told) = ((range == other) ≡ false) × OfOthers range told

-- where an observation is not of a range, the rest is what is told of it
pub rest : (range : ℕ) (note : Note) (notes : List Note) → is_of range note ≡ false → only range notes ≡ [] → only range (note ∷ notes) ≡ []
rest range note notes other none = ap (λ b. cond b (note ∷ only range notes) (only range notes)) other ∙ none

-- where all that is told is of other ranges, nothing is told of this one
pub told_none : (texts : ℕ → Bytes) (range : ℕ) (told : List TableNote) (notes : List Note) → OfOthers range told → AreSeenAs texts told notes → only range notes ≡ []
told_none texts range [] [] others seen = refl
told_none texts range [] (note ∷ notes) others seen = absurd seen
told_none texts range (t ∷ told) [] others seen = absurd seen
told_none texts range (tables.Began other generation number changes ∷ told) (note ∷ notes) others seen =
    rest range note notes (ap (is_of range) seen.0 ∙ others.0) (told_none texts range told notes others.1 seen.1)
told_none texts range (tables.Done other generation number ∷ told) (note ∷ notes) others seen =
    rest range note notes (ap (is_of range) seen.0 ∙ others.0) (told_none texts range told notes others.1 seen.1)
told_none texts range (tables.Loaded other generation table next ∷ told) (note ∷ notes) others seen =
    rest range note notes (ap (is_of range) seen.0.1 ∙ others.0) (told_none texts range told notes others.1 seen.1)
told_none texts range (tables.Got other generation key value ∷ told) (note ∷ notes) others seen =
    rest range note notes (ap (is_of range) seen.0) (told_none texts range told notes others.1 seen.1)

may_build : (texts : ℕ → Bytes) (source range : ℕ) (x : ServerRun) → AtState (WaitsAt source range) x.servers → ((kind : StreamKind) → x.story (stream_named range kind) ≡ []) → OfOthers range x.notes → MayBuild texts source range x
may_build texts source range x waits story others =
    record {
      new =
          record {
            story = story;
            held = λ s cell st e runs. (at_state (WaitsAt source range) x.servers waits s cell st e runs).0.0;
            untold = λ notes seen. told_none texts range x.notes notes others seen;
          };
      asked = λ s split c. found_waiting source c.state.splits (at_state (WaitsAt source range) x.servers waits s c.cell c.state c.there c.runs).0.1 split c.job c.found;
    }

-- ---- over a list of events

-- what is premised is so at each of these moments
abbrev pub AllSound : (ℕ → Bytes) → List ServerEvent → Type 0
AllSound texts [] = Unit {0}
AllSound texts (event ∷ earlier) = AtState (SoundAt (event ∷ earlier)) (run_of 1 1 (event ∷ earlier)).servers × BuildsSo texts event (run_of 1 1 earlier) × AllSound texts earlier

-- and so it is premised of all of them
pub births : (texts : ℕ → Bytes) (events : List ServerEvent) → AllSound texts events → AreBornSo texts 1 1 events
births texts [] sound = tt
births texts (event ∷ earlier) sound = (children_of (event ∷ earlier) (run_of 1 1 (event ∷ earlier)) sound.0, sound.1, births texts earlier sound.2)

-- ---- the worked split

-- the streams of the two are built when all that the range made is answered, and the split hears of it
abbrev pub sealed_log : List ServerEvent
sealed_log = sealed_at 13 20 9 ∷ sealed_at 12 30 74 ∷ recorded

abbrev pub built_low : List ServerEvent
built_low = Builds first_range 2 ∷ sealed_log

-- the split hears that both are built
abbrev pub told_built : List ServerEvent
told_built = comes 1 Manager (bodies.Stream (streams.Modified (asked 1 14))) ∷ Builds first_range 3 ∷ built_low

-- the keys of both stand, each in an extent of its own, and the end is asked for
abbrev pub said_both : List ServerEvent
said_both = stands_at 18 32 0 ∷ grows_to 17 32 ∷ stands_at 16 31 0 ∷ grows_to 15 31 ∷ told_built

-- the two have the numbers 2 and 3
apart : Apart 2 3 1
apart = (λ e. absurd cc, λ e. absurd cc, λ e. absurd cc)

module _ (texts : ℕ → Bytes) where
  low_may : MayBuild texts first_range 2 (run_of 1 1 sealed_log)
  unfolding numbers.number
  low_may =
      may_build texts first_range 2 (run_of 1 1 sealed_log) (refl, (refl, tt))
      (elim [ kinds.Metadata ↦ refl | kinds.Log ↦ refl | kinds.RowData ↦ refl | kinds.BlobData ↦ refl ])
      (refl, tt)

  high_may : MayBuild texts first_range 3 (run_of 1 1 built_low)
  unfolding numbers.number
  high_may = may_build texts first_range 3 (run_of 1 1 built_low) (refl, (refl, tt)) (elim [ kinds.Metadata ↦ refl | kinds.Log ↦ refl | kinds.RowData ↦ refl | kinds.BlobData ↦ refl ]) (refl, tt)

  -- before the range is split, and while its split waits for its numbers
  begun_sound : AllSound texts begun
  unfolding numbers.number
  begun_sound = ((apart, tt, tt), tt, (tt, tt, (tt, tt, (tt, tt, (tt, tt, tt)))))

  -- until its checkpoint is made
  checkpointed_sound : AllSound texts checkpointed
  unfolding numbers.number
  checkpointed_sound =
      ((apart, tt, tt), tt, ((apart, tt, tt), tt, ((apart, tt, tt), tt, ((apart, tt, tt), tt, ((apart, tt, tt), tt, begun_sound)))))

  sealed_sound : AllSound texts sealed_log
  unfolding numbers.number
  sealed_sound = (apart, tt, ((apart, tt, tt), tt, ((apart, tt, tt), tt, checkpointed_sound)))

  built_sound : AllSound texts told_built
  unfolding numbers.number
  built_sound = ((apart, inr (inr (inl (1, refl))), inr (inl (1, refl))), tt, (apart, high_may, (apart, low_may, sealed_sound)))

  -- until both are said
  pub said_sound : AllSound texts said_both
  unfolding numbers.number
  said_sound = (
    apart,
    tt,
    (
      (apart, inr (inr (inr (inr (inr (inl (1, refl)))))), inr (inr (inr (inr (inl (1, refl)))))),
      tt,
      (
        (apart, inr (inr (inr (inr (inl (1, refl))))), inr (inr (inr (inl (1, refl))))),
        tt,
        ((apart, inr (inr (inr (inl (1, refl)))), inr (inr (inl (1, refl)))), tt, built_sound),
      ),
    ),
  )

  -- what is premised of births is so of these events
  pub born_so : AreBornSo texts 1 1 said_both
  born_so = births texts said_both said_sound
