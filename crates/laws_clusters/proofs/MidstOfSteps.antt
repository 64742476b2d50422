-- A cluster of which nothing is said of the two ranges of one split, while its server is in the midst of a step on their metadata; and the run
-- of such a step.
use Rattle.std.proofs.Common.{◌≡◌, ℕ, List, [], ◌∷◌, ◌++◌, Option, Some, None, refl, sym, ap, ◌∙◌, subst, inl, inr, append-nil}
use Rattle.std.proofs.lemmas.Bool.{cases_eq}
use Rattle.wire.specs.declared.packet.Packet.{Packet}
use Rattle.model_partition.specs.declared.split_job.SplitJob.{SplitJob}
use Rattle.model_partition.specs.declared.table_note.TableNote.{TableNote}
use Rattle.model_partition.specs.Cluster.{Cluster}
use Rattle.model_partition.specs.Range.{RangeState}
use Rattle.model_partition.specs.Servers.{ServerCell}
use Rattle.model_histories.specs.ServerRun.{ServerRun, after_action, after_actions, after_sides, with_outcome}
use Rattle.model_histories.specs.StreamActions.{StreamAction, SideAction}
use Rattle.laws_ranges.specs.SplitSides.{tagged}
use Rattle.laws_clusters.proofs.Invariant.{Bases, HeldAt, SplitAt, IsFirm, KeysStand, Standing, over_base}
use Rattle.laws_clusters.proofs.SplitPackets.{actions_outcome}

-- the split of that range at that server is in the midst of a step
abbrev pub in_midst : (generation : ℕ → ℕ) → Bases generation → ℕ → ℕ → Bases generation
in_midst generation base s range = record { metadata = base.metadata; logs = base.logs; midst = Some (s, range) }

no_value : {A : Type 0} → (o : Option A) (a : A) → o ≡ None → o ≡ Some a → ⊥
no_value {A} o a none some = let z : None ≡ Some a = sym none ∙ some in cc

-- a split is in the midst of no step, where none is
pub calm_firm : (generation : ℕ → ℕ) (base : Bases generation) (s range : ℕ) → base.midst ≡ None → IsFirm generation base s range
calm_firm generation base s range calm e = no_value base.midst (s, range) calm e

module _ (generation : ℕ → ℕ) (nodes target : ℕ) (base : Bases generation) (c : Cluster) (y : ServerRun) (s range : ℕ) where
  -- where none was, it may be
  abbrev pub into_midst : Standing generation nodes target base c y → base.midst ≡ None → Standing generation nodes target (in_midst generation base s range) c y
  into_midst x calm = over_base generation nodes target c y x (in_midst generation base s range) x.grows (λ u k r job h split firm. x.keys u k r job h split (calm_firm generation base u k calm))

  -- and where its two ranges stand again it is over
  pub out_of_midst : (x : Standing generation nodes target (in_midst generation base s range) c y) →
      ((r : RangeState) (job : SplitJob) → HeldAt c.servers s range r → SplitAt c.servers s range job → (i : ℕ) → x.incarnation s range ≡ Some i → KeysStand generation nodes target x.moves x.machines (y.history s) i r job job.phase) →
      Standing generation nodes target base c y
  out_of_midst x own = over_base generation nodes target c y x base x.grows all_keys
    where
      all_keys : (u k : ℕ) (r : RangeState) (job : SplitJob) → HeldAt c.servers u k r → SplitAt c.servers u k job → IsFirm generation base u k → (i : ℕ) → x.incarnation u k ≡ Some i → KeysStand generation nodes target x.moves x.machines (y.history u) i r job job.phase
      all_keys u k r job h split firm i mine = elim (cases_eq u s) [
        | inr other ↦ x.keys u k r job h split (λ e. (let pair : (s, range) ≡ (u, k) = cc in other (sym (ap (λ (p : ℕ × ℕ). p.0) pair)))) i mine
        | inl at_s ↦ elim (cases_eq k range) [
          | inr other ↦ x.keys u k r job h split (λ e. (let pair : (s, range) ≡ (u, k) = cc in other (sym (ap (λ (p : ℕ × ℕ). p.1) pair)))) i mine
          | inl of_range ↦
              subst (λ n. KeysStand generation nodes target x.moves x.machines (y.history n) i r job job.phase) (sym at_s)
              (own r job (subst (λ n. HeldAt c.servers n range r) at_s (subst (λ j. HeldAt c.servers u j r) of_range h)) (subst (λ n. SplitAt c.servers n range job) at_s (subst (λ j. SplitAt c.servers u j job) of_range split)) i
              (subst (λ n. x.incarnation n range ≡ Some i) at_s (subst (λ j. x.incarnation u j ≡ Some i) of_range mine)))
        ]
      ]

-- ---- runs

-- actions on streams of two ranges, one after the other
pub sides_joined : (s g : ℕ) (y : ServerRun) (later before : List SideAction) → after_sides s g y (later ++ before) ≡ after_sides s g (after_sides s g y before) later
sides_joined s g y [] before = refl
sides_joined s g y (side ∷ later) before = ap (λ z. after_action s side.range g z side.action) (sides_joined s g y later before)

-- those on one of them
pub sides_tagged : (s g range : ℕ) (y : ServerRun) (actions : List StreamAction) → after_sides s g y (tagged range actions) ≡ after_actions s range g y actions
sides_tagged s g range y [] = refl
sides_tagged s g range y (action ∷ earlier) = ap (λ z. after_action s range g z action) (sides_tagged s g range y earlier)

-- servers that were otherwise in between are as they are in the end
pub twice_done : (y : ServerRun) (first second : List ServerCell) (ps qs all : List Packet) →
    with_outcome (with_outcome y (record { servers = first; packets = ps; notes = [] })) (record { servers = second; packets = qs; notes = [] }) ≡ with_outcome y (record { servers = second; packets = all; notes = [] })
twice_done y first second ps qs all = ap (λ (ns : List TableNote). record y { servers = second; notes = ns ++ [] }) (append-nil y.notes)

-- a step on the streams of one range and then on those of another, and one that does nothing with streams
pub three_done : (s g low high : ℕ) (y : ServerRun) (sides : List SideAction) (low_actions high_actions : List StreamAction) → sides ≡ tagged high high_actions ++ tagged low low_actions →
    (first second third : List ServerCell) (ps qs rs all : List Packet) →
    with_outcome (with_outcome (after_actions s high g (with_outcome (after_actions s low g y low_actions) (record { servers = first; packets = ps; notes = [] })) high_actions) (record { servers = second; packets = qs; notes = [] }))
    (record { servers = third; packets = rs; notes = [] })
    ≡ with_outcome (after_sides s g y sides) (record { servers = third; packets = all; notes = [] })
three_done s g low high y sides low_actions high_actions are first second third ps qs rs all =
    let before : ServerRun = after_actions s low g y low_actions in
    let both : ServerRun = after_actions s high g before high_actions in
    ap (λ z. with_outcome (with_outcome z (record { servers = second; packets = qs; notes = [] })) (record { servers = third; packets = rs; notes = [] })) (actions_outcome s high g before (record { servers = first; packets = ps; notes = [] }) high_actions)
    ∙ ap (λ z. with_outcome z (record { servers = third; packets = rs; notes = [] })) (twice_done both first second ps qs qs)
    ∙ twice_done both second third qs rs all
    ∙ ap (λ z. with_outcome z (record { servers = third; packets = all; notes = [] }))
    (sym
    (ap (λ l. after_sides s g y l) are ∙ sides_joined s g y (tagged high high_actions) (tagged low low_actions) ∙ sides_tagged s g high (after_sides s g y (tagged low low_actions)) high_actions
    ∙ ap (λ z. after_actions s high g z high_actions) (sides_tagged s g low y low_actions)))
