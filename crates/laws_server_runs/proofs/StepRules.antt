-- What a step of a range that may be split begins to append to its metadata: the record of its checkpoint, which is then sent, or that of
-- its split; and that a table is shown by a load alone.
use Rattle.std.proofs.Common.{◌≡◌, ℕ, ◌&&◌, List, [], ◌∷◌, ◌++◌, Option, Some, None, is_some, refl, sym, ap, ◌∙◌, subst, if◌then◌else◌}
use Rattle.wire.specs.declared.streams.StreamKind.TheVariants as kinds
use Rattle.wire.specs.declared.body.Body.{Body}
use Rattle.client.specs.declared.job.News.{News}
use Rattle.client.specs.declared.job.News.TheVariants as news
use Rattle.client.specs.declared.load.LoadPhase.TheVariants as load_phases
use Rattle.client.specs.Client.{awaits, reply_rule}
use Rattle.client.specs.Load.{load_awaits}
use Rattle.model_streams.proofs.Tests.{if_elim}
use Rattle.model_partition.specs.CheckpointStates.{CheckpointState}
use Rattle.model_partition.specs.declared.server_context.ServerContext.{ServerContext}
use Rattle.model_partition.specs.declared.shown_table.ShownTable.{ShownTable}
use Rattle.model_partition.specs.declared.split_job.SplitJob.{SplitJob}
use Rattle.model_partition.specs.declared.split_job.SplitPhase.{SplitPhase}
use Rattle.model_partition.specs.declared.split_job.SplitPhase.TheVariants as phases
use Rattle.model_partition.specs.declared.table_note.TableNote.{TableNote}
use Rattle.model_partition.specs.declared.table_note.TableNote.TheVariants as tables
use Rattle.model_partition.specs.Answering.{answer_rule, give_up_all}
use Rattle.model_partition.specs.Range.{RangeState, RangeOutcome, request, picking, is_serving}
use Rattle.model_partition.specs.Splits.{SplitStep, stays, new_split, split_rule, split_reply, drains, has_number, is_drained, may_record, follows_in, follows, gives_up}
use Rattle.model_histories.specs.StreamActions.{StreamAction, Forms, split_group, split_stood_in, drain_actions, follow_actions_in, follow_actions}
use Rattle.laws_loads.specs.RangeView.{RangeView}
use Rattle.laws_server_runs.specs.ChildInvariant.{SplitPhaseHolds, SplitHolds, SplitHoldsIf}
use Rattle.laws_server_runs.specs.Places.{RangeLaid, StepLaid, IsQuiet, SendsRecord, IsRecording, FormsRecords, Quiet, OfRecord, IsConfirmed, TablesAre, RuleLaid}
use Rattle.laws_server_runs.specs.Turns.{IsRule, Transacts, Answers, Gets, Yields, Checkpoints, Renews, stood_by, with_split, of_split, IsStep, Alone, BeginsSplit, Drops, Follows, Leaves, Holds, Hears, IsHeard}
use Rattle.laws_server_runs.proofs.LaidRules.{rule_left}
use Rattle.laws_server_runs.proofs.LaidSplits.{laid_step}
use Rattle.laws_server_runs.proofs.RunSteps.{IsAnyPair}

-- where an append to the metadata begins it is that of the record of a checkpoint, or of a split
pub data StepForms (r : RangeState) (o : Option RangeState) : List StreamAction → Type 0 where
  OfRule : (actions : List StreamAction) (forms : FormsRecords r o actions) → StepForms r o actions
  OfSplit : (job : SplitJob) (earlier : List StreamAction) (quiet : IsQuiet earlier) → StepForms r o (Forms kinds.Metadata (split_group job) ∷ earlier)

-- what a step leaves of the range
pub record StepRuled (k : ℕ) (v : RangeView) (r : RangeState) (actions : List StreamAction) (o : RangeOutcome) : Type 0 where
  pub step : StepLaid k v r.load.generation actions o
  pub forms : StepForms r o.after actions
  pub tables : TablesAre (IsConfirmed r actions) o.notes

-- ---- tables

tables_on : (Old New : ShownTable → Type 0) → ((table : ShownTable) → Old table → New table) → (notes : List TableNote) → TablesAre Old notes → TablesAre New notes
tables_on Old New on [] all = tt
tables_on Old New on (tables.Began range generation number changes ∷ notes) all = tables_on Old New on notes all
tables_on Old New on (tables.Done range generation number ∷ notes) all = tables_on Old New on notes all
tables_on Old New on (tables.Got range generation key value ∷ notes) all = tables_on Old New on notes all
tables_on Old New on (tables.Loaded range generation table next ∷ notes) all = (on table all.0, tables_on Old New on notes all.1)

-- ---- a range that is split

of_rule : (k : ℕ) (v : RangeView) (r : RangeState) (actions : List StreamAction) (o : RangeOutcome) → RuleLaid k v r actions o → StepRuled k v r actions o
of_rule k v r actions o ruled = record { step = ruled.step; forms = OfRule actions ruled.forms; tables = ruled.tables }

module _ (k : ℕ) (v : RangeView) (r : RangeState) (before : RangeLaid k v r) (job : SplitJob) (h : SplitHolds r job) where
  -- ---- while its checkpoint is under way its split waits for it, or for the map

  abbrev IsEarly : SplitPhase → Type 0
  IsEarly (phases.Begin q) = Unit {0}
  IsEarly phases.Checkpoint = Unit {0}
  IsEarly phase = ⊥

  module _ (was now : CheckpointState) (under_way : r.control ≡ Some was) where
    no_control : r.control ≡ None → ⊥
    no_control none = let z : None ≡ Some was = sym none ∙ under_way in absurd cc

    early : (phase : SplitPhase) → SplitPhaseHolds r job phase → IsEarly phase
    early (phases.Begin q) p = tt
    early phases.Checkpoint p = tt
    early phases.Queue p = no_control p
    early phases.Record p = no_control p.control
    early (phases.Seal kind q) p = no_control p.control
    early (phases.Build q) p = no_control p.control
    early (phases.Keys side c) p = no_control p.0.control
    early (phases.Complete q) p = no_control p.0.control

    module _ (d : ServerContext) (next : RangeState) (control : next.control ≡ Some now) where
      follow_in_none : (phase : SplitPhase) → IsEarly phase → follow_actions_in next job phase ≡ []
      follow_in_none (phases.Begin q) e = refl
      follow_in_none phases.Checkpoint e = ap (λ (c : Option CheckpointState). if is_some c then [] else drain_actions next job) control
      follow_in_none phases.Queue e = absurd e
      follow_in_none phases.Record e = absurd e
      follow_in_none (phases.Seal kind q) e = absurd e
      follow_in_none (phases.Build q) e = absurd e
      follow_in_none (phases.Keys side c) e = absurd e
      follow_in_none (phases.Complete q) e = absurd e

      -- so it does nothing
      follow_none : follow_actions d next job ≡ []
      follow_none = if_elim (λ (l : List StreamAction). l ≡ []) (has_number d) _ _ (λ t. follow_in_none job.phase (early job.phase h.phase)) (λ f. refl)

      same_in : (phase : SplitPhase) → IsEarly phase → (follows_in d next job phase).range ≡ Some next
      same_in (phases.Begin q) e = refl
      same_in phases.Checkpoint e = ap (λ (c : Option CheckpointState). (if is_some c then stays d next job else drains d next job).range) control
      same_in phases.Queue e = absurd e
      same_in phases.Record e = absurd e
      same_in (phases.Seal kind q) e = absurd e
      same_in (phases.Build q) e = absurd e
      same_in (phases.Keys side c) e = absurd e
      same_in (phases.Complete q) e = absurd e

      follows_same : (follows d next job).range ≡ Some next
      follows_same = if_elim (λ (t : SplitStep). t.range ≡ Some next) (has_number d) _ _ (λ t. same_in job.phase (early job.phase h.phase)) (λ f. refl)

    stood_in_none : (phase : SplitPhase) → IsEarly phase → (told : Option News) → split_stood_in r job phase told ≡ []
    stood_in_none (phases.Begin q) e told = refl
    stood_in_none phases.Checkpoint e told = refl
    stood_in_none phases.Queue e told = absurd e
    stood_in_none phases.Record e told = absurd e
    stood_in_none (phases.Seal kind q) e told = absurd e
    stood_in_none (phases.Build q) e told = absurd e
    stood_in_none (phases.Keys side c) e told = absurd e
    stood_in_none (phases.Complete q) e told = absurd e

    stood_none : {actions : List StreamAction} {o : RangeOutcome} (rule : IsRule r actions o) → stood_by job rule ≡ []
    stood_none (Answers d w body) =
        if_elim (λ (l : List StreamAction). l ≡ []) (is_some (answer_rule d r w body).after) _ _
        (λ there. if_elim (λ (l : List StreamAction). l ≡ []) (load_awaits r.load.phase w) _ _ (λ t. refl)
        (λ f. if_elim (λ (l : List StreamAction). l ≡ []) (awaits r.metadata.job w) _ _
        (λ t. if_elim (λ (l : List StreamAction). l ≡ []) (is_serving r.stage) _ _
        (λ serving. stood_in_none job.phase (early job.phase h.phase) (reply_rule (picking d r.metadata) (request d) body).news) (λ f. refl)) (λ f. refl))) (λ f. refl)
    stood_none (Transacts d from q changes) = refl
    stood_none (Gets d from q key) = refl
    stood_none (Yields d) = refl
    stood_none (Checkpoints d combine may) = refl
    stood_none (Renews until count) = refl

  -- the answer to the split's record begins no append
  stood_in_quiet : (phase : SplitPhase) (told : Option News) (ys : List StreamAction) → IsQuiet ys → IsQuiet (split_stood_in r job phase told ++ ys)
  stood_in_quiet phases.Record (Some (news.Appended e offset)) ys quiet = quiet
  stood_in_quiet phases.Record None ys quiet = quiet
  stood_in_quiet phases.Record (Some news.Fenced) ys quiet = quiet
  stood_in_quiet phases.Record (Some (news.Checked e l)) ys quiet = quiet
  stood_in_quiet phases.Record (Some (news.Sealed e l)) ys quiet = quiet
  stood_in_quiet phases.Record (Some (news.Content e upto)) ys quiet = quiet
  stood_in_quiet phases.Checkpoint told ys quiet = quiet
  stood_in_quiet phases.Queue told ys quiet = quiet
  stood_in_quiet (phases.Begin q) told ys quiet = quiet
  stood_in_quiet (phases.Seal kind q) told ys quiet = quiet
  stood_in_quiet (phases.Build q) told ys quiet = quiet
  stood_in_quiet (phases.Keys side c) told ys quiet = quiet
  stood_in_quiet (phases.Complete q) told ys quiet = quiet

  stood_quiet : {actions : List StreamAction} {o : RangeOutcome} (rule : IsRule r actions o) (ys : List StreamAction) → IsQuiet ys → IsQuiet (stood_by job rule ++ ys)
  stood_quiet (Answers d w body) ys quiet =
      let Is : List StreamAction → Type 0 = λ l. IsQuiet (l ++ ys) in
      if_elim Is (is_some (answer_rule d r w body).after) _ _
      (λ there. if_elim Is (load_awaits r.load.phase w) _ _ (λ t. quiet)
      (λ f. if_elim Is (awaits r.metadata.job w) _ _
      (λ t. if_elim Is (is_serving r.stage) _ _ (λ serving. stood_in_quiet job.phase (reply_rule (picking d r.metadata) (request d) body).news ys quiet) (λ f. quiet)) (λ f. quiet))) (λ f. quiet)
  stood_quiet (Transacts d from q changes) ys quiet = quiet
  stood_quiet (Gets d from q key) ys quiet = quiet
  stood_quiet (Yields d) ys quiet = quiet
  stood_quiet (Checkpoints d combine may) ys quiet = quiet
  stood_quiet (Renews until count) ys quiet = quiet

  -- ---- a step of the range, and its split behind it

  -- no table is shown
  tables_none : (New : ShownTable → Type 0) (actions : List StreamAction) (notes : List TableNote) → TablesAre (IsConfirmed r actions) notes → TablesAre New notes
  tables_none New actions notes all =
      tables_on (IsConfirmed r actions) New (λ table c. absurd (let z : load_phases.Confirmed ≡ load_phases.Confirming c.request = sym (before.confirmed h.serving) ∙ c.phase in cc)) notes all

  module _ (o : RangeOutcome) (d : ServerContext) (next : RangeState) (left : o.after ≡ Some next) {own : List StreamAction} (rule : IsRule r own o) where
    abbrev all : List StreamAction
    all = follow_actions d next job ++ (stood_by job rule ++ own)

    -- behind what begins no append
    module _ (rest : List StreamAction) (quiet : IsQuiet rest) where
      abbrev Behind : List StreamAction → Type 0
      Behind l = StepForms r (follows d next job).range (l ++ rest)

      nothing : Behind []
      nothing = OfRule rest (Quiet rest quiet)

      drain_behind : Behind (drain_actions next job)
      drain_behind = if_elim Behind (is_drained next && may_record next job) _ _ (λ t. OfSplit job rest quiet) (λ f. nothing)

      in_behind : (phase : SplitPhase) → Behind (follow_actions_in next job phase)
      in_behind phases.Checkpoint = if_elim Behind (is_some next.control) _ _ (λ t. nothing) (λ f. drain_behind)
      in_behind phases.Queue = drain_behind
      in_behind phases.Record = nothing
      in_behind (phases.Begin q) = nothing
      in_behind (phases.Seal kind q) = nothing
      in_behind (phases.Build q) = nothing
      in_behind (phases.Keys side c) = nothing
      in_behind (phases.Complete q) = nothing

      follow_behind : Behind (follow_actions d next job)
      follow_behind = if_elim Behind (has_number d) _ _ (λ t. in_behind job.phase) (λ f. nothing)

    forms_all : (a : Option RangeState) → a ≡ Some next → (actions : List StreamAction) → own ≡ actions → FormsRecords r a actions → StepForms r (follows d next job).range all
    forms_all a is actions same (Quiet done quiet) = follow_behind (stood_by job rule ++ own) (stood_quiet rule own (subst IsQuiet (sym same) quiet))
    forms_all a is actions same (OfRecord group earlier quiet recording) =
        let sends : SendsRecord r next = subst (IsRecording r) is recording in
        let list : all ≡ own = (λ i. follow_none sends.before sends.job sends.under_way d next sends.control i ++ (stood_none sends.before sends.job sends.under_way rule i ++ own)) in
        subst (StepForms r (follows d next job).range) (sym (list ∙ same))
        (subst (λ x. StepForms r x (Forms kinds.Metadata group ∷ earlier)) (sym (follows_same sends.before sends.job sends.under_way d next sends.control))
        (OfRule (Forms kinds.Metadata group ∷ earlier) (OfRecord group earlier quiet sends)))

-- ---- any step

pub step_ruled : (k : ℕ) (v : RangeView) (r : RangeState) → RangeLaid k v r → (job : Option SplitJob) → SplitHoldsIf (Some r) job → (actions : List StreamAction) (o : RangeOutcome) (later : Option SplitJob) → IsStep IsAnyPair r job actions o later →
    StepRuled k v r actions o
step_ruled k v r before job h actions o later (Alone own_actions own rule) = of_rule k v r own_actions own (rule_left k v r before own_actions own rule)
step_ruled k v r before job h actions o later (BeginsSplit d key may none splits) = record {
  step = laid_step k v r before IsAnyPair None [] (of_split (split_rule d r key)) (Some (new_split d r key)) (BeginsSplit d key may none splits);
  forms = OfRule [] (Quiet [] tt);
  tables = tt;
}
step_ruled k v r before job h actions o later (Drops split own_actions own rule calm gone) = of_rule k v r own_actions own (rule_left k v r before own_actions own rule)
step_ruled k v r before job h actions o later (Follows split own_actions own rule calm room d counts next left) =
    let ruled : RuleLaid k v r own_actions own = rule_left k v r before own_actions own rule in
    record {
      step = laid_step k v r before IsAnyPair (Some split) (follow_actions d next split ++ (stood_by split rule ++ own_actions)) (with_split own (follows d next split)) (follows d next split).job
          (Follows split own_actions own rule calm room d counts next left);
      forms = forms_all k v r before split h own d next left rule own.after left own_actions refl ruled.forms;
      tables = tables_none k v r before split h (IsConfirmed r (follow_actions d next split ++ (stood_by split rule ++ own_actions))) own_actions own.notes ruled.tables;
    }
step_ruled k v r before job h actions o later (Leaves split c d next left) = record {
  step = laid_step k v r before IsAnyPair (Some split) [] (with_split (give_up_all c r) (gives_up d next split)) (gives_up d next split).job (Leaves split c d next left);
  forms = OfRule [] (Quiet [] tt);
  tables = (rule_left k v r before [] (give_up_all c r) (Yields c)).tables;
}
step_ruled k v r before job h actions o later (Holds split until count) = record {
  step = laid_step k v r before IsAnyPair (Some split) [] (record { after = Some (record r { until = until }); count = count; packets = []; notes = [] }) (Some split) (Holds split until count);
  forms = OfRule [] (Quiet [] tt);
  tables = tt;
}
step_ruled k v r before job h actions o later (Hears split d body numbered) = record {
  step = laid_step k v r before IsAnyPair (Some split) [] (of_split (split_reply d r split body)) (split_reply d r split body).job (Hears split d body numbered);
  forms = OfRule [] (Quiet [] tt);
  tables = tt;
}

-- a split that hears an answer shows nothing
pub heard_notes : (r : RangeState) (job : Option SplitJob) (actions : List StreamAction) (o : RangeOutcome) (later : Option SplitJob) (d : ServerContext) (body : Body) (step : IsStep IsAnyPair r job actions o later) → IsHeard d body step → o.notes ≡ []
heard_notes r job actions o later d body (Alone own_actions own rule) heard = absurd heard
heard_notes r job actions o later d body (BeginsSplit c key may none splits) heard = absurd heard
heard_notes r job actions o later d body (Drops split own_actions own rule calm gone) heard = absurd heard
heard_notes r job actions o later d body (Follows split own_actions own rule calm room c counts next left) heard = absurd heard
heard_notes r job actions o later d body (Leaves split c e next left) heard = absurd heard
heard_notes r job actions o later d body (Holds split until count) heard = absurd heard
heard_notes r job actions o later d body (Hears split c told numbered) heard = refl
