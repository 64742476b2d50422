-- What a turn of a server changes of its ranges and of their splits: those of one range.
use Rattle.std.proofs.Common.{◌≡◌, ◌⊎◌, ℕ, ◌-◌, List, Option, Some, None, slice_set, sym, ap, ◌∙◌, subst, inl, inr}
use Rattle.std.specs.BTreeMap.{insert_entry}
use Rattle.std.specs.Ordering.{nat_cmp}
use Rattle.std.proofs.lemmas.Bool.{cases_eq}
use Rattle.model_streams.specs.Maps.{entry_at}
use Rattle.model_partition.specs.declared.server_context.ServerContext.{ServerContext}
use Rattle.model_partition.specs.declared.split_job.SplitJob.{SplitJob}
use Rattle.model_partition.specs.Range.{RangeState}
use Rattle.model_partition.specs.Server.{ServerState, range_of, set_range, new_range, split_of, set_split}
use Rattle.model_partition.specs.Servers.{ServerCell}
use Rattle.laws_loads.proofs.Entries.{entry_set, entry_other}
use Rattle.laws_server_runs.specs.Places.{AreAscending}
use Rattle.laws_server_runs.specs.Turns.{LeavesSplit}
use Rattle.laws_server_runs.proofs.RangeLists.{inserted_here, inserted_other, dropped_here, dropped_other, left_here, left_other}

-- it leaves this of the range, and others and their splits are as they were
pub record ChangesOne (st next : ServerState) (range : ℕ) (after : Option RangeState) (later : Option SplitJob) : Type 0 where
  pub range_here : range_of next.ranges range ≡ after
  pub split_here : split_of next.splits range ≡ later
  pub ranges : (k : ℕ) → (k ≡ range → ⊥) → range_of next.ranges k ≡ range_of st.ranges k
  pub splits : (k : ℕ) → (k ≡ range → ⊥) → split_of next.splits k ≡ split_of st.splits k

module _ (st next : ServerState) (ascending : AreAscending st.ranges) (splits_ascending : AreAscending st.splits) (range : ℕ) where
  -- its load begins
  pub opened_one : (d : ServerContext) (generation until : ℕ) → next.ranges ≡ insert_entry nat_cmp st.ranges range (new_range d range generation until) → next.splits ≡ set_split st.splits range None →
      ChangesOne st next range (Some (new_range d range generation until)) None
  opened_one d generation until new splits = record {
    range_here = ap (λ l. range_of l range) new ∙ inserted_here st.ranges range (new_range d range generation until);
    split_here = ap (λ l. split_of l range) splits ∙ dropped_here st.splits range splits_ascending;
    ranges = λ k other. ap (λ l. range_of l k) new ∙ inserted_other st.ranges range (new_range d range generation until) k other;
    splits = λ k other. ap (λ l. split_of l k) splits ∙ dropped_other st.splits range k other;
  }

  -- it takes a step
  pub acted_one : (r : RangeState) → range_of st.ranges range ≡ Some r → (after : Option RangeState) (later : Option SplitJob) → next.ranges ≡ set_range st.ranges range after → LeavesSplit st.splits range later next.splits →
      ChangesOne st next range after later
  acted_one r held after later left splits = record {
    range_here = ap (λ l. range_of l range) left ∙ left_here st.ranges range r after ascending held;
    split_here = here later next.splits splits;
    ranges = λ k other. ap (λ l. range_of l k) left ∙ left_other st.ranges range after k other;
    splits = λ k other. elsewhere later next.splits k other splits;
  }
    where
      here : (later : Option SplitJob) (after : List (ℕ × SplitJob)) → LeavesSplit st.splits range later after → split_of after range ≡ later
      here later after (inl (same, is_later)) = ap (λ l. split_of l range) same ∙ is_later
      here None after (inr e) = ap (λ l. split_of l range) e ∙ dropped_here st.splits range splits_ascending
      here (Some job) after (inr e) = ap (λ l. split_of l range) e ∙ inserted_here st.splits range job

      elsewhere : (later : Option SplitJob) (after : List (ℕ × SplitJob)) (k : ℕ) → (k ≡ range → ⊥) → LeavesSplit st.splits range later after → split_of after k ≡ split_of st.splits k
      elsewhere later after k other (inl (same, is_later)) = ap (λ l. split_of l k) same
      elsewhere None after k other (inr e) = ap (λ l. split_of l k) e ∙ dropped_other st.splits range k other
      elsewhere (Some job) after k other (inr e) = ap (λ l. split_of l k) e ∙ inserted_other st.splits range job k other

-- One of the servers goes to another state: each that runs then is that one, or was there.
pub found_after : (servers : List ServerCell) (s : ℕ) (cell : ServerCell) → entry_at servers s ≡ Some cell → (next : ServerState) (t : ℕ) (c : ServerCell) (q : ServerState) →
    entry_at (slice_set servers (s - 1) (record cell { state = Some next })) t ≡ Some c → c.state ≡ Some q → ((t ≡ s) × (next ≡ q)) ⊎ ((t ≡ s → ⊥) × (entry_at servers t ≡ Some c))
found_after servers s cell at next t c q there up = elim (cases_eq t s) [
  | inl same ↦
      (let both : Some (record cell { state = Some next }) ≡ Some c =
      sym (entry_set servers s cell (record cell { state = Some next }) at) ∙ subst (λ n. entry_at (slice_set servers (s - 1) (record cell { state = Some next })) n ≡ Some c) same there in
      let is_cell : record cell { state = Some next } ≡ c = cc in
      let state : Some next ≡ Some q = ap (λ (z : ServerCell). z.state) is_cell ∙ up in
      inl (same, cc))
  | inr other ↦ inr (other, sym (entry_other servers s cell (record cell { state = Some next }) at t other) ∙ there)
]
