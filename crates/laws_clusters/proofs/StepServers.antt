-- What a server has after a step of one of its ranges, and what each server had before.
use Rattle.std.proofs.Common.{◌≡◌, ℕ, ◌-◌, List, Option, Some, slice_set, sym, ap, ◌∙◌, subst, inl, inr}
use Rattle.std.proofs.lemmas.Bool.{cases_eq}
use Rattle.wire.specs.declared.actor.ReqNo.{ReqNo}
use Rattle.wire.specs.declared.body.Body.{Body}
use Rattle.model_streams.specs.Maps.{entry_at}
use Rattle.model_partition.specs.declared.split_job.SplitJob.{SplitJob}
use Rattle.model_partition.specs.Range.{RangeState}
use Rattle.model_partition.specs.Server.{ServerState, range_of, split_of}
use Rattle.model_partition.specs.Servers.{ServerCell}
use Rattle.laws_loads.proofs.Entries.{entry_set, entry_other}
use Rattle.laws_clusters.proofs.Invariant.{HeldAt, SplitAt, Waiter, OfRows, OfSeal, OfCall, Waits, AskedBy}
use Rattle.laws_clusters.proofs.StepShapes.{AreLeft, SplitsLeft}

module _ (servers : List ServerCell) (s : ℕ) (cell : ServerCell) (st : ServerState) (at : entry_at servers s ≡ Some cell) (is : cell.state ≡ Some st) (range : ℕ) (o : Option RangeState) (split : Option SplitJob) (after : ServerState)
    (shape : AreLeft st.ranges after.ranges range o) (split_shape : SplitsLeft st.splits after.splits range split) where
  abbrev cell_then : ServerCell
  cell_then = record cell { state = Some after }

  abbrev pub servers_then : List ServerCell
  servers_then = slice_set servers (s - 1) cell_then

  abbrev pub Away : ℕ → ℕ → Type 0
  Away t k = (t ≡ s) → (k ≡ range) → ⊥

  pub state_is : (u : ServerCell) (v : ServerState) → entry_at servers_then s ≡ Some u → u.state ≡ Some v → after ≡ v
  state_is u v there up =
      let found_cell : Some cell_then ≡ Some u = sym (entry_set servers s cell cell_then at) ∙ there in
      let cell_is : cell_then ≡ u = cc in
      let state : Some after ≡ Some v = ap (λ (z : ServerCell). z.state) cell_is ∙ up in
      cc

  pub own_range : (r : RangeState) → HeldAt servers_then s range r → o ≡ Some r
  own_range r h = shape.here r (ap (λ (z : ServerState). range_of z.ranges range) (state_is h.cell h.state h.there h.up) ∙ h.found)

  pub own_split : (job : SplitJob) → SplitAt servers_then s range job → split ≡ Some job
  own_split job h = sym split_shape.here ∙ ap (λ (z : ServerState). split_of z.splits range) (state_is h.cell h.state h.there h.up) ∙ h.found

  pub held_back : (u k : ℕ) (r : RangeState) → Away u k → HeldAt servers_then u k r → HeldAt servers u k r
  held_back u k r away h = elim (cases_eq u s) [
    | inl same ↦
        (let there : entry_at servers_then s ≡ Some h.cell = subst (λ n. entry_at servers_then n ≡ Some h.cell) same h.there in
        let found : range_of after.ranges k ≡ Some r = ap (λ (z : ServerState). range_of z.ranges k) (state_is h.cell h.state there h.up) ∙ h.found in
        subst (λ n. HeldAt servers n k r) (sym same) (record { cell = cell; state = st; there = at; up = is; found = sym (shape.others k (away same)) ∙ found }))
    | inr apart ↦ record { cell = h.cell; state = h.state; there = sym (entry_other servers s cell cell_then at u apart) ∙ h.there; up = h.up; found = h.found }
  ]

  pub split_back : (u k : ℕ) (job : SplitJob) → Away u k → SplitAt servers_then u k job → SplitAt servers u k job
  split_back u k job away h = elim (cases_eq u s) [
    | inl same ↦
        (let there : entry_at servers_then s ≡ Some h.cell = subst (λ n. entry_at servers_then n ≡ Some h.cell) same h.there in
        let found : split_of after.splits k ≡ Some job = ap (λ (z : ServerState). split_of z.splits k) (state_is h.cell h.state there h.up) ∙ h.found in
        subst (λ n. SplitAt servers n k job) (sym same) (record { cell = cell; state = st; there = at; up = is; found = sym (split_shape.others k (away same)) ∙ found }))
    | inr apart ↦ record { cell = h.cell; state = h.state; there = sym (entry_other servers s cell cell_then at u apart) ∙ h.there; up = h.up; found = h.found }
  ]

  pub others_wait : (u k : ℕ) (by : Waiter) (q : ReqNo) → Away u k → Waits servers_then u k by q → Waits servers u k by q
  others_wait u k OfRows q away (r, h, waits_so) = (r, held_back u k r away h, waits_so)
  others_wait u k OfSeal q away (job, h, waits_so) = (job, split_back u k job away h, waits_so)
  others_wait u k OfCall q away (job, h, waits_so) = (job, split_back u k job away h, waits_so)

  pub others_ask : (u k : ℕ) (by : Waiter) (body : Body) → Away u k → AskedBy servers u k by body → AskedBy servers_then u k by body
  others_ask u k OfRows body away asks = λ r h. asks r (held_back u k r away h)
  others_ask u k OfSeal body away asks = tt
  others_ask u k OfCall body away asks = λ job h. asks job (split_back u k job away h)
