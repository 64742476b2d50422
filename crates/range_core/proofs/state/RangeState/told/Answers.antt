use Rattle.std.proofs.Common.{ℕ, ◌≤◌, ◌∙◌, List, length, sym, subst}
use Rattle.wire.specs.declared.packet.Packet.{Packet}
use Rattle.range_core.proofs.Counts.{few_dones}
use Rattle.range_core.proofs.state.RangeState.told.Goals as goal

pub returns-clause-few : goal.returns-clause-few
returns-clause-few c = (
  subst (λ (l : List Packet). length l ≤ 1024) (sym c.reserve.ensures.items) c.in_ok-packets.ensures.bound,
  few_dones _ _ _ _ c.reserve-2.new.self.items
      (c.reserve-2.ensures.items ∙ c.in_ok-packets.ensures.notes) (subst (λ (n : ℕ). n ≤ 1024) c.count-most.ensures.value c.count-most.ensures.bound),
)
