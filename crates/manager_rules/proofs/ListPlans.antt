-- A plan that builds streams from the lists of others: its record's bytes are read as they were written.
use Rattle.std.proofs.Common.{◌≡◌, ℕ, Bool, true, false, List, Option, Some, None, if◌then◌else◌, refl}
use Rattle.wire.specs.declared.actor.ReqNo.{ReqNo}
use Rattle.wire.specs.declared.packet.Packet.{Packet}
use Rattle.wire.specs.declared.refusal.Refusal.{Refusal}
use Rattle.wire.specs.declared.refusal.Refusal.TheVariants.{NoSuchStream}
use Rattle.wire.specs.declared.streams.Modify.{Modify}
use Rattle.streams.specs.Streams.{Streams, may_list, first_build_fault, modify_fault}
use Rattle.manager_state.specs.RecordBytes.{IsListInRange}
use Rattle.manager_state.proofs.Spelling.{multi_modify_again}
use Rattle.manager_rules.specs.Plan.{IsReadAgain, modify_in}

-- a list that is not refused has few streams and sources
pub may_be_listed : (sealed : ℕ → Option ℕ) (streams : Streams) (list : List Modify) → modify_fault sealed streams list ≡ None → may_list list ≡ true
may_be_listed sealed streams list none = by_test (may_list list) (first_build_fault sealed streams list) none
  where
    by_test : (b : Bool) (fault : Option Refusal) → (if b then fault else Some NoSuchStream) ≡ None → b ≡ true
    by_test true fault none = refl
    by_test false fault none = absurd cc

pub read_again : (sealed : ℕ → Option ℕ) (streams : Streams) (p : Packet) (list : List Modify) (q : ReqNo) → IsListInRange list →
    let plan = modify_in p list q (modify_fault sealed streams list) in IsReadAgain plan.change
read_again sealed streams p list q fits = by_fault (modify_fault sealed streams list) (may_be_listed sealed streams list)
  where
    by_fault : (fault : Option Refusal) → (fault ≡ None → may_list list ≡ true) → let plan = modify_in p list q fault in IsReadAgain plan.change
    by_fault None may = multi_modify_again list (may refl) fits
    by_fault (Some refusal) may = tt
