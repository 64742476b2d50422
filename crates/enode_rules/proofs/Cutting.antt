-- The rule of a seal that cuts a replica.
use Rattle.std.proofs.Common.{◌≡◌, ℕ, true, List, [], Option, Some, None, Ok, Err, ap}
use Rattle.block_types.specs.declared.record.Record.TheVariants as records
use Rattle.disk.specs.declared.device.DiskFault.{DiskFault}
use Rattle.disk.specs.Disk.{DiskState}
use Rattle.disk.specs.Filed.{Filed}
use Rattle.disk.specs.Appends.{Appends}
use Rattle.wire.specs.declared.body.SealBody.TheVariants.{IsSealed}
use Rattle.wire.specs.declared.packet.Packet.{Packet}
use Rattle.wire.specs.declared.packet.Step.{Step}
use Rattle.replica.specs.Groups.{Group}
use Rattle.replica.specs.Replay.{cut_to, is_boundary}
use Rattle.model_streams.specs.Node.{Replica, fresh, cuts, to_manager}
use Rattle.enode_rules.specs.Performs.{ReplicaPerforms}
use Rattle.enode_rules.proofs.RecordedRules.{performed_ok, performed_err}

pub cut_ok : {D : Type 0} (state : D → DiskState) (n : ℕ) (was is : Replica) (p : Packet) (e upto : ℕ) (found : Option (List Group)) (old new : Filed D) (s : Step) →
    is_boundary found ≡ true → is ≡ fresh (cut_to was.content found) → s.packets ≡ to_manager n (IsSealed e) → s.notes ≡ [] →
    Appends {T = Unit} state old new (records.Seal e upto) (Ok tt) → ReplicaPerforms state was is old new (cuts n was p e upto found) (Ok s)
cut_ok state n was is p e upto None old new s ends same sent shown h = absurd cc
cut_ok state n was is p e upto (Some groups) old new s ends same sent shown h =
    performed_ok state was is old new _ (records.Seal e upto) _ s h (ap (λ x. Some x) same) sent shown

pub cut_err : {D : Type 0} (state : D → DiskState) (n : ℕ) (was is : Replica) (p : Packet) (e upto : ℕ) (found : Option (List Group)) (old new : Filed D) (x : DiskFault) →
    is_boundary found ≡ true → is ≡ was → Appends {T = Unit} state old new (records.Seal e upto) (Err x) → ReplicaPerforms state was is old new (cuts n was p e upto found) (Err x)
cut_err state n was is p e upto None old new x ends same h = absurd cc
cut_err state n was is p e upto (Some groups) old new x ends same h = performed_err state was is old new _ (records.Seal e upto) _ x h same
