-- Each rule of a node's table keeps what is known.
use Rattle.std.proofs.Common.{◌≡◌, ℕ, Option, Some, None, refl}
use Rattle.wire.specs.declared.actor.ActorId.TheVariants.{Node}
use Rattle.wire.specs.declared.body.AppendBody.{AppendBody}
use Rattle.wire.specs.declared.body.AppendBody.TheVariants.{Append, Put, Have}
use Rattle.wire.specs.declared.body.SealBody.{SealBody}
use Rattle.wire.specs.declared.body.SealBody.TheVariants.{Make, Freeze, Seal, SendTail, Tail}
use Rattle.wire.specs.declared.body.CheckBody.{CheckBody}
use Rattle.wire.specs.declared.body.CheckBody.TheVariants.{Check, Probe, Probed}
use Rattle.wire.specs.declared.body.ReadBody.{ReadBody}
use Rattle.wire.specs.declared.body.ReadBody.TheVariants as reads
use Rattle.wire.specs.declared.body.Body.{Body}
use Rattle.wire.specs.declared.body.Body.TheVariants as bodies
use Rattle.model_streams.specs.Actors.{is_manager}
use Rattle.model_streams.specs.Node.{Replica, append_extent, check_extent, seal_extent, read_extent, extent_of, append_body_rule, check_body_rule, seal_body_rule, read_body_rule, missing, node_rule}
use Rattle.model_streams.specs.Outcome.{silent}
use Rattle.model_streams.proofs.Tests.{if_elim}
use Rattle.laws_streams.proofs.Choices.{Each}
use Rattle.laws_streams.proofs.Ground.{Ground, Sound, FineAppend, FineCheckBody, FineSeal, FineBody, FinePacket, FineNote, FineReplica}
use Rattle.laws_streams.proofs.RestsOnGround.{Moment}
use Rattle.laws_streams.proofs.RuleInvariant.{Keeps, sent, kept_silent}
use Rattle.laws_streams.proofs.AppendRules.{make_keeps, append_keeps, put_keeps}
use Rattle.laws_streams.proofs.HaveRule.{have_keeps}
use Rattle.laws_streams.proofs.CheckRules.{check_keeps, probe_keeps, probed_keeps}
use Rattle.laws_streams.proofs.ReadRules.{read_keeps, groups_keep}
use Rattle.laws_streams.proofs.SealRules.{freeze_keeps, seal_keeps, send_tail_keeps, tail_keeps}

append_body_keeps : (now : Moment) (g : Ground) (n : ℕ) (s : Option Replica) (b : AppendBody) → now.packet.to ≡ Node n → now.packet.body ≡ bodies.Append b → Sound g → Each (FineNote g) now.told →
    FineReplica g n (append_extent b) s → FineAppend g now.packet.from b → Keeps now g n (append_extent b) (append_body_rule n s now.packet b)
append_body_keeps now g n (Some r) (Append e generation blocks q) to is sound notes fine body = append_keeps now g n e generation r blocks q sound fine to is
append_body_keeps now g n None (Append e generation blocks q) to is sound notes fine body = sent now g n e None _ sound fine (tt, tt)
append_body_keeps now g n (Some r) (Put e offset group) to is sound notes fine body = put_keeps now g n e offset r now.packet group sound fine body
append_body_keeps now g n None (Put e offset group) to is sound notes fine body = sent now g n e None _ sound fine (tt, tt)
append_body_keeps now g n (Some r) (Have e length) to is sound notes fine body = have_keeps now g n e length r now.packet sound notes fine body
append_body_keeps now g n None (Have e length) to is sound notes fine body = sent now g n e None _ sound fine (tt, tt)
append_body_keeps now g n s b to is sound notes fine body = kept_silent now g n (append_extent b) s sound fine

check_body_keeps : (now : Moment) (g : Ground) (n : ℕ) (s : Option Replica) (b : CheckBody) → now.packet.to ≡ Node n → now.packet.body ≡ bodies.Check b → Sound g →
    FineReplica g n (check_extent b) s → FineCheckBody g now.packet.from now.packet.to b → Keeps now g n (check_extent b) (check_body_rule n s now.packet b)
check_body_keeps now g n (Some r) (Check e generation q) to is sound fine body = check_keeps now g n e generation r q sound fine to is
check_body_keeps now g n None (Check e generation q) to is sound fine body = sent now g n e None _ sound fine (tt, tt)
check_body_keeps now g n (Some r) (Probe e generation) to is sound fine body = probe_keeps now g n e generation r now.packet sound fine
check_body_keeps now g n None (Probe e generation) to is sound fine body = sent now g n e None _ sound fine (tt, tt)
check_body_keeps now g n (Some r) (Probed e generation length) to is sound fine body = probed_keeps now g n e generation length r now.packet sound fine body
check_body_keeps now g n None (Probed e generation length) to is sound fine body = sent now g n e None _ sound fine (tt, tt)
check_body_keeps now g n s b to is sound fine body = kept_silent now g n (check_extent b) s sound fine

missing_keeps : (now : Moment) (g : Ground) (n e : ℕ) → Sound g → FineReplica g n e None → Keeps now g n e (missing n now.packet)
missing_keeps now g n e sound fine =
    if_elim (Keeps now g n e) (is_manager now.packet.from) _ (silent None) (λ t. sent now g n e None _ sound fine (tt, tt)) (λ f. kept_silent now g n e None sound fine)

seal_body_keeps : (now : Moment) (g : Ground) (n : ℕ) (s : Option Replica) (b : SealBody) → Sound g →
    FineReplica g n (seal_extent b) s → FineSeal g now.packet.from b → Keeps now g n (seal_extent b) (seal_body_rule n s now.packet b)
seal_body_keeps now g n None (Make e fence target places) sound fine body = make_keeps now g n now.packet e fence target places sound fine body
seal_body_keeps now g n (Some r) (Freeze e) sound fine body = freeze_keeps now g n e r now.packet sound fine
seal_body_keeps now g n None (Freeze e) sound fine body = missing_keeps now g n e sound fine
seal_body_keeps now g n (Some r) (Seal e length) sound fine body = seal_keeps now g n e length r now.packet sound fine body
seal_body_keeps now g n None (Seal e length) sound fine body = missing_keeps now g n e sound fine
seal_body_keeps now g n (Some r) (SendTail e from to) sound fine body = send_tail_keeps now g n e from to r now.packet sound fine
seal_body_keeps now g n None (SendTail e from to) sound fine body = missing_keeps now g n e sound fine
seal_body_keeps now g n (Some r) (Tail e from length groups) sound fine body = tail_keeps now g n e from length groups r now.packet sound fine body
seal_body_keeps now g n None (Tail e from length groups) sound fine body = sent now g n e None _ sound fine (tt, tt)
seal_body_keeps now g n s b sound fine body = kept_silent now g n (seal_extent b) s sound fine

read_body_keeps : (now : Moment) (g : Ground) (n : ℕ) (s : Option Replica) (b : ReadBody) → Sound g →
    FineReplica g n (read_extent b) s → Keeps now g n (read_extent b) (read_body_rule n s now.packet b)
read_body_keeps now g n (Some r) (reads.ReadAt e offset length q) sound fine = read_keeps now g n e offset length r now.packet q sound fine
read_body_keeps now g n None (reads.ReadAt e offset length q) sound fine = sent now g n e None _ sound fine (tt, tt)
read_body_keeps now g n (Some r) (reads.ReadGroups e upto sealed q) sound fine = groups_keep now g n e upto sealed r now.packet q sound fine
read_body_keeps now g n None (reads.ReadGroups e upto sealed q) sound fine = sent now g n e None _ sound fine (tt, tt)
read_body_keeps now g n s b sound fine = kept_silent now g n (read_extent b) s sound fine

body_keeps : (now : Moment) (g : Ground) (n : ℕ) (s : Option Replica) (b : Body) → now.packet.to ≡ Node n → now.packet.body ≡ b → Sound g → Each (FineNote g) now.told →
    FineReplica g n (extent_of b) s → FineBody g now.packet.from now.packet.to b → Keeps now g n (extent_of b) (node_rule n s now.packet b)
body_keeps now g n s (bodies.Append b) to is sound notes fine body = append_body_keeps now g n s b to is sound notes fine body
body_keeps now g n s (bodies.Check b) to is sound notes fine body = check_body_keeps now g n s b to is sound fine body
body_keeps now g n s (bodies.Seal b) to is sound notes fine body = seal_body_keeps now g n s b sound fine body
body_keeps now g n s (bodies.Read b) to is sound notes fine body = read_body_keeps now g n s b sound fine
body_keeps now g n s b to is sound notes fine body = kept_silent now g n (extent_of b) s sound fine

-- whatever is delivered to node n
pub node_keeps : (now : Moment) (g : Ground) (n : ℕ) (s : Option Replica) → now.packet.to ≡ Node n → Sound g → Each (FineNote g) now.told →
    FineReplica g n (extent_of now.packet.body) s → FinePacket g now.packet →
    Keeps now g n (extent_of now.packet.body) (node_rule n s now.packet now.packet.body)
node_keeps now g n s to sound notes fine body = body_keeps now g n s now.packet.body to refl sound notes fine body
