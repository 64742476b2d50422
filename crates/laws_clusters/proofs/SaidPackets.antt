-- Packets that leave each stream as it is: what servers and the map tell, and requests to build the streams of a split.
use Rattle.std.proofs.Common.{◌≡◌, ◌⊎◌, ℕ, zero, suc, true, false, List, [], ◌∷◌, Contains, refl, sym, ap, ◌∙◌, subst, inl, inr, arith}
use Rattle.wire.specs.declared.actor.ActorId.TheVariants.{Server}
use Rattle.wire.specs.declared.actor.ReqNo.{ReqNo}
use Rattle.wire.specs.declared.body.AppendBody.TheVariants as appends
use Rattle.wire.specs.declared.body.Body.{Body}
use Rattle.wire.specs.declared.body.Body.TheVariants as bodies
use Rattle.wire.specs.declared.body.StreamBody.TheVariants.{MultiModify}
use Rattle.wire.specs.declared.packet.Packet.{Packet}
use Rattle.wire.specs.declared.streams.Modify.{Modify}
use Rattle.wire.specs.declared.streams.StreamName.{StreamName}
use Rattle.replica.specs.Groups.{Group}
use Rattle.model_streams.specs.StreamSystem.{StreamSystem, is_told, is_server_call, are_of_one_kind}
use Rattle.model_partition.specs.declared.split_job.SplitJob.{SplitJob}
use Rattle.model_partition.specs.Splits.{all_streams}
use Rattle.model_histories.specs.StreamMachine.{MachineState}
use Rattle.laws_servers.specs.Sending.{MaySend, MaySendAll}
use Rattle.laws_stream_machine.specs.Refinement.{Sent, IsThere, IsAsked}
use Rattle.laws_clusters.proofs.RangeStreams.{IsOfSplit, LeavesAlone, told_alone}

-- a server asks to build the streams of a split
pub record AsksToBuild (w : StreamSystem) (p : Packet) : Type 0 where
  pub server : ℕ
  pub from : p.from ≡ Server server
  pub list : List Modify
  pub request : ReqNo
  pub body : p.body ≡ bodies.Stream (MultiModify list request)
  pub split : IsOfSplit w list

abbrev pub IsSaid : StreamSystem → Packet → Type 0
IsSaid w p = (is_told p.body ≡ true) ⊎ AsksToBuild w p

abbrev pub AreSaid : StreamSystem → List Packet → Type 0
AreSaid w [] = Unit {0}
AreSaid w (p ∷ packets) = IsSaid w p × AreSaid w packets

pub said_of : (w : StreamSystem) (packets : List Packet) → AreSaid w packets → (p : Packet) → Contains packets p → IsSaid w p
said_of w [] said p (at, less, is) = absurd (omega (arith, less))
said_of w (x ∷ packets) said p (zero, less, is) = subst (IsSaid w) is said.0
said_of w (x ∷ packets) said p (suc at, less, is) = said_of w packets said.1 p (at, omega (arith, less), is)

-- ---- they may be sent

kinds_of : (job : SplitJob) → are_of_one_kind (all_streams job) ≡ true
kinds_of job = refl

may_say : (w : StreamSystem) (p : Packet) → IsSaid w p → MaySend p
may_say w p (inl told) = inr told
may_say w p (inr b) = inl (record { server = b.server; from = b.from; call = ap is_server_call b.body ∙ ap are_of_one_kind b.split.is ∙ kinds_of b.split.job })

pub said_sent : (w : StreamSystem) (packets : List Packet) → AreSaid w packets → MaySendAll packets
said_sent w [] said = tt
said_sent w (p ∷ packets) said = (may_say w p said.0, said_sent w packets said.1)

-- ---- they ask for nothing of a stream that is there, and for none that is not

told_plain : (generation : ℕ → ℕ) (u : StreamSystem) (body : Body) → is_told body ≡ true → (name : StreamName) (m : MachineState Group) (sent : List Sent) → IsAsked generation name u m sent body
told_plain generation u (bodies.Map body) told name m sent = tt
told_plain generation u (bodies.Table body) told name m sent = tt
told_plain generation u (bodies.Append (appends.Refused q why)) told name m sent = tt
told_plain generation u (bodies.Append body) told name m sent = absurd cc
told_plain generation u body told name m sent = absurd cc

pub said_plain : (generation : ℕ → ℕ) (w u : StreamSystem) (p : Packet) → IsSaid w p → (name : StreamName) → IsThere u name → (m : MachineState Group) (sent : List Sent) → IsAsked generation name u m sent p.body
said_plain generation w u p (inl told) name there m sent = told_plain generation u p.body told name m sent
said_plain generation w u p (inr b) name there m sent = subst (λ (body : Body). IsAsked generation name u m sent body) (sym b.body) (λ x among same. there)

pub said_alone : (w : StreamSystem) (name : StreamName) (p : Packet) → IsSaid w p → LeavesAlone name p.body
said_alone w name p (inl told) = told_alone name p.body told
said_alone w name p (inr b) = subst (LeavesAlone name) (sym b.body) tt

-- ---- and build the streams of splits alone

pub said_list : (w : StreamSystem) (p : Packet) → IsSaid w p → (list : List Modify) (q : ReqNo) → p.body ≡ bodies.Stream (MultiModify list q) → IsOfSplit w list
said_list w p (inl told) list q is = absurd (let c : false ≡ true = ap is_told (sym is) ∙ told in cc)
said_list w p (inr b) list q is =
    let both : bodies.Stream (MultiModify b.list b.request) ≡ bodies.Stream (MultiModify list q) = sym b.body ∙ is in
    let same : b.list ≡ list = cc in
    subst (IsOfSplit w) same b.split
