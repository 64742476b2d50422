-- A request about row data, as both streams of a range see it: it is about none of their extents that is not sealed, and its number is
-- none of theirs.
use Rattle.std.proofs.Common.{◌≡◌, ℕ, true, List, Option, Some, None, option_to_list, sym, ap, ◌∙◌, subst}
use Rattle.wire.specs.declared.actor.ReqNo.{ReqNo}
use Rattle.wire.specs.declared.body.AppendBody.TheVariants as appends
use Rattle.wire.specs.declared.body.SealBody.TheVariants as seals
use Rattle.wire.specs.declared.body.StreamBody.TheVariants as streams
use Rattle.wire.specs.declared.body.Body.{Body}
use Rattle.wire.specs.declared.body.Body.TheVariants as bodies
use Rattle.wire.specs.declared.packet.Packet.{Packet}
use Rattle.wire.specs.declared.streams.StreamKind.TheVariants as kinds
use Rattle.wire.specs.declared.streams.StreamName.{StreamName}
use Rattle.replica.specs.Groups.{Group}
use Rattle.client.specs.Client.{awaits}
use Rattle.model_streams.specs.Manager.{sealed_lengths}
use Rattle.model_streams.specs.StreamSystem.{StreamSystem}
use Rattle.model_partition.specs.Range.{RangeState}
use Rattle.model_histories.specs.StreamMachine as machine
use Rattle.laws_stream_machine.specs.Refinement.{Sent, purpose_of, IsAt, IsAsked, OfExtent}
use Rattle.laws_ranges.specs.Serves.{Side, metadata_of, log_of, rows_of, IsOfRows, IsAside, BothListed, IsKnown, BuildsNone, AskedOfBoth}
use Rattle.laws_ranges.proofs.RowData.{IsRequest, IsRequestIf}

no_metadata : (range : ℕ) → rows_of range ≡ metadata_of range → ⊥
no_metadata range e = let z : kinds.RowData ≡ kinds.Metadata = ap (λ (n : StreamName). n.kind) e in cc

no_log : (range : ℕ) → rows_of range ≡ log_of range → ⊥
no_log range e = let z : kinds.RowData ≡ kinds.Log = ap (λ (n : StreamName). n.kind) e in cc

module _ (generation : ℕ → ℕ) (range : ℕ) (w : StreamSystem) (i : ℕ) (both : BothListed w range) where
  -- a stream that has no unsealed extent of row data sees nothing of the request
  module _ (name : StreamName) (s : machine.MachineState Group) (m l sent : List Sent) (other : rows_of range ≡ name → ⊥) (sealed : (k e : ℕ) → IsOfRows w range e → IsAt w name k e → sealed_lengths w.catalog e ≡ None → ⊥)
      (aside : (q : ReqNo) → IsAside m l q → purpose_of sent q ≡ None) where
    elsewhere : (e : ℕ) (q : ReqNo) (Asks : ℕ → Type 0) → IsOfRows w range e → IsAside m l q → OfExtent generation name w s sent e q Asks
    elsewhere e q Asks of apart = record {
      made = both.rows_made e of;
      unsealed = λ k at. absurd (sealed k e of at.0 at.1);
      known = λ p for. (let c : None ≡ Some p = sym (aside q apart) ∙ for in absurd cc);
    }

    unseen : (after : RangeState) (body : Body) → IsRequest range w m l after.rows body → IsAsked generation name w s sent body
    unseen after (bodies.Append (appends.Append e g blocks q)) b = elsewhere e q _ b.0 b.1
    unseen after (bodies.Append body) b = absurd b
    unseen after (bodies.Seal (seals.SealExtent e q)) b = elsewhere e q _ b.0 b.1
    unseen after (bodies.Seal body) b = absurd b
    unseen after (bodies.Stream (streams.Extend stream g last pick q)) b = record { here = λ same. absurd (other (sym b.0 ∙ same)); elsewhere = λ z. aside q b.1 }
    unseen after (bodies.Stream body) b = absurd b
    unseen after body b = absurd b

  known_rows : (m l : List Sent) (after : RangeState) (body : Body) → IsRequest range w m l after.rows body → IsKnown generation range w i (Some after) m l body
  known_rows m l after (bodies.Append (appends.Append e g blocks q)) b = λ v is one two. (let same : q ≡ v = cc in (subst (λ z. awaits after.rows.job z ≡ true) same b.2, b.3))
  known_rows m l after (bodies.Append body) b = absurd b
  known_rows m l after (bodies.Seal (seals.SealExtent e q)) b = λ v is one two. (let same : q ≡ v = cc in (subst (λ z. awaits after.rows.job z ≡ true) same b.2, tt))
  known_rows m l after (bodies.Seal body) b = absurd b
  known_rows m l after (bodies.Stream (streams.Extend stream g last pick q)) b = λ v is one two. (let same : q ≡ v = cc in (subst (λ z. awaits after.rows.job z ≡ true) same b.2, b.0))
  known_rows m l after (bodies.Stream body) b = absurd b
  known_rows m l after body b = absurd b

  rows_build : (m l : List Sent) (after : RangeState) (body : Body) → IsRequest range w m l after.rows body → BuildsNone body
  rows_build m l after (bodies.Stream (streams.MultiModify list q)) b = absurd b
  rows_build m l after body b = tt

  -- what the client of row data sends
  pub rows_asked : (after : RangeState) (n k : Side) (p : Option Packet) → IsRequestIf range w n.sent k.sent after.rows p → AskedOfBoth generation range w i (Some after) n k (option_to_list p)
  rows_asked after n k None b = tt
  rows_asked after n k (Some p) b = (
    (
      unseen (metadata_of range) n.stand.state n.sent k.sent n.sent (no_metadata range) both.rows_metadata (λ q a. a.0) after p.body b,
      unseen (log_of range) k.stand.state n.sent k.sent k.sent (no_log range) both.rows_log (λ q a. a.1) after p.body b,
      known_rows n.sent k.sent after p.body b,
      rows_build n.sent k.sent after p.body b,
    ),
    tt,
  )
