-- A trace that grows by one entry.
use Rattle.std.proofs.Common.{◌≡◌, ◌<◌, ℕ, List, [], ◌∷◌, ◌++◌, Option, None, refl, sym, ap, ◌∙◌, subst, append-nil, append_assoc, arith}
use Rattle.wire.specs.declared.note.Note.{Note}
use Rattle.wire.specs.declared.packet.Packet.{Packet}
use Rattle.model_streams.specs.declared.event.Event.{Event}
use Rattle.model_streams.specs.declared.event.Event.TheVariants.{Deliver}
use Rattle.model_partition.specs.Servers.{noted}
use Rattle.stamp_traces.specs.declared.takers.Takers.{Takers}
use Rattle.world_actors.specs.Inputs.{Carries, takers_in}
use Rattle.laws_traces.specs.Traces.{HasPacket, IsLegalEntry, IsLegalFrom, RunEntry, events_of, observed, sent_by, unheard}

-- ---- one entry

-- an event that actors take has its packet, if it is a delivery
has_packet : (ns : List ℕ) (event : Event) (packet : Option Packet) (t : Takers) → t ≡ takers_in ns (record { event = event; packet = packet }) → t.first < t.end → HasPacket event packet
has_packet ns (Deliver number) None t takers some =
    let first = ap (λ (k : Takers). k.first) takers in let end = ap (λ (k : Takers). k.end) takers in absurd (omega (arith, some, first, end))
has_packet ns event packet t takers some = tt

-- an entry that has actors is legal where they are those whose event it is
pub legal_taken : (ns : List ℕ) (post : List Packet) (x : RunEntry) → x.takers ≡ takers_in ns x.event → x.takers.first < x.takers.end → Carries post x.event → IsLegalEntry ns post x
legal_taken ns post x takers some carries = record {
  takers = takers;
  carries = carries;
  sent = has_packet ns x.event.event x.event.packet x.takers takers some;
  untaken = λ none. absurd (omega (arith, some, none));
}

-- an entry that has none is legal where the event has none, and has no other reply than such an event has
pub legal_untaken : (ns : List ℕ) (post : List Packet) (x : RunEntry) → x.takers ≡ takers_in ns x.event → x.reply ≡ unheard x.event.event → Carries post x.event →
    HasPacket x.event.event x.event.packet → IsLegalEntry ns post x
legal_untaken ns post x takers reply carries sent = record { takers = takers; carries = carries; sent = sent; untaken = λ none. reply }

-- ---- one entry more

pub legal_after : (ns : List ℕ) (post : List Packet) (xs : List RunEntry) (x : RunEntry) → IsLegalFrom ns post xs → IsLegalEntry ns (post ++ sent_by xs) x → IsLegalFrom ns post (xs ++ x ∷ [])
legal_after ns post [] x legal last = (subst (λ (l : List Packet). IsLegalEntry ns l x) (append-nil post) last, tt)
legal_after ns post (y ∷ ys) x legal last =
    (legal.0, legal_after ns (post ++ y.reply.packets) ys x legal.1 (subst (λ (l : List Packet). IsLegalEntry ns l x) (sym (append_assoc post y.reply.packets (sent_by ys))) last))

pub sent_after : (xs : List RunEntry) (x : RunEntry) → sent_by (xs ++ x ∷ []) ≡ sent_by xs ++ x.reply.packets
sent_after [] x = append-nil x.reply.packets
sent_after (y ∷ ys) x = ap (λ (l : List Packet). y.reply.packets ++ l) (sent_after ys x) ∙ sym (append_assoc y.reply.packets (sent_by ys) x.reply.packets)

pub events_after : (xs : List RunEntry) (x : RunEntry) → events_of (xs ++ x ∷ []) ≡ events_of xs ++ x.event.event ∷ []
events_after [] x = refl
events_after (y ∷ ys) x = ap (λ (l : List Event). y.event.event ∷ l) (events_after ys x)

pub observed_after : (notes : List Note) (xs : List RunEntry) (x : RunEntry) → observed notes (xs ++ x ∷ []) ≡ noted (observed notes xs ++ x.reply.notes) x.reply.tables
observed_after notes [] x = refl
observed_after notes (y ∷ ys) x = observed_after (noted (notes ++ y.reply.notes) y.reply.tables) ys x
