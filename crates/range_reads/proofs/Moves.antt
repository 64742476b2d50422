-- Gets whose last reads move on.
use Rattle.std.proofs.Common.{◌≡◌, ℕ, ◌+◌, ◌<◌, ◌≤◌, List, [], ◌∷◌, ◌++◌, length, map, take, get_or, Option, Some, None, refl, sym, ap, ◌∙◌, arith}
use Rattle.std.specs.Prelude.{option_map, option_to_list}
use Rattle.std.specs.List.{flat_map}
use Rattle.std.proofs.lemmas.List.{map_more, take_more, append-nil}
use Rattle.std.proofs.lemmas.List.Concat.{flat_map-cons, flat_map-append}
use Rattle.wire.specs.declared.packet.Packet.{Packet}
use Rattle.model_partition.specs.declared.server_context.ServerContext.{ServerContext}
use Rattle.model_partition.specs.declared.waiting.PlaceRead.{PlaceRead}
use Rattle.model_partition.specs.declared.waiting.WaitingGet.{WaitingGet}
use Rattle.model_partition.specs.Getting.{gives_up_read}
use Rattle.model_partition.specs.PlaceReads.{moved_on}
use Rattle.model_partition.specs.Range.{RangeState}
use Rattle.range_reads.specs.Moving.{last_moved, last_asked}

plain : (d : ServerContext) (r : RangeState) (g : WaitingGet) (o : Option PlaceRead) → gives_up_read d r g o ≡ (record g { reads = last_moved g.reads o }, last_asked d r (option_map moved_on o))
plain d r g None = refl
plain d r g (Some read) = refl

pub moves : (d : ServerContext) (r : RangeState) (g : WaitingGet) (o : Option PlaceRead) (key : List ℕ) (reads : List PlaceRead) (packets : List Packet) → key ≡ g.key → reads ≡ last_moved g.reads o → packets ≡ last_asked d r (option_map moved_on o)
    → gives_up_read d r g o ≡ (record { from = g.from; request = g.request; key = key; reads = reads }, packets)
moves d r g o key reads packets key_is reads_are packets_are =
    plain d r g o ∙ sym (λ i. (record { from = g.from; request = g.request; key = key_is i; reads = reads_are i }, packets_are i))

-- ---- one Get more

pub next_get : (f : WaitingGet → WaitingGet × List Packet) (gets : List WaitingGet) (i : ℕ) (g made : WaitingGet) (packets : List Packet) (before after : List WaitingGet) → i < length gets → g ≡ get_or gets i g → f g ≡ (made, packets)
    → before ≡ map (λ x. (f x).0) (take i gets) → after ≡ before ++ made ∷ [] → after ≡ map (λ x. (f x).0) (take (i + 1) gets)
next_get f gets i g made packets before after lt is made_is before_is after_is =
    let one : (f (get_or gets i g)).0 ≡ made = ap (λ (x : WaitingGet). (f x).0) (sym is) ∙ ap (λ (p : WaitingGet × List Packet). p.0) made_is in
    after_is ∙ ap (λ (l : List WaitingGet). l ++ made ∷ []) before_is
    ∙ sym (map_more (λ (x : WaitingGet). (f x).0) gets i g lt ∙ ap (λ (x : WaitingGet). map (λ (y : WaitingGet). (f y).0) (take i gets) ++ x ∷ []) one)

pub next_packets : (f : WaitingGet → WaitingGet × List Packet) (gets : List WaitingGet) (i : ℕ) (g made : WaitingGet) (packets before after : List Packet) → i < length gets → g ≡ get_or gets i g → f g ≡ (made, packets)
    → before ≡ flat_map (λ x. (f x).1) (take i gets) → after ≡ before ++ packets → after ≡ flat_map (λ x. (f x).1) (take (i + 1) gets)
next_packets f gets i g made packets before after lt is made_is before_is after_is =
    let of : WaitingGet → List Packet = λ x. (f x).1 in
    let one : (f (get_or gets i g)).1 ≡ packets = ap (λ (x : WaitingGet). (f x).1) (sym is) ∙ ap (λ (p : WaitingGet × List Packet). p.1) made_is in
    let more : flat_map (λ (x : WaitingGet). (f x).1) (get_or gets i g ∷ []) ≡ packets = flat_map-cons (λ (x : WaitingGet). (f x).1) (get_or gets i g) [] ∙ append-nil (f (get_or gets i g)).1 ∙ one in
    after_is ∙ ap (λ (l : List Packet). l ++ packets) before_is
    ∙ sym (ap (flat_map (λ (x : WaitingGet). (f x).1)) (take_more gets i g lt) ∙ flat_map-append (λ (x : WaitingGet). (f x).1) (take i gets) (get_or gets i g ∷ [])
    ∙ ap (λ (l : List Packet). flat_map (λ (x : WaitingGet). (f x).1) (take i gets) ++ l) more)

pub at_most_one : (o : Option Packet) → length (option_to_list o) ≤ 1
at_most_one None = omega arith
at_most_one (Some p) = omega arith
