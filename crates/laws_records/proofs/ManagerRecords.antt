-- Each record that fits a catalog is written by a rule of the manager; the first is the one that a manager is made with.
use Rattle.std.proofs.Common.{◌≡◌, ℕ, suc, Bool, true, false, not, ◌==◌, ◌+◌, nat_lt, nat_le, List, [], ◌∷◌, ◌++◌, length, Option, Some, None, Result, Ok, refl, sym, ap, subst, ◌∙◌}
use Rattle.std.specs.Prelude.{if◌then◌else◌}
use Rattle.std.specs.List.{All}
use Rattle.std.proofs.lemmas.Bool.{and_parts, eq-eqb, ltb-true, lt-leb, not-true}
use Rattle.block_types.specs.declared.record.Nodes.{Nodes}
use Rattle.blocks.proofs.Formats.{some_is}
use Rattle.block_types.specs.declared.record.Record.{Record}
use Rattle.block_types.specs.declared.record.Record.TheVariants.{Manage}
use Rattle.wire.specs.declared.actor.ActorId.TheVariants.{Node, Manager, Server}
use Rattle.wire.specs.declared.actor.ReqNo.TheVariants.{NoRequest}
use Rattle.wire.specs.declared.body.SealBody.TheVariants.{Frozen}
use Rattle.wire.specs.declared.body.StreamBody.TheVariants as calls
use Rattle.wire.specs.declared.body.Body.TheVariants as bodies
use Rattle.wire.specs.declared.packet.Packet.{Packet}
use Rattle.wire.specs.declared.refusal.Refusal.{Refusal}
use Rattle.wire.specs.declared.refusal.Refusal.TheVariants.{Stale, NoSuchStream}
use Rattle.wire.specs.declared.streams.Modify.{Modify}
use Rattle.wire.specs.declared.streams.StreamName.{StreamName}
use Rattle.streams.specs.Streams.{Stream, base_of, is_there, stream_of, create_fault, has_four, all_pass, open_fault, last_of, is_number, behind, extending, trim_of_log, trimming, modify_fault}
use Rattle.model_streams.specs.declared.extent.Extent.{Extent}
use Rattle.model_streams.specs.declared.manager_record.ManagerRecord.{ManagerRecord}
use Rattle.model_streams.specs.declared.manager_record.ManagerRecord.TheVariants as records
use Rattle.model_streams.specs.Actors.{is_node}
use Rattle.model_streams.specs.Outcome.{Outcome, packet, silent, sends}
use Rattle.model_streams.specs.RecordBytes.{spelled, record_of}
use Rattle.model_streams.specs.Manager.{Catalog, forgotten, forgotten_if, new_extent, sealed_to, create_tests, create_refusal, create_taken, open_tests, open_refusal, open_taken, is_pick, sealed_in, sealed_lengths, extend_answered, extend_made, trim_answered, modify_refusal, modify_taken, with_extent, with_report, frozen_to, noted, frozen_rule, least_told, decided_if, decide_rule, reminders}
use Rattle.model_streams.specs.Replay.{after_record, sealed_if, extended_if, catalog_after, manager_record_of, replay_from, catalog_replay, is_closed, may_extend, extend_fits, seal_fits, trim_fits, loses_extents, manager_record_fits, fit_from, catalog_fits}
use Rattle.model_streams.proofs.Tests.{changed_elim}
use Rattle.laws_records.specs.Texts.{IsByte, HasBytes}
use Rattle.laws_records.specs.ManagerRecords.{WritesNext, AtPacket, AtDecision, ManagerWrites, at_packet, at_decision}
use Rattle.laws_records.proofs.Choosing.{Writes, if_so, if_not, unmet, unrefused}
use Rattle.laws_records.proofs.Readers.{bytes_of_text}
use Rattle.laws_records.proofs.ManagerTexts.{text_spelled}

-- the record as it stands in the file
abbrev filed : ManagerRecord → Record
filed r = Manage (spelled r)

none_there : {A : Type 0} (o : Option A) → not (is_there o) ≡ true → o ≡ None
none_there None none = refl
none_there (Some x) none = absurd cc

-- ---- CreateStream and OpenStreams

create_written : (b : Catalog) (s : StreamName) (fence : ℕ) → not (is_there (create_fault b.stream s)) ≡ true → WritesNext b (filed (records.CreateStream s fence))
create_written b s fence fits =
    let sent : Packet = packet (Server 1) Manager (bodies.Stream (calls.CreateStream s fence NoRequest)) in
    AtPacket sent (λ same. absurd cc)
    (unrefused (filed (records.CreateStream s fence)) b Manager sent NoRequest (create_refusal b sent s) (create_taken b sent s fence NoRequest)
    (unmet (create_tests b sent s) (refl, (not-true (is_there (create_fault b.stream s)) fits, tt))) refl)

may_open : (four above : Bool) → not (is_there (if four then (if above then None else Some Stale) else Some NoSuchStream)) ≡ true → (four ≡ true) × (above ≡ true)
may_open true true fits = (refl, refl)
may_open true false fits = absurd cc
may_open false above fits = absurd cc

open_written : (b : Catalog) (range generation : ℕ) → not (is_there (open_fault b.stream range generation)) ≡ true → WritesNext b (filed (records.OpenStreams range generation))
open_written b range generation fits =
    let sent : Packet = packet (Server 1) Manager (bodies.Stream (calls.OpenStreams range generation NoRequest)) in
    let may = may_open (has_four b.stream range) (all_pass (λ x. nat_lt x.fence generation) b.stream range) fits in
    AtPacket sent (λ same. absurd cc)
    (unrefused (filed (records.OpenStreams range generation)) b Manager sent NoRequest (open_refusal b sent range generation) (open_taken b sent range generation NoRequest)
    (unmet (open_tests b sent range generation) (refl, (ap not may.0, (ap not may.1, tt)))) refl)

-- ---- Extend

closed_in : (x : Option Extent) → is_closed x ≡ true → is_there (sealed_in x) ≡ true
closed_in None closed = absurd cc
closed_in (Some x) closed = closed

behind_last : (b : Catalog) (last : Option ℕ) → may_extend b last ≡ true → behind (sealed_lengths b) last last ≡ Ok None
behind_last b None may = refl
behind_last b (Some e) may =
    if_so (λ (o : Result (Option ℕ) Refusal). o ≡ Ok None) (is_number e (Some e)) _ _ (eq-eqb e e refl)
    (if_so (λ (o : Result (Option ℕ) Refusal). o ≡ Ok None) (is_there (sealed_lengths b e)) _ _ (closed_in (b.extent e) may) refl)

extend_written : (b : Catalog) (s : StreamName) (generation : ℕ) (pick : Nodes) (x : Option Stream) → stream_of b.stream s ≡ x → is_pick b.nodes pick ≡ true → extend_fits b generation x ≡ true →
    WritesNext b (filed (records.Extend s generation pick))
extend_written b s generation pick None is picks fits = absurd cc
extend_written b s generation pick (Some x) is picks fits =
    let last : Option ℕ = last_of x.extents in
    let sent : Packet = packet (Server 1) Manager (bodies.Stream (calls.Extend s generation last pick NoRequest)) in
    let parts = and_parts (generation == x.fence) (may_extend b last) fits in
    let found : extending (sealed_lengths b) (stream_of b.stream s) generation last ≡ Ok None =
    ap (λ (o : Option Stream). extending (sealed_lengths b) o generation last) is
    ∙ if_so (λ (o : Result (Option ℕ) Refusal). o ≡ Ok None) (generation == x.fence) _ _ parts.0 (behind_last b last parts.1) in
    AtPacket sent (λ same. absurd cc)
    (ap (λ (o : Result (Option ℕ) Refusal). (extend_answered b sent s generation pick NoRequest o).written) found
    ∙ if_so (Writes (filed (records.Extend s generation pick))) (is_pick b.nodes pick) (extend_made b sent s generation pick NoRequest) _ picks refl)

-- ---- Trim and MultiModify

trim_found : (log : Stream) (before : ℕ) → loses_extents log before ≡ true → trim_of_log log log.fence before ≡ Ok true
trim_found log before loses =
    let parts = and_parts (nat_lt (base_of log) before) _ loses in
    if_so (λ (o : Result Bool Refusal). o ≡ Ok true) (log.fence == log.fence) _ _ (eq-eqb log.fence log.fence refl)
    (if_not (λ (o : Result Bool Refusal). o ≡ Ok true) (nat_le before (base_of log)) _ _ (lt-leb before (base_of log) (ltb-true _ _ parts.0))
    (if_so (λ (o : Result Bool Refusal). o ≡ Ok true) (nat_lt before (base_of log + length log.extents)) _ _ parts.1 refl))

trim_written : (b : Catalog) (range before : ℕ) (to_blob : Bool) (log blob_data : Option Stream) → b.stream range 1 ≡ log → b.stream range 3 ≡ blob_data → trim_fits log blob_data before ≡ true →
    WritesNext b (filed (records.Trim range before to_blob))
trim_written b range before to_blob None blob_data log_is blob_is fits = absurd cc
trim_written b range before to_blob (Some log) None log_is blob_is fits = absurd cc
trim_written b range before to_blob (Some log) (Some blob_data) log_is blob_is fits =
    let sent : Packet = packet (Server 1) Manager (bodies.Stream (calls.Trim range log.fence before to_blob NoRequest)) in
    let found : trimming b.stream range log.fence before ≡ Ok true = rw (log_is, blob_is) (trim_found log before fits) in
    AtPacket sent (λ same. absurd cc) (ap (λ (o : Result Bool Refusal). (trim_answered b sent range before to_blob NoRequest o).written) found)

modify_written : (b : Catalog) (list : List Modify) → not (is_there (modify_fault (sealed_lengths b) b.stream list)) ≡ true → WritesNext b (filed (records.MultiModify list))
modify_written b list fits =
    let sent : Packet = packet (Server 1) Manager (bodies.Stream (calls.MultiModify list NoRequest)) in
    AtPacket sent (λ same. absurd cc)
    (unrefused (filed (records.MultiModify list)) b Manager sent NoRequest (modify_refusal b sent list) (modify_taken b sent list NoRequest)
    (none_there (modify_fault (sealed_lengths b) b.stream list) fits) refl)

-- ---- Seal

-- nothing is there that a stop drops
abbrev pub IsPlain : Catalog → Type 0
IsPlain b = (e : ℕ) → forgotten_if (b.extent e) ≡ b.extent e

-- the first place has told this length
abbrev told : ℕ → Extent → Extent
told length x = record x { primary = frozen_to length x.primary }

reported : (x : Extent) (length : ℕ) → with_report x (Node x.places.primary) (frozen_to length) ≡ Some (told length x)
reported x length = if_so (λ (o : Option Extent). o ≡ Some (told length x)) (is_node x.places.primary (Node x.places.primary)) _ _ (eq-eqb x.places.primary x.places.primary refl) refl

seal_written : (b : Catalog) (e length : ℕ) (x : Extent) → b.extent e ≡ Some (forgotten x) → not (is_there x.sealed) ≡ true → WritesNext b (filed (records.Seal e length))
seal_written b e length x is fits =
    let unsealed : is_there x.sealed ≡ false = not-true (is_there x.sealed) fits in
    let y : Extent = told length (forgotten x) in
    let after : Catalog = with_extent b e y in
    let sent : Packet = packet (Node x.places.primary) Manager (bodies.Seal (Frozen e length)) in
    let noting : at_packet b sent ≡ silent after =
    ap (frozen_rule b sent e length) is
    ∙ if_not (λ (o : Outcome Catalog). o ≡ silent after) (is_there x.sealed) (silent b) (noted b e (with_report (forgotten x) sent.from (frozen_to length))) unsealed
    (ap (noted b e) (reported (forgotten x) length)) in
    let here : after.extent e ≡ Some y = if_so (λ (o : Option Extent). o ≡ Some y) (e == e) (Some y) (b.extent e) (eq-eqb e e refl) refl in
    let decided_so : (at_decision after e).written ≡ Some (filed (records.Seal e length)) =
    ap (λ (o : Option Extent). (decide_rule after e o).written) here
    ∙ if_not (Writes (filed (records.Seal e length))) (is_there x.sealed) (sends after (reminders after e y)) (decided_if after e y (least_told y)) unsealed refl in
    AtDecision sent (λ same. absurd cc) (ap (λ (o : Outcome Catalog). o.written) noting) e (ap (λ (o : Outcome Catalog). (at_decision o.after e).written) noting ∙ decided_so)

seal_fitting : (b : Catalog) (e length : ℕ) (x : Option Extent) → IsPlain b → b.extent e ≡ x → seal_fits x ≡ true → WritesNext b (filed (records.Seal e length))
seal_fitting b e length None plain is fits = absurd cc
seal_fitting b e length (Some x) plain is fits =
    let forgets : b.extent e ≡ Some (forgotten x) = sym (plain e) ∙ ap forgotten_if is in
    seal_written b e length x forgets fits

-- ---- all records

record_written : (b : Catalog) (r : ManagerRecord) → IsPlain b → manager_record_fits (Some b) (Some r) ≡ true → WritesNext b (filed r)
record_written b (records.First count target) plain fits = absurd cc
record_written b (records.CreateStream s fence) plain fits = create_written b s fence fits
record_written b (records.OpenStreams range generation) plain fits = open_written b range generation fits
record_written b (records.Extend s generation pick) plain fits =
    let parts = and_parts (is_pick b.nodes pick) _ fits in
    extend_written b s generation pick (stream_of b.stream s) refl parts.0 parts.1
record_written b (records.Seal e length) plain fits = seal_fitting b e length (b.extent e) plain refl fits
record_written b (records.Trim range before to_blob) plain fits = trim_written b range before to_blob (b.stream range 1) (b.stream range 3) refl refl fits
record_written b (records.MultiModify list) plain fits = modify_written b list fits

-- ---- what records make is plain

extended_plain : (b : Catalog) (s : StreamName) (x : Option Stream) (pick : Nodes) → IsPlain b → IsPlain (extended_if b s x pick)
extended_plain b s None pick plain e = plain e
extended_plain b s (Some x) pick plain e =
    changed_elim (λ (o : Option Extent). forgotten_if o ≡ o) (suc b.count) (Some (new_extent pick x.fence)) b.extent e (λ here. refl) (λ elsewhere. plain e)

sealed_plain : (b : Catalog) (f : ℕ) (x : Option Extent) (sealed : ℕ) → IsPlain b → b.extent f ≡ x → IsPlain (sealed_if b f x sealed)
sealed_plain b f None sealed plain is e = plain e
sealed_plain b f (Some x) sealed plain is e =
    let same : forgotten x ≡ x = some_is (forgotten x) x (ap forgotten_if (sym is) ∙ plain f ∙ is) in
    changed_elim (λ (o : Option Extent). forgotten_if o ≡ o) f (Some (sealed_to x sealed)) b.extent e (λ here. ap (λ (y : Extent). Some (sealed_to y sealed)) same) (λ elsewhere. plain e)

plain_after : (b : Catalog) (r : ManagerRecord) → IsPlain b → IsPlain (after_record b r)
plain_after b (records.First count target) plain = plain
plain_after b (records.CreateStream s fence) plain = plain
plain_after b (records.OpenStreams range generation) plain = plain
plain_after b (records.Extend s generation pick) plain = extended_plain b s (stream_of b.stream s) pick plain
plain_after b (records.Seal e length) plain = sealed_plain b e (b.extent e) length plain refl
plain_after b (records.Trim range before to_blob) plain = plain
plain_after b (records.MultiModify list) plain = plain

abbrev IsPlainIf : Option Catalog → Type 0
IsPlainIf None = Unit {0}
IsPlainIf (Some b) = IsPlain b

plain_next : (o : Option Catalog) (r : Option ManagerRecord) → IsPlainIf o → IsPlainIf (catalog_after o r)
plain_next None (Some (records.First count target)) plain = λ e. refl
plain_next None r plain = tt
plain_next (Some b) None plain = plain
plain_next (Some b) (Some r) plain = plain_after b r plain

plain_from : (o : Option Catalog) (rs : List Record) → IsPlainIf o → IsPlainIf (replay_from o rs)
plain_from o [] plain = plain
plain_from o (r ∷ rs) plain = plain_from (catalog_after o (manager_record_of r)) rs (plain_next o (manager_record_of r) plain)

-- ---- lists of records

fits_there : (o : Option Catalog) (before after : List Record) (r : Record) → fit_from o (before ++ r ∷ after) ≡ true → manager_record_fits (replay_from o before) (manager_record_of r) ≡ true
fits_there o [] after r fits = (and_parts (manager_record_fits o (manager_record_of r)) _ fits).0
fits_there o (x ∷ before) after r fits =
    fits_there (catalog_after o (manager_record_of x)) before after r (and_parts (manager_record_fits o (manager_record_of x)) _ fits).1

no_other : (o : Option Catalog) → manager_record_fits o None ≡ true → ⊥
no_other None fits = absurd cc
no_other (Some b) fits = absurd cc

text_written : (o : Option Catalog) (text : List ℕ) (x : Option ManagerRecord) → IsPlainIf o → All IsByte text → record_of text ≡ x → manager_record_fits o x ≡ true → ManagerWrites o (Manage text)
text_written None text (Some (records.First count target)) plain bytes is fits =
    let spelling = text_spelled text (records.First count target) (bytes_of_text text bytes) is in
    record {
      nodes = count;
      target = target;
      count = spelling.1.0;
      is_target = spelling.1.1;
      is = ap (λ (l : List ℕ). Manage l) spelling.0;
    }
text_written None text x plain bytes is fits = absurd cc
text_written (Some b) text None plain bytes is fits = absurd cc
text_written (Some b) text (Some r) plain bytes is fits =
    subst (λ (l : List ℕ). WritesNext b (Manage l)) (sym (text_spelled text r (bytes_of_text text bytes) is).0) (record_written b r plain fits)

pub manager_writes : (before after : List Record) (r : Record) → catalog_fits (before ++ r ∷ after) ≡ true → HasBytes r → ManagerWrites (catalog_replay before) r
manager_writes before after (Manage text) fits bytes =
    text_written (catalog_replay before) text (record_of text) (plain_from None before tt) bytes refl (fits_there None before after (Manage text) fits)
manager_writes before after r fits bytes = absurd (no_other (catalog_replay before) (fits_there None before after r fits))
