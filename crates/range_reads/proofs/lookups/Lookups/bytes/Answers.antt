use Rattle.std.proofs.Common.{◌≡◌, List, ℕ, Option, Some, None, sym, ap, subst, ◌∙◌}
use Rattle.std.specs.Prelude.{not, is_some, IfSome}
use Rattle.model_partition.specs.declared.waiting.PlaceRead.{PlaceRead}
use Rattle.model_partition.specs.Getting.{came, read_at, are_no_page}
use Rattle.model_partition.specs.PlaceReads.{place_of}
use Rattle.range_reads.specs.Caching.{IsFor}
use Rattle.range_reads.specs.ValueCache.{Values, with_fresh}
use Rattle.range_reads.specs.Lookups.{IsOf}
use Rattle.range_reads.proofs.SeenRange.{bytes_taken, bytes_with, none_taken}
use Rattle.range_reads.proofs.Values.{exactly}
use Rattle.range_reads.proofs.lookups.Lookups.bytes.Goals as goal

pub returns-in_default-clause-ok : goal.returns-in_default-clause-ok
returns-in_default-clause-ok c = λ r sees own.
    let mine = subst (IsOf r) (sym c.self.view_is) own in
    let asked = c.read_of-asked.ensures ∙ (λ i. read_at (c.deref.ensures.value i) c.args.number.now) ∙ (λ i. read_at (mine.gets i) c.args.number.now) in
    let none = ap (λ (o : Option PlaceRead). are_no_page o c.args.bytes.now) (sym asked) ∙ sym c.in_ok-kept.ensures.none ∙ ap (λ (o : Option (List ℕ)). not (is_some o)) c.in_default.is in
    none_taken c.args.asking.now.context.now r c.args.self.now c.args.number.now (place_of c.args.extent c.args.offset c.args.bytes.now) c.args.bytes.now c.new.result.items c.new-in_default.result.items own none c.new.ensures.items c.new-in_default.ensures.items

pub returns-clause-ok : goal.returns-clause-ok
returns-clause-ok c = λ r sees own.
    let inside = c.self.inside in
    let mine = subst (IsOf r) (sym c.self.view_is) own in
    let t = c.in_ok-tries.tries in
    let asked = c.read_of-asked.ensures ∙ (λ i. read_at (c.deref.ensures.value i) c.args.number.now) ∙ (λ i. read_at (mine.gets i) c.args.number.now) in
    let some = ap (λ (o : Option PlaceRead). are_no_page o c.args.bytes.now) (sym asked) ∙ sym c.in_ok-kept.ensures.none ∙ ap (λ (o : Option (List ℕ)). not (is_some o)) c.in-Some.is in
    let same : c.in-Some.kept ≡ c.args.bytes.now = subst (λ (o : Option (List ℕ)). IfSome o (λ k. k ≡ c.args.bytes.now)) c.in-Some.is c.in_ok-kept.ensures.bytes in
    let there = subst (λ (b : List ℕ). IsFor c.read_of-asked.result (place_of c.args.extent c.args.offset b)
    → c.fresh_of-fresh.result ≡ Some (record { place = place_of c.args.extent c.args.offset b; bytes = b })) same c.fresh_of-fresh.ensures.there in
    let other = subst (λ (b : List ℕ). (IsFor c.read_of-asked.result (place_of c.args.extent c.args.offset b) → ⊥) → c.fresh_of-fresh.result ≡ None) same c.fresh_of-fresh.ensures.other in
    let fresh = exactly c.self.inside.held c.fresh_of-fresh.result c.read_of-asked.result (place_of c.args.extent c.args.offset c.args.bytes.now) c.args.bytes.now there other in
    let after = c.in_ok-hold_some.ensures.ok ∙ fresh ∙ (λ i. came (mine.held i) (asked i) (place_of c.args.extent c.args.offset c.args.bytes.now) c.args.bytes.now) in
    rw some (ap (λ (h : Values). bytes_with c.args.asking.now.context.now r c.args.number.now h) (sym after)
    ∙ bytes_taken c.args.asking.now.context.now r c.args.asking.now (record { gets = inside.gets.items; held = inside.held }) c.args.number.now c.deref-2.result.now (with_fresh inside.held c.fresh_of-fresh.result) c.hold_some.new.held
    (record { waiting = t.waiting.items; count = t.count; packets = t.packets.items; notes = t.notes.items }) sees mine c.deref-2.ensures.value c.in_ok-hold_some.ensures.ok (c.in_ok-tries.ensures.value r))
