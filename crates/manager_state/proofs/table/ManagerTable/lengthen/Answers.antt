use Rattle.std.proofs.Common.{ℕ, suc, List, length, sym, ◌∙◌, ap}
use Rattle.std.specs.BTreeMap.{get}
use Rattle.std.specs.Ordering.{nat_cmp}
use Rattle.streams.specs.Streams.{Streams, stream_of, extended}
use Rattle.streams.specs.Table.{streams_of}
use Rattle.model_streams.specs.declared.extent.Extent.{Extent}
use Rattle.manager_state.specs.declared.entry.ExtentEntry.{ExtentEntry}
use Rattle.manager_state.specs.Extents.{extents_from, HaveLengths}
use Rattle.manager_state.proofs.Entries.{table_with, lengthened, have_lengthened, length-from}
use Rattle.manager_state.proofs.table.ManagerTable.lengthen.Goals as goal

pub returns : goal.returns
returns c =
    let f = get nat_cmp c.self.inside.lengths in
    let streams = streams_of c.self.inside.streams in
    rw (← c.self.view_is) (
    ap (λ (s : Streams). table_with c.self.inside.nodes c.self.inside.target s (extents_from 1 c.lengthen.new.entries.items f)) c.lengthen.ensures.stream
    ∙ ap (λ (n : ℕ). table_with c.self.inside.nodes c.self.inside.target (extended streams c.args.stream.now (suc n)) (extents_from 1 c.lengthen.new.entries.items f)) (sym (length-from f 1 c.self.inside.entries.items))
    ∙ ap (λ (xs : List Extent). table_with c.self.inside.nodes c.self.inside.target (extended streams c.args.stream.now (suc (length (extents_from 1 c.self.inside.entries.items f)))) xs)
    (ap (λ (l : List ExtentEntry). extents_from 1 l f) c.lengthen.ensures.entries ∙ lengthened f c.self.inside.entries.items c.self.invariant (stream_of streams c.args.stream.now) c.args.pick))

pub invariant_of-self : goal.invariant_of-self
invariant_of-self c =
    let f = get nat_cmp c.self.inside.lengths in
    let P : List ExtentEntry → Type 0 = λ l. HaveLengths l f in
    rw c.lengthen.ensures.entries (have_lengthened c.self.inside.entries.items f c.self.invariant (stream_of (streams_of c.self.inside.streams) c.args.stream.now) c.args.pick)
