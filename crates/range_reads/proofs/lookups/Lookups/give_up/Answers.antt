use Rattle.std.proofs.Common.{List, map, ap, ◌∙◌}
use Rattle.std.specs.List.{flat_map}
use Rattle.model_partition.specs.declared.waiting.WaitingGet.{WaitingGet}
use Rattle.model_partition.specs.Getting.{gives_up_get}
use Rattle.model_partition.specs.Range.{RangeState}
use Rattle.range_reads.specs.Lookups.{LookupsState}
use Rattle.range_reads.proofs.SeenRange.{is_seen}
use Rattle.range_reads.proofs.lookups.Lookups.give_up.Goals as goal

pub returns-clause-gets : goal.returns-clause-gets
returns-clause-gets c = λ r sees.
    let same = is_seen r c.args.asking.now r.held sees in
    let old = c.deref.ensures.value ∙ ap (λ (s : LookupsState). s.gets) c.self.view_is in
    let gets = c.in_ok-moved.ensures.gets r.held r
    ∙ ap (λ (x : RangeState). map (λ (g : WaitingGet). (gives_up_get c.args.asking.now.context.now x g).0) c.deref.result.now) same
    ∙ ap (λ (l : List WaitingGet). map (λ (g : WaitingGet). (gives_up_get c.args.asking.now.context.now r g).0) l) old in
    let held = ap (λ (s : LookupsState). s.held) c.self.view_is in
    λ i. record { gets = gets i; held = held i }

pub returns-clause-packets : goal.returns-clause-packets
returns-clause-packets c = λ r sees.
    let same = is_seen r c.args.asking.now r.held sees in
    let old = c.deref.ensures.value ∙ ap (λ (s : LookupsState). s.gets) c.self.view_is in
    c.in_ok-moved.ensures.packets r.held r
    ∙ ap (λ (x : RangeState). flat_map (λ (g : WaitingGet). (gives_up_get c.args.asking.now.context.now x g).1) c.deref.result.now) same
    ∙ ap (λ (l : List WaitingGet). flat_map (λ (g : WaitingGet). (gives_up_get c.args.asking.now.context.now r g).1) l) old
