use Rattle.std.proofs.Common.{◌≡◌, true, ◌∙◌, subst, sym}
use Rattle.memtable.specs.Entries.{Entries, put_all}
use Rattle.checkpoint_format.specs.Page.{is_ascending}
use Rattle.world_servers.proofs.RunEntries.{merged_is, put_ascends}
use Rattle.world_servers.proofs.ascending_run.AscendingRun.with_newer.Goals as goal

pub invariant_of-result : goal.invariant_of-result
invariant_of-result c =
    subst (λ (es : Entries). is_ascending es ≡ true) (sym (c.in_ok-entries.ensures ∙ merged_is c.self.inside.entries.items c.newer.inside.entries.items c.newer.invariant))
    (put_ascends c.self.inside.entries.items c.newer.inside.entries.items c.self.invariant)

pub returns : goal.returns
returns c =
    c.in_ok-entries.ensures ∙ merged_is c.self.inside.entries.items c.newer.inside.entries.items c.newer.invariant
    ∙ (λ i. put_all (c.self.view_is i) (c.newer.view_is i))
