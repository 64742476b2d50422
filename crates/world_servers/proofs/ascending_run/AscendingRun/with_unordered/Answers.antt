use Rattle.std.proofs.Common.{◌≡◌, ◌∙◌, ap, subst}
use Rattle.std.specs.Prelude.{IfOk}
use Rattle.memtable.specs.Entries.{Entries, put_all}
use Rattle.world_servers.proofs.RunEntries.{put_ascending}
use Rattle.world_servers.proofs.ascending_run.AscendingRun.with_unordered.Goals as goal

pub returns : goal.returns
returns c =
    let older : c.put_changes.new.map.entries ≡ c.args.self =
    c.in_ok-put_changes.ensures ∙ ap (λ (es : Entries). put_all es c.self.inside.entries.items) c.new-map.ensures.empty
    ∙ put_ascending c.self.inside.entries.items c.self.invariant ∙ c.self.view_is in
    let all : c.put_changes-2.new.map.entries ≡ put_all c.args.self c.args.changes.items =
    c.in_ok-put_changes-2.ensures ∙ ap (λ (es : Entries). put_all es c.args.changes.items) older in
    subst (λ (es : Entries). IfOk c.copied.result (λ run. run ≡ es)) all c.copied.ensures
