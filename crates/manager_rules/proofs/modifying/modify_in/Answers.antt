use Rattle.std.proofs.Common.{ℕ, Option, None, ◌≡◌, ap, sym, ◌∙◌}
use Rattle.std.proofs.lemmas.Result.{IfOk-weaker}
use Rattle.streams.specs.Streams.{modify_fault}
use Rattle.streams.specs.Table.{StreamTableState, streams_of}
use Rattle.manager_state.specs.Table.{sealed_at}
use Rattle.manager_rules.specs.Plan.{modify_in}
use Rattle.manager_rules.proofs.ListPlans.{read_again}
use Rattle.manager_rules.proofs.modifying.modify_in.Goals as goal

pub returns-in-Ok : goal.returns-in-Ok
returns-in-Ok c =
    let none : modify_fault (sealed_at c.args.table.now.extents) (streams_of c.args.table.now.streams) c.args.list.now ≡ None =
    sym (ap (λ (f : ℕ → Option ℕ). modify_fault f (streams_of c.streams.result.now) c.args.list.now) c.lengths.ensures
    ∙ ap (λ (t : StreamTableState). modify_fault (sealed_at c.args.table.now.extents) (streams_of t) c.args.list.now) c.streams.ensures)
    ∙ c.in-Ok.ensures.free in
    record {
      gives = IfOk-weaker c.taken.result _ _ (λ plan is. is ∙ ap (modify_in c.args.packet.now c.args.list.now c.args.request) (sym none)) c.taken.ensures;
      again = read_again (sealed_at c.args.table.now.extents) (streams_of c.args.table.now.streams) c.args.packet.now c.args.list.now c.args.request c.read_list.ensures;
    }

pub returns-in-Err-Memory : goal.returns-in-Err-Memory
returns-in-Err-Memory c = record {
  gives = tt;
  again = read_again (sealed_at c.args.table.now.extents) (streams_of c.args.table.now.streams) c.args.packet.now c.args.list.now c.args.request c.read_list.ensures;
}
