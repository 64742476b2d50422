use Rattle.std.proofs.Common.{◌≡◌, List, ℕ, ◌++◌, subst, ap, ◌∙◌}
use Rattle.std.specs.Prelude.{IfOk}
use Rattle.commitlog.specs.Record.{pieces}
use Rattle.commitlog.proofs.Growth.{group_is, seen}
use Rattle.commitlog.proofs.group_text.GroupText.group.Goals as goal

pub of-requires : goal.of-requires
of-requires c =
    let inside = c.self.inside in
    let is = seen c.args.self inside.text.items inside.values.items inside.count c.self.view_is c.self.invariant in
    (group_is c.args.self inside.text.items inside.values.items inside.count is c.args.first c.in_ok-whole.whole.items c.append.new.self.items c.in_ok-whole.ensures
    (c.in_ok-append.ensures.items ∙ ap (λ (l : List (List ℕ)). l ++ c.self.inside.values.items) c.in_ok-made.ensures)).1

pub returns : goal.returns
returns c =
    let inside = c.self.inside in
    let is = seen c.args.self inside.text.items inside.values.items inside.count c.self.view_is c.self.invariant in
    let made = group_is c.args.self inside.text.items inside.values.items inside.count is c.args.first c.in_ok-whole.whole.items c.append.new.self.items c.in_ok-whole.ensures
    (c.in_ok-append.ensures.items ∙ ap (λ (l : List (List ℕ)). l ++ c.self.inside.values.items) c.in_ok-made.ensures) in
    subst (λ (l : List (List ℕ)). IfOk c.of.result (λ group. group ≡ l)) made.0 c.of.ensures
