use Rattle.std.proofs.Common.{◌≡◌, List, ap, sym, subst, ◌∙◌, arith}
use Rattle.std.specs.Prelude.{IfOk}
use Rattle.block_types.specs.Limits.{IsGroup}
use Rattle.commitlog.specs.Record.{pieces}
use Rattle.checkpoint_format.proofs.Indexes.{count_small, size_small, group_of, text_of_is}
use Rattle.checkpoint_format.proofs.index.Index.encode.Goals as goal

pub text_of-requires-clause-count : goal.text_of-requires-clause-count
text_of-requires-clause-count c = rw c.as_slice-pages.ensures (omega (arith, size_small c.args.self.now c.requires, count_small c.args.self.now.pages))

pub of-requires : goal.of-requires
of-requires c =
    let is = text_of_is c.args.self.now c.size-size.result c.as_slice-pages.result.now c.in_ok-text.text.items c.size-size.ensures c.as_slice-pages.ensures c.in_ok-text.ensures in
    subst IsGroup (sym (c.in_ok-pieces_of.ensures ∙ ap pieces is)) (group_of c.args.self.now c.requires)

pub returns : goal.returns
returns c =
    let is = text_of_is c.args.self.now c.size-size.result c.as_slice-pages.result.now c.in_ok-text.text.items c.size-size.ensures c.as_slice-pages.ensures c.in_ok-text.ensures in
    subst (λ (l : List _). IfOk c.of.result (λ group. group ≡ l)) (c.in_ok-pieces_of.ensures ∙ ap pieces is) c.of.ensures
