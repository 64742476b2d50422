use Rattle.std.proofs.Common.{◌≤◌, List, ap, subst, sym, ◌∙◌, arith}
use Rattle.wire.specs.declared.transaction.Change.{Change}
use Rattle.std.specs.List.{AllByRecursion}
use Rattle.commitlog.specs.declared.log_record.LogRecord.{LogRecord}
use Rattle.commitlog.specs.Record.{IsTransaction}
use Rattle.commitlog.specs.Sizes.{text_size}
use Rattle.commitlog.proofs.Measures.{length-text, text_bound}
use Rattle.commitlog.proofs.sizes.text_size.Goals as goal

pub sum_of-requires : goal.sum_of-requires
sum_of-requires c =
    let same = sym (c.deref.ensures.value ∙ ap (λ (w : LogRecord). w.transactions) c.written.view_is) in
    record {
      fits = subst (λ (ts : List (List Change)). AllByRecursion IsTransaction ts) same c.requires.transactions;
      bound = subst (λ (ts : List (List Change)). text_size ts ≤ 4194304) same (text_bound c.args.written.now c.requires);
    }

pub returns : goal.returns
returns c =
    let is = c.sum_of.ensures ∙ ap (λ (ts : List (List Change)). text_size ts) (c.deref.ensures.value ∙ ap (λ (w : LogRecord). w.transactions) c.written.view_is) in
    record {
      value = is ∙ sym (length-text c.args.written.now);
      bound = omega (arith, is, text_bound c.args.written.now c.requires);
    }
