use Rattle.std.proofs.Common.{◌∙◌, ◌++◌, ◌∷◌, [], ap, List, ℕ}
use Rattle.disk.proofs.Texts.{next_fits, text_next, text_done}
use Rattle.disk.proofs.text.opened_text.Goals as goal

pub encode_as-requires : goal.encode_as-requires
encode_as-requires c = (next_fits c.args.version c.args.records.now c.loop-written.written-index c.written-item.result c.written-item.is c.loop-written-test.true c.loop-written.invariant.fit).0

pub loop-written-preserved : goal.loop-written-preserved
loop-written-preserved c = record {
  fit = (next_fits c.args.version c.args.records.now c.loop-written.written-index c.written-item.result c.written-item.is c.loop-written-test.true c.loop-written.invariant.fit).1;
  text = text_next c.args.version c.args.records.now c.loop-written.written-index c.written-item.result c.written-item.is c.loop-written-test.true c.loop-written.text.items c.push.new.self.items c.encode_as.new.out.items c.in_ok-push.ensures.items c.in_ok-encode_as.ensures.ok c.loop-written.invariant.text;
}

pub returns : goal.returns
returns c = c.in_ok-push-2.ensures.items ∙ ap (λ (l : List ℕ). l ++ 0 ∷ []) (text_done c.args.version c.args.records.now c.loop-written.written-index c.loop-written-test.false c.loop-written.text.items c.loop-written.invariant.text)
