use Rattle.std.proofs.Common.{arith, ap, ◌∙◌, drop, take}
use Rattle.streams.proofs.Trims.{kept}
use Rattle.streams.proofs.entries.keep.Goals as goal

pub returns : goal.returns
returns c =
    kept c.args.entries.now.items _ _ _ c.args.from c.args.to c.args.before _ c.index-front-from.result c.index-back-0.result _
    (c.split_at_mut-front.ensures.front ∙ ap (λ xs. take c.args.to xs) c.deref_mut.ensures.value)
    (c.split_at_mut-front.ensures.back ∙ ap (λ xs. drop c.args.to xs) c.deref_mut.ensures.value)
    c.requires.order (omega (arith, c.args.entries.now.ok.0)) (omega (arith, c.args.entries.now.ok.0)) c.leaving.ensures c.extend.ensures.name c.extend.ensures.stream
