use Rattle.std.proofs.Common.{◌≡◌, ◌∙◌, ◌+◌, ◌∷◌, ℕ, length, drop, set, refl, sym, ap, Some, arith, length-set}
use Rattle.std.proofs.lemmas.List.{at_drop_more, at_drop_all}
use Rattle.std.proofs.lemmas.Option.{slice_get_read}
use Rattle.std.specs.Prelude.{slice_get}
use Rattle.stamp_traces.specs.Moments.{with_tokens}
use Rattle.stamp_traces.proofs.moments.install.Goals as goal

pub index_mut-requires : goal.index_mut-requires
index_mut-requires g c =
    let at : slice_get c.args.steps.now c.loop-i.i ≡ Some c.index-steps-i.result = slice_get_read c.args.steps.now (length c.args.steps.now) c.loop-i.i c.index-steps-i.result refl (omega arith) c.index-steps-i.is in
    omega (arith, (c.requires.each c.loop-i.i c.index-steps-i.result at).within, c.loop-i.invariant.1)

pub loop-i-preserved : goal.loop-i-preserved
loop-i-preserved g c =
    let tokens = c.loop-i.tokens.items in
    let s = c.index-steps-i.result in
    let rest = drop (c.loop-i.i + 1) c.args.steps.now in
    rw c.again.ensures (
      ap (λ x. with_tokens tokens (x ∷ rest)) c.index-steps-i.is
          ∙ (sym (at_drop_more (with_tokens tokens) c.args.steps.now c.loop-i.i s (omega arith)) ∙ c.loop-i.invariant.0),
      length-set tokens s.number (Some s.after) ∙ c.loop-i.invariant.1,
    )

pub returns : goal.returns
returns g c = sym (at_drop_all (with_tokens c.loop-i.tokens.items) c.args.steps.now c.loop-i.i (omega arith)) ∙ c.loop-i.invariant.0
