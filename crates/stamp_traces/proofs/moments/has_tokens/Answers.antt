use Rattle.std.proofs.Common.{length, refl, arith}
use Rattle.std.proofs.lemmas.Option.{slice_get_read}
use Rattle.stamp_traces.proofs.Lists.{when_false}
use Rattle.stamp_traces.proofs.moments.has_tokens.Goals as goal

pub returns-then-not-is_token_at : goal.returns-then-not-is_token_at
returns-then-not-is_token_at g c = record {
  at = c.loop-i.i;
  step = c.index-steps-i.result;
  is = slice_get_read c.args.steps.now (length c.args.steps.now) c.loop-i.i c.index-steps-i.result refl (omega arith) c.index-steps-i.is;
  other = when_false _ _ c.is_token_at.result c.is_token_at.ensures c.if-not-is_token_at.true;
}
