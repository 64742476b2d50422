use Rattle.std.proofs.Common.{◌≡◌, ◌+◌, ◌<◌, ◌≤◌, ◌-◌, ◌/◌, length, get_or, ap, arith}
use Rattle.replica.specs.Ends.{binary_digits}
use Rattle.replica.proofs.Searching.{ended-more, ended-fewer, ended-within, binary_digits-short, one_probe}
use Rattle.replica.proofs.ends.Ends.find.Goals as goal

pub loop-low-init : goal.loop-low-init
loop-low-init c =
    let all : c.len-high.result ≡ length c.args.self.now.ends = c.len-high.ensures.value in
    let none : c.len-high.result - 0 ≡ length c.args.self.now.ends = omega (arith, all) in
    let digits = ap binary_digits none in
    record {
      low = omega arith;
      high = omega (arith, ended-within c.args.offset c.args.self.now.ends, all);
      within = omega (arith, all);
      probes = omega (arith, digits);
    }

pub end_at-requires-clause-counts : goal.end_at-requires-clause-counts
end_at-requires-clause-counts c =
    let all : c.len-high.result ≡ length c.args.self.now.ends = c.len-high.ensures.value in
    let short = binary_digits-short (length c.args.self.now.ends) (omega (arith, all)) in
    omega (arith, short, c.requires, c.loop-low.invariant.probes)

pub loop-low-preserved-then-end_at-offset : goal.loop-low-preserved-then-end_at-offset
loop-low-preserved-then-end_at-offset c =
    let ends = c.args.self.now.ends in
    let low = c.loop-low.low in
    let high = c.loop-low.high in
    let middle = low + (high - low) / 2 in
    let kept = c.loop-low.invariant in
    let rise = c.len-high.ensures.rise in
    let within : middle < length ends = omega (arith, kept.within, c.loop-low-test.true) in
    let at : get_or ends middle 0 ≤ c.args.offset = omega (arith, c.end_at.ensures.value, c.if-end_at-offset.true) in
    let more = ended-more c.args.offset 0 ends middle rise within at in
    let fewer = one_probe (high - low) (high - (middle + 1)) (omega (arith, c.loop-low-test.true)) (omega (arith, c.loop-low-test.true)) in
    record {
      low = omega (arith, more);
      high = kept.high;
      within = kept.within;
      probes = omega (arith, fewer, kept.probes, c.end_at.ensures.one);
    }

pub loop-low-preserved : goal.loop-low-preserved
loop-low-preserved c =
    let ends = c.args.self.now.ends in
    let low = c.loop-low.low in
    let high = c.loop-low.high in
    let middle = low + (high - low) / 2 in
    let kept = c.loop-low.invariant in
    let rise = c.len-high.ensures.rise in
    let within : middle < length ends = omega (arith, kept.within, c.loop-low-test.true) in
    let at : c.args.offset < get_or ends middle 0 = omega (arith, c.end_at.ensures.value, c.if-end_at-offset.false) in
    let less = ended-fewer c.args.offset 0 ends middle rise within at in
    let fewer = one_probe (high - low) (middle - low) (omega (arith, c.loop-low-test.true)) (omega (arith, c.loop-low-test.true)) in
    record {
      low = kept.low;
      high = omega (arith, less);
      within = omega (arith, within);
      probes = omega (arith, fewer, kept.probes, c.end_at.ensures.one);
    }
