use Rattle.std.proofs.Common.{◌≡◌, ◌*◌, ◌+◌, ◌-◌, ◌≤◌, length, take, drop, ap, sym, subst, ◌∙◌, arith, length-drop}
use Rattle.std.proofs.lemmas.List.{length-take-le}
use Rattle.replica.specs.Buffers.{AllFull}
use Rattle.replica.proofs.Buffering.{all-push, shared_on}
use Rattle.replica.proofs.last_bytes.shared_buffers.Goals as goal

pub loop-index-preserved : goal.loop-index-preserved
loop-index-preserved c =
    let bytes = c.args.bytes.now in
    let start = c.loop-index.index * 65536 in
    let buffer = c.in_ok-slice.field-0 in
    let span : start + 65536 - start ≡ 65536 = omega arith in
    let is : buffer ≡ take 65536 (drop start bytes) = c.in_ok-slice.ensures.ok ∙ ap (λ n. take n (drop start bytes)) span in
    let enough : 65536 ≤ length (drop start bytes) = omega (arith, length-drop start bytes, c.loop-index-test.true, c.len-count.ensures.value) in
    let size : length buffer ≡ 65536 = ap length is ∙ length-take-le 65536 (drop start bytes) enough in
    record {
      count = omega (arith, c.push_reserved.ensures.len, c.loop-index.invariant.count);
      room = c.push_reserved.ensures.capacity ∙ c.loop-index.invariant.room;
      front = shared_on c.loop-index.buffers.items c.push_reserved.new.self.items buffer bytes c.loop-index.index c.push_reserved.ensures.items is c.loop-index.invariant.front;
      all = subst (AllFull 65536) (sym c.push_reserved.ensures.items) (all-push 65536 c.loop-index.buffers.items buffer c.loop-index.invariant.all size);
    }
