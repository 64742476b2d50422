use Rattle.std.proofs.Common.{◌≡◌, ◌+◌, ◌++◌, ◌∷◌, [], length, sym, ◌∙◌, arith}
use Rattle.commitlog.specs.Growing.{held}
use Rattle.commitlog.proofs.Growth.{few_large, seen, few, grows, refuses, held_is, is_held, has_room}
use Rattle.commitlog.proofs.group_text.GroupText.add.Goals as goal

pub encoded-requires-clause-room : goal.encoded-requires-clause-room
encoded-requires-clause-room c =
    omega (arith, c.len-number.ensures, c.self.inside.values.ok.0, c.self.invariant.room, few_large c.args.changes.now, c.requires.fits)

pub returns-then-not-has_room-clause-full : goal.returns-then-not-has_room-clause-full
returns-then-not-has_room-clause-full c = λ _.
    let inside = c.self.inside in
    let is = seen c.args.self.now inside.text.items inside.values.items inside.count c.self.view_is c.self.invariant in
    let number : c.len-number.result ≡ length c.self.inside.values.items = omega (arith, c.len-number.ensures, c.self.inside.values.ok.0) in
    let size : c.len.result ≡ length c.self.inside.text.items = omega (arith, c.len.ensures, c.self.inside.text.ok.0) in
    let more : c.len-2.result ≡ length c.encoded.new.scratch.items = omega (arith, c.len-2.ensures, c.encoded.new.scratch.ok.0) in (
      c.self.view_is,
      refuses c.args.self.now inside.text.items inside.values.items inside.count is c.args.changes.now c.len-number.result c.len.result c.len-2.result c.in_ok-next.next c.encoded.new.scratch.items number size more
          c.in_ok-next.ensures.text c.in_ok-next.ensures.next (sym c.has_room.ensures ∙ c.if-not-has_room.true),
    )

pub overflow_add-self : goal.overflow_add-self
overflow_add-self c =
    let inside = c.self.inside in
    let is = seen c.args.self.now inside.text.items inside.values.items inside.count c.self.view_is c.self.invariant in
    omega (arith, few c.args.self.now inside.text.items inside.values.items inside.count is)

pub invariant_of-self-2 : goal.invariant_of-self-2
invariant_of-self-2 c =
    let inside = c.self.inside in
    let is = seen c.args.self.now inside.text.items inside.values.items inside.count c.self.view_is c.self.invariant in
    let number : c.len-number.result ≡ length c.self.inside.values.items = omega (arith, c.len-number.ensures, c.self.inside.values.ok.0) in
    let size : c.len.result ≡ length c.self.inside.text.items = omega (arith, c.len.ensures, c.self.inside.text.ok.0) in
    let more : c.len-2.result ≡ length c.encoded.new.scratch.items = omega (arith, c.len-2.ensures, c.encoded.new.scratch.ok.0) in
    let grown = grows c.args.self.now inside.text.items inside.values.items inside.count is c.args.changes.now c.len-number.result c.len.result c.len-2.result c.in_ok-next.next c.encoded.new.scratch.items c.take.new.text.items c.take.new.values.items c.requires.fits number size more
    c.in_ok-next.ensures.text c.in_ok-next.ensures.next c.in_ok-take.ensures.text c.in_ok-take.ensures.values (sym c.has_room.ensures ∙ c.if-not-has_room.false) in
    is_held (c.args.self.now ++ c.args.changes.now ∷ []) c.take.new.text.items c.take.new.values.items (inside.count + 1) grown

pub returns-clause-taken : goal.returns-clause-taken
returns-clause-taken c = λ _.
    let inside = c.self.inside in
    let is = seen c.args.self.now inside.text.items inside.values.items inside.count c.self.view_is c.self.invariant in
    let number : c.len-number.result ≡ length c.self.inside.values.items = omega (arith, c.len-number.ensures, c.self.inside.values.ok.0) in
    let size : c.len.result ≡ length c.self.inside.text.items = omega (arith, c.len.ensures, c.self.inside.text.ok.0) in
    let more : c.len-2.result ≡ length c.encoded.new.scratch.items = omega (arith, c.len-2.ensures, c.encoded.new.scratch.ok.0) in
    let grown = grows c.args.self.now inside.text.items inside.values.items inside.count is c.args.changes.now c.len-number.result c.len.result c.len-2.result c.in_ok-next.next c.encoded.new.scratch.items c.take.new.text.items c.take.new.values.items c.requires.fits number size more
    c.in_ok-next.ensures.text c.in_ok-next.ensures.next c.in_ok-take.ensures.text c.in_ok-take.ensures.values (sym c.has_room.ensures ∙ c.if-not-has_room.false) in (
      held_is (c.args.self.now ++ c.args.changes.now ∷ []) c.take.new.text.items c.take.new.values.items (inside.count + 1) grown,
      has_room (held c.take.new.text.items c.take.new.values.items (inside.count + 1)) c.take.new.text.items c.take.new.values.items (inside.count + 1)
          (is_held (c.args.self.now ++ c.args.changes.now ∷ []) c.take.new.text.items c.take.new.values.items (inside.count + 1) grown),
    )
