use Rattle.std.proofs.Common.{◌≡◌, ◌≤◌, ℕ, [], ◌∷◌, length, ap, arith}
use Rattle.std.proofs.lemmas.Bool.{false≢true}
use Rattle.block_types.specs.Limits.{group_size}
use Rattle.replica.specs.Groups.{Group, text_length}
use Rattle.replica.specs.Room.{Room, HasRoom}
use Rattle.replica.proofs.Lengths.{group_size-size, text_length-push}
use Rattle.replica.proofs.Placing.{length-cons}
use Rattle.replica.proofs.placed.PlacedGroups.put.Goals as goal

enough : (room : Room) (g blocks : Group) (s : ℕ) → s ≡ group_size g → blocks ≡ g → HasRoom room (g ∷ []) → (s ≤ room.text) × (length blocks ≤ room.blocks) × (1 ≤ room.groups)
enough room g blocks s sized same has = (omega (arith, sized, group_size-size g, length-cons g [], has.text), omega (arith, ap length same, has.blocks), omega (arith, has.groups))

room_for : (room : Room) (g blocks : Group) (s : ℕ) → s ≡ group_size g → blocks ≡ g → (s ≤ room.text) × (length blocks ≤ room.blocks) × (1 ≤ room.groups) → HasRoom room (g ∷ [])
room_for room g blocks s sized same made = record {
  text = omega (arith, sized, group_size-size g, length-cons g [], made.0);
  blocks = omega (arith, ap length same, made.1);
  groups = omega (arith, made.2);
}

pub returns-in_err-make_room-clause-ready : goal.returns-in_err-make_room-clause-ready
returns-in_err-make_room-clause-ready c = λ has. absurd (false≢true (c.in_err-make_room.ensures.ready (enough c.args.self.now.room c.args.group.now c.blocks-2.result.now c.size-size.result c.size-size.ensures.value c.blocks-2.ensures.value has)))

pub returns-in_err-make_room-clause-within : goal.returns-in_err-make_room-clause-within
returns-in_err-make_room-clause-within c = omega (arith, ap text_length c.make_room.ensures.same)

pub push_sized-requires-clause-room : goal.push_sized-requires-clause-room
push_sized-requires-clause-room c = room_for c.make_room.new.self.room c.args.group.now c.blocks-2.result.now c.size-size.result c.size-size.ensures.value c.blocks-2.ensures.value c.in_ok-make_room.ensures.room

pub returns-clause-within : goal.returns-clause-within
returns-clause-within c = omega (arith, ap text_length c.push_sized.ensures.value, text_length-push c.make_room.new.self.groups c.args.group.now, ap text_length c.make_room.ensures.same, c.size-size.ensures.value, c.size-size.ensures.bound, group_size-size c.args.group.now)
