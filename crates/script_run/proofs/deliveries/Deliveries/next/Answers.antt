use Rattle.std.proofs.Common.{◌≡◌, ◌<◌, ◌≤◌, ℕ, Bool, List, None, arith, length, rules, subst, sym, true}
use Rattle.std.proofs.lemmas.Grind.{common_steps}
use Rattle.std.proofs.lemmas.Option.{slice_get_past}
use Rattle.std.specs.List.{slice_get}
use Rattle.wire.specs.declared.actor.ActorId.{ActorId}
use Rattle.wire.specs.declared.packet.Packet.{Packet}
use Rattle.script_run.specs.Deliveries.{Passed, is_noted, is_past}
use Rattle.script_run.proofs.deliveries.Deliveries.next.Goals as goal

-- all that was sent is passed over: what lies beyond is noted as before
passed_all : (cut : List ActorId) (post : List Packet) (before now : List Bool) (n : ℕ) → length post ≤ n → ((m : ℕ) → m < n → is_past cut post before m ≡ true)
    → ((m : ℕ) → m < n → is_noted now m ≡ true) → ((m : ℕ) → n ≤ m → is_noted now m ≡ is_noted before m) → Passed before (length post) now
passed_all cut post before now n whole past noted same m =
    let beyond : length post ≤ m → slice_get post m ≡ None = slice_get_past post m in
    grind (arith, common_steps, past m, noted m, same m, beyond)

pub loop-number-preserved : goal.loop-number-preserved
loop-number-preserved c = search rules

pub returns-clause-none : goal.returns-clause-none
returns-clause-none c =
    let before = c.loop-number.invariant in (
      λ m within. before.0 m (omega arith),
      subst (λ (now : List Bool). Passed c.args.self.now (length c.args.sent.now) now) (sym c.self-2.view_is)
          (passed_all c.args.cut.now c.args.sent.now c.args.self.now c.loop-number.self c.loop-number.number (omega arith) before.0 before.1 before.2),
    )
