use Rattle.std.proofs.Common.{◌≡◌, ◌≤◌, false, nat_lt, arith, subst, sym}
use Rattle.std.proofs.lemmas.Bool.Decides.{nat_tests}
use Rattle.world_servers.specs.Servers.{AreServers}
use Rattle.world_servers.proofs.ServerList.{are_shown}
use Rattle.world_servers.proofs.list.Servers.moment.Goals as goal

pub invariant_of-self : goal.invariant_of-self
invariant_of-self c =
    let on : c.self.inside.moment ≤ c.args.now = c.if-now-self.false in
    let test : nat_lt c.args.now c.self.inside.moment ≡ false = grind (arith, nat_tests) in
    subst (AreServers c.args.now c.self.inside.batch 1) (sym c.show_all.ensures)
    (are_shown c.args.now c.self.inside.moment c.self.inside.batch 1 c.self.inside.actors.items test c.self.invariant)
