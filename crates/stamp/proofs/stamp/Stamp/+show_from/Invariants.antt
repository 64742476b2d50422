use Rattle.std.proofs.Common.{◌-◌}
use Rattle.world_actors.specs.Numbers.{count_of}
use Rattle.stamp.proofs.stamp.Stamp.+show_from.Given as goal

abbrev pub decreases-show_from : goal.decreases-show_from
decreases-show_from g l = count_of g.K.Identity.numbers - l.at
