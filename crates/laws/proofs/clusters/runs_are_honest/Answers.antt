use Rattle.laws_servers.proofs.EventsAsMoves.{led_agrees, led_keeps}
use Rattle.laws_clusters.proofs.Theorem.{led_honest, led_ordered, led_at_line, led_first_at_line}
use Rattle.laws.proofs.clusters.runs_are_honest.Goals as goal

pub returns-clause-agree : goal.returns-clause-agree
returns-clause-agree c = led_agrees

pub returns-clause-kept : goal.returns-clause-kept
returns-clause-kept c = led_keeps

pub returns-clause-honest : goal.returns-clause-honest
returns-clause-honest c = led_honest

pub returns-clause-ordered : goal.returns-clause-ordered
returns-clause-ordered c = led_ordered

pub returns-clause-served : goal.returns-clause-served
returns-clause-served c = led_at_line

pub returns-clause-served_first : goal.returns-clause-served_first
returns-clause-served_first c = led_first_at_line
