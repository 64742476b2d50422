use Rattle.laws_server_runs.proofs.AnsweredGets.{answered_reads}
use Rattle.laws_server_runs.proofs.AnsweredReplays.{answered_replays, answered_at_line}
use Rattle.laws_server_runs.proofs.Theorem.{run_replays, run_at_line, served_at_line}
use Rattle.laws.proofs.tables.servers_replay.Goals as goal

pub returns-clause-law : goal.returns-clause-law
returns-clause-law c = λ batch servers texts b events notes answered order seen unnumbered unborn shown. answered_replays texts b batch servers notes events answered order seen unnumbered unborn shown

pub returns-clause-children : goal.returns-clause-children
returns-clause-children c = λ batch servers texts b events notes answered order seen unnumbered unborn shown s range r serves log.
    answered_at_line texts b batch servers notes events answered order seen unnumbered unborn shown s range r serves log

pub returns-clause-reads : goal.returns-clause-reads
returns-clause-reads c = λ batch servers texts b events answered order. answered_reads texts batch servers b events answered order

pub returns-clause-first : goal.returns-clause-first
returns-clause-first c = λ batch servers texts events notes unsplit first order seen. run_replays texts batch servers events notes unsplit first order seen

pub returns-clause-steps : goal.returns-clause-steps
returns-clause-steps c = λ batch servers texts events s range r unsplit order serves. run_at_line texts batch servers events s range r unsplit order serves

pub returns-clause-served : goal.returns-clause-served
returns-clause-served c = λ batch servers texts events s range r unsplit order serves log. served_at_line texts batch servers events s range r unsplit order serves log
