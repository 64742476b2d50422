-- What a disk has held goes to another thread with it: it lies in no memory.
use denote.Param.Send.{IsSend, IsSync, part_keyless}
use Rattle.disk.specs.contracts.history.History.{the_row}

pub history_send : IsSend the_row
history_send = record { owned = λ d vs. ((λ vss. (tt, ((λ uss. (tt, tt)), tt))), tt); leaving = λ k f vs. tt }

pub history_sync : IsSync the_row
history_sync = record { shared = λ d b o κ q. part_keyless the_row history_send q d b o }
