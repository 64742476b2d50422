use denote.Param.Send.{IsSync}
use Rattle.disk.specs.contracts.history.History.{the_row}
use Rattle.disk.proofs.Sent as sent

pub sync : IsSync the_row
sync = sent.history_sync
