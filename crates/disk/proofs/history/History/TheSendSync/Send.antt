use denote.Param.Send.{IsSend}
use Rattle.disk.specs.contracts.history.History.{the_row}
use Rattle.disk.proofs.Sent as sent

pub send : IsSend the_row
send = sent.history_send
