use Rattle.model_partition.specs.Servers.{server_takes, server_gives_up, server_checkpoints, server_splits, server_merges}
use Rattle.laws_servers.proofs.ClientPackets.{may_send_all}
use Rattle.laws_servers.proofs.ServerSteps.{server_takes_shows, server_gives_up_tidy, server_checkpoints_tidy, server_splits_tidy, server_merges_tidy}
use Rattle.laws.proofs.clusters.servers_take_steps.Goals as goal

pub returns-clause-sent : goal.returns-clause-sent
returns-clause-sent c = λ servers s p. may_send_all (server_takes servers s p).packets (server_takes_shows servers s p).0

pub returns-clause-shown : goal.returns-clause-shown
returns-clause-shown c = λ servers s p. (server_takes_shows servers s p).1

pub returns-clause-sent_again : goal.returns-clause-sent_again
returns-clause-sent_again c = λ servers s range pick. may_send_all (server_gives_up servers s range pick).packets (server_gives_up_tidy servers s range pick).0

pub returns-clause-shown_again : goal.returns-clause-shown_again
returns-clause-shown_again c = λ servers s range pick. (server_gives_up_tidy servers s range pick).1

pub returns-clause-sent_by_checkpoints : goal.returns-clause-sent_by_checkpoints
returns-clause-sent_by_checkpoints c = λ servers s range combine. may_send_all (server_checkpoints servers s range combine).packets (server_checkpoints_tidy servers s range combine).0

pub returns-clause-shown_of_checkpoints : goal.returns-clause-shown_of_checkpoints
returns-clause-shown_of_checkpoints c = λ servers s range combine. (server_checkpoints_tidy servers s range combine).1

pub returns-clause-sent_by_splits : goal.returns-clause-sent_by_splits
returns-clause-sent_by_splits c = λ servers s range key. may_send_all (server_splits servers s range key).packets (server_splits_tidy servers s range key).0

pub returns-clause-shown_of_splits : goal.returns-clause-shown_of_splits
returns-clause-shown_of_splits c = λ servers s range key. (server_splits_tidy servers s range key).1

pub returns-clause-sent_by_merges : goal.returns-clause-sent_by_merges
returns-clause-sent_by_merges c = λ servers s left right. may_send_all (server_merges servers s left right).packets (server_merges_tidy servers s left right).0

pub returns-clause-shown_of_merges : goal.returns-clause-shown_of_merges
returns-clause-shown_of_merges c = λ servers s left right. (server_merges_tidy servers s left right).1
