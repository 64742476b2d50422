use Rattle.model_partition.specs.Cluster.{cluster_after_all, first_cluster}
use Rattle.laws_clusters.proofs.LeasesInRuns.{entry_keeps, run_keeps_leases}
use Rattle.laws_clusters.proofs.Moments.{run_is_timely}
use Rattle.laws_clusters.proofs.ServesAlone.{run_serves_alone, run_holds_alone}
use Rattle.laws.proofs.clusters.leases_are_kept.Goals as goal

pub returns-clause-kept : goal.returns-clause-kept
returns-clause-kept c = λ nodes servers target batch events to body there lease is x found.
    entry_keeps (cluster_after_all (first_cluster nodes servers target batch) events) (run_keeps_leases nodes servers target batch events) to body there lease is x found

pub returns-clause-apart : goal.returns-clause-apart
returns-clause-apart c = λ nodes servers target batch events. (run_keeps_leases nodes servers target batch events).apart

pub returns-clause-timely : goal.returns-clause-timely
returns-clause-timely c = λ nodes servers target batch events. run_is_timely nodes servers target batch events

pub returns-clause-alone : goal.returns-clause-alone
returns-clause-alone c = λ nodes servers target batch events. run_serves_alone nodes servers target batch events

pub returns-clause-held_once : goal.returns-clause-held_once
returns-clause-held_once c = λ nodes servers target batch events. run_holds_alone nodes servers target batch events
