-- The ranges of a run without merges: what is kept of each, and that each of which anything is told is the first or came of another.
use Rattle.std.proofs.Common.{ℕ, List, [], subst}
use Rattle.wire.specs.declared.note.Note.{Note}
use Rattle.model_streams.specs.declared.event.Event.{Event}
use Rattle.model_streams.specs.StreamSystem.{StreamSystem}
use Rattle.model_partition.specs.Cluster.{Cluster, AreUnmerged, cluster_after_all, first_cluster}
use Rattle.model_partition.specs.Past.{Bytes}
use Rattle.model_histories.specs.ServedTables.{AreSeenAs}
use Rattle.model_histories.specs.ServerRun.{ServerRun, ServerEvent, run_of}
use Rattle.model_histories.specs.TableContents.{AllTellRightly}
use Rattle.laws_server_runs.specs.BornRanges.{AllInOrder, AreShared}
use Rattle.laws_server_runs.specs.ChildInvariant.{AreBornSo}
use Rattle.laws_server_runs.specs.FamilyMembers.{of_servers, IsMember, AllCame}
use Rattle.laws_server_runs.proofs.ChildTheorem.{all_members}
use Rattle.laws_server_runs.proofs.SplitsReplay.{all_came}
use Rattle.laws_clusters.specs.ServerEvents.{server_events_after}
use Rattle.laws_clusters.proofs.Births.{run_first_unborn}
use Rattle.laws_clusters.proofs.BornSo.{run_born_so}
use Rattle.laws_clusters.proofs.FirstNumber.{run_unborn}
use Rattle.laws_clusters.proofs.SharesInRuns.{StandsSharing, order, shared_until}
use Rattle.laws_clusters.proofs.ShownBytes as shown
use Rattle.laws_clusters.proofs.ShownNotes.{notes_of}
use Rattle.laws_clusters.proofs.SplitRuns.{run_splitting}
use Rattle.laws_clusters.proofs.ToldRanges.{IsOfSplit, run_born}
use Rattle.laws_clusters.proofs.UntoldRanges.{stays_untold}

module _ (nodes servers target batch : ℕ) (events : List Event) (are : AreUnmerged events) where
  abbrev pub c : Cluster
  c = cluster_after_all (first_cluster nodes servers target batch) events

  abbrev pub coming : List ServerEvent
  coming = server_events_after (first_cluster nodes servers target batch) [] events

  -- what is observed of tables
  abbrev pub h : List Note
  h = notes_of c

  abbrev pub x : ServerRun
  x = run_of batch servers coming

  -- it stands, with what its ranges share
  pub stands : StandsSharing nodes target batch servers c coming
  stands = (run_splitting nodes servers target batch events are).sharing

  -- texts that have all that was observed of extents
  abbrev pub texts : ℕ → Bytes
  texts = shown.texts nodes target stands.stands.moves

  pub tells : AllTellRightly texts c.stream_layer.notes
  tells = subst (λ (w : StreamSystem). AllTellRightly texts w.notes) stands.stands.leads (shown.all_right nodes target stands.stands.moves)

  -- its streams are built as splits wait for them, and are in order; and what servers showed is what is seen
  pub born : AreBornSo texts batch servers coming
  born = run_born_so texts nodes servers target batch events are (stays_untold texts batch servers)

  abbrev pub in_order : AllInOrder texts batch servers coming
  in_order = order nodes target batch servers c coming stands texts tells

  pub seen_as : AreSeenAs texts x.notes (of_servers h)
  seen_as = stands.stands.told texts tells

  shared : (p r : ℕ) (s : IsOfSplit nodes servers target batch events are texts p r) → AreShared texts batch servers coming s.until in_order p r
  shared p r s = shared_until nodes target batch servers c coming stands texts tells s.after s.until s.is p r

  -- so its ranges are members of a family
  abbrev pub member : (r : ℕ) → IsMember texts x r
  member r = all_members texts batch servers coming born in_order r

  pub came : AllCame texts x h member
  came =
      all_came texts batch servers h coming born in_order seen_as (run_unborn nodes servers target batch events are) (run_first_unborn nodes servers target batch events)
      (run_born nodes servers target batch events are texts in_order shared)
