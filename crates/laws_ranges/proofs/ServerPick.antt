-- A client that is given the server's pick has what it had to do with its incarnation.
use Rattle.std.proofs.Common.{◌≡◌, ℕ, List, None, sym, ap, ◌∙◌, subst, length, ◌-◌, ◌<◌, Some, arith}
use Rattle.block_types.specs.declared.record.Nodes.{Nodes}
use Rattle.wire.specs.declared.actor.ReqNo.{ReqNo}
use Rattle.wire.specs.declared.streams.StreamExtent.{StreamExtent}
use Rattle.wire.specs.declared.streams.StreamName.{StreamName}
use Rattle.client.specs.declared.job.Job.{Job}
use Rattle.client.specs.declared.job.Job.TheVariants as jobs
use Rattle.client.specs.Client.{ClientState, Outcome, last_extent, check_at, check_behind, check_rule, checks_last}
use Rattle.model_streams.specs.StreamSystem.{StreamSystem}
use Rattle.model_partition.specs.declared.server_context.ServerContext.{ServerContext}
use Rattle.model_partition.specs.Range.{request, given, picking}
use Rattle.replica.specs.Groups.{Group}
use Rattle.model_histories.specs.StreamMachine as machine
use Rattle.model_histories.specs.Story.{Copy}
use Rattle.model_partition.specs.Loading.{read_of}
use Rattle.laws_stream_machine.specs.Refinement.{Sent, purpose_of}
use Rattle.laws_ranges.specs.Serves.{Stand, known, LastIs, Readable, WasSealed, WasFound, WasShut, LoadsBy, LoadingIs, UnreadIs, ConfirmingIs, LoadOf, OfSealed, OfStood, Listed, Goes}
use Rattle.laws_ranges.proofs.ClientAsks.{some_last}
use Rattle.laws_ranges.proofs.LoadTurns.{checks_goes}
use Rattle.laws_ranges.proofs.ReadInTurn.{read_goes}

-- what is read does not depend on the pick
picked_load : (i : ℕ) (s : machine.MachineState Group) (c : ClientState) (pick : Nodes) (read : List (Copy Group)) → LoadOf i s c read → LoadOf i s (record c { pick = pick }) read
picked_load i s c pick read (OfSealed live within is) = OfSealed live within is
picked_load i s c pick read (OfStood index found stood live count checked fact within is) = OfStood index found stood live count checked fact within is

module _ (generation : ℕ → ℕ) (name : StreamName) (w : StreamSystem) (i : ℕ) (x : Stand) (sent : List Sent) where
  picked_last : (c : ClientState) (pick : Nodes) (e index : ℕ) → LastIs c e index → LastIs (record c { pick = pick }) e index
  picked_last c pick e index b = record { places = b.places; last = b.last; index_is = b.index_is }

  picked_readable : (c : ClientState) (pick : Nodes) → Readable generation name w i x sent c → Readable generation name w i x sent (record c { pick = pick })
  picked_readable c pick (WasSealed live stands) = WasSealed live stands
  picked_readable c pick (WasFound f) =
      WasFound (record {
        e = f.e;
        index = f.index;
        found = f.found;
        stood = f.stood;
        last = picked_last c pick f.e f.index f.last;
        stands = f.stands;
        checked = f.checked;
        fact = f.fact;
      })
  picked_readable c pick (WasShut index index_is live stands) = WasShut index index_is live stands

  picked_job : (c : ClientState) (pick : Nodes) (j : Job) → LoadsBy generation name w i x sent c j → LoadsBy generation name w i x sent (record c { pick = pick }) j
  picked_job c pick jobs.Idle b = picked_readable c pick b
  picked_job c pick (jobs.Sent e q) b = absurd b
  picked_job c pick (jobs.Closing e q) b = absurd b
  picked_job c pick (jobs.Growing last q) b = absurd b
  picked_job c pick (jobs.Checking e q) b = record { index = b.index; last = picked_last c pick e b.index b.last; stands = b.stands; for = b.for; fact = b.fact }
  picked_job c pick (jobs.Shutting e q) b = record { index = b.index; last = picked_last c pick e b.index b.last; stands = b.stands; for = b.for }
  picked_job c pick (jobs.Reading e places upto sealed place q) b =
      record {
        index = b.index;
        at = b.at;
        for = b.for;
        is_last = λ u. picked_last c pick e b.index (b.is_last u);
        readable = picked_readable c pick b.readable;
      }

  pub picked_loading : (c : ClientState) (pick : Nodes) → LoadingIs generation name w i x sent c → LoadingIs generation name w i x sent (record c { pick = pick })
  picked_loading c pick b =
      record { told = record { stream = b.told.stream; under = b.told.under; tells = b.told.tells }; opened = b.opened; job = picked_job c pick c.job b.job }

  pub picked_unread : (c : ClientState) (pick : Nodes) → UnreadIs generation name w i x sent c → UnreadIs generation name w i x sent (record c { pick = pick })
  picked_unread c pick b =
      record { told = record { stream = b.told.stream; under = b.told.under; tells = b.told.tells }; opened = b.opened; idle = b.idle; stands = b.stands }

  pub picked_confirming : (c : ClientState) (pick : Nodes) (q : ReqNo) → ConfirmingIs generation name w i x sent c q → ConfirmingIs generation name w i x sent (record c { pick = pick }) q
  picked_confirming c pick q b =
      record {
        told = record { stream = b.told.stream; under = b.told.under; tells = b.told.tells };
        idle = b.idle;
        read = b.read;
        end = b.end;
        of = picked_load i x.state c pick b.read b.of;
        stands = b.stands;
        for = b.for;
        fact = b.fact;
        ends = b.ends;
      }

  -- a client that has no job is the one with no job
  idle_loading : (c : ClientState) → c.job ≡ jobs.Idle → LoadingIs generation name w i x sent c → LoadingIs generation name w i x sent (record c { job = jobs.Idle })
  idle_loading c idle b = subst (λ j. LoadingIs generation name w i x sent (record c { job = j })) idle b

  idle_unread : (c : ClientState) → c.job ≡ jobs.Idle → UnreadIs generation name w i x sent c → UnreadIs generation name w i x sent (record c { job = jobs.Idle })
  idle_unread c idle b = subst (λ j. UnreadIs generation name w i x sent (record c { job = j })) idle b

-- ---- what a load asks of a stream, with the server's pick

module _ (generation : ℕ → ℕ) (name : StreamName) (w : StreamSystem) (i : ℕ) (listed : Listed w name) (sent : List Sent) (d : ServerContext) (fresh : purpose_of sent (request d) ≡ None) (x : Stand) where
  abbrev pub LoadsTo : Outcome → Type 0
  LoadsTo o = Goes generation name w i x sent (request d) (λ y more. LoadingIs generation name w i y more o.after) o.packet

  -- the length of its last extent is checked, where that is open
  pub check_goes : (c : ClientState) → UnreadIs generation name w i x sent c → (z : StreamExtent) → last_extent c.extents ≡ Some z → z.length ≡ None →
      LoadsTo (given (picking d c) (check_rule (picking d c) (request d)))
  check_goes c b z e none =
      let before : ClientState = record c { pick = d.pick; job = jobs.Idle } in
      let unread : UnreadIs generation name w i x sent before = picked_unread generation name w i x sent (record c { job = jobs.Idle }) d.pick (idle_unread generation name w i x sent c b.idle b) in
      let inside : 0 < length c.extents = some_last c z e in
      let last : LastIs before z.extent (known c - 1) =
      record { places = z.places; last = e ∙ ap (λ k. Some (record z { length = k })) none; index_is = omega (arith, inside) } in
      let went : LoadsTo (checks_last before z.extent z.places (request d)) =
      checks_goes generation name w i listed sent (request d) fresh x before z.extent (known c - 1) z.places unread last in
      subst (λ j. LoadsTo (given (record c { pick = d.pick; job = j }) (check_rule (record c { pick = d.pick; job = j }) (request d)))) (sym b.idle)
      (subst (λ o. LoadsTo (given before (check_at before (request d) o))) (sym e)
      (subst (λ k. LoadsTo (given before (check_behind before (request d) z k))) (sym none) went))

  -- its extent at a position is read
  pub reading_goes : (c : ClientState) → LoadingIs generation name w i x sent c → c.job ≡ jobs.Idle → (position : ℕ) → LoadsTo (read_of d (picking d c) position)
  reading_goes c b idle position =
      subst (λ j. LoadsTo (read_of d (record c { pick = d.pick; job = j }) position)) (sym idle)
      (read_goes generation name w i listed sent d fresh x (record c { pick = d.pick })
      (picked_loading generation name w i x sent (record c { job = jobs.Idle }) d.pick (idle_loading generation name w i x sent c idle b)) position)
