-- Gets of a range that was loaded, by computing: each shows what is stored under its key, or that nothing is, while the lease lasts; none is
-- answered from the moment on at which it ends.
use Rattle.std.proofs.Common.{◌≡◌, ℕ, List, [], ◌∷◌, Some, None, refl, arith}
use Rattle.blocks.specs.Record as numbers
use Rattle.commitlog.specs.Reading as reading
use Rattle.wire.specs.declared.actor.ActorId.TheVariants.{User}
use Rattle.wire.specs.declared.actor.ReqNo.TheVariants as requests
use Rattle.wire.specs.declared.body.Body.TheVariants as bodies
use Rattle.wire.specs.declared.body.TableBody.TheVariants as bodies_of_tables
use Rattle.model_histories.specs.ServerRun.{ServerEvent, Moment, run_of}
use Rattle.laws_server_runs.specs.Reads.{ShowsGot}
use Rattle.laws_server_runs.specs.Turns.{outcome_of}
use Rattle.laws_server_runs.proofs.Worked.{comes, on_time}

-- the second server is asked for a key
abbrev asks : List ℕ → ServerEvent
asks key = comes 2 (User 1) (bodies.Table (bodies_of_tables.Get 1 key (requests.User 1 2)))

-- the key that the transaction put
shows_value : ShowsGot (run_of 1 2 on_time) (asks (97 ∷ [])) 2 1 2 (97 ∷ []) (Some (120 ∷ []))
unfolding numbers.number reading.record_at reading.joined_at reading.text_at reading.body_at reading.transactions_at reading.transaction_at reading.change_at reading.counted_at reading.cell_at reading.fields_at reading.transactions_of
shows_value = (refl, (0, omega arith, refl))

-- and another, just before the lease ends
shows_none : ShowsGot (run_of 1 2 (Moment 99 ∷ on_time)) (asks (98 ∷ [])) 2 1 2 (98 ∷ []) None
unfolding numbers.number reading.record_at reading.joined_at reading.text_at reading.body_at reading.transactions_at reading.transaction_at reading.change_at reading.counted_at reading.cell_at reading.fields_at reading.transactions_of
shows_none = (refl, (0, omega arith, refl))

-- it has ended
is_refused : (outcome_of (run_of 1 2 (Moment 100 ∷ on_time)).servers (asks (97 ∷ []))).notes ≡ []
unfolding numbers.number reading.record_at reading.joined_at reading.text_at reading.body_at reading.transactions_at reading.transaction_at reading.change_at reading.counted_at reading.cell_at reading.fields_at reading.transactions_of
is_refused = refl
