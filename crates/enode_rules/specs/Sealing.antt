-- What ends a replica.
use Rattle.std.specs.Prelude.{ℕ, [], Option, Some}
use Rattle.block_types.specs.declared.record.Record.TheVariants as records
use Rattle.wire.specs.declared.body.SealBody.{SealBody}
use Rattle.model_streams.specs.Outcome.{Outcome}
use Rattle.model_streams.specs.Node.{Replica, frozen_at, to_manager}

-- an open replica freezes, and the manager is told so
abbrev pub closes : ℕ → Replica → ℕ → SealBody → Outcome (Option Replica)
closes n r e body =
    record {
      after = Some (frozen_at r);
      written = Some (records.Freeze e);
      packets = to_manager n body;
      notes = [];
    }
