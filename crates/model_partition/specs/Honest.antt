-- What is owed to those who see the observations of a run.
use Rattle.std.specs.Prelude.{List}
use Rattle.wire.specs.declared.note.Note.{Note}
use Rattle.model_streams.specs.Honest.{Agree, Kept}
use Rattle.model_partition.specs.Past.{Replays}
use Rattle.model_partition.specs.Served.{Served}

-- All that is shown of an extent agrees; each acknowledged append stands in it where it was answered; what is loaded replays; and each Get that is
-- answered shows what is stored after every transaction that was acknowledged so far, by the pasts of these loads.
pub record Honest (notes : List Note) : Type 0 where
  pub agree : Agree notes
  pub kept : Kept notes
  pub replays : Replays notes
  pub served : Served notes replays.past
