-- Stories whose groups are called by other names; and what the groups of a log spell.
use Rattle.std.specs.Prelude.{[], ◌∷◌, map, Option, Some, None}
use Rattle.replica.specs.Groups.{Group}
use Rattle.commitlog.specs.declared.log_record.LogRecord.{LogRecord}
use Rattle.commitlog.specs.Reading.{record_at}
use Rattle.commitlog.specs.Replay.{Numbered}
use Rattle.metadata.specs.declared.record.MetaItem.{MetaItem}
use Rattle.metadata.specs.declared.record.MetaRecord.{MetaRecord}
use Rattle.metadata.specs.Reading.{group_at}
use Rattle.model_partition.specs.Past.{Transaction}
use Rattle.model_histories.specs.Story.{Placed, StreamEvent, Made, Answered, Showed, Story, Copy}

module _ {A B : Type 0} (f : A → B) where
  abbrev pub renamed_copy : Copy A → Copy B
  renamed_copy c = record { from = c.from; to = c.to; append = c.append; group = f c.group }

  abbrev pub renamed_placed : Placed A → Placed B
  renamed_placed p = record { from = p.from; to = p.to; group = f p.group }

  abbrev pub renamed_event : StreamEvent A → StreamEvent B
  renamed_event (Made g group) = Made g (f group)
  renamed_event (Answered append from to) = Answered append from to
  renamed_event (Showed g start end groups) = Showed g start end (map renamed_placed groups)

  abbrev pub renamed : Story A → Story B
  renamed story = map renamed_event story

-- ---- the log of a range

-- a record as a group of numbered transactions
abbrev pub numbered : LogRecord → Numbered Transaction
numbered r = record { first = r.first; items = r.transactions }

abbrev pub numbered_if : Option LogRecord → Numbered Transaction
numbered_if None = record { first = 0; items = [] }
numbered_if (Some r) = numbered r

-- what a group spells
abbrev pub decoded : Group → Numbered Transaction
decoded group = numbered_if (record_at group)

-- ---- the metadata of a range

-- a record as a group of one item
abbrev pub one_record : Option MetaRecord → Numbered MetaItem
one_record None = record { first = 0; items = [] }
one_record (Some r) = record { first = r.number; items = r.item ∷ [] }

-- what a group of the metadata spells
abbrev pub decoded_record : Group → Numbered MetaItem
decoded_record group = one_record (group_at group)
