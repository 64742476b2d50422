-- The lines that a script prints.
use Rattle.std.specs.Prelude.{ℕ, List, [], ◌∷◌, ◌++◌, Some, None, codes, decimal}
use Rattle.hex.specs.Hex.{encode_lower}
use Rattle.script_reports.specs.declared.report.Answer.{Answer}
use Rattle.script_reports.specs.declared.report.Answer.TheVariants as answers
use Rattle.script_reports.specs.declared.report.Report.{Report}
use Rattle.script_reports.specs.declared.report.Report.TheVariants as reports
use Rattle.script_reports.specs.declared.report.Standing.{Standing}
use Rattle.script_reports.specs.declared.report.Standing.TheVariants as standings
use Rattle.wire.specs.Refusal.{text_of}

-- bytes in two digits each, and a dash for none
abbrev pub shown_bytes : List ℕ → List ℕ
shown_bytes [] = codes "-"
shown_bytes (b ∷ bytes) = encode_lower (b ∷ bytes)

-- what an answer tells; a server of number 0 is none
abbrev pub answer_text : Answer → List ℕ
answer_text answers.Created = codes "created"
answer_text (answers.Extended extent) = codes "extended " ++ decimal extent
answer_text (answers.Appended offset) = codes "appended " ++ decimal offset
answer_text (answers.Bytes text) = codes "bytes " ++ text
answer_text (answers.Content size) = codes "content " ++ decimal size
answer_text (answers.Sealed extent size) = codes "sealedis " ++ decimal extent ++ 32 ∷ decimal size
answer_text (answers.Committed number) = codes "committed " ++ decimal number
answer_text (answers.Value text) = codes "value " ++ text
answer_text answers.NoValue = codes "value none"
answer_text (answers.Route range (Some server)) = codes "route " ++ decimal range ++ 32 ∷ decimal server
answer_text (answers.Route range None) = codes "route " ++ decimal range ++ codes " 0"
answer_text (answers.Refused refusal) = codes "refused " ++ text_of refusal

abbrev pub standing_text : Standing → List ℕ
standing_text standings.Open = codes "open"
standing_text standings.Frozen = codes "frozen"
standing_text standings.Sealed = codes "sealed"

-- 32 is the blank
abbrev pub report_text : Report → List ℕ
report_text (reports.Acked extent offset size) =
    codes "acked " ++ decimal extent ++ 32 ∷ decimal offset ++ 32 ∷ decimal size
report_text (reports.SealedAt extent size) = codes "sealed " ++ decimal extent ++ 32 ∷ decimal size
report_text (reports.Content extent node size groups) =
    codes "content " ++ decimal extent ++ 32 ∷ decimal node ++ 32 ∷ decimal size ++ 32 ∷ decimal groups
report_text (reports.Seen extent node offset count) =
    codes "seen " ++ decimal extent ++ 32 ∷ decimal node ++ 32 ∷ decimal offset ++ 32 ∷ decimal count
report_text (reports.Began range generation number) =
    codes "began " ++ decimal range ++ 32 ∷ decimal generation ++ 32 ∷ decimal number
report_text (reports.Done range generation number) =
    codes "done " ++ decimal range ++ 32 ∷ decimal generation ++ 32 ∷ decimal number
report_text (reports.Loaded range generation next rows) =
    codes "loaded " ++ decimal range ++ 32 ∷ decimal generation ++ 32 ∷ decimal next ++ 32 ∷ decimal rows
report_text (reports.Got range generation key (Some size)) =
    codes "got " ++ decimal range ++ 32 ∷ decimal generation ++ 32 ∷ key ++ 32 ∷ decimal size
report_text (reports.Got range generation key None) =
    codes "got " ++ decimal range ++ 32 ∷ decimal generation ++ 32 ∷ key ++ codes " none"
report_text (reports.Split range low high key) =
    codes "split " ++ decimal range ++ 32 ∷ decimal low ++ 32 ∷ decimal high ++ 32 ∷ key
report_text (reports.Merged left right range) =
    codes "merged " ++ decimal left ++ 32 ∷ decimal right ++ 32 ∷ decimal range
report_text (reports.Refused refusal) = codes "refused " ++ text_of refusal
report_text (reports.Told user ticket answer) =
    codes "user " ++ decimal user ++ 32 ∷ decimal ticket ++ 32 ∷ answer_text answer
report_text (reports.Replica node extent standing size fence) =
    codes "replica " ++ decimal node ++ 32 ∷ decimal extent ++ 32 ∷ standing_text standing
    ++ 32 ∷ decimal size ++ 32 ∷ decimal fence
report_text (reports.NoReplica node extent) =
    codes "replica " ++ decimal node ++ 32 ∷ decimal extent ++ codes " none"
report_text (reports.Stopped node extent) =
    codes "replica " ++ decimal node ++ 32 ∷ decimal extent ++ codes " stopped"
