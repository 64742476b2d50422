-- What of the observations servers showed: the map shows splits and merges, and nothing else.
use Rattle.std.proofs.Common.{◌≡◌, true, List, [], ◌∷◌, ◌++◌, refl, ap, ◌∙◌, append-nil}
use Rattle.wire.specs.declared.note.Note.{Note}
use Rattle.wire.specs.declared.note.Note.TheVariants.{Split, Merged}
use Rattle.model_streams.specs.StreamSystem.{is_table_note}
use Rattle.model_partition.specs.Past.{table_notes}
use Rattle.laws_tables.proofs.Others.{others-append}
use Rattle.laws_server_runs.specs.FamilyMembers.{of_servers}
use Rattle.laws_server_runs.proofs.FamilyMembers.{of_servers_both}

-- what servers showed of tables
abbrev pub server_notes : List Note → List Note
server_notes h = of_servers (table_notes h)

pub served-append : (xs ys : List Note) → server_notes (xs ++ ys) ≡ server_notes xs ++ server_notes ys
served-append xs ys = ap of_servers (others-append xs ys) ∙ of_servers_both (table_notes xs) (table_notes ys)

-- ---- splits and merges

abbrev pub IsChange : Note → Type 0
IsChange (Split b c d key) = Unit {0}
IsChange (Merged c d e) = Unit {0}
IsChange o = ⊥

abbrev pub AreChanges : List Note → Type 0
AreChanges [] = Unit {0}
AreChanges (o ∷ h) = IsChange o × AreChanges h

pub change_shown : (o : Note) → IsChange o → is_table_note o ≡ true
change_shown (Split b c d key) change = refl
change_shown (Merged c d e) change = refl
change_shown o change = absurd change

none_served : (h : List Note) → AreChanges h → server_notes h ≡ []
none_served [] changes = refl
none_served (Split b c d key ∷ h) changes = none_served h changes.1
none_served (Merged c d e ∷ h) changes = none_served h changes.1
none_served (o ∷ h) changes = absurd changes.0

-- servers show nothing by them
pub changes_served : (h more : List Note) → AreChanges more → server_notes (h ++ more) ≡ server_notes h
changes_served h more changes = served-append h more ∙ ap (λ l. server_notes h ++ l) (none_served more changes) ∙ append-nil (server_notes h)
