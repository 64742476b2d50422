-- What is printed in turn is printed at once.
use Rattle.std.proofs.Common.{◌≡◌, ◌∙◌, ap, sym, subst, arith, ℕ, suc, ◌+◌, ◌<◌, List, [], ◌∷◌, ◌++◌, length, take, Option, Some, None, append-nil, append_assoc}
use Rattle.std.specs.List.{slice_index_or}
use Rattle.std.proofs.Math.Seq.{take-suc}
use Rattle.std.specs.Io.KnownBytes.{Appends}
use Rattle.wire.specs.declared.note.Note.{Note}
use Rattle.script_reports.specs.Telling.{observed}
use Rattle.script_run.specs.Output.{line, lines_of_notes}

pub appends_nothing : (a : Option (List ℕ)) → Appends a a []
appends_nothing None = tt
appends_nothing (Some xs) = sym (append-nil xs)

pub appends_both : (a b c : Option (List ℕ)) (first last : List ℕ) → Appends a b first → Appends b c last → Appends a c (first ++ last)
appends_both None b c first last one other = tt
appends_both (Some xs) None c first last one other = absurd one
appends_both (Some xs) (Some ys) None first last one other = absurd other
appends_both (Some xs) (Some ys) (Some zs) first last one other = other ∙ ap (λ l. l ++ last) one ∙ append_assoc xs first last

lines_push : (notes : List Note) (note : Note) → lines_of_notes (notes ++ note ∷ []) ≡ lines_of_notes notes ++ line (observed note)
lines_push [] note = append-nil (line (observed note))
lines_push (n ∷ notes) note = ap (λ l. line (observed n) ++ l) (lines_push notes note) ∙ sym (append_assoc (line (observed n)) (lines_of_notes notes) (line (observed note)))

-- one more turn of a loop over a list
pub taken : {X : Type 0} → (xs : List X) (i : ℕ) (x : X) → x ≡ slice_index_or xs i x → i < length xs → take (i + 1) xs ≡ take i xs ++ x ∷ []
taken xs i x is l = ap (λ k. take k xs) one_more ∙ take-suc xs i x l ∙ ap (λ y. take i xs ++ y ∷ []) (sym is)
  where
    one_more : i + 1 ≡ suc i
    one_more = omega arith

pub notes_next : (a b c : Option (List ℕ)) (notes : List Note) (i : ℕ) (note : Note) → note ≡ slice_index_or notes i note → i < length notes
    → Appends a b (lines_of_notes (take i notes)) → Appends b c (line (observed note)) → Appends a c (lines_of_notes (take (i + 1) notes))
notes_next a b c notes i note is l before now =
    subst (λ text. Appends a c text) (sym (ap lines_of_notes (taken notes i note is l) ∙ lines_push (take i notes) note)) (appends_both a b c (lines_of_notes (take i notes)) (line (observed note)) before now)
