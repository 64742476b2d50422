-- Lines that are written in turn are written at once.
use Rattle.std.proofs.Common.{◌≡◌, ◌∙◌, ap, sym, subst, arith, ℕ, suc, ◌+◌, ◌<◌, List, [], ◌∷◌, ◌++◌, length, take, Option, Some, None, append-nil, append_assoc}
use Rattle.std.specs.List.{slice_index_or}
use Rattle.std.proofs.Math.Seq.{take-suc}
use Rattle.std.proofs.lemmas.Grind.{flat_map-append}
use Rattle.std.specs.Io.KnownBytes.{Appends}
use Rattle.block_types.specs.declared.record.Record.{Record}
use Rattle.record_dump.specs.Dump.{line_of, lines_of}

appends_both : (a b c : Option (List ℕ)) (first last : List ℕ) → Appends a b first → Appends b c last → Appends a c (first ++ last)
appends_both None b c first last one other = tt
appends_both (Some xs) None c first last one other = absurd one
appends_both (Some xs) (Some ys) None first last one other = absurd other
appends_both (Some xs) (Some ys) (Some zs) first last one other = other ∙ ap (λ l. l ++ last) one ∙ append_assoc xs first last

lines_push : (rs : List Record) (r : Record) → lines_of (rs ++ r ∷ []) ≡ lines_of rs ++ (line_of r ++ 10 ∷ [])
lines_push rs r = flat_map-append (λ x. line_of x ++ 10 ∷ []) rs (r ∷ []) ∙ ap (λ l. lines_of rs ++ l) (append-nil (line_of r ++ 10 ∷ []))

taken : (rs : List Record) (i : ℕ) (r : Record) → r ≡ slice_index_or rs i r → i < length rs → take (i + 1) rs ≡ take i rs ++ r ∷ []
taken rs i r is below = ap (λ k. take k rs) one_more ∙ take-suc rs i r below ∙ ap (λ x. take i rs ++ x ∷ []) (sym is)
  where
    one_more : i + 1 ≡ suc i
    one_more = omega arith

-- one more line
pub lines_next : (a b c : Option (List ℕ)) (rs : List Record) (i : ℕ) (r : Record) → r ≡ slice_index_or rs i r → i < length rs
    → Appends a b (lines_of (take i rs)) → Appends b c (line_of r ++ 10 ∷ []) → Appends a c (lines_of (take (i + 1) rs))
lines_next a b c rs i r is below before now =
    subst (λ text. Appends a c text) (sym (ap lines_of (taken rs i r is below) ∙ lines_push (take i rs) r))
    (appends_both a b c (lines_of (take i rs)) (line_of r ++ 10 ∷ []) before now)
