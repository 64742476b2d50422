-- What a task prints.
use Rattle.std.specs.Prelude.{◌≡◌, ℕ, List, [], ◌∷◌, ◌++◌, codes, decimal}
use Rattle.std.specs.declared.io.Write.{Ghosts}
use Rattle.spool.specs.declared.line_spool.LineSpool.{LineSpool}
use Rattle.spool.specs.Spool.{HasHandedOnLines, given}

-- between the two the spool was given some such text, and nothing else, and it has handed on all whole lines
pub record IsPrinted {W : Type 0} {g : Ghosts W} (IsText : List ℕ → Type 0) (old new : LineSpool W g) : Type 0 where
  pub text : List ℕ
  pub is : IsText text
  pub all : given new ≡ given old ++ text
  pub lines : HasHandedOnLines new

-- how many records were migrated, and a newline (10)
abbrev pub migrated_line : ℕ → List ℕ
migrated_line count = codes "migrated " ++ decimal count ++ 10 ∷ []
