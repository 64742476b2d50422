-- What the words after the program's name ask for.
use Rattle.std.specs.Prelude.{◌≡◌, ◌≢◌, ◌⊎◌, ◌<◌, ◌^◌, ℕ, Bool, true, false, List, [], ◌∷◌, ◌++◌, Option, Some, None, String, codes, map, option_map, slice_get, string_bytes, take}
use Rattle.std.specs.Str.Parse.{IsNumeral, digits_value, without_leading_plus}
use Rattle.std.specs.declared.alloc.Global.{Global}
use Rattle.stampctl_words.specs.declared.named.Task.{Task}
use Rattle.stampctl_words.specs.declared.named.Task.TheVariants as task

-- what the strings hold
abbrev pub texts : List (String Global) → List (List ℕ)
texts = map string_bytes

-- what may stand after a subcommand's name: a file, and the numbers of the first and of the last event that is drawn
pub record Arguments : Type 0 where
  pub file : Option (List ℕ)
  pub from : Option ℕ
  pub to : Option ℕ

abbrev pub no_arguments : Arguments
no_arguments = record { file = None; from = None; to = None }

-- a subcommand with its arguments
pub data Call : Type 0 where
  Run : Option (List ℕ) → Call
  Trace : Option (List ℕ) → Call
  Draw : Arguments → Call
  Dump : List ℕ → Call
  Migrate : (file new : List ℕ) → Call

abbrev pub call_of : Task → Call
call_of (task.Run file) = Run (option_map (λ f. f.now) file)
call_of (task.Trace file) = Trace (option_map (λ f. f.now) file)
call_of (task.Draw file from to) = Draw (record { file = option_map (λ f. f.now) file; from = from; to = to })
call_of (task.Dump file) = Dump file.now
call_of (task.Migrate file new) = Migrate file.now new.now

-- a word that may be a file: one that begins with two hyphens is an option
abbrev pub MayBeFile : List ℕ → Type 0
MayBeFile word = take 2 word ≢ codes "--"

-- a word that is a file: it does not begin with a hyphen (45), or it is a hyphen
abbrev pub IsFile : List ℕ → Type 0
IsFile word = (slice_get word 0 ≢ Some 45) ⊎ (word ≡ codes "-")

-- the word is the number n in decimal digits, after a plus or without one
abbrev pub IsNumber : List ℕ → ℕ → Type 0
IsNumber word n = IsNumeral 10 (without_leading_plus word) × (digits_value 10 (without_leading_plus word) ≡ n) × (n < 2 ^ 64)

-- The words add to the arguments a, and make them b. They are, in any order and each at most once, a file, which is one of `Files`, and if the
-- subcommand has options `--from N` and `--to M`, or `--from=N` and `--to=M`. After `--` stands a file or nothing, whatever it begins with.
pub data Adds (Files : List ℕ → Type 0) (has_options : Bool) : List (List ℕ) → (a b : Arguments) → Type 0 where
  NoWords : (a : Arguments) → Adds Files has_options [] a a
  File : (a b : Arguments) (word : List ℕ) (rest : List (List ℕ)) (first : a.file ≡ None) (is : Files word) (more : Adds Files has_options rest (record a { file = Some word }) b) → Adds Files has_options (word ∷ rest) a b
  From : (a b : Arguments) (word : List ℕ) (n : ℕ) (rest : List (List ℕ)) (may : has_options ≡ true) (first : a.from ≡ None) (is : IsNumber word n) (more : Adds Files has_options rest (record a { from = Some n }) b) →
      Adds Files has_options (codes "--from" ∷ word ∷ rest) a b
  FromJoined : (a b : Arguments) (word : List ℕ) (n : ℕ) (rest : List (List ℕ)) (may : has_options ≡ true) (first : a.from ≡ None) (is : IsNumber word n) (more : Adds Files has_options rest (record a { from = Some n }) b) →
      Adds Files has_options ((codes "--from=" ++ word) ∷ rest) a b
  To : (a b : Arguments) (word : List ℕ) (n : ℕ) (rest : List (List ℕ)) (may : has_options ≡ true) (first : a.to ≡ None) (is : IsNumber word n) (more : Adds Files has_options rest (record a { to = Some n }) b) →
      Adds Files has_options (codes "--to" ∷ word ∷ rest) a b
  ToJoined : (a b : Arguments) (word : List ℕ) (n : ℕ) (rest : List (List ℕ)) (may : has_options ≡ true) (first : a.to ≡ None) (is : IsNumber word n) (more : Adds Files has_options rest (record a { to = Some n }) b) →
      Adds Files has_options ((codes "--to=" ++ word) ∷ rest) a b
  Dashes : (a : Arguments) → Adds Files has_options (codes "--" ∷ []) a a
  DashesFile : (a : Arguments) (word : List ℕ) (first : a.file ≡ None) → Adds Files has_options (codes "--" ∷ word ∷ []) a (record a { file = Some word })

-- The words are these files, in this order, each of them one of `Files`. After `--` stand files, whatever they begin with.
pub data AreFiles (Files : List ℕ → Type 0) : (words files : List (List ℕ)) → Type 0 where
  NoMoreFiles : AreFiles Files [] []
  OneMoreFile : (word : List ℕ) (words files : List (List ℕ)) (is : Files word) (more : AreFiles Files words files) → AreFiles Files (word ∷ words) (word ∷ files)
  FilesAfterDashes : (files : List (List ℕ)) → AreFiles Files (codes "--" ∷ files) files

-- the words name a subcommand with its arguments, and a file that is dumped may not be left out, nor the two of a migration; where they name none,
-- the script on standard input is run
pub data Names (Files : List ℕ → Type 0) : List (List ℕ) → Call → Type 0 where
  NoSubcommand : Names Files [] (Run None)
  OnlyDashes : Names Files (codes "--" ∷ []) (Run None)
  Runs : (words : List (List ℕ)) (a : Arguments) (by : Adds Files false words no_arguments a) → Names Files (codes "run" ∷ words) (Run a.file)
  Traces : (words : List (List ℕ)) (a : Arguments) (by : Adds Files false words no_arguments a) → Names Files (codes "trace" ∷ words) (Trace a.file)
  Draws : (words : List (List ℕ)) (a : Arguments) (by : Adds Files true words no_arguments a) → Names Files (codes "draw" ∷ words) (Draw a)
  Dumps : (words : List (List ℕ)) (a : Arguments) (file : List ℕ) (by : Adds Files false words no_arguments a) (has : a.file ≡ Some file) → Names Files (codes "dump" ∷ words) (Dump file)
  Migrates : (words : List (List ℕ)) (file new : List ℕ) (are : AreFiles Files words (file ∷ new ∷ [])) → Names Files (codes "migrate" ∷ words) (Migrate file new)
