-- A whole script, and what it prints.
use Rattle.std.specs.Prelude.{◌≡◌, ◌<◌, ◌≤◌, ℕ, suc, Bool, not, ◌==◌, List, [], ◌∷◌, Option, Some, None, codes, filter, length, take}
use Rattle.std.specs.List.{AllByRecursion, slice_split}
use Rattle.std.specs.Str.{IsUtf8}
use Rattle.std.specs.Str.Lines.{lines}
use Rattle.std.specs.Str.Parse.{digits_value}
use Rattle.world_setup.specs.declared.setup.Setup.{Setup}
use Rattle.world_setup.specs.Limits.{IsWithinLimits}
use Rattle.model_partition.specs.Cluster.{first_cluster}
use Rattle.script_lines.specs.declared.line.Line.{Line}
use Rattle.script_lines.specs.declared.line.Line.TheVariants.{Show}
use Rattle.script_lines.specs.Grammar.{Spells}
use Rattle.script_lines.specs.Sequences.{each}
use Rattle.script_lines.specs.Values.{IsNumber}
use Rattle.world.specs.Cluster.{ClusterMirrors}
use Rattle.script_run.specs.Playing.{IsFresh, PlaysAll, SessionState}

-- how many nodes and servers, the target of an extent, and how many transactions a group may hold
pub record Size : Type 0 where
  pub nodes : ℕ
  pub servers : ℕ
  pub target : ℕ
  pub batch : ℕ

abbrev pub size_of : Setup → Size
size_of setup = record { nodes = setup.nodes; servers = setup.servers; target = setup.target; batch = setup.batch }

abbrev pub SpellsNumber : List ℕ → ℕ → Type 0
SpellsNumber word n = IsNumber word × (n ≡ digits_value 10 word)

-- the words of the first line
pub record SpellsSetup (words : List (List ℕ)) (size : Size) : Type 0 where
  pub nodes : List ℕ
  pub servers : List ℕ
  pub target : List ℕ
  pub batch : List ℕ
  pub are : words ≡ codes "setup" ∷ nodes ∷ servers ∷ target ∷ batch ∷ []
  pub node_count : SpellsNumber nodes size.nodes
  pub server_count : SpellsNumber servers size.servers
  pub target_size : SpellsNumber target size.target
  pub batch_size : SpellsNumber batch size.batch
  pub within : IsWithinLimits size.nodes size.servers size.target size.batch

-- single blanks (32) part the words of a line
abbrev pub words_of : List ℕ → List (List ℕ)
words_of = slice_split (λ b. b == 32)

-- a script shows no node that its setup lacks
abbrev pub IsWithin : Size → Line → Type 0
IsWithin size (Show node extent) = (1 ≤ node) × (node ≤ size.nodes)
IsWithin size line = Unit {0}

abbrev pub SpellsLine : Size → List ℕ → Line → Type 0
SpellsLine size text line = Spells line (words_of text) × IsWithin size line

-- each text spells the line at its place
abbrev pub SpellsAll : Size → List (List ℕ) → List Line → Type 0
SpellsAll size texts plan = each (λ line text. SpellsLine size text line) plan texts

-- the first of these lines is a setup, and each other one is a line
abbrev pub SpellsPlan : List (List ℕ) → Size → List Line → Type 0
SpellsPlan [] size plan = ⊥
SpellsPlan (first ∷ texts) size plan = SpellsSetup (words_of first) size × SpellsAll size texts plan

abbrev pub is_some : List ℕ → Bool
is_some text = not (length text == 0)

-- a text of characters that is a setup, and these lines below it; empty lines are passed over
abbrev pub IsScript : List ℕ → Size → List Line → Type 0
IsScript text size plan = IsUtf8 text × SpellsPlan (filter is_some (lines text)) size plan

-- what the script of this text prints: the lines are run in order, on a stamp of its setup
pub record Writes (text written : List ℕ) : Type 0 where
  pub size : Size
  pub plan : List Line
  pub is : IsScript text size plan
  pub first : SessionState
  pub fresh : IsFresh first
  pub mirrors : ClusterMirrors first.run (first_cluster size.nodes size.servers size.target size.batch)
  pub last : SessionState
  pub plays : PlaysAll first plan written last

-- ---- where a text that is no script goes wrong

-- the size of a setup, if there is one yet
abbrev pub size_if : Option Setup → Option Size
size_if None = None
size_if (Some setup) = Some (size_of setup)

-- lines with no setup yet, or a setup and these lines below it
abbrev pub SpellsDraft : List (List ℕ) → Option Size → List Line → Type 0
SpellsDraft texts None plan = (texts ≡ []) × (plan ≡ [])
SpellsDraft texts (Some size) plan = SpellsPlan texts size plan

-- the same of lines of which some may be empty; each is a text of characters
abbrev pub IsDraft : List (List ℕ) → Option Size → List Line → Type 0
IsDraft texts setup plan = AllByRecursion IsUtf8 texts × SpellsDraft (filter is_some texts) setup plan

-- a script may begin with these lines
abbrev pub BeginsScript : List (List ℕ) → Type 0
BeginsScript texts = (setup : Option Size) × (plan : List Line) × IsDraft texts setup plan

-- line n, counted from 1, is the first that no script has there
pub data IsFirstBad (texts : List (List ℕ)) (n : ℕ) : Type 0 where
  -- a script may begin with the lines before it, and not with it too
  spoils : (k : ℕ) → n ≡ suc k → k < length texts → BeginsScript (take k texts) → (BeginsScript (take (suc k) texts) → ⊥) → IsFirstBad texts n
  -- all lines are empty, and it is the one after them that lacks
  lacks : n ≡ suc (length texts) → BeginsScript texts → filter is_some texts ≡ [] → IsFirstBad texts n
