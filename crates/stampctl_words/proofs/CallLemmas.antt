-- Which call the words name, by what was found after the subcommand's name.
use Rattle.std.proofs.Common.{◌≡◌, ◌∙◌, ◌<◌, ◌^◌, ℕ, Bool, codes, true, false, refl, ap, sym, subst, inl, inr, arith, List, ◌∷◌, Option, Some, None, is_some, IsSome, slice_index, Result, Ok, Err}
use Rattle.std.specs.Str.Parse.{ParsesUnsigned}
use Rattle.clap.specs.Matches.{ReadsOne}
use Rattle.clap.specs.Walk.{Row, Text, first_of}
use Rattle.stampctl_words.specs.Words.{Adds, Arguments, Draw, Draws, Dump, Dumps, MayBeFile, Migrate, Migrates, Names, Run, Runs, Trace, Traces, no_arguments}
use Rattle.stampctl_words.proofs.RowLemmas.{Holds, IsRead}
use Rattle.stampctl_words.proofs.SpellingLemmas.{same_in_some}
use Rattle.stampctl_words.proofs.WordLemmas.{Called, CalledWithTwo, IsCalled, IsNamed}

draw_no_dump : codes "draw" ≡ codes "dump" → ⊥
draw_no_dump e = let second : ◌≡◌ {A = ℕ} 114 117 = ap (λ (t : Text). slice_index t 1) e in absurd (omega arith)

-- a subcommand of a file alone
module _ (words : List Text) (rows : List Row) (file : Option Text) (is : file ≡ first_of (codes "file") rows) where
  pub called_trace : Called words (codes "trace") rows → Names MayBeFile words (Trace file)
  called_trace called = go called.needs_file called.has_options called.named called.adds
    where
      go : (needs_file has_options : Bool) → IsNamed needs_file has_options (codes "trace") → Adds MayBeFile has_options called.rest no_arguments called.arguments → Names MayBeFile words (Trace file)
      go true true named adds = absurd named
      go true false named adds = let bad : codes "trace" ≡ codes "dump" = named in cc
      go false true named adds = let bad : codes "trace" ≡ codes "draw" = named in cc
      go false false named adds =
          subst (λ (ws : List Text). Names MayBeFile ws (Trace file)) (sym called.is)
          (subst (λ (o : Option Text). Names MayBeFile (codes "trace" ∷ called.rest) (Trace o)) (sym called.holds.file ∙ sym is) (Traces called.rest called.arguments adds))

  pub called_run : (name : Text) → (name ≡ codes "trace" → ⊥) → (name ≡ codes "draw" → ⊥) → (name ≡ codes "dump" → ⊥) → Called words name rows → Names MayBeFile words (Run file)
  called_run name no_trace no_draw no_dump called = go called.needs_file called.has_options called.named called.adds
    where
      go : (needs_file has_options : Bool) → IsNamed needs_file has_options name → Adds MayBeFile has_options called.rest no_arguments called.arguments → Names MayBeFile words (Run file)
      go true true named adds = absurd named
      go true false named adds = absurd (no_dump named)
      go false true named adds = absurd (no_draw named)
      go false false (inr named) adds = absurd (no_trace named)
      go false false (inl named) adds =
          subst (λ (ws : List Text). Names MayBeFile ws (Run file)) (sym (subst (λ (t : Text). words ≡ t ∷ called.rest) named called.is))
          (subst (λ (o : Option Text). Names MayBeFile (codes "run" ∷ called.rest) (Run o)) (sym called.holds.file ∙ sym is) (Runs called.rest called.arguments adds))

pub called_draw : (words : List Text) (rows : List Row) (b : Arguments) → ((a : Arguments) → Holds rows a → (b.file ≡ a.file) × (b.from ≡ a.from) × (b.to ≡ a.to))
    → Called words (codes "draw") rows → Names MayBeFile words (Draw b)
called_draw words rows b same called = go called.needs_file called.has_options called.named called.adds
  where
    go : (needs_file has_options : Bool) → IsNamed needs_file has_options (codes "draw") → Adds MayBeFile has_options called.rest no_arguments called.arguments → Names MayBeFile words (Draw b)
    go true true named adds = absurd named
    go true false named adds = absurd (draw_no_dump named)
    go false false (inl named) adds = let bad : codes "draw" ≡ codes "run" = named in cc
    go false false (inr named) adds = let bad : codes "draw" ≡ codes "trace" = named in cc
    go false true named adds =
        let parts = same called.arguments called.holds in
        let is : ◌≡◌ {A = Arguments} b called.arguments = λ i. record { file = parts.0 i; from = parts.1 i; to = parts.2 i } in
        subst (λ (ws : List Text). Names MayBeFile ws (Draw b)) (sym called.is)
        (subst (λ (a : Arguments). Names MayBeFile (codes "draw" ∷ called.rest) (Draw a)) (sym is) (Draws called.rest called.arguments adds))

-- the subcommand that needs a file has one
module _ (words : List Text) (rows : List Row) (called : Called words (codes "dump") rows) where
  abbrev IsDump : Bool → Bool → Type 0
  IsDump needs_file has_options = (needs_file ≡ true) × (has_options ≡ false)

  named_dump : (needs_file has_options : Bool) → IsNamed needs_file has_options (codes "dump") → IsDump needs_file has_options
  named_dump true true named = absurd named
  named_dump true false named = (refl, refl)
  named_dump false true named = absurd (draw_no_dump (sym named))
  named_dump false false (inl named) = let bad : codes "dump" ≡ codes "run" = named in cc
  named_dump false false (inr named) = let bad : codes "dump" ≡ codes "trace" = named in cc

  abbrev is_dump : IsDump called.needs_file called.has_options
  is_dump = named_dump called.needs_file called.has_options called.named

  pub dump_has_file : IsSome (first_of (codes "file") rows)
  dump_has_file = ap is_some called.holds.file ∙ called.has_file is_dump.0

  pub called_dump : (file : Text) → Some file ≡ first_of (codes "file") rows → Names MayBeFile words (Dump file)
  called_dump file is =
      subst (λ (ws : List Text). Names MayBeFile ws (Dump file)) (sym called.is)
      (Dumps called.rest called.arguments file (subst (λ (b : Bool). Adds MayBeFile b called.rest no_arguments called.arguments) is_dump.1 called.adds) (sym called.holds.file ∙ sym is))

-- a subcommand with a file at most is not the one with two
pub with_one : (words : List Text) (name : Text) (rows : List Row) → (name ≡ codes "migrate" → ⊥) → IsCalled words name rows → Called words name rows
with_one words name rows no_pair (inl called) = called
with_one words name rows no_pair (inr called) = absurd (no_pair called.named)

pub dump_called : (words : List Text) (rows : List Row) → IsCalled words (codes "dump") rows → Called words (codes "dump") rows
dump_called words rows called = with_one words (codes "dump") rows (λ e. let bad : codes "dump" ≡ codes "migrate" = e in cc) called

-- the subcommand with two files has them
module _ (words : List Text) (rows : List Row) where
  pub with_two : IsCalled words (codes "migrate") rows → CalledWithTwo words (codes "migrate") rows
  with_two (inr called) = called
  with_two (inl called) = absurd (go called.needs_file called.has_options called.named)
    where
      go : (needs_file has_options : Bool) → IsNamed needs_file has_options (codes "migrate") → ⊥
      go true true named = named
      go true false named = let bad : codes "migrate" ≡ codes "dump" = named in cc
      go false true named = let bad : codes "migrate" ≡ codes "draw" = named in cc
      go false false (inl named) = let bad : codes "migrate" ≡ codes "run" = named in cc
      go false false (inr named) = let bad : codes "migrate" ≡ codes "trace" = named in cc

  pub called_migrate : CalledWithTwo words (codes "migrate") rows → (file new : Text) → Some file ≡ first_of (codes "file") rows → Some new ≡ first_of (codes "new") rows
      → Names MayBeFile words (Migrate file new)
  called_migrate called file new first second =
      let file_is : file ≡ called.file = same_in_some _ _ (first ∙ called.holds.0) in
      let new_is : new ≡ called.new = same_in_some _ _ (second ∙ called.holds.1) in
      subst (λ (ws : List Text). Names MayBeFile ws (Migrate file new)) (sym called.is)
      (subst (λ (f : Text). Names MayBeFile (codes "migrate" ∷ called.rest) (Migrate f new)) (sym file_is)
      (subst (λ (n : Text). Names MayBeFile (codes "migrate" ∷ called.rest) (Migrate called.file n)) (sym new_is) (Migrates called.rest called.file called.new called.are)))

  pub has_first : CalledWithTwo words (codes "migrate") rows → IsSome (first_of (codes "file") rows)
  has_first called = ap is_some called.holds.0

  pub has_second : CalledWithTwo words (codes "migrate") rows → IsSome (first_of (codes "new") rows)
  has_second called = ap is_some called.holds.1

-- what `get_one` reads of an option's text
pub number_is : {E : Type 0} (G : Text → Result ℕ E → Type 0) → ((t : Text) (r : Result ℕ E) → G t r → ParsesUnsigned 64 10 t r)
    → (o : Option Text) (wanted : Option ℕ) → IsRead o wanted → (r : Option ℕ) → (o ≡ None → r ≡ None) → ((t : Text) → o ≡ Some t → ReadsOne G t r) → r ≡ wanted
number_is G parses None None read r none some = none refl
number_is G parses None (Some n) read r none some = absurd read
number_is G parses (Some t) None read r none some = absurd read
number_is G parses (Some t) (Some n) read r none some = go r (some t refl)
  where
    go : (x : Option ℕ) → ReadsOne G t x → x ≡ Some n
    go (Some v) given = let is : v ≡ n = (parses t (Ok v) given).1 ∙ read.1 in cc
    go None given = absurd (parses t (Err given.0) given.1 (read.0, subst (λ (k : ℕ). k < 2 ^ 64) (sym read.1) read.2))
