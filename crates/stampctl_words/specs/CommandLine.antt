-- The command line as its parser sees it.
use Rattle.std.specs.Prelude.{◌∷◌, [], Some, codes, true}
use Rattle.clap.specs.Words.{App, Rule, Shape, Text, new_app, new_rule, with_subcommand}
use Rattle.clap.specs.Simple.{new_shape, on_top}
use Rattle.clap.specs.declared.builder.value_parser.ValueParser.TheVariants.{Unsigned}

abbrev pub file_rule : Rule
file_rule = record (new_rule (codes "file")) { value_names = 1 }

-- a file that may not be left out
abbrev pub needed_file_rule : Rule
needed_file_rule = record file_rule { required = true }

-- an option whose value is a number of 64 bits
abbrev pub event_rule : Text → Rule
event_rule name = record (new_rule name) {
  long = Some name;
  value_names = 1;
  parser = Some (Unsigned 0 18446744073709551615);
}

abbrev pub file_shape : Text → Shape
file_shape name = record (new_shape name) { rules = file_rule ∷ [] }

abbrev pub drawing_shape : Shape
drawing_shape = record (new_shape (codes "draw")) {
  rules = file_rule ∷ event_rule (codes "from") ∷ event_rule (codes "to") ∷ [];
}

abbrev pub dumping_shape : Shape
dumping_shape = record (new_shape (codes "dump")) { rules = needed_file_rule ∷ [] }

-- the name of a file that is to be made
abbrev pub new_file_rule : Rule
new_file_rule = record (new_rule (codes "new")) { value_names = 1; required = true }

abbrev pub migrating_shape : Shape
migrating_shape = record (new_shape (codes "migrate")) { rules = needed_file_rule ∷ new_file_rule ∷ [] }

abbrev pub program : App
program =
    let top = on_top (λ s. record s { disable_help_subcommand = true }) (new_app (codes "stampctl")) in
    let run = with_subcommand top (file_shape (codes "run")) in
    let trace = with_subcommand run (file_shape (codes "trace")) in
    let draw = with_subcommand trace drawing_shape in
    let dump = with_subcommand draw dumping_shape in
    with_subcommand dump migrating_shape
