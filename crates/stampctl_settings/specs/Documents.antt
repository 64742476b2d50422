-- What a text must say to give the settings of a storm.
use Rattle.std.specs.Prelude.{◌≡◌, ℕ, ℤ, List, Option, Some, codes, option_and_then, pos}
use Rattle.toml.specs.Data.{Members, as_integer, get_member}
use Rattle.toml.specs.Parse.{parse_document}
use Rattle.world_setup.specs.declared.setup.Setup.{Setup}
use Rattle.stampctl_settings.specs.declared.settings.Config.{Config}

-- the whole number at a key, if there is one
abbrev pub whole_number_at : List ℕ → Members → Option ℤ
whole_number_at key document = option_and_then as_integer (get_member key document)

-- the document has this whole number at the key
abbrev pub HasNumber : Members → List ℕ → ℕ → Type 0
HasNumber document key n = whole_number_at key document ≡ Some (pos n)

-- the document has the four numbers of a setup, which is within its limits as each one is
pub record HasSetup (document : Members) (setup : Setup) : Type 0 where
  pub nodes : HasNumber document (codes "nodes") setup.nodes
  pub servers : HasNumber document (codes "servers") setup.servers
  pub target : HasNumber document (codes "target") setup.target
  pub batch : HasNumber document (codes "batch") setup.batch

-- the document has the eight numbers of these settings, whose counts are from one to a million as those of each are
pub record HasNumbers (document : Members) (config : Config) : Type 0 where
  pub setup : HasSetup document config.setup
  pub clients : HasNumber document (codes "clients") config.clients
  pub workers : HasNumber document (codes "workers") config.workers
  pub requests : HasNumber document (codes "requests") config.requests
  pub events : HasNumber document (codes "events") config.events

-- the text is a TOML document with the eight numbers
abbrev pub IsConfigText : List ℕ → Config → Type 0
IsConfigText text config =
    (document : Members) × (parse_document text ≡ Some document) × HasNumbers document config
