-- How long a record's groups may be together, so that each version has a spelling of it.
use Rattle.std.specs.Prelude.{◌-◌, Bool, false, nat_lt}
use Rattle.block_types.specs.declared.record.Record.{Record}
use Rattle.block_types.specs.declared.record.Record.TheVariants.{Make, Append, Fence, Freeze, Seal, Fill, Manage}

-- a Fill of more bytes than an extent can have, which is 16,777,216 less one and then a whole group
abbrev pub is_long_fill : Record → Bool
is_long_fill (Make e f t n) = false
is_long_fill (Append e o g) = false
is_long_fill (Fence e g) = false
is_long_fill (Freeze e) = false
is_long_fill (Seal e l) = false
is_long_fill (Fill e f l gs) = nat_lt 20971519 (l - f)
is_long_fill (Manage t) = false
