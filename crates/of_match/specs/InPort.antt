-- The port that a match names.
use Rattle.std.specs.Prelude.{ℕ, ◌==◌, ◌&&◌, Bool, Option, Some, None, List, nat_le, if◌then◌else◌}
use Rattle.std.specs.List.{find}
use Rattle.std.specs.Option.{option_and_then}
use Rattle.net_base.specs.declared.field.Field.{Field}
use Rattle.net_base.specs.FieldId.{number_of}

-- a number is a port's (OpenFlow 1.3, 7.2.1: those above are reserved)
abbrev pub port_of : ℕ → Option ℕ
port_of n = if nat_le 1 n && nat_le n 0xffffff00 then Some n else None

abbrev pub is_in_port : Field → Bool
is_in_port f = number_of f.id == 0

-- the value of the first field IN_PORT, whatever its mask is (7.2.3.7), where it is a port's number
abbrev pub in_port : List Field → Option ℕ
in_port fields = option_and_then (λ f. port_of f.value) (find is_in_port fields)
