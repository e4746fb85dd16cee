use Rattle.std.specs.Prelude.{ℕ, ◌-◌, ◌*◌, ◌/◌, ◌^◌}
use Rattle.net_base.specs.declared.field.FieldId.{FieldId}
use Rattle.net_base.specs.declared.field.Field.{Field}
use Rattle.net_base.specs.FieldId.{all_ones}

-- the field has this value, in all its bits
abbrev pub exact : FieldId → ℕ → Field
exact id value = record { id = id; value = value; mask = all_ones id }

-- the field has all these bits, whatever the others are
abbrev pub bits : FieldId → ℕ → Field
bits id value = record { id = id; value = value; mask = value }

-- the field has the first bits, len of them, of an address of so many bits, whatever the others are
abbrev pub prefix_in : ℕ → FieldId → ℕ → ℕ → Field
prefix_in width id address len =
    let size = 2 ^ (width - len) in
    record { id = id; value = address / size * size; mask = 2 ^ width - size }

-- an IPv4 prefix, len of 32 (RFC 4632, 3.1)
abbrev pub prefix : FieldId → ℕ → ℕ → Field
prefix = prefix_in 32

-- an IPv6 prefix, len of 128 (RFC 4291, 2.3)
abbrev pub prefix6 : FieldId → ℕ → ℕ → Field
prefix6 = prefix_in 128
