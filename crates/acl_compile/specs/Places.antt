-- Where ACLs are attached, and what that says of their entries.
use Rattle.std.specs.Prelude.{ℕ}
use Rattle.net_base.specs.declared.field.Field.{Field}
use Rattle.plan_base.specs.declared.table.Table.{Table}
use Rattle.plan_base.specs.declared.table.Table.TheVariants.{PortAcl, Admission, VlanAcl, Source}
use Rattle.plan_base.specs.Fields.{in_port, vid_field}
use Rattle.acl_compile.specs.declared.place.Place.{Place}
use Rattle.acl_compile.specs.declared.place.Place.TheVariants.{AtPort, AtVlan}

-- the table of the rules
abbrev pub table_at : Place → Table
table_at (AtPort number) = PortAcl
table_at (AtVlan vid) = VlanAcl

-- where the packets that a rule allows go on
abbrev pub next_at : Place → Table
next_at (AtPort number) = Admission
next_at (AtVlan vid) = Source

-- what all packets that come there have
abbrev pub field_at : Place → Field
field_at (AtPort number) = in_port number
field_at (AtVlan vid) = vid_field vid
