use Rattle.std.proofs.Common.{◌≡◌, ◌++◌, nat_lt, take, filter}
use Rattle.net_base.specs.declared.field.FieldId.TheVariants.{VlanVid}
use Rattle.net_base.specs.FieldId.{number_of}
use Rattle.acl_compile.proofs.rules.push_before_vid.Given as goal

-- those of the fields so far
abbrev pub invariant-loop-field : goal.invariant-loop-field
invariant-loop-field l = l.out ≡ l.fn.out ++ filter (λ f. nat_lt (number_of f.id) (number_of VlanVid)) (take l.field-index l.fields)
