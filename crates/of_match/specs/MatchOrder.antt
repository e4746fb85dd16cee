-- How long matches are on the wire, and their order.
use Rattle.std.specs.Prelude.{ℕ, ◌+◌, ◌*◌, Bool, ◌==◌, not, List, sum_by, if◌then◌else◌}
use Rattle.std.specs.declared.cmp.Ordering.{Ordering}
use Rattle.std.specs.Ordering.{nat_cmp, bool_cmp, on, then_cmp}
use Rattle.std.specs.Cmp.Lexicographic.{slice_cmp}
use Rattle.net_base.specs.declared.field.Field.{Field}
use Rattle.net_base.specs.FieldId.{number_of, byte_len_of, all_ones}

-- whether the field goes with a mask: one of all ones isn't sent (OpenFlow 1.3, 7.2.3.5)
abbrev pub is_masked : Field → Bool
is_masked f = not (f.mask == all_ones f.id)

-- the bytes of a field in a match: a header of 4, the value, and the mask if there is one (7.2.3.2)
abbrev pub field_len : Field → ℕ
field_len f = if is_masked f then 4 + 2 * byte_len_of f.id else 4 + byte_len_of f.id

-- the bytes of a match without its padding: its type and length, and the fields (7.2.3.1)
abbrev pub match_len : List Field → ℕ
match_len fields = 4 + sum_by field_len fields

-- fields by number, those without a mask first, then by value and by mask
abbrev pub field_cmp : Field → Field → Ordering
field_cmp = then_cmp (on (λ f. number_of f.id) nat_cmp) (then_cmp (on is_masked bool_cmp) (then_cmp (on (λ f. f.value) nat_cmp) (on (λ f. f.mask) nat_cmp)))

-- matches by length, and then field by field
abbrev pub match_cmp : List Field → List Field → Ordering
match_cmp = then_cmp (on match_len nat_cmp) (slice_cmp field_cmp)
