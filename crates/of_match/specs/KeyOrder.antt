-- The order of flow entries by their keys.
use Rattle.std.specs.declared.cmp.Ordering.{Ordering}
use Rattle.std.specs.Ordering.{nat_cmp, on, then_cmp}
use Rattle.of_match.specs.declared.entry.Key.{Key}
pub use Rattle.of_match.specs.MatchOrder.{is_masked, field_len, match_len, field_cmp, match_cmp}

-- keys by table, then by priority, both ascending, and then by match
unfoldable pub key_cmp : Key → Key → Ordering
key_cmp = then_cmp (on (λ k. k.table) nat_cmp) (then_cmp (on (λ k. k.priority) nat_cmp) (on (λ k. k.fields) match_cmp))
