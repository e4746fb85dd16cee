use Rattle.std.proofs.Common.{◌≡◌, string_bytes, sym, ◌∙◌}
use Rattle.conf_gather.proofs.KnownLemmas.{name_more}
use Rattle.conf_gather.proofs.reached.Reached.with.Goals as goal

pub invariant_of-result : goal.invariant_of-result
invariant_of-result c =
    let same : string_bytes c.in_ok-from_str.field-0 ≡ c.in_ok-copy.field-0 = c.in_ok-from_str.ensures.ok ∙ c.as_str.ensures ∙ sym c.in_ok-copy.ensures in
    rw c.in_ok-push.ensures.ok (name_more (string_bytes c.in_ok-from_str.field-0) c.in_ok-copy.field-0 c.self.inside.names c.self.inside.seen c.insert.new.self same c.self.invariant c.in_ok-insert.ensures.updates)
