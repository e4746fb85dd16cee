use Rattle.std.proofs.Common.{◌≡◌, ◌∙◌}
use Rattle.std.specs.String.{string_bytes}
use Rattle.yaml_subset.proofs.EntryLaws.{with_text_keys}
use Rattle.yaml_subset.proofs.entries.Entries.with_text.Goals as goal

pub invariant_of-result : goal.invariant_of-result
invariant_of-result c =
    let same : string_bytes c.in_ok-seen.seen ≡ c.args.text = c.in_ok-seen.ensures.ok ∙ c.as_str.ensures in
    rw (c.in_ok-push.ensures.ok, ← same) (with_text_keys _ _ _ _ (string_bytes c.in_ok-seen.seen) _ c.self.invariant c.in_ok-insert.ensures.updates)
