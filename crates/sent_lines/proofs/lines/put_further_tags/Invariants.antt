use Rattle.std.proofs.Common.{◌≡◌, ◌++◌, take}
use Rattle.std.specs.List.{flat_map}
use Rattle.sent_lines.specs.Lines.{further_tag}
use Rattle.sent_lines.proofs.lines.put_further_tags.Given as goal

abbrev pub invariant-loop-tag : goal.invariant-loop-tag
invariant-loop-tag l = l.out ≡ l.fn.out ++ flat_map further_tag (take l.tag-index l.tags)
