use Rattle.std.proofs.Common.{◌≡◌, ◌||◌, ℕ, List, take}
use Rattle.std.specs.BTreeSet.{contains_text}
use Rattle.conf_rules.specs.Ports.{is_in}
use Rattle.conf_names.proofs.attached.see_names.Given as goal

-- those so far are seen
abbrev pub invariant-loop-name : goal.invariant-loop-name
invariant-loop-name l = (t : List ℕ) → contains_text l.seen t ≡ (contains_text l.fn.seen t || is_in t (take l.name-index l.names))
