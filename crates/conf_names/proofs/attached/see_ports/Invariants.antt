use Rattle.std.proofs.Common.{◌≡◌, ◌||◌, ℕ, List, take}
use Rattle.std.specs.BTreeSet.{contains_text}
use Rattle.std.specs.List.{list_any}
use Rattle.conf_rules.specs.Ports.{is_in}
use Rattle.conf_names.proofs.attached.see_ports.Given as goal

-- those of the interfaces so far are seen
abbrev pub invariant-loop-port : goal.invariant-loop-port
invariant-loop-port l = (t : List ℕ) → contains_text l.seen t ≡ (contains_text l.fn.seen t || list_any (λ p. is_in t p.acls) (take l.port-index l.ports))
