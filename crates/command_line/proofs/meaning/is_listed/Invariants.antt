use Rattle.std.proofs.Common.{◌≡◌, drop, map}
use Rattle.std.specs.List.{list_any}
use Rattle.std.specs.Str.{bytes_eq}
use Rattle.command_line.proofs.meaning.is_listed.Given as goal

-- none of those so far is the name
abbrev pub invariant-loop-listed : goal.invariant-loop-listed
invariant-loop-listed l =
    list_any (λ listed. bytes_eq listed l.name) (map (λ listed. listed.now) l.names) ≡ list_any (λ listed. bytes_eq listed l.name) (map (λ listed. listed.now) (drop l.listed-index l.names))
