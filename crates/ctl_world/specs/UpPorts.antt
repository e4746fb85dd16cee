-- Which interfaces are up by the numbers of the ports that a switch told to be up.
use Rattle.std.specs.Prelude.{ℕ, ◌==◌, ◌||◌, not, Bool, List}
use Rattle.std.specs.List.{list_any}
use Rattle.conf_types.specs.declared.datapath.Port.{Port}

-- its number is one of these, or what the switch tells isn't to be looked at
abbrev pub is_up_among : List ℕ → Port → Bool
is_up_among numbers p = list_any (λ no. no == p.no) numbers || not p.opstatus_reconf
