-- What is said of entries for both families of IP addresses is said once, of a family.
use Rattle.std.specs.Prelude.{◌≡◌, ◌⊎◌}
use Rattle.conf_types.specs.declared.family.Family.{Family}
use Rattle.conf_types.specs.Families.{ipv4, ipv6}

abbrev pub IsFamily : Family → Type 0
IsFamily f = (f ≡ ipv4) ⊎ (f ≡ ipv6)
