use Rattle.std.specs.Prelude.{ℕ, ◌≤◌}

-- the numbers of a VLAN, 0 being a priority tag and 4095 reserved
pub record IsVid (n : ℕ) : Type 0 where
  pub least : 1 ≤ n
  pub most : n ≤ 4094

-- the numbers of a port, those above being reserved
pub record IsPortNo (n : ℕ) : Type 0 where
  pub least : 1 ≤ n
  pub most : n ≤ 0xffffff00
