-- Marks of the datapaths that walks over stack links lead to.
use Rattle.std.specs.Prelude.{◌≡◌, ◌<◌, Bool, true, false, ℕ, List, length, slice_index_or}
use Rattle.conf_types.specs.declared.datapath.Dp.{Dp}
use Rattle.conf_types.specs.Configuration.{Configuration}
use Rattle.conf_types.specs.Groups.{IsJoined, leads_to}

-- exactly the datapaths that are joined to the one at a place are marked: it is, with each all that its
-- links lead to, and no other
pub record AreMarked (conf : Configuration) (at : ℕ) (seen : List Bool) : Type 0 where
  pub start : slice_index_or seen at false ≡ true
  pub closed : (k j : ℕ) (d : Dp) → k < length conf.dps → j < length conf.dps → slice_index_or seen k false ≡ true → leads_to (slice_index_or conf.dps k d) (slice_index_or conf.dps j d).id ≡ true → slice_index_or seen j false ≡ true
  pub joined : (k : ℕ) (d : Dp) → k < length conf.dps → slice_index_or seen k false ≡ true → IsJoined conf (slice_index_or conf.dps at d).id (slice_index_or conf.dps k d).id
