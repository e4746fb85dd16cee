-- What the laws on all that can happen rest on.
use Rattle.std.specs.Prelude.{◌≡◌, ◌<◌, List, Ok}
use Rattle.std.specs.List.{AllByRecursion}
use Rattle.net_base.specs.declared.numbers.DpId.{DpId}
use Rattle.of_match.specs.declared.entry.Entry.{Entry}
use Rattle.of_match.specs.FlowTables.{IsInKeyOrder}
use Rattle.of_match.specs.Settled.{Settles}
use Rattle.yaml_tree.specs.declared.tree.Tree.{Tree}
use Rattle.conf_types.specs.declared.datapath.Dp.{Dp}
use Rattle.conf_types.specs.Configuration.{Configuration}
use Rattle.conf_types.specs.Lists.{EachBefore}
use Rattle.conf_types.specs.State.{State, is_running}
use Rattle.conf_types.specs.Valid.{IsValid}
use Rattle.conf_check.specs.Accepted.{conf_of}
use Rattle.cold_start.specs.Cold.{cold}
use Rattle.plan_difference.specs.Difference.{difference}
use Rattle.neighbour_resolve.specs.Asks.{in_order}
use Rattle.ctl_world.specs.declared.conns.Conn.{Conn}
use Rattle.ctl_world.specs.World.{IsSound, World, first}
use Rattle.ctl_core.specs.Settlings.{AreInOrder, IsAtRest, ask_all, batch, settle, wanted}

abbrev pub StandByNumber : World → Type 0
StandByNumber w = EachBefore (λ (a b : Conn). a.number < b.number) w.conns

abbrev pub AreNotedInOrder : World → Type 0
AreNotedInOrder w = AllByRecursion (λ (c : Conn). IsInKeyOrder c.sent) w.conns

pub record Grounds : Type 0 where
  -- a settling leaves the connections in order, and nothing to say
  pub numbers : (w : World) → StandByNumber w → AreNotedInOrder w → StandByNumber (settle w)
  pub keys : (w : World) → StandByNumber w → AreNotedInOrder w → AreNotedInOrder (settle w)
  pub rests : (w : World) → AreInOrder w → IsAtRest (settle w)
  -- what is known first is sound, and asks and batches leave it so; a configuration that is accepted is valid
  pub first : (conf : Configuration) → IsValid conf → IsSound (first conf)
  pub asks : (w : World) → IsSound w → IsSound (ask_all w)
  pub batch : (w : World) (dp : DpId) → IsSound w → IsSound (batch dp w)
  pub valid : (t : Tree) (conf : Configuration) → conf_of t ≡ Ok conf → IsValid conf
  -- a cold start is in key order, and the difference from what is noted leads to it
  pub order : (conf : Configuration) (state : State) (d : Dp) → IsInKeyOrder (cold conf state d)
  pub leads : (w : World) (dp : DpId) (c : Conn) (settled : List Entry) → IsInKeyOrder c.sent → Settles c.sent (difference c.sent (wanted w dp)) settled → settled ≡ wanted w dp
  -- the datapaths that are asked in order are those that run
  pub same : (ids : List DpId) (dp : DpId) → is_running (in_order ids) dp ≡ is_running ids dp
