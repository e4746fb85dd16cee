-- How connections end, and what is forgotten then.
use Rattle.std.specs.Prelude.{ℕ, ◌==◌, ◌&&◌, Bool, List, [], ◌∷◌, ◌++◌, codes, filter}
use Rattle.std.specs.Fmt.{decimal}
use Rattle.std.specs.List.{list_any}
use Rattle.net_base.specs.declared.numbers.DpId.{DpId}
use Rattle.conf_types.specs.declared.state.HostRec.{HostRec}
use Rattle.conf_types.specs.declared.state.NeighRec.{NeighRec}
use Rattle.conf_types.specs.declared.state.UpRec.{UpRec}
use Rattle.conf_types.specs.Configuration.{Configuration}
use Rattle.conf_types.specs.Groups.{group_of}
use Rattle.conf_types.specs.Links.{is_up}
use Rattle.conf_types.specs.State.{is_running}
use Rattle.switch_session.specs.declared.closing.Closing.{Closing}
use Rattle.switch_session.specs.declared.closing.Closing.TheVariants.{SwitchError}
use Rattle.switch_session.specs.Closings.{name_of}
use Rattle.ctl_world.specs.declared.said.Said.{Said}
use Rattle.ctl_world.specs.declared.said.Said.TheVariants as said
use Rattle.ctl_world.specs.Connections.{without}
use Rattle.ctl_world.specs.Saying.{add_said}
use Rattle.ctl_world.specs.World.{World, running, ups}

-- ---- what is forgotten

-- the host stands at an interface that is up, of a datapath that runs
abbrev pub stands : List DpId → List UpRec → HostRec → Bool
stands running ups host = is_running running host.dp && is_up ups host.dp host.port

-- some datapath of the neighbour's group runs
abbrev pub is_reached : Configuration → List DpId → NeighRec → Bool
is_reached conf running n = list_any (λ dp. (group_of conf dp).0 == n.group.0) running

-- the hosts of interfaces that aren't up and of datapaths that don't run, and the neighbours of groups of which no
-- datapath runs, are forgotten
abbrev pub forget_lost : World → World
forget_lost w = record w {
  hosts = record w.hosts { hosts = filter (stands (running w) (ups w)) w.hosts.hosts };
  neighbours = record w.neighbours { neighbours = filter (is_reached w.conf (running w)) w.neighbours.neighbours };
}

-- ---- ends

-- the closing's name, and for an error its type and code
abbrev pub closing_text : Closing → List ℕ
closing_text (SwitchError kind code) = codes "SwitchError " ++ decimal kind ++ codes " " ++ decimal code
closing_text other = name_of other

abbrev pub end_line : ℕ → Closing → Said
end_line number cause = said.Line (codes "conn " ++ decimal number ++ codes ": " ++ closing_text cause)

-- the connection is gone, and what was known through it
abbrev pub drop_conn : ℕ → World → World
drop_conn number w = forget_lost (record w { conns = without number w.conns })

-- the controller closes a connection
abbrev pub close : Closing → ℕ → World → World
close cause number w = add_said (said.Closing number cause ∷ end_line number cause ∷ []) (drop_conn number w)

-- a connection ended by itself
abbrev pub ended : Closing → ℕ → World → World
ended cause number w = add_said (end_line number cause ∷ []) (drop_conn number w)
