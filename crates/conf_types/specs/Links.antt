-- Stack links that are up.
use Rattle.std.specs.Prelude.{◌≡◌, ℕ, ◌==◌, ◌&&◌, Bool, true, false, Option, Some, None, List, Contains, nat_lt, if◌then◌else◌}
use Rattle.std.specs.List.{filter_map, flat_map, list_any}
use Rattle.std.specs.Option.{option_and_then, option_map_or}
use Rattle.net_base.specs.declared.numbers.DpId.{DpId}
use Rattle.net_base.specs.declared.stack.StackLink.{StackLink}
use Rattle.conf_types.specs.declared.datapath.Dp.{Dp}
use Rattle.conf_types.specs.declared.datapath.Port.{Port}
use Rattle.conf_types.specs.declared.datapath.StackEnd.{StackEnd}
use Rattle.conf_types.specs.declared.state.UpRec.{UpRec}
use Rattle.conf_types.specs.Configuration.{Configuration, port_at}

-- the port with this number is up
abbrev pub is_up : List UpRec → DpId → ℕ → Bool
is_up ups dp number = list_any (λ up. up.dp.0 == dp.0 && up.port == number) ups

-- the interface is enabled and up
abbrev pub is_live : List UpRec → DpId → Port → Bool
is_live ups dp p = p.enabled && is_up ups dp p.no

-- the same of the interface at the far end
abbrev pub is_far_live : Configuration → List UpRec → StackEnd → Bool
is_far_live conf ups far = option_map_or (λ q. is_live ups far.dp q) (port_at conf far.dp far.port) false

-- the link that begins at an interface, both ends enabled and up: a link begins on the one of its
-- datapaths that has the lesser identifier
abbrev pub link_from : Configuration → List UpRec → Dp → Port → Option StackLink
link_from conf ups d p =
    option_and_then (λ far.
    if nat_lt d.id.0 far.dp.0 && (is_live ups d.id p && is_far_live conf ups far) then Some (record {
      a = d.id;
      a_port = p.no;
      b = far.dp;
      b_port = far.port;
    }) else None) p.stack

-- the links that begin on a datapath, in the order of its interfaces
abbrev pub links_of : Configuration → List UpRec → Dp → List StackLink
links_of conf ups d = filter_map (link_from conf ups d) d.ports

-- all links that are up, each once
abbrev pub links : Configuration → List UpRec → List StackLink
links conf ups = flat_map (links_of conf ups) conf.dps

-- ---- what they are to be

-- an enabled interface that is up and an end of a stack link, with the far end
pub record IsEndUp (conf : Configuration) (ups : List UpRec) (here far : StackEnd) : Type 0 where
  pub dp : Dp
  pub port : Port
  pub is_dp : Contains conf.dps dp
  pub dp_is : dp.id ≡ here.dp
  pub is_port : Contains dp.ports port
  pub port_is : port.no ≡ here.port
  pub enabled : port.enabled ≡ true
  pub up : Contains ups (record { dp = here.dp; port = here.port })
  pub leads : port.stack ≡ Some far

-- where a link begins, and where it ends
abbrev pub first_end : StackLink → StackEnd
first_end l = record { dp = l.a; port = l.a_port }

abbrev pub last_end : StackLink → StackEnd
last_end l = record { dp = l.b; port = l.b_port }

-- both ends are enabled and up, and each is the far end of the other
pub record IsLinkUp (conf : Configuration) (ups : List UpRec) (l : StackLink) : Type 0 where
  pub forth : IsEndUp conf ups (first_end l) (last_end l)
  pub back : IsEndUp conf ups (last_end l) (first_end l)

-- the same link from its other end
abbrev pub turned : StackLink → StackLink
turned l = record { a = l.b; a_port = l.b_port; b = l.a; b_port = l.a_port }
