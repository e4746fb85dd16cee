-- The peer of a router, as the configuration of a file says it.
use Rattle.std.specs.Prelude.{ℕ, if◌then◌else◌, nat_le, List, length, Option, Some, None, Result, Ok, Err}
use Rattle.std.specs.List.{find}
use Rattle.std.specs.Option.{option_map_or}
use Rattle.std.specs.Str.{bytes_eq}
use Rattle.yaml_tree.specs.declared.tree.Tree.{Tree}
use Rattle.yaml_subset.specs.Printed.{printed}
use Rattle.conf_types.specs.declared.peer.BgpConf.{BgpConf}
use Rattle.conf_types.specs.declared.vlan.Router.{Router}
use Rattle.conf_types.specs.Configuration.{Configuration}
use Rattle.conf_gather.specs.declared.refused.LoadRefused.{LoadRefused}
use Rattle.conf_gather.specs.Gives.{◌>>=◌}
use Rattle.conf_gather.specs.Gathered.{Held, Finds, held_by, gathered_by}
use Rattle.conf_load.specs.Loaded.{checked}
use Rattle.bgp_peer.specs.declared.peer.Peering.{Peering}
use Rattle.bgp_texts.specs.Trees.{vlan_key}
use Rattle.bgp_load.specs.declared.found.LoadedPeer.{LoadedPeer}
use Rattle.bgp_load.specs.declared.found.PeerLacks.{PeerLacks}
use Rattle.bgp_load.specs.declared.found.PeerLacks.TheVariants as lacks

abbrev pub FoundPeer : Type 0
FoundPeer = Result LoadedPeer PeerLacks

-- so many bytes the text of a document may have, so that there is room for routes in a text of at most 1,048,576
abbrev pub most_bytes : ℕ
most_bytes = 900000

abbrev pub router_named : Configuration → (name : List ℕ) → Option Router
router_named conf name = find (λ (r : Router). bytes_eq r.name name) conf.routers

abbrev pub peering_of : BgpConf → Peering
peering_of b = record { our_as = b.our_as; id = b.routerid; peer_as = b.neighbor_as }

-- where the document's text isn't too long, between whom BGP is spoken, with the key of the VLAN and the document
abbrev pub with_room : Tree → BgpConf → FoundPeer
with_room t b = if nat_le (length (printed t)) most_bytes then Ok (record { peering = peering_of b; vlan = vlan_key b.vlan t; tree = t }) else Err lacks.Room

abbrev pub found_at : Tree → Option Router → FoundPeer
found_at t None = Err lacks.Router
found_at t (Some r) = option_map_or (with_room t) r.bgp (Err lacks.Peer)

abbrev pub found_in : (router : List ℕ) → Tree → Configuration → FoundPeer
found_in router t conf = found_at t (router_named conf router)

-- what a gathered document says of the peer of a router
abbrev pub peer_of : (router : List ℕ) → Tree → Result FoundPeer LoadRefused
peer_of router t = checked t >>= λ conf. Ok (found_in router t conf)

-- what a file says of it, or why it gives no configuration, where trees are found so
abbrev pub loaded_peer_by : Finds → (name router : List ℕ) → Result FoundPeer LoadRefused
loaded_peer_by finds name router = gathered_by finds name >>= peer_of router

-- the same, where these files are held
abbrev pub loaded_peer : Held → (name router : List ℕ) → Result FoundPeer LoadRefused
loaded_peer held name router = loaded_peer_by (held_by held) name router
