-- What a switch asks of what a flow entry does, beside that each number fits (OpenFlow 1.3, 5.1, 7.2.4
-- and 7.2.5): where it leads on, and in which order it pushes, pops and sets.
use Rattle.std.specs.Prelude.{◌≡◌, ℕ, ◌+◌, ◌-◌, ◌/◌, ◌%◌, ◌<◌, ◌≤◌, Bool, ◌==◌, ◌&&◌, ◌||◌, List, [], ◌∷◌, IsTrue, if◌then◌else◌}
use Rattle.std.specs.List.{AllByRecursion, list_any}
use Rattle.net_base.specs.declared.field.Field.{Field}
use Rattle.net_base.specs.declared.field.FieldId.{FieldId}
use Rattle.net_base.specs.declared.field.FieldId.TheVariants.{EthDst, EthSrc, EthType, VlanVid}
use Rattle.net_base.specs.FieldId.{number_of}
use Rattle.net_base.specs.WellFormed.{is_whole}
use Rattle.of_match.specs.declared.action.Action.{Action}
use Rattle.of_match.specs.declared.action.Action.TheVariants.{PushVlan, PopVlan, DecTtl, Set}
use Rattle.of_match.specs.declared.action.Instr.{Instr}
use Rattle.of_match.specs.declared.action.Instr.TheVariants.{Goto, Apply}
use Rattle.of_match.specs.declared.entry.Entry.{Entry}
use Rattle.of_match.specs.declared.ether_type.TheConstants.{IPV4, IPV6, VLAN_TAG}

-- ---- where an entry leads

-- from table t to a later one, of the nine (5.1 and 7.2.4)
abbrev pub LeadsOn : ℕ → Instr → Type 0
LeadsOn t (Goto u) = (t < u) × (u ≤ 8)
LeadsOn t (Apply actions) = Unit {0}

-- ---- what a match says of the packets that it takes

-- the bit by which VLAN_VID says that a tag is there (OFPVID_PRESENT, 7.2.3.7)
abbrev pub has_present : ℕ → Bool
has_present n = n / 0x1000 % 2 == 1

-- the field asks for that bit, and its mask lets it count
abbrev pub asks_for_tag : Field → Bool
asks_for_tag f = number_of f.id == number_of VlanVid && (has_present f.mask && has_present f.value)

-- how many tags a packet has at least, by the match
abbrev pub tags_asked : List Field → ℕ
tags_asked fields = if list_any asks_for_tag fields then 1 else 0

abbrev pub asks_for_ip : Field → Bool
asks_for_ip f = is_whole EthType f && (f.value == IPV4 || f.value == IPV6)

-- ---- what an action needs

-- a VLAN tag and no provider's, which is one of the two that a switch takes
abbrev pub PushesTag : Action → Type 0
PushesTag (PushVlan eth_type) = eth_type ≡ VLAN_TAG
PushesTag a = Unit {0}

-- a packet has Ethernet addresses, and a VLAN identifier where it has a tag; no other field is set
abbrev pub HasField : ℕ → FieldId → Type 0
HasField tags EthDst = Unit {0}
HasField tags EthSrc = Unit {0}
HasField tags VlanVid = 0 < tags
HasField tags id = ⊥

abbrev pub SetsWhatIsThere : ℕ → Action → Type 0
SetsWhatIsThere tags (Set f) = HasField tags f.id
SetsWhatIsThere tags a = Unit {0}

-- the new VLAN identifier has 12 bits, and before them the one that says that a tag is there
abbrev pub IsValue : FieldId → ℕ → Type 0
IsValue VlanVid value = value / 0x1000 ≡ 1
IsValue id value = Unit {0}

abbrev pub SetsToValue : Action → Type 0
SetsToValue (Set f) = IsValue f.id f.value
SetsToValue a = Unit {0}

-- the TTL or the hop limit of a packet of which the match asks that it is of IPv4 or of IPv6
abbrev pub LowersOfIp : List Field → Action → Type 0
LowersOfIp fields DecTtl = IsTrue (list_any asks_for_ip fields)
LowersOfIp fields a = Unit {0}

abbrev pub PopsWhatIsThere : ℕ → Action → Type 0
PopsWhatIsThere tags PopVlan = 0 < tags
PopsWhatIsThere tags a = Unit {0}

-- ---- of a whole entry

-- how many tags a packet has at least, behind an action
abbrev pub tags_behind : Action → ℕ → ℕ
tags_behind (PushVlan eth_type) tags = tags + 1
tags_behind PopVlan tags = tags - 1
tags_behind a tags = tags

pub record IsDoable (fields : List Field) (tags : ℕ) (a : Action) : Type 0 where
  pub pushes : PushesTag a
  pub sets : SetsWhatIsThere tags a
  pub values : SetsToValue a
  pub lowers : LowersOfIp fields a
  pub pops : PopsWhatIsThere tags a

-- actions in order
abbrev pub AreDoable : List Field → ℕ → List Action → Type 0
AreDoable fields tags [] = Unit {0}
AreDoable fields tags (a ∷ more) = IsDoable fields tags a × AreDoable fields (tags_behind a tags) more

abbrev pub DoesDoable : List Field → Instr → Type 0
DoesDoable fields (Goto table) = Unit {0}
DoesDoable fields (Apply actions) = AreDoable fields (tags_asked fields) actions

pub record CanBeDone (e : Entry) : Type 0 where
  pub onward : AllByRecursion (LeadsOn e.key.table) e.instrs
  pub actions : AllByRecursion (DoesDoable e.key.fields) e.instrs
