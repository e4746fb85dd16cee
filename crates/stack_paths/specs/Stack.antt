use Rattle.std.specs.Prelude.{◌≡◌, ◌≢◌, ◌⊎◌, ◌<◌, ◌≤◌, ℕ, zero, suc, List, length, map, slice_get, Option, Some, None, All, AllPairs, Contains}
use Rattle.net_base.specs.declared.stack.Node.{Node}
use Rattle.net_base.specs.declared.stack.StackLink.{StackLink}
use Rattle.net_base.specs.declared.numbers.DpId.{DpId}

-- a stack: its datapaths in the order of their names, and the links between them that are up
pub record Stack : Type 0 where
  pub nodes : List Node
  pub links : List StackLink

-- the datapaths' identifiers, in order
abbrev pub ids : List Node → List DpId
ids nodes = map (λ node. node.id) nodes

-- datapath d stands at place i, counted from 0
abbrev pub IsAt : Stack → ℕ → DpId → Type 0
IsAt s i d = slice_get (ids s.nodes) i ≡ Some d

-- d is a datapath of the stack
abbrev pub IsNode : Stack → DpId → Type 0
IsNode s d = (i : ℕ) × IsAt s i d

-- port p of datapath d is an end of the link
abbrev pub IsEnd : StackLink → DpId → ℕ → Type 0
IsEnd l d p = ((l.a ≡ d) × (l.a_port ≡ p)) ⊎ ((l.b ≡ d) × (l.b_port ≡ p))

-- the link leads from port p of datapath d to port q of datapath e; each link leads both ways
abbrev pub Joins : StackLink → DpId → ℕ → DpId → ℕ → Type 0
Joins l d p e q =
    ((l.a ≡ d) × (l.a_port ≡ p) × (l.b ≡ e) × (l.b_port ≡ q)) ⊎ ((l.b ≡ d) × (l.b_port ≡ p) × (l.a ≡ e) × (l.a_port ≡ q))

-- some link of the stack leads so
abbrev pub HasLink : Stack → DpId → ℕ → DpId → ℕ → Type 0
HasLink s d p e q = (l : StackLink) × Contains s.links l × Joins l d p e q

-- no port is an end of both links
abbrev pub ArePortsApart : StackLink → StackLink → Type 0
ArePortsApart l m = (d : DpId) (p : ℕ) → IsEnd l d p → IsEnd m d p → ⊥

-- what a list of datapaths and a list of links are to keep
pub record IsStack (s : Stack) : Type 0 where
  pub at_most_64 : length s.nodes ≤ 64
  pub distinct : AllPairs (λ m n. m.id ≢ n.id) s.nodes
  -- each link is between two different ones of the datapaths
  pub between_two : All (λ l. IsNode s l.a × IsNode s l.b × (l.a ≢ l.b)) s.links
  -- no port is an end of two links
  pub ports_apart : AllPairs ArePortsApart s.links

-- a walk of n links from datapath a to datapath b
abbrev pub Walk : Stack → DpId → DpId → ℕ → Type 0
Walk s a b zero = IsNode s a × (a ≡ b)
Walk s a b (suc n) = (c : DpId) × (p : ℕ) × (q : ℕ) × HasLink s a p c q × Walk s c b n

-- some walk leads from a to b: they are in one connected part
abbrev pub IsJoined : Stack → DpId → DpId → Type 0
IsJoined s a b = (n : ℕ) × Walk s a b n

-- the distance of a to b: the length of a walk, and no walk is shorter
pub record IsDistance (s : Stack) (a b : DpId) (n : ℕ) : Type 0 where
  pub walk : Walk s a b n
  pub least : (m : ℕ) → Walk s a b m → n ≤ m

-- a link leads from port p of a to port q of e, and e is one link nearer to b than a is
pub record LeadsNearer (s : Stack) (a b : DpId) (p : ℕ) (e : DpId) (q : ℕ) : Type 0 where
  pub rest : ℕ
  pub link : HasLink s a p e q
  pub from_here : IsDistance s a b (suc rest)
  pub from_there : IsDistance s e b rest

-- e comes before f in the order of the datapaths, or they are the same and p is no greater than q
abbrev pub ChosenBefore : Stack → DpId → ℕ → DpId → ℕ → Type 0
ChosenBefore s e p f q = (i : ℕ) × (j : ℕ) × IsAt s i e × IsAt s j f × ((i < j) ⊎ ((i ≡ j) × (p ≤ q)))

-- the next hop from a to b is by port p to port q of e: the first way nearer, by the order of the
-- datapaths that it leads to, then by a's own port
pub record IsHop (s : Stack) (a b : DpId) (p : ℕ) (e : DpId) (q : ℕ) : Type 0 where
  pub nearer : LeadsNearer s a b p e q
  pub first : (p' : ℕ) (e' : DpId) (q' : ℕ) → LeadsNearer s a b p' e' q' → ChosenBefore s e p e' p'

-- the next hop from a to b is by port p
abbrev pub IsNextHop : Stack → DpId → DpId → ℕ → Type 0
IsNextHop s a b p = (e : DpId) × (q : ℕ) × IsHop s a b p e q

-- one priority is less than another; a datapath without one comes after all with one
abbrev pub LessPriority : Option ℕ → Option ℕ → Type 0
LessPriority (Some p) (Some q) = p < q
LessPriority (Some p) None = Unit {0}
LessPriority None q = ⊥

-- the less priority goes first, and of equal ones the place that is no greater
abbrev pub RanksFirst : Option ℕ → ℕ → Option ℕ → ℕ → Type 0
RanksFirst p i q j = LessPriority p q ⊎ ((p ≡ q) × (i ≤ j))

-- as a root, datapath d goes before datapath e or is it
pub record GoesFirst (s : Stack) (d e : DpId) : Type 0 where
  pub i : ℕ
  pub j : ℕ
  pub m : Node
  pub n : Node
  pub at_i : slice_get s.nodes i ≡ Some m
  pub at_j : slice_get s.nodes j ≡ Some n
  pub is_d : m.id ≡ d
  pub is_e : n.id ≡ e
  pub ranks : RanksFirst m.priority i n.priority j

-- r is the root of the part of d: the first of all that are joined to d
pub record IsRoot (s : Stack) (d r : DpId) : Type 0 where
  pub joined : IsJoined s r d
  pub first : (e : DpId) → IsJoined s e d → GoesFirst s r e

-- the one uplink of d, by port p to port q of e, is the next hop to the root of its part
pub record IsUplink (s : Stack) (d : DpId) (p : ℕ) (e : DpId) (q : ℕ) : Type 0 where
  pub root : DpId
  pub is_root : IsRoot s d root
  pub hop : IsHop s d root p e q

-- port p of d is an end of an uplink, its own or another's
abbrev pub IsTreePort : Stack → DpId → ℕ → Type 0
IsTreePort s d p = (e : DpId) × (q : ℕ) × (IsUplink s d p e q ⊎ IsUplink s e q d p)

-- following the uplinks from d for n links leads to r
abbrev pub Follows : Stack → DpId → DpId → ℕ → Type 0
Follows s d r zero = d ≡ r
Follows s d r (suc n) = (e : DpId) × (p : ℕ) × (q : ℕ) × IsUplink s d p e q × Follows s e r n
