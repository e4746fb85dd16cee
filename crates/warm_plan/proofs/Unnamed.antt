-- What no change names stays: the addresses of neighbours, and the links of the stack.
use Rattle.std.proofs.Common.{◌≡◌, ◌∙◌, ℕ, ◌==◌, ◌&&◌, Bool, true, false, if◌then◌else◌, Option, Some, None, List, map, refl, sym, subst, eq-eqb, true≢false}
use Rattle.std.specs.Prelude.{Contains, IfSome, IsSomeAnd}
use Rattle.std.specs.List.{find, list_any}
use Rattle.std.specs.Option.{option_and_then, option_map_or}
use Rattle.std.proofs.lemmas.Option.{none-some}
use Rattle.net_base.specs.Address.{IsSixBytes}
use Rattle.net_base.specs.declared.address.Mac.{Mac}
use Rattle.net_base.specs.declared.numbers.DpId.{DpId}
use Rattle.stack_paths.specs.Stack.{Stack}
use Rattle.conf_types.specs.declared.change.Change.{Change}
use Rattle.conf_types.specs.declared.change.Change.TheVariants as change
use Rattle.conf_types.specs.Changes.{AreNamed, mac_of_neighbour}
use Rattle.conf_types.specs.declared.datapath.Port.{Port}
use Rattle.conf_types.specs.declared.state.NeighRec.{NeighRec}
use Rattle.conf_types.specs.Configuration.{Configuration, port_at}
use Rattle.conf_types.specs.Families.{is_same_ip}
use Rattle.conf_types.specs.Groups.{IsDp, IsGroup, group_of}
use Rattle.conf_types.specs.Links.{is_up, link_from, links_of, links}
use Rattle.conf_types.specs.Lists.{EachBefore}
use Rattle.conf_types.specs.Membership.{is_stack}
use Rattle.conf_types.specs.State.{State, IsSameNeighbour}
use Rattle.conf_types.specs.Valid.{IsValid}
use Rattle.packet_way.specs.Known.{node_of, stack_of}
use Rattle.law_runs.specs.Members.{of_all, all_by}
use Rattle.plan_units.specs.Facts.{found, none_passes}
use Rattle.law_units.proofs.Around.{link_same, same_flat, same_some}
use Rattle.law_units.proofs.Hosts.{stable_bool}
use Rattle.law_units.proofs.Routes.{own, stable_mac}
use Rattle.warm_plan.specs.Kept.{ArePaths, HaveAddresses}
use Rattle.warm_plan.specs.Named.{names_link, names_neighbour}

not_there : (test : Change → Bool) (changes : List Change) → list_any test changes ≡ false → (c : Change) → test c ≡ true → Contains changes c → ⊥
not_there test changes none c is there = true≢false (sym is ∙ of_all (λ x. test x ≡ false) changes (none_passes test changes none) c there)

module _ (conf : Configuration) (old new : State) (changes : List Change) (named : AreNamed conf old new changes) where
  -- ---- neighbours

  module _ (none : list_any names_neighbour changes ≡ false) (apart : EachBefore (λ a b. IsSameNeighbour a b → ⊥) new.neighbours) (were : HaveAddresses old.neighbours) where
    told : (n : NeighRec) (mac : Mac) (o : Option NeighRec) → find (λ m. m.group.0 == n.group.0 && m.vid == n.vid && is_same_ip m.ip n.ip) old.neighbours ≡ o → option_and_then (λ m. m.mac) o ≡ Some mac → IsSixBytes mac.0
    told n mac None is e = absurd (none-some mac e)
    told n mac (Some m) is e =
        let f = found (λ (x : NeighRec). x.group.0 == n.group.0 && x.vid == n.vid && is_same_ip x.ip n.ip) old.neighbours m is in
        subst (λ (o : Option Mac). IfSome o (λ a. IsSixBytes a.0)) e (of_all (λ (x : NeighRec). IfSome x.mac (λ a. IsSixBytes a.0)) old.neighbours were m f.within)

    still : (n : NeighRec) → mac_of_neighbour old.neighbours n.group n.vid n.ip ≡ mac_of_neighbour new.neighbours n.group n.vid n.ip
    still n = stable_mac _ _ (λ differ. not_there names_neighbour changes none (change.Neighbour n.group n.vid n.ip) refl (named.neighbours n.group n.vid n.ip differ))

    has_six : (n : NeighRec) → Contains new.neighbours n → (o : Option Mac) → n.mac ≡ o → IfSome o (λ mac. IsSixBytes mac.0)
    has_six n c None is = tt
    has_six n c (Some mac) is =
        told n mac (find (λ m. m.group.0 == n.group.0 && m.vid == n.vid && is_same_ip m.ip n.ip) old.neighbours) refl (still n ∙ own new.neighbours apart n c n.group n.vid refl refl ∙ is)

    addresses_stay : HaveAddresses new.neighbours
    addresses_stay = all_by (λ (n : NeighRec). IfSome n.mac (λ mac. IsSixBytes mac.0)) new.neighbours (λ n c. has_six n c n.mac refl)

  pub addresses_are : EachBefore (λ a b. IsSameNeighbour a b → ⊥) new.neighbours → HaveAddresses old.neighbours
      → (list_any names_neighbour changes ≡ true → HaveAddresses new.neighbours) → HaveAddresses new.neighbours
  addresses_are apart were looked = by (list_any names_neighbour changes) refl
    where
      by : (b : Bool) → list_any names_neighbour changes ≡ b → HaveAddresses new.neighbours
      by true is = looked is
      by false is = addresses_stay is apart were

  -- ---- links

  module _ (valid : IsValid conf) (group_law : (dp : DpId) → IsDp conf dp → IsGroup conf dp (group_of conf dp)) where
    is_link : (o : Option Port) → IsSomeAnd o (λ p. is_stack p ≡ true) → option_map_or is_stack o false ≡ true
    is_link None is = absurd (is)
    is_link (Some p) is = is

    module _ (none : list_any (names_link conf) changes ≡ false) where
      quiet : (e : DpId) (number : ℕ) → IsSomeAnd (port_at conf e number) (λ p. is_stack p ≡ true) → is_up old.ups e number ≡ is_up new.ups e number
      quiet e number stack = stable_bool _ _ (λ differ. not_there (names_link conf) changes none (change.Port e number) (is_link (port_at conf e number) stack) (named.ports e number differ))

      same_links : links conf old.ups ≡ links conf new.ups
      same_links =
          same_flat (links_of conf old.ups) (links_of conf new.ups) conf.dps (λ dp c.
          same_some (link_from conf old.ups dp) (link_from conf new.ups dp) dp.ports
          (link_same conf valid group_law dp.id old.ups new.ups (λ e number here stack. quiet e number stack) dp c (eq-eqb (group_of conf dp.id).0 (group_of conf dp.id).0 refl)))

      same_stack : stack_of conf old.ups ≡ stack_of conf new.ups
      same_stack = λ i. record { nodes = map node_of conf.dps; links = same_links i }

    pub paths_stay : (paths : Option Stack) → ArePaths conf old paths → ArePaths conf new (if list_any (names_link conf) changes then None else paths)
    paths_stay paths are = by (list_any (names_link conf) changes) refl
      where
        by : (b : Bool) → list_any (names_link conf) changes ≡ b → ArePaths conf new (if b then None else paths)
        by true is = tt
        by false is = subst (λ (s : Stack). IfSome paths (λ p. p ≡ s)) (same_stack is) are
