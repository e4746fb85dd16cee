use Rattle.std.proofs.Common.{◌≡◌, ◌++◌, ◌∙◌, ℕ, List, [], ◌∷◌, sym, ap}
use Rattle.std.specs.List.{filter_map}
use Rattle.std.specs.Option.{option_map, option_copied}
use Rattle.std.proofs.lemmas.List.{take_all}
use Rattle.of_match.specs.declared.entry.Entry.{Entry}
use Rattle.conf_types.specs.Configuration.{vlan_with}
use Rattle.conf_types.proofs.Taken.{one_kept, none_kept}
use Rattle.vlan_compile.specs.Misses.{miss}
use Rattle.vlan_compile.proofs.Mapped.{map-filter_map}
use Rattle.vlan_compile.proofs.counted.Place.push_tagged.Goals as goal
use Rattle.vlan_compile.proofs.counted.Place.push_tagged.Goals.{in-Some+in_ok-counted_miss+in_ok-push, in_default}

-- the entry of the VLAN, or none, is added
pub loop-vid-preserved : goal.loop-vid-preserved
loop-vid-preserved g c =
    let make = miss c.args.self.now.conf.now (g.C.CountsHosts.hosts c.args.self.now.hosts.now) c.args.self.now.dp.now c.args.self.now.port.now in
    let h = λ (vid : ℕ). option_map make (vlan_with c.args.self.now.conf.now.vlans vid) in
    let xs = c.as_slice-vid-items.result.now in
    elim c.match-vlan.branch [
      | in-Some+in_ok-counted_miss+in_ok-push w ↦
          let added : c.match-vlan.made ≡ c.loop-vid.made ++ make w.in-Some.vlan.now ∷ [] = cc (w.made-is, w.in_ok-push.ensures.ok, w.in_ok-counted_miss.ensures) in
          added ∙ one_kept h xs c.loop-vid.vid-index c.vid-item.result c.loop-vid-test.true c.vid-item.is c.args.made.now c.loop-vid.made c.loop-vid.invariant (make w.in-Some.vlan.now) (ap (option_map make) (sym c.vlan.ensures ∙ ap option_copied w.in-Some.is))
      | in_default w ↦ w.made-is
          ∙ none_kept h xs c.loop-vid.vid-index c.vid-item.result c.loop-vid-test.true c.vid-item.is c.args.made.now c.loop-vid.made c.loop-vid.invariant (ap (option_map make) (sym c.vlan.ensures ∙ ap option_copied w.in_default.is))
    ]

-- all VLANs have theirs
pub returns : goal.returns
returns g c =
    let make = miss c.args.self.now.conf.now (g.C.CountsHosts.hosts c.args.self.now.hosts.now) c.args.self.now.dp.now c.args.self.now.port.now in
    let h = λ (vid : ℕ). option_map make (vlan_with c.args.self.now.conf.now.vlans vid) in
    let before = λ (made : List Entry). c.args.made.now ++ made in
    c.loop-vid.invariant
    ∙ ap (λ vids. before (filter_map h vids)) (take_all c.loop-vid.vid-index c.as_slice-vid-items.result.now c.loop-vid-test.false ∙ c.as_slice-vid-items.ensures)
    ∙ ap before (map-filter_map make (vlan_with c.args.self.now.conf.now.vlans) c.args.self.now.port.now.tagged)
