use Rattle.std.proofs.Common.{◌≡◌, ◌==◌, ◌&&◌, ◌∙◌, Bool, true, false, refl}
use Rattle.std.specs.List.{find}
use Rattle.conf_types.specs.declared.state.HostRec.{HostRec}
use Rattle.conf_types.specs.Lists.{is_same}
use Rattle.plan_units.specs.Units.{is_of_group}
use Rattle.cold_start.proofs.Groups.{find_kept}
use Rattle.cold_start.proofs.hosts.find_host.Goals as goal

in_turn : (a b c : Bool) → (a && b && c) ≡ (a && (b && c))
in_turn true b c = refl
in_turn false b c = refl

pub returns : goal.returns
returns c =
    let ours : HostRec → Bool = is_of_group c.args.conf.now c.args.dp.now in
    let asked : HostRec → Bool = λ h. h.vid == c.args.vid && is_same h.mac.0 c.args.mac.0 in
    c.host_with.ensures ∙ (λ i. find (λ (h : HostRec). in_turn (ours h) (h.vid == c.args.vid) (is_same h.mac.0 c.args.mac.0) i) c.args.hosts.now)
    ∙ find_kept ours asked c.args.hosts.now
