use Rattle.std.proofs.Common.{◌≡◌, ◌∙◌, ◌++◌, List, map, sym, ap}
use Rattle.std.proofs.lemmas.List.{append_assoc}
use Rattle.net_base.specs.declared.numbers.DpId.{DpId}
use Rattle.conf_types.specs.declared.state.HostRec.{HostRec}
use Rattle.conf_types.specs.declared.state.NeighRec.{NeighRec}
use Rattle.conf_types.specs.declared.state.UpRec.{UpRec}
use Rattle.conf_types.specs.Groups.{group_of}
use Rattle.conf_types.specs.declared.change.Change.{Change}
use Rattle.conf_types.specs.declared.change.Change.TheVariants as change
use Rattle.test_plans.proofs.named.name_state.Goals as goal

-- one list behind another
joined : (out a b d e one two three all : List Change) → one ≡ out ++ a → two ≡ one ++ b → three ≡ two ++ d → all ≡ three ++ e → all ≡ out ++ (a ++ (b ++ (d ++ e)))
joined out a b d e one two three all of_a of_b of_d of_e =
    of_e ∙ ap (λ (l : List Change). l ++ e) (of_d ∙ ap (λ (l : List Change). l ++ d) (of_b ∙ ap (λ (l : List Change). l ++ b) of_a))
    ∙ append_assoc ((out ++ a) ++ b) d e ∙ append_assoc (out ++ a) b (d ++ e) ∙ append_assoc out a (b ++ (d ++ e))

pub returns : goal.returns
returns c =
    let conf = c.args.conf.now in
    joined _ _ _ _ _ _ _ _ _ c.in_ok-name_hosts.ensures
    (c.in_ok-name_ports.ensures ∙ ap (λ (l : List UpRec). c.name_hosts.new.out ++ map (λ (up : UpRec). change.Port up.dp up.port) l) c.as_slice.ensures)
    (c.in_ok-name_dps.ensures ∙ ap (λ (l : List DpId). c.name_ports.new.out ++ map change.Dp l) c.as_slice-2.ensures)
    c.in_ok-name_neighbours.ensures
