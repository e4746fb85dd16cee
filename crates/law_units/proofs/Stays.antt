-- Each unit out of reach has the same entries.
use Rattle.std.proofs.Common.{◌≡◌, ℕ, Bool, true, List, refl}
use Rattle.std.specs.Prelude.{Contains}
use Rattle.net_base.specs.declared.numbers.DpId.{DpId}
use Rattle.net_base.specs.declared.stack.StackLink.{StackLink}
use Rattle.stack_paths.specs.Chosen.{hop_of, is_tree_port}
use Rattle.stack_paths.specs.Stack.{Stack}
use Rattle.conf_types.specs.declared.datapath.Dp.{Dp}
use Rattle.conf_types.specs.declared.state.UpRec.{UpRec}
use Rattle.conf_types.specs.Changes.{AreNamed}
use Rattle.conf_types.specs.Configuration.{Configuration}
use Rattle.conf_types.specs.Groups.{IsDp, IsGroup, group_of}
use Rattle.conf_types.specs.Links.{links, IsLinkUp}
use Rattle.conf_types.specs.State.{State}
use Rattle.law_paths.specs.Part.{AreAlikeIn}
use Rattle.plan_units.specs.declared.unit.Unit.{Unit as PlanUnit}
use Rattle.plan_units.specs.declared.unit.Unit.TheVariants as unit
use Rattle.plan_units.specs.Laws.{IsSetting}
use Rattle.plan_units.specs.Units.{entries}
use Rattle.conf_types.specs.declared.change.Change.{Change}
use Rattle.law_units.specs.Reach.{IsInReach}
use Rattle.law_units.proofs.Rows.{host_stays, port_stays, vlan_entries, host_entries}

module _ (group_law : (conf : Configuration) (dp : DpId) → IsDp conf dp → IsGroup conf dp (group_of conf dp))
    (hop_law : (part : DpId → Bool) (s t : Stack) → AreAlikeIn part s t → (a b : DpId) → part a ≡ true → hop_of s a b ≡ hop_of t a b)
    (tree_law : (part : DpId → Bool) (s t : Stack) → AreAlikeIn part s t → (e : DpId) (p : ℕ) → part e ≡ true → is_tree_port s e p ≡ is_tree_port t e p)
    (conf : Configuration) (old new : State) (d : Dp) (changes : List Change) (so : IsSetting conf old d) (sn : IsSetting conf new d) (named : AreNamed conf old new changes)
    (up_law : (ups : List UpRec) (l : StackLink) → Contains (links conf ups) l → IsLinkUp conf ups l) where
  pub stays : (u : PlanUnit) → (IsInReach conf old new d changes u → ⊥) → ((vid : ℕ) → u ≡ unit.Route vid → ⊥) → entries conf old d u ≡ entries conf new d u
  stays unit.Dp out other = refl
  stays (unit.Port number) out other = port_stays conf old new d changes so sn named number out
  stays (unit.Vlan vid) out other = vlan_entries conf old new d changes so sn named group_law up_law hop_law tree_law (unit.Vlan vid) out (λ dp port e. e) vid
  stays (unit.Host vid mac) out other =
      host_entries conf old new d changes so sn named group_law up_law hop_law tree_law (unit.Host vid mac) out (λ dp port e. e) vid mac
      (host_stays conf old new d changes so sn named (unit.Host vid mac) out (group_of conf d.id) vid mac (refl, refl, refl))
  stays (unit.Route vid) out other = absurd (other vid refl)
