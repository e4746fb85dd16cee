-- Going through datapaths and asking by each is saying the asks of those that ask.
use Rattle.std.proofs.Common.{◌≡◌, ℕ, ◌+◌, ◌<◌, ◌==◌, true, false, cond, Option, Some, None, List, [], ◌∷◌, filter, length, get_or, drop, refl, sym, ap, ◌∙◌, if◌then◌else◌}
use Rattle.std.specs.List.{cons_option, filter_map}
use Rattle.std.specs.Option.{option_map, option_map_or}
use Rattle.std.proofs.lemmas.List.{at_drop_more}
use Rattle.conf_types.specs.declared.address.Ip.{Ip}
use Rattle.net_base.specs.declared.numbers.DpId.{DpId}
use Rattle.conf_types.specs.Configuration.{Configuration}
use Rattle.conf_types.specs.Groups.{group_of}
use Rattle.of13_codec.specs.declared.message.Message.{Message}
use Rattle.neighbour_resolve.specs.Asks.{AskOn, ask as ask_frame, asks, in_order}
use Rattle.ctl_world.specs.declared.conns.Conn.{Conn}
use Rattle.ctl_world.specs.Connections.{conn_of, conn_with, with_said}
use Rattle.ctl_world.specs.Saying.{packet_out, say, say_by}
use Rattle.ctl_world.specs.World.{World, running}
use Rattle.ctl_settle.specs.Settling.{ask_by, ask_by_each, ask_each, ask_on}

say_conf : (number : ℕ) (m : Message) (w : World) → (say number m w).conf ≡ w.conf
say_conf number m w = elim (conn_with w.conns number) as (λ o. (option_map_or (say_by with_said m w) o w).conf ≡ w.conf) [ Some c ↦ refl | None ↦ refl ]

ask_on_conf : (a : AskOn) (w : World) → (ask_on a w).conf ≡ w.conf
ask_on_conf a w =
    elim (conn_of w.conns a.dp) as (λ o. (option_map_or (λ (c : Conn). say c.number (packet_out a.out) w) o w).conf ≡ w.conf) [
      | Some c ↦ say_conf c.number (packet_out a.out) w
      | None ↦ refl
    ]

module _ (group : DpId) (vid : ℕ) (ip : Ip) where
  -- the asks of these datapaths, by a configuration
  abbrev asks_by : Configuration → List DpId → List AskOn
  asks_by conf dps = filter_map (λ dp. option_map (λ out. record { dp = dp; out = out }) (ask_frame conf dp vid ip)) (filter (λ dp. (group_of conf dp).0 == group.0) dps)

  abbrev ask_by_conf : Configuration → DpId → World → World
  ask_by_conf conf dp w =
      if (group_of conf dp).0 == group.0 then option_map_or (λ out. ask_on (record { dp = dp; out = out }) w) (ask_frame conf dp vid ip) w else w

  each_by : (conf : Configuration) (dps : List DpId) (w : World) → w.conf ≡ conf → ask_by_each group vid ip dps w ≡ ask_each (asks_by conf dps) w
  each_by conf [] w same = refl
  each_by conf (dp ∷ dps) w same =
      let made : DpId → Option AskOn = λ d. option_map (λ out. record { dp = d; out = out }) (ask_frame conf d vid ip) in
      let of_group : List DpId = filter (λ d. (group_of conf d).0 == group.0) dps in
      ap (λ (cf : Configuration). ask_by_each group vid ip dps (ask_by_conf cf dp w)) same
      ∙ elim ((group_of conf dp).0 == group.0) as (λ b. ask_by_each group vid ip dps (if b then option_map_or (λ out. ask_on (record { dp = dp; out = out }) w) (ask_frame conf dp vid ip) w else w)
      ≡ ask_each (filter_map made (cond b (dp ∷ of_group) of_group)) w) [
        | true ↦ elim (ask_frame conf dp vid ip) as (λ o. ask_by_each group vid ip dps (option_map_or (λ out. ask_on (record { dp = dp; out = out }) w) o w)
            ≡ ask_each (cons_option (option_map (λ out. record { dp = dp; out = out }) o) (filter_map made of_group)) w) [
              | Some out ↦ each_by conf dps (ask_on (record { dp = dp; out = out }) w) (ask_on_conf (record { dp = dp; out = out }) w ∙ same)
              | None ↦ each_by conf dps w same
            ]
        | false ↦ each_by conf dps w same
      ]

  pub each_asks : (w : World) → ask_by_each group vid ip (in_order (running w)) w ≡ ask_each (asks w.conf (running w) group vid ip) w
  each_asks w = each_by w.conf (in_order (running w)) w refl

  pub ask_by_each-drop : (dps : List DpId) (i : ℕ) (dp : DpId) (w : World) → i < length dps → dp ≡ get_or dps i dp → ask_by_each group vid ip (drop i dps) w ≡ ask_by_each group vid ip (drop (i + 1) dps) (ask_by group vid ip dp w)
  ask_by_each-drop dps i dp w within is =
      at_drop_more (λ ds. ask_by_each group vid ip ds w) dps i dp within ∙ ap (λ d. ask_by_each group vid ip (drop (i + 1) dps) (ask_by group vid ip d w)) (sym is)
