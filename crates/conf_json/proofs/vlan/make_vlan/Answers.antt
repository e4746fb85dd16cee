use Rattle.std.proofs.Common.{◌∙◌, codes, ap, refl, map}
use Rattle.conf_json.specs.Json.{braces, list}
use Rattle.conf_json.specs.Text.{names_text, vip_text, route_text, vlan_text}
use Rattle.conf_json.proofs.Members.{put_next}
use Rattle.conf_json.proofs.vlan.make_vlan.Goals as goal

-- the members are put one behind the other
pub returns : goal.returns
unfolding vlan_text
returns c =
    let m1 = put_next (codes "acls_in") c.in_ok-put.ensures c.new-made.ensures (c.in_ok-acls.ensures ∙ ap names_text c.as_slice.ensures) in
    let m2 = put_next (codes "description") c.in_ok-put_text.ensures m1 refl in
    let m3 = put_next (codes "faucet_mac") c.in_ok-put-2.ensures m2 c.in_ok-make_mac.ensures in
    let m4 = put_next (codes "faucet_vips") c.in_ok-put-3.ensures m3 (c.in_ok-vips.ensures ∙ ap (λ vips. list (map vip_text vips)) c.as_slice-2.ensures) in
    let m5 = put_next (codes "max_hosts") c.in_ok-put_number.ensures m4 refl in
    let m6 = put_next (codes "name") c.in_ok-put_text-2.ensures m5 refl in
    let m7 = put_next (codes "routes") c.in_ok-put-4.ensures m6 (c.in_ok-routes.ensures ∙ ap (λ routes. list (map route_text routes)) c.as_slice-3.ensures) in
    let m8 = put_next (codes "unicast_flood") c.in_ok-put_flag.ensures m7 refl in
    c.into_json.ensures ∙ ap braces m8
