use Rattle.std.proofs.Common.{◌∙◌, codes, ap, sym, refl, fold, map}
use Rattle.conf_json.specs.Json.{braces, object, with_member}
use Rattle.conf_json.specs.Text.{port_member, lldp_members, dp_text}
use Rattle.conf_json.proofs.Members.{put_next, two_more}
use Rattle.conf_json.proofs.datapath.make_dp.Goals as goal

-- the members are put one behind the other
pub returns : goal.returns
unfolding dp_text
returns c =
    let m1 = put_next (codes "arp_neighbor_timeout") c.in_ok-put_number.ensures c.new-made.ensures refl in
    let m2 = put_next (codes "description") c.in_ok-put_text.ensures m1 refl in
    let m3 = put_next (codes "dp_id") c.in_ok-put.ensures m2 c.number.ensures in
    let m4 = put_next (codes "drop_bpdu") c.in_ok-put_flag.ensures m3 refl in
    let m5 = put_next (codes "drop_broadcast_source_address") c.in_ok-put_flag-2.ensures m4 refl in
    let m6 = put_next (codes "drop_lldp") c.in_ok-put_flag-3.ensures m5 refl in
    let m7 = put_next (codes "drop_spoofed_faucet_mac") c.in_ok-put_flag-4.ensures m6 refl in
    let m8 = put_next (codes "hardware") c.in_ok-put_text-2.ensures m7 refl in
    let m9 = put_next (codes "interfaces") c.in_ok-put-2.ensures m8 (c.in_ok-ports.ensures ∙ ap (λ ports. object (map (port_member c.args.conf.now) ports)) c.as_slice.ensures) in
    let lldp = c.in_ok-put_lldp.ensures ∙ ap (λ ms. fold with_member ms (lldp_members c.args.dp.now.lldp)) m9 in
    let m10 = put_next (codes "stack_priority") c.in_ok-put-3.ensures lldp c.number_or_null-priority.ensures in
    let m11 = put_next (codes "timeout") c.in_ok-put_number-2.ensures m10 refl in
    c.into_json.ensures ∙ ap braces (m11 ∙ sym (two_more _ c.args.dp.now.lldp _ _))
