use Rattle.std.proofs.Common.{◌∙◌, codes, ap, refl}
use Rattle.conf_json.specs.Json.{braces}
use Rattle.conf_json.specs.Text.{numbers_text, names_text, port_text}
use Rattle.conf_json.proofs.Members.{put_next}
use Rattle.conf_json.proofs.port.make_port.Goals as goal

-- the members are put one behind the other
pub returns : goal.returns
unfolding port_text
returns c =
    let m1 = put_next (codes "acls_in") c.in_ok-put.ensures c.new-made.ensures (c.in_ok-acls.ensures ∙ ap names_text c.as_slice.ensures) in
    let m2 = put_next (codes "description") c.in_ok-put_text.ensures m1 refl in
    let m3 = put_next (codes "enabled") c.in_ok-put_flag.ensures m2 refl in
    let m4 = put_next (codes "hairpin") c.in_ok-put_flag-2.ensures m3 refl in
    let m5 = put_next (codes "max_hosts") c.in_ok-put_number.ensures m4 refl in
    let m6 = put_next (codes "mirror") c.in_ok-put-2.ensures m5 (c.in_ok-mirror.ensures ∙ ap numbers_text c.as_slice-2.ensures) in
    let m7 = put_next (codes "name") c.in_ok-put_text-2.ensures m6 refl in
    let m8 = put_next (codes "native_vlan") c.in_ok-put-3.ensures m7 c.vid_or_null.ensures in
    let m9 = put_next (codes "opstatus_reconf") c.in_ok-put_flag-3.ensures m8 refl in
    let m10 = put_next (codes "output_only") c.in_ok-put_flag-4.ensures m9 refl in
    let m11 = put_next (codes "permanent_learn") c.in_ok-put_flag-5.ensures m10 refl in
    let m12 = put_next (codes "stack") c.in_ok-put-4.ensures m11 c.in_ok-stack.ensures in
    let m13 = put_next (codes "tagged_vlans") c.in_ok-put-5.ensures m12 (c.in_ok-tagged.ensures ∙ ap numbers_text c.as_slice-3.ensures) in
    let m14 = put_next (codes "unicast_flood") c.in_ok-put_flag-6.ensures m13 refl in
    c.into_json.ensures ∙ ap braces m14
