-- The text of an interface tells each of its fields.
use Rattle.std.proofs.Common.{◌≡◌, ◌≢◌, ◌==◌, ℕ, List, [], ◌∷◌, get_or, Option, Some, refl, sym, ap, ◌∙◌, subst, arith, decimal, codes, eqb-true}
use Rattle.std.specs.List.{AllByRecursion}
use Rattle.std.specs.Option.{option_map_or}
use Rattle.conf_types.specs.declared.datapath.Dp.{Dp}
use Rattle.conf_types.specs.declared.datapath.Port.{Port}
use Rattle.conf_types.specs.declared.datapath.StackEnd.{StackEnd}
use Rattle.conf_types.specs.Configuration.{Configuration, dp_with}
use Rattle.conf_json.specs.Json.{Member, null, quoted, with_member, braces}
use Rattle.conf_json.specs.Text.{far_name, far_end_text, port_members, port_text}
use Rattle.law_json.specs.Agree.{PortsAgree}
use Rattle.law_json.proofs.Members.{IsIn}
use Rattle.law_json.proofs.Parts.{IsSmall, names_value, same_names, same_flag, same_number, numbers_value, same_numbers, or_null_value, same_or_null, optional_value, same_optional}
use Rattle.law_json.proofs.Shown.{PortIsShown, looked_up}
use Rattle.law_json.proofs.Values.{IsValue, flag_value, number_value, quoted_value, braces_value, same_braces, same_quoted}

-- the text of a member at a place
abbrev pub text_at : ℕ → List Member → List ℕ
text_at k ms = (get_or ms k ([], [])).1

-- ---- the far end of a stack link

abbrev far_members : Configuration → StackEnd → List Member
far_members conf far = (codes "dp", quoted (far_name conf far)) ∷ (codes "port", decimal far.port) ∷ []

far_is : (conf : Configuration) (far : StackEnd) → far_end_text conf far ≡ braces (far_members conf far)
unfolding with_member
far_is conf far = refl

far_values : (conf : Configuration) (far : StackEnd) → IsSmall far.port → AllByRecursion (λ m. IsValue m.1) (far_members conf far)
far_values conf far small = (quoted_value (far_name conf far), (number_value far.port small, tt))

far_value : (conf : Configuration) (far : StackEnd) → IsSmall far.port → IsValue (far_end_text conf far)
far_value conf far small = subst IsValue (sym (far_is conf far)) (braces_value (far_members conf far) (far_values conf far small))

far_no_null : (conf : Configuration) (far : StackEnd) → far_end_text conf far ≢ null
unfolding braces
far_no_null conf far e = let first : 123 ≡ 110 = ap (λ w. get_or w 0 0) (sym (far_is conf far) ∙ e) in omega (arith, first)

-- a name tells which datapath it is of, in both configurations
abbrev pub NamesTellIds : Configuration → Configuration → Type 0
NamesTellIds a b = (d e : Dp) → IsIn d a.dps → IsIn e b.dps → d.name ≡ e.name → d.id ≡ e.id

name_found : (conf : Configuration) (far : StackEnd) (d : Dp) → dp_with conf.dps far.dp ≡ Some d → IsIn d conf.dps × (d.id ≡ far.dp) × (far_name conf far ≡ d.name)
name_found conf far d e =
    let found = looked_up (λ (o : Dp). o.id.0 == far.dp.0) conf.dps d e in
    (found.0, ap (λ (n : ℕ). record { 0 = n }) (eqb-true d.id.0 far.dp.0 found.1), ap (λ (o : Option Dp). option_map_or (λ (d : Dp). d.name) o []) e)

same_far : (a b : Configuration) → NamesTellIds a b → (f g : StackEnd) (d e : Dp) → dp_with a.dps f.dp ≡ Some d → dp_with b.dps g.dp ≡ Some e → IsSmall f.port → IsSmall g.port
    → far_end_text a f ≡ far_end_text b g → f ≡ g
same_far a b told f g d e at_f at_g small_f small_g same =
    let members = same_braces (far_members a f) (far_members b g) (far_values a f small_f) (far_values b g small_g) (sym (far_is a f) ∙ same ∙ far_is b g) in
    let name : far_name a f ≡ far_name b g = same_quoted _ _ (ap (text_at 0) members) in
    let port : f.port ≡ g.port = same_number f.port g.port small_f small_g (ap (text_at 1) members) in
    let first = name_found a f d at_f in
    let second = name_found b g e at_g in
    let dp : f.dp ≡ g.dp = sym first.1 ∙ told d e first.0 second.0 (sym first.2 ∙ name ∙ second.2) ∙ second.1 in
    ap (λ id. record { dp = id; port = f.port }) dp ∙ ap (λ (no : ℕ). record { dp = g.dp; port = no }) port

-- ---- an interface

port_is : (conf : Configuration) (p : Port) → port_text conf p ≡ braces (port_members conf p)
unfolding port_text with_member
port_is conf p = refl

port_values : (conf : Configuration) (p : Port) → PortIsShown conf p → AllByRecursion (λ m. IsValue m.1) (port_members conf p)
port_values conf p is = (
  names_value p.acls,
  (
    quoted_value p.description,
    (
      flag_value p.enabled,
      (
        flag_value p.hairpin,
        (
          number_value p.max_hosts is.max_hosts,
          (
            numbers_value p.mirror is.mirror,
            (
              quoted_value p.name,
              (
                optional_value p.native is.native,
                (
                  flag_value p.opstatus_reconf,
                  (
                    flag_value p.output_only,
                    (
                      flag_value p.permanent_learn,
                      (or_null_value (far_end_text conf) p.stack (λ far e. far_value conf far (is.far_port far e)), (numbers_value p.tagged is.tagged, (flag_value p.unicast_flood, tt))),
                    ),
                  ),
                ),
              ),
            ),
          ),
        ),
      ),
    ),
  ),
)

pub port_value : (conf : Configuration) (p : Port) → PortIsShown conf p → IsValue (port_text conf p)
port_value conf p is = subst IsValue (sym (port_is conf p)) (braces_value (port_members conf p) (port_values conf p is))

pub same_port : (a b : Configuration) → NamesTellIds a b → (p q : Port) → PortIsShown a p → PortIsShown b q → p.no ≡ q.no → port_text a p ≡ port_text b q → PortsAgree p q
same_port a b told p q in_p in_q number e =
    let same = same_braces (port_members a p) (port_members b q) (port_values a p in_p) (port_values b q in_q) (sym (port_is a p) ∙ e ∙ port_is b q) in
    record {
      no = number;
      name = same_quoted p.name q.name (ap (text_at 6) same);
      description = same_quoted p.description q.description (ap (text_at 1) same);
      enabled = same_flag p.enabled q.enabled (ap (text_at 2) same);
      native = same_optional p.native q.native in_p.native in_q.native (ap (text_at 7) same);
      tagged = same_numbers p.tagged q.tagged in_p.tagged in_q.tagged (ap (text_at 12) same);
      acls = same_names p.acls q.acls (ap (text_at 0) same);
      output_only = same_flag p.output_only q.output_only (ap (text_at 9) same);
      hairpin = same_flag p.hairpin q.hairpin (ap (text_at 3) same);
      unicast_flood = same_flag p.unicast_flood q.unicast_flood (ap (text_at 13) same);
      permanent_learn = same_flag p.permanent_learn q.permanent_learn (ap (text_at 10) same);
      opstatus_reconf = same_flag p.opstatus_reconf q.opstatus_reconf (ap (text_at 8) same);
      max_hosts = same_number p.max_hosts q.max_hosts in_p.max_hosts in_q.max_hosts (ap (text_at 4) same);
      mirror = same_numbers p.mirror q.mirror in_p.mirror in_q.mirror (ap (text_at 5) same);
      stack = same_or_null (far_end_text a) (far_end_text b) p.stack q.stack (λ far at. far_no_null a far) (λ far at. far_no_null b far)
          (λ f g at_f at_g e.
          let d = in_p.far_dp f at_f in
          let o = in_q.far_dp g at_g in
          same_far a b told f g d.0 o.0 d.1 o.1 (in_p.far_port f at_f) (in_q.far_port g at_g) e)
          (ap (text_at 11) same);
    }
