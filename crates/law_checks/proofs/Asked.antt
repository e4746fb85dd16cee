-- The fields of a rule say what its match keys ask for.
use Rattle.std.proofs.Common.{◌≡◌, ℕ, pos, ◌≤◌, Bool, true, false, List, [], ◌∷◌, ◌++◌, Option, Some, None, refl, sym, ap, ◌∙◌, inl, inr, ◌⊎◌, subst, arith, eqb-true}
use Rattle.std.specs.Prelude.{IfSome, MatchOption, ◌==◌, if◌then◌else◌}
use Rattle.std.specs.List.{AllByRecursion}
use Rattle.std.specs.Option.{option_map}
use Rattle.net_base.specs.declared.field.FieldId.{FieldId}
use Rattle.net_base.specs.Field.{exact, prefix_in}
use Rattle.net_base.specs.AddressReading.{◌>>=◌, spelled_mac, cut_at}
use Rattle.net_base.proofs.Addresses.{mac_ok}
use Rattle.yaml_tree.specs.declared.tree.Pair.{Pair}
use Rattle.yaml_tree.specs.declared.tree.Tree.{Tree}
use Rattle.yaml_tree.specs.declared.tree.Tree.TheOpen as tree
use Rattle.conf_types.specs.declared.address.Ip.{Ip}
use Rattle.conf_types.specs.declared.address.Net.{Net}
use Rattle.conf_types.specs.Families.{ip_value, width_of, address_of, len_of}
use Rattle.conf_shape.specs.declared.kinds.Kind.TheVariants.{One}
use Rattle.conf_shape.specs.declared.kinds.Scalar.TheVariants.{Number, MaskedMac, Prefix, Address}
use Rattle.conf_shape.specs.declared.kinds.MapKind.TheVariants as maps
use Rattle.conf_shape.specs.declared.raw.RawField.{RawField}
use Rattle.conf_shape.specs.declared.refused.ConfCause.TheVariants.{BadText}
use Rattle.conf_shape.specs.Addresses.{mac_fault, masked_fault, masked_parts, ip_in, net_in, other_cause, network_fault, address_or}
use Rattle.conf_shape.specs.Keys.{keys_of, match_keys}
use Rattle.conf_shape.specs.Faults.{faults_of}
use Rattle.conf_shape.specs.Scalars.{within, asked_scalar}
use Rattle.conf_shape.specs.Values.{number_field, mac_number, masked, mac_parts, mac_field, ip_field, text_field, field_in, field_of, spelled_at, raw_field, ahead, fields_by}
use Rattle.conf_shape.specs.Written.{IsRight}
use Rattle.law_checks.specs.Values.{IsText}
use Rattle.law_checks.specs.Fields.{AsksNumber, AsksMac, AsksMaskedMac, AsksAddress, AsksPrefix, AsksBy, Asks, FieldSays, FieldsSay}
use Rattle.law_checks.proofs.Values.{within_again, number_right, text_right}
use Rattle.law_checks.proofs.AskedForms.{scalar_right, IsWidth, HasForm, IsKey, every_key}
use Rattle.law_checks.proofs.Addresses.{ip_ok, net_ok}
use Rattle.law_checks.proofs.Fields.{spelled_right}

-- ---- values

number_asks : (id : FieldId) (low high : ℕ) → high ≤ 0xffff → (t : Tree) → faults_of t (One (Number low high)) ≡ [] → AsksNumber id t (field_of id t)
number_asks id low high small t h =
    let r = number_right low high t h in
    let read : within 0 0xffff (pos r.0) ≡ Some r.0 = within_again 0 0xffff r.0 (omega arith) (omega (arith, r.3)) in
    (r.0, r.1, ap (field_in id) r.1 ∙ ap (option_map (number_field id)) read)

cut_there : (mark : ℕ) (text : List ℕ) (parts : List ℕ × List ℕ) → cut_at mark text ≡ Some parts → text ≡ parts.0 ++ mark ∷ parts.1
cut_there mark [] parts e = absurd cc
cut_there mark (b ∷ bs) parts e = by (b == mark) refl (cut_at mark bs) e (cut_there mark bs)
  where
    by : (is : Bool) → (b == mark) ≡ is → (read : Option (List ℕ × List ℕ)) → (if is then Some ([], bs) else (read >>= λ cut. Some (b ∷ cut.0, cut.1))) ≡ Some parts → ((parts : List ℕ × List ℕ) → read ≡ Some parts → bs ≡ parts.0 ++ mark ∷ parts.1) → b ∷ bs ≡ parts.0 ++ mark ∷ parts.1
    by true is read e later = let same : ([], bs) ≡ parts = cc in subst (λ (parts : List ℕ × List ℕ). b ∷ bs ≡ parts.0 ++ mark ∷ parts.1) same (ap (λ b. b ∷ bs) (eqb-true b mark is))
    by false is None e later = absurd cc
    by false is (Some cut) e later = let same : (b ∷ cut.0, cut.1) ≡ parts = cc in subst (λ (parts : List ℕ × List ℕ). b ∷ bs ≡ parts.0 ++ mark ∷ parts.1) same (ap (λ bs. b ∷ bs) (later cut refl))

module _ (id : FieldId) where
  mac_asks : ((text : List ℕ) → text_field id text ≡ mac_field id text) → (t : Tree) → faults_of t (One MaskedMac) ≡ [] → AsksMac id t (field_of id t) ⊎ AsksMaskedMac id t (field_of id t)
  mac_asks by_mac t h =
      let r = text_right MaskedMac (record { no_flag = refl; no_number = λ n. refl }) t h in
      subst (λ asked. AsksMac id t asked ⊎ AsksMaskedMac id t asked) (sym (ap (field_in id) r.1 ∙ by_mac r.0)) (by r.0 r.1 (cut_at 47 r.0) refl r.2)
    where
      alone : (text : List ℕ) → IsText t text → (read : Option (List ℕ)) → spelled_mac text ≡ read → mac_fault read ≡ None → AsksMac id t (option_map (exact id) (mac_number read))
      alone text is None e f = absurd cc
      alone text is (Some mac) e f = record { text = text; mac = mac; is = is; spelled = mac_ok text mac e; field = refl }

      two : (before behind : List ℕ) → IsText t (before ++ 47 ∷ behind) → (value mask : Option (List ℕ)) → spelled_mac before ≡ value → spelled_mac behind ≡ mask → masked_fault value mask ≡ None → AsksMaskedMac id t (masked id (mac_number value) (mac_number mask))
      two before behind is (Some value) (Some mask) v m f = record { before = before; behind = behind; value = value; mask = mask; is = is; value_spelled = mac_ok before value v; mask_spelled = mac_ok behind mask m; field = refl }
      two before behind is (Some value) None v m f = absurd cc
      two before behind is None mask v m f = absurd cc

      by : (text : List ℕ) → IsText t text → (o : Option (List ℕ × List ℕ)) → cut_at 47 text ≡ o → masked_parts text o ≡ None → AsksMac id t (mac_parts id text o) ⊎ AsksMaskedMac id t (mac_parts id text o)
      by text is None e f = inl (alone text is (spelled_mac text) refl f)
      by text is (Some parts) e f = inr (two parts.0 parts.1 (is ∙ ap tree.Text (cut_there 47 text parts e)) (spelled_mac parts.0) (spelled_mac parts.1) refl refl f)

  module _ (width : ℕ) (known : IsWidth width) where
    address_there : (t : Tree) (text : List ℕ) (ip : Ip) → IsText t text → ip_in width text ≡ Some ip → AsksAddress width id t (Some (exact id (ip_value ip)))
    address_there t text ip is i = let ok = ip_ok width text ip i in record { text = text; ip = ip; is = is; family = ok.family ∙ known; spelled = ok.spelled; field = refl }

    ip_asks : ((text : List ℕ) → text_field id text ≡ ip_field id (ip_in width text) (net_in width text)) → (t : Tree) → faults_of t (One (Prefix width)) ≡ [] → AsksAddress width id t (field_of id t) ⊎ AsksPrefix width id t (field_of id t)
    ip_asks by_ip t h =
        let r = text_right (Prefix width) (record { no_flag = refl; no_number = λ n. refl }) t h in
        subst (λ asked. AsksAddress width id t asked ⊎ AsksPrefix width id t asked) (sym (ap (field_in id) r.1 ∙ by_ip r.0)) (by r.0 r.1 (ip_in width r.0) (net_in width r.0) refl refl r.2)
      where
        by : (text : List ℕ) → IsText t text → (ip : Option Ip) (net : Option Net) → ip_in width text ≡ ip → net_in width text ≡ net → address_or (network_fault (other_cause width text) net) ip ≡ None
            → AsksAddress width id t (ip_field id ip net) ⊎ AsksPrefix width id t (ip_field id ip net)
        by text is (Some ip) net i n f = inl (address_there t text ip is i)
        by text is None (Some net) i n f =
            let ok = net_ok width text net n in
            let family : width_of (address_of net) ≡ width = ok.family ∙ known in
            inr (record { text = text; net = net; is = is; family = family; spelled = ok.spelled; field = ap (λ (w : ℕ). if len_of net == 0 then None else Some (prefix_in w id (ip_value (address_of net)) (len_of net))) family })
        by text is None None i n f = absurd cc

    address_asks : ((text : List ℕ) → text_field id text ≡ ip_field id (ip_in width text) (net_in width text)) → (t : Tree) → faults_of t (One (Address width)) ≡ [] → AsksAddress width id t (field_of id t)
    address_asks by_ip t h =
        let r = text_right (Address width) (record { no_flag = refl; no_number = λ n. refl }) t h in
        subst (AsksAddress width id t) (sym (ap (field_in id) r.1 ∙ by_ip r.0)) (by r.0 r.1 (ip_in width r.0) refl r.2)
      where
        by : (text : List ℕ) → IsText t text → (ip : Option Ip) → ip_in width text ≡ ip → address_or (Some BadText) ip ≡ None → AsksAddress width id t (ip_field id ip (net_in width text))
        by text is (Some ip) i f = address_there t text ip is i
        by text is None i f = absurd cc

-- ---- keys

abbrev Told : List Pair → List ℕ × FieldId → Type 0
Told pairs k = IfSome (spelled_at (keys_of maps.Rule).spellings k.0 pairs) (λ p. Asks k.1 p.value (field_of k.1 p.value))

fields_told : (pairs : List Pair) (ks : List (List ℕ × FieldId)) → AllByRecursion (Told pairs) ks → FieldsSay ks pairs (fields_by (keys_of maps.Rule).spellings ks pairs)
fields_told pairs [] all = refl
fields_told pairs (k ∷ ks) all = by (spelled_at (keys_of maps.Rule).spellings k.0 pairs) all.0 (fields_told pairs ks all.1)
  where
    rest : List RawField
    rest = fields_by (keys_of maps.Rule).spellings ks pairs

    by : (o : Option Pair) → IfSome o (λ p. Asks k.1 p.value (field_of k.1 p.value)) → FieldsSay ks pairs rest → MatchOption o (FieldsSay ks pairs (ahead (raw_field k.1 o) rest)) (λ p. FieldSays k.1 p (FieldsSay ks pairs) (ahead (raw_field k.1 o) rest))
    by None h more = more
    by (Some p) h more = (field_of k.1 p.value, h, rest, refl, more)

-- by the form of the field
value_asks : (id : FieldId) → HasForm id → (t : Tree) → faults_of t (One (asked_scalar id)) ≡ [] → Asks id t (field_of id t)
value_asks id (inl mac) t h =
    subst (λ s. AsksBy s id t (field_of id t)) (sym mac.scalar) (mac_asks id mac.reads t (subst (λ s. faults_of t (One s) ≡ []) mac.scalar h))
value_asks id (inr (inl ip)) t h =
    subst (λ s. AsksBy s id t (field_of id t)) (sym ip.scalar) (ip_asks id ip.width ip.known ip.reads t (subst (λ s. faults_of t (One s) ≡ []) ip.scalar h))
value_asks id (inr (inr (inl ip))) t h =
    subst (λ s. AsksBy s id t (field_of id t)) (sym ip.scalar) (address_asks id ip.width ip.known ip.reads t (subst (λ s. faults_of t (One s) ≡ []) ip.scalar h))
value_asks id (inr (inr (inr number))) t h =
    subst (λ s. AsksBy s id t (field_of id t)) (sym number.scalar) (number_asks id number.low number.high number.small t (subst (λ s. faults_of t (One s) ≡ []) number.scalar h))

module _ (pairs : List Pair) (right : IsRight maps.Rule pairs) where
  told : (k : List ℕ × FieldId) → IsKey k → Told pairs k
  told k key = by (spelled_at (keys_of maps.Rule).spellings k.0 pairs) (spelled_right k.0 key.row key.at [] pairs right)
    where
      by : (o : Option Pair) → IfSome o (λ p. faults_of p.value key.row.kind ≡ []) → IfSome o (λ p. Asks k.1 p.value (field_of k.1 p.value))
      by None h = tt
      by (Some p) h = value_asks k.1 key.form p.value (scalar_right k.1 p.value (subst (λ kind. faults_of p.value kind ≡ []) key.kind h))

  all_told : (ks : List (List ℕ × FieldId)) → AllByRecursion IsKey ks → AllByRecursion (Told pairs) ks
  all_told [] keys = tt
  all_told (k ∷ ks) keys = (told k keys.0, all_told ks keys.1)

  pub fields_say : FieldsSay match_keys pairs (fields_by (keys_of maps.Rule).spellings match_keys pairs)
  fields_say = fields_told pairs match_keys (all_told match_keys every_key)
