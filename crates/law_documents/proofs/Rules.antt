-- What is read of ACLs and their rules, where they are the same but for the order of entries.
use Rattle.std.proofs.Common.{◌≡◌, ℕ, Bool, true, false, List, [], ◌∷◌, Some, refl, sym, ap, ap₂, ◌∙◌, subst, true≢false}
use Rattle.std.specs.Prelude.{codes, cond, if◌then◌else◌}
use Rattle.std.specs.List.{find}
use Rattle.std.specs.Str.{bytes_eq}
use Rattle.net_base.specs.declared.field.FieldId.{FieldId}
use Rattle.yaml_tree.specs.declared.tree.Key.{Key}
use Rattle.yaml_tree.specs.declared.tree.Key.TheVariants as key
use Rattle.yaml_tree.specs.declared.tree.Pair.{Pair}
use Rattle.conf_shape.specs.declared.kinds.Kind.{Kind}
use Rattle.conf_shape.specs.declared.kinds.Kind.TheVariants.{Map, Maps, MapOrMaps}
use Rattle.conf_shape.specs.declared.kinds.MapKind.TheVariants as maps
use Rattle.conf_shape.specs.Faults.{faults_of}
use Rattle.conf_shape.specs.Keys.{Keys, keys_of, match_keys}
use Rattle.conf_shape.specs.Raw.{output_of, rule_with, rule_of, acl_of_entry}
use Rattle.conf_shape.specs.Reads.{entries_of, entries_at, port_of}
use Rattle.conf_shape.specs.Scalars.{map_kind}
use Rattle.conf_shape.specs.Sections.{canonical, key_text, spells, under_key}
use Rattle.conf_shape.specs.Values.{field_in, field_of, spelled_at, raw_field_or, raw_field, ahead, fields_by}
use Rattle.law_checks.proofs.Right.{HasKind}
use Rattle.law_documents.proofs.Clash.{clash, is_spelled, spelled_itself, text_itself, same_text}
use Rattle.law_documents.proofs.Kept.{Entries, entries_kept, Keeps, IsRead, port_read, read_items, items_kept, one_or_list_kept}
use Rattle.law_documents.proofs.Layers.{IsSameEntry, read_alone}
use Rattle.law_documents.proofs.Looked.{look, permission_same, option_same, list_same, one_or_list_same, below}
use Rattle.law_documents.proofs.Reordered.{each_so, both_read, found_of}

-- ---- fields

field_read : (id : FieldId) → IsRead (field_of id)
field_read id = read_alone (field_in id) (record { no_list = λ ts us. refl; no_map = λ ps qs. refl })

spelled_found : (spellings : List (List ℕ × List ℕ)) (name : List ℕ) (ps : List Pair) → spelled_at spellings name ps ≡ find (λ (p : Pair). spells spellings name p.key) ps
spelled_found spellings name [] = refl
spelled_found spellings name (p ∷ ps) = by (spells spellings name p.key) (spelled_found spellings name ps)
  where
    by : (is : Bool) → spelled_at spellings name ps ≡ find (λ (p : Pair). spells spellings name p.key) ps → (if is then Some p else spelled_at spellings name ps) ≡ cond is (Some p) (find (λ (p : Pair). spells spellings name p.key) ps)
    by true more = refl
    by false more = more

-- two keys of a rule don't spell one field
spelled_once : (keys : Keys) (name : List ℕ) (j k : Key) → is_spelled keys j k ≡ false → spells keys.spellings name j ≡ true → spells keys.spellings name k ≡ false
spelled_once keys name (key.Int n) k not is = absurd cc
spelled_once keys name (key.Text a) (key.Int n) not is = refl
spelled_once keys name (key.Text a) (key.Text b) not is = by (bytes_eq (canonical keys.spellings b) name) refl
  where
    by : (also : Bool) → bytes_eq (canonical keys.spellings b) name ≡ also → also ≡ false
    by false e = refl
    by true e =
        let same : canonical keys.spellings a ≡ canonical keys.spellings b = same_text (canonical keys.spellings a) name is ∙ sym (same_text (canonical keys.spellings b) name e) in
        absurd (true≢false (sym (text_itself (canonical keys.spellings a)) ∙ ap (bytes_eq (canonical keys.spellings a)) same ∙ not))

module _ (ps qs : List Pair) (e : Entries maps.Rule ps qs) where
  field_same : (name : List ℕ) (id : FieldId) → raw_field id (spelled_at (keys_of maps.Rule).spellings name ps) ≡ raw_field id (spelled_at (keys_of maps.Rule).spellings name qs)
  field_same name id =
      ap (raw_field id) (spelled_found (keys_of maps.Rule).spellings name ps)
      ∙ both_read (λ p q. IsSameEntry p q × (spells (keys_of maps.Rule).spellings name p.key ≡ true)) (raw_field id) (raw_field id) refl (λ p q r. ap₂ (λ k f. raw_field_or (key_text k) f) (r.0).0 (field_read id p.value q.value (r.0).1))
      (find (λ (p : Pair). spells (keys_of maps.Rule).spellings name p.key) ps) (find (λ (p : Pair). spells (keys_of maps.Rule).spellings name p.key) qs)
      (found_of IsSameEntry (λ (p : Pair). spells (keys_of maps.Rule).spellings name p.key) (λ (p : Pair). spells (keys_of maps.Rule).spellings name p.key) (λ p q same. ap (spells (keys_of maps.Rule).spellings name) same.0) ps qs e.same (each_so (λ p q. clash maps.Rule p.key q.key ≡ false) (λ p q. spells (keys_of maps.Rule).spellings name p.key ≡ true → spells (keys_of maps.Rule).spellings name q.key ≡ false) (λ p q. spelled_once (keys_of maps.Rule) name p.key q.key) ps e.apart))
      ∙ sym (ap (raw_field id) (spelled_found (keys_of maps.Rule).spellings name qs))

  fields_same : (ks : List (List ℕ × FieldId)) → fields_by (keys_of maps.Rule).spellings ks ps ≡ fields_by (keys_of maps.Rule).spellings ks qs
  fields_same [] = refl
  fields_same (k ∷ ks) = ap₂ ahead (field_same k.0 k.1) (fields_same ks)

-- ---- actions

output_kept : (kind : Kind) → map_kind kind ≡ Some maps.Output → Keeps kind output_of
output_kept kind is t u h same =
    let ps : List Pair = entries_of t in
    let qs : List Pair = entries_of u in
    let looked = look maps.Output (spelled_itself (keys_of maps.Output)) ps qs (entries_kept kind maps.Output is t u h same) in
    let port = option_same maps.Output ps qs looked port_of (codes "port") (λ t u a. port_read t u a.0) in
    let ports = list_same maps.Output ps qs looked port_of (codes "ports") (λ t u a. read_items port_of port_read t u a.0) in
    λ i. record { port = port i; ports = ports i }

-- ---- rules

rule_same : (ps qs : List Pair) → Entries maps.Rule ps qs → rule_with ps (entries_at (codes "actions") ps) ≡ rule_with qs (entries_at (codes "actions") qs)
rule_same ps qs e =
    let looked = look maps.Rule (spelled_itself (keys_of maps.Rule)) ps qs e in
    let before : List Pair = entries_at (codes "actions") ps in
    let behind : List Pair = entries_at (codes "actions") qs in
    let actions = look maps.Actions (spelled_itself (keys_of maps.Actions)) before behind (below maps.Rule ps qs looked maps.Actions (Map maps.Actions) (codes "actions") refl refl) in
    let fields = fields_same ps qs e match_keys in
    let allow = permission_same maps.Actions before behind actions maps.Actions (codes "allow") in
    let mirror = option_same maps.Actions before behind actions port_of (codes "mirror") (λ t u a. port_read t u a.0) in
    let output = one_or_list_same maps.Actions before behind actions output_of (codes "output")
    (λ t u a. one_or_list_kept (MapOrMaps maps.Output) (Map maps.Output) refl output_of (output_kept (Map maps.Output) refl) (output_kept (MapOrMaps maps.Output) refl) t u (a.1 (MapOrMaps maps.Output) refl) a.0) in
    λ i. record { fields = fields i; allow = allow i; mirror = mirror i; output = output i }

rule_kept : Keeps (Map maps.RuleItem) rule_of
rule_kept t u h same =
    let looked = look maps.RuleItem (spelled_itself (keys_of maps.RuleItem)) (entries_of t) (entries_of u) (entries_kept (Map maps.RuleItem) maps.RuleItem refl t u h same) in
    rule_same (entries_at (codes "rule") (entries_of t)) (entries_at (codes "rule") (entries_of u)) (below maps.RuleItem (entries_of t) (entries_of u) looked maps.Rule (Map maps.Rule) (codes "rule") refl refl)

-- ---- ACLs

pub acl_entry : (p q : Pair) → HasKind p.value (under_key maps.Acls [] p.key) → IsSameEntry p q → acl_of_entry p ≡ acl_of_entry q
acl_entry p q has same =
    let kind : has.0 ≡ Maps maps.RuleItem = cc (has.1) in
    let h : faults_of p.value (Maps maps.RuleItem) ≡ [] = subst (λ kind. faults_of p.value kind ≡ []) kind has.2 in
    let name = ap key_text same.0 in
    let rules = items_kept (Maps maps.RuleItem) (Map maps.RuleItem) refl rule_of rule_kept p.value q.value h same.1 in
    λ i. record { name = name i; rules = rules i }
