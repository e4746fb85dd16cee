-- Where a part gives its number or its name, and the ACLs that it names.
use Rattle.std.specs.Prelude.{◌≡◌, ℕ, Bool, true, false, if◌then◌else◌, is_none, is_some, List, [], ◌∷◌, codes, Option, None, Some, IsSomeAnd, MatchOption}
use Rattle.std.specs.List.{flat_map}
use Rattle.std.proofs.Common.{inl, inr, refl, sym, ◌∙◌, subst, true≢false}
use Rattle.yaml_tree.specs.declared.tree.Key.{Key}
use Rattle.yaml_tree.specs.declared.tree.Key.TheVariants as key
use Rattle.yaml_tree.specs.declared.tree.Pair.{Pair}
use Rattle.yaml_tree.specs.declared.tree.Tree.{Tree, out-Tree}
use Rattle.yaml_tree.specs.declared.tree.Tree.TheOpen.{Tree-F}
use Rattle.yaml_tree.specs.declared.tree.Tree.TheOpen as tree
use Rattle.conf_types.specs.Attached.{acl_named}
use Rattle.conf_types.specs.Configuration.{Configuration}
use Rattle.conf_shape.specs.declared.raw.RawAclNames.{RawAclNames}
use Rattle.conf_shape.specs.declared.raw.RawNames.{RawNames}
use Rattle.conf_shape.specs.declared.raw.VlanRef.{VlanRef}
use Rattle.conf_shape.specs.declared.raw.VlanRef.TheVariants.{Vid, Name}
use Rattle.conf_shape.specs.declared.refused.ConfCause.TheVariants.{Unresolved}
use Rattle.conf_shape.specs.Reads.{value_at}
use Rattle.conf_resolve.specs.declared.ordered.OrderedConf.{OrderedConf}
use Rattle.conf_resolve.specs.Resolved.{vid_of}
use Rattle.conf_rules.specs.Names.{unknown_acl, unknown_at}
use Rattle.conf_rules.specs.Places.{under, one_at, list_at}
use Rattle.law_checks.specs.Says.{NamesSay, AclNamesSay}
use Rattle.law_checks.specs.Values.{IsText, IsNumber, IsLabelOf, IsVlanOf, IsList, HasEntries, IsNumbered}
use Rattle.law_checks.proofs.Members.{IsIn}
use Rattle.law_documents.specs.Forms.{IsScalar, IsSection, IsOwn, NamesNoVlan, NamesNoAcl}
use Rattle.law_documents.specs.Leads.{PathsLead}
use Rattle.law_documents.proofs.Leads.{Reaches, onward, there, HasKey, needed, in_option, in_some}
use Rattle.law_documents.proofs.Told.{At, told_if, each, both}

-- ---- forms of what is read

pub section : (x : Tree-F Tree Pair) (pairs : List Pair) → HasEntries x pairs → IsSection x
section (tree.Map ps) pairs has = tt
section tree.Null pairs has = tt
section (tree.Bool flag) pairs has = absurd has
section (tree.Int n) pairs has = absurd has
section (tree.Text text) pairs has = absurd has
section (tree.List items) pairs has = absurd has

pub number_scalar : (u : Tree) (n : ℕ) → IsNumber u n → IsScalar (out-Tree u)
number_scalar u n is = subst IsScalar (sym is) tt

pub text_scalar : (u : Tree) (text : List ℕ) → IsText u text → IsScalar (out-Tree u)
text_scalar u text is = subst IsScalar (sym is) tt

nothing : {A : Type 0} (o : Option A) → is_none o ≡ true → o ≡ None
nothing None is = refl
nothing (Some x) is = absurd (true≢false (sym is))

-- a number always stands for a VLAN, so what stands for none is a text
pub no_vlan : (o : OrderedConf) (x : Tree-F Tree Pair) (ref : VlanRef) → is_none (vid_of o.vlans ref) ≡ true → IsVlanOf x ref → NamesNoVlan o x
no_vlan o (tree.Text text) (Name name) none is = (text, refl, subst (λ n. vid_of o.vlans (Name n) ≡ None) (sym is) (nothing (vid_of o.vlans (Name name)) none))
no_vlan o (tree.Text text) (Vid vid) none is = absurd is
no_vlan o (tree.Int n) (Vid vid) none is = absurd (true≢false (sym none))
no_vlan o (tree.Int n) (Name name) none is = absurd is
no_vlan o tree.Null ref none is = absurd is
no_vlan o (tree.Bool flag) ref none is = absurd is
no_vlan o (tree.List items) ref none is = absurd is
no_vlan o (tree.Map pairs) ref none is = absurd is

-- ---- the number and the name of a part

-- a key that is given stands below a part, and else the part is what the key is about
abbrev pub HasOwn : Bool → List ℕ → Tree → Type 0
HasOwn has name u = IsOwn (out-Tree u) × (has ≡ true → Reaches u (name ∷ []) (λ v. IsOwn (out-Tree v)))

pub own_leads : (t : Tree) (site : List (List ℕ)) (has : Bool) (name : List ℕ) → Reaches t site (HasOwn has name) → At t IsOwn (if has then under site name else site)
own_leads t site true name r = onward t site (HasOwn true name) (name ∷ []) (λ v. IsOwn (out-Tree v)) r (λ u h. h.1 refl)
own_leads t site false name r = there t site (HasOwn false name) (λ v. IsOwn (out-Tree v)) r (λ u h. h.0)

pub some_given : (o : Option Tree) (default : Type 0) (P : Tree → Type 0) → is_some o ≡ true → MatchOption o default P → IsSomeAnd o P
some_given None default P is m = absurd (true≢false (sym is))
some_given (Some v) default P is m = m

pub some_number : (k : Key) (o : Option Tree) (n : ℕ) → is_some o ≡ true → IsNumbered k o n → IsSomeAnd o (λ v. IsNumber v n)
some_number (key.Int m) None n is r = absurd (true≢false (sym is))
some_number (key.Int m) (Some v) n is r = r.1
some_number (key.Text text) o n is r = r

module _ (u : Tree) (pairs : List Pair) where
  pub own_number : (name : List ℕ) (k : Key) (n : ℕ) → HasEntries (out-Tree u) pairs → IsNumbered k (value_at name pairs) n → is_some (value_at name pairs) ≡ true → Reaches u (name ∷ []) (λ v. IsOwn (out-Tree v))
  own_number name k n has numbered is = there u (name ∷ []) (λ v. IsNumber v n) (λ v. IsOwn (out-Tree v)) (needed u name (λ v. IsNumber v n) pairs has (some_number k (value_at name pairs) n is numbered)) (λ v is. inl (number_scalar v n is))

  pub own_name : (k : Key) (names : RawNames) → HasEntries (out-Tree u) pairs → NamesSay k pairs names → HasOwn names.has_name (codes "name") u
  own_name k names has says = (
    inr (section (out-Tree u) pairs has),
    λ is. there u (codes "name" ∷ []) (λ v. IsText v names.name) (λ v. IsOwn (out-Tree v))
        (needed u (codes "name") (λ v. IsText v names.name) pairs has (some_given (value_at (codes "name") pairs) (names.name ≡ names.key) (λ v. IsText v names.name) (sym says.has_name ∙ is) says.name))
        (λ v text. inl (text_scalar v names.name text)),
  )

-- ---- the ACLs that a part names

-- a tree that is a map with these names of ACLs
abbrev pub HasAcls : RawAclNames → Tree → Type 0
HasAcls acls u = (pairs : List Pair) × HasEntries (out-Tree u) pairs × AclNamesSay pairs acls

module _ (t : Tree) (conf : Configuration) (site : List (List ℕ)) (acls : RawAclNames) (r : Reaches t site (HasAcls acls)) where
  abbrev Names : Tree → List ℕ → Type 0
  Names v name = IsLabelOf (out-Tree v) name

  of_items : (items : List (List (List ℕ) × List ℕ)) → ((item : List (List ℕ) × List ℕ) → IsIn items item → Reaches t item.0 (λ v. Names v item.1)) → PathsLead t (NamesNoAcl conf) (flat_map (unknown_acl conf) items)
  of_items items h = each t (NamesNoAcl conf) (unknown_acl conf) items (λ item i. told_if t (NamesNoAcl conf) (is_none (acl_named conf.acls item.1)) Unresolved item.0 (λ is.
      there t item.0 (λ v. Names v item.1) (λ v. NamesNoAcl conf (out-Tree v)) (h item i) (λ v names. (item.1, names, nothing (acl_named conf.acls item.1) is))))

  pub acls_lead : PathsLead t (NamesNoAcl conf) (unknown_at conf site acls)
  acls_lead =
      both t (NamesNoAcl conf) (flat_map (unknown_acl conf) (one_at site acls)) (flat_map (unknown_acl conf) (list_at site acls))
      (of_items (one_at site acls) (in_option t site (codes "acl_in") Names acls.one (there t site (HasAcls acls) (HasKey (codes "acl_in") (acls.one ≡ None) (λ v. IsSomeAnd acls.one (Names v))) r (λ u h. (h.0, h.1, h.2.one)))))
      (of_items (list_at site acls) (in_some t site (codes "acls_in") Names acls.list (there t site (HasAcls acls) (HasKey (codes "acls_in") (acls.list ≡ None) (λ v. IsSomeAnd acls.list (IsList Names v))) r (λ u h. (h.0, h.1, h.2.list)))))
