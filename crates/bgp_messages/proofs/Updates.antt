-- The parts of an UPDATE, and the one answer that they have.
use Rattle.std.proofs.Common.{◌≡◌, ℕ, List, Option, Some, None, Ok, Err, refl, sym, ap, ◌∙◌, subst, inl, inr}
use Rattle.net_base.specs.declared.net4.Net4.{Net4}
use Rattle.bgp_messages.specs.declared.attribute.Attribute.{Attribute}
use Rattle.bgp_messages.specs.declared.fault.Fault.{Fault}
use Rattle.bgp_messages.specs.declared.fault.Fault.TheVariants.{MalformedAttributeList}
use Rattle.bgp_messages.specs.declared.message.Update.{Update}
use Rattle.bgp_messages.specs.Grammar.{Joined, Parsed}
use Rattle.bgp_messages.specs.Prefixes.{SpellsPrefix, SpellsPrefixes}
use Rattle.bgp_messages.specs.Paths.{SpellsPath}
use Rattle.bgp_messages.specs.Attributes.{SpellsAttribute, value_of}
use Rattle.bgp_messages.specs.Updates.{withdrawn_in, attributes_in, announced_in, Fits, SpellsAttributes, Parts, parts_fault, update_with, SpellsUpdate, UpdateFault, HasFields, Judges}
use Rattle.bgp_messages.proofs.Joining.{joined_once, parsed_once}
use Rattle.bgp_messages.proofs.PrefixLaws.{prefix_alone, prefix_bytes}
use Rattle.bgp_messages.proofs.Paths.{path_once}
use Rattle.bgp_messages.proofs.Attributes.{attribute_alone, attribute_bytes}

-- ---- reading one

pub no_fields : (body : List ℕ) → (Fits body → ⊥) → UpdateFault body MalformedAttributeList
no_fields body none = inl ((λ attributes s. none s.fits), refl)

pub no_attributes : (body withdrawn attributes announced : List ℕ) → HasFields body withdrawn attributes announced
    → ((all : List Attribute) → Joined SpellsAttribute all attributes → ⊥) → UpdateFault body MalformedAttributeList
no_attributes body withdrawn attributes announced f none =
    inl ((λ all s. none all (subst (Joined SpellsAttribute all) (sym f.attributes) s.joined)), refl)

pub parts_of : (body withdrawn attributes announced : List ℕ) → HasFields body withdrawn attributes announced
    → (all : List Attribute) → Joined SpellsAttribute all attributes
    → (gone come : Option (List Net4)) → Parsed SpellsPrefixes withdrawn gone → Parsed SpellsPrefixes announced come
    → (path : Option (List ℕ)) → Parsed SpellsPath (value_of 2 all) path → Parts body
parts_of body withdrawn attributes announced f all j gone come g c path p = record {
  attributes = all;
  withdrawn = gone;
  announced = come;
  path = path;
  spelled = record { fits = f.fits; joined = subst (Joined SpellsAttribute all) f.attributes j };
  has_withdrawn = subst (λ l. Parsed SpellsPrefixes l gone) f.withdrawn g;
  has_announced = subst (λ l. Parsed SpellsPrefixes l come) f.announced c;
  has_path = p;
}

pub right : (body withdrawn attributes announced : List ℕ) → HasFields body withdrawn attributes announced
    → (all : List Attribute) → Joined SpellsAttribute all attributes
    → (gone come : Option (List Net4)) → Parsed SpellsPrefixes withdrawn gone → Parsed SpellsPrefixes announced come
    → (path : Option (List ℕ)) → Parsed SpellsPath (value_of 2 all) path
    → (update : Update) → Judges all gone come path (Ok update) → SpellsUpdate update body
unfolding parts_of
right body withdrawn attributes announced f all j gone come g c path p update judged =
    record { parts = parts_of body withdrawn attributes announced f all j gone come g c path p; sound = judged.0; value = judged.1 }

pub wrong : (body withdrawn attributes announced : List ℕ) → HasFields body withdrawn attributes announced
    → (all : List Attribute) → Joined SpellsAttribute all attributes
    → (gone come : Option (List Net4)) → Parsed SpellsPrefixes withdrawn gone → Parsed SpellsPrefixes announced come
    → (path : Option (List ℕ)) → Parsed SpellsPath (value_of 2 all) path
    → (fault : Fault) → Judges all gone come path (Err fault) → UpdateFault body fault
unfolding parts_of
wrong body withdrawn attributes announced f all j gone come g c path p fault judged =
    inr (record { parts = parts_of body withdrawn attributes announced f all j gone come g c path p; is = judged })

-- ---- one answer

attributes_once : (body : List ℕ) (a b : List Attribute) → SpellsAttributes a body → SpellsAttributes b body → a ≡ b
attributes_once body a b p q = joined_once SpellsAttribute attribute_alone attribute_bytes a b (attributes_in body) p.joined q.joined

prefixes_once : (bytes : List ℕ) (a b : List Net4) → SpellsPrefixes a bytes → SpellsPrefixes b bytes → a ≡ b
prefixes_once bytes a b p q = joined_once SpellsPrefix prefix_alone prefix_bytes a b bytes p q

-- two splits of one body have the same parts
record Same (body : List ℕ) (a b : Parts body) : Type 0 where
  pub attributes : a.attributes ≡ b.attributes
  pub withdrawn : a.withdrawn ≡ b.withdrawn
  pub announced : a.announced ≡ b.announced
  pub path : a.path ≡ b.path

parts_once : (body : List ℕ) (a b : Parts body) → Same body a b
parts_once body a b =
    let attributes = attributes_once body a.attributes b.attributes a.spelled b.spelled in
    record {
      attributes = attributes;
      withdrawn = parsed_once SpellsPrefixes (withdrawn_in body) (prefixes_once (withdrawn_in body)) a.withdrawn b.withdrawn a.has_withdrawn b.has_withdrawn;
      announced = parsed_once SpellsPrefixes (announced_in body) (prefixes_once (announced_in body)) a.announced b.announced a.has_announced b.has_announced;
      path = parsed_once SpellsPath (value_of 2 a.attributes) (path_once (value_of 2 a.attributes)) a.path b.path a.has_path
          (subst (λ l. Parsed SpellsPath (value_of 2 l) b.path) (sym attributes) b.has_path);
    }

-- what is made of the parts is the same
along : {X : Type 0} (make : List Attribute → Option (List Net4) → Option (List Net4) → Option (List ℕ) → X) (body : List ℕ) (a b : Parts body)
    → make a.attributes a.withdrawn a.announced a.path ≡ make b.attributes b.withdrawn b.announced b.path
along make body a b =
    let s = parts_once body a b in
    ap (λ l. make l a.withdrawn a.announced a.path) s.attributes ∙ ap (λ o. make b.attributes o a.announced a.path) s.withdrawn
    ∙ ap (λ o. make b.attributes b.withdrawn o a.path) s.announced ∙ ap (λ o. make b.attributes b.withdrawn b.announced o) s.path

pub update_never_both : (u : Update) (body : List ℕ) (fault : Fault) → SpellsUpdate u body → UpdateFault body fault → ⊥
update_never_both u body fault s (inl none) = none.0 s.parts.attributes s.parts.spelled
update_never_both u body fault s (inr f) =
    let both : ◌≡◌ {A = Option Fault} None (Some fault) = sym s.sound ∙ along parts_fault body s.parts f.parts ∙ f.is in
    cc

pub update_once : (u v : Update) (body : List ℕ) → SpellsUpdate u body → SpellsUpdate v body → u ≡ v
update_once u v body s t = s.value ∙ along update_with body s.parts t.parts ∙ sym t.value

pub update_one_fault : (body : List ℕ) (a b : Fault) → UpdateFault body a → UpdateFault body b → a ≡ b
update_one_fault body a b (inl f) (inl g) = f.1 ∙ sym g.1
update_one_fault body a b (inl f) (inr g) = absurd (f.0 g.parts.attributes g.parts.spelled)
update_one_fault body a b (inr f) (inl g) = absurd (g.0 f.parts.attributes f.parts.spelled)
update_one_fault body a b (inr f) (inr g) =
    let both : Some a ≡ Some b = sym f.is ∙ along parts_fault body f.parts g.parts ∙ g.is in
    cc
