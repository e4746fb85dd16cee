-- The match keys of a rule, each where it is written.
use Rattle.std.specs.Prelude.{◌≡◌, ℕ, Bool, true, false, if◌then◌else◌, List, [], ◌∷◌, Option, None, Some, MatchOption, ◌⊎◌}
use Rattle.std.proofs.Common.{inl, inr, refl, ap, subst}
use Rattle.std.proofs.lemmas.Option.{none-some, same_Some}
use Rattle.net_base.specs.declared.field.Field.{Field}
use Rattle.net_base.specs.declared.field.FieldId.{FieldId}
use Rattle.yaml_tree.specs.declared.tree.Pair.{Pair}
use Rattle.yaml_tree.specs.declared.tree.Tree.{Tree, out-Tree}
use Rattle.conf_shape.specs.declared.kinds.MapKind.TheVariants.{Rule}
use Rattle.conf_shape.specs.declared.kinds.Scalar.{Scalar}
use Rattle.conf_shape.specs.declared.kinds.Scalar.TheVariants.{MaskedMac, Prefix, Address}
use Rattle.conf_shape.specs.declared.raw.RawField.{RawField}
use Rattle.conf_shape.specs.Keys.{keys_of}
use Rattle.conf_shape.specs.Sections.{key_text, spells}
use Rattle.conf_shape.specs.Scalars.{asked_scalar}
use Rattle.conf_shape.specs.Values.{spelled_at, raw_field_or, ahead}
use Rattle.law_checks.specs.Fields.{Asks, AsksBy, AsksMac, AsksMaskedMac, AsksAddress, AsksPrefix, FieldSays, FieldsSay}
use Rattle.law_checks.proofs.Members.{IsIn}
use Rattle.law_documents.specs.Forms.{IsScalar}
use Rattle.law_documents.specs.Leads.{IsEntry}
use Rattle.law_documents.proofs.Leads.{not_empty}
use Rattle.law_documents.proofs.Own.{number_scalar, text_scalar}

-- ---- what asks for a field is a text or a number

mac_scalar : (id : FieldId) (t : Tree) (asked : Option Field) → AsksMac id t asked ⊎ AsksMaskedMac id t asked → IsScalar (out-Tree t)
mac_scalar id t asked (inl a) = text_scalar t a.text a.is
mac_scalar id t asked (inr a) = text_scalar t _ a.is

ip_scalar : (width : ℕ) (id : FieldId) (t : Tree) (asked : Option Field) → AsksAddress width id t asked ⊎ AsksPrefix width id t asked → IsScalar (out-Tree t)
ip_scalar width id t asked (inl a) = text_scalar t _ a.is
ip_scalar width id t asked (inr a) = text_scalar t _ a.is

asks_by_scalar : (s : Scalar) (id : FieldId) (t : Tree) (asked : Option Field) → AsksBy s id t asked → IsScalar (out-Tree t)
asks_by_scalar MaskedMac id t asked a = mac_scalar id t asked a
asks_by_scalar (Prefix width) id t asked a = ip_scalar width id t asked a
asks_by_scalar (Address width) id t asked a = text_scalar t _ a.is
asks_by_scalar s id t asked a = number_scalar t a.0 a.1

asks_scalar : (id : FieldId) (t : Tree) (asked : Option Field) → Asks id t asked → IsScalar (out-Tree t)
asks_scalar id t asked a = asks_by_scalar (asked_scalar id) id t asked a

-- ---- keys in any spelling

spelled_entry : (spellings : List (List ℕ × List ℕ)) (name : List ℕ) (pairs : List Pair) (p : Pair) → spelled_at spellings name pairs ≡ Some p → IsEntry pairs (key_text p.key) p.value
spelled_entry spellings name [] p is = absurd (none-some p is)
spelled_entry spellings name (q ∷ qs) p is = by (spells spellings name q.key) is (spelled_entry spellings name qs p)
  where
    by : (b : Bool) → (if b then Some q else spelled_at spellings name qs) ≡ Some p → (spelled_at spellings name qs ≡ Some p → IsEntry qs (key_text p.key) p.value) → IsEntry (q ∷ qs) (key_text p.key) p.value
    by true e more = let same = same_Some q p e in inl (ap (λ (p : Pair). key_text p.key) same, ap (λ (p : Pair). p.value) same)
    by false e more = inr (more e)

of_ahead : (key : List ℕ) (asked : Option Field) (rest : List RawField) (f : RawField) → IsIn (ahead (raw_field_or key asked) rest) f → (key ≡ f.key) ⊎ IsIn rest f
of_ahead key None rest f i = inr i
of_ahead key (Some field) rest f (inl e) = inl (ap (λ (f : RawField). f.key) e)
of_ahead key (Some field) rest f (inr i) = inr i

-- a match key is written in the rule, with a text or a number
abbrev pub IsField : List Pair → RawField → Type 0
IsField pairs f = (v : Tree) × IsEntry pairs f.key v × IsScalar (out-Tree v)

pub field_written : (keys : List (List ℕ × FieldId)) (pairs : List Pair) (fields : List RawField) → FieldsSay keys pairs fields → (f : RawField) → IsIn fields f → IsField pairs f
field_written [] pairs fields says f i = absurd (not_empty fields f i says)
field_written (k ∷ ks) pairs fields says f i = by (spelled_at (keys_of Rule).spellings k.0 pairs) refl says (λ rest others j. field_written ks pairs rest others f j)
  where
    here : (p : Pair) → spelled_at (keys_of Rule).spellings k.0 pairs ≡ Some p → (asked : Option Field) → Asks k.1 p.value asked → (rest : List RawField) → (IsIn rest f → IsField pairs f) → (key_text p.key ≡ f.key) ⊎ IsIn rest f → IsField pairs f
    here p is asked asks rest more (inl e) = (p.value, subst (λ s. IsEntry pairs s p.value) e (spelled_entry (keys_of Rule).spellings k.0 pairs p is), asks_scalar k.1 p.value asked asks)
    here p is asked asks rest more (inr j) = more j

    by : (o : Option Pair) → spelled_at (keys_of Rule).spellings k.0 pairs ≡ o → MatchOption o (FieldsSay ks pairs fields) (λ p. FieldSays k.1 p (FieldsSay ks pairs) fields)
        → ((rest : List RawField) → FieldsSay ks pairs rest → IsIn rest f → IsField pairs f) → IsField pairs f
    by None is m more = more fields m i
    by (Some p) is m more = here p is m.0 m.1 m.2 (more m.2 m.4) (of_ahead (key_text p.key) m.0 m.2 f (subst (λ fs. IsIn fs f) m.3 i))
