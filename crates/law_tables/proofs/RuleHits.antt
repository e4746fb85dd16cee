-- When the entries of rules hit: where the packet comes by the port or has the tag of the VLAN, just where
-- the rules do; and elsewhere never.
use Rattle.std.proofs.Common.{◌≡◌, ℕ, ◌+◌, ◌-◌, ◌^◌, ◌<◌, ◌==◌, ◌&&◌, ◌||◌, not, Bool, true, false, cond, List, [], ◌∷◌, filter, Option, Some, None, refl, sym, ap, ◌∙◌, subst, arith, true≢false, eqb-true, eq-eqb, if◌then◌else◌, inl, inr, ne_eqb}
use Rattle.std.specs.Prelude.{nat_lt, bit_and}
use Rattle.std.specs.List.{AllByRecursion, list_any}
use Rattle.std.proofs.lemmas.Bool.{or_cases, ltb-true, ltb-false}
use Rattle.std.proofs.lemmas.Option.{same_Some, none-some}
use Rattle.std.proofs.lemmas.List.Folds.{list_all-append}
use Rattle.net_base.specs.declared.field.Field.{Field}
use Rattle.net_base.specs.declared.field.FieldId.{FieldId}
use Rattle.net_base.specs.declared.field.FieldId.TheVariants.{InPort, VlanVid}
use Rattle.net_base.specs.FieldId.{number_of, all_ones}
use Rattle.net_base.specs.Numbers.{IsVid}
use Rattle.net_base.proofs.Rows.{same_field}
use Rattle.of_match.specs.declared.packet.Packet.{Packet}
use Rattle.of_match.specs.Hit.{hits, agrees, value_of, vid_value}
use Rattle.conf_types.specs.RuleFields.{MayAsk, IsNumber}
use Rattle.plan_base.specs.Fields.{in_port, vid_field}
use Rattle.acl_compile.specs.declared.place.Place.{Place}
use Rattle.acl_compile.specs.declared.place.Place.TheVariants.{AtPort, AtVlan}
use Rattle.acl_compile.specs.Places.{field_at}
use Rattle.acl_compile.specs.Rows.{asks_for_another, with_vid, rule_fields}
use Rattle.law_runs.specs.Tests.{agrees_exact, in_all_bits}
use Rattle.law_tables.proofs.AclCounts.{and_false}

-- a field with the number of the VLAN's is one, and asks for a whole number
record AsksVid (id : FieldId) (f : Field) : Type 0 where
  is : id ≡ VlanVid
  asked : IsNumber (0x1000 + 1) (0x1000 + 4094) f

asks_vid : (id : FieldId) (f : Field) → MayAsk id f → number_of id ≡ 6 → AsksVid id f
asks_vid id f may e = let is = same_field id VlanVid e in record { is = is; asked = subst (λ other. MayAsk other f) is may }

-- the fields of a rule
abbrev pub AreAsked : List Field → Type 0
AreAsked fields = AllByRecursion (λ f. MayAsk f.id f) fields

and_moved : (x a y : Bool) → (x && (a && y)) ≡ (a && (x && y))
and_moved true a y = refl
and_moved false true y = refl
and_moved false false y = refl

neither : (a b : Bool) → (a || b) ≡ false → (a ≡ false) × (b ≡ false)
neither true b is = absurd (true≢false is)
neither false b is = (refl, is)

and_grouped : (a x y : Bool) → ((a && x) && y) ≡ (a && (x && y))
and_grouped true x y = refl
and_grouped false x y = refl

-- ---- at a VLAN

-- the fields below the VLAN's by number, and those above it
abbrev lower : List Field → List Field
lower fields = filter (λ f. nat_lt (number_of f.id) (number_of VlanVid)) fields

abbrev upper : List Field → List Field
upper fields = filter (λ f. nat_lt (number_of VlanVid) (number_of f.id)) fields

module _ (vid port : ℕ) (p : Packet) (is_vid : IsVid vid) (tagged : vid_value p.tags ≡ 0x1000 + vid) where
  vid_agrees : agrees (vid_field vid) (value_of VlanVid port p) ≡ true
  vid_agrees =
      ap (λ n. agrees (vid_field vid) (Some n)) tagged ∙ agrees_exact VlanVid (0x1000 + vid) (0x1000 + vid) (omega (arith, is_vid.most)) (omega (arith, is_vid.most))
      ∙ eq-eqb (0x1000 + vid) (0x1000 + vid) refl

  -- a rule's own field of the VLAN
  asked_agrees : (f : Field) → MayAsk f.id f → number_of f.id ≡ 6 → agrees f (value_of f.id port p) ≡ (0x1000 + vid == f.value)
  asked_agrees f may e =
      let a = asks_vid f.id f may e in
      let whole : f.mask ≡ 2 ^ 16 - 1 = a.asked.whole ∙ ap all_ones a.is in
      ap (λ id. agrees f (value_of id port p)) a.is ∙ ap (λ n. agrees f (Some n)) tagged
      ∙ ap (λ m. bit_and (0x1000 + vid) m == bit_and f.value m) whole
      ∙ in_all_bits 16 (0x1000 + vid) f.value (omega (arith, is_vid.most)) (omega (arith, a.asked.to))

  -- one that asks for another VLAN hits nothing here
  another : (fields : List Field) → AreAsked fields → list_any (asks_for_another vid) fields ≡ true → hits fields port p ≡ false
  another [] all any = absurd (true≢false (sym any))
  another (f ∷ fields) all any = elim (or_cases (asks_for_another vid f) (list_any (asks_for_another vid) fields) any) [
    | inl this ↦ ap (λ b. b && hits fields port p) (by (number_of f.id == 6) (f.value == 0x1000 + vid) refl refl this)
    | inr more ↦ ap (λ b. agrees f (value_of f.id port p) && b) (another fields all.1 more) ∙ and_false (agrees f (value_of f.id port p))
  ]
    where
      by : (a b : Bool) → (number_of f.id == 6) ≡ a → (f.value == 0x1000 + vid) ≡ b → (a && not b) ≡ true → agrees f (value_of f.id port p) ≡ false
      by true true ea eb is = absurd (true≢false (sym is))
      by true false ea eb is = asked_agrees f all.0 (eqb-true (number_of f.id) 6 ea) ∙ ne_eqb (0x1000 + vid) f.value (λ e. true≢false (sym (eq-eqb f.value (0x1000 + vid) (sym e)) ∙ eb))
      by false b ea eb is = absurd (true≢false (sym is))

  -- the others are what is left to ask
  others : (fields : List Field) → AreAsked fields → list_any (asks_for_another vid) fields ≡ false → (hits (lower fields) port p && hits (upper fields) port p) ≡ hits fields port p
  others [] all none = refl
  others (f ∷ fields) all none = by (nat_lt (number_of f.id) 6) (nat_lt 6 (number_of f.id)) refl refl (others fields all.1 (neither (asks_for_another vid f) (list_any (asks_for_another vid) fields) none).1)
    where
      here : number_of f.id ≡ 6 → (b : Bool) → (f.value == 0x1000 + vid) ≡ b → not b ≡ false → agrees f (value_of f.id port p) ≡ true
      here e true is asks = asked_agrees f all.0 e ∙ eq-eqb (0x1000 + vid) f.value (sym (eqb-true f.value (0x1000 + vid) is))
      here e false is asks = absurd (true≢false asks)

      asks_here : number_of f.id ≡ 6 → not (f.value == 0x1000 + vid) ≡ false
      asks_here e = ap (λ b. b && not (f.value == 0x1000 + vid)) (sym (eq-eqb (number_of f.id) 6 e)) ∙ (neither (asks_for_another vid f) (list_any (asks_for_another vid) fields) none).0

      by : (b c : Bool) → nat_lt (number_of f.id) 6 ≡ b → nat_lt 6 (number_of f.id) ≡ c → (hits (lower fields) port p && hits (upper fields) port p) ≡ hits fields port p
          → (hits (cond b (f ∷ lower fields) (lower fields)) port p && hits (cond c (f ∷ upper fields) (upper fields)) port p) ≡ (agrees f (value_of f.id port p) && hits fields port p)
      by true true eb ec more = absurd (let x = ltb-true (number_of f.id) 6 eb in let y = ltb-true 6 (number_of f.id) ec in omega (arith, x, y))
      by true false eb ec more = and_grouped (agrees f (value_of f.id port p)) (hits (lower fields) port p) (hits (upper fields) port p) ∙ ap (λ b. agrees f (value_of f.id port p) && b) more
      by false true eb ec more = and_moved (hits (lower fields) port p) (agrees f (value_of f.id port p)) (hits (upper fields) port p) ∙ ap (λ b. agrees f (value_of f.id port p) && b) more
      by false false eb ec more =
          let x = ltb-false (number_of f.id) 6 eb in
          let y = ltb-false 6 (number_of f.id) ec in
          let e : number_of f.id ≡ 6 = omega (arith, x, y) in
          more ∙ ap (λ b. b && hits fields port p) (sym (here e (f.value == 0x1000 + vid) refl (asks_here e)))

  with_vid_hits : (fields : List Field) → AreAsked fields → list_any (asks_for_another vid) fields ≡ false → hits (with_vid vid fields) port p ≡ hits fields port p
  with_vid_hits fields all none =
      list_all-append (λ f. agrees f (value_of f.id port p)) (lower fields) (vid_field vid ∷ upper fields)
      ∙ ap (λ b. hits (lower fields) port p && (b && hits (upper fields) port p)) vid_agrees ∙ others fields all none

-- ---- at a place

-- a packet that comes to the ACLs of a place
abbrev pub Comes : Place → ℕ → Packet → Type 0
Comes (AtPort number) port p = (port < 2 ^ 32) × (port ≡ number)
Comes (AtVlan vid) port p = IsVid vid × (vid_value p.tags ≡ 0x1000 + vid)

pub comes_agrees : (at : Place) (port : ℕ) (p : Packet) → Comes at port p → agrees (field_at at) (value_of (field_at at).id port p) ≡ true
comes_agrees (AtPort number) port p comes = subst (λ n. agrees (in_port n) (Some port) ≡ true) comes.1 (agrees_exact InPort port port comes.0 comes.0 ∙ eq-eqb port port refl)
comes_agrees (AtVlan vid) port p comes = vid_agrees vid port p comes.0 comes.1

abbrev pub HitsAs : Option (List Field) → ℕ → Packet → Bool → Type 0
HitsAs None port p b = b ≡ false
HitsAs (Some fields) port p b = hits fields port p ≡ b

-- there the entry of a rule hits just where the rule does; one without an entry hits nothing
pub hits_there : (at : Place) (port : ℕ) (p : Packet) → Comes at port p → (fields : List Field) → AreAsked fields → HitsAs (rule_fields at fields) port p (hits fields port p)
hits_there (AtPort number) port p comes fields all = ap (λ b. b && hits fields port p) (comes_agrees (AtPort number) port p comes)
hits_there (AtVlan vid) port p comes fields all = by (list_any (asks_for_another vid) fields) refl
  where
    by : (b : Bool) → list_any (asks_for_another vid) fields ≡ b → HitsAs (if b then None else Some (with_vid vid fields)) port p (hits fields port p)
    by true is = another vid port p comes.0 comes.1 fields all is
    by false is = with_vid_hits vid port p comes.0 comes.1 fields all is

-- and elsewhere no entry does
pub hits_not : (at : Place) (port : ℕ) (p : Packet) → agrees (field_at at) (value_of (field_at at).id port p) ≡ false → (fields asked : List Field) → rule_fields at fields ≡ Some asked → hits asked port p ≡ false
hits_not (AtPort number) port p apart fields asked is =
    subst (λ l. hits l port p ≡ false) (same_Some (in_port number ∷ fields) asked is) (ap (λ b. b && hits fields port p) apart)
hits_not (AtVlan vid) port p apart fields asked is = by (list_any (asks_for_another vid) fields) is
  where
    by : (b : Bool) → (if b then None else Some (with_vid vid fields)) ≡ Some asked → hits asked port p ≡ false
    by true e = absurd (none-some asked e)
    by false e = subst (λ l. hits l port p ≡ false) (same_Some (with_vid vid fields) asked e)
        (list_all-append (λ f. agrees f (value_of f.id port p)) (lower fields) (vid_field vid ∷ upper fields)
        ∙ ap (λ b. hits (lower fields) port p && (b && hits (upper fields) port p)) apart ∙ and_false (hits (lower fields) port p))
