-- Whether two flow entries are one, part by part.
use Rattle.std.specs.Prelude.{◌≡◌, ◌==◌, ◌&&◌, Bool, true, false, List}
use Rattle.std.specs.Bool.{Decides}
use Rattle.std.specs.Ordering.{eq_by_cmp}
use Rattle.std.specs.Cmp.{IsEquivalence, IsPartialEquivalence, partial_equiv_from_equiv, decided, Equal-is}
use Rattle.std.specs.Cmp.Lexicographic.{pointwise}
use Rattle.std.proofs.Common.{refl, ap, sym, subst, true≢false, eqb-true, eq-eqb}
use Rattle.std.proofs.lemmas.Bool.Decides.{Decides-and, Decides-eqb}
use Rattle.std.proofs.lemmas.Slice.Eq.{slice_eq-Decides}
use Rattle.net_base.specs.declared.field.Field.{Field}
use Rattle.net_base.specs.FieldId.{number_of}
use Rattle.net_base.proofs.Rows.{same_field}
use Rattle.of_match.specs.declared.action.Action.{Action}
use Rattle.of_match.specs.declared.action.Action.TheVariants.{Output, PushVlan, PopVlan, DecTtl, Set}
use Rattle.of_match.specs.declared.action.Instr.{Instr}
use Rattle.of_match.specs.declared.action.Instr.TheVariants.{Goto, Apply}
use Rattle.of_match.specs.declared.entry.Key.{Key}
use Rattle.of_match.specs.declared.entry.Entry.{Entry}
use Rattle.of_match.specs.KeyOrder.{key_cmp}
use Rattle.of_match.specs.KeyLaws.{exact_keys, key_equivalence}

abbrev pub field_same : Field → Field → Bool
field_same f g = (number_of f.id == number_of g.id) && (f.value == g.value && f.mask == g.mask)

abbrev pub action_same : Action → Action → Bool
action_same (Output port max_len) (Output to most) = port == to && max_len == most
action_same (PushVlan eth_type) (PushVlan other) = eth_type == other
action_same PopVlan PopVlan = true
action_same DecTtl DecTtl = true
action_same (Set f) (Set g) = field_same f g
action_same a b = false

abbrev pub instr_same : Instr → Instr → Bool
instr_same (Goto table) (Goto other) = table == other
instr_same (Apply actions) (Apply others) = pointwise action_same actions others
instr_same i j = false

abbrev pub entry_same : Entry → Entry → Bool
entry_same e f = eq_by_cmp key_cmp e.key f.key && pointwise instr_same e.instrs f.instrs

-- ---- these tell what is equal

pub field_exact : (f g : Field) → Decides (field_same f g) (f ≡ g)
field_exact f g =
    let d = Decides-and _ _ (Decides-eqb (number_of f.id) (number_of g.id)) (Decides-and _ _ (Decides-eqb f.value g.value) (Decides-eqb f.mask g.mask)) in (
      λ t. (let e = d.0 t in λ i. record { id = same_field f.id g.id e.0 i; value = e.1.0 i; mask = e.1.1 i }),
      λ e. d.1 (ap (λ (h : Field). number_of h.id) e, (ap (λ (h : Field). h.value) e, ap (λ (h : Field). h.mask) e)),
    )

-- a test that tells only what is equal, and tells each of itself
exact : {X : Type 0} (same : X → X → Bool) → ((a b : X) → same a b ≡ true → a ≡ b) → ((a : X) → same a a ≡ true) → (a b : X) → Decides (same a b) (a ≡ b)
exact same told itself a b = (told a b, λ e. subst (λ c. same a c ≡ true) e (itself a))

pub action_exact : (a b : Action) → Decides (action_same a b) (a ≡ b)
action_exact = exact action_same told itself
  where
    told : (a b : Action) → action_same a b ≡ true → a ≡ b
    told (Output port max_len) (Output to most) t =
        let e = (Decides-and _ _ (Decides-eqb port to) (Decides-eqb max_len most)).0 t in λ i. Output (e.0 i) (e.1 i)
    told (PushVlan eth_type) (PushVlan other) t = ap PushVlan (eqb-true eth_type other t)
    told PopVlan PopVlan t = refl
    told DecTtl DecTtl t = refl
    told (Set f) (Set g) t = ap Set ((field_exact f g).0 t)
    told a b t = absurd (true≢false (sym t))

    itself : (a : Action) → action_same a a ≡ true
    itself (Output port max_len) = (Decides-and _ _ (Decides-eqb port port) (Decides-eqb max_len max_len)).1 (refl, refl)
    itself (PushVlan eth_type) = eq-eqb eth_type eth_type refl
    itself PopVlan = refl
    itself DecTtl = refl
    itself (Set f) = (field_exact f f).1 refl

actions_exact : (xs ys : List Action) → Decides (pointwise action_same xs ys) (xs ≡ ys)
actions_exact xs ys = slice_eq-Decides action_exact xs ys _ refl

pub instr_exact : (i j : Instr) → Decides (instr_same i j) (i ≡ j)
instr_exact = exact instr_same told itself
  where
    told : (i j : Instr) → instr_same i j ≡ true → i ≡ j
    told (Goto table) (Goto other) t = ap Goto (eqb-true table other t)
    told (Apply actions) (Apply others) t = ap Apply ((actions_exact actions others).0 t)
    told i j t = absurd (true≢false (sym t))

    itself : (i : Instr) → instr_same i i ≡ true
    itself (Goto table) = eq-eqb table table refl
    itself (Apply actions) = (actions_exact actions actions).1 refl

key_exact : (a b : Key) → Decides (eq_by_cmp key_cmp a b) (a ≡ b)
key_exact = exact (eq_by_cmp key_cmp) (λ a b t. exact_keys a b ((Equal-is (key_cmp a b)).0 t)) key_equivalence.refl

pub entry_exact : (e f : Entry) → Decides (entry_same e f) (e ≡ f)
entry_exact e f =
    let d = Decides-and _ _ (key_exact e.key f.key) (slice_eq-Decides instr_exact e.instrs f.instrs _ refl) in (
      λ t. (let s = d.0 t in λ i. record { key = s.0 i; instrs = s.1 i }),
      λ s. d.1 (ap (λ (x : Entry). x.key) s, ap (λ (x : Entry). x.instrs) s),
    )

-- ---- so they are equivalences

pub action_equivalence : IsEquivalence action_same
action_equivalence = decided action_same action_exact

pub instr_equivalence : IsEquivalence instr_same
instr_equivalence = decided instr_same instr_exact

pub entry_equivalence : IsEquivalence entry_same
entry_equivalence = decided entry_same entry_exact

pub action_partial_equivalence : IsPartialEquivalence action_same
action_partial_equivalence = partial_equiv_from_equiv action_equivalence

pub instr_partial_equivalence : IsPartialEquivalence instr_same
instr_partial_equivalence = partial_equiv_from_equiv instr_equivalence

pub entry_partial_equivalence : IsPartialEquivalence entry_same
entry_partial_equivalence = partial_equiv_from_equiv entry_equivalence
