use Rattle.std.proofs.Common.{rules, ◌≡◌, List, [], ◌∷◌, None, ◌∙◌, false, ap, sym, subst}
use Rattle.std.specs.Ordering.{is_eq}
use Rattle.std.specs.Cmp.{Equal-is}
use Rattle.std.specs.declared.cmp.Ordering.TheVariants.{Equal}
use Rattle.of_match.specs.declared.entry.Entry.{Entry}
use Rattle.of_match.specs.declared.entry.Key.{Key}
use Rattle.of_match.specs.FlowTables.{IsInKeyOrder, entry_at, below, above}
use Rattle.of_match.specs.KeyOrder.{key_cmp}
use Rattle.plan_difference.proofs.Split.{above_found, not_found, above_not_found}
use Rattle.plan_difference.proofs.rest.Rest.next_at.Goals as goal
use Rattle.plan_difference.proofs.rest.Rest.next_at.Goals.{in_default-via-in-Some+else-eq, in_default-via-in_default}

pub returns-in-Some-clause-left : goal.returns-in-Some-clause-left
returns-in-Some-clause-left c =
    let k = c.args.key.now in
    let f = c.in-Some.first.now in
    let is : c.args.self.now ≡ f ∷ c.self.inside.others = search rules in
    let same : key_cmp f.key k ≡ Equal = (Equal-is (key_cmp f.key k)).0 (search rules) in
    let left : c.next.new.self ≡ c.self.inside.others = search rules in
    left ∙ sym (ap (above k) is ∙ above_found k f c.self.inside.others (subst IsInKeyOrder is c.requires.ordered) (subst (λ es. below k es ≡ []) is c.requires.begins) same)

-- no entry is of the key, where the first one isn't and none stands below it
other_first : (k : Key) (f : Entry) (others es : List Entry) → es ≡ f ∷ others → IsInKeyOrder es → below k es ≡ [] → is_eq (key_cmp f.key k) ≡ false → (entry_at es k ≡ None) × (above k es ≡ es)
other_first k f others es is ordered begins other = (
  ap (λ es. entry_at es k) is ∙ not_found k f others (subst IsInKeyOrder is ordered) (subst (λ es. below k es ≡ []) is begins) other,
  ap (above k) is ∙ above_not_found k f others (subst IsInKeyOrder is ordered) (subst (λ es. below k es ≡ []) is begins) other ∙ sym is,
)

pub returns-in_default-clause-found : goal.returns-in_default-clause-found
returns-in_default-clause-found c =
    let k = c.args.key.now in
    elim c.in_default.branch [
      | in_default-via-in-Some+else-eq w ↦ sym (other_first k w.in-Some.first.now c.self.inside.others c.args.self.now (search rules) c.requires.ordered c.requires.begins (search rules)).0
      | in_default-via-in_default w ↦
          let is : c.args.self.now ≡ [] = search rules in
          sym (ap (λ es. entry_at es k) is)
    ]

pub returns-in_default-clause-left : goal.returns-in_default-clause-left
returns-in_default-clause-left c =
    let k = c.args.key.now in
    elim c.in_default.branch [
      | in_default-via-in-Some+else-eq w ↦ sym (other_first k w.in-Some.first.now c.self.inside.others c.args.self.now (search rules) c.requires.ordered c.requires.begins (search rules)).1
      | in_default-via-in_default w ↦
          let is : c.args.self.now ≡ [] = search rules in
          is ∙ sym (ap (above k) is)
    ]
