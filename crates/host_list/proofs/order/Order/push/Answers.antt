use Rattle.std.proofs.Common.{◌≡◌, ◌<◌, ◌++◌, ◌∷◌, [], List, length, refl, sym, ap, ◌∙◌, subst, arith, ◌^◌, if◌then◌else◌}
use Rattle.std.specs.BTreeMap.{is_at}
use Rattle.std.specs.List.{AllByRecursion}
use Rattle.std.specs.Map.{lookup, remove_entry}
use Rattle.std.specs.Option.{unwrap_or}
use Rattle.std.specs.Ordering.{nat_cmp}
use Rattle.host_list.specs.declared.addresses.Address.{Address}
use Rattle.host_list.specs.declared.counts.Spot.{Spot}
use Rattle.host_list.specs.Addresses.{Entry, entries_at, is_address}
use Rattle.host_list.specs.Counts.{at_spot, is_spot}
use Rattle.host_list.specs.Order.{IsIndexed}
use Rattle.host_list.proofs.Entries.{pushed, taken, undone}
use Rattle.host_list.proofs.Indexed.{few, same, same_noted, with_one}
use Rattle.host_list.proofs.Lists.{before_push}
use Rattle.host_list.proofs.order.Order.push.Goals as goal

pub invariant_of-self-in_err-insert : goal.invariant_of-self-in_err-insert
invariant_of-self-in_err-insert c =
    let o = c.self.inside in
    let host = c.args.host.now in
    let spots : (q : Spot) → at_spot c.reserve.new.self q ≡ at_spot o.counts q = λ q. ap (λ es. unwrap_or (lookup (is_spot q) es) 0) c.reserve.ensures.entries in
    let kept = same_noted o.next o.hosts.entries o.addresses o.counts o.shelves.items c.self.invariant host.dp host.learned o.addresses c.reserve.new.self (λ q. refl) spots in
    subst (λ es. IsIndexed o.next es o.addresses c.reserve.new.self c.note.new.shelves.items) (sym c.in_err-insert.ensures.err)
    (subst (λ s. IsIndexed o.next o.hosts.entries o.addresses c.reserve.new.self s) (sym c.in_ok-note.ensures.ok) kept)

pub invariant_of-self-in-Err : goal.invariant_of-self-in-Err
invariant_of-self-in-Err c =
    let o = c.self.inside in
    let n = o.next in
    let es = o.hosts.entries in
    let host = c.args.host.now in
    let spots : (q : Spot) → at_spot c.reserve.new.self q ≡ at_spot o.counts q = λ q. ap (λ es. unwrap_or (lookup (is_spot q) es) 0) c.reserve.ensures.entries in
    let kept = same_noted n es o.addresses o.counts o.shelves.items c.self.invariant host.dp host.learned c.put.new.addresses c.reserve.new.self c.in-Err.ensures.err spots in
    let all = c.in_ok-insert.ensures.entries ∙ pushed n es host c.self.invariant.below in
    let rising = before_push (λ (e : Entry) (f : Entry). e.0 < f.0) es (n, host) c.self.invariant.rising c.self.invariant.below in
    let back = c.remove.ensures.entries ∙ ap (remove_entry (is_at (nat_cmp n))) all ∙ taken n (es ++ (n, host) ∷ []) rising ∙ undone n es host c.self.invariant.below in
    subst (λ es. IsIndexed n es c.put.new.addresses c.reserve.new.self c.note.new.shelves.items) (sym back)
    (subst (λ s. IsIndexed n es c.put.new.addresses c.reserve.new.self s) (sym c.in_ok-note.ensures.ok) kept)

pub returns-in-Err-clause-err : goal.returns-in-Err-clause-err
returns-in-Err-clause-err c =
    let o = c.self.inside in
    let n = o.next in
    let es = o.hosts.entries in
    let host = c.args.host.now in
    let all = c.in_ok-insert.ensures.entries ∙ pushed n es host c.self.invariant.below in
    let rising = before_push (λ (e : Entry) (f : Entry). e.0 < f.0) es (n, host) c.self.invariant.rising c.self.invariant.below in
    c.remove.ensures.entries ∙ ap (remove_entry (is_at (nat_cmp n))) all ∙ taken n (es ++ (n, host) ∷ []) rising ∙ undone n es host c.self.invariant.below ∙ c.self.view_is

pub count_in-requires-clause-small : goal.count_in-requires-clause-small
count_in-requires-clause-small c = λ q.
    let o = c.self.inside in
    let spots : at_spot c.reserve.new.self q ≡ at_spot o.counts q = ap (λ es. unwrap_or (lookup (is_spot q) es) 0) c.reserve.ensures.entries in
    let short : length o.hosts.entries < 2 ^ 32 = subst (λ (es : List Entry). length es < 2 ^ 32) (sym c.self.view_is) c.requires in
    let small = few o.next o.hosts.entries o.addresses o.counts o.shelves.items c.self.invariant short q in
    omega (arith, spots, small)

pub invariant_of-self-2 : goal.invariant_of-self-2
invariant_of-self-2 c =
    let o = c.self.inside in
    let n = o.next in
    let es = o.hosts.entries in
    let host = c.args.host.now in
    let spots : (q : Spot) → at_spot c.reserve.new.self q ≡ at_spot o.counts q = λ q. ap (λ es. unwrap_or (lookup (is_spot q) es) 0) c.reserve.ensures.entries in
    let base = same n es o.addresses o.counts o.shelves.items c.self.invariant o.addresses c.reserve.new.self (λ q. refl) spots in
    let all = c.in_ok-insert.ensures.entries ∙ pushed n es host c.self.invariant.below in
    let more : n < c.in-Some.next = omega (arith, c.in-Some.ensures) in
    let ats = subst (λ a. (q : Address) → entries_at c.put.new.addresses q ≡ entries_at o.addresses q ++ (if is_address a q then (n, host) ∷ [] else [])) c.address_of.ensures c.in_default-put.ensures.ok in
    subst (λ es. IsIndexed c.in-Some.next es c.put.new.addresses c.count_in.new.counts c.note.new.shelves.items) (sym all)
    (subst (λ s. IsIndexed c.in-Some.next (es ++ (n, host) ∷ []) c.put.new.addresses c.count_in.new.counts s) (sym c.in_ok-note.ensures.ok)
    (with_one n es o.addresses c.reserve.new.self o.shelves.items base host c.in-Some.next more c.put.new.addresses c.count_in.new.counts ats c.count_in.ensures))

pub returns-clause-ok : goal.returns-clause-ok
returns-clause-ok c =
    let o = c.self.inside in
    c.in_ok-insert.ensures.entries ∙ pushed o.next o.hosts.entries c.args.host.now c.self.invariant.below ∙ ap (λ (es : List Entry). es ++ (o.next, c.args.host.now) ∷ []) c.self.view_is

pub returns-clause-last : goal.returns-clause-last
returns-clause-last c = subst (λ (es : List Entry). AllByRecursion (λ (e : Entry). e.0 < c.self.inside.next) es) c.self.view_is c.self.invariant.below
