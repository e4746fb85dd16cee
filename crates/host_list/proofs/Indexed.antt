-- What is kept beside the entries stays so: with one more, with one fewer, and with another moment.
use Rattle.std.proofs.Common.{◌≡◌, ℕ, ◌+◌, ◌*◌, ◌^◌, ◌<◌, ◌≤◌, ◌==◌, ◌++◌, true, false, cond, not, Some, List, [], ◌∷◌, map, filter, length, inl, inr, refl, sym, ap, ◌∙◌, arith, if◌then◌else◌, sum_by}
use Rattle.std.specs.List.{AllByRecursion}
use Rattle.std.specs.BTreeMap.{is_at}
use Rattle.std.specs.Map.{lookup}
use Rattle.std.specs.Ordering.{nat_cmp}
use Rattle.std.proofs.lemmas.List.Elements.{filter-append}
use Rattle.std.proofs.lemmas.List.Sums.{sum_by-cons, sum_by_push}
use Rattle.std.proofs.lemmas.Bool.{cases_Bool}
use Rattle.net_base.specs.declared.numbers.DpId.{DpId}
use Rattle.net_base.specs.declared.numbers.Moment.{Moment}
use Rattle.conf_types.specs.declared.state.HostRec.{HostRec}
use Rattle.conf_types.specs.Configuration.{Configuration}
use Rattle.indexmap.specs.IndexMap.{IndexMap}
use Rattle.host_list.specs.declared.addresses.Address.{Address}
use Rattle.host_list.specs.declared.addresses.Standing.{Standing}
use Rattle.host_list.specs.declared.counts.Spot.{Spot}
use Rattle.host_list.specs.declared.shelves.Shelf.{Shelf}
use Rattle.host_list.specs.Addresses.{Entry, address_of, entries_at, has_address, heard_at, is_address, off_place}
use Rattle.host_list.specs.Counts.{at_spot, is_spot, one_at}
use Rattle.host_list.specs.Order.{IsIndexed, both_spot, port_spot, share, tightened, vlan_spot}
use Rattle.host_list.specs.Shelves.{is_shelved, lowered, noted}
use Rattle.host_list.proofs.Lists.{all_map, all_part, all_push, before_part, before_push, filter_part}
use Rattle.host_list.proofs.Shelved.{lowered_apart, lowered_here, lowered_keeps, noted_apart, noted_here, noted_keeps, on_dp, tight_apart, tight_shelved}
use Rattle.host_list.proofs.AtAddress.{flips}
use Rattle.host_list.proofs.Entries.{IsOnly, filter_heard, filter_off, heard_all, heard_other, heard_rising, not_there, off_other, only, sum_heard, sum_off}

module _ {S T : Type 0} (next : ℕ) (entries : List Entry) (addresses : IndexMap Address Standing S) (counts : IndexMap Spot ℕ T) (shelves : List Shelf) (is : IsIndexed next entries addresses counts shelves) where
  -- each spot has the host's part
  pub part : (n : ℕ) (host : HostRec) → lookup (is_at (nat_cmp n)) entries ≡ Some host → (q : Spot) → share q host ≤ at_spot counts q
  part n host found q =
      let whole = sum_off n (share q) entries host is.rising found in
      let all = is.counted q in
      omega (arith, whole, all)

  pub without : (n : ℕ) (host : HostRec) → lookup (is_at (nat_cmp n)) entries ≡ Some host
      → (addresses' : IndexMap Address Standing S) (counts' : IndexMap Spot ℕ T)
      → ((q : Address) → entries_at addresses' q ≡ (if is_address (address_of host) q then off_place n (entries_at addresses q) else entries_at addresses q))
      → ((q : Spot) → at_spot counts' q + share q host ≡ at_spot counts q)
      → IsIndexed next (off_place n entries) addresses' counts' shelves
  without n host found addresses' counts' ats spots = record {
    rising = before_part (λ (e : Entry) (f : Entry). e.0 < f.0) (off_place n entries) entries is.rising (filter_part (λ (e : Entry). not (e.0 == n)) entries);
    below = all_part (λ (e : Entry). e.0 < next) (off_place n entries) entries is.below (filter_part (λ (e : Entry). not (e.0 == n)) entries);
    at = λ q.
        let same : filter (has_address q) (off_place n entries) ≡ off_place n (filter (has_address q) entries) = filter_off n (has_address q) entries in
        elim (cases_Bool (is_address (address_of host) q)) [
          | inl e ↦ ats q ∙ ap (λ b. cond b (off_place n (entries_at addresses q)) (entries_at addresses q)) e ∙ ap (off_place n) (is.at q) ∙ sym same
          | inr e ↦ ats q ∙ ap (λ b. cond b (off_place n (entries_at addresses q)) (entries_at addresses q)) e ∙ is.at q
              ∙ sym (same ∙ off_other n (filter (has_address q) entries) (not_there n (has_address q) entries host (only n entries host is.rising found) (flips q (address_of host) ∙ e)))
        ];
    counted = λ q.
        let whole = sum_off n (share q) entries host is.rising found in
        let all = is.counted q in
        let here = spots q in
        omega (arith, whole, all, here);
    shelved = all_part (λ (e : Entry). is_shelved shelves e.1 ≡ true) (off_place n entries) entries is.shelved (filter_part (λ (e : Entry). not (e.0 == n)) entries);
    shelves_apart = is.shelves_apart;
  }

  pub with_one : (host : HostRec) (after : ℕ) → next < after
      → (addresses' : IndexMap Address Standing S) (counts' : IndexMap Spot ℕ T)
      → ((q : Address) → entries_at addresses' q ≡ entries_at addresses q ++ (if is_address (address_of host) q then (next, host) ∷ [] else []))
      → ((q : Spot) → at_spot counts' q ≡ at_spot counts q + share q host)
      → IsIndexed after (entries ++ (next, host) ∷ []) addresses' counts' (noted host.dp host.learned shelves)
  with_one host after more addresses' counts' ats spots = record {
    rising = before_push (λ (e : Entry) (f : Entry). e.0 < f.0) entries (next, host) is.rising is.below;
    below = all_push (λ (e : Entry). e.0 < after) entries (next, host) (all_map (λ (e : Entry). e.0 < next) (λ (e : Entry). e.0 < after) (λ e less. let l : e.0 < next = less in omega (arith, l)) entries is.below) more;
    at = λ q. ats q ∙ ap (λ es. es ++ (if is_address (address_of host) q then (next, host) ∷ [] else [])) (is.at q)
        ∙ ap (λ b. filter (has_address q) entries ++ (if b then (next, host) ∷ [] else [])) (flips (address_of host) q)
        ∙ sym (filter-append (has_address q) entries ((next, host) ∷ []));
    counted = λ q.
        let whole = sum_by_push (λ (e : Entry). share q e.1) entries (next, host) in
        let all = is.counted q in
        let here = spots q in
        omega (arith, whole, all, here);
    shelved = all_push (λ (e : Entry). is_shelved (noted host.dp host.learned shelves) e.1 ≡ true) entries (next, host)
        (all_map (λ (e : Entry). is_shelved shelves e.1 ≡ true) (λ (e : Entry). is_shelved (noted host.dp host.learned shelves) e.1 ≡ true) (λ e on. noted_keeps host.dp host.learned e.1 shelves on) entries is.shelved)
        (noted_here host shelves);
    shelves_apart = noted_apart host.dp host.learned shelves is.shelves_apart;
  }

  -- the same entries kept otherwise
  pub same : (addresses' : IndexMap Address Standing S) (counts' : IndexMap Spot ℕ T) → ((q : Address) → entries_at addresses' q ≡ entries_at addresses q) → ((q : Spot) → at_spot counts' q ≡ at_spot counts q)
      → IsIndexed next entries addresses' counts' shelves
  same addresses' counts' ats spots = record {
    rising = is.rising;
    below = is.below;
    at = λ q. ats q ∙ is.at q;
    counted = λ q. spots q ∙ is.counted q;
    shelved = is.shelved;
    shelves_apart = is.shelves_apart;
  }

  pub same_noted : (dp : DpId) (t : Moment) (addresses' : IndexMap Address Standing S) (counts' : IndexMap Spot ℕ T) → ((q : Address) → entries_at addresses' q ≡ entries_at addresses q) → ((q : Spot) → at_spot counts' q ≡ at_spot counts q)
      → IsIndexed next entries addresses' counts' (noted dp t shelves)
  same_noted dp t addresses' counts' ats spots = record {
    rising = is.rising;
    below = is.below;
    at = λ q. ats q ∙ is.at q;
    counted = λ q. spots q ∙ is.counted q;
    shelved = all_map (λ (e : Entry). is_shelved shelves e.1 ≡ true) (λ (e : Entry). is_shelved (noted dp t shelves) e.1 ≡ true) (λ e on. noted_keeps dp t e.1 shelves on) entries is.shelved;
    shelves_apart = noted_apart dp t shelves is.shelves_apart;
  }

  pub tight : (conf : Configuration) (moment : ℕ) → IsIndexed next entries addresses counts (map (tightened conf moment entries) shelves)
  tight conf moment = record {
    rising = is.rising;
    below = is.below;
    at = is.at;
    counted = is.counted;
    shelved = tight_shelved conf moment entries shelves is.shelved;
    shelves_apart = tight_apart conf moment entries shelves is.shelves_apart;
  }

  one_few : (a b : Spot) → one_at a b ≤ 1
  one_few a b = elim (is_spot a b) as (λ b. (if b then 1 else 0) ≤ 1) [ true ↦ omega arith | false ↦ omega arith ]

  few_shares : (q : Spot) (es : List Entry) → sum_by (λ (e : Entry). share q e.1) es ≤ length es * 3
  few_shares q [] = omega arith
  few_shares q (e ∷ es) = omega (arith, sum_by-cons (λ (e : Entry). share q e.1) e es, few_shares q es, one_few (port_spot e.1) q, one_few (vlan_spot e.1) q, one_few (both_spot e.1) q)

  -- no count is great
  pub few : length entries < 2 ^ 32 → (q : Spot) → at_spot counts q < 2 ^ 40
  few short q = let all = is.counted q in omega (arith, all, few_shares q entries, short)

  -- another moment at a place
  pub again : (n : ℕ) (host : HostRec) (m : Moment) → lookup (is_at (nat_cmp n)) entries ≡ Some host
      → (addresses' : IndexMap Address Standing S)
      → ((q : Address) → entries_at addresses' q ≡ (if is_address (address_of host) q then heard_at n m (entries_at addresses q) else entries_at addresses q))
      → IsIndexed next (heard_at n m entries) addresses' counts (map (lowered host.dp m) shelves)
  again n host m found addresses' ats =
      let at_host = only n entries host is.rising found in
      record {
        rising = heard_rising n m entries is.rising;
        below = heard_all n m (λ k. k < next) entries is.below;
        at = λ q.
            let same : filter (has_address q) (heard_at n m entries) ≡ heard_at n m (filter (has_address q) entries) = filter_heard n m (has_address q) (λ e. refl) entries in
            elim (cases_Bool (is_address (address_of host) q)) [
              | inl e ↦ ats q ∙ ap (λ b. cond b (heard_at n m (entries_at addresses q)) (entries_at addresses q)) e ∙ ap (heard_at n m) (is.at q) ∙ sym same
              | inr e ↦ ats q ∙ ap (λ b. cond b (heard_at n m (entries_at addresses q)) (entries_at addresses q)) e ∙ is.at q
                  ∙ sym (same ∙ heard_other n m (filter (has_address q) entries) (not_there n (has_address q) entries host at_host (flips q (address_of host) ∙ e)))
            ];
        counted = λ q. is.counted q ∙ sym (sum_heard n m (share q) (λ h. refl) entries);
        shelved = heard_shelved entries at_host is.shelved;
        shelves_apart = lowered_apart host.dp m shelves is.shelves_apart;
      }
    where
      heard_shelved : (es : List Entry) → IsOnly n host es → AllByRecursion (λ (e : Entry). is_shelved shelves e.1 ≡ true) es → AllByRecursion (λ (e : Entry). is_shelved (map (lowered host.dp m) shelves) e.1 ≡ true) (heard_at n m es)
      heard_shelved [] at on = tt
      heard_shelved (e ∷ es) at on = (
        (elim (cases_Bool (e.0 == n)) [
          | inl here ↦ let heard : HostRec = record e.1 { learned = m } in
              let dp : e.1.dp ≡ host.dp = ap (λ (h : HostRec). h.dp) (at.0 here) in
              ap (λ b. is_shelved (map (lowered host.dp m) shelves) (if b then (e.0, heard) else e).1) here
              ∙ ap (λ (d : DpId). is_shelved (map (lowered d m) shelves) heard) (sym dp) ∙ lowered_here heard shelves (on_dp e.1 shelves on.0)
          | inr other ↦ ap (λ b. is_shelved (map (lowered host.dp m) shelves) (if b then (e.0, record e.1 { learned = m }) else e).1) other ∙ lowered_keeps host.dp m e.1 shelves on.0
        ]),
        heard_shelved es at.1 on.1,
      )
