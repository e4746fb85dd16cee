-- What is asked of a host's key is told by the entries of its address.
use Rattle.std.proofs.Common.{◌≡◌, ℕ, ◌==◌, ◌&&◌, ◌||◌, Bool, true, false, cond, not, Some, List, [], ◌∷◌, filter, find, inl, inr, refl, sym, ap, ◌∙◌, nat_eq, eq-eqb, if◌then◌else◌}
use Rattle.std.specs.Cmp.Lexicographic.{pointwise, same_text, texts_ties}
use Rattle.std.specs.List.{list_any}
use Rattle.std.proofs.lemmas.Bool.{cases_Bool, and_parts, and_from, eqb-true, false≢true}
use Rattle.net_base.specs.declared.numbers.DpId.{DpId}
use Rattle.conf_types.specs.declared.state.HostRec.{HostRec}
use Rattle.conf_types.specs.Configuration.{Configuration}
use Rattle.conf_types.specs.Groups.{group_of}
use Rattle.conf_types.specs.Lists.{is_same}
use Rattle.conf_types.specs.State.{is_host_at, is_host_in, is_permanent}
use Rattle.host_list.specs.declared.addresses.Address.{Address}
use Rattle.host_list.specs.Addresses.{Entry, address_of, has_address, is_address}
use Rattle.host_list.specs.Hosts.{is_heard, is_in_place}
use Rattle.host_list.specs.Order.{first_entry, hosts_of, is_old, is_other}
use Rattle.host_list.specs.Hosts.{has_key}

module _ (a : Address) where
  -- every host that passes has the address
  abbrev pub Tells : (HostRec → Bool) → Type 0
  Tells test = (h : HostRec) → test h ≡ true → is_address a (address_of h) ≡ true

  fails : (test : HostRec → Bool) → Tells test → (e : Entry) → has_address a e ≡ false → test e.1 ≡ false
  fails test tells e other = elim (cases_Bool (test e.1)) [ inl passes ↦ absurd (false≢true (sym other ∙ tells e.1 passes)) | inr off ↦ off ]

  pub any_told : (test : HostRec → Bool) → Tells test → (entries : List Entry) → list_any (λ (e : Entry). test e.1) (filter (has_address a) entries) ≡ list_any test (hosts_of entries)
  any_told test tells [] = refl
  any_told test tells (e ∷ entries) =
      let rest = filter (has_address a) entries in
      elim (cases_Bool (has_address a e)) [
        | inl here ↦ ap (λ b. list_any (λ (e : Entry). test e.1) (cond b (e ∷ rest) rest)) here ∙ ap (λ b. test e.1 || b) (any_told test tells entries)
        | inr other ↦ ap (λ b. list_any (λ (e : Entry). test e.1) (cond b (e ∷ rest) rest)) other ∙ any_told test tells entries ∙ sym (ap (λ b. b || list_any test (hosts_of entries)) (fails test tells e other))
      ]

  pub found_told : (test : HostRec → Bool) → Tells test → (entries : List Entry) → find test (hosts_of (filter (has_address a) entries)) ≡ find test (hosts_of entries)
  found_told test tells [] = refl
  found_told test tells (e ∷ entries) =
      let rest = filter (has_address a) entries in
      elim (cases_Bool (has_address a e)) [
        | inl here ↦ ap (λ b. find test (hosts_of (cond b (e ∷ rest) rest))) here ∙ ap (λ o. cond (test e.1) (Some e.1) o) (found_told test tells entries)
        | inr other ↦ ap (λ b. find test (hosts_of (cond b (e ∷ rest) rest))) other ∙ found_told test tells entries ∙ sym (ap (λ b. cond b (Some e.1) (find test (hosts_of entries))) (fails test tells e other))
      ]

  pub first_told : (test : Entry → Bool) → ((e : Entry) → test e ≡ true → has_address a e ≡ true) → (entries : List Entry) → first_entry test (filter (has_address a) entries) ≡ first_entry test entries
  first_told test tells [] = refl
  first_told test tells (e ∷ entries) =
      let rest = filter (has_address a) entries in
      elim (cases_Bool (has_address a e)) [
        | inl here ↦ ap (λ b. first_entry test (cond b (e ∷ rest) rest)) here ∙ ap (λ o. if test e then Some e.0 else o) (first_told test tells entries)
        | inr other ↦ let off : test e ≡ false = elim (cases_Bool (test e)) [ inl passes ↦ absurd (false≢true (sym other ∙ tells e passes)) | inr is ↦ is ] in
            ap (λ b. first_entry test (cond b (e ∷ rest) rest)) other ∙ first_told test tells entries ∙ sym (ap (λ b. if b then Some e.0 else first_entry test entries) off)
      ]

-- the bytes of two addresses and the numbers of two VLANs
same_address_of : (vid : ℕ) (mac : List ℕ) (a : Address) (h : HostRec) → a.vid ≡ vid → a.mac.0 ≡ mac → (h.vid == vid) ≡ true → is_same h.mac.0 mac ≡ true → is_address a (address_of h) ≡ true
same_address_of vid mac a h vid_is mac_is same_vid same_mac =
    let bytes : h.mac.0 ≡ mac = same_text h.mac.0 mac (sym (texts_ties h.mac.0 mac ∙ same_mac)) in
    let number : h.vid ≡ vid = eqb-true h.vid vid same_vid in
    and_from (a.vid == h.vid) (pointwise nat_eq a.mac.0 h.mac.0) (eq-eqb a.vid h.vid (vid_is ∙ sym number))
    (ap (λ m. pointwise nat_eq m h.mac.0) (mac_is ∙ sym bytes) ∙ ap (pointwise nat_eq h.mac.0) bytes ∙ texts_ties h.mac.0 mac ∙ same_mac)

pub key_tells : (conf : Configuration) (group : DpId) (a : Address) → Tells a (has_key conf group a.vid a.mac.0)
key_tells conf group a h passes =
    let both = and_parts (is_host_in conf group a.vid h) (is_same h.mac.0 a.mac.0) passes in
    let place = and_parts ((group_of conf h.dp).0 == group.0) (h.vid == a.vid) both.0 in
    same_address_of a.vid a.mac.0 a h refl refl place.1 both.1

pub heard_tells : (conf : Configuration) (heard : HostRec) → Tells (address_of heard) (is_heard conf heard)
heard_tells conf heard = key_tells conf (group_of conf heard.dp) (address_of heard)

pub staying_tells : (conf : Configuration) (heard : HostRec) → Tells (address_of heard) (λ h. is_heard conf heard h && is_permanent conf h)
staying_tells conf heard h passes = heard_tells conf heard h (and_parts (is_heard conf heard h) (is_permanent conf h) passes).0

pub place_tells : (heard : HostRec) → Tells (address_of heard) (is_in_place heard)
place_tells heard h passes =
    let both = and_parts (is_host_at heard.dp heard.port h && h.vid == heard.vid) (is_same h.mac.0 heard.mac.0) passes in
    let place = and_parts (is_host_at heard.dp heard.port h) (h.vid == heard.vid) both.0 in
    same_address_of heard.vid heard.mac.0 (address_of heard) h refl refl place.1 both.1

pub old_tells : (heard : HostRec) (e : Entry) → is_old heard e ≡ true → has_address (address_of heard) e ≡ true
old_tells heard e passes = place_tells heard e.1 (and_parts (is_in_place heard e.1) (not (e.1.learned.0 == heard.learned.0)) passes).0

pub other_tells : (conf : Configuration) (heard : HostRec) (place : ℕ) (e : Entry) → is_other conf heard place e ≡ true → has_address (address_of heard) e ≡ true
other_tells conf heard place e passes = heard_tells conf heard e.1 (and_parts (is_heard conf heard e.1) (not (e.0 == place)) passes).0
