-- What holds of each list of hosts that is kept.
use Rattle.std.proofs.Common.{◌≡◌, ℕ, ◌^◌, ◌<◌, ◌≤◌, ◌++◌, Bool, true, false, not, List, [], ◌∷◌, length, filter, inl, inr, refl, ap, arith, length-append, if◌then◌else◌}
use Rattle.std.proofs.lemmas.List.{length-map}
use Rattle.net_base.specs.Address.{IsSixBytes}
use Rattle.conf_types.specs.declared.state.HostRec.{HostRec}
use Rattle.conf_types.specs.Configuration.{Configuration}
use Rattle.host_list.specs.Addresses.{Entry}
use Rattle.host_list.specs.Hosts.{AreHosts, is_heard, moved, refreshed, without_first}
use Rattle.host_list.specs.Order.{hosts_of}
use Rattle.host_list.specs.Parts.{IsPartOf}
use Rattle.host_list.proofs.Lists.{all_part, all_push, filter_part, part_same, part_skip}
use Rattle.host_list.proofs.Moments.{refreshed_all}

pub part_length : {A : Type 0} (xs ys : List A) → IsPartOf xs ys → length xs ≤ length ys
part_length [] ys part = omega arith
part_length (x ∷ xs) [] part = absurd part
part_length (x ∷ xs) (y ∷ ys) part =
    elim part [
      | inl same ↦ omega (arith, part_length xs ys same.1)
      | inr later ↦ omega (arith, part_length (x ∷ xs) ys later)
    ]

pub first_part : (test : HostRec → Bool) (hosts : List HostRec) → IsPartOf (without_first test hosts) hosts
first_part test [] = tt
first_part test (h ∷ hosts) =
    elim (test h) as (λ b. IsPartOf (if b then hosts else h ∷ without_first test hosts) (h ∷ hosts)) [
      | true ↦ part_skip hosts h hosts (part_same hosts)
      | false ↦ inl (refl, first_part test hosts)
    ]

pub none_sound : AreHosts []
none_sound = record { few = omega arith; bytes = tt }

pub part_sound : (xs ys : List HostRec) → IsPartOf xs ys → AreHosts ys → AreHosts xs
part_sound xs ys part are =
    let most : length ys ≤ 2 ^ 32 = are.few in
    record { few = omega (arith, part_length xs ys part, most); bytes = all_part (λ (h : HostRec). IsSixBytes h.mac.0) xs ys are.bytes part }

pub filter_sound : (test : HostRec → Bool) (hosts : List HostRec) → AreHosts hosts → AreHosts (filter test hosts)
filter_sound test hosts = part_sound (filter test hosts) hosts (filter_part test hosts)

pub first_sound : (test : HostRec → Bool) (hosts : List HostRec) → AreHosts hosts → AreHosts (without_first test hosts)
first_sound test hosts = part_sound (without_first test hosts) hosts (first_part test hosts)

pub push_sound : (hosts : List HostRec) (host : HostRec) → length hosts < 2 ^ 32 → IsSixBytes host.mac.0 → AreHosts hosts → AreHosts (hosts ++ host ∷ [])
push_sound hosts host less bytes are = record {
  few = omega (arith, length-append hosts (host ∷ []), less);
  bytes = all_push (λ (h : HostRec). IsSixBytes h.mac.0) hosts host are.bytes bytes;
}

pub moved_sound : (conf : Configuration) (heard : HostRec) (hosts : List HostRec) → length hosts < 2 ^ 32 → IsSixBytes heard.mac.0 → AreHosts hosts → AreHosts (moved conf heard hosts)
moved_sound conf heard hosts less bytes are =
    let test = λ (h : HostRec). not (is_heard conf heard h) in
    push_sound (filter test hosts) heard (omega (arith, part_length (filter test hosts) hosts (filter_part test hosts), less)) bytes (filter_sound test hosts are)

pub refreshed_sound : (heard : HostRec) (hosts : List HostRec) → AreHosts hosts → AreHosts (refreshed heard hosts)
refreshed_sound heard hosts are =
    let most : length hosts ≤ 2 ^ 32 = are.few in
    record { few = rw length-map most; bytes = refreshed_all heard (λ (h : HostRec). IsSixBytes h.mac.0) (λ h m bytes. bytes) hosts are.bytes }

pub hosts_push : (place : ℕ) (host : HostRec) (entries : List Entry) → hosts_of (entries ++ (place, host) ∷ []) ≡ hosts_of entries ++ host ∷ []
hosts_push place host [] = refl
hosts_push place host (e ∷ entries) = ap (λ (hosts : List HostRec). e.1 ∷ hosts) (hosts_push place host entries)
