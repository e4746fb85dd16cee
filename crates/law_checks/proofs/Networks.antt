-- Networks that don't overlap have no address together.
use Rattle.std.specs.Prelude.{◌≡◌, ◌==◌, ◌&&◌, Bool, true, false, not, nat_le, if◌then◌else◌}
use Rattle.std.proofs.Common.{refl, sym, ◌∙◌, true≢false, arith}
use Rattle.std.proofs.Math.Bool.{and_comm}
use Rattle.std.proofs.lemmas.Bool.{leb-true, leb-false, le-leb, eq-eqb, and_from}
use Rattle.conf_types.specs.declared.address.Net.{Net}
use Rattle.conf_types.specs.declared.vlan.Route.{Route}
use Rattle.conf_types.specs.Families.{is_same_ip, address_of, len_of}
use Rattle.conf_types.specs.Networks.{AreApart, AreApartOrLocal, AreSame, LiesIn, is_held, is_link_local}
use Rattle.conf_types.proofs.Families.{is_that_ip, is_held_there, shared}
use Rattle.conf_rules.specs.Routing.{overlap, clash, lies_in, is_same_route}

pub apart : (a b : Net) → overlap a b ≡ false → AreApart a b
apart a b not ip in_a in_b = by (nat_le (len_of a) (len_of b)) refl not
  where
    by : (t : Bool) → nat_le (len_of a) (len_of b) ≡ t → (if t then is_held a (address_of b) else is_held b (address_of a)) ≡ false → ⊥
    by true le is = true≢false (sym (is_held_there a (address_of b) (shared a b ip (leb-true (len_of a) (len_of b) le) in_a in_b)) ∙ is)
    by false gt is = let below = leb-false (len_of a) (len_of b) gt in true≢false (sym (is_held_there b (address_of a) (shared b a ip (omega arith) in_b in_a)) ∙ is)

-- where both aren't link-local, networks that don't clash don't overlap
no_clash : (over local : Bool) → (over && not local) ≡ false → local ≡ false → over ≡ false
no_clash over true not local = absurd cc
no_clash false false not local = refl
no_clash true false not local = not

pub apart_or_local : (a b : Net) → clash a b ≡ false → AreApartOrLocal a b
apart_or_local a b not local = apart a b (no_clash (overlap a b) (is_link_local a && is_link_local b) not local)

pub outside : (a b : Net) → lies_in a b ≡ false → LiesIn a b → ⊥
outside a b not inside =
    true≢false (sym (and_from (nat_le (len_of b) (len_of a)) (is_held b (address_of a)) (le-leb (len_of b) (len_of a) inside.longer) (is_held_there b (address_of a) inside.inside)) ∙ not)

pub apart_back : (a b : Net) → AreApartOrLocal a b → AreApartOrLocal b a
apart_back a b r local ip in_b in_a = r (and_comm (is_link_local a) (is_link_local b) ∙ local) ip in_a in_b

pub routes_other : (r s : Route) → is_same_route r s ≡ false → AreSame r.dst s.dst → ⊥
routes_other r s not same =
    true≢false (sym (and_from (is_same_ip (address_of r.dst) (address_of s.dst)) (len_of r.dst == len_of s.dst) (is_that_ip (address_of r.dst) (address_of s.dst) same.ip) (eq-eqb (len_of r.dst) (len_of s.dst) same.len)) ∙ not)
