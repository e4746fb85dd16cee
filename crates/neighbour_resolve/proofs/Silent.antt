-- A header that is cut off gets no answer.
use Rattle.std.proofs.Common.{◌≡◌, ℕ, ◌<◌, ◌==◌, ◌&&◌, Bool, true, false, cond, List, Some, None, length, not, nat_le, inl, inr, refl, sym, ap, ◌∙◌, arith}
use Rattle.std.proofs.lemmas.Bool.{cases_Bool, eqb-true}
use Rattle.std.proofs.lemmas.Bool.Decides.{nat_tests}
use Rattle.std.specs.Option.{option_map_or}
use Rattle.net_base.specs.Address.{is_group}
use Rattle.net_base.specs.declared.address.Mac.{Mac}
use Rattle.conf_types.specs.declared.address.Ip.{Ip}
use Rattle.conf_types.specs.declared.address.Ip.TheVariants as ip
use Rattle.conf_types.specs.declared.vlan.Vlan.{Vlan}
use Rattle.conf_types.specs.Configuration.{Configuration}
use Rattle.pkt_view.specs.Frame.{FrameParts, V4, V6}
use Rattle.pkt_view.specs.Numbers.{ip4_at, ip6_at}
use Rattle.pkt_view.specs.Replies.{carries_icmp, carries_icmp6, echo6_frame, echo_frame, echo_reply, icmp_of, is_echo6_due, is_echo6_request, is_echo_due, is_echo_request, message_in}
use Rattle.neighbour_resolve.specs.declared.answers.Reply.TheVariants.{EchoReply, Nothing}
use Rattle.neighbour_resolve.specs.Answers.{answer_in, echo_answer, is_routed_vip, nd_answer, upper_answer, v6_answer}
use Rattle.neighbour_resolve.specs.Discovery.{carries_discovery, nd_message}

same_twice : {A : Type 0} (b : Bool) (x : A) → cond b x x ≡ x
same_twice true x = refl
same_twice false x = refl

unanswered : (conf : Configuration) (vlan : Vlan) (frame : FrameParts) (to : Ip) → echo_reply vlan.mac frame ≡ None → echo_answer conf vlan frame to ≡ Nothing
unanswered conf vlan frame to none =
    ap (λ o. cond (is_routed_vip conf vlan.vid to) (option_map_or EchoReply o Nothing) Nothing) none ∙ same_twice (is_routed_vip conf vlan.vid to) Nothing

in_all : (conf : Configuration) (vlan : Vlan) (frame : FrameParts) → upper_answer conf vlan frame frame.upper ≡ Nothing → answer_in conf frame vlan ≡ Nothing
in_all conf vlan frame none = ap (λ reply. cond (is_group frame.src) Nothing reply) none ∙ same_twice (is_group frame.src) Nothing

-- ---- one of IPv4

too_short : (header body : List ℕ) → length header < 20 → carries_icmp header body ≡ false
unfolding carries_icmp
too_short header body short = let off : nat_le 20 (length header) ≡ false = grind (arith, nat_tests) in rw off refl

not_due : (from : Mac) (header body : List ℕ) → carries_icmp header body ≡ false → is_echo_due from header body ≡ false
not_due from header body off =
    elim (is_group from) as (λ b. (not b && carries_icmp header body && is_echo_request (icmp_of header body)) ≡ false) [ true ↦ refl | false ↦ rw off refl ]

no_echo : (mac : Mac) (frame : FrameParts) (header body : List ℕ) → frame.upper ≡ V4 header body → length header < 20 → echo_reply mac frame ≡ None
no_echo mac frame header body is short =
    rw is (ap (λ b. cond b (Some (echo_frame mac frame.src header (icmp_of header body))) None) (not_due frame.src header body (too_short header body short)))

pub no_answer : (conf : Configuration) (vlan : Vlan) (frame : FrameParts) (header body : List ℕ) → frame.upper ≡ V4 header body → length header < 20 → answer_in conf frame vlan ≡ Nothing
no_answer conf vlan frame header body is short =
    in_all conf vlan frame (ap (upper_answer conf vlan frame) is ∙ unanswered conf vlan frame (ip.V4 (ip4_at 16 header)) (no_echo vlan.mac frame header body is short))

-- ---- one of IPv6

not_40 : (header body : List ℕ) → (length header == 40) ≡ false → carries_icmp6 header body ≡ false
unfolding carries_icmp6
not_40 header body off = rw off refl

not_due_6 : (from : Mac) (header body : List ℕ) → carries_icmp6 header body ≡ false → is_echo6_due from header body ≡ false
not_due_6 from header body off =
    elim (is_group from) as (λ b. (not b && carries_icmp6 header body && is_echo6_request header (message_in header body)) ≡ false) [ true ↦ refl | false ↦ rw off refl ]

no_echo_6 : (mac : Mac) (frame : FrameParts) (header body : List ℕ) → frame.upper ≡ V6 header body → (length header == 40) ≡ false → echo_reply mac frame ≡ None
no_echo_6 mac frame header body is off =
    rw is (ap (λ b. cond b (Some (echo6_frame mac frame.src header (message_in header body))) None) (not_due_6 frame.src header body (not_40 header body off)))

no_message : (from : Mac) (header body : List ℕ) → (length header == 40) ≡ false → nd_message from header body ≡ None
unfolding carries_discovery
no_message from header body off = rw off refl

other_length : (n : ℕ) → ¬ (n ≡ 40) → (n == 40) ≡ false
other_length n other =
    elim (cases_Bool (n == 40)) [
      | inl same ↦ absurd (other (eqb-true n 40 same))
      | inr off ↦ off
    ]

pub no_answer_6 : (conf : Configuration) (vlan : Vlan) (frame : FrameParts) (header body : List ℕ) → frame.upper ≡ V6 header body → ¬ (length header ≡ 40) → answer_in conf frame vlan ≡ Nothing
no_answer_6 conf vlan frame header body is other =
    let off : (length header == 40) ≡ false = other_length (length header) other in
    in_all conf vlan frame
    (ap (upper_answer conf vlan frame) is
    ∙ ap (λ o. option_map_or (nd_answer vlan frame.src) o (echo_answer conf vlan frame (ip.V6 (ip6_at 24 header)))) (no_message frame.src header body off)
    ∙ unanswered conf vlan frame (ip.V6 (ip6_at 24 header)) (no_echo_6 vlan.mac frame header body is off))

-- ---- what isn't cut off

pub by_message : (conf : Configuration) (vlan : Vlan) (frame : FrameParts) (header body : List ℕ) → is_group frame.src ≡ false → frame.upper ≡ V6 header body → v6_answer conf vlan frame header body ≡ answer_in conf frame vlan
by_message conf vlan frame header body single is =
    ap (upper_answer conf vlan frame) (sym is) ∙ sym (ap (λ b. cond b Nothing (upper_answer conf vlan frame frame.upper)) single)
