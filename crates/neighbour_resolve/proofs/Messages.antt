-- What is told by a message that was read.
use Rattle.std.proofs.Common.{◌≡◌, ℕ, Bool, Option, Some, None, List, drop, slice_index, sym, ap, ◌∙◌}
use Rattle.std.specs.Option.{option_map}
use Rattle.net_base.specs.declared.address.Mac.{Mac}
use Rattle.net_base.specs.declared.address6.Ip6.{Ip6}
use Rattle.pkt_view.specs.Numbers.{ip6_at}
use Rattle.neighbour_resolve.specs.declared.discovery.NdMessage.{NdMessage}
use Rattle.neighbour_resolve.specs.Discovery.{options_tell, told_in, told_option}

pub told_there : (from : Mac) (header message : List ℕ) (source target : Ip6) (own : Bool) → source ≡ ip6_at 8 header → target ≡ ip6_at 8 message
    → options_tell (told_option (slice_index message 0)) from.0 (drop 24 message) 0 ≡ Some own
    → Some (record { kind = slice_index message 0; source = source; target = target; is_own = own }) ≡ told_in from header message
told_there from header message source target own source_is target_is told =
    let made : Ip6 → Ip6 → Bool → NdMessage = λ s t b. record { kind = slice_index message 0; source = s; target = t; is_own = b } in
    ap (λ s. Some (made s target own)) source_is ∙ ap (λ t. Some (made (ip6_at 8 header) t own)) target_is ∙ sym (ap (option_map (made (ip6_at 8 header) (ip6_at 8 message))) told)

pub none_told : (from : Mac) (header message : List ℕ) → options_tell (told_option (slice_index message 0)) from.0 (drop 24 message) 0 ≡ None → None ≡ told_in from header message
none_told from header message none =
    let made : Bool → NdMessage = λ b. record { kind = slice_index message 0; source = ip6_at 8 header; target = ip6_at 8 message; is_own = b } in
    sym (ap (option_map made) none)
