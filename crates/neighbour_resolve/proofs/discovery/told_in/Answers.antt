use Rattle.std.proofs.Common.{◌≡◌, List, ℕ, drop, slice_index, sym, ap, ◌∙◌}
use Rattle.std.specs.Option.{option_map}
use Rattle.std.proofs.lemmas.List.{take_rest}
use Rattle.pkt_view.specs.Numbers.{ip6_at}
use Rattle.neighbour_resolve.specs.Discovery.{options_tell, told_option}
use Rattle.neighbour_resolve.proofs.Messages.{none_told, told_there}
use Rattle.neighbour_resolve.proofs.discovery.told_in.Goals as goal

pub returns-in_err-is_own : goal.returns-in_err-is_own
returns-in_err-is_own c =
    let message = c.args.message.now in
    let told : options_tell (told_option (slice_index message 0)) c.args.from.0 (drop 24 message) 0 ≡ c.options_tell.result =
    sym (c.options_tell.ensures ∙ ap (λ (l : List ℕ). options_tell c.told_option.result c.args.from.0 l 0) (take_rest message 24) ∙ ap (λ (k : ℕ). options_tell k c.args.from.0 (drop 24 message) 0) c.told_option.ensures) in
    c.from_residual.ensures ∙ none_told c.args.from c.args.header.now message (told ∙ c.in_err-is_own.was)

pub returns : goal.returns
returns c =
    let message = c.args.message.now in
    let told : options_tell (told_option (slice_index message 0)) c.args.from.0 (drop 24 message) 0 ≡ c.options_tell.result =
    sym (c.options_tell.ensures ∙ ap (λ (l : List ℕ). options_tell c.told_option.result c.args.from.0 l 0) (take_rest message 24) ∙ ap (λ (k : ℕ). options_tell k c.args.from.0 (drop 24 message) 0) c.told_option.ensures) in
    told_there c.args.from c.args.header.now message c.ip6_at.result c.ip6_at-2.result c.in_ok-is_own.is_own c.ip6_at.ensures c.ip6_at-2.ensures (told ∙ c.in_ok-is_own.was)
