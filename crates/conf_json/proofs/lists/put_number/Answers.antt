use Rattle.std.proofs.Common.{◌≤◌, ℕ, length, ap, sym, ◌∙◌, subst, nat_lt}
use Rattle.std.specs.List.{insert, prefix_len}
use Rattle.std.proofs.lemmas.Result.{on_ok_weaker}
use Rattle.conf_json.proofs.Ascending.{place_within, put_at_place}
use Rattle.conf_json.proofs.lists.put_number.Goals as goal

pub insert-requires : goal.insert-requires
insert-requires c =
    let is = c.place_of-at.ensures ∙ ap (prefix_len (λ m. nat_lt m c.args.number)) c.as_slice.ensures in
    subst (λ (n : ℕ). n ≤ length c.args.numbers.now) (sym is) (place_within c.args.number c.args.numbers.now)

pub returns : goal.returns
returns c =
    let is = c.place_of-at.ensures ∙ ap (prefix_len (λ m. nat_lt m c.args.number)) c.as_slice.ensures in
    on_ok_weaker c.insert.result (λ e. e ∙ ap (λ (n : ℕ). insert c.args.numbers.now n c.args.number) is ∙ put_at_place c.args.number c.args.numbers.now) c.insert.ensures.ok
