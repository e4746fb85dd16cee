use Rattle.std.proofs.Common.{◌≡◌, ◌∙◌, ap, sym, false, string_bytes}
use Rattle.std.specs.Fmt.{decimal}
use Rattle.conf_resolve.proofs.Unwritten.{made_names}
use Rattle.conf_resolve.proofs.made.make_names.Goals as goal

pub returns : goal.returns
returns c =
    let digits : string_bytes c.in_ok-digits.digits ≡ decimal c.args.vid = c.in_ok-digits.ensures.ok ∙ ap decimal c.get.ensures.value in
    let key : c.in_ok-from_str.field-0 ≡ decimal c.args.vid = c.in_ok-from_str.ensures ∙ c.as_str.ensures.value ∙ digits in
    let name : c.in_ok-from_str-2.field-0 ≡ decimal c.args.vid = c.in_ok-from_str-2.ensures ∙ c.as_str-2.ensures.value ∙ digits in
    let description : c.in_ok-from_str-3.field-0 ≡ decimal c.args.vid = c.in_ok-from_str-3.ensures ∙ c.as_str-3.ensures.value ∙ digits in
    ◌∙◌ {b = record { key = decimal c.args.vid; has_name = false; name = decimal c.args.vid; description = decimal c.args.vid }} (λ i. record { key = key i; has_name = false; name = name i; description = description i }) (sym (made_names c.args.vid))
