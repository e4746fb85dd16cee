-- What it says that a text is new, and that none is.
use Rattle.std.proofs.Common.{◌≡◌, ◌≢◌, ℕ, Bool, true, false, List, Option, Some, None, refl, sym, ap, ◌∙◌}
use Rattle.std.specs.Prelude.{if◌then◌else◌, unwrap_or}
use Rattle.std.specs.Str.{bytes_eq}
use Rattle.std.proofs.lemmas.Bool.{true≢false}
use Rattle.std.proofs.lemmas.Option.{none-some, same_Some}
use Rattle.std.proofs.lemmas.Slice.Eq.{bytes_eq-Decides}
use Rattle.yaml_tree.specs.declared.tree.Key.{Key}
use Rattle.yaml_tree.specs.declared.tree.Tree.{Tree}
use Rattle.yaml_subset.specs.Reading.{read_of}
use Rattle.bgp_routes.specs.declared.routes.BgpRoute.{BgpRoute}
use Rattle.bgp_texts.specs.Taking.{IsAccepted, gives, text_of}
use Rattle.bgp_texts.proofs.Refusals.{accepted_when}
use Rattle.bgp_speaker.specs.Texts.{news, text_for}

-- ---- a text that is new

new_is : (last : List ℕ) (o : Option (List ℕ)) (text : List ℕ) → news last o ≡ Some text → (o ≡ Some text) × (text ≢ last)
new_is last None text e = absurd (none-some text e)
new_is last (Some made) text e = by (bytes_eq made last) refl e
  where
    by : (b : Bool) → bytes_eq made last ≡ b → (if b then None else Some made) ≡ Some text → (Some made ≡ Some text) × (text ≢ last)
    by true is e = absurd (none-some text e)
    by false is e = (e, λ same. true≢false (sym ((bytes_eq-Decides made last).1 (same_Some made text e ∙ same)) ∙ is))

given_by : (made text : List ℕ) (b : Bool) → (if b then Some made else None) ≡ Some text → (b ≡ true) × (made ≡ text)
given_by made text true e = (refl, same_Some made text e)
given_by made text false e = absurd (none-some text e)

-- the text of routes that a VLAN takes, which gives a configuration
pub record IsTextOf (vlan : Option Key) (t : Tree) (routes : List BgpRoute) (text : List ℕ) : Type 0 where
  pub key : Key
  pub there : vlan ≡ Some key
  pub is : text ≡ text_of key t routes
  pub accepted : IsAccepted text

pub text_is : (vlan : Option Key) (t : Tree) (routes : List BgpRoute) (text : List ℕ) → text_for vlan t routes ≡ Some text → IsTextOf vlan t routes text
text_is None t routes text e = absurd (none-some text e)
text_is (Some key) t routes text e =
    let both = given_by (text_of key t routes) text (gives (read_of (text_of key t routes))) e in
    record {
      key = key;
      there = refl;
      is = sym both.1;
      accepted = accepted_when text (ap (λ (it : List ℕ). gives (read_of it)) (sym both.1) ∙ both.0);
    }

pub new_text_is : (vlan : Option Key) (t : Tree) (last : List ℕ) (routes : List BgpRoute) (text : List ℕ) → news last (text_for vlan t routes) ≡ Some text → IsTextOf vlan t routes text × (text ≢ last)
new_text_is vlan t last routes text e =
    let new = new_is last (text_for vlan t routes) text e in
    (text_is vlan t routes text new.0, new.1)

pub then_last : (o : Option (List ℕ)) (last text : List ℕ) → o ≡ Some text → unwrap_or o last ≡ text
then_last o last text e = ap (λ (it : Option (List ℕ)). unwrap_or it last) e

-- ---- no text

pub last_stays : (o : Option (List ℕ)) (last : List ℕ) → o ≡ None → unwrap_or o last ≡ last
last_stays o last e = ap (λ (it : Option (List ℕ)). unwrap_or it last) e

pub not_new : (last : List ℕ) (o : Option (List ℕ)) (text : List ℕ) → news last o ≡ None → o ≡ Some text → text ≡ last
not_new last None text none e = absurd (none-some text e)
not_new last (Some made) text none e = sym (same_Some made text e) ∙ by (bytes_eq made last) refl none
  where
    by : (b : Bool) → bytes_eq made last ≡ b → (if b then None else Some made) ≡ None → made ≡ last
    by true is none = (bytes_eq-Decides made last).0 is
    by false is none = absurd (none-some made (sym none))
