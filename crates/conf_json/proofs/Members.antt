-- One member more.
use Rattle.std.proofs.Common.{◌≡◌, ℕ, Option, Some, None, List, [], ◌∷◌, ◌++◌, fold, refl, ap, ◌∙◌}
use Rattle.conf_json.specs.Json.{Member, with_member}
use Rattle.conf_json.specs.Text.{lldp_members}

pub put_next : {made before done : List Member} {json text : List ℕ} (name : List ℕ) → made ≡ with_member before (name, json) → before ≡ done → json ≡ text → made ≡ with_member done (name, text)
put_next {done = done} {json = json} name put so_far is = put ∙ ap (λ ms. with_member ms (name, json)) so_far ∙ ap (λ t. with_member done (name, t)) is

-- two behind those that may stand between
pub two_more : (before : List Member) (lldp : Option ℕ) (m n : Member) → fold with_member before (lldp_members lldp ++ m ∷ n ∷ []) ≡ with_member (with_member (fold with_member before (lldp_members lldp)) m) n
two_more before None m n = refl
two_more before (Some seconds) m n = refl
