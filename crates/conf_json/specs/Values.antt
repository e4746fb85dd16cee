-- The texts that the parts of a value of serde_json are printed as.
use Rattle.std.specs.Prelude.{ℕ, List, [], ◌∷◌}
use Rattle.serde_json.specs.Data.{Items, no_items, item, Members, no_members, member}
use Rattle.serde_json.specs.Written.{compact_text}
use Rattle.conf_json.specs.Json.{Member}

abbrev pub item_texts : Items → List (List ℕ)
item_texts no_items = []
item_texts (item d ds) = compact_text d ∷ item_texts ds

abbrev pub member_texts : Members → List Member
member_texts no_members = []
member_texts (member name d ms) = (name, compact_text d) ∷ member_texts ms
