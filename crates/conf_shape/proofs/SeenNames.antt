-- The names that a map gave so far.
use Rattle.std.proofs.Common.{◌≡◌, ℕ, Bool, true, false, cond, ◌||◌, List, ◌⊎◌, inl, inr, refl, sym, ap, subst, ◌∙◌}
use Rattle.std.specs.Ordering.{nat_cmp}
use Rattle.std.specs.Cmp.Lexicographic.{slice_cmp}
use Rattle.std.specs.Str.{bytes_eq}
use Rattle.std.specs.String.{string_bytes, string_cmp}
use Rattle.std.specs.BTreeSet.{BTreeSet, UpdatesBy, contains_text}
use Rattle.std.specs.declared.string.String.{String}
use Rattle.std.specs.declared.alloc.Global.{Global}
use Rattle.std.proofs.lemmas.Map.Text.{btree_set_updates_text}
use Rattle.yaml_tree.specs.declared.tree.Key.{Key}
use Rattle.conf_shape.specs.declared.kinds.MapKind.{MapKind}
use Rattle.conf_shape.specs.declared.kinds.MapKind.TheVariants.{Datapaths, Acls, Routers}
use Rattle.conf_shape.specs.Sections.{named_once, under_key}
use Rattle.conf_shape.specs.Seen.{is_of_names}

abbrev pub Texts : Type 0
Texts = BTreeSet (String Global)

cond_or : (b a : Bool) → cond b true a ≡ (a || b)
cond_or true true = refl
cond_or true false = refl
cond_or false true = refl
cond_or false false = refl

-- a text more
pub text_more : (bs name : List ℕ) (old new : Texts) → bs ≡ name → UpdatesBy string_cmp (λ k. slice_cmp nat_cmp bs (string_bytes k)) old new true
    → (text : List ℕ) → contains_text new text ≡ (contains_text old text || bytes_eq name text)
text_more bs name old new is u text =
    btree_set_updates_text bs old new true u text ∙ cond_or (bytes_eq bs text) (contains_text old text)
    ∙ ap (λ (x : List ℕ). contains_text old text || bytes_eq x text) is

-- ---- maps of names

abbrev pub AreNames : MapKind → Type 0
AreNames m = (m ≡ Datapaths) ⊎ ((m ≡ Acls) ⊎ (m ≡ Routers))

pub of_names : (m : MapKind) → AreNames m → is_of_names m ≡ true
of_names m (inl is) = ap is_of_names is
of_names m (inr (inl is)) = ap is_of_names is
of_names m (inr (inr is)) = ap is_of_names is

pub once_under : (m : MapKind) → AreNames m → (earlier : List Key) (k : Key) → named_once m earlier k ≡ under_key m earlier k
once_under m (inl is) earlier k = subst (λ m. named_once m earlier k ≡ under_key m earlier k) (sym is) refl
once_under m (inr (inl is)) earlier k = subst (λ m. named_once m earlier k ≡ under_key m earlier k) (sym is) refl
once_under m (inr (inr is)) earlier k = subst (λ m. named_once m earlier k ≡ under_key m earlier k) (sym is) refl
