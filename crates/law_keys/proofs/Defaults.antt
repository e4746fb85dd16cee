-- The default of a line is what stands where its key isn't written.
use Rattle.std.specs.Prelude.{◌≡◌, ℕ, List, map, Option, None, option_and_then, unwrap_or}
use Rattle.std.proofs.Common.{refl, ap, ◌∙◌}
use Rattle.yaml_tree.specs.declared.tree.Pair.{Pair}
use Rattle.yaml_tree.specs.declared.tree.Tree.{Tree}
use Rattle.conf_shape.specs.declared.kinds.MapKind.{MapKind}
use Rattle.conf_shape.specs.declared.kinds.MapKind.TheVariants as maps
use Rattle.conf_shape.specs.Reads.{value_at, flag_of, text_of, number_under, flag_at, number_at, text_at, default_of, default_flag, default_number, default_text}
use Rattle.conf_shape.specs.Reads as reads
use Rattle.law_keys.specs.Grammar.{IsOneOf}
use Rattle.law_keys.specs.Tables.{Line, lines}
use Rattle.law_keys.proofs.Lists.{each_same}

defaults_are : (m : MapKind) → map (λ (l : Line). default_of m l.key) (lines m) ≡ map (λ (l : Line). l.default) (lines m)
unfolding default_of
defaults_are maps.Top = refl
defaults_are m = refl

module _ (m : MapKind) (l : Line) (pairs : List Pair) (listed : IsOneOf (lines m) l) (unwritten : value_at l.key pairs ≡ None) where
  default_is : default_of m l.key ≡ l.default
  default_is = each_same (λ (l : Line). default_of m l.key) (λ (l : Line). l.default) (lines m) (defaults_are m) l listed

  unread : {A : Type 0} (f : Tree → Option A) (other : A) → unwrap_or (option_and_then f (value_at l.key pairs)) other ≡ other
  unread f other = ap (λ o. unwrap_or (option_and_then f o) other) unwritten

  pub flag_default : flag_at m l.key pairs ≡ default_flag l.default
  flag_default = unread flag_of (default_flag (default_of m l.key)) ∙ ap default_flag default_is

  pub number_default : number_at m l.key pairs ≡ default_number l.default
  number_default = unread (reads.number_of 0 4294967295) (default_number (default_of m l.key)) ∙ ap default_number default_is

  pub text_default : (own : List ℕ) → text_at m l.key own pairs ≡ default_text own l.default
  text_default own = unread text_of (default_text own (default_of m l.key)) ∙ ap (default_text own) default_is
