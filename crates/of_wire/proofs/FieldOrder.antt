-- Fields in ascending order of their numbers, and what stands before a field.
use Rattle.std.proofs.Common.{◌≡◌, ℕ, Bool, true, false, ◌&&◌, ◌||◌, List, [], ◌∷◌, ◌++◌, take, drop, Option, Some, None, refl, sym, ap, ◌∙◌}
use Rattle.std.specs.List.{list_all, list_any}
use Rattle.std.proofs.lemmas.List.{take-append-drop}
use Rattle.std.proofs.lemmas.List.Folds.{list_any-append}
use Rattle.net_base.specs.declared.field.Field.{Field}
use Rattle.net_base.specs.declared.field.FieldId.{FieldId}
use Rattle.net_base.specs.FieldId.{number_of, prerequisites_of}
use Rattle.net_base.specs.declared.field.Prerequisite.{Prerequisite}
use Rattle.net_base.specs.WellFormed.{meets, is_met, has_prerequisite}
use Rattle.of_wire.specs.Spelling.{placed, placed_at, first_above, stands, known, in_order, in_order_onto}

or_last : (a b c : Bool) → (a || (b || c)) ≡ ((a || c) || b)
or_last true b c = refl
or_last false true true = refl
or_last false true false = refl
or_last false false true = refl
or_last false false false = refl

or_assoc : (a b c : Bool) → ((a || b) || c) ≡ (a || (b || c))
or_assoc true b c = refl
or_assoc false b c = refl

or_false : (a : Bool) → (a || false) ≡ a
or_false true = refl
or_false false = refl

any_at : (p : Field → Bool) (o : Option ℕ) (f : Field) (fs : List Field) → list_any p (placed_at o f fs) ≡ (list_any p fs || p f)
any_at p (Some i) f fs =
    list_any-append p (take i fs) (f ∷ drop i fs) ∙ or_last (list_any p (take i fs)) (p f) (list_any p (drop i fs))
    ∙ ap (λ b. b || p f) (sym (list_any-append p (take i fs) (drop i fs)) ∙ ap (list_any p) (take-append-drop i fs))
any_at p None f fs = list_any-append p fs (f ∷ []) ∙ ap (λ b. list_any p fs || b) (or_false (p f))

any_placed : (p : Field → Bool) (f : Field) (fs : List Field) → list_any p (placed f fs) ≡ (list_any p fs || p f)
unfolding placed
any_placed p f fs = any_at p (first_above (number_of f.id) fs) f fs

any_onto : (p : Field → Bool) (acc fs : List Field) → list_any p (in_order_onto acc fs) ≡ (list_any p acc || list_any p fs)
any_onto p acc [] = sym (or_false (list_any p acc))
any_onto p acc (f ∷ fs) = any_onto p (placed f acc) fs ∙ ap (λ b. b || list_any p fs) (any_placed p f acc) ∙ or_assoc (list_any p acc) (p f) (list_any p fs)

-- a field stands among others exactly where it stands among them in order
pub any_in_order : (p : Field → Bool) (fs : List Field) → list_any p (in_order fs) ≡ list_any p fs
any_in_order p fs = any_onto p [] fs

pub stands_in_order : (id : FieldId) (fs : List Field) → stands id (in_order fs) ≡ stands id fs
stands_in_order id fs = any_in_order _ fs

all_in_order : (asked : List Prerequisite) (fs : List Field) → list_all (is_met (in_order fs)) asked ≡ list_all (is_met fs) asked
all_in_order [] fs = refl
all_in_order (p ∷ asked) fs =
    let first : is_met (in_order fs) p ≡ is_met fs p = any_in_order (meets p) fs in
    let more = all_in_order asked fs in
    λ i. first i && more i

pub prerequisites_in_order : (id : FieldId) (fs : List Field) → has_prerequisite id (in_order fs) ≡ has_prerequisite id fs
prerequisites_in_order id fs = all_in_order (prerequisites_of id) fs

onto_push : (acc fs : List Field) (f : Field) → in_order_onto acc (fs ++ f ∷ []) ≡ placed f (in_order_onto acc fs)
onto_push acc [] f = refl
onto_push acc (g ∷ fs) f = onto_push (placed g acc) fs f

pub known_some : (before : List (Option Field)) (f : Field) → known (before ++ Some f ∷ []) ≡ known before ++ f ∷ []
known_some [] f = refl
known_some (Some g ∷ before) f = ap (λ l. g ∷ l) (known_some before f)
known_some (None ∷ before) f = known_some before f

known_none : (before : List (Option Field)) → known (before ++ None ∷ []) ≡ known before
known_none [] = refl
known_none (Some g ∷ before) = ap (λ l. g ∷ l) (known_none before)
known_none (None ∷ before) = known_none before

abbrev pub view : List (Option Field) → List Field
view items = in_order (known items)

pub view_some : (before : List (Option Field)) (f : Field) → view (before ++ Some f ∷ []) ≡ placed f (view before)
view_some before f = ap in_order (known_some before f) ∙ onto_push [] (known before) f

pub view_none : (before : List (Option Field)) → view (before ++ None ∷ []) ≡ view before
view_none before = ap in_order (known_none before)
