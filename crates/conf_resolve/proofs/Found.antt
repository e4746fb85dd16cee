-- What the tables of interfaces and datapaths find.
use Rattle.std.proofs.Common.{◌≡◌, ℕ, ◌+◌, ◌<◌, ◌==◌, ◌||◌, length, get_or, take, Bool, true, false, cond, Option, Some, None, option_and_then, List, [], ◌∷◌, ◌++◌, refl, sym, ap, subst, ◌∙◌}
use Rattle.std.proofs.Math.Bool.{or-false}
use Rattle.std.specs.List.{find, list_any}
use Rattle.std.specs.Option.{option_map, option_or}
use Rattle.std.specs.BTreeMap.{BTreeMap, get_by_text}
use Rattle.std.specs.BTreeSet.{BTreeSet, contains}
use Rattle.std.specs.Ordering.{nat_cmp}
use Rattle.std.specs.declared.string.String.{String}
use Rattle.std.specs.declared.alloc.Global.{Global}
use Rattle.std.proofs.lemmas.Bool.Decides.{Decides-eqb}
use Rattle.std.proofs.lemmas.List.{take_more}
use Rattle.std.proofs.lemmas.List.Folds.{list_any-append}
use Rattle.conf_types.specs.Lists.{is_same}
use Rattle.conf_types.specs.declared.acl.PortRef.{PortRef}
use Rattle.conf_types.specs.declared.acl.PortRef.TheVariants.{No}
use Rattle.conf_types.specs.declared.datapath.StackEnd.{StackEnd}
use Rattle.conf_shape.specs.declared.raw.RawDp.{RawDp}
use Rattle.conf_shape.specs.declared.raw.RawPort.{RawPort}
use Rattle.conf_shape.specs.declared.raw.RawStackEnd.{RawStackEnd}
use Rattle.conf_resolve.specs.Resolved.{number_named, far_end}
use Rattle.conf_resolve.specs.Indexed.{LeadToFirst, HavePorts}
use Rattle.conf_resolve.proofs.Naming.{next_named}

-- ---- the interfaces of a datapath

pub next_port : (ps qs : List RawPort) (i : ℕ) (p : RawPort) (numbers more : BTreeSet ℕ) (names after : BTreeMap (String Global) ℕ) → qs ≡ ps → i < length qs → p ≡ get_or qs i p → HavePorts (take i ps) numbers names
    → ((n : ℕ) → contains nat_cmp more n ≡ (contains nat_cmp numbers n || p.no == n))
    → ((q : List ℕ) → get_by_text after q ≡ option_or (get_by_text names q) (cond (is_same p.names.name q) (Some p.no) None))
    → HavePorts (take (i + 1) ps) more after
next_port ps qs i p numbers more names after same less at have counted added =
    let lt : i < length ps = subst (λ (rs : List RawPort). i < length rs) same less in
    let is : p ≡ get_or ps i p = at ∙ ap (λ (rs : List RawPort). get_or rs i p) same in
    let one : take (i + 1) ps ≡ take i ps ++ p ∷ [] = take_more ps i p lt ∙ ap (λ (r : RawPort). take i ps ++ r ∷ []) (sym is) in
    record {
      numbered = λ n.
          counted n
          ∙ ap (λ b. b || p.no == n) (have.numbered n)
          ∙ ap (λ b. list_any (λ (r : RawPort). r.no == n) (take i ps) || b) (sym (or-false (p.no == n)))
          ∙ sym (list_any-append (λ (r : RawPort). r.no == n) (take i ps) (p ∷ []))
          ∙ ap (list_any (λ (r : RawPort). r.no == n)) (sym one);
      named = next_named (λ (r : RawPort). r.names.name) (λ (r : RawPort). r.no) ps i p names after lt is have.named added;
    }

-- the first of a number has the number
number_found : (ps : List RawPort) (n : ℕ) → cond (list_any (λ (p : RawPort). p.no == n) ps) (Some n) None ≡ option_map (λ (p : RawPort). p.no) (find (λ (p : RawPort). p.no == n) ps)
number_found [] n = refl
number_found (p ∷ ps) n =
    elim (p.no == n) as (λ b. (p.no == n) ≡ b → cond (b || list_any (λ (r : RawPort). r.no == n) ps) (Some n) None ≡ option_map (λ (r : RawPort). r.no) (cond b (Some p) (find (λ (r : RawPort). r.no == n) ps))) [
      | true ↦ λ same. ap Some (sym ((Decides-eqb p.no n).0 same))
      | false ↦ λ differs. number_found ps n
    ] refl

-- a number leads to itself where an interface has it
pub number_by : (held d : RawDp) (numbers : BTreeSet ℕ) (names : BTreeMap (String Global) ℕ) (n : ℕ) (has : Bool) → HavePorts held.ports numbers names → held ≡ d → contains nat_cmp numbers n ≡ has
    → cond has (Some n) None ≡ number_named d (No n)
number_by held d numbers names n has have same is =
    ap (λ b. cond b (Some n) None) (sym is ∙ have.numbered n)
    ∙ number_found held.ports n
    ∙ ap (λ (e : RawDp). number_named e (No n)) same

-- ---- the datapaths of a configuration

itself : {A : Type 0} (o : Option A) → option_map (λ x. x) o ≡ o
itself None = refl
itself (Some x) = refl

-- the end on the datapath that is found
abbrev pub end_on : PortRef → RawDp → Option StackEnd
end_on port d = option_map (λ number. record { dp = d.id; port = number }) (number_named d port)

pub far_end_found : (held dps : List RawDp) (names : BTreeMap (String Global) RawDp) (end : RawStackEnd) (name : List ℕ) (d : Option RawDp)
    → LeadToFirst (λ (e : RawDp). e.names.name) (λ (e : RawDp). e) held names → held ≡ dps → d ≡ get_by_text names name → name ≡ end.dp
    → option_and_then (end_on end.port) d ≡ far_end dps end
far_end_found held dps names end name d lead same got is =
    ap (option_and_then (end_on end.port)) (got ∙ ap (get_by_text names) is ∙ lead.first end.dp ∙ itself (find (λ (e : RawDp). is_same e.names.name end.dp) held))
    ∙ ap (λ (ds : List RawDp). far_end ds end) same
