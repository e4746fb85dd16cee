-- What the tagged VLANs of an interface say, by their names and by their numbers.
use Rattle.std.proofs.Common.{◌≡◌, ℕ, ◌+◌, Bool, ◌||◌, List, [], ◌∷◌, ◌++◌, map, append_assoc, append-nil, Option, Some, None, option_and_then, refl, sym, ap, ◌∙◌}
use Rattle.std.proofs.lemmas.List.{map-append}
use Rattle.std.specs.List.{flat_map, list_any, enumerate_from}
use Rattle.conf_shape.specs.declared.raw.VlanRef.{VlanRef}
use Rattle.conf_shape.specs.declared.refused.ConfCause.TheVariants.{Duplicate}
use Rattle.conf_resolve.specs.declared.ordered.OrderedConf.{OrderedConf}
use Rattle.conf_resolve.specs.Resolved.{to_list, vid_of}
use Rattle.conf_rules.specs.Names.{is_same_vlan, named_again, is_same_vid, vid_again}
use Rattle.conf_rules.specs.Places.{nth, each_at, fault_if, with_earlier, is_repeat}

any-mapped : {A B : Type 0} (p : B → Bool) (h : A → B) (xs : List A) → list_any (λ x. p (h x)) xs ≡ list_any p (map h xs)
any-mapped p h [] = refl
any-mapped p h (x ∷ xs) = ap (λ b. p (h x) || b) (any-mapped p h xs)

-- a name is a repeat where its number is
same_repeat : (o : OrderedConf) (native : Option VlanRef) (es : List VlanRef) (x : VlanRef)
    → is_repeat (is_same_vlan o) (to_list native ++ es, x)
    ≡ (is_same_vid (option_and_then (vid_of o.vlans) native) (vid_of o.vlans x) || is_repeat is_same_vid (map (vid_of o.vlans) es, vid_of o.vlans x))
same_repeat o None es x = any-mapped (λ a. is_same_vid a (vid_of o.vlans x)) (vid_of o.vlans) es
same_repeat o (Some name) es x =
    ap (λ b. is_same_vid (vid_of o.vlans name) (vid_of o.vlans x) || b) (any-mapped (λ a. is_same_vid a (vid_of o.vlans x)) (vid_of o.vlans) es)

-- from a place in the list on, behind the native one and the tagged ones before it
in_numbers : (o : OrderedConf) (native : Option VlanRef) (site : List (List ℕ)) (n : ℕ) (es xs : List VlanRef)
    → flat_map (named_again o) (flat_map (λ item. (nth site item.0, item.1) ∷ []) (enumerate_from n (with_earlier (to_list native ++ es) xs)))
    ≡ flat_map (vid_again (option_and_then (vid_of o.vlans) native)) (flat_map (λ item. (nth site item.0, item.1) ∷ []) (enumerate_from n (with_earlier (map (vid_of o.vlans) es) (map (vid_of o.vlans) xs))))
in_numbers o native site n es [] = refl
in_numbers o native site n es (x ∷ xs) =
    let rest = λ (before : List VlanRef). flat_map (named_again o) (flat_map (λ item. (nth site item.0, item.1) ∷ []) (enumerate_from (n + 1) (with_earlier before xs))) in
    let rest_by = λ (before : List (Option ℕ)). flat_map (vid_again (option_and_then (vid_of o.vlans) native)) (flat_map (λ item. (nth site item.0, item.1) ∷ []) (enumerate_from (n + 1) (with_earlier before (map (vid_of o.vlans) xs)))) in
    let here = vid_again (option_and_then (vid_of o.vlans) native) (nth site n, (map (vid_of o.vlans) es, vid_of o.vlans x)) in
    ap (λ b. fault_if b Duplicate (nth site n) ++ rest ((to_list native ++ es) ++ x ∷ [])) (same_repeat o native es x)
    ∙ ap (λ t. here ++ rest t) (append_assoc (to_list native) es (x ∷ []))
    ∙ ap (λ t. here ++ t) (in_numbers o native site (n + 1) (es ++ x ∷ []) xs)
    ∙ ap (λ t. here ++ rest_by t) (map-append (vid_of o.vlans) es (x ∷ []))

-- of the whole list
pub by_numbers : (o : OrderedConf) (native : Option VlanRef) (site : List (List ℕ)) (tagged : List VlanRef) (number : Option ℕ) (vids : List (Option ℕ))
    → number ≡ option_and_then (vid_of o.vlans) native → vids ≡ map (vid_of o.vlans) tagged
    → flat_map (vid_again number) (each_at site (with_earlier [] vids)) ≡ flat_map (named_again o) (each_at site (with_earlier (to_list native) tagged))
by_numbers o native site tagged number vids e d =
    ap (λ n. flat_map (vid_again n) (each_at site (with_earlier [] vids))) e
    ∙ ap (λ t. flat_map (vid_again (option_and_then (vid_of o.vlans) native)) (each_at site (with_earlier [] t))) d
    ∙ sym (in_numbers o native site 0 [] tagged)
    ∙ ap (λ es. flat_map (named_again o) (each_at site (with_earlier es tagged))) (append-nil (to_list native))
