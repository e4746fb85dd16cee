-- The items that count, one by one.
use Rattle.std.proofs.Common.{◌≡◌, ◌≢◌, ℕ, ◌+◌, ◌≤◌, ◌<◌, Bool, true, false, ◌||◌, List, [], ◌∷◌, ◌++◌, length, take, get_or, map, refl, sym, ap, ◌∙◌, subst}
use Rattle.std.specs.BTreeSet.{BTreeSet, contains_text}
use Rattle.std.specs.List.{AllByRecursion, list_any}
use Rattle.std.specs.Str.{bytes_eq}
use Rattle.std.specs.declared.alloc.Global.{Global}
use Rattle.std.specs.declared.string.String.{String}
use Rattle.flow_stats.specs.declared.flow.Flow.{Flow}
use Rattle.of13_codec.specs.declared.ports.PortStats.{PortStats}
use Rattle.prom_text.specs.Apart.{FitsName}
use Rattle.prom_text.specs.Blocks.{flow_name}
use Rattle.prom_text.specs.Counted.{counted_flows, counted_ports, is_same_flow, is_same_port, most_flows, most_ports}
use Rattle.prom_text.proofs.Counting.{SoFar, all_more, any_more, ended, full, none_yet, passed, taken}
use Rattle.prom_text.proofs.FlowNames.{found_by_name}
use Rattle.prom_text.proofs.PortsKept.{PortsSoFar}

map_it : {A : Type 0} (xs : List A) → map (λ x. x) xs ≡ xs
map_it [] = refl
map_it (x ∷ xs) = ap (λ l. x ∷ l) (map_it xs)

-- ---- ports

abbrev pub it_port : PortStats → PortStats
it_port p = p

pub ports_full : (items : List PortStats) (i : ℕ) (seen : BTreeSet ℕ) (made : List PortStats) → length made ≡ most_ports → PortsSoFar it_port items i seen made → made ≡ counted_ports items
unfolding counted_ports
ports_full items i seen made all p = full is_same_port it_port most_ports items i made all p.far ∙ map_it (counted_ports items)

pub ports_ended : (items : List PortStats) (i : ℕ) (seen : BTreeSet ℕ) (made : List PortStats) → length items ≤ i → PortsSoFar it_port items i seen made → made ≡ counted_ports items
unfolding counted_ports
ports_ended items i seen made past p = ended is_same_port it_port most_ports items i made past p.far ∙ map_it (counted_ports items)

-- ---- flow entries

abbrev it_flow : Flow → Flow
it_flow f = f

pub record FlowsSoFar (flows : List Flow) (i : ℕ) (seen : BTreeSet (String Global)) (made : List Flow) : Type 0 where
  pub fit : AllByRecursion FitsName (take i flows)
  pub seen_are : (t : List ℕ) → contains_text seen t ≡ list_any (λ f. bytes_eq (flow_name f) t) (take i flows)
  pub far : SoFar is_same_flow it_flow most_flows flows i made

pub flows_full : (flows : List Flow) (i : ℕ) (seen : BTreeSet (String Global)) (made : List Flow) → length made ≡ most_flows → FlowsSoFar flows i seen made → made ≡ counted_flows flows
unfolding counted_flows
flows_full flows i seen made all p = full is_same_flow it_flow most_flows flows i made all p.far ∙ map_it (counted_flows flows)

pub flows_ended : (flows : List Flow) (i : ℕ) (seen : BTreeSet (String Global)) (made : List Flow) → length flows ≤ i → FlowsSoFar flows i seen made → made ≡ counted_flows flows
unfolding counted_flows
flows_ended flows i seen made past p = ended is_same_flow it_flow most_flows flows i made past p.far ∙ map_it (counted_flows flows)

module _ (flows : List Flow) (i : ℕ) (x : Flow) (seen more : BTreeSet (String Global)) (made : List Flow) (within : i < length flows) (is : x ≡ get_or flows i x)
    (fits : FitsName x) (grown : (t : List ℕ) → contains_text more t ≡ (contains_text seen t || bytes_eq (flow_name x) t)) where
  see_flow : FlowsSoFar flows i seen made → (t : List ℕ) → contains_text more t ≡ list_any (λ f. bytes_eq (flow_name f) t) (take (i + 1) flows)
  see_flow p t = grown t ∙ ap (λ b. b || bytes_eq (flow_name x) t) (p.seen_are t) ∙ sym (any_more (λ f. bytes_eq (flow_name f) t) flows i x within is)

  found : FlowsSoFar flows i seen made → list_any (λ f. is_same_flow f x) (take i flows) ≡ contains_text seen (flow_name x)
  found p = sym (found_by_name (take i flows) x p.fit fits) ∙ sym (p.seen_are (flow_name x))

  pub flow_passed : (was : Bool) → was ≡ contains_text seen (flow_name x) → was ≡ true → FlowsSoFar flows i seen made → FlowsSoFar flows (i + 1) more made
  flow_passed was told e p = record {
    fit = all_more FitsName flows i x within is p.fit fits;
    seen_are = see_flow p;
    far = passed is_same_flow it_flow most_flows flows i x made within is (found p ∙ sym told ∙ e) p.far;
  }

  pub flow_taken : (was : Bool) (one : Flow) → was ≡ contains_text seen (flow_name x) → was ≡ false → length made ≢ most_flows → one ≡ x → FlowsSoFar flows i seen made
      → FlowsSoFar flows (i + 1) more (made ++ one ∷ [])
  flow_taken was one told e room same p = record {
    fit = all_more FitsName flows i x within is p.fit fits;
    seen_are = see_flow p;
    far = subst (λ r. SoFar is_same_flow it_flow most_flows flows (i + 1) (made ++ r ∷ [])) (sym same)
        (taken is_same_flow it_flow most_flows flows i x made within is (found p ∙ sym told ∙ e) room p.far);
  }

pub no_flows : (flows : List Flow) (seen : BTreeSet (String Global)) → ((t : List ℕ) → contains_text seen t ≡ false) → FlowsSoFar flows 0 seen []
no_flows flows seen none = record { fit = tt; seen_are = none; far = none_yet is_same_flow it_flow most_flows flows }
