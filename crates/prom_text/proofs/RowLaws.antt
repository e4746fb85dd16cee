-- Rows of items that count, and the metrics of rows.
use Rattle.std.proofs.Common.{◌≡◌, ◌≢◌, ℕ, suc, ◌+◌, ◌≤◌, ◌<◌, Bool, true, false, ◌||◌, List, [], ◌∷◌, ◌++◌, length, take, drop, get_or, slice_get, map, Some, refl, sym, ap, ◌∙◌, subst, arith, append_assoc}
use Rattle.std.specs.BTreeSet.{BTreeSet, contains_text}
use Rattle.std.specs.List.{AllByRecursion, flat_map, list_any}
use Rattle.std.specs.Str.{bytes_eq}
use Rattle.std.specs.declared.alloc.Global.{Global}
use Rattle.std.specs.declared.string.String.{String}
use Rattle.std.proofs.Math.Seq.{drop-cons}
use Rattle.std.proofs.lemmas.List.{append-nil, drop_all}
use Rattle.std.proofs.lemmas.Option.{get_or_from_slice_get, slice_get_within}
use Rattle.conf_types.specs.declared.datapath.Dp.{Dp}
use Rattle.flow_stats.specs.declared.flow.Flow.{Flow}
use Rattle.of13_codec.specs.declared.ports.PortStats.{PortStats}
use Rattle.prom_text.specs.declared.rows.Row.{Row as Spelled}
use Rattle.prom_text.specs.Apart.{FitsName}
use Rattle.prom_text.specs.Blocks.{Row, flow_name, flow_row, flow_rows, metric, metrics, port_metric_names, port_row, port_rows, sample_at}
use Rattle.prom_text.specs.Counted.{counted_flows, counted_ports, is_same_flow, is_same_port, most_flows, most_ports}
use Rattle.prom_text.specs.Samples.{metric_text, sample_line, sample_text, type_line}
use Rattle.prom_text.specs.Spelled.{AreSpelled, spelled}
use Rattle.prom_text.proofs.Counting.{SoFar, all_more, any_more, ended, full, map_map, none_yet, passed, taken}
use Rattle.prom_text.proofs.FlowNames.{found_by_name}
use Rattle.prom_text.proofs.PortsKept.{PortsSoFar}

-- ---- ports

abbrev pub made_port : Dp → PortStats → Spelled
made_port d p = spelled (port_row d p)

pub ports_done : (d : Dp) (items : List PortStats) (rows : List Spelled) → rows ≡ map (made_port d) (counted_ports items) → AreSpelled rows (port_rows d items)
ports_done d items rows e = e ∙ sym (map_map (port_row d) spelled (counted_ports items))

pub ports_full : (d : Dp) (items : List PortStats) (i : ℕ) (seen : BTreeSet ℕ) (rows : List Spelled) → length rows ≡ most_ports → PortsSoFar (made_port d) items i seen rows → AreSpelled rows (port_rows d items)
unfolding counted_ports
ports_full d items i seen rows all p = ports_done d items rows (full is_same_port (made_port d) most_ports items i rows all p.far)

pub ports_ended : (d : Dp) (items : List PortStats) (i : ℕ) (seen : BTreeSet ℕ) (rows : List Spelled) → length items ≤ i → PortsSoFar (made_port d) items i seen rows → AreSpelled rows (port_rows d items)
unfolding counted_ports
ports_ended d items i seen rows past p = ports_done d items rows (ended is_same_port (made_port d) most_ports items i rows past p.far)

-- ---- flow entries

abbrev pub made_flow : Dp → Flow → Spelled
made_flow d f = spelled (flow_row d f)

pub record FlowsSoFar (d : Dp) (flows : List Flow) (i : ℕ) (seen : BTreeSet (String Global)) (rows : List Spelled) : Type 0 where
  pub fit : AllByRecursion FitsName (take i flows)
  pub seen_are : (t : List ℕ) → contains_text seen t ≡ list_any (λ f. bytes_eq (flow_name f) t) (take i flows)
  pub far : SoFar is_same_flow (made_flow d) most_flows flows i rows

pub flows_done : (d : Dp) (flows : List Flow) (rows : List Spelled) → rows ≡ map (made_flow d) (counted_flows flows) → AreSpelled rows (flow_rows d flows)
flows_done d flows rows e = e ∙ sym (map_map (flow_row d) spelled (counted_flows flows))

pub flows_full : (d : Dp) (flows : List Flow) (i : ℕ) (seen : BTreeSet (String Global)) (rows : List Spelled) → length rows ≡ most_flows → FlowsSoFar d flows i seen rows → AreSpelled rows (flow_rows d flows)
unfolding counted_flows
flows_full d flows i seen rows all p = flows_done d flows rows (full is_same_flow (made_flow d) most_flows flows i rows all p.far)

pub flows_ended : (d : Dp) (flows : List Flow) (i : ℕ) (seen : BTreeSet (String Global)) (rows : List Spelled) → length flows ≤ i → FlowsSoFar d flows i seen rows → AreSpelled rows (flow_rows d flows)
unfolding counted_flows
flows_ended d flows i seen rows past p = flows_done d flows rows (ended is_same_flow (made_flow d) most_flows flows i rows past p.far)

module _ (d : Dp) (flows : List Flow) (i : ℕ) (x : Flow) (seen more : BTreeSet (String Global)) (rows : List Spelled) (within : i < length flows) (is : x ≡ get_or flows i x)
    (fits : FitsName x) (grown : (t : List ℕ) → contains_text more t ≡ (contains_text seen t || bytes_eq (flow_name x) t)) where
  see_flow : FlowsSoFar d flows i seen rows → (t : List ℕ) → contains_text more t ≡ list_any (λ f. bytes_eq (flow_name f) t) (take (i + 1) flows)
  see_flow p t = grown t ∙ ap (λ b. b || bytes_eq (flow_name x) t) (p.seen_are t) ∙ sym (any_more (λ f. bytes_eq (flow_name f) t) flows i x within is)

  found : FlowsSoFar d flows i seen rows → list_any (λ f. is_same_flow f x) (take i flows) ≡ contains_text seen (flow_name x)
  found p = sym (found_by_name (take i flows) x p.fit fits) ∙ sym (p.seen_are (flow_name x))

  pub flow_passed : (was : Bool) → was ≡ contains_text seen (flow_name x) → was ≡ true → FlowsSoFar d flows i seen rows → FlowsSoFar d flows (i + 1) more rows
  flow_passed was told e p = record {
    fit = all_more FitsName flows i x within is p.fit fits;
    seen_are = see_flow p;
    far = passed is_same_flow (made_flow d) most_flows flows i x rows within is (found p ∙ sym told ∙ e) p.far;
  }

  pub flow_taken : (was : Bool) (row : Spelled) → was ≡ contains_text seen (flow_name x) → was ≡ false → length rows ≢ most_flows → row ≡ made_flow d x → FlowsSoFar d flows i seen rows
      → FlowsSoFar d flows (i + 1) more (rows ++ row ∷ [])
  flow_taken was row told e room made p = record {
    fit = all_more FitsName flows i x within is p.fit fits;
    seen_are = see_flow p;
    far = subst (λ r. SoFar is_same_flow (made_flow d) most_flows flows (i + 1) (rows ++ r ∷ [])) (sym made)
        (taken is_same_flow (made_flow d) most_flows flows i x rows within is (found p ∙ sym told ∙ e) room p.far);
  }

pub no_flows : (d : Dp) (flows : List Flow) (seen : BTreeSet (String Global)) → ((t : List ℕ) → contains_text seen t ≡ false) → FlowsSoFar d flows 0 seen []
no_flows d flows seen none = record { fit = tt; seen_are = none; far = none_yet is_same_flow (made_flow d) most_flows flows }

-- ---- metrics

abbrev pub line_of : (name : List ℕ) → (place : ℕ) → Spelled → List ℕ
line_of name place r = sample_line name r.labels (get_or r.values place 0)

lines_same : (name : List ℕ) (place : ℕ) (told : List Row) → flat_map (line_of name place) (map spelled told) ≡ flat_map (sample_text name) (map (sample_at place) told)
lines_same name place [] = refl
lines_same name place (r ∷ more) = ap (λ l. line_of name place (spelled r) ++ l) (lines_same name place more)

pub metric_done : (out new name kind : List ℕ) (place : ℕ) (rows : List Spelled) (told : List Row) → new ≡ out ++ (type_line name kind ++ flat_map (line_of name place) rows) → AreSpelled rows told
    → new ≡ out ++ metric_text (metric name kind place told)
metric_done out new name kind place rows told e are =
    e ∙ ap (λ (rs : List Spelled). out ++ (type_line name kind ++ flat_map (line_of name place) rs)) are ∙ ap (λ l. out ++ (type_line name kind ++ l)) (lines_same name place told)

pub metrics_more : (all out new : List ℕ) (names : List (List ℕ)) (kind name : List ℕ) (i : ℕ) (told : List Row) → slice_get names i ≡ Some name
    → out ++ flat_map metric_text (metrics (drop i names) kind i told) ≡ all → new ≡ out ++ metric_text (metric name kind i told)
    → new ++ flat_map metric_text (metrics (drop (i + 1) names) kind (i + 1) told) ≡ all
metrics_more all out new names kind name i told named so_far put =
    let next : i + 1 ≡ suc i = omega arith in
    let within : i < length names = slice_get_within names i name named in
    let left : drop i names ≡ name ∷ drop (i + 1) names =
    drop-cons names i name within ∙ ap (λ n. n ∷ drop (suc i) names) (get_or_from_slice_get names i name name named) ∙ ap (λ n. name ∷ drop n names) (sym next) in
    let rest = drop (i + 1) names in
    ap (λ l. l ++ flat_map metric_text (metrics rest kind (i + 1) told)) put
    ∙ append_assoc out (metric_text (metric name kind i told)) (flat_map metric_text (metrics rest kind (i + 1) told))
    ∙ ap (λ n. out ++ (metric_text (metric name kind i told) ++ flat_map metric_text (metrics rest kind n told))) next
    ∙ ap (λ ns. out ++ flat_map metric_text (metrics ns kind i told)) (sym left)
    ∙ so_far

pub metrics_end : (all out : List ℕ) (names : List (List ℕ)) (kind : List ℕ) (i : ℕ) (told : List Row) → length names ≤ i → out ++ flat_map metric_text (metrics (drop i names) kind i told) ≡ all → out ≡ all
metrics_end all out names kind i told past so_far =
    sym (append-nil out) ∙ ap (λ ns. out ++ flat_map metric_text (metrics ns kind i told)) (sym (drop_all i names past)) ∙ so_far

pub twelve_names : length port_metric_names ≡ 12
unfolding port_metric_names
twelve_names = refl
