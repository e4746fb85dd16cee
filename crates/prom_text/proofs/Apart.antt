-- Samples are told apart, and blocks are such as can be read back.
use Rattle.std.proofs.Common.{◌≡◌, ◌≢◌, ℕ, zero, suc, ◌^◌, ◌<◌, Bool, true, false, cond, not, ◌&&◌, ◌||◌, List, [], ◌∷◌, get_or, map, codes, refl, sym, ap, ◌∙◌, arith, eq-eqb, lit<, true≢false}
use Rattle.std.specs.Fmt.{decimal}
use Rattle.std.specs.List.{AllByRecursion, list_any}
use Rattle.std.specs.Str.{bytes_eq}
use Rattle.std.proofs.lemmas.Fmt.{decimal_injective}
use Rattle.std.proofs.lemmas.Slice.Eq.{bytes_eq-Decides}
use Rattle.conf_types.specs.declared.datapath.Dp.{Dp}
use Rattle.flow_stats.specs.declared.flow.Flow.{Flow}
use Rattle.hex.specs.Hex.{encode_lower}
use Rattle.of13_codec.specs.declared.ports.PortStats.{PortStats}
use Rattle.prom_text.specs.Apart.{AreApart, FitsFlow, FitsPort, HaveOwnLabels, HaveOwnNames}
use Rattle.prom_text.specs.Blocks.{Row, flow_block, flow_labels, flow_metric_names, flow_row, flow_rows, metrics, port_block, port_labels, port_metric_names, port_row, port_rows, sample_at, state_block, state_row}
use Rattle.prom_text.specs.Counted.{counted_flows, counted_ports, firsts, is_same_flow, is_same_port, most_flows, most_ports}
use Rattle.prom_text.specs.Reading.{IsMetric, IsSample, is_kind, is_label_name, is_metric_name}
use Rattle.prom_text.specs.Samples.{Label, Metric, Sample}
use Rattle.prom_text.proofs.Counting.{Differ, all_firsts, all_taken, differ_taken, firsts_differ}
use Rattle.prom_text.proofs.FlowNames.{hex_injective, same_flow}

-- ---- rows with labels of their own

abbrev value_at : ℕ → List Label → List ℕ
value_at n [] = []
value_at zero (l ∷ more) = l.value
value_at (suc n) (l ∷ more) = value_at n more

module _ {A : Type 0} (same : A → A → Bool) (Fits : A → Type 0) (row : A → Row) (told : (x y : A) → Fits x → Fits y → (row x).labels ≡ (row y).labels → same x y ≡ true) where
  apart_from : (place : ℕ) (x : A) (ys : List A) → Fits x → AllByRecursion Fits ys → AllByRecursion (λ y. same x y ≡ false) ys
      → AllByRecursion (λ (t : Sample). (row x).labels ≢ t.labels) (map (sample_at place) (map row ys))
  apart_from place x [] fit fits d = tt
  apart_from place x (y ∷ ys) fit fits d = ((λ e. true≢false (sym (told x y fit fits.0 e) ∙ d.0)), apart_from place x ys fit fits.1 d.1)

  own_labels : (place : ℕ) (xs : List A) → AllByRecursion Fits xs → Differ same xs → HaveOwnLabels (map (sample_at place) (map row xs))
  own_labels place [] fits d = tt
  own_labels place (x ∷ xs) fits d = (apart_from place x xs fits.0 fits.1 d.0, own_labels place xs fits.1 d.1)

  all_own : (names : List (List ℕ)) (kind : List ℕ) (place : ℕ) (xs : List A) → AllByRecursion Fits xs → Differ same xs → AllByRecursion (λ (m : Metric). HaveOwnLabels m.samples) (metrics names kind place (map row xs))
  all_own [] kind place xs fits d = tt
  all_own (name ∷ names) kind place xs fits d = (own_labels place xs fits d, all_own names kind (suc place) xs fits d)

-- ---- metrics with names of their own

abbrev names_apart : List (List ℕ) → Bool
names_apart [] = true
names_apart (name ∷ more) = not (list_any (bytes_eq name) more) && names_apart more

both : (a b : Bool) → a && b ≡ true → (a ≡ true) × (b ≡ true)
both true true e = (refl, refl)
both true false e = absurd (cc)
both false b e = absurd (cc)

neither : (a b : Bool) → not (a || b) ≡ true → (a ≡ false) × (not b ≡ true)
neither true b e = absurd (cc)
neither false b e = (refl, e)

name_apart : (name : List ℕ) (names : List (List ℕ)) (kind : List ℕ) (place : ℕ) (rows : List Row) → not (list_any (bytes_eq name) names) ≡ true
    → AllByRecursion (λ (m : Metric). name ≢ m.name) (metrics names kind place rows)
name_apart name [] kind place rows e = tt
name_apart name (other ∷ more) kind place rows e =
    let each = neither _ _ e in
    ((λ same. true≢false (sym ((bytes_eq-Decides name other).1 same) ∙ each.0)), name_apart name more kind (suc place) rows each.1)

own_names : (names : List (List ℕ)) (kind : List ℕ) (place : ℕ) (rows : List Row) → names_apart names ≡ true → HaveOwnNames (metrics names kind place rows)
own_names [] kind place rows e = tt
own_names (name ∷ more) kind place rows e = let each = both _ _ e in (name_apart name more kind (suc place) rows each.0, own_names more kind (suc place) rows each.1)

-- ---- ports

port_told : (d : Dp) (x y : PortStats) → FitsPort x → FitsPort y → port_labels d x.no ≡ port_labels d y.no → is_same_port x y ≡ true
port_told d x y p q e =
    let text : decimal x.no ≡ decimal y.no = ap (value_at 2) e in
    eq-eqb x.no y.no (decimal_injective x.no y.no (omega (arith, p.no)) (omega (arith, q.no)) text)

ports_fit : (items : List PortStats) → AllByRecursion FitsPort items → AllByRecursion FitsPort (counted_ports items)
unfolding counted_ports
ports_fit items fits = all_taken FitsPort most_ports (firsts is_same_port [] items) (all_firsts FitsPort is_same_port [] items fits)

ports_differ : (items : List PortStats) → Differ is_same_port (counted_ports items)
unfolding counted_ports
ports_differ items = differ_taken is_same_port most_ports (firsts is_same_port [] items) (firsts_differ is_same_port [] items)

port_names_apart : names_apart port_metric_names ≡ true
unfolding port_metric_names
port_names_apart = refl

pub ports_apart : (d : Dp) (items : List PortStats) → AllByRecursion FitsPort items → AreApart (port_block d items)
unfolding port_block
ports_apart d items fits = record {
  names = own_names port_metric_names (codes "counter") 0 (port_rows d items) port_names_apart;
  labels = all_own is_same_port FitsPort (port_row d) (port_told d) port_metric_names (codes "counter") 0 (counted_ports items) (ports_fit items fits) (ports_differ items);
}

-- ---- flow entries

flow_told : (d : Dp) (x y : Flow) → FitsFlow x → FitsFlow y → flow_labels d x ≡ flow_labels d y → is_same_flow x y ≡ true
flow_told d x y p q e =
    let table : decimal x.table ≡ decimal y.table = ap (value_at 2) e in
    let priority : decimal x.priority ≡ decimal y.priority = ap (value_at 3) e in
    let key : encode_lower x.key ≡ encode_lower y.key = ap (value_at 4) e in
    same_flow x y
    (decimal_injective x.table y.table (omega (arith, p.name.table)) (omega (arith, q.name.table)) table)
    (decimal_injective x.priority y.priority (omega (arith, p.name.priority)) (omega (arith, q.name.priority)) priority)
    (hex_injective x.key y.key p.name.key q.name.key key)

flows_fit : (flows : List Flow) → AllByRecursion FitsFlow flows → AllByRecursion FitsFlow (counted_flows flows)
unfolding counted_flows
flows_fit flows fits = all_taken FitsFlow most_flows (firsts is_same_flow [] flows) (all_firsts FitsFlow is_same_flow [] flows fits)

flows_differ : (flows : List Flow) → Differ is_same_flow (counted_flows flows)
unfolding counted_flows
flows_differ flows = differ_taken is_same_flow most_flows (firsts is_same_flow [] flows) (firsts_differ is_same_flow [] flows)

pub flows_apart : (d : Dp) (flows : List Flow) → AllByRecursion FitsFlow flows → AreApart (flow_block d flows)
unfolding flow_block
flows_apart d flows fits = record {
  names = own_names flow_metric_names (codes "counter") 0 (flow_rows d flows) refl;
  labels = all_own is_same_flow FitsFlow (flow_row d) (flow_told d) flow_metric_names (codes "counter") 0 (counted_flows flows) (flows_fit flows fits) (flows_differ flows);
}

-- ---- blocks that can be read back

record IsRow (r : Row) : Type 0 where
  pub labels : AllByRecursion (λ (l : Label). is_label_name l.name ≡ true) r.labels
  pub values : (i : ℕ) → get_or r.values i 0 < 2 ^ 64

samples_are : (place : ℕ) (rows : List Row) → AllByRecursion IsRow rows → AllByRecursion IsSample (map (sample_at place) rows)
samples_are place [] are = tt
samples_are place (r ∷ more) are = (record { labels = are.0.labels; value = are.0.values place }, samples_are place more are.1)

metrics_are : (names : List (List ℕ)) (kind : List ℕ) (place : ℕ) (rows : List Row) → AllByRecursion (λ n. is_metric_name n ≡ true) names → is_kind kind ≡ true → AllByRecursion IsRow rows
    → AllByRecursion IsMetric (metrics names kind place rows)
metrics_are [] kind place rows named known are = tt
metrics_are (name ∷ names) kind place rows named known are =
    (record { name = named.0; kind = known; samples = samples_are place rows are }, metrics_are names kind (suc place) rows named.1 known are)

rows_are : {A : Type 0} (Fits : A → Type 0) (row : A → Row) → ((x : A) → Fits x → IsRow (row x)) → (xs : List A) → AllByRecursion Fits xs → AllByRecursion IsRow (map row xs)
rows_are Fits row is [] fits = tt
rows_are Fits row is (x ∷ xs) fits = (is x fits.0, rows_are Fits row is xs fits.1)

port_is_row : (d : Dp) (p : PortStats) → FitsPort p → IsRow (port_row d p)
port_is_row d p fits = record { labels = (refl, (refl, (refl, (refl, tt)))); values = fits.counters }

port_names_are : AllByRecursion (λ n. is_metric_name n ≡ true) port_metric_names
unfolding port_metric_names
port_names_are = (refl, (refl, (refl, (refl, (refl, (refl, (refl, (refl, (refl, (refl, (refl, (refl, tt))))))))))))

pub ports_are : (d : Dp) (items : List PortStats) → AllByRecursion FitsPort items → AllByRecursion IsMetric (port_block d items)
unfolding port_block
ports_are d items fits =
    metrics_are port_metric_names (codes "counter") 0 (port_rows d items) port_names_are refl (rows_are FitsPort (port_row d) (port_is_row d) (counted_ports items) (ports_fit items fits))

flow_is_row : (d : Dp) (f : Flow) → FitsFlow f → IsRow (flow_row d f)
flow_is_row d f fits = record { labels = (refl, (refl, (refl, (refl, (refl, tt))))); values = each }
  where
    each : (i : ℕ) → get_or (f.packets ∷ f.bytes ∷ []) i 0 < 2 ^ 64
    each zero = fits.packets
    each (suc zero) = fits.bytes
    each (suc (suc i)) = lit< tt

pub flows_are : (d : Dp) (flows : List Flow) → AllByRecursion FitsFlow flows → AllByRecursion IsMetric (flow_block d flows)
unfolding flow_block
flows_are d flows fits =
    metrics_are flow_metric_names (codes "counter") 0 (flow_rows d flows) (refl, (refl, tt)) refl (rows_are FitsFlow (flow_row d) (flow_is_row d) (counted_flows flows) (flows_fit flows fits))

state_is_row : (d : Dp) (number : ℕ) (up : Bool) → IsRow (state_row d number up)
state_is_row d number up = record { labels = (refl, (refl, (refl, (refl, tt)))); values = each up }
  where
    each : (up : Bool) (i : ℕ) → get_or (cond up 1 0 ∷ []) i 0 < 2 ^ 64
    each true zero = lit< tt
    each false zero = lit< tt
    each up (suc i) = lit< tt

pub state_are : (d : Dp) (number : ℕ) (up : Bool) → AllByRecursion IsMetric (state_block d number up)
unfolding state_block
state_are d number up = metrics_are (codes "of_port_state" ∷ []) (codes "gauge") 0 (state_row d number up ∷ []) (refl, tt) refl (state_is_row d number up, tt)
