-- Lines and blocks, db by db and counter by counter.
use Rattle.std.proofs.Common.{◌≡◌, ℕ, suc, ◌+◌, ◌<◌, ◌≤◌, ◌&&◌, ◌++◌, not, Bool, true, false, Some, List, [], ◌∷◌, append_assoc, length, drop, get_or, slice_get, refl, sym, ap, ◌∙◌, arith, true≢false, if◌then◌else◌}
use Rattle.std.specs.List.{flat_map, list_any}
use Rattle.std.specs.Fmt.{decimal}
use Rattle.std.proofs.Math.Seq.{drop-cons}
use Rattle.std.proofs.lemmas.List.{drop_all}
use Rattle.std.proofs.lemmas.Option.{get_or_from_slice_get, slice_get_within}
use Rattle.net_base.specs.declared.numbers.Moment.{Moment}
use Rattle.conf_types.specs.declared.datapath.Dp.{Dp}
use Rattle.gauge_conf.specs.declared.gauge.Db.{Db}
use Rattle.gauge_conf.specs.declared.gauge.Db.TheVariants as db
use Rattle.gauge_conf.specs.declared.gauge.Watcher.{Watcher}
use Rattle.gauge_poll.specs.Lines.{block_to, blocks_in, columns, counted_lines, has_blocks, line_to, lines_in, takes_blocks}
use Rattle.gauge_poll.proofs.Keeping.{item_left}

pub none_behind : {A : Type 0} (xs : List A) → xs ++ [] ≡ xs
none_behind [] = refl
none_behind (x ∷ xs) = ap (λ ys. x ∷ ys) (none_behind xs)

-- one item more
pub more_flat : {A : Type 0} (f : A → List (List ℕ)) (all lines new : List (List ℕ)) (xs : List A) (i : ℕ) (x : A) → i < length xs → x ≡ get_or xs i x
    → lines ++ flat_map f (drop i xs) ≡ all → new ≡ lines ++ f x → new ++ flat_map f (drop (i + 1) xs) ≡ all
more_flat f all lines new xs i x within is so_far put =
    let rest = flat_map f (drop (i + 1) xs) in
    ap (λ ls. ls ++ rest) put ∙ append_assoc lines (f x) rest ∙ ap (λ ys. lines ++ flat_map f ys) (sym (item_left xs i x within is)) ∙ so_far

-- three columns in one are the same line
joined : (file a b c counter value : List ℕ) → columns (file ∷ columns (a ∷ b ∷ c ∷ []) ∷ counter ∷ value ∷ []) ≡ columns (file ∷ a ∷ b ∷ c ∷ counter ∷ value ∷ [])
joined file a b c counter value =
    let rest = 9 ∷ counter ++ 9 ∷ value in
    ap (λ more. file ++ 9 ∷ more) (append_assoc a (9 ∷ b ++ 9 ∷ c) rest ∙ ap (λ more. a ++ 9 ∷ more) (append_assoc b (9 ∷ c) rest))

flat_same : {A B : Type 0} (f g : A → List B) → ((x : A) → f x ≡ g x) → (xs : List A) → flat_map f xs ≡ flat_map g xs
flat_same f g same [] = refl
flat_same f g same (x ∷ xs) = ap (λ ys. ys ++ flat_map f xs) (same x) ∙ ap (λ ys. g x ++ ys) (flat_same f g same xs)

-- a watcher without blocks has none
no_blocks : (block : List ℕ) (dbs : List Db) → list_any takes_blocks dbs ≡ false → flat_map (block_to block) dbs ≡ []
no_blocks block [] none = refl
no_blocks block (db.Text file ∷ dbs) none = no_blocks block dbs none
no_blocks block (db.Prometheus ∷ dbs) none = absurd (true≢false none)

-- what doesn't count for a watcher with blocks gives none
pub none_taken : (w : Watcher) (block : List ℕ) (counted last : Bool) → (counted && has_blocks w) ≡ false → (if counted && last then blocks_in w block else []) ≡ []
none_taken w block false last none = refl
none_taken w block true true none = no_blocks block w.dbs none
none_taken w block true false none = refl

-- the last part of what counts gives all
pub all_taken : (w : Watcher) (block : List ℕ) (counted more : Bool) → (counted && has_blocks w) ≡ true → more ≡ false → (if counted && not more then blocks_in w block else []) ≡ blocks_in w block
all_taken w block true more takes last = ap (λ b. if not b then blocks_in w block else []) last
all_taken w block false more takes last = absurd (true≢false (sym takes))

module _ (w : Watcher) (moment : Moment) (d : Dp) (source : List ℕ) where
  abbrev pub front_of : List ℕ
  front_of = columns (decimal moment.0 ∷ d.name ∷ source ∷ [])

  same_line : (counter : List ℕ) (value : ℕ) (one : Db) → line_to (front_of ∷ counter ∷ decimal value ∷ []) one ≡ line_to (decimal moment.0 ∷ d.name ∷ source ∷ counter ∷ decimal value ∷ []) one
  same_line counter value (db.Text file) = ap (λ text. (text ++ 10 ∷ []) ∷ []) (joined file (decimal moment.0) d.name source counter (decimal value))
  same_line counter value db.Prometheus = refl

  pub in_dbs : (front counter : List ℕ) (value : ℕ) → front ≡ front_of → flat_map (line_to (front ∷ counter ∷ decimal value ∷ [])) w.dbs ≡ lines_in w moment d source counter value
  in_dbs front counter value is =
      ap (λ (f : List ℕ). flat_map (line_to (f ∷ counter ∷ decimal value ∷ [])) w.dbs) is
      ∙ flat_same (line_to (front_of ∷ counter ∷ decimal value ∷ [])) (line_to (decimal moment.0 ∷ d.name ∷ source ∷ counter ∷ decimal value ∷ [])) (same_line counter value) w.dbs

  -- one counter more
  pub counted_more : (all lines new : List (List ℕ)) (names : List (List ℕ)) (counters : List ℕ) (i : ℕ) (name : List ℕ) (value : ℕ) → slice_get names i ≡ Some name → i < length counters
      → value ≡ get_or counters i 0 → lines ++ counted_lines w moment d source (drop i names) (drop i counters) ≡ all → new ≡ lines ++ lines_in w moment d source name value
      → new ++ counted_lines w moment d source (drop (i + 1) names) (drop (i + 1) counters) ≡ all
  counted_more all lines new names counters i name value named within is so_far put =
      let next : i + 1 ≡ suc i = omega arith in
      let names_left : drop i names ≡ name ∷ drop (i + 1) names = item_left names i name (slice_get_within names i name named) (sym (get_or_from_slice_get names i name name named)) in
      let counters_left : drop i counters ≡ value ∷ drop (i + 1) counters =
      drop-cons counters i 0 within ∙ ap (λ v. v ∷ drop (suc i) counters) (sym is) ∙ ap (λ n. value ∷ drop n counters) (sym next) in
      let rest = counted_lines w moment d source (drop (i + 1) names) (drop (i + 1) counters) in
      ap (λ ls. ls ++ rest) put
      ∙ append_assoc lines (lines_in w moment d source name value) rest
      ∙ ap (λ vs. lines ++ counted_lines w moment d source (name ∷ drop (i + 1) names) vs) (sym counters_left)
      ∙ ap (λ ns. lines ++ counted_lines w moment d source ns (drop i counters)) (sym names_left)
      ∙ so_far

  pub counted_end : (all lines : List (List ℕ)) (names : List (List ℕ)) (counters : List ℕ) (i : ℕ) → length names ≤ i → lines ++ counted_lines w moment d source (drop i names) (drop i counters) ≡ all → lines ≡ all
  counted_end all lines names counters i past so_far =
      sym (none_behind lines) ∙ ap (λ ns. lines ++ counted_lines w moment d source ns (drop i counters)) (sym (drop_all i names past)) ∙ so_far
