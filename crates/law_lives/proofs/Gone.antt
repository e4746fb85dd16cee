-- A reload closes exactly the connections of datapaths that its configuration hasn't.
use Rattle.std.proofs.Common.{◌≡◌, ◌<◌, ℕ, ◌==◌, ◌&&◌, ◌||◌, Bool, true, false, cond, not, is_some, Option, Some, None, Result, Ok, Err, List, [], ◌∷◌, filter, map, refl, sym, ap, ◌∙◌, arith, if◌then◌else◌}
use Rattle.std.specs.List.{AllByRecursion, list_any}
use Rattle.std.specs.Option.{option_map_or}
use Rattle.std.proofs.lemmas.Bool.{eqb-true}
use Rattle.net_base.specs.declared.numbers.DpId.{DpId}
use Rattle.fg_outside.specs.declared.hub.Happening.{Happening}
use Rattle.fg_outside.specs.declared.hub.Happening.TheVariants as happenings
use Rattle.conf_types.specs.Configuration.{Configuration}
use Rattle.conf_types.specs.Groups.{group_of}
use Rattle.conf_types.specs.Lists.{EachBefore}
use Rattle.neighbour_resolve.specs.Asks.{in_order}
use Rattle.switch_session.specs.declared.closing.Closing.TheVariants.{UnknownDp}
use Rattle.ctl_world.specs.declared.conns.Conn.{Conn}
use Rattle.ctl_world.specs.declared.said.Said.TheVariants as told
use Rattle.ctl_world.specs.Connections.{conn_with, has_number, is_open}
use Rattle.ctl_world.specs.Ends.{close, end_line}
use Rattle.ctl_world.specs.World.{World, running}
use Rattle.ctl_world.proofs.Numbered.{apart}
use Rattle.ctl_life.proofs.Openings.{open_is}
use Rattle.ctl_core.specs.Settlings.{settle}
use Rattle.ctl_core.specs.Hearing.{want_gateways, want_in}
use Rattle.ctl_core.specs.Reloading.{accepted, close_each, close_stray, is_stray, reload, renew, strays, want_each}
use Rattle.ctl_core.specs.Turns.{turn}
use Rattle.law_stories.proofs.StoryOpen.{left_open}
use Rattle.law_lives.proofs.Silences.{closed, closed_more, is_in, or_none, settle_closes}
use Rattle.law_lives.specs.Gone.{ClosesBy, ClosesByWhat}

-- ---- what is wanted says nothing

want_said : (group : DpId) (w : World) → (want_in group w).said ≡ w.said
want_said group w =
    let wanted : World = record w { neighbours = want_gateways group w.conf.vlans w.moment w.neighbours } in
    elim (list_any (λ dp. (group_of w.conf dp).0 == group.0) (running w)) as (λ (b : Bool). (if b then wanted else w).said ≡ w.said) [ true ↦ refl | false ↦ refl ]

wants_said : (groups : List DpId) (w : World) → (want_each groups w).said ≡ w.said
wants_said [] w = refl
wants_said (group ∷ groups) w = wants_said groups (want_in group w) ∙ want_said group w

-- ---- each that is closed

module _ (n : ℕ) where
  own_closes : (k : ℕ) (w : World) → is_open w.conns k ≡ true → (c : Bool) → (k == n) ≡ c → (c || (false || false)) ≡ (c && is_open w.conns n)
  own_closes k w at true same = sym (ap (is_open w.conns) (sym (eqb-true k n same)) ∙ at)
  own_closes k w at false other = refl

  shut_closes : (k : ℕ) (w : World) → is_open w.conns k ≡ false → (c : Bool) → (k == n) ≡ c → (c && is_open w.conns n) ≡ false
  shut_closes k w shut true same = ap (is_open w.conns) (sym (eqb-true k n same)) ∙ shut
  shut_closes k w shut false other = refl

  stray_closes : (k : ℕ) (w : World) → closed n (close_stray k w).said ≡ (closed n w.said || ((k == n) && is_open w.conns n))
  stray_closes k w = by (is_open w.conns k) refl
    where
      by : (b : Bool) → is_open w.conns k ≡ b → closed n (if b then close UnknownDp k w else w).said ≡ (closed n w.said || ((k == n) && is_open w.conns n))
      by true at =
          closed_more n w.said (told.Closing k UnknownDp ∷ end_line k UnknownDp ∷ [])
          ∙ ap (λ (b : Bool). closed n w.said || b) (own_closes k w at (k == n) refl)
      by false shut = sym (ap (λ (b : Bool). closed n w.said || b) (shut_closes k w shut (k == n) refl) ∙ or_none (closed n w.said))

  stray_leaves : (k : ℕ) (w : World) → is_open (close_stray k w).conns n ≡ (is_open w.conns n && not (k == n))
  stray_leaves k w = by (is_open w.conns k) refl
    where
      apart_from : (c o : Bool) → (if c then false else o) ≡ (o && not c)
      apart_from true true = refl
      apart_from true false = refl
      apart_from false true = refl
      apart_from false false = refl

      still : (c o : Bool) → (c && o) ≡ false → o ≡ (o && not c)
      still true o none = none ∙ sym (ap (λ (b : Bool). b && false) none)
      still false true none = refl
      still false false none = refl

      by : (b : Bool) → is_open w.conns k ≡ b → is_open (if b then close UnknownDp k w else w).conns n ≡ (is_open w.conns n && not (k == n))
      by true at = sym (left_open k w.conns n) ∙ apart_from (k == n) (is_open w.conns n)
      by false shut = still (k == n) (is_open w.conns n) (shut_closes k w shut (k == n) refl)

  joined : (a x b o : Bool) → ((a || (x && o)) || (b && (o && not x))) ≡ (a || ((x || b) && o))
  joined true x b o = refl
  joined false true true true = refl
  joined false true true false = refl
  joined false true false true = refl
  joined false true false false = refl
  joined false false true true = refl
  joined false false true false = refl
  joined false false false true = refl
  joined false false false false = refl

  each_closes : (numbers : List ℕ) (w : World) → closed n (close_each numbers w).said ≡ (closed n w.said || (is_in n numbers && is_open w.conns n))
  each_closes [] w = sym (or_none (closed n w.said))
  each_closes (k ∷ numbers) w =
      each_closes numbers (close_stray k w)
      ∙ (λ i. stray_closes k w i || (is_in n numbers && stray_leaves k w i))
      ∙ joined (closed n w.said) (k == n) (is_in n numbers) (is_open w.conns n)

  -- ---- which are closed

  module _ (next : Configuration) where
    none_in : (k : ℕ) → k ≡ n → (conns : List Conn) → AllByRecursion (λ (c : Conn). k < c.number) conns → is_in n (strays next conns) ≡ false
    none_in k same [] above = refl
    none_in k same (x ∷ xs) above =
        elim (is_stray next x) as (λ b. is_in n (map (λ (c : Conn). c.number) (cond b (x ∷ filter (is_stray next) xs) (filter (is_stray next) xs))) ≡ false) [
          | true ↦ ap (λ (b : Bool). b || is_in n (strays next xs)) (apart x.number n (λ is. omega (arith, above.0, same, is))) ∙ none_in k same xs above.1
          | false ↦ none_in k same xs above.1
        ]

    strays_found : (conns : List Conn) → EachBefore (λ (a b : Conn). a.number < b.number) conns → is_in n (strays next conns) ≡ option_map_or (is_stray next) (conn_with conns n) false
    strays_found [] ordered = refl
    strays_found (x ∷ xs) ordered = by (strays_found xs ordered.1) (has_number n x) refl (is_stray next x) refl
      where
        there : Bool → Bool
        there b = is_in n (map (λ (c : Conn). c.number) (cond b (x ∷ filter (is_stray next) xs) (filter (is_stray next) xs)))

        by : is_in n (strays next xs) ≡ option_map_or (is_stray next) (conn_with xs n) false → (own : Bool) → has_number n x ≡ own → (stray : Bool) → is_stray next x ≡ stray → there (is_stray next x) ≡ option_map_or (is_stray next) (cond (has_number n x) (Some x) (conn_with xs n)) false
        by rest true own true stray =
            ap there stray ∙ ap (λ (b : Bool). b || is_in n (strays next xs)) own
            ∙ sym (ap (λ (b : Bool). option_map_or (is_stray next) (cond b (Some x) (conn_with xs n)) false) own ∙ stray)
        by rest true own false stray =
            ap there stray ∙ none_in x.number (eqb-true x.number n own) xs ordered.0
            ∙ sym (ap (λ (b : Bool). option_map_or (is_stray next) (cond b (Some x) (conn_with xs n)) false) own ∙ stray)
        by rest false own true stray =
            ap there stray ∙ ap (λ (b : Bool). b || is_in n (strays next xs)) own ∙ rest
            ∙ sym (ap (λ (b : Bool). option_map_or (is_stray next) (cond b (Some x) (conn_with xs n)) false) own)
        by rest false own false stray =
            ap there stray ∙ rest
            ∙ sym (ap (λ (b : Bool). option_map_or (is_stray next) (cond b (Some x) (conn_with xs n)) false) own)

    open_stray : (conns : List Conn) → (option_map_or (is_stray next) (conn_with conns n) false && is_open conns n) ≡ option_map_or (is_stray next) (conn_with conns n) false
    open_stray conns = ap (λ (b : Bool). option_map_or (is_stray next) (conn_with conns n) false && b) (open_is conns n) ∙ by (conn_with conns n)
      where
        same : (b : Bool) → (b && true) ≡ b
        same true = refl
        same false = refl

        by : (o : Option Conn) → (option_map_or (is_stray next) o false && is_some o) ≡ option_map_or (is_stray next) o false
        by (Some c) = same (is_stray next c)
        by None = refl

    reload_closes : (w : World) → EachBefore (λ (a b : Conn). a.number < b.number) w.conns → w.said ≡ [] → closed n (reload (Ok next) w).said ≡ option_map_or (is_stray next) (conn_with w.conns n) false
    reload_closes w ordered silent =
        let left : World = renew next (close_each (strays next w.conns) w) in
        ap (closed n) (wants_said (in_order (map (group_of next) (running left))) left)
        ∙ each_closes (strays next w.conns) w
        ∙ (λ i. closed n (silent i) || (strays_found w.conns ordered i && is_open w.conns n))
        ∙ open_stray w.conns

-- ---- in a turn

by_reading : (w : World) → EachBefore (λ (a b : Conn). a.number < b.number) w.conns → (read : Result Configuration (List ℕ)) → ClosesBy read w (settle (reload read (record w { said = [] }))).said
by_reading w ordered (Ok next) = λ n. settle_closes n (reload (Ok next) (record w { said = [] })) ∙ reload_closes n next (record w { said = [] }) ordered refl
by_reading w ordered (Err cause) = λ n. settle_closes n (reload (Err cause) (record w { said = [] }))

pub closes_gone : (h : Happening) (w : World) → EachBefore (λ (a b : Conn). a.number < b.number) w.conns → ClosesByWhat h w (turn h w).said
closes_gone (happenings.Opened number) w ordered = tt
closes_gone (happenings.Heard number piece) w ordered = tt
closes_gone (happenings.Closed number cause) w ordered = tt
closes_gone (happenings.Moment moment) w ordered = tt
closes_gone (happenings.Reload text) w ordered = by_reading w ordered (accepted text)
