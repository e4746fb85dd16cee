-- Gauge's file where each read of a file fails.
use Rattle.std.proofs.Common.{◌≡◌, ℕ, Bool, true, false, List, Option, Result, Ok, Err, refl, sym, ap, ◌∙◌}
use Rattle.std.specs.Str.{bytes_eq}
use Rattle.std.proofs.lemmas.Slice.Eq.{bytes_eq-Decides}
use Rattle.std.proofs.lemmas.Bool.{cond-true, cond-false}
use Rattle.yaml_tree.specs.declared.tree.Tree.{Tree}
use Rattle.conf_gather.specs.declared.refused.LoadRefused.{LoadRefused}
use Rattle.conf_gather.specs.declared.refused.LoadRefused.TheVariants.{Read}
use Rattle.conf_gather.specs.Gives.{◌>>=◌}
use Rattle.conf_gather.specs.Gathered.{Held, held_by, unread_at}
use Rattle.gauge_conf.specs.declared.gauge.GaugeConf.{GaugeConf}
use Rattle.gauge_conf.specs.declared.raw.RawGauge.{RawGauge}
use Rattle.gauge_load.specs.Loaded.{written, raw_by, named_by, gauge_by}

module _ (file : List ℕ) (held : Held) (name : List ℕ) where
  -- each read of the file itself fails
  unread_itself : bytes_eq name file ≡ true → raw_by (unread_at file held) name ≡ Err (Read file)
  unread_itself is = ap (λ (r : Result (Option Tree) LoadRefused). r >>= written name) (cond-true _ _ _ is)

  other_itself : bytes_eq name file ≡ false → raw_by (unread_at file held) name ≡ raw_by (held_by held) name
  other_itself is = ap (λ (r : Result (Option Tree) LoadRefused). r >>= written name) (cond-false _ _ _ is)

  pub gauge_unread : file ≡ name → gauge_by (unread_at file held) name ≡ Err (Read file)
  gauge_unread same = ap (λ (r : Result RawGauge LoadRefused). r >>= named_by (unread_at file held) name) (unread_itself ((bytes_eq-Decides name file).1 (sym same)))

  -- a read below fails
  pub gauge_below : (raw : RawGauge) → raw_by (held_by held) name ≡ Ok raw → named_by (unread_at file held) name raw ≡ Err (Read file) → gauge_by (unread_at file held) name ≡ Err (Read file)
  gauge_below raw says below = by (bytes_eq name file) refl
    where
      by : (b : Bool) → bytes_eq name file ≡ b → gauge_by (unread_at file held) name ≡ Err (Read file)
      by true is = ap (λ (r : Result RawGauge LoadRefused). r >>= named_by (unread_at file held) name) (unread_itself is)
      by false is = ap (λ (r : Result RawGauge LoadRefused). r >>= named_by (unread_at file held) name) (other_itself is ∙ says) ∙ below
