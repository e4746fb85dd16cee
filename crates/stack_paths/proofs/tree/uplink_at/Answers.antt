use Rattle.std.proofs.Common.{◌≡◌, ◌<◌, length, Some, None, get_or, slice_get, sym, refl, subst, ◌∙◌, arith}
use Rattle.std.proofs.lemmas.List.{get_or_read}
use Rattle.std.proofs.lemmas.Option.{slice_get-get_or, slice_get_read, same_Some}
use Rattle.stack_paths.specs.declared.ways.Ways.{Ways}
use Rattle.stack_paths.specs.Hops.{answer_at}
use Rattle.stack_paths.proofs.tree.uplink_at.Goals as goal

pub returns : goal.returns
returns c = λ h.
    let ways = c.args.ways.now in
    let roots = c.args.roots.now in
    let place = c.args.place in
    let r = get_or roots place 0 in
    let way = c.index-ways-roots.result in
    let is_root = slice_get-get_or roots place 0 c.requires.place in
    let r_within : r < length ways = c.requires.roots place 0 c.requires.place in
    let is_way : slice_get ways r ≡ Some way = slice_get_read ways (length ways) r way refl r_within c.index-ways-roots.is in
    let size = subst (λ (w : Ways). length w.hops.items ≡ length roots) (sym c.index-ways-roots.is) (c.requires.hops r way r_within) in
    let in_way : place < length way.hops.items = omega (arith, size, c.requires.place) in
    let read : c.index.result.now ≡ answer_at way.hops.items place = get_or_read way.hops.items place c.index.result.now in_way c.index.ensures None in (
      λ e. record { root = r; to_root = way; is_root = is_root; is_to_root = is_way; first = sym read ∙ e },
      λ u.
          let same_root : u.root ≡ r = same_Some u.root r (sym u.is_root ∙ is_root) in
          let same_way : u.to_root ≡ way = same_Some u.to_root way (sym u.is_to_root ∙ subst (λ k. slice_get ways k ≡ Some way) (sym same_root) is_way) in
          read ∙ subst (λ (w : Ways). answer_at w.hops.items place ≡ Some h) same_way u.first,
    )
