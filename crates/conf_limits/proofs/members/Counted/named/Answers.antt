use Rattle.std.proofs.Common.{rules, ◌≡◌, ℕ, ◌+◌, ◌||◌, ◌==◌, ◌<◌, false, take, sym, ap, ◌∙◌, count_by}
use Rattle.std.proofs.Math.Bool.{or-false}
use Rattle.conf_types.specs.declared.vlan.Vlan.{Vlan}
use Rattle.conf_types.specs.Lists.{is_among}
use Rattle.conf_types.specs.Membership.{is_native_in}
use Rattle.conf_rules.proofs.Groups.{count-same}
use Rattle.conf_rules.proofs.SeenVids.{count_again, count_more, seen_more, named_more}
use Rattle.std.specs.Prelude.{slice_index_or}
use Rattle.conf_limits.proofs.members.Counted.named.Goals as goal
use Rattle.conf_limits.proofs.members.Counted.named.Goals.{then-not-see_vid, else-not-see_vid}

pub loop-vid-init : goal.loop-vid-init
loop-vid-init c = (
  λ n lt. c.seen_once-seen.ensures n lt ∙ sym (or-false (is_native_in c.args.port.now n)),
  c.with_native-count.ensures ∙ count-same (λ (v : Vlan). is_native_in c.args.port.now v.vid) (λ (v : Vlan). is_native_in c.args.port.now v.vid || false) (λ v. sym (or-false (is_native_in c.args.port.now v.vid))) c.args.self.now.vlans.now,
)

pub loop-vid-preserved : goal.loop-vid-preserved
loop-vid-preserved c =
    let vids = c.args.port.now.tagged in
    let i = c.loop-vid.vid-index in
    let native = is_native_in c.args.port.now in
    let before = λ (n : ℕ). native n || is_among (take i vids) n in
    let behind = λ (n : ℕ). native n || is_among (take (i + 1) vids) n in
    let more : (n : ℕ) → behind n ≡ (before n || c.vid-item.result == n) =
    λ n. named_more native vids c.as_slice-vid-items.result.now i c.vid-item.result n c.as_slice-vid-items.ensures c.loop-vid-test.true c.vid-item.is in
    let flagged = λ (n : ℕ) (lt : n < 4096).
    ap (λ t. slice_index_or t n false) c.see_vid.ensures.is
    ∙ seen_more c.loop-vid.seen c.vid-item.result n (search (rules, c.see_vid.ensures.within))
    ∙ ap (λ b. b || c.vid-item.result == n) (c.loop-vid.invariant.0 n lt)
    ∙ sym (more n) in
    let was : before c.vid-item.result ≡ c.see_vid.result = sym (c.loop-vid.invariant.0 c.vid-item.result c.see_vid.ensures.within) ∙ sym c.see_vid.ensures.was in (
      flagged,
      elim c.if-not-see_vid.branch [
        | then-not-see_vid w ↦
            w.count-is
            ∙ ap (λ k. k + w.with_vid-count.result) c.loop-vid.invariant.1
            ∙ ap (λ k. count_by (λ (v : Vlan). before v.vid) c.args.self.now.vlans.now + k) w.with_vid-count.ensures
            ∙ sym (count_more before behind c.vid-item.result more (was ∙ search rules) c.args.self.now.vlans.now)
        | else-not-see_vid w ↦
            w.count-is ∙ c.loop-vid.invariant.1
            ∙ sym (count_again before behind c.vid-item.result more (was ∙ search rules) c.args.self.now.vlans.now)
      ],
    )
