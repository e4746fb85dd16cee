use Rattle.std.proofs.Common.{◌≡◌, ◌+◌, [], ◌++◌, List, ℕ, sym, ◌∙◌, ap, subst}
use Rattle.fg_outside.specs.Left.{prepended}
use Rattle.recording.specs.Layout.{Spells}
use Rattle.recording.specs.Recording.{Place, Follows}
use Rattle.recording.specs.Reader.{place_of, source_of, part_of}
use Rattle.recording.proofs.Parts.{prepended-nil}
use Rattle.recording.proofs.Taking.{record_of, taken_spells, taken_follows}
use Rattle.recording.proofs.reader.Reader.take_record.Goals as goal

pub returns-clause-ok : goal.returns-clause-ok
returns-clause-ok g c =
    let old = c.args.self.now in
    let h = c.args.header in
    let left = g.S.Source.left (source_of old) in
    let body : c.replace-body.result ≡ old.body = c.replace-body.ensures.value in
    let no_head : c.truncate.new.self ≡ [] = c.truncate.ensures in
    let no_body : c.replace-body.new.dest ≡ [] = c.replace-body.ensures.after ∙ c.new.ensures in
    let none : c.truncate.new.self ++ c.replace-body.new.dest ≡ [] = ap (λ (l : List ℕ). l ++ c.replace-body.new.dest) no_head ∙ no_body in
    record {
      piece = part_of old;
      parts = ap (λ k. prepended (part_of old) k) (sym (ap (λ (l : List ℕ). prepended l left) none ∙ prepended-nil left));
      spells = subst (λ (l : List ℕ). Spells (record_of h l) (part_of old)) (sym body) (taken_spells (place_of old) old.head old.body h c.requires.header c.requires.whole);
      follows = subst (λ (l : List ℕ). Follows (place_of old) (record_of h l)) (sym body) (taken_follows (place_of old) old.head old.body h c.requires.header c.requires.whole);
      place = ap (λ (l : List ℕ). let p : Place = record { count = old.count + 1; moment = h.moment; opened = l } in p) c.in_ok-go_on.ensures.ok;
      none = none;
      unrefused = c.requires.unrefused;
    }
