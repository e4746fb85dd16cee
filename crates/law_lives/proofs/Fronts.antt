-- What stands at the front of the bytes that came.
use Rattle.std.proofs.Common.{◌≡◌, ℕ, ◌<◌, ◌≤◌, List, ◌++◌, length, take, drop, nat_lt, inl, inr, refl, sym, ap, subst, ◌∙◌, arith, length-drop, if◌then◌else◌}
use Rattle.std.proofs.lemmas.Bool.{cases_Bool, ltb-false, ltb-true}
use Rattle.std.proofs.lemmas.List.{take-append-drop}
use Rattle.switch_session.specs.Frames.{IsBegun, IsFrame, told_length}
use Rattle.switch_session.proofs.FrameLemmas.{front_frame}
use Rattle.ctl_world.specs.declared.frames.Front.{Front}
use Rattle.ctl_world.specs.declared.frames.Front.TheVariants.{Part, Frame, Bad}
use Rattle.ctl_world.specs.Frames.{behind_frame, front, is_frame}

module _ (bytes : List ℕ) where
  abbrev len : ℕ
  len = told_length bytes

  pub record IsWhole (frame : List ℕ) : Type 0 where
    pub is : IsFrame frame
    pub parts : bytes ≡ frame ++ behind_frame bytes
    pub shorter : length (behind_frame bytes) < length bytes

  pub front_whole : (frame : List ℕ) → front bytes ≡ Frame frame → IsWhole frame
  front_whole frame at =
      elim (cases_Bool (nat_lt (length bytes) 8)) [
        | inl short ↦ let s : front bytes ≡ Part = rw short refl in let e : Part ≡ Frame frame = sym s ∙ at in absurd (cc)
        | inr long ↦ elim (cases_Bool (nat_lt len 8)) [
          | inl small ↦ let s : front bytes ≡ Bad = rw (long, small) refl in let e : Bad ≡ Frame frame = sym s ∙ at in absurd (cc)
          | inr fine ↦ elim (cases_Bool (nat_lt (length bytes) len)) [
            | inl begun ↦ let s : front bytes ≡ Part = rw (long, fine, begun) refl in let e : Part ≡ Frame frame = sym s ∙ at in absurd (cc)
            | inr all ↦
                let s : front bytes ≡ Frame (take len bytes) = rw (long, fine, all) refl in
                let e : Frame (take len bytes) ≡ Frame frame = sym s ∙ at in
                let same : take len bytes ≡ frame = cc in
                let behind : behind_frame bytes ≡ drop len bytes = ap (λ (f : Front). if is_frame f then drop len bytes else bytes) at in
                let least : 8 ≤ len = ltb-false len 8 fine in
                let most : len ≤ length bytes = ltb-false (length bytes) len all in
                record {
                  is = subst IsFrame same (front_frame bytes len least most refl);
                  parts = sym (take-append-drop len bytes) ∙ ap (λ (l : List ℕ). l ++ drop len bytes) same ∙ ap (λ (l : List ℕ). frame ++ l) (sym behind);
                  shorter = omega (arith, ap length behind, length-drop len bytes, least, most);
                }
          ]
        ]
      ]

  pub front_part : front bytes ≡ Part → IsBegun bytes
  front_part at header =
      elim (cases_Bool (nat_lt (length bytes) 8)) [
        | inl short ↦ let less : length bytes < 8 = ltb-true (length bytes) 8 short in absurd (omega (arith, header, less))
        | inr long ↦ elim (cases_Bool (nat_lt len 8)) [
          | inl small ↦ let s : front bytes ≡ Bad = rw (long, small) refl in let e : Bad ≡ Part = sym s ∙ at in absurd (cc)
          | inr fine ↦ elim (cases_Bool (nat_lt (length bytes) len)) [
            | inl begun ↦ (ltb-false len 8 fine, ltb-true (length bytes) len begun)
            | inr all ↦ let s : front bytes ≡ Frame (take len bytes) = rw (long, fine, all) refl in let e : Frame (take len bytes) ≡ Part = sym s ∙ at in absurd (cc)
          ]
        ]
      ]
