-- What stands first, case by case.
use Rattle.std.proofs.Common.{Some, None, Ok, Err, ◌≡◌, ℕ, ◌+◌, ◌≤◌, ◌<◌, List, [], ◌∷◌, ◌++◌, take, drop, length, inl, inr, refl, ap, sym, ◌∙◌, arith}
use Rattle.std.proofs.lemmas.List.{append_assoc, append-nil, take-append-drop, length-take, drop_all, take_all, take_more}
use Rattle.list_core.specs.declared.device.InputEnd.{InputEnd}
use Rattle.list_core.specs.declared.device.InputEnd.TheVariants.{End, Failed}
use Rattle.list_core.specs.declared.list_fault.ListCause.TheVariants.{LineTooLong, ListTooLong, ReadFailed}
use Rattle.list_core.specs.Lines.{reading, put_line, without_cr}
use Rattle.list_core.specs.Cuts.{HasNo}
use Rattle.list_core.specs.computed.PrivateOctets.{IsFirstPlace}
use Rattle.list_core.proofs.Cuts.{split_at}
use Rattle.list_core.specs.FirstLine.{IsFront}
use Rattle.list_core.proofs.Lines.{reading-line, reading-rest, reading-long, reading-many, reading-failed, reading-end}

pub front-line : (ending : InputEnd) (taken : ℕ) (held : List ℕ) (n : ℕ) → IsFirstPlace 10 held (Some n) → n ≤ 4096 → taken < 1000000 → IsFront ending taken held (Ok (Some n))
front-line ending taken held n first short few = (
  omega (arith, first.0),
  short,
  few,
  λ more z _.
      ap (λ l. reading z taken (l ++ more)) (split_at 10 held n first.0 first.1)
      ∙ ap (reading z taken) (append_assoc (take n held) (10 ∷ drop (n + 1) held) more)
      ∙ reading-line z taken (take n held) (drop (n + 1) held ++ more) first.2 few (simp length-take (omega arith)),
  inr (inl (take n held, take_more held n 0 first.0 ∙ ap (λ x. take n held ++ x ∷ []) first.1)),
)

pub front-rest : (taken : ℕ) (held : List ℕ) → HasNo 10 held → 0 < length held → length held ≤ 4096 → taken < 1000000 → IsFront End taken held (Ok (Some (length held)))
front-rest taken held clean some short few = (
  omega arith,
  short,
  few,
  λ more z f.
      let whole : take (length held) held ≡ held = take_all (length held) held (omega arith) in
      let none : drop (length held + 1) held ≡ [] = drop_all (length held + 1) held (omega arith) in
      rw (f.0, f.1, whole, none) (ap (reading End taken) (append-nil held) ∙ reading-rest taken held clean some few short
      ∙ ap (put_line (without_cr held)) (sym (reading-end (taken + 1)))),
  inr (inr (drop_all (length held + 1) held (omega arith), refl)),
)

pub front-end : (taken : ℕ) (held : List ℕ) → length held ≡ 0 → IsFront End taken held (Ok None)
front-end taken [] l = λ more z f. rw (f.0, f.1) (reading-end taken)
front-end taken (x ∷ xs) l = absurd (omega arith)

pub front-long : (ending : InputEnd) (taken : ℕ) (held : List ℕ) (n : ℕ) → HasNo 10 (take n held) → n ≤ length held → 4096 < n → taken < 1000000 → IsFront ending taken held (Err LineTooLong)
front-long ending taken held n clean l long few = λ more z _.
    ap (λ l. reading z taken (l ++ more)) (sym (take-append-drop n held))
    ∙ ap (reading z taken) (append_assoc (take n held) (drop n held) more)
    ∙ reading-long z taken (take n held) (drop n held ++ more) clean few (simp length-take (omega arith))

pub front-many : (ending : InputEnd) (taken : ℕ) (held : List ℕ) → 0 < length held → 1000000 ≤ taken → IsFront ending taken held (Err ListTooLong)
front-many ending taken held some many = λ more z _. reading-many z taken held more some many

pub front-failed : (taken : ℕ) (held : List ℕ) → HasNo 10 held → length held ≤ 4096 → (0 < length held → taken < 1000000) → IsFront Failed taken held (Err ReadFailed)
front-failed taken held clean short few = λ more z f.
    rw (f.0, f.1) (ap (reading Failed taken) (append-nil held) ∙ reading-failed taken held clean short few)
