-- Octets that are visible, one after the other.
use Rattle.std.proofs.Common.{◌≡◌, ℕ, ◌+◌, true, false, List, [], ◌∷◌, Ok, ⊎_elim, ap, refl, ◌∙◌, arith}
use Rattle.std.proofs.lemmas.Bool.{and_parts, cases_Bool, true≢false}
use Rattle.std.specs.List.{list_all, prefix_len}
use Rattle.ber_core.specs.computed.Reading.{refused}
use Rattle.ber_core.specs.declared.fault.Cause.TheVariants as causes
use Rattle.ber_core.specs.computed.ContentsReading.{all_visible_at}
use Rattle.ber_core.specs.Contents.{is_visible}

-- octets that are all visible
pub visible_all : (o : List ℕ) (from : ℕ) → list_all is_visible o ≡ true → all_visible_at from o ≡ Ok tt
unfolding all_visible_at
visible_all [] from v = refl
visible_all (x ∷ xs) from v = let both = and_parts (is_visible x) (list_all is_visible xs) v in rw both.0 (visible_all xs (from + 1) both.1)

-- octets of which one is not: the first such one is at fault, behind those in front that are
pub visible_stop : (o : List ℕ) (from : ℕ) → list_all is_visible o ≡ false → all_visible_at from o ≡ refused (from + prefix_len is_visible o) causes.NotVisible
unfolding all_visible_at
visible_stop [] from v = absurd (true≢false v)
visible_stop (x ∷ xs) from v =
    ⊎_elim
    (λ yes.
    let next : from + 1 + prefix_len is_visible xs ≡ from + (1 + prefix_len is_visible xs) = omega arith in
    rw yes (visible_stop xs (from + 1) (rw yes at v) ∙ ap (λ (place : ℕ). refused place causes.NotVisible) next))
    (λ no. let here : from ≡ from + 0 = omega arith in rw no (ap (λ (place : ℕ). refused place causes.NotVisible) here))
    (cases_Bool (is_visible x))
