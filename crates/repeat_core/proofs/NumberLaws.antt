-- The number that contents of one octet or of two spell, and the number that is read.
use Rattle.std.proofs.Common.{◌≡◌, ℕ, pos, ◌+◌, ◌*◌, ◌<◌, ◌≤◌, List, [], ◌∷◌, length, Ok, refl, ap, ◌∙◌, arith}
use Rattle.std.proofs.lemmas.Int.{ints}
use Rattle.ber_core.specs.Length.{number}
use Rattle.ber_core.specs.declared.element.Header.{Header}
use Rattle.ber_core.proofs.Shortest.{twos_low}
use Rattle.pdu_core.specs.Contents.{SpellsContents, a_number, number as a_kind_of_number}
use Rattle.pdu_core.specs.computed.ContentsReading.{number_in}
use Rattle.pdu_core.proofs.Items.{items_sound}
use Rattle.repeat_core.specs.Standing.{SpellsNumber}

pub one_spells : (a : ℕ) → a < 128 → SpellsContents a_kind_of_number (a_number a) (a ∷ [])
one_spells a small =
    let same : number (a ∷ []) ≡ a = omega arith in
    (omega (arith, ints), omega (arith, ints), (omega arith, omega arith, twos_low 1 (number (a ∷ [])) (omega (arith, same)) ∙ ap pos same))

pub two_spell : (a b : ℕ) → a < 128 → b < 256 → SpellsContents a_kind_of_number (a_number (a * 256 + b)) (a ∷ b ∷ [])
two_spell a b small octet =
    let same : number (a ∷ b ∷ []) ≡ a * 256 + b = omega arith in
    (omega (arith, ints), omega (arith, ints), (omega arith, omega arith, twos_low 2 (number (a ∷ b ∷ [])) (omega (arith, same)) ∙ ap pos same))

pub four_spell : (a b c d : ℕ) → a < 128 → b < 256 → c < 256 → d < 256 → SpellsContents a_kind_of_number (a_number ((a * 256 + b) * 65536 + (c * 256 + d))) (a ∷ b ∷ c ∷ d ∷ [])
four_spell a b c d small second third last =
    let same : number (a ∷ b ∷ c ∷ d ∷ []) ≡ (a * 256 + b) * 65536 + (c * 256 + d) = omega arith in
    (omega (arith, ints), omega (arith, ints), (omega arith, omega arith, twos_low 4 (number (a ∷ b ∷ c ∷ d ∷ [])) (omega (arith, same)) ∙ ap pos same))

pub number_spelled : (o : List ℕ) (h : Header) (n : ℕ) → h.contents_from ≤ h.contents_to → h.contents_to ≤ length o → number_in o h ≡ Ok n → SpellsNumber n o h
number_spelled o h n order within is = items_sound.finds a_kind_of_number o h (a_number n) (order, within) (rw is refl)
