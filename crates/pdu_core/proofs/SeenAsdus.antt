-- The octets that ASDUs are seen in spell the ASDUs that they stand for.
use Rattle.std.proofs.Common.{◌≡◌, true, List, Option, Result, Ok, Err, refl, sym, subst}
use Rattle.ber_core.specs.Repeated.{SpellsEach}
use Rattle.ber_core.specs.declared.fault.Fault.{Fault}
use Rattle.pdu_core.specs.Contents.{Item}
use Rattle.pdu_core.specs.Sampled.{asdu_grammar, items_of_each}
use Rattle.pdu_core.specs.SampledLaws.{SeenIsOne, SeenIsSpelled}
use Rattle.pdu_core.specs.computed.SampledReading.{asdus_at}
use Rattle.pdu_core.specs.computed.SampledValue.{are_read, values_or_none}
use Rattle.pdu_core.specs.SampledViews.{asdus_region}
use Rattle.pdu_core.proofs.KeptValues.{each_kept}
use Rattle.pdu_core.proofs.SampledItems.{asdus_again, asdus_found}
use Rattle.pdu_core.proofs.SvValues.{asdus_are}

read_values : (r : Result (List (List (Option Item))) Fault) → are_read r ≡ true → r ≡ Ok (values_or_none r)
read_values (Ok vss) e = refl
read_values (Err f) e = absurd (cc)

pub seen_is_spelled : (A : Type 0) → SeenIsSpelled A
seen_is_spelled A s =
    let o = s.octets.now in
    let vss = values_or_none (asdus_at o s.at s.end) in
    let spelled = asdus_found o s.at s.end s.ordered s.inside vss (read_values (asdus_at o s.at s.end) s.spelled) in
    subst (λ (xs : List (List (Option Item))). SpellsEach asdu_grammar 0x30 tt xs (asdus_region s)) (sym (each_kept A vss (asdus_region s) spelled)) spelled

pub seen_is_one : (A : Type 0) → SeenIsOne A
seen_is_one A s xs spelled = asdus_are s.octets.now s.at s.end xs (asdus_again s.octets.now s.at s.end s.ordered s.inside (items_of_each xs) spelled)
