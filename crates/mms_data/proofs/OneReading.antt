-- Octets have one reading, since reading is a function.
use Rattle.std.proofs.Common.{◌≡◌, ℕ, ◌-◌, List, Result, Ok, Err, refl, sym, ◌∙◌, arith, inl, inr}
use Rattle.std.specs.Prelude.{◌≤◌, ◌⊎◌}
use Rattle.ber_core.specs.declared.fault.Fault.{Fault}
use Rattle.mms_data.specs.Data.{Data}
use Rattle.mms_data.specs.Laws.{MembersOrFault, MembersElseFault, FaultIsOne, MembersAreOne, ReadingIsTrue, ReadingTells, SeenIsOne, SeenIsSpelled}
use Rattle.mms_data.specs.Meaning.{left}
use Rattle.mms_data.specs.Place.{level_of, source_of}
use Rattle.mms_data.specs.computed.Reading.{members_at}
use Rattle.mms_data.specs.Spelling.{SpellSome, FaultIn}
use Rattle.mms_data.proofs.Again.{all_again}
use Rattle.mms_data.proofs.Found.{all_found}
use Rattle.mms_data.proofs.Front.{one_value, read_in}
use Rattle.mms_data.proofs.Wrong.{all_wrong}
use Rattle.mms_data.proofs.WrongAgain.{all_wrong_again}

pub members_are_one : MembersAreOne
members_are_one L o ds es last s t = one_value L last o ds es s t

pub members_or_fault : MembersOrFault
members_or_fault L p o ds f last s h = let both = sym (all_again (17 - L) L (omega arith) p o ds s) ∙ all_wrong_again (17 - L) L f (omega arith) p o h in cc

pub fault_is_one : FaultIsOne
fault_is_one L p o f g last h i = let both = sym (all_wrong_again (17 - L) L f (omega arith) p o h) ∙ all_wrong_again (17 - L) L g (omega arith) p o i in cc

either : (L p : ℕ) (o : List ℕ) → L ≤ 17 → (r : Result (List Data) Fault) → members_at (17 - L) p o ≡ r → SpellSome L o ⊎ ((f : Fault) × FaultIn f L p o)
either L p o last (Ok ds) e = inl (ds, all_found (17 - L) L (omega arith) p o ds e)
either L p o last (Err f) e = inr (f, all_wrong (17 - L) L f (omega arith) p o e)

pub members_else_fault : MembersElseFault
members_else_fault L p o last = either L p o last (members_at (17 - L) p o) refl

pub seen_is_spelled : SeenIsSpelled
seen_is_spelled m =
    let few = m.bounded in
    all_found m.depth (level_of m) (omega arith) 0 (source_of m).now (left m) (read_in m.depth (source_of m).now m.spelled)

pub seen_is_one : SeenIsOne
seen_is_one m ds s = one_value (level_of m) (omega arith) (source_of m).now (left m) ds (seen_is_spelled m) s

pub reading_tells : ReadingTells
reading_tells L p o last = (all_again (17 - L) L (omega arith) p o, λ f. all_wrong_again (17 - L) L f (omega arith) p o)

pub reading_is_true : ReadingIsTrue
reading_is_true L p o last = (all_found (17 - L) L (omega arith) p o, λ f. all_wrong (17 - L) L f (omega arith) p o)
