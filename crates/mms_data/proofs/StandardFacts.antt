-- Octets that the standards and docs/FORMATS.md give, computed: a wrong definition does not check.
use Rattle.std.proofs.Common.{◌≡◌, ℕ, ◌^◌, ◌-◌, true, List, [], ◌∷◌, Ok, slice_index, refl, ap, arith, inl, inr}
use Rattle.std.specs.Prelude.{pos, negsuc}
use Rattle.ber_core.specs.computed.ContentsReading.{all_visible_at, any_integer_at, boolean_at, integer_at}
use Rattle.ber_core.specs.Faults.{fault_of}
use Rattle.ber_core.specs.computed.Reading.{counted_length_at, header_at, length_at, refused}
use Rattle.ber_core.specs.Written.{integer_size, short_integer, short_length, written_element}
use Rattle.ber_core.specs.declared.fault.Cause.TheVariants as causes
use Rattle.mms_data.specs.Contents.{SpellsBits}
use Rattle.mms_data.specs.computed.ContentsReading.{simple_at}
use Rattle.mms_data.specs.Data.{Data, array, structure, items_of, simple, boolean, bits, integer, unsigned, floating, octets, visible, binary_time, mms_text, utc}
use Rattle.mms_data.specs.computed.KindReading.{kind_at}
use Rattle.mms_data.specs.computed.Reading.{member_at, member_with, members_at, members_with}
use Rattle.mms_data.specs.Spellable.{IsSpellableAt}
use Rattle.mms_data.specs.Spelling.{FaultIn, Spells, SpellsAll}
use Rattle.mms_data.specs.Utc.{SpellsUtc}
use Rattle.mms_data.specs.computed.UtcReading.{utc_at}
use Rattle.mms_data.specs.Written.{written, written_all}
use Rattle.mms_data.specs.declared.time.UtcTime.{UtcTime}
use Rattle.mms_data.proofs.Found.{all_found}
use Rattle.mms_data.proofs.Wrong.{all_wrong}

-- ---- bit strings (ISO/IEC 8825-1, 8.6)

pub record AreBits : Type 0 where
  -- the 44 bits 0A3B5F291CD (8.6.4.2)
  pub example : SpellsBits 4 (0x0a ∷ 0x3b ∷ 0x5f ∷ 0x29 ∷ 0x1c ∷ 0xd0 ∷ []) (4 ∷ 0x0a ∷ 0x3b ∷ 0x5f ∷ 0x29 ∷ 0x1c ∷ 0xd0 ∷ [])
  -- unused bits may be set, and are 0 in the value
  pub unused : SpellsBits 3 (0xff ∷ 0xf8 ∷ []) (3 ∷ 0xff ∷ 0xff ∷ [])
  pub none : SpellsBits 0 [] (0 ∷ [])

pub are_bits : AreBits
are_bits = record { example = (refl, omega arith, refl); unused = (refl, omega arith, refl); none = (refl, refl, refl) }

-- ---- the time (IEC 61850-8-1)

abbrev moment : UtcTime
moment = record { seconds = 1; fraction = 0x800000; quality = 0x0a }

-- half a second behind the first second of 1970
pub half_a_second : SpellsUtc moment (0 ∷ 0 ∷ 0 ∷ 1 ∷ 0x80 ∷ 0 ∷ 0 ∷ 0x0a ∷ [])
half_a_second = (0 ∷ 0 ∷ 0 ∷ 1 ∷ [], 0x80 ∷ 0 ∷ 0 ∷ [], refl, refl, refl, refl, refl)

-- ---- values of each kind: what is read, and what is written

-- one value of each kind without members, in its written form
abbrev each_kind : List ℕ
each_kind =
    0x83 ∷ 1 ∷ 0xff ∷ 0x84 ∷ 2 ∷ 4 ∷ 0xa0 ∷ 0x85 ∷ 1 ∷ 0xfb ∷ 0x86 ∷ 2 ∷ 0 ∷ 0xc8 ∷ 0x87 ∷ 5 ∷ 8 ∷ 0x41 ∷ 0x20 ∷ 0 ∷ 0 ∷ 0x89 ∷ 2 ∷ 1 ∷ 2
    ∷ 0x8a ∷ 2 ∷ 0x41 ∷ 0x42 ∷ 0x8c ∷ 4 ∷ 0 ∷ 0 ∷ 0 ∷ 1 ∷ 0x90 ∷ 1 ∷ 0x43 ∷ 0x91 ∷ 8 ∷ 0 ∷ 0 ∷ 0 ∷ 1 ∷ 0x80 ∷ 0 ∷ 0 ∷ 0x0a ∷ []

abbrev its_values : List Data
its_values =
    simple (boolean true) ∷ simple (bits 4 (0xa0 ∷ [])) ∷ simple (integer (negsuc 4)) ∷ simple (unsigned 200) ∷ simple (floating (8 ∷ 0x41 ∷ 0x20 ∷ 0 ∷ 0 ∷ []))
    ∷ simple (octets (1 ∷ 2 ∷ [])) ∷ simple (visible (0x41 ∷ 0x42 ∷ [])) ∷ simple (binary_time (0 ∷ 0 ∷ 0 ∷ 1 ∷ [])) ∷ simple (mms_text (0x43 ∷ [])) ∷ simple (utc moment) ∷ []

pub each_kind_read : members_at 16 0 each_kind ≡ Ok its_values
unfolding members_at members_with member_at member_with kind_at header_at length_at simple_at boolean_at integer_at any_integer_at all_visible_at utc_at
each_kind_read = refl

-- so these octets spell these values
pub each_kind_spelled : SpellsAll its_values 1 each_kind
each_kind_spelled = all_found 16 1 (omega arith) 0 each_kind its_values each_kind_read

pub each_kind_written : written_all its_values ≡ each_kind
unfolding written_element short_length short_integer integer_size
each_kind_written = refl

-- spellings with octets that are not needed: a long length, zeros in front of a number, true as 1, unused bits set
abbrev needless : List ℕ
needless = 0xa2 ∷ 0x82 ∷ 0 ∷ 14 ∷ 0x83 ∷ 1 ∷ 1 ∷ 0x85 ∷ 4 ∷ 0 ∷ 0 ∷ 0 ∷ 5 ∷ 0x84 ∷ 3 ∷ 3 ∷ 0xff ∷ 0xff ∷ []

abbrev its_value : Data
its_value = structure (items_of (simple (boolean true) ∷ simple (integer (pos 5)) ∷ simple (bits 3 (0xff ∷ 0xf8 ∷ [])) ∷ []))

pub needless_read : members_at 16 0 needless ≡ Ok (its_value ∷ [])
unfolding members_at members_with member_at member_with kind_at header_at length_at counted_length_at simple_at boolean_at integer_at any_integer_at
needless_read = refl

pub needless_written : written its_value ≡ 0xa2 ∷ 11 ∷ 0x83 ∷ 1 ∷ 0xff ∷ 0x85 ∷ 1 ∷ 5 ∷ 0x84 ∷ 3 ∷ 3 ∷ 0xff ∷ 0xf8 ∷ []
unfolding written_element short_length short_integer integer_size
needless_written = refl

-- the ends of the ranges of numbers
pub record AreNumbers : Type 0 where
  pub least : members_at 16 0 (0x85 ∷ 8 ∷ 0x80 ∷ 0 ∷ 0 ∷ 0 ∷ 0 ∷ 0 ∷ 0 ∷ 0 ∷ []) ≡ Ok (simple (integer (negsuc (2 ^ 63 - 1))) ∷ [])
  pub greatest : members_at 16 0 (0x86 ∷ 9 ∷ 0 ∷ 0xff ∷ 0xff ∷ 0xff ∷ 0xff ∷ 0xff ∷ 0xff ∷ 0xff ∷ 0xff ∷ []) ≡ Ok (simple (unsigned (2 ^ 64 - 1)) ∷ [])
  pub too_great : members_at 16 0 (0x85 ∷ 9 ∷ 0 ∷ 0x80 ∷ 0 ∷ 0 ∷ 0 ∷ 0 ∷ 0 ∷ 0 ∷ 0 ∷ []) ≡ refused 2 causes.IntegerRange
  pub negative : members_at 16 0 (0x86 ∷ 1 ∷ 0xff ∷ []) ≡ refused 2 causes.IntegerRange

pub numbers : AreNumbers
unfolding members_at members_with member_at member_with kind_at header_at length_at simple_at integer_at any_integer_at
numbers = record { least = refl; greatest = refl; too_great = refl; negative = refl }

-- ---- levels

-- fifteen arrays inside one another, and a boolean in the last
abbrev fifteen : List ℕ
fifteen =
    0xa1 ∷ 0x1f ∷ 0xa1 ∷ 0x1d ∷ 0xa1 ∷ 0x1b ∷ 0xa1 ∷ 0x19 ∷ 0xa1 ∷ 0x17 ∷ 0xa1 ∷ 0x15 ∷ 0xa1 ∷ 0x13 ∷ 0xa1 ∷ 0x11 ∷ 0xa1 ∷ 0x0f ∷ 0xa1 ∷ 0x0d ∷ 0xa1 ∷ 0x0b ∷ 0xa1 ∷ 0x09
    ∷ 0xa1 ∷ 0x07 ∷ 0xa1 ∷ 0x05 ∷ 0xa1 ∷ 0x03 ∷ 0x83 ∷ 0x01 ∷ 0xff ∷ []

abbrev alone : Data → Data
alone d = array (items_of (d ∷ []))

abbrev five : Data → Data
five d = alone (alone (alone (alone (alone d))))

abbrev nested : Data
nested = five (five (five (simple (boolean true))))

pub sixteen_levels : members_at 16 0 fifteen ≡ Ok (nested ∷ [])
unfolding members_at members_with member_at member_with kind_at header_at length_at simple_at boolean_at
sixteen_levels = refl

-- one array more, and the boolean stands too deep
pub seventeen_levels : members_at 16 0 (0xa1 ∷ 0x21 ∷ fifteen) ≡ refused 32 causes.TooDeep
unfolding members_at members_with member_at member_with kind_at header_at length_at
seventeen_levels = refl

pub too_deep : FaultIn (fault_of 32 causes.TooDeep) 1 0 (0xa1 ∷ 0x21 ∷ fifteen)
too_deep = all_wrong 16 1 (fault_of 32 causes.TooDeep) (omega arith) 0 (0xa1 ∷ 0x21 ∷ fifteen) seventeen_levels

pub record AreLevels : Type 0 where
  -- an empty array at level 16 spells a value, and nothing does at level 17
  pub last : members_at 1 0 (0xa1 ∷ 0 ∷ []) ≡ Ok (array (items_of []) ∷ [])
  pub over : members_at 0 0 (0x83 ∷ 1 ∷ 0xff ∷ []) ≡ refused 0 causes.TooDeep
  pub none : members_at 0 0 [] ≡ Ok []
  pub spelled : Spells (array (items_of [])) 16 (0xa1 ∷ 0 ∷ [])
  pub nothing : (d : Data) → ¬ Spells d 17 (0x83 ∷ 1 ∷ 0xff ∷ [])

nothing_at_seventeen : (d : Data) (o : List ℕ) → ¬ Spells d 17 o
nothing_at_seventeen (simple s) o h = absurd (omega (arith, h.0))
nothing_at_seventeen (array ds) o h = absurd (omega (arith, h.0))
nothing_at_seventeen (structure ds) o h = absurd (omega (arith, h.0))

last_level : members_at 1 0 (0xa1 ∷ 0 ∷ []) ≡ Ok (array (items_of []) ∷ [])
unfolding members_at members_with member_at member_with kind_at header_at length_at
last_level = refl

pub levels : AreLevels
unfolding members_at members_with member_at
levels = record {
  last = last_level;
  over = refl;
  none = refl;
  spelled = (omega arith, [], record { identifier = λ e. absurd (omega (arith, e)); size = 0 ∷ []; sized = inl (refl, refl, omega arith); parts = refl }, refl);
  nothing = λ d. nothing_at_seventeen d (0x83 ∷ 1 ∷ 0xff ∷ []);
}

-- ---- faults, each with its place: the first octet stands at 64

pub record AreFaults : Type 0 where
  pub high_tag : members_at 16 64 (0x9f ∷ 1 ∷ 0xff ∷ []) ≡ refused 64 causes.HighTag
  pub unexpected : members_at 16 64 (0x88 ∷ 1 ∷ 0xff ∷ []) ≡ refused 64 causes.UnexpectedTag
  pub inside : members_at 16 64 (0xa1 ∷ 3 ∷ 0x88 ∷ 1 ∷ 0xff ∷ []) ≡ refused 66 causes.UnexpectedTag
  pub behind : members_at 16 64 (0x83 ∷ 1 ∷ 0xff ∷ 0x88 ∷ []) ≡ refused 67 causes.UnexpectedTag
  pub ends : members_at 16 64 (0x85 ∷ []) ≡ refused 65 causes.Ends
  pub indefinite : members_at 16 64 (0xa1 ∷ 0x80 ∷ 0 ∷ 0 ∷ []) ≡ refused 65 causes.Indefinite
  pub past_end : members_at 16 64 (0x83 ∷ 2 ∷ 0xff ∷ []) ≡ refused 65 causes.LengthPastEnd
  pub boolean_length : members_at 16 64 (0x83 ∷ 2 ∷ 0 ∷ 0 ∷ []) ≡ refused 65 causes.BooleanLength
  pub integer_length : members_at 16 64 (0x85 ∷ 0 ∷ []) ≡ refused 65 causes.IntegerLength
  pub no_count : members_at 16 64 (0x84 ∷ 0 ∷ []) ≡ refused 66 causes.BitUnused
  pub no_bits : members_at 16 64 (0x84 ∷ 1 ∷ 1 ∷ []) ≡ refused 66 causes.BitUnused
  pub eight_unused : members_at 16 64 (0x84 ∷ 2 ∷ 8 ∷ 0xff ∷ []) ≡ refused 66 causes.BitUnused
  pub no_number : members_at 16 64 (0x87 ∷ 0 ∷ []) ≡ refused 65 causes.FixedLength
  pub short_time : members_at 16 64 (0x8c ∷ 2 ∷ 0 ∷ 0 ∷ []) ≡ refused 65 causes.FixedLength
  pub short_moment : members_at 16 64 (0x91 ∷ 3 ∷ 0 ∷ 0 ∷ 0 ∷ []) ≡ refused 65 causes.FixedLength
  pub not_visible : members_at 16 64 (0x8a ∷ 2 ∷ 0x41 ∷ 7 ∷ []) ≡ refused 67 causes.NotVisible

pub faults : AreFaults
unfolding members_at members_with member_at member_with kind_at header_at length_at simple_at boolean_at integer_at any_integer_at all_visible_at utc_at
faults = record {
  high_tag = refl;
  unexpected = refl;
  inside = refl;
  behind = refl;
  ends = refl;
  indefinite = refl;
  past_end = refl;
  boolean_length = refl;
  integer_length = refl;
  no_count = refl;
  no_bits = refl;
  eight_unused = refl;
  no_number = refl;
  short_time = refl;
  short_moment = refl;
  not_visible = refl;
}

-- ---- what has no spelling

pub record AreNotSpellable : Type 0 where
  pub control : ¬ IsSpellableAt (simple (visible (7 ∷ []))) 1
  pub late : ¬ IsSpellableAt (simple (utc (record moment { fraction = 0x1000000 }))) 1
  pub deep : ¬ IsSpellableAt (simple (boolean true)) 17
  pub no_float : ¬ IsSpellableAt (simple (floating [])) 1
  pub five_octets : ¬ IsSpellableAt (simple (binary_time (0 ∷ 0 ∷ 0 ∷ 0 ∷ 0 ∷ []))) 1
  pub unused_set : ¬ IsSpellableAt (simple (bits 3 (0xff ∷ []))) 1

pub not_spellable : AreNotSpellable
not_spellable = record {
  control = λ h. absurd (omega (arith, h.1.0.0));
  late = λ h. absurd (omega (arith, h.1.1));
  deep = λ h. absurd (omega (arith, h.0));
  no_float = λ h. absurd (omega (arith, h.1.0));
  five_octets = λ h. elim h.1 [
    | inl four ↦ absurd (let wrong : 5 ≡ 4 = four in omega arith)
    | inr six ↦ absurd (let wrong : 5 ≡ 6 = six in omega arith)
  ];
  unused_set = λ h. absurd (omega (arith, ap (λ (o : List ℕ). slice_index o 0) h.1.1));
}
