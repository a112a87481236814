-- Octets that ISO/IEC 8825-1 gives, and those of docs/FORMATS.md, computed: a wrong definition does not check.
use Rattle.std.proofs.Common.{◌≡◌, ℕ, true, false, List, [], ◌∷◌, Some, None, Ok, refl, arith, inl, inr}
use Rattle.std.proofs.lemmas.Int.{ints}
use Rattle.std.specs.Prelude.{pos, negsuc}
use Rattle.ber_core.specs.Contents.{SpellsBoolean, SpellsInteger, SpellsVisible}
use Rattle.ber_core.specs.computed.ContentsReading.{all_visible_at, any_integer_at, boolean_at, counted_at, integer_at, visible_at}
use Rattle.ber_core.specs.Element.{Elem}
use Rattle.ber_core.specs.Faults.{LengthFault, absent, cut, fault_of, form, indefinite, past_end}
use Rattle.ber_core.specs.computed.FieldReading.{ends_at, required_at, there_at}
use Rattle.ber_core.specs.Integer.{Int}
use Rattle.ber_core.specs.Length.{Len}
use Rattle.ber_core.specs.computed.Reading.{counted_length_at, header_at, length_at, refused}
use Rattle.ber_core.specs.Written.{integer_size, short_integer, short_length, written_element}
use Rattle.ber_core.specs.declared.fault.Cause.TheVariants as causes

-- ---- lengths (8.1.3)

-- what spells a length, and what does not
pub record AreLengths : Type 0 where
  -- 38 in the short form, 201 in the long form (8.1.3.4, 8.1.3.5)
  pub short : Len 38 (0x26 ∷ [])
  pub long : Len 201 (0x81 ∷ 0xc9 ∷ [])
  -- the ends of the short form, and no length of 128 in it
  pub none : Len 0 (0 ∷ [])
  pub most : Len 127 (0x7f ∷ [])
  pub over : ¬ Len 128 (0x80 ∷ [])
  -- a long form that is longer than it has to be, with one octet and with three zeros in front
  pub needless : Len 5 (0x81 ∷ 5 ∷ [])
  pub zeros : Len 43 (0x84 ∷ 0 ∷ 0 ∷ 0 ∷ 0x2b ∷ [])
  -- the most significant octet comes first
  pub order : Len 258 (0x82 ∷ 1 ∷ 2 ∷ [])
  pub greatest : Len 4294967295 (0x84 ∷ 0xff ∷ 0xff ∷ 0xff ∷ 0xff ∷ [])
  -- the indefinite form is no length, nor is one of five octets, nor one with too few of them
  pub indefinite : ¬ Len 0 (0x80 ∷ [])
  pub five : ¬ Len 43 (0x85 ∷ 0 ∷ 0 ∷ 0 ∷ 0 ∷ 0x2b ∷ [])
  pub few : ¬ Len 43 (0x82 ∷ 0x2b ∷ [])

pub lengths : AreLengths
lengths = record {
  short = inl (refl, refl, omega arith);
  long = inr (refl, omega arith, omega arith, refl);
  none = inl (refl, refl, omega arith);
  most = inl (refl, refl, omega arith);
  over = λ h. elim h [
    | inl s ↦ absurd (omega (arith, s.2))
    | inr s ↦ absurd (omega (arith, s.1))
  ];
  needless = inr (refl, omega arith, omega arith, refl);
  zeros = inr (refl, omega arith, omega arith, refl);
  order = inr (refl, omega arith, omega arith, refl);
  greatest = inr (refl, omega arith, omega arith, refl);
  indefinite = λ h. elim h [
    | inl s ↦ absurd (omega (arith, s.1))
    | inr s ↦ absurd (omega (arith, s.1))
  ];
  five = λ h. elim h [
    | inl s ↦ absurd (omega (arith, s.1))
    | inr s ↦ absurd (omega (arith, s.2))
  ];
  few = λ h. elim h [
    | inl s ↦ absurd (omega (arith, s.1))
    | inr s ↦ absurd (omega (arith, s.0))
  ];
}

-- the shortest of the spellings
pub record AreShortLengths : Type 0 where
  pub short : short_length 38 ≡ 0x26 ∷ []
  pub most : short_length 127 ≡ 0x7f ∷ []
  pub long : short_length 128 ≡ 0x81 ∷ 0x80 ∷ []
  pub one : short_length 255 ≡ 0x81 ∷ 0xff ∷ []
  pub two : short_length 256 ≡ 0x82 ∷ 1 ∷ 0 ∷ []
  pub three : short_length 65536 ≡ 0x83 ∷ 1 ∷ 0 ∷ 0 ∷ []
  pub four : short_length 16777216 ≡ 0x84 ∷ 1 ∷ 0 ∷ 0 ∷ 0 ∷ []

pub short_lengths : AreShortLengths
unfolding short_length
short_lengths = record { short = refl; most = refl; long = refl; one = refl; two = refl; three = refl; four = refl }

-- ---- integers (8.3)

pub record AreIntegers : Type 0 where
  -- the ends of one octet, and the number behind each
  pub most_of_one : Int (pos 127) (0x7f ∷ [])
  pub behind : Int (pos 128) (0 ∷ 0x80 ∷ [])
  pub least_of_one : Int (negsuc 127) (0x80 ∷ [])
  pub before : Int (negsuc 128) (0xff ∷ 0x7f ∷ [])
  -- without the zero in front 80 is -128, and FF FF FF FF is -1
  pub negative : ¬ Int (pos 128) (0x80 ∷ [])
  pub all_ones : Int (negsuc 0) (0xff ∷ 0xff ∷ 0xff ∷ 0xff ∷ [])
  -- needless octets in front
  pub padded : Int (pos 5) (0 ∷ 0 ∷ 0 ∷ 5 ∷ [])
  -- nine octets hold a number of 64 bits; ten are too many, and none is too few
  pub nine : Int (pos 18446744073709551615) (0 ∷ 0xff ∷ 0xff ∷ 0xff ∷ 0xff ∷ 0xff ∷ 0xff ∷ 0xff ∷ 0xff ∷ [])
  pub ten : ¬ Int (pos 1) (0 ∷ 0 ∷ 0 ∷ 0 ∷ 0 ∷ 0 ∷ 0 ∷ 0 ∷ 0 ∷ 1 ∷ [])
  pub none : ¬ Int (pos 0) []

pub integers : AreIntegers
integers = record {
  most_of_one = (omega arith, omega arith, refl);
  behind = (omega arith, omega arith, refl);
  least_of_one = (omega arith, omega arith, refl);
  before = (omega arith, omega arith, refl);
  negative = λ h. let wrong : negsuc 127 ≡ pos 128 = h.2 in cc;
  all_ones = (omega arith, omega arith, refl);
  padded = (omega arith, omega arith, refl);
  nine = (omega arith, omega arith, refl);
  ten = λ h. absurd (omega (arith, h.1));
  none = λ h. absurd (omega (arith, h.0));
}

-- the shortest of the spellings
pub record AreShortIntegers : Type 0 where
  pub zero : short_integer (pos 0) ≡ 0 ∷ []
  pub most_of_one : short_integer (pos 127) ≡ 0x7f ∷ []
  pub behind : short_integer (pos 128) ≡ 0 ∷ 0x80 ∷ []
  pub least_of_one : short_integer (negsuc 127) ≡ 0x80 ∷ []
  pub before : short_integer (negsuc 128) ≡ 0xff ∷ 0x7f ∷ []
  pub most_of_four : short_integer (pos 4294967295) ≡ 0 ∷ 0xff ∷ 0xff ∷ 0xff ∷ 0xff ∷ []
  pub nine : short_integer (pos 18446744073709551615) ≡ 0 ∷ 0xff ∷ 0xff ∷ 0xff ∷ 0xff ∷ 0xff ∷ 0xff ∷ 0xff ∷ 0xff ∷ []
  pub element : written_element 0x85 (short_integer (pos 128)) ≡ 0x85 ∷ 2 ∷ 0 ∷ 0x80 ∷ []

pub short_integers : AreShortIntegers
unfolding short_integer integer_size short_length written_element
short_integers = record { zero = refl; most_of_one = refl; behind = refl; least_of_one = refl; before = refl; most_of_four = refl; nine = refl; element = refl }

-- ---- the contents of other elements

pub record AreContents : Type 0 where
  -- 00 is false, and every other octet true (8.2.2)
  pub false_is : SpellsBoolean false (0 ∷ [])
  pub one_is : SpellsBoolean true (1 ∷ [])
  pub true_is : SpellsBoolean true (0xff ∷ [])
  -- the text "Jones" (8.23), and a text of no octet
  pub jones : SpellsVisible (0x4a ∷ 0x6f ∷ 0x6e ∷ 0x65 ∷ 0x73 ∷ []) (0x4a ∷ 0x6f ∷ 0x6e ∷ 0x65 ∷ 0x73 ∷ [])
  pub ends : SpellsVisible (0x20 ∷ 0x7e ∷ []) (0x20 ∷ 0x7e ∷ [])
  pub no_text : SpellsVisible [] []
  -- 4294967295 lies in its range, and needs five octets
  pub number : SpellsInteger (pos 0) (pos 4294967295) (pos 4294967295) (0 ∷ 0xff ∷ 0xff ∷ 0xff ∷ 0xff ∷ [])

pub contents : AreContents
contents = record {
  false_is = (0, refl, refl);
  one_is = (1, refl, refl);
  true_is = (0xff, refl, refl);
  jones = (refl, ((omega arith, omega arith), ((omega arith, omega arith), ((omega arith, omega arith), ((omega arith, omega arith), ((omega arith, omega arith), tt))))));
  ends = (refl, ((omega arith, omega arith), ((omega arith, omega arith), tt)));
  no_text = (refl, tt);
  number = (omega (arith, ints), omega (arith, ints), (omega arith, omega arith, refl));
}

-- contents that spell nothing: the place of the identifier is 50, that of the contents 52
pub record AreFaultyContents : Type 0 where
  pub long_boolean : boolean_at 50 (0 ∷ 0 ∷ []) ≡ refused 51 causes.BooleanLength
  pub no_boolean : boolean_at 50 [] ≡ refused 51 causes.BooleanLength
  pub no_integer : any_integer_at 50 [] ≡ refused 51 causes.IntegerLength
  pub ten_octets : any_integer_at 50 (0 ∷ 0 ∷ 0 ∷ 0 ∷ 0 ∷ 0 ∷ 0 ∷ 0 ∷ 0 ∷ 1 ∷ []) ≡ refused 51 causes.IntegerLength
  pub negative : integer_at (pos 0) (pos 4294967295) 50 52 (0xff ∷ []) ≡ refused 52 causes.IntegerRange
  pub too_great : integer_at (pos 0) (pos 4294967295) 50 52 (1 ∷ 0 ∷ 0 ∷ 0 ∷ 0 ∷ []) ≡ refused 52 causes.IntegerRange
  pub delete : visible_at 52 (0x41 ∷ 0x7f ∷ 0x1f ∷ []) ≡ refused 53 causes.NotVisible
  pub control : visible_at 52 (0x1f ∷ []) ≡ refused 52 causes.NotVisible
  pub other_count : counted_at 4 50 (1 ∷ 2 ∷ 3 ∷ []) ≡ refused 51 causes.FixedLength

pub faulty_contents : AreFaultyContents
unfolding boolean_at any_integer_at integer_at all_visible_at counted_at
faulty_contents = record { long_boolean = refl; no_boolean = refl; no_integer = refl; ten_octets = refl; negative = refl; too_great = refl; delete = refl; control = refl; other_count = refl }

-- ---- elements (8.1.2 and 8.1.3), the first octet of which stands at 22

pub record AreElements : Type 0 where
  pub element : Elem 0x85 (0 ∷ 0x80 ∷ []) (0x85 ∷ 2 ∷ 0 ∷ 0x80 ∷ [])
  pub long : Elem 0x85 (5 ∷ []) (0x85 ∷ 0x81 ∷ 1 ∷ 5 ∷ [])
  pub empty : Elem 0xa1 [] (0xa1 ∷ 0 ∷ [])
  pub short_header : header_at 22 (0x85 ∷ 1 ∷ 5 ∷ 9 ∷ []) ≡ Ok (record { at = 22; identifier = 0x85; contents_from = 24; contents_to = 25 })
  pub long_header : header_at 22 (0x85 ∷ 0x84 ∷ 0 ∷ 0 ∷ 0 ∷ 1 ∷ 5 ∷ []) ≡ Ok (record { at = 22; identifier = 0x85; contents_from = 28; contents_to = 29 })

pub elements : AreElements
unfolding header_at length_at counted_length_at
elements = record {
  element = record { identifier = λ e. absurd (omega (arith, e)); size = 2 ∷ []; sized = inl (refl, refl, omega arith); parts = refl };
  long = record { identifier = λ e. absurd (omega (arith, e)); size = 0x81 ∷ 1 ∷ []; sized = inr (refl, omega arith, omega arith, refl); parts = refl };
  empty = record { identifier = λ e. absurd (omega (arith, e)); size = 0 ∷ []; sized = inl (refl, refl, omega arith); parts = refl };
  short_header = refl;
  long_header = refl;
}

-- elements whose front is at fault
pub record AreFaultyElements : Type 0 where
  pub nothing : header_at 22 [] ≡ refused 22 causes.Ends
  pub no_length : header_at 22 (0x85 ∷ []) ≡ refused 23 causes.Ends
  pub cut_length : header_at 22 (0x85 ∷ 0x82 ∷ 1 ∷ []) ≡ refused 25 causes.Ends
  pub high_tag : header_at 22 (0x9f ∷ 1 ∷ 0 ∷ []) ≡ refused 22 causes.HighTag
  pub indefinite : header_at 22 (0x85 ∷ 0x80 ∷ 0 ∷ 0 ∷ []) ≡ refused 23 causes.Indefinite
  pub five_octets : header_at 22 (0x85 ∷ 0x85 ∷ 0 ∷ 0 ∷ 0 ∷ 0 ∷ 0 ∷ []) ≡ refused 23 causes.LengthForm
  pub reserved : header_at 22 (0x85 ∷ 0xff ∷ []) ≡ refused 23 causes.LengthForm
  pub past_end : header_at 22 (0x85 ∷ 2 ∷ 0 ∷ []) ≡ refused 23 causes.LengthPastEnd
  pub far_past_end : header_at 22 (0x85 ∷ 0x84 ∷ 0xff ∷ 0xff ∷ 0xff ∷ 0xff ∷ []) ≡ refused 23 causes.LengthPastEnd

pub faulty_elements : AreFaultyElements
unfolding header_at length_at counted_length_at
faulty_elements = record { nothing = refl; no_length = refl; cut_length = refl; high_tag = refl; indefinite = refl; five_octets = refl; reserved = refl; past_end = refl; far_past_end = refl }

-- the same as facts about lengths alone
pub record AreLengthFaults : Type 0 where
  pub absent : LengthFault (fault_of 23 causes.Ends) 22 []
  pub cut : LengthFault (fault_of 25 causes.Ends) 22 (0x82 ∷ 1 ∷ [])
  pub indefinite : LengthFault (fault_of 23 causes.Indefinite) 22 (0x80 ∷ [])
  pub form : LengthFault (fault_of 23 causes.LengthForm) 22 (0x85 ∷ [])
  pub past_end : LengthFault (fault_of 23 causes.LengthPastEnd) 22 (2 ∷ 0 ∷ [])

pub length_faults : AreLengthFaults
length_faults = record {
  absent = absent refl;
  cut = cut (omega arith) (omega arith) (omega arith) refl;
  indefinite = indefinite refl refl;
  form = form (omega arith) refl;
  past_end = past_end 2 (2 ∷ []) (0 ∷ []) (inl (refl, refl, omega arith)) refl (omega arith) refl;
}

-- ---- fields of a sequence

-- a boolean, a high tag, and an indefinite length
abbrev sequence : List ℕ
sequence = 0x83 ∷ 1 ∷ 5 ∷ 0x9f ∷ 0x85 ∷ 0x80 ∷ []

pub record AreFields : Type 0 where
  pub there : there_at 0x83 sequence 0 6 ≡ Ok (Some (record { at = 0; identifier = 0x83; contents_from = 2; contents_to = 3 }))
  pub other : there_at 0x84 sequence 0 6 ≡ Ok None
  pub end : there_at 0x83 sequence 3 3 ≡ Ok None
  pub faulty : there_at 0x85 sequence 4 6 ≡ refused 5 causes.Indefinite
  pub required : required_at 0x83 sequence 0 6 ≡ Ok (record { at = 0; identifier = 0x83; contents_from = 2; contents_to = 3 })
  pub missing : required_at 0x83 sequence 3 3 ≡ refused 3 causes.ElementMissing
  pub high_tag : required_at 0x83 sequence 3 6 ≡ refused 3 causes.HighTag
  pub unexpected : required_at 0x84 sequence 0 6 ≡ refused 0 causes.UnexpectedTag
  pub ends : ends_at 6 6 ≡ Ok tt
  pub extra : ends_at 5 6 ≡ refused 5 causes.ExtraOctets

pub fields : AreFields
unfolding required_at there_at header_at length_at counted_length_at
fields = record { there = refl; other = refl; end = refl; faulty = refl; required = refl; missing = refl; high_tag = refl; unexpected = refl; ends = refl; extra = refl }
