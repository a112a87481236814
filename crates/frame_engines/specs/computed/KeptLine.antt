-- What is kept of the line of a frame of GOOSE: what frames have in common there that are the same but for the two numbers that
-- change while a state is repeated.
use Rattle.std.specs.Prelude.{◌≡◌, ℕ, Bool, true, false, List, [], ◌++◌, length, slice_range, codes}
use Rattle.std.specs.Fmt.{decimal}
use Rattle.mms_data.specs.Data.{Data}
use Rattle.frame_core.specs.declared.frame.Apdu.{Apdu}
use Rattle.frame_core.specs.declared.frame.Apdu.TheVariants as apdu
use Rattle.frame_core.specs.declared.frame.Frame.{Frame}
use Rattle.object_core.specs.Objects.{Field}
use Rattle.repeat_core.specs.Numbered.{frame_numbered}
use Rattle.frame_engines.specs.FrameText.{frame_line}
use Rattle.frame_engines.specs.FrameObject.{envelope_fields, goose_fields, trailer_value}
use Rattle.frame_engines.specs.computed.ObjectFields.{next_fields}
use Rattle.frame_engines.specs.computed.SettledMembers.{are_settled, settled_array}

-- a text up to the second of two places of it, with timeAllowedtoLive at the first
abbrev pub with_live : List ℕ → ℕ → ℕ → ℕ → List ℕ
with_live text first second live = slice_range text 0 first ++ (decimal live ++ slice_range text first second)

-- a text with timeAllowedtoLive and sqNum at two places of it
abbrev pub with_numbers : List ℕ → ℕ → ℕ → ℕ → ℕ → List ℕ
with_numbers text first second live sq_num = with_live text first second live ++ (decimal sq_num ++ slice_range text second (length text))

-- the fields of an APDU of GOOSE, with no text of its members yet
abbrev pub fields_before_members : {A : Type 0} → Apdu A → List Field
fields_before_members (apdu.Goose p) = goose_fields p []
fields_before_members (apdu.Sampled p) = []

-- what stands in the object of a frame of GOOSE between its head and its members
abbrev pub before_members : {A : Type 0} → Frame A → List ℕ
before_members f = next_fields (envelope_fields f) ++ next_fields (fields_before_members f.apdu)

-- the members of an APDU of GOOSE
abbrev pub members_of : {A : Type 0} → Apdu A → List Data
members_of (apdu.Goose p) = p.members
members_of (apdu.Sampled p) = []

-- what stands in the object of a frame behind the members: the trailer, and the end of the line
abbrev pub object_end : List ℕ → List ℕ
object_end trailer = codes ",\"trailer\":" ++ trailer_value trailer ++ codes "}\n"

-- what stands in the object of a frame of GOOSE behind its head, where its members are settled
abbrev pub behind_head : {A : Type 0} → Frame A → List ℕ
behind_head f = before_members f ++ (settled_array (members_of f.apdu) ++ object_end f.trailer)

-- With the two numbers of such a frame the text is that of its line behind the number of the line; of an object, what stands
-- between its head and its members, or, where these are settled, all that stands behind its head.
abbrev pub KeepsLine : {A : Type 0} → Bool → Bool → List ℕ → ℕ → ℕ → Frame A → Type 0
KeepsLine false whole text first second f = (n live sq_num : ℕ) → frame_line n (frame_numbered live sq_num f) ≡ decimal n ++ with_numbers text first second live sq_num
KeepsLine true false text first second f = (live sq_num : ℕ) → before_members (frame_numbered live sq_num f) ≡ with_numbers text first second live sq_num
KeepsLine true true text first second f =
    (are_settled (members_of f.apdu) ≡ true) × ((live sq_num : ℕ) → behind_head (frame_numbered live sq_num f) ≡ with_numbers text first second live sq_num)
