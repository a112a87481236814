-- Reading the contents of a field, by their kind.
use Rattle.std.specs.Prelude.{ℕ, pos, ◌^◌, ◌+◌, ◌-◌, List, length, Result, Ok, if◌then◌else◌}
use Rattle.byteorder.specs.Endian.{big_number}
use Rattle.ber_core.specs.computed.ContentsReading.{boolean_at, counted_at, integer_at, visible_at, natural}
use Rattle.ber_core.specs.Element.{contents_of}
use Rattle.ber_core.specs.computed.FieldReading.{Read}
use Rattle.ber_core.specs.computed.Reading.{refused, ◌>>=◌}
use Rattle.ber_core.specs.declared.element.Header.{Header}
use Rattle.ber_core.specs.declared.fault.Fault.{Fault}
use Rattle.ber_core.specs.declared.fault.Cause.TheVariants as causes
use Rattle.mms_data.specs.computed.ContentsReading.{is_few_octets}
use Rattle.mms_data.specs.Data.{Data}
use Rattle.mms_data.specs.computed.Reading.{members_at}
use Rattle.mms_data.specs.computed.UtcReading.{utc_at}
use Rattle.pdu_core.specs.Contents.{Kind, text, number, flag, time, members, fixed, raw, few, Item, a_text, a_number, a_flag, a_time, some_members, a_fixed, some_octets}

-- the number of contents
unfoldable pub number_in : List ℕ → Header → Result ℕ Fault
number_in octets h = integer_at (pos 0) (pos (2 ^ 32 - 1)) h.at h.contents_from (contents_of octets h) >>= λ n. Ok (natural n)

-- the members of Data of contents
unfoldable pub members_in : List ℕ → Header → Result (List Data) Fault
members_in octets h = members_at 16 h.contents_from (contents_of octets h)

-- the number of contents in a stated count of octets
unfoldable pub fixed_in : ℕ → List ℕ → Header → Result ℕ Fault
fixed_in size octets h = counted_at size h.at (contents_of octets h) >>= λ c. Ok (big_number size c)

-- contents of one to sixteen octets
unfoldable pub few_at : ℕ → List ℕ → Result (List ℕ) Fault
few_at at c = if is_few_octets (length c) then Ok c else refused (at + 1) causes.FixedLength

-- the value of contents
abbrev pub item_at : Read Kind Item
item_at text octets h = visible_at h.contents_from (contents_of octets h) >>= λ t. Ok (a_text t)
item_at number octets h = number_in octets h >>= λ n. Ok (a_number n)
item_at flag octets h = boolean_at h.at (contents_of octets h) >>= λ b. Ok (a_flag b)
item_at time octets h = utc_at h.at (contents_of octets h) >>= λ t. Ok (a_time t)
item_at members octets h = members_in octets h >>= λ ds. Ok (some_members ds)
item_at (fixed size) octets h = fixed_in size octets h >>= λ n. Ok (a_fixed size n)
item_at raw octets h = Ok (some_octets (contents_of octets h))
item_at few octets h = few_at h.at (contents_of octets h) >>= λ o. Ok (some_octets o)
