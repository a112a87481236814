-- The names of causes, as they are written.
use Rattle.std.specs.Prelude.{ℕ, List, codes}
use Rattle.ber_core.specs.declared.fault.Cause.{Cause}
use Rattle.ber_core.specs.declared.fault.Cause.TheVariants as cause
use Rattle.list_core.specs.declared.list_fault.ListCause.{ListCause}
use Rattle.list_core.specs.declared.list_fault.ListCause.TheVariants as list

-- the cause for which octets of a frame are refused
abbrev pub name_of_cause : Cause → List ℕ
name_of_cause cause.Ends = codes "Ends"
name_of_cause cause.HighTag = codes "HighTag"
name_of_cause cause.Indefinite = codes "Indefinite"
name_of_cause cause.LengthForm = codes "LengthForm"
name_of_cause cause.LengthPastEnd = codes "LengthPastEnd"
name_of_cause cause.IntegerLength = codes "IntegerLength"
name_of_cause cause.UnexpectedTag = codes "UnexpectedTag"
name_of_cause cause.BooleanLength = codes "BooleanLength"
name_of_cause cause.IntegerRange = codes "IntegerRange"
name_of_cause cause.BitUnused = codes "BitUnused"
name_of_cause cause.FixedLength = codes "FixedLength"
name_of_cause cause.NotVisible = codes "NotVisible"
name_of_cause cause.TooDeep = codes "TooDeep"
name_of_cause cause.ElementMissing = codes "ElementMissing"
name_of_cause cause.ExtraOctets = codes "ExtraOctets"
name_of_cause cause.EntryCount = codes "EntryCount"
name_of_cause cause.AsduCount = codes "AsduCount"
name_of_cause cause.FrameTooLong = codes "FrameTooLong"
name_of_cause cause.EtherType = codes "EtherType"
name_of_cause cause.LengthField = codes "LengthField"
name_of_cause cause.Truncated = codes "Truncated"

-- the cause for which a line of a list is refused
abbrev pub name_of_list_cause : ListCause → List ℕ
name_of_list_cause list.LineTooLong = codes "LineTooLong"
name_of_list_cause list.LineForm = codes "LineForm"
name_of_list_cause list.Moment = codes "Moment"
name_of_list_cause list.Hex = codes "Hex"
name_of_list_cause list.ListTooLong = codes "ListTooLong"
name_of_list_cause list.ReadFailed = codes "ReadFailed"
