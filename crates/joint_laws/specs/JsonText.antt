-- That texts are JSON (RFC 8259), by the words of the kit's reader.
use Rattle.std.specs.Prelude.{◌≡◌, ◌<◌, ◌^◌, ◌++◌, ℕ, List, Some, codes}
use Rattle.json.specs.Json.{Json, document}
use Rattle.json.specs.Strict.{HasUniqueKeys}
use Rattle.ber_core.specs.Length.{AreOctets}
use Rattle.ber_core.specs.declared.fault.Fault.{Fault}
use Rattle.list_core.specs.Cuts.{HasNo}
use Rattle.list_core.specs.declared.list_fault.ListFault.{ListFault}
use Rattle.capture_core.specs.declared.capture_fault.CaptureFault.{CaptureFault}
use Rattle.mms_data.specs.Data.{Data}
use Rattle.mms_data.specs.Spelling.{SpellsAll}
use Rattle.object_core.specs.declared.counted.Counted.{Counted}
use Rattle.object_core.specs.EventObject.{capture_fault_object, fault_object, list_fault_object}
use Rattle.object_core.specs.MemberObject.{AreMembers}

-- the text is one value of JSON, and no object in it has a name twice
abbrev pub IsJsonText : List ℕ → Type 0
IsJsonText text = (j : Json) × (document text ≡ Some j) × HasUniqueKeys j

-- the line is one value of JSON, and no line feed stands in it but the last
abbrev pub IsJsonLine : List ℕ → Type 0
IsJsonLine line = (text : List ℕ) × (line ≡ text ++ codes "\n") × HasNo 10 text × IsJsonText text

-- each text that is allowed for members which octets spell is JSON
abbrev pub MembersAreJson : Type 0
MembersAreJson = (ds : List Data) (o text : List ℕ) → AreOctets o → SpellsAll ds 1 o → AreMembers ds text → IsJsonText text

-- the object of a faulty frame is a line of JSON, where numbers have at most 64 bits
abbrev pub FaultsAreJson : Type 0
FaultsAreJson = (c : Counted) (number moment : ℕ) (f : Fault) → number < 2 ^ 64 → moment < 2 ^ 64 → f.place < 2 ^ 64 → IsJsonLine (fault_object c number moment f)

-- and so is the object of a bad line
abbrev pub ListFaultsAreJson : Type 0
ListFaultsAreJson = (f : ListFault) → f.line < 2 ^ 64 → IsJsonLine (list_fault_object f)

-- and that of a capture's fault
abbrev pub CaptureFaultsAreJson : Type 0
CaptureFaultsAreJson = (f : CaptureFault) → f.number < 2 ^ 64 → IsJsonLine (capture_fault_object f)
