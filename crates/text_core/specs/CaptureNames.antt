-- The names of the causes of captures, as they are written.
use Rattle.std.specs.Prelude.{ℕ, List, codes}
use Rattle.capture_core.specs.declared.capture_fault.CaptureCause.{CaptureCause}
use Rattle.capture_core.specs.declared.capture_fault.CaptureCause.TheVariants as capture

-- the cause for which a capture is refused
abbrev pub name_of_capture_cause : CaptureCause → List ℕ
name_of_capture_cause capture.CaptureHeader = codes "CaptureHeader"
name_of_capture_cause capture.CaptureShort = codes "CaptureShort"
name_of_capture_cause capture.RecordLength = codes "RecordLength"
name_of_capture_cause capture.TooManyRecords = codes "TooManyRecords"
name_of_capture_cause capture.ReadFailed = codes "ReadFailed"
name_of_capture_cause capture.BlockForm = codes "BlockForm"
name_of_capture_cause capture.BlockLength = codes "BlockLength"
name_of_capture_cause capture.Interface = codes "Interface"
name_of_capture_cause capture.PacketTime = codes "PacketTime"
