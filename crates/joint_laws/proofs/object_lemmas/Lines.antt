-- Lines that are an object of JSON.
use Rattle.std.proofs.Common.{◌≡◌, ℕ, suc, ◌^◌, ◌<◌, true, List, ◌∷◌, ◌++◌, refl, arith, Some, []}
use Rattle.std.specs.Prelude.{codes}
use Rattle.std.specs.Fmt.{decimal}
use Rattle.list_core.specs.Cuts.{HasNo}
use Rattle.json.specs.Json.{Json, document, number, object}
use Rattle.json.specs.Strict.{HasUniqueKeys}
use Rattle.date_core.specs.DateText.{date_text}
use Rattle.object_core.specs.declared.counted.Counted.{Counted}
use Rattle.object_core.specs.declared.counted.Counted.TheVariants as counted
use Rattle.object_core.specs.EventObject.{counted_name, capture_fault_object, fault_object, list_fault_object}
use Rattle.object_core.specs.Objects as objects
use Rattle.object_core.specs.Objects.{date_value, object_line}
use Rattle.joint_laws.specs.JsonText.{IsJsonLine, CaptureFaultsAreJson, FaultsAreJson, ListFaultsAreJson}
use Rattle.joint_laws.proofs.object_lemmas.PlainTexts.{ArePlain, by_test}
use Rattle.joint_laws.proofs.object_lemmas.Signs.{no_feed}
use Rattle.joint_laws.proofs.object_lemmas.Values.{deeper, decimal_is, read_back}
use Rattle.joint_laws.proofs.object_lemmas.Containers.{Named, fields_of, members_of, names_of, object_is}
use Rattle.joint_laws.proofs.object_lemmas.Names.{all_differ, are_distinct}
use Rattle.joint_laws.proofs.object_lemmas.Fields.{by, date_is, decimal_field, string_or_null, word_field}
use Rattle.ber_core.specs.declared.fault.Cause.{Cause}
use Rattle.ber_core.specs.declared.fault.Cause.TheVariants as cause
use Rattle.list_core.specs.declared.list_fault.ListCause.{ListCause}
use Rattle.list_core.specs.declared.list_fault.ListCause.TheVariants as list
use Rattle.capture_core.specs.declared.capture_fault.CaptureCause.{CaptureCause}
use Rattle.capture_core.specs.declared.capture_fault.CaptureCause.TheVariants as capture
use Rattle.text_core.specs.CaptureNames.{name_of_capture_cause}
use Rattle.text_core.specs.Names.{name_of_cause, name_of_list_cause}
use Rattle.ber_core.specs.declared.fault.Fault.{Fault}
use Rattle.list_core.specs.declared.list_fault.ListFault.{ListFault}
use Rattle.capture_core.specs.declared.capture_fault.CaptureFault.{CaptureFault}

-- the line is this value of JSON, and a line feed
pub record IsLineOf (json : Json) (line : List ℕ) : Type 0 where
  pub text : List ℕ
  pub is_line : line ≡ text ++ codes "\n"
  pub no_feed : HasNo 10 text
  pub reads : document text ≡ Some json
  pub unique : HasUniqueKeys json

pub json_line : (json : Json) (line : List ℕ) → IsLineOf json line → IsJsonLine line
json_line json line is = (is.text, is.is_line, is.no_feed, (json, is.reads, is.unique))

-- an object whose values nest at most so deep is a line
pub object_line_is : (n : ℕ) (v : Named n) (vs : List (Named n)) → n < 128 → all_differ (names_of (v ∷ vs)) ≡ true → IsLineOf (object (members_of (v ∷ vs))) (object_line (fields_of (v ∷ vs)))
object_line_is n v vs h differ =
    let whole = objects.object (fields_of (v ∷ vs)) in
    let value = deeper (suc n) 128 _ whole (omega arith) (object_is n v vs (are_distinct (names_of (v ∷ vs)) differ)) in
    record { text = whole; is_line = refl; no_feed = no_feed whole value.signs; reads = read_back _ whole value; unique = value.unique }

pub counted_plain : (c : Counted) → ArePlain (counted_name c)
counted_plain counted.Line = by_test (codes "line") refl
counted_plain counted.Packet = by_test (codes "packet") refl

-- what an event's object begins with
abbrev pub counted_field : (n : ℕ) (c : Counted) (number : ℕ) → number < 2 ^ 64 → Named n
counted_field n c m small = record { name = counted_name c; text = decimal m; json = number (decimal m); is_plain = counted_plain c; is_text = decimal_is n m small }

-- and further fields, after the number
abbrev pub moment_then : (n moment : ℕ) (kind : List ℕ) → moment < 2 ^ 64 → ArePlain kind → List (Named n) → List (Named n)
moment_then n moment kind small plain vs =
    decimal_field n (codes "microseconds") moment refl small
    ∷ by n (codes "time") (date_value moment) (string_or_null (date_text moment)) refl (date_is n moment)
    ∷ word_field n (codes "kind") kind refl plain
    ∷ vs

-- the value of such an object
abbrev pub event_json : {n : ℕ} (c : Counted) (m : ℕ) → m < 2 ^ 64 → List (Named n) → Json
event_json {n} c m small vs = object (members_of (counted_field n c m small ∷ vs))

-- an event's object, whose names differ, whatever is counted
pub event_is : (n : ℕ) (c : Counted) (m : ℕ) (small : m < 2 ^ 64) (vs : List (Named n)) → n < 128 → all_differ (codes "line" ∷ names_of vs) ≡ true → all_differ (codes "packet" ∷ names_of vs) ≡ true
    → IsLineOf (event_json c m small vs) (object_line (fields_of (counted_field n c m small ∷ vs)))
event_is n counted.Line m small vs h as_line as_packet = object_line_is n (counted_field n counted.Line m small) vs h as_line
event_is n counted.Packet m small vs h as_line as_packet = object_line_is n (counted_field n counted.Packet m small) vs h as_packet

-- ---- in the names of causes nothing is escaped

pub cause_plain : (c : Cause) → ArePlain (name_of_cause c)
cause_plain cause.Ends = by_test (codes "Ends") refl
cause_plain c = by_test (name_of_cause c) refl

pub list_cause_plain : (c : ListCause) → ArePlain (name_of_list_cause c)
list_cause_plain list.LineTooLong = by_test (codes "LineTooLong") refl
list_cause_plain c = by_test (name_of_list_cause c) refl

pub capture_cause_plain : (c : CaptureCause) → ArePlain (name_of_capture_cause c)
capture_cause_plain capture.CaptureHeader = by_test (codes "CaptureHeader") refl
capture_cause_plain c = by_test (name_of_capture_cause c) refl

-- ---- the objects of faults are lines of JSON

-- the place and the cause of a frame's fault
abbrev pub fault_named : (f : Fault) → f.place < 2 ^ 64 → List (Named 0)
fault_named f small = decimal_field 0 (codes "offset") f.place refl small ∷ word_field 0 (codes "error") (name_of_cause f.cause) refl (cause_plain f.cause) ∷ []

abbrev pub fault_json : (c : Counted) (n moment : ℕ) (f : Fault) → n < 2 ^ 64 → moment < 2 ^ 64 → f.place < 2 ^ 64 → Json
fault_json c n moment f small past place = event_json c n small (moment_then 0 moment (codes "fault") past (by_test (codes "fault") refl) (fault_named f place))

pub fault_is : (c : Counted) (n moment : ℕ) (f : Fault) (small : n < 2 ^ 64) (past : moment < 2 ^ 64) (place : f.place < 2 ^ 64) → IsLineOf (fault_json c n moment f small past place) (fault_object c n moment f)
fault_is c n moment f small past place = event_is 0 c n small (moment_then 0 moment (codes "fault") past (by_test (codes "fault") refl) (fault_named f place)) (omega arith) refl refl

abbrev pub list_fault_named : (f : ListFault) → f.line < 2 ^ 64 → List (Named 0)
list_fault_named f small =
    decimal_field 0 (codes "line") f.line refl small
    ∷ word_field 0 (codes "kind") (codes "list") refl (by_test (codes "list") refl)
    ∷ word_field 0 (codes "error") (name_of_list_cause f.cause) refl (list_cause_plain f.cause)
    ∷ []

pub list_fault_is : (f : ListFault) (small : f.line < 2 ^ 64) → IsLineOf (object (members_of (list_fault_named f small))) (list_fault_object f)
list_fault_is f small =
    object_line_is 0 (decimal_field 0 (codes "line") f.line refl small) (word_field 0 (codes "kind") (codes "list") refl (by_test (codes "list") refl)
    ∷ word_field 0 (codes "error") (name_of_list_cause f.cause) refl (list_cause_plain f.cause) ∷ []) (omega arith) refl

abbrev pub capture_fault_named : (f : CaptureFault) → f.number < 2 ^ 64 → List (Named 0)
capture_fault_named f small =
    decimal_field 0 (codes "packet") f.number refl small
    ∷ word_field 0 (codes "kind") (codes "capture") refl (by_test (codes "capture") refl)
    ∷ word_field 0 (codes "error") (name_of_capture_cause f.cause) refl (capture_cause_plain f.cause)
    ∷ []

pub capture_fault_is : (f : CaptureFault) (small : f.number < 2 ^ 64) → IsLineOf (object (members_of (capture_fault_named f small))) (capture_fault_object f)
capture_fault_is f small =
    object_line_is 0 (decimal_field 0 (codes "packet") f.number refl small) (word_field 0 (codes "kind") (codes "capture") refl (by_test (codes "capture") refl)
    ∷ word_field 0 (codes "error") (name_of_capture_cause f.cause) refl (capture_cause_plain f.cause) ∷ []) (omega arith) refl

pub faults_are_json : FaultsAreJson
faults_are_json c n moment f small past place = json_line _ _ (fault_is c n moment f small past place)

pub list_faults_are_json : ListFaultsAreJson
list_faults_are_json f small = json_line _ _ (list_fault_is f small)

pub capture_faults_are_json : CaptureFaultsAreJson
capture_faults_are_json f small = json_line _ _ (capture_fault_is f small)
