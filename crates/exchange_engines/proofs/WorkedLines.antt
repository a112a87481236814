-- The lines of a few entries, samples and faults of scripts, computed, as docs/FORMATS.md shows them: a wrong definition does not check.
use Rattle.std.proofs.Common.{◌≡◌, true, [], ◌∷◌, refl}
use Rattle.std.specs.Prelude.{codes}
use Rattle.std.specs.Fmt.{digits}
use Rattle.hex.specs.Hex.{encode_with}
use Rattle.ber_core.specs.declared.fault.Cause.TheVariants as causes
use Rattle.list_core.specs.declared.line_rules.ItemFault.TheVariants as item_fault
use Rattle.list_core.specs.declared.list_fault.ListCause.TheVariants as list
use Rattle.script_core.specs.declared.script.ScriptCause.TheVariants as script
use Rattle.subscribe_core.specs.declared.entry.Entry.TheVariants as says
use Rattle.subscribe_core.specs.declared.entry.Reason.TheVariants as reason
use Rattle.subscribe_core.specs.declared.watch.Seen.TheVariants as seen
use Rattle.exchange_engines.specs.EntryText.{entry_line, entry_lines}
use Rattle.exchange_engines.specs.SampleLine.{sample_line}
use Rattle.exchange_engines.specs.ScriptFaultLine.{script_fault_line}
use Rattle.mms_data.specs.Data.{boolean, simple}

pub record AreEntryLines : Type 0 where
  pub act : entry_line {A = Unit {0}} 2 (says.Act 0 1 0 (record { seconds = 0; fraction = 0; quality = 0 }) (simple (boolean true) ∷ [])) ≡ codes "2 act 0 st=1 sq=0 t=0000000000000000 {true}\n"
  pub refreshed : entry_line {A = Unit {0}} 8 (says.Refreshed 0 3 1) ≡ codes "8 refreshed 0 st=3 sq=1\n"
  pub repeated : entry_line {A = Unit {0}} 3 (says.Repeated 0 1 0) ≡ codes "3 repeated 0 st=1 sq=0\n"
  pub older : entry_line {A = Unit {0}} 6 (says.Older 0 2 4) ≡ codes "6 old 0 st=2 sq=4\n"
  pub refused : entry_line {A = Unit {0}} 7 (says.Refused 1 reason.ConfRev) ≡ codes "7 refused 1 ConfRev\n"
  pub not_subscribed : entry_line {A = Unit {0}} 9 says.NotSubscribed ≡ codes "9 not-subscribed\n"
  pub sampled : entry_line {A = Unit {0}} 10 says.Sampled ≡ codes "10 sampled\n"
  pub faulty : entry_line {A = Unit {0}} 12 (says.Faulty (record { place = 59; cause = causes.EntryCount })) ≡ codes "12 fault 59 EntryCount\n"
  pub several : entry_lines {A = Unit {0}} 11 (says.Expired 0 ∷ says.Switched 2 ∷ []) ≡ codes "11 expired 0\n11 switched 2\n"

entry_texts : AreEntryLines
unfolding digits encode_with
entry_texts = record { act = refl; refreshed = refl; repeated = refl; older = refl; refused = refl; not_subscribed = refl; sampled = refl; faulty = refl; several = refl }

pub record AreOtherLines : Type 0 where
  pub skipped : sample_line 7 (record { position = 0; count = 4 }) (seen.Skipped 2) ≡ codes "7 0 4 skipped 2\n"
  pub next : sample_line 5 (record { position = 1; count = 1 }) seen.Next ≡ codes "5 1 1 next\n"
  pub entries_differ : script_fault_line (item_fault.Line 5 script.EntriesDiffer) ≡ codes "# 5 script EntriesDiffer\n"
  pub members : script_fault_line (item_fault.Line 4 (script.Members (record { place = 1; cause = causes.LengthPastEnd }))) ≡ codes "# 4 script Members 1 LengthPastEnd\n"
  pub long_line : script_fault_line (item_fault.Lines (record { line = 9; cause = list.LineTooLong })) ≡ codes "# 9 script LineTooLong\n"

other_lines : AreOtherLines
unfolding digits
other_lines = record { skipped = refl; next = refl; entries_differ = refl; members = refl; long_line = refl }
