-- Lines and lists that docs/FORMATS.md gives, computed: a wrong definition does not check.
use Rattle.std.proofs.Common.{◌≡◌, true, false, List, [], ◌∷◌, Some, None, Ok, Err, refl}
use Rattle.std.specs.Prelude.{ℕ, Result, Option, codes}
use Rattle.hex.specs.Hex.{decode_pairs}
use Rattle.list_core.specs.EventLine.{event_of, event_rules}
use Rattle.list_core.specs.Items.{Listing, items_said, listing}
use Rattle.list_core.specs.Lines.{finished, faulty, reading}
use Rattle.list_core.specs.declared.device.InputEnd.TheVariants.{End, Failed}
use Rattle.list_core.specs.declared.event.Event.{Event}
use Rattle.list_core.specs.declared.event.EventKind.TheVariants.{Frame, Clock, Mode}
use Rattle.list_core.specs.declared.event_lines.EventLines.TheVariants.{First}
use Rattle.list_core.specs.declared.event_lines.MomentUnit.TheVariants.{Milliseconds, Microseconds}
use Rattle.list_core.specs.declared.line_rules.ItemFault.TheVariants as item_fault
use Rattle.list_core.specs.declared.list_fault.ListCause.{ListCause}
use Rattle.list_core.specs.declared.list_fault.ListCause.TheVariants.{LineForm, Moment, Hex, ReadFailed}

-- ---- lines of a list

abbrev in_milliseconds : List ℕ → Result (Option (Event (Unit {0}))) ListCause
in_milliseconds line = event_of Milliseconds line

abbrev in_microseconds : List ℕ → Result (Option (Event (Unit {0}))) ListCause
in_microseconds line = event_of Microseconds line

pub record AreLines : Type 0 where
  pub empty : in_milliseconds [] ≡ Ok None
  pub comment : in_milliseconds (codes "# a comment") ≡ Ok None
  pub clock : in_milliseconds (codes "C 2000") ≡ Ok (Some (record { moment = 2000000; kind = Clock }))
  pub clock_2 : in_microseconds (codes "C 2000000") ≡ Ok (Some (record { moment = 2000000; kind = Clock }))
  pub frame : in_microseconds (codes "F 0 010cCD") ≡ Ok (Some (record { moment = 0; kind = Frame (0x01 ∷ 0x0c ∷ 0xcd ∷ []) }))
  pub on : in_microseconds (codes "M 1000 on") ≡ Ok (Some (record { moment = 1000; kind = Mode true }))
  pub off : in_microseconds (codes "M 1000 off") ≡ Ok (Some (record { moment = 1000; kind = Mode false }))
  -- 15 digits of milliseconds, 18 of microseconds
  pub most : in_milliseconds (codes "C 999999999999999") ≡ Ok (Some (record { moment = 999999999999999000; kind = Clock }))
  pub most_2 : in_microseconds (codes "C 999999999999999999") ≡ Ok (Some (record { moment = 999999999999999999; kind = Clock }))
  pub more : in_milliseconds (codes "C 1000000000000000") ≡ Err Moment
  pub more_2 : in_microseconds (codes "C 1000000000000000000") ≡ Err Moment
  pub sign : in_milliseconds (codes "C +5") ≡ Err Moment
  -- exactly one space between fields, and none of them empty
  pub two_spaces : in_milliseconds (codes "C  5") ≡ Err LineForm
  pub front_space : in_milliseconds (codes " C 5") ≡ Err LineForm
  pub last_space : in_milliseconds (codes "C 5 ") ≡ Err LineForm
  pub alone : in_milliseconds (codes "C") ≡ Err LineForm
  pub small : in_milliseconds (codes "c 5") ≡ Err LineForm
  pub version : in_milliseconds (codes "V2") ≡ Err LineForm
  pub no_octets : in_milliseconds (codes "F 0 ") ≡ Err LineForm
  pub odd : in_milliseconds (codes "F 0 012") ≡ Err Hex
  pub no_digit : in_milliseconds (codes "F 0 0g") ≡ Err Hex
  -- the shape is judged first, then the moment, then the octets
  pub shape_first : in_milliseconds (codes "M x maybe") ≡ Err LineForm
  pub moment_first : in_milliseconds (codes "F x 0g") ≡ Err Moment

pub lines : AreLines
unfolding decode_pairs
lines = record {
  empty = refl;
  comment = refl;
  clock = refl;
  clock_2 = refl;
  frame = refl;
  on = refl;
  off = refl;
  most = refl;
  most_2 = refl;
  more = refl;
  more_2 = refl;
  sign = refl;
  two_spaces = refl;
  front_space = refl;
  last_space = refl;
  alone = refl;
  small = refl;
  version = refl;
  no_octets = refl;
  odd = refl;
  no_digit = refl;
  shape_first = refl;
  moment_first = refl;
}

-- ---- lists

abbrev listed : List ℕ → Listing (Event (Unit {0})) ListCause
listed text = listing event_rules First End 0 text

pub record AreLists : Type 0 where
  pub nothing : listed [] ≡ record { items = []; stop = finished }
  -- the version counts as a line, and so does a comment; the last line needs no LF
  pub version : listed (codes "V2\n# a comment\nF 0 01\nM 1000 on\nC 2000000")
      ≡ record {
        items = (3, record { moment = 0; kind = Frame (1 ∷ []) }) ∷ (4, record { moment = 1000; kind = Mode true }) ∷ (5, record { moment = 2000000; kind = Clock }) ∷ [];
        stop = finished;
      }
  -- one CR is dropped, before LF and before the end
  pub one_cr : listed (codes "V2\r\nC 7\r") ≡ record { items = (2, record { moment = 7; kind = Clock }) ∷ []; stop = finished }
  pub two_cr : listed (codes "C 7\r\r\n") ≡ record { items = []; stop = faulty (item_fault.Line 1 Moment) }
  -- a version stands in the first line alone
  pub late_version : listed (codes "C 7\nV2\nC 8\n") ≡ record { items = (1, record { moment = 7000; kind = Clock }) ∷ []; stop = faulty (item_fault.Line 2 LineForm) }
  -- a line that was not read to its end gives no event
  pub unread : listing (event_rules {A = Unit {0}}) First Failed 0 (codes "C 7\nC 8") ≡ record {
    items = (1, record { moment = 7000; kind = Clock }) ∷ [];
    stop = faulty (item_fault.Lines (record { line = 2; cause = ReadFailed }));
  }

pub lists : AreLists
unfolding reading items_said decode_pairs
lists = record { nothing = refl; version = refl; one_cr = refl; two_cr = refl; late_version = refl; unread = refl }
