-- A reader of a list looks at its events.
use Rattle.std.proofs.Common.{Option, ◌≡◌, ◌+◌, ◌-◌, ℕ, List, [], length, take, inl, inr, ap, sym, ◌∙◌, refl, subst, arith}
use Rattle.std.specs.Global.{Global}
use Rattle.list_core.specs.declared.device.InputEnd.{InputEnd}
use Rattle.list_core.specs.declared.device.InputEnd.TheVariants.{Open}
use Rattle.list_core.specs.declared.event.Event.{Event}
use Rattle.list_core.specs.declared.event_lines.EventLines.{EventLines}
use Rattle.list_core.specs.declared.event_lines.EventLines.TheVariants.{First}
use Rattle.list_core.specs.declared.line_rules.ItemFault.{ItemFault}
use Rattle.list_core.specs.declared.list_fault.ListCause.{ListCause}
use Rattle.list_core.specs.EventLine.{event_rules}
use Rattle.list_core.specs.ItemReader.{AnswersItem, ReaderState, item_number, item_state}
use Rattle.list_core.specs.Items.{Listing, items_said, listing}
use Rattle.list_core.specs.Lines.{reading}
use Rattle.list_core.specs.ReadItems.{AnswerOf}
use Rattle.engine_core.specs.Input.{GaveThen, IsRead, Reader}
use Rattle.engine_core.specs.Run.{AtLine, list_faults, list_input}
use Rattle.engine_core.proofs.InputRuns.{GivenSo}
use Rattle.engine_core.proofs.ListRuns.{list_read}
use Rattle.engine_core.proofs.ReadFaults.{list_blames}
use Rattle.task_engine.specs.declared.event_input.ListReader.{ListReader}
use Rattle.task_engine.specs.EventReader.{LooksFrom, list_look, list_state}
use Rattle.task_engine.specs.HandedOut.{ReachesInList}
use Rattle.task_engine.proofs.PassedLemmas.{take_front}
use Rattle.task_engine.proofs.ReaderStates.{gave_states}

none_in_list : ReachesInList Open [] 0
none_in_list = inl (record { lines_before = 0; settled = First; earlier = []; onward = []; whole = refl; starts_line = inl refl; at_most = omega arith; for_this_line = inl refl; says = refl })

-- the line behind these events of a list, and one more of them
list_reaches : (z : InputEnd) (octets : List ℕ) (es : List (ℕ × Event Global)) → AtLine event_rules First z octets es → ReachesInList z octets (length es) × ReachesInList z octets (length es + 1)
list_reaches z octets es line =
    let items = (listing (event_rules {A = Global}) First z 0 octets).items in
    let front : take (length es) items ≡ es = ap (λ (l : Listing (Event Global) ListCause). take (length es) l.items) line.says ∙ take_front es _ in
    let one_less : length es + 1 - 1 ≡ length es = omega arith in (
      inl (subst (λ (xs : List (ℕ × Event Global)). AtLine event_rules First z octets xs) (sym front) line),
      inr (subst (λ (xs : List (ℕ × Event Global)). AtLine event_rules First z octets xs) (sym (ap (λ (n : ℕ). take n items) one_less ∙ front)) line),
    )

no_event : (listing (event_rules {A = Global}) First Open 0 []).items ≡ []
unfolding items_said reading
no_event = refl

module _ {R : Type 0} (left : R → Option (List ℕ)) (told : R → InputEnd) where
  abbrev state : ListReader R → ReaderState EventLines
  state x = item_state left told x.lines

  abbrev lines : Reader (ListReader R) (Event Global) ListCause (ItemFault ListCause)
  lines = record { answers = λ before answer after. AnswersItem event_rules (state before) answer (state after); number = λ s. item_number s.lines; faults = list_faults }

  module _ (start : ListReader R) (is_open : (state start).ending ≡ Open) (no_line : (state start).taken ≡ 0) (no_octet : (state start).held ≡ []) (first : (state start).settled ≡ First) where
    list_reads : (end : ListReader R) (items : List (ℕ × Event Global)) (answer : AnswerOf (Event Global) (ItemFault ListCause)) → GaveThen lines start end items answer →
        GivenSo (state start).left (state end).left (λ given. IsRead (list_input event_rules First) (state end).ending given items answer)
    list_reads end items answer gave =
        subst (λ (s : EventLines). GivenSo (state start).left (state end).left (λ given. IsRead (list_input event_rules s) (state end).ending given items answer)) first
        (list_read event_rules (state start) (state gave.before) (state end) items answer is_open no_line no_octet (gave_states (AnswersItem event_rules) state start gave.before items gave.gave) gave.answered)

    pub list_looks : LooksFrom lines list_look (λ s. list_state (state s)) start
    list_looks = record {
      faults = refl;
      blames = list_blames event_rules First;
      none = (no_event, none_in_list);
      reaches = λ z read items answer s. list_reaches z read items s.line;
      is_open = is_open;
      reads = list_reads;
      passes = λ end ending l. refl;
      links = λ end ending l. refl;
    }
