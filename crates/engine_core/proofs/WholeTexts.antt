-- A run leaves written of the whole text of the list that it read: all, or a front.
use Rattle.std.proofs.Common.{Option, Ok, Err, Result, ◌≡◌, ℕ, Bool, false, List, [], ◌∷◌, ◌++◌, inl, inr, ap, ap₂, sym, ◌∙◌, refl, subst}
use Rattle.std.specs.Prelude.{◌||◌}
use Rattle.std.specs.Io.KnownBytes.{Appends}
use Rattle.list_core.specs.declared.device.InputEnd.{InputEnd}
use Rattle.list_core.specs.declared.line_rules.ItemFault.{ItemFault}
use Rattle.list_core.specs.declared.line_rules.ItemFault.TheVariants as fault
use Rattle.list_core.specs.Device.{AppendsPrefix}
use Rattle.list_core.specs.Lines.{Stop, finished, unfinished, faulty}
use Rattle.list_core.specs.Items.{Listing, listing}
use Rattle.list_core.proofs.Devices.{AppendsPrefix-more}
use Rattle.engine_core.specs.declared.ending.Ending.{Ending}
use Rattle.engine_core.specs.declared.ending.Ending.TheVariants.{Done, Findings, InputFault, ReadFault, WriteFault, Memory}
use Rattle.engine_core.specs.EngineText.{ItemText, Text, exactly, has_finding, joined_texts, last_text}
use Rattle.engine_core.specs.Run.{list_faults, list_input}
use Rattle.engine_core.specs.WholeRun.{AllowsEach, IsWholeText, LeavesFront, LeavesToFault, LeavesWholeText, StopsBehind, StopsWith}
use Rattle.engine_core.specs.Laws.{LeavesFaulty, LeavesOfWhole, RunsWriteWholeTexts}
use Rattle.engine_core.specs.computed.WholeText.{Account, put_step, told, told_after, told_rest, told_stop, whole_text}
use Rattle.engine_core.proofs.ItemTexts.{behind, told_behind}
use Rattle.engine_core.proofs.WholeRuns.{input_is}

-- of each item something may be written, where its text is fixed
pub exactly_each : {X C : Type 0} (t : Text X C) → AllowsEach (exactly t)
exactly_each t = record { of_item = λ before e. (t.of_item before e, refl); at_end = λ items. ([], refl) }

module _ {X C : Type 0} (t : Text X C) where
  last_is : (items : List (ℕ × X)) (stop : Stop (ItemFault C)) (last : List ℕ × Bool) → StopsWith (exactly t) items stop last → last ≡ (last_text t stop, false)
  last_is items finished last (lines, none, is) = is ∙ ap (λ (l : List ItemText). (joined_texts l, has_finding l)) none
  last_is items unfinished last is = is
  last_is items (faulty f) last is = is

  told_first : (es : List (ℕ × X)) (e : ℕ × X) (rest : List (ℕ × X)) (stop : Stop (ItemFault C)) → told_after t es (e ∷ rest) stop ≡ put_step t e.0 (t.of_item es e) (told_after t (es ++ e ∷ []) rest stop)
  unfolding told_after
  told_first es e rest stop = refl

  told_end : (es : List (ℕ × X)) (stop : Stop (ItemFault C)) → told_after t es [] stop ≡ told_stop t stop
  unfolding told_after
  told_end es stop = refl

  -- where the text stops, only the last one is told
  told_onward : (es : List (ℕ × X)) (onward : Listing X C) (stop : Stop (ItemFault C)) → StopsBehind fault.Line (exactly t) es onward stop → told_rest t es onward ≡ told_stop t stop
  told_onward es onward stop (inl h) = ap (told_rest t es) h ∙ told_end es stop
  told_onward es onward stop (inr (why, x, is)) =
      ap (told_rest t es) x.is_next ∙ told_first es x.item x.others.items x.others.stop ∙ ap (λ s. put_step t x.item.0 s (told_after t (es ++ x.item ∷ []) x.others.items x.others.stop)) x.is_refused
      ∙ ap (λ f. told_stop t (faulty f)) (sym x.is_fault) ∙ ap (told_stop t) (sym is)

  -- a whole text that may be written is the one that is told
  record IsTold (l : Listing X C) (text : List ℕ) (found : Bool) (stop : Stop (ItemFault C)) : Type 0 where
    is_text : text ≡ whole_text t l
    finds : (told t l).found ≡ found
    stops : (told t l).stop ≡ stop

  is_told : (l : Listing X C) (text : List ℕ) (found : Bool) (stop : Stop (ItemFault C)) → IsWholeText fault.Line (exactly t) l text found stop → IsTold l text found stop
  is_told l text found stop w =
      let last : w.last ≡ (last_text t stop, false) = last_is w.items stop w.last w.stops_with in
      let same : told t l ≡ behind w.texts (told_stop t stop) =
      ap (told t) w.says ∙ told_behind t w.items w.texts w.onward.items w.onward.stop w.are_texts ∙ ap (behind w.texts) (told_onward w.items w.onward stop w.stops_so) in
      record {
        is_text = w.is_text ∙ ap (λ (l : List ℕ × Bool). t.first ++ (joined_texts w.texts ++ l.0)) last ∙ sym (ap (λ (o : Account C). t.first ++ o.text) same);
        finds = ap (λ (o : Account C). o.found) same ∙ ap (λ (l : List ℕ × Bool). has_finding w.texts || l.1) (sym last) ∙ w.finds;
        stops = ap (λ (o : Account C). o.stop) same;
      }

  by_fault : (l : Listing X C) (ending : Ending) (by : Option (ItemFault C)) (old new : Option (List ℕ)) → LeavesToFault list_faults (exactly t) l ending by old new → LeavesFaulty t ending l old new
  by_fault l ending by old new w =
      let is = is_told l w.text w.found (faulty w.why) w.is_whole in
      record { why = w.why; ends = is.stops; has_ending = w.has_ending; written = subst (λ x. Appends old new x) is.is_text w.written }

  by_front : (l : Listing X C) (by : Option (ItemFault C)) (old new : Option (List ℕ)) → LeavesFront list_faults (exactly t) l by old new → AppendsPrefix old new (whole_text t l)
  by_front l by old new w =
      let g = w.of_whole (exactly_each t) in
      let is = is_told l g.text g.found g.stop g.is_whole in
      subst (λ x. AppendsPrefix old new x) (sym g.goes_on ∙ is.is_text) (AppendsPrefix-more old new w.front g.more w.written)

  leaves_of : (ending : Ending) (l : Listing X C) (by : Option (ItemFault C)) (old new : Option (List ℕ)) → LeavesWholeText list_faults (exactly t) ending l by old new → LeavesOfWhole t ending l old new
  leaves_of Done l by old new w = let is = is_told l w.text _ finished w.is_whole in record { ends = is.stops; finds = is.finds; written = subst (λ x. Appends old new x) is.is_text w.written }
  leaves_of Findings l by old new w = let is = is_told l w.text _ finished w.is_whole in record { ends = is.stops; finds = is.finds; written = subst (λ x. Appends old new x) is.is_text w.written }
  leaves_of InputFault l by old new w = by_fault l InputFault by old new w
  leaves_of ReadFault l by old new w = by_fault l ReadFault by old new w
  leaves_of WriteFault l by old new w = by_front l by old new w
  leaves_of Memory l by old new w = by_front l by old new w

pub runs_write : {S X C : Type 0} → RunsWriteWholeTexts S X C
runs_write r s t ending z read old new (why, run) = leaves_of t ending (listing r s z 0 read) why old new (input_is (list_input r s) (exactly t) ending why z read old new run)
