-- A whole text that may be written of what an input says, and what a run leaves of one.
use Rattle.std.specs.Prelude.{◌≡◌, ◌⊎◌, ◌||◌, ℕ, Bool, true, false, List, [], ◌∷◌, ◌++◌, Option, None, Some, Result, Err}
use Rattle.std.specs.Io.KnownBytes.{Appends}
use Rattle.list_core.specs.declared.device.InputEnd.{InputEnd}
use Rattle.list_core.specs.Device.{AppendsPrefix}
use Rattle.list_core.specs.Items.{Numbered, put_item, put_items, stops}
use Rattle.list_core.specs.Lines.{Stop, finished, unfinished, faulty}
use Rattle.list_core.specs.ReadItems.{AnswerOf}
use Rattle.engine_core.specs.declared.ending.Ending.{Ending}
use Rattle.engine_core.specs.declared.ending.Ending.TheVariants.{Done, Findings, InputFault, ReadFault, WriteFault, Memory}
use Rattle.engine_core.specs.Ending.{ending_by_fault}
use Rattle.engine_core.specs.EngineText.{Allowed, AreAllowedTexts, ItemText, has_finding, joined_texts, step_text_to}
use Rattle.engine_core.specs.Input.{Faults, Input, TellsNext}
use Rattle.engine_core.specs.RunOver.{Leaves, LeavesSo}

-- ---- texts

-- what is written last behind these items, by how an input stops, and whether it has a finding: the lines at its end, or the text of its fault
abbrev pub StopsWith : {X C F : Type 0} → Allowed X C F → List (ℕ × X) → Stop F → List ℕ × Bool → Type 0
StopsWith t items finished last = (lines : List ItemText) × t.at_end items lines × (last ≡ (joined_texts lines, has_finding lines))
StopsWith t items unfinished last = last ≡ ([], false)
StopsWith t items (faulty f) last = last ≡ (t.last f, false)

-- the next item is refused after these items, which is a fault of the input
pub record RefusesItem {X C F : Type 0} (refused : ℕ → C → F) (t : Allowed X C F) (items : List (ℕ × X)) (onward : Numbered X F) (why : F) : Type 0 where
  pub item : ℕ × X
  pub others : Numbered X F
  pub cause : C
  pub is_next : onward ≡ put_item item others
  pub is_refused : t.of_item items item (Err cause)
  pub is_fault : why ≡ refused item.0 cause

-- how a text stops behind these items: as the input does, which says no further one, or by the next item, which is refused
abbrev pub StopsBehind : {X C F : Type 0} → (ℕ → C → F) → Allowed X C F → List (ℕ × X) → Numbered X F → Stop F → Type 0
StopsBehind {F = F} refused t items onward stop = (onward ≡ stops stop) ⊎ ((why : F) × RefusesItem refused t items onward why × (stop ≡ faulty why))

-- A whole text of what an input says: what stands first, a text that is allowed for each item, and what is last, by how it stops. Something is found in it or nothing is.
pub record IsWholeText {X C F : Type 0} (refused : ℕ → C → F) (t : Allowed X C F) (said : Numbered X F) (text : List ℕ) (found : Bool) (stop : Stop F) : Type 0 where
  pub items : List (ℕ × X)
  pub texts : List ItemText
  pub are_texts : AreAllowedTexts t items texts
  -- what the input says onward
  pub onward : Numbered X F
  pub says : said ≡ put_items items onward
  pub stops_so : StopsBehind refused t items onward stop
  pub last : List ℕ × Bool
  pub stops_with : StopsWith t items stop last
  pub is_text : text ≡ t.first ++ (joined_texts texts ++ last.0)
  pub finds : (has_finding texts || last.1) ≡ found

-- what may be written next, after these items: a text of the first of those that follow, or the last one
abbrev pub IsTextOnward : {X C F : Type 0} → (ℕ → C → F) → Allowed X C F → List (ℕ × X) → List (ℕ × X) → Stop F → List ℕ → Type 0
IsTextOnward refused t before [] stop text = (found : Bool) × StopsWith t before stop (text, found)
IsTextOnward {C = C} refused t before (e ∷ es) stop text = (written : Result (List ℕ × Bool) C) × t.of_item before e written × (text ≡ step_text_to refused t e.0 written)

-- A front of a text of what an input says: what stands first, a text that is allowed for each of the first items, and nothing more or one that may be written next.
pub record IsFrontText {X C F : Type 0} (refused : ℕ → C → F) (t : Allowed X C F) (said : Numbered X F) (text : List ℕ) : Type 0 where
  pub items : List (ℕ × X)
  pub texts : List ItemText
  pub are_texts : AreAllowedTexts t items texts
  pub onward : Numbered X F
  pub says : said ≡ put_items items onward
  pub next : List ℕ
  pub is_next : (next ≡ []) ⊎ IsTextOnward refused t items onward.items onward.stop next
  pub is_text : text ≡ (t.first ++ joined_texts texts) ++ next

-- of each item something may be written, whatever items stand before it, and behind all of them there may be an end
pub record AllowsEach {X C F : Type 0} (t : Allowed X C F) : Type 0 where
  pub of_item : (before : List (ℕ × X)) (e : ℕ × X) → (written : Result (List ℕ × Bool) C) × t.of_item before e written
  pub at_end : (items : List (ℕ × X)) → (lines : List ItemText) × t.at_end items lines

-- a whole text that begins with this front
pub record GoesOn {X C F : Type 0} (refused : ℕ → C → F) (t : Allowed X C F) (said : Numbered X F) (front : List ℕ) : Type 0 where
  pub text : List ℕ
  pub found : Bool
  pub stop : Stop F
  pub is_whole : IsWholeText refused t said text found stop
  pub more : List ℕ
  pub goes_on : text ≡ front ++ more

-- ---- what a run leaves

-- a whole text stands written of an input that has ended; something was found or nothing was
pub record LeavesAll {X C F : Type 0} (faults : Faults C F) (t : Allowed X C F) (said : Numbered X F) (found : Bool) (fault : Option F) (old new : Option (List ℕ)) : Type 0 where
  pub text : List ℕ
  pub is_whole : IsWholeText faults.refused t said text found finished
  pub by_none : fault ≡ None
  pub written : Appends old new text

-- a whole text stands written that stops by the fault that is handed out, which has this ending
pub record LeavesToFault {X C F : Type 0} (faults : Faults C F) (t : Allowed X C F) (said : Numbered X F) (ending : Ending) (fault : Option F) (old new : Option (List ℕ)) : Type 0 where
  pub why : F
  pub text : List ℕ
  pub found : Bool
  pub is_whole : IsWholeText faults.refused t said text found (faulty why)
  pub by : fault ≡ Some why
  pub has_ending : ending_by_fault faults.failed why ≡ ending
  pub written : Appends old new text

-- a prefix of a front stands written, and no fault is handed out; the front is one of a whole text, if of each item something may be written
pub record LeavesFront {X C F : Type 0} (faults : Faults C F) (t : Allowed X C F) (said : Numbered X F) (fault : Option F) (old new : Option (List ℕ)) : Type 0 where
  pub by_none : fault ≡ None
  pub front : List ℕ
  pub is_front : IsFrontText faults.refused t said front
  pub written : AppendsPrefix old new front
  pub of_whole : AllowsEach t → GoesOn faults.refused t said front

-- what stands written of a whole text, by the ending: all where the run ended with the input or by a fault of it, and else a prefix
abbrev pub LeavesWholeText : {X C F : Type 0} → Faults C F → Allowed X C F → Ending → Numbered X F → Option F → Option (List ℕ) → Option (List ℕ) → Type 0
LeavesWholeText faults t Done said fault old new = LeavesAll faults t said false fault old new
LeavesWholeText faults t Findings said fault old new = LeavesAll faults t said true fault old new
LeavesWholeText faults t InputFault said fault old new = LeavesToFault faults t said InputFault fault old new
LeavesWholeText faults t ReadFault said fault old new = LeavesToFault faults t said ReadFault fault old new
LeavesWholeText faults t WriteFault said fault old new = LeavesFront faults t said fault old new
LeavesWholeText faults t Memory said fault old new = LeavesFront faults t said fault old new

-- these items come first of what an input says, and then what the answer tells
abbrev pub SaysFirst : {X F : Type 0} → Numbered X F → List (ℕ × X) → AnswerOf X F → Type 0
SaysFirst {X = X} {F = F} said items answer = (onward : Numbered X F) × (said ≡ put_items items onward) × TellsNext answer onward

-- of whatever an input says, a run leaves a whole text or a front of one
abbrev pub InputsAreWrittenWhole : {X C F : Type 0} → Allowed X C F → Type 0
InputsAreWrittenWhole {X = X} {C = C} {F = F} t =
    (faults : Faults C F) (said : Numbered X F) (ending : Ending) (fault : Option F) (old new : Option (List ℕ)) →
    LeavesSo (Unit {0}) (SaysFirst said) faults t ending fault old new → LeavesWholeText faults t ending said fault old new

-- so of this input
abbrev pub IsWrittenWhole : {X C F : Type 0} → Input X C F → Allowed X C F → Type 0
IsWrittenWhole {F = F} input t =
    (ending : Ending) (fault : Option F) (z : InputEnd) (read : List ℕ) (old new : Option (List ℕ)) →
    Leaves input t ending fault z read old new → LeavesWholeText input.faults t ending (input.says z read) fault old new
