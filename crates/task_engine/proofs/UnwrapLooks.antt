-- A reader that changes events looks at the events beneath, changed as options ask for that.
use Rattle.std.proofs.Common.{Some, None, Ok, Err, ◌≡◌, ℕ, Bool, List, ap, ◌∙◌, refl}
use Rattle.std.specs.Global.{Global}
use Rattle.list_core.specs.declared.event.Event.{Event}
use Rattle.list_core.specs.ReadItems.{AnswerOf}
use Rattle.unwrap_core.specs.UnwrapEvents.{UnwrapsEach, change_answer, change_event, under}
use Rattle.unwrap_core.specs.declared.unwrap.Changes.{Changes}
use Rattle.unwrap_core.specs.declared.unwrap.Unwrap.{Unwrap}
use Rattle.unwrap_core.proofs.UnwrappedEvents.{unwraps_what_came}
use Rattle.engine_core.specs.Input.{GaveThen, Reader, reader_of}
use Rattle.engine_core.specs.MadeRun.{answer_made, each_made}
use Rattle.words_core.specs.declared.option_words.Options.{Options}
use Rattle.task_engine.specs.EventReader.{InputState, Look, LooksFrom, made_look}
use Rattle.task_engine.specs.InputText.{changes_of}
use Rattle.task_engine.proofs.MadeLooks.{Came, made_looks}

change_made : {F : Type 0} (changes : Changes) (answer : AnswerOf (Event Global) F) → change_answer changes answer ≡ answer_made (change_event changes) answer
change_made changes (Ok (Some e)) = refl
change_made changes (Ok None) = refl
change_made changes (Err f) = refl

module _ {I C F : Type 0} (answers : I → AnswerOf (Event Global) F → I → Type 0) (number : I → ℕ) (refused : ℕ → C → F) (failed : F → Bool) where
  abbrev below : Reader I (Event Global) C F
  below = reader_of answers number refused failed

  abbrev above : Reader (Unwrap I) (Event Global) C F
  above = reader_of (λ old answer new. UnwrapsEach answers old answer new) (λ s. number (under s)) refused failed

  came : (changes : Changes) (start end : Unwrap I) → start.changes ≡ changes → (items : List (ℕ × Event Global)) (answer : AnswerOf (Event Global) F) → GaveThen above start end items answer → Came below under (change_event changes) start end items answer
  came changes start end is items answer gave =
      let c = unwraps_what_came answers start gave.before items gave.gave in
      let each = gave.answered in
      record {
        said = c.0;
        raw = each.given;
        gave = record { before = under gave.before; gave = c.1; answered = each.read };
        are_made = c.2 ∙ ap (λ (x : Changes). each_made (change_event x) c.0) is;
        is_made = each.made ∙ ap (λ (x : Changes). change_answer x each.given) (c.3 ∙ is) ∙ change_made changes each.given;
      }

  pub unwrapped_looks : (options : Options) (look : Look C F) (state : I → InputState) (start : Unwrap I) → start.changes ≡ changes_of options → LooksFrom below look state (under start) → LooksFrom above (made_look (change_event (changes_of options)) look) (λ s. state (under s)) start
  unwrapped_looks options look state start is looks = made_looks below above under (change_event (changes_of options)) look state start refl (λ end items answer gave. came (changes_of options) start end is items answer gave) looks
