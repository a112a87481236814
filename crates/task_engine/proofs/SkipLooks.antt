-- A reader that passes over frames of other protocols looks at what is left of the events beneath, and keeps what it passed over.
use Rattle.std.proofs.Common.{Some, None, Ok, Err, ◌≡◌, ℕ, Bool, List, [], inl, inr, ap, ◌∙◌, refl, subst}
use Rattle.std.specs.Global.{Global}
use Rattle.list_core.specs.declared.event.Event.{Event}
use Rattle.list_core.specs.ReadItems.{AnswerOf}
use Rattle.tally_core.specs.Tally.{Tally, count_all, no_tally}
use Rattle.frame_core.specs.declared.skip_other.SkipOther.{SkipOther}
use Rattle.frame_core.specs.SkipOther.{Skips, beneath, pass_answer, passed_in, passed_over, skip_answer, skip_other}
use Rattle.frame_core.proofs.Skipping.{leaves_what_came}
use Rattle.engine_core.specs.declared.ending.Ending.{Ending}
use Rattle.engine_core.specs.Input.{GaveThen, Reader, reader_of}
use Rattle.engine_core.specs.MadeRun.{answer_made}
use Rattle.engine_core.proofs.InputRuns.{none_given}
use Rattle.task_engine.specs.EventReader.{InputState, LeftOrReads, Look, LooksFrom, TellsStop, skipped_look}
use Rattle.task_engine.specs.HandedOut.{PassesAmong}
use Rattle.task_engine.proofs.MadeLooks.{Came, made_looks, stop_before}
use Rattle.task_engine.proofs.PassedLemmas.{passes_by, passes_none}

skip_made : {F : Type 0} (answer : AnswerOf (Event Global) F) → skip_answer answer ≡ answer_made skip_other answer
skip_made (Ok (Some e)) = refl
skip_made (Ok None) = refl
skip_made (Err f) = refl

module _ {I C F : Type 0} (answers : I → AnswerOf (Event Global) F → I → Type 0) (number : I → ℕ) (refused : ℕ → C → F) (failed : F → Bool) where
  abbrev below : Reader I (Event Global) C F
  below = reader_of answers number refused failed

  abbrev above : Reader (SkipOther I Global) (Event Global) C F
  above = reader_of (λ old answer new. Skips answers old answer new) (λ s. number (beneath s)) refused failed

  came : (start end : SkipOther I Global) (items : List (ℕ × Event Global)) (answer : AnswerOf (Event Global) F) → GaveThen above start end items answer → Came below beneath skip_other start end items answer
  came start end items answer gave =
      let c = leaves_what_came answers start gave.before items gave.gave in
      let skips = gave.answered in
      record {
        said = c.0;
        raw = skips.given;
        gave = record { before = beneath gave.before; gave = c.1; answered = skips.read };
        are_made = c.2;
        is_made = skips.left ∙ skip_made skips.given;
      }

  module _ (look : Look C F) (state : I → InputState) (start : SkipOther I Global) (none : passed_over start ≡ no_tally) (looks : LooksFrom below look state (beneath start)) where
    passes : (end : SkipOther I Global) (ending : Ending) → LeftOrReads above start end ending →
        PassesAmong look.input.says look.reaches ending (state (beneath end)).source (state (beneath start)).left (state (beneath end)).left (Some (passed_over end))
    passes end ending (inl same) = rw same (passed_over start, refl, ([], none_given _, rw looks.is_open (passes_none _ ending _ _ looks.none.0 looks.none.1 none)))
    passes end ending (inr r) =
        let skips = r.gave.answered in
        let c = leaves_what_came answers start r.gave.before r.items r.gave.gave in
        let read = looks.reads (beneath end) c.0 skips.given (record { before = beneath r.gave.before; gave = c.1; answered = skips.read }) in
        let z = (state (beneath end)).source in
        let far = looks.reaches z read.0 c.0 skips.given read.2.stands in (
          passed_over end,
          refl,
          (
            read.0,
            read.1,
            passes_by (look.input.says z read.0) c.0 skips.given ending (look.reaches z read.0) (passed_over end) (read.2.onward, read.2.says, read.2.tells)
                (λ a. stop_before skip_other skips.given (subst (λ (o : AnswerOf (Event Global) F). TellsStop o) (skips.left ∙ skip_made skips.given) (r.all a))) far.0 far.1
                (skips.kept ∙ ap (λ (t : Tally). pass_answer skips.given t) (c.3 ∙ ap (λ (t : Tally). count_all (passed_in c.0) t) none)),
          ),
        )

    pub skipped_looks : LooksFrom above (skipped_look look) (λ s. record (state (beneath s)) { passed = Some (passed_over s) }) start
    skipped_looks =
        let m = made_looks below above beneath skip_other look state start refl (λ end items answer gave. came start end items answer gave) looks in
        record { faults = m.faults; blames = m.blames; none = m.none; reaches = m.reaches; is_open = m.is_open; reads = m.reads; passes = passes; links = m.links }
