-- A publisher that is handed the items of a script one by one, and the text that follows.
use Rattle.std.proofs.Common.{◌≡◌, ℕ, zero, suc, ◌<◌, List, [], ◌∷◌, ◌++◌, length, map, true, false, Option, Some, None, Result, Ok, Err, inl, inr, ap, subst, sym, ◌∙◌, refl, append_assoc, arith}
use Rattle.std.specs.Prelude.{◌&&◌, nat_lt, nat_le, IfErr, IfOk, OnOk, codes}
use Rattle.std.specs.Fmt.{decimal}
use Rattle.std.specs.List.{list_all}
use Rattle.std.proofs.lemmas.Bool.{and_from, and_parts, eq-eqb, le-leb, lt-ltb, ltb-true, ne_eqb}
use Rattle.std.proofs.lemmas.List.{append-nil}
use Rattle.arrayvec.specs.ArrayVec.{ArrayVec}
use Rattle.hex.specs.Hex.{encode_lower}
use Rattle.frame_core.specs.declared.frame.Frame.{Frame as SentFrame}
use Rattle.frame_core.specs.Written.{written_frame}
use Rattle.publish_core.specs.declared.control.Control.{Control}
use Rattle.publish_core.specs.declared.fault.PublishFault.{PublishFault}
use Rattle.publish_core.specs.declared.table.Step.{Step}
use Rattle.publish_core.specs.Frames.{Change, Setup, setup}
use Rattle.publish_core.specs.computed.Judgement.{IsJudged, refusal}
use Rattle.publish_core.specs.Refusal.{Accepts, Refuses, next_state}
use Rattle.publish_core.specs.Run.{Request, Call, Changed, Polled, IsAnswer, PublishesNone, PublishesOctets, call, greatest_call_moment, trace_of_calls}
use Rattle.publish_core.specs.State.{PublisherState, PublisherStandsAfter}
use Rattle.publish_core.specs.computed.Step.{request_frame, request_state, fresh_publisher}
use Rattle.publish_core.specs.Table.{AreSteps, IsGood, most_steps, step_at}
use Rattle.publish_core.proofs.Judged.{judged, judged_only}
use Rattle.publish_core.proofs.Runs.{request_ok, answer_one, fresh_stands}
use Rattle.exchange_engines.specs.declared.engines.publish.Stage.{Stage}
use Rattle.exchange_engines.specs.declared.engines.publish.Stage.TheVariants as stage
use Rattle.script_core.specs.declared.script.ScriptCause.{ScriptCause}
use Rattle.script_core.specs.declared.script.ScriptCause.TheVariants as cause
use Rattle.script_core.specs.declared.script.ScriptItem.{ScriptItem}
use Rattle.script_core.specs.declared.script.ScriptItem.TheVariants as item
use Rattle.list_core.specs.declared.read_error.ReadError.{ReadError}
use Rattle.list_core.specs.declared.read_error.ReadError.TheVariants as read
use Rattle.list_core.specs.declared.line_rules.ItemFault.TheVariants as of_line
use Rattle.engine_core.specs.computed.EngineStep.{Takes}
use Rattle.engine_core.specs.EngineText.{exactly, step_text}
use Rattle.exchange_engines.specs.PublishText.{IsCallText, IsPublishText, IsScriptSound, answer_text, item_of_request, item_of_call, items_of_lines, script_cause, script_of}
use Rattle.exchange_engines.specs.computed.PublishStep.{Progress, nothing, setting_up, calling, Holds, Runs, RunsPublisher, TakesCall, TakesItem, call_at, call_written, called, is_good, item_written, next_progress, progress_after, progress_from, publish_text, setup_cause, state_after_calls, text_unless_refused, unless_unsound, with_step}

-- ---- how far a script has come

pub items-push : {A : Type 0} (before : List (ℕ × ScriptItem A)) (e : ℕ × ScriptItem A) → items_of_lines (before ++ e ∷ []) ≡ items_of_lines before ++ e.1 ∷ []
items-push [] e = refl
items-push (x ∷ before) e = ap (λ (l : List (ScriptItem _)). x.1 ∷ l) (items-push before e)

progress-append : {A : Type 0} (g : Progress A) (xs ys : List (ScriptItem A)) → progress_from g (xs ++ ys) ≡ progress_from (progress_from g xs) ys
progress-append g [] ys = refl
progress-append g (x ∷ xs) ys = progress-append (next_progress x g) xs ys

progress-push : {A : Type 0} (before : List (ℕ × ScriptItem A)) (e : ℕ × ScriptItem A) → progress_after (before ++ e ∷ []) ≡ next_progress e.1 (progress_after before)
progress-push before e = ap (progress_from nothing) (items-push before e) ∙ progress-append nothing (items_of_lines before) (e.1 ∷ [])

-- the item of a call

next_request : {A : Type 0} (g : Progress A) (m : ℕ) (a : Request) → next_progress (item_of_request m a) g ≡ called g (call m a)
next_request g m (Changed change) = refl
next_request g m Polled = refl

step_request : {A : Type 0} (g : Progress A) (m : ℕ) (a : Request) → item_written (item_of_request m a) g ≡ call_at g (call m a)
step_request g m (Changed change) = refl
step_request g m Polled = refl

-- steps behind a control line
steps_progress : {A : Type 0} (p : Setup A) (steps : List Step) (rest : List (ScriptItem A)) →
    progress_from (setting_up p) (map item.Step steps ++ rest) ≡ progress_from (setting_up (setup p.control (p.table ++ steps) p.first)) rest
steps_progress p [] rest = ap (λ (l : List Step). progress_from (setting_up (setup p.control l p.first)) rest) (sym (append-nil p.table))
steps_progress p (s ∷ steps) rest =
    steps_progress (with_step p s) steps rest ∙ ap (λ (l : List Step). progress_from (setting_up (setup p.control l p.first)) rest) (append_assoc p.table (s ∷ []) steps)

script_progress : {A : Type 0} (p : Setup A) (calls : List Call) → progress_from nothing (script_of p calls) ≡ progress_from (setting_up p) (map item_of_call calls)
script_progress p calls = steps_progress (setup p.control [] p.first) p.table (map item_of_call calls)

-- calls behind others
calls_progress : {A : Type 0} (p : Setup A) (before calls : List Call) → progress_from (calling p before) (map item_of_call calls) ≡ calling p (before ++ calls)
calls_progress p before [] = ap (calling p) (sym (append-nil before))
calls_progress p before (c ∷ calls) =
    ap (λ (g : Progress _). progress_from g (map item_of_call calls)) (next_request (calling p before) c.moment c.request)
    ∙ calls_progress p (before ++ c ∷ []) calls ∙ ap (calling p) (append_assoc before (c ∷ []) calls)

-- ---- setups

good_true : (s : Step) → IsGood s → is_good s ≡ true
good_true s g = and_from _ _ (lt-ltb 0 s.wait_ms g.0) (lt-ltb s.wait_ms s.live_ms g.1)

good_is : (s : Step) → is_good s ≡ true → IsGood s
good_is s e = let a = and_parts (nat_lt 0 s.wait_ms) _ e in (ltb-true 0 s.wait_ms a.0, ltb-true s.wait_ms s.live_ms a.1)

all_good : (steps : List Step) → ((i : ℕ) → i < length steps → IsGood (step_at steps i)) → list_all is_good steps ≡ true
all_good [] each = refl
all_good (s ∷ steps) each = and_from _ _ (good_true s (each 0 (omega arith))) (all_good steps (λ i lt. each (suc i) (omega (arith, lt))))

pub good_each : (steps : List Step) → list_all is_good steps ≡ true → (i : ℕ) → i < length steps → IsGood (step_at steps i)
good_each [] e i lt = absurd (omega (arith, lt))
good_each (s ∷ steps) e zero lt = good_is s (and_parts (is_good s) _ e).0
good_each (s ∷ steps) e (suc i) lt = good_each steps (and_parts (is_good s) _ e).1 i (omega (arith, lt))

counted : {A : Type 0} (p : Setup A) → AreSteps p.table → (nat_lt 0 (length p.table) && nat_le (length p.table) most_steps) ≡ true
counted p steps = and_from _ _ (lt-ltb 0 (length p.table) (omega (arith, steps.some))) (le-leb (length p.table) most_steps steps.most)

sound_setup : {A : Type 0} (p : Setup A) → IsScriptSound p → setup_cause p ≡ None
sound_setup p sound =
    let n : ¬ (p.first ≡ 0) = λ e. absurd (omega (arith, e, sound.some)) in
    rw (counted p sound.steps, all_good p.table sound.steps.good, ne_eqb p.first 0 n) refl

-- no first status number
pub first_cause : {A : Type 0} (p : Setup A) → AreSteps p.table → p.first ≡ 0 → setup_cause p ≡ Some cause.FirstState
first_cause p steps none = rw (counted p steps, all_good p.table steps.good, eq-eqb p.first 0 none) refl

-- ---- calls

standing_behind : {A : Type 0} (p : Setup A) (before calls : List Call) (s : PublisherState A) → PublisherStandsAfter p before s → PublisherStandsAfter p (before ++ calls) (state_after_calls s calls)
standing_behind p before [] s w = subst (λ (l : List Call). PublisherStandsAfter p l s) (sym (append-nil before)) w
standing_behind p before (c ∷ calls) s w =
    subst (λ (l : List Call). PublisherStandsAfter p l (state_after_calls s (c ∷ calls))) (append_assoc before (c ∷ []) calls)
    (standing_behind p (before ++ c ∷ []) calls (request_state s c.request c.moment) (request_ok p before s c.request c.moment w).1)

standing_after : {A : Type 0} (p : Setup A) (calls : List Call) → IsScriptSound p → PublisherStandsAfter p calls (state_after_calls (fresh_publisher p) calls)
standing_after p calls sound = standing_behind p [] calls (fresh_publisher p) (fresh_stands p sound.some sound.most)

-- what a call is answered, by what is held
answered : {A : Type 0} (p : Setup A) (calls : List Call) (c : Call) → IsScriptSound p → IsAnswer p (trace_of_calls (calls ++ c ∷ [])) (length calls) (request_frame (state_after_calls (fresh_publisher p) calls) c.request c.moment)
answered p calls c sound = (request_ok p calls (state_after_calls (fresh_publisher p) calls) c.request c.moment (standing_after p calls sound)).0

-- the text of a call is what the whole list of calls says
request_is : {A : Type 0} (p : Setup A) (calls : List Call) (m : ℕ) (a : Request) → IsScriptSound p → IsCallText p calls (call m a) (call_written p calls (call m a))
request_is p calls m Polled sound =
    inl (record { answered = tt; answer = request_frame (state_after_calls (fresh_publisher p) calls) Polled m; is_answer = answered p calls (call m Polled) sound; line = refl })
request_is {A} p calls m (Changed change) sound = in_case (refusal p.control p.table (next_state p calls) change) (judged p.control p.table (next_state p calls) change sound.steps)
  where
    given : Option (SentFrame A)
    given = request_frame (state_after_calls (fresh_publisher p) calls) (Changed change) m

    in_case : (answer : Option PublishFault) → IsJudged p.control p.table (next_state p calls) change answer →
        IsCallText p calls (call m (Changed change)) (text_unless_refused answer (answer_text (greatest_call_moment (calls ++ call m (Changed change) ∷ [])) (request_frame (state_after_calls (fresh_publisher p) calls) (Changed change) m)))
    in_case None accepted = inl (record { answered = accepted; answer = given; is_answer = answered p calls (call m (Changed change)) sound; line = refl })
    in_case (Some why) refused = inr (record { why = why; refused = refused; ends = refl })

-- a call behind a script
call_behind : {A : Type 0} (p : Setup A) (calls : List Call) (c : Call) → IsScriptSound p → call_at (progress_from (setting_up p) (map item_of_call calls)) c ≡ call_written p calls c
call_behind p [] c sound = ap (λ (o : Option ScriptCause). unless_unsound o (call_written p [] c)) (sound_setup p sound)
call_behind p (d ∷ calls) c sound =
    ap (λ (g : Progress _). call_at (progress_from g (map item_of_call calls)) c) (next_request (setting_up p) d.moment d.request)
    ∙ ap (λ (g : Progress _). call_at g c) (calls_progress p (d ∷ []) calls)

-- the text as it is computed is that of the whole script
pub publish_is : {A : Type 0} → IsPublishText {A = A} publish_text
publish_is {A} = record {
  first = refl;
  control_line = λ n first control. refl;
  table_step = λ p before is few n s.
      ap (λ (l : List (ScriptItem A)). item_written (item.Step s) (progress_from nothing l)) is
      ∙ ap (item_written (item.Step s)) (script_progress p [])
      ∙ (rw (lt-ltb (length p.table) most_steps few) refl);
  call = λ p calls before is sound n c.
      let said : item_written (item_of_call c) (progress_after before) ≡ call_written p calls c =
      step_request (progress_after before) c.moment c.request
      ∙ ap (λ (l : List (ScriptItem A)). call_at (progress_from nothing l) c) is
      ∙ ap (λ (g : Progress A). call_at g c) (script_progress p calls)
      ∙ call_behind p calls c sound in
      subst (IsCallText p calls c) (sym said) (request_is p calls c.moment c.request sound);
  last = λ f. refl;
}

-- ---- what the engine does

-- a publisher is set up from what was said, or none can be
pub runs_first : {A : Type 0} (g : Progress A) (control : Control A) (first : ℕ) (steps : ArrayVec Step) (items : List Step) (r : Result (PublisherState A) ScriptCause) → Holds (stage.Setup control first steps) g →
    items ≡ steps.items → IfOk r (λ s. PublisherStandsAfter (setup control items first) [] s) → OnOk r (IsScriptSound (setup control items first)) → IfErr r (λ why. setup_cause (setup control items first) ≡ Some why) → Runs g r
runs_first nothing control first steps items r h e stands sound fails = absurd h
runs_first {A} (setting_up p) control first steps items (Ok s) h e stands sound fails =
    let q : Setup A = setup control items first in
    let same : q ≡ p = ap (λ (l : List Step). setup control l first) e ∙ h in
    record {
      p = q;
      calls = [];
      is_sound = sound;
      stands = stands;
      writes = λ c. ap (λ (x : Setup A). call_at (setting_up x) c) (sym same) ∙ ap (λ (o : Option ScriptCause). unless_unsound o (call_written q [] c)) (sound_setup q sound);
      goes_on = λ c. ap (λ (x : Setup A). called (setting_up x) c) (sym same);
    }
runs_first {A} (setting_up p) control first steps items (Err why) h e stands sound fails = λ c.
    let q : Setup A = setup control items first in
    let same : q ≡ p = ap (λ (l : List Step). setup control l first) e ∙ h in
    ap (λ (x : Setup A). call_at (setting_up x) c) (sym same) ∙ ap (λ (o : Option ScriptCause). unless_unsound o (call_written q [] c)) fails
runs_first (calling p calls) control first steps items r h e stands sound fails = absurd h

-- the line of a frame
published_line : {A : Type 0} (moment now : ℕ) (octets : List ℕ) (f : SentFrame A) → moment ≡ now → octets ≡ written_frame f →
    codes "F " ++ decimal moment ++ codes " " ++ encode_lower octets ++ codes "\n" ≡ answer_text now (Some f)
published_line moment now octets f e h = rw (e, h) refl

-- a change was refused
pub refused : {A : Type 0} (p : Setup A) (calls : List Call) (m : ℕ) (change : Change) (why : PublishFault) → IsScriptSound p → Refuses p calls change why → call_written p calls (call m (Changed change)) ≡ Err (script_cause why)
refused p calls m change why sound refuses =
    let c = call m (Changed change) in
    ap (λ (o : Option PublishFault). text_unless_refused o (answer_text (greatest_call_moment (calls ++ c ∷ [])) (request_frame (state_after_calls (fresh_publisher p) calls) (Changed change) m)))
    (sym (judged_only p.control p.table (next_state p calls) change sound.steps (Some why) refuses))

module _ {A : Type 0} (p : Setup A) (calls : List Call) (sound : IsScriptSound p) (old new : List ℕ) (s : PublisherState A) where
  -- a change was accepted, and the frame that it gives was appended
  pub changed : (m : ℕ) (change : Change) (moment : ℕ) (octets : List ℕ) → Accepts p calls change → PublishesOctets p (calls ++ call m (Changed change) ∷ []) (length calls) octets →
      PublisherStandsAfter p (calls ++ call m (Changed change) ∷ []) s → moment ≡ greatest_call_moment (calls ++ call m (Changed change) ∷ []) →
      new ≡ old ++ (codes "F " ++ decimal moment ++ codes " " ++ encode_lower octets ++ codes "\n") →
      TakesCall p calls (call m (Changed change)) (Ok tt) old new s
  changed m change moment octets accepted published stands now wrote =
      let c = call m (Changed change) in
      let time = greatest_call_moment (calls ++ c ∷ []) in
      let held = request_frame (state_after_calls (fresh_publisher p) calls) (Changed change) m in
      let same = answer_one p (trace_of_calls (calls ++ c ∷ [])) (length calls) (Some published.published) held published.publishes (answered p calls c sound) in
      let not_refused = sym (judged_only p.control p.table (next_state p calls) change sound.steps None accepted) in
      record {
        text = answer_text time (Some published.published);
        has_text = ap (λ (o : Option PublishFault). text_unless_refused o (answer_text time held)) not_refused ∙ ap (λ (o : Option (SentFrame A)). Ok (answer_text time o, false)) (sym same);
        appended = wrote ∙ ap (λ (l : List ℕ). old ++ l) (published_line moment time octets published.published now published.is_written);
        stands_after = stands;
      }

  -- a poll gave a frame
  pub polled_one : (m moment : ℕ) (octets : List ℕ) → PublishesOctets p (calls ++ call m Polled ∷ []) (length calls) octets →
      PublisherStandsAfter p (calls ++ call m Polled ∷ []) s → moment ≡ greatest_call_moment (calls ++ call m Polled ∷ []) →
      new ≡ old ++ (codes "F " ++ decimal moment ++ codes " " ++ encode_lower octets ++ codes "\n") →
      TakesCall p calls (call m Polled) (Ok tt) old new s
  polled_one m moment octets published stands now wrote =
      let c = call m Polled in
      let time = greatest_call_moment (calls ++ c ∷ []) in
      let held = request_frame (state_after_calls (fresh_publisher p) calls) Polled m in
      let same = answer_one p (trace_of_calls (calls ++ c ∷ [])) (length calls) (Some published.published) held published.publishes (answered p calls c sound) in
      record {
        text = answer_text time (Some published.published);
        has_text = ap (λ (o : Option (SentFrame A)). Ok (answer_text time o, false)) (sym same);
        appended = wrote ∙ ap (λ (l : List ℕ). old ++ l) (published_line moment time octets published.published now published.is_written);
        stands_after = stands;
      }

  -- it gave none
  pub polled_none : (m : ℕ) → PublishesNone p (calls ++ call m Polled ∷ []) (length calls) → PublisherStandsAfter p (calls ++ call m Polled ∷ []) s → TakesCall p calls (call m Polled) (Ok tt) old old s
  polled_none m none stands =
      let c = call m Polled in
      let time = greatest_call_moment (calls ++ c ∷ []) in
      let held = request_frame (state_after_calls (fresh_publisher p) calls) Polled m in
      let same = answer_one p (trace_of_calls (calls ++ c ∷ [])) (length calls) None held none (answered p calls c sound) in
      record {
        text = [];
        has_text = ap (λ (o : Option (SentFrame A)). Ok (answer_text time o, false)) (sym same);
        appended = sym (append-nil old);
        stands_after = stands;
      }

-- a poll that gives a frame has a text
pub polled_there : {A : Type 0} (p : Setup A) (calls : List Call) (m : ℕ) (octets : List ℕ) → IsScriptSound p → PublishesOctets p (calls ++ call m Polled ∷ []) (length calls) octets →
    (n : ℕ) → step_text (publish_text {A = A}) n (call_written p calls (call m Polled)) ≡ [] → ⊥
polled_there {A} p calls m octets sound published n none =
    let c = call m Polled in
    let same = answer_one p (trace_of_calls (calls ++ c ∷ [])) (length calls) (Some published.published) _ published.publishes (answered p calls c sound) in
    let h = ap (answer_text {A = A} (greatest_call_moment (calls ++ c ∷ []))) same ∙ none in cc

-- a poll of a publisher that runs is the item's
pub poll_is : {A : Type 0} (g : Progress A) (held s : PublisherState A) (m : ℕ) (r : Result (Unit {0}) (ReadError ScriptCause)) (old new : List ℕ) → RunsPublisher g held →
    ((p : Setup A) (calls : List Call) → IsScriptSound p → PublisherStandsAfter p calls held → TakesCall p calls (call m Polled) r old new s) → TakesItem g (item.Poll m) r (stage.Running s) old new
poll_is g held s m (Ok u) old new w takes =
    let t = takes w.p w.calls w.is_sound w.stands in
    record {
      text = t.text;
      has_text = w.writes (call m Polled) ∙ t.has_text;
      appended = t.appended;
      holds = subst (Holds (stage.Running s)) (sym (w.goes_on (call m Polled))) (w.is_sound, t.stands_after);
    }
poll_is g held s m (Err (read.Fault why)) old new w takes = w.writes (call m Polled) ∙ takes w.p w.calls w.is_sound w.stands
poll_is {A} g held s m (Err (read.Memory x)) old new w takes = λ n none.
    takes w.p w.calls w.is_sound w.stands n (ap (step_text (publish_text {A = A}) n) (sym (w.writes (call m Polled))) ∙ none)

-- an item was taken, and the engine stands after it
pub publishes : {A : Type 0} (before : List (ℕ × ScriptItem A)) (n : ℕ) (i : ScriptItem A) (s : Stage A) (old new : List ℕ) → TakesItem (progress_after before) i (Ok tt) s old new →
    Takes of_line.Line (exactly publish_text) (λ (items : List (ℕ × ScriptItem A)). Holds s (progress_after items)) before (n, i) (Ok false) old new
publishes before n i s old new t = record { text = t.text; has_text = t.has_text; appended = t.appended; stands_after = subst (Holds s) (sym (progress-push before (n, i))) t.holds }
