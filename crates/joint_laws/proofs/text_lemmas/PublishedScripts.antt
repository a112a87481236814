-- What `publish` writes of a script is the list of the frames that its calls give, and how it stops.
use Rattle.std.proofs.Common.{◌≡◌, ℕ, suc, ◌+◌, ◌<◌, ◌≤◌, max, false, Option, Some, None, List, [], ◌∷◌, ◌++◌, length, map, slice_get, option_map, Ok, inl, inr, ap, ap₂, subst, sym, ◌∙◌, refl, arith, append_assoc, ◌^◌, zero}
use Rattle.std.proofs.Math.Seq.{take-append_seam}
use Rattle.std.proofs.lemmas.List.{append-nil, length-append, length-map, length_push}
use Rattle.std.specs.List.{flat_map}
use Rattle.frame_core.specs.declared.frame.Frame.{Frame}
use Rattle.list_core.specs.EventText.{event_text}
use Rattle.list_core.specs.declared.device.InputEnd.{InputEnd}
use Rattle.list_core.specs.declared.line_rules.ItemFault.{ItemFault}
use Rattle.list_core.specs.declared.line_rules.ItemFault.TheVariants as fault
use Rattle.list_core.specs.Items.{Listing, items_in, items_said, listing, put_item, stops}
use Rattle.list_core.specs.Lines.{Stop, faulty, finished}
use Rattle.list_core.proofs.Emptiness.{back_nil, front_nil}
use Rattle.publish_core.specs.declared.table.Step.{Step}
use Rattle.publish_core.specs.Frames.{Change, Setup, setup, frame}
use Rattle.publish_core.specs.Refusal.{Accepts}
use Rattle.publish_core.specs.Run.{Request, AreAnswers, Call, Changed, IsAnswer, Polled, greatest_call_moment, trace_of_calls}
use Rattle.publish_core.proofs.Runs.{answer_one, answers_stay}
use Rattle.publish_core.proofs.Whole.{greatest-push}
use Rattle.subscribe_core.proofs.Traces.{get_middle}
use Rattle.joint_laws.specs.PublishedList.{Sent, published_events, sent_from, with_frame, one_entry_each, IsWholeRun}
use Rattle.joint_laws.specs.Stems.{AreAccepted, HasSizes}
use Rattle.script_core.specs.declared.script.ScriptCause.{ScriptCause}
use Rattle.script_core.specs.declared.script.ScriptItem.{ScriptItem}
use Rattle.script_core.specs.declared.script.ScriptItem.TheVariants as item
use Rattle.engine_core.specs.EngineText.{Text, last_text}
use Rattle.engine_core.specs.computed.WholeText.{Account, put_step, told, told_after, told_stop, whole_text}
use Rattle.joint_laws.specs.PublishedReplay.{SaysRun, StopsBehind, TellsStop, script_of_text, CanBeFollowed}
use Rattle.joint_laws.specs.PublishedLaws.{GivesList, ScriptsGiveLists, PublishedTextsReplay}
use Rattle.exchange_engines.specs.PublishText.{IsCallText, IsPublishText, IsScriptSound, IsAnswered, answer_text, item_of_call, items_of_lines, script_cause, script_of}
use Rattle.exchange_engines.proofs.PublishLemmas.{items-push}
use Rattle.joint_laws.specs.ListText.{list_text, CanBeListed, MomentsAreShort, ReplayGives, SendsOctets, lines_from, list_of_text}
use Rattle.std.specs.Prelude.{◌⊎◌}
use Rattle.joint_laws.proofs.text_lemmas.OneText.{not_both}
use Rattle.joint_laws.proofs.text_lemmas.ScriptSizes.{IsSetUp, call-push, script_set_up, step-push, SaysOctets, script_moments, script_octets, script_room, script_sizes}
use Rattle.std.proofs.lemmas.Bool.{cases_lt}
use Rattle.list_core.specs.declared.device.InputEnd.TheVariants.{End}
use Rattle.list_core.specs.declared.event.Event.{Event}
use Rattle.list_core.specs.declared.event_lines.EventLines.TheVariants.{After}
use Rattle.list_core.specs.declared.event_lines.MomentUnit.TheVariants.{Microseconds}
use Rattle.list_core.specs.declared.list_fault.ListCause.{ListCause}
use Rattle.list_core.specs.EventLine.{event_rules}
use Rattle.frame_core.specs.Written.{written_frame}
use Rattle.list_core.proofs.Lines.{reading-end}
use Rattle.list_core.proofs.WrittenLines.{version-first, written-first}
use Rattle.publish_core.specs.Numbers.{state_number}
use Rattle.publish_core.proofs.GivesOne.{carried}
use Rattle.block_core.specs.declared.block.Block.{Block}
use Rattle.subscribe_core.specs.declared.entry.Entry.{Entry}
use Rattle.subscribe_core.specs.Entries.{AreEntriesAt}
use Rattle.subscribe_core.specs.Apart.{AreApart}
use Rattle.subscribe_core.proofs.Runs.{entries_are_one, entries_stay}
use Rattle.joint_laws.proofs.exchange_lemmas.OneFrame.{one_apart, whole_runs_replay}
use Rattle.joint_laws.proofs.exchange_lemmas.Changes.{change_accepted}
use Rattle.exchange_engines.specs.EntryText.{entry_lines}
use Rattle.joint_laws.specs.ListLaws.{CanBeSent, CanBeWritten, PublishedListsReplay, WrittenListsReplay}
use Rattle.exchange_engines.specs.ReplayText.{IsReplayText, events_of}
use Rattle.exchange_engines.proofs.ReplayLemmas.{events_push}
use Rattle.std.proofs.lemmas.List.Elements.{All-from_get_or}
use Rattle.ber_core.specs.Length.{AreOctets}
use Rattle.exchange_engines.specs.ScriptFaultLine.{script_fault_line}
use Rattle.joint_laws.proofs.text_lemmas.CommentLines.{comment_listed, script_comment}
use Rattle.joint_laws.proofs.text_lemmas.WrittenOctets.{frame_octets}

-- the frames of the calls that are left, as they are written
abbrev sent_text : {A : Type 0} → Type 0 → List (Sent A) → List ℕ
sent_text B sent = flat_map event_text (published_events {B = B} sent)

abbrev sent_told : {A : Type 0} → Type 0 → Text (ScriptItem A) ScriptCause → List (Sent A) → Stop (ItemFault ScriptCause) → Account ScriptCause
sent_told B t sent stop = record { text = sent_text B sent ++ last_text t stop; found = false; stop = stop }

frame_text : {A : Type 0} (B : Type 0) (moment : ℕ) (request : Request) (a : Option (Frame A)) (rest : List (Sent A)) → answer_text moment a ++ sent_text B rest ≡ sent_text B (with_frame moment request a rest)
frame_text B moment request None rest = refl
frame_text B moment request (Some f) rest = refl

request_taken : {A : Type 0} (p : Setup A) (calls : List Call) (request : Request) → ((change : Change) → request ≡ Changed change → Accepts p calls change) → IsAnswered p calls request
request_taken p calls (Changed change) accepted = accepted change refl
request_taken p calls Polled accepted = tt

-- of these items the control line and the steps wrote nothing, and these calls are left
abbrev CallsLeft : {A : Type 0} → Setup A → Text (ScriptItem A) ScriptCause → List Call → Listing (ScriptItem A) ScriptCause → Account ScriptCause → Type 0
CallsLeft {A} p t calls script told_is =
    (before : List (ℕ × ScriptItem A)) × (es : List (ℕ × ScriptItem A)) × (before ++ es ≡ script.items) × (items_of_lines before ≡ script_of p []) × (items_of_lines es ≡ map item_of_call calls) ×
    (told_is ≡ told_after t before es script.stop)

module _ {A : Type 0} (B : Type 0) (p : Setup A) (t : Text (ScriptItem A) ScriptCause) (is : IsPublishText t) where
  -- items behind others are told as these frames and a stop, which the run behind these calls has
  abbrev Stops : List Call → List Call → List (ℕ × ScriptItem A) → List (ℕ × ScriptItem A) → Listing (ScriptItem A) ScriptCause → List (Sent A) → Type 0
  Stops done left before es script sent = (stop : Stop (ItemFault ScriptCause)) × (told_after t before es script.stop ≡ sent_told B t sent stop) × TellsStop p done left script stop

  -- a frame before those
  told_first : (now : ℕ) (request : Request) (a : Option (Frame A)) (rest : List (Sent A)) (stop : Stop (ItemFault ScriptCause)) → put_step t 0 (Ok (answer_text now a, false)) (sent_told B t rest stop) ≡ sent_told B t (with_frame now request a rest) stop
  told_first now request a rest stop =
      ap (λ (l : List ℕ). record { text = l; found = false; stop = stop })
      (sym (append_assoc (answer_text now a) (sent_text B rest) (last_text t stop)) ∙ ap (λ (l : List ℕ). l ++ last_text t stop) (frame_text B now request a rest))

  script_push : (done : List Call) (c : Call) (before : List (ℕ × ScriptItem A)) (n : ℕ) → items_of_lines before ≡ script_of p done → items_of_lines (before ++ (n, item_of_call c) ∷ []) ≡ script_of p (done ++ c ∷ [])
  script_push done c before n stands =
      items-push before (n, item_of_call c) ∙ (ap (λ (l : List (ScriptItem A)). l ++ item_of_call c ∷ []) stands ∙ call-push p done c)

  -- the steps that are left write nothing, and the calls stand behind them
  steps_left : (todo done : List Step) (calls : List Call) (before es : List (ℕ × ScriptItem A)) (script : Listing (ScriptItem A) ScriptCause) → length p.table ≤ 16 → done ++ todo ≡ p.table → before ++ es ≡ script.items → items_of_lines before ≡ script_of (setup p.control done p.first) [] → items_of_lines es ≡ map item.Step todo ++ map item_of_call calls → CallsLeft p t calls script (told_after t before es script.stop)
  unfolding told_after
  steps_left [] done calls before es script few table parts stands left = (before, es, parts, stands ∙ ap (λ (steps : List Step). script_of (setup p.control steps p.first) []) (sym (append-nil done) ∙ table), left, refl)
  steps_left (s ∷ todo) done calls before [] script few table parts stands left = absurd cc
  steps_left (s ∷ todo) done calls before (e ∷ es) script few table parts stands left =
      let here : e.1 ≡ item.Step s = cc in
      let others : items_of_lines es ≡ map item.Step todo ++ map item_of_call calls = cc in
      let room : length done < 16 = let all : length (done ++ s ∷ todo) ≡ length p.table = ap length table in omega (arith, all, few, length-append done (s ∷ todo)) in
      let step : t.of_item before e ≡ Ok ([], false) = ap (λ (x : ScriptItem A). t.of_item before (e.0, x)) here ∙ is.table_step (setup p.control done p.first) before stands room e.0 s in
      let next : items_of_lines (before ++ e ∷ []) ≡ script_of (setup p.control (done ++ s ∷ []) p.first) [] =
      items-push before e ∙ (ap₂ (λ (l : List (ScriptItem A)) (x : ScriptItem A). l ++ x ∷ []) stands here ∙ step-push (setup p.control done p.first) s) in
      let w = steps_left todo (done ++ s ∷ []) calls (before ++ e ∷ []) es script few (append_assoc done (s ∷ []) todo ∙ table) (append_assoc before (e ∷ []) es ∙ parts) next others in
      (w.0, w.1, w.2, w.3, w.4, ap (λ x. put_step t e.0 x (told_after t (before ++ e ∷ []) es script.stop)) step ∙ w.5)

  -- so do the control line and all steps
  script_left : (calls : List Call) (es : List (ℕ × ScriptItem A)) (script : Listing (ScriptItem A) ScriptCause) → length p.table ≤ 16 → es ≡ script.items → items_of_lines es ≡ script_of p calls → CallsLeft p t calls script (told_after t [] es script.stop)
  unfolding told_after
  script_left calls [] script few parts left = absurd cc
  script_left calls (e ∷ es) script few parts left =
      let here : e.1 ≡ item.Control p.control p.first = cc in
      let others : items_of_lines es ≡ map item.Step p.table ++ map item_of_call calls = cc in
      let step : t.of_item [] e ≡ Ok ([], false) = ap (λ (x : ScriptItem A). t.of_item [] (e.0, x)) here ∙ is.control_line e.0 p.first p.control in
      let w = steps_left p.table [] calls (e ∷ []) es script few refl parts (ap (λ (x : ScriptItem A). x ∷ []) here) others in
      (w.0, w.1, w.2, w.3, w.4, ap (λ x. put_step t e.0 x (told_after t (e ∷ []) es script.stop)) step ∙ w.5)

  -- the first call that is left is refused, or none is
  stops_told : (done left : List Call) (before es : List (ℕ × ScriptItem A)) (script : Listing (ScriptItem A) ScriptCause) → IsScriptSound p → before ++ es ≡ script.items → items_of_lines before ≡ script_of p done → items_of_lines es ≡ map item_of_call left → StopsBehind p done left → Stops done left before es script []
  unfolding told_after
  stops_told done [] before [] script sound parts stands left stops = (script.stop, refl, refl)
  stops_told done (c ∷ more) before (e ∷ es) script sound parts stands left stops = by_call (is.call p done before stands sound e.0 c)
    where
      here : e.1 ≡ item_of_call c
      here = cc

      place : length before ≡ length (script_of p done)
      place = sym (length-map before (λ (x : ℕ × ScriptItem A). x.1)) ∙ ap length stands

      line : slice_get script.items (length (script_of p done)) ≡ Some (e.0, item_of_call c)
      line = ap₂ slice_get (sym parts) (sym place) ∙ (get_middle before e es ∙ ap (λ (x : ScriptItem A). Some (e.0, x)) here)

      by_call : IsCallText p done c (t.of_item before (e.0, item_of_call c)) →
          (stop : Stop (ItemFault ScriptCause)) × (put_step t e.0 (t.of_item before e) (told_after t (before ++ e ∷ []) es script.stop) ≡ sent_told B t [] stop) × TellsStop p done (c ∷ more) script stop
      by_call (inl w) = absurd (not_both p done sound.steps c.request stops.0 w.answered stops.1)
      by_call (inr w) = (
        faulty (fault.Line e.0 (script_cause w.why)),
        ap (λ s. put_step t e.0 s (told_after t (before ++ e ∷ []) es script.stop)) (ap (λ (x : ScriptItem A). t.of_item before (e.0, x)) here ∙ w.ends),
        record { line = e.0; why = w.why; there = line; refused = w.refused; stops = refl },
      )
  stops_told done _ before _ script sound parts stands left stops = absurd cc

  -- a call behind others writes what it gives
  call_is : (done more : List Call) (c : Call) (a : Option (Frame A)) (before : List (ℕ × ScriptItem A)) (n : ℕ) → IsScriptSound p → items_of_lines before ≡ script_of p done → AreAccepted p (done ++ c ∷ more) → IsAnswer p (trace_of_calls (done ++ c ∷ more)) (length done) a → t.of_item before (n, item_of_call c) ≡ Ok (answer_text (max (greatest_call_moment done) c.moment) a, false)
  call_is done more c a before n sound stands accepted gives = go (is.call p done before stands sound n c)
    where
      go : IsCallText p done c (t.of_item before (n, item_of_call c)) → t.of_item before (n, item_of_call c) ≡ Ok (answer_text (max (greatest_call_moment done) c.moment) a, false)
      go (inl w) =
          let size : length (done ++ c ∷ []) ≡ length done + 1 = length_push done c in
          let stay = answers_stay p (done ++ c ∷ []) more (length done) w.answer (omega arith) w.is_answer in
          let same : w.answer ≡ a =
          answer_one p (trace_of_calls (done ++ c ∷ more)) (length done) w.answer a
          (subst (λ (l : List Call). IsAnswer p (trace_of_calls l) (length done) w.answer) (append_assoc done (c ∷ []) more) stay) gives in
          w.line ∙ ap₂ (λ (m : ℕ) (o : Option (Frame A)). Ok (answer_text m o, false)) (greatest-push done c) same
      go (inr w) =
          let taken = request_taken p done c.request (λ change e.
          subst (λ (l : List Call). Accepts p l change) (take-append_seam done (c ∷ more))
          (accepted (length done) change (ap (option_map (λ (x : Call). x.request)) (get_middle done c more) ∙ ap (λ (x : Request). Some x) e))) in
          absurd (not_both p done sound.steps c.request w.why taken w.refused)

  -- the calls that are left, up to where they stop
  calls_told : (cs done left : List Call) (answers : List (Option (Frame A))) (before es : List (ℕ × ScriptItem A)) (script : Listing (ScriptItem A) ScriptCause) → IsScriptSound p → before ++ es ≡ script.items → items_of_lines before ≡ script_of p done → items_of_lines es ≡ map item_of_call (cs ++ left) → length answers ≡ length cs → AreAccepted p (done ++ cs) → ((i : ℕ) (a : Option (Frame A)) → slice_get answers i ≡ Some a → IsAnswer p (trace_of_calls (done ++ cs)) (length done + i) a) → StopsBehind p (done ++ cs) left → Stops (done ++ cs) left before es script (sent_from (greatest_call_moment done) cs answers)
  unfolding told_after
  calls_told [] done left answers before es script sound parts stands rest size accepted gives stops =
      let w = stops_told done left before es script sound parts stands rest (subst (λ (l : List Call). StopsBehind p l left) (append-nil done) stops) in
      (w.0, w.1, subst (λ (l : List Call). TellsStop p l left script w.0) (sym (append-nil done)) w.2)
  calls_told (c ∷ cs) done left answers before [] script sound parts stands rest size accepted gives stops = absurd cc
  calls_told (c ∷ cs) done left [] before (e ∷ es) script sound parts stands rest size accepted gives stops = absurd (omega arith)
  calls_told (c ∷ cs) done left (a ∷ answers) before (e ∷ es) script sound parts stands rest size accepted gives stops =
      let others : items_of_lines es ≡ map item_of_call (cs ++ left) = cc in
      let next : items_of_lines (before ++ e ∷ []) ≡ script_of p (done ++ c ∷ []) = ap (λ (x : ScriptItem A). items_of_lines (before ++ (e.0, x) ∷ [])) here ∙ script_push done c before e.0 stands in
      goes_on
      (calls_told cs (done ++ c ∷ []) left answers (before ++ e ∷ []) es script sound (append_assoc before (e ∷ []) es ∙ parts) next others (omega arith) (subst (AreAccepted p) same accepted)
      (λ i y at. subst (λ (j : ℕ). IsAnswer p (trace_of_calls ((done ++ c ∷ []) ++ cs)) j y) (place i)
      (subst (λ (l : List Call). IsAnswer p (trace_of_calls l) (length done + suc i) y) same (gives (suc i) y at)))
      (subst (λ (l : List Call). StopsBehind p l left) same stops))
    where
      now : ℕ
      now = max (greatest_call_moment done) c.moment

      here : e.1 ≡ item_of_call c
      here = cc

      first : IsAnswer p (trace_of_calls (done ++ c ∷ cs)) (length done) a
      first = let none : length done + 0 ≡ length done = omega arith in subst (λ (i : ℕ). IsAnswer p (trace_of_calls (done ++ c ∷ cs)) i a) none (gives 0 a refl)

      step : t.of_item before e ≡ Ok (answer_text now a, false)
      step = ap (λ (x : ScriptItem A). t.of_item before (e.0, x)) here ∙ call_is done cs c a before e.0 sound stands accepted first

      same : done ++ c ∷ cs ≡ (done ++ c ∷ []) ++ cs
      same = sym (append_assoc done (c ∷ []) cs)

      place : (i : ℕ) → length done + suc i ≡ length (done ++ c ∷ []) + i
      place i = omega (arith, length_push done c)

      goes_on : Stops ((done ++ c ∷ []) ++ cs) left (before ++ e ∷ []) es script (sent_from (greatest_call_moment (done ++ c ∷ [])) cs answers) → Stops (done ++ c ∷ cs) left before (e ∷ es) script (sent_from (greatest_call_moment done) (c ∷ cs) (a ∷ answers))
      goes_on w = (
        w.0,
        ap (λ s. put_step t e.0 s (told_after t (before ++ e ∷ []) es script.stop)) step ∙
            (ap (put_step t e.0 (Ok (answer_text now a, false))) (w.1 ∙ ap (λ (m : ℕ). sent_told B t (sent_from m cs answers) w.0) (greatest-push done c)) ∙ told_first now c.request a (sent_from now cs answers) w.0),
        subst (λ (l : List Call). TellsStop p l left script w.0) (sym same) w.2,
      )

-- where no call is left, what the script stops by is told
none_told : {A : Type 0} (t : Text (ScriptItem A) ScriptCause) (before es : List (ℕ × ScriptItem A)) (stop : Stop (ItemFault ScriptCause)) → items_of_lines es ≡ [] → told_after t before es stop ≡ told_stop t stop
unfolding told_after
none_told t before [] stop none = refl
none_told t before (e ∷ es) stop none = absurd cc

gives_list : {A : Type 0} (B : Type 0) (p : Setup A) (calls : List Call) (answers : List (Option (Frame A))) (z : InputEnd) (text : List ℕ) (t : Text (ScriptItem A) ScriptCause) →
    AreAnswers p calls answers → (says : SaysRun p calls (script_of_text z text)) → IsPublishText t → GivesList B p calls says.calls_left answers (script_of_text z text) t
gives_list {A} B p calls answers z text t are says is = record {
  writes = ap₂ (λ (a : List ℕ) (o : Account ScriptCause). a ++ o.text) is.first told_is ∙ ap (λ (stop : Stop (ItemFault ScriptCause)). list_text (published_events {B = B} (sent_from 0 calls answers)) ++ last_text t stop) (sym stop_is);
  stops = subst (TellsStop p calls says.calls_left script) (sym stop_is) ends.2;
}
  where
    script : Listing (ScriptItem A) ScriptCause
    script = script_of_text z text

    set_up : IsSetUp p (calls ++ says.calls_left)
    set_up = script_set_up p (calls ++ says.calls_left) z text says.items

    left : CallsLeft p t (calls ++ says.calls_left) script (told t script)
    left = script_left B p t is (calls ++ says.calls_left) script.items script set_up.few refl says.items

    by_setup : (calls ++ says.calls_left ≡ []) ⊎ IsScriptSound p → Stops B p t is calls says.calls_left left.0 left.1 script (sent_from 0 calls answers)
    by_setup (inl none) = (
      script.stop,
      none_told t left.0 left.1 script.stop (left.4 ∙ ap (map item_of_call) none) ∙ ap (λ (cs : List Call). sent_told B t (sent_from 0 cs answers) script.stop) (sym (front_nil calls says.calls_left none)),
      subst (λ (more : List Call). TellsStop p calls more script script.stop) (sym (back_nil calls says.calls_left none)) refl,
    )
    by_setup (inr sound) =
        calls_told B p t is calls [] says.calls_left answers left.0 left.1 script sound left.2 left.3 left.4 are.sizes says.accepted (λ i a at.
        let none : i ≡ 0 + i = omega arith in
        subst (λ (j : ℕ). IsAnswer p (trace_of_calls calls) j a) none (are.each i a at)) says.stops

    ends : Stops B p t is calls says.calls_left left.0 left.1 script (sent_from 0 calls answers)
    ends = by_setup set_up.sound

    told_is : told t script ≡ sent_told B t (sent_from 0 calls answers) ends.0
    told_is = left.5 ∙ ends.1

    stop_is : (told t script).stop ≡ ends.0
    stop_is = ap (λ (o : Account ScriptCause). o.stop) told_is

pub scripts_give_lists : {A : Type 0} (B : Type 0) → ScriptsGiveLists A B
scripts_give_lists B p calls answers z text t w = gives_list B p calls answers z text t w.are_answers w.says_run w.is_text

-- ---- a list that is written is listed as its events, and replayed by the lines of their entries

-- events with the numbers of their lines, of which the first is n
abbrev numbered : {A : Type 0} → ℕ → List (Event A) → List (ℕ × Event A)
numbered n [] = []
numbered n (e ∷ es) = (n, e) ∷ numbered (n + 1) es

abbrev whole : {A : Type 0} → ℕ → List (Event A) → Listing (Event A) ListCause
whole n events = record { items = numbered n events; stop = finished }

-- the end of a list, of which the lines behind n others say nothing
abbrev pub EndsList : Type 0 → ℕ → List ℕ → Type 0
EndsList A n end = listing (event_rules {A = A}) (After Microseconds) End n end ≡ stops finished

pub nothing_ends : (A : Type 0) (n : ℕ) → EndsList A n []
unfolding items_said
nothing_ends A n = ap (items_in (event_rules {A = A}) (After Microseconds) n) (reading-end n)

all_listed : {A : Type 0} (n : ℕ) (events : List (Event A)) (end : List ℕ) → CanBeListed events → n + length events ≤ 1000000 → EndsList A (n + length events) end → listing event_rules (After Microseconds) End n (flat_map event_text events ++ end) ≡ whole (n + 1) events
all_listed {A} n [] end w room ends = let same : n + 0 ≡ n = omega arith in subst (λ (m : ℕ). EndsList A m end) same ends
all_listed {A} n (e ∷ es) end w room ends =
    let same : n + suc (length es) ≡ n + 1 + length es = omega arith in
    ap (listing (event_rules {A = A}) (After Microseconds) End n) (append_assoc (event_text e) (flat_map event_text es) end) ∙
    written-first e w.0.0 w.0.1 End n (flat_map event_text es ++ end) (omega arith) ∙
    ap (put_item (n + 1, e)) (all_listed (n + 1) es end w.1 (omega arith) (subst (λ (m : ℕ). EndsList A m end) same ends))

list_is : {A : Type 0} (events : List (Event A)) (end : List ℕ) → CanBeListed events → length events < 1000000 → EndsList A (1 + length events) end → list_of_text (list_text events ++ end) ≡ whole 2 events
list_is {A} events end w room ends = version-first A End (flat_map event_text events ++ end) ∙ all_listed 1 events end w (omega arith) ends

-- the step of an event is the lines of the entries that the whole list has there
pub step_is : {A : Type 0} (blocks : List (Block A)) (t : Text (Event A) ListCause) → AreApart blocks → IsReplayText blocks t → (before : List (ℕ × Event A)) (n : ℕ) (e : Event A) (es : List (Event A)) (x : List (Entry A)) → AreEntriesAt blocks (events_of before ++ e ∷ es) (length (events_of before)) x → t.of_item before (n, e) ≡ Ok (entry_lines n x, false)
step_is {A} blocks t apart is before n e es x at =
    let w = is.each_item before (n, e) in
    let stay : AreEntriesAt blocks (events_of before ++ e ∷ es) (length (events_of before)) w.entries =
    subst (λ (l : List (Event A)). AreEntriesAt blocks l (length (events_of before)) w.entries) (append_assoc (events_of before) (e ∷ []) es)
    (entries_stay blocks (events_of before ++ e ∷ []) es (length (events_of before)) w.entries w.are_entries) in
    let same : w.entries ≡ x = entries_are_one blocks (events_of before ++ e ∷ es) (length (events_of before)) w.entries x apart stay at in
    w.lines ∙ ap (λ (y : List (Entry A)). Ok (entry_lines n y, false)) same

abbrev lines_told : {A : Type 0} → ℕ → List (List (Entry A)) → Account ListCause
lines_told n rest = record { text = lines_from n rest; found = false; stop = finished }

lines_are : {A : Type 0} (blocks : List (Block A)) (t : Text (Event A) ListCause) → AreApart blocks → IsReplayText blocks t → (before : List (ℕ × Event A)) (n : ℕ) (es : List (Event A)) (rest : List (List (Entry A))) → length rest ≡ length es → ((i : ℕ) (x : List (Entry A)) → slice_get rest i ≡ Some x → AreEntriesAt blocks (events_of before ++ es) (length (events_of before) + i) x) → told_after t before (numbered n es) finished ≡ lines_told n rest
unfolding told_after
lines_are blocks t apart is before n [] [] size each = refl
lines_are {A} blocks t apart is before n (e ∷ es) (x ∷ rest) size each =
    ap (λ s. put_step t n s (told_after t next (numbered (n + 1) es) finished)) (step_is blocks t apart is before n e es x here) ∙
    ap (put_step t n (Ok (entry_lines n x, false))) (lines_are blocks t apart is next (n + 1) es rest (omega arith) after)
  where
    next : List (ℕ × Event A)
    next = before ++ (n, e) ∷ []

    here : AreEntriesAt blocks (events_of before ++ e ∷ es) (length (events_of before)) x
    here = let none : length (events_of before) + 0 ≡ length (events_of before) = omega arith in subst (λ (i : ℕ). AreEntriesAt blocks (events_of before ++ e ∷ es) i x) none (each 0 x refl)

    passed : events_of next ≡ events_of before ++ e ∷ []
    passed = events_push before (n, e)

    same : events_of before ++ e ∷ es ≡ events_of next ++ es
    same = sym (ap (λ (l : List (Event A)). l ++ es) passed ∙ append_assoc (events_of before) (e ∷ []) es)

    more : (i : ℕ) → length (events_of before) + suc i ≡ length (events_of next) + i
    more i = let longer : length (events_of next) ≡ length (events_of before ++ e ∷ []) = ap length passed in omega (arith, longer, length_push (events_of before) e)

    after : (i : ℕ) (y : List (Entry A)) → slice_get rest i ≡ Some y → AreEntriesAt blocks (events_of next ++ es) (length (events_of next) + i) y
    after i y at =
        subst (λ (j : ℕ). AreEntriesAt blocks (events_of next ++ es) j y) (more i)
        (subst (λ (l : List (Event A)). AreEntriesAt blocks l (length (events_of before) + suc i) y) same (each (suc i) y at))
lines_are blocks t apart is before n _ _ size each = absurd (omega arith)

-- a list that is written and ended so is replayed by the lines of the entries
pub ended_lists_replay : {A : Type 0} (blocks : List (Block A)) (events : List (Event A)) (entries : List (List (Entry A))) (end : List ℕ) (t : Text (Event A) ListCause) →
    CanBeWritten blocks events entries → IsReplayText blocks t → EndsList A (1 + length events) end → ReplayGives t (list_text events ++ end) entries
ended_lists_replay {A} blocks events entries end t w is ends = record { writes = ap₂ (λ (a : List ℕ) (o : Account ListCause). a ++ o.text) is.first told_is; to_its_end = ap (λ (o : Account ListCause). o.stop) told_is }
  where
    at : (i : ℕ) (x : List (Entry A)) → slice_get entries i ≡ Some x → AreEntriesAt blocks events (0 + i) x
    at i x here = let none : i ≡ 0 + i = omega arith in subst (λ (j : ℕ). AreEntriesAt blocks events j x) none (w.are_entries.each i x here)

    told_is : told_after t [] (list_of_text {A = A} (list_text events ++ end)).items (list_of_text {A = A} (list_text events ++ end)).stop ≡ lines_told 2 entries
    told_is =
        ap (λ (l : Listing (Event A) ListCause). told_after t [] l.items l.stop) (list_is events end w.can_be_listed w.at_most ends) ∙
        lines_are blocks t w.are_apart is [] 2 events entries w.are_entries.sizes at

pub written_lists_replay : {A : Type 0} → WrittenListsReplay A
written_lists_replay {A} blocks events entries t w is =
    subst (λ (text : List ℕ). ReplayGives t text entries) (append-nil (list_text events)) (ended_lists_replay blocks events entries [] t w is (nothing_ends A (1 + length events)))

-- ---- the frames that are sent can stand in a list

-- a frame has octets, and no more than a line can write
abbrev HasSize : {A : Type 0} → Frame A → Type 0
HasSize f = (0 < length (written_frame f)) × (length (written_frame f) ≤ 2000)

behind_some : (d a b : List ℕ) → length d ≡ 6 → 0 < length ((d ++ a) ++ b)
behind_some [] a b e = absurd (omega arith)
behind_some (x ∷ d) a b e = omega arith

answer_size : {A : Type 0} (p : Setup A) (calls : List Call) (i : ℕ) (f : Frame A) → HasSizes p → AreAccepted p calls → IsAnswer p (trace_of_calls calls) i (Some f) → HasSize f
answer_size {A} p calls i f held accepted w =
    let at = carried w.gives in
    let fit = (change_accepted p calls at.0 w.c w.change accepted at.2).fit w.k in
    subst HasSize (sym w.is_frame) (
      behind_some p.control.destination _ _ held.to,
      elim (cases_lt 1600 (length (written_frame (frame p.control p.table (state_number p.first w.c) w.change w.k)))) [ inl long ↦ absurd (fit (inr long)) | inr short ↦ omega arith ],
    )

with_can : {A : Type 0} (B : Type 0) (m : ℕ) (request : Request) (a : Option (Frame A)) (rest : List (Sent A)) → m < 10 ^ 18 → ((f : Frame A) → a ≡ Some f → HasSize f) → SendsOctets (with_frame m request a rest) → (SendsOctets rest → CanBeListed (published_events {B = B} rest)) → CanBeListed (published_events {B = B} (with_frame m request a rest))
with_can B m request None rest short size octets can = can octets
with_can B m request (Some f) rest short size octets can = (((short, size f refl), octets.0), can octets.1)

sent_can : {A : Type 0} (B : Type 0) (m : ℕ) (calls : List Call) (answers : List (Option (Frame A))) → m < 10 ^ 18 → MomentsAreShort calls → ((i : ℕ) (f : Frame A) → slice_get answers i ≡ Some (Some f) → HasSize f) → SendsOctets (sent_from m calls answers) → CanBeListed (published_events {B = B} (sent_from m calls answers))
sent_can {A} B m (c ∷ cs) (a ∷ answers) small short size octets =
    let next : max m c.moment < 10 ^ 18 = let first : c.moment < 10 ^ 18 = short.0 in omega arith in
    with_can B (max m c.moment) c.request a (sent_from (max m c.moment) cs answers) next (λ f e. size 0 f (ap (λ (o : Option (Frame A)). Some o) e)) octets
    (sent_can B (max m c.moment) cs answers next short.1 (λ i f e. size (suc i) f e))
sent_can B _ _ _ _ _ _ _ = tt

-- there are as many events as frames
events_counted : {A : Type 0} (B : Type 0) (sent : List (Sent A)) → length (published_events {B = B} sent) ≡ length sent
events_counted B [] = refl
events_counted B (s ∷ sent) = ap suc (events_counted B sent)

-- the list of a publisher's whole run, ended so
pub ended_runs_replay : {A B : Type 0} (p : Setup A) (block : Block B) (calls : List Call) (answers : List (Option (Frame A))) (end : List ℕ) (t : Text (Event B) ListCause) →
    CanBeSent p block calls answers → IsReplayText (block ∷ []) t → EndsList B (1 + length (sent_from 0 calls answers)) end → ReplayGives t (list_text (published_events {B = B} (sent_from 0 calls answers)) ++ end) (one_entry_each (sent_from 0 calls answers))
ended_runs_replay {A} {B} p block calls answers end t w is ends =
    ended_lists_replay (block ∷ []) (published_events (sent_from 0 calls answers)) (one_entry_each (sent_from 0 calls answers)) end t (record {
      are_apart = one_apart block;
      can_be_listed = sent_can B 0 calls answers (omega arith) w.moments_are_short (λ i f at. answer_size p calls i f w.is_run.held w.is_run.accepted (w.is_run.are_answers.each i (Some f) at)) w.are_octets;
      at_most = let few : length (sent_from 0 calls answers) < 1000000 = w.at_most in omega (arith, few, events_counted B (sent_from 0 calls answers));
      are_entries = whole_runs_replay p block calls answers w.is_run (omega arith);
    }) is
    (subst (λ (n : ℕ). EndsList B (1 + n) end) (sym (events_counted B (sent_from 0 calls answers))) ends)

pub published_lists_replay : {A B : Type 0} → PublishedListsReplay A B
published_lists_replay {A} {B} p block calls answers t w is =
    let sent = sent_from 0 calls answers in
    subst (λ (text : List ℕ). ReplayGives t text (one_entry_each sent)) (append-nil (list_text (published_events {B = B} sent)))
    (ended_runs_replay p block calls answers [] t w is (nothing_ends B (1 + length sent)))

-- ---- the replay of what `publish` writes of a script's text

with_count : {A : Type 0} (m : ℕ) (request : Request) (a : Option (Frame A)) (rest : List (Sent A)) → length (with_frame m request a rest) ≤ suc (length rest)
with_count m request None rest = omega arith
with_count m request (Some f) rest = omega arith

-- a call sends one frame at most
sent_count : {A : Type 0} (m : ℕ) (calls : List Call) (answers : List (Option (Frame A))) → length (sent_from m calls answers) ≤ length calls
sent_count m (c ∷ cs) (a ∷ answers) =
    omega (arith, with_count (max m c.moment) c.request a (sent_from (max m c.moment) cs answers), sent_count (max m c.moment) cs answers)
sent_count m _ _ = omega arith

-- what is sent is octets where each frame is
octets_sent : {A : Type 0} (m : ℕ) (request : Request) (a : Option (Frame A)) (rest : List (Sent A)) → ((f : Frame A) → a ≡ Some f → AreOctets (written_frame f)) → SendsOctets rest → SendsOctets (with_frame m request a rest)
octets_sent m request None rest each more = more
octets_sent m request (Some f) rest each more = (All-from_get_or (λ (x : ℕ). x < 256) (written_frame f) 0 (λ i below. each f refl i), more)

all_octets_sent : {A : Type 0} (m : ℕ) (calls : List Call) (answers : List (Option (Frame A))) → ((i : ℕ) (f : Frame A) → slice_get answers i ≡ Some (Some f) → AreOctets (written_frame f)) → SendsOctets (sent_from m calls answers)
all_octets_sent m (c ∷ cs) (a ∷ answers) each =
    octets_sent (max m c.moment) c.request a (sent_from (max m c.moment) cs answers) (λ f e. each 0 f (ap (λ (o : Option _). Some o) e)) (all_octets_sent (max m c.moment) cs answers (λ i. each (suc i)))
all_octets_sent _ _ _ _ = tt

-- the frame that a call gives is written as octets where its change is
answer_octets : {A : Type 0} (p : Setup A) (calls : List Call) (i : ℕ) (f : Frame A) → SaysOctets p calls → AreAccepted p calls → IsAnswer p (trace_of_calls calls) i (Some f) → AreOctets (written_frame f)
answer_octets {A} p calls i f octets accepted w =
    let at = carried w.gives in
    let spelled = (change_accepted p calls at.0 w.c w.change accepted at.2).spelled in
    subst (λ (g : Frame A). AreOctets (written_frame g)) (sym w.is_frame) (frame_octets p (state_number p.first w.c) w.k w.change octets.to octets.from spelled (octets.values at.0 w.change at.2.request))

-- a list says nothing by how the text of a script ends
how_it_ends : {A B : Type 0} (t : Text (ScriptItem A) ScriptCause) (n : ℕ) (stop : Stop (ItemFault ScriptCause)) → IsPublishText t → n < 1000000 → EndsList B n (last_text t stop)
how_it_ends {A} {B} t n (faulty f) is room = subst (EndsList B n) (sym (is.last f)) (comment_listed n (script_fault_line f) (script_comment f) room ∙ nothing_ends B (n + 1))
how_it_ends {A} {B} t n _ is room = nothing_ends B n

-- a list without events says nothing
nothing_replays : {B : Type 0} (block : Block B) (end : List ℕ) (r : Text (Event B) ListCause) → IsReplayText (block ∷ []) r → EndsList B 1 end → ReplayGives r (list_text {A = B} [] ++ end) []
nothing_replays {B} block end r replay ends =
    ended_lists_replay (block ∷ []) [] [] end r (record { are_apart = one_apart block; can_be_listed = tt; at_most = omega arith; are_entries = record { sizes = refl; each = λ i es at. absurd (nothing_at i es at) } }) replay ends
  where
    nothing_at : (i : ℕ) (es : List (Entry B)) → slice_get [] i ≡ Some es → ⊥
    nothing_at zero es at = absurd cc
    nothing_at (suc i) es at = absurd cc

published_replay : {A B : Type 0} (p : Setup A) (block : Block B) (calls : List Call) (answers : List (Option (Frame A))) (z : InputEnd) (text : List ℕ) (t : Text (ScriptItem A) ScriptCause) (r : Text (Event B) ListCause) →
    CanBeFollowed p block calls answers → SaysRun p calls (script_of_text z text) → IsPublishText t → IsReplayText (block ∷ []) r → ReplayGives r (whole_text t (script_of_text z text)) (one_entry_each (sent_from 0 calls answers))
published_replay {A} {B} p block calls answers z text t r run says is replay =
    subst (λ (written : List ℕ). ReplayGives r written (one_entry_each (sent_from 0 calls answers))) (sym (scripts_give_lists B p calls answers z text t (record { says_run = says; are_answers = run.are_answers; is_text = is })).writes)
    (by_setup (script_set_up p (calls ++ says.calls_left) z text says.items).sound)
  where
    stop : Stop (ItemFault ScriptCause)
    stop = (told t (script_of_text z text)).stop

    by_setup : (calls ++ says.calls_left ≡ []) ⊎ IsScriptSound p → ReplayGives r (list_text (published_events {B = B} (sent_from 0 calls answers)) ++ last_text t stop) (one_entry_each (sent_from 0 calls answers))
    by_setup (inl none) =
        subst (λ (cs : List Call). ReplayGives r (list_text (published_events {B = B} (sent_from 0 cs answers)) ++ last_text t stop) (one_entry_each (sent_from 0 cs answers))) (sym (front_nil calls says.calls_left none))
        (nothing_replays block (last_text t stop) r replay (how_it_ends t 1 stop is (omega arith)))
    by_setup (inr sound) =
        let some : 1 ≤ length p.table = sound.steps.some in
        let room : 1 + length (sent_from 0 calls answers) < 1000000 = omega (arith, some, sent_count 0 calls answers, script_room p calls z text says) in
        let octets : SendsOctets (sent_from 0 calls answers) = all_octets_sent 0 calls answers (λ i f at. answer_octets p calls i f (script_octets p calls z text says) says.accepted (run.are_answers.each i (Some f) at)) in
        let all : IsWholeRun p block calls answers = record {
          own = run.own;
          held = script_sizes p calls z text says;
          steps = sound.steps;
          some = sound.some;
          most = sound.most;
          no_wrap = run.no_wrap;
          accepted = says.accepted;
          are_answers = run.are_answers;
          in_time = run.in_time;
        } in
        ended_runs_replay p block calls answers (last_text t stop) r (record { is_run = all; moments_are_short = script_moments p calls z text says; are_octets = octets; at_most = omega arith }) replay (how_it_ends t (1 + length (sent_from 0 calls answers)) stop is room)

pub published_texts_replay : {A B : Type 0} → PublishedTextsReplay A B
published_texts_replay p block calls answers z text t r w = published_replay p block calls answers z text t r w.can_be_followed w.says_run w.is_text w.is_replayed
