-- What an engine writes is one text: two texts that agree on each item and on each fault agree on each list.
use Rattle.std.proofs.Common.{◌≡◌, ℕ, false, List, [], ◌∷◌, ◌++◌, length, Bool, Option, Some, None, Result, Ok, Err, inl, inr, ap, ap₂, subst, sym, ◌∙◌, refl, append_assoc, arith}
use Rattle.std.specs.List.{concat}
use Rattle.std.proofs.lemmas.List.{append-nil, length-append}
use Rattle.std.proofs.lemmas.Option.{none-some, same_Some}
use Rattle.list_core.specs.declared.event.Event.{Event}
use Rattle.frame_core.specs.declared.frame.Frame.{Frame}
use Rattle.list_core.specs.declared.line_rules.ItemFault.{ItemFault}
use Rattle.list_core.specs.declared.line_rules.ItemFault.TheVariants as fault
use Rattle.list_core.specs.declared.list_fault.ListCause.{ListCause}
use Rattle.list_core.specs.Items.{Listing, listing}
use Rattle.list_core.specs.Lines.{Stop, faulty}
use Rattle.publish_core.specs.declared.fault.PublishFault.{PublishFault}
use Rattle.publish_core.specs.Frames.{Setup, change}
use Rattle.publish_core.specs.Refusal.{next_state}
use Rattle.publish_core.specs.Run.{Request, Call, Changed, Polled, call, greatest_call_moment, trace_of_calls}
use Rattle.publish_core.specs.Table.{AreSteps}
use Rattle.publish_core.proofs.Judged.{changes_are_judged}
use Rattle.publish_core.proofs.Runs.{answer_one}
use Rattle.block_core.specs.declared.block.Block.{Block}
use Rattle.subscribe_core.specs.declared.entry.Entry.{Entry}
use Rattle.subscribe_core.specs.declared.watch.Seen.{Seen}
use Rattle.subscribe_core.specs.Apart.{AreApart}
use Rattle.subscribe_core.proofs.Counts.{answers_are_one}
use Rattle.subscribe_core.proofs.Runs.{entries_are_one}
use Rattle.script_core.specs.declared.script.ScriptCause.{ScriptCause}
use Rattle.script_core.specs.declared.script.ScriptItem.{ScriptItem}
use Rattle.script_core.specs.declared.script.ScriptItem.TheVariants as item
use Rattle.script_core.specs.declared.script.ScriptLines.TheVariants.{First}
use Rattle.script_core.specs.Script.{script_rules}
use Rattle.exchange_engines.specs.EntryText.{entry_lines}
use Rattle.engine_core.specs.EngineText.{Text}
use Rattle.engine_core.specs.computed.WholeText.{Account, put_step, told_after, told_stop}
use Rattle.exchange_engines.specs.PublishText.{IsCallText, IsPublishText, IsRefused, IsAnswered, answer_text, items_of_lines, script_cause}
use Rattle.exchange_engines.specs.ScriptLaws.{StandsBefore}
use Rattle.exchange_engines.specs.ReplayText.{IsReplayText, events_of}
use Rattle.exchange_engines.specs.WatchText.{IsWatchText, counts, counts_of, in_lines as watch_lines, samples_of, watched}
use Rattle.inventory_engine.specs.Sightings.{sightings_in, sightings_of}
use Rattle.inventory_engine.specs.BlocksText.{IsBlocksText, in_lines as blocks_lines}
use Rattle.inventory_engine.proofs.FirstLines.{lines_one}
use Rattle.joint_laws.specs.OneText.{SaySame}
use Rattle.joint_laws.specs.OneTextLaws.{BlocksTextsAreOne, PublishTextsAreOne, ReplayTextsAreOne, WatchTextsAreOne}
use Rattle.joint_laws.proofs.text_lemmas.ScriptSizes.{scripts_in_order}

module _ {X C : Type 0} (t u : Text X C) (lasts : (f : ItemFault C) → t.last f ≡ u.last f) where
  stop_same : (stop : Stop (ItemFault C)) → told_stop t stop ≡ told_stop u stop
  stop_same (faulty f) = ap (λ (text : List ℕ). record { text = text; found = false; stop = faulty f }) (lasts f)
  stop_same _ = refl

  put_same : (n : ℕ) (r : Result (List ℕ × Bool) C) (a b : Account C) → a ≡ b → put_step t n r a ≡ put_step u n r b
  put_same n (Ok s) a b same = ap (put_step t n (Ok s)) same
  put_same n (Err why) a b same = stop_same (faulty (fault.Line n why))

  -- the texts agree on each item where it stands
  abbrev Agree : List (ℕ × X) → List (ℕ × X) → Type 0
  Agree before es = (xs more : List (ℕ × X)) (e : ℕ × X) → es ≡ xs ++ e ∷ more → t.of_item (before ++ xs) e ≡ u.of_item (before ++ xs) e

  agree_here : (before es : List (ℕ × X)) (e : ℕ × X) → Agree before (e ∷ es) → t.of_item before e ≡ u.of_item before e
  agree_here before es e agree = subst (λ (b : List (ℕ × X)). t.of_item b e ≡ u.of_item b e) (append-nil before) (agree [] es e refl)

  agree_behind : (before es : List (ℕ × X)) (e : ℕ × X) → Agree before (e ∷ es) → Agree (before ++ e ∷ []) es
  agree_behind before es e agree xs more i is =
      subst (λ (b : List (ℕ × X)). t.of_item b i ≡ u.of_item b i) (sym (append_assoc before (e ∷ []) xs)) (agree (e ∷ xs) more i (ap (λ (l : List (ℕ × X)). e ∷ l) is))

  told_same : (before es : List (ℕ × X)) → Agree before es → (stop : Stop (ItemFault C)) → told_after t before es stop ≡ told_after u before es stop
  unfolding told_after
  told_same before [] agree stop = stop_same stop
  told_same before (e ∷ es) agree stop =
      ap (λ (r : Result (List ℕ × Bool) C). put_step t e.0 r (told_after t (before ++ e ∷ []) es stop)) (agree_here before es e agree) ∙
      put_same e.0 (u.of_item before e) (told_after t (before ++ e ∷ []) es stop) (told_after u (before ++ e ∷ []) es stop) (told_same (before ++ e ∷ []) es (agree_behind before es e agree) stop)

  say_same : t.first ≡ u.first → (l : Listing X C) → Agree [] l.items → SaySame t u l
  say_same firsts l agree = record { same_text = ap₂ (λ (a : List ℕ) (o : Account C). a ++ o.text) firsts same; same_account = same }
    where
      same : told_after t [] l.items l.stop ≡ told_after u [] l.items l.stop
      same = told_same [] l.items agree l.stop

-- ---- replay

-- the entries of an event are one, so its lines are
entries_same : {A : Type 0} (blocks : List (Block A)) (t u : Text (Event A) ListCause) → AreApart blocks → IsReplayText blocks t → IsReplayText blocks u → (before : List (ℕ × Event A)) (e : ℕ × Event A) → t.of_item before e ≡ u.of_item before e
entries_same {A} blocks t u apart is other before e =
    let a = is.each_item before e in
    let b = other.each_item before e in
    a.lines ∙ (ap (λ (es : List (Entry A)). Ok (entry_lines e.0 es, false)) (entries_are_one blocks (events_of before ++ e.1 ∷ []) (length (events_of before)) a.entries b.entries apart a.are_entries b.are_entries) ∙ sym b.lines)

pub replay_texts_are_one : {A : Type 0} → ReplayTextsAreOne A
replay_texts_are_one {A} blocks t u l apart is other =
    say_same t u (λ f. is.last f ∙ sym (other.last f)) (is.first ∙ sym other.first) l (λ xs more e at. entries_same blocks t u apart is other xs e)

-- ---- watch

-- lists that end alike, behind fronts of any kind
pub end_same : {X : Type 0} (a b c d : List X) → length b ≡ length d → a ++ b ≡ c ++ d → b ≡ d
end_same [] b [] d sizes is = is
end_same [] b (y ∷ c) d sizes is = let whole = ap length is in absurd (omega (arith, sizes, whole, length-append c d))
end_same (x ∷ a) b [] d sizes is = let whole = ap length is in absurd (omega (arith, sizes, whole, length-append a b))
end_same (x ∷ a) b (y ∷ c) d sizes is = end_same a b c d sizes (cc)

-- the answers to the counts of a stream are one, so those of an event are
seen_same : {A : Type 0} (period : ℕ) (id : List ℕ) (t u : Text (Event A) ListCause) → IsWatchText period id t → IsWatchText period id u → (before : List (ℕ × Event A)) (e : ℕ × Event A) → t.of_item before e ≡ u.of_item before e
seen_same {A} period id t u is other before e =
    let a = is.each_item before e in
    let b = other.each_item before e in
    let all : a.earlier ++ a.answers ≡ b.earlier ++ b.answers =
    (answers_are_one period (counts_of id before ++ counts (samples_of id e.1.kind))).1 (a.earlier ++ a.answers) (b.earlier ++ b.answers) a.are_seen b.are_seen in
    let same : a.answers ≡ b.answers = end_same a.earlier a.answers b.earlier b.answers (a.one_each ∙ sym b.one_each) all in
    a.lines ∙ (ap (λ (answers : List Seen). Ok (watched (watch_lines e.0) id e.1.kind answers)) same ∙ sym b.lines)

pub watch_texts_are_one : {A : Type 0} → WatchTextsAreOne A
watch_texts_are_one period id t u l is other =
    say_same t u (λ f. is.last f ∙ sym (other.last f)) (is.first ∙ sym other.first) l (λ xs more e at. seen_same period id t u is other xs e)

-- ---- blocks

-- the lines of what an event shows are one
seen_alike : {A : Type 0} (t u : Text (Event A) ListCause) → IsBlocksText t → IsBlocksText u → (before : List (ℕ × Event A)) (e : ℕ × Event A) → t.of_item before e ≡ u.of_item before e
seen_alike t u is other before e =
    let a = is.each_item before e in
    let b = other.each_item before e in
    a.text ∙ (ap (λ (lines : List (List ℕ)). Ok (concat lines, false)) (lines_one (blocks_lines e.0) (sightings_in before) (sightings_of e.1.kind) a.lines b.lines a.are_lines b.are_lines) ∙ sym b.text)

pub blocks_texts_are_one : {A : Type 0} → BlocksTextsAreOne A
blocks_texts_are_one t u l is other =
    say_same t u (λ f. is.last f ∙ sym (other.last f)) (is.first ∙ sym other.first) l (λ xs more e at. seen_alike t u is other xs e)

-- ---- publish

module _ {A : Type 0} (p : Setup A) (calls : List Call) (steps : AreSteps p.table) where
  -- a call is not both taken and refused
  pub not_both : (request : Request) (why : PublishFault) → IsAnswered p calls request → IsRefused p calls request why → ⊥
  not_both (Changed c) why taken refused =
      let judged = changes_are_judged p.control p.table (next_state p calls) c steps in
      none-some why (judged.2 None taken ∙ sym (judged.2 (Some why) refused))
  not_both Polled why taken refused = refused

  -- and refused for one reason
  reason_one : (request : Request) (a b : PublishFault) → IsRefused p calls request a → IsRefused p calls request b → a ≡ b
  reason_one (Changed c) a b first second =
      let judged = changes_are_judged p.control p.table (next_state p calls) c steps in
      same_Some a b (judged.2 (Some a) first ∙ sym (judged.2 (Some b) second))
  reason_one Polled a b first second = absurd first

  -- so what is said of it is one
  call_same : (c : Call) (said other : Result (List ℕ × Bool) ScriptCause) → IsCallText p calls c said → IsCallText p calls c other → said ≡ other
  call_same c said other (inl a) (inl b) =
      a.line ∙ (ap (λ (answer : Option (Frame A)). Ok (answer_text (greatest_call_moment (calls ++ c ∷ [])) answer, false)) (answer_one p (trace_of_calls (calls ++ c ∷ [])) (length calls) a.answer b.answer a.is_answer b.is_answer) ∙ sym b.line)
  call_same c said other (inl a) (inr b) = absurd (not_both c.request b.why a.answered b.refused)
  call_same c said other (inr a) (inl b) = absurd (not_both c.request a.why b.answered a.refused)
  call_same c said other (inr a) (inr b) = a.ends ∙ (ap (λ (why : PublishFault). Err (script_cause why)) (reason_one c.request a.why b.why a.refused b.refused) ∙ sym b.ends)

module _ {A : Type 0} (t u : Text (ScriptItem A) ScriptCause) (is : IsPublishText t) (other : IsPublishText u) where
  -- where an item stands as in a script, the texts agree on it
  item_same : (before : List (ℕ × ScriptItem A)) (n : ℕ) (i : ScriptItem A) → StandsBefore (items_of_lines before) i → t.of_item before (n, i) ≡ u.of_item before (n, i)
  item_same [] n (item.Control control first) none = is.control_line n first control ∙ sym (other.control_line n first control)
  item_same (x ∷ before) n (item.Control control first) none = absurd (cc)
  item_same before n (item.Step s) stands =
      is.table_step stands.setup before stands.is_script stands.has_room n s ∙ sym (other.table_step stands.setup before stands.is_script stands.has_room n s)
  item_same before n (item.Change moment time values) stands =
      let c = call moment (Changed (change time values)) in
      call_same stands.setup stands.calls stands.is_sound.steps c _ _ (is.call stands.setup stands.calls before stands.is_script stands.is_sound n c) (other.call stands.setup stands.calls before stands.is_script stands.is_sound n c)
  item_same before n (item.Poll moment) stands =
      let c = call moment Polled in
      call_same stands.setup stands.calls stands.is_sound.steps c _ _ (is.call stands.setup stands.calls before stands.is_script stands.is_sound n c) (other.call stands.setup stands.calls before stands.is_script stands.is_sound n c)

pub publish_texts_are_one : {A : Type 0} → PublishTextsAreOne A
publish_texts_are_one t u z text is other =
    say_same t u (λ f. is.last f ∙ sym (other.last f)) (is.first ∙ sym other.first) (listing script_rules First z 0 text)
    (λ xs more e at. item_same t u is other xs e.0 e.1 (scripts_in_order z text xs more e at))
