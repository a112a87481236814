-- What the definitions say of an input is one: two readings write the same texts one after another.
use Rattle.std.proofs.Common.{Option, Some, None, ◌≡◌, ℕ, zero, suc, ◌<◌, false, List, [], ◌∷◌, ◌++◌, length, map, take, ap, ap₂, refl, ◌∙◌, sym, subst, arith}
use Rattle.std.specs.Prelude.{◌||◌, is_some, slice_get}
use Rattle.std.specs.List.{list_any}
use Rattle.std.proofs.lemmas.List.{map-append}
use Rattle.std.proofs.lemmas.Option.{slice_get_within}
use Rattle.list_core.specs.declared.event.Event.{Event}
use Rattle.list_core.specs.Items.{Numbered}
use Rattle.list_core.specs.Lines.{Stop, finished, unfinished, faulty}
use Rattle.object_core.specs.declared.counted.Form.{Form}
use Rattle.engine_core.specs.declared.style.Style.{Style}
use Rattle.engine_core.specs.EngineText.{ItemText}
use Rattle.loss_core.specs.declared.sender.Arrival.{Arrival}
use Rattle.loss_core.specs.declared.sender.Sender.{Sender}
use Rattle.loss_core.specs.declared.sender_tally.SenderTotals.{SenderTotals}
use Rattle.loss_core.specs.declared.stream.Sample.{Sample}
use Rattle.loss_core.specs.Periods.{Period}
use Rattle.loss_core.specs.Sender.{over_at}
use Rattle.loss_core.specs.Stream.{IsKnownOf}
use Rattle.loss_core.specs.StreamTotals.{AreStreamTotals}
use Rattle.loss_core.proofs.AddUp as streams
use Rattle.loss_core.proofs.Once.{sample_last_once, samples_told_once, stream_totals_once, tally_once, told_last_once}
use Rattle.loss_core.proofs.Places.{get_there}
use Rattle.loss_core.specs.declared.finding.Finding.{Finding}
use Rattle.loss_core.specs.Findings.{came_told, frame_findings, has_loss, synch_told}
use Rattle.loss_engine.specs.Findings.{TellsShown, last_of}
use Rattle.loss_engine.specs.LossLine.{sender_total_line, stream_total_line}
use Rattle.loss_engine.specs.LossObject.{sender_total_object, stream_total_object}
use Rattle.loss_engine.specs.LossText.{AreLosses, ClosesBy, ClosesKey, IsClosing, TellsEvent, back_lines, closing_in, end_silent, form_of, line_of, sight_lines, sights_at, stale, styled, with_end}
use Rattle.loss_engine.specs.Sights.{Key, Shown, Sight, frame, sample, sender, stream, frames_of, greatest_moment, keys_in, period_for, samples_of, sights_in, synchs_of}
use Rattle.loss_engine.proofs.TimesBack.{back_once}

-- two lists of a length are one where their items at each position are
pub same_items : {X : Type 0} (xs ys : List X) → length xs ≡ length ys → ((i : ℕ) (x y : X) → slice_get xs i ≡ Some x → slice_get ys i ≡ Some y → x ≡ y) → xs ≡ ys
same_items [] [] sizes h = refl
same_items [] (y ∷ ys) sizes h = absurd (omega arith)
same_items (x ∷ xs) [] sizes h = absurd (omega arith)
same_items (x ∷ xs) (y ∷ ys) sizes h = ap₂ (λ z l. z ∷ l) (h 0 x y refl refl) (same_items xs ys (omega arith) (λ i. h (suc i)))

-- an item of another list at a position, where both have a length
pub there : {X Y : Type 0} (xs : List X) (ys : List Y) → length xs ≡ length ys → (i : ℕ) (x : X) → slice_get xs i ≡ Some x → (y : Y) × (slice_get ys i ≡ Some y)
there xs ys sizes i x e = let lt : i < length xs = slice_get_within xs i x e in get_there ys i (omega arith)

-- ---- events

shown_once : (period : Option ℕ) (earlier : List Sight) (key : Key) (moment : ℕ) (shown : Shown) (fs gs : List Finding) → TellsShown period earlier key moment shown fs → TellsShown period earlier key moment shown gs → fs ≡ gs
shown_once period earlier key moment (frame p lifetime) fs gs u v =
    let a : Arrival = record { pair = p; moment = moment; lifetime = lifetime } in
    u.2 ∙ (ap (frame_findings a) (told_last_once (frames_of key earlier) a u.0 v.0 u.1 v.1) ∙ sym v.2)
shown_once None earlier key moment (sample count synch) fs gs u v = u ∙ sym v
shown_once (Some period) earlier key moment (sample count synch) fs gs u v =
    let s : Sample = record { count = count; moment = moment } in
    u.2 ∙ (ap (λ c. came_told period count c ++ synch_told (last_of (synchs_of key earlier)) synch) (sample_last_once period (samples_of key earlier) s u.0 v.0 u.1 v.1) ∙ sym v.2)

pub event_once : {A : Type 0} (periods : List Period) (style : Style) (before : List (ℕ × Event A)) (e : ℕ × Event A) (w v : ItemText) → TellsEvent periods style before e w → TellsEvent periods style before e v → w ≡ v
event_once periods style before e w v p q =
    let same : p.findings ≡ q.findings = same_items p.findings q.findings (p.sizes ∙ sym q.sizes) (λ i fs gs x y.
    let s = there p.findings (sights_at before e) p.sizes i fs x in
    shown_once (period_for periods s.0.key) (sights_in before ++ take i (sights_at before e)) s.0.key s.0.moment s.0.shown fs gs (p.each i s.0 fs s.1 x) (q.each i s.0 gs s.1 y)) in
    let back : p.back ≡ q.back = back_once before e p.back q.back p.goes_back q.goes_back in
    let text : w.text ≡ v.text = p.text ∙ (ap₂ (λ b l. styled style e.1.moment (λ form. back_lines form e.0 e.1.moment b ++ sight_lines form e.0 e.1.moment (sights_at before e) l)) back same ∙ sym q.text) in
    let found : w.is_finding ≡ v.is_finding = p.found ∙ (ap₂ (λ (b : Option ℕ) (l : List (List Finding)). is_some b || list_any has_loss l) back same ∙ sym q.found) in
    λ j. record { text = text j; is_finding = found j }

-- ---- the end of the input

key_once : (period : Option ℕ) (form : Form) (seen : List Sight) (end : ℕ) (key : Key) (silent total other_silent other_total : ItemText) → ClosesKey period form seen end key silent total → ClosesKey period form seen end key other_silent other_total →
    (silent ≡ other_silent) × (total ≡ other_total)
key_once period form seen end (sender a r s) silent total other_silent other_total p q =
    let key : Key = sender a r s in
    let same = tally_once (frames_of key seen) p.tally q.tally p.stands q.stands in (
      p.is_silent ∙ (ap (λ (x : Sender). end_silent form key end (over_at x.deadline end)) same.0 ∙ sym q.is_silent),
      p.is_total ∙
          (ap₂ (λ (x : Sender) (t : SenderTotals). line_of form false (sender_total_line key (with_end (over_at x.deadline end) t)) (sender_total_object key (with_end (over_at x.deadline end) t))) same.0 same.1 ∙ sym q.is_total),
    )
key_once None form seen end (stream a o i) silent total other_silent other_total p q = (p.is_silent ∙ sym q.is_silent, p.is_total ∙ sym q.is_total)
key_once (Some period) form seen end (stream a o i) silent total other_silent other_total p q =
    let key : Key = stream a o i in
    let ss : List Sample = samples_of key seen in
    let same : q.told ≡ p.told = samples_told_once period ss q.told p.told q.are_told p.are_told in
    let known : p.known ≡ q.known = streams.known_once ss p.told (length ss) p.known q.known p.is_known (subst (λ l. IsKnownOf ss l (length ss) q.known) same q.is_known) in
    let totals : p.totals ≡ q.totals = stream_totals_once p.told p.totals q.totals p.are_totals (subst (λ l. AreStreamTotals l q.totals) same q.are_totals) in (
      p.is_silent ∙ (ap (λ k. end_silent form key end (stale k end)) known ∙ sym q.is_silent),
      p.is_total ∙ (ap (λ t. line_of form false (stream_total_line key t) (stream_total_object key t)) totals ∙ sym q.is_total),
    )

closing_once : (periods : List Period) (form : Form) (seen : List Sight) (end : ℕ) (xs ys : List ItemText) → IsClosing periods form seen end xs → IsClosing periods form seen end ys → xs ≡ ys
closing_once periods form seen end xs ys p q =
    let silents : p.silents ≡ q.silents = same_items p.silents q.silents (p.silents_sizes ∙ sym q.silents_sizes) (λ i s z x y.
    let key = there p.silents (keys_in seen) p.silents_sizes i s x in
    let t = there (keys_in seen) p.totals (sym p.totals_sizes) i key.0 key.1 in
    let r = there (keys_in seen) q.totals (sym q.totals_sizes) i key.0 key.1 in
    (key_once (period_for periods key.0) form seen end key.0 s t.0 z r.0 (p.each i key.0 s t.0 key.1 x t.1) (q.each i key.0 z r.0 key.1 y r.1)).0) in
    let totals : p.totals ≡ q.totals = same_items p.totals q.totals (p.totals_sizes ∙ sym q.totals_sizes) (λ i s z x y.
    let key = there p.totals (keys_in seen) p.totals_sizes i s x in
    let t = there (keys_in seen) p.silents (sym p.silents_sizes) i key.0 key.1 in
    let r = there (keys_in seen) q.silents (sym q.silents_sizes) i key.0 key.1 in
    (key_once (period_for periods key.0) form seen end key.0 t.0 s r.0 z (p.each i key.0 t.0 s key.1 t.1 x) (q.each i key.0 r.0 z key.1 r.1 y)).1) in
    p.parts ∙ (ap₂ (λ a b. a ++ b) silents totals ∙ sym q.parts)

pub closes_once : {A F : Type 0} (periods : List Period) (style : Style) (stop : Stop F) (items : List (ℕ × Event A)) (xs ys : List ItemText) → ClosesBy periods style stop items xs → ClosesBy periods style stop items ys → xs ≡ ys
closes_once periods style finished items xs ys p q =
    p.2 ∙ (ap (map (closing_in style)) (closing_once periods (form_of style) (sights_in items) (greatest_moment items) p.0 q.0 p.1 q.1) ∙ sym q.2)
closes_once periods style unfinished items xs ys p q = p ∙ sym q
closes_once periods style (faulty f) items xs ys p q = p ∙ sym q

-- ---- the input

-- the same texts one after another, and the same stop; the pieces of events with the same numbers
pub record AreOne {A F : Type 0} (said : Numbered (Event A) F) (p q : Numbered ItemText F) : Type 0 where
  pub texts : map (λ (w : ℕ × ItemText). w.1) p.items ≡ map (λ (w : ℕ × ItemText). w.1) q.items
  pub of_events : take (length said.items) p.items ≡ take (length said.items) q.items
  pub stops : p.stop ≡ q.stop

front : {X : Type 0} (n : ℕ) (xs ys : List X) → length xs ≡ n → take n (xs ++ ys) ≡ xs
front zero [] ys h = refl
front zero (x ∷ xs) ys h = absurd (omega arith)
front (suc n) [] ys h = absurd (omega arith)
front (suc n) (x ∷ xs) ys h = ap (λ l. x ∷ l) (front n xs ys (omega arith))

pub losses_once : {A F : Type 0} (periods : List Period) (style : Style) (said : Numbered (Event A) F) (p q : Numbered ItemText F) → AreLosses periods style said p → AreLosses periods style said q → AreOne said p q
losses_once periods style said p q u v =
    let text : ℕ × ItemText → ItemText = λ w. w.1 in
    let told : u.told ≡ v.told = same_items u.told v.told (u.sizes ∙ sym v.sizes) (λ i w z x y.
    let e = there u.told said.items u.sizes i w x in
    let a = u.each i e.0 w e.1 x in
    let b = v.each i e.0 z e.1 y in
    let number : w.0 ≡ z.0 = a.0 ∙ sym b.0 in
    let piece : w.1 ≡ z.1 = event_once periods style (take i said.items) e.0 w.1 z.1 a.1 b.1 in
    λ j. (number j, piece j)) in
    let closing : map text u.closing ≡ map text v.closing = closes_once periods style said.stop said.items (map text u.closing) (map text v.closing) u.closes v.closes in
    record {
      texts =
          ap (map text) u.parts ∙ (map-append text u.told u.closing ∙ (ap₂ (λ a b. map text a ++ b) told closing ∙ (sym (map-append text v.told v.closing) ∙ sym (ap (map text) v.parts))));
      of_events =
          ap (take (length said.items)) u.parts ∙ (front (length said.items) u.told u.closing u.sizes ∙ (told ∙ (sym (front (length said.items) v.told v.closing v.sizes) ∙ sym (ap (take (length said.items)) v.parts))));
      stops = u.stops ∙ sym v.stops;
    }
