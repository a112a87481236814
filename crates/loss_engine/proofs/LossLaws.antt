-- What `losses` writes by what it keeps is what the definitions say of the input.
use Rattle.std.proofs.Common.{Option, Some, None, ◌≡◌, ℕ, zero, suc, ◌+◌, max, false, List, [], ◌∷◌, ◌++◌, length, map, take, append-nil, append_assoc, inl, inr, ap, refl, ◌∙◌, sym, subst, arith, if◌then◌else◌}
use Rattle.std.specs.Prelude.{◌||◌, is_some, nat_le, option_map, slice_get}
use Rattle.std.specs.List.{list_any}
use Rattle.std.proofs.lemmas.List.{length-map}
use Rattle.std.proofs.lemmas.Option.{none-some, same_Some, slice_get-map}
use Rattle.list_core.specs.declared.event.Event.{Event}
use Rattle.list_core.specs.Items.{Numbered}
use Rattle.list_core.specs.Lines.{Stop, finished, unfinished, faulty}
use Rattle.object_core.specs.declared.counted.Form.{Form}
use Rattle.engine_core.specs.declared.style.Style.{Style}
use Rattle.engine_core.specs.EngineText.{ItemText}
use Rattle.loss_core.specs.declared.stream.Newest.{Newest}
use Rattle.loss_core.specs.Stream.{AreSamplesTold, Known}
use Rattle.loss_core.specs.computed.StreamSteps.{Keeps}
use Rattle.loss_core.specs.Findings.{has_loss}
use Rattle.loss_engine.specs.Findings.{TellsSight}
use Rattle.loss_engine.specs.LossLine.{samples_line}
use Rattle.loss_engine.specs.LossObject.{samples_object}
use Rattle.loss_engine.specs.LossText.{AreLosses, ClosesBy, ClosesEvents, ClosesKey, IsClosing, TellsEvent, back_lines, end_silent, form_of, line_of, sight_lines, sights_at, stale, styled}
use Rattle.loss_engine.specs.Sights.{Key, Sight, sender, stream, frames_of, greatest_moment, keys_in, period_for, samples_of, sights_from, sights_in, sights_of, synchs_of}
use Rattle.loss_engine.specs.TimeBack.{TellsBack, is_far_below}
use Rattle.loss_core.specs.Periods.{ArePeriods, Period}
use Rattle.loss_engine.specs.computed.Tracking.{Kept, Progress, Tracked, back_by, closing_by, closing_pieces, closings, counted, findings_all, frames, keep, keep_all, kept_none, numbered_all, piece_by, pieces_by, pieces_of, samples, sights_by, silences_by, silent_since, stale_newest, total_by, totals_by, track_all}
use Rattle.loss_engine.proofs.Stands.{AreKinds, Holds, Stands, findings_sizes, findings_tell, kinds_of, stands_all, stands_none}
use Rattle.loss_engine.proofs.TimesBack.{IsBack, tells_back}
use Rattle.loss_engine.proofs.TrackedKeys.{known_own}

-- ---- events

greatest_push : {A : Type 0} (before : List (ℕ × Event A)) (e : ℕ × Event A) → greatest_moment (before ++ e ∷ []) ≡ max (greatest_moment before) e.1.moment
greatest_push [] e = omega arith
greatest_push (d ∷ before) e = let rest : greatest_moment (before ++ e ∷ []) ≡ max (greatest_moment before) e.1.moment = greatest_push before e in omega arith

sights_push : {A : Type 0} (moment : ℕ) (before : List (ℕ × Event A)) (e : ℕ × Event A) → sights_from moment (before ++ e ∷ []) ≡ sights_from moment before ++ sights_of (max (max moment (greatest_moment before)) e.1.moment) e.1.kind
sights_push moment [] e =
    let same : max moment e.1.moment ≡ max (max moment 0) e.1.moment = omega arith in
    append-nil (sights_of (max moment e.1.moment) e.1.kind) ∙ ap (λ n. sights_of n e.1.kind) same
sights_push moment (d ∷ before) e =
    let same : max (max (max moment d.1.moment) (greatest_moment before)) e.1.moment ≡ max (max moment (max d.1.moment (greatest_moment before))) e.1.moment = omega arith in
    let first : List Sight = sights_of (max moment d.1.moment) d.1.kind in
    ap (λ l. first ++ l) (sights_push (max moment d.1.moment) before e ∙ ap (λ n. sights_from (max moment d.1.moment) before ++ sights_of n e.1.kind) same)
    ∙ sym (append_assoc first (sights_from (max moment d.1.moment) before) (sights_of (max (max moment (max d.1.moment (greatest_moment before))) e.1.moment) e.1.kind))

-- this is kept after events
pub record Follows {A : Type 0} (periods : List Period) (before : List (ℕ × Event A)) (k : Kept) : Type 0 where
  pub moment : k.moment ≡ greatest_moment before
  pub is_back : IsBack before k.is_back
  pub stands : Stands periods (sights_in before) k.tracked

module _ {A : Type 0} (periods : List Period) (are : ArePeriods periods) where
  follows_none : Follows {A = A} periods [] kept_none
  follows_none = record { moment = refl; is_back = inl (refl, refl); stands = stands_none periods }

  moment_push : (before : List (ℕ × Event A)) (k : Kept) (e : ℕ × Event A) → Follows periods before k → max k.moment e.1.moment ≡ greatest_moment (before ++ e ∷ [])
  moment_push before k e f = ap (λ n. max n e.1.moment) f.moment ∙ sym (greatest_push before e)

  pub sights_there : (before : List (ℕ × Event A)) (k : Kept) (e : ℕ × Event A) → Follows periods before k → sights_by k e.1 ≡ sights_at before e
  sights_there before k e f = ap (λ n. sights_of n e.1.kind) (moment_push before k e f)

  sights_more : (before : List (ℕ × Event A)) (k : Kept) (e : ℕ × Event A) → Follows periods before k → sights_in (before ++ e ∷ []) ≡ sights_in before ++ sights_by k e.1
  sights_more before k e f =
      let same : max (max 0 (greatest_moment before)) e.1.moment ≡ max k.moment e.1.moment = (let there = f.moment in omega arith) in
      sights_push 0 before e ∙ ap (λ n. sights_in before ++ sights_of n e.1.kind) same

  follows_on : (before : List (ℕ × Event A)) (k : Kept) (e : ℕ × Event A) → Follows periods before k → Follows periods (before ++ e ∷ []) (keep periods k e.1)
  follows_on before k e f = record {
    moment = moment_push before k e f;
    is_back = inr (before, e, refl, ap (λ n. is_far_below n e.1.moment) f.moment);
    stands =
        subst (λ l. Stands periods l (track_all periods k.tracked (sights_by k e.1))) (sym (sights_more before k e f))
        (stands_all periods are (sights_by k e.1) (sights_in before) k.tracked (kinds_of (max k.moment e.1.moment) e.1.kind) f.stands);
  }

  follows_from : (items before : List (ℕ × Event A)) (k : Kept) → Follows periods before k → Follows periods (before ++ items) (keep_all periods k items)
  follows_from [] before k f = subst (λ l. Follows periods l k) (sym (append-nil before)) f
  follows_from (e ∷ items) before k f =
      subst (λ l. Follows periods l (keep_all periods (keep periods k e.1) items)) (append_assoc before (e ∷ []) items)
      (follows_from items (before ++ e ∷ []) (keep periods k e.1) (follows_on before k e f))

  -- what is kept after events that began with nothing kept
  pub follows_all : (items : List (ℕ × Event A)) → Follows periods items (keep_all periods kept_none items)
  follows_all items = follows_from items [] kept_none follows_none

  -- the piece of an event
  told_with : (style : Style) (before : List (ℕ × Event A)) (k : Kept) (e : ℕ × Event A) (back : Option ℕ) (seen : List Sight) → TellsBack before e back → seen ≡ sights_at before e → AreKinds seen → Stands periods (sights_in before) k.tracked →
      TellsEvent periods style before e
      (record { text = styled style e.1.moment (λ form. back_lines form e.0 e.1.moment back ++ sight_lines form e.0 e.1.moment seen (findings_all periods k.tracked seen)); is_finding = is_some back || list_any has_loss (findings_all periods k.tracked seen) })
  told_with style before k e back seen goes same all st = record {
    back = back;
    goes_back = goes;
    findings = findings_all periods k.tracked seen;
    sizes = findings_sizes periods are seen k.tracked ∙ ap length same;
    each = λ i s fs p q. subst (λ l. TellsSight periods (sights_in before ++ take i l) s fs) same (findings_tell periods are seen (sights_in before) k.tracked all st i s fs (ap (λ l. slice_get l i) same ∙ p) q);
    text = ap (λ l. styled style e.1.moment (λ form. back_lines form e.0 e.1.moment back ++ sight_lines form e.0 e.1.moment l (findings_all periods k.tracked seen))) same;
    found = refl;
  }

  pub event_told : (style : Style) (before : List (ℕ × Event A)) (k : Kept) (e : ℕ × Event A) → Follows periods before k → TellsEvent periods style before e (piece_by periods style k e)
  event_told style before k e f = told_with style before k e (back_by k e.1.moment) (sights_by k e.1) (tells_back before e k f.moment f.is_back) (sights_there before k e f) (kinds_of (max k.moment e.1.moment) e.1.kind) f.stands

  pieces_tell : (style : Style) (items before : List (ℕ × Event A)) (k : Kept) → Follows periods before k → (i : ℕ) (e : ℕ × Event A) (w : ℕ × ItemText) → slice_get items i ≡ Some e → slice_get (pieces_by periods style k items) i ≡ Some w →
      (w.0 ≡ e.0) × TellsEvent periods style (before ++ take i items) e w.1
  pieces_tell style [] before k f i e w p q = absurd (none-some e p)
  pieces_tell style (d ∷ items) before k f zero e w p q =
      subst (λ l. (w.0 ≡ e.0) × TellsEvent periods style l e w.1) (sym (append-nil before))
      (subst (λ (x : ℕ × ItemText). (x.0 ≡ e.0) × TellsEvent periods style before e x.1) (same_Some _ w q)
      (subst (λ (x : ℕ × Event A). (d.0 ≡ x.0) × TellsEvent periods style before x (piece_by periods style k d)) (same_Some d e p)
      (refl, event_told style before k d f)))
  pieces_tell style (d ∷ items) before k f (suc i) e w p q =
      subst (λ l. (w.0 ≡ e.0) × TellsEvent periods style l e w.1) (append_assoc before (d ∷ []) (take i items))
      (pieces_tell style items (before ++ d ∷ []) (keep periods k d.1) (follows_on before k d f) i e w p q)

  -- those of events that began with nothing kept
  pub pieces_tell_all : (style : Style) (items : List (ℕ × Event A)) (i : ℕ) (e : ℕ × Event A) (w : ℕ × ItemText) → slice_get items i ≡ Some e → slice_get (pieces_by periods style kept_none items) i ≡ Some w → (w.0 ≡ e.0) × TellsEvent periods style (take i items) e w.1
  pieces_tell_all style items i e w p q = pieces_tell style items [] kept_none follows_none i e w p q

  pub pieces_sizes : (style : Style) (items : List (ℕ × Event A)) (k : Kept) → length (pieces_by periods style k items) ≡ length items
  pieces_sizes style [] k = refl
  pieces_sizes style (e ∷ items) k = ap suc (pieces_sizes style items (keep periods k e.1))

-- ---- the end of the input

stale_same : (known : Option Known) (newest : Option Newest) (end : ℕ) → Keeps known newest → stale_newest newest end ≡ stale known end
stale_same None None end h = refl
stale_same None (Some n) end h = absurd h
stale_same (Some k) None end h = absurd h
stale_same (Some k) (Some n) end h = ap (λ m. if nat_le (m + 1000000) end then Some m else None) h.1

closes_key : (period : Option ℕ) (form : Form) (seen : List Sight) (end : ℕ) (key : Key) (p : Progress) → Holds period key (frames_of key seen) (samples_of key seen) (synchs_of key seen) (Some p) →
    ClosesKey period form seen end key (end_silent form key end (silent_since end p)) (total_by form end key p)
closes_key period form seen end (sender a r s) (frames t) h = record { tally = t; stands = h; is_silent = refl; is_total = refl }
closes_key period form seen end (sender a r s) (samples u z) h = absurd h
closes_key period form seen end (sender a r s) (counted n z) h = absurd h
closes_key period form seen end (stream a o i) (frames t) h = absurd h
closes_key None form seen end (stream a o i) (samples u z) h = absurd h
closes_key (Some period) form seen end (stream a o i) (samples u z) h =
    let stands = h.1 in
    let known = stands.2.0 in
    record {
      told = stands.0;
      are_told = subst (λ n. AreSamplesTold n (samples_of (stream a o i) seen) stands.0) h.0 stands.1;
      known = known.0;
      is_known = known.1;
      totals = u.totals;
      are_totals = stands.2.1;
      is_silent = ap (end_silent form (stream a o i) end) (stale_same known.0 u.stream.newest end known.2);
      is_total = refl;
    }
closes_key None form seen end (stream a o i) (counted n z) h =
    record { is_silent = refl; is_total = ap (λ m. line_of form false (samples_line (stream a o i) m) (samples_object (stream a o i) m)) h.0 }
closes_key (Some period) form seen end (stream a o i) (counted n z) h = absurd h

map_found : {X Y : Type 0} (f : X → Y) (xs : List X) (i : ℕ) (y : Y) → slice_get (map f xs) i ≡ Some y → (x : X) × (slice_get xs i ≡ Some x) × (f x ≡ y)
map_found f [] i y e = absurd (none-some y e)
map_found f (x ∷ xs) zero y e = (x, refl, same_Some (f x) y e)
map_found f (x ∷ xs) (suc i) y e = map_found f xs i y e

map_there : {X Y : Type 0} (f : X → Y) (xs : List X) (i : ℕ) (x : X) → slice_get xs i ≡ Some x → slice_get (map f xs) i ≡ Some (f x)
map_there f xs i x e = slice_get-map f xs i ∙ ap (option_map f) e

closing_is : (periods : List Period) (form : Form) (seen : List Sight) (k : Kept) → Stands periods seen k.tracked → IsClosing periods form seen k.moment (closing_by form k)
closing_is periods form seen k st =
    let sizes : length k.tracked ≡ length (keys_in seen) = sym (length-map k.tracked (λ (x : Tracked). x.key)) ∙ ap length st.keys in
    let silence : Tracked → ItemText = λ x. end_silent form x.key k.moment (silent_since k.moment x.progress) in
    let total : Tracked → ItemText = λ x. total_by form k.moment x.key x.progress in
    record {
      silents = silences_by form k;
      totals = totals_by form k;
      silents_sizes = length-map k.tracked silence ∙ sizes;
      totals_sizes = length-map k.tracked total ∙ sizes;
      each = λ i key silent sum p q r.
          let s = map_found silence k.tracked i silent q in
          let x : Tracked = s.0 in
          let is_key : x.key ≡ key = same_Some x.key key (sym (map_there (λ (y : Tracked). y.key) k.tracked i x s.1) ∙ (ap (λ ks. slice_get ks i) st.keys ∙ p)) in
          let is_total : total x ≡ sum = same_Some (total x) sum (sym (map_there total k.tracked i x s.1) ∙ r) in
          let holds : Holds (period_for periods x.key) x.key (frames_of x.key seen) (samples_of x.key seen) (synchs_of x.key seen) (Some x.progress) =
          subst (λ o. Holds (period_for periods x.key) x.key (frames_of x.key seen) (samples_of x.key seen) (synchs_of x.key seen) o) (known_own k.tracked st.distinct i x s.1) (st.each x.key) in
          subst (λ y. ClosesKey (period_for periods y) form seen k.moment y silent sum) is_key
          (subst (λ w. ClosesKey (period_for periods x.key) form seen k.moment x.key w sum) s.2
          (subst (λ w. ClosesKey (period_for periods x.key) form seen k.moment x.key (silence x) w) is_total
          (closes_key (period_for periods x.key) form seen k.moment x.key x.progress holds)));
      parts = refl;
    }

pub numbers_away : (n : ℕ) (ws : List ItemText) → map (λ (w : ℕ × ItemText). w.1) (numbered_all n ws) ≡ ws
numbers_away n [] = refl
numbers_away n (w ∷ ws) = ap (λ l. w ∷ l) (numbers_away n ws)

pub closes_events : {A : Type 0} (periods : List Period) (style : Style) (items : List (ℕ × Event A)) (k : Kept) → Follows periods items k → ClosesEvents periods style items (closings style k)
closes_events periods style items k f =
    (closing_by (form_of style) k, subst (λ n. IsClosing periods (form_of style) (sights_in items) n (closing_by (form_of style) k)) f.moment (closing_is periods (form_of style) (sights_in items) k f.stands), refl)

closes_by : {A F : Type 0} (periods : List Period) (style : Style) (stop : Stop F) (n : ℕ) (items : List (ℕ × Event A)) (k : Kept) → Follows periods items k →
    ClosesBy periods style stop items (map (λ (w : ℕ × ItemText). w.1) (closing_pieces style stop n k))
closes_by periods style finished n items k f = subst (λ l. ClosesEvents periods style items l) (sym (numbers_away n (closings style k))) (closes_events periods style items k f)
closes_by periods style unfinished n items k f = refl
closes_by periods style (faulty fault) n items k f = refl

-- ---- the input

pub losses_are : {A F : Type 0} (periods : List Period) (style : Style) (n : ℕ) (said : Numbered (Event A) F) → ArePeriods periods → AreLosses periods style said (pieces_of periods style n said)
losses_are periods style n said in_range = record {
  told = pieces_by periods style kept_none said.items;
  sizes = pieces_sizes periods in_range style said.items kept_none;
  each = λ i e w p q. pieces_tell_all periods in_range style said.items i e w p q;
  closing = closing_pieces style said.stop n (keep_all periods kept_none said.items);
  closes = closes_by periods style said.stop n said.items (keep_all periods kept_none said.items) (follows_all periods in_range said.items);
  parts = refl;
  stops = refl;
}
