-- What sights tell, one after another.
use Rattle.std.proofs.Common.{Option, Some, None, ◌≡◌, ℕ, Bool, true, false, List, [], ◌∷◌, ◌++◌, map, inl, inr, ap, ap₂, refl, ◌∙◌, sym, subst}
use Rattle.std.specs.Prelude.{◌||◌, not, is_some, if◌then◌else◌}
use Rattle.std.specs.List.{flat_map, list_any}
use Rattle.std.proofs.lemmas.List.{append-nil, append_assoc, map-append}
use Rattle.list_core.proofs.Emptiness.{back_nil, front_nil}
use Rattle.object_core.specs.declared.counted.Form.{Form}
use Rattle.object_core.specs.declared.counted.Form.TheVariants.{Text, Object}
use Rattle.object_core.specs.declared.counted.Heading.{Heading}
use Rattle.loss_core.specs.declared.finding.Finding.{Finding}
use Rattle.loss_core.specs.declared.sender.Arrival.{Arrival}
use Rattle.loss_core.specs.declared.sender.Pair.{Pair}
use Rattle.loss_core.specs.declared.sender.Told.{Told}
use Rattle.loss_core.specs.declared.stream.Came.{Came}
use Rattle.loss_core.specs.Periods.{Period}
use Rattle.loss_core.specs.Sender.{told_after}
use Rattle.loss_core.specs.Findings.{count_told, frame_findings, has_loss, synch_told}
use Rattle.loss_engine.specs.LossText.{back_lines, told_line}
use Rattle.pdu_core.specs.SampledViews.{asdu_of}
use Rattle.pdu_core.specs.declared.sampled.asdu.Asdu.{Asdu}
use Rattle.pdu_core.specs.declared.sampled.view.AsduView.{AsduView}
use Rattle.loss_engine.specs.Sights.{Key, Sight, frame, period_for, same_key, sample, sight_of_asdu}
use Rattle.loss_engine.specs.computed.Telling.{TellsSights, WantsAll, WantsFor, sights_text}
use Rattle.loss_engine.specs.computed.Tracking.{CountsAs, Kept, Tracked, findings_all, findings_by, known_of, Progress, sender_of, shows_new, track, track_all, with_progress}

-- a line is not empty
behind_some : (xs : List ℕ) (c : ℕ) (ys : List ℕ) → xs ++ c ∷ ys ≡ [] → ⊥
behind_some [] c ys h = cc
behind_some (x ∷ xs) c ys h = cc

told_some : (form : Form) (n moment : ℕ) (key : Key) (f : Finding) → told_line form n moment key f ≡ [] → ⊥
told_some Text n moment key f h = behind_some _ 32 _ h
told_some (Object counted) n moment key f h = cc

-- where nothing is written of it, time does not go back
back_none : (form : Form) (n moment : ℕ) (back : Option ℕ) → back_lines form n moment back ≡ [] → back ≡ None
back_none form n moment None h = refl
back_none Text n moment (Some by) h = absurd (behind_some _ 32 _ h)
back_none (Object counted) n moment (Some by) h = cc

or_true : (b : Bool) → (b || true) ≡ true
or_true true = refl
or_true false = refl

none_if : (o : Option Progress) → (not (is_some o) || false) ≡ true → o ≡ None
none_if None h = refl
none_if (Some p) h = cc

-- where nothing is written there is no finding
pub told_none : (form : Form) (n moment : ℕ) (key : Key) (fs : List Finding) → flat_map (told_line form n moment key) fs ≡ [] → fs ≡ []
told_none form n moment key [] h = refl
told_none form n moment key (f ∷ fs) h = absurd (told_some form n moment key f (front_nil (told_line form n moment key f) (flat_map (told_line form n moment key) fs) h))

module _ (h : Heading) (periods : List Period) (k : Kept) (s : Sight) where
  -- what one sight tells
  abbrev findings : List Finding
  findings = findings_by (period_for periods s.key) (known_of k.tracked s.key) s.moment s.shown

  abbrev lines : List Finding → List ℕ
  lines fs = flat_map (told_line h.form h.number h.moment s.key) fs

  one_text : sights_text h periods k.tracked (s ∷ []) ≡ lines findings
  one_text = append-nil (lines findings)

  pub wants_text : (fs : List Finding) → fs ≡ findings → (fs ≡ [] → ⊥) → WantsFor h periods k (s ∷ [])
  wants_text fs is some = inr (λ empty. some (told_none h.form h.number h.moment s.key fs (ap lines is ∙ sym one_text ∙ empty)))

-- memory is wanted for what a frame tells
pub wants_frame : (h : Heading) (periods : List Period) (k : Kept) (key : Key) (p : Pair) (lifetime : ℕ) (f : Arrival) (t : Told) →
    f ≡ record { pair = p; moment = k.moment; lifetime = lifetime } → t ≡ told_after (sender_of (known_of k.tracked key)) f → (frame_findings f t ≡ [] → ⊥) →
    WantsFor h periods k (record { key = key; moment = k.moment; shown = frame p lifetime } ∷ [])
wants_frame h periods k key p lifetime f t is told some =
    wants_text h periods k (record { key = key; moment = k.moment; shown = frame p lifetime }) (frame_findings f t)
    (ap₂ (λ x y. frame_findings x y) is (told ∙ ap (λ x. told_after (sender_of (known_of k.tracked key)) x) is)) some

-- and for what a sample tells
pub wants_sample : (h : Heading) (periods : List Period) (k : Kept) (key : Key) (count synch : ℕ) (taken : Option Came × Option ℕ) →
    CountsAs (period_for periods key) (known_of k.tracked key) (record { count = count; moment = k.moment }) taken → (count_told (period_for periods key) count taken.0 ++ synch_told taken.1 synch ≡ [] → ⊥) →
    WantsFor h periods k (record { key = key; moment = k.moment; shown = sample count synch } ∷ [])
wants_sample h periods k key count synch taken counts some =
    wants_text h periods k (record { key = key; moment = k.moment; shown = sample count synch }) (count_told (period_for periods key) count taken.0 ++ synch_told taken.1 synch)
    (ap (λ (p : Option Came × Option ℕ). count_told (period_for periods key) count p.0 ++ synch_told p.1 synch) counts) some

-- for that time goes back
pub wants_back : (h : Heading) (back : Option ℕ) (periods : List Period) (k : Kept) (seen : List Sight) → (back ≡ None → ⊥) → WantsAll h back periods k seen
wants_back h back periods k seen some =
    inr (λ none. some (back_none h.form h.number h.moment back (front_nil (back_lines h.form h.number h.moment back) (sights_text h periods k.tracked seen) none)))

-- for what an event tells, where it is for what its sights tell
pub wants_sights : (h : Heading) (back : Option ℕ) (periods : List Period) (k : Kept) (seen : List Sight) → WantsFor h periods k seen → WantsAll h back periods k seen
wants_sights h back periods k seen (inl new) = inl new
wants_sights h back periods k seen (inr some) = inr (λ none. some (back_nil (back_lines h.form h.number h.moment back) (sights_text h periods k.tracked seen) none))

-- ---- sights, and others behind them

track-append : (periods : List Period) (t : List Tracked) (xs ys : List Sight) → track_all periods t (xs ++ ys) ≡ track_all periods (track_all periods t xs) ys
track-append periods t [] ys = refl
track-append periods t (x ∷ xs) ys = track-append periods (track periods t x) xs ys

text-append : (h : Heading) (periods : List Period) (t : List Tracked) (xs ys : List Sight) → sights_text h periods t (xs ++ ys) ≡ sights_text h periods t xs ++ sights_text h periods (track_all periods t xs) ys
text-append h periods t [] ys = refl
text-append h periods t (x ∷ xs) ys =
    let first : List ℕ = flat_map (told_line h.form h.number h.moment x.key) (findings_by (period_for periods x.key) (known_of t x.key) x.moment x.shown) in
    ap (λ l. first ++ l) (text-append h periods (track periods t x) xs ys) ∙ sym (append_assoc first (sights_text h periods (track periods t x) xs) (sights_text h periods (track_all periods (track periods t x) xs) ys))

or_assoc : (a b c : Bool) → (a || (b || c)) ≡ ((a || b) || c)
or_assoc true b c = refl
or_assoc false b c = refl

finds-append : (periods : List Period) (t : List Tracked) (xs ys : List Sight) →
    list_any has_loss (findings_all periods t (xs ++ ys)) ≡ (list_any has_loss (findings_all periods t xs) || list_any has_loss (findings_all periods (track_all periods t xs) ys))
finds-append periods t [] ys = refl
finds-append periods t (x ∷ xs) ys =
    ap (λ b. has_loss (findings_by (period_for periods x.key) (known_of t x.key) x.moment x.shown) || b) (finds-append periods (track periods t x) xs ys)
    ∙ or_assoc (has_loss (findings_by (period_for periods x.key) (known_of t x.key) x.moment x.shown)) _ _

pub tells_then : (h : Heading) (periods : List Period) (k mid after : Kept) (xs ys : List Sight) (old between new : List ℕ) (f g : Bool) →
    TellsSights h periods k xs old f between mid → TellsSights h periods mid ys between g new after → TellsSights h periods k (xs ++ ys) old (f || g) new after
tells_then h periods k mid after xs ys old between new f g p q = record {
  text =
      q.text ∙ ap₂ (λ l (m : Kept). l ++ sights_text h periods m.tracked ys) p.text p.keeps
      ∙ append_assoc old (sights_text h periods k.tracked xs) (sights_text h periods (track_all periods k.tracked xs) ys)
      ∙ ap (λ l. old ++ l) (sym (text-append h periods k.tracked xs ys));
  finds = ap₂ (λ a b. a || b) p.finds (q.finds ∙ ap (λ (m : Kept). list_any has_loss (findings_all periods m.tracked ys)) p.keeps) ∙ sym (finds-append periods k.tracked xs ys);
  keeps =
      q.keeps ∙ ap (λ (m : Kept). record { moment = m.moment; is_back = m.is_back; tracked = track_all periods m.tracked ys }) p.keeps
      ∙ ap (λ t. record { moment = k.moment; is_back = k.is_back; tracked = t }) (sym (track-append periods k.tracked xs ys));
}

-- what is known stays so
other_head : (b : Bool) (p q : Progress) (o : Option Progress) → (if b then Some p else o) ≡ None → (if b then Some q else o) ≡ None
other_head true p q o h = cc
other_head false p q o h = h

other_tail : (b : Bool) (p : Progress) (o u : Option Progress) → (o ≡ None → u ≡ None) → (if b then Some p else o) ≡ None → (if b then Some p else u) ≡ None
other_tail true p o u f h = cc
other_tail false p o u f h = f h

known_stays : (t : List Tracked) (other : Key) (first : Progress) (more : Progress → Progress) (key : Key) → known_of (with_progress t other first more) key ≡ None → known_of t key ≡ None
known_stays [] other first more key h = refl
known_stays (x ∷ t) other first more key h = elim (same_key x.key other) as
    (λ b. known_of (if b then record { key = x.key; progress = more x.progress } ∷ t else x ∷ with_progress t other first more) key ≡ None → known_of (x ∷ t) key ≡ None) [
      | true ↦ λ e. other_head (same_key x.key key) (more x.progress) x.progress (known_of t key) e
      | false ↦ λ e. other_tail (same_key x.key key) x.progress (known_of (with_progress t other first more) key) (known_of t key) (λ none. known_stays t other first more key none) e
    ] h

known_before : (periods : List Period) (t : List Tracked) (xs : List Sight) (key : Key) → known_of (track_all periods t xs) key ≡ None → known_of t key ≡ None
known_before periods t [] key h = h
known_before periods t (x ∷ xs) key h = known_stays t x.key _ _ key (known_before periods (track periods t x) xs key h)

-- one of several is new
new_among : (t : List Tracked) (xs : List Sight) (y : Sight) (zs : List Sight) → known_of t y.key ≡ None → shows_new t (xs ++ y ∷ zs) ≡ true
new_among t [] y zs h = rw h refl
new_among t (x ∷ xs) y zs h = ap (λ b. not (is_some (known_of t x.key)) || b) (new_among t xs y zs h) ∙ or_true (not (is_some (known_of t x.key)))

new_none : (t : List Tracked) (y : Sight) → shows_new t (y ∷ []) ≡ true → known_of t y.key ≡ None
new_none t y h = none_if (known_of t y.key) h

-- memory is wanted for one, behind others and before further ones
pub wants_then : (h : Heading) (periods : List Period) (k mid : Kept) (xs : List Sight) (y : Sight) (zs : List Sight) (old between : List ℕ) (f : Bool) →
    TellsSights h periods k xs old f between mid → WantsFor h periods mid (y ∷ []) → WantsFor h periods k (xs ++ y ∷ zs)
wants_then h periods k mid xs y zs old between f p (inl new) =
    inl (new_among k.tracked xs y zs (known_before periods k.tracked xs y.key (ap (λ (m : Kept). known_of m.tracked y.key) (sym p.keeps) ∙ new_none mid.tracked y new)))
wants_then h periods k mid xs y zs old between f p (inr some) = inr (λ none.
    let behind = back_nil (sights_text h periods k.tracked xs) (sights_text h periods (track_all periods k.tracked xs) (y ∷ zs)) (sym (text-append h periods k.tracked xs (y ∷ zs)) ∙ none) in
    some (ap (λ (m : Kept). sights_text h periods m.tracked (y ∷ [])) p.keeps
    ∙ front_nil (sights_text h periods (track_all periods k.tracked xs) (y ∷ [])) (sights_text h periods (track_all periods (track_all periods k.tracked xs) (y ∷ [])) zs) (sym (text-append h periods (track_all periods k.tracked xs) (y ∷ []) zs) ∙ behind)))

-- ---- the ASDUs of a frame

module _ (h : Heading) (periods : List Period) (k mid : Kept) (app_id : ℕ) (source : List ℕ) (yielded : List AsduView) (a : AsduView) (all left next : List (Asdu (Unit {0}))) (old between : List ℕ) (f : Bool)
    (parts : map (asdu_of {A = Unit {0}}) yielded ++ left ≡ all) (first : left ≡ asdu_of a ∷ next)
    (told : TellsSights h periods k (map (sight_of_asdu k.moment app_id source) (map (asdu_of {A = Unit {0}}) yielded)) old f between mid) where
  -- what ASDUs show
  abbrev shown : List (Asdu (Unit {0})) → List Sight
  shown asdus = map (sight_of_asdu k.moment app_id source) asdus

  same_moment : mid.moment ≡ k.moment
  same_moment = ap (λ (m : Kept). m.moment) told.keeps

  one_sight : sight_of_asdu mid.moment app_id source (asdu_of {A = Unit {0}} a) ∷ [] ≡ shown (asdu_of a ∷ [])
  one_sight = ap (λ m. sight_of_asdu {A = Unit {0}} m app_id source (asdu_of {A = Unit {0}} a) ∷ []) same_moment

  pub asdu_parts : map (asdu_of {A = Unit {0}}) (yielded ++ a ∷ []) ++ next ≡ all
  asdu_parts =
      ap (λ l. l ++ next) (map-append (asdu_of {A = Unit {0}}) yielded (a ∷ [])) ∙ append_assoc (map (asdu_of {A = Unit {0}}) yielded) (asdu_of a ∷ []) next
      ∙ ap (λ l. map (asdu_of {A = Unit {0}}) yielded ++ l) (sym first) ∙ parts

  pub asdu_more : (mid_periods : List Period) (after : Kept) (new : List ℕ) (g : Bool) → mid_periods ≡ periods → TellsSights h mid_periods mid (sight_of_asdu mid.moment app_id source (asdu_of {A = Unit {0}} a) ∷ []) between g new after →
      TellsSights h periods k (shown (map (asdu_of {A = Unit {0}}) (yielded ++ a ∷ []))) old (f || g) new after
  asdu_more mid_periods after new g same more =
      subst (λ l. TellsSights h periods k l old (f || g) new after)
      (ap (λ l. shown (map (asdu_of {A = Unit {0}}) yielded) ++ l) one_sight ∙ sym (map-append (sight_of_asdu {A = Unit {0}} k.moment app_id source) (map (asdu_of {A = Unit {0}}) yielded) (asdu_of a ∷ [])) ∙ ap shown (sym (map-append (asdu_of {A = Unit {0}}) yielded (a ∷ []))))
      (tells_then h periods k mid after (shown (map (asdu_of {A = Unit {0}}) yielded)) _ old between new f g told (subst (λ p. TellsSights h p mid (sight_of_asdu mid.moment app_id source (asdu_of {A = Unit {0}} a) ∷ []) between g new after) same more))

  pub asdus_wanted : (mid_periods : List Period) → mid_periods ≡ periods → WantsFor h mid_periods mid (sight_of_asdu mid.moment app_id source (asdu_of {A = Unit {0}} a) ∷ []) → WantsFor h periods k (shown all)
  asdus_wanted mid_periods same wants =
      subst (λ l. WantsFor h periods k (shown l)) (ap (λ l. map (asdu_of {A = Unit {0}}) yielded ++ l) (sym first) ∙ parts)
      (subst (λ l. WantsFor h periods k l) (sym (map-append (sight_of_asdu {A = Unit {0}} k.moment app_id source) (map (asdu_of {A = Unit {0}}) yielded) (asdu_of a ∷ next)))
      (wants_then h periods k mid (shown (map (asdu_of {A = Unit {0}}) yielded)) (sight_of_asdu {A = Unit {0}} k.moment app_id source (asdu_of a)) (shown next) old between f told
      (subst (λ p. WantsFor h p mid (shown (asdu_of a ∷ []))) same (subst (λ l. WantsFor h mid_periods mid l) one_sight wants))))
