-- What is written of sightings, one after the other, and what is held then.
use Rattle.std.proofs.Common.{◌≡◌, ℕ, ◌<◌, ◌≤◌, Bool, true, false, Option, Some, None, List, [], ◌∷◌, ◌++◌, length, map, get_or, set, Result, Ok, Err, ap, sym, ◌∙◌, refl, subst, append_assoc, arith}
use Rattle.std.specs.Prelude.{if◌then◌else◌, OnErr, OnOk}
use Rattle.std.specs.List.{concat, insert}
use Rattle.std.specs.Str.{bytes_eq}
use Rattle.std.proofs.lemmas.List.{append-nil, map-append}
use Rattle.std.proofs.lemmas.Slice.Eq.{bytes_eq-Decides}
use Rattle.std.proofs.lemmas.List.Concat.{flat_map-append}
use Rattle.list_core.proofs.Emptiness.{back_nil, front_nil}
use Rattle.list_core.specs.declared.event.Event.{Event}
use Rattle.engine_core.specs.EventsText.{exactly_event}
use Rattle.engine_core.specs.computed.EventStep.{EventTaken}
use Rattle.pdu_core.specs.SampledViews.{asdu_of}
use Rattle.pdu_core.specs.declared.sampled.asdu.Asdu.{Asdu}
use Rattle.pdu_core.specs.declared.sampled.view.AsduView.{AsduView}
use Rattle.text_core.proofs.NonEmpty.{ends}
use Rattle.text_core.proofs.PieceLemmas.{concat-append}
use Rattle.std.specs.Fmt.{decimal}
use Rattle.object_core.specs.declared.counted.Form.{Form}
use Rattle.object_core.specs.declared.counted.Form.TheVariants.{Text as Lines, Object}
use Rattle.object_core.specs.EventObject.{event_fields}
use Rattle.object_core.specs.Objects.{Field, object}
use Rattle.inventory_engine.specs.SightingObject.{sighting_object}
use Rattle.known_core.specs.declared.runs.Place.{Place}
use Rattle.known_core.specs.computed.Held.{InOrderFor, IsAt, IsCompact, IsGap, NoneEmpty, PutsOne, held, position_of}
use Rattle.known_core.proofs.OrderLemmas.{ascends_insert, ascends_set, in_order_for, none_at_gap, none_before}
use Rattle.known_core.proofs.SearchLemmas.{none_empty}
use Rattle.inventory_engine.specs.declared.known.Known.{Known}
use Rattle.inventory_engine.specs.Sightings.{Sighting, key_of, sightings_in, sightings_of, stream_sighting, stream_sightings}
use Rattle.inventory_engine.specs.BlocksText.{Telling, changed_kind, first_kind, line_after, sighting_line, spaced_word, telling}
use Rattle.inventory_engine.specs.computed.BlocksStep.{Keeps, Tells, AppendsLines, HasLines, blocks_event, lines_by, newest, written_of}
use Rattle.inventory_engine.specs.computed.KnownTexts.{InOrder, Inventory, WritesText, by_key, key_cmp, known_key, known_text, same_key}
use Rattle.inventory_engine.proofs.KnownLemmas.{Updates, absent, has_key, present, updates_insert, updates_same, updates_set}
use Rattle.inventory_engine.proofs.KeyLemmas.{key_total}
use Rattle.inventory_engine.proofs.Newest.{newest-push}

lines-append : (how : Telling) (e xs ys : List Sighting) → lines_by how e (xs ++ ys) ≡ lines_by how e xs ++ lines_by how (e ++ xs) ys
lines-append how e [] ys = ap (λ (l : List Sighting). lines_by how l ys) (sym (append-nil e))
lines-append how e (x ∷ xs) ys =
    ap (λ (l : List (List ℕ)). line_after how x (newest e (key_of x)) ∷ l)
    (lines-append how (e ++ x ∷ []) xs ys ∙ ap (λ (l : List Sighting). lines_by how (e ++ x ∷ []) xs ++ lines_by how l ys) (append_assoc e (x ∷ []) xs))

written_of-append : (how : Telling) (e xs ys : List Sighting) → written_of how e (xs ++ ys) ≡ written_of how e xs ++ written_of how (e ++ xs) ys
written_of-append how e xs ys = ap concat (lines-append how e xs ys) ∙ concat-append (lines_by how e xs) (lines_by how (e ++ xs) ys)

-- sightings, and others behind them
pub appends_then : {A : Type 0} (how : Telling) (xs ys : List Sighting) (a b c : Inventory A) (o m t : List ℕ) → AppendsLines how xs a b o m → AppendsLines how ys b c m t → AppendsLines how (xs ++ ys) a c o t
appends_then how xs ys a b c o m t f g = λ e k.
    let p = f e k in
    let q = g (e ++ xs) p.1 in (
      q.0 ∙ ap (λ (l : List ℕ). l ++ written_of how (e ++ xs) ys) p.0 ∙ append_assoc o (written_of how e xs) (written_of how (e ++ xs) ys) ∙ ap (λ (l : List ℕ). o ++ l) (sym (written_of-append how e xs ys)),
      subst (λ (l : List Sighting). Keeps c l) (append_assoc e xs ys) q.1,
    )

-- something is to be written of some, behind others and before further ones
pub wanted_then : {A : Type 0} (how : Telling) (xs ys zs : List Sighting) (a b : Inventory A) (o m : List ℕ) → AppendsLines how xs a b o m → HasLines how ys b → HasLines how (xs ++ (ys ++ zs)) a
wanted_then how xs ys zs a b o m f g = λ e k none.
    let rest = written_of how (e ++ xs) (ys ++ zs) in
    let behind : rest ≡ [] = back_nil (written_of how e xs) rest (sym (written_of-append how e xs (ys ++ zs)) ∙ none) in
    g (e ++ xs) (f e k).1 (front_nil (written_of how (e ++ xs) ys) (written_of how (e ++ xs ++ ys) zs) (sym (written_of-append how (e ++ xs) ys zs) ∙ behind))

-- what holds anyway holds of an error
pub on_error : {T E : Type 0} (r : Result T E) (P : Type 0) → P → OnErr r P
on_error (Ok t) P p = tt
on_error (Err e) P p = p

-- what follows from what holds of a success holds of it
pub on_success : {T E : Type 0} (r : Result T E) (P Q : Type 0) → (P → Q) → OnOk r P → OnOk r Q
on_success (Ok t) P Q f p = f p
on_success (Err e) P Q f p = p

-- the same of sightings that are these by an equation
pub appends_as : {A T E : Type 0} (r : Result T E) (how : Telling) (xs ys : List Sighting) (a b : Inventory A) (o m : List ℕ) → xs ≡ ys → OnOk r (AppendsLines how xs a b o m) → OnOk r (AppendsLines how ys a b o m)
appends_as r how xs ys a b o m e h = subst (λ (l : List Sighting). OnOk r (AppendsLines how l a b o m)) e h

pub wanted_as : {A T E : Type 0} (r : Result T E) (how : Telling) (xs ys : List Sighting) (a : Inventory A) → xs ≡ ys → OnErr r (HasLines how xs a) → OnErr r (HasLines how ys a)
wanted_as r how xs ys a e h = subst (λ (l : List Sighting). OnErr r (HasLines how l a)) e h

-- the text that is held at a place was compared with another
pub compared : {A : Type 0} (known : Inventory A) (at : ℕ) (d : Known A) (text t : List ℕ) (a b : Bool) → text ≡ known_text (get_or (held known) at d) → a ≡ bytes_eq text t → a ≡ b → bytes_eq (known_text (get_or (held known) at d)) t ≡ b
compared known at d text t a b is asked told = ap (λ (o : List ℕ). bytes_eq o t) (sym is) ∙ sym asked ∙ told

module _ {A : Type 0} (how : Telling) (s : Sighting) (known : Inventory A) where
  written_of_one : (e : List Sighting) → written_of how e (s ∷ []) ≡ line_after how s (newest e (key_of s))
  written_of_one e = append-nil (line_after how s (newest e (key_of s)))

  pub newest_at : (e : List Sighting) (at : ℕ) (d : Known A) → Keeps known e → IsAt (by_key (key_of s)) (held known) at → newest e (key_of s) ≡ Some (known_text (get_or (held known) at d))
  newest_at e at d k is =
      sym (k.same (key_of s)) ∙ present known_key known_text (held known) (key_of s) at d is.within (has_key (held known) (key_of s) at is d) (none_before key_cmp key_total known_key (held known) k.order (key_of s) at is d)

  pub newest_gap : (e : List Sighting) (at : ℕ) → Keeps known e → IsGap (by_key (key_of s)) (held known) at → newest e (key_of s) ≡ None
  newest_gap e at k gap = sym (k.same (key_of s)) ∙ absent known_key known_text (held known) (key_of s) (none_at_gap key_cmp key_total known_key (held known) (key_of s) at gap)

  keeps_on : (e : List Sighting) (after : Inventory A) → Keeps known e → IsCompact after → InOrder (held after) → Updates known_key known_text (held known) (held after) (key_of s) s.text → Keeps after (e ++ s ∷ [])
  keeps_on e after k some order up = record {
    runs = some;
    order = order;
    same = λ q. up q ∙ ap (λ (o : Option (List ℕ)). if same_key (key_of s) q then Some s.text else o) (k.same q) ∙ sym (newest-push e s q);
  }

  -- it is known with this text
  line_same : (t : List ℕ) → bytes_eq t s.text ≡ true → line_after how s (Some t) ≡ []
  line_same t it_is = rw it_is refl

  pub said_same : (at : ℕ) (d : Known A) (old : List ℕ) → IsAt (by_key (key_of s)) (held known) at → bytes_eq (known_text (get_or (held known) at d)) s.text ≡ true
      → AppendsLines how (s ∷ []) known known old old
  said_same at d old is it_is = λ e k.
      let same : known_text (get_or (held known) at d) ≡ s.text = (bytes_eq-Decides (known_text (get_or (held known) at d)) s.text).0 it_is in
      let there = newest_at e at d k is in
      let none : written_of how e (s ∷ []) ≡ [] = written_of_one e ∙ ap (line_after how s) there ∙ line_same _ it_is in (
        sym (append-nil old) ∙ ap (λ (l : List ℕ). old ++ l) (sym none),
        keeps_on e known k k.runs k.order (updates_same known_key known_text (held known) (key_of s) s.text (k.same (key_of s) ∙ there ∙ ap Some same)),
      )

  line_other : (t : List ℕ) → bytes_eq t s.text ≡ false → line_after how s (Some t) ≡ how.of_changed s
  line_other t differs = rw differs refl

  -- it is known with another text
  pub said_changed : (place : Place) (after : Inventory A) (old new : List ℕ) → IsAt (by_key (key_of s)) (held known) (position_of known place) → ((d : Known A) → bytes_eq (known_text (get_or (held known) (position_of known place) d)) s.text ≡ false)
      → WritesText known after place s.text → new ≡ old ++ how.of_changed s → AppendsLines how (s ∷ []) known after old new
  said_changed place after old new is differs writes wrote = λ e k.
      let at = position_of known place in
      let y = writes.one in
      let same : known_key y ≡ key_of s = writes.same_key y ∙ has_key (held known) (key_of s) at is y in
      let one : written_of how e (s ∷ []) ≡ how.of_changed s = written_of_one e ∙ ap (line_after how s) (newest_at e at y k is) ∙ line_other _ (differs y) in (
        wrote ∙ ap (λ (l : List ℕ). old ++ l) (sym one),
        keeps_on e after k (writes.runs k.runs)
            (subst (λ (l : List (Known A)). InOrder l) (sym writes.written) (ascends_set key_cmp key_total known_key (held known) k.order at y is.within (λ d. same ∙ sym (has_key (held known) (key_of s) at is d))))
            (subst (λ (l : List (Known A)). Updates known_key known_text (held known) l (key_of s) s.text) (sym writes.written)
            (subst (λ (t : List ℕ). Updates known_key known_text (held known) (set (held known) at y) (key_of s) t) writes.has_text
            (updates_set known_key known_text (held known) (key_of s) at y y is.within (has_key (held known) (key_of s) at is y) (none_before key_cmp key_total known_key (held known) k.order (key_of s) at is y) same))),
      )

  -- it is not known
  pub said_first : (place : Place) (y : Known A) (after : Inventory A) (old new : List ℕ) → (NoneEmpty known → InOrderFor (by_key (key_of s)) (held known) → IsGap (by_key (key_of s)) (held known) (position_of known place))
      → known_key y ≡ key_of s → known_text y ≡ s.text → PutsOne known after place y → new ≡ old ++ how.of_first s → AppendsLines how (s ∷ []) known after old new
  said_first place y after old new gap same text puts wrote = λ e k.
      let at = position_of known place in
      let g = gap (none_empty known k.runs) (in_order_for key_cmp key_total known_key (held known) k.order (key_of s)) in
      let one : written_of how e (s ∷ []) ≡ how.of_first s = written_of_one e ∙ ap (line_after how s) (newest_gap e at k g) in (
        wrote ∙ ap (λ (l : List ℕ). old ++ l) (sym one),
        keeps_on e after k (puts.runs k.runs)
            (subst (λ (l : List (Known A)). InOrder l) (sym puts.put) (ascends_insert key_cmp key_total known_key (held known) k.order (key_of s) at g y same))
            (subst (λ (l : List (Known A)). Updates known_key known_text (held known) l (key_of s) s.text) (sym puts.put)
            (subst (λ (t : List ℕ). Updates known_key known_text (held known) (insert (held known) at y) (key_of s) t) text
            (updates_insert known_key known_text (held known) (key_of s) at y y g.within (λ j lt. none_at_gap key_cmp key_total known_key (held known) (key_of s) at g j y (within j at lt g.within)) same))),
      )
    where
      within : (j at : ℕ) → j < at → at ≤ length (held known) → j < length (held known)
      within j at lt le = omega arith

  -- there is something to write
  pub wanted_changed : Tells how → (at : ℕ) (d : Known A) → IsAt (by_key (key_of s)) (held known) at → bytes_eq (known_text (get_or (held known) at d)) s.text ≡ false → HasLines how (s ∷ []) known
  wanted_changed tells at d is differs = λ e k none. tells.of_changed s (sym (written_of_one e ∙ ap (line_after how s) (newest_at e at d k is) ∙ line_other _ differs) ∙ none)

  pub wanted_first : Tells how → (at : ℕ) → (NoneEmpty known → InOrderFor (by_key (key_of s)) (held known) → IsGap (by_key (key_of s)) (held known) at) → HasLines how (s ∷ []) known
  wanted_first tells at gap = λ e k none. tells.of_first s (sym (written_of_one e ∙ ap (line_after how s) (newest_gap e at k (gap (none_empty known k.runs) (in_order_for key_cmp key_total known_key (held known) k.order (key_of s))))) ∙ none)

-- one ASDU more
pub stream_more : {A : Type 0} (how : Telling) (yielded : List AsduView) (asdu : AsduView) (all rest others : List (Asdu (Unit {0}))) (a b c : Inventory A) (o m t : List ℕ) → map (asdu_of {A = Unit {0}}) yielded ++ rest ≡ all → rest ≡ asdu_of asdu ∷ others
    → AppendsLines how (stream_sightings (map (asdu_of {A = Unit {0}}) yielded)) a b o m → AppendsLines how (stream_sighting (asdu_of {A = Unit {0}} asdu) ∷ []) b c m t
    → (map (asdu_of {A = Unit {0}}) (yielded ++ asdu ∷ []) ++ others ≡ all) × AppendsLines how (stream_sightings (map (asdu_of {A = Unit {0}}) (yielded ++ asdu ∷ []))) a c o t
stream_more how yielded asdu all rest others a b c o m t parts first f g =
    let one = asdu_of {A = Unit {0}} asdu in
    let seen = map (asdu_of {A = Unit {0}}) yielded in
    let pushed : map (asdu_of {A = Unit {0}}) (yielded ++ asdu ∷ []) ≡ seen ++ one ∷ [] = map-append asdu_of yielded (asdu ∷ []) in (
      ap (λ (l : List (Asdu (Unit {0}))). l ++ others) pushed ∙ append_assoc seen (one ∷ []) others ∙ ap (λ (l : List (Asdu (Unit {0}))). seen ++ l) (sym first) ∙ parts,
      subst (λ (l : List Sighting). AppendsLines how l a c o t) (sym (map-append stream_sighting seen (one ∷ [])) ∙ ap stream_sightings (sym pushed))
          (appends_then how (stream_sightings seen) (stream_sighting one ∷ []) a b c o m t f g),
    )

-- something is to be written of an ASDU among others
pub streams_wanted : {A : Type 0} (how : Telling) (yielded : List AsduView) (asdu : AsduView) (all rest others : List (Asdu (Unit {0}))) (a b : Inventory A) (o m : List ℕ) → map (asdu_of {A = Unit {0}}) yielded ++ rest ≡ all → rest ≡ asdu_of asdu ∷ others
    → AppendsLines how (stream_sightings (map (asdu_of {A = Unit {0}}) yielded)) a b o m → HasLines how (stream_sighting (asdu_of {A = Unit {0}} asdu) ∷ []) b → HasLines how (stream_sightings all) a
streams_wanted how yielded asdu all rest others a b o m parts first f g =
    let one = asdu_of {A = Unit {0}} asdu in
    let seen = map (asdu_of {A = Unit {0}}) yielded in
    subst (λ (l : List Sighting). HasLines how l a)
    (sym (map-append stream_sighting seen (one ∷ others)) ∙ ap stream_sightings (ap (λ (l : List (Asdu (Unit {0}))). seen ++ l) (sym first) ∙ parts))
    (wanted_then how (stream_sightings seen) (stream_sighting one ∷ []) (stream_sightings others) a b o m f g)

-- a text by a test
pub by_test : (b : Bool) (x y t : List ℕ) (c : Bool) → c ≡ b → c ≡ true → t ≡ x → t ≡ (if b then x else y)
by_test b x y t c e f g = g ∙ sym (rw (sym e ∙ f) refl)

pub by_test_not : (b : Bool) (x y t : List ℕ) (c : Bool) → c ≡ b → c ≡ false → t ≡ y → t ≡ (if b then x else y)
by_test_not b x y t c e f g = g ∙ sym (rw (sym e ∙ f) refl)

pub sightings-push : {A : Type 0} (before : List (ℕ × Event A)) (e : ℕ × Event A) → sightings_in (before ++ e ∷ []) ≡ sightings_in before ++ sightings_of e.1.kind
sightings-push before e =
    flat_map-append (λ x. sightings_of x.1.kind) before (e ∷ []) ∙ ap (λ (l : List Sighting). sightings_in before ++ l) (append-nil (sightings_of e.1.kind))

-- what is told is not empty
pub each_told : (form : Form) (n moment : ℕ) → Tells (telling form n moment)
each_told Lines n moment = record { of_first = λ s. line_there (first_kind s.app_id) s.text; of_changed = λ s. line_there (changed_kind s.app_id) s.text }
  where
    line_there : (kind text : List ℕ) → sighting_line n (spaced_word kind) text ≡ [] → ⊥
    line_there kind text = ends (decimal n ++ spaced_word kind ++ text)
each_told (Object counted) n moment = record { of_first = λ s. object_there (first_kind s.app_id) s.fields; of_changed = λ s. object_there (changed_kind s.app_id) s.fields }
  where
    object_there : (kind : List ℕ) (fields : List Field) → sighting_object counted n moment kind fields ≡ [] → ⊥
    object_there kind fields = ends (object (event_fields counted n moment kind ++ fields))

-- an event was written
pub takes_event : {A : Type 0} (form : Form) (n : ℕ) (before : List (ℕ × Event A)) (event : Event A) (known after : Inventory A) (old new : List ℕ) → AppendsLines (telling form n event.moment) (sightings_of event.kind) known after old new → Keeps known (sightings_in before)
    → EventTaken (exactly_event (blocks_event {A = A} form)) (λ (items : List (ℕ × Event A)). Keeps after (sightings_in items)) before (n, event) false old new
takes_event {A} form n before event known after old new wrote k =
    let p = wrote (sightings_in before) k in
    record {
      text = (blocks_event {A = A} form before (n, event)).0;
      is_allowed = refl;
      appended = p.0;
      stands_after = subst (λ (l : List Sighting). Keeps after l) (sym (sightings-push before (n, event))) p.1;
    }
