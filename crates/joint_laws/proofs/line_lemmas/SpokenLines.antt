-- Lines of objects from which lines of text are had back.
use Rattle.std.proofs.Common.{◌≡◌, ℕ, zero, suc, Bool, List, [], ◌∷◌, ◌++◌, length, take, slice_get, Option, Some, arith, ◌||◌, ap₂, ap, refl, sym, subst, ◌∙◌, append-nil, append_assoc, ◌^◌, ◌<◌, true, false}
use Rattle.std.specs.Prelude.{codes}
use Rattle.std.specs.List.{AllByRecursion, concat}
use Rattle.std.proofs.lemmas.Option.{none-some, same_Some}
use Rattle.json.specs.Json.{Json, document, object}
use Rattle.list_core.specs.Cuts.{cut_at}
use Rattle.list_core.specs.declared.event.Event.{Event}
use Rattle.object_core.specs.declared.counted.Counted.{Counted}
use Rattle.object_core.specs.declared.counted.Form.{Form}
use Rattle.object_core.specs.declared.counted.Form.TheVariants as forms
use Rattle.engine_core.specs.EngineText.{ItemText, has_finding, joined_texts}
use Rattle.engine_core.specs.EventsText.{EventAllows}
use Rattle.list_core.proofs.Cuts.{cut-part, cut_some}
use Rattle.text_core.proofs.PieceLemmas.{concat-append}
use Rattle.joint_laws.specs.JsonText.{IsJsonLine}
use Rattle.joint_laws.proofs.object_lemmas.Lines.{IsLineOf, json_line, counted_field, event_is, event_json, moment_then, capture_fault_is, capture_fault_named, fault_named, list_fault_is, list_fault_named}
use Rattle.joint_laws.specs.Given.{IsGiven, IsWide}
use Rattle.joint_laws.specs.JsonLines.{AreJsonLines, EventsAreJson, ObjectsAreJson}
use Rattle.joint_laws.specs.LinesBack.{GivesLines}
use Rattle.joint_laws.proofs.line_lemmas.LineSaid.{back, line_if, line_said, parts_said, kind_said, word}
use Rattle.std.specs.Fmt.{decimal}
use Rattle.ber_core.specs.declared.fault.Fault.{Fault}
use Rattle.list_core.specs.declared.list_fault.ListFault.{ListFault}
use Rattle.list_core.specs.EventText.{mode_text}
use Rattle.capture_core.specs.declared.capture_fault.CaptureFault.{CaptureFault}
use Rattle.text_core.specs.LineText.{capture_line, clock_line, fault_line, list_fault_line}
use Rattle.object_core.specs.declared.counted.Counted.TheVariants as counted
use Rattle.object_core.specs.EventObject.{capture_fault_object, fault_object, list_fault_object}
use Rattle.object_core.specs.Objects.{object_line}
use Rattle.joint_laws.proofs.object_lemmas.PlainTexts.{ArePlain, by_test}
use Rattle.joint_laws.proofs.object_lemmas.Containers.{Named, fields_of, members_of, names_of}
use Rattle.joint_laws.proofs.object_lemmas.Names.{all_differ}
use Rattle.joint_laws.proofs.object_lemmas.Fields.{word_field}
use Rattle.frame_engines.specs.ShowObject.{clock_object, mode_object}
use Rattle.frame_engines.specs.CheckObject.{note_object_unless}
use Rattle.frame_engines.specs.CheckText.{note_unless}

-- the objects are lines of JSON, and say these lines
pub record Say (objects lines : List ℕ) : Type 0 where
  pub are_json : AreJsonLines objects
  pub in_front : (rest : List ℕ) → back (objects ++ rest) ≡ lines ++ back rest

pub back_none : back [] ≡ []
unfolding back
back_none = refl

pub say_none : Say [] []
say_none = record { are_json = ([], refl, tt); in_front = λ rest. refl }

pub all_both : {X : Type 0} (P : X → Type 0) (xs ys : List X) → AllByRecursion P xs → AllByRecursion P ys → AllByRecursion P (xs ++ ys)
all_both P [] ys a b = b
all_both P (x ∷ xs) ys a b = (a.0, all_both P xs ys a.1 b)

pub json_both : (a b : List ℕ) → AreJsonLines a → AreJsonLines b → AreJsonLines (a ++ b)
json_both a b p q =
    (p.0 ++ q.0, ap (λ (l : List ℕ). l ++ b) p.1 ∙ ap (λ (l : List ℕ). concat p.0 ++ l) q.1 ∙ sym (concat-append p.0 q.0), all_both IsJsonLine p.0 q.0 p.2 q.2)

pub say_both : (a b x y : List ℕ) → Say a x → Say b y → Say (a ++ b) (x ++ y)
say_both a b x y p q = record {
  are_json = json_both a b p.are_json q.are_json;
  in_front = λ rest. ap back (append_assoc a b rest) ∙ p.in_front (b ++ rest) ∙ ap (λ (l : List ℕ). x ++ l) (q.in_front rest) ∙ sym (append_assoc x y (back rest));
}

parts_more : (line rest : List ℕ) → parts_said (line ∷ cut_at 10 rest) ≡ line_if (document line) ++ parts_said (cut_at 10 rest)
parts_more line rest = let r = cut_some 10 rest in rw r.2 refl

pub json_one : (line : List ℕ) → IsJsonLine line → AreJsonLines line
json_one line is = (line ∷ [], sym (append-nil line), (is, tt))

-- one line, which is this value
pub say_one : (json : Json) (written line : List ℕ) → IsLineOf json written → line_said json ≡ line → Say written line
unfolding back
say_one json written line is says = record {
  are_json = json_one written (json_line json written is);
  in_front = λ rest.
      ap (λ (l : List ℕ). back (l ++ rest)) is.is_line
      ∙ ap back (append_assoc is.text (codes "\n") rest)
      ∙ ap parts_said (cut-part 10 is.text rest is.no_feed)
      ∙ parts_more is.text rest
      ∙ ap (λ (o : Option Json). line_if o ++ back rest) is.reads
      ∙ ap (λ (l : List ℕ). l ++ back rest) says;
}

-- texts that are the same say the same
pub say_same : (a b x y : List ℕ) → a ≡ b → x ≡ y → Say b y → Say a x
say_same a b x y p q s = subst (λ l. Say l x) (sym p) (subst (λ l. Say b l) (sym q) s)

-- ---- what is written of events

-- of each event the objects that may be written say the lines, and both are findings or none is
abbrev pub SayEach : {A : Type 0} → (Form → EventAllows A) → Type 0
SayEach {A} allows =
    (c : Counted) (before : List (ℕ × Event A)) (e : ℕ × Event A) (objects lines : List ℕ × Bool) → IsGiven e → allows (forms.Object c) before e objects → allows forms.Text before e lines → Say objects.0 lines.0 × (objects.1 ≡ lines.1)

-- what stands in the same place of two lists of one length
pub same_place : {X Y : Type 0} (xs : List X) (ys : List Y) (i : ℕ) (y : Y) → length ys ≡ length xs → slice_get ys i ≡ Some y → (x : X) × (slice_get xs i ≡ Some x)
same_place xs [] i y e h = absurd (none-some y h)
same_place [] (z ∷ ys) i y e h = absurd (omega arith)
same_place (x ∷ xs) (z ∷ ys) zero y e h = (x, refl)
same_place (x ∷ xs) (z ∷ ys) (suc i) y e h = same_place xs ys i y (omega arith) h

pub all_at : {X : Type 0} (P : X → Type 0) (xs : List X) (i : ℕ) (x : X) → AllByRecursion P xs → slice_get xs i ≡ Some x → P x
all_at P [] i x all h = absurd (none-some x h)
all_at P (y ∷ xs) zero x all h = subst P (same_Some y x h) all.0
all_at P (y ∷ xs) (suc i) x all h = all_at P xs i x all.1 h

pub say_joined : (os ls : List ItemText) → length os ≡ length ls → ((i : ℕ) (o l : ItemText) → slice_get os i ≡ Some o → slice_get ls i ≡ Some l → Say o.text l.text) → Say (joined_texts os) (joined_texts ls)
say_joined [] [] e each = say_none
say_joined (o ∷ os) (l ∷ ls) e each = say_both _ _ _ _ (each 0 o l refl refl) (say_joined os ls (omega arith) (λ i p q a b. each (suc i) p q a b))
say_joined _ _ e each = absurd (omega arith)

pub found_joined : (os ls : List ItemText) → length os ≡ length ls → ((i : ℕ) (o l : ItemText) → slice_get os i ≡ Some o → slice_get ls i ≡ Some l → o.is_finding ≡ l.is_finding) → has_finding os ≡ has_finding ls
found_joined [] [] e each = refl
found_joined (o ∷ os) (l ∷ ls) e each = ap₂ (λ (a b : Bool). a || b) (each 0 o l refl refl) (found_joined os ls (omega arith) (λ i p q a b. each (suc i) p q a b))
found_joined _ _ e each = absurd (omega arith)

json_joined : (os : List ItemText) → ((i : ℕ) (o : ItemText) → slice_get os i ≡ Some o → AreJsonLines o.text) → AreJsonLines (joined_texts os)
json_joined [] each = ([], refl, tt)
json_joined (o ∷ os) each = json_both _ _ (each 0 o refl) (json_joined os (λ i p e. each (suc i) p e))

pub gives_lines : {A : Type 0} (C F : Type 0) (allows : Form → EventAllows A) → SayEach allows → GivesLines C F back allows
gives_lines C F allows says = record {
  of_event = λ c before e objects lines given is also. let both = says c before e objects lines given is also in (both.0.in_front, both.1);
  of_run = λ c last_line last_object items objects lines given is also.
      let size : length objects ≡ length lines = is.one_each ∙ sym also.one_each in
      let each = λ (i : ℕ) (o l : ItemText) (at : slice_get objects i ≡ Some o) (there : slice_get lines i ≡ Some l).
      let e = same_place items objects i o is.one_each at in
      says c (take i items) e.0 (o.text, o.is_finding) (l.text, l.is_finding) (all_at IsGiven items i e.0 given e.1) (is.each i e.0 o e.1 at) (also.each i e.0 l e.1 there) in
      ((say_joined objects lines size (λ i o l at there. (each i o l at there).0)).in_front, found_joined objects lines size (λ i o l at there. (each i o l at there).1));
}

json_lines : {A : Type 0} (C F : Type 0) (allows : Form → EventAllows A) → EventsAreJson allows → ObjectsAreJson C F allows
json_lines C F allows each = record {
  of_event = each;
  of_run = λ c last_line last_object items texts given is.
      json_joined texts (λ i o at.
      let e = same_place items texts i o is.one_each at in
      each c (take i items) e.0 (o.text, o.is_finding) (all_at IsGiven items i e.0 given e.1) (is.each i e.0 o e.1 at));
}

-- objects that say lines, where there are lines, are lines of JSON
pub json_said : {A : Type 0} (C F : Type 0) (allows : Form → EventAllows A) → ((before : List (ℕ × Event A)) (e : ℕ × Event A) → (lines : List ℕ × Bool) × allows forms.Text before e lines) → SayEach allows → ObjectsAreJson C F allows
json_said C F allows some says = json_lines C F allows (λ c before e written given is. let lines = some before e in (says c before e written lines.0 given is lines.1).0.are_json)

-- ---- the short lines of events, as objects and as text

event_said : {n : ℕ} (c : Counted) (m : ℕ) (small : m < 2 ^ 64) (vs : List (Named n)) → line_said (event_json c m small vs) ≡ kind_said (decimal m) (word (codes "kind") (members_of vs)) (members_of vs)
event_said counted.Line m small vs = refl
event_said counted.Packet m small vs = refl

-- an event's object, by what its fields behind the number say
pub say_event : (n : ℕ) (c : Counted) (m : ℕ) (small : m < 2 ^ 64) (vs : List (Named n)) (line : List ℕ) → n < 128 → all_differ (codes "line" ∷ names_of vs) ≡ true → all_differ (codes "packet" ∷ names_of vs) ≡ true
    → kind_said (decimal m) (word (codes "kind") (members_of vs)) (members_of vs) ≡ line → Say (object_line (fields_of (counted_field n c m small ∷ vs))) line
say_event n c m small vs line h as_line as_packet says = say_one (event_json c m small vs) _ line (event_is n c m small vs h as_line as_packet) (event_said c m small vs ∙ says)

pub say_fault : (c : Counted) (n moment : ℕ) (f : Fault) → IsWide n → IsWide moment → IsWide f.place → Say (fault_object c n moment f) (fault_line n f)
say_fault c n moment f small past place =
    say_event 0 c n small (moment_then 0 moment (codes "fault") past (by_test (codes "fault") refl) (fault_named f place)) (fault_line n f) (omega arith) refl refl refl

pub say_clock : (c : Counted) (n moment : ℕ) → IsWide n → IsWide moment → Say (clock_object c n moment) (clock_line n moment)
say_clock c n moment small past = say_event 0 c n small (moment_then 0 moment (codes "clock") past (by_test (codes "clock") refl) []) (clock_line n moment) (omega arith) refl refl refl

mode_plain : (on : Bool) → ArePlain (mode_text on)
mode_plain true = by_test (codes "on") refl
mode_plain false = by_test (codes "off") refl

pub say_mode : (c : Counted) (n moment : ℕ) (on : Bool) → IsWide n → IsWide moment → Say (mode_object c n moment on) (decimal n ++ codes " mode " ++ decimal moment ++ codes " " ++ mode_text on ++ codes "\n")
say_mode c n moment on small past =
    say_event 0 c n small (moment_then 0 moment (codes "mode") past (by_test (codes "mode") refl) (word_field 0 (codes "mode") (mode_text on) refl (mode_plain on) ∷ [])) _ (omega arith) refl refl refl

-- ---- notes

pub say_not_written : (b : Bool) (c : Counted) (n moment : ℕ) → IsWide n → IsWide moment → Say (note_object_unless b c n moment (codes "not-written")) (note_unless b n (codes " not-written\n"))
say_not_written true c n moment small past = say_none
say_not_written false c n moment small past =
    say_event 0 c n small (moment_then 0 moment (codes "not-written") past (by_test (codes "not-written") refl) []) (decimal n ++ codes " not-written\n") (omega arith) refl refl refl

pub say_destination : (b : Bool) (c : Counted) (n moment : ℕ) → IsWide n → IsWide moment → Say (note_object_unless b c n moment (codes "destination")) (note_unless b n (codes " destination\n"))
say_destination true c n moment small past = say_none
say_destination false c n moment small past =
    say_event 0 c n small (moment_then 0 moment (codes "destination") past (by_test (codes "destination") refl) []) (decimal n ++ codes " destination\n") (omega arith) refl refl refl

-- ---- faults of the input

pub say_list_fault : (f : ListFault) → IsWide f.line → Say (list_fault_object f) (list_fault_line f)
say_list_fault f small = say_one (object (members_of (list_fault_named f small))) _ _ (list_fault_is f small) refl

pub say_capture_fault : (f : CaptureFault) → IsWide f.number → Say (capture_fault_object f) (capture_line f)
say_capture_fault f small = say_one (object (members_of (capture_fault_named f small))) _ _ (capture_fault_is f small) refl
