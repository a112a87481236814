-- The shapes of a line that says an event.
use Rattle.std.proofs.Common.{Option, Some, None, is_some, Ok, Err, Result, Bool, true, false, cond, eqb, ltb, leb, ◌&&◌, ◌⊎◌, inl, inr, ◌≡◌, ℕ, ◌*◌, ◌%◌, ◌<◌, ◌≤◌, List, [], ◌∷◌, ◌++◌, length, ap, sym, ◌∙◌, refl, arith}
use Rattle.std.specs.Prelude.{codes, IfOk, MatchOption}
use Rattle.std.specs.List.{list_all, join_with_byte}
use Rattle.std.specs.Char.{is_ascii_digit}
use Rattle.std.specs.Str.Parse.{AllDigits, digits_value}
use Rattle.std.proofs.lemmas.Bool.{ne_eqb, cases_eq}
use Rattle.std.proofs.lemmas.Bool.Decides.{nat_tests}
use Rattle.std.proofs.lemmas.List.{append_assoc}
use Rattle.std.proofs.lemmas.List.Elements.{All-get_or, All-from_get_or}
use Rattle.std.proofs.lemmas.List.Sums.{AllPass-from_list_all, list_all-from_AllPass}
use Rattle.std.proofs.lemmas.List.Splits.{join_with_byte-slice_split}
use Rattle.std.proofs.lemmas.Str.Parse.{digit_at}
use Rattle.hex.specs.Hex.{decode_of, is_hex_digit}
use Rattle.hex.specs.declared.error.FromHexError.{FromHexError}
use Rattle.hex.proofs.HexLemmas.{decode_of-digits, decode_of-ok}
use Rattle.list_core.specs.declared.event.Event.{Event}
use Rattle.list_core.specs.declared.event.EventKind.{EventKind}
use Rattle.list_core.specs.declared.event.EventKind.TheVariants.{Frame, Clock, Mode}
use Rattle.list_core.specs.declared.event_lines.MomentUnit.{MomentUnit}
use Rattle.list_core.specs.declared.list_fault.ListCause.{ListCause}
use Rattle.list_core.specs.declared.list_fault.ListCause.TheVariants.{LineForm}
use Rattle.list_core.specs.EventLine.{fields, is_moment, most_digits, microseconds_in, moment_of, decoded, frame_octets_by, mode_of, clock_event, frame_event, mode_event, event_of_fields, event_of, WritesMoment, WritesOctets}
use Rattle.list_core.specs.EventText.{mode_text}
use Rattle.list_core.specs.computed.LineAnswer.{OctetsAreRead}
use Rattle.list_core.proofs.Cuts.{cut-part, cut-rest}
use Rattle.list_core.proofs.MomentDigits.{digits_test}
use Rattle.list_core.proofs.WrittenLines.{IsWord, word-HasNo, hex_above, clock_fields, frame_fields, mode_fields, mode_facts}

-- what fields say: a clock, a frame, a mode, or nothing by their shape
Shapes : (A : Type 0) → MomentUnit → List (List ℕ) → Type 0
Shapes A v fs = ((digits : List ℕ) × (fs ≡ (67 ∷ []) ∷ digits ∷ []) × (event_of_fields {A = A} v fs ≡ clock_event (moment_of v digits)))
    ⊎ (((digits : List ℕ) × (hex : List ℕ) × (fs ≡ (70 ∷ []) ∷ digits ∷ hex ∷ []) × (event_of_fields {A = A} v fs ≡ frame_event (moment_of v digits) (frame_octets_by hex)))
    ⊎ (((digits : List ℕ) × (word : List ℕ) × (fs ≡ (77 ∷ []) ∷ digits ∷ word ∷ []) × (event_of_fields {A = A} v fs ≡ mode_event (moment_of v digits) (mode_of word)))
    ⊎ (event_of_fields {A = A} v fs ≡ Err LineForm)))

shape_of : (A : Type 0) (v : MomentUnit) (fs : List (List ℕ)) → Shapes A v fs
unfolding Shapes
shape_of A v [] = inr (inr (inr refl))
shape_of A v ([] ∷ fs) = inr (inr (inr refl))
shape_of A v ((c ∷ d ∷ name) ∷ fs) = inr (inr (inr refl))
shape_of A v ((c ∷ []) ∷ []) = inr (inr (inr refl))
shape_of A v ((c ∷ []) ∷ [] ∷ fs) = inr (inr (inr refl))
shape_of A v ((c ∷ []) ∷ (m ∷ ms) ∷ []) = elim (cases_eq c 67) [
  | inl same ↦ inl (m ∷ ms, ap (λ k. (k ∷ []) ∷ (m ∷ ms) ∷ []) same, ap (λ k. event_of_fields {A = A} v ((k ∷ []) ∷ (m ∷ ms) ∷ [])) same)
  | inr other ↦ inr (inr (inr (rw (ne_eqb c 67 other) refl)))
]
shape_of A v ((c ∷ []) ∷ (m ∷ ms) ∷ [] ∷ fs) = inr (inr (inr refl))
shape_of A v ((c ∷ []) ∷ (m ∷ ms) ∷ (h ∷ hs) ∷ []) = elim (cases_eq c 70) [
  | inl same ↦ inr (inl (m ∷ ms, h ∷ hs, ap (λ k. (k ∷ []) ∷ (m ∷ ms) ∷ (h ∷ hs) ∷ []) same, ap (λ k. event_of_fields {A = A} v ((k ∷ []) ∷ (m ∷ ms) ∷ (h ∷ hs) ∷ [])) same))
  | inr other ↦ elim (cases_eq c 77) [
    | inl same ↦ inr (inr (inl (m ∷ ms, h ∷ hs, ap (λ k. (k ∷ []) ∷ (m ∷ ms) ∷ (h ∷ hs) ∷ []) same, ap (λ k. event_of_fields {A = A} v ((k ∷ []) ∷ (m ∷ ms) ∷ (h ∷ hs) ∷ [])) same)))
    | inr more ↦ inr (inr (inr (rw (ne_eqb c 70 other, ne_eqb c 77 more) refl)))
  ]
]
shape_of A v ((c ∷ []) ∷ (m ∷ ms) ∷ (h ∷ hs) ∷ x ∷ fs) = inr (inr (inr refl))

-- three tests at once
all_true : (a b c : Bool) → (a && b && c) ≡ true → (a ≡ true) × (b ≡ true) × (c ≡ true)
all_true true true true h = (refl, refl, refl)
all_true true true false h = cc
all_true true false c h = cc
all_true false b c h = cc

both_true : (a b : Bool) → (a && b) ≡ true → (a ≡ true) × (b ≡ true)
both_true true true h = (refl, refl)
both_true true false h = cc
both_true false b h = cc

some_of : {X : Type 0} (b : Bool) (o : Option X) (x : X) → cond b o None ≡ Some x → (b ≡ true) × (o ≡ Some x)
some_of true o x h = (refl, h)
some_of false o x h = cc

same_some : {X : Type 0} (x y : X) → Some x ≡ Some y → x ≡ y
same_some x y h = cc

moment_to : (v : MomentUnit) (digits : List ℕ) (m : ℕ) → moment_of v digits ≡ Some m → WritesMoment v digits m
moment_to v digits m h =
    let r = some_of (is_moment v digits) (Some (digits_value 10 digits * microseconds_in v)) m h in
    let t = all_true (ltb 0 (length digits)) (leb (length digits) (most_digits v)) (list_all is_ascii_digit digits) r.0 in
    let some = t.0 in
    let short = t.1 in
    (grind (arith, nat_tests), grind (arith, nat_tests), digits_test.to digits t.2, same_some _ _ r.1)

moment_from : (v : MomentUnit) (digits : List ℕ) (m : ℕ) → WritesMoment v digits m → moment_of v digits ≡ Some m
moment_from v digits m w =
    let some : 0 < length digits = w.0 in
    let short : length digits ≤ most_digits v = w.1 in
    let first : ltb 0 (length digits) ≡ true = grind (arith, nat_tests) in
    let second : leb (length digits) (most_digits v) ≡ true = grind (arith, nat_tests) in
    let third : list_all is_ascii_digit digits ≡ true = digits_test.from digits w.2 in
    rw (first, second, third, w.3) refl

decoded_to : (r : Result (List ℕ) FromHexError) (os : List ℕ) → decoded r ≡ Some os → r ≡ Ok os
decoded_to (Ok xs) os h = ap Ok (same_some xs os h)
decoded_to (Err e) os h = cc

pub octets_to : (digits os : List ℕ) → frame_octets_by digits ≡ Some os → WritesOctets digits os
octets_to digits os h =
    let r = some_of (ltb 0 (length digits) && leb (length digits) 4000) (decoded (decode_of digits)) os h in
    let t = both_true (ltb 0 (length digits)) (leb (length digits) 4000) r.0 in
    let some = t.0 in
    let short = t.1 in
    (grind (arith, nat_tests), grind (arith, nat_tests), decoded_to (decode_of digits) os r.1)

octets_from : (digits os : List ℕ) → WritesOctets digits os → frame_octets_by digits ≡ Some os
octets_from digits os w =
    let some : 0 < length digits = w.0 in
    let short : length digits ≤ 4000 = w.1 in
    let first : ltb 0 (length digits) ≡ true = grind (arith, nat_tests) in
    let second : leb (length digits) 4000 ≡ true = grind (arith, nat_tests) in
    rw (first, second) (ap decoded w.2)

digits_word : (digits : List ℕ) → AllDigits 10 digits → IsWord digits
digits_word digits h = All-from_get_or (λ x. 32 < x) digits 0 (λ k l. let r = digit_at digits k h l in omega (arith, r.0))

pub hex_digits_word : (digits os : List ℕ) → decode_of digits ≡ Ok os → IsWord digits
hex_digits_word digits os h = All-from_get_or (λ x. 32 < x) digits 0 (λ k l. hex_above _ (All-get_or (λ x. is_hex_digit x ≡ true) digits k 0 l (decode_of-ok digits os h).1))

pub clock-from : (A : Type 0) (v : MomentUnit) (line : List ℕ) (m : ℕ) → (digits : List ℕ) × (line ≡ codes "C " ++ digits) × WritesMoment v digits m →
    event_of {A = A} v line ≡ Ok (Some (record { moment = m; kind = Clock }))
clock-from A v line m w =
    let digits = w.0 in
    ap (event_of {A = A} v) w.1
    ∙ ap (λ ps. event_of_fields {A = A} v ((67 ∷ []) ∷ ps)) (cut-rest 32 digits (word-HasNo 32 digits (omega arith) (digits_word digits w.2.2)))
    ∙ clock_fields v digits w.2.0 ∙ ap (clock_event {A = A}) (moment_from v digits m w.2)

-- two fields after the letter
two_fields : (digits last : List ℕ) → IsWord digits → IsWord last → fields (digits ++ (32 ∷ []) ++ last) ≡ digits ∷ last ∷ []
two_fields digits last a b =
    ap fields (append_assoc digits (32 ∷ []) last) ∙ cut-part 32 digits last (word-HasNo 32 digits (omega arith) a)
    ∙ ap (λ ps. digits ∷ ps) (cut-rest 32 last (word-HasNo 32 last (omega arith) b))

pub frame-from : (A : Type 0) (v : MomentUnit) (line : List ℕ) (m : ℕ) (os : List ℕ) →
    (digits : List ℕ) × (hex : List ℕ) × (line ≡ codes "F " ++ digits ++ codes " " ++ hex) × WritesMoment v digits m × WritesOctets hex os →
    event_of {A = A} v line ≡ Ok (Some (record { moment = m; kind = Frame os }))
frame-from A v line m os w =
    let digits = w.0 in
    let hex = w.1 in
    ap (event_of {A = A} v) w.2 ∙ ap (λ ps. event_of_fields {A = A} v ((70 ∷ []) ∷ ps)) (two_fields digits hex (digits_word digits w.3.2) (hex_digits_word hex os w.4.2))
    ∙ frame_fields v digits hex w.3.0 w.4.0
    ∙ ap (λ o. frame_event {A = A} o (frame_octets_by hex)) (moment_from v digits m w.3) ∙ ap (frame_event {A = A} (Some m)) (octets_from hex os w.4)

pub mode-from : (A : Type 0) (v : MomentUnit) (line : List ℕ) (m : ℕ) (on : Bool) →
    (digits : List ℕ) × (line ≡ codes "M " ++ digits ++ codes " " ++ mode_text on) × WritesMoment v digits m →
    event_of {A = A} v line ≡ Ok (Some (record { moment = m; kind = Mode on }))
mode-from A v line m on w =
    let digits = w.0 in
    let known = mode_facts on in
    ap (event_of {A = A} v) w.1 ∙ ap (λ ps. event_of_fields {A = A} v ((77 ∷ []) ∷ ps)) (two_fields digits (mode_text on) (digits_word digits w.2.2) known.1)
    ∙ mode_fields v digits (mode_text on) w.2.0 known.3
    ∙ ap (λ o. mode_event {A = A} o (mode_of (mode_text on))) (moment_from v digits m w.2) ∙ ap (mode_event {A = A} (Some m)) known.0

same_frame : (A : Type 0) (a b : List ℕ) → ◌≡◌ {A = EventKind A} (Frame a) (Frame b) → a ≡ b
same_frame A a b h = cc

same_event : {A : Type 0} (d e : Event A) → ◌≡◌ {A = Result (Option (Event A)) ListCause} (Ok (Some d)) (Ok (Some e)) → d ≡ e
same_event d e h = cc

clock_said : {A : Type 0} (o : Option ℕ) (e : Event A) → clock_event o ≡ Ok (Some e) → (e.kind ≡ Clock) × (o ≡ Some e.moment)
clock_said None e h = cc
clock_said {A = A} (Some m) e h =
    let same = same_event (record { moment = m; kind = Clock }) e h in
    (sym (ap (λ (e : Event A). e.kind) same), ap (λ (e : Event A). Some e.moment) same)

frame_said : {A : Type 0} (o : Option ℕ) (p : Option (List ℕ)) (e : Event A) → frame_event o p ≡ Ok (Some e) → (os : List ℕ) × (e.kind ≡ Frame os) × (o ≡ Some e.moment) × (p ≡ Some os)
frame_said None p e h = cc
frame_said (Some m) None e h = cc
frame_said {A = A} (Some m) (Some os) e h =
    let same = same_event (record { moment = m; kind = Frame os }) e h in
    (os, sym (ap (λ (e : Event A). e.kind) same), ap (λ (e : Event A). Some e.moment) same, refl)

same_mode : (A : Type 0) (a b : Bool) → ◌≡◌ {A = EventKind A} (Mode a) (Mode b) → a ≡ b
same_mode A a b h = cc

mode_said : {A : Type 0} (o : Option ℕ) (p : Option Bool) (e : Event A) → mode_event o p ≡ Ok (Some e) → (on : Bool) × (e.kind ≡ Mode on) × (o ≡ Some e.moment) × (p ≡ Some on)
mode_said o None e h = cc
mode_said None (Some on) e h = cc
mode_said {A = A} (Some m) (Some on) e h =
    let same = same_event (record { moment = m; kind = Mode on }) e h in
    (on, sym (ap (λ (e : Event A). e.kind) same), ap (λ (e : Event A). Some e.moment) same, refl)

-- a field names a mode by its word alone
word_of : (word : List ℕ) (on : Bool) → mode_of word ≡ Some on → word ≡ mode_text on
word_of [] on h = cc
word_of (a ∷ []) on h = cc
word_of (a ∷ b ∷ []) on h =
    let r = some_of (eqb a 111 && eqb b 110) (Some true) on h in
    let t = both_true (eqb a 111) (eqb b 110) r.0 in
    let first : a ≡ 111 = is_eq t.0 in
    let second : b ≡ 110 = is_eq t.1 in
    two_same a b first second ∙ ap mode_text (same_some true on r.1)
  where
    is_eq : {x y : ℕ} → eqb x y ≡ true → x ≡ y
    is_eq e = grind (arith, nat_tests)

    two_same : (a b : ℕ) → a ≡ 111 → b ≡ 110 → (a ∷ b ∷ []) ≡ mode_text true
    two_same a b e f = rw (e, f) refl
word_of (a ∷ b ∷ c ∷ []) on h =
    let r = some_of (eqb a 111 && eqb b 102 && eqb c 102) (Some false) on h in
    let t = all_true (eqb a 111) (eqb b 102) (eqb c 102) r.0 in
    let first : a ≡ 111 = is_eq t.0 in
    let second : b ≡ 102 = is_eq t.1 in
    let third : c ≡ 102 = is_eq t.2 in
    three_same a b c first second third ∙ ap mode_text (same_some false on r.1)
  where
    is_eq : {x y : ℕ} → eqb x y ≡ true → x ≡ y
    is_eq e = grind (arith, nat_tests)

    three_same : (a b c : ℕ) → a ≡ 111 → b ≡ 102 → c ≡ 102 → (a ∷ b ∷ c ∷ []) ≡ mode_text false
    three_same a b c e f g = rw (e, f, g) refl
word_of (a ∷ b ∷ c ∷ d ∷ more) on h = cc

-- what a line that says an event reads as
Spelled : {A : Type 0} → MomentUnit → List ℕ → Event A → Type 0
Spelled v line e = ((digits : List ℕ) × (line ≡ codes "C " ++ digits) × WritesMoment v digits e.moment × (e.kind ≡ Clock))
    ⊎ (((digits : List ℕ) × (hex : List ℕ) × (os : List ℕ) × (line ≡ codes "F " ++ digits ++ codes " " ++ hex) × WritesMoment v digits e.moment × WritesOctets hex os × (e.kind ≡ Frame os))
    ⊎ ((digits : List ℕ) × (on : Bool) × (line ≡ codes "M " ++ digits ++ codes " " ++ mode_text on) × WritesMoment v digits e.moment × (e.kind ≡ Mode on)))

fields_spelled : (A : Type 0) (v : MomentUnit) (line : List ℕ) (e : Event A) → event_of_fields v (fields line) ≡ Ok (Some e) → Spelled v line e
unfolding Spelled Shapes
fields_spelled A v line e h = elim (shape_of A v (fields line)) [
  | inl s ↦
      let said = clock_said (moment_of v s.0) e (sym s.2 ∙ h) in
      inl (s.0, sym (join_with_byte-slice_split 32 line) ∙ ap (join_with_byte 32) s.1, moment_to v s.0 e.moment said.1, said.0)
  | inr (inl s) ↦
      let said = frame_said (moment_of v s.0) (frame_octets_by s.1) e (sym s.3 ∙ h) in
      let spelled = sym (join_with_byte-slice_split 32 line) ∙ ap (join_with_byte 32) s.2 ∙ ap (λ l. 70 ∷ 32 ∷ l) (sym (append_assoc s.0 (32 ∷ []) s.1)) in
      inr (inl (s.0, s.1, said.0, spelled, moment_to v s.0 e.moment said.2, octets_to s.1 said.0 said.3, said.1))
  | inr (inr (inl s)) ↦
      let said = mode_said (moment_of v s.0) (mode_of s.1) e (sym s.3 ∙ h) in
      let spelled = sym (join_with_byte-slice_split 32 line) ∙ ap (join_with_byte 32) s.2 ∙ ap (λ l. 77 ∷ 32 ∷ l) (sym (append_assoc s.0 (32 ∷ []) s.1))
      ∙ ap (λ w. codes "M " ++ s.0 ++ codes " " ++ w) (word_of s.1 said.0 said.3) in
      inr (inr (s.0, said.0, spelled, moment_to v s.0 e.moment said.2, said.1))
  | inr (inr (inr s)) ↦ cc
]

line_spelled : (A : Type 0) (v : MomentUnit) (line : List ℕ) (e : Event A) → event_of v line ≡ Ok (Some e) → Spelled v line e
line_spelled A v [] e h = cc
line_spelled A v (x ∷ xs) e h = elim (cases_eq x 35) [
  | inl same ↦ let h' : event_of {A = A} v (35 ∷ xs) ≡ Ok (Some e) = ap (λ k. event_of {A = A} v (k ∷ xs)) (sym same) ∙ h in cc
  | inr other ↦ fields_spelled A v (x ∷ xs) e (rw (ne_eqb x 35 other) at h)
]

pub clock-to : (A : Type 0) (v : MomentUnit) (line : List ℕ) (m : ℕ) → event_of {A = A} v line ≡ Ok (Some (record { moment = m; kind = Clock })) →
    (digits : List ℕ) × (line ≡ codes "C " ++ digits) × WritesMoment v digits m
unfolding Spelled
clock-to A v line m h = elim (line_spelled A v line (record { moment = m; kind = Clock }) h) [
  | inl s ↦ (s.0, s.1, s.2)
  | inr (inl s) ↦ let other = s.6 in cc
  | inr (inr s) ↦ let other = s.4 in cc
]

pub frame-to : (A : Type 0) (v : MomentUnit) (line : List ℕ) (m : ℕ) (os : List ℕ) → event_of {A = A} v line ≡ Ok (Some (record { moment = m; kind = Frame os })) →
    (digits : List ℕ) × (hex : List ℕ) × (line ≡ codes "F " ++ digits ++ codes " " ++ hex) × WritesMoment v digits m × WritesOctets hex os
unfolding Spelled
frame-to A v line m os h = elim (line_spelled A v line (record { moment = m; kind = Frame os }) h) [
  | inl s ↦ let other = s.3 in cc
  | inr (inl s) ↦
      let same : s.2 ≡ os = sym (same_frame A os s.2 s.6) in
      (s.0, s.1, s.3, s.4, rw same at s.5)
  | inr (inr s) ↦ let other = s.4 in cc
]

pub mode-to : (A : Type 0) (v : MomentUnit) (line : List ℕ) (m : ℕ) (on : Bool) → event_of {A = A} v line ≡ Ok (Some (record { moment = m; kind = Mode on })) →
    (digits : List ℕ) × (line ≡ codes "M " ++ digits ++ codes " " ++ mode_text on) × WritesMoment v digits m
unfolding Spelled
mode-to A v line m on h = elim (line_spelled A v line (record { moment = m; kind = Mode on }) h) [
  | inl s ↦ let other = s.3 in cc
  | inr (inl s) ↦ let other = s.6 in cc
  | inr (inr s) ↦
      let same : s.1 ≡ on = sym (same_mode A on s.1 s.4) in
      (s.0, s.2 ∙ ap (λ b. codes "M " ++ s.0 ++ codes " " ++ mode_text b) same, s.3)
]

-- an even count of hexadecimal digits is decoded, and nothing else
decoded_test : (digits : List ℕ) → length digits % 2 ≡ 0 → is_some (decoded (decode_of digits)) ≡ list_all is_hex_digit digits
decoded_test digits even = by_answer (decode_of digits) refl
  where
    refused : (why : FromHexError) (b : Bool) → decode_of digits ≡ Err why → list_all is_hex_digit digits ≡ b → b ≡ false
    refused why true e all = let read = decode_of-digits digits even (AllPass-from_list_all is_hex_digit digits all) in cc (read.1, e)
    refused why false e all = refl

    by_answer : (r : Result (List ℕ) FromHexError) → decode_of digits ≡ r → is_some (decoded r) ≡ list_all is_hex_digit digits
    by_answer (Ok octets) e = sym (list_all-from_AllPass is_hex_digit digits (decode_of-ok digits octets e).1)
    by_answer (Err why) e = sym (refused why (list_all is_hex_digit digits) e refl)

-- digits write octets exactly where they are an even count of 2 to 4,000 hexadecimal digits
pub octets_test : (digits : List ℕ) → 0 < length digits → length digits ≤ 4000 → length digits % 2 ≡ 0 → is_some (frame_octets_by digits) ≡ list_all is_hex_digit digits
octets_test digits some short even =
    let first : ltb 0 (length digits) ≡ true = grind (arith, nat_tests) in
    let second : leb (length digits) 4000 ≡ true = grind (arith, nat_tests) in
    rw (first, second) (decoded_test digits even)

pub some_is : {X : Type 0} (o : Option X) → is_some o ≡ true → (x : X) × (o ≡ Some x)
some_is None e = cc
some_is (Some x) e = (x, refl)

none_is : {X : Type 0} (o : Option X) → is_some o ≡ false → o ≡ None
none_is None e = refl
none_is (Some x) e = cc

-- octets, all of digits so many
octets_read : {E : Type 0} (digits : List ℕ) (read : Result (List ℕ) E) → 0 < length digits → length digits ≤ 4000 → length digits % 2 ≡ 0
    → (list_all is_hex_digit digits ≡ true) × IfOk read (λ octets. decode_of digits ≡ Ok octets) → OctetsAreRead read (frame_octets_by digits)
octets_read digits (Ok octets) some short even r =
    let first : ltb 0 (length digits) ≡ true = grind (arith, nat_tests) in
    let second : leb (length digits) 4000 ≡ true = grind (arith, nat_tests) in
    rw (first, second) (ap decoded r.1)
octets_read digits (Err e) some short even r = octets_test digits some short even ∙ r.0

-- none where one is no digit
octets_unread : (digits : List ℕ) → 0 < length digits → length digits ≤ 4000 → length digits % 2 ≡ 0 → list_all is_hex_digit digits ≡ false → frame_octets_by digits ≡ None
octets_unread digits some short even bad = none_is (frame_octets_by digits) (octets_test digits some short even ∙ bad)

-- so the octets of a frame are read
pub octets_answer : {E : Type 0} (digits : List ℕ) (o : Option (Result (List ℕ) E)) → 0 < length digits → length digits ≤ 4000 → length digits % 2 ≡ 0
    → MatchOption o (list_all is_hex_digit digits ≡ false) (λ read. (list_all is_hex_digit digits ≡ true) × IfOk read (λ octets. decode_of digits ≡ Ok octets))
    → MatchOption o (frame_octets_by digits ≡ None) (λ read. OctetsAreRead read (frame_octets_by digits))
octets_answer digits None some short even r = octets_unread digits some short even r
octets_answer digits (Some read) some short even r = octets_read digits read some short even r

-- what was read is written
pub read_there : {E : Type 0} (read : Result (List ℕ) E) (o : Option (List ℕ)) → OctetsAreRead read o → is_some o ≡ true
read_there (Ok octets) o r = ap is_some r
read_there (Err e) o r = r
