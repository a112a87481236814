-- A written line reads back as its event.
use Rattle.std.proofs.Common.{Bool, Some, Ok, true, false, eqb, ltb, leb, ◌≡◌, ℕ, ◌+◌, ◌*◌, ◌-◌, ◌^◌, ◌<◌, ◌≤◌, get_or, List, [], ◌∷◌, ◌++◌, length, ap, ◌∙◌, refl, inl, inr, arith, rules}
use Rattle.std.specs.Prelude.{codes, slice_index}
use Rattle.std.specs.List.{All, AllPass, list_all}
use Rattle.std.specs.Char.{is_ascii_digit}
use Rattle.std.specs.Fmt.{decimal}
use Rattle.std.specs.Str.Parse.{AllDigits, digits_value}
use Rattle.std.proofs.lemmas.Bool.{ne_eqb, cases_lt}
use Rattle.std.proofs.lemmas.Bool.Decides.{nat_tests}
use Rattle.std.proofs.lemmas.Fmt.{decimal_is_IsNumeral, decimal_nonempty, length-decimal-le}
use Rattle.std.proofs.lemmas.List.{append_assoc, get_or_past, length-append, length_push}
use Rattle.std.proofs.lemmas.List.Elements.{All-append, All-get_or, All-from_get_or}
use Rattle.std.proofs.lemmas.Str.Parse.{digit_at}
use Rattle.hex.specs.Hex.{encode_lower, is_hex_digit, IsBytes}
use Rattle.hex.proofs.HexLemmas.{decode_of-encode_lower, decode_of-ok}
use Rattle.list_core.specs.declared.device.InputEnd.{InputEnd}
use Rattle.list_core.specs.declared.event.Event.{Event}
use Rattle.list_core.specs.declared.event.EventKind.{EventKind}
use Rattle.list_core.specs.declared.event.EventKind.TheVariants.{Frame, Clock, Mode}
use Rattle.list_core.specs.Cuts.{HasNo}
use Rattle.list_core.specs.Lines.{reading, without_cr}
use Rattle.list_core.specs.EventLine.{fields, moment_of, decoded, frame_octets_by, clock_event, frame_event, mode_of, mode_event, event_of_fields, event_of, event_rules, meant}
use Rattle.list_core.specs.EventText.{mode_text, kind_text, event_text, IsListableKind, IsListable, HoldsOctets}
use Rattle.list_core.specs.declared.event_lines.MomentUnit.{MomentUnit}
use Rattle.list_core.specs.declared.event_lines.MomentUnit.TheVariants.{Microseconds}
use Rattle.list_core.specs.declared.event_lines.EventLines.TheVariants.{First, After}
use Rattle.list_core.specs.Items.{put_item, put_said, items_in, listing}
use Rattle.list_core.proofs.Cuts.{cut-part, cut-rest}
use Rattle.list_core.proofs.Lines.{reading-line}
use Rattle.list_core.proofs.MomentDigits.{digits_test}
use Rattle.list_core.proofs.ItemReaders.{items_in-line}

-- each octet is above a space
abbrev pub IsWord : List ℕ → Type 0
IsWord xs = All (λ x. 32 < x) xs

-- each octet is a space or above it
abbrev IsPrinted : List ℕ → Type 0
IsPrinted xs = All (λ x. 32 ≤ x) xs

pub word-HasNo : (c : ℕ) (xs : List ℕ) → c ≤ 32 → IsWord xs → HasNo c xs
word-HasNo c xs h w k l e = let above : 32 < get_or xs k 0 = All-get_or (λ x. 32 < x) xs k 0 l w in absurd (omega arith)

printed-HasNo : (c : ℕ) (xs : List ℕ) → c < 32 → IsPrinted xs → HasNo c xs
printed-HasNo c xs h w k l e = let above : 32 ≤ get_or xs k 0 = All-get_or (λ x. 32 ≤ x) xs k 0 l w in absurd (omega arith)

word-printed : (xs : List ℕ) → IsWord xs → IsPrinted xs
word-printed xs w = All-from_get_or (λ x. 32 ≤ x) xs 0 (λ k l. let above : 32 < get_or xs k 0 = All-get_or (λ x. 32 < x) xs k 0 l w in omega arith)

-- the digits of a moment
decimal_digits : (n : ℕ) → n < 10 ^ 18 → AllDigits 10 (decimal n)
decimal_digits n h = (decimal_is_IsNumeral n (omega arith)).0.1

decimal_word : (n : ℕ) → n < 10 ^ 18 → IsWord (decimal n)
decimal_word n h = All-from_get_or (λ x. 32 < x) (decimal n) 0 (λ k l. let r = digit_at (decimal n) k (decimal_digits n h) l in omega (arith, r.0))

moment_back : (n : ℕ) → n < 10 ^ 18 → moment_of Microseconds (decimal n) ≡ Some n
moment_back n h =
    let digits : list_all is_ascii_digit (decimal n) ≡ true = digits_test.from (decimal n) (decimal_digits n h) in
    let some : 0 < length (decimal n) = decimal_nonempty n (omega arith) in
    let short : length (decimal n) ≤ 18 = length-decimal-le 18 n (omega arith) h (omega arith) in
    let first : ltb 0 (length (decimal n)) ≡ true = grind (arith, nat_tests) in
    let second : leb (length (decimal n)) 18 ≡ true = grind (arith, nat_tests) in
    let value : digits_value 10 (decimal n) ≡ n = (decimal_is_IsNumeral n (omega arith)).1 in
    let one : n * 1 ≡ n = omega arith in
    rw (first, second, digits, value) (ap (λ k. Some k) one)

-- a hexadecimal digit is above a space
pub hex_above : (c : ℕ) → is_hex_digit c ≡ true → 32 < c
hex_above c h = elim (cases_lt 32 c) [
  | inl above ↦ above
  | inr below ↦
      let upper : leb 65 c ≡ false = grind (arith, nat_tests) in
      let lower : leb 97 c ≡ false = grind (arith, nat_tests) in
      let digit : leb 48 c ≡ false = grind (arith, nat_tests) in
      let none : is_hex_digit c ≡ false = rw (upper, lower, digit) refl in
      cc
]

octets_in_range : (xs : List ℕ) → All (λ x. x < 256) xs → IsBytes xs
octets_in_range xs h i = elim (cases_lt i (length xs)) [
  | inl within ↦ All-get_or (λ x. x < 256) xs i 0 within h
  | inr past ↦ rw (get_or_past xs i 0 past) (omega arith)
]

hex_facts : (xs : List ℕ) → All (λ x. x < 256) xs → AllPass is_hex_digit (encode_lower xs) × (length (encode_lower xs) ≡ 2 * length xs)
hex_facts xs h = let r = decode_of-ok (encode_lower xs) xs (decode_of-encode_lower xs (octets_in_range xs h)) in (r.1, r.2)

hex_word : (xs : List ℕ) → All (λ x. x < 256) xs → IsWord (encode_lower xs)
hex_word xs h = All-from_get_or (λ x. 32 < x) (encode_lower xs) 0 (λ k l. hex_above _ (All-get_or (λ x. is_hex_digit x ≡ true) (encode_lower xs) k 0 l (hex_facts xs h).0))

octets_back : (xs : List ℕ) → All (λ x. x < 256) xs → 0 < length xs → length xs ≤ 2000 → frame_octets_by (encode_lower xs) ≡ Some xs
octets_back xs h a b =
    let size = (hex_facts xs h).1 in
    let first : ltb 0 (length (encode_lower xs)) ≡ true = grind (arith, nat_tests) in
    let second : leb (length (encode_lower xs)) 4000 ≡ true = grind (arith, nat_tests) in
    rw (first, second) (ap decoded (decode_of-encode_lower xs (octets_in_range xs h)))

pub clock_fields : {A : Type 0} (v : MomentUnit) (m : List ℕ) → 0 < length m → event_of_fields {A = A} v ((67 ∷ []) ∷ m ∷ []) ≡ clock_event (moment_of v m)
clock_fields v [] h = absurd (omega arith)
clock_fields v (m ∷ ms) h = refl

pub frame_fields : {A : Type 0} (v : MomentUnit) (m h : List ℕ) → 0 < length m → 0 < length h → event_of_fields {A = A} v ((70 ∷ []) ∷ m ∷ h ∷ []) ≡ frame_event (moment_of v m) (frame_octets_by h)
frame_fields v [] h a b = absurd (omega arith)
frame_fields v (m ∷ ms) [] a b = absurd (omega arith)
frame_fields v (m ∷ ms) (h ∷ hs) a b = refl

clock_back : {A : Type 0} (n : ℕ) → n < 10 ^ 18 → event_of {A = A} Microseconds (codes "C " ++ decimal n) ≡ Ok (Some (record { moment = n; kind = Clock }))
clock_back {A = A} n h =
    ap (λ ps. event_of_fields {A = A} Microseconds ((67 ∷ []) ∷ ps)) (cut-rest 32 (decimal n) (word-HasNo 32 (decimal n) (omega arith) (decimal_word n h)))
    ∙ clock_fields Microseconds (decimal n) (decimal_nonempty n (omega arith)) ∙ ap (clock_event {A = A}) (moment_back n h)

frame_back : {A : Type 0} (n : ℕ) (xs : List ℕ) → n < 10 ^ 18 → All (λ x. x < 256) xs → 0 < length xs → length xs ≤ 2000 →
    event_of {A = A} Microseconds (codes "F " ++ decimal n ++ codes " " ++ encode_lower xs) ≡ Ok (Some (record { moment = n; kind = Frame xs }))
frame_back {A = A} n xs h o a b =
    let m = decimal n in
    let d = encode_lower xs in
    let size = (hex_facts xs o).1 in
    let parts : fields (m ++ (32 ∷ []) ++ d) ≡ m ∷ d ∷ [] =
    ap fields (append_assoc m (32 ∷ []) d) ∙ cut-part 32 m d (word-HasNo 32 m (omega arith) (decimal_word n h))
    ∙ ap (λ ps. m ∷ ps) (cut-rest 32 d (word-HasNo 32 d (omega arith) (hex_word xs o))) in
    ap (λ ps. event_of_fields {A = A} Microseconds ((70 ∷ []) ∷ ps)) parts
    ∙ frame_fields Microseconds m d (decimal_nonempty n (omega arith)) (omega (arith, size))
    ∙ ap (λ o. frame_event {A = A} o (frame_octets_by d)) (moment_back n h) ∙ ap (frame_event {A = A} (Some n)) (octets_back xs o a b)

pub mode_fields : {A : Type 0} (v : MomentUnit) (m h : List ℕ) → 0 < length m → 0 < length h → event_of_fields {A = A} v ((77 ∷ []) ∷ m ∷ h ∷ []) ≡ mode_event (moment_of v m) (mode_of h)
mode_fields v [] h a b = absurd (omega arith)
mode_fields v (m ∷ ms) [] a b = absurd (omega arith)
mode_fields v (m ∷ ms) (h ∷ hs) a b = refl

-- the word for a mode names it
pub mode_facts : (on : Bool) → (mode_of (mode_text on) ≡ Some on) × IsWord (mode_text on) × (length (mode_text on) ≤ 3) × (0 < length (mode_text on))
mode_facts true = (refl, search (rules, arith), omega arith, omega arith)
mode_facts false = (refl, search (rules, arith), omega arith, omega arith)

mode_back : {A : Type 0} (n : ℕ) (on : Bool) → n < 10 ^ 18 →
    event_of {A = A} Microseconds (codes "M " ++ decimal n ++ codes " " ++ mode_text on) ≡ Ok (Some (record { moment = n; kind = Mode on }))
mode_back {A = A} n on h =
    let m = decimal n in
    let word = mode_text on in
    let known = mode_facts on in
    let parts : fields (m ++ (32 ∷ []) ++ word) ≡ m ∷ word ∷ [] =
    ap fields (append_assoc m (32 ∷ []) word) ∙ cut-part 32 m word (word-HasNo 32 m (omega arith) (decimal_word n h))
    ∙ ap (λ ps. m ∷ ps) (cut-rest 32 word (word-HasNo 32 word (omega arith) known.1)) in
    ap (λ ps. event_of_fields {A = A} Microseconds ((77 ∷ []) ∷ ps)) parts
    ∙ mode_fields Microseconds m word (decimal_nonempty n (omega arith)) known.3
    ∙ ap (λ o. mode_event {A = A} o (mode_of word)) (moment_back n h) ∙ ap (mode_event {A = A} (Some n)) known.0

-- a line without CR
same_line : (xs : List ℕ) → HasNo 13 xs → without_cr xs ≡ xs
same_line [] h = refl
same_line (x ∷ xs) h =
    let other : eqb (slice_index (x ∷ xs) (length (x ∷ xs) - 1)) 13 ≡ false = ne_eqb _ 13 (h (length (x ∷ xs) - 1) (omega arith)) in
    let some : ltb 0 (length (x ∷ xs)) ≡ true = grind (arith, nat_tests) in
    rw (some, other) refl

-- a printed line stands first in a list
line-first : {A : Type 0} (z : InputEnd) (n : ℕ) (line rest : List ℕ) (e : Event A) → IsPrinted line → length line ≤ 4096 → n < 1000000 → event_of Microseconds line ≡ Ok (Some e) →
    listing event_rules (After Microseconds) z n (line ++ (10 ∷ []) ++ rest) ≡ put_item (n + 1, e) (listing event_rules (After Microseconds) z (n + 1) rest)
line-first {A = A} z n line rest e p l f said =
    ap (λ t. listing (event_rules {A = A}) (After Microseconds) z n t) (append_assoc line (10 ∷ []) rest)
    ∙ ap (items_in (event_rules {A = A}) (After Microseconds) n) (reading-line z n line rest (printed-HasNo 10 line (omega arith) p) f l)
    ∙ items_in-line (event_rules {A = A}) (After Microseconds) n (without_cr line) (reading z (n + 1) rest)
    ∙ ap (λ said. put_said n (meant Microseconds said) (λ t. listing (event_rules {A = A}) t z (n + 1) rest)) (ap (event_of {A = A} Microseconds) (same_line line (printed-HasNo 13 line (omega arith) p)) ∙ said)

first_of : {A : Type 0} (m : ℕ) (k : EventKind A) → m < 10 ^ 18 → IsListableKind k → HoldsOctets k → (z : InputEnd) (n : ℕ) (rest : List ℕ) → n < 1000000 →
    listing event_rules (After Microseconds) z n (kind_text (decimal m) k ++ rest) ≡ put_item (n + 1, record { moment = m; kind = k }) (listing event_rules (After Microseconds) z (n + 1) rest)
first_of {A = A} m Clock h l o z n rest f =
    let printed : IsPrinted (decimal m) = word-printed (decimal m) (decimal_word m h) in
    let short : length (decimal m) ≤ 18 = length-decimal-le 18 m (omega arith) h (omega arith) in
    line-first z n (codes "C " ++ decimal m) rest (record { moment = m; kind = Clock })
    (All-append (λ x. 32 ≤ x) (codes "C ") (decimal m) (search (rules, arith)) printed) (omega arith) f (clock_back m h)
first_of {A = A} m (Frame xs) h l o z n rest f =
    let printed : IsPrinted (decimal m) = word-printed (decimal m) (decimal_word m h) in
    let digits : IsPrinted (encode_lower xs) = word-printed (encode_lower xs) (hex_word xs o) in
    let short : length (decimal m) ≤ 18 = length-decimal-le 18 m (omega arith) h (omega arith) in
    let size = (hex_facts xs o).1 in
    let total : length (decimal m ++ (32 ∷ []) ++ encode_lower xs) ≡ (length (decimal m) + 1) + length (encode_lower xs) =
    length-append (decimal m ++ 32 ∷ []) (encode_lower xs) ∙ ap (λ k. k + length (encode_lower xs)) (length_push (decimal m) 32) in
    line-first z n (codes "F " ++ decimal m ++ codes " " ++ encode_lower xs) rest (record { moment = m; kind = Frame xs })
    (All-append (λ x. 32 ≤ x) (codes "F " ++ decimal m ++ codes " ") (encode_lower xs)
    (All-append (λ x. 32 ≤ x) (codes "F " ++ decimal m) (codes " ") (All-append (λ x. 32 ≤ x) (codes "F ") (decimal m) (search (rules, arith)) printed) (search (rules, arith))) digits)
    (omega (arith, total, l.1)) f (frame_back m xs h o l.0 l.1)
first_of {A = A} m (Mode on) h l o z n rest f =
    let printed : IsPrinted (decimal m) = word-printed (decimal m) (decimal_word m h) in
    let short : length (decimal m) ≤ 18 = length-decimal-le 18 m (omega arith) h (omega arith) in
    let word = mode_facts on in
    let total : length (decimal m ++ (32 ∷ []) ++ mode_text on) ≡ (length (decimal m) + 1) + length (mode_text on) =
    length-append (decimal m ++ 32 ∷ []) (mode_text on) ∙ ap (λ k. k + length (mode_text on)) (length_push (decimal m) 32) in
    line-first z n (codes "M " ++ decimal m ++ codes " " ++ mode_text on) rest (record { moment = m; kind = Mode on })
    (All-append (λ x. 32 ≤ x) (codes "M " ++ decimal m ++ codes " ") (mode_text on)
    (All-append (λ x. 32 ≤ x) (codes "M " ++ decimal m) (codes " ") (All-append (λ x. 32 ≤ x) (codes "M ") (decimal m) (search (rules, arith)) printed) (search (rules, arith))) (word-printed (mode_text on) word.1))
    (omega (arith, total, word.2)) f (mode_back m on h)

-- what is written of an event stands first in a list as that event
pub written-first : {A : Type 0} (e : Event A) → IsListable e → HoldsOctets e.kind → (z : InputEnd) (n : ℕ) (rest : List ℕ) → n < 1000000 →
    listing event_rules (After Microseconds) z n (event_text e ++ rest) ≡ put_item (n + 1, e) (listing event_rules (After Microseconds) z (n + 1) rest)
written-first e h o z n rest f = first_of e.moment e.kind h.0 h.1 o z n rest f

-- the line `V2` settles that moments count microseconds
pub version-first : (A : Type 0) (z : InputEnd) (rest : List ℕ) → listing (event_rules {A = A}) First z 0 (codes "V2\n" ++ rest) ≡ listing event_rules (After Microseconds) z 1 rest
version-first A z rest =
    ap (items_in (event_rules {A = A}) First 0) (reading-line z 0 (codes "V2") rest (printed-HasNo 10 (codes "V2") (omega arith) (search (rules, arith))) (omega arith) (omega arith))
    ∙ items_in-line (event_rules {A = A}) First 0 (codes "V2") (reading z 1 rest)
