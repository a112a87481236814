-- The fields that the lines of a script set up have the sizes that the types of the code give them, and those written in digits of hexadecimal are octets.
use Rattle.std.proofs.Common.{◌≡◌, ℕ, zero, suc, ◌+◌, ◌*◌, ◌^◌, ◌<◌, ◌≤◌, Bool, true, ◌&&◌, Option, Some, None, List, [], ◌∷◌, length, Result, Ok, Err, refl, arith, inl, inr, ◌++◌, map, false, ap, ap₂, subst, sym, ◌∙◌, append_assoc, take, slice_get, option_map}
use Rattle.std.specs.Prelude.{◌==◌, ◌-◌, ◌%◌, ◌/◌, nat_le, option_and_then, IfSome, ◌⊎◌, nat_lt, codes, IfOk}
use Rattle.std.proofs.lemmas.Bool.{and_parts, cond_both, eqb-true, leb-true, and_from, eqb-false, ltb-true}
use Rattle.ber_core.specs.Length.{AreOctets}
use Rattle.hex.specs.Hex.{decode_pairs, digit_or_error, hex_digit_value, ◌>>=◌}
use Rattle.hex.specs.declared.error.FromHexError.{FromHexError}
use Rattle.list_core.specs.EventLine.{decoded, is_version, moment_of, is_moment, microseconds_in, most_digits}
use Rattle.frame_core.specs.Written.{TagIsHeld}
use Rattle.frame_core.specs.declared.vlan_tag.VlanTag.{VlanTag}
use Rattle.publish_core.specs.declared.control.Control.{Control}
use Rattle.publish_core.specs.declared.table.Step.{Step}
use Rattle.publish_core.specs.Frames.{Setup, change, setup, Change}
use Rattle.publish_core.specs.Table.{step_at, AreSteps}
use Rattle.joint_laws.specs.Stems.{HasSizes}
use Rattle.script_core.specs.declared.script_control.ControlEnd.{ControlEnd}
use Rattle.block_core.specs.Commas.{at_most_32_bits, number_by, octets_in, text_in, word_in, comma_fields}
use Rattle.script_core.specs.computed.ControlLine.{ControlLine, block_of_line, control_of, control_with, numbers_with, control_said}
use Rattle.script_core.specs.ScriptFields.{all_octets_in, flag_in, tag_in, time_in}
use Rattle.script_core.specs.computed.StepLine.{step_said_by, step_with, step_said}
use Rattle.list_core.specs.Decimal.{decimal_of}
use Rattle.joint_laws.proofs.text_lemmas.WrittenOctets.{cons_octets, no_octets, read_octets}
use Rattle.std.specs.List.{list_all}
use Rattle.std.specs.Str.{bytes_eq}
use Rattle.std.proofs.lemmas.List.{append-nil, length_push, map-append, length-append, length-map}
use Rattle.ber_core.specs.declared.fault.Fault.{Fault}
use Rattle.mms_data.specs.Data.{Data}
use Rattle.mms_data.specs.computed.Reading.{members_at}
use Rattle.mms_data.specs.declared.time.UtcTime.{UtcTime}
use Rattle.list_core.specs.declared.device.InputEnd.{InputEnd}
use Rattle.list_core.specs.declared.event_lines.MomentUnit.{MomentUnit}
use Rattle.list_core.specs.declared.event_lines.MomentUnit.TheVariants.{Milliseconds, Microseconds}
use Rattle.list_core.specs.declared.list_fault.ListFault.{ListFault}
use Rattle.list_core.specs.declared.line_rules.ItemFault.{ItemFault}
use Rattle.list_core.specs.declared.line_rules.ItemFault.TheVariants as fault
use Rattle.list_core.specs.Items.{Listing, close, items_said, put_said, stops}
use Rattle.list_core.specs.Lines.{Stop, faulty, reading, LineListing, fault_at, line_judged, pieces, put_line, reading_at_end, reading_of_pieces, reading_of_rest, without_cr}
use Rattle.publish_core.specs.Run.{Request, Call, Changed, Polled, call, trace_of_calls}
use Rattle.script_core.specs.declared.script.ScriptCause.{ScriptCause}
use Rattle.script_core.specs.declared.script.ScriptItem.{ScriptItem}
use Rattle.script_core.specs.declared.script.ScriptItem.TheVariants as item
use Rattle.script_core.specs.declared.script.ScriptLines.{ScriptLines}
use Rattle.script_core.specs.declared.script.ScriptLines.TheVariants.{First, After}
use Rattle.script_core.specs.declared.script.ScriptPart.{ScriptPart}
use Rattle.script_core.specs.declared.script.ScriptPart.TheVariants as part
use Rattle.script_core.specs.Script.{script_rules}
use Rattle.script_core.specs.computed.LineReading.{all_said, line_said, script_said, settled}
use Rattle.script_core.specs.computed.CallLine.{call_said, change_said_by, change_said, change_to, poll_of, poll_said, too_early}
use Rattle.exchange_engines.specs.computed.PublishStep.{is_good, with_step}
use Rattle.exchange_engines.specs.PublishText.{IsScriptSound, item_of_request, item_of_call, items_of_lines, script_of, IsRefused, IsAnswered}
use Rattle.exchange_engines.specs.ScriptLaws.{ScriptsAreInOrder, StandsBefore, StandsBeforeCall}
use Rattle.exchange_engines.proofs.PublishLemmas.{good_each}
use Rattle.joint_laws.specs.PublishedReplay.{script_of_text, SaysRun, StopsBehind}
use Rattle.std.specs.Char.{is_ascii_digit}
use Rattle.std.specs.Str.Parse.{digits_value}
use Rattle.std.proofs.lemmas.Str.Parse.{digits_value_short}
use Rattle.mms_data.specs.Written.{written_all}
use Rattle.list_core.proofs.MomentDigits.{digits_test}
use Rattle.std.proofs.lemmas.Bool.Decides.{nat_tests}
use Rattle.list_core.specs.declared.device.InputEnd.TheVariants.{End}
use Rattle.list_core.specs.declared.list_fault.ListCause.TheVariants.{LineTooLong, ListTooLong}
use Rattle.joint_laws.specs.ListText.{MomentsAreShort}
use Rattle.publish_core.specs.declared.fault.PublishFault.{PublishFault}
use Rattle.publish_core.specs.Refusal.{Accepts, next_state}
use Rattle.publish_core.specs.computed.Judgement.{IsJudged}
use Rattle.publish_core.proofs.Judged.{changes_are_judged}
use Rattle.joint_laws.specs.PublishedLaws.{SaysSomeRun, ScriptsSayRuns}

-- ---- hexadecimal digits

abbrev IsDigit : Option ℕ → Type 0
IsDigit o = IfSome o (λ v. v < 16)

digit_low : (c : ℕ) → IsDigit (hex_digit_value c)
digit_low c =
    cond_both (nat_le 65 c && nat_le c 70) _ _ IsDigit (λ e. within 65 70 55 e (λ low high. omega (arith, low, high)))
    (λ e. cond_both (nat_le 97 c && nat_le c 102) _ _ IsDigit (λ e. within 97 102 87 e (λ low high. omega (arith, low, high)))
    (λ e. cond_both (nat_le 48 c && nat_le c 57) _ _ IsDigit (λ e. within 48 57 48 e (λ low high. omega (arith, low, high))) (λ e. tt)))
  where
    within : (a b d : ℕ) → (nat_le a c && nat_le c b) ≡ true → (a ≤ c → c ≤ b → c - d < 16) → c - d < 16
    within a b d e f = let p = and_parts (nat_le a c) (nat_le c b) e in f (leb-true a c p.0) (leb-true c b p.1)

-- octets, by two digits each
abbrev ArePairs : Result (List ℕ) FromHexError → ℕ → Type 0
ArePairs (Ok octets) digits = (2 * length octets ≡ digits) × AreOctets octets
ArePairs (Err e) digits = Unit {0}

pair_octets : (h l i : ℕ) (a b : Option ℕ) (r : Result (List ℕ) FromHexError) (n : ℕ) → IsDigit a → IsDigit b → ArePairs r n →
    ArePairs ((digit_or_error h i a >>= λ x. digit_or_error l (i + 1) b >>= λ y. Ok (x * 16 + y)) >>= λ octet. r >>= λ octets. Ok (octet ∷ octets)) (suc (suc n))
pair_octets h l i (Some x) (Some y) (Ok octets) n p q w = (let same = w.0 in omega (arith, same), cons_octets (x * 16 + y) octets (omega (arith, p, q)) w.1)
pair_octets _ _ _ _ _ _ _ _ _ _ = tt

pairs_octets : (i : ℕ) (digits : List ℕ) → ArePairs (decode_pairs i digits) (length digits)
unfolding decode_pairs
pairs_octets i [] = (refl, no_octets)
pairs_octets i (d ∷ []) = tt
pairs_octets i (h ∷ l ∷ rest) = pair_octets h l i (hex_digit_value h) (hex_digit_value l) (decode_pairs (i + 2) rest) (length rest) (digit_low h) (digit_low l) (pairs_octets (i + 2) rest)

-- so many octets
abbrev Sized : ℕ → Option (List ℕ) → Type 0
Sized n None = Unit {0}
Sized n (Some octets) = (length octets ≡ n) × AreOctets octets

octets_sized : (n : ℕ) (digits : List ℕ) → Sized n (octets_in n digits)
octets_sized n digits =
    cond_both (length digits % 2 == 1) _ _ (λ (r : Result (List ℕ) FromHexError). Sized n (decoded r)) (λ odd. tt)
    (λ even. cond_both (length digits / 2 == n) _ _ (λ (r : Result (List ℕ) FromHexError). Sized n (decoded r)) (λ half. by_pairs (decode_pairs 0 digits) (pairs_octets 0 digits) (eqb-true (length digits / 2) n half)) (λ other. tt))
  where
    by_pairs : (r : Result (List ℕ) FromHexError) → ArePairs r (length digits) → length digits / 2 ≡ n → Sized n (decoded r)
    by_pairs (Ok octets) w half = (let twice = w.0 in omega (arith, twice, half), w.1)
    by_pairs (Err e) w half = tt

pub all_are_octets : (digits : List ℕ) → IfSome (all_octets_in digits) AreOctets
all_are_octets digits = cond_both (length digits % 2 == 1) _ _ (λ (r : Result (List ℕ) FromHexError). IfSome (decoded r) AreOctets) (λ odd. tt) (λ even. by_pairs (decode_pairs 0 digits) (pairs_octets 0 digits))
  where
    by_pairs : (r : Result (List ℕ) FromHexError) → ArePairs r (length digits) → IfSome (decoded r) AreOctets
    by_pairs (Ok octets) w = w.1
    by_pairs (Err e) w = tt

-- ---- fields

abbrev IsWord : Option ℕ → Type 0
IsWord o = IfSome o (λ n. n < 65536)

word_by : (number : List ℕ → ℕ) → ((x y : ℕ) → x < 256 → y < 256 → number (x ∷ y ∷ []) < 65536) → (o : Option (List ℕ)) → Sized 2 o → IsWord (option_map number o)
word_by number low None w = tt
word_by number low (Some []) w = absurd (let none = w.0 in omega (arith, none))
word_by number low (Some (x ∷ [])) w = absurd (let one = w.0 in omega (arith, one))
word_by number low (Some (x ∷ y ∷ [])) w = low x y (w.1 0) (w.1 1)
word_by number low (Some (x ∷ y ∷ z ∷ rest)) w = absurd (let more = w.0 in omega (arith, more))

word_low : (digits : List ℕ) → IsWord (word_in digits)
word_low digits = word_by _ (λ x y a b. omega (arith, a, b)) (octets_in 2 digits) (octets_sized 2 digits)

abbrev HasTag : Option (Option VlanTag) → Type 0
HasTag o = IfSome o TagIsHeld

tag_low : (digits : List ℕ) → HasTag (tag_in digits)
tag_low [] = tt
tag_low (d ∷ ds) = (elim (word_in (d ∷ ds)) as (λ (o : Option ℕ). IsWord o → HasTag (option_map (λ (n : ℕ). Some (record { control = n })) o)) [ None ↦ λ w. tt | Some n ↦ λ w. w ]) (word_low (d ∷ ds))

-- ---- the control line

-- a number of at most 32 bits, where there is one
abbrev Below : Option ℕ → Type 0
Below o = IfSome o (λ n. n ≤ 4294967295)

below : (o : Option ℕ) → Below (option_and_then at_most_32_bits o)
below None = tt
below (Some n) = cond_both (nat_le n 4294967295) (Some n) None Below (λ le. leb-true n 4294967295 le) (λ gt. tt)

abbrev HaveSizes : Option ControlEnd → Type 0
HaveSizes o = IfSome o (λ n. (n.conf_rev ≤ 4294967295) × (n.entries ≤ 4294967295) × (n.first ≤ 4294967295))

numbers_low : (a b : Option ℕ) (c d : Option Bool) (f : Option ℕ) → Below a → Below b → Below f → HaveSizes (numbers_with a b c d f)
numbers_low (Some a) (Some b) (Some c) (Some d) (Some f) p q r = (p, q, r)
numbers_low _ _ _ _ _ _ _ _ = tt

pub record ControlIsHeld {A : Type 0} (control : Control A) : Type 0 where
  pub to : length control.destination ≡ 6
  pub from : length control.source ≡ 6
  pub to_octets : AreOctets control.destination
  pub from_octets : AreOctets control.source
  pub tag : TagIsHeld control.tag
  pub app_id : control.app_id < 65536
  pub conf_rev : control.conf_rev < 2 ^ 32
  pub entries : control.entries < 2 ^ 32

-- the control block of a line, and the first status number
abbrev pub SaysSizes : Type 0 → Option ControlLine → Type 0
SaysSizes A o = IfSome o (λ l. ControlIsHeld {A = A} (block_of_line l) × (l.numbers.first ≤ 4294967295))

line_sizes : (A : Type 0) (a b : Option (List ℕ)) (c : Option (Option VlanTag)) (d : Option ℕ) (f g h : Option (List ℕ)) (n : Option ControlEnd) →
    Sized 6 a → Sized 6 b → HasTag c → IsWord d → HaveSizes n → SaysSizes A (control_with a b c d f g h n)
line_sizes A (Some a) (Some b) (Some c) (Some d) (Some f) (Some g) (Some h) (Some n) p q r s k =
    (record { to = p.0; from = q.0; to_octets = p.1; from_octets = q.1; tag = r; app_id = s; conf_rev = omega (arith, k.0); entries = omega (arith, k.1) }, k.2)
line_sizes _ _ _ _ _ _ _ _ _ _ _ _ _ _ = tt

pub control_sizes : (A : Type 0) (fields : List (List ℕ)) → SaysSizes A (control_of fields)
control_sizes A (a ∷ b ∷ c ∷ d ∷ f ∷ g ∷ h ∷ i ∷ j ∷ k ∷ l ∷ m ∷ []) =
    line_sizes A (octets_in 6 a) (octets_in 6 b) (tag_in c) (word_in d) (text_in f) (text_in g) (text_in h)
    (numbers_with (number_by i) (number_by j) (flag_in k) (flag_in l) (number_by m))
    (octets_sized 6 a) (octets_sized 6 b) (tag_low c) (word_low d)
    (numbers_low (number_by i) (number_by j) (flag_in k) (flag_in l) (number_by m) (below (decimal_of 10 i)) (below (decimal_of 10 j)) (below (decimal_of 10 m)))
control_sizes _ _ = tt

-- ---- the steps

abbrev pub LivesBelow : Option Step → Type 0
LivesBelow o = IfSome o (λ s. s.live_ms ≤ 4294967295)

step_low : (a b : Option ℕ) → Below b → LivesBelow (step_with a b)
step_low (Some a) (Some b) p = p
step_low _ _ _ = tt

pub steps_low : (fields : List (List ℕ)) → LivesBelow (step_said_by fields)
steps_low (a ∷ b ∷ []) = step_low (number_by a) (number_by b) (below (decimal_of 10 b))
steps_low _ = tt

-- ---- a setup

abbrev pub LiveBelow : List Step → Type 0
LiveBelow [] = Unit {0}
LiveBelow (s ∷ steps) = (s.live_ms ≤ 4294967295) × LiveBelow steps

step_lives : (steps : List Step) → LiveBelow steps → (i : ℕ) → (step_at steps i).live_ms < 2 ^ 32
step_lives [] w i = omega arith
step_lives (s ∷ steps) w zero = let low = w.0 in omega (arith, low)
step_lives (s ∷ steps) w (suc i) = step_lives steps w.1 i

pub setup_held : {A : Type 0} (p : Setup A) → ControlIsHeld p.control → LiveBelow p.table → HasSizes p
setup_held p c w = record { to = c.to; from = c.from; tag = c.tag; app_id = c.app_id; conf_rev = c.conf_rev; entries = c.entries; lives = step_lives p.table w }

-- ---- before each item of a script stands what must, and it keeps the limits that its line has: moments of at most 18 digits, fields of their sizes, values that are written as octets

pub call-push : {A : Type 0} (p : Setup A) (calls : List Call) (c : Call) → script_of p calls ++ item_of_call c ∷ [] ≡ script_of p (calls ++ c ∷ [])
call-push p calls c =
    ap (λ (l : List (ScriptItem _)). item.Control p.control p.first ∷ l)
    (append_assoc (map item.Step p.table) (map item_of_call calls) (item_of_call c ∷ []) ∙ ap (λ (l : List (ScriptItem _)). map item.Step p.table ++ l) (sym (map-append item_of_call calls (c ∷ []))))

pub step-push : {A : Type 0} (p : Setup A) (s : Step) → script_of p [] ++ item.Step s ∷ [] ≡ script_of (with_step p s) []
step-push p s =
    ap (λ (l : List (ScriptItem _)). item.Control p.control p.first ∷ l)
    (ap (λ (l : List (ScriptItem _)). l ++ item.Step s ∷ []) (append-nil (map item.Step p.table)) ∙ sym (map-append item.Step p.table (s ∷ [])) ∙ sym (append-nil (map item.Step (p.table ++ s ∷ []))))

good-push : (steps : List Step) (s : Step) → list_all is_good steps ≡ true → is_good s ≡ true → list_all is_good (steps ++ s ∷ []) ≡ true
good-push [] s e g = and_from (is_good s) true g refl
good-push (x ∷ steps) s e g = let a = and_parts (is_good x) (list_all is_good steps) e in and_from (is_good x) _ a.0 (good-push steps s a.1 g)

-- ---- moments

all_true : (a b c : Bool) → (a && b && c) ≡ true → (a ≡ true) × (b ≡ true) × (c ≡ true)
all_true true true true h = (refl, refl, refl)
all_true _ _ _ h = cc

value_short : (unit : MomentUnit) (digits : List ℕ) → length digits ≤ most_digits unit → list_all is_ascii_digit digits ≡ true → digits_value 10 digits * microseconds_in unit < 10 ^ 18
value_short Milliseconds digits le all = let few : digits_value 10 digits < 10 ^ 15 = digits_value_short digits_test digits 15 all le in omega arith
value_short Microseconds digits le all = let few : digits_value 10 digits < 10 ^ 18 = digits_value_short digits_test digits 18 all le in omega arith

abbrev IsShort : Option ℕ → Type 0
IsShort o = IfSome o (λ m. m < 10 ^ 18)

-- a moment that a field writes has at most 18 digits in microseconds
moment_short : (unit : MomentUnit) (digits : List ℕ) → IsShort (moment_of unit digits)
moment_short unit digits =
    cond_both (is_moment unit digits) (Some (digits_value 10 digits * microseconds_in unit)) None IsShort (λ good.
    let w = all_true (nat_lt 0 (length digits)) (nat_le (length digits) (most_digits unit)) (list_all is_ascii_digit digits) good in
    value_short unit digits (leb-true (length digits) (most_digits unit) w.1) w.2) (λ bad. tt)

-- the moment of a change or a poll has at most 18 digits, what is set up has its sizes, and values are written as octets
abbrev pub KeepsLimits : {A : Type 0} → ScriptItem A → Type 0
KeepsLimits (item.Control control first) = ControlIsHeld control
KeepsLimits (item.Step s) = s.live_ms ≤ 4294967295
KeepsLimits (item.Change moment t values) = (moment < 10 ^ 18) × AreOctets (written_all values)
KeepsLimits (item.Poll moment) = moment < 10 ^ 18

-- ---- what is settled, behind these items

-- a setup whose steps are good, as many as this
record HasSteps {A : Type 0} (before : List (ScriptItem A)) (n : ℕ) : Type 0 where
  pub p : Setup A
  pub items : before ≡ script_of p []
  pub count : length p.table ≡ n
  pub room : n ≤ 16
  pub good : list_all is_good p.table ≡ true
  pub some : 0 < p.first
  pub most : p.first ≤ 4294967295

abbrev Settles : {A : Type 0} → ScriptPart → List (ScriptItem A) → Type 0
Settles part.Control before = before ≡ []
Settles (part.Steps n) before = HasSteps before n
Settles part.Calls before = StandsBeforeCall before

-- what a line gives stands behind these items, keeps the limits, and settles what it should
abbrev Goes : {A : Type 0} → List (ScriptItem A) → Result (Option (ScriptItem A) × ScriptPart) ScriptCause → Type 0
Goes before (Ok (None, q)) = Settles q before
Goes before (Ok (Some i, q)) = StandsBefore before i × KeepsLimits i × Settles q (before ++ i ∷ [])
Goes before (Err why) = Unit {0}

module _ {A : Type 0} (before : List (ScriptItem A)) where
  -- ---- the control line

  good_control : (q : ScriptPart) (o : Option ControlLine) → Settles q before → SaysSizes A o → Goes before (control_said q o)
  good_control part.Control (Some l) h k =
      cond_both (l.numbers.first == 0) _ _ (Goes before) (λ none. tt) (λ some. (
        h,
        k.0,
        record {
          p = setup (block_of_line l) [] l.numbers.first;
          items = ap (λ (b : List (ScriptItem A)). b ++ item.Control (block_of_line l) l.numbers.first ∷ []) h;
          count = refl;
          room = omega arith;
          good = refl;
          some = not_zero l.numbers.first some;
          most = k.1;
        },
      ))
    where
      not_zero : (n : ℕ) → (n == 0) ≡ false → 0 < n
      not_zero n e = let no : ¬ (n ≡ 0) = eqb-false n 0 e in omega (arith, no)
  good_control _ _ _ _ = tt

  -- ---- the steps

  good_step : (q : ScriptPart) (o : Option Step) → Settles q before → LivesBelow o → Goes before (step_said q o)
  good_step (part.Steps n) (Some s) h k =
      cond_both (is_good s) _ _ (Goes before) (λ good. cond_both (nat_lt n 16) _ _ (Goes before) (λ room. (
        record { setup = h.p; is_script = h.items; has_room = subst (λ (k : ℕ). k < 16) (sym h.count) (ltb-true n 16 room) },
        k,
        record {
          p = with_step h.p s;
          items = ap (λ (b : List (ScriptItem A)). b ++ item.Step s ∷ []) h.items ∙ step-push h.p s;
          count = length_push h.p.table s ∙ ap (λ (k : ℕ). k + 1) h.count;
          room = let r : n < 16 = ltb-true n 16 room in omega (arith, r);
          good = good-push h.p.table s h.good good;
          some = h.some;
          most = h.most;
        },
      )) (λ full. tt)) (λ bad. tt)
  good_step _ _ _ _ = tt

  -- ---- changes and polls

  -- a call that keeps the limits is answered, or a fault
  abbrev IsCall : Result (ScriptItem A) ScriptCause → Type 0
  IsCall r = IfOk r (λ i. KeepsLimits i × ((c : Call) × (i ≡ item_of_call c)))

  stands_call : (c : Call) → StandsBeforeCall before → StandsBefore before (item_of_call c)
  stands_call c h = by_request c.moment c.request
    where
      by_request : (m : ℕ) (a : Request) → StandsBefore before (item_of_request m a)
      by_request m (Changed change) = h
      by_request m Polled = h

  good_called : (r : Result (ScriptItem A) ScriptCause) → IsCall r → StandsBeforeCall before → Goes before (call_said None r)
  good_called (Err why) c h = tt
  good_called (Ok i) c h = (
    subst (StandsBefore before) (sym c.1.1) (stands_call c.1.0 h),
    c.0,
    record {
      setup = h.setup;
      calls = h.calls ++ c.1.0 ∷ [];
      is_script = ap (λ (b : List (ScriptItem A)). b ++ i ∷ []) h.is_script ∙ ap (λ (j : ScriptItem A). script_of h.setup h.calls ++ j ∷ []) c.1.1 ∙ call-push h.setup h.calls c.1.0;
      is_sound = h.is_sound;
    },
  )

  has_calls : (n : ℕ) → HasSteps before n → (n == 0) ≡ false → StandsBeforeCall before
  has_calls n h e =
      let no : ¬ (n ≡ 0) = eqb-false n 0 e in
      let count : length h.p.table ≡ n = h.count in
      let room : n ≤ 16 = h.room in record {
        setup = h.p;
        calls = [];
        is_script = h.items;
        is_sound = record { steps = record { some = omega (arith, no, count); most = omega (arith, room, count); good = good_each h.p.table h.good }; some = h.some; most = h.most };
      }

  good_call : (q : ScriptPart) (r : Result (ScriptItem A) ScriptCause) → Settles q before → IsCall r → Goes before (call_said (too_early q) r)
  good_call part.Control r h c = tt
  good_call (part.Steps n) r h c = cond_both (n == 0) _ _ (λ (o : Option ScriptCause). Goes before (call_said o r)) (λ none. tt) (λ some. good_called r c (has_calls n h some))
  good_call part.Calls r h c = good_called r c h

  is_change : (m : Option ℕ) (t : Option UtcTime) (o : Option (List ℕ)) → IsShort m → IfSome o AreOctets → IsCall (change_said_by m t o)
  is_change (Some m) (Some t) (Some o) s w = by_values (members_at 16 0 o) (read_octets 16 0 o w)
    where
      by_values : (r : Result (List Data) Fault) → IfOk r (λ values. AreOctets (written_all values)) → IsCall (change_to m t r)
      by_values (Ok values) written = ((s, written), (call m (Changed (change t values)), refl))
      by_values (Err f) written = tt
  is_change _ _ _ _ _ = tt

  is_poll : (m : Option ℕ) → IsShort m → IsCall (poll_of m)
  is_poll None s = tt
  is_poll (Some m) s = (s, (call m Polled, refl))

  good_change : (unit : MomentUnit) (q : ScriptPart) (fields : List (List ℕ)) → Settles q before → Goes before (change_said unit q fields)
  good_change unit q (m ∷ t ∷ o ∷ []) h = good_call q (change_said_by (moment_of unit m) (time_in t) (all_octets_in o)) h (is_change (moment_of unit m) (time_in t) (all_octets_in o) (moment_short unit m) (all_are_octets o))
  good_change _ _ _ _ = tt

  good_poll : (unit : MomentUnit) (q : ScriptPart) (fields : List (List ℕ)) → Settles q before → Goes before (poll_said unit q fields)
  good_poll unit q (m ∷ []) h = good_call q (poll_of (moment_of unit m)) h (is_poll (moment_of unit m) (moment_short unit m))
  good_poll _ _ _ _ = tt

  -- ---- lines

  good_all : (unit : MomentUnit) (q : ScriptPart) (fields : List (List ℕ)) → Settles q before → Goes before (all_said unit q fields)
  good_all unit q [] h = tt
  good_all unit q (name ∷ fields) h =
      cond_both (bytes_eq name (codes "control")) _ _ (Goes before) (λ e. good_control q (control_of fields) h (control_sizes A fields))
      (λ e. cond_both (bytes_eq name (codes "step")) _ _ (Goes before) (λ e. good_step q (step_said_by fields) h (steps_low fields))
      (λ e. cond_both (bytes_eq name (codes "change")) _ _ (Goes before) (λ e. good_change unit q fields h)
      (λ e. cond_both (bytes_eq name (codes "poll")) _ _ (Goes before) (λ e. good_poll unit q fields h) (λ e. tt))))

  good_line : (unit : MomentUnit) (q : ScriptPart) (text : List ℕ) → Settles q before → Goes before (line_said unit q text)
  good_line unit q [] h = h
  good_line unit q (x ∷ xs) h = cond_both (x == 35) _ _ (Goes before) (λ e. h) (λ e. good_all unit q (comma_fields (x ∷ xs)) h)

  -- the same where the first line can settle the unit

  abbrev SettlesAll : ScriptLines → List (ScriptItem A) → Type 0
  SettlesAll First items = items ≡ []
  SettlesAll (After unit q) items = Settles q items

  abbrev GoesOn : Result (Option (ScriptItem A) × ScriptLines) ScriptCause → Type 0
  GoesOn (Ok (None, s)) = SettlesAll s before
  GoesOn (Ok (Some i, s)) = StandsBefore before i × KeepsLimits i × SettlesAll s (before ++ i ∷ [])
  GoesOn (Err why) = Unit {0}

  goes_on : (unit : MomentUnit) (r : Result (Option (ScriptItem A) × ScriptPart) ScriptCause) → Goes before r → GoesOn (settled unit r)
  goes_on unit (Ok (None, q)) g = g
  goes_on unit (Ok (Some i, q)) g = g
  goes_on unit (Err why) g = tt

  good_said : (s : ScriptLines) (text : List ℕ) → SettlesAll s before → GoesOn (script_said s text)
  good_said First text h =
      cond_both (is_version text) _ _ GoesOn (λ e. h) (λ e. goes_on Milliseconds (line_said Milliseconds part.Control text) (good_line Milliseconds part.Control text h))
  good_said (After unit q) text h = goes_on unit (line_said unit q text) (good_line unit q text h)

-- ---- whole scripts

none_left : {X : Type 0} (xs more : List X) (e : X) → [] ≡ xs ++ e ∷ more → ⊥
none_left [] more e is = absurd (cc)
none_left (x ∷ xs) more e is = absurd (cc)

same_head : {X : Type 0} (x y : X) (xs ys : List X) → x ∷ xs ≡ y ∷ ys → x ≡ y
same_head x y xs ys is = cc

same_tail : {X : Type 0} (x y : X) (xs ys : List X) → x ∷ xs ≡ y ∷ ys → xs ≡ ys
same_tail x y xs ys is = cc

-- each item of a listing stands where it may, behind these, and keeps the limits, and all of them leave something settled
abbrev pub AllKeep : {A : Type 0} → List (ScriptItem A) → Type 0
AllKeep [] = Unit {0}
AllKeep (i ∷ items) = KeepsLimits i × AllKeep items

record IsGood {A : Type 0} (before : List (ScriptItem A)) (l : Listing (ScriptItem A) ScriptCause) : Type 0 where
  stand : (xs more : List (ℕ × ScriptItem A)) (e : ℕ × ScriptItem A) → l.items ≡ xs ++ e ∷ more → StandsBefore (before ++ items_of_lines xs) e.1
  keep : AllKeep (items_of_lines l.items)
  state : ScriptLines
  settled_so : SettlesAll before state (before ++ items_of_lines l.items)

nothing_more : {A : Type 0} (before : List (ScriptItem A)) (s : ScriptLines) (stop : Stop (ItemFault ScriptCause)) → SettlesAll before s before → IsGood before (stops stop)
nothing_more before s stop h = record { stand = λ xs more e is. absurd (none_left xs more e is); keep = tt; state = s; settled_so = subst (λ (b : List (ScriptItem _)). SettlesAll before s b) (sym (append-nil before)) h }

put_good : {A : Type 0} (before : List (ScriptItem A)) (s : ScriptLines) (n : ℕ) (r : Result (Option (ScriptItem A) × ScriptLines) ScriptCause) (rest : ScriptLines → Listing (ScriptItem A) ScriptCause) →
    SettlesAll before s before → ((t : ScriptLines) (items : List (ScriptItem A)) → SettlesAll before t items → IsGood items (rest t)) → GoesOn before r → IsGood before (put_said n r rest)
put_good before s n (Ok (None, t)) rest h go g = go t before g
put_good {A} before s n (Ok (Some i, t)) rest h go g =
    let w = go t (before ++ i ∷ []) g.2 in record {
      stand = stands;
      keep = (g.1, w.keep);
      state = w.state;
      settled_so = subst (λ (b : List (ScriptItem A)). SettlesAll before w.state b) (append_assoc before (i ∷ []) (items_of_lines (rest t).items)) w.settled_so;
    }
  where
    stands : (xs more : List (ℕ × ScriptItem A)) (e : ℕ × ScriptItem A) → (n + 1, i) ∷ (rest t).items ≡ xs ++ e ∷ more → StandsBefore (before ++ items_of_lines xs) e.1
    stands [] more e is =
        let same : i ≡ e.1 = ap (λ (x : ℕ × ScriptItem A). x.1) (same_head (n + 1, i) e (rest t).items more is) in
        subst (λ (b : List (ScriptItem A)). StandsBefore b e.1) (sym (append-nil before)) (subst (StandsBefore before) same g.0)
    stands (x ∷ xs) more e is =
        let same : i ≡ x.1 = ap (λ (y : ℕ × ScriptItem A). y.1) (same_head (n + 1, i) x (rest t).items (xs ++ e ∷ more) is) in
        let later = (go t (before ++ i ∷ []) g.2).stand xs more e (same_tail (n + 1, i) x (rest t).items (xs ++ e ∷ more) is) in
        subst (λ (b : List (ScriptItem A)). StandsBefore b e.1) (append_assoc before (i ∷ []) (items_of_lines xs) ∙ ap (λ (j : ScriptItem A). before ++ j ∷ items_of_lines xs) same) later
put_good before s n (Err why) rest h go g = nothing_more before s (faulty (fault.Line (n + 1) why)) h

lines_good : {A : Type 0} (s : ScriptLines) (before : List (ScriptItem A)) (n : ℕ) (lines : List (List ℕ)) (stop : Stop ListFault) → SettlesAll before s before → IsGood before (items_said script_rules s n lines stop)
unfolding items_said
lines_good {A} s before n [] stop h = nothing_more before s (close (script_rules {A = A}) s n stop) h
lines_good s before n (l ∷ lines) stop h =
    put_good before s n (script_said s l) (λ t. items_said script_rules t (n + 1) lines stop) h (λ t items g. lines_good t items (n + 1) lines stop g) (good_said before s l h)

script_good : {A : Type 0} (z : InputEnd) (text : List ℕ) → IsGood [] (script_of_text {A = A} z text)
script_good z text = lines_good First [] 0 (reading z 0 text).lines (reading z 0 text).stop refl

pub scripts_in_order : {A : Type 0} → ScriptsAreInOrder A
scripts_in_order z text = (script_good z text).stand

pub script_keeps : (A : Type 0) (z : InputEnd) (text : List ℕ) → AllKeep (items_of_lines (script_of_text {A = A} z text).items)
script_keeps A z text = (script_good z text).keep

-- a publisher that a script sets up: its steps are no more than a table has, and where it is called it can be set up
pub record IsSetUp {A : Type 0} (p : Setup A) (calls : List Call) : Type 0 where
  pub few : length p.table ≤ 16
  pub sound : (calls ≡ []) ⊎ IsScriptSound p

-- the items of a script are none, or the script of a publisher and its calls
abbrev pub AreOfScript : {A : Type 0} → List (ScriptItem A) → Type 0
AreOfScript {A} items = (items ≡ []) ⊎ ((p : Setup A) × (calls : List Call) × (items ≡ script_of p calls) × IsSetUp p calls)

settled_items : {A : Type 0} (items : List (ScriptItem A)) (s : ScriptLines) → SettlesAll items s items → AreOfScript items
settled_items items (After unit (part.Steps n)) h = inr (h.p, [], h.items, record { few = subst (λ (k : ℕ). k ≤ 16) (sym h.count) h.room; sound = inl refl })
settled_items items (After unit part.Calls) h = inr (h.setup, h.calls, h.is_script, record { few = h.is_sound.steps.most; sound = inr h.is_sound })
settled_items _ _ h = inl h

pub script_items : {A : Type 0} (z : InputEnd) (text : List ℕ) → AreOfScript (items_of_lines (script_of_text {A = A} z text).items)
script_items {A} z text = let w = script_good {A = A} z text in settled_items (items_of_lines (script_of_text {A = A} z text).items) w.state w.settled_so

not_step : (A : Type 0) (m : ℕ) (a : Request) (s : Step) → item_of_request {A = A} m a ≡ item.Step s → ⊥
not_step A m (Changed change) s e = absurd cc
not_step A m Polled s e = absurd cc

-- the steps of a script are one table
same_table : (A : Type 0) (steps others : List Step) (calls more : List Call) → map item.Step steps ++ map (item_of_call {A = A}) calls ≡ map item.Step others ++ map item_of_call more → steps ≡ others
same_table A [] [] calls more e = refl
same_table A [] (s ∷ others) (c ∷ calls) more e = absurd (not_step A c.moment c.request s (same_head _ _ _ _ e))
same_table A (s ∷ steps) [] calls (c ∷ more) e = absurd (not_step A c.moment c.request s (sym (same_head _ _ _ _ e)))
same_table A (s ∷ steps) (o ∷ others) calls more e = ap₂ (λ (x : Step) (l : List Step). x ∷ l) here (same_table A steps others calls more (same_tail _ _ _ _ e))
  where
    here : s ≡ o
    here = cc
same_table A _ _ _ _ e = absurd cc

-- behind a table no calls stand where none do
no_calls : (A : Type 0) (steps others : List Step) (calls : List Call) → map item.Step steps ++ map (item_of_call {A = A}) calls ≡ map item.Step others ++ map item_of_call [] → calls ≡ []
no_calls A [] _ [] _ = refl
no_calls A [] (s ∷ others) (c ∷ calls) e = absurd (not_step A c.moment c.request s (same_head _ _ _ _ e))
no_calls A (s ∷ steps) (o ∷ others) calls e = no_calls A steps others calls (same_tail _ _ _ _ e)
no_calls A _ [] _ e = absurd cc

set_up_as : {A : Type 0} (p q : Setup A) (calls more : List Call) → script_of p calls ≡ script_of q more → IsSetUp q more → IsSetUp p calls
set_up_as {A} p q calls more e w = record { few = subst (λ (steps : List Step). length steps ≤ 16) (sym table) w.few; sound = by_calls w.sound }
  where
    table : p.table ≡ q.table
    table = same_table A p.table q.table calls more (same_tail _ _ _ _ e)

    first : p.first ≡ q.first
    first = cc

    by_calls : (more ≡ []) ⊎ IsScriptSound q → (calls ≡ []) ⊎ IsScriptSound p
    by_calls (inl none) = inl (no_calls A p.table q.table calls (same_tail _ _ _ _ e ∙ ap (λ (l : List Call). map item.Step q.table ++ map item_of_call l) none))
    by_calls (inr sound) = inr (record { steps = subst AreSteps (sym table) sound.steps; some = subst (λ (n : ℕ). 0 < n) (sym first) sound.some; most = subst (λ (n : ℕ). n ≤ 4294967295) (sym first) sound.most })

-- a script sets up the publisher that it calls
pub script_set_up : {A : Type 0} (p : Setup A) (calls : List Call) (z : InputEnd) (text : List ℕ) → items_of_lines (script_of_text z text).items ≡ script_of p calls → IsSetUp p calls
script_set_up {A} p calls z text is =
    elim (script_items z text) [ inl none ↦ absurd (none_left [] (map item.Step p.table ++ map item_of_call calls) (item.Control p.control p.first) (sym none ∙ is)) | inr w ↦ set_up_as p w.0 calls w.1 (sym is ∙ w.2) w.3 ]

-- ---- the limits that the lines of a script keep: their moments have at most 18 digits, their fields have their sizes, the values of changes are written as octets, and there are no more items than lines

module _ (A : Type 0) where
  put_count : (n k : ℕ) (r : Result (Option (ScriptItem A) × ScriptLines) ScriptCause) (rest : ScriptLines → Listing (ScriptItem A) ScriptCause) → ((s : ScriptLines) → length (rest s).items ≤ k) → length (put_said n r rest).items ≤ suc k
  put_count n k (Ok (None, s)) rest few = let most = few s in omega (arith, most)
  put_count n k (Ok (Some i, s)) rest few = let most = few s in omega (arith, most)
  put_count n k (Err why) rest few = omega arith

  lines_count : (s : ScriptLines) (n : ℕ) (lines : List (List ℕ)) (stop : Stop ListFault) → length (items_said (script_rules {A = A}) s n lines stop).items ≤ length lines
  unfolding items_said
  lines_count s n [] stop = omega arith
  lines_count s n (l ∷ lines) stop = put_count n (length lines) (script_said s l) (λ t. items_said script_rules t (n + 1) lines stop) (λ t. lines_count t (n + 1) lines stop)

-- ---- a list has at most 1,000,000 lines

judged_few : (n : ℕ) (line : List ℕ) (r : LineListing) → n ≤ 1000000 → (n < 1000000 → n + length r.lines ≤ 1000000) → n + length (line_judged n line r).lines ≤ 1000000
judged_few n line r le few =
    cond_both (nat_le 1000000 n) (fault_at n ListTooLong) _ (λ (x : LineListing). n + length x.lines ≤ 1000000) (λ many. omega arith)
    (λ room. cond_both (nat_lt 4096 (length line)) (fault_at n LineTooLong) r (λ (x : LineListing). n + length x.lines ≤ 1000000) (λ long. omega arith) (λ short. few (grind (arith, nat_tests))))

end_few : (z : InputEnd) (n : ℕ) (rest : List ℕ) → n < 1000000 → n + length (reading_at_end z n rest).lines ≤ 1000000
end_few End n [] lt = omega arith
end_few _ n _ lt = omega arith

none_few : (z : InputEnd) (n : ℕ) → n ≤ 1000000 → n + length (reading_at_end z n []).lines ≤ 1000000
none_few End n le = omega arith
none_few _ n le = omega arith

rest_few : (z : InputEnd) (n : ℕ) (rest : List ℕ) → n ≤ 1000000 → n + length (reading_of_rest z n rest).lines ≤ 1000000
rest_few z n [] le = none_few z n le
rest_few z n (x ∷ xs) le = judged_few n (x ∷ xs) (reading_at_end z n (x ∷ xs)) le (λ lt. end_few z n (x ∷ xs) lt)

pieces_few : (z : InputEnd) (n : ℕ) (ps : List (List ℕ)) → n ≤ 1000000 → n + length (reading_of_pieces z n ps).lines ≤ 1000000
pieces_few z n [] le = none_few z n le
pieces_few z n (rest ∷ []) le = rest_few z n rest le
pieces_few z n (line ∷ next ∷ more) le =
    judged_few n line (put_line (without_cr line) (reading_of_pieces z (n + 1) (next ∷ more))) le (λ lt. let w = pieces_few z (n + 1) (next ∷ more) (omega arith) in omega (arith, w))

pub reading_few : (z : InputEnd) (text : List ℕ) → length (reading z 0 text).lines ≤ 1000000
unfolding reading
reading_few z text = let w = pieces_few z 0 (pieces text) (omega arith) in omega (arith, w)

-- ---- the calls of a script

-- the text of a script says no more items than a list can have lines
pub script_room : {A : Type 0} (p : Setup A) (calls : List Call) (z : InputEnd) (text : List ℕ) → SaysRun p calls (script_of_text z text) → 1 + length p.table + length calls ≤ 1000000
script_room {A} p calls z text says =
    let most : length (script_of_text {A = A} z text).items ≤ 1000000 = let a = lines_count A First 0 (reading z 0 text).lines (reading z 0 text).stop in let b = reading_few z text in omega (arith, a, b) in
    let same : length (items_of_lines (script_of_text {A = A} z text).items) ≡ length (script_of p (calls ++ says.calls_left)) = ap length says.items in
    let step : Step → ScriptItem A = λ s. item.Step s in
    let steps : List (ScriptItem A) = map step p.table in
    omega (arith, most, same, length-map (script_of_text {A = A} z text).items (λ (e : ℕ × ScriptItem A). e.1), length-append steps (map item_of_call (calls ++ says.calls_left)), length-map p.table step, length-map (calls ++ says.calls_left) (item_of_call {A = A}), length-append calls says.calls_left)

at_steps : {A : Type 0} (steps : List Step) (items : List (ScriptItem A)) → AllKeep (map item.Step steps ++ items) → LiveBelow steps
at_steps [] items w = tt
at_steps (s ∷ steps) items w = (w.0, at_steps steps items w.1)

behind_steps : {A : Type 0} (steps : List Step) (items : List (ScriptItem A)) → AllKeep (map item.Step steps ++ items) → AllKeep items
behind_steps [] items w = w
behind_steps (s ∷ steps) items w = behind_steps steps items w.1

request_short : (A : Type 0) (m : ℕ) (request : Request) → KeepsLimits {A = A} (item_of_request m request) → m < 10 ^ 18
request_short A m (Changed change) w = w.0
request_short A m Polled w = w

calls_short : (A : Type 0) (calls : List Call) → AllKeep (map (item_of_call {A = A}) calls) → MomentsAreShort calls
calls_short A [] w = tt
calls_short A (c ∷ calls) w = (request_short A c.moment c.request w.0, calls_short A calls w.1)

values_octets : (A : Type 0) (calls : List Call) → AllKeep (map (item_of_call {A = A}) calls) → (i : ℕ) (change : Change) → (trace_of_calls calls).request i ≡ Some (Changed change) → AreOctets (written_all change.values)
values_octets A (c ∷ calls) w zero change at = (subst (λ (request : Request). KeepsLimits {A = A} (item_of_request c.moment request)) here w.0).1
  where
    here : c.request ≡ Changed change
    here = cc
values_octets A (c ∷ calls) w (suc i) change at = values_octets A calls w.1 i change at
values_octets A [] w _ change at = absurd cc

first_keep : (A : Type 0) (steps : List Step) (calls left : List Call) → AllKeep (map item.Step steps ++ map (item_of_call {A = A}) (calls ++ left)) → AllKeep (map item.Step steps ++ map (item_of_call {A = A}) calls)
first_keep A [] [] left w = tt
first_keep A [] (c ∷ calls) left w = (w.0, first_keep A [] calls left w.1)
first_keep A (s ∷ steps) calls left w = (w.0, first_keep A steps calls left w.1)

-- what the text of a script says keeps the limits
says_limits : {A : Type 0} (p : Setup A) (calls : List Call) (z : InputEnd) (text : List ℕ) → SaysRun p calls (script_of_text z text) → AllKeep (script_of p calls)
says_limits {A} p calls z text says =
    let w = subst AllKeep says.items (script_keeps A z text) in
    (w.0, first_keep A p.table calls says.calls_left w.1)

-- its moments have at most 18 digits
pub script_moments : {A : Type 0} (p : Setup A) (calls : List Call) (z : InputEnd) (text : List ℕ) → SaysRun p calls (script_of_text z text) → MomentsAreShort calls
script_moments {A} p calls z text says = calls_short A calls (behind_steps p.table (map item_of_call calls) (says_limits p calls z text says).1)

-- its fields have their sizes
pub script_sizes : {A : Type 0} (p : Setup A) (calls : List Call) (z : InputEnd) (text : List ℕ) → SaysRun p calls (script_of_text z text) → HasSizes p
script_sizes p calls z text says = let w = says_limits p calls z text says in setup_held p w.0 (at_steps p.table (map item_of_call calls) w.1)

-- its addresses are octets, and the values of each change are written as octets
pub record SaysOctets {A : Type 0} (p : Setup A) (calls : List Call) : Type 0 where
  pub to : AreOctets p.control.destination
  pub from : AreOctets p.control.source
  pub values : (i : ℕ) (change : Change) → (trace_of_calls calls).request i ≡ Some (Changed change) → AreOctets (written_all change.values)

pub script_octets : {A : Type 0} (p : Setup A) (calls : List Call) (z : InputEnd) (text : List ℕ) → SaysRun p calls (script_of_text z text) → SaysOctets p calls
script_octets {A} p calls z text says =
    let w = says_limits p calls z text says in
    record { to = w.0.to_octets; from = w.0.from_octets; values = values_octets A calls (behind_steps p.table (map item_of_call calls) w.1) }

-- ---- each script says the run of a publisher: the calls up to the first change that is refused

-- behind others each of these calls is taken
abbrev AllTaken : {A : Type 0} → Setup A → List Call → List Call → Type 0
AllTaken p done [] = Unit {0}
AllTaken p done (c ∷ cs) = IsAnswered p done c.request × AllTaken p (done ++ c ∷ []) cs

all_accepted : {A : Type 0} (p : Setup A) (cs done : List Call) → AllTaken p done cs → (i : ℕ) (change : Change) → option_map (λ (c : Call). c.request) (slice_get cs i) ≡ Some (Changed change) → Accepts p (done ++ take i cs) change
all_accepted p (c ∷ cs) done w zero change e = subst (λ (l : List Call). Accepts p l change) (sym (append-nil done)) (subst (IsAnswered p done) here w.0)
  where
    here : c.request ≡ Changed change
    here = cc
all_accepted p (c ∷ cs) done w (suc i) change e = subst (λ (l : List Call). Accepts p l change) (append_assoc done (c ∷ []) (take i cs)) (all_accepted p cs (done ++ c ∷ []) w.1 i change e)
all_accepted p [] done w _ change e = absurd cc

-- of any calls those up to the first change that is refused
abbrev UpToRefused : {A : Type 0} → Setup A → List Call → List Call → Type 0
UpToRefused p done cs = (calls : List Call) × (left : List Call) × (cs ≡ calls ++ left) × AllTaken p done calls × StopsBehind p (done ++ calls) left

one_more : {A : Type 0} (p : Setup A) (done cs : List Call) (c : Call) → IsAnswered p done c.request → UpToRefused p (done ++ c ∷ []) cs → UpToRefused p done (c ∷ cs)
one_more p done cs c taken w = (c ∷ w.0, w.1, ap (λ (l : List Call). c ∷ l) w.2, (taken, w.3), subst (λ (l : List Call). StopsBehind p l w.1) (append_assoc done (c ∷ []) w.0) w.4)

-- a call is taken before those behind it, or refused
call_judged : {A : Type 0} (p : Setup A) → AreSteps p.table → (done cs : List Call) (c : Call) → UpToRefused p (done ++ c ∷ []) cs → UpToRefused p done (c ∷ cs)
call_judged {A} p steps done cs c rest = by_request c.request refl
  where
    by_answer : (change : Change) → c.request ≡ Changed change → (answer : Option PublishFault) → IsJudged p.control p.table (next_state p done) change answer → UpToRefused p done (c ∷ cs)
    by_answer change is None accepted = one_more p done cs c (subst (IsAnswered p done) (sym is) accepted) rest
    by_answer change is (Some why) refused =
        ([], c ∷ cs, refl, tt, subst (λ (l : List Call). StopsBehind p l (c ∷ cs)) (sym (append-nil done)) (why, subst (λ (request : Request). IsRefused p done request why) (sym is) refused))

    by_request : (request : Request) → c.request ≡ request → UpToRefused p done (c ∷ cs)
    by_request (Changed change) is = let w = changes_are_judged p.control p.table (next_state p done) change steps in by_answer change is w.0 w.1
    by_request Polled is = one_more p done cs c (subst (IsAnswered p done) (sym is) tt) rest

up_to_refused : {A : Type 0} (p : Setup A) → AreSteps p.table → (cs done : List Call) → UpToRefused p done cs
up_to_refused p steps [] done = ([], [], refl, tt, tt)
up_to_refused p steps (c ∷ cs) done = call_judged p steps done cs c (up_to_refused p steps cs (done ++ c ∷ []))

-- each script says the run of a publisher, or nothing of one
pub scripts_say_runs : {A : Type 0} → ScriptsSayRuns A
scripts_say_runs {A} z text = by_items (script_items z text)
  where
    by_setup : (p : Setup A) (calls : List Call) → items_of_lines (script_of_text z text).items ≡ script_of p calls → (calls ≡ []) ⊎ IsScriptSound p → SaysSomeRun (script_of_text {A = A} z text)
    by_setup p calls is (inl none) =
        record { publisher = p; calls = []; run = record { calls_left = []; items = is ∙ ap (script_of p) none; accepted = λ i change at. all_accepted p [] [] tt i change at; stops = tt } }
    by_setup p calls is (inr sound) =
        let w = up_to_refused p sound.steps calls [] in
        record { publisher = p; calls = w.0; run = record { calls_left = w.1; items = is ∙ ap (script_of p) w.2; accepted = all_accepted p w.0 [] w.3; stops = w.4 } }

    by_items : AreOfScript (items_of_lines (script_of_text {A = A} z text).items) → (items_of_lines (script_of_text {A = A} z text).items ≡ []) ⊎ SaysSomeRun (script_of_text {A = A} z text)
    by_items (inl none) = inl none
    by_items (inr w) = inr (by_setup w.0 w.1 w.2 w.3.sound)
