-- Decimal digits have no sign before them.
use Rattle.std.proofs.Common.{◌≡◌, ◌==◌, Bool, false, [], ◌∷◌, ap, arith, cond, drop, slice_index, ◌∙◌, ◌<◌, ◌≤◌, ◌^◌, ℕ, zero, suc, true, List, ◌++◌, length, take-append-drop, Option, Some, None, get_or, refl, sym, ap₂, subst, if◌then◌else◌, ◌+◌, not, map, take, unwrap_or, lt-ltb, le-ltb, drop-cons, take_all}
use Rattle.std.specs.Str.Parse.{IsNumeral, without_leading_plus, AllDigits, ParsesUnsigned, digits_value}
use Rattle.std.specs.Int.{IsInRange}
use Rattle.std.proofs.lemmas.Bool.{ne_eqb}
use Rattle.std.proofs.lemmas.Str.Parse.{digit_from_value}
use Rattle.clap.specs.Words.{Text}
use Rattle.std.specs.Prelude.{Ok, MatchOption, option_map, Err, filter_map, is_some, position, slice_get}
use Rattle.std.specs.List.{cons_option, position_or_len}
use Rattle.std.specs.Borrow.{Bor}
use Rattle.std.specs.Str.Pattern.{RFindsChar, SplitsAroundMatch}
use Rattle.std.proofs.lemmas.Str.Pattern.{NoCharPasses-char, drop_at_char}
use Rattle.clap.specs.ValueTests.{is_unsigned_in}
use Rattle.clap.specs.declared.builder.value_parser.ValueParser.TheVariants as parses
use Rattle.clap.proofs.ValueTestLemmas.{Accepts-accepts, accepts-Accepts}
use Rattle.block_core.specs.Period.{IsPeriod}
use Rattle.loss_core.specs.Periods.{ArePeriods, Period}
use Rattle.loss_core.proofs.PeriodLemmas.{and_others, none_are}
use Rattle.words_core.specs.CommandLine.{divided, period_at, period_number, period_of_parts, periods_in, Asked, Meaning, Unsaid}
use Rattle.words_core.specs.RequestLine.{period_text}
use Rattle.std.proofs.lemmas.List.{append-nil, length-map, map-append, take_more, length-take-le}
use Rattle.std.specs.Option.{option_map_or}
use Rattle.clap.specs.Walk.{texts}

module _ (digits : Text) (are : IsNumeral 10 digits) where
  first_digit : IsInRange 48 57 (slice_index digits 0)
  first_digit = (elim digits as (λ (ds : Text). IsNumeral 10 ds → IsInRange 48 57 (slice_index ds 0)) [ [] ↦ λ n. absurd (omega arith) | d ∷ ds ↦ λ n. digit_from_value d n.1.0 ]) are

  pub no_minus : (slice_index digits 0 == 45) ≡ false
  no_minus = ne_eqb _ _ (λ e. omega (arith, first_digit))

  pub no_plus : without_leading_plus digits ≡ digits
  no_plus = let plus : (slice_index digits 0 == 43) ≡ false = ne_eqb _ _ (λ e. omega (arith, first_digit)) in ap (λ (b : Bool). drop (cond b 1 0) digits) plus

-- ---- the texts of periods: what each says, and what they all say in order

-- a number from 2 to 65,536 by its digits
abbrev pub IsNumber : Text → Type 0
IsNumber text = IsNumeral 10 (without_leading_plus text) × (2 ≤ digits_value 10 (without_leading_plus text)) × (digits_value 10 (without_leading_plus text) ≤ 65536)

pub is_number : (text : Text) → is_unsigned_in 2 65536 text ≡ true → IsNumber text
is_number text e = let p = accepts-Accepts false (parses.Unsigned 2 65536) text e in (p.0, p.2, p.3)

pub number_is : (text : Text) → IsNumber text → is_unsigned_in 2 65536 text ≡ true
number_is text p = Accepts-accepts false (parses.Unsigned 2 65536) text (p.0, omega (arith, p.2), p.1, p.2)

number_or_none : (text : Text) → (IsNumber text → ⊥) → period_number text ≡ None
number_or_none text other = go (is_unsigned_in 2 65536 text) refl
  where
    go : (b : Bool) → is_unsigned_in 2 65536 text ≡ b → (if b then Some (digits_value 10 (without_leading_plus text)) else None) ≡ None
    go true e = absurd (other (is_number text e))
    go false e = refl

-- what `parse` reads at 32 bits
pub parsed_in : (E : Type 0) (text : Text) (n : ℕ) → ParsesUnsigned {E = E} 32 10 text (Ok n) → 2 ≤ n → n ≤ 65536 → Some n ≡ period_number text
parsed_in E text n p low high =
    let same : n ≡ digits_value 10 (without_leading_plus text) = p.1 in
    let is = number_is text (p.0.0, omega (arith, same, low), omega (arith, same, high)) in
    rw is (ap (λ (k : ℕ). Some k) same)

pub parsed_out : (E : Type 0) (text : Text) (n : ℕ) → ParsesUnsigned {E = E} 32 10 text (Ok n) → (2 ≤ n → n ≤ 65536 → ⊥) → None ≡ period_number text
parsed_out E text n p out =
    let same : n ≡ digits_value 10 (without_leading_plus text) = p.1 in
    sym (number_or_none text (λ is. out (omega (arith, same, is.1)) (omega (arith, same, is.2))))

pub not_parsed : (text : Text) → (IsNumeral 10 (without_leading_plus text) × (digits_value 10 (without_leading_plus text) < 2 ^ 32) → ⊥) → None ≡ period_number text
not_parsed text p = sym (number_or_none text (λ is. p (is.0, omega (arith, is.2))))

-- ---- what a text says is in range

abbrev MayBeNumber : Option ℕ → Type 0
MayBeNumber None = Unit {0}
MayBeNumber (Some n) = (2 ≤ n) × (n ≤ 65536)

number_in_range : (text : Text) → MayBeNumber (period_number text)
number_in_range text = (elim (is_unsigned_in 2 65536 text) as (λ (b : Bool). is_unsigned_in 2 65536 text ≡ b → MayBeNumber (if b then Some (digits_value 10 (without_leading_plus text)) else None)) [
  | true ↦ λ e. let is = is_number text e in (is.1, is.2)
  | false ↦ λ e. tt
]) refl

abbrev MayBeInRange : Option Period → Type 0
MayBeInRange None = Unit {0}
MayBeInRange (Some p) = (2 ≤ p.number) × (p.number ≤ 65536)

with_number : (id : Option Text) (o : Option ℕ) → MayBeNumber o → MayBeInRange (option_map (λ n. record { id = id; number = n }) o)
with_number id None is = tt
with_number id (Some n) is = is

period_in_range : (text : Text) (parts : Option (Text × Text)) → MayBeInRange (period_of_parts text parts)
period_in_range text None = with_number None (period_number text) (number_in_range text)
period_in_range text (Some parts) = with_number (Some parts.0) (period_number parts.1) (number_in_range parts.1)

with_option : (o : Option Period) (rest : List Period) → MayBeInRange o → ArePeriods rest → ArePeriods (cons_option o rest)
with_option None rest is are = are
with_option (Some p) rest is are = and_others p rest is are

pub periods_in_range : (texts : List Text) → ArePeriods (periods_in texts)
periods_in_range [] = none_are
periods_in_range (t ∷ ts) = with_option (period_at t) (periods_in ts) (period_in_range t (divided t)) (periods_in_range ts)

-- ---- the digits behind the last `=`

-- a text has no `=`
abbrev pub NoEquals : Text → Type 0
NoEquals text = (i : ℕ) → i < length text → get_or text i 0 ≡ 61 → ⊥

-- a text without one is not divided
pub undivided : (text : Text) → NoEquals text → divided text ≡ None
undivided [] none = refl
undivided (c ∷ others) none =
    let rest = undivided others (λ i inside e. none (suc i) (omega (arith, inside)) e) in
    let other : (c == 61) ≡ false = ne_eqb c 61 (λ e. none 0 (omega arith) e) in
    rw (rest, other) refl

-- an `=` behind which there is none divides a text
pub divides : (id digits : Text) → NoEquals digits → divided (id ++ 61 ∷ digits) ≡ Some (id, digits)
divides [] digits none = let rest = undivided digits none in rw rest refl
divides (c ∷ id) digits none = let rest = divides id digits none in rw rest refl

-- a digit is no `=`
lacks_equals : (ds : Text) → AllDigits 10 ds → NoEquals ds
lacks_equals [] are i inside e = absurd (omega (arith, inside))
lacks_equals (d ∷ ds) are zero inside e = let digit = digit_from_value d are.0 in absurd (omega (arith, digit, e))
lacks_equals (d ∷ ds) are (suc i) inside e = lacks_equals ds are.1 i (omega (arith, inside)) e

digits_are : (digits : Text) → IsNumeral 10 digits → (n : ℕ) → digits_value 10 digits ≡ n → 2 ≤ n → n ≤ 65536 → period_number digits ≡ Some n
digits_are digits are n is low high =
    let plus : without_leading_plus digits ≡ digits = no_plus digits are in
    let accepted : is_unsigned_in 2 65536 digits ≡ true = number_is digits (rw plus are, rw plus (omega (arith, is, low)), rw plus (omega (arith, is, high))) in
    rw (accepted, plus) (ap (λ (k : ℕ). Some k) is)

abbrev with_id : Option Text → Option ℕ → Option Period
with_id id o = option_map (λ n. record { id = id; number = n }) o

-- the text of a period by its digits says it
pub text_says : (p : Period) (digits : Text) → IsNumeral 10 digits → digits_value 10 digits ≡ p.number → IsPeriod p.number → period_at (period_text p.id digits) ≡ Some p
text_says p digits are is range = go p.id
  where
    number : period_number digits ≡ Some p.number
    number = digits_are digits are p.number is range.0 range.1

    go : (id : Option Text) → period_at (period_text id digits) ≡ Some (record { id = id; number = p.number })
    go None = ap (period_of_parts digits) (undivided digits (lacks_equals digits are.1)) ∙ ap (with_id None) number
    go (Some id) = ap (period_of_parts (id ++ (61 ∷ digits))) (divides id digits (lacks_equals digits are.1)) ∙ ap (with_id (Some id)) number

-- ---- what `rsplit_once` answers

abbrev pub texts_of : Option (Bor Text × Bor Text) → Option (Text × Text)
texts_of = option_map (λ x. (x.0.now, x.1.now))

pub split_is : (text : Text) (r : Option (Bor Text × Bor Text)) → MatchOption r (RFindsChar 61 text None) (λ x. SplitsAroundMatch (RFindsChar 61) text x.0.now x.1.now) → texts_of r ≡ divided text
split_is text None none = sym (undivided text (λ i inside e. NoCharPasses-char 61 text i none (omega arith) inside e))
split_is text (Some x) at =
    let i = at.0 in
    let j = at.1 in
    let whole : text ≡ x.0.now ++ 61 ∷ x.1.now =
    sym (take-append-drop i text) ∙ ap₂ (λ (a b : Text). a ++ b) (sym at.3) (drop_at_char 61 text i j at.2.1 (omega arith) ∙ ap (λ (l : Text). 61 ∷ l) (sym at.4)) in
    let none : NoEquals (drop j text) = λ k inside e. NoCharPasses-char 61 (drop j text) k at.2.0 (omega arith) inside e in
    sym (ap divided whole ∙ divides x.0.now x.1.now (subst NoEquals (sym at.4) none))

-- ---- texts in order, of which each says something or one says nothing: which one, and what they all say

module _ {X : Type 0} (read : Text → Option X) where
  abbrev says_none : Text → Bool
  says_none text = not (is_some (read text))

  -- a first text that says something stands for the first of that
  first_said : (b : X) (bs : List X) (x : Text) (xs : List Text) → map Some (b ∷ bs) ≡ map read (x ∷ xs) → (read x ≡ Some b) × (map Some bs ≡ map read xs)
  first_said b bs x xs e = (sym (ap (λ (l : List (Option X)). unwrap_or (slice_get l 0) (Some b)) e), ap (λ (l : List (Option X)). drop 1 l) e)

  -- texts that all say something are passed over
  passed : (said : List X) (before rest : List Text) → map Some said ≡ map read before → position_or_len says_none (before ++ rest) ≡ length before + position_or_len says_none rest
  passed [] [] rest e = omega arith
  passed (b ∷ bs) (x ∷ xs) rest e =
      let first = first_said b bs x xs e in
      rw first.0 (omega (arith, (passed bs xs rest first.1)))
  passed _ _ rest e = cc

  all_in : (said : List X) (texts : List Text) → map Some said ≡ map read texts → filter_map read texts ≡ said
  all_in [] [] e = refl
  all_in (b ∷ bs) (x ∷ xs) e =
      let first = first_said b bs x xs e in
      rw first.0 (ap (λ (l : List X). b ∷ l) (all_in bs xs first.1))
  all_in _ _ e = cc

  -- one text more that says something
  pub said_more : (words : List (Bor Text)) (i : ℕ) (d : Bor Text) (said : List X) (one : X) → i < length words
      → map Some said ≡ map read (texts (take i words)) → read (get_or words i d).now ≡ Some one
      → map Some (said ++ one ∷ []) ≡ map read (texts (take (i + 1) words))
  said_more words i d said one inside before now =
      let word = get_or words i d in
      let more : texts (take (i + 1) words) ≡ texts (take i words) ++ word.now ∷ [] = ap texts (take_more words i d inside) ∙ map-append (λ (w : Bor Text). w.now) (take i words) (word ∷ []) in
      let each : map read (texts (take i words) ++ word.now ∷ []) ≡ map read (texts (take i words)) ++ read word.now ∷ [] = map-append read (texts (take i words)) (word.now ∷ []) in
      map-append Some said (one ∷ []) ∙ ap₂ (λ (l m : List (Option X)). l ++ m) before (ap (λ (o : Option X). o ∷ []) (sym now)) ∙ sym (ap (map read) more ∙ each)

  -- what texts ask for: by what they all say, or by the first that says nothing
  module _ (none : ℕ → Unsaid) (all : List X → Asked) where
    abbrev meant : List Text → Meaning
    meant ts = option_map_or (λ i. Err (none i)) (position says_none ts) (Ok (all (filter_map read ts)))

    pub all_meant : (said : List X) (ts : List Text) → map Some said ≡ map read ts → meant ts ≡ Ok (all said)
    all_meant said ts e =
        let past = ap (position_or_len says_none) (sym (append-nil ts)) ∙ passed said ts [] e in
        let end : position_or_len says_none ts ≡ length ts = omega (arith, past) in
        let behind : length ts ≤ length ts = omega arith in
        rw (end, le-ltb (length ts) (length ts) behind) (ap (λ (l : List X). Ok (all l)) (all_in said ts e))

    -- behind the last word
    pub end_meant : (words : List (Bor Text)) (i : ℕ) (said : List X) → length words ≤ i → map Some said ≡ map read (texts (take i words)) → meant (texts words) ≡ Ok (all said)
    end_meant words i said behind e = all_meant said (texts words) (e ∙ ap (λ (l : List (Bor Text)). map read (texts l)) (take_all i words behind))

    -- a text that says nothing, behind texts that say something
    pub none_meant : (words : List (Bor Text)) (i : ℕ) (d : Bor Text) (said : List X) → i < length words
        → map Some said ≡ map read (texts (take i words)) → read (get_or words i d).now ≡ None → meant (texts words) ≡ Err (none i)
    none_meant words i d said inside before bad =
        let word = get_or words i d in
        let here : texts words ≡ texts (take i words) ++ word.now ∷ texts (drop (suc i) words) =
        ap texts (sym (take-append-drop i words) ∙ ap (λ (l : List (Bor Text)). take i words ++ l) (drop-cons words i d inside)) ∙ map-append (λ (w : Bor Text). w.now) (take i words) (word ∷ drop (suc i) words) in
        let size : length (texts (take i words)) ≡ i = length-map (take i words) (λ (w : Bor Text). w.now) ∙ length-take-le i words (omega (arith, inside)) in
        let first : position_or_len says_none (word.now ∷ texts (drop (suc i) words)) ≡ 0 = rw bad refl in
        let past = ap (position_or_len says_none) here ∙ passed said (texts (take i words)) (word.now ∷ texts (drop (suc i) words)) before in
        let at : position_or_len says_none (texts words) ≡ i = omega (arith, past, size, first) in
        let count = length-map words (λ (w : Bor Text). w.now) in
        rw (at, lt-ltb i (length (texts words)) (omega (arith, inside, count))) refl
