-- Words without a fault behind the name of a command without words of its own are arguments that it takes, and then nothing or the mark.
use Rattle.std.proofs.Common.{◌≡◌, ◌∙◌, ◌+◌, ◌≤◌, ◌⊎◌, ◌&&◌, ◌||◌, ◌==◌, ℕ, Bool, true, false, not, true≢false, List, [], ◌∷◌, ◌++◌, length, map, drop, Option, Some, None, is_some, option_and_then, cond, inl, inr, refl, sym, ap, ap₂, subst, arith, append_assoc, length-append, eqb-true}
use Rattle.std.specs.Char.{encode_utf8}
use Rattle.std.specs.Prelude.{codes, find, fold, if◌then◌else◌, slice_get}
use Rattle.std.specs.List.{list_all}
use Rattle.std.specs.Str.{IsUtf8, bytes_eq, chars, encode_utf8_all}
use Rattle.std.proofs.lemmas.Str.{encodes-chars}
use Rattle.std.proofs.lemmas.List.{append-nil}
use Rattle.std.proofs.lemmas.Slice.Eq.{bytes_eq-Decides}
use Rattle.std.proofs.lemmas.Bool.{cases_Bool}
use Rattle.clap.specs.Lexer.{long_of, name_and_value, short_of, usize_max}
use Rattle.clap.specs.Kinds.{or_else, range_kinds}
use Rattle.clap.specs.Words.{Kinds, Row, Rule, Shape, Text, first_of}
use Rattle.clap.specs.declared.builder.value_parser.Reading.{Reading}
use Rattle.clap.specs.Faults.{bundle_fault, flag_word_fault, flags_fault, long_fault, option_fault, other_fault, react_fault, level_fault, settle_fault, short_fault, turn_fault, use_fault, walk_fault}
use Rattle.clap.specs.Walk.{Held, Waiting, Walk, arg_by_index, arg_by_long, arg_by_short, attached_value, has_long, has_row, has_short, idle, option, reacted, nothing_held, rows_after, walk, walk_from, walked, with_default, bundle_met}
use Rattle.clap.specs.declared.error.kind.ErrorKind.TheVariants as kind
use Rattle.words_core.specs.CommandLine.{Asked, IsValue, is_flag}
use Rattle.words_core.specs.RequestLine.{Argument, AreTexts, SayAll, Says, Switch, argument_name, argument_text, file, given_as, is_set, named_once, switch, switch_name, switch_word, switches}
use Rattle.words_core.proofs.ArgumentRows.{Hold, given_append, hold_more, how_read, puts, row_for, Each, Ended, Handled, Reads, Stands, Went, arguments_end, count_set, each_of, is_free}
use Rattle.words_core.proofs.Handled.{Offers, file_goes, is_of, switch_led}
use Rattle.words_core.proofs.KeptRows.{first_none, then_none}
use Rattle.words_core.proofs.LoneFlags.{help_flag, marked, nothing_behind, stray, turn_none, IsEnd, Leaves, long_word, plain_leaf}
use Rattle.words_core.proofs.Switches.{default_other, default_set, has_at, read_flag, row_at, switch_flag, AreAll, apart, first_has, is_common, Pending, between, dashes, held, meets_none, settled_to, state}

-- ---- which argument is found

found_in : (has : Switch → Bool) (test : Rule → Bool) (P : Option Rule → Type 0) → P None → P (Some help_flag) → (os : List Switch) → AreAll has os
    → ((o : Switch) → has o ≡ true → test (switch_flag o) ≡ true → P (Some (switch_flag o))) → P (find test (map switch_flag os ++ help_flag ∷ []))
found_in has test P none help [] all own = elim (test help_flag) as (λ (b : Bool). P (cond b (Some help_flag) None)) [ true ↦ help | false ↦ none ]
found_in has test P none help (o ∷ os) all own = go (test (switch_flag o)) refl (found_in has test P none help os parts.1 own)
  where
    parts : (has o ≡ true) × AreAll has os
    parts = first_has has o os all

    go : (b : Bool) → test (switch_flag o) ≡ b → P (find test (map switch_flag os ++ help_flag ∷ [])) → P (cond b (Some (switch_flag o)) (find test (map switch_flag os ++ help_flag ∷ [])))
    go true t later = own o parts.0 t
    go false t later = later

alone : (b : Bool) → (b || false) ≡ true → b ≡ true
alone true e = refl
alone false e = absurd (true≢false (sym e))

-- which argument of a command is found by a test: that of help, that of the name of a file, or an option that it has
abbrev pub Finds : Shape → (Argument → Bool) → Type 1
Finds s has = (test : Rule → Bool) (P : Option Rule → Type 0) → P None → P (Some help_flag) → (test read_flag ≡ true → P (Some read_flag))
    → ((o : Switch) → has (switch o) ≡ true → test (switch_flag o) ≡ true → P (Some (switch_flag o))) → P (find test s.rules)

after_read : (test : Rule → Bool) (P : Option Rule → Type 0) → (test read_flag ≡ true → P (Some read_flag)) → (rest : Option Rule) → P rest → P (cond (test read_flag) (Some read_flag) rest)
after_read test P read rest p = (elim (test read_flag) as (λ (b : Bool). test read_flag ≡ b → P (cond b (Some read_flag) rest)) [ true ↦ λ e. read e | false ↦ λ e. p ]) refl

pub finds_plain : (takes : Bool) (t : Asked) → Finds (plain_leaf takes t) (is_of takes)
finds_plain true t test P none help read own = after_read test P read (find test (map switch_flag switches ++ help_flag ∷ [])) (found_in is_common test P none help switches refl own)
finds_plain false t test P none help read own = after_read test P read (find test (help_flag ∷ [])) (found_in (λ o. false) test P none help [] refl own)

-- ---- a word by its letters

short_word : (x flags : Text) → short_of x ≡ Some flags → (x ≡ 45 ∷ flags) × (flags ≡ [] → ⊥)
short_word [] flags e = cc
short_word (a ∷ []) flags e = elim (cases_Bool (a == 45)) [ inl t ↦ let bad : None ≡ Some flags = rw t at e in cc | inr t ↦ let bad : None ≡ Some flags = rw t at e in cc ]
short_word (a ∷ b ∷ rest) flags e = go (a == 45) (b == 45) refl refl
  where
    some_or : Option Text → Text
    some_or None = flags
    some_or (Some l) = l

    go : (k l : Bool) → (a == 45) ≡ k → (b == 45) ≡ l → (a ∷ b ∷ rest ≡ 45 ∷ flags) × (flags ≡ [] → ⊥)
    go false l t u = let bad : None ≡ Some flags = rw t at e in cc
    go true true t u = let bad : None ≡ Some flags = rw (t, u) at e in cc
    go true false t u =
        let same : Some (b ∷ rest) ≡ Some flags = rw (t, u) at e in
        let is : b ∷ rest ≡ flags = ap some_or same in
        (rw (eqb-true a 45 t) (ap (λ (l : Text). 45 ∷ l) is), λ none. let bad : b ∷ rest ≡ [] = is ∙ none in cc)

chars_behind : (flags : Text) → chars (45 ∷ flags) ≡ 45 ∷ chars flags
unfolding chars
chars_behind [] = refl
chars_behind (b ∷ rest) = refl

-- text behind a hyphen is what its characters spell
spelled_behind : (flags : Text) → IsUtf8 (45 ∷ flags) → encode_utf8_all (chars flags) ≡ flags
unfolding encode_utf8
spelled_behind flags u =
    let all : 45 ∷ encode_utf8_all (chars flags) ≡ 45 ∷ flags = ap encode_utf8_all (sym (chars_behind flags)) ∙ encodes-chars (45 ∷ flags) u in
    ap (λ (l : Text). drop 1 l) all

-- a word that is no flag and not the mark is a value
is_value : (x : Text) → long_of x ≡ None → short_of x ≡ None → bytes_eq x dashes ≡ false → IsValue x
is_value [] l k d = inl refl
is_value (a ∷ []) l k d = elim (cases_Bool (a == 45)) [ inl t ↦ inr (ap (λ (c : ℕ). c ∷ []) (eqb-true a 45 t)) | inr t ↦ inl t ]
is_value (a ∷ b ∷ rest) l k d = go (a == 45) (b == 45) refl refl rest l k d
  where
    go : (g h : Bool) → (a == 45) ≡ g → (b == 45) ≡ h → (more : Text) → long_of (a ∷ b ∷ more) ≡ None → short_of (a ∷ b ∷ more) ≡ None → bytes_eq (a ∷ b ∷ more) dashes ≡ false → IsValue (a ∷ b ∷ more)
    go false h t u more l k d = inl t
    go true false t u more l k d = let bad : Some (b ∷ more) ≡ None = rw (t, u) at k in cc
    go true true t u [] l k d = let bad : true ≡ false = rw (eqb-true a 45 t, eqb-true b 45 u) at d in absurd (true≢false bad)
    go true true t u (c ∷ more) l k d = let bad : Some (name_and_value (c ∷ more)) ≡ None = rw (t, u) at l in cc

-- ---- a command of which this is known

-- words are arguments of which a test holds, and then nothing or the mark
pub record Arguments (has : Argument → Bool) (words : List Text) : Type 0 where
  pub arguments : List Argument
  pub line : List Text
  pub mark : List Text
  pub are : words ≡ line ++ mark
  pub say : SayAll arguments line
  pub taken : list_all has arguments ≡ true
  pub end : IsEnd mark

-- and rows say what is given
pub record Behind (has : Argument → Bool) (rows : List Row) (words : List Text) : Type 0 where
  pub told : Arguments has words
  pub counts : (o : Switch) → length (given_as (switch_name o) told.arguments) ≡ (if is_set (switch_name o) rows then 1 else 0)
  pub named : given_as (codes "read") told.arguments ≡ named_once (first_of (codes "read") rows)

module _ (s : Shape) (has : Argument → Bool) (finds : Finds s has) (reads : Reads s) (none : arg_by_index s.rules 1 ≡ None) (offers : (o : Switch) → has (switch o) ≡ true → Offers s o)
    (has_file : (name : Text) → has (file name) ≡ true) where
  abbrev IsSettled : List Row → Pending → Type 0
  IsSettled rows pending = settle_fault s.rules s.args_override_self (held rows pending) ≡ []

  -- what a word is that does not fail
  data Seen (rows : List Row) (pending : Pending) (x : Text) : Type 0 where
    marks : x ≡ dashes → Seen rows pending x
    sets : (o : Switch) → has (switch o) ≡ true → x ≡ switch_word o → IsSettled rows pending → has_row (switch_name o) (settled_to s rows pending) ≡ false → Seen rows pending x
    names : (name : Text) → Says (file name) (x ∷ []) → IsSettled rows pending → has_row (codes "read") (settled_to s rows pending) ≡ false → Seen rows pending x
    asks : (x ≡ codes "--read") ⊎ (x ≡ codes "-r") → IsSettled rows pending → Seen rows pending x
    plainly : long_of x ≡ None → short_of x ≡ None → bytes_eq x dashes ≡ false → Seen rows pending x

  unused_read : (value : Text) (rows : List Row) → use_fault s.args_override_self read_flag (value ∷ []) rows ≡ [] → has_row (codes "read") rows ≡ false
  unused_read value rows e =
      (elim (has_row (codes "read") rows) as (λ (b : Bool). has_row (codes "read") rows ≡ b → b ≡ false) [ true ↦ λ f. let bad : kind.ArgumentConflict ∷ [] ≡ [] = rw (f, reads.again) at e in cc | false ↦ λ f. refl ]) refl

  unused_switch : (o : Switch) (rows : List Row) → use_fault s.args_override_self (switch_flag o) [] rows ≡ [] → has_row (switch_name o) rows ≡ false
  unused_switch o rows e =
      (elim (has_row (switch_name o) rows) as (λ (b : Bool). has_row (switch_name o) rows ≡ b → b ≡ false) [ true ↦ λ f. let bad : kind.ArgumentConflict ∷ [] ≡ [] = rw (f, reads.again) at e in cc | false ↦ λ f. refl ]) refl

  module _ (rows : List Row) (pending : Pending) where
    abbrev h : Held
    h = held rows pending

    abbrev rows_so : List Row
    rows_so = settled_to s rows pending

    long_alone : (x name : Text) → long_of x ≡ Some (name, None) → long_fault s.rules s.args_override_self (arg_by_long s.rules name) None h ≡ [] → Seen rows pending x
    long_alone x name l = finds (λ a. not (is_some a.index) && has_long a name) (λ o. long_fault s.rules s.args_override_self o None h ≡ [] → Seen rows pending x)
        (λ e. cc)
        (λ e. let bad : kind.DisplayHelp ∷ [] ≡ [] = then_none (settle_fault s.rules s.args_override_self h) (kind.DisplayHelp ∷ []) e in cc)
        (λ test e. asks (inl (long_word x name None l ∙ ap (λ (n : Text). 45 ∷ 45 ∷ n) (sym ((bytes_eq-Decides (codes "read") name).0 (alone (bytes_eq (codes "read") name) test))))) e)
        (λ o own test e. sets o own (long_word x name None l ∙ ap (λ (n : Text). 45 ∷ 45 ∷ n) (sym ((bytes_eq-Decides (switch_name o) name).0 (alone (bytes_eq (switch_name o) name) test))))
        (first_none (settle_fault s.rules s.args_override_self h) (use_fault s.args_override_self (switch_flag o) [] rows_so) e)
        (unused_switch o rows_so (then_none (settle_fault s.rules s.args_override_self h) (use_fault s.args_override_self (switch_flag o) [] rows_so) e)))

    -- the name of a file in this word
    names_seen : (x value : Text) → Says (file value) (x ∷ []) → or_else (settle_fault s.rules s.args_override_self h) (use_fault s.args_override_self read_flag (value ∷ []) rows_so) ≡ [] → Seen rows pending x
    names_seen x value says e =
        let before = settle_fault s.rules s.args_override_self h in
        let named = use_fault s.args_override_self read_flag (value ∷ []) rows_so in
        names value says (first_none before named e) (unused_read value rows_so (then_none before named e))

    long_with : (x name value : Text) → long_of x ≡ Some (name, Some value) → long_fault s.rules s.args_override_self (arg_by_long s.rules name) (Some value) h ≡ [] → Seen rows pending x
    long_with x name value l = finds (λ a. not (is_some a.index) && has_long a name) (λ o. long_fault s.rules s.args_override_self o (Some value) h ≡ [] → Seen rows pending x)
        (λ e. cc)
        (λ e. cc)
        (λ test e. names_seen x value (inl (long_word x name (Some value) l ∙ ap (λ (n : Text). 45 ∷ 45 ∷ (n ++ (61 ∷ value))) (sym ((bytes_eq-Decides (codes "read") name).0 (alone (bytes_eq (codes "read") name) test))))) e)
        (λ o own test e. cc)

    -- behind the letter `r`
    letter_seen : (x rest : Text) → x ≡ 45 ∷ 114 ∷ rest → option_fault s.rules s.args_override_self read_flag (attached_value rest) h ≡ [] → Seen rows pending x
    letter_seen x [] is e = asks (inr is) e
    letter_seen x (y ∷ ys) is e =
        elim (cases_Bool (y == 61)) [ inl t ↦ names_seen x ys (inr (inl (is ∙ ap (λ (c : ℕ). 45 ∷ 114 ∷ c ∷ ys) (eqb-true y 61 t)))) (rw t at e) | inr t ↦ names_seen x (y ∷ ys) (inr (inr (is, rw t refl))) (rw t at e) ]

    -- the first of short names is this one, and then those
    first_seen : (x flags : Text) (c : ℕ) (r : List ℕ) (next : Held → Kinds) → x ≡ 45 ∷ flags → flags ≡ encode_utf8_all (c ∷ r)
        → short_fault s.rules s.args_override_self (arg_by_short s.rules c) (drop (length (encode_utf8 c)) flags) h next ≡ [] → Seen rows pending x
    unfolding encode_utf8
    first_seen x flags c r next is spelled = finds (λ a. not (is_some a.index) && has_short a c)
        (λ o. short_fault s.rules s.args_override_self o (drop (length (encode_utf8 c)) flags) h next ≡ [] → Seen rows pending x)
        (λ e. cc)
        (λ e.
        let react = first_none (react_fault s.rules s.args_override_self help_flag [] h) (next (reacted s.rules help_flag [] h)) e in
        let bad : kind.DisplayHelp ∷ [] ≡ [] = then_none (settle_fault s.rules s.args_override_self h) (kind.DisplayHelp ∷ []) react in cc)
        (λ test e.
        let is_r : 114 ≡ c = eqb-true 114 c (alone (114 == c) test) in
        let whole : flags ≡ 114 ∷ encode_utf8_all r = spelled ∙ ap (λ (k : ℕ). encode_utf8_all (k ∷ r)) (sym is_r) in
        let rest : drop (length (encode_utf8 c)) flags ≡ encode_utf8_all r = ap₂ (λ (k : ℕ) (l : Text). drop (length (encode_utf8 k)) l) (sym is_r) whole in
        letter_seen x (encode_utf8_all r) (is ∙ ap (λ (l : Text). 45 ∷ l) whole) (subst (λ (l : Text). option_fault s.rules s.args_override_self read_flag (attached_value l) h ≡ []) rest e))
        (λ o own test e. absurd (true≢false (sym test)))

    short_seen : (x flags : Text) → IsUtf8 x → short_of x ≡ Some flags → bundle_fault s.rules s.args_override_self flags h ≡ [] → Seen rows pending x
    unfolding flags_fault
    short_seen x flags u k e = go flags (chars flags) refl (short_word x flags k).0 (short_word x flags k).1 (spelled_behind flags (subst IsUtf8 (short_word x flags k).0 u)) e
      where
        go : (l : Text) (cs : List ℕ) → chars l ≡ cs → x ≡ 45 ∷ l → (l ≡ [] → ⊥) → encode_utf8_all (chars l) ≡ l → bundle_fault s.rules s.args_override_self l h ≡ [] → Seen rows pending x
        go [] cs f is some spelled e = absurd (some refl)
        go (y ∷ ys) [] f is some spelled e = absurd (some (sym spelled ∙ ap encode_utf8_all f))
        go (y ∷ ys) (c ∷ r) f is some spelled e =
            first_seen x (y ∷ ys) c r (flags_fault s.rules s.args_override_self (length ys) (drop (length (encode_utf8 c)) (y ∷ ys)) 0) is (sym spelled ∙ ap encode_utf8_all f) (rw f at e)

    flag_seen : (x : Text) → IsUtf8 x → bytes_eq x dashes ≡ false → (l : Option (Text × Option Text)) (k : Option Text) → long_of x ≡ l → short_of x ≡ k
        → flag_word_fault s.rules s.args_override_self l x h ≡ [] → Seen rows pending x
    flag_seen x u d (Some (name, None)) k l f e = long_alone x name l e
    flag_seen x u d (Some (name, Some value)) k l f e = long_with x name value l e
    flag_seen x u d None None l f e = plainly l f d
    flag_seen x u d None (Some flags) l f e = short_seen x flags u f (rw f at e)

    seen : (waiting : Waiting) (x : Text) → IsUtf8 x → turn_fault s [] (state waiting rows pending) x ≡ [] → Seen rows pending x
    seen waiting x u e = at (bytes_eq x dashes) refl (first_none (other_fault s None x h) _ (rw (meets_none waiting x) at e))
      where
        at : (b : Bool) → bytes_eq x dashes ≡ b → other_fault s None x h ≡ [] → Seen rows pending x
        at true d f = marks ((bytes_eq-Decides x dashes).0 d)
        at false d f = flag_seen x u d (long_of x) (short_of x) refl refl (rw d at f)

  -- what is no flag is one word too many where no option waits
  no_stray : (waiting : Waiting) → is_free waiting ≡ true → (rows : List Row) (pending : Pending) (x : Text) → long_of x ≡ None → short_of x ≡ None → bytes_eq x dashes ≡ false
      → turn_fault s [] (state waiting rows pending) x ≡ [] → ⊥
  no_stray (option id) g rows pending x l k d e = absurd (true≢false (sym g))
  no_stray _ g rows pending x l k d e = stray s.is_leaf (rw none at (rw (d, l, k) at e))

  to_mark : (waiting : Waiting) (rows : List Row) (pending : Pending) → walked s.rules [] (state waiting rows pending) dashes ≡ marked waiting rows pending
  unfolding walked
  to_mark waiting rows pending = rw (meets_none waiting dashes) refl

  -- a walk that stands somewhere does not fail in more words, and not at their end
  record Passes (w : Walk) (words : List Text) : Type 0 where
    walking : walk_fault s [] w words ≡ []
    ending : settle_fault s.rules s.args_override_self (fold (walked s.rules []) w words).held ≡ []

  passes_on : (w : Walk) (x : Text) (xs : List Text) → Passes w (x ∷ xs) → (turn_fault s [] w x ≡ []) × Passes (walked s.rules [] w x) xs
  passes_on w x xs p = let parts = turn_none s [] w x xs p.walking in (parts.0, record { walking = parts.1; ending = p.ending })

  -- what waits when the mark stands there is settled at the end
  marked_settled : (waiting : Waiting) (rows : List Row) (pending : Pending) (xs : List Text) → Passes (walked s.rules [] (state waiting rows pending) dashes) xs → (xs ≡ []) × IsSettled rows pending
  marked_settled waiting rows pending xs p =
      let behind : Passes (marked waiting rows pending) xs = subst (λ (w : Walk). Passes w xs) (to_mark waiting rows pending) p in
      let none_left = nothing_behind s [] none waiting rows pending xs behind.walking in
      (none_left, subst (λ (l : List Text). settle_fault s.rules s.args_override_self (fold (walked s.rules []) (marked waiting rows pending) l).held ≡ []) none_left behind.ending)

  -- what is pending is settled in the end
  settled_later : (waiting : Waiting) → is_free waiting ≡ true → (rows : List Row) (pending : Pending) (words : List Text) → AreTexts words → Passes (state waiting rows pending) words → IsSettled rows pending
  settled_later waiting g rows pending [] u p = p.ending
  settled_later waiting g rows pending (x ∷ xs) u p = by (seen rows pending waiting x u.0 turn.0)
    where
      turn : (turn_fault s [] (state waiting rows pending) x ≡ []) × Passes (walked s.rules [] (state waiting rows pending) x) xs
      turn = passes_on (state waiting rows pending) x xs p

      by : Seen rows pending x → IsSettled rows pending
      by (marks is) = (marked_settled waiting rows pending xs (subst (λ (y : Text). Passes (walked s.rules [] (state waiting rows pending) y) xs) is turn.1)).1
      by (sets o own is settled unused) = settled
      by (names name says settled unused) = settled
      by (asks which settled) = settled
      by (plainly l k d) = absurd (no_stray waiting g rows pending x l k d turn.0)

  -- ---- arguments one behind the other

  -- what was given so far is given once at most
  abbrev Few : List Argument → Type 0
  Few done = (id : Text) → length (given_as id done) ≤ 1

  not_given : (rows : List Row) (done : List Argument) (id : Text) → Hold s rows done → has_row id rows ≡ false → given_as id done ≡ []
  not_given rows done id hold unused =
      (elim (given_as id done) as (λ (l : List Text). is_some (row_for id (how_read s id) l) ≡ false → l ≡ []) [ [] ↦ λ e. refl | x ∷ xs ↦ λ e. absurd (true≢false e) ]) (sym (ap is_some (hold id)) ∙ sym (has_at id rows) ∙ unused)

  few_more : (done : List Argument) (a : Argument) → Few done → given_as (argument_name a) done ≡ [] → Few (done ++ a ∷ [])
  few_more done a few new id = go (bytes_eq (argument_name a) id) refl
    where
      all : length (given_as id (done ++ a ∷ [])) ≡ length (given_as id done) + length (given_as id (a ∷ []))
      all = ap length (given_append id done (a ∷ [])) ∙ length-append (given_as id done) (given_as id (a ∷ []))

      own : bytes_eq (argument_name a) id ≡ true → length (given_as id (a ∷ [])) ≡ 1
      own t = rw t refl

      other : bytes_eq (argument_name a) id ≡ false → length (given_as id (a ∷ [])) ≡ 0
      other t = rw t refl

      go : (b : Bool) → bytes_eq (argument_name a) id ≡ b → length (given_as id (done ++ a ∷ [])) ≤ 1
      go true t =
          let before : length (given_as id done) ≡ 0 = ap length (subst (λ (n : Text). given_as n done ≡ []) ((bytes_eq-Decides (argument_name a) id).0 t) new) in
          omega (arith, all, own t, before)
      go false t = let size = all in let here = other t in let before = few id in omega (arith, size, here, before)

  -- words are arguments behind these, and the end
  record Found (done : List Argument) (words : List Text) : Type 0 where
    told : Arguments has words
    few : Few (done ++ told.arguments)

  -- where a walk is between arguments, with those before
  record At (w : Walk) (done : List Argument) (n : ℕ) : Type 0 where
    rows_so : List Row
    stands : Stands s w rows_so n
    hold : Hold s rows_so done
    few : Few done

  found_end : (w : Walk) (done : List Argument) (n : ℕ) (mark : List Text) → At w done n → IsEnd mark → Found done mark
  found_end w done n mark at end = record {
    told = record { arguments = []; line = []; mark = mark; are = refl; say = refl; taken = refl; end = end };
    few = λ id. subst (λ (l : List Argument). length (given_as id l) ≤ 1) (sym (append-nil done)) (at.few id);
  }

  -- an argument in words, and those behind it
  found_more : (done : List Argument) (a : Argument) (first rest : List Text) → Says a first → has a ≡ true → Found (done ++ a ∷ []) rest → Found done (first ++ rest)
  found_more done a first rest says own f = record {
    told = record {
      arguments = a ∷ f.told.arguments;
      line = first ++ f.told.line;
      mark = f.told.mark;
      are = ap (λ (l : List Text). first ++ l) f.told.are ∙ sym (append_assoc first f.told.line f.told.mark);
      say = (first, f.told.line, refl, says, f.told.say);
      taken = rw own f.told.taken;
      end = f.told.end;
    };
    few = λ id. subst (λ (l : List Argument). length (given_as id l) ≤ 1) (append_assoc done (a ∷ []) f.told.arguments) (f.few id);
  }

  -- an argument that is used for the first time leads on
  at_more : (w : Walk) (done : List Argument) (n : ℕ) (at : At w done n) (a : Argument) (words : List Text)
      → ((w : Walk) (rows_so : List Row) (n : ℕ) → Stands s w rows_so n → has_row (argument_name a) rows_so ≡ false
      → Went s w words (puts false (argument_name a) (how_read s (argument_name a)) (argument_text a) rows_so) (n + length words))
      → has_row (argument_name a) at.rows_so ≡ false → At (fold (walked s.rules []) w words) (done ++ a ∷ []) (n + length words)
  at_more w done n at a words goes unused =
      let new = not_given at.rows_so done (argument_name a) at.hold unused in
      record {
        rows_so = puts false (argument_name a) (how_read s (argument_name a)) (argument_text a) at.rows_so;
        stands = (goes w at.rows_so n at.stands unused).stands;
        hold = hold_more s at.rows_so done a false (inr new) at.hold;
        few = few_more done a at.few new;
      }

  -- the word that announces the name of a file
  abbrev Announces : Text → Type 0
  Announces x = (x ≡ codes "--read") ⊎ (x ≡ codes "-r")

  says_next : (x name : Text) → Announces x → IsValue name → Says (file name) (x ∷ name ∷ [])
  says_next x name (inl is) v = inl (is, refl, v)
  says_next x name (inr is) v = inr (is, refl, v)

  asked_state : (x : Text) → Announces x → (waiting : Waiting) (rows : List Row) (pending : Pending)
      → walked s.rules [] (state waiting rows pending) x ≡ state (option (codes "read")) (settled_to s rows pending) (Some (codes "read", []))
  unfolding walked bundle_met chars encode_utf8
  asked_state x which waiting rows pending = elim which [
    | inl is ↦ subst (λ (y : Text). walked s.rules [] (state waiting rows pending) y ≡ state (option (codes "read")) (settled_to s rows pending) (Some (codes "read", []))) (sym is) (rw (meets_none waiting (codes "--read"), reads.by_long) refl)
    | inr is ↦ subst (λ (y : Text). walked s.rules [] (state waiting rows pending) y ≡ state (option (codes "read")) (settled_to s rows pending) (Some (codes "read", []))) (sym is) (rw (meets_none waiting (codes "-r"), reads.by_short) refl)
  ]

  -- a name that is announced has to come
  unnamed : (rows : List Row) → IsSettled rows (Some (codes "read", [])) → ⊥
  unnamed rows e = let bad : range_kinds 1 1 0 ≡ [] = rw reads.by_id at e in cc

  abbrev Idle : List Text → Type 0
  Idle words = (w : Walk) (done : List Argument) (n : ℕ) → At w done n → n + length words ≤ usize_max → AreTexts words → Passes w words → Found done words

  found_named : (x y : Text) (words : List Text) → Idle words → Announces x → (w : Walk) (done : List Argument) (n : ℕ) (at : At w done n) → n + length (x ∷ y ∷ words) ≤ usize_max → IsValue y
      → has_row (codes "read") at.rows_so ≡ false → AreTexts words → Passes (walked s.rules [] (walked s.rules [] w x) y) words → Found done (x ∷ y ∷ words)
  found_named x y words later which w done n at fits v unused u p =
      let more = at_more w done n at (file y) (x ∷ y ∷ []) (file_goes s reads y (x ∷ y ∷ []) (says_next x y which v)) unused in
      found_more done (file y) (x ∷ y ∷ []) words (says_next x y which v) (has_file y)
      (later (walked s.rules [] (walked s.rules [] w x) y) (done ++ file y ∷ []) (n + length (x ∷ y ∷ [])) more (omega (arith, fits)) u p)

  -- a text in the next word is its value
  value_state : (rows : List Row) (y : Text) → IsValue y → walked s.rules [] (state (option (codes "read")) rows (Some (codes "read", []))) y ≡ between rows (Some (codes "read", y ∷ []))
  unfolding walked
  value_state rows y (inl e) = go y e
    where
      go : (l : Text) → is_flag l ≡ false → walked s.rules [] (state (option (codes "read")) rows (Some (codes "read", []))) l ≡ between rows (Some (codes "read", l ∷ []))
      go [] f = rw reads.by_id refl
      go (c ∷ cs) f = rw f (rw f (rw reads.by_id refl))
  value_state rows y (inr is) =
      subst (λ (l : Text). walked s.rules [] (state (option (codes "read")) rows (Some (codes "read", []))) l ≡ between rows (Some (codes "read", l ∷ []))) (sym is) (rw reads.by_id refl)

  -- behind the word that announces the name
  abbrev Follows : List Text → Type 0
  Follows words = (x : Text) → Announces x → (w : Walk) (done : List Argument) (n : ℕ) → At w done n → n + length (x ∷ words) ≤ usize_max → AreTexts words → Passes (walked s.rules [] w x) words
      → Found done (x ∷ words)

  asked_at : (x : Text) → Announces x → (w : Walk) (done : List Argument) (n : ℕ) (at : At w done n)
      → walked s.rules [] w x ≡ state (option (codes "read")) (settled_to s at.stands.rows at.stands.pending) (Some (codes "read", []))
  asked_at x which w done n at = ap (λ (v : Walk). walked s.rules [] v x) at.stands.is ∙ asked_state x which at.stands.waiting at.stands.rows at.stands.pending

  follows_end : Follows []
  follows_end x which w done n at fits u p =
      absurd (unnamed (settled_to s at.stands.rows at.stands.pending) (subst (λ (v : Walk). settle_fault s.rules s.args_override_self v.held ≡ []) (asked_at x which w done n at) p.ending))

  follows_more : (y : Text) (words : List Text) → Idle words → Follows (y ∷ words)
  follows_more y words later x which w done n at fits u p = by (seen rows waits (option (codes "read")) y u.0 turn.0)
    where
      rows : List Row
      rows = settled_to s at.stands.rows at.stands.pending

      waits : Pending
      waits = Some (codes "read", [])

      turn : (turn_fault s [] (state (option (codes "read")) rows waits) y ≡ []) × Passes (walked s.rules [] (state (option (codes "read")) rows waits) y) words
      turn = passes_on (state (option (codes "read")) rows waits) y words (subst (λ (v : Walk). Passes v (y ∷ words)) (asked_at x which w done n at) p)

      named : IsValue y → Found done (x ∷ y ∷ words)
      named v =
          let settled = settled_later idle refl rows (Some (codes "read", y ∷ [])) words u.1 (subst (λ (k : Walk). Passes k words) (value_state rows y v) turn.1) in
          let used : use_fault s.args_override_self read_flag (y ∷ []) rows ≡ [] = rw reads.by_id at settled in
          let unused = subst (λ (r : List Row). has_row (codes "read") r ≡ false) at.stands.settled (unused_read y rows used) in
          found_named x y words later which w done n at fits v unused u.1
          (subst (λ (k : Walk). Passes (walked s.rules [] k y) words) (sym (asked_at x which w done n at)) turn.1)

      by : Seen rows waits y → Found done (x ∷ y ∷ words)
      by (marks is) = absurd (unnamed rows (marked_settled (option (codes "read")) rows waits words (subst (λ (k : Text). Passes (walked s.rules [] (state (option (codes "read")) rows waits) k) words) is turn.1)).1)
      by (sets o own is settled unused) = absurd (unnamed rows settled)
      by (names name says settled unused) = absurd (unnamed rows settled)
      by (asks more settled) = absurd (unnamed rows settled)
      by (plainly l k d) = named (is_value y l k d)

  one_more : (x : Text) (words : List Text) → Idle words → Follows words → Idle (x ∷ words)
  one_more x words later follows w done n at fits u p = by (seen at.stands.rows at.stands.pending at.stands.waiting x u.0 turn.0)
    where
      here : Walk
      here = state at.stands.waiting at.stands.rows at.stands.pending

      turn : (turn_fault s [] here x ≡ []) × Passes (walked s.rules [] here x) words
      turn = passes_on here x words (subst (λ (v : Walk). Passes v (x ∷ words)) at.stands.is p)

      rest : Passes (walked s.rules [] w x) words
      rest = (passes_on w x words p).1

      fits_rest : (n + 1) + length words ≤ usize_max
      fits_rest = omega (arith, fits)

      by_switch : (o : Switch) → has (switch o) ≡ true → x ≡ switch_word o → has_row (switch_name o) at.rows_so ≡ false → Found done (x ∷ words)
      by_switch o own is unused =
          subst (λ (y : Text). Found done (y ∷ words)) (sym is)
          (found_more done (switch o) (switch_word o ∷ []) words refl own
          (later (walked s.rules [] w (switch_word o)) (done ++ switch o ∷ []) (n + 1) (at_more w done n at (switch o) (switch_word o ∷ []) (switch_led s reads.again o (offers o own)) unused) fits_rest u.1
          (subst (λ (y : Text). Passes (walked s.rules [] w y) words) is rest)))

      by_name : (name : Text) → Says (file name) (x ∷ []) → has_row (codes "read") at.rows_so ≡ false → Found done (x ∷ words)
      by_name name says unused =
          found_more done (file name) (x ∷ []) words says (has_file name)
          (later (walked s.rules [] w x) (done ++ file name ∷ []) (n + 1) (at_more w done n at (file name) (x ∷ []) (file_goes s reads name (x ∷ []) says) unused) fits_rest u.1 rest)

      by : Seen at.stands.rows at.stands.pending x → Found done (x ∷ words)
      by (marks is) =
          let none_left = (marked_settled at.stands.waiting at.stands.rows at.stands.pending words (subst (λ (y : Text). Passes (walked s.rules [] here y) words) is turn.1)).0 in
          found_end w done n (x ∷ words) at (inr (ap₂ (λ (y : Text) (l : List Text). y ∷ l) is none_left))
      by (sets o own is settled unused) = by_switch o own is (subst (λ (r : List Row). has_row (switch_name o) r ≡ false) at.stands.settled unused)
      by (names name says settled unused) = by_name name says (subst (λ (r : List Row). has_row (codes "read") r ≡ false) at.stands.settled unused)
      by (asks which settled) = follows x which w done n at fits u.1 rest
      by (plainly l k d) = absurd (no_stray at.stands.waiting at.stands.free at.stands.rows at.stands.pending x l k d turn.0)

  all_words : (words : List Text) → Idle words × Follows words
  all_words [] = (λ w done n at fits u p. found_end w done n [] at (inl refl), follows_end)
  all_words (x ∷ words) = let later = all_words words in (one_more x words later.0 later.1, follows_more x words later.0)

  -- ---- what such words give

  one_named : (how : Reading) (ts : List Text) → length ts ≤ 1 → ts ≡ named_once (option_and_then (λ r. slice_get r.values 0) (row_for (codes "read") how ts))
  one_named how (x ∷ y ∷ ts) few = absurd (omega (arith, few))
  one_named _ _ _ = refl

  pub behind : ((all : List Argument) → ((id : Text) → length (given_as id all) ≤ 1) → (a : Argument) → has a ≡ true → Handled s all a) → Leaves s
      → (words : List Text) → length words ≤ usize_max → AreTexts words → level_fault s [] nothing_held words false [] ≡ [] → Behind has (rows_after s.rules [] words) words
  behind handled leave words fits u e = record {
    told = f.told;
    counts = λ o. counted o;
    named = one_named (how_read s (codes "read")) (given_as (codes "read") all) (f.few (codes "read"))
        ∙ ap (λ (r : Option Row). named_once (option_and_then (λ (x : Row). slice_get x.values 0) r)) (sym (ap (row_at (codes "read")) rows_are ∙ leave (Option Row) (row_at (codes "read")) (λ o. default_other o (codes "read") (apart (codes "read") refl o)) ended.rows_so ∙ ended.hold (codes "read")));
  }
    where
      settling : Kinds
      settling = settle_fault s.rules s.args_override_self (walk s.rules [] nothing_held words).held

      f : Found [] words
      f =
          let after = then_none (walk_fault s [] (walk_from nothing_held) words) _ e in
          (all_words words).0 (walk_from nothing_held) [] 0
          (record { rows_so = []; stands = record { waiting = idle; rows = []; pending = None; is = refl; free = refl; settled = refl; settling = refl; few = omega arith }; hold = λ id. refl; few = λ id. omega arith })
          (omega (arith, fits)) u (record { walking = first_none (walk_fault s [] (walk_from nothing_held) words) _ e; ending = first_none settling _ after })

      all : List Argument
      all = f.told.arguments

      each : Each s all all
      each = each_of s all has (handled all f.few) all f.told.taken

      few_words : length f.told.line ≤ usize_max
      few_words = let size = ap length f.told.are in let parts = length-append f.told.line f.told.mark in omega (arith, fits, size, parts)

      ended : Ended s all (f.told.line ++ f.told.mark)
      ended = arguments_end s all each f.told.line f.told.mark f.told.say f.told.end few_words

      rows_are : rows_after s.rules [] words ≡ fold with_default ended.rows_so s.rules
      rows_are = ap (rows_after s.rules []) f.told.are ∙ ended.rows_are

      counted : (o : Switch) → length (given_as (switch_name o) all) ≡ (if is_set (switch_name o) (rows_after s.rules [] words) then 1 else 0)
      counted o =
          count_set s ended.rows_so all o ended.hold each (f.few (switch_name o))
          ∙ sym (ap (λ (b : Bool). if b then 1 else 0) (ap (is_set (switch_name o)) rows_are ∙ leave Bool (is_set (switch_name o)) (default_set o) ended.rows_so))
