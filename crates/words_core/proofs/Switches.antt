-- The options as one list, in which each is found by its name: what holds all along the list holds of each.
use Rattle.std.proofs.Common.{◌≡◌, ◌||◌, ◌∙◌, Bool, true, false, true≢false, List, ◌∷◌, Option, Some, None, option_map, unwrap_or, refl, sym, ap, ℕ, [], is_some, option_and_then, subst, inl, inr, ◌&&◌, ◌++◌}
use Rattle.std.specs.Prelude.{find, codes, if◌then◌else◌, fold}
use Rattle.std.specs.List.{list_all}
use Rattle.std.specs.Str.{bytes_eq}
use Rattle.std.proofs.lemmas.Slice.Eq.{bytes_eq-Decides}
use Rattle.words_core.specs.declared.option_words.Options.{Options}
use Rattle.words_core.specs.declared.option_words.Writing.{Writing}
use Rattle.words_core.specs.declared.option_words.Writing.TheVariants.{Lines}
use Rattle.clap.specs.Words.{Row, Text, Rule, Shape}
use Rattle.clap.proofs.WalkLemmas.{both}
use Rattle.words_core.specs.RequestLine.{Switch, capture, is_dated, is_object, is_on, is_option, is_set, json, options_given, options_in, replay_switches, switch_name, switch_word, time, writing_by, read_rule}
use Rattle.std.specs.Option.{option_map_or}
use Rattle.std.proofs.lemmas.Bool.{cases_Bool}
use Rattle.clap.specs.Simple.{filled, with_index}
use Rattle.clap.specs.Walk.{has_row, reading_by, row_text, stronger, used, with_default, with_values, without, Held, Waiting, Walk, idle, settled_rows, subcommand_met, walked}
use Rattle.clap.specs.declared.builder.value_parser.Reading.{Reading}
use Rattle.clap.specs.declared.parser.matches.ValueSource.{ValueSource}
use Rattle.clap.specs.declared.parser.matches.ValueSource.TheVariants.{CommandLine, DefaultValue}
use Rattle.words_core.specs.CommandLine.{option_named}
use Rattle.clap.specs.Takes.{settle_passes, walk_passes}

pub both_false : (a b : Bool) → (a || b) ≡ false → (a ≡ false) × (b ≡ false)
both_false false b e = (refl, e)
both_false true b e = absurd (true≢false e)

-- the option of a name
abbrev by_name : Text → Option Switch
by_name name = find (λ o. bytes_eq (switch_name o) name) replay_switches

by_own_name : (o : Switch) → by_name (switch_name o) ≡ Some o
by_own_name capture = refl
by_own_name _ = refl

-- options with one name are one
pub one_name : (s o : Switch) → bytes_eq (switch_name s) (switch_name o) ≡ true → s ≡ o
one_name s o e =
    ap (λ (x : Option Switch). unwrap_or x s) (sym (by_own_name s) ∙ ap by_name ((bytes_eq-Decides (switch_name s) (switch_name o)).0 e) ∙ by_own_name o)

-- texts that differ
pub differs : (a b : Text) → (b ≡ a → ⊥) → bytes_eq a b ≡ false
differs a b other = (elim (bytes_eq a b) as (λ (x : Bool). bytes_eq a b ≡ x → x ≡ false) [ true ↦ λ e. absurd (other (sym ((bytes_eq-Decides a b).0 e))) | false ↦ λ e. refl ]) refl

-- a name that no option has
module _ (id : Text) (none : by_name id ≡ None) where
  pub not_named : (o : Switch) → switch_name o ≡ id → ⊥
  not_named o same = let bad : Some o ≡ None = sym (by_own_name o) ∙ ap by_name same ∙ none in cc

  pub apart : (o : Switch) → bytes_eq (switch_name o) id ≡ false
  apart o = differs (switch_name o) id (λ same. not_named o (sym same))

  pub apart_from : (o : Switch) → bytes_eq id (switch_name o) ≡ false
  apart_from o = differs id (switch_name o) (not_named o)

-- the options that a command takes: those of all that read events, or all
abbrev pub is_common : Switch → Bool
is_common o = is_option (switch_word o)

-- the options are those of which a test holds
abbrev pub AreAll : (Switch → Bool) → List Switch → Type 0
AreAll has os = list_all has os ≡ true

pub first_has : (has : Switch → Bool) (o : Switch) (os : List Switch) → AreAll has (o ∷ os) → (has o ≡ true) × AreAll has os
first_has has o os all = both (has o) (list_all has os) all

-- ---- which are on

-- how is written what is told says which of the two options is given
writing_says : (d o : Bool) (w : Writing) → writing_by d o ≡ Some w → (d ≡ is_dated w) × (o ≡ is_object w)
writing_says true true w e = cc
writing_says false true w e = (ap (λ x. is_dated (unwrap_or x w)) e, ap (λ x. is_object (unwrap_or x w)) e)
writing_says _ _ w e = (ap (λ x. is_dated (unwrap_or x w)) e, ap (λ x. is_object (unwrap_or x w)) e)

writing_back : (w : Writing) → writing_by (is_dated w) (is_object w) ≡ Some w
writing_back Lines = refl
writing_back _ = refl

-- options by which are given are on where they are given
on_where_given : (given : Switch → Bool) (w : Writing) → writing_by (given time) (given json) ≡ Some w → (o : Switch) → given o ≡ is_on (options_given given w) o
on_where_given given w e time = (writing_says (given time) (given json) w e).0
on_where_given given w e json = (writing_says (given time) (given json) w e).1
on_where_given given w e _ = refl

-- and are these by which are on
given_back : (options : Options) → options_given (is_on options) options.writes ≡ options
given_back options = refl

-- the options that rows give are on where they are set
pub is_on_in : (rows : List Row) (options : Options) → options_in rows ≡ Some options → (o : Switch) → is_set (switch_name o) rows ≡ is_on options o
is_on_in rows options e o = go (writing_by (given time) (given json)) refl e
  where
    given : Switch → Bool
    given x = is_set (switch_name x) rows

    go : (x : Option Writing) → writing_by (given time) (given json) ≡ x → option_map (options_given given) x ≡ Some options → given o ≡ is_on options o
    go None f h = cc
    go (Some w) f h = on_where_given given w f o ∙ ap (λ (x : Option Options). is_on (unwrap_or x options) o) h

-- no option is given
abbrev pub no_options : Options
no_options = options_given (λ o. false) Lines

-- rows that set what is on give these options
pub options_from : (rows : List Row) (options : Options) → ((o : Switch) → is_set (switch_name o) rows ≡ is_on options o) → options_in rows ≡ Some options
options_from rows options same =
    (λ i. option_map (options_given (λ o. same o i)) (writing_by (same time i) (same json i)))
    ∙ ap (option_map (options_given (is_on options))) (writing_back options.writes) ∙ ap (λ (x : Options). Some x) (given_back options)

-- ---- the rows of the options, beside the rows of other arguments

abbrev pub once_if : Bool → ℕ
once_if b = if b then 1 else 0

abbrev pub row_at : Text → List Row → Option Row
row_at id rows = find (λ r. bytes_eq r.id id) rows

pub self_eq : (id : Text) → bytes_eq id id ≡ true
self_eq id = (bytes_eq-Decides id id).1 refl

-- ---- a use of one argument leaves the row of another

module _ (id other : Text) (apart : bytes_eq id other ≡ false) where
  same_apart : (r : Row) → bytes_eq r.id id ≡ true → bytes_eq r.id other ≡ false
  same_apart r t = subst (λ (w : Text). bytes_eq w other ≡ false) (sym ((bytes_eq-Decides r.id id).0 t)) apart

  with_other : (how : Reading) (source : ValueSource) (values : List Text) (rows : List Row) → row_at other (with_values id how source values rows) ≡ row_at other rows
  with_other how source values [] = rw apart refl
  with_other how source values (r ∷ rows) =
      elim (cases_Bool (bytes_eq r.id id)) [ inl t ↦ let no = same_apart r t in rw (t, no) refl | inr t ↦ rw t (ap (λ (o : Option Row). if bytes_eq r.id other then Some r else o) (with_other how source values rows)) ]

  without_other : (rows : List Row) → row_at other (without id rows) ≡ row_at other rows
  without_other [] = refl
  without_other (r ∷ rows) = elim (cases_Bool (bytes_eq r.id id)) [ inl t ↦ let no = same_apart r t in rw (t, no) refl | inr t ↦ rw t (ap (λ (o : Option Row). if bytes_eq r.id other then Some r else o) (without_other rows)) ]

  pub set_other : (how : Reading) (source : ValueSource) (values : List Text) (rows : List Row) → row_at other (with_values id how source values (without id rows)) ≡ row_at other rows
  set_other how source values rows = with_other how source values (without id rows) ∙ without_other rows

  pub more_other : (how : Reading) (source : ValueSource) (values : List Text) (rows : List Row) → row_at other (with_values id how source values rows) ≡ row_at other rows
  more_other = with_other

-- ---- and gives its own

abbrev pub new_row : Text → Reading → ValueSource → List Text → Row
new_row id how source values = record { id = id; values = values; count = None; source = Some source; reading = how }

no_row : (r : Row) (b : Bool) (o : Option Row) → b ≡ true → (if b then Some r else o) ≡ None → ⊥
no_row r true o t e = cc
no_row r false o t e = true≢false (sym t)

without_none : (id : Text) (rows : List Row) → row_at id rows ≡ None → without id rows ≡ rows
without_none id [] e = refl
without_none id (r ∷ rows) e = elim (cases_Bool (bytes_eq r.id id)) [ inl t ↦ absurd (no_row r (bytes_eq r.id id) (row_at id rows) t e) | inr t ↦ rw t (ap (λ (l : List Row). r ∷ l) (without_none id rows (rw t at e))) ]

with_own : (id : Text) (how : Reading) (source : ValueSource) (values : List Text) (rows : List Row) → row_at id rows ≡ None
    → row_at id (with_values id how source values rows) ≡ Some (new_row id how source values)
with_own id how source values [] e = let same = self_eq id in rw same refl
with_own id how source values (r ∷ rows) e = elim (cases_Bool (bytes_eq r.id id)) [ inl t ↦ absurd (no_row r (bytes_eq r.id id) (row_at id rows) t e) | inr t ↦ rw t (rw t (with_own id how source values rows (rw t at e))) ]

pub set_own : (id : Text) (how : Reading) (source : ValueSource) (values : List Text) (rows : List Row) → row_at id rows ≡ None
    → row_at id (with_values id how source values (without id rows)) ≡ Some (new_row id how source values)
set_own id how source values rows e = ap (λ (l : List Row). row_at id (with_values id how source values l)) (without_none id rows e) ∙ with_own id how source values rows e

pub strongest : (s : Option ValueSource) → stronger s CommandLine ≡ CommandLine
strongest (Some CommandLine) = refl
strongest _ = refl

pub has_at : (id : Text) (rows : List Row) → has_row id rows ≡ is_some (row_at id rows)
has_at id [] = refl
has_at id (r ∷ rows) = elim (cases_Bool (bytes_eq r.id id)) [ inl t ↦ rw t refl | inr t ↦ rw t (has_at id rows) ]

-- ---- the options

-- an option as it is built
abbrev pub switch_flag : Switch → Rule
switch_flag o = with_index 1 (filled (option_named (switch_name o)))

-- and that of the name of a file
abbrev pub read_flag : Rule
read_flag = with_index 1 (filled read_rule)

abbrev pub use_switch : Switch → List Row → List Row
use_switch o rows = used (switch_flag o) [] rows

-- ---- the rows of defaults at the end

-- the default of an option says that it was not given
pub default_other : (o : Switch) (id : Text) → bytes_eq (switch_name o) id ≡ false → (rows : List Row) → row_at id (with_default rows (switch_flag o)) ≡ row_at id rows
default_other o id apart rows = elim (cases_Bool (has_row (switch_name o) rows)) [ inl h ↦ rw h refl | inr h ↦ rw h (more_other (switch_name o) id apart _ DefaultValue _ rows) ]

is_none : (r : Option Row) → is_some r ≡ false → r ≡ None
is_none None e = refl
is_none (Some r) e = absurd (true≢false e)

-- an option is set by its row
abbrev pub set_by : Option Row → Bool
set_by r = option_map_or (bytes_eq (codes "true")) (option_and_then row_text r) false

default_own : (o : Switch) (rows : List Row) → is_set (switch_name o) (with_default rows (switch_flag o)) ≡ is_set (switch_name o) rows
default_own o rows = go (has_row (switch_name o) rows) refl
  where
    go : (b : Bool) → has_row (switch_name o) rows ≡ b → is_set (switch_name o) (with_default rows (switch_flag o)) ≡ is_set (switch_name o) rows
    go true h = rw h refl
    go false h =
        let none = is_none (row_at (switch_name o) rows) (sym (has_at (switch_name o) rows) ∙ h) in
        rw h (ap set_by (with_own (switch_name o) (reading_by (switch_flag o)) DefaultValue (codes "false" ∷ []) rows none) ∙ sym (ap set_by none))

pub default_set : (o s : Switch) (rows : List Row) → is_set (switch_name o) (with_default rows (switch_flag s)) ≡ is_set (switch_name o) rows
default_set o s rows = elim (cases_Bool (bytes_eq (switch_name s) (switch_name o))) [
  | inl t ↦ subst (λ (x : Switch). is_set (switch_name x) (with_default rows (switch_flag s)) ≡ is_set (switch_name x) rows) (one_name s o t) (default_own s rows)
  | inr t ↦ ap set_by (default_other s (switch_name o) t rows)
]

-- ---- where a walk over words is, and that words pass one behind the other

pub both_true : (a b : Bool) → a ≡ true → b ≡ true → (a && b) ≡ true
both_true a b e f = rw (e, f) refl

-- the mark behind which no option follows
abbrev pub dashes : Text
dashes = 45 ∷ 45 ∷ []

abbrev pub Pending : Type 0
Pending = Option (Text × List Text)

abbrev pub held : List Row → Pending → Held
held rows pending = record { rows = rows; pending = pending; skip = 0 }

-- between two words
abbrev pub state : Waiting → List Row → Pending → Walk
state waiting rows pending = record { held = held rows pending; waiting = waiting; position = 1; is_trailing = false; stopped = None }

abbrev pub between : List Row → Pending → Walk
between = state idle

-- a command without subcommands meets none
pub meets_none : (waiting : Waiting) (word : Text) → subcommand_met [] waiting word ≡ None
meets_none idle word = refl
meets_none _ word = refl

-- the rows with what is pending, and whether that passes
abbrev pub settled_to : Shape → List Row → Pending → List Row
settled_to s rows pending = settled_rows s.rules pending rows

abbrev pub settles : Shape → List Row → Pending → Bool
settles s rows pending = settle_passes s.rules false (held rows pending)

pub passes_behind : (s : Shape) (w : Walk) (first second : List Text) → walk_passes s [] w first ≡ true → walk_passes s [] (fold (walked s.rules []) w first) second ≡ true
    → walk_passes s [] w (first ++ second) ≡ true
unfolding walk_passes
passes_behind s w [] second p q = q
passes_behind s w (x ∷ first) second p q =
    let parts = both _ _ p in
    both_true _ _ parts.0 (passes_behind s (walked s.rules [] w x) first second parts.1 q)
