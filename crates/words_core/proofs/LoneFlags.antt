-- What the words of a command may be that have no fault, where it has flags for help and the version alone.
use Rattle.std.proofs.Common.{◌≡◌, ◌&&◌, ℕ, suc, Bool, true, false, not, List, [], ◌∷◌, length, Option, Some, None, is_some, cond, refl, inl, inr, ◌∙◌, ◌==◌, ◌⊎◌, ◌<◌, true≢false, ◌++◌, sym, ap, arith, map, take_all, eqb-true, unwrap_or}
use Rattle.std.specs.Prelude.{drop, encode_utf8, find, slice_get, fold, if◌then◌else◌}
use Rattle.std.specs.Option.{option_map_or}
use Rattle.std.specs.Str.{bytes_eq, chars}
use Rattle.std.proofs.lemmas.Slice.Eq.{bytes_eq-Decides}
use Rattle.std.proofs.lemmas.Bool.{cases_Bool}
use Rattle.clap.specs.Lexer.{long_of, short_of, has_byte, long_of_rest, name_and_value}
use Rattle.clap.specs.Words.{Kinds, Row, Rule, Shape, Text}
use Rattle.clap.specs.Faults.{bundle_fault, flag_word_fault, flags_fault, long_fault, other_fault, short_fault, step_fault, turn_fault, walk_fault}
use Rattle.clap.specs.Simple.{filled, help_rule, version_rule, with_index}
use Rattle.clap.specs.Walk.{Held, Names, Step, Waiting, Walk, after_flag, arg_by_index, arg_by_long, arg_by_short, bundle_met, has_long, has_short, idle, long_or_other, nothing_held, plain, short_or_plain, subcommand_met, subcommand_or_other, value, walk_from, walked, with_default}
use Rattle.clap.specs.declared.error.kind.ErrorKind.TheVariants as kind
use Rattle.words_core.proofs.KeptRows.{first_none, then_none, leaf, no_default, no_defaults}
use Rattle.words_core.proofs.Switches.{Pending, between, dashes, held, state, read_flag, switch_flag, both_false}
use Rattle.std.specs.List.{after_first, before_first, list_any, position_or_len}
use Rattle.std.proofs.lemmas.List.Sums.{passes_at_first, split_at_first}
use Rattle.words_core.specs.CommandLine.{Asked, plain as plain_command}
use Rattle.words_core.specs.RequestLine.{Switch, offered, switches}

abbrev pub help_flag : Rule
help_flag = with_index 1 (filled help_rule)

abbrev pub version_flag : Rule
version_flag = with_index 1 (filled version_rule)

pub stray : (b : Bool) → cond b (kind.UnknownArgument ∷ []) (kind.UnknownArgument ∷ kind.InvalidSubcommand ∷ []) ≡ [] → ⊥
stray true e = cc
stray false e = cc

pub turn_none : (s : Shape) (names : Names) (w : Walk) (word : Text) (words : List Text) → walk_fault s names w (word ∷ words) ≡ []
    → (turn_fault s names w word ≡ []) × (walk_fault s names (walked s.rules names w word) words ≡ [])
unfolding walk_fault
turn_none s names w word words e = (first_none _ _ e, then_none _ _ e)

-- the rules are the flags for help and the version, or one of them
abbrev pub AreFlags : List Rule → Type 1
AreFlags c = (P : Option Rule → Type 0) → P None → P (Some help_flag) → P (Some version_flag) → (test : Rule → Bool) → P (find test c)

-- behind the mark each word is one too many
abbrev pub marked : Waiting → List Row → Pending → Walk
marked waiting rows pending = record (state waiting rows pending) { is_trailing = true }

pub nothing_behind : (s : Shape) (names : Names) → arg_by_index s.rules 1 ≡ None → (waiting : Waiting) (rows : List Row) (pending : Pending) (words : List Text)
    → walk_fault s names (marked waiting rows pending) words ≡ [] → words ≡ []
nothing_behind s names none waiting rows pending [] e = refl
nothing_behind s names none waiting rows pending (x ∷ xs) e = absurd (stray s.is_leaf (rw none at (turn_none s names (marked waiting rows pending) x xs e).0))

-- a command of such rules, before its first word: one that is not the mark fails
module _ (s : Shape) (names : Names) (flags : AreFlags s.rules) (none : arg_by_index s.rules 1 ≡ None) where
  abbrev h : Held
  h = held [] None

  long_fails : (name : Text) (v : Option Text) → long_fault s.rules s.args_override_self (arg_by_long s.rules name) v h ≡ [] → ⊥
  long_fails name None = flags (λ o. long_fault s.rules s.args_override_self o None h ≡ [] → ⊥) (λ e. cc) (λ e. cc) (λ e. cc) (λ a. not (is_some a.index) && has_long a name)
  long_fails name (Some v) = flags (λ o. long_fault s.rules s.args_override_self o (Some v) h ≡ [] → ⊥) (λ e. cc) (λ e. cc) (λ e. cc) (λ a. not (is_some a.index) && has_long a name)

  short_fails : (x : ℕ) (rest : Text) (next : Held → Kinds) → short_fault s.rules s.args_override_self (arg_by_short s.rules x) rest h next ≡ [] → ⊥
  short_fails x rest next = flags (λ o. short_fault s.rules s.args_override_self o rest h next ≡ [] → ⊥) (λ e. cc) (λ e. cc) (λ e. cc) (λ a. not (is_some a.index) && has_short a x)

  bundle_fails : (n : ℕ) (bundle : Text) (x : ℕ) → slice_get (chars bundle) 0 ≡ Some x → flags_fault s.rules s.args_override_self (suc n) bundle 0 h ≡ [] → ⊥
  unfolding flags_fault
  bundle_fails n bundle x c e =
      let rest = drop (length (encode_utf8 x)) bundle in
      short_fails x rest (flags_fault s.rules s.args_override_self n rest 0) (rw c at e)

  -- what stands for a positional is one word too many: there is none
  abbrev Passes : Held × Step → Type 0
  Passes met = step_fault s 1 met.0 met.1 ≡ []

  stray_fails : (i : Held) → Passes (i, value) → ⊥
  stray_fails i e = stray s.is_leaf (rw none at e)

  bundle_passes : (n : ℕ) (bundle : Text) (word : Text) → slice_get (chars bundle) 0 ≡ None → Passes (after_flag s.rules idle word (bundle_met s.rules (suc n) bundle 0 plain h).0 (bundle_met s.rules (suc n) bundle 0 plain h).1) → ⊥
  unfolding bundle_met
  bundle_passes n bundle word c e = stray_fails h (rw c at e)

  short_or_fails : (word : Text) (o : Option Text) → option_map_or (λ bundle. bundle_fault s.rules s.args_override_self bundle h) o [] ≡ [] → Passes (short_or_plain s.rules idle word o h) → ⊥
  unfolding bundle_met
  short_or_fails word (Some (x ∷ xs)) f e =
      (elim (slice_get (chars (x ∷ xs)) 0) as (λ (o : Option ℕ). slice_get (chars (x ∷ xs)) 0 ≡ o → ⊥) [ None ↦ λ c. bundle_passes (length xs) (x ∷ xs) word c e | Some k ↦ λ c. bundle_fails (length xs) (x ∷ xs) k c f ]) refl
  short_or_fails _ _ _ e = stray_fails h e

  long_or_fails : (word : Text) (o : Option (Text × Option Text)) → flag_word_fault s.rules s.args_override_self o word h ≡ [] → Passes (long_or_other s.rules idle word o h) → ⊥
  long_or_fails word (Some p) f e = long_fails p.0 p.1 f
  long_or_fails word None f e = short_or_fails word (short_of word) f e

  other_fails : (word : Text) (o : Option Text) → o ≡ None → bytes_eq word dashes ≡ false → other_fault s o word h ≡ [] → Passes (subcommand_or_other s.rules o idle 1 word h) → ⊥
  other_fails word (Some n) m d f e = cc
  other_fails word None m d f e = long_or_fails word (long_of word) (rw d at f) (rw d at e)

  turn_fails : (word : Text) → subcommand_met names idle word ≡ None → bytes_eq word dashes ≡ false → turn_fault s names (between [] None) word ≡ [] → ⊥
  turn_fails word m d e =
      let named = subcommand_met names idle word in
      let met = subcommand_or_other s.rules named idle 1 word h in
      let word_none = first_none (other_fault s named word h) (step_fault s 1 met.0 met.1) e in
      let step_none = then_none (other_fault s named word h) (step_fault s 1 met.0 met.1) e in
      other_fails word named m d word_none step_none

  -- a first word that names no subcommand is the mark, and stands alone
  pub lone_mark : (word : Text) (words : List Text) → subcommand_met names idle word ≡ None → walk_fault s names (walk_from nothing_held) (word ∷ words) ≡ [] → (word ≡ dashes) × (words ≡ [])
  unfolding walked
  lone_mark word words m e = elim (cases_Bool (bytes_eq word dashes)) [
    | inl d ↦ ((bytes_eq-Decides word dashes).0 d, nothing_behind s names none idle [] None words (rw (m, d) at (turn_none s names (walk_from nothing_held) word words e).1))
    | inr d ↦ absurd (turn_fails word m d (turn_none s names (walk_from nothing_held) word words e).0)
  ]

-- ---- a command without words of its own as it is built, and its options by their long names

all_before : (p : ℕ → Bool) (xs : Text) → list_any p xs ≡ false → position_or_len p xs ≡ length xs
all_before p [] e = refl
all_before p (x ∷ xs) e =
    let parts = both_false (p x) (list_any p xs) e in
    rw parts.0 (omega (arith, (all_before p xs parts.1)))

none_before : (p : ℕ → Bool) (xs : Text) → list_any p xs ≡ false → before_first p xs ≡ xs
none_before p xs e = take_all (position_or_len p xs) xs (omega (arith, all_before p xs e))

-- what a test finds is inside
found_inside : (p : ℕ → Bool) (xs : Text) → list_any p xs ≡ true → position_or_len p xs < length xs
found_inside p [] e = absurd (true≢false (sym e))
found_inside p (z ∷ zs) e = elim (cases_Bool (p z)) [ inl t ↦ rw t (omega arith) | inr t ↦ let rest = found_inside p zs (rw t at e) in rw t (omega (arith, rest)) ]

-- a text with an `=` is what stands before the first, it, and what stands behind it
around : (text : Text) → has_byte 61 text ≡ true → text ≡ before_first (λ z. z == 61) text ++ (61 ∷ after_first (λ z. z == 61) text)
around text e =
    let inside = found_inside (λ z. z == 61) text e in
    split_at_first (λ z. z == 61) text 0 inside
    ∙ ap (λ (c : ℕ). before_first (λ z. z == 61) text ++ (c ∷ after_first (λ z. z == 61) text)) (eqb-true _ 61 (passes_at_first (λ z. z == 61) text 0 inside))

-- a name, and a value behind `=` (61)
abbrev valued : Text → Option Text → Text
valued name None = name
valued name (Some v) = name ++ (61 ∷ v)

-- a text is its name and its value
as_valued : (text : Text) → text ≡ valued (name_and_value text).0 (name_and_value text).1
as_valued text = go (has_byte 61 text) refl
  where
    go : (b : Bool) → has_byte 61 text ≡ b → text ≡ valued (before_first (λ x. x == 61) text) (if b then Some (after_first (λ x. x == 61) text) else None)
    go true t = around text t
    go false t = sym (none_before (λ x. x == 61) text t)

pub long_word : (word name : Text) (v : Option Text) → long_of word ≡ Some (name, v) → word ≡ 45 ∷ 45 ∷ valued name v
long_word [] name v e = cc
long_word (x ∷ []) name v e = elim (cases_Bool (x == 45)) [ inl t ↦ let bad : None ≡ Some (name, v) = rw t at e in cc | inr t ↦ let bad : None ≡ Some (name, v) = rw t at e in cc ]
long_word (x ∷ y ∷ rest) name v e = go (x == 45) (y == 45) refl refl
  where
    behind : (rest : Text) → long_of_rest rest ≡ Some (name, v) → rest ≡ valued name v
    behind [] f = cc
    behind (z ∷ zs) f = as_valued (z ∷ zs) ∙ ap (λ (o : Option (Text × Option Text)). valued (unwrap_or o (name, v)).0 (unwrap_or o (name, v)).1) f

    go : (a b : Bool) → (x == 45) ≡ a → (y == 45) ≡ b → x ∷ y ∷ rest ≡ 45 ∷ 45 ∷ valued name v
    go true true t u = rw (eqb-true x 45 t, eqb-true y 45 u, behind rest (rw (t, u) at e)) refl
    go true false t u = let bad : None ≡ Some (name, v) = rw (t, u) at e in cc
    go false b t u = let bad : None ≡ Some (name, v) = rw t at e in cc

-- ---- such a subcommand

abbrev pub plain_leaf : Bool → Asked → Shape
plain_leaf takes t = leaf (offered takes (plain_command t).shape)

pub leaf_no_index : (takes : Bool) (t : Asked) → arg_by_index (plain_leaf takes t).rules 1 ≡ None
leaf_no_index true t = refl
leaf_no_index false t = refl

-- nothing, or the mark
abbrev pub IsEnd : List Text → Type 0
IsEnd mark = (mark ≡ []) ⊎ (mark ≡ dashes ∷ [])

-- what the default of each option leaves, those of a command leave at the end of its words
abbrev pub Leaves : Shape → Type 1
Leaves s = (X : Type 0) (of : List Row → X) → ((o : Switch) (rows : List Row) → of (with_default rows (switch_flag o)) ≡ of rows) → (rows : List Row) → of (fold with_default rows s.rules) ≡ of rows

-- arguments of a command's own have no default, or are options
abbrev pub AreOwn : List Rule → Type 0
AreOwn [] = Unit {0}
AreOwn (r ∷ own) = ((r.defaults ≡ []) ⊎ ((o : Switch) × (r ≡ switch_flag o))) × AreOwn own

module _ (X : Type 0) (of : List Row → X) (past : (o : Switch) (rows : List Row) → of (with_default rows (switch_flag o)) ≡ of rows) where
  options_leave : (os : List Switch) (rows : List Row) → of (fold with_default rows (map switch_flag os ++ help_flag ∷ [])) ≡ of rows
  options_leave [] rows = ap of (no_default help_flag rows refl)
  options_leave (o ∷ os) rows = options_leave os (with_default rows (switch_flag o)) ∙ past o rows

  pub own_leave : (own : List Rule) → AreOwn own → (rows : List Row) → of (fold with_default rows (own ++ read_flag ∷ map switch_flag switches ++ help_flag ∷ [])) ≡ of rows
  own_leave [] are rows = options_leave switches (with_default rows read_flag) ∙ ap of (no_default read_flag rows refl)
  own_leave (r ∷ own) (inl none, are) rows = own_leave own are (with_default rows r) ∙ ap of (no_default r rows none)
  own_leave (r ∷ own) (inr is, are) rows = own_leave own are (with_default rows r) ∙ ap (λ (x : Rule). of (with_default rows x)) is.1 ∙ past is.0 rows

pub plain_leave : (takes : Bool) (t : Asked) → Leaves (plain_leaf takes t)
plain_leave true t X of past rows = own_leave X of past [] tt rows
plain_leave false t X of past rows = ap of (no_defaults (read_flag ∷ help_flag ∷ []) rows (refl, (refl, tt)))
