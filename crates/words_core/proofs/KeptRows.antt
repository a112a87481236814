-- What the matches of words without a fault keep of their arguments.
use Rattle.std.proofs.Common.{◌≡◌, ◌&&◌, ℕ, zero, suc, Bool, true, false, true≢false, List, [], ◌∷◌, ◌++◌, length, drop, Option, Some, None, is_some, option_and_then, option_map, refl, sym, ap, subst, unwrap_or, ◌∙◌, inl, inr, ◌||◌, ◌<◌, ◌^◌, not, map, Result, Ok, Err, arith, if◌then◌else◌}
use Rattle.std.specs.Prelude.{encode_utf8, find, fold, slice_get, codes, pos}
use Rattle.std.specs.Option.{option_map_or}
use Rattle.std.specs.Str.{bytes_eq, chars}
use Rattle.std.proofs.lemmas.Slice.Eq.{bytes_eq-Decides}
use Rattle.std.proofs.lemmas.Bool.{cases_Bool}
use Rattle.clap.specs.Lexer.{long_of, short_of, without_minus}
use Rattle.clap.specs.Words.{Kinds, Row, Rule, Shape, Text, all_of, first_of, one_of, read_as, ReadsOne, one_text, rows_of}
use Rattle.clap.specs.Kinds.{check_kinds, or_else, range_kinds}
use Rattle.clap.specs.Simple.{built_leaf, inherited, marked_built, with_leaf_noted, filled, help_rule, with_index}
use Rattle.clap.specs.Facts.{explicit_source, unwrap_or_range}
use Rattle.clap.specs.Faults.{action_fault, check_fault, bundle_fault, bundle_step_fault, defaults_fault, flag_word_fault, flags_fault, level_fault, long_fault, option_fault, other_fault, positional_fault, react_fault, repeat_fault, set_fault, settle_fault, short_fault, step_fault, stray_fault, turn_fault, use_fault, values_fault, walk_fault, word_fault}
use Rattle.clap.specs.Takes.{is_given, value_passes}
use Rattle.clap.specs.Walk.{Held, Names, Outcome, Step, Waiting, Walk, action_of, after_flag, after_step, arg_by_id, arg_by_index, arg_by_long, arg_by_short, at_row, attached_value, bundle, bundle_met, bundle_step, done, finished, flag_met, has_row, is_pending, long_met, long_or_other, more_values, most_values, nothing_held, option, option_met, option_word, plain, plain_word, reacted, reading_by, refused, row_text, settled, settled_rows, short_met, short_or_plain, subcommand_met, subcommand_or_other, takes_several, takes_values, to_positional, trailing, used, used_by_id, value, values_or_missing, walk, walk_from, walked, walked_from, with_default, with_values, without, word_met, rows_after}
use Rattle.clap.specs.declared.builder.action.ArgAction.TheVariants.{Set}
use Rattle.clap.specs.declared.builder.value_parser.Reading.{Reading}
use Rattle.clap.specs.declared.error.kind.ErrorKind.{ErrorKind}
use Rattle.clap.specs.declared.error.kind.ErrorKind.TheVariants as kind
use Rattle.clap.specs.declared.parser.matches.ValueSource.{ValueSource}
use Rattle.clap.specs.declared.parser.matches.ValueSource.TheVariants.{CommandLine, DefaultValue}
use Rattle.words_core.specs.RequestLine.{request_line, Switch, offered, switch_name, switches}
use Rattle.std.specs.Str.Parse.{ExplainsUnsignedError, HasUnsignedDigitsIfOk, IsNumeral, ParsesUnsigned, digits_value, without_leading_plus}
use Rattle.std.specs.declared.num.ParseIntError.{ParseIntError}
use Rattle.clap.specs.ValueTests.{is_unsigned_in}
use Rattle.clap.specs.Values.{Accepts}
use Rattle.clap.specs.declared.parser.matches.Found.{Found}
use Rattle.clap.specs.declared.builder.value_parser.ValueParser.TheVariants as parses
use Rattle.clap.proofs.WalkLemmas.{one_text-rows}
use Rattle.clap.proofs.CallerReads.{signed_reads}
use Rattle.clap.proofs.ValueTestLemmas.{Accepts-accepts, accepts-Accepts}
use Rattle.block_core.specs.Period.{IsPeriod}
use Rattle.words_core.specs.CommandLine.{Meaning, id_rule, number_said, period_rule, watch, watch_asked, watch_shape}
use Rattle.words_core.proofs.Switches.{read_flag, self_eq, switch_flag, not_named}

-- where neither of two steps fails, the second does not
pub then_none : (a b : Kinds) → or_else a b ≡ [] → b ≡ []
then_none [] b e = e
then_none (k ∷ ks) b e = cc

-- and nor does the first
pub first_none : (a b : Kinds) → or_else a b ≡ [] → a ≡ []
first_none [] b e = refl
first_none (k ∷ ks) b e = cc

-- what each of a list is
abbrev pub EachIs : {X : Type 0} (P : X → Type 0) → List X → Type 0
EachIs P [] = Unit {0}
EachIs P (x ∷ xs) = P x × EachIs P xs

-- the one is that is found, and passes
pub found_is : {X : Type 0} (P : X → Type 0) (test : X → Bool) (xs : List X) → EachIs P xs → (x : X) → find test xs ≡ Some x → P x × (test x ≡ true)
found_is P test [] each x e = cc
found_is {X} P test (y ∷ ys) each x e =
    elim (cases_Bool (test y)) [ inl t ↦ let same : Some y ≡ Some x = rw t at e in subst (λ (z : X). P z × (test z ≡ true)) (ap (λ (o : Option X). unwrap_or o y) same) (each.0, t) | inr t ↦ found_is P test ys each.1 x (rw t at e) ]

-- where a level has no fault, its last checks pass
pub level_checked : (s : Shape) (names : Names) (h : Held) (words : List Text) (has : Bool) (below : Kinds) → level_fault s names h words has below ≡ []
    → check_fault s (finished s.rules (walk s.rules names h words).held) has ≡ []
level_checked s names h words has below e =
    let end = (walk s.rules names h words).held in
    let last = check_fault s (finished s.rules end) has in
    let filled = or_else (defaults_fault (settled s.rules end).rows s.rules) last in
    let ended = or_else (settle_fault s.rules s.args_override_self end) filled in
    then_none (defaults_fault (settled s.rules end).rows s.rules) last
    (then_none (settle_fault s.rules s.args_override_self end) filled
    (then_none below ended
    (then_none (walk_fault s names (walk_from h) words) (or_else below ended) e)))

-- an argument that is required is given
pub wanted : (help below argument : Bool) → check_kinds help below argument ≡ [] → argument ≡ false
wanted false false false e = refl
wanted _ _ _ e = cc

-- the subcommands as they are built
abbrev pub leaf : Shape → Shape
leaf s = built_leaf (inherited (with_leaf_noted (marked_built request_line.top)) s)

-- the texts of an argument in rows
abbrev pub texts_in : Text → List Row → List Text
texts_in name rows = unwrap_or (all_of name rows) []

-- ---- a walk keeps what each use of an argument keeps

-- a use of the argument that does not fail keeps this of the rows
abbrev pub Keeps : Bool → (List Row → Type 0) → Rule → Type 0
Keeps again P a = (values : List Text) (rows : List Row) → P rows → use_fault again a values rows ≡ [] → P (used a values rows)

abbrev pub KeepsIf : Bool → (List Row → Type 0) → Option Rule → Type 0
KeepsIf again P None = Unit {0}
KeepsIf again P (Some a) = Keeps again P a

-- each of these arguments does
abbrev pub EachKeeps : Bool → (List Row → Type 0) → List Rule → Type 0
EachKeeps again P = EachIs (Keeps again P)

pub found_keeps : (again : Bool) (P : List Row → Type 0) (c : List Rule) → EachKeeps again P c → (test : Rule → Bool) → KeepsIf again P (find test c)
found_keeps again P c all test = (elim (find test c) as (λ (o : Option Rule). find test c ≡ o → KeepsIf again P o) [ None ↦ λ e. tt | Some a ↦ λ e. (found_is (Keeps again P) test c all a e).0 ]) refl

module _ (c : List Rule) (again : Bool) (P : List Row → Type 0) (all : (test : Rule → Bool) → KeepsIf again P (find test c)) where
  used_by_id_keeps : (o : Option Rule) (values : List Text) (rows : List Row) → KeepsIf again P o → P rows → option_map_or (λ a. use_fault again a values rows) o [] ≡ [] → P (used_by_id o values rows)
  used_by_id_keeps None values rows k g e = g
  used_by_id_keeps (Some a) values rows k g e = k values rows g e

  settled_rows_keep : (p : Option (Text × List Text)) (rows : List Row) → P rows
      → option_map_or (λ q. option_map_or (λ a. use_fault again a q.1 rows) (arg_by_id c q.0) []) p [] ≡ [] → P (settled_rows c p rows)
  settled_rows_keep None rows g e = g
  settled_rows_keep (Some q) rows g e = used_by_id_keeps (arg_by_id c q.0) q.1 rows (all (λ a. bytes_eq a.id q.0)) g e

  settled_keeps : (h : Held) → P h.rows → settle_fault c again h ≡ [] → P (settled c h).rows
  settled_keeps h g e = settled_rows_keep h.pending h.rows g e

  reacted_keeps : (a : Rule) (values : List Text) (h : Held) → Keeps again P a → P h.rows → react_fault c again a values h ≡ [] → P (reacted c a values h).rows
  reacted_keeps a values h k g e =
      let before = settle_fault c again h in
      let used_so = use_fault again a values (settled c h).rows in
      k values (settled c h).rows (settled_keeps h g (first_none before used_so e)) (then_none before used_so e)

  option_keeps : (a : Rule) (v : Option Text) (h : Held) → Keeps again P a → P h.rows → option_fault c again a v h ≡ [] → P (option_met c a v h).0.rows
  option_keeps a None h k g e = settled_keeps h g e
  option_keeps a (Some v) h k g e = reacted_keeps a (v ∷ []) h k g e

  flag_keeps : (a : Rule) (v : Option Text) (h : Held) → Keeps again P a → P h.rows → (if is_some v then kind.TooManyValues ∷ [] else react_fault c again a [] h) ≡ [] → P (flag_met c a v h).0.rows
  flag_keeps a None h k g e = reacted_keeps a [] h k g e
  flag_keeps a (Some v) h k g e = g

  long_keeps : (o : Option Rule) (v : Option Text) (h : Held) → KeepsIf again P o → P h.rows → long_fault c again o v h ≡ [] → P (long_met c o v h).0.rows
  long_keeps None v h k g e = g
  long_keeps (Some a) v h k g e = go (takes_values a) e
    where
      go : (b : Bool) → (if b then option_fault c again a v h else (if is_some v then kind.TooManyValues ∷ [] else react_fault c again a [] h)) ≡ []
          → P (if b then option_met c a v h else flag_met c a v h).0.rows
      go true f = option_keeps a v h k g f
      go false f = flag_keeps a v h k g f

  short_keeps : (o : Option Rule) (rest : Text) (h : Held) (more : Held → Held × Outcome) (more_fault : Held → Kinds) → KeepsIf again P o
      → ((i : Held) → P i.rows → more_fault i ≡ [] → P (more i).0.rows) → P h.rows → short_fault c again o rest h more_fault ≡ [] → P (short_met c o rest h more).0.rows
  short_keeps None rest h more more_fault k goes_on g e = g
  short_keeps (Some a) rest h more more_fault k goes_on g e = go (takes_values a) e
    where
      go : (b : Bool) → (if b then option_fault c again a (attached_value rest) h else or_else (react_fault c again a [] h) (more_fault (reacted c a [] h))) ≡ []
          → P (if b then option_met c a (attached_value rest) h else more (reacted c a [] h)).0.rows
      go true f = option_keeps a (attached_value rest) h k g f
      go false f =
          let used_so = react_fault c again a [] h in
          let others = more_fault (reacted c a [] h) in
          goes_on (reacted c a [] h) (reacted_keeps a [] h k g (first_none used_so others f)) (then_none used_so others f)

  step_keeps : (n : ℕ) → ((flags : Text) (skip : ℕ) (so_far : Outcome) (h : Held) → P h.rows → flags_fault c again n flags skip h ≡ [] → P (bundle_met c n flags skip so_far h).0.rows)
      → (o : Option ℕ) (flags : Text) (skip : ℕ) (so_far : Outcome) (h : Held) → P h.rows → bundle_step_fault c again o flags skip h (flags_fault c again n) ≡ []
      → P (bundle_step c o flags skip so_far h (bundle_met c n)).0.rows
  step_keeps n goes_on None flags skip so_far h g e = g
  step_keeps n goes_on (Some x) flags zero so_far h g e =
      let rest = drop (length (encode_utf8 x)) flags in
      short_keeps (arg_by_short c x) rest h (bundle_met c n rest 0 done) (flags_fault c again n rest 0) (all _) (goes_on rest 0 done) g e
  step_keeps n goes_on (Some x) flags (suc skip) so_far h g e = goes_on (drop (length (encode_utf8 x)) flags) skip so_far h g e

  bundle_keeps : (n : ℕ) (flags : Text) (skip : ℕ) (so_far : Outcome) (h : Held) → P h.rows → flags_fault c again n flags skip h ≡ [] → P (bundle_met c n flags skip so_far h).0.rows
  unfolding bundle_met flags_fault
  bundle_keeps zero flags skip so_far h g e = g
  bundle_keeps (suc n) flags skip so_far h g e = step_keeps n (bundle_keeps n) (slice_get (chars flags) 0) flags skip so_far h g e

  option_word_keeps : (o : Option Rule) (id word : Text) (h : Held) → P h.rows → P (option_word o id word h).0.rows
  option_word_keeps None id word h g = g
  option_word_keeps (Some a) id word h g = g

  plain_keeps : (waiting : Waiting) (word : Text) (h : Held) → P h.rows → P (plain_word c waiting word h).0.rows
  plain_keeps (option id) word h g = option_word_keeps (arg_by_id c id) id word h g
  plain_keeps _ _ _ g = g

  after_flag_keeps : (waiting : Waiting) (word : Text) (h : Held) (o : Outcome) → P h.rows → P (after_flag c waiting word h o).0.rows
  after_flag_keeps waiting word h plain g = plain_keeps waiting word h g
  after_flag_keeps waiting word h refused g = plain_keeps waiting word h g
  after_flag_keeps _ _ _ _ g = g

  short_or_plain_keeps : (waiting : Waiting) (word : Text) (o : Option Text) (h : Held) → P h.rows → option_map_or (λ flags. bundle_fault c again flags h) o [] ≡ []
      → P (short_or_plain c waiting word o h).0.rows
  short_or_plain_keeps waiting word None h g e = plain_keeps waiting word h g
  short_or_plain_keeps waiting word (Some flags) h g e =
      after_flag_keeps waiting word (bundle c flags h).0 (bundle c flags h).1 (bundle_keeps (length flags) flags h.skip plain (record h { skip = 0 }) g e)

  long_or_other_keeps : (waiting : Waiting) (word : Text) (o : Option (Text × Option Text)) (h : Held) → P h.rows → flag_word_fault c again o word h ≡ []
      → P (long_or_other c waiting word o h).0.rows
  long_or_other_keeps waiting word None h g e = short_or_plain_keeps waiting word (short_of word) h g e
  long_or_other_keeps waiting word (Some p) h g e =
      let met = long_met c (arg_by_long c p.0) p.1 h in
      after_flag_keeps waiting word met.0 met.1 (long_keeps (arg_by_long c p.0) p.1 h (all _) g e)

-- a walk over words of a command, none of which fails
module _ (s : Shape) (names : Names) (P : List Row → Type 0) (all : (test : Rule → Bool) → KeepsIf s.args_override_self P (find test s.rules)) where
  other_keeps : (o : Option Text) (waiting : Waiting) (position : ℕ) (word : Text) (h : Held) → P h.rows → other_fault s o word h ≡ []
      → P (subcommand_or_other s.rules o waiting position word h).0.rows
  other_keeps (Some name) waiting position word h g e = g
  other_keeps None waiting position word h g e = go (bytes_eq word (45 ∷ 45 ∷ [])) e
    where
      go : (b : Bool) → (if b then [] else flag_word_fault s.rules s.args_override_self (long_of word) word h) ≡ []
          → P (if b then (h, trailing position) else long_or_other s.rules waiting word (long_of word) h).0.rows
      go true f = g
      go false f = long_or_other_keeps s.rules s.args_override_self P all waiting word (long_of word) h g f

  word_keeps : (is_trailing : Bool) (waiting : Waiting) (position : ℕ) (word : Text) (h : Held) → P h.rows → word_fault s names is_trailing waiting word h ≡ []
      → P (word_met s.rules names is_trailing waiting position word h).0.rows
  word_keeps true waiting position word h g e = g
  word_keeps false waiting position word h g e = other_keeps (subcommand_met names waiting word) waiting position word h g e

  positional_keeps : (o : Option Rule) (word : Text) (w : Walk) (h : Held) → P h.rows
      → option_map_or (λ a. positional_fault s.rules s.args_override_self a h) o (stray_fault s) ≡ [] → P (to_positional s.rules o word w h).held.rows
  positional_keeps None word w h g e = g
  positional_keeps (Some a) word w h g e = go (is_pending a h.pending && takes_several a) e
    where
      go : (b : Bool) → (if b then [] else settle_fault s.rules s.args_override_self h) ≡ [] → P (if b then h else settled s.rules h).rows
      go true f = g
      go false f = settled_keeps s.rules s.args_override_self P all h g f

  after_step_keeps : (word : Text) (w : Walk) (h : Held) (step : Step) → P h.rows → step_fault s w.position h step ≡ [] → P (after_step s.rules word w h step).held.rows
  after_step_keeps word w h value g e = positional_keeps (arg_by_index s.rules w.position) word w h g e
  after_step_keeps _ _ _ _ g _ = g

  turn_keeps : (stopped : Option (Text × List Text)) (w : Walk) (word : Text) → P w.held.rows
      → (if is_some stopped then [] else or_else (word_fault s names w.is_trailing w.waiting word w.held)
      (step_fault s w.position (word_met s.rules names w.is_trailing w.waiting w.position word w.held).0 (word_met s.rules names w.is_trailing w.waiting w.position word w.held).1)) ≡ []
      → P (walked_from s.rules names stopped w word).held.rows
  turn_keeps (Some p) w word g e = g
  turn_keeps None w word g e =
      let met = word_met s.rules names w.is_trailing w.waiting w.position word w.held in
      let met_fault = word_fault s names w.is_trailing w.waiting word w.held in
      let then_fault = step_fault s w.position met.0 met.1 in
      after_step_keeps word w met.0 met.1 (word_keeps w.is_trailing w.waiting w.position word w.held g (first_none met_fault then_fault e)) (then_none met_fault then_fault e)

  walk_keeps : (w : Walk) (words : List Text) → P w.held.rows → walk_fault s names w words ≡ [] → P (fold (walked s.rules names) w words).held.rows
  unfolding walk_fault walked
  walk_keeps w [] g e = g
  walk_keeps w (word ∷ words) g e =
      let turn = turn_fault s names w word in
      let rest = walk_fault s names (walked s.rules names w word) words in
      walk_keeps (walked s.rules names w word) words (turn_keeps w.stopped w word g (first_none turn rest e)) (then_none turn rest e)

  -- and so do the uses that are left at its end
  pub end_keeps : (words : List Text) (has : Bool) (below : Kinds) → P [] → level_fault s names nothing_held words has below ≡ []
      → P (settled s.rules (walk s.rules names nothing_held words).held).rows
  end_keeps words has below g e =
      let end = (walk s.rules names nothing_held words).held in
      let walking = walk_fault s names (walk_from nothing_held) words in
      let behind = then_none below _ (then_none walking _ e) in
      settled_keeps s.rules s.args_override_self P all end (walk_keeps (walk_from nothing_held) words g (first_none walking _ e)) (first_none (settle_fault s.rules s.args_override_self end) _ behind)

-- ---- an argument without a default adds no row at the end

abbrev pub HasNoDefaults : List Rule → Type 0
HasNoDefaults = EachIs (λ a. a.defaults ≡ [])

pub no_default : (a : Rule) (rows : List Row) → a.defaults ≡ [] → with_default rows a ≡ rows
no_default a rows none = rw none (elim (has_row a.id rows) as (λ (b : Bool). (if b then rows else rows) ≡ rows) [ true ↦ refl | false ↦ refl ])

pub no_defaults : (c : List Rule) (rows : List Row) → HasNoDefaults c → fold with_default rows c ≡ rows
no_defaults [] rows none = refl
no_defaults (a ∷ rest) rows none = ap (λ (r : List Row). fold with_default r rest) (no_default a rows none.0) ∙ no_defaults rest rows none.1

-- ---- the first value of an argument that is used with one value

abbrev pub FirstPasses : Rule → List Text → Type 0
FirstPasses a [] = ⊥
FirstPasses a (v ∷ vs) = value_passes a v ≡ true

abbrev KeptRow : Rule → Row → Type 0
KeptRow a r = r.id ≡ a.id → FirstPasses a r.values × (r.reading ≡ reading_by a)

-- the rows of an argument have a first value, which passes its parser, and are read as that parser says
abbrev pub Kept : Rule → List Row → Type 0
Kept a [] = Unit {0}
Kept a (r ∷ rows) = KeptRow a r × Kept a rows

kept_append : (a : Rule) (rows more : List Row) → Kept a rows → Kept a more → Kept a (rows ++ more)
kept_append a [] more h k = k
kept_append a (r ∷ rows) more h k = (h.0, kept_append a rows more h.1 k)

kept_at : (a : Rule) (id : Text) (change : Row → List Row) (missing rows : List Row) → ((r : Row) → KeptRow a r → Kept a (change r)) → Kept a missing → Kept a rows
    → Kept a (at_row id change missing rows)
kept_at a id change missing [] f m h = m
kept_at a id change missing (r ∷ rows) f m h = go (bytes_eq r.id id) (kept_at a id change missing rows f m h.1)
  where
    go : (b : Bool) → Kept a (at_row id change missing rows) → Kept a (if b then change r ++ rows else r ∷ at_row id change missing rows)
    go true later = kept_append a (change r) rows (f r h.0) h.1
    go false later = (h.0, later)

first_more : (a : Rule) (values more : List Text) → FirstPasses a values → FirstPasses a (values ++ more)
first_more a [] more p = absurd p
first_more a (v ∷ vs) more p = p

-- a use in place of an earlier one
pub set_keeps : (a b : Rule) (values : List Text) (rows : List Row) → (b.id ≡ a.id → FirstPasses a values × (reading_by b ≡ reading_by a)) → Kept a rows
    → Kept a (with_values b.id (reading_by b) CommandLine values (without b.id rows))
set_keeps a b values rows own h =
    kept_at a b.id (more_values CommandLine values) _ (without b.id rows)
    (λ r k. ((λ e. let p = k e in (first_more a r.values values p.0, p.1)), tt))
    (own, tt)
    (kept_at a b.id (λ _. []) [] rows (λ r k. tt) tt h)

-- values of another argument
pub more_keeps : (a b : Rule) (source : ValueSource) (values : List Text) (rows : List Row) → (b.id ≡ a.id → ⊥) → Kept a rows → Kept a (with_values b.id (reading_by b) source values rows)
more_keeps a b source values rows other h =
    kept_at a b.id (more_values source values) _ rows (λ r k. ((λ e. let p = k e in (first_more a r.values values p.0, p.1)), tt)) ((λ e. absurd (other e)), tt) h

passes : (b : Bool) (k : ErrorKind) → (if b then [] else k ∷ []) ≡ [] → b ≡ true
passes true k e = refl
passes false k e = cc

-- an argument that is used with one value each time
abbrev pub IsSingle : Rule → Type 0
IsSingle a = (action_of a ≡ Set) × ((unwrap_or_range a.range).start_inclusive ≡ 1)

own_passes : (again : Bool) (a : Rule) (values : List Text) (rows : List Row) → IsSingle a → use_fault again a values rows ≡ [] → FirstPasses a (values_or_missing a values)
own_passes again a [] rows single e = let bad = rw single.1 at e in cc
own_passes again a (v ∷ vs) rows single e =
    let most = range_kinds (unwrap_or_range a.range).start_inclusive (most_values a) (length (v ∷ vs)) in
    let set : set_fault again a (v ∷ vs) rows ≡ [] = rw single.0 at (then_none most (action_fault (action_of a) again a (v ∷ vs) rows) e) in
    let all : values_fault a (v ∷ vs) ≡ [] = then_none (repeat_fault again a.id rows) (values_fault a (v ∷ vs)) set in
    passes (value_passes a v) _ (first_none _ (values_fault a vs) all)

pub single_keeps : (again : Bool) (a b : Rule) → IsSingle b → (b.id ≡ a.id → b ≡ a) → Keeps again (Kept a) b
single_keeps again a b single same values rows h e =
    rw single.0 (set_keeps a b (values_or_missing b values) rows
    (λ i. let is = same i in subst (λ (x : Rule). FirstPasses x (values_or_missing b values) × (reading_by b ≡ reading_by x)) is (own_passes again b values rows single e, refl)) h)

-- what was given for such an argument
pub given_value : (a : Rule) (rows : List Row) → Kept a rows → is_given a.id rows ≡ true
    → (v : Text) × (first_of a.id rows ≡ Some v) × (one_of a.id rows ≡ Some (read_as (reading_by a) v)) × (value_passes a v ≡ true)
given_value a [] h given = absurd (true≢false (sym given))
given_value a (r ∷ rows) h given = go (bytes_eq r.id a.id) refl given (given_value a rows h.1)
  where
    first : (values : List Text) (how : Reading) → FirstPasses a values → how ≡ reading_by a
        → (v : Text) × (slice_get values 0 ≡ Some v) × (option_map (read_as how) (slice_get values 0) ≡ Some (read_as (reading_by a) v)) × (value_passes a v ≡ true)
    first [] how p is = absurd p
    first (v ∷ vs) how p is = (v, refl, ap (λ (k : Reading). Some (read_as k v)) is, p)

    go : (b : Bool) → bytes_eq r.id a.id ≡ b
        → option_map_or (λ x. explicit_source x.source) (if b then Some r else find (λ x. bytes_eq x.id a.id) rows) false ≡ true
        → (is_given a.id rows ≡ true → (v : Text) × (first_of a.id rows ≡ Some v) × (one_of a.id rows ≡ Some (read_as (reading_by a) v)) × (value_passes a v ≡ true))
        → (v : Text) × (option_and_then (λ x. slice_get x.values 0) (if b then Some r else find (λ x. bytes_eq x.id a.id) rows) ≡ Some v)
        × (option_and_then row_text (if b then Some r else find (λ x. bytes_eq x.id a.id) rows) ≡ Some (read_as (reading_by a) v)) × (value_passes a v ≡ true)
    go true t g later = let p = h.0 ((bytes_eq-Decides r.id a.id).0 t) in first r.values r.reading p.0 p.1
    go false t g later = later g

-- ---- the rows of a watch's two options: a period in range, and a text

-- a number of 32 bits
abbrev pub Fits32 : Text → Type 0
Fits32 text = IsNumeral 10 (without_leading_plus text) × (digits_value 10 (without_leading_plus text) < 2 ^ 32)

fits : (text : Text) → is_unsigned_in 0 4294967295 text ≡ true → Fits32 text
fits text e = let p = accepts-Accepts false (parses.Unsigned 0 4294967295) text e in (p.0, omega arith)

pub fits_back : (text : Text) → Fits32 text → is_unsigned_in 0 4294967295 text ≡ true
fits_back text f = Accepts-accepts false (parses.Unsigned 0 4294967295) text (f.0, omega arith, omega arith, omega arith)

-- it is read as `parse` does at 32 bits
parsed_is_said : (E : Type 0) (text : Text) (r : Option ℕ) → ReadsOne {E = E} (ParsesUnsigned 32 10) text r → r ≡ number_said text
parsed_is_said E text (Some n) h = rw (fits_back text h.0) (ap (λ (k : ℕ). Some k) h.1)
parsed_is_said E text None h = go (is_unsigned_in 0 4294967295 text) refl
  where
    go : (b : Bool) → is_unsigned_in 0 4294967295 text ≡ b → None ≡ (if b then Some (digits_value 10 (without_leading_plus text)) else None)
    go true e = absurd (h.1 (fits text e))
    go false e = refl

said_is_parsed : (text : Text) → ReadsOne {E = Unit {0}} (ParsesUnsigned 32 10) text (number_said text)
said_is_parsed text = go (is_unsigned_in 0 4294967295 text) refl
  where
    go : (b : Bool) → is_unsigned_in 0 4294967295 text ≡ b → ReadsOne {E = Unit {0}} (ParsesUnsigned 32 10) text (if b then Some (digits_value 10 (without_leading_plus text)) else None)
    go true e = (fits text e, refl)
    go false e = (tt, λ f. true≢false (sym (fits_back text f) ∙ e))

-- a text that passes as a period says one
pub says_period : (text : Text) → Accepts false (parses.Signed (pos 2) (pos 65536)) text → (n : ℕ) × (number_said (without_minus text) ≡ Some n) × IsPeriod n
says_period text p =
    let n = signed_reads (Unit {0}) (ParsesUnsigned 32 10) 32 2 65536 text (number_said (without_minus text)) (said_is_parsed (without_minus text)) (λ u x g. g) (omega arith) p in
    (n.0, n.1, (n.2, n.3))

-- what `get_one` reads
read_said : (E : Type 0) (G : List ℕ → Result ℕ E → Type 0) → ((u : List ℕ) (x : Result ℕ E) → G u x → ParsesUnsigned 32 10 u x) → (o : Option Text) (r : Option ℕ)
    → (o ≡ None → r ≡ None) → ((t : Text) → o ≡ Some t → ReadsOne {E = E} G t r) → r ≡ option_and_then number_said o
read_said E G only None r none said = none refl
read_said E G only (Some t) r none said = parsed_is_said E t r (go r (said t refl))
  where
    go : (x : Option ℕ) → ReadsOne {E = E} G t x → ReadsOne {E = E} (ParsesUnsigned 32 10) t x
    go (Some n) g = only t (Ok n) g
    go None g = (g.0, only t (Err g.0) g.1)

-- how a number is parsed
abbrev IsParsed : List ℕ → Result ℕ ParseIntError → Type 0
IsParsed bs r = ParsesUnsigned 32 10 bs r × ExplainsUnsignedError 10 bs r × HasUnsignedDigitsIfOk bs r

pub period_parsed : (f : Found) (r : Option ℕ) → (one_text f (codes "period") ≡ None → r ≡ None) → ((t : Text) → one_text f (codes "period") ≡ Some t → ReadsOne {E = ParseIntError} IsParsed t r)
    → r ≡ option_and_then number_said (one_of (codes "period") (rows_of f))
period_parsed f r none said =
    read_said ParseIntError IsParsed (λ u x g. g.0) (one_text f (codes "period")) r none said ∙ ap (option_and_then number_said) (one_text-rows f (codes "period"))

-- ---- the options as they are built

abbrev pub watches : Shape
watches = leaf (offered true watch_shape)

abbrev pub period_option : Rule
period_option = with_index 1 (filled period_rule)

abbrev pub id_option : Rule
id_option = with_index 1 (filled id_rule)

abbrev pub help_option : Rule
help_option = with_index 1 (filled help_rule)

-- a request for help is a fault
help_keeps : (P : List Row → Type 0) → Keeps false P help_option
help_keeps P values rows g e = let bad = then_none (range_kinds 0 0 (length values)) (kind.DisplayHelp ∷ []) e in cc

pub not_same : (a b : Text) → bytes_eq a b ≡ false → a ≡ b → ⊥
not_same a b e same = true≢false (sym (subst (λ (w : Text). bytes_eq w b ≡ true) (sym same) (self_eq b)) ∙ e)

-- an option leaves what is kept of another argument
switch_keeps : (a : Rule) (o : Switch) → (switch_name o ≡ a.id → ⊥) → Keeps false (Kept a) (switch_flag o)
switch_keeps a o other values rows h e = set_keeps a (switch_flag o) (values_or_missing (switch_flag o) values) rows (λ e. absurd (other e)) h

-- the options and the flag for help do, and so
pub switches_keep : (a : Rule) → ((o : Switch) → switch_name o ≡ a.id → ⊥) → (os : List Switch) → EachKeeps false (Kept a) (map switch_flag os ++ help_option ∷ [])
switches_keep a other [] = (help_keeps (Kept a), tt)
switches_keep a other (o ∷ os) = (switch_keeps a o (other o), switches_keep a other os)

period_kept : EachKeeps false (Kept period_option) watches.rules
period_kept = (
  single_keeps false period_option period_option (refl, refl) (λ e. refl),
  (single_keeps false period_option id_option (refl, refl) (λ e. absurd (not_same (codes "id") (codes "period") refl e)), (single_keeps false period_option read_flag (refl, refl) (λ e. absurd (not_same (codes "read") (codes "period") refl e)), switches_keep period_option (not_named (codes "period") refl) switches)),
)

id_kept : EachKeeps false (Kept id_option) watches.rules
id_kept = (
  single_keeps false id_option period_option (refl, refl) (λ e. absurd (not_same (codes "period") (codes "id") refl e)),
  (single_keeps false id_option id_option (refl, refl) (λ e. refl), (single_keeps false id_option read_flag (refl, refl) (λ e. absurd (not_same (codes "read") (codes "id") refl e)), switches_keep id_option (not_named (codes "id") refl) switches)),
)

-- words of `watch` without a fault
abbrev IsFaultless : List Text → Type 0
IsFaultless words = level_fault watches [] nothing_held words false [] ≡ []

abbrev rows : List Text → List Row
rows words = rows_after watches.rules [] words

-- the defaults of the options do too
switch_default_keeps : (a : Rule) (o : Switch) → (switch_name o ≡ a.id → ⊥) → (given : List Row) → Kept a given → Kept a (with_default given (switch_flag o))
switch_default_keeps a o other given h = elim (cases_Bool (has_row (switch_name o) given)) [ inl f ↦ rw f h | inr f ↦ rw f (more_keeps a (switch_flag o) DefaultValue (codes "false" ∷ []) given other h) ]

pub switch_defaults_keep : (a : Rule) → ((o : Switch) → switch_name o ≡ a.id → ⊥) → (os : List Switch) (given : List Row) → Kept a given → Kept a (fold with_default given (map switch_flag os ++ help_option ∷ []))
switch_defaults_keep a other [] given h = subst (Kept a) (sym (no_default help_option given refl)) h
switch_defaults_keep a other (o ∷ os) given h = switch_defaults_keep a other os (with_default given (switch_flag o)) (switch_default_keeps a o (other o) given h)

defaults_keep : (a : Rule) → ((o : Switch) → switch_name o ≡ a.id → ⊥) → (given : List Row) → Kept a given → Kept a (fold with_default given watches.rules)
defaults_keep a other given h =
    let own = no_defaults (period_option ∷ id_option ∷ read_flag ∷ []) given (refl, (refl, (refl, tt))) in
    subst (λ (l : List Row). Kept a (fold with_default l (map switch_flag switches ++ help_option ∷ []))) (sym own) (switch_defaults_keep a other switches given h)

kept_rows : (a : Rule) → ((o : Switch) → switch_name o ≡ a.id → ⊥) → EachKeeps false (Kept a) watches.rules → (words : List Text) → IsFaultless words → Kept a (rows words)
kept_rows a other all words f =
    let end = settled watches.rules (walk watches.rules [] nothing_held words).held in
    defaults_keep a other end.rows (end_keeps watches [] (Kept a) (found_keeps false (Kept a) watches.rules all) words false [] tt f)

given : (words : List Text) → IsFaultless words → (is_given (codes "period") (rows words) ≡ true) × (is_given (codes "id") (rows words) ≡ true)
given words f = both (is_given (codes "period") (rows words)) (is_given (codes "id") (rows words)) (wanted false false _ (level_checked watches [] nothing_held words false [] f))
  where
    both : (a b : Bool) → (not a || (not b || false)) ≡ false → (a ≡ true) × (b ≡ true)
    both true true e = (refl, refl)
    both _ _ e = absurd (true≢false e)

-- they ask for a watch, and its period is in range
pub watch_says : (words : List Text) → IsFaultless words → (n : ℕ) × (t : Text) × (watch_asked (rows words) ≡ Some (Ok (watch n t))) × IsPeriod n
watch_says words f =
    let both = given words f in
    let period = given_value period_option (rows words) (kept_rows period_option (not_named (codes "period") refl) period_kept words f) both.0 in
    let id = given_value id_option (rows words) (kept_rows id_option (not_named (codes "id") refl) id_kept words f) both.1 in
    let n = says_period period.0 (accepts-Accepts false (parses.Signed (pos 2) (pos 65536)) period.0 period.3) in
    (n.0, id.0, rw (period.2, id.1) (ap (option_map {T = ℕ} {U = Meaning} (λ (k : ℕ). Ok (watch k id.0))) n.1), n.2)
