-- Words without a fault ask for their task by its name alone.
use Rattle.std.proofs.Common.{◌≡◌, ◌∙◌, ◌≤◌, arith, ℕ, Bool, true, false, true≢false, List, [], ◌∷◌, ◌++◌, Option, Some, None, option_map, option_and_then, unwrap_or, cond, refl, sym, ap, ap₂, subst, append_assoc, length, inl, inr, ◌&&◌, ◌||◌, not, Ok, is_some, ◌==◌, map, length-append, slice_index}
use Rattle.std.specs.Prelude.{codes, find, fold, Err, if◌then◌else◌, pos, slice_get}
use Rattle.std.specs.Option.{option_map_or}
use Rattle.std.specs.List.{list_all}
use Rattle.std.specs.Str.{bytes_eq}
use Rattle.std.proofs.lemmas.List.{append-nil}
use Rattle.std.proofs.lemmas.Slice.Eq.{bytes_eq-Decides}
use Rattle.std.proofs.lemmas.Bool.{cases_Bool}
use Rattle.clap.specs.Words.{App, Row, Shape, Text, built, fault_of, first_of, one_of, is_simple, takes}
use Rattle.clap.specs.Faults.{entered_fault, level_fault, walk_fault}
use Rattle.clap.specs.Simple.{entered, label_of, names_of, rows_at}
use Rattle.clap.specs.Walk.{Names, Walk, answers_to, idle, nothing_held, rows_after, stop_after, subcommand_met, walk_from, walked, finished, walk}
use Rattle.clap.proofs.OnLiterals.{clap_on_literals}
use Rattle.clap.proofs.WalkLemmas.{find-map, both}
use Rattle.clap.specs.Lexer.{usize_max, without_minus}
use Rattle.words_core.specs.CommandLine.{Asked, Meaning, Subcommand, Unsaid, blocks_in, check, first_bad_block, first_bad_period, import, is_plain, list_blocks, losing, losses, losses_shape, name_of, no_block, no_period, number_said, periods_in, plain, publish, replay, replay_shape, replaying, rewrite, show, subcommands, takes_options, task_asked, watch, watch_shape, watching, block_at, losses_of, period_at, replay_of}
use Rattle.words_core.proofs.KeptRows.{EachIs, first_none, found_is, leaf, texts_in, then_none, fits_back, id_option, period_option, watches}
use Rattle.words_core.specs.declared.option_words.Options.{Options}
use Rattle.words_core.specs.RequestLine.{AreTexts, Argument, AsksWith, Means, Wish, file_asked, file_of_words, named_once, offered, options_in, request_asked, request_line, request_of_words, switch_name, takes_argument, Switch, contradict, is_on, is_set, with_these, SayPeriods, argument_name, argument_text, changes, file, given_as, simulation, switch, text, valued}
use Rattle.words_core.proofs.LoneFlags.{AreFlags, help_flag, lone_mark, version_flag, leaf_no_index, plain_leaf, plain_leave, Leaves, own_leave}
use Rattle.words_core.proofs.Switches.{once_if, default_other, default_set, row_at, switch_flag, is_on_in, options_from, apart, dashes, both_true}
use Rattle.words_core.proofs.FoundWords.{Behind, behind, finds_plain}
use Rattle.words_core.proofs.Handled.{is_of, plain_handled, plain_offers, plain_reads, plain_takes, IsApart, block_argument, file_handled, id_handled, losing as losses_leaf, losses_offer, losses_read, period_handled, replay_offers, replay_reads, replays, stream_handled, stream_period, switch_handled, text_handled, watch_offers, watch_reads}
use Rattle.words_core.proofs.WordLemmas.{wish_parts, simple_line}
use Rattle.clap.specs.Takes.{default_passes, entered_passes, is_valid, level_passes, settle_passes, walk_passes, value_passes}
use Rattle.std.specs.Global.{Global}
use Rattle.std.specs.Str.Parse.{IsNumeral, digits_value}
use Rattle.std.proofs.lemmas.Int.{ints}
use Rattle.clap.specs.ValueTests.{accepts}
use Rattle.clap.specs.declared.builder.value_parser.Reading.{Reading}
use Rattle.clap.specs.declared.builder.value_parser.ValueParser.TheVariants as parses
use Rattle.clap.proofs.ValueTestLemmas.{Accepts-accepts}
use Rattle.block_core.specs.declared.block.Block.{Block}
use Rattle.block_core.specs.Period.{IsPeriod}
use Rattle.loss_core.specs.Periods.{Period}
use Rattle.words_core.proofs.ArgumentRows.{how_read, row_for, row_texts, Each, Ended, Handled, arguments_end, each_of, level_ended, set_held}
use Rattle.words_core.proofs.Digits.{no_minus, no_plus, text_says, all_meant}

-- the built command, its words before a subcommand, and the names of its subcommands
abbrev pub line : App
line = built request_line

abbrev pub top : Shape
top = line.top

abbrev pub names : Names
names = names_of line

abbrev has_none : {X : Type 0} → List X → Bool
has_none [] = true
has_none (x ∷ xs) = false

no_aliases : list_all (λ s. has_none s.1) names ≡ true
no_aliases = refl

abbrev no_wish : Option Wish
no_wish = None

-- ---- a subcommand is met by its name

met_name : (word name : Text) (xs : Names) → list_all (λ s. has_none s.1) xs ≡ true → option_map (λ s. s.0) (find (answers_to word) xs) ≡ Some name → name ≡ word
met_name word name [] all e = cc
met_name word name ((n, a ∷ more) ∷ xs) all e = absurd (true≢false (sym all))
met_name word name ((n, []) ∷ xs) all e =
    elim (cases_Bool (bytes_eq n word)) [ inl t ↦ let same : Some n ≡ Some name = rw t at e in sym (ap (λ (o : Option Text). unwrap_or o n) same) ∙ (bytes_eq-Decides n word).0 t | inr t ↦ met_name word name xs all (rw t at e) ]

entered_name : (name : Text) (words : List Text) (r : Text × List Row) → entered line (Some (name, words)) ≡ Some r → r.0 ≡ name
entered_name name words r e = go (find (λ s. answers_to name (label_of s)) line.subs) refl
  where
    go : (o : Option Shape) → find (λ s. answers_to name (label_of s)) line.subs ≡ o → r.0 ≡ name
    go None f = let bad : None ≡ Some r = rw f at e in cc
    go (Some s) f =
        let same : Some (rows_at s words) ≡ Some r = rw f at e in
        let found : option_map (λ l. l.0) (find (answers_to name) names) ≡ Some s.name =
        ap (λ (o : Option (Text × List Text)). option_map (λ l. l.0) o) (sym (find-map (answers_to name) label_of line.subs) ∙ ap (option_map label_of) f) in
        sym (ap (λ (o : Option (Text × List Row)). (unwrap_or o r).0) same) ∙ met_name name s.name names (no_aliases) found

-- ---- a task has the name of its subcommand

abbrev HasName : Subcommand → Type 0
HasName c = (rows : List Row) (t : Asked) → c.task rows ≡ Some (Ok t) → name_of t ≡ c.shape.name

abbrev pub asked_or : Asked → Option Meaning → Asked
asked_or d (Some (Ok t)) = t
asked_or d _ = d

abbrev some_meaning : Meaning → Option Meaning
some_meaning m = Some m

named_plain : (u : Asked) → HasName (plain u)
named_plain u rows t e = sym (ap (λ (o : Option Meaning). name_of (asked_or u o)) e)

-- and so it has where texts say it all
said_named : (none : ℕ → Unsaid) (u t : Asked) (o : Option ℕ) → some_meaning (option_map_or (λ i. Err (none i)) o (Ok u)) ≡ Some (Ok t) → name_of t ≡ name_of u
said_named none u t None e = sym (ap (λ (m : Option Meaning). name_of (asked_or u m)) e)
said_named none u t (Some i) e = cc

named_replay : HasName replaying
named_replay rows t e = let said = texts_in (codes "BLOCK") rows in said_named no_block (replay (blocks_in said)) t (first_bad_block said) e

watch_named : (n : Option ℕ) (id : Option Text) (t : Asked) → option_and_then {U = Meaning} (λ k. option_map {U = Meaning} (λ x. Ok (watch k x)) id) n ≡ Some (Ok t)
    → name_of t ≡ name_of (watch 0 [])
watch_named (Some n) (Some id) t e = sym (ap (λ (o : Option Meaning). name_of (asked_or t o)) e)
watch_named _ _ t e = cc

named_watch : HasName watching
named_watch rows t e = watch_named (option_and_then number_said (one_of (codes "period") rows)) (first_of (codes "id") rows) t e

named_losses : HasName losing
named_losses rows t e = let said = texts_in (codes "period") rows in said_named no_period (losses (periods_in said)) t (first_bad_period said) e

all_named : EachIs HasName subcommands
all_named = (named_plain show, (named_plain check, (named_plain rewrite, (named_plain list_blocks, (named_replay, (named_plain publish, (named_watch, (named_losses, (named_plain import, tt)))))))))

-- a request has the name of its subcommand too
pub for_name : (r : Text × List Row) (t : Asked) → task_asked r ≡ Some (Ok t) → name_of t ≡ r.0
for_name r t e = go (find (λ s. bytes_eq s.shape.name r.0) subcommands) refl e
  where
    go : (o : Option Subcommand) → find (λ s. bytes_eq s.shape.name r.0) subcommands ≡ o → option_and_then (λ s. s.task r.1) o ≡ Some (Ok t) → name_of t ≡ r.0
    go None f g = cc
    go (Some c) f g = let found = found_is HasName (λ s. bytes_eq s.shape.name r.0) subcommands (all_named) c f in found.0 r.1 t g ∙ (bytes_eq-Decides c.shape.name r.0).0 found.1

-- ---- the words behind a subcommand are its own

pub follow : (w : Walk) (p : Text × List Text) (words : List Text) → w.stopped ≡ Some p → (fold (walked top.rules names) w words).stopped ≡ Some (p.0, p.1 ++ words)
unfolding walked
follow w p [] e = e ∙ ap (λ (l : List Text). Some (p.0, l)) (sym (append-nil p.1))
follow w p (x ∷ xs) e =
    follow (walked top.rules names w x) (p.0, p.1 ++ x ∷ []) xs (rw e refl) ∙ ap (λ (l : List Text). Some (p.0, l)) (append_assoc p.1 (x ∷ []) xs)

pub stops : (word name : Text) (words : List Text) → subcommand_met names idle word ≡ Some name → stop_after top.rules names (word ∷ words) ≡ Some (name, words)
unfolding walked
stops word name words m = follow (walked top.rules names (walk_from nothing_held) word) (name, []) words (rw m refl)

-- the flags of the program
program_flags : AreFlags top.rules
program_flags P none help version test = go (test help_flag) (test version_flag)
  where
    go : (a b : Bool) → P (cond a (Some help_flag) (cond b (Some version_flag) None))
    go true b = help
    go false true = version
    go false false = none

-- the task without words of its own that a name asks for
abbrev by_name : Text → Option Asked
by_name name = find (λ t. bytes_eq (name_of t) name) (show ∷ check ∷ rewrite ∷ list_blocks ∷ publish ∷ import ∷ [])

by_own_name : (t : Asked) → is_plain t ≡ true → by_name (name_of t) ≡ Some t
by_own_name (replay blocks) e = absurd (true≢false (sym e))
by_own_name (watch period id) e = absurd (true≢false (sym e))
by_own_name (losses periods) e = absurd (true≢false (sym e))
by_own_name t e = refl

-- words behind the name of a subcommand without words of its own are arguments that its task takes
abbrev HasOptions : Shape → Type 0
HasOptions s = (t : Asked) → by_name s.name ≡ Some t → (words : List Text) → length words ≤ usize_max → AreTexts words → level_fault s [] nothing_held words false [] ≡ []
    → Behind (takes_argument t) (rows_after s.rules [] words) words

plain_has : (u : Asked) → is_plain u ≡ true → HasOptions (plain_leaf (takes_options u) u)
plain_has u plainly t is words fits texts e =
    let takes = takes_options u in
    let same : u ≡ t = ap (λ (o : Option Asked). unwrap_or o u) (sym (by_own_name u plainly) ∙ is) in
    subst (λ (x : Asked). Behind (takes_argument x) (rows_after (plain_leaf takes u).rules [] words) words) same
    (subst (λ (has : Argument → Bool). Behind has (rows_after (plain_leaf takes u).rules [] words) words) (λ i a. plain_takes u plainly a i)
    (behind (plain_leaf takes u) (is_of takes) (finds_plain takes u) (plain_reads takes u) (leaf_no_index takes u) (plain_offers takes u) (λ n. refl)
    (λ all few. plain_handled takes u all (λ o. few (switch_name o)) (few (codes "read"))) (plain_leave takes u) words fits texts e))

other_has : (s : Shape) → by_name s.name ≡ None → HasOptions s
other_has s none t is words fits texts f = let bad : None ≡ Some t = sym none ∙ is in cc

all_have : EachIs HasOptions line.subs
all_have = (
  plain_has show refl,
  (
    plain_has check refl,
    (
      plain_has rewrite refl,
      (
        plain_has list_blocks refl,
        (other_has (leaf (offered true replay_shape)) refl, (plain_has publish refl, (other_has (leaf (offered true watch_shape)) refl, (other_has (leaf (offered true losses_shape)) refl, (plain_has import refl, tt))))),
      ),
    ),
  ),
)

-- what stands behind the name, with the rows of the subcommand that was met
below : (name : Text) (words : List Text) (r : Text × List Row) (t : Asked) → by_name r.0 ≡ Some t → length words ≤ usize_max → AreTexts words
    → entered line (Some (name, words)) ≡ Some r → entered_fault line (Some (name, words)) ≡ [] → Behind (takes_argument t) r.1 words
below name words r t named fits texts e f = go (find (λ s. answers_to name (label_of s)) line.subs) refl
  where
    go : (o : Option Shape) → find (λ s. answers_to name (label_of s)) line.subs ≡ o → Behind (takes_argument t) r.1 words
    go None g = let bad : None ≡ Some r = rw g at e in cc
    go (Some s) g =
        let level : level_fault s [] nothing_held words false [] ≡ [] = rw g at f in
        let same : Some (rows_at s words) ≡ Some r = rw g at e in
        let is : r.0 ≡ s.name = sym (ap (λ (o : Option (Text × List Row)). (unwrap_or o r).0) same) in
        let rows_are : rows_after s.rules [] words ≡ r.1 = ap (λ (o : Option (Text × List Row)). (unwrap_or o r).1) same in
        subst (λ (l : List Row). Behind (takes_argument t) l words) rows_are
        ((found_is HasOptions (λ s. answers_to name (label_of s)) line.subs (all_have) s g).0 t (subst (λ (n : Text). by_name n ≡ Some t) is named) words fits texts level)

-- ---- the words that ask for a task

abbrev stop : List Text → Option (Text × List Text)
stop words = stop_after top.rules names words

-- what fails neither in the walk nor below it
parts_none : (p : Text) (words : List Text) → fault_of request_line (p ∷ words) ≡ [] → (walk_fault top names (walk_from nothing_held) words ≡ []) × (entered_fault line (stop words) ≡ [])
parts_none p words f =
    let rest = then_none (walk_fault top names (walk_from nothing_held) words) _ f in
    (first_none (walk_fault top names (walk_from nothing_held) words) _ f, first_none (entered_fault line (stop words)) _ rest)

plain_means : (t : Asked) → is_plain t ≡ true → (arguments : List Argument) → Means t arguments
plain_means (replay blocks) e arguments = absurd (true≢false (sym e))
plain_means (watch period id) e arguments = absurd (true≢false (sym e))
plain_means (losses periods) e arguments = absurd (true≢false (sym e))
plain_means _ e arguments = tt

subcommand_asks : (p word name : Text) (words : List Text) (t : Asked) (options : Options) → is_plain t ≡ true → length words ≤ usize_max → AreTexts words → subcommand_met names idle word ≡ Some name
    → fault_of request_line (p ∷ word ∷ words) ≡ [] → request_of_words (p ∷ word ∷ words) ≡ Some (Ok (t, options)) → AsksWith (p ∷ word ∷ words) t options (file_of_words (p ∷ word ∷ words))
subcommand_asks p word name words t options plainly fits texts m f e = go (entered line (Some (name, words))) refl
  where
    met : option_and_then request_asked (entered line (Some (name, words))) ≡ Some (Ok (t, options))
    met = subst (λ (o : Option (Text × List Text)). option_and_then request_asked (entered line o) ≡ Some (Ok (t, options))) (stops word name words m) e

    fault : entered_fault line (Some (name, words)) ≡ []
    fault = subst (λ (o : Option (Text × List Text)). entered_fault line o ≡ []) (stops word name words m) (parts_none p (word ∷ words) f).1

    go : (o : Option (Text × List Row)) → entered line (Some (name, words)) ≡ o → AsksWith (p ∷ word ∷ words) t options (file_of_words (p ∷ word ∷ words))
    go None n = let bad : no_wish ≡ Some (Ok (t, options)) = rw n at met in cc
    go (Some r) n =
        let parts = wish_parts (task_asked r) (options_in r.1) (Ok (t, options)) (rw n at met) in
        let named : name_of t ≡ r.0 = for_name r t parts.0 in
        let is : word ≡ name_of t = sym (named ∙ (entered_name name words r n ∙ met_name word name names (no_aliases) m)) in
        let b = below name words r t (subst (λ (w : Text). by_name w ≡ Some t) named (by_own_name t plainly)) fits texts n fault in
        let from : file_of_words (p ∷ word ∷ words) ≡ first_of (codes "read") r.1 =
        ap (λ (o : Option (Text × List Text)). option_and_then file_asked (entered line o)) (stops word name words m) ∙ ap (option_and_then file_asked) n in
        record {
          called = p;
          arguments = b.told.arguments;
          line = b.told.line;
          mark = b.told.mark;
          behind = ap₂ (λ (w : Text) (l : List Text). p ∷ w ∷ l) is b.told.are;
          say = b.told.say;
          taken = b.told.taken;
          give = λ o. b.counts o ∙ ap once_if (is_on_in r.1 options parts.1.0 o);
          agree = parts.1.1;
          named = b.named ∙ ap named_once (sym from);
          means = plain_means t plainly b.told.arguments;
          end = b.told.end;
        }

mark_asks_nothing : (p : Text) (t : Asked) (options : Options) → request_of_words (p ∷ dashes ∷ []) ≡ Some (Ok (t, options)) → ⊥
unfolding clap_on_literals
mark_asks_nothing p t options e = cc

no_task : (p word : Text) (words : List Text) (t : Asked) (options : Options) → subcommand_met names idle word ≡ None → fault_of request_line (p ∷ word ∷ words) ≡ []
    → request_of_words (p ∷ word ∷ words) ≡ Some (Ok (t, options)) → ⊥
no_task p word words t options m f e =
    let lone = lone_mark top names program_flags refl word words m (parts_none p (word ∷ words) f).0 in
    mark_asks_nothing p t options
    (subst (λ (rest : List Text). request_of_words (p ∷ dashes ∷ rest) ≡ Some (Ok (t, options))) lone.1 (subst (λ (w : Text). request_of_words (p ∷ w ∷ words) ≡ Some (Ok (t, options))) lone.0 e))

-- words without a fault, and of a task without words of its own, ask for it, with their options over their file
pub words_ask_with : (words : List Text) (t : Asked) (options : Options) → fault_of request_line words ≡ [] → request_of_words words ≡ Some (Ok (t, options)) → is_plain t ≡ true → length words ≤ usize_max → AreTexts words
    → AsksWith words t options (file_of_words words)
words_ask_with (p ∷ word ∷ words) t options f e plainly fits texts = go (subcommand_met names idle word) refl
  where
    go : (o : Option Text) → subcommand_met names idle word ≡ o → AsksWith (p ∷ word ∷ words) t options (file_of_words (p ∷ word ∷ words))
    go (Some name) m = subcommand_asks p word name words t options plainly (omega (arith, fits)) texts.1.1 m f e
    go None m = absurd (no_task p word words t options m f e)
words_ask_with _ t options f e plainly fits texts = cc

-- ---- the words behind the name of a subcommand are its own, and pass where they do

abbrev stopped_at : Text → List Text → Walk
stopped_at name words = record (walk_from nothing_held) { stopped = Some (name, words) }

behind_name : (name : Text) (before words : List Text) → fold (walked top.rules names) (stopped_at name before) words ≡ stopped_at name (before ++ words)
unfolding walked
behind_name name before [] = ap (stopped_at name) (sym (append-nil before))
behind_name name before (word ∷ words) = behind_name name (before ++ word ∷ []) words ∙ ap (stopped_at name) (append_assoc before (word ∷ []) words)

behind_passes : (name : Text) (before words : List Text) → walk_passes top names (stopped_at name before) words ≡ true
unfolding walk_passes walked
behind_passes name before [] = refl
behind_passes name before (word ∷ words) = behind_passes name (before ++ word ∷ []) words

not_help : (b : Bool) → (not b || true) ≡ true
not_help true = refl
not_help false = refl

module _ (name : Text) (words : List Text) (met : subcommand_met names idle name ≡ Some name) where
  named_walk : walk top.rules names nothing_held (name ∷ words) ≡ stopped_at name words
  unfolding walked
  named_walk = rw met (behind_name name [] words)

  named_passes : walk_passes top names (walk_from nothing_held) (name ∷ words) ≡ true
  unfolding walk_passes walked
  named_passes = rw (met, not_help (bytes_eq name (codes "help"))) (behind_passes name [] words)

  top_passes : level_passes top names nothing_held (name ∷ words) true ≡ true
  top_passes =
      both_true _ _ named_passes
      (subst (λ (w : Walk). (settle_passes top.rules top.args_override_self w.held && (list_all default_passes top.rules && is_valid top (finished top.rules w.held) true)) ≡ true)
      (sym named_walk) refl)

-- the words are taken where those behind the name are
pub taken_behind : (called name : Text) (words : List Text) → subcommand_met names idle name ≡ Some name → is_some (entered line (Some (name, words))) ≡ true
    → entered_passes line (Some (name, words)) ≡ true → takes request_line (called ∷ name ∷ words) ≡ true
taken_behind called name words met there below =
    both_true (is_simple request_line) _ (simple_line)
    (subst (λ (w : Walk). (entered_passes line w.stopped && level_passes top names nothing_held (name ∷ words) (is_some (entered line w.stopped))) ≡ true)
    (sym (named_walk name words met))
    (both_true _ _ below (rw there (top_passes name words met))))

-- words that ask for a task with these options over this file are taken, and it is theirs
abbrev pub IsTaken : List Text → Asked → Options → Option Text → Type 0
IsTaken words t options from = (request_of_words words ≡ Some (Ok (t, options))) × (takes request_line words ≡ true) × (file_of_words words ≡ from)

-- rows that set what is on wish for a task with these options
pub wished : (options : Options) (rows : List Row) (t : Asked) (m : Option Meaning) → m ≡ Some (Ok t) → ((o : Switch) → is_set (switch_name o) rows ≡ is_on options o) → contradict options ≡ false
    → option_and_then (λ o. option_and_then (with_these o) m) (options_in rows) ≡ Some (Ok (t, options))
wished options rows t m asks set agree =
    ap (option_and_then (λ (o : Options). option_and_then (with_these o) m)) (options_from rows options set) ∙ ap (option_and_then (with_these options)) asks
    ∙ ap (λ (b : Bool). if b then no_wish else Some (Ok (t, options))) agree

pub at_most : (b : Bool) (n : ℕ) → n ≡ (if b then 1 else 0) → n ≤ 1
at_most true n e = omega (arith, e)
at_most false n e = omega (arith, e)

-- ---- words that ask for a task are taken, and that task is theirs, with the options and the file that stand there

record Command (t : Asked) (s : Shape) : Type 1 where
  met : subcommand_met names idle (name_of t) ≡ Some (name_of t)
  enters : (rest : List Text) → entered line (Some (name_of t, rest)) ≡ Some (name_of t, rows_after s.rules [] rest)
  passes : (rest : List Text) → level_passes s [] nothing_held rest false ≡ true → entered_passes line (Some (name_of t, rest)) ≡ true
  again : s.args_override_self ≡ false
  defaults : list_all default_passes s.rules ≡ true
  leave : Leaves s

-- rows hold arguments under other names than those of options
abbrev HoldOthers : Shape → List Row → List Argument → Type 0
HoldOthers s rows all = (id : Text) → IsApart id → row_at id rows ≡ row_for id (how_read s id) (given_as id all)

first_named : (how : Reading) (from : Option Text) → option_and_then (λ r. slice_get r.values 0) (row_for (codes "read") how (named_once from)) ≡ from
first_named how None = refl
first_named how (Some name) = refl

command_taken : (t : Asked) (s : Shape) → Command t s → (words : List Text) (options : Options) (from : Option Text) (a : AsksWith words t options from) → length words ≤ usize_max → Each s a.arguments a.arguments
    → ((rows : List Row) → HoldOthers s rows a.arguments → (task_asked (name_of t, rows) ≡ Some (Ok t)) × (is_valid s rows false ≡ true)) → IsTaken words t options from
command_taken t s c words options from a fits each asks = subst (λ (w : List Text). IsTaken w t options from) (sym a.behind) (
  ap (λ (o : Option (Text × List Text)). option_and_then request_asked (entered line o)) stop ∙ ap (option_and_then request_asked) (c.enters rest)
      ∙ wished options rows t (task_asked (name_of t, rows)) so.0 set a.agree,
  taken_behind a.called (name_of t) rest c.met (ap is_some (c.enters rest))
      (c.passes rest (level_ended s a.arguments rest ended c.again c.defaults so.1)),
  ap (λ (o : Option (Text × List Text)). option_and_then file_asked (entered line o)) stop ∙ ap (option_and_then file_asked) (c.enters rest) ∙ named,
)
  where
    rest : List Text
    rest = a.line ++ a.mark

    few : length a.line ≤ usize_max
    few = let all = ap length a.behind in let size = length-append a.line a.mark in omega (arith, fits, all, size)

    ended : Ended s a.arguments rest
    ended = arguments_end s a.arguments each a.line a.mark a.say a.end few

    rows : List Row
    rows = rows_after s.rules [] rest

    held : HoldOthers s rows a.arguments
    held id apart = ap (row_at id) ended.rows_are ∙ c.leave (Option Row) (row_at id) (λ o. default_other o id (apart o)) ended.rows_so ∙ ended.hold id

    set : (o : Switch) → is_set (switch_name o) rows ≡ is_on options o
    set o = ap (is_set (switch_name o)) ended.rows_are ∙ c.leave Bool (is_set (switch_name o)) (default_set o) ended.rows_so ∙ set_held s ended.rows_so a.arguments o (is_on options o) ended.hold each (a.give o)

    so : (task_asked (name_of t, rows) ≡ Some (Ok t)) × (is_valid s rows false ≡ true)
    so = asks rows held

    stop : stop_after top.rules names (name_of t ∷ rest) ≡ Some (name_of t, rest)
    stop = stops (name_of t) (name_of t) rest c.met

    named : file_asked (name_of t, rows) ≡ from
    named =
        ap (option_and_then (λ (r : Row). slice_get r.values 0)) (held (codes "read") (apart (codes "read") refl))
        ∙ ap (λ (ts : List Text). option_and_then (λ (r : Row). slice_get r.values 0) (row_for (codes "read") (how_read s (codes "read")) ts)) a.named
        ∙ first_named (how_read s (codes "read")) from

-- ---- each argument of a command

named_few : (from : Option Text) → length (named_once from) ≤ 1
named_few None = omega arith
named_few (Some name) = omega arith

-- what is given once at most in words that ask so
module _ (words : List Text) (t : Asked) (options : Options) (from : Option Text) (a : AsksWith words t options from) where
  once : (o : Switch) → length (given_as (switch_name o) a.arguments) ≤ 1
  once o = at_most (is_on options o) (length (given_as (switch_name o) a.arguments)) (a.give o)

  once_read : length (given_as (codes "read") a.arguments) ≤ 1
  once_read = subst (λ (l : List Text). length l ≤ 1) (sym a.named) (named_few from)

-- ---- commands without words of their own

plain_asked : (t : Asked) → is_plain t ≡ true → Command t (plain_leaf (takes_options t) t) → ((rows : List Row) → (task_asked (name_of t, rows) ≡ Some (Ok t)) × (is_valid (plain_leaf (takes_options t) t) rows false ≡ true))
    → (words : List Text) (options : Options) (from : Option Text) → length words ≤ usize_max → AsksWith words t options from → IsTaken words t options from
plain_asked t plainly c asks words options from fits a =
    command_taken t (plain_leaf (takes_options t) t) c words options from a fits
    (each_of (plain_leaf (takes_options t) t) a.arguments (takes_argument t) (λ x e. plain_handled (takes_options t) t a.arguments (once words t options from a) (once_read words t options from a) x (plain_takes t plainly x ∙ e)) a.arguments a.taken)
    (λ rows held. asks rows)

-- ---- `replay`

replay_asked_for : (blocks : List (Block Global)) (words : List Text) (options : Options) (from : Option Text) → length words ≤ usize_max → AsksWith words (replay blocks) options from → IsTaken words (replay blocks) options from
replay_asked_for blocks words options from fits a =
    command_taken (replay blocks) replays
    (record { met = refl; enters = λ rest. refl; passes = λ rest p. p; again = refl; defaults = refl; leave = λ X of past. own_leave X of past (block_argument ∷ switch_flag changes ∷ switch_flag simulation ∷ []) (inl refl, (inr (changes, refl), (inr (simulation, refl), tt))) })
    words options from a fits
    (each_of replays a.arguments (takes_argument (replay blocks)) handled a.arguments a.taken) (λ rows held. (asks rows held, refl))
  where
    handled : (x : Argument) → takes_argument (replay blocks) x ≡ true → Handled replays a.arguments x
    handled (switch o) e = switch_handled replays refl o (replay_offers o) a.arguments (once words (replay blocks) options from a o)
    handled (file name) e = file_handled replays replay_reads a.arguments name (once_read words (replay blocks) options from a)
    handled (valued name value) e = absurd (true≢false (sym e))
    handled (text b) e = text_handled a.arguments b

    asks : (rows : List Row) → HoldOthers replays rows a.arguments → task_asked (codes "replay", rows) ≡ Some (Ok (replay blocks))
    asks rows held =
        ap (λ (o : Option Row). Some (replay_of (unwrap_or (option_map (λ (r : Row). r.values) o) []))) (held (codes "BLOCK") (apart (codes "BLOCK") refl))
        ∙ ap (λ (l : List Text). Some (replay_of l)) (row_texts (codes "BLOCK") (how_read replays (codes "BLOCK")) (given_as (codes "BLOCK") a.arguments))
        ∙ ap (λ (m : Meaning). Some m) (all_meant block_at no_block replay blocks (given_as (codes "BLOCK") a.arguments) (sym a.means))

-- ---- `losses`

periods_say : (periods : List Period) (ts : List Text) → SayPeriods periods ts → map Some periods ≡ map period_at ts
periods_say [] ts say = ap (map period_at) (sym say)
periods_say (p ∷ periods) [] say = absurd say
periods_say (p ∷ periods) (t ∷ ts) say =
    ap₂ (λ (o : Option Period) (l : List (Option Period)). o ∷ l)
    (sym (ap period_at say.0.is ∙ text_says p say.0.digits say.0.are_digits say.0.number say.0.range)) (periods_say periods ts say.1)

losses_asked_for : (periods : List Period) (words : List Text) (options : Options) (from : Option Text) → length words ≤ usize_max → AsksWith words (losses periods) options from → IsTaken words (losses periods) options from
losses_asked_for periods words options from fits a =
    command_taken (losses periods) losses_leaf
    (record { met = refl; enters = λ rest. refl; passes = λ rest p. p; again = refl; defaults = refl; leave = λ X of past. own_leave X of past (stream_period ∷ []) (inl refl, tt) })
    words options from a fits
    (each_of losses_leaf a.arguments (takes_argument (losses periods)) handled a.arguments a.taken) (λ rows held. (asks rows held, refl))
  where
    handled : (x : Argument) → takes_argument (losses periods) x ≡ true → Handled losses_leaf a.arguments x
    handled (switch o) e = switch_handled losses_leaf refl o (losses_offer o e) a.arguments (once words (losses periods) options from a o)
    handled (file name) e = file_handled losses_leaf losses_read a.arguments name (once_read words (losses periods) options from a)
    handled (valued name value) e = subst (λ (n : Text). Handled losses_leaf a.arguments (valued n value)) (sym ((bytes_eq-Decides name (codes "period")).0 e)) (stream_handled a.arguments value)
    handled (text b) e = absurd (true≢false (sym e))

    asks : (rows : List Row) → HoldOthers losses_leaf rows a.arguments → task_asked (codes "losses", rows) ≡ Some (Ok (losses periods))
    asks rows held =
        ap (λ (o : Option Row). Some (losses_of (unwrap_or (option_map (λ (r : Row). r.values) o) []))) (held (codes "period") (apart (codes "period") refl))
        ∙ ap (λ (l : List Text). Some (losses_of l)) (row_texts (codes "period") (how_read losses_leaf (codes "period")) (given_as (codes "period") a.arguments))
        ∙ ap (λ (m : Meaning). Some m) (all_meant period_at no_period losses periods (given_as (codes "period") a.arguments) (periods_say periods (given_as (codes "period") a.arguments) a.means))

-- ---- `watch`

module _ (digits : Text) (are : IsNumeral 10 digits) where
  as_they_stand : without_minus digits ≡ digits
  as_they_stand = (elim digits as (λ (ds : Text). (slice_index ds 0 == 45) ≡ false → without_minus ds ≡ ds) [ [] ↦ λ e. refl | d ∷ ds ↦ λ e. rw e refl ]) (no_minus digits are)

  digits_pass : (period : ℕ) → digits_value 10 digits ≡ period → IsPeriod period → accepts false (parses.Signed (pos 2) (pos 65536)) digits ≡ true
  digits_pass period e range =
      Accepts-accepts false (parses.Signed (pos 2) (pos 65536)) digits (rw (no_minus digits are, no_plus digits are) are, rw (no_minus digits are, no_plus digits are) (record { sfits = omega arith }), rw (no_minus digits are, no_plus digits are) (omega (arith, ints)), rw (no_minus digits are, no_plus digits are) (omega (arith, ints)))

  digits_say : (period : ℕ) → digits_value 10 digits ≡ period → IsPeriod period → number_said (without_minus digits) ≡ Some period
  digits_say period e range = rw (as_they_stand, fits_back digits (rw (no_plus digits are) are, rw (no_plus digits are) (omega arith)), no_plus digits are, e) refl

-- the one text of a watch's period
record OnePeriod (period : ℕ) (ts : List Text) : Type 0 where
  digits : Text
  are : ts ≡ digits ∷ []
  pass : value_passes period_option digits ≡ true
  say : number_said (without_minus digits) ≡ Some period

one_period : (period : ℕ) (ts : List Text) → SayPeriods (record { id = None; number = period } ∷ []) ts → OnePeriod period ts
one_period period [] say = absurd say
one_period period (t ∷ ts) say = record {
  digits = say.0.digits;
  are = ap₂ (λ (x : Text) (l : List Text). x ∷ l) say.0.is say.1;
  pass = digits_pass say.0.digits say.0.are_digits period say.0.number say.0.range;
  say = digits_say say.0.digits say.0.are_digits period say.0.number say.0.range;
}

-- texts under a name that pass a test are texts of arguments that do, where they have the name
abbrev passes_as : Text → (Text → Bool) → Argument → Bool
passes_as name p a = not (bytes_eq (argument_name a) name) || p (argument_text a)

given_pass : (name : Text) (p : Text → Bool) (args : List Argument) → list_all p (given_as name args) ≡ true → list_all (passes_as name p) args ≡ true
given_pass name p [] e = refl
given_pass name p (a ∷ args) e = elim (cases_Bool (bytes_eq (argument_name a) name)) [
  | inl t ↦ let parts = both (p (argument_text a)) (list_all p (given_as name args)) (rw t at e) in rw (t, parts.0) (given_pass name p args parts.1)
  | inr t ↦ rw t (given_pass name p args (rw t at e))
]

all_both : (p q : Argument → Bool) (args : List Argument) → list_all p args ≡ true → list_all q args ≡ true → list_all (λ x. p x && q x) args ≡ true
all_both p q [] e f = refl
all_both p q (a ∷ args) e f =
    let first = both (p a) (list_all p args) e in
    let second = both (q a) (list_all q args) f in
    rw (first.0, second.0) (all_both p q args first.1 second.1)

watch_asked_for : (period : ℕ) (id : Text) (words : List Text) (options : Options) (from : Option Text) → length words ≤ usize_max → AsksWith words (watch period id) options from → IsTaken words (watch period id) options from
watch_asked_for period id words options from fits a =
    command_taken (watch period id) watches
    (record { met = refl; enters = λ rest. refl; passes = λ rest p. p; again = refl; defaults = refl; leave = λ X of past. own_leave X of past (period_option ∷ id_option ∷ []) (inl refl, (inl refl, tt)) })
    words options from a fits
    (each_of watches a.arguments (λ x. takes_argument (watch period id) x && passes_as (codes "period") (value_passes period_option) x)
    (λ x e. let parts = both (takes_argument (watch period id) x) (passes_as (codes "period") (value_passes period_option) x) e in handled x parts.0 parts.1) a.arguments
    (all_both (takes_argument (watch period id)) (passes_as (codes "period") (value_passes period_option)) a.arguments a.taken (given_pass (codes "period") (value_passes period_option) a.arguments pass)))
    asks
  where
    one : OnePeriod period (given_as (codes "period") a.arguments)
    one = one_period period (given_as (codes "period") a.arguments) a.means.0

    pass : list_all (value_passes period_option) (given_as (codes "period") a.arguments) ≡ true
    pass = subst (λ (l : List Text). list_all (value_passes period_option) l ≡ true) (sym one.are) (rw one.pass refl)

    once_period : length (given_as (codes "period") a.arguments) ≤ 1
    once_period = let size = ap length one.are in omega (arith, size)

    once_id : length (given_as (codes "id") a.arguments) ≤ 1
    once_id = let size = ap length a.means.1 in omega (arith, size)

    own : (name value : Text) (b : Bool) → bytes_eq name (codes "period") ≡ b → (b || bytes_eq name (codes "id")) ≡ true → (not b || value_passes period_option value) ≡ true → Handled watches a.arguments (valued name value)
    own name value true is e f = subst (λ (n : Text). Handled watches a.arguments (valued n value)) (sym ((bytes_eq-Decides name (codes "period")).0 is)) (period_handled a.arguments value f once_period)
    own name value false is e f = subst (λ (n : Text). Handled watches a.arguments (valued n value)) (sym ((bytes_eq-Decides name (codes "id")).0 e)) (id_handled a.arguments value once_id)

    handled : (x : Argument) → takes_argument (watch period id) x ≡ true → passes_as (codes "period") (value_passes period_option) x ≡ true → Handled watches a.arguments x
    handled (switch o) e f = switch_handled watches refl o (watch_offers o e) a.arguments (once words (watch period id) options from a o)
    handled (file name) e f = file_handled watches watch_reads a.arguments name (once_read words (watch period id) options from a)
    handled (valued name value) e f = own name value (bytes_eq name (codes "period")) refl e f
    handled (text b) e f = absurd (true≢false (sym e))

    asks : (rows : List Row) → HoldOthers watches rows a.arguments → (task_asked (codes "watch", rows) ≡ Some (Ok (watch period id))) × (is_valid watches rows false ≡ true)
    asks rows held =
        let p = held (codes "period") (apart (codes "period") refl) ∙ ap (row_for (codes "period") (how_read watches (codes "period"))) one.are in
        let i = held (codes "id") (apart (codes "id") refl) ∙ ap (row_for (codes "id") (how_read watches (codes "id"))) a.means.1 in
        (rw (p, i) (rw one.say refl), rw (p, i) refl)

-- ---- each task

pub asked_with : (words : List Text) (t : Asked) (options : Options) (from : Option Text) → length words ≤ usize_max → AsksWith words t options from → IsTaken words t options from
asked_with words (replay blocks) options from fits a = replay_asked_for blocks words options from fits a
asked_with words (watch period id) options from fits a = watch_asked_for period id words options from fits a
asked_with words (losses periods) options from fits a = losses_asked_for periods words options from fits a
asked_with words t options from fits a =
    plain_asked t refl (record { met = refl; enters = λ rest. refl; passes = λ rest p. p; again = refl; defaults = refl; leave = plain_leave (takes_options t) t }) (λ rows. (refl, refl)) words options from fits a
