-- Words that have no fault name a task, and words that ask for a task are taken.
use Rattle.std.proofs.Common.{◌≡◌, ◌≢◌, ◌&&◌, ◌⊎◌, ◌∙◌, ℕ, Bool, true, false, not, true≢false, List, [], ◌∷◌, Option, Some, None, Result, Ok, Err, is_some, option_map, option_and_then, unwrap_or, inl, inr, refl, sym, ap, ap₂, subst}
use Rattle.std.specs.Prelude.{Box, IfOk, IfErr, codes, find, if◌then◌else◌}
use Rattle.std.specs.Option.{option_map_or}
use Rattle.std.specs.Box.{box_value}
use Rattle.clap.specs.Words.{App, HasKind, IsAmong, Kinds, Row, Shape, Text, built, fault_of, is_simple, is_simple_and_free, kind_of, subcommand_name_of, subcommand_of, subcommand_rows, subcommand_rows_of, takes}
use Rattle.clap.specs.Kinds.{check_kinds, or_else}
use Rattle.clap.specs.Faults.{entered_fault, level_fault, walk_fault}
use Rattle.clap.specs.Simple.{argument_words, entered, names_of, rows_at}
use Rattle.clap.proofs.WalkLemmas.{both}
use Rattle.clap.specs.Walk.{Held, Names, nothing_held, rows_after, stop_after, walk_from}
use Rattle.clap.specs.declared.parser.matches.ArgMatches.{ArgMatches}
use Rattle.clap.specs.declared.parser.matches.ArgMatches.TheViews.{out-ArgMatches, out-SubCommand}
use Rattle.clap.specs.declared.parser.matches.SubCommand.{SubCommand}
use Rattle.clap.specs.declared.error.Error.{Error}
use Rattle.clap.specs.declared.error.kind.ErrorKind.{ErrorKind}
use Rattle.clap.specs.declared.error.kind.ErrorKind.TheVariants as kind
use Rattle.words_core.specs.declared.option_words.Options.{Options}
use Rattle.words_core.specs.declared.words.Request.{Request}
use Rattle.words_core.specs.declared.words.Task.{Task}
use Rattle.words_core.specs.declared.words.WordsError.{WordsError}
use Rattle.words_core.specs.declared.words.WordsError.TheVariants as refused
use Rattle.words_core.proofs.KeptRows.{EachIs, first_none, found_is, leaf, level_checked, texts_in, then_none, watch_says}
use Rattle.words_core.proofs.Digits.{periods_in_range}
use Rattle.words_core.specs.CommandLine.{AnswersTask, AnswersUnsaid, Asked, HasPeriod, IsNoMistake, IsUnsaid, Meaning, Unsaid, asked_by, blocks_in, check, first_bad_block, first_bad_period, import, is_plain, list_blocks, losses, losses_shape, names_blocks, no_block, no_period, periods_in, plain, publish, replay, replay_shape, rewrite, show, task_asked, watch, watch_shape}
use Rattle.words_core.specs.RequestLine.{AnswersAsked, AnswersRequest, AsksWith, MayRefuseRequest, MayRefuseWords, RefusesUnsaid, Wish, contradict, file_of_words, meaning_names_blocks, offered, options_in, request_asked, request_faults, request_line, request_of_words, takes_request, takes_words, task_of_words, with_these, word_faults}
use Rattle.words_core.specs.computed.PrivateCalls.{MayAnswer}
use Rattle.words_core.specs.computed.OfferedLine.{Excludes, IsExclusion, IsUnnamed, MayGrant}

-- where a subcommand is required and the last checks pass, there is one
checked : (has help required argument : Bool) → required ≡ true → check_kinds (not has && help) (not has && required) argument ≡ [] → has ≡ true
checked true help required argument r e = refl
checked false false true argument r e = cc
checked false _ _ argument r e = cc

level_named : (s : Shape) (names : Names) (h : Held) (words : List Text) (has : Bool) (below : Kinds) → s.subcommand_required ≡ true → level_fault s names h words has below ≡ [] → has ≡ true
level_named s names h words has below r e = checked has _ s.subcommand_required _ r (level_checked s names h words has below e)

subcommand_given : (a : App) (words : List Text) → (built a).top.subcommand_required ≡ true → fault_of a words ≡ [] → is_some (subcommand_of a words) ≡ true
subcommand_given a words r e =
    let stop = stop_after (built a).top.rules (names_of (built a)) (argument_words a words) in
    level_named (built a).top (names_of (built a)) nothing_held (argument_words a words) (is_some (entered (built a) stop)) (entered_fault (built a) stop) r e

abbrev no_meaning : Unsaid → Option Meaning
no_meaning u = Some (Err u)

abbrev wish_or : Asked × Options → Option Wish → Asked × Options
wish_or d (Some (Ok wish)) = wish
wish_or d _ = d

abbrev unsaid_or : Unsaid → Option Meaning → Unsaid
unsaid_or d (Some (Err u)) = u
unsaid_or d _ = d

-- something is asked for, with periods in range
abbrev pub IsAsked : Option Meaning → Type 0
IsAsked None = ⊥
IsAsked (Some (Ok t)) = HasPeriod t
IsAsked (Some (Err i)) = Unit {0}

-- the matches of a subcommand whose words have no fault ask for something
abbrev AsksForSomething : Shape → Type 0
AsksForSomething s = (words : List Text) → level_fault s [] nothing_held words false [] ≡ [] → IsAsked (task_asked (rows_at s words))

found_asks : (p : Shape → Bool) (words : List Text) (xs : List Shape) → EachIs AsksForSomething xs
    → is_some (option_map (λ s. rows_at s words) (find p xs)) ≡ true
    → option_map_or (λ s. level_fault s [] nothing_held words false []) (find p xs) [] ≡ []
    → IsAsked (option_and_then task_asked (option_map (λ s. rows_at s words) (find p xs)))
found_asks p words xs all = go (find p xs) refl
  where
    go : (o : Option Shape) → find p xs ≡ o → is_some (option_map (λ s. rows_at s words) o) ≡ true → option_map_or (λ s. level_fault s [] nothing_held words false []) o [] ≡ []
        → IsAsked (option_and_then task_asked (option_map (λ s. rows_at s words) o))
    go None t e f = cc
    go (Some s) t e f = (found_is AsksForSomething p xs all s t).0 words f

entered_gives : (a : App) (stop : Option (Text × List Text)) → EachIs AsksForSomething a.subs → is_some (entered a stop) ≡ true → entered_fault a stop ≡ []
    → IsAsked (option_and_then task_asked (entered a stop))
entered_gives a None all e f = cc
entered_gives a (Some p) all e f = found_asks _ p.1 a.subs all e f

-- the name and the rows of the subcommand that was met
met_rows : {Z : Type 0} (o : Option (Box SubCommand Z)) (name : Text) (rows : List Row) → option_map (λ b. (out-SubCommand (box_value b)).name.now) o ≡ Some name
    → option_map (λ (p : Text × List Row). p.1) (subcommand_rows o) ≡ Some rows → subcommand_rows o ≡ Some (name, rows)
met_rows None name rows e f = cc
met_rows (Some b) name rows e f =
    ap₂ (λ (n : Option Text) (r : Option (List Row)). Some (unwrap_or n name, unwrap_or r rows)) e f

pub met : (m : ArgMatches) (name : Text) (rows : List Row) → subcommand_name_of m ≡ Some name
    → option_map (λ (p : Text × List Row). p.1) (subcommand_rows_of m) ≡ Some rows → subcommand_rows_of m ≡ Some (name, rows)
met m name rows e f = met_rows (out-ArgMatches m).subcommand name rows e f

-- texts ask for something where what they all say is in range
said_asks : (none : ℕ → Unsaid) (t : Asked) → HasPeriod t → (o : Option ℕ) → IsAsked (Some (option_map_or (λ i. Err (none i)) o (Ok t)))
said_asks none t is None = is
said_asks none t is (Some i) = tt

plain_gives : (takes : Bool) (t : Asked) → is_plain t ≡ true → AsksForSomething (leaf (offered takes (plain t).shape))
plain_gives takes (replay blocks) e words f = absurd (true≢false (sym e))
plain_gives takes (watch period id) e words f = absurd (true≢false (sym e))
plain_gives takes (losses periods) e words f = absurd (true≢false (sym e))
plain_gives takes t e words f = tt

replay_gives : AsksForSomething (leaf (offered true replay_shape))
replay_gives words f =
    let said = texts_in (codes "BLOCK") (rows_after (leaf (offered true replay_shape)).rules [] words) in
    said_asks no_block (replay (blocks_in said)) tt (first_bad_block said)

watch_gives : AsksForSomething (leaf (offered true watch_shape))
watch_gives words f = let says = watch_says words f in rw says.2 says.3

losses_gives : AsksForSomething (leaf (offered true losses_shape))
losses_gives words f =
    let said = texts_in (codes "period") (rows_after (leaf (offered true losses_shape)).rules [] words) in
    said_asks no_period (losses (periods_in said)) (periods_in_range said) (first_bad_period said)

all_give : EachIs AsksForSomething (built request_line).subs
all_give = (
  plain_gives true show refl,
  (plain_gives true check refl, (plain_gives false rewrite refl, (plain_gives true list_blocks refl, (replay_gives, (plain_gives false publish refl, (watch_gives, (losses_gives, (plain_gives false import refl, tt)))))))),
)

-- words without a fault ask for something
pub faultless_asks : (words : List Text) → fault_of request_line words ≡ [] → IsAsked (task_of_words words)
faultless_asks words e =
    let line = request_line in
    let stop = stop_after (built line).top.rules (names_of (built line)) (argument_words line words) in
    let below = then_none (walk_fault (built line).top (names_of (built line)) (walk_from nothing_held) (argument_words line words)) _ e in
    entered_gives (built line) stop (all_give) (subcommand_given line words refl e) (first_none (entered_fault (built line) stop) _ below)

-- memory ran out, or it did not
memory_or_not : (k : ErrorKind) → (k ≡ kind.OutOfMemory) ⊎ (k ≢ kind.OutOfMemory)
memory_or_not kind.OutOfMemory = inl refl
memory_or_not _ = inr (λ e. cc)

-- a kind of the first step that fails is one of all
among_first : (k : ErrorKind) (first second : Kinds) → IsAmong k first → IsAmong k (or_else first second)
among_first k [] second among = absurd among
among_first k (x ∷ xs) second among = among

-- words without a fault that wish for something have no mistake
wish_no_mistake : (words : List Text) (w : Wish) → fault_of request_line words ≡ [] → request_of_words words ≡ Some w → request_faults words ≡ []
wish_no_mistake words w none e = rw (none, e) refl

-- an error of the words, told apart from want of memory, is one of their faults
pub may_refuse : (words : List Text) (e : Error) (r : WordsError) → HasKind (fault_of request_line words) e → (kind_of e ≡ kind.OutOfMemory → r ≡ refused.Memory)
    → ((kind_of e ≢ kind.OutOfMemory) → r ≡ refused.Words e) → MayRefuseRequest words r
may_refuse words e r has memory other = elim (memory_or_not (kind_of e)) [
  | inl k ↦ subst (MayRefuseRequest words) (sym (memory k)) tt
  | inr k ↦ subst (MayRefuseRequest words) (sym (other k)) (elim has [ inl out ↦ absurd (k out) | inr among ↦ among_first (kind_of e) (fault_of request_line words) _ among ])
]

-- ---- what is answered, where the words have no fault

abbrev Answer : Type 0
Answer = Result Request WordsError

abbrev pub Granted : List Text → Request → Type 0
Granted words r = request_of_words words ≡ Some (Ok (asked_by r.task, r.options))

-- words without a fault that wish for nothing have options that exclude each other
excluded : (words : List Text) (e : WordsError) → fault_of request_line words ≡ [] → request_of_words words ≡ None → IsExclusion e → MayRefuseRequest words e
excluded words (refused.Words error) none nothing is = rw (none, nothing) (inl is)
excluded words refused.Memory none nothing is = tt
excluded _ _ _ _ is = absurd is

-- why an answer is refused, and that the words are not what is wrong where they wish for something
abbrev pub WhyNot : List Text → WordsError → Type 0
WhyNot words e = MayRefuseRequest words e × (is_some (request_of_words words) ≡ true → IsNoMistake e)

module _ (words : List Text) (none : fault_of request_line words ≡ []) where
  why_not : (o : Option Wish) → request_of_words words ≡ o → (e : WordsError) → MayGrant o (Some (Err e)) → WhyNot words e
  why_not None x e m = (excluded words e none x m, λ some. absurd (true≢false (sym some ∙ ap is_some x)))
  why_not (Some (Ok t)) x e m = subst (WhyNot words) (sym m) (tt, λ some. tt)
  why_not (Some (Err u)) x (refused.Words error) m = absurd m
  why_not (Some (Err u)) x refused.Memory m = (tt, λ some. tt)
  why_not (Some (Err u)) x _ m = ((wish_no_mistake words (Err u) none x, x ∙ ap (λ (k : Unsaid). Some (Err k)) (sym m)), λ some. tt)

  is_granted : (o : Option Wish) → request_of_words words ≡ o → (r : Request) → MayGrant o (Some (Ok r)) → Granted words r
  is_granted (Some (Ok t)) x r m = x ∙ ap₂ (λ (u : Asked) (o : Options). Some (Ok (u, o))) (sym m.0) (sym m.1)
  is_granted _ _ _ m = absurd m

  pub answers : (answer : Answer) → MayGrant (request_of_words words) (Some answer) → IfOk answer (λ r. Granted words r × (request_faults words ≡ [])) × IfErr answer (WhyNot words)
  answers (Ok r) m = let granted = is_granted (request_of_words words) refl r m in ((granted, wish_no_mistake words (Ok (asked_by r.task, r.options)) none granted), tt)
  answers (Err e) m = (tt, why_not (request_of_words words) refl e m)

-- where nothing is answered, options exclude each other
pub excludes : (w : Option Wish) (e : WordsError) → MayGrant w None → IsExclusion e → MayGrant w (Some (Err e))
excludes None e may is = is
excludes (Some wish) e may is = absurd may

-- ---- what was answered, told of the task and of the words

-- a wish is the meaning of a task, and where that is a task the options, which do not contradict each other
abbrev pub meaning_of : Wish → Meaning
meaning_of (Ok wish) = Ok wish.0
meaning_of (Err u) = Err u

abbrev AreGiven : Option Options → Wish → Type 0
AreGiven o (Ok wish) = (o ≡ Some wish.1) × (contradict wish.1 ≡ false)
AreGiven o (Err u) = Unit {0}

pub wish_parts : (m : Option Meaning) (o : Option Options) (w : Wish) → option_and_then (λ x. option_and_then (with_these x) m) o ≡ Some w → (m ≡ Some (meaning_of w)) × AreGiven o w
wish_parts (Some (Err u)) (Some o) w e = subst (λ (x : Wish). (Some (Err u) ≡ Some (meaning_of x)) × AreGiven (Some o) x) (ap (λ (x : Option Wish). unwrap_or x (Err u)) e) (refl, tt)
wish_parts (Some (Ok t)) (Some o) w e = go (contradict o) refl e
  where
    one : Wish
    one = Ok (t, o)

    go : (b : Bool) → contradict o ≡ b → (if b then None else Some one) ≡ Some w → (Some (Ok t) ≡ Some (meaning_of w)) × AreGiven (Some o) w
    go true c f = cc
    go false c f = subst (λ (x : Wish). (Some (Ok t) ≡ Some (meaning_of x)) × AreGiven (Some o) x) (ap (λ (x : Option Wish). unwrap_or x one) f) (refl, (refl, c))
wish_parts m None w e = cc
wish_parts None (Some o) w e = cc

pub wish_means : (words : List Text) (w : Wish) → request_of_words words ≡ Some w → task_of_words words ≡ Some (meaning_of w)
wish_means words w e = go (subcommand_of request_line words) e
  where
    go : (met : Option (Text × List Row)) → option_and_then request_asked met ≡ Some w → option_and_then task_asked met ≡ Some (meaning_of w)
    go None f = cc
    go (Some met) f = (wish_parts (task_asked met) (options_in met.1) w f).0

pub asked_period : (words : List Text) (t : Asked) → fault_of request_line words ≡ [] → task_of_words words ≡ Some (Ok t) → HasPeriod t
asked_period words t none e = subst IsAsked e (faultless_asks words none)

-- words that are taken are refused for want of memory alone, where what they ask for is a task
pub memory_alone : (words : List Text) (t : Asked) (e : WordsError) → task_of_words words ≡ Some (Ok t) → MayRefuseRequest words e → IsNoMistake e → e ≡ refused.Memory
memory_alone words t (refused.Words error) asks may sure = absurd sure
memory_alone words t (refused.Block i) asks may sure = let bad : Some (Ok t) ≡ Some (Err (no_block i)) = sym asks ∙ wish_means words (Err (no_block i)) may.1 in cc
memory_alone words t (refused.Period i) asks may sure = let bad : Some (Ok t) ≡ Some (Err (no_period i)) = sym asks ∙ wish_means words (Err (no_period i)) may.1 in cc
memory_alone words t refused.Memory asks may sure = refl

-- words without a fault, of which a text says nothing, are refused by that text
pub unsaid_alone : (words : List Text) (u : Unsaid) (e : WordsError) → request_faults words ≡ [] → task_of_words words ≡ Some (Err u) → MayRefuseRequest words e → IsUnsaid u e
unsaid_alone words u (refused.Words error) none bad may = subst (λ (k : Kinds). IsAmong (kind_of error) k) none may
unsaid_alone words u (refused.Block i) none bad may =
    let same : no_meaning (no_block i) ≡ Some (Err u) = sym (wish_means words (Err (no_block i)) may.1) ∙ bad in ap (λ (m : Option Meaning). unsaid_or (no_block i) m) same
unsaid_alone words u (refused.Period i) none bad may =
    let same : no_meaning (no_period i) ≡ Some (Err u) = sym (wish_means words (Err (no_period i)) may.1) ∙ bad in ap (λ (m : Option Meaning). unsaid_or (no_period i) m) same
unsaid_alone words u refused.Memory none bad may = tt

-- what `read_request` says of its answers
pub answered_plainly : (words : List Text) (answer : Answer) → IfOk answer (λ r. request_faults words ≡ []) → IfOk answer (Granted words)
    → ((t : Asked) (options : Options) → fault_of request_line words ≡ [] → request_of_words words ≡ Some (Ok (t, options)) → is_plain t ≡ true → AsksWith words t options (file_of_words words))
    → IfOk answer (λ r. option_map (λ s. s.now) r.file ≡ file_of_words words) → IfOk answer (λ r. is_plain (asked_by r.task) ≡ true → AsksWith words (asked_by r.task) r.options (option_map (λ s. s.now) r.file))
answered_plainly words (Ok r) none granted asks from =
    λ plainly. subst (AsksWith words (asked_by r.task) r.options) (sym from) (asks (asked_by r.task) r.options (first_none (fault_of request_line words) _ none) granted plainly)
answered_plainly words (Err e) none granted asks from = tt

pub answered_period : (words : List Text) (answer : Answer) → IfOk answer (λ r. request_faults words ≡ []) → IfOk answer (Granted words) → IfOk answer (λ r. HasPeriod (asked_by r.task))
answered_period words (Ok r) none granted = asked_period words (asked_by r.task) (first_none (fault_of request_line words) _ none) (wish_means words (Ok (asked_by r.task, r.options)) granted)
answered_period words (Err e) none granted = tt

pub request_granted : (words : List Text) (t : Asked) (options : Options) (answer : Answer) → IfOk answer (Granted words) → IfErr answer (MayRefuseRequest words)
    → IfErr answer IsNoMistake → request_of_words words ≡ Some (Ok (t, options)) → AnswersRequest t options answer
request_granted words t options (Ok r) granted may sure wish =
    let same = sym granted ∙ wish in
    (ap (λ (w : Option Wish). (wish_or (t, options) w).0) same, ap (λ (w : Option Wish). (wish_or (t, options) w).1) same)
request_granted words t options (Err e) granted may sure wish = memory_alone words t e (wish_means words (Ok (t, options)) wish) may sure

-- and with the file of the words
pub with_file : (words : List Text) (t : Asked) (options : Options) (from : Option Text) (answer : Answer) → AnswersRequest t options answer → IfOk answer (λ r. option_map (λ s. s.now) r.file ≡ file_of_words words)
    → file_of_words words ≡ from → AnswersAsked t options from answer
with_file words t options from (Ok r) granted same file = (granted.0, granted.1, same ∙ file)
with_file words t options from (Err e) granted same file = granted

pub unsaid_refused : (words : List Text) (u : Unsaid) (answer : Answer) → IfOk answer (Granted words) → IfErr answer (MayRefuseRequest words) → request_faults words ≡ []
    → request_of_words words ≡ Some (Err u) → RefusesUnsaid u answer
unsaid_refused words u (Ok r) granted may none bad = let other : Some (Ok (asked_by r.task, r.options)) ≡ Some (Err u) = sym granted ∙ bad in cc
unsaid_refused words u (Err e) granted may none bad = unsaid_alone words u e none (wish_means words (Err u) bad) may

-- ---- a replay must have a control block

-- words that are answered with a task that has one where it must
pub named_faultless : (words : List Text) (t : Asked) (options : Options) → request_faults words ≡ [] → request_of_words words ≡ Some (Ok (t, options)) → names_blocks t ≡ true → word_faults words ≡ []
named_faultless words t options none wish named = let task = wish_means words (Ok (t, options)) wish in rw (none, task, named) refl

-- words that ask for a replay of none may be refused by that, and are not taken so
pub unnamed_refused : (words : List Text) (t : Asked) (options : Options) (e : WordsError) → request_faults words ≡ [] → request_of_words words ≡ Some (Ok (t, options)) → names_blocks t ≡ false → IsUnnamed e → MayRefuseWords words e
unnamed_refused words t options (refused.Words error) none wish unnamed is = let task = wish_means words (Ok (t, options)) wish in rw (none, task, unnamed) (inl is)
unnamed_refused words t options refused.Memory none wish unnamed is = tt
unnamed_refused _ _ _ _ _ _ _ is = absurd is

pub unnamed_not_taken : (words : List Text) (t : Asked) (options : Options) → request_of_words words ≡ Some (Ok (t, options)) → names_blocks t ≡ false → takes_words words ≡ true → ⊥
unnamed_not_taken words t options wish unnamed taken =
    let parts = both (takes_request words) (meaning_names_blocks (task_of_words words)) taken in
    true≢false (sym parts.1 ∙ ap meaning_names_blocks (wish_means words (Ok (t, options)) wish) ∙ unnamed)

-- what is refused otherwise may be refused here
pub refused_so : (words : List Text) (e : WordsError) → MayRefuseRequest words e → MayRefuseWords words e
refused_so words (refused.Words error) may = among_first (kind_of error) (request_faults words) _ may
refused_so _ _ may = may

-- ---- the command line is such that `clap` says what it does

pub simple_line : is_simple request_line ≡ true
simple_line = refl

pub free_line : is_simple_and_free request_line ≡ true
free_line = refl

-- ---- a task becomes a request

pub grants : (m : Option Meaning) (o : Options) (a : Result Task WordsError) (r : Answer) → ((t : Asked) → AnswersTask t a → contradict o ≡ false → AnswersRequest t o r)
    → ((t : Asked) → AnswersTask t a → contradict o ≡ true → Excludes r) → ((u : Unsaid) → AnswersUnsaid u a → RefusesUnsaid u r)
    → MayAnswer m (Some a) → MayGrant (option_and_then (with_these o) m) (Some r)
grants None o a r answered excludes refuses may = absurd may
grants (Some (Ok t)) o a r answered excludes refuses may = go (contradict o) refl
  where
    one : Wish
    one = Ok (t, o)

    go : (b : Bool) → contradict o ≡ b → MayGrant (if b then None else Some one) (Some r)
    go true c = excludes t may c
    go false c = answered t may c
grants (Some (Err i)) o a r answered excludes refuses may = refuses i may

pub grants_none : (m : Option Meaning) (o : Options) → MayAnswer m None → MayGrant (option_and_then (with_these o) m) None
grants_none None o may = tt
grants_none (Some meaning) o may = absurd may
