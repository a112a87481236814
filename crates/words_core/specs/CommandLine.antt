-- The command line of the program: the task of each subcommand, and why words may be refused.
use Rattle.std.specs.Prelude.{◌≡◌, ◌==◌, ◌⊎◌, ℕ, pos, true, false, not, Bool, List, [], ◌∷◌, ◌++◌}
use Rattle.std.specs.Prelude.{filter_map, find, position, Option, Some, None, Result, Ok, Err, MatchResult, is_some, option_and_then, option_map, unwrap_or, codes, if◌then◌else◌}
use Rattle.std.specs.Global.{Global}
use Rattle.std.specs.Option.{option_map_or}
use Rattle.std.specs.Str.{bytes_eq}
use Rattle.std.specs.Str.Parse.{digits_value, without_leading_plus}
use Rattle.clap.specs.Lexer.{usize_max}
use Rattle.clap.specs.Words.{App, Row, Rule, Shape, Text, all_of, first_of, new_app, new_rule, one_of, with_rule}
use Rattle.clap.specs.ValueTests.{is_unsigned_in}
use Rattle.clap.specs.declared.builder.action.ArgAction.TheVariants.{Append, SetTrue}
use Rattle.clap.specs.declared.builder.value_parser.ValueParser.TheVariants as parses
use Rattle.block_core.specs.declared.block.Block.{Block}
use Rattle.block_core.specs.Period.{IsPeriod}
use Rattle.loss_core.specs.Periods.{ArePeriods, Period}
use Rattle.words_core.specs.declared.words.Task.{Task}
use Rattle.words_core.specs.declared.words.Task.TheVariants.{Show, Check, Rewrite, Blocks, Publish, Import, Replay, Watch, Losses}
use Rattle.words_core.specs.declared.words.WordsError.{WordsError}
use Rattle.words_core.specs.declared.words.WordsError.TheVariants as refused
use Rattle.block_core.specs.BlockText.{block_in}

-- what words may ask for; a replay of these control blocks, in this order; a watch over the stream with this
-- svID, whose counter has this period; what is missing, where streams have these periods
pub data Asked : Type 0 where
  show : Asked
  check : Asked
  rewrite : Asked
  list_blocks : Asked
  publish : Asked
  import : Asked
  replay : List (Block Global) → Asked
  watch : ℕ → Text → Asked
  losses : List Period → Asked

-- what is asked for by a task, wherever its blocks and its svID stand in memory
abbrev pub asked_by : Task → Asked
asked_by Show = show
asked_by Check = check
asked_by Rewrite = rewrite
asked_by Blocks = list_blocks
asked_by Publish = publish
asked_by Import = import
asked_by (Replay blocks) = replay blocks.items
asked_by (Watch period id) = watch period id.items
asked_by (Losses periods) = losses periods.items

-- the name of the subcommand that asks for a task
abbrev pub name_of : Asked → Text
name_of show = codes "show"
name_of check = codes "check"
name_of rewrite = codes "rewrite"
name_of list_blocks = codes "blocks"
name_of publish = codes "publish"
name_of import = codes "import"
name_of (replay blocks) = codes "replay"
name_of (watch period id) = codes "watch"
name_of (losses periods) = codes "losses"

-- the task's subcommand has no words of its own
abbrev pub is_plain : Asked → Bool
is_plain (replay blocks) = false
is_plain (watch period id) = false
is_plain (losses periods) = false
is_plain _ = true

-- the task's subcommand reads events, and takes the options on them
abbrev pub takes_options : Asked → Bool
takes_options rewrite = false
takes_options publish = false
takes_options import = false
takes_options _ = true

-- there is a control block among these
abbrev pub has_block : List (Block Global) → Bool
has_block [] = false
has_block (block ∷ blocks) = true

-- the task is no replay, or one of a control block at least
abbrev pub names_blocks : Asked → Bool
names_blocks (replay blocks) = has_block blocks
names_blocks _ = true

-- the period of a watch is one that a watch may have, and so is each that is given for losses
abbrev pub HasPeriod : Asked → Type 0
HasPeriod (watch period id) = IsPeriod period
HasPeriod (losses periods) = ArePeriods periods
HasPeriod _ = Unit {0}

-- what the words of a subcommand leave unsaid: at this position, from 0, of the texts of control blocks, or of those of periods,
-- the first one stands that says none
pub data Unsaid : Type 0 where
  no_block : ℕ → Unsaid
  no_period : ℕ → Unsaid

-- what the matches of a subcommand ask for: a task, or none because of a text that says nothing
abbrev pub Meaning : Type 0
Meaning = Result Asked Unsaid

-- a subcommand: the words of its own that it takes, whether it takes the options on events beside them, and what its
-- matches ask for
pub record Subcommand : Type 0 where
  pub shape : Shape
  pub has_options : Bool
  pub task : List Row → Option Meaning

-- the subcommand without words of its own that asks for this task
abbrev pub plain : Asked → Subcommand
plain t = record { shape = (new_app (name_of t)).top; has_options = takes_options t; task = λ rows. Some (Ok t) }

-- the control block that a text says
abbrev pub block_at : Text → Option (Block Global)
block_at = block_in

-- the position, from 0, of the first text that says no control block
abbrev pub first_bad_block : List Text → Option ℕ
first_bad_block = position (λ text. not (is_some (block_at text)))

-- the control blocks that texts say, in order
abbrev pub blocks_in : List Text → List (Block Global)
blocks_in = filter_map block_at

-- a replay of the control blocks that all these texts say
abbrev pub replay_of : List Text → Meaning
replay_of texts = option_map_or (λ i. Err (no_block i)) (first_bad_block texts) (Ok (replay (blocks_in texts)))

-- the argument BLOCK: words, or none
abbrev pub block_rule : Rule
block_rule = record (new_rule (codes "BLOCK")) { range = Some (record { start_inclusive = 1; end_inclusive = usize_max }) }

-- an option without a value, by this name
abbrev pub option_named : Text → Rule
option_named name = record (new_rule name) { long = Some name; action = Some SetTrue }

-- the options --changes and --simulation
abbrev pub changes_rule : Rule
changes_rule = option_named (codes "changes")

abbrev pub simulation_rule : Rule
simulation_rule = option_named (codes "simulation")

-- the words of `replay`: its name, the argument BLOCK, and two options of its own
abbrev pub replay_shape : Shape
replay_shape = (with_rule (with_rule (with_rule (new_app (codes "replay")) block_rule) changes_rule) simulation_rule).top

-- the replay that the words BLOCK say; where there is none, of no control block
abbrev pub replay_asked : List Row → Option Meaning
replay_asked rows = Some (replay_of (unwrap_or (all_of (codes "BLOCK") rows) []))

-- the subcommand of a replay
abbrev pub replaying : Subcommand
replaying = record { shape = replay_shape; has_options = true; task = replay_asked }

-- the option --period: a number of counts that a watch may have
abbrev pub period_rule : Rule
period_rule = record (new_rule (codes "period")) {
  long = Some (codes "period");
  value_names = 1;
  parser = Some (parses.Signed (pos 2) (pos 65536));
  required = true;
}

-- the option --id: a text
abbrev pub id_rule : Rule
id_rule = record (new_rule (codes "id")) { long = Some (codes "id"); value_names = 1; required = true }

-- the words of `watch`: its name, and its two options
abbrev pub watch_shape : Shape
watch_shape = (with_rule (with_rule (new_app (codes "watch")) period_rule) id_rule).top

-- the number of at most 4294967295 that decimal digits say, perhaps behind a plus
abbrev pub number_said : Text → Option ℕ
number_said text = if is_unsigned_in 0 4294967295 text then Some (digits_value 10 (without_leading_plus text)) else None

-- the watch that the two options say
abbrev pub watch_asked : List Row → Option Meaning
watch_asked rows = option_and_then (λ period. option_map (λ id. Ok (watch period id)) (first_of (codes "id") rows))
    (option_and_then number_said (one_of (codes "period") rows))

-- the subcommand of a watch
abbrev pub watching : Subcommand
watching = record { shape = watch_shape; has_options = true; task = watch_asked }

-- the number of samples that a text says: decimal digits, perhaps behind a plus, from 2 to 65,536
abbrev pub period_number : Text → Option ℕ
period_number text = if is_unsigned_in 2 65536 text then Some (digits_value 10 (without_leading_plus text)) else None

-- a text by its parts: the number behind an svID, for the streams with that; or the number alone, for all
abbrev pub period_of_parts : Text → Option (Text × Text) → Option Period
period_of_parts text None = option_map (λ n. record { id = None; number = n }) (period_number text)
period_of_parts text (Some parts) = option_map (λ n. record { id = Some parts.0; number = n }) (period_number parts.1)

-- a text of this octet and others, by where the last `=` (61) divides the others
abbrev pub divided_behind : ℕ → Text → Option (Text × Text) → Option (Text × Text)
divided_behind c others None = if c == 61 then Some ([], others) else None
divided_behind c others (Some parts) = Some (c ∷ parts.0, parts.1)

-- what stands before the last `=` of a text, and behind it
abbrev pub divided : Text → Option (Text × Text)
divided [] = None
divided (c ∷ others) = divided_behind c others (divided others)

-- the period that a text says: where it has an `=`, the last one divides it into an svID and a number
abbrev pub period_at : Text → Option Period
period_at text = period_of_parts text (divided text)

-- the position, from 0, of the first text that says no period
abbrev pub first_bad_period : List Text → Option ℕ
first_bad_period = position (λ text. not (is_some (period_at text)))

-- the periods that texts say, in order
abbrev pub periods_in : List Text → List Period
periods_in = filter_map period_at

-- the losses, where streams have the periods that all these texts say
abbrev pub losses_of : List Text → Meaning
losses_of texts = option_map_or (λ i. Err (no_period i)) (first_bad_period texts) (Ok (losses (periods_in texts)))

-- the option --period of `losses`, which may be given several times: each time a text
abbrev pub stream_period_rule : Rule
stream_period_rule = record (new_rule (codes "period")) { long = Some (codes "period"); value_names = 1; action = Some Append }

-- the words of `losses`: its name, and its option
abbrev pub losses_shape : Shape
losses_shape = (with_rule (new_app (codes "losses")) stream_period_rule).top

-- the losses that the uses of the option say
abbrev pub losses_asked : List Row → Option Meaning
losses_asked rows = Some (losses_of (unwrap_or (all_of (codes "period") rows) []))

-- the subcommand of what is missing
abbrev pub losing : Subcommand
losing = record { shape = losses_shape; has_options = true; task = losses_asked }

-- the subcommands that read a list and take no words of their own
abbrev pub readers : List Subcommand
readers = plain show ∷ plain check ∷ plain rewrite ∷ plain list_blocks ∷ []

-- the subcommands, in the order of the help; a further one is one more line
abbrev pub subcommands : List Subcommand
subcommands = readers ++ (replaying ∷ plain publish ∷ watching ∷ losing ∷ plain import ∷ [])

-- the program with a version, of which a subcommand must be named
abbrev pub bare_program : App
bare_program = record {
  top = record (new_app (codes "goose")).top { has_version = true; disable_help_subcommand = true; subcommand_required = true };
  subs = (new_app (codes "goose")).subs;
}

-- what the subcommand that was met asks for, from its name and its matches
abbrev pub task_asked : Text × List Row → Option Meaning
task_asked met = option_and_then (λ s. s.task met.1) (find (λ s. bytes_eq s.shape.name met.0) subcommands)

-- a word that begins with a hyphen (45), which may be a flag
abbrev pub is_flag : Text → Bool
is_flag [] = false
is_flag (c ∷ cs) = c == 45

-- a value in a word of its own: it begins with no hyphen (45), or is one alone
abbrev pub IsValue : Text → Type 0
IsValue value = (is_flag value ≡ false) ⊎ (value ≡ 45 ∷ [])

-- an option by its name and this value: as two words, or as one with `=` (61) between them
abbrev pub SaysOption : Text → Text → List Text → Type 0
SaysOption name value (word ∷ []) = word ≡ name ++ (61 ∷ value)
SaysOption name value (word ∷ text ∷ []) = (word ≡ name) × (text ≡ value) × IsValue value
SaysOption name value _ = ⊥

-- the words themselves are not what is wrong
abbrev pub IsNoMistake : WordsError → Type 0
IsNoMistake (refused.Words error) = ⊥
IsNoMistake _ = Unit {0}

-- this task is answered, refused memory aside
abbrev pub AnswersTask : Asked → Result Task WordsError → Type 0
AnswersTask asked answer = MatchResult answer (λ t. asked_by t ≡ asked) (λ error. error ≡ refused.Memory)

-- the words are refused by the text that says nothing, refused memory aside
abbrev pub IsUnsaid : Unsaid → WordsError → Type 0
IsUnsaid unsaid (refused.Words error) = ⊥
IsUnsaid unsaid (refused.Block i) = no_block i ≡ unsaid
IsUnsaid unsaid (refused.Period i) = no_period i ≡ unsaid
IsUnsaid unsaid refused.Memory = Unit {0}

-- no task is answered: the words are refused by a text that says nothing, refused memory aside
abbrev pub AnswersUnsaid : Unsaid → Result Task WordsError → Type 0
AnswersUnsaid unsaid answer = MatchResult answer (λ t. ⊥) (IsUnsaid unsaid)
