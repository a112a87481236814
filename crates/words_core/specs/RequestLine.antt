-- The command line whole: the task and the options that its words ask for, and why words may be refused.
use Rattle.std.specs.Prelude.{◌≡◌, ◌&&◌, ◌||◌, ◌⊎◌, ◌==◌, true, false, not, Bool, List, [], ◌∷◌, ◌++◌, map, fold, filter, length}
use Rattle.std.specs.Prelude.{Option, Some, None, Result, Ok, Err, MatchResult, is_some, option_and_then, option_map, codes, if◌then◌else◌}
use Rattle.std.specs.List.{list_all, list_any}
use Rattle.std.specs.Option.{option_map_or}
use Rattle.std.specs.Str.{IsUtf8, bytes_eq}
use Rattle.std.specs.Str.Parse.{IsNumeral, digits_value}
use Rattle.clap.specs.Words.{App, IsAmong, Kinds, Row, Rule, Shape, Text, fault_of, first_of, kind_of, new_rule, one_of, subcommand_of, takes, with_subcommand}
use Rattle.clap.specs.Kinds.{or_else}
use Rattle.clap.specs.declared.error.kind.ErrorKind.TheVariants as kind
use Rattle.words_core.specs.declared.option_words.Options.{Options}
use Rattle.words_core.specs.declared.option_words.Writing.{Writing}
use Rattle.words_core.specs.declared.option_words.Writing.TheVariants.{Lines, Dated, Objects}
use Rattle.words_core.specs.declared.words.Request.{Request}
use Rattle.words_core.specs.declared.words.WordsError.{WordsError}
use Rattle.words_core.specs.declared.words.WordsError.TheVariants as refused
use Rattle.words_core.specs.CommandLine.{Asked, IsUnsaid, IsValue, Meaning, SaysOption, Unsaid, asked_by, bare_program, block_at, is_flag}
use Rattle.words_core.specs.CommandLine.{losses, name_of, names_blocks, no_block, no_period, option_named, replay, subcommands, takes_options, task_asked, watch}
use Rattle.block_core.specs.Period.{IsPeriod}
use Rattle.loss_core.specs.Periods.{Period}

-- the options, which are given or not; a further one is one more constructor, name and line below
pub data Switch : Type 0 where
  capture : Switch
  skip_other : Switch
  unwrap : Switch
  raw : Switch
  time : Switch
  json : Switch
  changes : Switch
  simulation : Switch

-- those of each command that reads events
abbrev pub switches : List Switch
switches = capture ∷ skip_other ∷ unwrap ∷ raw ∷ time ∷ json ∷ []

-- those of `replay`
abbrev pub replay_switches : List Switch
replay_switches = switches ++ changes ∷ simulation ∷ []

-- the name of an option
abbrev pub switch_name : Switch → Text
switch_name capture = codes "capture"
switch_name skip_other = codes "skip-other"
switch_name unwrap = codes "unwrap"
switch_name raw = codes "raw"
switch_name time = codes "time"
switch_name json = codes "json"
switch_name changes = codes "changes"
switch_name simulation = codes "simulation"

-- each line stands behind the date of its event
abbrev pub is_dated : Writing → Bool
is_dated Dated = true
is_dated _ = false

-- each line is an object
abbrev pub is_object : Writing → Bool
is_object Objects = true
is_object _ = false

-- the options by which of them are given, and by how is written what is told
abbrev pub options_given : (Switch → Bool) → Writing → Options
options_given given writes = record {
  is_capture = given capture;
  skips_other = given skip_other;
  unwraps = given unwrap;
  is_raw = given raw;
  writes = writes;
  changes_alone = given changes;
  simulates = given simulation;
}

-- the option is given
abbrev pub is_on : Options → Switch → Bool
is_on options capture = options.is_capture
is_on options skip_other = options.skips_other
is_on options unwrap = options.unwraps
is_on options raw = options.is_raw
is_on options time = is_dated options.writes
is_on options json = is_object options.writes
is_on options changes = options.changes_alone
is_on options simulation = options.simulates

-- the word that gives an option
abbrev pub switch_word : Switch → Text
switch_word s = codes "--" ++ switch_name s

-- the options without a value
abbrev pub switch_rules : List Rule
switch_rules = map (λ o. option_named (switch_name o)) switches

-- the option -r (114), --read: the name of a file
abbrev pub read_rule : Rule
read_rule = record (new_rule (codes "read")) { long = Some (codes "read"); short = Some 114; value_names = 1 }

-- what each subcommand takes beside its own words: the name of a file, and the options where it takes them
abbrev pub option_rules : Bool → List Rule
option_rules true = read_rule ∷ switch_rules
option_rules false = read_rule ∷ []

-- a subcommand's words, and behind them those
abbrev pub offered : Bool → Shape → Shape
offered takes s = record s { rules = s.rules ++ option_rules takes }

-- the program with its subcommands, each with the options where it takes them
abbrev pub request_line : App
request_line = fold with_subcommand bare_program (map (λ s. offered s.has_options s.shape) subcommands)

-- an option of this name is given by the matches of a subcommand
abbrev pub is_set : Text → List Row → Bool
is_set name rows = option_map_or (bytes_eq (codes "true")) (one_of name rows) false

-- how is written what is told, with dates or as objects: both exclude each other
abbrev pub writing_by : Bool → Bool → Option Writing
writing_by false false = Some Lines
writing_by true false = Some Dated
writing_by false true = Some Objects
writing_by true true = None

-- the options that the matches of a subcommand give; none where dates stand beside objects
abbrev pub options_in : List Row → Option Options
options_in rows =
    option_map (options_given (λ o. is_set (switch_name o) rows))
    (writing_by (is_set (switch_name time) rows) (is_set (switch_name json) rows))

-- frames are to be taken as they are, and something is to be done to them too: that excludes each other
abbrev pub contradict : Options → Bool
contradict options = options.is_raw && (options.skips_other || options.unwraps)

-- what the matches of a subcommand ask for: a task with options, or none because of a text that says nothing
abbrev pub Wish : Type 0
Wish = Result (Asked × Options) Unsaid

-- a task with options that do not contradict each other; a text that says nothing is told whatever options there are
abbrev pub with_these : Options → Meaning → Option Wish
with_these options (Ok t) = if contradict options then None else Some (Ok (t, options))
with_these options (Err unsaid) = Some (Err unsaid)

-- what the subcommand that was met asks for, from its name and its matches; nothing where options exclude each other
abbrev pub request_asked : Text × List Row → Option Wish
request_asked met = option_and_then (λ options. option_and_then (with_these options) (task_asked met)) (options_in met.1)

-- what the subcommand that the words name asks for; the first word is the program's name
abbrev pub request_of_words : List Text → Option Wish
request_of_words words = option_and_then request_asked (subcommand_of request_line words)

-- what of it is a task, whatever options stand there
abbrev pub task_of_words : List Text → Option Meaning
task_of_words words = option_and_then task_asked (subcommand_of request_line words)

-- the name of the file that the subcommand that was met is to read
abbrev pub file_asked : Text × List Row → Option Text
file_asked met = first_of (codes "read") met.1

-- the name of the file that is to be read in place of standard input
abbrev pub file_of_words : List Text → Option Text
file_of_words words = option_and_then file_asked (subcommand_of request_line words)

-- each word is octets of UTF-8, as each text is
abbrev pub AreTexts : List Text → Type 0
AreTexts [] = Unit {0}
AreTexts (word ∷ words) = IsUtf8 word × AreTexts words

-- what may be wrong with the words, or asked for in place of a task: the kinds of error of the
-- first step that fails, or that of options which exclude each other, where no step fails
abbrev pub request_faults : List Text → Kinds
request_faults words = or_else (fault_of request_line words) (if is_some (request_of_words words) then [] else kind.ArgumentConflict ∷ [])

-- the words are taken, and no options exclude each other
abbrev pub takes_request : List Text → Bool
takes_request words = takes request_line words && is_some (request_of_words words)

-- the word gives an option of each command that reads events
abbrev pub is_option : Text → Bool
is_option word = list_any (λ o. bytes_eq word (switch_word o)) switches

-- one of the things that stand behind the name of a command: an option without a value, the name of a file, an option of the command's
-- own with its value, or a text
pub data Argument : Type 0 where
  switch : Switch → Argument
  file : Text → Argument
  valued : Text → Text → Argument
  text : Text → Argument

-- the text does not begin with `=` (61), and is not empty
abbrev pub is_attached : Text → Bool
is_attached [] = false
is_attached (c ∷ cs) = not (c == 61)

-- the name of a file behind `-r`: in the same word, there behind `=` (61) or not, or in the next
abbrev pub SaysByLetter : Text → List Text → Type 0
SaysByLetter name (word ∷ []) = (word ≡ codes "-r" ++ (61 ∷ name)) ⊎ ((word ≡ codes "-r" ++ name) × (is_attached name ≡ true))
SaysByLetter name (word ∷ next ∷ []) = (word ≡ codes "-r") × (next ≡ name) × IsValue name
SaysByLetter name _ = ⊥

-- an argument in words
abbrev pub Says : Argument → List Text → Type 0
Says (switch o) words = words ≡ switch_word o ∷ []
Says (file name) words = SaysOption (codes "--read") name words ⊎ SaysByLetter name words
Says (valued name value) words = SaysOption (codes "--" ++ name) value words
Says (text t) words = (words ≡ t ∷ []) × (is_flag t ≡ false)

-- arguments in words, one behind the other
abbrev pub SayAll : List Argument → List Text → Type 0
SayAll [] words = words ≡ []
SayAll (a ∷ more) words = (first : List Text) × (rest : List Text) × (words ≡ first ++ rest) × Says a first × SayAll more rest

-- what an argument is given under, and the text that it gives
abbrev pub argument_name : Argument → Text
argument_name (switch o) = switch_name o
argument_name (file name) = codes "read"
argument_name (valued name value) = name
argument_name (text t) = codes "BLOCK"

abbrev pub argument_text : Argument → Text
argument_text (switch o) = codes "true"
argument_text (file name) = name
argument_text (valued name value) = value
argument_text (text t) = t

-- the texts that are given under a name, in their order
abbrev pub given_as : Text → List Argument → List Text
given_as name arguments = map argument_text (filter (λ a. bytes_eq (argument_name a) name) arguments)

-- a command takes an argument: each the name of a file, those over events their options, and each what is its own
abbrev pub takes_argument : Asked → Argument → Bool
takes_argument t (file name) = true
takes_argument (replay blocks) (switch o) = true
takes_argument t (switch o) = takes_options t && is_option (switch_word o)
takes_argument (replay blocks) (text b) = true
takes_argument (watch period id) (valued name value) = bytes_eq name (codes "period") || bytes_eq name (codes "id")
takes_argument (losses periods) (valued name value) = bytes_eq name (codes "period")
takes_argument t _ = false

-- each option that is given has its word once among arguments, and each other has none
abbrev pub Give : List Argument → Options → Type 0
Give arguments options = (o : Switch) → length (given_as (switch_name o) arguments) ≡ (if is_on options o then 1 else 0)

-- a file is named once, or not at all
abbrev pub named_once : Option Text → List Text
named_once None = []
named_once (Some name) = name ∷ []

-- the text of a period with these digits: the svID before them and `=` (61), where it is that of the streams with an svID
abbrev pub period_text : Option Text → Text → Text
period_text None digits = digits
period_text (Some id) digits = id ++ (61 ∷ digits)

-- a text that says this period by decimal digits
pub record SaysPeriod (p : Period) (said : Text) : Type 0 where
  pub digits : Text
  pub is : said ≡ period_text p.id digits
  pub are_digits : IsNumeral 10 digits
  pub number : digits_value 10 digits ≡ p.number
  pub range : IsPeriod p.number

-- texts that say these periods, in their order
abbrev pub SayPeriods : List Period → List Text → Type 0
SayPeriods [] said = said ≡ []
SayPeriods (p ∷ periods) (first ∷ rest) = SaysPeriod p first × SayPeriods periods rest
SayPeriods (p ∷ periods) [] = ⊥

-- the arguments of its own say which task it is
abbrev pub Means : Asked → List Argument → Type 0
Means (replay blocks) arguments = map block_at (given_as (codes "BLOCK") arguments) ≡ map Some blocks
Means (watch period id) arguments = SayPeriods (record { id = None; number = period } ∷ []) (given_as (codes "period") arguments) × (given_as (codes "id") arguments ≡ id ∷ [])
Means (losses periods) arguments = SayPeriods periods (given_as (codes "period") arguments)
Means t arguments = Unit {0}

-- words that ask for this task with these options over this file: the program's name, the task's name, arguments that the task takes, in
-- any order, and then nothing, or the mark behind which no option follows
pub record AsksWith (words : List Text) (t : Asked) (options : Options) (from : Option Text) : Type 0 where
  pub called : Text
  pub arguments : List Argument
  pub line : List Text
  pub mark : List Text
  pub behind : words ≡ called ∷ name_of t ∷ (line ++ mark)
  pub say : SayAll arguments line
  pub taken : list_all (takes_argument t) arguments ≡ true
  pub give : Give arguments options
  pub agree : contradict options ≡ false
  pub named : given_as (codes "read") arguments ≡ named_once from
  pub means : Means t arguments
  pub end : (mark ≡ []) ⊎ (mark ≡ codes "--" ∷ [])

-- the words ask for this task, with whichever options over whichever file; for a replay by a control block at least
abbrev pub Asks : List Text → Asked → Type 0
Asks words t = (options : Options) × (from : Option Text) × (names_blocks t ≡ true) × AsksWith words t options from

-- the words may be refused so: by one of their faults, by the first text that says no control block, or no period,
-- where they have no fault, or because memory was refused
abbrev pub MayRefuseRequest : List Text → WordsError → Type 0
MayRefuseRequest words (refused.Words error) = IsAmong (kind_of error) (request_faults words)
MayRefuseRequest words (refused.Block i) = (request_faults words ≡ []) × (request_of_words words ≡ Some (Err (no_block i)))
MayRefuseRequest words (refused.Period i) = (request_faults words ≡ []) × (request_of_words words ≡ Some (Err (no_period i)))
MayRefuseRequest words refused.Memory = Unit {0}

-- what is meant is no replay, or one of a control block at least
abbrev pub meaning_names_blocks : Option Meaning → Bool
meaning_names_blocks (Some (Ok t)) = names_blocks t
meaning_names_blocks _ = true

-- what may be wrong with words of which a replay must have a control block: what may be wrong with them otherwise, or that it has none
abbrev pub word_faults : List Text → Kinds
word_faults words = or_else (request_faults words) (if meaning_names_blocks (task_of_words words) then [] else kind.MissingRequiredArgument ∷ [])

-- the words are taken, and a replay has a control block
abbrev pub takes_words : List Text → Bool
takes_words words = takes_request words && meaning_names_blocks (task_of_words words)

-- words of which a replay must have a control block may be refused so
abbrev pub MayRefuseWords : List Text → WordsError → Type 0
MayRefuseWords words (refused.Words error) = IsAmong (kind_of error) (word_faults words)
MayRefuseWords words error = MayRefuseRequest words error

-- this task with these options over this file is answered, refused memory aside
abbrev pub AnswersAsked : Asked → Options → Option Text → Result Request WordsError → Type 0
AnswersAsked asked options from answer =
    MatchResult answer (λ r. (asked_by r.task ≡ asked) × (r.options ≡ options) × (option_map (λ s. s.now) r.file ≡ from)) (λ error. error ≡ refused.Memory)

-- the same, of whichever file
abbrev pub AnswersRequest : Asked → Options → Result Request WordsError → Type 0
AnswersRequest asked options answer = MatchResult answer (λ r. (asked_by r.task ≡ asked) × (r.options ≡ options)) (λ error. error ≡ refused.Memory)

-- no task is answered: the words are refused by a text that says nothing, refused memory aside
abbrev pub RefusesUnsaid : Unsaid → Result Request WordsError → Type 0
RefusesUnsaid unsaid answer = MatchResult answer (λ r. ⊥) (IsUnsaid unsaid)
