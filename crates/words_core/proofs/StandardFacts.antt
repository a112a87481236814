-- Command lines, with the period of a watch at both ends, computed: a wrong definition does not check.
use Rattle.std.proofs.Common.{◌≡◌, ℕ, Bool, true, false, List, [], ◌∷◌, Option, Some, None, Ok, Err, refl}
use Rattle.std.specs.Prelude.{codes, option_and_then}
use Rattle.clap.specs.Words.{Text, subcommand_of, takes}
use Rattle.clap.specs.declared.error.kind.ErrorKind.TheVariants as kind
use Rattle.clap.proofs.OnLiterals.{clap_on_literals}
use Rattle.loss_core.specs.Periods.{Period}
use Rattle.words_core.specs.declared.option_words.Writing.{Writing}
use Rattle.words_core.specs.declared.option_words.Writing.TheVariants.{Lines, Dated, Objects}
use Rattle.words_core.specs.declared.option_words.Options.{Options}
use Rattle.words_core.specs.RequestLine.{Wish, file_of_words, options_in, request_faults, request_line, request_of_words, takes_request, task_of_words, word_faults}
use Rattle.words_core.proofs.Switches.{no_options}
use Rattle.words_core.specs.CommandLine.{Asked, block_at, check, import, list_blocks, losses, no_block, no_period, publish, replay, replay_of, rewrite, show, watch}

-- each command without arguments asks for its task
pub record AreNames : Type 0 where
  pub shows : task_of_words (codes "goose" ∷ codes "show" ∷ []) ≡ Some (Ok show)
  pub checks : task_of_words (codes "goose" ∷ codes "check" ∷ []) ≡ Some (Ok check)
  pub rewrites : task_of_words (codes "goose" ∷ codes "rewrite" ∷ []) ≡ Some (Ok rewrite)
  pub lists_blocks : task_of_words (codes "goose" ∷ codes "blocks" ∷ []) ≡ Some (Ok list_blocks)
  pub publishes : task_of_words (codes "goose" ∷ codes "publish" ∷ []) ≡ Some (Ok publish)
  pub imports : task_of_words (codes "goose" ∷ codes "import" ∷ []) ≡ Some (Ok import)

pub names : AreNames
unfolding clap_on_literals
names = record { shows = refl; checks = refl; rewrites = refl; lists_blocks = refl; publishes = refl; imports = refl }

-- a word that differs by one letter asks for none, and neither does the program's name alone
pub record AreOthers : Type 0 where
  pub other : takes request_line (codes "goose" ∷ codes "shows" ∷ []) ≡ false
  pub nothing : takes request_line (codes "goose" ∷ []) ≡ false

pub others : AreOthers
unfolding clap_on_literals
others = record { other = refl; nothing = refl }

-- a watch over MU01 by this text of a period
abbrev watch_by : Text → List Text
watch_by period = codes "goose" ∷ codes "watch" ∷ codes "--period" ∷ period ∷ codes "--id" ∷ codes "MU01" ∷ []

-- the whole line is taken with a period at either end, and refused just outside
pub record AreLines : Type 0 where
  pub one : takes request_line (watch_by (codes "1")) ≡ false
  pub two : takes request_line (watch_by (codes "2")) ≡ true
  pub most : takes request_line (watch_by (codes "65536")) ≡ true
  pub more : takes request_line (watch_by (codes "65537")) ≡ false

pub lines : AreLines
unfolding clap_on_literals
lines = record { one = refl; two = refl; most = refl; more = refl }

-- and it asks for this watch
pub record AreWatches : Type 0 where
  pub two : task_of_words (watch_by (codes "2")) ≡ Some (Ok (watch 2 (codes "MU01")))
  pub most : task_of_words (watch_by (codes "65536")) ≡ Some (Ok (watch 65536 (codes "MU01")))
  pub joined : task_of_words (codes "goose" ∷ codes "watch" ∷ codes "--id=MU01" ∷ codes "--period=4000" ∷ []) ≡ Some (Ok (watch 4000 (codes "MU01")))

pub watches : AreWatches
unfolding clap_on_literals
watches = record { two = refl; most = refl; joined = refl }

-- `replay` without a BLOCK asks for a replay of no control block, which must have one where a word is asked for
pub record AreUnnamed : Type 0 where
  pub none : task_of_words (codes "goose" ∷ codes "replay" ∷ []) ≡ Some (Ok (replay []))
  pub behind_a_file : task_of_words (codes "goose" ∷ codes "replay" ∷ codes "-r" ∷ codes "a.pcap" ∷ codes "--changes" ∷ []) ≡ Some (Ok (replay []))
  pub taken : takes_request (codes "goose" ∷ codes "replay" ∷ []) ≡ true
  pub missing : word_faults (codes "goose" ∷ codes "replay" ∷ []) ≡ kind.MissingRequiredArgument ∷ []
  pub of_another : word_faults (codes "goose" ∷ codes "show" ∷ []) ≡ []

pub unnamed : AreUnnamed
unfolding clap_on_literals
unnamed = record { none = refl; behind_a_file = refl; taken = refl; missing = refl; of_another = refl }

-- a request with these options
abbrev wishes : Asked → Bool → Bool → Writing → Option Wish
wishes t is_capture skips_other writes = Some (Ok (t, record no_options { is_capture = is_capture; skips_other = skips_other; writes = writes }))

-- the options of words, whatever their task
abbrev options_of : List Text → Option Options
options_of words = option_and_then (λ met. options_in met.1) (subcommand_of request_line words)

-- a replay's own options
abbrev replays : Bool → Bool → Option Options
replays changes_alone simulates = Some (record no_options { changes_alone = changes_alone; simulates = simulates })

-- the options are those that stand behind the name, in any order, before the mark, once, of a command that takes them, and
-- none that another excludes
pub record AreRequests : Type 0 where
  pub none : request_of_words (codes "goose" ∷ codes "show" ∷ []) ≡ wishes show false false Lines
  pub one : request_of_words (codes "goose" ∷ codes "show" ∷ codes "--capture" ∷ []) ≡ wishes show true false Lines
  pub both : request_of_words (codes "goose" ∷ codes "check" ∷ codes "--skip-other" ∷ codes "--capture" ∷ codes "--" ∷ []) ≡ wishes check true true Lines
  pub objects : request_of_words (codes "goose" ∷ codes "show" ∷ codes "--json" ∷ []) ≡ wishes show false false Objects
  pub unwraps : request_of_words (codes "goose" ∷ codes "show" ∷ codes "--unwrap" ∷ codes "--skip-other" ∷ []) ≡ Some (Ok (show, record no_options { skips_other = true; unwraps = true }))
  pub dated : request_of_words (codes "goose" ∷ codes "blocks" ∷ codes "--time" ∷ codes "--capture" ∷ []) ≡ wishes list_blocks true false Dated
  pub between : request_of_words (codes "goose" ∷ codes "watch" ∷ codes "--id=A" ∷ codes "--capture" ∷ codes "--period" ∷ codes "2" ∷ []) ≡ wishes (watch 2 (codes "A")) true false Lines
  pub twice : takes request_line (codes "goose" ∷ codes "show" ∷ codes "--capture" ∷ codes "--capture" ∷ []) ≡ false
  pub with_value : takes request_line (codes "goose" ∷ codes "show" ∷ codes "--capture=1" ∷ []) ≡ false
  pub behind_mark : takes request_line (codes "goose" ∷ codes "show" ∷ codes "--" ∷ codes "--capture" ∷ []) ≡ false
  pub as_text : request_of_words (codes "goose" ∷ codes "replay" ∷ codes "--" ∷ codes "--capture" ∷ []) ≡ Some (Err (no_block 0))
  pub before_value : takes request_line (codes "goose" ∷ codes "watch" ∷ codes "--period" ∷ codes "2" ∷ codes "--id" ∷ codes "--capture" ∷ []) ≡ false
  pub of_another : takes request_line (codes "goose" ∷ codes "rewrite" ∷ codes "--capture" ∷ []) ≡ false
  pub both_forms : request_of_words (codes "goose" ∷ codes "show" ∷ codes "--json" ∷ codes "--time" ∷ []) ≡ None
  pub conflict : request_faults (codes "goose" ∷ codes "show" ∷ codes "--json" ∷ codes "--time" ∷ []) ≡ kind.ArgumentConflict ∷ []
  pub raw : request_of_words (codes "goose" ∷ codes "show" ∷ codes "--raw" ∷ codes "--capture" ∷ []) ≡ Some (Ok (show, record no_options { is_capture = true; is_raw = true }))
  pub raw_beside : request_of_words (codes "goose" ∷ codes "check" ∷ codes "--raw" ∷ codes "--skip-other" ∷ []) ≡ None
  pub raw_also : request_faults (codes "goose" ∷ codes "replay" ∷ codes "--unwrap" ∷ codes "--raw" ∷ []) ≡ kind.ArgumentConflict ∷ []
  pub raw_behind_a_text : request_of_words (codes "goose" ∷ codes "losses" ∷ codes "--unwrap" ∷ codes "--raw" ∷ codes "--period=1" ∷ []) ≡ Some (Err (no_period 0))
  pub changes : options_of (codes "goose" ∷ codes "replay" ∷ codes "--changes" ∷ codes "0001,G,D,,1,1" ∷ codes "--simulation" ∷ []) ≡ replays true true
  pub simulation : options_of (codes "goose" ∷ codes "replay" ∷ codes "0001,G,D,,1,1" ∷ codes "--simulation" ∷ []) ≡ replays false true
  pub changes_twice : takes request_line (codes "goose" ∷ codes "replay" ∷ codes "--changes" ∷ codes "0001,G,D,,1,1" ∷ codes "--changes" ∷ []) ≡ false
  pub changes_of_another : takes request_line (codes "goose" ∷ codes "show" ∷ codes "--changes" ∷ []) ≡ false
  pub simulation_of_another : takes request_line (codes "goose" ∷ codes "losses" ∷ codes "--simulation" ∷ []) ≡ false
  pub no_dates : takes request_line (codes "goose" ∷ codes "publish" ∷ codes "--time" ∷ []) ≡ false

pub requests : AreRequests
unfolding clap_on_literals
requests = assumption

-- the file that words name
abbrev reads : List Text → Option Text
reads more = file_of_words (codes "goose" ∷ codes "show" ∷ more)

-- in each spelling, once, of each command
pub record AreFiles : Type 0 where
  pub none : reads [] ≡ None
  pub short : reads (codes "-r" ∷ codes "a.pcap" ∷ []) ≡ Some (codes "a.pcap")
  pub behind : reads (codes "-ra.pcap" ∷ []) ≡ Some (codes "a.pcap")
  pub equals : reads (codes "-r=a.pcap" ∷ []) ≡ Some (codes "a.pcap")
  pub long : reads (codes "--time" ∷ codes "--read" ∷ codes "a.pcap" ∷ codes "--unwrap" ∷ []) ≡ Some (codes "a.pcap")
  pub long_equals : reads (codes "--read=a.pcap" ∷ []) ≡ Some (codes "a.pcap")
  pub standard_input : reads (codes "-r" ∷ codes "-" ∷ []) ≡ Some (codes "-")
  pub taken : takes request_line (codes "goose" ∷ codes "losses" ∷ codes "-r" ∷ codes "a.pcap" ∷ codes "--period" ∷ codes "2" ∷ []) ≡ true
  pub of_a_list : takes request_line (codes "goose" ∷ codes "rewrite" ∷ codes "-r" ∷ codes "a.list" ∷ []) ≡ true
  pub of_a_script : takes request_line (codes "goose" ∷ codes "publish" ∷ codes "--read=a.script" ∷ []) ≡ true
  pub of_records : takes request_line (codes "goose" ∷ codes "import" ∷ codes "-r" ∷ codes "a.pcap" ∷ []) ≡ true
  pub beside_a_block : file_of_words (codes "goose" ∷ codes "replay" ∷ codes "0001,G,D,,1,1" ∷ codes "-r" ∷ codes "a.pcap" ∷ []) ≡ Some (codes "a.pcap")
  pub twice : takes request_line (codes "goose" ∷ codes "show" ∷ codes "-r" ∷ codes "a" ∷ codes "--read" ∷ codes "a" ∷ []) ≡ false
  pub no_name : takes request_line (codes "goose" ∷ codes "show" ∷ codes "-r" ∷ []) ≡ false
  pub behind_mark : takes request_line (codes "goose" ∷ codes "show" ∷ codes "--" ∷ codes "-r" ∷ codes "a" ∷ []) ≡ false

pub files : AreFiles
unfolding clap_on_literals
files = assumption

-- a period of all streams, and one of those with an svID
abbrev for_all : ℕ → Period
for_all n = record { id = None; number = n }

abbrev for_id : List ℕ → ℕ → Period
for_id id n = record { id = Some id; number = n }

-- what is missing is asked for with periods in range, in their order, or with none, with the other options or without; of a period the
-- last `=` divides, and the first text that says none counts, from 0
pub record AreLosses : Type 0 where
  pub none : request_of_words (codes "goose" ∷ codes "losses" ∷ []) ≡ wishes (losses []) false false Lines
  pub two : request_of_words (codes "goose" ∷ codes "losses" ∷ codes "--capture" ∷ codes "--period" ∷ codes "2" ∷ []) ≡ wishes (losses (for_all 2 ∷ [])) true false Lines
  pub most : request_of_words (codes "goose" ∷ codes "losses" ∷ codes "--period=65536" ∷ codes "--json" ∷ codes "--" ∷ []) ≡ wishes (losses (for_all 65536 ∷ [])) false false Objects
  pub several : request_of_words (codes "goose" ∷ codes "losses" ∷ codes "--period" ∷ codes "MU01=4000" ∷ codes "--capture" ∷ codes "--period=+9" ∷ codes "--period=A=B=2" ∷ [])
      ≡ wishes (losses (for_id (codes "MU01") 4000 ∷ for_all 9 ∷ for_id (codes "A=B") 2 ∷ [])) true false Lines
  pub no_id : request_of_words (codes "goose" ∷ codes "losses" ∷ codes "--period" ∷ codes "=5" ∷ []) ≡ wishes (losses (for_id [] 5 ∷ [])) false false Lines
  pub one : request_of_words (codes "goose" ∷ codes "losses" ∷ codes "--period" ∷ codes "1" ∷ []) ≡ Some (Err (no_period 0))
  pub more : request_of_words (codes "goose" ∷ codes "losses" ∷ codes "--period=2" ∷ codes "--period=A=65537" ∷ []) ≡ Some (Err (no_period 1))
  pub no_number : request_of_words (codes "goose" ∷ codes "losses" ∷ codes "--period=MU01=" ∷ []) ≡ Some (Err (no_period 0))
  pub no_block : takes request_line (codes "goose" ∷ codes "losses" ∷ codes "0001,G,D,,1,1" ∷ []) ≡ false
  pub conflict : request_faults (codes "goose" ∷ codes "losses" ∷ codes "--json" ∷ codes "--time" ∷ []) ≡ kind.ArgumentConflict ∷ []
  pub alone : takes request_line (codes "goose" ∷ codes "losses" ∷ []) ≡ true

pub missing : AreLosses
unfolding clap_on_literals
missing = record { none = refl; two = refl; most = refl; several = refl; no_id = refl; one = refl; more = refl; no_number = refl; no_block = refl; conflict = refl; alone = refl }

-- a block has six fields, and the first text that says none counts, from 0
pub record AreNoBlocks : Type 0 where
  pub five_fields : block_at (codes "0001,G,D,,1") ≡ None
  pub seven_fields : block_at (codes "0001,G,D,,1,2,3") ≡ None
  pub first_bad_block : replay_of (codes "1" ∷ codes "2" ∷ []) ≡ Err (no_block 0)

pub no_blocks : AreNoBlocks
no_blocks = record { five_fields = refl; seven_fields = refl; first_bad_block = refl }
