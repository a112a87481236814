-- What private calls promise of `clap`'s commands, and of what they answer.
use Rattle.std.specs.Prelude.{◌≡◌, Bool, false, Option, Some, None, Result, IfOk, MatchResult, Ok, Err}
use Rattle.std.specs.declared.alloc.AllocError.{AllocError}
use Rattle.clap.specs.Words.{App, app_of, kind_of}
use Rattle.clap.specs.declared.error.kind.ErrorKind.TheVariants as kind
use Rattle.clap.specs.declared.builder.command.Command.{Command}
use Rattle.clap.specs.declared.builder.command.Command.TheViews.{out-Command}
use Rattle.words_core.specs.declared.words.Request.{Request}
use Rattle.words_core.specs.declared.words.WordsError.{WordsError}
use Rattle.words_core.specs.declared.words.WordsError.TheVariants as refused
use Rattle.words_core.specs.RequestLine.{AnswersRequest, RefusesUnsaid, Wish, offered}

abbrev pub offering : Bool → App → App
offering takes a = record a { top = offered takes a.top }

-- the command is this one, where memory for it is granted
abbrev pub IsApp : App → Result Command AllocError → Type 0
IsApp a answer = IfOk answer (λ c. app_of c ≡ a)

-- no argument of it is one of its subcommands too
abbrev pub IsLocal : Result Command AllocError → Type 0
IsLocal answer = IfOk answer (λ c. (out-Command c).has_globals ≡ false)

-- options exclude each other, or memory was refused
abbrev pub IsExclusion : WordsError → Type 0
IsExclusion (refused.Words error) = kind_of error ≡ kind.ArgumentConflict
IsExclusion (refused.Block i) = ⊥
IsExclusion (refused.Period i) = ⊥
IsExclusion refused.Memory = Unit {0}

-- no request is answered: options exclude each other, or memory was refused
abbrev pub Excludes : Result Request WordsError → Type 0
Excludes answer = MatchResult answer (λ r. ⊥) IsExclusion

-- a replay has no control block, or memory was refused
abbrev pub IsUnnamed : WordsError → Type 0
IsUnnamed (refused.Words error) = kind_of error ≡ kind.MissingRequiredArgument
IsUnnamed (refused.Block i) = ⊥
IsUnnamed (refused.Period i) = ⊥
IsUnnamed refused.Memory = Unit {0}

-- what is wished for is answered, refused memory aside
abbrev pub AnswersWish : Wish → Result Request WordsError → Type 0
AnswersWish (Ok wish) answer = AnswersRequest wish.0 wish.1 answer
AnswersWish (Err unsaid) answer = RefusesUnsaid unsaid answer

-- the same, where something is wished for; else options exclude each other
abbrev pub MayGrant : Option Wish → Option (Result Request WordsError) → Type 0
MayGrant None None = Unit {0}
MayGrant None (Some answer) = Excludes answer
MayGrant (Some wish) (Some answer) = AnswersWish wish answer
MayGrant (Some wish) None = ⊥
