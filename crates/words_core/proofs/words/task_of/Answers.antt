use Rattle.std.proofs.Common.{codes}
use Rattle.words_core.proofs.Switches.{differs}
use Rattle.words_core.proofs.words.task_of.Goals as goal

-- no subcommand has another name
pub returns-in_default : goal.returns-in_default
returns-in_default c =
    let word = c.args.name.now in
    rw (
      differs (codes "show") word c.in_default.not-show,
      differs (codes "check") word c.in_default.not-check,
      differs (codes "rewrite") word c.in_default.not-rewrite,
      differs (codes "blocks") word c.in_default.not-blocks,
      differs (codes "replay") word c.in_default.not-replay,
      differs (codes "publish") word c.in_default.not-publish,
      differs (codes "watch") word c.in_default.not-watch,
      differs (codes "losses") word c.in_default.not-losses,
      differs (codes "import") word c.in_default.not-import,
    ) tt
