-- One function gives the lines of each command.
use Rattle.engine_core.specs.EventsText.{exactly_each}
use Rattle.frame_engines.specs.CheckObject.{check_event_in}
use Rattle.frame_engines.specs.ShowObject.{show_allows}
use Rattle.exchange_engines.specs.ReplayText.{entries_in}
use Rattle.joint_laws.specs.LinesBack.{LinesAreHadBack}
use Rattle.joint_laws.proofs.line_lemmas.ShowSaid.{blocks_says, check_says, show_says, watch_says}
use Rattle.joint_laws.proofs.line_lemmas.EntrySaid.{twice_says, replay_says}
use Rattle.joint_laws.proofs.line_lemmas.LineSaid.{back}
use Rattle.joint_laws.proofs.line_lemmas.LossGiven.{losses_says}
use Rattle.joint_laws.proofs.line_lemmas.SpokenLines.{back_none, gives_lines, say_capture_fault, say_list_fault}

pub lines_had_back : {A C F : Type 0} → LinesAreHadBack A C F
lines_had_back {A} {C} {F} = (
  back,
  record {
    of_nothing = back_none;
    show = gives_lines C F show_allows show_says;
    check = gives_lines C F (exactly_each check_event_in) check_says;
    replay = λ manner blocks say given told. gives_lines C F (entries_in blocks say) (replay_says manner blocks say given told);
    watch = λ period id texts wide are. gives_lines C F (exactly_each texts) (watch_says period id texts wide are);
    blocks = λ texts are. gives_lines C F (exactly_each texts) (blocks_says texts are);
    losses = losses_says;
    of_list_fault = λ f wide. (say_list_fault f wide).in_front;
    of_capture_fault = λ f wide. (say_capture_fault f wide).in_front;
    of_twice = λ blocks i given h. (twice_says blocks i given h).in_front;
  },
)
