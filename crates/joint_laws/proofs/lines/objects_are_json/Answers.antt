use Rattle.joint_laws.proofs.line_lemmas.ShowSaid.{blocks_is_json, check_is_json, show_is_json, watch_is_json}
use Rattle.joint_laws.proofs.line_lemmas.EntrySaid.{twice_is_json, replay_is_json}
use Rattle.joint_laws.proofs.line_lemmas.LossGiven.{losses_is_json}
use Rattle.joint_laws.proofs.lines.objects_are_json.Goals as goal

pub returns : goal.returns
returns g c = record { show = show_is_json; check = check_is_json; replay = replay_is_json; twice = twice_is_json; watch = watch_is_json; blocks = blocks_is_json; losses = losses_is_json }
