use Rattle.joint_laws.proofs.text_lemmas.WrittenLines.{blocks_is_lines, check_is_lines, replay_is_lines, show_is_lines, watch_is_lines}
use Rattle.joint_laws.proofs.texts.texts_are_lines.Goals as goal

pub returns : goal.returns
returns g c = record { show = show_is_lines; check = check_is_lines; replay = replay_is_lines; watch = watch_is_lines; blocks = blocks_is_lines }
