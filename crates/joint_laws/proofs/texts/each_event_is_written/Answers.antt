use Rattle.joint_laws.proofs.text_lemmas.WrittenLines.{fixed_writes_each, replay_writes_each, show_writes_each}
use Rattle.joint_laws.proofs.texts.each_event_is_written.Goals as goal

pub returns : goal.returns
returns g c = record { fixed = fixed_writes_each; show = show_writes_each; replay = replay_writes_each }
