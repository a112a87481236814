use Rattle.joint_laws.proofs.text_lemmas.ListedItems.{listed_blocks_fit, listed_blocks_are_apart}
use Rattle.joint_laws.proofs.texts.listed_blocks_replay.Goals as goal

pub returns : goal.returns
returns g c = record { apart = listed_blocks_are_apart; fit = listed_blocks_fit }
