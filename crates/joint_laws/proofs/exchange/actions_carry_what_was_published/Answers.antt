use Rattle.joint_laws.proofs.exchange_lemmas.Received.{actions_carry_what_was_published}
use Rattle.joint_laws.proofs.exchange_lemmas.Changes.{published_is_one}
use Rattle.joint_laws.proofs.exchange.actions_carry_what_was_published.Goals as goal

pub returns : goal.returns
returns g c = record { carried = actions_carry_what_was_published; one = published_is_one }
