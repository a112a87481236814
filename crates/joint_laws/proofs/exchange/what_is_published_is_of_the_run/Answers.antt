use Rattle.joint_laws.proofs.exchange_lemmas.Changes.{epochs_stem, what_is_published_is_of_the_run}
use Rattle.joint_laws.proofs.exchange.what_is_published_is_of_the_run.Goals as goal

pub returns : goal.returns
returns g c = record { octets = what_is_published_is_of_the_run; epochs = epochs_stem }
