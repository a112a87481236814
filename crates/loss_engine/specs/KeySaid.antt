-- The key that stands somewhere as the key that it is.
use Rattle.loss_engine.specs.declared.key.Key.{Key as Borrowed}
use Rattle.loss_engine.specs.declared.key.Key.TheVariants as borrowed
use Rattle.loss_engine.specs.declared.key.SenderKey.{SenderKey}
use Rattle.loss_engine.specs.declared.key.StreamKey.{StreamKey}
use Rattle.loss_engine.specs.Sights.{Key, sender, stream}

-- a sender, wherever its name stands
abbrev pub sender_said : SenderKey → Key
sender_said k = sender k.app_id k.reference.now k.simulation

-- a stream, wherever its names stand
abbrev pub stream_said : StreamKey → Key
stream_said k = stream k.app_id k.source k.id.now

-- a key, wherever its names stand
abbrev pub key_said : Borrowed → Key
key_said (borrowed.Sender k) = sender_said k
key_said (borrowed.Stream k) = stream_said k
