-- What is kept of a sender after one more frame.
use Rattle.std.specs.Prelude.{ℕ, ◌||◌, if◌then◌else◌}
use Rattle.loss_core.specs.declared.sender.Pair.{Pair}
use Rattle.loss_core.specs.declared.sender.Arrival.{Arrival}
use Rattle.loss_core.specs.declared.sender.Told.{Told}
use Rattle.loss_core.specs.Sender.{deadline_of, is_newer, restarts, sets}

-- the newest pair: the frame's, where it is newer or restarts the sender
abbrev pub newest_by : Pair → Arrival → Told → Pair
newest_by newest a t = if is_newer t.standing || restarts t then a.pair else newest

-- the deadline: the frame's, where it sets one
abbrev pub deadline_by : ℕ → Arrival → Told → ℕ
deadline_by deadline a t = if sets t then deadline_of a else deadline
