-- The control line that a view of its text stands for.
use Rattle.std.specs.Prelude.{ℕ, Bool, List, option_map}
use Rattle.std.specs.Borrow.{Bor}
use Rattle.block_core.specs.BlockText.{texts_keep}
use Rattle.script_core.specs.computed.ControlLine.{ControlLine}
use Rattle.script_core.specs.declared.script_control.ControlView.{ControlView}

-- the control line that a view stands for: the same numbers and addresses, and the octets of its texts
abbrev pub control_seen : ControlView → ControlLine
control_seen v = record {
  destination = v.destination;
  source = v.source;
  tag = v.tag;
  app_id = v.app_id;
  gocb_ref = v.gocb_ref.now;
  dat_set = v.dat_set.now;
  go_id = option_map (λ (t : Bor (List ℕ)). t.now) v.go_id;
  numbers = v.numbers;
}

-- whether the texts of a control line have something to keep in memory
abbrev pub view_keeps : ControlView → Bool
view_keeps v = texts_keep v.gocb_ref.now v.dat_set.now (option_map (λ (t : Bor (List ℕ)). t.now) v.go_id)
