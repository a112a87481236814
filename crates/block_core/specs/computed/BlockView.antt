-- The block that a view of its text stands for.
use Rattle.std.specs.Prelude.{ℕ, List, option_map}
use Rattle.std.specs.Borrow.{Bor}
use Rattle.block_core.specs.declared.block.Block.{Block}
use Rattle.block_core.specs.declared.block_text.BlockView.{BlockView}

-- the control block that a view stands for: the same numbers, and the octets of its texts
abbrev pub block_seen : {A : Type 0} → BlockView → Block A
block_seen v = record {
  app_id = v.app_id;
  gocb_ref = v.gocb_ref.now;
  dat_set = v.dat_set.now;
  go_id = option_map (λ (t : Bor (List ℕ)). t.now) v.go_id;
  conf_rev = v.conf_rev;
  entries = v.entries;
}
