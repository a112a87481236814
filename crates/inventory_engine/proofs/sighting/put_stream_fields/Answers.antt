use Rattle.std.proofs.Common.{List, ℕ, ◌++◌, ap, sym, append-nil}
use Rattle.std.specs.Prelude.{codes}
use Rattle.std.specs.Fmt.{decimal}
use Rattle.text_core.specs.Pieces.{quoted}
use Rattle.text_core.proofs.Fronts.{then_appended}
use Rattle.object_core.specs.Onward.{next_field}
use Rattle.inventory_engine.proofs.sighting.put_stream_fields.Goals as goal

pub returns : goal.returns
returns g c =
    let conf_rev = next_field (codes "confRev", decimal c.args.conf_rev) in
    let sv_id = next_field (codes "svID", quoted c.args.sv_id.now) in
    then_appended c.put_text.result _ _ _ conf_rev sv_id _ c.in_ok-put_number.ensures c.put_text.ensures (ap (λ (l : List ℕ). conf_rev ++ l) (sym (append-nil sv_id)))
