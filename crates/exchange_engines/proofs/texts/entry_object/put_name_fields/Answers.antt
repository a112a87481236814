use Rattle.std.proofs.Common.{List, ◌++◌, ℕ, ap, sym, append-nil}
use Rattle.std.specs.Prelude.{codes}
use Rattle.text_core.specs.Pieces.{quoted, two_octets}
use Rattle.text_core.proofs.Fronts.{then_appended}
use Rattle.object_core.specs.Objects.{octets_value}
use Rattle.object_core.specs.Onward.{next_field}
use Rattle.exchange_engines.proofs.texts.entry_object.put_name_fields.Goals as goal

pub returns : goal.returns
returns g c =
    let b = c.args.block.now in
    let app_id = next_field (codes "appid", octets_value (two_octets b.app_id)) in
    let name = next_field (codes "gocbRef", quoted b.gocb_ref) in
    then_appended _ _ _ _ app_id name _ c.in_ok-put_field_octets.ensures (rw c.as_slice.ensures at c.put_text.ensures) (ap (λ (l : List ℕ). app_id ++ l) (sym (append-nil name)))
