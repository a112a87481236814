use Rattle.std.proofs.Common.{refl}
use Rattle.std.specs.Prelude.{codes}
use Rattle.text_core.proofs.Fronts.{appended}
use Rattle.frame_engines.proofs.texts.sampled_object.put_refresh_fields.Goals as goal

pub returns-in-Some : goal.returns-in-Some
returns-in-Some g c = rw c.in-Some.is c.put_time_fields.ensures

pub returns-in-None : goal.returns-in-None
returns-in-None g c =
    rw c.in-None.is (appended c.extend_from_slice.result c.args.out.now.items c.extend_from_slice.new.self.items (codes ",\"refrTm\":null") (codes ",\"refrTm\":null") c.extend_from_slice.ensures.items refl)
