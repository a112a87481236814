use Rattle.std.proofs.Common.{List, ℕ, refl, Ok, Err, Result}
use Rattle.pdu_core.specs.Views.{pdu_of}
use Rattle.pdu_core.specs.SampledViews.{sv_of}
use Rattle.pdu_core.specs.declared.goose.GoosePdu.{GoosePdu}
use Rattle.frame_core.specs.declared.frame.Apdu.TheVariants as apdu
use Rattle.object_core.specs.Objects.{AppendsSome}
use Rattle.object_core.proofs.Appending.{exactly}
use Rattle.frame_engines.specs.FrameObject.{goose_fields}
use Rattle.frame_engines.specs.computed.ObjectFields.{AreApduTexts, AreGooseTexts}
use Rattle.frame_engines.proofs.texts.frame_object.put_apdu_fields.Goals as goal

of_goose : {T E : Type 0} (r : Result T E) (old new : List ℕ) (p : GoosePdu (Unit {0})) → AppendsSome r old new (AreGooseTexts p) → AppendsSome r old new (AreApduTexts (apdu.Goose p))
of_goose (Ok t) old new p h = (h.0, h.1, (goose_fields p h.2.0, (h.2.0, h.2.1, refl), h.2.2))
of_goose (Err f) old new p h = h

pub returns-in-Goose : goal.returns-in-Goose
returns-in-Goose g c = rw c.in-Goose.is (of_goose c.put_goose_fields.result _ _ (pdu_of {A = Unit {0}} c.in-Goose.goose) c.put_goose_fields.ensures)

pub returns-in-Sampled : goal.returns-in-Sampled
returns-in-Sampled g c = rw c.in-Sampled.is (exactly c.put_sampled_fields.result _ _ _ (AreApduTexts (apdu.Sampled (sv_of {A = Unit {0}} c.in-Sampled.sampled))) (_, refl, refl) c.put_sampled_fields.ensures)
