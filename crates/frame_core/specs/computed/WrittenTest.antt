-- Whether a frame has a written form that is not too long, as a test.
use Rattle.std.specs.Prelude.{◌+◌, Bool, length, nat_le, ◌&&◌}
use Rattle.pdu_core.specs.computed.SampledSpellableTest.{is_sv_spellable}
use Rattle.pdu_core.specs.computed.SpellableTest.{is_goose_spellable}
use Rattle.frame_core.specs.Written.{written_apdu, written_frame}
use Rattle.frame_core.specs.declared.frame.Apdu.{Apdu}
use Rattle.frame_core.specs.declared.frame.Apdu.TheVariants as apdus
use Rattle.frame_core.specs.declared.frame.Frame.{Frame}

-- each field of the APDU has a spelling
abbrev pub apdu_is_spelled : {A : Type 0} → Apdu A → Bool
apdu_is_spelled (apdus.Goose p) = is_goose_spellable p
apdu_is_spelled (apdus.Sampled p) = is_sv_spellable p

-- it has a written form that is not too long
abbrev pub fits : {A : Type 0} → Frame A → Bool
fits f = apdu_is_spelled f.apdu && (nat_le (8 + length (written_apdu f.apdu)) 1500 && nat_le (length (written_frame f)) 1600)
